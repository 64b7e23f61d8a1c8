use Rattle.osi_blameless.proofs.Vocabulary.{◌≡◌, List, subst, ℕ, Capture, Direction, Left, Right, comes_to, BlameNowhere, IsBlameless}
use Rattle.osi_blameless.proofs.Vocabulary.{IsJudgement, IsCaptureOf}
use Rattle.osi_blameless.proofs.laws.printed.nothing_printed_blames_an_end.Goals as goal

abbrev Printed : Type 0
Printed = (d : Direction) (text lines : List ℕ) (status : ℕ) (j : IsJudgement text lines status) → IsBlameless d (comes_to j.capture) →
    BlameNowhere d lines

abbrev OneText : Type 0
OneText = (text : List ℕ) (some others : Capture) → IsCaptureOf text some → IsCaptureOf text others → some ≡ others

-- of a text of this capture
printed_of : Printed → OneText → (d : Direction) (capture : Capture) (text lines : List ℕ) (status : ℕ) → IsBlameless d (comes_to capture) →
    IsCaptureOf text capture → IsJudgement text lines status → BlameNowhere d lines
printed_of printed one d capture text lines status clean reads j =
    printed d text lines status j
    (subst (λ (x : Capture). IsBlameless d (comes_to x)) (one text capture j.capture reads j.reads) clean)

pub returns : goal.returns
returns c = record {
  called = λ local begin end turns capture text lines status fresh run octets seen few reads j.
      printed_of c.what_is_printed_of_a_side_is_found.ensures c.a_text_has_one_finding.ensures.text Right capture text lines status
      (record {
        transport = c.the_transport_of_an_end_is_blamed_nowhere.ensures.called local begin end turns capture fresh run octets seen;
        sessions = λ i joined.
            c.no_session_of_an_end_is_to_blame_after_a_break.ensures.called local begin end turns capture i joined fresh run octets seen
            few;
      }) reads j;
  calling = λ local begin end turns capture text lines status fresh run octets seen few reads j.
      printed_of c.what_is_printed_of_a_side_is_found.ensures c.a_text_has_one_finding.ensures.text Left capture text lines status
      (record {
        transport = c.the_transport_of_an_end_is_blamed_nowhere.ensures.calling local begin end turns capture fresh run octets seen;
        sessions = λ i joined.
            c.no_session_of_an_end_is_to_blame_after_a_break.ensures.calling local begin end turns capture i joined fresh run octets seen
            few;
      }) reads j;
}
