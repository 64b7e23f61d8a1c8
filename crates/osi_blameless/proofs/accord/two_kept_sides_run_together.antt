-- Two sides of a connection that kept the protocol run together; and where two sessions make a connection, neither is blamed.
-- For the law that two kept sides are a pair.
use Rattle.osi_blameless.proofs.Vocabulary.{other, IsFound, begin_of, Past, spoken, IsOutcomeOf, SaysSo, HoldsPast, outcome_in}
use Rattle.osi_blameless.proofs.Vocabulary.{session_found, octets_of, after}
use Rattle.osi_blameless.proofs.accord.Vocabulary.{[], ap, arith, List, map, refl, Some, subst, sym, take-append-drop, ℕ, ◌+◌}
use Rattle.osi_blameless.proofs.accord.Vocabulary.{◌-◌, ◌<◌}
use Rattle.osi_blameless.proofs.accord.Vocabulary.{◌^◌, ◌∙◌, ◌∷◌, ◌≡◌, seen_called, seen_calling, front_told, Told, Capture, IsExplained}
use Rattle.osi_blameless.proofs.accord.Vocabulary.{Direction}
use Rattle.osi_blameless.proofs.accord.Vocabulary.{Left, Right, Broke, Kept, begin_within, Connection, found_at, heard, HoldsJoined, Joined}
use Rattle.osi_blameless.proofs.accord.Vocabulary.{line_in}
use Rattle.osi_blameless.proofs.accord.Vocabulary.{Room, Spoken, told, told_of, connection_in, IsAccord, IsFoundOn, IsToldOn, AreTold}
use Rattle.osi_blameless.proofs.accord.Vocabulary.{octets_told}
use Rattle.osi_blameless.proofs.accord.Vocabulary.{told_by, Turn, tsdus_by}
use Rattle.osi_side.specs.declared.findings.Finding.{Finding}
use Rattle.osi_side.specs.declared.findings.Finding.TheVariants as finding
use Rattle.osi_judge.specs.declared.outcomes.Outcome.{Outcome}
use Rattle.osi_judge.specs.declared.outcomes.Outcome.TheVariants as outcome
use Rattle.osi_judge.specs.Lines.{Said}
use Rattle.osi_blameless.proofs.accord.a_pair_explains_both_sides.{both_explained}
use Rattle.osi_blameless.proofs.accord.one_connection_has_a_number.{told_of_one}
use Rattle.osi_blameless.proofs.accord.two_runs_are_one.{accord_of}
use Rattle.osi_blameless.proofs.accord.what_passed_by_then_stands_in_front.{passes}
use Rattle.osi_blameless.proofs.accord.one_connection_has_a_number.{same_joined as same_one}

-- what the other side hears of TSDUs
heard_so : (said : List Said) → map octets_told (map told_of said) ≡ map octets_of said
heard_so [] = refl
heard_so (t ∷ said) = ap (λ (x : List (List ℕ)). t.octets ∷ x) (heard_so said)

heard_as : (s : Spoken) (ts : List Told) → ts ≡ told s → map octets_told ts ≡ heard s
heard_as s ts e = ap (map octets_told) e ∙ heard_so s.said

-- ---- two sides of a connection, with the TSDUs of both in an order

module _ (turns : List Turn) (j : Joined) (a : AreTold turns j) where
  left_explained : IsExplained seen_calling (heard j.right) (told j.left) →
      IsExplained seen_calling (tsdus_by Right turns) (told_by Left turns)
  left_explained e = rw (heard_as j.right (told_by Right turns) a.right, a.left) e

  right_explained : IsExplained seen_called (heard j.left) (told j.right) →
      IsExplained seen_called (tsdus_by Left turns) (told_by Right turns)
  right_explained e = rw (heard_as j.left (told_by Left turns) a.left, a.right) e

  left_told : IsExplained seen_calling (tsdus_by Right turns) (told_by Left turns) → IsExplained seen_calling (heard j.right) (told j.left)
  left_told e = rw (← heard_as j.right (told_by Right turns) a.right, ← a.left) e

  right_told : IsExplained seen_called (tsdus_by Left turns) (told_by Right turns) → IsExplained seen_called (heard j.left) (told j.right)
  right_told e = rw (← heard_as j.left (told_by Left turns) a.left, ← a.right) e

pub accord_on : (room : Room) (number : ℕ) (capture : Capture) → number < 2 ^ 64 - 1 → IsFoundOn Left room number capture Kept →
    IsFoundOn Right room number capture Kept → (turns : List Turn) × IsAccord room number capture turns
accord_on room number capture below l r =
    let p = passes room number below capture in
    let o = told_of_one number p.turns (after capture (begin_within room)).course.sessions l.connection p.has.all l.there in
    let same = same_one r.connection l.connection (sym r.there ∙ l.there) in (
      p.turns,
      record {
        connection = l.connection;
        there = l.there;
        are = o.are;
        order = p.has.parts;
        runs = accord_of seen_calling seen_called p.turns o.order
            (left_explained p.turns l.connection o.are l.found.0)
            (right_explained p.turns l.connection o.are
            (subst (λ (j : Joined). IsExplained seen_called (heard j.left) (told j.right)) same r.found.0));
      },
    )

-- ---- where there is a run of both, neither is blamed

pub not_blamed : (d : Direction) (room : Room) (number : ℕ) (capture : Capture) (turns : List Turn) (i : ℕ) →
    IsAccord room number capture turns → IsFoundOn d room number capture (Broke i) → ⊥
not_blamed Left room number capture turns i a f =
    let same = same_one a.connection f.connection (sym a.there ∙ f.there) in
    let are = subst (AreTold turns) same a.are in
    let e = left_told turns f.connection are (both_explained seen_calling seen_called turns a.runs).0 in
    f.found.0.broke (grind (arith, front_told, take-append-drop (i + 1) (told f.connection.left)))
not_blamed Right room number capture turns i a f =
    let same = same_one a.connection f.connection (sym a.there ∙ f.there) in
    let are = subst (AreTold turns) same a.are in
    let e = right_told turns f.connection are (both_explained seen_calling seen_called turns a.runs).1 in
    f.found.0.broke (grind (arith, front_told, take-append-drop (i + 1) (told f.connection.right)))

-- ---- what a judge tells

pub judge_tells : (d : Direction) (room : Room) (number : ℕ) (capture : Capture) (c : Connection) (j : Joined) →
    connection_in room number capture ≡ Some j → HoldsJoined c j → IsFoundOn d room number capture (line_in d c).side.finding
judge_tells d room number capture c j e h = record { connection = j; there = e; found = found_at d c j h }

-- of a connection that is over

told_on : (d : Direction) (room : Room) (number : ℕ) (capture : Capture) (j : Joined) (o : Outcome) →
    connection_in room number capture ≡ Some j → IsOutcomeOf d j o → IsToldOn d room number capture o
told_on d room number capture j o e h = by o h.says
  where
    found : (f : Finding) → h.session.finding ≡ f → IsFoundOn d room number capture f
    found f is = record {
      connection = j;
      there = e;
      found = subst (IsFound (begin_of d) (heard (spoken (other d) j)) (told (spoken d j))) is (session_found d j h.session h.is_session);
    }

    by : (o : Outcome) → SaysSo d j h.session o → IsToldOn d room number capture o
    by (outcome.Kept tsdus state owes) (is, count, stands) = found Kept is
    by (outcome.Broke offset broke) (i, is, strayed) = (i, found (Broke i) is)
    by (outcome.Left offset left) (i, is, strayed) = (i, found (finding.Left i) is)
    by outcome.TooMany is = found finding.TooMany is

pub past_tells : (d : Direction) (room : Room) (number : ℕ) (capture : Capture) (p : Past) (j : Joined) →
    connection_in room number capture ≡ Some j → HoldsPast p j → IsToldOn d room number capture (outcome_in d p)
past_tells Left room number capture p j e h = told_on Left room number capture j (outcome_in Left p) e h.left
past_tells Right room number capture p j e h = told_on Right room number capture j (outcome_in Right p) e h.right
