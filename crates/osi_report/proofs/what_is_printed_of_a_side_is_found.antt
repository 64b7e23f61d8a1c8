-- A line of a judgement that blames a side says what is found of it. For the law.
use Rattle.std.proofs.Common.{arith, is_some}
use Rattle.osi_report.proofs.Vocabulary.{◌≡◌, ◌∙◌, ◌⊎◌, inl, inr, ap, refl, subst, sym, ℕ, zero, suc, ◌+◌, Bool, false, true, List, []}
use Rattle.osi_report.proofs.Vocabulary.{◌∷◌, ◌++◌, Option, Some, None, cond, find, slice_get, Capture, Direction, Observed, Mark}
use Rattle.osi_report.proofs.Vocabulary.{broke_session, found_as, room_as, First, Layer, IsToBlame, Joined, has_number, numbered, spoken}
use Rattle.osi_report.proofs.Vocabulary.{marks_of, other, IsSession, State, comes_to, Last, Pair, Outcome, Connection, IsJudgement, Judges}
use Rattle.osi_report.proofs.Vocabulary.{unjudged, connection_by, ArePairs, IsFirstLast, IsLastBy, IsPair, IsPairOf, IsReport, Report}
use Rattle.osi_report.proofs.Vocabulary.{SaysSo, Tells, Transport, stray_last}
use Rattle.std.proofs.lemmas.Bool.{and_parts}
use Rattle.std.specs.List.{list_any}
use Rattle.osi_side.proofs.outlined.a_rule_of_outlines_is_one_of_tsdus.{room_of_tsdus}
use Rattle.osi_side.proofs.outlined.alike_tsdus_explain_the_same.{found_of_tsdus}
use Rattle.osi_side.specs.Judging.{HasRoom, IsFound}
use Rattle.osi_side.specs.declared.directions.Direction.TheVariants as side
use Rattle.osi_judge.specs.Courses.{is_break}
use Rattle.osi_judge.specs.Lines.{heard, told}
use Rattle.osi_judge.specs.declared.marks.Layer.TheVariants as layer
use Rattle.osi_report.specs.Blaming.{BlameNowhere, IsBlameless, IsClearOf, blames_last, blames_mark, blames_pair}
use Rattle.osi_report.specs.Quiet.{blames_on, blames_told}
use Rattle.osi_report.specs.Blaming.BlameNowhere.{not_judged, reported}
use Rattle.osi_report.specs.Openings.{unjudged_by}
use Rattle.osi_report.specs.ReportTexts.{is_side}
use Rattle.osi_judge.specs.declared.outcomes.Outcome.TheVariants as what
use Rattle.osi_report.proofs.what_halts_a_side_is_told_of_its_sender.{halts_told}

-- ---- a session

-- a session that broke the protocol or left the profile is to blame
to_blame : (d : Direction) (j : Joined) (w : Observed) → IsSession d j w → broke_session w.finding ≡ true → IsToBlame d j
to_blame d j w h b =
    let found =
    subst (λ (us : List (List ℕ)). IsFound w.begin us (told (spoken d j)) w.finding) h.hears
    (found_as w (told (spoken d j)) h.says) in
    let room =
    subst (λ (us : List (List ℕ)). HasRoom w.begin us (told (spoken d j)) w.finding) h.hears
    (room_as w (told (spoken d j)) h.says) in
    record {
      finding = w.finding;
      found = record {
        found = rw (← h.begins) (found_of_tsdus w.begin (heard (spoken (other d) j)) (told (spoken d j)) w.finding found);
        room = rw (← h.begins) (room_of_tsdus (heard (spoken (other d) j)) w.begin (told (spoken d j)) w.finding room);
      };
      broke = b;
    }

-- and only of such a session a line says so
says_blame : (d : Direction) (j : Joined) (w : Observed) (t : Outcome) → SaysSo d j w t → blames_told t ≡ true →
    broke_session w.finding ≡ true
says_blame d j w (what.Kept n s owes) h b = absurd (cc)
says_blame d j w (what.Broke o by) (i, f, x) b = grind arith
says_blame d j w (what.Left o by) (i, f, x) b = grind arith
says_blame d j w what.TooMany h b = absurd (cc)

on_blame : (dropped : Bool) (reference : Option ℕ) (blamed refused unanswered : Bool) (t : Outcome) →
    blames_on (connection_by dropped reference blamed refused unanswered t) ≡ true → blames_told t ≡ true
on_blame dropped reference blamed refused unanswered t b = grind arith

not_true : (b : Bool) → (b ≡ true → ⊥) → b ≡ false
not_true true h = absurd (h refl)
not_true false h = refl

clear_tells : (d : Direction) (j : Joined) (w x : Observed) (c : Connection) → IsSession d j w → Tells d j w x c → (IsToBlame d j → ⊥) →
    blames_on c ≡ false
clear_tells d j w x c h t clean =
    not_true (blames_on c) (λ b. clean (to_blame d j w h (says_blame d j w t.session t.says
    (on_blame _ _ _ _ _ t.session (ap blames_on (sym t.is) ∙ b)))))

clear_pair : (d : Direction) (j : Joined) (p : Pair) → IsPair j p → (IsToBlame d j → ⊥) → blames_pair d p ≡ false
clear_pair side.Left j p h clean = clear_tells side.Left j h.left h.right p.left h.of_left h.tells_left clean
clear_pair side.Right j p h clean = clear_tells side.Right j h.right h.left p.right h.of_right h.tells_right clean

-- ---- the connection with a number is one of all

abbrev IsIn : List Joined → Joined → Type 0
IsIn js j = (i : ℕ) × (slice_get js i ≡ Some j)

in_by : (b : Bool) (x j : Joined) (o : Option Joined) (js : List Joined) → cond b (Some x) o ≡ Some j → (o ≡ Some j → IsIn js j) →
    IsIn (x ∷ js) j
in_by true x j o js e f = (0, e)
in_by false x j o js e f = let k = f e in (suc k.0, k.1)

found_in : (number : ℕ) (js : List Joined) (j : Joined) → find (has_number number) js ≡ Some j → IsIn js j
found_in number [] j e = absurd (cc)
found_in number (x ∷ js) j e = in_by (has_number number x) x j (find (has_number number) js) js e (found_in number js j)

in_parts : (js ks : List Joined) (i : ℕ) (j : Joined) → slice_get (js ++ ks) i ≡ Some j → IsIn js j ⊎ IsIn ks j
in_parts [] ks i j e = inr (i, e)
in_parts (x ∷ js) ks zero j e = inl (0, e)
in_parts (x ∷ js) ks (suc i) j e = by (in_parts js ks i j e)
  where
    by : IsIn js j ⊎ IsIn ks j → IsIn (x ∷ js) j ⊎ IsIn ks j
    by (inl k) = inl (suc k.0, k.1)
    by (inr k) = inr k

same_side : (a b : Direction) → is_side a b ≡ true → b ≡ a
same_side side.Left side.Left e = refl
same_side side.Right side.Right e = refl
same_side side.Left side.Right e = absurd (cc)
same_side side.Right side.Left e = absurd (cc)

module _ (d : Direction) (s : State) (clean : IsBlameless d s) where
  not_to_blame : (number : ℕ) (j : Joined) → numbered number s.course.sessions ≡ Some j → IsToBlame d j → ⊥
  not_to_blame number j e b = by (in_parts s.course.sessions.live s.course.sessions.done k.0 j k.1)
    where
      k : IsIn (s.course.sessions.live ++ s.course.sessions.done) j
      k = found_in number (s.course.sessions.live ++ s.course.sessions.done) j e

      by : IsIn s.course.sessions.live j ⊎ IsIn s.course.sessions.done j → ⊥
      by (inl p) = clean.sessions p.0 j (inl p.1) b
      by (inr p) = clean.sessions p.0 j (inr p.1) b

  clear_of : (number : ℕ) (o : Option Joined) (p : Pair) → numbered number s.course.sessions ≡ o → IsPairOf o p → blames_pair d p ≡ false
  clear_of number None p e h = grind arith
  clear_of number (Some j) p e h = clear_pair d j p h (not_to_blame number j e)

  clear_pairs : (number : ℕ) (ps : List Pair) → ArePairs s.course.sessions number ps → list_any (blames_pair d) ps ≡ false
  clear_pairs number [] h = refl
  clear_pairs number (p ∷ ps) h =
      rw (clear_of number (numbered number s.course.sessions) p refl h.0, clear_pairs (number + 1) ps h.1) refl

  -- ---- the last line

  stray_blames : (e : Direction) (t : Outcome) (last : Last) → stray_last e t ≡ Some last → blames_last d last ≡ true →
      (e ≡ d) × (blames_told t ≡ true)
  stray_blames e t last is b = grind (arith, same_side)

  first_clear : (l : Layer) (f : First) (last : Last) → IsFirstLast l s f last → blames_last d last ≡ true → ⊥
  first_clear layer.Session f last h b =
      let (e, t) = stray_blames f.direction h.told last h.is b in
      not_to_blame h.number h.connection h.numbered_so
      (subst (λ (x : Direction). IsToBlame x h.connection) e
      (to_blame f.direction h.connection h.session h.is_session
      (says_blame f.direction h.connection h.session h.told h.says t)))
  first_clear layer.Transport f last h b = grind (arith, same_side, clean.transport)

  last_by : (o : Option First) (ps : List Pair) (last : Last) → IsLastBy o s ps last → blames_last d last ≡ true → ⊥
  last_by None ps last h b = grind arith
  last_by (Some f) ps last h b = first_clear f.layer f last h b

-- ---- the report

halts_clear : (d e : Direction) (capture : Capture) (o : Option Mark) → IsBlameless d (comes_to capture) →
    (marks_of e (comes_to capture).course).halted ≡ o → blames_mark d o ≡ false
halts_clear d e capture None clean h = refl
halts_clear d e capture (Some m) clean h =
    not_true (blames_mark d (Some m)) (λ b. by (and_parts (is_side d m.direction) (is_break m.cause) b))
  where
    by : (is_side d m.direction ≡ true) × (is_break m.cause ≡ true) → ⊥
    by (same, breaks) =
        let broke = subst (λ (x : Direction). is_some (marks_of x (comes_to capture).course).broke ≡ true) (same_side d m.direction same)
        (halts_told e m capture h breaks) in
        let never : false ≡ true = subst (λ (o : Option Mark). is_some o ≡ true) clean.transport broke in
        cc

clear_report : (d : Direction) (capture : Capture) (r : Report) → IsBlameless d (comes_to capture) → IsReport (comes_to capture) r →
    IsClearOf d r
clear_report side.Left capture r clean h = record {
  transport = ap (λ (t : Transport). t.broke) h.left ∙ clean.transport;
  left_halts = halts_clear side.Left side.Left capture r.left.halted clean (sym (ap (λ (t : Transport). t.halted) h.left));
  right_halts = halts_clear side.Left side.Right capture r.right.halted clean (sym (ap (λ (t : Transport). t.halted) h.right));
  connections = clear_pairs side.Left (comes_to capture) clean 0 r.pairs h.pairs.each;
  last = not_true (blames_last side.Left r.last) (last_by side.Left (comes_to capture) clean h.last.first r.pairs r.last h.last.says);
}
clear_report side.Right capture r clean h = record {
  transport = ap (λ (t : Transport). t.broke) h.right ∙ clean.transport;
  left_halts = halts_clear side.Right side.Left capture r.left.halted clean (sym (ap (λ (t : Transport). t.halted) h.left));
  right_halts = halts_clear side.Right side.Right capture r.right.halted clean (sym (ap (λ (t : Transport). t.halted) h.right));
  connections = clear_pairs side.Right (comes_to capture) clean 0 r.pairs h.pairs.each;
  last = not_true (blames_last side.Right r.last) (last_by side.Right (comes_to capture) clean h.last.first r.pairs r.last h.last.says);
}

reason_clear : (d : Direction) (empty lacking late : Bool) (why : Last) → unjudged_by empty lacking late ≡ Some why
    → blames_last d why ≡ false
reason_clear d empty lacking late why e = grind arith

judged_clear : (d : Direction) (capture : Capture) (why : Option Last) (lines : List ℕ) (status : ℕ) → unjudged capture ≡ why →
    IsBlameless d (comes_to capture) → Judges why (comes_to capture) lines status → BlameNowhere d lines
judged_clear d capture None lines status e clean h = reported h.report h.told (clear_report d capture h.report clean h.reported)
judged_clear d capture (Some why) lines status e clean h = not_judged _ _ h.pairs why h.told (reason_clear d _ _ _ why e)

pub printed_is_found : (d : Direction) (text lines : List ℕ) (status : ℕ) (j : IsJudgement text lines status) →
    IsBlameless d (comes_to j.capture) → BlameNowhere d lines
printed_is_found d text lines status j clean = judged_clear d j.capture (unjudged j.capture) lines status refl clean j.judged
