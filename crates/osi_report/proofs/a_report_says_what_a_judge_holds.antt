-- What is reported of connections is what a judge holds of them: for the functions of `reports`.
use Rattle.osi_report.proofs.Vocabulary.{◌≡◌, ◌∙◌, ap, sym, subst, ℕ, ◌+◌, Bool, true, false, not, ◌&&◌, List, [], ◌∷◌, ◌++◌, length}
use Rattle.osi_report.proofs.Vocabulary.{Option, Some, None, IfSome, arith, Direction, Right, Finding, other, Observed}
use Rattle.osi_report.proofs.Vocabulary.{broke_session, Joined, Sessions, reference_of, numbered, IsMarkOf, IsToBlame}
use Rattle.osi_report.proofs.Vocabulary.{marks_of, line_in, Found, HoldsEither, HoldsJoined, HoldsFound, IsHeard, First, Mark, State}
use Rattle.osi_report.proofs.Vocabulary.{broken, is_over, Last, Pair, Outcome, Connection, connection_by, IsOutcomeOf, SaysSo, is_opened}
use Rattle.osi_report.proofs.Vocabulary.{is_refused_in, Tells}
use Rattle.osi_report.proofs.Vocabulary.{IsPair, IsPairOf, ArePairs, no_pair, all_keep, carried, is_clear, kept_last, stray_last}
use Rattle.osi_report.proofs.Vocabulary.{IsStrayLast, IsMarkLast, IsReached, some_over, Judge, HoldsState, IsJudged, first_in}
use Rattle.osi_report.proofs.Vocabulary.{first_mark_within}
use Rattle.osi_side.specs.declared.directions.Direction.TheVariants.{Left}
use Rattle.osi_judge.specs.declared.connections.Connection.{Connection as Joint}
use Rattle.osi_judge.specs.declared.marks.Layer.TheVariants as layer
use Rattle.osi_report.specs.declared.reports.Last.TheVariants as ending
use Rattle.osi_report.specs.declared.reports.Transport.{Transport as Carried}
use Rattle.osi_judge.specs.declared.outcomes.Outcome.TheVariants as outcome
use Rattle.osi_judge.proofs.what_is_told_of_a_connection.{outcome_at}
use Rattle.osi_judge.proofs.who_is_to_blame.{session_blamed}
use Rattle.osi_report.specs.Reports.{IsSummary}
use Rattle.osi_report.specs.declared.reports.Summary.{Summary}
use Rattle.osi_judge.proofs.the_session_of_a_side_is_known.{session_at}
use Rattle.osi_report.specs.Telling.{is_dropped, is_kept, is_left, keeps, leaves, strays}

-- ---- the session of a side, by what is told of it

found_keeps : (d : Direction) (j : Joined) (w : Observed) (o : Outcome) → SaysSo d j w o → is_kept w.finding ≡ keeps o
found_keeps d j w (outcome.Kept n state owes) h = ap is_kept h.0
found_keeps d j w (outcome.Broke at by) (i, e, h) = ap is_kept e
found_keeps d j w (outcome.Left at by) (i, e, h) = ap is_kept e
found_keeps d j w outcome.TooMany h = ap is_kept h

pub found_leaves : (d : Direction) (j : Joined) (w : Observed) (o : Outcome) → SaysSo d j w o → is_left w.finding ≡ leaves o
found_leaves d j w (outcome.Kept n state owes) h = ap is_left h.0
found_leaves d j w (outcome.Broke at by) (i, e, h) = ap is_left e
found_leaves d j w (outcome.Left at by) (i, e, h) = ap is_left e
found_leaves d j w outcome.TooMany h = ap is_left h

pub found_strays : (d : Direction) (j : Joined) (w : Observed) (o : Outcome) → SaysSo d j w o → broke_session w.finding ≡ strays o
found_strays d j w (outcome.Kept n state owes) h = ap broke_session h.0
found_strays d j w (outcome.Broke at by) (i, e, h) = ap broke_session e
found_strays d j w (outcome.Left at by) (i, e, h) = ap broke_session e
found_strays d j w outcome.TooMany h = ap broke_session h

-- ---- the connection of a side

pub tells_as : (d : Direction) (j : Joined) (own beside : Observed) (t u : Outcome) (r : Option ℕ) (dropped blamed refused opened : Bool)
    → SaysSo d j own t → SaysSo (other d) j beside u → (leaves u && not (leaves t)) ≡ dropped → r ≡ reference_of d j
    → blamed ≡ strays t → refused ≡ is_refused_in j → opened ≡ is_opened j
    → Tells d j own beside (connection_by dropped r blamed refused (not opened) t)
tells_as d j own beside t u r dropped blamed refused opened h k e g b f o = record {
  session = t;
  says = h;
  is = λ i. connection_by (sym drops i) (g i) ((b ∙ sym (found_strays d j own t h)) i) (f i) (not (o i)) t;
}
  where
    drops : is_dropped own.finding beside.finding ≡ dropped
    drops = (λ i. found_leaves (other d) j beside u k i && not (found_leaves d j own t h i)) ∙ e

-- ---- a connection

pub pair_as : (j : Joined) (s : Summary) (left right : Connection) (keep over : Bool) → IsSummary j s
    → ((d : Direction) (x : Joined) (w v : Observed) → SaysSo d x w s.left → SaysSo (other d) x v s.right → s.calling ≡ reference_of d x
    → s.is_refused ≡ is_refused_in x → s.is_opened ≡ is_opened x → Tells d x w v left)
    → ((d : Direction) (x : Joined) (w v : Observed) → SaysSo d x w s.right → SaysSo (other d) x v s.left → s.called ≡ reference_of d x
    → s.is_refused ≡ is_refused_in x → s.is_opened ≡ is_opened x → Tells d x w v right)
    → keep ≡ (keeps s.left && keeps s.right) → over ≡ s.is_over
    → IsPair j (record { left = left; right = right; keeps = keep; over = over })
pair_as j s left right keep over h tells_left tells_right k o = record {
  left = h.left.session;
  right = h.right.session;
  of_left = h.left.is_session;
  of_right = h.right.is_session;
  tells_left = tells_left Left j h.left.session h.right.session h.left.says h.right.says h.calling h.refused h.opened;
  tells_right = tells_right Right j h.right.session h.left.session h.right.says h.left.says h.called h.refused h.opened;
  keeps = k ∙ (λ i. sym (found_keeps Left j h.left.session s.left h.left.says) i
      && sym (found_keeps Right j h.right.session s.right h.right.says) i);
  over = o ∙ h.over;
}

-- of one that has a place, once each session has heard all
pub summary_as : (j : Joined) (c : Joint) (s : Summary) → HoldsJoined c j → IsHeard c → SaysSo Left j (line_in Left c).side s.left
    → SaysSo Right j (line_in Right c).side s.right → s.calling ≡ reference_of Left j → s.called ≡ reference_of Right j
    → s.is_opened ≡ is_opened j → s.is_refused ≡ is_refused_in j → s.is_over ≡ is_over j.room → IsSummary j s
summary_as j c s h k left right calling called opened refused over = record {
  left = outcome_at Left c j s.left h k left;
  right = outcome_at Right c j s.right h k right;
  calling = calling;
  called = called;
  opened = opened;
  refused = refused;
  over = over;
}

-- ---- one connection after the other

pub more_pairs : (ss : Sessions) (n : ℕ) (ps : List Pair) (p : Pair) → ArePairs ss n ps → IsPairOf (numbered (n + length ps) ss) p
    → ArePairs ss n (ps ++ p ∷ [])
more_pairs ss n [] p h k = (grind arith, tt)
more_pairs ss n (q ∷ ps) p h k = grind (arith, more_pairs ss (n + 1) ps p h.1 (grind arith))

-- ---- what is found of a number

-- the connection that has it
pub joined_at : (o : Option Joined) (f : Found) → HoldsFound (Some f) o → (j : Joined) × (o ≡ Some j) × HoldsEither f j
joined_at o f h = search arith

pub pair_missing : (o : Option Joined) (p : Pair) → HoldsFound None o → p ≡ no_pair → IsPairOf o p
pair_missing o p h k = grind arith

-- ---- the last line

-- a first break of transport is that of its side
pub first_mark : (s : State) (t : Judge) (f : First) → IsReached s → HoldsState t s → IsJudged t → first_in t ≡ Some f
    → f.layer ≡ layer.Transport → IsMarkOf f.direction f s.course
first_mark s t f r h judged e is =
    subst (λ (x : State). IsMarkOf f.direction f x.course) (sym r.is)
    (first_mark_within r.room r.capture t f (subst (HoldsState t) r.is h) judged e is)

-- the break that is told as the first is of transport
pub mark_told : (s : State) (d : Direction) (f : First) (m : Mark) → Some m ≡ (marks_of d s.course).broke → f.direction ≡ d
    → IsMarkOf d f s.course → IsMarkLast s f (ending.Transport d m)
mark_told s d f m e w (k, b, is) = grind arith

pub no_mark : (o : Option Mark) (k : Mark) → None ≡ o → o ≡ Some k → ⊥
no_mark o k e f = let n : None ≡ Some k = e ∙ f in cc

pub kept_is : (s : State) (ps : List Pair) (left right : Carried) (all over : Bool) (last : Last) → left ≡ carried Left s
    → right ≡ carried Right s
    → all ≡ all_keep ps → over ≡ some_over ps → last ≡ kept_last (is_clear left && is_clear right) all over
    → last ≡ kept_last (is_clear (carried Left s) && is_clear (carried Right s)) (all_keep ps) (some_over ps)
kept_is s ps left right all over last l r a o e = e ∙ (λ i. kept_last (is_clear (l i) && is_clear (r i)) (a i) (o i))

-- it is of a session, which strayed
pub stray_held : (s : State) (d : Direction) (c : Joint) (t : Outcome) (last : Last) (f : First) (number : ℕ) (j : Joined)
    → numbered number s.course.sessions ≡ Some j → f.direction ≡ d → f.connection ≡ Some number → HoldsJoined c j → IsHeard c
    → SaysSo d j (line_in d c).side t → stray_last d t ≡ Some last → IsStrayLast s f last
stray_held s d c t last f number j e w n h k says is = grind (arith, session_at)

-- on one that is over
pub past_or_blamed : (d : Direction) (j : Joined) (t : Outcome) → strays t ≡ false → IsOutcomeOf d j t → IsToBlame d j → ⊥
past_or_blamed d j t e h b =
    let k : strays t ≡ true = sym (found_strays d j h.session t h.says) ∙ session_blamed d j h.session h.is_session b in cc

-- a session is to blame, and is found
pub kept_or_blamed : (d : Direction) (c : Joint) (j : Joined) (f : Finding) → f ≡ (line_in d c).side.finding → broke_session f ≡ false
    → HoldsJoined c j → IsToBlame d j → ⊥
kept_or_blamed d c j f e kept h b = grind (arith, broken)

pub blamed_at : (d : Direction) (o : Option Joined) (j : Joined) → o ≡ Some j → (i : Joined) × (o ≡ Some i) × IsToBlame d i
    → IsToBlame d j
blamed_at d o j e (i, f, b) = subst (IsToBlame d) (grind arith) b

pub blamed_nowhere : (d : Direction) (o : Option Joined) → HoldsFound None o → (i : Joined) × (o ≡ Some i) × IsToBlame d i → ⊥
blamed_nowhere d o h (i, f, b) = absurd (subst (HoldsFound None) f h)

pub if_some : {T : Type 0} {P Q : T → Type 0} (o : Option T) → IfSome o P → ((x : T) → P x → Q x) → IfSome o Q
if_some o h f = grind arith
