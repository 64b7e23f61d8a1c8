-- Two ends that match a list of steps keep the promises of the machine.
-- For packets, carries, the promises, pairs in the same state and the laws of `promises`.
use Rattle.osi_machine.specs.AsTables as tables
use Rattle.osi_machine.specs.Floor.{State}
use Rattle.osi_machine.specs.Machine as entries
use Rattle.osi_machine.specs.Runs as runs
use Rattle.osi_machine.specs.Views.{Told, told_of}
use Rattle.osi_pair.proofs.Vocabulary.{end_of, Seat, IsSeated, ◌≡◌, refl, sym, ◌∙◌, ap, subst, ℕ, ◌<◌, ◌≤◌, Bool, true, false, ◌&&◌, List}
use Rattle.osi_pair.proofs.Vocabulary.{[], ◌∷◌, map, Option, Some, None, option_map, is_some, IsSome, inl, inr, ◌⊎◌, if◌then◌else◌, arith}
use Rattle.osi_pair.proofs.Vocabulary.{none_held, or_parts, list_any, absent, beyond, value_at, Connection, EndReason, terms_of, IsTableRun}
use Rattle.osi_pair.proofs.Vocabulary.{OfEachLine, HoldNoneTwice, AreAgreed, IsSeenInBoth, TellsNoFault, LosesAsItEnds, AreOffered}
use Rattle.osi_pair.proofs.Vocabulary.{offers_in, Token, has, Ending, IsLegal, Step, connection_at, is_loss, loses, Tables, run, start}
use Rattle.osi_pair.proofs.Vocabulary.{Listener, Standing, held_by, numbers_of, Holding, session_at, session_in, TwoEnds, end_at, Entry}
use Rattle.osi_pair.proofs.Vocabulary.{journal_in, IsLegalJournal, AllWereAskedFor, OfEachConnection, HaveOneHolder, AgreeUnlessDuplex}
use Rattle.osi_pair.proofs.Vocabulary.{IsShownAsAsked, IsSeenThere, ConfirmedIsSeen, is_fault, HasNoFault, EndsForFewReasons, ending_of}
use Rattle.osi_pair.proofs.Vocabulary.{LoseAsTheyEnd, side_in, entry_in, ending_in, terms_in, HasLine, IsInOrder, StandsAt, joining, Side}
use Rattle.osi_pair.proofs.Vocabulary.{Left, Right}

-- ---- plain facts

first_same : {A : Type 0} (x y : A) (xs ys : List A) → x ∷ xs ≡ y ∷ ys → x ≡ y
first_same x y xs ys e = cc

rest_same : {A : Type 0} (x y : A) (xs ys : List A) → x ∷ xs ≡ y ∷ ys → xs ≡ ys
rest_same x y xs ys e = cc

-- ---- the journal

words_by : (js : List entries.Entry) (es : List Entry) → map Some js ≡ map entry_in es → journal_in es ≡ js
words_by [] [] e = refl
words_by (j ∷ js) (x ∷ es) e =
    grind (arith, first_same, rest_same, words_by js es (rest_same (Some j) (entry_in x) (map Some js) (map entry_in es) e))
words_by js es e = grind arith

-- ---- the tables that two ends match

abbrev pub tables_at : TwoEnds → List Step → Tables
tables_at p steps = run (start (terms_in (terms_of p.left.end.carrier.local p.right.end.carrier.local))) steps

pub is_run : (p : TwoEnds) (steps : List Step) → StandsAt p steps → IsTableRun (tables_at p steps)
is_run p steps h = grind arith

-- ---- faults

-- an entry whose counterpart in the tables is no fault; an end with a fault has no counterpart
entry_fine : (word : entries.Entry) (x : Entry) → Some word ≡ entry_in x → runs.is_fault word ≡ false → is_fault x ≡ false
entry_fine word x e h = grind arith

journal_fine : (words : List entries.Entry) (journal : List Entry) → map Some words ≡ map entry_in journal →
    list_any runs.is_fault words ≡ false → list_any is_fault journal ≡ false
journal_fine words [] e h = refl
journal_fine [] (x ∷ journal) e h = absurd (cc)
journal_fine (word ∷ words) (x ∷ journal) e h =
    let parts = or_parts (runs.is_fault word) (list_any runs.is_fault words) h in
    let rest = journal_fine words journal (rest_same (Some word) (entry_in x) (map Some words) (map entry_in journal) e) parts.1 in
    rw ((entry_fine word x (first_same (Some word) (entry_in x) (map Some words) (map entry_in journal) e) parts.0), rest) refl

-- ---- what an end reports of a connection

-- a reference that was not given has no session
no_session : (r : ℕ) (h : Holding) → value_at r h.end.carrier.live ≡ None → session_at r h.end ≡ None
no_session r h e = ap (λ (o : Option Connection). if is_some o then session_in (value_at r h.end.lines) else None) e

pub outside_by : (r most : ℕ) (h : Holding) (ended : Option EndReason) → h.end.carrier.ended ≡ ended →
    (IsSome h.end.carrier.ended → h.end.carrier.live ≡ []) → (h.end.carrier.ended ≡ None → IsInOrder h.end) → h.end.carrier.given ≤ most →
    (r ≡ 0) ⊎ (most < r) → value_at r h.end.carrier.live ≡ None
outside_by r most h ended e over order given out = grind (arith, absent, beyond)

-- an end reports what the tables have, or nothing
data Says (n : ℕ) (h : Holding) (s : Standing) : Type 0 where
  of_none : session_at n h.end ≡ None → Says n h s
  of_some : (joined : Option (List ℕ)) → session_at n h.end ≡ Some (joining joined s) → Says n h s

says_by : (n : ℕ) (h : Holding) (s : Standing) (joined : Option (List ℕ)) (live : Bool) → is_some (value_at n h.end.carrier.live) ≡ live →
    (is_some (value_at n h.end.carrier.live) ≡ true → session_at n h.end ≡ Some (joining joined s)) → Says n h s
says_by n h s joined true e seated = of_some joined (seated e)
says_by n h s joined false e seated = of_none (ap (λ (b : Bool). if b then session_in (value_at n h.end.lines) else None) e)

seat_says : (n : ℕ) (h : Holding) (seat : Seat) → IsSeated n h seat → Says n h seat.session
seat_says n h seat i = says_by n h seat.session i.joined (is_some (value_at n h.end.carrier.live)) refl i.live

-- ---- tokens

none_holds : (o other : Option Listener) (t : Token) → o ≡ None → (has (held_by o) t && has (held_by other) t) ≡ false
none_holds o other t e = grind (arith, none_held)

one_holds : (n : ℕ) (left right : Holding) (s q : Standing) (t : Token) → Says n left s → Says n right q →
    (has s.state.held t && has q.state.held t) ≡ false →
    (has (held_by (session_at n left.end)) t && has (held_by (session_at n right.end)) t) ≡ false
one_holds n left right s q t h6 other none = grind arith

-- a reference that was given, or none
pub within : (r most : ℕ) → ((r ≡ 0) ⊎ (most < r)) ⊎ ((0 < r) × (r ≤ most))
within r most = grind arith

-- ---- confirmed points

-- V(A) as an end reports it is that of the tables, or 0
no_more : (n : ℕ) (h : Holding) (s : Standing) → Says n h s → (numbers_of (session_at n h.end)).confirmed ≤ s.state.numbers.confirmed
no_more n h s h3 = grind arith

fewer_seen : (low high : ℕ) (own other : Told) → low ≤ high → IsSeenThere high own other → IsSeenThere low own other
fewer_seen low high own other le seen before n kind octets begins below asking = seen before n kind octets begins (omega arith) asking

-- ---- the end of an end

same_end : (t : Option Ending) (o : Option EndReason) → option_map Some t ≡ option_map ending_in o → t ≡ ending_of o
same_end t o h = grind arith

-- ---- two ends that match a list of steps

module _ (p : TwoEnds) (steps : List Step) (h : StandsAt p steps) where
  reached : IsTableRun (tables_at p steps)
  reached = is_run p steps h

  journal_at : journal_in p.journal ≡ (tables_at p steps).journal
  journal_at = words_by (tables_at p steps).journal p.journal h.stands.journal

  pub legal_journal : ((t : Tables) (h : IsTableRun t) → IsLegal h.agreed t.journal) → IsLegalJournal p
  unfolding is_run
  legal_journal legal = assumption (
    ap (λ (l : List entries.Entry). map Some l) journal_at ∙ h.stands.journal,
    subst
        (λ (l : List entries.Entry). IsLegal (terms_in (terms_of p.left.end.carrier.local p.right.end.carrier.local)) l)
        (sym journal_at) (legal (tables_at p steps) (is_run p steps h)),
  )

  -- the line of a reference, in the tables that match the journal of two ends
  pub line_at : (r : ℕ) → 0 < r → r ≤ p.left.end.carrier.given → HasLine r p h.now (tables_at p steps)
  line_at r above within = h.stands.lines r above (let same = h.stands.given in omega arith)

  pub all_asked : ((t : Tables) → IsTableRun t → AreOffered t) → AllWereAskedFor p
  all_asked offered r above within = search (arith, line_at r above within, reached, journal_at)

  -- a statement about each connection of the tables holds for the two ends
  of_each : (P : State → State → Told → Told → Type 0) (Q : ℕ → Told → Told → Type 0) →
      ((r : ℕ) (line : HasLine r p h.now (tables_at p steps)) (left right : Told) →
      P line.line.own.session.state line.line.peer.session.state left right → Q r left right) →
      ((t : Tables) → IsTableRun t → OfEachLine P t) → OfEachConnection Q p
  of_each P Q follows all r o above within found =
      let line = line_at r above within in
      subst (λ (l : List entries.Entry). Q r (told_of (side_in Left) r o l) (told_of (side_in Right) r o l)) (sym journal_at)
      (follows r line (told_of (side_in Left) r o (tables_at p steps).journal) (told_of (side_in Right) r o (tables_at p steps).journal)
      (all (tables_at p steps) reached r line.line o line.found
      (ap (λ (l : List entries.Entry). connection_at r (offers_in l)) (sym journal_at) ∙ found)))

  pub agreement : ((t : Tables) → IsTableRun t → OfEachLine AreAgreed t) → OfEachConnection AgreeUnlessDuplex p
  agreement = of_each AreAgreed AgreeUnlessDuplex (λ r line left right said. said)

  pub duplex : ((t : Tables) → IsTableRun t → OfEachLine tables.IsShownAsAsked t) → OfEachConnection IsShownAsAsked p
  duplex = of_each tables.IsShownAsAsked IsShownAsAsked (λ r line left right said. said)

  pub no_fault : ((t : Tables) → IsTableRun t → TellsNoFault t) → HasNoFault p
  no_fault all = journal_fine (tables_at p steps).journal p.journal h.stands.journal (all (tables_at p steps) reached)

  outside : (side : Side) (r : ℕ) → (r ≡ 0) ⊎ (p.left.end.carrier.given < r) → session_at r (end_at side p).end ≡ None
  outside side r out = grind (arith, no_session, outside_by)

  pub one_holder : ((t : Tables) → IsTableRun t → OfEachLine HoldNoneTwice t) → ((t : Tables) → IsTableRun t → AreOffered t) →
      HaveOneHolder p
  one_holder holder offered r t = by (within r p.left.end.carrier.given)
    where
      by : ((r ≡ 0) ⊎ (p.left.end.carrier.given < r)) ⊎ ((0 < r) × (r ≤ p.left.end.carrier.given)) →
          (has (held_by (session_at r p.left.end)) t && has (held_by (session_at r p.right.end)) t) ≡ false
      by (inl out) = none_holds (session_at r p.left.end) (session_at r p.right.end) t (outside Left r out)
      by (inr given) =
          let line = line_at r given.0 given.1 in
          let offer = offered (tables_at p steps) reached r line.line line.found in
          one_holds r p.left p.right line.line.own.session line.line.peer.session t
          (seat_says r p.left line.line.own line.is.left) (seat_says r p.right line.line.peer line.is.right)
          (holder (tables_at p steps) reached r line.line offer.offer line.found offer.found t)

  pub confirmed_is_seen : ((t : Tables) → IsTableRun t → OfEachLine IsSeenInBoth t) → OfEachConnection (ConfirmedIsSeen p) p
  confirmed_is_seen = of_each IsSeenInBoth (ConfirmedIsSeen p) follows
    where
      follows : (r : ℕ) (line : HasLine r p h.now (tables_at p steps)) (left right : Told) →
          IsSeenInBoth line.line.own.session.state line.line.peer.session.state left right → ConfirmedIsSeen p r left right
      follows r line left right seen =
          let own = no_more r p.left line.line.own.session (seat_says r p.left line.line.own line.is.left) in
          let peer = no_more r p.right line.line.peer.session (seat_says r p.right line.line.peer line.is.right) in
          search (arith, fewer_seen)

  pub few_reasons : EndsForFewReasons p
  few_reasons side why is = search arith

  pub losses : ((t : Tables) → IsTableRun t → LosesAsItEnds t) → LoseAsTheyEnd p
  losses lost side shown =
      let same : end_of (side_in side) (tables_at p steps) ≡ ending_of (end_at side p).end.carrier.ended =
      grind (arith, same_end, h.stands.left_end, h.stands.right_end) in
      ap (λ (o : Option Ending). loses o) (sym same) ∙ lost (tables_at p steps) reached (side_in side)
      (ap (λ (l : List entries.Entry). list_any (is_loss (side_in side)) l) (sym journal_at) ∙ shown)
