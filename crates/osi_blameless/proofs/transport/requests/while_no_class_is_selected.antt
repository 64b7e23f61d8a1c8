-- What the other side may send a calling end while no class is selected: it answers the CR that waits, and a DC changes nothing.
-- For the law on requests.
use Rattle.osi_blameless.proofs.transport.Vocabulary.{arith, [], ap, Bool, false, inl, inr, length, List, map, None, Option, refl, set}
use Rattle.osi_blameless.proofs.transport.Vocabulary.{Some, subst, suc, sym, true, zero, ℕ, ◌++◌, ◌∙◌, ◌∷◌, ◌≡◌, ◌⊎◌, slice_get-map, nat_le}
use Rattle.osi_blameless.proofs.transport.Vocabulary.{not, position}
use Rattle.osi_blameless.proofs.transport.Vocabulary.{slice_get, confirm, Connect, disconnect, disconnected, error, Value, is_applied}
use Rattle.osi_blameless.proofs.transport.Vocabulary.{reach_of}
use Rattle.osi_blameless.proofs.transport.Vocabulary.{code_named, first_failed, given_again, is_inside, is_offered, begins, is_free}
use Rattle.osi_blameless.proofs.transport.Vocabulary.{is_named, is_over}
use Rattle.osi_blameless.proofs.transport.Vocabulary.{is_refused, is_silent, asked_by, asks_by, at_found, at_place, class_of, closing_phase}
use Rattle.osi_blameless.proofs.transport.Vocabulary.{Disconnects, connection_after, course_after, found, found_on, offer_of, Outcome}
use Rattle.osi_blameless.proofs.transport.Vocabulary.{placed, reached}
use Rattle.osi_blameless.proofs.transport.Vocabulary.{sent_on}
use Rattle.osi_blameless.proofs.transport.Vocabulary.{Traffic as State, takes, unnamed_told, uses_source, Connection, Offer, Course}
use Rattle.osi_blameless.proofs.transport.Vocabulary.{Direction, Left}
use Rattle.osi_blameless.proofs.transport.Vocabulary.{Right, Finding, Broke, Kept, Outside, TooMany, Open, Silent, noted, is_break}
use Rattle.osi_rules.specs.declared.findings.Reach.TheVariants as reach
use Rattle.osi_rules.specs.declared.findings.Rule.TheVariants as rule
use Rattle.osi_blameless.proofs.transport.small_facts_that_many_lemmas_use.{begins_judged, begun_left, begun_right, judged_same, judged_so}
use Rattle.osi_blameless.proofs.transport.small_facts_that_many_lemmas_use.{some_same}
use Rattle.osi_blameless.proofs.transport.names.what_holds_of_one_item.{HoldsOfEach, after_add, after_map, after_set, first_true}
use Rattle.osi_blameless.proofs.transport.names.a_right_unit_is_not_blamed.{first_there}
use Rattle.osi_blameless.proofs.transport.requests.a_refused_request_waits_no_more.{refused_over}
use Rattle.osi_blameless.proofs.transport.names.what_keeps_names_apart.{differ}
pub use Rattle.osi_blameless.proofs.transport.small_facts_that_many_lemmas_use.{set_there}

-- ---- where an item is

shifted : {A B : Type 0} (i p : ℕ) → ((i ≡ p) × A) ⊎ ((i ≡ p → ⊥) × B) → ((suc i ≡ suc p) × A) ⊎ ((suc i ≡ suc p → ⊥) × B)
shifted i p h = grind arith

-- the item that was changed, or another one
pub after_change : {X : Type 0} (xs : List X) (p i : ℕ) (x y : X) → slice_get (set xs p x) i ≡ Some y →
    ((i ≡ p) × (y ≡ x)) ⊎ ((i ≡ p → ⊥) × (slice_get xs i ≡ Some y))
after_change [] p i x y h = absurd (cc)
after_change (z ∷ xs) zero zero x y h = inl (refl, some_same x y h)
after_change (z ∷ xs) zero (suc i) x y h = inr (grind arith, h)
after_change (z ∷ xs) (suc p) zero x y h = inr (grind arith, h)
after_change (z ∷ xs) (suc p) (suc i) x y h = shifted i p (after_change xs p i x y h)

pub set_same : {X : Type 0} (xs : List X) (p : ℕ) (x : X) → slice_get xs p ≡ Some x → set xs p x ≡ xs
set_same [] p x h = absurd (cc)
set_same (z ∷ xs) zero x h = ap (λ y. y ∷ xs) (some_same z x h)
set_same (z ∷ xs) (suc p) x h = ap (λ l. z ∷ l) (set_same xs p x h)

pub added_there : {X : Type 0} (xs : List X) (x : X) → slice_get (xs ++ x ∷ []) (length xs) ≡ Some x
added_there [] x = refl
added_there (z ∷ xs) x = added_there xs x

-- ---- no class is selected, and both sides are judged

abbrev pub calm : Disconnects → Course
calm drs = record {
  class = None;
  class_seen = None;
  disconnects = drs;
  loose = false;
  left_stopped = false;
  right_stopped = false;
  left_erred = false;
  right_erred = false;
}

abbrev pub calm_judge : List Connection → Disconnects → State
calm_judge cs drs = record { connections = cs; course = calm drs }

-- left is still judged
abbrev pub GoesOn : State → Type 0
GoesOn s = s.course.left_stopped ≡ false

-- refused
abbrev pub IsDone : Connection → Type 0
IsDone c = (c.is_judged ≡ true) × (is_refused c.right.phase ≡ true)

abbrev pub IsDc : Value → Type 0
IsDc (disconnected destination source) = Unit {0}
IsDc _ = ⊥

-- a unit for no connection is a DC, and changes nothing
abbrev pub OnlyDc : Value → List Connection → Disconnects → State → Type 0
OnlyDc v cs drs s = IsDc v × (s ≡ calm_judge cs drs)

for_none : (cs : List Connection) (drs : Disconnects) (v : Value) → GoesOn (unnamed_told Right v (calm_judge cs drs)).state →
    OnlyDc v cs drs (unnamed_told Right v (calm_judge cs drs)).state
for_none cs drs v h = grind arith

-- ---- none waits for an answer

pub named_where : (cs : List Connection) (n q : ℕ) → position (is_named Right n) cs ≡ Some q →
    (e : Connection) × (slice_get cs q ≡ Some e) × (is_named Right n e ≡ true)
named_where cs n q h = grind (arith, first_there, first_true)

none_by : (cs : List Connection) (n : ℕ) (o : Option ℕ) → position (is_named Right n) cs ≡ o → HoldsOfEach IsDone cs → o ≡ None
none_by cs n o e h = grind (arith, named_where)

module _ (cs : List Connection) (drs : Disconnects) where
  abbrev s : State
  s = calm_judge cs drs

  -- if none waits, only a DC may come
  pub done_takes : (v : Value) → HoldsOfEach IsDone cs → GoesOn (takes Right v s).state → OnlyDc v cs drs (takes Right v s).state
  done_takes v done h = search (arith, none_by)

-- ---- one waits for an answer

-- the connection at this place, whose CR has this reference and offers this, waits, and all others are refused
pub record Waits (r p : ℕ) (o : Offer) (cs : List Connection) : Type 0 where
  pub c : Connection
  pub at : slice_get cs p ≡ Some c
  pub judged : c.is_judged ≡ true
  pub silent : c.right.phase ≡ Silent
  pub up : c.left.phase ≡ Open
  pub none : c.left.begun ≡ 0
  pub unseen : c.seen_by_left.phase ≡ Silent
  pub offer : c.offer ≡ o
  pub reference : c.left.reference ≡ r
  pub known : is_silent c.seen_by_right.phase ≡ false → c.seen_by_right.reference ≡ r
  pub others : (i : ℕ) (e : Connection) → slice_get cs i ≡ Some e → (i ≡ p → ⊥) → IsDone e

begun_done : (d : Direction) (c : Connection) → IsDone c → IsDone (begins d c)
begun_done d c h = grind arith

begins_offer : (d : Direction) (c : Connection) → (begins d c).offer ≡ c.offer
begins_offer d c = grind arith

begins_unseen : (d : Direction) (c : Connection) → c.right.phase ≡ Silent → c.seen_by_left.phase ≡ Silent →
    (begins d c).seen_by_left.phase ≡ Silent
begins_unseen d c h k = grind arith

waits_named : (r p : ℕ) (o : Offer) (cs : List Connection) (w : Waits r p o cs) (n q : ℕ) → position (is_named Right n) cs ≡ Some q →
    (q ≡ p) × (n ≡ r)
waits_named r p o cs w n q h = search (arith, named_where)

-- a DR or an ER that refuses the connection with this reference
abbrev pub IsRefusal : ℕ → Value → Type 0
IsRefusal r (disconnect destination source reason user) = destination ≡ r
IsRefusal r (error destination cause) = destination ≡ r
IsRefusal r _ = ⊥

-- after the CC for the connection at this place, which may break a rule: it may select a larger size
abbrev pub confirmed_judge : (p destination : ℕ) → Connect → Connection → List Connection → (drs : Disconnects) (erred : Bool) → State
confirmed_judge p destination x c cs drs erred = record {
  connections = set cs p (sent_on Right (confirm destination x) c);
  course = record {
    class = Some (class_of x);
    class_seen = None;
    disconnects = drs;
    loose = false;
    left_stopped = false;
    right_stopped = false;
    left_erred = false;
    right_erred = erred;
  };
}

-- a CC selects a class that is offered, a refusal leaves none that waits, and a DC changes nothing
pub data Answer (r p : ℕ) (o : Offer) (cs : List Connection) (drs : Disconnects) (v : Value) (s : State) : Type 0 where
  confirms : (destination : ℕ) (x : Connect) → v ≡ confirm destination x → (c : Connection) → slice_get cs p ≡ Some c → (erred : Bool) →
      s ≡ confirmed_judge p destination x c cs drs erred → is_offered o None x ≡ true → is_inside x ≡ true → Answer r p o cs drs v s
  refuses : IsRefusal r v → (after : List Connection) (more : Disconnects) → s ≡ calm_judge after more → HoldsOfEach IsDone after →
      Answer r p o cs drs v s
  says_nothing : OnlyDc v cs drs s → Answer r p o cs drs v s

-- the state after a unit for the connection at this place, by what is found of it
abbrev by_finding : (p : ℕ) → Connection → List Connection → Disconnects → Value → Finding → State
by_finding p c cs drs v f = record {
  connections = set cs p (connection_after Right v (is_applied f) (reach_of None f) c);
  course = noted Right f (reached Right (reach_of None f) (course_after Right c v (is_applied f) (calm drs)));
}

-- it is taken, and is an answer that the CR allows; or nothing more is judged
abbrev Confirms : (offered inside : Bool) → Finding → Type 0
Confirms offered inside f =
    ((is_applied f ≡ true) × (reach_of None f ≡ reach.Nothing) × (offered ≡ true) × (inside ≡ true)) ⊎ (reach_of None f ≡ reach.Everything)

confirm_or : (a b i u loose l : Bool) →
    Confirms b i (first_failed ((a, Broke rule.WrongForm) ∷ (b, Broke rule.BadAnswer) ∷ (i, Outside) ∷ (u, given_again loose)
    ∷ (l, Broke rule.LargerSize) ∷ []))
confirm_or a b i u loose l = grind arith

confirmed_by : (p destination : ℕ) (x : Connect) (c : Connection) (cs : List Connection) (drs : Disconnects) (offered inside : Bool)
    (f : Finding) →
    Confirms offered inside f → GoesOn (by_finding p c cs drs (confirm destination x) f) →
    (by_finding p c cs drs (confirm destination x) f ≡ confirmed_judge p destination x c cs drs (is_break f))
    × (offered ≡ true) × (inside ≡ true)
confirmed_by p destination x c cs drs offered inside f k h = grind (arith, differ)

module _ (r p : ℕ) (o : Offer) (cs : List Connection) (drs : Disconnects) (w : Waits r p o cs) where
  abbrev t : State
  t = calm_judge cs drs

  abbrev c : Connection
  c = w.c

  abbrev finding : Value → Finding
  finding v = found_on Right t c v

  silent_so : is_silent c.right.phase ≡ true
  silent_so = ap is_silent w.silent

  to_confirm : (destination : ℕ) (x : Connect) →
      GoesOn (by_finding p c cs drs (confirm destination x) (finding (confirm destination x))) →
      Answer r p o cs drs (confirm destination x) (by_finding p c cs drs (confirm destination x) (finding (confirm destination x)))
  to_confirm destination x h =
      let tests = confirm_or (is_silent c.right.phase) (is_offered c.offer None x) (is_inside x) (not (uses_source Right cs
      (confirm destination x))) false (nat_le (code_named x.parameters.size) c.offer.size_code) in
      let is = judged_same c.is_judged (found Right (calm drs) (uses_source Right cs (confirm destination x)) c (confirm destination x))
      w.judged in
      let so = subst (λ (f : Finding). Confirms (is_offered c.offer None x) (is_inside x) f) (sym is) tests in
      let (after, offered, inside) = confirmed_by p destination x c cs drs (is_offered c.offer None x) (is_inside x)
      (finding (confirm destination x)) so h in
      confirms destination x refl c w.at (is_break (finding (confirm destination x))) after
      (ap (λ (y : Offer). is_offered y None x) (sym w.offer) ∙ offered) inside

  refused_one : (new e : Connection) (i : ℕ) → IsDone new →
      ((i ≡ p) × (e ≡ new)) ⊎ ((i ≡ p → ⊥) × (slice_get cs i ≡ Some e)) → IsDone e
  refused_one new e i h (inl (same, is)) = subst IsDone (sym is) h
  refused_one new e i h (inr (other, at)) = w.others i e at other

  refused_all : (new : Connection) → IsDone new → HoldsOfEach IsDone (set cs p new)
  refused_all new h i e at = refused_one new e i h (after_change cs p i new e at)

  refusing : (v : Value) → IsRefusal r v → (f : Finding) → f ≡ Kept → (more : Disconnects) →
      by_finding p c cs drs v Kept ≡ calm_judge (set cs p (connection_after Right v true reach.Nothing c)) more →
      IsDone (connection_after Right v true reach.Nothing c) → Answer r p o cs drs v (by_finding p c cs drs v f)
  refusing v is f kept more so done =
      refuses is (set cs p (connection_after Right v true reach.Nothing c)) more
      (ap (λ (g : Finding). by_finding p c cs drs v g) kept ∙ so)
      (refused_all (connection_after Right v true reach.Nothing c) done)

  to_disconnect : (destination source reason : ℕ) (user : List ℕ) → destination ≡ r →
      Answer r p o cs drs (disconnect destination source reason user)
      (by_finding p c cs drs (disconnect destination source reason user) (finding (disconnect destination source reason user)))
  to_disconnect destination source reason user e =
      let v = disconnect destination source reason user in
      refusing v e (finding v)
      (grind (arith, judged_so))
      (course_after Right c v true (calm drs)).disconnects refl
      (w.judged, ap (λ (b : Bool). is_refused (closing_phase b c.right).phase) silent_so)

  to_error : (destination cause : ℕ) → destination ≡ r →
      Answer r p o cs drs (error destination cause)
      (by_finding p c cs drs (error destination cause) (finding (error destination cause)))
  to_error destination cause e =
      let v = error destination cause in
      refusing v e (finding v)
      (grind (arith, judged_so))
      drs refl (w.judged, refl)

  to_dc : (destination source : ℕ) →
      GoesOn (by_finding p c cs drs (disconnected destination source) (finding (disconnected destination source))) →
      Answer r p o cs drs (disconnected destination source)
      (by_finding p c cs drs (disconnected destination source) (finding (disconnected destination source)))
  to_dc destination source h = grind (arith, judged_same, set_same, differ)

  abbrev Answers : Value → State → Type 0
  Answers v after = GoesOn after → Answer r p o cs drs v after

  at_named : (v : Value) (n : ℕ) (q : Option ℕ) → position (is_named Right n) cs ≡ q →
      (n ≡ r → Answers v (by_finding p c cs drs v (finding v))) → Answers v (at_place Right v t q).state
  at_named v n None e k h = says_nothing (for_none cs drs v h)
  at_named v n (Some q) e k h =
      let (same, is) = waits_named r p o cs w n q e in
      let there : at_place Right v t (Some q) ≡ at_found Right v t p (Some c) =
      ap (λ (i : ℕ). at_found Right v t i (slice_get cs i)) same ∙ ap (λ (e : Option Connection). at_found Right v t p e) w.at in
      subst (λ (o : Outcome). Answers v o.state) (sym there) (k is) h

  pub waits_takes : (v : Value) → Answers v (takes Right v t).state
  waits_takes (confirm destination x) h =
      at_named (confirm destination x) destination (position (is_named Right destination) cs) refl (λ e. to_confirm destination x) h
  waits_takes (disconnect destination source reason user) h =
      at_named (disconnect destination source reason user) destination (position (is_named Right destination) cs) refl
      (λ e h. to_disconnect destination source reason user e) h
  waits_takes (disconnected destination source) h =
      at_named (disconnected destination source) destination (position (is_named Right destination) cs) refl
      (λ e. to_dc destination source) h
  waits_takes (error destination cause) h =
      at_named (error destination cause) destination (position (is_named Right destination) cs) refl (λ e h. to_error destination cause e) h
  waits_takes _ h = absurd (cc)

-- ---- a packet begins

pub done_begins : (d : Direction) (cs : List Connection) → HoldsOfEach IsDone cs → HoldsOfEach IsDone (map (begins d) cs)
done_begins d cs h i e at = let (x, was, is) = after_map (begins d) cs i e at in subst IsDone (sym is) (begun_done d x (h i x was))

pub waits_begins : (d : Direction) (r p : ℕ) (o : Offer) (cs : List Connection) → Waits r p o cs → Waits r p o (map (begins d) cs)
waits_begins d r p o cs w =
    search (
      arith,
      after_map,
      begun_done,
      slice_get-map (begins d) cs p,
      begins_judged d w.c,
      begun_right d w.c,
      begun_left d w.c,
      begins_unseen d w.c w.silent w.unseen,
      begins_offer d w.c,
    )

-- ---- a CR passes

-- each is over for left
abbrev pub AllOver : List Connection → Type 0
AllOver cs = HoldsOfEach (λ (c : Connection). is_over Left c ≡ true) cs

pub over_begins : (cs : List Connection) → HoldsOfEach IsDone cs → AllOver (map (begins Left) cs)
over_begins cs h i e at = grind (arith, after_map, refused_over)

pub over_still : (cs : List Connection) → AllOver cs → AllOver (map (begins Right) cs)
over_still cs h i e at = grind (arith, after_map (begins Right) cs i e at)

free_where : (cs : List Connection) (q : ℕ) → position is_free cs ≡ Some q → (e : Connection) × (slice_get cs q ≡ Some e)
free_where cs q h = grind (arith, first_there)

asked_waits : (x : Connect) (cs : List Connection) (p : ℕ) → slice_get cs p ≡ Some (asked_by x) →
    ((i : ℕ) (e : Connection) → slice_get cs i ≡ Some e → (i ≡ p → ⊥) → IsDone e) → Waits x.source p (offer_of x) cs
asked_waits x cs p at others = search (arith)

another : (cs : List Connection) (q i : ℕ) (new e : Connection) → HoldsOfEach IsDone cs → (i ≡ q → ⊥) →
    ((i ≡ q) × (e ≡ new)) ⊎ (slice_get cs i ≡ Some e) → IsDone e
another cs q i new e done other (inl (same, is)) = absurd (other same)
another cs q i new e done other (inr at) = done i e at

placed_waits : (x : Connect) (cs : List Connection) (o : Option ℕ) → position is_free cs ≡ o → HoldsOfEach IsDone cs →
    (p : ℕ) × Waits x.source p (offer_of x) (placed (asked_by x) cs o)
placed_waits x cs None e done = (
  length cs,
  asked_waits x (cs ++ asked_by x ∷ []) (length cs) (added_there cs (asked_by x))
      (λ i c at other. another cs (length cs) i (asked_by x) c done other (after_add cs i (asked_by x) c at)),
)
placed_waits x cs (Some q) e done =
    let (old, was) = free_where cs q e in (
      q,
      asked_waits x (set cs q (asked_by x)) q (set_there cs q (asked_by x) old was)
          (λ i c at other. another cs q i (asked_by x) c done other (after_set cs q i (asked_by x) c at)),
    )

-- a CR has passed, and waits for its answer
pub record Asked (x : Connect) (drs : Disconnects) (s : State) : Type 0 where
  pub after : List Connection
  pub is : s ≡ calm_judge after drs
  pub place : ℕ
  pub waits : Waits x.source place (offer_of x) after

pub asks_passed : (x : Connect) (cs : List Connection) (drs : Disconnects) (f : Finding) → (f ≡ Kept) ⊎ (f ≡ TooMany) →
    HoldsOfEach IsDone cs →
    GoesOn (asks_by Left f x (calm_judge cs drs)).state → Asked x drs (asks_by Left f x (calm_judge cs drs)).state
asks_passed x cs drs f (inl e) done h = grind (arith, placed_waits x cs (position is_free cs) refl done)
asks_passed x cs drs f (inr e) done h = grind (arith, differ)
