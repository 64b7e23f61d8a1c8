-- Which connections a carrier has: before a class is selected at most one, which was requested; in class 0 at most one, whose link is
-- of class 0.
-- For the units that arrive for a connection.
use Rattle.osi_blameless.proofs.ends.Vocabulary.{[], ap, Bool, Err, false, if◌then◌else◌, is_some, List, None, not, Ok, Option, refl}
use Rattle.osi_blameless.proofs.ends.Vocabulary.{Result, Some}
use Rattle.osi_blameless.proofs.ends.Vocabulary.{subst, sym, true, ℕ, ◌++◌, ◌+◌, ◌∙◌, ◌∷◌, ◌≡◌, eq-eqb, eqb-true, confirm, disconnect}
use Rattle.osi_blameless.proofs.ends.Vocabulary.{disconnected}
use Rattle.osi_blameless.proofs.ends.Vocabulary.{error, request, Value, Standing, taken, with_tsdu, accept, refuse, selected_by, Selection}
use Rattle.osi_blameless.proofs.ends.Vocabulary.{LinkFault, Class, Two, Zero, orderly_same, orderly_unit, react_over, react_quiet}
use Rattle.osi_blameless.proofs.ends.Vocabulary.{class_error}
use Rattle.osi_blameless.proofs.ends.Vocabulary.{closed_on, link_of, may_connect, open_link, or_else, room_error, sent_on, Happening}
use Rattle.osi_blameless.proofs.ends.Vocabulary.{agreed_size}
use Rattle.osi_blameless.proofs.ends.Vocabulary.{confirmed, opened_link, IsOrderly, pumped, answers, before_class, denies, handed_out}
use Rattle.osi_blameless.proofs.ends.Vocabulary.{has_peer}
use Rattle.osi_blameless.proofs.ends.Vocabulary.{in_class, in_two, in_zero, is_full, leaves, opens_by as opens, settles, taking, to_asked}
use Rattle.osi_blameless.proofs.ends.Vocabulary.{to_connection, to_linked, to_only, to_unknown, put, Rows, value_at, asked, Connection}
use Rattle.osi_blameless.proofs.ends.Vocabulary.{linked}
use Rattle.osi_blameless.proofs.ends.Vocabulary.{State as Carrier, EndReason, OpenError, Ended, NotCaller, arith, Connect, breaks, react}
use Rattle.osi_carrier.specs.Calls.{asks as requests}
use Rattle.osi_blameless.proofs.ends.links.what_a_unit_keeps_a_turn_keeps.{IsKept}
use Rattle.osi_blameless.proofs.ends.reading.what_a_link_gives_can_be_written.{gives_data, taken_zero}

pub data ByClass (c : Carrier) : Type 0 where
  -- it has class 2
  two : c.class ≡ Some Two → ByClass c
  -- it has no connection
  none : c.live ≡ [] → ByClass c
  -- one was requested
  asks : (r : ℕ) → c.class ≡ None → c.is_caller ≡ true → c.live ≡ (r, asked) ∷ [] → ByClass c
  -- one is open in class 0
  zero : (r peer : ℕ) (link : Standing) → c.class ≡ Some Zero → link.flow ≡ None → c.live ≡ (r, linked peer link) ∷ [] → ByClass c

-- ---- rows

pub one_here : (q r : ℕ) (x : Connection) (y : Connection) → value_at q ((r, x) ∷ []) ≡ Some y → (r ≡ q) × (x ≡ y)
one_here q r x y h = grind (arith, eqb-true)

put_one : (r : ℕ) (x y : Connection) → put r x ((r, y) ∷ []) ≡ (r, x) ∷ []
put_one r x y = ap (λ (b : Bool). if b then (r, x) ∷ [] else (r, y) ∷ []) (eq-eqb r r refl)

-- ---- a unit in class 2

module _ (s : Carrier) (is : s.class ≡ Some Two) where
  two_accepts : (c : Connect) (selection : Selection) (held : Option Class) → held ≡ Some Two → ByClass (answers c selection held s).state
  two_accepts c selection held e = grind arith

  two_connection : (r : ℕ) (o : Option Connection) (v : Value) → ByClass (to_connection r o v s).state
  two_connection r o v = grind arith

  two_in : (b : Bool) (v : Value) → ByClass (in_two b v s).state
  two_in b v = search (arith, two_accepts, two_connection)

-- ---- a unit in class 0

module _ (s : Carrier) (is : s.class ≡ Some Zero) where
  zero_breaks : (r peer : ℕ) (fault : LinkFault) (held : Option Class) → held ≡ Some Zero → ByClass (breaks r peer fault held s).state
  zero_breaks r peer fault held e = grind arith

  zero_leaves : (r peer reason : ℕ) (held : Option Class) → held ≡ Some Zero → ByClass (leaves r peer reason held s).state
  zero_leaves r peer reason held e = grind arith

  module _ (r peer : ℕ) (link : Standing) (flow : link.flow ≡ None) (live : s.live ≡ (r, linked peer link) ∷ []) where
    zero_put : (after : Standing) (t : Carrier) → after.flow ≡ None → t.class ≡ s.class →
        t.live ≡ put r (linked peer (pumped after)) s.live → ByClass t
    zero_put after t empty class then_live =
        zero r peer (pumped after) (class ∙ is) (gives_data after empty).1
        (then_live ∙ ap (put r (linked peer (pumped after))) live ∙ put_one r (linked peer (pumped after)) (linked peer link))

    zero_taking : (v : Value) (result : Result Standing LinkFault) → taken link v ≡ result → ByClass (taking r peer result s).state
    zero_taking v (Ok after) e = zero_put (handed_out after) (settles r peer after s).state (taken_zero link after v flow e) refl refl
    zero_taking v (Err fault) e = zero_breaks r peer fault s.class is

    zero_linked : (v : Value) → ByClass (to_linked r peer link v s).state
    zero_linked (disconnect destination source reason user) = zero_leaves r peer reason s.class is
    zero_linked v = zero_taking v (taken link v) refl

    zero_only : (v : Value) → ByClass (to_only s.live v s).state
    zero_only v = subst (λ (rows : Rows Connection). ByClass (to_only rows v s).state) (sym live) (zero_linked v)

  in_zero_by : (b : Bool) (v : Value) → ByClass (to_only s.live v s).state → ByClass (in_zero b v s).state
  in_zero_by true (request c) p = none refl
  in_zero_by false (request c) p = p
  in_zero_by true _ p = p
  in_zero_by false _ p = p

-- ---- a unit before a class is selected

module _ (s : Carrier) (is : s.class ≡ None) where
  first_opens : (r : ℕ) (c : Connect) (class : Option Class) → s.live ≡ (r, asked) ∷ [] → ByClass (opens r c class s).state
  first_opens r c None live = none refl
  first_opens r c (Some Two) live = two refl
  first_opens r c (Some Zero) live =
      let first = opened_link Zero (agreed_size c.parameters.size s.local) s.local c.credit in
      zero r c.source first refl refl (ap (put r (linked c.source first)) live ∙ put_one r (linked c.source first) asked)

  first_accepts : (c : Connect) (selection : Selection) (held : Option Class) → held ≡ None → s.live ≡ [] →
      ByClass (answers c selection held s).state
  first_accepts c (refuse reason) held e live = none live
  first_accepts c (accept Two size) held e live = two refl
  first_accepts c (accept Zero size) (Some class) e live = none live
  first_accepts c (accept Zero size) None e live =
      zero (s.given + 1) c.source (opened_link Zero size s.local c.credit) refl refl
      (ap (λ (rows : Rows Connection). rows ++ (s.given + 1, linked c.source (opened_link Zero size s.local c.credit)) ∷ []) live)

  first_answers : (c : Connect) (in_use full : Bool) → s.live ≡ [] →
      ByClass (if in_use then denies 131 c.source s
      else (if full then denies 1 c.source s else answers c (selected_by c s.local) s.class s)).state
  first_answers c true full live = none live
  first_answers c false true live = none live
  first_answers c false false live = first_accepts c (selected_by c s.local) s.class is live

  -- no connection has this reference
  first_unknown : (v : Value) → ByClass s → ByClass (to_unknown v s).state
  first_unknown (disconnect destination source reason user) (two e) = two e
  first_unknown (disconnect destination source reason user) (none e) = none e
  first_unknown (disconnect destination source reason user) (asks r class caller live) = asks r class caller live
  first_unknown (disconnect destination source reason user) (zero r peer link class flow live) = zero r peer link class flow live
  first_unknown (disconnected destination source) p = p
  first_unknown _ p = none refl

  -- one was requested
  module _ (r : ℕ) (caller : s.is_caller ≡ true) (live : s.live ≡ (r, asked) ∷ []) where
    first_asked : (v : Value) → ByClass (to_asked r v s).state
    first_asked (confirm destination c) = first_opens r c (confirmed c s.local s.class) live
    first_asked (disconnect destination source reason user) = grind (arith, eq-eqb)
    first_asked (error destination cause) = grind (arith, eq-eqb)
    first_asked (disconnected destination source) = asks r is caller live
    first_asked _ = none refl

    first_at : (d : ℕ) (o : Option Connection) (v : Value) → value_at d s.live ≡ o → ByClass (to_connection d o v s).state
    first_at d None v e = first_unknown v (asks r is caller live)
    first_at d (Some x) v e = by x (one_here d r asked x (ap (value_at d) (sym live) ∙ e))
      where
        by : (y : Connection) → (r ≡ d) × (asked ≡ y) → ByClass (to_connection d (Some y) v s).state
        by asked same = subst (λ (n : ℕ). ByClass (to_asked n v s).state) same.0 (first_asked v)
        by _ same = absurd (let k = same.1 in cc)

    first_before : (v : Value) → ByClass (before_class true v s).state
    first_before (confirm d c) = first_at d (value_at d s.live) (confirm d c) refl
    first_before (disconnect d source reason user) = first_at d (value_at d s.live) (disconnect d source reason user) refl
    first_before (error d cause) = first_at d (value_at d s.live) (error d cause) refl
    first_before _ = none refl

  -- there is none
  module _ (live : s.live ≡ []) where
    none_before : (b : Bool) (v : Value) → ByClass (before_class b v s).state
    none_before true (confirm d c) = grind (arith, first_unknown)
    none_before true (disconnect d source reason user) = grind (arith, first_unknown)
    none_before true (error d cause) = grind (arith, first_unknown)
    none_before true _ = none refl
    none_before false (request c) = first_answers c (has_peer c.source s.live) (is_full s) live
    none_before false _ = none refl

-- ---- any unit

-- no carrier has two classes
two_classes : {A : Type 0} (o x y : Option Class) → o ≡ x → o ≡ y → (x ≡ y → A) → A
two_classes o x y a b differ = differ (sym a ∙ b)

class_by : (v : Value) (s : Carrier) (o : Option Class) → s.class ≡ o → ByClass s → ByClass (in_class o v s).state
class_by v s (Some Two) is p = two_in s is s.is_caller v
class_by v s (Some Zero) is (two e) = two_classes s.class (Some Zero) (Some Two) is e (λ differ. absurd (cc))
class_by v s (Some Zero) is (none live) = grind (arith, in_zero_by)
class_by v s (Some Zero) is (asks r class caller live) = two_classes s.class (Some Zero) None is class (λ differ. absurd (cc))
class_by v s (Some Zero) is (zero r peer link class flow live) = search (arith, in_zero_by, zero_only)
class_by v s None is (two e) = two_classes s.class None (Some Two) is e (λ differ. absurd (cc))
class_by v s None is (none live) = none_before s is live s.is_caller v
class_by v s None is (asks r class caller live) =
    subst (λ (b : Bool). ByClass (before_class b v s).state) (sym caller) (first_before s is r caller live v)
class_by v s None is (zero r peer link class flow live) = two_classes s.class None (Some Zero) is class (λ differ. absurd (cc))

pub unit_class : (v : Value) (s : Carrier) → ByClass s → ByClass (react v s)
unit_class v s p = by s.ended refl
  where
    by : (o : Option EndReason) → s.ended ≡ o → ByClass (react v s)
    by None lasts = subst ByClass (sym (react_quiet v s lasts)) (class_by v s s.class refl p)
    by (Some reason) ended = subst ByClass (sym (react_over v s (ap is_some ended))) p

-- ---- a session sends, or closes its connection

pub linked_at : (over : Bool) (o : Option Connection) (peer : ℕ) (link : Standing) →
    (if over then None else link_of o) ≡ Some (peer, link) → o ≡ Some (linked peer link)
linked_at over o peer link h = grind arith

module _ (q : ℕ) (s : Carrier) where
  sent_class : (tsdu : List ℕ) (o : Option (ℕ × Standing)) → open_link q s ≡ o → ByClass s → ByClass (sent_on q tsdu o s)
  sent_class tsdu None e p = p
  sent_class tsdu (Some (peer, link)) e (two is) = two is
  sent_class tsdu (Some (peer, link)) e (none live) = none (ap (put q (linked peer (pumped (with_tsdu link tsdu)))) live)
  sent_class tsdu (Some (peer, link)) e (asks r class caller live) = grind (arith, linked_at, one_here)
  sent_class tsdu (Some (peer, link)) e (zero r first old class flow live) =
      let here = linked_at (is_some s.ended) (value_at q s.live) peer link e in
      let same = one_here q r (linked first old) (linked peer link) (ap (value_at q) (sym live) ∙ here) in
      let links : old ≡ link = (let k = same.1 in cc) in
      let none_flow : link.flow ≡ None = ap (λ (l : Standing). l.flow) (sym links) ∙ flow in
      let then_link = linked peer (pumped (with_tsdu link tsdu)) in
      zero r peer (pumped (with_tsdu link tsdu)) class (gives_data (with_tsdu link tsdu) none_flow).1
      (grind (arith, put_one))

  closed_class : (o : Option (ℕ × Standing)) → open_link q s ≡ o → ByClass s → ByClass (closed_on q 128 o s)
  closed_class None e p = p
  closed_class (Some (peer, link)) e p = grind (arith, two_classes, linked_at, one_here)

untold_class : (events : List Happening) (c : Carrier) → ByClass c → ByClass (record c { events = events })
untold_class events c (two is) = two is
untold_class events c (none live) = none live
untold_class events c (asks r class caller live) = asks r class caller live
untold_class events c (zero r peer link class flow live) = zero r peer link class flow live

same_class : (c : Carrier) (outgoing : List ℕ) → ByClass c → ByClass (record c { outgoing = outgoing })
same_class c outgoing (two is) = two is
same_class c outgoing (none live) = none live
same_class c outgoing (asks r class caller live) = asks r class caller live
same_class c outgoing (zero r peer link class flow live) = zero r peer link class flow live

-- ---- a request

may_by : (caller over : Bool) (by_class room : Option OpenError) →
    (if not caller then Some NotCaller else (if over then Some Ended else or_else by_class room)) ≡ None →
    (caller ≡ true) × (by_class ≡ None)
may_by caller over by_class room h = grind arith

asked_by : (calling called : Option (List ℕ)) (s : Carrier) (o : Option Class) → s.class ≡ o → s.is_caller ≡ true →
    class_error s.class s.live ≡ None → ByClass s → ByClass (requests calling called s)
asked_by calling called s (Some Two) is caller may p = two is
asked_by calling called s (Some Zero) is caller may p = grind arith
asked_by calling called s None is caller may (two e) = two_classes s.class None (Some Two) is e (λ differ. absurd (cc))
asked_by calling called s None is caller may (none live) =
    asks (s.given + 1) is caller (ap (λ (rows : Rows Connection). rows ++ (s.given + 1, asked) ∷ []) live)
asked_by calling called s None is caller may (asks r class side live) = grind arith
asked_by calling called s None is caller may (zero r peer link class flow live) = grind (arith, two_classes)

pub request_class : (calling called : Option (List ℕ)) (s : Carrier) → may_connect s ≡ None → ByClass s →
    ByClass (requests calling called s)
request_class calling called s may p =
    let h = may_by s.is_caller (is_some s.ended) (class_error s.class s.live) (room_error s) may in
    asked_by calling called s s.class refl h.0 h.1 p

pub class_kept : IsKept ByClass
class_kept = record {
  reacts_to = unit_class;
  carries = search (arith, sent_class, closed_class);
  asks_for = request_class;
  untold = untold_class;
  ends_so = λ reason c p. none refl;
}

-- ---- what holds of the carrier of an end

pub record IsSound (c : Carrier) : Type 0 where
  pub orderly : IsOrderly c
  pub by_class : ByClass c

pub sound_unit : (v : Value) (c : Carrier) → IsSound c → IsSound (react v c)
sound_unit v c h = record { orderly = orderly_unit v c h.orderly; by_class = unit_class v c h.by_class }

pub zero_asks_none : (s : Carrier) (r : ℕ) → ByClass s → s.class ≡ Some Zero → value_at r s.live ≡ Some asked → ⊥
zero_asks_none s r h is was = grind (arith, two_classes, one_here)

-- octets were handed over
pub sound_same : (c : Carrier) (outgoing : List ℕ) → IsSound c → IsSound (record c { outgoing = outgoing })
sound_same c outgoing h = record { orderly = orderly_same c outgoing c.events h.orderly; by_class = same_class c outgoing h.by_class }
