-- The units of a packet: reading is sound and complete, and what is left after the first unit.
use Rattle.osi_tpdu.proofs.Vocabulary.{is_ok, IsTrue, IsOk, AllByRecursion, false≢true, eqb-true, eqb-false, eq-eqb, ne_eqb, cases_Bool}
use Rattle.osi_tpdu.proofs.Vocabulary.{append-nil, take_all, drop_all, drop_at, length-append, take-append-drop, length-drop}
use Rattle.osi_tpdu.proofs.Vocabulary.{length-take-le, IsOctets, octets_right, octets_drop, TpduFault, Value, may_be_followed, Spells}
use Rattle.osi_tpdu.proofs.Vocabulary.{◌>>=◌, header_at, value_of, unit_at, AreUnits, AreLeads, IsFirstFault, Follows, units_at, units_of}
use Rattle.osi_tpdu.proofs.Vocabulary.{Fits, can_be_read, rest_at, ◌≡◌, ℕ, zero, suc, ◌+◌, ◌<◌, ◌≤◌, Bool, true, false, cond, eqb, List, []}
use Rattle.osi_tpdu.proofs.Vocabulary.{◌∷◌, ◌++◌, length, take, drop, Result, Ok, Err, refl, sym, ap, subst, ◌∙◌, append_assoc, arith, inl}
use Rattle.osi_tpdu.proofs.Vocabulary.{inr, add-zero, zero-add, result_unwrap_or}
use Rattle.osi_tpdu.proofs.the_written_form_spells_its_value.{spelled_fits}
use Rattle.osi_tpdu.proofs.the_steps_of_reading.{bind_ok, chosen, ok_is}
use Rattle.osi_tpdu.proofs.one_unit_is_read.{unit_takes, unit_found, unit_spelled, stands_alone}
use Rattle.osi_tpdu.proofs.the_first_fault_of_a_unit.{unit_fault_found, unit_fault_only}

abbrev Read : Type 0
Read = Result (List Value) TpduFault

abbrev ok : List Value → Read
ok vs = Ok vs

abbrev with_first : Value → Read → Read
with_first v others = others >>= λ vs. Ok (v ∷ vs)

-- ---- sound: what is read is spelled by the octets

lead_by_rest : (v : Value) (rest : List ℕ) (may : Bool) → may_be_followed v ≡ may → 1 ≤ length rest → Follows v rest →
    IsTrue (may_be_followed v)
lead_by_rest v rest may may2 some f = grind arith

cons_units : (v : Value) (vs : List Value) (x y : List ℕ) (b : List ℕ) → b ≡ x ++ y → IsTrue (may_be_followed v) → Spells v x →
    AreUnits vs y → AreUnits (v ∷ vs) b
cons_units v vs x y b e lead s us = grind arith

units_at_found : (n at : ℕ) (b : List ℕ) (vs : List Value) → IsOctets b → units_at n at b ≡ Ok vs → AreUnits vs b
unfolding units_at
units_at_found zero at b vs octets e = absurd cc
units_at_found (suc n) at b vs octets e =
    let p = bind_ok (unit_at at b) _ vs e in
    let v = p.0.0 in
    let k = p.0.1 in
    let s = unit_found at b p.0 octets p.1 in
    elim (chosen (eqb k (length b)) (Ok (v ∷ [])) (with_first v (units_at n (at + k) (drop k b))) (Ok vs) p.2) [
      | inl t ↦ grind (arith, take_all, eqb-true, ok_is)
      | inr t ↦
          let q = bind_ok (units_at n (at + k) (drop k b)) (λ us. Ok (v ∷ us)) vs t.1 in
          let differ : k ≡ length b → ⊥ = eqb-false k (length b) t.0 in
          let some : 1 ≤ length (drop k b) = omega (arith, length-drop k b) in
          let rest = units_at_found n (at + k) (drop k b) q.0 (octets_drop k b octets) q.1 in
          let lead = lead_by_rest v (drop k b) (may_be_followed v) refl some s.0.followed in
          subst (λ (us : List Value). AreUnits us b) (ok_is (v ∷ q.0) vs q.2)
          (cons_units v q.0 (take k b) (drop k b) b (sym (take-append-drop k b)) lead s.0.spelled rest)
    ]

pub units_found : (b : List ℕ) (vs : List Value) → IsOctets b → units_of b ≡ Ok vs → AreUnits vs b
unfolding units_of
units_found b vs octets e = units_at_found (suc (length b)) 0 b vs octets e

-- ---- complete: what the octets spell is read

spelling_least : (v : Value) (x : List ℕ) → Spells v x → 1 ≤ length x
spelling_least v x s = subst (λ (y : List ℕ). 1 ≤ length y) (sym s.whole) (omega arith)

units_least : (vs : List Value) (b : List ℕ) → AreUnits vs b → 1 ≤ length b
units_least [] b us = absurd us
units_least (v ∷ []) b us = spelling_least v b us
units_least (v ∷ w ∷ vs) b us = grind (arith, length-append, spelling_least)

units_at_only : (n at : ℕ) (vs : List Value) (b : List ℕ) → length b < n → AreUnits vs b → units_at n at b ≡ Ok vs
unfolding units_at
units_at_only zero at vs b le us = absurd (omega arith)
units_at_only (suc n) at [] b le us = absurd us
units_at_only (suc n) at (v ∷ []) b le us =
    grind (arith, unit_spelled at v b [] us (stands_alone v), stands_alone v, append-nil b, eq-eqb (length b) (length b) refl)
units_at_only (suc n) at (v ∷ w ∷ vs) b le us =
    let x = us.1 in
    let y = us.2 in
    let least = units_least (w ∷ vs) y us.5 in
    let least' = spelling_least v x us.4 in
    let len = length-append x y in
    let read : unit_at at b ≡ Ok (v, length x) =
    ap (unit_at at) us.3 ∙ unit_spelled at v x y us.4 (grind (arith, false≢true)) in
    let more : eqb (length x) (length b) ≡ false = ne_eqb _ _ (λ e. omega (arith, ap length us.3)) in
    let behind : drop (length x) b ≡ y = ap (drop (length x)) us.3 ∙ drop_at x y (length x) refl in
    let others = units_at_only n (at + length x) (w ∷ vs) y (omega (arith, ap length us.3)) us.5 in
    rw (read, more, behind, others) refl

pub units_only : (b : List ℕ) (vs : List Value) → AreUnits vs b → units_of b ≡ Ok vs
unfolding units_of
units_only b vs us = units_at_only (suc (length b)) 0 vs b (omega arith) us

-- ---- fuel

enough_by : (n m at : ℕ) (b : List ℕ) (first : Result (Value × ℕ) TpduFault) → unit_at at b ≡ first → length b < suc n → length b < suc m
    → ((k : ℕ) → 1 ≤ k → k ≤ length b → units_at n (at + k) (drop k b) ≡ units_at m (at + k) (drop k b)) →
    units_at (suc n) at b ≡ units_at (suc m) at b
unfolding units_at
enough_by n m at b first e ln lm same = grind (arith, unit_takes)

pub units_enough : (n m at : ℕ) (b : List ℕ) → length b < n → length b < m → units_at n at b ≡ units_at m at b
units_enough zero m at b ln lm = absurd (omega arith)
units_enough (suc n) zero at b ln lm = absurd (omega arith)
units_enough (suc n) (suc m) at b ln lm =
    enough_by n m at b (unit_at at b) refl ln lm
    (λ k some most. units_enough n m (at + k) (drop k b) (omega (arith, length-drop k b)) (omega (arith, length-drop k b)))

-- ---- what is left

-- both are values, or the same fault
abbrev pub SameEnd : Read → Read → Type 0
SameEnd (Ok vs) whole = IsOk whole
SameEnd (Err f) whole = whole ≡ Err f

-- reading from here on ends as reading the packet does
pub record Ends (at : ℕ) (rest : List ℕ) (whole : Read) : Type 0 where
  pub fuel : ℕ
  pub enough : length rest < fuel
  pub same : SameEnd (units_at fuel at rest) whole

pub Ends-first : (b : List ℕ) → Ends 0 b (units_of b)
unfolding units_of
Ends-first b = record { fuel = suc (length b); enough = omega arith; same = (grind arith) }

Ends-more-with : (n at : ℕ) (rest : List ℕ) (whole : Read) (x : Value × ℕ) → length rest < n → SameEnd (units_at n at rest) whole →
    unit_at at rest ≡ Ok x → x.1 < length rest → 1 ≤ x.1
    → Ends (at + x.1) (drop x.1 rest) whole
unfolding units_at
Ends-more-with zero at rest whole x enough same read more some = absurd (omega arith)
Ends-more-with (suc n) at rest whole x enough same read more some =
    record {
      fuel = n;
      enough = omega (arith, length-drop x.1 rest);
      same = grind arith;
    }

pub Ends-more : (at : ℕ) (rest : List ℕ) (whole : Read) (x : Value × ℕ) → Ends at rest whole → unit_at at rest ≡ Ok x → x.1 < length rest →
    1 ≤ x.1 → Ends (at + x.1) (drop x.1 rest) whole
Ends-more at rest whole x s read more some = Ends-more-with s.fuel at rest whole x s.enough s.same read more some

Ends-bad-with : (n at : ℕ) (rest : List ℕ) (whole : Read) (f : TpduFault) → length rest < n → SameEnd (units_at n at rest) whole →
    unit_at at rest ≡ Err f → whole ≡ Err f
unfolding units_at
Ends-bad-with n at rest whole f enough same read = grind arith

pub Ends-bad : (at : ℕ) (rest : List ℕ) (whole : Read) (f : TpduFault) → Ends at rest whole → unit_at at rest ≡ Err f → whole ≡ Err f
Ends-bad at rest whole f s read = Ends-bad-with s.fuel at rest whole f s.enough s.same read

Ends-last-with : (n at : ℕ) (rest : List ℕ) (whole : Read) (x : Value × ℕ) → length rest < n → SameEnd (units_at n at rest) whole →
    unit_at at rest ≡ Ok x → x.1 ≡ length rest → IsOk whole
unfolding units_at
Ends-last-with n at rest whole x enough same read all = grind (arith, eq-eqb)

pub Ends-last : (at : ℕ) (rest : List ℕ) (whole : Read) (x : Value × ℕ) → Ends at rest whole → unit_at at rest ≡ Ok x → x.1 ≡ length rest →
    IsOk whole
Ends-last at rest whole x s read all = Ends-last-with s.fuel at rest whole x s.enough s.same read all

-- ---- the first of what is left

-- what reading the first unit leaves
pub record Gives-one (at : ℕ) (rest : List ℕ) (x : Value × ℕ) : Type 0 where
  pub readable : can_be_read (at + x.1) (drop x.1 rest) ≡ true
  pub given : rest_at at rest ≡ x.0 ∷ rest_at (at + x.1) (drop x.1 rest)

pub nothing_left : (at : ℕ) (rest : List ℕ) → rest ≡ [] → (can_be_read at rest ≡ true) × (rest_at at rest ≡ [])
unfolding can_be_read rest_at
nothing_left at rest e = (ap (can_be_read at) e, ap (rest_at at) e)

some_left : (at : ℕ) (rest : List ℕ) → 1 ≤ length rest → (can_be_read at rest ≡ is_ok (units_at (suc (length rest)) at rest)) ×
    (rest_at at rest ≡ result_unwrap_or (units_at (suc (length rest)) at rest) [])
unfolding can_be_read rest_at
some_left at rest some = grind arith

others_left : (v : Value) (others : Read) → is_ok (with_first v others) ≡ true →
    (is_ok others ≡ true) × (result_unwrap_or (with_first v others) [] ≡ v ∷ result_unwrap_or others [])
others_left v others e = grind arith

pub first_left : (at : ℕ) (rest : List ℕ) (x : Value × ℕ) → 1 ≤ length rest → can_be_read at rest ≡ true → unit_at at rest ≡ Ok x →
    Gives-one at rest x
unfolding units_at
first_left at rest x some can read =
    let here = some_left at rest some in
    let t = unit_takes at rest x read in
    elim (cases_Bool (eqb x.1 (length rest))) [
      | inl all ↦
          let nothing = nothing_left (at + x.1) (drop x.1 rest) (drop_all x.1 rest (omega (arith, eqb-true x.1 (length rest) all))) in
          record { readable = nothing.0; given = here.1 ∙ rw (read, all, nothing.1) refl }
      | inr not_all ↦
          let differ : x.1 ≡ length rest → ⊥ = eqb-false x.1 (length rest) not_all in
          let shorter = length-drop x.1 rest in
          grind (arith, units_enough, units_at, others_left, some_left (at + x.1) (drop x.1 rest) (omega arith))
    ]

-- a unit that can't be read is no part of octets that can
pub none_bad : (at : ℕ) (rest : List ℕ) (f : TpduFault) → 1 ≤ length rest → can_be_read at rest ≡ true → unit_at at rest ≡ Err f → ⊥
unfolding units_at
none_bad at rest f some can read = grind (arith, some_left, false≢true)

packet_by : (b : List ℕ) (r : Read) → units_at (suc (length b)) 0 b ≡ r → 1 ≤ length b → IsOk r →
    (can_be_read 0 b ≡ true) × (r ≡ Ok (rest_at 0 b))
packet_by b (Ok vs) e some h = grind (arith, some_left 0 b some)
packet_by b (Err f) e some h = absurd (false≢true h)

-- a packet that was read can be read, and all its units are left
pub packet_left : (b : List ℕ) → IsOk (units_of b) → (can_be_read 0 b ≡ true) × (units_of b ≡ Ok (rest_at 0 b))
unfolding units_of units_at unit_at header_at
packet_left [] h = absurd (false≢true h)
packet_left (o ∷ b) h = packet_by (o ∷ b) (units_at (suc (length (o ∷ b))) 0 (o ∷ b)) refl (omega arith) h

-- octets with a fault spell no units
pub no_units : (b : List ℕ) (f : TpduFault) (vs : List Value) → units_of b ≡ Err f → AreUnits vs b → ⊥
no_units b f vs bad us = grind (arith, units_of, units_only)

-- octets that were read spell no other units
pub one_reading : (b : List ℕ) (vs ws : List Value) → units_of b ≡ Ok vs → AreUnits ws b → vs ≡ ws
one_reading b vs ws read us = grind (arith, units_of, units_only)

-- ---- units after others

units_behind : (leads : List Value) (front x : List ℕ) (v : Value) → AreLeads leads front → Spells v x →
    AreUnits (leads ++ v ∷ []) (front ++ x)
units_behind [] front x v none s = subst (λ (f : List ℕ). Spells v (f ++ x)) (sym none) s
units_behind (w ∷ leads) front x v l s = grind (arith, append_assoc, cons_units, units_behind leads l.2 x v l.5 s)

-- a spelling is read, whatever units come before it
pub behind_read : (leads : List Value) (front x : List ℕ) (v : Value) → AreLeads leads front → Spells v x →
    units_of (front ++ x) ≡ Ok (leads ++ v ∷ [])
behind_read leads front x v l s = units_only (front ++ x) (leads ++ v ∷ []) (units_behind leads front x v l s)

-- a packet has one reading
pub one_list : (b : List ℕ) (vs ws : List Value) → AreUnits vs b → AreUnits ws b → vs ≡ ws
one_list b vs ws p q = one_reading b vs ws (units_only b vs p) q

-- ---- what is spelled has a written form

pub units_fit : (vs : List Value) (b : List ℕ) → AreUnits vs b → AllByRecursion Fits vs
units_fit [] b us = tt
units_fit (v ∷ []) b us = (spelled_fits v b us, tt)
units_fit (v ∷ w ∷ vs) b us = (spelled_fits v us.1 us.4, units_fit (w ∷ vs) us.2 us.5)

-- what was read by its header and its fields has a written form
pub read_fits : (at : ℕ) (b : List ℕ) (x : List ℕ × List ℕ) (v : Value) → IsOctets b → header_at at b ≡ Ok x → value_of at x.0 x.1 ≡ Ok v →
    Fits v
unfolding unit_at
read_fits at b x v octets header fields =
    let n = cond (may_be_followed v) (1 + length x.0) (length b) in
    let read : unit_at at b ≡ Ok (v, n) = rw (header, fields) refl in
    spelled_fits v (take n b) (unit_found at b (v, n) octets read).0.spelled

-- ---- the first fault

-- the units before the first one that can't be read
record Stops (at : ℕ) (b : List ℕ) (f : TpduFault) : Type 0 where
  pub leads : List Value
  pub front : List ℕ
  pub rest : List ℕ
  pub whole : b ≡ front ++ rest
  pub are_leads : AreLeads leads front
  pub some : 1 ≤ length b → 1 ≤ length rest
  pub bad : unit_at (at + length front) rest ≡ Err f

stops_later : (at k : ℕ) (v : Value) (b : List ℕ) (f : TpduFault) → Spells v (take k b) → k < length b → IsTrue (may_be_followed v) →
    Stops (at + k) (drop k b) f → Stops at b f
stops_later at k v b f s less lead stop =
    let len : length (take k b) ≡ k = length-take-le k b (omega arith) in
    let joined : take k b ++ drop k b ≡ take k b ++ (stop.front ++ stop.rest) = ap (λ (t : List ℕ). take k b ++ t) stop.whole in
    let offset : at + length (take k b ++ stop.front) ≡ at + k + length stop.front = omega (arith, length-append (take k b) stop.front) in
    let left : 1 ≤ length (drop k b) = omega (arith, length-drop k b) in
    record {
      leads = v ∷ stop.leads;
      front = take k b ++ stop.front;
      rest = stop.rest;
      whole = sym (take-append-drop k b) ∙ joined ∙ sym (append_assoc (take k b) stop.front stop.rest);
      are_leads = (lead, take k b, stop.front, refl, s, stop.are_leads);
      some = λ h. stop.some left;
      bad = ap (λ (o : ℕ). unit_at o stop.rest) offset ∙ stop.bad;
    }

stop_by : (n at : ℕ) (b : List ℕ) (f : TpduFault) (first : Result (Value × ℕ) TpduFault) → unit_at at b ≡ first → length b < suc n →
    IsOctets b → units_at (suc n) at b ≡ Err f
    → ((at' : ℕ) (c : List ℕ) → length c < n → IsOctets c → units_at n at' c ≡ Err f → Stops at' c f) → Stops at b f
unfolding units_at
stop_by n at b f (Err g) e enough octets failed later = grind arith
stop_by n at b f (Ok x) e enough octets bad later =
    let v = x.0 in
    let k = x.1 in
    let s = unit_found at b x octets e in
    let after = rw e at bad in
    elim (chosen (eqb k (length b)) (ok (v ∷ [])) (with_first v (units_at n (at + k) (drop k b))) (Err f) after) [
      | inl t ↦ absurd (grind arith)
      | inr t ↦
          let differ : k ≡ length b → ⊥ = eqb-false k (length b) t.0 in
          let left : 1 ≤ length (drop k b) = omega (arith, length-drop k b) in
          let lead = lead_by_rest v (drop k b) (may_be_followed v) refl left s.0.followed in
          let more : length (drop k b) < n = omega (arith, length-drop k b, s.1) in
          stops_later at k v b f s.0.spelled (omega arith) lead
          (later (at + k) (drop k b) more (octets_drop k b octets) (grind arith))
    ]

units_at_stop : (n at : ℕ) (b : List ℕ) (f : TpduFault) → length b < n → IsOctets b → units_at n at b ≡ Err f → Stops at b f
units_at_stop zero at b f enough octets bad = absurd (omega arith)
units_at_stop (suc n) at b f enough octets bad =
    stop_by n at b f (unit_at at b) refl enough octets bad (λ at' c le o e. units_at_stop n at' c f le o e)

pub fault_found : (b : List ℕ) (f : TpduFault) → IsOctets b → units_of b ≡ Err f → IsFirstFault b f
unfolding units_of
fault_found b f octets bad =
    let s = units_at_stop (suc (length b)) 0 b f (omega arith) octets bad in
    record {
      leads = s.leads;
      front = s.front;
      rest = s.rest;
      whole = s.whole;
      are_leads = s.are_leads;
      some = s.some;
      bad = unit_fault_found (length s.front) s.rest f (octets_right s.front s.rest (subst (λ (t : List ℕ). IsOctets t) s.whole octets))
          (ap (λ (k : ℕ). unit_at k s.rest) (sym (zero-add (length s.front))) ∙ s.bad);
    }

units_at_bad : (n at : ℕ) (leads : List Value) (front rest : List ℕ) (f : TpduFault) → length (front ++ rest) < n → AreLeads leads front →
    (1 ≤ length (front ++ rest) → 1 ≤ length rest)
    → unit_at (at + length front) rest ≡ Err f → units_at n at (front ++ rest) ≡ Err f
unfolding units_at
units_at_bad zero at leads front rest f enough are some bad = absurd (omega arith)
units_at_bad (suc n) at [] front rest f enough are some bad = grind (arith, add-zero)
units_at_bad (suc n) at (v ∷ leads) front rest f enough are some bad =
    let x = are.1 in
    let y = are.2 in
    let least = spelling_least v x are.4 in
    let whole : front ++ rest ≡ x ++ (y ++ rest) = ap (λ (t : List ℕ). t ++ rest) are.3 ∙ append_assoc x y rest in
    let len = ap length whole in
    let parts = length-append x (y ++ rest) in
    let parts' = length-append y rest in
    let left : 1 ≤ length rest = some (omega arith) in
    let read : unit_at at (front ++ rest) ≡ Ok (v, length x) =
    ap (unit_at at) whole ∙ unit_spelled at v x (y ++ rest) are.4 (grind (arith, false≢true)) in
    let more : eqb (length x) (length (front ++ rest)) ≡ false = ne_eqb _ _ (λ e. omega arith) in
    let behind : drop (length x) (front ++ rest) ≡ y ++ rest = ap (drop (length x)) whole ∙ drop_at x (y ++ rest) (length x) refl in
    let offset : at + length x + length y ≡ at + length front = omega (arith, ap length are.3, length-append x y) in
    let bad' : unit_at (at + length x + length y) rest ≡ Err f = ap (λ (k : ℕ). unit_at k rest) offset ∙ bad in
    let others = units_at_bad n (at + length x) leads y rest f (omega arith) are.5 (λ h. left) bad' in
    rw (read, more, behind, others) refl

pub fault_only : (b : List ℕ) (f : TpduFault) → IsOctets b → IsFirstFault b f → units_of b ≡ Err f
unfolding units_of
fault_only b f octets first =
    let behind : IsOctets first.rest = octets_right first.front first.rest (subst (λ (t : List ℕ). IsOctets t) first.whole octets) in
    let bad : unit_at (0 + length first.front) first.rest ≡ Err f = search (arith, unit_at, zero-add, unit_fault_only) in
    grind (arith, units_at_bad, units_at)
