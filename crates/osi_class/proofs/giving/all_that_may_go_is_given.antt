-- TSDUs whose units may all be given now are given whole, one after the other.
-- For the law `all_go_at_once`, and for `are_few` of sizes, which counts the units.
use Rattle.osi_class.proofs.Vocabulary.{ltb-true, ltb-false, Ends, Flow, Drained, drained_by, drained_within, drained, octets_in}
use Rattle.osi_class.proofs.Vocabulary.{parts_needed, units_needed, MayGoAll, AllGoAtOnce, GoesWhole, Joining, Standing, given_part, next}
use Rattle.osi_class.proofs.Vocabulary.{sent_flow, with_tsdu, zero_standing, two_standing, give, ◌≡◌, ℕ, zero, suc, ◌+◌, ◌-◌, ◌%◌, ◌<◌, ◌≤◌}
use Rattle.osi_class.proofs.Vocabulary.{true, false, List, [], ◌∷◌, length, take, drop, map, get_or, Option, Some, None, refl, sym, ◌∙◌, ap}
use Rattle.osi_class.proofs.Vocabulary.{subst, arith, nat_lt, is_some, if◌then◌else◌, length-drop, sum_by-cons}
use Rattle.osi_class.proofs.giving.a_link_gives_finitely_many_units.{within_none, drained_ends, drained_leaves}
use Rattle.osi_class.proofs.giving.when_nothing_is_given.{class_0}
use Rattle.osi_class.proofs.giving.the_units_of_one_tsdu.{parts_cut, one_part, take_drop, two_flow, two_with, no_tsdus, alone}
use Rattle.osi_class.proofs.giving.the_units_of_one_tsdu.{room_of_class_0}

pub more_units : (limit : ℕ) (t : List ℕ) (ts : List (List ℕ)) →
    units_needed limit (t ∷ ts) ≡ parts_needed limit (length t) + units_needed limit ts
more_units limit t ts = sum_by-cons (λ (t : List ℕ). parts_needed limit (length t)) t ts

no_flow : (flow : Option Flow) → is_some flow ≡ false → flow ≡ None
no_flow flow e = grind arith

-- in class 0 nothing is left
zero_goes : (e : Ends) (t : List ℕ) (others : List (List ℕ)) → 0 < e.limit → e.unsent ≡ [] → GoesWhole (zero_standing e) t others
zero_goes e t others room none =
    let first = with_tsdu (zero_standing e) t in
    let last = (drained first).link in
    let flow = no_flow last.flow (drained_leaves first).2 in
    let ends = subst (λ (f : Option Flow). next (record { ends = last.ends; flow = f }) ≡ None) flow (drained_ends first room) in
    record {
      octets = (room_of_class_0 e t room ((class_0 e).1 none)).1;
      others = grind (arith, alone, class_0);
    }

-- a link of class 2 with nothing to be sent
abbrev nothing_left : ℕ → Joining → ℕ → ℕ → ℕ → ℕ → ℕ → Standing
nothing_left limit j a u w x c = two_standing (record { limit = limit; unsent = []; joining = j }) (two_flow a u c w x)

-- it gave all octets of a TSDU, and this credit is left
record Emptied (limit : ℕ) (j : Joining) (credit w x octets : ℕ) (d : Drained) : Type 0 where
  number : ℕ
  unacknowledged : ℕ
  link : d.link ≡ nothing_left limit j number unacknowledged w x credit
  all : octets_in d.units ≡ octets

two_empties : (limit : ℕ) → 0 < limit → (n a u c w x : ℕ) (t : List ℕ) (j : Joining) →
    length t + 1 ≤ n → parts_needed limit (length t) ≤ c →
    Emptied limit j (c - parts_needed limit (length t)) w x (length t) (drained_within n (two_with limit j t (two_flow a u c w x)))
two_empties limit room zero a u c w x t j small enough = absurd (omega arith)
two_empties limit room (suc n) a u c w x t j small enough =
    let e : Ends = record { limit = limit; unsent = t ∷ []; joining = j } in
    let f : Flow = two_flow a u c w x in
    let left = c - parts_needed limit (length t) in
    elim (nat_lt 0 c) as (λ k. nat_lt 0 c ≡ k → Emptied limit j left w x (length t)
    (drained_by (if k then given_part e (Some (sent_flow f)) (Some a) (give limit (t ∷ [])) else None) (two_standing e f)
    (drained_within n))) [
      | true ↦ λ k. elim (nat_lt limit (length t)) as (λ b. nat_lt limit (length t) ≡ b → Emptied limit j left w x (length t)
          (drained_by (given_part e (Some (sent_flow f)) (Some a)
          (if b then Some ((false, take limit t), drop limit t ∷ []) else Some ((true, t), []))) (two_standing e f) (drained_within n))) [
            | true ↦ λ b. let longer : limit < length t = ltb-true limit (length t) b in
                let shorter = length-drop limit t in
                let both = take_drop limit t in
                let count : parts_needed limit (length t) ≡ parts_needed limit (length (drop limit t)) + 1 =
                parts_cut limit (length t) room longer ∙ ap (λ (m : ℕ). parts_needed limit m + 1) (sym shorter) in
                let more = two_empties limit room n ((a + 1) % 128) (u + 1) (c - 1) w x (drop limit t) j (omega arith)
                (omega (arith, count)) in
                grind arith
            | false ↦ grind (arith, ltb-false, within_none, no_tsdus, one_part)
          ] refl
      | false ↦ λ k. let none : c ≤ 0 = ltb-false 0 c k in absurd (omega arith)
    ] refl

emptied : (e : Ends) (f : Flow) (t : List ℕ) → 0 < e.limit → e.unsent ≡ [] → f.receiver.waiting ≡ 0 →
    parts_needed e.limit (length t) ≤ f.sender.credit →
    Emptied e.limit e.joining (f.sender.credit - parts_needed e.limit (length t)) f.receiver.window f.receiver.expected (length t)
    (drained (with_tsdu (two_standing e f) t))
unfolding drained
emptied e f t room unsent waiting enough =
    let s = f.sender in
    let r = f.receiver in
    let P : List (List ℕ) → ℕ → Type 0 = λ u w. Emptied e.limit e.joining (s.credit - parts_needed e.limit (length t)) r.window
    r.expected (length t)
    (drained (two_standing (record e { unsent = u }) (record f { receiver = record r { waiting = w } }))) in
    let one : P (t ∷ []) 0 = two_empties e.limit room (length t + 1 + 0 + 0) s.next s.unacknowledged s.credit r.window r.expected t
    e.joining (omega arith) enough in
    grind (arith, alone)

two_goes : (e : Ends) (f : Flow) (t : List ℕ) (others : List (List ℕ)) → 0 < e.limit → e.unsent ≡ [] → f.receiver.waiting ≡ 0 →
    units_needed e.limit (t ∷ others) ≤ f.sender.credit → GoesWhole (two_standing e f) t others
two_goes e f t others room unsent waiting enough =
    let units = more_units e.limit t others in
    grind (arith, alone, emptied e f t room unsent waiting (omega (arith, units)))

goes_by : (e : Ends) (flow : Option Flow) (t : List ℕ) (others : List (List ℕ)) → 0 < e.limit → e.unsent ≡ [] →
    MayGoAll (units_needed e.limit (t ∷ others)) flow → GoesWhole (record { ends = e; flow = flow }) t others
goes_by e None t others room unsent may = zero_goes e t others room unsent
goes_by e (Some f) t others room unsent may = two_goes e f t others room unsent may.0 may.1

pub goes_whole : (s : Standing) (t : List ℕ) (others : List (List ℕ)) → 0 < s.ends.limit → AllGoAtOnce s (t ∷ others) → GoesWhole s t others
goes_whole s t others room all = goes_by s.ends s.flow t others room all.alone all.may

-- one TSDU and those before it go in no more units than all
some_at : {V : Type 0} (items : V → List ℕ) (limit i : ℕ) (vs : List V) (d : V) → i < length vs →
    units_needed limit (map items (take i vs)) + parts_needed limit (length (items (get_or vs i d))) ≤ units_needed limit (map items vs)
some_at items limit i [] d within = absurd (omega arith)
some_at items limit zero (v ∷ vs) d within = let all = more_units limit (items v) (map items vs) in omega (arith, all)
some_at items limit (suc i) (v ∷ vs) d within = grind (arith, more_units, some_at items limit i vs d (omega arith))

pub some_of_all : {V : Type 0} (items : V → List ℕ) (limit i octets : ℕ) (vs : List V) (v : V) → i < length vs → v ≡ get_or vs i v →
    octets ≡ length (items v) → units_needed limit (map items (take i vs)) + parts_needed limit octets ≤ units_needed limit (map items vs)
some_of_all items limit i octets vs v within is size = grind (arith, some_at)
