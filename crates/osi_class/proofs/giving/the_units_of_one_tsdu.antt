-- The octets of the units of one TSDU, at a link that had nothing more to give.
use Rattle.std.proofs.Common.{◌≡◌, ℕ, zero, suc, ◌+◌, ◌-◌, ◌*◌, ◌%◌, ◌<◌, ◌≤◌, true, false, List, [], ◌∷◌, ◌++◌, length, take, drop, Some}
use Rattle.std.proofs.Common.{None, inl, inr, refl, sym, ◌∙◌, ap, arith, nat_lt, if◌then◌else◌, length-drop, length-append}
use Rattle.osi_class.proofs.Vocabulary.{min, add-div_right, div-eq_of_lt, ltb-true, ltb-false, take-append-drop, Ends, Flow, drained_by}
use Rattle.osi_class.proofs.Vocabulary.{drained_within, drained, octets_in, parts_needed, Joining, Standing, Given, given_part, next}
use Rattle.osi_class.proofs.Vocabulary.{sent_flow, with_tsdu, zero_standing, two_standing, give}
use Rattle.osi_class.proofs.giving.a_link_gives_finitely_many_units.{within_none, drained_none}
use Rattle.osi_class.proofs.giving.when_nothing_is_given.{class_0, class_2}

-- units and octets of TSDUs
abbrev Counts : List Given → ℕ → ℕ → Type 0
Counts units count octets = (length units ≡ count) × (octets_in units ≡ octets)

-- a TSDU that is longer than a unit has one part more than its rest
pub parts_cut : (limit octets : ℕ) → 0 < limit → limit < octets → parts_needed limit octets ≡ parts_needed limit (octets - limit) + 1
parts_cut limit octets room longer = grind (arith, add-div_right)

pub one_part : (limit octets : ℕ) → 0 < limit → octets ≤ limit → parts_needed limit octets ≡ 1
one_part limit octets room short = omega (arith, div-eq_of_lt)

pub parts_some : (limit octets : ℕ) → 1 ≤ parts_needed limit octets
parts_some limit octets = omega arith

pub take_drop : (limit : ℕ) (t : List ℕ) → length (take limit t) + length (drop limit t) ≡ length t
take_drop limit t = sym (length-append (take limit t) (drop limit t)) ∙ ap length (take-append-drop limit t)

-- class 0, with one TSDU to be sent
abbrev zero_with : ℕ → Joining → List ℕ → Standing
zero_with limit j t = zero_standing (record { limit = limit; unsent = t ∷ []; joining = j })

zero_counts : (limit : ℕ) → 0 < limit → (n : ℕ) (t : List ℕ) (j : Joining) → length t + 1 ≤ n →
    Counts (drained_within n (zero_with limit j t)).units (parts_needed limit (length t)) (length t)
zero_counts limit room zero t j small = absurd (omega arith)
zero_counts limit room (suc n) t j small =
    elim (nat_lt limit (length t)) as (λ b. nat_lt limit (length t) ≡ b →
    Counts (drained_by (given_part (record { limit = limit; unsent = t ∷ []; joining = j }) None None
    (if b then Some ((false, take limit t), drop limit t ∷ []) else Some ((true, t), []))) (zero_with limit j t) (drained_within n)).units
    (parts_needed limit (length t)) (length t)) [
      | true ↦ λ b. let longer : limit < length t = ltb-true limit (length t) b in
          let shorter = length-drop limit t in
          grind (arith, take_drop, parts_cut, zero_counts limit room n (drop limit t) j (omega arith))
      | false ↦ grind (arith, ltb-false, within_none, one_part)
    ] refl

-- class 2, with this credit
abbrev pub two_flow : ℕ → ℕ → ℕ → ℕ → ℕ → Flow
two_flow a u c w x =
    record { sender = record { next = a; unacknowledged = u; credit = c }; receiver = record { window = w; expected = x; waiting = 0 } }

abbrev pub two_with : ℕ → Joining → List ℕ → Flow → Standing
two_with limit j t f = two_standing (record { limit = limit; unsent = t ∷ []; joining = j }) f

pub more_credit : (c limit : ℕ) → 0 < c → c * limit ≡ limit + (c - 1) * limit
more_credit zero limit some = absurd (omega arith)
more_credit (suc c) limit some = grind arith

-- with any credit, at least as many octets are given as every unit carries
pub one_unit_carries : (credit limit octets parts : ℕ) → 123 ≤ limit → 0 < min parts credit → min 123 octets ≤ min octets (credit * limit)
one_unit_carries credit limit octets parts least some = let more = more_credit credit limit (omega arith) in omega (arith, more)

pub no_tsdus : (limit : ℕ) (j : Joining) (a u c w x : ℕ) →
    next (two_standing (record { limit = limit; unsent = []; joining = j }) (two_flow a u c w x)) ≡ None
no_tsdus limit j a u c w x = grind arith

two_counts : (limit : ℕ) → 0 < limit → (n a u c w x : ℕ) (t : List ℕ) (j : Joining) → length t + 1 ≤ n →
    Counts (drained_within n (two_with limit j t (two_flow a u c w x))).units (min (parts_needed limit (length t)) c)
    (min (length t) (c * limit))
two_counts limit room zero a u c w x t j small = absurd (omega arith)
two_counts limit room (suc n) a u c w x t j small =
    let e : Ends = record { limit = limit; unsent = t ∷ []; joining = j } in
    let f : Flow = two_flow a u c w x in
    elim (nat_lt 0 c) as (λ k. nat_lt 0 c ≡ k →
    Counts (drained_by (if k then given_part e (Some (sent_flow f)) (Some a) (give limit (t ∷ [])) else None) (two_standing e f)
    (drained_within n)).units
    (min (parts_needed limit (length t)) c) (min (length t) (c * limit))) [
      | true ↦ λ k. let some : 0 < c = ltb-true 0 c k in
          let more_room = more_credit c limit some in
          elim (nat_lt limit (length t)) as (λ b. nat_lt limit (length t) ≡ b →
          Counts (drained_by (given_part e (Some (sent_flow f)) (Some a)
          (if b then Some ((false, take limit t), drop limit t ∷ []) else Some ((true, t), []))) (two_standing e f)
          (drained_within n)).units
          (min (parts_needed limit (length t)) c) (min (length t) (c * limit))) [
            | true ↦ λ b. let longer : limit < length t = ltb-true limit (length t) b in
                let shorter = length-drop limit t in
                let all = take_drop limit t in
                grind (arith, parts_cut, two_counts limit room n ((a + 1) % 128) (u + 1) (c - 1) w x (drop limit t) j (omega arith))
            | false ↦ grind (arith, ltb-false, within_none, no_tsdus, one_part)
          ] refl
      | false ↦ grind (arith, ltb-false)
    ] refl

-- what is to be sent is one TSDU, if nothing was
pub alone : (u : List (List ℕ)) (t : List ℕ) → u ≡ [] → u ++ t ∷ [] ≡ t ∷ []
alone u t e = ap (λ (x : List (List ℕ)). x ++ t ∷ []) e

pub room_of_class_0 : (e : Ends) (t : List ℕ) → 0 < e.limit → next (zero_standing e) ≡ None →
    Counts (drained (with_tsdu (zero_standing e) t)).units (parts_needed e.limit (length t)) (length t)
unfolding drained
room_of_class_0 e t room none =
    grind (arith, drained, alone, class_0 e, zero_counts e.limit room (length t + 1 + 0 + 0) t e.joining (omega arith))

two_room : (e : Ends) (f : Flow) (t : List ℕ) → 0 < e.limit → f.receiver.waiting ≡ 0 → e.unsent ≡ [] →
    Counts (drained (with_tsdu (two_standing e f) t)).units (min (parts_needed e.limit (length t)) f.sender.credit)
    (min (length t) (f.sender.credit * e.limit))
unfolding drained
two_room e f t room waiting unsent =
    let s = f.sender in
    let r = f.receiver in
    let P : List (List ℕ) → ℕ →
    Type 0 = λ u w. Counts (drained (two_standing (record e { unsent = u }) (record f { receiver = record r { waiting = w } }))).units
    (min (parts_needed e.limit (length t)) s.credit) (min (length t) (s.credit * e.limit)) in
    let one : P (t ∷ []) 0 = two_counts e.limit room (length t + 1 + 0 + 0) s.next s.unacknowledged s.credit r.window r.expected t e.joining
    (omega arith) in
    grind (arith, alone)

pub room_of_class_2 : (e : Ends) (f : Flow) (t : List ℕ) → 0 < e.limit → next (two_standing e f) ≡ None →
    Counts (drained (with_tsdu (two_standing e f) t)).units (min (parts_needed e.limit (length t)) f.sender.credit)
    (min (length t) (f.sender.credit * e.limit))
room_of_class_2 e f t room none =
    let both = (class_2 e f).0 none in
    elim both.1 [
      | inl unsent ↦ two_room e f t room both.0 unsent
      | inr closed ↦ grind (arith, drained_none, class_2)
    ]
