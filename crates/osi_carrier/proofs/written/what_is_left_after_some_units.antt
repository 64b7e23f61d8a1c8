-- What is left of TSDUs after some of their units, TSDU by TSDU, and that a link keeps this.
-- For `put_rest` and `copies` of pieces, and `some_at_once` and `send_some` of links.
use Rattle.osi_carrier.proofs.Vocabulary.{ltb-true, drained_none, drained_some, Drained, drained, next, part_under, ◌≡◌, ◌∙◌, refl, sym, ap}
use Rattle.osi_carrier.proofs.Vocabulary.{subst, ℕ, zero, suc, ◌+◌, ◌-◌, ◌*◌, ◌%◌, ◌<◌, ◌≤◌, Bool, true, false, nat_lt, List, [], ◌∷◌, ◌++◌}
use Rattle.osi_carrier.proofs.Vocabulary.{length, take, drop, arith, append_assoc, length-drop, if◌then◌else◌, Option, Some, ltb-false}
use Rattle.osi_carrier.proofs.Vocabulary.{drop-drop, mul-le, suc-mul, one_part, parts_cut, parts_some, two_flow, no_tsdus, class_2, Ends}
use Rattle.osi_carrier.proofs.Vocabulary.{Flow, parts_needed, Joining, given_part, sent_flow, two_standing, Part, octets_of_tsdus, left_by}
use Rattle.osi_carrier.proofs.Vocabulary.{left_after}
use Rattle.osi_carrier.proofs.written.octets_are_cut_into_tsdus.{more_octets}

-- ---- TSDU by TSDU

-- the first is sent whole
pub left_whole : (n limit : ℕ) (t : List ℕ) (ts : List (List ℕ)) → 0 < limit → parts_needed limit (length t) ≤ n →
    left_after (n - parts_needed limit (length t)) limit ts ≡ left_after n limit (t ∷ ts)
left_whole zero limit t ts room enough = absurd (let some = parts_some limit (length t) in omega (arith, some, enough))
left_whole (suc n) limit t ts room enough =
    elim (nat_lt limit (length t)) as (λ b. nat_lt limit (length t) ≡ b →
    left_after (suc n - parts_needed limit (length t)) limit ts
    ≡ left_by (t ∷ ts) (if b then Some ((false, take limit t), drop limit t ∷ ts) else Some ((true, t), ts)) (left_after n limit)) [
      | true ↦ λ b. let longer : limit < length t = ltb-true limit (length t) b in
          let shorter = length-drop limit t in
          grind (arith, parts_cut, left_whole n limit (drop limit t) ts room (grind (arith, parts_cut, enough)))
      | false ↦ grind (arith, ltb-false, one_part)
    ] refl

-- not all of it is sent
pub left_part : (n limit : ℕ) (t : List ℕ) (ts : List (List ℕ)) → 0 < limit → n < parts_needed limit (length t) →
    left_after n limit (t ∷ ts) ≡ drop (n * limit) t ∷ ts
left_part zero limit t ts room few = grind arith
left_part (suc n) limit t ts room few =
    elim (nat_lt limit (length t)) as (λ b. nat_lt limit (length t) ≡ b →
    left_by (t ∷ ts) (if b then Some ((false, take limit t), drop limit t ∷ ts) else Some ((true, t), ts)) (left_after n limit)
    ≡ drop (suc n * limit) t ∷ ts) [
      | true ↦ λ b. let longer : limit < length t = ltb-true limit (length t) b in
          let shorter = length-drop limit t in
          grind (arith, suc-mul, parts_cut, drop-drop, left_part n limit (drop limit t) ts room (grind (arith, parts_cut, few)))
      | false ↦ grind (arith, ltb-false, one_part)
    ] refl

-- after the last nothing is left
pub left_of_none : (n limit : ℕ) → left_after n limit [] ≡ []
left_of_none n limit = grind arith

-- and one at least
pub one_full : (n limit : ℕ) → 0 < n → limit ≤ n * limit
one_full n limit some = let least = mul-le 1 limit n limit some (omega arith) in omega (arith, least)

-- no more octets than before
pub left_octets : (n limit : ℕ) (ts : List (List ℕ)) → octets_of_tsdus (left_after n limit ts) ≤ octets_of_tsdus ts
left_octets zero limit ts = omega arith
left_octets (suc n) limit [] = omega arith
left_octets (suc n) limit (t ∷ ts) =
    grind (arith, more_octets, length-drop, left_octets n limit (drop limit t ∷ ts), left_octets n limit ts)

-- ---- one TSDU more in the list of copies

-- all of it is copied
pub copied_whole : (limit : ℕ) (old new : List (List ℕ)) (t : List ℕ) (others : List (List ℕ)) → new ≡ old ++ t ∷ [] →
    new ++ left_after 0 limit others ≡ old ++ left_after 0 limit (t ∷ others)
copied_whole limit old new t others put = grind (arith, append_assoc)

-- some of it is
pub copied_part : (n limit : ℕ) (old new : List (List ℕ)) (t rest : List ℕ) (others : List (List ℕ)) → 0 < limit →
    n < parts_needed limit (length t) → rest ≡ drop (n * limit) t → new ≡ old ++ rest ∷ [] →
    new ++ left_after 0 limit others ≡ old ++ left_after n limit (t ∷ others)
copied_part n limit old new t rest others room few is put =
    grind (arith, copied_whole limit old new rest others put, left_part n limit t others room few)

-- none of it is
pub copied_none : (n limit parts : ℕ) (old : List (List ℕ)) (t : List ℕ) (others : List (List ℕ)) → 0 < limit →
    parts ≡ parts_needed limit (length t) → parts ≤ n →
    old ++ left_after (n - parts) limit others ≡ old ++ left_after n limit (t ∷ others)
copied_none n limit parts old t others room is enough = grind (arith, left_whole)

-- ---- what a link of class 2 keeps

-- the first part of the first TSDU, or all of it
abbrev gave : ℕ → List ℕ → List (List ℕ) → Bool → Option (Part × List (List ℕ))
gave limit t ts b = if b then Some ((false, take limit t), drop limit t ∷ ts) else Some ((true, t), ts)

two_left : (n limit a u c w x : ℕ) (j : Joining) (ts : List (List ℕ)) → 0 < limit → c ≡ n →
    (drained (two_standing (record { limit = limit; unsent = ts; joining = j }) (two_flow a u c w x))).link.ends.unsent
    ≡ left_after n limit ts
two_left zero limit a u c w x j ts room is = grind (arith, two_flow, drained_none, class_2)
two_left (suc n) limit a u c w x j [] room is = grind (arith, drained_none, two_flow, no_tsdus)
two_left (suc n) limit a u c w x j (t ∷ ts) room is =
    let e : Ends = record { limit = limit; unsent = t ∷ ts; joining = j } in
    let f : Flow = two_flow a u c w x in
    let left : c - 1 ≡ n = omega (arith, is) in
    let open_is : next (two_standing e f) ≡ given_part e (Some (sent_flow f)) (Some a) (gave limit t ts (nat_lt limit (length t))) =
    grind arith in
    elim (nat_lt limit (length t)) as (λ b. nat_lt limit (length t) ≡ b →
    (drained (two_standing e f)).link.ends.unsent ≡ left_by (t ∷ ts) (gave limit t ts b) (left_after n limit)) [
      | true ↦ λ b.
          let after = two_standing (record e { unsent = drop limit t ∷ ts }) (sent_flow f) in
          let step : next (two_standing e f) ≡ Some (part_under (Some a) false (take limit t), after) =
          open_is ∙ ap (λ (k : Bool). given_part e (Some (sent_flow f)) (Some a) (gave limit t ts k)) b in
          ap (λ (d : Drained). d.link.ends.unsent)
          (drained_some (two_standing e f) after (part_under (Some a) false (take limit t)) room step)
          ∙ two_left n limit ((a + 1) % 128) (u + 1) (c - 1) w x j (drop limit t ∷ ts) room left
      | false ↦ λ b.
          let after = two_standing (record e { unsent = ts }) (sent_flow f) in
          let step : next (two_standing e f) ≡ Some (part_under (Some a) true t, after) =
          open_is ∙ ap (λ (k : Bool). given_part e (Some (sent_flow f)) (Some a) (gave limit t ts k)) b in
          ap (λ (d : Drained). d.link.ends.unsent) (drained_some (two_standing e f) after (part_under (Some a) true t) room step)
          ∙ two_left n limit ((a + 1) % 128) (u + 1) (c - 1) w x j ts room left
    ] refl

pub drained_left : (e : Ends) (f : Flow) → 0 < e.limit → f.receiver.waiting ≡ 0 →
    (drained (two_standing e f)).link.ends.unsent ≡ left_after f.sender.credit e.limit e.unsent
drained_left e f room waiting =
    let s = f.sender in
    let r = f.receiver in
    let P : ℕ → Type 0 = λ w. (drained (two_standing e (record f { receiver = record r { waiting = w } }))).link.ends.unsent
    ≡ left_after s.credit e.limit e.unsent in
    let one : P 0 = two_left s.credit e.limit s.next s.unacknowledged s.credit r.window r.expected e.joining e.unsent room refl in
    subst P (sym waiting) one
