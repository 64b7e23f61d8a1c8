-- The written form: it spells its value, and is no longer than any other spelling.
use Rattle.osi_tpdu.proofs.Vocabulary.{option_to_list, IfSome, flat_map, append-nil, length-append, IsOctets, octets_nil, octets_append}
use Rattle.osi_tpdu.proofs.Vocabulary.{Parameters, AreParameters, Value, request, confirm, disconnect, disconnected, data0, data2}
use Rattle.osi_tpdu.proofs.Vocabulary.{acknowledge, error, IsReference, HasFieldsInRange, Item, Means, item_octets, single, values_of}
use Rattle.osi_tpdu.proofs.Vocabulary.{IsHeader, Spells, items_of, written_items, written_header, written, HasRoom, HasFewClasses, Fits}
use Rattle.osi_tpdu.proofs.Vocabulary.{Tpdu, parameter_values, value, ◌≡◌, ℕ, ◌+◌, ◌/◌, ◌%◌, ◌<◌, ◌≤◌, false, List, [], ◌∷◌, length, Option}
use Rattle.osi_tpdu.proofs.Vocabulary.{refl, arith, flat_map-append, ConnectParameters}
use Rattle.osi_tpdu.proofs.the_steps_of_reading.{IsOctets-cons}

-- ---- the written parameters have the meaning of the unit

written_is_header : (v : Value) → IsHeader v (written_header v)
written_is_header (request c) = (0, written_items c.parameters, grind (arith, append-nil), refl)
written_is_header (confirm destination c) = (written_items c.parameters, grind (arith, append-nil), refl)
written_is_header (disconnected destination source) = refl
written_is_header (data0 end user) = (0, omega arith, refl)
written_is_header (data2 destination number end user) = refl
written_is_header (acknowledge credit destination number) = (false, refl)
written_is_header _ = ([], refl)

-- ---- its octets are octets

slot_is : (code : ℕ) (o : Option (List ℕ)) → code < 256 → length (flat_map item_octets (items_of code o)) ≤ 254 → IfSome o IsOctets →
    IsOctets (flat_map item_octets (items_of code o))
slot_is code o lc short h = grind (arith, octets_nil, octets_append, length-append)

written_len_is : (p : Parameters) →
    length (flat_map item_octets (written_items p)) ≡ length (flat_map item_octets (items_of 0xC0 (single p.size))) +
    (length (flat_map item_octets (items_of 0xC1 p.calling))
    + (length (flat_map item_octets (items_of 0xC2 p.called)) +
    (length (flat_map item_octets (items_of 0xC6 (single p.additional))) + length
    (flat_map item_octets (items_of 0xC7 p.alternative)))))
written_len_is p = grind (arith, length-append)

parameters_are : (p : Parameters) → AreParameters p → length (flat_map item_octets (written_items p)) ≤ 254 →
    IsOctets (flat_map item_octets (written_items p))
parameters_are p fits short =
    let len = written_len_is p in
    let a = slot_is 0xC0 (single p.size) (omega arith) (omega arith) (grind (arith, octets_nil)) in
    let b = slot_is 0xC1 p.calling (omega arith) (omega arith) (grind arith) in
    let c = slot_is 0xC2 p.called (omega arith) (omega arith) (grind arith) in
    let e = slot_is 0xC7 p.alternative (omega arith) (omega arith) fits.alternative in
    let fa = flat_map item_octets (items_of 0xC0 (single p.size)) in
    let fb = flat_map item_octets (items_of 0xC1 p.calling) in
    let fc = flat_map item_octets (items_of 0xC2 p.called) in
    let fd = flat_map item_octets (items_of 0xC6 (single p.additional)) in
    let fe = flat_map item_octets (items_of 0xC7 p.alternative) in
    grind (arith, flat_map-append, octets_append)

two_are : (n : ℕ) (s : List ℕ) → IsReference n → IsOctets s → IsOctets (n / 256 ∷ n % 256 ∷ s)
two_are n s lt h = IsOctets-cons (n / 256) (n % 256 ∷ s) (omega arith) (IsOctets-cons (n % 256) s (omega arith) h)

header_is : (v : Value) → HasFieldsInRange v → HasRoom v → IsOctets (written_header v)
header_is (request c) r short = grind (arith, parameters_are, two_are)
header_is (confirm destination c) r short = grind (arith, parameters_are, two_are)
header_is (disconnect destination source reason user) r short = grind (arith, two_are, octets_nil)
header_is (disconnected destination source) r short = grind (arith, two_are, octets_nil)
header_is (data0 end user) r short = grind (arith, octets_nil)
header_is (data2 destination number end user) r short = grind (arith, two_are, octets_nil)
header_is (acknowledge credit destination number) r short = grind (arith, two_are, octets_nil)
header_is (error destination cause) r short = grind (arith, two_are, octets_nil)

-- the written form spells its value
pub written_spells : (v : Value) → Fits v → Spells v (written v)
written_spells v f = grind (arith, written_is_header, octets_append, header_is)

-- ---- no spelling has a shorter header

abbrev weight : List (List ℕ) → ℕ
weight [] = 0
weight (v ∷ vs) = 2 + length v + weight vs

weights : (items : List Item) →
    weight (values_of 0xC0 items) +
    (weight (values_of 0xC1 items) + (weight (values_of 0xC2 items) + (weight (values_of 0xC6 items) + weight (values_of 0xC7 items)))) ≤
    length (flat_map item_octets items)
weights [] = omega arith
weights (i ∷ items) = search (arith, length-append, weights items)

slot_weight : (code : ℕ) (o : Option (List ℕ)) (items : List Item) → values_of code items ≡ option_to_list o →
    length (flat_map item_octets (items_of code o)) ≡ weight (values_of code items)
slot_weight code o items e = grind (arith, length-append)

written_least : (p : Parameters) (items : List Item) → Means p items →
    length (flat_map item_octets (written_items p)) ≤ length (flat_map item_octets items)
written_least p items m = search (arith, slot_weight, weights, written_len_is)

-- what has a spelling has a written form
pub spelled_fits : (v : Value) (b : List ℕ) → Spells v b → Fits v
spelled_fits v b s = record { in_range = s.in_range; counted = (grind (arith, written_least)) }

-- ---- headers with room in any case

slot_most : (code : ℕ) (o : Option (List ℕ)) (n : ℕ) → IfSome o (λ s. length s ≤ n) →
    length (flat_map item_octets (items_of code o)) ≤ 2 + n
slot_most code o n h = grind (arith, length-append)

single_most : (code : ℕ) (o : Option ℕ) → length (flat_map item_octets (items_of code (single o))) ≤ 3
single_most code o = grind arith

parameters_most : (p : ConnectParameters) → IfSome (parameter_values p).alternative (λ classes. length classes ≤ 172) →
    length (flat_map item_octets (written_items (parameter_values p))) ≤ 248
parameters_most p few =
    let v = parameter_values p in
    let b = slot_most 0xC1 v.calling 32 (grind arith) in
    let c = slot_most 0xC2 v.called 32 (grind arith) in
    grind (arith, single_most 0xC6 v.additional, slot_most 0xC7 v.alternative 172 few, written_len_is v)

-- the types bound everything in a header except its alternative classes
pub few_fit : (t : Tpdu) → HasFewClasses (value t) → HasRoom (value t)
few_fit t few = grind (arith, parameters_most)
