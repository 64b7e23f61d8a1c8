-- A unit in whose written form each number is an octet is read again as this unit, if the few numbers that share an octet are
-- in range: credit, class and options, and the numbers of class 2.
-- For the course of a connection.
use Rattle.osi_blameless.proofs.ends.Vocabulary.{[], arith, length, List, None, Ok, Option, Some, subst, ℕ, ◌++◌, ◌+◌, ◌/◌, ◌<◌, ◌∷◌, ◌≡◌}
use Rattle.osi_blameless.proofs.ends.Vocabulary.{◌≤◌}
use Rattle.osi_blameless.proofs.ends.Vocabulary.{length-append, flat_map, IfSome, octets_left, octets_nil, octets_right, IsOctets}
use Rattle.osi_blameless.proofs.ends.Vocabulary.{units_only}
use Rattle.osi_blameless.proofs.ends.Vocabulary.{written_spells, units_of, connect_part, Item, item_octets, single, acknowledge}
use Rattle.osi_blameless.proofs.ends.Vocabulary.{AreParameters}
use Rattle.osi_blameless.proofs.ends.Vocabulary.{confirm, data0, data2, disconnect, disconnected, error, HasFieldsInRange, IsConnect}
use Rattle.osi_blameless.proofs.ends.Vocabulary.{request}
use Rattle.osi_blameless.proofs.ends.Vocabulary.{Value, HasRoom, items_of, written, written_items, Connect, packet_of, packets}
use Rattle.std.proofs.lemmas.List.Concat.{flat_map-append}
pub use Rattle.osi_blameless.specs.ends.Writable.{CanBeWritten, IsPlain}

-- ---- the octets of parameters

split : (a b : List Item) → IsOctets (flat_map item_octets (a ++ b)) → IsOctets (flat_map item_octets a) × IsOctets (flat_map item_octets b)
split a b h =
    let both = subst IsOctets (flat_map-append item_octets a b) h in search (arith, octets_left, octets_right)

value_octets : (code : ℕ) (s : List ℕ) → IsOctets (flat_map item_octets (items_of code (Some s))) → IsOctets s
value_octets code s h = octets_left s [] (octets_right (code ∷ length s ∷ []) (s ++ []) h)

selector_is : (code : ℕ) (o : Option (List ℕ)) → IfSome o (λ s. length s ≤ 32) → IsOctets (flat_map item_octets (items_of code o)) →
    IfSome o (λ s. (length s ≤ 32) × IsOctets s)
selector_is code None few h = tt
selector_is code (Some s) few h = (few, value_octets code s h)

classes_are : (code : ℕ) (o : Option (List ℕ)) → IsOctets (flat_map item_octets (items_of code o)) → IfSome o IsOctets
classes_are code None h = tt
classes_are code (Some s) h = value_octets code s h

parameters_are : (c : Connect) → IsPlain c → IsOctets (flat_map item_octets (written_items c.parameters)) → AreParameters c.parameters
parameters_are c plain h =
    let p = c.parameters in
    let w = items_of 0xC6 (single p.additional) ++ items_of 0xC7 p.alternative in
    let x = items_of 0xC2 p.called ++ w in
    let y = items_of 0xC1 p.calling ++ x in
    let one = split (items_of 0xC0 (single p.size)) y h in
    let two = split (items_of 0xC1 p.calling) x one.1 in
    let three = split (items_of 0xC2 p.called) w two.1 in
    let four = split (items_of 0xC6 (single p.additional)) (items_of 0xC7 p.alternative) three.1 in
    search (arith, selector_is, classes_are)

-- ---- the length of parameters

slot_most : (code : ℕ) (o : Option (List ℕ)) (n : ℕ) → IfSome o (λ s. length s ≤ n) →
    length (flat_map item_octets (items_of code o)) ≤ 2 + n
slot_most code o n h = grind (arith, length-append)

single_most : (code : ℕ) (o : Option ℕ) → length (flat_map item_octets (items_of code (single o))) ≤ 3
single_most code o = grind arith

items_most : (c : Connect) → IsPlain c → length (flat_map item_octets (written_items c.parameters)) ≤ 77
items_most c plain = grind (arith, single_most, slot_most, flat_map-append, length-append)

-- ---- CR and CC

connect_is : (code destination counted : ℕ) (c : Connect) → IsPlain c →
    IsOctets (counted ∷ (connect_part code destination c ++ flat_map item_octets (written_items c.parameters)) ++ c.user) → IsConnect c
connect_is code destination counted c plain octets =
    let high : c.source / 256 < 256 = octets 4 in
    let header = octets_left (connect_part code destination c ++ flat_map item_octets (written_items c.parameters)) c.user
    (octets_right (counted ∷ [])
    ((connect_part code destination c ++ flat_map item_octets (written_items c.parameters)) ++ c.user) octets) in
    let items = octets_right (connect_part code destination c) (flat_map item_octets (written_items c.parameters)) header in
    grind (arith, parameters_are, octets_nil)

-- ---- all units

fields_are : (v : Value) → CanBeWritten v → IsOctets (written v) → HasFieldsInRange v
fields_are (request c) can octets = connect_is 0xE0 0 _ c can octets
fields_are (confirm destination c) can octets =
    let high : destination / 256 < 256 = octets 2 in
    (omega arith, connect_is 0xD0 destination _ c can octets)
fields_are (disconnect destination source reason user) can octets =
    let to : destination / 256 < 256 = octets 2 in
    let from : source / 256 < 256 = octets 4 in
    let why : reason < 256 = octets 6 in
    (omega arith, omega arith, why, octets_right (_ ∷ _ ∷ _ ∷ _ ∷ _ ∷ _ ∷ _ ∷ []) user octets)
fields_are (disconnected destination source) can octets =
    let to : destination / 256 < 256 = octets 2 in
    let from : source / 256 < 256 = octets 4 in
    (omega arith, omega arith)
fields_are (data0 end user) can octets = octets_right (_ ∷ _ ∷ _ ∷ []) user octets
fields_are (data2 destination number end user) can octets =
    let to : destination / 256 < 256 = octets 2 in
    (omega arith, can, octets_right (_ ∷ _ ∷ _ ∷ _ ∷ _ ∷ []) user octets)
fields_are (acknowledge credit destination number) can octets =
    let to : destination / 256 < 256 = octets 2 in
    (can.0, omega arith, can.1)
fields_are (error destination cause) can octets = absurd can

has_room : (v : Value) → CanBeWritten v → HasRoom v
has_room v can = grind (arith, items_most)

pub read_again : (v : Value) → CanBeWritten v → IsOctets (written v) → units_of (written v) ≡ Ok (v ∷ [])
read_again v can octets = search (arith, units_only, written_spells, fields_are, has_room)

-- ---- units one after the other

pub packets_joined : (us vs : List Value) → packets (us ++ vs) ≡ packets us ++ packets vs
packets_joined us vs = flat_map-append (λ unit. packet_of (written unit)) us vs
