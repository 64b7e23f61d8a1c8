-- What is true of the TSDUs in which a message is sent.
use Rattle.osi_message.proofs.Vocabulary.{AllByRecursion, leb-true, leb-false, ne_eqb, append-nil, take-append-drop, length-drop}
use Rattle.osi_message.proofs.Vocabulary.{length-take, IsOctets, octets_cons, octets_take, octets_drop, is_size, tsdu_at, SpduFault, Place}
use Rattle.osi_message.proofs.Vocabulary.{First, Middle, Last, Message, Meaning, DT, GT, meant_by, no_token, IsInOctets, Word, says, part}
use Rattle.osi_message.proofs.Vocabulary.{Words, part_octets, said_by_units, said_at, IsSendable, words_of, spelled, written, pieces}
use Rattle.osi_message.proofs.Vocabulary.{later_parts, parts_of, is_whole, is_parted, words_sent, tsdus_of, in_one, AreLater, AreParts}
use Rattle.osi_message.proofs.Vocabulary.{joined, behind_no_token, AreFull, ◌≡◌, refl, sym, ap, subst, ℕ, zero, suc, ◌+◌, ◌-◌, ◌<◌, ◌≤◌}
use Rattle.osi_message.proofs.Vocabulary.{Bool, true, false, not, List, [], ◌∷◌, ◌++◌, length, take, drop, map, Result, Ok, arith}
use Rattle.osi_message.specs.declared.messages.Message.TheVariants as message
use Rattle.osi_message.proofs.units_of_the_fast_path.{data_written, said_data}
use Rattle.osi_message.proofs.how_pieces_follow_one_another.{all_pieces, IsCons, some_piece, octets_of, parts_begin}

-- ---- one TSDU

not_true : (b : Bool) → not b ≡ true → b ≡ false
not_true b h = grind arith

-- a message other than data, and data within the limit, is sent in one TSDU
pub sent_alone : (limit : ℕ) (m : Meaning) → is_parted limit m ≡ false → tsdus_of limit m ≡ in_one m
unfolding words_sent
sent_alone limit m h = grind arith

pub words_parted : (limit : ℕ) (octets : List ℕ) → is_parted limit (DT octets) ≡ true →
    words_sent limit (DT octets) ≡ parts_of (all_pieces (limit - 7) octets)
unfolding words_sent
words_parted limit octets h = grind arith

-- a message other than data, in memory
pub message_alone : (limit : ℕ) (m : Message) → ((octets : _) → m ≡ message.Data octets → ⊥) →
    tsdus_of limit (meant_by m) ≡ in_one (meant_by m)
unfolding words_sent
message_alone limit m h = grind arith

-- ---- by the test of the limit

pub sent_whole : (limit : ℕ) (octets : List ℕ) → is_whole limit octets ≡ true → tsdus_of limit (DT octets) ≡ in_one (DT octets)
sent_whole limit octets h = sent_alone limit (DT octets) (ap not h)

pub sent_parted : (limit : ℕ) (octets : List ℕ) → is_whole limit octets ≡ false →
    tsdus_of limit (DT octets) ≡ octets_of (parts_of (pieces (length octets) (limit - 7) octets))
sent_parted limit octets h = ap octets_of (words_parted limit octets (ap not h))

pub size_of_parts : (limit : ℕ) (octets : List ℕ) → is_size limit ≡ true → is_whole limit octets ≡ false →
    (64 ≤ limit) × (limit ≤ 65535) × (limit < 4 + length octets)
size_of_parts limit octets size h = grind arith

pub some_octets : (limit : ℕ) (octets : List ℕ) → is_size limit ≡ true → is_whole limit octets ≡ false → 0 < limit - 7
some_octets limit octets size h = let n = size_of_parts limit octets size h in omega (arith, n.0)

pub more_octets : (limit : ℕ) (octets : List ℕ) → is_size limit ≡ true → is_whole limit octets ≡ false → limit - 7 < length octets
more_octets limit octets size h = let n = size_of_parts limit octets size h in omega (arith, n.0, n.2)

-- ---- the parts

later_are : (o : List ℕ) (os : List (List ℕ)) → AreLater (later_parts (o ∷ os))
later_are o [] = tt
later_are o (x ∷ os) = later_are x os

are_later : (os : List (List ℕ)) → IsCons os → AreLater (later_parts os)
are_later os c = subst (λ (l : List (List ℕ)). AreLater (later_parts l)) (sym c.is) (later_are c.head c.tail)

pub are_parts : (limit : ℕ) (octets : List ℕ) → is_size limit ≡ true → is_parted limit (DT octets) ≡ true →
    AreParts (words_sent limit (DT octets))
are_parts limit octets size h =
    search (arith, not_true, words_parted, parts_begin, some_octets, more_octets, are_later, all_pieces, some_piece)

-- ---- the octets of all parts together

flat : List (List ℕ) → List ℕ
flat [] = []
flat (x ∷ xs) = x ++ flat xs

later_joined : (os : List (List ℕ)) → joined (later_parts os) ≡ flat os
unfolding flat
later_joined (x ∷ y ∷ os) = ap (λ r. x ++ r) (later_joined (y ∷ os))
later_joined _ = refl

parts_joined : (os : List (List ℕ)) → joined (parts_of os) ≡ flat os
unfolding flat
parts_joined os = grind (arith, later_joined)

pieces_flat : (fuel size : ℕ) (o : List ℕ) → flat (pieces fuel size o) ≡ o
unfolding flat
pieces_flat zero size o = append-nil o
pieces_flat (suc fuel) size o = grind (arith, append-nil, take-append-drop, pieces_flat fuel size (drop size o))

pub sent_joined : (limit : ℕ) (octets : List ℕ) → joined (words_sent limit (DT octets)) ≡ octets
unfolding words_sent
sent_joined limit octets = grind (arith, all_pieces, append-nil, parts_joined, pieces_flat)

-- ---- how they are read

abbrev pub ReadAsParts : Type 0
ReadAsParts = (place : Place) (octets : List ℕ) → said_at (part_octets place octets) ≡ Ok (says (GT no_token) ∷ part place octets ∷ [])

abbrev Read : Type 0
Read = Result Words SpduFault

abbrev read_so : Word → Read
read_so word = Ok (behind_no_token word)

later_read : ReadAsParts → (os : List (List ℕ)) → map said_at (octets_of (later_parts os)) ≡ map read_so (later_parts os)
later_read read [] = refl
later_read read (x ∷ []) = ap (λ (r : Read). r ∷ []) (read Last x)
later_read read (x ∷ y ∷ os) = let a = read Middle x in let b = later_read read (y ∷ os) in λ i. a i ∷ b i

parts_read : ReadAsParts → (os : List (List ℕ)) → map said_at (octets_of (parts_of os)) ≡ map read_so (parts_of os)
parts_read read [] = refl
parts_read read (x ∷ os) = let a = read First x in let b = later_read read os in λ i. a i ∷ b i

pub sent_read : ((m : Meaning) → IsSendable m → tsdu_at (written m) ≡ Ok (spelled m)) →
    ((m : Meaning) → IsSendable m → said_by_units (spelled m) ≡ words_of m)
    → ReadAsParts → (limit : ℕ) (octets : List ℕ) → map said_at (tsdus_of limit (DT octets)) ≡ map read_so (words_sent limit (DT octets))
unfolding words_sent
sent_read read said parts limit octets = grind (arith, all_pieces, said_data, parts_read)

-- ---- their lengths

later_full : (fuel size : ℕ) (o : List ℕ) → 0 < size → length o ≤ fuel → AreFull (7 + size) (octets_of (later_parts (pieces fuel size o)))
later_full zero size o some few = omega (arith, few)
later_full (suc fuel) size o some few =
    let d = length-drop size o in
    grind (arith, length-take, leb-true, leb-false, some_piece, later_full fuel size (drop size o) some (omega (arith, few, d, some)))

pub sent_full : (limit : ℕ) (octets : List ℕ) → is_size limit ≡ true → 0 < limit → AreFull limit (tsdus_of limit (DT octets))
sent_full limit octets size some =
    grind (arith, sent_whole, leb-true, ne_eqb, data_written, size_of_parts, sent_parted, octets_of, length-take, parts_begin, later_full)

full_short : (limit most : ℕ) (tsdus : List (List ℕ)) → limit ≤ most → AreFull limit tsdus →
    AllByRecursion (λ (t : List ℕ). length t ≤ most) tsdus
full_short limit most [] few h = tt
full_short limit most (t ∷ []) few h = (omega (arith, h, few), tt)
full_short limit most (t ∷ u ∷ tsdus) few h = (let e = h.0 in omega (arith, e, few), full_short limit most (u ∷ tsdus) few h.1)

pub sent_short : (limit : ℕ) (octets : List ℕ) → is_size limit ≡ true → length octets ≤ 1048572
    → AllByRecursion (λ (t : List ℕ). length t ≤ 1048576) (tsdus_of limit (DT octets))
sent_short limit octets size few = by (is_whole limit octets) refl
  where
    by : (b : Bool) → is_whole limit octets ≡ b → AllByRecursion (λ (t : List ℕ). length t ≤ 1048576) (tsdus_of limit (DT octets))
    by true h =
        subst (AllByRecursion (λ (t : List ℕ). length t ≤ 1048576)) (sym (sent_whole limit octets h)) (grind (arith, data_written, few), tt)
    by false h =
        let n = size_of_parts limit octets size h in
        full_short limit 1048576 (tsdus_of limit (DT octets)) (omega (arith, n.1)) (sent_full limit octets size (omega (arith, n.0)))

-- ---- their octets

pieces_are : (fuel size : ℕ) (o : List ℕ) → IsOctets o → AllByRecursion IsOctets (pieces fuel size o)
pieces_are zero size o h = (h, tt)
pieces_are (suc fuel) size o h = grind (arith, octets_take, pieces_are fuel size (drop size o) (octets_drop size o h))

later_octets : (os : List (List ℕ)) → AllByRecursion IsOctets os → AllByRecursion IsOctets (octets_of (later_parts os))
later_octets [] h = tt
later_octets (x ∷ []) h = (grind (arith, octets_cons), tt)
later_octets (x ∷ y ∷ os) h = (grind (arith, octets_cons), later_octets (y ∷ os) h.1)

-- what is sent is octets, if the message as a whole is
pub sent_octets : (limit : ℕ) (m : Meaning) → IsInOctets m → IsOctets (written m) → AllByRecursion IsOctets (tsdus_of limit m)
unfolding words_sent
sent_octets limit m h k = grind (arith, all_pieces, later_octets, pieces_are)
