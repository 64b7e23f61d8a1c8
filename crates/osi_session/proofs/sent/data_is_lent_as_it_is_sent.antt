-- Data that is lent in parts has the TSDUs in which it is sent.
-- For `in_parts` and `in_one` of lending.
use Rattle.osi_session.proofs.Vocabulary.{le-leb, DT, First, Middle, Last, is_whole, tsdus_of, is_size, ◌≡◌, refl, ℕ, zero, suc, ◌-◌, ◌≤◌}
use Rattle.osi_session.proofs.Vocabulary.{true, false, List, [], ◌∷◌, ◌++◌, length, drop, arith, lt-leb, pieces, later_parts, part_head}
use Rattle.osi_session.proofs.Vocabulary.{middle_of, some_piece, sent_parted, more_octets, headed}
use Rattle.osi_message.proofs.how_pieces_follow_one_another.{octets_of}

-- ---- several parts

-- those after the first
later_lent : (fuel size : ℕ) (o : List ℕ) →
    headed fuel (part_head Middle) (part_head Middle) (part_head Last) size o ≡ octets_of (later_parts (pieces fuel size o))
later_lent zero size o = refl
later_lent (suc fuel) size o = grind (arith, octets_of, middle_of, some_piece, later_lent fuel size (drop size o))

pub parted : (limit : ℕ) (o : List ℕ) → is_size limit ≡ true → is_whole limit o ≡ false →
    headed (length o) (part_head First) (part_head Middle) (part_head Last) (limit - 7) o ≡ tsdus_of limit (DT o)
parted limit o size h = grind (arith, more_octets, lt-leb, later_lent, sent_parted)

-- ---- one TSDU

pub alone : (fuel size : ℕ) (head middle last o : List ℕ) → length o ≤ size → headed fuel head middle last size o ≡ (last ++ o) ∷ []
alone fuel size head middle last o short = grind (arith, le-leb)
