-- Parts of one Data: how they are written and read.
use Rattle.std.proofs.Common.{◌≡◌, ◌∙◌, refl, ap, ℕ, List, [], ◌∷◌, Some, Result, Ok, arith}
use Rattle.osi_message.proofs.Vocabulary.{append-nil, DataTransfer, GiveTokens, Enclosure, SpduFault, number_of, is_group, category_of}
use Rattle.osi_message.proofs.Vocabulary.{codes_of, members_of, required_of, si_of, nothing, put, Contents, Units, canonical, tsdu_at}
use Rattle.osi_message.proofs.Vocabulary.{written_code, body_octets, unit_octets, tsdu_octets, is_formed, free_len, IsFormedUnit}
use Rattle.osi_message.proofs.Vocabulary.{IsFormedTsdu, UnitFits, TsduFits, Place, no_token, GT, says, part, Words, enclosure_of}
use Rattle.osi_message.proofs.Vocabulary.{part_octets, meaning, word, said_if_read, said_at, unit_with, behind_tokens}
use Rattle.osi_message.proofs.what_can_be_sent_has_a_written_form.{HaveRoom, no_value, with_one, no_tokens_fit, behind_formed}

-- ---- how a part is written

-- the DT of a part
abbrev part_unit : Place → List ℕ → Contents
part_unit place octets = record { kind = DataTransfer; known = put Enclosure (enclosure_of place ∷ []) nothing; information = octets }

enclosure_good : (place : Place) → canonical Enclosure (enclosure_of place ∷ []) ≡ Some (enclosure_of place ∷ [])
unfolding canonical
enclosure_good place = grind arith

part_formed : (place : Place) (octets : List ℕ) → IsFormedUnit (part_unit place octets)
unfolding is_formed codes_of members_of required_of number_of
part_formed place octets = record { canonical_values = grind (arith, no_value, with_one, enclosure_good); formed = refl; informed = tt }

part_fits : HaveRoom → (place : Place) (octets : List ℕ) → UnitFits (part_unit place octets)
unfolding free_len number_of
part_fits room place octets = room (part_unit place octets) (grind (arith, no_value, with_one, enclosure_good)) (omega arith)

part_behind : (place : Place) (octets : List ℕ) → IsFormedTsdu (behind_tokens (part_unit place octets))
unfolding category_of
part_behind place octets = behind_formed (part_unit place octets) refl (part_formed place octets)

part_written : (place : Place) (octets : List ℕ) → tsdu_octets (behind_tokens (part_unit place octets)) ≡ part_octets place octets
unfolding tsdu_octets unit_octets body_octets written_code is_group codes_of si_of number_of
part_written place octets = ap (part_octets place) (append-nil octets)

-- ---- the word of a part

part_says : (place : Place) (octets : List ℕ) → word (part_unit place octets) ≡ part place octets
unfolding word number_of
part_says place octets = grind arith

tokens_say : word (unit_with GiveTokens nothing) ≡ says (GT no_token)
unfolding word meaning
tokens_say = refl

-- the octets of a part read back as that part
pub part_said : HaveRoom → ((units : Units) → IsFormedTsdu units → TsduFits units → tsdu_at (tsdu_octets units) ≡ Ok units)
    → (place : Place) (octets : List ℕ) → said_at (part_octets place octets) ≡ Ok (says (GT no_token) ∷ part place octets ∷ [])
unfolding said_at
part_said room again place octets =
    let units = behind_tokens (part_unit place octets) in
    let read : tsdu_at (part_octets place octets) ≡ Ok units =
    grind (arith, part_written place octets, part_behind place octets, no_tokens_fit room, part_fits room place octets) in
    ap said_if_read read ∙ ap {B = Result Words SpduFault} Ok (grind (arith, tokens_say, part_says))
