-- The octet of a set of tokens names these tokens.
use Rattle.osi_message.proofs.Vocabulary.{◌≡◌, refl, Bool, true, false, bit_and, Tokens, named, token_octet}

abbrev tokens_with : Bool → Bool → Bool → Bool → Tokens
tokens_with a b c d = record { data_token = a; minor = b; major = c; release = d }

-- and has no bit that names no token
each : (a b c d : Bool) → (let t = tokens_with a b c d in (named (token_octet t) ≡ t) × (bit_and (token_octet t) 85 ≡ token_octet t))
unfolding token_octet
each true true true true = (refl, refl)
each true true true false = (refl, refl)
each true true false true = (refl, refl)
each true true false false = (refl, refl)
each true false true true = (refl, refl)
each true false true false = (refl, refl)
each true false false true = (refl, refl)
each true false false false = (refl, refl)
each false true true true = (refl, refl)
each false true true false = (refl, refl)
each false true false true = (refl, refl)
each false true false false = (refl, refl)
each false false true true = (refl, refl)
each false false true false = (refl, refl)
each false false false true = (refl, refl)
each false false false false = (refl, refl)

pub named_octet : (t : Tokens) → named (token_octet t) ≡ t
named_octet t = (each t.data_token t.minor t.major t.release).0

pub octet_kept : (t : Tokens) → bit_and (token_octet t) 85 ≡ token_octet t
octet_kept t = (each t.data_token t.minor t.major t.release).1
