-- The four tokens, and sets of them.
use Rattle.std.specs.Prelude.{ℕ, ◌+◌, ◌==◌, Bool, true, false, not, ◌&&◌, ◌||◌}
use Rattle.std.specs.Int.RustNames.{bit_and}
use Rattle.osi_message.specs.declared.tokens.Tokens.{Tokens}

pub data Token : Type 0 where
  data_token : Token
  minor : Token
  major : Token
  release : Token

abbrev pub has : Tokens → Token → Bool
has s data_token = s.data_token
has s minor = s.minor
has s major = s.major
has s release = s.release

-- a set, from the test of each token
abbrev pub set_of : (Token → Bool) → Tokens
set_of p = record { data_token = p data_token; minor = p minor; major = p major; release = p release }

abbrev pub each : (Token → Bool) → Bool
each p = p data_token && (p minor && (p major && p release))

abbrev pub some : (Token → Bool) → Bool
some p = p data_token || (p minor || (p major || p release))

abbrev pub no_token : Tokens
no_token = set_of (λ t. false)

-- the bit of each token in a token item
abbrev pub bit_of : Token → ℕ
bit_of data_token = 1
bit_of minor = 4
bit_of major = 16
bit_of release = 64

-- the tokens whose bits are set
abbrev pub named : ℕ → Tokens
named octet = set_of (λ t. bit_and octet (bit_of t) == bit_of t)

abbrev pub bit_if : Bool → Token → ℕ
bit_if true t = bit_of t
bit_if false t = 0

-- the octet with the bits of the tokens, and no other
unfoldable pub token_octet : Tokens → ℕ
token_octet s = bit_if s.data_token data_token + bit_if s.minor minor + bit_if s.major major + bit_if s.release release

unfoldable pub is_empty : Tokens → Bool
is_empty s = not (some (has s))

-- each token of the first is in the second
unfoldable pub is_within : Tokens → Tokens → Bool
is_within a b = each (λ t. not (has a t) || has b t)

-- no token is in both
unfoldable pub is_disjoint : Tokens → Tokens → Bool
is_disjoint a b = each (λ t. not (has a t && has b t))

-- the tokens of the first that are not in the second
unfoldable pub without : Tokens → Tokens → Tokens
without a b = set_of (λ t. has a t && not (has b t))

unfoldable pub united : Tokens → Tokens → Tokens
united a b = set_of (λ t. has a t || has b t)
