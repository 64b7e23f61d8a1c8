-- What is written of a field reads back as it.
use Rattle.osi_message.proofs.Vocabulary.{bit_and, and_assoc, TsduMaximumSize, Wish, TokenSetting, wish_number, size_octets, setting_octets}
use Rattle.osi_message.proofs.Vocabulary.{named, sizes_in, setting_named, first_in, ◌≡◌, ℕ, ◌+◌, ◌*◌, ◌/◌, ◌%◌, ◌≤◌, Some, eqb, arith}

-- the bits that name no token make no difference
pub named_again : (t : ℕ) → named (bit_and t 85) ≡ named t
named_again t = grind (arith, eqb, and_assoc)

pub wish_small : (w : Wish) → wish_number w ≤ 2
wish_small w = grind arith

-- four pairs of bits are read as the wishes that they represent
pub pairs_again : (a b c d : ℕ) → a ≤ 2 → b ≤ 2 → c ≤ 2 → d ≤ 2 →
    let n : ℕ = a + 4 * b + 16 * c + 64 * d in
    (n % 4 ≡ a) × (n / 4 % 4 ≡ b) × (n / 16 % 4 ≡ c) × (n / 64 ≡ d)
pairs_again a b c d p q r s = (omega arith, omega arith, omega arith, omega arith)

pub setting_again : (s : TokenSetting) → setting_named (first_in (setting_octets s)) ≡ s
setting_again s =
    let e = pairs_again (wish_number s.data_token) (wish_number s.minor) (wish_number s.major) (wish_number s.release)
    (wish_small s.data_token) (wish_small s.minor) (wish_small s.major) (wish_small s.release) in
    grind arith

-- two numbers of two octets are read as the sizes that they represent
pub sizes_again : (s : TsduMaximumSize) → sizes_in (Some (size_octets s)) ≡ s
sizes_again s = grind arith
