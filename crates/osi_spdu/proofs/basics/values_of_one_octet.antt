-- Values of one octet.
use Rattle.osi_spdu.proofs.Vocabulary.{octet_if, is_setting, token_bits, setting_octets, ◌≡◌, ℕ, ◌≤◌, Bool, true, false, cond, List, []}
use Rattle.osi_spdu.proofs.Vocabulary.{◌∷◌, length, get_or, Option, Some, None, MatchOption, option_map, arith, and_assoc, TokenSetting}

pub octet_if_one : (good : ℕ → Bool) (form : ℕ → ℕ) (v : List ℕ) → 1 ≤ length v → length v ≤ 1 →
    octet_if good form v ≡ cond (good (get_or v 0 0)) (Some (form (get_or v 0 0) ∷ [])) None
octet_if_one good form v low high = grind arith

-- a setting is written as it was read
pub setting_read : (o : Option TokenSetting) (b : ℕ) →
    MatchOption o (is_setting b ≡ false) (λ s. (is_setting b ≡ true) × (setting_octets s ≡ b ∷ []))
    → cond (is_setting b) (Some (b ∷ [])) None ≡ option_map setting_octets o
setting_read o b h = grind arith

-- dropping bits twice is dropping them once
pub token_bits_again : (b : ℕ) → token_bits (token_bits b) ≡ token_bits b
token_bits_again b = and_assoc 85 b 85
