-- Two configurations of an end with the same numbers are the same.
-- For one_line_has_one_effect.
use Rattle.osi_transcript.proofs.Vocabulary.{arith, ◌≡◌, ℕ, ◌≤◌, Bool, ap₂, subst, le_prop, Local, SizeCode, Window, size_code}
use Rattle.osi_transcript.proofs.Vocabulary.{window_units}

size_same : (s t : SizeCode) → size_code s ≡ size_code t → s ≡ t
size_same s t e =
    subst (λ (m : ℕ). (p : 7 ≤ m) (q : m ≤ 13) → s ≡ record { code = m; at_least = p; at_most = q }) e
    (λ p q. ap₂ (λ (a : 7 ≤ s.code) (b : s.code ≤ 13). record { code = s.code; at_least = a; at_most = b }) (le_prop s.at_least p)
    (le_prop s.at_most q)) t.at_least t.at_most

window_same : (s t : Window) → window_units s ≡ window_units t → s ≡ t
window_same s t e =
    subst (λ (m : ℕ). (p : 1 ≤ m) (q : m ≤ 15) → s ≡ record { units = m; at_least = p; at_most = q }) e
    (λ p q. ap₂ (λ (a : 1 ≤ s.units) (b : s.units ≤ 15). record { units = s.units; at_least = a; at_most = b }) (le_prop s.at_least p)
    (le_prop s.at_most q)) t.at_least t.at_most

with_terms : Bool → Bool → SizeCode → Window → Local
with_terms zero two size window = record { class0 = zero; class2 = two; size = size; window = window }

pub one_local : (a b : Local) → a.class0 ≡ b.class0 → a.class2 ≡ b.class2 → size_code a.size ≡ size_code b.size →
    window_units a.window ≡ window_units b.window → a ≡ b
unfolding with_terms
one_local a b zero two size window = grind (arith, with_terms, size_same a.size b.size size, window_same a.window b.window window)
