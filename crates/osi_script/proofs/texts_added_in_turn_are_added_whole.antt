-- Pieces of text one after the other.
use Rattle.std.proofs.Common.{arith, ◌≡◌, ◌∙◌, ℕ, List, ◌++◌, ap}
use Rattle.std.proofs.lemmas.List.{append_assoc}

-- the line of an indication: its head, its fields and its end
pub line_joined : (out t1 t2 t3 head name fields octets end : List ℕ) → t1 ≡ out ++ (head ++ name) → t2 ≡ t1 ++ fields
    → t3 ≡ t2 ++ (octets ++ end) →
    t3 ≡ out ++ (head ++ (name ++ fields ++ octets) ++ end)
line_joined out t1 t2 t3 head name fields octets end h1 h2 h3 =
    h3 ∙ ap (λ (t : List ℕ). t ++ (octets ++ end)) (h2 ∙ ap (λ (t : List ℕ). t ++ fields) h1)
    ∙ ap (λ (t : List ℕ). t ++ (octets ++ end)) (append_assoc out (head ++ name) fields)
    ∙ append_assoc out (head ++ name ++ fields) (octets ++ end)
    ∙ ap (λ (t : List ℕ). out ++ t) (grind (arith, append_assoc))
