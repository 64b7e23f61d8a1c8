-- Reads one after the other take what is known of a text, one piece after the other.
use Rattle.std.proofs.Common.{ℕ, ◌≡◌, Option, Some, None, List, ◌++◌, sym, ◌∙◌, ap}
use Rattle.std.proofs.lemmas.List.{append_assoc}
use Rattle.std.specs.Io.KnownBytes.{Consumes}

pub consumes-append : (a b c : Option (List ℕ)) (xs ys : List ℕ) → Consumes a b xs → Consumes b c ys → Consumes a c (xs ++ ys)
consumes-append None b c xs ys h k = tt
consumes-append (Some x) None c xs ys h k = absurd h
consumes-append (Some x) (Some y) None xs ys h k = absurd k
consumes-append (Some x) (Some y) (Some z) xs ys h k = h ∙ ap (λ t. xs ++ t) k ∙ sym (append_assoc xs ys z)
