-- The lines of a script.
use Rattle.std.specs.Prelude.{ℕ, ◌==◌, Bool, true, List, [], ◌∷◌}

-- a line that asks for nothing: it is empty, or begins with a number sign
abbrev pub is_skipped : List ℕ → Bool
is_skipped [] = true
is_skipped (octet ∷ octets) = octet == 35
