-- Feeding a stream of octets, in whatever pieces it arrives, to something that takes one packet at a time and stops
-- after some of them.
use Rattle.std.specs.Prelude.{◌≡◌, ℕ, Bool, false, List, [], ◌∷◌}

-- The units of packets, taken one after the other. Each but the first is taken only if those before it did not stop.
abbrev pub TakesAll : {S : Type 0} → (S → List ℕ → S) → (S → Bool) → S → List (List ℕ) → S → Type 0
TakesAll after stops old [] new = new ≡ old
TakesAll after stops old (unit ∷ units) new = (stops old ≡ false) × TakesAll after stops (after old unit) units new
