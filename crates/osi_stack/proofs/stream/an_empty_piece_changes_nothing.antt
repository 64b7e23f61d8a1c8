-- An empty piece changes nothing.
use Rattle.std.proofs.Common.{◌≡◌, ℕ, ◌==◌, true, false, List, ◌∷◌, length, refl, arith, []}
use Rattle.osi_carrier.specs.Packets as carriers
use Rattle.osi_stack.proofs.Vocabulary.{eqb-true, append-nil, Fed, Carrying, stops, RunsDry, Goes, Holding, IsAttended, holding}
use Rattle.osi_stack.proofs.carried.events_one_after_the_other.{carrying_of}
use Rattle.osi_stack.proofs.carried.packets_without_events.{or_first}
use Rattle.osi_stack.proofs.stream.a_piece_look_by_look.{quiet_end}

dry_is : (old : Holding) (used : ℕ) (told : Carrying) → stops old.end ≡ false → carriers.RunsDry (carrying_of old) [] used told →
    told ≡ carrying_of old → RunsDry old [] 0 old
dry_is old used told quiet g same = grind (arith, append-nil, carrying_of)

-- no octet was used, nothing has changed, and this is a result of feeding
pub record IsIdle (old : Holding) (piece : List ℕ) (used : ℕ) (new : Holding) : Type 0 where
  pub same : new ≡ old
  pub none : used ≡ 0
  pub goes : Goes old piece used new

idle_by : (old new : Holding) (piece : List ℕ) (used : ℕ) → piece ≡ [] → used ≡ 0 → new ≡ old → RunsDry old [] 0 old →
    Goes old piece used new
idle_by old new piece used none unused same dry = grind arith

pub nothing_of : (l : List ℕ) → (length l == 0) ≡ true → l ≡ []
nothing_of [] e = refl
nothing_of (x ∷ l) e = let none = eqb-true (length (x ∷ l)) 0 e in absurd (omega arith)

-- an end whose carrier is fed nothing
pub idle_goes : (old : Holding) (piece : List ℕ) (fed : Fed) (told : Carrying) → (length piece == 0) ≡ true → stops old.end ≡ false →
    IsAttended old.end →
    carriers.Feeds (carrying_of old) piece fed told → (piece ≡ [] → (fed.used ≡ 0) × (told ≡ carrying_of old)) →
    IsIdle old piece fed.used (holding told old.end.lines)
idle_goes old piece fed told e quiet attended feeds empty =
    grind (arith, nothing_of, quiet_end, idle_by, dry_is, or_first, carrying_of, holding)
