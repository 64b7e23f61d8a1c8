-- Of what C was told is looked up by its number and its side, or by its side. For `Told`.
use Rattle.std.proofs.Common.{◌≡◌, refl, ap, ℕ, zero, suc, ◌+◌, ◌<◌, ◌≤◌, arith, List, [], ◌∷◌, ◌++◌, length, get_or, Bool, false}
use Rattle.std.proofs.Math.Path.{fun_ext}
use Rattle.osi_side.specs.declared.directions.Direction.{Direction}
use Rattle.osi_side.specs.declared.directions.Direction.TheVariants.{Left, Right}
use Rattle.osi_c.specs.Subjects.{neither, no_subject, side_told, told_by}
use Rattle.osi_c.specs.declared.subjects.Subject.{Subject}
use Rattle.osi_c.specs.declared.subjects.Subject.TheVariants.{Session, Transport, Rest}
use Rattle.osi_c.specs.declared.told.Sides.{Sides}
use Rattle.osi_c.specs.declared.told.Told.{Told}

-- ---- two that tell the same

-- of each session, transport and rest
told_alike : (t : Told) (told : Subject → Bool) → ((n : ℕ) (d : Direction) → told_by t (Session n d) ≡ told (Session n d))
    → ((d : Direction) → told_by t (Transport d) ≡ told (Transport d)) → ((d : Direction) → told_by t (Rest d) ≡ told (Rest d))
    → told_by t ≡ told
told_alike t told sessions transports rests = fun_ext by
  where
    by : (k : Subject) → told_by t k ≡ told k
    by (Session n d) = sessions n d
    by (Transport d) = transports d
    by (Rest d) = rests d

of_neither : (s : Sides) (d : Direction) → s ≡ neither → side_told s d ≡ false
of_neither s Left e = ap (λ (z : Sides). side_told z Left) e
of_neither s Right e = ap (λ (z : Sides). side_told z Right) e

pub none_told : (t : Told) → t.sessions.items ≡ [] → t.transports ≡ neither → t.rests ≡ neither → told_by t ≡ no_subject
none_told t e f g = told_alike t no_subject
    (λ n d. of_neither (get_or t.sessions.items n neither) d (ap (λ (l : List Sides). get_or l n neither) e))
    (λ d. of_neither t.transports d f) (λ d. of_neither t.rests d g)

-- ---- the sides of a connection

pub sides_past : (ss : List Sides) (n : ℕ) (d : Direction) → length ss ≤ n → false ≡ side_told (get_or ss n neither) d
sides_past [] n Left le = refl
sides_past [] n Right le = refl
sides_past (s ∷ ss) zero d le = absurd (omega (arith, le))
sides_past (s ∷ ss) (suc n) d le = sides_past ss n d (omega (arith, le))

pub sides_there : (ss : List Sides) (n : ℕ) (s : Sides) → n < length ss → get_or ss n s ≡ get_or ss n neither
sides_there [] n s lt = absurd (omega (arith, lt))
sides_there (r ∷ ss) zero s lt = refl
sides_there (r ∷ ss) (suc n) s lt = sides_there ss n s (omega (arith, lt))

-- ---- places for more connections

pub place_more : (ss : List Sides) (n : ℕ) → get_or (ss ++ neither ∷ []) n neither ≡ get_or ss n neither
place_more [] zero = refl
place_more [] (suc n) = refl
place_more (s ∷ ss) zero = refl
place_more (s ∷ ss) (suc n) = place_more ss n
