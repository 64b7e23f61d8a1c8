-- Length indicators, read and written.
use Rattle.osi_spdu.proofs.Vocabulary.{cases_lt, le-ltb, eqb-true, eqb-false, ne_eqb, take_at, drop_at, take-append-drop, length-append}
use Rattle.osi_spdu.proofs.Vocabulary.{length-take, length-drop, length-take-le, get_or-drop, get_or-take, get_or_past, IsOctets, Measured}
use Rattle.osi_spdu.proofs.Vocabulary.{long_at, measured_at, length_octets, HasLength, indicator_len, ◌⊎◌, ◌≡◌, ℕ, suc, ◌+◌, ◌*◌, ◌<◌, Bool}
use Rattle.osi_spdu.proofs.Vocabulary.{true, false, cond, List, [], ◌∷◌, ◌++◌, length, drop, Ok, arith, refl, subst}

pub octets-drop : (n : ℕ) (octets : List ℕ) → IsOctets octets → IsOctets (drop n octets)
octets-drop n octets h i = rw get_or-drop (h (n + i))

pub octets-tail : (b : ℕ) (octets : List ℕ) → IsOctets (b ∷ octets) → IsOctets octets
octets-tail b octets h i = h (suc i)

pub octets-behind : (front rest : List ℕ) → IsOctets (front ++ rest) → IsOctets rest
octets-behind front rest fits = subst IsOctets (drop_at front rest (length front) refl) (octets-drop (length front) (front ++ rest) fits)

-- octets that begin with a length indicator and what it counts
pub record IsMeasured (m : Measured) (octets : List ℕ) : Type 0 where
  pub long : Bool
  pub counted : HasLength long (length m.value)
  pub parts : octets ≡ length_octets long (length m.value) ++ m.value ++ m.rest
  pub value_octets : IsOctets m.value
  pub rest_octets : IsOctets m.rest
  pub shorter : length m.rest < length octets

long_ok : (at : ℕ) (octets : List ℕ) (m : Measured) → IsOctets octets → long_at at octets ≡ Ok m → IsMeasured m (255 ∷ octets)
unfolding long_at
long_ok at (high ∷ low ∷ octets) m fits e =
    let n = 256 * high + low in
    let h : high < 256 = fits 0 in
    let l : low < 256 = fits 1 in
    let rest : IsOctets octets = octets-tail low octets (octets-tail high (low ∷ octets) fits) in
    grind (arith, take-append-drop, cases_lt, get_or-take, get_or_past, length-take, octets-drop, length-drop)
long_ok at _ m fits e = absurd cc

pub chosen : {A : Type 0} (b : Bool) (x y z : A) → cond b x y ≡ z → ((b ≡ true) × (x ≡ z)) ⊎ ((b ≡ false) × (y ≡ z))
chosen b x y z e = grind arith

pub measured_ok : (at : ℕ) (octets : List ℕ) (m : Measured) → IsOctets octets → measured_at at octets ≡ Ok m → IsMeasured m octets
unfolding measured_at
measured_ok at [] m fits e = absurd cc
measured_ok at (n ∷ octets) m fits e =
    let b : n < 256 = fits 0 in
    let tail = octets-tail n octets fits in
    grind (
      arith,
      eqb-true,
      eqb-false,
      long_ok at octets m tail,
      length-take-le,
      take-append-drop,
      cases_lt,
      get_or-take,
      get_or_past,
      length-take,
      octets-drop,
      length-drop,
    )

pub measured_again : (at : ℕ) (long : Bool) (value rest : List ℕ) → HasLength long (length value)
    → measured_at at (length_octets long (length value) ++ value ++ rest) ≡ Ok
    (record { used = indicator_len long; value = value; rest = rest })
unfolding measured_at long_at
measured_again at long value rest h0 = grind (arith, ne_eqb, le-ltb, length-append, take_at, drop_at)
