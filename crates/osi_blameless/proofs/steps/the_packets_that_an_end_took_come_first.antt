-- Two readings of what an end holds and uses as packets agree as far as they matter: those that it took are the first of the others.
-- For the units between an end and a judge.
use Rattle.osi_blameless.proofs.Vocabulary.{[], ap, arith, length, List, None, Option, refl, Some, sym, ℕ, ◌++◌, ◌+◌, ◌∙◌, ◌∷◌, ◌≡◌, ◌≢◌}
use Rattle.osi_blameless.proofs.Vocabulary.{◌≤◌, append-nil, length-append, ArePackets, EndReason, first, GoesBeyond, second, two_readings}

longer : (us : List (List ℕ)) (x y : List ℕ) → ArePackets us x y → length y + length us ≤ length x
longer [] x y e = omega (arith, ap length e)
longer (u ∷ us) x y (b, t, p, e, more) = grind (arith, length-append, longer us t y more)

pub none_left : (us : List (List ℕ)) (x y : List ℕ) → ArePackets us x y → x ≡ y → us ≡ []
none_left [] x y h e = refl
none_left (u ∷ us) x y h e = absurd (omega (arith, longer (u ∷ us) x y h, ap length e))

-- These packets are the first of those, and all of them as long as the end lasts.
pub record AreFirst (units used : List (List ℕ)) (ended : Option EndReason) : Type 0 where
  pub more : List (List ℕ)
  pub is : used ≡ units ++ more
  pub all : ended ≡ None → more ≡ []

-- An end took packets of what it held and used, and holds the rest as long as it lasts. Another reading of these octets has them
-- first, if it has the same rest then, and after the end no packet is left in its rest.
pub are_first : (units used : List (List ℕ)) (s r q : List ℕ) (ended : Option EndReason) → ArePackets units s r → ArePackets used s q →
    (ended ≡ None → r ≡ q) → (ended ≢ None → (more : List (List ℕ)) (last : List ℕ) → ArePackets more q last → more ≡ []) →
    AreFirst units used ended
are_first units used s r q ended h k same none = by ended refl (two_readings units used s r q h k)
  where
    by : (o : Option EndReason) → ended ≡ o → GoesBeyond units used r q → AreFirst units used ended
    by None e (second more is p) = record {
      more = more;
      is = is;
      all = λ lasts. none_left more r q p (same lasts);
    }
    by None e (first more is p) =
        let empty = none_left more q r p (sym (same e)) in
        record {
          more = [];
          is = sym (is ∙ ap (λ (l : List (List ℕ)). used ++ l) empty ∙ append-nil used) ∙ sym (append-nil units);
          all = λ lasts. refl;
        }
    by (Some reason) e (second more is p) = record {
      more = more;
      is = is;
      all = λ lasts. let no : Some reason ≡ None = sym e ∙ lasts in absurd (cc);
    }
    by (Some reason) e (first more is p) =
        let empty = none (λ lasts. let no : Some reason ≡ None = sym e ∙ lasts in cc) more r p in
        grind (arith, append-nil)
