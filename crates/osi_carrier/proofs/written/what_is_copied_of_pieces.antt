-- Copies of what is left of the TSDUs that are cut from octets, one after the other.
-- For `copies` of pieces.
use Rattle.osi_carrier.proofs.Vocabulary.{append-nil, arith, ◌≡◌, refl, ℕ, ◌<◌, ◌≤◌, List, [], ◌∷◌, ◌++◌, length, take, drop, left_after}
use Rattle.osi_carrier.proofs.Vocabulary.{tsdus_from, tsdus_in, FitsTsdu, FitTsdus, Pieces}
use Rattle.osi_carrier.proofs.written.octets_are_cut_into_tsdus.{cut_next}
use Rattle.osi_carrier.proofs.written.what_is_left_after_some_units.{left_of_none}

-- What is left of the TSDUs before this head is copied, and `left` units are those of the others.
pub record IsCopied (p : Pieces) (limit units : ℕ) (done : List (List ℕ)) (left : ℕ) (head rest : List ℕ) : Type 0 where
  pub fits : FitsTsdu p.size head
  pub all : done ++ left_after left limit (tsdus_from p head rest) ≡ left_after units limit (tsdus_in p)

pub copying_first : (p : Pieces) (limit units : ℕ) → FitTsdus p → IsCopied p limit units [] units p.first.now p.octets.now
copying_first p limit units fit = record { fits = fit.first; all = refl }

pub copying_next : (p : Pieces) (limit units : ℕ) (done after : List (List ℕ)) (left more : ℕ) (head rest piece behind : List ℕ) →
    FitTsdus p → IsCopied p limit units done left head rest → p.size < length rest → piece ≡ take p.size rest →
    behind ≡ drop p.size rest →
    ((others : List (List ℕ)) → after ++ left_after more limit others ≡ done ++ left_after left limit ((head ++ piece) ∷ others)) →
    IsCopied p limit units after more p.middle.now behind
copying_next p limit units done after left more head rest piece behind fit h long first next put = grind (arith, cut_next)

pub copying_last : (p : Pieces) (limit units : ℕ) (done after : List (List ℕ)) (left more : ℕ) (head rest : List ℕ) →
    IsCopied p limit units done left head rest → length rest ≤ p.size →
    ((others : List (List ℕ)) → after ++ left_after more limit others ≡ done ++ left_after left limit ((p.last.now ++ rest) ∷ others)) →
    after ≡ left_after units limit (tsdus_in p)
copying_last p limit units done after left more head rest h short put = grind (arith, append-nil, left_of_none)
