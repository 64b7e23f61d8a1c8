-- Messages that are alike to a receiver: the same, or, if it is closing, the same but for the beginning of the first.
-- For what is in flight, calls, breaks and ends and packets.
use Rattle.osi_between.specs.Messages as carrier
use Rattle.osi_pair.proofs.Vocabulary.{◌≡◌, ℕ, Bool, true, false, List, [], ◌∷◌, ◌++◌, length, take, Some, refl, sym, ap, subst, ◌∙◌}
use Rattle.osi_pair.proofs.Vocabulary.{take-append_seam, Place, was_given, closing, connection_in, progress_of, AreLike, first_led_by}
use Rattle.osi_pair.proofs.Vocabulary.{led_by, led_none, led_twice, Progress, shutting, AreAlike, MayLackABeginning}
use Rattle.osi_pair.proofs.flight.what_may_arrive_row_by_row.{Row, still, ignores, before, after}

abbrev pub Sent : Type 0
Sent = List carrier.Message

abbrev pub shuts : Progress → Bool
shuts shutting = true
shuts g = false

pub same_alike : (g : Progress) (xs ys : Sent) → xs ≡ ys → AreAlike g xs ys
same_alike shutting xs ys e = record { lacking = []; is = e ∙ sym (led_none ys) }
same_alike g xs ys e = e

-- ---- messages that are like at a connection

lacks_twice : (xs ys zs : Sent) → MayLackABeginning xs ys → MayLackABeginning ys zs → MayLackABeginning xs zs
lacks_twice xs ys zs h k = record {
  lacking = h.lacking ++ k.lacking;
  is = h.is ∙ ap (first_led_by h.lacking) k.is ∙ sym (led_twice h.lacking k.lacking zs);
}

-- they are alike there
pub like_alike : (p : Place) (xs ys : Sent) → AreLike (connection_in p) xs ys → AreAlike (progress_of p) xs ys
like_alike (was_given (Some (closing peer))) xs ys h = h
like_alike p xs ys h = h

-- and so are those that were alike before, if a receiver that is closing was closing before too
pub alike_like : (g : Progress) (p : Place) (xs ys zs : Sent) → (shuts (progress_of p) ≡ true → shuts g ≡ true) → AreAlike g xs ys →
    AreLike (connection_in p) ys zs → AreAlike g xs zs
alike_like shutting (was_given (Some (closing peer))) xs ys zs shut h k = lacks_twice xs ys zs h k
alike_like g (was_given (Some (closing peer))) xs ys zs shut h k = absurd (let no : false ≡ true = shut refl in cc)
alike_like g p xs ys zs shut h k = subst (AreAlike g xs) k h

pub alike_then : (g : Progress) (p : Place) (xs ys zs : Sent) → (shuts g ≡ true → shuts (progress_of p) ≡ true) → AreAlike g xs ys →
    AreLike (connection_in p) ys zs → AreAlike (progress_of p) xs zs
alike_then shutting (was_given (Some (closing peer))) xs ys zs shut h k = lacks_twice xs ys zs h k
alike_then shutting p xs ys zs shut h k = absurd (let no : false ≡ true = shut refl in cc)
alike_then g p xs ys zs shut h k = subst (λ (l : Sent). AreAlike (progress_of p) l zs) (sym h) (like_alike p ys zs k)

row_shuts : (row : Row) → shuts (after row) ≡ true → shuts (before row) ≡ true
row_shuts still e = refl
row_shuts (ignores octets) e = refl
row_shuts row e = cc

-- when a unit was taken
pub alike_row : (row : Row) (old new : Place) (xs ys zs : Sent) → progress_of old ≡ before row → progress_of new ≡ after row →
    AreAlike (progress_of old) xs ys → AreLike (connection_in new) ys zs → AreAlike (before row) xs zs
alike_row row old new xs ys zs e f h k =
    alike_like (before row) new xs ys zs (λ s. row_shuts row (sym (ap shuts f) ∙ s)) (subst (λ (g : Progress). AreAlike g xs ys) e h) k

-- ---- the first of them, and the last

none_taken : (xs : Sent) → take 0 xs ≡ []
none_taken [] = refl
none_taken (x ∷ xs) = refl

pub alike_take : (g : Progress) (xs ys gone : Sent) → AreAlike g xs (ys ++ gone) → AreAlike g (take (length ys) xs) ys
alike_take shutting xs [] gone h = record { lacking = []; is = none_taken xs }
alike_take shutting xs (y ∷ ys) gone h = record {
  lacking = h.lacking;
  is = ap (take (length (y ∷ ys))) h.is ∙ take-append_seam (led_by h.lacking y ∷ ys) gone;
}
alike_take g xs ys gone h = ap (take (length ys)) h ∙ take-append_seam ys gone

-- more are put after them
pub alike_more : (g : Progress) (xs ys more : Sent) → AreAlike g xs ys → AreAlike g (xs ++ more) (ys ++ more)
alike_more shutting xs [] more h = record { lacking = []; is = ap (λ (l : Sent). l ++ more) h.is ∙ sym (led_none more) }
alike_more shutting xs (y ∷ ys) more h = record { lacking = h.lacking; is = ap (λ (l : Sent). l ++ more) h.is }
alike_more g xs ys more h = ap (λ (l : Sent). l ++ more) h

-- only the first may lack a beginning
pub record FirstAlike (g : Progress) (x : carrier.Message) (xs : Sent) (m : carrier.Message) (rest : Sent) : Type 0 where
  pub is : AreAlike g (x ∷ []) (m ∷ [])
  pub stays : xs ≡ rest

one_same : (x m : carrier.Message) (xs rest : Sent) → x ∷ xs ≡ m ∷ rest → (x ∷ [] ≡ m ∷ []) × (xs ≡ rest)
one_same x m xs rest e = let first : x ≡ m = cc in (ap (λ (y : carrier.Message). y ∷ []) first, (cc))

pub first_alike : (g : Progress) (x : carrier.Message) (xs : Sent) (m : carrier.Message) (rest : Sent) → AreAlike g (x ∷ xs) (m ∷ rest) →
    FirstAlike g x xs m rest
first_alike shutting x xs m rest h =
    let y = one_same x (led_by h.lacking m) xs rest h.is in
    record { is = record { lacking = h.lacking; is = y.0 }; stays = y.1 }
first_alike g x xs m rest h = let y = one_same x m xs rest h in record { is = y.0; stays = y.1 }

pub none_alike : (g : Progress) (m : carrier.Message) (rest : Sent) → AreAlike g [] (m ∷ rest) → ⊥
none_alike shutting m rest h = let no : [] ≡ led_by h.lacking m ∷ rest = h.is in cc
none_alike g m rest h = cc

-- ---- kinds

-- a message without the octets of its TSDU
abbrev pub kind_of : carrier.Message → carrier.Message
kind_of (carrier.message octets) = carrier.message []
kind_of m = m

led_kind : (octets : List ℕ) (m : carrier.Message) → kind_of (led_by octets m) ≡ kind_of m
led_kind octets (carrier.message rest) = refl
led_kind octets m = refl

first_same : (x y : carrier.Message) → x ∷ [] ≡ y ∷ [] → x ≡ y
first_same x y e = cc

pub alike_kind : (g : Progress) (x m : carrier.Message) → AreAlike g (x ∷ []) (m ∷ []) → kind_of x ≡ kind_of m
alike_kind shutting x m h = ap kind_of (first_same x (led_by h.lacking m) h.is) ∙ led_kind h.lacking m
alike_kind g x m h = ap kind_of (first_same x m h)
