-- Of the connections that are open at the judge of a calling end, be they judged or not, no two have the same reference of the other side.
-- For the law on a whole end.
use Rattle.osi_blameless.proofs.transport.Vocabulary.{arith, [], false, List, refl, Some, suc, true, zero, ℕ, ◌++◌, ◌∷◌, ◌≡◌, eq-eqb}
use Rattle.osi_blameless.proofs.transport.Vocabulary.{slice_get, ◌||◌}
use Rattle.osi_blameless.proofs.transport.Vocabulary.{is_closing, is_open, is_over, is_silent, uses, Traffic, Connection, Left, Right}
use Rattle.osi_blameless.proofs.transport.Vocabulary.{Phase}
use Rattle.osi_blameless.proofs.transport.small_facts_that_many_lemmas_use.{and_first, and_second, name_so}
use Rattle.osi_blameless.proofs.transport.connections.what_stays_of_each_connection.{is_tracked}
use Rattle.osi_blameless.proofs.transport.names.what_keeps_names_apart.{Sound}
use Rattle.osi_blameless.proofs.transport.names.names_stay_apart_though_one_is_lost.{AreNamedApart, each_sound}
use Rattle.osi_blameless.proofs.transport.connections.what_the_other_side_closes.{IsSane}
pub use Rattle.osi_blameless.proofs.transport.small_facts_that_many_lemmas_use.{both, differ}

-- ---- where an item is

pub added_still : {X : Type 0} (xs : List X) (i : ℕ) (x y : X) → slice_get xs i ≡ Some y → slice_get (xs ++ x ∷ []) i ≡ Some y
added_still [] i x y h = absurd (cc)
added_still (z ∷ xs) zero x y h = h
added_still (z ∷ xs) (suc i) x y h = added_still xs i x y h

-- ---- a connection that is open

pub left_open : (c : Connection) → is_tracked c ≡ true → is_open c.left.phase ≡ true
left_open c h = and_first (is_open c.left.phase) (is_open c.right.phase || is_closing c.right.phase) h

pub right_there : (c : Connection) → is_tracked c ≡ true → (is_open c.right.phase || is_closing c.right.phase) ≡ true
right_there c h = and_second (is_open c.left.phase) (is_open c.right.phase || is_closing c.right.phase) h

pub there_not_silent : (p : Phase) → (is_open p || is_closing p) ≡ true → is_silent p ≡ false
there_not_silent p h = grind arith

pub tracked_over : (c : Connection) → Sound c → is_tracked c ≡ true → is_over Left c ≡ true → ⊥
tracked_over c s h gone = grind (arith, right_there, left_open, and_second)

-- right uses its reference
pub uses_tracked : (c : Connection) (n : ℕ) → Sound c → is_tracked c ≡ true → c.right.reference ≡ n → uses Right n c ≡ true
uses_tracked c n s h e = grind (arith, name_so, left_open, right_there, and_second, there_not_silent, eq-eqb)

pub one_peer : (s : Traffic) → IsSane s → AreNamedApart Right s.connections → (p q : ℕ) (c e : Connection) →
    slice_get s.connections p ≡ Some c → slice_get s.connections q ≡ Some e → is_tracked c ≡ true → is_tracked e ≡ true →
    c.right.reference ≡ e.right.reference → p ≡ q
one_peer s sane peers p q c e at there a b same =
    peers.used e.right.reference p q c e at there
    (uses_tracked c e.right.reference (each_sound Right s.connections sane.apart peers p c at) a same)
    (uses_tracked e e.right.reference (each_sound Right s.connections sane.apart peers q e there) b refl)
