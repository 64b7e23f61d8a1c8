-- What keeps the names of connections apart: each change of one connection, and a packet that begins.
-- For the law on references.
use Rattle.osi_blameless.proofs.transport.Vocabulary.{arith, [], Bool, false, List, map, Option, set, Some, true, ℕ, ◌++◌, ◌∷◌, ◌≡◌}
use Rattle.osi_blameless.proofs.transport.Vocabulary.{slice_get, ◌==◌, ◌||◌}
use Rattle.osi_blameless.proofs.transport.Vocabulary.{begins, is_closed, is_closing, is_named, is_over_by, is_refused, is_silent, uses}
use Rattle.osi_blameless.proofs.transport.Vocabulary.{judged_on}
use Rattle.osi_blameless.proofs.transport.Vocabulary.{Connection, Direction, Left, Right, Reach, Half, HoldsOfOne}
use Rattle.osi_blameless.proofs.transport.names.what_holds_of_one_item.{HoldsOfEach, each_add, each_map, each_set, one_added, one_changed}
use Rattle.osi_blameless.proofs.transport.names.what_holds_of_one_item.{one_mapped, one_put}
use Rattle.osi_blameless.proofs.transport.names.when_a_connection_has_a_name.{HalfMoves, IsEarlier, earlier_moves, earlier_same, named_by}
use Rattle.osi_blameless.proofs.transport.names.when_a_connection_has_a_name.{named_is_used}
use Rattle.osi_blameless.proofs.transport.names.when_a_connection_has_a_name.{named_still, still_closing, used_before, used_by, used_still}

-- what each side knows is of before, and a DC answers a DR
pub record Sound (c : Connection) : Type 0 where
  pub left_knows : IsEarlier c.seen_by_left c.right
  pub right_knows : IsEarlier c.seen_by_right c.left
  pub left_closed : is_closed c.left.phase ≡ true → is_closing c.right.phase ≡ true
  pub right_closed : is_closed c.right.phase ≡ true → is_closing c.left.phase ≡ true

abbrev pub SoundIf : Connection → Type 0
SoundIf c = c.is_judged ≡ true → Sound c

pub record AreApart (cs : List Connection) : Type 0 where
  pub sound : HoldsOfEach SoundIf cs
  pub used_left : (n : ℕ) → HoldsOfOne (uses Left n) cs
  pub used_right : (n : ℕ) → HoldsOfOne (uses Right n) cs
  pub named_left : (n : ℕ) → HoldsOfOne (is_named Left n) cs
  pub named_right : (n : ℕ) → HoldsOfOne (is_named Right n) cs

-- ---- with the judgement of the connection

judged_named : (j : Bool) (mine known : Half) (n : ℕ) → j ≡ true → named_by j mine known n ≡ true → named_by true mine known n ≡ true
judged_named j mine known n e h = grind arith

named_judged : (j : Bool) (mine known : Half) (n : ℕ) → j ≡ true → named_by true mine known n ≡ true → named_by j mine known n ≡ true
named_judged j mine known n e h = grind arith

judged_used : (j : Bool) (mine known : Half) (n : ℕ) → j ≡ true → used_by j mine known n ≡ true → used_by true mine known n ≡ true
judged_used j mine known n e h = grind arith

used_judged : (j : Bool) (mine known : Half) (n : ℕ) → j ≡ true → used_by true mine known n ≡ true → used_by j mine known n ≡ true
used_judged j mine known n e h = grind arith

-- ---- a packet begins

pub apart_begins : (d : Direction) (cs : List Connection) → AreApart cs → AreApart (map (begins d) cs)
apart_begins Left cs a = record {
  sound = each_map SoundIf (begins Left) cs a.sound (grind (arith, earlier_same));
  used_left = λ n. one_mapped (uses Left n) (uses Left n) (begins Left) cs (a.used_left n)
      (λ i c at j h. (
        j,
        used_judged c.is_judged c.left c.seen_by_left n j
            (used_before c.left c.seen_by_left c.right n (a.sound i c at j).left_knows (judged_used c.is_judged c.left c.right n j h)),
      ));
  used_right = λ n. one_mapped (uses Right n) (uses Right n) (begins Left) cs (a.used_right n) (λ i c at j h. (j, h));
  named_left = λ n. one_mapped (uses Right n) (is_named Left n) (begins Left) cs (a.used_right n)
      (λ i c at j h. (
        j,
        used_judged c.is_judged c.right c.seen_by_right n j
            (named_is_used c.left c.right c.seen_by_right n (a.sound i c at j).right_knows (a.sound i c at j).right_closed
            (judged_named c.is_judged c.left c.right n j h)),
      ));
  named_right = λ n. one_mapped (is_named Right n) (is_named Right n) (begins Left) cs (a.named_right n) (λ i c at j h. (j, h));
}
apart_begins Right cs a = record {
  sound = each_map SoundIf (begins Right) cs a.sound (grind (arith, earlier_same));
  used_left = λ n. one_mapped (uses Left n) (uses Left n) (begins Right) cs (a.used_left n) (λ i c at j h. (j, h));
  used_right = λ n. one_mapped (uses Right n) (uses Right n) (begins Right) cs (a.used_right n)
      (λ i c at j h. (
        j,
        used_judged c.is_judged c.right c.seen_by_right n j
            (used_before c.right c.seen_by_right c.left n (a.sound i c at j).right_knows (judged_used c.is_judged c.right c.left n j h)),
      ));
  named_left = λ n. one_mapped (is_named Left n) (is_named Left n) (begins Right) cs (a.named_left n) (λ i c at j h. (j, h));
  named_right = λ n. one_mapped (uses Left n) (is_named Right n) (begins Right) cs (a.used_left n)
      (λ i c at j h. (
        j,
        used_judged c.is_judged c.left c.seen_by_left n j
            (named_is_used c.right c.left c.seen_by_left n (a.sound i c at j).left_knows (a.sound i c at j).left_closed
            (judged_named c.is_judged c.right c.left n j h)),
      ));
}

-- ---- one connection changes

-- for each of the four: it is so of the new one only if it was
pub record Lessens (c new : Connection) : Type 0 where
  pub sound : SoundIf new
  pub used_left : (n : ℕ) → new.is_judged ≡ true → uses Left n new ≡ true → (c.is_judged ≡ true) × (uses Left n c ≡ true)
  pub used_right : (n : ℕ) → new.is_judged ≡ true → uses Right n new ≡ true → (c.is_judged ≡ true) × (uses Right n c ≡ true)
  pub named_left : (n : ℕ) → new.is_judged ≡ true → is_named Left n new ≡ true → (c.is_judged ≡ true) × (is_named Left n c ≡ true)
  pub named_right : (n : ℕ) → new.is_judged ≡ true → is_named Right n new ≡ true → (c.is_judged ≡ true) × (is_named Right n c ≡ true)

pub apart_set : (cs : List Connection) (p : ℕ) (c new : Connection) → AreApart cs → slice_get cs p ≡ Some c → Lessens c new →
    AreApart (set cs p new)
apart_set cs p c new a at l = record {
  sound = each_set SoundIf cs p new a.sound l.sound;
  used_left = λ n. one_changed (uses Left n) cs p new c (a.used_left n) at (l.used_left n);
  used_right = λ n. one_changed (uses Right n) cs p new c (a.used_right n) at (l.used_right n);
  named_left = λ n. one_changed (is_named Left n) cs p new c (a.named_left n) at (l.named_left n);
  named_right = λ n. one_changed (is_named Right n) cs p new c (a.named_right n) at (l.named_right n);
}

pub same_lessens : (c : Connection) → SoundIf c → Lessens c c
same_lessens c s = search (arith)

-- also if the connection is not judged any more
pub lessens_on : (r : Reach) (c new : Connection) → Lessens c new → Lessens c (judged_on r new)
lessens_on r c new l = search (arith)

closed_by : (mine seen theirs after : Half) → HalfMoves mine seen after → IsEarlier seen theirs →
    (is_closed mine.phase ≡ true → is_closing theirs.phase ≡ true) → is_closed after.phase ≡ true → is_closing theirs.phase ≡ true
closed_by mine seen theirs after m e was k = grind arith

-- right sends more
pub right_lessens : (c : Connection) (after : Half) (size : Option ℕ) → c.is_judged ≡ true → Sound c →
    is_over_by c.right c.seen_by_right ≡ false →
    HalfMoves c.right c.seen_by_right after → (is_silent c.right.phase ≡ true → (is_silent after.phase || is_refused after.phase) ≡ true) →
    Lessens c (record c { right = after; size = size })
right_lessens c after size judged s live m silent =
    grind (arith, earlier_moves, still_closing, closed_by, used_judged, used_still, judged_used, named_judged, named_still, judged_named)

-- ---- a CC of right: its reference is in use nowhere else

pub differ : (b : Bool) → b ≡ true → b ≡ false → ⊥
differ b h k = cc

pub apart_opens : (cs : List Connection) (p : ℕ) (c : Connection) (after : Half) (size : Option ℕ) → AreApart cs → slice_get cs p ≡ Some c →
    Sound c → is_over_by c.right c.seen_by_right ≡ false → HalfMoves c.right c.seen_by_right after →
    ((n i : ℕ) (e : Connection) → slice_get cs i ≡ Some e → (after.reference == n) ≡ true → uses Right n e ≡ false) →
    AreApart (set cs p (record c { right = after; size = size }))
apart_opens cs p c after size a at s live m free = record {
  sound = each_set SoundIf cs p (record c { right = after; size = size }) a.sound (grind (arith, earlier_moves, still_closing, closed_by));
  used_left = λ n. one_changed (uses Left n) cs p (record c { right = after; size = size }) c (a.used_left n) at (λ j h. (j, h));
  used_right = λ n. one_put (uses Right n) cs p (record c { right = after; size = size }) (a.used_right n)
      (λ i e there je fe j h. differ (uses Right n e) fe (free n i e there (grind arith)));
  named_left = λ n. one_changed (is_named Left n) cs p (record c { right = after; size = size }) c (a.named_left n) at (λ j h. (j, h));
  named_right = λ n. one_changed (is_named Right n) cs p (record c { right = after; size = size }) c (a.named_right n) at
      (grind (arith, named_judged, named_still, judged_named));
}

-- ---- a new connection

-- only left has given it a reference, which is in use nowhere else
pub record IsNew (cs : List Connection) (new : Connection) : Type 0 where
  pub sound : Sound new
  pub used_left : (n i : ℕ) (e : Connection) → slice_get cs i ≡ Some e → uses Left n e ≡ true → uses Left n new ≡ true → ⊥
  pub used_right : (n : ℕ) → uses Right n new ≡ true → ⊥
  pub named_left : (n : ℕ) → is_named Left n new ≡ true → ⊥
  pub named_right : (n : ℕ) → is_named Right n new ≡ true → ⊥

pub apart_put : (cs : List Connection) (p : ℕ) (new : Connection) → AreApart cs → IsNew cs new → AreApart (set cs p new)
apart_put cs p new a w = record {
  sound = each_set SoundIf cs p new a.sound (λ j. w.sound);
  used_left = λ n. one_put (uses Left n) cs p new (a.used_left n) (λ i e at je fe j h. w.used_left n i e at fe h);
  used_right = λ n. one_put (uses Right n) cs p new (a.used_right n) (λ i e at je fe j h. w.used_right n h);
  named_left = λ n. one_put (is_named Left n) cs p new (a.named_left n) (λ i e at je fe j h. w.named_left n h);
  named_right = λ n. one_put (is_named Right n) cs p new (a.named_right n) (λ i e at je fe j h. w.named_right n h);
}

pub apart_add : (cs : List Connection) (new : Connection) → AreApart cs → IsNew cs new → AreApart (cs ++ new ∷ [])
apart_add cs new a w = record {
  sound = each_add SoundIf cs new a.sound (λ j. w.sound);
  used_left = λ n. one_added (uses Left n) cs new (a.used_left n) (λ i e at je fe j h. w.used_left n i e at fe h);
  used_right = λ n. one_added (uses Right n) cs new (a.used_right n) (λ i e at je fe j h. w.used_right n h);
  named_left = λ n. one_added (is_named Left n) cs new (a.named_left n) (λ i e at je fe j h. w.named_left n h);
  named_right = λ n. one_added (is_named Right n) cs new (a.named_right n) (λ i e at je fe j h. w.named_right n h);
}
