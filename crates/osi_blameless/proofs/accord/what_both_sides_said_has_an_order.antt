-- The TSDUs of both sides of a connection have an order in which each stands after those of the other side that had passed before it;
-- and it goes on as more passes. For the law that two kept sides are a pair.
use Rattle.osi_blameless.proofs.accord.Vocabulary.{[], ap, append-nil, arith, Bool, false, length, length-append, length-map, List}
use Rattle.osi_blameless.proofs.accord.Vocabulary.{map-append}
use Rattle.osi_blameless.proofs.accord.Vocabulary.{true, ℕ, ◌++◌, ◌+◌, ◌∙◌, ◌∷◌, ◌≡◌, ◌≤◌, flat_map-append, Direction}
use Rattle.osi_blameless.proofs.accord.Vocabulary.{Left, Right, Value, adds_all, adds_if, before, begun_octets, Joined, meant}
use Rattle.osi_blameless.proofs.accord.Vocabulary.{packet_begins, Spoken, told, told_of, Told, AreInOrder, AreTold, own, Turn, told_by}
use Rattle.osi_blameless.proofs.accord.Vocabulary.{turn}
use Rattle.osi_rules.specs.declared.findings.Meaning.{Meaning}

-- ---- one TSDU more

pub told_more : (d : Direction) (turns more : List Turn) → told_by d (turns ++ more) ≡ told_by d turns ++ told_by d more
told_more d turns more = flat_map-append (own d) turns more

left_last : (l r : ℕ) (turns : List Turn) (t : Told) → AreInOrder l r turns → t.before ≤ r + length (told_by Right turns) →
    AreInOrder l r (turns ++ turn Left t ∷ [])
left_last l r [] t o b = (omega arith, tt)
left_last l r (turn Left u ∷ turns) t o b = (o.0, left_last (l + 1) r turns t o.1 b)
left_last l r (turn Right u ∷ turns) t o b = (o.0, left_last l (r + 1) turns t o.1 (omega arith))

right_last : (l r : ℕ) (turns : List Turn) (t : Told) → AreInOrder l r turns → t.before ≤ l + length (told_by Left turns) →
    AreInOrder l r (turns ++ turn Right t ∷ [])
right_last l r [] t o b = (omega arith, tt)
right_last l r (turn Right u ∷ turns) t o b = (o.0, right_last l (r + 1) turns t o.1 b)
right_last l r (turn Left u ∷ turns) t o b = (o.0, right_last (l + 1) r turns t o.1 (omega arith))

-- ---- a connection

-- what a side counts as passed of the other, which has sent so many TSDUs, is no more than these
pub record IsNoMore (s : Spoken) (sent : ℕ) : Type 0 where
  pub since : s.since ≤ sent
  pub begun : before s ≤ sent

-- the TSDUs of both sides in this order
pub record IsOrder (turns : List Turn) (j : Joined) : Type 0 where
  pub are : AreTold turns j
  pub order : AreInOrder 0 0 turns
  pub left : IsNoMore j.left (length j.right.said)
  pub right : IsNoMore j.right (length j.left.said)

-- and with these more
pub record GoesOn (turns : List Turn) (j : Joined) : Type 0 where
  pub more : List Turn
  pub is : IsOrder (turns ++ more) j

pub stays : (turns : List Turn) (j : Joined) → IsOrder turns j → GoesOn turns j
stays turns j h = record { more = []; is = rw (append-nil turns) h }

pub begins_on : (d : Direction) (turns : List Turn) (j : Joined) → IsOrder turns j → IsOrder turns (packet_begins d j)
begins_on d turns j h = grind arith

told_count : (s : Spoken) (ts : List Told) → ts ≡ told s → length ts ≡ length s.said
told_count s ts e = ap (λ (x : List Told). length x) e ∙ length-map s.said told_of

-- the TSDU that a DT ends
abbrev ended : List ℕ → Spoken → Told
ended octets s = record { octets = begun_octets s.begun ++ octets; before = before s }

left_ends : (at : ℕ) (octets : List ℕ) (turns : List Turn) (j : Joined) → IsOrder turns j →
    IsOrder (turns ++ turn Left (ended octets j.left) ∷ []) (adds_all Left at true octets j)
left_ends at octets turns j h =
    let n = told_count j.right (told_by Right turns) h.are.right in
    let b = h.left.begun in
    record {
      are = record {
        left = grind (arith, told_more, map-append, h.are.left);
        right = grind (arith, told_more, append-nil, h.are.right);
      };
      order = left_last 0 0 turns (ended octets j.left) h.order (omega arith);
      left = record { since = h.left.since; begun = h.left.since };
      right = grind (arith, length-append);
    }

right_ends : (at : ℕ) (octets : List ℕ) (turns : List Turn) (j : Joined) → IsOrder turns j →
    IsOrder (turns ++ turn Right (ended octets j.right) ∷ []) (adds_all Right at true octets j)
right_ends at octets turns j h =
    let n = told_count j.left (told_by Left turns) h.are.left in
    let b = h.right.begun in
    record {
      are = record {
        left = grind (arith, told_more, append-nil, h.are.left);
        right = grind (arith, told_more, map-append, h.are.right);
      };
      order = right_last 0 0 turns (ended octets j.right) h.order (omega arith);
      left = grind (arith, length-append);
      right = record { since = h.right.since; begun = h.right.since };
    }

all_go_on : (d : Direction) (at : ℕ) (end : Bool) (octets : List ℕ) (turns : List Turn) (j : Joined) → IsOrder turns j →
    GoesOn turns (adds_all d at end octets j)
all_go_on Left at true octets turns j h = record { more = turn Left (ended octets j.left) ∷ []; is = left_ends at octets turns j h }
all_go_on Right at true octets turns j h = record { more = turn Right (ended octets j.right) ∷ []; is = right_ends at octets turns j h }
all_go_on d at false octets turns j h = grind (arith, stays)

like_one : (turns : List Turn) (j k : Joined) → k.left ≡ j.left → k.right ≡ j.right → GoesOn turns j → GoesOn turns k
like_one turns j k l r h = grind arith

adds_on : (b : Bool) (d : Direction) (at : ℕ) (end : Bool) (octets : List ℕ) (turns : List Turn) (j : Joined) →
    IsOrder turns j → GoesOn turns (adds_if b d at end octets j)
adds_on true d at end octets turns j h = all_go_on d at end octets turns j h
adds_on false d at end octets turns j h = grind (arith, like_one, stays)

pub meant_on : (d : Direction) (at : ℕ) (v : Value) (m : Meaning) (turns : List Turn) (j : Joined) → IsOrder turns j →
    GoesOn turns (meant d at v m j)
meant_on d at v m turns j h = grind (arith, adds_on, like_one, stays)
