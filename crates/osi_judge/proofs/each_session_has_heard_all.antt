-- The sessions of connections have heard all that the other side said: for the functions that hand it over, one connection after
-- the other, and for those that find a connection.
use Rattle.osi_judge.proofs.Vocabulary.{◌≡◌, ℕ, zero, suc, ◌+◌, ◌<◌, List, [], ◌∷◌, length, take, set, get_or, arith, subst, sym, add-one}
use Rattle.osi_judge.proofs.Vocabulary.{◌==◌, Option, Some, None, find, Direction, Connection, Proceedings, Course, AreHeard, IsHeard}
use Rattle.osi_judge.proofs.Vocabulary.{HoldsAll, HoldsBy, Streamed, State}

front_at : (cs : List Connection) (i : ℕ) (d : Connection) → i < length cs → IsHeard d → AreHeard (take i cs)
    → AreHeard (take (suc i) (set cs i d))
front_at [] i d lt h k = absurd (omega arith)
front_at (c ∷ cs) zero d lt h k = (h, tt)
front_at (c ∷ cs) (suc i) d lt h k = (k.0, front_at cs i d (omega arith) h k.1)

pub front_heard : (cs : List Connection) (i : ℕ) (d : Connection) → i < length cs → IsHeard d → AreHeard (take i cs)
    → AreHeard (take (i + 1) (set cs i d))
front_heard cs i d lt h k = subst (λ (n : ℕ). AreHeard (take n (set cs i d))) (sym (add-one i)) (front_at cs i d lt h k)

pub heard_at : (cs : List Connection) (i : ℕ) (c : Connection) → i < length cs → AreHeard cs → IsHeard (get_or cs i c)
heard_at [] i c lt h = absurd (omega arith)
heard_at (x ∷ cs) zero c lt h = h.0
heard_at (x ∷ cs) (suc i) c lt h = heard_at cs i c (omega arith) h.1

pub still_heard : (cs : List Connection) (i : ℕ) (c : Connection) → IsHeard c → AreHeard cs → AreHeard (set cs i c)
still_heard [] i c k h = tt
still_heard (x ∷ cs) zero c k h = (k, h.1)
still_heard (x ∷ cs) (suc i) c k h = (h.0, still_heard cs i c k h.1)

-- ---- the one with a number

abbrev pub LiveHeard : Option Connection → Type 0
LiveHeard None = Unit {0}
LiveHeard (Some c) = IsHeard c

pub found_heard : (number : ℕ) (cs : List Connection) → AreHeard cs → LiveHeard (find (λ c. c.number == number) cs)
found_heard number [] h = tt
found_heard number (c ∷ cs) h = grind (arith, found_heard number cs h.1)

-- ---- what a judge holds

pub still_holds : (due : Option Direction) (w v : Proceedings) (l r : Streamed) (s : State) → due ≡ None
    → ((c : Course) → HoldsAll w c → HoldsAll v c) → HoldsBy due w l r s → HoldsBy due v l r s
still_holds due w v l r s e keeps h = grind arith
