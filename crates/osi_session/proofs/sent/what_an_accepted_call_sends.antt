-- What an accepted call sends.
use Rattle.std.proofs.Common.{arith, ◌≡◌, sym, subst, ℕ, ◌<◌, ◌≤◌, true, false, List, length, Ok}
use Rattle.osi_session.proofs.Vocabulary.{AllByRecursion, and_parts, leb-true, is_size, Meaning, DT, is_whole, is_parted, tsdus_of, in_one}
use Rattle.osi_session.proofs.Vocabulary.{AreFull, State, Step, allowed, Call, Data, limit_of, is_data, IsSound}
use Rattle.osi_session.proofs.tables.what_an_accepted_call_has_passed.{passed}

-- ---- the limit is a size

pub limit_sized : (s : State) (n : ℕ) → n ≡ limit_of s → IsSound s → is_size n ≡ true
limit_sized s n e sound = subst (λ (m : ℕ). is_size m ≡ true) (sym e) (grind (arith, and_parts))

-- ---- what is sent

abbrev pub AreAlone : Type 0
AreAlone = (limit : ℕ) (m : Meaning) → is_parted limit m ≡ false → tsdus_of limit m ≡ in_one m

pub sent_alone : AreAlone → (s : State) (c : Call) (x : Step) → allowed s c ≡ Ok x → is_data c ≡ false →
    tsdus_of (limit_of s) x.sent ≡ in_one x.sent
sent_alone alone s c x h d = grind (arith, passed s c x h)

pub data_alone : AreAlone → (s : State) (octets : List ℕ) (x : Step) → allowed s (Data octets) ≡ Ok x → is_whole (limit_of s) octets ≡ true
    → tsdus_of (limit_of s) x.sent ≡ in_one x.sent
data_alone alone s octets x h w = grind (arith, passed)

pub data_full : ((limit : ℕ) (octets : List ℕ) → is_size limit ≡ true → 0 < limit → AreFull limit (tsdus_of limit (DT octets)))
    → (s : State) (octets : List ℕ) (x : Step) → IsSound s → allowed s (Data octets) ≡ Ok x → 0 < limit_of s →
    AreFull (limit_of s) (tsdus_of (limit_of s) x.sent)
data_full full s octets x sound h some = search (arith, passed, and_parts)

abbrev AreShort : List (List ℕ) → Type 0
AreShort tsdus = AllByRecursion (λ (t : List ℕ). length t ≤ 1048576) tsdus

pub data_short : ((limit : ℕ) (octets : List ℕ) → is_size limit ≡ true → length octets ≤ 1048572 → AreShort (tsdus_of limit (DT octets)))
    → (s : State) (octets : List ℕ) (x : Step) → IsSound s → allowed s (Data octets) ≡ Ok x → AreShort (tsdus_of (limit_of s) x.sent)
data_short short s octets x sound h = search (arith, passed, leb-true)
