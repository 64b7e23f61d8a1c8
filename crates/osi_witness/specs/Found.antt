-- Which sessions that are kept of a side come from which: a run is found by going back from one to the other.
use Rattle.std.specs.Prelude.{◌≡◌, ◌+◌, ◌⊎◌, ℕ, zero, suc, true, List, [], get_or, Some}
use Rattle.osi_message.specs.Meanings.{Meaning}
use Rattle.osi_message.specs.Words.{Word}
use Rattle.osi_session.specs.Joining.{is_restart_word}
use Rattle.osi_session.specs.Standing.{Seen, Count, CanSay, Takes, listens, after_count, answers_word}
use Rattle.osi_session.specs.Steady.{Hears}
use Rattle.osi_side.specs.declared.members.Member.{Member}
use Rattle.osi_side.specs.Explaining.{Remark}
use Rattle.osi_side.specs.Kept.{member}
use Rattle.osi_side.specs.Onward.{IsAmong}

-- so many TSDUs of the other side, from this one on, leave a session as it is
abbrev pub Stays : (us : List (List ℕ)) → (from : ℕ) → Seen → ℕ → Type 0
Stays us from s zero = Unit {0}
Stays us from s (suc n) = Hears s (get_or us from []) s × Stays us (from + 1) s n

-- A session in this state, which has taken so many TSDUs of the other side, goes on to a unit of its side, and is this member then.
pub data GoesOn (us : List (List ℕ)) (m : Remark) (after : Member) : ℕ → Seen → Type 0 where
  -- it takes a TSDU first, and sends nothing
  takes : (taken : ℕ) (s t : Seen) → Hears s (get_or us taken []) t → GoesOn us m after (taken + 1) t → GoesOn us m after taken s
  -- the unit is its answer to the next TSDU
  answers : (taken : ℕ) (s : Seen) (c : Count) (reply : Meaning) (w : Word) → listens s ≡ true → Takes s (get_or us taken []) c
      → c.reply ≡ Some reply → m.word ≡ Some w → answers_word reply w ≡ true → after ≡ member (taken + 1) (after_count s c)
      → GoesOn us m after taken s
  -- it sends it; and if it is a restart, it may take TSDUs after it that leave it as it is
  says : (taken waited : ℕ) (s : Seen) (w : Word) → m.word ≡ Some w → CanSay s w m.octets after.standing → after.taken ≡ taken + waited
      → Stays us taken after.standing waited → ((waited ≡ 0) ⊎ (is_restart_word w ≡ true)) → GoesOn us m after taken s

-- one of these sessions goes on to the unit
abbrev pub ComesFrom : (us : List (List ℕ)) → Remark → List Member → Member → Type 0
ComesFrom us m members after = (from : Member) × IsAmong from members × GoesOn us m after from.taken from.standing
