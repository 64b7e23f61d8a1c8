-- The effects of words as counts, for the memory that holds them.
use Rattle.std.specs.Prelude.{◌≡◌, ℕ, List, [], false, Option, Some, None, Result, length, option_map}
use Rattle.osi_spdu.specs.declared.faults.SpduFault.{SpduFault}
use Rattle.osi_session.specs.declared.counting.Counting.{Counting}
use Rattle.osi_session.specs.declared.state.State.{State}
use Rattle.osi_message.specs.Words.{Word, Words}
use Rattle.osi_session.specs.Joining.{Hearing, Taker, respond_word, respond_tsdu, respond_came}
use Rattle.osi_session.specs.Respond.{Outcome}
use Rattle.osi_session.specs.Standing.{Count, counted, kept_count}
use Rattle.osi_session.specs.Steps.{reply_of}

abbrev pub count_of : Counting → Count
count_of c = record { state = c.next; joined = c.joined; reply = option_map reply_of c.reply; closes = c.closes }

-- the result of an outcome after which this many octets are joined
abbrev pub count_by : Option ℕ → Outcome → Count
count_by joined o = record { state = o.next; joined = kept_count o.next.phase joined; reply = o.reply; closes = o.closes }

-- a stand-in for n octets; a message only tests whether there are any
abbrev pub no_octets : Option ℕ → Option (List ℕ)
no_octets None = None
no_octets (Some n) = Some []

abbrev pub taker_with : State → Option (List ℕ) → Taker
taker_with s joined = record { state = s; joined = joined }

-- a hearing has this count whichever octets were joined before, if there were this many
abbrev pub CountsIn : (Taker → Hearing) → State → Option ℕ → Count → Type 0
CountsIn f s n c = (joined : Option (List ℕ)) → option_map length joined ≡ n → counted (f (taker_with s joined)) ≡ c

abbrev pub Counts : State → Option ℕ → Word → Count → Type 0
Counts s n w c = CountsIn (λ t. respond_word t w) s n c

abbrev pub CountsAll : State → Option ℕ → Words → Count → Type 0
CountsAll s n ws c = CountsIn (λ t. respond_tsdu t ws) s n c

abbrev pub CountsCame : State → Option ℕ → Result Words SpduFault → Count → Type 0
CountsCame s n came c = CountsIn (λ t. respond_came t came) s n c

-- nothing has happened yet
abbrev pub count_by_idle : State → Option ℕ → Count
count_by_idle s n = record { state = s; joined = n; reply = None; closes = false }
