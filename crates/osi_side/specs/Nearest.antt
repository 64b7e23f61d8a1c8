-- Of all sessions that may have sent what a side did, which came nearest to what it sent next, and by which rule it may not
-- send it.
use Rattle.std.specs.Prelude.{ℕ, zero, suc, ◌+◌, ◌-◌, Bool, true, false, not, ◌&&◌, ◌||◌, ◌==◌, if◌then◌else◌, nat_lt, is_none, List, []}
use Rattle.std.specs.Prelude.{◌∷◌}
use Rattle.std.specs.Prelude.{length, get_or, replicate, Option, Some, None, option_map}
use Rattle.std.specs.List.{fold, flat_map}
use Rattle.osi_spdu.specs.declared.faults.SpduFault.{SpduFault}
use Rattle.osi_spdu.specs.declared.kinds.Kind.{Kind}
use Rattle.osi_spdu.specs.Known.{Contents}
use Rattle.osi_spdu.specs.Units.{said_by}
use Rattle.osi_message.specs.Reading.{word, said_at}
use Rattle.osi_message.specs.Meanings.{Meaning}
use Rattle.osi_message.specs.Words.{as_message}
use Rattle.osi_session.specs.declared.breaches.Breach.{Breach}
use Rattle.osi_session.specs.declared.breaches.Breach.TheVariants as breach
use Rattle.osi_session.specs.declared.faults.CallError.{CallError}
use Rattle.osi_session.specs.declared.faults.CallError.TheVariants as error
use Rattle.osi_session.specs.Breaches.{breach_of}
use Rattle.osi_session.specs.Joining.{respond_came}
use Rattle.osi_session.specs.Standing.{Seen, Count, counted, listens, after_count}
use Rattle.osi_side.specs.declared.members.Member.{Member}
use Rattle.osi_side.specs.declared.rules.Break.{Break}
use Rattle.osi_side.specs.declared.rules.Near.{Near}
use Rattle.osi_side.specs.declared.rules.Question.{Question}
use Rattle.osi_side.specs.declared.rules.Question.TheVariants as question
use Rattle.osi_side.specs.declared.rules.Rule.{Rule}
use Rattle.osi_side.specs.declared.rules.Rule.TheVariants.{Breach as by_breach, Fault}
use Rattle.osi_side.specs.Foremost.{is_before, first_of}
use Rattle.osi_side.specs.LeftOut.{is_unit_left_out}

-- ---- the rules, by the order in which they are tested

abbrev pub call_place : CallError → ℕ
call_place error.NoSuchConnection = 0
call_place error.Ended = 1
call_place error.BadState = 2
call_place error.NotSelected = 3
call_place error.TokenNotHeld = 4
call_place error.TokenAlreadyHeld = 5
call_place error.BadNumber = 6
call_place error.SerialsUsedUp = 7
call_place error.Empty = 8
call_place error.TooLong = 9
call_place error.OutOfMemory = 10

abbrev pub place : Rule → ℕ
place (by_breach (breach.Call e)) = call_place e
place (by_breach breach.NothingToAnswer) = 12
place (by_breach breach.NoFault) = 13
place (by_breach breach.BadTokens) = 14
place (by_breach breach.BadEnclosure) = 15
place (by_breach breach.Outside) = 16
place (Fault fault) = 17

-- the later of two rules; at one rule, the session that comes before the other
abbrev pub is_nearer : Near → Near → Bool
is_nearer n m = nat_lt (place m.rule) (place n.rule) || ((place n.rule == place m.rule) && is_before n.at m.at)

-- ---- why a session does not send it

-- what no session sends: a unit of a TSDU of this many octets, or a TSDU that is not session units
pub data Unsaid : Type 0 where
  a_unit : Contents → (octets : ℕ) → Unsaid
  unread : SpduFault → Unsaid

abbrev pub unsaid : Question → Unsaid
unsaid (question.Unit unit octets) = a_unit (said_by unit) octets
unsaid (question.Fault fault) = unread fault

abbrev pub kind_in : Unsaid → Option Kind
kind_in (a_unit unit octets) = Some unit.kind
kind_in (unread fault) = None

-- what X.225 allows and this product leaves out leaves the profile, whichever rule of this product it breaks
abbrev pub told_as : Seen → Meaning → Breach → Breach
told_as s m b = if is_unit_left_out s m b then breach.Outside else b

abbrev pub told_of : Seen → Contents → Breach → Breach
told_of s unit b = told_as s (as_message (word unit)) b

abbrev pub rule_for : Unsaid → Seen → Option Rule
rule_for (a_unit unit octets) s = option_map (λ b. by_breach (told_of s unit b)) (breach_of s (word unit) octets)
rule_for (unread fault) s = Some (Fault fault)

abbrev pub nearer_of : Near → Near → Near
nearer_of best n = if is_nearer n best then n else best

-- the nearer of two sessions, if the second doesn't send it
abbrev pub tried_by : Near → Member → Option Rule → Near
tried_by best m None = best
tried_by best m (Some rule) = nearer_of best (record { at = m; rule = rule })

abbrev pub tried : Unsaid → Near → Member → Near
tried u best m = tried_by best m (rule_for u m.standing)

-- ---- the sessions that one becomes by what it takes

-- What a session does with a TSDU: the same whichever octets it has joined, if there are this many.
unfoldable pub count_at : Seen → List ℕ → Count
count_at s tsdu = counted (respond_came (record { state = s.state; joined = option_map (λ n. replicate n 0) s.joined }) (said_at tsdu))

abbrev pub quiet_by : Member → Count → Option Member
quiet_by m c = if is_none c.reply then Some (record { taken = m.taken + 1; standing = after_count m.standing c }) else None

-- it takes the next TSDU and sends nothing; none if it answers it, or takes nothing any more
abbrev pub next_of : List (List ℕ) → Member → Option Member
next_of us m = if listens m.standing then quiet_by m (count_at m.standing (get_or us m.taken [])) else None

-- itself, and what it becomes by at most so many TSDUs
abbrev pub becomes : List (List ℕ) → ℕ → Option Member → List Member
becomes us n None = []
becomes us zero (Some m) = m ∷ []
becomes us (suc n) (Some m) = m ∷ becomes us n (next_of us m)

abbrev pub reached : List (List ℕ) → (before : ℕ) → Member → List Member
reached us before m = becomes us (before - m.taken) (Some m)

-- what it is after all that had passed, or before the first TSDU that it answers or does not take
abbrev pub last_in : Member → List Member → Member
last_in m [] = m
last_in m (n ∷ members) = last_in n members

abbrev pub goes_to : List (List ℕ) → Member → Member
goes_to us m = last_in m (reached us (length us) m)

-- ---- the session that came nearest

-- before any was tried
abbrev pub far : List Member → Near
far members = record { at = first_of members; rule = by_breach (breach.Call error.NoSuchConnection) }

unfoldable pub nearest : Unsaid → List (List ℕ) → (before : ℕ) → List Member → Near
nearest u us before members = fold (tried u) (far members) (flat_map (reached us before) members)

abbrev pub break_by : Unsaid → (before : ℕ) → Near → Break
break_by u before n = record { said = kind_in u; rule = n.rule; before = before; taken = n.at.taken; standing = n.at.standing }

abbrev pub break_of : Unsaid → List (List ℕ) → (before : ℕ) → List Member → Break
break_of u us before members = break_by u before (nearest u us before members)
