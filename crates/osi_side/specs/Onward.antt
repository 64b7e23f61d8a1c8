-- How a session goes on by what it takes of the other side, without a word of its own.
use Rattle.std.specs.Prelude.{◌≡◌, ◌<◌, ◌+◌, ◌⊎◌, ◌++◌, ◌∷◌, ℕ, true, false, List, [], length, get_or, Option, Some, None}
use Rattle.osi_session.specs.declared.reactions.Reply.{Reply}
use Rattle.osi_session.specs.Steps.{reply_of}
use Rattle.osi_session.specs.Standing.{Seen, Count, Takes, listens}
use Rattle.osi_side.specs.declared.members.Member.{Member}
use Rattle.osi_side.specs.declared.standings.Stands.{Stands}
use Rattle.osi_side.specs.declared.standings.Turn.{Turn}
use Rattle.osi_side.specs.declared.standings.Turn.TheVariants.{Goes, Stops}
use Rattle.osi_session.specs.Steady.{Hears}
use Rattle.osi_side.specs.Explaining.{Told, remarks, Explains}
use Rattle.osi_side.specs.Foremost.{foremost}
use Rattle.osi_side.specs.declared.rules.Near.{Near}
use Rattle.osi_side.specs.declared.rules.Rule.{Rule}
use Rattle.osi_side.specs.Nearest.{Unsaid, rule_for, is_nearer, goes_to}
use Rattle.osi_side.specs.Judging.{Observed, AreAll}
use Rattle.osi_side.specs.Walking.{Ever}

-- it takes the next TSDU, and sends nothing
pub record Quietly (us : List (List ℕ)) (m t : Member) : Type 0 where
  pub taken : t.taken ≡ m.taken + 1
  pub follows : Hears m.standing (get_or us m.taken []) t.standing

-- it takes the next TSDU, and sends this at once
pub record OwesTo (s : Seen) (tsdu : List ℕ) (reply : Reply) : Type 0 where
  pub count : Count
  pub listening : listens s ≡ true
  pub taken : Takes s tsdu count
  pub sent : count.reply ≡ Some (reply_of reply)

-- it stops before the next TSDU, which it would answer, or takes nothing any more
abbrev pub StopsBy : Seen → List ℕ → Option Reply → Type 0
StopsBy s tsdu None = listens s ≡ false
StopsBy s tsdu (Some reply) = OwesTo s tsdu reply

abbrev pub GoesOn : List (List ℕ) → Member → Turn → Type 0
GoesOn us m (Goes t) = Quietly us m t
GoesOn us m (Stops owes) = StopsBy m.standing (get_or us m.taken []) owes

-- it arrives at this state
pub data Comes (us : List (List ℕ)) : Member → Member → Type 0 where
  stays : (m : Member) → Comes us m m
  goes : (m n t : Member) → Quietly us m n → Comes us n t → Comes us m t

-- all of these are taken, or it stops before one
abbrev pub IsAtEnd : List (List ℕ) → Member → Option Reply → Type 0
IsAtEnd us m owes = ((length us < m.taken + 1) × (owes ≡ None)) ⊎ ((m.taken < length us) × StopsBy m.standing (get_or us m.taken []) owes)

abbrev pub standing_of : Stands → Member
standing_of s = record { taken = s.taken; standing = s.standing }

-- The state of a session that took what it could of these TSDUs, and the answer that it still owes.
pub record StandsBehind (us : List (List ℕ)) (m : Member) (s : Stands) : Type 0 where
  pub comes : Comes us m (standing_of s)
  pub goes : standing_of s ≡ goes_to us m
  pub ends : IsAtEnd us (standing_of s) s.owes

-- one of these
abbrev pub IsAmong : Member → List Member → Type 0
IsAmong m [] = ⊥
IsAmong m (n ∷ members) = (m ≡ n) ⊎ IsAmong m members

-- What it is to be the nearest of these: none that does not send it is nearer, and it is one of these, or none of them was
-- tried.
pub record IsNearest (u : Unsaid) (sessions : List Member) (first best : Near) : Type 0 where
  pub none_nearer : (m : Member) (rule : Rule) → IsAmong m sessions → rule_for u m.standing ≡ Some rule
      → is_nearer (record { at = m; rule = rule }) best ≡ false
  pub is_one : (best ≡ first) ⊎ (IsAmong best.at sessions × (rule_for u best.at.standing ≡ Some best.rule))

-- How a side stands that said this and kept the protocol: by the foremost of the sessions that explain it, which took what it
-- could of what was heard. That session said it all, so that whatever is explained from there on is explained for the side.
pub record StandsFor (w : Observed) (told : List Told) (s : Stands) : Type 0 where
  pub all : AreAll w.begin w.heard w.before w.members told
  pub has_said : Ever w.heard w.before (λ us later.
      Explains us later (foremost w.members).taken (foremost w.members).standing → Explains us (remarks told ++ later) 0 w.begin)
  pub behind : StandsBehind w.heard (foremost w.members) s
