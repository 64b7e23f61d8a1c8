-- Which of several sessions stands for a side: the one that had taken most, of these the one with the highest V(A), then
-- the one with the answer flag on.
use Rattle.std.specs.Prelude.{◌≡◌, Bool, true, false, not, ◌&&◌, ◌||◌, ◌==◌, if◌then◌else◌, nat_lt, List, [], ◌∷◌, ◌++◌}
use Rattle.std.specs.List.{fold}
use Rattle.osi_session.specs.declared.numbers.Numbers.{Numbers}
use Rattle.osi_session.specs.Standing.{Seen, seen_called}
use Rattle.osi_side.specs.declared.members.Member.{Member}

-- of two that have taken as many: the higher V(A), or the same and the flag on
abbrev pub has_higher : Numbers → Numbers → Bool
has_higher m n = nat_lt n.confirmed m.confirmed || ((m.confirmed == n.confirmed) && (m.answers && not n.answers))

abbrev pub is_ahead : Seen → Seen → Bool
is_ahead s t = has_higher s.state.numbers t.state.numbers

abbrev pub is_before : Member → Member → Bool
is_before m n = nat_lt n.taken m.taken || ((m.taken == n.taken) && is_ahead m.standing n.standing)

abbrev pub before_of : Member → Member → Member
before_of best m = if is_before m best then m else best

-- the first of these; where there is none, a session that has just begun
abbrev pub first_of : List Member → Member
first_of [] = record { taken = 0; standing = seen_called }
first_of (m ∷ members) = m

unfoldable pub foremost : List Member → Member
foremost members = fold before_of (first_of members) members

-- ---- what that means

-- no session of the list is before this one, and this one is before all that precede it in the list
abbrev pub PrecedesAll : Member → List Member → Type 0
PrecedesAll m [] = Unit {0}
PrecedesAll m (n ∷ members) = (is_before m n ≡ true) × PrecedesAll m members

abbrev pub FollowsNone : Member → List Member → Type 0
FollowsNone m [] = Unit {0}
FollowsNone m (n ∷ members) = (is_before n m ≡ false) × FollowsNone m members

pub record IsForemost (m : Member) (members : List Member) : Type 0 where
  pub front : List Member
  pub back : List Member
  pub parts : members ≡ front ++ m ∷ back
  pub precedes : PrecedesAll m front
  pub follows : FollowsNone m back
