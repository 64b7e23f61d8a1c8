-- The owner of each token, seen from one side.
use Rattle.std.specs.Prelude.{Bool, true, false, if◌then◌else◌}
use Rattle.osi_machine.specs.Floor.{Token, has, set_of, Tokens, available, State, is_over}

-- this side or the other; in flight to either; no owner, until a restart is answered or for good; and no owner, since the
-- token is not available
pub data Owner : Type 0 where
  Own : Owner
  Theirs : Owner
  ToOwn : Owner
  ToThem : Owner
  Pool : Owner
  Absent : Owner

abbrev pub Owners : Type 0
Owners = Token → Owner

-- as the other side sees it
abbrev pub turned_owner : Owner → Owner
turned_owner Own = Theirs
turned_owner Theirs = Own
turned_owner ToOwn = ToThem
turned_owner ToThem = ToOwn
turned_owner Pool = Pool
turned_owner Absent = Absent

abbrev pub turned_owners : Owners → Owners
turned_owners owner t = turned_owner (owner t)

abbrev pub is_own : Owner → Bool
is_own Own = true
is_own _ = false

abbrev pub is_to_own : Owner → Bool
is_to_own ToOwn = true
is_to_own _ = false

abbrev pub is_absent : Owner → Bool
is_absent Absent = true
is_absent _ = false

abbrev pub no_owner : Owners
no_owner t = Absent

-- the tokens that this side owns
abbrev pub owned : Owners → Tokens
owned owner = set_of (λ t. is_own (owner t))

-- these tokens have a new owner
abbrev pub passed_to : Owner → Tokens → Owners → Owners
passed_to new tokens owner t = if has tokens t then new else owner t

-- after an Accept or a RestartConfirm: of the available tokens this side owns those that it then holds, and the others
-- are in flight
abbrev pub settled_by : State → Owners
settled_by s t = if has s.held t then Own else if has (available s.units) t then ToThem else Absent

abbrev pub own_to_pool : Owner → Owner
own_to_pool Own = Pool
own_to_pool o = o

abbrev pub all_to_pool : Owner → Owner
all_to_pool Absent = Absent
all_to_pool o = Pool

-- what this side owned now has no owner
abbrev pub given_up : Owners → Owners
given_up owner t = own_to_pool (owner t)

-- every available token loses its owner
abbrev pub pooled : Owners → Owners
pooled owner t = all_to_pool (owner t)

-- a side that is aborted or ended owns nothing
abbrev pub left_by : State → Owners → Owners
left_by s owner = if is_over s.phase then given_up owner else owner
