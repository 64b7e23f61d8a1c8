-- Worked examples: what happens, and what the users do and see.
use Rattle.std.specs.Prelude.{ℕ, true, false, List, [], ◌∷◌, ◌++◌, Option, Some, None}
use Rattle.osi_spdu.specs.declared.settings.Side.TheVariants as token_side
use Rattle.osi_session.specs.declared.faults.CallError.TheVariants as error
use Rattle.osi_session.specs.Shown.{Connect, Connected, Data, Minor, Major, Restart, Restarted, Release, ReleaseRefused, Lost}
use Rattle.osi_machine.specs.Floor.{TokenSetting, Asker, Sides, Tokens, State, Numbers, Accept, Data, Give, Minor, Major, MajorConfirm, Restart, RestartConfirm, Release, ReleaseAccept, ReleaseRefuse, no_token, set_of, from_base, no_sizes}
use Rattle.osi_machine.specs.Histories.{Item, Octets, Point, minor_alone}
use Rattle.osi_machine.specs.Core.{Offer, Side, Left, Right}
use Rattle.osi_machine.specs.Worlds.{World, session_of, accepts, class_0, class_2}
use Rattle.osi_machine.specs.Machine.{Step, connects, calls, delivers, breaks, ends, told_of_break, Entry, connect_answered, call_answered, shown_at, ended, Machine, start, run, connection_at, seen_from}

abbrev pub for_asker : TokenSetting
for_asker = record { data_token = Asker; minor = Asker; major = Asker; release = Asker }

abbrev pub asker_sides : Sides
asker_sides = record { data_token = token_side.Asker; minor = token_side.Asker; major = token_side.Asker; release = token_side.Asker }

abbrev pub only_data : Tokens
only_data = record { data_token = true; minor = false; major = false; release = false }

abbrev pub all_tokens : Tokens
all_tokens = set_of (λ t. true)

-- everything in flight stays
abbrev pub keep_all : ℕ → ℕ
keep_all r = 99

-- this side takes the next message
abbrev pub to_left : Step
to_left = delivers Left 1 keep_all

abbrev pub to_right : Step
to_right = delivers Right 1 keep_all

-- what a side knows of the first connection after these steps
abbrev pub state_in : Side → Option World → Option State
state_in side None = None
state_in side (Some w) = Some (session_of (seen_from side w))

abbrev pub stands_at : Side → Machine → Option State
stands_at side m = state_in side (connection_at 1 m.worlds)

abbrev pub history_in : Option World → List Item
history_in None = []
history_in (Some w) = w.history

abbrev pub history_of : Machine → List Item
history_of m = history_in (connection_at 1 m.worlds)

abbrev pub held_in : Option State → Tokens
held_in None = no_token
held_in (Some s) = s.held

abbrev pub numbers_in : Option State → Numbers
numbers_in None = from_base 0
numbers_in (Some s) = s.numbers

abbrev pub next_at : Side → Machine → ℕ
next_at side m = (numbers_in (stands_at side m)).next

abbrev pub lowest_at : Side → Machine → ℕ
lowest_at side m = (numbers_in (stands_at side m)).lowest

-- ---- a connection is opened; the side that asks gets all four tokens

abbrev pub offer_from : ℕ → ℕ → Offer
offer_from requirements serial = record { requirements = requirements; serial = serial; wishes = for_asker; calling_selector = None; called_selector = None; sizes = no_sizes; octets = [] }

abbrev pub opening : ℕ → ℕ → List Step
opening requirements serial = connects (offer_from requirements serial) ∷ to_right ∷ to_left ∷ to_right
    ∷ calls Right 1 (Accept requirements serial asker_sides no_sizes []) ∷ to_left ∷ []

abbrev pub opening_seen : ℕ → ℕ → Option ℕ → List Entry
opening_seen requirements serial named = connect_answered (offer_from requirements serial) None
    ∷ shown_at Right 1 (Connect requirements named for_asker no_sizes [])
    ∷ call_answered Right 1 (Accept requirements serial asker_sides no_sizes []) None
    ∷ shown_at Left 1 (Connected requirements named asker_sides no_sizes []) ∷ []

-- ---- a token that is given while the other side requests a restart is lost with the restart: Left gives the data
-- token; before it arrives Right requests a restart at 1, and gets all four tokens by the answer

abbrev pub lost_give : List Step
lost_give = opening 185 1 ++ calls Left 1 (Give only_data) ∷ calls Right 1 (Restart 1 for_asker []) ∷ to_right ∷ to_left
    ∷ calls Left 1 (RestartConfirm asker_sides []) ∷ []

abbrev pub lost_give_seen : List Entry
lost_give_seen = opening_seen 185 1 (Some 1) ++ call_answered Left 1 (Give only_data) None
    ∷ call_answered Right 1 (Restart 1 for_asker []) None ∷ shown_at Left 1 (Restart 1 for_asker [])
    ∷ call_answered Left 1 (RestartConfirm asker_sides []) None ∷ []

abbrev pub after_lost_give : Machine
after_lost_give = run (start (accepts class_2)) lost_give

-- ---- two restarts cross: Left has sent points 1 and 2, and requests a restart at 2, while Right requests one at a
-- higher number or at the same

abbrev pub two_points : List Step
two_points = opening 185 1 ++ calls Left 1 (Data (65 ∷ [])) ∷ calls Left 1 (Minor false []) ∷ calls Left 1 (Data (66 ∷ []))
    ∷ calls Left 1 (Minor false []) ∷ to_right ∷ to_right ∷ to_right ∷ to_right ∷ []

abbrev pub two_points_seen : List Entry
two_points_seen = opening_seen 185 1 (Some 1) ++ call_answered Left 1 (Data (65 ∷ [])) None ∷ call_answered Left 1 (Minor false []) None
    ∷ call_answered Left 1 (Data (66 ∷ [])) None ∷ call_answered Left 1 (Minor false []) None
    ∷ shown_at Right 1 (Data (65 ∷ [])) ∷ shown_at Right 1 (Minor 1 false []) ∷ shown_at Right 1 (Data (66 ∷ []))
    ∷ shown_at Right 1 (Minor 2 false []) ∷ []

abbrev pub crossing : ℕ → List Step
crossing n = two_points ++ calls Left 1 (Restart 2 for_asker []) ∷ calls Right 1 (Restart n for_asker []) ∷ to_left ∷ to_right
    ∷ calls Right 1 (RestartConfirm asker_sides []) ∷ to_left ∷ []

abbrev pub crossing_seen : ℕ → List Entry
crossing_seen n = two_points_seen ++ call_answered Left 1 (Restart 2 for_asker []) None
    ∷ call_answered Right 1 (Restart n for_asker []) None ∷ shown_at Right 1 (Restart 2 for_asker [])
    ∷ call_answered Right 1 (RestartConfirm asker_sides []) None ∷ shown_at Left 1 (Restarted 2 asker_sides []) ∷ []

abbrev pub after_crossing : ℕ → Machine
after_crossing n = run (start (accepts class_2)) (crossing n)

abbrev pub up_to_first_point : List Item
up_to_first_point = Octets (65 ∷ []) ∷ Point 1 minor_alone [] ∷ []

-- ---- a restart below a major point that the other side has confirmed: Left restarts before the confirmation arrives,
-- below the lowest number at which Right could restart

abbrev pub restart_below : List Step
restart_below = opening 185 1 ++ calls Left 1 (Major []) ∷ to_right ∷ calls Right 1 (MajorConfirm [])
    ∷ calls Left 1 (Restart 2 for_asker []) ∷ calls Left 1 (Restart 1 for_asker []) ∷ to_left ∷ to_right
    ∷ calls Right 1 (RestartConfirm asker_sides []) ∷ to_left ∷ []

abbrev pub restart_below_seen : List Entry
restart_below_seen = opening_seen 185 1 (Some 1) ++ call_answered Left 1 (Major []) None ∷ shown_at Right 1 (Major 1 [])
    ∷ call_answered Right 1 (MajorConfirm []) None ∷ call_answered Left 1 (Restart 2 for_asker []) (Some error.BadNumber)
    ∷ call_answered Left 1 (Restart 1 for_asker []) None ∷ shown_at Right 1 (Restart 1 for_asker [])
    ∷ call_answered Right 1 (RestartConfirm asker_sides []) None ∷ shown_at Left 1 (Restarted 1 asker_sides []) ∷ []

abbrev pub after_restart_below : Machine
after_restart_below = run (start (accepts class_2)) restart_below

-- ---- the last number

abbrev pub last_point : List Step
last_point = opening 185 999999 ++ calls Left 1 (Minor true []) ∷ calls Left 1 (Minor true [])
    ∷ calls Left 1 (Restart 1000000 for_asker []) ∷ calls Left 1 (Restart 999999 for_asker []) ∷ []

abbrev pub last_point_seen : List Entry
last_point_seen = opening_seen 185 999999 (Some 999999) ++ call_answered Left 1 (Minor true []) None
    ∷ call_answered Left 1 (Minor true []) (Some error.SerialsUsedUp)
    ∷ call_answered Left 1 (Restart 1000000 for_asker []) (Some error.BadNumber)
    ∷ call_answered Left 1 (Restart 999999 for_asker []) None ∷ []

-- ---- a release that is refused, and one whose answer a break loses

abbrev pub lost_release : List Step
lost_release = opening 185 1 ++ calls Left 1 (Release []) ∷ to_right ∷ calls Right 1 (ReleaseRefuse []) ∷ to_left
    ∷ calls Left 1 (Release []) ∷ to_right ∷ calls Right 1 (ReleaseAccept []) ∷ breaks (λ r. 0) (λ r. 0) ∷ ends Left told_of_break (λ r. 0) ∷ []

abbrev pub lost_release_seen : List Entry
lost_release_seen = opening_seen 185 1 (Some 1) ++ call_answered Left 1 (Release []) None ∷ shown_at Right 1 (Release [])
    ∷ call_answered Right 1 (ReleaseRefuse []) None ∷ shown_at Left 1 (ReleaseRefused []) ∷ call_answered Left 1 (Release []) None
    ∷ shown_at Right 1 (Release []) ∷ call_answered Right 1 (ReleaseAccept []) None ∷ shown_at Left 1 Lost ∷ ended Left told_of_break ∷ []

abbrev pub after_lost_release : Machine
after_lost_release = run (start (accepts class_0)) lost_release

-- ---- with duplex both sides send, and the called side may not ask for release

abbrev pub both_send : List Step
both_send = opening 2 1 ++ calls Left 1 (Data (65 ∷ [])) ∷ calls Right 1 (Data (66 ∷ [])) ∷ calls Right 1 (Release []) ∷ to_right ∷ to_left ∷ []

abbrev pub both_send_seen : List Entry
both_send_seen = opening_seen 2 1 None ++ call_answered Left 1 (Data (65 ∷ [])) None ∷ call_answered Right 1 (Data (66 ∷ [])) None
    ∷ call_answered Right 1 (Release []) (Some error.TokenNotHeld) ∷ shown_at Right 1 (Data (65 ∷ [])) ∷ shown_at Left 1 (Data (66 ∷ [])) ∷ []
