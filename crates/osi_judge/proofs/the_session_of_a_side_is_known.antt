-- What a judge keeps of the session of a side is what is known of it, once it has heard all that the other side said; and by that it is
-- found. For what is told of a connection in the crates above.
use Rattle.osi_judge.proofs.Vocabulary.{subst, List, ℕ, arith, Direction, Connection, Joined, HoldsJoined, IsHeard, IsSession, line_in}
use Rattle.osi_judge.proofs.Vocabulary.{Seen, other, spoken, told, heard, begin_of, IsFound, HasRoom, Observed, found_as, room_as}
use Rattle.osi_judge.proofs.Vocabulary.{found_of_tsdus, room_of_tsdus}
use Rattle.osi_judge.proofs.what_is_kept_of_a_side_is_what_passed.{heard_at}

pub session_at : (d : Direction) (c : Connection) (j : Joined) → HoldsJoined c j → IsHeard c → IsSession d j (line_in d c).side
session_at d c j h k = record { begins = grind arith; says = grind arith; hears = heard_at d c j h k }

pub session_found : (d : Direction) (j : Joined) (w : Observed) → IsSession d j w
    → IsFound (begin_of d) (heard (spoken (other d) j)) (told (spoken d j)) w.finding
session_found d j w h =
    subst (λ (z : Seen). IsFound z (heard (spoken (other d) j)) (told (spoken d j)) w.finding) h.begins
    (found_of_tsdus w.begin (heard (spoken (other d) j)) (told (spoken d j)) w.finding
    (subst (λ (x : List (List ℕ)). IsFound w.begin x (told (spoken d j)) w.finding) h.hears (found_as w (told (spoken d j)) h.says)))

pub session_room : (d : Direction) (j : Joined) (w : Observed) → IsSession d j w
    → HasRoom (begin_of d) (heard (spoken (other d) j)) (told (spoken d j)) w.finding
session_room d j w h =
    subst (λ (z : Seen). HasRoom z (heard (spoken (other d) j)) (told (spoken d j)) w.finding) h.begins
    (room_of_tsdus (heard (spoken (other d) j)) w.begin (told (spoken d j)) w.finding
    (subst (λ (x : List (List ℕ)). HasRoom w.begin x (told (spoken d j)) w.finding) h.hears (room_as w (told (spoken d j)) h.says)))
