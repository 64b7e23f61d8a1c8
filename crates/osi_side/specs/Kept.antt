-- Which sessions are kept of those that explain a side, and in which order: a function of what it sent, and of what the other side
-- sent.
use Rattle.std.specs.Prelude.{◌≡◌, ℕ, zero, suc, ◌+◌, ◌-◌, Bool, true, false, ◌&&◌, ◌||◌, ◌==◌, if◌then◌else◌, nat_le, nat_lt, is_none}
use Rattle.std.specs.Prelude.{List, [], ◌∷◌, ◌++◌, length, drop, get_or, Option, Some, None, option_map, Result, Ok, Err}
use Rattle.std.specs.List.{fold, flat_map}
use Rattle.osi_spdu.specs.declared.faults.SpduFault.{SpduFault}
use Rattle.osi_spdu.specs.declared.fields.ResyncType.TheVariants.{Restart}
use Rattle.osi_spdu.specs.declared.settings.Wish.TheVariants.{Answerer}
use Rattle.osi_spdu.specs.Units.{said_by}
use Rattle.osi_message.specs.Meanings.{Meaning, AB, RS}
use Rattle.osi_message.specs.Reading.{said_at, word}
use Rattle.osi_message.specs.Words.{Word, Words, says}
use Rattle.osi_session.specs.Joining.{acting_words, is_restart_word}
use Rattle.osi_session.specs.Phases.{is_restarting}
use Rattle.osi_session.specs.Same.{same_bit, same_state}
use Rattle.osi_session.specs.Standing.{Seen, Count, listens, after_count, answers_word, said}
use Rattle.osi_session.specs.Steady.{is_steady}
use Rattle.osi_side.specs.declared.first_places.Step.{Step}
use Rattle.osi_side.specs.declared.first_places.Step.TheVariants.{Said, On, Stuck}
use Rattle.osi_side.specs.declared.members.Member.{Member}
use Rattle.osi_side.specs.declared.restarts.Asked.{Asked}
use Rattle.osi_side.specs.declared.restarts.Asker.{Asker}
use Rattle.osi_side.specs.declared.restarts.Asking.{Asking}
use Rattle.osi_side.specs.declared.walks.Walker.{Walker}
use Rattle.osi_side.specs.Explaining.{Told}
use Rattle.osi_side.specs.Nearest.{count_at, next_of, reached}

-- ---- one more session, unless it is there already

abbrev pub same_count : Option ℕ → Option ℕ → Bool
same_count None None = true
same_count (Some m) (Some n) = m == n
same_count _ _ = false

unfoldable pub same_seen : Seen → Seen → Bool
same_seen s t =
    same_state s.state t.state && (same_count s.joined t.joined && (same_count s.sent t.sent && same_bit s.closed t.closed))

abbrev pub same_member : Member → Member → Bool
same_member m n = (m.taken == n.taken) && same_seen m.standing n.standing

abbrev pub is_among : Member → List Member → Bool
is_among m [] = false
is_among m (n ∷ members) = same_member n m || is_among m members

-- one more at the end, unless it is one of the last 256
unfoldable pub added : List Member → Member → List Member
added members m = if is_among m (drop (length members - 256) members) then members else members ++ m ∷ []

-- ---- one session

abbrev pub member : (taken : ℕ) → Seen → Member
member taken s = record { taken = taken; standing = s }

-- the session after it sent this word, of a TSDU of so many octets; none if it may not
abbrev pub sends : Word → (octets : ℕ) → Member → Option Member
sends w octets m = option_map (member m.taken) (said m.standing w octets)

abbrev pub quiet_after : Seen → Count → Option Seen
quiet_after s c = if is_none c.reply then Some (after_count s c) else None

-- its state after this TSDU, if it takes it and sends nothing
abbrev pub quietly : Seen → List ℕ → Option Seen
quietly s tsdu = if listens s then quiet_after s (count_at s tsdu) else None

-- one step on the way to the first place at which it may send the word
abbrev pub StepsAs : List (List ℕ) → Word → (octets : ℕ) → Member → Step → Type 0
StepsAs us w octets m (Said said) = sends w octets m ≡ Some said
StepsAs us w octets m (On on) = (sends w octets m ≡ None) × (next_of us m ≡ Some on)
StepsAs us w octets m Stuck = (sends w octets m ≡ None) × (next_of us m ≡ None)

-- ---- a steady unit: it is sent at the first place at which it may be

abbrev pub or_else : Option Member → Option Member → Option Member
or_else None later = later
or_else (Some m) later = Some m

-- the first of these that may send it, after it
abbrev pub first_sender : Word → (octets : ℕ) → List Member → Option Member
first_sender w octets [] = None
first_sender w octets (m ∷ members) = or_else (sends w octets m) (first_sender w octets members)

abbrev pub listed : Option Member → List Member
listed None = []
listed (Some m) = m ∷ []

-- ---- another unit: it is sent at any place, or answers a TSDU

-- the one that sent it last is in this state by now
abbrev pub is_covered : (earlier : Option Seen) → Seen → Bool
is_covered None s = false
is_covered (Some earlier) s = same_seen earlier s

-- a session that sends it, unless it is covered
abbrev pub anew : (earlier : Option Seen) → Option Member → List Member
anew earlier None = []
anew earlier (Some m) = if is_covered earlier m.standing then [] else m ∷ []

-- the state of the one that sent it last
abbrev pub latest : (earlier : Option Seen) → Option Member → Option Seen
latest earlier None = earlier
latest earlier (Some m) = Some m.standing

-- and what it is after one TSDU more
abbrev pub follows : Option Seen → List ℕ → Option Seen
follows None tsdu = None
follows (Some s) tsdu = quietly s tsdu

abbrev pub if_answer : Word → Option Meaning → Member → List Member
if_answer w None m = []
if_answer w (Some reply) m = if answers_word reply w then m ∷ [] else []

abbrev pub answer_by : Word → Member → Count → List Member
answer_by w m c = if_answer w c.reply (member (m.taken + 1) (after_count m.standing c))

-- the session after the next TSDU, if the word is its answer
abbrev pub answering : List (List ℕ) → Word → Member → List Member
answering us w m = if listens m.standing then answer_by w m (count_at m.standing (get_or us m.taken [])) else []

-- the sessions after the word, from this one, which takes at most so many TSDUs first
abbrev pub senders : List (List ℕ) → Word → (octets n : ℕ) → (earlier : Option Seen) → Option Member → List Member
senders us w octets n earlier None = []
senders us w octets zero earlier (Some m) = anew earlier (sends w octets m)
senders us w octets (suc n) earlier (Some m) =
    anew earlier (sends w octets m) ++ (answering us w m
    ++ senders us w octets n (follows (latest earlier (sends w octets m)) (get_or us m.taken [])) (next_of us m))

-- and from one that a walk has come to, if it goes on
abbrev pub senders_from : List (List ℕ) → Word → (octets n : ℕ) → Option Walker → List Member
senders_from us w octets n None = []
senders_from us w octets n (Some walker) = senders us w octets n walker.said_before (Some walker.at)

-- ---- a restart: of those that send it one after the other and differ in V(A) alone the first and the last are kept

-- the restart; the one at V(R), after which two sessions are equal that differ in V(A) alone; and an abort
pub record Way : Type 0 where
  pub restart : Word
  pub shown : Word
  pub abort : Word
  pub octets : ℕ

abbrev pub restart_at : (number : ℕ) → Word
restart_at number = says (RS Restart number (record { data_token = Answerer; minor = Answerer; major = Answerer; release = Answerer }) [])

abbrev pub an_abort : Word
an_abort = says (AB 1 [])

abbrev pub way_of : Asking → (octets : ℕ) → Way
way_of a octets = record {
  restart = word (said_by a.restart);
  shown = word (said_by a.shown);
  abort = word
      (said_by a.abort);
  octets = octets;
}

abbrev pub way_to : Word → (octets : ℕ) → Seen → Way
way_to w octets s = record { restart = w; shown = restart_at s.state.numbers.lowest; abort = an_abort; octets = octets }

-- the sessions that are kept now, and those that wait
pub record Halt : Type 0 where
  pub kept : List Member
  pub waiting : Option Asked

-- the first and the last of those that wait
abbrev pub both_of : (taken : ℕ) → Option Asked → List Member
both_of taken None = []
both_of taken (Some a) = member taken a.first ∷ member taken a.last ∷ []

-- the V(A) of the last lies between that of the first and that of this one
abbrev pub is_between : Asked → Seen → Bool
is_between a s =
    nat_le a.first.state.numbers.confirmed a.last.state.numbers.confirmed && nat_le a.last.state.numbers.confirmed s.state.numbers.confirmed

abbrev pub unless : Bool → Member → List Member
unless true m = []
unless false m = m ∷ []

-- One more sends it, which is `shown` after the restart at V(R). If it is not one of those that wait, these are kept.
abbrev pub joined : (taken : ℕ) → Option Asked → (s shown : Seen) → Halt
joined taken None s shown = record { kept = []; waiting = Some (record { first = s; last = s; shown = shown }) }
joined taken (Some a) s shown =
    if same_seen a.shown shown
    then record {
      kept = unless (is_between a s) (member taken a.last);
      waiting = Some
          (record { first = a.first; last = s; shown = a.shown });
    }
    else record { kept = both_of taken (Some a); waiting = Some (record { first = s; last = s; shown = shown }) }

abbrev pub asked_by : (taken : ℕ) → Option Asked → (said shown : Option Member) → Halt
asked_by taken asked None shown = record { kept = []; waiting = asked }
asked_by taken asked (Some m) None = record { kept = m ∷ []; waiting = asked }
asked_by taken asked (Some m) (Some n) = joined taken asked m.standing n.standing

-- a session sends it here
abbrev pub asks : Way → Option Asked → Member → Halt
asks way asked m = asked_by m.taken asked (sends way.restart way.octets m) (sends way.shown way.octets m)

abbrev pub is_still : Seen → Option Seen → Bool
is_still s None = false
is_still s (Some t) = same_seen t s

abbrev pub remain : Seen → Option Seen → List ℕ → Bool
remain s None tsdu = false
remain s (Some aborted) tsdu = is_still s (quietly s tsdu) && is_still aborted (quietly aborted tsdu)

-- it waits for the answer, and remains as it is after this TSDU, also if it aborts first
unfoldable pub waits : (abort : Word) → Seen → List ℕ → Bool
waits abort s tsdu = is_restarting s.state.phase && remain s (said s abort 0) tsdu

-- those that wait after this TSDU; if one of them waits no more, both are kept
abbrev pub waited : (abort : Word) → (taken : ℕ) → Option Asked → List ℕ → Halt
waited abort taken None tsdu = record { kept = []; waiting = None }
waited abort taken (Some a) tsdu =
    if waits abort a.first tsdu && waits abort a.last tsdu
    then record { kept = []; waiting = Some a }
    else record { kept = both_of taken (Some a); waiting = None }

-- nobody goes on
abbrev pub passed : List (List ℕ) → (abort : Word) → (taken : ℕ) → Option Asked → Option Member → Halt
passed us abort taken asked None = record { kept = both_of taken asked; waiting = None }
passed us abort taken asked (Some m) = waited abort taken asked (get_or us taken [])

abbrev pub halted : List (List ℕ) → (abort : Word) → Member → Halt → Halt
halted us abort m h = record {
  kept = h.kept ++ (passed us abort m.taken h.waiting (next_of us m)).kept;
  waiting = (passed us abort m.taken h.waiting (next_of us m)).waiting;
}

-- a session sends it here, and all of them take the next TSDU
abbrev pub stepped : List (List ℕ) → Way → Option Asked → Member → Halt
stepped us way asked m = halted us way.abort m (asks way asked m)

-- the sessions after the restart, from this one, which takes at most so many TSDUs first
abbrev pub askers : List (List ℕ) → Way → (n : ℕ) → Option Asked → Option Member → List Member
askers us way n asked None = []
askers us way zero asked (Some m) = (asks way asked m).kept ++ both_of m.taken (asks way asked m).waiting
askers us way (suc n) asked (Some m) = (stepped us way asked m).kept ++ askers us way n (stepped us way asked m).waiting (next_of us m)

-- and from one that a walk has come to, if it goes on
abbrev pub askers_from : List (List ℕ) → Way → (n : ℕ) → Option Asker → List Member
askers_from us way n None = []
askers_from us way n (Some asker) = askers us way n asker.asked (Some asker.at)

-- ---- all sessions

-- V(R) has to be a number that a unit can have
abbrev pub restarters : List (List ℕ) → Word → (octets before : ℕ) → Member → List Member
restarters us w octets before m =
    if nat_lt 999999 m.standing.state.numbers.lowest
    then senders us w octets (before - m.taken) None (Some m)
    else askers us (way_to w octets m.standing) (before - m.taken) None (Some m)

-- the sessions after a word, from one that takes at most what had passed first
unfoldable pub places_of : List (List ℕ) → Word → (octets before : ℕ) → Member → List Member
places_of us w octets before m =
    if is_restart_word w then restarters us w octets before m
    else if is_steady w then listed (first_sender w octets (reached us before m))
    else senders us w octets (before - m.taken) None (Some m)

-- after a word, from all
abbrev pub after_word : List (List ℕ) → (octets before : ℕ) → List Member → Word → List Member
after_word us octets before members w = fold added [] (flat_map (places_of us w octets before) members)

abbrev pub after_words : List (List ℕ) → (octets before : ℕ) → List Member → Words → List Member
after_words us octets before members words = fold (after_word us octets before) members words

abbrev pub after_read : List (List ℕ) → (octets before : ℕ) → List Member → Result Words SpduFault → List Member
after_read us octets before members (Ok words) = after_words us octets before members (acting_words words)
after_read us octets before members (Err fault) = []

-- after a TSDU, from all
abbrev pub after_tsdu : List (List ℕ) → List Member → Told → List Member
after_tsdu us members t = after_read us (length t.octets) t.before members (said_at t.octets)

-- the sessions that are kept of a side that begins in this state, and has sent this
unfoldable pub kept : (begin : Seen) → List (List ℕ) → List Told → List Member
kept begin us told = fold (after_tsdu us) (member 0 begin ∷ []) told
