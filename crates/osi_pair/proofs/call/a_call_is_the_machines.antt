-- A call of the user of an end is a call of the machine: two ends match the tables after it, as the tables are after theirs.
-- For calls, breaks and ends, packets and the laws of `standing`.
use Rattle.osi_between.specs.Between as two
use Rattle.osi_between.specs.Messages as carrier
use Rattle.osi_machine.specs.Machine as entries
use Rattle.osi_machine.specs.Tables.{after_call}
use Rattle.osi_machine.specs.Tables as tables
use Rattle.osi_machine.specs.Worlds as worlds
use Rattle.osi_session.specs.Listening as words
use Rattle.osi_stack.specs.State as stack
use Rattle.osi_pair.specs.Entries.{calls}
use Rattle.osi_pair.specs.Ends as ends
use Rattle.osi_pair.proofs.Vocabulary.{◌≡◌, ◌≢◌, refl, sym, ◌∙◌, ap, subst, ℕ, zero, suc, ◌≤◌, Bool, true, false, List, [], ◌∷◌, ◌++◌, map}
use Rattle.osi_pair.proofs.Vocabulary.{Option, Some, None, is_some, IsSome, Ok, arith, append-nil, AllByRecursion, slice_get, IsOctets}
use Rattle.osi_pair.proofs.Vocabulary.{IsShortTsdu, open_link, sent, sent_all, was_given, place_at, RiseFrom, Rows, value_at, Connection}
use Rattle.osi_pair.proofs.Vocabulary.{linked, State as Carrier, EndReason, put_here, put_other, Both, Between, AreBetween, Acted, Carries}
use Rattle.osi_pair.proofs.Vocabulary.{becomes, last_of, progress_of, in_use, Terms, terms_of, IsTableRun, AreSoundLines, connection_at}
use Rattle.osi_pair.proofs.Vocabulary.{call_answered, replaced, Seat, Line, Tables, seen_from, side_of, stays, call_in, step, Message, unit}
use Rattle.osi_pair.proofs.Vocabulary.{replied, IsInOctets, Meaning, IsSendable, words_sent, tsdus_of, allowed, octets_of, Passed, Call}
use Rattle.osi_pair.proofs.Vocabulary.{HasSerial, Listener, called, react, Shown, limit_of, CallError, call_error, AllCameAbout, IsSound}
use Rattle.osi_pair.proofs.Vocabulary.{Says, kept_at, to_session, End, Holding, session_in, session_at, IsAttended, puts_words, TwoEnds}
use Rattle.osi_pair.proofs.Vocabulary.{end_at, with_end, noted, called_by_error, side_in, is_caller, carriers_of, transport_in, is_parting}
use Rattle.osi_pair.proofs.Vocabulary.{IsSeated, Stands, HasJoined, joining, word_in, waiting_in, Word, Side, Left, Right, called_calm}
use Rattle.osi_pair.proofs.Vocabulary.{Link, put_row as put, SessionStep as Granted, IsSoundState, SessionState as State, limit_sized}
use Rattle.osi_pair.proofs.Vocabulary.{Local, IsSoundSeat, Step, run, StandsAt, nat_lt, if◌then◌else◌, none_there}
use Rattle.osi_pair.proofs.turn.what_an_acting_end_leaves_in_flight.{out_way, back_way, place_given, of_end, more_said, StandsOn, There}
use Rattle.osi_pair.proofs.turn.what_an_acting_end_leaves_in_flight.{there, begun_with, one_step}
use Rattle.osi_pair.proofs.call.a_call_is_answered_as_by_the_machine.{line_error, Answered, answer_same}
use Rattle.osi_pair.proofs.session.an_end_moves_as_the_tables_do.{calls_so, calls_keep}
use Rattle.osi_pair.proofs.session.a_seat_is_its_progress_and_session.{live_session}
use Rattle.osi_pair.proofs.words.added_and_cut_words_are_messages.{AreWords}
use Rattle.osi_pair.proofs.words.a_message_leaves_in_its_words.{PartLaws, word_of, carried_words, words_of_message}
use Rattle.osi_pair.proofs.turn.a_turn_keeps_the_match.{IsSeen, seen_twice, turned_stands, seen, still_there, with_holding}
use Rattle.osi_pair.proofs.turn.an_open_connection_acts.{turned_by}
use Rattle.osi_pair.proofs.call.what_a_call_sends_can_be_written.{call_in_octets}

-- the laws of the crates below
pub record CallLaws : Type 0 where
  pub handed_in_all : (terms : Terms) (end : Bool) (both : Both) (b : Between) (n : ℕ) (tsdus : List (List ℕ)) → AreBetween terms both b →
      (two.side end both).state.ended ≡ None → progress_of (place_at n (last_of end b)) ≡ in_use → AllByRecursion IsShortTsdu tsdus →
      AllByRecursion IsOctets tsdus →
      Acted terms end n both (becomes end (sent_all n tsdus (two.side end both).state) (two.side end both).held both) b []
      (map carrier.message tsdus)
  pub says : (r : ℕ) (call : Call) (e : End) → call_error r call e ≡ None → Says r call e (to_session r (words.called call) e)
  pub answers : Answered
  pub sound : (r : ℕ) (call : Call) (e : End) → IsSound e → IsSound (to_session r (words.called call) e)
  pub attended : (r : ℕ) (call : Call) (e : End) → IsAttended e → IsAttended (to_session r (words.called call) e)
  pub rising : (r : ℕ) (call : Call) (e : End) → RiseFrom 0 e.lines → RiseFrom 0 (to_session r (words.called call) e).lines
  pub came : (r : ℕ) (call : Call) (e : End) → HasSerial call → AllCameAbout e.lines →
      AllCameAbout (to_session r (words.called call) e).lines
  pub parts : PartLaws
  pub octets : (limit : ℕ) (m : Meaning) → IsSendable m → IsInOctets m → AllByRecursion IsOctets (tsdus_of limit m)
  pub passed : (s : State) (c : Call) (x : Granted) → allowed s c ≡ Ok x → Passed s c x
  pub sendable : (s : State) (c : Call) (x : Granted) → IsSoundState s → HasSerial c → allowed s c ≡ Ok x → IsSendable x.sent
  pub sound_lines : (t : Tables) → IsTableRun t → AreSoundLines t

-- ---- a refused call

pub put_nothing : (broken : Bool) (channel : List Message) → worlds.put broken [] channel ≡ channel
put_nothing broken channel = grind (arith, append-nil)

refused_line : (broken : Bool) (call : Call) (l : Line) (e : CallError) → (react l.own.session (called call)).error ≡ Some e →
    after_call broken call l ≡ l
unfolding react
refused_line broken call l e h = grind (arith, put_nothing)

-- the same line in its place
same_place : (r : ℕ) (l : Line) (ls : List Line) → slice_get ls r ≡ Some l → replaced r l ls ≡ ls
same_place r l [] e = refl
same_place zero l (x ∷ ls) e = let same : l ≡ x = cc in ap (λ (y : Line). y ∷ ls) same
same_place (suc r) l (x ∷ ls) e = ap (λ (ys : List Line). x ∷ ys) (same_place r l ls e)

refused_step : (t : Tables) (side : Side) (r : ℕ) (call : Call) (o : Option Line) (e : CallError) → connection_at r t.lines ≡ o →
    line_error (side_of (side_in side) o) call ≡ Some e →
    call_in t (side_in side) r call (side_of (side_in side) o) ≡ tables.noted (call_answered (side_in side) r call (Some e) ∷ []) t
refused_step t side r call o e h h2 = search (arith, react, refused_line, seen_twice, same_place)

with_same : (side : Side) (p : TwoEnds) → with_end side (end_at side p) p ≡ p
with_same side p = grind arith

-- what a call does, by its answer
abbrev pub after_by : Option CallError → Side → ℕ → Call → TwoEnds → TwoEnds
after_by o side r call p = noted (calls side r call o ∷ []) (with_end side (called_by_error o r call (end_at side p)) p)

pub refused_stands : (p : TwoEnds) (b : Between) (t : Tables) (side : Side) (r : ℕ) (call : Call) (e : CallError) → Stands p b t →
    line_error (side_of (side_in side) (connection_at r t.lines)) call ≡ Some e →
    StandsOn (after_by (Some e) side r call p) (step t (entries.calls (side_in side) r call))
refused_stands p b t side r call e s h =
    search (
      arith,
      more_said p b t (calls side r call (Some e)) (call_answered (side_in side) r call (Some e)) refl s,
      refused_step t side r call (connection_at r t.lines) e refl h,
      with_same side p,
    )

-- ---- the carrier of an accepted call

pub record OpenAt (r : ℕ) (c : Carrier) : Type 0 where
  pub lasts : c.ended ≡ None
  pub peer : ℕ
  pub link : Link
  pub at : value_at r c.live ≡ Some (linked peer link)
  pub is : open_link r c ≡ Some (peer, link)

open_by : (r : ℕ) (c : Carrier) (ended : Option EndReason) (o : Option Connection) → c.ended ≡ ended → value_at r c.live ≡ o →
    IsSome (open_link r c) → OpenAt r c
open_by r c ended o e at h = grind arith

-- what it leaves of the carrier
pub record SentOn (r : ℕ) (c new : Carrier) : Type 0 where
  pub is_caller : new.is_caller ≡ c.is_caller
  pub local : new.local ≡ c.local
  pub class : new.class ≡ c.class
  pub given : new.given ≡ c.given
  pub ended : new.ended ≡ c.ended
  pub peer : ℕ
  pub link : Link
  pub live : new.live ≡ put r (linked peer link) c.live

-- TSDUs that are sent together leave it so
pub record StaysOpen (r : ℕ) (c new : Carrier) : Type 0 where
  pub is_caller : new.is_caller ≡ c.is_caller
  pub local : new.local ≡ c.local
  pub class : new.class ≡ c.class
  pub given : new.given ≡ c.given
  pub ended : new.ended ≡ c.ended
  pub peer : ℕ
  pub link : Link
  pub at : value_at r new.live ≡ Some (linked peer link)
  pub others : (q : ℕ) → q ≢ r → value_at q new.live ≡ value_at q c.live

all_sent : (r : ℕ) (tsdus : List (List ℕ)) (c : Carrier) (peer : ℕ) (link : Link) → c.ended ≡ None →
    value_at r c.live ≡ Some (linked peer link) → StaysOpen r c (sent_all r tsdus c)
all_sent r [] c peer link lasts at = grind arith
all_sent r (tsdu ∷ tsdus) c peer link lasts at =
    let is : open_link r c ≡ Some (peer, link) = grind arith in
    let k : SentOn r c (sent r tsdu c) = grind arith in
    grind (
      arith,
      put_here,
      put_other,
      all_sent r tsdus (sent r tsdu c) k.peer k.link (k.ended ∙ lasts)
          (ap (value_at r) k.live ∙ put_here r (linked k.peer k.link) (linked peer link) c.live at),
    )

-- ---- the end of an accepted call

abbrev pub now_of : ℕ → Call → Holding → Holding
now_of r call h = record h { end = to_session r (words.called call) h.end }

-- what is true of it
pub record Called (r : ℕ) (call : Call) (h : Holding) : Type 0 where
  pub session : Listener
  pub was : session_at r h.end ≡ Some session
  pub granted : Granted
  pub accepted : allowed session.state call ≡ Ok granted
  pub reply : (words.react session (words.called call)).reply ≡ Some granted.sent
  pub waits : (words.react session (words.called call)).next.waiting ≡ session.waiting
  pub short : AllByRecursion IsShortTsdu (tsdus_of (limit_of session.state) granted.sent)
  pub opened : OpenAt r h.end.carrier
  pub is : (now_of r call h).end.carrier ≡ sent_all r (tsdus_of (limit_of session.state) granted.sent) h.end.carrier
  pub kept : StaysOpen r h.end.carrier (now_of r call h).end.carrier
  pub line : stack.Line
  pub found : value_at r h.end.lines ≡ Some line
  pub line_now : stack.Line
  pub session_now : line_now.session ≡ Some (words.react session (words.called call)).next
  pub waiting_now : line_now.waiting ≡ line.waiting
  pub lines : (now_of r call h).end.lines ≡ put r line_now h.end.lines

pub called_is : CallLaws → (r : ℕ) (call : Call) (h : Holding) → call_error r call h.end ≡ None → Called r call h
called_is laws r call h none =
    let s = laws.says r call h.end none in
    let g = s.granted in
    let session = s.acts.session in
    let open_now : OpenAt r h.end.carrier =
    open_by r h.end.carrier h.end.carrier.ended (value_at r h.end.carrier.live) refl refl g.opened in
    let limit = limit_of session.state in
    let is : (now_of r call h).end.carrier ≡ sent_all r (tsdus_of limit g.step.sent) h.end.carrier =
    grind (arith, puts_words, words_sent) in
    let waits = ap (λ (x : Listener). x.waiting) g.next in
    let kept = subst (StaysOpen r h.end.carrier) (sym is)
    (all_sent r (tsdus_of limit g.step.sent) h.end.carrier open_now.peer open_now.link open_now.lasts open_now.at) in
    let waiting_now = ap (λ (l : List Shown). s.acts.line.waiting ++ l) g.shown ∙ append-nil s.acts.line.waiting in
    search

pub session_now_is : (r : ℕ) (e : End) (x : Connection) (l : stack.Line) → value_at r e.carrier.live ≡ Some x →
    value_at r e.lines ≡ Some l → session_at r e ≡ l.session
session_now_is r e x l live at = grind arith

quiet_put : (r : ℕ) (x y : stack.Line) (lines : Rows stack.Line) → y.waiting ≡ x.waiting → value_at r lines ≡ Some x →
    waiting_in (put r y lines) ≡ waiting_in lines
quiet_put r x y [] same at = refl
quiet_put r x y ((q, z) ∷ lines) same at = grind (arith, quiet_put r x y lines same)

module _ (r : ℕ) (call : Call) (h : Holding) (c : Called r call h) where
  abbrev now : Holding
  now = now_of r call h

  place_now : r ≤ h.end.carrier.given → place_at r now.end.carrier ≡ was_given (Some (linked c.kept.peer c.kept.link))
  place_now within = grind arith

  place_then : r ≤ h.end.carrier.given → place_at r h.end.carrier ≡ was_given (Some (linked c.opened.peer c.opened.link))
  place_then within = place_given r h.end.carrier within ∙ ap was_given c.opened.at

  line_found : value_at r now.end.lines ≡ Some c.line_now
  line_found = ap (value_at r) c.lines ∙ put_here r c.line_now c.line h.end.lines c.found

  pub lasts_now : now.end.carrier.ended ≡ None
  lasts_now = c.kept.ended ∙ c.opened.lasts

  -- the session of the seat is the one that was called, and it makes the move that the seat's makes
  pub seat_session : (seat : Seat) (s : IsSeated r h seat) → joining s.joined seat.session ≡ c.session
  seat_session seat s = grind arith

  next_so : (seat : Seat) → IsSeated r h seat →
      (words.react c.session (words.called call)).next ≡ joining (words.react c.session (words.called call)).next.joined
      (react seat.session (called call)).next
  next_so seat s = grind (arith, seat_session, calls_so)

  seat_now : (broken : Bool) (x : Line) → r ≤ h.end.carrier.given → IsSeated r h x.own → IsSeated r now (after_call broken call x).own
  seat_now broken x within s =
      let next = next_so x.own s in
      let transport : x.own.transport ≡ worlds.linked = s.transport ∙ ap transport_in (place_then within) in
      let joined = (words.react c.session (words.called call)).next.joined in
      let session : Option Listener = Some (joining joined (react x.own.session (called call)).next) in
      let now_is : c.line_now.session ≡ session = c.session_now ∙ ap Some next in
      record {
        joined = joined;
        transport = transport ∙ ap transport_in (sym (place_now within));
        live = grind (arith, session_now_is, line_found);
        kept = λ y e. let is : Some y ≡ session = sym e ∙ ap session_in line_found ∙ now_is in cc;
        over_now = λ e. let no : false ≡ true = sym (ap is_parting transport) ∙ e in absurd cc;
        awaiting = λ e. let no : worlds.linked ≡ worlds.not_yet = sym transport ∙ e in absurd cc;
        octets = grind (arith, seat_session);
      }

  -- the words in which it leaves
  abbrev pub sent_words : List Word
  sent_words = map word_of (words_sent (limit_of c.session.state) c.granted.sent)

  -- what has begun is joined after the call as it was before
  keeps_joined : (begun : Option (List ℕ)) → HasJoined r h begun → HasJoined r now begun
  keeps_joined begun held y at =
      let was : kept_at r h.end.lines ≡ Some c.session = sym (live_session r h.end (ap is_some c.opened.at)) ∙ c.was in
      grind (arith, line_found, calls_keep c.session call begun (held c.session was))

  pub quiet_now : waiting_in h.end.lines ≡ [] → waiting_in now.end.lines ≡ []
  quiet_now quiet = ap waiting_in c.lines ∙ quiet_put r c.line c.line_now h.end.lines c.waiting_now c.found ∙ quiet

-- ---- the two of an accepted call

abbrev pub new_of : Side → ℕ → Call → TwoEnds → TwoEnds
new_of side r call p = with_end side (now_of r call (end_at side p)) p

end_is : (side : Side) (r : ℕ) (call : Call) (p : TwoEnds) → end_at side (new_of side r call p) ≡ now_of r call (end_at side p)
end_is side r call p = grind arith

abbrev pub terms_now : TwoEnds → Terms
terms_now p = terms_of p.left.end.carrier.local p.right.end.carrier.local

-- all of them are handed to the carrier, and are what the session sends
pub record MayAct (side : Side) (r : ℕ) (call : Call) (p : TwoEnds) (b : Between) (words : List Word) (m : Meaning) : Type 0 where
  pub now : Between
  pub between : AreBetween (terms_now p) (carriers_of (new_of side r call p)) now
  pub carries : Carries (terms_now p) (is_caller side) r (carriers_of p) (carriers_of (new_of side r call p)) b now [] (map word_in words)
  pub are : AreWords words (unit m ∷ [])

abbrev HandsIn : Side → ℕ → Call → TwoEnds → Between → List carrier.Message → Type 0
HandsIn side r call p b messages = Acted (terms_now p) (is_caller side) r (carriers_of p) (carriers_of (new_of side r call p)) b [] messages

hands_in : CallLaws → (side : Side) (r : ℕ) (call : Call) (p : TwoEnds) (b : Between) (c : Called r call (end_at side p)) →
    AreBetween (terms_now p) (carriers_of p) b → progress_of (place_at r (last_of (is_caller side) b)) ≡ in_use →
    AllByRecursion IsOctets (tsdus_of (limit_of c.session.state) c.granted.sent) →
    HandsIn side r call p b (map carrier.message (tsdus_of (limit_of c.session.state) c.granted.sent))
hands_in laws Left r call p b c between open_now octets =
    let tsdus = tsdus_of (limit_of c.session.state) c.granted.sent in
    subst (λ (x : Carrier). Acted (terms_now p) true r (carriers_of p) (becomes true x p.left.held.octets (carriers_of p)) b []
    (map carrier.message tsdus)) (sym c.is)
    (laws.handed_in_all (terms_now p) true (carriers_of p) b r tsdus between c.opened.lasts open_now c.short octets)
hands_in laws Right r call p b c between open_now octets =
    let tsdus = tsdus_of (limit_of c.session.state) c.granted.sent in
    subst (λ (x : Carrier). Acted (terms_now p) false r (carriers_of p) (becomes false x p.right.held.octets (carriers_of p)) b []
    (map carrier.message tsdus)) (sym c.is)
    (laws.handed_in_all (terms_now p) false (carriers_of p) b r tsdus between c.opened.lasts open_now c.short octets)

-- ---- the tables then

abbrev pub tables_now : Tables → Side → ℕ → Call → Line → Tables
tables_now t side r call l = stays t (side_in side) r (after_call t.broken call (seen_from (side_in side) l))

-- ---- the step of the tables

record Accepted (t : Tables) (side : Side) (r : ℕ) (call : Call) (o : Option Line) : Type 0 where
  line : Line
  found : o ≡ Some line
  is : call_in t (side_in side) r call (side_of (side_in side) o) ≡ tables.noted (call_answered (side_in side) r call None ∷ [])
      (tables_now t side r call line)

-- ---- what is sent

-- ---- two ends

module _ (laws : CallLaws) (side : Side) (r : ℕ) (call : Call) (p : TwoEnds) (b : Between) (t : Tables) (tabled : IsTableRun t)
    (serial : HasSerial call) (octets : IsOctets (octets_of call)) (s : Stands p b t) (c : Called r call (end_at side p))
    (within : r ≤ (end_at side p).end.carrier.given) (l : Line) (at : connection_at r t.lines ≡ Some l) (th : There r p b t l) where
  -- what it sends, and in which words; and the line, seen from the side
  abbrev said : Meaning
  said = c.granted.sent

  abbrev leaves : List Word
  leaves = sent_words r call (end_at side p) c

  abbrev line : Line
  line = seen_from (side_in side) l

  was_seen : IsSeen side r p b line
  was_seen = seen side r p b l th.is

  progress_then : progress_of (place_at r (last_of (is_caller side) b)) ≡ in_use
  progress_then =
      let o = of_end side p b t s in
      let place = place_then r call (end_at side p) c within in
      grind arith

  -- what it sends can be sent
  acted_at : MayAct side r call p b leaves said
  acted_at =
      let same = seat_session r call (end_at side p) c line.own was_seen.here in
      let seat : IsSoundSeat line.own = grind (arith, laws.sound_lines t tabled r l at) in
      let sound : IsSoundState c.session.state = subst (λ (y : Listener). IsSoundState y.state) same seat.sound in
      let sendable : IsSendable said = laws.sendable c.session.state call c.granted sound serial c.accepted in
      let limit = limit_of c.session.state in
      let written = call_in_octets c.session.state call c.granted (laws.passed c.session.state call c.granted c.accepted) sendable octets in
      let a = subst (HandsIn side r call p b) (carried_words (words_sent limit said))
      (hands_in laws side r call p b c s.between progress_then (laws.octets limit said sendable written)) in
      record {
        now = a.now;
        between = a.between;
        carries = a.carries;
        are = words_of_message laws.parts limit said (limit_sized c.session.state limit refl sound)
            (grind (arith, laws.passed c.session.state call c.granted c.accepted));
      }

  line_acts : (a : MayAct side r call p b leaves said) → IsSeen side r (new_of side r call p) a.now (after_call t.broken call line)
  line_acts a =
      let h = was_seen in
      let sends : (react line.own.session (called call)).reply ≡ Some said = grind (arith, calls_so, seat_session) in
      let after : progress_of (place_at r (last_of (is_caller side) a.now)) ≡ in_use =
      search (arith, lasts_now r call (end_at side p) c, place_now r call (end_at side p) c within) in
      record {
        here = search (arith, end_is, seat_now);
        there = subst (λ (y : Holding). IsSeated r y line.peer) (sym (grind arith)) h.there;
        out = out_way (terms_now p) side r p (new_of side r call p) b a.now leaves
            (unit said ∷ []) line.own.channel t.broken (after_call t.broken call line).own line.peer a.are a.carries s.broken
            (grind (arith, progress_then)) (grind arith) c.opened.lasts
            (grind arith) h.out
            (ap (λ (y : Option Meaning). worlds.put t.broken (replied y) line.own.channel) sends);
        back = back_way (terms_now p) side r p (new_of side r call p) b a.now (map word_in leaves) line.peer line.own
            (after_call t.broken call line).own a.carries (progress_then ∙ sym after)
            (grind arith) c.opened.lasts (grind arith)
            (λ begun held. grind (arith, end_is side r call p, keeps_joined r call (end_at side p) c begun held))
            (λ calm. called_calm line.own.session call line.peer.channel serial calm) h.back;
      }

  stand_at : (a : MayAct side r call p b leaves said) → Stands (new_of side r call p) a.now (tables_now t side r call l)
  stand_at a =
      let h : Holding = end_at side p in
      let e : End = (now_of r call h).end in
      let lasts = lasts_now r call h c in
      subst (λ (q : TwoEnds). Stands q a.now (tables_now t side r call l)) (grind (arith, with_holding, append-nil))
      (turned_stands side p b t e h.held a.now (tables_now t side r call l) r [] s c.opened.lasts
      (turned_by side p b t e h.held a.now r line (after_call t.broken call line) s
      (record { is_caller = c.kept.is_caller; local = c.kept.local; class = c.kept.class; given = c.kept.given; lasts = lasts }) a.between
      (at ∙ ap Some (sym (seen_twice (side_in side) l))) (line_acts a)
      (grind (arith, put_other, if◌then◌else◌, nat_lt, still_there))
      (still_there side b a.now a.carries.there) (grind arith)
      (quiet_now r call h c (of_end side p b t s).quiet)))

-- ---- a reference that was given

within_given : (r : ℕ) (call : Call) (h : Holding) → call_error r call h.end ≡ None → r ≤ h.end.carrier.given
within_given r call h none = grind arith

-- ---- a call

accepted_stands : (laws : CallLaws) (side : Side) (r : ℕ) (call : Call) (p : TwoEnds) (b : Between) (t : Tables) → IsTableRun t →
    HasSerial call → IsOctets (octets_of call) → Stands p b t → call_error r call (end_at side p).end ≡ None →
    line_error (side_of (side_in side) (connection_at r t.lines)) call ≡ None →
    StandsOn (after_by None side r call p) (step t (entries.calls (side_in side) r call))
accepted_stands laws side r call p b t tabled serial octets s none fine =
    let c = called_is laws r call (end_at side p) none in
    let d : Accepted t side r call (connection_at r t.lines) = grind arith in
    let th = there none_there r p b t d.line s d.found in
    let within = within_given r call (end_at side p) none in
    let a = acted_at laws side r call p b t tabled serial octets s c within d.line d.found th in
    let on = stand_at laws side r call p b t tabled serial octets s c within d.line d.found th a in
    record {
      now = a.now;
      stands = subst (Stands (after_by None side r call p) a.now) (sym d.is)
          (search (arith, more_said));
    }

call_by : (laws : CallLaws) (side : Side) (r : ℕ) (call : Call) (p : TwoEnds) (b : Between) (t : Tables) (o : Option CallError) →
    call_error r call (end_at side p).end ≡ o → IsTableRun t → HasSerial call → IsOctets (octets_of call) → Stands p b t →
    StandsOn (after_by o side r call p) (step t (entries.calls (side_in side) r call))
call_by laws side r call p b t None is tabled serial octets s =
    accepted_stands laws side r call p b t tabled serial octets s is
    (sym (answer_same laws.answers r side p b t call serial s) ∙ is)
call_by laws side r call p b t (Some e) is tabled serial octets s =
    refused_stands p b t side r call e s (sym (answer_same laws.answers r side p b t call serial s) ∙ is)

-- the ends stay what they support
local_by : (laws : CallLaws) (side : Side) (r : ℕ) (call : Call) (p : TwoEnds) (o : Option CallError) →
    call_error r call (end_at side p).end ≡ o →
    terms_of (after_by o side r call p).left.end.carrier.local (after_by o side r call p).right.end.carrier.local ≡
    terms_of p.left.end.carrier.local p.right.end.carrier.local
local_by laws Left r call p None e = ap (λ (x : Local). terms_of x p.right.end.carrier.local) (called_is laws r call p.left e).kept.local
local_by laws Right r call p None e = ap (λ (x : Local). terms_of p.left.end.carrier.local x) (called_is laws r call p.right e).kept.local
local_by laws side r call p o e = grind arith

pub call_at : CallLaws → (p : TwoEnds) (steps : List Step) (side : Side) (r : ℕ) (call : Call) → HasSerial call →
    IsOctets (octets_of call) → StandsAt p steps →
    StandsAt (ends.after_call side r call p) (steps ++ entries.calls (side_in side) r call ∷ [])
call_at laws p steps side r call serial octets s =
    let t : Tables = run (begun_with p) steps in
    let tabled : IsTableRun t = record { agreed = _; steps = steps; numbered = s.numbered; reached = refl } in
    let o = call_error r call (end_at side p).end in
    one_step p (after_by o side r call p) steps (entries.calls (side_in side) r call) serial (local_by laws side r call p o refl) s.numbered
    (call_by laws side r call p s.now t o refl tabled serial octets s.stands)
