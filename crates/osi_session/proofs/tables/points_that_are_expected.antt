-- Data, minor points and confirmations: those that are expected, and points that are sent.
use Rattle.osi_session.proofs.Vocabulary.{and_from, and_parts, Answer, after, fits_limit, most_user_data, sends, advanced, after_input}
use Rattle.osi_session.proofs.Vocabulary.{call_for, has_next, may_advance, may_call, SpduFault, Meaning, DT, MIP, MIA, GT, tsdus_of}
use Rattle.osi_session.proofs.Vocabulary.{no_token, Words, says, Numbers, State, Step, allowed, Call, heard, joined_octets}
use Rattle.osi_session.proofs.Vocabulary.{kept_in, respond_came, Listener, called, react, came_as, taker_of, point_taken, minor_confirmed}
use Rattle.osi_session.proofs.Vocabulary.{is_ready, takes_data, respond_unit, shows, only_shows, PlansPoint, limit_of, Shown}
use Rattle.osi_session.proofs.Vocabulary.{MinorConfirmed, IsSound, IsNumberedWord, respond_word, ◌≡◌, ◌∙◌, ap, ℕ}
use Rattle.osi_session.proofs.Vocabulary.{◌≤◌, ◌==◌, nat_le, nat_lt, Bool, List, [], ◌∷◌, Option, Some, None, is_some, Result, Ok, Err}
use Rattle.osi_session.proofs.Vocabulary.{if◌then◌else◌, true, false, refl, sym, length, arith, PlainUnit, PlannedPoint, SentPoint, subst}
use Rattle.osi_session.proofs.Vocabulary.{is_major_asked, takes_minor_ack, Hearing}
use Rattle.osi_message.specs.Plain.{plain_word as unit_word}
use Rattle.osi_session.specs.Shown.{Data, Minor}
use Rattle.osi_session.proofs.moves.the_move_of_each_input.{came_is, call_errs, call_next, call_passes, call_sends}
use Rattle.osi_session.proofs.tables.what_an_accepted_call_has_passed.{accepted, passed}
use Rattle.osi_session.proofs.tables.what_is_true_of_each_phase.{implied, excluded}
use Rattle.osi_session.proofs.tables.the_verdict_on_a_unit.{good_in}
use Rattle.osi_session.proofs.sent.what_is_sent_can_be_written.{call_sendable}
use Rattle.osi_session.proofs.moves.the_moves_in_memory.{holds, leaves_as, leaves_word}
use Rattle.osi_session.proofs.runs.calls_keep_the_invariant.{after_sound}
use Rattle.osi_session.proofs.tables.messages_act_as_the_table_says.{kept_none, plain_word, word_behind}

-- expected data is indicated, and changes nothing
pub data_is_shown : (s : State) (octets : List ℕ) → takes_data s.phase ≡ true → s.held.data_token ≡ false →
    respond_unit s (DT octets) ≡ shows s (Data octets)
data_is_shown s octets h k = good_in takes_data s (DT octets) refl h refl (record { expected = h; met = (rw k refl, tt) })

-- an expected point is indicated, and changes only the numbers
pub point_is_shown : (s : State) (n : ℕ) → is_ready s.phase ≡ true → s.units.minor ≡ true → s.held.data_token ≡ false → s.held.minor ≡ false
    → (n == s.numbers.next) ≡ true → respond_unit s (MIP true n []) ≡ shows (record s { numbers = point_taken s.numbers }) (Minor n true [])
point_is_shown s n r u d m k =
    good_in is_ready s (MIP true n []) refl r refl (record { expected = r; met = (u, (rw (d, m) refl, (k, tt))) })

-- and so is a confirmation
pub ack_is_shown : (s : State) (n : ℕ) → is_ready s.phase ≡ true → s.units.minor ≡ true → s.numbers.answers ≡ false →
    nat_le s.numbers.confirmed n ≡ true
    → nat_lt n s.numbers.next ≡ true →
    respond_unit s (MIA n []) ≡ shows (record s { numbers = minor_confirmed n s.numbers }) (MinorConfirmed n [])
ack_is_shown s n r u a k l =
    let expected = implied is_ready takes_minor_ack refl s.phase r in
    let asked = excluded is_ready is_major_asked refl s.phase r in
    good_in is_ready s (MIA n []) refl r refl (record { expected = expected; met = (u, (rw (a, k, asked, l) refl, tt)) })

-- if nothing is joined
pub word_comes : (s : State) (u : Meaning) (v : Numbers) (i : Shown) → respond_unit s u ≡ shows (record s { numbers = v }) i
    → respond_word (record { state = s; joined = None }) (says u) ≡ heard None (shows (record s { numbers = v }) i)
word_comes s u v i h = plain_word s u ∙ ap (heard None) h

-- after a token item that names no token
pub unit_comes : (s : State) (u : Meaning) (v : Numbers) (i : Shown) (read : Result Words SpduFault) →
    read ≡ Ok (says (GT no_token) ∷ says u ∷ [])
    → respond_unit s u ≡ shows (record s { numbers = v }) i →
    respond_came (record { state = s; joined = None }) read ≡ heard None (shows (record s { numbers = v }) i)
unit_comes s u v i read e h = grind (arith, word_behind, word_comes s u v i h)

-- an indication, and a change of the numbers
abbrev Shows : Hearing → State → Numbers → Shown → Type 0
Shows h s v i = h ≡ heard None (shows (record s { numbers = v }) i)

pub point_shows : {y l : Listener} {b : Bool} (v : Numbers) (i : Shown) (read : Result Words SpduFault) → y ≡ l → b ≡ is_some y.joined
    → (b ≡ false) × Shows (respond_came (record { state = y.state; joined = None }) read) y.state v i
    → react l (came_as read) ≡ only_shows (record y { state = record y.state { numbers = v } }) i
point_shows v i read view n h = grind (arith, kept_none, came_is)

-- data changes nothing
pub data_shows : {y l : Listener} {b : Bool} (o shown : List ℕ) (read : Result Words SpduFault) → y ≡ l → b ≡ is_some y.joined → b ≡ false
    → read ≡ Ok (says (GT no_token) ∷ says (DT o) ∷ []) → respond_unit y.state (DT o) ≡ shows y.state (Data o) → shown ≡ o
    → react l (came_as read) ≡ only_shows l (Data shown)
data_shows {y = y} o shown read view n f e h s =
    point_shows y.state.numbers (Data shown) read view n (
      f,
      unit_comes y.state (DT o) y.state.numbers (Data o) read e h
          ∙ ap (λ (x : List ℕ). heard None (shows y.state (Data x))) (sym s),
    ) ∙ ap (λ (x : Listener). only_shows x (Data shown)) view

-- and its state is sound
pub point_leaves : (l : Listener) {b : Bool} (v : Numbers) (i : Shown) (u : Meaning) → IsNumberedWord (says u) → b ≡ is_some l.joined → b ≡ false
    → respond_unit l.state u ≡ shows (record l.state { numbers = v }) i
    → IsSound l.state → kept_in l.state.phase l.joined ≡ l.joined → length (joined_octets l.joined) ≤ 1048572 →
    IsSound (record l.state { numbers = v })
point_leaves l v i u small n f h sound kept few =
    (leaves_as l (heard None (shows (record l.state { numbers = v }) i)) (respond_word (taker_of l) (says u))
    (sym (ap (λ (x : Option (List ℕ)). respond_word (record { state = l.state; joined = x }) (says u)) (grind arith)
    ∙ word_comes l.state u v i h))
    (leaves_word l (says u) (holds refl sound kept few) small)).sound

-- a point that is read straight, and expected
pub unit_shows : {y l : Listener} {b : Bool} (u : Meaning) (v : Numbers) (i : Shown) (read : Result Words SpduFault) → y ≡ l →
    b ≡ is_some y.joined → b ≡ false → read ≡ Ok (says (GT no_token) ∷ says u ∷ [])
    → respond_unit y.state u ≡ shows (record y.state { numbers = v }) i
    → react l (came_as read) ≡ only_shows (record y { state = record y.state { numbers = v } }) i
unit_shows {y = y} u v i read view n f e h = point_shows v i read view n (f, unit_comes y.state u v i read e h)

-- the numbers in a unit that the fast path reads
pub plain_numbered : (p : PlainUnit) → IsNumberedWord (unit_word p)
plain_numbered p = grind arith

-- ---- a point that is planned, and then sent

same_phase : (s : State) (p : SentPoint) (confirm : Bool) (octets : List ℕ) →
    may_call s.phase (call_for p confirm octets) ≡ may_call s.phase (call_for p true [])
same_phase s p confirm octets = grind arith

goes_from : (s : State) (p : SentPoint) (confirm : Bool) (octets : List ℕ) (x : Step) → has_next s p ≡ true →
    allowed s (call_for p confirm octets) ≡ Ok x → may_advance s p ≡ true
goes_from s p confirm octets x n h = search (arith, passed, and_from, same_phase)

-- what is accepted is the step of the table
accepts_point : (l : Listener) (c : Call) → (react l (called c)).error ≡ None → (x : Step) × (allowed l.state c ≡ Ok x)
accepts_point l c h = by (allowed l.state c) refl
  where
    by : (a : Answer) → allowed l.state c ≡ a → (x : Step) × (a ≡ Ok x)
    by (Ok x) e = (x, refl)
    by (Err f) e = absurd (let k = call_errs l c f e in cc)

pub point_steps : (l : Listener) (p : SentPoint) (confirm : Bool) (octets : List ℕ) →
    (react l (called (call_for p confirm octets))).error ≡ None
    → after_input l (called (call_for p confirm octets)) ≡ advanced l p
point_steps l p confirm octets h = grind (arith, accepts_point, call_next, passed)

pub point_may : (l : Listener) (p : SentPoint) (confirm : Bool) (octets : List ℕ) → has_next l.state p ≡ true
    → (react l (called (call_for p confirm octets))).error ≡ None → may_advance l.state p ≡ true
point_may l p confirm octets n h = search (arith, accepts_point, goes_from)

pub point_accepted : (l : Listener) (p : SentPoint) (confirm : Bool) (octets : List ℕ) → may_advance l.state p ≡ true
    → nat_le (length octets) most_user_data ≡ true →
    fits_limit l.state (call_for p confirm octets) (sends l.state (call_for p confirm octets)) ≡ true
    → (react l (called (call_for p confirm octets))).error ≡ None
point_accepted l p confirm octets m size limit =
    let c : Call = call_for p confirm octets in
    let x : Step = record { next = after l.state c; sent = sends l.state c } in
    let phase : may_call l.state.phase c ≡ true = same_phase l.state p confirm octets ∙ (and_parts _ _ m).0 in
    grind (arith, call_passes l c x, accepted l.state c x)

-- ---- a session goes on after a point that is sent: its numbers change, and nothing else

pub advance_sound : (s : State) (p : SentPoint) (v : Numbers) →
    Some v ≡ (if may_advance s p then Some (after s (call_for p true [])).numbers else None)
    → IsSound s → IsSound (record s { numbers = v })
advance_sound s p v h sound = grind (arith, and_parts, after_sound)

pub advance_leaves : {y l : Listener} (p : SentPoint) (v : Numbers) → y ≡ l → kept_in y.state.phase y.joined ≡ y.joined
    → Some v ≡ (if may_advance y.state p then Some (after y.state (call_for p true [])).numbers else None)
    → (may_advance l.state p ≡ true) × (record y { state = record y.state { numbers = v } } ≡ advanced l p)
advance_leaves p v view kept h = grind arith

pub point_planned : {v l : Listener} {x : Step} (p : PlannedPoint) (confirm : Bool) (octets : List ℕ) → v ≡ l →
    has_next v.state p.point ≡ true
    → allowed v.state (call_for p.point confirm octets) ≡ Ok x → IsSound v.state → p.sent ≡ tsdus_of (limit_of v.state) x.sent →
    PlansPoint l (call_for p.point confirm octets) p
point_planned {v = v} {x = x} p confirm octets view n h sound sent =
    let c : Call = call_for p.point confirm octets in
    let here : PlansPoint v c p = record {
      state = point_steps v p.point confirm octets (call_passes v c x h);
      may = goes_from v.state p.point confirm octets x n h;
      sent = sent ∙ call_sends v c x h;
      accepted = call_passes v c x h;
      sendable = call_sendable v c x sound (grind arith) h;
    } in
    rw (← view) here

pub point_passes : {v l : Listener} {x : Step} (c : Call) → v ≡ l → allowed v.state c ≡ Ok x → (react l (called c)).error ≡ None
point_passes {v = v} {x = x} c view h =
    subst (λ (l : Listener). (react l (called c)).error ≡ None) view (call_passes v c x h)
