-- No TSDU of an honest session selects what the profile leaves out: by induction over its run.
-- For the law that an honest side is not blamed.
use Rattle.std.proofs.Common.{arith}
use Rattle.osi_side.proofs.Vocabulary.{◌≡◌, ◌∙◌, refl, sym, ap, subst, ℕ, ◌+◌, Bool, true, false, nat_le, List, [], ◌∷◌, ◌++◌, length, map}
use Rattle.osi_side.proofs.Vocabulary.{get_or, Option, Some, None, Result, Ok, Err, and_parts, SpduFault, Meaning, DT, behind_no_token}
use Rattle.osi_side.proofs.Vocabulary.{is_parted, tsdus_of, tsdus_sent, words_sent, said_at, IsSendable, Word, Words, written, Opening}
use Rattle.osi_side.proofs.Vocabulary.{State, Answer, Step, allowed, most_user_data, needs, may_call, AllHold, Call, Data, HasSerial}
use Rattle.osi_side.proofs.Vocabulary.{Listener, after_input, called, came, opened, taker_of, asked_for, is_answering, is_over}
use Rattle.osi_side.proofs.Vocabulary.{is_wait_transport, opens, is_data, limit_of, IsSound, input_ends, call_sends, not_opened, passed}
use Rattle.osi_side.proofs.Vocabulary.{awaiting_fresh, fresh_sound, input_over, input_sound, lost_ended, sent_sendable, Direction, Told}
use Rattle.osi_side.proofs.Vocabulary.{accepted_in, in_first, is_outside, IsHonest, Pass, Runs, asked_sendable, call_is, leb-true}
use Rattle.osi_side.proofs.Vocabulary.{of_refused}
use Rattle.osi_message.specs.Written.{is_second}
use Rattle.osi_session.specs.Allowed.{sends as call_sends_this}
use Rattle.osi_session.specs.Listening.{Move}
use Rattle.osi_session.specs.Sessions.{asking}
use Rattle.osi_session.specs.Standing.{answers}
use Rattle.osi_side.specs.Running.{sends}
use Rattle.osi_side.specs.Running as running
use Rattle.osi_side.proofs.honest.a_call_is_explained.{AsSent, data_sent, one_sent}
use Rattle.osi_side.proofs.honest.a_caller_is_explained.{as_opened, connecting, opening_sound, over_by, refuses_all}
use Rattle.osi_side.proofs.honest.a_run_is_explained.{came_moves, ended_over, err_sends, hearing, sends_no_more, still_open, tsdu_sound}
use Rattle.osi_side.proofs.honest.an_answer_says_itself.{SaysItself, came_itself}
use Rattle.osi_side.proofs.honest.a_cn_is_answered_within_its_units.{AsAsked, IsUnits, calls_as_asked, first_asked, selected_inside}
use Rattle.osi_side.proofs.honest.a_cn_is_answered_within_its_units.{takes_as_asked}

-- ---- one TSDU

abbrev IsInside : Option ℕ → List ℕ → Type 0
IsInside first tsdu = is_outside first (in_first accepted_in (said_at tsdu)) ≡ false

none_outside : (first : Option ℕ) → is_outside first None ≡ false
none_outside first = grind arith

message_inside : AsSent → (first : Option ℕ) (m : Meaning) → IsSendable m → accepted_in m ≡ None → IsInside first (written m)
message_inside known first m s n = grind (arith, none_outside)

-- ---- those of a message

abbrev AreInside : Option ℕ → List (List ℕ) → Type 0
AreInside first [] = Unit {0}
AreInside first (o ∷ os) = IsInside first o × AreInside first os

abbrev pub AllInside : Option ℕ → List Told → Type 0
AllInside first [] = Unit {0}
AllInside first (t ∷ told) = IsInside first t.octets × AllInside first told

passed_inside : (first : Option ℕ) (taken : ℕ) (os : List (List ℕ)) (now later : List Told) → Pass taken os now → AreInside first os →
    AllInside first later → AllInside first (now ++ later)
passed_inside first taken [] [] later p a l = l
passed_inside first taken (o ∷ os) (t ∷ now) later p a l = grind (arith, passed_inside first taken os now later p.2 a.1 l)
passed_inside first taken [] (t ∷ now) later p a l = absurd p
passed_inside first taken (o ∷ os) [] later p a l = absurd p

abbrev pub AsParts : Type 0
AsParts = (limit : ℕ) (octets : List ℕ) →
    map said_at (tsdus_of limit (DT octets)) ≡ map (λ word. Ok (behind_no_token word)) (words_sent limit (DT octets))

abbrev behind_nothing : Word → Result Words SpduFault
behind_nothing word = Ok (behind_no_token word)

tail_of : (x y : Result Words SpduFault) (xs ys : List (Result Words SpduFault)) → x ∷ xs ≡ y ∷ ys → xs ≡ ys
tail_of x y xs ys e = cc

parts_inside : (first : Option ℕ) (os : List (List ℕ)) (ws : Words) → map said_at os ≡ map behind_nothing ws → AreInside first os
parts_inside first [] ws e = tt
parts_inside first (o ∷ os) [] e = absurd (cc)
parts_inside first (o ∷ os) (w ∷ ws) e = (
  grind (arith, none_outside),
  parts_inside first os ws (tail_of (said_at o) (behind_nothing w) (map said_at os) (map behind_nothing ws) e),
)

-- ---- those of a call

accept_inside : AsSent → (first : Option ℕ) (requirements : ℕ) (m : Meaning) → IsSendable m → is_second m ≡ false →
    accepted_in m ≡ Some requirements → is_outside first (Some requirements) ≡ false → IsInside first (written m)
accept_inside known first requirements m s second a o = grind arith

call_inside : AsSent → (first : Option ℕ) (s : State) (c : Call) → IsSendable (call_sends_this s c) →
    (is_answering s.phase ≡ true → IsUnits first s.units) → may_call s.phase c ≡ true → AllHold (needs s c)
    → IsInside first (written (call_sends_this s c))
unfolding is_second
call_inside known first s c m i p h = grind (arith, accept_inside, and_parts, selected_inside, message_inside)

other_inside : AsSent → (first : Option ℕ) (s : State) (c : Call) (x : Step) → IsSound s → HasSerial c → allowed s c ≡ Ok x →
    is_data c ≡ false → (is_answering s.phase ≡ true → IsUnits first s.units)
    → AreInside first (tsdus_of (limit_of s) x.sent)
other_inside known first s c x sound small h d i =
    grind (arith, call_inside, passed s c x h, sent_sendable s c x sound small h, one_sent known s c x h d)

calls_inside : AsSent → AsParts → (first : Option ℕ) (s : State) (c : Call) (x : Step) → IsSound s → HasSerial c → allowed s c ≡ Ok x →
    (is_answering s.phase ≡ true → IsUnits first s.units)
    → AreInside first (tsdus_of (limit_of s) x.sent)
calls_inside known parts first s (Data octets) x sound small h i = search (arith, data_sent, parts_inside)
calls_inside known parts first s c x sound small h i = other_inside known first s c x sound small h refl i

-- whether it is accepted or not
called_inside : AsSent → AsParts → (first : Option ℕ) (l : Listener) (taken : ℕ) (c : Call) (now later : List Told) (a : Answer) →
    allowed l.state c ≡ a → IsSound l.state → HasSerial c
    → (is_answering l.state.phase ≡ true → IsUnits first l.state.units) → Pass taken (sends l (called c)) now → AllInside first later →
    AllInside first (now ++ later)
called_inside known parts first l taken c now later (Err e) h sound small i p more = grind (arith, passed_inside, err_sends l c e h)
called_inside known parts first l taken c now later (Ok x) h sound small i p more =
    grind (arith, passed_inside, call_sends l c x h, calls_inside known parts first l.state c x sound small h i)

-- ---- an answer

answer_whole : (m : Meaning) (limit : ℕ) → answers m m ≡ true → is_parted limit m ≡ false
answer_whole m limit e = grind arith

reply_inside : AsSent → (first : Option ℕ) (limit : ℕ) (r : Option Meaning) → SaysItself r → AreInside first (tsdus_sent limit r)
reply_inside known first limit r a = grind (arith, answer_whole, message_inside)

-- ---- any run, once the transport connection is open

pub run_inside : AsSent → AsParts → (us : List (List ℕ)) (closed : Bool) (l : Listener) (taken : ℕ) (told : List Told) →
    Runs us closed l taken told → IsSound l.state → is_wait_transport l.state.phase ≡ false
    → (closed ≡ true → is_over l.state.phase ≡ true) → AsAsked us taken l.state → AllInside (first_asked us) told
run_inside known parts us closed l taken told (running.rests _ _ _) s w o a = tt
run_inside known parts us closed l taken told (running.takes _ _ now later v p e) s w o a =
    let tsdu = get_or us taken [] in
    passed_inside (first_asked us) (taken + 1) (tsdus_sent (limit_of l.state) (hearing l tsdu).reply) now later
    (subst (λ (m : Move). Pass (taken + 1) (tsdus_sent (limit_of l.state) m.reply) now) (came_moves l tsdu) p)
    (reply_inside known (first_asked us) (limit_of l.state) (hearing l tsdu).reply (came_itself (taker_of l) (said_at tsdu)))
    (run_inside known parts us _ _ (taken + 1) later e (tsdu_sound l tsdu s) (still_open l (came tsdu) v)
    (λ g. ended_over (after_input l (came tsdu)).state.phase (input_ends l (came tsdu) g)) (takes_as_asked us l taken a))
run_inside known parts us closed l taken told (running.calls _ _ _ c now later small p e) s w o a =
    called_inside known parts (first_asked us) l taken c now later (allowed l.state c) refl s small a.answers p
    (run_inside known parts us _ _ taken later e (input_sound l (called c) small s) (still_open l (called c) w)
    (λ g. input_over l (called c) (o g)) (calls_as_asked us l taken c a))
run_inside known parts us closed l taken told (running.connects _ _ now later p e) s w o a =
    let rest = not_opened l w in
    let stays : after_input l opened ≡ l = ap (λ (m : Move). m.next) rest in
    passed_inside (first_asked us) taken [] now later (subst (λ (m : Move). Pass taken (tsdus_sent (limit_of l.state) m.reply) now) rest p)
    tt
    (run_inside known parts us _ _ taken later e (input_sound l opened tt s) (still_open l opened w) (λ g. absurd (cc))
    (subst (λ (y : Listener). AsAsked us taken y.state) (sym stays) a))
run_inside known parts us closed l taken told (running.misses _ _ reason _ v e) s w o a = absurd (cc)
run_inside known parts us closed l taken told (running.loses _ _ _ e) s w o a =
    grind (arith, first_asked, sends_no_more, ended_over, lost_ended)

-- ---- a caller

caller_inside : AsSent → AsParts → (us : List (List ℕ)) (o : Opening) (closed : Bool) (l : Listener) (taken : ℕ) (told : List Told) →
    Runs us closed l taken told → nat_le (length o.user_data.now) most_user_data ≡ true
    → closed ≡ false → l ≡ opens o → AllInside (first_asked us) told
caller_inside known parts us o closed l taken told (running.rests _ _ _) z f e = tt
caller_inside known parts us o closed l taken told (running.takes _ _ now later w p r) z f e = grind arith
caller_inside known parts us o closed l taken told (running.calls _ _ _ c now later small p r) z f e =
    let none = refuses_all o c (allowed (asking o) c) refl in
    let err : allowed l.state c ≡ Err none.0 = ap (λ (x : Listener). allowed x.state c) e ∙ none.1 in
    passed_inside (first_asked us) taken [] now later (subst (λ (os : List (List ℕ)). Pass taken os now) (err_sends l c none.0 err) p) tt
    (caller_inside known parts us o _ _ taken later r z f ((grind (arith, call_is)) ∙ e))
caller_inside known parts us o closed l taken told (running.connects _ _ now later p r) z f e =
    let move = as_opened l o e in
    let next : after_input l opened ≡ connecting o = ap (λ (m : Move). m.next) move in
    let open_now : is_wait_transport (after_input l opened).state.phase ≡ false =
    ap (λ (x : Listener). is_wait_transport x.state.phase) next in
    passed_inside (first_asked us) taken (tsdus_of (limit_of l.state) (asked_for o)) now later
    (subst (λ (m : Move). Pass taken (tsdus_sent (limit_of l.state) m.reply) now) move p)
    (subst (AreInside (first_asked us)) (sym (known.whole (limit_of l.state) (asked_for o) refl))
    (message_inside known (first_asked us) (asked_for o) (grind (arith, leb-true, asked_sendable)) refl, tt))
    (run_inside known parts us _ _ taken later r
    (input_sound l opened tt (subst (λ (x : Listener). IsSound x.state) (sym e) (opening_sound o))) open_now (λ g. absurd (cc))
    (subst (λ (x : Listener). AsAsked us taken x.state) (sym next) (record { waits = λ k. absurd (cc); answers = λ k. absurd (cc) })))
caller_inside known parts us o closed l taken told (running.misses _ _ reason _ w r) z f e =
    subst (AllInside (first_asked us)) (sym (sends_no_more us _ _ taken told r refl (grind (arith, of_refused)))) tt
caller_inside known parts us o closed l taken told (running.loses _ _ _ r) z f e =
    grind (arith, first_asked, sends_no_more, over_by, lost_ended)

-- ---- an honest side

pub front_inside : (first : Option ℕ) (told later : List Told) → AllInside first (told ++ later) → AllInside first told
front_inside first [] later a = tt
front_inside first (t ∷ told) later a = (a.0, front_inside first told later a.1)

pub honest_inside : AsSent → AsParts → (d : Direction) (us : List (List ℕ)) (told : List Told) → IsHonest d us told →
    AllInside (first_asked us) told
honest_inside known h h2 us told h3 = grind (arith, front_inside, first_asked, caller_inside, run_inside, fresh_sound, awaiting_fresh)
