-- Whatever happens to a session, what it sends is explained: by induction over its run.
-- For the law that an honest session is explained.
use Rattle.osi_side.proofs.Vocabulary.{◌≡◌, ◌∙◌, refl, sym, ap, subst, ℕ, ◌+◌, ◌≤◌, Bool, true, false, if◌then◌else◌, List, [], ◌∷◌, ◌++◌}
use Rattle.osi_side.proofs.Vocabulary.{length, map, get_or, Option, Some, None, Result, Ok, Err, option_map, arith, SpduFault, Meaning, GT}
use Rattle.osi_side.proofs.Vocabulary.{tsdus_sent, said_at, words_of, no_token, Words, says, written, CallError, Phase, Answer, allowed}
use Rattle.osi_side.proofs.Vocabulary.{Call, HasSerial, Hearing, respond_came, Input, Listener, called, came, opened, react, after_input}
use Rattle.osi_side.proofs.Vocabulary.{taker_of, is_ended, is_over, is_wait_transport, limit_of, IsSound, Seen, Count, Takes, after_count}
use Rattle.osi_side.proofs.Vocabulary.{counted, listens, accepted_callable, callable_open, call_is, came_is, not_opened, input_ends}
use Rattle.osi_side.proofs.Vocabulary.{implied, input_begun, input_over, input_sound, lost_ended, octets_sound, Explains, Remark, Told}
use Rattle.osi_side.proofs.Vocabulary.{read_as, remark, remarks, IsBehind, Pass, Runs}
use Rattle.osi_session.specs.Joining.{acting_words}
use Rattle.osi_session.specs.Listening.{Move, moved}
use Rattle.osi_side.specs.Explaining as explained
use Rattle.osi_side.specs.Running.{sends}
use Rattle.osi_side.specs.Running as running
use Rattle.osi_side.proofs.honest.a_call_is_explained.{AsSent, call_said}
use Rattle.osi_side.proofs.told.a_tsdu_has_one_count.{as_it_does}
use Rattle.osi_side.proofs.honest.an_answer_says_itself.{IsAnswer, SaysItself, came_itself}
use Rattle.osi_side.proofs.honest.what_is_said_is_explained.{tsdus_explained}

-- a session as an observer sees it between two TSDUs
abbrev pub seen_of : Bool → Listener → Seen
seen_of closed l = record { state = l.state; joined = option_map length l.joined; sent = None; closed = closed }

-- ---- how many TSDUs of the other side had arrived

abbrev AllFrom : ℕ → List Told → Type 0
AllFrom taken [] = Unit {0}
AllFrom taken (t ∷ told) = (taken ≤ t.before) × AllFrom taken told

passed_from : (taken : ℕ) (tsdus : List (List ℕ)) (now later : List Told) → Pass taken tsdus now → AllFrom taken later →
    AllFrom taken (now ++ later)
passed_from taken [] [] later p a = a
passed_from taken (o ∷ os) (t ∷ now) later p a = (p.1, passed_from taken os now later p.2 a)
passed_from taken [] (t ∷ now) later p a = absurd p
passed_from taken (o ∷ os) [] later p a = absurd p

fewer_from : (taken more : ℕ) (told : List Told) → taken ≤ more → AllFrom more told → AllFrom taken told
fewer_from taken more [] l a = tt
fewer_from taken more (t ∷ told) l a = (let k : more ≤ t.before = a.0 in omega arith, fewer_from taken more told l a.1)

sent_from : (us : List (List ℕ)) (closed : Bool) (l : Listener) (taken : ℕ) (told : List Told) → Runs us closed l taken told →
    AllFrom taken told
sent_from us closed l taken told (running.rests _ _ _) = tt
sent_from us closed l taken told (running.takes _ _ now later w p e) =
    grind (arith, passed_from, fewer_from, sent_from us _ _ (taken + 1) later e)
sent_from us closed l taken told (running.calls _ _ _ c now later s p e) = passed_from taken _ now later p (sent_from us _ _ taken later e)
sent_from us closed l taken told (running.connects _ _ now later p e) = passed_from taken _ now later p (sent_from us _ _ taken later e)
sent_from us closed l taken told (running.misses _ _ reason _ w e) = sent_from us _ _ taken told e
sent_from us closed l taken told (running.loses _ _ _ e) = sent_from us _ _ taken told e

words_behind : (taken : ℕ) (t : Told) (ws : Words) (later : List Remark) → taken ≤ t.before → IsBehind taken later →
    IsBehind taken (map (remark t) ws ++ later)
words_behind taken t [] later l b = b
words_behind taken t (w ∷ ws) later l b = l

read_behind : (taken : ℕ) (t : Told) (read : Result Words SpduFault) (later : List Remark) → taken ≤ t.before → IsBehind taken later →
    IsBehind taken (read_as t read ++ later)
read_behind taken t read later l b = grind (arith, words_behind)

all_behind : (taken : ℕ) (told : List Told) → AllFrom taken told → IsBehind taken (remarks told)
all_behind taken [] a = tt
all_behind taken (t ∷ told) a = read_behind taken t (said_at t.octets) (remarks told) a.0 (all_behind taken told a.1)

-- ---- a session that is over, and whose transport connection is gone, sends nothing

pub nothing_passes : (taken : ℕ) (tsdus : List (List ℕ)) (now : List Told) → tsdus ≡ [] → Pass taken tsdus now → now ≡ []
nothing_passes taken tsdus now e p = grind arith

pub err_sends : (l : Listener) (c : Call) (e : CallError) → allowed l.state c ≡ Err e → sends l (called c) ≡ []
err_sends l c e h = ap (λ (m : Move). tsdus_sent (limit_of l.state) m.reply) (call_is l c (Err e) h)

over_sends : (l : Listener) (c : Call) (a : Answer) → allowed l.state c ≡ a → is_over l.state.phase ≡ true → sends l (called c) ≡ []
over_sends l c (Err e) h o = err_sends l c e h
over_sends l c (Ok x) h o = let live = (callable_open l.state.phase (accepted_callable l.state c x h)).2 in absurd (cc)

pub sends_no_more : (us : List (List ℕ)) (closed : Bool) (l : Listener) (taken : ℕ) (told : List Told) → Runs us closed l taken told →
    closed ≡ true → is_over l.state.phase ≡ true → told ≡ []
sends_no_more us closed l taken told (running.rests _ _ _) g o = refl
sends_no_more us closed l taken told (running.takes _ _ now later w p e) g o = absurd (cc)
sends_no_more us closed l taken told (running.calls _ _ _ c now later s p e) g o =
    grind (arith, over_sends, sends_no_more us _ _ taken later e g (input_over l (called c) o))
sends_no_more us closed l taken told (running.connects _ _ now later p e) g o = absurd (cc)
sends_no_more us closed l taken told (running.misses _ _ reason _ w e) g o = absurd (cc)
sends_no_more us closed l taken told (running.loses _ _ _ e) g o = absurd (cc)

pub none_explained : (us : List (List ℕ)) (told : List Told) (taken : ℕ) (s : Seen) → told ≡ [] → Explains us (remarks told) taken s
none_explained us told taken s e = subst (λ (x : List Told). Explains us (remarks x) taken s) (sym e) (explained.done taken s)

-- ---- a TSDU is taken

abbrev pub hearing : Listener → List ℕ → Hearing
hearing l tsdu = respond_came (taker_of l) (said_at tsdu)

pub came_moves : (l : Listener) (tsdu : List ℕ) → react l (came tsdu) ≡ moved l (hearing l tsdu)
came_moves l tsdu = came_is l (said_at tsdu) (hearing l tsdu) refl

none_kept : (b : Bool) → (if b then None else None) ≡ (let x : Option ℕ = None in x)
none_kept b = grind arith

-- nothing is sent
takes_on : (us : List (List ℕ)) (ms : List Remark) (taken : ℕ) (s : Seen) (c : Count) → listens s ≡ true → Takes s (get_or us taken []) c →
    c.reply ≡ None → IsBehind (taken + 1) ms
    → Explains us ms (taken + 1) (after_count s c) → Explains us ms taken s
takes_on us [] taken s c l t r b e = explained.done taken s
takes_on us (m ∷ ms) taken s c l t r b e = explained.takes m ms taken s c (let k : taken + 1 ≤ m.before = b in omega arith) l t r e

-- the answer is sent
answers_on : AsSent → (us : List (List ℕ)) (told : List Told) (t : Told) (taken : ℕ) (s : Seen) (c : Count) (m : Meaning) →
    listens s ≡ true → Takes s (get_or us taken []) c → c.reply ≡ Some m
    → t.octets ≡ written m → taken + 1 ≤ t.before → IsAnswer m → Explains us (remarks told) (taken + 1) (after_count s c) →
    Explains us (remarks (t ∷ told)) taken s
unfolding acting_words
answers_on known us told t taken s c m l k r o b a e =
    let lone : words_of m ≡ says m ∷ [] = ap (λ (x : Bool). map says (if x then GT no_token ∷ m ∷ [] else m ∷ [])) a.alone in
    let read : said_at t.octets ≡ Ok (says m ∷ []) = ap said_at o ∙ known.message m a.sendable ∙ ap (λ (ws : Words). Ok ws) lone in
    subst (λ (x : Result Words SpduFault). Explains us (read_as t x ++ remarks told) taken s) (sym read)
    (explained.answers (remark t (says m)) (remarks told) taken s c m (says m) (omega arith) l k r refl a.itself e)

one_passes : (taken : ℕ) (o : List ℕ) (now : List Told) → Pass taken (o ∷ []) now →
    (t : Told) × (now ≡ t ∷ []) × (t.octets ≡ o) × (taken ≤ t.before)
one_passes taken o now p = grind arith

taken_by : AsSent → (us : List (List ℕ)) (l : Listener) (taken : ℕ) (now later : List Told) (r : Option Meaning) →
    listens (seen_of false l) ≡ true → (hearing l (get_or us taken [])).reply ≡ r
    → SaysItself r → Pass (taken + 1) (tsdus_sent (limit_of l.state) r) now → IsBehind (taken + 1) (remarks later)
    → Explains us (remarks later) (taken + 1) (after_count (seen_of false l) (counted (hearing l (get_or us taken []))))
    → Explains us (remarks (now ++ later)) taken (seen_of false l)
taken_by known us l taken now later None n e a p b h = search (arith, takes_on, as_it_does, nothing_passes (taken + 1) [] now refl p)
taken_by known us l taken now later (Some m) n e a p b h =
    let tsdu = get_or us taken [] in
    let one = one_passes (taken + 1) (written m) now
    (grind arith) in
    subst (λ (x : List Told). Explains us (remarks (x ++ later)) taken (seen_of false l)) (sym one.1)
    (answers_on known us later one.0 taken (seen_of false l) (counted (hearing l tsdu)) m n (as_it_does l.state l.joined (said_at tsdu)) e
    one.2 one.3 a h)

-- ---- a call

called_by : AsSent → (us : List (List ℕ)) (closed : Bool) (l : Listener) (taken : ℕ) (c : Call) (now later : List Told) (a : Answer) →
    HasSerial c → Pass taken (sends l (called c)) now
    → IsSound l.state → (closed ≡ true → is_over l.state.phase ≡ true) → allowed l.state c ≡ a →
    Explains us (remarks later) taken (seen_of closed (after_input l (called c)))
    → Explains us (remarks (now ++ later)) taken (seen_of closed l)
called_by known us closed l taken c now later (Err x) small p sound over e h = grind (arith, nothing_passes, err_sends, call_is)
called_by known us true l taken c now later (Ok x) small p sound over e h = search (arith, callable_open, accepted_callable)
called_by known us false l taken c now later (Ok x) small p sound over e h =
    grind (arith, tsdus_explained, call_is l c (Ok x) e, call_said known l.state (option_map length l.joined) c x sound small e)

-- ---- any run

pub ended_over : (p : Phase) → is_ended p ≡ true → is_over p ≡ true
ended_over p h = implied is_ended is_over refl p h

pub tsdu_sound : (l : Listener) (tsdu : List ℕ) → IsSound l.state → IsSound (after_input l (came tsdu)).state
tsdu_sound l tsdu h = grind (arith, came_moves l tsdu, octets_sound (taker_of l) tsdu (hearing l tsdu) refl h)

pub record IsLive (closed : Bool) (l : Listener) : Type 0 where
  pub sound : IsSound l.state
  pub open_now : is_wait_transport l.state.phase ≡ false
  pub over : closed ≡ true → is_over l.state.phase ≡ true

pub still_open : (l : Listener) (input : Input) → is_wait_transport l.state.phase ≡ false →
    is_wait_transport (after_input l input).state.phase ≡ false
still_open l input w = grind (arith, input_begun)

pub run_explained : AsSent → (us : List (List ℕ)) (closed : Bool) (l : Listener) (taken : ℕ) (told : List Told) →
    Runs us closed l taken told → IsLive closed l
    → Explains us (remarks told) taken (seen_of closed l)
run_explained known us closed l taken told (running.rests _ _ _) k = explained.done taken (seen_of closed l)
run_explained known us closed l taken told (running.takes _ _ now later w p e) k =
    let tsdu = get_or us taken [] in
    let move = came_moves l tsdu in
    let listening : listens (seen_of false l) ≡ true = rw w refl in
    let next = run_explained known us _ _ (taken + 1) later e (grind (arith, tsdu_sound, still_open, ended_over, input_ends)) in
    grind (arith, taken_by, came_itself, all_behind, sent_from, none_kept, came_moves)
run_explained known us closed l taken told (running.calls _ _ _ c now later small p e) k =
    called_by known us _ l taken c now later (allowed l.state c) small p k.sound k.over refl
    (run_explained known us _ _ taken later e
    (search (arith, input_sound, still_open, input_over)))
run_explained known us closed l taken told (running.connects _ _ now later p e) k =
    grind (
      arith,
      not_opened,
      run_explained known us _ _ taken later e
          (record { sound = input_sound l opened tt k.sound; open_now = still_open l opened k.open_now; over = λ g. absurd (cc) }),
    )
run_explained known us closed l taken told (running.misses _ _ reason _ w e) k = let open_now = k.open_now in absurd (cc)
run_explained known us closed l taken told (running.loses _ _ _ e) k = grind (arith, none_explained, sends_no_more, ended_over, lost_ended)
