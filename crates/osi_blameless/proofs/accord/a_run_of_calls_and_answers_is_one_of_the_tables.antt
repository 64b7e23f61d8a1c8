-- A run of two sessions that send what calls and answers send is one of the machine of whole connections, in class 0.
-- For the law of that name.
use Rattle.osi_blameless.proofs.accord.Vocabulary.{[], ap, append-nil, false, inl, inr, length, List, map, None, Option, refl, Some, subst}
use Rattle.osi_blameless.proofs.accord.Vocabulary.{sym, true}
use Rattle.osi_blameless.proofs.accord.Vocabulary.{ℕ, ◌++◌, ◌∙◌, ◌∷◌, ◌≡◌, flat_map-append, append_assoc, AllByRecursion, GT, Meaning}
use Rattle.osi_blameless.proofs.accord.Vocabulary.{IsSendable}
use Rattle.osi_blameless.proofs.accord.Vocabulary.{no_token, says, Word, written, has_no_effect, awaiting, answers_word, CanSay, Count}
use Rattle.osi_blameless.proofs.accord.Vocabulary.{listens, Seen}
use Rattle.osi_blameless.proofs.accord.Vocabulary.{seen_called, seen_calling, Takes, CanBeOffered, Offer, offer_sent, offering, connects}
use Rattle.osi_blameless.proofs.accord.Vocabulary.{Entry}
use Rattle.osi_blameless.proofs.accord.Vocabulary.{HasNumber, said_in, units_in, refusal, run, step, Tables, linked, replied, unit, other}
use Rattle.osi_blameless.proofs.accord.Vocabulary.{Direction}
use Rattle.osi_blameless.proofs.accord.Vocabulary.{Left, Right, Accords, end_of, Sending, sending, AreWritten, connect_of, is_connect}
use Rattle.osi_blameless.proofs.accord.Vocabulary.{IsByCall}
use Rattle.osi_blameless.proofs.accord.Vocabulary.{IsMessage, side_at, TakesNoLiberty, Utterance, utters, channel_of, has_taken, Pair}
use Rattle.osi_blameless.proofs.accord.Vocabulary.{pair_of}
use Rattle.osi_blameless.proofs.accord.Vocabulary.{session_of, with_channel, with_session, CallsAndAnswers, IsAnyCall, IsByAnyCall, its_own}
use Rattle.osi_blameless.proofs.accord.Vocabulary.{PlaysWhole, start_0, uttered_at, uttered_by, uttered_in, arith, Step}
use Rattle.osi_session.specs.Moves.{react}
use Rattle.osi_machine.specs.Sayings.{said_at}
use Rattle.osi_blameless.specs.accord.Accords as accord
use Rattle.osi_blameless.proofs.accord.messages_of_a_run.{AsMessages, IsRest, message_first, same_said, says_nothing, IsDue, same_pair}
use Rattle.osi_blameless.proofs.accord.messages_of_a_run.{first_word}
use Rattle.osi_blameless.proofs.accord.messages_of_a_run.{effect_of}
use Rattle.osi_blameless.proofs.accord.how_a_run_begins.{asking, connected}
use Rattle.osi_blameless.proofs.accord.a_step_of_one_connection.{facing, seat, tables, taking_at}
use Rattle.osi_blameless.proofs.accord.a_side_that_calls_takes_and_answers.{MovesTo, Stands, answering_at, calls_on, quiet_at, turned_about}

-- ---- the TSDU is in flight

sends_on : (t : Tables) (p : Pair) (d : Direction) (m : Meaning) → Stands t p d (m ∷ []) [] →
    Stands t (with_channel d (channel_of d p ++ written m ∷ []) p) d [] []
sends_on t p Left m s = grind (arith, append-nil)
sends_on t p Right m s = grind (arith, append-nil)

-- ---- a run

step_on : (t : Tables) (move : Step) (more messages : List Utterance) (q : Pair) → HasNumber move → uttered_at t move ≡ more →
    PlaysWhole (step t move) messages q → PlaysWhole t (more ++ messages) q
step_on t move more messages q numbered uttered s = record {
  steps = move ∷ s.steps;
  numbered = (numbered, s.numbered);
  sent = ap (λ (x : List Utterance). x ++ uttered_in (step t move) s.steps) uttered ∙ ap (λ (x : List Utterance). more ++ x) s.sent;
  line = s.line;
  is = s.is;
  left = s.left;
  right = s.right;
  left_in_flight = s.left_in_flight;
  right_in_flight = s.right_in_flight;
  left_end = s.left_end;
  right_end = s.right_end;
}

units_back : (ms : List Meaning) → units_in (map unit ms) ≡ ms
units_back [] = refl
units_back (m ∷ ms) = ap (λ (x : List Meaning). m ∷ x) (units_back ms)

-- nothing is left to send
left_done : (t : Tables) (p : Pair) → Stands t p Left [] [] → PlaysWhole t [] p
left_done t p s = record {
  steps = [];
  numbered = tt;
  sent = refl;
  line = facing Left s.own s.peer;
  is = ap (λ (x : Tables). x.lines) s.is;
  left = s.here.state;
  right = s.there.state;
  left_in_flight = grind (arith, units_back, append-nil);
  right_in_flight = grind (arith, units_back, append-nil);
  left_end = ap (λ (x : Tables). x.left_end) s.is ∙ s.here.ends;
  right_end = ap (λ (x : Tables). x.right_end) s.is ∙ s.there.ends;
}

nothing_due : (t : Tables) (p : Pair) (messages : List Utterance) (d : Direction) (ahead : List Meaning) → IsDue [] messages d ahead →
    Stands t p d ahead [] → PlaysWhole t messages p
nothing_due t p messages d ahead h s = search (arith, left_done, turned_about)

-- nothing is ahead of either side
calm : (t : Tables) (p : Pair) (d e : Direction) → Stands t p d [] [] → Stands t p e [] []
calm t p Left Left s = s
calm t p Right Right s = s
calm t p Left Right s = turned_about t p Left [] [] s
calm t p Right Left s = turned_about t p Right [] [] s

-- a side takes a TSDU and is silent, whichever side is about to send
takes_step : AsMessages → (t : Tables) (p : Pair) (d e : Direction) (c : Count) (tsdu : List ℕ) (rest : List (List ℕ))
    (ahead : List Meaning) (messages : List Utterance) (q : Pair) → channel_of (other d) p ≡ tsdu ∷ rest →
    listens (session_of d p) ≡ true → Takes (session_of d p) tsdu c → c.reply ≡ None → Stands t p e ahead [] →
    ((u : Tables) → Stands u (has_taken d c rest p) e ahead [] → PlaysWhole u messages q) → PlaysWhole t messages q
takes_step k t p Left Left c tsdu rest ahead messages q there hears taken quiet s on =
    let m = quiet_at k t p Left c tsdu rest ahead [] there hears taken quiet s in
    step_on t m.move [] messages q m.numbered m.utters (on (step t m.move) m.leaves)
takes_step k t p Right Right c tsdu rest ahead messages q there hears taken quiet s on =
    let m = quiet_at k t p Right c tsdu rest ahead [] there hears taken quiet s in
    step_on t m.move [] messages q m.numbered m.utters (on (step t m.move) m.leaves)
takes_step k t p Left Right c tsdu rest ahead messages q there hears taken quiet s on =
    let m = quiet_at k t p Left c tsdu rest [] ahead there hears taken quiet (turned_about t p Right ahead [] s) in
    step_on t m.move [] messages q m.numbered m.utters
    (on (step t m.move) (turned_about (step t m.move) (has_taken Left c rest p) Left [] ahead m.leaves))
takes_step k t p Right Left c tsdu rest ahead messages q there hears taken quiet s on =
    let m = quiet_at k t p Right c tsdu rest [] ahead there hears taken quiet (turned_about t p Left ahead [] s) in
    step_on t m.move [] messages q m.numbered m.utters
    (on (step t m.move) (turned_about (step t m.move) (has_taken Right c rest p) Right [] ahead m.leaves))

-- the call by which it is sent
call_of : (s next : Seen) (w : Word) (m : Meaning) → IsByAnyCall s w next → w ≡ says m → has_no_effect m ≡ false → is_connect m ≡ false →
    IsAnyCall s m next
call_of s next w m (inl is) e effect later = absurd (effect_of m effect (same_said m (GT no_token) (sym e ∙ is)))
call_of s next w m (inr (n, is, inl first)) e effect later = grind (arith, same_said)
call_of s next w m (inr (n, is, inr call)) e effect later = grind (arith, same_said)

calls_at : (t : Tables) (p : Pair) (d : Direction) (next : Seen) (m : Meaning) → IsAnyCall (session_of d p) m next → IsSendable m →
    Stands t p d [] [] → MovesTo t d (m ∷ []) (with_session d next p) (m ∷ []) []
calls_at t p Left next m c send s = calls_on t Left p.left.session next p.left.channel p.right.session p.right.channel m c send s
calls_at t p Right next m c send s = calls_on t Right p.right.session next p.right.channel p.left.session p.left.channel m c send s

-- a word is sent
says_due : AsMessages → (t : Tables) (p : Pair) (e : Direction) (own : List ℕ) (before : ℕ) (x : Word) (words : List (Option Word))
    (later : List Sending) (next : Seen) (messages : List Utterance) (d : Direction) (ahead : List Meaning) (q : Pair) →
    IsByAnyCall (session_of e p) x next → CanSay (session_of e p) x (length own) next → AllByRecursion IsMessage messages →
    IsDue (sending e own before (Some x ∷ words) ∷ later) messages d ahead → Stands t p d ahead [] →
    ((messages : List Utterance) → AllByRecursion IsMessage messages → (u : Tables) (d : Direction) (ahead : List Meaning) →
    IsDue (sending e own before words ∷ later) messages d ahead → Stands u (with_session e next p) d ahead [] → PlaysWhole u messages q) →
    PlaysWhole t messages q
says_due k t p e own before x words later next [] d ahead q by can all (inl due) s on = absurd due.0
says_due k t p e own before x words later next (utters f m ∷ messages) d ahead q by can all (inl due) s on =
    let h = first_word k m x words all.0.0 due.0.2 in
    let call = call_of (session_of e p) next x m by h.word all.0.1 all.0.2 in
    let still : Stands t p e [] [] = calm t p d e (subst (λ (a : List Meaning). Stands t p d a []) due.1 s) in
    let g = calls_at t p e next m call all.0.0 still in
    subst (λ (z : Direction). PlaysWhole t (utters z m ∷ messages) q) due.0.0
    (step_on t g.move (utters e m ∷ []) messages q g.numbered g.utters
    (on messages all.1 (step t g.move) e (m ∷ [])
    (inr (record { m = m; is = (refl, due.0.1, h.rests, due.0.3); one = refl })) g.leaves))
says_due k t p e own before x words later next messages d ahead q by can all (inr due) s on = by_rest due.is.2
  where
    by_rest : IsRest (Some x ∷ words) → PlaysWhole t messages q
    by_rest (inl none) = absurd (cc)
    by_rest (inr one) =
        let word : x ≡ says (GT no_token) = cc in
        let none : words ≡ [] = cc in
        let still = says_nothing (session_of e p) next (length own)
        (subst (λ (v : Word). CanSay (session_of e p) v (length own) next) word can) in
        on messages all t d ahead (inr (record { m = due.m; is = (due.is.0, due.is.1, inl none, due.is.3); one = due.one }))
        (subst (λ (y : Pair). Stands t y d ahead []) (sym (ap (λ (z : Seen). with_session e z p) still ∙ same_pair e p)) s)

no_answer : (reply : Meaning) → answers_word reply (says (GT no_token)) ≡ true → reply ≡ GT no_token → ⊥
no_answer reply a e = let b : false ≡ true = ap (λ (x : Meaning). answers_word x (says (GT no_token))) (sym e) ∙ a in cc

-- a TSDU is taken and answered
answers_due : AsMessages → (t : Tables) (p : Pair) (e : Direction) (own : List ℕ) (before : ℕ) (x : Word) (words : List (Option Word))
    (later : List Sending) (c : Count) (tsdu : List ℕ) (rest : List (List ℕ)) (reply : Meaning) (messages : List Utterance)
    (d : Direction) (ahead : List Meaning) (q : Pair) → channel_of (other e) p ≡ tsdu ∷ rest → listens (session_of e p) ≡ true →
    Takes (session_of e p) tsdu c → c.reply ≡ Some reply → answers_word reply x ≡ true → x ≡ says reply →
    AllByRecursion IsMessage messages → IsDue (sending e own before (Some x ∷ words) ∷ later) messages d ahead → Stands t p d ahead [] →
    ((messages : List Utterance) → AllByRecursion IsMessage messages → (u : Tables) (d : Direction) (ahead : List Meaning) →
    IsDue (sending e own before words ∷ later) messages d ahead → Stands u (has_taken e c rest p) d ahead [] → PlaysWhole u messages q) →
    PlaysWhole t messages q
answers_due k t p e own before x words later c tsdu rest reply [] d ahead q there hears taken replies answers by all (inl due) s on =
    absurd due.0
answers_due k t p e own before x words later c tsdu rest reply (utters f m ∷ messages) d ahead q there hears taken replies answers by all
    (inl due) s on =
    let h = first_word k m x words all.0.0 due.0.2 in
    let same : reply ≡ m = same_said reply m (sym by ∙ h.word) in
    let still : Stands t p e [] [] = calm t p d e (subst (λ (a : List Meaning). Stands t p d a []) due.1 s) in
    let g = answering_at k t p e c tsdu rest m there hears taken (replies ∙ ap Some same) all.0.0 still in
    subst (λ (z : Direction). PlaysWhole t (utters z m ∷ messages) q) due.0.0
    (step_on t g.move (utters e m ∷ []) messages q g.numbered g.utters
    (on messages all.1 (step t g.move) e (m ∷ [])
    (inr (record { m = m; is = (refl, due.0.1, h.rests, due.0.3); one = refl })) g.leaves))
answers_due k t p e own before x words later c tsdu rest reply messages d ahead q there hears taken replies answers by all (inr due) s on =
    grind (arith, no_answer, same_said)

-- all words of a TSDU are sent
sends_due : AsMessages → (t : Tables) (p : Pair) (e : Direction) (own : List ℕ) (before : ℕ) (later : List Sending)
    (messages : List Utterance) (d : Direction) (ahead : List Meaning) (q : Pair) → AllByRecursion IsMessage messages →
    IsDue (sending e own before [] ∷ later) messages d ahead → Stands t p d ahead [] →
    ((d : Direction) (ahead : List Meaning) → IsDue later messages d ahead →
    Stands t (with_channel e (channel_of e p ++ own ∷ []) p) d ahead [] → PlaysWhole t messages q) → PlaysWhole t messages q
sends_due k t p e own before later [] d ahead q all (inl due) s on = absurd due.0
sends_due k t p e own before later (utters f m ∷ messages) d ahead q all (inl due) s on = grind (arith, message_first k m all.0.0)
sends_due k t p e own before later messages d ahead q all (inr due) s on =
    let one : Stands t p d (due.m ∷ []) [] = subst (λ (a : List Meaning). Stands t p d a []) due.one s in
    let here : Stands t p e (due.m ∷ []) [] = subst (λ (z : Direction). Stands t p z (due.m ∷ []) []) (sym due.is.0) one in
    on e [] (inl (due.is.3, refl))
    (subst (λ (o : List ℕ). Stands t (with_channel e (channel_of e p ++ o ∷ []) p) e [] []) (sym due.is.1) (sends_on t p e due.m here))

run_of : (k : AsMessages) {sent : List Sending} {p : Pair} (run : Accords sent p) → CallsAndAnswers run → (messages : List Utterance) →
    AllByRecursion IsMessage messages → (t : Tables) (d : Direction) (ahead : List Meaning) → IsDue sent messages d ahead →
    Stands t p d ahead [] → PlaysWhole t messages (end_of run)
run_of k (accord.done p) own messages all t d ahead due s = nothing_due t p messages d ahead due s
run_of k (accord.takes e later p o before x words tsdu rest c passed there hears taken quiet run) own messages all t d ahead due s =
    takes_step k t p e d c tsdu rest ahead messages (end_of run) there hears taken quiet s
    (λ u st. run_of k run own messages all u d ahead due st)
run_of k (accord.answers e later p o before x words tsdu rest c reply passed there hears taken replied is run) own messages all t d
    ahead due s =
    answers_due k t p e o before x words later c tsdu rest reply messages d ahead (end_of run) there hears taken replied is own.0 all due s
    (λ more al u f a du st. run_of k run own.1 more al u f a du st)
run_of k (accord.says e later p o before x words next can run) own messages all t d ahead due s =
    says_due k t p e o before x words later next messages d ahead (end_of run) own.0 can all due s
    (λ more al u f a du st. run_of k run own.1 more al u f a du st)
run_of k (accord.sends e later p o before run) own messages all t d ahead due s =
    sends_due k t p e o before later messages d ahead (end_of run) all due s (λ f a du st. run_of k run own messages all t f a du st)

-- ---- how it begins

-- the transport connection is requested, and agreed to by the called side; the CN is sent
abbrev opening : Offer → List Step
opening o = connects o ∷ taking_at Right [] ∷ taking_at Left [] ∷ []

abbrev asking_in : Offer → List Entry → Tables
asking_in o j = tables Left (seat linked (record { state = offering o; waiting = None }) (unit (offer_sent o) ∷ []))
    (seat linked (record { state = awaiting; waiting = None }) []) None None j

opened : (o : Offer) → refusal start_0 o ≡ None → run start_0 (opening o) ≡ asking_in o (run start_0 (opening o)).journal
unfolding react
opened o free = rw free refl

opening_utters : (o : Offer) → refusal start_0 o ≡ None → uttered_in start_0 (opening o) ≡ utters Left (offer_sent o) ∷ []
unfolding react
opening_utters o free = rw free refl

begun_in : (o : Offer) → refusal start_0 o ≡ None → IsSendable (offer_sent o) → Stands (run start_0 (opening o)) (asking o) Left [] []
begun_in o free send = record {
  own = seat linked (record { state = offering o; waiting = None }) (unit (offer_sent o) ∷ []);
  peer = seat linked (record { state = awaiting; waiting = None }) [];
  own_end = None;
  peer_end = None;
  journal = (run start_0 (opening o)).journal;
  is = opened o free;
  here = record {
    state = refl;
    joined = refl;
    units = offer_sent o ∷ [];
    are = refl;
    flight = refl;
    sendable = (send, tt);
    transport = refl;
    ends = refl;
  };
  there = record { state = refl; joined = refl; units = []; are = refl; flight = refl; sendable = tt; transport = refl; ends = refl };
}

-- steps, and then more
steps_on : (t : Tables) (steps : List Step) (messages : List Utterance) (q : Pair) → AllByRecursion HasNumber steps →
    PlaysWhole (run t steps) messages q → PlaysWhole t (uttered_in t steps ++ messages) q
steps_on t [] messages q numbered s = s
steps_on t (move ∷ steps) messages q numbered s =
    subst (λ (x : List Utterance). PlaysWhole t x q)
    (sym (append_assoc (uttered_at t move) (uttered_in (step t move) steps) messages))
    (grind (arith, step_on, steps_on (step t move) steps messages q numbered.1 s))

pub whole_run : AsMessages → (o : Offer) (before : ℕ) (sent : List Sending) (messages : List Utterance)
    (run : Accords (connect_of o before ∷ sent) (pair_of seen_calling seen_called)) → IsSendable (offer_sent o) → CanBeOffered o →
    refusal start_0 o ≡ None → AllByRecursion IsMessage messages → AreWritten sent messages → CallsAndAnswers run →
    PlaysWhole start_0 (utters Left (offer_sent o) ∷ messages) (end_of run)
whole_run k o before sent messages r send offered allowed_now all are own =
    let rest = connected (λ (x : List Sending) (y : Pair) (z : Accords x y). CallsAndAnswers z)
    (record { says = λ d later y own n w words next can more f. f.1; sends = λ d later y own n more f. f })
    k o send before sent r own in
    subst (PlaysWhole start_0 (utters Left (offer_sent o) ∷ messages)) rest.2
    (subst (λ (x : List Utterance). PlaysWhole start_0 (x ++ messages) (end_of rest.0)) (opening_utters o allowed_now)
    (steps_on start_0 (opening o) messages (end_of rest.0) (offered, (tt, (tt, tt)))
    (run_of k rest.0 rest.1 messages all (run start_0 (opening o)) Left [] (inl (are, refl)) (begun_in o allowed_now send))))

-- ---- what each side sends, and a run without liberties

ours : (d : Direction) (ms : List Meaning) → uttered_by d (map (utters d) ms) ≡ ms
ours d [] = refl
ours Left (m ∷ ms) = ap (λ (x : List Meaning). m ∷ x) (ours Left ms)
ours Right (m ∷ ms) = ap (λ (x : List Meaning). m ∷ x) (ours Right ms)

theirs : (d : Direction) (ms : List Meaning) → uttered_by d (map (utters (other d)) ms) ≡ []
theirs d [] = refl
theirs Left (m ∷ ms) = theirs Left ms
theirs Right (m ∷ ms) = theirs Right ms

said_at_is : (d : Direction) (t : Tables) (move : Step) → said_at (side_at d) 1 t move ≡ uttered_by d (uttered_at t move)
said_at_is d t move = grind (arith, flat_map-append, ours, theirs, append-nil)

pub said_is : (d : Direction) (t : Tables) (steps : List Step) → said_in (side_at d) 1 t steps ≡ uttered_by d (uttered_in t steps)
said_is d t [] = refl
said_is d t (move ∷ steps) =
    (λ i. said_at_is d t move i ++ said_is d (step t move) steps i)
    ∙ sym (flat_map-append (its_own d) (uttered_at t move) (uttered_in (step t move) steps))

by_any_call : (s next : Seen) (w : Word) → IsByCall s w next → IsByAnyCall s w next
by_any_call s next w (inl is) = inl is
by_any_call s next w (inr (m, is, inl first)) = inr (m, is, inl first)
by_any_call s next w (inr (m, is, inr call)) = inr (m, is, inr (record { is = call.is; numbered = call.numbered }))

pub without_liberties : {sent : List Sending} {p : Pair} (run : Accords sent p) → TakesNoLiberty run → CallsAndAnswers run
without_liberties (accord.done p) free = tt
without_liberties (accord.takes e later p o before x words tsdu rest c passed there hears taken quiet run) free =
    without_liberties run free
without_liberties (accord.answers e later p o before x words tsdu rest c reply passed there hears taken replied is run) free = absurd free
without_liberties (accord.says e later p o before x words next can run) free = search (arith, by_any_call, without_liberties run free.1)
without_liberties (accord.sends e later p o before run) free = without_liberties run free
