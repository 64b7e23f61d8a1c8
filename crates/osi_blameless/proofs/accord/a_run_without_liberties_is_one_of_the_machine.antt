-- A run of two sessions in which no liberty is taken is a run of the machine of two sides that exchange whole messages.
-- For the law of that name.
use Rattle.osi_blameless.proofs.accord.Vocabulary.{[], ap, append-nil, false, inl, inr, length, List, map, None, Ok, Option, refl, Some}
use Rattle.osi_blameless.proofs.accord.Vocabulary.{subst, sym}
use Rattle.osi_blameless.proofs.accord.Vocabulary.{true, ℕ, ◌++◌, ◌∙◌, ◌∷◌, ◌≡◌, AllByRecursion, GT, Meaning, IsSendable, no_token, says}
use Rattle.osi_blameless.proofs.accord.Vocabulary.{Word}
use Rattle.osi_blameless.proofs.accord.Vocabulary.{written, allowed, Call, HasSerial, has_no_effect, respond_unit, after_count, CanSay}
use Rattle.osi_blameless.proofs.accord.Vocabulary.{Count, Seen}
use Rattle.osi_blameless.proofs.accord.Vocabulary.{seen_called, seen_calling, Takes, call_at, called, Core, core_start, core_step, Offer}
use Rattle.osi_blameless.proofs.accord.Vocabulary.{offer_sent}
use Rattle.osi_blameless.proofs.accord.Vocabulary.{stays_in_core, take_at, taking, turned, other, Direction, Left, Right, Accords, end_of}
use Rattle.osi_blameless.proofs.accord.Vocabulary.{Sending}
use Rattle.osi_blameless.proofs.accord.Vocabulary.{sending, AreWritten, connect_of, is_connect, IsByCall, IsCoreCall, IsMessage, Plays}
use Rattle.osi_blameless.proofs.accord.Vocabulary.{sent_at}
use Rattle.osi_blameless.proofs.accord.Vocabulary.{side_at, TakesNoLiberty, Utterance, utters, channel_of, has_taken, Pair, pair_of}
use Rattle.osi_blameless.proofs.accord.Vocabulary.{session_of}
use Rattle.osi_blameless.proofs.accord.Vocabulary.{with_channel, with_session, arith}
use Rattle.osi_session.specs.Allowed.{Step}
use Rattle.osi_machine.specs.Core as machine
use Rattle.osi_blameless.specs.accord.Accords as accord
use Rattle.osi_blameless.proofs.accord.messages_of_a_run.{AsMessages, IsTaken, is_taken, IsRest, message_first, same_said, says_nothing}
use Rattle.osi_blameless.proofs.accord.messages_of_a_run.{all_and_one}
use Rattle.osi_blameless.proofs.accord.messages_of_a_run.{written_more, kept_none, comes, IsDue, same_pair, first_word, effect_of}
use Rattle.osi_blameless.proofs.accord.how_a_run_begins.{connected}

-- ---- a side of the machine, and a side of the pair

-- it is in the same state, and the same is in flight from it; ahead are messages that are sent and whose TSDU is not yet in flight
record IsParty (x : machine.Party) (s : Seen) (channel : List (List ℕ)) (ahead : List Meaning) : Type 0 where
  state : x.session ≡ s.state
  joined : s.joined ≡ None
  flight : channel ++ map written ahead ≡ map written x.sent
  sendable : AllByRecursion IsSendable x.sent

abbrev party_at : Direction → Core → machine.Party
party_at Left w = w.own
party_at Right w = w.peer

-- both sides, seen from one of them
record Stands (w : Core) (p : Pair) (d : Direction) (ahead others : List Meaning) : Type 0 where
  own : IsParty (party_at d w) (session_of d p) (channel_of d p) ahead
  peer : IsParty (party_at (other d) w) (session_of (other d) p) (channel_of (other d) p) others

turned_about : (w : Core) (p : Pair) (d : Direction) (ahead others : List Meaning) → Stands w p d ahead others →
    Stands w p (other d) others ahead
turned_about w p d ahead others s = grind arith

-- ---- a call

called_own : (v : Core) (c : Call) (g : Step) → stays_in_core c ≡ true → allowed v.own.session c ≡ Ok g →
    called v c ≡ machine.answered v c (Ok g)
called_own v c g stays allows = rw (stays, allows) refl

calls_on : (w : Core) (p : Pair) (d : Direction) (next : Seen) (m : Meaning) (call : IsCoreCall (session_of d p) m next) → IsSendable m →
    Stands w p d [] [] →
    Stands (core_step w (call_at (side_at d) call.is.call)) (with_session d next p) d (m ∷ []) []
calls_on w p h next m call send s = grind (arith, called_own, kept_none, append-nil, written_more, all_and_one)

-- ---- a delivery

party_takes : (x y : machine.Party) (s : Seen) (channel : List (List ℕ)) (ahead : List Meaning) (u : Meaning) (c : Count) → IsTaken s u c →
    IsParty x s channel ahead → y.session ≡ (respond_unit x.session u).next → y.sent ≡ x.sent → IsParty y (after_count s c) channel ahead
party_takes x y s channel ahead u c did i at sent = grind arith

party_gives : (x y : machine.Party) (s : Seen) (channel rest : List (List ℕ)) (others us : List Meaning) → IsParty x s channel others →
    y.session ≡ x.session → y.sent ≡ us → rest ++ map written others ≡ map written us → AllByRecursion IsSendable us →
    IsParty y s rest others
party_gives x y s channel rest others us i at sent later all = grind arith

taking_own : (v : Core) (u : Meaning) (us : List Meaning) → v.peer.sent ≡ u ∷ us → machine.takes v ≡ taking v (u ∷ us)
taking_own v u us e = ap (taking v) e

takes_on : AsMessages → (w : Core) (p : Pair) (d : Direction) (c : Count) (tsdu : List ℕ) (rest : List (List ℕ))
    (ahead others : List Meaning) →
    channel_of (other d) p ≡ tsdu ∷ rest → Takes (session_of d p) tsdu c → Stands w p d ahead others →
    Stands (core_step w (take_at (side_at d))) (has_taken d c rest p) d ahead others
takes_on k w p Left c tsdu rest ahead others there taken s =
    let m = comes w.peer.sent tsdu (rest ++ map written others)
    (ap (λ (x : List (List ℕ)). x ++ map written others) (sym there) ∙ s.peer.flight) in
    let all : AllByRecursion IsSendable (m.u ∷ m.us) = subst (AllByRecursion IsSendable) m.is s.peer.sendable in
    let is = taking_own w m.u m.us m.is in
    let did = is_taken k p.left.session m.u c all.0 s.own.joined (subst (λ (x : List ℕ). Takes p.left.session x c) (sym m.first) taken) in
    grind (arith, party_takes, party_gives)
takes_on k w p Right c tsdu rest ahead others there taken s =
    let m = comes w.own.sent tsdu (rest ++ map written others)
    (ap (λ (x : List (List ℕ)). x ++ map written others) (sym there) ∙ s.peer.flight) in
    let all : AllByRecursion IsSendable (m.u ∷ m.us) = subst (AllByRecursion IsSendable) m.is s.peer.sendable in
    let is = taking_own (turned w) m.u m.us m.is in
    let did = is_taken k p.right.session m.u c all.0 s.own.joined (subst (λ (x : List ℕ). Takes p.right.session x c) (sym m.first) taken) in
    grind (arith, party_takes, party_gives)

-- whichever side takes it
takes_any : AsMessages → (w : Core) (p : Pair) (d e : Direction) (c : Count) (tsdu : List ℕ) (rest : List (List ℕ)) (ahead : List Meaning) →
    channel_of (other d) p ≡ tsdu ∷ rest → Takes (session_of d p) tsdu c → Stands w p e ahead [] →
    Stands (core_step w (take_at (side_at d))) (has_taken d c rest p) e ahead []
takes_any k w p Left Left c tsdu rest ahead there taken s = takes_on k w p Left c tsdu rest ahead [] there taken s
takes_any k w p Right Right c tsdu rest ahead there taken s = takes_on k w p Right c tsdu rest ahead [] there taken s
takes_any k w p Left Right c tsdu rest ahead there taken s =
    turned_about _ _ Left [] ahead (takes_on k w p Left c tsdu rest [] ahead there taken (turned_about w p Right ahead [] s))
takes_any k w p Right Left c tsdu rest ahead there taken s =
    turned_about _ _ Right [] ahead (takes_on k w p Right c tsdu rest [] ahead there taken (turned_about w p Left ahead [] s))

-- ---- the TSDU is in flight

sends_on : (w : Core) (p : Pair) (d : Direction) (m : Meaning) → Stands w p d (m ∷ []) [] →
    Stands w (with_channel d (channel_of d p ++ written m ∷ []) p) d [] []
sends_on w p d m s = grind (arith, append-nil)

-- ---- a run

takes_step : (w : Core) (d : Direction) (messages : List Utterance) (q : Pair) → Plays (core_step w (take_at (side_at d))) messages q →
    Plays w messages q
takes_step w d messages q s = record {
  steps = take_at (side_at d) ∷ s.steps;
  numbered = (tt, s.numbered);
  sent = s.sent;
  left = s.left;
  right = s.right;
  left_in_flight = s.left_in_flight;
  right_in_flight = s.right_in_flight;
}

call_step : (w : Core) (d : Direction) (c : Call) (m : Meaning) (messages : List Utterance) (q : Pair) → HasSerial c →
    sent_at w (call_at (side_at d) c) ≡ utters d m ∷ [] → Plays (core_step w (call_at (side_at d) c)) messages q →
    Plays w (utters d m ∷ messages) q
call_step w d c m messages q small sent s = record {
  steps = call_at (side_at d) c ∷ s.steps;
  numbered = (small, s.numbered);
  sent = grind arith;
  left = s.left;
  right = s.right;
  left_in_flight = s.left_in_flight;
  right_in_flight = s.right_in_flight;
}

nothing_due : (w : Core) (p : Pair) (messages : List Utterance) (d : Direction) (ahead : List Meaning) → IsDue [] messages d ahead →
    Stands w p d ahead [] → Plays w messages p
nothing_due w p messages d ahead h s = grind (arith, append-nil)

-- nothing is ahead of either side
calm : (w : Core) (p : Pair) (d e : Direction) → Stands w p d [] [] → Stands w p e [] []
calm w p d e s = grind (arith, turned_about)

-- the call by which it is sent
call_of : (s next : Seen) (w : Word) (m : Meaning) → IsByCall s w next → w ≡ says m → has_no_effect m ≡ false → is_connect m ≡ false →
    IsCoreCall s m next
call_of s next w m (inl is) e effect other = absurd (effect_of m effect (same_said m (GT no_token) (sym e ∙ is)))
call_of s next w m (inr (n, is, inl connects)) e effect other = grind (arith, same_said)
call_of s next w m (inr (n, is, inr call)) e effect other = grind (arith, same_said)

-- a word is sent
says_due : AsMessages → (w : Core) (p : Pair) (e : Direction) (own : List ℕ) (before : ℕ) (x : Word) (words : List (Option Word))
    (later : List Sending) (next : Seen) (messages : List Utterance) (d : Direction) (ahead : List Meaning) (q : Pair) →
    IsByCall (session_of e p) x next → CanSay (session_of e p) x (length own) next → AllByRecursion IsMessage messages →
    IsDue (sending e own before (Some x ∷ words) ∷ later) messages d ahead → Stands w p d ahead [] →
    ((messages : List Utterance) → AllByRecursion IsMessage messages → (w : Core) (d : Direction) (ahead : List Meaning) →
    IsDue (sending e own before words ∷ later) messages d ahead → Stands w (with_session e next p) d ahead [] → Plays w messages q) →
    Plays w messages q
says_due k w p e own before x words later next [] d ahead q by can all (inl due) s on = absurd due.0
says_due k w p e own before x words later next (utters f m ∷ messages) d ahead q by can all (inl due) s on =
    let h = first_word k m x words all.0.0 due.0.2 in
    let call = call_of (session_of e p) next x m by h.word all.0.1 all.0.2 in
    let still : Stands w p e [] [] = calm w p d e (subst (λ (a : List Meaning). Stands w p d a []) due.1 s) in
    subst (λ (z : Direction). Plays w (utters z m ∷ messages) q) due.0.0
    (call_step w e call.is.call m messages q call.numbered (grind arith)
    (on messages all.1 (core_step w (call_at (side_at e) call.is.call)) e (m ∷ [])
    (inr (record { m = m; is = (refl, due.0.1, h.rests, due.0.3); one = refl }))
    (calls_on w p e next m call all.0.0 still)))
says_due k w p e own before x words later next messages d ahead q by can all (inr due) s on = by_rest due.is.2
  where
    by_rest : IsRest (Some x ∷ words) → Plays w messages q
    by_rest (inl none) = absurd (cc)
    by_rest (inr one) =
        let word : x ≡ says (GT no_token) = cc in
        let none : words ≡ [] = cc in
        let still = says_nothing (session_of e p) next (length own)
        (subst (λ (v : Word). CanSay (session_of e p) v (length own) next) word can) in
        on messages all w d ahead (inr (record { m = due.m; is = (due.is.0, due.is.1, inl none, due.is.3); one = due.one }))
        (subst (λ (y : Pair). Stands w y d ahead []) (sym (ap (λ (z : Seen). with_session e z p) still ∙ same_pair e p)) s)

-- all words of a TSDU are sent
sends_due : AsMessages → (w : Core) (p : Pair) (e : Direction) (own : List ℕ) (before : ℕ) (later : List Sending)
    (messages : List Utterance)
    (d : Direction) (ahead : List Meaning) (q : Pair) → AllByRecursion IsMessage messages →
    IsDue (sending e own before [] ∷ later) messages d ahead →
    Stands w p d ahead [] →
    ((w : Core) (d : Direction) (ahead : List Meaning) → IsDue later messages d ahead →
    Stands w (with_channel e (channel_of e p ++ own ∷ []) p) d ahead [] → Plays w messages q) → Plays w messages q
sends_due k w p e own before later [] d ahead q all (inl due) s on = absurd due.0
sends_due k w p e own before later (utters f m ∷ messages) d ahead q all (inl due) s on = grind (arith, message_first k m all.0.0)
sends_due k w p e own before later messages d ahead q all (inr due) s on =
    let one : Stands w p d (due.m ∷ []) [] = subst (λ (a : List Meaning). Stands w p d a []) due.one s in
    let here : Stands w p e (due.m ∷ []) [] = subst (λ (z : Direction). Stands w p z (due.m ∷ []) []) (sym due.is.0) one in
    on w e [] (inl (due.is.3, refl))
    (subst (λ (o : List ℕ). Stands w (with_channel e (channel_of e p ++ o ∷ []) p) e [] []) (sym due.is.1) (sends_on w p e due.m here))

run_of : (k : AsMessages) {sent : List Sending} {p : Pair} (run : Accords sent p) → TakesNoLiberty run → (messages : List Utterance) →
    AllByRecursion IsMessage messages → (w : Core) (d : Direction) (ahead : List Meaning) → IsDue sent messages d ahead →
    Stands w p d ahead [] → Plays w messages (end_of run)
run_of k (accord.done p) free messages all w d ahead due s = nothing_due w p messages d ahead due s
run_of k (accord.takes e later p own before x words tsdu rest c passed there hears taken quiet run) free messages all w d ahead due s =
    takes_step w e messages (end_of run)
    (run_of k run free messages all (core_step w (take_at (side_at e))) d ahead due (takes_any k w p e d c tsdu rest ahead there taken s))
run_of k (accord.answers e later p own before x words tsdu rest c reply passed there hears taken replied is run) free messages all w d
    ahead due s = absurd free
run_of k (accord.says e later p own before x words next can run) free messages all w d ahead due s =
    says_due k w p e own before x words later next messages d ahead (end_of run) free.0 can all due s
    (λ more al v f a du st. run_of k run free.1 more al v f a du st)
run_of k (accord.sends e later p own before run) free messages all w d ahead due s =
    sends_due k w p e own before later messages d ahead (end_of run) all due s (λ v f a du st. run_of k run free messages all v f a du st)

-- ---- how it begins

pub machine_run : AsMessages → (o : Offer) (before : ℕ) (sent : List Sending) (messages : List Utterance)
    (run : Accords (connect_of o before ∷ sent) (pair_of seen_calling seen_called)) → IsSendable (offer_sent o) →
    AllByRecursion IsMessage messages → AreWritten sent messages → TakesNoLiberty run → Plays (core_start o) messages (end_of run)
machine_run k o before sent messages run send all are free =
    let rest = connected (λ (x : List Sending) (y : Pair) (z : Accords x y). TakesNoLiberty z)
    (record { says = λ d later y own n w words next can more f. f.1; sends = λ d later y own n more f. f })
    k o send before sent run free in
    subst (Plays (core_start o) messages) rest.2
    (run_of k rest.0 rest.1 messages all (core_start o) Left [] (inl (are, refl))
    (grind arith))
