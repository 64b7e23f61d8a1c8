-- Every unit in flight can be written, and the numbers of each session are in order.
-- For the law `what_is_under_way_can_be_sent`.
use Rattle.osi_machine.proofs.Vocabulary.{leb-true, or_parts, not-false, AllByRecursion, Input, called, taken, opened, refused}
use Rattle.osi_machine.proofs.Vocabulary.{broken as broken_off, Standing, Move, react, Said, said_of, State, Meaning, Call, HasSerial}
use Rattle.osi_machine.proofs.Vocabulary.{Granted, Answer, IsSound, IsSendable, allowed, respond, Offer, CanBeOffered, offer_sent, Message}
use Rattle.osi_machine.proofs.Vocabulary.{unit, ask, agree, deny, bye, over, Transport, not_yet, waiting, linked, closing, gone, put}
use Rattle.osi_machine.proofs.Vocabulary.{replied, Terms, accepts, denies, is_given, is_long, HasNumber, Line, Tables, in_transport, puts}
use Rattle.osi_machine.proofs.Vocabulary.{made, AreSendable, IsSoundLine, AreSoundLines, IsTableRun, ◌≡◌, refl, subst, ℕ, suc, Bool, false}
use Rattle.osi_machine.proofs.Vocabulary.{List, [], ◌∷◌, ◌++◌, take, Option, Some, None, Ok, Err, arith, CanBeSent, Left, true, unread}
use Rattle.osi_session.specs.Moves.{answered as answered_move, after_inputs}
use Rattle.osi_session.specs.Runs.{HasNumbers}
use Rattle.osi_message.specs.Written.{user_data_of}
use Rattle.osi_machine.specs.Tables.{shortened, message_taken, without_first}
use Rattle.osi_machine.proofs.basics.what_holds_in_each_phase.{by_test}
use Rattle.osi_machine.proofs.tables.every_line_of_a_run.{all_know, Claim, IsKept}

-- what is proved of one session
pub record SendLaws : Type 0 where
  pub sound : (s : Standing) (inputs : List Input) → AllByRecursion HasNumbers inputs → IsSound s.state
      → IsSound (after_inputs s inputs).state
  pub called : (s : State) (c : Call) (g : Granted) → IsSound s → HasSerial c → allowed s c ≡ Ok g → IsSendable g.sent
  pub replied : (s : State) (said : Said) (m : Meaning) → (respond s said).reply ≡ Some m → IsSendable m

-- ---- channels

sendable_append : (xs ys : List Message) → AreSendable xs → AreSendable ys → AreSendable (xs ++ ys)
sendable_append [] ys h k = k
sendable_append (unit m ∷ xs) ys h k = (h.0, sendable_append xs ys h.1 k)
sendable_append (x ∷ xs) ys h k = sendable_append xs ys h k

put_sendable : (b : Bool) (ms ch : List Message) → AreSendable ms → AreSendable ch → AreSendable (put b ms ch)
put_sendable b ms ch h k = grind (arith, sendable_append)

take_sendable : (n : ℕ) (ms : List Message) → AreSendable ms → AreSendable (take n ms)
take_sendable (suc n) (unit m ∷ ms) h = (h.0, take_sendable n ms h.1)
take_sendable (suc n) (x ∷ ms) h = take_sendable n ms h
take_sendable _ _ h = tt

replied_sendable : (r : Option Meaning) → CanBeSent r → AreSendable (replied r)
replied_sendable r h = grind arith

-- ---- a move

record IsWell (m : Move) : Type 0 where
  sound : IsSound m.next.state
  waits : CanBeSent m.next.waiting
  reply : CanBeSent m.reply

-- what was received could be read
abbrev is_read : Input → Bool
is_read (unread fault) = false
is_read i = true

sends : SendLaws → (s : Standing) (i : Input) → is_read i ≡ true → HasNumbers i → IsSound s.state → CanBeSent s.waiting
    → CanBeSent (react s i).next.waiting × CanBeSent (react s i).reply
unfolding react
sends laws s (called c) r n h w = by (allowed s.state c) refl
  where
    by : (a : Answer) → allowed s.state c ≡ a → CanBeSent (answered_move s a).next.waiting × CanBeSent (answered_move s a).reply
    by (Ok g) e = (w, laws.called s.state c g h n e)
    by (Err f) e = (w, tt)
sends laws s (taken said) r n h w = (w, by (respond s.state said).reply refl)
  where
    by : (r : Option Meaning) → (respond s.state said).reply ≡ r → CanBeSent r
    by None e = tt
    by (Some m) e = laws.replied s.state said m e
sends laws s (unread fault) r n h w = absurd (cc)
sends laws s _ r n h w = grind arith

well : SendLaws → (s : Standing) (i : Input) → is_read i ≡ true → HasNumbers i → IsSound s.state → CanBeSent s.waiting → IsWell (react s i)
well laws s i r n h w = assumption (laws.sound s (i ∷ []) (n, tt) h, sends laws s i r n h w)

-- ---- a connection

moved_line : (b : Bool) (tr : Transport) (m : Move) (l : Line) → IsWell m → IsSoundLine l → IsSoundLine (in_transport tr (made b m l))
moved_line b tr m l w h = grind (arith, put_sendable, replied_sendable)

put_line : (b : Bool) (ms : List Message) (tr : Transport) (l : Line) → AreSendable ms → IsSoundLine l
    → IsSoundLine (puts b ms (in_transport tr l))
put_line b ms tr l k h = grind (arith, put_sendable)

short_line : (n : ℕ) (l : Line) → IsSoundLine l → IsSoundLine (shortened n l)
short_line n l h = grind (arith, take_sendable)

popped_line : (l : Line) (ms : List Message) → AreSendable ms → IsSoundLine l → IsSoundLine (without_first l ms)
popped_line l ms k h = record { own = h.own; peer = record { sound = h.peer.sound; waits = h.peer.waits; under_way = k } }

message_line : SendLaws → (b : Bool) (terms : Terms) (keep : ℕ) (tr : Transport) (l : Line) (x : Message) (xs : List Message)
    → AreSendable (x ∷ xs) → IsSoundLine l
    → IsSoundLine (message_taken b terms keep tr (without_first l xs) x).line
message_line laws b (accepts class) keep not_yet l ask xs k h = search (arith, put_line, popped_line)
message_line laws b (denies reason) keep not_yet l ask xs k h = grind (arith, popped_line, put_sendable)
message_line laws b terms keep waiting l agree xs k h = search (arith, moved_line, well laws l.own.session opened refl tt, popped_line)
message_line laws b terms keep waiting l (deny r) xs k h =
    search (arith, moved_line, well laws l.own.session (refused r) refl tt, popped_line)
message_line laws b terms keep linked l (unit u) xs k h =
    moved_line b linked (react l.own.session (taken (said_of u))) (without_first l xs)
    (well laws l.own.session (taken (said_of u)) refl (grind (arith, by_test)) h.own.sound h.own.waits) (popped_line l xs k.1 h)
message_line laws b terms keep linked l (bye r) xs k h =
    search (arith, moved_line, well laws l.own.session broken_off refl tt, short_line, popped_line, put_sendable)
message_line laws b terms keep closing l (bye r) xs k h = grind arith
message_line laws b terms keep closing l over xs k h = grind arith
message_line laws b terms keep gone l (bye r) xs k h = grind (arith, popped_line, put_sendable)
message_line laws b terms keep tr l x xs k h = popped_line l xs (grind arith) h

offer_sendable : (o : Offer) → CanBeOffered o → is_long o ≡ false → IsSendable (offer_sent o)
unfolding user_data_of
offer_sendable o small h = grind (arith, or_parts, leb-true, not-false)

-- whatever was sent and received
abbrev Sound : Claim
Sound b l x y = IsSoundLine l

sound_kept : SendLaws → IsKept Sound HasNumber
sound_kept laws = record {
  new = λ b o small short. search (arith, offer_sendable, put_sendable);
  turns = λ b l x y h. record { own = h.peer; peer = h.own };
  call = λ b side r c l x y small given h. grind (arith, well laws l.own.session (called c) refl small, put_sendable, replied_sendable);
  take = λ b terms keep l m xs x y e h. message_line laws b terms keep l.own.transport l m xs (subst AreSendable e h.peer.under_way) h;
  close = λ b terms keep to_keep tr l m x y c h. put_line b (bye 128 ∷ []) closing (shortened to_keep _) tt (short_line to_keep _ h);
  end = λ b keep l x y h. by_test (is_given l.own.transport)
      (λ e. rw e (grind (arith, moved_line, well laws l.own.session broken_off refl tt, short_line)))
      (λ e. rw e h);
  cut = λ b left right l x y h. grind (arith, take_sendable);
}

pub are_sound : SendLaws → (t : Tables) → IsTableRun t → AreSoundLines t
are_sound laws t h r l e = grind (arith, all_know Sound HasNumber (sound_kept laws) Left r h.agreed h.steps h.numbered)
