-- What a session sends for an accepted call is explained: in one TSDU, or data in parts.
-- For the law that an honest session is explained.
use Rattle.osi_side.proofs.Vocabulary.{◌≡◌, ◌∙◌, refl, sym, ap, subst, ℕ, ◌+◌, ◌<◌, ◌≤◌, ◌==◌, Bool, true, false, not, if◌then◌else◌, List}
use Rattle.osi_side.proofs.Vocabulary.{[], ◌∷◌, length, map, Option, Some, None, unwrap_or, Ok, arith, cases_Bool, le-leb, leb-true}
use Rattle.osi_side.proofs.Vocabulary.{lt-ltb, length-append, inl, inr, is_size, Place, First, Middle, Last, Meaning, DT, GT, AreFull}
use Rattle.osi_side.proofs.Vocabulary.{AreLater, AreParts, in_one, is_parted, is_whole, tsdus_of, words_sent, said_at, IsSendable}
use Rattle.osi_side.proofs.Vocabulary.{words_of, data_token, no_token, Words, says, part, part_octets, word_octets, written, data_written}
use Rattle.osi_side.proofs.Vocabulary.{State, Step, after, allowed, has_right, may_call, most_data, Call, Data, HasSerial, is_last}
use Rattle.osi_side.proofs.Vocabulary.{is_answering, is_ready, is_settled, has_no_effect, is_data, limit_of, IsSound, Seen, CanSay, goes}
use Rattle.osi_side.proofs.Vocabulary.{is_in_size, may_send, said_message, stands_in_place, passed, excluded, implied, sent_sendable}
use Rattle.osi_side.proofs.Vocabulary.{limit_sized, sent_alone}
use Rattle.osi_message.specs.Parting.{joined as joined_in}
use Rattle.osi_message.specs.Written.{is_second}
use Rattle.osi_session.specs.Allowed.{sends}
use Rattle.osi_session.specs.Standing.{said}
use Rattle.osi_side.proofs.honest.a_call_may_be_said.{message_said}
use Rattle.osi_side.proofs.honest.what_is_said_is_explained.{SaysTsdus, says_behind, says_message, says_nothing}

-- what is known of how messages are sent and read
pub record AsSent : Type 0 where
  pub message : (m : Meaning) → IsSendable m → said_at (written m) ≡ Ok (words_of m)
  pub part : (place : Place) (octets : List ℕ) → said_at (part_octets place octets) ≡ Ok (says (GT no_token) ∷ part place octets ∷ [])
  pub whole : (limit : ℕ) (m : Meaning) → is_parted limit m ≡ false → tsdus_of limit m ≡ in_one m
  pub parts : (limit : ℕ) (octets : List ℕ) → is_size limit ≡ true → is_parted limit (DT octets) ≡ true →
      AreParts (words_sent limit (DT octets))
  pub joined : (limit : ℕ) (octets : List ℕ) → joined_in (words_sent limit (DT octets)) ≡ octets
  pub full : (limit : ℕ) (octets : List ℕ) → is_size limit ≡ true → 0 < limit → AreFull limit (tsdus_of limit (DT octets))

-- ---- the size of a TSDU

no_limit : (s : State) (n : ℕ) → is_answering s.phase ≡ true → is_in_size s n ≡ true
no_limit s n p = let e = excluded is_answering is_settled refl s.phase p in rw e refl

same_limit : (s : State) (c : Call) → is_second (sends s c) ≡ true → may_call s.phase c ≡ true → limit_of (after s c) ≡ limit_of s
unfolding is_second
same_limit s c e p = grind (arith, implied)

-- ---- a message

un_not : (b : Bool) → not b ≡ true → b ≡ false
un_not b e = grind arith

-- a side with nothing unfinished of its own
abbrev pub side_with : State → Option ℕ → Option ℕ → Seen
side_with s joined sent = record { state = s; joined = joined; sent = sent; closed = false }

message_can : (s : State) (j : Option ℕ) (m : Meaning) (next : State) (n : ℕ) → has_no_effect m ≡ false → is_in_size s n ≡ true →
    said_message s m ≡ Some next
    → CanSay (side_with s j None) (says m) n (goes (side_with s j None) next)
unfolding said
message_can s j m next n e i h = rw (i, e, h) refl

-- the TSDU of a call, if it is one
one_said : AsSent → (s : State) (j : Option ℕ) (c : Call) (x : Step) → IsSound s → HasSerial c → allowed s c ≡ Ok x →
    is_in_size s (length (written (sends s c))) ≡ true
    → SaysTsdus (side_with s j None) (in_one (sends s c)) (goes (side_with s j None) (after s c))
one_said sent s j c x sound small h i =
    let q = passed s c x h in
    let m = sends s c in
    let n = length (written m) in
    let next = goes (side_with s j None) (after s c) in
    let sendable : IsSendable m = subst (λ (y : Step). IsSendable y.sent) q.gives (sent_sendable s c x sound small h) in
    let can = message_can s j m (after s c) n (grind (arith, un_not)) i (message_said s c sound small q.phase q.needed q.size) in grind (
      arith,
      says_message,
      says_nothing,
      same_limit,
    )

-- ---- the parts of data

abbrev sent_after : Place → Option ℕ → List ℕ → Option ℕ
sent_after place sent o = if is_last place then None else Some (unwrap_or sent 0 + length o)

part_can : (s : State) (j sent : Option ℕ) (place : Place) (o : List ℕ) (n : ℕ) → (limit_of s == 0) ≡ false →
    stands_in_place sent place ≡ true → may_send s (unwrap_or sent 0 + length o) ≡ true
    → is_in_size s n ≡ true → CanSay (side_with s j sent) (part place o) n (side_with s j (sent_after place sent o))
unfolding said
part_can s j sent place o n z p m i = rw (i, z, p, m) refl

-- the state in which data may be sent in parts
record SendsParts (s : State) : Type 0 where
  limited : (limit_of s == 0) ≡ false
  ready : is_ready s.phase ≡ true
  right : has_right s data_token ≡ true

in_limit : (s : State) (n : ℕ) → n ≤ limit_of s → is_in_size s n ≡ true
in_limit s n l = grind (arith, le-leb)

-- one part, with the GT before it
part_said : AsSent → (s : State) (j sent : Option ℕ) (place : Place) (o : List ℕ) (os : List (List ℕ)) (t : Seen) → SendsParts s →
    stands_in_place sent place ≡ true
    → 0 < unwrap_or sent 0 + length o → unwrap_or sent 0 + length o ≤ most_data → length (part_octets place o) ≤ limit_of s
    → SaysTsdus (side_with s j (sent_after place sent o)) os t → SaysTsdus (side_with s j sent) (part_octets place o ∷ os) t
part_said known s j sent place o os t k p some few short more =
    grind (arith, part_can, lt-ltb, le-leb, says_behind, says_nothing, in_limit, known.part place o)

tail_full : (limit : ℕ) (o : List ℕ) (os : List (List ℕ)) → AreFull limit (o ∷ os) → AreFull limit os
tail_full limit o os h = grind arith

later_said : AsSent → (s : State) (j : Option ℕ) (n : ℕ) (ws : Words) → SendsParts s → AreLater ws → 0 < n →
    n + length (joined_in ws) ≤ most_data → AreFull (limit_of s) (map word_octets ws)
    → SaysTsdus (side_with s j (Some n)) (map word_octets ws) (side_with s j None)
later_said known s j n [] k l some few full = absurd l
later_said known s j n (part Last o ∷ []) k l some few full =
    let e = length-append o [] in
    part_said known s j (Some n) Last o [] (side_with s j None) k refl (omega arith) (omega arith)
    (grind arith) refl
later_said known s j n (part Middle o ∷ ws) k l some few full =
    let e = length-append o (joined_in ws) in
    part_said known s j (Some n) Middle o (map word_octets ws) (side_with s j None) k refl (omega arith) (omega arith)
    (grind arith)
    (later_said known s j (n + length o) ws k l (omega arith) (omega arith)
    (tail_full (limit_of s) (part_octets Middle o) (map word_octets ws) full))
later_said known s j n _ k l some few full = absurd l

-- the first part has an octet, since its TSDU has as many as the limit
first_some : (limit : ℕ) (o : List ℕ) (ws : Words) → is_size limit ≡ true → (limit == 0) ≡ false → AreLater ws →
    AreFull limit (part_octets First o ∷ map word_octets ws) → 0 < length o
first_some limit o [] size z l full = absurd l
first_some limit o (w ∷ ws) size z l full = grind arith

parts_said : AsSent → (s : State) (j : Option ℕ) (ws : Words) → SendsParts s → is_size (limit_of s) ≡ true → AreParts ws →
    length (joined_in ws) ≤ most_data → AreFull (limit_of s) (map word_octets ws)
    → SaysTsdus (side_with s j None) (map word_octets ws) (side_with s j None)
parts_said known s j (part First o ∷ ws) k size l few full =
    let e = length-append o (joined_in ws) in
    let some = first_some (limit_of s) o ws size k.limited l full in
    part_said known s j None First o (map word_octets ws) (side_with s j None) k refl (omega arith) (omega arith)
    (grind arith)
    (grind (arith, later_said, tail_full))
parts_said known s j _ k size l few full = absurd l

-- ---- any call

limited : (n : ℕ) (o : List ℕ) → is_whole n o ≡ false → (n == 0) ≡ false
limited n o h = grind arith

data_said : AsSent → (s : State) (j : Option ℕ) (octets : List ℕ) (x : Step) → IsSound s → allowed s (Data octets) ≡ Ok x →
    goes (side_with s j None) s ≡ side_with s j None
    → SaysTsdus (side_with s j None) (tsdus_of (limit_of s) (DT octets)) (goes (side_with s j None) s)
data_said known s j octets x sound h same = elim (cases_Bool (is_whole (limit_of s) octets)) [
  | inl w ↦ subst (λ (os : List (List ℕ)). SaysTsdus (side_with s j None) os (goes (side_with s j None) s))
      (sym (known.whole (limit_of s) (DT octets) (ap not w)))
      (one_said known s j (Data octets) x sound tt h (grind (arith, data_written)))
  | inr w ↦ (let q = passed s (Data octets) x h in
      grind (arith, limit_sized, limited, leb-true, parts_said))
]
  where
    above : (n : ℕ) → (n == 0) ≡ false → 0 < n
    above n e = grind arith

-- data leaves the state as it was
pub data_sent : (s : State) (octets : List ℕ) (x : Step) → allowed s (Data octets) ≡ Ok x → (x.sent ≡ DT octets) × (x.next ≡ s)
data_sent s octets x h = let q = passed s (Data octets) x h in (ap (λ (y : Step). y.sent) q.gives, ap (λ (y : Step). y.next) q.gives)

pub one_sent : AsSent → (s : State) (c : Call) (x : Step) → allowed s c ≡ Ok x → is_data c ≡ false →
    tsdus_of (limit_of s) x.sent ≡ in_one (sends s c)
one_sent known s c x h d = let q = passed s c x h in sent_alone known.whole s c x h d ∙ ap (λ (y : Step). in_one y.sent) q.gives

other_said : AsSent → (s : State) (j : Option ℕ) (c : Call) (x : Step) → IsSound s → HasSerial c → allowed s c ≡ Ok x → is_data c ≡ false
    → SaysTsdus (side_with s j None) (tsdus_of (limit_of s) x.sent) (goes (side_with s j None) x.next)
other_said known s j c x sound small h d =
    let q = passed s c x h in
    subst (λ (os : List (List ℕ)). SaysTsdus (side_with s j None) os (goes (side_with s j None) x.next)) (sym (one_sent known s c x h d))
    (grind (arith, no_limit, one_said known s j c x sound small h (grind (arith, no_limit))))

pub call_said : AsSent → (s : State) (j : Option ℕ) (c : Call) (x : Step) → IsSound s → HasSerial c → allowed s c ≡ Ok x
    → SaysTsdus (side_with s j None) (tsdus_of (limit_of s) x.sent) (goes (side_with s j None) x.next)
call_said known s j (Data octets) x sound small h =
    let d = data_sent s octets x h in
    let q = passed s (Data octets) x h in
    grind (arith, implied, data_said known s j octets x sound h (grind (arith, implied)))
call_said known s j c x sound small h = other_said known s j c x sound small h refl
