-- What is in flight, as messages of the tables and as those between two carriers, when one end acts.
-- For what is in flight, turns, calls, breaks and ends, packets and carries.
use Rattle.osi_between.specs.Messages as carrier
use Rattle.osi_pair.proofs.Vocabulary.{take-map, ◌≡◌, ℕ, Bool, true, false, ◌≤◌, ◌⊎◌, inl, inr, List, [], ◌∷◌, ◌++◌, length, map, take}
use Rattle.osi_pair.proofs.Vocabulary.{drop, Option, Some, None, refl, sym, ap, subst, ◌∙◌, arith, map-append}
use Rattle.osi_pair.proofs.Vocabulary.{append-nil, take-append-drop, Place, connection_in, progress_of, AreLike, Progress}
use Rattle.osi_pair.proofs.Vocabulary.{Message, unit, EndReason, AreAlike, message_in, word_in, AreUnderWay, IsOverWhenLeft}
use Rattle.osi_pair.proofs.Vocabulary.{after_message, IsCalm, StaysCalm, IsNoFaultBehind, over_calm, Word, whole, part, joins, left_of}
use Rattle.osi_pair.proofs.Vocabulary.{IsBegun, AreInOrder, most_data, is_leaving, DT, part_octets, First, Middle, Last, list_any}
use Rattle.osi_pair.proofs.Vocabulary.{SessionState as State, PartPlace, length-append}
use Rattle.osi_pair.proofs.words.added_and_cut_words_are_messages.{IsRest, Next, FrontOf, next_is, front_of, cut_behind, AreWords, wholes}
use Rattle.osi_pair.proofs.words.added_and_cut_words_are_messages.{put_words, MayLeave, leave_behind, appends}
use Rattle.osi_pair.proofs.flight.what_may_arrive_row_by_row.{Row, before, after}
use Rattle.osi_pair.proofs.flight.what_a_closing_receiver_has_dropped.{Sent, shuts, same_alike, alike_then, alike_row, alike_take}
use Rattle.osi_pair.proofs.flight.what_a_closing_receiver_has_dropped.{alike_more, first_alike, none_alike, kind_of, alike_kind}

-- ---- the same words

-- a statement about the receiver, given the octets of a Data that has begun
abbrev pub About : Type 1
About = Option (List ℕ) → Type 0

-- they are in flight to a taker that is this far, and whose session is this
pub as_now : (o q : Option EndReason) (g h : Progress) (c d : Bool) (H K : About) (x y : State) (ms : List Message) (xs ys : Sent) →
    (w : AreUnderWay o g c H x ms xs) → (d ≡ false → c ≡ false) → ((b : Option (List ℕ)) → H b → K b) → (StaysCalm x ms → StaysCalm y ms) →
    (q ≡ None → AreAlike h (map word_in w.words) ys) → AreUnderWay q h d K y ms ys
as_now o q g h c d H K x y ms xs ys w cut holds calms alike = grind arith

-- what is in flight is the same, and the session is
pub way_same : (o q : Option EndReason) (g k : Progress) (c d : Bool) (H K : About) (x : State) (ms : List Message) (xs ys : Sent) →
    (q ≡ None → o ≡ None) → k ≡ g → (d ≡ false → c ≡ false) → ((b : Option (List ℕ)) → H b → K b) → xs ≡ ys → AreUnderWay o g c H x ms xs →
    AreUnderWay q k d K x ms ys
way_same o q g k c d H K x ms xs ys lasts e cut holds f w = grind arith

-- nothing is
pub none_under_way : (q : Option EndReason) (g : Progress) (c : Bool) (H : About) (x : State) (xs : Sent) → H None →
    (q ≡ None → AreAlike g [] xs) → AreUnderWay q g c H x [] xs
none_under_way q g c H x xs held alike =
    record { words = []; begun = None; alike = alike; joined = refl; order = tt; finished = λ e. refl; calm = λ e. absurd e; held = held }

no_begun : {A : Type 0} (b : Option (List ℕ)) → b ≡ None → IsBegun b → A
no_begun b e h = grind arith

-- if the receiver has ended, the words in which messages are sent no longer matter
pub over_way : (q : Option EndReason) (g : Progress) (c : Bool) (H : About) (x : State) (ms : List Message) (xs : Sent) → H None →
    (q ≡ None → ⊥) → AreUnderWay q g c H x ms xs
over_way q g c H x ms xs held shut = grind (arith, no_begun, wholes ms)

-- ---- from the end that acts

words_of_puts : (puts : List Message) → map word_in (map whole puts) ≡ map message_in puts
words_of_puts [] = refl
words_of_puts (m ∷ puts) = ap (λ (l : Sent). message_in m ∷ l) (words_of_puts puts)

-- words after words
put_alike : (g : Progress) (words more : List Word) (stays put new : Sent) → AreAlike g (map word_in words) stays → new ≡ stays ++ put →
    map word_in more ≡ put → AreAlike g (map word_in (words ++ more)) new
put_alike g words more stays put new first after same =
    rw (map-append word_in words more, same, after) (alike_more g (map word_in words) stays put first)

-- those that stay
stays_alike : (g : Progress) (xs old stays gone : Sent) → AreAlike g xs old → old ≡ stays ++ gone → gone ≡ [] → AreAlike g xs stays
stays_alike g xs old stays gone h before none =
    subst (AreAlike g xs) (before ∙ ap (λ (l : Sent). stays ++ l) none ∙ append-nil stays) h

-- nothing of it is lost, and something is put after it, unless what is in flight was cut
pub out_puts : (o : Option EndReason) (p : Place) (c d : Bool) (H : About) (x : State) (ms puts : List Message) (more : List Word)
    (old new stays gone put : Sent) → AreUnderWay o (progress_of p) c H x ms old → AreWords more puts → (c ≡ false) ⊎ (more ≡ []) →
    (d ≡ false → c ≡ false) → old ≡ stays ++ gone → new ≡ stays ++ put → gone ≡ [] →
    map word_in more ≡ put → AreUnderWay o (progress_of p) d H x (ms ++ puts) new
out_puts o p c d H x ms puts more old new stays gone put w are spare cut before after none same =
    let first : o ≡ None → AreAlike (progress_of p) (map word_in w.words) stays =
    λ e. stays_alike (progress_of p) (map word_in w.words) old stays gone (w.alike e) before none in
    elim spare [
      | inl uncut ↦ grind (arith, put_alike, no_begun, put_words w.begun w.words more puts w.order (w.finished uncut) are, w.finished uncut)
      | inr nothing ↦ (grind (arith, after, map, append-nil, as_now))
    ]

-- messages that go by themselves
pub out_keeps : (o : Option EndReason) (p : Place) (c d : Bool) (H : About) (x : State) (ms puts : List Message)
    (old new stays gone put : Sent) → AreUnderWay o (progress_of p) c H x ms old → (c ≡ false) ⊎ (puts ≡ []) → (d ≡ false → c ≡ false) →
    old ≡ stays ++ gone → new ≡ stays ++ put → gone ≡ [] → map message_in puts ≡ put → AreUnderWay o (progress_of p) d H x (ms ++ puts) new
out_keeps o p c d H x ms puts old new stays gone put w spare cut before after none same =
    out_puts o p c d H x ms puts (map whole puts) old new stays gone put w (wholes puts) (grind arith) cut before after none
    (words_of_puts puts ∙ same)

-- ---- the last of it is lost

-- A session of the tables with these messages in flight to it: data is no fault after the messages before it; and the
-- session is over if its peer has left.
pub record Takes (x : State) (ms : List Message) : Type 0 where
  pub behind : IsNoFaultBehind x ms
  pub left : IsOverWhenLeft x ms

front_calm : (x : State) (left : Option (List ℕ)) (ms all : List Message) → Takes x all → (IsBegun left → StaysCalm x all) →
    FrontOf left ms all → StaysCalm x ms
front_calm x left ms all takes calm h = grind (arith, over_calm)

-- this many messages are left
pub record Left (o : Option EndReason) (g : Progress) (d : Bool) (H : About) (x : State) (ms puts : List Message)
    (new : Sent) : Type 0 where
  pub keep : ℕ
  pub way : AreUnderWay o g d H x (take keep ms ++ puts) new

pub record Front (o : Option EndReason) (g : Progress) (d : Bool) (H : About) (x : State) (ms : List Message) (new : Sent) : Type 0 where
  pub keep : ℕ
  pub fits : keep ≤ length ms
  pub way : AreUnderWay o g d H x (take keep ms) new

-- and will be cut
pub front_at : (o q : Option EndReason) (g h : Progress) (c d : Bool) (H : About) (x : State) (ms : List Message) (k : ℕ) (old new : Sent) →
    (w : AreUnderWay o g c H x ms old) → Takes x ms → d ≡ true → (q ≡ None → AreAlike h (map word_in (take k w.words)) new) →
    Front q h d H x ms new
front_at o q g h c d H x ms k old new w takes cut alike =
    let kept = take k w.words in
    let gone = drop k w.words in
    let parts : kept ++ gone ≡ w.words = take-append-drop k w.words in
    let order : AreInOrder w.begun (kept ++ gone) = subst (AreInOrder w.begun) (sym parts) w.order in
    let all : joins w.begun (kept ++ gone) ≡ ms = ap (joins w.begun) parts ∙ w.joined in
    let y = cut_behind w.begun kept gone order in
    let left : take (length (joins w.begun kept)) ms ≡ joins w.begun kept = ap (take (length (joins w.begun kept))) (sym all) ∙ y.0 in
    record {
      keep = length (joins w.begun kept);
      fits = subst (λ (l : List Message). length (joins w.begun kept) ≤ length l) all
          (grind (arith, (appends w.begun kept gone).joins, length-append));
      way = record {
        words = kept;
        begun = w.begun;
        alike = alike;
        joined = sym left;
        order = y.1;
        finished = λ e. (let no : true ≡ false = sym cut ∙ e in cc);
        calm = λ some. subst (StaysCalm x) (sym left)
            (front_calm x (left_of w.begun (kept ++ gone)) (joins w.begun kept) (joins w.begun (kept ++ gone))
            (subst (Takes x) (sym all) takes)
            (λ begins. subst (StaysCalm x) (sym all) (w.calm (subst (λ (l : List Word). IsBegun (left_of w.begun l)) parts begins)))
            (front_of w.begun kept gone order some));
        held = w.held;
      };
    }

-- its sender leaves, which is put after
leave_at : (o : Option EndReason) (p : Place) (c d : Bool) (H : About) (x : State) (ms : List Message) (m : Message) (k : ℕ)
    (old new stays put : Sent) → (w : AreUnderWay o (progress_of p) c H x ms old) → MayLeave m →
    (o ≡ None → AreAlike (progress_of p) (map word_in (take k w.words)) stays) → new ≡ stays ++ put →
    message_in m ∷ [] ≡ put → Left o (progress_of p) d H x ms (m ∷ []) new
leave_at o p c d H x ms m k old new stays put w goes first now_is same =
    let kept = take k w.words in
    let gone = drop k w.words in
    let parts : kept ++ gone ≡ w.words = take-append-drop k w.words in
    grind (arith, put_alike, no_begun, leave_behind w.begun kept gone m (subst (AreInOrder w.begun) (sym parts) w.order) goes)

-- what is put if the sender leaves: a message of that kind, or nothing if what is in flight was cut
pub record IsLeave (puts : List Message) : Type 0 where
  pub m : Message
  pub is : puts ≡ m ∷ []
  pub leaves : MayLeave m

pub out_cuts : (o : Option EndReason) (p : Place) (c d : Bool) (H : About) (x : State) (ms puts : List Message)
    (old new stays gone put : Sent) → AreUnderWay o (progress_of p) c H x ms old → Takes x ms → IsLeave puts ⊎ ((d ≡ true) × (puts ≡ [])) →
    old ≡ stays ++ gone → new ≡ stays ++ put → map message_in puts ≡ put → Left o (progress_of p) d H x ms puts new
out_cuts o p c d H x ms puts old new stays gone put w takes which before after same =
    let k = length stays in
    let first : o ≡ None → AreAlike (progress_of p) (map word_in (take k w.words)) stays =
    λ e. subst (λ (l : Sent). AreAlike (progress_of p) l stays) (take-map word_in k w.words)
    (alike_take (progress_of p) (map word_in w.words) stays gone
    (subst (AreAlike (progress_of p) (map word_in w.words)) before (w.alike e))) in
    elim which [
      | inl leave ↦ subst (λ (l : List Message). Left o (progress_of p) d H x ms l new) (sym leave.is)
          (leave_at o p c d H x ms leave.m k old new stays put w leave.leaves first after (sym (ap (map message_in) leave.is) ∙ same))
      | inr nothing ↦
          let left : stays ++ put ≡ stays =
          ap (λ (l : Sent). stays ++ l) (sym (sym (ap (map message_in) nothing.1) ∙ same)) ∙ append-nil stays in
          let y = front_at o o (progress_of p) (progress_of p) c d H x ms k old new w takes nothing.0
          (λ e. subst (AreAlike (progress_of p) (map word_in (take k w.words))) (sym (after ∙ left)) (first e)) in
          grind (arith, append-nil (take y.keep ms))
    ]

-- ---- to the end that acts

-- the first of them
record SplitWords (g h : Progress) (words : List Word) (m : carrier.Message) (rest : Sent) : Type 0 where
  first : Word
  others : List Word
  parts : words ≡ first ∷ others
  is : AreAlike g (word_in first ∷ []) (m ∷ [])
  stays : AreAlike h (map word_in others) rest

split : (g h : Progress) (ms : List Word) (m : carrier.Message) (rest : Sent) → AreAlike g (map word_in ms) (m ∷ rest) →
    SplitWords g h ms m rest
split g h [] m rest k = absurd (none_alike g m rest k)
split g h (x ∷ ms) m rest k =
    let y = first_alike g (word_in x) (map word_in ms) m rest k in
    record { first = x; others = ms; parts = refl; is = y.is; stays = same_alike h (map word_in ms) rest y.stays }

-- the way after it, if this has begun, to a session with this state
abbrev pub BehindFirst : Progress → Bool → Option (List ℕ) → State → List Message → Sent → Type 0
BehindFirst h d begun x ms rest = AreUnderWay None h d (λ b. b ≡ begun) x ms rest

-- a message comes by itself
pub record IsAlone (g : Progress) (H : About) (first : Message) (m : carrier.Message) : Type 0 where
  pub is : AreAlike g (message_in first ∷ []) (m ∷ [])
  pub held : is_leaving first ≡ false → H None

-- or its last part does
pub record IsLast (g : Progress) (H : About) (first : Message) (m : carrier.Message) : Type 0 where
  pub front : List ℕ
  pub last : List ℕ
  pub first_is : first ≡ unit (DT (front ++ last))
  pub is : AreAlike g (carrier.message (part_octets Last last) ∷ []) (m ∷ [])
  pub short : length (front ++ last) ≤ most_data
  pub held : H (Some front)

-- a message comes first
pub record Split (g h : Progress) (d : Bool) (H : About) (x : State) (ms : List Message) (m : carrier.Message) (rest : Sent) : Type 0 where
  pub first : Message
  pub others : List Message
  pub parts : ms ≡ first ∷ others
  pub kind : kind_of (message_in first) ≡ kind_of m
  pub how : IsAlone g H first m ⊎ IsLast g H first m
  pub stays : BehindFirst h d None (after_message x first) others rest

-- a part that begins a Data, or continues one
pub record Begins (H : About) (place : PartPlace) (octets now : List ℕ) : Type 0 where
  pub place_is : place ≡ First
  pub now_is : now ≡ octets
  pub held : H None

pub record GoesOn (H : About) (place : PartPlace) (octets now : List ℕ) : Type 0 where
  pub place_is : place ≡ Middle
  pub front : List ℕ
  pub now_is : now ≡ front ++ octets
  pub held : H (Some front)

-- the Data to which an arriving part belongs: its rest follows; or its sender has left; or the rest was cut off, and
-- data is no fault
abbrev pub NextOf : State → List ℕ → List Message → Type 0
NextOf x now ms = IsRest now ms ⊎ ((list_any is_leaving ms ≡ true) ⊎ IsCalm x)

-- or such a part does: the messages stay
pub record PartFirst (g h : Progress) (d : Bool) (H : About) (x : State) (ms : List Message) (m : carrier.Message)
    (rest : Sent) : Type 0 where
  pub place : PartPlace
  pub octets : List ℕ
  pub is : AreAlike g (carrier.message (part_octets place octets) ∷ []) (m ∷ [])
  pub now : List ℕ
  pub short : length now ≤ most_data
  pub how : Begins H place octets now ⊎ GoesOn H place octets now
  pub stays : BehindFirst h d (Some now) x ms rest
  pub next : NextOf x now ms

abbrev pub Comes : Progress → Progress → Bool → About → State → List Message → carrier.Message → Sent → Type 0
Comes g h d H x ms m rest = Split g h d H x ms m rest ⊎ PartFirst g h d H x ms m rest

next_of : (x : State) (now : List ℕ) (left : Option (List ℕ)) (ms : List Message) → (IsBegun left → StaysCalm x ms) → Next now left ms →
    NextOf x now ms
next_of x now left ms calm (inl r) = inl r
next_of x now left ms calm (inr (inl away)) = inr (inl away)
next_of x now left ms calm (inr (inr c)) = inr (inr (subst (StaysCalm x) c.none (calm c.begins) [] tt))

part_next : (x : State) (now : List ℕ) (words : List Word) (ms : List Message) → joins (Some now) words ≡ ms → AreInOrder (Some now) words →
    (IsBegun (left_of (Some now) words) → StaysCalm x ms) → NextOf x now ms
part_next x now words ms joined order calm =
    next_of x now (left_of (Some now) words) ms calm (subst (Next now (left_of (Some now) words)) joined (next_is now words order))

-- a message comes first, and no part of a Data is left over
whole_comes : (g h : Progress) (d : Bool) (H : About) (x : State) (ms : List Message) (m : carrier.Message) (rest : Sent) (first : Message)
    (others : List Word) → first ∷ joins None others ≡ ms → kind_of (message_in first) ≡ kind_of m →
    IsAlone g H first m ⊎ IsLast g H first m → AreAlike h (map word_in others) rest → AreInOrder None others →
    (d ≡ false → left_of None others ≡ None) → (IsBegun (left_of None others) → StaysCalm x ms) → Comes g h d H x ms m rest
whole_comes g h d H x ms m rest first others joined kind how stays order finished calm = inl (record {
  first = first;
  others = joins None others;
  parts = sym joined;
  kind = kind;
  how = how;
  stays = record {
    words = others;
    begun = None;
    alike = λ e. stays;
    joined = refl;
    order = order;
    finished = finished;
    calm = λ some. (subst (StaysCalm x) (sym joined) (calm some) [] tt);
    held = refl;
  };
})

split_way : (g h : Progress) (d : Bool) (H : About) (x : State) (ms : List Message) (m : carrier.Message) (rest : Sent)
    (begun : Option (List ℕ)) (first : Word) (others : List Word) → AreAlike g (word_in first ∷ []) (m ∷ []) →
    AreAlike h (map word_in others) rest → joins begun (first ∷ others) ≡ ms → AreInOrder begun (first ∷ others) →
    (d ≡ false → left_of begun (first ∷ others) ≡ None) → (IsBegun (left_of begun (first ∷ others)) → StaysCalm x ms) → H begun →
    Comes g h d H x ms m rest
split_way g h d H x ms m rest begun (whole first) others is stays joined order finished calm held =
    whole_comes g h d H x ms m rest first others joined (alike_kind g (message_in first) m is)
    (inl (record { is = is; held = λ e. subst H (grind arith) held })) stays order.1 finished calm
split_way g h d H x ms m rest begun (part First o) others is stays joined order finished calm held = search (arith, part_next)
split_way g h d H x ms m rest (Some b) (part Middle o) others is stays joined order finished calm held =
    search (arith, part_next x (b ++ o) others ms joined order.2 calm)
split_way g h d H x ms m rest (Some b) (part Last o) others is stays joined order finished calm held =
    whole_comes g h d H x ms m rest (unit (DT (b ++ o))) others joined (alike_kind g (carrier.message (part_octets Last o)) m is)
    (inr (record { front = b; last = o; first_is = refl; is = is; short = order.1; held = held })) stays order.2 finished calm
split_way g h d H x ms m rest begun first others is stays joined order finished calm held = grind arith

-- a message that is no TSDU comes by itself
abbrev pub is_tsdu : carrier.Message → Bool
is_tsdu (carrier.message octets) = true
is_tsdu m = false

pub no_part : (g : Progress) (octets : List ℕ) (m : carrier.Message) → is_tsdu m ≡ false →
    AreAlike g (carrier.message octets ∷ []) (m ∷ []) → ⊥
no_part g octets m e is = by m e (alike_kind g (carrier.message octets) m is)
  where
    by : (m : carrier.Message) → is_tsdu m ≡ false → carrier.message [] ≡ kind_of m → ⊥
    by (carrier.message rest) e kind = cc
    by m e kind = cc

pub record Alone (g h : Progress) (d : Bool) (H : About) (x : State) (ms : List Message) (m : carrier.Message) (rest : Sent) : Type 0 where
  pub first : Message
  pub others : List Message
  pub parts : ms ≡ first ∷ others
  pub kind : kind_of (message_in first) ≡ kind_of m
  pub alone : IsAlone g H first m
  pub stays : BehindFirst h d None (after_message x first) others rest

pub alone_of : (g h : Progress) (d : Bool) (H : About) (x : State) (ms : List Message) (m : carrier.Message) (rest : Sent) →
    is_tsdu m ≡ false → Comes g h d H x ms m rest → Alone g h d H x ms m rest
alone_of g h d H x ms m rest e h2 = search (arith, no_part)

-- a message arrived
comes_first : (row : Row) (old new : Place) (words : List Word) (m : carrier.Message) (ys rest : Sent) → progress_of old ≡ before row →
    progress_of new ≡ after row → AreAlike (progress_of old) (map word_in words) ys → AreLike (connection_in new) ys (m ∷ rest) →
    SplitWords (before row) (after row) words m rest
comes_first row old new ms m ys rest e f h k =
    split (before row) (after row) ms m rest (alike_row row old new (map word_in ms) ys (m ∷ rest) e f h k)

pub back_comes : (row : Row) (o : Option EndReason) (old new : Place) (c d : Bool) (H : About) (x : State) (ms : List Message)
    (m : carrier.Message) (ys rest : Sent) → progress_of old ≡ before row → progress_of new ≡ after row →
    AreUnderWay o (progress_of old) c H x ms ys → o ≡ None → (d ≡ false → c ≡ false) → AreLike (connection_in new) ys (m ∷ rest) →
    Comes (before row) (after row) d H x ms m rest
back_comes row o old new c d H x ms m ys rest e f w lasts cut k =
    let s = comes_first row old new w.words m ys rest e f (w.alike lasts) k in
    split_way (before row) (after row) d H x ms m rest w.begun s.first s.others s.is s.stays (sym (ap (joins w.begun) s.parts) ∙ w.joined)
    (subst (AreInOrder w.begun) s.parts w.order)
    (λ z. sym (ap (left_of w.begun) s.parts) ∙ w.finished (cut z))
    (λ some. w.calm (subst (λ (l : List Word). IsBegun (left_of w.begun l)) (sym s.parts) some)) w.held

-- nothing did
pub back_waits : (o q : Option EndReason) (g : Progress) (new : Place) (c d : Bool) (H K : About) (x : State) (ms : List Message)
    (ys zs : Sent) → (shuts g ≡ true → shuts (progress_of new) ≡ true) → AreUnderWay o g c H x ms ys → o ≡ None → (d ≡ false → c ≡ false) →
    ((b : Option (List ℕ)) → H b → K b) → AreLike (connection_in new) ys zs → AreUnderWay q (progress_of new) d K x ms zs
back_waits o q g new c d H K x ms ys zs shut w lasts cut holds k =
    as_now o q g (progress_of new) c d H K x x ms ys zs w cut holds (λ calm. calm)
    (λ e. alike_then g new (map word_in w.words) ys zs shut (w.alike lasts) k)
