-- What is in flight for a connection, after each unit that one of its two carriers takes and after each call.
-- For connections of class 2 and class 0.
use Rattle.osi_between.specs.Meeting.{Carries}
use Rattle.osi_between.proofs.Vocabulary.{◌≡◌, ℕ, ◌<◌, true, List, [], ◌∷◌, ◌++◌, map, take, Some, None, refl, sym, ap, ◌∙◌, arith}
use Rattle.osi_between.proofs.Vocabulary.{append_assoc, flat_map, append-nil, map-append, Value, data0, disconnected, LinkPair, swapped}
use Rattle.osi_between.proofs.Vocabulary.{parts_under_way, under_way, under_way_before, fresh_ends, all_given, Joining, Standing, Given}
use Rattle.osi_between.proofs.Vocabulary.{unit_of, with_tsdu, zero_standing, tsdus_after, uncut, drained_leaves, Happening, tsdu, closed}
use Rattle.osi_between.proofs.Vocabulary.{pumped, handed_out, Meeting, talking, left_here, left_there, left_both, waiting_there, addressed}
use Rattle.osi_between.proofs.Vocabulary.{leaving, told_open, messages_out, Message, message, bye, over, parting, messages_after}
use Rattle.osi_between.proofs.Vocabulary.{uncut_units, AreOpen, links, LeftTakes, after_take, after_send, Bool, Passes, Option}
use Rattle.osi_between.proofs.Vocabulary.{AreLast, HasWholeTsdus, append_cancel_left}
use Rattle.osi_between.proofs.unit.units_are_read_as_messages.{tsdu_messages, messages_behind, messages_front, messages_part}
use Rattle.osi_between.proofs.unit.units_are_read_as_messages.{begun_after, begun_last, lacks_begun}
use Rattle.osi_between.proofs.link.a_call_is_turns_of_two_links.{turned_any, turned_any_back, turned_take, turned_send, Turned}

-- ---- lists of messages

pub parting_is : (n reason : ℕ) → 0 < n → parting n reason ≡ bye reason
parting_is n reason some = grind arith

pub told_tsdus : (n : ℕ) (ts : List (List ℕ)) → map (tsdu n) ts ≡ flat_map (told_open n) (map message ts)
told_tsdus n [] = refl
told_tsdus n (t ∷ ts) = ap (λ (l : List Happening). tsdu n t ∷ l) (told_tsdus n ts)

pub told_nothing : (ms : List Message) (f : Message → List Happening) → ((m : Message) → f m ≡ []) → [] ≡ flat_map f ms
told_nothing [] f none = refl
told_nothing (m ∷ ms) f none = told_nothing ms f none ∙ ap (λ (l : List Happening). l ++ flat_map f ms) (sym (none m))

-- the octets of the first message
abbrev octets_first : List Message → List ℕ
octets_first (message octets ∷ ms) = octets
octets_first ms = []

-- ---- links

-- what is in flight between two links, as messages
pub under_way_is : (p : LinkPair) (later : List (List ℕ)) → p.right.ends.joining.whole ≡ [] →
    under_way_before p later ≡ tsdus_after p.right.ends.joining.begun (parts_under_way p.rightward ++ uncut (p.left.ends.unsent ++ later))
under_way_is p later e = grind arith

pub pair_before : (n : ℕ) (p : LinkPair) (later : List (List ℕ)) → p.right.ends.joining.whole ≡ [] →
    messages_after p.right.ends.joining.begun (addressed n p.rightward ++ uncut_units (p.left.ends.unsent ++ later)) ≡ map message
    (under_way_before p later)
pair_before n p later e = search (arith, tsdu_messages, under_way_is)

pub pair_messages : (n : ℕ) (p : LinkPair) → p.right.ends.joining.whole ≡ [] →
    messages_after p.right.ends.joining.begun (addressed n p.rightward ++ uncut_units p.left.ends.unsent) ≡ map message (under_way p)
pair_messages n p e = grind (arith, append-nil p.left.ends.unsent, pair_before n p [] e)

-- if each TSDU in flight is whole, none is begun by the units and by what is unsent
pub whole_begun : (n : ℕ) (p : LinkPair) → p.right.ends.joining.whole ≡ [] → HasWholeTsdus p →
    begun_after p.right.ends.joining.begun (addressed n p.rightward ++ uncut_units p.left.ends.unsent) ≡ []
whole_begun n p e whole =
    let begun = p.right.ends.joining.begun in
    let unsent = p.left.ends.unsent in
    let us = addressed n p.rightward ++ uncut_units unsent in
    let parts : addressed n p.rightward ++ uncut_units (unsent ++ [] ∷ []) ≡ us ++ data0 true [] ∷ [] =
    ap (λ (l : List Value). addressed n p.rightward ++ l) (map-append (data0 true) unsent ([] ∷ []))
    ∙ sym (append_assoc (addressed n p.rightward) (uncut_units unsent) (data0 true [] ∷ [])) in
    let one : messages_after begun us ++ message (begun_after begun us ++ []) ∷ [] ≡ messages_after begun us ++ message [] ∷ [] =
    sym (messages_part us begun (data0 true [] ∷ [])) ∙ ap (messages_after begun) (sym parts) ∙ pair_before n p ([] ∷ []) e
    ∙ ap (map message) (whole ([] ∷ [])) ∙ map-append message (under_way p) ([] ∷ [])
    ∙ ap (λ (l : List Message). l ++ message [] ∷ []) (sym (pair_messages n p e)) in
    let last = append_cancel_left (messages_after begun us) (message (begun_after begun us ++ []) ∷ []) (message [] ∷ []) one in
    sym (append-nil (begun_after begun us)) ∙ ap octets_first last

-- a link with nothing to send, which has taken nothing
abbrev pub bare : Standing
bare = zero_standing (fresh_ends 0)

-- ---- both talk

-- what passes between two links when TSDUs are handed in here and handed out here
abbrev pub pair_carries : (n : ℕ) (p q : LinkPair) (ins outs : List (List ℕ)) → p.left.ends.joining.whole ≡ [] →
    p.right.ends.joining.whole ≡ [] → q.left.ends.joining.whole ≡ [] → q.right.ends.joining.whole ≡ [] →
    under_way p ++ ins ≡ under_way q → under_way (swapped p) ≡ outs ++ under_way (swapped q) →
    Carries n (talking p) (talking q) (map (tsdu n) outs) (map message ins)
pair_carries n p q ins outs left right left_then right_then rightward leftward = record {
  arrived = map message outs;
  stays = messages_out n (talking p);
  lost = [];
  told = told_tsdus n outs;
  leftward = pair_messages n (swapped p) left ∙ ap (map message) leftward ∙ map-append message outs (under_way (swapped q))
      ∙ ap (λ (l : List Message). map message outs ++ l) (sym (pair_messages n (swapped q) left_then));
  before = sym (append-nil (messages_out n (talking p)));
  after = pair_messages n q right_then ∙ ap (map message) (sym rightward) ∙ map-append message (under_way p) ins
      ∙ ap (λ (l : List Message). l ++ map message ins) (sym (pair_messages n p right));
}

abbrev pub talking_carries : (two : Bool) (n : ℕ) (p q : LinkPair) (ins outs : List (List ℕ)) → AreOpen two p → Passes two p q ins outs →
    Carries n (talking p) (talking q) (map (tsdu n) outs) (map message ins)
talking_carries two n p q ins outs a passes =
    pair_carries n p q ins outs a.left.handed a.right.handed passes.stay_open.left.handed passes.stay_open.right.handed
    passes.rightward passes.leftward

-- units of which nothing is unsent
pub alone : (begun : List ℕ) (us : List Value) → messages_after begun (us ++ uncut_units []) ≡ messages_after begun us
alone begun us = ap (messages_after begun) (append-nil us)

-- a DR after units
pub behind_leaving : (n : ℕ) (us : List Value) (reason : ℕ) (begun : List ℕ) → 0 < n →
    messages_after begun ((us ++ leaving n reason ∷ []) ++ uncut_units []) ≡ messages_after begun us ++ bye reason ∷ []
behind_leaving n us reason begun some = grind (arith, alone, messages_behind, parting_is)

pub behind_over : (n : ℕ) (us : List Value) (begun : List ℕ) →
    messages_after begun ((us ++ disconnected n n ∷ []) ++ uncut_units []) ≡ messages_after begun us ++ over ∷ []
behind_over n us begun = grind (arith, alone, messages_behind)

-- ---- the other has closed

-- what comes of units comes of them too if a DR follows
pub before_leaving : (n reason : ℕ) (us vs : List Value) (begun next : List ℕ) (got : List Message) → 0 < n →
    messages_after begun (us ++ uncut_units []) ≡ got ++ messages_after next (vs ++ uncut_units []) →
    messages_after begun ((us ++ leaving n reason ∷ []) ++ []) ≡ got ++ messages_after next ((vs ++ leaving n reason ∷ []) ++ [])
before_leaving n reason us vs begun next got some e = grind (arith, alone, behind_leaving, append_assoc)

-- A connection that is open here, and there too unless it was closed there with this reason; then these units are in
-- flight to there and ignored.
abbrev pub open_here : LinkPair → Option ℕ → List Given → Meeting
open_here p None hs = talking p
open_here p (Some reason) hs = left_there p hs reason

-- these units are the last of those that would be in flight to there, if none had been ignored
abbrev pub IsBehind : LinkPair → Option ℕ → List Given → Type 0
IsBehind p None hs = Unit {0}
IsBehind p (Some reason) hs = AreLast hs p.rightward

-- the same, closed here too
abbrev pub closed_here : LinkPair → Option ℕ → List Given → ℕ → Meeting
closed_here p None hs reason = left_here p p.leftward reason
closed_here p (Some other) hs reason = left_both hs reason p.leftward other

abbrev pub open_takes : (n : ℕ) (p : LinkPair) (why : Option ℕ) (hs : List Given) (g : Given) (gs : List Given) → 0 < n → AreOpen true p →
    p.leftward ≡ g ∷ gs → (t : LeftTakes true p (unit_of n g) gs) →
    Carries n (open_here p why hs) (open_here (after_take p t.link gs) why (hs ++ all_given (handed_out t.link)))
    (map (tsdu n) (take 1 t.link.ends.joining.whole)) []
open_takes n p None hs g gs some a e t =
    talking_carries true n p (after_take p t.link gs) [] (take 1 t.link.ends.joining.whole) a t.passes
open_takes n p (Some reason) hs g gs some a e t =
    let q = after_take p t.link gs in
    let given = all_given (handed_out t.link) in
    let got = take 1 t.link.ends.joining.whole in
    let v = links p.left hs bare p.leftward in
    let w = links q.left (hs ++ given) bare gs in
    let turned : Turned v w [] got = rw e (turned_take p.left t.link bare hs g gs n t.taken) in
    let c = pair_carries n v w [] got a.left.handed refl t.passes.stay_open.left.handed refl
    (append-nil (under_way v) ∙ turned_any v w [] got turned) (turned_any_back v w [] got turned) in
    record {
      arrived = c.arrived;
      stays = c.stays;
      lost = c.lost;
      told = c.told;
      leftward = before_leaving n reason (addressed n p.leftward) (addressed n gs) p.left.ends.joining.begun q.left.ends.joining.begun
          c.arrived some c.leftward;
      before = c.before;
      after = c.after;
    }

-- If units are the last of those in flight to there, no TSDU is begun by these and by what is unsent.
pub last_whole : (n : ℕ) (p : LinkPair) (hs : List Given) → AreOpen true p → AreLast hs p.rightward →
    begun_after [] (addressed n hs ++ uncut_units p.left.ends.unsent) ≡ []
last_whole n p hs a last =
    let begun = p.right.ends.joining.begun in
    let unsent = uncut_units p.left.ends.unsent in
    let us = addressed n p.rightward ++ unsent in
    let parts : us ≡ addressed n last.ignored ++ (addressed n hs ++ unsent) =
    ap (λ (gs : List Given). addressed n gs ++ unsent) last.is
    ∙ ap (λ (l : List Value). l ++ unsent) (map-append (unit_of n) last.ignored hs)
    ∙ append_assoc (addressed n last.ignored) (addressed n hs) unsent in
    begun_last (addressed n last.ignored) (addressed n hs ++ unsent) begun
    (ap (begun_after begun) (sym parts) ∙ whole_begun n p a.right.handed a.whole)

abbrev pub open_sends : (n : ℕ) (p : LinkPair) (why : Option ℕ) (hs : List Given) (octets : List ℕ) → AreOpen true p →
    IsBehind p why hs → Passes true p (after_send p octets) (octets ∷ []) [] →
    Carries n (open_here p why hs) (open_here (after_send p octets) why (hs ++ all_given (with_tsdu p.left octets))) []
    (message octets ∷ [])
open_sends n p None hs octets a last passes = talking_carries true n p (after_send p octets) (octets ∷ []) [] a passes
open_sends n p (Some reason) hs octets a last passes =
    let link = pumped (with_tsdu p.left octets) in
    let given = all_given (with_tsdu p.left octets) in
    let v = links p.left hs bare p.leftward in
    let w = links link (hs ++ given) bare p.leftward in
    let turned = turned_send p.left bare hs p.leftward octets in
    let us = addressed n hs in
    let unsent = p.left.ends.unsent in
    let same : messages_after [] (addressed n (hs ++ given) ++ uncut_units link.ends.unsent) ≡ messages_after []
    (us ++ uncut_units (unsent ++ octets ∷ [])) =
    pair_messages n w refl ∙ ap (map message) (sym (turned_any v w (octets ∷ []) [] turned)) ∙ sym (pair_before n v (octets ∷ []) refl) in
    let parts : us ++ uncut_units (unsent ++ octets ∷ []) ≡ (us ++ uncut_units unsent) ++ data0 true octets ∷ [] =
    ap (λ (l : List Value). us ++ l) (map-append (data0 true) unsent (octets ∷ []))
    ∙ sym (append_assoc us (uncut_units unsent) (data0 true octets ∷ [])) in
    record {
      arrived = [];
      stays = messages_out n (left_there p hs reason);
      lost = [];
      told = refl;
      leftward = ap (λ (j : Joining). messages_after j.begun ((addressed n p.leftward ++ leaving n reason ∷ []) ++ []))
          (sym (drained_leaves (with_tsdu p.left octets)).1);
      before = sym (append-nil (messages_out n (left_there p hs reason)));
      after = same ∙ ap (messages_after []) parts ∙ messages_part (us ++ uncut_units unsent) [] (data0 true octets ∷ [])
          ∙ ap (λ (b : List ℕ). messages_after [] (us ++ uncut_units unsent) ++ message (b ++ octets) ∷ []) (last_whole n p hs a last);
    }

abbrev pub open_closes : (n : ℕ) (p : LinkPair) (why : Option ℕ) (hs : List Given) (reason : ℕ) → 0 < n →
    Carries n (open_here p why hs) (closed_here p why hs reason) [] (bye reason ∷ [])
open_closes n p None hs reason some =
    let us = addressed n p.rightward in
    let begun = p.right.ends.joining.begun in
    let front = messages_front us begun (uncut_units p.left.ends.unsent) in
    record {
      arrived = [];
      stays = messages_after begun us;
      lost = front.0;
      told = refl;
      leftward = lacks_begun (addressed n p.leftward ++ uncut_units p.right.ends.unsent) p.left.ends.joining.begun;
      before = front.1;
      after = behind_leaving n us reason begun some;
    }
open_closes n p (Some other) hs reason some =
    let front = messages_front (addressed n hs) [] (uncut_units p.left.ends.unsent) in
    record {
      arrived = [];
      stays = messages_after [] (addressed n hs);
      lost = front.0;
      told = refl;
      leftward = lacks_begun ((addressed n p.leftward ++ leaving n other ∷ []) ++ []) p.left.ends.joining.begun;
      before = front.1;
      after = behind_leaving n (addressed n hs) reason [] some;
    }

abbrev pub leaving_takes : (n : ℕ) (p : LinkPair) (hs : List Given) (reason : ℕ) → 0 < n → p.leftward ≡ [] →
    Carries n (left_there p hs reason) (waiting_there hs None) (closed n reason ∷ []) (over ∷ [])
leaving_takes n p hs reason some e =
    let front = messages_front (addressed n hs) [] (uncut_units p.left.ends.unsent) in
    record {
      arrived = bye reason ∷ [];
      stays = messages_after [] (addressed n hs);
      lost = front.0;
      told = refl;
      leftward = ap (λ (us : List Given). messages_after p.left.ends.joining.begun ((addressed n us ++ leaving n reason ∷ []) ++ [])) e
          ∙ behind_leaving n [] reason p.left.ends.joining.begun some;
      before = front.1;
      after = behind_over n (addressed n hs) [];
    }
