-- What a capture shows of a session as packets of both sides begin and pass, and as the end does
-- more. For the law on a connection of an end and a judge.
use Rattle.osi_blameless.proofs.Vocabulary.{[], ap, append_assoc, arith, Bool, false, length, List, map, None, Option, refl, Some, subst}
use Rattle.osi_blameless.proofs.Vocabulary.{sym}
use Rattle.osi_blameless.proofs.Vocabulary.{true, ℕ, ◌++◌, ◌+◌, ◌<◌, ◌^◌, ◌∙◌, ◌∷◌, ◌≡◌, ◌≤◌, flat_map-append, append-nil, length-append}
use Rattle.osi_blameless.proofs.Vocabulary.{length-map, map-append, AllByRecursion, offset_of, Value, parts_in, tsdus_out, unit_parts, Part}
use Rattle.osi_blameless.proofs.Vocabulary.{tsdus, End, other, Direction, said_more, units_came, Deeds, said_in, then_did, ends_whole, adds}
use Rattle.osi_blameless.proofs.Vocabulary.{adds_all, adds_if, Joined, reference_of, spoken, user_of, added, Begun, begun_before, heard}
use Rattle.osi_blameless.proofs.Vocabulary.{octets_of, Spoken, fits, kept_on, Room, All, all_before, AreAfter, before_begun, before_of}
use Rattle.osi_blameless.proofs.Vocabulary.{calls_from, IsJoinedFrom, IsShownNow, left_over, parts_of, with_next, Said}
use Rattle.osi_blameless.specs.ends.Courses.{Course}
use Rattle.osi_judge.specs.Connections.{packet_begins}
use Rattle.osi_judge.specs.Lines.{begins}
use Rattle.osi_blameless.proofs.small_facts_that_many_lemmas_use.{all_front, all_join}
use Rattle.osi_blameless.proofs.shown.a_session_that_is_shown_is_not_to_blame.{tsdus_more}
use Rattle.osi_blameless.proofs.shown.how_many_tsdus_were_begun.{all_taken_by, begun_within, ends_more, left_more, one_if}

-- ---- what holds of all numbers of a list

all_up_to : (m n : ℕ) (xs : List ℕ) → m ≤ n → AllByRecursion (λ x. x ≤ m) xs → AllByRecursion (λ x. x ≤ n) xs
all_up_to m n [] l a = tt
all_up_to m n (x ∷ xs) l a = (let h : x ≤ m = a.0 in omega (arith, h, l), all_up_to m n xs l a.1)

-- ---- after what a session had taken

after_more : (ns : List ℕ) (said more : List Said) → AreAfter ns said → AreAfter ns (said ++ more)
after_more [] said more a = tt
after_more (n ∷ ns) [] more a = absurd a
after_more (n ∷ ns) (s ∷ said) more a = (a.0, after_more ns said more a.1)

-- one more TSDU, which the session had said when it had taken so many at most
after_next : (ns : List ℕ) (n : ℕ) (said : List Said) → AreAfter ns said → length ns < length said →
    AllByRecursion (λ (s : Said). s.taken ≤ n) said → AreAfter (ns ++ n ∷ []) said
after_next [] n [] a l t = absurd (omega (arith, l))
after_next [] n (s ∷ said) a l t = (t.0, tt)
after_next (m ∷ ns) n [] a l t = absurd a
after_next (m ∷ ns) n (s ∷ said) a l t = (a.0, after_next ns n said a.1 (omega (arith, l)) t.1)

-- ---- a part is joined

joined_part : (at : ℕ) (end : Bool) (octets : List ℕ) (parts : List Part) (s : Spoken) → IsJoinedFrom parts s →
    IsJoinedFrom (parts ++ (end, octets) ∷ []) (added at end octets s)
joined_part at end octets parts s h = grind (arith, map-append, tsdus_more, left_more, ends_more, append-nil)

-- so a TSDU has one more count, as it is expected
counts_so : (at : ℕ) (end : Bool) (octets : List ℕ) (s : Spoken) → all_before (added at end octets s) ≡ with_next s
counts_so at end octets s = grind (arith, append-nil, map-append)

heard_grows : (at : ℕ) (end : Bool) (octets : List ℕ) (s : Spoken) → length (heard s) ≤ length (heard (added at end octets s))
heard_grows at end octets s = grind (arith, map-append, length-append)

since_stays : (at : ℕ) (end : Bool) (octets : List ℕ) (s : Spoken) → (added at end octets s).since ≡ s.since
since_stays at end octets s = grind arith

-- the next TSDU began no later than now
next_up_to : (most : ℕ) (s : Spoken) → s.since ≤ most → AllByRecursion (λ n. n ≤ most) (all_before s) →
    AllByRecursion (λ n. n ≤ most) (with_next s)
next_up_to most s l a = grind (arith, all_join, all_front)

-- ---- a connection, from either side

-- a DT of a side for which there is room
module _ (at : ℕ) (end : Bool) (octets : List ℕ) where
  all_added : (d : Direction) (j : Joined) → j.room ≡ All → adds d at end octets j ≡ adds_all d at end octets j
  all_added d j room = ap (λ (x : Room). adds_if (fits x (kept_on j) (length octets)) d at end octets j) room

  own_added : (d : Direction) (j : Joined) → j.room ≡ All → spoken d (adds d at end octets j) ≡ added at end octets (spoken d j)
  own_added d j room = grind (arith, all_added)

  other_added : (d : Direction) (j : Joined) → j.room ≡ All → spoken (other d) (adds d at end octets j) ≡ spoken (other d) j
  other_added d j room = grind (arith, all_added)

  own_kept : (d : Direction) (j : Joined) → j.room ≡ All → spoken d (adds (other d) at end octets j) ≡ spoken d j
  own_kept d j room = grind (arith, all_added)

  pub named_added : (d e : Direction) (j : Joined) → j.room ≡ All → reference_of d (adds e at end octets j) ≡ reference_of d j
  named_added d e j room = grind (arith, all_added)

  room_added : (d : Direction) (j : Joined) → j.room ≡ All → (adds d at end octets j).room ≡ All
  room_added d j room = grind (arith, all_added)

module _ (j : Joined) where
  own_begun : (d : Direction) → spoken d (packet_begins d j) ≡ begins (spoken (other d) j) (spoken d j)
  own_begun d = grind arith

  other_begun : (d : Direction) → spoken (other d) (packet_begins d j) ≡ spoken (other d) j
  other_begun d = grind arith

  own_stays : (d : Direction) → spoken d (packet_begins (other d) j) ≡ spoken d j
  own_stays d = grind arith

  other_heard : (d : Direction) → heard (spoken (other d) (packet_begins (other d) j)) ≡ heard (spoken (other d) j)
  other_heard d = grind arith

  other_unfinished : (d : Direction) → (spoken (other d) (packet_begins (other d) j)).begun ≡ (spoken (other d) j).begun
  other_unfinished d = grind arith

  named_begun : (d e : Direction) → reference_of d (packet_begins e j) ≡ reference_of d j
  named_begun d e = grind arith

  room_begun : (e : Direction) → (packet_begins e j).room ≡ j.room
  room_begun e = grind arith

-- ---- what is shown

below_all : (n : ℕ) → n < 2 ^ 64 → offset_of n ≡ n
below_all n l = omega (arith, l)

said_length : (s : Spoken) → length s.said ≡ length (heard s)
said_length s = sym (length-map s.said octets_of)

module _ (d : Direction) (r : ℕ) (deeds : Deeds) (waiting : List Value) (later : List Part) where
  -- ---- a unit of the end

  -- a DT passes
  pub part_passes : (at : ℕ) (end : Bool) (v : Value) (j : Joined) → unit_parts v ≡ (end, user_of v) ∷ [] →
      IsShownNow d r deeds (v ∷ waiting) later true j → IsShownNow d r deeds waiting later false (adds d at end (user_of v) j)
  part_passes at end v j is h =
      let octets = user_of v in
      let k = adds d at end octets j in
      let s = spoken d j in
      let own : spoken d k ≡ added at end octets s = own_added at end octets d j h.room in
      let theirs : spoken (other d) k ≡ spoken (other d) j = other_added at end octets d j h.room in
      let most = length (heard (spoken (other d) j)) in
      let parts : parts_of (h.shown.passed ++ v ∷ []) ≡ parts_of h.shown.passed ++ (end, octets) ∷ [] = grind (arith, flat_map-append) in
      record {
        shown = record {
          named = named_added at end octets d d j h.room ∙ h.shown.named;
          passed = h.shown.passed ++ v ∷ [];
          waiting = waiting;
          put = grind (arith, append_assoc);
          said = grind (arith, joined_part at end octets (parts_of h.shown.passed) s h.shown.said);
          after = grind (arith, counts_so);
          so_far = subst (λ (x : Spoken). AllByRecursion (λ n. n ≤ length (heard x)) (all_before (spoken d k))) (sym theirs)
              (subst (AllByRecursion (λ n. n ≤ most)) (sym (ap all_before own ∙ counts_so at end octets s))
              (next_up_to most s h.since h.shown.so_far));
          later = h.shown.later;
          came = subst (IsJoinedFrom _) (sym theirs) h.shown.came;
        };
        waiting_is = refl;
        later_is = h.later_is;
        since = grind (arith, since_stays);
        next = λ e. absurd (cc);
        room = room_added at end octets d j h.room;
      }

  -- a unit passes that adds to no TSDU
  pub none_passes : (v : Value) (is_next : Bool) (j : Joined) → unit_parts v ≡ [] → IsShownNow d r deeds (v ∷ waiting) later is_next j →
      IsShownNow d r deeds waiting later false j
  none_passes v is_next j none h = record {
    shown = record {
      named = h.shown.named;
      passed = h.shown.passed ++ v ∷ [];
      waiting = waiting;
      put = grind (arith, append_assoc);
      said = grind (arith, flat_map-append, append-nil);
      after = h.shown.after;
      so_far = h.shown.so_far;
      later = h.shown.later;
      came = h.shown.came;
    };
    waiting_is = refl;
    later_is = h.later_is;
    since = h.since;
    next = λ e. absurd (cc);
    room = h.room;
  }

  -- a packet begins whose DT the end put
  pub part_begins : (e : End) (end : Bool) (v : Value) (j : Joined) → Course (calls_from d) r deeds e → unit_parts v ≡
      (end, user_of v) ∷ [] →
      length (heard (spoken (other d) j)) < 2 ^ 64 → IsShownNow d r deeds (v ∷ waiting) later false j →
      IsShownNow d r deeds (v ∷ waiting) later true (packet_begins d j)
  part_begins e end v j course is few h =
      let k = packet_begins d j in
      let s = spoken d j in
      let t = spoken (other d) j in
      let most = length (heard t) in
      let own : spoken d k ≡ begins t s = own_begun j d in
      let theirs : spoken (other d) k ≡ t = other_begun j d in
      let said = said_in 0 deeds.calls in
      let now : offset_of (length t.said) ≡ most = ap offset_of (said_length t) ∙ below_all most few in
      let parts : parts_of (h.shown.passed ++ v ∷ []) ≡ parts_of h.shown.passed ++ (end, user_of v) ∷ [] =
      flat_map-append unit_parts h.shown.passed (v ∷ []) ∙ ap (λ (l : List Part). parts_of h.shown.passed ++ (l ++ [])) is in
      let room : length s.said < length said = fewer (parts_of h.shown.passed) s end (user_of v) (length said) h.shown.said
      (subst (λ (l : List Part). length (tsdus l) + one_if (ends_whole true l) ≤ length said) parts
      (begun_within (calls_from d) r deeds e course (h.shown.passed ++ v ∷ []) waiting
      (h.shown.put ∙ ap (λ (l : List Value). h.shown.passed ++ l) h.waiting_is ∙ sym (append_assoc h.shown.passed (v ∷ []) waiting)))) in
      let taken : AllByRecursion (λ (x : Said). x.taken ≤ most) said = all_taken_by 0 most deeds.calls (handed t h.shown.came) in
      record {
        shown = record {
          named = named_begun j d d ∙ h.shown.named;
          passed = h.shown.passed;
          waiting = h.shown.waiting;
          put = h.shown.put;
          said = grind arith;
          after = subst (λ (x : Spoken). AreAfter (all_before x) said) (sym own) h.shown.after;
          so_far = subst (λ (x : Spoken). AllByRecursion (λ n. n ≤ length (heard x)) (all_before (spoken d k))) (sym theirs)
              (subst (λ (x : Spoken). AllByRecursion (λ n. n ≤ most) (all_before x)) (sym own) h.shown.so_far);
          later = h.shown.later;
          came = subst (IsJoinedFrom _) (sym theirs) h.shown.came;
        };
        waiting_is = h.waiting_is;
        later_is = h.later_is;
        since = grind arith;
        next = λ one. subst (λ (x : Spoken). AreAfter (with_next x) said) (sym own)
            (subst (λ (n : ℕ). AreAfter (map before_of s.said ++ begun_before s.begun n ∷ []) said) (sym now)
            (next_by s.begun said (map before_of s.said) most h.shown.after
            (let l = length-map s.said before_of in omega (arith, room, l)) taken));
        room = room_begun j d ∙ h.room;
      }
    where
      fewer : (parts : List Part) (s : Spoken) (end : Bool) (octets : List ℕ) (all : ℕ) → IsJoinedFrom parts s →
          length (tsdus (parts ++ (end, octets) ∷ [])) + one_if (ends_whole true (parts ++ (end, octets) ∷ [])) ≤ all →
          length s.said < all
      fewer parts s true octets all j h =
          let more = ap length (tsdus_more [] parts ((true, octets) ∷ [])) in
          let size = length-append (tsdus parts) ((left_over [] parts ++ octets) ∷ []) in
          let whole = said_length s ∙ ap length j.whole in
          omega (arith, h, more, size, whole)
      fewer parts s false octets all j h =
          let more = ap length (tsdus_more [] parts ((false, octets) ∷ [])) in
          let size = length-append (tsdus parts) [] in
          let whole = said_length s ∙ ap length j.whole in
          let one = ap one_if (ends_more true parts ((false, octets) ∷ [])) in
          omega (arith, h, more, size, whole, one)

      next_by : (b : Option Begun) (said : List Said) (ns : List ℕ) (n : ℕ) → AreAfter (ns ++ before_begun b) said →
          length ns < length said → AllByRecursion (λ (x : Said). x.taken ≤ n) said → AreAfter (ns ++ begun_before b n ∷ []) said
      next_by None said ns n a l t = after_next ns n said (subst (λ (l : List ℕ). AreAfter l said) (append-nil ns) a) l t
      next_by (Some b) said ns n a l t = a

      handed : (t : Spoken) → IsJoinedFrom (parts_in deeds.calls ++ h.shown.later) t → 0 + length (tsdus_out deeds.calls) ≤ length (heard t)
      handed t came =
          let out = ap length (units_came (calls_from d) r deeds e course) in
          grind (arith, tsdus_more, length-append)

  -- a packet of the end begins that adds nothing to this connection
  pub own_begins : (j : Joined) → IsShownNow d r deeds waiting later false j → IsShownNow d r deeds waiting later false (packet_begins d j)
  own_begins j h =
      let k = packet_begins d j in
      let s = spoken d j in
      let t = spoken (other d) j in
      let own : spoken d k ≡ begins t s = own_begun j d in
      let theirs : spoken (other d) k ≡ t = other_begun j d in
      let size = said_length t in
      record {
        shown = record {
          named = named_begun j d d ∙ h.shown.named;
          passed = h.shown.passed;
          waiting = h.shown.waiting;
          put = h.shown.put;
          said = grind arith;
          after = subst (λ (x : Spoken). AreAfter (all_before x) (said_in 0 deeds.calls)) (sym own) h.shown.after;
          so_far = subst (λ (x : Spoken). AllByRecursion (λ n. n ≤ length (heard x)) (all_before (spoken d k))) (sym theirs)
              (subst (λ (x : Spoken). AllByRecursion (λ n. n ≤ length (heard t)) (all_before x)) (sym own) h.shown.so_far);
          later = h.shown.later;
          came = subst (IsJoinedFrom _) (sym theirs) h.shown.came;
        };
        waiting_is = h.waiting_is;
        later_is = h.later_is;
        since = grind arith;
        next = λ e. absurd (cc);
        room = room_begun j d ∙ h.room;
      }

  -- ---- the other side

  pub other_begins : (is_next : Bool) (j : Joined) → IsShownNow d r deeds waiting later is_next j →
      IsShownNow d r deeds waiting later is_next (packet_begins (other d) j)
  other_begins is_next j h =
      let k = packet_begins (other d) j in
      let own : spoken d k ≡ spoken d j = own_stays j d in
      let theirs : heard (spoken (other d) k) ≡ heard (spoken (other d) j) = other_heard j d in
      record {
        shown = record {
          named = named_begun j d (other d) ∙ h.shown.named;
          passed = h.shown.passed;
          waiting = h.shown.waiting;
          put = h.shown.put;
          said = subst (IsJoinedFrom (parts_of h.shown.passed)) (sym own) h.shown.said;
          after = subst (λ (x : Spoken). AreAfter (all_before x) (said_in 0 deeds.calls)) (sym own) h.shown.after;
          so_far = subst (λ (l : List (List ℕ)). AllByRecursion (λ n. n ≤ length l) (all_before (spoken d k))) (sym theirs)
              (grind arith);
          later = h.shown.later;
          came = grind (arith, other_unfinished);
        };
        waiting_is = h.waiting_is;
        later_is = h.later_is;
        since = grind arith;
        next = λ e. subst (λ (x : Spoken). AreAfter (with_next x) (said_in 0 deeds.calls)) (sym own) (h.next e);
        room = room_begun j (other d) ∙ h.room;
      }

  -- a DT of the other side passes, in flight to the end
  pub other_passes : (at : ℕ) (end : Bool) (octets : List ℕ) (is_next : Bool) (j : Joined) → IsShownNow d r deeds waiting later is_next j →
      IsShownNow d r deeds waiting (later ++ (end, octets) ∷ []) is_next (adds (other d) at end octets j)
  other_passes at end octets is_next j h =
      let k = adds (other d) at end octets j in
      let t = spoken (other d) j in
      let own : spoken d k ≡ spoken d j = own_kept at end octets d j h.room in
      let theirs : spoken (other d) k ≡ added at end octets t = own_added at end octets (other d) j h.room in
      let more : length (heard t) ≤ length (heard (spoken (other d) k)) =
      subst (λ (x : Spoken). length (heard t) ≤ length (heard x)) (sym theirs) (heard_grows at end octets t) in
      let parts : (parts_in deeds.calls ++ later) ++ (end, octets) ∷ [] ≡ parts_in deeds.calls ++ (later ++ (end, octets) ∷ []) =
      append_assoc (parts_in deeds.calls) later ((end, octets) ∷ []) in
      record {
        shown = record {
          named = named_added at end octets d (other d) j h.room ∙ h.shown.named;
          passed = h.shown.passed;
          waiting = h.shown.waiting;
          put = h.shown.put;
          said = subst (IsJoinedFrom (parts_of h.shown.passed)) (sym own) h.shown.said;
          after = subst (λ (x : Spoken). AreAfter (all_before x) (said_in 0 deeds.calls)) (sym own) h.shown.after;
          so_far = subst (λ (x : Spoken). AllByRecursion (λ n. n ≤ length (heard (spoken (other d) k))) (all_before x)) (sym own)
              (all_up_to (length (heard t)) (length (heard (spoken (other d) k))) (all_before (spoken d j)) more h.shown.so_far);
          later = later ++ (end, octets) ∷ [];
          came = subst (λ (l : List Part). IsJoinedFrom l (spoken (other d) k)) parts
              (subst (IsJoinedFrom ((parts_in deeds.calls ++ later) ++ (end, octets) ∷ [])) (sym theirs)
              (joined_part at end octets (parts_in deeds.calls ++ later) t
              (subst (λ (l : List Part). IsJoinedFrom (parts_in deeds.calls ++ l) t) h.later_is h.shown.came)));
        };
        waiting_is = h.waiting_is;
        later_is = refl;
        since = grind arith;
        next = λ e. subst (λ (x : Spoken). AreAfter (with_next x) (said_in 0 deeds.calls)) (sym own) (h.next e);
        room = room_added at end octets (other d) j h.room;
      }

  -- ---- the end

  -- the session takes some of what is in flight, and says more
  pub end_turns : (more : Deeds) (rest : List Part) (is_next : Bool) (j : Joined) → later ≡ parts_in more.calls ++ rest →
      IsShownNow d r deeds waiting later is_next j → IsShownNow d r (then_did deeds more) (waiting ++ more.put) rest is_next j
  end_turns more rest is_next j is h =
      let said = said_more 0 deeds.calls more.calls in
      let parts : parts_in deeds.calls ++ h.shown.later ≡ parts_in (deeds.calls ++ more.calls) ++ rest =
      grind (arith, append_assoc, flat_map-append) in
      record {
        shown = grind (arith, after_more, append_assoc h.shown.passed waiting more.put);
        waiting_is = refl;
        later_is = refl;
        since = h.since;
        next = grind (arith, after_more);
        room = h.room;
      }
