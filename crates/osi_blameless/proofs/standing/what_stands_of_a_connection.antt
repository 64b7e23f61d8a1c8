-- How a connection stands that a judge has joined beside what is done at it: open for its end, or closed, or without a CC yet; and that
-- it stands so as packets begin and units pass, at its place or at another.
-- For all connections of an end and a judge.
use Rattle.osi_blameless.proofs.Vocabulary.{[], ap, Bool, false, is_some, length, List, None, Option, refl, Some, subst, sym, true, ℕ, ◌&&◌}
use Rattle.osi_blameless.proofs.Vocabulary.{◌++◌, ◌<◌, ◌==◌, ◌^◌, ◌∙◌, ◌∷◌, ◌≡◌, ◌≤◌, AllByRecursion, acknowledge, data0, data2, Value}
use Rattle.osi_blameless.proofs.Vocabulary.{parts_in, unit_parts, Part, End, begins, is_open, own, Connection, other, Direction, Deeds}
use Rattle.osi_blameless.proofs.Vocabulary.{said_in, then_did, adds, Joined, reference_of, spoken, user_of, way_of, heard, Spoken, All}
use Rattle.osi_blameless.proofs.Vocabulary.{leads, picked, picked_first, picked_join, picked_rest, all_before, AreAfter, calls_from}
use Rattle.osi_blameless.proofs.Vocabulary.{IsJoinedFrom, IsShownNow, parts_of, with_next, arith, differ}
use Rattle.osi_blameless.specs.ends.Courses.{Course}
use Rattle.osi_judge.specs.Connections.{packet_begins}
use Rattle.osi_blameless.proofs.small_facts_that_many_lemmas_use.{and_both}
use Rattle.osi_blameless.proofs.shown.what_a_judge_shows_goes_on.{end_turns, none_passes, other_begins, other_passes, own_begins}
use Rattle.osi_blameless.proofs.shown.what_a_judge_shows_goes_on.{part_begins, part_passes}

-- ---- which units are for it

-- by the reference that the other side gave it
abbrev pub names_it : Option ℕ → ℕ → Bool
names_it None n = false
names_it (Some m) n = n == m

-- a DT or an AK; a DT of class 0 is for any connection that has such a reference
abbrev pub is_for : Option ℕ → Value → Bool
is_for o (data0 end user) = is_some o
is_for o (data2 n number end user) = names_it o n
is_for o (acknowledge credit n number) = names_it o n
is_for o _ = false

abbrev pub waiting_for : Option ℕ → List Value → List Value
waiting_for o put = picked (is_for o) put

abbrev pub is_part : Value → Bool
is_part (data0 end user) = true
is_part (data2 n number end user) = true
is_part _ = false

abbrev pub adds_to : Option ℕ → Value → Bool
adds_to o v = is_for o v && is_part v

-- a packet has begun, with a DT for it
abbrev pub is_next : Option ℕ → (begun : Bool) → List Value → Bool
is_next o begun put = begun && leads (adds_to o) put

-- ---- how it stands

-- neither side has sent a DT
pub record IsUnsaid (s : Spoken) : Type 0 where
  pub said : s.said ≡ []
  pub begun : s.begun ≡ None
  pub since : s.since ≡ 0

-- what is known of the parts in flight to the end at the connection with a reference of this side
abbrev pub Known : Type 1
Known = ℕ → List Part → Type 0

pub data Stands (d : Direction) (deeds : ℕ → Deeds) (known : Known) (put : List Value) (begun : Bool) (c : Connection) (j : Joined) :
    Type 0 where
  -- this end has not answered it
  unnamed : reference_of d j ≡ None → IsUnsaid (spoken d j) → IsUnsaid (spoken (other d) j) → j.room ≡ All →
      Stands d deeds known put begun c j
  -- this end has not closed it: all that it put there for the other side, and that has not passed, waits
  lives : (r : ℕ) (o : Option ℕ) → reference_of (other d) j ≡ o → is_open (own (way_of d) c).phase ≡ true → (later : List Part) →
      known r later → IsShownNow d r (deeds r) (waiting_for o put) later (is_next o begun put) j → Stands d deeds known put begun c j
  -- it has: nothing more of it passes there
  past : (r : ℕ) → is_open (own (way_of d) c).phase ≡ false → (waiting : List Value) (later : List Part) → known r later →
      IsShownNow d r (deeds r) waiting later false j → Stands d deeds known put begun c j

-- ---- the same sides

pub record IsLike (d : Direction) (j k : Joined) : Type 0 where
  pub own_is : spoken d k ≡ spoken d j
  pub theirs : spoken (other d) k ≡ spoken (other d) j
  pub named : reference_of d k ≡ reference_of d j
  pub room : k.room ≡ j.room

pub like_shown : (d : Direction) (r : ℕ) (deeds : Deeds) (waiting : List Value) (later : List Part) (b : Bool) (j k : Joined) →
    IsLike d j k → IsShownNow d r deeds waiting later b j → IsShownNow d r deeds waiting later b k
like_shown d r deeds waiting later b j k l h = record {
  shown = record {
    named = l.named ∙ h.shown.named;
    passed = h.shown.passed;
    waiting = h.shown.waiting;
    put = h.shown.put;
    said = subst (IsJoinedFrom (parts_of h.shown.passed)) (sym l.own_is) h.shown.said;
    after = subst (λ (x : Spoken). AreAfter (all_before x) (said_in 0 deeds.calls)) (sym l.own_is) h.shown.after;
    so_far = subst (λ (x : Spoken). AllByRecursion (λ n. n ≤ length (heard x)) (all_before (spoken d k))) (sym l.theirs)
        (grind arith);
    later = h.shown.later;
    came = subst (IsJoinedFrom (parts_in deeds.calls ++ h.shown.later)) (sym l.theirs) h.shown.came;
  };
  waiting_is = h.waiting_is;
  later_is = h.later_is;
  since = grind arith;
  next = λ e. subst (λ (x : Spoken). AreAfter (with_next x) (said_in 0 deeds.calls)) (sym l.own_is) (h.next e);
  room = l.room ∙ h.room;
}

like_unsaid : (s t : Spoken) → t ≡ s → IsUnsaid s → IsUnsaid t
like_unsaid s t e h = subst IsUnsaid (sym e) h

-- the next unit is another one
pub no_next : (d : Direction) (r : ℕ) (deeds : Deeds) (waiting : List Value) (later : List Part) (b : Bool) (j : Joined) →
    IsShownNow d r deeds waiting later b j → IsShownNow d r deeds waiting later false j
no_next d r deeds waiting later b j h = record {
  shown = h.shown;
  waiting_is = h.waiting_is;
  later_is = h.later_is;
  since = h.since;
  next = λ e. absurd (cc);
  room = h.room;
}

with_waiting : (d : Direction) (r : ℕ) (deeds : Deeds) (some others : List Value) (later : List Part) (b : Bool) (j : Joined) →
    some ≡ others → IsShownNow d r deeds some later b j → IsShownNow d r deeds others later b j
with_waiting d r deeds some others later b j e h = subst (λ (l : List Value). IsShownNow d r deeds l later b j) e h

-- ---- references

pub named_begun : (d e : Direction) (j : Joined) → reference_of d (packet_begins e j) ≡ reference_of d j
named_begun d e j = grind arith

pub open_begun : (d e : Direction) (c : Connection) → (own (way_of d) (begins (way_of e) c)).phase ≡ (own (way_of d) c).phase
open_begun d e c = grind arith

-- ---- a packet of the end begins

part_so : (v : Value) → is_part v ≡ true → (end : Bool) × (unit_parts v ≡ (end, user_of v) ∷ [])
part_so (data0 end user) h = (end, refl)
part_so (data2 n number end user) h = (end, refl)
part_so _ h = absurd (cc)

module _ (d : Direction) (r : ℕ) (deeds : Deeds) (later : List Part) (o : Option ℕ) (e : End) (j : Joined)
    (course : Course (calls_from d) r deeds e) (few : length (heard (spoken (other d) j)) < 2 ^ 64) where
  begins_by : (b : Bool) (v : Value) (rest : List Value) → adds_to o v ≡ b →
      IsShownNow d r deeds (waiting_for o (v ∷ rest)) later false j →
      IsShownNow d r deeds (waiting_for o (v ∷ rest)) later b (packet_begins d j)
  begins_by false v rest is h = own_begins d r deeds (waiting_for o (v ∷ rest)) later j h
  begins_by true v rest is h =
      let (mine, part) = and_both (is_for o v) (is_part v) is in
      search (arith, with_waiting, part_begins, part_so v part, picked_first (is_for o) v rest mine)

  begins_now : (put : List Value) → IsShownNow d r deeds (waiting_for o put) later (is_next o false put) j →
      IsShownNow d r deeds (waiting_for o put) later (is_next o true put) (packet_begins d j)
  begins_now [] h = own_begins d r deeds [] later j h
  begins_now (v ∷ rest) h = begins_by (adds_to o v) v rest refl h

pub stands_begins : (d : Direction) (deeds : ℕ → Deeds) (known : Known) (put : List Value) (e : End) (c : Connection) (j : Joined) →
    ((r : ℕ) → Course (calls_from d) r (deeds r) e) → length (heard (spoken (other d) j)) < 2 ^ 64 → Stands d deeds known put false c j →
    Stands d deeds known put true (begins (way_of d) c) (packet_begins d j)
stands_begins d deeds known put e c j courses few (unnamed none mine theirs room) =
    unnamed (named_begun d d j ∙ none) (grind arith) (grind arith) ((grind arith) ∙ room)
stands_begins d deeds known put e c j courses few (lives r o is live later sure h) =
    lives r o (named_begun (other d) d j ∙ is) (grind (arith, open_begun)) later sure
    (begins_now d r (deeds r) later o e j (courses r) few put h)
stands_begins d deeds known put e c j courses few (past r closed waiting later sure h) =
    past r (grind (arith, open_begun)) waiting later sure (own_begins d r (deeds r) waiting later j h)

-- ---- a packet of the other side begins

pub stands_other_begins : (d : Direction) (deeds : ℕ → Deeds) (known : Known) (put : List Value) (b : Bool) (c : Connection) (j : Joined) →
    Stands d deeds known put b c j → Stands d deeds known put b (begins (way_of (other d)) c) (packet_begins (other d) j)
stands_other_begins d deeds known put b c j (unnamed none mine theirs room) = grind (arith, named_begun)
stands_other_begins d deeds known put b c j (lives r o is live later sure h) =
    lives r o (named_begun (other d) (other d) j ∙ is) (grind (arith, open_begun)) later sure
    (other_begins d r (deeds r) (waiting_for o put) later (is_next o b put) j h)
stands_other_begins d deeds known put b c j (past r closed waiting later sure h) =
    past r (grind (arith, open_begun)) waiting later sure (other_begins d r (deeds r) waiting later false j h)

-- ---- a unit of the end passes

-- at another place
pub stands_elsewhere : (d : Direction) (deeds : ℕ → Deeds) (known : Known) (v : Value) (rest : List Value) (b : Bool) (c : Connection)
    (j : Joined) →
    (is_open (own (way_of d) c).phase ≡ true → is_for (reference_of (other d) j) v ≡ false) → Stands d deeds known (v ∷ rest) b c j →
    Stands d deeds known rest false c j
stands_elsewhere d deeds known v rest b c j not_for (unnamed none mine theirs room) = unnamed none mine theirs room
stands_elsewhere d deeds known v rest b c j not_for (lives r o is live later sure h) =
    let none = ap (λ (x : Option ℕ). is_for x v) (sym is) ∙ not_for live in
    lives r o is live later sure (search (arith, no_next, with_waiting, picked_rest))
stands_elsewhere d deeds known v rest b c j not_for (past r closed waiting later sure h) = past r closed waiting later sure h

-- here: a DT
pub stands_part : (d : Direction) (deeds : ℕ → Deeds) (known : Known) (v : Value) (rest : List Value) (at : ℕ) (end : Bool)
    (c after : Connection)
    (j : Joined) → unit_parts v ≡ (end, user_of v) ∷ [] → is_part v ≡ true → is_for (reference_of (other d) j) v ≡ true →
    is_some (reference_of d j) ≡ true → is_open (own (way_of d) c).phase ≡ true → is_open (own (way_of d) after).phase ≡ true →
    reference_of (other d) (adds d at end (user_of v) j) ≡ reference_of (other d) j → Stands d deeds known (v ∷ rest) true c j →
    Stands d deeds known rest false after (adds d at end (user_of v) j)
stands_part d deeds known v rest at end c after j parts part mine some live lasts same (unnamed none own_none theirs room) =
    differ (is_some (reference_of d j)) some (ap is_some none)
stands_part d deeds known v rest at end c after j parts part mine some live lasts same (past r closed waiting later sure h) =
    differ (is_open (own (way_of d) c).phase) live closed
stands_part d deeds known v rest at end c after j parts part mine some live lasts same (lives r o is open_too later sure h) =
    let yours : is_for o v ≡ true = ap (λ (x : Option ℕ). is_for x v) (sym is) ∙ mine in
    let one : is_next o true (v ∷ rest) ≡ true = (λ i. yours i && part i) in
    lives r o (same ∙ is) lasts later sure
    (part_passes d r (deeds r) (waiting_for o rest) later at end v j parts
    (grind (arith, with_waiting, picked_first)))

-- here: a unit that adds to no TSDU, after which the end may have closed the connection
module _ (d : Direction) (deeds : ℕ → Deeds) (known : Known) (v : Value) (rest : List Value) (c after : Connection) (j k : Joined)
    (none : unit_parts v ≡ []) (like : IsLike d j k) (named : reference_of (other d) k ≡ reference_of (other d) j)
    (was : is_open (own (way_of d) after).phase ≡ true → is_open (own (way_of d) c).phase ≡ true) where
  waits_by : (b : Bool) (r : ℕ) (o : Option ℕ) (later : List Part) (x : Bool) → is_for o v ≡ b →
      IsShownNow d r (deeds r) (waiting_for o (v ∷ rest)) later x j → IsShownNow d r (deeds r) (waiting_for o rest) later false j
  waits_by true r o later x e h =
      none_passes d r (deeds r) (waiting_for o rest) later v x j none
      (with_waiting d r (deeds r) (waiting_for o (v ∷ rest)) (v ∷ waiting_for o rest) later x j (picked_first (is_for o) v rest e) h)
  waits_by false r o later x e h = search (arith, no_next, with_waiting, picked_rest)

  lives_or_past : (b : Bool) (r : ℕ) (o : Option ℕ) (later : List Part) → known r later → reference_of (other d) j ≡ o →
      is_open (own (way_of d) after).phase ≡ b → IsShownNow d r (deeds r) (waiting_for o rest) later false j →
      Stands d deeds known rest false after k
  lives_or_past true r o later sure is e h =
      lives r o (named ∙ is) e later sure (like_shown d r (deeds r) (waiting_for o rest) later false j k like h)
  lives_or_past false r o later sure is e h =
      past r e (waiting_for o rest) later sure (like_shown d r (deeds r) (waiting_for o rest) later false j k like h)

  pub stands_none : (b : Bool) → Stands d deeds known (v ∷ rest) b c j → Stands d deeds known rest false after k
  stands_none b (unnamed is mine theirs room) = grind (arith, like_unsaid)
  stands_none b (lives r o is live later sure h) =
      lives_or_past (is_open (own (way_of d) after).phase) r o later sure is refl
      (waits_by (is_for o v) r o later (is_next o b (v ∷ rest)) refl h)
  stands_none b (past r closed waiting later sure h) =
      past r (grind (arith, differ)) waiting later sure
      (like_shown d r (deeds r) waiting later false j k like h)

-- ---- a unit of the other side passes here

pub stands_other_part : (d : Direction) (deeds : ℕ → Deeds) (known then_known : Known) (put : List Value) (b : Bool) (at : ℕ) (end : Bool)
    (octets : List ℕ) (c after : Connection) (j : Joined) → is_some (reference_of d j) ≡ true →
    (own (way_of d) after).phase ≡ (own (way_of d) c).phase →
    reference_of (other d) (adds (other d) at end octets j) ≡ reference_of (other d) j →
    ((r : ℕ) (later : List Part) → reference_of d j ≡ Some r → known r later → then_known r (later ++ (end, octets) ∷ [])) →
    Stands d deeds known put b c j → Stands d deeds then_known put b after (adds (other d) at end octets j)
stands_other_part d deeds known then_known put b at end octets c after j some same named grows (unnamed none mine theirs room) =
    differ (is_some (reference_of d j)) some (ap is_some none)
stands_other_part d deeds known then_known put b at end octets c after j some same named grows (lives r o is live later sure h) =
    lives r o (named ∙ is) (ap is_open same ∙ live) (later ++ (end, octets) ∷ []) (grows r later h.shown.named sure)
    (other_passes d r (deeds r) (waiting_for o put) later at end octets (is_next o b put) j h)
stands_other_part d deeds known then_known put b at end octets c after j some same named grows (past r closed waiting later sure h) =
    past r (ap is_open same ∙ closed) waiting (later ++ (end, octets) ∷ []) (grows r later h.shown.named sure)
    (other_passes d r (deeds r) waiting later at end octets false j h)

-- one that adds to no TSDU, or passes elsewhere
pub stands_other_none : (d : Direction) (deeds : ℕ → Deeds) (known then_known : Known) (put : List Value) (b : Bool) (c after : Connection)
    (j k : Joined) → IsLike d j k → reference_of (other d) k ≡ reference_of (other d) j →
    (own (way_of d) after).phase ≡ (own (way_of d) c).phase →
    ((r : ℕ) (later : List Part) → reference_of d j ≡ Some r → known r later → then_known r later) →
    Stands d deeds known put b c j → Stands d deeds then_known put b after k
stands_other_none d deeds known then_known put b c after j k like named same keeps (unnamed is mine theirs room) =
    grind (arith, like_unsaid)
stands_other_none d deeds known then_known put b c after j k like named same keeps (lives r o is live later sure h) =
    lives r o (named ∙ is) (ap is_open same ∙ live) later (keeps r later h.shown.named sure)
    (like_shown d r (deeds r) (waiting_for o put) later (is_next o b put) j k like h)
stands_other_none d deeds known then_known put b c after j k like named same keeps (past r closed waiting later sure h) =
    past r (ap is_open same ∙ closed) waiting later (keeps r later h.shown.named sure)
    (like_shown d r (deeds r) waiting later false j k like h)

-- ---- the end does more

-- what it takes is the first of what is in flight, and this is known of the rest
pub record Takes (more : Deeds) (later : List Part) (known : List Part → Type 0) : Type 0 where
  pub rest : List Part
  pub first : later ≡ parts_in more.calls ++ rest
  pub sure : known rest

-- what it puts at a connection that it has not closed waits there
pub stands_turns : (d : Direction) (deeds more : ℕ → Deeds) (known then_known : Known) (put units : List Value) (b : Bool) (c : Connection)
    (j : Joined) → (b ≡ true → put ≡ [] → ⊥) →
    ((r : ℕ) → reference_of d j ≡ Some r → is_open (own (way_of d) c).phase ≡ true →
    (more r).put ≡ waiting_for (reference_of (other d) j) units) →
    ((r : ℕ) (later : List Part) → reference_of d j ≡ Some r → known r later → Takes (more r) later (then_known r)) →
    Stands d deeds known put b c j → Stands d (λ r. then_did (deeds r) (more r)) then_known (put ++ units) b c j
stands_turns d deeds more known then_known put units b c j some puts takes (unnamed none mine theirs room) = unnamed none mine theirs room
stands_turns d deeds more known then_known put units b c j some puts takes (lives r o is live later sure h) =
    let t = takes r later h.shown.named sure in
    let added : waiting_for o put ++ (more r).put ≡ waiting_for o (put ++ units) = grind (arith, picked_join) in
    lives r o is live t.rest t.sure
    (subst (λ (x : Bool). IsShownNow d r (then_did (deeds r) (more r)) (waiting_for o (put ++ units)) t.rest x j)
    (sym (grind arith))
    (with_waiting d r (then_did (deeds r) (more r)) (waiting_for o put ++ (more r).put) (waiting_for o (put ++ units)) t.rest
    (is_next o b put) j added (end_turns d r (deeds r) (waiting_for o put) later (more r) t.rest (is_next o b put) j t.first h)))
stands_turns d deeds more known then_known put units b c j some puts takes (past r closed waiting later sure h) =
    let t = takes r later h.shown.named sure in
    past r closed (waiting ++ (more r).put) t.rest t.sure (end_turns d r (deeds r) waiting later (more r) t.rest false j t.first h)
