-- The invariant of two carriers is kept when an end acts.
-- For joined carriers, class 0 and the invariant.
use Rattle.osi_between.specs.Between.{under_way}
use Rattle.osi_between.proofs.Vocabulary.{◌≡◌, ◌≢◌, ℕ, ◌+◌, ◌||◌, Bool, true, false, not, List, [], ◌++◌, Option, Some, None, is_some, refl}
use Rattle.osi_between.proofs.Vocabulary.{sym, ap, subst, ◌∙◌, append_assoc, arith, ◌⊎◌, inl, flat_map, AllByRecursion, append-nil, Value}
use Rattle.osi_between.proofs.Vocabulary.{IsSendable, place_at, connection_in, Connection, State, packets, EndReason, units_of, AreFor}
use Rattle.osi_between.proofs.Vocabulary.{Both, side, reach_of, arriving, Between, last_of, units_from, lost_from, IsOnTheWay, AreJoinedBy}
use Rattle.osi_between.proofs.Vocabulary.{AreBetween, to_come, told_of, Acted, becomes, progress_of, BringsTo, under_way_for, Message}
use Rattle.osi_between.proofs.Vocabulary.{messages_to, messages_after, begun_at, references_for, class_behind_all, leaves_use}
use Rattle.osi_between.proofs.Vocabulary.{Terms, accepts_in, class_of, length-append}
use Rattle.osi_between.proofs.unit.the_units_of_one_connection.{units_join, units_same, units_other}
use Rattle.osi_between.proofs.way.octets_are_written_and_handed_over.{going_then, lost_then, way_out}

-- ---- with all units

-- What an end (`this`, then `next`) did for a connection; `going` are the units in flight from it and `coming` those to
-- it.
pub record Steps (terms : Terms) (n : ℕ) (this other next : State) (going coming rest taken : List Value)
    (put : List Message) : Type 0 where
  pub units : List Value
  pub arrived : List Message
  pub stays : List Message
  pub lost : List Message
  pub sendable : AllByRecursion IsSendable units
  pub outgoing : next.outgoing ≡ this.outgoing ++ packets units
  pub told : next.events ≡ this.events ++ flat_map (told_of terms n (place_at n this)) arrived
  pub cut : coming ≡ taken ++ rest
  pub all_for : AreFor n taken
  pub written_for : AreFor n units
  pub before : under_way_for n this other going ≡ stays ++ lost
  pub after : under_way_for n next other (going ++ units) ≡ stays ++ put
  pub brings : BringsTo (accepts_in terms) (place_at n this) (place_at n next) taken arrived put
  pub others_stay : (q : ℕ) → q ≢ n → place_at q next ≡ place_at q this
  pub given : next.given ≡ this.given + references_for (accepts_in terms) arrived put
  pub class : next.class ≡ class_behind_all (class_of terms) this.class arrived
  pub local : next.local ≡ this.local
  pub keeps : leaves_use (progress_of (place_at n this)) (progress_of (place_at n next)) ≡ false → lost ≡ []
  pub lasts : next.ended ≡ None

-- joined, seen from an end
abbrev pub JoinedAt : Bool → Terms → State → State → List Value → List Value → Type 0
JoinedAt true terms this other going coming = AreJoinedBy terms this other going coming
JoinedAt false terms this other going coming = AreJoinedBy terms other this coming going

pub record Does (terms : Terms) (end : Bool) (n : ℕ) (this other next : State) (going coming rest taken : List Value)
    (put : List Message) : Type 0 where
  pub steps : Steps terms n this other next going coming rest taken put
  pub joined : JoinedAt end terms next other (going ++ steps.units) rest

-- ---- both ways

pub by_end : (end : Bool) (P : Bool → Type 0) → P end → P (not end) → (e : Bool) → P e
by_end end P a b e = grind arith

cut_alive : (broken : Bool) (ended : Option EndReason) → ended ≡ None → (broken || is_some ended) ≡ broken
cut_alive broken ended e = grind (arith, is_some)

-- what is in flight from the acting end
record OutPart (old new lost put : List Message) : Type 0 where
  stays : List Message
  gone : List Message
  none : lost ≡ [] → gone ≡ []
  before : old ≡ stays ++ gone
  after : new ≡ stays ++ put

-- messages of units and of what is still to be sent after them
abbrev pub sum_of : Option Connection → ℕ → List Value → Bool → Option Connection → List Message
sum_of o n units cut c = messages_after (begun_at o) (units_of n units ++ to_come cut c)

abbrev if_whole : Option (ℕ × ℕ) → List Message → List Message
if_whole None put = put
if_whole (Some r) put = []

out_part : (end : Bool) (reach : Option (ℕ × ℕ)) (o c d : Option Connection) (n : ℕ) (going lost units : List Value)
    (stays gone put : List Message) → (reach ≡ None → lost ≡ []) →
    messages_to c (units_of n (going ++ lost)) o ≡ stays ++ gone → messages_to d (units_of n ((going ++ lost) ++ units)) o ≡ stays ++ put →
    OutPart (sum_of o n going (is_some reach) c) (sum_of o n (going_then (reach_of end reach) going units) (is_some reach) d) gone
    (if_whole reach put)
out_part true None o c d n going lost units stays gone put none before after = grind (arith, append-nil)
out_part end (Some r) o c d n going lost units stays gone put none before after = record {
  stays = sum_of o n going true c;
  gone = [];
  none = λ h. refl;
  before = sym (append-nil (sum_of o n going true c));
  after = sym (append-nil (sum_of o n going true c));
}
out_part end reach o c d n going lost units stays gone put none before after = grind (arith, append-nil)

-- ---- an end acts

-- A lemma with one proof for several cases, as for both ends, takes this argument, which is always available. Its first
-- clause never applies and only splits into the cases, so that the second clause is a proof for each.
abbrev pub Each : Type 0
Each = ⊥ ⊎ Unit {0}

-- all units from an end, also those that a break took away
abbrev pub all_from : Bool → Between → List Value
all_from end b = units_from end b ++ lost_from end b

abbrev now_of : Bool → Both → Between → State → List Value → List Value → Between
now_of true both b next units left = record b {
  caller = next;
  going = going_then (reach_of true both.reach) b.going units;
  going_lost = lost_then (reach_of true both.reach) b.going_lost units;
  coming = left;
}
now_of false both b next units left = record b {
  called = next;
  coming = going_then (reach_of false both.reach) b.coming units;
  coming_lost = lost_then (reach_of false both.reach) b.coming_lost units;
  going = left;
}

pub acted : (terms : Terms) (end : Bool) → Each →
    (n : ℕ) (both : Both) (b : Between) (next : State) (behind : List ℕ) (left taken : List Value) (put : List Message) →
    AreBetween terms both b → (side end both).state.ended ≡ None →
    IsOnTheWay behind (arriving (not end) both) left (lost_from (not end) b) → units_from (not end) b ≡ taken ++ left →
    Does terms end n (last_of end b) (last_of (not end) b) next (all_from end b) (all_from (not end) b)
    (left ++ lost_from (not end) b) taken put → Acted terms end n both (becomes end next behind both) b taken put
acted terms true (inl none) n both b next behind left taken put a alive way cut d = absurd none
acted terms end each n both b next behind left taken put a alive way cut d =
    let st = d.steps in
    let reach = reach_of end both.reach in
    let none : reach ≡ None → lost_from end b ≡ [] = λ e. a.unbroken (grind arith) end in
    let new = becomes end next behind both in
    let now = now_of end both b next st.units left in
    let out : next.outgoing ≡ (side end both).state.outgoing ++ packets st.units =
    st.outgoing ∙ ap (λ (s : State). s.outgoing ++ packets st.units) (sym (a.lives end alive)) in
    let c = connection_in (place_at n (last_of end b)) in
    let o = connection_in (place_at n (last_of (not end) b)) in
    let was = cut_alive (is_some both.reach) (side end both).state.ended alive in
    let p = out_part end both.reach o c (connection_in (place_at n next)) n (units_from end b) (lost_from end b) st.units st.stays st.lost
    put (λ none. a.unbroken none end) st.before st.after in
    record {
      now = now;
      between = record {
        lives = by_end end (λ e. (side e new).state.ended ≡ None → (side e new).state ≡ last_of e now) (λ _. refl)
            (λ h. a.lives (not end) h);
        joined = subst (λ (l : List Value). JoinedAt end terms next (last_of (not end) b) l (left ++ lost_from (not end) b))
            (grind (arith, append-nil, append_assoc)) d.joined;
        comes = by_end end (λ e. (side (not e) new).state.ended ≡ None →
            IsOnTheWay (side (not e) new).held (arriving e new) (units_from e now) (lost_from e now))
            (λ h. rw out (way_out reach (side (not end) both).held (side end both).state.outgoing (units_from end b) (lost_from end b)
            st.units none (a.bound end) (a.comes end h) st.sendable))
            (λ h. way);
        unbroken = λ e. by_end end (λ x. lost_from x now ≡ [])
            (ap (λ (r : Option (ℕ × ℕ)). lost_then (reach_of end r) (lost_from end b) st.units) e ∙ a.unbroken e end)
            (a.unbroken e (not end));
        bound = grind (arith, by_end, length-append);
      };
      carries = record {
        arrived = st.arrived;
        stays = p.stays;
        gone = p.gone;
        told = st.told;
        came = grind (arith, units_join, units_same, append_assoc);
        before = subst (λ (t : Bool). sum_of o n (units_from end b) t c ≡ p.stays ++ p.gone) (sym was) p.before;
        after = grind arith;
        brings = st.brings;
        others = λ q apart. by_end end (λ x. under_way x q both b ≡ under_way x q new now)
            (search (arith, units_join, units_other, append-nil))
            (grind (arith, units_join, units_other));
        other_places = st.others_stay;
        given = st.given;
        class = st.class;
        local = st.local;
        keeps = λ e. p.none (st.keeps e);
        there = refl;
        cut = cut;
        lost_still = refl;
      };
      lasts = st.lasts;
    }
