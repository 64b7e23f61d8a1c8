-- A whole calling end is fair in class 2 as long as the other side is judged, also after a connection has lost its judgement: by induction
-- over what happens. For the law of that name.
use Rattle.osi_blameless.proofs.transport.Vocabulary.{[], AllByRecursion, ap, arith, arrives, begin, begins_other, begins_own, Bool, breaks}
use Rattle.osi_blameless.proofs.transport.Vocabulary.{calls}
use Rattle.osi_blameless.proofs.transport.Vocabulary.{closes_call as closes, Connection, connects, Course, disconnect, disconnected, Event}
use Rattle.osi_blameless.proofs.transport.Vocabulary.{false}
use Rattle.osi_blameless.proofs.transport.Vocabulary.{HappenAlong, Happens, HasFieldsInRange, inl, inr, is_stopped, IsOrderly, Kept, Left}
use Rattle.osi_blameless.proofs.transport.Vocabulary.{List, Local}
use Rattle.osi_blameless.proofs.transport.Vocabulary.{MayCall, None, not, NotJudged, orderly_asks, orderly_closed, orderly_ended}
use Rattle.osi_blameless.proofs.transport.Vocabulary.{orderly_fresh}
use Rattle.osi_blameless.proofs.transport.Vocabulary.{orderly_sent, orderly_sent_all, orderly_unit, packet, packet_begins, passes}
use Rattle.osi_blameless.proofs.transport.Vocabulary.{passes_rubbish, put_by}
use Rattle.osi_blameless.proofs.transport.Vocabulary.{put_for, react, refl, request, Right, rubbish, sends, sends_all, slice_get, Some}
use Rattle.osi_blameless.proofs.transport.Vocabulary.{State, subst, sym}
use Rattle.osi_blameless.proofs.transport.Vocabulary.{takes, TooMany, true, unit as passing, user_does, UserCall, Value, value_at, Whole}
use Rattle.osi_blameless.proofs.transport.Vocabulary.{Zero, ℕ, ◌++◌}
use Rattle.osi_blameless.proofs.transport.Vocabulary.{◌||◌, ◌∙◌, ◌∷◌, ◌≡◌, ◌⊎◌}
use Rattle.osi_blameless.specs.transport.Wholes.{passes_other, passes_own}
use Rattle.osi_blameless.proofs.transport.small_facts_that_many_lemmas_use.{differ, none_of}
use Rattle.osi_blameless.proofs.transport.by_line.a_dr_for_what_is_gone.{Holds as Kept_so, Known, before_going, next_holds}
use Rattle.osi_blameless.proofs.transport.by_line.a_dc_follows_a_dr.{Informed, dc_known, first_informed, next_informed}
use Rattle.osi_blameless.proofs.transport.by_line.a_dc_for_a_stray_dr_passes.{dc_goes}
use Rattle.osi_blameless.proofs.transport.by_line.a_stray_dc_of_the_other_side_passes.{idle_passes, idle_peers}
use Rattle.osi_blameless.proofs.transport.names.a_reference_names_one_connection.{no_item}
use Rattle.osi_blameless.proofs.transport.by_line.a_unit_of_the_end_passes.{request_passes, request_peers}
use Rattle.osi_blameless.proofs.transport.by_line.a_unit_of_the_other_side_passes.{other_passes, other_peers}
use Rattle.osi_blameless.proofs.transport.by_line.a_unit_that_is_not_judged_passes.{IsIgnored, Passed, ignored_passes, ignored_peers}
use Rattle.osi_blameless.proofs.transport.by_line.a_unit_that_is_not_judged_passes.{lost_by, own_goes}
use Rattle.osi_blameless.proofs.transport.by_line.an_end_takes_a_unit.{next_selects}
use Rattle.osi_blameless.proofs.transport.by_line.an_end_ends.{whole_calls, whole_takes}
use Rattle.osi_blameless.proofs.transport.by_line.each_connection_has_its_line.{Followed, IsOwned, asking, is_tracked, of, other_begins}
use Rattle.osi_blameless.proofs.transport.by_line.each_connection_has_its_line.{own_begins, stray}
use Rattle.osi_blameless.proofs.transport.requests.how_requests_go_on.{Stage, known}
use Rattle.osi_blameless.proofs.transport.requests.no_request_is_blamed.{Holds as Staged, holds_first, holds_next, is_right}
use Rattle.osi_blameless.proofs.transport.by_line.the_end_is_judged_as_the_other_side_is.{IsMild}
use Rattle.osi_blameless.proofs.transport.names.names_stay_apart_though_one_is_lost.{AreNamedApart, end_begins, side_begins}
use Rattle.osi_blameless.proofs.transport.by_line.what_an_end_still_has.{call_after, over_not, unit_after}
use Rattle.osi_blameless.proofs.transport.connections.what_becomes_of_a_connection.{Told, comes_for}
use Rattle.osi_blameless.proofs.transport.connections.which_unit_of_the_other_side_passes.{IsIdle}
use Rattle.osi_blameless.proofs.transport.connections.which_units_are_for_a_connection.{IsOf, is_dc, ours_so}
use Rattle.osi_blameless.proofs.transport.connections.what_the_other_side_closes.{IsOngoing, IsDr, IsPlain, dr_is}
use Rattle.osi_blameless.proofs.transport.connections.what_is_live_at_an_end.{Firsts, IsLive, shuts_of}
use Rattle.osi_blameless.proofs.transport.requests.an_end_has_broken_no_rule.{mild_not, other_fine, own_fine, rubbish_fine}
use Rattle.osi_blameless.proofs.transport.requests.how_a_calling_end_asks.{over_takes}
use Rattle.osi_blameless.proofs.transport.what_each_thing_keeps_all_of_them_keep.{along_keeps}

-- ---- all that holds

pub record Joined (local : Local) (w : Whole) : Type 0 where
  pub staged : Staged local w
  pub kept : Kept_so w
  pub orderly : IsOrderly w.end
  pub local_is : IsOngoing w.judge.course → w.end.local ≡ local
  pub followed : IsOngoing w.judge.course → Followed local w
  pub peers : IsOngoing w.judge.course → AreNamedApart Right w.judge.connections
  -- the end has broken no rule
  pub fine : IsOngoing w.judge.course → w.judge.course.left_erred ≡ false
  -- the judge knows of each DC that it puts
  pub informed : Informed Left w

orderly_calls : (call : UserCall) (s : State) → MayCall call s → IsOrderly s → IsOrderly (user_does call s)
orderly_calls (connects calling called) s may h = orderly_asks calling called s may h
orderly_calls (sends r tsdu) s may h = orderly_sent r tsdu s h
orderly_calls (sends_all r tsdus) s may h = orderly_sent_all r tsdus s h
orderly_calls (closes r reason) s may h = orderly_closed r reason s h
orderly_calls (breaks reason) s may h = orderly_ended reason s h

head_live : (w : Whole) (u : Value) (later : List Value) → w.coming ≡ u ∷ later → Firsts Left (IsLive w.end) w.coming →
    IsDr u → (n : ℕ) → shuts_of Left u ≡ Some n → IsLive w.end n
head_live w u later e firsts dr n k = (subst (Firsts Left (IsLive w.end)) e firsts).0 n (dr_is u n dr k)

plain_of : (c : Course) → IsOngoing c → c.disconnects.strays ≡ false → IsPlain c
plain_of c h strays = record { left = h.sure.left; right = h.sure.right; strays = strays; two = h.two }

module _ (local : Local) (w : Whole) (j : Joined local w) where
  known_so : Known w
  known_so = record { peers = j.peers; selects = λ going. next_selects local w (j.followed going); fine = j.fine }

  -- a DR that the end takes is for a connection that it has, or a DR that closed nothing has passed
  known_by : (b : Bool) → w.judge.course.disconnects.strays ≡ b → IsOngoing w.judge.course → (u : Value) (later : List Value) →
      w.coming ≡ u ∷ later →
      w.end.ended ≡ None → IsDr u → (n : ℕ) → shuts_of Left u ≡ Some n → IsLive w.end n ⊎ (w.judge.course.disconnects.strays ≡ true)
  known_by b e going u later come was dr n k = grind (arith, head_live, plain_of)

  taking : (u : Value) (later : List Value) → w.coming ≡ u ∷ later → IsOngoing w.judge.course →
      Followed local (record w { end = react u w.end; put = w.put ++ put_for u w.end; coming = later })
  taking u later e going =
      whole_takes local w (j.followed going) j.kept.sane (j.peers going) (j.kept.offers going) j.orderly (j.local_is going) u later e
      (grind (arith, none_of, over_takes)) (λ was. known_by w.judge.course.disconnects.strays refl going u later e was)
      (known_so.selects going u later e)

  calling : (call : UserCall) → MayCall call w.end → IsOngoing w.judge.course →
      Followed local (record w { end = user_does call w.end; put = w.put ++ put_by call w.end })
  calling call may going = grind (arith, whole_calls)

  abbrev AfterOther : Value → Type 0
  AfterOther v = Followed local (record w { judge = (takes Right v w.judge).state; coming = w.coming ++ v ∷ [] })
      × AreNamedApart Right (takes Right v w.judge).state.connections

  other_by : (v : Value) → HasFieldsInRange v → IsOngoing (takes Right v w.judge).state.course → (f : Followed local w) →
      IsOngoing w.judge.course → Told v w.judge (takes Right v w.judge) ⊎ IsIdle Right v w.judge (takes Right v w.judge) → AfterOther v
  other_by v ranges after f going (inl told) = (
    other_passes local w f j.kept.sane (j.peers going) j.staged.newer v ranges told after.sure after.two,
    other_peers local w f j.kept.sane (j.peers going) j.staged.newer v ranges told after.sure after.two,
  )
  other_by v ranges after f going (inr idle) = (
    idle_passes local w f j.kept.sane (j.peers going) v ranges idle,
    idle_peers local w f j.kept.sane (j.peers going) v ranges idle,
  )

  other_goes : (v : Value) → HasFieldsInRange v → IsOngoing (takes Right v w.judge).state.course → AfterOther v
  other_goes v ranges after =
      let going = before_going (passing Right v) w.judge after in
      let f = j.followed going in
      other_by v ranges after f going (comes_for w.judge (j.fine going) v going.sure.left going.sure.right f.zero after.sure)

  rubbish_by : {A : Type 0} → IsOngoing (passes (rubbish Right) w.judge).course → A
  rubbish_by after = grind (arith, before_going)

-- ---- the unit that is passing

-- It is right, or a CR and there are too many connections, or it is not judged, since a DR has closed nothing or a connection has lost its
-- judgement.
abbrev pub IsFine : Whole → Value → Type 0
IsFine w v = ((takes Left v w.judge).told.finding ≡ Kept) ⊎ (((takes Left v w.judge).told.finding ≡ TooMany)
    ⊎ (((takes Left v w.judge).told.finding ≡ NotJudged) × ((w.judge.course.disconnects.strays ≡ true) ⊎ (w.judge.course.loose ≡ true))))

pub fine_request : (w : Whole) (v : Value) →
    ((takes Left v w.judge).told.finding ≡ Kept) ⊎ ((takes Left v w.judge).told.finding ≡ TooMany) → IsFine w v
fine_request w v h = grind arith

-- it is so, and all holds after it
pub record Goes (local : Local) (w : Whole) (v : Value) (rest : List Value) : Type 0 where
  pub fine : IsFine w v
  pub followed : Followed local (record w { put = rest; begun = false; judge = (takes Left v w.judge).state })
  pub peers : AreNamedApart Right (takes Left v w.judge).state.connections

goes_of : (local : Local) (w : Whole) (v : Value) (rest : List Value) → Passed local w v rest → Goes local w v rest
goes_of local w v rest p = record { fine = grind arith; followed = p.followed; peers = p.peers }

module _ (local : Local) (w : Whole) (j : Joined local w) (v : Value) (rest : List Value) (e : w.put ≡ v ∷ rest) (begun : w.begun ≡ true)
    (going : IsOngoing w.judge.course) where
  abbrev f : Followed local w
  f = j.followed going

  is_loose : (p : ℕ) (c : Connection) → slice_get w.judge.connections p ≡ Some c → c.is_judged ≡ false → (b : Bool) →
      w.judge.course.loose ≡ b → b ≡ true
  is_loose p c h lost b is = grind (arith, differ)

  stray_goes : (m source : ℕ) → v ≡ disconnected m source → w.judge.course.disconnects.strays ≡ true → Goes local w v rest
  stray_goes m source is strays =
      subst (λ (u : Value). Goes local w u rest) (sym is) (goes_of local w (disconnected m source) rest
      (dc_goes local w f j.kept.sane (j.peers going) m source rest (e ∙ ap (λ (u : Value). u ∷ rest) is) begun going.sure.left strays
      (dc_known Left w v rest j.informed going.sure.right begun e (ap is_dc is))))

  -- of a connection that has lost its judgement
  lost_goes : (p : ℕ) (c : Connection) → slice_get w.judge.connections p ≡ Some c → c.is_judged ≡ false → (m source : ℕ) →
      IsIgnored v w.judge ⊎ ((v ≡ disconnected m source) × (w.judge.course.disconnects.strays ≡ true)) → Goes local w v rest
  lost_goes p c at lost m source (inl ignored) = record {
    fine = inr (inr (ignored.found, inr (is_loose p c at lost w.judge.course.loose refl)));
    followed = ignored_passes local w f j.kept.sane (j.peers going) v rest e begun going.sure.left ignored;
    peers = ignored_peers local w f j.kept.sane (j.peers going) v rest e begun going.sure.left ignored;
  }
  lost_goes p c at lost m source (inr (is, strays)) = stray_goes m source is strays

  of_goes : (p : ℕ) (c : Connection) → slice_get w.judge.connections p ≡ Some c → is_tracked c ≡ true →
      IsOf c.left.reference c.right.reference v → (b : Bool) → c.is_judged ≡ b → Goes local w v rest
  of_goes p c at tracked own true judged =
      goes_of local w v rest
      (own_goes local w f j.kept.sane (j.peers going) v rest p c e begun going.sure.left at tracked own judged)
  of_goes p c at tracked own false lost =
      let g = f.lines p c at tracked in
      let mine = ours_so g.r g.peer v (grind arith) in
      lost_goes p c at lost g.peer g.r (lost_by local w f j.kept.sane (j.peers going) v rest e begun going.sure.left p c at tracked g mine
      lost g.line.put refl)

  owned_goes : IsOwned w.judge v → Goes local w v rest
  owned_goes (asking x is) =
      let put = e ∙ ap (λ (u : Value). u ∷ rest) is in
      subst (λ (u : Value). Goes local w u rest) (sym is) (record {
        fine = fine_request w (request x)
            (is_right local x rest w put begun going.sure.left j.staged.newer (j.staged.stage going.sure.left));
        followed = request_passes local w f j.kept.sane (j.peers going) x rest put;
        peers = request_peers local w f j.kept.sane (j.peers going) x;
      })
  owned_goes (of p c at tracked own) = of_goes p c at tracked own c.is_judged refl
  owned_goes (stray m source is strays) = stray_goes m source is strays

  pub goes : Goes local w v rest
  goes = owned_goes (subst (AllByRecursion (IsOwned w.judge)) e f.owned).0

pub mild_of : (w : Whole) (v : Value) → IsFine w v → IsMild (takes Left v w.judge).told.finding
mild_of w v h = grind arith

-- so it breaks no rule
own_keeps : (local : Local) (w : Whole) (v : Value) (rest : List Value) → Joined local w → w.put ≡ v ∷ rest → w.begun ≡ true →
    IsOngoing w.judge.course → (takes Left v w.judge).state.course.left_erred ≡ false
own_keeps local w v rest j e begun going =
    let mild = mild_of w v (goes local w j v rest e begun going).fine in
    own_fine Left v w.judge (mild_not (takes Left v w.judge).told.finding mild) (j.fine going)

-- ---- whatever happens

pub next_joined : (local : Local) (event : Event) (w new : Whole) → Happens Left event w new → Joined local w → Joined local new
next_joined local arrives w new (u, coming, is) j =
    let after = record w { end = react u w.end; put = w.put ++ put_for u w.end; coming = new.coming } in
    let known = known_so local w j in
    subst (Joined local) (sym is) (record {
      staged = holds_next local arrives w after (u, coming, refl) j.staged;
      kept = next_holds arrives w after (u, coming, refl) known j.kept;
      orderly = orderly_unit u w.end j.orderly;
      local_is = λ going. (unit_after u w.end (j.kept.offers going) (known.selects going u new.coming coming)).local ∙ j.local_is going;
      followed = λ going. taking local w j u new.coming coming going;
      peers = j.peers;
      fine = j.fine;
      informed = next_informed Left arrives w after (u, coming, refl) j.informed;
    })
next_joined local (calls call) w new (may, is) j =
    let after = record w { end = user_does call w.end; put = w.put ++ put_by call w.end } in
    subst (Joined local) (sym is) (record {
      staged = holds_next local (calls call) w after (may, refl) j.staged;
      kept = next_holds (calls call) w after (may, refl) (known_so local w j) j.kept;
      orderly = orderly_calls call w.end may j.orderly;
      local_is = λ going. (call_after call w.end (j.kept.offers going)).local ∙ j.local_is going;
      followed = λ going. calling local w j call may going;
      peers = j.peers;
      fine = j.fine;
      informed = next_informed Left (calls call) w after (may, refl) j.informed;
    })
next_joined local begins_own w new (some, not_begun, is) j =
    let after = record w { begun = true; judge = packet_begins Left w.judge } in
    subst (Joined local) (sym is) (record {
      staged = holds_next local begins_own w after (some, not_begun, refl) j.staged;
      kept = next_holds begins_own w after (some, not_begun, refl) (known_so local w j) j.kept;
      orderly = j.orderly;
      local_is = λ going. j.local_is (before_going (packet Left) w.judge going);
      followed = λ going. own_begins local w not_begun some (j.followed (before_going (packet Left) w.judge going));
      peers = λ going. end_begins Right w.judge.connections j.kept.sane.apart (j.peers (before_going (packet Left) w.judge going));
      fine = λ going. j.fine (before_going (packet Left) w.judge going);
      informed = next_informed Left begins_own w after (some, not_begun, refl) j.informed;
    })
next_joined local passes_own w new (v, (put, begun, is)) j =
    let after = record w { put = new.put; begun = false; judge = (takes Left v w.judge).state } in
    subst (Joined local) (sym is) (record {
      staged = holds_next local passes_own w after (v, (put, begun, refl)) j.staged;
      kept = next_holds passes_own w after (v, (put, begun, refl)) (known_so local w j) j.kept;
      orderly = j.orderly;
      local_is = λ going. j.local_is (before_going (passing Left v) w.judge going);
      followed = λ going. (goes local w j v new.put put begun (before_going (passing Left v) w.judge going)).followed;
      peers = λ going. (goes local w j v new.put put begun (before_going (passing Left v) w.judge going)).peers;
      fine = λ going. own_keeps local w v new.put j put begun (before_going (passing Left v) w.judge going);
      informed = next_informed Left passes_own w after (v, (put, begun, refl)) j.informed;
    })
next_joined local begins_other w new is j =
    let after = record w { judge = packet_begins Right w.judge } in
    subst (Joined local) (sym is) (record {
      staged = holds_next local begins_other w after refl j.staged;
      kept = next_holds begins_other w after refl (known_so local w j) j.kept;
      orderly = j.orderly;
      local_is = λ going. j.local_is (before_going (packet Right) w.judge going);
      followed = λ going. other_begins local w (j.followed (before_going (packet Right) w.judge going));
      peers = λ going. side_begins Right w.judge.connections j.kept.sane.apart (j.peers (before_going (packet Right) w.judge going));
      fine = λ going. j.fine (before_going (packet Right) w.judge going);
      informed = next_informed Left begins_other w after refl j.informed;
    })
next_joined local (passes_other v) w new (ranges, is) j =
    let after = record w { judge = (takes Right v w.judge).state; coming = w.coming ++ v ∷ [] } in
    subst (Joined local) (sym is) (record {
      staged = holds_next local (passes_other v) w after (ranges, refl) j.staged;
      kept = next_holds (passes_other v) w after (ranges, refl) (known_so local w j) j.kept;
      orderly = j.orderly;
      local_is = λ going. j.local_is (before_going (passing Right v) w.judge going);
      followed = λ going. (other_goes local w j v ranges going).0;
      peers = λ going. (other_goes local w j v ranges going).1;
      fine = λ going. other_fine Left v w.judge (j.fine (before_going (passing Right v) w.judge going));
      informed = next_informed Left (passes_other v) w after (ranges, refl) j.informed;
    })
next_joined local passes_rubbish w new is j =
    let after = record w { judge = passes (rubbish Right) w.judge } in
    subst (Joined local) (sym is) (record {
      staged = holds_next local passes_rubbish w after refl j.staged;
      kept = next_holds passes_rubbish w after refl (known_so local w j) j.kept;
      orderly = j.orderly;
      local_is = λ going. j.local_is (before_going (rubbish Right) w.judge going);
      followed = λ going. rubbish_by local w j going;
      peers = λ going. rubbish_by local w j going;
      fine = λ going. rubbish_fine Left Right w.judge (j.fine (before_going (rubbish Right) w.judge going));
      informed = next_informed Left passes_rubbish w after refl j.informed;
    })

pub all_joined : (local : Local) (events : List Event) (w new : Whole) → HappenAlong Left w events new → Joined local w →
    Joined local new
all_joined local = along_keeps (Happens Left) (Joined local) (next_joined local)

pub first_joined : (local : Local) → local.class2 ≡ true → Joined local (begin true local)
first_joined local two = grind (arith, no_item, known, holds_first local, orderly_fresh true local, first_informed Left true local)

has_none : {A : Type 0} (a b : Bool) → a ≡ false → b ≡ true → (a || not b) ≡ true → A
has_none h b h2 k e = grind arith

-- while the end is not over, class 0 is selected only if the end has it
module _ (local : Local) (w : Whole) (lasts : w.end.ended ≡ None) (no_zero : local.class0 ≡ false) (two : local.class2 ≡ true)
    (selected : w.judge.course.class ≡ Some Zero) where
  not_selected : Stage local w → ⊥
  not_selected h = grind (arith, over_not, has_none)

pub gone : (local : Local) (events : List Event) (w : Whole) (n source reason : ℕ) (user : List ℕ) (more : List Value) →
    local.class0 ≡ false → local.class2 ≡ true → HappenAlong Left (begin true local) events w →
    w.coming ≡ disconnect n source reason user ∷ more → w.end.ended ≡ None → value_at n w.end.live ≡ None →
    is_stopped Left w.judge.course ≡ false → is_stopped Right w.judge.course ≡ false → w.judge.course.disconnects.strays ≡ true
gone local events w n source reason user more no_zero two along coming lasts none left right =
    grind (arith, not_selected, all_joined local events (begin true local) w along (first_joined local two), first_joined local two)
