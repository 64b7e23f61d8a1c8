-- A break is a break of the machine.
-- For breaks and ends, packets, carries and the laws of `standing`.
use Rattle.osi_between.specs.Between.{Lost}
use Rattle.osi_between.specs.Messages as carrier
use Rattle.osi_pair.proofs.Vocabulary.{cut_line, take-map, ◌≡◌, refl, sym, ap, subst, ℕ, ◌≤◌, Bool, true, false, List, [], ◌++◌, length}
use Rattle.osi_pair.proofs.Vocabulary.{min, Option, Some, None, option_map, arith, ◌<◌, Local, place_at, Between, Both, AreBetween}
use Rattle.osi_pair.proofs.Vocabulary.{under_way, broken_at, fresh_both, fresh_between, is_cut, progress_of, Progress, Terms, terms_of}
use Rattle.osi_pair.proofs.Vocabulary.{connection_at, Step, breaks, Line, Tables, turned, cut_channels, Message, TwoEnds, sent_by}
use Rattle.osi_pair.proofs.Vocabulary.{after_break, fresh_ends, carriers_of, IsLine, Stands, StandsAt, StandsAtBreak, AreUnderWay, HasLine}
use Rattle.osi_pair.proofs.Vocabulary.{HasJoined, IsSound, fresh_end, Left, Right, EndReason, cut_there, cut_count, SessionState as State}
use Rattle.osi_pair.proofs.flight.who_receives_what_is_in_flight.{TakeLaws, TakesFrom, takes_from}
use Rattle.osi_pair.proofs.flight.what_is_in_flight_when_an_end_acts.{Takes, Front, front_at}
use Rattle.osi_pair.proofs.flight.whether_something_is_cut_off.{found_each}
use Rattle.osi_pair.proofs.promise.matching_ends_keep_the_promises.{tables_at, is_run}
use Rattle.osi_pair.proofs.turn.what_an_acting_end_leaves_in_flight.{one_step}
use Rattle.osi_pair.proofs.turn.a_turn_keeps_the_match.{still_seated}
use Rattle.osi_pair.proofs.flight.what_a_closing_receiver_has_dropped.{alike_take}

-- what is proved of two carriers
pub record BreakLaws : Type 0 where
  pub broken : (terms : Terms) (both : Both) (b : Between) (k l : ℕ) → AreBetween terms both b → both.reach ≡ None →
      k ≤ length both.caller.state.outgoing → l ≤ length both.called.state.outgoing → Lost terms both (broken_at k l both) b
  pub takes : TakeLaws

-- ---- one connection

-- a line after the break, with the numbers of messages that remain in flight, each way
record HasCut (p : TwoEnds) (c : Between) (lines : List Line) (n : ℕ) (keep : ℕ × ℕ) : Type 0 where
  line : Line
  found : connection_at n lines ≡ Some line
  is : IsLine n p c (cut_line keep.0 keep.1 line)

left_over : (end : Bool) (n : ℕ) (o : Option EndReason) (g h : Progress) (c : Bool) (H : Option (List ℕ) → Type 0) (x : State)
    (ms : List Message) (old new : Both) (b now : Between) (gone : List carrier.Message) →
    under_way end n old b ≡ under_way end n new now ++ gone → h ≡ g → Takes x ms → AreUnderWay o g c H x ms (under_way end n old b) →
    Front o h true H x ms (under_way end n new now)
left_over end n o g h c H x ms old new b now gone all same takes w =
    let first = under_way end n new now in
    front_at o o g h c true H x ms (length first) (under_way end n old b) first w takes refl
    (grind (arith, take-map, alike_take))

break_line : (n k l : ℕ) (p : TwoEnds) (b : Between)
    (lost : Lost (terms_of p.left.end.carrier.local p.right.end.carrier.local) (carriers_of p) (carriers_of (after_break k l p)) b)
    (t : Tables) → TakesFrom Left t → TakesFrom Right t → HasLine n p b t →
    (keep : ℕ × ℕ) × HasCut (after_break k l p) lost.now t.lines n keep
break_line n k l p b lost t rightward leftward h =
    let old = carriers_of p in
    let new = carriers_of (after_break k l p) in
    let out = left_over true n p.right.end.carrier.ended (progress_of (place_at n b.called)) (progress_of (place_at n lost.now.called))
    (is_cut true old) (HasJoined n p.right) h.line.peer.session.state h.line.own.channel old new b lost.now
    (lost.loses true n).gone (lost.loses true n).all (ap progress_of (lost.stays false n)) (rightward n h.line h.found) h.is.rightward in
    let back = left_over false n p.left.end.carrier.ended (progress_of (place_at n b.caller)) (progress_of (place_at n lost.now.caller))
    (is_cut false old) (HasJoined n p.left) h.line.own.session.state h.line.peer.channel old new b lost.now
    (lost.loses false n).gone (lost.loses false n).all (ap progress_of (lost.stays true n))
    (leftward n (turned h.line) h.found) h.is.leftward in
    ((out.keep, back.keep), record { line = h.line; found = h.found; is = search (arith, still_seated) })

-- ---- a break

pub break_at : BreakLaws → (p : TwoEnds) (steps : List Step) (k l : ℕ) → StandsAt p steps → p.reach ≡ None →
    StandsAtBreak (after_break k l p) steps
break_at laws p steps k l at none =
    let s = at.stands in
    let t = tables_at p steps in
    let run = is_run p steps at in
    let new = after_break k l p in
    let lost = laws.broken (terms_of p.left.end.carrier.local p.right.end.carrier.local) (carriers_of p) at.now (min k (sent_by Left p))
    (min l (sent_by Right p)) s.between
    (ap (option_map (λ r. (r.left, r.right))) none) (omega arith) (omega arith) in
    let each = found_each (length t.lines) (ℕ × ℕ) (HasCut new lost.now t.lines) (0, 0) (λ n some few.
    break_line n k l p at.now lost t (takes_from laws.takes Left t run) (takes_from laws.takes Right t run) (s.lines n some few)) in
    let left : ℕ → ℕ = λ n. (each.at n).0 in
    let right : ℕ → ℕ = λ n. (each.at n).1 in
    let cut : Tables = record t { broken = true; lines = cut_channels left right 1 t.lines } in
    let count = cut_count left right 1 t.lines in
    let lines : (n : ℕ) → 0 < n → n ≤ length cut.lines → HasLine n new lost.now cut = λ n a c.
    let h = each.is n a (subst (λ (m : ℕ). n ≤ m) count c) in
    record { line = cut_line (left n) (right n) h.line; found = cut_there left right n t.lines h.line h.found; is = h.is } in
    let stands : Stands new lost.now cut = grind arith in
    record {
      keep_left = left;
      keep_right = right;
      stands = one_step p new steps (breaks left right) tt refl at.numbered
          (record { now = lost.now; stands = subst (Stands new lost.now) (sym (grind arith)) stands });
    }

-- ---- nothing has happened

-- a new end is in order
abbrev pub FreshSound : Type 0
FreshSound = (is_caller : Bool) (local : Local) → IsSound (fresh_end is_caller local)

pub fresh_at : FreshSound → (caller called : Local) →
    AreBetween (terms_of caller called) (fresh_both caller called) (fresh_between caller called) → StandsAt (fresh_ends caller called) []
fresh_at sound caller called h = record { numbered = tt; now = fresh_between caller called; stands = (grind arith) }
