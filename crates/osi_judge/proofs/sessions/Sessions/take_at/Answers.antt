use Rattle.osi_judge.proofs.Vocabulary.{◌<◌, ◌≤◌, ◌∙◌, length, ap, subst, sym, arith, other, value, Connection, meant, line_in, HoldsJoined}
use Rattle.osi_judge.proofs.what_holds_of_a_result.{on_ok, on_ok_both, on_err, any_ok}
use Rattle.osi_judge.proofs.each_connection_is_kept.{none_changed, one_changed, one_kept, room_changed}
use Rattle.osi_judge.proofs.who_is_to_blame.{none_changes, one_changes}
use Rattle.osi_judge.proofs.who_broke_first_stays_to_blame.{still_none, still_one}
use Rattle.osi_judge.proofs.sessions.Sessions.take_at.Goals as goal

pub returns-then-place-count_of-clause-ok : goal.returns-then-place-count_of-clause-ok
returns-then-place-count_of-clause-ok c s h =
    let same = ap length c.deref.ensures.value in
    let le : length c.args.self.now.live.items ≤ c.args.place = omega arith in
    let r = none_changed c.args.self.now.live.items c.args.self.now.done s c.args.place
    (meant c.args.direction c.args.at (value c.args.unit.now) c.args.meaning) le h.live h.done in
    grind (arith, room_changed)

pub returns-clause-ok : goal.returns-clause-ok
returns-clause-ok c =
    on_ok c.mean.result c.mean.ensures.ok (λ k s h.
    let same = ap length c.deref.ensures.value in
    let lt : c.args.place < length c.args.self.now.live.items = omega arith in
    let r = one_changed c.args.self.now.live.items c.args.self.now.done s c.args.place c.index_mut.result.now c.mean.new.connection
    (meant c.args.direction c.args.at (value c.args.unit.now) c.args.meaning) lt
    (λ j hj. k j (subst (λ (x : Connection). HoldsJoined x j) (sym c.index_mut.ensures.value) hj)) h.live h.done in
    record {
      live = r.0;
      done = r.1;
      room = search (arith, room_changed);
    })

pub returns-clause-err : goal.returns-clause-err
returns-clause-err c =
    on_err c.mean.result c.mean.ensures.err (λ k s h.
    let lt : c.args.place < length c.args.self.now.live.items = omega arith in
    record {
      live = one_kept c.args.self.now.live.items s.live c.args.place c.index_mut.result.now c.mean.new.connection lt
          (λ j hj. k j (subst (λ (x : Connection). HoldsJoined x j) (sym c.index_mut.ensures.value) hj)) h.live;
      done = h.done;
      room = h.room;
    })

pub returns-then-place-count_of-clause-still : goal.returns-then-place-count_of-clause-still
returns-then-place-count_of-clause-still c s d number h b =
    let same = ap length c.deref.ensures.value in
    let le : length c.args.self.now.live.items ≤ c.args.place = omega arith in
    search (arith, still_none)

pub returns-clause-still : goal.returns-clause-still
returns-clause-still c =
    let d = c.args.direction in
    on_ok_both c.mean.result c.mean.ensures.ok (any_ok c.mean.result c.mean.ensures.other) (λ k e s x number h b.
    let lt : c.args.place < length c.args.self.now.live.items = omega arith in
    still_one d x number c.args.self.now.live.items s c.args.place c.index_mut.result.now c.mean.new.connection c.args.at
    (value c.args.unit.now) c.args.meaning lt
    (λ j hj. k j (subst (λ (x : Connection). HoldsJoined x j) (sym c.index_mut.ensures.value) hj))
    (e ∙ ap (λ (x : Connection). (line_in (other d) x).side.finding) c.index_mut.ensures.value) h.live b)

pub returns-then-place-count_of-clause-others : goal.returns-then-place-count_of-clause-others
returns-then-place-count_of-clause-others c s h b = grind (arith, none_changes)

pub returns-clause-others : goal.returns-clause-others
returns-clause-others c =
    let d = c.args.direction in
    on_ok_both c.mean.result c.mean.ensures.ok (any_ok c.mean.result c.mean.ensures.other) (λ k e s h b.
    let lt : c.args.place < length c.args.self.now.live.items = omega arith in
    one_changes d c.args.self.now.live.items s c.args.place c.index_mut.result.now c.mean.new.connection
    (meant d c.args.at (value c.args.unit.now) c.args.meaning) lt
    (λ j hj. k j (subst (λ (x : Connection). HoldsJoined x j) (sym c.index_mut.ensures.value) hj))
    (e ∙ ap (λ (x : Connection). (line_in (other d) x).side.finding) c.index_mut.ensures.value) h.live b)
