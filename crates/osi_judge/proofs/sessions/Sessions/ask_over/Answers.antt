use Rattle.osi_judge.proofs.Vocabulary.{◌<◌, List, length, subst, sym, arith, slice_get, Past, placed, AllPast}
use Rattle.osi_judge.proofs.each_connection_is_kept.{one_replaced, room_placed}
use Rattle.osi_judge.proofs.sessions.Sessions.ask_over.Goals as goal

pub returns-clause-ok : goal.returns-clause-ok
returns-clause-ok c s j h hj =
    let live = c.sum_up_at.new.live.items in
    let count = c.sum_up_at.ensures.count in
    let within = c.requires in
    let lt : c.args.place < length live = omega (arith, count, within) in
    let r = one_replaced live c.args.self.now.done s c.args.place c.index_mut.result.now c.args.connection c.in_ok-past.past j lt hj
    (c.in_ok-past.ensures.past s.live h.live) (c.sum_up_at.ensures.holds s.live h.live) h.done in
    record {
      live = r.0;
      done = subst (λ (l : List Past). AllPast l (placed c.args.place j s (slice_get s.live c.args.place)).done)
          (sym c.in_ok-push.ensures.ok) r.1;
      room = room_placed c.args.place j s (slice_get s.live c.args.place) c.args.self.now.room h.room;
    }
