use Rattle.osi_listing.proofs.Vocabulary.{arith, ap, ◌∙◌, Work}
use Rattle.osi_listing.proofs.what_one_more_packet_adds.{moves_both, moves_packet}
use Rattle.osi_listing.proofs.work.Work.list_whole.Goals as goal

pub packets-preserved : goal.packets-preserved
packets-preserved c = λ ready.
    let so_far = c.packets.invariant ready in
    let passes = c.in-Some.ensures.passes in
    let now = c.packets.self in
    let next : Work =
    record {
      cutter = c.pass.new.self;
      streams = c.list_packet.new.streams;
      counts = c.list_packet.new.counts;
      offset = c.saturating_add-self.result;
    } in
    let rest = c.packets.rest.now in
    let left = c.split_at.result.1.now in (
      moves_both c.args.self.now now next c.args.text.now.items c.packets.text.items c.list_packet.new.text.items c.args.piece.now rest left
          so_far.0
          (grind (arith, moves_packet)),
      (ap (λ h. h.octets) passes.after ∙ passes.empty, ap (λ h. h.fault) passes.after ∙ passes.faultless),
    )

pub returns-clause-none_left : goal.returns-clause-none_left
returns-clause-none_left c = λ ready. let so_far = c.packets.invariant ready in c.in_default.ensures.all so_far.1.0 so_far.1.1
