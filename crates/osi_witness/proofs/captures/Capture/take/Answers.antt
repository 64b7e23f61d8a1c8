use Rattle.std.proofs.Common.{ap, subst, sym}
use Rattle.osi_witness.specs.Growing.{AllSayMore}
use Rattle.osi_witness.proofs.a_piece_adds_to_its_side.{all_on, all_same}
use Rattle.osi_witness.proofs.captures.Capture.take.Goals as goal

pub returns-in_default-clause-more : goal.returns-in_default-clause-more
returns-in_default-clause-more c h =
    subst (AllSayMore c.args.side c.args.self.now.conversations.items) (sym (ap (λ x. x.items) c.stop_by_transport.ensures))
    (all_same c.args.side c.args.self.now.conversations.items)

pub units-init : goal.units-init
units-init c = record { untold = λ h. h; more = λ h. all_same c.args.side c.args.self.now.conversations.items }

pub units-preserved : goal.units-preserved
units-preserved c = record {
  untold = λ h. c.in_ok-take_unit.ensures.untold (c.units.invariant.untold h);
  more = λ h.
      all_on c.args.side c.args.self.now.conversations.items c.units.self.conversations.items c.take_unit.new.self.conversations.items
      (c.units.invariant.more h) (c.in_ok-take_unit.ensures.more (c.units.invariant.untold h));
}
