use Rattle.std.proofs.Common.{◌≡◌, ◌∙◌, ap, subst, sym}
use Rattle.osi_witness.specs.Growing.{AllSayMore}
use Rattle.osi_witness.specs.Whole.{AreUntold}
use Rattle.osi_witness.specs.declared.captures.Capture.{Capture}
use Rattle.osi_witness.proofs.a_piece_adds_to_its_side.{all_on, all_same}
use Rattle.osi_witness.proofs.captures.Capture.take_packets.Goals.{else-not-is_empty, then-not-is_empty}
use Rattle.osi_witness.proofs.captures.Capture.take_packets.Goals as goal

pub packets-init : goal.packets-init
packets-init c = record { untold = λ h. h; more = λ h. all_same c.args.side c.args.self.now.conversations.items }

pub packets-preserved : goal.packets-preserved
packets-preserved c =
    let old = c.args.self.now.conversations.items in
    let same : c.if-not-is_empty.self.conversations.items ≡ c.take.new.self.conversations.items =
    elim c.if-not-is_empty.branch [
      | then-not-is_empty w ↦ ap (λ (x : Capture). x.conversations.items) w.self-is ∙ ap (λ x. x.items) c.advance.ensures
      | else-not-is_empty w ↦ ap (λ (x : Capture). x.conversations.items) w.self-is ∙ ap (λ x. x.items) c.advance.ensures
    ] in
    record {
      untold = λ h. subst AreUntold (sym same) (c.in_ok-take.ensures.untold (c.packets.invariant.untold h));
      more = λ h.
          subst (AllSayMore c.args.side old) (sym same)
          (all_on c.args.side old c.packets.self.conversations.items c.take.new.self.conversations.items (c.packets.invariant.more h)
          (c.in_ok-take.ensures.more (c.packets.invariant.untold h)));
    }
