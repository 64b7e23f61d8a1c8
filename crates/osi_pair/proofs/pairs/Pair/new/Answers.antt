use Rattle.osi_pair.proofs.Vocabulary.{[], sym, subst, TwoEnds, HoldLess, StandsAt}
use Rattle.osi_pair.proofs.event.each_end_holds_less_than_a_packet.{fresh_less}
use Rattle.osi_pair.proofs.pairs.Pair.new.Goals as goal

pub returns-clause-stands : goal.returns-clause-stands
returns-clause-stands c =
    subst (λ (p : TwoEnds). StandsAt p []) (sym c.new.ensures) (c.how_two_ends_stand.ensures.begins c.args.left c.args.right)

pub returns-clause-safe : goal.returns-clause-safe
returns-clause-safe c =
    c.what_two_ends_tell.ensures.all _
    (record {
      steps = [];
      stands = subst (λ (p : TwoEnds). StandsAt p []) (sym c.new.ensures) (c.how_two_ends_stand.ensures.begins c.args.left c.args.right);
      held = subst HoldLess (sym c.new.ensures) (fresh_less c.args.left c.args.right);
    })

pub invariant_of-result : goal.invariant_of-result
invariant_of-result c = record {
  steps = [];
  stands = subst (λ (p : TwoEnds). StandsAt p []) (sym c.new.ensures) (c.how_two_ends_stand.ensures.begins c.args.left c.args.right);
  held = subst HoldLess (sym c.new.ensures) (fresh_less c.args.left c.args.right);
}
