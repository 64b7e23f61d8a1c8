use Rattle.osi_class.proofs.Vocabulary.{GivesSlot, two_standing, sym, subst, IfSome, AnyLink, any_standing}
use Rattle.osi_class.proofs.either.AnyLinkLink.give_slot.Goals as goal

pub returns-in-Two-clause-given : goal.returns-in-Two-clause-given
returns-in-Two-clause-given c =
    subst (λ (l : AnyLink). IfSome c.give_slot-in-Two.result
    (λ slot. GivesSlot slot (any_standing l) (two_standing c.give_slot-in-Two.new.self.ends c.give_slot-in-Two.new.self.flow)))
    (sym c.in-Two.is) c.give_slot-in-Two.ensures.given
