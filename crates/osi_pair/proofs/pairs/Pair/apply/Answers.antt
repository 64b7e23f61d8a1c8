use Rattle.osi_pair.proofs.Vocabulary.{List, OnOk, IfOk, subst, ends_in, Step, StandsAfter, StandsAt, arith, NotesIfCutShort, pairing_in}
use Rattle.osi_pair.proofs.Vocabulary.{Pairing}
use Rattle.osi_pair.proofs.event.an_event_is_applied_or_refused.{result_reached, result_stands, result_carries, result_cut, result_full}
use Rattle.osi_pair.proofs.event.what_an_event_does.{EventLaws}
use Rattle.osi_pair.proofs.pairs.Pair.apply.Goals as goal

pub invariant_of-self : goal.invariant_of-self
invariant_of-self c =
    let laws : EventLaws = assumption in
    result_reached laws c.args.event.now (ends_in c.self.inside.ends) (ends_in c.apply.new.self) c.apply.result c.can_happen.ensures
    c.apply.ensures.fits c.apply.ensures.does c.apply.ensures.err c.self.invariant

pub returns-clause-stands : goal.returns-clause-stands
returns-clause-stands c =
    subst (λ (p : Pairing). OnOk c.apply.result
    ((steps : List Step) → StandsAt p.ends steps → StandsAfter c.args.event.now p.ends (ends_in c.apply.new.self) steps)) c.self.view_is
    (grind (arith, result_stands))

pub returns-clause-carried : goal.returns-clause-carried
returns-clause-carried c = grind (arith, result_carries)

pub returns-clause-cut : goal.returns-clause-cut
returns-clause-cut c =
    let laws : EventLaws = assumption in
    subst (λ (p : Pairing). IfOk c.apply.result (λ applied. NotesIfCutShort p.ends applied (ends_in c.apply.new.self))) c.self.view_is
    (result_cut laws c.args.event.now (ends_in c.self.inside.ends) (ends_in c.apply.new.self) c.apply.result c.self.invariant
    c.apply.ensures.carried c.apply.ensures.cut)

pub returns-clause-full : goal.returns-clause-full
returns-clause-full c =
    let laws : EventLaws = assumption in
    result_full laws c.args.event.now (ends_in c.self.inside.ends) (pairing_in c.apply.new.self) c.apply.result c.self.invariant
    c.apply.ensures.carried c.apply.ensures.full

pub returns-clause-safe : goal.returns-clause-safe
returns-clause-safe c =
    let laws : EventLaws = assumption in
    c.what_two_ends_tell.ensures.all (ends_in c.apply.new.self)
    (result_reached laws c.args.event.now (ends_in c.self.inside.ends) (ends_in c.apply.new.self) c.apply.result c.can_happen.ensures
    c.apply.ensures.fits c.apply.ensures.does c.apply.ensures.err c.self.invariant)
