use Rattle.osi_judge.proofs.Vocabulary.{◌∙◌, sym, kept_on}
use Rattle.osi_judge.proofs.a_dt_is_judged_if_there_is_room.{has_room, no_room}
use Rattle.osi_judge.proofs.what_holds_of_a_result.{on_ok}
use Rattle.osi_judge.proofs.connections.Connection.add_heard.Goals as goal

pub returns-then-not-fits-clause-ok : goal.returns-then-not-fits-clause-ok
returns-then-not-fits-clause-ok c j h =
    no_room c.args.direction c.args.at c.args.end c.args.octets.now c.args.self.now j
    (sym (c.fits.ensures (kept_on j) (c.kept-kept.ensures j h c.requires)) ∙ c.if-not-fits.true) h

pub returns-clause-ok : goal.returns-clause-ok
returns-clause-ok c =
    on_ok c.add_all.result c.add_all.ensures.ok (λ k j h.
    has_room c.args.direction c.args.at c.args.end c.args.octets.now c.args.self.now c.add_all.new.self j
    (sym (c.fits.ensures (kept_on j) (c.kept-kept.ensures j h c.requires)) ∙ c.if-not-fits.false) h (k j h))
