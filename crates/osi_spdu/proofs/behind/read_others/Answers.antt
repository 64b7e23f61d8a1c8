use Rattle.osi_spdu.proofs.Vocabulary.{err_from_is_err_and, later_of, ◌≤◌, length, arith, rules}
use Rattle.osi_spdu.proofs.tsdu.units_after_the_first.{behind_full, behind_bad, left_none, leads_start, leads_next}
use Rattle.osi_spdu.proofs.form.values_in_memory_are_in_their_form.{unit_formed}
use Rattle.osi_spdu.proofs.behind.read_others.Goals as goal

pub units-init : goal.units-init
units-init c = record { leads = leads_start c.args.room c.args.at c.args.octets.now; within = c.requires }

pub returns-then-room-eq0-clause-refused : goal.returns-then-room-eq0-clause-refused
returns-then-room-eq0-clause-refused c = grind (arith, behind_full)

pub returns-in_err-later-clause-refused : goal.returns-in_err-later-clause-refused
returns-in_err-later-clause-refused c = grind (arith, rules, err_from_is_err_and, behind_bad)

pub units-preserved : goal.units-preserved
units-preserved c =
    let some : 1 ≤ length c.units.rest.now = search rules in
    let room : 1 ≤ c.units.room = omega (arith, c.if-room-eq0.false) in
    record {
      leads = leads_next c.args.room c.args.at c.args.octets.now c.units.room c.units.at c.units.rest.now (later_of c.in_ok-later.later)
          c.units.invariant.leads room some
          c.in_ok-later.ensures.value (unit_formed c.in_ok-later.later.unit);
      within = omega (arith, c.units.invariant.within, c.in_ok-later.ensures.whole);
    }

pub returns-clause-left : goal.returns-clause-left
returns-clause-left c = grind (arith, rules, left_none)
