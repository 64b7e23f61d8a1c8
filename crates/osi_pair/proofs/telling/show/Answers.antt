use Rattle.osi_pair.proofs.Vocabulary.{◌∙◌, [], ◌∷◌, map, sym, ap, arith, Indication, map-append, shown_by, entry_by}
use Rattle.osi_pair.proofs.carry.users_receive_one_after_the_other.{shown_end, shown_then, notes_by}
use Rattle.osi_pair.proofs.telling.show.Goals as goal

pub returns-in_default-clause-tells : goal.returns-in_default-clause-tells
returns-in_default-clause-tells c =
    shown_end c.args.side c.args.stack.now (map entry_by c.args.journal.now.items) c.shown.count c.shown.stack c.next_indication.new.self
    (map entry_by c.shown.journal.items) c.shown.invariant.0 (sym c.in_default.ensures.shown) c.in_default.ensures.rest

pub returns-in_default-clause-notes : goal.returns-in_default-clause-notes
returns-in_default-clause-notes c = search (arith, notes_by)

pub returns-clause-notes : goal.returns-clause-notes
returns-clause-notes c = search (arith, notes_by)

pub shown-preserved : goal.shown-preserved
shown-preserved c = (
  shown_then c.args.side c.args.stack.now (map entry_by c.args.journal.now.items) c.shown.count c.shown.stack c.next_indication.new.self
      (map entry_by c.shown.journal.items) (map entry_by c.note.new.journal.items) (c.in-Some.reference.0, shown_by c.in-Some.indication)
      c.shown.invariant.0 (sym c.in-Some.ensures.shown) c.in-Some.ensures.rest
      (ap (map entry_by) c.note.ensures.items
      ∙ map-append entry_by c.shown.journal.items (Indication c.args.side c.in-Some.reference c.in-Some.indication ∷ [])),
  omega arith,
  omega arith,
  omega arith,
)
