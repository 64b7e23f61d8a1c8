use Rattle.osi_class.proofs.Vocabulary.{min, Ends, GivesSlot, joining, zero_standing, length, map, refl, subst, Data0}
use Rattle.osi_class.proofs.giving.a_part_that_is_given_at_once.{part_of_class_0}
use Rattle.osi_class.proofs.class_zero.Class0Link.give_slot.Goals as goal

pub returns-clause-given : goal.returns-clause-given
returns-clause-given c =
    let ends : Ends =
    record {
      limit = c.self.inside.limit;
      unsent = c.self.inside.outgoing.unsent;
      joining = joining c.self.inside.begun (map (λ v. v.items) c.self.inside.whole.items);
    } in
    subst (λ (e : Ends). GivesSlot Data0 (zero_standing e) (zero_standing e)) c.self.view_is
    (λ tsdu. part_of_class_0 ends tsdu (min ends.limit (length tsdu)) refl (c.if-not-is_empty.ensures.nothing refl))
