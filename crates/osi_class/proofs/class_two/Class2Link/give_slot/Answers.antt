use Rattle.osi_class.proofs.Vocabulary.{min, Ends, Flow, Sender, after_sent, GivesSlot, joining, Two, two_standing, arith, ℕ, length, map}
use Rattle.osi_class.proofs.Vocabulary.{sym, ◌∙◌, refl, Data2}
use Rattle.osi_class.proofs.giving.a_part_that_is_given_at_once.{part_of_class_2}
use Rattle.osi_class.proofs.class_two.Class2Link.give_slot.Goals as goal

pub returns-clause-given : goal.returns-clause-given
returns-clause-given c =
    let ends : Ends =
    record {
      limit = c.self.inside.limit;
      unsent = c.self.inside.outgoing.unsent;
      joining = joining c.self.inside.begun (map (λ v. v.items) c.self.inside.whole.items);
    } in
    let flow : Flow = record { sender = c.self.inside.sending; receiver = c.self.inside.receiving } in
    let Slots : ℕ → Sender → Two →
    Type 0 = λ number sender old. GivesSlot (Data2 number) (two_standing old.ends old.flow)
    (two_standing ends (record flow { sender = sender })) in
    let slot : Slots flow.sender.next (after_sent flow.sender) (record { ends = ends; flow = flow }) =
    λ tsdu. part_of_class_2 ends flow tsdu (min ends.limit (length tsdu)) refl (c.if-not-is_empty.ensures.nothing refl)
    (sym c.has_ack.ensures ∙ c.if-has_ack.false) (sym c.if-not-has_credit.ensures) in
    grind arith
