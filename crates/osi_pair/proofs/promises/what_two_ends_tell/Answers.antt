use Rattle.osi_pair.proofs.promise.matching_ends_keep_the_promises as promises
use Rattle.osi_pair.proofs.promises.what_two_ends_tell.Goals as goal

pub returns-clause-legal_journal : goal.returns-clause-legal_journal
returns-clause-legal_journal c p steps at = promises.legal_journal p steps at c.the_tables_are_the_machine.ensures.legal

pub returns-clause-asked : goal.returns-clause-asked
returns-clause-asked c p steps at = promises.all_asked p steps at c.what_two_tables_tell.ensures.offered

pub returns-clause-one_holder : goal.returns-clause-one_holder
returns-clause-one_holder c p steps at =
    promises.one_holder p steps at c.what_two_tables_tell.ensures.holder c.what_two_tables_tell.ensures.offered

pub returns-clause-agreement : goal.returns-clause-agreement
returns-clause-agreement c p steps at = promises.agreement p steps at c.what_two_tables_tell.ensures.agreement

pub returns-clause-duplex : goal.returns-clause-duplex
returns-clause-duplex c p steps at = promises.duplex p steps at c.what_two_tables_tell.ensures.duplex

pub returns-clause-confirmed_is_seen : goal.returns-clause-confirmed_is_seen
returns-clause-confirmed_is_seen c p steps at = promises.confirmed_is_seen p steps at c.what_two_tables_tell.ensures.confirmed

pub returns-clause-no_fault : goal.returns-clause-no_fault
returns-clause-no_fault c p steps at = promises.no_fault p steps at c.what_two_tables_tell.ensures.faultless

pub returns-clause-ends : goal.returns-clause-ends
returns-clause-ends c p steps at = promises.few_reasons p steps at

pub returns-clause-lost : goal.returns-clause-lost
returns-clause-lost c p steps at = promises.losses p steps at c.what_two_tables_tell.ensures.lost

pub returns-clause-all : goal.returns-clause-all
returns-clause-all c p at = record {
  legal_journal = promises.legal_journal p at.steps at.stands c.the_tables_are_the_machine.ensures.legal;
  asked = promises.all_asked p at.steps at.stands c.what_two_tables_tell.ensures.offered;
  one_holder = promises.one_holder p at.steps at.stands c.what_two_tables_tell.ensures.holder c.what_two_tables_tell.ensures.offered;
  agreement = promises.agreement p at.steps at.stands c.what_two_tables_tell.ensures.agreement;
  duplex = promises.duplex p at.steps at.stands c.what_two_tables_tell.ensures.duplex;
  confirmed_is_seen = promises.confirmed_is_seen p at.steps at.stands c.what_two_tables_tell.ensures.confirmed;
  no_fault = promises.no_fault p at.steps at.stands c.what_two_tables_tell.ensures.faultless;
  ends = promises.few_reasons p at.steps at.stands;
  losses = promises.losses p at.steps at.stands c.what_two_tables_tell.ensures.lost;
  taken = record {
    steps = at.steps;
    stands = at.stands;
    prefix = c.what_is_taken_was_sent.ensures.prefix p at.steps at.stands;
    all_taken = λ r rest left right. c.what_is_taken_was_sent.ensures.all_taken p at.steps r at.stands at.held rest left right;
    nothing_kept = λ rest side. c.what_is_taken_was_sent.ensures.nothing_kept p at.steps at.stands at.held rest side;
  };
}
