use Rattle.osi_listing.proofs.Vocabulary.{◌++◌, unfetched}
use Rattle.osi_listing.proofs.a_trace_is_a_prefix_of_the_listing.{whole_listing, fetched_begins}
use Rattle.osi_listing.proofs.laws.what_is_fetched_is_the_listing.Goals as goal

pub returns-clause-whole : goal.returns-clause-whole
returns-clause-whole c = λ trace octets fetched h e. whole_listing trace.keeping trace.lister octets (fetched ++ unfetched trace) h e

pub returns-clause-begins : goal.returns-clause-begins
returns-clause-begins c = λ trace octets fetched h. fetched_begins trace.keeping trace.lister octets fetched (unfetched trace) h
