use Rattle.std.proofs.Common.{rules}
use Rattle.osi_listing.specs.Streams.{join_of}
use Rattle.osi_listing.proofs.streams.Streams.new.Goals as goal

pub returns-clause-holds : goal.returns-clause-holds
unfolding join_of
returns-clause-holds c = record { zero = search rules; two = λ d. search rules }
