use Rattle.std.proofs.Common.{subst, sym, ℕ}
use Rattle.osi_listing.proofs.a_trace_is_a_prefix_of_the_listing.{fetched_begins}
use Rattle.osi_listing.specs.Traced.{IsListedInPart, unfetched, counted}
use Rattle.osi_c.proofs.a_trace_counts_the_first_octets.{counts_first}
use Rattle.osi_c.proofs.traces.counted.Goals as goal

pub returns-clause-meant : goal.returns-clause-meant
returns-clause-meant c = record {
  first = λ passed fetched traced.
      counts_first passed fetched _ (counted c.args.trace.now) c.counts-counts.ensures.value
      (subst (λ (many : ℕ). IsListedInPart passed fetched many (counted c.args.trace.now)) (sym c.octets.ensures.value)
      (fetched_begins c.args.trace.now.keeping c.args.trace.now.lister passed fetched (unfetched c.args.trace.now) traced));
  all = c.octets.ensures.fed;
}
