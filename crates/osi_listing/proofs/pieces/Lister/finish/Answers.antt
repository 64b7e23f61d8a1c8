use Rattle.osi_listing.proofs.what_is_written_is_the_listing.{finish_going, finish_faulty}
use Rattle.osi_listing.proofs.pieces.Lister.finish.Goals as goal

pub returns-in_ok-push_rest-in-Going-clause-listing : goal.returns-in_ok-push_rest-in-Going-clause-listing
returns-in_ok-push_rest-in-Going-clause-listing c = λ octets lines fed.
    finish_going c.args.self.now.stage c.args.self.now.work octets lines c.args.text.now.items c.push_rest.new.text.items c.rest_len.result
    c.status.result c.in-Going.is fed.stands c.rest_len.ensures c.in_ok-push_rest-in-Going.ensures c.status.ensures

pub returns-in-Faulty-clause-listing : goal.returns-in-Faulty-clause-listing
returns-in-Faulty-clause-listing c = λ octets lines fed.
    finish_faulty c.args.self.now.stage c.args.self.now.work octets lines c.args.text.now.items c.status-in-Faulty.result c.in-Faulty.is
    fed.stands
    c.status-in-Faulty.ensures
