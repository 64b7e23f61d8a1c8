use Rattle.osi_listing.proofs.Vocabulary.{◌≡◌, ◌++◌, List, [], ◌∷◌, Some, None, join_value, join_at, AreJoins, Part, joined}
use Rattle.osi_listing.proofs.streams_after_one_more_unit.{left_as_it_was, then_some, took_zero, took_two}
use Rattle.osi_listing.proofs.streams.Streams.lone_tsdu.Goals as goal

pub returns-in-Dt0-clause-holds : goal.returns-in-Dt0-clause-holds
returns-in-Dt0-clause-holds c =
    let old = c.args.self.now in
    let first = join_value old.class_0 in
    let end = c.in-Dt0.data.end in
    let octets = c.in-Dt0.data.user.now in
    rw c.in-Dt0.is (then_some c.lone_tsdu.result (first ≡ joined first end octets)
    ((earlier : List Part) → AreJoins first (join_at old.class_2) earlier →
    AreJoins first (join_at old.class_2) (earlier ++ record { stream = None; end = end; octets = octets } ∷ []))
    (λ e earlier h. took_zero first first (join_at old.class_2) earlier end octets e h)
    c.lone_tsdu.ensures.joined)

pub returns-in-Dt2-clause-holds : goal.returns-in-Dt2-clause-holds
returns-in-Dt2-clause-holds c =
    let old = c.args.self.now in
    let others = join_at old.class_2 in
    let to = c.in-Dt2.data.destination in
    let end = c.in-Dt2.data.end in
    let octets = c.in-Dt2.data.user.now in
    rw c.in-Dt2.is (then_some c.lone_tsdu_for.result (others to ≡ joined (others to) end octets)
    ((earlier : List Part) → AreJoins (join_value old.class_0) others earlier →
    AreJoins (join_value old.class_0) others (earlier ++ record { stream = Some to; end = end; octets = octets } ∷ []))
    (λ e earlier h. took_two (join_value old.class_0) others others to earlier end octets (left_as_it_was others to end octets e) h)
    c.lone_tsdu_for.ensures.joined)
