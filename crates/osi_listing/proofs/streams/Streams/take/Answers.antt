use Rattle.osi_listing.proofs.Vocabulary.{◌≡◌, ◌++◌, ◌==◌, ℕ, List, [], ◌∷◌, Some, None, cond, join_value, join_at, AreJoins, Part, joined}
use Rattle.osi_listing.proofs.streams_after_one_more_unit.{then_ok, took_zero, took_two}
use Rattle.osi_listing.proofs.streams.Streams.take.Goals as goal

pub returns-in-Dt0-clause-holds : goal.returns-in-Dt0-clause-holds
returns-in-Dt0-clause-holds c =
    let old = c.args.self.now in
    let end = c.in-Dt0.data.end in
    let octets = c.in-Dt0.data.user.now in
    rw c.in-Dt0.is (then_ok c.take.result (join_value c.take.new.self ≡ joined (join_value old.class_0) end octets)
    ((earlier : List Part) → AreJoins (join_value old.class_0) (join_at old.class_2) earlier →
    AreJoins (join_value c.take.new.self) (join_at old.class_2) (earlier ++ record { stream = None; end = end; octets = octets } ∷ []))
    (λ e earlier h. took_zero (join_value old.class_0) (join_value c.take.new.self) (join_at old.class_2) earlier end octets e h)
    c.take.ensures.joined)

pub returns-in-Dt2-clause-holds : goal.returns-in-Dt2-clause-holds
returns-in-Dt2-clause-holds c =
    let old = c.args.self.now in
    let to = c.in-Dt2.data.destination in
    let end = c.in-Dt2.data.end in
    let octets = c.in-Dt2.data.user.now in
    rw c.in-Dt2.is (then_ok c.take_for.result
    ((d : ℕ) → join_at c.take_for.new.references d ≡ cond (d == to) (joined (join_at old.class_2 to) end octets) (join_at old.class_2 d))
    ((earlier : List Part) → AreJoins (join_value old.class_0) (join_at old.class_2) earlier →
    AreJoins (join_value old.class_0) (join_at c.take_for.new.references)
    (earlier ++ record { stream = Some to; end = end; octets = octets } ∷ []))
    (λ e earlier h. took_two (join_value old.class_0) (join_at old.class_2) (join_at c.take_for.new.references) to earlier end octets e h)
    c.take_for.ensures.joined)
