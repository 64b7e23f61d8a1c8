use Rattle.osi_blameless.proofs.Vocabulary.{way_of, comes_to}
use Rattle.osi_blameless.proofs.shown.a_dt_that_is_no_break_is_right.{capture_judged, dt_right}
use Rattle.osi_blameless.proofs.shown.a_right_dt_has_one_place.{capture_apart, dt_joined, one_place}
use Rattle.osi_blameless.proofs.shown.a_unit_is_joined_where_it_is_named.{joined_named}
use Rattle.osi_blameless.proofs.shown.connections_have_the_same_places.{capture_agrees, unit_agrees}
use Rattle.osi_blameless.proofs.laws.connections_have_the_same_places.Goals as goal

pub returns-clause-capture : goal.returns-clause-capture
returns-clause-capture c = capture_agrees

pub returns-clause-unit : goal.returns-clause-unit
returns-clause-unit c = unit_agrees

pub returns-clause-dt : goal.returns-clause-dt
returns-clause-dt c = dt_joined

pub returns-clause-named : goal.returns-clause-named
returns-clause-named c = joined_named

pub returns-clause-one : goal.returns-clause-one
returns-clause-one c = λ d n p q capture a b j k.
    one_place d n p q a b j k (comes_to capture).course.traffic.connections (capture_apart capture)

pub returns-clause-right : goal.returns-clause-right
returns-clause-right c = λ d v end capture parts goes firm none.
    dt_right (way_of d) v end (comes_to capture).course.traffic parts goes firm (capture_judged capture) none
