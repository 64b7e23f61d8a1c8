-- What the proofs of this crate take from the library, from the crates below and from its own definitions.
pub use Rattle.std.proofs.Common.{Bool, List, None, Option, Some, [], ap, arith, drop, false, if◌then◌else◌, length, map, not, position}
pub use Rattle.std.proofs.Common.{refl, set, slice_get, suc, take, true, zero, ℕ, ◌&&◌, ◌++◌, ◌<◌, ◌||◌, ◌∙◌, ◌∷◌, ◌≡◌, ◌≢◌}
pub use Rattle.osi_tpdu.specs.Value.{Connect, Value, acknowledge, confirm, data0, data2, disconnect, disconnected, error, request}
pub use Rattle.osi_class.specs.declared.terms.Class.{Class}
pub use Rattle.osi_class.specs.declared.terms.Class.TheVariants.{Two, Zero}
pub use Rattle.osi_rules.specs.Reaches.{is_break, reach_of}
pub use Rattle.osi_rules.specs.Rows.{error_tests, first_failed}
pub use Rattle.osi_rules.specs.Sides.{begins, is_live, is_named, is_silent, other}
pub use Rattle.osi_rules.specs.Traffic.{Outcome, State, asks_by, asks_kept, asks_of, at_found, at_place, class_for, course_after}
pub use Rattle.osi_rules.specs.Traffic.{course_after_none, found_on, has_erred, in_doubt, is_stopped, may_answer, none_told, noted, of_side}
pub use Rattle.osi_rules.specs.Traffic.{one_told, reached, request_tests, route, route_in, routed, stops_by, takes, unnamed, unnamed_by}
pub use Rattle.osi_rules.specs.Traffic.{unnamed_told}
pub use Rattle.osi_rules.specs.declared.connections.Connection.{Connection}
pub use Rattle.osi_rules.specs.declared.courses.Course.{Course}
pub use Rattle.osi_rules.specs.declared.directions.Direction.{Direction}
pub use Rattle.osi_rules.specs.declared.directions.Direction.TheVariants.{Left, Right}
pub use Rattle.osi_rules.specs.declared.findings.Finding.{Finding}
pub use Rattle.osi_rules.specs.declared.findings.Finding.TheVariants.{Broke, Kept, NotJudged, Outside, TooMany}
pub use Rattle.osi_rules.specs.declared.findings.Reach.{Reach}
pub use Rattle.osi_rules.specs.declared.routes.Route.{Route}
pub use Rattle.osi_rules.specs.declared.routes.Route.TheVariants.{Asks, Named, Only, Unnamed}
