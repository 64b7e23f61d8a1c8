-- What the proofs of this crate take from the library, from the crates below and from its own definitions.
pub use Rattle.std.proofs.Common.{Bool, Err, IfSome, IsSome, List, None, Ok, Option, Result, Some, [], ap, append_assoc, arith, drop, false}
pub use Rattle.std.proofs.Common.{if◌then◌else◌, inl, inr, is_some, length, length-drop, length-take, map, min, nat_le, nat_lt, not}
pub use Rattle.std.proofs.Common.{option_map, position, refl, set, slice_get, slice_set, subst, suc, sym, take, true, zero, ℕ, ◌%◌, ◌&&◌}
pub use Rattle.std.proofs.Common.{◌++◌, ◌+◌, ◌-◌, ◌<◌, ◌==◌, ◌^◌, ◌||◌, ◌∙◌, ◌∷◌, ◌≡◌, ◌≢◌, ◌≤◌, ◌⊎◌}
pub use Rattle.std.proofs.Math.Nat.{pow-le-pow_right}
pub use Rattle.std.proofs.lemmas.Bool.{eq-eqb, eqb-true, le-leb, leb-true, lt-ltb, ltb-false, ltb-true}
pub use Rattle.std.proofs.lemmas.Grind.{flat_map-append}
pub use Rattle.std.proofs.lemmas.List.{append-nil, take-append-drop, take_all}
pub use Rattle.std.proofs.lemmas.List.Quantifiers.{position-Some}
pub use Rattle.std.proofs.lemmas.List.Sums.{fails_before_first}
pub use Rattle.std.proofs.lemmas.Option.{get_or_from_slice_get, slice_get-map, slice_get_within}
pub use Rattle.std.specs.List.{AllByRecursion, flat_map, list_all, list_any, position_or_len}
pub use Rattle.osi_tpkt.proofs.the_packets_are_those_of_the_stream.{packets_joined}
pub use Rattle.osi_unit.specs.Octets.{IsOctets}
pub use Rattle.osi_tpkt.specs.Packet.{IsPacket, packet_of}
pub use Rattle.osi_tpkt.specs.Stream.{ArePackets}
pub use Rattle.osi_tpkt.specs.declared.cutting.Fed.{Fed}
pub use Rattle.osi_tpdu.proofs.the_units_of_a_packet.{units_fit, units_found, units_only}
pub use Rattle.osi_tpdu.proofs.the_written_form_spells_its_value.{written_spells}
pub use Rattle.osi_tpdu.specs.Limits.{size_code, window_units}
pub use Rattle.osi_tpdu.specs.Packet.{units_of}
pub use Rattle.osi_tpdu.specs.Value.{Connect, HasFieldsInRange, IsConnect, Value, acknowledge, confirm, data0, data2, destination_of}
pub use Rattle.osi_tpdu.specs.Value.{disconnect, disconnected, error, request}
pub use Rattle.osi_tpdu.specs.Writing.{Fits, written}
pub use Rattle.osi_tpdu.specs.declared.faults.TpduFault.{TpduFault}
pub use Rattle.osi_class.proofs.between.parts_stay_in_order.{at_ok, at_some, choose_some}
pub use Rattle.osi_class.proofs.giving.a_link_gives_finitely_many_units.{drained_moves}
pub use Rattle.osi_class.specs.Ends.{Ends}
pub use Rattle.osi_class.specs.Flow.{Flow, ack_number, after_acked, steps_before}
pub use Rattle.osi_class.specs.Giving.{Drained, all_given, drained_by, drained_within, left_to_give}
pub use Rattle.osi_class.specs.Limits.{longest_tsdu}
pub use Rattle.osi_class.specs.Link.{Given, Hands, Standing, ack, fresh_two, given_part, next, next_by, part0, part2, sent_flow, taken}
pub use Rattle.osi_class.specs.Link.{taken_by, taken_flow, two_standing, unit_of, with_tsdu}
pub use Rattle.osi_class.specs.Negotiation.{Selection, accept, proposes, refuse, selected_by, selected_size}
pub use Rattle.osi_class.specs.Runs.{Move, Moves, MovesAlong, give_out, hand_in, hand_out, take_in}
pub use Rattle.osi_class.specs.Tsdus.{Part, give}
pub use Rattle.osi_class.specs.declared.faults.LinkFault.{LinkFault}
pub use Rattle.osi_class.specs.declared.faults.LinkFault.TheVariants.{WrongForm}
pub use Rattle.osi_class.specs.declared.terms.Class.{Class}
pub use Rattle.osi_class.specs.declared.terms.Class.TheVariants.{Two, Zero}
pub use Rattle.osi_class.specs.declared.terms.Local.{Local}
pub use Rattle.osi_carrier.proofs.effects.a_unit_touches_one_connection.{How, changes_one, effect, orderly_asks, orderly_closed}
pub use Rattle.osi_carrier.proofs.effects.a_unit_touches_one_connection.{orderly_ended, orderly_fresh, orderly_sent, orderly_sent_all}
pub use Rattle.osi_carrier.proofs.effects.a_unit_touches_one_connection.{orderly_unit}
pub use Rattle.osi_carrier.proofs.effects.what_is_in_front_changes_nothing.{apart_all}
pub use Rattle.osi_carrier.proofs.references.rows_after_a_change.{push_other, put_other, without_other}
pub use Rattle.osi_carrier.proofs.references.what_a_change_leaves_there.{beyond, push_here, put_here, found as row_here, without_here}
pub use Rattle.osi_carrier.proofs.stream.a_carrier_does_what_its_packets_do.{back_joined}
pub use Rattle.osi_carrier.proofs.written.what_is_put_is_written.{call_written, outcome_over, outcome_quiet, state_is, unit_written}
pub use Rattle.osi_carrier.specs.Calls.{asks, class_error, closed_on, closed_with, closes as closes_in, ended_by, fresh_state, link_of}
pub use Rattle.osi_carrier.specs.Calls.{may_connect, open_link, put_asking, put_closed, put_closing, put_sent, put_together, sent, sent_all}
pub use Rattle.osi_carrier.specs.Happenings.{Happening}
pub use Rattle.osi_carrier.specs.Negotiation.{acceptance, agreed_size, confirmed, opened_link, proposal, proposal_by, proposes_zero}
pub use Rattle.osi_carrier.specs.Negotiation.{unit_octets}
pub use Rattle.osi_carrier.specs.Orderly.{AreUpTo, IsOrderly, RiseFrom, connection_of}
pub use Rattle.osi_carrier.specs.Packets.{Carrying, Feeds, FindsNoMemory, FindsNoRoom, Goes, RunsDry, RunsOut, Starves, StopsBehind}
pub use Rattle.osi_carrier.specs.Packets.{TakesPackets, acts_by, waits}
pub use Rattle.osi_carrier.specs.Pump.{pumped, written_by}
pub use Rattle.osi_carrier.specs.React.{accepts, answers as answers_by, answers_request, before_class, breaks as breaks_in, denies}
pub use Rattle.osi_carrier.specs.React.{handed_out, has_peer, in_class, in_two, in_zero, is_full, leaves, opens, outcome, put_for, react}
pub use Rattle.osi_carrier.specs.React.{react_by, reacts}
pub use Rattle.osi_carrier.specs.React.{taking, to_asked, to_closing, to_connection, to_linked, to_only, to_reference, to_unknown}
pub use Rattle.osi_carrier.specs.Rising.{RiseBy}
pub use Rattle.osi_carrier.specs.Rows.{Rows, put, value_at, without}
pub use Rattle.osi_carrier.specs.Runs.{Call, Calls, UserCall, packet as arrived, breaks, calling, carried_in, closes as closes_call}
pub use Rattle.osi_carrier.specs.Runs.{connects, does, feeding, put_back, put_by, sends, sends_all, told_in, used_in, user, user_does}
pub use Rattle.osi_carrier.specs.State.{Connection as Live, Outcome as CarrierOutcome, State, asked, closing, ends, fails, linked, packets}
pub use Rattle.osi_carrier.specs.State.{puts_none}
pub use Rattle.osi_carrier.specs.declared.ends.CarrierFault.TheVariants.{Tpdu, UnexpectedUnit}
pub use Rattle.osi_carrier.specs.declared.ends.EndReason.{EndReason}
pub use Rattle.osi_carrier.specs.declared.ends.EndReason.TheVariants.{Fault, NoMemory}
pub use Rattle.osi_carrier.specs.declared.faults.OpenError.{OpenError}
pub use Rattle.osi_rules.proofs.a_break_is_noted.{breaks_are_noted}
pub use Rattle.osi_rules.proofs.a_stop_is_said.{stops_are_said}
pub use Rattle.osi_rules.specs.Reaches.{is_applied, is_break, is_of_connection, passes_over, reach_by, reach_of, reach_past}
pub use Rattle.osi_rules.specs.Rows.{Test, code_named, data0_tests, data2_tests, first_failed, fits_size, given_again, has_passed, is_due}
pub use Rattle.osi_rules.specs.Rows.{is_inside, is_offered, is_tellable, keeps_credit, steps_from}
pub use Rattle.osi_rules.specs.Sides.{begins, is_closed, is_closing, is_free, is_live, is_named, is_open, is_over, is_over_by, is_refused}
pub use Rattle.osi_rules.specs.Sides.{is_silent, other, own, seen, theirs, uses}
pub use Rattle.osi_rules.specs.Traffic.{Outcome, State as Traffic, asked_by, asks_by, asks_kept, asks_of, at_found, at_place, begun_after}
pub use Rattle.osi_rules.specs.Traffic.{class_for, class_of, closing_phase, connection_after, course_after, course_after_none}
pub use Rattle.osi_rules.specs.Traffic.{disconnects_begin, has_disconnected, knows_disconnect, may_answer, no_disconnects, with_disconnect}
pub use Rattle.osi_rules.specs.Traffic.{course_begins, found, found_on, fresh, half_after, has_broken, has_erred, in_doubt, is_not_judged}
pub use Rattle.osi_rules.specs.Traffic.{is_stopped, is_stray, judged_on, none_told, noted, offer_of, one_told, packet_begins, placed}
pub use Rattle.osi_rules.specs.Traffic.{reached, refused, refused_reach, request_tests, route, route_in, route_two, route_zero, routed}
pub use Rattle.osi_rules.specs.Traffic.{sent_on, silent_half, sized, takes, unnamed_told, uses_source}
pub use Rattle.osi_rules.specs.declared.connections.Connection.{Connection}
pub use Rattle.osi_rules.specs.declared.connections.Offer.{Offer}
pub use Rattle.osi_rules.specs.declared.courses.Course.{Course}
pub use Rattle.osi_rules.specs.declared.directions.Direction.{Direction}
pub use Rattle.osi_rules.specs.declared.directions.Direction.TheVariants.{Left, Right}
pub use Rattle.osi_rules.specs.declared.disconnects.Disconnects.{Disconnects}
pub use Rattle.osi_rules.specs.declared.findings.Finding.{Finding}
pub use Rattle.osi_rules.specs.declared.findings.Finding.TheVariants.{Broke, Kept, NotJudged, Outside, TooMany}
pub use Rattle.osi_rules.specs.declared.findings.Reach.{Reach}
pub use Rattle.osi_rules.specs.declared.findings.Rule.{Rule}
pub use Rattle.osi_rules.specs.declared.halves.Half.{Half}
pub use Rattle.osi_rules.specs.declared.halves.Phase.{Phase}
pub use Rattle.osi_rules.specs.declared.halves.Phase.TheVariants.{Closed, Open, Refused, Silent}
pub use Rattle.osi_rules.specs.declared.routes.Route.{Route}
pub use Rattle.osi_rules.specs.declared.routes.Route.TheVariants.{Asks, Named, Only, Unnamed}
pub use Rattle.osi_blameless.specs.transport.Asking.{all_asked, all_written, asked_as, asked_in, asks_with}
pub use Rattle.osi_blameless.specs.transport.Calls.{AreFedFrom, IsRun, MadeAlong, MayMake}
pub use Rattle.osi_blameless.specs.transport.Following.{Follows, IsAtPlace, JustCloses, link_now}
pub use Rattle.osi_blameless.specs.transport.Later.{IsLater, knows}
pub use Rattle.osi_blameless.specs.transport.Lines.{Act, Acts, ActsAlong, HandsInShort, IsFair, IsOpened, IsRight, IsRightNow, Line}
pub use Rattle.osi_blameless.specs.transport.Lines.{PassesNone}
pub use Rattle.osi_blameless.specs.transport.Lines.{after_finding, answering_line, answers, begins_elsewhere, closes as closes_with}
pub use Rattle.osi_blameless.specs.transport.Lines.{finding_of, ignores}
pub use Rattle.osi_blameless.specs.transport.Lines.{moves, opened_half, opened_line, passes_other, passes_own, units_put, units_taken}
pub use Rattle.osi_blameless.specs.transport.Naming.{HoldsOfOne, Passing, all_passed, packet, passes, rubbish, unit}
pub use Rattle.osi_blameless.specs.transport.Pieces.{IsFed}
pub use Rattle.osi_blameless.specs.Packets.{units_by, units_in}
pub use Rattle.osi_blameless.specs.transport.Wholes.{Becomes, Event, HappenAlong, Happens, MayCall, Whole, arrives, begin, begins_other}
pub use Rattle.osi_blameless.specs.transport.Wholes.{begins_own, calls}
pub use Rattle.osi_blameless.specs.transport.Wholes.{passes_rubbish}
