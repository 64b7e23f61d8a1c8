-- What the proofs of this crate take from the library, from the crates below and from its own definitions.
pub use Rattle.std.proofs.Common.{Bool, Err, IfOk, IfSome, IsSome, IsTrue, List, None, Ok, Option, Result, Some, [], ap, append_assoc}
pub use Rattle.std.proofs.Common.{arith, drop, false, get_or, if◌then◌else◌, inl, inr, is_some, length, map, min, nat_le, nat_lt, not}
pub use Rattle.std.proofs.Common.{option_map, refl, subst, suc, sym, take, true, zero, ℕ, ◌&&◌, ◌++◌, ◌+◌, ◌-◌, ◌/◌, ◌<◌, ◌==◌, ◌||◌, ◌∙◌}
pub use Rattle.std.proofs.Common.{◌∷◌, ◌≡◌, ◌≢◌, ◌≤◌, ◌⊎◌}
pub use Rattle.std.proofs.lemmas.Bool.{eq-eqb, eqb-true, leb-true, ltb-false, not-false}
pub use Rattle.std.proofs.lemmas.Bool.Decides.{nat_tests}
pub use Rattle.std.proofs.lemmas.Grind.{flat_map-append}
pub use Rattle.std.proofs.lemmas.List.{append-nil, append_cancel_left, length-append, length-take, map-append, take-append-drop, take_all}
pub use Rattle.std.specs.List.{AllByRecursion, flat_map, list_any}
pub use Rattle.osi_unit.proofs.lists_of_octets_stay_octets.{octets_left, octets_nil, octets_right}
pub use Rattle.osi_unit.specs.Octets.{IsOctets}
pub use Rattle.osi_tpkt.proofs.a_prefix_of_a_packet.{empty_partial}
pub use Rattle.osi_tpkt.proofs.a_stream_is_cut_in_one_way.{end_no_packet}
pub use Rattle.osi_tpkt.proofs.no_packet_is_a_prefix_of_another.{one_packet}
pub use Rattle.osi_tpkt.specs.Held.{Held}
pub use Rattle.osi_tpkt.specs.Packet.{IsPacket, IsPartial, packet_of}
pub use Rattle.osi_tpkt.specs.Stream.{ArePackets, Ending, EndsAt, offset_of}
pub use Rattle.osi_tpkt.specs.Stream.Ending.{Faulty, Rest}
pub use Rattle.osi_tpkt.specs.declared.cutting.Fed.{Fed}
pub use Rattle.osi_tpdu.proofs.the_units_of_a_packet.{units_fit, units_found, units_only}
pub use Rattle.osi_tpdu.proofs.the_written_form_spells_its_value.{written_spells}
pub use Rattle.osi_tpdu.specs.Limits.{size_code, tsap_octets}
pub use Rattle.osi_tpdu.specs.Packet.{AreUnits, units_of}
pub use Rattle.osi_tpdu.specs.Spelling.{Item, connect_part, item_octets, single}
pub use Rattle.osi_tpdu.specs.Value.{AreParameters, Connect, HasFieldsInRange, IsConnect, Value, acknowledge, confirm, data0, data2}
pub use Rattle.osi_tpdu.specs.Value.{disconnect, disconnected, error, may_be_followed, request}
pub use Rattle.osi_tpdu.specs.Writing.{Fits, HasRoom, items_of, written, written_items}
pub use Rattle.osi_tpdu.specs.declared.faults.TpduFault.{TpduFault}
pub use Rattle.osi_tpdu.specs.declared.tsaps.Tsap.{Tsap}
pub use Rattle.osi_class.proofs.between.parts_stay_in_order.{at_ok, choose_ok, choose_some}
pub use Rattle.osi_class.proofs.bounds.what_calls_take.{all as all_taken}
pub use Rattle.osi_class.proofs.giving.a_link_gives_finitely_many_units.{drained_leaves, drained_moves}
pub use Rattle.osi_class.proofs.giving.what_calls_send.{all as all_sent}
pub use Rattle.osi_class.specs.Between.{given_by}
pub use Rattle.osi_class.specs.Ends.{Ends}
pub use Rattle.osi_class.specs.Flow.{Flow}
pub use Rattle.osi_class.specs.Giving.{Drained, all_given, drained_by, drained_within, left_to_give}
pub use Rattle.osi_class.specs.Joining.{Joining}
pub use Rattle.osi_class.specs.Limits.{longest_tsdu}
pub use Rattle.osi_class.specs.Link.{Given, Standing, ack, given_part, next, next_by, part0, part2, taken, taken_by, unit_of, with_tsdu}
pub use Rattle.osi_class.specs.Negotiation.{Selection, accept, refuse, selected_by}
pub use Rattle.osi_class.specs.Runs.{Move, Moves, MovesAlong, give_out, hand_in, hand_out, parts_in, parts_out, take_in, tsdu_out, tsdus_in}
pub use Rattle.osi_class.specs.Runs.{tsdus_out}
pub use Rattle.osi_class.specs.Tsdus.{Part, tsdus, uncut}
pub use Rattle.osi_class.specs.declared.faults.LinkFault.{LinkFault}
pub use Rattle.osi_class.specs.declared.terms.Class.{Class}
pub use Rattle.osi_class.specs.declared.terms.Class.TheVariants.{Two, Zero}
pub use Rattle.osi_class.specs.declared.terms.Local.{Local}
pub use Rattle.osi_carrier.proofs.effects.a_unit_touches_one_connection.{How, changes_one, effect, orderly_asks, orderly_closed}
pub use Rattle.osi_carrier.proofs.effects.a_unit_touches_one_connection.{orderly_end, orderly_fresh, orderly_same, orderly_sent}
pub use Rattle.osi_carrier.proofs.effects.a_unit_touches_one_connection.{orderly_unit}
pub use Rattle.osi_carrier.proofs.effects.units_one_after_the_other.{react_over, react_quiet, reacts_over}
pub use Rattle.osi_carrier.proofs.references.rows_after_a_change.{push_other, put_other}
pub use Rattle.osi_carrier.proofs.references.what_a_change_leaves_there.{absent, beyond, push_here, put_here, without_here}
pub use Rattle.osi_carrier.proofs.stream.a_piece_is_read_packet_by_packet.{acts_cases, packets_more}
pub use Rattle.osi_carrier.proofs.written.what_is_put_is_written.{outcome_over, outcome_quiet, state_is, together_written, unit_written}
pub use Rattle.osi_carrier.specs.Calls.{asks, class_error, closed_on, closed_with, closes, link_of, may_connect, open_link, or_else}
pub use Rattle.osi_carrier.specs.Calls.{put_closing, put_sent, put_together, room_error, send_all_error, sent, sent_all, sent_on}
pub use Rattle.osi_carrier.specs.Happenings.{Happening, opened as told_opened, tsdu}
pub use Rattle.osi_carrier.specs.Negotiation.{acceptance, agreed_size, confirmed, opened_link, proposal, proposal_by}
pub use Rattle.osi_carrier.specs.Orderly.{IsOrderly, RiseFrom, connection_by, connection_of, only_of}
pub use Rattle.osi_carrier.specs.Pump.{pumped, written_by}
pub use Rattle.osi_carrier.specs.React.{answers, before_class, breaks, denies, handed_out, has_peer, in_class, in_two, in_zero, is_full}
pub use Rattle.osi_carrier.specs.React.{leaves, opens as opens_by, outcome, put_for, react, reacts, settles, taking, to_asked, to_closing}
pub use Rattle.osi_carrier.specs.React.{to_connection, to_linked, to_only, to_reference, to_unknown}
pub use Rattle.osi_carrier.specs.Rows.{Rows, put, value_at, without}
pub use Rattle.osi_carrier.specs.State.{Connection, Outcome, State, asked, closing, linked, packets, puts, puts_none}
pub use Rattle.osi_carrier.specs.declared.ends.EndReason.{EndReason}
pub use Rattle.osi_carrier.specs.declared.ends.EndReason.TheVariants.{Broken, NoMemory}
pub use Rattle.osi_carrier.specs.declared.faults.OpenError.{OpenError}
pub use Rattle.osi_carrier.specs.declared.faults.OpenError.TheVariants.{Ended, NotCaller}
pub use Rattle.osi_carrier.specs.declared.faults.SendError.{SendError}
pub use Rattle.osi_spdu.specs.Fields.{unit_bits}
pub use Rattle.osi_spdu.specs.Sizes.{named_by}
pub use Rattle.osi_spdu.specs.declared.selectors.Selector.{Selector}
pub use Rattle.osi_message.proofs.the_tsdus_of_a_message.{sent_alone}
pub use Rattle.osi_message.specs.Meanings.{CN, Meaning, selector_octets}
pub use Rattle.osi_message.specs.Parting.{tsdus_sent}
pub use Rattle.osi_message.specs.Sendable.{IsSendable}
pub use Rattle.osi_session.proofs.runs.what_every_run_preserves.{input_begun}
pub use Rattle.osi_session.proofs.sent.what_is_sent_can_be_written.{asked_sendable}
pub use Rattle.osi_session.specs.Allowed.{most_user_data, serial_for}
pub use Rattle.osi_session.specs.Calls.{HasSerial, Call as SessionCall}
pub use Rattle.osi_session.specs.Listening.{Input, Listener, after_input, broken, called, came, opened as linked_up, refused}
pub use Rattle.osi_session.specs.Listening.{react as session_react}
pub use Rattle.osi_session.specs.Phases.{is_wait_transport}
pub use Rattle.osi_session.specs.Sessions.{awaits, opens, refusal_of}
pub use Rattle.osi_session.specs.Sides.{offered}
pub use Rattle.osi_session.specs.Sizes.{limit_of}
pub use Rattle.osi_session.specs.Standing.{Seen, seen_called, seen_calling}
pub use Rattle.osi_session.specs.Units.{functional_units, is_profile}
pub use Rattle.osi_session.specs.declared.opening.Opening.{Opening}
pub use Rattle.osi_stack.proofs.called.tsdus_that_are_handed_together.{handed, lengths_fit}
pub use Rattle.osi_stack.proofs.called.what_is_sent_is_short.{SpduLaws, sent_short}
pub use Rattle.osi_stack.proofs.carried.all_events_are_handled.{breaks_attended, connect_attended, feeds_attended, session_attended}
pub use Rattle.osi_stack.proofs.carried.events_one_after_the_other.{concluded_carrier, starved_over, times_quiet}
pub use Rattle.osi_stack.proofs.carried.open_connections_stay_open.{first_is, rest_is}
pub use Rattle.osi_stack.proofs.carried.packets_without_events.{both, lasting_of, or_first, or_second, packet_is, quiet_stops}
pub use Rattle.osi_stack.proofs.carried.what_a_move_leaves.{first_keep, kept_first, says_is, used_keep, used_live}
pub use Rattle.osi_stack.proofs.carried.what_each_step_preserves.{Carries, events_heard, session_carried}
pub use Rattle.osi_stack.proofs.carried.what_sessions_leave_of_the_carrier.{hears_keep}
pub use Rattle.osi_stack.proofs.given_up.the_invariant_stays.{disconnect_attended, disconnect_carrier, disconnect_is, given_other}
pub use Rattle.osi_stack.proofs.opening.connections_that_units_open.{along_units}
pub use Rattle.osi_stack.proofs.sound.the_invariant_is_kept.{closed_given, concludes_lasting, open_none, sent_given, units_rise}
pub use Rattle.osi_stack.proofs.stream.an_end_is_what_its_packets_make.{none_ended}
pub use Rattle.osi_stack.proofs.stream.the_room_for_a_packet.{found_how}
pub use Rattle.osi_stack.proofs.stream.what_feeding_keeps.{packets_kept}
pub use Rattle.osi_stack.proofs.stream.what_was_written_is_read.{attended_kept, uses_within}
pub use Rattle.osi_stack.specs.Calls.{asked_for, call_error, called_octets, calling_octets, calls_with, connect_error, connects, has_given}
pub use Rattle.osi_stack.specs.Calls.{is_long, is_long_address, opening_of, terms_error, without_first}
pub use Rattle.osi_stack.specs.Disconnecting.{disconnect_error, disconnects}
pub use Rattle.osi_stack.specs.Feeding.{Feeds, FindsNoMemory, Goes, Refuses, RunsDry, StopsBehind, TakesPackets, stops, uses_all}
pub use Rattle.osi_stack.specs.Hearing.{RunsOut, Starves, after_packet, attends, concludes, ends, hears, hears_all, hears_next, hears_times}
pub use Rattle.osi_stack.specs.Hearing.{opens as opens_line, starves, with_carrier, with_events}
pub use Rattle.osi_stack.specs.Inputs.{IsAccepted}
pub use Rattle.osi_stack.specs.Messages.{AreShort, IsGranted, kept_at}
pub use Rattle.osi_stack.specs.Moving.{by_line, carrier_by, limit_for, line_by, to_session}
pub use Rattle.osi_stack.specs.Rounds.{UserCall, user_does}
pub use Rattle.osi_stack.specs.Rounds.UserCall.{breaking, calling, connecting, disconnecting}
pub use Rattle.osi_stack.specs.Runs.{Call, Calls, carried_in, put_back, used_in}
pub use Rattle.osi_stack.specs.Runs.Call.{carrying, feeding, telling}
pub use Rattle.osi_stack.specs.State.{End, Holding, IsAttended, Line, fresh_end, fresh_line, joins, session_in, used_lines, waits}
pub use Rattle.osi_stack.specs.Transport.{answers_by, sent_unless}
pub use Rattle.osi_stack.specs.declared.connecting.Connect.{Connect as Request}
pub use Rattle.osi_side.proofs.honest.a_run_is_explained.{came_moves}
pub use Rattle.osi_side.proofs.honest.an_answer_says_itself.{SaysItself, came_itself}
pub use Rattle.osi_side.specs.Explaining.{IsExplained, Told}
pub use Rattle.osi_side.specs.Explaining.Explains.{done}
pub use Rattle.osi_side.specs.Running.{IsSentFrom, Pass, Runs, sends}
pub use Rattle.osi_blameless.specs.ends.Arriving.{Answers, AreApart, GivesTo, Lives, Opens, TakesAll, is_for}
pub use Rattle.osi_blameless.specs.ends.Arriving.Begins.{is_shut}
pub use Rattle.osi_blameless.specs.ends.Courses.{AreCalls, Continues, ContinuesAlong, Course, Deeds, Gone, IsFreshLink, IsNew, IsOpen}
pub use Rattle.osi_blameless.specs.ends.Courses.{IsShut}
pub use Rattle.osi_blameless.specs.ends.Courses.{SoFar, Speaks, all_did, no_deeds, said_in, taken_in, then_did, units_given}
pub use Rattle.osi_blameless.specs.Packets.{units_by, units_in}
pub use Rattle.osi_blameless.specs.ends.Courses.{units_taken}
pub use Rattle.osi_blameless.specs.ends.Courses.Course.{awaited, is_gone, is_open, unknown}
pub use Rattle.osi_blameless.specs.ends.Courses.Gone.{closed, never, over}
pub use Rattle.osi_blameless.specs.ends.Doing.{Makes}
pub use Rattle.osi_blameless.specs.ends.Marked.{AreByLinks, Marked, all_units, if_of, is_of_link, units_at}
pub use Rattle.osi_blameless.specs.ends.Seeing.{IsFresh, IsPrefix}
pub use Rattle.osi_blameless.specs.ends.Showing.{AreSame, Shows}
pub use Rattle.osi_blameless.specs.ends.Talking.{History, Said, said_after, told_of}
pub use Rattle.osi_blameless.specs.ends.Turns.{Act, Acts, HasSerialIn, Run, Takes, Turn, carried_by, used_by}
pub use Rattle.osi_blameless.specs.ends.Turns.Act.{serving, using}
pub use Rattle.osi_blameless.specs.ends.Writable.{CanBeWritten, IsPlain}
