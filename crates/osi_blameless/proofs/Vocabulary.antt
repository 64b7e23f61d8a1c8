-- What the proofs of this crate take from the library, from the crates below and from its own definitions.
pub use Rattle.std.proofs.Common.{Bool, Err, IsSome, List, None, Ok, Option, Result, Some, [], ap, append_assoc, arith, false}
pub use Rattle.std.proofs.Common.{if◌then◌else◌, inl, inr, is_some, leb, length, map, nat_le, nat_lt, not, option_to_list, position, refl}
pub use Rattle.std.proofs.Common.{set, slice_get, slice_set, subst, suc, sym, take, true, zero, ℕ, ◌&&◌, ◌*◌, ◌++◌, ◌+◌, ◌-◌, ◌<◌, ◌==◌}
pub use Rattle.std.proofs.Common.{◌^◌, ◌||◌, ◌∙◌, ◌∷◌, ◌≡◌, ◌≢◌, ◌≤◌, ◌⊎◌}
pub use Rattle.std.proofs.Math.Seq.{take-append_seam}
pub use Rattle.std.proofs.lemmas.Bool.{eq-eqb, eqb-true, le-leb, le-ltb, leb-false, leb-true, lt-ltb, ltb-false, ltb-true}
pub use Rattle.std.proofs.lemmas.Bool.Decides.{leb_tells}
pub use Rattle.std.proofs.lemmas.Grind.{flat_map-append}
pub use Rattle.std.proofs.lemmas.List.{append-nil, append_cancel_left, length-append, length-map, map-append, take-append-drop, take_all}
pub use Rattle.std.proofs.lemmas.List.{take_at}
pub use Rattle.std.proofs.lemmas.Option.{slice_get-map, slice_get_past, slice_get_within}
pub use Rattle.std.specs.List.{AllByRecursion, flat_map, list_all}
pub use Rattle.std.specs.Option.{option_map}
pub use Rattle.osi_unit.proofs.lists_of_octets_stay_octets.{octets_append, octets_cons, octets_left, octets_nil, octets_right}
pub use Rattle.osi_unit.specs.Octets.{IsOctets}
pub use Rattle.osi_tpkt.proofs.a_prefix_of_a_packet.{empty_partial}
pub use Rattle.osi_tpkt.proofs.a_stream_is_cut_in_one_way.{end_no_packet, some_cut}
pub use Rattle.osi_tpkt.specs.Packet.{IsPacket, packet_of}
pub use Rattle.osi_tpkt.specs.Stream.{ArePackets, Ending, EndsAt, offset_of}
pub use Rattle.osi_tpkt.specs.declared.faults.TpktFault.{TpktFault}
pub use Rattle.osi_tpdu.proofs.the_units_of_a_packet.{units_fit, units_found, units_only}
pub use Rattle.osi_tpdu.proofs.the_written_form_spells_its_value.{written_spells}
pub use Rattle.osi_tpdu.specs.Packet.{AreUnits, units_of}
pub use Rattle.osi_tpdu.specs.Value.{Connect, HasFieldsInRange, Value, acknowledge, confirm, data0, data2, destination_of, disconnect}
pub use Rattle.osi_tpdu.specs.Value.{disconnected, error, may_be_followed, request}
pub use Rattle.osi_tpdu.specs.Writing.{Fits, written}
pub use Rattle.osi_tpdu.specs.declared.faults.TpduFault.{TpduFault}
pub use Rattle.osi_class.proofs.between.parts_stay_in_order.{at_some}
pub use Rattle.osi_class.proofs.bounds.what_a_call_preserves.{move_keeps, takes_run}
pub use Rattle.osi_class.proofs.giving.what_calls_send.{all}
pub use Rattle.osi_class.specs.Ends.{Ends}
pub use Rattle.osi_class.specs.Flow.{Flow}
pub use Rattle.osi_class.specs.Limits.{longest_tsdu}
pub use Rattle.osi_class.specs.Link.{Given, Standing, ack, part0, part2, unit_of}
pub use Rattle.osi_class.specs.Negotiation.{Selection, accept, refuse, selected_by}
pub use Rattle.osi_class.specs.Runs.{Move, Moves, MovesAlong, give_out, given_parts, hand_in, hand_out, part_out, parts_in, parts_out}
pub use Rattle.osi_class.specs.Runs.{take_in, tsdus_in, tsdus_out, unit_parts}
pub use Rattle.osi_class.specs.Tsdus.{Part, tsdus, tsdus_after, uncut}
pub use Rattle.osi_class.specs.declared.terms.Class.{Class}
pub use Rattle.osi_class.specs.declared.terms.Class.TheVariants.{Two, Zero}
pub use Rattle.osi_class.specs.declared.terms.Local.{Local}
pub use Rattle.osi_carrier.proofs.effects.units_one_after_the_other.{react_over}
pub use Rattle.osi_carrier.proofs.effects.what_is_in_front_changes_nothing.{apart_all}
pub use Rattle.osi_carrier.proofs.written.what_is_put_is_written.{outcome_over, state_is}
pub use Rattle.osi_carrier.specs.Calls.{closed_on, closed_with, ended_by, link_of, may_connect, open_link, put_closing, put_sent}
pub use Rattle.osi_carrier.specs.Calls.{put_together, sent, sent_all}
pub use Rattle.osi_carrier.specs.Fetching.{IsNoFront}
pub use Rattle.osi_carrier.specs.Happenings.{Happening}
pub use Rattle.osi_carrier.specs.Negotiation.{acceptance, opened_link, unit_octets}
pub use Rattle.osi_carrier.specs.Orderly.{RiseFrom}
pub use Rattle.osi_carrier.specs.React.{answers, answers_request, before_class, denies, in_class, in_two, outcome, put_for, react, react_by}
pub use Rattle.osi_carrier.specs.React.{to_connection, to_linked, to_only}
pub use Rattle.osi_carrier.specs.Rows.{Rows, value_at}
pub use Rattle.osi_carrier.specs.Runs.{UserCall, breaks, closes, connects, put_back, put_by, sends, sends_all, user, user_does}
pub use Rattle.osi_carrier.specs.State.{State as Carrier, Connection as Live, closing, ends, linked, packets}
pub use Rattle.osi_carrier.specs.declared.ends.EndReason.{EndReason}
pub use Rattle.osi_carrier.specs.declared.faults.OpenError.{OpenError}
pub use Rattle.osi_carrier.specs.declared.faults.OpenError.TheVariants.{Ended, NotCaller}
pub use Rattle.osi_session.proofs.tsdu.what_is_sent_is_taken_as_meant.{said_again}
pub use Rattle.osi_session.specs.Listening.{Listener}
pub use Rattle.osi_session.specs.Standing.{Seen}
pub use Rattle.osi_stack.proofs.called.what_is_sent_is_short.{SpduLaws}
pub use Rattle.osi_stack.proofs.carried.packets_without_events.{lasting_of}
pub use Rattle.osi_stack.specs.Calls.{has_given}
pub use Rattle.osi_stack.specs.Feeding.{TakesPackets}
pub use Rattle.osi_stack.specs.State.{End, Holding}
pub use Rattle.osi_rules.proofs.a_stop_is_said.{stops_are_said, stops_last}
pub use Rattle.osi_rules.specs.Reaches.{is_applied, reach_of}
pub use Rattle.osi_rules.specs.Rows.{Test, acknowledge_tests, confirm_tests, data0_tests, first_failed, given_again}
pub use Rattle.osi_rules.specs.Sides.{begins, is_closed, is_closing, is_free, is_live, is_named, is_open, is_over, is_over_by, is_refused}
pub use Rattle.osi_rules.specs.Sides.{is_silent, own, uses}
pub use Rattle.osi_rules.specs.Traffic.{Outcome, State, State as Traffic, asked_by, asks_by, asks_kept, asks_of, at_found, at_place}
pub use Rattle.osi_rules.specs.Traffic.{begun_after, class_for, class_of, closing_phase, connection_after, course_after, found, found_on}
pub use Rattle.osi_rules.specs.Traffic.{fresh, half_after, has_broken, in_doubt, is_report, is_stopped, judged_on, meaning_if, meant}
pub use Rattle.osi_rules.specs.Traffic.{none_told, noted, one_told, request_tests, route, route_in, route_zero, routed, sent_on}
pub use Rattle.osi_rules.specs.Traffic.{silent_half, stops, stops_by, takes, unnamed, unnamed_by, unnamed_told, uses_source}
pub use Rattle.osi_rules.specs.declared.connections.Connection.{Connection}
pub use Rattle.osi_rules.specs.declared.connections.Offer.{Offer}
pub use Rattle.osi_rules.specs.declared.courses.Course.{Course as Rules}
pub use Rattle.osi_rules.specs.declared.directions.Direction.{Direction as Way}
pub use Rattle.osi_rules.specs.declared.disconnects.Disconnects.{Disconnects}
pub use Rattle.osi_rules.specs.declared.findings.Finding.{Finding}
pub use Rattle.osi_rules.specs.declared.findings.Finding.TheVariants.{Broke, Kept, NotJudged, Outside, TooMany}
pub use Rattle.osi_rules.specs.declared.findings.Meaning.{Meaning}
pub use Rattle.osi_rules.specs.declared.findings.Meaning.TheVariants.{Adds}
pub use Rattle.osi_rules.specs.declared.findings.Reach.{Reach}
pub use Rattle.osi_rules.specs.declared.findings.Rule.{Rule}
pub use Rattle.osi_rules.specs.declared.findings.Told.{Told}
pub use Rattle.osi_rules.specs.declared.halves.Half.{Half}
pub use Rattle.osi_rules.specs.declared.halves.Phase.{Phase}
pub use Rattle.osi_rules.specs.declared.routes.Route.{Route}
pub use Rattle.osi_rules.specs.declared.routes.Route.TheVariants.{Asks, Named, Only, Unnamed}
pub use Rattle.osi_side.proofs.honest.a_call_is_explained.{AsSent}
pub use Rattle.osi_side.proofs.honest.a_caller_is_explained.{front_told}
pub use Rattle.osi_side.proofs.honest.a_cn_is_answered_within_its_units.{first_asked}
pub use Rattle.osi_side.proofs.honest.an_honest_run_stays_in_the_profile.{AllInside, AsParts, front_inside, honest_inside}
pub use Rattle.osi_side.proofs.honest.an_honest_side_is_kept.{CalledLaw, CallerLaw}
pub use Rattle.osi_side.specs.Captures.{Capture, Passed, of, other, passed_before, stream}
pub use Rattle.osi_side.specs.Explaining.{IsExplained}
pub use Rattle.osi_side.specs.Findings.{broke_session}
pub use Rattle.osi_side.specs.Judging.{IsFound}
pub use Rattle.osi_side.specs.Profiles.{selects_outside}
pub use Rattle.osi_side.specs.Running.{IsHonest, IsSentFrom}
pub use Rattle.osi_side.specs.Sides.{begin_of}
pub use Rattle.osi_side.specs.declared.directions.Direction.{Direction}
pub use Rattle.osi_side.specs.declared.directions.Direction.TheVariants.{Left, Right}
pub use Rattle.osi_judge.proofs.a_capture_has_one_first_break.{first_held}
pub use Rattle.osi_judge.proofs.a_piece_comes_to_what_its_octets_do.{after_more, going, looks}
pub use Rattle.osi_judge.proofs.no_break_was_before_the_first.{marked_past, noted_past}
pub use Rattle.osi_judge.proofs.octets_are_looked_at.{packet_front}
pub use Rattle.osi_judge.proofs.the_session_of_a_side_is_known.{session_found}
pub use Rattle.osi_judge.specs.Blaming.{BreaksFirst, IsBreakOf, IsFirstOf, IsToBlame, of_session, of_transport}
pub use Rattle.osi_judge.specs.Connections.{Joined, Sessions, adds, adds_all, adds_if, all_begin, asked, changed, count, kept_on, none}
pub use Rattle.osi_judge.specs.Connections.{opened, placed, reference_of, shut, spoken, taken, taken_at, user_of}
pub use Rattle.osi_judge.specs.Courses.{Course, Moment, cause_of, changes, earlier, first_by, first_marked, fresh_within, is_break, kind_of}
pub use Rattle.osi_judge.specs.Courses.{mark_by, marked, marks_of, moment_of, moved, noted_by, number_at, number_of, packet_begins}
pub use Rattle.osi_judge.specs.Courses.{packet_by, packet_passes, reached, unit_passes, units_pass, unread, unread_mark, unread_moment}
pub use Rattle.osi_judge.specs.Courses.{way_of}
pub use Rattle.osi_judge.specs.Lines.{Begun, Spoken, added, begun_before, begun_octets, heard, octets_of, told}
pub use Rattle.osi_judge.specs.Outcomes.{IsOutcomeOf, SaysSo}
pub use Rattle.osi_judge.specs.Pasts.{HoldsPast, outcome_in}
pub use Rattle.osi_judge.specs.Rooms.{fits}
pub use Rattle.osi_judge.specs.Standing.{HoldsState, IsFed, IsJudged, first_in}
pub use Rattle.osi_judge.specs.States.{after, begin_within, begun, comes_to, looked_at, octet_passes, stream_of, with_stream}
pub use Rattle.osi_judge.specs.Streams.{Front, Streamed, advanced, by_version, counted, faulty, front_of, gathered, partial, sized, whole}
pub use Rattle.osi_judge.specs.declared.judge.Judge.{Judge}
pub use Rattle.osi_judge.specs.declared.marks.Cause.{Cause}
pub use Rattle.osi_judge.specs.declared.marks.Cause.TheVariants.{BadPacket, BadUnit}
pub use Rattle.osi_judge.specs.declared.marks.First.{First}
pub use Rattle.osi_judge.specs.declared.marks.Mark.{Mark}
pub use Rattle.osi_judge.specs.declared.marks.Marks.{Marks}
pub use Rattle.osi_judge.specs.declared.pasts.Past.{Past}
pub use Rattle.osi_judge.specs.declared.rooms.Room.{Room}
pub use Rattle.osi_judge.specs.declared.rooms.Room.TheVariants.{All, Octets}
pub use Rattle.osi_blameless.proofs.ends.at_any_time.an_end_that_is_over_does_nothing.{never_lasts, over_acts}
pub use Rattle.osi_blameless.proofs.ends.at_any_time.the_cn_of_a_request_fits.{can_begin}
pub use Rattle.osi_blameless.proofs.ends.at_any_time.what_a_session_answers_fits.{all_proper}
pub use Rattle.osi_blameless.proofs.ends.at_any_time.what_class_0_does_not_take_ends_the_end.{AreHard, IsHard, IsHardPacket, IsLast}
pub use Rattle.osi_blameless.proofs.ends.at_any_time.what_class_0_does_not_take_ends_the_end.{IsZeroAt, hard_ends}
pub use Rattle.osi_blameless.proofs.ends.courses.an_end_is_sound_between_turns.{IsSane, fresh_sane, leads_to, turn_sane}
pub use Rattle.osi_blameless.proofs.ends.courses.an_end_takes_packets_up_to_its_last.{Stopped, TakesFirst, none_held, prefix_or}
pub use Rattle.osi_blameless.proofs.ends.courses.an_end_takes_packets_up_to_its_last.{stopped_there}
pub use Rattle.osi_blameless.proofs.ends.courses.what_a_run_does_to_it.{TurnOf, TurnsOf, fresh_course, fresh_turns, turn_continues}
pub use Rattle.osi_blameless.proofs.ends.courses.what_a_session_puts.{unlinked_put}
pub use Rattle.osi_blameless.proofs.ends.courses.what_sessions_hear_of_it.{Known}
pub use Rattle.osi_blameless.proofs.ends.courses.what_units_do_to_a_course.{no_calls}
pub use Rattle.osi_blameless.proofs.ends.courses.what_was_said_is_explained.{IsSaid, nothing, shown_said, something, units_came}
pub use Rattle.osi_blameless.proofs.ends.links.how_long_a_connection_is_open.{BeforeOpen, HasNoDr, Life, Stage as Time, WhenPast, WhileOpen}
pub use Rattle.osi_blameless.proofs.ends.links.how_long_a_connection_is_open.{amid, early, is_dr, opens_by, past, stage_at, stage_by}
pub use Rattle.osi_blameless.proofs.ends.links.how_long_a_connection_is_open.{stage_is, stage_over, stage_there, stays}
pub use Rattle.osi_blameless.proofs.ends.links.the_first_cc_opens_a_connection.{Awaiting, FirstOf, HasNoCc, asked_so, awaits, goes}
pub use Rattle.osi_blameless.proofs.ends.links.units_of_each_connection.{all_units_more, none_mark, units_more}
pub use Rattle.osi_blameless.proofs.ends.links.what_calls_of_a_link_say.{fresh_of, none_said, out_more, said_more, taken_more}
pub use Rattle.osi_blameless.proofs.ends.reading.two_readings_of_a_stream_agree.{GoesBeyond, first, packets_on, packets_then}
pub use Rattle.osi_blameless.proofs.ends.reading.two_readings_of_a_stream_agree.{front_of as part_of, second, two_readings}
pub use Rattle.osi_blameless.proofs.ends.reading.what_is_written_is_read_again.{CanBeWritten, packets_joined, read_again}
pub use Rattle.osi_blameless.proofs.ends.sessions.a_history_is_a_run.{history_runs}
pub use Rattle.osi_blameless.proofs.ends.sessions.the_session_of_a_request_is_a_caller.{opens_so}
pub use Rattle.osi_blameless.proofs.transport.by_line.a_dr_for_what_is_gone.{before_going}
pub use Rattle.osi_blameless.proofs.transport.by_line.an_end_is_fair_in_class_2.{Joined as Follows, first_joined, next_joined}
pub use Rattle.osi_blameless.proofs.transport.by_line.each_connection_has_its_line.{AreGiven, Followed, IsAnswer, IsAsking, IsNoCc, IsOwned}
pub use Rattle.osi_blameless.proofs.transport.by_line.each_connection_has_its_line.{Row, Tracked, all_so, asking, is_tracked, stray}
pub use Rattle.osi_blameless.proofs.transport.by_line.the_end_is_judged_as_the_other_side_is.{side_zero}
pub use Rattle.osi_blameless.proofs.transport.by_place.an_end_is_fair.{Stage, lines, selected, selecting}
pub use Rattle.osi_blameless.proofs.transport.by_place.each_connection_has_its_place.{Answering, AreStrays, Asked, Called, Stand, StrayIf}
pub use Rattle.osi_blameless.proofs.transport.by_place.each_connection_has_its_place.{Untagged, answers as answering, comes, line_of}
pub use Rattle.osi_blameless.proofs.transport.by_place.each_connection_has_its_place.{refuses, runs}
pub use Rattle.osi_blameless.proofs.transport.by_place.what_becomes_of_an_end.{IsCalled}
pub use Rattle.osi_blameless.proofs.transport.class_0.an_end_selects_class_zero.{Selecting, selecting_passes}
pub use Rattle.osi_blameless.proofs.transport.class_0.a_dt_of_class_zero_passes.{only_first, unlike}
pub use Rattle.osi_blameless.proofs.transport.class_0.what_an_end_does_in_class_zero.{IsInZero, anyhow, zero_puts}
pub use Rattle.osi_blameless.proofs.transport.class_0.what_an_end_puts_in_class_zero.{PutsData}
pub use Rattle.osi_blameless.proofs.transport.connections.no_two_open_connections_have_one_peer.{both, left_open}
pub use Rattle.osi_blameless.proofs.transport.connections.units_by_their_place.{Placed, at_first, at_join, first_at, values}
pub use Rattle.osi_blameless.proofs.transport.connections.what_becomes_of_a_connection.{comes_for}
pub use Rattle.osi_blameless.proofs.transport.connections.what_stays_of_each_connection.{left_then, own_stays, right_passes}
pub use Rattle.osi_blameless.proofs.transport.connections.what_the_other_side_closes.{IsClear, IsFirm, IsOngoing, going_on, is_name}
pub use Rattle.osi_blameless.proofs.transport.connections.which_unit_of_the_other_side_passes.{IsIdle}
pub use Rattle.osi_blameless.proofs.transport.connections.which_units_are_for_a_connection.{IsDc, each_picked, first_kept, first_left}
pub use Rattle.osi_blameless.proofs.transport.connections.which_units_are_for_a_connection.{names_in as is_at, is_dc, keep, leads, names}
pub use Rattle.osi_blameless.proofs.transport.connections.which_units_are_for_a_connection.{picked, picked_first, picked_join, picked_other}
pub use Rattle.osi_blameless.proofs.transport.connections.which_units_are_for_a_connection.{picked_rest, those, those_join}
pub use Rattle.osi_blameless.proofs.transport.lines.what_a_link_does.{begun_by, gives_so, takes_so}
pub use Rattle.osi_blameless.proofs.transport.lines.what_is_right_passes_each_test.{passes_each}
pub use Rattle.osi_blameless.proofs.transport.names.a_reference_names_one_connection.{applied_found, applied_judged, fresh_apart, no_item}
pub use Rattle.osi_blameless.proofs.transport.names.a_reference_names_one_connection.{not_first, not_true, passes_apart}
pub use Rattle.osi_blameless.proofs.transport.names.a_right_unit_is_not_blamed.{first_there}
pub use Rattle.osi_blameless.proofs.transport.names.all_are_judged_unless_one_broke.{AreJudged, still_judged}
pub use Rattle.osi_blameless.proofs.transport.names.names_stay_apart_though_one_is_lost.{AreNamedApart, OnlyOne, each_sound}
pub use Rattle.osi_blameless.proofs.transport.names.what_holds_of_one_item.{HoldsOfEach, after_add, after_map, after_set, each_add}
pub use Rattle.osi_blameless.proofs.transport.names.what_holds_of_one_item.{each_map, each_set, first_true, none_true, one_added}
pub use Rattle.osi_blameless.proofs.transport.names.what_holds_of_one_item.{one_changed, one_mapped, one_put}
pub use Rattle.osi_blameless.proofs.transport.names.what_keeps_names_apart.{AreApart as NamesApart, Sound}
pub use Rattle.osi_blameless.proofs.transport.requests.a_connection_is_lost_in_class_2_alone.{IsOfTwo, firm_unless_two, still_two}
pub use Rattle.osi_blameless.proofs.transport.requests.class_0_stays_selected.{zero_stays}
pub use Rattle.osi_blameless.proofs.transport.requests.how_a_calling_end_asks.{IsOver, one}
pub use Rattle.osi_blameless.proofs.transport.requests.how_requests_go_on.{Calling, answered, ended, known, quiet, refused, waits}
pub use Rattle.osi_blameless.proofs.transport.requests.left_selects_no_class.{left_class}
pub use Rattle.osi_blameless.proofs.transport.requests.no_request_is_blamed.{Holds, holds_first, holds_next}
pub use Rattle.osi_blameless.proofs.transport.requests.one_request_waits.{begun_live, reached_class}
pub use Rattle.osi_blameless.proofs.transport.requests.references_of_requests_rise.{Rise, all_gives, closed_gives, ended_gives, not_less}
pub use Rattle.osi_blameless.proofs.transport.requests.references_of_requests_rise.{rise_from, sent_gives}
pub use Rattle.osi_blameless.proofs.transport.requests.what_a_carrier_puts.{alone, connected}
pub use Rattle.osi_blameless.proofs.transport.requests.what_lasts_at_the_judge.{lasts_passing}
pub use Rattle.osi_blameless.proofs.transport.requests.which_requests_are_put.{asked_among, call_asks, unit_asks}
pub use Rattle.osi_blameless.proofs.transport.requests.while_no_class_is_selected.{GoesOn, Waits, after_change, calm_judge, done_takes}
pub use Rattle.osi_blameless.proofs.transport.requests.while_no_class_is_selected.{set_same, set_there}
pub use Rattle.osi_blameless.proofs.transport.small_facts_that_many_lemmas_use.{and_false, begins_judged, begun_left, begun_right}
pub use Rattle.osi_blameless.proofs.transport.small_facts_that_many_lemmas_use.{closing_same, differ, first_is, is_false, judged_same}
pub use Rattle.osi_blameless.proofs.transport.small_facts_that_many_lemmas_use.{no_list, none_of, number_is, some_same, unequal}
pub use Rattle.osi_blameless.specs.Bounded.{AreJudgedOf, AreMomentsOf, IsCourseOf, IsFedWithin, IsJudgedOf, IsMomentOf, SessionsOf}
pub use Rattle.osi_blameless.specs.Bounded.{comes_within}
pub use Rattle.osi_blameless.specs.Bounded.IsFedWithin.{fed, unfed}
pub use Rattle.osi_blameless.specs.EndAndJudge.{Along, PassesOther}
pub use Rattle.osi_blameless.specs.Joint.{Joint, Step, Steps, StepsAlong, TakesTurn, begin, begins_other, begins_own, passes_other}
pub use Rattle.osi_blameless.specs.Joint.{passes_own, turns}
pub use Rattle.osi_blameless.specs.Packets.{units_by, units_in}
pub use Rattle.osi_blameless.specs.Passing.{AreOctets, ComesBySteps, IsOctet, TurnsBad}
pub use Rattle.osi_blameless.specs.Shown.{AreAfter, IsJoinedFrom, IsShownNow, IsShownOf, all_before, before_begun, before_of, calls_from}
pub use Rattle.osi_blameless.specs.Shown.{left_over, parts_of, with_next}
pub use Rattle.osi_blameless.specs.ShownPlaces.{HasAsked, HaveSamePlaces, IsJoinedAt, IsOneOf, named_by}
pub use Rattle.osi_blameless.specs.Spoilt.{IsNoPacket, IsUnread, LaterAlong, LaterSteps, spoilt}
pub use Rattle.osi_blameless.specs.ends.Arriving.{Answers, AreApart, Begins, GivesTo, Lives, Opens, Parts, TakesAll, is_shut, opens}
pub use Rattle.osi_blameless.specs.ends.Courses.{AreCalls, Continues, Deeds, Gone, IsFreshLink, IsShut, Speaks, all_did, no_deeds, said_in}
pub use Rattle.osi_blameless.specs.ends.Courses.{then_did, units_given, units_taken}
pub use Rattle.osi_blameless.specs.ends.Courses.Course.{awaited, is_gone, unknown}
pub use Rattle.osi_blameless.specs.ends.Courses.Gone.{closed, never, over}
pub use Rattle.osi_blameless.specs.ends.Doing.{Makes}
pub use Rattle.osi_blameless.specs.ends.Marked.{Marked, all_units, is_of_link, units_at}
pub use Rattle.osi_blameless.specs.ends.Parts.{ends_whole}
pub use Rattle.osi_blameless.specs.ends.Seeing.{IsFresh, IsPrefix, IsSeen, PassAfter, put_along, used_along}
pub use Rattle.osi_blameless.specs.ends.Showing.{Shows}
pub use Rattle.osi_blameless.specs.ends.Talking.{Said, octets_said, told_of}
pub use Rattle.osi_blameless.specs.ends.Turns.{Run, Takes, Turn}
pub use Rattle.osi_blameless.specs.transport.Asking.{asked_in}
pub use Rattle.osi_blameless.specs.transport.Lines.{Act, Acts, ActsAlong, Line, begins_elsewhere, ignores, moves, opened_line, units_put}
pub use Rattle.osi_blameless.specs.transport.Naming.{HoldsOfOne, Passing, packet, passes, rubbish, unit}
pub use Rattle.osi_blameless.specs.transport.Wholes.{Event, HappenAlong, Happens, MayCall, Whole, arrives, calls, passes_rubbish}
pub use Rattle.osi_report.specs.Blaming.{BlameNowhere, IsBlameless}
pub use Rattle.osi_report.specs.Disputes.{IsJudgement}
pub use Rattle.osi_report.specs.Rows.{IsCaptureOf}
