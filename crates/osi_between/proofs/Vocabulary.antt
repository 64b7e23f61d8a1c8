-- What the proofs of this crate take from the library, from the crates below and from its own definitions.
pub use Rattle.std.proofs.Common.{Bool, IfSome, List, None, Ok, Option, Some, [], ap, append_assoc, arith, drop, false, if◌then◌else◌, inl}
pub use Rattle.std.proofs.Common.{inr, is_none, is_some, length, length-append, map, min, nat_lt, not, refl, subst, suc, sym, take, true}
pub use Rattle.std.proofs.Common.{zero, ℕ, ◌++◌, ◌+◌, ◌-◌, ◌<◌, ◌==◌, ◌^◌, ◌||◌, ◌∙◌, ◌∷◌, ◌≡◌, ◌≢◌, ◌≤◌, ◌⊎◌}
pub use Rattle.std.proofs.Math.Nat.{add-zero, pow-le-pow_right, suc-add}
pub use Rattle.std.proofs.Math.Seq.{drop-append_seam}
pub use Rattle.std.proofs.lemmas.Bool.{eq-eqb, eqb-true, le-ltb, lt-ltb, ltb-false, ltb-true, ne_eqb}
pub use Rattle.std.proofs.lemmas.Grind.{flat_map-append}
pub use Rattle.std.proofs.lemmas.List.{append-nil, append_cancel_left, append_cancel_right, drop-take, length-drop, length-map}
pub use Rattle.std.proofs.lemmas.List.{length-take-le, map-append, take-append-drop, take-append-le, take-take}
pub use Rattle.std.specs.List.{AllByRecursion, flat_map, list_any}
pub use Rattle.osi_tpkt.proofs.a_prefix_of_a_packet.{completed_partial, empty_partial, partial_not_whole}
pub use Rattle.osi_tpkt.proofs.a_stream_is_cut_in_one_way.{some_cut}
pub use Rattle.osi_unit.proofs.lists_of_octets_stay_octets.{octets_append, octets_left, octets_nil}
pub use Rattle.osi_tpkt.proofs.no_packet_is_a_prefix_of_another.{one_packet}
pub use Rattle.osi_unit.specs.Octets.{IsOctets}
pub use Rattle.osi_tpkt.specs.Packet.{IsFaultOf, IsPacket, IsPartial, packet_of}
pub use Rattle.osi_tpkt.specs.Stream.{ArePackets, Ending, EndsAt}
pub use Rattle.osi_tpkt.specs.Stream.Ending.{Faulty, Rest}
pub use Rattle.osi_tpkt.specs.declared.cutting.Fed.{Fed}
pub use Rattle.osi_tpkt.specs.declared.faults.TpktFault.{TpktFault}
pub use Rattle.osi_tpdu.specs.Limits.{size_code, window_units}
pub use Rattle.osi_tpdu.specs.Value.{Connect, IsConnect, Value, acknowledge, confirm, data0, data2, disconnect, disconnected, error}
pub use Rattle.osi_tpdu.specs.Value.{request}
pub use Rattle.osi_tpdu.specs.Writing.{written}
pub use Rattle.osi_class.proofs.between.calls_keep_the_flow.{agree_begins, agree_turns}
pub use Rattle.osi_class.proofs.between.no_tsdu_becomes_too_long.{stays_short}
pub use Rattle.osi_class.proofs.between.parts_stay_in_order.{at_ok, choose_ok}
pub use Rattle.osi_class.proofs.between.the_oldest_unit_can_be_taken.{oldest_in_class_0, oldest_in_class_2, said}
pub use Rattle.osi_class.proofs.between.tsdus_come_in_order.{begins, other_way, stays_whole, turns_keep}
pub use Rattle.osi_class.proofs.between.units_are_of_one_class.{zero_turns}
pub use Rattle.osi_class.proofs.between.what_was_handed_in_comes_out.{nothing_begun, quiet_unsent}
pub use Rattle.osi_class.proofs.bounds.every_link_keeps_its_bounds.{move_sound}
pub use Rattle.osi_class.proofs.giving.a_link_gives_finitely_many_units.{drained_ends, drained_leaves, drained_moves}
pub use Rattle.osi_class.proofs.giving.what_is_given_can_be_written.{in_range, stays_octets, unit_fits, unit_length}
pub use Rattle.osi_class.specs.Between.{AreOfClass, Comes, HasWholeTsdus, IsShortTsdu, LeftMoves, LinkPair, TakesOldest, Turn, TurnsAlong}
pub use Rattle.osi_class.specs.Between.{at_left, given_by, left_in, opened_pair, opposite, parts_under_way, right_out, swapped, under_way}
pub use Rattle.osi_class.specs.Between.{under_way_before}
pub use Rattle.osi_class.specs.Ends.{fresh_ends}
pub use Rattle.osi_class.specs.Giving.{all_given}
pub use Rattle.osi_class.specs.Joining.{Joining}
pub use Rattle.osi_class.specs.Link.{Given, Standing, ack, fresh_two, is_of_two, part0, part2, taken, two_standing, unit_of, with_tsdu}
pub use Rattle.osi_class.specs.Link.{zero_standing}
pub use Rattle.osi_class.specs.Negotiation.{accept, selected_by, selected_size}
pub use Rattle.osi_class.specs.Runs.{MovesAlong, give_out, hand_in, hand_out, take_in, tsdu_in, tsdu_out}
pub use Rattle.osi_class.specs.Sound.{HasGivenInRange}
pub use Rattle.osi_class.specs.Tsdus.{tsdus_after, uncut}
pub use Rattle.osi_class.specs.declared.terms.Class.{Class}
pub use Rattle.osi_class.specs.declared.terms.Class.TheVariants.{Two, Zero}
pub use Rattle.osi_class.specs.declared.terms.Local.{Local}
pub use Rattle.osi_carrier.proofs.effects.a_unit_touches_one_connection.{free_of, orderly_asks, orderly_closed, orderly_fresh, orderly_same}
pub use Rattle.osi_carrier.proofs.effects.a_unit_touches_one_connection.{orderly_sent, orderly_unit}
pub use Rattle.osi_carrier.proofs.effects.units_one_after_the_other.{react_quiet}
pub use Rattle.osi_carrier.proofs.references.rows_after_a_change.{push_other, push_rise, push_up, put_other, without_other, without_rise}
pub use Rattle.osi_carrier.proofs.references.rows_after_a_change.{without_up}
pub use Rattle.osi_carrier.proofs.references.the_row_at_a_place.{put_same}
pub use Rattle.osi_carrier.proofs.references.what_a_change_leaves_there.{absent, beyond, found, push_here, put_here, without_here}
pub use Rattle.osi_carrier.proofs.references.which_connections_have_selectors.{drop_named, put_named}
pub use Rattle.osi_carrier.proofs.references.which_rule_applies_to_a_cr.{has_room}
pub use Rattle.osi_carrier.proofs.stream.what_was_written_is_read.{Fronts, all_behind, alone_starved, fault_free, packet_reacts, reads_part}
pub use Rattle.osi_carrier.proofs.stream.what_was_written_is_read.{starved_unit, unit_packet, unit_read, units_front}
pub use Rattle.osi_carrier.proofs.written.all_that_a_link_gives.{packets_join}
pub use Rattle.osi_carrier.specs.Calls.{asks, closed_with, fresh_state, link_of, may_connect, open_link, sent, sent_all}
pub use Rattle.osi_carrier.specs.Coming.{AreComing, IsSendable}
pub use Rattle.osi_carrier.specs.Happenings.{Happening, closed, opened, tsdu}
pub use Rattle.osi_carrier.specs.Negotiation.{agreed_size, opened_link, proposal, proposal_by}
pub use Rattle.osi_carrier.specs.Orderly.{AreUpTo, IsOrderly, RiseFrom}
pub use Rattle.osi_carrier.specs.Packets.{ActsBy, Carrying, Feeds, Goes, Refuses, Starves, TakesPackets, after_packet, is_spoilt, waits}
pub use Rattle.osi_carrier.specs.Place.{Place, connection_in, never, place_at, was_given}
pub use Rattle.osi_carrier.specs.Pump.{pumped}
pub use Rattle.osi_carrier.specs.React.{accepts, denies, handed_out, has_peer, in_class, in_two, is_full, is_of_peer, leaves, opens, react}
pub use Rattle.osi_carrier.specs.React.{settles, to_asked, to_closing, to_connection, to_reference}
pub use Rattle.osi_carrier.specs.References.{dropped, references}
pub use Rattle.osi_carrier.specs.Rows.{Rows, put, value_at, without}
pub use Rattle.osi_carrier.specs.State.{Connection, State, asked, closing, ends, linked, packets}
pub use Rattle.osi_carrier.specs.declared.ends.EndReason.{EndReason}
pub use Rattle.osi_carrier.specs.declared.ends.EndReason.TheVariants.{Closed, NoMemory}
pub use Rattle.osi_between.specs.Addresses.{AreFor, asked_by, behind, is_last, live_after, live_behind, reference_of, requests, units_of}
pub use Rattle.osi_between.specs.Between.{Acted, AreBetween, AreJoinedBy, Between, Both, Carries, IsAllThere, IsOnTheWay, IsStill, Loses}
pub use Rattle.osi_between.specs.Between.{Lost, Same, Took, answers_in, arriving, becomes, broken_at, ended_at, fresh_between, fresh_both}
pub use Rattle.osi_between.specs.Between.{handed_over, is_cut, last_of, lost_from, put_in, reach_of, side, still_to_tell, to_come, told_of}
pub use Rattle.osi_between.specs.Between.{units_from, within_reach}
pub use Rattle.osi_between.specs.Carried.{AreFirstOf, all_handed_in, all_told, handed_in, told_by_packet, told_in, tsdus_in, tsdus_told}
pub use Rattle.osi_between.specs.Course.{Acts, BringsTo, Course, CourseCarries, CourseMoves, Holds, HoldsAt, IsAccepted, IsAskedBy, IsTsap}
pub use Rattle.osi_between.specs.Course.{MayTakeTwo, accepting, answer_of, answers_at, asking, at_end, called_local, from_end, met}
pub use Rattle.osi_between.specs.Course.{progress_of, told_opening, unasked, withdrawing}
pub use Rattle.osi_between.specs.Joined.{ActsFor, AreJoined, Did, HasPlaces, IsEmpty, JoinedFrom, StandsBetween, under_way_for}
pub use Rattle.osi_between.specs.Journey.{IsOpenAt, May, MayAll, Move, StayBetween, breaks, carries, closes, connects, ended_behind}
pub use Rattle.osi_between.specs.Journey.{ended_by_all, hands_in, moved, takes, tells}
pub use Rattle.osi_between.specs.Linked.{AreLinked, TakesFor, WasFed, with_events, with_state}
pub use Rattle.osi_between.specs.Meeting.{AreLast, Changes, IsAt, Meeting, Moves, Stands, addressed, answers_of, back, farewell, here}
pub use Rattle.osi_between.specs.Meeting.{leaving, left_both, left_here, left_there, messages_back, messages_out, mirror, out, parted}
pub use Rattle.osi_between.specs.Meeting.{talking, there, told_at, told_open, waiting_here, waiting_there}
pub use Rattle.osi_between.specs.Messages.{AreLike, MayLackABeginning, Message, agree, ask, begun_at, bye, deny, first_led_by, led_by}
pub use Rattle.osi_between.specs.Messages.{message, messages_after, messages_to, over, parting, uncut_units, unsent_at}
pub use Rattle.osi_between.specs.OpenLinks.{AgreeIn, AreOpen, IsSettled, IsWell, LeftTakes, Passes, after_send, after_take, links}
pub use Rattle.osi_between.specs.Progress.{Brings, Progress, asks_in, awaiting, behind_arrival, behind_arrivals, behind_put, behind_puts}
pub use Rattle.osi_between.specs.Progress.{class_behind_all, gone, in_use, leaves_use, may_arrive, not_yet, progress_in, references_for}
pub use Rattle.osi_between.specs.Progress.{shutting}
pub use Rattle.osi_between.specs.Refusing.{AreRefusing, Refusal, denying, rows_in}
pub use Rattle.osi_between.specs.Taking.{TakesSome, TakesUnits}
pub use Rattle.osi_between.specs.Terms.{IsProposed, Terms, accepts_in, by_two, by_zero, class_of, refusing, terms_of}
pub use Rattle.osi_between.specs.Zero.{AreJoinedZero, HasOne, ZeroCourse}
