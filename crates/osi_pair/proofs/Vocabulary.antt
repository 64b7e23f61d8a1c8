-- What the proofs of this crate take from the library, from the crates below and from its own definitions.
pub use Rattle.std.proofs.Common.{Bool, Err, IfOk, IfSome, IsSome, List, None, Ok, OnErr, OnOk, Option, Result, Some, [], ap, ap₂, arith}
pub use Rattle.std.proofs.Common.{drop, false, if◌then◌else◌, inl, inr, is_err, is_some, length, map, min, nat_le, nat_lt, not, option_map}
pub use Rattle.std.proofs.Common.{refl, subst, suc, sum, sym, take, true, vec_capacity, vec_items, vec_len, zero, ℕ, ◌&&◌, ◌++◌, ◌+◌, ◌-◌}
pub use Rattle.std.proofs.Common.{◌<◌, ◌==◌, ◌^◌, ◌||◌, ◌∙◌, ◌∷◌, ◌≡◌, ◌≢◌, ◌≤◌, ◌⊎◌}
pub use Rattle.std.proofs.Math.Nat.{add_comm}
pub use Rattle.std.proofs.Math.Seq.{take-add, take-append_seam}
pub use Rattle.std.proofs.lemmas.Bool.{eq-eqb, eqb-true, le-leb, leb-false, leb-true, lt-ltb, ltb-true, or_parts}
pub use Rattle.std.proofs.lemmas.Bool.Decides.{nat_tests}
pub use Rattle.std.proofs.lemmas.List.{append-nil, append_assoc, drop-drop, length-append, length-drop, length-map, length-take, map-append}
pub use Rattle.std.proofs.lemmas.List.{nil_from_length, take-append-drop, take-append-le, take-map, take-take, take_all, take_more}
pub use Rattle.std.proofs.lemmas.List.Concat.{flat_map-append}
pub use Rattle.std.proofs.lemmas.List.Folds.{list_any-append}
pub use Rattle.std.proofs.lemmas.List.Sums.{sum_by-cons}
pub use Rattle.std.proofs.lemmas.Nat.{and_le_r}
pub use Rattle.std.proofs.lemmas.Option.{slice_get_read, slice_get_within}
pub use Rattle.std.specs.List.{AllByRecursion, flat_map, list_any, slice_get}
pub use Rattle.osi_tpkt.proofs.a_prefix_of_a_packet.{completed_partial, empty_partial, partial_not_whole}
pub use Rattle.osi_tpkt.proofs.a_stream_is_cut_in_one_way.{one_list}
pub use Rattle.osi_tpkt.proofs.no_packet_is_a_prefix_of_another.{one_packet}
pub use Rattle.osi_tpkt.specs.Held.{Held}
pub use Rattle.osi_unit.specs.Octets.{IsOctets}
pub use Rattle.osi_tpkt.specs.Packet.{IsFaultOf, IsPacket, IsPartial, packet_of}
pub use Rattle.osi_tpkt.specs.Stream.{ArePackets}
pub use Rattle.osi_tpkt.specs.declared.cutting.Fed.{Fed}
pub use Rattle.osi_tpkt.specs.declared.faults.TpktFault.{TpktFault}
pub use Rattle.osi_tpdu.specs.Limits.{tsap_octets}
pub use Rattle.osi_tpdu.specs.Value.{Value, acknowledge, confirm, data0, data2, disconnect, request}
pub use Rattle.osi_tpdu.specs.declared.tsaps.Tsap.{Tsap}
pub use Rattle.osi_class.specs.Between.{IsShortTsdu}
pub use Rattle.osi_class.specs.Link.{Given, Standing as Link}
pub use Rattle.osi_class.specs.declared.terms.Class.{Class}
pub use Rattle.osi_class.specs.declared.terms.Class.TheVariants.{Two, Zero}
pub use Rattle.osi_class.specs.declared.terms.Local.{Local}
pub use Rattle.osi_carrier.proofs.effects.a_unit_touches_one_connection.{free_of, orderly_same, orderly_unit}
pub use Rattle.osi_carrier.proofs.effects.units_one_after_the_other.{none_of}
pub use Rattle.osi_carrier.proofs.references.rows_after_a_change.{push_other, put_other, put_rise, put_up, rise_lower, without_other}
pub use Rattle.osi_carrier.proofs.references.rows_after_a_change.{without_length, without_rise, without_up}
pub use Rattle.osi_carrier.proofs.references.the_row_at_a_place.{put_same}
pub use Rattle.osi_carrier.proofs.references.what_a_change_leaves_there.{absent, beyond, push_here, put_here}
pub use Rattle.osi_carrier.proofs.stream.packets_at_the_front_of_octets.{PacketLaws}
pub use Rattle.osi_carrier.proofs.stream.what_was_written_is_read.{unit_packet}
pub use Rattle.osi_carrier.specs.Calls.{begun_by, closed_with, ended_by, kept_in, may_connect, open_link, or_else, sent, sent_all}
pub use Rattle.osi_carrier.specs.Happenings.{Happening, closed, opened as told_opened, refused as told_refused, tsdu}
pub use Rattle.osi_carrier.specs.Orderly.{AreUpTo, IsOrderly, RiseFrom}
pub use Rattle.osi_carrier.specs.Place.{Place, connection_in, never, place_at, was_given}
pub use Rattle.osi_carrier.specs.Rows.{Rows, put as put_row, value_at, without}
pub use Rattle.osi_carrier.specs.State.{Connection, State, asked, closing, linked, packets}
pub use Rattle.osi_carrier.specs.Told.{is_open}
pub use Rattle.osi_carrier.specs.declared.ends.EndReason.{EndReason}
pub use Rattle.osi_carrier.specs.declared.ends.EndReason.TheVariants.{Broken, Closed, NoMemory}
pub use Rattle.osi_carrier.specs.declared.faults.OpenError.{OpenError}
pub use Rattle.osi_spdu.specs.Fields.{unit_bits}
pub use Rattle.osi_spdu.specs.Kinds.{category_of}
pub use Rattle.osi_spdu.specs.Known.{Units}
pub use Rattle.osi_spdu.specs.Reading.{Next, Placed, continued, next_at, unit_at, ◌>>=◌}
pub use Rattle.osi_spdu.specs.Sizes.{are_sizes, named_by}
pub use Rattle.osi_spdu.specs.Values.{is_size}
pub use Rattle.osi_spdu.specs.declared.faults.SpduFault.{SpduFault}
pub use Rattle.osi_spdu.specs.declared.fields.TsduMaximumSize.{TsduMaximumSize}
pub use Rattle.osi_spdu.specs.declared.kinds.Category.{Category}
pub use Rattle.osi_spdu.specs.declared.sizes.TsduSizes.{TsduSizes}
pub use Rattle.osi_message.specs.InOctets.{IsInOctets}
pub use Rattle.osi_message.specs.Meanings.{AA, AB, CN, DT, Meaning, RF}
pub use Rattle.osi_message.specs.Parting.{AreLater, AreParts, is_parted, joined, tsdus_of, tsdus_sent}
unfoldable pub use Rattle.osi_message.specs.Parting.{words_sent}
pub use Rattle.osi_message.specs.Reading.{Said, said_by_units, said_if_read}
unfoldable pub use Rattle.osi_message.specs.Reading.{said_at}
pub use Rattle.osi_message.specs.Sendable.{IsSendable, said_of, words_of}
pub use Rattle.osi_message.specs.Words.{Words, part_octets, says, word_octets}
pub use Rattle.osi_message.specs.Written.{written}
pub use Rattle.osi_message.specs.declared.places.Place.{Place as PartPlace}
pub use Rattle.osi_message.specs.declared.places.Place.TheVariants.{First, Last, Middle}
pub use Rattle.osi_session.proofs.moves.the_move_of_each_input.{taken_is}
pub use Rattle.osi_session.proofs.sent.what_an_accepted_call_sends.{limit_sized}
pub use Rattle.osi_session.proofs.tables.messages_act_as_the_table_says.{kept_none, moves_as_whole, others, word_behind, words_of_message}
pub use Rattle.osi_session.proofs.tables.what_is_true_of_each_phase.{excluded, implied}
pub use Rattle.osi_session.proofs.tsdu.how_many_indications.{words_show}
pub use Rattle.osi_session.proofs.tsdu.what_a_receiver_keeps.{call_keeps, first_arrives, gone_is, last_arrives, middle_arrives}
pub use Rattle.osi_session.proofs.tsdu.what_is_joined.{inputs_kept, joined_holds}
pub use Rattle.osi_session.specs.Allowed.{Answer, Passed, Step as SessionStep, octets_of}
unfoldable pub use Rattle.osi_session.specs.Allowed.{allowed}
pub use Rattle.osi_session.specs.Calls.{Call, HasSerial, called_by, refusal_reason}
pub use Rattle.osi_session.specs.Joining.{respond_word}
pub use Rattle.osi_session.specs.Kept.{IsJoined, IsJoinedAs, IsKept, IsKeptIn, IsNoFault}
pub use Rattle.osi_session.specs.Listening.{Listener, came, came_as, rests}
pub use Rattle.osi_session.specs.Moves.{Input, Move, Standing, after_input, begun, broken, called, opened, refused, taken}
unfoldable pub use Rattle.osi_session.specs.Moves.{react}
pub use Rattle.osi_session.specs.Parts.{part_comes}
pub use Rattle.osi_session.specs.Phases.{is_aborting, is_ended, is_over, is_wait_transport, may_hold, shows_loss}
pub use Rattle.osi_session.specs.Respond.{Outcome, Verdict, dropped, enacted, faulty, fine, in_aborting, in_ended, reply_for, respond}
pub use Rattle.osi_session.specs.Respond.{respond_unit, verdict}
unfoldable pub use Rattle.osi_session.specs.Respond.{respond_fault}
pub use Rattle.osi_session.specs.Runs.{HasNumbersInWords}
pub use Rattle.osi_session.specs.Sessions.{CanBeSent, awaits as awaits_cn}
pub use Rattle.osi_session.specs.Shown.{Lost, Shown, shown_by}
pub use Rattle.osi_session.specs.Sizes.{limit_of}
pub use Rattle.osi_session.specs.Sound.{IsSound as IsSoundState}
unfoldable pub use Rattle.osi_session.specs.Units.{is_profile}
pub use Rattle.osi_session.specs.Whole.{in_words, is_apart, listening}
pub use Rattle.osi_session.specs.declared.faults.CallError.{CallError}
pub use Rattle.osi_session.specs.declared.requests.Request.{Request}
pub use Rattle.osi_session.specs.declared.state.State.{State as SessionState}
pub use Rattle.osi_stack.proofs.called.tsdus_that_are_handed_together.{handed, hands_none, puts_words, sent_by_itself}
pub use Rattle.osi_stack.proofs.called.what_is_sent_is_short.{SpduLaws, sent_short}
pub use Rattle.osi_stack.proofs.carried.events_one_after_the_other.{never_starved}
pub use Rattle.osi_stack.proofs.carried.open_connections_stay_open.{apart_push, apart_put, used_at}
pub use Rattle.osi_stack.proofs.carried.packets_without_events.{or_second, packet_is, quiet_attends}
pub use Rattle.osi_stack.proofs.carried.what_a_move_leaves.{Readings, are_lost, came_is, one_heard, used_live}
pub use Rattle.osi_stack.proofs.carried.what_sessions_leave_of_the_carrier.{hears_keep}
pub use Rattle.osi_stack.proofs.each_line.references_rise.{rise_joins}
pub use Rattle.osi_stack.proofs.each_line.the_first_that_indicates.{quiet_none}
pub use Rattle.osi_stack.proofs.each_line.what_stays_true_of_each_session.{came_moves, came_numbers, session_all}
pub use Rattle.osi_stack.proofs.each_session.what_has_joined_is_open.{came_by}
pub use Rattle.osi_stack.proofs.in_step.lines_that_are_gone_do_not_matter.{kept_first, quieted_apart, quieted_up}
pub use Rattle.osi_stack.proofs.in_step.what_is_seen_is_the_same.{quieted_at}
pub use Rattle.osi_stack.proofs.opening.connections_that_units_open.{first_here}
pub use Rattle.osi_stack.proofs.sound.the_invariant_is_kept.{packet_rises, up_more}
pub use Rattle.osi_stack.proofs.stream.an_end_is_what_its_packets_make.{calls_read, pieces_alike}
pub use Rattle.osi_stack.proofs.stream.how_calls_end_an_end.{in_room, pieces_end, stops_not}
pub use Rattle.osi_stack.proofs.stream.the_room_for_a_packet.{found_how}
pub use Rattle.osi_stack.specs.Calls.{after_open, call_error, calls_with, carried, connect_error, first_shown, held_by, is_long, numbers_of}
pub use Rattle.osi_stack.specs.Calls.{table_error}
pub use Rattle.osi_stack.specs.Coming.{after_unit, carries_out}
pub use Rattle.osi_stack.specs.Feeding.{Feeds, FindsNoMemory, Refuses, RunsDry, StopsBehind, TakesPackets, stops}
pub use Rattle.osi_stack.specs.Folds.{AllCameAbout, CameAbout}
pub use Rattle.osi_stack.specs.Hearing.{RunsOut, Starves, after_packet, all_lost, attends, concludes, ends as ends_end, hears, hears_first}
pub use Rattle.osi_stack.specs.Hearing.{hears_next, hears_times, opens, shown_at_loss, starves, with_carrier, with_events}
pub use Rattle.osi_stack.specs.Links.{AreApart, IsSound, Soundness, needs_link}
pub use Rattle.osi_stack.specs.Messages.{Says, kept_at, told_all}
pub use Rattle.osi_stack.specs.Moving.{answers, by_line, limit_for, line_after, line_by, to_session}
pub use Rattle.osi_stack.specs.Needs.{needs_memory}
pub use Rattle.osi_stack.specs.Runs.{Calls, CallsInRoom, HasRoom, carried_in, carrying, feeding, telling, told_in, used_in}
pub use Rattle.osi_stack.specs.State.{End, Line as EndLine, Holding, IsAttended, fresh_end, fresh_line, joined_in, joined_live}
pub use Rattle.osi_stack.specs.State.{joined_of, session_at, session_in, used_lines, waits}
pub use Rattle.osi_stack.specs.Transport.{answers_by}
pub use Rattle.osi_stack.specs.declared.connecting.Connect.{Connect as ConnectCall}
pub use Rattle.osi_stack.specs.declared.connecting.ConnectError.{ConnectError}
pub use Rattle.osi_stack.specs.declared.connecting.ConnectError.TheVariants.{NotSelected, TooLong}
pub use Rattle.osi_between.proofs.joined.joined_carriers_stay_joined.{given_live, within_given}
pub use Rattle.osi_between.proofs.link.a_request_before_a_class_is_agreed.{source_is}
pub use Rattle.osi_between.proofs.meeting.a_connection_after_each_unit_and_call.{mirror_twice}
pub use Rattle.osi_between.proofs.unit.the_units_of_one_connection.{first_of_all, front_none}
pub use Rattle.osi_between.proofs.unit.units_are_read_as_messages.{led_none, led_twice, messages_front}
pub use Rattle.osi_between.proofs.zero.a_called_end_that_refuses_all.{none_open}
pub use Rattle.osi_between.proofs.zero.class_0_provides_what_is_asked.{at_one}
pub use Rattle.osi_between.proofs.zero.the_one_connection_of_class_0.{one_place}
pub use Rattle.osi_between.specs.Addresses.{reference_of, units_of}
pub use Rattle.osi_between.specs.Between.{Acted, AreBetween, AreJoinedBy, Between, Both, Carries, IsAllThere, IsOnTheWay, IsStill, Same}
pub use Rattle.osi_between.specs.Between.{Took, answers_in, arriving, becomes, broken_at, fresh_between, fresh_both, handed_over, is_cut}
pub use Rattle.osi_between.specs.Between.{last_of, lost_from, put_in, side, still_to_tell, to_come, told_of, under_way, units_from}
pub use Rattle.osi_between.specs.Course.{Course, Holds, IsTsap, accepting, asking, at_end, from_end, met, progress_of, withdrawing}
pub use Rattle.osi_between.specs.Meeting.{Meeting, addressed, here, leaving, left_there, mirror, out, parted, talking}
pub use Rattle.osi_between.specs.Meeting.{waiting_there}
pub use Rattle.osi_between.specs.Messages.{AreLike, MayLackABeginning, begun_at, first_led_by, led_by, message, messages_after}
pub use Rattle.osi_between.specs.Progress.{Progress, awaiting, behind_arrivals, behind_puts, class_behind_all, gone, in_use, leaves_use}
pub use Rattle.osi_between.specs.Progress.{may_arrive, not_yet, progress_in, references_for, shutting}
pub use Rattle.osi_between.specs.Terms.{Terms, accepts_in, by_two, by_zero, class_of, refusing, terms_of}
pub use Rattle.osi_between.specs.Zero.{HasOne, ZeroCourse, given_in}
pub use Rattle.osi_machine.proofs.basics.what_stands_at_a_reference.{cut_count, cut_there, ended_count, ended_there, none_there}
pub use Rattle.osi_machine.proofs.basics.what_stands_at_a_reference.{with_count, with_other, with_same}
pub use Rattle.osi_machine.proofs.channels.a_held_token_keeps_units_out.{none_held}
pub use Rattle.osi_machine.proofs.invariant.each_step_keeps_one_side.{SessionLaws}
pub use Rattle.osi_machine.proofs.tables.a_line_is_a_connection.{SaysItsUnit}
pub use Rattle.osi_machine.proofs.tables.data_behind_is_no_fault.{called_calm, left_is, over_calm}
pub use Rattle.osi_machine.proofs.tables.the_tables_are_the_machine.{At, all_follow, line_there}
pub use Rattle.osi_machine.specs.AsTables.{AreAgreed, AreOffered, AreSendable, AreSoundLines, AtEachSide, HoldNoneTwice, IsOverWhenLeft}
pub use Rattle.osi_machine.specs.AsTables.{IsSeenInBoth, IsSoundLine, IsSoundSeat, IsTableRun, LosesAsItEnds, OfEachLine, TellsNoFault}
pub use Rattle.osi_machine.specs.AsTables.{cut_line, is_leaving, offers_in}
pub use Rattle.osi_machine.specs.Calm.{IsCalm, IsNoFaultBehind, StaysCalm, after_message}
pub use Rattle.osi_machine.specs.Core.{Offer, offer_sent}
pub use Rattle.osi_machine.specs.Floor.{Token, has}
pub use Rattle.osi_machine.specs.Machine.{Ending, HasNumber, IsLegal, Machine, Refusal, Step, breaks, call_answered, calls, closed_here}
pub use Rattle.osi_machine.specs.Machine.{connect_answered, connection_at, connects, delivers, ends, has_ended, is_class_0, is_given}
pub use Rattle.osi_machine.specs.Machine.{is_known, is_waiting, learns, live_count, negotiating, no_memory, not_selected, one_connection}
pub use Rattle.osi_machine.specs.Machine.{references_used_up, replaced, shown_at, told_of_break, too_long, too_many, with_connection}
pub use Rattle.osi_machine.specs.Runs.{is_loss, loses}
pub use Rattle.osi_machine.specs.Sayings.{IsHeardAsSaid, units_in}
pub use Rattle.osi_machine.specs.Tables.{Line, Seat, Tables, Turn, after_end, after_turn, asked_in, asked_with, awaits, call_in, closes_by}
pub use Rattle.osi_machine.specs.Tables.{cut_channels, end_of, ended_lines, message_taken, noted as noted_in, puts, refusal}
pub use Rattle.osi_machine.specs.Tables.{run, seen_from, shortened, shown_in_order, side_of, start, stays, step, transport_of, turned}
pub use Rattle.osi_machine.specs.Tables.{unseen, without_first}
pub use Rattle.osi_machine.specs.Worlds.{Message, Transport, agree, ask, bye, deny, over, put, replied, unit, waiting}
pub use Rattle.osi_pair.specs.Advancing.{CanHappen, StandsAfter}
pub use Rattle.osi_pair.specs.Asked.{CanBeAsked, asked_of}
pub use Rattle.osi_pair.specs.Carrying.{CarriesFrom, CarriesPiece, CarriesPieces, Crossing, IsHeldUp, crossing}
pub use Rattle.osi_pair.specs.Ends.{TwoEnds, after_break, after_call, after_connect, answer_with, called_by_error, connected_by, end_at}
pub use Rattle.osi_pair.specs.Ends.{fresh_ends, noted, reachable, sent_by, with_end}
pub use Rattle.osi_pair.specs.Entries.{Entry, asks, entry_by, shows}
pub use Rattle.osi_pair.specs.Events.{Adds, CarriesAsMuch, CarriesWhereQuiet, Does, HearsOfBreak, IsFullIfCutShort, IsFullWhereQuiet}
pub use Rattle.osi_pair.specs.Events.{IsToldOfBreak, NotesIfCutShort, NotesWhereQuiet, TellsBreak, WantsMemory, error_by_rule, misfit}
pub use Rattle.osi_pair.specs.Memory.{ends_in, pairing_in}
pub use Rattle.osi_pair.specs.Pairings.{Pairing}
pub use Rattle.osi_pair.specs.Promises.{AgreeUnlessDuplex, AllWereAskedFor, AreAtRest, AreTakenInOrder, ConfirmedIsSeen, EndsForFewReasons}
pub use Rattle.osi_pair.specs.Promises.{HasNoFault, HaveOneHolder, IsAllTaken, IsLegalJournal, IsOpenAt, IsSeenThere, IsShownAsAsked}
pub use Rattle.osi_pair.specs.Promises.{LoseAsTheyEnd, OfEachConnection, begun_of, ending_of, is_fault, journal_in, kept_of, taken_by}
pub use Rattle.osi_pair.specs.Reached.{HoldLess, IsReached}
pub use Rattle.osi_pair.specs.Reaching.{reach_after, within}
pub use Rattle.osi_pair.specs.Running.{AreStepsOf, HappenAll, Happens, RunsThrough, StandsBehind}
pub use Rattle.osi_pair.specs.SameEnds.{AreSameEnds, FoundMemory, IsSameEnd}
pub use Rattle.osi_pair.specs.Sides.{other}
pub use Rattle.osi_pair.specs.Standing.{AreAlike, AreArrivals, AreDeliveries, AreUnderWay, Goes, HasJoined, HasLine, IsInOrder, IsLine}
pub use Rattle.osi_pair.specs.Standing.{IsSeated, IsUnderWay, Stands, StandsAt, StandsAtArrivals, StandsAtBreak, StandsAtDeliveries}
pub use Rattle.osi_pair.specs.Standing.{StandsAtEnd, StandsAtTold, answer_in, carriers_of, class_in, ending_in, entry_in, is_caller}
pub use Rattle.osi_pair.specs.Standing.{is_parting, joining, message_in, offer_in, packet_taken, side_in, terms_in, transport_in, word_in}
pub use Rattle.osi_pair.specs.Telling.{ShowsFirst, Tells, end_entries, quieted, shown_entries, told_entries, waiting_in}
pub use Rattle.osi_pair.specs.Words.{AreInOrder, IsBegun, MayFollow, Word, begun_octets, joins, left_of, most_data, part, whole}
pub use Rattle.osi_pair.specs.declared.entries.Entry.TheVariants.{Indication}
pub use Rattle.osi_pair.specs.declared.events.Applied.{Applied}
pub use Rattle.osi_pair.specs.declared.events.Event.{Event}
pub use Rattle.osi_pair.specs.declared.events.Event.TheVariants.{Break, Carry, Connect, Told}
pub use Rattle.osi_pair.specs.declared.faults.PairError.{PairError}
pub use Rattle.osi_pair.specs.declared.faults.PairError.TheVariants.{OutOfMemory}
pub use Rattle.osi_pair.specs.declared.reach.Reach.{Reach}
pub use Rattle.osi_pair.specs.declared.sides.Side.{Side}
pub use Rattle.osi_pair.specs.declared.sides.Side.TheVariants.{Left, Right}
