-- What the proofs of this crate take from the library, from the crates below and from its own definitions.
pub use Rattle.std.proofs.Common.{Bool, Err, IfErr, IfSome, IsSome, List, None, Ok, OnErr, OnOk, Option, Result, Some, [], ap, append_assoc}
pub use Rattle.std.proofs.Common.{arith, cond, drop, false, get_or, if◌then◌else◌, inl, inr, is_some, length, length-append, length-drop}
pub use Rattle.std.proofs.Common.{map, nat_le, nat_lt, not, option_map, refl, rules, set, subst, suc, sym, take, true, unwrap_or, zero, ℕ}
pub use Rattle.std.proofs.Common.{◌*◌, ◌++◌, ◌+◌, ◌-◌, ◌<◌, ◌==◌, ◌^◌, ◌||◌, ◌∙◌, ◌∷◌, ◌≡◌, ◌≢◌, ◌≤◌, ◌⊎◌}
pub use Rattle.std.proofs.Math.Bool.{and-true, or-false}
pub use Rattle.std.proofs.Math.Seq.{drop-append_seam}
pub use Rattle.std.proofs.lemmas.Bool.{eq-eqb, eqb-true, lt-ltb, ne_eqb, not-false, or_left, or_right}
pub use Rattle.std.proofs.lemmas.Bool.Decides.{nat_tests}
pub use Rattle.std.proofs.lemmas.Fn.{filter_same}
pub use Rattle.std.proofs.lemmas.Grind.{common_steps}
pub use Rattle.std.proofs.lemmas.List.{append-nil, length-set, length-take-le, map-append, take-append-drop, take-take, take_all, take_at}
pub use Rattle.std.proofs.lemmas.List.Concat.{flat_map-append}
pub use Rattle.std.proofs.lemmas.List.Elements.{filter-append}
pub use Rattle.std.proofs.lemmas.List.Quantifiers.{position-Some}
pub use Rattle.std.proofs.lemmas.List.Sums.{count_by-le-length, position_or_len_is, sum_by-cons, sum_by-set}
pub use Rattle.std.specs.List.{AllByRecursion, filter, flat_map, list_any, position, position_or_len, sum_by}
pub use Rattle.osi_tpkt.proofs.a_prefix_of_a_packet.{empty_partial}
pub use Rattle.osi_tpkt.proofs.a_stream_is_cut_in_one_way.{fault_no_packet}
pub use Rattle.osi_tpkt.specs.Held.{Held, fresh}
pub use Rattle.osi_tpkt.specs.Packet.{IsFaultOf, IsPartial}
pub use Rattle.osi_tpkt.specs.Stream.{ArePackets, offset_of}
pub use Rattle.osi_tpkt.specs.declared.cutting.Fed.{Fed}
pub use Rattle.osi_tpkt.specs.declared.faults.TpktFault.{TpktFault}
pub use Rattle.osi_tpdu.specs.Limits.{tsap_octets}
pub use Rattle.osi_tpdu.specs.Packet.{units_of}
pub use Rattle.osi_tpdu.specs.Value.{Value, confirm, disconnect, error, request}
pub use Rattle.osi_tpdu.specs.declared.faults.TpduFault.{TpduFault}
pub use Rattle.osi_class.specs.Link.{Standing}
pub use Rattle.osi_class.specs.Negotiation.{Selection, accept, refuse}
pub use Rattle.osi_class.specs.declared.faults.LinkFault.{LinkFault}
pub use Rattle.osi_class.specs.declared.terms.Class.{Class}
pub use Rattle.osi_class.specs.declared.terms.Class.TheVariants.{Two, Zero}
pub use Rattle.osi_class.specs.declared.terms.Local.{Local}
pub use Rattle.osi_carrier.proofs.effects.a_unit_touches_one_connection.{closed_gone, effect, free_of, orderly_asks, orderly_closed}
pub use Rattle.osi_carrier.proofs.effects.a_unit_touches_one_connection.{orderly_end, orderly_ended, orderly_fresh, orderly_packet}
pub use Rattle.osi_carrier.proofs.effects.a_unit_touches_one_connection.{orderly_same, orderly_sent, orderly_unit, orderly_units, sent_gone}
pub use Rattle.osi_carrier.proofs.effects.a_unit_touches_one_connection.{stays_gone}
pub use Rattle.osi_carrier.proofs.effects.units_one_after_the_other.{none_of, react_over}
pub use Rattle.osi_carrier.proofs.effects.what_is_in_front_changes_nothing.{apart_all}
pub use Rattle.osi_carrier.proofs.references.events_tell_what_is_open.{asks_opens, closed_opens, packet_opens, sent_opens}
pub use Rattle.osi_carrier.proofs.references.rows_after_a_change.{push_other, put_none, put_other, put_rise, put_up, rise_lower}
pub use Rattle.osi_carrier.proofs.references.rows_after_a_change.{without_other}
pub use Rattle.osi_carrier.proofs.references.rows_in_order.{set_rise}
pub use Rattle.osi_carrier.proofs.references.the_row_at_a_place.{here_is, placed, put_same}
pub use Rattle.osi_carrier.proofs.references.what_a_change_leaves_there.{absent, beyond, push_here, put_here, without_here}
pub use Rattle.osi_carrier.proofs.references.what_is_open.{no_link}
pub use Rattle.osi_carrier.proofs.references.which_connections_have_selectors.{known_is}
pub use Rattle.osi_carrier.proofs.stream.a_carrier_does_what_its_packets_do.{OneCut, packets_over}
pub use Rattle.osi_carrier.proofs.stream.a_piece_is_read_packet_by_packet.{acts_cases, packets_leave, packets_more}
pub use Rattle.osi_carrier.proofs.stream.packets_at_the_front_of_octets.{PacketLaws, at_same, fault_behind, front_used, packets_within}
pub use Rattle.osi_carrier.proofs.stream.what_takes_packets_ends_alike.{Reads as ReadsOctets, Runner, Taker as PacketTaker}
pub use Rattle.osi_carrier.proofs.stream.what_takes_packets_ends_alike.{calls_read as reads_along, reads_still}
pub use Rattle.osi_carrier.proofs.stream.what_was_written_is_read.{Fronts, alone_starved, fault_free, packet_reacts, reads_part}
pub use Rattle.osi_carrier.proofs.stream.what_was_written_is_read.{starved_unit, unit_read, units_front}
pub use Rattle.osi_carrier.proofs.written.a_tsdu_part_after_part.{empty_list}
pub use Rattle.osi_carrier.proofs.written.what_needs_memory_does_something.{written_grows}
pub use Rattle.osi_carrier.specs.Calls.{asks, close_error, closed_on, closed_with, closes, lengths_error, may_connect, open_link}
pub use Rattle.osi_carrier.specs.Calls.{send_all_error, send_error, sent, sent_all, sent_on}
pub use Rattle.osi_carrier.specs.Coming.{AreComing}
pub use Rattle.osi_carrier.specs.Growth.{grows}
pub use Rattle.osi_carrier.specs.Happenings.{Happening, closed, faulted, happening, opened as told_opened, refused as told_refused}
pub use Rattle.osi_carrier.specs.Lending.{carrying_lent, lent_event}
pub use Rattle.osi_carrier.specs.Named.{AreNamed}
pub use Rattle.osi_carrier.specs.Orderly.{AreUpTo, IsOrderly, RiseFrom, told_of}
pub use Rattle.osi_carrier.specs.Packets.{ActsBy, Carrying, HasToHold, is_spoilt}
pub use Rattle.osi_carrier.specs.Pieces.{FitsTsdu, headed}
pub use Rattle.osi_carrier.specs.Place.{never, was_given}
pub use Rattle.osi_carrier.specs.React.{answers_request, leaves, reacts, taking, to_asked, to_closing, to_connection, to_only}
pub use Rattle.osi_carrier.specs.Rows.{Rows, place_of, put, value_at, without}
pub use Rattle.osi_carrier.specs.Runs.Act.{packet, user}
pub use Rattle.osi_carrier.specs.Runs.UserCall.{connects as connects_call, sends}
pub use Rattle.osi_carrier.specs.State.{Connection, State, asked, ends as carrier_ends, closing, linked}
pub use Rattle.osi_carrier.specs.Told.{is_open, open_after}
pub use Rattle.osi_carrier.specs.declared.ends.CarrierFault.TheVariants.{Tpkt}
pub use Rattle.osi_carrier.specs.declared.ends.EndReason.{EndReason}
pub use Rattle.osi_carrier.specs.declared.ends.EndReason.TheVariants.{Broken, Fault, NoMemory}
pub use Rattle.osi_carrier.specs.declared.faults.OpenError.{OpenError}
pub use Rattle.osi_carrier.specs.declared.faults.SendError.{SendError}
pub use Rattle.osi_carrier.specs.declared.faults.SendError.TheVariants.{TooLong}
pub use Rattle.osi_carrier.specs.declared.lending.Lent.{Lent}
pub use Rattle.osi_spdu.specs.Fields.{unit_bits}
pub use Rattle.osi_spdu.specs.Groups.{behind_of, first_of}
pub use Rattle.osi_spdu.specs.Known.{Contents, Units}
pub use Rattle.osi_spdu.specs.Reading.{tsdu_at}
pub use Rattle.osi_spdu.specs.Writing.{TsduFits, UnitFits}
pub use Rattle.osi_spdu.specs.declared.faults.SpduFault.{SpduFault}
pub use Rattle.osi_spdu.specs.declared.kinds.Kind.{Kind}
pub use Rattle.osi_message.proofs.the_tsdus_of_a_message.{sent_alone, sent_short}
pub use Rattle.osi_message.proofs.units_of_the_fast_path.{data_written}
pub use Rattle.osi_message.proofs.what_can_be_sent_has_a_written_form.{HaveRoom, spelled_fits}
pub use Rattle.osi_message.proofs.what_is_written_means_it.{HaveDigits}
pub use Rattle.osi_message.specs.Meanings.{DT, Meaning}
pub use Rattle.osi_message.specs.Parting.{behind_no_token, in_one, tsdus_of, tsdus_sent, words_sent}
pub use Rattle.osi_message.specs.Reading.{place_by, said_by_units, said_if_read}
unfoldable pub use Rattle.osi_message.specs.Reading.{meaning, said_at, word}
pub use Rattle.osi_message.specs.Sendable.{IsSendable, words_of}
pub use Rattle.osi_message.specs.Words.{Word, Words, as_message, part_octets, word_octets}
pub use Rattle.osi_message.specs.Written.{written}
unfoldable pub use Rattle.osi_message.specs.Written.{is_second, spelled, unit_of}
pub use Rattle.osi_message.specs.declared.places.Place.{Place}
pub use Rattle.osi_message.specs.declared.places.Place.TheVariants.{Last}
pub use Rattle.osi_session.proofs.runs.the_invariant_in_memory.{request_small}
pub use Rattle.osi_session.proofs.runs.what_every_run_preserves.{word_ended}
pub use Rattle.osi_session.proofs.tables.what_is_true_of_each_phase.{excluded, implied}
pub use Rattle.osi_session.proofs.tsdu.parts_with_calls_between.{data_sendable}
pub use Rattle.osi_session.specs.Allowed.{Answer, Passed, Step, most_data, most_of, octets_of}
unfoldable pub use Rattle.osi_session.specs.Allowed.{allowed}
pub use Rattle.osi_session.specs.Calls.{Call, Data, HasSerial, Minor, MinorConfirm, called_by}
pub use Rattle.osi_session.specs.Causes.{asks_for_connection, is_taken}
pub use Rattle.osi_session.specs.Joining.{Taker, joined_octets}
pub use Rattle.osi_session.specs.Kept.{IsKept}
pub use Rattle.osi_session.specs.Lent.{tsdus_lent}
pub use Rattle.osi_session.specs.Listening.{Input, Listener, Move, after_input, after_inputs, answered, broken, called, came, came_as}
pub use Rattle.osi_session.specs.Listening.{is_opened, opened, refused, taken}
unfoldable pub use Rattle.osi_session.specs.Listening.{react}
pub use Rattle.osi_session.specs.Parts.{Act, AreSilent, HasProfile, IsSilent, act_in_octets, calls, calls_in, comes}
pub use Rattle.osi_session.specs.Phases.{is_ended, is_over, is_wait_cn, is_wait_transport, may_abort, may_hold, shows_loss}
pub use Rattle.osi_session.specs.Points.{only_shows}
pub use Rattle.osi_session.specs.Runs.{HasNumbersInWords, IsFresh}
pub use Rattle.osi_session.specs.Sessions.{Takes, asking, awaiting, awaits}
pub use Rattle.osi_session.specs.Shown.{Lost, Shown, shown_by}
pub use Rattle.osi_session.specs.Sizes.{limit_of}
pub use Rattle.osi_session.specs.Sound.{IsSound as IsSoundState}
pub use Rattle.osi_session.specs.Steps.{shown_list}
pub use Rattle.osi_session.specs.Units.{is_profile}
pub use Rattle.osi_session.specs.declared.faults.CallError.{CallError}
pub use Rattle.osi_session.specs.declared.faults.CallError.TheVariants.{OutOfMemory}
pub use Rattle.osi_session.specs.declared.indications.Indication.{Indication}
pub use Rattle.osi_session.specs.declared.opening.Opening.{Opening}
pub use Rattle.osi_session.specs.declared.phases.Phase.{Phase}
pub use Rattle.osi_session.specs.declared.phases.Phase.TheVariants.{Ended}
pub use Rattle.osi_session.specs.declared.state.State.{State as SessionState}
pub use Rattle.osi_session.specs.declared.taken.Taken.{Taken}
pub use Rattle.osi_stack.specs.Addresses.{addresses_at, asked_addresses}
pub use Rattle.osi_stack.specs.Attending.{FeedsToEvent, Interrupted, LeftOff}
pub use Rattle.osi_stack.specs.Calls.{Refuses, TellsOf, after_open, breaks, by_rule, call_error, calls_with, carried, connect_error}
pub use Rattle.osi_stack.specs.Calls.{connects, first_by, first_shown, has_given, move_refusal, opening_of, phase_at, rest_by, send_refusal}
pub use Rattle.osi_stack.specs.Calls.{session_error, session_refusal, table_error, terms_error, without_first}
pub use Rattle.osi_stack.specs.Coming.{IsUnheard, TakesSome, TakesUnits, after_unit, carries_out}
pub use Rattle.osi_stack.specs.Disconnecting.{LeavesOthers, disconnect_error, disconnects, given_up, gives_up, gives_up_by}
pub use Rattle.osi_stack.specs.Events.{event_input}
pub use Rattle.osi_stack.specs.Feeding.{Feeds, FindsNoMemory, FindsNoRoom, Goes, RunsDry, StopsBehind, TakesPackets, stops, uses_all}
pub use Rattle.osi_stack.specs.Folds.{AllCameAbout, CameAbout, IsNamed, IsProfiled, OfLines, OfSession, OfSessions}
pub use Rattle.osi_stack.specs.Hearing.{RunsOut, Starves, all_lost, attends, concludes, ends, hears, hears_all, hears_first, hears_next}
pub use Rattle.osi_stack.specs.Hearing.{hears_times, loses, opens, shown_at_loss, starves, with_carrier, with_events}
unfoldable pub use Rattle.osi_stack.specs.Hearing.{after_packet}
pub use Rattle.osi_stack.specs.Inputs.{AreMadeBy, IsAccepted, Past, Steps, StepsAlong, input_of, inputs_of, inputs_told, made_at, no_past}
pub use Rattle.osi_stack.specs.Inputs.{past_called, serving, then_came, told_along, using}
pub use Rattle.osi_stack.specs.Links.{AreApart, HasAsked, HasLinks, IsSound, Soundness, needs_link}
pub use Rattle.osi_stack.specs.Messages.{Acts, AreLost, AreShort, Arrives, Becomes, CanHear, Effect, Hears, IsFirstOf, IsGranted, IsShort}
pub use Rattle.osi_stack.specs.Messages.{IsWhole, Message, Says, agree, all_waiting, ask, begins, bye, deny, does, effect_at, happens}
pub use Rattle.osi_stack.specs.Messages.{kept_at, message_of, part, put_by, puts, rests, shown_of, told_all, told_at, unit, waiting_at}
pub use Rattle.osi_stack.specs.Messages.{waiting_of}
pub use Rattle.osi_stack.specs.Moving.{answers, by_line, carrier_by, limit_for, line_by, to_session}
pub use Rattle.osi_stack.specs.Needs.{needs_memory, session_needs}
pub use Rattle.osi_stack.specs.Ordered.{IsOrdered, TellsLowest}
pub use Rattle.osi_stack.specs.Parted.{to_session_along}
pub use Rattle.osi_stack.specs.Rounds.{AreInStep, IsCalled, MayAsk, MayCall, Round, RoundsAlong, RoundsAsking, RoundsBy, UserCall}
pub use Rattle.osi_stack.specs.Rounds.{WaitForLive, calls_of, user_does}
pub use Rattle.osi_stack.specs.Rounds.UserCall.{breaking, calling, connecting, disconnecting}
pub use Rattle.osi_stack.specs.Runs.{Account, AreAlike, AreAlikeByReference, AreAlikeInLive, Calls, CallsAlong, CallsInRoom}
pub use Rattle.osi_stack.specs.Runs.{Call as EndCall, HasRoom, LookAlike, Reads, account_along, account_of, carried_in, hushed, live_lines}
pub use Rattle.osi_stack.specs.Runs.{pruned, put_back, quieted, told_in, used_in, with_packet, with_packets}
pub use Rattle.osi_stack.specs.Runs.Call.{carrying, feeding, telling}
pub use Rattle.osi_stack.specs.Selectors.{Selectors, selectors_of, selectors_told, session_selectors, shows_connect}
pub use Rattle.osi_stack.specs.Settled.{IsGone, IsSettled}
pub use Rattle.osi_stack.specs.State.{End, Holding, IsAttended, Line, fresh_end, fresh_line, holding, how_many_wait, is_used, joined_in}
pub use Rattle.osi_stack.specs.State.{joined_live, joins, line_waits, session_at, session_in, used_lines, waits}
pub use Rattle.osi_stack.specs.Transport.{answers_by, hands, sent_unless}
pub use Rattle.osi_stack.specs.declared.connecting.Connect.{Connect}
pub use Rattle.osi_stack.specs.declared.connecting.ConnectError.{ConnectError}
pub use Rattle.osi_stack.specs.declared.events.SessionEvent.{SessionEvent}
pub use Rattle.osi_stack.specs.declared.lines.Lines.TheInside.{Inside}
