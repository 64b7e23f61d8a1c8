-- What the proofs of this crate take from the library, from the crates below and from its own definitions.
pub use Rattle.std.proofs.Common.{Bool, Err, IfOk, IfSome, IsOk, IsSome, List, MatchBool, None, Ok, OnErr, OnOk, Option, Result, Some}
pub use Rattle.std.proofs.Common.{SomeIff, [], ap, append_assoc, arith, drop, eqb, false, get_or, if◌then◌else◌, inl, inr, is_some, length}
pub use Rattle.std.proofs.Common.{length-append, length-drop, length-take, map, min, nat_le, nat_lt, not, option_to_list, refl, replicate}
pub use Rattle.std.proofs.Common.{rules, set, subst, suc, sym, take, true, zero, ℕ, ◌%◌, ◌*◌, ◌++◌, ◌+◌, ◌-◌, ◌<◌, ◌==◌, ◌^◌, ◌||◌, ◌∙◌}
pub use Rattle.std.proofs.Common.{◌∷◌, ◌≡◌, ◌≤◌, ◌⊎◌}
pub use Rattle.std.proofs.Math.Nat.{suc-mul}
pub use Rattle.std.proofs.Math.Seq.{drop-append-add, drop-append_seam, take-append-add}
pub use Rattle.std.proofs.lemmas.Bool.{cases_lt, eq-eqb, eqb-false, eqb-true, le-leb, le-ltb, leb-false, leb-true, lt-leb, lt-ltb}
pub use Rattle.std.proofs.lemmas.Bool.{ltb-false, ltb-true, or_left, or_right}
pub use Rattle.std.proofs.lemmas.Bool.Decides.{nat_tests}
pub use Rattle.std.proofs.lemmas.Cmp.{ranked}
pub use Rattle.std.proofs.lemmas.Grind.{common_steps}
pub use Rattle.std.proofs.lemmas.List.{append-nil, append_cancel_left, drop-drop, drop_all, drop_more, get_or_append_left, length-replicate}
pub use Rattle.std.proofs.lemmas.List.{length-set, length-take-le, map-append, take-append-drop, take_all, take_at}
pub use Rattle.std.proofs.lemmas.List.Concat.{flat_map-append}
pub use Rattle.std.proofs.lemmas.List.Quantifiers.{position-Some}
pub use Rattle.std.proofs.lemmas.List.Sorted.{IsNonDecreasingBy-from_default, answers_always}
pub use Rattle.std.proofs.lemmas.List.Sums.{position_or_len_is, sum_by-cons}
pub use Rattle.std.proofs.lemmas.Nat.{mul-le}
pub use Rattle.std.specs.Cow.{cow_slice_items}
pub use Rattle.std.specs.List.{AllByRecursion, flat_map, list_any, position_or_len, remove}
pub use Rattle.std.specs.List.Sorted.{IsBinarySearchResult, IsNonDecreasingBy, IsSearchInRange}
pub use Rattle.std.specs.Ordering.{nat_cmp, ordering_index}
pub use Rattle.std.specs.Result.{result_ok}
pub use Rattle.osi_tpkt.proofs.a_prefix_of_a_packet.{empty_partial, one_fault}
pub use Rattle.osi_tpkt.proofs.a_stream_is_cut_in_one_way.{fault_no_packet, partial_no_fault, partial_no_packet}
pub use Rattle.osi_tpkt.proofs.no_packet_is_a_prefix_of_another.{one_packet, stated_length-append, written_packet}
pub use Rattle.osi_tpkt.proofs.the_packets_are_those_of_the_stream.{packets_joined}
pub use Rattle.osi_tpkt.specs.Cutter.{Belongs, Passes, TakesPiece}
pub use Rattle.osi_tpkt.specs.Held.{Held, IsHolding}
pub use Rattle.osi_tpkt.specs.Packet.{IsFaultOf, IsOnePacket, IsPacket, IsPartial, packet_of}
pub use Rattle.osi_tpkt.specs.Stream.{ArePackets, offset_of}
pub use Rattle.osi_tpkt.specs.declared.cutting.Fed.{Fed}
pub use Rattle.osi_tpkt.specs.declared.faults.TpktFault.{TpktFault}
pub use Rattle.osi_tpkt.specs.declared.faults.TpktFault.TheVariants.{BadLength, BadVersion, OutOfMemory}
pub use Rattle.osi_tpdu.proofs.the_units_of_a_packet.{units_only}
pub use Rattle.osi_tpdu.proofs.the_written_form_spells_its_value.{written_spells}
pub use Rattle.osi_tpdu.specs.Packet.{units_of}
pub use Rattle.osi_tpdu.specs.Units.{units_left}
pub use Rattle.osi_tpdu.specs.Value.{Connect, Value, confirm, data0, data2, disconnect, disconnected, error, request, user_data}
pub use Rattle.osi_tpdu.specs.View.{value}
pub use Rattle.osi_tpdu.specs.Writing.{Fits, written}
pub use Rattle.osi_tpdu.specs.declared.faults.TpduFault.{TpduFault}
pub use Rattle.osi_tpdu.specs.declared.unit.Tpdu.TheVariants.{Cc, Cr}
pub use Rattle.osi_class.proofs.between.parts_stay_in_order.{choose_ok}
pub use Rattle.osi_class.proofs.bounds.what_a_queue_hands_out.{handing}
pub use Rattle.osi_class.proofs.giving.a_link_gives_finitely_many_units.{drained_ends, drained_leaves, drained_none, drained_some}
pub use Rattle.osi_class.proofs.giving.a_part_that_is_given_at_once.{goes_at_once, some_rest}
pub use Rattle.osi_class.proofs.giving.all_that_may_go_is_given.{goes_whole, more_units}
pub use Rattle.osi_class.proofs.giving.the_units_of_one_tsdu.{no_tsdus, one_part, parts_cut, parts_some, room_of_class_0, room_of_class_2}
pub use Rattle.osi_class.proofs.giving.the_units_of_one_tsdu.{two_flow}
pub use Rattle.osi_class.proofs.giving.tsdus_that_are_added_together.{many_at_once}
pub use Rattle.osi_class.proofs.giving.units_have_at_most_so_many_octets.{all_take}
pub use Rattle.osi_class.proofs.giving.when_nothing_is_given.{class_0, class_2}
pub use Rattle.osi_class.specs.AnyLink.{any_standing}
pub use Rattle.osi_class.specs.Ends.{Ends}
pub use Rattle.osi_class.specs.Flow.{Flow}
pub use Rattle.osi_class.specs.Giving.{AllGoAtOnce, Drained, GivesPart, GoesAtOnce, MayGoAll, all_given, drained, first_in}
pub use Rattle.osi_class.specs.Giving.{given_one_by_one, header_octets, left_to_give, most_given, number_in, octets_in, octets_in_parts}
pub use Rattle.osi_class.specs.Giving.{octets_of, one_by_one, parts_needed, units_needed, with_rest}
pub use Rattle.osi_class.specs.Handing.{tsdu_handed, user_of}
pub use Rattle.osi_class.specs.Joining.{Joining, with_part}
pub use Rattle.osi_class.specs.Link.{Given, Gives, Hands, Standing, ack, given, given_part, needs_memory, next, part0, part2}
pub use Rattle.osi_class.specs.Link.{part_needs_memory, part_under, sent_flow, taken, two_standing, unit_of, with_handed, with_tsdu}
pub use Rattle.osi_class.specs.Link.{with_tsdus}
pub use Rattle.osi_class.specs.Negotiation.{Selection, accept, refuse, selected_by}
pub use Rattle.osi_class.specs.Taking.{TakesUnit}
pub use Rattle.osi_class.specs.Tsdus.{Part, octets_of_tsdus}
pub use Rattle.osi_class.specs.declared.either.AnyLink.{AnyLink}
pub use Rattle.osi_class.specs.declared.faults.LinkFault.{LinkFault}
pub use Rattle.osi_class.specs.declared.terms.Class.{Class}
pub use Rattle.osi_class.specs.declared.terms.Class.TheVariants.{Two, Zero}
pub use Rattle.osi_class.specs.declared.terms.Local.{Local}
pub use Rattle.osi_class.specs.declared.units.Room.{Room}
pub use Rattle.osi_class.specs.declared.units.Slot.{Slot}
pub use Rattle.osi_carrier.specs.Calls.{AllWaitOn, Tells, WaitTogether, WaitsAlone, WaitsOn, asks, backlog_of, begun_by, closed_on}
pub use Rattle.osi_carrier.specs.Calls.{closed_with, closes, ended_by, fresh_state, kept_in, length_error, lengths_error, link_of}
pub use Rattle.osi_carrier.specs.Calls.{may_connect, open_link, pumps_all, send_error, sent, sent_all, sent_on, tsaps_at}
pub use Rattle.osi_carrier.specs.Coming.{AreComing, IsSendable}
pub use Rattle.osi_carrier.specs.Fetching.{EndsOver, Faults, Fetches, IsNoFront, LacksRoom, PacketActs, PacketLent, PartHeld}
unfoldable pub use Rattle.osi_carrier.specs.Growth.{grows}
pub use Rattle.osi_carrier.specs.Happenings.{Happening, closed, faulted, happening, opened, tsdu}
pub use Rattle.osi_carrier.specs.Lending.{Lends, carrying_lent, lent_event, lent_if, with_lent}
pub use Rattle.osi_carrier.specs.Live.{IsPumped, connection}
pub use Rattle.osi_carrier.specs.Named.{AreNamed, KeepsTsaps}
pub use Rattle.osi_carrier.specs.Negotiation.{confirmed, proposal}
pub use Rattle.osi_carrier.specs.Opened.{link_in, peer_in}
pub use Rattle.osi_carrier.specs.Orderly.{AreUpTo, ChangesOne, IsOrderly, RiseFrom, connection_by, connection_of, only_of, told_of}
pub use Rattle.osi_carrier.specs.Packets.{Acts, Carrying, Feeds, FindsNoMemory, Goes, HasToHold, IsReading, Starves, StopsBehind}
pub use Rattle.osi_carrier.specs.Packets.{TakesPackets, acts_by, after_refusal, is_spoilt, stops, waits}
unfoldable pub use Rattle.osi_carrier.specs.Packets.{after_packet}
pub use Rattle.osi_carrier.specs.Pieces.{FitTsdus, FitsTsdu, SomeGo, headed, left_after, left_by, tsdus_from, tsdus_in}
pub use Rattle.osi_carrier.specs.Pump.{LeavesRest, left_of, pumped, written_by, written_for}
pub use Rattle.osi_carrier.specs.React.{accepts, answers, answers_request, before_class, breaks, denies, handed_out, has_peer, in_class}
pub use Rattle.osi_carrier.specs.React.{in_two, is_full, leaves, opens, pumps, react_by, reacts, taking, to_asked, to_closing}
pub use Rattle.osi_carrier.specs.React.{to_connection, to_linked, to_only, to_reference, to_unknown}
unfoldable pub use Rattle.osi_carrier.specs.React.{react}
pub use Rattle.osi_carrier.specs.Rising.{RiseBy, place_by}
pub use Rattle.osi_carrier.specs.Rows.{Rows, place_of, put, value_at, without}
pub use Rattle.osi_carrier.specs.Runs.{Act, AreAlike, Call, Calls, CallsAlong, EndAlike, Reads, UserCall, all_done, call_in, called_in}
pub use Rattle.osi_carrier.specs.Runs.{carried_in, does, packet_in, put_back, told_in, used_in, user_does}
pub use Rattle.osi_carrier.specs.Runs.Act.{packet, user}
pub use Rattle.osi_carrier.specs.Runs.Call.{calling, carrying, feeding, telling}
pub use Rattle.osi_carrier.specs.Runs.UserCall.{connects, sends, sends_all}
pub use Rattle.osi_carrier.specs.State.{Connection, State, TsapIds, asked, closing, drops, ends, fails, joins, linked, moves, packets}
pub use Rattle.osi_carrier.specs.State.{tells, writes}
pub use Rattle.osi_carrier.specs.Steps.{StepsTo, link_after, units_after, whole_after}
unfoldable pub use Rattle.osi_carrier.specs.Steps.{link_grows}
pub use Rattle.osi_carrier.specs.contracts.switch.Switch.{the_view}
pub use Rattle.osi_carrier.specs.declared.carrier.feeding.Fetched.{Fetched}
pub use Rattle.osi_carrier.specs.declared.ends.CarrierFault.TheVariants.{Tpkt}
pub use Rattle.osi_carrier.specs.declared.ends.EndReason.{EndReason}
pub use Rattle.osi_carrier.specs.declared.ends.EndReason.TheVariants.{NoMemory}
pub use Rattle.osi_carrier.specs.declared.events.Event.{Event}
pub use Rattle.osi_carrier.specs.declared.events.Event.TheVariants.{Faulted}
pub use Rattle.osi_carrier.specs.declared.faults.SendError.{SendError}
pub use Rattle.osi_carrier.specs.declared.faults.SendError.TheVariants.{TooLong}
pub use Rattle.osi_carrier.specs.declared.lending.FedLent.{FedLent}
pub use Rattle.osi_carrier.specs.declared.lending.Lent.{Lent}
pub use Rattle.osi_carrier.specs.declared.links.Step.{Step}
pub use Rattle.osi_carrier.specs.declared.pieces.Pieces.{Pieces}
pub use Rattle.osi_carrier.specs.declared.rows.Phase.{Phase}
pub use Rattle.osi_carrier.specs.declared.rows.Phase.TheVariants.{Linked}
