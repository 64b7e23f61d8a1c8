-- What the proofs of this crate take from the library, from the crates below and from its own definitions.
pub use Rattle.std.proofs.Common.{Bool, Err, IfOk, IfSome, IsErr, List, MatchBool, None, Ok, OnOk, Option, Result, Some, [], ap, ap₂, arith}
pub use Rattle.std.proofs.Common.{codes, cond, drop, false, filter, if◌then◌else◌, inl, inr, is_some, length, map, option_map}
pub use Rattle.std.proofs.Common.{option_to_list, refl, slice_index, subst, sym, take, true, vec_capacity, ℕ, ◌%◌, ◌*◌, ◌++◌, ◌+◌, ◌-◌, ◌/◌}
pub use Rattle.std.proofs.Common.{◌<◌, ◌==◌, ◌^◌, ◌∙◌, ◌∷◌, ◌≡◌, ◌≢◌, ◌≤◌, ◌⊎◌}
pub use Rattle.std.proofs.lemmas.Bool.{false≢true, ltb-false}
pub use Rattle.std.proofs.lemmas.Bool.Decides.{eqb_tells}
pub use Rattle.std.proofs.lemmas.Fmt.{decimal_digit, decimal_step}
pub use Rattle.std.proofs.lemmas.List.{append-nil, append_assoc, drop_all, drop_more, length-append, nil_from_length, take-append-drop}
pub use Rattle.std.proofs.lemmas.List.{take_all}
pub use Rattle.std.proofs.lemmas.List.Concat.{flat_map-append}
pub use Rattle.std.proofs.lemmas.List.Folds.{list_any-append}
pub use Rattle.std.proofs.lemmas.List.Sums.{sum_by-cons}
pub use Rattle.std.proofs.lemmas.Result.{on_ok_weaker}
pub use Rattle.std.specs.Fmt.{decimal}
pub use Rattle.std.specs.List.{before_first, count_by, flat_map, join_with_byte, list_any}
pub use Rattle.osi_tpkt.proofs.a_prefix_of_a_packet.{empty_partial}
pub use Rattle.osi_tpkt.specs.Cutter.{Gains, TakesPiece}
pub use Rattle.osi_tpkt.specs.Held.{Held, fresh}
pub use Rattle.osi_tpkt.specs.Packet.{IsFaultOf, IsOnePacket, IsPacket, IsPartial}
pub use Rattle.osi_tpkt.specs.Stream.{ArePackets, Cuts, Ending, EndsAt, offset_of}
pub use Rattle.osi_tpkt.specs.Stream.Ending.{Faulty, Rest}
pub use Rattle.osi_tpkt.specs.declared.faults.TpktFault.{TpktFault}
pub use Rattle.osi_tpkt.specs.declared.faults.TpktFault.TheVariants.{BadLength, BadVersion, OutOfMemory}
pub use Rattle.osi_tpdu.specs.Packet.{units_of}
pub use Rattle.osi_tpdu.specs.Units.{units_left}
pub use Rattle.osi_tpdu.specs.Value.{Value, data0}
pub use Rattle.osi_tpdu.specs.View.{value}
pub use Rattle.osi_tpdu.specs.declared.faults.TpduFault.{TpduFault}
pub use Rattle.osi_spdu.specs.Groups.{behind_of, first_of, units_behind}
pub use Rattle.osi_spdu.specs.Known.{Contents, Units}
pub use Rattle.osi_spdu.specs.Units.{said_by}
pub use Rattle.osi_spdu.specs.declared.codes.Code.{Code}
pub use Rattle.osi_spdu.specs.declared.faults.SpduFault.{SpduFault}
pub use Rattle.osi_spdu.specs.declared.faults.SpduFault.TheVariants.{LengthPastEnd}
pub use Rattle.osi_listing.specs.Capture.{after_octets, digits_left, digits_of, if_digit, is_blank, is_comment_sign, octets_from}
pub use Rattle.osi_listing.specs.Capture.{with_digit}
pub use Rattle.osi_listing.specs.Counting.{capped, counted, counts_of, none, one_more}
pub use Rattle.osi_listing.specs.Fed.{Feeds, FeedsAll, Goes, IsFed, IsGoing, IsReady, IsWithoutPacket, Leaves, Listed, Moves, OnlyHolds}
pub use Rattle.osi_listing.specs.Fed.{StandsAt}
pub use Rattle.osi_listing.specs.Joins.{join_at, join_value}
pub use Rattle.osi_listing.specs.Lines.{bit, fault_line, packet_length, rest_line, tsdu_line}
pub use Rattle.osi_listing.specs.Listing.{Entry, IsListing, all_parts, ending_entry, is_refused, line_of, packet_entries, part_entries}
pub use Rattle.osi_listing.specs.Listing.{read_entries, read_parts, session_entries, unit_entries}
pub use Rattle.osi_listing.specs.Listing.Entry.{Left, Packet, PacketFault, SessionUnit, TransportUnit, Tsdu, UnitFault}
pub use Rattle.osi_listing.specs.Says.{AreJoins, Holds, Says}
pub use Rattle.osi_listing.specs.SessionLines.{fields_left, member_fields, members_text, parameter_field, session_line}
pub use Rattle.osi_listing.specs.SoFar.{IsListedSoFar, entries_so_far}
pub use Rattle.osi_listing.specs.Streams.{Join, Part, after_parts, is_same_stream, joined, part_of, parts_of}
pub use Rattle.osi_listing.specs.Streams.Join.{Begun}
pub use Rattle.osi_listing.specs.Traced.{CountsAlike, CountsOn, FindsNoRoom, HasListed, IsListedInPart, KeepsLittle, KeepsOn, LacksRoom}
pub use Rattle.osi_listing.specs.Traced.{Stands, counted_by, keeps_nothing, kept_of, octets_fed, unfetched, unfinished}
pub use Rattle.osi_listing.specs.declared.counting.Counts.{Counts}
pub use Rattle.osi_listing.specs.declared.pieces.Lister.{Lister}
pub use Rattle.osi_listing.specs.declared.pieces.Stage.{Stage}
pub use Rattle.osi_listing.specs.declared.pieces.Stage.TheVariants.{Going}
pub use Rattle.osi_listing.specs.declared.streams.Streams.{Streams}
pub use Rattle.osi_listing.specs.declared.traces.Keeping.{Keeping}
pub use Rattle.osi_listing.specs.declared.traces.Keeping.TheVariants.{Counters, Lines, Nothing}
pub use Rattle.osi_listing.specs.declared.work.Work.{Work}
pub use Rattle.hex.proofs.HexLemmas.{decode_of-even, decode_pairs-ok}
pub use Rattle.hex.specs.Hex.{decode_of, digit_or_error, encode_lower, hex_digit_value, ◌>>=◌}
pub use Rattle.hex.specs.declared.error.FromHexError.{FromHexError}
pub use Rattle.hex.specs.declared.error.FromHexError.TheVariants.{OddLength}
