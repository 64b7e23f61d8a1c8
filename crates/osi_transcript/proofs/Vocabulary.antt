-- What the proofs of this crate take from the library, from the crates below and from its own definitions.
pub use Rattle.std.proofs.Common.{Bool, List, None, Option, Some, [], add-one, ap, ap₂, arith, drop, false, if◌then◌else◌, inl, inr, length}
pub use Rattle.std.proofs.Common.{map, nat_le, nat_lt, not, option_map, refl, subst, suc, sym, take, true, zero, ℕ, ◌&&◌, ◌++◌, ◌+◌, ◌-◌}
pub use Rattle.std.proofs.Common.{◌<◌, ◌^◌, ◌||◌, ◌∙◌, ◌∷◌, ◌≡◌, ◌≢◌, ◌≤◌}
pub use Rattle.std.proofs.lemmas.Bool.Decides.{nat_tests}
pub use Rattle.std.proofs.lemmas.List.{append-nil, append_assoc, drop-map, length-append, length-map}
pub use Rattle.std.proofs.lemmas.List.Splits.{length-slice_split}
pub use Rattle.std.proofs.lemmas.List.Sums.{count_by-le-length}
pub use Rattle.std.specs.Coded.{le_prop}
pub use Rattle.std.specs.Option.{option_map_or}
pub use Rattle.osi_tpdu.specs.Limits.{size_code, window_units}
pub use Rattle.osi_tpdu.specs.declared.limits.SizeCode.{SizeCode}
pub use Rattle.osi_tpdu.specs.declared.limits.Window.{Window}
pub use Rattle.osi_class.specs.declared.terms.Local.{Local}
pub use Rattle.osi_carrier.specs.Calls.{asks, may_connect}
pub use Rattle.osi_carrier.specs.declared.ends.EndReason.TheVariants.{NoMemory}
pub use Rattle.osi_carrier.specs.declared.events.Ref.{Ref}
pub use Rattle.osi_spdu.specs.Fields.{bits_of}
pub use Rattle.osi_message.specs.Meanings.{CN}
pub use Rattle.osi_message.specs.Tokens.{no_token}
pub use Rattle.osi_session.specs.Allowed.{base_for, most_user_data, serial_for}
pub use Rattle.osi_session.specs.Calls.{called_by}
pub use Rattle.osi_session.specs.Listening.{Listener}
pub use Rattle.osi_session.specs.Numbers.{from_base}
pub use Rattle.osi_session.specs.Sides.{offered}
pub use Rattle.osi_session.specs.Units.{functional_units, is_profile}
pub use Rattle.osi_session.specs.declared.phases.Phase.{Phase}
pub use Rattle.osi_session.specs.declared.phases.Phase.TheVariants.{WaitTransport}
pub use Rattle.osi_session.specs.declared.requests.Request.{Request}
pub use Rattle.osi_stack.specs.Calls.{after_open, is_long_address, phase_at, phase_of}
pub use Rattle.osi_stack.specs.State.{End, Holding, joins, session_at}
pub use Rattle.osi_stack.specs.declared.connecting.ConnectError.{ConnectError}
pub use Rattle.osi_stack.specs.declared.connecting.ConnectError.TheVariants.{NotSelected, TooLong}
pub use Rattle.osi_pair.proofs.event.each_end_holds_less_than_a_packet.{fresh_less}
pub use Rattle.osi_pair.specs.Asked.{Asked, asked_of}
pub use Rattle.osi_pair.specs.Ends.{TwoEnds, answer_with, connected_by, fresh_ends, noted}
pub use Rattle.osi_pair.specs.Entries.{Entry, entry_by}
pub use Rattle.osi_pair.specs.Events.{Adds, CarriesAsMuch, Does, misfit}
pub use Rattle.osi_pair.specs.Reached.{IsReached}
pub use Rattle.osi_pair.specs.SameEnds.{AreSameEnds, FoundMemory}
pub use Rattle.osi_pair.specs.Standing.{StandsAt}
pub use Rattle.osi_pair.specs.declared.events.Applied.{Applied}
pub use Rattle.osi_pair.specs.declared.events.Event.{Event}
pub use Rattle.osi_pair.specs.declared.sides.Side.{Side}
pub use Rattle.osi_script.specs.Commands.{Break, Carry, Command, Connect, Ends, OfUser, Told, command_by, command_of}
pub use Rattle.osi_script.specs.Cutting.{lines_of}
pub use Rattle.osi_script.specs.Scripts.{is_skipped}
pub use Rattle.osi_script.specs.Standing.{standing_line}
pub use Rattle.osi_script.specs.declared.commands.Classes.{Classes}
pub use Rattle.osi_script.specs.declared.standing.Standing.{Standing}
pub use Rattle.osi_transcript.specs.Asking.{IsEvent, side_in}
pub use Rattle.osi_transcript.specs.Entries.{entry_texts}
pub use Rattle.osi_transcript.specs.Numbered.{lines_left, numbered}
pub use Rattle.osi_transcript.specs.Playing.{Applies, BeginsWith, FailsAt, IsApplied, IsLocal, Lines, Plays, PlaysLine, RefusesLine, Rest}
pub use Rattle.osi_transcript.specs.Playing.{Starts, Transcribes, carried_by, event_text, new_texts}
pub use Rattle.osi_transcript.specs.Standings.{all_standings, phase_text, standing_texts, text_by}
pub use Rattle.osi_transcript.specs.Starting.{IsStart, StartsWith}
pub use Rattle.osi_transcript.specs.Steps.{DoesEvent, FailsEvent, GoesBehind, PlaysAll, PlaysEvent, StopsAtLine}
pub use Rattle.osi_transcript.specs.Walks.{IsSmall, lines_in}
