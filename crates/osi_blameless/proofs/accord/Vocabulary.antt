-- What the proofs of this crate take from the library, from the crates below and from its own definitions.
pub use Rattle.std.proofs.Common.{Bool, List, None, Ok, Option, Some, [], ap, append-nil, arith, cond, drop, false, get_or, if◌then◌else◌}
pub use Rattle.std.proofs.Common.{inl, inr, leb, length, length-append, map, nat_le, not, option_map, refl, subst, suc, set, slice_get, sym}
pub use Rattle.std.proofs.Common.{take, true, unwrap_or, zero, ℕ, ◌&&◌, ◌++◌, ◌+◌, ◌-◌, ◌<◌, ◌==◌, ◌||◌, ◌∙◌, ◌∷◌, ◌≡◌, ◌≤◌, ◌⊎◌, ◌^◌}
pub use Rattle.std.proofs.Math.Seq.{get_or-append_seam, take-append_seam}
pub use Rattle.std.proofs.lemmas.Bool.{and_parts, eqb-true, lt-leb}
pub use Rattle.std.proofs.lemmas.Bool.Decides.{leb_tells}
pub use Rattle.std.proofs.lemmas.Grind.{flat_map-append}
pub use Rattle.std.proofs.lemmas.List.{append_assoc, length-map, length-set, map-append, take-append-drop, take-append-le}
pub use Rattle.std.proofs.lemmas.List.Elements.{filter-append}
pub use Rattle.std.specs.List.{AllByRecursion, filter, find, flat_map}
pub use Rattle.osi_spdu.specs.Sizes.{are_sizes}
pub use Rattle.osi_spdu.specs.declared.fields.TsduMaximumSize.{TsduMaximumSize}
pub use Rattle.osi_spdu.specs.declared.settings.TokenSetting.{TokenSetting}
pub use Rattle.osi_spdu.specs.declared.settings.Wish.{Wish}
pub use Rattle.osi_message.specs.Meanings.{AA, AB, AC, CN, DN, DT, FN, GT, MAA, MAP, MIA, MIP, Meaning, NF, PT, RA, RF, RS}
pub use Rattle.osi_message.specs.Reading.{Said, said_at}
pub use Rattle.osi_message.specs.Sendable.{IsSendable, said_of, words_of}
pub use Rattle.osi_message.specs.Tokens.{no_token}
pub use Rattle.osi_message.specs.Words.{Word, Words, says}
pub use Rattle.osi_message.specs.Written.{is_second, written}
pub use Rattle.osi_session.proofs.moves.what_closes_the_connection.{unit_silent}
pub use Rattle.osi_session.proofs.tables.the_verdict_on_a_unit.{enacts}
pub use Rattle.osi_session.proofs.tables.what_an_accepted_call_has_passed.{first_error_ok, over_calls}
pub use Rattle.osi_session.proofs.tsdu.what_is_sent_is_taken_as_meant.{said_again}
pub use Rattle.osi_session.specs.Allowed.{Answer, after, allowed, base_for, may_call, most_of, needs, octets_of, opened_with, sends}
pub use Rattle.osi_session.specs.Calls.{Abort, Accept, Call, Data, Give, HasSerial, Major, Minor, MinorConfirm, Please, Release}
pub use Rattle.osi_session.specs.Calls.{ReleaseAccept, ReleaseRefuse, RestartConfirm, refusal_octets, refusal_with}
pub use Rattle.osi_session.specs.Joining.{drops_parts, respond_came, respond_tsdu}
pub use Rattle.osi_session.specs.Moves.{Standing, in_state}
pub use Rattle.osi_session.specs.Phases.{is_answering, is_wait_transport}
pub use Rattle.osi_session.specs.Respond.{Outcome, Verdict, enacted, has_no_effect, respond, respond_unit, verdict}
pub use Rattle.osi_session.specs.Sessions.{awaiting}
pub use Rattle.osi_session.specs.Sides.{allows, answers_wishes, of_answerer, setting_of, settle, settled, stated, stated_side}
pub use Rattle.osi_session.specs.Sizes.{answered, fits_limit, smaller}
pub use Rattle.osi_session.specs.Standing.{CanSay, Count, Seen, Takes, accepting_in, after_count, answers_word, begins, calling, counted}
pub use Rattle.osi_session.specs.Standing.{finishing, fits_user_data, goes, is_in_size, left_by, listens, said_message, said_within}
pub use Rattle.osi_session.specs.Standing.{seen_called, seen_calling, where_is}
pub use Rattle.osi_session.specs.State.{without_tokens}
pub use Rattle.osi_session.specs.Units.{functional_units, has_data, is_profile}
pub use Rattle.osi_session.specs.declared.phases.Phase.TheVariants.{Ended}
pub use Rattle.osi_session.specs.declared.selected.FunctionalUnits.{FunctionalUnits}
pub use Rattle.osi_session.specs.declared.sides.Sides.{Sides}
pub use Rattle.osi_session.specs.declared.state.State.{State}
pub use Rattle.osi_machine.specs.Core.{CanBeOffered, Core, Offer, call_at, called, core_start, core_step, offer_sent, offering}
pub use Rattle.osi_machine.specs.Core.{stays_in_core, take_at, taking, turned}
pub use Rattle.osi_machine.specs.Machine.{Ending, Entry, HasNumber, Step, calls, closed_here, connects, delivers, is_given}
pub use Rattle.osi_machine.specs.Sayings.{one_or_none, said_in, units_in}
pub use Rattle.osi_machine.specs.Tables.{Line, Seat, Tables, refusal, run, step}
pub use Rattle.osi_machine.specs.Worlds.{Message, Transport, accepts, class_0, gone, linked, replied, unit}
pub use Rattle.osi_side.proofs.honest.a_caller_is_explained.{front_told}
pub use Rattle.osi_side.specs.Captures.{Capture, Passed, other}
pub use Rattle.osi_side.specs.Explaining.{Explains, IsExplained, Remark, Told, remark, remarks, remarks_of}
pub use Rattle.osi_side.specs.declared.directions.Direction.{Direction}
pub use Rattle.osi_side.specs.declared.directions.Direction.TheVariants.{Left, Right}
pub use Rattle.osi_side.specs.declared.findings.Finding.TheVariants.{Broke, Kept}
pub use Rattle.osi_tpkt.specs.Stream.{offset_of}
pub use Rattle.osi_tpdu.specs.Value.{Value}
pub use Rattle.osi_judge.proofs.a_claim_on_connections_holds_of_captures.{IsClaim, after_kept}
pub use Rattle.osi_judge.proofs.a_piece_comes_to_what_its_octets_do.{after_more}
pub use Rattle.osi_judge.proofs.what_is_kept_of_a_side_is_what_passed.{found_at}
pub use Rattle.osi_judge.specs.Connections.{Joined, Sessions, adds_all, adds_if, all_begin, asked, changed, count, has_number, meant}
pub use Rattle.osi_judge.specs.Connections.{none, numbered, packet_begins, placed, source_of, spoken, taken, taken_at}
pub use Rattle.osi_judge.specs.Holding.{HoldsJoined, line_in}
pub use Rattle.osi_judge.specs.Lines.{Spoken, before, begun_octets, heard, silent, told, told_of}
pub use Rattle.osi_judge.specs.States.{begin_within}
pub use Rattle.osi_judge.specs.declared.connections.Connection.{Connection}
pub use Rattle.osi_judge.specs.declared.rooms.Room.{Room}
pub use Rattle.osi_blameless.specs.accord.Accords.{Accords, AreInOrder, Sending, Turn, end_of, octets_told, own, sending, sending_of}
pub use Rattle.osi_blameless.specs.accord.Accords.{told_by}
pub use Rattle.osi_blameless.specs.accord.Accords.{tsdus_by, turn, words_in}
pub use Rattle.osi_blameless.specs.accord.Liberties.{IsCall, as_called, has_size_of, has_sizes_of, is_called}
pub use Rattle.osi_blameless.specs.accord.Machines.{AreWritten, IsByCall, IsCoreCall, IsMessage, Plays, TakesNoLiberty, Utterance}
pub use Rattle.osi_blameless.specs.accord.Machines.{connect_of}
pub use Rattle.osi_blameless.specs.accord.Machines.{is_connect, sent_at, side_at, utters}
pub use Rattle.osi_blameless.specs.accord.Pairs.{Pair, Party, channel_of, has_taken, pair_of, party_of, session_of, with_channel}
pub use Rattle.osi_blameless.specs.accord.Pairs.{with_session}
pub use Rattle.osi_blameless.specs.accord.Judges.{AreTold, BeginWith, IsAccord, IsFoundOn, IsToldOn, connection_in}
pub use Rattle.osi_blameless.specs.accord.Wholes.{CallsAndAnswers, IsAnyCall, IsByAnyCall, PlaysWhole, end_if, its_own, start_0, uttered_at}
pub use Rattle.osi_blameless.specs.accord.Wholes.{uttered_by, uttered_in}
