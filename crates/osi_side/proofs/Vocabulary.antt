-- What the proofs of this crate take from the library, from the crates below and from its own definitions.
pub use Rattle.std.proofs.Common.{Bool, Err, IfNone, IfOk, IfSome, List, MatchBool, None, Ok, OnOk, Option, Result, Some, [], ap, ap₂}
pub use Rattle.std.proofs.Common.{arith, drop, eqb, false, get_or, if◌then◌else◌, inl, inr, is_none, is_some, length, map, nat_le, nat_lt}
pub use Rattle.std.proofs.Common.{not, option_map, refl, replicate, subst, suc, sym, take, true, unwrap_or, zero, ℕ, ◌&&◌, ◌++◌, ◌+◌, ◌-◌}
pub use Rattle.std.proofs.Common.{◌<◌, ◌==◌, ◌||◌, ◌↔◌, ◌∙◌, ◌∷◌, ◌≡◌, ◌≢◌, ◌≤◌, ◌⊎◌}
pub use Rattle.std.proofs.lemmas.Bool.{and_from, and_parts, cases_Bool, eq-eqb, eqb-true, le-leb, leb-true, lt-ltb, ltb-true}
pub use Rattle.std.proofs.lemmas.Bool.Decides.{nat_tests}
pub use Rattle.std.proofs.lemmas.List.{append-nil, append_assoc, get_or-append_right, get_or-replicate, get_or_append_left, length-append}
pub use Rattle.std.proofs.lemmas.List.{length-replicate, replicate_more, take-append-drop}
pub use Rattle.std.proofs.lemmas.List.Concat.{flat_map-append}
pub use Rattle.std.proofs.lemmas.List.Sums.{fold-append}
pub use Rattle.std.proofs.lemmas.Nat.{and_assoc}
pub use Rattle.std.specs.Borrow.{Bor}
pub use Rattle.std.specs.Int.RustNames.{bit_and}
pub use Rattle.std.specs.List.{AllByRecursion, flat_map, fold, list_any, slice_get}
pub use Rattle.osi_spdu.proofs.basics.digits_of_numbers.{numeral_digits}
pub use Rattle.osi_spdu.proofs.form.few_octets_fit.{few_fit}
pub use Rattle.osi_spdu.proofs.form.the_form_spells_its_unit.{units_written}
pub use Rattle.osi_spdu.proofs.tsdu.units_and_tsdus_are_read.{tsdu_read}
pub use Rattle.osi_spdu.specs.Fields.{wish_of}
pub use Rattle.osi_spdu.specs.Groups.{behind_of, units_behind, units_of}
pub use Rattle.osi_spdu.specs.Known.{Contents, Units}
pub use Rattle.osi_spdu.specs.Made.{abort_params, made, resynchronize_params}
pub use Rattle.osi_spdu.specs.Reading.{Gives, tsdu_at}
pub use Rattle.osi_spdu.specs.Sizes.{are_sizes}
pub use Rattle.osi_spdu.specs.Units.{said_by}
pub use Rattle.osi_spdu.specs.Values.{is_size}
pub use Rattle.osi_spdu.specs.declared.faults.SpduFault.{SpduFault}
pub use Rattle.osi_spdu.specs.declared.fields.ResyncType.{ResyncType}
pub use Rattle.osi_spdu.specs.declared.fields.TsduMaximumSize.{TsduMaximumSize}
pub use Rattle.osi_spdu.specs.declared.kinds.Category.TheVariants.{Two, Zero}
pub use Rattle.osi_spdu.specs.declared.kinds.Kind.{Kind}
pub use Rattle.osi_spdu.specs.declared.kinds.Kind.TheVariants.{Resynchronize}
pub use Rattle.osi_spdu.specs.declared.serials.Serial.{Serial}
pub use Rattle.osi_spdu.specs.declared.settings.Side.{Side}
pub use Rattle.osi_spdu.specs.declared.settings.TokenSetting.{TokenSetting}
pub use Rattle.osi_spdu.specs.declared.settings.Wish.{Wish}
pub use Rattle.osi_spdu.specs.declared.settings.Wish.TheVariants.{Answerer}
pub use Rattle.osi_message.proofs.a_unit_is_made_of_its_meaning.{abort_known, restart_known}
pub use Rattle.osi_message.proofs.numbers_are_those_of_points.{units_numbered}
pub use Rattle.osi_message.proofs.parts_are_written_and_read.{part_said}
pub use Rattle.osi_message.proofs.units_of_the_fast_path.{data_written}
pub use Rattle.osi_message.proofs.what_can_be_sent_has_a_written_form.{spelled_fits, spelled_formed}
pub use Rattle.osi_message.proofs.what_is_written_means_it.{HaveDigits, meaning_again}
pub use Rattle.osi_message.specs.Meanings.{AA, AB, AC, CN, DN, DT, FN, GT, MAA, MAP, MIA, MIP, Meaning, NF, PT, RA, RF, RS}
pub use Rattle.osi_message.specs.Numbered.{AreNumberedWords, IsNumbered}
pub use Rattle.osi_message.specs.Parting.{AreFull, AreLater, AreParts, behind_no_token, in_one, is_parted, is_whole, tsdus_of, tsdus_sent}
pub use Rattle.osi_message.specs.Parting.{words_sent}
pub use Rattle.osi_message.specs.Plain.{data_octets}
pub use Rattle.osi_message.specs.Reading.{behind, meaning, meaning_by, names, said_at, said_by_units, word}
pub use Rattle.osi_message.specs.Sendable.{IsSendable, words_of}
pub use Rattle.osi_message.specs.Tokens.{data_token, each, no_token}
pub use Rattle.osi_message.specs.Words.{Word, Words, as_message, part, part_octets, says, word_octets}
pub use Rattle.osi_message.specs.Written.{is_second, unit_with, written}
pub use Rattle.osi_message.specs.declared.places.Place.{Place}
pub use Rattle.osi_message.specs.declared.places.Place.TheVariants.{First, Last, Middle}
pub use Rattle.osi_message.specs.declared.tokens.Tokens.{Tokens}
pub use Rattle.osi_session.proofs.ahead.beside_one_that_has_not_sent_it.{IsAhead, both_hear, gone_said, gone_stays, is_gone, said_ahead}
pub use Rattle.osi_session.proofs.ahead.beside_one_that_has_not_sent_it.{said_alike}
pub use Rattle.osi_session.proofs.ahead.the_state_after_a_word.{call_leaves, if_seen, if_state, mapped, no_answer}
pub use Rattle.osi_session.proofs.moves.the_move_of_each_input.{call_is, call_sends, came_is, not_opened, of_opened, of_refused}
pub use Rattle.osi_session.proofs.moves.what_closes_the_connection.{input_ends}
pub use Rattle.osi_session.proofs.runs.what_every_run_preserves.{asking_fresh, awaiting_fresh, fresh_sound, input_begun, input_over}
pub use Rattle.osi_session.proofs.runs.what_every_run_preserves.{input_sound, lost_ended}
pub use Rattle.osi_session.proofs.sent.what_a_side_may_send.{over_refuses, so_many, so_many_are}
pub use Rattle.osi_session.proofs.sent.what_an_accepted_call_sends.{limit_sized, sent_alone}
pub use Rattle.osi_session.proofs.sent.what_is_sent_can_be_written.{asked_sendable, sent_sendable}
pub use Rattle.osi_session.proofs.tables.a_word_acts_as_its_message.{any_tsdu_keeps, outcome_in, tsdu_keeps, word_does, word_keeps}
pub use Rattle.osi_session.proofs.tables.messages_act_as_the_table_says.{word_alone, word_at}
pub use Rattle.osi_session.proofs.tables.the_outcomes_of_each_input.{call_cases, fault_cases, taken_cases, unit_cases}
pub use Rattle.osi_session.proofs.tables.units_that_are_alone.{StandsAlone, alone_in_octets, passes, stands_alone}
pub use Rattle.osi_session.proofs.tables.what_an_accepted_call_has_passed.{passed}
pub use Rattle.osi_session.proofs.tables.what_is_true_of_each_phase.{excluded, implied}
pub use Rattle.osi_session.proofs.tsdu.octets_are_counted.{bad_counts, count_then, dropped_counts, fault_counts, good_counts, heard_counted}
pub use Rattle.osi_session.proofs.tsdu.octets_are_counted.{long_counts, message_counts}
pub use Rattle.osi_session.proofs.tsdu.the_answer_to_a_tsdu.{accepted_callable, callable_open}
pub use Rattle.osi_session.proofs.tsdu.the_effect_of_a_word.{word_told}
pub use Rattle.osi_session.proofs.tsdu.what_the_words_of_a_tsdu_preserve.{octets_sound}
pub use Rattle.osi_session.proofs.tsdu.words_one_after_the_other.{acting_behind}
pub use Rattle.osi_session.proofs.values.units_are_those_of_a_profile.{profile_of}
pub use Rattle.osi_session.proofs.values.what_sizes_are_agreed.{answered_are, sizes_agreed, user_sizes}
pub use Rattle.osi_session.specs.Allowed.{AllHold, Answer, Step, Test, after, allowed, base_for, first_error, has_right, may_call}
pub use Rattle.osi_session.specs.Allowed.{most_data, most_of, most_user_data, needs, opened_with, serial_for}
pub use Rattle.osi_session.specs.Calls.{Abort, Accept, Call, Data, Give, HasSerial, Major, MajorConfirm, Minor, MinorConfirm, Please}
pub use Rattle.osi_session.specs.Calls.{Refusal, Refuse, ReleaseAccept, ReleaseRefuse, Restart, RestartConfirm, refusal_octets}
pub use Rattle.osi_session.specs.Calls.{refusal_with}
pub use Rattle.osi_session.specs.Causes.{unit_asks}
pub use Rattle.osi_session.specs.Counting.{Counts, CountsCame, count_by, no_octets, taker_with}
pub use Rattle.osi_session.specs.Joining.{Hearing, Taker, begins_anew, enacted_word, heard_then, idle, is_in_place, is_last}
pub use Rattle.osi_session.specs.Joining.{is_restart_word, joined_octets, respond_came, respond_word, word_verdict}
pub use Rattle.osi_session.specs.Listening.{Input, Listener, after_input, called, came, came_as, opened, react, taker_of}
pub use Rattle.osi_session.specs.Numbers.{lower}
pub use Rattle.osi_session.specs.Openings.{asked_for}
pub use Rattle.osi_session.specs.Phases.{is_answering, is_ended, is_major_asked, is_over, is_ready, is_release_due, is_restarting}
pub use Rattle.osi_session.specs.Phases.{is_settled, is_wait_cn, is_wait_transport, may_ask, may_give, takes_minor_ack}
pub use Rattle.osi_session.specs.Respond.{Outcome, Verdict, agreed_base, bad, by_fault, conditions, dropped, drops, enacted, fine}
pub use Rattle.osi_session.specs.Respond.{first_fault, first_reply, has_no_effect, in_aborting, in_ended, is_faulty, is_restart, nothing}
pub use Rattle.osi_session.specs.Respond.{over, replies_abort, respond_fault, respond_unit, shown_for, si}
pub use Rattle.osi_session.specs.Same.{same_bit}
pub use Rattle.osi_session.specs.Sessions.{awaits, opens, refusal_of}
pub use Rattle.osi_session.specs.Sides.{allows, answers_wishes, of_answerer, offered, setting_of, settled, stated, stated_side}
pub use Rattle.osi_session.specs.Sizes.{answered_sizes, is_data, limit_of}
pub use Rattle.osi_session.specs.Sound.{IsSound}
pub use Rattle.osi_session.specs.Standing.{CanSay, Count, SaysAs, Seen, Takes, accepting_in, after_count, answers_word, calling, counted}
pub use Rattle.osi_session.specs.Standing.{fits_user_data, goes, is_in_size, left_by, listens, may_send, said, said_message, said_within}
pub use Rattle.osi_session.specs.Standing.{seen_called, seen_calling, stands_in_place, where_is}
pub use Rattle.osi_session.specs.State.{without_tokens}
pub use Rattle.osi_session.specs.Steady.{Hears, is_steady}
pub use Rattle.osi_session.specs.Steps.{reply_of, told_of}
pub use Rattle.osi_session.specs.Taking.{count_taken}
pub use Rattle.osi_session.specs.Units.{both_units, functional_units}
pub use Rattle.osi_session.specs.declared.faults.CallError.{CallError}
pub use Rattle.osi_session.specs.declared.faults.UnitFault.{UnitFault}
pub use Rattle.osi_session.specs.declared.faults.UnitFault.TheVariants.{BadEnclosure, BadNumber, DataTooLong, NotSelected, Unexpected}
pub use Rattle.osi_session.specs.declared.numbers.Numbers.{Numbers}
pub use Rattle.osi_session.specs.declared.opening.Opening.{Opening}
pub use Rattle.osi_session.specs.declared.phases.Phase.{Phase}
pub use Rattle.osi_session.specs.declared.phases.Phase.TheVariants.{Aborting, Answering, Connecting, Ended, MajorAsked, MajorDue, Ready}
pub use Rattle.osi_session.specs.declared.phases.Phase.TheVariants.{ReleaseDue, Releasing, RestartDue, Restarting, WaitCn, WaitTransport}
pub use Rattle.osi_session.specs.declared.reactions.Reply.{Reply}
pub use Rattle.osi_session.specs.declared.selected.FunctionalUnits.{FunctionalUnits}
pub use Rattle.osi_session.specs.declared.sides.Sides.{Sides}
pub use Rattle.osi_session.specs.declared.standing.Taking.{Taking}
pub use Rattle.osi_session.specs.declared.state.State.{State}
pub use Rattle.osi_side.specs.Between.{confirmed_to, seen_to}
pub use Rattle.osi_side.specs.Breaking.{BreaksAs, BreaksAt, BreaksIn, BreaksWith, Leads, LeavesBehind, here, in_effect, last, later}
pub use Rattle.osi_side.specs.Breaking.{selection_of}
pub use Rattle.osi_side.specs.Captures.{Capture, other, piece, stream}
pub use Rattle.osi_side.specs.Explaining.{Explains, IsExplained, Remark, Told, answers, done, read_as, remark, remarks, remarks_of, takes}
pub use Rattle.osi_side.specs.Findings.{broke_session, is_judged, place_of}
pub use Rattle.osi_side.specs.Foremost.{FollowsNone, IsForemost, PrecedesAll, before_of, foremost, is_before}
pub use Rattle.osi_side.specs.Judging.{AreAll, AreKept, BrokeBy, BrokeFor, CrowdedFor, HasRoom, IsAstray, IsCrowd, IsFew, IsFound, IsKept}
pub use Rattle.osi_side.specs.Judging.{Keeps, LeftBy, LeftFor, StandsBefore, Observed, Observes, ObservesBy, is_empty}
pub use Rattle.osi_side.specs.Keeping.{is_same, once, once_behind, room_in}
pub use Rattle.osi_side.specs.Kept.{Halt, StepsAs, Way, added, after_read, after_tsdu, after_word, after_words, an_abort, anew, answer_by}
pub use Rattle.osi_side.specs.Kept.{answering, askers, askers_from, asks, both_of, first_sender, follows, if_answer, is_among, is_between}
pub use Rattle.osi_side.specs.Kept.{is_covered, is_still, joined, kept, latest, listed, member, places_of, quiet_after, quietly, remain}
pub use Rattle.osi_side.specs.Kept.{restart_at, restarters, same_count, same_member, same_seen, senders, senders_from, sends, stepped}
pub use Rattle.osi_side.specs.Kept.{waited, way_of, way_to}
pub use Rattle.osi_side.specs.Members.{Extends, IsBehind, SomeExplains}
pub use Rattle.osi_side.specs.Nearest.{Unsaid, a_unit, becomes, break_of, count_at, far, goes_to, is_nearer, next_of, quiet_by, reached}
pub use Rattle.osi_side.specs.Nearest.{rule_for, tried, tried_by, unread, unsaid}
pub use Rattle.osi_side.specs.Onward.{Comes, GoesOn, IsAmong, IsAtEnd, IsNearest, OwesTo, Quietly, StandsBehind, StandsFor, StopsBy}
pub use Rattle.osi_side.specs.Onward.{standing_of, stays}
pub use Rattle.osi_side.specs.Outlines.{AreAlike, bare, no_data, outline, outline_as, outline_behind, outline_by, outlines}
pub use Rattle.osi_side.specs.Profiles.{accepted_in, in_first, is_outside, leaves, offered_in, selects_outside}
pub use Rattle.osi_side.specs.Running.{IsHonest, IsSentFrom, Pass, Runs}
pub use Rattle.osi_side.specs.Runs.{AreApart, AreFrom, HasPlace, IsOther, begin_at, begin_in, last_from, last_in, room_of, spread}
pub use Rattle.osi_side.specs.Sides.{EndsAt, begin_of, ended_at, observed}
pub use Rattle.osi_side.specs.Waiting.{AreAsked, AskerIsAsked, Known, MayBeAsked, Restarted, StillOpen, Waits, aborted, is_abort_word}
pub use Rattle.osi_side.specs.Walking.{Answers, Ever, HearsTo, MayFollow, MovesTo, OneExplains, Open, SaidHere, SaysIt, SaysTo, StepsTo}
pub use Rattle.osi_side.specs.Walking.{Turns, Walked, WalkerCovers, remarked, the_remark}
pub use Rattle.osi_side.specs.declared.directions.Direction.{Direction}
pub use Rattle.osi_side.specs.declared.directions.Direction.TheVariants.{Left, Right}
pub use Rattle.osi_side.specs.declared.findings.Finding.{Finding}
pub use Rattle.osi_side.specs.declared.findings.Finding.TheVariants.{Broke, Kept, TooMany}
pub use Rattle.osi_side.specs.declared.heard.Run.{Run}
pub use Rattle.osi_side.specs.declared.members.Member.{Member}
pub use Rattle.osi_side.specs.declared.restarts.Asked.{Asked}
pub use Rattle.osi_side.specs.declared.restarts.Asker.{Asker}
pub use Rattle.osi_side.specs.declared.rules.Behind.{Behind}
pub use Rattle.osi_side.specs.declared.rules.Break.{Break}
pub use Rattle.osi_side.specs.declared.rules.Near.{Near}
pub use Rattle.osi_side.specs.declared.rules.Rule.{Rule}
pub use Rattle.osi_side.specs.declared.standings.Stands.{Stands}
pub use Rattle.osi_side.specs.declared.standings.Turn.{Turn}
pub use Rattle.osi_side.specs.declared.standings.Turn.TheVariants.{Goes, Stops}
pub use Rattle.osi_side.specs.declared.walks.Walker.{Walker}
pub use lib.Pointwise.{pointwise}
