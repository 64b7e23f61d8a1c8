-- What the proofs of this crate take from the library, from the crates below and from its own definitions.
pub use Rattle.std.proofs.Common.{Bool, Err, List, MatchBool, None, Ok, OnErr, Option, Result, Some, [], ap, arith, drop, false}
pub use Rattle.std.proofs.Common.{if◌then◌else◌, inl, inr, is_none, is_some, length, map, nat_le, nat_lt, not, option_copied, option_map}
pub use Rattle.std.proofs.Common.{refl, subst, suc, sym, true, unwrap_or, zero, ℕ, ◌&&◌, ◌++◌, ◌+◌, ◌-◌, ◌<◌, ◌==◌, ◌||◌, ◌∙◌, ◌∷◌, ◌≡◌}
pub use Rattle.std.proofs.Common.{◌≢◌, ◌≤◌, ◌⊎◌}
pub use Rattle.std.proofs.lemmas.Bool.{and_from, and_parts, cases_Bool, cases_order, eq-eqb, eqb-true, le-leb, le-ltb, leb-true, lt-leb}
pub use Rattle.std.proofs.lemmas.Bool.{lt-ltb, ltb-false, ltb-true, ne_eqb, or_cases, or_left, or_parts, or_right}
pub use Rattle.std.proofs.lemmas.List.{append-nil, append_assoc, length-append}
pub use Rattle.std.proofs.lemmas.List.Folds.{list_any-append}
pub use Rattle.std.proofs.lemmas.Nat.{and_assoc, and_le_r}
pub use Rattle.std.specs.Int.RustNames.{bit_and}
pub use Rattle.std.specs.List.{AllByRecursion, list_any}
pub use Rattle.osi_spdu.proofs.basics.the_steps_of_reading.{bind_ok, ok_is}
pub use Rattle.osi_spdu.proofs.tsdu.units_and_tsdus_are_read.{behind_stands}
pub use Rattle.osi_spdu.specs.Fields.{token_octets, unit_bits}
pub use Rattle.osi_spdu.specs.Groups.{GivesBehind, units_behind, units_of}
pub use Rattle.osi_spdu.specs.Kinds.{si_of}
unfoldable pub use Rattle.osi_spdu.specs.Kinds.{category_of}
pub use Rattle.osi_spdu.specs.Known.{Contents, Known, Units}
pub use Rattle.osi_spdu.specs.Reading.{Gives}
unfoldable pub use Rattle.osi_spdu.specs.Reading.{tsdu_at}
pub use Rattle.osi_spdu.specs.Sizes.{are_sizes, named_by}
pub use Rattle.osi_spdu.specs.Spelling.{AreBehind}
pub use Rattle.osi_spdu.specs.Values.{is_size}
pub use Rattle.osi_spdu.specs.declared.behind.Behind.{Behind}
pub use Rattle.osi_spdu.specs.declared.codes.Code.TheVariants.{TokenItem}
pub use Rattle.osi_spdu.specs.declared.faults.SpduFault.{SpduFault}
pub use Rattle.osi_spdu.specs.declared.fields.ResyncType.{ResyncType}
pub use Rattle.osi_spdu.specs.declared.fields.TsduMaximumSize.{TsduMaximumSize}
pub use Rattle.osi_spdu.specs.declared.kinds.Category.TheVariants.{Two, Zero}
pub use Rattle.osi_spdu.specs.declared.kinds.Kind.{Kind}
pub use Rattle.osi_spdu.specs.declared.kinds.Kind.TheVariants.{GiveTokens}
pub use Rattle.osi_spdu.specs.declared.settings.TokenSetting.{TokenSetting}
pub use Rattle.osi_spdu.specs.declared.sizes.TsduSizes.{TsduSizes}
pub use Rattle.osi_spdu.specs.declared.tokens.TokenSet.{TokenSet}
pub use Rattle.osi_spdu.specs.declared.units.Spdu.{Spdu}
pub use Rattle.osi_message.proofs.how_pieces_follow_one_another.{middle_of, some_piece}
pub use Rattle.osi_message.proofs.numbers_are_those_of_points.{meant_numbered, units_numbered}
pub use Rattle.osi_message.proofs.the_tsdus_of_a_message.{more_octets, sent_parted, sent_whole, size_of_parts}
pub use Rattle.osi_message.specs.Meanings.{AA, AB, AC, CN, DT, FN, GT, MAA, MAP, MIA, MIP, Meaning, PT, RF, RS, meant_by}
pub use Rattle.osi_message.specs.Numbered.{AreNumbered, AreNumberedWords, IsNumbered, IsNumberedWord, IsSmall}
pub use Rattle.osi_message.specs.Parting.{AreFull, in_one, is_parted, is_whole, later_parts, pieces, tsdus_of, tsdus_sent}
unfoldable pub use Rattle.osi_message.specs.Parting.{words_sent}
pub use Rattle.osi_message.specs.Plain.{plain_said, plain_word}
pub use Rattle.osi_message.specs.Reading.{Said, alone, behind, meaning_by, said_by_units, said_if_read}
unfoldable pub use Rattle.osi_message.specs.Reading.{meaning, said_at, word}
pub use Rattle.osi_message.specs.Sendable.{IsSendable, said_of, words_of}
pub use Rattle.osi_message.specs.Tokens.{Token, has, no_token, set_of}
unfoldable pub use Rattle.osi_message.specs.Tokens.{is_disjoint, is_empty, is_within, token_octet, united, without}
pub use Rattle.osi_message.specs.Words.{Word, Words, as_message, part, part_head, part_octets, says}
pub use Rattle.osi_message.specs.Written.{spelled, written}
unfoldable pub use Rattle.osi_message.specs.Written.{is_second, user_data_of}
pub use Rattle.osi_message.specs.declared.messages.Message.{Message}
pub use Rattle.osi_message.specs.declared.places.Place.{Place}
pub use Rattle.osi_message.specs.declared.places.Place.TheVariants.{First, Last, Middle}
pub use Rattle.osi_message.specs.declared.plain.PlainUnit.{PlainUnit}
pub use Rattle.osi_message.specs.declared.tokens.Tokens.{Tokens}
pub use Rattle.osi_session.specs.Allowed.{AllHold, Answer, Passed, Step, Test, after, first_error, has_right, is_restartable, last_number}
pub use Rattle.osi_session.specs.Allowed.{may_call, most_data, most_of, most_user_data, needs, octets_of, opened_with, sends, sized}
unfoldable pub use Rattle.osi_session.specs.Allowed.{allowed, met}
pub use Rattle.osi_session.specs.Breaches.{message_breach, word_breach}
pub use Rattle.osi_session.specs.Calls.{Accept, Call, Data, Give, HasSerial, Major, MajorConfirm, Minor, MinorConfirm, Please, Restart}
pub use Rattle.osi_session.specs.Calls.{called_by}
pub use Rattle.osi_session.specs.Causes.{asks_for_connection, call_gives, call_holds, call_opens, call_renews, is_taken, opens_connection}
pub use Rattle.osi_session.specs.Causes.{renews, to_answerer, to_asker, unit_asks, unit_gives, unit_holds, unit_opens, unit_renews}
pub use Rattle.osi_session.specs.Closing.{awaits_close, closes_alone, is_answer, may_close, may_close_word}
pub use Rattle.osi_session.specs.Counting.{Counts, CountsAll, CountsCame, count_by, count_by_idle, count_of, no_octets, taker_with}
pub use Rattle.osi_session.specs.Expecting.{Tries, met_by}
pub use Rattle.osi_session.specs.Joining.{Hearing, Taker, begins_anew, enacted_word, good_word, heard, heard_then, idle, is_in_place}
pub use Rattle.osi_session.specs.Joining.{is_last, is_restart_word, joined_by, joined_octets, kept_in, respond_came, respond_tsdu}
pub use Rattle.osi_session.specs.Joining.{word_conditions, word_verdict}
unfoldable pub use Rattle.osi_session.specs.Joining.{acting_words, respond_word, respond_words}
pub use Rattle.osi_session.specs.Kept.{IsJoined, IsJoinedAs, IsKept, IsKeptIn, IsNoFault, discards}
pub use Rattle.osi_session.specs.Lent.{headed}
pub use Rattle.osi_session.specs.Listening.{Input, Listener, Move, after_input, after_inputs, answered, begun, broken, called, came}
pub use Rattle.osi_session.specs.Listening.{came_as, denied, in_state, is_opened, moved, opened, refused, rests, taken, taker_of, unread}
unfoldable pub use Rattle.osi_session.specs.Listening.{react}
pub use Rattle.osi_session.specs.Numbers.{lower}
unfoldable pub use Rattle.osi_session.specs.Numbers.{major_confirmed, minor_confirmed, point_sent, point_taken, restarted_at}
pub use Rattle.osi_session.specs.Openings.{asked_for}
pub use Rattle.osi_session.specs.Parts.{Act, AreAlike, AreParts, AreSilent, HasProfile, IsOfProfile, act_in_octets, act_in_words, calls}
pub use Rattle.osi_session.specs.Parts.{calls_in, comes, has_profile, part_comes}
pub use Rattle.osi_session.specs.Phases.{every_phase, in_major, is_aborting, is_answering, is_ended, is_major_asked, is_major_due, is_over}
pub use Rattle.osi_session.specs.Phases.{is_ready, is_restart_due, is_restarting, is_wait_cn, is_wait_transport, may_abort, may_ask}
pub use Rattle.osi_session.specs.Phases.{may_confirm_minor, may_hold, shows_loss, takes_data, takes_minor_ack}
pub use Rattle.osi_session.specs.Points.{PlansPoint, advanced, call_for, has_next, may_advance, only_shows}
pub use Rattle.osi_session.specs.Respond.{AllMet, Condition, IsGood, Outcome, Verdict, and_then, bad, becomes, by_fault, conditions}
pub use Rattle.osi_session.specs.Respond.{dropped, drops, enacted, faulty, fine, first_fault, first_reply, good, has_no_effect, in_aborting}
pub use Rattle.osi_session.specs.Respond.{in_ended, is_expected, is_faulty, is_nil, is_resynchronize, is_silent, is_token_item, judged}
pub use Rattle.osi_session.specs.Respond.{kind_of, lost, nothing, over, replies_abort, respond, shows, si, verdict}
unfoldable pub use Rattle.osi_session.specs.Respond.{acting, respond_all, respond_fault, respond_unit, stands, take_expected}
pub use Rattle.osi_session.specs.Restarts.{AreCrossed, HasAsked, after_restart}
unfoldable pub use Rattle.osi_session.specs.Room.{most_whole, most_within}
pub use Rattle.osi_session.specs.Runs.{HasNumbers, HasNumbersInWords, IsFresh}
pub use Rattle.osi_session.specs.Same.{place_of, same_bit}
pub use Rattle.osi_session.specs.Sessions.{CanBeSent, IsPlanOf, Planned, Refused, RefusedBy, Takes, asking, awaiting, is_memory, lone}
pub use Rattle.osi_session.specs.Sessions.{lone_of, takes_memory}
unfoldable pub use Rattle.osi_session.specs.Sessions.{unit_in}
pub use Rattle.osi_session.specs.Shown.{MinorConfirmed, Shown, shown_by, shows_connect}
pub use Rattle.osi_session.specs.Sides.{answers_wishes, is_asker, side_for}
pub use Rattle.osi_session.specs.Sizes.{fits_limit, is_bounded, is_data, limit_of, smaller}
unfoldable pub use Rattle.osi_session.specs.Sizes.{answered_sizes, smaller_sizes}
pub use Rattle.osi_session.specs.Sound.{AreOrdered, IsSound}
pub use Rattle.osi_session.specs.Standing.{CanSay, Count, Seen, accepting_in, answers_word, calling, connecting, counted, fits_user_data}
pub use Rattle.osi_session.specs.Standing.{goes, is_in_size, kept_count, left_by, said_message, said_within, seen_calling, where_is}
pub use Rattle.osi_session.specs.State.{without_tokens}
pub use Rattle.osi_session.specs.Steady.{Hears, HearsAll, is_steady}
pub use Rattle.osi_session.specs.Steps.{Reacts, hearing_of, hearing_of_all, joined_after, outcome_of, outcome_of_all, shown_list, step_of}
pub use Rattle.osi_session.specs.Steps.{takes_room, told_of, word_by}
pub use Rattle.osi_session.specs.Units.{functional_units}
unfoldable pub use Rattle.osi_session.specs.Units.{available, both_units, has_data, is_profile}
pub use Rattle.osi_session.specs.Whole.{in_words, is_apart, joins, listening, standing_of}
pub use Rattle.osi_session.specs.declared.expected.Expected.{Expected}
pub use Rattle.osi_session.specs.declared.faults.CallError.{CallError}
pub use Rattle.osi_session.specs.declared.faults.UnitFault.{UnitFault}
pub use Rattle.osi_session.specs.declared.faults.UnitFault.TheVariants.{BadEnclosure, DataTooLong, TokenHeld, Unexpected}
pub use Rattle.osi_session.specs.declared.grouping.Reactions.{Reactions}
pub use Rattle.osi_session.specs.declared.hearing.Heard.{Heard}
pub use Rattle.osi_session.specs.declared.indications.Indication.{Indication}
pub use Rattle.osi_session.specs.declared.numbers.Numbers.{Numbers}
pub use Rattle.osi_session.specs.declared.opening.Opening.{Opening}
pub use Rattle.osi_session.specs.declared.phases.Phase.{Phase}
pub use Rattle.osi_session.specs.declared.phases.Phase.TheVariants.{Aborting, Connecting, Ended, MajorDue, ReleaseDue, Releasing}
pub use Rattle.osi_session.specs.declared.phases.Phase.TheVariants.{RestartDue, Restarting, WaitCn}
pub use Rattle.osi_session.specs.declared.plans.PlannedPoint.{PlannedPoint}
pub use Rattle.osi_session.specs.declared.plans.SentPoint.{SentPoint}
pub use Rattle.osi_session.specs.declared.reactions.Reaction.{Reaction}
pub use Rattle.osi_session.specs.declared.requests.Request.{Request}
pub use Rattle.osi_session.specs.declared.selected.FunctionalUnits.{FunctionalUnits}
pub use Rattle.osi_session.specs.declared.sides.Sides.{Sides}
pub use Rattle.osi_session.specs.declared.state.State.{State}
pub use Rattle.osi_session.specs.declared.taken.Taken.{Taken}
