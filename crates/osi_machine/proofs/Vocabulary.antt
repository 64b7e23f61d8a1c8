-- What the proofs of this crate take from the library, from the crates below and from its own definitions.
pub use Rattle.std.proofs.Common.{Bool, Err, List, None, Ok, Option, Some, [], ap, append_assoc, arith, drop, false, if◌then◌else◌, inl}
pub use Rattle.std.proofs.Common.{inr, is_some, length, map, nat_le, nat_lt, not, option_map, refl, subst, suc, sym, take, true, unwrap_or}
pub use Rattle.std.proofs.Common.{zero, ℕ, ◌&&◌, ◌++◌, ◌+◌, ◌-◌, ◌<◌, ◌==◌, ◌||◌, ◌∙◌, ◌∷◌, ◌≡◌, ◌≤◌, ◌⊎◌}
pub use Rattle.std.proofs.Math.Bool.{or_comm}
pub use Rattle.std.proofs.Math.Seq.{take-append-add, take-append_seam, take-nil}
pub use Rattle.std.proofs.lemmas.Bool.{and_from, and_parts, and_right, both_ways, cases_Bool, cases_lt, eq-eqb, eqb-true}
pub use Rattle.std.proofs.lemmas.Bool.{false_from_ne_true, le-leb, leb-true, lt-ltb, ltb-false, ltb-true, not-false, not-true, or_left}
pub use Rattle.std.proofs.lemmas.Bool.{or_parts, or_right}
pub use Rattle.std.proofs.lemmas.Iterator.Adapters.{option_map_id}
pub use Rattle.std.proofs.lemmas.List.{append-nil, length-append, map-append, take-append-drop, take-append-le, take-map}
pub use Rattle.std.proofs.lemmas.List.Folds.{list_any-append}
pub use Rattle.std.proofs.lemmas.Nat.{and_assoc, and_le_r}
pub use Rattle.std.proofs.lemmas.Option.{slice_get-map}
pub use Rattle.std.specs.List.{AllByRecursion, list_any, slice_get}
pub use Rattle.osi_spdu.specs.Fields.{wish_of}
pub use Rattle.osi_spdu.specs.declared.settings.Wish.{Wish}
pub use Rattle.osi_message.specs.Reading.{Said}
pub use Rattle.osi_message.specs.Sendable.{is_sized, said_of}
pub use Rattle.osi_session.specs.Allowed.{AllHold, Passed}
pub use Rattle.osi_session.specs.Moves.{Input, Move, Standing, after_input, broken, called, opened, refused, taken, unread}
unfoldable pub use Rattle.osi_session.specs.Moves.{react}
pub use Rattle.osi_session.specs.Phases.{may_abort}
pub use Rattle.osi_session.specs.Respond.{acting, is_faulty, reply_for, verdict}
unfoldable pub use Rattle.osi_session.specs.Respond.{respond_all}
pub use Rattle.osi_session.specs.Sessions.{CanBeSent}
pub use Rattle.osi_session.specs.Shown.{Lost, RefusedByTransport, Shown}
pub use Rattle.osi_session.specs.Sides.{allows, settled, wish_for}
pub use Rattle.osi_machine.specs.AsTables.{AreLines, AreOffered, AreSendable, AreSoundLines, AtEachSide, IsAsTables, IsNoFaultNext}
pub use Rattle.osi_machine.specs.AsTables.{IsOverWhenLeft, IsSoundLine, IsTableRun, LosesAsItEnds, OfEachLine, TellsNoFault, cut_line}
pub use Rattle.osi_machine.specs.AsTables.{is_leaving, offers_in}
pub use Rattle.osi_machine.specs.Calm.{IsCalm, IsNoFaultBehind, StaysCalm, after_calls, after_message}
pub use Rattle.osi_machine.specs.Channels.{AllFit, Fits, data_in, data_of, flush, heard, heard_view, hears, is_plain, needs_token, stops}
pub use Rattle.osi_machine.specs.Channels.{view_next}
pub use Rattle.osi_machine.specs.Core.{CanBeOffered, Core, CoreStep, Left, Offer, Party, Right, Side, answered, at_side, call_at, core_run}
pub use Rattle.osi_machine.specs.Core.{core_start, core_step, offer_sent, offering, owners_called, party_called, party_taking, says, speaks}
pub use Rattle.osi_machine.specs.Core.{stays_in_core, take_at, takes, taking, view_called}
pub use Rattle.osi_machine.specs.Floor.{AB, AC, Aborting, Accept, AllMet, Answer, Answering, CN, Call, CallError, Condition, Connecting, DN}
pub use Rattle.osi_machine.specs.Floor.{DT, Data, Ended, FN, FunctionalUnits, GT, Give, Good, Granted, HasNumbers, HasSerial, IsNumbered}
pub use Rattle.osi_machine.specs.Floor.{IsSendable, IsSound, MAA, MAP, MIA, MIP, Major, MajorAsked, MajorConfirm, MajorDue, Meaning, Minor}
pub use Rattle.osi_machine.specs.Floor.{MinorConfirm, NF, Numbers, Outcome, PT, Phase, Please, RA, RF, RS, Ready, Release, ReleaseDue}
pub use Rattle.osi_machine.specs.Floor.{ReleaseRefuse, Releasing, Restart, RestartConfirm, RestartDue, Restarting, ResyncType, Sides, State}
pub use Rattle.osi_machine.specs.Floor.{Token, TokenSetting, Tokens, TsduMaximumSize, WaitTransport, after, after_inputs, alone, are_sizes}
pub use Rattle.osi_machine.specs.Floor.{awaiting, base_for, becomes, call_input, data_token, drops, each, first_fault, from_base}
pub use Rattle.osi_machine.specs.Floor.{functional_units, good, has, has_no_effect, has_right, is_acceptable, is_answering, is_asker}
pub use Rattle.osi_machine.specs.Floor.{is_connecting, is_expected, is_major_asked, is_major_due, is_over, is_ready, is_release_due}
pub use Rattle.osi_machine.specs.Floor.{is_releasing, is_restart_due, is_restartable, is_restarting, is_wait_cn, is_wait_transport, lacks}
pub use Rattle.osi_machine.specs.Floor.{lost, lower, major, may_ask, may_call, may_confirm_minor, may_give, may_hold, may_restart, minor}
pub use Rattle.osi_machine.specs.Floor.{needs, next, no_token, nothing, opened_with, passes_restarting, release, respond, sends, serial_for}
pub use Rattle.osi_machine.specs.Floor.{set_of, setting_of, shown_for, shows_loss, side_for, taken_input, takes_data, takes_minor_ack}
pub use Rattle.osi_machine.specs.Floor.{takes_please, takes_restart, without_tokens}
unfoldable pub use Rattle.osi_machine.specs.Floor.{allowed, answered_sizes, answers_wishes, available, both_units, has_data, is_disjoint}
unfoldable pub use Rattle.osi_machine.specs.Floor.{is_empty, is_profile, is_within, major_confirmed, minor_confirmed, of_answerer, of_asker}
unfoldable pub use Rattle.osi_machine.specs.Floor.{offered, point_sent, point_taken, respond_unit, restarted_at, settle, stands, stated}
unfoldable pub use Rattle.osi_machine.specs.Floor.{take_expected, united, units_within, without}
pub use Rattle.osi_machine.specs.Histories.{Agree, AreNumberedFrom, Begins, Item, Octets, Point, PointKind, cutat, major_point, minor_kind}
pub use Rattle.osi_machine.specs.Histories.{points, upto}
pub use Rattle.osi_machine.specs.Machine.{Ending, Entry, HasNumber, IsLegal, Machine, Refusal, Step, after_end, after_taking, asked_in}
pub use Rattle.osi_machine.specs.Machine.{breaks, call_answered, call_in, calls, closed_here, closes_by, connect_answered, connection_at}
pub use Rattle.osi_machine.specs.Machine.{connects, cut_channels, delivered_to, delivers, end_of, ended, ended_worlds, ends, error_of}
pub use Rattle.osi_machine.specs.Machine.{is_class_0, is_given, is_known, is_long, is_told, is_waiting, learns, marked_ended, noted}
pub use Rattle.osi_machine.specs.Machine.{refusal, refusal_by, replaced, run, seen_from, shown_at, shown_in_order, side_of, start, stays}
pub use Rattle.osi_machine.specs.Machine.{step, taken_in, transport_of, with_connection, without_first}
pub use Rattle.osi_machine.specs.Owners.{Absent, Own, Owner, Owners, ToThem, all_to_pool, given_up, is_absent, is_own, is_to_own, left_by}
pub use Rattle.osi_machine.specs.Owners.{own_to_pool, owned, passed_to, pooled, settled_by, turned_owner, turned_owners}
pub use Rattle.osi_machine.specs.Parties.{AreConsistent, IsConsistent, IsFresh, IsNumberedStep, is_opening}
pub use Rattle.osi_machine.specs.Promises.{ConfirmedIsSeen, GotWhatWasSaid, HoldsItsOwn, IsReached, OfBoth, OneHolder, SeesTheHistory}
pub use Rattle.osi_machine.specs.Promises.{TakesNoFault, TakesTheNextItem, ViewsAgree, brings}
pub use Rattle.osi_machine.specs.Runs.{AreApart, ConfirmedInBoth, ConfirmedThere, HasNoFault, HasOneHolder, IsRun, LosesByItsEnd, OfEach}
pub use Rattle.osi_machine.specs.Runs.{RecordsAgree, ShowNoFault, ShownAsAsked, TakeTheirItems, TakesItsItem, is_fault, is_loss, loses}
pub use Rattle.osi_machine.specs.Sayings.{IsHeardAsSaid, heard_at, heard_at_delivery, heard_in, heard_of, heard_of_first, is_parting}
pub use Rattle.osi_machine.specs.Sayings.{one_or_none, other_side, said_at, said_at_call, said_at_delivery, said_in, said_to, said_to_first}
pub use Rattle.osi_machine.specs.Sayings.{units_in}
pub use Rattle.osi_machine.specs.Tables.{Line, Seat, Tables, Turn, after_turn, ended_lines, ends_there, in_transport, made, puts}
pub use Rattle.osi_machine.specs.Taking.{cut_by, got_in, is_acted_on, owners_after, seen}
pub use Rattle.osi_machine.specs.Views.{AreTold, Told, call_entries, core_entries, core_journal, is_side, left_told, record_of, right_told}
pub use Rattle.osi_machine.specs.Views.{take_entries, told_by, told_call, told_entry, told_of, told_shown, untold}
pub use Rattle.osi_machine.specs.Worlds.{Class, End, Kept, Message, Taking, Terms, Transport, World, accepts, after_answer, after_call}
pub use Rattle.osi_machine.specs.Worlds.{after_unit, agree, ask, asked_at, asked_with, bye, class_0, class_2, closed, closing, denies, deny}
pub use Rattle.osi_machine.specs.Worlds.{ended_at, gone, kept_of, linked, mark_after, mark_called, message_taken, moved, moves, not_yet}
pub use Rattle.osi_machine.specs.Worlds.{over, put, replied, session_of, shortened, shown_at_end, turned, unchanged, unit, unit_taken}
pub use Rattle.osi_machine.specs.Worlds.{waiting}
