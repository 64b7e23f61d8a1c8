-- What this crate uses of the tables of one session.
pub use Rattle.osi_spdu.specs.declared.settings.TokenSetting.{TokenSetting}
pub use Rattle.osi_spdu.specs.declared.settings.Wish.{Wish}
pub use Rattle.osi_spdu.specs.declared.settings.Wish.TheVariants.{Asker, Answerer, Choice}
pub use Rattle.osi_spdu.specs.declared.fields.ResyncType.{ResyncType}
pub use Rattle.osi_spdu.specs.declared.fields.TsduMaximumSize.{TsduMaximumSize}
pub use Rattle.osi_spdu.specs.Sizes.{are_sizes, no_sizes}
pub use Rattle.osi_session.specs.declared.phases.Phase.{Phase}
pub use Rattle.osi_session.specs.declared.phases.Phase.TheVariants.{WaitTransport, WaitCn, Connecting, Answering, Ready, MajorAsked, MajorDue, Releasing, ReleaseDue, Restarting, RestartDue, Aborting, Ended}
pub use Rattle.osi_session.specs.declared.faults.CallError.{CallError}
pub use Rattle.osi_session.specs.declared.faults.UnitFault.{UnitFault}
pub use Rattle.osi_session.specs.declared.numbers.Numbers.{Numbers}
pub use Rattle.osi_session.specs.declared.selected.FunctionalUnits.{FunctionalUnits}
pub use Rattle.osi_session.specs.declared.sides.Sides.{Sides}
pub use Rattle.osi_session.specs.declared.state.State.{State}
pub use Rattle.osi_message.specs.declared.tokens.Tokens.{Tokens}
pub use Rattle.osi_session.specs.Phases.{is_wait_transport, is_wait_cn, is_connecting, is_answering, is_ready, is_major_asked, is_major_due, is_releasing, is_release_due, is_restarting, is_restart_due, is_aborting, is_ended, is_over, in_major, may_hold, may_give, may_ask, may_confirm_minor, may_restart, takes_data, takes_please, takes_minor_ack, takes_restart, shows_loss}
pub use Rattle.osi_message.specs.Tokens.{Token, data_token, minor, major, release, has, set_of, each, some, no_token}
unfoldable pub use Rattle.osi_message.specs.Tokens.{is_empty, is_within, is_disjoint, without, united}
pub use Rattle.osi_session.specs.Units.{functional_units, no_units}
unfoldable pub use Rattle.osi_session.specs.Units.{both_units, units_within, has_data, has_points, is_profile, available}
pub use Rattle.osi_session.specs.Sides.{setting_of, side_for, is_asker}
unfoldable pub use Rattle.osi_session.specs.Sizes.{answered_sizes, smaller_sizes}
unfoldable pub use Rattle.osi_session.specs.Sides.{settle, stated, of_asker, of_answerer, answers_wishes, offered}
pub use Rattle.osi_session.specs.Numbers.{from_base, lower}
unfoldable pub use Rattle.osi_session.specs.Numbers.{point_sent, point_taken, minor_confirmed, major_confirmed, restarted_at}
pub use Rattle.osi_session.specs.State.{without_tokens}
pub use Rattle.osi_message.specs.Meanings.{Meaning, CN, AC, RF, DT, GT, PT, MIP, MIA, MAP, MAA, RS, RA, FN, DN, NF, AB, AA}
pub use Rattle.osi_message.specs.Numbered.{IsSmall, IsNumbered}
pub use Rattle.osi_session.specs.Calls.{Call, Accept, Refuse, Data, Give, Please, Minor, MinorConfirm, Major, MajorConfirm, Restart, RestartConfirm, Release, ReleaseAccept, ReleaseRefuse, Abort, HasSerial}
pub use Rattle.osi_session.specs.Allowed.{Test, Step as Granted, Answer, first_error, has_right, is_confirmable, is_restartable, last_number, numbers_left, may_call, needs, octets_of, most_of, base_for, opened_with, after, serial_for, sends, sized}
unfoldable pub use Rattle.osi_session.specs.Allowed.{met, allowed}
pub use Rattle.osi_session.specs.Respond.{Outcome, nothing, si, has_no_effect, is_expected, Condition, lacks, is_acknowledgeable, is_restart, conditions, first_fault, is_acceptable, agreed_base, becomes, shown_for, reply_for, closes_for, good, bad, judged, passes_restarting, in_aborting, in_ended, is_resynchronize, lost}
unfoldable pub use Rattle.osi_session.specs.Respond.{stands, take_expected, respond_unit}
pub use Rattle.osi_session.specs.Sound.{AreOrdered, IsSound}
pub use Rattle.osi_session.specs.Sessions.{awaiting, asking}
pub use Rattle.osi_message.specs.Reading.{alone}
pub use Rattle.osi_session.specs.Respond.{respond}
pub use Rattle.osi_session.specs.Moves.{Input, called as call_input, taken as taken_input, Standing, answered as call_move, moved as unit_move, after_inputs}
unfoldable pub use Rattle.osi_session.specs.Moves.{react}
pub use Rattle.osi_session.specs.Runs.{HasNumbers}
pub use Rattle.osi_message.specs.Sendable.{IsSendable}
pub use Rattle.osi_session.specs.Respond.{drops, AllMet, IsGood as Good, after_unit as next}
