-- Comparing two states.
use Rattle.std.specs.Prelude.{ℕ, ◌==◌, Bool, true, false, not, ◌&&◌}
use Rattle.osi_spdu.specs.declared.settings.Wish.{Wish}
use Rattle.osi_spdu.specs.declared.settings.Wish.TheVariants.{Asker, Answerer, Choice}
use Rattle.osi_spdu.specs.declared.settings.TokenSetting.{TokenSetting}
use Rattle.osi_spdu.specs.declared.fields.TsduMaximumSize.{TsduMaximumSize}
use Rattle.osi_message.specs.declared.tokens.Tokens.{Tokens}
use Rattle.osi_session.specs.declared.phases.Phase.{Phase}
use Rattle.osi_session.specs.declared.phases.Phase.TheVariants.{WaitTransport, WaitCn, Connecting, Answering, Ready, MajorAsked, MajorDue, Releasing, ReleaseDue, Restarting, RestartDue, Aborting, Ended}
use Rattle.osi_session.specs.declared.numbers.Numbers.{Numbers}
use Rattle.osi_session.specs.declared.selected.FunctionalUnits.{FunctionalUnits}
use Rattle.osi_session.specs.declared.state.State.{State}

abbrev pub same_bit : Bool → Bool → Bool
same_bit true b = b
same_bit false b = not b

abbrev pub same_wish : Wish → Wish → Bool
same_wish Asker Asker = true
same_wish Answerer Answerer = true
same_wish Choice Choice = true
same_wish _ _ = false

-- the place of a phase in the order of all phases
abbrev pub place_of : Phase → ℕ
place_of WaitTransport = 0
place_of WaitCn = 1
place_of Connecting = 2
place_of Answering = 3
place_of Ready = 4
place_of MajorAsked = 5
place_of MajorDue = 6
place_of Releasing = 7
place_of ReleaseDue = 8
place_of Restarting = 9
place_of RestartDue = 10
place_of Aborting = 11
place_of Ended = 12

unfoldable pub same_setting : TokenSetting → TokenSetting → Bool
same_setting a b = same_wish a.data_token b.data_token && (same_wish a.minor b.minor && (same_wish a.major b.major && same_wish a.release b.release))

unfoldable pub same_tokens : Tokens → Tokens → Bool
same_tokens a b = same_bit a.data_token b.data_token && (same_bit a.minor b.minor && (same_bit a.major b.major && same_bit a.release b.release))

unfoldable pub same_units : FunctionalUnits → FunctionalUnits → Bool
same_units a b = same_bit a.half_duplex b.half_duplex && (same_bit a.duplex b.duplex && (same_bit a.minor b.minor && (same_bit a.major b.major && (same_bit a.resynchronize b.resynchronize && same_bit a.negotiated_release b.negotiated_release))))

unfoldable pub same_numbers : Numbers → Numbers → Bool
same_numbers a b = (a.next == b.next) && ((a.confirmed == b.confirmed) && ((a.lowest == b.lowest) && same_bit a.answers b.answers))

unfoldable pub same_sizes : TsduMaximumSize → TsduMaximumSize → Bool
same_sizes a b = (a.from_asker == b.from_asker) && (a.from_answerer == b.from_answerer)

unfoldable pub same_state : State → State → Bool
same_state a b = (place_of a.phase == place_of b.phase) && (same_bit a.is_caller b.is_caller && (same_units a.units b.units && (same_setting a.wishes b.wishes && (same_tokens a.held b.held && ((a.proposed == b.proposed) && ((a.base == b.base) && (same_numbers a.numbers b.numbers && same_sizes a.sizes b.sizes)))))))
