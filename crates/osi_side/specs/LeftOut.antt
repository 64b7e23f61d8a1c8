-- What X.225 lets a session send in its state, and no session of this product sends there.
use Rattle.std.specs.Prelude.{ℕ, ◌==◌, ◌&&◌, ◌||◌, Bool, false, not, nat_le}
use Rattle.osi_message.specs.Meanings.{Meaning, CN, GT, RS}
use Rattle.osi_message.specs.Tokens.{is_within}
use Rattle.osi_session.specs.Phases.{is_ended, is_major_asked, is_releasing}
use Rattle.osi_session.specs.Respond.{is_restart}
use Rattle.osi_session.specs.Standing.{Seen}
use Rattle.osi_session.specs.declared.breaches.Breach.{Breach}
use Rattle.osi_session.specs.declared.breaches.Breach.TheVariants.{Call}
use Rattle.osi_session.specs.declared.faults.CallError.TheVariants.{BadState, BadNumber}

-- Another session on the transport connection of one that is over (section 6.2): a CN of the calling side.
abbrev pub opens_again : Seen → Meaning → Bool
opens_again s (CN version_2 requirements serial wishes calling called sizes octets) = s.state.is_caller && is_ended s.state.phase
opens_again s m = false

-- Tokens that a side holds, and gives while its major point waits for the confirmation.
abbrev pub gives_early : Seen → Meaning → Bool
gives_early s (GT tokens) = is_major_asked s.state.phase && is_within tokens s.state.held
gives_early s m = false

-- A resynchronization by a side that waits for the answer to its FN.
abbrev pub resynchronizes_late : Seen → Meaning → Bool
resynchronizes_late s (RS kind number wishes octets) = is_releasing s.state.phase && s.state.units.resynchronize
resynchronizes_late s m = false

-- A number of a restart from V(R) to V(M). It is from 0 on if no major point was confirmed: points of an earlier connection count too.
abbrev pub is_restartable_too : Seen → ℕ → Bool
is_restartable_too s number =
    nat_le number s.state.numbers.next && ((s.state.numbers.lowest == s.state.base) || nat_le s.state.numbers.lowest number)

-- A resynchronization of type abandon or set has other numbers than a restart.
abbrev pub is_numbered_otherwise : Seen → Meaning → Bool
is_numbered_otherwise s (RS kind number wishes octets) = not (is_restart kind) || is_restartable_too s number
is_numbered_otherwise s m = false

-- of a message that breaks this rule of this product
abbrev pub is_unit_left_out : Seen → Meaning → Breach → Bool
is_unit_left_out s m (Call BadState) = opens_again s m || (gives_early s m || resynchronizes_late s m)
is_unit_left_out s m (Call BadNumber) = is_numbered_otherwise s m
is_unit_left_out s m b = opens_again s m
