-- Sets of phases.
use Rattle.std.specs.Prelude.{Bool, true, false, ◌&&◌}
use Rattle.osi_session.specs.declared.phases.Phase.{Phase}
use Rattle.osi_session.specs.declared.phases.Phase.TheVariants.{WaitTransport, WaitCn, Connecting, Answering, Ready, MajorAsked, MajorDue, Releasing, ReleaseDue, Restarting, RestartDue, Aborting, Ended}

abbrev pub is_wait_transport : Phase → Bool
is_wait_transport WaitTransport = true
is_wait_transport _ = false

abbrev pub is_wait_cn : Phase → Bool
is_wait_cn WaitCn = true
is_wait_cn _ = false

abbrev pub is_connecting : Phase → Bool
is_connecting Connecting = true
is_connecting _ = false

abbrev pub is_answering : Phase → Bool
is_answering Answering = true
is_answering _ = false

abbrev pub is_ready : Phase → Bool
is_ready Ready = true
is_ready _ = false

abbrev pub is_major_asked : Phase → Bool
is_major_asked MajorAsked = true
is_major_asked _ = false

abbrev pub is_major_due : Phase → Bool
is_major_due MajorDue = true
is_major_due _ = false

abbrev pub is_releasing : Phase → Bool
is_releasing Releasing = true
is_releasing _ = false

abbrev pub is_release_due : Phase → Bool
is_release_due ReleaseDue = true
is_release_due _ = false

abbrev pub is_restarting : Phase → Bool
is_restarting Restarting = true
is_restarting _ = false

abbrev pub is_restart_due : Phase → Bool
is_restart_due RestartDue = true
is_restart_due _ = false

abbrev pub is_aborting : Phase → Bool
is_aborting Aborting = true
is_aborting _ = false

abbrev pub is_ended : Phase → Bool
is_ended Ended = true
is_ended _ = false

-- the connection is aborted or gone
abbrev pub is_over : Phase → Bool
is_over Aborting = true
is_over Ended = true
is_over _ = false

-- the CN is answered
abbrev pub is_settled : Phase → Bool
is_settled WaitTransport = false
is_settled WaitCn = false
is_settled Connecting = false
is_settled Answering = false
is_settled _ = true

-- a major point is outstanding
abbrev pub in_major : Phase → Bool
in_major MajorAsked = true
in_major MajorDue = true
in_major _ = false

-- tokens are held only in these
abbrev pub may_hold : Phase → Bool
may_hold Ready = true
may_hold MajorAsked = true
may_hold MajorDue = true
may_hold Releasing = true
may_hold ReleaseDue = true
may_hold _ = false

-- the calls

abbrev pub may_give : Phase → Bool
may_give Ready = true
may_give MajorDue = true
may_give _ = false

abbrev pub may_ask : Phase → Bool
may_ask Ready = true
may_ask MajorAsked = true
may_ask MajorDue = true
may_ask _ = false

abbrev pub may_confirm_minor : Phase → Bool
may_confirm_minor Ready = true
may_confirm_minor ReleaseDue = true
may_confirm_minor _ = false

abbrev pub may_restart : Phase → Bool
may_restart Ready = true
may_restart MajorAsked = true
may_restart MajorDue = true
may_restart ReleaseDue = true
may_restart _ = false

abbrev pub may_abort : Phase → Bool
may_abort WaitTransport = false
may_abort WaitCn = false
may_abort Aborting = false
may_abort Ended = false
may_abort _ = true

-- the units

abbrev pub takes_data : Phase → Bool
takes_data Ready = true
takes_data Releasing = true
takes_data _ = false

-- tokens are taken in the phases in which they may be requested
abbrev pub takes_give : Phase → Bool
takes_give p = may_ask p

abbrev pub takes_please : Phase → Bool
takes_please Ready = true
takes_please MajorAsked = true
takes_please MajorDue = true
takes_please Releasing = true
takes_please _ = false

abbrev pub takes_minor_ack : Phase → Bool
takes_minor_ack Ready = true
takes_minor_ack MajorAsked = true
takes_minor_ack Releasing = true
takes_minor_ack _ = false

abbrev pub takes_restart : Phase → Bool
takes_restart Ready = true
takes_restart MajorAsked = true
takes_restart MajorDue = true
takes_restart Releasing = true
takes_restart ReleaseDue = true
takes_restart Restarting = true
takes_restart _ = false

-- the user is told if the transport connection is lost
abbrev pub shows_loss : Phase → Bool
shows_loss WaitCn = false
shows_loss Aborting = false
shows_loss Ended = false
shows_loss _ = true

-- a test that each phase passes
abbrev pub every_phase : (Phase → Bool) → Bool
every_phase f =
    f WaitTransport && (f WaitCn && (f Connecting && (f Answering && (f Ready && (f MajorAsked && (f MajorDue
    && (f Releasing && (f ReleaseDue && (f Restarting && (f RestartDue && (f Aborting && f Ended)))))))))))
