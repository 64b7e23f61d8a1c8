use Rattle.osi_session.proofs.Vocabulary.{Listener, respond_tsdu, hearing_of_all, unit_in, units_of, said_by_units, Words, units_numbered}
use Rattle.osi_session.proofs.Vocabulary.{arith, sym, option_copied}
use Rattle.osi_session.proofs.moves.the_move_of_each_input.{taken_is}
use Rattle.osi_session.proofs.moves.the_moves_in_memory.{leaves_words, heard_by, room_by, leaves_by, takes_as, takes_nothing}
use Rattle.osi_session.proofs.sessions.Session.take.Goals as goal

pub take_all-requires : goal.take_all-requires
take_all-requires c = grind arith

pub settle-requires : goal.settle-requires
settle-requires c =
    let l : Listener = c.args.self.now in
    let words : Words = said_by_units (units_of c.args.group.now) in
    let x = leaves_by (λ t. respond_tsdu t words) c.in-Ok.reactions c.self.view_is c.as_ref.ensures.value c.in-Ok.ensures.heard
    c.self.invariant.0
    c.self.invariant.3 c.self.invariant.4 (λ h. leaves_words l words h (units_numbered (units_of c.args.group.now))) in
    record { sound = x.sound; begun = x.begun; ordered = c.in-Ok.ensures.ordered; kept = x.phase; few = x.few }

pub returns-in-Ok : goal.returns-in-Ok
returns-in-Ok c =
    let l : Listener = c.args.self.now in
    let words : Words = said_by_units (units_of c.args.group.now) in
    let e = heard_by (λ t. respond_tsdu t words) c.in-Ok.reactions c.self.view_is c.as_ref.ensures.value c.in-Ok.ensures.heard in
    grind (arith, takes_as, taken_is l words (hearing_of_all l.joined c.in-Ok.reactions) (sym e))

pub returns-in-Err : goal.returns-in-Err
returns-in-Err c = grind (arith, takes_nothing, taken_is, room_by, unit_in, option_copied)
