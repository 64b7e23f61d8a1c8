use Rattle.osi_session.proofs.Vocabulary.{meant_by, said_at, says, Listener, Move, moved, react, came, taker_of, heard, respond_came}
use Rattle.osi_session.proofs.Vocabulary.{respond_word, outcome_of, takes_memory, ◌≡◌, refl, sym, subst, true, Ok}
use Rattle.osi_session.proofs.moves.a_tsdu_that_is_read_straight.{comes_as_message, message_heard}
use Rattle.osi_session.proofs.moves.the_move_of_each_input.{came_is}
use Rattle.osi_session.proofs.moves.the_moves_in_memory.{holds, leaves_as, leaves_octets, room_by, tries_as}
use Rattle.osi_session.proofs.tsdu.the_effect_of_a_word.{message_takes}
use Rattle.osi_session.proofs.sessions.Session.take_brief.Goals as goal

pub show_alone-requires : goal.show_alone-requires
show_alone-requires c =
    let l : Listener = c.args.self.now in
    let e = message_heard (meant_by c.in-Some.message) (said_at c.args.tsdu.now) c.self.view_is c.as_ref.ensures.value c.in-Some.ensures
    c.in-Ok.ensures in
    let h = holds c.self.view_is c.self.invariant.0 c.self.invariant.3 c.self.invariant.4 in
    let x = leaves_as l (heard l.joined (outcome_of c.in-Ok.reaction)) (respond_came (taker_of l) (said_at c.args.tsdu.now)) (sym e)
    (leaves_octets l c.args.tsdu.now h) in
    record { sound = x.sound; begun = x.begun }

pub returns-in-Ok : goal.returns-in-Ok
returns-in-Ok c =
    let l : Listener = c.args.self.now in
    let e = message_heard (meant_by c.in-Some.message) (said_at c.args.tsdu.now) c.self.view_is c.as_ref.ensures.value c.in-Some.ensures
    c.in-Ok.ensures in
    tries_as (Ok c.show_alone.result) (moved l (heard l.joined (outcome_of c.in-Ok.reaction))) (react l (came c.args.tsdu.now)) l
    c.show_alone.new.self (sym (came_is l (said_at c.args.tsdu.now) (heard l.joined (outcome_of c.in-Ok.reaction)) e))
    (record { taken = c.show_alone.ensures; err = tt; memory = tt })

pub returns-in-Err : goal.returns-in-Err
returns-in-Err c =
    let l : Listener = c.args.self.now in
    let acts = comes_as_message (said_at c.args.tsdu.now) (meant_by c.in-Some.message) (taker_of l) c.in-Some.ensures in
    record {
      taken = tt;
      err = refl;
      memory = subst (λ (m : Move). takes_memory l m ≡ true)
          (sym (came_is l (said_at c.args.tsdu.now) (respond_word (taker_of l) (says (meant_by c.in-Some.message))) acts))
          (room_by (λ t. respond_word t (says (meant_by c.in-Some.message))) c.self.view_is c.as_ref.ensures.value
          (message_takes _ (meant_by c.in-Some.message) c.in-Err.ensures));
    }
