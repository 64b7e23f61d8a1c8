use Rattle.osi_session.proofs.Vocabulary.{Listener, taker_of, heard, respond_came, respond_fault, hearing_of_all, arith, ◌∙◌, ap, Err}
use Rattle.osi_session.proofs.moves.the_move_of_each_input.{of_fault}
use Rattle.osi_session.proofs.moves.the_moves_in_memory.{Holds, holds, leaves_fault, leaves_as, of_heard, takes_as}
use Rattle.osi_session.proofs.sessions.Session.take_bad.Goals as goal

pub settle-requires : goal.settle-requires
settle-requires c =
    let l : Listener = c.args.self.now in
    let e = of_heard l.joined c.of.result c.of-heard.result (respond_came (taker_of l) (Err c.args.fault)) c.of.ensures.outcome
    c.of.ensures.joined
    (c.of-heard.ensures l.joined ∙
    ap (heard l.joined) (c.judge_unread.ensures ∙ ap (λ (s : Listener). respond_fault s.state c.args.fault) c.self.view_is)) in
    let h : Holds l = holds c.self.view_is c.self.invariant.0 c.self.invariant.3 c.self.invariant.4 in
    let x = leaves_as l (hearing_of_all l.joined c.of.result) (respond_came (taker_of l) (Err c.args.fault)) e
    (leaves_fault l c.args.fault h) in
    record { sound = x.sound; begun = x.begun; ordered = (λ n. c.of.ensures.ordered); kept = x.phase; few = x.few }

pub returns : goal.returns
returns c = grind (arith, of_heard, respond_fault, takes_as, of_fault)
