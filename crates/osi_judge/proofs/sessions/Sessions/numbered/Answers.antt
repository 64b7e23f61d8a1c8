use Rattle.osi_judge.proofs.Vocabulary.{◌∙◌, ap, subst, sym, List, Option, None, Some, ◌==◌, find, Connection}
use Rattle.osi_judge.proofs.each_connection_is_kept.{live_found, done_found}
use Rattle.osi_judge.proofs.each_session_has_heard_all.{LiveHeard, found_heard}
use Rattle.osi_judge.proofs.sessions.Sessions.numbered.Goals as goal

pub returns-in-Some-clause-held : goal.returns-in-Some-clause-held
returns-in-Some-clause-held c s h =
    live_found c.args.number c.args.self.now.live.items c.in-Some.connection s
    (sym (c.in-Some.ensures ∙ ap (λ (l : List Connection). find (λ k. k.number == c.args.number) l) c.deref.ensures.value)) h.live

pub returns-in-Some-clause-heard : goal.returns-in-Some-clause-heard
returns-in-Some-clause-heard c k =
    subst (λ (o : Option Connection). LiveHeard o)
    (sym (c.in-Some.ensures ∙ ap (λ (l : List Connection). find (λ k. k.number == c.args.number) l) c.deref.ensures.value))
    (found_heard c.args.number c.args.self.now.live.items k)

pub returns-in-Some-numbered-clause-held : goal.returns-in-Some-numbered-clause-held
returns-in-Some-numbered-clause-held c s h =
    done_found c.args.number c.args.self.now.live.items c.args.self.now.done (Some c.in-Some-numbered.past) s
    (sym (c.in_default.ensures ∙ ap (λ (l : List Connection). find (λ k. k.number == c.args.number) l) c.deref.ensures.value))
    c.in-Some-numbered.ensures h.live h.done

pub returns-in-None-clause-held : goal.returns-in-None-clause-held
returns-in-None-clause-held c s h =
    done_found c.args.number c.args.self.now.live.items c.args.self.now.done None s
    (sym (c.in_default.ensures ∙ ap (λ (l : List Connection). find (λ k. k.number == c.args.number) l) c.deref.ensures.value))
    c.in-None.ensures h.live h.done
