use Rattle.osi_message.proofs.Vocabulary.{NotFinished, Finish, Disconnect, Abort, AbortAccept, unit_with, unit_of, user_data_of, is_second}
use Rattle.osi_message.proofs.Vocabulary.{Message, meant_by, ◌≡◌, ◌∙◌, ap, false, subst, refl, arith}
use Rattle.osi_message.proofs.a_unit_is_made_of_its_meaning.{none_known, data_known, abort_known}
use Rattle.osi_message.specs.declared.messages.Message.TheVariants as message
use Rattle.osi_message.proofs.messages.Message.first_unit.Goals as goal
use Rattle.osi_message.proofs.messages.Message.first_unit.Goals.{in-Connect, in-Accept, in-Refuse, in-Give, in-Please, in-Finish}
use Rattle.osi_message.proofs.messages.Message.first_unit.Goals.{in-Disconnect, in-NotFinished, in-Abort, in-AbortAccept}

pub unreachable-requires : goal.unreachable-requires
unfolding is_second
unreachable-requires c = by c.args.self refl
  where
    not_so : (m : Message) → c.args.self ≡ m → is_second (meant_by m) ≡ false
    not_so m e = subst (λ (x : Message). is_second (meant_by x) ≡ false) e c.requires

    by : (m : Message) → c.args.self ≡ m → ⊥
    by (message.Connect v r s w a b z o) e = c.in_default.not-Connect v r s w a b z o e
    by (message.Accept v r s w z o) e = c.in_default.not-Accept v r s w z o e
    by (message.Refuse r o) e = c.in_default.not-Refuse r o e
    by (message.Give t) e = c.in_default.not-Give t e
    by (message.Please t o) e = c.in_default.not-Please t o e
    by (message.Finish o) e = c.in_default.not-Finish o e
    by (message.Disconnect o) e = c.in_default.not-Disconnect o e
    by (message.NotFinished o) e = c.in_default.not-NotFinished o e
    by (message.Abort b o) e = c.in_default.not-Abort b o e
    by message.AbortAccept e = c.in_default.not-AbortAccept e
    by m e = (let h = not_so m e in cc)

pub returns-clause-units : goal.returns-clause-units
unfolding unit_of
returns-clause-units c = elim c.match-self.branch [
  | in-Connect w ↦ rw (w.result-is, w.in-Connect.is) (w.connect.ensures.units)
  | in-Accept w ↦ rw (w.result-is, w.in-Accept.is) (w.accept.ensures.units)
  | in-Refuse w ↦ rw (w.result-is, w.in-Refuse.is) (w.refuse.ensures.units)
  | in-Give w ↦ rw (w.result-is, w.in-Give.is) (w.give.ensures.units)
  | in-Please w ↦ rw (w.result-is, w.in-Please.is) (w.please.ensures.units)
  | in-Finish w ↦ rw (w.result-is, w.in-Finish.is) (w.finish.ensures.units ∙ ap (unit_with Finish) (data_known w.in-Finish.user_data))
  | in-Disconnect w ↦ grind (arith, data_known w.in-Disconnect.user_data)
  | in-NotFinished w ↦ grind (arith, data_known w.in-NotFinished.user_data)
  | in-Abort w ↦ grind (arith, abort_known w.in-Abort.transport_disconnect w.in-Abort.user_data)
  | in-AbortAccept w ↦ rw (w.result-is, w.in-AbortAccept.is) (w.abort_accept.ensures.units ∙ ap (unit_with AbortAccept) none_known)
]

pub returns-clause-fits : goal.returns-clause-fits
unfolding user_data_of
returns-clause-fits c = elim c.match-self.branch [
  | in-Connect w ↦ rw (w.result-is, w.in-Connect.is) (λ few. w.connect.ensures.fits (omega arith))
  | in-Accept w ↦ rw (w.result-is, w.in-Accept.is) (λ few. w.accept.ensures.fits (omega arith))
  | in-Refuse w ↦ rw (w.result-is, w.in-Refuse.is) (λ few. w.refuse.ensures.fits (omega arith))
  | in-Give w ↦ rw (w.result-is, w.in-Give.is) (λ few. w.give.ensures.fits)
  | in-Please w ↦ rw (w.result-is, w.in-Please.is) (λ few. w.please.ensures.fits (omega arith))
  | in-Finish w ↦ rw (w.result-is, w.in-Finish.is) (λ few. w.finish.ensures.fits (omega arith))
  | in-Disconnect w ↦ rw (w.result-is, w.in-Disconnect.is) (λ few. w.disconnect.ensures.fits (omega arith))
  | in-NotFinished w ↦ rw (w.result-is, w.in-NotFinished.is) (λ few. w.not_finished.ensures.fits (omega arith))
  | in-Abort w ↦ rw (w.result-is, w.in-Abort.is) (λ few. w.abort.ensures.fits (omega arith))
  | in-AbortAccept w ↦ rw (w.result-is, w.in-AbortAccept.is) (λ few. w.abort_accept.ensures.fits)
]
