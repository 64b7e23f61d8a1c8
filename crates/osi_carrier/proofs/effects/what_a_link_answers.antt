-- What a unit does to its link, from the answers of the link: it was refused and nothing has changed, or it was taken, a
-- complete TSDU was handed out, and what the link then gave was written. For the call that hands a unit to its link.
use Rattle.osi_carrier.proofs.Vocabulary.{Standing, Hands, LinkFault, pumped, link_after, whole_after, arith, ◌≡◌, ℕ, Bool, List, Option}
use Rattle.osi_carrier.proofs.Vocabulary.{Result, Ok, Err, IsOk, OnErr, option_to_list, sym, ap, ◌∙◌, TakesUnit}
use Rattle.osi_class.specs.declared.faults.LinkFault.TheVariants.{OutOfMemory}

pub refused_by : {A : Type 0} (r : Result A LinkFault) (f : LinkFault) (needs : Bool) (t : Result Standing LinkFault) (old new : Standing) →
    r ≡ Err f → (f ≡ OutOfMemory → ⊥) →
    TakesUnit r needs t old new → (t ≡ Err f) × (new ≡ old)
refused_by h f needs t old new e other h2 = grind arith

-- what is known of a refusal
pub on_err : {A E P : Type 0} (r : Result A E) (e : E) → r ≡ Err e → OnErr r P → P
on_err h e is h2 = grind arith

-- the TSDU that was handed out
pub took_whole : (o : Option (List ℕ)) (t u : Standing) (r : Result Standing LinkFault) → r ≡ Ok t → Hands o t u →
    IsOk r × (option_to_list o ≡ whole_after r)
took_whole h t u r ok h2 = grind arith

-- the link after everything that it gives now was written
pub took_link : (o : Option (List ℕ)) (s t u : Standing) (r : Result Standing LinkFault) → r ≡ Ok t → Hands o t u →
    pumped u ≡ link_after s r
took_link o s t u r ok h = ap pumped (grind arith) ∙ sym (ap (link_after s) ok)
