-- What a caller and a called end agree on, by what each supports: the answer to every CR between them.
use Rattle.std.specs.Prelude.{◌≡◌, ℕ, Bool, true, false, ◌&&◌, List, Option, Some, None, if◌then◌else◌}
use Rattle.osi_tpdu.specs.Value.{Connect}
use Rattle.osi_class.specs.declared.terms.Class.{Class}
use Rattle.osi_class.specs.declared.terms.Class.TheVariants.{Zero, Two}
use Rattle.osi_class.specs.declared.terms.Local.{Local}
use Rattle.osi_carrier.specs.Negotiation.{proposes_zero, proposal}
use Rattle.osi_between.specs.Course.{IsTsap}

-- class 2; class 0; or a DR with this reason
pub data Terms : Type 0 where
  by_two : Terms
  by_zero : Terms
  refusing : ℕ → Terms

-- Class 2 if both support it; otherwise class 0 if the caller proposes it and the called end supports it. A CR that
-- proposes only class 0 is refused with reason 0, any other with 130.
abbrev pub terms_of : Local → Local → Terms
terms_of caller called =
    if caller.class2 && called.class2 then by_two
    else (if proposes_zero caller None && called.class0 then by_zero
    else refusing (if caller.class2 then 130 else 0))

-- whether a CR is accepted
abbrev pub accepts_in : Terms → Bool
accepts_in by_two = true
accepts_in by_zero = true
accepts_in (refusing reason) = false

-- the class that they agree on, if any
abbrev pub class_of : Terms → Option Class
class_of by_two = Some Two
class_of by_zero = Some Zero
class_of (refusing reason) = None

-- a CR that the caller wrote before a class was agreed
pub record IsProposed (n : ℕ) (caller : Local) (c : Connect) : Type 0 where
  pub calling : Option (List ℕ)
  pub called : Option (List ℕ)
  pub is : c ≡ proposal caller None calling called n
  pub calling_fits : IsTsap calling
  pub called_fits : IsTsap called
