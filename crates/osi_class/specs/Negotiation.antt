-- Which class and size are selected for a CR.
use Rattle.std.specs.Prelude.{ℕ, ◌/◌, ◌%◌, Bool, true, not, ◌&&◌, ◌||◌, ◌==◌, min, false, List, Option, Some, None, option_map, if◌then◌else◌}
use Rattle.std.specs.List.{list_any, list_all}
use Rattle.osi_tpdu.specs.Limits.{size_code}
use Rattle.osi_tpdu.specs.Value.{Connect}
use Rattle.osi_class.specs.declared.terms.Local.{Local}
use Rattle.osi_class.specs.declared.terms.Class.{Class}
use Rattle.osi_class.specs.declared.terms.Class.TheVariants.{Zero, Two}
use Rattle.osi_class.specs.declared.terms.Answer.{Answer}
use Rattle.osi_class.specs.declared.terms.Answer.TheVariants.{Accept, Disconnect}

-- a class, with the code of a TPDU size unless none was proposed; or the reason of a DR
pub data Selection : Type 0 where
  accept : Class → Option ℕ → Selection
  refuse : ℕ → Selection

abbrev pub selection : Answer → Selection
selection (Accept class size) = accept class (option_map size_code size)
selection (Disconnect reason) = refuse reason

-- the parameter of alternative classes names this class: an octet for each, the class in its high half
abbrev pub lists : Option (List ℕ) → ℕ → Bool
lists None class = false
lists (Some octets) class = list_any (λ octet. octet / 16 == class) octets

-- it names only class 0
abbrev pub lists_zero_alone : Option (List ℕ) → Bool
lists_zero_alone None = true
lists_zero_alone (Some octets) = list_all (λ octet. octet / 16 == 0) octets

-- the CR prefers or lists this class
abbrev pub proposes : Connect → ℕ → Bool
proposes c class = (c.class == class) || lists c.parameters.alternative class

abbrev pub proposes_zero_alone : Connect → Bool
proposes_zero_alone c = (c.class == 0) && lists_zero_alone c.parameters.alternative

-- bit 1 of the options is clear: explicit flow control in class 2
abbrev pub keeps_flow_control : Connect → Bool
keeps_flow_control c = not (c.options % 2 == 1)

-- the smaller of the proposed size and this end's; none if the CR proposes none
abbrev pub selected_size : Connect → Local → Option ℕ
selected_size c local = option_map (λ code. min code (size_code local.size)) c.parameters.size

abbrev pub selected_by : Connect → Local → Selection
selected_by c local =
    if local.class2 && (proposes c 2 && keeps_flow_control c) then accept Two (selected_size c local)
    else (if local.class0 && proposes c 0 then accept Zero (selected_size c local)
    else (if proposes_zero_alone c then refuse 0
    else refuse 130))
