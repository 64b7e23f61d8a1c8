-- What a CR proposes, the answer to it, and the links that are opened.
use Rattle.std.specs.Prelude.{ℕ, ◌-◌, ◌%◌, Bool, true, false, not, ◌&&◌, ◌||◌, ◌==◌, List, [], ◌∷◌, Option, Some, None, option_map, is_none, min, if◌then◌else◌, ◌^◌}
use Rattle.osi_tpdu.specs.Limits.{size_code, window_units}
use Rattle.osi_tpdu.specs.Value.{Connect}
use Rattle.osi_class.specs.Ends.{fresh_ends}
use Rattle.osi_class.specs.Link.{Standing, fresh_two, zero_standing, two_standing}
use Rattle.osi_class.specs.declared.terms.Class.{Class}
use Rattle.osi_class.specs.declared.terms.Class.TheVariants.{Zero, Two}
use Rattle.osi_class.specs.declared.terms.Local.{Local}

-- ---- what this end proposes

-- class 2 if it is supported
abbrev pub proposes_two : Local → Bool
proposes_two local = local.class2

-- class 0 if it is supported or class 2 is not, and no class is agreed yet
abbrev pub proposes_zero : Local → Option Class → Bool
proposes_zero local held = is_none held && (local.class0 || not local.class2)

-- the parameter of alternative classes, if class 0 is proposed after class 2
abbrev pub alternatives : Bool → Option (List ℕ)
alternatives true = Some (0 ∷ [])
alternatives false = None

-- a CR that prefers class 2, or proposes only class 0
abbrev pub proposal_by : Bool → Local → Option Class → Option (List ℕ) → Option (List ℕ) → ℕ → Connect
proposal_by true local held calling called r = record {
  credit = window_units local.window;
  source = r;
  class = 2;
  options = 0;
  parameters = record { size = Some (size_code local.size); calling = calling; called = called; additional = Some 0; alternative = alternatives (proposes_zero local held) };
  user = [];
}
proposal_by false local held calling called r = record {
  credit = 0;
  source = r;
  class = 0;
  options = 0;
  parameters = record { size = Some (size_code local.size); calling = calling; called = called; additional = None; alternative = None };
  user = [];
}

abbrev pub proposal : Local → Option Class → Option (List ℕ) → Option (List ℕ) → ℕ → Connect
proposal local held calling called r = proposal_by (proposes_two local) local held calling called r

-- ---- what a CC selects

-- bit 1 of the additional options: transport expedited data; if it is absent in a CC, it is not selected
abbrev pub selects_expedited : Option ℕ → Bool
selects_expedited None = false
selects_expedited (Some options) = options % 2 == 1

-- the class, if it was proposed and so was everything else that the CC selects
abbrev pub confirmed : Connect → Local → Option Class → Option Class
confirmed c local held =
    if (c.class == 2) && (proposes_two local && not (selects_expedited c.parameters.additional)) then Some Two
    else (if (c.class == 0) && proposes_zero local held then Some Zero
    else None)

-- a size above the proposed one is read as that
abbrev pub agreed_size : Option ℕ → Local → Option ℕ
agreed_size size local = option_map (λ code. min code (size_code local.size)) size

-- ---- the link

-- the most octets of a unit: 128 if no size was agreed
abbrev pub unit_octets : Option ℕ → ℕ
unit_octets None = 128
unit_octets (Some code) = 2 ^ code

-- a fresh link; the credit is the peer's first
abbrev pub opened_link : Class → Option ℕ → Local → ℕ → Standing
opened_link Zero size local credit = zero_standing (fresh_ends (unit_octets size - 3))
opened_link Two size local credit =
    two_standing (fresh_two (unit_octets size) (window_units local.window) credit).ends (fresh_two (unit_octets size) (window_units local.window) credit).flow

-- ---- the answer to a CR

-- the CC for a CR: it repeats the selectors
abbrev pub acceptance : Class → Option ℕ → Connect → Local → ℕ → Connect
acceptance Zero size c local r = record {
  credit = 0;
  source = r;
  class = 0;
  options = 0;
  parameters = record { size = size; calling = c.parameters.calling; called = c.parameters.called; additional = None; alternative = None };
  user = [];
}
acceptance Two size c local r = record {
  credit = window_units local.window;
  source = r;
  class = 2;
  options = 0;
  parameters = record { size = size; calling = c.parameters.calling; called = c.parameters.called; additional = Some 0; alternative = None };
  user = [];
}
