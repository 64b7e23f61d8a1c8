-- The values of the parameters of a unit, of a unit, and of a TSDU.
use Rattle.std.specs.Prelude.{ℕ, List, [], ◌∷◌, Option, Some, None, if◌then◌else◌}
use Rattle.osi_spdu.specs.declared.codes.Code.{Code}
use Rattle.osi_spdu.specs.declared.codes.Code.TheVariants.{UserData}
use Rattle.osi_spdu.specs.declared.kinds.Kind.{Kind}
use Rattle.osi_spdu.specs.Codes.{is_same}

-- the value of each parameter that is there, in its written form; a group that is there has an empty value
abbrev pub Known : Type 0
Known = Code → Option (List ℕ)

abbrev pub nothing : Known
nothing = λ c. None

-- the same with one more value
abbrev pub put : Code → List ℕ → Known → Known
put slot value known = λ c. if is_same c slot then Some value else known c

-- empty user data is no user data
abbrev pub some_octets : Option (List ℕ) → Option (List ℕ)
some_octets None = None
some_octets (Some []) = None
some_octets (Some (b ∷ octets)) = Some (b ∷ octets)

abbrev pub settled : Known → Known
settled known = λ c. if is_same c UserData then some_octets (known c) else known c

-- the value of a session unit: its kind, its parameters, and the user information of a DT
pub record Contents : Type 0 where
  pub kind : Kind
  pub known : Known
  pub information : List ℕ

-- the value of a TSDU: its units in order
abbrev pub Units : Type 0
Units = List Contents
