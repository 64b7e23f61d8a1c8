-- The octets of the TSDUs that are to be sent.
use Rattle.std.specs.Prelude.{◌<◌, ℕ, List, [], ◌∷◌, length, map}
use Rattle.osi_message.specs.declared.tsdus.LentTsdus.{LentTsdus}
use Rattle.osi_message.specs.declared.tsdus.LentTsdus.TheVariants as lent
use Rattle.osi_message.specs.declared.tsdus.Tsdus.{Tsdus}
use Rattle.osi_message.specs.declared.tsdus.Tsdus.TheVariants.{Short, One, Parts}

abbrev pub octets_in : Tsdus → List (List ℕ)
octets_in (Short octets) = octets ∷ []
octets_in (One octets) = octets.items ∷ []
octets_in (Parts tsdus) = map (λ v. v.items) tsdus.items

-- parts are two or more
abbrev pub AreSeveral : Tsdus → Type 0
AreSeveral (Short octets) = Unit {0}
AreSeveral (One octets) = Unit {0}
AreSeveral (Parts tsdus) = 1 < length tsdus.items

-- the same of lent ones
abbrev pub octets_lent : LentTsdus → List (List ℕ)
octets_lent (lent.One octets) = octets.now ∷ []
octets_lent (lent.Parts tsdus) = map (λ v. v.items) tsdus.now
