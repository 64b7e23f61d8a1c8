-- The effect of a unit on the link that takes it.
use Rattle.std.specs.Prelude.{◌≡◌, ℕ, Bool, true, ◌||◌, List, [], length, nat_lt, take, Some, None, Result, Ok, Err, IsOk, is_some, option_to_list}
use Rattle.osi_tpdu.specs.Value.{Value}
use Rattle.osi_class.specs.Handing.{tsdu_handed, user_of}
use Rattle.osi_class.specs.Link.{Standing}
use Rattle.osi_class.specs.declared.faults.LinkFault.{LinkFault}
use Rattle.osi_carrier.specs.Opened.{peer_in}
use Rattle.osi_carrier.specs.Pump.{pumped, written_by}
use Rattle.osi_carrier.specs.React.{handed_out}
use Rattle.osi_carrier.specs.Rows.{Rows, place_of, value_at}
use Rattle.osi_carrier.specs.State.{Connection}
use Rattle.osi_carrier.specs.declared.links.Step.{Step}
use Rattle.osi_carrier.specs.declared.links.Step.TheVariants.{NotOpen, Took, Broke}

-- the link, unchanged if the unit was refused
abbrev pub link_after : Standing → Result Standing LinkFault → Standing
link_after old (Ok link) = pumped (handed_out link)
link_after old (Err fault) = old

abbrev pub units_after : ℕ → Result Standing LinkFault → List Value
units_after peer (Ok link) = written_by peer (handed_out link)
units_after peer (Err fault) = []

abbrev pub whole_after : Result Standing LinkFault → List (List ℕ)
whole_after (Ok link) = take 1 link.ends.joining.whole
whole_after (Err fault) = []

-- units are written, a TSDU is reported, or octets of an unfinished one are kept
unfoldable pub link_grows : ℕ → Standing → Result Standing LinkFault → Bool
link_grows peer old taken =
    nat_lt 0 (length (units_after peer taken))
    || (nat_lt 0 (length (whole_after taken)) || nat_lt (length old.ends.joining.begun) (length (link_after old taken).ends.joining.begun))

-- the result of handing a unit to the link of the connection with this reference
abbrev pub StepsTo : Step → ℕ → Value → Rows Connection → Result Standing LinkFault → Type 0
StepsTo NotOpen r unit live taken = peer_in (value_at r live) ≡ None
StepsTo (Took handed) r unit live taken =
    (is_some (peer_in (value_at r live)) ≡ true) × IsOk taken × (option_to_list (tsdu_handed (user_of unit) handed) ≡ whole_after taken)
StepsTo (Broke place peer fault) r unit live taken =
    (place_of r live ≡ Some place) × (peer_in (value_at r live) ≡ Some peer) × (taken ≡ Err fault)
