-- The CN of a caller.
use Rattle.osi_spdu.specs.Fields.{unit_bits}
use Rattle.osi_spdu.specs.Sizes.{named_by}
use Rattle.std.specs.Prelude.{ℕ, true, Option}
use Rattle.osi_spdu.specs.declared.settings.TokenSetting.{TokenSetting}
use Rattle.osi_message.specs.Meanings.{Meaning, CN, selector_octets}
use Rattle.osi_session.specs.declared.opening.Opening.{Opening}
use Rattle.osi_session.specs.Units.{functional_units}
use Rattle.osi_session.specs.Sides.{offered}
use Rattle.osi_session.specs.Allowed.{serial_for}

-- the number of the first point and the wishes that a caller offers
abbrev pub offered_serial : Opening → Option ℕ
offered_serial o = serial_for (functional_units (unit_bits o.requirements)) o.serial.number

abbrev pub offered_wishes : Opening → TokenSetting
offered_wishes o = offered (functional_units (unit_bits o.requirements)) o.wishes

-- the contents of a caller's CN
abbrev pub asked_for : Opening → Meaning
asked_for o = CN true (unit_bits o.requirements) (offered_serial o) (offered_wishes o)
    (selector_octets o.calling_selector) (selector_octets o.called_selector) (named_by o.sizes) o.user_data.now
