-- The meaning of a session unit.
use Rattle.osi_spdu.specs.Fields.{unit_bits}
use Rattle.std.specs.Prelude.{ℕ, Bool, List, Option, option_map}
use Rattle.osi_spdu.specs.declared.settings.TokenSetting.{TokenSetting}
use Rattle.osi_spdu.specs.declared.fields.ResyncType.{ResyncType}
use Rattle.osi_spdu.specs.declared.fields.TsduMaximumSize.{TsduMaximumSize}
use Rattle.osi_spdu.specs.declared.selectors.Selector.{Selector}
use Rattle.osi_message.specs.declared.tokens.Tokens.{Tokens}
use Rattle.osi_message.specs.declared.messages.Message.{Message}
use Rattle.osi_message.specs.declared.messages.Message.TheVariants as message

-- a unit with the fields that have a meaning here
pub data Meaning : Type 0 where
  CN : (version_2 : Bool) (requirements : ℕ) (serial : Option ℕ) (wishes : TokenSetting) (calling called : Option (List ℕ)) (sizes : TsduMaximumSize) (octets : List ℕ) → Meaning
  AC : (version_2 : Bool) (requirements : ℕ) (serial : Option ℕ) (sides : TokenSetting) (sizes : TsduMaximumSize) (octets : List ℕ) → Meaning
  RF : (reason : ℕ) (octets : List ℕ) → Meaning
  DT : (octets : List ℕ) → Meaning
  GT : (tokens : Tokens) → Meaning
  PT : (tokens : Tokens) (octets : List ℕ) → Meaning
  MIP : (confirm : Bool) (number : ℕ) (octets : List ℕ) → Meaning
  MIA : (number : ℕ) (octets : List ℕ) → Meaning
  MAP : (number : ℕ) (octets : List ℕ) → Meaning
  MAA : (number : ℕ) (octets : List ℕ) → Meaning
  RS : (kind : ResyncType) (number : ℕ) (wishes : TokenSetting) (octets : List ℕ) → Meaning
  RA : (number : ℕ) (sides : TokenSetting) (octets : List ℕ) → Meaning
  FN : (octets : List ℕ) → Meaning
  DN : (octets : List ℕ) → Meaning
  NF : (octets : List ℕ) → Meaning
  AB : (bits : ℕ) (octets : List ℕ) → Meaning
  AA : Meaning

-- the octets of a selector in memory
abbrev pub selector_octets : Option Selector → Option (List ℕ)
selector_octets selector = option_map (λ s. s.octets.now) selector

-- what a unit in memory means
abbrev pub meant_by : Message → Meaning
meant_by (message.Connect version_2 requirements serial wishes calling called sizes data_octets) =
    CN version_2 (unit_bits requirements) (option_map (λ s. s.number) serial) wishes (selector_octets calling) (selector_octets called) sizes data_octets.now
meant_by (message.Accept version_2 requirements serial sides sizes data_octets) =
    AC version_2 (unit_bits requirements) (option_map (λ s. s.number) serial) sides sizes data_octets.now
meant_by (message.Refuse reason data_octets) = RF reason data_octets.now
meant_by (message.Data data_octets) = DT data_octets.now
meant_by (message.Give tokens) = GT tokens
meant_by (message.Please tokens data_octets) = PT tokens data_octets.now
meant_by (message.MinorPoint confirm number data_octets) = MIP confirm number.number data_octets.now
meant_by (message.MinorAck number data_octets) = MIA number.number data_octets.now
meant_by (message.MajorPoint number data_octets) = MAP number.number data_octets.now
meant_by (message.MajorAck number data_octets) = MAA number.number data_octets.now
meant_by (message.Restart kind number wishes data_octets) = RS kind number.number wishes data_octets.now
meant_by (message.RestartAck number sides data_octets) = RA number.number sides data_octets.now
meant_by (message.Finish data_octets) = FN data_octets.now
meant_by (message.Disconnect data_octets) = DN data_octets.now
meant_by (message.NotFinished data_octets) = NF data_octets.now
meant_by (message.Abort bits data_octets) = AB bits data_octets.now
meant_by message.AbortAccept = AA
