-- The calls of a user.
use Rattle.osi_spdu.specs.Fields.{bits_of, unit_bits}
use Rattle.osi_spdu.specs.Sizes.{named_by, are_sizes}
use Rattle.std.specs.Prelude.{◌≡◌, ℕ, ◌<◌, Bool, true, List, [], ◌∷◌}
use Rattle.osi_spdu.specs.declared.fields.TsduMaximumSize.{TsduMaximumSize}
use Rattle.osi_spdu.specs.declared.settings.TokenSetting.{TokenSetting}
use Rattle.osi_session.specs.declared.sides.Sides.{Sides}
use Rattle.osi_message.specs.declared.tokens.Tokens.{Tokens}
use Rattle.osi_session.specs.declared.requests.Refusal as memory
use Rattle.osi_session.specs.declared.requests.Refusal.TheVariants as reason
use Rattle.osi_session.specs.declared.requests.Request.{Request}
use Rattle.osi_session.specs.declared.requests.Request.TheVariants as request
use Rattle.osi_message.specs.Tokens.{named}

-- why a user refuses: without a reason, because of temporary congestion, or with user data (X.225 section 8.3.5)
pub data Refusal : Type 0 where
  Unspecified : Refusal
  Congestion : Refusal
  WithData : (octets : List ℕ) → Refusal

-- the octet of the reason
abbrev pub refusal_reason : Refusal → ℕ
refusal_reason Unspecified = 0
refusal_reason Congestion = 1
refusal_reason (WithData octets) = 2

-- the user data that follows it
abbrev pub refusal_octets : Refusal → List ℕ
refusal_octets (WithData octets) = octets
refusal_octets _ = []

-- the refusal with this user data, or without a reason if there is none
abbrev pub refusal_with : List ℕ → Refusal
refusal_with [] = Unspecified
refusal_with (b ∷ octets) = WithData (b ∷ octets)

pub data Call : Type 0 where
  Accept : (requirements serial : ℕ) (sides : Sides) (sizes : TsduMaximumSize) (octets : List ℕ) → Call
  Refuse : (refusal : Refusal) → Call
  Data : (octets : List ℕ) → Call
  Give : (tokens : Tokens) → Call
  Please : (tokens : Tokens) (octets : List ℕ) → Call
  Minor : (confirm : Bool) (octets : List ℕ) → Call
  MinorConfirm : (number : ℕ) (octets : List ℕ) → Call
  Major : (octets : List ℕ) → Call
  MajorConfirm : (octets : List ℕ) → Call
  Restart : (number : ℕ) (wishes : TokenSetting) (octets : List ℕ) → Call
  RestartConfirm : (sides : Sides) (octets : List ℕ) → Call
  Release : (octets : List ℕ) → Call
  ReleaseAccept : (octets : List ℕ) → Call
  ReleaseRefuse : (octets : List ℕ) → Call
  Abort : (octets : List ℕ) → Call

-- a refusal and a call in memory
abbrev pub refusal_by : memory.Refusal → Refusal
refusal_by reason.Unspecified = Unspecified
refusal_by reason.Congestion = Congestion
refusal_by (reason.WithData data_octets) = WithData data_octets.now

abbrev pub called_by : Request → Call
called_by (request.Accept requirements serial sides sizes data_octets) = Accept (unit_bits requirements) serial.number sides (named_by sizes) data_octets.now
called_by (request.Refuse refusal) = Refuse (refusal_by refusal)
called_by (request.Data data_octets) = Data data_octets.now
called_by (request.Give tokens) = Give (named (bits_of tokens))
called_by (request.Please tokens data_octets) = Please (named (bits_of tokens)) data_octets.now
called_by (request.Minor confirm data_octets) = Minor confirm data_octets.now
called_by (request.MinorConfirm number data_octets) = MinorConfirm number data_octets.now
called_by (request.Major data_octets) = Major data_octets.now
called_by (request.MajorConfirm data_octets) = MajorConfirm data_octets.now
called_by (request.Restart number wishes data_octets) = Restart number wishes data_octets.now
called_by (request.RestartConfirm sides data_octets) = RestartConfirm sides data_octets.now
called_by (request.Release data_octets) = Release data_octets.now
called_by (request.ReleaseAccept data_octets) = ReleaseAccept data_octets.now
called_by (request.ReleaseRefuse data_octets) = ReleaseRefuse data_octets.now
called_by (request.Abort data_octets) = Abort data_octets.now

-- the number of an Accept is one that a point may have, and its sizes are such
abbrev pub HasSerial : Call → Type 0
HasSerial (Accept requirements serial sides sizes octets) = (serial < 1000000) × (are_sizes sizes ≡ true)
HasSerial _ = Unit {0}
