-- The indications of a user; tokens by their octet.
use Rattle.osi_spdu.specs.Fields.{bits_of, unit_bits}
use Rattle.std.specs.Prelude.{ℕ, Bool, true, false, List, [], ◌∷◌, Option}
use Rattle.osi_spdu.specs.declared.settings.TokenSetting.{TokenSetting}
use Rattle.osi_spdu.specs.declared.fields.TsduMaximumSize.{TsduMaximumSize}
use Rattle.osi_session.specs.declared.sides.Sides.{Sides}
use Rattle.osi_session.specs.declared.faults.UnitFault.{UnitFault}
use Rattle.osi_session.specs.declared.indications.Indication.{Indication}
use Rattle.osi_session.specs.declared.indications.Indication.TheVariants as indication
use Rattle.osi_session.specs.declared.indications.AbortCause.{AbortCause}
use Rattle.osi_session.specs.declared.indications.AbortCause.TheVariants as cause

pub data Shown : Type 0 where
  Connect : (requirements : ℕ) (serial : Option ℕ) (wishes : TokenSetting) (sizes : TsduMaximumSize) (octets : List ℕ) → Shown
  Connected : (requirements : ℕ) (serial : Option ℕ) (sides : Sides) (sizes : TsduMaximumSize) (octets : List ℕ) → Shown
  RefusedByTransport : (reason : ℕ) → Shown
  RefusedBySession : (reason : ℕ) (octets : List ℕ) → Shown
  Data : (octets : List ℕ) → Shown
  Given : (tokens : ℕ) → Shown
  Asked : (tokens : ℕ) (octets : List ℕ) → Shown
  Minor : (number : ℕ) (confirm : Bool) (octets : List ℕ) → Shown
  MinorConfirmed : (number : ℕ) (octets : List ℕ) → Shown
  Major : (number : ℕ) (octets : List ℕ) → Shown
  MajorConfirmed : (octets : List ℕ) → Shown
  Restart : (number : ℕ) (wishes : TokenSetting) (octets : List ℕ) → Shown
  Restarted : (number : ℕ) (sides : Sides) (octets : List ℕ) → Shown
  Release : (octets : List ℕ) → Shown
  Released : (octets : List ℕ) → Shown
  ReleaseRefused : (octets : List ℕ) → Shown
  Aborted : (octets : List ℕ) → Shown
  Lost : Shown
  PeerAbort : (bits : ℕ) → Shown
  BadUnit : UnitFault → Shown

abbrev pub abort_shown : AbortCause → Shown
abort_shown cause.Lost = Lost
abort_shown (cause.Peer bits) = PeerAbort bits
abort_shown (cause.Unit fault) = BadUnit fault

-- an indication in memory
abbrev pub shown_by : Indication → Shown
shown_by (indication.Connect requirements serial wishes sizes octets) = Connect (unit_bits requirements) serial wishes sizes octets
shown_by (indication.Connected requirements serial sides sizes octets) = Connected (unit_bits requirements) serial sides sizes octets
shown_by (indication.RefusedByTransport reason) = RefusedByTransport reason
shown_by (indication.RefusedBySession reason octets) = RefusedBySession reason octets
shown_by (indication.Data octets) = Data octets
shown_by (indication.Given tokens) = Given (bits_of tokens)
shown_by (indication.Asked tokens octets) = Asked (bits_of tokens) octets
shown_by (indication.Minor number confirm octets) = Minor number confirm octets
shown_by (indication.MinorConfirmed number octets) = MinorConfirmed number octets
shown_by (indication.Major number octets) = Major number octets
shown_by (indication.MajorConfirmed octets) = MajorConfirmed octets
shown_by (indication.Restart number wishes octets) = Restart number wishes octets
shown_by (indication.Restarted number sides octets) = Restarted number sides octets
shown_by (indication.Release octets) = Release octets
shown_by (indication.Released octets) = Released octets
shown_by (indication.ReleaseRefused octets) = ReleaseRefused octets
shown_by (indication.Aborted octets) = Aborted octets
shown_by (indication.ProviderAbort cause) = abort_shown cause

-- the user is told that a connection is requested
abbrev pub is_connect : Shown → Bool
is_connect (Connect requirements serial wishes sizes octets) = true
is_connect _ = false

-- and this is the first indication
abbrev pub shows_connect : List Shown → Bool
shows_connect [] = false
shows_connect (shown ∷ more) = is_connect shown
