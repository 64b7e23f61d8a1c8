-- Requests of users, and copies of them in memory.
use Rattle.std.specs.Prelude.{◌≡◌, ◌<◌, ℕ, true, List, [], Option, option_map, IfSome}
use Rattle.osi_unit.specs.Octets.{IsOctets}
use Rattle.osi_between.specs.Course.{IsTsap}
use Rattle.osi_message.specs.Tokens.{named}
use Rattle.osi_spdu.specs.Fields.{bits_of, unit_bits}
use Rattle.osi_spdu.specs.Sizes.{named_by, are_sizes}
use Rattle.osi_spdu.specs.declared.fields.TsduMaximumSize.{TsduMaximumSize}
use Rattle.osi_spdu.specs.declared.settings.TokenSetting.{TokenSetting}
use Rattle.osi_tpdu.specs.Limits.{tsap_octets}
use Rattle.osi_session.specs.Calls.{Call}
use Rattle.osi_session.specs.Calls as call
use Rattle.osi_stack.specs.Calls.{calling_octets, called_octets}
use Rattle.osi_stack.specs.declared.connecting.Connect.{Connect}
use Rattle.osi_pair.specs.declared.owned.OwnedConnect.{OwnedConnect}
use Rattle.osi_pair.specs.declared.owned.OwnedRefusal.{OwnedRefusal}
use Rattle.osi_pair.specs.declared.owned.OwnedRefusal.TheVariants as reason
use Rattle.osi_pair.specs.declared.owned.OwnedRequest.{OwnedRequest}
use Rattle.osi_pair.specs.declared.owned.OwnedRequest.TheVariants as owned

-- a requested connection
pub record Asked : Type 0 where
  pub requirements : ℕ
  pub serial : ℕ
  pub wishes : TokenSetting
  pub calling_tsap : Option (List ℕ)
  pub called_tsap : Option (List ℕ)
  pub calling_selector : Option (List ℕ)
  pub called_selector : Option (List ℕ)
  pub sizes : TsduMaximumSize
  pub octets : List ℕ

abbrev pub asked_of : Connect → Asked
asked_of c = record {
  requirements = unit_bits c.requirements;
  serial = c.serial.number;
  wishes = c.wishes;
  calling_tsap = option_map tsap_octets c.calling_tsap;
  called_tsap = option_map tsap_octets c.called_tsap;
  calling_selector = calling_octets c;
  called_selector = called_octets c;
  sizes = named_by c.sizes;
  octets = c.user_data.now;
}

-- what holds of every request in memory: a number that a point may have, sizes that a user may give, and octets
pub record CanBeAsked (c : Connect) : Type 0 where
  pub serial : c.serial.number < 1000000
  pub calling : IsTsap (option_map tsap_octets c.calling_tsap)
  pub called : IsTsap (option_map tsap_octets c.called_tsap)
  pub calling_selector : IfSome (calling_octets c) IsOctets
  pub called_selector : IfSome (called_octets c) IsOctets
  pub sizes : are_sizes (named_by c.sizes) ≡ true
  pub octets : IsOctets c.user_data.now

-- a copy in memory
abbrev pub asked_by : OwnedConnect → Asked
asked_by c = record {
  requirements = unit_bits c.requirements;
  serial = c.serial.number;
  wishes = c.wishes;
  calling_tsap = option_map tsap_octets c.calling_tsap;
  called_tsap = option_map tsap_octets c.called_tsap;
  calling_selector = c.calling_selector;
  called_selector = c.called_selector;
  sizes = named_by c.sizes;
  octets = c.user_data;
}

-- the user data of a call
abbrev pub octets_of : Call → List ℕ
octets_of (call.Accept requirements serial sides sizes octets) = octets
octets_of (call.Refuse refusal) = call.refusal_octets refusal
octets_of (call.Data octets) = octets
octets_of (call.Give tokens) = []
octets_of (call.Please tokens octets) = octets
octets_of (call.Minor confirm octets) = octets
octets_of (call.MinorConfirm number octets) = octets
octets_of (call.Major octets) = octets
octets_of (call.MajorConfirm octets) = octets
octets_of (call.Restart number wishes octets) = octets
octets_of (call.RestartConfirm sides octets) = octets
octets_of (call.Release octets) = octets
octets_of (call.ReleaseAccept octets) = octets
octets_of (call.ReleaseRefuse octets) = octets
octets_of (call.Abort octets) = octets

-- a copy of a refusal in memory
abbrev pub owned_refusal : OwnedRefusal → call.Refusal
owned_refusal reason.Unspecified = call.Unspecified
owned_refusal reason.Congestion = call.Congestion
owned_refusal (reason.WithData octets) = call.WithData octets

-- a copy of a call in memory
abbrev pub owned_call : OwnedRequest → Call
owned_call (owned.Accept requirements serial sides sizes octets) = call.Accept (unit_bits requirements) serial.number sides (named_by sizes) octets
owned_call (owned.Refuse refusal) = call.Refuse (owned_refusal refusal)
owned_call (owned.Data octets) = call.Data octets
owned_call (owned.Give tokens) = call.Give (named (bits_of tokens))
owned_call (owned.Please tokens octets) = call.Please (named (bits_of tokens)) octets
owned_call (owned.Minor confirm octets) = call.Minor confirm octets
owned_call (owned.MinorConfirm number octets) = call.MinorConfirm number octets
owned_call (owned.Major octets) = call.Major octets
owned_call (owned.MajorConfirm octets) = call.MajorConfirm octets
owned_call (owned.Restart number wishes octets) = call.Restart number wishes octets
owned_call (owned.RestartConfirm sides octets) = call.RestartConfirm sides octets
owned_call (owned.Release octets) = call.Release octets
owned_call (owned.ReleaseAccept octets) = call.ReleaseAccept octets
owned_call (owned.ReleaseRefuse octets) = call.ReleaseRefuse octets
owned_call (owned.Abort octets) = call.Abort octets
