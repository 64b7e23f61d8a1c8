-- The values of the parameters in memory.
use Rattle.std.specs.Prelude.{ℕ, ◌+◌, length, nat_lt, ◌&&◌, Bool, true, false, List, [], ◌∷◌, Option, Some, None, option_map, get_or, set, if◌then◌else◌}
use Rattle.osi_spdu.specs.declared.codes.Code.{Code}
use Rattle.osi_spdu.specs.declared.codes.Code.TheVariants.{ConnectionIdentifier, ConnectAcceptItem, CalledReference, CallingReference, CommonReference, AdditionalReference, SyncType, TokenItem, TransportDisconnect, ProtocolOptions, UserRequirements, TsduMaximumSize, Version, InitialNumber, Enclosure, TokenSetting, ResyncType, Number, Reflect, Reason, CallingSelector, CalledSelector, UserData, ExtendedUserData}
use Rattle.osi_spdu.specs.declared.params.Params.{Params}
use Rattle.osi_spdu.specs.Values.{digits_of}
use Rattle.osi_spdu.specs.Fields.{octet_list, sync_octet, token_octets, tokens_alone, requirement_octets, size_octets, enclosure_octet, setting_octets, resync_octet, reason_octets}
use Rattle.osi_spdu.specs.Known.{Known, settled}

-- the place of a code in the order of all codes
unfoldable pub place_of : Code → ℕ
place_of ConnectionIdentifier = 0
place_of ConnectAcceptItem = 1
place_of CalledReference = 2
place_of CallingReference = 3
place_of CommonReference = 4
place_of AdditionalReference = 5
place_of SyncType = 6
place_of TokenItem = 7
place_of TransportDisconnect = 8
place_of ProtocolOptions = 9
place_of UserRequirements = 10
place_of TsduMaximumSize = 11
place_of Version = 12
place_of InitialNumber = 13
place_of Enclosure = 14
place_of TokenSetting = 15
place_of ResyncType = 16
place_of Number = 17
place_of Reflect = 18
place_of Reason = 19
place_of CallingSelector = 20
place_of CalledSelector = 21
place_of UserData = 22
place_of ExtendedUserData = 23

abbrev pub present : Bool → Option (List ℕ)
present there = if there then Some [] else None

-- the value of each parameter in its written form, by its place
unfoldable pub cells_of : Params → List (Option (List ℕ))
cells_of p =
    (present p.connection_identifier) ∷
    (present p.connect_accept_item) ∷
    (option_map (λ s. s.now) p.called_reference) ∷
    (option_map (λ s. s.now) p.calling_reference) ∷
    (option_map (λ s. s.now) p.common_reference) ∷
    (option_map (λ s. s.now) p.additional_reference) ∷
    (option_map (λ s. sync_octet s ∷ []) p.sync_type) ∷
    (option_map token_octets p.token_item) ∷
    (option_map octet_list p.transport_disconnect) ∷
    (option_map octet_list p.protocol_options) ∷
    (option_map requirement_octets p.user_requirements) ∷
    (option_map size_octets p.tsdu_maximum_size) ∷
    (option_map octet_list p.version) ∷
    (option_map (λ s. digits_of s.number) p.initial_number) ∷
    (option_map (λ e. enclosure_octet e ∷ []) p.enclosure) ∷
    (option_map setting_octets p.token_setting) ∷
    (option_map (λ r. resync_octet r ∷ []) p.resync_type) ∷
    (option_map (λ s. digits_of s.number) p.number) ∷
    (option_map (λ s. s.now) p.reflect) ∷
    (option_map reason_octets p.reason) ∷
    (option_map (λ s. s.octets.now) p.calling_selector) ∷
    (option_map (λ s. s.octets.now) p.called_selector) ∷
    (option_map (λ s. s.now) p.user_data) ∷
    []

-- the same with one more value, if there is one
abbrev pub filled : List (Option (List ℕ)) → ℕ → Option (List ℕ) → List (Option (List ℕ))
filled cells place None = cells
filled cells place (Some value) = set cells place (Some value)

-- the value of each parameter, empty user data included
unfoldable pub slots_of : Params → Known
slots_of p = λ c. get_or (cells_of p) (place_of c) None

-- the value of each parameter
unfoldable pub known_of : Params → Known
known_of p = settled (slots_of p)

abbrev pub has_octets : Option (List ℕ) → Bool
has_octets None = true
has_octets (Some value) = nat_lt 0 (length value)

-- no ignored bit is kept, and empty user data counts as none
unfoldable pub is_settled : Params → Bool
is_settled p = tokens_alone p.token_item && has_octets (option_map (λ s. s.now) p.user_data)

-- no parameter
abbrev pub no_params : Params
no_params = record {
  connection_identifier = false;
  connect_accept_item = false;
  called_reference = None;
  calling_reference = None;
  common_reference = None;
  additional_reference = None;
  sync_type = None;
  token_item = None;
  transport_disconnect = None;
  protocol_options = None;
  user_requirements = None;
  tsdu_maximum_size = None;
  version = None;
  initial_number = None;
  enclosure = None;
  token_setting = None;
  resync_type = None;
  number = None;
  reflect = None;
  reason = None;
  calling_selector = None;
  called_selector = None;
  user_data = None;
}

abbrev pub count_of : Option (List ℕ) → ℕ
count_of None = 0
count_of (Some value) = length value

-- the number of octets of the values of variable length
abbrev pub lent_len : Params → ℕ
lent_len p =
    count_of (option_map (λ s. s.now) p.called_reference) + count_of (option_map (λ s. s.now) p.calling_reference)
    + count_of (option_map (λ s. s.now) p.common_reference) + count_of (option_map (λ s. s.now) p.additional_reference)
    + count_of (option_map (λ s. s.now) p.reflect) + count_of (option_map reason_octets p.reason) + count_of (option_map (λ s. s.now) p.user_data)
