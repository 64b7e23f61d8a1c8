-- The parameters that a unit is made with are those of its meaning.
use Rattle.osi_message.proofs.Vocabulary.{bit_and, SyncType, TokenItem, TransportDisconnect, CallingSelector, CalledSelector, TokenSetting}
use Rattle.osi_message.proofs.Vocabulary.{ResyncType, TsduMaximumSize, number_of, digits_of, setting_octets, resync_octet, bits_of}
use Rattle.osi_message.proofs.Vocabulary.{unit_bits, written_sizes, nothing, put, cells_of, slots_of, known_of, no_params, Tokens}
use Rattle.osi_message.proofs.Vocabulary.{token_octet, put_some, with_data, terms, numbered, ◌≡◌, ◌∙◌, ap, ℕ, true, List, [], ◌∷◌, Option}
use Rattle.osi_message.proofs.Vocabulary.{Some, option_map, arith, Bor, Serial, Selector, TokenSet, Requirements, Open}
use Rattle.osi_spdu.specs.declared.codes.Code.TheVariants as code
use Rattle.osi_spdu.specs.declared.fields.Reason.{Reason}
use Rattle.osi_spdu.specs.Params.{place_of}
use Rattle.osi_message.proofs.the_octet_of_a_set_of_tokens.{octet_kept}

same_serial : (serial : Option Serial) →
    option_map (λ s. digits_of s.number) serial ≡ option_map digits_of (option_map (λ s. s.number) serial)
same_serial serial = grind arith

abbrev serial_number : Option Serial → Option ℕ
serial_number serial = option_map (λ s. s.number) serial

abbrev selector_octets : Option Selector → Option (List ℕ)
selector_octets selector = option_map (λ s. s.octets.now) selector

pub connect_known : (serial : Option Serial) (setting : TokenSetting) (requirements : Requirements) (calling called : Option Selector)
    (sizes : TsduMaximumSize) (octets : Bor (List ℕ)) →
    known_of (record no_params {
      connect_accept_item = true;
      protocol_options = Some 1;
      version = Some 2;
      initial_number = serial;
      token_setting = Some setting;
      user_requirements = Some requirements;
      tsdu_maximum_size = written_sizes sizes;
      calling_selector =
          calling;
      called_selector = called;
      user_data = Some octets;
    }) ≡ with_data octets.now
    (put_some CallingSelector (selector_octets calling)
    (put_some CalledSelector (selector_octets called) (terms (serial_number serial) setting (unit_bits requirements) sizes)))
unfolding known_of slots_of cells_of place_of number_of
connect_known serial setting requirements calling called sizes octets = grind (arith, same_serial)

pub accept_known : (serial : Option Serial) (setting : TokenSetting) (requirements : Requirements) (sizes : TsduMaximumSize)
    (octets : Bor (List ℕ)) →
    known_of (record no_params {
      connect_accept_item = true;
      protocol_options = Some 1;
      version = Some 2;
      initial_number = serial;
      token_setting = Some setting;
      user_requirements = Some requirements;
      tsdu_maximum_size = written_sizes sizes;
      user_data =
          Some octets;
    }) ≡ with_data octets.now (terms (serial_number serial) setting (unit_bits requirements) sizes)
unfolding known_of slots_of cells_of place_of number_of
accept_known serial setting requirements sizes octets = grind (arith, same_serial)

pub refuse_known : (why : Reason) →
    known_of (record no_params { transport_disconnect = Some 1; reason = Some why }) ≡ put TransportDisconnect (1 ∷ [])
    (put code.Reason (why.code ∷ why.data_octets.now) nothing)
unfolding known_of slots_of cells_of place_of number_of
refuse_known why = grind arith

pub data_known : (octets : Bor (List ℕ)) →
    known_of (record no_params { user_data = Some octets }) ≡ with_data octets.now nothing
unfolding known_of slots_of cells_of place_of number_of
data_known octets = grind arith

pub abort_known : (bits : ℕ) (octets : Bor (List ℕ)) →
    known_of (record no_params { transport_disconnect = Some bits; user_data = Some octets }) ≡ with_data octets.now
    (put TransportDisconnect (bits ∷ []) nothing)
unfolding known_of slots_of cells_of place_of number_of
abort_known bits octets = grind arith

pub please_known : (tokens : TokenSet) (octets : Bor (List ℕ)) →
    known_of (record no_params { token_item = Some tokens; user_data = Some octets }) ≡ with_data octets.now
    (put TokenItem (bit_and (bits_of tokens) 85 ∷ []) nothing)
unfolding known_of slots_of cells_of place_of number_of
please_known tokens octets = grind arith

pub give_known : (tokens : TokenSet) →
    known_of (record no_params { token_item = Some tokens }) ≡ put TokenItem (bit_and (bits_of tokens) 85 ∷ []) nothing
unfolding known_of slots_of cells_of place_of number_of
give_known tokens = grind arith

pub none_known : known_of no_params ≡ nothing
unfolding known_of slots_of cells_of place_of number_of
none_known = grind arith

pub number_known : (n : Serial) (octets : Bor (List ℕ)) →
    known_of (record no_params { number = Some n; user_data = Some octets }) ≡ with_data octets.now (numbered n.number)
unfolding known_of slots_of cells_of place_of number_of
number_known n octets = grind arith

pub open_known : (n : Serial) (octets : Bor (List ℕ)) →
    known_of (record no_params { sync_type = Some Open; number = Some n; user_data = Some octets }) ≡ with_data octets.now
    (put SyncType (1 ∷ []) (numbered n.number))
unfolding known_of slots_of cells_of place_of number_of
open_known n octets = grind arith

pub restart_known : (setting : TokenSetting) (kind : ResyncType) (n : Serial) (octets : Bor (List ℕ)) →
    known_of (record no_params { token_setting = Some setting; resync_type = Some kind; number = Some n; user_data = Some octets }) ≡
    with_data octets.now
    (put code.TokenSetting (setting_octets setting) (put code.ResyncType (resync_octet kind ∷ []) (numbered n.number)))
unfolding known_of slots_of cells_of place_of number_of
restart_known setting kind n octets = grind arith

pub restart_ack_known : (setting : TokenSetting) (n : Serial) (octets : Bor (List ℕ)) →
    known_of (record no_params { token_setting = Some setting; number = Some n; user_data = Some octets }) ≡ with_data octets.now
    (put code.TokenSetting (setting_octets setting) (numbered n.number))
unfolding known_of slots_of cells_of place_of number_of
restart_ack_known setting n octets = grind arith

-- a set of tokens with this octet is written as this octet
pub set_kept : (set : TokenSet) (t : Tokens) → (bits_of set) ≡ token_octet t → bit_and (bits_of set) 85 ≡ token_octet t
set_kept set t e = ap (λ (n : ℕ). bit_and n 85) e ∙ octet_kept t
