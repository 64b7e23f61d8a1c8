-- The parameters of the units that a session sends, X.225 section 8.
use Rattle.std.specs.Prelude.{ℕ, true, List, [], Option, Some}
use Rattle.std.specs.Borrow.{Bor}
use Rattle.osi_spdu.specs.declared.kinds.Kind.{Kind}
use Rattle.osi_spdu.specs.declared.making.Terms.{Terms}
use Rattle.osi_spdu.specs.declared.params.Params.{Params}
use Rattle.osi_spdu.specs.declared.fields.Reason.{Reason}
use Rattle.osi_spdu.specs.declared.fields.SyncType.{SyncType}
use Rattle.osi_spdu.specs.declared.fields.SyncType.TheVariants.{Open}
use Rattle.osi_spdu.specs.declared.fields.ResyncType.{ResyncType}
use Rattle.osi_spdu.specs.declared.selectors.Selector.{Selector}
use Rattle.osi_spdu.specs.declared.serials.Serial.{Serial}
use Rattle.osi_spdu.specs.declared.settings.TokenSetting.{TokenSetting}
use Rattle.osi_spdu.specs.declared.tokens.TokenSet.{TokenSet}
use Rattle.osi_spdu.specs.Known.{Contents}
use Rattle.osi_spdu.specs.Sizes.{written_sizes}
use Rattle.osi_spdu.specs.Params.{no_params, known_of}

-- a unit with these parameters, and no user information
abbrev pub made : Kind → Params → Contents
made kind params = record { kind = kind; known = known_of params; information = [] }

-- CN: version 2, extended concatenation supported, and the terms and selectors
abbrev pub connect_params : Terms → Option Selector → Option Selector → Bor (List ℕ) → Params
connect_params terms calling_selector called_selector user_data = record no_params {
  connect_accept_item = true;
  protocol_options = Some 1;
  version = Some 2;
  initial_number = terms.initial_number;
  token_setting = Some terms.token_setting;
  user_requirements = Some terms.user_requirements;
  tsdu_maximum_size = written_sizes terms.tsdu_maximum_size;
  calling_selector = calling_selector;
  called_selector = called_selector;
  user_data = Some user_data;
}

-- AC, with the same terms
abbrev pub accept_params : Terms → Bor (List ℕ) → Params
accept_params terms user_data = record no_params {
  connect_accept_item = true;
  protocol_options = Some 1;
  version = Some 2;
  initial_number = terms.initial_number;
  token_setting = Some terms.token_setting;
  user_requirements = Some terms.user_requirements;
  tsdu_maximum_size = written_sizes terms.tsdu_maximum_size;
  user_data = Some user_data;
}

-- RF: the transport connection is released (parameter 17 is 01)
abbrev pub refuse_params : Reason → Params
refuse_params reason = record no_params { transport_disconnect = Some 1; reason = Some reason }

-- FN, DN and NF: only user data
abbrev pub data_params : Bor (List ℕ) → Params
data_params user_data = record no_params { user_data = Some user_data }

-- AB
abbrev pub abort_params : ℕ → Bor (List ℕ) → Params
abort_params bits user_data = record no_params { transport_disconnect = Some bits; user_data = Some user_data }

-- GT
abbrev pub give_tokens_params : Option TokenSet → Params
give_tokens_params tokens = record no_params { token_item = tokens }

-- PT
abbrev pub please_tokens_params : Option TokenSet → Bor (List ℕ) → Params
please_tokens_params tokens user_data = record no_params { token_item = tokens; user_data = Some user_data }

-- MIP
abbrev pub minor_point_params : Option SyncType → Serial → Bor (List ℕ) → Params
minor_point_params sync_type number user_data = record no_params {
  sync_type = sync_type;
  number = Some number;
  user_data = Some user_data;
}

-- MIA and MAA
abbrev pub ack_params : Serial → Bor (List ℕ) → Params
ack_params number user_data = record no_params { number = Some number; user_data = Some user_data }

-- MAP: parameter 15 is 01
abbrev pub major_point_params : Serial → Bor (List ℕ) → Params
major_point_params number user_data = record no_params {
  sync_type = Some Open;
  number = Some number;
  user_data = Some user_data;
}

-- RS
abbrev pub resynchronize_params : TokenSetting → ResyncType → Serial → Bor (List ℕ) → Params
resynchronize_params token_setting resync_type number user_data = record no_params {
  token_setting = Some token_setting;
  resync_type = Some resync_type;
  number = Some number;
  user_data = Some user_data;
}

-- RA
abbrev pub resynchronize_ack_params : TokenSetting → Serial → Bor (List ℕ) → Params
resynchronize_ack_params token_setting number user_data = record no_params {
  token_setting = Some token_setting;
  number = Some number;
  user_data = Some user_data;
}
