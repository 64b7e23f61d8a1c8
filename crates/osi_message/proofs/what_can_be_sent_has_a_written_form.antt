-- What can be sent has a written form.
use Rattle.osi_message.proofs.Vocabulary.{le-leb, Code, ConnectAcceptItem, SyncType, TokenItem, TransportDisconnect, ProtocolOptions}
use Rattle.osi_message.proofs.Vocabulary.{Number, Reason, CallingSelector, CalledSelector, UserData, ExtendedUserData, ResyncType}
use Rattle.osi_message.proofs.Vocabulary.{TsduMaximumSize, GiveTokens, TokenSetting, number_of, is_same, category_of, codes_of, members_of}
use Rattle.osi_message.proofs.Vocabulary.{required_of, may_stand, digits_of, canonical, wish_number, size_octets, setting_octets}
use Rattle.osi_message.proofs.Vocabulary.{resync_octet, written_sizes, Known, Contents, nothing, put, some_octets, HasInformation}
use Rattle.osi_message.proofs.Vocabulary.{MayFollow, StandTogether, IsCanonical, IsFormedUnit, IsFormedTsdu, UnitFits, TsduFits, free_len}
use Rattle.osi_message.proofs.Vocabulary.{is_formed, Tokens, token_octet, Meaning, CN, AC, RF, GT, PT, MIP, MIA, MAP, MAA, RS, RA, FN, DN}
use Rattle.osi_message.proofs.Vocabulary.{NF, AB, IsSmall, IsNumbered, IsAddress, IsAddressed, put_some, with_data, terms, numbered}
use Rattle.osi_message.proofs.Vocabulary.{sync_type, unit_with, unit_of, is_second, user_data_of, alone_units, behind_tokens, spelled}
use Rattle.osi_message.proofs.Vocabulary.{connect_unit, ◌≡◌, ◌∙◌, refl, sym, ap, subst, ℕ, ◌+◌, ◌<◌, ◌≤◌, Bool, true, false, cond, List, []}
use Rattle.osi_message.proofs.Vocabulary.{◌∷◌, length, Option, Some, option_map, if◌then◌else◌, arith, Category, Two, same_true}
use Rattle.osi_spdu.specs.declared.codes.Code.TheVariants as code
use Rattle.osi_message.proofs.a_field_reads_back.{pairs_again, wish_small}
use Rattle.osi_message.proofs.what_is_written_means_it.{HaveDigits}
use Rattle.osi_message.proofs.the_octet_of_a_set_of_tokens.{octet_kept}

-- a unit whose values of variable length have few octets has a written form
abbrev pub HaveRoom : Type 0
HaveRoom = (unit : Contents) → IsCanonical unit.known → free_len unit.known ≤ 65000 → UnitFits unit

-- ---- each value is in its written form

pub no_value : IsCanonical nothing
no_value = record { values = λ c v e. absurd cc; slots = refl; data_there = λ e. cc }

-- a value that may be there, in its written form
abbrev IsGood : Code → Option (List ℕ) → Type 0
IsGood slot value = (v : List ℕ) → value ≡ Some v → canonical slot v ≡ Some v

one_good : (slot : Code) (value : List ℕ) → canonical slot value ≡ Some value → IsGood slot (Some value)
one_good slot value h v e = let same : value ≡ v = cc in subst (λ (x : List ℕ). canonical slot x ≡ Some x) same h

some_values : (b : Bool) (slot c : Code) (value : Option (List ℕ)) (v : List ℕ) (known : Known) → is_same c slot ≡ b → IsGood slot value
    → (known c ≡ Some v → canonical c v ≡ Some v) → cond b value (known c) ≡ Some v → canonical c v ≡ Some v
some_values b slot c value v known s good is e = search (arith, same_true)

with_some : (slot : Code) (value : Option (List ℕ)) (known : Known) → IsGood slot value → is_same ExtendedUserData slot ≡ false →
    is_same UserData slot ≡ false
    → IsCanonical known → IsCanonical (put_some slot value known)
with_some slot value known good x u is = record {
  values = λ c v e. some_values (is_same c slot) slot c value v known refl good (is.values c v) e;
  slots = ap (λ (b : Bool). cond b value (known ExtendedUserData)) x ∙ is.slots;
  data_there = λ e. is.data_there (sym (ap (λ (b : Bool). cond b value (known UserData)) u) ∙ e);
}

pub with_one : (slot : Code) (value : List ℕ) (known : Known) → canonical slot value ≡ Some value → is_same ExtendedUserData slot ≡ false →
    is_same UserData slot ≡ false
    → IsCanonical known → IsCanonical (put slot value known)
with_one slot value known good x u is = with_some slot (Some value) known (one_good slot value good) x u is

data_values : (b : Bool) (c : Code) (octets v : List ℕ) (known : Known) → is_same c UserData ≡ b
    → (known c ≡ Some v → canonical c v ≡ Some v) →
    cond b (some_octets (cond b (Some octets) (known c))) (cond b (Some octets) (known c)) ≡ Some v → canonical c v ≡ Some v
unfolding canonical
data_values b c octets v known s is e = search (arith, same_true)

data_there : (octets : List ℕ) → some_octets (Some octets) ≡ Some [] → ⊥
data_there octets e = grind arith

with_user_data : (octets : List ℕ) (known : Known) → IsCanonical known → IsCanonical (with_data octets known)
unfolding number_of
with_user_data octets known h0 = grind (arith, data_values, data_there)

-- ---- the values

number_good : HaveDigits → (n : ℕ) → n ≤ 999999 → canonical Number (digits_of n) ≡ Some (digits_of n)
unfolding canonical
number_good digits n small = ap (option_map digits_of) (digits n small)

setting_good : (s : TokenSetting) → canonical code.TokenSetting (setting_octets s) ≡ Some (setting_octets s)
unfolding canonical
setting_good s =
    let e = pairs_again (wish_number s.data_token) (wish_number s.minor) (wish_number s.major) (wish_number s.release)
    (wish_small s.data_token) (wish_small s.minor) (wish_small s.major) (wish_small s.release) in
    grind arith

sizes_good : (sizes : TsduMaximumSize) → IsGood code.TsduMaximumSize (option_map size_octets (written_sizes sizes))
unfolding canonical
sizes_good sizes = grind (arith, one_good)

resync_good : (kind : ResyncType) → canonical code.ResyncType (resync_octet kind ∷ []) ≡ Some (resync_octet kind ∷ [])
unfolding canonical
resync_good kind = grind arith

token_good : (tokens : Tokens) → canonical TokenItem (token_octet tokens ∷ []) ≡ Some (token_octet tokens ∷ [])
unfolding canonical
token_good tokens = ap {B = Option (List ℕ)} (λ b. Some (b ∷ [])) (octet_kept tokens)

-- ---- the parameters of each unit

calling_good : (selector : Option (List ℕ)) → IsAddress selector → IsGood CallingSelector selector
unfolding canonical
calling_good selector small v e = grind (arith, one_good, cond, le-leb)

called_good : (selector : Option (List ℕ)) → IsAddress selector → IsGood CalledSelector selector
unfolding canonical
called_good selector small v e = grind (arith, one_good, cond, le-leb)

numbered_good : HaveDigits → (n : ℕ) → n ≤ 999999 → IsCanonical (numbered n)
unfolding number_of
numbered_good digits n small = with_one Number (digits_of n) nothing (number_good digits n small) refl refl no_value

open_good : (known : Known) → IsCanonical known → IsCanonical (put SyncType (1 ∷ []) known)
unfolding canonical number_of
open_good known is = with_one SyncType (1 ∷ []) known refl refl refl is

sync_good : (confirm : Bool) (known : Known) → IsCanonical known → IsCanonical (sync_type confirm known)
sync_good true known is = is
sync_good false known is = open_good known is

terms_good : HaveDigits → (serial : Option ℕ) (setting : TokenSetting) (requirements : ℕ) (sizes : TsduMaximumSize) → IsSmall serial →
    IsCanonical (terms serial setting requirements sizes)
unfolding canonical number_of
terms_good digits serial setting requirements sizes small =
    with_one ConnectAcceptItem [] _ refl refl refl
    (with_one ProtocolOptions (1 ∷ []) _ refl refl refl
    (with_some code.TsduMaximumSize (option_map size_octets (written_sizes sizes)) _ (sizes_good sizes) refl refl
    (grind (arith, with_one, with_some, digits_of, setting_good, no_value))))

connect_good : HaveDigits →
    (requirements : ℕ) (serial : Option ℕ) (wishes : TokenSetting) (calling called : Option (List ℕ)) (sizes : TsduMaximumSize)
    (octets : List ℕ)
    → IsSmall serial → IsAddress calling → IsAddress called →
    IsCanonical (connect_unit requirements serial wishes calling called sizes octets).known
unfolding number_of
connect_good digits requirements serial wishes calling called sizes octets small from to =
    search (arith, with_user_data, with_some, calling_good, called_good, terms_good)

tokens_good : (tokens : Tokens) → IsCanonical (put TokenItem (token_octet tokens ∷ []) nothing)
unfolding number_of
tokens_good tokens = with_one TokenItem (token_octet tokens ∷ []) nothing (token_good tokens) refl refl no_value

refuse_good : (reason : ℕ) (octets : List ℕ) → IsCanonical (put TransportDisconnect (1 ∷ []) (put Reason (reason ∷ octets) nothing))
unfolding canonical number_of
refuse_good reason octets = grind (arith, with_one, no_value)

abort_good : (bits : ℕ) → IsCanonical (put TransportDisconnect (bits ∷ []) nothing)
unfolding canonical number_of
abort_good bits = with_one TransportDisconnect (bits ∷ []) nothing refl refl refl no_value

set_good : (setting : TokenSetting) (known : Known) → IsCanonical known → IsCanonical (put code.TokenSetting (setting_octets setting) known)
unfolding number_of
set_good setting known is = with_one code.TokenSetting (setting_octets setting) known (setting_good setting) refl refl is

kind_good : (kind : ResyncType) (known : Known) → IsCanonical known → IsCanonical (put code.ResyncType (resync_octet kind ∷ []) known)
unfolding number_of
kind_good kind known is = with_one code.ResyncType (resync_octet kind ∷ []) known (resync_good kind) refl refl is

unit_good : HaveDigits → (m : Meaning) → IsNumbered m → IsAddressed m → IsCanonical (unit_of m).known
unfolding unit_of
unit_good digits (CN version_2 requirements serial wishes calling called sizes octets) small to = search (arith, connect_good)
unit_good digits (AC version_2 requirements serial sides sizes octets) small to = search (arith, with_user_data, terms_good)
unit_good digits (RF reason octets) small to = refuse_good reason octets
unit_good digits (GT tokens) small to = tokens_good tokens
unit_good digits (PT tokens octets) small to = with_user_data octets _ (tokens_good tokens)
unit_good digits (MIP confirm n octets) small to = with_user_data octets _ (sync_good confirm _ (numbered_good digits n small))
unit_good digits (MIA n octets) small to = with_user_data octets _ (numbered_good digits n small)
unit_good digits (MAP n octets) small to = with_user_data octets _ (open_good _ (numbered_good digits n small))
unit_good digits (MAA n octets) small to = with_user_data octets _ (numbered_good digits n small)
unit_good digits (RS kind n wishes octets) small to = search (arith, with_user_data, set_good, kind_good, numbered_good)
unit_good digits (RA n sides octets) small to = with_user_data octets _ (set_good sides _ (numbered_good digits n small))
unit_good digits (FN octets) small to = with_user_data octets _ no_value
unit_good digits (DN octets) small to = with_user_data octets _ no_value
unit_good digits (NF octets) small to = with_user_data octets _ no_value
unit_good digits (AB bits octets) small to = with_user_data octets _ (abort_good bits)
unit_good digits _ small to = no_value

-- ---- a unit has all mandatory parameters, and only those that it knows

unit_formed : (m : Meaning) → is_formed (unit_of m).kind (unit_of m).known ≡ true
unfolding unit_of is_formed codes_of members_of required_of number_of
unit_formed (MIP confirm n octets) = grind arith
unit_formed _ = refl

unit_informed : (m : Meaning) → HasInformation (unit_of m).kind (unit_of m).information
unfolding unit_of
unit_informed m = grind arith

formed : HaveDigits → (m : Meaning) → IsNumbered m → IsAddressed m → IsFormedUnit (unit_of m)
formed digits m small to = record { canonical_values = unit_good digits m small to; formed = unit_formed m; informed = unit_informed m }

no_tokens_formed : IsFormedUnit (unit_with GiveTokens nothing)
unfolding is_formed codes_of members_of required_of number_of
no_tokens_formed = record { canonical_values = no_value; formed = refl; informed = refl }

-- ---- and has room

unit_len : (m : Meaning) → free_len (unit_of m).known ≤ 1 + length (user_data_of m)
unfolding unit_of user_data_of free_len number_of
unit_len m = grind arith

fits : HaveRoom → HaveDigits → (m : Meaning) → IsNumbered m → IsAddressed m → length (user_data_of m) < 65000 → UnitFits (unit_of m)
fits room digits m small to few = room (unit_of m) (unit_good digits m small to) (let l = unit_len m in omega arith)

pub no_tokens_fit : HaveRoom → UnitFits (unit_with GiveTokens nothing)
unfolding free_len
no_tokens_fit room = room (unit_with GiveTokens nothing) no_value (omega arith)

-- ---- a TSDU

second_place : (m : Meaning) → is_second m ≡ true → category_of (unit_of m).kind ≡ Two
unfolding is_second unit_of category_of
second_place m h0 = grind arith

first_place : (m : Meaning) → is_second m ≡ false → may_stand false (category_of (unit_of m).kind) ≡ true
unfolding is_second unit_of category_of may_stand
first_place m h0 = grind arith

follows_none : (category : Category) → may_stand false category ≡ true → MayFollow category []
unfolding may_stand
follows_none category h0 = grind arith

pub behind_formed : (unit : Contents) → category_of unit.kind ≡ Two → IsFormedUnit unit → IsFormedTsdu (behind_tokens unit)
unfolding StandTogether category_of
behind_formed unit two is = record { together = (omega arith, (two, grind arith, tt)); formed = (no_tokens_formed, (is, tt)) }

alone_formed : (unit : Contents) → may_stand false (category_of unit.kind) ≡ true → IsFormedUnit unit → IsFormedTsdu (alone_units unit)
unfolding StandTogether
alone_formed unit may is = record { together = (follows_none (category_of unit.kind) may, tt); formed = (is, tt) }

place_formed : (b : Bool) (m : Meaning) → is_second m ≡ b → IsFormedUnit (unit_of m) →
    IsFormedTsdu (if b then behind_tokens (unit_of m) else alone_units (unit_of m))
place_formed true m s is = behind_formed (unit_of m) (second_place m s) is
place_formed false m s is = alone_formed (unit_of m) (first_place m s) is

place_fits : HaveRoom → (b : Bool) (m : Meaning) → UnitFits (unit_of m) →
    TsduFits (if b then behind_tokens (unit_of m) else alone_units (unit_of m))
place_fits room b m fit = grind (arith, no_tokens_fit)

pub spelled_formed : HaveDigits → (m : Meaning) → IsNumbered m → IsAddressed m → IsFormedTsdu (spelled m)
unfolding spelled
spelled_formed digits m small to = place_formed (is_second m) m refl (formed digits m small to)

pub spelled_fits : HaveRoom → HaveDigits → (m : Meaning) → IsNumbered m → IsAddressed m → length (user_data_of m) < 65000 →
    TsduFits (spelled m)
unfolding spelled
spelled_fits room digits m small to few = place_fits room (is_second m) m (fits room digits m small to few)
