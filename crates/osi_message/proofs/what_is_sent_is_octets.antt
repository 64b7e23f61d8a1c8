-- What is sent is octets.
use Rattle.std.proofs.Common.{◌≡◌, subst, ℕ, suc, ◌<◌, ◌≤◌, Bool, cond, List, [], ◌∷◌, length, length-append, Option, Some, option_map}
use Rattle.std.proofs.Common.{if◌then◌else◌, arith}
use Rattle.osi_spdu.specs.declared.codes.Code.TheVariants as code
use Rattle.osi_message.proofs.Vocabulary.{and_le_r, AllByRecursion, flat_map, IfSome, IsOctets, octets_nil, octets_cons, octets_append}
use Rattle.osi_message.proofs.Vocabulary.{Code, ConnectAcceptItem, SyncType, TransportDisconnect, ProtocolOptions, Version, Number}
use Rattle.osi_message.proofs.Vocabulary.{ResyncType, TsduMaximumSize, Kind, TokenSetting, number_of, is_same, is_group, si_of, significant}
use Rattle.osi_message.proofs.Vocabulary.{digits_of, size_octets, setting_octets, resync_octet, written_sizes, Known, Contents, Units}
use Rattle.osi_message.proofs.Vocabulary.{nothing, put, written_code, member_octets, members_octets, group_octets, parameter_octets}
use Rattle.osi_message.proofs.Vocabulary.{body_octets, unit_octets, tsdu_octets, UnitFits, TsduFits, Tokens, token_octet, IsInOctets}
use Rattle.osi_message.proofs.Vocabulary.{Meaning, CN, AC, RF, GT, PT, MIP, MIA, MAP, MAA, RS, RA, FN, DN, NF, AB, IsSendable, put_some}
use Rattle.osi_message.proofs.Vocabulary.{with_data, terms, numbered, sync_type, unit_of, spelled, written}
use Rattle.osi_message.proofs.what_can_be_sent_has_a_written_form.{HaveRoom, spelled_fits}
use Rattle.osi_message.proofs.what_is_written_means_it.{HaveDigits}
use Rattle.osi_message.proofs.the_octet_of_a_set_of_tokens.{octet_kept}
use Rattle.osi_message.proofs.a_field_reads_back.{wish_small}

-- ---- an item

code_small : (c : Code) → number_of c < 256
unfolding number_of
code_small c = grind arith

si_small : (k : Kind) → si_of k < 256
unfolding si_of
si_small k = grind arith

-- ---- the values of a unit

AreKnown : Known → Type 0
AreKnown known = (c : Code) (v : List ℕ) → known c ≡ Some v → IsOctets v

known_at : (o : Option (List ℕ)) → ((v : List ℕ) → o ≡ Some v → IsOctets v) → IfSome o IsOctets
known_at o h = grind arith

member_is : (c : Code) (o : Option (List ℕ)) → IfSome o IsOctets → length (member_octets c o) < 65536 → IsOctets (member_octets c o)
member_is c h h2 few = grind (arith, octets_nil, number_of, code_small)

members_are : (known : Known) (codes : List Code) → AreKnown known → length (members_octets known codes) < 65536 →
    IsOctets (members_octets known codes)
unfolding AreKnown
members_are known [] h few = octets_nil
members_are known (c ∷ codes) h few =
    let l = length-append (member_octets c (known c)) (members_octets known codes) in
    octets_append (member_octets c (known c)) (members_octets known codes)
    (member_is c (known c) (known_at (known c) (h c)) (omega arith)) (members_are known codes h (omega arith))

value_is : (b : Bool) (kind : Kind) (known : Known) (c : Code) (value : List ℕ) → AreKnown known → IsOctets value →
    length (if b then group_octets kind known c else value) < 65536 → IsOctets (if b then group_octets kind known c else value)
unfolding group_octets
value_is b kind known c value h is few = grind (arith, members_are)

parameter_is : (kind : Kind) (known : Known) (c : Code) (o : Option (List ℕ)) → AreKnown known → IfSome o IsOctets →
    length (parameter_octets kind known c o) < 65536 → IsOctets (parameter_octets kind known c o)
parameter_is kind known c h h2 is few = grind (arith, octets_nil, code_small, written_code, number_of, value_is, is_group)

parameters_are : (kind : Kind) (known : Known) (codes : List Code) → AreKnown known →
    length (flat_map (λ c. parameter_octets kind known c (known c)) codes) < 65536 →
    IsOctets (flat_map (λ c. parameter_octets kind known c (known c)) codes)
unfolding AreKnown
parameters_are kind known [] h few = octets_nil
parameters_are kind known (c ∷ codes) h few =
    let rest = flat_map (λ d. parameter_octets kind known d (known d)) codes in
    let l = length-append (parameter_octets kind known c (known c)) rest in
    octets_append (parameter_octets kind known c (known c)) rest
    (parameter_is kind known c (known c) h (known_at (known c) (h c)) (omega arith)) (parameters_are kind known codes h (omega arith))

unit_is : (unit : Contents) → AreKnown unit.known → UnitFits unit → IsOctets (unit_octets unit)
unfolding unit_octets body_octets
unit_is unit h fits = grind (arith, si_small, parameters_are)

record IsUnit (unit : Contents) : Type 0 where
  known : AreKnown unit.known
  information : IsOctets unit.information

tsdu_is : (units : Units) → AllByRecursion IsUnit units → TsduFits units → IsOctets (tsdu_octets units)
unfolding tsdu_octets
tsdu_is [] h fits = octets_nil
tsdu_is (unit ∷ units) h fits = grind (arith, octets_append, unit_is, tsdu_is units h.1 fits.1)

-- ---- values one by one

none_known : AreKnown nothing
unfolding AreKnown
none_known c v e = absurd cc

known_by : (b : Bool) (value here : Option (List ℕ)) (v : List ℕ) → IfSome value IsOctets → (here ≡ Some v → IsOctets v) →
    cond b value here ≡ Some v → IsOctets v
known_by b value here v h is e = grind arith

some_known : (slot : Code) (value : Option (List ℕ)) (known : Known) → IfSome value IsOctets → AreKnown known →
    AreKnown (put_some slot value known)
unfolding AreKnown
some_known slot value known h is c v e = known_by (is_same c slot) value (known c) v h (is c v) e

one_known : (slot : Code) (value : List ℕ) (known : Known) → IsOctets value → AreKnown known → AreKnown (put slot value known)
unfolding AreKnown
one_known slot value known h is c v e = known_by (is_same c slot) (Some value) (known c) v h (is c v) e

data_known : (octets : List ℕ) (known : Known) → IsOctets octets → AreKnown known → AreKnown (with_data octets known)
unfolding AreKnown
data_known octets known h is c v e = grind (arith, one_known)

octet_is : (n : ℕ) → n < 256 → IsOctets (n ∷ [])
octet_is n small = octets_cons n [] small octets_nil

significant_are : (digits : List ℕ) → IsOctets digits → IsOctets (significant digits)
unfolding significant
significant_are (d ∷ e ∷ digits) h = grind (arith, significant, significant_are (e ∷ digits) (λ i. h (suc i)))
significant_are _ h = h

digits_are : (n : ℕ) → IsOctets (digits_of n)
unfolding digits_of
digits_are n = grind (arith, significant_are)

resync_is : (kind : ResyncType) → IsOctets (resync_octet kind ∷ [])
resync_is kind = grind (arith, octet_is)

numbered_known : (n : ℕ) → AreKnown (numbered n)
numbered_known n = one_known Number (digits_of n) nothing (digits_are n) none_known

type_known : (known : Known) → AreKnown known → AreKnown (put SyncType (1 ∷ []) known)
type_known known is = one_known SyncType (1 ∷ []) known (octet_is 1 (omega arith)) is

sync_known : (confirm : Bool) (known : Known) → AreKnown known → AreKnown (sync_type confirm known)
sync_known confirm known is = grind (arith, type_known)

terms_known : (serial : Option ℕ) (setting : TokenSetting) (requirements : ℕ) (sizes : TsduMaximumSize) → requirements < 65536 →
    sizes.from_asker < 65536
    → sizes.from_answerer < 65536 → AreKnown (terms serial setting requirements sizes)
terms_known serial setting requirements sizes small asker answerer =
    one_known ConnectAcceptItem [] _ octets_nil
    (one_known ProtocolOptions (1 ∷ []) _ (octet_is 1 (omega arith))
    (some_known code.TsduMaximumSize (option_map size_octets (written_sizes sizes)) _ (grind (arith, octets_cons, octet_is))
    (one_known Version (2 ∷ []) _ (octet_is 2 (omega arith))
    (grind (arith, some_known, digits_of, digits_are, one_known, wish_small, octet_is, octets_cons, none_known)))))

set_known : (setting : TokenSetting) (known : Known) → AreKnown known → AreKnown (put code.TokenSetting (setting_octets setting) known)
set_known setting known is = one_known code.TokenSetting (setting_octets setting) known (grind (arith, wish_small, octet_is)) is

leave_known : (bits : ℕ) (known : Known) → bits < 256 → AreKnown known → AreKnown (put TransportDisconnect (bits ∷ []) known)
leave_known bits known small is = one_known TransportDisconnect (bits ∷ []) known (octet_is bits small) is

token_is : (tokens : Tokens) → IsOctets (token_octet tokens ∷ [])
token_is tokens = let few = subst (λ (n : ℕ). n ≤ 85) (octet_kept tokens) (and_le_r (token_octet tokens) 85) in
    octet_is (token_octet tokens) (omega arith)

-- ---- the units

unit_known : (m : Meaning) → IsInOctets m → AreKnown (unit_of m).known
unfolding unit_of
unit_known (CN version_2 requirements serial wishes calling called sizes octets) h = search (arith, data_known, some_known, terms_known)
unit_known (AC version_2 requirements serial sides sizes octets) h = search (arith, data_known, terms_known)
unit_known (RF reason octets) h = grind (arith, one_known, octet_is, octets_cons, none_known)
unit_known (GT tokens) h = grind (arith, none_known, one_known, token_octet, token_is)
unit_known (PT tokens octets) h = data_known octets _ h (grind (arith, none_known, one_known, token_octet, token_is))
unit_known (MIP confirm n octets) h = data_known octets _ h (sync_known confirm _ (numbered_known n))
unit_known (MIA n octets) h = data_known octets _ h (numbered_known n)
unit_known (MAP n octets) h = data_known octets _ h (type_known _ (numbered_known n))
unit_known (MAA n octets) h = data_known octets _ h (numbered_known n)
unit_known (RS kind n wishes octets) h = search (arith, data_known, set_known, one_known, resync_is, numbered_known)
unit_known (RA n sides octets) h = data_known octets _ h (set_known sides _ (numbered_known n))
unit_known (FN octets) h = data_known octets _ h none_known
unit_known (DN octets) h = data_known octets _ h none_known
unit_known (NF octets) h = data_known octets _ h none_known
unit_known (AB bits octets) h = data_known octets _ h.1 (leave_known bits nothing h.0 none_known)
unit_known _ h = none_known

unit_information : (m : Meaning) → IsInOctets m → IsOctets (unit_of m).information
unfolding unit_of
unit_information m h = grind (arith, octets_nil)

pub written_octets : HaveRoom → HaveDigits → (m : Meaning) → IsSendable m → IsInOctets m → IsOctets (written m)
unfolding spelled
written_octets room digits m can h = grind (arith, tsdu_is, none_known, octets_nil, unit_known, unit_information, spelled_fits)
