-- One unit: reading is sound and complete.
use Rattle.osi_tpdu.proofs.Vocabulary.{flat_map, ltb-false, leb-true, leb-false, le-leb, lt-leb, le-ltb, eqb-true, eqb-false, ne_eqb}
use Rattle.osi_tpdu.proofs.Vocabulary.{or_parts, cases_Bool, append-nil, take_at, drop_at, length-append, take-append-drop, length-take}
use Rattle.osi_tpdu.proofs.Vocabulary.{length-take-le, take_all, drop_all, IsOctets, octets_take, octets_drop, octets_left, octets_right}
use Rattle.osi_tpdu.proofs.Vocabulary.{TpduFault, BadLi, UnknownCode, Parameters, Connect, Value, request, confirm, disconnect}
use Rattle.osi_tpdu.proofs.Vocabulary.{disconnected, data0, data2, acknowledge, error, user_data, may_be_followed, IsReference, IsConnect}
use Rattle.osi_tpdu.proofs.Vocabulary.{HasFieldsInRange, Item, Means, item_octets, two, below_bit, connect_part, IsHeader, Spells}
use Rattle.osi_tpdu.proofs.Vocabulary.{header_at, reference_at, known_at, all_skipped_at, connect_of, request_of, confirm_of, disconnect_of}
use Rattle.osi_tpdu.proofs.Vocabulary.{disconnected_of, transfer_of, acknowledge_of, error_of, value_of, unit_at, Follows, ◌≡◌, ℕ, ◌+◌, ◌*◌}
use Rattle.osi_tpdu.proofs.Vocabulary.{◌/◌, ◌%◌, ◌<◌, ◌≤◌, Bool, true, false, cond, eqb, ltb, leb, List, [], ◌∷◌, ◌++◌, length, get_or}
use Rattle.osi_tpdu.proofs.Vocabulary.{Kind, Request, Confirm, Disconnect, Disconnected, Transfer, Acknowledge, Report, HasCode, take, drop}
use Rattle.osi_tpdu.proofs.Vocabulary.{Result, Ok, Err, refl, sym, ap, subst, ◌∙◌, arith, IsAtFront}
use Rattle.osi_tpdu.proofs.the_steps_of_reading.{bind_ok, unless_ok, when_ok, chosen, ok_is, IsOctets-rest}
use Rattle.osi_tpdu.proofs.parameters_are_read_as_they_mean.{known_found, known_only, skipped_found, skipped_only}

-- ---- the length indicator

abbrev Parts : Type 0
Parts = List ℕ × List ℕ

pub header_found : (at : ℕ) (b : List ℕ) (x : Parts) → header_at at b ≡ Ok x →
    (b ≡ length x.0 ∷ x.0 ++ x.1) × (1 ≤ length x.0) × (length x.0 ≤ 254)
unfolding header_at
header_found at b x e = grind (arith, unless_ok, or_parts, eqb-false, ltb-false, leb-false, length-take, take-append-drop, ok_is)

pub header_again : (at : ℕ) (h t : List ℕ) → 1 ≤ length h → length h ≤ 254 → header_at at (length h ∷ h ++ t) ≡ Ok (h, t)
unfolding header_at
header_again at h t some most = grind (arith, ne_eqb, lt-leb, length-append, le-ltb, take_at, drop_at)

-- ---- octets at the front of a header

split_two : (h : List ℕ) → 2 ≡ length h → h ≡ get_or h 0 0 ∷ get_or h 1 0 ∷ []
split_two (a ∷ b ∷ []) e = refl
split_two h e = absurd (omega arith)

two_again : (n : ℕ) → 256 * (n / 256) + n % 256 ≡ n
two_again n = omega arith

two_is : (a b : ℕ) → b < 256 → a ∷ b ∷ [] ≡ two (256 * a + b)
two_is a b lt = grind arith

front_five : (h : List ℕ) → IsOctets h → length h ≡ 5 → h ≡ get_or h 0 0 ∷ two (reference_at 1 h) ++ two (reference_at 3 h)
front_five (a ∷ b ∷ c ∷ d ∷ e ∷ []) octets le = grind (arith, two_is b c (octets 2), two_is d e (octets 4))
front_five h octets le = absurd (omega arith)

first_reference : (header : List ℕ) → IsOctets header → IsReference (reference_at 1 header)
first_reference header octets = grind arith

bit_above : (o : ℕ) → o < 256 → o ≡ below_bit (leb 128 o) (o % 128)
bit_above o lt = grind (arith, cases_Bool, leb-true, leb-false)

-- ---- found: what the fields of a unit were read from

-- the header is one of the value, and the value's user data is what follows it
pub record IsRead (v : Value) (header behind : List ℕ) : Type 0 where
  pub fields : IsHeader v header
  pub in_range : HasFieldsInRange v
  pub user : user_data v ≡ cond (may_be_followed v) [] behind

abbrev pub content : List ℕ → Parameters → List ℕ → Connect
content header p user = record {
  credit = get_or header 0 0 % 16;
  source = reference_at 3 header;
  class = get_or header 5 0 / 16;
  options = get_or header 5 0 % 16;
  parameters = p;
  user = user;
}

record ConnectRead (code : ℕ) (header user : List ℕ) (c : Connect) : Type 0 where
  pub items : List Item
  pub means : Means c.parameters items
  pub header_is : header ≡ connect_part code (reference_at 1 header) c ++ flat_map item_octets items
  pub in_range : IsConnect c
  pub user_is : c.user ≡ user

connect_found : (at half : ℕ) (header user : List ℕ) (c : Connect) → get_or header 0 0 / 16 ≡ half → IsOctets header → IsOctets user →
    connect_of at header user ≡ Ok c → ConnectRead (16 * half) header user c
unfolding connect_of
connect_found at half header user c code octets behind e =
    let a = unless_ok (ltb (length header) 6) (BadLi at) _ c e in
    let b = bind_ok (known_at (at + 7) (drop 6 header)) (λ p. Ok (content header p user)) c a.1 in
    let p = b.0 in
    let f = known_found (at + 7) (drop 6 header) p (octets_drop 6 header octets) b.1 in
    let o0 = get_or header 0 0 in
    let o5 = get_or header 5 0 in
    let e0 : o0 ≡ 16 * half + o0 % 16 = omega arith in
    let e5 : o5 ≡ 16 * (o5 / 16) + o5 % 16 = omega arith in
    let made = content header p user in
    let pieces : o0 ∷ two (reference_at 1 header) ++ two (reference_at 3 header) ++
    (o5 ∷ drop 6 header) ≡ connect_part (16 * half) (reference_at 1 header) made ++ flat_map item_octets f.0 =
    λ i. e0 i ∷ two (reference_at 1 header) ++ two (reference_at 3 header) ++ (e5 i ∷ f.1 i) in
    subst (λ (c' : Connect). ConnectRead (16 * half) header user c') (ok_is made c b.2) (record {
      items = f.0;
      means = f.2;
      header_is = (grind (arith, two_is)) ∙ pieces;
      in_range = search arith;
      user_is = refl;
    })

-- ---- the kind of a unit, by its code

-- what is read of a unit of this kind
abbrev pub read_as : Kind → ℕ → List ℕ → List ℕ → Result Value TpduFault
read_as Request at header behind = request_of at header behind
read_as Confirm at header behind = confirm_of at header behind
read_as Disconnect at header behind = disconnect_of at header behind
read_as Disconnected at header behind = disconnected_of at header
read_as Transfer at header behind = transfer_of at header behind
read_as Acknowledge at header behind = acknowledge_of at header
read_as Report at header behind = error_of at header

abbrev pub code_in : List ℕ → ℕ
code_in header = get_or header 0 0

by_test : {A : Type 0} (P : A → Type 0) (b : Bool) (x y : A) → (b ≡ true → P x) → (b ≡ false → P y) → P (cond b x y)
by_test P b x y held failed = grind arith

unnamed : (kind : Kind) (code : ℕ) → eqb (code / 16) 0xE ≡ false → eqb (code / 16) 0xD ≡ false → eqb (code / 16) 0x6 ≡ false →
    eqb code 0x80 ≡ false → eqb code 0xC0 ≡ false → eqb code 0xF0 ≡ false → eqb code 0x70 ≡ false
    → HasCode kind code → ⊥
unnamed kind code a b c d e f g h = grind (arith, eqb-false)

-- what holds of each kind, and of a code that belongs to none, holds of what is read
pub by_kind : (P : Result Value TpduFault → Type 0) (at : ℕ) (header behind : List ℕ) →
    ((kind : Kind) → HasCode kind (code_in header) → P (read_as kind at header behind)) →
    (((kind : Kind) → HasCode kind (code_in header) → ⊥) → P (Err (UnknownCode (at + 1)))) → P (value_of at header behind)
unfolding value_of
by_kind P at header behind known other =
    let code = code_in header in
    by_test P (eqb (code / 16) 0xE) _ _ (λ e. known Request (code % 16, grind arith, grind arith)) (λ nE.
    by_test P (eqb (code / 16) 0xD) _ _ (λ e. known Confirm (code % 16, grind arith, grind arith)) (λ nD.
    by_test P (eqb (code / 16) 0x6) _ _ (λ e. known Acknowledge (code % 16, grind arith, grind arith)) (λ n6.
    by_test P (eqb code 0x80) _ _ (λ e. known Disconnect (eqb-true code 0x80 e)) (λ n80.
    by_test P (eqb code 0xC0) _ _ (λ e. known Disconnected (eqb-true code 0xC0 e)) (λ nC0.
    by_test P (eqb code 0xF0) _ _ (λ e. known Transfer (eqb-true code 0xF0 e)) (λ nF0.
    by_test P (eqb code 0x70) _ _ (λ e. known Report (eqb-true code 0x70 e)) (λ n70.
    other (λ kind. unnamed kind code nE nD n6 n80 nC0 nF0 n70))))))))

data0_found : (header behind : List ℕ) → get_or header 0 0 ≡ 0xF0 → length header ≡ 2 → IsOctets header → IsOctets behind →
    IsRead (data0 (leb 128 (get_or header 1 0)) behind) header behind
data0_found header behind code len octets back =
    let o1 = get_or header 1 0 in
    grind (arith, bit_above o1 (octets 1), leb 128 o1, split_two header (sym len))

data2_found : (header behind : List ℕ) → get_or header 0 0 ≡ 0xF0 → length header ≡ 4 → IsOctets header → IsOctets behind
    → IsRead (data2 (reference_at 1 header) (get_or header 3 0 % 128) (leb 128 (get_or header 3 0)) behind) header behind
data2_found header behind code len octets back = grind (arith, drop_all 4 header (omega arith))

kind_found : (kind : Kind) (at : ℕ) (header behind : List ℕ) (v : Value) → IsOctets header → IsOctets behind →
    HasCode kind (code_in header) → read_as kind at header behind ≡ Ok v → IsRead v header behind
unfolding request_of confirm_of disconnect_of disconnected_of transfer_of acknowledge_of error_of
kind_found Request at header behind v octets back code e =
    let b = bind_ok (connect_of at header behind) (λ c. Ok (request c)) v e in
    grind (arith, connect_found at 14 header behind b.0 (grind arith) octets back b.1, ok_is (request b.0) v b.2)
kind_found Confirm at header behind v octets back code e =
    let b = bind_ok (connect_of at header behind) (λ c. Ok (confirm (reference_at 1 header) c)) v e in
    let r = connect_found at 13 header behind b.0 (grind arith) octets back b.1 in
    subst (λ (w : Value). IsRead w header behind) (ok_is (confirm (reference_at 1 header) b.0) v b.2) (grind (arith, first_reference))
kind_found Disconnect at header behind v octets back code e =
    let made = disconnect (reference_at 1 header) (reference_at 3 header) (get_or header 5 0) behind in
    let a = unless_ok (ltb (length header) 6) (BadLi at) _ v e in
    let b = bind_ok (all_skipped_at (at + 7) (drop 6 header)) (λ skipped. Ok made) v a.1 in
    let f = skipped_found (at + 7) (drop 6 header) (octets_drop 6 header octets) b.1 in
    grind (arith, ok_is, two_is, first_reference)
kind_found Disconnected at header behind v octets back code e = search (arith, when_ok, ok_is, front_five, eqb-true, first_reference)
kind_found Transfer at header behind v octets back code e =
    search (arith, chosen, eqb, leb, ok_is, data0_found, eqb-true, when_ok, data2_found)
kind_found Acknowledge at header behind v octets back code e =
    let o0 = get_or header 0 0 in
    let o3 = get_or header 3 0 in
    let made = acknowledge (o0 % 16) (reference_at 1 header) (o3 % 128) in
    let a = when_ok (eqb (length header) 4) (BadLi at) (Ok made) v e in
    let len : length header ≡ 4 = eqb-true _ _ a.0 in
    let e3 = bit_above o3 (octets 3) in
    grind (arith, two_is, drop_all 4 header (omega arith), leb 128 o3, ok_is made v a.1, first_reference header octets)
kind_found Report at header behind v octets back code e =
    search (arith, unless_ok, bind_ok, skipped_found, ok_is, two_is, first_reference, ltb (length header) 4, octets_drop 4 header octets)

value_found : (at : ℕ) (header behind : List ℕ) (v : Value) → IsOctets header → IsOctets behind → value_of at header behind ≡ Ok v →
    IsRead v header behind
value_found at header behind v octets back =
    by_kind (λ r. r ≡ Ok v → IsRead v header behind) at header behind (λ kind. kind_found kind at header behind v octets back)
    (λ none e. grind arith)

-- ---- only: the fields of a unit are read

abbrev ok : Value → Result Value TpduFault
ok v = Ok v

connect_only : (at code destination : ℕ) (c : Connect) (items : List Item) → IsConnect c → Means c.parameters items → code % 16 ≡ 0
    → connect_of at (connect_part code destination c ++ flat_map item_octets items) c.user ≡ Ok c
unfolding connect_of
connect_only at code destination c items fits means even = grind (arith, ltb, le-ltb, known_only, two_again)

request_only : (at : ℕ) (header behind : List ℕ) (destination : ℕ) (c : Connect) (items : List Item) →
    header ≡ connect_part 0xE0 destination c ++ flat_map item_octets items → IsConnect c → Means c.parameters items
    → c.user ≡ behind → value_of at header behind ≡ Ok (request c)
unfolding value_of request_of
request_only at header behind destination c items header_is fits means user = grind (arith, connect_only)

confirm_only : (at : ℕ) (header behind : List ℕ) (destination : ℕ) (c : Connect) (items : List Item) →
    header ≡ connect_part 0xD0 destination c ++ flat_map item_octets items → IsConnect c → Means c.parameters items
    → c.user ≡ behind → value_of at header behind ≡ Ok (confirm destination c)
unfolding value_of confirm_of
confirm_only at header behind destination c items header_is fits means user = grind (arith, connect_only, two_again)

disconnect_only : (at : ℕ) (destination source reason : ℕ) (user : List ℕ) (items : List Item)
    → value_of at (0x80 ∷ [] ++ two destination ++ two source ++ (reason ∷ []) ++ flat_map item_octets items) user ≡ Ok
    (disconnect destination source reason user)
unfolding value_of disconnect_of
disconnect_only at destination source reason user items = grind (arith, le-ltb, two_again, skipped_only)

disconnected_only : (at : ℕ) (destination source : ℕ) (behind : List ℕ)
    → value_of at (0xC0 ∷ [] ++ two destination ++ two source) behind ≡ Ok (disconnected destination source)
unfolding value_of disconnected_of
disconnected_only at destination source behind = grind (arith, two_again)

data0_only : (at number : ℕ) (end : Bool) (user : List ℕ) → number < 128 →
    value_of at (0xF0 ∷ below_bit end number ∷ []) user ≡ Ok (data0 end user)
unfolding value_of transfer_of
data0_only at number end user lt = ap (λ (b : Bool). ok (data0 b user)) (grind (arith, le-leb, lt-leb))

data2_only : (at destination number : ℕ) (end : Bool) (user : List ℕ) → number < 128
    → value_of at (0xF0 ∷ [] ++ two destination ++ (below_bit end number ∷ [])) user ≡ Ok (data2 destination number end user)
unfolding value_of transfer_of
data2_only at destination number end user lt = grind (arith, two_again)

acknowledge_only : (at credit destination number : ℕ) (ignored : Bool) (behind : List ℕ) → credit < 16 → number < 128
    → value_of at ((0x60 + credit) ∷ [] ++ two destination ++ (below_bit ignored number ∷ [])) behind ≡ Ok
    (acknowledge credit destination number)
unfolding value_of acknowledge_of
acknowledge_only at credit destination number ignored behind fits lt = search (arith, two_again)

error_only : (at destination cause : ℕ) (items : List Item) (behind : List ℕ)
    → value_of at (0x70 ∷ [] ++ two destination ++ (cause ∷ []) ++ flat_map item_octets items) behind ≡ Ok (error destination cause)
unfolding value_of error_of
error_only at destination cause items behind = grind (arith, le-ltb, two_again, skipped_only)

-- ---- whole units

abbrev Measured : Type 0
Measured = Value × ℕ

abbrev measured : Value → List ℕ → List ℕ → Measured
measured v header b = (v, cond (may_be_followed v) (1 + length header) (length b))

-- what is at the front
abbrev Stands : List ℕ → Measured → Type 0
Stands b x = IsAtFront Spells Follows x.0 x.1 b × (1 ≤ x.1)

stands : (v : Value) (header behind : List ℕ) (may : Bool) → may_be_followed v ≡ may → IsRead v header behind → 1 ≤ length header →
    length header ≤ 254 → IsOctets (length header ∷ header ++ behind)
    → Stands (length header ∷ header ++ behind) (v, cond may (1 + length header) (length (length header ∷ header ++ behind)))
stands v header behind true may r some most octets = grind (arith, take_at, append-nil, octets_take, length-append)
stands v header behind false may r some most octets = grind (arith, take_all, drop_all)

-- sound: what is read is spelled by the octets
pub unit_found : (at : ℕ) (b : List ℕ) (x : Value × ℕ) → IsOctets b → unit_at at b ≡ Ok x → Stands b x
unfolding unit_at
unit_found at b x octets e =
    let p = bind_ok (header_at at b) _ x e in
    let q = bind_ok (value_of at p.0.0 p.0.1) (λ v. Ok (measured v p.0.0 b)) x p.2 in
    let header = p.0.0 in
    let behind = p.0.1 in
    let h = header_found at b p.0 p.1 in
    let whole : IsOctets (length header ∷ header ++ behind) = subst (λ (s : List ℕ). IsOctets s) h.0 octets in
    let inner = IsOctets-rest (length header) (header ++ behind) whole in
    let r = value_found at header behind q.0 (octets_left header behind inner) (octets_right header behind inner) q.1 in
    grind (arith, stands q.0 header behind (may_be_followed q.0) refl r h.1 h.2 whole, ok_is (measured q.0 header b) x q.2)

lead_user : (v : Value) → may_be_followed v ≡ true → user_data v ≡ []
lead_user v e = grind arith

read_again : (at : ℕ) (v : Value) (header behind : List ℕ) → IsHeader v header → HasFieldsInRange v → length header ≤ 254 →
    user_data v ≡ cond (may_be_followed v) [] behind
    → unit_at at (length header ∷ header ++ behind) ≡ Ok (measured v header (length header ∷ header ++ behind))
unfolding unit_at
read_again at v header behind f r most user =
    grind (
      arith,
      header_again,
      request_only,
      confirm_only,
      value_of,
      disconnect_only,
      disconnected_only,
      data0_only,
      data2_only,
      acknowledge_only,
      error_only,
    )

only_with : (at : ℕ) (v : Value) (x y : List ℕ) (may : Bool) → may_be_followed v ≡ may → Spells v x → Follows v y →
    unit_at at (x ++ y) ≡ Ok (v, length x)
only_with at v x y true may s f =
    let none = lead_user v may in
    let front : x ≡ length s.header ∷ s.header = grind (arith, append-nil) in
    let user : user_data v ≡ cond (may_be_followed v) [] y = rw may none in
    grind (arith, cond, unit_at, read_again at v s.header y s.fields s.in_range s.counted user)
only_with at v x y false may s f =
    let user : user_data v ≡ cond (may_be_followed v) [] (user_data v) = rw may refl in
    grind (arith, append-nil, cond, unit_at, read_again at v s.header (user_data v) s.fields s.in_range s.counted user)

-- complete: what the octets spell is read
pub unit_only : (at : ℕ) (v : Value) (n : ℕ) (b : List ℕ) → IsAtFront Spells Follows v n b → unit_at at b ≡ Ok (v, n)
unit_only at v n b f =
    let read = only_with at v (take n b) (drop n b) (may_be_followed v) refl f.spelled f.followed in
    grind (arith, length-take-le, unit_at, take-append-drop)

-- a spelling is read, with what may follow it
pub unit_spelled : (at : ℕ) (v : Value) (x y : List ℕ) → Spells v x → Follows v y → unit_at at (x ++ y) ≡ Ok (v, length x)
unit_spelled at v x y s f = only_with at v x y (may_be_followed v) refl s f

-- a unit takes some of the octets
pub unit_takes : (at : ℕ) (b : List ℕ) (x : Value × ℕ) → unit_at at b ≡ Ok x → (1 ≤ x.1) × (x.1 ≤ length b)
unfolding unit_at
unit_takes at b x e = grind (arith, bind_ok, header_found, length-append, ok_is)

-- ---- the laws that a grammar of units asks for

-- a unit may be the last of its octets
pub stands_alone : (v : Value) → Follows v []
stands_alone v = grind arith

-- at most one unit is at the front of octets
pub one_reading : (v w : Value) (m n : ℕ) (octets : List ℕ) → IsOctets octets → IsAtFront Spells Follows v m octets →
    IsAtFront Spells Follows w n octets → (v ≡ w) × (m ≡ n)
one_reading v w m n octets are_octets p q = grind (arith, ok_is, unit_only 0 v m octets p, unit_only 0 w n octets q)

-- what was read is what is at the front
pub same_front : (octets : List ℕ) (v : Value) (n : ℕ) (x : Value × ℕ) → IsAtFront Spells Follows v n octets → unit_at 0 octets ≡ Ok x →
    (x.0 ≡ v) × (x.1 ≡ n)
same_front octets v n x stands read = grind (arith, ok_is x (v, n) (sym read ∙ unit_only 0 v n octets stands))

-- a unit at the front has no fault
pub not_bad : (octets : List ℕ) (v : Value) (n : ℕ) (f : TpduFault) → IsAtFront Spells Follows v n octets → unit_at 0 octets ≡ Err f → ⊥
not_bad octets v n f stands bad = grind (arith, unit_only 0 v n octets stands)
