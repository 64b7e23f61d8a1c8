-- The fault that the reader of a unit returns is its first one.
use Rattle.std.proofs.Common.{◌≡◌, ℕ, ◌+◌, ◌/◌, ◌%◌, ◌≤◌, true, false, cond, eqb, ltb, leb, List, ◌∷◌, ◌++◌, length, get_or, take, drop}
use Rattle.std.proofs.Common.{Option, Some, None, Result, Ok, Err, refl, sym, ap, subst, ◌∙◌, arith, inl, inr}
use Rattle.osi_tpdu.proofs.Vocabulary.{IsOk, false≢true, ltb-true, ltb-false, eqb-true, eqb-false, length-take-le, drop_at}
use Rattle.osi_tpdu.proofs.Vocabulary.{take-append-drop, IsOctets, octets_drop, octets_left, TpduFault, BadLi, UnknownCode, Parameters}
use Rattle.osi_tpdu.proofs.Vocabulary.{Connect, Value, request, confirm, disconnect, disconnected, data0, data2, acknowledge, error}
use Rattle.osi_tpdu.proofs.Vocabulary.{header_at, reference_at, known_at, all_skipped_at, connect_of, request_of, confirm_of, disconnect_of}
use Rattle.osi_tpdu.proofs.Vocabulary.{disconnected_of, transfer_of, acknowledge_of, error_of, value_of, unit_at, Kind, Request, Confirm}
use Rattle.osi_tpdu.proofs.Vocabulary.{Disconnect, Disconnected, Transfer, Acknowledge, Report, HasCode, MayCount, HasParametersBehind}
use Rattle.osi_tpdu.proofs.Vocabulary.{LooksAtParameters, HasParameterFault, HasHeader, HasNoHeader, BeginsUnit, HasBadIndicator, HasFault}
use Rattle.osi_tpdu.proofs.Vocabulary.{IsFirst, IsUnitFault}
use Rattle.osi_tpdu.proofs.the_steps_of_reading.{chosen, ok_is, IsOctets-rest}
use Rattle.osi_tpdu.proofs.one_unit_is_read.{header_found, header_again, content, read_as, by_kind}
use Rattle.osi_tpdu.proofs.the_first_fault_of_the_parameters.{Judges, judges_same, judges_bind, judges_map, judges_cond, parameters_judged}
use Rattle.osi_tpdu.proofs.the_first_fault_of_the_parameters.{skips_judged, parameter_place}

-- ---- one header, one kind

same_header : (b h t g u : List ℕ) → HasHeader b h t → HasHeader b g u → h ≡ g
same_header b h t g u x y = grind (arith, ok_is, header_again 0 h t x.at_least x.at_most, header_again 0 g u y.at_least y.at_most)

-- ---- a bad length indicator

li_first : (at : ℕ) (b : List ℕ) → HasBadIndicator b → IsFirst (HasFault at b) (BadLi at)
li_first at b bad = grind (arith, parameter_place)

no_li : (b header : List ℕ) (kind : Kind) → BeginsUnit kind b header → MayCount kind (length header) → HasBadIndicator b → ⊥
no_li b header kind u counts h =
    elim h [
      | inl none ↦ none header u.behind u.there
      | inr c ↦ c.3 (grind (arith, same_header b header u.behind c.1 c.2.behind u.there c.2.there))
    ]

-- ---- units without parameters

plain_fine : (at : ℕ) (b header : List ℕ) (kind : Kind) → BeginsUnit kind b header → MayCount kind (length header) →
    ((n : ℕ) → HasParametersBehind kind n → ⊥) → (f : TpduFault) → HasFault at b f → ⊥
plain_fine at b header kind u counts none f h =
    elim h [
      | inl a ↦ no_li b header kind u counts a.1
      | inr a ↦ elim a [
        | inl c ↦ (grind (arith, same_header b header u.behind c.1.0 c.1.1 u.there c.1.2))
        | inr p ↦ none (length p.1) (grind (arith, same_header b (p.1 ++ p.2) p.3.behind header u.behind p.3.there u.there))
      ]
    ]

-- ---- units with parameters

same_front : (x y s t : List ℕ) → length x ≡ length y → x ++ s ≡ y ++ t → s ≡ t
same_front x y s t len e = sym (drop_at x s (length x) refl) ∙ ap (drop (length x)) e ∙ drop_at y t (length x) (sym len)

parameters_only : {A : Type 0} (at : ℕ) (b fixed s : List ℕ) (kind : Kind) (r : Result A TpduFault) → BeginsUnit kind b (fixed ++ s) →
    MayCount kind (length (fixed ++ s)) → HasParametersBehind kind (length fixed)
    → Judges (HasParameterFault kind (at + (1 + length fixed)) s) r → Judges (HasFault at b) r
parameters_only at b fixed s kind r u counts behind =
    judges_same (HasParameterFault kind (at + (1 + length fixed)) s) (HasFault at b) r (λ f h. inr (inr (kind, fixed, s, u, behind, h)))
    (λ f h. elim h [
      | inl a ↦ absurd (no_li b (fixed ++ s) kind u counts a.1)
      | inr a ↦ elim a [
        | inl c ↦ absurd (grind (arith, same_header b (fixed ++ s) u.behind c.1.0 c.1.1 u.there c.1.2))
        | inr p ↦
            let x = p.1 in
            let t = p.2 in
            grind (arith, same_front, same_header b (x ++ t) p.3.behind (fixed ++ s) u.behind p.3.there u.there)
      ]
    ])

-- the same if the fixed part has n octets
behind_judged : {A : Type 0} (at n : ℕ) (b header : List ℕ) (kind : Kind) (r : Result A TpduFault) → n ≤ length header →
    BeginsUnit kind b header → MayCount kind (length header) → HasParametersBehind kind n
    → Judges (HasParameterFault kind (at + (1 + n)) (drop n header)) r → Judges (HasFault at b) r
behind_judged at n b header kind r long u counts behind j =
    let parts : header ≡ take n header ++ drop n header = sym (take-append-drop n header) in
    let len : length (take n header) ≡ n = length-take-le n header long in
    parameters_only at b (take n header) (drop n header) kind r (subst (λ (o : List ℕ). BeginsUnit kind b o) parts u)
    (subst (λ (o : List ℕ). MayCount kind (length o)) parts counts)
    (subst (λ (k : ℕ). HasParametersBehind kind k) (sym len) behind)
    (subst (λ (k : ℕ). Judges (HasParameterFault kind (at + (1 + k)) (drop n header)) r) (sym len) j)

-- ---- each kind

too_short : (n least : ℕ) → ltb n least ≡ true → least ≤ n → ⊥
too_short n least e le = omega (arith, ltb-true)

connect_judged : (at : ℕ) (b header user : List ℕ) (kind : Kind) → IsOctets header → BeginsUnit kind b header → LooksAtParameters kind →
    (6 ≤ length header → MayCount kind (length header)) → (MayCount kind (length header) → 6 ≤ length header)
    → HasParametersBehind kind 6 → Judges (HasFault at b) (connect_of at header user)
unfolding connect_of
connect_judged at b header user kind octets u looks counts long behind =
    judges_cond (HasFault at b) (ltb (length header) 6) (Err (BadLi at)) _
    (λ e. li_first at b (inr (kind, header, u, λ c. too_short (length header) 6 e (long c))))
    (λ e.
    let le : 6 ≤ length header = ltb-false (length header) 6 e in
    let j = parameters_judged kind (at + 7) (drop 6 header) looks (octets_drop 6 header octets) in
    judges_map (HasFault at b) (known_at (at + 7) (drop 6 header)) (λ p. content header p user)
    (search (arith, behind_judged)))

kind_judged : (kind : Kind) (at : ℕ) (b header user : List ℕ) → IsOctets header → BeginsUnit kind b header →
    Judges (HasFault at b) (read_as kind at header user)
unfolding request_of confirm_of disconnect_of disconnected_of transfer_of acknowledge_of error_of
kind_judged Request at b header user octets u =
    judges_map (HasFault at b) (connect_of at header user) request
    (connect_judged at b header user Request octets u tt (λ le. le) (λ le. le) refl)
kind_judged Confirm at b header user octets u =
    judges_map (HasFault at b) (connect_of at header user) (confirm (reference_at 1 header))
    (connect_judged at b header user Confirm octets u tt (λ le. le) (λ le. le) refl)
kind_judged Disconnect at b header user octets u =
    judges_cond (HasFault at b) (ltb (length header) 6) (Err (BadLi at)) _
    (λ e. li_first at b (inr (Disconnect, header, u, too_short (length header) 6 e)))
    (λ e.
    let le : 6 ≤ length header = ltb-false (length header) 6 e in
    let j = skips_judged Disconnect (at + 7) (drop 6 header) (λ no. no) (octets_drop 6 header octets) in
    judges_map (HasFault at b) (all_skipped_at (at + 7) (drop 6 header))
    (λ skipped. disconnect (reference_at 1 header) (reference_at 3 header) (get_or header 5 0) user)
    (search (arith, behind_judged)))
kind_judged Disconnected at b header user octets u =
    judges_cond (HasFault at b) (eqb (length header) 5) (Ok (disconnected (reference_at 1 header) (reference_at 3 header))) (Err (BadLi at))
    (λ e. plain_fine at b header Disconnected u (eqb-true (length header) 5 e) (λ n no. no))
    (λ e. li_first at b (inr (Disconnected, header, u, eqb-false (length header) 5 e)))
kind_judged Transfer at b header user octets u =
    judges_cond (HasFault at b) (eqb (length header) 2) (Ok (data0 (leb 128 (get_or header 1 0)) user)) _
    (λ e. plain_fine at b header Transfer u (inl (eqb-true (length header) 2 e)) (λ n no. no))
    (λ e. judges_cond (HasFault at b) (eqb (length header) 4)
    (Ok (data2 (reference_at 1 header) (get_or header 3 0 % 128) (leb 128 (get_or header 3 0)) user)) (Err (BadLi at))
    (λ d. plain_fine at b header Transfer u (inr (eqb-true (length header) 4 d)) (λ n no. no))
    (λ d. li_first at b (inr (Transfer, header, u, grind (arith, eqb-false)))))
kind_judged Acknowledge at b header user octets u =
    judges_cond (HasFault at b) (eqb (length header) 4)
    (Ok (acknowledge (get_or header 0 0 % 16) (reference_at 1 header) (get_or header 3 0 % 128))) (Err (BadLi at))
    (λ e. plain_fine at b header Acknowledge u (eqb-true (length header) 4 e) (λ n no. no))
    (λ e. li_first at b (inr (Acknowledge, header, u, eqb-false (length header) 4 e)))
kind_judged Report at b header user octets u =
    judges_cond (HasFault at b) (ltb (length header) 4) (Err (BadLi at)) _
    (λ e. li_first at b (inr (Report, header, u, too_short (length header) 4 e)))
    (λ e.
    let le : 4 ≤ length header = ltb-false (length header) 4 e in
    let j = skips_judged Report (at + 5) (drop 4 header) (λ no. no) (octets_drop 4 header octets) in
    judges_map (HasFault at b) (all_skipped_at (at + 5) (drop 4 header)) (λ skipped. error (reference_at 1 header) (get_or header 3 0))
    (search (arith, behind_judged)))

-- ---- any code

code_first : (at : ℕ) (b header behind : List ℕ) → HasHeader b header behind → ((kind : Kind) → HasCode kind (get_or header 0 0) → ⊥) →
    IsFirst (HasFault at b) (UnknownCode (at + 1))
code_first at b header behind there unknown =
    let none = λ (kind : Kind) (h : List ℕ) (u : BeginsUnit kind b h). unknown kind
    (subst (λ (o : List ℕ). HasCode kind (get_or o 0 0)) (same_header b h u.behind header behind u.there there) u.code) in
    record {
      there = inr (inl (refl, (header, behind, there, unknown)));
      first = λ f h. elim h [
        | inl a ↦ elim a.1 [
          | inl none_there ↦ absurd (none_there header behind there)
          | inr c ↦ absurd (none c.0 c.1 c.2)
        ]
        | inr a ↦ grind arith
      ];
    }

value_judged : (at : ℕ) (b header behind : List ℕ) → IsOctets header → HasHeader b header behind →
    Judges (HasFault at b) (value_of at header behind)
value_judged at b header behind octets there =
    by_kind (Judges (HasFault at b)) at header behind
    (λ kind code. kind_judged kind at b header behind octets (record { behind = behind; there = there; code = code }))
    (code_first at b header behind there)

-- ---- whole units

header_bad : (at : ℕ) (b : List ℕ) (f : TpduFault) → header_at at b ≡ Err f → f ≡ BadLi at
unfolding header_at
header_bad at b f e = grind (arith, get_or, chosen)

header_none : (at : ℕ) (b : List ℕ) (f : TpduFault) → header_at at b ≡ Err f → HasNoHeader b
header_none at b f e header behind h = grind (arith, header_again)

pub unit_judged : (at : ℕ) (b : List ℕ) → IsOctets b → Judges (HasFault at b) (unit_at at b)
unfolding unit_at
unit_judged at b octets =
    judges_bind (HasFault at b) (header_at at b) _
    (λ f e. subst (λ (g : TpduFault). IsFirst (HasFault at b) g) (sym (header_bad at b f e)) (li_first at b (inl (header_none at b f e))))
    (λ x e.
    let found = header_found at b x e in
    let there : HasHeader b x.0 x.1 = record { whole = found.0; at_least = found.1; at_most = found.2 } in
    let whole : IsOctets (length x.0 ∷ x.0 ++ x.1) = subst (λ (s : List ℕ). IsOctets s) found.0 octets in
    search (arith, judges_map, value_of, cond, value_judged, octets_left x.0 x.1 (IsOctets-rest (length x.0) (x.0 ++ x.1) whole)))

abbrev Read : Type 0
Read = Result (Value × ℕ) TpduFault

fault_by : (at : ℕ) (b : List ℕ) (f : TpduFault) (r : Read) → r ≡ Err f → Judges (HasFault at b) r → IsUnitFault at b f
fault_by at b f r e j = grind arith

-- the fault returned is the first
pub unit_fault_found : (at : ℕ) (b : List ℕ) (f : TpduFault) → IsOctets b → unit_at at b ≡ Err f → IsUnitFault at b f
unit_fault_found at b f octets e = fault_by at b f (unit_at at b) e (unit_judged at b octets)

-- there is one first
pub one_first : (Has : TpduFault → Type 0) (f g : TpduFault) → IsFirst Has f → IsFirst Has g → f ≡ g
one_first Has f g a b = grind arith

only_by : (at : ℕ) (b : List ℕ) (f : TpduFault) (r : Read) → IsUnitFault at b f → Judges (HasFault at b) r → r ≡ Err f
only_by at b f (Ok x) first j = absurd (j f first.there)
only_by at b f (Err g) first j = ap (λ (h : TpduFault). (let r : Read = Err h in r)) (one_first (HasFault at b) g f j first)

-- and the first fault is returned
pub unit_fault_only : (at : ℕ) (b : List ℕ) (f : TpduFault) → IsOctets b → IsUnitFault at b f → unit_at at b ≡ Err f
unit_fault_only at b f octets first = only_by at b f (unit_at at b) first (unit_judged at b octets)

read_by : (at : ℕ) (b : List ℕ) (r : Read) → Judges (HasFault at b) r → ((f : TpduFault) → ¬ (HasFault at b f)) → IsOk r
read_by at b (Ok x) j none = refl
read_by at b (Err g) j none = absurd (none g j.there)

clean_by : (at : ℕ) (b : List ℕ) (r : Read) → Judges (HasFault at b) r → IsOk r → (f : TpduFault) → ¬ (HasFault at b f)
clean_by at b (Ok x) j ok f h = j f h
clean_by at b (Err g) j ok f h = absurd (false≢true ok)

-- a unit without a fault is read, and no other
pub unit_clean : (at : ℕ) (b : List ℕ) → IsOctets b → ((f : TpduFault) → ¬ (HasFault at b f)) → IsOk (unit_at at b)
unit_clean at b octets none = read_by at b (unit_at at b) (unit_judged at b octets) none

pub clean_unit : (at : ℕ) (b : List ℕ) → IsOctets b → IsOk (unit_at at b) → (f : TpduFault) → ¬ (HasFault at b f)
clean_unit at b octets ok = clean_by at b (unit_at at b) (unit_judged at b octets) ok
