-- A request for a connection gets the machine's answer.
-- For calls.
use Rattle.osi_carrier.specs.declared.faults.OpenError.TheVariants as opening
use Rattle.osi_machine.specs.Machine.{is_live}
use Rattle.osi_pair.proofs.Vocabulary.{◌≡◌, refl, sym, ◌∙◌, ap, subst, ℕ, zero, suc, ◌+◌, ◌≤◌, ◌==◌, ◌&&◌, Bool, true, not, nat_le, nat_lt}
use Rattle.osi_pair.proofs.Vocabulary.{if◌then◌else◌, List, [], ◌∷◌, length, map, Option, Some, None, option_map, is_some, arith, eqb-true}
use Rattle.osi_pair.proofs.Vocabulary.{nat_tests, length-map, list_any, slice_get, Class, Zero, Two, or_else, was_given, RiseFrom, AreUpTo}
use Rattle.osi_pair.proofs.Vocabulary.{Rows, value_at, Connection, asked, State as Carrier, EndReason, OpenError, absent, Both, Between}
use Rattle.osi_pair.proofs.Vocabulary.{AreBetween, Terms, terms_of, Refusal, has_ended, negotiating, one_connection, too_many}
use Rattle.osi_pair.proofs.Vocabulary.{references_used_up, not_selected, too_long, is_waiting, is_known, is_class_0, live_count, Line}
use Rattle.osi_pair.proofs.Vocabulary.{Tables, refusal, transport_of, Transport, unit_bits, is_profile, is_long, after_open, connect_error}
use Rattle.osi_pair.proofs.Vocabulary.{ConnectError, NotSelected, TooLong, asked_of, TwoEnds, answer_with, transport_in, class_in, offer_in}
use Rattle.osi_pair.proofs.Vocabulary.{answer_in, carriers_of, Stands, ConnectCall as Connect, AllByRecursion, none_there}
use Rattle.osi_pair.proofs.turn.what_an_acting_end_leaves_in_flight.{place_given, there}

-- ---- the live connections are those of the lines

-- the transport connections of this many references after this one
transports : ℕ → ℕ → Rows Connection → List Transport
transports k zero live = []
transports k (suc m) live = transport_in (was_given (value_at (k + 1) live)) ∷ transports (k + 1) m live

AreTransports : ℕ → List Line → Rows Connection → Type 0
AreTransports k lines live =
    (i : ℕ) (l : Line) → slice_get lines i ≡ Some l → l.own.transport ≡ transport_in (was_given (value_at (k + suc i) live))

transports_are : (k : ℕ) (lines : List Line) (live : Rows Connection) → AreTransports k lines live →
    map transport_of lines ≡ transports k (length lines) live
unfolding transports AreTransports
transports_are k [] live h = refl
transports_are k (l ∷ lines) live h =
    ap (λ (t : Transport). t ∷ map transport_of lines) (h 0 l refl)
    ∙ ap (λ (ts : List Transport). transport_in (was_given (value_at (k + 1) live)) ∷ ts)
    (transports_are (k + 1) lines live
    (λ i m at. h (suc i) m at ∙ ap (λ (n : ℕ). transport_in (was_given (value_at n live))) (omega arith)))

-- a row before those that are looked at
skip : (k m q : ℕ) (x : Connection) (live : Rows Connection) → q ≤ k → transports k m ((q, x) ∷ live) ≡ transports k m live
unfolding transports
skip k zero q x live le = refl
skip k (suc m) q x live le = grind (arith, nat_tests, transports, skip (k + 1) m q x live (omega arith))

count_by : (k m q : ℕ) (x : Connection) (live : Rows Connection) (b : Bool) → (q == k + 1) ≡ b → RiseFrom k ((q, x) ∷ live) →
    AreUpTo (k + suc m) ((q, x) ∷ live) →
    ((rows : Rows Connection) → RiseFrom (k + 1) rows → AreUpTo (k + 1 + m) rows → live_count (transports (k + 1) m rows) ≡ length rows) →
    live_count (transports k (suc m) ((q, x) ∷ live)) ≡ length ((q, x) ∷ live)
unfolding transports
count_by k m q x live b e rise up more = grind (arith, eqb-true, transports, skip, nat_tests, absent)

count_live : (k m : ℕ) (live : Rows Connection) → RiseFrom k live → AreUpTo (k + m) live → live_count (transports k m live) ≡ length live
unfolding transports
count_live k zero [] rise up = refl
count_live k zero ((q, x) ∷ live) rise up = let a = rise.0 in let b = up.0 in absurd (omega arith)
count_live k (suc m) [] rise up = count_live (k + 1) m [] tt tt
count_live k (suc m) ((q, x) ∷ live) rise up = count_by k m q x live (q == k + 1) refl rise up (λ rows. count_live (k + 1) m rows)

-- ---- one that awaits its answer

-- if all live connections await their answer
AllAsked : Rows Connection → Type 0
AllAsked live = (n : ℕ) (x : Connection) → value_at n live ≡ Some x → x ≡ asked

wait_by : (o : Option Connection) → ((x : Connection) → o ≡ Some x → x ≡ asked) →
    is_waiting (transport_in (was_given o)) ≡ is_live (transport_in (was_given o))
wait_by o all = grind arith

all_wait : (k m : ℕ) (live : Rows Connection) → AllAsked live → AllByRecursion (λ x. is_waiting x ≡ is_live x) (transports k m live)
unfolding transports AllAsked
all_wait k zero live all = tt
all_wait k (suc m) live all = (wait_by (value_at (k + 1) live) (all (k + 1)), all_wait (k + 1) m live all)

-- one awaits it if any is live
any_waits : (ts : List Transport) → AllByRecursion (λ x. is_waiting x ≡ is_live x) ts → list_any is_waiting ts ≡ nat_lt 0 (live_count ts)
any_waits [] all = refl
any_waits (x ∷ ts) all = grind (arith, nat_tests, any_waits ts all.1)

-- ---- the tests, one by one

-- what the two make of the tests
abbrev by_tests : (over known waits zero_class many up profile long : Bool) → Option Refusal
by_tests over known waits zero_class many up profile long =
    if over then Some has_ended
    else if not known && waits then Some negotiating
    else if zero_class then Some one_connection
    else if many then Some too_many
    else if up then Some references_used_up
    else if not profile then Some not_selected
    else if long then Some too_long
    else None

abbrev by_class : Option Class → (waits : Bool) → Option OpenError
by_class None waits = if waits then Some opening.Negotiating else None
by_class (Some Zero) waits = Some opening.OneConnection
by_class (Some Two) waits = None

abbrev error_by_tests : Option Class → (over waits many up profile long : Bool) → Option ConnectError
error_by_tests class over waits many up profile long =
    after_open (if over then Some opening.Ended else or_else (by_class class waits)
    (if many then Some opening.TooMany else (if up then Some opening.ReferencesUsedUp else None)))
    (if not profile then Some NotSelected else (if long then Some TooLong else None))

-- ---- at two ends that match the tables

-- before a class is agreed, each that is live awaits its answer
abbrev pub Awaits : Type 0
Awaits = (terms : Terms) (both : Both) (b : Between) (n : ℕ) (x : Connection) → AreBetween terms both b → b.caller.class ≡ None →
    value_at n b.caller.live ≡ Some x → x ≡ asked

lines_are : (p : TwoEnds) (b : Between) (t : Tables) → Stands p b t → AreTransports 0 t.lines p.left.end.carrier.live
unfolding AreTransports
lines_are p b t s i l at =
    let h = there none_there (suc i) p b t l s at in
    let given : suc i ≤ p.left.end.carrier.given = (let most = h.within in let all = s.given in omega arith) in
    h.is.left.transport ∙ ap transport_in (place_given (suc i) p.left.end.carrier given)
    ∙ ap (λ (n : ℕ). transport_in (was_given (value_at n p.left.end.carrier.live))) (omega arith)

tests : (g : ℕ) (class : Option Class) (over some waits many up profile long : Bool) → (class ≡ None → waits ≡ some) →
    answer_in (answer_with g (error_by_tests class over some many up profile long)) ≡ Some
    (by_tests over (is_known (option_map class_in class)) waits (is_class_0 (option_map class_in class)) many up profile long)
tests g class over some waits many up profile long h = grind arith

-- what both agree on while the left end lasts
alive_by : (g : ℕ) (c : Connect) (p : TwoEnds) (b : Between) (t : Tables) → Stands p b t → p.left.end.carrier.ended ≡ None →
    (p.left.end.carrier.class ≡ None → list_any is_waiting (map transport_of t.lines) ≡ nat_lt 0 (length p.left.end.carrier.live)) →
    live_count (map transport_of t.lines) ≡ length p.left.end.carrier.live →
    answer_in (answer_with g (connect_error c p.left.end)) ≡ Some (refusal t (offer_in (asked_of c)))
alive_by g c p b t s lasts same count =
    let e : Carrier = p.left.end.carrier in
    let over : is_some t.left_end ≡ is_some e.ended = grind arith in
    let up : nat_le 65535 (length (map transport_of t.lines)) ≡ nat_le 65535 e.given =
    ap (nat_le 65535) (length-map t.lines transport_of ∙ s.given) in
    ap (λ (o : Option ConnectError). answer_in (answer_with g o)) (grind (arith, s.caller))
    ∙ tests g e.class (is_some e.ended) (nat_lt 0 (length e.live)) (list_any is_waiting (map transport_of t.lines))
    (nat_le 64 (length e.live)) (nat_le 65535 e.given) (is_profile (unit_bits c.requirements)) (is_long c) same
    ∙ sym (ap Some (grind arith))

pub refusal_same : Awaits → (g : ℕ) (c : Connect) (p : TwoEnds) (b : Between) (t : Tables) (ended : Option EndReason) → Stands p b t →
    p.left.end.carrier.ended ≡ ended → answer_in (answer_with g (connect_error c p.left.end)) ≡ Some (refusal t (offer_in (asked_of c)))
unfolding AllAsked
refusal_same awaits g c p b t (Some reason) s is = grind arith
refusal_same awaits g c p b t None s is =
    let e : Carrier = p.left.end.carrier in
    let o = (s.order_left is).sound.orderly in
    let lives : e ≡ b.caller = s.between.lives true is in
    let all : map transport_of t.lines ≡ transports 0 (length t.lines) e.live = transports_are 0 t.lines e.live (lines_are p b t s) in
    let up : AreUpTo (0 + length t.lines) e.live = subst (λ (n : ℕ). AreUpTo n e.live) (let x = s.given in omega arith) o.up_to in
    let count = ap live_count all ∙ count_live 0 (length t.lines) e.live o.rise up in
    alive_by g c p b t s is
    (λ none. any_waits (map transport_of t.lines)
    (subst (AllByRecursion (λ x. is_waiting x ≡ is_live x)) (sym all) (all_wait 0 (length t.lines) e.live
    (λ n x at. awaits (terms_of p.left.end.carrier.local p.right.end.carrier.local) (carriers_of p) b n x s.between
    (ap (λ (y : Carrier). y.class) (sym lives) ∙ none) (ap (λ (y : Carrier). value_at n y.live) (sym lives) ∙ at))))
    ∙ ap (nat_lt 0) count) count
