-- What needs memory writes, reports or keeps something.
use Rattle.osi_carrier.proofs.Vocabulary.{or_left, or_right, lt-ltb, ltb-true, sum_by-cons, packet_of, Value, Connect, disconnect}
use Rattle.osi_carrier.proofs.Vocabulary.{disconnected, written, Standing, Hands, taken, needs_memory, part_needs_memory, LinkFault, Class}
use Rattle.osi_carrier.proofs.Vocabulary.{Two, drained_leaves, begun_by, kept_in, grows, Happening, tsdu, written_by, accepts, breaks}
use Rattle.osi_carrier.proofs.Vocabulary.{denies, handed_out, leaves, opens, taking, to_unknown, Rows, value_at, put, peer_in, link_in}
use Rattle.osi_carrier.proofs.Vocabulary.{Connection, State, packets, drops, tells, link_grows, units_after, whole_after, link_after, ◌≡◌}
use Rattle.osi_carrier.proofs.Vocabulary.{ℕ, ◌+◌, ◌<◌, ◌≤◌, ◌⊎◌, Bool, true, List, [], ◌∷◌, ◌++◌, length, Option, Some, Result, Ok, Err}
use Rattle.osi_carrier.proofs.Vocabulary.{IfOk, IsOk, OnErr, map, refl, subst, nat_lt, length-append, arith, Flow, with_part, TakesUnit}
use Rattle.osi_carrier.proofs.Vocabulary.{choose_ok}
use Rattle.osi_class.specs.declared.faults.LinkFault.TheVariants.{OutOfMemory}
pub use Rattle.std.proofs.lemmas.Bool.{or_cases}
use Rattle.osi_carrier.proofs.references.what_is_open.{open_is}
use Rattle.osi_carrier.proofs.references.rows_after_a_change.{along_rows}

-- ---- at a link

abbrev Grown : ℕ → Standing → Standing → Type 0
Grown peer s t = link_grows peer s (Ok t) ≡ true

part_grows : (peer : ℕ) (s : Standing) (flow : Option Flow) (end : Bool) (octets : List ℕ) → part_needs_memory end octets ≡ true →
    Grown peer s (record { ends = record s.ends { joining = with_part s.ends.joining end octets }; flow = flow })
unfolding link_grows
part_grows peer s flow end octets needs = grind (arith, or_right, or_left, lt-ltb, drained_leaves, ltb-true, length-append)

grown_of : (peer : ℕ) (s : Standing) (r : Result Standing LinkFault) → IfOk r (Grown peer s) → IsOk r → link_grows peer s r ≡ true
grown_of peer s r h ok = grind arith

-- a unit that the link would take if there were memory
pub taken_grows : (peer : ℕ) (s : Standing) (unit : Value) → needs_memory unit ≡ true → IsOk (taken s unit) →
    link_grows peer s (taken s unit) ≡ true
taken_grows peer s unit needs ok = grown_of peer s (taken s unit) (grind (arith, part_grows, choose_ok)) ok

-- what a call of a link answers if memory ran out
pub want_taken : {A : Type 0} (r : Result A LinkFault) (f : LinkFault) (needs : Bool) (t : Result Standing LinkFault) (old new : Standing) →
    r ≡ Err f → f ≡ OutOfMemory →
    TakesUnit r needs t old new → (needs ≡ true) × IsOk t
want_taken r f needs t old new e g h = grind arith

given_grows : (peer : ℕ) (s t : Standing) → nat_lt 0 (length (written_by peer (handed_out t))) ≡ true → Grown peer s t
unfolding link_grows
given_grows peer s t some = or_left _ _ (subst (λ (n : ℕ). nat_lt 0 n ≡ true) refl some)

-- a unit that was taken, after which the link gives a unit
pub pump_grows : (peer : ℕ) (s t u : Standing) (o : Option (List ℕ)) (r : Result Standing LinkFault) → r ≡ Ok t → Hands o t u →
    nat_lt 0 (length (written_by peer u)) ≡ true → link_grows peer s r ≡ true
pump_grows peer s t u o r ok handed some = grind (arith, link_grows, given_grows)

-- memory is needed only if something is to be written
pub some_written : (us : List Value) (spare : ℕ) → (length (packets us) ≤ spare → ⊥) → nat_lt 0 (length us) ≡ true
some_written [] spare full = absurd (full (omega arith))
some_written (u ∷ us) spare full = lt-ltb 0 (length (u ∷ us)) (omega arith)

-- ---- of a carrier

pub octets_some : (us : List Value) → 0 < length us → 0 < length (packets us)
octets_some [] some = omega arith
octets_some (u ∷ us) some = let size = length-append (packet_of (written u)) (packets us) in omega arith

pub written_grows : (old new : State) (us : List Value) → 0 < length us → new.outgoing ≡ old.outgoing ++ packets us → grows old new ≡ true
unfolding grows
written_grows old new us some e = grind (arith, octets_some, length-append, or_left, lt-ltb)

pub told_grows : (old new : State) (events : List Happening) → 0 < length events → new.events ≡ old.events ++ events → grows old new ≡ true
unfolding grows
told_grows old new events some e = grind (arith, length-append, or_right, or_left, lt-ltb)

pub kept_grows : (old new : State) → kept_in old.live < kept_in new.live → grows old new ≡ true
unfolding grows
kept_grows old new more = or_right _ _ (or_right _ _ (lt-ltb (kept_in old.live) (kept_in new.live) more))

-- one event is reported
pub tells_grows : (old new : State) (event : Happening) → new.events ≡ old.events ++ event ∷ [] → grows old new ≡ true
tells_grows old new event e = told_grows old new (event ∷ []) (omega arith) e

-- one unit is written
pub writes_grows : (old new : State) (unit : Value) → new.outgoing ≡ old.outgoing ++ packets (unit ∷ []) → grows old new ≡ true
writes_grows old new unit e = written_grows old new (unit ∷ []) (omega arith) e

pub tells_drops_grows : (event : Happening) (r : ℕ) (s : State) → grows s (tells event (drops r s)) ≡ true
tells_drops_grows event r s = tells_grows s (tells event (drops r s)) event refl

pub unknown_grows : (destination source reason : ℕ) (user : List ℕ) (s : State) →
    grows s (to_unknown (disconnect destination source reason user) s).state ≡ true
unknown_grows destination source reason user s =
    writes_grows s (to_unknown (disconnect destination source reason user) s).state (disconnected source destination) refl

pub denies_grows : (reason peer : ℕ) (s : State) → grows s (denies reason peer s).state ≡ true
denies_grows reason peer s = writes_grows s (denies reason peer s).state (disconnect peer 0 reason []) refl

pub accepts_grows : (class : Class) (size : Option ℕ) (c : Connect) (s : State) → grows s (accepts class size c s).state ≡ true
accepts_grows class size c s = tells_grows s (accepts class size c s).state _ refl

pub opens_grows : (r : ℕ) (c : Connect) (class : Class) (s : State) → grows s (opens r c (Some class) s).state ≡ true
opens_grows r c class s = tells_grows s (opens r c (Some class) s).state _ refl

pub leaves_grows : (r peer reason : ℕ) (held : Option Class) (s : State) → grows s (leaves r peer reason held s).state ≡ true
leaves_grows r peer reason held s = grind (arith, tells_grows)

pub breaks_grows : (r peer : ℕ) (fault : LinkFault) (held : Option Class) (s : State) → held ≡ Some Two →
    grows s (breaks r peer fault held s).state ≡ true
breaks_grows r peer fault held s e = grind (arith, tells_grows)

-- a unit for which memory ran out
pub on_want : {A E P : Type 0} (result : Result A E) → P → OnErr result P
on_want result p = grind arith

-- ---- what a link adds is added to the carrier

put_kept : (r : ℕ) (x y : Connection) (rows : Rows Connection) → value_at r rows ≡ Some x →
    kept_in (put r y rows) + begun_by x ≡ kept_in rows + begun_by y
put_kept r x y rows h =
    along_rows r (λ l. value_at r l ≡ Some x → kept_in (put r y l) + begun_by x ≡ kept_in l + begun_by y) (λ h. cc)
    (λ q z l b e more h.
    let sum = λ (row : ℕ × Connection) (rows : Rows Connection). sum_by-cons (λ (row : ℕ × Connection). begun_by row.1) row rows in
    grind (arith, sum (q, z) l, sum (q, y) l, sum (q, z) (put r y l))) rows h

abbrev LinkGrows : ℕ → Standing → Result Standing LinkFault → Type 0
LinkGrows peer old t =
    (0 < length (units_after peer t)) ⊎
    ((0 < length (whole_after t)) ⊎ (length old.ends.joining.begun < length (link_after old t).ends.joining.begun))

link_cases : (peer : ℕ) (old : Standing) (t : Result Standing LinkFault) → link_grows peer old t ≡ true → LinkGrows peer old t
unfolding link_grows
link_cases peer old t h = grind (arith, or_cases, ltb-true)

length_told : (r : ℕ) (whole : List (List ℕ)) → length (map (tsdu r) whole) ≡ length whole
length_told r [] = refl
length_told r (octets ∷ whole) = let more = length_told r whole in omega arith

pub taking_grows : (r peer : ℕ) (s : State) (t : Result Standing LinkFault) → peer_in (value_at r s.live) ≡ Some peer →
    link_grows peer (link_in (value_at r s.live)) t ≡ true → grows s (taking r peer t s).state ≡ true
taking_grows r peer s t stands h = grind (arith, written_grows, length_told, told_grows, put_kept, kept_grows, open_is, link_cases)

-- a TSDU that became complete is reported
pub took_grows : (r peer : ℕ) (s : State) (t : Result Standing LinkFault) (whole : List (List ℕ)) → IsOk t → whole ≡ whole_after t →
    0 < length whole → grows s (taking r peer t s).state ≡ true
took_grows r peer s h whole ok e some = grind (arith, length_told, told_grows)

pub broke_grows : (r peer : ℕ) (s mid : State) (t : Result Standing LinkFault) (fault : LinkFault) → t ≡ Err fault → mid ≡ s →
    grows mid (breaks r peer fault mid.class mid).state ≡ true → grows s (taking r peer t s).state ≡ true
broke_grows r peer s mid t fault e same h = grind arith
