-- Each unit keeps the invariant of a session.
use Rattle.std.proofs.Common.{◌≡◌, refl, ℕ, ◌≤◌, Bool, true, List, [], ◌∷◌, Option, Some, None, arith, if◌then◌else◌}
use Rattle.osi_session.proofs.Vocabulary.{leb-true, and_parts, TokenSetting, RestartDue, Ended, UnitFault, State, point_taken}
use Rattle.osi_session.proofs.Vocabulary.{minor_confirmed, restarted_at, in_major, is_restart_due, may_hold, is_ready, is_wait_cn}
use Rattle.osi_session.proofs.Vocabulary.{is_major_asked, without_tokens, IsSound, Meaning, CN, AC, MIP, MAA, RS, IsNumbered, Condition}
use Rattle.osi_session.proofs.Vocabulary.{conditions, first_fault, is_expected, stands, becomes, respond_unit, AllMet}
use Rattle.osi_session.proofs.tables.what_is_true_of_each_phase.{implied, excluded}
use Rattle.osi_session.proofs.tables.the_outcomes_of_each_input.{unit_cases}
use Rattle.osi_session.proofs.values.what_sizes_are_agreed.{smaller_are}
use Rattle.osi_session.proofs.runs.numbers_stay_in_order.{taken_ordered, major_ordered, restart_ordered}
use Rattle.osi_session.proofs.runs.calls_keep_the_invariant.{bare, holding_phase, moved, opened}

none_if : (b : Bool) (a : Option UnitFault) (f : UnitFault) → (if b then a else Some f) ≡ None → (b ≡ true) × (a ≡ None)
none_if b a f h = grind arith

pub all_met : (n : ℕ) (cs : List Condition) → first_fault n cs ≡ None → AllMet cs
all_met n [] h = tt
all_met n (c ∷ cs) h = let one = none_if c.0 (first_fault n cs) (c.1 n) h in (one.0, all_met n cs one.1)

chosen : (b : Bool) (x y : State) → IsSound x → IsSound y → IsSound (if b then x else y)
chosen b x y h k = grind arith

chosen_if : (b : Bool) (x y : State) → (b ≡ true → IsSound x) → IsSound y → IsSound (if b then x else y)
chosen_if b x y h k = grind arith

restart_moved : (s : State) (n : ℕ) (w : TokenSetting) → s.base ≤ n → n ≤ 999999 → IsSound s
    → IsSound (record (without_tokens RestartDue s) { wishes = w; numbers = restarted_at n s.numbers })
unfolding restarted_at
restart_moved s n w h0 h1 h2 = grind (arith, restart_ordered)

-- the state after a good unit
pub becomes_sound : (s : State) (u : Meaning) → IsNumbered u → is_expected s.phase u ≡ true → AllMet (conditions s u) → IsSound s →
    IsSound (becomes s u)
unfolding minor_confirmed point_taken
becomes_sound s (CN version_2 requirements serial wishes from to sizes octets) small p t h =
    search (arith, chosen_if, excluded is_wait_cn may_hold refl s.phase p, bare Ended s refl refl h)
becomes_sound s (AC version_2 requirements serial sides sizes octets) small p t h = search (arith, opened, smaller_are)
becomes_sound s (MIP confirm n octets) small p t h =
    moved (point_taken s.numbers) s (taken_ordered s.base s.numbers h.ordered (grind arith))
    (λ k. absurd (let m = excluded is_ready in_major refl s.phase p in cc))
    (excluded is_ready is_restart_due refl s.phase p) h
becomes_sound s (MAA n octets) small p t h =
    grind (arith, holding_phase, moved, major_ordered s.base s.numbers h.ordered, excluded is_major_asked is_restart_due refl s.phase p)
becomes_sound s (RS kind n wishes octets) small p t h =
    chosen (stands s n) _ _ (restart_moved s n wishes (leb-true s.base n (and_parts _ _ t.1.0).0) small h) h
becomes_sound s _ small p t h = grind (arith, implied, bare, holding_phase, and_parts, leb-true, moved, excluded, taken_ordered)

pub unit_sound : (s : State) (u : Meaning) → IsNumbered u → IsSound s → IsSound (respond_unit s u).next
unit_sound s u small h = unit_cases IsSound s u (grind (arith, bare, becomes_sound s u small))
