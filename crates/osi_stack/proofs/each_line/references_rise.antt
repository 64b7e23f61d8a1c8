-- The lines of an end are in the order in which their references were given.
use Rattle.std.proofs.Common.{◌≡◌, ℕ, ◌+◌, ◌<◌, zero, suc, take, [], ◌∷◌, ◌++◌, option_map, refl, sym, subst, arith}
use Rattle.osi_stack.proofs.Vocabulary.{Value, tsap_octets, asks, RiseFrom, AreUpTo, Rows, Connection, rise_lower, put_rise, Input}
use Rattle.osi_stack.proofs.Vocabulary.{Listener, awaits, calls_with, connects, breaks, without_first, all_lost, Soundness, Effect, begins}
use Rattle.osi_stack.proofs.Vocabulary.{happens, rests, Hears, Arrives, told_all, to_session, Line, End, used_lines, joins, Connect}
use Rattle.osi_stack.proofs.carried.what_each_step_preserves.{concluded_end}
use Rattle.osi_stack.proofs.carried.what_a_move_leaves.{used_keep, first_keep}

-- ---- rows

-- a reference above all others comes last
pub rise_push : (n g r : ℕ) (line : Line) (lines : Rows Line) → n < r → g < r → AreUpTo g lines → RiseFrom n lines →
    RiseFrom n (lines ++ (r, line) ∷ [])
rise_push n g r line [] above over up rise = (above, tt)
rise_push n g r line ((q, y) ∷ lines) above over up rise =
    (rise.0, rise_push q g r line lines (let low = up.0 in omega arith) over up.1 rise.1)

-- some are dropped
pub rise_used : (n : ℕ) (live : Rows Connection) (lines : Rows Line) → RiseFrom n lines → RiseFrom n (used_lines live lines)
rise_used n live [] rise = tt
rise_used n live ((p, y) ∷ lines) rise = grind (arith, used_keep, rise_lower, rise_used p live lines rise.1)

-- the first of them
pub rise_take : (n k : ℕ) (lines : Rows Line) → RiseFrom n lines → RiseFrom n (take k lines)
rise_take n zero lines rise = tt
rise_take n (suc k) [] rise = tt
rise_take n (suc k) ((p, y) ∷ lines) rise = (rise.0, rise_take p k lines rise.1)

pub rise_lost : (n : ℕ) (lines : Rows Line) → RiseFrom n lines → RiseFrom n (all_lost lines)
rise_lost n [] rise = tt
rise_lost n ((p, y) ∷ lines) rise = (rise.0, rise_lost p lines rise.1)

pub rise_first : (n : ℕ) (lines : Rows Line) → RiseFrom n lines → RiseFrom n (without_first lines)
rise_first n [] rise = tt
rise_first n ((p, y) ∷ lines) rise = first_keep (RiseFrom n) p y lines (rise.0, rise_first p lines rise.1) (λ left. rise)

-- ---- what happens to an end

-- a new line has a reference above those that were given
pub rise_joins : (g r : ℕ) (s : Listener) (e : End) → g < r → AreUpTo g e.lines → RiseFrom 0 e.lines → RiseFrom 0 (joins r s e).lines
rise_joins g r s e over up rise = grind (arith, rise_used, rise_push)

pub rise_session : (r : ℕ) (input : Input) (e : End) → RiseFrom 0 e.lines → RiseFrom 0 (to_session r input e).lines
rise_session r input e rise = grind (arith, put_rise)

pub rise_connect : (c : Connect) (e : End) → Soundness e → RiseFrom 0 e.lines → RiseFrom 0 (connects c e).lines
rise_connect c e sound rise =
    rise_joins e.carrier.given (e.carrier.given + 1) (calls_with c)
    (record e { carrier = asks (option_map tsap_octets c.calling_tsap) (option_map tsap_octets c.called_tsap) e.carrier }) (omega arith)
    sound.known rise

pub rise_breaks : (e : End) → RiseFrom 0 e.lines → RiseFrom 0 (breaks e).lines
rise_breaks e rise = grind (arith, rise_lost)

rise_hears : (r : ℕ) (effect : Effect) (e new : End) → Hears r effect e new → (g : ℕ) → AreUpTo g e.lines → (effect ≡ begins → g < r) →
    RiseFrom 0 e.lines → RiseFrom 0 new.lines
rise_hears r begins e new h g up over rise = subst (λ (x : End). RiseFrom 0 x.lines) (sym h) (rise_joins g r awaits e (over refl) up rise)
rise_hears r (happens input) e new h g up over rise = subst (λ (l : Rows Line). RiseFrom 0 l) (sym h.lines) (put_rise 0 r _ e.lines rise)
rise_hears r rests e new h g up over rise = subst (λ (x : End). RiseFrom 0 x.lines) (sym h) rise

-- a connection that begins was not given before
pub rise_arrives : (r : ℕ) (effect : Effect) (v : Value) (e new : End) → Arrives r effect v e new → AreUpTo e.carrier.given e.lines →
    (effect ≡ begins → e.carrier.given < r) →
    RiseFrom 0 e.lines → RiseFrom 0 new.lines
rise_arrives r effect v e new a up over rise =
    grind (arith, concluded_end, rise_lost, rise_hears r effect (told_all v e) a.heard a.hears e.carrier.given up over rise)
