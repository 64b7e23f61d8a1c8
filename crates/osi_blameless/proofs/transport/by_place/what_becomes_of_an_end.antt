-- What a called end has after it has taken a unit: its class, its references, and which of its connections are live.
-- For the law on a whole called end.
use Rattle.osi_blameless.proofs.transport.Vocabulary.{[], ap, AreUpTo, arith, asked, Bool, breaks_in, CarrierOutcome, Class}
use Rattle.osi_blameless.proofs.transport.Vocabulary.{closes_with}
use Rattle.osi_blameless.proofs.transport.Vocabulary.{closing, confirm, destination_of, disconnect, disconnected, Ends, eqb-true}
use Rattle.osi_blameless.proofs.transport.Vocabulary.{Err, false}
use Rattle.osi_blameless.proofs.transport.Vocabulary.{Flow, Follows, handed_out, is_some, IsOrderly, link_now, linked, LinkFault}
use Rattle.osi_blameless.proofs.transport.Vocabulary.{List, Live, Local}
use Rattle.osi_blameless.proofs.transport.Vocabulary.{None, Ok, Option, packets, pumped, push_here, push_other, put, put_for}
use Rattle.osi_blameless.proofs.transport.Vocabulary.{put_here, put_other}
use Rattle.osi_blameless.proofs.transport.Vocabulary.{puts_none, refl, Result, Right, RiseFrom, row_here, Rows, Some, Standing}
use Rattle.osi_blameless.proofs.transport.Vocabulary.{State, state_is}
use Rattle.osi_blameless.proofs.transport.Vocabulary.{subst, sym, taken_by, taking, to_closing, to_linked, true, Two, unit_written}
use Rattle.osi_blameless.proofs.transport.Vocabulary.{Value, value_at, without, without_here, without_other, WrongForm, ℕ, ◌++◌, ◌==◌, ◌∙◌}
use Rattle.osi_blameless.proofs.transport.Vocabulary.{◌∷◌, ◌≡◌, ◌≤◌}
use Rattle.osi_blameless.proofs.transport.Vocabulary.{◌⊎◌}
unfoldable use Rattle.osi_carrier.specs.React.{react}
use Rattle.osi_blameless.proofs.transport.by_place.each_connection_has_its_place.{AreAbove}
use Rattle.osi_blameless.proofs.transport.lines.a_carrier_follows_lines.{outcome_at}
use Rattle.osi_blameless.proofs.transport.by_place.what_an_end_does_to_its_lines.{Leaves, still}
use Rattle.osi_blameless.proofs.transport.connections.what_is_live_at_an_end.{IsLive, shuts_of}
use Rattle.osi_blameless.proofs.transport.pieces.a_run_of_calls_is_events.{no_end}
use Rattle.osi_blameless.proofs.transport.class_0.a_dt_of_class_zero_passes.{unlike}
use Rattle.osi_blameless.proofs.transport.class_0.what_an_end_does_in_class_zero.{some_is}
use Rattle.osi_blameless.proofs.transport.by_place.what_an_end_does_to_its_lines.{shuts}

-- ---- the end

pub record IsCalled (local : Local) (s : State) : Type 0 where
  pub caller : s.is_caller ≡ false
  pub local_is : s.local ≡ local
  pub class : (s.class ≡ None) ⊎ (s.class ≡ Some Two)
  pub orderly : IsOrderly s
  pub none : (m : ℕ) → value_at m s.live ≡ Some asked → ⊥
  pub two : (m q : ℕ) (l : Standing) → value_at m s.live ≡ Some (linked q l) → s.class ≡ Some Two
  pub none_given : s.class ≡ None → s.given ≡ 0

pub record Same (s t : State) : Type 0 where
  pub caller : t.is_caller ≡ s.is_caller
  pub local_is : t.local ≡ s.local
  pub class : t.class ≡ s.class
  pub given : t.given ≡ s.given

pub called_still : (local : Local) (s t : State) → Same s t → IsOrderly t → ((m : ℕ) → value_at m t.live ≡ Some asked → ⊥) →
    ((m q : ℕ) (l : Standing) → value_at m t.live ≡ Some (linked q l) → s.class ≡ Some Two) → IsCalled local s → IsCalled local t
called_still local s t same orderly none two c = search (arith)

-- ---- what is changed of the live connections

pub data Touch (u : Value) (n : ℕ) (s t : State) : Type 0 where
  same_rows : t.live ≡ s.live → Touch u n s t
  puts_row : (z k : Live) → value_at n s.live ≡ Some z → (k ≡ asked → ⊥) → t.live ≡ put n k s.live → Touch u n s t
  drops_row : shuts_of Right u ≡ Some n → t.live ≡ without n s.live → Touch u n s t
  no_rows : t.live ≡ [] → is_some t.ended ≡ true → Touch u n s t

pub no_row : {A : Type 0} (o : Option Live) (k : Live) → o ≡ None → o ≡ Some k → A
no_row o k e h = absurd (cc)

pub touch_rows : (u : Value) (n : ℕ) (s t : State) → Touch u n s t → t.ended ≡ None → (m : ℕ) → (m ≡ n → ⊥) → value_at m t.live ≡ value_at
    m s.live
touch_rows u n s t l lasts m other = grind (arith, put_other, without_other, no_end)

pub touch_none : (u : Value) (n : ℕ) (s t : State) → Touch u n s t → RiseFrom 0 s.live → ((m : ℕ) → value_at m s.live ≡ Some asked → ⊥) →
    (m : ℕ) → value_at m t.live ≡ Some asked → ⊥
touch_none u n s t h rise none m = grind (arith, some_is, put_here, eqb-true, put_other, unlike, no_row, without_here, without_other)

lives_by : (u : Value) (n : ℕ) (s t : State) → Touch u n s t → t.ended ≡ None → (m : ℕ) (b : Bool) → (m == n) ≡ b → IsLive s m →
    (shuts_of Right u ≡ Some m → ⊥) → IsLive t m
lives_by u n s t h lasts m false e live other = grind (arith, touch_rows u n s t h lasts m (unlike m n e), unlike m n e)
lives_by u n s t (same_rows is) lasts m true e live other = ap (λ (l : Rows Live). is_some (value_at m l)) is ∙ live
lives_by u n s t (puts_row z k here settled is) lasts m true e live other = grind (arith, eqb-true, put_here)
lives_by u n s t (drops_row closes is) lasts m true e live other = grind (arith, eqb-true)
lives_by u n s t (no_rows is gone) lasts m true e live other = no_end t.ended gone lasts

pub touch_lives : (u : Value) (n : ℕ) (s t : State) → Touch u n s t → t.ended ≡ None → (m : ℕ) → IsLive s m →
    (shuts_of Right u ≡ Some m → ⊥) →
    IsLive t m
touch_lives u n s t h lasts m live other = lives_by u n s t h lasts m (m == n) refl live other

pushed_by : (r i : ℕ) (z k y : Live) (rows : Rows Live) (b : Bool) → (i == r) ≡ b → value_at r ((i, y) ∷ rows) ≡ Some z →
    (value_at r rows ≡ Some z → value_at r (rows ++ (r, k) ∷ []) ≡ Some z) → value_at r ((i, y) ∷ (rows ++ (r, k) ∷ [])) ≡ Some z
pushed_by r i z k y rows b e h more = grind (arith, row_here)

pushed_still : (r : ℕ) (z k : Live) (rows : Rows Live) → value_at r rows ≡ Some z → value_at r (rows ++ (r, k) ∷ []) ≡ Some z
pushed_still r z k [] h = cc
pushed_still r z k ((i, y) ∷ rows) h = pushed_by r i z k y rows (i == r) refl h (pushed_still r z k rows)

pub push_lives : (m r : ℕ) (k : Live) (rows : Rows Live) → is_some (value_at m rows) ≡ true →
    is_some (value_at m (rows ++ (r, k) ∷ [])) ≡ true
push_lives m r k rows live = grind (arith, push_other, unlike, eqb-true, push_here, pushed_still)

-- ---- an open connection

-- what is so after the end took a unit for it
pub record OpenSo (u : Value) (n q : ℕ) (s t : State) : Type 0 where
  pub same : Same s t
  pub ended : t.ended ≡ s.ended
  pub touch : Touch u n s t
  pub leaves_so : Leaves n q t

taking_so : (u : Value) (n q : ℕ) (l : Standing) (result : Result Standing LinkFault) (s : State) → value_at n s.live ≡ Some (linked q l) →
    s.class ≡ Some Two → OpenSo u n q s (taking n q result s).state
taking_so u n q l (Ok link) s here two = record {
  same = record { caller = refl; local_is = refl; class = refl; given = refl };
  ended = refl;
  touch = puts_row (linked q l) (linked q (pumped (handed_out link))) here (λ e. cc) refl;
  leaves_so = still (pumped (handed_out link)) (put_here n (linked q (pumped (handed_out link))) (linked q l) s.live here);
}
taking_so u n q l (Err fault) s here two =
    subst (λ (k : Option Class). OpenSo u n q s (breaks_in n q fault k s).state) (sym two) (record {
      same = record { caller = refl; local_is = refl; class = refl; given = refl };
      ended = refl;
      touch = puts_row (linked q l) (closing q) here (λ e. cc) refl;
      leaves_so = shuts (ap link_now (put_here n (closing q) (linked q l) s.live here));
    })

pub open_so : (n q : ℕ) (l : Standing) (u : Value) (s : State) → value_at n s.live ≡ Some (linked q l) → s.class ≡ Some Two →
    RiseFrom 0 s.live → destination_of u ≡ Some n → OpenSo u n q s (to_linked n q l u s).state
open_so n q l (disconnect destination source reason user) s here two rise dest = grind (arith, shuts, without_here)
open_so n q l v s here two rise dest = search (arith, taking_so)

-- the link refuses a DC
dc_refused : (e : Ends) (flow : Option Flow) (m n : ℕ) → taken_by e flow (disconnected m n) ≡ Err WrongForm
dc_refused e flow m n = grind arith

-- so the end closes the connection, as its user might
pub dc_follows : (n q m i : ℕ) (k : Standing) (s : State) → value_at n s.live ≡ Some (linked q k) → s.class ≡ Some Two → s.ended ≡ None →
    destination_of (disconnected m i) ≡ Some n → Follows n q [] (put_for (disconnected m i) s) s (react (disconnected m i) s)
dc_follows n q m i k s here two was dest =
    let u = disconnected m i in
    let is = outcome_at u s n (Some (linked q k)) two was dest here
    ∙ ap (λ (r : Result Standing LinkFault). taking n q r s) (dc_refused k.ends k.flow m i)
    ∙ ap (λ (c : Option Class). breaks_in n q WrongForm c s) two in
    let to = state_is u s ∙ ap (λ (x : CarrierOutcome). x.state) is in
    let units : put_for u s ≡ disconnect q n 133 [] ∷ [] = ap (λ (x : CarrierOutcome). x.put) is in
    let there : link_now (value_at n (react u s).live) ≡ None = grind (arith, put_here) in
    subst (λ (l : List Value). Follows n q [] l s (react u s)) (sym units) (record {
      acts = closes_with 133 [] ∷ [];
      outgoing = unit_written u s ∙ ap (λ (l : List Value). s.outgoing ++ packets l) units;
      along = grind arith;
    })

-- ---- a connection that is closing, or gone

pub closing_touches : (n : ℕ) (u : Value) (s : State) → destination_of u ≡ Some n → Touch u n s (to_closing n u s).state
closing_touches n u s dest = grind arith

pub closing_puts : (n : ℕ) (u : Value) (s : State) → to_closing n u s ≡ puts_none (to_closing n u s).state
closing_puts n u s = grind arith

pub closing_same : (n : ℕ) (u : Value) (s : State) → Same s (to_closing n u s).state × ((to_closing n u s).state.ended ≡ s.ended)
closing_same n u s = grind arith

-- ---- references

pub above_up : (given n : ℕ) (vs : List Value) → AreAbove given n vs → n ≤ given
above_up given n [] h = h
above_up given n (confirm destination x ∷ vs) (above, h) = let up = above_up given x.source vs h in omega arith
above_up given n (_ ∷ vs) h = above_up given n vs h

pub rows_none : (given : ℕ) (rows : Rows Live) → given ≡ 0 → RiseFrom 0 rows → AreUpTo given rows → rows ≡ []
rows_none given [] e rise up = refl
rows_none given ((r, x) ∷ rows) e (above, rise) (up, more) = absurd (omega arith)
