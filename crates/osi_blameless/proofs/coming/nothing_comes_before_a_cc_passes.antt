-- Each DT and each AK of class 2 that comes to a called end is for a connection whose CC has passed. So nothing is in flight to the others.
-- For all connections of a called end and a judge.
use Rattle.osi_blameless.proofs.Vocabulary.{[], ap, arith, false, List, None, refl, Some, sym, ℕ, ◌<◌, ◌∙◌, ◌∷◌, ◌≡◌, ◌≤◌, AllByRecursion}
use Rattle.osi_blameless.proofs.Vocabulary.{slice_get, acknowledge, confirm, data0, data2, destination_of, disconnect, disconnected, error}
use Rattle.osi_blameless.proofs.Vocabulary.{request, Value, Zero, is_refused, class_for, is_stopped, takes, Connection, Left, Right}
use Rattle.osi_blameless.proofs.Vocabulary.{HaveSamePlaces, picked_rest, Course}
use Rattle.osi_rules.specs.declared.directions.Direction.TheVariants as way
use Rattle.osi_blameless.proofs.shown.a_unit_is_joined_where_it_is_named.{joined_any}
use Rattle.osi_blameless.proofs.putting.each_reference_of_an_end_is_new.{AreUpTo}
use Rattle.osi_blameless.proofs.standing.right_units_leave_all_standing.{ak, cc_placed, dt, link_placed}
use Rattle.osi_blameless.proofs.standing.what_a_unit_does_at_its_place.{Does, asks_again, asks_more, nowhere, somewhere, unit_does}
use Rattle.osi_blameless.proofs.standing.what_passes_leaves_all_standing.{AllGoesOn, no_zero}
use Rattle.osi_blameless.proofs.standing.what_stands_of_a_connection.{is_for, waiting_for}

-- ---- what has come

-- no DT of class 0; a DT, an AK or a CC is for a reference up to this one
abbrev pub IsBelow : ℕ → Value → Type 0
IsBelow b (data2 n number end user) = n ≤ b
IsBelow b (acknowledge credit n number) = n ≤ b
IsBelow b (data0 end user) = ⊥
IsBelow b (request x) = Unit {0}
IsBelow b (confirm n x) = n ≤ b
IsBelow b (disconnect n source reason user) = Unit {0}
IsBelow b (disconnected n source) = Unit {0}
IsBelow b (error n cause) = Unit {0}

-- so nothing is for the references above
pub none_waits : (b r : ℕ) (vs : List Value) → b < r → AllByRecursion (IsBelow b) vs → waiting_for (Some r) vs ≡ []
none_waits b r [] less h = refl
none_waits b r (v ∷ vs) less h = picked_rest (is_for (Some r)) v vs (grind arith) ∙ none_waits b r vs less h.1

pub below_higher : (b n : ℕ) (vs : List Value) → b ≤ n → AllByRecursion (IsBelow b) vs → AllByRecursion (IsBelow n) vs
below_higher b n [] up h = tt
below_higher b n (v ∷ vs) up h = (grind arith, below_higher b n vs up h.1)

-- ---- a unit of the other side that passes

module _ (b at : ℕ) (c : Course) (places : HaveSamePlaces c.traffic.connections c.sessions.live) (up : AreUpTo Right b c.sessions)
    (known : (i : ℕ) (e : Connection) → slice_get c.traffic.connections i ≡ Some e → e.is_judged ≡ false →
    is_refused e.seen_by_left.phase ≡ false) where
  -- one that has a place is for a reference of the judge
  place_below : (v : Value) (n : ℕ) → destination_of v ≡ Some n → ((takes way.Left v c.traffic).told.place ≡ None → ⊥) →
      Does Left at v c.traffic c.sessions (takes way.Left v c.traffic) → n ≤ b
  place_below v n dest some (nowhere place cs ts) = absurd (some place)
  place_below v n dest some (somewhere i e j x r place there here one finding is far cs ts) =
      (up.live i j n here (joined_any Left v c n i e j places dest place there (λ lost. known i e there lost) here)).1
  place_below v n dest some (asks_more x is number cs ts) = absurd (let no : None ≡ Some n = sym (ap destination_of is) ∙ dest in cc)
  place_below v n dest some (asks_again x is number i j here free cs ts) = grind arith

  named_below : (v : Value) (n : ℕ) → destination_of v ≡ Some n → ((takes way.Left v c.traffic).told.place ≡ None → ⊥) → n ≤ b
  named_below v n dest some = place_below v n dest some (unit_does Left at v c.traffic c.sessions places)

  pub left_below : (v : Value) → is_stopped way.Left c.traffic.course ≡ false → (class_for way.Left c.traffic.course ≡ Some Zero → ⊥) →
      AllGoesOn v Right c.traffic → IsBelow b v
  left_below (data2 n number end user) goes two on =
      named_below (data2 n number end user) n refl
      (λ none. link_placed way.Left (data2 n number end user) n c.traffic (dt number end user refl) goes two on none)
  left_below (acknowledge credit n number) goes two on =
      named_below (acknowledge credit n number) n refl
      (λ none. link_placed way.Left (acknowledge credit n number) n c.traffic (ak credit number refl) goes two on none)
  left_below (confirm n x) goes two on =
      named_below (confirm n x) n refl (λ none. cc_placed n x c.traffic goes two on none)
  left_below (data0 end user) goes two on = no_zero way.Left end user c.traffic goes two on
  left_below (request x) goes two on = tt
  left_below (disconnect n source reason user) goes two on = tt
  left_below (disconnected n source) goes two on = tt
  left_below (error n cause) goes two on = tt
