-- No unit of an end of class 2 waits for the reference that a CC of the other side gives, and that side gives none of the end. So all
-- connections of the end stand after a packet of the other side. For all connections of an end that calls and a judge.
use Rattle.osi_blameless.proofs.Vocabulary.{arith, ◌≡◌, refl, sym, subst, ℕ, Bool, true, List, [], ◌∷◌, ◌++◌, Some, append_assoc}
use Rattle.osi_blameless.proofs.Vocabulary.{AllByRecursion, append-nil, HasFieldsInRange, Value, acknowledge, confirm, data0, data2}
use Rattle.osi_blameless.proofs.Vocabulary.{disconnect, disconnected, error, Connect, request, Local, Left, Right, is_applied, State, takes}
use Rattle.osi_blameless.proofs.Vocabulary.{next_joined, IsOwned, IsOngoing, Deeds, Course, unit_passes, units_pass, HaveSamePlaces}
use Rattle.osi_rules.specs.declared.directions.Direction.TheVariants as way
use Rattle.osi_blameless.specs.transport.Wholes as wholes
use Rattle.osi_blameless.proofs.transport.by_line.an_end_is_fair_in_class_2.{Joined as Follows}
use Rattle.osi_blameless.proofs.in_class_2.an_end_hears_what_breaks_no_rule.{AreFine, AreHeard, IsHeardOn, IsNotAwaited, one_heard}
use Rattle.osi_blameless.proofs.putting.each_reference_of_an_end_is_new.{IsUpTo}
use Rattle.osi_blameless.proofs.putting.nothing_is_done_before_a_cr_passes.{IsNoZero}
use Rattle.osi_blameless.proofs.putting.a_cc_comes_before_what_is_put_for_it.{nothing_waits}
use Rattle.osi_blameless.proofs.shown.a_right_dt_has_one_place.{AreUsedApart, named_apart}
use Rattle.osi_blameless.proofs.putting.references_of_an_end_are_distinct.{GivesNew}
use Rattle.osi_blameless.proofs.standing.what_passes_leaves_all_standing.{no_request, no_zero}
use Rattle.osi_blameless.proofs.standing.what_stands_of_a_connection.{waiting_for}
use Rattle.osi_blameless.proofs.putting.a_whole_end_runs_along.{IsBehind, next_behind, with_unit}

-- ---- units of the other side

-- neither a CR nor a DT of class 0
abbrev pub IsPlain : ℕ → Value → Type 0
IsPlain b v = IsNoZero v × IsUpTo Left b v

pub one_plain : (b : ℕ) (v : Value) (c : Course) → IsHeardOn Left v c → IsPlain b v
one_plain b v c p = grind (arith, no_request, no_zero)

pub fine_plain : (b at : ℕ) (vs : List Value) (c : Course) → AreFine Left at vs c → AllByRecursion (IsPlain b) vs
fine_plain b at [] c h = tt
fine_plain b at (v ∷ vs) c (fine, more) = (one_plain b v c fine, fine_plain b at vs (unit_passes Right at v c) more)

-- the other side gives no reference of this one
gives_none : (v : Value) (c : Course) → IsHeardOn Left v c → GivesNew Left v c.sessions
gives_none v c p = grind (arith, no_request)

module _ (local : Local) (put : List Value) where
  -- no unit waits for the reference that a CC gives
  cc_heard : (n : ℕ) (x : Connect) (c : Course) → IsHeardOn Left (confirm n x) c → IsBehind (Follows local) put c →
      HaveSamePlaces c.traffic.connections c.sessions.live →
      is_applied (takes way.Right (confirm n x) c.traffic).told.finding ≡ true → waiting_for (Some x.source) put ≡ []
  cc_heard n x c p w places applied =
      let lasts = subst (λ (s : State). IsOngoing s.course) (sym w.judge) p.lasts in
      let apart = subst (λ (s : State). AreUsedApart Left s.connections) w.judge
      (named_apart Left w.whole.judge.connections w.holds.kept.sane.apart (w.holds.peers lasts)) in
      subst (λ (l : List Value). waiting_for (Some x.source) l ≡ []) w.same
      (nothing_waits n x c.traffic c.sessions places apart applied w.whole.put
      (subst (λ (s : State). AllByRecursion (λ (u : Value). IsOwned s u) w.whole.put) w.judge (w.holds.followed lasts).owned))

  none_awaited : (v : Value) (c : Course) → IsHeardOn Left v c → IsBehind (Follows local) put c →
      HaveSamePlaces c.traffic.connections c.sessions.live → IsNotAwaited Left put v c.traffic
  none_awaited (confirm n x) c p w places = λ applied. cc_heard n x c p w places applied
  none_awaited (request x) c p w places = tt
  none_awaited (disconnect n source reason user) c p w places = tt
  none_awaited (disconnected n source) c p w places = tt
  none_awaited (data0 end user) c p w places = tt
  none_awaited (data2 n number end user) c p w places = tt
  none_awaited (acknowledge credit n number) c p w places = tt
  none_awaited (error n cause) c p w places = tt

  module _ (deeds : ℕ → Deeds) (is_live : ℕ → Bool) (b : Bool) (at : ℕ) where
    abbrev Heard : List Value → Course → Type 0
    Heard coming c = AreHeard Left deeds is_live put b at coming c

    -- so all connections stand after these units
    pub units_heard : (vs coming : List Value) (c : Course) → AreFine Left at vs c → AllByRecursion HasFieldsInRange vs →
        IsBehind (Follows local) put c → Heard coming c → Heard (coming ++ vs) (units_pass Right at vs c)
    units_heard [] coming c fine ranges w h = subst (λ (l : List Value). Heard l c) (sym (append-nil coming)) h
    units_heard (v ∷ vs) coming c (one, more) ranges w h =
        let after = one_heard Left deeds is_live put b at coming c h v one (none_awaited v c one w h.stand.places)
        (λ applied. gives_none v c one) in
        subst (λ (l : List Value). Heard l (units_pass Right at (v ∷ vs) c)) (append_assoc coming (v ∷ []) vs)
        (units_heard vs (coming ++ v ∷ []) (unit_passes Right at v c) more ranges.1 (next_behind (Follows local) put at v c
        (λ x h. next_joined local (wholes.passes_other v) x (with_unit v x) (ranges.0, refl) h) w) after)
