-- What the records of both sides tell after every list of steps.
-- For the law of the same name.
use Rattle.osi_machine.proofs.Vocabulary.{or_comm, Item, Point, PointKind, points, Begins, Agree, Left, Right, Core, is_opening, World}
use Rattle.osi_machine.proofs.Vocabulary.{Machine, connection_at, Told, told_of, IsRun, OfEach, HasOneHolder, ShowNoFault, RecordsAgree}
use Rattle.osi_machine.proofs.Vocabulary.{ShownAsAsked, ConfirmedThere, ConfirmedInBoth, Side, seen_from, ◌≡◌, refl, sym, ◌∙◌, ap, subst, ℕ}
use Rattle.osi_machine.proofs.Vocabulary.{◌<◌, Bool, true, false, turned, ◌||◌, List, [], ◌∷◌, ◌++◌, length, Some, inl, inr, ◌⊎◌, arith}
use Rattle.osi_machine.proofs.Vocabulary.{State, Meaning, is_acted_on, Message, unit, session_of, brings, TakesItsItem, TakeTheirItems}
use Rattle.osi_machine.specs.Core.{turned as turned_core}
use Rattle.osi_machine.proofs.basics.what_holds_in_each_phase.{by_test, by_either}
use Rattle.osi_machine.proofs.basics.what_a_restart_leaves_of_a_history.{points_append}
use Rattle.osi_machine.proofs.channels.a_held_token_keeps_units_out.{flush_open}
use Rattle.osi_machine.proofs.channels.what_a_side_will_have_seen.{begins_points}
use Rattle.osi_machine.proofs.invariant.what_holds_of_both_sides.{Stands}
use Rattle.osi_machine.proofs.invariant.each_step_keeps_one_side.{SessionLaws}
use Rattle.osi_machine.proofs.invariant.no_side_is_over.{alive}
use Rattle.osi_machine.proofs.each_step_keeps_both_sides.{turned_stands}
use Rattle.osi_machine.proofs.promises.what_two_users_may_rely_on.{views_agree, got_what_was_said, confirmed_is_seen, none_in_nil}
use Rattle.osi_machine.proofs.promises.what_two_users_may_rely_on.{sees_the_history, none_brought, takes_the_next_item}
use Rattle.osi_machine.proofs.promises.what_a_record_tells.{TellsOf, other}
use Rattle.osi_machine.proofs.whole.every_stage_of_a_connection.{Stage, no_fault_told}
use Rattle.osi_machine.proofs.machine.every_connection_of_a_run.{good_run, stage_at}
use Rattle.osi_machine.proofs.whole.every_step_is_simulated.{Repeats, session_lives}
use Rattle.std.proofs.Common.{take}
use Rattle.osi_machine.proofs.whole.how_a_core_simulates_a_connection.{stopped, Carried, taken_view}
use Rattle.osi_machine.proofs.whole.a_unit_is_taken.{split_first}

-- ---- before a connection is agreed to

-- the record tells nothing that was seen or received
record Silent (t : Told) : Type 0 where
  view : t.view ≡ []
  indicated : t.indicated ≡ []

agreed_or_not : (side : Side) (m : Machine) (w : World) (s t : Told) → Stage side m w s t → Silent s ⊎ Repeats m.broken w s t
agreed_or_not side m w s t (inl h) = inl (grind arith)
agreed_or_not side m w s t (inr h) = inr h.1

-- ---- a record of a connection that was agreed to

begins_nil : {A : Type 0} → (xs ys : List A) → xs ≡ [] → Begins xs ys
begins_nil xs ys e = subst (λ r. Begins r ys) (sym e) (ys, refl)

-- a record of a side that is open tells whether duplex is selected
told_duplex : (t : Told) (c : Core) → Stands c → TellsOf t c.own → is_opening c.own.session.phase ≡ false
    → t.duplex ≡ c.own.session.units.duplex
told_duplex t c s h e = h.duplex (rw (e, alive c.owner c.own c.peer s.own) refl)

-- and both sides that are open have the same units
same_duplex : (c : Core) → Stands c → is_opening c.own.session.phase ≡ false → is_opening c.peer.session.phase ≡ false
    → c.peer.session.units.duplex ≡ c.own.session.units.duplex
same_duplex c s e f = grind (arith, flush_open c.peer.session c.own.sent f s.peer.fits, flush_open c.own.session c.peer.sent e s.own.fits)

-- a record of a side tells what it has seen, unless the side is open with duplex
told_view : (t : Told) (c : Core) → Stands c → TellsOf t c.own →
    (is_opening c.own.session.phase ≡ false → c.own.session.units.duplex ≡ false)
    → t.view ≡ c.own.view
told_view t c s h d = by_test (is_opening c.own.session.phase)
    (λ e. h.fresh e ∙ sym (s.consistent.own.fresh e).view)
    (λ e. h.view (d e))

-- ---- the views

pub records_agree : (m : Machine) (w : World) (s t : Told) → Stage Left m w s t → RecordsAgree w s t
records_agree m w s t g d e = by_either (agreed_or_not Left m w s t g)
    (λ q. inl (begins_nil s.view t.view q.view))
    (λ h. let own = told_view s h.core h.stands h.own (λ o. sym (told_duplex s h.core h.stands h.own o) ∙ d) in
    let k = turned_stands h.core h.stands in
    let peer = told_view t (turned_core h.core) k h.peer (λ o. sym (told_duplex t (turned_core h.core) k h.peer o) ∙ e) in
    subst (λ (v : List Item). Agree v t.view) (sym own) (subst (Agree h.core.own.view) (sym peer) (views_agree h.core h.stands)))

-- ---- with duplex

-- so that duplex is selected at a side that is open, if either record tells so
either_duplex : (a b d : Bool) → a ≡ d → (b ≡ false) ⊎ (b ≡ d) → (a || b) ≡ true → d ≡ true
either_duplex a b d p q h = grind arith

-- what the user of one side receives
shown_there : (s t : Told) (c : Core) → Stands c → TellsOf s c.own
    → TellsOf t c.peer
    → (s.duplex || t.duplex) ≡ true → Begins s.indicated t.requested
shown_there s t c k h j d = by_test (is_opening c.own.session.phase)
    (λ e. begins_nil s.indicated t.requested (h.silent e).1)
    (λ e. subst (λ (x : List (List ℕ)). Begins x t.requested) (sym (h.got (own_duplex e)))
    (subst (Begins c.own.got) (sym (asked e (is_opening c.peer.session.phase) refl)) (got_what_was_said c k (own_duplex e))))
  where
    peer_told : is_opening c.own.session.phase ≡ false → (b : Bool) → is_opening c.peer.session.phase ≡ b
        → (t.duplex ≡ false) ⊎ (t.duplex ≡ c.own.session.units.duplex)
    peer_told e true f = inl (j.unselected f)
    peer_told e false f = inr (told_duplex t (turned_core c) (turned_stands c k) j f ∙ same_duplex c k e f)

    own_duplex : is_opening c.own.session.phase ≡ false → c.own.session.units.duplex ≡ true
    own_duplex e = either_duplex s.duplex t.duplex c.own.session.units.duplex (told_duplex s c k h e)
        (peer_told e (is_opening c.peer.session.phase) refl) d

    asked : is_opening c.own.session.phase ≡ false → (b : Bool) → is_opening c.peer.session.phase ≡ b → t.requested ≡ c.peer.said
    asked e true f = (j.silent f).0 ∙ sym (k.consistent.peer.fresh f).said
    asked e false f = j.said (same_duplex c k e f ∙ own_duplex e)

shown_here : (side : Side) (m : Machine) (w : World) (s t : Told) → Stage side m w s t → (s.duplex || t.duplex) ≡ true →
    Begins s.indicated t.requested
shown_here side m w s t g d = by_either (agreed_or_not side m w s t g)
    (λ q. begins_nil s.indicated t.requested q.indicated)
    (λ h. shown_there s t h.core h.stands h.own h.peer d)

-- ---- what is confirmed

nil_begins : (v : List Item) → Begins v [] → v ≡ []
nil_begins [] b = refl
nil_begins (i ∷ v) b = absurd (let e = ap length b.1 in omega arith)

-- with duplex a side sees nothing of the history
duplex_view : (c : Core) → Stands c → is_opening c.own.session.phase ≡ false → c.own.session.units.duplex ≡ true → c.own.view ≡ []
duplex_view c s e d =
    let units = (flush_open c.own.session c.peer.sent e s.own.fits).units in
    nil_begins c.own.view (grind (arith, sees_the_history))

pointed : (before v : List Item) (n : ℕ) (kind : PointKind) (octets : List ℕ) → Begins (before ++ Point n kind octets ∷ []) v → points v ≡ 0
    → ⊥
pointed before v n kind octets b e = grind (arith, begins_points, points_append)

-- a record that tells a point is of a side without duplex
told_point : (t : Told) (c : Core) → Stands c → TellsOf t c.own
    → (before : List Item) (n : ℕ) (kind : PointKind) (octets : List ℕ)
    → Begins (before ++ Point n kind octets ∷ []) t.view → (is_opening c.own.session.phase ≡ false) × (c.own.session.units.duplex ≡ false)
told_point t c s h before n kind octets b = by_test (is_opening c.own.session.phase)
    (λ e. absurd (none_in_nil before (Point n kind octets) (subst (Begins (before ++ Point n kind octets ∷ [])) (h.fresh e) b)))
    (λ e. by_test c.own.session.units.duplex
    (λ f. absurd (pointed before t.view n kind octets b (h.pointed ∙ ap points (duplex_view c s e f))))
    (λ f. (e, f)))

pub confirmed_there : (side : Side) (m : Machine) (w : World) (s t : Told) → Stage side m w s t → ConfirmedThere w s t
confirmed_there side m w s t g before n kind octets p q r = by_either (agreed_or_not side m w s t g)
    (λ y. absurd (none_in_nil before (Point n kind octets) (subst (Begins (before ++ Point n kind octets ∷ [])) y.view p)))
    (λ h. let k = told_point s h.core h.stands h.own before n kind octets p in
    subst (Begins (before ++ Point n kind octets ∷ [])) (sym (told_view t (turned_core h.core) (turned_stands h.core h.stands) h.peer
    (λ f. same_duplex h.core h.stands k.0 f ∙ k.1)))
    (confirmed_is_seen h.core h.stands before n kind octets (subst (Begins (before ++ Point n kind octets ∷ [])) (h.own.view k.1) p)
    (subst (λ (k : ℕ). n < k) h.projects.own.counted.acked q) (sym h.peer.asking ∙ r)))

-- ---- data or a point that is taken is the item of the history at the mark of its taker

next_there : SessionLaws → (b : Bool) (w : World) (t u : Told) (m : Meaning) (ms : List Message) (h : Repeats b w t u)
    → w.peer.channel ≡ unit m ∷ ms → stopped w.own ≡ false
    → is_acted_on h.core.own.session m ≡ true → Begins (h.core.own.view ++ brings h.core.own.session m) h.core.history
next_there laws b w t u m ms h e l a =
    let way = subst (λ (ch : List Message). Carried b (stopped w.peer) ch h.core.peer.sent h.core.peer.session) e
    (h.projects.own.carried l) in
    elim (split_first b (stopped w.peer) m ms h.core.peer.sent h.core.peer.session way) [
      | inl f ↦ takes_the_next_item laws h.core h.stands m f.rest f.sent_is a
      | inr z ↦ grind (arith, none_brought)
    ]

takes_its_item : SessionLaws → (side : Side) (k : Machine) (w : World) (t u : Told) → Stage side k w t u → TakesItsItem w
takes_its_item laws side k w t u (inl h) m ms e a = absurd (grind arith)
takes_its_item laws side k w t u (inr (_, h)) m ms e a =
    let l : stopped w.own ≡ false = grind arith in
    let same = session_lives k.broken w t u h l in
    let seen = ap (λ (k : ℕ). take k w.history) h.projects.own.counted.marked ∙ ap (take (length h.core.own.view)) h.projects.history
    ∙ taken_view h.core.own.view h.core.history (sees_the_history h.core h.stands) in
    subst (λ (v : List Item). Begins (v ++ brings (session_of w) m) w.history) (sym seen)
    (subst (λ (s : State). Begins (h.core.own.view ++ brings s m) w.history) (sym same)
    (subst (Begins (h.core.own.view ++ brings h.core.own.session m)) (sym h.projects.history)
    (next_there laws k.broken w t u m ms h e l (subst (λ (s : State). is_acted_on s m ≡ true) same a))))

-- ---- of each connection of each run

module _ (laws : SessionLaws) (m : Machine) (h : IsRun m) where
  pub holders : OfEach HasOneHolder m
  holders r w e t = grind arith

  -- the stage of each, seen from either side
  there : (side : Side) (r : ℕ) (w : World) → connection_at r m.worlds ≡ Some w
      → Stage side m (seen_from side w) (told_of side r w.offer m.journal) (told_of (other side) r w.offer m.journal)
  there = stage_at m (good_run laws m h)

  pub no_faults : OfEach ShowNoFault m
  no_faults r w e = no_fault_told Left m w _ _ (there Left r w e)

  pub agreements : OfEach RecordsAgree m
  agreements r w e = records_agree m w _ _ (there Left r w e)

  pub duplex_agreements : OfEach ShownAsAsked m
  duplex_agreements r w e d = (
    shown_here Left m w _ _ (there Left r w e) d,
    shown_here Right m (turned w) _ _ (there Right r w e) (or_comm (told_of Right r w.offer m.journal).duplex
        (told_of Left r w.offer m.journal).duplex ∙ d),
  )

  pub confirmations : OfEach ConfirmedInBoth m
  confirmations r w e = (
    confirmed_there Left m w _ _ (there Left r w e),
    confirmed_there Right m (turned w) _ _ (there Right r w e),
  )

  pub items_taken : OfEach TakeTheirItems m
  items_taken r w e = (
    takes_its_item laws Left m w _ _ (there Left r w e),
    takes_its_item laws Right m (turned w) _ _ (there Right r w e),
  )
