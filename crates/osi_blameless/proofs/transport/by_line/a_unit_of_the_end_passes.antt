-- A unit of a whole calling end passes: a CR, whose connection waits then, or a unit of an open connection that is judged, which is right.
-- For the law on a whole end.
use Rattle.osi_blameless.proofs.transport.Vocabulary.{[], AllByRecursion, ap, arith, asked, asked_by, Bool, Class, Connect, Connection}
use Rattle.osi_blameless.proofs.transport.Vocabulary.{destination_of}
use Rattle.osi_blameless.proofs.transport.Vocabulary.{eqb-true, false, Half, inl, inr, is_applied, is_closing, is_free, is_open, is_over}
use Rattle.osi_blameless.proofs.transport.Vocabulary.{is_silent}
use Rattle.osi_blameless.proofs.transport.Vocabulary.{IsRight, Kept, Left, Line, linked, List, Live, Local, None, not, Option, Outcome}
use Rattle.osi_blameless.proofs.transport.Vocabulary.{placed, position}
use Rattle.osi_blameless.proofs.transport.Vocabulary.{refl, request, Right, sent_on, set, slice_get, Some, Standing, subst, sym, takes}
use Rattle.osi_blameless.proofs.transport.Vocabulary.{Traffic, true, Two}
use Rattle.osi_blameless.proofs.transport.Vocabulary.{unit as passing, Value, value_at, Whole, ℕ, ◌&&◌, ◌++◌, ◌==◌, ◌||◌, ◌∙◌, ◌∷◌, ◌≡◌}
use Rattle.osi_blameless.proofs.transport.Vocabulary.{◌⊎◌}
use Rattle.osi_blameless.proofs.transport.small_facts_that_many_lemmas_use.{and_false, and_first, and_second, both, differ, first_is}
use Rattle.osi_blameless.proofs.transport.small_facts_that_many_lemmas_use.{no_list, rest_is}
use Rattle.osi_blameless.proofs.transport.small_facts_that_many_lemmas_use.{set_other, some_same as item_is}
use Rattle.osi_blameless.proofs.transport.names.a_reference_names_one_connection.{not_first}
use Rattle.osi_blameless.proofs.transport.names.names_stay_apart_though_one_is_lost.{AreNamedApart, each_sound, end_set, right_asked}
use Rattle.osi_blameless.proofs.transport.by_line.each_connection_has_its_line.{followed_at, followed_on, Followed, Following, IsAnswer}
use Rattle.osi_blameless.proofs.transport.by_line.each_connection_has_its_line.{IsAsking, IsOwned, Row}
use Rattle.osi_blameless.proofs.transport.by_line.each_connection_has_its_line.{Tracked}
use Rattle.osi_blameless.proofs.transport.by_line.each_connection_has_its_line.{Waiting, AreSettled, IsSettled, IsSpare, all_so, asking}
use Rattle.osi_blameless.proofs.transport.by_line.each_connection_has_its_line.{asks}
use Rattle.osi_blameless.proofs.transport.by_line.each_connection_has_its_line.{is_tracked, is_waiting, no_spare, of, put_some, stray}
use Rattle.osi_blameless.proofs.transport.by_line.each_connection_has_its_line.{why_before}
use Rattle.osi_blameless.proofs.transport.names.what_holds_of_one_item.{after_add, after_set, first_true}
use Rattle.osi_blameless.proofs.transport.requests.what_lasts_at_the_judge.{lasts_passing}
use Rattle.osi_blameless.proofs.transport.requests.left_selects_no_class.{left_class}
use Rattle.osi_blameless.proofs.transport.connections.what_stays_of_each_connection.{own_stays, right_then}
use Rattle.osi_blameless.proofs.transport.connections.what_the_other_side_closes.{IsSane}
use Rattle.osi_blameless.proofs.transport.connections.which_units_are_for_a_connection.{IsOf, picked_first, picked_rest, is_ours, leads}
use Rattle.osi_blameless.proofs.transport.connections.which_units_are_for_a_connection.{ours, ours_not, ours_so}
use Rattle.osi_blameless.proofs.transport.connections.which_units_are_for_a_connection.{picked_each}
use Rattle.osi_blameless.proofs.transport.names.what_belongs_to_no_open_connection.{strays_last}
use Rattle.osi_blameless.proofs.transport.requests.while_no_class_is_selected.{after_change, set_there}
use Rattle.osi_blameless.proofs.transport.connections.no_two_open_connections_have_one_peer.{added_still, left_open, one_peer, right_there}
use Rattle.osi_blameless.proofs.transport.connections.no_two_open_connections_have_one_peer.{there_not_silent}
use Rattle.osi_blameless.proofs.transport.connections.no_two_open_connections_have_one_peer.{tracked_over}
use Rattle.osi_blameless.proofs.transport.class_0.a_dt_of_class_zero_passes.{unlike}
use Rattle.osi_blameless.proofs.transport.connections.a_line_since_its_connection_opened.{RightPassed, known as known_here, named_here}
use Rattle.osi_blameless.proofs.transport.connections.a_line_since_its_connection_opened.{right_passes}
use Rattle.osi_rules.specs.declared.findings.Reach.TheVariants as reach

-- ---- a CR

abbrev Request : Connect → List Connection → Outcome → Type 0
Request x cs o = (o.state.connections ≡ cs) ⊎ (o.state.connections ≡ placed (asked_by x) cs (position is_free cs))

request_does : (x : Connect) (s : Traffic) → Request x s.connections (takes Left (request x) s)
request_does x s = grind arith

item_of : (new : Connection) (cs : List Connection) (o : Option ℕ) (i : ℕ) (e : Connection) → slice_get (placed new cs o) i ≡ Some e →
    (e ≡ new) ⊎ (slice_get cs i ≡ Some e)
item_of new cs o i e h = grind (arith, after_add, after_set)

stays_placed : (new : Connection) (cs : List Connection) (o : Option ℕ) → position is_free cs ≡ o → (i : ℕ) (e : Connection) →
    slice_get cs i ≡ Some e → (is_free e ≡ true → ⊥) → slice_get (placed new cs o) i ≡ Some e
stays_placed new cs None h i e at busy = added_still cs i new e at
stays_placed new cs (Some q) h i e at busy =
    set_other cs q i new e (λ same. busy (first_true is_free cs q e h (ap (λ (n : ℕ). slice_get cs n) (sym same) ∙ at))) at

-- ---- what the end has

-- the end has asked for it, or has it open
abbrev is_held : Option Live → Bool
is_held (Some asked) = true
is_held (Some (linked peer link)) = true
is_held _ = false

pub all_two : (P Q R : Value → Type 0) (vs : List Value) → ((v : Value) → P v → Q v → R v) → AllByRecursion P vs → AllByRecursion Q vs →
    AllByRecursion R vs
all_two P Q R [] h a b = tt
all_two P Q R (v ∷ vs) h (one, more) (first, others) = (h v one first, all_two P Q R vs h more others)

own_sees : (u : Value) (c : Connection) → (sent_on Left u c).seen_by_left ≡ c.seen_by_left
own_sees u c = grind arith

own_seen : (u : Value) (c : Connection) → (sent_on Left u c).seen_by_right ≡ c.seen_by_right
own_seen u c = grind arith

module _ (local : Local) (w : Whole) (f : Followed local w) (sane : IsSane w.judge) (peers : AreNamedApart Right w.judge.connections) where
  abbrev cs : List Connection
  cs = w.judge.connections

  -- ---- a CR passes

  abbrev after_request : Connect → List Value → Whole
  after_request x rest = record w { put = rest; begun = false; judge = (takes Left (request x) w.judge).state }

  request_item : (x : Connect) (i : ℕ) (e : Connection) → Request x cs (takes Left (request x) w.judge) →
      slice_get (takes Left (request x) w.judge).state.connections i ≡ Some e → (e ≡ asked_by x) ⊎ (slice_get cs i ≡ Some e)
  request_item x i e h at = grind (arith, item_of)

  request_stays : (x : Connect) (i : ℕ) (e : Connection) → Request x cs (takes Left (request x) w.judge) → slice_get cs i ≡ Some e →
      is_tracked e ≡ true → slice_get (takes Left (request x) w.judge).state.connections i ≡ Some e
  request_stays x i e (inl is) at tracked = ap (λ (l : List Connection). slice_get l i) is ∙ at
  request_stays x i e (inr is) at tracked =
      ap (λ (l : List Connection). slice_get l i) is
      ∙ stays_placed (asked_by x) cs (position is_free cs) refl i e at
      (λ free. tracked_over e (each_sound Right cs sane.apart peers i e at) tracked
      (and_first (is_over Left e) (is_over Right e) free))

  tracked_by : (x : Connect) (p : ℕ) (c : Connection) → is_tracked c ≡ true → (c ≡ asked_by x) ⊎ (slice_get cs p ≡ Some c) →
      slice_get cs p ≡ Some c
  tracked_by x p c tracked h = grind arith

  strays_still : (v : Value) → w.judge.course.disconnects.strays ≡ true → (takes Left v w.judge).state.course.disconnects.strays ≡ true
  strays_still v h = strays_last (passing Left v) w.judge h

  spares_still : (v : Value) (r peer : ℕ) (spare : List Value) → AllByRecursion (IsSpare w.judge.course.disconnects.strays r peer) spare →
      AllByRecursion (IsSpare (takes Left v w.judge).state.course.disconnects.strays r peer) spare
  spares_still v r peer spare h = search (arith, all_so, strays_still)

  owned_still : (x : Connect) (v : Value) → IsOwned w.judge v → IsOwned (takes Left (request x) w.judge).state v
  owned_still x v (asking y e) = asking y e
  owned_still x v (of p c at tracked is) = of p c (request_stays x p c (request_does x w.judge) at tracked) tracked is
  owned_still x v (stray m source e strays) = stray m source e (strays_still (request x) strays)

  request_line : (x : Connect) (rest : List Value) (c : Connection) → w.put ≡ request x ∷ rest →
      Following local w.put w.begun w.judge.course.disconnects.strays w.end w.coming c →
      Following local rest false (takes Left (request x) w.judge).state.course.disconnects.strays w.end w.coming c
  request_line x rest c e g = followed_at g (ap (λ (l : List Value). ours g.r g.peer l) (sym e))
      (spares_still (request x) g.r g.peer g.spare g.spares)
      (ap (λ (l : List Value). w.begun && leads (is_ours g.r g.peer) l) e ∙ and_false w.begun) g.row

  request_waits : (x : Connect) (c : Connection) (p : ℕ) → IsAsking local w.end w.coming x →
      (c ≡ asked_by x) ⊎ (slice_get cs p ≡ Some c) → is_waiting c ≡ true → Waiting local w.end w.coming c
  request_waits x c p a h waits = search arith

  request_silent : (x : Connect) (i : ℕ) (c : Connection) → is_silent c.right.phase ≡ true → (c ≡ asked_by x) ⊎ (slice_get cs i ≡ Some c) →
      is_open c.left.phase ≡ true
  request_silent x i c none h = grind arith

  -- a connection that waits now has the reference of the CR, or waited before
  settled_one : (x : Connect) (rest : List Value) (r given : ℕ) → IsSettled cs (request x ∷ rest) given r → (i : ℕ) (c : Connection) →
      (c ≡ asked_by x) ⊎ (slice_get cs i ≡ Some c) → is_waiting c ≡ true → c.left.reference ≡ r → ⊥
  settled_one x rest r given k i c h waits same = grind arith

  settled_still : (x : Connect) (rest : List Value) → w.put ≡ request x ∷ rest → (v : Value) →
      AreSettled cs w.put w.end.given v → AreSettled (takes Left (request x) w.judge).state.connections rest w.end.given v
  settled_still x rest e v h m source is = grind (arith, settled_one, request_item, asks, request_does)

  seen_still : (x : Connect) (i : ℕ) (c : Connection) → is_tracked c ≡ true → is_silent c.seen_by_left.phase ≡ false →
      (c ≡ asked_by x) ⊎ (slice_get cs i ≡ Some c) → (takes Left (request x) w.judge).state.course.class_seen ≡ Some Two
  seen_still x i c tracked known h = grind (arith, is_tracked, lasts_passing)

  request_lost : (x : Connect) (i : ℕ) (c : Connection) → c.is_judged ≡ false → (c ≡ asked_by x) ⊎ (slice_get cs i ≡ Some c) →
      (is_open c.right.phase || is_closing c.right.phase) ≡ true
  request_lost x i c lost h = grind (arith, differ)

  request_shut : (x : Connect) → w.end.ended ≡ None → (i : ℕ) (c : Connection) → is_open c.left.phase ≡ false →
      value_at c.left.reference w.end.live ≡ Some asked → (c ≡ asked_by x) ⊎ (slice_get cs i ≡ Some c) → ⊥
  request_shut x lasts i c closed row h = grind (arith, differ)

  pub request_passes : (x : Connect) (rest : List Value) → w.put ≡ request x ∷ rest → Followed local (after_request x rest)
  request_passes x rest e =
      let (first, requests) = subst (AllByRecursion (λ (v : Value). (y : Connect) → v ≡ request y → IsAsking local w.end w.coming y)) e
      f.requests in
      let (head, owned) = subst (AllByRecursion (λ (v : Value). IsOwned w.judge v)) e f.owned in
      let (alone, settled) = subst (AllByRecursion (AreSettled cs w.put w.end.given)) e f.settled in
      let does = request_does x w.judge in
      record {
        lines = λ i c at tracked.
            request_line x rest c e (f.lines i c (tracked_by x i c tracked (request_item x i c does at)) tracked);
        waiting = λ i c at waits. request_waits x c i (first x refl) (request_item x i c does at) waits;
        owned = all_so (λ v. IsOwned w.judge v) (λ v. IsOwned (takes Left (request x) w.judge).state v) rest
            (λ v. owned_still x v) owned;
        linked = λ lasts r peer link h. let (t, two) = f.linked lasts r peer link h in (grind (arith, request_stays, request_does), two);
        answers = all_so (λ v. IsAnswer w.judge.course.loose cs w.end v) (λ v. IsAnswer (takes Left (request x) w.judge).state.course.loose
            (takes Left (request x) w.judge).state.connections w.end v) w.coming
            (λ v h n y k lasts why.
            let (t, row) = h n y k lasts (grind (arith, why_before, lasts_passing)) in
            (grind (arith, request_stays, request_does), row)) f.answers;
        requests = requests;
        two = λ r t.
            let (p, c, at, tracked, is) = t in
            (lasts_passing (passing Left (request x)) w.judge).two
            (f.two r (p, c, tracked_by x p c tracked (request_item x p c does at), tracked, is));
        silent = λ i c at none. request_silent x i c none (request_item x i c does at);
        zero = subst (λ (k : Option Class). (k ≡ None) ⊎ (k ≡ Some Two)) (sym (left_class (request x) w.judge)) f.zero;
        some = λ h. absurd (cc h);
        few = f.few;
        seen = λ i c at tracked known. seen_still x i c tracked known (request_item x i c does at);
        settled = all_so (AreSettled cs w.put w.end.given)
            (AreSettled (takes Left (request x) w.judge).state.connections rest w.end.given) rest
            (λ v h. settled_still x rest e v h) settled;
        lost = λ i c at lost. request_lost x i c lost (request_item x i c does at);
        shut = λ lasts i c at closed row. request_shut x lasts i c closed row (request_item x i c does at);
      }

  pub request_peers : (x : Connect) → AreNamedApart Right (takes Left (request x) w.judge).state.connections
  request_peers x = grind (arith, right_asked)

  -- ---- a unit of an open connection passes

  -- the first of the units with the references of a line is the line's
  pub put_first : (u : Value) (others line spare : List Value) → u ∷ others ≡ line ++ spare → (line ≡ [] → spare ≡ []) →
      (vs : List Value) × ((line ≡ u ∷ vs) × (others ≡ vs ++ spare))
  put_first u others [] spare e none = absurd (no_list u others (e ∙ none refl))
  put_first u others (v ∷ vs) spare e none = grind (arith, first_is, rest_is)

  module _ (u : Value) (rest : List Value) (p : ℕ) (c : Connection) (e : w.put ≡ u ∷ rest) (begun : w.begun ≡ true)
      (left : w.judge.course.left_stopped ≡ false) (at : slice_get cs p ≡ Some c) (tracked : is_tracked c ≡ true)
      (own : IsOf c.left.reference c.right.reference u) (judged : c.is_judged ≡ true) where
    abbrev g : Following local w.put w.begun w.judge.course.disconnects.strays w.end w.coming c
    g = f.lines p c at tracked

    abbrev n : ℕ
    n = c.right.reference

    named : destination_of u ≡ Some n
    named = own.named

    named_by : is_ours g.r g.peer u ≡ true
    named_by = ours_so g.r g.peer u (grind arith)

    parts : (vs : List Value) × ((g.line.put ≡ u ∷ vs) × (ours g.r g.peer rest ≡ vs ++ g.spare))
    parts = put_first u (ours g.r g.peer rest) g.line.put g.spare
        (sym (picked_first (is_ours g.r g.peer) u rest named_by) ∙ ap (λ (l : List Value). ours g.r g.peer l) (sym e) ∙ g.put_is)
        (no_spare local w.put w.coming w.begun w.judge.course.disconnects.strays w.end c judged tracked g)

    abbrev still : List Value
    still = parts.0

    first_put : g.line.put ≡ u ∷ still
    first_put = parts.1.0

    line_begun : g.line.begun ≡ true
    line_begun = grind (arith, put_some, first_put, leads, is_ours, both, named_by)

    abbrev l : Line
    l = g.line

    seen : w.judge.course.class_seen ≡ Some Two
    seen = f.seen p c at tracked (known_here Left w.judge peers g.r g.peer l g.tracks u still first_put line_begun p c at g.judge)

    passes : RightPassed Left w.judge g.r g.peer l u still p c
    passes = right_passes Left w.judge peers g.r g.peer l g.tracks u still first_put line_begun p c at g.judge left seen judged

    right : IsRight Left c u
    right = passes.right

    pub own_kept : (takes Left u w.judge).told.finding ≡ Kept
    own_kept = passes.kept

    abbrev next : Connection
    next = sent_on Left u c

    abbrev after : Whole
    after = record w { put = rest; begun = false; judge = (takes Left u w.judge).state }

    next_all : (takes Left u w.judge).state.connections ≡ set cs p next
    next_all = passes.conns

    next_judged : next.is_judged ≡ true
    next_judged = passes.judged

    abbrev line_after : Line
    line_after = record l { put = still; begun = false; judge = next }

    next_at : slice_get (takes Left u w.judge).state.connections p ≡ Some next
    next_at = ap (λ (l : List Connection). slice_get l p) next_all ∙ set_there cs p next c at

    next_left : next.left.reference ≡ c.left.reference
    next_left = (own_stays true w.judge u reach.Nothing c (ap is_applied passes.found)).reference

    next_right : next.right ≡ c.right
    next_right = right_then u true reach.Nothing c

    tracked_if : is_open next.left.phase ≡ true → is_tracked next ≡ true
    tracked_if h = grind (arith, both, right, next_right, right_there)

    -- as long as the end has its link, it has not closed the connection
    linked_open : (link : Standing) → g.line.end ≡ Some link → is_tracked next ≡ true
    linked_open link h = tracked_if (passes.linked link h)

    row_open : w.end.ended ≡ None → (o : Option Live) → value_at g.r w.end.live ≡ o → is_held o ≡ true →
        Row local w.end w.coming g.r g.peer g.line →
        is_tracked next ≡ true
    row_open lasts o e held l = grind (arith, linked_open, differ)

    -- the units with its references are spare, if the end has closed the connection
    shut_if : is_tracked next ≡ false → is_open next.left.phase ≡ false
    shut_if h = grind (arith, differ, tracked_if)

    spare_left : is_tracked next ≡ false → ours g.r g.peer rest ≡ g.spare
    spare_left h = parts.1.1 ∙ ap (λ (l : List Value). l ++ g.spare) (passes.none_left (shut_if h))

    item : (i : ℕ) (x : Connection) → slice_get (takes Left u w.judge).state.connections i ≡ Some x →
        ((i ≡ p) × (x ≡ next)) ⊎ ((i ≡ p → ⊥) × (slice_get cs i ≡ Some x))
    item i x h = after_change cs p i next x (ap (λ (l : List Connection). slice_get l i) (sym next_all) ∙ h)

    other_at : (i : ℕ) (x : Connection) → (i ≡ p → ⊥) → slice_get cs i ≡ Some x →
        slice_get (takes Left u w.judge).state.connections i ≡ Some x
    other_at i x other h = ap (λ (l : List Connection). slice_get l i) next_all ∙ set_other cs p i next x other h

    same_one : (i : ℕ) (x : Connection) → i ≡ p → slice_get cs i ≡ Some x → x ≡ c
    same_one i x same h = item_is c x (sym at ∙ ap (λ (j : ℕ). slice_get cs j) (sym same) ∙ h)

    -- ---- lines

    line_next : Following local rest false after.judge.course.disconnects.strays w.end w.coming next
    line_next = followed_on g line_after passes.tracks refl refl refl next_left (ap (λ (x : Half). x.reference) next_right) parts.1.1
        (spares_still u g.r g.peer g.spare g.spares) (λ first. refl) (λ j. judged)

    line_other : (i : ℕ) (x : Connection) → (i ≡ p → ⊥) → slice_get cs i ≡ Some x → is_tracked x ≡ true →
        Following local rest false after.judge.course.disconnects.strays w.end w.coming x
    line_other i x other there is_there =
        let k = f.lines i x there is_there in
        let not_named : is_ours k.r k.peer u ≡ false = ours_not k.r n k.peer u (grind (arith, one_peer)) named in
        followed_at k (sym (picked_rest (is_ours k.r k.peer) u rest not_named) ∙ ap (λ (l : List Value). ours k.r k.peer l) (sym e))
        (spares_still u k.r k.peer k.spare k.spares)
        (grind (arith, leads, is_ours, and_false))
        k.row

    line_at : (i : ℕ) (x : Connection) → is_tracked x ≡ true →
        ((i ≡ p) × (x ≡ next)) ⊎ ((i ≡ p → ⊥) × (slice_get cs i ≡ Some x)) →
        Following local rest false after.judge.course.disconnects.strays w.end w.coming x
    line_at i x is_there (inl (same, is)) = grind (arith, line_next)
    line_at i x is_there (inr (other, there)) = line_other i x other there is_there

    waits_at : (i : ℕ) (x : Connection) → is_waiting x ≡ true →
        ((i ≡ p) × (x ≡ next)) ⊎ ((i ≡ p → ⊥) × (slice_get cs i ≡ Some x)) → Waiting local w.end w.coming x
    waits_at i x waits h = search (arith, differ, right, next_right, and_second, there_not_silent, right_there)

    silent_at : (i : ℕ) (x : Connection) → is_silent x.right.phase ≡ true →
        ((i ≡ p) × (x ≡ next)) ⊎ ((i ≡ p → ⊥) × (slice_get cs i ≡ Some x)) → is_open x.left.phase ≡ true
    silent_at i x none h = grind (arith, differ, right, next_right, there_not_silent, right_there)

    -- ---- the place of each connection

    tracked_one : (r i : ℕ) (x : Connection) → slice_get cs i ≡ Some x → is_tracked x ≡ true → x.left.reference ≡ r →
        (c.left.reference ≡ r → is_tracked next ≡ true) → (b : Bool) → (i == p) ≡ b → Tracked (takes Left u w.judge).state.connections r
    tracked_one r i x there is_there is k true h = grind (arith, same_one, eqb-true, next_at, next_left)
    tracked_one r i x there is_there is k false h = (i, x, other_at i x (unlike i p h) there, is_there, is)

    tracked_next : (r : ℕ) → Tracked cs r → (c.left.reference ≡ r → is_tracked next ≡ true) →
        Tracked (takes Left u w.judge).state.connections r
    tracked_next r (i, x, there, is_there, is) k = tracked_one r i x there is_there is k (i == p) refl

    tracked_was : (r i : ℕ) (x : Connection) → is_tracked x ≡ true → x.left.reference ≡ r →
        ((i ≡ p) × (x ≡ next)) ⊎ ((i ≡ p → ⊥) × (slice_get cs i ≡ Some x)) → Tracked cs r
    tracked_was r i x is_there is h = grind (arith, next_left)

    -- a unit that is still to pass for the connection that has just been closed is a spare DC
    abbrev IsSpareIf : Value → Type 0
    IsSpareIf v = is_tracked next ≡ false → is_ours g.r g.peer v ≡ true → IsSpare w.judge.course.disconnects.strays g.r g.peer v

    of_next : (v : Value) → is_tracked next ≡ true → IsOf c.left.reference c.right.reference v → IsOwned after.judge v
    of_next v h is = search (arith, of, next_at, next_right, next_left)

    owned_one : (v : Value) (i : ℕ) (x : Connection) → slice_get cs i ≡ Some x → is_tracked x ≡ true →
        IsOf x.left.reference x.right.reference v → IsSpareIf v → (b d : Bool) → (i == p) ≡ b → is_tracked next ≡ d →
        IsOwned after.judge v
    owned_one v i x there is_there is k true true h d =
        of_next v d (subst (λ (y : Connection). IsOf y.left.reference y.right.reference v) (same_one i x (eqb-true i p h) there) is)
    owned_one v i x there is_there is k true false h d =
        let so = subst (λ (y : Connection). IsOf y.left.reference y.right.reference v) (same_one i x (eqb-true i p h) there) is in
        let mine = subst (λ (j : ℕ). IsOf j g.peer v) g.left (subst (λ (j : ℕ). IsOf c.left.reference j v) g.right so) in
        let spare = k d (ours_so g.r g.peer v mine) in
        stray g.peer g.r spare.is (strays_still u spare.strays)
    owned_one v i x there is_there is k false d h e = of i x (other_at i x (unlike i p h) there) is_there is

    owned_next : (v : Value) → IsSpareIf v → IsOwned w.judge v → IsOwned after.judge v
    owned_next v k (asking x e) = asking x e
    owned_next v k (of i x there is_there is) = owned_one v i x there is_there is k (i == p) (is_tracked next) refl refl
    owned_next v k (stray m source is strays) = stray m source is (strays_still u strays)

    owned_rest : (b : Bool) → is_tracked next ≡ b → AllByRecursion (λ (v : Value). IsOwned w.judge v) rest →
        AllByRecursion (λ (v : Value). IsOwned after.judge v) rest
    owned_rest true h a =
        all_so (λ v. IsOwned w.judge v) (λ v. IsOwned after.judge v) rest (λ v o. owned_next v (λ k. differ (is_tracked next) h k) o) a
    owned_rest false h a =
        all_two (λ v. IsOwned w.judge v) (λ v. is_ours g.r g.peer v ≡ true → IsSpare w.judge.course.disconnects.strays g.r g.peer v)
        (λ v. IsOwned after.judge v) rest (λ v o spare. owned_next v (λ k. spare) o) a
        (picked_each (IsSpare w.judge.course.disconnects.strays g.r g.peer) (is_ours g.r g.peer) rest
        (subst (AllByRecursion (IsSpare w.judge.course.disconnects.strays g.r g.peer)) (sym (spare_left h)) g.spares))

    -- ---- the class, and the references that are settled

    seen_at : (i : ℕ) (x : Connection) → is_tracked x ≡ true → is_silent x.seen_by_left.phase ≡ false →
        ((i ≡ p) × (x ≡ next)) ⊎ ((i ≡ p → ⊥) × (slice_get cs i ≡ Some x)) → after.judge.course.class_seen ≡ Some Two
    seen_at i x is_there known (inl (same, so)) =
        (lasts_passing (passing Left u) w.judge).seen (f.two c.left.reference (p, c, at, tracked, refl)) seen
    seen_at i x is_there known (inr (other, there)) =
        (lasts_passing (passing Left u) w.judge).seen (f.two x.left.reference (i, x, there, is_there, refl))
        (f.seen i x there is_there known)

    not_waiting : (i : ℕ) (x : Connection) → is_waiting x ≡ true →
        ((i ≡ p) × (x ≡ next)) ⊎ ((i ≡ p → ⊥) × (slice_get cs i ≡ Some x)) → slice_get cs i ≡ Some x
    not_waiting i x waits h = grind (arith, differ, right, next_right, and_second, there_not_silent, right_there)

    settled_next : (v : Value) → AreSettled cs w.put w.end.given v → AreSettled after.judge.connections rest w.end.given v
    settled_next v h m source is =
        let k = h m source is in
        record {
          up = k.up;
          waits = λ i x there waits same. k.waits i x (not_waiting i x waits (item i x there)) waits same;
          asks = (subst (AllByRecursion (λ (y : Value). (z : Connect) → y ≡ request z → z.source ≡ source → ⊥)) e k.asks).1;
        }

    held_at : w.end.ended ≡ None → (r : ℕ) (o : Option Live) → value_at r w.end.live ≡ o → is_held o ≡ true →
        c.left.reference ≡ r → is_tracked next ≡ true
    held_at lasts r o there held is =
        row_open lasts o (ap (λ (j : ℕ). value_at j w.end.live) (sym g.left ∙ is) ∙ there) held g.row

    lost_at : (i : ℕ) (x : Connection) → x.is_judged ≡ false →
        ((i ≡ p) × (x ≡ next)) ⊎ ((i ≡ p → ⊥) × (slice_get cs i ≡ Some x)) → (is_open x.right.phase || is_closing x.right.phase) ≡ true
    lost_at i x lost h = grind (arith, differ, next_judged)

    shut_at : w.end.ended ≡ None → (i : ℕ) (x : Connection) → is_open x.left.phase ≡ false →
        value_at x.left.reference w.end.live ≡ Some asked → ((i ≡ p) × (x ≡ next)) ⊎ ((i ≡ p → ⊥) × (slice_get cs i ≡ Some x)) → ⊥
    shut_at lasts i x closed row h = search (arith, differ, left_open, held_at, next_left)

    pub own_passes : Followed local after
    own_passes =
        let (head, requests) = subst (AllByRecursion (λ (v : Value). (y : Connect) → v ≡ request y → IsAsking local w.end w.coming y)) e
        f.requests in
        let (one, owned) = subst (AllByRecursion (λ (v : Value). IsOwned w.judge v)) e f.owned in
        let (alone, settled) = subst (AllByRecursion (AreSettled cs w.put w.end.given)) e f.settled in
        record {
          lines = λ i x there is_there. line_at i x is_there (item i x there);
          waiting = λ i x there waits. waits_at i x waits (item i x there);
          owned = owned_rest (is_tracked next) refl owned;
          linked = λ lasts r peer link h.
              let (t, two) = f.linked lasts r peer link h in
              (tracked_next r t (λ is. held_at lasts r (Some (linked peer link)) h refl is), two);
          answers = all_so (λ v. IsAnswer w.judge.course.loose cs w.end v)
              (λ v. IsAnswer after.judge.course.loose after.judge.connections w.end v) w.coming
              (λ v h m y k lasts why.
              let (t, row) = h m y k lasts (grind (arith, why_before, lasts_passing (passing Left u) w.judge)) in
              (tracked_next m t (λ is. held_at lasts m (Some asked) row refl is), row)) f.answers;
          requests = requests;
          two = λ r t.
              let (i, x, there, is_there, is) = t in
              (lasts_passing (passing Left u) w.judge).two (f.two r (tracked_was r i x is_there is (item i x there)));
          silent = λ i x there none. silent_at i x none (item i x there);
          zero = subst (λ (k : Option Class). (k ≡ None) ⊎ (k ≡ Some Two)) (sym (left_class u w.judge)) f.zero;
          some = λ h. absurd (cc h);
          few = f.few;
          seen = λ i x there is_there known. seen_at i x is_there known (item i x there);
          settled = all_so (AreSettled cs w.put w.end.given)
              (AreSettled after.judge.connections rest w.end.given) rest settled_next settled;
          lost = λ i x there lost. lost_at i x lost (item i x there);
          shut = λ lasts i x there closed row. shut_at lasts i x closed row (item i x there);
        }

    live : is_over Left c ≡ false
    live = not_first (is_over Left c) (not (is_silent c.seen_by_left.phase) && (c.seen_by_left.reference == g.peer))
        (named_here Left w.judge peers g.r g.peer l g.tracks u still first_put line_begun p c at g.judge)

    pub own_peers : AreNamedApart Right after.judge.connections
    own_peers = subst (AreNamedApart Right) (sym next_all) (end_set Right w.judge sane.apart peers p c at next live next_judged judged
        next_right (own_seen u c)
        (own_sees u c))
