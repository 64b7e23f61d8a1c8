-- The user of a whole calling end makes a call: what it does to an open connection is acts of its line, and a CR waits to pass.
-- For the law on a whole end.
use Rattle.osi_blameless.proofs.transport.Vocabulary.{[], AllByRecursion, ap, append-nil, arith, asked, asks as asks_for, beyond, Bool}
use Rattle.osi_blameless.proofs.transport.Vocabulary.{breaks, Class}
use Rattle.osi_blameless.proofs.transport.Vocabulary.{closed_on, closed_with, closes_call, closes_in, closing, confirm, Connect, Connection}
use Rattle.osi_blameless.proofs.transport.Vocabulary.{connects}
use Rattle.osi_blameless.proofs.transport.Vocabulary.{destination_of, ended_by, EndReason, eqb-true, false, Follows, if◌then◌else◌, inl}
use Rattle.osi_blameless.proofs.transport.Vocabulary.{inr, is_some}
use Rattle.osi_blameless.proofs.transport.Vocabulary.{IsOrderly, length, Line, link_of, linked, List, Live, Local, longest_tsdu, ltb-false}
use Rattle.osi_blameless.proofs.transport.Vocabulary.{ltb-true}
use Rattle.osi_blameless.proofs.transport.Vocabulary.{MayCall, None, open_link, Option, proposal, proposal_by, pumped, push_here}
use Rattle.osi_blameless.proofs.transport.Vocabulary.{push_other, put_closing}
use Rattle.osi_blameless.proofs.transport.Vocabulary.{put_here, put_other, put_sent, put_together, refl, request, Right, sends, sends_all}
use Rattle.osi_blameless.proofs.transport.Vocabulary.{sent, sent_all}
use Rattle.osi_blameless.proofs.transport.Vocabulary.{slice_get, Some, Standing, State, subst, sym, true, Two, user_does, UserCall, Value}
use Rattle.osi_blameless.proofs.transport.Vocabulary.{value_at, Whole}
use Rattle.osi_blameless.proofs.transport.Vocabulary.{with_tsdu, ℕ, ◌++◌, ◌+◌, ◌==◌, ◌∙◌, ◌∷◌, ◌≡◌, ◌≤◌}
use Rattle.osi_carrier.specs.Calls.{sent_on}
use Rattle.osi_blameless.proofs.transport.small_facts_that_many_lemmas_use.{all_join, differ}
use Rattle.osi_blameless.proofs.transport.lines.a_carrier_follows_lines.{follows_closed, follows_sent}
use Rattle.osi_blameless.proofs.transport.requests.a_request_of_a_whole_end_is_new.{Newer}
use Rattle.osi_blameless.proofs.transport.by_line.what_a_unit_leaves_at_the_end.{Linked, ends, still}
use Rattle.osi_blameless.proofs.transport.lines.calls_of_a_line_join.{follows_together, still_open}
use Rattle.osi_blameless.proofs.transport.by_line.each_connection_has_its_line.{followed_at, AreGiven, AreSettled, Followed, Following}
use Rattle.osi_blameless.proofs.transport.by_line.each_connection_has_its_line.{IsAnswer, IsAsking}
use Rattle.osi_blameless.proofs.transport.by_line.each_connection_has_its_line.{IsOwned, Row, Tracked, all_so, asking, asks, closes}
use Rattle.osi_blameless.proofs.transport.by_line.each_connection_has_its_line.{over, talks}
use Rattle.osi_blameless.proofs.transport.lines.how_a_connection_opens.{asked_so}
use Rattle.osi_blameless.proofs.transport.requests.references_of_requests_rise.{all_gives, closed_gives, sent_gives}
use Rattle.osi_blameless.proofs.transport.by_line.what_an_end_still_has.{OffersTwo}
use Rattle.osi_blameless.proofs.transport.by_line.what_an_end_does_to_its_lines.{Owner, leads_more, of_line, some_more}
use Rattle.osi_blameless.proofs.transport.names.names_stay_apart_though_one_is_lost.{AreNamedApart}
use Rattle.osi_blameless.proofs.transport.by_line.a_unit_of_the_end_passes.{all_two}
use Rattle.osi_blameless.proofs.transport.connections.what_the_other_side_closes.{IsSane}
use Rattle.osi_blameless.proofs.transport.connections.which_units_are_for_a_connection.{each_picked, is_dc, is_ours, names}
use Rattle.osi_blameless.proofs.transport.connections.which_units_are_for_a_connection.{picked_other, those}
use Rattle.osi_blameless.proofs.transport.by_line.a_dr_for_what_is_gone.{after_calling}
use Rattle.osi_blameless.proofs.transport.lines.calls_of_a_line_join.{all_none, all_open, open_of, rows_all, rows_sent}
use Rattle.osi_blameless.proofs.transport.class_0.a_dt_of_class_zero_passes.{unlike}
use Rattle.osi_blameless.proofs.transport.by_line.what_an_end_does_to_its_lines.{line_grows, not_asked_then, open_owner, taken_so}
use Rattle.osi_blameless.proofs.transport.by_line.a_dc_follows_a_dr.{all_of as each_so}

pub same_up : (n : ℕ) → n ≤ n
same_up n = omega arith

same_linked : (q r : ℕ) (l k : Standing) → Some (linked q l) ≡ Some (linked r k) → q ≡ r
same_linked q r l k e = cc

-- ---- a call on an open connection

module _ (local : Local) (w : Whole) (f : Followed local w) (sane : IsSane w.judge) (peers : AreNamedApart Right w.judge.connections)
    (t : State) (units : List Value) (n peer : ℕ) (link : Standing) (here : value_at n w.end.live ≡ Some (linked peer link))
    (rows : (m : ℕ) → (m ≡ n → ⊥) → value_at m t.live ≡ value_at m w.end.live) (class : t.class ≡ w.end.class)
    (given : t.given ≡ w.end.given) (was : w.end.ended ≡ None) (orderly : IsOrderly w.end) (after_row : Linked n peer t)
    (follows : (r q : ℕ) (l : Standing) → r ≡ n → value_at r w.end.live ≡ Some (linked q l) → Follows r q [] units w.end t) where
  come_all : (r : ℕ) → r ≡ n → those r w.coming ≡ [] ++ those r w.coming
  come_all r same = refl

  linked_then : (q : ℕ) (l : Standing) → value_at n w.end.live ≡ Some (linked q l) → Linked n q t
  linked_then q l row = subst (λ (i : ℕ). Linked n i t) (same_linked peer q link l (sym here ∙ row)) after_row

  owner : Owner w.judge n units
  owner = open_owner local w f t units [] w.coming n peer link was here come_all follows linked_then

  called_so : Followed local (record w { end = t; put = w.put ++ units })
  called_so =
      taken_so local w f sane peers t units [] w.coming n refl (λ r other. refl) rows (λ two. class ∙ two)
      (subst (λ (i : ℕ). w.end.given ≤ i) (sym given) (same_up w.end.given)) was (λ early row. absurd (cc (sym here ∙ row)))
      (λ row. absurd (not_asked_then local w f t units [] w.coming n peer link was here come_all follows linked_then row))
      (each_so (λ v. (m : ℕ) (x : Connect) → v ≡ confirm m x → m ≡ n → w.judge.course.loose ≡ false →
      Tracked w.judge.connections n × (value_at n w.end.live ≡ Some asked) → value_at n t.live ≡ Some asked) w.coming
      (λ v m x e same firm k. absurd (cc (sym here ∙ k.1))))
      (λ p c at tracked g same. line_grows local w f t units [] w.coming n peer link was here come_all follows linked_then c g same)
      (λ q l row. let (tracked, two) = f.linked was n peer link here in (tracked, class ∙ two))
      (of_line owner (record { up = grind (arith, beyond, ltb-true, ltb-false); row = λ h. absurd (cc (sym here ∙ h)) }))

-- ---- a call for a connection

source_so : (b : Bool) (local : Local) (held : Option Class) (calling called : Option (List ℕ)) (r : ℕ) →
    (proposal_by b local held calling called r).source ≡ r
source_so b local held calling called r = grind arith

same_request : (x y : Connect) → request x ≡ request y → y ≡ x
same_request x y e = cc

module _ (local : Local) (w : Whole) (f : Followed local w) (sane : IsSane w.judge) (newer : Newer w) (offers : OffersTwo w.end)
    (orderly : IsOrderly w.end) (local_is : w.end.local ≡ local) (was : w.end.ended ≡ None) (calling called : Option (List ℕ)) where
  abbrev s : State
  s = w.end

  abbrev r : ℕ
  r = w.end.given + 1

  abbrev x : Connect
  x = proposal s.local s.class calling called r

  abbrev t : State
  t = asks_for calling called s

  abbrev after_connects : Whole
  after_connects = record w { end = t; put = w.put ++ request x ∷ [] }

  rows_c : (m : ℕ) → (m ≡ r → ⊥) → value_at m t.live ≡ value_at m s.live
  rows_c m other = push_other m r asked s.live other

  asked_c : (m : ℕ) → value_at m s.live ≡ Some asked → value_at m t.live ≡ Some asked
  asked_c m h = rows_c m (grind (arith, beyond)) ∙ h

  row_c : (m q : ℕ) (line : Line) → (m ≡ r → ⊥) → Row local s w.coming m q line → Row local t w.coming m q line
  row_c m q line other (asks there y source two early dcs first is) =
      asks (rows_c m other ∙ there) y source two early dcs first is
  row_c m q line other (over h) = differ (is_some s.ended) h (ap is_some was)
  row_c m q line other (talks l there is come_all) = talks l (rows_c m other ∙ there) is come_all
  row_c m q line other (closes o there i h is come_all) = closes o (rows_c m other ∙ there) i h is come_all

  line_c : (p : ℕ) (c : Connection) → slice_get w.judge.connections p ≡ Some c →
      Following local w.put w.begun w.judge.course.disconnects.strays s w.coming c →
      Following local (w.put ++ request x ∷ []) w.begun w.judge.course.disconnects.strays t w.coming c
  line_c p c at g = followed_at g (picked_other (is_ours g.r g.peer) w.put (request x) refl) g.spares
      (leads_more w.begun (is_ours g.r g.peer) w.put (request x ∷ []) f.some) (row_c g.r g.peer g.line (grind arith) g.row)

  too_low : (source : ℕ) (y : Connect) → y.source ≡ r → y.source ≡ source → source ≤ s.given → ⊥
  too_low source y new same low = absurd (omega arith)

  linked_c : (m q : ℕ) (l : Standing) (b : Bool) → (m == r) ≡ b → value_at m t.live ≡ Some (linked q l) →
      Tracked w.judge.connections m × (s.class ≡ Some Two)
  linked_c m q l b e h = grind (arith, beyond, push_here, eqb-true, rows_c, unlike)

  new_asking : (y : Connect) → request x ≡ request y → IsAsking local t w.coming y
  new_asking y e = grind (arith, asked_so, source_so, same_request, those, each_picked, names, all_so, is_dc, eqb-true, beyond, push_here)

  -- no CC has come for the new reference
  answer_new : (v : Value) → IsAnswer w.judge.course.loose w.judge.connections s v → AreGiven s.given v → (m : ℕ) (y : Connect) →
      v ≡ confirm m y → (b : Bool) → (m == r) ≡ b → value_at m t.live ≡ Some asked → Tracked w.judge.connections m
  answer_new v h given_so m y e true same row =
      let up = given_so (ap is_dc e) m (ap destination_of e) in
      grind (arith, eqb-true)
  answer_new v h given_so m y e false other row = (h m y e was (inl (sym (rows_c m (unlike m r other)) ∙ row))).0

  answer_c : (v : Value) → IsAnswer w.judge.course.loose w.judge.connections s v → AreGiven s.given v →
      IsAnswer w.judge.course.loose w.judge.connections t v
  answer_c v h given_so m y e lasts (inl row) = (answer_new v h given_so m y e (m == r) refl row, row)
  answer_c v h given_so m y e lasts (inr firm) = let (k, row) = h m y e was (inr firm) in (k, asked_c m row)

  pub connects_so : Followed local after_connects
  connects_so = record {
    lines = λ i c at tracked. line_c i c at (f.lines i c at tracked);
    waiting = λ i c at waits.
        let k = f.waiting i c at waits in
        record {
          r = k.r;
          left = k.left;
          right = k.right;
          seen = k.seen;
          early = k.early;
          row = λ lasts. asked_c k.r
              (k.row was);
        };
    owned = all_join (λ v. IsOwned w.judge v) w.put (request x ∷ []) f.owned (asking x refl, tt);
    linked = λ lasts m q l h. linked_c m q l (m == r) refl h;
    answers = all_two (λ v. IsAnswer w.judge.course.loose w.judge.connections s v) (AreGiven s.given)
        (λ v. IsAnswer w.judge.course.loose w.judge.connections t v) w.coming answer_c f.answers f.few;
    requests = all_join (λ v. (y : Connect) → v ≡ request y → IsAsking local t w.coming y) w.put (request x ∷ [])
        (all_so (λ v. (y : Connect) → v ≡ request y → IsAsking local s w.coming y) (λ v. (y : Connect) → v ≡ request y →
        IsAsking local t w.coming y) w.put
        (λ v h y e. let k = h y e in record
        { left = k.left; early = k.early; row = λ lasts. asked_c y.source (k.row was) })
        f.requests)
        (new_asking, tt);
    two = f.two;
    silent = f.silent;
    zero = f.zero;
    some = λ h. some_more w.put (request x ∷ []) (f.some h);
    few = all_so (AreGiven s.given) (AreGiven t.given) w.coming (λ v h none m e. let up = h none m e in omega arith) f.few;
    seen = f.seen;
    settled = all_join (AreSettled w.judge.connections (w.put ++ request x ∷ []) t.given) w.put (request x ∷ [])
        (all_so (AreSettled w.judge.connections w.put s.given)
        (AreSettled w.judge.connections (w.put ++ request x ∷ []) t.given) w.put (grind (arith, all_join, too_low, same_request))
        f.settled)
        (λ m source e. absurd (cc e), tt);
    lost = f.lost;
    shut = λ lasts i c at closed row.
        f.shut was i c at closed (sym (rows_c c.left.reference (grind arith)) ∙ row);
  }

-- ---- any call

-- it has no effect
pub nothing_so : (local : Local) (w : Whole) (t : State) (units : List Value) → t ≡ w.end → units ≡ [] → Followed local w →
    Followed local (record w { end = t; put = w.put ++ units })
nothing_so local w t units same none f = grind (arith, append-nil)

linked_of : (b : Bool) (o : Option Live) (peer : ℕ) (link : Standing) → (if b then None else link_of o) ≡ Some (peer, link) →
    o ≡ Some (linked peer link)
linked_of b o peer link e = grind arith

class_sent : (r : ℕ) (tsdu : List ℕ) (o : Option (ℕ × Standing)) (s : State) → (sent_on r tsdu o s).class ≡ s.class
class_sent r tsdu o s = grind arith

class_all : (r : ℕ) (tsdus : List (List ℕ)) (s : State) → (sent_all r tsdus s).class ≡ s.class
class_all r [] s = refl
class_all r (tsdu ∷ tsdus) s = class_all r tsdus (sent r tsdu s) ∙ class_sent r tsdu (open_link r s) s

broken : {A : Type 0} (reason : EndReason) (s : State) → s.ended ≡ None → (ended_by reason s).ended ≡ None → A
broken reason s was h = grind arith

module _ (local : Local) (w : Whole) (f : Followed local w) (sane : IsSane w.judge) (peers : AreNamedApart Right w.judge.connections)
    (newer : Newer w) (offers : OffersTwo w.end) (orderly : IsOrderly w.end) (local_is : w.end.local ≡ local)
    (was : w.end.ended ≡ None) where
  sends_by : (r : ℕ) (tsdu : List ℕ) (o : Option (ℕ × Standing)) → open_link r w.end ≡ o → length tsdu ≤ longest_tsdu →
      Followed local (after_calling w (sends r tsdu))
  sends_by r tsdu None e short =
      nothing_so local w (sent r tsdu w.end) (put_sent tsdu (open_link r w.end))
      (ap (λ (o : Option (ℕ × Standing)). sent_on r tsdu o w.end) e) (ap (λ (o : Option (ℕ × Standing)). put_sent tsdu o) e) f
  sends_by r tsdu (Some (peer, link)) e short =
      let here = linked_of (is_some w.end.ended) (value_at r w.end.live) peer link e in
      let after = still_open r peer tsdu w.end link e in
      called_so local w f sane peers (sent r tsdu w.end) (put_sent tsdu (open_link r w.end)) r peer link here
      (λ m other. rows_sent m r tsdu (open_link r w.end) w.end other) (class_sent r tsdu (open_link r w.end) w.end)
      (sent_gives r tsdu (open_link r w.end) w.end) was orderly
      (still (pumped (with_tsdu link tsdu)) (linked_of (is_some (sent r tsdu w.end).ended) (value_at r (sent r tsdu w.end).live) peer
      (pumped (with_tsdu link tsdu)) after))
      (λ i q l same row. subst (λ (j : ℕ). Follows i q [] (put_sent tsdu (open_link j w.end)) w.end (sent j tsdu w.end)) same
      (follows_sent i q tsdu w.end l (open_of i q l w.end was row) short))

  together_by : (r : ℕ) (tsdus : List (List ℕ)) (o : Option (ℕ × Standing)) → open_link r w.end ≡ o →
      AllByRecursion (λ (tsdu : List ℕ). length tsdu ≤ longest_tsdu) tsdus → Followed local (after_calling w (sends_all r tsdus))
  together_by r tsdus None e short =
      let (a, b) = all_none r tsdus w.end e in
      nothing_so local w (sent_all r tsdus w.end) (put_together r tsdus w.end) a b f
  together_by r tsdus (Some (peer, link)) e short =
      let here = linked_of (is_some w.end.ended) (value_at r w.end.live) peer link e in
      let (l, after) = all_open r peer tsdus w.end link e in
      called_so local w f sane peers (sent_all r tsdus w.end) (put_together r tsdus w.end) r peer link here
      (λ m other. rows_all m r tsdus w.end other) (class_all r tsdus w.end) (all_gives r tsdus w.end) was orderly
      (still l (linked_of (is_some (sent_all r tsdus w.end).ended) (value_at r (sent_all r tsdus w.end).live) peer l after))
      (λ i q l same row. subst (λ (j : ℕ). Follows i q [] (put_together j tsdus w.end) w.end (sent_all j tsdus w.end)) same
      (follows_together i q tsdus w.end l (open_of i q l w.end was row) short))

  closed_two : (r reason peer : ℕ) (link : Standing) → open_link r w.end ≡ Some (peer, link) → w.end.class ≡ Some Two →
      closed_with r reason w.end ≡ closes_in r peer reason (Some Two) w.end
  closed_two r reason peer link e two = grind arith

  closes_by : (r reason : ℕ) (o : Option (ℕ × Standing)) → open_link r w.end ≡ o → Followed local (after_calling w (closes_call r reason))
  closes_by r reason None e =
      nothing_so local w (closed_with r reason w.end) (put_closing r reason (open_link r w.end) w.end.class)
      (ap (λ (o : Option (ℕ × Standing)). closed_on r reason o w.end) e)
      (ap (λ (o : Option (ℕ × Standing)). put_closing r reason o w.end.class) e) f
  closes_by r reason (Some (peer, link)) e =
      let here = linked_of (is_some w.end.ended) (value_at r w.end.live) peer link e in
      let two = (f.linked was r peer link here).1 in
      let is = closed_two r reason peer link e two in
      called_so local w f sane peers (closed_with r reason w.end) (put_closing r reason (open_link r w.end) w.end.class) r peer link here
      (λ m other. ap (λ (t : State). value_at m t.live) is ∙ put_other m r (closing peer) w.end.live other)
      (ap (λ (t : State). t.class) is) (closed_gives r reason (open_link r w.end) w.end) was orderly
      (ends (Some (closing peer)) (ap (λ (t : State). value_at r t.live) is ∙ put_here r (closing peer) (linked peer link) w.end.live here)
      peer (inl refl))
      (λ i q l same row. subst (λ (j : ℕ). Follows i q [] (put_closing j reason (open_link j w.end) w.end.class) w.end
      (closed_with j reason w.end)) same
      (follows_closed i q reason w.end l (open_of i q l w.end was row) two))

  pub end_calls : (call : UserCall) → MayCall call w.end → (user_does call w.end).ended ≡ None → Followed local (after_calling w call)
  end_calls (connects calling called) may lasts = connects_so local w f sane newer offers orderly local_is was calling called
  end_calls (sends r tsdu) may lasts = sends_by r tsdu (open_link r w.end) refl may
  end_calls (sends_all r tsdus) may lasts = together_by r tsdus (open_link r w.end) refl may
  end_calls (closes_call r reason) may lasts = closes_by r reason (open_link r w.end) refl
  end_calls (breaks reason) may lasts = broken reason w.end was lasts
