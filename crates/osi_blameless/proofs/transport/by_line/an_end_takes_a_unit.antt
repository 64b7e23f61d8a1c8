-- A whole calling end takes a unit: what it was for its connection is an act of the line, and the other lines stay.
-- For the law on a whole end.
use Rattle.osi_blameless.proofs.transport.Vocabulary.{[], agreed_size, AllByRecursion, ap, append-nil, arith, asked, beyond, Bool}
use Rattle.osi_blameless.proofs.transport.Vocabulary.{CarrierOutcome}
use Rattle.osi_blameless.proofs.transport.Vocabulary.{changes_one, closing, confirm, Connect, Connection, disconnected, false, Follows}
use Rattle.osi_blameless.proofs.transport.Vocabulary.{ignores, inl, inr}
use Rattle.osi_blameless.proofs.transport.Vocabulary.{is_some, IsOrderly, Left, Line, linked, List, Live, Local, ltb-false, ltb-true, None}
use Rattle.osi_blameless.proofs.transport.Vocabulary.{opened_link}
use Rattle.osi_blameless.proofs.transport.Vocabulary.{Option, outcome, put_for, refl, Right, slice_get, Some, Standing, State, state_is}
use Rattle.osi_blameless.proofs.transport.Vocabulary.{subst, sym}
use Rattle.osi_blameless.proofs.transport.Vocabulary.{to_connection, true, Two, Value, value_at, Whole, without_here, ℕ, ◌++◌, ◌==◌, ◌∙◌}
use Rattle.osi_blameless.proofs.transport.Vocabulary.{◌∷◌, ◌≡◌, ◌≤◌}
use Rattle.osi_blameless.proofs.transport.Vocabulary.{◌⊎◌}
use Rattle.std.proofs.lemmas.List.{append_assoc}
unfoldable use Rattle.osi_carrier.specs.React.{react}
use Rattle.osi_blameless.proofs.transport.small_facts_that_many_lemmas_use.{all_join, differ, number_is as same_number, number_is}
use Rattle.osi_blameless.proofs.transport.lines.a_carrier_follows_lines.{follows_open}
use Rattle.osi_blameless.proofs.transport.requests.references_of_requests_rise.{unit_gives}
use Rattle.osi_blameless.proofs.transport.by_line.each_connection_has_its_line.{followed_at, Followed, Following, IsAnswer, IsNoCc}
use Rattle.osi_blameless.proofs.transport.by_line.each_connection_has_its_line.{IsSpare, Row, Tracked, asks}
use Rattle.osi_blameless.proofs.transport.by_line.each_connection_has_its_line.{closes, is_tracked, over, talks}
use Rattle.osi_blameless.proofs.transport.by_line.what_an_end_still_has.{OffersTwo, SelectsTwo, unit_after}
use Rattle.osi_blameless.proofs.transport.by_line.what_an_end_does_to_its_lines.{Puts, leads_more, nothing, of_line, of_none, taken_so}
use Rattle.osi_blameless.proofs.transport.names.names_stay_apart_though_one_is_lost.{AreNamedApart}
use Rattle.osi_blameless.proofs.transport.connections.what_the_other_side_closes.{IsDr, IsSane}
use Rattle.osi_blameless.proofs.transport.connections.which_units_are_for_a_connection.{picked_first, is_dc, is_ours, named_so, names}
use Rattle.osi_blameless.proofs.transport.connections.which_units_are_for_a_connection.{picked_more, picked_other, ours, ours_is, those}
use Rattle.osi_blameless.proofs.transport.by_line.what_a_unit_leaves_at_the_end.{Asks, Closes, Linked, Named, asked_so, dr_closes}
use Rattle.osi_blameless.proofs.transport.by_line.what_a_unit_leaves_at_the_end.{drops, early_dc}
use Rattle.osi_blameless.proofs.transport.by_line.what_a_unit_leaves_at_the_end.{early_parts, linked_so, named_by, no_answer, opened}
use Rattle.osi_blameless.proofs.transport.by_line.what_a_unit_leaves_at_the_end.{or_strays}
use Rattle.osi_blameless.proofs.transport.by_line.what_a_unit_leaves_at_the_end.{asked_puts, stays, unknown_so}
use Rattle.osi_blameless.proofs.transport.connections.what_is_live_at_an_end.{IsLive, shuts_of}
use Rattle.osi_blameless.proofs.transport.connections.a_line_since_its_connection_opened.{tracks_on}
use Rattle.osi_blameless.proofs.transport.by_line.what_an_end_does_to_its_lines.{dc_still, dc_waits, line_grows, not_asked_then, open_owner}
use Rattle.osi_blameless.proofs.transport.by_line.what_an_end_does_to_its_lines.{other_n}

none_first : (xs ys : List Value) → xs ++ ys ≡ [] → xs ≡ []
none_first [] ys e = refl
none_first (x ∷ xs) ys e = absurd (cc e)

module _ (local : Local) (w : Whole) (f : Followed local w) (sane : IsSane w.judge) (peers : AreNamedApart Right w.judge.connections)
    (offers : OffersTwo w.end) (orderly : IsOrderly w.end) (local_is : w.end.local ≡ local) (was : w.end.ended ≡ None) (u : Value)
    (later : List Value) (come : w.coming ≡ u ∷ later) (lasts : (react u w.end).ended ≡ None)
    (live_dr : IsDr u → (m : ℕ) → shuts_of Left u ≡ Some m →
    IsLive w.end m ⊎ (w.judge.course.disconnects.strays ≡ true)) (k : Named u w.end)
    (selects : SelectsTwo w.end u) where
  abbrev cs : List Connection
  cs = w.judge.connections

  abbrev s : State
  s = w.end

  abbrev t : State
  t = react u w.end

  abbrev units : List Value
  units = put_for u w.end

  abbrev n : ℕ
  n = k.n

  abbrev strays : Bool
  strays = w.judge.course.disconnects.strays

  abbrev after : Whole
  after = record w { end = t; put = w.put ++ units; coming = later }

  -- it is for a connection, whatever that is
  at : (o : Option Live) → value_at n s.live ≡ o → outcome u s ≡ to_connection n o u s
  at o here = k.is ∙ ap (λ (x : Option Live). to_connection n x u s) here

  t_at : (o : Option Live) → value_at n s.live ≡ o → t ≡ (to_connection n o u s).state
  t_at o here = state_is u s ∙ ap (λ (x : CarrierOutcome). x.state) (at o here)

  units_at : (o : Option Live) → value_at n s.live ≡ o → units ≡ (to_connection n o u s).put
  units_at o here = ap (λ (x : CarrierOutcome). x.put) (at o here)

  rows : (m : ℕ) → (m ≡ n → ⊥) → value_at m t.live ≡ value_at m s.live
  rows m other = (changes_one u s lasts).others m (λ e. other (e ∙ (grind arith)))

  first_n : (r : ℕ) → r ≡ n → those r w.coming ≡ u ∷ those n later
  first_n r same = grind (arith, picked_first, named_so)

  abbrev Mine : Type 0
  Mine = (p : ℕ) (c : Connection) → slice_get cs p ≡ Some c → is_tracked c ≡ true →
      (g : Following local w.put w.begun strays s w.coming c) → g.r ≡ n → Following local (w.put ++ units) w.begun strays t later c

  abbrev MineLinked : Type 0
  MineLinked = (peer : ℕ) (link : Standing) → value_at n t.live ≡ Some (linked peer link) → Tracked cs n × (t.class ≡ Some Two)

  asked_dc : is_dc u ≡ true → value_at n s.live ≡ Some asked → value_at n t.live ≡ Some asked
  asked_dc dc here = grind (arith, t_at (Some asked) here)

  -- as it takes the unit it begins to await no CC
  abbrev AskedBefore : Type 0
  AskedBefore = value_at n t.live ≡ Some asked → value_at n s.live ≡ Some asked

  all : AskedBefore → Mine → MineLinked → Puts w.judge s n units → Followed local after
  all asked_was mine linked_mine owner =
      taken_so local w f sane peers t units (u ∷ []) later n come (other_n local w f sane peers t units u later n come k.dest was asked_dc)
      rows (unit_after u s offers selects).class (unit_gives u s) was
      (dc_waits local w f sane peers t units u later n come k.dest was asked_dc) asked_was
      (dc_still local w f sane peers t units u later n come k.dest was asked_dc) mine linked_mine owner

  not_asked : (o : Option Live) → value_at n t.live ≡ o → (o ≡ Some asked → ⊥) → AskedBefore
  not_asked o there none h = absurd (none (sym there ∙ h))

  no_units : units ≡ [] → (r peer : ℕ) → ours r peer (w.put ++ units) ≡ ours r peer w.put
  no_units e r peer = ap (λ (l : List Value). ours r peer l) (ap (λ (l : List Value). w.put ++ l) e ∙ append-nil w.put)

  -- ---- a unit that the end ignores, or answers although it has closed the connection

  -- the line ignores it, and what the end puts is spare
  ignored : (more : List Value) (new : Option Live) → value_at n t.live ≡ new → (q : ℕ) → (new ≡ Some (closing q)) ⊎ (new ≡ None) →
      (c : Connection) (g : Following local w.put w.begun strays s w.coming c) → g.r ≡ n → g.line.end ≡ None →
      those g.r w.coming ≡ g.line.coming → ours g.r g.peer (w.put ++ units) ≡ ours g.r g.peer w.put ++ more →
      AllByRecursion (IsSpare strays g.r g.peer) more → Following local (w.put ++ units) w.begun strays t later c
  ignored more new there q h c g same gone all_come puts spares =
      let coming = sym all_come ∙ first_n g.r same in
      let line : Line = record g.line { coming = those n later } in
      record {
        r = g.r;
        peer = g.peer;
        line = line;
        left = g.left;
        right = g.right;
        tracks = tracks_on Left g.r g.peer g.line line (ignores (u ∷ []) ∷ []) g.tracks (line, (gone, coming, refl), refl);
        judge = g.judge;
        spare = g.spare ++ more;
        put_is = puts ∙ ap (λ (l : List Value). l ++ more) g.put_is ∙ append_assoc g.line.put g.spare more;
        spares = all_join (IsSpare strays g.r g.peer) g.spare more g.spares spares;
        gone = λ some. gone;
        begun_is = λ first. g.begun_is (λ h. none_first g.spare more (first h))
            ∙ leads_more w.begun (is_ours g.r g.peer) w.put units f.some;
        row = closes new (ap (λ (i : ℕ). value_at i t.live) same ∙ there) q h gone (grind (arith, those));
        calm = λ j. (subst (AllByRecursion IsNoCc) coming (g.calm j)).1;
      }

  abbrev Spares : Type 0
  Spares = (r peer : ℕ) → r ≡ n → (more : List Value) × ((ours r peer (w.put ++ units) ≡ ours r peer w.put ++ more)
      × AllByRecursion (IsSpare strays r peer) more)

  closed_row : Spares → (old new : Option Live) → value_at n s.live ≡ old → (p : ℕ) → (old ≡ Some (closing p)) ⊎ (old ≡ None) →
      value_at n t.live ≡ new → (q : ℕ) → (new ≡ Some (closing q)) ⊎ (new ≡ None) → (c : Connection)
      (g : Following local w.put w.begun strays s w.coming c) → g.r ≡ n → Row local s w.coming g.r g.peer g.line →
      Following local (w.put ++ units) w.begun strays t later c
  closed_row spares old new here p a there q b c g same (asks r x source two early dcs first is) = grind arith
  closed_row spares old new here p a there q b c g same (talks link r is come_all) = grind arith
  closed_row spares old new here p a there q b c g same (over h) = differ (is_some s.ended) h (ap is_some was)
  closed_row spares old new here p a there q b c g same (closes o r i h gone come_all) =
      let (more, (puts, all_spare)) = spares g.r g.peer same in
      ignored more new there q b c g same gone come_all puts all_spare

  no_spares : units ≡ [] → Spares
  no_spares none r peer same = ([], (no_units none r peer ∙ sym (append-nil (ours r peer w.put)), tt))

  -- ---- by what the end has

  -- a DR is answered by a DC, whatever its references
  dc_by : (m : ℕ) → units ≡ disconnected m n ∷ [] → strays ≡ true → (r peer : ℕ) → r ≡ n → (b : Bool) →
      is_ours r peer (disconnected m n) ≡ b → (more : List Value) × ((ours r peer (w.put ++ units) ≡ ours r peer w.put ++ more)
      × AllByRecursion (IsSpare strays r peer) more)
  dc_by m is stray_now r peer same true h =
      let named = (ours_is r peer (disconnected m n) h).named in (
        disconnected m n ∷ [],
        (
          ap (λ (l : List Value). ours r peer (w.put ++ l)) is ∙ picked_more (is_ours r peer) w.put (disconnected m n) h,
          (record { is = grind (arith, number_is); strays = stray_now }, tt),
        ),
      )
  dc_by m is stray_now r peer same false h = grind (arith, ours, picked_other, is_ours, append-nil)

  dc_spares : (m : ℕ) → units ≡ disconnected m n ∷ [] → strays ≡ true → Spares
  dc_spares m is stray_now r peer same = dc_by m is stray_now r peer same (is_ours r peer (disconnected m n)) refl

  answered : (m : ℕ) → value_at n s.live ≡ None → units ≡ disconnected m n ∷ [] → value_at n t.live ≡ None → n ≤ s.given →
      strays ≡ true → Followed local after
  answered m here is there known stray_now =
      all (not_asked None there (λ e. cc e))
      (λ p c at tracked g same. closed_row (dc_spares m is stray_now) None None here 0 (inr refl) there 0 (inr refl) c g same g.row)
      (λ peer link h. absurd (cc (sym there ∙ h)))
      (of_none (record { m = m; is = is; strays = stray_now }) (record { up = known; row = λ h. absurd (cc (sym here ∙ h)) }))

  no_dr : value_at n s.live ≡ None → (IsDr u → ⊥) → Followed local after
  no_dr here not_dr =
      let same = unknown_so u s t n k.dest (t_at None here) lasts not_dr in
      let none = units_at None here ∙ (grind arith) in
      let there : value_at n t.live ≡ None = ap (λ (x : State). value_at n x.live) same ∙ here in
      all (not_asked None there (λ e. cc e))
      (λ p c at tracked g is. closed_row (no_spares none) None None here 0 (inr refl) there 0 (inr refl) c g is g.row)
      (λ peer link h. absurd (cc (sym there ∙ h))) (nothing none)

  at_gone : value_at n s.live ≡ None → Followed local after
  at_gone here = grind (arith, t_at None here, units_at None here, no_dr, same_number, is_dc, answered, or_strays, dr_closes)

  by_closing : (q : ℕ) → value_at n s.live ≡ Some (closing q) → units ≡ [] → Closes n q s t → Followed local after
  by_closing q here none (stays same) =
      let there = ap (λ (x : State). value_at n x.live) same ∙ here in
      all (not_asked (Some (closing q)) there (λ e. cc e))
      (λ p c at tracked g is. closed_row (no_spares none) (Some (closing q)) (Some (closing q)) here q (inl refl) there q
      (inl refl) c g is g.row)
      (λ peer link h. absurd (cc (sym there ∙ h))) (nothing none)
  by_closing q here none (drops there) =
      all (not_asked None there (λ e. cc e))
      (λ p c at tracked g is. closed_row (no_spares none) (Some (closing q)) None here q (inl refl) there 0 (inr refl) c g is g.row)
      (λ peer link h. absurd (cc (sym there ∙ h))) (nothing none)

  at_closing : (q : ℕ) → value_at n s.live ≡ Some (closing q) → Followed local after
  at_closing q here =
      grind (arith, t_at (Some (closing q)) here, units_at (Some (closing q)) here, by_closing, without_here)

  -- ---- its CC

  opened_row : units ≡ [] → (x : Connect) → u ≡ confirm n x → value_at n s.live ≡ Some asked →
      value_at n t.live ≡ Some (linked x.source (opened_link Two (agreed_size x.parameters.size s.local) s.local x.credit)) →
      (c : Connection) (g : Following local w.put w.begun strays s w.coming c) → g.r ≡ n → Row local s w.coming g.r g.peer g.line →
      Following local (w.put ++ units) w.begun strays t later c
  opened_row none x e here there c g same (over h) = differ (is_some s.ended) h (ap is_some was)
  opened_row none x e here there c g same (talks link r is come_all) = grind arith
  opened_row none x e here there c g same (closes o r i (inl h) gone come_all) = grind arith
  opened_row none x e here there c g same (closes o r i (inr h) gone come_all) = grind arith
  opened_row none x e here there c g same (asks r y source two early dcs first is) =
      let (first_so, coming) = (early_parts early u (confirm g.r y) (those n later) g.line.coming dcs (sym (first_n g.r same) ∙ first)).1
      (ap is_dc e) in
      let x_is : x ≡ y = grind arith in
      let link_is : (l : Local) → l ≡ local → linked x.source (opened_link Two (agreed_size x.parameters.size l) l x.credit)
      ≡ linked g.peer (opened_link Two (agreed_size y.parameters.size local) local y.credit) = λ l h.
      ap (λ (m : Local). linked x.source (opened_link Two (agreed_size x.parameters.size m) m x.credit)) h
      ∙ ap (λ (z : Connect). linked z.source (opened_link Two (agreed_size z.parameters.size local) local z.credit)) x_is
      ∙ ap (λ (i : ℕ). linked i (opened_link Two (agreed_size y.parameters.size local) local y.credit)) source in
      followed_at g (no_units none g.r g.peer) g.spares (leads_more w.begun (is_ours g.r g.peer) w.put units f.some)
      (talks (opened_link Two (agreed_size y.parameters.size local) local y.credit) (ap (λ (i : ℕ). value_at i t.live) same ∙ there
      ∙ ap (λ (a : Live). Some a) (link_is s.local local_is)) is ((grind (arith, those)) ∙ coming))

  -- what comes first for a connection that is asked for is its CC
  other_row : {A : Type 0} → is_dc u ≡ false → ((x : Connect) → u ≡ confirm n x → ⊥) → value_at n s.live ≡ Some asked → (r peer : ℕ)
      (line : Line) → r ≡ n → Row local s w.coming r peer line → A
  other_row no_dc none here r peer line same k = grind (arith, differ, early_parts, first_n)

  -- a DC before the CC
  early_row : units ≡ [] → is_dc u ≡ true → value_at n s.live ≡ Some asked → value_at n t.live ≡ Some asked → (c : Connection)
      (g : Following local w.put w.begun strays s w.coming c) → g.r ≡ n → Row local s w.coming g.r g.peer g.line →
      Following local (w.put ++ units) w.begun strays t later c
  early_row none dc here there c g same (over h) = differ (is_some s.ended) h (ap is_some was)
  early_row none dc here there c g same (talks link a is come_all) = grind arith
  early_row none dc here there c g same (closes o a i (inl h) gone come_all) = grind arith
  early_row none dc here there c g same (closes o a i (inr h) gone come_all) = grind arith
  early_row none dc here there c g same (asks a y source two early dcs first is) =
      let (more, (more_dcs, rest)) = (early_parts early u (confirm g.r y) (those n later) g.line.coming dcs
      (sym (first_n g.r same) ∙ first)).0 dc refl in
      followed_at g (no_units none g.r g.peer) g.spares (leads_more w.begun (is_ours g.r g.peer) w.put units f.some)
      (asks (ap (λ (i : ℕ). value_at i t.live) same ∙ there) y source two more more_dcs ((grind (arith, those)) ∙ rest) is)

  head_answer : value_at n s.live ≡ Some asked → (x : Connect) → u ≡ confirm n x → Tracked cs n
  head_answer here x e =
      ((subst (AllByRecursion (λ (v : Value). IsAnswer w.judge.course.loose cs s v)) come f.answers).0 n x e was (inl here)).0

  by_asked : value_at n s.live ≡ Some asked → units ≡ [] → Asks n u s t → Followed local after
  by_asked here none (opened x e there two) =
      all (λ h. here)
      (λ p c at tracked g is. opened_row none x e here there c g is g.row) (λ peer link h. (head_answer here x e, two)) (nothing none)
  by_asked here none (no_answer no_dc no_cc there) =
      all (λ h. here) (λ p c at tracked g is. other_row no_dc no_cc here g.r g.peer g.line is g.row)
      (λ peer link h. absurd (cc (sym there ∙ h))) (nothing none)
  by_asked here none (early_dc dc there) =
      all (λ h. here)
      (λ p c at tracked g is. early_row none dc here there c g is g.row) (λ peer link h. absurd (cc (sym there ∙ h))) (nothing none)

  at_asked : value_at n s.live ≡ Some asked → Followed local after
  at_asked here =
      by_asked here (units_at (Some asked) here ∙ asked_puts n u s)
      (asked_so n u s t offers (grind (arith, same_number)) orderly.rise here k.dest
      (t_at (Some asked) here) lasts)

  -- ---- an open connection

  at_linked : (peer : ℕ) (link : Standing) → value_at n s.live ≡ Some (linked peer link) → Followed local after
  at_linked peer link here =
      let (tracked, two) = f.linked was n peer link here in
      let come_n : (r : ℕ) → r ≡ n → those r w.coming ≡ u ∷ those r later =
      λ r same. first_n r same ∙ ap (λ (i : ℕ). u ∷ those i later) (sym same) in
      let follows : (r q : ℕ) (l : Standing) → r ≡ n → value_at r s.live ≡ Some (linked q l) → Follows r q (u ∷ []) units s t =
      λ r q l same row. follows_open u s r q l orderly.rise two was row (k.dest ∙ ap (λ (i : ℕ). Some i) (sym same)) in
      let linked_then : (q : ℕ) (l : Standing) → value_at n s.live ≡ Some (linked q l) → Linked n q t =
      λ q l row. linked_so n q l u s t row two orderly.rise (t_at (Some (linked q l)) row) in
      all (λ h. absurd (not_asked_then local w f t units (u ∷ []) later n peer link was here come_n follows linked_then h))
      (λ i x there is_there g same. line_grows local w f t units (u ∷ []) later n peer link was here come_n follows linked_then x g same)
      (λ q l h. (tracked, (unit_after u s offers selects).class two))
      (of_line (open_owner local w f t units (u ∷ []) later n peer link was here come_n follows linked_then)
      (record { up = grind (arith, beyond, ltb-true, ltb-false); row = λ h. absurd (cc (sym here ∙ h)) }))

  by_row : (o : Option Live) → value_at n s.live ≡ o → Followed local after
  by_row o here = grind (arith, at_gone, at_asked, at_linked, at_closing)

pub end_takes : (local : Local) (w : Whole) → Followed local w → IsSane w.judge → AreNamedApart Right w.judge.connections →
    OffersTwo w.end →
    IsOrderly w.end → w.end.local ≡ local → w.end.ended ≡ None → (u : Value) (later : List Value) → w.coming ≡ u ∷ later →
    (react u w.end).ended ≡ None → (IsDr u → (m : ℕ) → shuts_of Left u ≡ Some m →
    IsLive w.end m ⊎ (w.judge.course.disconnects.strays ≡ true)) →
    SelectsTwo w.end u →
    Followed local (record w { end = react u w.end; put = w.put ++ put_for u w.end; coming = later })
end_takes local w f sane peers offers orderly local_is was u later come lasts live_dr selects =
    let k = named_by u w.end offers was offers.class lasts in
    by_row local w f sane peers offers orderly local_is was u later come lasts live_dr k selects (value_at k.n w.end.live) refl

-- ---- the next unit, if it is a CC that the end awaits

module _ (local : Local) (w : Whole) (u : Value) (later : List Value) (come : w.coming ≡ u ∷ later) (lasts : w.end.ended ≡ None) (m : ℕ)
    (x : Connect) (e : u ≡ confirm m x) (row : value_at m w.end.live ≡ Some asked) where
  two_by : (r peer : ℕ) (line : Line) → r ≡ m → Row local w.end w.coming r peer line → (x.class == 2) ≡ true
  two_by r peer line same h = grind (arith, differ, named_so, those, picked_first, names, early_parts, is_dc)

-- it selects class 2
pub next_selects : (local : Local) (w : Whole) → Followed local w → (u : Value) (later : List Value) → w.coming ≡ u ∷ later →
    SelectsTwo w.end u
next_selects local w f u later come lasts m x e row =
    let answers = subst (AllByRecursion (λ (v : Value). IsAnswer w.judge.course.loose w.judge.connections w.end v)) come f.answers in
    let (p, c, at, tracked, left) = (answers.0 m x e lasts (inl row)).0 in
    let g = f.lines p c at tracked in
    two_by local w u later come lasts m x e row g.r g.peer g.line (sym g.left ∙ left) g.row
