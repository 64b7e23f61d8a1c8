-- Once the CR that waits has been refused, and a packet of left has begun since, no connection waits: each is over for left.
-- For the law on CRs that wait.
use Rattle.osi_blameless.proofs.transport.Vocabulary.{arith, [], ap, Bool, false, List, map, None, refl, Some, subst, suc, sym, true, zero}
use Rattle.osi_blameless.proofs.transport.Vocabulary.{ℕ, ◌∷◌, ◌≡◌}
use Rattle.osi_blameless.proofs.transport.Vocabulary.{list_all, not, slice_get, begins, is_live, is_over, is_refused, fresh, packet_begins}
use Rattle.osi_blameless.proofs.transport.Vocabulary.{Connection}
use Rattle.osi_blameless.proofs.transport.Vocabulary.{Left, all_passed, Passing}
use Rattle.osi_blameless.proofs.transport.small_facts_that_many_lemmas_use.{both}
use Rattle.osi_blameless.proofs.transport.names.what_holds_of_one_item.{HoldsOfEach, after_map}
use Rattle.osi_blameless.proofs.transport.names.all_are_judged_unless_one_broke.{IsJudged, all_judged}
use Rattle.osi_blameless.proofs.transport.names.a_reference_names_one_connection.{all_apart, fresh_apart, no_item}
use Rattle.osi_blameless.proofs.transport.requests.one_request_waits.{begun_live, one_waits}
use Rattle.osi_blameless.proofs.transport.names.what_a_side_knows_stays.{same_item}

pub all_from : (f : Connection → Bool) (cs : List Connection) → HoldsOfEach (λ (c : Connection). f c ≡ true) cs → list_all f cs ≡ true
all_from f [] h = refl
all_from f (c ∷ cs) h = both (f c) (list_all f cs) (h zero c refl) (all_from f cs (λ i e at. h (suc i) e at))

pub refused_over : (c : Connection) → c.is_judged ≡ true → is_refused c.right.phase ≡ true → is_over Left (begins Left c) ≡ true
refused_over c j h = grind (arith, both)

module _ (ps : List Passing) (p : ℕ) (c : Connection) (none : (all_passed ps fresh).course.class ≡ None)
    (firm : (all_passed ps fresh).course.loose ≡ false) (at : slice_get (all_passed ps fresh).connections p ≡ Some c)
    (live : is_live Left c ≡ true) (refused : is_refused c.right.phase ≡ true) where
  judged : HoldsOfEach IsJudged (all_passed ps fresh).connections
  judged = all_judged ps fresh (λ h i e there. no_item i e there) firm

  over_by : (b : Bool) (i : ℕ) (e : Connection) → slice_get (all_passed ps fresh).connections i ≡ Some e →
      is_over Left (begins Left e) ≡ b → is_over Left (begins Left e) ≡ true
  over_by true i e there h = h
  over_by false i e there h =
      let j = judged i e there in
      let sound = (all_apart ps fresh fresh_apart).sound i e there j in
      let (was, so) = begun_live Left e sound.left_knows j (ap not h) in
      let same : i ≡ p = one_waits ps none i p e c there at was (judged p c at) so live in
      grind (arith, same_item, refused_over, judged)

  all_over : list_all (is_over Left) (map (begins Left) (all_passed ps fresh).connections) ≡ true
  all_over = all_from (is_over Left) (map (begins Left) (all_passed ps fresh).connections) (λ i x there.
      let (e, was, is) = after_map (begins Left) (all_passed ps fresh).connections i x there in
      subst (λ (y : Connection). is_over Left y ≡ true) (sym is) (over_by (is_over Left (begins Left e)) i e was refl))

pub waits_no_more : (ps : List Passing) (p : ℕ) (c : Connection) → (all_passed ps fresh).course.class ≡ None →
    (all_passed ps fresh).course.loose ≡ false → slice_get (all_passed ps fresh).connections p ≡ Some c → is_live Left c ≡ true →
    is_refused c.right.phase ≡ true → list_all (is_over Left) (packet_begins Left (all_passed ps fresh)).connections ≡ true
waits_no_more ps p c none firm at live refused = all_over ps p c none firm at live refused
