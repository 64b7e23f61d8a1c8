-- The octets of an unfinished TSDU that the link of an open connection holds are those that are left over of the parts it took. So a judge
-- has joined the same, if nothing is in flight to the end.
-- For a TSDU of the other side that becomes too long.
use Rattle.osi_blameless.proofs.Vocabulary.{[], ap, Bool, false, List, None, Option, refl, Some, subst, sym, true, ℕ, ◌++◌, ◌∙◌, ◌∷◌, ◌≡◌}
use Rattle.osi_blameless.proofs.Vocabulary.{append-nil, append_assoc, eq-eqb, AllByRecursion, slice_get, Value, parts_in, Part, End}
use Rattle.osi_blameless.proofs.Vocabulary.{Standing, value_at, Live, linked, Traffic as State, Connection, is_open, own, Direction, other}
use Rattle.osi_blameless.proofs.Vocabulary.{Deeds, Joined, Sessions, reference_of, spoken, way_of, calls_from, left_over, picked_first}
use Rattle.osi_blameless.proofs.Vocabulary.{picked_rest, arith, if◌then◌else◌, append_cancel_left, takes_run, AreCalls, Gone, IsFreshLink}
use Rattle.osi_blameless.proofs.Vocabulary.{IsShut, closed, never, IsZeroAt, begun_octets, over}
use Rattle.osi_class.proofs.bounds.what_calls_take.{all as all_taken}
use Rattle.osi_carrier.specs.State.{asked}
use Rattle.osi_blameless.specs.ends.Courses.{Course, awaited, is_gone, unknown}
use Rattle.osi_blameless.specs.ends.Courses.Course.{is_open as course_open}
use Rattle.osi_blameless.proofs.small_facts_that_many_lemmas_use.{over_none}
use Rattle.osi_blameless.proofs.shown.a_session_that_is_shown_is_not_to_blame.{tsdus_more}
use Rattle.osi_blameless.proofs.standing.all_connections_stand.{AllStand}
use Rattle.osi_blameless.proofs.breaking.an_end_of_class_0_has_its_connection_open.{MayBeFollowed}
use Rattle.osi_blameless.proofs.standing.what_is_in_flight_to_an_end.{in_flight, in_flight_more}
use Rattle.osi_blameless.proofs.standing.what_stands_of_a_connection.{Known, Stands, is_for, lives, past, unnamed}

-- ---- a link

fresh_whole : (first : Standing) → IsFreshLink first → (first.ends.joining.whole ≡ []) × (first.ends.joining.begun ≡ [])
fresh_whole first f = grind arith

pub begun_left : (peer : ℕ) (deeds : Deeds) (c : AreCalls peer deeds) → c.link.ends.joining.begun ≡ left_over [] (parts_in deeds.calls)
begun_left peer deeds c =
    let (whole, begun) = fresh_whole c.first c.fresh in
    let parts = parts_in deeds.calls in
    let b = c.link.ends.joining.begun in
    let w = c.link.ends.joining.whole in
    let one : List Part = (true, []) ∷ [] in
    let run = takes_run c.first c.link deeds.calls one c.along in
    grind (arith, all_taken, tsdus_more, append_assoc, append_cancel_left, append-nil)

-- ---- no part is in flight

one_none : (r : ℕ) (v : Value) → MayBeFollowed v → in_flight r (v ∷ []) ≡ []
one_none r v h = grind (arith, is_for, in_flight, picked_first, picked_rest)

pub none_in_flight : (r : ℕ) (units : List Value) → AllByRecursion MayBeFollowed units → in_flight r units ≡ []
none_in_flight r [] h = refl
none_in_flight r (v ∷ units) h =
    in_flight_more r (v ∷ []) units ∙ (λ i. one_none r v h.0 i ++ none_in_flight r units h.1 i)

-- ---- a connection that is open

open_link_is : (is_caller : Bool) (r peer : ℕ) (link : Standing) (deeds : Deeds) (e : End) → IsZeroAt r peer link e.carrier →
    Course is_caller r deeds e → link.ends.joining.begun ≡ left_over [] (parts_in deeds.calls)
open_link_is is_caller r peer link deeds e z course = by course
  where
    here : value_at r e.carrier.live ≡ Some (linked peer link)
    here = ap (value_at r) z.live ∙ ap (λ (b : Bool). if◌then◌else◌ {A = Option Live} b (Some (linked peer link)) None) (eq-eqb r r refl)

    not_none : {A : Type 0} → value_at r e.carrier.live ≡ None → A
    not_none none = absurd (let no : Some (linked peer link) ≡ None = sym here ∙ none in cc)

    not_asked : {A : Type 0} → value_at r e.carrier.live ≡ Some asked → A
    not_asked is = absurd (let no : Some (linked peer link) ≡ Some asked = sym here ∙ is in cc)

    same_link : (p : ℕ) (l : Standing) → value_at r e.carrier.live ≡ Some (linked p l) → link ≡ l
    same_link p l is = let same : Some (linked peer link) ≡ Some (linked p l) = sym here ∙ is in cc

    gone_not : {A : Type 0} → Gone is_caller r deeds e → A
    gone_not (closed p calls b session speaks given shut) = absurd (subst IsShut here shut)
    gone_not (over p calls heard unheard b session speaks parts into ended) = over_none e.carrier.ended ended z.lasts
    gone_not (never none ended) = over_none e.carrier.ended ended z.lasts

    by : Course is_caller r deeds e → link.ends.joining.begun ≡ left_over [] (parts_in deeds.calls)
    by (unknown none side given live lines) = not_none live
    by (awaited none c terms side lasts given live kept) = not_asked live
    by (course_open given o) =
        ap (λ (l : Standing). l.ends.joining.begun) (same_link o.peer o.calls.link o.here) ∙ begun_left o.peer deeds o.calls
    by (is_gone g) = gone_not g

-- a judge has joined what the link has begun of a TSDU
pub joined_is_begun : (d : Direction) (deeds : ℕ → Deeds) (known : Known) (put : List Value) (b : Bool) (s : State) (t : Sessions)
    (e : End) →
    AllStand d deeds known put b s t → ((r : ℕ) → Course (calls_from d) r (deeds r) e) → (r peer : ℕ) (link : Standing) →
    IsZeroAt r peer link e.carrier → (p : ℕ) (c : Connection) (j : Joined) → slice_get s.connections p ≡ Some c →
    slice_get t.live p ≡ Some j → c.is_judged ≡ true → is_open (own (way_of d) c).phase ≡ true → reference_of d j ≡ Some r →
    ((q : ℕ) (later : List Part) → q ≡ r → known q later → later ≡ []) →
    begun_octets (spoken (other d) j).begun ≡ link.ends.joining.begun
joined_is_begun d deeds known put b s t e a courses r peer link z p c j there here judged live named none =
    by (a.live p c j there here judged)
  where
    number : (m n : ℕ) → Some m ≡ Some n → m ≡ n
    number m n same = cc

    by : Stands d deeds known put b c j → begun_octets (spoken (other d) j).begun ≡ link.ends.joining.begun
    by (unnamed bare mine theirs room) = absurd (let bad : Some r ≡ None = sym named ∙ bare in cc)
    by (past q shut waiting later sure h) = absurd (let bad : true ≡ false = sym live ∙ shut in cc)
    by (lives q o is open_too later sure h) =
        let same : q ≡ r = number q r (sym h.shown.named ∙ named) in
        grind (arith, append-nil, open_link_is (calls_from d) r peer link (deeds r) e z (courses r))
