-- Two joined carriers stay joined when one of them acts.
-- For joined carriers, the invariant and the laws.
use Rattle.osi_between.proofs.Vocabulary.{◌≡◌, ℕ, zero, suc, ◌+◌, ◌<◌, ◌≤◌, Bool, true, false, not, List, [], ◌∷◌, ◌++◌, length, Some, None}
use Rattle.osi_between.proofs.Vocabulary.{refl, sym, ap, subst, ◌∙◌, arith, length-append, AllByRecursion, eq-eqb, ne_eqb, ltb-true}
use Rattle.osi_between.proofs.Vocabulary.{ltb-false, append_cancel_left, IsOctets, Value, Connect, request, IsShortTsdu, Standing, Local}
use Rattle.osi_between.proofs.Vocabulary.{references, sent, closed_with, Place, never, was_given, place_at, RiseFrom, IsOrderly, react}
use Rattle.osi_between.proofs.Vocabulary.{is_of_peer, has_peer, Rows, value_at, Connection, asked, linked, State, absent, beyond}
use Rattle.osi_between.proofs.Vocabulary.{orderly_unit, orderly_sent, orderly_closed, has_room, reference_of, units_of, AreFor, requests}
use Rattle.osi_between.proofs.Vocabulary.{behind, live_after, Course, asking, accepting, withdrawing, met, at_end, from_end, IsAskedBy}
use Rattle.osi_between.proofs.Vocabulary.{HoldsAt, called_local, answers_at, CourseMoves, StandsBetween, HasPlaces, AreJoined, JoinedFrom}
use Rattle.osi_between.proofs.Vocabulary.{Did, here, Message, agree, message, bye, found, flat_map-append, inr, Meeting, confirm, answer_of}
use Rattle.osi_between.proofs.Vocabulary.{swapped, after_send, left_here, Given, back, IsAt, length-map}
use Rattle.osi_between.proofs.unit.the_units_of_one_connection.{first_of_all, behind_join, places_join, places_rest, places_for, all_join}
use Rattle.osi_between.proofs.unit.the_units_of_one_connection.{all_rest, first_asked}
use Rattle.osi_between.proofs.meeting.how_a_connection_changes_at_each_end.{given_place, is_given, met_moves, met_stands, seen_from}
use Rattle.osi_between.proofs.meeting.how_a_connection_is_opened.{accepts_moves, confirm_moves, accepted_at, accepted_moves}
use Rattle.osi_between.proofs.joined.each_connection_is_in_a_shared_state.{all_stand, acts_for, stands_turned}
use Rattle.osi_between.proofs.meeting.a_connection_after_each_unit_and_call.{take_here, send_here, close_here, send_open, close_open}
use Rattle.osi_between.proofs.meeting.a_connection_after_each_unit_and_call.{mirror_twice}

-- ---- units with references

abbrev IsNamed : Value → Type 0
IsNamed unit = 0 < reference_of unit

abbrev AreNamed : List Value → Type 0
AreNamed units = AllByRecursion IsNamed units

named_for : (n : ℕ) (us : List Value) → 0 < n → AreFor n us → AreNamed us
named_for n [] some h = tt
named_for n (u ∷ us) some h = (subst (λ (m : ℕ). 0 < m) (sym h.0) some, named_for n us some h.1)

length_behind : (g k : ℕ) → length (behind g k) ≡ k
length_behind g zero = refl
length_behind g (suc k) = let more = length_behind (g + 1) k in omega arith

-- ---- an end acts

-- the two, seen from an end
pub record Seen (end : Bool) (this other : State) (going coming : List Value) : Type 0 where
  pub lasts : this.ended ≡ None
  pub orderly : IsOrderly this
  pub named : AreNamed coming
  pub stands : (n : ℕ) → 0 < n → StandsBetween end n this other going coming

abbrev pub seen : (end : Bool) (this other : State) (going coming : List Value) → JoinedFrom end this other going coming →
    Seen end this other going coming
seen true s r going coming j = record { lasts = j.lasts; orderly = j.orderly; named = j.named_back; stands = j.stands }
seen false r s coming going j =
    record {
      lasts = j.lasts_called;
      orderly = j.orderly_called;
      named = j.named;
      stands = λ n some. stands_turned true n s r going coming (j.stands n some);
    }

-- the CRs that it writes find a place
abbrev Fits : Bool → State → List Value → List Value → Type 0
Fits true other going units = HasPlaces (live_after (references other.live) going) units
Fits false other going units = Unit {0}

joined_after : (end : Bool) (this other next : State) (going coming rest taken : List Value) (put : List Message) (n count : ℕ) → 0 < n →
    JoinedFrom end this other going coming → (st : StandsBetween end n this other going coming) → coming ≡ taken ++ rest →
    AreFor n taken → IsOrderly next → (mv : CourseMoves end n st.course this other next taken count put) →
    Fits end other going mv.units → JoinedFrom end next other (going ++ mv.units) rest
joined_after true s r t going coming rest taken put n count some j st cut all orderly mv fits =
    grind (
      arith,
      all_rest IsNamed taken rest,
      all_join IsNamed going mv.units j.named (named_for n mv.units some mv.acts.all_for),
      all_stand true n count s r t going coming rest taken put st cut all mv j.stands,
      flat_map-append,
      behind_join r.given j.ahead count,
      places_join (references r.live) going mv.units j.places fits,
    )
joined_after false r s t coming going rest taken put n count some j st cut all orderly mv fits =
    let after = mv.given in
    let left = length (requests rest) in
    let parts : behind r.given j.ahead ≡ behind r.given count ++ requests rest =
    sym j.numbers ∙ ap requests cut ∙ (grind (arith, flat_map-append)) ∙ ap (λ (l : List ℕ). l ++ requests rest) mv.numbers in
    let sizes = sym (length_behind r.given j.ahead) ∙ ap length parts ∙ length-append (behind r.given count) (requests rest) in
    let one = length_behind r.given count in
    let more : behind (r.given + count) left ≡ requests rest = grind (arith, append_cancel_left, behind_join) in
    let every = (seen false r s coming going j).stands in
    record {
      is_caller = j.is_caller;
      is_called = mv.acts.is_caller ∙ j.is_called;
      lasts = j.lasts;
      lasts_called = mv.acts.ended ∙ j.lasts_called;
      orderly = j.orderly;
      orderly_called = orderly;
      supports = j.supports;
      supports_called = ap (λ (x : Local). x.class2) mv.acts.local ∙ j.supports_called;
      class = j.class;
      class_called = mv.acts.may j.class_called;
      named = all_rest IsNamed taken rest (subst (λ (l : List Value). AreNamed l) cut j.named);
      named_back = all_join IsNamed coming mv.units j.named_back (named_for n mv.units some mv.acts.all_for);
      stands = λ q above. stands_turned false q t s (coming ++ mv.units) rest
          (all_stand false n count r s t coming going rest taken put st cut all mv every q above);
      ahead = left;
      given = omega arith;
      numbers = sym more ∙ ap (λ (g : ℕ). behind g left) (sym after);
      places = grind (arith, places_rest);
    }

pub did : (end : Bool) (this other next : State) (going coming rest taken : List Value) (put : List Message) (n count : ℕ) → 0 < n →
    JoinedFrom end this other going coming → (st : StandsBetween end n this other going coming) → coming ≡ taken ++ rest →
    AreFor n taken → IsOrderly next → (mv : CourseMoves end n st.course this other next taken count put) →
    Fits end other going mv.units → Did end n this other next going coming rest put
did end this other next going coming rest taken put n count some j st cut all orderly mv fits = record {
  behind = going ++ mv.units;
  acts = acts_for end n count this other next going coming rest taken put st cut all mv;
  joined = joined_after end this other next going coming rest taken put n count some j st cut all orderly mv fits;
}

-- ---- an end takes a unit

-- no live connection has this number of the peer
no_peer : (n m : ℕ) (rows : Rows Connection) → RiseFrom m rows →
    ((q : ℕ) (x : Connection) → m < q → value_at q rows ≡ Some x → is_of_peer n x ≡ false) → has_peer n rows ≡ false
no_peer n m [] rise h = refl
no_peer n m ((r, x) ∷ rows) rise h =
    let first : is_of_peer n x ≡ false = h r x rise.0 (found r r x rows true (eq-eqb r r refl)) in
    let others : has_peer n rows ≡ false = no_peer n r rows rise.1
    (λ q y above at. h q y (let low = rise.0 in omega arith) (found q r x rows false (ne_eqb r q (λ same. omega arith)) ∙ at)) in
    rw first others

pub given_live : (q : ℕ) (r : State) (x : Connection) → IsOrderly r → value_at q r.live ≡ Some x → place_at q r ≡ was_given (Some x)
given_live q r x orderly at = grind (arith, beyond, ltb-true, given_place, ltb-false)

-- the CR is for the next reference, and there is a place for it
request_moves : (n : ℕ) (s r : State) (going coming rest : List Value) (c : Connect) → 0 < n → AreJoined s r going coming →
    place_at n r ≡ never → IsAskedBy n s.local c → going ≡ request c ∷ rest →
    CourseMoves false n (asking c) r s (react (request c) r) (request c ∷ []) 1 (agree ∷ [])
request_moves n s r going coming rest c some j at a cut =
    let source : c.source ≡ n = ap (λ (x : Connect). x.source) a.is in
    let first = first_asked r.given j.ahead c.source (requests rest) (sym (ap requests cut) ∙ j.numbers) in
    let next : n ≡ r.given + 1 = sym source ∙ first.0 in
    let more = first.2 in
    let few : length (references r.live) < 64 = (subst (λ (l : List Value). HasPlaces (references r.live) l) cut j.places).0 in
    let size = length-map r.live (λ (row : ℕ × Connection). row.0) in
    let free : has_peer c.source r.live ≡ false =
    no_peer c.source 0 r.live j.orderly_called.rise (λ q x above live.
    grind (arith, j.stands q above, given_live q r x j.orderly_called live)) in
    accepts_moves n c s r next a j.orderly_called j.lasts_called j.is_called j.class_called free (has_room r (omega arith) (omega arith))
    (omega arith) j.supports_called

-- both have had it open
at_meeting : (end : Bool) (n : ℕ) (m : Meeting) (this other : State) → 0 < n → this.ended ≡ None → IsOrderly this →
    place_at n this ≡ at_end end n (met m) → HoldsAt end n this other (met m) → IsAt n this (seen_from end m)
at_meeting end n m this other some quiet orderly at h = grind (arith, is_given, met_stands)

record Moved (end : Bool) (n : ℕ) (g : Course) (this other : State) (going : List Value) (u : Value) : Type 0 where
  count : ℕ
  moves : CourseMoves end n g this other (react u this) (u ∷ []) count (answers_at (at_end end n g) u)
  fits : Fits end other going moves.units

caller_moved : (n : ℕ) (g : Course) (s r : State) (going : List Value) (u : Value) →
    CourseMoves true n g s r (react u s) (u ∷ []) 0 (answers_at (at_end true n g) u) → Moved true n g s r going u
caller_moved n g s r going u mv = record { count = 0; moves = mv; fits = (grind (arith, places_for)) }

takes_by : (end : Bool) (n : ℕ) (this other : State) (going coming rest : List Value) (g : Course) (u : Value) (more : List Value) → 0 < n →
    JoinedFrom end this other going coming → place_at n this ≡ at_end end n g → HoldsAt end n this other g → coming ≡ u ∷ rest →
    from_end (not end) n (called_local end this other) g ≡ u ∷ more → Moved end n g this other going u
takes_by true n s r going coming rest (accepting c p) u more some j at h cut e =
    let same : confirm n (answer_of n r.local c) ≡ u = cc in
    let here = is_given n s (Some asked) at in
    caller_moved n (accepting c p) s r going u
    (rw (sym same) (confirm_moves n c p None (inr tt) s r h j.lasts j.is_caller j.class j.supports here.within here.is))
takes_by true n s r going coming rest (withdrawing c p reason) u more some j at h cut e =
    let same : confirm n (answer_of n r.local c) ≡ u = cc in
    let here = is_given n s (Some asked) at in
    caller_moved n (withdrawing c p reason) s r going u
    (rw (sym same) (confirm_moves n c p (Some reason) (inr tt) s r h j.lasts j.is_caller j.class j.supports here.within here.is))
takes_by false n r s coming going rest (asking c) u more some j at h cut e =
    let same : request c ≡ u = cc in
    record {
      count = 1;
      moves = subst (λ (x : Value). CourseMoves false n (asking c) r s (react x r) (x ∷ []) 1 (agree ∷ [])) same
          (request_moves n s r going coming rest c some j at h (cut ∙ ap (λ (x : Value). x ∷ rest) (sym same)));
      fits = tt;
    }
takes_by end n this other going coming rest (met m) u more some j at h cut e =
    let v = seen end this other going coming j in
    let put = answers_at (was_given (here n (seen_from end m))) u in
    let head : back n (seen_from end m) ≡ from_end (not end) n (called_local end this other) (met m) = grind (arith, mirror_twice) in
    record {
      count = 0;
      moves = met_moves end (inr tt) n m this other (react u this) (u ∷ []) put h (is_given n this (here n (seen_from end m)) at).within tt
          (grind arith)
          (take_here n this (seen_from end m) u more (at_meeting end n m this other some v.lasts v.orderly at h)
          (head ∙ e));
      fits = grind (arith, places_for);
    }
takes_by end n this other going coming rest g u more some j at h cut e = cc

pub takes_one : (end : Bool) (this other : State) (going coming rest : List Value) (u : Value) → JoinedFrom end this other going coming →
    coming ≡ u ∷ rest → Did end (reference_of u) this other (react u this) going coming rest (answers_at (place_at (reference_of u) this) u)
takes_one end this other going coming rest u j cut =
    let n = reference_of u in
    let v = seen end this other going coming j in
    let some : 0 < n = (subst (λ (l : List Value). AreNamed l) cut v.named).0 in
    let st = v.stands n some in
    let head : from_end (not end) n (called_local end this other) st.course ≡ u ∷ units_of n rest =
    sym st.back ∙ ap (units_of n) cut ∙ first_of_all u rest in
    let mv = takes_by end n this other going coming rest st.course u (units_of n rest) some j st.place st.holds cut head in
    subst (λ (p : Place). Did end n this other (react u this) going coming rest (answers_at p u)) (sym st.place)
    (did end this other (react u this) going coming rest (u ∷ []) (answers_at (at_end end n st.course) u) n mv.count some j st cut
    (refl, tt) (orderly_unit u this v.orderly) mv.moves mv.fits)

-- ---- calls

pub within_given : (n : ℕ) (s : State) (x : Connection) → IsOrderly s → value_at n s.live ≡ Some x → (0 < n) × (n ≤ s.given)
within_given n s x orderly at = grind (arith, ltb-true, absent, ltb-false, is_given, given_live)

sends_by : (end : Bool) (n : ℕ) (this other : State) (g : Course) (link : Standing) (octets : List ℕ) → 0 < n → this.ended ≡ None →
    IsOrderly this → place_at n this ≡ at_end end n g → HoldsAt end n this other g → value_at n this.live ≡ Some (linked n link) →
    n ≤ this.given → IsShortTsdu octets → IsOctets octets → CourseMoves end n g this other (sent n octets this) [] 0 (message octets ∷ [])
sends_by false n r s (accepting c p) link octets some quiet orderly at h live le short are =
    let a = accepted_at n c p s r some h quiet orderly le (is_given n r (Some (linked n p.right)) at).is in
    let mv = send_open n r (swapped p) None (inr tt) [] octets a short are in
    accepted_moves n c p (swapped (after_send (swapped p) octets)) None (inr tt) s r (sent n octets r) (message octets ∷ []) h le refl
    h.rightward refl mv.0 mv.1
sends_by end n this other (met m) link octets some quiet orderly at h live le short are =
    let a = at_meeting end n m this other some quiet orderly at h in
    met_moves end (inr tt) n m this other (sent n octets this) [] (message octets ∷ []) h le tt refl
    (send_here n this (seen_from end m) link octets a (sym a.is ∙ live) short are)
sends_by end n this other g link octets some quiet orderly at h live le short are = let e = given_place n this le ∙ ap was_given live in cc

pub sends : (end : Bool) (this other : State) (going coming : List Value) (n : ℕ) (link : Standing) (octets : List ℕ) →
    JoinedFrom end this other going coming → value_at n this.live ≡ Some (linked n link) → IsShortTsdu octets → IsOctets octets →
    Did end n this other (sent n octets this) going coming coming (message octets ∷ [])
sends end this other going coming n link octets j live short are =
    let v = seen end this other going coming j in
    let within = within_given n this (linked n link) v.orderly live in
    let st = v.stands n within.0 in
    let mv = sends_by end n this other st.course link octets within.0 v.lasts v.orderly st.place st.holds live within.1 short are in
    did end this other (sent n octets this) going coming coming [] (message octets ∷ []) n 0 within.0 j st refl tt
    (orderly_sent n octets this v.orderly) mv (grind (arith, places_for))

closes_by : (end : Bool) (n : ℕ) (this other : State) (g : Course) (link : Standing) (reason : ℕ) → 0 < n → reason < 256 →
    this.ended ≡ None → IsOrderly this → place_at n this ≡ at_end end n g → HoldsAt end n this other g →
    value_at n this.live ≡ Some (linked n link) → n ≤ this.given →
    CourseMoves end n g this other (closed_with n reason this) [] 0 (bye reason ∷ [])
closes_by false n r s (accepting c p) link reason some small quiet orderly at h live le =
    let a = accepted_at n c p s r some h quiet orderly le (is_given n r (Some (linked n p.right)) at).is in
    let mv = close_open n r (swapped p) None (inr tt) [] reason a small in
    accepted_moves n c p p (Some reason) (inr tt) s r (closed_with n reason r) (bye reason ∷ []) h le refl h.rightward refl mv.0
    (mv.1 ∙ ap (λ (us : List Given). left_here (swapped p) us reason) h.rightward)
closes_by end n this other (met m) link reason some small quiet orderly at h live le =
    let a = at_meeting end n m this other some quiet orderly at h in
    met_moves end (inr tt) n m this other (closed_with n reason this) [] (bye reason ∷ []) h le tt refl
    (close_here n this (seen_from end m) link reason a (sym a.is ∙ live) small)
closes_by end n this other g link reason some small quiet orderly at h live le = let e = given_place n this le ∙ ap was_given live in cc

pub closes : (end : Bool) (this other : State) (going coming : List Value) (n : ℕ) (link : Standing) (reason : ℕ) →
    JoinedFrom end this other going coming → value_at n this.live ≡ Some (linked n link) → reason < 256 →
    Did end n this other (closed_with n reason this) going coming coming (bye reason ∷ [])
closes end this other going coming n link reason j live small =
    let v = seen end this other going coming j in
    let within = within_given n this (linked n link) v.orderly live in
    let st = v.stands n within.0 in
    let mv = closes_by end n this other st.course link reason within.0 small v.lasts v.orderly st.place st.holds live within.1 in
    did end this other (closed_with n reason this) going coming coming [] (bye reason ∷ []) n 0 within.0 j st refl tt
    (orderly_closed n reason this v.orderly) mv (grind (arith, places_for))
