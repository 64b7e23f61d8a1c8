-- How a connection of class 2 is opened: the CR, the CC, and what the called end sends before the
-- caller has it open.
-- For joined carriers and class 0.
use Rattle.osi_between.proofs.Vocabulary.{◌≡◌, ◌≢◌, ℕ, ◌+◌, ◌<◌, ◌≤◌, Bool, true, false, List, [], ◌∷◌, ◌++◌, Option, Some, None, refl, sym}
use Rattle.osi_between.proofs.Vocabulary.{ap, subst, ◌∙◌, inr, arith, nat_lt, append-nil, map-append, Value, Connect, request, confirm}
use Rattle.osi_between.proofs.Vocabulary.{LinkPair, swapped, opened_pair, Standing, selected_size, Two, references, asks, was_given}
use Rattle.osi_between.proofs.Vocabulary.{place_at, opened, proposal_by, IsOrderly, react, accepts, has_peer, is_full, opens, value_at}
use Rattle.osi_between.proofs.Vocabulary.{Connection, asked, linked, State, packets, push_here, beyond, put_here, push_other, put_other}
use Rattle.osi_between.proofs.Vocabulary.{react_quiet, unasked, asking, accepting, withdrawing, met, answer_of, IsTsap, IsAskedBy}
use Rattle.osi_between.proofs.Vocabulary.{MayTakeTwo, IsAccepted, CourseMoves, talking, left_there, Message, ask, agree, messages_after}
use Rattle.osi_between.proofs.Vocabulary.{uncut_units, not_yet, awaiting, put_named, length, length-append, inl, Course, Meeting, mirror}
use Rattle.osi_between.proofs.Vocabulary.{Moves, here, there, out, back, messages_out, asks_in, IsAt, unsent_at, connection_in, at_end}
use Rattle.osi_between.proofs.unit.what_a_taken_unit_means.{brings_none, same_like}
use Rattle.osi_between.proofs.meeting.how_a_connection_changes_at_each_end.{given_place, acts_changed}
use Rattle.osi_between.proofs.meeting.a_connection_after_each_unit_and_call.{open_mirror, none_last}
use Rattle.osi_between.proofs.link.a_request_and_its_answer_open_two_links.{request_of, caller_link, called_link, opens_links}
use Rattle.osi_between.proofs.link.a_request_and_its_answer_open_two_links.{asked_sendable, no_octets}
use Rattle.osi_between.proofs.between.an_acting_end_keeps_the_invariant.{Each}

-- ---- a new reference

pub push_places : (s t : State) (x : Connection) (q : ℕ) → t.given ≡ s.given + 1 → t.live ≡ s.live ++ (s.given + 1, x) ∷ [] →
    q ≢ s.given + 1 → place_at q t ≡ place_at q s
push_places s t x q given live other = grind (arith, nat_lt, push_other)

pub push_place : (s t : State) (x : Connection) → IsOrderly s → t.given ≡ s.given + 1 → t.live ≡ s.live ++ (s.given + 1, x) ∷ [] →
    place_at (s.given + 1) t ≡ was_given (Some x)
push_place s t x orderly given live = grind (arith, given_place, push_here, beyond)

-- ---- the CR

pub asks_moves : (s r : State) (calling called : Option (List ℕ)) → IsOrderly s → s.given < 65535 → s.local.class2 ≡ true →
    IsTsap calling → IsTsap called → CourseMoves true (s.given + 1) unasked s r (asks calling called s) [] 1 (ask ∷ [])
asks_moves s r calling called orderly left supports fits fits_called =
    let c = request_of s.local s.class calling called (s.given + 1) in
    let t = asks calling called s in
    let others : (q : ℕ) → q ≢ s.given + 1 → place_at q t ≡ place_at q s = λ q apart. push_places s t asked q refl refl apart in
    let written =
    ap (λ (b : Bool). s.outgoing ++ packets (request (proposal_by b s.local s.class calling called (s.given + 1)) ∷ [])) supports in
    record {
      new = asking c;
      units = request c ∷ [];
      events = [];
      acts = assumption (others, written, sym (append-nil s.events));
      sendable = (asked_sendable s.local s.class calling called (s.given + 1) (omega arith) fits fits_called, tt);
      place = push_place s t asked orderly refl refl;
      there = refl;
      out = refl;
      back = refl;
      holds = record { class = s.class; calling = calling; called = called; is = refl; calling_fits = fits; called_fits = fits_called };
      given = refl;
      numbers = refl;
      places = tt;
      carries = record { arrived = []; stays = []; lost = []; told = refl; came = refl; before = refl; after = refl };
      brings = brings_none true not_yet awaiting None (Some asked) (ask ∷ []) refl refl;
      keeps = λ e. refl;
      gives = refl;
      settles = refl;
    }

-- ---- the CC

pub accepts_moves : (n : ℕ) (c : Connect) (s r : State) → n ≡ r.given + 1 → IsAskedBy n s.local c → IsOrderly r → r.ended ≡ None →
    r.is_caller ≡ false → MayTakeTwo r.class → has_peer c.source r.live ≡ false → is_full r ≡ false → r.given < 65535 →
    r.local.class2 ≡ true → CourseMoves false n (asking c) r s (react (request c) r) (request c ∷ []) 1 (agree ∷ [])
accepts_moves n c s r next a orderly quiet called two free room left supports =
    let m = r.given + 1 in
    let d = request_of s.local a.class a.calling a.called m in
    let is : c ≡ d = a.is ∙ ap (λ (k : ℕ). request_of s.local a.class a.calling a.called k) next in
    let does : react (request c) r ≡ (accepts Two (selected_size d r.local) d r).state = grind (arith, react_quiet) in
    let p = opened_pair (caller_link m s.local r.local d) (called_link r.local d) in
    let t = (accepts Two (selected_size d r.local) d r).state in
    let others : (q : ℕ) → q ≢ m → place_at q t ≡ place_at q r =
    λ q apart. push_places r t (linked m (called_link r.local d)) q refl refl apart in
    let may : MayTakeTwo t.class = inr refl in
    rw (does, is, next) (record {
      new = accepting d p;
      units = confirm m (answer_of m r.local d) ∷ [];
      events = opened m ∷ [];
      acts = assumption (others, may);
      sendable = (grind (arith, length, length-append, no_octets), tt);
      place = push_place r t (linked m (called_link r.local d)) orderly refl refl;
      there = refl;
      out = refl;
      back = refl;
      holds = grind (arith, opens_links s.local r.local a.class a.calling a.called m);
      given = refl;
      numbers = refl;
      places = map-append (λ (row : ℕ × Connection). row.0) r.live ((m, linked m (called_link r.local d)) ∷ []);
      carries = record { arrived = ask ∷ []; stays = []; lost = []; told = refl; came = refl; before = refl; after = refl };
      brings = record { is = refl; more = λ units. refl; may = (refl, tt); becomes = refl };
      keeps = λ e. refl;
      gives = refl;
      settles = refl;
    })

-- ---- the called end before the CC is taken

-- The connection is open at the called end, with its CC in flight, or was closed there since with this reason.
abbrev pub opening : Connect → LinkPair → Option ℕ → Course
opening c p None = accepting c p
opening c p (Some reason) = withdrawing c p reason

-- the same once the caller has taken the CC
abbrev pub opened_as : LinkPair → Option ℕ → Meeting
opened_as p None = talking p
opened_as p (Some reason) = left_there p [] reason

-- The called end does what it does if the caller has it open too.
pub accepted_moves : (n : ℕ) (c : Connect) (p q : LinkPair) (why : Option ℕ) → Each → (s r t : State) (put : List Message) →
    IsAccepted n s r c p → n ≤ r.given → asks_in put ≡ 0 → q.rightward ≡ [] → q.left ≡ p.left →
    (mv : Moves n (talking (swapped p)) r t [] put) → mv.new ≡ mirror (opened_as q why) →
    CourseMoves false n (accepting c p) r s t [] 0 put
accepted_moves n c p q None (inl none) s r t put h le plain none_out left mv is = absurd none
accepted_moves n c p q why each s r t put h le plain none_out left mv is =
    let new = mirror (opened_as q why) in
    let here_is : here n mv.new ≡ here n new = ap (here n) is in
    let arrived : mv.carries.arrived ≡ [] = mv.brings.is in
    let begun : p.left.ends.joining.begun ≡ [] = grind (arith, caller_link) in
    let there_is : there n new ≡ Some (linked n p.left) = ap (there n) (sym is) ∙ mv.there in
    let before = rw begun at mv.carries.before in
    let begun_then : q.left.ends.joining.begun ≡ [] = ap (λ (l : Standing). l.ends.joining.begun) left ∙ begun in
    let after = rw (is, begun_then) at mv.carries.after in
    record {
      new = opening c q why;
      units = mv.units;
      events = mv.events;
      acts = acts_changed n r t (here n mv.new) mv.units mv.events mv.changes mv.all_for;
      sendable = mv.sendable;
      place = grind (arith, given_place);
      there = refl;
      out = ap (λ (l : List Value). confirm n (answer_of n r.local c) ∷ l) (ap (out n) (sym is) ∙ mv.out);
      back = refl;
      holds = grind (arith, caller_link, open_mirror);
      given = omega (arith, mv.changes.given);
      numbers = refl;
      places = ap references mv.changes.live ∙ (grind (arith, put_named));
      carries = record {
        arrived = [];
        stays = agree ∷ mv.carries.stays;
        lost = mv.carries.lost;
        told = grind arith;
        came = same_like (connection_in (at_end false n (opening c q why))) [] [] refl;
        before = ap (λ (l : List Message). agree ∷ l) before;
        after = ap (λ (l : List Message). agree ∷ l) after;
      };
      brings = grind arith;
      keeps = grind arith;
      gives = grind arith;
      settles = mv.changes.class;
    }

pub accepted_at : (n : ℕ) (c : Connect) (p : LinkPair) (s r : State) → 0 < n → IsAccepted n s r c p → r.ended ≡ None → IsOrderly r →
    n ≤ r.given → value_at n r.live ≡ Some (linked n p.right) → IsAt n r (talking (swapped p))
accepted_at n c p s r some h quiet orderly le at = grind (arith, open_mirror)

-- ---- the caller takes the CC

-- nothing is in flight from the caller then
opened_quiet : (n : ℕ) (p : LinkPair) (why : Option ℕ) → p.left.ends.unsent ≡ [] → p.rightward ≡ [] → messages_out n (opened_as p why) ≡ []
opened_quiet n p why none out = grind arith

pub confirm_moves : (n : ℕ) (c : Connect) (p : LinkPair) (why : Option ℕ) → Each → (s r : State) → IsAccepted n s r c p → s.ended ≡ None →
    s.is_caller ≡ true → MayTakeTwo s.class → s.local.class2 ≡ true → n ≤ s.given → value_at n s.live ≡ Some asked →
    CourseMoves true n (opening c p why) s r (react (confirm n (answer_of n r.local c)) s) (confirm n (answer_of n r.local c) ∷ []) 0 []
confirm_moves n c p None (inl none) s r h quiet caller two supports le at = absurd none
confirm_moves n c p why each s r h quiet caller two supports le at =
    let answer = answer_of n r.local c in
    let m = opened_as p why in
    let us = back n m ++ uncut_units (unsent_at (there n m)) in
    let none : p.left.ends.unsent ≡ [] = ap (λ (l : Standing). l.ends.unsent) h.left in
    let does : react (confirm n answer) s ≡ (opens n answer (Some Two) s).state = grind (arith, react_quiet) in
    subst (λ (t : State). CourseMoves true n (opening c p why) s r t (confirm n answer ∷ []) 0 []) (sym does) (record {
      new = met m;
      units = [];
      events = opened n ∷ [];
      acts = grind (arith, nat_lt, put_other, caller_link, append-nil);
      sendable = tt;
      place = grind (arith, given_place, put_here, caller_link);
      there = refl;
      out = grind arith;
      back = refl;
      holds = grind (arith, none_last);
      given = omega arith;
      numbers = refl;
      places = tt;
      carries = record {
        arrived = agree ∷ [];
        stays = [];
        lost = [];
        told = refl;
        came = ap (λ (b : List ℕ). agree ∷ messages_after b us) (sym (grind arith));
        before = refl;
        after = opened_quiet n p why none h.rightward;
      };
      brings = grind arith;
      keeps = λ e. refl;
      gives = refl;
      settles = refl;
    })
