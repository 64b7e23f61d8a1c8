-- What the carriers of a caller and a called end do if the called end refuses each CR.
-- For the invariant.
use Rattle.osi_between.specs.Refusing.{unasked, asking, from_end}
use Rattle.osi_between.proofs.Vocabulary.{◌≡◌, ℕ, ◌+◌, ◌<◌, true, false, List, [], ◌∷◌, ◌++◌, length, Option, Some, None, refl, sym, ap}
use Rattle.osi_between.proofs.Vocabulary.{◌∙◌, arith, flat_map, eq-eqb, append-nil, Value, Connect, request, disconnect, Standing, Class}
use Rattle.osi_between.proofs.Vocabulary.{may_connect, asks, Place, was_given, place_at, proposal, react, to_asked, denies, Rows, value_at}
use Rattle.osi_between.proofs.Vocabulary.{Connection, asked, linked, State, packets, without_other, free_of, react_quiet, has_room, AreFor}
use Rattle.osi_between.proofs.Vocabulary.{told_of, IsTsap, ask, deny, Refusal, rows_in, denying, AreRefusing, refusing, IsProposed}
use Rattle.osi_between.proofs.between.an_acting_end_keeps_the_invariant.{Does}
use Rattle.osi_between.proofs.unit.the_units_of_one_connection.{units_same, none_left}
use Rattle.osi_between.proofs.meeting.how_a_connection_is_opened.{push_places}
use Rattle.osi_between.proofs.meeting.how_a_connection_changes_at_each_end.{given_place}
use Rattle.osi_between.proofs.joined.requests_beginnings_and_nothing_in_flight.{next_never}
use Rattle.osi_between.proofs.link.a_request_before_a_class_is_agreed.{proposal_sendable, source_is}
use Rattle.osi_between.proofs.joined.class_2_provides_what_is_asked.{Provides}

-- ---- places

-- the last reference is that of the requested connection
last_place : (s : State) (x : Connection) → s.live ≡ (s.given, x) ∷ [] → place_at s.given s ≡ was_given (Some x)
last_place s x live = given_place s.given s (omega arith) ∙ ap was_given (ap (value_at s.given) live ∙ (grind (arith, eq-eqb)))

-- ---- the caller asks

asks_first : (reason : ℕ) (s r : State) (going coming : List Value) (calling to : Option (List ℕ)) → AreRefusing reason s r going coming →
    s.live ≡ [] → going ≡ [] → coming ≡ [] → s.given < 65535 → IsTsap calling → IsTsap to →
    Does (refusing reason) true (s.given + 1) s r (asks calling to s) going coming coming [] (ask ∷ [])
asks_first reason s r going coming calling to j empty none back left fits fits_to =
    let n = s.given + 1 in
    let t = asks calling to s in
    let d = proposal s.local None calling to n in
    let same : proposal s.local s.class calling to n ≡ d = ap (λ (k : Option Class). proposal s.local k calling to n) j.class in
    let live : t.live ≡ (n, asked) ∷ [] = ap (λ (l : Rows Connection). l ++ (n, asked) ∷ []) empty in
    let given = j.given_called in
    let now_there = last_place t asked live in
    let all : AreFor n (request d ∷ []) = (grind arith, tt) in
    record {
      steps = record {
        units = request d ∷ [];
        arrived = [];
        stays = [];
        lost = [];
        sendable = (proposal_sendable s.local calling to n (omega arith) fits fits_to, tt);
        outgoing = ap (λ (c : Connect). s.outgoing ++ packets (request c ∷ [])) same;
        told = sym (append-nil s.events);
        cut = refl;
        all_for = tt;
        written_for = all;
        before = grind (arith, units_same);
        after = grind (arith, units_same);
        brings = grind arith;
        others_stay = λ q apart. push_places s t asked q refl refl apart;
        given = refl;
        class = refl;
        local = refl;
        keeps = λ e. refl;
        lasts = j.lasts;
      };
      joined = record {
        is_caller = j.is_caller;
        is_called = j.is_called;
        terms = j.terms;
        lasts = j.lasts;
        lasts_called = j.lasts_called;
        class = j.class;
        class_called = j.class_called;
        stage = asking d;
        live = live;
        few = (let low = left in omega arith);
        live_called = j.live_called;
        given_called = j.given_called;
        going = ap (λ (l : List Value). l ++ request d ∷ []) none;
        coming = back;
        holds = (omega arith, record { calling = calling; called = to; is = refl; calling_fits = fits; called_fits = fits_to });
      };
    }

asks_by : (reason : ℕ) (s r : State) (going coming : List Value) (calling to : Option (List ℕ)) (g : Refusal) →
    AreRefusing reason s r going coming → s.live ≡ rows_in s.given g → going ≡ from_end true reason s.given g →
    coming ≡ from_end false reason s.given g → may_connect s ≡ None → IsTsap calling → IsTsap to →
    Does (refusing reason) true (s.given + 1) s r (asks calling to s) going coming coming [] (ask ∷ [])
asks_by reason s r going coming calling to unasked j live none back may fits fits_to = search (arith, asks_first, free_of s may)
asks_by reason s r going coming calling to g j live none back may fits fits_to = grind arith

-- ---- the called end refuses

refuses : (reason : ℕ) (s r : State) (going coming rest : List Value) (c : Connect) → AreRefusing reason s r going coming →
    s.live ≡ (s.given, asked) ∷ [] → going ≡ request c ∷ [] → coming ≡ [] → 0 < s.given → IsProposed s.given s.local c →
    going ≡ request c ∷ rest →
    Does (refusing reason) false s.given r s (react (request c) r) coming going rest (request c ∷ []) (deny reason ∷ [])
refuses reason s r going coming rest c j live is back some a cut =
    let n = s.given in
    let few = j.few in
    let t = (denies reason c.source r).state in
    let source = source_is n s.local c a in
    let given = j.given_called in
    let here = next_never r n (omega arith) in
    let put = denying n reason in
    let does : react (request c) r ≡ (denies reason c.source r).state = grind (arith, length, has_room, react_quiet) in
    rw does (record {
      steps = record {
        units = put ∷ [];
        arrived = ask ∷ [];
        stays = [];
        lost = [];
        sendable = (grind arith, tt);
        outgoing = ap (λ (q : ℕ). r.outgoing ++ packets (disconnect q 0 reason [] ∷ [])) source;
        told = sym (append-nil r.events) ∙ ap (λ (x : Place). r.events ++ flat_map (told_of (refusing reason) n x) (ask ∷ [])) (sym here);
        cut = cut;
        all_for = (source, tt);
        written_for = (refl, tt);
        before = grind (arith, units_same);
        after = grind (arith, units_same);
        brings = grind arith;
        others_stay = λ q apart. refl;
        given = omega arith;
        class = refl;
        local = refl;
        keeps = λ e. refl;
        lasts = j.lasts_called;
      };
      joined = grind arith;
    })

-- ---- the caller is refused

is_refused : (reason : ℕ) (s r : State) (going coming rest : List Value) → AreRefusing reason s r going coming →
    s.live ≡ (s.given, asked) ∷ [] → going ≡ [] → coming ≡ denying s.given reason ∷ [] → 0 < s.given →
    coming ≡ denying s.given reason ∷ rest →
    Does (refusing reason) true s.given s r (react (denying s.given reason) s) going coming rest (denying s.given reason ∷ []) []
is_refused reason s r going coming rest j live none is some cut =
    let n = s.given in
    let u = denying n reason in
    let t = (to_asked n u s).state in
    let given = j.given_called in
    let here = last_place s asked live in
    let there = next_never r n (omega arith) in
    let left : rest ≡ [] = (let e = sym cut ∙ is in cc) in
    let does : react u s ≡ t = grind (arith, react_quiet) in
    rw does (record {
      steps = record {
        units = [];
        arrived = deny reason ∷ [];
        stays = [];
        lost = [];
        sendable = tt;
        outgoing = sym (append-nil s.outgoing);
        told = ap (λ (x : Place). s.events ++ flat_map (told_of (refusing reason) n x) (deny reason ∷ [])) (sym here);
        cut = cut;
        all_for = (refl, tt);
        written_for = tt;
        before = grind (arith, units_same);
        after = grind (arith, units_same);
        brings = grind arith;
        others_stay = grind (arith, without_other);
        given = omega arith;
        class = refl;
        local = refl;
        keeps = λ e. refl;
        lasts = j.lasts;
      };
      joined = grind (arith, append-nil);
    })

-- ---- each unit, and each call

pub none_open : (s : State) (g : Refusal) (n peer : ℕ) (link : Standing) → s.live ≡ rows_in s.given g →
    value_at n s.live ≡ Some (linked peer link) → ⊥
none_open s g n peer link live at = grind arith

pub provides_none : (reason : ℕ) → Provides (refusing reason)
provides_none reason = record {
  takes_one = grind (arith, last_place, is_refused, none_left, source_is, next_never, refuses);
  connects = λ this other going coming calling to j may fits fits_to. search (arith, asks_by);
  hands_in = grind (arith, none_open);
  queued = grind arith;
}
