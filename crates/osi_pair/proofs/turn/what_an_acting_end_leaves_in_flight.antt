-- What an end that acted for a connection leaves in flight for it; and two ends whose journal gets more entries.
-- For turns, calls, breaks and ends and packets.
use Rattle.osi_between.specs.Messages as carrier
use Rattle.osi_machine.specs.Machine as entries
use Rattle.osi_pair.proofs.Vocabulary.{inl, inr, ap, ◌≡◌, refl, sym, ◌∙◌, subst, ℕ, ◌<◌, ◌≤◌, Bool, List, [], ◌∷◌, ◌++◌, length, map}
use Rattle.osi_pair.proofs.Vocabulary.{Option, Some, None, is_some, IsSome, arith, AllByRecursion, was_given, place_at, value_at}
use Rattle.osi_pair.proofs.Vocabulary.{State as Carrier, Between, Carries, last_of, AreLike, connection_in, under_way, put_in, is_cut}
use Rattle.osi_pair.proofs.Vocabulary.{progress_of, Terms, terms_of, connection_at, Step, HasNumber, Seat, Line, Tables, step, run, start}
use Rattle.osi_pair.proofs.Vocabulary.{Message, put, Holding, TwoEnds, end_at, noted, Entry, other, is_caller, terms_in, carriers_of}
use Rattle.osi_pair.proofs.Vocabulary.{entry_in, IsUnderWay, IsInOrder, IsLine, Stands, StandsAt, Goes, word_in, HasJoined, HasLine}
use Rattle.osi_pair.proofs.Vocabulary.{waiting_in, Word, Side, StaysCalm, noted_in}
use Rattle.osi_pair.proofs.flight.whether_something_is_cut_off.{cut_none, Lasts, IsWithin}
use Rattle.osi_pair.proofs.packet.a_unit_with_which_no_session_acts.{unless_broken, put_unless, words_put, put_spare}
use Rattle.osi_pair.proofs.flight.what_is_in_flight_when_an_end_acts.{as_now, out_puts}
use Rattle.osi_pair.proofs.turn.a_turn_keeps_the_match.{GoesTo, still_there, journals_join}
use Rattle.osi_pair.proofs.words.added_and_cut_words_are_messages.{AreWords}
use Rattle.osi_pair.proofs.flight.what_a_closing_receiver_has_dropped.{shuts, alike_then}

-- ---- what is in flight from the end that acted

pub out_way : (terms : Terms) (side : Side) (r : ℕ) (p new : TwoEnds) (b c : Between) (words : List Word) (more channel : List Message)
    (broken : Bool) (seat to : Seat) → AreWords words more →
    (k : Carries terms (is_caller side) r (carriers_of p) (carriers_of new) b c [] (map word_in words)) → broken ≡ is_some p.reach →
    k.gone ≡ [] → end_at (other side) new ≡ end_at (other side) p → Lasts side p → new.reach ≡ p.reach →
    Goes side (other side) r p b (progress_of (place_at r (last_of (is_caller (other side)) b))) to.session.state channel →
    seat.channel ≡ put broken more channel → IsUnderWay side (other side) r new c seat to
out_way terms side r p new b c words more channel broken seat to are k reach none there alive same was is =
    let taker = end_at (other side) p in
    let place = place_at r (last_of (is_caller (other side)) b) in
    let x = to.session.state in
    let sends = is_caller side in
    let puts = put_in (carriers_of p) (map word_in words) in
    let before : under_way sends r (carriers_of p) b ≡ k.stays ++ k.gone = k.before in
    let after : under_way sends r (carriers_of new) c ≡ k.stays ++ puts = k.after in
    let way = out_puts _ place (is_cut sends (carriers_of p)) (is_cut sends (carriers_of new)) (HasJoined r taker) x channel
    (unless_broken broken more) (words_put broken words) (under_way sends r (carriers_of p) b) (under_way sends r (carriers_of new) c)
    k.stays k.gone puts was (grind arith) (put_spare broken (is_cut sends (carriers_of p)) words (cut_none side p broken reach alive))
    (grind arith) before after none (grind arith) in
    subst (λ (y : Holding). GoesTo side y r new c (progress_of (place_at r (last_of (is_caller (other side)) c))) x seat.channel)
    (sym there)
    (subst (λ (a : Carrier). GoesTo side taker r new c (progress_of (place_at r a)) x seat.channel) (sym (still_there side b c k.there))
    (subst (λ (ms : List Message). GoesTo side taker r new c (progress_of place) x ms) (sym (is ∙ put_unless broken more channel)) way))

-- ---- what is in flight to it

pub back_way : (terms : Terms) (side : Side) (r : ℕ) (p new : TwoEnds) (b c : Between) (messages : List carrier.Message)
    (seat to now : Seat) → (k : Carries terms (is_caller side) r (carriers_of p) (carriers_of new) b c [] messages) →
    progress_of (place_at r (last_of (is_caller side) b)) ≡ progress_of (place_at r (last_of (is_caller side) c)) →
    end_at (other side) new ≡ end_at (other side) p → Lasts side p → new.reach ≡ p.reach →
    ((x : Option (List ℕ)) → HasJoined r (end_at side p) x → HasJoined r (end_at side new) x) →
    (StaysCalm to.session.state seat.channel → StaysCalm now.session.state seat.channel) → IsUnderWay (other side) side r p b seat to →
    IsUnderWay (other side) side r new c seat now
back_way terms side r p new b c messages seat to now k same there alive reach holds calms was =
    let from = is_caller (other side) in
    let place = place_at r (last_of (is_caller side) c) in
    let came : AreLike (connection_in place) (under_way from r (carriers_of p) b) (under_way from r (carriers_of new) c) =
    grind (arith, k.came) in
    as_now (end_at side p).end.carrier.ended (end_at side new).end.carrier.ended
    (progress_of (place_at r (last_of (is_caller side) b))) (progress_of (place_at r (last_of (is_caller side) c)))
    (is_cut (is_caller (other side)) (carriers_of p)) (is_cut (is_caller (other side)) (carriers_of new)) (HasJoined r (end_at side p))
    (HasJoined r (end_at side new)) to.session.state now.session.state seat.channel
    (under_way (is_caller (other side)) r (carriers_of p) b) (under_way (is_caller (other side)) r (carriers_of new) c) was
    (grind arith) holds calms
    (λ e. alike_then (progress_of (place_at r (last_of (is_caller side) b))) place (map word_in was.words)
    (under_way from r (carriers_of p) b) (under_way from r (carriers_of new) c) (λ s. sym (ap shuts same) ∙ s) (was.alike alive) came)

-- ---- places

pub place_given : (r : ℕ) (c : Carrier) → r ≤ c.given → place_at r c ≡ was_given (value_at r c.live)
place_given r c h = grind arith

-- ---- an end of two ends that match the tables

pub record OfEnd (side : Side) (p : TwoEnds) (b : Between) (t : Tables) : Type 0 where
  pub given : (end_at side p).end.carrier.given ≤ length t.lines
  pub order : Lasts side p → IsInOrder (end_at side p).end
  pub over : IsSome (end_at side p).end.carrier.ended → (end_at side p).end.carrier.live ≡ []
  pub quiet : waiting_in (end_at side p).end.lines ≡ []
  pub lives : Lasts side p → (end_at side p).end.carrier ≡ last_of (is_caller side) b

pub of_end : (side : Side) (p : TwoEnds) (b : Between) (t : Tables) → Stands p b t → OfEnd side p b t
of_end side p b t s = grind arith

-- ---- a line of two ends that match the tables

pub record There (r : ℕ) (p : TwoEnds) (b : Between) (t : Tables) (l : Line) : Type 0 where
  pub some : 0 < r
  pub within : r ≤ length t.lines
  pub is : IsLine r p b l

abbrev pub NoneBeyond : Type 0
NoneBeyond = (q : ℕ) (lines : List Line) → length lines < q → connection_at q lines ≡ None

pub there : NoneBeyond → (r : ℕ) (p : TwoEnds) (b : Between) (t : Tables) (l : Line) → Stands p b t → connection_at r t.lines ≡ Some l →
    There r p b t l
there none r p b t l s at = by (grind arith)
  where
    by : IsWithin r (length t.lines) → There r p b t l
    by (inl out) = absurd (grind (arith, none r t.lines))
    by (inr given) =
        let h = s.lines r given.0 given.1 in
        let same : h.line ≡ l = (let x = sym h.found ∙ at in cc) in
        record { some = given.0; within = given.1; is = subst (IsLine r p b) same h.is }

-- ---- a longer journal

pub more_said : (p : TwoEnds) (b : Between) (t : Tables) (e : Entry) (x : entries.Entry) → entry_in e ≡ Some x → Stands p b t →
    Stands (noted (e ∷ []) p) b (noted_in (x ∷ []) t)
more_said p b t e x is s =
    let journal = journals_join t.journal (x ∷ []) p.journal (e ∷ []) s.journal (ap (λ o. o ∷ []) (sym is)) in
    let lines : (n : ℕ) → 0 < n → n ≤ length t.lines → HasLine n (noted (e ∷ []) p) b (noted_in (x ∷ []) t) = λ n a c.
    grind (arith, s.lines n a c) in
    grind arith

-- ---- more steps

pub run_behind : (t : Tables) (xs ys : List Step) → run t (xs ++ ys) ≡ run (run t xs) ys
run_behind t [] ys = refl
run_behind t (x ∷ xs) ys = run_behind (step t x) xs ys

pub number_one : (xs : List Step) (x : Step) → AllByRecursion HasNumber xs → HasNumber x → AllByRecursion HasNumber (xs ++ x ∷ [])
number_one [] x a h = (h, tt)
number_one (y ∷ xs) x a h = (a.0, number_one xs x a.1 h)

pub record StandsOn (p : TwoEnds) (t : Tables) : Type 0 where
  pub now : Between
  pub stands : Stands p now t

abbrev pub begun_with : TwoEnds → Tables
begun_with p = start (terms_in (terms_of p.left.end.carrier.local p.right.end.carrier.local))

pub one_step : (p new : TwoEnds) (steps : List Step) (x : Step) → HasNumber x →
    terms_of new.left.end.carrier.local new.right.end.carrier.local ≡ terms_of p.left.end.carrier.local p.right.end.carrier.local →
    AllByRecursion HasNumber steps → StandsOn new (step (run (begun_with p) steps) x) → StandsAt new (steps ++ x ∷ [])
one_step p new steps x number same numbered h = record {
  numbered = number_one steps x numbered number;
  now = h.now;
  stands = grind (arith, run_behind);
}
