-- A unit is taken on a whole connection and on its core; the last unit of a side that is over is taken.
-- For every_step_is_simulated.
use Rattle.std.proofs.Common.{◌≡◌, refl, sym, ◌∙◌, ap, subst, ℕ, Bool, true, false, not, ◌&&◌, if◌then◌else◌, List, [], ◌∷◌, ◌++◌, map}
use Rattle.std.proofs.Common.{length, Option, Some, None, ◌⊎◌, inl, inr, arith}
use Rattle.osi_machine.specs.Core.{turned}
use Rattle.osi_machine.proofs.Vocabulary.{or_parts, append-nil, length-append, list_any, TokenSetting, TsduMaximumSize, State, Meaning, CN}
use Rattle.osi_machine.proofs.Vocabulary.{AC, RF, GT, RS, RA, AB, Token, has, is_over, is_acceptable, are_sizes, has_data, functional_units}
use Rattle.osi_machine.proofs.Vocabulary.{respond_unit, becomes, stands, reply_for, Item, cutat, Owners, is_own, turned_owner}
use Rattle.osi_machine.proofs.Vocabulary.{is_acted_on, seen, cut_by, owners_after, is_plain, Core, taking, Message, unit, World, put}
use Rattle.osi_machine.proofs.Vocabulary.{mark_after, replied, after_unit, turned as turned_world, without_first, Ended, without_tokens}
use Rattle.osi_machine.proofs.Vocabulary.{nothing, good, is_connecting, is_answering, is_release_due, is_expected, next, AllFit, stops}
use Rattle.osi_machine.proofs.Vocabulary.{heard, session_of, and_from, not-false, Owner, all_to_pool}
use Rattle.osi_machine.proofs.basics.what_holds_in_each_phase.{by_test, excluded, implied_two, if_second}
use Rattle.osi_machine.proofs.channels.a_unit_is_dropped_bad_or_acted_on.{no_fault, fit_cases, and_false, acts_good, not_acted}
use Rattle.osi_machine.proofs.channels.a_deaf_side_acts_on_nothing.{all_empty, empty_end}
use Rattle.osi_machine.proofs.invariant.what_holds_of_both_sides.{Stands}
use Rattle.osi_machine.proofs.invariant.no_side_is_over.{alive}
use Rattle.osi_machine.proofs.takes.a_unit_that_cuts_nothing.{at}
use Rattle.osi_machine.proofs.takes.tokens_and_answers.{acceptable}
use Rattle.osi_machine.proofs.takes.a_restart.{cut_seen, pool_own, pool_theirs}
use Rattle.osi_machine.proofs.whole.how_a_core_simulates_a_connection.{stopped, parts, Alike, IsLast, Carried, OneSide, Projects, Counted}
use Rattle.osi_machine.proofs.whole.how_a_core_simulates_a_connection.{both_over, one_over}
use Rattle.osi_machine.proofs.whole.a_call.{left_lives, left_theirs, none_last}

-- a restart that takes effect leaves of the history what it leaves of what was seen
abbrev CutsAlike : State → Meaning → List Item → List Item → Type 0
CutsAlike s (RS k n x o) h v = stands s n ≡ true → cutat s.base v n ≡ cutat s.base h n
CutsAlike s u h v = Unit {0}

cuts_alike : (c : Core) (u : Meaning) (us : List Meaning) → Stands (at c (u ∷ us)) → CutsAlike c.own.session u c.history c.own.view
cuts_alike c u us s = search (arith, cut_seen)

seen_mark : (s : State) (u : Meaning) (h v : List Item) (mark : ℕ) → CutsAlike s u h v → mark ≡ length v
    → mark_after s u h mark ≡ length (seen s u v)
seen_mark s u h v mark cut e = grind (arith, length-append)

-- what is read of an owner, if a token without one reads as no side's
read_after : (f : Owner → Bool) → ((q : Owner) → f (all_to_pool q) ≡ false) →
    (s : State) (u : Meaning) (acts : Bool) (o p : Owners) (t : Token)
    → f (o t) ≡ f (p t) → f ((if acts then owners_after s u o else o) t) ≡ f ((if acts then owners_after s u p else p) t)
read_after f pool s u false o p t e = e
read_after f pool s (GT k) true o p t e = by_test (has k t) (λ q. rw q) (λ q. rw q e)
read_after f pool s (AC v r n x z y) true o p t e = by_test (has (becomes s (AC v r n x z y)).held t) (λ l. rw l) (λ l. rw l e)
read_after f pool s (RA n x y) true o p t e = by_test (has (becomes s (RA n x y)).held t) (λ c. rw c) (λ c. rw c e)
read_after f pool s (RS k n x y) true o p t e = by_test (stands s n) (λ i. rw i (pool (o t) ∙ sym (pool (p t)))) (λ i. rw i e)
read_after f pool s _ true o p t e = e

-- ---- a unit of the core is answered by none

plain_reply : (s : State) (u : Meaning) → is_plain u ≡ true
    → ((v : Bool) (r : ℕ) (n : Option ℕ) (x : TokenSetting) (from to : Option (List ℕ)) (z : TsduMaximumSize) (o : List ℕ)
    → u ≡ CN v r n x from to z o → is_acceptable v r z ≡ true) → reply_for u ≡ None
plain_reply s (CN v r n x from to z o) p k = by v (has_data (functional_units r) && are_sizes z) (k v r n x from to z o refl)
  where
    by : (a b : Bool) → (a && b) ≡ true → (if not a then Some (RF 132 []) else (if not b then Some (RF 134 []) else None)) ≡ None
    by true true e = refl
    by true false e = absurd (cc)
    by false b e = absurd (cc)
plain_reply s (AB b o) p k = absurd (cc)
plain_reply s _ p k = refl

-- the channel of its taker stays
pub put_nothing : (broken : Bool) (channel : List Message) → put broken [] channel ≡ channel
put_nothing broken channel = grind (arith, append-nil)

-- ---- the first unit of the core's channel

-- the connection, once it was taken
abbrev pub took : Bool → World → Core → Meaning → List Message → World
took broken w c u ms = after_unit broken c.own.session u (without_first w ms)

-- its sender
carried_on : (broken : Bool) (channel channel' : List Message) (sent : List Meaning) (s r : State) (b : Bool) → channel' ≡ channel
    → b ≡ false → Carried broken false channel sent s
    → Carried broken b channel' sent r
carried_on broken channel channel' sent s r b e f h = grind (arith, none_last)

module _ (broken : Bool) (w : World) (c : Core) (u : Meaning) (us : List Meaning) (ms : List Message) (p : Projects broken w c)
    (all : Stands (at c (u ∷ us))) (then_all : Stands (taking c (u ∷ us))) (lives : stopped w.own ≡ false)
    (e : w.peer.channel ≡ unit u ∷ ms) where
  lives_then : is_over (respond_unit c.own.session u).next.phase ≡ false
  lives_then = alive (taking c (u ∷ us)).owner (taking c (u ∷ us)).own (taking c (u ∷ us)).peer then_all.own

  no_reply : (respond_unit c.own.session u).reply ≡ None
  no_reply = grind (arith, no_fault, plain_reply, acceptable)

  same_channel : put broken (replied (respond_unit c.own.session u).reply) w.own.channel ≡ w.own.channel
  same_channel = ap (λ (r : Option Meaning). put broken (replied r) w.own.channel) no_reply ∙ put_nothing broken w.own.channel

  was_alike : Alike w c
  was_alike = p.own.alike lives

  taker_mark : (if is_acted_on c.own.session u then mark_after c.own.session u w.history w.own.mark else w.own.mark)
      ≡ length (if is_acted_on c.own.session u then seen c.own.session u c.own.view else c.own.view)
  taker_mark = search (arith, seen_mark, cuts_alike, was_alike)

  -- the owners then
  owners : Owners
  owners = if is_acted_on c.own.session u then owners_after c.own.session u w.owner else w.owner

  pub take_projects : Carried broken (stopped w.peer) ms us c.peer.session → Projects broken (took broken w c u ms) (taking c (u ∷ us))
  unfolding owners
  take_projects rest = record {
    history = by_test (is_acted_on c.own.session u) (λ q. rw q (ap (cut_by c.own.session u) p.history)) (λ q. rw q p.history);
    own = record {
      begun = p.own.begun;
      counted = record { acked = refl; based = refl; marked = taker_mark };
      alike = λ l. record {
        transport = was_alike.transport;
        kept = refl;
        mark = taker_mark;
        said = was_alike.said;
        got = by_test (is_acted_on c.own.session u) (grind (arith, was_alike, length-append)) (λ q. rw q was_alike.got);
        owns = λ t. ap (λ (o : Owners). is_own (o t)) (left_lives (respond_unit c.own.session u).next owners lives_then)
            ∙ read_after is_own pool_own c.own.session u (is_acted_on c.own.session u) w.owner c.owner t (was_alike.owns t);
      };
      carried = λ l. rest;
      parted = λ l. ap (list_any parts) same_channel ∙ p.own.parted lives;
    };
    peer = record {
      begun = p.peer.begun;
      counted = p.peer.counted;
      alike = λ l. let a = p.peer.alike l in record {
        transport = a.transport;
        kept = a.kept;
        mark = a.mark;
        said = a.said;
        got = a.got;
        owns = λ t. left_theirs (respond_unit c.own.session u).next owners t
            ∙ read_after (λ o. is_own (turned_owner o)) pool_theirs c.own.session u (is_acted_on c.own.session u) w.owner c.owner t
            (a.owns t);
      };
      carried =
          λ l. carried_on broken w.own.channel _ c.own.sent c.own.session (respond_unit c.own.session u).next _ same_channel lives_then
          (subst (λ (b : Bool). Carried broken b w.own.channel c.own.sent c.own.session) lives (p.peer.carried l));
      parted = λ l. (or_parts (parts (unit u)) (list_any parts ms) (ap (list_any parts) (sym e) ∙ p.peer.parted l)).1;
    };
  }

-- ---- the first unit in flight is that of the core's channel, or the last of a side that is over

pub record First (broken over_now : Bool) (u : Meaning) (ms : List Message) (sent : List Meaning) (s : State) : Type 0 where
  pub rest : List Meaning
  pub sent_is : sent ≡ u ∷ rest
  pub carried : Carried broken over_now ms rest s

pub record Last (over_now : Bool) (u : Meaning) (ms : List Message) (sent : List Meaning) (s : State) : Type 0 where
  pub none : sent ≡ []
  pub ended : over_now ≡ true
  pub last : IsLast s u

pub split_first : (broken over_now : Bool) (u : Meaning) (ms : List Message) (sent : List Meaning) (s : State)
    → Carried broken over_now (unit u ∷ ms) sent s
    → First broken over_now u ms sent s ⊎ Last over_now u ms sent s
split_first broken over_now u ms sent s h = by h.there h.splits h.carries
  where
    by : (there : List Meaning) → there ++ h.lost ≡ sent → unit u ∷ ms ≡ map unit (there ++ h.tail)
        → First broken over_now u ms sent s ⊎ Last over_now u ms sent s
    by [] e f = inr (subst (λ (us : List Meaning). Last over_now u ms us s) e (grind (arith, IsLast)))
    by (v ∷ vs) e f = inl (grind arith)

-- ---- DN arrives at a side that has requested release, and RF at one that has requested the connection

-- a side that owes the answer to a release owes it until a restart takes effect
none_acts : (s : State) (u : Meaning) → is_release_due s.phase ≡ true → is_plain u ≡ true → stops s u ≡ false
    → is_expected s.phase u ≡ false
unfolding stands
none_acts s u h k st = grind arith

still_owes : (s : State) (us : List Meaning) → is_release_due s.phase ≡ true → AllFit s us → is_release_due (heard s us).phase ≡ true
still_owes s [] h f = h
still_owes s (u ∷ us) h f = by_test (stops s u)
    (λ e. rw e h)
    (λ e. rw e (let more : (stops s u ≡ false → is_release_due (heard (next s u) us).phase ≡ true) = (λ e. still_owes (next s u) us
    (kept e) f.1) in more e))
  where
    kept : stops s u ≡ false → is_release_due (next s u).phase ≡ true
    kept e = fit_cases (λ r. is_release_due r.phase ≡ true) s u f.0 h
        (λ d g. absurd (let n = none_acts s u h f.0.plain e in let x = g.expected in cc))

connecting_now : (c : Core) → Stands c → c.peer.sent ≡ [] → is_answering c.peer.session.phase ≡ true
    → is_connecting c.own.session.phase ≡ true
connecting_now c s none a = grind (arith, all_empty, excluded, empty_end, implied_two, and_from)

pub last_good : (c : Core) (u : Meaning) → Stands c → c.peer.sent ≡ [] → IsLast c.peer.session u
    → respond_unit c.own.session u ≡ good c.own.session u
last_good c u s none l = search (arith, acts_good, alive, and_false, still_owes, excluded, connecting_now)

last_numbers : (s r : State) (u : Meaning) → IsLast r u → (becomes s u).numbers.confirmed ≡ s.numbers.confirmed
last_numbers s r u l = grind arith

-- both sides are over after it
pub last_projects : (broken : Bool) (w : World) (c : Core) (u : Meaning) (ms : List Message) → Projects broken w c → Stands c
    → Last (stopped w.peer) u ms c.peer.sent c.peer.session
    → (stopped (took broken w c u ms).own ≡ true) × Projects broken (took broken w c u ms) c
last_projects broken w c u ms p s l = grind (arith, last_good, both_over, if_second, last_numbers)

-- ---- a side that is over

over_not_acted : (s : State) (u : Meaning) → is_over s.phase ≡ true → is_acted_on s u ≡ false
over_not_acted s u o = grind arith

pub over_next : (s : State) (u : Meaning) → is_over s.phase ≡ true → is_over (respond_unit s u).next.phase ≡ true
over_next s u o = not_acted (λ r. is_over r.phase ≡ true) s u (over_not_acted s u o) o refl refl

-- it discards what a side sends that is not
pub over_nothing : (s : State) (u : Meaning) → is_over s.phase ≡ true → is_plain u ≡ true → respond_unit s u ≡ nothing s
unfolding respond_unit
over_nothing s u o p = grind arith

-- it stays as it is, or is ended
pub over_as : (P : State → Type 0) (s : State) (u : Meaning) → is_over s.phase ≡ true → P s → P (without_tokens Ended s)
    → P (respond_unit s u).next
unfolding respond_unit
over_as P s u o same ended_now = grind arith

-- what a side that is over makes of a unit
abbrev pub ignored : Bool → World → Meaning → List Message → World
ignored broken w u ms = after_unit broken (session_of (without_first w ms)) u (without_first w ms)

over_history : (broken : Bool) (w : World) (u : Meaning) (ms : List Message) → stopped w.own ≡ true
    → (ignored broken w u ms).history ≡ w.history
over_history broken w u ms o = grind (arith, over_not_acted)

over_giver : (broken : Bool) (w : World) (c : Core) (u : Meaning) (ms : List Message) → Projects broken w c → stopped w.own ≡ true
    → w.peer.channel ≡ unit u ∷ ms
    → stopped w.peer ≡ false → OneSide broken (turned_world (ignored broken w u ms)) (turned c)
over_giver broken w c u ms p o e l = search (arith, or_parts, over_nothing, not-false, put_nothing, left_theirs, over_not_acted, over_next)

pub over_projects : (broken : Bool) (w : World) (c : Core) (u : Meaning) (ms : List Message) → Projects broken w c → stopped w.own ≡ true
    → w.peer.channel ≡ unit u ∷ ms
    → Projects broken (ignored broken w u ms) c
over_projects broken w c u ms p o e = assumption (
  over_history broken w u ms o ∙ p.history,
  one_over broken (ignored broken w u ms) c p.own.begun ends counted,
  by_test (stopped w.peer)
      (λ l. one_over broken (turned_world (ignored broken w u ms)) (turned c) p.peer.begun l p.peer.counted)
      (λ l. over_giver broken w c u ms p o e l),
)
  where
    ends : stopped (ignored broken w u ms).own ≡ true
    ends = over_next (session_of (without_first w ms)) u o

    counted : Counted (ignored broken w u ms).own c.own
    counted = record {
      acked = over_as (λ r. r.numbers.confirmed ≡ c.own.session.numbers.confirmed)
          (session_of (without_first w ms)) u o p.own.counted.acked p.own.counted.acked;
      based = over_as (λ r. r.base ≡ c.own.session.base) (session_of (without_first w ms)) u o p.own.counted.based p.own.counted.based;
      marked = grind (arith, over_not_acted);
    }
