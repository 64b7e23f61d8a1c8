-- What a carrier of class 2 does to a connection is acts of its line: for a unit that arrives, a TSDU, and a close.
-- For the law of that name.
use Rattle.osi_blameless.proofs.transport.Vocabulary.{arith, [], ap, append_assoc, Bool, Err, if◌then◌else◌, is_some, length, List, map}
use Rattle.osi_blameless.proofs.transport.Vocabulary.{None, Ok, Option}
use Rattle.osi_blameless.proofs.transport.Vocabulary.{refl, Result, Some, subst, sym, ℕ, ◌++◌, ◌∙◌, ◌∷◌, ◌≡◌, ◌≤◌, flat_map-append}
use Rattle.osi_blameless.proofs.transport.Vocabulary.{append-nil}
use Rattle.osi_blameless.proofs.transport.Vocabulary.{AllByRecursion, flat_map, destination_of, disconnect, Value, drained_moves, all_given}
use Rattle.osi_blameless.proofs.transport.Vocabulary.{longest_tsdu}
use Rattle.osi_blameless.proofs.transport.Vocabulary.{Given, Standing, taken, unit_of, with_tsdu, give_out, hand_in, hand_out, Move}
use Rattle.osi_blameless.proofs.transport.Vocabulary.{MovesAlong, take_in}
use Rattle.osi_blameless.proofs.transport.Vocabulary.{LinkFault, Class, Two, put_here, without_here, closed_with, link_of, open_link, sent}
use Rattle.osi_blameless.proofs.transport.Vocabulary.{RiseFrom}
use Rattle.osi_blameless.proofs.transport.Vocabulary.{pumped, written_by, handed_out, leaves, taking, to_linked, put, value_at, closing}
use Rattle.osi_blameless.proofs.transport.Vocabulary.{Live as Connection, linked, packets, Direction, Follows, link_now, Act, ActsAlong}
use Rattle.osi_blameless.proofs.transport.Vocabulary.{answers}
use Rattle.osi_blameless.proofs.transport.Vocabulary.{closes_with as closes, HandsInShort, ignores, Line, moves, units_put, units_taken}
use Rattle.osi_blameless.proofs.transport.Vocabulary.{put_closing}
use Rattle.osi_blameless.proofs.transport.Vocabulary.{put_for, put_sent, State, outcome, to_closing, to_connection, CarrierOutcome}
use Rattle.osi_carrier.specs.Calls.{sent_on}
unfoldable use Rattle.osi_carrier.specs.React.{react}

-- ---- calls of a link

abbrev AreMoves : List Move → List Act
AreMoves calls = map (λ m. moves m) calls

abbrev line_after : Line → Standing → List Value → List Value → Line
line_after line link put later = record line { end = Some link; put = put; coming = later }

same_line : (line : Line) (link : Standing) (later : List Value) → line.end ≡ Some link → line.coming ≡ later →
    line_after line link (line.put ++ []) later ≡ line
same_line line link later is coming = grind (arith, append-nil)

module _ (d : Direction) (r peer : ℕ) where
  moves_along : (calls : List Move) (old new : Standing) → MovesAlong old calls new → AllByRecursion HandsInShort calls →
      (line : Line) (later : List Value) → line.end ≡ Some old → line.coming ≡ flat_map units_taken calls ++ later →
      ActsAlong d r peer line (AreMoves calls) (line_after line new (line.put ++ flat_map (units_put peer) calls) later)
  moves_along [] old new e short line later is coming = grind (arith, same_line line old later is coming)
  moves_along (call ∷ calls) old new (mid, move, more) (one, others) line later is coming =
      let next : Line = line_after line mid (line.put ++ units_put peer call) (flat_map units_taken calls ++ later) in
      grind (arith, append_assoc, moves_along calls mid new more others next later refl refl)

none_taken : (units : List Given) → flat_map units_taken (map give_out units) ≡ []
none_taken [] = refl
none_taken (unit ∷ units) = none_taken units

given_put : (peer : ℕ) (units : List Given) → flat_map (units_put peer) (map give_out units) ≡ map (unit_of peer) units
given_put peer [] = refl
given_put peer (unit ∷ units) = ap (λ (l : List Value). unit_of peer unit ∷ l) (given_put peer units)

given_short : (units : List Given) → AllByRecursion HandsInShort (map give_out units)
given_short [] = tt
given_short (unit ∷ units) = (tt, given_short units)

short_join : (xs ys : List Move) → AllByRecursion HandsInShort xs → AllByRecursion HandsInShort ys → AllByRecursion HandsInShort (xs ++ ys)
short_join [] ys a b = b
short_join (x ∷ xs) ys (one, a) b = (one, short_join xs ys a b)

moves_join : (xs ys : List Move) (a b c : Standing) → MovesAlong a xs b → MovesAlong b ys c → MovesAlong a (xs ++ ys) c
moves_join [] ys a b c e h = subst (λ (s : Standing). MovesAlong s ys c) e h
moves_join (x ∷ xs) ys a b c (mid, move, more) h = (mid, move, moves_join xs ys mid b c more h)

-- calls that put nothing, and then all that the link gives
record Front (old mid : Standing) (front : List Move) (taken : List Value) : Type 0 where
  along : MovesAlong old front mid
  short : AllByRecursion HandsInShort front
  puts : (peer : ℕ) → flat_map (units_put peer) front ≡ []
  takes : flat_map units_taken front ≡ taken

abbrev calls_after : List Move → Standing → List Move
calls_after front mid = front ++ map give_out (all_given mid)

front_takes : (old mid : Standing) (front : List Move) (taken : List Value) → Front old mid front taken →
    flat_map units_taken (calls_after front mid) ≡ taken
front_takes old mid front taken f = grind (arith, flat_map-append, none_taken, append-nil)

front_puts : (peer : ℕ) (old mid : Standing) (front : List Move) (taken : List Value) → Front old mid front taken →
    flat_map (units_put peer) (calls_after front mid) ≡ written_by peer mid
front_puts peer old mid front taken f = flat_map-append (units_put peer) front (map give_out (all_given mid))
    ∙ ap (λ (l : List Value). l ++ flat_map (units_put peer) (map give_out (all_given mid))) (f.puts peer) ∙ given_put peer (all_given mid)

module _ (r peer : ℕ) (s new : State) (link mid : Standing) (front : List Move) (units : List Value) (f : Front link mid front units) where
  pumps_along : (d : Direction) (line : Line) (later : List Value) → line.end ≡ Some link → line.coming ≡ units ++ later →
      ActsAlong d r peer line (AreMoves (calls_after front mid)) (line_after line (pumped mid) (line.put ++ written_by peer mid) later)
  pumps_along d line later is coming =
      let along = moves_join front (map give_out (all_given mid)) link mid (pumped mid) f.along (drained_moves mid) in
      let short = short_join front (map give_out (all_given mid)) f.short (given_short (all_given mid)) in
      subst (λ (l : List Value). ActsAlong d r peer line (AreMoves (calls_after front mid))
      (line_after line (pumped mid) (line.put ++ l) later))
      (front_puts peer link mid front units f)
      (moves_along d r peer (calls_after front mid) link (pumped mid) along short line later is
      (coming ∙ ap (λ (l : List Value). l ++ later) (sym (front_takes link mid front units f))))

  follows_pump : value_at r s.live ≡ Some (linked peer link) → value_at r new.live ≡ Some (linked peer (pumped mid)) →
      new.outgoing ≡ s.outgoing ++ packets (written_by peer mid) → Follows r peer units (written_by peer mid) s new
  follows_pump here there outgoing = record {
    acts = AreMoves (calls_after front mid);
    outgoing = outgoing;
    along = λ d line later is coming.
        subst (λ (o : Option Standing). ActsAlong d r peer line (AreMoves (calls_after front mid))
        (record line { end = o; put = line.put ++ written_by peer mid; coming = later }))
        (sym (ap link_now there)) (pumps_along d line later (is ∙ ap link_now here) coming);
  }

-- ---- a TSDU

pub open_is : (ended : Bool) (o : Option Connection) (peer : ℕ) (link : Standing) →
    (if ended then None else link_of o) ≡ Some (peer, link) → o ≡ Some (linked peer link)
open_is ended o peer link e = grind arith

pub follows_sent : (r peer : ℕ) (tsdu : List ℕ) (s : State) (link : Standing) → open_link r s ≡ Some (peer, link) →
    length tsdu ≤ longest_tsdu → Follows r peer [] (put_sent tsdu (open_link r s)) s (sent r tsdu s)
follows_sent r peer tsdu s link e short =
    let here = open_is (is_some s.ended) (value_at r s.live) peer link e in
    let after = pumped (with_tsdu link tsdu) in
    subst (λ (o : Option (ℕ × Standing)). Follows r peer [] (put_sent tsdu o) s (sent_on r tsdu o s)) (sym e)
    (follows_pump r peer s (sent_on r tsdu (Some (peer, link)) s) link (with_tsdu link tsdu) (hand_in tsdu ∷ []) []
    (record { along = (with_tsdu link tsdu, refl, refl); short = (short, tt); puts = λ p. refl; takes = refl }) here
    (put_here r (linked peer after) (linked peer link) s.live here) refl)

-- ---- a close

closes_follows : (r peer reason : ℕ) (units : List Value) (s new : State) (link : Standing) → value_at r s.live ≡ Some (linked peer link) →
    link_now (value_at r new.live) ≡ None → new.outgoing ≡ s.outgoing ++ packets (disconnect peer r reason [] ∷ []) →
    Follows r peer units (disconnect peer r reason [] ∷ []) s new
closes_follows r peer reason units s new link here there outgoing = record {
  acts = closes reason units ∷ [];
  outgoing = outgoing;
  along = grind arith;
}

pub follows_closed : (r peer reason : ℕ) (s : State) (link : Standing) → open_link r s ≡ Some (peer, link) → s.class ≡ Some Two →
    Follows r peer [] (put_closing r reason (open_link r s) s.class) s (closed_with r reason s)
follows_closed r peer reason s link e two =
    grind (arith, put_here, closes_follows, open_is (is_some s.ended) (value_at r s.live) peer link e)

-- ---- a unit

abbrev hands_of : List (List ℕ) → List Move
hands_of [] = []
hands_of (tsdu ∷ tsdus) = hand_out tsdu ∷ []

hands_front : (old link : Standing) (unit : Value) (whole : List (List ℕ)) → link.ends.joining.whole ≡ whole → taken old unit ≡ Ok link →
    Front old (handed_out link) (take_in unit ∷ hands_of whole) (unit ∷ [])
hands_front old link unit whole e h = grind arith

-- what is done with a unit, by what it puts
abbrev FollowsBy : (r peer : ℕ) → List Value → State → CarrierOutcome → Type 0
FollowsBy r peer taken s x = Follows r peer taken x.put s x.state

module _ (r peer : ℕ) (s : State) (link : Standing) (here : value_at r s.live ≡ Some (linked peer link)) (two : s.class ≡ Some Two) where
  follows_taking : (unit : Value) (result : Result Standing LinkFault) → taken link unit ≡ result →
      FollowsBy r peer (unit ∷ []) s (taking r peer result s)
  follows_taking unit (Ok after) e =
      follows_pump r peer s (taking r peer (Ok after) s).state link (handed_out after) (take_in unit
      ∷ hands_of after.ends.joining.whole) (unit ∷ [])
      (hands_front link after unit after.ends.joining.whole refl e) here
      (put_here r (linked peer (pumped (handed_out after))) (linked peer link) s.live here) refl
  follows_taking unit (Err fault) e = search (arith, put_here, closes_follows)

  follows_disconnect : (destination source reason : ℕ) (user : List ℕ) → RiseFrom 0 s.live →
      FollowsBy r peer (disconnect destination source reason user ∷ []) s (leaves r peer reason s.class s)
  follows_disconnect destination source reason user rise =
      let gone : value_at r (leaves r peer reason (Some Two) s).state.live ≡ None = without_here r s.live rise in
      subst (λ (c : Option Class). FollowsBy r peer (disconnect destination source reason user ∷ []) s (leaves r peer reason c s))
      (sym two)
      (record {
        acts = answers (disconnect destination source reason user) ∷ [];
        outgoing = refl;
        along = grind arith;
      })

  follows_linked : (unit : Value) → RiseFrom 0 s.live → FollowsBy r peer (unit ∷ []) s (to_linked r peer link unit s)
  follows_linked unit rise = search (arith, follows_disconnect, follows_taking)

-- ---- a unit for a connection that is closing

ignores_follows : (r peer : ℕ) (unit : Value) (s new : State) → link_now (value_at r s.live) ≡ None →
    link_now (value_at r new.live) ≡ None →
    new.outgoing ≡ s.outgoing → Follows r peer (unit ∷ []) [] s new
ignores_follows r peer unit s new before after outgoing = record {
  acts = ignores (unit ∷ []) ∷ [];
  outgoing = outgoing ∙ sym (append-nil s.outgoing);
  along = grind (arith, append-nil);
}

closing_follows : (r peer : ℕ) (unit : Value) (s : State) → RiseFrom 0 s.live → value_at r s.live ≡ Some (closing peer) →
    FollowsBy r peer (unit ∷ []) s (to_closing r unit s)
closing_follows r peer unit s rise here = search (arith, ignores_follows, without_here)

-- ---- by reference

pub outcome_is : (unit : Value) (s : State) (r : ℕ) → s.class ≡ Some Two → s.ended ≡ None → destination_of unit ≡ Some r →
    outcome unit s ≡ to_connection r (value_at r s.live) unit s
outcome_is unit s r two lasts e = grind arith

-- at this connection
pub outcome_at : (unit : Value) (s : State) (r : ℕ) (o : Option Connection) → s.class ≡ Some Two → s.ended ≡ None →
    destination_of unit ≡ Some r → value_at r s.live ≡ o → outcome unit s ≡ to_connection r o unit s
outcome_at unit s r o two lasts e here =
    outcome_is unit s r two lasts e ∙ ap (λ (c : Option Connection). to_connection r c unit s) here

pub follows_open : (unit : Value) (s : State) (r peer : ℕ) (link : Standing) → RiseFrom 0 s.live → s.class ≡ Some Two → s.ended ≡ None →
    value_at r s.live ≡ Some (linked peer link) → destination_of unit ≡ Some r →
    Follows r peer (unit ∷ []) (put_for unit s) s (react unit s)
unfolding react
follows_open unit s r peer link rise two lasts here e =
    subst (FollowsBy r peer (unit ∷ []) s) (sym (outcome_at unit s r (Some (linked peer link)) two lasts e here))
    (follows_linked r peer s link here two unit rise)

pub follows_closed_one : (unit : Value) (s : State) (r peer : ℕ) → RiseFrom 0 s.live → s.class ≡ Some Two → s.ended ≡ None →
    value_at r s.live ≡ Some (closing peer) → destination_of unit ≡ Some r → Follows r peer (unit ∷ []) (put_for unit s) s (react unit s)
unfolding react
follows_closed_one unit s r peer rise two lasts here e =
    subst (FollowsBy r peer (unit ∷ []) s) (sym (outcome_at unit s r (Some (closing peer)) two lasts e here))
    (closing_follows r peer unit s rise here)
