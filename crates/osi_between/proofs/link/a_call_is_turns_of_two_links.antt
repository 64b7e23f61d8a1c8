-- The effect of a carrier's calls on an open link, as turns of the two links of its connection.
-- For connections of class 2 and class 0.
use Rattle.osi_between.proofs.Vocabulary.{◌≡◌, ℕ, ◌<◌, Bool, true, false, List, [], ◌∷◌, ◌++◌, map, take, drop, Ok, refl, sym, ◌∙◌, ap}
use Rattle.osi_between.proofs.Vocabulary.{subst, arith, append_assoc, hand_in, give_out, take_in, hand_out, MovesAlong, zero_turns, said}
use Rattle.osi_between.proofs.Vocabulary.{oldest_in_class_0, oldest_in_class_2, stays_short, move_sound, flat_map, AllByRecursion}
use Rattle.osi_between.proofs.Vocabulary.{append-nil, map-append, flat_map-append, IsOctets, LeftMoves, LinkPair, swapped, Turn, at_left}
use Rattle.osi_between.proofs.Vocabulary.{TurnsAlong, opposite, left_in, right_out, under_way_before, under_way, IsShortTsdu, TakesOldest}
use Rattle.osi_between.proofs.Vocabulary.{all_given, Standing, Given, taken, unit_of, with_tsdu, HasGivenInRange, in_range, stays_octets}
use Rattle.osi_between.proofs.Vocabulary.{unit_fits, agree_turns, drained_moves, drained_ends, drained_leaves, choose_ok, at_ok, turns_keep}
use Rattle.osi_between.proofs.Vocabulary.{stays_whole, other_way, pumped, handed_out, IsWell, IsSettled, AgreeIn, AreOpen, links, Passes}
use Rattle.osi_between.proofs.Vocabulary.{after_send, after_take, LeftTakes, tsdu_in, tsdu_out, Comes, given_by}
use Rattle.osi_class.specs.Runs.{Move, Moves}
use Rattle.osi_between.proofs.unit.the_units_of_one_connection.{all_join}

-- ---- turns one after the other

-- turns of the left link in which these TSDUs were handed in and these handed out
pub record Turned (old new : LinkPair) (ins outs : List (List ℕ)) : Type 0 where
  pub turns : List Turn
  pub along : TurnsAlong old turns new
  pub sent : flat_map left_in turns ≡ ins
  pub none : flat_map right_out turns ≡ []
  pub sent_back : flat_map left_in (map opposite turns) ≡ []
  pub got : flat_map right_out (map opposite turns) ≡ outs

along_join : (a b c : LinkPair) (ts us : List Turn) → TurnsAlong a ts b → TurnsAlong b us c → TurnsAlong a (ts ++ us) c
along_join a b c [] us e more = subst (λ (p : LinkPair). TurnsAlong p us c) e more
along_join a b c (t ∷ ts) us (mid, first, rest) more = (mid, first, along_join mid b c ts us rest more)

pub turned_join : (a b c : LinkPair) (i j o p : List (List ℕ)) → Turned a b i o → Turned b c j p → Turned a c (i ++ j) (o ++ p)
turned_join a b c i j o p first second = grind (arith, along_join, flat_map-append, map-append)

-- one call at the left link
turned_one : (move : Move) (old new : LinkPair) → LeftMoves move old new → Turned old new (tsdu_in move) (tsdu_out move)
turned_one move old new h = record {
  turns = at_left move ∷ [];
  along = (new, h, refl);
  sent = append-nil (tsdu_in move);
  none = refl;
  sent_back = refl;
  got = append-nil (tsdu_out move);
}

-- a call that gives no unit and takes none
turned_alone : (move : Move) (l t r : Standing) (out back : List Given) → Moves move l t → given_by move ≡ [] →
    Comes move back back → Turned (links l out r back) (links t out r back) (tsdu_in move) (tsdu_out move)
turned_alone move l t r out back moves none comes =
    turned_one move (links l out r back) (links t out r back)
    (record { moves = moves; given = sym (append-nil out) ∙ ap (λ (us : List Given). out ++ us) (sym none); comes = comes; right = refl })

-- ---- giving

-- these units
turned_given : (l r : Standing) (out back gs : List Given) (t : Standing) → MovesAlong l (map give_out gs) t →
    Turned (links l out r back) (links t (out ++ gs) r back) [] []
turned_given l r out back [] t e = grind (arith, append-nil)
turned_given l r out back (g ∷ gs) t (mid, first, rest) =
    let one = turned_one (give_out g) (links l out r back) (links mid (out ++ g ∷ []) r back)
    (record { moves = first; given = refl; comes = refl; right = refl }) in
    turned_join (links l out r back) (links mid (out ++ g ∷ []) r back) (links t (out ++ g ∷ gs) r back) [] [] [] [] one
    (subst (λ (us : List Given). Turned (links mid (out ++ g ∷ []) r back) (links t us r back) [] []) (append_assoc out (g ∷ []) gs)
    (turned_given mid r (out ++ g ∷ []) back gs t rest))

-- all that a link gives
pub turned_pumped : (l r : Standing) (out back : List Given) →
    Turned (links l out r back) (links (pumped l) (out ++ all_given l) r back) [] []
turned_pumped l r out back = turned_given l r out back (all_given l) (pumped l) (drained_moves l)

-- ---- handing in and out

abbrev with_whole : Standing → List (List ℕ) → Standing
with_whole s whole = record s { ends = record s.ends { joining = record s.ends.joining { whole = whole } } }

turned_out_by : (l r : Standing) (out back : List Given) (whole : List (List ℕ)) → l.ends.joining.whole ≡ whole →
    Turned (links l out r back) (links (handed_out l) out r back) [] (take 1 whole)
turned_out_by l r out back [] e = grind (arith, drop)
turned_out_by l r out back (t ∷ ts) e =
    turned_alone (hand_out t) l (handed_out l) r out back
    (ap (λ (w : List (List ℕ)). with_whole l w) (e ∙ ap (λ (w : List (List ℕ)). t ∷ drop 1 w) (sym e))) refl refl

-- ---- what turns keep

agree_turned : (two : Bool) (old new : LinkPair) (i o : List (List ℕ)) → Turned old new i o → AgreeIn two old → AgreeIn two new
agree_turned false old new i o t a =
    assumption (
      zero_turns t.turns old new a.agree t.along,
      zero_turns (map opposite t.turns) (swapped old) (swapped new) a.agree_back
          (other_way old new t.turns t.along),
    )
agree_turned true old new i o t a = search (
  agree_turns t.turns old new a.window a.agree t.along,
  agree_turns (map opposite t.turns) (swapped old) (swapped new) a.back a.agree_back (other_way old new t.turns t.along),
)

-- what is in flight from links that may have the beginning of a TSDU
pub turned_any : (old new : LinkPair) (i o : List (List ℕ)) → Turned old new i o → under_way_before old i ≡ under_way new
turned_any old new i o t = grind (arith, append-nil (flat_map left_in t.turns), turns_keep old new t.turns [] t.along)

pub turned_any_back : (old new : LinkPair) (i o : List (List ℕ)) → Turned old new i o →
    under_way (swapped old) ≡ o ++ under_way (swapped new)
turned_any_back old new i o t =
    grind (arith, turns_keep (swapped old) (swapped new) (map opposite t.turns) [] (other_way old new t.turns t.along))

-- open links stay open if the one that turned is settled again
pub turned_passes : (two : Bool) (old new : LinkPair) (i o : List (List ℕ)) → Turned old new i o → AllByRecursion IsShortTsdu i →
    AreOpen two old → AllByRecursion HasGivenInRange new.rightward → AllByRecursion HasGivenInRange new.leftward →
    IsSettled new.left → IsSettled new.right → Passes two old new i o
turned_passes two old new i o t short a range range_back left right =
    let back = other_way old new t.turns t.along in
    grind (
      arith,
      stays_short,
      sym (a.whole i) ∙ turned_any old new i o t,
      turned_any_back old new i o t,
      agree_turned two old new i o t a.agree,
      stays_whole old new t.turns a.whole t.along,
      stays_whole (swapped old) (swapped new) (map opposite t.turns) a.whole_back back,
    )

-- ---- a link between calls

-- what a link in its bounds gives is in the range of its fields
gives_well : (gs : List Given) (s t : Standing) → IsWell s → MovesAlong s (map give_out gs) t → IsWell t × AllByRecursion HasGivenInRange gs
gives_well [] s t h e = (subst (λ (l : Standing). IsWell l) (sym e) h, tt)
gives_well (g ∷ gs) s t h (mid, first, rest) =
    let well : IsWell mid = assumption (move_sound (give_out g) s mid h.sound tt first, stays_octets s mid g h.sound h.octets first) in
    grind (arith, in_range, gives_well gs mid t well rest)

pub pumped_well : (s : Standing) → IsWell s → IsWell (pumped s) × AllByRecursion HasGivenInRange (all_given s)
pumped_well s h = gives_well (all_given s) s (pumped s) h (drained_moves s)

-- what is to be sent does not change with a unit
abbrev Unsent : List (List ℕ) → Standing → Type 0
Unsent unsent s = s.ends.unsent ≡ unsent

taken_well : (s t : Standing) (destination : ℕ) (g : Given) → destination < 65536 → HasGivenInRange g → IsWell s →
    taken s (unit_of destination g) ≡ Ok t → IsWell t
taken_well s t destination g few range h e =
    assumption (
      move_sound (take_in (unit_of destination g)) s t h.sound (unit_fits destination g few range).in_range e,
      subst
          (λ (l : List (List ℕ)). AllByRecursion IsOctets l)
          (sym (at_ok (Unsent s.ends.unsent) (taken s (unit_of destination g)) t (grind (arith, choose_ok)) e)) h.octets,
    )

-- ---- the two calls at the left, whatever the peer

-- a unit that the left link takes, whatever its peer
pub turned_take : (l t r : Standing) (out : List Given) (g : Given) (rest : List Given) (destination : ℕ) →
    taken l (unit_of destination g) ≡ Ok t →
    Turned (links l out r (g ∷ rest)) (links (pumped (handed_out t)) (out ++ all_given (handed_out t)) r rest) []
    (take 1 t.ends.joining.whole)
turned_take l t r out g rest destination is =
    let old = links l out r (g ∷ rest) in
    let mid = links t out r rest in
    let after = links (handed_out t) out r rest in
    let new = links (pumped (handed_out t)) (out ++ all_given (handed_out t)) r rest in
    let got = take 1 t.ends.joining.whole in
    let first = turned_one (take_in (unit_of destination g)) old mid
    (record { moves = is; given = sym (append-nil out); comes = (g, said destination g, refl); right = refl }) in
    let all : Turned old new [] (got ++ []) =
    turned_join old after new [] [] got [] (turned_join old mid after [] [] [] got first (grind (arith, turned_out_by)))
    (turned_pumped (handed_out t) r out rest) in
    subst (λ (l : List (List ℕ)). Turned old new [] l) (append-nil got) all

-- a TSDU that is handed in at the left, whatever its peer
pub turned_send : (l r : Standing) (out back : List Given) (tsdu : List ℕ) →
    Turned (links l out r back) (links (pumped (with_tsdu l tsdu)) (out ++ all_given (with_tsdu l tsdu)) r back) (tsdu ∷ []) []
turned_send l r out back tsdu =
    let one = turned_alone (hand_in tsdu) l (with_tsdu l tsdu) r out back refl refl refl in
    search (arith, turned_join, one, turned_pumped (with_tsdu l tsdu) r out back)

-- ---- the two calls at the left of open links

-- a TSDU is handed in, and all that may be sent now is given
pub sends_passes : (two : Bool) (p : LinkPair) (tsdu : List ℕ) → AreOpen two p → IsShortTsdu tsdu → IsOctets tsdu →
    Passes two p (after_send p tsdu) (tsdu ∷ []) []
sends_passes two p tsdu a short octets =
    let well : IsWell (with_tsdu p.left tsdu) =
    grind (arith, move_sound, all_join IsOctets p.left.ends.unsent (tsdu ∷ []) a.left.well.octets (octets, tt)) in
    turned_passes two p (after_send p tsdu) (tsdu ∷ []) [] (turned_send p.left p.right p.rightward p.leftward tsdu)
    (short, tt) a
    (all_join HasGivenInRange p.rightward (all_given (with_tsdu p.left tsdu)) a.range (pumped_well (with_tsdu p.left tsdu) well).1)
    a.range_back
    (grind (arith, drained_leaves, drained_ends, pumped_well)) a.right

oldest_taken : (two : Bool) (p : LinkPair) (unit : Given) (rest : List Given) (destination : ℕ) → AreOpen two p → AgreeIn two p →
    p.leftward ≡ unit ∷ rest → TakesOldest (swapped p) (unit_of destination unit) rest
oldest_taken false p unit rest destination a z e = grind (arith, oldest_in_class_0)
oldest_taken true p unit rest destination a t e = search (arith, oldest_in_class_2)

pub left_takes : (two : Bool) (p : LinkPair) (g : Given) (rest : List Given) (destination : ℕ) → destination < 65536 → AreOpen two p →
    p.leftward ≡ g ∷ rest → LeftTakes two p (unit_of destination g) rest
left_takes two p g rest destination few a e =
    let t = oldest_taken two p g rest destination a a.agree e in
    let range = subst (λ (us : List Given). AllByRecursion HasGivenInRange us) e a.range_back in
    let same = taken_well p.left t.new destination g few range.0 a.left.well t.taken in
    let well : IsWell (handed_out t.new) = grind arith in
    let got = take 1 t.new.ends.joining.whole in
    record {
      link = t.new;
      taken = t.taken;
      passes = turned_passes two p (after_take p t.new rest) [] got
          (grind (arith, turned_take p.left t.new p.right p.rightward g rest destination t.taken))
          tt a (all_join HasGivenInRange p.rightward (all_given (handed_out t.new)) a.range (pumped_well (handed_out t.new) well).1) range.1
          (grind (arith, drained_leaves, drained_ends, pumped_well)) a.right;
    }
