-- A close, a break and the end of a side of a whole connection: for its core nothing has happened.
-- For every_step_is_simulated.
use Rattle.osi_machine.proofs.Vocabulary.{cases_lt, list_any, State, Meaning, lost, Core, Message, unit, bye, over, gone}
use Rattle.osi_machine.proofs.Vocabulary.{World, session_of, moved, shortened, ended_at, turned as turned_world, without_first}
use Rattle.osi_machine.proofs.Vocabulary.{or_parts, ◌≡◌, refl, sym, ◌∙◌, ap, subst, ℕ, zero, suc, ◌-◌, Bool, true, false, ◌||◌, List, []}
use Rattle.osi_machine.proofs.Vocabulary.{◌∷◌, ◌++◌, map, take, drop, arith, length, append_assoc, inr, take-append-add, take-nil}
use Rattle.osi_machine.proofs.Vocabulary.{append-nil, take-append-drop, take-append-le, take-map}
use Rattle.osi_machine.proofs.basics.what_holds_in_each_phase.{by_either}
use Rattle.osi_machine.specs.Core.{turned}
use Rattle.osi_machine.proofs.whole.how_a_core_simulates_a_connection.{stopped, parts, IsTail, Carried, OneSide, Projects, one_over, cut_to}
use Rattle.osi_machine.proofs.whole.a_call.{left_theirs}

-- ---- a suffix of a channel is lost

-- perhaps the last unit of the sender
tail_cut : (n : ℕ) (over_now : Bool) (s : State) (lost tail : List Meaning) → IsTail over_now s lost tail
    → IsTail over_now s lost (take n tail)
tail_cut zero over_now s lost tail h = tt
tail_cut (suc n) over_now s lost [] h = tt
tail_cut (suc n) over_now s lost (u ∷ []) h = subst (λ (us : List Meaning). IsTail over_now s lost (u ∷ us)) (sym (take-nil n)) h
tail_cut (suc n) over_now s lost (u ∷ v ∷ us) h = absurd h

more_over : (a b : Bool) (s : State) (lost tail : List Meaning) → (a ≡ true → b ≡ true) → IsTail a s lost tail → IsTail b s lost tail
more_over a b s lost tail f h = grind arith

-- if the sender is over or the connection broken
carried_cut : (k : ℕ) (broken broken' a b : Bool) (channel : List Message) (sent : List Meaning) (s : State) → (a ≡ true → b ≡ true)
    → (b || broken') ≡ true
    → Carried broken a channel sent s → Carried broken' b (take k channel) sent s
carried_cut k broken broken' a b channel sent s f w h = by_either (cases_lt (length h.there) k)
    (λ l. record {
      there = h.there;
      lost = h.lost;
      tail = take (k - length h.there) h.tail;
      splits = h.splits;
      carries = units ∙ ap (map unit) (ap (λ (n : ℕ). take n (h.there ++ h.tail)) (omega arith)
          ∙ take-append-add h.there h.tail (k - length h.there));
      whole = inr w;
      last = tail_cut (k - length h.there) b s h.lost h.tail (more_over a b s h.lost h.tail f h.last);
    })
    (λ l. record {
      there = take k h.there;
      lost = drop k h.there ++ h.lost;
      tail = [];
      splits = sym (append_assoc (take k h.there) (drop k h.there) h.lost)
          ∙ ap (λ (us : List Meaning). us ++ h.lost) (take-append-drop k h.there) ∙ h.splits;
      carries = units ∙ ap (map unit) (take-append-le k h.there h.tail l ∙ sym (append-nil (take k h.there)));
      whole = inr w;
      last = tt;
    })
  where
    units : take k channel ≡ map unit (take k (h.there ++ h.tail))
    units = ap (take k) h.carries ∙ take-map unit k (h.there ++ h.tail)

pub take_none : (p : Message → Bool) (k : ℕ) (ms : List Message) → list_any p ms ≡ false → list_any p (take k ms) ≡ false
take_none p (suc k) (m ∷ ms) h = let a = or_parts (p m) (list_any p ms) h in let b = take_none p k ms a.1 in rw (a.0, b) refl
take_none p _ _ h = refl

pub cut_side : (k j : ℕ) (broken : Bool) (w : World) (c : Core) → OneSide broken w c → OneSide true (cut_to k j w) c
cut_side k j broken w c h = record {
  begun = h.begun;
  counted = h.counted;
  alike = grind arith;
  carried = λ l. search (arith, carried_cut, stopped w.peer, h.carried l);
  parted = λ l. take_none parts k w.own.channel (h.parted l);
}

abbrev pub is_unit : Message → Bool
is_unit (unit u) = true
is_unit m = false

units_alone : (m : Message) (ms : List Message) (us : List Meaning) → m ∷ ms ≡ map unit us → is_unit m ≡ true
units_alone m ms [] e = absurd (cc)
units_alone m ms (u ∷ us) e = let same : m ≡ unit u = cc in ap is_unit same

module _ (broken : Bool) (w : World) (c : Core) (p : Projects broken w c) where
  -- what a broken connection leaves in the other's channel when a side ends
  pub ended_peer : (k : ℕ) → OneSide broken (turned_world (ended_at k w)) (turned c)
  ended_peer k = search (arith, left_theirs, carried_cut)

  -- only units are in flight to it
  pub comes_unit : (m : Message) (ms : List Message) → stopped w.own ≡ false → w.peer.channel ≡ m ∷ ms → is_unit m ≡ true
  comes_unit m ms l e = let k = p.own.carried l in units_alone m ms (k.there ++ k.tail) (sym e ∙ k.carries)

  -- and whose sender is not over when a message parts
  pub parting_over : (m : Message) (ms : List Message) → w.peer.channel ≡ m ∷ ms → parts m ≡ true → stopped w.peer ≡ true
  parting_over m ms e q = grind arith

  -- ---- a message that changes nothing

  popped_peer : (m : Message) (ms : List Message) → OneSide broken (turned_world w) (turned c) → w.peer.channel ≡ m ∷ ms
      → OneSide broken (turned_world (without_first w ms)) (turned c)
  popped_peer m ms h e = grind (arith, or_parts, parts)

  -- at a side that is over
  pub popped_projects : (m : Message) (ms : List Message) → stopped w.own ≡ true → w.peer.channel ≡ m ∷ ms
      → Projects broken (without_first w ms) c
  popped_projects m ms o e = assumption (one_over broken (without_first w ms) c p.own.begun o p.own.counted, popped_peer m ms p.peer e)

  -- a bye is taken by a side whose transport connection is open
  pub bye_projects : (k reason : ℕ) (ms : List Message) → w.peer.channel ≡ bye reason ∷ ms
      → Projects broken (moved broken gone (lost (session_of (without_first w ms))).next (over ∷ []) (shortened k (without_first w ms))) c
  bye_projects k reason ms e = grind arith
