-- After every list of steps: the stage of each connection, and what the journal has: offers, no fault, no loss but by an end.
-- For the laws of the machine and of the tables.
use Rattle.osi_machine.proofs.Vocabulary.{append-nil, map-append, Shown, Offer, Side, World, shown_at_end, Entry, connect_answered}
use Rattle.osi_machine.proofs.Vocabulary.{shown_at, Machine, seen_from, shown_in_order, offers_in, eq-eqb, eqb-true, slice_get, CallError}
use Rattle.osi_machine.proofs.Vocabulary.{Call, HasSerial, allowed, is_profile, CanBeOffered, Left, Right, Message, session_of}
use Rattle.osi_machine.proofs.Vocabulary.{after_answer, Taking, Terms, accepts, class_0, closed, call_answered, replaced, is_given}
use Rattle.osi_machine.proofs.Vocabulary.{error_of, Told, told_shown, told_by, is_side, record_of, untold, lost, shows_loss, State, told_of}
use Rattle.osi_machine.proofs.Vocabulary.{AllByRecursion, Class, class_2, Transport, Ending, closed_here, Refusal, Step, ended, start}
use Rattle.osi_machine.proofs.Vocabulary.{connection_at, with_connection, stays, noted, refusal_by, transport_of, refusal, asked_in}
use Rattle.osi_machine.proofs.Vocabulary.{call_in, side_of, ended_worlds, marked_ended, after_end, closes_by, after_taking, learns}
use Rattle.osi_machine.proofs.Vocabulary.{taken_in, cut_channels, step, run, HasNumber, and_right, not-false, is_waiting, is_known}
use Rattle.osi_machine.proofs.Vocabulary.{is_class_0, is_long, end_of, is_told, connects, calls, delivers, breaks, ends, delivered_to}
use Rattle.osi_machine.proofs.Vocabulary.{list_any}
use Rattle.osi_machine.proofs.Vocabulary.{is_loss, loses, or_parts, IsRun, LosesByItsEnd, is_fault, HasNoFault, ◌≡◌, refl, ◌∙◌, ap, ℕ, ◌+◌}
use Rattle.osi_machine.proofs.Vocabulary.{List, [], ◌∷◌, ◌++◌, map, None, sym, subst, zero, suc, ◌==◌, ◌≤◌, Bool, true, false, not, ◌&&◌}
use Rattle.osi_machine.proofs.Vocabulary.{◌||◌, if◌then◌else◌, Option, Some, arith, length, is_some, option_map, inr, inl, ◌⊎◌}
use Rattle.osi_machine.proofs.Vocabulary.{option_map_id, list_any-append}
use Rattle.osi_machine.specs.Machine.{ends_there}
use Rattle.osi_machine.proofs.basics.what_holds_in_each_phase.{by_test, by_either}
use Rattle.osi_machine.proofs.basics.what_stands_at_a_reference.{with_same, with_other}
use Rattle.osi_machine.proofs.invariant.each_step_keeps_one_side.{SessionLaws}
use Rattle.osi_machine.proofs.promises.what_a_record_tells.{told_all, told_of_call, record_append, told_append, other, other_side, Reports}
use Rattle.osi_machine.proofs.promises.what_a_record_tells.{call_reports, shown_reports}
use Rattle.osi_machine.proofs.whole.how_a_core_simulates_a_connection.{cut_to}
use Rattle.osi_machine.proofs.whole.every_stage_of_a_connection.{Stage, side_stage, left_stage, called_stage, taking_of, learning}
use Rattle.osi_machine.proofs.whole.every_stage_of_a_connection.{learned_stage, taken_stage, closed_stage, ended_stage, broken_stage}
use Rattle.osi_machine.proofs.whole.every_stage_of_a_connection.{new_line, still_known}
use Rattle.osi_machine.proofs.whole.every_stage_of_a_connection.{asked_stage, is_lost, over_quiet, none_lost, no_fault_told}
use Rattle.osi_session.specs.declared.faults.CallError.TheVariants as error

-- ---- what is made of each connection of a list, by its reference

module _ {C : Type 0} (F : ℕ → List C → List C) (f : ℕ → C → C) (nil : (k : ℕ) → F k [] ≡ [])
    (cons : (k : ℕ) (c : C) (cs : List C) → F k (c ∷ cs) ≡ f k c ∷ F (k + 1) cs) where
  mapped_got : (k r : ℕ) (cs : List C) → slice_get (F k cs) r ≡ option_map (f (k + r)) (slice_get cs r)
  mapped_got k r [] = rw (nil k) refl
  mapped_got k zero (c ∷ cs) = rw (cons k c cs) (ap (λ (n : ℕ). Some (f n c)) (omega arith))
  mapped_got k (suc r) (c ∷ cs) = rw (cons k c cs)
      (mapped_got (k + 1) r cs ∙ ap (λ (n : ℕ). option_map (f n) (slice_get cs r)) (omega arith))

  pub mapped_at : (r : ℕ) (cs : List C) → connection_at r (F 1 cs) ≡ option_map (f r) (connection_at r cs)
  mapped_at zero cs = refl
  mapped_at (suc r) cs = mapped_got 1 r cs ∙ ap (λ (n : ℕ). option_map (f n) (slice_get cs r)) (omega arith)

  -- what stays the same of each
  mapped_same : {D : Type 0} (g : C → D) → ((k : ℕ) (c : C) → g (f k c) ≡ g c) → (k : ℕ) (cs : List C) → map g (F k cs) ≡ map g cs
  mapped_same g same k [] = rw (nil k) refl
  mapped_same g same k (c ∷ cs) = rw (cons k c cs, same k c, mapped_same g same (k + 1) cs) refl

-- after one more there is at each reference what was there, or the new one where there was none
new_got : {C : Type 0} → (k : ℕ) (ls : List C) (l : C) → (slice_get (ls ++ l ∷ []) k ≡ slice_get ls k)
    ⊎ ((slice_get ls k ≡ None) × (slice_get (ls ++ l ∷ []) k ≡ Some l))
new_got zero [] l = inr (refl, refl)
new_got (suc k) (x ∷ ls) l = new_got k ls l
new_got _ _ l = inl refl

pub new_there : {C : Type 0} → (r : ℕ) (ls : List C) (l : C) → (connection_at r (ls ++ l ∷ []) ≡ connection_at r ls)
    ⊎ ((connection_at r ls ≡ None) × (connection_at r (ls ++ l ∷ []) ≡ Some l))
new_there r ls l = grind (arith, new_got)

-- ---- offers

abbrev pub offer_of : World → Offer
offer_of w = w.offer

seen_offer : (side : Side) (w : World) → (seen_from side w).offer ≡ w.offer
seen_offer side w = grind arith

offers_append : (es fs : List Entry) → offers_in (es ++ fs) ≡ offers_in es ++ offers_in fs
offers_append [] fs = refl
offers_append (connect_answered o None ∷ es) fs = ap (λ (os : List Offer). o ∷ os) (offers_append es fs)
offers_append (e ∷ es) fs = offers_append es fs

replaced_offers : (r : ℕ) (ws : List World) (w v : World) → slice_get ws r ≡ Some w → v.offer ≡ w.offer
    → map offer_of (replaced r v ws) ≡ map offer_of ws
replaced_offers r [] w v e q = refl
replaced_offers zero (x ∷ ws) w v e q = grind arith
replaced_offers (suc r) (x ∷ ws) w v e q = ap (λ (os : List Offer). x.offer ∷ os) (replaced_offers r ws w v e q)

with_offers : (r : ℕ) (ws : List World) (w v : World) → connection_at r ws ≡ Some w → v.offer ≡ w.offer
    → map offer_of (with_connection r v ws) ≡ map offer_of ws
with_offers r ws w v e q = grind (arith, replaced_offers)

-- ---- what entries tell and ask for

told_more : (d : Side) (k : ℕ) (o : Offer) (j es : List Entry) → told_of d k o (j ++ es) ≡ told_by (told_of d k o j) (record_of d k es)
told_more d k o j es = ap (told_by (untold d o)) (record_append d k j es) ∙ told_append (untold d o) (record_of d k j) (record_of d k es)

asks_more : (j es : List Entry) → offers_in es ≡ [] → offers_in (j ++ es) ≡ offers_in j
asks_more j es e = offers_append j es ∙ ap (λ (os : List Offer). offers_in j ++ os) e ∙ append-nil (offers_in j)

-- entries that tell nothing and ask for nothing
record IsMute (es : List Entry) : Type 0 where
  tells : (d : Side) (n : ℕ) (t : Told) → told_by t (record_of d n es) ≡ t
  asks : offers_in es ≡ []

mute_append : (es fs : List Entry) → IsMute es → IsMute fs → IsMute (es ++ fs)
mute_append es fs h k = grind (arith, record_append, told_append, offers_append)

refused_mute : (side : Side) (r : ℕ) (c : Call) (e : CallError) → IsMute (call_answered side r c (Some e) ∷ [])
refused_mute side r c e = record { tells = λ d n t. by_test (is_side d side && (r == n)) (λ q. rw q) (λ q. rw q); asks = refl }

-- what an end shows of one connection, and of all
loss_mute : (side : Side) (k : ℕ) (s : State) → IsMute (map (shown_at side k) (lost s).shown)
loss_mute side k s = grind arith

order_mute : (side : Side) (k : ℕ) (ws : List World) → IsMute (shown_in_order side k ws)
order_mute side k [] = record { tells = λ d n t. refl; asks = refl }
order_mute side k (w ∷ ws) = mute_append (map (shown_at side k) (shown_at_end (seen_from side w))) (shown_in_order side (k + 1) ws)
    (loss_mute side k (session_of (seen_from side w))) (order_mute side (k + 1) ws)

-- ---- what entries show

-- an indication of a fault, or of a loss at a side
abbrev sought : Option Side → Entry → Bool
sought None e = is_fault e
sought (Some d) e = is_loss d e

abbrev ShowNo : Option Side → List Entry → Type 0
ShowNo a es = list_any (sought a) es ≡ false

none_more : (a : Option Side) (xs ys : List Entry) → ShowNo a xs → ShowNo a ys → ShowNo a (xs ++ ys)
none_more a xs ys h k = list_any-append (sought a) xs ys ∙ rw (h, k) refl

abbrev is_shown : Entry → Bool
is_shown (shown_at side r i) = true
is_shown e = false

none_shown : (a : Option Side) (e : Entry) → is_shown e ≡ false → ShowNo a (e ∷ [])
none_shown a e h = grind arith

-- what is shown of a message that is taken: no loss, and of a fault the record would tell
fine_before : (t : Told) (shown : List Shown) → (told_all t shown).faulted ≡ false → t.faulted ≡ false
fine_before t [] h = h
fine_before t (i ∷ shown) h = let k = fine_before (told_shown t i) shown h in grind arith

not_sought : (a : Option Side) (side : Side) (r : ℕ) (i : Shown) (t : Told) → (told_shown t i).faulted ≡ false → is_lost i ≡ false
    → sought a (shown_at side r i) ≡ false
not_sought a side r i t f l = grind arith

none_taken : (a : Option Side) (side : Side) (r : ℕ) (shown : List Shown) (t : Told) → (told_all t shown).faulted ≡ false
    → list_any is_lost shown ≡ false → ShowNo a (map (shown_at side r) shown)
none_taken a side r [] t f l = refl
none_taken a side r (i ∷ shown) t f l =
    let p = or_parts (is_lost i) (list_any is_lost shown) l in
    rw (not_sought a side r i t (fine_before (told_shown t i) shown f) p.0) (none_taken a side r shown (told_shown t i) f p.1)

-- what an end shows, by the side that ends
abbrev is_at : Option Side → Side → Bool
is_at None side = false
is_at (Some d) side = is_side d side

order_other : (a : Option Side) (side : Side) (k : ℕ) (ws : List World) → is_at a side ≡ false → ShowNo a (shown_in_order side k ws)
order_other a side k [] h = refl
order_other a side k (w ∷ ws) h = grind (arith, none_more, order_other a side (k + 1) ws h)

-- of a single connection, if its session at this side is over
order_alone : (a : Option Side) (side : Side) (q : ℕ) (ws : List World) (w v : World) → connection_at q ws ≡ Some w
    → length (map offer_of ws) ≤ 1 → shows_loss (seen_from side v).own.kept.phase ≡ false
    → ShowNo a (shown_in_order side 1 (with_connection q v ws))
order_alone a side (suc zero) (x ∷ []) w v e l h = rw h refl
order_alone a side (suc q) (x ∷ y ∷ ws) w v e l h = absurd (omega arith)
order_alone a side _ _ w v e l h = absurd (cc)

-- ---- what is kept

-- what is true at a reference: nothing is told of one that was not given
abbrev pub Holds : Machine → List Entry → ℕ → Option World → Type 0
Holds m j r None = (d : Side) (o : Offer) → told_of d r o j ≡ untold d o
Holds m j r (Some w) = Stage Left m w (told_of Left r w.offer j) (told_of Right r w.offer j)

-- the class that is known is that of the terms
abbrev by_terms : Terms → Option Class → Bool
by_terms terms None = true
by_terms (accepts class_0) (Some class_0) = true
by_terms (accepts class_2) (Some class_2) = true
by_terms terms known = false

abbrev of_class_0 : Terms → Bool
of_class_0 (accepts class_0) = true
of_class_0 terms = false

abbrev end_at : Option Ending → Option Ending → Side → Option Ending
end_at left right Left = left
end_at left right Right = right

end_is : (side : Side) (m : Machine) → end_of side m ≡ end_at m.left_end m.right_end side
end_is side m = grind arith

-- a loss is shown only at a side that loses, and a fault never
abbrev excused : Option Ending → Option Ending → Option Side → Bool
excused left right None = false
excused left right (Some d) = loses (end_at left right d)

abbrev IsClean : Option Ending → Option Ending → List Entry → Type 0
IsClean left right j = (a : Option Side) → excused left right a ≡ false → ShowNo a j

pub record IsGood (m : Machine) : Type 0 where
  pub each : (r : ℕ) → Holds m m.journal r (connection_at r m.worlds)
  -- the journal has the offers, of one connection alone if the terms are of class 0
  pub asked : offers_in m.journal ≡ map offer_of m.worlds
  pub single : of_class_0 m.terms ≡ true → length (offers_in m.journal) ≤ 1
  pub classes : by_terms m.terms m.known ≡ true
  pub clean : IsClean m.left_end m.right_end m.journal

-- the same offers
good_next : (m n : Machine) → IsGood m → ((r : ℕ) → Holds n n.journal r (connection_at r n.worlds))
    → offers_in n.journal ≡ offers_in m.journal → map offer_of n.worlds ≡ map offer_of m.worlds → n.terms ≡ m.terms
    → by_terms n.terms n.known ≡ true → IsClean n.left_end n.right_end n.journal → IsGood n
good_next m n g each e o t c l = grind arith

-- ---- a reference at which nothing is told

told_stage : (side : Side) (m : Machine) (w : World) (s s' t t' : Told) → s' ≡ s → t' ≡ t → Stage side m w s t → Stage side m w s' t'
told_stage side m w s s' t t' e f h = subst (λ (x : Told). Stage side m w x t') (sym e) (subst (Stage side m w s) (sym f) h)

holds_next : (m n : Machine) (j k : List Entry) (r : ℕ) (f : World → World) (a b : Option World) → b ≡ option_map f a
    → ((d : Side) (o : Offer) → told_of d r o k ≡ told_of d r o j) → ((w : World) → (f w).offer ≡ w.offer)
    → ((w : World) (tell : Side → Told) → Stage Left m w (tell Left) (tell Right) → Stage Left n (f w) (tell Left) (tell Right))
    → Holds m j r a → Holds n k r b
holds_next m n j k r f None b e t o q h = grind arith
holds_next m n j k r f (Some w) b e t o q h = subst (Holds n k r) (sym e)
    (told_stage Left n (f w) _ _ _ _ (same Left) (same Right) (q w (λ d. told_of d r w.offer j) h))
  where
    same : (d : Side) → told_of d r (f w).offer k ≡ told_of d r w.offer j
    same d = ap (λ (p : Offer). told_of d r p k) (o w) ∙ t d w.offer

-- the connection stays as it is
holds_still : (m n : Machine) (j es : List Entry) (r : ℕ) (a b : Option World) → b ≡ a
    → ((d : Side) (t : Told) → told_by t (record_of d r es) ≡ t)
    → ((w : World) (tell : Side → Told) → Stage Left m w (tell Left) (tell Right) → Stage Left n w (tell Left) (tell Right))
    → Holds m j r a → Holds n (j ++ es) r b
holds_still m n j es r a b e t q h = holds_next m n j (j ++ es) r (λ w. w) a b (e ∙ sym (option_map_id a))
    (λ d o. told_more d r o j es ∙ t d (told_of d r o j)) (λ w. refl) q h

-- an entry alone
note_good : (m : Machine) (e : Entry) → is_shown e ≡ false → IsMute (e ∷ []) → IsGood m → IsGood (noted (e ∷ []) m)
note_good m e s h g = good_next m (noted (e ∷ []) m) g
    (λ r. holds_still m (noted (e ∷ []) m) m.journal (e ∷ []) r _ _ refl (λ d t. h.tells d r t) (λ w tell x. x) (g.each r))
    (asks_more m.journal (e ∷ []) h.asks) refl refl g.classes (λ a n. none_more a m.journal (e ∷ []) (g.clean a n) (none_shown a e s))

-- ---- one connection moves, by one side, and the class may be known by it

module _ (m : Machine) (known : Option Class) (side : Side) (q : ℕ) (w v : World) (es : List Entry) (f : Told → Told)
    (e : connection_at q m.worlds ≡ Some w) (o : v.offer ≡ w.offer) (rep : Reports side q es f) (none : (a : Option Side) → ShowNo a es)
    (g : IsGood m) (later : is_known m.known ≡ true → is_known known ≡ true)
    (moves : (s t : Told) → Stage side m (seen_from side w) s t → Stage side (record m { known = known }) v (f s) t) where
  abbrev now : Machine
  now = record m { known = known }

  abbrev journal : List Entry
  journal = m.journal ++ es

  here : Holds now journal q (Some (seen_from side v))
  here =
      let told = λ (d : Side). told_of d q w.offer m.journal in
      subst (λ (p : Offer). Stage Left now (seen_from side v) (told_of Left q p journal) (told_of Right q p journal))
      (sym (seen_offer side v ∙ o))
      (left_stage side now v (λ d. told_of d q w.offer journal)
      (told_stage side now v _ _ _ _
      (told_more side q w.offer m.journal es ∙ rep.tells (told side))
      (told_more (other side) q w.offer m.journal es ∙ ap (told_by (told (other side)))
      (rep.apart (other side) q (other_side side (q == q))))
      (moves _ _ (side_stage side m w told (subst (Holds m m.journal q) e (g.each q))))))

  each_now : (r : ℕ) → Holds now journal r (connection_at r (with_connection q (seen_from side v) m.worlds))
  each_now r = by_test (q == r)
      (λ x. subst (λ (p : ℕ). Holds now journal p (connection_at p (with_connection q (seen_from side v) m.worlds))) (eqb-true q r x)
      (subst (Holds now journal q) (sym (with_same q m.worlds w (seen_from side v) e)) here))
      (λ x. holds_still m now m.journal es r (connection_at r m.worlds) _
      (with_other r q m.worlds (seen_from side v) (λ z. absurd (let u = eq-eqb q r (sym z) in cc)))
      (λ d t. ap (told_by t) (rep.apart d r (and_right (is_side d side) (q == r) x)))
      (λ y tell h. learned_stage m y (tell Left) (tell Right) known later h) (g.each r))

  move_good : by_terms m.terms known ≡ true → IsGood (noted es (stays now side q v))
  move_good c = good_next m (noted es (stays now side q v)) g each_now (asks_more m.journal es rep.asks)
      (with_offers q m.worlds w (seen_from side v) e (seen_offer side v ∙ o)) refl c
      (λ a n. none_more a m.journal es (g.clean a n) (none a))

-- ---- a connection is requested

if_none : (b : Bool) (e : Refusal) (x : Option Refusal) → (if b then Some e else x) ≡ None → (b ≡ false) × (x ≡ None)
if_none b e x h = grind arith

-- what a request that is not refused has passed
pub record Passes (past : Bool) (known : Option Class) (asked : List Transport) (o : Offer) : Type 0 where
  pub lives : past ≡ false
  pub settled : (not (is_known known) && list_any is_waiting asked) ≡ false
  pub more : is_class_0 known ≡ false
  pub profile : is_profile o.requirements ≡ true
  pub short : is_long o ≡ false

pub passes : (past : Bool) (known : Option Class) (asked : List Transport) (o : Offer) → refusal_by past known asked o ≡ None
    → Passes past known asked o
passes past known asked o h = grind (arith, if_none, not-false)

-- with class 0 a second one is refused: the first waits, or the class is known
first_asked : (m : Machine) (o : Offer) → IsGood m → Passes (is_some m.left_end) m.known (map transport_of m.worlds) o
    → of_class_0 m.terms ≡ true → (ws : List World) → m.worlds ≡ ws → ws ≡ []
first_asked m o g p k [] e = refl
first_asked m o g p k (w ∷ ws) e = grind (arith, or_parts, g.each 1)

new_offer : (b : Bool) (o : Offer) → (new_line b o).offer ≡ o
new_offer b o = grind arith

asked_good : (m : Machine) (o : Offer) → CanBeOffered o → IsGood m → (a : Option Refusal) → refusal m o ≡ a
    → IsGood (noted (connect_answered o a ∷ []) (asked_in m o a))
asked_good m o small g (Some x) h = note_good m (connect_answered o (Some x)) refl (record { tells = λ d n t. refl; asks = refl }) g
asked_good m o small g None h = record {
  each = λ r. by_either (new_there r m.worlds new)
      (λ e. holds_still m m m.journal es r (connection_at r m.worlds) _ e (λ d t. refl) (λ w tell s. s) (g.each r))
      (λ e. subst (Holds m (m.journal ++ es) r) (sym e.1)
      (told_stage Left m new _ _ _ _ (first r e.0 Left) (first r e.0 Right) (asked_stage m o small p.profile)));
  asked = offers_append m.journal es ∙ ap (λ (os : List Offer). os ++ o ∷ []) g.asked
      ∙ ap (λ (p : Offer). map offer_of m.worlds ++ p ∷ []) (sym (new_offer m.broken o)) ∙ sym (map-append offer_of m.worlds (new ∷ []));
  single = λ k.
      let none = ap (map offer_of) (first_asked m o g p k m.worlds refl) in
      let e = ap length (offers_append m.journal es ∙ ap (λ (os : List Offer). os ++ o ∷ []) (g.asked ∙ none)) in
      omega arith;
  classes = g.classes;
  clean = λ a n. none_more a m.journal es (g.clean a n) (none_shown a (connect_answered o None) refl);
}
  where
    es : List Entry
    es = connect_answered o None ∷ []

    new : World
    new = new_line m.broken o

    p : Passes (is_some m.left_end) m.known (map transport_of m.worlds) o
    p = passes (is_some m.left_end) m.known (map transport_of m.worlds) o h

    first : (r : ℕ) → connection_at r m.worlds ≡ None → (d : Side) → told_of d r new.offer (m.journal ++ es) ≡ untold d o
    first r e d = told_more d r new.offer m.journal es ∙ subst (Holds m m.journal r) e (g.each r) d new.offer
        ∙ ap (untold d) (new_offer m.broken o)

-- ---- a call

call_good : SessionLaws → (m : Machine) (side : Side) (r : ℕ) (c : Call) → HasSerial c → IsGood m → (a : Option World)
    → connection_at r m.worlds ≡ a → IsGood (call_in m side r c (side_of side a))
call_good laws m side r c small g None e =
    note_good m (call_answered side r c (Some error.NoSuchConnection)) refl (refused_mute side r c error.NoSuchConnection) g
call_good laws m side r c small g (Some w) e =
    let v = seen_from side w in
    let a = allowed (session_of v) c in
    by_test (is_given v.own.transport)
    (λ q. rw q (move_good m m.known side r w (after_answer m.broken c v a) (call_answered side r c (error_of a) ∷ [])
    (λ t. told_of_call t c (error_of a)) e (grind arith) (call_reports side r c (error_of a))
    (λ p. none_shown p (call_answered side r c (error_of a)) refl) g (λ k. k)
    (λ s t h. called_stage laws side m v s t c small h) g.classes))
    (λ q. rw q (note_good m (call_answered side r c (Some error.NoSuchConnection)) refl (refused_mute side r c error.NoSuchConnection) g))

-- ---- the end of a side

end_after : (side : Side) (e : Ending) (m : Machine) (a : Option Side)
    → excused (marked_ended side e m).left_end (marked_ended side e m).right_end a
    ≡ (if is_at a side then loses (Some e) else excused m.left_end m.right_end a)
end_after side e m a = grind arith

marked_good : (side : Side) (e : Ending) (m : Machine)
    → ((r : ℕ) → Holds (marked_ended side e m) m.journal r (connection_at r m.worlds)) → offers_in m.journal ≡ map offer_of m.worlds
    → (of_class_0 m.terms ≡ true → length (offers_in m.journal) ≤ 1) → by_terms m.terms m.known ≡ true
    → ((a : Option Side) → (if is_at a side then loses (Some e) else excused m.left_end m.right_end a) ≡ false → ShowNo a m.journal)
    → IsGood (marked_ended side e m)
marked_good side e m h o s c l = grind (arith, end_after)

-- a side that has not ended loses none yet
not_ended : (a : Option Side) (side : Side) (left right : Option Ending) → is_at a side ≡ true → is_some (end_at left right side) ≡ false
    → excused left right a ≡ false
not_ended a side left right h k = grind arith

module _ (m : Machine) (side : Side) (e : Ending) (i : is_some (end_at m.left_end m.right_end side) ≡ false)
    (quiet : (a : Option Side) → loses (Some e) ≡ false → ShowNo a (shown_in_order side 1 m.worlds)) (g : IsGood m) where
  end_clean : (a : Option Side) → (if is_at a side then loses (Some e) else excused m.left_end m.right_end a) ≡ false
      → ShowNo a (m.journal ++ (shown_in_order side 1 m.worlds ++ ended side e ∷ []))
  end_clean a = grind (arith, none_more, none_shown, order_other, not_ended, quiet a, g.clean a)

  end_good : (keep : ℕ → ℕ) → IsGood (after_end side e keep m)
  end_good keep = marked_good side e (noted es (record m { worlds = ended_worlds side keep 1 m.worlds }))
      (λ r. holds_next m (marked_ended side e (noted es (record m { worlds = ended_worlds side keep 1 m.worlds }))) m.journal
      (m.journal ++ es) r (ended_one r) (connection_at r m.worlds) _
      (mapped_at (ended_worlds side keep) ended_one (λ k. refl) (λ k w ws. refl) r m.worlds)
      (λ d o. told_more d r o m.journal es ∙ mute.tells d r (told_of d r o m.journal)) (ended_offer r)
      (λ w tell h. ended_stage side e m es (ended_worlds side keep 1 m.worlds) (keep r) w tell h) (g.each r))
      (asks_more m.journal es mute.asks ∙ g.asked
      ∙ sym (mapped_same (ended_worlds side keep) ended_one (λ k. refl) (λ k w ws. refl) offer_of ended_offer 1 m.worlds))
      (λ k. subst (λ (os : List Offer). length os ≤ 1) (sym (asks_more m.journal es mute.asks)) (g.single k))
      g.classes end_clean
    where
      es : List Entry
      es = shown_in_order side 1 m.worlds ++ ended side e ∷ []

      mute : IsMute es
      mute = mute_append (shown_in_order side 1 m.worlds) (ended side e ∷ []) (order_mute side 1 m.worlds)
          (record { tells = λ d n t. refl; asks = refl })

      ended_one : ℕ → World → World
      ended_one k w = seen_from side (ends_there (keep k) (seen_from side w))

      ended_offer : (k : ℕ) (w : World) → (ended_one k w).offer ≡ w.offer
      ended_offer k w = grind arith

-- ---- a delivery

seen_back : (side : Side) (w : World) → shows_loss (seen_from side (seen_from side w)).own.kept.phase ≡ shows_loss w.own.kept.phase
seen_back side w = grind arith

taking_good : SessionLaws → (m : Machine) (side : Side) (r : ℕ) (keep : ℕ → ℕ) (w : World) (x : Message) (xs : List Message)
    → connection_at r m.worlds ≡ Some w → (seen_from side w).peer.channel ≡ x ∷ xs
    → is_some (end_at m.left_end m.right_end side) ≡ false → IsGood m
    → IsGood (after_taking (learning m (seen_from side w) x) side r keep (taking_of m (keep r) (seen_from side w) x xs))
taking_good laws m side r keep w x xs e c i g = by_test k.closes (λ d. rw d (last known refl d)) (λ d. rw d stayed)
  where
    v : World
    v = seen_from side w

    k : Taking
    k = taking_of m (keep r) v x xs

    known : Option Class
    known = learns m.terms v.own.transport x m.known

    es : List Entry
    es = map (shown_at side r) k.shown

    was : Stage side m v (told_of side r w.offer m.journal) (told_of (other side) r w.offer m.journal)
    was = side_stage side m w (λ d. told_of d r w.offer m.journal) (subst (Holds m m.journal r) e (g.each r))

    classes : by_terms m.terms known ≡ true
    classes = grind arith

    -- the connection is then this
    next_good : (y : World) → y.offer ≡ v.offer → ((s t : Told) → Stage side m v s t → Stage side (learning m v x) y (told_all s k.shown) t)
        → IsGood (noted es (stays (learning m v x) side r y))
    next_good y o f = move_good m known side r w y es (λ t. told_all t k.shown) e (o ∙ seen_offer side w)
        (shown_reports side r k.shown) (λ a. none_taken a side r k.shown _
        (no_fault_told side (learning m v x) k.world _ _ (taken_stage laws side m v _ _ (keep r) x xs c was)).0
        (none_lost side m (keep r) v _ _ x xs was c)) g
        (still_known m.terms v.own.transport x m.known) f classes

    stayed : IsGood (noted es (stays (learning m v x) side r k.world))
    stayed = next_good k.world (grind arith) (λ s t h. taken_stage laws side m v s t (keep r) x xs c h)

    last : (now : Option Class) → known ≡ now → k.closes ≡ true → IsGood (closes_by now (noted es (learning m v x)) side r keep k)
    last (Some class_2) q d = next_good (closed m.broken (keep r) k.world) (grind arith)
        (λ s t h. (closed_stage laws side m v s t (keep r) x xs c h d).2)
    last (Some class_0) q d = end_good (noted es (stays (learning m v x) side r k.world)) side closed_here i
        (λ p n. order_alone p side r m.worlds w (seen_from side k.world) e
        (subst (λ (os : List Offer). length os ≤ 1) g.asked (g.single (grind arith)))
        (seen_back side k.world ∙ over_quiet k.world.own.kept.phase (closed_stage laws side m v _ _ (keep r) x xs c was d).1)) stayed keep
    last None q d = absurd (let a = (closed_stage laws side m v _ _ (keep r) x xs c was d).0 in let b = ap is_known q in cc)

delivery_good : SessionLaws → (m : Machine) (side : Side) (r : ℕ) (keep : ℕ → ℕ) → is_some (end_at m.left_end m.right_end side) ≡ false
    → IsGood m → (a : Option World) → connection_at r m.worlds ≡ a → IsGood (delivered_to m side r keep (side_of side a))
delivery_good laws m side r keep i g None e = g
delivery_good laws m side r keep i g (Some w) e = by (seen_from side w).peer.channel refl
  where
    by : (ms : List Message) → (seen_from side w).peer.channel ≡ ms → IsGood (taken_in m side r keep (seen_from side w) ms)
    by [] c = g
    by (x ∷ xs) c = taking_good laws m side r keep w x xs e c i g

-- ---- a break

broken_good : (m : Machine) (left right : ℕ → ℕ) → IsGood m →
    IsGood (record m { broken = true; worlds = cut_channels left right 1 m.worlds })
broken_good m left right g = good_next m (record m { broken = true; worlds = cut_channels left right 1 m.worlds }) g
    (λ r. holds_next m (record m { broken = true }) m.journal m.journal r (cut_to (left r) (right r)) (connection_at r m.worlds) _
    (mapped_at (cut_channels left right) (λ k w. cut_to (left k) (right k) w) (λ k. refl) (λ k w ws. refl) r m.worlds) (λ d o. refl)
    (λ w. refl)
    (λ w tell h. broken_stage m w (tell Left) (tell Right) (left r) (right r) h) (g.each r))
    refl
    (mapped_same (cut_channels left right) (λ k w. cut_to (left k) (right k) w) (λ k. refl) (λ k w ws. refl) offer_of (λ k w. refl) 1
    m.worlds)
    refl g.classes g.clean

-- ---- a step, and a list of steps

if_good : (b : Bool) (m n : Machine) → (b ≡ true → IsGood m) → (b ≡ false → IsGood n) → IsGood (if b then m else n)
if_good b m n h k = grind arith

pub step_good : SessionLaws → (m : Machine) (s : Step) → HasNumber s → IsGood m → IsGood (step m s)
step_good laws m (connects o) small g = asked_good m o small g (refusal m o) refl
step_good laws m (calls side r c) small g = call_good laws m side r c small g (connection_at r m.worlds) refl
step_good laws m (delivers side r keep) small g = if_good (is_some (end_of side m)) _ _ (λ q. g)
    (λ q. delivery_good laws m side r keep (ap is_some (sym (end_is side m)) ∙ q) g (connection_at r m.worlds) refl)
step_good laws m (breaks left right) small g = if_good m.broken _ _ (λ q. g) (λ q. broken_good m left right g)
step_good laws m (ends side e keep) small g = if_good (is_some (end_of side m) || not (is_told e m.broken)) _ _ (λ q. g)
    (λ q. let p = or_parts (is_some (end_of side m)) (not (is_told e m.broken)) q in
    end_good m side e (ap is_some (sym (end_is side m)) ∙ p.0) (λ d n. absurd (grind arith)) g keep)

none_given : (terms : Terms) (r : ℕ) → Holds (start terms) [] r (connection_at r [])
none_given terms zero = λ d o. refl
none_given terms (suc r) = λ d o. refl

run_good : SessionLaws → (m : Machine) (steps : List Step) → AllByRecursion HasNumber steps → IsGood m → IsGood (run m steps)
run_good laws m [] small g = g
run_good laws m (s ∷ steps) small g = run_good laws (step m s) steps small.1 (step_good laws m s small.0 g)

pub none_yet : (terms : Terms) → IsGood (start terms)
none_yet terms = grind (arith, none_given)

pub good_run : SessionLaws → (m : Machine) → IsRun m → IsGood m
good_run laws m h = subst IsGood h.reached (run_good laws (start h.agreed) h.steps h.numbered (none_yet h.agreed))

-- the stage of a connection, seen from either side
pub stage_at : (m : Machine) → IsGood m → (side : Side) (r : ℕ) (w : World) → connection_at r m.worlds ≡ Some w
    → Stage side m (seen_from side w) (told_of side r w.offer m.journal) (told_of (other side) r w.offer m.journal)
stage_at m g side r w e = side_stage side m w (λ d. told_of d r w.offer m.journal) (subst (Holds m m.journal r) e (g.each r))

-- ---- the whole journal

pub no_fault_shown : SessionLaws → (m : Machine) → IsRun m → HasNoFault m
no_fault_shown laws m h = (good_run laws m h).clean None refl

pub losses_have_an_end : SessionLaws → (m : Machine) → IsRun m → LosesByItsEnd m
losses_have_an_end laws m h side k = by_test (loses (end_of side m)) (λ q. q)
    (λ q. absurd (let z = sym k ∙ (good_run laws m h).clean (Some side) (ap loses (sym (end_is side m)) ∙ q) in cc))
