-- On a connection no more TSDUs of a side have passed than moments in all.
-- For the law that no session of an end is blamed first: a judge counts TSDUs up to 2^64.
use Rattle.osi_blameless.proofs.Vocabulary.{[], ap, arith, Bool, length, List, map, None, Option, refl, Some, suc, ℕ, ◌++◌, ◌∷◌, ◌≡◌, ◌≤◌}
use Rattle.osi_blameless.proofs.Vocabulary.{length-append, slice_get, Value, takes, Meaning, Direction, marked_past, asked, changed, Joined}
use Rattle.osi_blameless.proofs.Vocabulary.{Sessions, spoken, taken, unit_passes, way_of, added, heard, octets_of, Spoken, Room, after_add}
use Rattle.osi_blameless.proofs.Vocabulary.{after_set, Course}
use Rattle.osi_rules.specs.declared.findings.Meaning.TheVariants as meaning
use Rattle.osi_judge.specs.Connections.{meant, packet_begins}
use Rattle.osi_judge.specs.Lines.{Said}
use Rattle.osi_blameless.proofs.steps.what_passes_keeps_a_claim.{IsClaim}
use Rattle.osi_blameless.proofs.standing.all_connections_stand.{map_of}
use Rattle.osi_blameless.proofs.shown.connections_have_the_same_places.{marked_leaves, unit_joins}
use Rattle.osi_blameless.proofs.standing.nobody_of_a_side_is_to_blame.{moment, unit_past}

-- ---- of one connection

-- a side has no more TSDUs than this
abbrev HasFew : Direction → ℕ → Joined → Type 0
HasFew e n j = length (heard (spoken e j)) ≤ n

one_longer : (xs : List Said) (x : Said) → length (map octets_of (xs ++ x ∷ [])) ≡ suc (length (map octets_of xs))
one_longer [] x = refl
one_longer (y ∷ xs) x = ap suc (one_longer xs x)

few_added : (n at : ℕ) (end : Bool) (octets : List ℕ) (s : Spoken) → length (heard s) ≤ n →
    length (heard (added at end octets s)) ≤ suc n
few_added n at end octets s h = grind (arith, one_longer)

module _ (e : Direction) (n : ℕ) where
  few_more : (j : Joined) → HasFew e n j → HasFew e (suc n) j
  few_more j h = omega (arith, h)

  -- what a unit means for its connection
  few_meant : (d : Direction) (at : ℕ) (v : Value) (m : Meaning) (j : Joined) → HasFew e n j → HasFew e (suc n) (meant d at v m j)
  few_meant d at v m j h = grind (arith, few_more, few_added)

  few_begun : (d : Direction) (j : Joined) → HasFew e n j → HasFew e n (packet_begins d j)
  few_begun d j h = grind arith

  few_asked : (number calling : ℕ) (room : Room) → HasFew e (suc n) (asked number calling room)
  few_asked number calling room = grind arith

-- ---- of all that have a place

abbrev pub HaveFew : Direction → ℕ → Sessions → Type 0
HaveFew e n t = (i : ℕ) (j : Joined) → slice_get t.live i ≡ Some j → length (heard (spoken e j)) ≤ n

module _ (e : Direction) (n : ℕ) (t : Sessions) (h : HaveFew e n t) where
  still : HaveFew e (suc n) t
  still i j here = few_more e n j (h i j here)

  few_changed : (p : ℕ) (f : Joined → Joined) → ((j : Joined) → HasFew e n j → HasFew e (suc n) (f j)) → (o : Option Joined) →
      slice_get t.live p ≡ o → HaveFew e (suc n) (changed p f t o)
  few_changed p f keeps o is = search (arith, still, after_set)

  few_taken : (d : Direction) (at : ℕ) (v : Value) (m : Meaning) (o : Option ℕ) → HaveFew e (suc n) (taken d at v m o t)
  few_taken d at v m None = still
  few_taken d at v meaning.Asks (Some p) = grind (arith, after_add, after_set, few_asked)
  few_taken d at v meaning.Nothing (Some p) = grind (arith, few_changed, few_meant)
  few_taken d at v meaning.Opens (Some p) = grind (arith, few_changed, few_meant)
  few_taken d at v meaning.Closes (Some p) = grind (arith, few_changed, few_meant)
  few_taken d at v (meaning.Adds end) (Some p) = search (arith, few_changed, few_meant)

-- ---- whatever passes

abbrev pub AreFew : Direction → Course → Type 0
AreFew e c = HaveFew e (length c.past) c.sessions

unit_few : (e d : Direction) (at : ℕ) (v : Value) (c : Course) → AreFew e c → AreFew e (unit_passes d at v c)
unit_few e d at v c h =
    let told = (takes (way_of d) v c.traffic).told in
    let long : length (unit_passes d at v c).past ≡ suc (length c.past) =
    (let one = length-append c.past (moment d at v c ∷ []) in let same = ap length (unit_past d at v c) in omega (arith, one, same)) in
    grind (arith, unit_joins d at v c, few_taken e (length c.past) c.sessions h d at v told.meaning told.place)

pub few_claim : (e : Direction) → IsClaim (AreFew e)
few_claim e = grind (arith, map_of, few_begun, unit_few, marked_leaves, length-append, marked_past)
