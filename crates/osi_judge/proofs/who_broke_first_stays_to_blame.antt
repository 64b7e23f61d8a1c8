-- The session that is told as the first to break is to blame from then on: for the functions that give a unit to a connection.
use Rattle.osi_judge.proofs.Vocabulary.{◌≡◌, ◌∙◌, refl, sym, ap, ℕ, zero, suc, ◌<◌, ◌≤◌, ◌⊎◌, inl, inr, Bool, List, [], ◌∷◌, ◌++◌, length}
use Rattle.osi_judge.proofs.Vocabulary.{map, get_or, set, Option, Some, None, arith, append-nil, slice_get, Value, other, Direction, Left}
use Rattle.osi_judge.proofs.Vocabulary.{Right, Meaning, Connection, IsToBlame, NobodyIs, NobodyElseIs, SomeIs, SomeoneIs, Joined, Sessions}
use Rattle.osi_judge.proofs.Vocabulary.{asked_at, placed, changed, packet_begins, all_begin, adds_if, meant, spoken, taken_at, source_of}
use Rattle.osi_judge.proofs.Vocabulary.{line_in, HoldsJoined, HoldAll, told, heard}
use Rattle.osi_side.specs.Explaining.{Told}
use Rattle.osi_rules.specs.declared.findings.Meaning.TheVariants as meaning
use Rattle.osi_judge.proofs.each_connection_is_kept.{all_length, none_there}
use Rattle.osi_judge.proofs.what_is_kept_of_a_side_is_what_passed.{told_more}
use Rattle.osi_judge.proofs.who_is_to_blame.{found_of, broken, blame_stays, one_asked}

-- ---- a side that is to blame stays so

-- as the other side says more
beside_blamed : (d : Direction) (c e : Connection) (j i : Joined) → HoldsJoined c j → HoldsJoined e i
    → (line_in d e).side.finding ≡ (line_in d c).side.finding → IsToBlame d j → IsToBlame d i
beside_blamed d c e j i h k same b = grind (arith, found_of, broken)

-- ---- what a unit adds to a connection

record Adds (d : Direction) (j i : Joined) : Type 0 where
  more : List Told
  says : told (spoken d i) ≡ told (spoken d j) ++ more
  hears : heard (spoken (other d) i) ≡ heard (spoken (other d) j)
  number : i.number ≡ j.number

no_more : (d : Direction) (j i : Joined) → told (spoken d i) ≡ told (spoken d j) → heard (spoken (other d) i) ≡ heard (spoken (other d) j)
    → i.number ≡ j.number → Adds d j i
no_more d j i says hears number = grind (arith, append-nil)

added_if : (b : Bool) (d : Direction) (at : ℕ) (end : Bool) (octets : List ℕ) (j : Joined)
    → Adds d j (adds_if b d at end octets j)
added_if b d at end octets j = grind (arith, told_more, no_more)

adds_by : (d : Direction) (at : ℕ) (v : Value) (m : Meaning) (j : Joined) → Adds d j (meant d at v m j)
adds_by d at v m j = grind (arith, no_more, added_if)

either_blamed : (d x : Direction) (c e : Connection) (j i : Joined) → HoldsJoined c j → HoldsJoined e i → Adds d j i
    → (line_in (other d) e).side.finding ≡ (line_in (other d) c).side.finding → IsToBlame x j → IsToBlame x i
either_blamed Left Left c e j i h k a same b = grind (arith, blame_stays, found_of Left e i k)
either_blamed Left Right c e j i h k a same b = beside_blamed Right c e j i h k same b
either_blamed Right Left c e j i h k a same b = beside_blamed Left c e j i h k same b
either_blamed Right Right c e j i h k a same b = grind (arith, blame_stays, found_of Right e i k)

-- ---- a unit for a connection

record StillSome (d : Direction) (number : Option ℕ) (i : ℕ) (js : List Joined) (f : Joined → Joined) : Type 0 where
  joined : Joined
  there : slice_get js i ≡ Some joined
  some : SomeIs d number js → SomeIs d number (set js i (f joined))

still_some : (d x : Direction) (number : Option ℕ) (cs : List Connection) (js : List Joined) (i : ℕ) (c e : Connection)
    (f : Joined → Joined) → i < length cs → ((j : Joined) → HoldsJoined (get_or cs i c) j → HoldsJoined e (f j))
    → (line_in (other d) e).side.finding ≡ (line_in (other d) (get_or cs i c)).side.finding → ((j : Joined) → Adds d j (f j))
    → HoldAll cs js → StillSome x number i js f
still_some d x number [] js i c e f lt step same a h = absurd (omega arith)
still_some d x number (y ∷ cs) [] i c e f lt step same a h = absurd h
still_some d x number (y ∷ cs) (j ∷ js) zero c e f lt step same a h = search (arith, either_blamed)
still_some d x number (y ∷ cs) (j ∷ js) (suc i) c e f lt step same a h =
    grind (arith, still_some d x number cs js i c e f (omega arith) step same a h.1)

pub still_one : (d x : Direction) (number : Option ℕ) (cs : List Connection) (s : Sessions) (i : ℕ) (c e : Connection)
    (at : ℕ) (v : Value) (m : Meaning) → i < length cs
    → ((j : Joined) → HoldsJoined (get_or cs i c) j → HoldsJoined e (meant d at v m j))
    → (line_in (other d) e).side.finding ≡ (line_in (other d) (get_or cs i c)).side.finding → HoldAll cs s.live → SomeoneIs x number s
    → SomeoneIs x number (changed i (meant d at v m) s (slice_get s.live i))
still_one d x number cs s i c e at v m lt step same h b =
    let f : Joined → Joined = meant d at v m in
    grind (arith, still_some d x number cs s.live i c e f lt step same (adds_by d at v m) h, adds_by d at v m)

pub still_none : (d : Direction) (number : Option ℕ) (cs : List Connection) (s : Sessions) (i : ℕ) (f : Joined → Joined) → length cs ≤ i
    → HoldAll cs s.live → SomeoneIs d number s → SomeoneIs d number (changed i f s (slice_get s.live i))
still_none d number cs s i f le h b = grind (arith, all_length, none_there)

-- ---- a connection is requested

some_more : (d : Direction) (number : Option ℕ) (js ks : List Joined) → SomeIs d number js → SomeIs d number (js ++ ks)
some_more d number [] ks h = absurd h
some_more d number (j ∷ js) ks h = elim h [ inl a ↦ inl a | inr r ↦ inr (some_more d number js ks r) ]

some_last : (d : Direction) (number : Option ℕ) (js : List Joined) (j : Joined) → number ≡ Some j.number → IsToBlame d j
    → SomeIs d number (js ++ j ∷ [])
some_last d number [] j e b = inl (e, b)
some_last d number (i ∷ js) j e b = inr (some_last d number js j e b)

stays_or_goes : (d : Direction) (number : Option ℕ) (js : List Joined) (i : ℕ) (j over : Joined) → slice_get js i ≡ Some over
    → SomeIs d number js → SomeIs d number (set js i j) ⊎ ((number ≡ Some over.number) × IsToBlame d over)
stays_or_goes d number [] i j over e h = absurd h
stays_or_goes d number (x ∷ js) zero j over e h = grind arith
stays_or_goes d number (x ∷ js) (suc i) j over e h = elim h [
  | inl a ↦ inl (inl a)
  | inr r ↦ elim (stays_or_goes d number js i j over e r) [ inl k ↦ inl (inr k) | inr g ↦ inr g ]
]

placed_some : (d : Direction) (number : Option ℕ) (i : ℕ) (j : Joined) (s : Sessions) (o : Option Joined) → slice_get s.live i ≡ o
    → SomeoneIs d number s → SomeoneIs d number (placed i j s o)
placed_some d number i j s None e h = elim h [ inl a ↦ inl (some_more d number s.live (j ∷ []) a) | inr r ↦ inr r ]
placed_some d number i j s (Some over) e h = elim h [
  | inl a ↦ elim (stays_or_goes d number s.live i j over e a) [
    | inl k ↦ inl k
    | inr g ↦ inr (some_last d number s.done over g.0 g.1)
  ]
  | inr r ↦ inr (some_more d number s.done (over ∷ []) r)
]

pub still_asked : (d : Direction) (number : Option ℕ) (i calling : ℕ) (s : Sessions) → SomeoneIs d number s
    → SomeoneIs d number (asked_at i calling s)
still_asked d number i calling s h = placed_some d number i _ s (slice_get s.live i) refl h

-- whether a unit asks for a connection or not
pub still_either : (d e : Direction) (number : Option ℕ) (at : ℕ) (v : Value) (m : Meaning) (i : ℕ) (s : Sessions)
    → (SomeoneIs e number s → SomeoneIs e number (changed i (meant d at v m) s (slice_get s.live i))) → SomeoneIs e number s
    → SomeoneIs e number (taken_at d at v m i s)
still_either d e number at v meaning.Asks i s f h = still_asked e number i (source_of v) s h
still_either d e number at v meaning.Opens i s f h = f h
still_either d e number at v meaning.Closes i s f h = f h
still_either d e number at v (meaning.Adds end) i s f h = f h
still_either d e number at v meaning.Nothing i s f h = f h

pub else_either : (d : Direction) (at : ℕ) (v : Value) (m : Meaning) (i : ℕ) (s : Sessions)
    → (NobodyIs s → NobodyElseIs d i (changed i (meant d at v m) s (slice_get s.live i))) → NobodyIs s
    → NobodyElseIs d i (taken_at d at v m i s)
else_either d at v meaning.Asks i s f h = one_asked d i (source_of v) s h
else_either d at v meaning.Opens i s f h = f h
else_either d at v meaning.Closes i s f h = f h
else_either d at v (meaning.Adds end) i s f h = f h
else_either d at v meaning.Nothing i s f h = f h

-- ---- a packet begins

some_begun : (e d : Direction) (number : Option ℕ) (js : List Joined) → SomeIs d number js → SomeIs d number (map (packet_begins e) js)
some_begun e d number [] h = absurd h
some_begun e d number (j ∷ js) h = elim h [
  | inl a ↦ inl (a.0 ∙ ap Some (sym (grind arith)), grind arith)
  | inr r ↦ inr (some_begun e d number js r)
]

pub still_begun : (e d : Direction) (number : Option ℕ) (s : Sessions) → SomeoneIs d number s → SomeoneIs d number (all_begin e s)
still_begun e d number s h = elim h [ inl a ↦ inl (some_begun e d number s.live a) | inr r ↦ inr r ]

-- ---- the one that is told

some_at : (d : Direction) (number : Option ℕ) (i : ℕ) (js : List Joined) (j : Joined) → slice_get js i ≡ Some j → number ≡ Some j.number
    → IsToBlame d j → SomeIs d number js
some_at d number i [] j e n b = absurd (cc)
some_at d number zero (x ∷ js) j e n b = grind arith
some_at d number (suc i) (x ∷ js) j e n b = inr (some_at d number i js j e n b)

pub told_some : (d : Direction) (number : Option ℕ) (i : ℕ) (s : Sessions) (j : Joined) → slice_get s.live i ≡ Some j
    → number ≡ Some j.number → IsToBlame d j → SomeoneIs d number s
told_some d number i s j e n b = inl (some_at d number i s.live j e n b)
