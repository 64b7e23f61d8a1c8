-- No two connections of a capture have one number, as long as there are fewer than 2^64 - 1. So the session that is to blame is on the
-- connection that is found: for the last line.
use Rattle.osi_report.proofs.Vocabulary.{◌≡◌, ◌∙◌, refl, sym, ap, ℕ, zero, suc, ◌+◌, ◌-◌, ◌^◌, ◌<◌, ◌≤◌, ◌==◌, Bool, true, false, cond}
use Rattle.osi_report.proofs.Vocabulary.{if◌then◌else◌, List, [], ◌∷◌, ◌++◌, length, map, set, Option, Some, None, Result, Ok, Err, arith}
use Rattle.osi_report.proofs.Vocabulary.{◌⊎◌, inl, inr, eq-eqb, eqb-true, length-append, length-map, length-set, find, slice_get, Meaning}
use Rattle.osi_report.proofs.Vocabulary.{Reach, units_of, Value, TpduFault, offset_of, Capture, of, Direction, Right, Cause, BadUnit}
use Rattle.osi_report.proofs.Vocabulary.{BadPacket, Mark, IsToBlame, SomeIs, SomeoneIs, Joined, Sessions, count, numbered, has_number}
use Rattle.osi_report.proofs.Vocabulary.{asked_at, changed, packet_begins, meant, taken, taken_at, source_of, Course, marked, reached}
use Rattle.osi_report.proofs.Vocabulary.{noted_by, unit_passes, units_pass, unread, packet_by, Front, partial, faulty, whole}
use Rattle.osi_report.proofs.Vocabulary.{Streamed, counted, gathered, State, stream_of, with_stream, looked_at, begun, octet_passes}
use Rattle.osi_report.proofs.Vocabulary.{begin_within, after, looks, subst, Room, IsReached}
use Rattle.osi_rules.specs.declared.findings.Meaning.TheVariants as meaning
use Rattle.osi_rules.specs.declared.findings.Told.{Told}
use Rattle.osi_side.specs.declared.directions.Direction.TheVariants.{Left}

-- ---- how many have a number

abbrev one : Bool → ℕ
one b = cond b 1 0

abbrev having : ℕ → List Joined → ℕ
having n [] = 0
having n (j ∷ js) = one (j.number == n) + having n js

abbrev all_having : ℕ → Sessions → ℕ
all_having n s = having n s.live + having n s.done

having_more : (n : ℕ) (js : List Joined) (j : Joined) → having n (js ++ j ∷ []) ≡ having n js + one (j.number == n)
having_more n [] j = omega arith
having_more n (i ∷ js) j = let h = having_more n js j in omega (arith, h)

having_both : (n : ℕ) (js ks : List Joined) → having n (js ++ ks) ≡ having n js + having n ks
having_both n [] ks = omega arith
having_both n (j ∷ js) ks = let h = having_both n js ks in omega (arith, h)

-- one takes the place of another
having_set : (n i : ℕ) (js : List Joined) (j k : Joined) → slice_get js i ≡ Some k
    → having n (set js i j) + one (k.number == n) ≡ having n js + one (j.number == n)
having_set n i [] j k e = absurd (cc)
having_set n zero (x ∷ js) j k e = grind arith
having_set n (suc i) (x ∷ js) j k e = let h = having_set n i js j k e in omega (arith, h)

having_map : (n : ℕ) (d : Direction) (js : List Joined) → having n (map (packet_begins d) js) ≡ having n js
having_map n d [] = refl
having_map n Left (j ∷ js) = let h = having_map n Left js in omega (arith, h)
having_map n Right (j ∷ js) = let h = having_map n Right js in omega (arith, h)

-- ---- each number is of one connection, and lower than their count

record AreOwn (s : Sessions) : Type 0 where
  once : (n : ℕ) → all_having n s ≤ 1
  none : (n : ℕ) → count s ≤ n → all_having n s ≡ 0

-- as long as there are few
abbrev IsOwn : Sessions → Type 0
IsOwn s = count s < 2 ^ 64 - 1 → AreOwn s

same_own : (s t : Sessions) → count t ≡ count s → ((n : ℕ) → all_having n t ≡ all_having n s) → IsOwn s → IsOwn t
same_own s t c e h few = grind arith

few_offset : (n : ℕ) → n < 2 ^ 64 - 1 → offset_of n ≡ n
few_offset n h = omega arith

once_by : (b : Bool) (m n all more : ℕ) → (m == n) ≡ b → all ≤ 1 → (m ≤ n → all ≡ 0) → more ≡ all + one (m == n) → more ≤ 1
once_by b m n all more e le h k = grind (arith, eqb-true)

none_by : (b : Bool) (m n : ℕ) → (m == n) ≡ b → m < n → one (m == n) ≡ 0
none_by b m n e lt = grind (arith, eqb-true)

-- ---- a unit

asked_own : (i calling : ℕ) (s : Sessions) → IsOwn s → IsOwn (asked_at i calling s)
asked_own i calling s h = grind (arith, few_offset, once_by, none_by, length-append, length-set, having_more, having_set)

changed_count : (i : ℕ) (f : Joined → Joined) (s : Sessions) (o : Option Joined) → count (changed i f s o) ≡ count s
changed_count i f s o = grind (arith, length-set)

changed_having : (n i : ℕ) (f : Joined → Joined) (s : Sessions) (o : Option Joined) → ((j : Joined) → (f j).number ≡ j.number)
    → slice_get s.live i ≡ o → all_having n (changed i f s o) ≡ all_having n s
changed_having n i f s None number e = refl
changed_having n i f s (Some j) number e = grind (arith, having_set n i s.live (f j) j e)

meant_own : (d : Direction) (at : ℕ) (v : Value) (m : Meaning) (i : ℕ) (s : Sessions) → IsOwn s
    → IsOwn (changed i (meant d at v m) s (slice_get s.live i))
meant_own d at v m i s h = grind (arith, same_own, changed_count, changed_having)

place_own : (d : Direction) (at : ℕ) (v : Value) (m : Meaning) (i : ℕ) (s : Sessions) → IsOwn s → IsOwn (taken_at d at v m i s)
place_own d at v meaning.Asks i s h = asked_own i (source_of v) s h
place_own d at v meaning.Opens i s h = meant_own d at v meaning.Opens i s h
place_own d at v meaning.Closes i s h = meant_own d at v meaning.Closes i s h
place_own d at v (meaning.Adds end) i s h = meant_own d at v (meaning.Adds end) i s h
place_own d at v meaning.Nothing i s h = meant_own d at v meaning.Nothing i s h

taken_own : (d : Direction) (at : ℕ) (v : Value) (m : Meaning) (place : Option ℕ) (s : Sessions) → IsOwn s
    → IsOwn (taken d at v m place s)
taken_own d at v m None s h = h
taken_own d at v m (Some i) s h = place_own d at v m i s h

-- ---- a packet

reached_own : (m : Mark) (r : Reach) (c : Course) → IsOwn c.sessions → IsOwn (reached m r c).sessions
reached_own m r c h = grind arith

marked_own : (m : Mark) (r : Reach) (c : Course) → IsOwn c.sessions → IsOwn (marked m r c).sessions
marked_own m r c h = grind (arith, reached_own)

noted_own : (d : Direction) (at : ℕ) (v : Value) (told : Told) (o : Option Cause) (c : Course) → IsOwn c.sessions
    → IsOwn (noted_by d at v told o c).sessions
noted_own d at v told o c h = grind (arith, marked_own)

units_own : (d : Direction) (at : ℕ) (vs : List Value) (c : Course) → IsOwn c.sessions → IsOwn (units_pass d at vs c).sessions
units_own d at [] c h = h
units_own d at (v ∷ vs) c h = units_own d at vs (unit_passes d at v c) (search (arith, noted_own, taken_own))

unread_own : (d : Direction) (at : ℕ) (cause : Cause) (c : Course) → IsOwn c.sessions → IsOwn (unread d at cause c).sessions
unread_own d at cause c h = grind (arith, marked_own)

read_own : (d : Direction) (at : ℕ) (read : Result (List Value) TpduFault) (c : Course) → IsOwn c.sessions
    → IsOwn (packet_by d at read c).sessions
read_own d at (Ok vs) c h = units_own d at vs c h
read_own d at (Err fault) c h = unread_own d at (BadUnit fault) c h

-- ---- octets

looked_own : (d : Direction) (t : Streamed) (f : Front) (s : State) → IsOwn s.course.sessions
    → IsOwn (looked_at d t f s).course.sessions
looked_own d t partial s h = grind arith
looked_own Left t (faulty fault) s h = unread_own Left t.at (BadPacket fault) s.course h
looked_own Right t (faulty fault) s h = unread_own Right t.at (BadPacket fault) s.course h
looked_own Left t (whole unit) s h = read_own Left t.at (units_of unit) s.course h
looked_own Right t (whole unit) s h = read_own Right t.at (units_of unit) s.course h

begun_own : (d : Direction) (held : List ℕ) (s : State) → IsOwn s.course.sessions → IsOwn (begun d held s).course.sessions
begun_own d [] s h = grind (arith, length-map, same_own, having_map)
begun_own d (o ∷ held) s h = h

octet_by : (b : Bool) (d : Direction) (os : List ℕ) (s : State) → IsOwn s.course.sessions
    → IsOwn (if b then with_stream d (counted (length os) (stream_of d s)) s
    else looks d (gathered os (stream_of d s)) (begun d (stream_of d s).held s)).course.sessions
octet_by true d os s h = grind arith
octet_by false d os s h = search (arith, looked_own, begun_own)

after_own : (capture : Capture) (s : State) → IsOwn s.course.sessions → IsOwn (after capture s).course.sessions
after_own [] s h = h
after_own (of d o ∷ capture) s h =
    after_own capture (octet_passes (of d o) s) (octet_by (stream_of d s).spent d (o ∷ []) s h)

-- ---- the one that is to blame

some_more : (d : Direction) (number : Option ℕ) (js ks : List Joined) → SomeIs d number js → SomeIs d number (js ++ ks)
some_more d number [] ks h = absurd h
some_more d number (j ∷ js) ks h = elim h [ inl a ↦ inl a | inr r ↦ inr (some_more d number js ks r) ]

some_after : (d : Direction) (number : Option ℕ) (js ks : List Joined) → SomeIs d number ks → SomeIs d number (js ++ ks)
some_after d number [] ks h = h
some_after d number (j ∷ js) ks h = inr (some_after d number js ks h)

some_among : (d : Direction) (number : Option ℕ) (s : Sessions) → SomeoneIs d number s → SomeIs d number (s.live ++ s.done)
some_among d number s h = elim h [ inl a ↦ some_more d number s.live s.done a | inr r ↦ some_after d number s.live s.done r ]

same_some : (n m : ℕ) → Some n ≡ Some m → n ≡ m
same_some n m e = cc

has_it : (n : ℕ) (j : Joined) → Some n ≡ Some j.number → one (j.number == n) ≡ 1
has_it n j e = ap (λ (m : ℕ). one (m == n)) (sym (same_some n j.number e)) ∙ (grind (arith, eq-eqb))

some_having : (d : Direction) (n : ℕ) (js : List Joined) → SomeIs d (Some n) js → 1 ≤ having n js
some_having d n [] h = absurd h
some_having d n (j ∷ js) h = elim h [
  | inl a ↦ (let k = has_it n j a.0 in omega (arith, k))
  | inr r ↦ (let k = some_having d n js r in omega (arith, k))
]

-- it is found by its number
abbrev Found : Direction → Option Joined → Type 0
Found d o = (j : Joined) × (o ≡ Some j) × IsToBlame d j

found_by : (b : Bool) (d : Direction) (n : ℕ) (j : Joined) (js : List Joined) → (j.number == n) ≡ b → having n (j ∷ js) ≤ 1
    → ((Some n ≡ Some j.number) × IsToBlame d j) ⊎ SomeIs d (Some n) js
    → (having n js ≤ 1 → SomeIs d (Some n) js → Found d (find (has_number n) js)) → Found d (cond b (Some j) (find (has_number n) js))
found_by b d n j js e le h k = grind (arith, some_having, has_it)

found_in : (d : Direction) (n : ℕ) (js : List Joined) → having n js ≤ 1 → SomeIs d (Some n) js → Found d (find (has_number n) js)
found_in d n [] le h = absurd h
found_in d n (j ∷ js) le h = found_by (j.number == n) d n j js refl le h (found_in d n js)

within_own : (room : Room) (capture : Capture) → IsOwn (after capture (begin_within room)).course.sessions
within_own room capture = after_own capture (begin_within room) (grind arith)

state_own : (s : State) → IsReached s → IsOwn s.course.sessions
state_own s r = subst (λ (x : State). IsOwn x.course.sessions) (sym r.is) (within_own r.room r.capture)

pub found_blamed : (s : State) (d : Direction) (n : ℕ) → IsReached s → count s.course.sessions < 2 ^ 64 - 1
    → SomeoneIs d (Some n) s.course.sessions → (j : Joined) × (numbered n s.course.sessions ≡ Some j) × IsToBlame d j
found_blamed s d n r few h =
    let all = s.course.sessions in
    grind (arith, found_in, state_own s r few, having_both n all.live all.done, some_among d (Some n) all h)

-- no session is to blame whose connection has no number
pub none_blamed : (d : Direction) (js : List Joined) → SomeIs d None js → ⊥
none_blamed d [] h = absurd h
none_blamed d (j ∷ js) h = elim h [ inl a ↦ no_number j.number a.0 | inr r ↦ none_blamed d js r ]
  where
    no_number : (n : ℕ) → None ≡ Some n → ⊥
    no_number n e = cc

pub nobody_blamed : (d : Direction) (s : Sessions) → SomeoneIs d None s → ⊥
nobody_blamed d s h = elim h [ inl a ↦ none_blamed d s.live a | inr r ↦ none_blamed d s.done r ]
