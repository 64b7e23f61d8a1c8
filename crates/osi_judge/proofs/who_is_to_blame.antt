-- A side of a connection is to blame or it is not, and a unit changes that of its own side of its own connection alone.
-- For the functions that give a unit to a connection, and for those that look whether a session broke the protocol.
use Rattle.osi_judge.proofs.Vocabulary.{◌≡◌, refl, sym, subst, ℕ, zero, suc, ◌<◌, ◌≤◌, inl, Bool, true, false, List, [], ◌∷◌, ◌++◌}
use Rattle.osi_judge.proofs.Vocabulary.{length, map, take, get_or, set, Option, Some, None, arith, take-append-le, slice_get, Seen, other}
use Rattle.osi_judge.proofs.Vocabulary.{done, IsFound, IsFew, HasRoom, broke_session, begin_of, Direction, Left, Right, Finding, Kept}
use Rattle.osi_judge.proofs.Vocabulary.{Broke, TooMany, Strays, never_strays, no_crowd, Connection, IsFoundOf, IsBlameless, IsToBlame}
use Rattle.osi_judge.proofs.Vocabulary.{AreBlameless, AreBlamelessBut, NobodyIs, NobodyElseIs, Blames, Room, Joined, Sessions, asked}
use Rattle.osi_judge.proofs.Vocabulary.{asked_at, placed, changed, packet_begins, all_begin, line_in, HoldsJoined, HoldAll, IsSession}
use Rattle.osi_judge.proofs.Vocabulary.{Observed}
use Rattle.osi_side.specs.Explaining.{Told}
use Rattle.osi_side.specs.Kept.{kept}
use Rattle.osi_side.specs.declared.findings.Finding.TheVariants.{Left as Astray}
use Rattle.osi_judge.proofs.each_connection_is_kept.{element, all_length, none_there}
use Rattle.osi_judge.proofs.what_is_kept_of_a_side_is_what_passed.{found_at, room_at}
use Rattle.osi_judge.proofs.the_session_of_a_side_is_known.{session_found, session_room}

-- ---- one thing is found of a side

module _ (begin : Seen) (us : List (List ℕ)) (said : List Told) where
  strayed : (i : ℕ) (g : Finding) → Strays begin us said i → IsFew begin us (take i said) → IsFound begin us said g
      → HasRoom begin us said g → broke_session g ≡ true
  strayed i Kept s few k r = absurd (never_strays begin us said i k s)
  strayed i (Broke j) s few k r = refl
  strayed i (Astray j) s few k r = refl
  strayed i TooMany s few k r = absurd (no_crowd begin us said i s few r)

  same_blame : (f g : Finding) → broke_session f ≡ true → IsFound begin us said f → HasRoom begin us said f → IsFound begin us said g
      → HasRoom begin us said g → broke_session g ≡ true
  same_blame f g e h r k q = grind (arith, strayed)

-- and as it says more
pub blame_stays : (begin : Seen) (us : List (List ℕ)) (said more : List Told) (f g : Finding) → broke_session f ≡ true
    → IsFound begin us said f → HasRoom begin us said f → IsFound begin us (said ++ more) g → HasRoom begin us (said ++ more) g
    → broke_session g ≡ true
blame_stays begin us said more f g e h r k q = by f e h r
  where
    on : (i : ℕ) → i < length said → Strays begin us said i → IsFew begin us (take i said) → broke_session g ≡ true
    on i l s few =
        strayed begin us (said ++ more) i g (grind (arith, take-append-le))
        (subst (λ (z : List Told). IsFew begin us z) (sym (take-append-le i said more (omega (arith, l)))) few) k q

    by : (f : Finding) → broke_session f ≡ true → IsFound begin us said f → HasRoom begin us said f → broke_session g ≡ true
    by Kept e h r = absurd (cc)
    by TooMany e h r = absurd (cc)
    by (Broke i) e h r = on i h.0.there (record { so_far = (h.0.so_far, h.1); astray = inl h.0.broke }) r
    by (Astray i) e h r = on i h.0 (record { so_far = h.1; astray = h.2 }) r

pub not_both : (d : Direction) (j : Joined) → IsToBlame d j → IsBlameless d j → ⊥
not_both d j h k = grind (arith, same_blame)

-- ---- by what is kept of the connection

pub found_of : (d : Direction) (c : Connection) (j : Joined) → HoldsJoined c j → IsFoundOf d j (line_in d c).side.finding
found_of d c j h = record { found = found_at d c j h; room = room_at d c j h }

not_true : (b : Bool) → (b ≡ true → ⊥) → b ≡ false
not_true b f = grind arith

pub broken : (d : Direction) (c : Connection) (j : Joined) → HoldsJoined c j → IsToBlame d j
    → broke_session (line_in d c).side.finding ≡ true
broken d c j h k = same_blame (begin_of d) _ _ k.finding _ k.broke k.found.found k.found.room (found_at d c j h) (room_at d c j h)

pub session_blamed : (d : Direction) (j : Joined) (w : Observed) → IsSession d j w → IsToBlame d j → broke_session w.finding ≡ true
session_blamed d j w h k =
    same_blame (begin_of d) _ _ k.finding _ k.broke k.found.found k.found.room (session_found d j w h) (session_room d j w h)

unbroken : (d : Direction) (c : Connection) (j : Joined) → HoldsJoined c j → IsBlameless d j
    → broke_session (line_in d c).side.finding ≡ false
unbroken d c j h k =
    not_true (broke_session (line_in d c).side.finding) (λ e.
    not_both d j (record { finding = (line_in d c).side.finding; found = found_of d c j h; broke = e }) k)

-- ---- both sides of all connections

one_of : (d : Direction) (j : Joined) → IsBlameless Left j × IsBlameless Right j → IsBlameless d j
one_of d j h = grind arith

both_of : (d : Direction) (j : Joined) → IsBlameless d j → IsBlameless (other d) j → IsBlameless Left j × IsBlameless Right j
both_of d j h k = grind arith

all_but : (d : Direction) (i : ℕ) (js : List Joined) → AreBlameless js → AreBlamelessBut d i js
all_but d i [] h = tt
all_but d zero (j ∷ js) h = (one_of (other d) j h.0, h.1)
all_but d (suc i) (j ∷ js) h = (h.0, all_but d i js h.1)

-- ---- a unit for a connection

record Changes (d : Direction) (i : ℕ) (js : List Joined) (f : Joined → Joined) : Type 0 where
  joined : Joined
  there : slice_get js i ≡ Some joined
  others : AreBlamelessBut d i (set js i (f joined))

changes : (d : Direction) (cs : List Connection) (js : List Joined) (i : ℕ) (c e : Connection) (f : Joined → Joined) → i < length cs
    → ((j : Joined) → HoldsJoined (get_or cs i c) j → HoldsJoined e (f j))
    → (line_in (other d) e).side.finding ≡ (line_in (other d) (get_or cs i c)).side.finding → HoldAll cs js → AreBlameless js
    → Changes d i js f
changes d [] js i c e f lt step same h b = absurd (omega arith)
changes d (x ∷ cs) [] i c e f lt step same h b = absurd h
changes d (x ∷ cs) (j ∷ js) zero c e f lt step same h b = grind (arith, found_of, unbroken, one_of (other d) j b.0)
changes d (x ∷ cs) (j ∷ js) (suc i) c e f lt step same h b = grind (arith, changes d cs js i c e f (omega arith) step same h.1 b.1)

pub one_changes : (d : Direction) (cs : List Connection) (s : Sessions) (i : ℕ) (c e : Connection) (f : Joined → Joined) → i < length cs
    → ((j : Joined) → HoldsJoined (get_or cs i c) j → HoldsJoined e (f j))
    → (line_in (other d) e).side.finding ≡ (line_in (other d) (get_or cs i c)).side.finding → HoldAll cs s.live → NobodyIs s
    → NobodyElseIs d i (changed i f s (slice_get s.live i))
one_changes d cs s i c e f lt step same h b = grind (arith, changes d cs s.live i c e f lt step same h b.live)

pub none_changes : (d : Direction) (cs : List Connection) (s : Sessions) (i : ℕ) (f : Joined → Joined) → length cs ≤ i → HoldAll cs s.live
    → NobodyIs s → NobodyElseIs d i (changed i f s (slice_get s.live i))
none_changes d cs s i f le h b = grind (arith, all_length, none_there, all_but)

-- ---- a connection is requested

one_session : (begin : Seen) (n : ℕ) → length (kept begin [] (take n [])) ≤ 4096
unfolding kept
one_session begin n = grind arith

begin_blameless : (d : Direction) (number calling : ℕ) (room : Room) → IsBlameless d (asked number calling room)
begin_blameless Left number calling room = record {
  finding = Kept;
  found = record { found = (done 0 (begin_of Left), refl); room = one_session (begin_of Left) };
  none = refl;
}
begin_blameless Right number calling room = record {
  finding = Kept;
  found = record { found = (done 0 (begin_of Right), refl); room = one_session (begin_of Right) };
  none = refl;
}

one_more : (js : List Joined) (j : Joined) → IsBlameless Left j × IsBlameless Right j → AreBlameless js → AreBlameless (js ++ j ∷ [])
one_more [] j b h = (b, tt)
one_more (i ∷ js) j b h = (h.0, one_more js j b h.1)

abbrev BothOf : Option Joined → Type 0
BothOf None = ⊥
BothOf (Some j) = IsBlameless Left j × IsBlameless Right j

at_place : (js : List Joined) (i : ℕ) (j : Joined) → slice_get js i ≡ Some j → AreBlameless js → IsBlameless Left j × IsBlameless Right j
at_place [] i j e h = absurd (cc)
at_place (x ∷ js) zero j e h = subst BothOf e h.0
at_place (x ∷ js) (suc i) j e h = at_place js i j e h.1

one_over : (js : List Joined) (i : ℕ) (j : Joined) → IsBlameless Left j × IsBlameless Right j → AreBlameless js → AreBlameless (set js i j)
one_over [] i j b h = tt
one_over (x ∷ js) zero j b h = (b, h.1)
one_over (x ∷ js) (suc i) j b h = (h.0, one_over js i j b h.1)

placed_at : (i : ℕ) (j : Joined) (s : Sessions) (o : Option Joined) → slice_get s.live i ≡ o → IsBlameless Left j × IsBlameless Right j
    → NobodyIs s → NobodyIs (placed i j s o)
placed_at i j s o e b h = grind (arith, one_more, one_over, at_place)

pub one_asked : (d : Direction) (i calling : ℕ) (s : Sessions) → NobodyIs s → NobodyElseIs d i (asked_at i calling s)
one_asked d i calling s h = grind (arith, all_but, placed_at, begin_blameless)

-- ---- a packet begins

all_begun : (e : Direction) (js : List Joined) → AreBlameless js → AreBlameless (map (packet_begins e) js)
all_begun e [] h = tt
all_begun e (j ∷ js) h = ((grind arith, grind arith), all_begun e js h.1)

pub nobody_begun : (e : Direction) (s : Sessions) → NobodyIs s → NobodyIs (all_begin e s)
nobody_begun e s h = record { live = all_begun e s.live h.live; done = h.done }

-- ---- whether the session of a side of the one at a place is to blame

nowhere : (d : Direction) (i : ℕ) (js : List Joined) → length js ≤ i → AreBlamelessBut d i js → AreBlameless js
nowhere d i [] le h = tt
nowhere d zero (j ∷ js) le h = absurd (omega arith)
nowhere d (suc i) (j ∷ js) le h = (h.0, nowhere d i js (omega arith) h.1)

pub none_blamed : (d : Direction) (cs : List Connection) (js : List Joined) (i : ℕ) → length cs ≤ i → HoldAll cs js
    → AreBlamelessBut d i js → AreBlameless js
none_blamed d cs js i le h b = let e = all_length cs js h in nowhere d i js (omega arith) b

with_one : (d : Direction) (cs : List Connection) (js : List Joined) (i : ℕ) (c : Connection) → i < length cs → HoldAll cs js
    → broke_session (line_in d (get_or cs i c)).side.finding ≡ false → AreBlamelessBut d i js → AreBlameless js
with_one d [] js i c lt h e b = absurd (omega arith)
with_one d (x ∷ cs) [] i c lt h e b = absurd h
with_one d (x ∷ cs) (j ∷ js) zero c lt h e b = grind (arith, both_of, found_of d x j h.0)
with_one d (x ∷ cs) (j ∷ js) (suc i) c lt h e b = (b.0, with_one d cs js i c (omega arith) h.1 e b.1)

pub one_blamed : (b : Bool) (d : Direction) (cs : List Connection) (js : List Joined) (i : ℕ) (c : Connection) → i < length cs
    → HoldAll cs js → broke_session (line_in d (get_or cs i c)).side.finding ≡ b → Blames b d i js
one_blamed true d cs js i c lt h e = grind (arith, found_of, element cs js i c lt h)
one_blamed false d cs js i c lt h e = with_one d cs js i c lt h e
