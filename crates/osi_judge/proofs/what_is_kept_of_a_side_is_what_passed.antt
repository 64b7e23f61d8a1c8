-- What is kept of both sides of a connection stays what passed of them, as DTs pass and TSDUs are handed over: for what is
-- kept of a connection.
use Rattle.osi_judge.proofs.Vocabulary.{◌≡◌, ◌∙◌, refl, sym, ap, subst, ℕ, zero, suc, List, [], ◌∷◌, ◌++◌, length, Bool, true, false}
use Rattle.osi_judge.proofs.Vocabulary.{Some, arith, append-nil, map-append, length-map, Seen, Tells, last_place, Finding, Kept, Observed}
use Rattle.osi_judge.proofs.Vocabulary.{Observes, FoundNext, IsFound, HasRoom, outline, outlines, Stage, Between, Within, Unheard}
use Rattle.osi_judge.proofs.Vocabulary.{seen_calling, seen_called, other, begin_of, Direction, Left, Right, Connection, Line, Joined}
use Rattle.osi_judge.proofs.Vocabulary.{adds_all, spoken, lined, line_in, HoldsJoined, IsHeard, Spoken, told, told_of, heard, begun_octets}
use Rattle.osi_judge.proofs.Vocabulary.{begun_before, before, added, Said, place_in, Lined, unheard, unheard_at, begun_in, is_unheard}
use Rattle.osi_judge.proofs.Vocabulary.{IsPlace, Holds, HoldsBoth, hears, found_as, room_as, found_of_tsdus, room_of_tsdus}
use Rattle.osi_side.specs.Explaining.{Told}

pub flipped : {s t : Seen} {own other : Lined} {a b : Spoken} → HoldsBoth s t own other a b → HoldsBoth t s other own b a
flipped h = record { this = h.that; that = h.this }

-- ---- a part of a TSDU

-- what is kept of the unfinished TSDU of a side is what passed of it
pub begun_holds : (s : Seen) (own other : Lined) (a b : Spoken) → is_unheard own.stage ≡ false → Holds s own other a b
    → own.begun ≡ begun_octets a.begun
begun_holds s own other a b e h = grind arith

pub heard_by_other : (s t : Seen) (own other : Lined) (a b : Spoken) → is_unheard own.stage ≡ false → HoldsBoth s t own other a b
    → other.side.heard ≡ outlines (heard a)
heard_by_other s t own other a b e h = grind (arith, append-nil)

pub part_added : (s t : Seen) (own new other : Lined) (a b : Spoken) (at since : ℕ) (octets : List ℕ) → is_unheard own.stage ≡ false
    → since ≡ begun_before (begun_in own) own.since → new ≡ record own { begun = own.begun ++ octets; stage = Within; begun_since = since }
    → HoldsBoth s t own other a b → HoldsBoth s t new other (added at false octets a) b
part_added s t own new other a b at since octets e since_is is h = grind (arith, begun_holds, append-nil, heard_by_other)

-- ---- the packet of a break

place_stays : (said : List Said) (t : Said) (i at : ℕ) → place_in said i ≡ Some at → place_in (said ++ t ∷ []) i ≡ Some at
place_stays [] t i at h = absurd (cc)
place_stays (x ∷ said) t zero at h = h
place_stays (x ∷ said) t (suc i) at h = place_stays said t i at h

place_here : (said : List Said) (t : Said) (i : ℕ) → i ≡ length said → place_in (said ++ t ∷ []) i ≡ Some t.at
place_here [] t zero e = refl
place_here [] t (suc i) e = absurd (omega arith)
place_here (x ∷ said) t zero e = absurd (omega arith)
place_here (x ∷ said) t (suc i) e = place_here said t i (omega arith)

place_next : (f g : Finding) (count last : ℕ) (said : List Said) (t : Said) → FoundNext f count g → (f ≡ Kept → count ≡ length said)
    → IsPlace f said last → IsPlace g (said ++ t ∷ []) (last_place f t.at last)
place_next f g count last said t n c h = grind (arith, place_here, place_stays)

count_said : (w : Observed) (a : Spoken) → w.finding ≡ Kept → Observes w (told a) → w.told ≡ length a.said
count_said w a e h = grind (arith, length-map)

-- ---- the end of a TSDU

pub told_more : (a : Spoken) (at : ℕ) (octets : List ℕ)
    → told (added at true octets a) ≡ told a ++ record { octets = begun_octets a.begun ++ octets; before = before a } ∷ []
told_more a at octets = map-append told_of a.said (record { octets = begun_octets a.begun ++ octets; before = before a; at = at } ∷ [])

pub heard_more : (a : Spoken) (at : ℕ) (octets : List ℕ)
    → outlines (heard (added at true octets a)) ≡ outlines (heard a) ++ outline (begun_octets a.begun ++ octets) ∷ []
heard_more a at octets = grind (arith, map-append)

pub end_added : (s t : Seen) (own new other : Lined) (a b : Spoken) (at since : ℕ) (w : Observed) (octets : List ℕ)
    → is_unheard own.stage ≡ false → since ≡ begun_before (begun_in own) own.since
    → new ≡ record own { side = w; begun = own.begun ++ octets; stage = Unheard; last = last_place own.side.finding at own.last }
    → Tells (own.begun ++ octets) since own.side w → HoldsBoth s t own other a b → HoldsBoth s t new other (added at true octets a) b
end_added s t own new other a b at since w octets e since_is is tells h =
    let same = begun_holds s own other a b e h.this in
    subst (λ (z : Lined). HoldsBoth s t z other (added at true octets a) b) (sym is) (record {
      this = record {
        begins_so = tells.begin ∙ h.this.begins_so;
        says = grind (arith, told_more);
        hears = ap (λ (z : List (List ℕ)). z ++ unheard other) tells.heard ∙ h.this.hears;
        unfinished = refl;
        clear = tt;
        known = h.this.known;
        place = place_next own.side.finding w.finding own.side.told own.last a.said
            (record { octets = begun_octets a.begun ++ octets; before = before a; at = at }) tells.finding
            (λ kept. count_said own.side a kept h.this.says) h.this.place;
      };
      that = grind (arith, hears, heard_by_other s t own other a b e h, heard_more a at octets);
    })

-- ---- what is found of a session is right

-- a session to which the last TSDU of the other side has not been handed over is found so all the same
given_all : (w : Observed) (stage : Stage) (octets : List ℕ) (said : List Told) → Observes w said
    → Observes (record w { heard = w.heard ++ unheard_at stage octets }) said
given_all w Between octets said h = subst (λ (x : List (List ℕ)). Observes (record w { heard = x }) said) (sym (append-nil w.heard)) h
given_all w Within octets said h = subst (λ (x : List (List ℕ)). Observes (record w { heard = x }) said) (sym (append-nil w.heard)) h
given_all w Unheard octets said h = hears w (outline octets) said h

found_in : (s : Seen) (own other : Lined) (a b : Spoken) → Holds s own other a b → IsFound s (heard b) (told a) own.side.finding
found_in s own other a b h =
    subst (λ (z : Seen). IsFound z (heard b) (told a) own.side.finding) h.begins_so
    (found_of_tsdus own.side.begin (heard b) (told a) own.side.finding
    (subst (λ (x : List (List ℕ)). IsFound own.side.begin x (told a) own.side.finding) h.hears
    (found_as (record own.side { heard = own.side.heard ++ unheard other }) (told a)
    (given_all own.side other.stage other.begun (told a) h.says))))

pub found_at : (d : Direction) (c : Connection) (j : Joined) → HoldsJoined c j
    → IsFound (begin_of d) (heard (spoken (other d) j)) (told (spoken d j)) (line_in d c).side.finding
found_at Left c j h = found_in seen_calling (lined c.left) (lined c.right) j.left j.right h.sides.this
found_at Right c j h = found_in seen_called (lined c.right) (lined c.left) j.right j.left h.sides.that

room_in : (s : Seen) (own other : Lined) (a b : Spoken) → Holds s own other a b → HasRoom s (heard b) (told a) own.side.finding
room_in s own other a b h =
    subst (λ (z : Seen). HasRoom z (heard b) (told a) own.side.finding) h.begins_so
    (room_of_tsdus (heard b) own.side.begin (told a) own.side.finding
    (subst (λ (x : List (List ℕ)). HasRoom own.side.begin x (told a) own.side.finding) h.hears
    (room_as (record own.side { heard = own.side.heard ++ unheard other }) (told a)
    (given_all own.side other.stage other.begun (told a) h.says))))

pub room_at : (d : Direction) (c : Connection) (j : Joined) → HoldsJoined c j
    → HasRoom (begin_of d) (heard (spoken (other d) j)) (told (spoken d j)) (line_in d c).side.finding
room_at Left c j h = room_in seen_calling (lined c.left) (lined c.right) j.left j.right h.sides.this
room_at Right c j h = room_in seen_called (lined c.right) (lined c.left) j.right j.left h.sides.that

-- the session of a side has heard all that the other side said
pub heard_at : (d : Direction) (c : Connection) (j : Joined) → HoldsJoined c j → IsHeard c
    → (line_in d c).side.heard ≡ outlines (heard (spoken (other d) j))
heard_at Left c j h k = heard_by_other seen_called seen_calling (lined c.right) (lined c.left) j.right j.left k.right (flipped h.sides)
heard_at Right c j h k = heard_by_other seen_calling seen_called (lined c.left) (lined c.right) j.left j.right k.left h.sides

-- ---- a DT on a connection

pub left_added : (d : Direction) (c : Connection) (own other : Line) (j : Joined) (at : ℕ) (end : Bool) (octets : List ℕ) → d ≡ Left
    → HoldsJoined c j → HoldsBoth seen_calling seen_called (lined own) (lined other) (added at end octets j.left) j.right
    → HoldsJoined (record c { left = own; right = other }) (adds_all d at end octets j)
left_added d c own other j at end octets e h k = grind arith

pub right_added : (d : Direction) (c : Connection) (own other : Line) (j : Joined) (at : ℕ) (end : Bool) (octets : List ℕ) → d ≡ Right
    → HoldsJoined c j → HoldsBoth seen_called seen_calling (lined own) (lined other) (added at end octets j.right) j.left
    → HoldsJoined (record c { left = other; right = own }) (adds_all d at end octets j)
right_added d c own other j at end octets e h k = grind (arith, flipped)
