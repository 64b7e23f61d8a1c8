-- What is kept of the connections stays what passed of them, as one is changed, added or given up, and as all begin a packet:
-- for the connections of a byte connection.
use Rattle.osi_judge.proofs.Vocabulary.{◌≡◌, ℕ, zero, suc, ◌+◌, ◌<◌, ◌≤◌, List, [], ◌∷◌, ◌++◌, length, take, drop, map, get_or, set, arith}
use Rattle.std.specs.Borrow.{Bor}
use Rattle.osi_judge.proofs.Vocabulary.{refl, ap, sym, Option, Some, None, add-one, cond, ◌==◌, find-append, find, option_map, option_or}
use Rattle.osi_judge.proofs.Vocabulary.{subst, number_of, slice_get, Connection, Past, Found, Room, Joined, Sessions, asked, changed}
use Rattle.osi_judge.proofs.Vocabulary.{placed, has_number, option_copied, numbered, HoldsJoined, HoldsFound, HoldAll, HoldsPast}
use Rattle.osi_judge.proofs.Vocabulary.{HoldsPastOf, AllPast, Placed, Replaced}

pub all_length : (cs : List Connection) (js : List Joined) → HoldAll cs js → length cs ≡ length js
all_length [] [] h = refl
all_length [] (j ∷ js) h = absurd h
all_length (c ∷ cs) [] h = absurd h
all_length (c ∷ cs) (j ∷ js) h = ap suc (all_length cs js h.1)

pub all_more : (cs : List Connection) (js : List Joined) (c : Connection) (j : Joined) → HoldAll cs js → HoldsJoined c j
    → HoldAll (cs ++ c ∷ []) (js ++ j ∷ [])
all_more [] [] c j h e = (e, tt)
all_more [] (i ∷ js) c j h e = absurd h
all_more (d ∷ cs) [] c j h e = absurd h
all_more (d ∷ cs) (i ∷ js) c j h e = (h.0, all_more cs js c j h.1 e)

-- ---- those that are over

pub past_length : (ps : List Past) (js : List Joined) → AllPast ps js → length ps ≡ length js
past_length [] [] h = refl
past_length [] (j ∷ js) h = absurd h
past_length (p ∷ ps) [] h = absurd h
past_length (p ∷ ps) (j ∷ js) h = ap suc (past_length ps js h.1)

past_more : (ps : List Past) (js : List Joined) (p : Past) (j : Joined) → AllPast ps js → HoldsPast p j
    → AllPast (ps ++ p ∷ []) (js ++ j ∷ [])
past_more [] [] p j h e = (e, tt)
past_more [] (i ∷ js) p j h e = absurd h
past_more (q ∷ ps) [] p j h e = absurd h
past_more (q ∷ ps) (i ∷ js) p j h e = (h.0, past_more ps js p j h.1 e)

-- what is kept of the one at a place
pub past_at : (cs : List Connection) (js : List Joined) (i : ℕ) (c : Connection) (p : Past) → i < length cs
    → ((j : Joined) → HoldsJoined (get_or cs i c) j → HoldsPast p j) → HoldAll cs js → HoldsPastOf p (slice_get js i)
past_at [] js i c p lt step h = absurd (omega arith)
past_at (d ∷ cs) [] i c p lt step h = absurd h
past_at (d ∷ cs) (j ∷ js) zero c p lt step h = step j h.0
past_at (d ∷ cs) (j ∷ js) (suc i) c p lt step h = past_at cs js i c p (omega arith) step h.1

-- ---- those that have a place

-- the one at a place, and the list after it is changed
pub record HasElement (cs : List Connection) (js : List Joined) (i : ℕ) (c : Connection) : Type 0 where
  pub joined : Joined
  pub there : slice_get js i ≡ Some joined
  pub holds : HoldsJoined c joined
  pub next : (d : Connection) (j : Joined) → HoldsJoined d j → HoldAll (set cs i d) (set js i j)

pub element : (cs : List Connection) (js : List Joined) (i : ℕ) (c : Connection) → i < length cs → HoldAll cs js
    → HasElement cs js i (get_or cs i c)
element [] js i c lt h = absurd (omega arith)
element (c ∷ cs) [] i d lt h = absurd h
element (c ∷ cs) (j ∷ js) zero d lt h = record { joined = j; there = refl; holds = h.0; next = λ e k holds. (holds, h.1) }
element (c ∷ cs) (j ∷ js) (suc i) d lt h = grind (arith, element cs js i d (omega arith) h.1)

-- one of them is changed
pub one_changed : (cs : List Connection) (ps : List Past) (s : Sessions) (i : ℕ) (c d : Connection) (f : Joined → Joined) → i < length cs
    → ((j : Joined) → HoldsJoined (get_or cs i c) j → HoldsJoined d (f j)) → HoldAll cs s.live → AllPast ps s.done
    → HoldAll (set cs i d) (changed i f s (slice_get s.live i)).live × AllPast ps (changed i f s (slice_get s.live i)).done
one_changed cs ps s i c d f lt step live done = grind (arith, set, element cs s.live i c lt live)

pub none_there : (js : List Joined) (i : ℕ) → length js ≤ i → slice_get js i ≡ None
none_there [] i le = refl
none_there (j ∷ js) zero le = absurd (omega arith)
none_there (j ∷ js) (suc i) le = none_there js i (omega arith)

-- none is at a place beyond them
pub none_changed : (cs : List Connection) (ps : List Past) (s : Sessions) (i : ℕ) (f : Joined → Joined) → length cs ≤ i
    → HoldAll cs s.live → AllPast ps s.done
    → HoldAll cs (changed i f s (slice_get s.live i)).live × AllPast ps (changed i f s (slice_get s.live i)).done
none_changed cs ps s i f le live done = grind (arith, all_length, none_there)

-- one more is requested, at a place of its own
pub one_more : (cs : List Connection) (ps : List Past) (s : Sessions) (i : ℕ) (c : Connection) (j : Joined) → length cs ≤ i
    → HoldsJoined c j → HoldAll cs s.live → AllPast ps s.done
    → HoldAll (cs ++ c ∷ []) (placed i j s (slice_get s.live i)).live × AllPast ps (placed i j s (slice_get s.live i)).done
one_more cs ps s i c j le holds live done = grind (arith, all_length, none_there, all_more)

-- one more is requested, and gets the place of another, of which this is kept
pub one_replaced : (cs : List Connection) (ps : List Past) (s : Sessions) (i : ℕ) (c d : Connection) (p : Past) (j : Joined) → i < length cs
    → HoldsJoined d j → HoldsPastOf p (slice_get s.live i) → HoldAll cs s.live → AllPast ps s.done
    → HoldAll (set cs i d) (placed i j s (slice_get s.live i)).live × AllPast (ps ++ p ∷ []) (placed i j s (slice_get s.live i)).done
one_replaced cs ps s i c d p j lt holds past live done = grind (arith, set, past_more, element cs s.live i c lt live)

-- how much is judged of each stays

pub room_changed : (i : ℕ) (f : Joined → Joined) (s : Sessions) (o : Option Joined) (room : Room) → room ≡ s.room
    → room ≡ (changed i f s o).room
room_changed i f s o room e = grind arith

pub room_placed : (i : ℕ) (j : Joined) (s : Sessions) (o : Option Joined) (room : Room) → room ≡ s.room → room ≡ (placed i j s o).room
room_placed i j s o room e = grind arith

-- what is judged of one that is requested is what is judged of each
pub asked_so : (c : Connection) (n m calling : ℕ) (room judged : Room) → n ≡ m → room ≡ judged → HoldsJoined c (asked n calling room)
    → HoldsJoined c (asked m calling judged)
asked_so c n m calling room judged e is h = grind arith

-- ---- a packet begins for each in turn

step_at : (f : Joined → Joined) (cs : List Connection) (js : List Joined) (i : ℕ) (d new : Connection) → i < length cs
    → HoldAll cs (map f (take i js) ++ drop i js) → ((j : Joined) → HoldsJoined (get_or cs i d) j → HoldsJoined new (f j))
    → HoldAll (set cs i new) (map f (take (suc i) js) ++ drop (suc i) js)
step_at f [] js i d new lt h step = absurd (omega arith)
step_at f (c ∷ cs) [] zero d new lt h step = absurd h
step_at f (c ∷ cs) [] (suc i) d new lt h step = absurd h
step_at f (c ∷ cs) (j ∷ js) zero d new lt h step = (step j h.0, h.1)
step_at f (c ∷ cs) (j ∷ js) (suc i) d new lt h step = (h.0, step_at f cs js i d new (omega arith) h.1 step)

pub begun_step : (f : Joined → Joined) (cs : List Connection) (js : List Joined) (i : ℕ) (d new : Connection) → i < length cs
    → HoldAll cs (map f (take i js) ++ drop i js) → ((j : Joined) → HoldsJoined (get_or cs i d) j → HoldsJoined new (f j))
    → HoldAll (set cs i new) (map f (take (i + 1) js) ++ drop (i + 1) js)
begun_step f cs js i d new lt h step = grind (arith, set, add-one, step_at f cs js i d new lt h step)

all_taken : (f : Joined → Joined) (js : List Joined) (n : ℕ) → n ≡ length js → map f (take n js) ++ drop n js ≡ map f js
all_taken f [] zero e = refl
all_taken f [] (suc n) e = absurd (omega arith)
all_taken f (j ∷ js) zero e = absurd (omega arith)
all_taken f (j ∷ js) (suc n) e = ap (λ (l : List Joined). f j ∷ l) (all_taken f js n (omega arith))

pub begun_all : (f : Joined → Joined) (cs ds : List Connection) (js : List Joined) (n : ℕ) → n ≡ length cs → HoldAll cs js
    → HoldAll ds (map f (take n js) ++ drop n js) → HoldAll ds (map f js)
begun_all f cs ds js n e before h = grind (arith, all_length, all_taken)

-- ---- the number of one

pub number_there : (cs : List Connection) (js : List Joined) (i : ℕ) (c : Connection) → i < length cs → HoldAll cs js
    → Some (get_or cs i c).number ≡ option_map number_of (slice_get js i)
number_there cs js i c lt h = grind (arith, element cs js i c lt h)

pub number_nowhere : (cs : List Connection) (js : List Joined) (i : ℕ) → length cs ≤ i → HoldAll cs js
    → None ≡ option_map number_of (slice_get js i)
number_nowhere cs js i le h = let e = all_length cs js h in ap (option_map number_of) (sym (none_there js i (omega arith)))

-- one of them changes, and stays what passed of it
pub one_kept : (cs : List Connection) (js : List Joined) (i : ℕ) (c d : Connection) → i < length cs
    → ((j : Joined) → HoldsJoined (get_or cs i c) j → HoldsJoined d j) → HoldAll cs js → HoldAll (set cs i d) js
one_kept [] js i c d lt step h = absurd (omega arith)
one_kept (b ∷ cs) [] i c d lt step h = absurd h
one_kept (b ∷ cs) (j ∷ js) zero c d lt step h = (step j h.0, h.1)
one_kept (b ∷ cs) (j ∷ js) (suc i) c d lt step h = (h.0, one_kept cs js i c d (omega arith) step h.1)

-- ---- the one with a number

abbrev HoldsLive : Option Connection → Option Joined → Type 0
HoldsLive None None = Unit {0}
HoldsLive (Some c) (Some j) = HoldsJoined c j
HoldsLive None (Some j) = ⊥
HoldsLive (Some c) None = ⊥

live_held : (number : ℕ) (cs : List Connection) (js : List Joined) → HoldAll cs js
    → HoldsLive (find (λ c. c.number == number) cs) (find (has_number number) js)
live_held number [] [] h = tt
live_held number [] (j ∷ js) h = absurd h
live_held number (c ∷ cs) [] h = absurd h
live_held number (c ∷ cs) (j ∷ js) h = grind (arith, cond, live_held number cs js h.1)

abbrev HoldsOver : Option Past → Option Joined → Type 0
HoldsOver None None = Unit {0}
HoldsOver (Some p) (Some j) = HoldsPast p j
HoldsOver None (Some j) = ⊥
HoldsOver (Some p) None = ⊥

past_held : (number : ℕ) (ps : List Past) (js : List Joined) → AllPast ps js
    → HoldsOver (find (λ p. p.number == number) ps) (find (has_number number) js)
past_held number [] [] h = tt
past_held number [] (j ∷ js) h = absurd h
past_held number (p ∷ ps) [] h = absurd h
past_held number (p ∷ ps) (j ∷ js) h = grind (arith, cond, past_held number ps js h.1)

-- it has a place
pub live_found : (number : ℕ) (cs : List Connection) (c : Bor Connection) (s : Sessions) → find (λ k. k.number == number) cs ≡ Some c.now
    → HoldAll cs s.live → HoldsFound (Some (Placed c)) (numbered number s)
live_found number cs c s e h =
    subst (λ (o : Option Joined). HoldsFound (Some (Placed c)) o) (sym (find-append (has_number number) s.live s.done))
    (in_front (find (has_number number) s.live) (find (has_number number) s.done)
    (subst (λ (o : Option Connection). HoldsLive o (find (has_number number) s.live)) e (live_held number cs s.live h)))
  where
    in_front : (o q : Option Joined) → HoldsLive (Some c.now) o → HoldsFound (Some (Placed c)) (option_or o q)
    in_front None q held = absurd held
    in_front (Some j) q held = held

-- or it is over
abbrev pub over_found : Option (Bor Past) → Option Found
over_found None = None
over_found (Some p) = Some (Replaced p)

pub done_found : (number : ℕ) (cs : List Connection) (ps : List Past) (o : Option (Bor Past)) (s : Sessions)
    → find (λ c. c.number == number) cs ≡ None → option_copied o ≡ find (λ p. p.number == number) ps → HoldAll cs s.live → AllPast ps s.done
    → HoldsFound (over_found o) (numbered number s)
done_found number cs ps o s e is h k =
    subst (λ (x : Option Joined). HoldsFound (over_found o) x) (sym (find-append (has_number number) s.live s.done))
    (behind o (find (has_number number) s.live) (find (has_number number) s.done)
    (subst (λ (x : Option Connection). HoldsLive x (find (has_number number) s.live)) e (live_held number cs s.live h))
    (subst (λ (x : Option Past). HoldsOver x (find (has_number number) s.done)) (sym is) (past_held number ps s.done k)))
  where
    behind : (o : Option (Bor Past)) (p q : Option Joined) → HoldsLive None p → HoldsOver (option_copied o) q
        → HoldsFound (over_found o) (option_or p q)
    behind o (Some j) q live over = absurd live
    behind None None None live over = tt
    behind None None (Some j) live over = absurd over
    behind (Some p) None None live over = absurd over
    behind (Some p) None (Some j) live over = over
