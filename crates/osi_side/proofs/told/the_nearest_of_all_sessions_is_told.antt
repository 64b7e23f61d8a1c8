-- The sessions that a member becomes are tried one after the other, and the nearest is told: for the functions of `rules`.
use Rattle.osi_side.proofs.Vocabulary.{◌≡◌, ◌∙◌, refl, sym, ap, subst, ℕ, zero, suc, ◌+◌, ◌-◌, ◌<◌, ◌≤◌, false, List, [], ◌∷◌, ◌++◌}
use Rattle.osi_side.proofs.Vocabulary.{length, get_or, drop, replicate, Option, Some, None, option_map, Result, Ok, Err, IfOk, arith}
use Rattle.osi_side.proofs.Vocabulary.{length-replicate, fold-append, fold, flat_map, SpduFault, Contents, Units, Reply, Seen, Count}
use Rattle.osi_side.proofs.Vocabulary.{Takes, Member, Break, Near, Turn, Goes, Stops, Leads, BreaksIn, here, last, later, BreaksAs}
use Rattle.osi_side.proofs.Vocabulary.{in_effect, Unsaid, a_unit, unread, tried, next_of, becomes, reached, goes_to, far, break_of}
use Rattle.osi_side.proofs.Vocabulary.{Quietly, OwesTo, StopsBy, GoesOn}
use Rattle.osi_side.specs.Members.{is_empty}
use Rattle.osi_side.specs.Nearest.{count_at, last_in}
use Rattle.osi_side.specs.Nearest.{nearest}

-- ---- the next TSDU

pub count_is : (s : Seen) (u : List ℕ) (c : Count) → Takes s u c → count_at s u ≡ c
unfolding count_at
count_is s u c h = h (option_map (λ (k : ℕ). replicate {A = ℕ} k 0) s.joined) (grind (arith, length-replicate))

pub next_goes : (us : List (List ℕ)) (m t : Member) → Quietly us m t → next_of us m ≡ Some t
next_goes us m t q =
    let u = get_or us m.taken [] in
    let c = q.follows.count in
    grind (arith, count_is m.standing u c q.follows.taken)

next_owes : (us : List (List ℕ)) (m : Member) (reply : Reply) → OwesTo m.standing (get_or us m.taken []) reply → next_of us m ≡ None
next_owes us m reply o =
    let u = get_or us m.taken [] in
    grind (arith, count_is m.standing u o.count o.taken)

pub next_stops : (us : List (List ℕ)) (m : Member) (owes : Option Reply) → StopsBy m.standing (get_or us m.taken []) owes
    → next_of us m ≡ None
next_stops us m owes h = grind (arith, next_owes)

-- ---- the sessions that one becomes

pub becomes_none : (us : List (List ℕ)) (n : ℕ) → becomes us n None ≡ []
becomes_none us n = grind arith

pub reached_some : (us : List (List ℕ)) (before : ℕ) (m : Member) → m.taken < before
    → reached us before m ≡ m ∷ becomes us (before - (m.taken + 1)) (next_of us m)
reached_some us before m l = grind arith

reached_next : (us : List (List ℕ)) (before : ℕ) (m t : Member) → m.taken < before → Quietly us m t
    → reached us before m ≡ m ∷ reached us before t
reached_next us before m t l q = grind (arith, reached_some us before m l, next_goes us m t q)

-- ---- what a session is after all that passed

last_any : (us : List (List ℕ)) (n : ℕ) (a t : Member) → last_in a (becomes us n (Some t)) ≡ last_in t (becomes us n (Some t))
last_any us n a t = grind arith

pub goes_next : (us : List (List ℕ)) (m t first : Member) (turn : Turn) → m.taken < length us → turn ≡ Goes t → GoesOn us m turn
    → goes_to us m ≡ goes_to us first → goes_to us t ≡ goes_to us first
goes_next us m t first turn l e g h = grind (arith, reached_next, last_any)

pub goes_stop : (us : List (List ℕ)) (m first : Member) (turn : Turn) (owes : Option Reply) → m.taken < length us → turn ≡ Stops owes
    → GoesOn us m turn
    → goes_to us m ≡ goes_to us first → m ≡ goes_to us first
goes_stop us m first turn owes l e g h = grind (arith, reached_some, next_stops, becomes_none)

-- ---- a walk of one member

abbrev pub tries : Unsaid → List (List ℕ) → ℕ → Near → Member → Near
tries u us before best m = fold (tried u) best (reached us before m)

pub tries_next : (u : Unsaid) (us : List (List ℕ)) (before : ℕ) (old new all : Near) (m t : Member) (turn : Turn) → m.taken < before
    → turn ≡ Goes t
    → GoesOn us m turn → new ≡ tried u old m → tries u us before old m ≡ all → tries u us before new t ≡ all
tries_next u us before old new all m t turn l e g n h = grind (arith, reached_next)

pub tries_stop : (u : Unsaid) (us : List (List ℕ)) (before : ℕ) (old new all : Near) (m : Member) (turn : Turn) (owes : Option Reply)
    → m.taken < before
    → turn ≡ Stops owes → GoesOn us m turn → new ≡ tried u old m → tries u us before old m ≡ all → new ≡ all
tries_stop u us before old new all m turn owes l e g n h = grind (arith, reached_some, next_stops, becomes_none)

-- ---- one element of a list after the other

pub one_more : {S : Type 0} (f : S → Member → S) (s : S) (members : List Member) (i : ℕ) (x : Member) → i < length members
    → x ≡ get_or members i x
    → fold f s (drop i members) ≡ fold f (f s x) (drop (i + 1) members)
one_more f s [] i x l e = absurd (omega arith)
one_more f s (m ∷ members) zero x l e = ap (λ (z : Member). fold f (f s z) members) (sym e)
one_more f s (m ∷ members) (suc i) x l e = grind (arith, one_more f s members i x (omega arith) e)

pub no_more : (members : List Member) (i : ℕ) → length members ≤ i → drop i members ≡ []
no_more [] zero l = refl
no_more [] (suc i) l = refl
no_more (m ∷ members) zero l = absurd (omega arith)
no_more (m ∷ members) (suc i) l = no_more members i (omega arith)

fold_flat : (u : Unsaid) (us : List (List ℕ)) (before : ℕ) (best : Near) (members : List Member)
    → fold (tried u) best (flat_map (reached us before) members) ≡ fold (tries u us before) best members
fold_flat u us before best [] = refl
fold_flat u us before best (m ∷ members) =
    fold-append (tried u) best (reached us before m) _ ∙ fold_flat u us before (tries u us before best m) members

-- ---- all members

pub all_tried : (u : Unsaid) (us : List (List ℕ)) (before : ℕ) (first best : Near) (members : List Member) (i : ℕ) → length members ≤ i
    → first ≡ far members
    → fold (tries u us before) best (drop i members) ≡ fold (tries u us before) first members → best ≡ nearest u us before members
unfolding nearest
all_tried u us before first best members i l f h = grind (arith, no_more, fold_flat)

-- ---- the units of a TSDU

-- what breaks at the units that are left breaks at the whole
abbrev pub Continues : List (List ℕ) → ℕ → ℕ → List Member → Units → List Member → Units → Type 0
Continues heard octets before members whole now left = (at : List Member) (by : Break) → BreaksIn heard octets before now left at by
    → BreaksIn heard octets before members whole at by

pub breaks_later : (heard : List (List ℕ)) (octets before : ℕ) (members now next : List Member) (whole units left : Units)
    (first unit : Contents)
    → units ≡ unit ∷ left → Leads heard octets before now unit next → is_empty next ≡ false
    → Continues heard octets before members whole now (units ++ first ∷ [])
    → Continues heard octets before members whole next (left ++ first ∷ [])
breaks_later heard octets before members now next whole units left first unit e l s k = λ at by h.
    k at by (subst (λ (z : Units). BreaksIn heard octets before now (z ++ first ∷ []) at by) (sym e)
    (later now next unit (left ++ first ∷ []) at by l s h))

pub breaks_here : (heard : List (List ℕ)) (octets before : ℕ) (members now : List Member) (whole units left : Units)
    (first unit : Contents) (by : Break)
    → units ≡ unit ∷ left → Leads heard octets before now unit [] → by ≡ break_of (a_unit unit octets) heard before now
    → Continues heard octets before members whole now (units ++ first ∷ [])
    → (at : List Member) × BreaksIn heard octets before members whole at by
breaks_here heard octets before members now whole units left first unit by e l b k = (
  now,
  k now by (subst (λ (z : Units). BreaksIn heard octets before now (z ++ first ∷ []) now by) (sym e)
      (here now unit (left ++ first ∷ []) by l b)),
)

pub breaks_last : (heard : List (List ℕ)) (octets before : ℕ) (members now : List Member) (whole units : Units) (first : Contents)
    (by : Break)
    → units ≡ [] → by ≡ break_of (a_unit first octets) heard before now
    → Continues heard octets before members whole now (units ++ first ∷ [])
    → (at : List Member) × BreaksIn heard octets before members whole at by
breaks_last heard octets before members now whole units first by e b k =
    (now, k now by (subst (λ (z : Units). BreaksIn heard octets before now (z ++ first ∷ []) now by) (sym e) (last now first by b)))

pub breaks_last_ok : {E : Type 0} (r : Result Break E) (heard : List (List ℕ)) (octets before : ℕ) (members now deref : List Member)
    (whole units : Units)
    (first : Contents) → units ≡ [] → deref ≡ now → IfOk r (λ by. by ≡ break_of (a_unit first octets) heard before deref)
    → Continues heard octets before members whole now (units ++ first ∷ [])
    → IfOk r (λ by. (at : List Member) × BreaksIn heard octets before members whole at by)
breaks_last_ok (Ok by) heard octets before members now deref whole units first e d b k =
    breaks_last heard octets before members now whole units first by e (b ∙ ap (break_of (a_unit first octets) heard before) d) k
breaks_last_ok (Err x) heard octets before members now deref whole units first e d b k = tt

pub breaks_as : {E : Type 0} (r : Result Break E) (heard : List (List ℕ)) (octets before : ℕ) (members : List Member)
    (read : Result Units SpduFault)
    (units : Units) → read ≡ Ok units → IfOk r (λ by. (at : List Member) × BreaksIn heard octets before members (in_effect units) at by)
    → IfOk r (λ by. (at : List Member) × BreaksAs heard octets before members read at by)
breaks_as r heard octets before members read units e h = grind arith

pub breaks_unread : {E : Type 0} (r : Result Break E) (heard : List (List ℕ)) (octets before : ℕ) (members : List Member)
    (read : Result Units SpduFault)
    (fault : SpduFault) → read ≡ Err fault → IfOk r (λ by. by ≡ break_of (unread fault) heard before members)
    → IfOk r (λ by. (at : List Member) × BreaksAs heard octets before members read at by)
breaks_unread (Ok by) heard octets before members read fault e h =
    (members, subst (λ (r : Result Units SpduFault). BreaksAs heard octets before members r members by) (sym e) (refl, h))
breaks_unread (Err x) heard octets before members read fault e h = tt
