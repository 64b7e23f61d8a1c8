-- Each session that is kept after a unit comes from one that was kept before it: for the walk back from the last unit.
use Rattle.std.proofs.Common.{◌≡◌, ◌≢◌, ◌∙◌, ◌≤◌, ◌+◌, ◌-◌, ◌++◌, ◌∷◌, ◌&&◌, ◌⊎◌, inl, inr, refl, ap, sym, subst, arith, ℕ, zero, suc, Bool}
use Rattle.std.proofs.Common.{nat_lt, true, false, if◌then◌else◌, List, [], length, get_or, replicate, Option, Some, None, option_map}
use Rattle.std.proofs.Common.{Result, Ok, Err}
use Rattle.std.proofs.lemmas.Bool.{MatchBool-at_true, and_parts, eqb-true, false≢true}
use Rattle.std.proofs.lemmas.List.{length-replicate}
use Rattle.std.specs.List.{fold, flat_map}
use Rattle.osi_spdu.specs.declared.faults.SpduFault.{SpduFault}
use Rattle.osi_message.specs.Meanings.{Meaning, RF, RS}
use Rattle.osi_message.specs.Reading.{said_at}
use Rattle.osi_message.specs.Words.{Word, Words, part}
use Rattle.osi_message.specs.Words as word
use Rattle.osi_session.proofs.values.equal_parts_make_equal_states.{told as states_told}
use Rattle.osi_session.specs.Counting.{taker_with}
use Rattle.osi_session.specs.Joining.{acting_words, is_restart_word, respond_came}
use Rattle.osi_session.specs.Phases.{is_restarting}
use Rattle.osi_session.specs.Same.{same_bit, same_state}
use Rattle.osi_session.specs.Respond.{is_resynchronize, respond_fault}
use Rattle.osi_session.specs.Standing.{Seen, Count, CanSay, Takes, listens, after_count, answers_word, counted, said}
use Rattle.osi_session.specs.Standing.{answers as answers_meaning}
use Rattle.osi_session.specs.declared.state.State.{State}
use Rattle.osi_session.specs.Steady.{Hears, is_steady}
use Rattle.osi_side.specs.declared.members.Member.{Member}
use Rattle.osi_side.specs.Explaining.{Remark}
use Rattle.osi_side.specs.Kept.{Halt, Way, added, after_word, anew, answering, asks, both_of, first_sender, follows, if_answer, is_covered}
use Rattle.osi_side.specs.Kept.{an_abort, asked_by, is_between, quiet_after, restart_at}
use Rattle.osi_side.specs.Kept.{is_still, joined, latest, listed, member, or_else, passed, places_of, quietly, remain, restarters}
use Rattle.osi_side.specs.Kept.{same_count, senders, sends}
use Rattle.osi_side.specs.Kept.{same_seen, unless, waited, waits, way_to, askers}
use Rattle.osi_side.specs.Nearest.{becomes, count_at, next_of, quiet_by, reached}
use Rattle.osi_side.specs.Onward.{IsAmong}
use Rattle.osi_side.specs.Walking.{the_remark}
use Rattle.osi_side.proofs.told.a_tsdu_has_one_count.{AsMany, heard_alike, words_alike}
use Rattle.osi_witness.specs.Found.{ComesFrom, GoesOn, Stays, answers, says, takes}

-- what `osi_side` keeps of those that wait
abbrev Inside : {A B : Type 0} → (Option A → B) → Type 0
Inside {A} f = A

abbrev Asked : Type 0
Asked = Inside (both_of 0)

-- ---- one of several

among_parts : (x : Member) (xs ys : List Member) → IsAmong x (xs ++ ys) → IsAmong x xs ⊎ IsAmong x ys
among_parts x [] ys h = inr h
among_parts x (z ∷ xs) ys (inl e) = inl (inl e)
among_parts x (z ∷ xs) ys (inr h) = elim (among_parts x xs ys h) [
  | inl a ↦ inl (inr a)
  | inr b ↦ inr b
]

one_of_one : (x y : Member) → IsAmong x (y ∷ []) → x ≡ y
one_of_one x y (inl e) = e
one_of_one x y (inr h) = absurd h

added_by : (b : Bool) (x y : Member) (members : List Member) → IsAmong x (if b then members else members ++ y ∷ [])
    → IsAmong x members ⊎ (x ≡ y)
added_by true x y members h = inl h
added_by false x y members h = elim (among_parts x members (y ∷ []) h) [
  | inl a ↦ inl a
  | inr b ↦ inr (one_of_one x y b)
]

added_parts : (x y : Member) (members : List Member) → IsAmong x (added members y) → IsAmong x members ⊎ (x ≡ y)
unfolding added
added_parts x y members h = added_by _ x y members h

folded_parts : (x : Member) (members more : List Member) → IsAmong x (fold added members more) → IsAmong x members ⊎ IsAmong x more
folded_parts x members [] h = inl h
folded_parts x members (y ∷ more) h = elim (folded_parts x (added members y) more h) [
  | inl a ↦ elim (added_parts x y members a) [
    | inl b ↦ inl b
    | inr e ↦ inr (inl e)
  ]
  | inr b ↦ inr (inr b)
]

flat_parts : (f : Member → List Member) (x : Member) (members : List Member) → IsAmong x (flat_map f members)
    → (y : Member) × IsAmong y members × IsAmong x (f y)
flat_parts f x [] h = absurd h
flat_parts f x (y ∷ members) h = elim (among_parts x (f y) (flat_map f members) h) [
  | inl a ↦ (y, inl refl, a)
  | inr b ↦ (let at = flat_parts f x members b in (at.0, inr at.1, at.2))
]

-- ---- a TSDU that is taken

came_alike : (s : State) (j k : Option (List ℕ)) (came : Result Words SpduFault) → AsMany j k
    → counted (respond_came (taker_with s j) came) ≡ counted (respond_came (taker_with s k) came)
came_alike s j k (Ok words) e = words_alike (acting_words words) s j k e
came_alike s j k (Err fault) e = heard_alike j k (respond_fault s fault) e

many_zeros : (n : Option ℕ) → option_map length (option_map (λ (k : ℕ). replicate {A = ℕ} k 0) n) ≡ n
many_zeros n = grind (arith, length-replicate)

pub count_takes : (s : Seen) (u : List ℕ) → Takes s u (count_at s u)
unfolding count_at
count_takes s u = λ j e. came_alike s.state j _ (said_at u) (e ∙ sym (many_zeros s.joined))

quiet_hears : (b : Bool) (m t : Member) (u : List ℕ) → listens m.standing ≡ b
    → (if b then quiet_by m (count_at m.standing u) else None) ≡ Some t → (t.taken ≡ m.taken + 1) × Hears m.standing u t.standing
quiet_hears false m t u l e = absurd (cc)
quiet_hears true m t u l e = by (count_at m.standing u).reply refl
  where
    by : (r : Option Meaning) → (count_at m.standing u).reply ≡ r → (t.taken ≡ m.taken + 1) × Hears m.standing u t.standing
    by (Some reply) q = absurd (grind arith)
    by None q =
        let is : t ≡ member (m.taken + 1) (after_count m.standing (count_at m.standing u)) = grind arith in (
          ap (λ (x : Member). x.taken) is,
          record {
            count = count_at m.standing u;
            listening = l;
            taken = count_takes m.standing u;
            quiet = q;
            next = ap (λ (x : Member). x.standing) is;
          },
        )

next_hears : (us : List (List ℕ)) (m t : Member) → next_of us m ≡ Some t
    → (t.taken ≡ m.taken + 1) × Hears m.standing (get_or us m.taken []) t.standing
next_hears us m t e = quiet_hears (listens m.standing) m t (get_or us m.taken []) refl e

quiet_is : (b : Bool) (s t : Seen) (u : List ℕ) → listens s ≡ b → (if b then quiet_after s (count_at s u) else None) ≡ Some t → Hears s u t
quiet_is false s t u l e = absurd (cc)
quiet_is true s t u l e = by (count_at s u).reply refl
  where
    by : (r : Option Meaning) → (count_at s u).reply ≡ r → Hears s u t
    by (Some reply) q = absurd (grind arith)
    by None q = record {
      count = count_at s u;
      listening = l;
      taken = count_takes s u;
      quiet = q;
      next = grind arith;
    }

-- ---- sessions that are compared

same_bits : (a b : Bool) → same_bit a b ≡ true → a ≡ b
same_bits a b h = grind arith

same_counts : (a b : Option ℕ) → same_count a b ≡ true → a ≡ b
same_counts a b e = grind (arith, eqb-true)

same_states : (a b : State) → same_state a b ≡ true → a ≡ b
same_states a b e = MatchBool-at_true (a ≡ b) (a ≢ b) e (states_told a b)

same_sessions : (s t : Seen) → same_seen s t ≡ true → s ≡ t
unfolding same_seen
same_sessions s t e =
    let p = and_parts (same_state s.state t.state) _ e in
    let q = and_parts (same_count s.joined t.joined) _ p.1 in
    let r = and_parts (same_count s.sent t.sent) _ q.1 in
    λ i. record {
      state = (same_states s.state t.state p.0) i;
      joined = (same_counts s.joined t.joined q.0) i;
      sent = (same_counts s.sent t.sent r.0) i;
      closed = (same_bits s.closed t.closed r.1) i;
    }

still_hears : (s : Seen) (u : List ℕ) (o : Option Seen) → quietly s u ≡ o → is_still s o ≡ true → Hears s u s
still_hears s u None e h = absurd (cc)
still_hears s u (Some t) e h = subst (λ (x : Seen). Hears s u x) (same_sessions t s h) (quiet_is (listens s) s t u refl e)

remain_hears : (s : Seen) (u : List ℕ) (o : Option Seen) → remain s o u ≡ true → Hears s u s
remain_hears s u None h = absurd (cc)
remain_hears s u (Some aborted) h =
    still_hears s u (quietly s u) refl (and_parts (is_still s (quietly s u)) (is_still aborted (quietly aborted u)) h).0

waits_hears : (abort : Word) (s : Seen) (u : List ℕ) → waits abort s u ≡ true → Hears s u s
unfolding waits
waits_hears abort s u h = remain_hears s u (said s abort 0) (and_parts (is_restarting s.state.phase) (remain s (said s abort 0) u) h).1

-- ---- a TSDU more that changes nothing

stays_more : (us : List (List ℕ)) (from : ℕ) (s : Seen) (n : ℕ) → Stays us from s n → Hears s (get_or us (from + n) []) s
    → Stays us from s (suc n)
stays_more us from s zero h k =
    let e : from + zero ≡ from = omega arith in (subst (λ (i : ℕ). Hears s (get_or us i []) s) e k, tt)
stays_more us from s (suc n) h k =
    let e : from + suc n ≡ from + 1 + n = omega arith in
    (h.0, stays_more us (from + 1) s n h.1 (subst (λ (i : ℕ). Hears s (get_or us i []) s) e k))

no_answer : (reply m : Meaning) → is_resynchronize m ≡ true → answers_meaning reply m ≡ true → ⊥
no_answer (RF reason o) (RS kind n wishes octets) e a = false≢true a
no_answer reply (RS kind n wishes octets) e a = false≢true a
no_answer reply m e a = false≢true e

restart_answers_none : (reply : Meaning) (w : Word) → is_restart_word w ≡ true → answers_word reply w ≡ true → ⊥
restart_answers_none reply (part place octets) r a = false≢true a
restart_answers_none reply (word.says m) r a = no_answer reply m r a

one_word : (v w : Word) → Some v ≡ Some w → v ≡ w
one_word v w e = cc

-- a session that sent a restart goes on to it also if it takes one TSDU more that changes nothing
waits_more : (us : List (List ℕ)) (m : Remark) (w : Word) (at : ℕ) (x : Seen) → m.word ≡ Some w → is_restart_word w ≡ true
    → Hears x (get_or us at []) x → (after : Member) → after ≡ member at x → (taken : ℕ) (s : Seen) → GoesOn us m after taken s
    → GoesOn us m (member (at + 1) x) taken s
waits_more us m w at x e r h after is n z (takes taken s t k g) = takes taken s t k (waits_more us m w at x e r h after is (taken + 1) t g)
waits_more us m w at x e r h after is n z (answers taken s c reply v l t q o a f) =
    absurd (restart_answers_none reply v (subst (λ (y : Word). is_restart_word y ≡ true) (one_word w v (sym e ∙ o)) r) a)
waits_more us m w at x e r h after is n z (says taken more s v o k c stays f) =
    let same : after.standing ≡ x = ap (λ (y : Member). y.standing) is in
    let count : at ≡ taken + more = ap (λ (y : Member). y.taken) (sym is) ∙ c in
    says taken (suc more) s v o (subst (λ (y : Seen). CanSay s v m.octets y) same k) (omega (arith, count))
    (stays_more us taken x more (subst (λ (y : Seen). Stays us taken y more) same stays)
    (subst (λ (i : ℕ). Hears x (get_or us i []) x) count h))
    (inr (subst (λ (y : Word). is_restart_word y ≡ true) (one_word w v (sym e ∙ o)) r))

-- ---- one session

sends_it : (w : Word) (octets : ℕ) (y x : Member) → sends w octets y ≡ Some x → (x.taken ≡ y.taken) × CanSay y.standing w octets x.standing
sends_it w octets y x e = by (said y.standing w octets) refl
  where
    by : (o : Option Seen) → said y.standing w octets ≡ o → (x.taken ≡ y.taken) × CanSay y.standing w octets x.standing
    by None q = absurd (grind arith)
    by (Some s) q =
        let is : x ≡ member y.taken s = grind arith in
        (ap (λ (z : Member). z.taken) is, q ∙ ap (λ (z : Seen). Some z) (ap (λ (z : Member). z.standing) (sym is)))

module _ (us : List (List ℕ)) (w : Word) (octets before : ℕ) where
  abbrev the_unit : Remark
  the_unit = the_remark w octets before

  -- the session after it goes on to the unit and is this member then, which has taken at most so many more
  abbrev Goes : (n : ℕ) → Option Member → Member → Type 0
  Goes n None x = ⊥
  Goes n (Some y) x = GoesOn us the_unit x y.taken y.standing × (x.taken ≤ y.taken + n)

  says_here : (n : ℕ) (y x : Member) → sends w octets y ≡ Some x → Goes n (Some y) x
  says_here n y x e =
      let h = sends_it w octets y x e in (
        says y.taken 0 y.standing w refl h.1 (omega (arith, h.0)) tt (inl refl),
        omega (arith, h.0),
      )

  goes_next : (n : ℕ) (y t x : Member) → next_of us y ≡ Some t → Goes n (Some t) x → Goes (suc n) (Some y) x
  goes_next n y t x e g =
      let h = next_hears us y t e in
      let l = g.1 in (
        takes y.taken y.standing t.standing h.1 (subst (λ (i : ℕ). GoesOn us the_unit x i t.standing) h.0 g.0),
        omega (arith, l, h.0),
      )

  goes_back : (n : ℕ) (y x : Member) → Goes n (next_of us y) x → Goes (suc n) (Some y) x
  goes_back n y x g = by (next_of us y) refl g
    where
      by : (o : Option Member) → next_of us y ≡ o → Goes n o x → Goes (suc n) (Some y) x
      by None e k = absurd k
      by (Some t) e k = goes_next n y t x e k

  -- ---- a steady unit

  first_goes : (n : ℕ) (o : Option Member) (x : Member) → first_sender w octets (becomes us n o) ≡ Some x → Goes n o x
  first_goes zero None x e = absurd (cc)
  first_goes (suc n) None x e = absurd (cc)
  first_goes zero (Some y) x e = by (sends w octets y) refl e
    where
      by : (o : Option Member) → sends w octets y ≡ o → or_else o None ≡ Some x → Goes zero (Some y) x
      by None q k = absurd (cc)
      by (Some z) q k = says_here zero y x (q ∙ k)
  first_goes (suc n) (Some y) x e = by (λ k. first_goes n (next_of us y) x k) (sends w octets y) refl e
    where
      by : (first_sender w octets (becomes us n (next_of us y)) ≡ Some x → Goes n (next_of us y) x) → (o : Option Member)
          → sends w octets y ≡ o → or_else o (first_sender w octets (becomes us n (next_of us y))) ≡ Some x → Goes (suc n) (Some y) x
      by later None q k = goes_back n y x (later k)
      by later (Some z) q k = says_here (suc n) y x (q ∙ k)

  listed_goes : (o : Option Member) (x : Member) → IsAmong x (listed o) → o ≡ Some x
  listed_goes None x h = absurd h
  listed_goes (Some y) x h = ap (λ (z : Member). Some z) (sym (one_of_one x y h))

  -- ---- another unit

  anew_by : (b : Bool) (x z : Member) → IsAmong x (if b then [] else z ∷ []) → x ≡ z
  anew_by true x z h = absurd h
  anew_by false x z h = one_of_one x z h

  anew_goes : (n : ℕ) (earlier : Option Seen) (y x : Member) → IsAmong x (anew earlier (sends w octets y)) → Goes n (Some y) x
  anew_goes n earlier y x h = by (sends w octets y) refl h
    where
      by : (o : Option Member) → sends w octets y ≡ o → IsAmong x (anew earlier o) → Goes n (Some y) x
      by None e k = absurd k
      by (Some z) e k = says_here n y x (e ∙ ap (λ (v : Member). Some v) (sym (anew_by (is_covered earlier z.standing) x z k)))

  answered_by : (b : Bool) (x z : Member) → IsAmong x (if b then z ∷ [] else []) → (b ≡ true) × (x ≡ z)
  answered_by true x z h = (refl, one_of_one x z h)
  answered_by false x z h = absurd h

  abbrev taken_by : Member → Count
  taken_by y = count_at y.standing (get_or us y.taken [])

  abbrev taken_on : Member → Member
  taken_on y = member (y.taken + 1) (after_count y.standing (taken_by y))

  replied_goes : (n : ℕ) (y x : Member) → listens y.standing ≡ true → (r : Option Meaning) → (taken_by y).reply ≡ r
      → IsAmong x (if_answer w r (taken_on y)) → Goes (suc n) (Some y) x
  replied_goes n y x l None q k = absurd k
  replied_goes n y x l (Some reply) q k =
      let a = answered_by (answers_word reply w) x (taken_on y) k in
      let t = ap (λ (z : Member). z.taken) a.1 in (
        answers y.taken y.standing (taken_by y) reply w l (count_takes y.standing (get_or us y.taken [])) q refl a.0 a.1,
        omega (arith, t),
      )

  answering_goes : (n : ℕ) (y x : Member) → IsAmong x (answering us w y) → Goes (suc n) (Some y) x
  answering_goes n y x h = by (listens y.standing) refl h
    where
      by : (b : Bool) → listens y.standing ≡ b → IsAmong x (if b then if_answer w (taken_by y).reply (taken_on y) else [])
          → Goes (suc n) (Some y) x
      by false l k = absurd k
      by true l k = replied_goes n y x l (taken_by y).reply refl k

  senders_go : (n : ℕ) (earlier : Option Seen) (o : Option Member) (x : Member) → IsAmong x (senders us w octets n earlier o) → Goes n o x
  senders_go zero earlier None x h = absurd h
  senders_go (suc n) earlier None x h = absurd h
  senders_go zero earlier (Some y) x h = anew_goes zero earlier y x h
  senders_go (suc n) earlier (Some y) x h =
      let later = follows (latest earlier (sends w octets y)) (get_or us y.taken []) in
      let on = senders us w octets n later (next_of us y) in
      elim (among_parts x (anew earlier (sends w octets y)) (answering us w y ++ on) h) [
        | inl a ↦ anew_goes (suc n) earlier y x a
        | inr b ↦ elim (among_parts x (answering us w y) on b) [
          | inl a ↦ answering_goes n y x a
          | inr d ↦ goes_back n y x (senders_go n later (next_of us y) x d)
        ]
      ]

  -- ---- a restart

  module _ (restarts : is_restart_word w ≡ true) (shown abort : Word) (taken top : ℕ) (s : Seen) where
    abbrev the_way : Way
    the_way = record { restart = w; shown = shown; abort = abort; octets = octets }

    -- the session with which the walk begins goes on to the restart and is this member then
    abbrev ItGoes : Member → Type 0
    ItGoes x = GoesOn us the_unit x taken s × (x.taken ≤ top)

    abbrev AllGo : List Member → Type 0
    AllGo members = (x : Member) → IsAmong x members → ItGoes x

    abbrev TheyGo : (at : ℕ) → Option Asked → Type 0
    TheyGo at None = Unit {0}
    TheyGo at (Some a) = ItGoes (member at a.first) × ItGoes (member at a.last)

    abbrev HaltGoes : (at : ℕ) → Halt → Type 0
    HaltGoes at h = AllGo h.kept × TheyGo at h.waiting

    none_go : AllGo []
    none_go x h = absurd h

    one_goes : (y : Member) → ItGoes y → AllGo (y ∷ [])
    one_goes y g x h = subst ItGoes (sym (one_of_one x y h)) g

    more_go : (xs ys : List Member) → AllGo xs → AllGo ys → AllGo (xs ++ ys)
    more_go xs ys f g x h = elim (among_parts x xs ys h) [
      | inl a ↦ f x a
      | inr b ↦ g x b
    ]

    both_go : (at : ℕ) (asked : Option Asked) → TheyGo at asked → AllGo (both_of at asked)
    both_go at None g = none_go
    both_go at (Some a) g = more_go (member at a.first ∷ []) (member at a.last ∷ []) (one_goes _ g.0) (one_goes _ g.1)

    unless_go : (b : Bool) (y : Member) → ItGoes y → AllGo (unless b y)
    unless_go true y g = none_go
    unless_go false y g = one_goes y g

    joined_by : (b d : Bool) (at : ℕ) (a : Asked) (t v : Seen) → TheyGo at (Some a) → ItGoes (member at t)
        → HaltGoes at (if b
        then record { kept = unless d (member at a.last); waiting = Some (record { first = a.first; last = t; shown = a.shown }) }
        else record { kept = both_of at (Some a); waiting = Some (record { first = t; last = t; shown = v }) })
    joined_by true d at a t v g k = (unless_go d (member at a.last) g.1, (g.0, k))
    joined_by false d at a t v g k = (both_go at (Some a) g, (k, k))

    joined_go : (at : ℕ) (asked : Option Asked) (t v : Seen) → TheyGo at asked → ItGoes (member at t) → HaltGoes at (joined at asked t v)
    joined_go at None t v g k = (none_go, (k, k))
    joined_go at (Some a) t v g k = joined_by (same_seen a.shown v) (is_between a t) at a t v g k

    -- what goes on from the session to which the walk has come goes on from the first one
    abbrev LeadsBack : Option Member → Type 0
    LeadsBack None = Unit {0}
    LeadsBack (Some y) = (x : Member) → GoesOn us the_unit x y.taken y.standing → GoesOn us the_unit x taken s

    said_goes : (y z : Member) → LeadsBack (Some y) → y.taken ≤ top → sends w octets y ≡ Some z → ItGoes z × (z.taken ≡ y.taken)
    said_goes y z back l e =
        let g = says_here 0 y z e in
        let h = (sends_it w octets y z e).0 in ((back z g.0, omega (arith, l, h)), h)

    asks_go : (asked : Option Asked) (y : Member) → LeadsBack (Some y) → y.taken ≤ top → TheyGo y.taken asked
        → HaltGoes y.taken (asks the_way asked y)
    asks_go asked y back l g = by (sends w octets y) refl (sends shown octets y)
      where
        by : (o : Option Member) → sends w octets y ≡ o → (p : Option Member) → HaltGoes y.taken (asked_by y.taken asked o p)
        by None e p = (none_go, g)
        by (Some z) e None = (one_goes z (said_goes y z back l e).0, g)
        by (Some z) e (Some v) =
            let k = said_goes y z back l e in
            let is : z ≡ member y.taken z.standing = λ i. record { taken = k.1 i; standing = z.standing } in
            joined_go y.taken asked z.standing v.standing g (subst ItGoes is k.0)

    one_waits : (at : ℕ) (x : Seen) → ItGoes (member at x) → at + 1 ≤ top → waits abort x (get_or us at []) ≡ true
        → ItGoes (member (at + 1) x)
    one_waits at x g l h =
        (waits_more us the_unit w at x refl restarts (waits_hears abort x (get_or us at []) h) (member at x) refl taken s g.0, l)

    abbrev WaitedGoes : (at : ℕ) → Halt → Type 0
    WaitedGoes at h = AllGo h.kept × TheyGo (at + 1) h.waiting

    waited_by : (b : Bool) (at : ℕ) (a : Asked) → TheyGo at (Some a) → at + 1 ≤ top
        → (waits abort a.first (get_or us at []) && waits abort a.last (get_or us at [])) ≡ b
        → WaitedGoes at (if b then record { kept = []; waiting = Some a } else record { kept = both_of at (Some a); waiting = None })
    waited_by true at a g l h =
        let k = and_parts (waits abort a.first (get_or us at [])) (waits abort a.last (get_or us at [])) h in
        (none_go, (one_waits at a.first g.0 l k.0, one_waits at a.last g.1 l k.1))
    waited_by false at a g l h = (both_go at (Some a) g, tt)

    waited_go : (at : ℕ) (asked : Option Asked) → TheyGo at asked → at + 1 ≤ top
        → WaitedGoes at (waited abort at asked (get_or us at []))
    waited_go at None g l = (none_go, tt)
    waited_go at (Some a) g l = waited_by (waits abort a.first (get_or us at []) && waits abort a.last (get_or us at [])) at a g l refl

    abbrev TheyGoFrom : (at : ℕ) → Option Member → Option Asked → Type 0
    TheyGoFrom at None asked = Unit {0}
    TheyGoFrom at (Some t) asked = TheyGo (at + 1) asked

    passed_go : (at : ℕ) (asked : Option Asked) (o : Option Member) → TheyGo at asked → at + 1 ≤ top
        → AllGo (passed us abort at asked o).kept × TheyGoFrom at o (passed us abort at asked o).waiting
    passed_go at asked None g l = (both_go at asked g, tt)
    passed_go at asked (Some t) g l = waited_go at asked g l

    askers_go : (n : ℕ) (asked : Option Asked) (o : Option Member) → LeadsBack o
        → ((y : Member) → o ≡ Some y → (y.taken + n ≤ top) × TheyGo y.taken asked) → AllGo (askers us the_way n asked o)
    askers_go zero asked None back h = none_go
    askers_go (suc n) asked None back h = none_go
    askers_go zero asked (Some y) back h =
        let k = h y refl in
        let l = k.0 in
        let a = asks_go asked y back (omega (arith, l)) k.1 in
        more_go (asks the_way asked y).kept (both_of y.taken (asks the_way asked y).waiting) a.0 (both_go y.taken _ a.1)
    askers_go (suc n) asked (Some y) back h =
        let k = h y refl in
        let l = k.0 in
        let first = asks the_way asked y in
        let a = asks_go asked y back (omega (arith, l)) k.1 in
        let behind = passed us abort y.taken first.waiting (next_of us y) in
        let p = passed_go y.taken first.waiting (next_of us y) a.1 (omega (arith, l)) in
        more_go (first.kept ++ behind.kept) (askers us the_way n behind.waiting (next_of us y)) (more_go first.kept behind.kept a.0 p.0)
        (askers_go n behind.waiting (next_of us y) (on_back (next_of us y) refl) (λ t e.
        let z = (next_hears us y t e).0 in
        let g = subst (λ (o : Option Member). TheyGoFrom y.taken o behind.waiting) e p.1 in
        (omega (arith, l, z), subst (λ (i : ℕ). TheyGo i behind.waiting) (sym z) g)))
      where
        on_back : (o : Option Member) → next_of us y ≡ o → LeadsBack o
        on_back None e = tt
        on_back (Some t) e = λ x g.
            let z = next_hears us y t e in
            back x (takes y.taken y.standing t.standing z.1 (subst (λ (i : ℕ). GoesOn us the_unit x i t.standing) z.0 g))

  -- ---- all sessions

  abbrev ItGoesFrom : Member → Member → Type 0
  ItGoesFrom y x = GoesOn us the_unit x y.taken y.standing × (y.taken ≤ before → x.taken ≤ before)

  goes_from : (y x : Member) → Goes (before - y.taken) (Some y) x → ItGoesFrom y x
  goes_from y x g = let l = g.1 in (g.0, λ b. omega (arith, l, b))

  askers_from_here : (y x : Member) (shown abort : Word) → is_restart_word w ≡ true
      → IsAmong x (askers us (record { restart = w; shown = shown; abort = abort; octets = octets }) (before - y.taken) None (Some y))
      → Goes (before - y.taken) (Some y) x
  askers_from_here y x shown abort r h =
      askers_go r shown abort y.taken (y.taken + (before - y.taken)) y.standing (before - y.taken) None (Some y) (λ z g. g)
      (λ z e. let t = ap taken_of e in (omega (arith, t), tt)) x h
    where
      taken_of : Option Member → ℕ
      taken_of None = 0
      taken_of (Some z) = z.taken

  restarters_by : (b : Bool) (y x : Member) → is_restart_word w ≡ true
      → IsAmong x (if b then senders us w octets (before - y.taken) None (Some y) else askers us (way_to w octets y.standing) (before - y.taken)
      None (Some y))
      → Goes (before - y.taken) (Some y) x
  restarters_by true y x r h = senders_go (before - y.taken) None (Some y) x h
  restarters_by false y x r h = askers_from_here y x (restart_at y.standing.state.numbers.lowest) an_abort r h

  places_by : (b d : Bool) (y x : Member) → is_restart_word w ≡ b
      → IsAmong x (if b then restarters us w octets before y else if d then listed (first_sender w octets (reached us before y))
      else senders us w octets (before - y.taken) None (Some y))
      → Goes (before - y.taken) (Some y) x
  places_by true d y x r h = restarters_by (nat_lt 999999 y.standing.state.numbers.lowest) y x r h
  places_by false true y x r h = first_goes (before - y.taken) (Some y) x (listed_goes (first_sender w octets (reached us before y)) x h)
  places_by false false y x r h = senders_go (before - y.taken) None (Some y) x h

  places_go : (y x : Member) → IsAmong x (places_of us w octets before y) → ItGoesFrom y x
  unfolding places_of
  places_go y x h = goes_from y x (places_by (is_restart_word w) (is_steady w) y x refl h)

  -- a session that is kept after the unit comes from one of those before it
  pub comes_from : (members : List Member) (x : Member) → IsAmong x (after_word us octets before members w)
      → (y : Member) × IsAmong y members × ItGoesFrom y x
  comes_from members x h = elim (folded_parts x [] (flat_map (places_of us w octets before) members) h) [
    | inl a ↦ absurd a
    | inr b ↦ (let at = flat_parts (places_of us w octets before) x members b in (at.0, at.1, places_go at.0 x at.2))
  ]

pub comes_from_one : (us : List (List ℕ)) (w : Word) (octets before : ℕ) (members : List Member) (x : Member)
    → IsAmong x (after_word us octets before members w) → ComesFrom us (the_remark w octets before) members x
comes_from_one us w octets before members x h =
    let at = comes_from us w octets before members x h in (at.0, at.1, at.2.0)

pub comes_in_time : (us : List (List ℕ)) (w : Word) (octets before : ℕ) (members : List Member) (x : Member)
    → ((y : Member) → IsAmong y members → y.taken ≤ before) → IsAmong x (after_word us octets before members w) → x.taken ≤ before
comes_in_time us w octets before members x h a =
    let at = comes_from us w octets before members x a in at.2.1 (h at.0 at.1)
