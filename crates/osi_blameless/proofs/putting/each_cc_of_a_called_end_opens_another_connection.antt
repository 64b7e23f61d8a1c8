-- Of the CCs that a called end of class 2 has put and that have not passed, no two are for one reference of either side. Each comes before
-- all that is put for it, and no other connection that the end has open at the judge has its reference of the other side. For all
-- connections of a called end and a judge.
use Rattle.osi_blameless.proofs.Vocabulary.{[], ap, append_assoc, Bool, false, inl, inr, List, None, Option, refl, Some, subst, sym, true}
use Rattle.osi_blameless.proofs.Vocabulary.{ℕ, ◌&&◌, ◌++◌, ◌∙◌, ◌∷◌, ◌≡◌, ◌⊎◌, eqb-true, AllByRecursion, slice_get, acknowledge, confirm}
use Rattle.osi_blameless.proofs.Vocabulary.{Connect, data2, disconnect, Value, Standing, Move, Two, Local, acceptance, opened_link}
use Rattle.osi_blameless.proofs.Vocabulary.{value_at, linked, is_open, uses, Connection, Way as Direction, Sessions, Answering, answering}
use Rattle.osi_blameless.proofs.Vocabulary.{AreStrays, Asked, Called, comes, line_of, refuses, runs, StrayIf, at_first}
use Rattle.osi_blameless.proofs.Vocabulary.{first_at, is_at, Placed, values, keep, Act, Acts, ActsAlong, Line}
use Rattle.osi_blameless.proofs.Vocabulary.{opened_line, units_put, Whole, HaveSamePlaces, arith, each_sound, differ}
use Rattle.osi_side.specs.declared.directions.Direction.TheVariants as side
use Rattle.osi_rules.specs.declared.directions.Direction.TheVariants.{Left, Right}
use Rattle.osi_blameless.proofs.transport.by_place.each_connection_has_its_place.{Running, past}
use Rattle.osi_blameless.proofs.transport.connections.units_by_their_place.{units_at}
use Rattle.osi_blameless.proofs.small_facts_that_many_lemmas_use.{all_join as all_of_both}
use Rattle.osi_blameless.proofs.putting.a_called_end_of_class_2_puts_no_dt_of_class_0.{StandsAt, none_of_zero_put, place_parts, put_so}
use Rattle.osi_blameless.proofs.shown.a_right_dt_has_one_place.{still_used}
use Rattle.osi_blameless.proofs.putting.a_whole_end_runs_along.{HasLines}
use Rattle.osi_blameless.proofs.shown.connections_have_the_same_places.{at_same}
use Rattle.osi_blameless.proofs.putting.by_its_places_each_unit_of_an_end_has_a_home.{named_open, not_empty, only_one, row_peer}
use Rattle.osi_blameless.proofs.putting.by_its_places_each_unit_of_an_end_has_a_home.{same_number}
use Rattle.osi_blameless.proofs.putting.by_its_places_each_unit_of_an_end_has_a_home.{used_asked}
use Rattle.osi_blameless.proofs.putting.each_unit_of_a_turn_has_one_connection.{HasHome}
use Rattle.osi_blameless.proofs.putting.ccs_among_units.{AnswersTwo, AreOrdered, HasCc, IsCc, has_back}
use Rattle.osi_blameless.proofs.putting.what_a_turn_puts_goes_to_its_peer.{IsNotZero, all_so, one_of}
use Rattle.osi_blameless.proofs.standing.what_stands_of_a_connection.{is_for}
use Rattle.osi_blameless.proofs.transport.what_each_thing_keeps_all_of_them_keep.{along_keeps}
use Rattle.osi_blameless.proofs.transport.by_place.an_end_answers_a_cr.{item_is as item}

-- ---- what a line puts

-- no CC, and a DT or an AK of class 2 for this reference
abbrev IsTo : ℕ → Value → Type 0
IsTo peer (data2 n number end user) = n ≡ peer
IsTo peer (acknowledge credit n number) = n ≡ peer
IsTo peer (confirm n x) = ⊥
IsTo peer _ = Unit {0}

move_to : (peer : ℕ) (move : Move) → AllByRecursion (IsTo peer) (units_put peer move)
move_to peer move = grind arith

module _ (d : Direction) (r peer : ℕ) where
  abbrev PutsTo : Line → Type 0
  PutsTo line = AllByRecursion (IsTo peer) line.put

  act_to : (act : Act) (old new : Line) → Acts d r peer act old new → PutsTo old → PutsTo new
  act_to act old new one h = grind (arith, all_of_both, move_to)

  acts_to : (acts : List Act) (old new : Line) → ActsAlong d r peer old acts new → PutsTo old → PutsTo new
  acts_to = along_keeps (Acts d r peer) PutsTo act_to

-- ---- small facts

cc_not_to : {A : Type 0} (n r peer : ℕ) (v : Value) → IsCc n r v → IsTo peer v → A
cc_not_to n r peer h h2 k = grind arith

has_not_to : {A : Type 0} (n r peer : ℕ) (vs : List Value) → HasCc n r vs → AllByRecursion (IsTo peer) vs → A
has_not_to n r peer [] h all = absurd h
has_not_to n r peer (v ∷ vs) (inl h) all = cc_not_to n r peer v h all.0
has_not_to n r peer (v ∷ vs) (inr h) all = has_not_to n r peer vs h all.1

to_two : (peer : ℕ) (v : Value) → IsTo peer v → AnswersTwo v
to_two peer v h = grind arith

-- a unit for this reference that a line puts is for its peer
to_peer : (n peer : ℕ) (v : Value) → is_for (Some n) v ≡ true → IsNotZero v → IsTo peer v → n ≡ peer
to_peer n peer v h h2 to = grind (arith, eqb-true)

-- one of these is the first, or one of the others
first_or : (xs ys us : List Value) (u v : Value) → xs ++ v ∷ ys ≡ u ∷ us →
    ((xs ≡ []) × (v ≡ u)) ⊎ ((zs : List Value) × (xs ≡ u ∷ zs) × (zs ++ v ∷ ys ≡ us))
first_or [] ys us u v e = inl (refl, cc)
first_or (x ∷ xs) ys us u v e = grind arith

has_at : (n r p : ℕ) (ts : List Placed) → HasCc n r (units_at p ts) → HasCc n r (values ts)
has_at n r p [] h = absurd h
has_at n r p (t ∷ ts) h = by (is_at p t.0) h (λ k. has_at n r p ts k)
  where
    by : (b : Bool) → HasCc n r (keep b t.1 (units_at p ts)) → (HasCc n r (units_at p ts) → HasCc n r (values ts)) →
        HasCc n r (t.1 ∷ values ts)
    by true (inl k) rest = inl k
    by true (inr k) rest = inr (rest k)
    by false k rest = inr (rest k)

has_more : (n r p : ℕ) (t : Placed) (ts : List Placed) → HasCc n r (units_at p ts) → HasCc n r (units_at p (t ∷ ts))
has_more n r p t ts h = grind (arith, is_at, keep, units_at)

-- ---- the CCs that a called end has put

module _ (local : Local) (w : Whole) (t : Sessions) (lined : HasLines local w) (places : HaveSamePlaces w.judge.connections t.live) where
  abbrev f : Called local w
  f = lined.called

  -- a CC, and the connection that waits for it; it is among these units
  record CcAt (n r : ℕ) (among : List Placed) : Type 0 where
    place : ℕ
    c : Connection
    x : Connect
    at : slice_get w.judge.connections place ≡ Some c
    asked : Asked x c
    source : x.source ≡ n
    index : f.refs place ≡ Some r
    cc_is : Connect
    more : List Value
    here : units_at place f.tagged ≡ confirm x.source cc_is ∷ more
    to : AllByRecursion (IsTo x.source) more
    has : HasCc n r (units_at place among)

  -- the CC that is to pass
  abbrev cc_of : (p : ℕ) (c : Connection) → Answering local f.shut w.end w.coming (units_at p f.tagged) (w.begun && first_at p f.tagged)
      (f.refs p) c → Value
  cc_of p c h = confirm h.x.source (acceptance Two h.size h.x local h.r)

  -- what is put for a connection after its CC is for its peer
  answers_to : (p : ℕ) (c : Connection) (h : Answering local f.shut w.end w.coming (units_at p f.tagged) (w.begun && first_at p f.tagged)
      (f.refs p) c) → AllByRecursion (IsTo h.x.source) h.more
  answers_to p c h =
      acts_to Right h.r h.x.source h.acts (opened_line (opened_link Two h.size local h.x.credit) c) (line_of h.link h.more h.come c)
      (h.along c) tt

  runs_to : (p : ℕ) (c : Connection)
      (h : Running f.shut w.end w.coming (units_at p f.tagged) (w.begun && first_at p f.tagged) (f.refs p) c) →
      AllByRecursion (IsTo h.peer) (units_at p f.tagged)
  runs_to p c h =
      subst (AllByRecursion (IsTo h.peer)) h.put
      (acts_to Right h.r h.peer h.tracks.acts h.tracks.first h.line h.tracks.along
      (subst (AllByRecursion (IsTo h.peer)) (sym h.tracks.opened.put) tt))

  cc_by : (n r p : ℕ) (c : Connection) (front rest : List Placed) (v : Value) → slice_get w.judge.connections p ≡ Some c →
      f.tagged ≡ front ++ (Some p, v) ∷ rest → IsCc n r v → StandsAt local w f p c → CcAt n r ((Some p, v) ∷ rest)
  cc_by n r p c front rest v at is mine (comes x a none ask index) =
      not_empty (units_at p front) (units_at p rest) v (sym (place_parts f.tagged p front rest v is) ∙ none)
  cc_by n r p c front rest v at is mine (refuses x a reason put none index seen) =
      let one = only_one (units_at p front) (units_at p rest) (disconnect x.source 0 reason []) v
      (sym (place_parts f.tagged p front rest v is) ∙ put) in
      absurd (subst (IsCc n r) one mine)
  cc_by n r p c front rest v at is mine (answering h none) =
      by (first_or (units_at p front) (units_at p rest) h.more (cc_of p c h) v
      (sym (place_parts f.tagged p front rest v is) ∙ h.mine_is))
    where
      later : AllByRecursion (IsTo h.x.source) h.more
      later = answers_to p c h

      by : ((units_at p front ≡ []) × (v ≡ cc_of p c h)) ⊎
          ((zs : List Value) × (units_at p front ≡ cc_of p c h ∷ zs) × (zs ++ v ∷ units_at p rest ≡ h.more)) →
          CcAt n r ((Some p, v) ∷ rest)
      by (inl (first, one)) =
          let both = subst (IsCc n r) one mine in
          record {
            place = p;
            c = c;
            x = h.x;
            at = at;
            asked = h.asked;
            source = both.0;
            index = h.index ∙ ap (λ (i : ℕ). Some i) both.1;
            cc_is = acceptance Two h.size h.x local h.r;
            more = h.more;
            here = h.mine_is;
            to = later;
            has = subst (HasCc n r) (sym (at_first p v rest)) (inl mine);
          }
      by (inr (zs, first, others)) =
          cc_not_to n r h.x.source v mine
          (one_of (IsTo h.x.source) zs (units_at p rest) v (subst (AllByRecursion (IsTo h.x.source)) (sym others) later))
  cc_by n r p c front rest v at is mine (runs h none) =
      cc_not_to n r h.peer v mine
      (one_of (IsTo h.peer) (units_at p front) (units_at p rest) v
      (subst (AllByRecursion (IsTo h.peer)) (place_parts f.tagged p front rest v is) (runs_to p c h)))
  cc_by n r p c front rest v at is mine (past silent up none asks un off) =
      not_empty (units_at p front) (units_at p rest) v (sym (place_parts f.tagged p front rest v is) ∙ none)

  cc_one : (n r : ℕ) (front rest : List Placed) (o : Option ℕ) (v : Value) → f.tagged ≡ front ++ (o, v) ∷ rest →
      StrayIf f.shut w.end f.refs f.home w.judge.course.disconnects.strays o v rest → IsCc n r v → CcAt n r ((o, v) ∷ rest)
  cc_one n r front rest None v is stray mine = absurd (subst (IsCc n r) stray.is mine)
  cc_one n r front rest (Some p) v is stray mine = by (slice_get w.judge.connections p) refl
    where
      by : (o : Option Connection) → slice_get w.judge.connections p ≡ o → CcAt n r ((Some p, v) ∷ rest)
      by None e = not_empty (units_at p front) (units_at p rest) v (sym (place_parts f.tagged p front rest v is) ∙ (f.beyond p e).0)
      by (Some c) e = cc_by n r p c front rest v e is mine (f.stands p c e)

  cc_among : (n r : ℕ) (front rest : List Placed) → f.tagged ≡ front ++ rest →
      AreStrays f.shut w.end f.refs f.home w.judge.course.disconnects.strays rest → HasCc n r (values rest) → CcAt n r rest
  cc_among n r front [] is strays h = absurd h
  cc_among n r front (m ∷ rest) is strays (inl h) = cc_one n r front rest m.0 m.1 is strays.0 h
  cc_among n r front (m ∷ rest) is strays (inr h) =
      search (arith, append_assoc, has_more, cc_among n r (front ++ m ∷ []) rest (is ∙ sym (append_assoc front (m ∷ []) rest)) strays.1 h)

  cc_at : (n r : ℕ) → HasCc n r w.put → CcAt n r f.tagged
  cc_at n r h = cc_among n r [] f.tagged refl f.strays (subst (HasCc n r) f.put h)

  -- ---- no two are for one reference

  same_place : (n r q : ℕ) (ts us : List Placed) (k : CcAt n r ts) (l : CcAt n q us) → k.place ≡ l.place
  same_place n r q ts us k l =
      lined.named.used n k.place l.place k.c l.c k.at l.at (grind (arith, used_asked k.x k.c k.asked))
      (grind (arith, used_asked l.x l.c l.asked))

  pub same_destination : (n r q : ℕ) → HasCc n r w.put → HasCc n q w.put → r ≡ q
  same_destination n r q h i =
      let k = cc_at n r h in
      let l = cc_at n q i in
      same_number (f.refs k.place) r q k.index (ap f.refs (same_place n r q f.tagged f.tagged k l) ∙ l.index)

  pub same_source : (m n r : ℕ) → HasCc m r w.put → HasCc n r w.put → m ≡ n
  same_source m n r h i =
      let k = cc_at m r h in
      let l = cc_at n r i in
      let same : k.place ≡ l.place = sym (f.homes k.place r k.index).0 ∙ (f.homes l.place r l.index).0 in
      grind (arith, item)

  -- nor for that of a connection which the end has open at the judge
  open_not : {A : Type 0} (n r : ℕ) (ts : List Placed) (k : CcAt n r ts) (i : ℕ) (e : Connection) →
      slice_get w.judge.connections i ≡ Some e →
      is_open e.right.phase ≡ true → e.left.reference ≡ n → A
  open_not n r ts k i e at lives is =
      let (j, here, one) = at_same w.judge.connections t.live i e places at in
      let used = still_used side.Right n e j one (each_sound Left w.judge.connections lined.apart lined.named i e at) lives
      (ap (λ (m : ℕ). Some m) (one.calling ∙ is)) in
      let same : k.place ≡ i =
      lined.named.used n k.place i k.c e k.at at (grind (arith, used_asked)) used in
      grind (arith, item, differ)

  pub none_open_for : (n r : ℕ) → HasCc n r w.put → (i : ℕ) (e : Connection) → slice_get w.judge.connections i ≡ Some e →
      is_open e.right.phase ≡ true → e.left.reference ≡ n → ⊥
  none_open_for n r h i e at lives is = open_not n r f.tagged (cc_at n r h) i e at lives is

  -- ---- each comes before what is for it

  ordered_here : {A : Type 0} (n r p : ℕ) (front rest : List Placed) (v : Value) → f.tagged ≡ front ++ (Some p, v) ∷ rest →
      is_for (Some n) v ≡ true → (k : CcAt n r rest) → p ≡ k.place → A
  ordered_here n r p front rest v is mine k same =
      by (first_or (units_at p front) (units_at p rest) k.more (confirm k.x.source k.cc_is) v
      (sym (place_parts f.tagged p front rest v is) ∙ ap (λ (i : ℕ). units_at i f.tagged) same ∙ k.here))
    where
      by : {A : Type 0} → ((units_at p front ≡ []) × (v ≡ confirm k.x.source k.cc_is))
          ⊎ ((zs : List Value) × (units_at p front ≡ confirm k.x.source k.cc_is ∷ zs) × (zs ++ v ∷ units_at p rest ≡ k.more)) → A
      by (inl (first, one)) = differ (is_for (Some n) v) mine (ap (is_for (Some n)) one)
      by (inr (zs, first, others)) =
          has_not_to n r k.x.source k.more
          (grind (arith, has_back, units_at)) k.to

  ordered_by : (n r p : ℕ) (c : Connection) (front rest : List Placed) (v : Value) → slice_get w.judge.connections p ≡ Some c →
      f.tagged ≡ front ++ (Some p, v) ∷ rest → IsNotZero v → is_for (Some n) v ≡ true → CcAt n r rest → StandsAt local w f p c → ⊥
  ordered_by n r p c front rest v at is zero mine k (comes x a none ask index) =
      not_empty (units_at p front) (units_at p rest) v (sym (place_parts f.tagged p front rest v is) ∙ none)
  ordered_by n r p c front rest v at is zero mine k (refuses x a reason put none index seen) =
      let parts = place_parts f.tagged p front rest v is in
      search (arith, only_one, differ, units_at p front, units_at p rest, parts, is_for (Some n) v, is_for (Some n))
  ordered_by n r p c front rest v at is zero mine k (answering h none) =
      by (first_or (units_at p front) (units_at p rest) h.more (cc_of p c h) v
      (sym (place_parts f.tagged p front rest v is) ∙ h.mine_is))
    where
      later : AllByRecursion (IsTo h.x.source) h.more
      later = answers_to p c h

      by : ((units_at p front ≡ []) × (v ≡ cc_of p c h)) ⊎
          ((zs : List Value) × (units_at p front ≡ cc_of p c h ∷ zs) × (zs ++ v ∷ units_at p rest ≡ h.more)) → ⊥
      by (inl (first, one)) = differ (is_for (Some n) v) mine (ap (is_for (Some n)) one)
      by (inr (zs, first, others)) =
          let peer : n ≡ h.x.source = to_peer n h.x.source v mine zero
          (one_of (IsTo h.x.source) zs (units_at p rest) v (subst (AllByRecursion (IsTo h.x.source)) (sym others) later)) in
          let same : p ≡ k.place =
          lined.named.used n p k.place c k.c at k.at
          (subst (λ (i : ℕ). uses Left i c ≡ true) (sym peer) (used_asked h.x c h.asked)) (grind (arith, used_asked k.x k.c k.asked)) in
          ordered_here n r p front rest v is mine k same
  ordered_by n r p c front rest v at is zero mine k (runs h none) =
      let peer : n ≡ h.peer = to_peer n h.peer v mine zero
      (one_of (IsTo h.peer) (units_at p front) (units_at p rest) v
      (subst (AllByRecursion (IsTo h.peer)) (place_parts f.tagged p front rest v is) (runs_to p c h))) in
      open_not n r rest k p c at h.there (h.left ∙ sym peer)
  ordered_by n r p c front rest v at is zero mine k (past silent up none asks un off) =
      not_empty (units_at p front) (units_at p rest) v (sym (place_parts f.tagged p front rest v is) ∙ none)

  ordered_one : (n r : ℕ) (front rest : List Placed) (o : Option ℕ) (v : Value) → f.tagged ≡ front ++ (o, v) ∷ rest →
      StrayIf f.shut w.end f.refs f.home w.judge.course.disconnects.strays o v rest → IsNotZero v → is_for (Some n) v ≡ true →
      CcAt n r rest →
      ⊥
  ordered_one n r front rest None v is stray zero mine k = differ (is_for (Some n) v) mine (ap (is_for (Some n)) stray.is)
  ordered_one n r front rest (Some p) v is stray zero mine k = by (slice_get w.judge.connections p) refl
    where
      by : (o : Option Connection) → slice_get w.judge.connections p ≡ o → ⊥
      by None e = not_empty (units_at p front) (units_at p rest) v (sym (place_parts f.tagged p front rest v is) ∙ (f.beyond p e).0)
      by (Some c) e = ordered_by n r p c front rest v e is zero mine k (f.stands p c e)

  all_ordered : (front rest : List Placed) → f.tagged ≡ front ++ rest →
      AreStrays f.shut w.end f.refs f.home w.judge.course.disconnects.strays rest → AllByRecursion IsNotZero (values rest) →
      AreOrdered (values rest)
  all_ordered front [] is strays zero = tt
  all_ordered front (m ∷ rest) is strays zero =
      let next : f.tagged ≡ (front ++ m ∷ []) ++ rest = is ∙ sym (append_assoc front (m ∷ []) rest) in (
        λ n r mine h.
            ordered_one n r front rest m.0 m.1 is strays.0 zero.0 mine (cc_among n r (front ++ m ∷ []) rest next strays.1 h),
        all_ordered (front ++ m ∷ []) rest next strays.1 zero.1,
      )

  pub put_ordered : AreOrdered w.put
  put_ordered =
      subst AreOrdered (sym f.put)
      (all_ordered [] f.tagged refl f.strays (subst (AllByRecursion IsNotZero) f.put (none_of_zero_put local w f)))

  -- ---- the end has a connection open

  -- its CC waits, or the judge knows it and has it open
  pub open_there : w.end.ended ≡ None → (q peer : ℕ) (link : Standing) → value_at q w.end.live ≡ Some (linked peer link) →
      HasCc peer q w.put ⊎ HasHome side.Right q peer w.judge t
  open_there lasts q peer link is = by (slice_get w.judge.connections (f.home q)) refl
    where
      index : f.refs (f.home q) ≡ Some q
      index = f.linked_at lasts q peer link is

      none_given : {A : Type 0} → f.refs (f.home q) ≡ None → A
      none_given none = absurd (let no : Some q ≡ None = sym index ∙ none in cc)

      by_stand : (c : Connection) → slice_get w.judge.connections (f.home q) ≡ Some c → StandsAt local w f (f.home q) c →
          HasCc peer q w.put ⊎ HasHome side.Right q peer w.judge t
      by_stand c at (comes x a none ask ref) = none_given ref
      by_stand c at (refuses x a reason put none ref seen) = none_given ref
      by_stand c at (answering h none) =
          let name : h.r ≡ q = same_number (f.refs (f.home q)) h.r q h.index index in
          let same : peer ≡ h.x.source = grind (arith, row_peer) in
          inl (grind (arith, has_at peer q (f.home q) f.tagged (subst (HasCc peer q) (sym h.mine_is) (inl (sym same, name)))))
      by_stand c at (runs h none) =
          let name : h.r ≡ q = same_number (f.refs (f.home q)) h.r q h.index index in
          let same : peer ≡ h.peer = grind (arith, row_peer) in
          let (j, here, one) = at_same w.judge.connections t.live (f.home q) c places at in
          inr (grind (arith, named_open))
      by_stand c at (past silent up none asks un off) = absurd (un q index lasts peer link is)

      by : (o : Option Connection) → slice_get w.judge.connections (f.home q) ≡ o → HasCc peer q w.put ⊎ HasHome side.Right q peer w.judge t
      by None e = absurd ((f.beyond (f.home q) e).2 q index lasts peer link is)
      by (Some c) e = by_stand c e (f.stands (f.home q) c e)

  -- ---- each CC selects class 2

  two_at : (p : ℕ) (c : Connection) → StandsAt local w f p c → AllByRecursion AnswersTwo (units_at p f.tagged)
  two_at p c (comes x a none ask index) = subst (AllByRecursion AnswersTwo) (sym none) tt
  two_at p c (refuses x a reason put none index seen) = subst (AllByRecursion AnswersTwo) (sym put) (tt, tt)
  two_at p c (answering h none) =
      subst (AllByRecursion AnswersTwo) (sym h.mine_is) (
        refl,
        all_so (IsTo h.x.source) AnswersTwo (to_two h.x.source) h.more (answers_to p c h),
      )
  two_at p c (runs h none) = all_so (IsTo h.peer) AnswersTwo (to_two h.peer) (units_at p f.tagged) (runs_to p c h)
  two_at p c (past silent up none asks un off) = subst (AllByRecursion AnswersTwo) (sym none) tt

  pub put_answers_two : AllByRecursion AnswersTwo w.put
  put_answers_two = put_so AnswersTwo local w f (λ m n. tt) two_at
