-- The sessions that are kept of a side lead back to the one that begins, unit by unit: for the walk back from the last unit.
use Rattle.std.proofs.Common.{◌≡◌, ◌∙◌, ◌≤◌, ◌<◌, ◌+◌, ◌-◌, ◌++◌, ◌∷◌, refl, ap, sym, subst, arith, ℕ, zero, suc, true, false, inl, inr}
use Rattle.std.proofs.Common.{List, [], length, map, drop, take, get_or, Option, Some, None, Result, Ok, Err, OnOk}
use Rattle.std.proofs.Math.Numerals.{add-one}
use Rattle.std.proofs.lemmas.Bool.{false≢true}
use Rattle.std.proofs.lemmas.List.{length-append, map-append}
use Rattle.std.proofs.lemmas.List.Sums.{fold-append}
use Rattle.std.specs.List.{list_all, slice_get}
use Rattle.osi_message.specs.Words.{Word, Words}
use Rattle.osi_session.specs.Standing.{Seen, Count, Takes}
use Rattle.osi_session.specs.Steady.{Hears}
use Rattle.osi_spdu.specs.declared.faults.SpduFault.{SpduFault}
use Rattle.osi_side.specs.declared.findings.Finding.TheVariants as found
use Rattle.osi_side.specs.declared.members.Member.{Member}
use Rattle.osi_side.specs.Explaining.{Remark, Told, remark}
use Rattle.osi_side.specs.Judging.{Keeps, Observed, Observes, is_empty}
use Rattle.osi_side.specs.Kept.{after_read, after_tsdu, after_word, after_words, kept, member}
use Rattle.osi_side.specs.Members.{Extends}
use Rattle.osi_side.specs.Onward.{IsAmong}
use Rattle.osi_side.specs.Outlines.{AreAlike, outlines}
use Rattle.osi_side.specs.Sides.{observed}
use Rattle.osi_side.specs.Walking.{the_remark}
use Rattle.osi_side.proofs.outlined.alike_tsdus_explain_the_same.{outlines_alike}
use Rattle.osi_witness.specs.declared.places.Stop.{Stop}
use Rattle.osi_witness.specs.declared.streams.Kept.{Kept}
use Rattle.osi_witness.specs.declared.streams.Stream.{Stream}
use Rattle.osi_witness.specs.declared.streams.Tsdu.{Tsdu}
use Rattle.osi_witness.specs.Found.{ComesFrom, GoesOn, Stays, answers, says, takes}
use Rattle.osi_witness.specs.Linked.{AllCome, AllTook, AreAfter, AreLinked, HasHeard, IsFollowed, Leads, LeadsBack, Passed, last_kept}
use Rattle.osi_witness.specs.Streams.{tsdus_in, tsdus_of, unfinished, Adds, Keeps as StillKeeps}
use Rattle.osi_witness.specs.Trails.{remark_of}
use Rattle.osi_witness.specs.Units.{acting, words_of}
use Rattle.osi_witness.specs.Whole.{AreUnitsOf, IsWhole, IsWholeBut, TellsLast, is_of_first, told_as, units_kept}
use Rattle.osi_witness.proofs.a_run_explains_what_a_side_sent.{tsdus_same}
use Rattle.osi_witness.proofs.a_session_that_goes_on_is_found.{goes_up}
use Rattle.osi_witness.proofs.all_units_of_a_side_are_kept.{count_is, taken_all, taken_more, tsdus_more, tsdus_stay, units_in, units_stay}
use Rattle.osi_witness.proofs.each_session_that_is_kept_comes_from_one.{comes_from_one, comes_in_time}

-- ---- a session goes on by TSDUs as by those that the judge heard

takes_as : (s : Seen) (a b : List ℕ) (c : Count) → AreAlike a b → Takes s a c → Takes s b c
takes_as s a b c h k = λ joined e. sym (h (record { state = s.state; joined = joined })) ∙ k joined e

hears_as : (s t : Seen) (a b : List ℕ) → AreAlike a b → Hears s a t → Hears s b t
hears_as s t a b h k = record {
  count = k.count;
  listening = k.listening;
  taken = takes_as s a b k.count h k.taken;
  quiet = k.quiet;
  next = k.next;
}

-- those up to this one are alike
abbrev AlikeTo : (top : ℕ) → (us vs : List (List ℕ)) → Type 0
AlikeTo top us vs = (i : ℕ) → i < top → AreAlike (get_or us i []) (get_or vs i [])

stays_as : (us vs : List (List ℕ)) (top from : ℕ) (s : Seen) (n : ℕ) → AlikeTo top us vs → from + n ≤ top → Stays us from s n → Stays vs from s n
stays_as us vs top from s zero h l k = tt
stays_as us vs top from s (suc n) h l k = (
  hears_as s s (get_or us from []) (get_or vs from []) (h from (omega (arith, l))) k.0,
  stays_as us vs top (from + 1) s n h (omega (arith, l)) k.1,
)

goes_as : (us vs : List (List ℕ)) (m : Remark) (after : Member) (top n : ℕ) (s : Seen) → AlikeTo top us vs → after.taken ≤ top
    → GoesOn us m after n s → GoesOn vs m after n s
goes_as us vs m after top n z h l (takes taken s t k g) =
    let up = goes_up us m after (taken + 1) t g in
    takes taken s t (hears_as s t (get_or us taken []) (get_or vs taken []) (h taken (omega (arith, up, l))) k)
    (goes_as us vs m after top (taken + 1) t h l g)
goes_as us vs m after top n z h l (answers taken s c reply w k t q o a e) =
    let is = ap (λ (y : Member). y.taken) e in
    answers taken s c reply w k (takes_as s (get_or us taken []) (get_or vs taken []) c (h taken (omega (arith, is, l))) t) q o a e
goes_as us vs m after top n z h l (says taken waited s w o k c stays f) =
    says taken waited s w o k c (stays_as us vs top taken after.standing waited h (omega (arith, c, l)) stays) f

pub outlines_passed : (us : List (List ℕ)) → Passed (outlines us) us
outlines_passed us = λ i l. outlines_alike us i

-- ---- the units of one TSDU

word_comes : (heard us : List (List ℕ)) (w : Word) (octets before : ℕ) (members : List Member) → Passed heard us → before ≤ length heard
    → AllTook before members → AllCome us (the_remark w octets before) members (after_word heard octets before members w)
word_comes heard us w octets before members p l took x a =
    let late : x.taken ≤ before = comes_in_time heard w octets before members x took a in
    let from = comes_from_one heard w octets before members x a in (
      (
        from.0,
        from.1,
        goes_as heard us (the_remark w octets before) x (length heard) from.0.taken from.0.standing p (omega (arith, late, l)) from.2,
      ),
      late,
    )

pub words_linked : (heard us : List (List ℕ)) (tsdu : List ℕ) (before : ℕ) (members : List Member) (words : Words) (ks : List Kept)
    → Passed heard us → before ≤ length heard → AllTook before members → AreAfter heard (length tsdu) before members words ks
    → AreLinked us members (map (remark (told_as tsdu before)) words) ks
words_linked heard us tsdu before members [] [] p l took h = tt
words_linked heard us tsdu before members [] (k ∷ ks) p l took h = absurd h
words_linked heard us tsdu before members (w ∷ words) [] p l took h = absurd h
words_linked heard us tsdu before members (w ∷ words) (k ∷ ks) p l took h = (
  subst (AllCome us (the_remark w (length tsdu) before) members) (sym h.0)
      (word_comes heard us w (length tsdu) before members p l took),
  words_linked heard us tsdu before k.members.items words ks p l
      (subst (AllTook before) (sym h.0) (λ x a. comes_in_time heard w (length tsdu) before members x took a)) h.1,
)

pub words_took : (heard : List (List ℕ)) (octets before : ℕ) (members : List Member) (words : Words) (ks : List Kept)
    → AllTook before members → AreAfter heard octets before members words ks → AllTook before (last_kept members ks)
words_took heard octets before members [] [] took h = took
words_took heard octets before members [] (k ∷ ks) took h = absurd h
words_took heard octets before members (w ∷ words) [] took h = absurd h
words_took heard octets before members (w ∷ words) (k ∷ ks) took h =
    words_took heard octets before k.members.items words ks
    (subst (AllTook before) (sym h.0) (λ x a. comes_in_time heard w octets before members x took a)) h.1

pub words_last : (heard : List (List ℕ)) (octets before : ℕ) (members : List Member) (words : Words) (ks : List Kept)
    → AreAfter heard octets before members words ks → last_kept members ks ≡ after_words heard octets before members words
words_last heard octets before members [] [] h = refl
words_last heard octets before members [] (k ∷ ks) h = absurd h
words_last heard octets before members (w ∷ words) [] h = absurd h
words_last heard octets before members (w ∷ words) (k ∷ ks) h =
    words_last heard octets before k.members.items words ks h.1
    ∙ ap (λ (ms : List Member). after_words heard octets before ms words) h.0

pub one_word_more : (heard : List (List ℕ)) (octets before : ℕ) (members : List Member) (words : Words) (ks : List Kept) (w : Word) (k : Kept)
    → AreAfter heard octets before members words ks → k.members.items ≡ after_word heard octets before (last_kept members ks) w
    → AreAfter heard octets before members (words ++ w ∷ []) (ks ++ k ∷ [])
one_word_more heard octets before members [] [] w k h e = (e, tt)
one_word_more heard octets before members [] (l ∷ ks) w k h e = absurd h
one_word_more heard octets before members (v ∷ words) [] w k h e = absurd h
one_word_more heard octets before members (v ∷ words) (l ∷ ks) w k h e =
    (h.0, one_word_more heard octets before l.members.items words ks w k h.1 e)

-- the words of a TSDU as far as their units are kept
pub words_more : (heard : List (List ℕ)) (octets before n : ℕ) (members : List Member) (words : Words) (ks : List Kept) (w : Word) (k : Kept)
    → n ≡ length ks → Some w ≡ slice_get words n → AreAfter heard octets before members (take (length ks) words) ks
    → k.members.items ≡ after_word heard octets before (last_kept members ks) w
    → AreAfter heard octets before members (take (length (ks ++ k ∷ [])) words) (ks ++ k ∷ [])
words_more heard octets before n members words ks w k a g h e =
    let longer : length (ks ++ k ∷ []) ≡ length ks + 1 = length-append ks (k ∷ []) in
    let there : slice_get words (length ks) ≡ Some w = subst (λ (i : ℕ). slice_get words i ≡ Some w) a (sym g) in
    let more : take (length (ks ++ k ∷ [])) words ≡ take (length ks) words ++ w ∷ [] =
    ap (λ (i : ℕ). take i words) longer ∙ taken_more words (length ks) w there in
    subst (λ (ws : Words). AreAfter heard octets before members ws (ks ++ k ∷ [])) (sym more)
    (one_word_more heard octets before members (take (length ks) words) ks w k h e)

pub words_all : (heard : List (List ℕ)) (octets before n : ℕ) (members : List Member) (words : Words) (ks : List Kept) → n ≡ length ks
    → None ≡ slice_get words n → AreAfter heard octets before members (take (length ks) words) ks
    → AreAfter heard octets before members words ks
words_all heard octets before n members words ks a g h =
    let none : slice_get words (length ks) ≡ None = subst (λ (i : ℕ). slice_get words i ≡ None) a (sym g) in
    subst (λ (ws : Words). AreAfter heard octets before members ws ks) (taken_all words (length ks) none) h

-- ---- the units of a side

last_of : (members : List Member) (ks : List Kept) (i : ℕ) (k : Kept) → i + 1 ≡ length ks → slice_get ks i ≡ Some k
    → last_kept members ks ≡ k.members.items
last_of members [] i k n e = absurd (omega (arith, n))
last_of members (x ∷ []) zero k n e = let is : x ≡ k = one_kept x k e in ap (λ (y : Kept). y.members.items) is
  where
    one_kept : (x k : Kept) → Some x ≡ Some k → x ≡ k
    one_kept x k e = cc
last_of members (x ∷ []) (suc i) k n e = absurd (omega (arith, n))
last_of members (x ∷ y ∷ ks) zero k n e = absurd (omega (arith, n))
last_of members (x ∷ y ∷ ks) (suc i) k n e = last_of x.members.items (y ∷ ks) i k (omega (arith, n)) e

pub last_is : (members : List Member) (ks : List Kept) (k : Kept) → Some k ≡ slice_get ks (length ks - 1)
    → last_kept members ks ≡ k.members.items
last_is members [] k e = absurd (cc)
last_is members (x ∷ ks) k e = last_of members (x ∷ ks) (length (x ∷ ks) - 1) k (omega arith) (sym e)

pub last_more : (members : List Member) (ks more : List Kept) → last_kept members (ks ++ more) ≡ last_kept (last_kept members ks) more
last_more members [] more = refl
last_more members (k ∷ ks) more = last_more k.members.items ks more

linked_more : (us : List (List ℕ)) (members : List Member) (ms ns : List Remark) (ks more : List Kept) → AreLinked us members ms ks
    → AreLinked us (last_kept members ks) ns more → AreLinked us members (ms ++ ns) (ks ++ more)
linked_more us members [] ns [] more h k = k
linked_more us members [] ns (l ∷ ks) more h k = absurd h
linked_more us members (m ∷ ms) ns [] more h k = absurd h
linked_more us members (m ∷ ms) ns (l ∷ ks) more h k = (h.0, linked_more us l.members.items ms ns ks more h.1 k)

come_at : (us own : List (List ℕ)) (members : List Member) (ks : List Kept) (i : ℕ) (k : Kept) (after : Member)
    → AreLinked us members (units_kept own ks) ks → i < length ks → k ≡ get_or ks i k → IsAmong after (last_kept members (take (suc i) ks))
    → ComesFrom us (remark_of own k) (last_kept members (take i ks)) after × (after.taken ≤ k.before)
come_at us own members [] i k after h l e a = absurd (omega (arith, l))
come_at us own members (x ∷ ks) zero k after h l e a =
    subst (λ (y : Kept). ComesFrom us (remark_of own y) members after × (after.taken ≤ y.before)) (sym e) (h.0 after a)
come_at us own members (x ∷ ks) (suc i) k after h l e a = come_at us own x.members.items ks i k after h.1 (omega (arith, l)) e a

-- a session that is kept after a unit comes from one that was kept before it
pub comes_at : (us own : List (List ℕ)) (members : List Member) (ks : List Kept) (i : ℕ) (k : Kept) (after : Member)
    → AreLinked us members (units_kept own ks) ks → i < length ks → k ≡ get_or ks i k → IsAmong after (last_kept members (take (i + 1) ks))
    → ComesFrom us (remark_of own k) (last_kept members (take i ks)) after × (after.taken ≤ k.before)
comes_at us own members ks i k after h l e a =
    come_at us own members ks i k after h l e (subst (λ (n : ℕ). IsAmong after (last_kept members (take n ks))) (add-one i) a)

-- ---- a side of which nothing has passed, and what the other side sends

begins_so : (begin : Seen) (members : List Member) (limit : Option Stop) (before : ℕ) (side : Observed) → limit ≡ None
    → members ≡ member 0 begin ∷ [] → side.begin ≡ begin → side.finding ≡ found.Kept → Observes side []
    → LeadsBack begin members [] [] limit before side
unfolding kept
begins_so begin members limit before side n e b f o =
    let k : Keeps side [] = grind (arith, f, o) in
    let here : Extends side.heard side.heard = λ i l. refl in
    let is : side.members ≡ member 0 side.begin ∷ [] = k.kept side.heard here in
    record {
      first = e;
      linked = λ us p. tt;
      some = subst (λ (ms : List Member). is_empty ms ≡ false) (sym e) refl;
      took = subst (AllTook before) (sym e) (took_none before begin);
      last = λ none. e ∙ ap (λ (s : Seen). member 0 s ∷ []) (sym b) ∙ sym is;
      unlimited = λ k. n;
    }
  where
    took_none : (before : ℕ) (begin : Seen) → AllTook before (member 0 begin ∷ [])
    took_none before begin x (inl is) = let n = ap (λ (y : Member). y.taken) is in omega (arith, n)
    took_none before begin x (inr none) = absurd none

pub begins_with : (begin : Seen) (members : List Member) (own : List (List ℕ)) (ks : List Kept) (limit : Option Stop) (before : ℕ)
    (side : Observed) → limit ≡ None → ks ≡ [] → members ≡ member 0 begin ∷ [] → side.begin ≡ begin → side.finding ≡ found.Kept → Observes side []
    → LeadsBack begin members (units_kept own ks) ks limit before side
begins_with begin members own ks limit before side n none e b f o =
    subst (λ (xs : List Kept). LeadsBack begin members (units_kept own xs) xs limit before side) (sym none)
    (begins_so begin members limit before side n e b f o)

-- more may have passed before the next TSDU
pub leads_later : (begin : Seen) (members : List Member) (ms : List Remark) (ks : List Kept) (limit : Option Stop) (before later : ℕ)
    (side : Observed) → before ≤ later → LeadsBack begin members ms ks limit before side → LeadsBack begin members ms ks limit later side
leads_later begin members ms ks limit before later side l h = record {
  first = h.first;
  linked = h.linked;
  some = h.some;
  took = λ x a. let t = h.took x a in omega (arith, t, l);
  last = h.last;
  unlimited = h.unlimited;
}

-- there is a limit
pub leads_no_further : (begin : Seen) (members : List Member) (ms : List Remark) (ks : List Kept) (limit later : Option Stop) (before : ℕ)
    (old new : Observed) → (later ≡ None → ⊥) → (new.finding ≡ found.Kept → ⊥) → new.heard ≡ old.heard → LeadsBack begin members ms ks limit before old
    → LeadsBack begin members ms ks later before new
leads_no_further begin members ms ks limit later before old new some broke e h = record {
  first = h.first;
  linked = λ us p. h.linked us (subst (λ (heard : List (List ℕ)). Passed heard us) e p);
  some = h.some;
  took = h.took;
  last = λ none. absurd (some none);
  unlimited = λ k. absurd (broke k);
}

-- ---- the judge keeps the side after a TSDU more

kept_more : (begin : Seen) (us : List (List ℕ)) (told : List Told) (t : Told) → kept begin us (told ++ t ∷ [])
    ≡ after_tsdu us (kept begin us told) t
unfolding kept
kept_more begin us told t = fold-append (after_tsdu us) (member 0 begin ∷ []) told (t ∷ [])

read_words : (us : List (List ℕ)) (octets before : ℕ) (members : List Member) (r : Result Words SpduFault)
    → is_empty (after_read us octets before members r) ≡ false
    → after_words us octets before members (acting r) ≡ after_read us octets before members r
read_words us octets before members (Ok words) h = refl
read_words us octets before members (Err fault) h = absurd (false≢true (sym h))

-- the sessions after all words of the TSDU are those that it keeps then
pub kept_last : (old new : Observed) (told : List Told) (tsdu : List ℕ) (before : ℕ) → old.finding ≡ found.Kept → Observes old told
    → new.begin ≡ old.begin → new.heard ≡ old.heard → new.finding ≡ found.Kept → Observes new (told ++ told_as tsdu before ∷ [])
    → (after_words old.heard (length tsdu) before old.members (words_of tsdu) ≡ new.members) × (is_empty new.members ≡ false)
kept_last old new told tsdu before f o b h g q =
    let t = told_as tsdu before in
    let k : Keeps old told = grind (arith, f, o) in
    let n : Keeps new (told ++ told_as tsdu before ∷ []) = grind (arith, g, q) in
    let here : Extends old.heard old.heard = λ i l. refl in
    let there : Extends old.heard new.heard = λ i l. ap (λ (us : List (List ℕ)). get_or us i []) (sym h) in
    let was : old.members ≡ kept old.begin old.heard told = k.kept old.heard here in
    let is : new.members ≡ kept new.begin old.heard (told ++ t ∷ []) = n.kept old.heard there in
    let next : new.members ≡ after_tsdu old.heard old.members t =
    is ∙ ap (λ (s : Seen). kept s old.heard (told ++ t ∷ [])) b ∙ kept_more old.begin old.heard told t
    ∙ ap (λ (ms : List Member). after_tsdu old.heard ms t) (sym was) in (
      read_words old.heard (length tsdu) before old.members _ (subst (λ (ms : List Member). is_empty ms ≡ false) next n.some) ∙ sym next,
      n.some,
    )

pub leads_told : (begin : Seen) (members : List Member) (own : List (List ℕ)) (ks more : List Kept) (limit later : Option Stop)
    (number before : ℕ) (old new : Observed) (told : List Told) → limit ≡ None → later ≡ None → old.finding ≡ found.Kept → Observes old told
    → before ≤ length old.heard → new.begin ≡ old.begin → new.heard ≡ old.heard → new.finding ≡ found.Kept
    → Observes new (told ++ told_as (get_or own number []) before ∷ []) → AreUnitsOf (get_or own number []) number before more
    → AreAfter old.heard (length (get_or own number [])) before old.members (words_of (get_or own number [])) more
    → LeadsBack begin members (units_kept own ks) ks limit before old
    → LeadsBack begin members (units_kept own (ks ++ more)) (ks ++ more) later before new
leads_told begin members own ks more limit later number before old new told none still f o l b h g q units after leads =
    let tsdu = get_or own number [] in
    let last = kept_last old new told tsdu before f o b h g q in
    let was : last_kept members ks ≡ old.members = leads.last none in
    let took : AllTook before old.members = subst (AllTook before) was leads.took in
    let all : last_kept members (ks ++ more) ≡ new.members =
    last_more members ks more ∙ ap (λ (ms : List Member). last_kept ms more) was
    ∙ words_last old.heard (length tsdu) before old.members (words_of tsdu) more after ∙ last.0 in
    let of_it : map (remark (told_as tsdu before)) (words_of tsdu) ≡ units_kept own more = sym (units_in own number more units.numbers ∙ units.units) in
    let both : units_kept own ks ++ units_kept own more ≡ units_kept own (ks ++ more) = sym (map-append (remark_of own) ks more) in
    let linked : (us : List (List ℕ)) → Passed new.heard us → AreLinked us members (units_kept own (ks ++ more)) (ks ++ more) =
    λ us p.
    let passed : Passed old.heard us = subst (λ (heard : List (List ℕ)). Passed heard us) h p in
    let here : AreLinked us old.members (units_kept own more) more =
    subst (λ (ms : List Remark). AreLinked us old.members ms more) of_it
    (words_linked old.heard us tsdu before old.members (words_of tsdu) more passed l took after) in
    subst (λ (ms : List Remark). AreLinked us members ms (ks ++ more)) both
    (linked_more us members (units_kept own ks) (units_kept own more) ks more (leads.linked us passed)
    (subst (λ (ms : List Member). AreLinked us ms (units_kept own more) more) (sym was) here)) in
    record {
      first = leads.first;
      linked = linked;
      some = subst (λ (ms : List Member). is_empty ms ≡ false) (sym all) last.1;
      took = subst (AllTook before)
          (sym (last_more members ks more ∙ ap (λ (ms : List Member). last_kept ms more) was))
          (words_took old.heard (length tsdu) before old.members (words_of tsdu) more took after);
      last = λ e. all;
      unlimited = λ k. still;
    }

-- ---- streams

leads_moved : (begin : Seen) (b c : List Member) (o p : List ℕ) (ts us : List Tsdu) (ks ls : List Kept) (limit : Option Stop) (m n : ℕ)
    (side : Observed) → c ≡ b → p ≡ o → us ≡ ts → ls ≡ ks → n ≡ m
    → LeadsBack begin b (units_kept (tsdus_in o ts) ks) ks limit m side → LeadsBack begin c (units_kept (tsdus_in p us) ls) ls limit n side
leads_moved begin b c o p ts us ks ls limit m n side e f g h i l =
    subst (λ (x : List Member). LeadsBack begin x (units_kept (tsdus_in p us) ls) ls limit n side) (sym e)
    (subst (λ (x : List ℕ). LeadsBack begin b (units_kept (tsdus_in x us) ls) ls limit n side) (sym f)
    (subst (λ (x : List Tsdu). LeadsBack begin b (units_kept (tsdus_in o x) ls) ls limit n side) (sym g)
    (subst (λ (x : List Kept). LeadsBack begin b (units_kept (tsdus_in o ts) x) x limit n side) (sym h)
    (subst (λ (x : ℕ). LeadsBack begin b (units_kept (tsdus_in o ts) ks) ks limit x side) (sym i) l))))

-- a side is told no further
pub stopped_leads : (begin : Seen) (s t u : Stream) (number : ℕ) → TellsLast number s t → StillKeeps t u → u.side ≡ t.side
    → (u.limit ≡ None → ⊥) → ((observed t.side).finding ≡ found.Kept → ⊥) → Leads begin s → Leads begin u
stopped_leads begin s t u number tells keeps same some broke h =
    let heard = ap (λ x. (observed x).heard) same ∙ tells.heard in
    leads_moved begin s.begin.items u.begin.items s.octets.items u.octets.items s.tsdus.items u.tsdus.items s.kept.items u.kept.items u.limit
    s.before u.before (observed u.side) (ap (λ x. x.items) (keeps.begin ∙ tells.begin)) (ap (λ x. x.items) (keeps.octets ∙ tells.octets))
    (ap (λ x. x.items) (keeps.tsdus ∙ tells.tsdus)) (ap (λ x. x.items) (keeps.kept ∙ tells.kept)) (keeps.before ∙ tells.before)
    (leads_no_further begin s.begin.items (units_kept (tsdus_of s) s.kept.items) s.kept.items s.limit u.limit s.before (observed s.side)
    (observed u.side) some (λ k. broke (sym (ap (λ x. (observed x).finding) same) ∙ k)) heard h)

-- the judge keeps it with the last TSDU
pub told_leads : (begin : Seen) (s t : Stream) (number : ℕ) (more later : List Kept) → TellsLast number s t → s.limit ≡ None
    → (observed t.side).finding ≡ found.Kept → AreUnitsOf (get_or (tsdus_of s) number []) number s.before more
    → AreAfter (observed s.side).heard (length (get_or (tsdus_of s) number [])) s.before (observed s.side).members
    (words_of (get_or (tsdus_of s) number [])) more → later ≡ t.kept.items ++ more → IsWholeBut 1 s → Leads begin s
    → LeadsBack begin t.begin.items (units_kept (tsdus_in t.octets.items t.tsdus.items) later) later t.limit t.before (observed t.side)
told_leads begin s t number more later tells none f units after e whole h =
    leads_moved begin s.begin.items t.begin.items s.octets.items t.octets.items s.tsdus.items t.tsdus.items (s.kept.items ++ more) later
    t.limit s.before t.before (observed t.side) (ap (λ x. x.items) tells.begin) (ap (λ x. x.items) tells.octets)
    (ap (λ x. x.items) tells.tsdus) (e ∙ ap (λ x. x.items ++ more) tells.kept) tells.before
    (leads_told begin s.begin.items (tsdus_of s) s.kept.items more s.limit t.limit number s.before (observed s.side) (observed t.side)
    whole.told none (tells.limit ∙ none) (whole.finding none) (whole.observes none) tells.passed tells.begins tells.heard f
    (tells.observes whole.told (whole.observes none)) units after h)

-- octets of a TSDU pass
pub gathered_leads : (begin : Seen) (s : Stream) (octets more : List ℕ) → octets ≡ s.octets.items ++ more → IsWhole s → Leads begin s
    → LeadsBack begin s.begin.items (units_kept (tsdus_in octets s.tsdus.items) s.kept.items) s.kept.items s.limit s.before (observed s.side)
gathered_leads begin s octets more e whole h =
    let same : tsdus_in octets s.tsdus.items ≡ tsdus_of s =
    ap (λ (o : List ℕ). tsdus_in o s.tsdus.items) e ∙ tsdus_stay s.octets.items more s.tsdus.items whole.within in
    subst (λ (own : List (List ℕ)). LeadsBack begin s.begin.items (units_kept own s.kept.items) s.kept.items s.limit s.before (observed s.side))
    (sym same) h

-- they are a TSDU
pub ended_leads : (begin : Seen) (s : Stream) (tsdus : List Tsdu) (t : Tsdu) → tsdus ≡ s.tsdus.items ++ t ∷ [] → t.start ≡ s.start
    → t.end ≡ length s.octets.items → IsWhole s → Leads begin s
    → LeadsBack begin s.begin.items (units_kept (tsdus_in s.octets.items tsdus) s.kept.items) s.kept.items s.limit s.before (observed s.side)
ended_leads begin s tsdus t e at end whole h =
    let begun = whole.begun in
    let l : t.start ≤ length s.octets.items = omega (arith, at, begun) in
    let more : tsdus_in s.octets.items tsdus ≡ tsdus_of s ++ drop t.start s.octets.items ∷ [] =
    ap (λ (ts : List Tsdu). tsdus_in s.octets.items ts) e ∙ tsdus_more s.octets.items s.tsdus.items t l end in
    let of_own : list_all (is_of_first (length (tsdus_of s))) s.kept.items ≡ true =
    subst (λ (n : ℕ). list_all (is_of_first n) s.kept.items ≡ true) (sym (count_is s.octets.items s.tsdus.items)) whole.numbers in
    let same : units_kept (tsdus_in s.octets.items tsdus) s.kept.items ≡ units_kept (tsdus_of s) s.kept.items =
    ap (λ (own : List (List ℕ)). units_kept own s.kept.items) more
    ∙ units_stay (tsdus_of s) (drop t.start s.octets.items ∷ []) s.kept.items of_own in
    subst (λ (ms : List Remark). LeadsBack begin s.begin.items ms s.kept.items s.limit s.before (observed s.side)) (sym same) h

-- ---- two sides

-- a part of a TSDU of a side passes
pub followed_part : (begin after : Seen) (own now other : Stream) (octets : List ℕ) → Adds false octets own now → Leads begin now
    → (observed now.side).heard ≡ (observed own.side).heard → IsFollowed own other begin → IsFollowed other own after
    → IsFollowed now other begin × IsFollowed other now after
followed_part begin after own now other octets adds leads same f g =
    ((leads, same ∙ f.1), (g.0, g.1 ∙ ap outlines (sym adds.0)))

-- and if it is the last, the other side hears the TSDU
pub followed_whole : (begin after : Seen) (own now other later : Stream) (octets : List ℕ) → Adds true octets own now → Leads begin now
    → (observed now.side).heard ≡ (observed own.side).heard → IsFollowed own other begin → IsFollowed other own after
    → StillKeeps other later → ((begin : Seen) → Leads begin other → Leads begin later)
    → ((us : List (List ℕ)) (u : List ℕ) → tsdus_of now ≡ us ++ u ∷ [] → (observed other.side).heard ≡ outlines us → HasHeard later now)
    → IsFollowed now later begin × IsFollowed later now after
followed_whole begin after own now other later octets adds leads same f g keeps leads_on hears = (
  (leads, same ∙ f.1 ∙ ap outlines (sym (tsdus_same other later keeps))),
  (leads_on after g.0, hears (tsdus_of own) (unfinished own ++ octets) adds.0 g.1),
)

-- ---- memory

pub on_ok : {X E : Type 0} (r : Result X E) (P Q : Type 0) → (P → Q) → OnOk r P → OnOk r Q
on_ok (Ok x) P Q f h = f h
on_ok (Err e) P Q f h = tt

pub on_oks : {X E : Type 0} (r : Result X E) (P Q R S : Type 0) → (P → Q → R → S) → OnOk r P → OnOk r Q → OnOk r R → OnOk r S
on_oks (Ok x) P Q R S f p q s = f p q s
on_oks (Err e) P Q R S f p q s = tt
