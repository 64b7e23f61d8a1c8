-- The units that are kept of a side are all units of its TSDUs.
use Rattle.std.proofs.Common.{◌≡◌, ◌∙◌, ◌≤◌, ◌<◌, ◌+◌, ◌-◌, ◌++◌, ◌∷◌, ◌&&◌, refl, ap, sym, subst, arith, ℕ, zero, suc, true}
use Rattle.std.proofs.Common.{false}
use Rattle.std.proofs.Common.{List, [], length, map, take, drop, get_or, Option, Some, None, Result, Ok, Err}
use Rattle.std.proofs.Math.Seq.{take-append_seam, take-length}
use Rattle.std.proofs.lemmas.Bool.{and_parts, false≢true}
use Rattle.std.proofs.lemmas.List.{append_assoc, append-nil, get_or_append_left, length-append, length-drop, length-map, length-take}
use Rattle.std.proofs.lemmas.List.{map-append, take_all}
use Rattle.std.proofs.lemmas.List.{take-append-le, take_more}
use Rattle.std.proofs.lemmas.List.Folds.{list_all-append}
use Rattle.std.proofs.lemmas.List.Sums.{fold-append}
use Rattle.std.proofs.lemmas.Option.{get_or_from_slice_get, slice_get-get_or, slice_get_within}
use Rattle.std.specs.List.{list_all, slice_get}
use Rattle.bytes.proofs.Ranges.{slice_range_front}
use Rattle.osi_message.specs.Words.{Word, Words}
use Rattle.osi_session.specs.Standing.{Seen}
use Rattle.osi_spdu.specs.declared.faults.SpduFault.{SpduFault}
use Rattle.osi_side.specs.Explaining.{Remark, Told, read_as, remark, remarks, remarks_of}
use Rattle.osi_side.specs.Judging.{Keeps, Observed, Observes, is_empty}
use Rattle.osi_side.specs.Kept.{after_read, after_tsdu, kept}
use Rattle.osi_side.specs.Members.{Extends}
use Rattle.osi_side.specs.Sides.{observed}
use Rattle.osi_side.specs.declared.findings.Finding.TheVariants as found
use Rattle.osi_side.specs.declared.members.Member.{Member}
use Rattle.osi_witness.specs.declared.places.Stop.{Stop}
use Rattle.osi_witness.specs.declared.streams.Kept.{Kept}
use Rattle.osi_witness.specs.declared.streams.Tsdu.{Tsdu}
use Rattle.osi_witness.specs.declared.streams.Stream.{Stream}
use Rattle.osi_witness.specs.Streams.{octets_of, tsdus_in, tsdus_of, Keeps as StillKeeps}
use Rattle.osi_witness.specs.Trails.{remark_of}
use Rattle.osi_witness.specs.Units.{acting, words_of}
use Rattle.osi_witness.specs.Whole.{AllAreKept, AreUnitsOf, ends_within, is_in, is_of_first, octets_told, told_as, unit_in, units_kept}
use Rattle.osi_witness.specs.Whole.{IsWhole, IsWholeBut, TellsLast}

-- ---- a TSDU with which a side keeps the protocol is session units

by_read : (us : List (List ℕ)) (octets before : ℕ) (members : List Member) (t : Told) (r : Result Words SpduFault)
    → is_empty (after_read us octets before members r) ≡ false → read_as t r ≡ map (remark t) (acting r)
by_read us octets before members t (Ok words) h = refl
by_read us octets before members t (Err fault) h = absurd (false≢true (sym h))

pub all_words : (us : List (List ℕ)) (begin : Seen) (told : List Told) (t : Told) → is_empty (kept begin us (told ++ t ∷ [])) ≡ false
    → remarks_of t ≡ map (remark t) (words_of t.octets)
unfolding kept
all_words us begin told t h =
    let last = fold-append (after_tsdu us) (record { taken = 0; standing = begin } ∷ []) told (t ∷ []) in
    by_read us (length t.octets) t.before (kept begin us told) t _ (subst (λ (m : List Member). is_empty m ≡ false) last h)

remarks_more : (told : List Told) (t : Told) → remarks (told ++ t ∷ []) ≡ remarks told ++ remarks_of t
remarks_more [] t = append-nil (remarks_of t)
remarks_more (x ∷ told) t =
    ap (λ (r : List Remark). remarks_of x ++ r) (remarks_more told t) ∙ sym (append_assoc (remarks_of x) (remarks told) (remarks_of t))

-- a side that keeps the protocol with a TSDU has said all its words
pub words_told : (w : Observed) (told : List Told) (tsdu : List ℕ) (before : ℕ) → w.finding ≡ found.Kept
    → Observes w (told ++ told_as tsdu before ∷ [])
    → remarks (told ++ told_as tsdu before ∷ []) ≡ remarks told ++ map (remark (told_as tsdu before)) (words_of tsdu)
words_told w told tsdu before e o =
    let k : Keeps w (told ++ told_as tsdu before ∷ []) = grind (arith, e, o) in
    let here : Extends w.heard w.heard = λ i l. refl in
    let some : is_empty (kept w.begin w.heard (told ++ told_as tsdu before ∷ [])) ≡ false =
    subst (λ (m : List Member). is_empty m ≡ false) (k.kept w.heard here) k.some in
    remarks_more told (told_as tsdu before)
    ∙ ap (λ (r : List Remark). remarks told ++ r) (all_words w.heard w.begin told (told_as tsdu before) some)

-- ---- the units of one TSDU

pub taken_more : {X : Type 0} (xs : List X) (i : ℕ) (x : X) → slice_get xs i ≡ Some x → take (i + 1) xs ≡ take i xs ++ x ∷ []
taken_more xs i x e =
    take_more xs i x (slice_get_within xs i x e) ∙ ap (λ y. take i xs ++ y ∷ []) (get_or_from_slice_get xs i x x e)

none_there : {X : Type 0} (xs : List X) (i : ℕ) → slice_get xs i ≡ None → length xs ≤ i
none_there [] i e = omega arith
none_there (x ∷ xs) i e = grind (arith, e, slice_get-get_or (x ∷ xs) i x)

pub taken_all : {X : Type 0} (xs : List X) (i : ℕ) → slice_get xs i ≡ None → take i xs ≡ xs
taken_all xs i e = let l = none_there xs i e in take_all i xs l

pub units_in : (own : List (List ℕ)) (number : ℕ) (ks : List Kept) → list_all (is_in number) ks ≡ true
    → units_kept own ks ≡ map (unit_in (get_or own number [])) ks
units_in own number [] h = refl
units_in own number (k ∷ ks) h = grind (arith, and_parts (is_in number k) (list_all (is_in number) ks) h, units_in own number ks)

-- its first units are kept, and one more
pub one_more : (tsdu : List ℕ) (before place : ℕ) (ks : List Kept) (k : Kept) (w : Word) → k.place ≡ place → k.before ≡ before
    → slice_get (words_of tsdu) place ≡ Some w → map (unit_in tsdu) ks ≡ map (remark (told_as tsdu before)) (take place (words_of tsdu))
    → map (unit_in tsdu) (ks ++ k ∷ []) ≡ map (remark (told_as tsdu before)) (take (place + 1) (words_of tsdu))
one_more tsdu before place ks k w p b e h =
    let t = told_as tsdu before in
    let more : take (place + 1) (words_of tsdu) ≡ take place (words_of tsdu) ++ w ∷ [] = taken_more (words_of tsdu) place w e in
    let one : unit_in tsdu k ≡ remark t w = grind (arith, p, b, e) in
    map-append (unit_in tsdu) ks (k ∷ []) ∙ ap (λ (r : List Remark). r ++ unit_in tsdu k ∷ []) h
    ∙ ap (λ (r : Remark). map (remark t) (take place (words_of tsdu)) ++ r ∷ []) one
    ∙ sym (map-append (remark t) (take place (words_of tsdu)) (w ∷ [])) ∙ ap (map (remark t)) (sym more)

-- no unit acts after those that are kept
pub all_in : (tsdu : List ℕ) (before place : ℕ) (us : List Remark) → slice_get (words_of tsdu) place ≡ None
    → us ≡ map (remark (told_as tsdu before)) (take place (words_of tsdu)) → us ≡ map (remark (told_as tsdu before)) (words_of tsdu)
all_in tsdu before place us e h = h ∙ ap (map (remark (told_as tsdu before))) (taken_all (words_of tsdu) place e)

-- the first units of a TSDU with this number are kept
abbrev pub AreFirstOf : (tsdu : List ℕ) (number before : ℕ) → List Kept → Type 0
AreFirstOf tsdu number before ks = (map (unit_in tsdu) ks ≡ map (remark (told_as tsdu before)) (take (length ks) (words_of tsdu)))
    × (list_all (is_in number) ks ≡ true)

in_more : (number : ℕ) (ks : List Kept) (k : Kept) → k.tsdu ≡ number → list_all (is_in number) ks ≡ true
    → list_all (is_in number) (ks ++ k ∷ []) ≡ true
in_more number ks k e h =
    let both = list_all-append (is_in number) ks (k ∷ []) in
    let last : is_in number k ≡ true = grind (arith, e) in
    grind (arith, both, h, last)

pub one_kept : (tsdu : List ℕ) (number before n place : ℕ) (ks : List Kept) (k : Kept) (w : Word) → n ≡ length ks → place ≡ length ks
    → k.tsdu ≡ number → k.place ≡ place → k.before ≡ before → Some w ≡ slice_get (words_of tsdu) n → AreFirstOf tsdu number before ks
    → AreFirstOf tsdu number before (ks ++ k ∷ [])
one_kept tsdu number before n place ks k w a b t p e g h =
    let longer : length (ks ++ k ∷ []) ≡ length ks + 1 = length-append ks (k ∷ []) in
    let there : slice_get (words_of tsdu) (length ks) ≡ Some w =
    subst (λ (i : ℕ). slice_get (words_of tsdu) i ≡ Some w) a (sym g) in (
      one_more tsdu before (length ks) ks k w (p ∙ b) e there h.0
          ∙ ap (λ (i : ℕ). map (remark (told_as tsdu before)) (take i (words_of tsdu))) (sym longer),
      in_more number ks k t h.1,
    )

pub all_kept : (tsdu : List ℕ) (number before n : ℕ) (ks : List Kept) → n ≡ length ks → None ≡ slice_get (words_of tsdu) n
    → AreFirstOf tsdu number before ks → AreUnitsOf tsdu number before ks
all_kept tsdu number before n ks a g h =
    let none : slice_get (words_of tsdu) (length ks) ≡ None =
    subst (λ (i : ℕ). slice_get (words_of tsdu) i ≡ None) a (sym g) in
    record { units = all_in tsdu before (length ks) (map (unit_in tsdu) ks) none h.0; numbers = h.1 }

-- ---- octets and TSDUs are added

within_more : (n m : ℕ) (tsdus : List Tsdu) → n ≤ m → list_all (ends_within n) tsdus ≡ true → list_all (ends_within m) tsdus ≡ true
within_more n m [] l h = refl
within_more n m (t ∷ tsdus) l h = grind (arith, and_parts (ends_within n t) (list_all (ends_within n) tsdus) h, within_more n m tsdus l)

of_more : (octets more : List ℕ) (t : Tsdu) → ends_within (length octets) t ≡ true → octets_of (octets ++ more) t ≡ octets_of octets t
of_more octets more t h =
    let all = length-append octets more in
    let le : t.end ≤ length octets = grind arith in
    let same = slice_range_front octets (octets ++ more) t.start t.end (length octets) (take-append_seam octets more) le in
    grind arith

pub tsdus_stay : (octets more : List ℕ) (tsdus : List Tsdu) → list_all (ends_within (length octets)) tsdus ≡ true
    → tsdus_in (octets ++ more) tsdus ≡ tsdus_in octets tsdus
tsdus_stay octets more [] h = refl
tsdus_stay octets more (t ∷ tsdus) h =
    let both = and_parts (ends_within (length octets) t) (list_all (ends_within (length octets)) tsdus) h in
    ap (λ (x : List ℕ). x ∷ tsdus_in (octets ++ more) tsdus) (of_more octets more t both.0)
    ∙ ap (λ (xs : List (List ℕ)). octets_of octets t ∷ xs) (tsdus_stay octets more tsdus both.1)

pub rest_more : (octets more : List ℕ) (start : ℕ) → start ≤ length octets → drop start (octets ++ more) ≡ drop start octets ++ more
rest_more [] more zero l = refl
rest_more [] more (suc start) l = absurd (omega arith)
rest_more (o ∷ octets) more zero l = refl
rest_more (o ∷ octets) more (suc start) l = rest_more octets more start (omega arith)

-- octets of a TSDU pass
pub gathered : (few : ℕ) (octets more : List ℕ) (tsdus : List Tsdu) (start : ℕ) (ks : List Kept) (limit : Option Stop) (side : Observed)
    → AllAreKept few octets tsdus start ks limit side → AllAreKept few (octets ++ more) tsdus start ks limit side
gathered few octets more tsdus start ks limit side h =
    let same = tsdus_stay octets more tsdus h.within in
    let all = length-append octets more in
    record {
      told = h.told;
      first = subst (λ (own : List (List ℕ)). map octets_told h.told ≡ take (length h.told) own) (sym same) h.first;
      all = h.all;
      units = subst (λ (own : List (List ℕ)). units_kept own ks ≡ remarks h.told) (sym same) h.units;
      observes = h.observes;
      finding = h.finding;
      within = within_more (length octets) (length (octets ++ more)) tsdus (omega arith) h.within;
      begun = let l = h.begun in omega arith;
      numbers = h.numbers;
    }

pub all_of : (octets : List ℕ) (t : Tsdu) → t.start ≤ length octets → t.end ≡ length octets → octets_of octets t ≡ drop t.start octets
all_of octets t l e =
    let n = length-drop t.start octets in
    let all : take (length octets - t.start) (drop t.start octets) ≡ drop t.start octets =
    subst (λ (k : ℕ). take k (drop t.start octets) ≡ drop t.start octets) n (take-length (drop t.start octets)) in
    grind arith

pub tsdus_more : (octets : List ℕ) (tsdus : List Tsdu) (t : Tsdu) → t.start ≤ length octets → t.end ≡ length octets
    → tsdus_in octets (tsdus ++ t ∷ []) ≡ tsdus_in octets tsdus ++ drop t.start octets ∷ []
tsdus_more octets tsdus t l e =
    map-append (octets_of octets) tsdus (t ∷ []) ∙ ap (λ (x : List ℕ). tsdus_in octets tsdus ++ x ∷ []) (all_of octets t l e)

pub count_is : (octets : List ℕ) (tsdus : List Tsdu) → length (tsdus_in octets tsdus) ≡ length tsdus
count_is octets tsdus = length-map tsdus (octets_of octets)

numbers_more : (n m : ℕ) (ks : List Kept) → n ≤ m → list_all (is_of_first n) ks ≡ true → list_all (is_of_first m) ks ≡ true
numbers_more n m [] l h = refl
numbers_more n m (k ∷ ks) l h = grind (arith, and_parts (is_of_first n k) (list_all (is_of_first n) ks) h, numbers_more n m ks l)

pub units_stay : (own more : List (List ℕ)) (ks : List Kept) → list_all (is_of_first (length own)) ks ≡ true
    → units_kept (own ++ more) ks ≡ units_kept own ks
units_stay own more [] h = refl
units_stay own more (k ∷ ks) h =
    let both = and_parts (is_of_first (length own) k) (list_all (is_of_first (length own)) ks) h in
    let lt : k.tsdu < length own = let b = both.0 in grind arith in
    let same = get_or_append_left own more [] k.tsdu lt in
    grind (arith, units_stay own more ks both.1)

told_within : (told : List Told) (own : List (List ℕ)) → map octets_told told ≡ take (length told) own → length told ≤ length own
told_within told own h =
    let n = length-map told octets_told in
    let m = length-take (length told) own in
    let e = ap length h in
    omega arith

ended_within : (octets : List ℕ) (tsdus : List Tsdu) (t : Tsdu) → t.end ≡ length octets
    → list_all (ends_within (length octets)) tsdus ≡ true → list_all (ends_within (length octets)) (tsdus ++ t ∷ []) ≡ true
ended_within octets tsdus t e h =
    let both = list_all-append (ends_within (length octets)) tsdus (t ∷ []) in
    let last : ends_within (length octets) t ≡ true = grind (arith, e) in
    grind (arith, both, h, last)

-- the octets that have passed since the last TSDU are one
pub ended : (octets : List ℕ) (tsdus : List Tsdu) (start end : ℕ) (t : Tsdu) (ks : List Kept) (limit : Option Stop) (side : Observed)
    → t.start ≡ start → t.end ≡ length octets → end ≡ length octets → AllAreKept 0 octets tsdus start ks limit side
    → AllAreKept 1 octets (tsdus ++ t ∷ []) end ks limit side
ended octets tsdus start end t ks limit side s e z h =
    let l : t.start ≤ length octets = let b = h.begun in omega (arith, b, s) in
    let more = tsdus_more octets tsdus t l e in
    let n = length-append tsdus (t ∷ []) in
    let own = count_is octets tsdus in
    let numbers : list_all (is_of_first (length (tsdus_in octets tsdus))) ks ≡ true =
    subst (λ (k : ℕ). list_all (is_of_first k) ks ≡ true) (sym own) h.numbers in
    let in_own = told_within h.told (tsdus_in octets tsdus) h.first in
    record {
      told = h.told;
      first = subst (λ (o : List (List ℕ)). map octets_told h.told ≡ take (length h.told) o) (sym more)
          (h.first ∙ sym (take-append-le (length h.told) (tsdus_in octets tsdus) (drop t.start octets ∷ []) in_own));
      all = λ none. let a = h.all none in omega arith;
      units = subst (λ (o : List (List ℕ)). units_kept o ks ≡ remarks h.told) (sym more)
          (units_stay (tsdus_in octets tsdus) (drop t.start octets ∷ []) ks numbers ∙ h.units);
      observes = h.observes;
      finding = h.finding;
      within = ended_within octets tsdus t e h.within;
      begun = omega (arith, z);
      numbers = numbers_more (length tsdus) (length (tsdus ++ t ∷ [])) ks (omega arith) h.numbers;
    }

-- ---- the judge is told of a TSDU

numbers_in : (n number : ℕ) (ks : List Kept) → number < n → list_all (is_in number) ks ≡ true → list_all (is_of_first n) ks ≡ true
numbers_in n number [] l h = refl
numbers_in n number (k ∷ ks) l h = grind (arith, and_parts (is_in number k) (list_all (is_in number) ks) h, numbers_in n number ks)

both_numbers : (n number : ℕ) (ks more : List Kept) → number < n → list_all (is_of_first n) ks ≡ true → list_all (is_in number) more ≡ true
    → (list_all (is_of_first n) ks && list_all (is_of_first n) more) ≡ true
both_numbers n number ks more l h m = let last = numbers_in n number more l m in grind (arith, h, last)

-- it keeps the protocol with the last TSDU
pub told_last : (octets : List ℕ) (tsdus : List Tsdu) (start number before : ℕ) (ks more : List Kept) (limit : Option Stop)
    (old new : Observed) → limit ≡ None → number + 1 ≡ length tsdus → new.finding ≡ found.Kept
    → ((told : List Told) → Observes old told → Observes new (told ++ told_as (get_or (tsdus_in octets tsdus) number []) before ∷ []))
    → AreUnitsOf (get_or (tsdus_in octets tsdus) number []) number before more
    → AllAreKept 1 octets tsdus start ks limit old → AllAreKept 0 octets tsdus start (ks ++ more) limit new
told_last octets tsdus start number before ks more limit old new none n f o u h =
    let own = tsdus_in octets tsdus in
    let tsdu = get_or own number [] in
    let last = told_as tsdu before in
    let a = h.all none in
    let count = length-append h.told (last ∷ []) in
    let of_own = count_is octets tsdus in
    let is : length h.told ≡ number = omega arith in
    let there : number < length own = omega arith in
    let first : map octets_told h.told ≡ take number own = subst (λ (k : ℕ). map octets_told h.told ≡ take k own) is h.first in
    let one_longer : length (h.told ++ last ∷ []) ≡ number + 1 = omega arith in
    record {
      told = h.told ++ last ∷ [];
      first = map-append octets_told h.told (last ∷ []) ∙ ap (λ (xs : List (List ℕ)). xs ++ tsdu ∷ []) first
          ∙ sym (take_more own number [] there) ∙ ap (λ (k : ℕ). take k own) (sym one_longer);
      all = λ e. omega arith;
      units = map-append (remark_of own) ks more ∙ ap (λ (rs : List Remark). rs ++ units_kept own more) h.units
          ∙ ap (λ (rs : List Remark). remarks h.told ++ rs) (units_in own number more u.numbers ∙ u.units)
          ∙ sym (words_told new h.told tsdu before f (o h.told (h.observes none)));
      observes = λ e. o h.told (h.observes none);
      finding = λ e. f;
      within = h.within;
      begun = h.begun;
      numbers = list_all-append (is_of_first (length tsdus)) ks more
          ∙ both_numbers (length tsdus) number ks more (omega arith) h.numbers u.numbers;
    }

-- there is a limit
pub limited : (few any : ℕ) (octets : List ℕ) (tsdus : List Tsdu) (start : ℕ) (ks : List Kept) (limit later : Option Stop)
    (old new : Observed) → (later ≡ None → ⊥) → AllAreKept few octets tsdus start ks limit old
    → AllAreKept any octets tsdus start ks later new
limited few any octets tsdus start ks limit later old new some h =
    record {
      told = h.told;
      first = h.first;
      all = λ none. absurd (some none);
      units = h.units;
      observes = λ none. absurd (some none);
      finding = λ none. absurd (some none);
      within = h.within;
      begun = h.begun;
      numbers = h.numbers;
    }

-- ---- streams

moved : (few : ℕ) (o p : List ℕ) (ts us : List Tsdu) (st su : ℕ) (ks ls : List Kept) (limit : Option Stop) (side : Observed) → p ≡ o
    → us ≡ ts → su ≡ st → ls ≡ ks → AllAreKept few o ts st ks limit side → AllAreKept few p us su ls limit side
moved few o p ts us st su ks ls limit side e f g k h =
    subst (λ (x : List ℕ). AllAreKept few x us su ls limit side) (sym e)
    (subst (λ (x : List Tsdu). AllAreKept few o x su ls limit side) (sym f)
    (subst (λ (x : ℕ). AllAreKept few o ts x ls limit side) (sym g)
    (subst (λ (x : List Kept). AllAreKept few o ts st x limit side) (sym k) h)))

-- a side is told no further
pub stopped_whole : (s t u : Stream) (number : ℕ) → TellsLast number s t → StillKeeps t u → (u.limit ≡ None → ⊥) → IsWholeBut 1 s
    → IsWhole u
stopped_whole s t u number tells keeps some h =
    let o = ap (λ x. x.items) (keeps.octets ∙ tells.octets) in
    let ts = ap (λ x. x.items) (keeps.tsdus ∙ tells.tsdus) in
    let ks = ap (λ x. x.items) (keeps.kept ∙ tells.kept) in
    moved 0 s.octets.items u.octets.items s.tsdus.items u.tsdus.items s.start u.start s.kept.items u.kept.items u.limit (observed u.side)
    o ts (keeps.start ∙ tells.start) ks
    (limited 1 0 s.octets.items s.tsdus.items s.start s.kept.items s.limit u.limit (observed s.side) (observed u.side) some h)

-- it keeps the protocol with the last TSDU
pub told_whole : (s t : Stream) (number : ℕ) (more later : List Kept) → TellsLast number s t → number + 1 ≡ length s.tsdus.items
    → s.limit ≡ None → (observed t.side).finding ≡ found.Kept → AreUnitsOf (get_or (tsdus_of s) number []) number s.before more
    → later ≡ t.kept.items ++ more → IsWholeBut 1 s
    → AllAreKept 0 t.octets.items t.tsdus.items t.start later t.limit (observed t.side)
told_whole s t number more later tells n none f units e h =
    let o = ap (λ x. x.items) tells.octets in
    let ts = ap (λ x. x.items) tells.tsdus in
    let ks = e ∙ ap (λ x. x.items ++ more) tells.kept in
    moved 0 s.octets.items t.octets.items s.tsdus.items t.tsdus.items s.start t.start (s.kept.items ++ more) later t.limit (observed t.side)
    o ts tells.start ks
    (told_last s.octets.items s.tsdus.items s.start number s.before s.kept.items more t.limit (observed s.side) (observed t.side)
    (tells.limit ∙ none) n f tells.observes units
    (subst (λ (l : Option Stop). AllAreKept 1 s.octets.items s.tsdus.items s.start s.kept.items l (observed s.side)) (sym tells.limit) h))
