-- TSDUs that are handed in together, between two carriers.
-- For the laws.
use Rattle.osi_between.proofs.Vocabulary.{◌≡◌, refl, sym, ◌∙◌, ap, subst, ℕ, ◌+◌, Bool, not, List, [], ◌∷◌, map, Some, None}
use Rattle.osi_between.proofs.Vocabulary.{arith, append_assoc, append-nil, map-append, AllByRecursion, IsOctets, IsShortTsdu, Standing}
use Rattle.osi_between.proofs.Vocabulary.{sent, sent_all, Place, was_given, place_at, connection_in, linked, State, Both}
use Rattle.osi_between.proofs.Vocabulary.{Between, AreBetween, Acted, Carries, side, becomes, last_of, put_in, progress_of}
use Rattle.osi_between.proofs.Vocabulary.{message, Progress, in_use, behind_puts, leaves_use, Terms, add-zero, IsOpenAt}
use Rattle.osi_between.specs.Between.{under_way}
use Rattle.osi_between.proofs.unit.what_a_taken_unit_means.{brings_none, same_like}
use Rattle.osi_between.proofs.between.every_move_keeps_the_invariant.{sends}

-- ---- an open connection

record IsLinked (p : Place) : Type 0 where
  pub peer : ℕ
  pub link : Standing
  pub is : connection_in p ≡ Some (linked peer link)

linked_in : (p : Place) → progress_of p ≡ in_use → IsLinked p
linked_in (was_given (Some (linked peer link))) e = record { peer = peer; link = link; is = refl }
linked_in p e = absurd (cc)

open_at : (n : ℕ) (s : State) → s.ended ≡ None → progress_of (place_at n s) ≡ in_use → IsOpenAt n s
open_at n s alive e = grind (arith, linked_in)

-- TSDUs that are put change neither how far the connection is nor which references were given
puts_nothing : (p : Progress) (ts : List (List ℕ)) → behind_puts p (map message ts) ≡ p
puts_nothing p [] = refl
puts_nothing p (t ∷ ts) = ap (λ (q : Progress). behind_puts q (map message ts)) (grind arith) ∙ puts_nothing p ts

-- ---- none is handed in

none_carried : (terms : Terms) (end : Bool) (n : ℕ) (both : Both) (b : Between) → Carries terms end n both both b b [] []
none_carried terms end n both b =
    let place = place_at n (last_of end b) in
    record {
      arrived = [];
      stays = under_way end n both b;
      gone = [];
      told = sym (append-nil (last_of end b).events);
      came = same_like (connection_in place) (under_way (not end) n both b) (under_way (not end) n both b) refl;
      before = sym (append-nil (under_way end n both b));
      after = grind (arith, append-nil);
      brings = grind (arith, brings_none);
      others = λ q apart from. refl;
      other_places = λ q apart. refl;
      given = sym (ap (λ (k : ℕ). (last_of end b).given + k) (grind arith) ∙ add-zero (last_of end b).given);
      class = refl;
      local = refl;
      keeps = λ h. refl;
      there = refl;
      cut = refl;
      lost_still = refl;
    }

-- ---- one, and then the others

-- it is open afterwards too
open_behind : (terms : Terms) (end : Bool) (n : ℕ) (old new : Both) (b c : Between) (ts : List (List ℕ)) →
    Carries terms end n old new b c [] (map message ts) → progress_of (place_at n (last_of end b)) ≡ in_use →
    progress_of (place_at n (last_of end c)) ≡ in_use
open_behind terms end n old new b c ts x used = grind (arith, map, puts_nothing)

carries_both : (terms : Terms) (end : Bool) (n : ℕ) (old mid new : Both) (b c d : Between) (t : List ℕ) (ts : List (List ℕ)) →
    mid.reach ≡ old.reach → progress_of (place_at n (last_of end b)) ≡ in_use → Carries terms end n old mid b c [] (message t ∷ []) →
    Carries terms end n mid new c d [] (map message ts) → Carries terms end n old new b d [] (map message (t ∷ ts))
carries_both terms end n old mid new b c d t ts same open1 x y =
    let none : x.arrived ≡ [] = x.brings.is in
    let none2 : y.arrived ≡ [] = y.brings.is in
    let open2 = open_behind terms end n old mid b c (t ∷ []) x open1 in
    let open3 = open_behind terms end n mid new c d ts y open2 in
    let l2 = linked_in (place_at n (last_of end c)) open2 in
    let l3 = linked_in (place_at n (last_of end d)) open3 in
    let before2 : under_way end n mid c ≡ y.stays = grind (arith, append-nil) in
    record {
      arrived = [];
      stays = x.stays;
      gone = x.gone;
      told = grind (arith, append-nil);
      came = grind arith;
      before = x.before;
      after = grind (arith, map-append, map, append_assoc x.stays (put_in old (message t ∷ [])) (put_in mid (map message ts)));
      brings = grind (arith, map);
      others = λ q apart from. x.others q apart from ∙ y.others q apart from;
      other_places = λ q apart. y.other_places q apart ∙ x.other_places q apart;
      given = grind (arith, add-zero);
      class = grind arith;
      local = y.local ∙ x.local;
      keeps = λ h. x.keeps (ap (λ (p : Progress). leaves_use (progress_of (place_at n (last_of end b))) p) (open2 ∙ sym open3) ∙ h);
      there = y.there ∙ x.there;
      cut = x.cut ∙ y.cut;
      lost_still = y.lost_still ∙ x.lost_still;
    }

-- ---- all of them

abbrev after_all : Bool → ℕ → List (List ℕ) → Both → Both
after_all end n ts both = becomes end (sent_all n ts (side end both).state) (side end both).held both

abbrev after_one : Bool → ℕ → List ℕ → Both → Both
after_one end n t both = becomes end (sent n t (side end both).state) (side end both).held both

pub all_handed_in : (terms : Terms) (end : Bool) (both : Both) (b : Between) (n : ℕ) (ts : List (List ℕ)) →
    AreBetween terms both b → (side end both).state.ended ≡ None → progress_of (place_at n (last_of end b)) ≡ in_use →
    AllByRecursion IsShortTsdu ts → AllByRecursion IsOctets ts → Acted terms end n both (after_all end n ts both) b [] (map message ts)
all_handed_in terms end both b n [] between alive used short octets =
    subst (λ (x : Both). Acted terms end n both x b [] []) (grind arith)
    (record { now = b; between = between; carries = none_carried terms end n both b; lasts = alive })
all_handed_in terms end both b n (t ∷ ts) between alive used short octets =
    let at = open_at n (side end both).state alive
    (subst (λ (s : State). progress_of (place_at n s) ≡ in_use) (sym (between.lives end alive)) used) in
    let a = sends terms end both b n at.peer at.link t between alive at.is short.0 octets.0 in
    let more = all_handed_in terms end (after_one end n t both) a.now n ts a.between a.lasts
    (open_behind terms end n both (after_one end n t both) b a.now (t ∷ []) a.carries used) short.1 octets.1 in
    subst (λ (x : Both). Acted terms end n both x b [] (map message (t ∷ ts))) (grind arith)
    (record {
      now = more.now;
      between = more.between;
      carries = carries_both terms end n both (after_one end n t both) (after_all end n ts (after_one end n t both)) b a.now more.now t ts
          (grind arith) used a.carries more.carries;
      lasts = more.lasts;
    })
