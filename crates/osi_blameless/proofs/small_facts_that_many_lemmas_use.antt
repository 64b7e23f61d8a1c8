-- Small facts that lemmas of several files use: of truth values, lists and numbers, and of one step of a connection.
-- For all proofs of this crate.
use Rattle.osi_blameless.proofs.Vocabulary.{AllByRecursion, Bool, CanBeWritten, Carrier, Class, EndReason, Fits}
use Rattle.osi_blameless.proofs.Vocabulary.{HasFieldsInRange, List, None, Option, Some, Time as Stage, Two, Value, Zero, [], amid, ap}
use Rattle.osi_blameless.proofs.Vocabulary.{early, has_given, stage_at, stage_over, is_some, le-leb, lt-ltb, nat_le, past, refl, sym}
use Rattle.osi_blameless.proofs.Vocabulary.{true, ℕ, ◌&&◌, ◌++◌, ◌<◌, ◌∙◌, ◌∷◌, ◌≡◌, ◌≤◌, arith}
pub use Rattle.osi_blameless.proofs.ends.links.units_of_each_connection.{all_of_both as all_join}
pub use Rattle.osi_blameless.proofs.transport.small_facts_that_many_lemmas_use.{or_left as or_first}
pub use Rattle.osi_blameless.proofs.transport.names.what_a_side_knows_stays.{same_item}
pub use Rattle.osi_blameless.proofs.transport.names.a_right_unit_is_not_blamed.{same_item as same_one}

pub all_front : {X : Type 0} (P : X → Type 0) (xs ys : List X) → AllByRecursion P (xs ++ ys) → AllByRecursion P xs
all_front P [] ys h = tt
all_front P (x ∷ xs) ys h = (h.0, all_front P xs ys h.1)

pub all_left : (P : Value → Type 0) (xs ys : List Value) → AllByRecursion P (xs ++ ys) → AllByRecursion P xs
all_left P [] ys h = tt
all_left P (x ∷ xs) ys h = (h.0, all_left P xs ys h.1)

pub amid_not : {A : Type 0} (s : Stage) (peer : ℕ) → s ≡ early → s ≡ amid peer → A
amid_not s peer e h = absurd (cc (sym e ∙ h))

pub and_both : (a b : Bool) → (a && b) ≡ true → (a ≡ true) × (b ≡ true)
and_both a b h = grind arith

pub can_more : (some others : List Value) → AllByRecursion CanBeWritten some → AllByRecursion CanBeWritten others →
    AllByRecursion CanBeWritten (some ++ others)
can_more [] others a b = b
can_more (v ∷ some) others a b = (a.0, can_more some others a.1 b)

-- a connection that may still open is of an end that lasts
pub early_lasts : (r : ℕ) (c : Carrier) → stage_at r c ≡ early → c.ended ≡ None
early_lasts r c may = grind (arith, stage_at, stage_over)

pub given_so : (r : ℕ) (c : Carrier) → 0 < r → r ≤ c.given → has_given r c ≡ true
given_so r c some up = ap (λ (b : Bool). b && nat_le r c.given) (lt-ltb 0 r some) ∙ le-leb r c.given up

pub none_first : (xs ys : List Value) → xs ++ ys ≡ [] → xs ≡ []
none_first [] ys e = refl
none_first (x ∷ xs) ys e = absurd (cc)

pub none_some : {A : Type 0} (k : Option Class) (a : Class) → k ≡ None → k ≡ Some a → A
none_some k a h e = absurd (cc)

pub not_some : {A : Type 0} (o : Option ℕ) (n : ℕ) → o ≡ Some n → o ≡ None → A
not_some o n h e = absurd (cc)

pub over_none : {A : Type 0} (o : Option EndReason) → is_some o ≡ true → o ≡ None → A
over_none h h2 e = grind arith

pub over_not : {A : Type 0} (o : Option EndReason) → is_some o ≡ true → o ≡ None → A
over_not h h2 e = grind arith

pub past_not : {A : Type 0} (s : Stage) → s ≡ early → s ≡ past → A
past_not s e h = absurd (cc (sym e ∙ h))

pub ranges_of : (units : List Value) → AllByRecursion Fits units → AllByRecursion HasFieldsInRange units
ranges_of [] h = tt
ranges_of (v ∷ units) h = (h.0.in_range, ranges_of units h.1)

pub same_bool : (a b : Bool) → (a ≡ true → b ≡ true) → (b ≡ true → a ≡ true) → a ≡ b
same_bool a b h k = grind arith

pub zero_two : {A : Type 0} (k : Option Class) → k ≡ Some Zero → k ≡ Some Two → A
zero_two k h e = absurd (let no : Some Zero ≡ Some Two = sym h ∙ e in cc)
