-- Words that are added, words that are cut off, and the messages that they then make.
-- For words, what is in flight, turns, calls and packets.
use Rattle.osi_pair.proofs.Vocabulary.{◌≡◌, refl, ◌∙◌, ap, ℕ, List, [], ◌∷◌, ◌++◌, length, take, map, Option, Some, None, append_assoc, ◌⊎◌}
use Rattle.osi_pair.proofs.Vocabulary.{inl, inr, true, arith, take-append_seam, append-nil, Message, unit, ask, agree, deny, bye, over, DT}
use Rattle.osi_pair.proofs.Vocabulary.{First, Middle, Last, Word, whole, part, begun_octets, joins, left_of, MayFollow, IsBegun, AreInOrder}
use Rattle.osi_pair.proofs.Vocabulary.{list_any, is_leaving}

-- words after words, by what the first have begun
pub record Appends (b : Option (List ℕ)) (xs ys : List Word) : Type 0 where
  pub joins : joins b (xs ++ ys) ≡ joins b xs ++ joins (left_of b xs) ys
  pub left : left_of b (xs ++ ys) ≡ left_of (left_of b xs) ys
  pub order : AreInOrder b xs → AreInOrder (left_of b xs) ys → AreInOrder b (xs ++ ys)
  pub front : AreInOrder b (xs ++ ys) → AreInOrder b xs
  pub back : AreInOrder b (xs ++ ys) → AreInOrder (left_of b xs) ys

pub appends : (b : Option (List ℕ)) (xs ys : List Word) → Appends b xs ys
appends b [] ys = record { joins = refl; left = refl; order = λ h k. k; front = λ h. tt; back = λ h. h }
appends b (whole m ∷ xs) ys = grind (arith, appends None xs ys)
appends b (part First o ∷ xs) ys = grind (arith, appends (Some o) xs ys)
appends b (part Middle o ∷ xs) ys = grind (arith, appends (Some (begun_octets b ++ o)) xs ys)
appends b (part Last o ∷ xs) ys = grind (arith, appends None xs ys)

-- ---- after what has begun of a Data

-- what follows it: the rest of the Data; or a message by which its sender leaves; or only some of its parts, if the
-- last was cut off
pub record IsRest (b : List ℕ) (ms : List Message) : Type 0 where
  pub rest : List ℕ
  pub others : List Message
  pub is : ms ≡ unit (DT (b ++ rest)) ∷ others

pub record IsCut (begun : Option (List ℕ)) (ms : List Message) : Type 0 where
  pub none : ms ≡ []
  pub begins : IsBegun begun

abbrev pub Next : List ℕ → Option (List ℕ) → List Message → Type 0
Next b left ms = IsRest b ms ⊎ ((list_any is_leaving ms ≡ true) ⊎ IsCut left ms)

pub next_is : (b : List ℕ) (words : List Word) → AreInOrder (Some b) words → Next b (left_of (Some b) words) (joins (Some b) words)
next_is b [] h = inr (inr (record { none = refl; begins = tt }))
next_is b (whole (bye r) ∷ words) h = inr (inl refl)
next_is b (whole over ∷ words) h = inr (inl refl)
next_is b (part Last x ∷ words) h = inl (record { rest = x; others = joins None words; is = refl })
next_is b (part Middle x ∷ words) h = grind (arith, append_assoc, next_is (b ++ x) words h.2)
next_is b _ h = let no : Some b ≡ None = h.0 in cc

-- ---- what is in flight

-- the words without a suffix make the messages without a suffix
pub cut_behind : (b : Option (List ℕ)) (kept gone : List Word) → AreInOrder b (kept ++ gone) →
    (take (length (joins b kept)) (joins b (kept ++ gone)) ≡ joins b kept) × AreInOrder b kept
cut_behind b kept gone h = grind (arith, appends b kept gone, take-append_seam)

-- words that are these messages, each of them whole
pub record AreWords (words : List Word) (messages : List Message) : Type 0 where
  pub joined : joins None words ≡ messages
  pub left : left_of None words ≡ None
  pub order : AreInOrder None words

pub no_words : AreWords [] []
no_words = record { joined = refl; left = refl; order = tt }

-- messages that go by themselves
pub wholes : (ms : List Message) → AreWords (map whole ms) ms
wholes [] = no_words
wholes (m ∷ ms) = grind (arith, wholes ms)

-- words are added after words that are complete
pub put_words : (b : Option (List ℕ)) (words more : List Word) (ms : List Message) → AreInOrder b words → left_of b words ≡ None →
    AreWords more ms → (joins b (words ++ more) ≡ joins b words ++ ms) × (left_of b (words ++ more) ≡ None) × AreInOrder b (words ++ more)
put_words b words more ms h e are = grind (arith, appends b words more)

-- a message by which the sender leaves, after a prefix of them
abbrev pub MayLeave : Message → Type 0
MayLeave m = (b : Option (List ℕ)) → MayFollow b m

any_behind : (xs ys : List Message) → list_any is_leaving ys ≡ true → list_any is_leaving (xs ++ ys) ≡ true
any_behind (unit u ∷ xs) ys e = any_behind xs ys e
any_behind (ask ∷ xs) ys e = any_behind xs ys e
any_behind (agree ∷ xs) ys e = any_behind xs ys e
any_behind (deny r ∷ xs) ys e = any_behind xs ys e
any_behind xs ys e = grind arith

-- Of a front of them that leaves a Data unfinished: the whole of it was among the messages, or its sender has left, or
-- the messages are the same.
pub record IsAhead (ms all : List Message) : Type 0 where
  pub octets : List ℕ
  pub rest : List Message
  pub is : all ≡ ms ++ unit (DT octets) ∷ rest

pub record IsSame (left : Option (List ℕ)) (ms all : List Message) : Type 0 where
  pub is : all ≡ ms
  pub begins : IsBegun left

abbrev pub FrontOf : Option (List ℕ) → List Message → List Message → Type 0
FrontOf left ms all = IsAhead ms all ⊎ ((list_any is_leaving all ≡ true) ⊎ IsSame left ms all)

behind_it : (b : Option (List ℕ)) (left : Option (List ℕ)) (ms more all : List Message) → IsBegun b →
    ((x : List ℕ) → b ≡ Some x → Next x left more) → all ≡ ms ++ more → FrontOf left ms all
behind_it None left ms more all some next e = absurd some
behind_it (Some x) left ms more all some next e = elim (next x refl) [
  | inl r ↦ inl (record { octets = x ++ r.rest; rest = r.others; is = e ∙ ap (λ (l : List Message). ms ++ l) r.is })
  | inr (inl away) ↦ inr (inl (ap (list_any is_leaving) e ∙ any_behind ms more away))
  | inr (inr c) ↦ inr (inr (record { is = e ∙ ap (λ (l : List Message). ms ++ l) c.none ∙ append-nil ms; begins = c.begins }))
]

pub front_of : (b : Option (List ℕ)) (kept gone : List Word) → AreInOrder b (kept ++ gone) → IsBegun (left_of b kept) →
    FrontOf (left_of b (kept ++ gone)) (joins b kept) (joins b (kept ++ gone))
front_of b kept gone h some =
    behind_it (left_of b kept) (left_of b (kept ++ gone)) (joins b kept) (joins (left_of b kept) gone) (joins b (kept ++ gone)) some
    (grind (arith, appends b kept gone, next_is)) (appends b kept gone).joins

pub leave_behind : (b : Option (List ℕ)) (kept gone : List Word) (m : Message) → AreInOrder b (kept ++ gone) → MayLeave m →
    (joins b (kept ++ whole m ∷ []) ≡ take (length (joins b kept)) (joins b (kept ++ gone)) ++ m ∷ [])
    × (left_of b (kept ++ whole m ∷ []) ≡ None) × AreInOrder b (kept ++ whole m ∷ [])
leave_behind b kept gone m h leaves = grind (arith, take, length, cut_behind, appends b kept gone, appends b kept (whole m ∷ []))
