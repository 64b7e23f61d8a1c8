-- In a run of two sessions each side is explained, apart from the other, by what had passed before its TSDUs.
-- For the law that two explained sides are a pair, and only they.
use Rattle.osi_blameless.proofs.accord.Vocabulary.{[], ap, arith, get_or, length, List, map, refl, subst, ℕ, ◌++◌, ◌+◌, ◌∙◌, ◌∷◌, ◌≡◌}
use Rattle.osi_blameless.proofs.accord.Vocabulary.{get_or-append_seam, flat_map, Seen, Takes, Explains, IsExplained, Remark, remarks}
use Rattle.osi_blameless.proofs.accord.Vocabulary.{Direction, Left}
use Rattle.osi_blameless.proofs.accord.Vocabulary.{Right, Accords, Sending, sending, sending_of, told_by, tsdus_by, Turn, turn, Pair}
use Rattle.osi_blameless.proofs.accord.Vocabulary.{pair_of}
use Rattle.osi_side.specs.Explaining as explained
use Rattle.osi_blameless.specs.accord.Accords as accord
use Rattle.osi_blameless.proofs.accord.two_runs_are_one.{one_more, remarks_are, said_as, taken_one}

-- ---- what a side still sends

abbrev its_remarks : Direction → Sending → List Remark
its_remarks Left (sending Left own before words) = map (said_as (record { octets = own; before = before })) words
its_remarks Left (sending Right own before words) = []
its_remarks Right (sending Right own before words) = map (said_as (record { octets = own; before = before })) words
its_remarks Right (sending Left own before words) = []

abbrev remarks_left : Direction → List Sending → List Remark
remarks_left d sent = flat_map (its_remarks d) sent

abbrev its_tsdus : Direction → Sending → List (List ℕ)
its_tsdus Left (sending Left own before words) = own ∷ []
its_tsdus Left (sending Right own before words) = []
its_tsdus Right (sending Right own before words) = own ∷ []
its_tsdus Right (sending Left own before words) = []

abbrev tsdus_left : Direction → List Sending → List (List ℕ)
tsdus_left d sent = flat_map (its_tsdus d) sent

-- ---- the next TSDU that is taken

record Next (us : List (List ℕ)) (k : ℕ) (gone : List (List ℕ)) (tsdu : List ℕ) (rest others : List (List ℕ)) : Type 0 where
  there : tsdu ≡ get_or us k []
  counted : k + 1 ≡ length (gone ++ tsdu ∷ [])
  all : us ≡ (gone ++ tsdu ∷ []) ++ (rest ++ others)

next_of : (us : List (List ℕ)) (k : ℕ) (gone channel : List (List ℕ)) (tsdu : List ℕ) (rest others : List (List ℕ)) →
    us ≡ gone ++ (channel ++ others) → k ≡ length gone → channel ≡ tsdu ∷ rest → Next us k gone tsdu rest others
next_of us k gone channel tsdu rest others all e there = grind (arith, one_more, get_or-append_seam, taken_one)

one_sent : (us gone channel : List (List ℕ)) (own : List ℕ) (others : List (List ℕ)) → us ≡ gone ++ (channel ++ (own ∷ others)) →
    us ≡ gone ++ ((channel ++ own ∷ []) ++ others)
one_sent us gone channel own others all = all ∙ ap (λ (x : List (List ℕ)). gone ++ x) (taken_one channel own others)

-- ---- the sides

module _ (us : List (List ℕ)) where
  left_explained : {sent : List Sending} {p : Pair} → Accords sent p → (gone : List (List ℕ)) →
      us ≡ gone ++ (p.right.channel ++ tsdus_left Right sent) → p.left.taken ≡ length gone →
      Explains us (remarks_left Left sent) p.left.taken p.left.session
  left_explained (accord.done p) gone all e = explained.done _ _
  left_explained (accord.takes Left later p own before w words tsdu rest c l there h t n run) gone all e =
      let x = next_of us p.left.taken gone p.right.channel tsdu rest (tsdus_left Right later) all e there in
      explained.takes _ _ _ _ c l h (subst (λ (u : List ℕ). Takes p.left.session u c) x.there t) n
      (left_explained run (gone ++ tsdu ∷ []) x.all x.counted)
  left_explained (accord.takes Right later p own before w words tsdu rest c l there h t n run) gone all e = left_explained run gone all e
  left_explained (accord.answers Left later p own before w words tsdu rest c reply l there h t r i run) gone all e =
      let x = next_of us p.left.taken gone p.right.channel tsdu rest (tsdus_left Right later) all e there in
      explained.answers _ _ _ _ c reply w l h (subst (λ (u : List ℕ). Takes p.left.session u c) x.there t) r refl i
      (left_explained run (gone ++ tsdu ∷ []) x.all x.counted)
  left_explained (accord.answers Right later p own before w words tsdu rest c reply l there h t r i run) gone all e =
      left_explained run gone all e
  left_explained (accord.says Left later p own before w words next can run) gone all e =
      explained.says _ _ _ _ next w refl can (left_explained run gone all e)
  left_explained (accord.says Right later p own before w words next can run) gone all e = left_explained run gone all e
  left_explained (accord.sends Left later p own before run) gone all e = left_explained run gone all e
  left_explained (accord.sends Right later p own before run) gone all e =
      left_explained run gone (one_sent us gone p.right.channel own (tsdus_left Right later) all) e

  right_explained : {sent : List Sending} {p : Pair} → Accords sent p → (gone : List (List ℕ)) →
      us ≡ gone ++ (p.left.channel ++ tsdus_left Left sent) → p.right.taken ≡ length gone →
      Explains us (remarks_left Right sent) p.right.taken p.right.session
  right_explained (accord.done p) gone all e = explained.done _ _
  right_explained (accord.takes Right later p own before w words tsdu rest c l there h t n run) gone all e =
      let x = next_of us p.right.taken gone p.left.channel tsdu rest (tsdus_left Left later) all e there in
      explained.takes _ _ _ _ c l h (subst (λ (u : List ℕ). Takes p.right.session u c) x.there t) n
      (right_explained run (gone ++ tsdu ∷ []) x.all x.counted)
  right_explained (accord.takes Left later p own before w words tsdu rest c l there h t n run) gone all e = right_explained run gone all e
  right_explained (accord.answers Right later p own before w words tsdu rest c reply l there h t r i run) gone all e =
      let x = next_of us p.right.taken gone p.left.channel tsdu rest (tsdus_left Left later) all e there in
      explained.answers _ _ _ _ c reply w l h (subst (λ (u : List ℕ). Takes p.right.session u c) x.there t) r refl i
      (right_explained run (gone ++ tsdu ∷ []) x.all x.counted)
  right_explained (accord.answers Left later p own before w words tsdu rest c reply l there h t r i run) gone all e =
      right_explained run gone all e
  right_explained (accord.says Right later p own before w words next can run) gone all e =
      explained.says _ _ _ _ next w refl can (right_explained run gone all e)
  right_explained (accord.says Left later p own before w words next can run) gone all e = right_explained run gone all e
  right_explained (accord.sends Right later p own before run) gone all e = right_explained run gone all e
  right_explained (accord.sends Left later p own before run) gone all e =
      right_explained run gone (one_sent us gone p.left.channel own (tsdus_left Left later) all) e

-- ---- turns

turns_said : (d : Direction) (turns : List Turn) → remarks_left d (map sending_of turns) ≡ remarks (told_by d turns)
turns_said d [] = refl
turns_said Left (turn Left t ∷ turns) = grind (arith, remarks_are, turns_said Left turns)
turns_said Left (turn Right t ∷ turns) = turns_said Left turns
turns_said Right (turn Right t ∷ turns) = grind (arith, remarks_are, turns_said Right turns)
turns_said Right (turn Left t ∷ turns) = turns_said Right turns

turns_sent : (d : Direction) (turns : List Turn) → tsdus_by d turns ≡ tsdus_left d (map sending_of turns)
turns_sent d [] = refl
turns_sent Left (turn Left t ∷ turns) = ap (λ (x : List (List ℕ)). t.octets ∷ x) (turns_sent Left turns)
turns_sent Left (turn Right t ∷ turns) = turns_sent Left turns
turns_sent Right (turn Right t ∷ turns) = ap (λ (x : List (List ℕ)). t.octets ∷ x) (turns_sent Right turns)
turns_sent Right (turn Left t ∷ turns) = turns_sent Right turns

pub both_explained : (left right : Seen) (turns : List Turn) → Accords (map sending_of turns) (pair_of left right) →
    IsExplained left (tsdus_by Right turns) (told_by Left turns) × IsExplained right (tsdus_by Left turns) (told_by Right turns)
both_explained left right turns run = (
  grind (arith, turns_said Left turns, left_explained (tsdus_by Right turns) run [] (turns_sent Right turns) refl, turns_sent Right turns),
  grind (arith, turns_said Right turns, right_explained (tsdus_by Left turns) run [] (turns_sent Left turns) refl, turns_sent Left turns),
)
