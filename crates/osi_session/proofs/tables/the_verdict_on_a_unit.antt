-- The verdict on a unit, and on a token item that names no token.
use Rattle.std.proofs.Common.{◌≡◌, refl, ◌∙◌, Bool, true, false, not, ◌||◌, List, [], ◌∷◌, ◌++◌, None, if◌then◌else◌, arith}
use Rattle.osi_session.proofs.Vocabulary.{cases_Bool, append-nil, UnitFault, State, no_token, is_empty, is_over, Meaning, GT, alone, behind}
use Rattle.osi_session.proofs.Vocabulary.{said_of, Outcome, Condition, si, conditions, first_fault, drops, nothing, take_expected}
use Rattle.osi_session.proofs.Vocabulary.{has_no_effect, is_token_item, is_resynchronize, replies_abort, respond_unit, and_then, Verdict}
use Rattle.osi_session.proofs.Vocabulary.{faulty, fine, verdict, enacted, is_faulty, AllMet, IsGood, respond_all, acting, respond, ap}
use Rattle.osi_session.proofs.Vocabulary.{or_parts, discards, every_phase, good, Phase, is_restarting, bad, by_fault, dropped}
use Rattle.osi_session.proofs.Vocabulary.{judged, Unexpected, Option}
use Rattle.osi_session.proofs.tables.what_is_true_of_each_phase.{implied, excluded}

live : (s : State) (u : Meaning) (d x : Bool) (f : Option UnitFault) →
    (if d then nothing s else if not x then bad s (Unexpected (si u)) else judged s u f)
    ≡ enacted s u (if d then dropped else if not x then faulty (Unexpected (si u)) else by_fault f)
live s u d x f = grind arith

-- the table of units enacts the verdict
pub enacts : (s : State) (u : Meaning) → respond_unit s u ≡ enacted s u (verdict s u)
unfolding respond_unit take_expected
enacts s u = grind (arith, cases_Bool, implied, live)

all_passed : (s : State) (u : Meaning) (cs : List Condition) → AllMet cs → first_fault (si u) cs ≡ None
all_passed s u [] h = refl
all_passed s u (c ∷ cs) h = rw h.0 (all_passed s u cs h.1)

-- a unit that is not discarded, that the phase expects and that meets its conditions is good
pub good_is_fine : (s : State) (u : Meaning) → is_over s.phase ≡ false → drops s u ≡ false → IsGood s u → verdict s u ≡ fine
good_is_fine s u o d h = let f = all_passed s u (conditions s u) h.met in let x = h.expected in rw (o, d, x, f) refl

-- it is in a phase in which no unit is discarded
pub good_in : (f : Phase → Bool) (s : State) (u : Meaning) → every_phase (λ p. not (f p) || not (discards p)) ≡ true → f s.phase ≡ true →
    has_no_effect u ≡ false → IsGood s u → respond_unit s u ≡ good s u
good_in f s u e h n g =
    let d = or_parts (is_restarting s.phase) (is_over s.phase) (excluded f discards e s.phase h) in
    enacts s u ∙ ap (enacted s u) (good_is_fine s u d.1 (let r = d.0 in rw (n, r) refl) g)

-- ---- a token item that names no token

pub no_effect : (s : State) (u : Meaning) → has_no_effect u ≡ true → respond_unit s u ≡ nothing s
unfolding respond_unit
no_effect s u h0 = grind arith

pub and_nothing : (o : Outcome) → and_then o (nothing o.next) ≡ o
and_nothing o = grind (arith, append-nil)

-- a unit by itself
pub one : (s : State) (u : Meaning) → respond_all s (u ∷ []) ≡ respond_unit s u
unfolding respond_all
one s u = grind (arith, and_nothing)

same_rest : (b : Bool) (o p q : Outcome) → p ≡ q → (if b then o else and_then o p) ≡ (if b then o else and_then o q)
same_rest b o p q h = grind arith

-- after other units a token item that names no token changes nothing
pub behind_all : (s : State) (us : List Meaning) (item : Meaning) → has_no_effect item ≡ true →
    respond_all s (us ++ item ∷ []) ≡ respond_all s us
unfolding respond_all
behind_all s [] item h = one s item ∙ no_effect s item h
behind_all s (u ∷ us) item h = same_rest (is_faulty (verdict s u)) (respond_unit s u) _ _ (behind_all (respond_unit s u).next us item h)

-- in front of units it changes nothing
pub in_front_of_all : (s : State) (item : Meaning) (units : List Meaning) → has_no_effect item ≡ true →
    respond s (item ∷ units) ≡ respond_all s units
unfolding acting
in_front_of_all s item units h = grind (arith, behind_all)

pub in_front : (s : State) (item u : Meaning) → has_no_effect item ≡ true → respond s (behind item u) ≡ respond_unit s u
in_front s item u h = in_front_of_all s item (u ∷ []) h ∙ one s u

pub empty_item : has_no_effect (GT no_token) ≡ true
unfolding is_empty
empty_item = refl

pub said_alone : (s : State) (u : Meaning) → respond s (alone u) ≡ respond_unit s u
unfolding acting
said_alone s u = one s u

-- a unit as a word has the effect of the unit
pub of_said : (s : State) (u : Meaning) → respond s (said_of u) ≡ respond_unit s u
of_said s u = grind (arith, in_front, empty_item, said_alone)

-- ---- at most one unit after a token item

faulty_is : (v : Verdict) → is_faulty v ≡ true → (f : UnitFault) × (v ≡ faulty f)
faulty_is v h0 = grind arith

after_bad : (s : State) (u item : Meaning) → is_token_item item ≡ true → is_faulty (verdict s u) ≡ true
    → and_then (respond_unit s u) (respond_unit (respond_unit s u).next item) ≡ respond_unit s u
after_bad s u item t h = grind (arith, faulty_is, enacts, respond_unit, and_nothing)

pub two : (s : State) (u item : Meaning) → is_token_item item ≡ true
    → respond_all s (u ∷ item ∷ []) ≡ and_then (respond_unit s u) (respond_unit (respond_unit s u).next item)
unfolding respond_all
two s u item h0 = grind (arith, after_bad, one)

choice : (b : Bool) (s : State) (x y : List Meaning) (o p : Outcome) → respond_all s x ≡ o → respond_all s y ≡ p
    → respond_all s (if b || false then x else y) ≡ (if b then o else p)
choice b s x y o p h k = grind arith

-- a token item acts after the unit after it, and in front of an RS it does not act
pub item_and_unit : (s : State) (item u : Meaning) → is_token_item item ≡ true →
    respond s (behind item u) ≡ (if is_resynchronize u then respond_unit s u else
    and_then (respond_unit s u) (respond_unit (respond_unit s u).next item))
unfolding acting
item_and_unit s item u t = choice (is_resynchronize u) s (u ∷ []) (u ∷ item ∷ []) _ _ (one s u) (two s u item t)

-- ---- a bad unit is one that is answered by AB

pub enacted_reply : (s : State) (u : Meaning) (v : Verdict) → replies_abort (enacted s u v).reply ≡ is_faulty v
enacted_reply s u v = grind arith
