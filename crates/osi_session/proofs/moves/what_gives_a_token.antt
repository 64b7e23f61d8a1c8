-- What gives a token to a side, and what takes it away.
use Rattle.osi_session.proofs.Vocabulary.{or_left, or_right, and_parts, State, Tokens, FunctionalUnits, Token, has, set_of, no_token}
use Rattle.osi_session.proofs.Vocabulary.{is_within, without, united, both_units, available, Call, Give, Meaning, Step, allowed, becomes}
use Rattle.osi_session.proofs.Vocabulary.{bad, respond_unit, UnitFault, to_asker, to_answerer, call_gives, unit_gives, call_holds}
use Rattle.osi_session.proofs.Vocabulary.{unit_holds, ◌≡◌, sym, ◌∙◌, Bool, true, false, not, ◌&&◌, ◌||◌, unwrap_or, Ok, arith, Sides}
use Rattle.osi_session.proofs.Vocabulary.{side_for, is_asker}
use Rattle.osi_session.specs.Sides.{of_asker, of_answerer}
use Rattle.osi_session.proofs.tables.what_an_accepted_call_has_passed.{passed}
use Rattle.osi_session.proofs.tables.the_outcomes_of_each_input.{unit_cases}

-- ---- words about sets, for each token

pub has_set : (p : Token → Bool) (t : Token) → has (set_of p) t ≡ p t
has_set p t = grind arith

without_has : (a b : Tokens) (t : Token) → has (without a b) t ≡ (has a t && not (has b t))
unfolding without
without_has a b t = has_set (λ t. has a t && not (has b t)) t

united_has : (a b : Tokens) (t : Token) → has (united a b) t ≡ (has a t || has b t)
unfolding united
united_has a b t = has_set (λ t. has a t || has b t) t

asker_has : (units : FunctionalUnits) (sides : Sides) (t : Token) → has (of_asker units sides) t ≡ to_asker units sides t
unfolding of_asker
asker_has units sides t = has_set (λ t. has (available units) t && is_asker (side_for sides t)) t

answerer_has : (units : FunctionalUnits) (sides : Sides) (t : Token) → has (of_answerer units sides) t ≡ to_answerer units sides t
unfolding of_answerer
answerer_has units sides t = has_set (λ t. has (available units) t && not (is_asker (side_for sides t))) t

no_token_has : (t : Token) → has no_token t ≡ false
no_token_has t = has_set (λ t. false) t

-- ---- what is given is not kept

-- tokens that are given were held, and are not held after
pub given : (s : State) (tokens : Tokens) (x : Step) (t : Token) → allowed s (Give tokens) ≡ Ok x → has tokens t ≡ true
    → (has s.held t ≡ true) × (has x.next.held t ≡ false)
unfolding is_within
given s tokens x t h k = grind (arith, passed, without, without_has)

-- ---- a token is held only if it was, or was given

abbrev HeldBy : Bool → State → Token → Tokens → Type 0
HeldBy cause s t now = has now t ≡ true → (has s.held t || cause) ≡ true

kept : (s : State) (t : Token) → HeldBy false s t s.held
kept s t h = or_left (has s.held t) false h

none : (s : State) (t : Token) → HeldBy false s t no_token
none s t h = absurd (let w = no_token_has t in cc)

to_one : (s : State) (units : FunctionalUnits) (sides : Sides) (t : Token) → HeldBy (to_asker units sides t) s t (of_asker units sides)
to_one s units sides t h = or_right (has s.held t) (to_asker units sides t) (sym (asker_has units sides t) ∙ h)

pub call_held : (s : State) (c : Call) (x : Step) (t : Token) → allowed s c ≡ Ok x → has x.next.held t ≡ true →
    (has s.held t || call_gives s c t) ≡ true
call_held s c x t e = search (arith, passed, or_right, answerer_has, none, or_left, and_parts, without_has, kept)

pub unit_held : (s : State) (u : Meaning) (t : Token) → has (respond_unit s u).next.held t ≡ true →
    (has s.held t || unit_gives s u t) ≡ true
unit_held s u t =
    unit_cases (λ next. HeldBy (unit_gives s u t) s t next.held) s u (grind (arith, kept, none, unwrap_or, to_one, united_has))

-- ---- exactly what is held

pub call_holds_it : (s : State) (c : Call) (x : Step) (t : Token) → allowed s c ≡ Ok x → has x.next.held t ≡ call_holds s c t
call_holds_it s c x t e = grind (arith, passed, answerer_has, no_token_has, without_has)

-- after a good unit
pub unit_holds_it : (s : State) (u : Meaning) (t : Token) → has (becomes s u).held t ≡ unit_holds s u t
unit_holds_it s u t = grind (arith, unwrap_or, no_token_has, both_units, asker_has, united_has)

-- and after a bad one
pub bad_holds_none : (s : State) (fault : UnitFault) (t : Token) → has (bad s fault).next.held t ≡ false
bad_holds_none s fault t = no_token_has t
