-- The call of Accept keeps the invariant: the answerer settles who has which token.
-- For each_step_keeps_both_sides.
use Rattle.osi_machine.proofs.Vocabulary.{FunctionalUnits, Sides, Token, data_token, minor, major, release, has, each, available, side_for}
use Rattle.osi_machine.proofs.Vocabulary.{is_asker, settle, stated, setting_of, of_asker, of_answerer, answers_wishes, and_parts, and_from}
use Rattle.osi_machine.proofs.Vocabulary.{TsduMaximumSize, State, Meaning, AC, Tokens, functional_units, both_units, units_within, base_for}
use Rattle.osi_machine.proofs.Vocabulary.{serial_for, opened_with, is_answering, is_connecting, is_restarting, is_restart_due, may_hold}
use Rattle.osi_machine.proofs.Vocabulary.{Accept, are_sizes, answered_sizes, Core, is_opening, IsFresh, ◌≡◌, refl, Bool, true, not, ◌&&◌}
use Rattle.osi_machine.proofs.Vocabulary.{arith, sym, ◌∙◌, ap, ℕ, List, Wish, wish_of, wish_for, settled, allows, is_profile}
use Rattle.osi_spdu.specs.declared.settings.Side.{Side}
use Rattle.osi_spdu.specs.declared.settings.TokenSetting.{TokenSetting}
use Rattle.osi_machine.proofs.basics.what_holds_in_each_phase.{implied, excluded, implied_both}
use Rattle.osi_machine.proofs.channels.a_deaf_side_acts_on_nothing.{AllEmpty, empty_view, waiting, empty_heard}
use Rattle.osi_machine.proofs.channels.a_held_token_keeps_units_out.{has_set}
use Rattle.osi_machine.proofs.invariant.what_holds_of_both_sides.{hearing, IsOfProfile, Stands, profile_of, profile_data, within_duplex}
use Rattle.osi_machine.proofs.invariant.what_holds_of_both_sides.{within_half, within_both, matched}
use Rattle.osi_machine.proofs.invariant.each_step_keeps_one_side.{Keeps}
use Rattle.osi_machine.proofs.calls.a_call_and_its_unit.{there}
use Rattle.osi_machine.proofs.calls.an_answer_is_taken.{Quiet, Settles, owes_answer, quiet, settles_stands}

-- ---- a side for each token

settle_side : (u : FunctionalUnits) (w : TokenSetting) (a : Sides) (t : Token)
    → side_for (settle u w a) t ≡ settled (has (available u) t) (wish_for w t) (side_for a t)
unfolding settle
settle_side u w a t = grind arith

stated_settled : (u : FunctionalUnits) (w : TokenSetting) (a : Sides) (t : Token)
    → side_for (stated u (setting_of (settle u w a))) t ≡ side_for (settle u w a) t
unfolding stated
stated_settled u w a t = grind (arith, settle_side)

-- and answers each wish
one_allowed : (b : Bool) (w : Wish) (s : Side) → allows b w (wish_of (settled b w s)) ≡ true
one_allowed b w s = grind arith

pub each_of : (p : Token → Bool) → ((t : Token) → p t ≡ true) → each p ≡ true
each_of p h = let a = h data_token in let b = h minor in let c = h major in let d = h release in rw (a, b, c, d) refl

pub settled_answers : (u : FunctionalUnits) (w : TokenSetting) (a : Sides) → answers_wishes u w (setting_of (settle u w a)) ≡ true
unfolding answers_wishes
settled_answers u w a = search (arith, each_of, settle_side, one_allowed)

-- ---- the tokens of either side

answerer_has : (u : FunctionalUnits) (s : Sides) (t : Token)
    → has (of_answerer u s) t ≡ (has (available u) t && not (is_asker (side_for s t)))
unfolding of_answerer
answerer_has u s t = has_set (λ t. has (available u) t && not (is_asker (side_for s t))) t

asker_has : (u : FunctionalUnits) (s : Sides) (t : Token) → has (of_asker u s) t ≡ (has (available u) t && is_asker (side_for s t))
unfolding of_asker
asker_has u s t = has_set (λ t. has (available u) t && is_asker (side_for s t)) t

-- the answerer's are available
pub answerer_there : (u : FunctionalUnits) (s : Sides) (t : Token) → has (of_answerer u s) t ≡ true → has (available u) t ≡ true
answerer_there u s t h = grind (arith, answerer_has)

pub asker_there : (u : FunctionalUnits) (s : Sides) (t : Token) → has (of_asker u s) t ≡ true → has (available u) t ≡ true
asker_there u s t h = grind (arith, asker_has)

-- and the asker's are the others
pub asker_holds : (u : FunctionalUnits) (w : TokenSetting) (a : Sides) (t : Token)
    → has (of_asker u (stated u (setting_of (settle u w a)))) t ≡ (has (available u) t && not (has (of_answerer u (settle u w a)) t))
asker_holds u w a t = search (arith, asker_has, stated_settled, answerer_has)

-- ---- what is accepted

record Accepts (w : Core) (u : ℕ) : Type 0 where
  answering : is_answering w.own.session.phase ≡ true
  within : units_within (functional_units u) w.own.session.units ≡ true
  profile : IsOfProfile (functional_units u)
  all : Stands w

abbrev held_by : State → ℕ → Sides → Tokens
held_by s u a = of_answerer (functional_units u) (settle (functional_units u) s.wishes a)

abbrev accepting : State → ℕ → ℕ → Sides → TsduMaximumSize → State
accepting s u n a z = opened_with (functional_units u) (held_by s u a) (base_for (functional_units u) n) (answered_sizes s.sizes z) s

abbrev acceptance : State → ℕ → ℕ → Sides → TsduMaximumSize → List ℕ → Meaning
acceptance s u n a z o = AC true u (serial_for (functional_units u) n) (setting_of (settle (functional_units u) s.wishes a))
    (answered_sizes s.sizes z) o

-- ---- nothing is in flight, and nothing was seen

module _ (w : Core) (u : ℕ) (q : Accepts w u) where
  side : Quiet w
  side = quiet w q.all (implied is_answering owes_answer refl w.own.session.phase q.answering)

  other_waits : is_connecting (there w).phase ≡ true
  other_waits = implied_both matched (λ p q. is_answering p) (λ p q. is_connecting q) refl w.own.session.phase (there w).phase
      side.meets q.answering

  waited : AllEmpty w.own.sent × (is_connecting w.peer.session.phase ≡ true)
  waited = waiting w.peer.session w.own.sent other_waits q.all.peer.fits

  other_heard : hearing w.peer w.own ≡ w.peer.session
  other_heard = empty_heard w.peer.session w.own.sent waited.0

  fresh : IsFresh w.own
  fresh = q.all.consistent.own.fresh (implied is_answering is_opening refl w.own.session.phase q.answering)

  other_fresh : IsFresh w.peer
  other_fresh = q.all.consistent.peer.fresh (implied is_connecting is_opening refl w.peer.session.phase waited.1)

  saw : w.own.view ≡ w.history
  saw = search (arith, side.all, excluded, empty_view, side.none)

  agreed_units : both_units (there w).units (functional_units u) ≡ functional_units u
  agreed_units = grind (arith, side.there_units, within_both)

  -- ---- the AC settles everything

  settles : (n : ℕ) (a : Sides) (z : TsduMaximumSize) (o : List ℕ) → are_sizes (answered_sizes w.own.session.sizes z) ≡ true
      → Settles w (accepting w.own.session u n a z) (acceptance w.own.session u n a z o)
  settles n a z o k = record {
    side = side;
    fits = grind (arith, other_waits, and_from, agreed_units, profile_data, side, settled_answers);
    acts = ap (λ (b : Bool). b && true) (excluded is_connecting is_restarting refl (there w).phase other_waits);
    stays = refl;
    owed = excluded is_connecting is_restart_due refl (there w).phase other_waits;
    due = excluded is_connecting is_restart_due refl w.peer.session.phase waited.1;
    ready = refl;
    then_ready = refl;
    units = agreed_units;
    base = grind (arith, agreed_units);
    caller = refl;
    profile = q.profile;
    duplex = within_duplex (functional_units u) w.own.session.units q.within;
    half = within_half (functional_units u) w.own.session.units q.within;
    held = answerer_there (functional_units u) (settle (functional_units u) w.own.session.wishes a);
    then_held = λ t. search (arith, agreed_units, asker_holds, side);
    bare = q.all.consistent.peer.sound.tokens (excluded is_connecting may_hold refl w.peer.session.phase waited.1);
    shows = λ v. refl;
    silent = refl;
    needs = refl;
    saw = saw;
    other_saw = search (arith, other_heard, excluded, waited);
    numbered = rw (sym saw ∙ fresh.view) tt;
    own_counts = search (arith, other_fresh);
    peer_counts = search arith;
  }

pub accept_stands : (u n : ℕ) (a : Sides) (z : TsduMaximumSize) (o : List ℕ) → Keeps (Accept u n a z o)
accept_stands u n a z o w p s =
    let t = and_parts (units_within (functional_units u) w.own.session.units) (is_profile u) p.needed.0 in
    let q : Accepts w u = record { answering = p.phase; within = t.0; profile = profile_of u t.1; all = s } in
    settles_stands w (accepting w.own.session u n a z) (acceptance w.own.session u n a z o)
    (settles w u q n a z o p.sized) s p.kept
