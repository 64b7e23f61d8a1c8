-- Taking tokens, a CN, an AC or the answer to a restart keeps the invariant of both sides.
-- For each_step_keeps_both_sides.
use Rattle.osi_machine.proofs.Vocabulary.{and_parts, or_right, State, Meaning, GT, Tokens, Token, has, available, united, may_hold, drops}
use Rattle.osi_machine.proofs.Vocabulary.{next, Own, turned_owners, passed_to, AllFit, flush, stops, heard, Core, TokenSetting}
use Rattle.osi_machine.proofs.Vocabulary.{TsduMaximumSize, FunctionalUnits, Answering, Ended, CN, AC, RA, no_token, both_units}
use Rattle.osi_machine.proofs.Vocabulary.{functional_units, stated, of_asker, is_over, is_acceptable, without_tokens, becomes, ◌≡◌, ℕ, true}
use Rattle.osi_machine.proofs.Vocabulary.{false, List, ◌∷◌, arith, refl, ◌∙◌, ap, Bool, not, if◌then◌else◌, Option, unwrap_or, subst, Ready}
use Rattle.osi_machine.proofs.Vocabulary.{is_release_due, is_releasing, is_restart_due, is_restarting}
use Rattle.osi_machine.proofs.basics.what_holds_in_each_phase.{implied, excluded, implied_two, by_test}
use Rattle.osi_machine.proofs.channels.a_unit_is_dropped_bad_or_acted_on.{next_acted}
use Rattle.osi_machine.proofs.channels.a_deaf_side_acts_on_nothing.{not_both}
use Rattle.osi_machine.proofs.channels.a_held_token_keeps_units_out.{heard_holds, united_has, flush_open, none_held}
use Rattle.osi_machine.proofs.invariant.what_holds_of_both_sides.{Stands, Tokens_of, matched}
use Rattle.osi_machine.proofs.invariant.each_step_keeps_one_side.{SessionLaws}
use Rattle.osi_machine.proofs.invariant.no_side_is_over.{over_kept}
use Rattle.osi_machine.proofs.calls.an_answer_settles_the_tokens.{asker_there}
use Rattle.osi_machine.proofs.calls.tokens_that_are_given.{within_has, disjoint_has}
use Rattle.osi_machine.proofs.takes.a_unit_that_cuts_nothing.{at, heard_is, flush_is, Calm, calm_stands, Takes, calm_taken}

-- these tokens were not held before, and are held after
record Gains (w : Core) (r : State) (k : Tokens) : Type 0 where
  before : (t : Token) → has k t ≡ true → has w.own.session.held t ≡ false
  after : (t : Token) → has k t ≡ true → has r.held t ≡ true
  kept : (t : Token) → has k t ≡ false → has r.held t ≡ has w.own.session.held t
  there : (t : Token) → has k t ≡ true → has (available r.units) t ≡ true
  phase : may_hold r.phase ≡ true

module _ (w : Core) (u : Meaning) (us : List Meaning) (r : State) (k : Tokens) (stays : stops w.own.session u ≡ false)
    (e : next w.own.session u ≡ r) (h : Stands (at w (u ∷ us))) (g : Gains w r k) where
  rest : AllFit r us
  rest = subst (λ (q : State). AllFit q us) e h.own.fits.1

  own_tokens : Tokens_of (passed_to Own k w.owner) r (flush w.own.session (u ∷ us)) (heard w.own.session (u ∷ us))
  own_tokens = grind (arith, heard_is, heard_holds, rest, flush_is, flush_open, excluded)

  other_tokens : Tokens_of (turned_owners (passed_to Own k w.owner)) w.peer.session (flush w.peer.session w.own.sent)
      (heard w.peer.session w.own.sent)
  other_tokens = grind (arith, heard_is, heard_holds, rest, flush_is, flush_open, excluded)

-- ---- tokens that were given

gained : State → Tokens → State
gained s k = record s { held = united s.held k }

pub give_taken : SessionLaws → (k : Tokens) → Takes (GT k)
unfolding gained
give_taken laws k w us e d s = calm_stands laws w (GT k) us (gained w.own.session k) (passed_to Own k w.owner) e s (λ h.
    let g : Gains w (gained w.own.session k) k =
    search (arith, and_parts, disjoint_has, united_has, or_right, within_has, implied) in
    let listens = excluded may_hold is_restarting refl w.own.session.phase g.phase in
    let owes = excluded may_hold is_restart_due refl w.own.session.phase g.phase in
    search (arith, next_acted, own_tokens, other_tokens))

-- before an answer no token is held
bare_lacks : (s : State) (t : Token) → s.held ≡ no_token → has s.held t ≡ false
bare_lacks s t e = ap (λ (k : Tokens). has k t) e ∙ none_held t

-- ---- the answer to a restart

pub restarted_taken : SessionLaws → (n : ℕ) (sides : TokenSetting) (o : List ℕ) → Takes (RA n sides o)
restarted_taken laws n sides o w us e d s =
    calm_stands laws w (RA n sides o) us (becomes w.own.session (RA n sides o))
    (passed_to Own (of_asker w.own.session.units (stated w.own.session.units sides)) w.owner) e s (λ h.
    let g : Gains w (becomes w.own.session (RA n sides o)) (of_asker w.own.session.units (stated w.own.session.units sides)) =
    grind (arith, excluded, bare_lacks, asker_there) in
    let asks = excluded is_restarting is_releasing refl w.own.session.phase (h.own.fits.0.good d).expected in
    let released : (is_release_due (heard w.peer.session w.own.sent).phase ≡ true → is_releasing Ready ≡ true) =
    (λ r. absurd (let a = h.peer.meeting.released r in cc)) in
    search (arith, next_acted, own_tokens, other_tokens, released))

-- ---- AC

abbrev agreed : State → ℕ → FunctionalUnits
agreed s requirements = both_units s.units (functional_units requirements)

pub accept_taken : SessionLaws → (v : Bool) (u : ℕ) (n : Option ℕ) (sides : TokenSetting) (z : TsduMaximumSize) (o : List ℕ)
    → Takes (AC v u n sides z o)
accept_taken laws v u n sides z o w us e d s =
    calm_stands laws w (AC v u n sides z o) us (becomes w.own.session (AC v u n sides z o))
    (passed_to Own (of_asker (agreed w.own.session u) (stated (agreed w.own.session u) sides)) w.owner) e s (λ h.
    let g : Gains w (becomes w.own.session (AC v u n sides z o))
    (of_asker (agreed w.own.session u) (stated (agreed w.own.session u) sides)) =
    grind (arith, excluded, bare_lacks, asker_there) in
    let next = next_acted w.own.session (AC v u n sides z o) d in
    record {
      acts = d;
      stays = refl;
      next = next;
      history = refl;
      owner = refl;
      caller = refl;
      stream = λ x. refl;
      listens = refl;
      owes = refl;
      tokens = own_tokens w (AC v u n sides z o) us _ _ refl next h g;
      others = other_tokens w (AC v u n sides z o) us _ _ refl next h g;
      released = grind (arith, excluded);
      flag = λ f. absurd (cc);
      below = λ l k from to. grind (arith, h.peer_counts.below l k from to);
      reach = λ f. absurd (cc);
    })

-- ---- CN

abbrev called : State → ℕ → Option ℕ → TokenSetting → TsduMaximumSize → State
called s u n x z = record s { phase = Answering; units = functional_units u; wishes = x; proposed = unwrap_or n 0; sizes = z }

module _ (w : Core) (v : Bool) (u : ℕ) (n : Option ℕ) (x : TokenSetting) (from to : Option (List ℕ)) (z : TsduMaximumSize) (o : List ℕ)
    (us : List Meaning) (d : drops w.own.session (CN v u n x from to z o) ≡ false) (h : Stands (at w (CN v u n x from to z o ∷ us))) where
  -- a CN that can't be accepted would end the called side, and under this invariant two sides never meet in that phase
  pub acceptable : is_acceptable v u z ≡ true
  acceptable = by_test (is_acceptable v u z)
      (λ e. e)
      (λ e. absurd (not_both _
      (implied_two matched (λ p q. not (is_over p)) refl (flush w.own.session ((CN v u n x from to z o) ∷ us)).phase
      (flush w.peer.session w.own.sent).phase h.own.meeting.meets)
      (over_kept (next w.own.session (CN v u n x from to z o)) us (ended e) f.1)))
    where
      f : AllFit w.own.session ((CN v u n x from to z o) ∷ us)
      f = h.own.fits

      ended : is_acceptable v u z ≡ false → is_over (next w.own.session (CN v u n x from to z o)).phase ≡ true
      ended e = ap (λ (r : State). is_over r.phase)
          (next_acted w.own.session (CN v u n x from to z o) d
          ∙ ap (λ (b : Bool). if b then called w.own.session u n x z else without_tokens Ended w.own.session) e)

  connect_calm : Calm w (CN v u n x from to z o) us (called w.own.session u n x z) w.owner
  connect_calm = search (arith, next_acted, acceptable)

pub connect_taken : SessionLaws → (v : Bool) (u : ℕ) (n : Option ℕ) (x : TokenSetting) (from to : Option (List ℕ)) (z : TsduMaximumSize)
    (o : List ℕ) → Takes (CN v u n x from to z o)
connect_taken laws v u n x from to z o =
    calm_taken laws (CN v u n x from to z o) (λ s. called s u n x z) (λ w us d h. connect_calm w v u n x from to z o us d h)
