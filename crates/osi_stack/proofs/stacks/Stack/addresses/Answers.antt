use Rattle.osi_stack.proofs.Vocabulary.{End, IfSome, IsSome, None, addresses_at, arith, false, holding, inl, inr, is_some, phase_at}
use Rattle.osi_stack.proofs.Vocabulary.{shows_loss, true, value_at, ℕ, ◌≡◌, ◌⊎◌}
use Rattle.osi_carrier.specs.Calls.{tsaps_at}
use Rattle.osi_stack.specs.Addresses.{selectors_in}
use Rattle.osi_stack.proofs.stacks.Stack.addresses.Goals as goal

-- without one of these there are no addresses
missing : (r : ℕ) (e : End) → IfSome (phase_at r e) (λ p. shows_loss p ≡ true → IsSome (addresses_at r e)) →
    (false ≡ is_some (value_at r e.carrier.live)) ⊎ ((None ≡ tsaps_at r e.carrier) ⊎ (None ≡ selectors_in (value_at r e.lines))) →
    IfSome (phase_at r e) (λ p. shows_loss p ≡ true → false ≡ true)
missing r e known none = grind arith

pub returns-then-not-is_live-clause-known : goal.returns-then-not-is_live-clause-known
returns-then-not-is_live-clause-known c =
    let e = (holding c.self.inside.carrier c.self.inside.lines).end in
    let known = c.an_end_is_settled_between_calls.ensures.known c.args.reference.0 e c.self.invariant in
    rw (← c.self.view_is) (missing c.args.reference.0 e known (inl (c.if-not-is_live.ensures)))

pub returns-in_default-clause-known : goal.returns-in_default-clause-known
returns-in_default-clause-known c =
    let e = (holding c.self.inside.carrier c.self.inside.lines).end in
    let known = c.an_end_is_settled_between_calls.ensures.known c.args.reference.0 e c.self.invariant in
    rw (← c.self.view_is) (missing c.args.reference.0 e known (inr (inl (c.in_default.ensures))))

pub returns-in_default-selectors-clause-known : goal.returns-in_default-selectors-clause-known
returns-in_default-selectors-clause-known c =
    let e = (holding c.self.inside.carrier c.self.inside.lines).end in
    let known = c.an_end_is_settled_between_calls.ensures.known c.args.reference.0 e c.self.invariant in
    rw (← c.self.view_is) (missing c.args.reference.0 e known (inr (inr (c.in_default-selectors.ensures))))
