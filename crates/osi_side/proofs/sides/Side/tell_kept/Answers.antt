use Rattle.osi_side.proofs.Vocabulary.{◌∙◌, ◌≡◌, ◌+◌, List, refl, sym, ap, [], false, ◌<◌, ◌≤◌, subst, length, Member, TooMany, Told}
use Rattle.osi_side.proofs.Vocabulary.{is_empty, observed}
use Rattle.osi_side.proofs.told.what_is_known_of_a_side.{ends_ok, leaves_as, crowds_as, kept_as, gives_as, after_as, nil_of}
use Rattle.osi_side.proofs.sides.Side.tell_kept.Goals as goal

pub returns-then-none_is_left-clause-observes : goal.returns-then-none_is_left-clause-observes
returns-then-none_is_left-clause-observes c =
    let w = observed c.args.self.now in
    let x : Told = record { octets = c.args.tsdu.now; before = c.args.before } in
    let new = c.in_ok-members.members.items in
    let none : new ≡ [] = nil_of new (ap is_empty (sym c.as_slice.ensures.value) ∙ sym c.none_is_left.ensures ∙ c.if-none_is_left.true) in
    ends_ok c.end.result w (observed c.end.new.self) x new c.requires.passed c.requires.order
    (gives_as w x new w.heard c.deref.result.now refl c.deref.ensures.value c.in_ok-members.ensures.explains) none c.end.ensures.ends

pub returns-then-opens_outside-clause-observes : goal.returns-then-opens_outside-clause-observes
returns-then-opens_outside-clause-observes c = λ told k.
    let w = observed c.args.self.now in
    let x : Told = record { octets = c.args.tsdu.now; before = c.args.before } in
    let new = c.in_ok-members.members.items in
    let some : is_empty new ≡ false = ap is_empty (sym c.as_slice.ensures.value) ∙ sym c.none_is_left.ensures ∙ c.if-none_is_left.false in
    leaves_as w (observed c.leave.new.self) told x new c.opens_outside.result c.requires.order
    (gives_as w x new w.heard c.deref.result.now refl c.deref.ensures.value c.in_ok-members.ensures.explains) some
    c.leave.ensures c.requires.passed (c.opens_outside.ensures.first, c.opens_outside.ensures.later) c.if-opens_outside.true k

pub returns-then-is_crowd-clause-observes : goal.returns-then-is_crowd-clause-observes
returns-then-is_crowd-clause-observes c = λ told k.
    let w = observed c.args.self.now in
    let x : Told = record { octets = c.args.tsdu.now; before = c.args.before } in
    let new = c.in_ok-members.members.items in
    let some : is_empty new ≡ false = ap is_empty (sym c.as_slice.ensures.value) ∙ sym c.none_is_left.ensures ∙ c.if-none_is_left.false in
    let many : 4096 < length new = subst (λ (m : List Member). 4096 < length m) c.as_slice-2.ensures.value c.if-is_crowd.ensures in
    crowds_as w (record w { finding = TooMany }) told x new c.opens_outside.result refl c.requires.order
    (gives_as w x new w.heard c.deref.result.now refl c.deref.ensures.value c.in_ok-members.ensures.explains)
    (after_as w x new c.deref.result.now c.deref.ensures.value c.in_ok-members.ensures.value) some many
    c.requires.passed (c.opens_outside.ensures.first, c.opens_outside.ensures.later) c.if-opens_outside.false k

pub returns-clause-observes : goal.returns-clause-observes
returns-clause-observes c = λ told k.
    let w = observed c.args.self.now in
    let x : Told = record { octets = c.args.tsdu.now; before = c.args.before } in
    let new = c.in_ok-members.members.items in
    let some : is_empty new ≡ false = ap is_empty (sym c.as_slice.ensures.value) ∙ sym c.none_is_left.ensures ∙ c.if-none_is_left.false in
    let few : length new ≤ 4096 = subst (λ (m : List Member). length m ≤ 4096) c.as_slice-2.ensures.value c.if-is_crowd.ensures in
    kept_as w (record w { members = new; told = w.told + 1; before = c.args.before }) told x new c.opens_outside.result refl c.requires.kept
    c.requires.order
    (gives_as w x new w.heard c.deref.result.now refl c.deref.ensures.value c.in_ok-members.ensures.explains)
    (after_as w x new c.deref.result.now c.deref.ensures.value c.in_ok-members.ensures.value) some few
    c.requires.passed (c.opens_outside.ensures.first, c.opens_outside.ensures.later) c.if-opens_outside.false k
