use Rattle.std.proofs.Common.{◌≡◌, Bool, arith, false, subst, true}
use Rattle.osi_witness.specs.Streams.{Adds}
use Rattle.osi_witness.proofs.the_sessions_that_are_kept_are_linked.{followed_part, followed_whole, on_oks}
use Rattle.osi_witness.proofs.conversations.pass.Goals as goal

pub returns-then-branch-clause-followed : goal.returns-then-branch-clause-followed
returns-then-branch-clause-followed c =
    let own = c.args.own.now in
    let now = c.add.new.self in
    let is : c.args.end ≡ true = grind arith in
    on_oks c.hear.result _ _ _ _
    (λ keeps leads hears begin other u f g.
    followed_whole begin other own now c.args.heard.now c.hear.new.self c.args.user.now
    (subst (λ (b : Bool). Adds b c.args.user.now own now) is (c.in_ok-add.ensures.adds u.0))
    (c.in_ok-add.ensures.leads begin u.0 f.0) c.in_ok-add.ensures.heard f g keeps leads hears) c.hear.ensures.keeps c.hear.ensures.leads
    c.hear.ensures.heard

pub returns-clause-followed : goal.returns-clause-followed
returns-clause-followed c begin other u f g =
    let own = c.args.own.now in
    let now = c.add.new.self in
    let is : c.args.end ≡ false = grind arith in
    followed_part begin other own now c.args.heard.now c.args.user.now
    (subst (λ (b : Bool). Adds b c.args.user.now own now) is (c.in_ok-add.ensures.adds u.0)) (c.in_ok-add.ensures.leads begin u.0 f.0)
    c.in_ok-add.ensures.heard f g
