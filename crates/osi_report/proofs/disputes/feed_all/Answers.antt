use Rattle.osi_report.proofs.Vocabulary.{List, ℕ, sym, subst, take, ◌≡◌, [], piece}
use Rattle.osi_report.proofs.what_is_fed_piece_by_piece_passes_whole.{Comes, Passes, IsFed, comes_as, fed_none, fed_more}
use Rattle.osi_report.proofs.what_is_fed_piece_by_piece_passes_whole.{fed_all, empty_yes, empty_not}
use Rattle.osi_report.proofs.disputes.feed_all.Goals as goal

pub rest-preserved : goal.rest-preserved
rest-preserved c =
    let d = c.args.direction in
    let rest = c.rest.rest.now in
    let n = c.in_ok-used.used in
    let more : Passes Comes c.rest.judge c.feed.new.self (piece d (take n rest)) =
    comes_as c.rest.judge c.feed.new.self (piece d (take n rest)) c.in_ok-used.ensures.ok in
    subst (λ (z : List ℕ). IsFed Comes d c.args.judge.now c.feed.new.self c.args.octets.now z) (sym c.split_at.ensures.back)
    (fed_more Comes d c.args.judge.now c.rest.judge c.feed.new.self c.args.octets.now rest n c.rest.invariant more)

pub returns : goal.returns
returns c =
    let none : c.rest.rest.now ≡ [] = search (empty_yes, empty_not, c.is_empty.ensures, c.rest-test.false) in
    fed_all Comes c.args.direction c.args.judge.now c.rest.judge c.args.octets.now c.rest.rest.now none c.rest.invariant

pub rest-init : goal.rest-init
rest-init c = fed_none Comes c.args.direction c.args.judge.now c.args.octets.now
