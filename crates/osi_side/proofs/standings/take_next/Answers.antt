use Rattle.osi_side.proofs.Vocabulary.{◌≡◌, ◌∙◌, sym, true, Taking, listens, Takes, after_count, count_taken}
use Rattle.osi_side.proofs.walked.a_walk_loses_no_explanation.{at_some}
use Rattle.osi_side.proofs.told.how_a_session_comes_on.{Takings, stops, goes_quietly}
use Rattle.osi_side.proofs.standings.take_next.Goals as goal

pub returns-then-is_some : goal.returns-then-is_some
returns-then-is_some c =
    let s = c.args.at.now.standing in
    let u = c.tsdu_at-tsdu.result.now in
    let o = c.in_ok-taking.field-0 in
    let k = c.in_ok-taking.ensures in
    let t = c.in-Some.taking in
    let e = c.in-Some.is in
    let took : Takings s u t = record {
      listening = at_some (λ (x : Taking). listens s ≡ true) o t e k.listens;
      taken = at_some (λ (x : Taking). Takes s u (count_taken x)) o t e k.counted;
      next = at_some (λ (x : Taking). x.next ≡ after_count s (count_taken x)) o t e k.sent;
    } in
    stops s u _ t c.tsdu_at-tsdu.ensures.octets (sym c.is_some.ensures ∙ c.if-is_some.true) took

pub returns : goal.returns
returns c =
    let s = c.args.at.now.standing in
    let u = c.tsdu_at-tsdu.result.now in
    let o = c.in_ok-taking.field-0 in
    let k = c.in_ok-taking.ensures in
    let t = c.in-Some.taking in
    let e = c.in-Some.is in
    let took : Takings s u t = record {
      listening = at_some (λ (x : Taking). listens s ≡ true) o t e k.listens;
      taken = at_some (λ (x : Taking). Takes s u (count_taken x)) o t e k.counted;
      next = at_some (λ (x : Taking). x.next ≡ after_count s (count_taken x)) o t e k.sent;
    } in
    goes_quietly c.args.heard.now c.args.at.now u t c.tsdu_at-tsdu.ensures.octets (sym c.is_some.ensures ∙ c.if-is_some.false) took
