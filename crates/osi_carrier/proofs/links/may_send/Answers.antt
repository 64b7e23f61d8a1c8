use Rattle.osi_carrier.proofs.Vocabulary.{any_standing, eq-eqb, eqb-true, ◌≡◌, ◌∙◌, ◌*◌, ◌<◌, ℕ, length, replicate, sym, ap, arith}
use Rattle.osi_carrier.proofs.Vocabulary.{length-replicate}
use Rattle.osi_carrier.proofs.written.whether_all_tsdus_may_go_now.{all_may_go, given_whole}
use Rattle.osi_carrier.proofs.links.may_send.Goals as goal

pub returns : goal.returns
returns c =
    let s = any_standing c.args.link.now in
    let octets = c.in-Some.octets in
    let value = c.limit.ensures.value in
    let limit : 0 < s.ends.limit = omega (arith, value) in
    let product : octets ≡ c.args.units * s.ends.limit = c.in-Some.ensures.1 ∙ ap (λ (n : ℕ). c.args.units * n) value in
    let tsdu = replicate octets 0 in
    let size : length tsdu ≡ octets = length-replicate octets 0 in
    let given = c.room_for-room.ensures.octets tsdu size c.requires.quiet in
    record {
      go = λ e tsdus units.
          all_may_go s tsdu c.args.units tsdus limit c.requires.quiet c.requires.some (size ∙ product)
          (sym given ∙ eqb-true c.room_for-room.result.octets octets e ∙ product) units;
      all = λ tsdus units go few.
          grind (arith, eq-eqb, given_whole s tsdu c.args.units tsdus limit c.requires.some (size ∙ product) units go);
    }
