use Rattle.osi_carrier.proofs.Vocabulary.{any_standing, ◌≡◌, ◌∙◌, ◌+◌, ◌*◌, ◌<◌, ℕ, List, length, replicate, ap, arith, length-replicate}
use Rattle.osi_carrier.proofs.Vocabulary.{units_needed, octets_of_tsdus, tsdus_in}
use Rattle.osi_carrier.proofs.written.some_units_may_go_now.{enough_for_some, go_in_part}
use Rattle.osi_carrier.proofs.links.some_at_once.Goals as goal

pub returns : goal.returns
returns c =
    let s = any_standing c.args.link.now in
    let ts = tsdus_in c.args.pieces.now in
    let all = c.in_ok-all.all in
    let full = c.in_ok-full.full in
    let n = c.room_for-units.result.units in
    let value = c.limit-limit.ensures.value in
    let limit : 0 < s.ends.limit = omega (arith, value) in
    let count : all.units ≡ units_needed s.ends.limit ts = c.in_ok-all.ensures.units ∙ ap (λ (m : ℕ). units_needed m ts) value in
    let size : all.octets ≡ octets_of_tsdus ts = c.in_ok-all.ensures.octets in
    let tsdu : List ℕ = replicate full 0 in
    let long : length tsdu ≡ full = length-replicate full 0 in
    let product : full ≡ units_needed s.ends.limit ts * s.ends.limit =
    c.in_ok-full.ensures.1 ∙ ap (λ (m : ℕ). m * c.limit-limit.result) count ∙ ap (λ (m : ℕ). units_needed s.ends.limit ts * m) value in
    let given = c.room_for-units.ensures.units tsdu long c.requires.quiet in
    let needs = c.in_ok-all.ensures.some in
    let sum = c.in_ok-octets.ensures.1 in
    let fits = c.in_ok-octets.ensures.0 in
    let most : c.in_ok-most.most ≡ n * (s.ends.limit + 9) = c.in_ok-most.ensures.1 ∙ ap (λ (m : ℕ). n * (m + 9)) value in
    let part = go_in_part s tsdu ts n limit c.requires.quiet (omega (arith, needs, count)) (long ∙ product) given (omega arith)
    (λ e. omega arith) (omega (arith, size, fits)) in
    record {
      go = part.go;
      enough = λ peer. enough_for_some peer s ts n _ _ _ limit c.requires.quiet part (omega (arith, sum, size)) most c.min.ensures;
    }
