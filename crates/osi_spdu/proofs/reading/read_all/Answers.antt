use Rattle.osi_spdu.proofs.Vocabulary.{Zero, Kind, category_of, is_joined, placed_of, ◌≡◌, ◌∙◌, true, length, sym, subst, rules, option_map}
use Rattle.osi_spdu.proofs.tsdu.units_after_the_first.{joined_behind}
use Rattle.osi_spdu.proofs.tsdu.how_reading_goes_on.{tsdu_goes, continued_trailing}
use Rattle.osi_spdu.proofs.reading.read_all.Goals as goal

pub with-requires : goal.with-requires
with-requires c =
    let zero : category_of c.in_ok-found.found.kind ≡ Zero = sym c.category.ensures ∙ c.in-Zero.is in
    let b = c.in_ok-behind-in-Zero.behind in
    let next = option_map (λ s. s.kind) b.next in
    subst (λ (k : Kind). is_joined k next ≡ true) (sym c.new-first.ensures.kind)
    (joined_behind c.in_ok-found.found.kind next b.rest.now zero b.stands)

pub returns-then-not-is_empty : goal.returns-then-not-is_empty
returns-then-not-is_empty c =
    let p = placed_of c.found_at.new.params c.in_ok-found.found in
    let some : length p.rest ≡ 0 → ⊥ = search rules in
    tsdu_goes c.args.octets.now p c.in_ok-found.ensures.value ∙
    continued_trailing (category_of p.kind) p (λ z. c.in_default.not-Zero (c.category.ensures ∙ z)) some
