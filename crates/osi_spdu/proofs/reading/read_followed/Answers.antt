use Rattle.osi_spdu.proofs.Vocabulary.{eqb-false, err_from_is_err_and, Kind, Contents, Units, is_joined, said_by, left_at, units_of}
use Rattle.osi_spdu.proofs.Vocabulary.{known_of, ◌≡◌, ◌≤◌, ◌∙◌, true, [], ◌∷◌, length, Ok, ap, sym, subst, refl, arith, rules, option_map}
use Rattle.osi_spdu.proofs.Vocabulary.{Spdu, kept_of}
use Rattle.osi_spdu.specs.Kept.{followed_at}
use Rattle.osi_spdu.proofs.tsdu.units_after_the_first.{behind_none, behind_bad, others_bad, others_read, joined_behind}
use Rattle.osi_spdu.proofs.reading.read_followed.Goals as goal

pub with-requires : goal.with-requires
with-requires c = grind (arith, is_joined, joined_behind)

pub with-requires-2 : goal.with-requires-2
with-requires-2 c =
    let b = c.after.result in
    let next = option_map (λ (s : Spdu). s.kind) b.next in
    subst (λ (k : Kind). is_joined k next ≡ true) (sym c.settled-2.ensures.kind)
    (joined_behind c.args.kind next b.rest.now c.requires.zero b.stands)

pub returns-then-is_empty : goal.returns-then-is_empty
unfolding followed_at
returns-then-is_empty c =
    let none : length c.args.octets.now ≡ 0 = search rules in
    let first : Contents = record { kind = c.args.kind; known = known_of c.args.params.now; information = [] } in
    let units : units_of c.with.result ≡ first ∷ [] = c.with.ensures ∙ (λ i. c.settled.ensures.value i ∷ c.none.ensures.units i) in
    rw (behind_none 16 c.args.at c.args.octets.now none) (ap (λ (us : Units). Ok us) (sym units))

pub returns : goal.returns
unfolding followed_at
returns c =
    let some : 1 ≤ length c.args.octets.now = grind (arith, eqb-false) in
    let k = c.in_ok-kept.kept in
    let n = kept_of c.kept_at.new.params k in
    let first : Contents = record { kind = c.args.kind; known = known_of c.args.params.now; information = [] } in
    let read = others_read 16 c.args.at c.args.octets.now n (omega arith) some c.in_ok-kept.ensures.value
    c.in_ok-read_others.ensures.left in
    let unit : said_by c.settled-unit.result ≡ n.unit = c.settled-unit.ensures.value ∙
    (λ i. (let u : Contents = record { kind = k.kind; known = c.settle.ensures.value i; information = k.information.now } in u)) in
    let others = c.after.ensures.units ∙ ap (λ (u : Contents). u ∷ left_at 15 k.end k.others.now) unit in
    let units : units_of c.with-2.result ≡ first ∷ n.unit ∷ left_at 15 k.end k.others.now =
    c.with-2.ensures ∙ (λ i. c.settled-2.ensures.value i ∷ others i) in
    rw read (ap (λ (us : Units). Ok us) (sym units))

pub returns-in_err-kept : goal.returns-in_err-kept
unfolding followed_at
returns-in_err-kept c =
    let some : 1 ≤ length c.args.octets.now = search rules in
    let e = err_from_is_err_and c.from_residual.result c.from_residual.ensures.1 in
    rw (e.1, e.2, behind_bad 16 c.args.at c.args.octets.now _ (omega arith) some c.in_err-kept.ensures.value) refl

pub returns-in_err-read_others : goal.returns-in_err-read_others
unfolding followed_at
returns-in_err-read_others c =
    let some : 1 ≤ length c.args.octets.now = search rules in
    let e = err_from_is_err_and c.from_residual-in_err-read_others.result c.from_residual-in_err-read_others.ensures.1 in
    rw (
      e.1,
      e.2,
      others_bad 16 c.args.at c.args.octets.now (kept_of c.kept_at.new.params c.in_ok-kept.kept) _ (omega arith) some
          c.in_ok-kept.ensures.value c.in_err-read_others.ensures.refused,
    ) refl
