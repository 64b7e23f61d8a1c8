use Rattle.std.proofs.Common.{arith}
use Rattle.osi_side.proofs.Vocabulary.{◌≡◌, ◌∙◌, refl, ap, subst, Bool, ◌||◌, List, map, word, said_by_units, units_behind, behind_of}
use Rattle.osi_side.proofs.Vocabulary.{units_of, said_by, Member, after_word}
use Rattle.osi_spdu.specs.Groups.{first_of}
use Rattle.osi_side.proofs.walked.sessions_after_a_unit.{UnitGives, units_begin, units_turn, units_restarted, units_item}
use Rattle.osi_side.proofs.kept.all_sessions_are_walked_from.{leads_first, leads_next, leads_restarted, leads_item}
use Rattle.osi_side.proofs.telling.behind_units.Goals as goal

pub units-init : goal.units-init
units-init c =
    let first = ap word c.first.ensures in
    let rest = ap (map word) c.behind-behind.ensures in record {
      explains = units_begin c.args.heard.now c.args.octets c.args.before c.args.members.now c.in_ok-now.now.items (word
          (said_by c.first.result.now))
          (word (first_of c.args.group.now)) (map word (units_behind c.behind-behind.result)) (map word (behind_of c.args.group.now))
          c.in_ok-now.ensures.items first rest;
      value = leads_first c.args.heard.now c.args.octets c.args.before c.args.members.now c.in_ok-now.now.items (word
          (said_by c.first.result.now))
          (word (first_of c.args.group.now)) (map word (units_behind c.behind-behind.result)) (map word (behind_of c.args.group.now))
          c.in_ok-now.ensures.items first rest;
    }

pub units-preserved : goal.units-preserved
units-preserved c =
    let u = word (said_by c.in-Some.unit) in
    let split = ap (map word) c.in-Some.ensures.steps in
    let restarts = c.either-restarts.ensures ∙ ap (λ (b : Bool). c.units.restarts || b) c.is_restart_unit.ensures in record {
      explains = units_turn c.args.heard.now c.args.octets c.args.before c.args.members.now (said_by_units (units_of c.args.group.now))
          c.units.now.items c.in_ok-now-2.now.items c.units.restarts c.either-restarts.result
          (word (said_by c.first.result.now)) u u (map word (units_behind c.units.behind)) (map word (units_behind c.next.new.self))
          c.units.invariant.explains split refl
          (subst (λ (x : List Member). UnitGives c.args.heard.now c.args.octets c.args.before x u c.in_ok-now-2.now.items)
          c.deref.ensures.value
          c.in_ok-now-2.ensures.explains)
          restarts;
      value = leads_next c.args.heard.now c.args.octets c.args.before c.args.members.now (said_by_units (units_of c.args.group.now))
          c.units.now.items c.in_ok-now-2.now.items c.units.restarts c.either-restarts.result
          (word (said_by c.first.result.now)) u u (map word (units_behind c.units.behind)) (map word (units_behind c.next.new.self))
          c.units.invariant.value split refl
          (subst (λ (x : List Member). c.in_ok-now-2.now.items ≡ after_word c.args.heard.now c.args.octets c.args.before x u)
          c.deref.ensures.value
          c.in_ok-now-2.ensures.value)
          restarts;
    }

pub returns-then-restarts-clause-explains : goal.returns-then-restarts-clause-explains
returns-then-restarts-clause-explains c =
    units_restarted c.args.heard.now c.args.octets c.args.before c.args.members.now (said_by_units (units_of c.args.group.now))
    c.units.now.items c.units.restarts (word (said_by c.first.result.now))
    (map word (units_behind c.units.behind)) c.units.invariant.explains (ap (map word) c.in_default.ensures.steps.0) c.if-restarts.true

pub returns-then-restarts-clause-value : goal.returns-then-restarts-clause-value
returns-then-restarts-clause-value c = grind (arith, leads_restarted)

pub returns-clause-explains : goal.returns-clause-explains
returns-clause-explains c =
    let first = word (said_by c.first.result.now) in
    units_item c.args.heard.now c.args.octets c.args.before c.args.members.now (said_by_units (units_of c.args.group.now)) c.units.now.items
    c.in_ok-last.last.items c.units.restarts first first
    (map word (units_behind c.units.behind)) c.units.invariant.explains (ap
    (map word) c.in_default.ensures.steps.0) c.if-restarts.false refl
    (subst (λ (x : List Member). UnitGives c.args.heard.now c.args.octets c.args.before x first c.in_ok-last.last.items)
    c.deref-2.ensures.value c.in_ok-last.ensures.explains)

pub returns-clause-value : goal.returns-clause-value
returns-clause-value c =
    let first = word (said_by c.first.result.now) in
    leads_item c.args.heard.now c.args.octets c.args.before c.args.members.now (said_by_units (units_of c.args.group.now)) c.units.now.items
    c.in_ok-last.last.items c.units.restarts first first (map word (units_behind c.units.behind)) c.units.invariant.value
    (ap (map word) c.in_default.ensures.steps.0) c.if-restarts.false refl
    (subst (λ (x : List Member). c.in_ok-last.last.items ≡ after_word c.args.heard.now c.args.octets c.args.before x first)
    c.deref-2.ensures.value
    c.in_ok-last.ensures.value)
