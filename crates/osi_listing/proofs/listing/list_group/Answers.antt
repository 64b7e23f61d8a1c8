use Rattle.osi_listing.proofs.Vocabulary.{◌≡◌, ◌∷◌, ◌++◌, ◌∙◌, map, drop, sym, ap, subst, on_ok_weaker, Units, said_by, first_of, behind_of}
use Rattle.osi_listing.proofs.Vocabulary.{SessionUnit, Says, session_line}
use Rattle.osi_listing.specs.Counting.{one_more}
use Rattle.osi_listing.proofs.units_one_after_the_other.{says_last, says_unit}
use Rattle.osi_listing.proofs.listing.list_group.Goals as goal

pub returns-in_default : goal.returns-in_default
unfolding one_more
returns-in_default c =
    let group = c.args.group.now in
    let text = c.args.text.now.items in
    says_last text c.push_session_unit.new.text.items c.args.counts.now c.add_session_unit.new.self (first_of group) (behind_of group)
    c.in_default.ensures
    (c.in_ok-push_session_unit.ensures ∙ ap (λ u. text ++ session_line u) c.first.ensures)
    c.add_session_unit.ensures

pub returns : goal.returns
unfolding one_more
returns c =
    let group = c.args.group.now in
    let text = c.args.text.now.items in
    let mid = c.push_session_unit.new.text.items in
    let more = c.push_session_unit-2.new.text.items in
    let new = c.list_more.new.text.items in
    let then = c.add_session_unit.new.self in
    let later = c.add_session_unit-2.new.self in
    let now = c.list_more.new.counts in
    let second = said_by c.in-Some.second.now in
    let whole : behind_of group ≡ second ∷ drop 1 (behind_of group) = c.in-Some.ensures in
    on_ok_weaker c.list_more.result
    (λ says. says_unit text mid new c.args.counts.now then now (first_of group) (behind_of group)
    (c.in_ok-push_session_unit.ensures ∙ ap (λ u. text ++ session_line u) c.first.ensures)
    c.add_session_unit.ensures
    (subst (λ (us : Units). Says mid new then now (map SessionUnit us)) (sym whole)
    (says_unit mid more new then later now second (drop 1 (behind_of group)) c.in_ok-push_session_unit-2.ensures
    c.add_session_unit-2.ensures
    (subst (λ (us : Units). Says more new later now (map SessionUnit us)) c.after_second.ensures says))))
    c.list_more.ensures
