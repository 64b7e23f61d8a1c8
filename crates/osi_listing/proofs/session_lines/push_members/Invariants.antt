use Rattle.osi_listing.proofs.Vocabulary.{◌≡◌, ◌++◌, drop, flat_map, said_by, member_fields, members_text, fields_left}
use Rattle.osi_listing.proofs.session_lines.push_members.Given as goal

abbrev pub invariant-members : goal.invariant-members
invariant-members l =
    l.text.items ++ fields_left l.is_first (flat_map (λ m. member_fields m ((said_by l.unit).known m)) (drop l.member-index l.members))
    ≡ l.fn.text.items ++ members_text (said_by l.unit).known l.members
