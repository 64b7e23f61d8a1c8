use Rattle.std.proofs.Common.{◌∙◌, ap, List, get_or}
use Rattle.osi_c.specs.Subjects.{neither}
use Rattle.osi_c.specs.declared.told.Sides.{Sides}
use Rattle.osi_c.proofs.what_is_told_is_kept.{place_more}
use Rattle.osi_c.proofs.told.make_places.Goals as goal

pub places-preserved : goal.places-preserved
places-preserved c = λ n.
    ap (λ (l : List Sides). get_or l n neither) c.in_ok-push.ensures.items ∙ place_more c.places.sessions.items n ∙ c.places.invariant n
