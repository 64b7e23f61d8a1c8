use Rattle.osi_judge.proofs.each_record_is_noted.{places_more}
use Rattle.osi_judge.proofs.records.make_places.Goals as goal

pub places-preserved : goal.places-preserved
places-preserved c = λ n at e. places_more c.places.places.items _ 0 c.in_ok-push.ensures.items n at (c.places.invariant n at e)
