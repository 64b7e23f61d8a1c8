use Rattle.osi_transcript.proofs.a_script_has_one_transcript.{one_transcript}
use Rattle.osi_transcript.proofs.laws.a_script_has_one_transcript.Goals as goal

pub returns : goal.returns
returns c = one_transcript c.an_event_does_one_thing.ensures c.how_two_ends_stand.ensures.begins
