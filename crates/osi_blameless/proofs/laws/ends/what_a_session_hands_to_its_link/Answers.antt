use Rattle.std.proofs.Common.{arith}
use Rattle.osi_blameless.proofs.ends.at_any_time.what_a_session_answers_fits.{all_proper}
use Rattle.osi_blameless.proofs.ends.courses.what_a_run_does_to_it.{fresh_course, fresh_turns, nothing_since, turns_continue}
use Rattle.osi_blameless.proofs.ends.at_any_time.the_cn_of_a_request_fits.{can_begin}
use Rattle.osi_blameless.proofs.laws.ends.what_a_session_hands_to_its_link.Goals as goal

pub returns-clause-begins : goal.returns-clause-begins
returns-clause-begins c = fresh_course

pub returns-clause-run : goal.returns-clause-run
returns-clause-run c = search (arith, all_proper, can_begin, turns_continue, nothing_since, fresh_turns)
