use Rattle.osi_message.proofs.the_tsdus_of_a_message.{sent_alone, are_parts, sent_joined, sent_read, sent_full, sent_short, sent_octets}
use Rattle.osi_message.proofs.laws.what_leaves_in_parts.Goals as goal

pub returns-clause-whole : goal.returns-clause-whole
returns-clause-whole c = sent_alone

pub returns-clause-parts : goal.returns-clause-parts
returns-clause-parts c = are_parts

pub returns-clause-joined : goal.returns-clause-joined
returns-clause-joined c = sent_joined

pub returns-clause-read : goal.returns-clause-read
returns-clause-read c = sent_read c.what_is_sent_is_read.ensures.read c.what_is_sent_is_read.ensures.said c.what_a_part_says.ensures

pub returns-clause-full : goal.returns-clause-full
returns-clause-full c = sent_full

pub returns-clause-short : goal.returns-clause-short
returns-clause-short c = sent_short

pub returns-clause-octets : goal.returns-clause-octets
returns-clause-octets c = λ limit m can h. sent_octets limit m h (c.what_is_sent_is_octets.ensures m can h)
