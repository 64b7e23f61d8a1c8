use Rattle.std.proofs.Common.{true, length, Ok, refl, ap, ◌∙◌, arith}
use Rattle.osi_tpkt.specs.declared.cutting.Progress.TheVariants.{Stopped}
use Rattle.osi_tpkt.proofs.Vocabulary.{Feeds}
use Rattle.osi_tpkt.proofs.a_prefix_of_a_packet.{belonging_no_fault}
use Rattle.osi_tpkt.proofs.what_a_cutter_holds.{whole_feeds, kept_sound, going_on, taken_feeds, taken_sound, taken_refused, taken_lasting}
use Rattle.osi_tpkt.proofs.cutting.Cutter.feed.Goals as goal

pub returns-in-Some-clause-refused : goal.returns-in-Some-clause-refused
returns-in-Some-clause-refused c = λ unfaulted partial f fault.
    absurd (belonging_no_fault c.args.self.now.octets c.args.piece.now _ c.args.self.now.offset f c.in-Some.ensures.taken.0 fault)

taken_whole : (c : goal.In-Some) → Feeds c.args.self.now c.args.piece.now
    (Ok (record { used = c.in-Some.used; whole = true })) c.take_whole.new.self
taken_whole c = taken_feeds _ _ _ _ c.in-Some.ensures.faultless c.in-Some.ensures.partial c.in-Some.ensures.taken

pub returns-in-Some-clause-standing : goal.returns-in-Some-clause-standing
returns-in-Some-clause-standing c = (taken_whole c).standing

pub returns-in-Some-clause-empty : goal.returns-in-Some-clause-empty
returns-in-Some-clause-empty c = λ unfaulted none.
    absurd (omega (arith, ap length none, (taken_whole c).used, (taken_whole c).progress unfaulted c.in-Some.ensures.partial refl))

pub returns-in-Some-clause-progress : goal.returns-in-Some-clause-progress
returns-in-Some-clause-progress c = (taken_whole c).progress

pub returns-in-Some-clause-feeds : goal.returns-in-Some-clause-feeds
returns-in-Some-clause-feeds c = taken_whole c

pub gather-requires : goal.gather-requires
gather-requires c =
    let on = going_on _ _ _ _ _ c.in-Awaited.is c.self.invariant.1 c.self.view_is in
    record { faultless = on.0; partial = on.1 }

pub returns-in-Awaited : goal.returns-in-Awaited
returns-in-Awaited c =
    let on = going_on _ _ _ _ _ c.in-Awaited.is c.self.invariant.1 c.self.view_is in
    grind (arith, kept_sound, taken_feeds, taken_lasting, taken_refused, taken_sound)

whole : (c : goal.In-Stopped-Whole) → Feeds c.args.self.now c.args.piece.now (Ok (record { used = 0; whole = true })) c.take_whole.new.self
whole c =
    let is = c.in-Stopped-Whole.is ∙ ap Stopped (rw c.in-Stopped-Whole.is at c.in-Stopped-Whole.field-0-is) in
    whole_feeds _ _ _ _ _ _ c.args.piece.now is c.self.invariant.1 c.self.view_is c.in_default.ensures.none

pub returns-in-Stopped-Whole-clause-refused : goal.returns-in-Stopped-Whole-clause-refused
returns-in-Stopped-Whole-clause-refused c = λ unfaulted partial f fault.
    absurd (belonging_no_fault c.args.self.now.octets c.args.piece.now _ c.args.self.now.offset f
    ((whole c).taken unfaulted partial).0 fault)

pub returns-in-Stopped-Whole-clause-taken : goal.returns-in-Stopped-Whole-clause-taken
returns-in-Stopped-Whole-clause-taken c = (whole c).taken

pub returns-in-Stopped-Whole-clause-progress : goal.returns-in-Stopped-Whole-clause-progress
returns-in-Stopped-Whole-clause-progress c = (whole c).progress

pub returns-in-Stopped-Whole-clause-feeds : goal.returns-in-Stopped-Whole-clause-feeds
returns-in-Stopped-Whole-clause-feeds c = whole c

pub returns-in-Stopped-Whole-clause-sound : goal.returns-in-Stopped-Whole-clause-sound
returns-in-Stopped-Whole-clause-sound c = kept_sound _ _ _ _ _ c.self.invariant.1 c.self.view_is

pub returns-in-Stopped-Version-clause-sound : goal.returns-in-Stopped-Version-clause-sound
returns-in-Stopped-Version-clause-sound c = kept_sound _ _ _ _ _ c.self.invariant.1 c.self.view_is

pub returns-in-Stopped-Length-clause-sound : goal.returns-in-Stopped-Length-clause-sound
returns-in-Stopped-Length-clause-sound c = kept_sound _ _ _ _ _ c.self.invariant.1 c.self.view_is
