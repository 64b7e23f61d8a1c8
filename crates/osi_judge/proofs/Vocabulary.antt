-- What the proofs of this crate take from the library, from the crates below and from its own definitions.
pub use Rattle.std.proofs.Common.{Bool, Err, List, None, Ok, Option, Result, Some, [], add-one, ap, append_assoc, arith, cond, drop, false}
pub use Rattle.std.proofs.Common.{get_or, if◌then◌else◌, inl, inr, is_some, length, map, refl, set, slice_get, subst, suc, sym, take, true}
pub use Rattle.std.proofs.Common.{zero, ℕ, ◌++◌, ◌+◌, ◌-◌, ◌<◌, ◌==◌, ◌∙◌, ◌∷◌, ◌≡◌, ◌≤◌, ◌⊎◌}
pub use Rattle.std.proofs.Math.Seq.{drop-nil, take-append_seam}
pub use Rattle.std.proofs.lemmas.Bool.{le-ltb, leb-true, lt-ltb}
pub use Rattle.std.proofs.lemmas.List.{append-nil, length-append, length-map, length-set, length-take-le, map-append, take-append-drop}
pub use Rattle.std.proofs.lemmas.List.{take-append-le}
pub use Rattle.std.proofs.lemmas.List.Folds.{find-append}
pub use Rattle.std.specs.List.{find}
pub use Rattle.std.specs.Option.{option_copied, option_map, option_or}
pub use Rattle.osi_tpkt.specs.Packet.{IsFaultOf, IsPacket, IsPartial}
pub use Rattle.osi_tpkt.specs.Stream.{offset_of}
pub use Rattle.osi_tpkt.specs.declared.faults.TpktFault.{TpktFault}
pub use Rattle.osi_tpkt.specs.declared.faults.TpktFault.TheVariants.{BadLength, BadVersion}
pub use Rattle.osi_tpdu.specs.Packet.{units_of}
pub use Rattle.osi_tpdu.specs.Units.{GivesUnit, units_left}
pub use Rattle.osi_tpdu.specs.Value.{Value}
pub use Rattle.osi_tpdu.specs.View.{value}
pub use Rattle.osi_tpdu.specs.declared.faults.TpduFault.{TpduFault}
pub use Rattle.osi_tpdu.specs.declared.packet.Units.{Units}
pub use Rattle.osi_tpdu.specs.declared.unit.Tpdu.{Tpdu}
pub use Rattle.osi_session.specs.Standing.{Seen, seen_called, seen_calling}
pub use Rattle.osi_rules.specs.Traffic.{Outcome, outcome, refused, refused_reach, takes}
pub use Rattle.osi_rules.specs.declared.findings.Meaning.{Meaning}
pub use Rattle.osi_rules.specs.declared.findings.Meaning.TheVariants.{Asks}
pub use Rattle.osi_rules.specs.declared.findings.Reach.{Reach}
pub use Rattle.osi_rules.specs.declared.findings.Told.{Told}
pub use Rattle.osi_side.proofs.outlined.a_rule_of_outlines_is_one_of_tsdus.{room_of_tsdus}
pub use Rattle.osi_side.proofs.outlined.alike_tsdus_explain_the_same.{found_of_tsdus}
pub use Rattle.osi_side.proofs.outlined.an_outline_is_taken_alike.{outline_no_longer}
pub use Rattle.osi_side.proofs.told.a_side_strays_at_one_place.{Strays, never_strays, no_crowd}
pub use Rattle.osi_side.proofs.told.what_is_known_of_a_side.{few_by, found_as, hears, room_as}
pub use Rattle.osi_side.specs.Captures.{Capture, of, other, piece}
pub use Rattle.osi_side.specs.Explaining.{done}
pub use Rattle.osi_side.specs.Judging.{FoundNext, HasRoom, IsFew, IsFound, Observed, Observes}
pub use Rattle.osi_side.specs.Keeping.{is_same, kept_in, once, once_behind, room_in}
pub use Rattle.osi_side.specs.Outlines.{outline, outlines}
pub use Rattle.osi_side.specs.Sides.{Tells, begin_of, observed}
pub use Rattle.osi_side.specs.Findings.{broke_session}
pub use Rattle.osi_side.specs.declared.directions.Direction.{Direction}
pub use Rattle.osi_side.specs.declared.directions.Direction.TheVariants.{Left, Right}
pub use Rattle.osi_side.specs.declared.findings.Finding.{Finding}
pub use Rattle.osi_side.specs.declared.findings.Finding.TheVariants.{Broke, Kept, TooMany}
pub use Rattle.osi_judge.specs.Blaming.{AreBlameless, AreBlamelessBut, AreSpotless, Blames, BlamesBy, BreaksFirst, IsBlameless, IsBreakOf}
pub use Rattle.osi_judge.specs.Blaming.{IsEarliest, IsFirstOf, IsFoundOf, IsMarkOf, IsQuiet, IsSessionOf, IsSpotless, IsStill, IsToBlame}
pub use Rattle.osi_judge.specs.Blaming.{IsToBlameAt, IsToldOf, NobodyElse, NobodyElseIs, NobodyIs, SomeIs, SomeoneIs}
pub use Rattle.osi_judge.specs.Blaming.IsBreakOf.{of_session, of_transport}
pub use Rattle.osi_judge.specs.Bounds.{IsWithin}
pub use Rattle.osi_judge.specs.Connections.{Joined, Sessions, adds, adds_all, adds_if, all_begin, asked, asked_at, changed, has_number}
pub use Rattle.osi_judge.specs.Connections.{meant, kept_on, numbered, packet_begins, placed, source_of, spoken, taken, taken_at}
pub use Rattle.osi_judge.specs.Courses.{Course, Moment, applied, breaks, cause_of, changes, earlier, first_after, first_by, first_of, halts}
pub use Rattle.osi_judge.specs.Courses.{is_break, marked, marks_of, moment_of, moved, noted_by, number_at, number_of, packet_by, reached}
pub use Rattle.osi_judge.specs.Courses.{unit_passes, units_pass, unread, unread_mark, unread_moment, way_of}
pub use Rattle.osi_judge.specs.Holding.{AreHeard, FoundHeard, HoldAll, Holds, HoldsBoth, HoldsCourse, HoldsFound, HoldsJoined, HoldsPassed}
pub use Rattle.osi_judge.specs.Holding.{IsDue, IsFirst, IsHeard, IsPlace, Lined, begun_in, is_unheard, last_place, line_in, lined, streamed}
pub use Rattle.osi_judge.specs.Holding.{unheard, unheard_at, unit_due}
pub use Rattle.osi_judge.specs.Lines.{Said, Spoken, added, before, begun_before, begun_octets, heard, kept_of, place_in, told, told_of}
pub use Rattle.osi_judge.specs.Owing.{Comes, HoldsAll, OwesLast, OwesUnits}
pub use Rattle.osi_judge.specs.KnownSessions.{IsSession}
pub use Rattle.osi_judge.specs.Outcomes.{IsOutcomeOf, SaysSo, StandsSo, Strayed, state_of, violation_of}
pub use Rattle.osi_judge.specs.Pasts.{AllPast, HoldsPast, HoldsPastOf, outcome_of}
pub use Rattle.osi_judge.specs.Rooms.{fits, is_over}
pub use Rattle.osi_judge.specs.Standing.{HoldsBy, HoldsNow, HoldsOpen, HoldsPart, HoldsState, HoldsStream, IsFed, IsJudged, IsPart, due_if}
pub use Rattle.osi_judge.specs.Standing.{first_in, pick}
pub use Rattle.osi_judge.specs.Standing.IsFed.{fed, unfed}
pub use Rattle.osi_judge.specs.Streams.{Front, Streamed, are_none, begins_at, counted, ended, faulty, front_of, gathered, partial, sized}
pub use Rattle.osi_judge.specs.Streams.{used_of, wanted, whole}
pub use Rattle.osi_judge.specs.States.{GoesOn, State, after, begin, begin_within, begun, comes_to, looked_at, octet_passes, octets_pass}
pub use Rattle.osi_judge.specs.States.{stream_of, with_stream}
pub use Rattle.osi_judge.specs.declared.connections.Connection.{Connection}
pub use Rattle.osi_judge.specs.declared.lines.Line.{Line}
pub use Rattle.osi_judge.specs.declared.lines.Stage.{Stage}
pub use Rattle.osi_judge.specs.declared.lines.Stage.TheVariants.{Between, Unheard, Within}
pub use Rattle.osi_judge.specs.declared.marks.Cause.{Cause}
pub use Rattle.osi_judge.specs.declared.marks.Cause.TheVariants.{BadPacket}
pub use Rattle.osi_judge.specs.declared.marks.First.{First}
pub use Rattle.osi_judge.specs.declared.marks.Layer.TheVariants.{Session, Transport}
pub use Rattle.osi_judge.specs.declared.marks.Mark.{Mark}
pub use Rattle.osi_judge.specs.declared.marks.Marks.{Marks}
pub use Rattle.osi_judge.specs.declared.pasts.Past.{Past}
pub use Rattle.osi_judge.specs.declared.rooms.Room.{Room}
pub use Rattle.osi_judge.specs.declared.rooms.Room.TheVariants.{All, Octets, Over}
pub use Rattle.osi_judge.specs.declared.sessions.Found.{Found}
pub use Rattle.osi_judge.specs.declared.sessions.Found.TheVariants.{Placed, Replaced}
pub use Rattle.osi_judge.specs.declared.judge.Judge.{Judge}
pub use Rattle.osi_judge.specs.declared.proceedings.Proceedings.{Proceedings}
