-- What the proofs of this crate take from the library, from the crates below and from its own definitions.
pub use Rattle.std.proofs.Common.{Bool, Err, IfOk, IfSome, List, None, Ok, Option, Result, Some, [], ap, arith, cond, drop, eq-eqb, false}
pub use Rattle.std.proofs.Common.{filter, get_or, if◌then◌else◌, inl, inr, length, map, not, refl, set, slice_get, subst, suc}
pub use Rattle.std.proofs.Common.{sym, take, true, zero, ℕ, ◌&&◌, ◌||◌, ◌++◌, ◌+◌, ◌-◌, ◌<◌, ◌==◌, ◌^◌, ◌∙◌, ◌∷◌, ◌≡◌, ◌≤◌, ◌⊎◌}
pub use Rattle.std.proofs.lemmas.Bool.{eqb-true}
pub use Rattle.std.proofs.lemmas.Bool.Decides.{eqb_tells}
pub use Rattle.std.proofs.lemmas.Grind.{flat_map-append}
pub use Rattle.std.proofs.lemmas.List.{append-nil, append_assoc, length-append, length-map, length-set, map-append, take-append-drop}
pub use Rattle.std.specs.List.{before_first, find, flat_map}
pub use Rattle.osi_tpkt.specs.Stream.{offset_of}
pub use Rattle.osi_tpdu.specs.Packet.{units_of}
pub use Rattle.osi_tpdu.specs.Value.{Value}
pub use Rattle.osi_tpdu.specs.declared.faults.TpduFault.{TpduFault}
pub use Rattle.osi_session.specs.Standing.{Seen}
pub use Rattle.osi_rules.specs.declared.findings.Meaning.{Meaning}
pub use Rattle.osi_rules.specs.declared.findings.Reach.{Reach}
pub use Rattle.osi_side.proofs.a_capture_goes_on.{stream_beside, stream_fed}
pub use Rattle.osi_side.proofs.told.a_session_stands_in_one_way.{one_stands}
pub use Rattle.osi_side.proofs.told.a_side_strays_at_one_place.{Strays, never_strays, no_crowd}
pub use Rattle.osi_side.proofs.told.a_tsdu_is_broken_by_one_rule.{one_break}
pub use Rattle.osi_side.proofs.told.what_is_known_of_a_side.{found_as, room_as}
pub use Rattle.osi_side.specs.Breaking.{BreaksAt, BreaksWith, selection_of}
pub use Rattle.osi_side.specs.Captures.{Capture, of, other, piece, stream}
pub use Rattle.osi_side.specs.Explaining.{IsExplained}
pub use Rattle.osi_side.specs.Foremost.{foremost}
pub use Rattle.osi_side.specs.Judging.{HasRoom, IsFew, IsFound, IsKept, Keeps, Observed, Observes, ObservesBy}
pub use Rattle.osi_side.specs.Kept.{kept}
pub use Rattle.osi_side.specs.Onward.{StandsBehind, StandsFor}
pub use Rattle.osi_side.specs.Profiles.{leaves}
pub use Rattle.osi_side.specs.Sides.{observed}
pub use Rattle.osi_side.specs.Findings.{broke_session}
pub use Rattle.osi_side.specs.Sides.{begin_of}
pub use Rattle.osi_side.specs.declared.directions.Direction.{Direction}
pub use Rattle.osi_side.specs.declared.directions.Direction.TheVariants.{Right}
pub use Rattle.osi_side.specs.declared.findings.Finding.{Finding}
pub use Rattle.osi_side.specs.declared.findings.Finding.TheVariants.{Broke, Kept, Left, TooMany}
pub use Rattle.osi_side.specs.declared.members.Member.{Member}
pub use Rattle.osi_side.specs.declared.rules.Break.{Break}
pub use Rattle.osi_side.specs.declared.standings.Stands.{Stands}
pub use Rattle.osi_judge.proofs.a_capture_has_one_first_break.{one_first, still_held}
pub use Rattle.osi_judge.proofs.a_piece_comes_to_what_its_octets_do.{after_more, looks}
pub use Rattle.osi_judge.proofs.the_first_break_of_transport_is_told_of_its_side.{first_mark_within}
pub use Rattle.osi_judge.proofs.what_holds_of_a_result.{if_ok}
pub use Rattle.osi_judge.proofs.who_is_to_blame.{broken}
pub use Rattle.osi_judge.specs.Blaming.{IsMarkOf, IsToBlame, NobodyIs, SomeIs, SomeoneIs}
pub use Rattle.osi_judge.specs.Connections.{Joined, Sessions, asked_at, changed, count, has_number, meant, numbered, packet_begins}
pub use Rattle.osi_judge.specs.Connections.{reference_of, source_of, spoken, taken, taken_at}
pub use Rattle.osi_judge.specs.Courses.{Course, marked, marks_of, noted_by, packet_by, reached, unit_passes, units_pass, unread}
pub use Rattle.osi_judge.specs.Outcomes.{IsOutcomeOf, SaysSo, StandsSo, Strayed, state_of, violation_of}
pub use Rattle.osi_judge.specs.declared.outcomes.Outcome.{Outcome}
pub use Rattle.osi_judge.specs.declared.outcomes.Violation.{Violation}
pub use Rattle.osi_judge.specs.declared.sessions.Found.{Found}
pub use Rattle.osi_judge.specs.Rooms.{is_over}
pub use Rattle.osi_judge.specs.Holding.{HoldsEither, HoldsFound, HoldsJoined, IsHeard, IsPlace, line_in}
pub use Rattle.osi_judge.specs.KnownSessions.{IsSession}
pub use Rattle.osi_judge.specs.Lines.{place_in}
pub use Rattle.osi_judge.specs.Standing.{HoldsState, IsJudged, IsSettled, first_in}
pub use Rattle.osi_judge.specs.Streams.{Front, Streamed, counted, faulty, gathered, partial, whole}
pub use Rattle.osi_judge.specs.States.{State, after, begin, begin_within, begun, comes_to, looked_at, octet_passes, stream_of, with_stream}
pub use Rattle.osi_judge.specs.declared.marks.Cause.{Cause}
pub use Rattle.osi_judge.specs.declared.marks.Cause.TheVariants.{BadPacket, BadUnit}
pub use Rattle.osi_judge.specs.declared.marks.First.{First}
pub use Rattle.osi_judge.specs.declared.marks.Layer.{Layer}
pub use Rattle.osi_judge.specs.declared.marks.Mark.{Mark}
pub use Rattle.osi_judge.specs.declared.rooms.Room.{Room}
pub use Rattle.osi_judge.specs.declared.rooms.Room.TheVariants.{All}
pub use Rattle.osi_judge.specs.declared.judge.Judge.{Judge}
pub use Rattle.osi_listing.specs.Capture.{is_blank, is_comment_sign}
pub use Rattle.osi_report.specs.Adding.{AddsJudgement, AddsPair, AddsPairs, AddsReport}
pub use Rattle.osi_report.specs.Disputes.{IsJudgement, Judges}
pub use Rattle.osi_report.specs.Openings.{Opens, first_code, unjudged}
pub use Rattle.osi_report.specs.declared.openings.Opening.{Opening}
pub use Rattle.osi_report.specs.Telling.{connection_by}
pub use Rattle.osi_report.specs.Reading.{row, rows_left}
pub use Rattle.osi_report.specs.ReportTexts.{last_line, last_status, pair_lines, read_lines, transport_lines}
pub use Rattle.osi_report.specs.Reports.{ArePairs, IsFirstLast, IsLast, IsLastBy, IsMarkLast, IsPair, IsPairOf, IsReport, IsStrayLast}
pub use Rattle.osi_report.specs.Reports.{HoldsReached, IsReached, Report, some_over}
pub use Rattle.osi_report.specs.Reports.{Tells, all_keep, carried, is_clear, is_opened, is_refused_in, kept_last, no_pair}
pub use Rattle.osi_report.specs.Reports.{stray_last}
pub use Rattle.osi_report.specs.Rows.{IsCaptureOf, Row, capture_of, digits_left, digits_on, rows_of, side_of}
pub use Rattle.osi_report.specs.declared.reports.Last.{Last}
pub use Rattle.osi_report.specs.declared.reports.Pair.{Pair}
pub use Rattle.osi_report.specs.declared.reports.Together.{Together}
pub use Rattle.osi_report.specs.declared.reports.Transport.{Transport}
pub use Rattle.osi_report.specs.declared.disputes.Judgement.{Judgement}
pub use Rattle.osi_report.specs.declared.told.Connection.{Connection}
