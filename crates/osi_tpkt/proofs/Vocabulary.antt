-- What the proofs of this crate take from the library, from the crates below and from its own definitions.
pub use Rattle.std.proofs.lemmas.Bool.{cases_eq, cases_lt}
pub use Rattle.std.proofs.lemmas.List.{append-nil, append_assoc, append_cancel_left, drop-take, drop_all, get_or_append_left, length-append}
pub use Rattle.std.proofs.lemmas.List.{length-replicate, length-take-le, take-append-drop, take-append-le, take-take, take_all, take_at}
pub use Rattle.std.proofs.lemmas.Option.{none-some}
pub use Rattle.osi_tpkt.specs.Cutter.{Advances, Belongs, Feeds, Gains, Passes, TakesPiece}
pub use Rattle.osi_tpkt.specs.Header.{IsFront, IsFull, IsUnfinished}
pub use Rattle.osi_tpkt.specs.Held.{Held, IsHolding, fresh}
pub use Rattle.osi_unit.specs.Octets.{IsOctets}
pub use Rattle.osi_tpkt.specs.Packet.{IsBadLength, IsBadVersion, IsFaultOf, IsOnePacket, IsPacket, IsPartial, IsUnit, packet_of}
pub use Rattle.osi_tpkt.specs.Packet.{stated_length}
pub use Rattle.osi_tpkt.specs.Progress.{FitsProgress, IsKept, fault_of}
pub use Rattle.osi_tpkt.specs.Runs.{CutterCall, CutterReads, CutterReadsOn, CutterRun, CutterStep, stream_of, used_by}
pub use Rattle.osi_tpkt.specs.Runs.CutterCall.{Advance, Feed}
pub use Rattle.osi_tpkt.specs.Stream.{ArePackets, Cuts, Ending, EndsAt, offset_of}
pub use Rattle.osi_tpkt.specs.declared.cutting.Fed.{Fed}
pub use Rattle.osi_tpkt.specs.declared.faults.TpktFault.{TpktFault}
pub use Rattle.osi_tpkt.specs.declared.faults.TpktFault.TheVariants.{BadLength, BadVersion, OutOfMemory}
pub use Rattle.osi_tpkt.specs.declared.headers.HeaderFault.{HeaderFault}
