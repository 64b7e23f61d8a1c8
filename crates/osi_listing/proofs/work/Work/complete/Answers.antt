use Rattle.osi_listing.proofs.Vocabulary.{◌≡◌, ◌++◌, List, ℕ, take, drop, refl, sym, ap, subst, IsOnePacket, Moves, Work}
use Rattle.osi_listing.proofs.what_one_more_packet_adds.{held_whole, joined_again, fault_left, moves_none, moves_both}
use Rattle.osi_listing.proofs.work.Work.complete.Goals as goal

pub returns-in_ok-list_held-in-Ok-clause-completes : goal.returns-in_ok-list_held-in-Ok-clause-completes
returns-in_ok-list_held-in-Ok-clause-completes c = λ going.
    let old = c.args.self.now in
    let mid : Work = record { cutter = c.feed.new.self; streams = old.streams; counts = old.counts; offset = old.offset } in
    let new = c.list_held.new.self in
    let used = c.in-Ok.fed.used in
    let piece = c.args.piece.now in
    let text = c.args.text.now.items in
    let last = c.list_held.new.text.items in
    let taken = c.in-Ok.ensures.taken going.1 going.0 in
    let octets : c.feed.new.self.octets ≡ old.cutter.octets ++ take used piece = ap (λ h. h.octets) taken.1.octets in
    let whole : IsOnePacket c.feed.new.self.octets =
    subst IsOnePacket (sym octets) (held_whole c.in-Ok.fed.whole used old.cutter.octets piece c.if-not-fed.false taken.0.whole) in (
      moves_both old mid new text text last (old.cutter.octets ++ piece) (old.cutter.octets ++ piece) (drop used piece)
          (moves_none old mid text (old.cutter.octets ++ piece) refl)
          (subst (λ (o : List ℕ). Moves mid text o new last (drop used piece))
          (joined_again c.feed.new.self.octets old.cutter.octets piece used octets)
          (c.in_ok-list_held-in-Ok.ensures.moves (drop used piece) whole)),
      c.in_ok-list_held-in-Ok.ensures.ready whole,
    )

pub returns-in_ok-of_stream-in-Err-clause-completes : goal.returns-in_ok-of_stream-in-Err-clause-completes
returns-in_ok-of_stream-in-Err-clause-completes c = λ going. (
  refl,
  refl,
  fault_left c.args.self.now.cutter c.feed.new.self c.args.piece.now c.in-Err.fault c.in_ok-of_stream-in-Err.field-0
      c.in_ok-of_stream-in-Err.ensures.same c.in_ok-of_stream-in-Err.ensures.known (c.in-Err.ensures.taken going.1 going.0),
)
