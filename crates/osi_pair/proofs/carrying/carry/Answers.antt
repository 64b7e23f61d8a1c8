use Rattle.osi_pair.proofs.Vocabulary.{◌≡◌, ◌∙◌, ◌+◌, ◌-◌, ◌≤◌, inl, inr, map, ap, arith, vec_len, vec_capacity, vec_items, ltb-true}
use Rattle.osi_pair.proofs.Vocabulary.{entry_by, Crossing, length, sym, length-map}
use Rattle.osi_pair.proofs.carry.pieces_are_one_carry.{carries_then, not_refused, was_refused, held_up, refused_late}
use Rattle.osi_pair.proofs.event.the_journal_only_grows.{pieces_add, no_shorter}
use Rattle.osi_pair.proofs.carrying.carry.Goals as goal
use Rattle.osi_pair.proofs.carrying.carry.Goals.{then-used-eq0-via-then-used-eq0, then-used-eq0-via-else-used-eq0+then-carried-octets}
use Rattle.osi_pair.proofs.carrying.carry.Goals.{then-used-eq0-via-else-used-eq0+else-carried-octets+then-is_err}

pub returns-then-used-eq0-clause-carries : goal.returns-then-used-eq0-clause-carries
returns-then-used-eq0-clause-carries c =
    let same : c.then-used-eq0.journal.items ≡ c.carry_piece-used.new.journal.items = elim c.then-used-eq0.branch [
      | then-used-eq0-via-then-used-eq0 w ↦ ap vec_items w.journal-is
      | then-used-eq0-via-else-used-eq0+then-carried-octets w ↦ ap vec_items w.journal-is
      | then-used-eq0-via-else-used-eq0+else-carried-octets+then-is_err w ↦ grind arith
    ] in
    carries_then c.args.side c.args.octets c.pieces.carried c.carry_piece-used.result
    (record { from = c.args.from.now; to = c.args.to.now; journal = map entry_by c.args.journal.now.items })
    (record { from = c.pieces.from; to = c.pieces.to; journal = map entry_by c.pieces.journal.items })
    c.carry_piece-used.new.from c.carry_piece-used.new.to c.carry_piece-used.new.journal.items c.then-used-eq0.journal.items
    c.pieces.invariant.0 c.carry_piece-used.ensures.carries same

pub pieces-preserved : goal.pieces-preserved
pieces-preserved c =
    let room : vec_len c.reserve-else-carried-octets.new.self + 82 ≤ vec_capacity c.reserve-else-carried-octets.new.self =
    not_refused _ c.reserve-else-carried-octets.result c.is_err.result c.is_err.ensures.value c.if-is_err.false
    c.reserve-else-carried-octets.ensures.ok in (
      carries_then c.args.side c.args.octets c.pieces.carried c.carry_piece-used.result
          (record { from = c.args.from.now; to = c.args.to.now; journal = map entry_by c.args.journal.now.items })
          (record { from = c.pieces.from; to = c.pieces.to; journal = map entry_by c.pieces.journal.items })
          c.carry_piece-used.new.from c.carry_piece-used.new.to c.carry_piece-used.new.journal.items
          c.reserve-else-carried-octets.new.self.items
          c.pieces.invariant.0 c.carry_piece-used.ensures.carries c.reserve-else-carried-octets.ensures.items,
      omega arith,
      omega arith,
      omega arith,
      inl (omega arith),
      omega arith,
    )

pub returns-then-used-eq0-clause-full : goal.returns-then-used-eq0-clause-full
returns-then-used-eq0-clause-full c is =
    let less = ltb-true (c.pieces.carried + c.carry_piece-used.result) c.args.octets is in
    elim c.then-used-eq0.branch [
      | then-used-eq0-via-then-used-eq0 w ↦
          (let none : c.carry_piece-used.result ≡ 0 = omega arith in
          inr (held_up c.args.side c.args.octets c.pieces.carried c.carry_piece-used.result _ _ c.pieces.invariant.0
          c.carry_piece-used.ensures.progress (omega (arith, less, none)) none))
      | then-used-eq0-via-else-used-eq0+then-carried-octets w ↦ absurd (omega (arith, less, w.if-carried-octets.true))
      | then-used-eq0-via-else-used-eq0+else-carried-octets+then-is_err w ↦
          (let len = w.reserve-else-carried-octets.ensures.len in
          let capacity_now = ap vec_capacity w.journal-is in
          let len_now = ap vec_len w.journal-is in
          let counted = c.then-used-eq0.journal.ok.0 ∙ sym (length-map c.then-used-eq0.journal.items entry_by) in
          inl (grind (arith, was_refused, len, capacity_now, len_now, counted)))
    ]

pub returns-then-used-eq0-clause-cut : goal.returns-then-used-eq0-clause-cut
returns-then-used-eq0-clause-cut c is =
    let now : Crossing = record { from = c.pieces.from; to = c.pieces.to; journal = map entry_by c.pieces.journal.items } in
    elim c.then-used-eq0.branch [
      | then-used-eq0-via-then-used-eq0 w ↦
          (let none : c.carry_piece-used.result ≡ 0 = omega arith in
          inr (held_up c.args.side c.args.octets c.pieces.carried c.carry_piece-used.result _ now c.pieces.invariant.0
          c.carry_piece-used.ensures.progress (grind (arith, ltb-true, none)) none))
      | then-used-eq0-via-else-used-eq0+then-carried-octets w ↦ absurd (grind (arith, ltb-true, w.if-carried-octets.true))
      | then-used-eq0-via-else-used-eq0+else-carried-octets+then-is_err w ↦
          (let full = was_refused _ w.reserve-else-carried-octets.result w.is_err.result w.is_err.ensures.value w.if-is_err.true
          w.reserve-else-carried-octets.ensures.full in
          let same = ap (λ j. length (map entry_by j)) (ap vec_items w.journal-is ∙ w.reserve-else-carried-octets.ensures.items) in
          let grown = no_shorter _ _ (pieces_add c.args.side c.args.octets c.pieces.invariant.0.pieces _ now c.pieces.invariant.0.each) in
          inl (refused_late (vec_len c.carry_piece-used.new.journal) (vec_capacity c.carry_piece-used.new.journal) _ _ _ _ full
          c.carry_piece-used.ensures.notes grown same))
    ]

pub returns-then-used-eq0-clause-capacity : goal.returns-then-used-eq0-clause-capacity
returns-then-used-eq0-clause-capacity c = grind (arith, then-used-eq0-via-then-used-eq0)
