-- The two kinds of slot: of an end, and of a judge.
-- For the proofs by hand of each one's handle and `get_mut`.
use Rattle.std.proofs.Common.{refl}
use Rattle.osi_c.specs.contracts.handles.Contents.{the_row as contents}
use Rattle.osi_c.specs.contracts.handles.Handle.{the_type as end_handle}
use Rattle.osi_c.specs.contracts.slots.OsiEnd.{the_type as end_slot}
use Rattle.osi_c.specs.contracts.judges.HeldJudge.{the_row as judge}
use Rattle.osi_c.specs.contracts.handles.judge.JudgeHandle.{the_type as judge_handle}
use Rattle.osi_c.specs.contracts.judge_slots.OsiJudge.{the_type as judge_slot}
use Rattle.osi_c.specs.Lent.{holding as holding_an_end}
use Rattle.osi_c.specs.LentJudge.{holding as holding_a_judge}
use Rattle.osi_c.proofs.handles.Contents.TheLaws.{the_row_laws as contents_laws}
use Rattle.osi_c.proofs.judges.HeldJudge.TheLaws.{the_row_laws as judge_laws}
use Rattle.osi_c.proofs.a_slot_holds_a_box.{SlotKind}

abbrev pub of_an_end : SlotKind
of_an_end = record {
  held = contents;
  laws = contents_laws;
  handle = end_handle;
  at = λ h. h.at;
  value = λ h. h.value;
  made = λ p m. record { at = p; value = m };
  made_at = λ p m. refl;
  made_value = λ p m. refl;
  slot = end_slot;
  full = λ s. s.full;
  inner = λ s. s.inner;
  slot_one = end_slot.to_one;
  tied = λ s. s.tied;
  holding = holding_an_end;
  holding_full = λ s x. refl;
  holding_inner = λ s x. refl;
}

abbrev pub of_a_judge : SlotKind
of_a_judge = record {
  held = judge;
  laws = judge_laws;
  handle = judge_handle;
  at = λ h. h.at;
  value = λ h. h.value;
  made = λ p m. record { at = p; value = m };
  made_at = λ p m. refl;
  made_value = λ p m. refl;
  slot = judge_slot;
  full = λ s. s.full;
  inner = λ s. s.inner;
  slot_one = judge_slot.to_one;
  tied = λ s. s.tied;
  holding = holding_a_judge;
  holding_full = λ s x. refl;
  holding_inner = λ s x. refl;
}
