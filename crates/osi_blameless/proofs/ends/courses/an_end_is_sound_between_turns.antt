-- Between two turns an end is sound and holds no more than a part of a packet; and where its packets lead, a turn leads that uses no more.
-- For what an end does with the packets before a break of the other side.
use Rattle.osi_blameless.proofs.ends.Vocabulary.{[], ap, Bool, false, is_some, List, None, Option, refl, Some, subst, sym, true, ℕ, ◌++◌}
use Rattle.osi_blameless.proofs.ends.Vocabulary.{◌∷◌, ◌≡◌}
use Rattle.osi_blameless.proofs.ends.Vocabulary.{ArePackets, packets, Local, EndReason, lasting_of, or_second, TakesPackets, Calls, Call}
use Rattle.osi_blameless.proofs.ends.Vocabulary.{carrying}
use Rattle.osi_blameless.proofs.ends.Vocabulary.{feeding, telling, End, Holding, waits, Continues, Deeds, units_in, all_units, IsFresh, Act}
use Rattle.osi_blameless.proofs.ends.Vocabulary.{Acts}
use Rattle.osi_blameless.proofs.ends.Vocabulary.{Takes, Turn, arith, empty_partial, IsPartial, stops}
use Rattle.osi_blameless.proofs.ends.reading.how_much_of_a_piece_is_used.{all_octets}
use Rattle.osi_blameless.proofs.ends.courses.an_end_takes_packets_up_to_its_last.{dry_to}
use Rattle.osi_blameless.proofs.ends.courses.steps_of_a_course.{HoldEach}
use Rattle.osi_blameless.proofs.ends.courses.what_a_packet_does_to_it.{Between, takes_steps}
use Rattle.osi_blameless.proofs.ends.courses.what_a_run_does_to_it.{fresh_between, turn_between}
use Rattle.osi_blameless.proofs.ends.courses.what_sessions_hear_of_it.{CourseAll, Known}
use Rattle.osi_blameless.proofs.ends.links.what_is_put_is_written.{makes_written}

-- ---- what is held

part_empty : (octets : List ℕ) → octets ≡ [] → IsPartial octets
part_empty octets none = subst IsPartial (sym none) empty_partial

part_as : (old new : Holding) → new ≡ old → IsPartial old.held.octets → IsPartial new.held.octets
part_as old new same part = subst (λ (h : Holding). IsPartial h.held.octets) (sym same) part

part_call : (call : Call) (old new : Holding) → Calls old call new → IsPartial old.held.octets → IsPartial new.held.octets
part_call (feeding piece fed) old new f part = by old.end.carrier.ended refl (waits old.end.lines) refl
  where
    by : (o : Option EndReason) → old.end.carrier.ended ≡ o → (w : Bool) → waits old.end.lines ≡ w → IsPartial new.held.octets
    by (Some reason) over w e = part_as old new (f.over (ap is_some over)).1 part
    by None lasts true e = part_as old new (f.waiting lasts e).1 part
    by None lasts false e = grind (arith, part_empty)
part_call (telling shown) old new c part = subst (λ (h : Holding). IsPartial h.held.octets) (sym c.1) part
part_call (carrying octets) old new c part = subst (λ (h : Holding). IsPartial h.held.octets) c part

part_act : (act : Act) (old new : Holding) → Acts old act new → IsPartial old.held.octets → IsPartial new.held.octets
part_act act old new acts part = search (arith, part_call)

-- ---- between two turns

pub record IsSane (h : Holding) : Type 0 where
  pub between : Between h.end
  pub part : IsPartial h.held.octets

pub turn_sane : (is_caller : Bool) (deeds : ℕ → Deeds) (turn : Turn) (old new : Holding) → Continues is_caller deeds old turn new →
    Takes old turn new → IsSane old → IsSane new
turn_sane is_caller deeds turn old new on t s = record {
  between = turn_between is_caller deeds turn old new on t s.between;
  part = part_act t.act old new t.acts s.part;
}

pub fresh_sane : (is_caller : Bool) (local : Local) (h : Holding) → IsFresh is_caller local h → IsSane h
fresh_sane is_caller local h fresh = grind (arith, fresh_between, part_empty)

-- ---- where packets lead

-- a turn uses these packets alone, and leads there
pub record LeadsTo (used : List (List ℕ)) (mid : End) (old : Holding) : Type 0 where
  pub turn : Turn
  pub new : Holding
  pub there : new.end ≡ mid
  pub takes : Takes old turn new
  pub cut : ArePackets used (old.held.octets ++ turn.used) []
  pub held : new.held.octets ≡ []

pub leads_to : Known → (is_caller : Bool) (deeds : ℕ → Deeds) (old : Holding) → IsSane old → HoldEach (CourseAll is_caller) deeds old.end →
    (u : List ℕ) (us : List (List ℕ)) (more r : List ℕ) (mid : End) → stops old.end ≡ false →
    ArePackets (u ∷ us) (old.held.octets ++ more) r → TakesPackets old.end (u ∷ us) mid → stops mid ≡ false → LeadsTo (u ∷ us) mid old
leads_to known is_caller deeds old s course u us more r mid quiet cut taken still =
    let steps = takes_steps known is_caller (u ∷ us) deeds old.end mid (all_octets (u ∷ us) (old.held.octets ++ more) r cut) s.between
    course taken in
    let g = dry_to old (lasting_of old.end.carrier.ended (waits old.end.lines) quiet)
    (or_second (is_some old.end.carrier.ended) (waits old.end.lines) quiet) s.part (u ∷ us) (packets (all_units steps.put)) u us more r mid
    cut taken still
    (makes_written old.end.carrier mid.carrier (units_in (u ∷ us)) (all_units steps.put) steps.makes) in
    record { turn = g.turn; new = g.new; there = g.there; takes = g.takes; cut = g.cut; held = g.held }
