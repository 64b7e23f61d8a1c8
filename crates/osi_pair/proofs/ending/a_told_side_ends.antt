-- A side that is told of the break ends as the machine does.
-- For the laws of `standing`.
use Rattle.osi_machine.specs.Core as machine
use Rattle.osi_machine.specs.Machine as entries
use Rattle.osi_stack.specs.State as stack
use Rattle.osi_pair.specs.Entries.{ends}
use Rattle.osi_pair.proofs.Vocabulary.{◌≡◌, refl, sym, ◌∙◌, subst, ℕ, true, List, [], ◌∷◌, ◌++◌, Option, Some, None, is_some, arith, Rows}
use Rattle.osi_pair.proofs.Vocabulary.{EndReason, Broken, told_of_break, Step, Tables, end_of, after_end, run, Shown, Holding, TwoEnds}
use Rattle.osi_pair.proofs.Vocabulary.{end_at, Entry, HearsOfBreak, TellsBreak, Stands, StandsAt, StandsAtEnd, StandsAtTold, side_in}
use Rattle.osi_pair.proofs.Vocabulary.{shown_entries, Side}
use Rattle.osi_pair.proofs.turn.what_an_acting_end_leaves_in_flight.{one_step}
use Rattle.osi_pair.proofs.promise.matching_ends_keep_the_promises.{tables_at, is_run}
use Rattle.osi_pair.proofs.flight.who_receives_what_is_in_flight.{TakeLaws, takes_from}
use Rattle.osi_pair.proofs.ending.an_end_of_an_end_is_the_machines.{ended_holding, ended_pair, may_end, shown_then, ended_stands}
use Rattle.osi_pair.proofs.ending.all_sessions_are_lost_in_order.{none_kept, IsTold}
use Rattle.osi_pair.proofs.packet.a_packet_is_one_delivery_or_none.{lasting_in}
use Rattle.osi_pair.proofs.flight.whether_something_is_cut_off.{Lasts}

-- ---- the step

one_end : (who : machine.Side) (t : Tables) (keep : ℕ → ℕ) → end_of who t ≡ None → t.broken ≡ true →
    run t (entries.ends who told_of_break keep ∷ []) ≡ after_end who told_of_break keep t
one_end who t keep none broken = grind arith

abbrev told_pair : Side → TwoEnds → Rows stack.Line → List Entry → TwoEnds
told_pair s p lines journal = ended_pair s Broken (end_at s p).end.carrier lines (end_at s p).held journal p

-- ---- at a list of steps

ended_at : TakeLaws →
    (s : Side) (p : TwoEnds) (steps : List Step) (lines : Rows stack.Line) (first : List (ℕ × Shown)) (journal : List Entry) →
    StandsAt p steps → is_some p.reach ≡ true → Lasts s p → IsTold (end_at s p) lines first →
    journal ≡ p.journal ++ (shown_entries s first ++ ends s Broken ∷ []) → StandsAtEnd s (told_pair s p lines journal) steps
ended_at laws s p steps lines first journal at broken none told said =
    let t = tables_at p steps in
    let h = end_at s p in
    let done = ended_stands s p at.now t t h.end h.held at.now Broken told_of_break lines h.held first journal at.stands
    (may_end s p at.now t at.stands (takes_from laws s t (is_run p steps at)) none) refl
    (λ n. none_kept n h.end.lines lines told.same) (shown_then s p at.now t lines first at.stands none told) said in
    let is = one_end (side_in s) t done.keep (lasting_in s p at.now t at.stands none) (at.stands.broken ∙ broken) in
    record {
      keep = done.keep;
      stands = one_step p (told_pair s p lines journal) steps (entries.ends (side_in s) told_of_break done.keep) tt (grind arith)
          at.numbered (record { now = at.now; stands = subst (Stands (told_pair s p lines journal) at.now) (sym is) done.stands });
    }

-- ---- what a side that is told of a break does

-- an end that has not ended
record Heard (who : Side) (old new : Holding) (before after : List Entry) : Type 0 where
  first : List (ℕ × Shown)
  told : IsTold old new.end.lines first
  is : new ≡ ended_holding Broken old.end.carrier new.end.lines old.held
  says : after ≡ before ++ (shown_entries who first ++ ends who Broken ∷ [])

heard : (who : Side) (old new : Holding) (before after : List Entry) → old.end.carrier.ended ≡ None →
    HearsOfBreak who old before new after → Heard who old new before after
heard who old new before after none h = grind arith

told_by : TakeLaws → (who : Side) (old new : TwoEnds) (steps : List Step) (o : Option EndReason) → (end_at who old).end.carrier.ended ≡ o →
    StandsAt old steps → is_some old.reach ≡ true → TellsBreak who old new → StandsAtTold o who new steps
told_by laws who old new steps (Some reason) e s broken h =
    subst (λ (x : TwoEnds). StandsAt x steps) (sym (grind (arith, h.other, h.reach))) s
told_by laws who old new steps None e s broken h =
    let now = heard who (end_at who old) (end_at who new) old.journal new.journal e (h.told.hears e) in
    subst (λ (x : TwoEnds). StandsAtEnd who x steps) (sym (grind (arith, now.is, h.other)))
    (ended_at laws who old steps (end_at who new).end.lines now.first new.journal s broken e now.told now.says)

pub told_at : TakeLaws → (who : Side) (old new : TwoEnds) (steps : List Step) → StandsAt old steps → is_some old.reach ≡ true →
    TellsBreak who old new → StandsAtTold (end_at who old).end.carrier.ended who new steps
told_at laws who old new steps s broken h = told_by laws who old new steps (end_at who old).end.carrier.ended refl s broken h
