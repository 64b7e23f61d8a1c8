use Rattle.osi_pair.proofs.Vocabulary.{◌≡◌, ◌∙◌, ◌<◌, Bool, List, [], ◌∷◌, ◌++◌, take, length, Option, IfSome, refl, sym, ap, subst, arith}
use Rattle.osi_pair.proofs.Vocabulary.{slice_get_read, OutOfMemory, take_more, take_all, TwoEnds, misfit, error_by_rule, WantsMemory}
use Rattle.osi_pair.proofs.Vocabulary.{HappenAll, Event}
use Rattle.osi_pair.proofs.event.events_happen_in_turn.{happen_more, runs_through}
use Rattle.osi_pair.proofs.pairs.Pair.run_telling_cuts.Goals as goal

pub events-preserved : goal.events-preserved
events-preserved c =
    let within : c.events.place < length c.args.events.now = omega arith in
    let before = take c.events.place c.args.events.now in
    let event = c.index-events-place.result in
    let more = take_more c.args.events.now c.events.place event within
    ∙ ap (λ (e : Event). before ++ e ∷ []) (sym c.index-events-place.is) in
    subst (λ (l : List Event). HappenAll l c.args.self.now c.either-is_cut_short.result c.apply.new.self) (sym more)
    (subst (λ (is_cut : Bool). HappenAll (before ++ event ∷ []) c.args.self.now is_cut c.apply.new.self) (sym c.either-is_cut_short.ensures)
    (happen_more before event c.in-Ok.applied c.events.is_cut_short c.args.self.now c.events.self c.apply.new.self c.events.invariant
    (record {
      fits = c.in-Ok.ensures.fits;
      does = c.in-Ok.ensures.does;
      carried = c.in-Ok.ensures.carried;
      cut = c.in-Ok.ensures.cut;
      full = c.in-Ok.ensures.full;
      capacity = c.apply.ensures.capacity;
      stands = c.in-Ok.ensures.stands;
      safe = c.in-Ok.ensures.safe;
    })))

pub returns-in-Err-clause-stops : goal.returns-in-Err-clause-stops
returns-in-Err-clause-stops c =
    let within : c.events.place < length c.args.events.now = omega arith in
    record {
      within = within;
      is_cut = c.events.is_cut_short;
      between = c.events.self;
      before = search (arith, runs_through);
      same = c.in-Err.ensures.err;
      capacity = c.apply.ensures.capacity;
      refused = subst (λ (o : Option Event). IfSome o (λ event. error_by_rule c.in-Err.error ≡ misfit event c.apply.new.self.ends))
          (sym (slice_get_read c.args.events.now
          (length c.args.events.now) c.events.place c.index-events-place.result refl within c.index-events-place.is))
          (grind arith);
      needed = subst (λ (o : Option Event). IfSome o (λ event. c.in-Err.error ≡ OutOfMemory → WantsMemory event c.apply.new.self.ends))
          (sym (slice_get_read c.args.events.now
          (length c.args.events.now) c.events.place c.index-events-place.result refl within c.index-events-place.is))
          (subst (λ (p : TwoEnds). c.in-Err.error ≡ OutOfMemory → WantsMemory c.index-events-place.result p)
          (sym c.in-Err.ensures.err) c.in-Err.ensures.needed);
    }

pub returns-clause-all : goal.returns-clause-all
returns-clause-all c = grind (arith, runs_through, take_all)
