-- If nothing is lost, a side of a connection is never over, so what it takes is discarded or good.
-- For the units that are taken, and for the promise that none is a fault.
use Rattle.osi_machine.proofs.Vocabulary.{◌≡◌, subst, true, false, if◌then◌else◌, List, ◌∷◌, ◌++◌, arith, State, Meaning, nothing, good}
use Rattle.osi_machine.proofs.Vocabulary.{is_over, respond_unit, drops, next, Owners, got_in, Fits, AllFit, flush, view_next, Party}
use Rattle.osi_machine.proofs.Vocabulary.{party_taking}
use Rattle.osi_machine.proofs.basics.what_holds_in_each_phase.{implied_two, by_test}
use Rattle.osi_machine.proofs.channels.a_unit_is_dropped_bad_or_acted_on.{fit_cases, fit_acts, no_fault, fit_next}
use Rattle.osi_machine.proofs.channels.what_every_unit_in_flight_keeps.{kept_all}
use Rattle.osi_machine.proofs.channels.a_deaf_side_acts_on_nothing.{not_both}
use Rattle.osi_machine.proofs.invariant.what_holds_of_both_sides.{flushed, matched, Half}

pub over_kept : (s : State) (us : List Meaning) → is_over s.phase ≡ true → AllFit s us → is_over (flush s us).phase ≡ true
over_kept = kept_all (λ s. is_over s.phase ≡ true)
    (grind (arith, fit_cases))

pub alive : (o : Owners) (x y : Party) → Half o x y → is_over x.session.phase ≡ false
alive o x y h = by_test (is_over x.session.phase)
    (search (arith, not_both, implied_two, matched, flushed, over_kept))
    (λ e. e)

-- ---- the first unit in flight

-- it is no fault
pub first_is_no_fault : (o : Owners) (x y : Party) (u : Meaning) (us : List Meaning) → y.sent ≡ u ∷ us → Half o x y
    → respond_unit x.session u ≡ (if drops x.session u then nothing x.session else good x.session u)
first_is_no_fault o x y u us e h = no_fault x.session u (alive o x y h) (subst (AllFit x.session) e h.fits).0

-- the taker after it
abbrev pub taken_party : (x : Party) (u : Meaning) → Party
taken_party x u = record {
  session = next x.session u;
  view = view_next x.session u x.view;
  said = x.said;
  got = if drops x.session u then x.got else x.got ++ got_in x.session u;
  sent = x.sent;
}

pub takes_as : (x : Party) (u : Meaning) → is_over x.session.phase ≡ false → Fits x.session u → party_taking x u ≡ taken_party x u
takes_as x u o f = search (arith, fit_next, fit_acts)
