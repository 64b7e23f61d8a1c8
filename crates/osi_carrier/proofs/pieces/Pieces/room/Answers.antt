use Rattle.std.proofs.Common.{◌∙◌, subst, sym, IsSome}
use Rattle.osi_carrier.proofs.written.octets_are_cut_into_tsdus.{counting_first, counting_next, counted_units, counted_octets, counted_some}
use Rattle.osi_carrier.proofs.written.octets_are_cut_into_tsdus.{fits_last, fits_next}
use Rattle.osi_carrier.proofs.pieces.Pieces.room.Goals as goal

pub pieces-init : goal.pieces-init
pieces-init c = counting_first c.args.self.now c.args.limit c.requires.fit

pub pieces-preserved : goal.pieces-preserved
pieces-preserved c =
    counting_next _ _ _ _ _ _ _ _ _ c.requires.fit c.pieces.invariant c.pieces-test.true c.split_at.ensures.back
    c.in_ok-room.ensures.units c.in_ok-room.ensures.octets

pub returns : goal.returns
returns c =
    record {
      units = counted_units _ _ _ _ _ _ _ c.pieces.invariant c.pieces-test.false c.with_one-2.ensures.units;
      octets = counted_octets _ _ _ _ _ _ _ c.pieces.invariant c.pieces-test.false c.with_one-2.ensures.octets;
      some = counted_some _ _ _ _ c.with_one-2.ensures.units;
      fits = fits_last _ _ _ _ _ _ _ c.pieces.invariant c.pieces-test.false c.with_one-2.ensures.fits;
    }

pub returns-in_err-room-clause-fits : goal.returns-in_err-room-clause-fits
returns-in_err-room-clause-fits c = λ units octets.
    subst IsSome (c.in_err-room.was ∙ sym c.from_residual.ensures)
    (fits_next _ _ _ _ _ _ _ c.requires.fit c.pieces.invariant c.pieces-test.true c.with_one.ensures.fits units octets)
