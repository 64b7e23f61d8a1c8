-- Units whose parameters are read where they are kept, as a reader returns them.
use Rattle.std.specs.Prelude.{ℕ, List, [], ◌∷◌, Result, Ok}
use Rattle.osi_spdu.specs.declared.faults.SpduFault.{SpduFault}
use Rattle.osi_spdu.specs.declared.params.Params.{Params}
use Rattle.osi_spdu.specs.declared.reading.Kept.{Kept}
use Rattle.osi_spdu.specs.Known.{Contents, Units}
use Rattle.osi_spdu.specs.Params.{known_of}
use Rattle.osi_spdu.specs.Reading.{◌>>=◌, Next, behind_at}

abbrev pub kept_of : Params → Kept → Next
kept_of params k = record {
  unit = (let u : Contents = record { kind = k.kind; known = known_of params; information = k.information.now } in u);
  end = k.end;
  rest = k.others.now;
}

-- a unit of category 0, and those after it
unfoldable pub followed_at : Contents → ℕ → List ℕ → Result Units SpduFault
followed_at first at octets = behind_at 16 at octets >>= λ behind. Ok (first ∷ behind)
