-- The result of a reader of parameters, as lists.
use Rattle.std.specs.Prelude.{ℕ}
use Rattle.osi_spdu.specs.declared.levels.Counted.{Counted}
use Rattle.osi_spdu.specs.declared.levels.Parameter.{Parameter}
use Rattle.osi_spdu.specs.Reading.{Measured}

abbrev pub measured_of : Counted → Measured
measured_of c = record { used = c.used; value = c.value.now; rest = c.rest.now }

abbrev pub parameter_of : Parameter → ℕ × Measured
parameter_of p = (p.code, measured_of p.counted)
