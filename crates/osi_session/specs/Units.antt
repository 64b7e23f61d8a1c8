-- The functional units of a session.
use Rattle.std.specs.Prelude.{ℕ, ◌==◌, Bool, false, not, ◌&&◌, ◌||◌}
use Rattle.std.specs.Int.RustNames.{bit_and}
use Rattle.osi_message.specs.declared.tokens.Tokens.{Tokens}
use Rattle.osi_message.specs.Reading.{names}
use Rattle.osi_session.specs.declared.selected.FunctionalUnits.{FunctionalUnits}

-- the functional units that session user requirements name
abbrev pub functional_units : ℕ → FunctionalUnits
functional_units bits = record {
  half_duplex = names bits 1;
  duplex = names bits 2;
  minor = names bits 8;
  major = names bits 16;
  resynchronize = names bits 32;
  negotiated_release = names bits 128;
}

abbrev pub no_units : FunctionalUnits
no_units = record { half_duplex = false; duplex = false; minor = false; major = false; resynchronize = false; negotiated_release = false }

-- those that are in both
unfoldable pub both_units : FunctionalUnits → FunctionalUnits → FunctionalUnits
both_units a b = record {
  half_duplex = a.half_duplex && b.half_duplex;
  duplex = a.duplex && b.duplex;
  minor = a.minor && b.minor;
  major = a.major && b.major;
  resynchronize = a.resynchronize && b.resynchronize;
  negotiated_release = a.negotiated_release && b.negotiated_release;
}

-- each of the first is in the second
unfoldable pub units_within : FunctionalUnits → FunctionalUnits → Bool
units_within a b =
    (not a.half_duplex || b.half_duplex) && ((not a.duplex || b.duplex)
    && ((not a.minor || b.minor) && ((not a.major || b.major)
    && ((not a.resynchronize || b.resynchronize) && (not a.negotiated_release || b.negotiated_release)))))

-- data can be sent
unfoldable pub has_data : FunctionalUnits → Bool
has_data u = u.half_duplex || u.duplex

-- there are points, or restarts at them
unfoldable pub has_points : FunctionalUnits → Bool
has_points u = u.minor || (u.major || u.resynchronize)

-- half-duplex with any of minor, major, resynchronize and negotiated release (00B9), or only duplex
unfoldable pub is_profile : ℕ → Bool
is_profile bits = (bits == 2) || ((bit_and bits 185 == bits) && names bits 1)

-- a token is available if its unit is selected
unfoldable pub available : FunctionalUnits → Tokens
available u = record { data_token = u.half_duplex; minor = u.minor; major = u.major; release = u.negotiated_release }
