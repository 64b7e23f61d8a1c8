-- The traces of the two directions of an end.
use Rattle.std.specs.Prelude.{◌≡◌, ℕ, ◌≤◌, true, false, List, [], ◌∷◌, ◌++◌, length, take, Option, Some, None, ⊤}
use Rattle.osi_listing.specs.declared.traces.Trace.{Trace}
use Rattle.osi_listing.specs.declared.traces.Keeping.{Keeping}
use Rattle.osi_listing.specs.declared.traces.Keeping.TheVariants as keeping
use Rattle.osi_listing.specs.declared.counting.Counts.{Counts}
use Rattle.osi_listing.specs.Traced.{IsTraced, AreCounted, HasToStop, unfetched, is_stopped, counted, octets_taken}
use Rattle.osi_c.specs.Codes.{coded}
use Rattle.osi_c.specs.declared.traces.Kind.{Kind}
use Rattle.osi_c.specs.declared.traces.Kind.TheVariants.{Off, Counters, Lines}
use Rattle.osi_c.specs.declared.traces.OsiTally.{OsiTally}
use Rattle.osi_c.specs.declared.traces.Traces.{Traces}

-- ---- a new trace, by the number of its kind

abbrev pub kind_of : ℕ → Option Kind
kind_of = coded ((0, Off) ∷ (1, Counters) ∷ (2, Lines) ∷ [])

-- no octet has passed it
abbrev pub Begins : Keeping → Option Trace → Type 0
Begins keeps None = ⊥
Begins keeps (Some t) = IsTraced t [] [] × (t.keeping ≡ keeps)

abbrev pub IsNew : Kind → Option Trace → Type 0
IsNew Off t = t ≡ None
IsNew Counters t = Begins keeping.Counters t
IsNew Lines t = Begins keeping.Lines t

abbrev pub IsUntraced : Traces → Type 0
IsUntraced t = (t.received ≡ None) × (t.sent ≡ None) × (t.lines.items ≡ [])

-- ---- octets pass

-- Whatever passed before and was fetched, the trace continues with these octets. It keeps what it kept, or it stops because it
-- has to: it has then counted all of these octets, or none of them. One that has stopped stays as it is.
pub record GoesOn (octets : List ℕ) (old new : Trace) : Type 0 where
  pub traced : (passed fetched : List ℕ) → IsTraced old passed fetched → IsTraced new (passed ++ octets) fetched
  pub keeping : is_stopped new ≡ false → new.keeping ≡ old.keeping
  pub stops : is_stopped old ≡ false → is_stopped new ≡ true → HasToStop old octets new
  pub over : is_stopped old ≡ true → new ≡ old

abbrev pub Takes : List ℕ → Option Trace → Option Trace → Type 0
Takes octets None new = new ≡ None
Takes octets (Some old) None = ⊥
Takes octets (Some old) (Some new) = GoesOn octets old new

-- ---- lines are fetched

-- The answer to fetching lines.
pub data LineAnswer : Type 0 where
  Given : LineAnswer
  Closed : LineAnswer
  BadDirection : LineAnswer
  Stopped : LineAnswer
  Nothing : LineAnswer

abbrev pub line_answer : ℕ → Option LineAnswer
line_answer = coded ((0, Given) ∷ (1, Closed) ∷ (2, BadDirection) ∷ (3, Stopped) ∷ (5, Nothing) ∷ [])

-- these lines are handed out
pub record Gives (lines : List ℕ) (old new : Trace) : Type 0 where
  pub all : lines ≡ unfetched old
  pub traced : (passed fetched : List ℕ) → IsTraced old passed fetched → IsTraced new passed (fetched ++ lines)
  pub none_left : unfetched new ≡ []
  pub keeping : new.keeping ≡ old.keeping

-- A trace gives its lines. If it has none and has stopped, it says so, and ends.
abbrev pub HandsOut : Option LineAnswer → Option Trace → Option Trace → List ℕ → Type 0
HandsOut (Some Given) (Some old) (Some new) lines = Gives lines old new × (lines ≡ [] → ⊥)
HandsOut (Some Nothing) None new lines = (new ≡ None) × (lines ≡ [])
HandsOut (Some Nothing) (Some old) (Some new) lines = Gives lines old new × (lines ≡ []) × (is_stopped old ≡ false)
HandsOut (Some Stopped) (Some old) None lines = (lines ≡ []) × (unfetched old ≡ []) × (is_stopped old ≡ true)
HandsOut answer old new lines = ⊥

-- ---- counters

abbrev pub tally : Option Trace → OsiTally
tally None = record { octets = 0; packets = 0; units = 0; tsdus = 0; session_units = 0; refused = 0 }
tally (Some t) = record {
  octets = octets_taken t;
  packets = (counted t).packets;
  units = (counted t).units;
  tsdus = (counted t).tsdus;
  session_units = (counted t).session_units;
  refused = (counted t).refused;
}

abbrev pub counts_in : OsiTally → Counts
counts_in t = record { packets = t.packets; units = t.units; tsdus = t.tsdus; session_units = t.session_units; refused = t.refused }

-- the first octets that passed are counted, as many as the tally says, and what the listing of these has
pub record CountsFirst (passed : List ℕ) (shown : OsiTally) : Type 0 where
  pub octets : shown.octets ≤ length passed
  pub listed : AreCounted (take shown.octets passed) (counts_in shown)

-- whatever passed; all of it, unless the trace has stopped
pub record CountsWhatPassed (t : Trace) (shown : OsiTally) : Type 0 where
  pub first : (passed fetched : List ℕ) → IsTraced t passed fetched → CountsFirst passed shown
  pub all : is_stopped t ≡ false → (passed fetched : List ℕ) → IsTraced t passed fetched → shown.octets ≡ length passed

abbrev pub Means : Option Trace → OsiTally → Type 0
Means None shown = ⊤
Means (Some t) shown = CountsWhatPassed t shown
