-- The units that may close the transport connection, the phases in which they do, and what answers a
-- unit.
use Rattle.std.specs.Prelude.{Bool, true, false, not, ◌||◌, [], ◌∷◌}
use Rattle.std.specs.List.{list_any}
use Rattle.osi_session.specs.declared.phases.Phase.{Phase}
use Rattle.osi_session.specs.Phases.{is_connecting, is_releasing, is_aborting}
use Rattle.osi_message.specs.Meanings.{Meaning, RF, DN, AB, AA}
use Rattle.osi_message.specs.Words.{Word, Words, as_message}

-- a unit that is taken last: a refusal, the end of a release, an abort and its answer
abbrev pub may_close : Meaning → Bool
may_close (RF reason octets) = true
may_close (DN octets) = true
may_close (AB bits octets) = true
may_close AA = true
may_close _ = false

abbrev pub may_close_word : Word → Bool
may_close_word w = may_close (as_message w)

-- such a word is alone in its TSDU
abbrev pub closes_alone : Words → Bool
closes_alone (w ∷ []) = true
closes_alone words = not (list_any may_close_word words)

-- a CN that can't be accepted is answered with RF, a bad unit with AB, and AB with AA
abbrev pub is_answer : Meaning → Bool
is_answer (RF reason octets) = true
is_answer (AB bits octets) = true
is_answer AA = true
is_answer _ = false

-- the phases in which such a unit is awaited
abbrev pub awaits_close : Phase → Bool
awaits_close p = is_connecting p || (is_releasing p || is_aborting p)
