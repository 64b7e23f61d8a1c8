-- The words of a script for why it goes no further.
use Rattle.std.specs.Prelude.{ℕ, Bool, true, false, List, codes}
use Rattle.osi_witness.specs.declared.halts.Halt.{Halt}
use Rattle.osi_witness.specs.declared.halts.Halt.TheVariants.{NoSession, TooMany, NoCall, Transport, TransportOfClass2, TooLong}
use Rattle.osi_witness.specs.declared.halts.Halt.TheVariants.{OutOfMemory}

abbrev pub halt_words : Halt → List ℕ
halt_words NoSession = codes "no session sends this here"
halt_words TooMany = codes "too many sessions explain this"
halt_words NoCall = codes "no call of a script sends this"
halt_words Transport = codes "no end of class 0 sends this here"
halt_words TransportOfClass2 = codes "no end of class 2 sends this here"
halt_words TooLong = codes "the script would be too long"
halt_words OutOfMemory = codes "out of memory"

-- no other script of the same capture would go further
abbrev pub ends_all : Halt → Bool
ends_all TooLong = true
ends_all OutOfMemory = true
ends_all _ = false
