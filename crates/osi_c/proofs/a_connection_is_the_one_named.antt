-- A requested connection is the one that C named.
use Rattle.std.specs.Prelude.{ℕ, Option, Some, None}
use Rattle.osi_stack.specs.declared.connecting.Connect.{Connect}
use Rattle.osi_stack.specs.declared.connecting.ConnectError.{ConnectError}
use Rattle.osi_c.specs.Arguments.{SaysOpening}
use Rattle.osi_c.specs.Codes.{Answer, Done, Closed, BadArgument, Refused}
use Rattle.osi_c.specs.Ends.{Connects, Asks}
use Rattle.osi_c.specs.declared.arguments.OsiOpening.{OsiOpening}
use Rattle.osi_c.specs.declared.handles.Contents.{Contents}

pub asks_by : (opening : OsiOpening) (connect : Connect) (answer : Option (Answer ConnectError)) (old : Option Contents) (r : ℕ)
    (new : Option Contents)
    → SaysOpening opening connect → Connects connect answer old r new → Asks opening answer old r new
asks_by opening connect None old r new says connects = (connect, says, connects)
asks_by opening connect (Some Done) old r new says connects = (connect, says, connects)
asks_by opening connect (Some Closed) old r new says connects = (connect, says, connects)
asks_by opening connect (Some (Refused error)) old r new says connects = (connect, says, connects)
asks_by opening connect (Some BadArgument) old r new says connects = absurd connects
