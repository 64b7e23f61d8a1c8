-- A live connection that may receive indications has addresses.
use Rattle.osi_stack.proofs.Vocabulary.{IfSome, known_is, Call, Input, Listener, called, taken, opened, refused, broken, came, react}
use Rattle.osi_stack.proofs.Vocabulary.{after_input, shows_loss, addresses_at, phase_at, IsNamed, line_by, selectors_told, IsSettled, Line}
use Rattle.osi_stack.proofs.Vocabulary.{End, ◌≡◌, ℕ, Bool, true, false, List, Option, IsSome, refl, if◌then◌else◌, arith}
use Rattle.osi_stack.proofs.Vocabulary.{asks_for_connection, is_taken}
use Rattle.osi_session.specs.Shown.{shows_connect}
use Rattle.osi_stack.proofs.each_line.what_stays_true_of_each_line.{LinesStay, line_at}

-- the first indication of a user
pub record ShownFirst : Type 0 where
  pub first : (s : Listener) (input : Input) → shows_loss s.state.phase ≡ false → shows_loss (after_input s input).state.phase ≡ true →
      shows_connect (react s input).shown ≡ true
  pub taken : (s : Listener) (input : Input) → shows_connect (react s input).shown ≡ true → is_taken input ≡ true
  pub asked : (s : Listener) (octets : List ℕ) → shows_connect (react s (came octets)).shown ≡ true →
      asks_for_connection (came octets) ≡ true

-- ---- a CN has selectors

-- if this indicates that a connection is requested, it has selectors
abbrev TellsThem : Input → Type 0
TellsThem input = (s : Listener) → shows_connect (react s input).shown ≡ true → IsSome (selectors_told input)

-- ---- what happens to a session keeps it

moved_by : {X : Type 0} (law : ShownFirst) (s : Listener) (input : Input) (old told : Option X) (b c : Bool) →
    shows_connect (react s input).shown ≡ b → shows_loss s.state.phase ≡ c →
    (b ≡ true → IsSome told) → (c ≡ true → IsSome old) → shows_loss (after_input s input).state.phase ≡ true →
    IsSome (if b then told else old)
moved_by law s input old told b c shows was tells named k = grind arith

line_named : ShownFirst → (input : Input) → TellsThem input → (line : Line) (o : Option Listener) → line.session ≡ o → IsNamed line →
    IsNamed (line_by line o input)
line_named law input tells line o is h = search (arith, shows_loss, moved_by, selectors_told, react)

-- a call, and what the carrier tells
pub call_named : ShownFirst → (call : Call) (line : Line) → IsNamed line → IsNamed (line_by line line.session (called call))
call_named law call line h = line_named law (called call) (grind arith) line line.session refl h

pub named_stays : ShownFirst → LinesStay IsNamed
named_stays law = grind (arith, opened, line_named, refused, came, broken)

-- ---- of a connection that is live

pub known_at : (r : ℕ) (e : End) → IsSettled e → IfSome (phase_at r e) (λ p. shows_loss p ≡ true → IsSome (addresses_at r e))
known_at r e s = search (arith, known_is, line_at)
