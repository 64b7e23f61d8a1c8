-- Data that a session indicates from the buffer in which it arrived.
-- For `receive` of a line.
use Rattle.osi_stack.proofs.Vocabulary.{came, State as Carrier, Input, Listener, react, Shown, line_by, session_needs, Line, arith, ◌≡◌, ℕ}
use Rattle.osi_stack.proofs.Vocabulary.{true, List, [], ◌∷◌, ◌++◌, Option, Some, ap, ◌∙◌, only_shows}
use Rattle.osi_session.specs.Shown.{Data}

-- data is indicated, and nothing else happens
pub record ShowsData (session : Listener) (input : Input) (shown : Shown) : Type 0 where
  pub octets : List ℕ
  pub is : shown ≡ Data octets
  pub shows : react session input ≡ only_shows session (Data octets)

pub straight_needs : (r : ℕ) (session : Option Listener) (s : Listener) (input : Input) (shown : Shown) (c : Carrier) → session ≡ Some s →
    ShowsData s input shown →
    session_needs r session input c ≡ true
straight_needs r session s input shown c here h = grind arith

-- data that came in a TSDU
pub came_data : (s : Listener) (input : Input) (tsdu octets : List ℕ) (shown : Shown) → input ≡ came tsdu → shown ≡ Data octets →
    react s (came tsdu) ≡ only_shows s (Data octets) → ShowsData s input shown
came_data s input tsdu octets shown at is shows = record { octets = octets; is = is; shows = ap (react s) at ∙ shows }

-- ---- a line that indicates it

pub shown_line : (v : ℕ × Line) (r : ℕ) (line : Line) (s : Listener) (input : Input) (shown : Shown) (waiting : List Shown) →
    (r, line) ≡ v →
    line.session ≡ Some s → ShowsData s input shown →
    waiting ≡ line.waiting ++ shown ∷ [] →
    ◌≡◌ {A = ℕ × Line} (r, record line { waiting = waiting }) (v.0, line_by v.1 v.1.session input)
shown_line v r line s input shown waiting is here h more = grind arith
