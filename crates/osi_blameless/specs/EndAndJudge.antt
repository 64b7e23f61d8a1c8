-- An end, the units in flight between it and the other side, and a judge of what passes somewhere between them. There are three of
-- these: one open connection (`transport/Lines`), the transport of a whole end (`transport/Wholes`), and a whole end
-- with its octets (`Joint`). Each says what the end is and does, what the judge knows, and what comes: units, or packets of them.
use Rattle.std.specs.Prelude.{◌≡◌, ◌≢◌, Bool, true, false, List, [], ◌∷◌, ◌++◌}
use Rattle.osi_tpdu.specs.Value.{Value}

pub record EndAndJudge (End Judge Comes : Type 0) : Type 0 where
  pub end : End
  -- the units that the end has put and that have not passed, the oldest first; each goes in a packet of its own
  pub put : List Value
  -- the first of them has begun to pass
  pub begun : Bool
  -- what the judge knows
  pub judge : Judge
  -- what has passed of the other side and the end has not taken, the oldest first
  pub coming : List Comes

-- ---- what happens; `then` is what the judge knows after it, from what it knew

-- the next unit of the end begins to pass, and passes
abbrev pub BeginsOwn : {E J C : Type 0} → (then : J → J) → EndAndJudge E J C → EndAndJudge E J C → Type 0
BeginsOwn then old new = (old.put ≢ []) × (old.begun ≡ false) × (new ≡ record old { begun = true; judge = then old.judge })

abbrev pub PassesOwn : {E J C : Type 0} → Value → (then : J → J) → EndAndJudge E J C → EndAndJudge E J C → Type 0
PassesOwn unit then old new = (old.put ≡ unit ∷ new.put) × (old.begun ≡ true)
    × (new ≡ record old { put = new.put; begun = false; judge = then old.judge })

-- something passes that the end does not take, as what begins to pass of the other side
abbrev pub Sees : {E J C : Type 0} → (then : J → J) → EndAndJudge E J C → EndAndJudge E J C → Type 0
Sees then old new = new ≡ record old { judge = then old.judge }

-- this of the other side passes
abbrev pub PassesOther : {E J C : Type 0} → C → (then : J → J) → EndAndJudge E J C → EndAndJudge E J C → Type 0
PassesOther more then old new = new ≡ record old { judge = then old.judge; coming = old.coming ++ more ∷ [] }

-- the end is another after it did something: it has put these units, and this is still to come
abbrev pub Does : {E J C : Type 0} → E → (units : List Value) → (later : List C) → EndAndJudge E J C → EndAndJudge E J C → Type 0
Does end units later old new = new ≡ record old { end = end; put = old.put ++ units; coming = later }

-- one after the other, if each has this effect
abbrev pub Along : {What Model : Type 0} → (effect : What → Model → Model → Type 0) → Model → List What → Model → Type 0
Along effect old [] new = new ≡ old
Along {Model = Model} effect old (what ∷ more) new = (mid : Model) × effect what old mid × Along effect mid more new
