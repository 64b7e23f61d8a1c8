-- What two users of a connection may rely on, at every moment and whatever either does.
use Rattle.std.specs.Prelude.{◌≡◌, ℕ, ◌<◌, true, false, ◌&&◌, if◌then◌else◌, List, [], ◌∷◌, ◌++◌}
use Rattle.std.specs.List.{AllByRecursion}
use Rattle.osi_machine.specs.Floor.{State, Token, has, Meaning, DT, MIP, MAP, is_restarting, is_profile, drops, nothing, good, respond_unit}
use Rattle.osi_machine.specs.Histories.{Item, Octets, Point, PointKind, minor_kind, major_point, Begins, Agree}
use Rattle.osi_machine.specs.Owners.{is_own}
use Rattle.osi_machine.specs.Taking.{is_acted_on}
use Rattle.osi_machine.specs.Core.{Core, CoreStep, Offer, CanBeOffered, turned, core_run, core_start}
use Rattle.osi_machine.specs.Parties.{IsNumberedStep}

-- a connection reached from a CN by calls and units taken, in any order
pub record IsReached (w : Core) : Type 0 where
  pub offer : Offer
  pub steps : List CoreStep
  pub offered : CanBeOffered offer
  pub profile : is_profile offer.requirements ≡ true
  pub numbered : AllByRecursion IsNumberedStep steps
  pub reached : core_run (core_start offer) steps ≡ w

-- a statement about each of the two sides
abbrev pub OfBoth : (Core → Type 0) → Core → Type 0
OfBoth P w = P w × P (turned w)

-- no token is held by both
abbrev pub OneHolder : Core → Type 0
OneHolder w = (t : Token) → (has w.own.session.held t && has w.peer.session.held t) ≡ false

-- a side holds the tokens that it owns
abbrev pub HoldsItsOwn : Core → Type 0
HoldsItsOwn w = (t : Token) → has w.own.session.held t ≡ is_own (w.owner t)

-- the unit that is taken next is no fault: it is discarded, or answered as the table says
abbrev pub TakesNoFault : Core → Type 0
TakesNoFault w = (u : Meaning) (us : List Meaning) → w.peer.sent ≡ u ∷ us →
    respond_unit w.own.session u ≡ (if drops w.own.session u then nothing w.own.session else good w.own.session u)

-- what a side has seen is a prefix of the history
abbrev pub SeesTheHistory : Core → Type 0
SeesTheHistory w = Begins w.own.view w.history

-- one of the two has seen what the other has, and perhaps more
abbrev pub ViewsAgree : Core → Type 0
ViewsAgree w = Agree w.own.view w.peer.view

-- with duplex, what a side received is a prefix of what the other sent
abbrev pub GotWhatWasSaid : Core → Type 0
GotWhatWasSaid w = w.own.session.units.duplex ≡ true → Begins w.own.got w.peer.said

-- the item that a unit brings, if it brings one
abbrev pub brings : State → Meaning → List Item
brings s (DT octets) = if s.units.duplex then [] else Octets octets ∷ []
brings s (MIP confirm n octets) = Point n (minor_kind confirm) octets ∷ []
brings s (MAP n octets) = Point n major_point octets ∷ []
brings s u = []

-- data or a point that is taken is the item of the history at the mark of the side that takes it
abbrev pub TakesTheNextItem : Core → Type 0
TakesTheNextItem w = (u : Meaning) (us : List Meaning) → w.peer.sent ≡ u ∷ us → is_acted_on w.own.session u ≡ true →
    Begins (w.own.view ++ brings w.own.session u) w.history

-- If a side has seen a point, and its number is below the side's V(A), the other has seen it too, after the same items;
-- unless the other awaits the answer to a restart.
abbrev pub ConfirmedIsSeen : Core → Type 0
ConfirmedIsSeen w = (before : List Item) (n : ℕ) (kind : PointKind) (octets : List ℕ) → Begins (before ++ Point n kind octets ∷ []) w.own.view →
    n < w.own.session.numbers.confirmed → is_restarting w.peer.session.phase ≡ false → Begins (before ++ Point n kind octets ∷ []) w.peer.view
