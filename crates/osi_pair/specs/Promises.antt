-- What the users of two ends may rely on, read from what they can see: the journal, and the state that each end reports
-- of its connections.
use Rattle.std.specs.Prelude.{◌≡◌, ℕ, ◌+◌, ◌<◌, ◌≤◌, Bool, true, false, ◌&&◌, ◌||◌, List, [], ◌∷◌, ◌++◌, map, Option, Some, None, is_some}
use Rattle.std.specs.List.{list_any}
use Rattle.osi_carrier.specs.Calls.{begun_by}
use Rattle.osi_carrier.specs.Rows.{value_at}
use Rattle.osi_carrier.specs.State.{Connection, linked}
use Rattle.osi_carrier.specs.declared.ends.EndReason.{EndReason}
use Rattle.osi_carrier.specs.declared.ends.EndReason.TheVariants as why
use Rattle.osi_between.specs.Terms.{terms_of}
use Rattle.osi_class.specs.Link.{Standing}
use Rattle.osi_machine.specs.AsTables.{offers_in}
use Rattle.osi_machine.specs.Core.{Offer}
use Rattle.osi_machine.specs.Floor.{Token, has, Meaning}
use Rattle.osi_machine.specs.Histories.{Item, Point, PointKind, Begins, Agree}
use Rattle.osi_machine.specs.Machine.{Ending, IsLegal, Step, connection_at}
use Rattle.osi_machine.specs.Machine as entries
use Rattle.osi_machine.specs.Runs.{is_loss, loses}
use Rattle.osi_machine.specs.Sayings.{said_in, heard_in}
use Rattle.osi_machine.specs.Tables.{Tables, start}
use Rattle.osi_machine.specs.Views.{Told, told_of}
use Rattle.osi_session.specs.Shown.{PeerAbort, BadUnit}
use Rattle.osi_stack.specs.Calls.{held_by, numbers_of}
use Rattle.osi_stack.specs.State.{End, session_at, joined_of, kept_octets}
use Rattle.osi_pair.specs.Ends.{TwoEnds, end_at}
use Rattle.osi_pair.specs.Entries.{Entry}
use Rattle.osi_pair.specs.Entries as noted
use Rattle.osi_pair.specs.Standing.{side_in, entry_in, ending_in, terms_in, StandsAt}
use Rattle.osi_pair.specs.declared.sides.Side.{Side}
use Rattle.osi_pair.specs.declared.sides.Side.TheVariants.{Left, Right}

-- ---- the journal in the vocabulary of the machine

abbrev pub with_word : {A : Type 0} → Option A → List A → List A
with_word None entries = entries
with_word (Some entry) entries = entry ∷ entries

abbrev pub journal_in : List Entry → List entries.Entry
journal_in [] = []
journal_in (e ∷ es) = with_word (entry_in e) (journal_in es)

-- each entry has a counterpart there, and the journal is an execution of the machine
pub record IsLegalJournal (p : TwoEnds) : Type 0 where
  pub words : map Some (journal_in p.journal) ≡ map entry_in p.journal
  pub legal : IsLegal (terms_in (terms_of p.left.end.carrier.local p.right.end.carrier.local)) (journal_in p.journal)

-- ---- connections, by the references that the left end gave

-- the offer of a connection
pub record WasAskedFor (r : ℕ) (p : TwoEnds) : Type 0 where
  pub offer : Offer
  pub found : connection_at r (offers_in (journal_in p.journal)) ≡ Some offer

abbrev pub AllWereAskedFor : TwoEnds → Type 0
AllWereAskedFor p = (r : ℕ) → 0 < r → r ≤ p.left.end.carrier.given → WasAskedFor r p

-- what a side's entries for a connection with this offer tell
abbrev pub told_at : Side → ℕ → Offer → TwoEnds → Told
told_at side r o p = told_of (side_in side) r o (journal_in p.journal)

-- a statement about what both sides tell of each connection
abbrev pub OfEachConnection : (ℕ → Told → Told → Type 0) → TwoEnds → Type 0
OfEachConnection P p = (r : ℕ) (o : Offer) → 0 < r → r ≤ p.left.end.carrier.given → connection_at r (offers_in (journal_in p.journal)) ≡ Some o →
    P r (told_at Left r o p) (told_at Right r o p)

-- ---- the promises

-- for each connection, no token is held by both
abbrev pub HaveOneHolder : TwoEnds → Type 0
HaveOneHolder p = (r : ℕ) (t : Token) → (has (held_by (session_at r p.left.end)) t && has (held_by (session_at r p.right.end)) t) ≡ false

-- one of the two views is a prefix of the other, unless duplex is selected; so each point in both has the same number,
-- kind and octets, and the same items before it
abbrev pub AgreeUnlessDuplex : ℕ → Told → Told → Type 0
AgreeUnlessDuplex r left right = left.duplex ≡ false → right.duplex ≡ false → Agree left.view right.view

-- if either side tells that duplex is selected, the data that each user receives is a prefix of the data that the other
-- asked to send
abbrev pub IsShownAsAsked : ℕ → Told → Told → Type 0
IsShownAsAsked r left right = (left.duplex || right.duplex) ≡ true → Begins left.indicated right.requested × Begins right.indicated left.requested

-- each point in the view of a side with a number below this is in the view of the other, after the same items; unless
-- the other has requested a restart and has seen no answer
abbrev pub IsSeenThere : ℕ → Told → Told → Type 0
IsSeenThere confirmed own other =
    (before : List Item) (n : ℕ) (kind : PointKind) (octets : List ℕ) → Begins (before ++ Point n kind octets ∷ []) own.view →
    n < confirmed → other.asking ≡ false → Begins (before ++ Point n kind octets ∷ []) other.view

-- V(A), as an end reports it for a connection
abbrev pub confirmed_at : Side → ℕ → TwoEnds → ℕ
confirmed_at side r p = (numbers_of (session_at r (end_at side p).end)).confirmed

abbrev pub ConfirmedIsSeen : TwoEnds → ℕ → Told → Told → Type 0
ConfirmedIsSeen p r left right = IsSeenThere (confirmed_at Left r p) left right × IsSeenThere (confirmed_at Right r p) right left

-- an indication of a fault, of the other side or of the user's own; or an end that ends with one
abbrev pub is_fault : Entry → Bool
is_fault (noted.shows side r (PeerAbort bits)) = true
is_fault (noted.shows side r (BadUnit fault)) = true
is_fault (noted.ends side (why.Fault fault)) = true
is_fault entry = false

-- no entry of the journal is one, whatever its reference
abbrev pub HasNoFault : TwoEnds → Type 0
HasNoFault p = list_any is_fault p.journal ≡ false

-- an end that has ended was told of the break, ran out of memory, or has closed
abbrev pub EndsForFewReasons : TwoEnds → Type 0
EndsForFewReasons p = (side : Side) (why : EndReason) → (end_at side p).end.carrier.ended ≡ Some why → is_some (ending_in why) ≡ true

abbrev pub ending_of : Option EndReason → Option Ending
ending_of None = None
ending_of (Some why) = ending_in why

-- a user is told of a loss only if his end was told of the break or ran out of memory
abbrev pub LoseAsTheyEnd : TwoEnds → Type 0
LoseAsTheyEnd p = (side : Side) → list_any (is_loss (side_in side)) (journal_in p.journal) ≡ true → loses (ending_of (end_at side p).end.carrier.ended) ≡ true

-- ---- what was sent, and what of it was taken

abbrev pub fresh_tables : TwoEnds → Tables
fresh_tables p = start (terms_in (terms_of p.left.end.carrier.local p.right.end.carrier.local))

-- the units that the session of a side sent on a connection, and those that it took, over these steps
abbrev pub sent_by : Side → ℕ → TwoEnds → List Step → List Meaning
sent_by side r p steps = said_in (side_in side) r (fresh_tables p) steps

abbrev pub taken_by : Side → ℕ → TwoEnds → List Step → List Meaning
taken_by side r p steps = heard_in (side_in side) r (fresh_tables p) steps

-- for each connection and each way, what one session took is a prefix of what the other sent
abbrev pub AreTakenInOrder : List Step → TwoEnds → Type 0
AreTakenInOrder steps p = (r : ℕ) →
    Begins (taken_by Right r p steps) (sent_by Left r p steps) × Begins (taken_by Left r p steps) (sent_by Right r p steps)

-- there was no break, and neither end has ended or has octets to hand over
pub record AreAtRest (p : TwoEnds) : Type 0 where
  pub unbroken : p.reach ≡ None
  pub lasts : (side : Side) → (end_at side p).end.carrier.ended ≡ None
  pub outgoing : (side : Side) → (end_at side p).end.carrier.outgoing ≡ []

-- a connection is open at an end
pub record IsOpenAt (r : ℕ) (e : End) : Type 0 where
  pub peer : ℕ
  pub link : Standing
  pub live : value_at r e.carrier.live ≡ Some (linked peer link)

-- how many received octets an end keeps
abbrev pub kept_at : Side → TwoEnds → ℕ
kept_at side p = kept_octets (end_at side p)

-- and how many of a connection: of a TSDU, and of data that comes in parts
abbrev pub begun_of : Option Connection → ℕ
begun_of None = 0
begun_of (Some connection) = begun_by connection

abbrev pub kept_of : ℕ → End → ℕ
kept_of r e = begun_of (value_at r e.carrier.live) + joined_of (session_at r e)

-- for a connection, each way, all that was sent was taken, and nothing is kept
pub record IsAllTaken (r : ℕ) (p : TwoEnds) (steps : List Step) : Type 0 where
  pub rightward : taken_by Right r p steps ≡ sent_by Left r p steps
  pub leftward : taken_by Left r p steps ≡ sent_by Right r p steps
  pub kept : (side : Side) → kept_of r (end_at side p).end ≡ 0

-- The two ends match some steps of the machine. Over these, the units that one session took are a prefix of those that
-- the other sent, and all of them if nothing is in flight; then no received octet is kept.
pub record TakeWhatWasSent (p : TwoEnds) : Type 0 where
  pub steps : List Step
  pub stands : StandsAt p steps
  pub prefix : AreTakenInOrder steps p
  pub all_taken : (r : ℕ) → AreAtRest p → IsOpenAt r p.left.end → IsOpenAt r p.right.end → IsAllTaken r p steps
  pub nothing_kept : AreAtRest p → (side : Side) → kept_at side p ≡ 0

-- ---- all promises together

pub record IsSafe (p : TwoEnds) : Type 0 where
  pub legal_journal : IsLegalJournal p
  pub asked : AllWereAskedFor p
  pub one_holder : HaveOneHolder p
  pub agreement : OfEachConnection AgreeUnlessDuplex p
  pub duplex : OfEachConnection IsShownAsAsked p
  pub confirmed_is_seen : OfEachConnection (ConfirmedIsSeen p) p
  pub no_fault : HasNoFault p
  pub ends : EndsForFewReasons p
  pub losses : LoseAsTheyEnd p
  pub taken : TakeWhatWasSent p
