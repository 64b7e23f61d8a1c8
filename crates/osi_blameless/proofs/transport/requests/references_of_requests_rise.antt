-- The CRs that a carrier writes have references that rise, and each is above those of the CRs before it.
-- For the law on new references.
use Rattle.osi_blameless.proofs.transport.Vocabulary.{[], arith, Bool, if◌then◌else◌, List, Option, refl, ℕ, ◌++◌, ◌<◌, ◌∙◌, ◌∷◌, ◌≡◌, ◌≤◌}
use Rattle.osi_blameless.proofs.transport.Vocabulary.{AllByRecursion}
use Rattle.osi_blameless.proofs.transport.Vocabulary.{Value, Standing, effect, How, closed_on, open_link, sent, sent_all, react, reacts}
use Rattle.osi_blameless.proofs.transport.Vocabulary.{RiseBy, does}
use Rattle.osi_blameless.proofs.transport.Vocabulary.{ends, EndReason, all_written, asks_with, State}
use Rattle.osi_carrier.specs.Calls.{sent_on}
unfoldable use Rattle.osi_carrier.specs.Packets.{after_packet}
use Rattle.osi_carrier.specs.Runs.{Act}
use Rattle.osi_blameless.proofs.transport.Vocabulary.{connection_of}

-- ---- how many references were given

pub rises_by : (r : ℕ) (old new : State) → How r old new → old.given ≤ new.given
rises_by r old new h = grind arith

pub unit_gives : (unit : Value) (s : State) → s.given ≤ (react unit s).given
unit_gives unit s = rises_by (connection_of unit s) s (react unit s) (effect unit s).how

units_rise : (units : List Value) (s : State) → s.given ≤ (reacts units s).given
units_rise [] s = omega arith
units_rise (unit ∷ units) s = grind (arith, rises_by, effect unit s, units_rise units (react unit s))

packet_rises : (unit : List ℕ) (s : State) → s.given ≤ (after_packet s unit).given
unfolding after_packet
packet_rises unit s = grind (arith, units_rise)

pub sent_gives : (r : ℕ) (tsdu : List ℕ) (o : Option (ℕ × Standing)) (s : State) → (sent_on r tsdu o s).given ≡ s.given
sent_gives r tsdu o s = grind arith

pub all_gives : (r : ℕ) (tsdus : List (List ℕ)) (s : State) → (sent_all r tsdus s).given ≡ s.given
all_gives r [] s = refl
all_gives r (tsdu ∷ tsdus) s = all_gives r tsdus (sent r tsdu s) ∙ sent_gives r tsdu (open_link r s) s

pub closed_gives : (r reason : ℕ) (o : Option (ℕ × Standing)) (s : State) → (closed_on r reason o s).given ≡ s.given
closed_gives r reason o s = grind arith

pub ended_gives : (over : Bool) (reason : EndReason) (s : State) → (if over then s else ends reason s).given ≡ s.given
ended_gives over reason s = grind arith

pub not_less : (m n : ℕ) → n ≡ m → m ≤ n
not_less m n e = omega arith

-- ---- the references rise

abbrev pub Rise : ℕ → List ℕ → Type 0
Rise n rs = RiseBy (λ (r : ℕ). r) n rs

pub rise_from : (m n : ℕ) (rs : List ℕ) → m ≤ n → Rise n rs → Rise m rs
rise_from m n [] h k = tt
rise_from m n (r ∷ rs) h (above, more) = (omega arith, more)

act_rises : (act : Act) (s : State) (rs : List ℕ) → Rise (does act s).given rs → Rise s.given (asks_with act s ++ rs)
act_rises act s rs h = grind (arith, rise_from, packet_rises, not_less, sent_gives, all_gives, closed_gives, ended_gives)

all_rise : (acts : List Act) (s : State) → Rise s.given (all_written acts s)
all_rise [] s = tt
all_rise (act ∷ acts) s = act_rises act s (all_written acts (does act s)) (all_rise acts (does act s))

-- ---- each is above those before it

above_by : (n : ℕ) (before : List ℕ) (r : ℕ) (rest : List ℕ) → Rise n (before ++ r ∷ rest) → n < r
above_by n [] r rest (above, more) = above
above_by n (q ∷ before) r rest (above, more) = let next = above_by q before r rest more in omega arith

before_below : (n : ℕ) (before : List ℕ) (r : ℕ) (rest : List ℕ) → Rise n (before ++ r ∷ rest) →
    AllByRecursion (λ (q : ℕ). q < r) before
before_below n [] r rest h = tt
before_below n (q ∷ before) r rest (above, more) = (above_by q before r rest more, before_below q before r rest more)

pub asked_below : (acts : List Act) (s : State) (before : List ℕ) (r : ℕ) (rest : List ℕ) →
    all_written acts s ≡ before ++ r ∷ rest → AllByRecursion (λ (q : ℕ). q < r) before
asked_below acts s before r rest e = grind (arith, before_below, all_rise acts s)
