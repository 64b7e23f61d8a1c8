-- Units that an end has put and that have not passed, and units that have passed and that the end has not taken. For the laws
-- on a line: DTs and AKs are counted, and their numbers are those counts modulo 128.
use Rattle.osi_blameless.proofs.transport.Vocabulary.{[], arith, Bool, false, length, List, sym, true, ℕ, ◌%◌, ◌++◌, ◌+◌, ◌<◌, ◌∙◌, ◌∷◌}
use Rattle.osi_blameless.proofs.transport.Vocabulary.{◌≡◌, ◌≤◌}
use Rattle.osi_blameless.proofs.transport.Vocabulary.{acknowledge, data2, disconnect, disconnected, Value, longest_tsdu, is_closing}
use Rattle.osi_blameless.proofs.transport.Vocabulary.{is_open, Phase}
use Rattle.osi_blameless.proofs.transport.Vocabulary.{request, confirm, data0, error}
use Rattle.osi_blameless.proofs.transport.lines.what_a_link_does.{begun_by}

-- ---- units that were put

-- The reference that this side gave, and that of the other side (`peer`). So many DTs were put in all, and AKs up to so many
-- DTs. `closed`: the end has closed the connection; `closing`: the other side has.
pub record Bounds : Type 0 where
  pub reference : ℕ
  pub peer : ℕ
  pub limit : ℕ
  pub window : ℕ
  pub sent : ℕ
  pub acked : ℕ
  pub closed : Bool
  pub closing : Bool

-- These units follow `passed` DTs, an AK up to the number `shown`, and so many octets of a TSDU. At the end of them this
-- holds of the count and of the octets.
abbrev pub Puts : Bounds → (ℕ → ℕ → Type 0) → (passed shown begun : ℕ) → List Value → Type 0
Puts s e passed shown begun [] = e passed begun
Puts s e passed shown begun (data2 destination number end user ∷ units) = (destination ≡ s.peer) × (number ≡ passed % 128)
    × (passed < s.sent) × (length user ≤ s.limit) × (begun + length user ≤ longest_tsdu)
    × Puts s e (passed + 1) shown (begun_by begun end (length user)) units
Puts s e passed shown begun (acknowledge credit destination number ∷ units) = (count : ℕ) × (destination ≡ s.peer) × (credit ≡ s.window)
    × (number ≡ count % 128) × (shown ≤ count) × (count ≤ s.acked) × Puts s e passed count begun units
Puts s e passed shown begun (disconnect destination source reason user ∷ units) = (destination ≡ s.peer) × (s.closed ≡ true) × (units ≡ [])
Puts s e passed shown begun (disconnected destination source ∷ units) =
    (destination ≡ s.peer) × (source ≡ s.reference) × (s.closed ≡ true) × (s.closing ≡ true) × (units ≡ [])
Puts s e passed shown begun (unit ∷ units) = ⊥

-- more may have been put
pub record IsMore (s t : Bounds) : Type 0 where
  pub reference : s.reference ≡ t.reference
  pub peer : s.peer ≡ t.peer
  pub limit : s.limit ≡ t.limit
  pub window : s.window ≡ t.window
  pub sent : s.sent ≤ t.sent
  pub acked : s.acked ≤ t.acked
  pub closing : s.closing ≡ true → t.closing ≡ true

-- more is put at the end of what was put
pub puts_more : (s t : Bounds) (e k : ℕ → ℕ → Type 0) (more : List Value) → IsMore s t → s.closed ≡ false →
    ((passed shown begun : ℕ) → shown ≤ s.acked → e passed begun → Puts t k passed shown begun more) →
    (passed shown begun : ℕ) → shown ≤ s.acked → (units : List Value) → Puts s e passed shown begun units →
    Puts t k passed shown begun (units ++ more)
puts_more s t e k more m live base passed shown begun within [] h = base passed shown begun within h
puts_more s t e k more m live base passed shown begun within (data2 destination number end user ∷ units) (a, b, c, d, f, g) =
    grind (arith, begun_by, puts_more s t e k more m live base (passed + 1) shown (begun_by begun end (length user)) within units g)
puts_more s t e k more m live base passed shown begun within (acknowledge credit destination number ∷ units) (count, a, b, c, d, f, g) =
    grind (arith, puts_more s t e k more m live base passed count begun f units g)
puts_more s t e k more m live base passed shown begun within (disconnect destination source reason user ∷ units) (a, b, c) = absurd (cc)
puts_more s t e k more m live base passed shown begun within (disconnected destination source ∷ units) (a, b, c, d, f) = absurd (cc)
puts_more s t e k more m live base passed shown begun within (request x ∷ units) h = absurd h
puts_more s t e k more m live base passed shown begun within (confirm destination x ∷ units) h = absurd h
puts_more s t e k more m live base passed shown begun within (data0 end user ∷ units) h = absurd h
puts_more s t e k more m live base passed shown begun within (error destination cause ∷ units) h = absurd h

-- the other side closes the connection
pub puts_still : (s t : Bounds) (e : ℕ → ℕ → Type 0) → IsMore s t → s.closed ≡ t.closed →
    (passed shown begun : ℕ) (units : List Value) → Puts s e passed shown begun units → Puts t e passed shown begun units
puts_still s t e m same passed shown begun [] h = h
puts_still s t e m same passed shown begun (data2 destination number end user ∷ units) (a, b, c, d, f, g) =
    grind (arith, begun_by, puts_still s t e m same (passed + 1) shown (begun_by begun end (length user)) units g)
puts_still s t e m same passed shown begun (acknowledge credit destination number ∷ units) (count, a, b, c, d, f, g) =
    grind (arith, puts_still s t e m same passed count begun units g)
puts_still s t e m same passed shown begun (disconnect destination source reason user ∷ units) (a, b, c) = (a ∙ m.peer, sym same ∙ b, c)
puts_still s t e m same passed shown begun (disconnected destination source ∷ units) (a, b, c, d, f) = grind arith
puts_still s t e m same passed shown begun (request x ∷ units) h = absurd h
puts_still s t e m same passed shown begun (confirm destination x ∷ units) h = absurd h
puts_still s t e m same passed shown begun (data0 end user ∷ units) h = absurd h
puts_still s t e m same passed shown begun (error destination cause ∷ units) h = absurd h

-- ---- units that are coming

-- So many DTs of the other side have passed, its AKs up to so many DTs of this side, and the upper edge of the window that
-- they set.
pub record Came : Type 0 where
  pub came : ℕ
  pub heard : ℕ
  pub edge : ℕ
  pub phase : Phase

-- These units follow `taken` DTs and an AK up to the number `known`. What follows a unit for which the end closes the
-- connection doesn't matter.
abbrev pub Comes : Came → (taken known : ℕ) → List Value → Type 0
Comes s taken known [] = (taken ≤ s.came) × (known ≤ s.heard) × (is_open s.phase ≡ true)
Comes s taken known (data2 destination number end user ∷ units) = Comes s (taken + 1) known units
Comes s taken known (acknowledge credit destination number ∷ units) = (count : ℕ) × (number ≡ count % 128) × (credit < 16)
    × (known ≤ count) × (count + credit ≤ s.edge) × Comes s taken count units
Comes s taken known (disconnect destination source reason user ∷ units) =
    (taken ≤ s.came) × (known ≤ s.heard) × (is_closing s.phase ≡ true)
Comes s taken known (unit ∷ units) = (taken ≤ s.came) × (known ≤ s.heard)

pub comes_within : (s : Came) (taken known : ℕ) (units : List Value) → Comes s taken known units → (taken ≤ s.came) × (known ≤ s.heard)
comes_within s taken known [] (a, b, c) = (a, b)
comes_within s taken known (data2 destination number end user ∷ units) h = grind (arith, comes_within s (taken + 1) known units h)
comes_within s taken known (acknowledge credit destination number ∷ units) (count, a, b, c, d, f) =
    let (g, h) = comes_within s taken count units f in (g, omega arith)
comes_within s taken known (disconnect destination source reason user ∷ units) (a, b, c) = (a, b)
comes_within s taken known (disconnected destination source ∷ units) h = h
comes_within s taken known (request x ∷ units) h = h
comes_within s taken known (confirm destination x ∷ units) h = h
comes_within s taken known (data0 end user ∷ units) h = h
comes_within s taken known (error destination cause ∷ units) h = h

-- more has passed
pub record HasMoreCome (s t : Came) : Type 0 where
  pub came : s.came ≤ t.came
  pub heard : s.heard ≤ t.heard
  pub edge : s.edge ≤ t.edge
  pub closing : is_closing s.phase ≡ true → is_closing t.phase ≡ true

pub comes_more : (s t : Came) (more : List Value) → HasMoreCome s t →
    ((taken known : ℕ) → taken ≤ s.came → known ≤ s.heard → is_open s.phase ≡ true → Comes t taken known more) →
    (taken known : ℕ) (units : List Value) → Comes s taken known units → Comes t taken known (units ++ more)
comes_more s t more m base taken known [] (a, b, c) = base taken known a b c
comes_more s t more m base taken known (data2 destination number end user ∷ units) h = comes_more s t more m base (taken + 1) known units h
comes_more s t more m base taken known (acknowledge credit destination number ∷ units) (count, a, b, c, d, f) =
    (count, a, b, c, omega arith, comes_more s t more m base taken count units f)
comes_more s t more m base taken known (disconnect destination source reason user ∷ units) (a, b, c) = grind arith
comes_more s t more m base taken known (disconnected destination source ∷ units) (a, b) = (omega arith, omega arith)
comes_more s t more m base taken known (request x ∷ units) (a, b) = (omega arith, omega arith)
comes_more s t more m base taken known (confirm destination x ∷ units) (a, b) = (omega arith, omega arith)
comes_more s t more m base taken known (data0 end user ∷ units) (a, b) = (omega arith, omega arith)
comes_more s t more m base taken known (error destination cause ∷ units) (a, b) = (omega arith, omega arith)
