-- The units of a TSDU act in order, and its first unit last.
use Rattle.std.proofs.Common.{◌≡◌, ◌∙◌, refl, ap, sym, ◌-◌, ℕ, zero, suc, Bool, true, false, ◌||◌, if◌then◌else◌, List, [], ◌∷◌, ◌++◌}
use Rattle.std.proofs.Common.{Option, arith, Result, Ok, Err}
use Rattle.std.specs.List.{list_any, slice_get}
use Rattle.osi_spdu.specs.declared.faults.SpduFault.{SpduFault}
use Rattle.osi_spdu.specs.Known.{Units}
use Rattle.osi_spdu.specs.Reading.{tsdu_at}
use Rattle.osi_message.specs.Reading.{said_at, said_by_units, said_if_read}
use Rattle.osi_witness.specs.Units.{acting, words_of}
use Rattle.osi_message.specs.Words.{Word, Words}
use Rattle.osi_session.specs.Joining.{acting_words, is_restart_word}

-- what is left to act: these units, and the first one after them, unless an RS has come or comes
abbrev pub ending : Bool → Words → Word → Words
ending restarts rest first = if restarts || list_any is_restart_word rest then rest else rest ++ first ∷ []

or_assoc : (a b c : Bool) → (a || (b || c)) ≡ ((a || b) || c)
or_assoc true b c = refl
or_assoc false b c = refl

later_by : (b : Bool) (n : ℕ) (u : Word) (rest : Words) (first : Word) → slice_get (if b then u ∷ rest else (u ∷ rest) ++ first ∷ []) (suc n)
    ≡ slice_get (if b then rest else rest ++ first ∷ []) n
later_by true n u rest first = refl
later_by false n u rest first = refl

-- a group is read, up to its first unit
pub begun : (first f : Word) (rest r : Words) (place : ℕ) → f ≡ first → r ≡ rest
    → slice_get (acting_words (first ∷ rest)) place ≡ slice_get (ending false r f) place
unfolding acting_words
begun first f rest r place e h = ap (λ (x : Word). slice_get (ending false rest x) place) (sym e) ∙ ap (λ (x : Words). slice_get (ending false x f) place) (sym h)

pub ending_later : (restarts : Bool) (n : ℕ) (u : Word) (rest : Words) (first : Word) → slice_get (ending restarts (u ∷ rest) first) (suc n)
    ≡ slice_get (ending (restarts || is_restart_word u) rest first) n
ending_later restarts n u rest first =
    later_by (restarts || list_any is_restart_word (u ∷ rest)) n u rest first
    ∙ ap (λ (b : Bool). slice_get (if b then rest else rest ++ first ∷ []) n) (or_assoc restarts (is_restart_word u) (list_any is_restart_word rest))

-- one unit more does not act in this place
pub passed : (g : Option Word) (restarts next : Bool) (left : ℕ) (all : Words) (u : Word) (rest : Words) (f : Word)
    → g ≡ slice_get (ending restarts all f) left → all ≡ u ∷ rest → next ≡ (restarts || is_restart_word u) → (left ≡ 0 → ⊥)
    → g ≡ slice_get (ending next rest f) (left - 1)
passed g restarts next zero all u rest f h e b n = absurd (n refl)
passed g restarts next (suc k) all u rest f h e b n =
    let less : suc k - 1 ≡ k = omega arith in
    h ∙ ap (λ (x : Words). slice_get (ending restarts x f) (suc k)) e ∙ ending_later restarts k u rest f
    ∙ ap (λ (x : Bool). slice_get (ending x rest f) k) (sym b) ∙ ap (λ (x : ℕ). slice_get (ending next rest f) x) (sym less)

-- ---- a TSDU

pub words_read : (octets : List ℕ) (units : Units) → tsdu_at octets ≡ Ok units → words_of octets ≡ acting_words (said_by_units units)
unfolding said_at
words_read octets units e = ap (λ (r : Result Units SpduFault). acting (said_if_read r)) e

pub words_unread : (octets : List ℕ) (fault : SpduFault) → tsdu_at octets ≡ Err fault → words_of octets ≡ []
unfolding said_at
words_unread octets fault e = ap (λ (r : Result Units SpduFault). acting (said_if_read r)) e
