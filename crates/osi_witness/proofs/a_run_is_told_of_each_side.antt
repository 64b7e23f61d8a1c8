-- The connections of a capture, one after the other: what is kept of each side, and the run that is told of it.
use Rattle.std.proofs.Common.{◌≡◌, ◌<◌, ◌+◌, ◌++◌, ◌∷◌, refl, ap, sym, subst, arith, ℕ, zero, suc, List, [], length}
use Rattle.std.proofs.Common.{◌∙◌, get_or, map, set, take}
use Rattle.std.proofs.Math.Numerals.{add-one}
use Rattle.std.proofs.Math.Seq.{take-length}
use Rattle.osi_session.specs.Standing.{Seen, seen_called, seen_calling}
use Rattle.osi_side.specs.declared.findings.Finding.TheVariants as found
use Rattle.osi_side.specs.Sides.{observed}
use Rattle.osi_side.specs.Explaining.{Explains, IsExplained, Remark}
use Rattle.osi_witness.specs.declared.conversations.Conversation.{Conversation}
use Rattle.osi_witness.specs.declared.streams.Stream.{Stream}
use Rattle.osi_witness.specs.Captures.{AreTraced}
use Rattle.osi_witness.proofs.a_run_explains_what_a_side_sent.{run_explains}
use Rattle.osi_witness.proofs.all_units_of_a_side_are_kept.{count_is}
use Rattle.osi_witness.specs.Streams.{tsdus_of}
use Rattle.osi_witness.specs.Told.{IsTold, IsTraced}
use Rattle.osi_witness.specs.Whole.{AreUntold, HasRun, HasRunsOn, HaveRuns, octets_told, IsUntoldOn, IsWhole}

pub untold_at : (cs : List Conversation) (i : ℕ) (c : Conversation) → i < length cs → AreUntold cs → IsUntoldOn (get_or cs i c)
untold_at [] i c l h = absurd (omega arith)
untold_at (x ∷ cs) zero c l h = h.0
untold_at (x ∷ cs) (suc i) c l h = untold_at cs i c (omega arith) h.1

pub untold_set : (cs : List Conversation) (i : ℕ) (c : Conversation) → IsUntoldOn c → AreUntold cs → AreUntold (set cs i c)
untold_set [] i c k h = tt
untold_set (x ∷ cs) zero c k h = (k, h.1)
untold_set (x ∷ cs) (suc i) c k h = (h.0, untold_set cs i c k h.1)

pub untold_more : (cs : List Conversation) (c : Conversation) → AreUntold cs → IsUntoldOn c → AreUntold (cs ++ c ∷ [])
untold_more [] c h k = (k, tt)
untold_more (x ∷ cs) c h k = (h.0, untold_more cs c h.1 k)

-- ---- a run is read off of one connection after the other

pub record IsTracedOn (c d : Conversation) : Type 0 where
  pub left : IsTraced c.left d.left d.right seen_calling
  pub right : IsTraced c.right d.right d.left seen_called
  pub found : IsUntoldOn c → HasRunsOn d

-- so far of the first of these connections
abbrev pub TracedUpTo : ℕ → (old new : List Conversation) → Type 0
TracedUpTo zero old new = new ≡ old
TracedUpTo (suc i) (c ∷ cs) (d ∷ ds) = IsTracedOn c d × TracedUpTo i cs ds
TracedUpTo (suc i) [] [] = Unit {0}
TracedUpTo (suc i) old new = ⊥

one_further : (i : ℕ) (old new : List Conversation) (e d : Conversation) → i < length new → IsTracedOn (get_or new i e) d
    → TracedUpTo i old new → TracedUpTo (suc i) old (set new i d)
one_further i old [] e d l k h = absurd (omega arith)
one_further zero old (x ∷ new) e d l k h = subst (λ (o : List Conversation). TracedUpTo 1 o (d ∷ new)) h (k, refl)
one_further (suc i) [] (x ∷ new) e d l k h = absurd h
one_further (suc i) (c ∷ old) (x ∷ new) e d l k h = (h.0, one_further i old new e d (omega arith) k h.1)

pub traced_further : (i : ℕ) (old new : List Conversation) (e d : Conversation) → i < length new → IsTracedOn (get_or new i e) d
    → TracedUpTo i old new → TracedUpTo (i + 1) old (set new i d)
traced_further i old new e d l k h =
    subst (λ (n : ℕ). TracedUpTo n old (set new i d)) (sym (add-one i)) (one_further i old new e d l k h)

-- as many as there were
pub same_length : (old new : List Conversation) → TracedUpTo (length new) old new → length new ≡ length old
same_length [] [] h = refl
same_length (c ∷ old) [] h = let none : [] ≡ c ∷ old = h in grind (arith, none)
same_length [] (d ∷ new) h = absurd h
same_length (c ∷ old) (d ∷ new) h = ap suc (same_length old new h.1)

pub all_traced : (old new : List Conversation) → TracedUpTo (length new) old new → AreTraced old new
all_traced [] [] h = tt
all_traced (c ∷ old) [] h = let none : [] ≡ c ∷ old = h in grind (arith, none)
all_traced [] (d ∷ new) h = absurd h
all_traced (c ∷ old) (d ∷ new) h = ((h.0.left, h.0.right), all_traced old new h.1)

pub all_found : (old new : List Conversation) → TracedUpTo (length new) old new → AreUntold old → HaveRuns new
all_found old [] h u = tt
all_found [] (d ∷ new) h u = absurd h
all_found (c ∷ old) (d ∷ new) h u = (h.0.found u.0, all_found old new h.1 u.1)

-- ---- what is told of a side explains all of it

pub explains_all : (own heard : Stream) (begin : Seen) (whole : IsWhole own) → IsTold own heard begin
    → IsExplained begin (tsdus_of heard) whole.told
explains_all own heard begin whole told =
    subst (λ (ms : List Remark). Explains (tsdus_of heard) ms 0 begin) whole.units
    (run_explains (tsdus_of own) (tsdus_of heard) own.kept.items own.said.items 0 begin told)

-- and all that it sent, if the judge found that it kept the protocol
pub told_to_its_end : (own heard : Stream) (begin : Seen) (run : HasRun own heard begin) → (observed own.side).finding ≡ found.Kept
    → (map octets_told run.whole.told ≡ tsdus_of own) × IsExplained begin (tsdus_of heard) run.whole.told
told_to_its_end own heard begin run kept =
    let all = run.whole.all (run.unlimited kept) in
    let n : length run.whole.told ≡ length (tsdus_of own) = omega (arith, all, count_is own.octets.items own.tsdus.items) in (
      run.whole.first ∙ ap (λ (k : ℕ). take k (tsdus_of own)) n ∙ take-length (tsdus_of own),
      explains_all own heard begin run.whole run.told,
    )
