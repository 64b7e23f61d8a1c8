-- What a session took and sent is a run of it as the judge has it, so what it sent is explained by what it took.
-- For the laws of an end and its connections.
use Rattle.osi_blameless.proofs.ends.Vocabulary.{[], ap, append_assoc, arith, Bool, false, get_or, length, List, map, refl, subst, sym, ℕ}
use Rattle.osi_blameless.proofs.ends.Vocabulary.{◌++◌}
use Rattle.osi_blameless.proofs.ends.Vocabulary.{◌+◌, ◌∙◌, ◌∷◌, ◌≡◌, append-nil, map-append, after_input, called, came, Listener}
use Rattle.osi_blameless.proofs.ends.Vocabulary.{linked_up as opened, session_react as react, Told, IsSentFrom, Pass, Runs, sends, History}
use Rattle.osi_blameless.proofs.ends.Vocabulary.{Said}
use Rattle.osi_blameless.proofs.ends.Vocabulary.{said_after, told_of}
use Rattle.std.proofs.Common.{length-append}
use Rattle.osi_side.specs.Running as running
use Rattle.osi_blameless.specs.ends.Talking as history

at_place : (took rest : List (List ℕ)) (tsdu : List ℕ) → get_or (took ++ tsdu ∷ rest) (length took) [] ≡ tsdu
at_place [] rest tsdu = refl
at_place (t ∷ took) rest tsdu = at_place took rest tsdu

now_passes : (taken : ℕ) (tsdus : List (List ℕ)) → Pass taken tsdus (map told_of (said_after taken tsdus))
now_passes taken [] = tt
now_passes taken (tsdu ∷ tsdus) = (refl, omega arith, now_passes taken tsdus)

all_told : (some now : List Said) (later : List Told) → map told_of some ++ (map told_of now ++ later) ≡ map told_of (some ++ now) ++ later
all_told some now later = grind (arith, append_assoc, map-append)

module _ (begin : Listener) (us : List (List ℕ)) where
  pub history_runs : (took : List (List ℕ)) (said : List Said) (closed : Bool) (l : Listener) → History begin took said closed l →
      (rest : List (List ℕ)) → us ≡ took ++ rest → (later : List Told) →
      Runs us closed l (length took) later → Runs us false begin 0 (map told_of said ++ later)
  history_runs _ _ _ _ history.begins rest is later run = run
  history_runs _ _ _ _ (history.takes took said l tsdu h w) rest is later run =
      let now = said_after (length took + 1) (sends l (came tsdu)) in
      let all : us ≡ took ++ tsdu ∷ rest = is ∙ append_assoc took (tsdu ∷ []) rest in
      let here : get_or us (length took) [] ≡ tsdu = ap (λ (x : List (List ℕ)). get_or x (length took) []) all ∙ at_place took rest tsdu in
      let count : length (took ++ tsdu ∷ []) ≡ length took + 1 = length-append took (tsdu ∷ []) in
      let next : Runs us (react l (came tsdu)).closes (after_input l (came tsdu)) (length took + 1) later =
      subst (λ (n : ℕ). Runs us (react l (came tsdu)).closes (after_input l (came tsdu)) n later) count run in
      let step : Runs us false l (length took) (map told_of now ++ later) =
      running.takes l (length took) (map told_of now) later w
      (grind (arith, now_passes))
      (subst (λ (x : List ℕ). Runs us (react l (came x)).closes (after_input l (came x)) (length took + 1) later) (sym here) next) in
      subst (Runs us false begin 0) (all_told said now later)
      (history_runs took said false l h (tsdu ∷ rest) all (map told_of now ++ later) step)
  history_runs _ _ _ _ (history.calls took said closed l c h serial) rest is later run =
      let now = said_after (length took) (sends l (called c)) in
      let step : Runs us closed l (length took) (map told_of now ++ later) =
      running.calls closed l (length took) c (map told_of now) later serial (now_passes (length took) (sends l (called c))) run in
      subst (Runs us false begin 0) (all_told said now later) (history_runs took said closed l h rest is (map told_of now ++ later) step)
  history_runs _ _ _ _ (history.connects took said l h) rest is later run =
      let now = said_after (length took) (sends l opened) in
      let step : Runs us false l (length took) (map told_of now ++ later) = running.connects l (length took) (map told_of now) later
      (now_passes (length took) (sends l opened)) run in
      subst (Runs us false begin 0) (all_told said now later) (history_runs took said false l h rest is (map told_of now ++ later) step)
  history_runs _ _ _ _ (history.misses took said l reason h w) rest is later run =
      history_runs took said false l h rest is later (running.misses l (length took) reason later w run)
  history_runs _ _ _ _ (history.loses took said l h) rest is later run = history_runs took said false l h rest is later
      (running.loses l (length took) later run)

-- all that it sent, when these TSDUs arrived
pub is_sent : (begin : Listener) (took : List (List ℕ)) (said : List Said) (closed : Bool) (l : Listener) →
    History begin took said closed l → IsSentFrom begin took (map told_of said)
is_sent begin took said closed l h = record {
  later = [];
  runs = history_runs begin took took said closed l h [] (sym (append-nil took)) [] (running.rests closed l (length took));
}
