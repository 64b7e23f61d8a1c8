-- A connection that is over and whose place was given to another keeps its place among those that are over, whatever passes.
use Rattle.std.proofs.Common.{arith}
use Rattle.osi_judge.proofs.Vocabulary.{◌≡◌, ◌++◌, ◌∷◌, ℕ, zero, suc, List, [], Option, Some, None, slice_get, Meaning, Value, Capture}
use Rattle.osi_judge.proofs.Vocabulary.{Direction, Joined, Sessions, State, after, changed, placed, taken}
use Rattle.osi_judge.proofs.a_claim_on_connections_holds_of_captures.{IsClaim, after_kept}
use Rattle.osi_judge.specs.Pasts.{StayOver}

in_front : (js ks : List Joined) (i : ℕ) (j : Joined) → slice_get js i ≡ Some j → slice_get (js ++ ks) i ≡ Some j
in_front [] ks i j e = absurd (cc)
in_front (k ∷ js) ks zero j e = e
in_front (k ∷ js) ks (suc i) j e = in_front js ks i j e

over_more : (js ks : List Joined) (over : Joined) → StayOver js ks → StayOver js (ks ++ over ∷ [])
over_more js ks over stay i j e = in_front ks (over ∷ []) i j (stay i j e)

placed_stay : (js : List Joined) (place : ℕ) (k : Joined) (s : Sessions) (o : Option Joined) → StayOver js s.done
    → StayOver js (placed place k s o).done
placed_stay js place k s None stay = stay
placed_stay js place k s (Some over) stay = over_more js s.done over stay

changed_stay : (js : List Joined) (place : ℕ) (f : Joined → Joined) (s : Sessions) (o : Option Joined) → StayOver js s.done
    → StayOver js (changed place f s o).done
changed_stay js place f s None stay = stay
changed_stay js place f s (Some j) stay = stay

taken_stay : (js : List Joined) (d : Direction) (at : ℕ) (v : Value) (m : Meaning) (place : Option ℕ) (s : Sessions) → StayOver js s.done
    → StayOver js (taken d at v m place s).done
taken_stay js d at v m None s stay = stay
taken_stay js d at v m (Some place) s stay = grind (arith, placed_stay, changed_stay)

claim : (js : List Joined) → IsClaim (λ (s : Sessions). StayOver js s.done)
claim js = record {
  begins = λ d s h. h;
  takes = λ d at v m place s h. taken_stay js d at v m place s h;
}

pub over_stays : (capture : Capture) (s : State) → StayOver s.course.sessions.done (after capture s).course.sessions.done
over_stays capture s =
    after_kept (λ (t : Sessions). StayOver s.course.sessions.done t.done) (claim s.course.sessions.done) capture s (λ i j e. e)
