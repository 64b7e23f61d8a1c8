-- A part if data is expected, and if it is discarded.
use Rattle.osi_session.proofs.Vocabulary.{State, is_restarting, is_over, takes_data, nothing, over, dropped, Place, DT, says, part, heard}
use Rattle.osi_session.proofs.Vocabulary.{respond_word, discards, IsNoFault, ◌≡◌, refl, ◌∙◌, ap, ℕ, true, false, List, None, arith, inl}
use Rattle.osi_session.proofs.Vocabulary.{inr, or_cases, Word, as_message}
use Rattle.osi_session.proofs.tables.what_is_true_of_each_phase.{excluded}
use Rattle.osi_session.proofs.tables.messages_act_as_the_table_says.{word_at}

-- ---- if it is expected

-- data is expected, and the peer has its token
pub record Expects (s : State) : Type 0 where
  pub phase : takes_data s.phase ≡ true
  pub token : s.held.data_token ≡ false

-- if the whole data is no fault, and is not discarded, it is expected
pub expects : (s : State) (o : List ℕ) → is_over s.phase ≡ false → is_restarting s.phase ≡ false → IsNoFault s o → Expects s
expects s o v r h = grind arith

-- ---- if it is discarded

-- nothing happens by data or a part of it
word_discarded : (s : State) (w : Word) (o : List ℕ) → as_message w ≡ DT o → discards s.phase ≡ true →
    respond_word (record { state = s; joined = None }) w ≡ heard None (nothing s)
word_discarded s w o e h = elim (or_cases (is_restarting s.phase) (is_over s.phase) h) [
  | inl r ↦ (let v = excluded is_restarting is_over refl s.phase r in
      word_at (record { state = s; joined = None }) w dropped (rw (v, e, r) refl))
  | inr v ↦ word_at (record { state = s; joined = None }) w over (rw v refl) ∙ ap (heard None) (grind arith)
]

pub part_discarded : (s : State) (place : Place) (o : List ℕ) → discards s.phase ≡ true →
    respond_word (record { state = s; joined = None }) (part place o) ≡ heard None (nothing s)
part_discarded s place o h = word_discarded s (part place o) o refl h

pub data_discarded : (s : State) (o : List ℕ) → discards s.phase ≡ true →
    respond_word (record { state = s; joined = None }) (says (DT o)) ≡ heard None (nothing s)
data_discarded s o h = word_discarded s (says (DT o)) o refl h
