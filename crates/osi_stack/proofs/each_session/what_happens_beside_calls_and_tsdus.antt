-- What happens to a session beside calls and TSDUs.
use Rattle.osi_stack.proofs.Vocabulary.{in_one, Input, Listener, Move, opened, refused, broken, react, Takes, Indication, ◌≡◌, ℕ, false, []}
use Rattle.osi_stack.proofs.Vocabulary.{Option, None, option_map, Result, Ok, refl, arith, shown_list, Taken}

-- nothing is sent, and nothing closed
pub record IsQuiet (move : Move) : Type 0 where
  pub reply : move.reply ≡ None
  pub closes : move.closes ≡ false

-- nothing is indicated, and nothing closed
pub record IsUnseen (move : Move) : Type 0 where
  pub shown : move.shown ≡ []
  pub closes : move.closes ≡ false

pub opened_is_unseen : (s : Listener) → IsUnseen (react s opened)
unfolding react
opened_is_unseen s = grind arith

pub refused_is_quiet : (s : Listener) (reason : ℕ) → IsQuiet (react s (refused reason))
unfolding react
refused_is_quiet s reason = grind arith

pub broken_is_quiet : (s : Listener) → IsQuiet (react s broken)
unfolding react
broken_is_quiet s = record { reply = refl; closes = refl }

-- ---- what is taken

-- at most one indication, with this answer
pub quiet_takes : {E : Type 0} (t : Taken) (shown : Option Indication) (move : Move) (old new : Listener) → t.first ≡ shown →
    t.more.items ≡ [] →
    t.reply ≡ option_map in_one move.reply → t.closes ≡ move.closes → new ≡ move.next → shown_list shown ≡ move.shown →
    Takes {E = E} (Ok t) move old new
quiet_takes t shown move old new first more reply closes next is = grind arith

pub takes_if : {E : Type 0} (result : Result Taken E) (s : Listener) (i j : Input) (old new : Listener) → j ≡ i →
    Takes result (react s i) old new → Takes result (react s j) old new
takes_if result s i j old new e h = grind arith
