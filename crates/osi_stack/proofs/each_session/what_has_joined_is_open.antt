-- A session that has joined something has an open connection.
use Rattle.osi_stack.proofs.Vocabulary.{IfSome, Rows, value_at, is_open, most_data, joined_octets, Input, Listener, after_inputs, may_hold}
use Rattle.osi_stack.proofs.Vocabulary.{implied, CameAbout, AllCameAbout, needs_link, kept_at, IsSettled, Line, End, session_in, ◌≡◌, ℕ}
use Rattle.osi_stack.proofs.Vocabulary.{◌≤◌, true, List, length, Option, Some, None, is_some, refl, subst, arith, IsKept}
use Rattle.osi_stack.proofs.each_line.what_stays_true_of_each_line.{line_at}

pub record JoinedLaws : Type 0 where
  pub kept : (l : Listener) (inputs : List Input) → IsKept l → IsKept (after_inputs l inputs)
  pub held : (l : Listener) → IsKept l → is_some l.joined ≡ true → may_hold l.state.phase ≡ true

pub came_by : (r : ℕ) (s : Listener) (lines : Rows Line) (o : Option Line) → value_at r lines ≡ o → session_in o ≡ Some s →
    AllCameAbout lines → CameAbout s
came_by r s lines None at is all = cc
came_by r s lines (Some line) at is all = subst (λ (o : Option Listener). IfSome o CameAbout) is (grind (arith, line_at))

kept_of : JoinedLaws → (r : ℕ) (s : Listener) (e : End) → IsSettled e → kept_at r e.lines ≡ Some s → IsKept s
kept_of law r s e settled is = grind (arith, came_by r s e.lines (value_at r e.lines) refl is settled.came)

pub joined_open : JoinedLaws → (r : ℕ) (s : Listener) (e : End) → IsSettled e → e.carrier.ended ≡ None → kept_at r e.lines ≡ Some s →
    is_some s.joined ≡ true → is_open r e.carrier ≡ true
joined_open law r s e settled lasts is some =
    (settled.sound lasts).links lasts r s is
    (implied may_hold needs_link refl s.state.phase (law.held s (kept_of law r s e settled is) some))

pub joined_few : JoinedLaws → (r : ℕ) (s : Listener) (e : End) → IsSettled e → kept_at r e.lines ≡ Some s →
    length (joined_octets s.joined) ≤ most_data
joined_few law r s e settled is = (kept_of law r s e settled is).few
