-- The account of an end, packet by packet, whatever was given and sent in between.
use Rattle.std.proofs.Common.{arith, ◌≡◌, ℕ, false, List, [], ◌∷◌, ◌++◌, Option, option_to_list, refl, ap, append_assoc}
use Rattle.osi_stack.proofs.Vocabulary.{Rows, Shown, first_shown, without_first, TakesPackets, after_packet, quieted, put_back, Account}
use Rattle.osi_stack.proofs.Vocabulary.{account_of, with_packet, with_packets, Line, End, line_waits, waits}
use Rattle.osi_stack.proofs.each_line.the_first_that_indicates.{quiet_line}
use Rattle.osi_stack.proofs.in_step.what_is_in_front_changes_nothing.{apart_packet}
use Rattle.osi_stack.proofs.carried.packets_without_events.{or_first, or_second}
use Rattle.osi_stack.proofs.carried.what_a_move_leaves.{first_of_all, none_waiting}

-- an account of this end, with these indications given
abbrev pub made : End → List (ℕ × Shown) → Account
made e told = record { end = e; told = told }

-- more indications were given, and more octets sent, before
abbrev pub after_more : List (ℕ × Shown) → List ℕ → Account → Account
after_more told carried a = record { end = put_back carried a.end; told = told ++ a.told }

-- ---- nothing is pending

quieted_same : (lines : Rows Line) → waits lines ≡ false → quieted lines ≡ lines
quieted_same [] h = refl
quieted_same ((r, line) ∷ lines) h =
    grind (arith, quiet_line, or_first, or_second, quieted_same lines (or_second (line_waits line) (waits lines) h))

-- the account of such an end is the end itself
pub account_quiet : (e : End) → waits e.lines ≡ false → account_of [] [] e ≡ made e []
account_quiet e none = grind (arith, quieted_same, none_waiting)

-- ---- telling

quieted_first : (lines : Rows Line) → quieted (without_first lines) ≡ quieted lines
quieted_first [] = refl
quieted_first ((r, line) ∷ lines) = grind (arith, quieted_first lines)

-- an indication that was given is no longer pending, and nothing else changes
pub account_told : (shown : Option (ℕ × Shown)) (e : End) → shown ≡ first_shown e.lines →
    account_of (option_to_list shown) [] (record e { lines = without_first e.lines }) ≡ account_of [] [] e
account_told shown e is = grind (arith, option_to_list shown, quieted_first e.lines, first_of_all e.lines)

-- ---- more before

pub account_joined : (t u : List (ℕ × Shown)) (o p : List ℕ) (e : End) → account_of (t ++ u) (o ++ p) e ≡ after_more t o (account_of u p e)
account_joined t u o p e = grind (arith, append_assoc)

pub packets_apart : (t : List (ℕ × Shown)) (o : List ℕ) (units : List (List ℕ)) (a : Account) →
    with_packets units (after_more t o a) ≡ after_more t o (with_packets units a)
packets_apart t o [] a = refl
packets_apart t o (unit ∷ units) a = grind (arith, apart_packet, after_packet, append_assoc, packets_apart t o units (with_packet a unit))

-- ---- packets one after the other

pub with_joined : (us vs : List (List ℕ)) (a : Account) → with_packets (us ++ vs) a ≡ with_packets vs (with_packets us a)
with_joined [] vs a = refl
with_joined (u ∷ us) vs a = with_joined us vs (with_packet a u)

pub packets_done : (units : List (List ℕ)) (old new : End) → TakesPackets old units new →
    account_of [] [] new ≡ with_packets units (account_of [] [] old)
packets_done [] old new h = ap (account_of [] []) h
packets_done (unit ∷ units) old new h =
    grind (arith, after_packet, account_quiet, or_second, packets_done units (after_packet old unit) new h.1)
