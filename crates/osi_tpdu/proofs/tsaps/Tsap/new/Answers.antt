use Rattle.std.proofs.Common.{arith, ◌≡◌, ℕ, zero, suc, ◌+◌, ◌-◌, ◌≤◌, List, ◌++◌, length, get_or, drop, replicate, refl, ap}
use Rattle.std.proofs.lemmas.List.{get_or-append_right, get_or-drop}
use Rattle.osi_tpdu.proofs.tsaps.Tsap.new.Goals as goal

zeros : ℕ → List ℕ
zeros n = replicate n 0

zeros_read : (n i : ℕ) → get_or (zeros n) i 0 ≡ 0
unfolding zeros
zeros_read zero i = refl
zeros_read (suc n) zero = refl
zeros_read (suc n) (suc i) = zeros_read n i

-- after the first part, the zeros at the end are read
zeros_behind : (front : List ℕ) (n i : ℕ) → length front ≡ n → n ≤ i → get_or (front ++ drop n (zeros 32)) i 0 ≡ 0
zeros_behind front n i size past = grind (arith, get_or-append_right, zeros, get_or-drop, zeros_read)

pub invariant_of-result-clause-zeros : goal.invariant_of-result-clause-zeros
unfolding zeros
invariant_of-result-clause-zeros c = λ i past.
    zeros_behind c.copy_from_slice.new.self (length c.args.octets.now) i (ap length c.copy_from_slice.ensures.after) past
