-- Two restarts that cross: which of them takes effect.
use Rattle.osi_session.proofs.Vocabulary.{lt-ltb, le-ltb, eq-eqb, ne_eqb, cases_order, TokenSetting, State, is_restarting, is_restart_due}
use Rattle.osi_session.proofs.Vocabulary.{restarted_at, lower, RS, stands, becomes, take_expected, respond_unit, inl, inr, ◌⊎◌, ◌≡◌, refl}
use Rattle.osi_session.proofs.Vocabulary.{ℕ, ◌≤◌, ◌<◌, true, false, List, arith, HasAsked, AreCrossed, after_restart}
use Rattle.osi_spdu.specs.declared.fields.ResyncType.TheVariants.{Restart}
use Rattle.osi_session.proofs.tables.what_is_true_of_each_phase.{implied, excluded}
use Rattle.osi_session.proofs.tables.the_verdict_on_a_unit.{in_front, empty_item}

-- at a side that has asked for a restart a lower number takes effect
lower_stands : (s : State) (n : ℕ) → is_restarting s.phase ≡ true → n < s.numbers.next → stands s n ≡ true
unfolding stands
lower_stands s n r lt = let a = lt-ltb n s.numbers.next lt in rw (r, a) refl

-- a higher one does not
higher_yields : (s : State) (n : ℕ) → is_restarting s.phase ≡ true → s.numbers.next < n → stands s n ≡ false
unfolding stands
higher_yields s n r lt = grind (arith, le-ltb, ne_eqb)

-- ---- one of two restarts takes effect

pub of_equal : (c o : State) → AreCrossed c o → c.numbers.next ≡ o.numbers.next →
    (stands o c.numbers.next ≡ true) × (stands c o.numbers.next ≡ false)
unfolding stands
of_equal c o x e = grind (arith, le-ltb, eq-eqb)

pub of_lower : (a b : State) → HasAsked a → HasAsked b → a.numbers.next < b.numbers.next →
    (stands b a.numbers.next ≡ true) × (stands a b.numbers.next ≡ false)
of_lower a b x y lt = (lower_stands b a.numbers.next y.phase lt, higher_yields a b.numbers.next x.phase lt)

-- ---- what both sides become

taken : (s : State) (n : ℕ) (wishes : TokenSetting) (octets : List ℕ) → HasAsked s → s.base ≤ n →
    after_restart s n wishes octets ≡ becomes s (RS Restart n wishes octets)
unfolding respond_unit take_expected
taken s n wishes octets x from = grind (arith, in_front, empty_item, excluded, implied)

stands_next : (s : State) (n : ℕ) (wishes : TokenSetting) (octets : List ℕ) → HasAsked s → s.base ≤ n → stands s n ≡ true
    → ((after_restart s n wishes octets).numbers.next ≡ n) × (is_restart_due (after_restart s n wishes octets).phase ≡ true)
unfolding restarted_at
stands_next s n wishes octets x from e = rw (taken s n wishes octets x from, e) (refl, refl)

lower_other : (n m : ℕ) → m ≤ n → lower n m ≡ m
lower_other n m le = rw (le-ltb n m le) refl

-- both go on from the lower number
pub agreed : (c o : State) (wishes asked : TokenSetting) (octets others : List ℕ) → AreCrossed c o →
    ((after_restart c o.numbers.next asked others).numbers.next ≡ lower c.numbers.next o.numbers.next)
    × ((after_restart o c.numbers.next wishes octets).numbers.next ≡ lower c.numbers.next o.numbers.next)
agreed c o wishes asked octets others x = elim (cases_order c.numbers.next o.numbers.next) [
  | inl e ↦ grind (arith, of_equal, lower_other, taken, stands_next)
  | inr (inl lt) ↦ grind (arith, taken, stands_next, of_lower c o x.asked x.other_asked lt)
  | inr (inr gt) ↦
      let h = of_lower o c x.other_asked x.asked gt in
      let low = lower_other c.numbers.next o.numbers.next (omega arith) in grind (arith, stands_next, taken)
]

-- the one has a restart to answer, and the other awaits the answer
pub one_answers : (c o : State) (wishes asked : TokenSetting) (octets others : List ℕ) → AreCrossed c o →
    ((is_restart_due (after_restart c o.numbers.next asked others).phase ≡ true) ×
    (is_restarting (after_restart o c.numbers.next wishes octets).phase ≡ true))
    ⊎ ((is_restarting (after_restart c o.numbers.next asked others).phase ≡ true) ×
    (is_restart_due (after_restart o c.numbers.next wishes octets).phase ≡ true))
one_answers c o wishes asked octets others h0 = grind (arith, cases_order, of_equal, taken, stands_next, of_lower)
