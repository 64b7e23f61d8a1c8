-- A TSDU as a unit of a grammar: it is all of its octets.
use Rattle.osi_spdu.proofs.Vocabulary.{take_all, length-drop, IsOctets, Units, SpellsTsdu, IsAll, tsdu_octets, IsFormedTsdu, TsduFits, ◌≡◌}
use Rattle.osi_spdu.proofs.Vocabulary.{ℕ, List, length, ap, subst, arith, IsAtFront}
use Rattle.osi_spdu.proofs.basics.the_steps_of_reading.{ok_is}
use Rattle.osi_spdu.proofs.tsdu.units_and_tsdus_are_read.{tsdu_only}
use Rattle.osi_spdu.proofs.form.the_form_spells_its_unit.{tsdu_written}

pub grammar_spelled : (units : Units) → IsFormedTsdu units × TsduFits units × IsOctets (tsdu_octets units) →
    SpellsTsdu units (tsdu_octets units)
grammar_spelled units h = tsdu_written units h.0 h.1 h.2

abbrev AtFront : Units → ℕ → List ℕ → Type 0
AtFront units n octets = IsAtFront {V = Units} SpellsTsdu IsAll units n octets

pub front_whole : (units : Units) (n : ℕ) (octets : List ℕ) → AtFront units n octets → (n ≡ length octets) × SpellsTsdu units octets
front_whole units n octets h =
    let all : n ≡ length octets = omega (arith, ap length h.followed, length-drop n octets) in
    (all, subst (λ (o : List ℕ). SpellsTsdu units o) (take_all n octets (omega arith)) h.spelled)

pub grammar_one : (v w : Units) (m n : ℕ) (octets : List ℕ) → IsOctets octets → AtFront v m octets → AtFront w n octets → (v ≡ w) × (m ≡ n)
grammar_one v w m n octets h0 h1 h2 = grind (arith, front_whole, ok_is, tsdu_only)
