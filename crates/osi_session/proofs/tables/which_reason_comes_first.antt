-- What is refused for which reason: a CN that cannot be accepted is answered by RF with the reason that comes
-- first, and a part that is out of its place is a bad enclosure, however long it is.
use Rattle.osi_session.proofs.Vocabulary.{BadEnclosure, State, Taker, Place, CN, RF, DT, part, is_wait_cn, takes_data, has_data}
use Rattle.osi_session.proofs.Vocabulary.{functional_units, respond_unit, si, is_in_place, word_verdict, faulty, arith, ◌≡◌, ℕ, true, false}
use Rattle.osi_session.proofs.Vocabulary.{List, [], Option, Some, TsduMaximumSize, TokenSetting, ap, refl, ◌∙◌, Outcome}
use Rattle.osi_session.proofs.tables.the_verdict_on_a_unit.{good_in}
use Rattle.osi_session.proofs.tsdu.the_verdict_while_joining.{part_verdict}

-- a CN that doesn't name version 2
pub refused_version : (s : State) (requirements : ℕ) (serial : Option ℕ) (wishes : TokenSetting) (from to : Option (List ℕ))
    (sizes : TsduMaximumSize) (octets : List ℕ)
    → is_wait_cn s.phase ≡ true → (respond_unit s (CN false requirements serial wishes from to sizes octets)).reply ≡ Some (RF 132 [])
refused_version s requirements serial wishes from to sizes octets h = ap (λ (o : Outcome). o.reply)
    (good_in is_wait_cn s (CN false requirements serial wishes from to sizes octets) refl h refl (record { expected = h; met = tt }))

-- a CN that does, and names neither half-duplex nor duplex
pub refused_units : (s : State) (requirements : ℕ) (serial : Option ℕ) (wishes : TokenSetting) (from to : Option (List ℕ))
    (sizes : TsduMaximumSize) (octets : List ℕ)
    → is_wait_cn s.phase ≡ true → has_data (functional_units requirements) ≡ false →
    (respond_unit s (CN true requirements serial wishes from to sizes octets)).reply ≡ Some (RF 134 [])
refused_units s requirements serial wishes from to sizes octets h d = ap (λ (o : Outcome). o.reply)
    (good_in is_wait_cn s (CN true requirements serial wishes from to sizes octets) refl h refl (record { expected = h; met = tt }))
    ∙ (rw d refl)

-- a part that is out of its place
pub out_of_place : (t : Taker) (place : Place) (octets : List ℕ) → takes_data t.state.phase ≡ true → t.state.held.data_token ≡ false
    → is_in_place t.joined place ≡ false → word_verdict t (part place octets) ≡ faulty (BadEnclosure (si (DT octets)))
out_of_place t place octets h d k = grind (arith, part_verdict)
