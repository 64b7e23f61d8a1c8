-- What a session sends is no longer than a TSDU may be.
use Rattle.osi_stack.proofs.Vocabulary.{nat_tests, Contents, Meaning, IsSendable, unit_of, is_second, spelled, written, tsdus_of}
use Rattle.osi_stack.proofs.Vocabulary.{sent_alone, sent_short as parts_short, limit_of, AreShort, allowed, Step, octets_of, most_of}
use Rattle.osi_stack.proofs.Vocabulary.{Passed, Call, IsSoundState as IsSound, SessionState as State, ◌≡◌, ◌+◌, ◌<◌, ◌≤◌, Bool, true, []}
use Rattle.osi_stack.proofs.Vocabulary.{◌∷◌, length, nat_le, Ok, refl, arith, length-append, UnitFits, TsduFits, HaveRoom, spelled_fits}
use Rattle.osi_stack.proofs.Vocabulary.{data_written, HaveDigits}
use Rattle.osi_spdu.specs.Writing.{unit_octets, tsdu_octets}
use Rattle.osi_session.proofs.sent.what_an_accepted_call_sends.{sent_alone as call_alone, data_short as data_all_short}
use Rattle.osi_session.specs.Allowed.{sends}

unit_short : (unit : Contents) → UnitFits unit → length (unit_octets unit) < 65540
unfolding unit_octets
unit_short unit fits = grind arith

one_short : (unit : Contents) → UnitFits unit → length (tsdu_octets (unit ∷ [])) < 65540 + length unit.information
unfolding tsdu_octets
one_short unit fits = grind (arith, unit_short, length-append)

two_short : (first second : Contents) → UnitFits first → UnitFits second → first.information ≡ [] →
    length (tsdu_octets (first ∷ second ∷ [])) < 131080 + length second.information
unfolding tsdu_octets
two_short first second fits more none = grind (arith, unit_short, length-append, length)

spelled_short : (m : Meaning) (b : Bool) → is_second m ≡ b → TsduFits (spelled m) → (unit_of m).information ≡ [] →
    length (written m) ≤ 1048576
unfolding spelled
spelled_short m b e fits none = grind (arith, two_short, one_short)

pub record SpduLaws : Type 0 where
  pub room : HaveRoom
  pub digits : HaveDigits

-- a unit with no octets after it
pub sent_short : SpduLaws → (m : Meaning) → IsSendable m → (unit_of m).information ≡ [] → length (written m) ≤ 1048576
sent_short law m h none = spelled_short m (is_second m) refl (spelled_fits law.room law.digits m h.numbered h.addressed h.short) none

call_by : SpduLaws → (s : State) (c : Call) → nat_le (length (octets_of c)) (most_of c) ≡ true → IsSendable (sends s c) →
    length (written (sends s c)) ≤ 1048576
unfolding unit_of
call_by law s c size h = grind (arith, length, data_written, nat_tests, sent_short)

-- each TSDU that it sends
pub tsdus_short : SpduLaws → (s : State) (c : Call) (x : Step) → IsSound s → allowed s c ≡ Ok x → Passed s c x → IsSendable x.sent →
    AreShort (tsdus_of (limit_of s) x.sent)
tsdus_short law s c x sound h passed sendable = grind (arith, data_all_short, parts_short, call_alone, sent_alone, call_by)
