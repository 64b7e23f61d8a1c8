-- In class 0 one connection was opened, and each other one was refused.
-- For the session of the connection of an end in class 0.
use Rattle.osi_blameless.proofs.Vocabulary.{ap, Bool, false, not, refl, Some}
use Rattle.osi_blameless.proofs.Vocabulary.{true, ℕ, ◌≡◌}
use Rattle.osi_blameless.proofs.Vocabulary.{slice_get}
use Rattle.osi_blameless.proofs.Vocabulary.{Zero}
use Rattle.osi_blameless.proofs.Vocabulary.{is_over}
use Rattle.osi_blameless.proofs.Vocabulary.{Traffic as State, Connection}
use Rattle.osi_blameless.proofs.Vocabulary.{AreJudged}
use Rattle.osi_blameless.proofs.Vocabulary.{NamesApart as AreApart}
use Rattle.osi_rules.specs.declared.directions.Direction.TheVariants.{Left}
use Rattle.osi_blameless.proofs.standing.a_dt_of_class_0_has_one_place.{IsOnly}
use Rattle.osi_blameless.proofs.transport.requests.one_request_waits.{IsOpened, Narrow, opened_live, refused_so, not_over}

pub narrow_only : (s : State) → AreApart s.connections → AreJudged s → s.course.loose ≡ false → Narrow s → s.course.class ≡ Some Zero →
    IsOnly s
narrow_only s apart judged firm n class =
    let o = n.opened class in
    record {
      place = o.place;
      connection = o.connection;
      there = o.there;
      left = n.asked o.place o.connection o.there;
      right = o.live;
      others = λ i e there other.
          (refused_so s.connections i e apart there (n.asked i e there) (over_by o (is_over Left e) i e refl there other)).1;
      known = λ seen i e there other.
          (refused_so s.connections i e apart there (n.asked i e there) (over_by o (is_over Left e) i e refl there other)).0;
    }
  where
    over_by : (o : IsOpened s.connections) (b : Bool) (i : ℕ) (e : Connection) → is_over Left e ≡ b → slice_get s.connections i ≡ Some e →
        (i ≡ o.place → ⊥) → is_over Left e ≡ true
    over_by o true i e is there other = is
    over_by o false i e is there other =
        absurd (other (n.one i o.place e o.connection there o.there (judged firm i e there) (judged firm o.place o.connection o.there)
        (ap not is) (not_over (is_over Left o.connection)
        (λ h. opened_live s.connections o.place o.connection apart o.there (n.asked o.place o.connection o.there) o.live h))))
