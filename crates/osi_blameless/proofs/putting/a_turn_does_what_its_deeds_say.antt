-- A turn of an end beside a judge used the packets that its connections took in this turn.
-- For all connections of an end and a judge.
use Rattle.osi_blameless.proofs.Vocabulary.{[], ap, append_assoc, Bool, List, None, sym, ℕ, ◌++◌, ◌∙◌, ◌≡◌, units_of, Ok, append-nil, ◌∷◌}
use Rattle.osi_blameless.proofs.Vocabulary.{Value, Continues, Deeds, units_in, units_by, all_units, Turn, Joint, TakesTurn, arith}
use Rattle.osi_blameless.proofs.steps.the_packets_that_an_end_took_come_first.{AreFirst, are_first}
use Rattle.osi_blameless.proofs.transport.small_facts_that_many_lemmas_use.{units_join}

-- the units of one more packet
pub units_more : (some : List (List ℕ)) (packet : List ℕ) (units : List Value) → units_of packet ≡ Ok units →
    units_in some ++ units ≡ units_in (some ++ packet ∷ [])
units_more some packet units read =
    sym (units_join some (packet ∷ [])
    ∙ ap (λ (l : List Value). units_in some ++ l) (append-nil (units_by (units_of packet)) ∙ ap units_by read))

-- ---- what was used

-- What has come begins with the units that were used. An end that is over may have left units of the packets that went with them.
pub record UsesSo (old new : Joint) (took : List Value) : Type 0 where
  pub left : List Value
  pub coming : units_in old.coming ≡ took ++ (left ++ units_in new.coming)
  pub all : new.end.end.carrier.ended ≡ None → left ≡ []

pub turn_uses : (turn : Turn) (old new : Joint) (t : TakesTurn turn old new) (is_caller : Bool) (deeds : ℕ → Deeds)
    (on : Continues is_caller deeds old.end turn new.end) → old.end.end.carrier.ended ≡ None →
    UsesSo old new (all_units on.took)
turn_uses turn old new t is_caller deeds on lasts =
    let a : AreFirst on.used t.used new.end.end.carrier.ended =
    are_first on.used t.used (old.end.held.octets ++ turn.used) on.rest t.rest new.end.end.carrier.ended on.cut (t.cut lasts)
    (λ still. on.held still ∙ sym (t.held still)) (t.all lasts) in
    record {
      left = units_in a.more;
      coming = grind (arith, append_assoc, units_join);
      all = λ still. ap units_in (a.all still);
    }

-- what is still to come was to come before
pub turn_leaves : (turn : Turn) (old new : Joint) (t : TakesTurn turn old new) →
    units_in old.coming ≡ units_in t.used ++ units_in new.coming
turn_leaves turn old new t = ap units_in t.coming ∙ units_join t.used new.coming
