-- A DC of a whole calling end passes that answers a DR which closed nothing: it changes no connection at the judge, or it is that of a
-- line. For the law on a whole end.
use Rattle.osi_blameless.proofs.transport.Vocabulary.{arith, [], Bool, false, if◌then◌else◌, inl, inr, List, None, Option, refl, Some}
use Rattle.osi_blameless.proofs.transport.Vocabulary.{subst, sym, true, ℕ}
use Rattle.osi_blameless.proofs.transport.Vocabulary.{◌∷◌, ◌≡◌, eqb-true, not, position, slice_get, ◌||◌, disconnected, Value, Class, Two}
use Rattle.osi_blameless.proofs.transport.Vocabulary.{Zero, Local}
use Rattle.osi_blameless.proofs.transport.Vocabulary.{first_failed, is_due, is_named, at_found, at_place, none_told, one_told, Outcome}
use Rattle.osi_blameless.proofs.transport.Vocabulary.{route, route_in}
use Rattle.osi_blameless.proofs.transport.Vocabulary.{routed, set, Traffic, takes, Connection, Left, Right, in_doubt, Broke, NotJudged}
use Rattle.osi_blameless.proofs.transport.Vocabulary.{Whole}
use Rattle.osi_rules.specs.declared.findings.Rule.TheVariants as rule
use Rattle.osi_blameless.proofs.transport.small_facts_that_many_lemmas_use.{and_first, and_second, both, judged_same, or_last}
use Rattle.osi_blameless.proofs.transport.Vocabulary.{knows_disconnect, may_answer}
use Rattle.osi_blameless.proofs.transport.by_line.a_dc_follows_a_dr.{may_so}
use Rattle.osi_blameless.proofs.transport.names.a_right_unit_is_not_blamed.{first_there}
use Rattle.osi_blameless.proofs.transport.by_line.a_unit_that_is_not_judged_passes.{IsIgnored, Passed, ignored_passes, ignored_peers}
use Rattle.osi_blameless.proofs.transport.by_line.a_unit_that_is_not_judged_passes.{own_goes}
use Rattle.osi_blameless.proofs.transport.by_line.each_connection_has_its_line.{Followed, is_tracked}
use Rattle.osi_blameless.proofs.transport.names.what_holds_of_one_item.{first_true}
use Rattle.osi_blameless.proofs.transport.names.what_keeps_names_apart.{Sound}
use Rattle.osi_blameless.proofs.transport.names.names_stay_apart_though_one_is_lost.{AreNamedApart}
use Rattle.osi_blameless.proofs.transport.connections.what_the_other_side_closes.{IsSane}
use Rattle.osi_blameless.proofs.transport.connections.which_units_are_for_a_connection.{IsOf}
use Rattle.osi_blameless.proofs.transport.requests.while_no_class_is_selected.{set_same}

-- ---- at the judge

-- it is not judged and changes no connection, or it answers a DR on a connection that is judged
pub data Passes (m source : ℕ) (s : Traffic) (o : Outcome) : Type 0 where
  idle : o.told.finding ≡ NotJudged → o.state.connections ≡ s.connections → Passes m source s o
  due : (p : ℕ) (c : Connection) → slice_get s.connections p ≡ Some c → is_named Left m c ≡ true → is_due Left c source ≡ true →
      c.is_judged ≡ true → Passes m source s o

where_named : (cs : List Connection) (n q : ℕ) → position (is_named Left n) cs ≡ Some q →
    (e : Connection) × (slice_get cs q ≡ Some e) × (is_named Left n e ≡ true)
where_named cs n q h = grind (arith, first_there, first_true)

pub not_due : (due told strays : Bool) → due ≡ false → strays ≡ true →
    first_failed ((due || not strays, NotJudged) ∷ (told, Broke rule.UnknownReference) ∷ (due, Broke rule.NothingToAnswer) ∷ []) ≡ NotJudged
not_due false told true h k = refl
not_due true told strays h k = cc
not_due false told false h k = cc

doubt_none : (loose : Bool) → (if loose then in_doubt NotJudged else NotJudged) ≡ NotJudged
doubt_none loose = grind arith

module _ (m source : ℕ) (s : Traffic) (strays : may_answer Left s.course.disconnects ≡ true) where
  abbrev v : Value
  v = disconnected m source

  one_passes : (p : ℕ) (c : Connection) → slice_get s.connections p ≡ Some c → is_named Left m c ≡ true → (j : Bool) → c.is_judged ≡ j →
      (b : Bool) → is_due Left c source ≡ b → Passes m source s (one_told Left p c v s)
  one_passes p c at named false lost b e = grind (arith, set, set_same)
  one_passes p c at named true judged true e = due p c at named e judged
  one_passes p c at named true judged false e = grind (arith, set, set_same, judged_same, not_due)

  at_passes : (o : Option ℕ) → position (is_named Left m) s.connections ≡ o → Passes m source s (at_place Left v s o)
  at_passes None e = grind (arith, doubt_none)
  at_passes (Some p) e =
      let (c, at, named) = where_named s.connections m p e in
      subst (λ (o : Option Connection). Passes m source s (at_found Left v s p o)) (sym at)
      (one_passes p c at named c.is_judged refl (is_due Left c source) refl)

  by_class : (k : Option Class) (b : Bool) → Passes m source s (at_place Left v s (position (is_named Left m) s.connections)) →
      Passes m source s (routed Left v s (route_in k Left b v))
  by_class None b h = h
  by_class (Some Zero) true h = h
  by_class (Some Zero) false h = h
  by_class (Some Two) b h = h

  pub dc_passes : s.course.left_stopped ≡ false → Passes m source s (takes Left v s)
  dc_passes left =
      subst (λ (b : Bool). Passes m source s (if b then none_told Left NotJudged s else routed Left v s (route Left s.course v))) (sym left)
      (search (arith, by_class, at_passes, position))

-- ---- at the end

-- the connection on which it is due is open, and it has its references
pub record IsDueOn (c : Connection) (m source : ℕ) : Type 0 where
  pub tracked : is_tracked c ≡ true
  pub own : IsOf c.left.reference c.right.reference (disconnected m source)

due_on : (c : Connection) (m source : ℕ) → Sound c → is_named Left m c ≡ true → is_due Left c source ≡ true → IsDueOn c m source
due_on c m source sound named h = grind (arith, and_first, and_second, both, or_last, eqb-true)

module _ (local : Local) (w : Whole) (f : Followed local w) (sane : IsSane w.judge) (peers : AreNamedApart Right w.judge.connections)
    (m source : ℕ) (rest : List Value) (e : w.put ≡ disconnected m source ∷ rest) (begun : w.begun ≡ true)
    (left : w.judge.course.left_stopped ≡ false) (strays : w.judge.course.disconnects.strays ≡ true)
    (knows : knows_disconnect Left w.judge.course.disconnects ≡ true) where
  abbrev dc : Value
  dc = disconnected m source

  passes_by : Passes m source w.judge (takes Left dc w.judge) → Passed local w dc rest
  passes_by (idle spared same) =
      let ignored : IsIgnored dc w.judge = record { found = spared; same = same } in
      record {
        fine = inr (spared, inl strays);
        followed = ignored_passes local w f sane peers dc rest e begun left ignored;
        peers = ignored_peers local w f sane peers dc rest e begun left ignored;
      }
  passes_by (due p c at named h judged) = search (arith, own_goes, due_on c m source (sane.apart.sound p c at judged) named h)

  pub dc_goes : Passed local w dc rest
  dc_goes = passes_by (dc_passes m source w.judge (may_so Left w.judge.course.disconnects strays knows) left)
