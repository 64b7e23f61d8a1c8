use Rattle.osi_carrier.proofs.Vocabulary.{Held, EndsOver, IsNoFront, Carrying, arith, ◌≡◌, [], subst, sym, ap, refl, ◌∙◌}
use Rattle.osi_carrier.proofs.Vocabulary.{Bool, MatchBool, List, ℕ, ◌++◌, Fed, Ok, TakesPiece, IsPartial, IsOnePacket, PartHeld, take_all}
use Rattle.osi_carrier.specs.contracts.carrier.Carrier.{the_view}
use Rattle.osi_carrier.proofs.stream.what_the_cutter_returns.{Proper, ended_over, fetched_packet, same_fault}
use Rattle.osi_carrier.proofs.carrier.Carrier.gather.Goals as goal

pub returns-in-Err : goal.returns-in-Err
returns-in-Err c = λ lends lent.
    let new = the_view (record c.self.inside { switch = c.end_for.new.self; cutter = c.new.result }) in
    subst (λ (x : Carrying). EndsOver x c.args.octets.now new) c.self.view_is
    (ended_over c.a_prefix_of_a_packet.ensures.proper (the_view c.self.inside) new c.args.octets.now c.in-Err.fault c.feed.new.self
    c.self.invariant.partial c.requires.some (rw (← c.self.view_is) at c.requires.parted)
    (c.in-Err.ensures.taken c.self.invariant.fault c.self.invariant.partial)
    (λ f is. same_fault f c.in-Err.fault (c.in-Err.ensures.refused c.self.invariant.fault c.self.invariant.partial f is)) c.end_for.ensures
    (ap (λ (h : Held). h.octets) c.new.ensures.value))

pub returns : goal.returns
returns c = grind (arith, fetched_packet)

first_out : (b : Bool) (A B : Type 0) → MatchBool b A B → (A → ⊥) → B
first_out b A B h never = grind arith

part_held : Proper → (old : Carrying) (octets : List ℕ) (fed : Fed) (held : Held) → TakesPiece old.held octets (Ok fed) held →
    IsPartial held.octets → PartHeld old octets (record old { held = held })
part_held proper old octets fed held taken partial =
    let e = ap (λ (h : Held). h.octets) taken.1.octets in
    let all = first_out fed.whole _ _ taken.0.whole (λ one. proper held.octets partial (subst IsOnePacket (sym e) one)) in
    record {
      state = refl;
      held = e ∙ ap (λ l. old.held.octets ++ l) (take_all fed.used octets (omega (arith, all.1)));
      partial = partial;
      offset = ap (λ (h : Held). h.offset) taken.1.octets;
      room = taken.1.room;
    }

pub returns-in_default : goal.returns-in_default
returns-in_default c = λ lends lent.
    rw (← c.self.view_is)
    (part_held c.a_prefix_of_a_packet.ensures.proper (the_view c.self.inside) _ c.in-Ok.fed c.feed.new.self
    (c.in-Ok.ensures.taken c.self.invariant.fault c.self.invariant.partial) c.in_default.ensures.none)
