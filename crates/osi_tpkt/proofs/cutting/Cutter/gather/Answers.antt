use Rattle.std.proofs.Common.{Err, take, refl, sym, ap, subst, ◌∙◌, arith}
use Rattle.osi_tpkt.proofs.Vocabulary.{length-take-le, Held, IsPartial, BadVersion, BadLength}
use Rattle.osi_tpkt.proofs.a_prefix_of_a_packet.{surveyed, same_held, partial_front}
use Rattle.osi_tpkt.proofs.what_a_cutter_holds.{gathered, faulted, none_gained}
use Rattle.osi_tpkt.proofs.cutting.Cutter.gather.Goals as goal

pub returns-in_default-clause-taken : goal.returns-in_default-clause-taken
returns-in_default-clause-taken c = grind (arith, length-take-le, same_held, surveyed)

pub returns-then-fed-clause-taken : goal.returns-then-fed-clause-taken
returns-then-fed-clause-taken c = grind (arith, gathered, length-take-le, surveyed)

pub returns-else-fed-clause-taken : goal.returns-else-fed-clause-taken
returns-else-fed-clause-taken c = grind (arith, gathered, length-take-le, surveyed)

pub returns-in-Err-Version-clause-taken : goal.returns-in-Err-Version-clause-taken
returns-in-Err-Version-clause-taken c =
    faulted c.self.inside.offset _ _ _ _ c.args.piece.now (BadVersion c.self.inside.offset) _
    (ap (take c.self.inside.held) c.as_slice.ensures.value) c.self.view_is
    (c.in-Err-Version.ensures.version (ap Err c.in-Err-Version.field-0-is), refl)

pub returns-in-Err-Length-clause-taken : goal.returns-in-Err-Length-clause-taken
returns-in-Err-Length-clause-taken c =
    faulted c.self.inside.offset _ _ _ _ c.args.piece.now (BadLength c.self.inside.offset) _
    (ap (take c.self.inside.held) c.as_slice.ensures.value) c.self.view_is
    (c.in-Err-Length.ensures.length (ap Err c.in-Err-Length.field-0-is), refl)

pub returns-then-fed-eq0-clause-taken : goal.returns-then-fed-eq0-clause-taken
returns-then-fed-eq0-clause-taken c =
    let same = ap (take c.self.inside.held) c.as_slice.ensures.value ∙ ap (λ (h : Held). h.octets) c.self.view_is in (
      surveyed _ _ c.args.piece.now _ same c.in-Ok.ensures.used c.in-Ok.ensures.front c.in-Ok.ensures.whole,
      none_gained _ _ c.args.piece.now c.if-fed-eq0.true,
    )

pub invariant_of-self-in-Err-Length : goal.invariant_of-self-in-Err-Length
invariant_of-self-in-Err-Length c = (
  c.self.invariant.0,
  record {
    offset = c.self.invariant.1.offset;
    progress = partial_front _ (subst (λ (h : Held). IsPartial h.octets) (sym c.self.view_is) c.requires.partial);
  },
)
