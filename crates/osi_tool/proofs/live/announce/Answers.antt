use Rattle.std.proofs.Common.{◌≡◌, List, ℕ, subst, sym}
use Rattle.std.specs.Io.KnownBytes.{Appends}
use Rattle.osi_tool.specs.Show.{BeginsToAppend}
use Rattle.osi_tool.proofs.what_is_certain_is_written.{announced, announced_part, on_failure}
use Rattle.osi_tool.proofs.live.announce.Goals as goal

pub returns-clause-told : goal.returns-clause-told
returns-clause-told g c = λ whole rest k.
    let contents = g.W.Write.contents in
    let old = contents c.args.writer.now in
    let new = contents c.write_text.new.writer in
    announced whole c.in_ok-told.told.items old new (c.in_ok-told.ensures.told whole rest k)
    (subst (λ (t : List ℕ). Appends old new t) c.as_slice.ensures.value c.in_ok-write_text.ensures.written)

pub returns-in_err-write_text-clause-part : goal.returns-in_err-write_text-clause-part
returns-in_err-write_text-clause-part g c =
    let contents = g.W.Write.contents in
    let old = contents c.args.writer.now in
    let new = contents c.write_text.new.writer in
    on_failure c.from_residual-in_err-write_text.result _
    (λ whole rest k. announced_part whole c.in_ok-told.told.items old new (c.in_ok-told.ensures.told whole rest k)
    (subst (λ (t : List ℕ). BeginsToAppend old new t) c.as_slice.ensures.value c.in_err-write_text.ensures.begun))
