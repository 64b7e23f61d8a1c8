use Rattle.std.proofs.Common.{arith, inl, take, vec_len}
use Rattle.osi_tpkt.proofs.what_a_cutter_holds.{going_on, kept_sound, taken_sound, taken_whole}
use Rattle.osi_tpkt.proofs.cutting.Cutter.take_whole.Goals as goal

pub returns-clause-partial : goal.returns-clause-partial
returns-clause-partial c =
    (going_on _ _ _ _ _ (inl c.in-Awaited.is) c.self.invariant.1 c.self.view_is).1

pub returns-clause-taken : goal.returns-clause-taken
returns-clause-taken c =
    taken_whole c.self.inside.offset c.in_ok-used.used (vec_len c.self.inside.storage) (vec_len c.put_first.new.storage)
    (take c.self.inside.held c.self.inside.storage.items) c.args.piece.now c.put_first.new.storage.items c.self.inside.progress
    c.args.self.now
    c.in-Awaited.is c.self.invariant.1 c.self.view_is c.in_ok-used.ensures.within c.in_ok-used.ensures.front c.in_ok-used.ensures.full
    c.in_ok-used.ensures.octets c.put_first.ensures.room

pub returns-clause-sound : goal.returns-clause-sound
returns-clause-sound c = grind (arith, kept_sound, taken_sound, returns-clause-taken)
