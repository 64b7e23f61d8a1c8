use Rattle.osi_carrier.proofs.Vocabulary.{Class, Zero, Two, Option, Connect, Local, ℕ, [], ◌≡◌, ◌∙◌, arith, refl, ap}
use Rattle.osi_carrier.proofs.Vocabulary.{State, Standing, TsapIds, Happening, List, Some, happening, joins, linked, opened, accepts}
use Rattle.osi_carrier.proofs.Vocabulary.{packets, Event, confirm, map, map-append, ◌+◌, ◌++◌, ◌∷◌}
use Rattle.osi_carrier.specs.Negotiation.{acceptance, opened_link}
use Rattle.osi_carrier.specs.React.{tsaps_of}
use Rattle.osi_carrier.specs.contracts.switch.Switch.{the_view}
use Rattle.osi_carrier.proofs.written.what_needs_memory_does_something.{accepts_grows, on_want}
use Rattle.osi_carrier.proofs.switch.Switch.accept.Goals as goal

pub returns-in_err-reserve-clause-needs : goal.returns-in_err-reserve-clause-needs
returns-in_err-reserve-clause-needs c = search (arith, on_want, accepts_grows)

pub returns-in_err-enter-clause-needs : goal.returns-in_err-enter-clause-needs
returns-in_err-enter-clause-needs c = search (arith, on_want, accepts_grows)

pub returns-in_err-put_confirm-clause-needs : goal.returns-in_err-put_confirm-clause-needs
returns-in_err-put_confirm-clause-needs c = search (arith, on_want, accepts_grows)

pub returns-in_err-make_first_room-clause-needs : goal.returns-in_err-make_first_room-clause-needs
returns-in_err-make_first_room-clause-needs c = search (arith, on_want, accepts_grows)

no_user : (class : Class) (size : Option ℕ) (c : Connect) (local : Local) (r : ℕ) → (acceptance class size c local r).user ≡ []
no_user Zero size c local r = refl
no_user Two size c local r = refl

pub put_confirm-requires-clause-user : goal.put_confirm-requires-clause-user
put_confirm-requires-clause-user c =
    ap (λ (x : Connect). x.user) c.acceptance-confirm.ensures.content ∙ no_user c.args.class _ _ _ _

told_more : (e : Event) (x y z : List Event) → x ≡ y ++ e ∷ [] → y ≡ z → map happening x ≡ map happening z ++ happening e ∷ []
told_more e x y z h k = rw (h, k) (map-append happening z (e ∷ []))

accepted : (class : Class) (size : Option ℕ) (c : Connect) (s old mid : State) (link : Standing) (ids : TsapIds) (d : ℕ) (k : Connect)
    (out : List ℕ) (events : List Happening) → old ≡ s → link ≡ opened_link class size old.local c.credit → ids ≡ tsaps_of c →
    d ≡ c.source → k ≡ acceptance class size c old.local (old.given + 1) → mid ≡ joins (old.given + 1) (linked c.source link) ids old →
    out ≡ mid.outgoing ++ packets (confirm d k ∷ []) → events ≡ mid.events ++ opened (old.given + 1) ∷ [] →
    record mid { class = Some class; given = old.given + 1; outgoing = out; events = events } ≡ (accepts class size c s).state
accepted class size c s old mid link ids d k out events e l i f g m o v = rw (v, o, m, g, f, i, l, e) refl

pub returns-clause-ok : goal.returns-clause-ok
returns-clause-ok c =
    let same = ap (λ (l : List ℕ). record (the_view c.self.inside) { outgoing = l }) c.make_first_room.ensures ∙ c.self.view_is in
    accepted c.args.class _ _ c.args.self.now _ (the_view c.self-2.inside) _ _ _ _ _ _ same c.opened_link-link.ensures.value c.of.ensures
    c.acceptance-confirm.ensures.destination c.acceptance-confirm.ensures.content (c.self-2.view_is ∙ c.in_ok-enter.ensures.ok)
    c.in_ok-put_confirm.ensures.ok (told_more _ _ _ _ c.tell.ensures c.reserve.ensures.items)
