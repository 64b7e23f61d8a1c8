-- An answer keeps the invariant: nothing is in flight to its side, and the other, which waits for it, takes it.
-- For Accept and RestartConfirm.
use Rattle.osi_machine.proofs.Vocabulary.{State, Bool, List, [], ap, arith, false, if◌then◌else◌, not, refl, subst, sym, true, ◌&&◌, ◌++◌}
use Rattle.osi_machine.proofs.Vocabulary.{◌||◌, ◌∙◌, ◌∷◌, ◌≡◌, append-nil, Fits, data_in, flush, heard, heard_view, needs_token, stops}
use Rattle.osi_machine.proofs.Vocabulary.{Core, Meaning, Phase, Ready, Token, becomes, data_token, drops, has, is_answering, is_restart_due}
use Rattle.osi_machine.proofs.Vocabulary.{is_restarting, no_token, available, AreNumberedFrom, Item, Absent, Own, Owner, ToThem, is_absent}
use Rattle.osi_machine.proofs.Vocabulary.{is_own, is_to_own, settled_by, turned_owner, turned_owners, AreConsistent, seen}
use Rattle.osi_machine.proofs.basics.what_holds_in_each_phase.{excluded}
use Rattle.osi_machine.proofs.channels.a_unit_is_dropped_bad_or_acted_on.{next_acted}
use Rattle.osi_machine.proofs.channels.what_every_unit_in_flight_keeps.{data_append, fit_append, flush_append, heard_append}
use Rattle.osi_machine.proofs.channels.what_every_unit_in_flight_keeps.{list_any_append, view_append}
use Rattle.osi_machine.proofs.channels.a_deaf_side_acts_on_nothing.{AllEmpty, all_empty, empty_end, empty_heard, empty_view, empty_laws}
use Rattle.osi_machine.proofs.channels.a_held_token_keeps_units_out.{none_held}
use Rattle.osi_machine.proofs.invariant.what_holds_of_both_sides.{Counting, Half, IsOfProfile, Stands, Views, hearing, matched}
use Rattle.osi_machine.proofs.calls.a_call_and_its_unit.{after_sending, here, only, there}

-- ---- a side that owes an answer to a CN or to a restart

abbrev pub owes_answer : Phase → Bool
owes_answer p = is_answering p || is_restart_due p

-- nothing is in flight to it
pub record Quiet (w : Core) : Type 0 where
  pub none : AllEmpty w.peer.sent
  pub end : here w ≡ w.own.session
  pub all : hearing w.own w.peer ≡ w.own.session
  pub meets : matched w.own.session.phase (there w).phase ≡ true
  pub there_units : (there w).units ≡ w.own.session.units

pub quiet : (w : Core) → Stands w → owes_answer w.own.session.phase ≡ true → Quiet w
quiet w h owes =
    let none = all_empty w.own.session w.peer.sent (λ u p. grind arith)
    (excluded owes_answer is_restarting refl w.own.session.phase owes) h.own.fits in
    let end = empty_end w.own.session w.peer.sent none in
    record {
      none = none;
      end = end;
      all = empty_heard w.own.session w.peer.sent none;
      meets = subst (λ (s : State). matched s.phase (there w).phase ≡ true) end h.own.meeting.meets;
      there_units = sym h.own.meeting.units ∙ ap (λ (s : State). s.units) end;
    }

-- ---- the owners: h is whether this side holds a token, a whether it is available

abbrev given : Bool → Bool → Owner
given h a = if h then Own else if a then ToThem else Absent

their_held : (h a : Bool) → false ≡ is_own (turned_owner (given h a))
their_held h a = grind arith

their_wanted : (h a : Bool) → (a && not h) ≡ (is_own (turned_owner (given h a)) || is_to_own (turned_owner (given h a)))
their_wanted h a = grind arith

their_absent : (h a : Bool) → (h ≡ true → a ≡ true) → a ≡ false → is_absent (turned_owner (given h a)) ≡ true
their_absent h a f e = grind arith

-- ---- the conditions: this side is r after the call, and m is the answer

pub record Settles (w : Core) (r : State) (m : Meaning) : Type 0 where
  pub side : Quiet w
  pub fits : Fits (there w) m
  pub acts : drops (there w) m ≡ false
  pub stays : stops (there w) m ≡ false
  pub owed : is_restart_due (there w).phase ≡ false
  pub due : is_restart_due w.peer.session.phase ≡ false
  -- both are ready then, with the same units and base
  pub ready : r.phase ≡ Ready
  pub then_ready : (becomes (there w) m).phase ≡ Ready
  pub units : (becomes (there w) m).units ≡ r.units
  pub base : (becomes (there w) m).base ≡ r.base
  pub caller : r.is_caller ≡ w.own.session.is_caller
  pub profile : IsOfProfile r.units
  pub duplex : r.units.duplex ≡ true → w.own.session.units.duplex ≡ true
  pub half : r.units.half_duplex ≡ true → w.own.session.units.half_duplex ≡ true
  -- each has its tokens
  pub held : (t : Token) → has r.held t ≡ true → has (available r.units) t ≡ true
  pub then_held : (t : Token) → has (becomes (there w) m).held t ≡ (has (available r.units) t && not (has r.held t))
  pub bare : w.peer.session.held ≡ no_token
  -- and has seen all
  pub shows : (v : List Item) → seen (there w) m v ≡ v
  pub silent : data_in m ≡ []
  pub needs : needs_token data_token m ≡ false
  pub saw : w.own.view ≡ w.history
  pub other_saw : heard_view w.peer.session w.own.sent w.peer.view ≡ w.history
  pub numbered : AreNumberedFrom r.base w.history
  pub own_counts : Counting r r (becomes (there w) m) w.peer.session
  pub peer_counts : Counting w.peer.session (becomes (there w) m) r r

module _ (w : Core) (r : State) (m : Meaning) (g : Settles w r m) (h : Stands w) where
  abbrev after : Core
  after = after_sending w r (only m (settled_by r))

  own_end : flush r w.peer.sent ≡ r
  own_end = empty_end r w.peer.sent g.side.none

  own_heard : heard r w.peer.sent ≡ r
  own_heard = empty_heard r w.peer.sent g.side.none

  other_end : flush w.peer.session (w.own.sent ++ m ∷ []) ≡ becomes (there w) m
  other_end = flush_append w.peer.session w.own.sent m ∙ next_acted (there w) m g.acts

  other_heard : heard w.peer.session (w.own.sent ++ m ∷ []) ≡ becomes (there w) m
  other_heard = heard_append w.peer.session w.own.sent m h.peer.fits g.owed ∙ rw g.stays (next_acted (there w) m g.acts)

  -- ---- the two halves

  own_half : Half (settled_by r) after.own w.peer
  own_half = search (arith, empty_laws, other_end, g)

  peer_half : Half (turned_owners (settled_by r)) w.peer after.own
  peer_half =
      search (arith, fit_append, other_end, other_heard, own_end, none_held, their_held, their_wanted, their_absent, g)

  -- ---- what was seen

  own_views : Views after.history after.own w.peer
  own_views = search (arith, empty_view, own_heard, own_end, g, append-nil)

  peer_views : Views after.history w.peer after.own
  peer_views = grind (arith, view_append, other_heard, other_end, g, data_append, append-nil)

  -- ---- the call

  pub settles_stands : AreConsistent after → Stands after
  settles_stands c = record {
    consistent = c;
    own = own_half;
    peer = peer_half;
    own_views = own_views;
    peer_views = peer_views;
    own_counts = rw (own_heard, other_heard) g.own_counts;
    peer_counts = rw (own_heard, other_heard) g.peer_counts;
    pair = grind (arith, own_end, g, append-nil, list_any_append);
  }
