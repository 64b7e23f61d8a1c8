-- A side that listens: it has begun and has requested no restart, so the other receives all that it has sent.
-- For each call and each unit of such a side.
use Rattle.osi_machine.proofs.Vocabulary.{State, Bool, ap, arith, false, inl, inr, not, refl, sym, true, ◌||◌, ◌∙◌, ◌≡◌, ◌⊎◌, and_from}
use Rattle.osi_machine.proofs.Vocabulary.{not-true, hears, Core, Party, Phase, Token, has, has_right, is_restart_due, is_restarting}
use Rattle.osi_machine.proofs.Vocabulary.{may_hold, available, Owners, turned_owners, is_opening, FunctionalUnits, data_token}
use Rattle.osi_machine.proofs.basics.what_holds_in_each_phase.{by_either, by_test, excluded, implied_two}
use Rattle.osi_machine.proofs.channels.what_every_unit_in_flight_keeps.{due_end, heard_flush, heard_hears, hears_kept}
use Rattle.osi_machine.proofs.channels.a_held_token_keeps_units_out.{flush_open, heard_open}
use Rattle.osi_machine.proofs.invariant.what_holds_of_both_sides.{Half, Stands, flushed, hearing, IsOfProfile}

-- the other does not owe it the answer to a restart
pub none_owed : (o : Owners) (x y : Party) → Half o x y → is_restarting x.session.phase ≡ false → is_restart_due (flushed y x).phase ≡ false
none_owed o x y h asked = search (arith, hears_kept, not-true, implied_two, and_from)

pub none_due_there : (o : Owners) (x y : Party) → Half o x y → Half (turned_owners o) y x → is_restarting x.session.phase ≡ false
    → is_restart_due y.session.phase ≡ true → ⊥
none_due_there o x y a b listens r = grind (arith, due_end y.session x.sent r b.fits, none_owed o x y a listens)

abbrev pub is_open : Phase → Bool
is_open p = not (is_restarting p || is_opening p)

-- what is known of such a side x and of y at the other end
pub record Listens (x y : Party) : Type 0 where
  pub asked : is_restarting x.session.phase ≡ false
  pub begun : is_opening x.session.phase ≡ false
  pub owed : is_restart_due (flushed y x).phase ≡ false
  -- y will have heard all, and x hears until a restart takes effect
  pub all : hearing y x ≡ flushed y x
  pub heeds : hears (hearing x y).phase ≡ true
  -- both have the same units, and the same base
  pub units : (flushed x y).units ≡ x.session.units
  pub there_units : (flushed y x).units ≡ x.session.units
  pub heard_base : (hearing x y).base ≡ x.session.base
  pub base : (flushed x y).base ≡ x.session.base
  pub there_base : (flushed y x).base ≡ x.session.base
  pub same_base : y.session.base ≡ x.session.base ⊎ (is_opening y.session.phase ≡ true)

pub listens : (w : Core) → Stands w → is_open w.own.session.phase ≡ true → Listens w.own w.peer
listens w h p =
    let x = w.own in
    let y = w.peer in
    let asked = excluded is_open is_restarting refl x.session.phase p in
    let begun = excluded is_open is_opening refl x.session.phase p in
    let end = flush_open x.session y.sent begun h.own.fits in
    let owed = none_owed w.owner x y h.own asked in
    let base = sym h.own.meeting.base ∙ end.base in
    record {
      asked = asked;
      begun = begun;
      owed = owed;
      all = heard_flush y.session x.sent h.peer.fits owed;
      heeds = heard_hears x.session y.sent (ap not asked) h.own.fits;
      units = end.units;
      there_units = sym h.own.meeting.units ∙ end.units;
      heard_base = (heard_open x.session y.sent begun h.own.fits).base;
      base = end.base;
      there_base = base;
      same_base = by_test (is_opening y.session.phase)
          (λ e. inr e)
          (λ e. inl (sym (flush_open y.session x.sent e h.peer.fits).base ∙ base));
    }

-- ---- a token that a side holds, or that is not available

abbrev pub HasRight : State → Token → Type 0
HasRight s t = (has s.held t ≡ true) ⊎ (has (available s.units) t ≡ false)

pub right_of : (s : State) (t : Token) → has_right s t ≡ true → HasRight s t
right_of s t h = grind arith

pub no_half : (u : FunctionalUnits) → has (available u) data_token ≡ false → u.half_duplex ≡ false
unfolding available
no_half u h = h

-- half-duplex, if points are selected
pub half : (u : FunctionalUnits) → IsOfProfile u → (u.minor ≡ true) ⊎ (u.major ≡ true) → u.half_duplex ≡ true
half u p k = grind arith

-- the other side will not hold it
pub other_lacks : (w : Core) (t : Token) → Stands w → Listens w.own w.peer → HasRight w.own.session t
    → may_hold (flushed w.peer w.own).phase ≡ true → has (flushed w.peer w.own).held t ≡ false
other_lacks w t h l right hold = grind (arith, by_either, available, h.own.meeting.holds t, h.peer.meeting)
