-- A call that moves the phase, the numbers or the tokens of its side: the conditions under which it keeps the invariant.
-- For all calls but Accept and those that request a restart or answer one.
use Rattle.osi_machine.proofs.Vocabulary.{list_any, State, Meaning, may_hold, is_restarting, is_restart_due, has_no_effect}
use Rattle.osi_machine.proofs.Vocabulary.{passes_restarting, restarted_at, becomes, stands, drops, next, Good, Item, seen, is_plain, Fits}
use Rattle.osi_machine.proofs.Vocabulary.{AllFit, flush, stops, heard, view_next, heard_view, or_parts, append-nil, data_token, lower}
use Rattle.osi_machine.proofs.Vocabulary.{is_answering, is_connecting, is_release_due, is_releasing, AreNumberedFrom, turned_owners, hears}
use Rattle.osi_machine.proofs.Vocabulary.{data_in, needs_token, Party, Core, AreConsistent, and_from, Phase, ◌≡◌, refl, sym, ◌∙◌, ap, subst}
use Rattle.osi_machine.proofs.Vocabulary.{ℕ, Bool, true, false, not, ◌&&◌, ◌||◌, List, [], ◌∷◌, ◌⊎◌, inl, inr, arith, ◌≤◌, ◌<◌, ◌++◌}
use Rattle.osi_machine.proofs.Vocabulary.{append_assoc, or_right, Numbers, Owners, both_ways, minor_confirmed}
use Rattle.osi_machine.proofs.basics.what_holds_in_each_phase.{excluded, by_test, implied_both, implied_two, by_either, every, implied}
use Rattle.osi_machine.proofs.basics.what_a_restart_leaves_of_a_history.{cut_append}
use Rattle.osi_machine.proofs.channels.a_unit_is_dropped_bad_or_acted_on.{next_acted, next_dropped, restart_acted, next_cases, next_hears}
use Rattle.osi_machine.proofs.channels.what_every_unit_in_flight_keeps.{due_end, fit_append, flush_append, heard_append, view_append}
use Rattle.osi_machine.proofs.channels.what_every_unit_in_flight_keeps.{data_append}
use Rattle.osi_machine.proofs.channels.a_deaf_side_acts_on_nothing.{not_both, after_due, empty_fits}
use Rattle.osi_machine.proofs.channels.a_held_token_keeps_units_out.{is_lively}
use Rattle.osi_machine.proofs.invariant.what_holds_of_both_sides.{flushed, hearing, matched, Half, Views, Counts, IsOfProfile, Stands}
use Rattle.osi_machine.proofs.invariant.what_holds_of_both_sides.{phase_there, Tokens_of}
use Rattle.osi_machine.proofs.invariant.a_side_that_listens.{listens, none_due_there, Listens, is_open}

-- all but phase, numbers and tokens is the same
pub record Still (s r : State) : Type 0 where
  pub units : r.units ≡ s.units
  pub wishes : r.wishes ≡ s.wishes
  pub proposed : r.proposed ≡ s.proposed
  pub base : r.base ≡ s.base
  pub is_caller : r.is_caller ≡ s.is_caller

pub still : (s : State) → Still s s
still s = assumption

-- What a change makes of a good unit, if inv is true before: it stays good, and leads to the same state before the change and
-- after it.
pub record Moved (to : State → State) (inv : State → Type 0) (s : State) (u : Meaning) : Type 0 where
  pub good : Good (to s) u
  pub step : stops s u ≡ false → (becomes (to s) u ≡ to (becomes s u)) × inv (becomes s u)

-- such a change, and the units that never arrive (never)
pub record Shift : Type 1 where
  pub never : Meaning → Bool
  pub to : State → State
  pub inv : State → Type 0
  pub holds : (s : State) → inv s → may_hold s.phase ≡ true
  pub holds_after : (s : State) → inv s → may_hold (to s).phase ≡ true
  pub same : (s : State) → inv s → Still s (to s)
  pub release : (s : State) → inv s → is_release_due (to s).phase ≡ true → is_release_due s.phase ≡ true
  pub releasing : (s r : State) → inv s → inv r → is_releasing (to s).phase ≡ true → is_releasing (to r).phase ≡ true
  pub moves : (s : State) (u : Meaning) → inv s → never u ≡ false → is_plain u ≡ true → has_no_effect u ≡ false → Good s u
      → Moved to inv s u

abbrev pub in_phase : Phase → State → State
in_phase p s = record s { phase = p }

-- what is good is so in the phase that it is known to be
pub good_in : (p : Phase) (s : State) (u : Meaning) → s.phase ≡ p → Good s u → Good (in_phase p s) u
good_in p s u e g = search arith

-- a change from one phase to another, and of the numbers
abbrev pub moved_to : Phase → (Numbers → Numbers) → State → State
moved_to p f s = record s { phase = p; numbers = f s.numbers }

abbrev pub confirmed_at : ℕ → State → State
confirmed_at n s = record s { numbers = minor_confirmed n s.numbers }

abbrev pub from_phase : Phase → (State → Type 0) → State → Type 0
from_phase q more s = (s.phase ≡ q) × more s

abbrev pub phase_shift : (q p : Phase) (f : Numbers → Numbers) (never : Meaning → Bool) (more : State → Type 0) → may_hold q ≡ true
    → may_hold p ≡ true → is_release_due p ≡ false
    → ((s : State) (u : Meaning) → s.phase ≡ q → more s → never u ≡ false → is_plain u ≡ true → has_no_effect u ≡ false
    → Good (in_phase q s) u → Moved (moved_to p f) (from_phase q more) s u) → Shift
phase_shift q p f never more hold holds owes moves = record {
  never = never;
  to = moved_to p f;
  inv = from_phase q more;
  holds = λ s i. ap may_hold i.0 ∙ hold;
  holds_after = λ s i. holds;
  same = λ s i. assumption;
  release = λ s i r. absurd (both_ways (is_release_due p) owes r);
  releasing = λ s r i j e. e;
  moves = λ s u i n p e g. moves s u i.0 i.1 n p e (good_in q s u i.0 g);
}

-- a change of tokens or numbers of a side that has requested no release
abbrev pub lively_shift : (to : State → State) (inv : State → Type 0) → ((s : State) → inv s → is_lively s.phase ≡ true)
    → ((s : State) → (to s).phase ≡ s.phase) → ((s : State) → Still s (to s))
    → ((s : State) (u : Meaning) → inv s → is_plain u ≡ true → Good s u → Moved to inv s u) → Shift
lively_shift to inv lively phase same moves = record {
  never = λ u. false;
  to = to;
  inv = inv;
  holds = λ s i. implied is_lively may_hold refl s.phase (lively s i);
  holds_after = λ s i. ap may_hold (phase s) ∙ implied is_lively may_hold refl s.phase (lively s i);
  same = λ s i. same s;
  release = λ s i r. ap is_release_due (sym (phase s)) ∙ r;
  releasing = λ s r i j e. absurd (both_ways (is_releasing (to s).phase)
      (ap is_releasing (phase s) ∙ excluded is_lively is_releasing refl s.phase (lively s i)) e);
  moves = λ s u i n p e g. moves s u i p g;
}

-- both owe the answer to the same restart
pub record Due (s r : State) : Type 0 where
  pub due : is_restart_due s.phase ≡ true
  pub other : is_restart_due r.phase ≡ true
  pub same : Still s r
  pub next : r.numbers.next ≡ s.numbers.next

abbrev pub Shifted : Shift → State → State → Type 0
Shifted k s r = ((r ≡ k.to s) × k.inv s) ⊎ Due s r

-- ---- sides that listen discard the same, and show the same

pub same_drops : (s r : State) (u : Meaning) → is_restarting s.phase ≡ false → is_restarting r.phase ≡ false → drops r u ≡ drops s u
same_drops s r u h k = rw (h, k) refl

pub listening_stands : (s : State) (n : ℕ) → is_restarting s.phase ≡ false → stands s n ≡ true
unfolding stands
listening_stands s n h = rw h refl

same_stops : (s r : State) (u : Meaning) → is_restarting s.phase ≡ false → is_restarting r.phase ≡ false → stops r u ≡ stops s u
same_stops s r u h k = grind (arith, listening_stands)

pub same_view : (s r : State) (u : Meaning) (v : List Item) → is_restarting s.phase ≡ false → is_restarting r.phase ≡ false → Still s r
    → view_next r u v ≡ view_next s u v
same_view s r u v h k e = grind (arith, same_drops, listening_stands)

pub inv_listens : (k : Shift) (s : State) → k.inv s → is_restarting s.phase ≡ false
inv_listens k s i = excluded may_hold is_restarting refl s.phase (k.holds s i)

pub after_listens : (k : Shift) (s : State) → k.inv s → is_restarting (k.to s).phase ≡ false
after_listens k s i = excluded may_hold is_restarting refl (k.to s).phase (k.holds_after s i)

pub shifted_still : (k : Shift) (s r : State) → Shifted k s r → Still s r
shifted_still k s r (inl (e, i)) = subst (Still s) (sym e) (k.same s i)
shifted_still k s r (inr d) = d.same

-- a restart that takes effect leaves both the same except for V(A), V(R) and the flag
stood_due : (s r : State) (u : Meaning) → stops s u ≡ true → stops r u ≡ true → Still s r → Due (becomes s u) (becomes r u)
unfolding restarted_at
stood_due s r u p q e = search arith

inv_fits : (k : Shift) (s : State) (u : Meaning) → k.inv s → k.never u ≡ false → Fits s u → Fits (k.to s) u
inv_fits k s u i n f = record {
  plain = f.plain;
  good = λ d.
      let e = sym (same_drops s (k.to s) u (inv_listens k s i) (after_listens k s i)) ∙ d in
      (k.moves s u i n f.plain (or_parts (has_no_effect u) (is_restarting s.phase && not (passes_restarting u)) e).0 (f.good e)).good;
}

inv_next : (k : Shift) (s : State) (u : Meaning) → k.inv s → k.never u ≡ false → Fits s u → stops s u ≡ false
    → (next (k.to s) u ≡ k.to (next s u)) × k.inv (next s u)
inv_next k s u i n f st =
    let both : drops (k.to s) u ≡ drops s u = same_drops s (k.to s) u (inv_listens k s i) (after_listens k s i) in
    by_test (drops s u)
    (grind (arith, next_dropped))
    (λ d.
    let effect = (or_parts (has_no_effect u) (is_restarting s.phase && not (passes_restarting u)) d).0 in
    let m = (k.moves s u i n f.plain effect (f.good d)).step st in
    grind (arith, next_acted))

stood_next : (k : Shift) (s : State) (u : Meaning) → k.inv s → stops s u ≡ true → Due (next s u) (next (k.to s) u)
stood_next k s u i st =
    let there = same_stops s (k.to s) u (inv_listens k s i) (after_listens k s i) ∙ st in
    rw (next_acted s u (restart_acted s u st), next_acted (k.to s) u (restart_acted (k.to s) u there))
    (stood_due s (k.to s) u st there (k.same s i))

-- if both owe the answer, only what is discarded fits
due_fits : (s r : State) (us : List Meaning) → Due s r → AllFit s us → AllFit r us
due_fits s r us d f = empty_fits r us (after_due s us d.due f)

-- ---- all that is in flight

pub record Shifts (k : Shift) (s : State) (us : List Meaning) : Type 0 where
  pub fits : AllFit (k.to s) us
  pub flush : Shifted k (flush s us) (flush (k.to s) us)
  pub heard : (heard (k.to s) us ≡ k.to (heard s us)) × k.inv (heard s us)
  -- what is seen is the same
  pub view : (v : List Item) → heard_view (k.to s) us v ≡ heard_view s us v

module _ (k : Shift) (s : State) (u : Meaning) (us : List Meaning) (i : k.inv s) (n : k.never u ≡ false) (f : Fits s u) where
  same_stop : stops (k.to s) u ≡ stops s u
  same_stop = same_stops s (k.to s) u (inv_listens k s i) (after_listens k s i)

  goes_on : stops s u ≡ false → Shifts k (next s u) us → Shifts k s (u ∷ us)
  goes_on st m =
      let p = inv_next k s u i n f st in
      record {
        fits = (inv_fits k s u i n f, rw p.0 m.fits);
        flush = rw p.0 m.flush;
        heard = rw (same_stop, st, p.0) m.heard;
        view = λ v. rw (same_stop, st, p.0, same_view s (k.to s) u v (inv_listens k s i) (after_listens k s i) (k.same s i))
            (m.view (view_next s u v));
      }

  stops_here : stops s u ≡ true → AllFit (next s u) us → Shifts k s (u ∷ us)
  stops_here st more =
      let d = stood_next k s u i st in
      grind (arith, same_stop, inv_fits, due_end, due_fits)

pub shifts : (k : Shift) (s : State) (us : List Meaning) → k.inv s → list_any k.never us ≡ false → AllFit s us → Shifts k s us
shifts k s [] i n f = record { fits = tt; flush = inl (refl, i); heard = (refl, i); view = λ v. refl }
shifts k s (u ∷ us) i n f =
    let no = or_parts (k.never u) (list_any k.never us) n in
    by_test (stops s u)
    (λ st. stops_here k s u us i no.0 f.0 st f.1)
    (λ st. goes_on k s u us i no.0 f.0 st (shifts k (next s u) us (inv_next k s u i no.0 f.0 st).1 no.1 f.1))

-- if nothing is excluded
pub none_never : (us : List Meaning) → list_any (λ u. false) us ≡ false
none_never [] = refl
none_never (u ∷ us) = none_never us

-- ---- the call and its unit

-- the unit, what the call adds to the history and says with duplex, and the owners after it
pub record Sent : Type 0 where
  pub unit : Meaning
  pub adds : List Item
  pub says : List (List ℕ)
  pub owner : Owners

-- if nothing is added
abbrev pub only : Meaning → Owners → Sent
only m o = record { unit = m; adds = []; says = []; owner = o }

-- the connection after the call
abbrev pub sender : Party → State → Sent → Party
sender x r a = record { session = r; view = x.view ++ a.adds; said = x.said ++ a.says; got = x.got; sent = x.sent ++ a.unit ∷ [] }

abbrev pub after_sending : Core → State → Sent → Core
after_sending w r a = record { history = w.history ++ a.adds; owner = a.owner; own = sender w.own r a; peer = w.peer }

-- this side when it has taken all, before the call and after it; the other, before the unit and after it
abbrev pub here : Core → State
here w = flushed w.own w.peer

abbrev pub here_after : Core → Shift → State
here_after w k = flush (k.to w.own.session) w.peer.sent

abbrev pub there : Core → State
there w = flushed w.peer w.own

abbrev pub there_after : Core → Meaning → State
there_after w m = next (there w) m

-- the conditions on the unit by itself
pub record IsUnit (m : Meaning) : Type 0 where
  pub plain : is_plain m ≡ true
  pub effect : has_no_effect m ≡ false
  pub waits : passes_restarting m ≡ false
  pub quiet : (s : State) → stops s m ≡ false
  pub keeps : (s : State) → Still s (becomes s m)

pub record Sends (w : Core) (k : Shift) (m : Meaning) : Type 0 where
  pub now : k.inv w.own.session
  pub none : list_any k.never w.peer.sent ≡ false
  pub unit : IsUnit m

-- the other has asked for a restart, and discards the unit; or acts on it
record Deaf (w : Core) (k : Shift) (m : Meaning) : Type 0 where
  asked : is_restarting (there w).phase ≡ true
  due : Due (here w) (here_after w k)
  same : there_after w m ≡ there w

record Acts (w : Core) (k : Shift) (m : Meaning) : Type 0 where
  heeds : is_restarting (there w).phase ≡ false
  inv : k.inv (here w)
  here_is : here_after w k ≡ k.to (here w)
  same : there_after w m ≡ becomes (there w) m
  acts : drops (there w) m ≡ false

-- what follows
record Course (w : Core) (k : Shift) (m : Meaning) : Type 0 where
  runs : Shifts k w.own.session w.peer.sent
  side : Listens w.own w.peer
  sides : Deaf w k m ⊎ Acts w k m
  own : Still (here w) (here_after w k)
  other : Still (there w) (there_after w m)

pub drops_waiting : (s : State) (m : Meaning) → is_restarting s.phase ≡ true → passes_restarting m ≡ false → drops s m ≡ true
drops_waiting s m h k = grind arith

acts_listening : (s : State) (m : Meaning) → is_restarting s.phase ≡ false → has_no_effect m ≡ false → drops s m ≡ false
acts_listening s m h k = rw (k, h) refl

-- a side that listens after a unit listened before
pub hears_there : (s : State) (m : Meaning) → passes_restarting m ≡ false → not (is_restarting (next s m).phase) ≡ true
    → is_restarting s.phase ≡ false
hears_there s m w l = grind arith

course : (w : Core) (k : Shift) (m : Meaning) → Sends w k m → Stands w → Course w k m
course w k m g h =
    let runs = shifts k w.own.session w.peer.sent g.now g.none h.own.fits in
    record {
      runs = runs;
      side = listens w h (implied may_hold is_open refl w.own.session.phase (k.holds w.own.session g.now));
      sides = by_either runs.flush
          (λ z. let l = phase_there may_hold (λ q. not (is_restarting q)) refl h.own (k.holds (here w) z.1) in
          grind (arith, acts_listening, next_acted))
          (λ d. grind (arith, next_dropped, drops_waiting, phase_there is_restart_due is_restarting refl h.own d.due));
      own = shifted_still k (here w) (here_after w k) runs.flush;
      other = next_cases (Still (there w)) (there w) m (λ d. still (there w)) (λ d. g.unit.keeps (there w));
    }

-- a holder of tokens after the unit was one before
held_there : (w : Core) (k : Shift) (m : Meaning) → Course w k m → Stands w → may_hold (there_after w m).phase ≡ true
    → may_hold (there w).phase ≡ true
held_there w k m c h may = by_either c.sides
    (λ d. ap (λ (q : State). may_hold q.phase) (sym d.same) ∙ may)
    (λ a. phase_there may_hold may_hold refl h.own (k.holds (here w) a.inv))

-- so it acts on the unit
pub acts_held : (w : Core) (k : Shift) (m : Meaning) → Sends w k m → Stands w → may_hold (there_after w m).phase ≡ true
    → (may_hold (there w).phase ≡ true) × (there_after w m ≡ becomes (there w) m)
acts_held w k m g h may =
    let c = course w k m g h in
    let hold = held_there w k m c h may in
    (hold, next_acted (there w) m (acts_listening (there w) m (excluded may_hold is_restarting refl (there w).phase hold) g.unit.effect))

-- ---- the conditions: the numbers, the tokens, and what is added

pub record NumbersAfter (w : Core) (k : Shift) (m : Meaning) : Type 0 where
  pub flag : (k.to w.own.session).numbers.answers ≡ true → (there_after w m).numbers.answers ≡ false
  pub below : hears (there_after w m).phase ≡ true → (n : ℕ) → (k.to (hearing w.own w.peer)).base ≤ n
      → n < (k.to (hearing w.own w.peer)).numbers.confirmed → n < w.peer.session.numbers.next
  pub reach : w.peer.session.numbers.answers ≡ true
      → lower w.peer.session.numbers.next (k.to (hearing w.own w.peer)).numbers.confirmed ≤ w.peer.session.numbers.confirmed
  pub other_flag : w.peer.session.numbers.answers ≡ true → (k.to (hearing w.own w.peer)).numbers.answers ≡ false
  pub other_below : (n : ℕ) → (there w).base ≤ n → n < (there_after w m).numbers.confirmed → n < (k.to w.own.session).numbers.next
  pub other_reach : (k.to w.own.session).numbers.answers ≡ true
      → lower (k.to w.own.session).numbers.next (there_after w m).numbers.confirmed ≤ (k.to w.own.session).numbers.confirmed

pub record TokensAfter (w : Core) (k : Shift) (m : Meaning) (o : Owners) : Type 0 where
  pub own : Tokens_of o (k.to w.own.session) (here w) (k.to (hearing w.own w.peer))
  pub peer : Tokens_of (turned_owners o) w.peer.session (there w) (there_after w m)

pub record Adds (w : Core) (a : Sent) : Type 0 where
  pub shows : (v : List Item) → seen (there w) a.unit v ≡ v ++ a.adds
  pub sees : hears (hearing w.own w.peer).phase ≡ true → heard_view w.own.session w.peer.sent (w.own.view ++ a.adds) ≡ w.history ++ a.adds
  pub duplex : (here w).units.duplex ≡ true → a.adds ≡ []
  pub says : (there w).units.duplex ≡ true → data_in a.unit ≡ a.says
  pub numbered : AreNumberedFrom (here w).base w.history → AreNumberedFrom (here w).base (w.history ++ a.adds)

pub record Sending (w : Core) (k : Shift) (a : Sent) : Type 0 where
  pub sends : Sends w k a.unit
  pub good : is_restarting (there w).phase ≡ false → k.inv (here w) → Good (there w) a.unit
  pub meets : is_restarting (there w).phase ≡ false → k.inv (here w)
      → matched (k.to (here w)).phase (becomes (there w) a.unit).phase ≡ true
  pub adds : Adds w a
  pub numbers : NumbersAfter w k a.unit
  pub tokens : TokensAfter w k a.unit a.owner
  pub one_way : (here w).units.half_duplex ≡ true
      → (list_any (needs_token data_token) (w.own.sent ++ a.unit ∷ []) && list_any (needs_token data_token) w.peer.sent) ≡ false

-- ---- they are met by a call that adds nothing, changes no number, or moves no token

pub adds_nothing : (w : Core) (m : Meaning) (o : Owners) → Stands w → ((s : State) (v : List Item) → seen s m v ≡ v) → data_in m ≡ []
    → Adds w (only m o)
adds_nothing w m o h shows silent = record {
  shows = λ v. shows (there w) v ∙ sym (append-nil v);
  sees = λ l. ap (heard_view w.own.session w.peer.sent) (append-nil w.own.view) ∙ h.own_views.ends l ∙ sym (append-nil w.history);
  duplex = λ d. refl;
  says = λ d. silent;
  numbered = λ p. subst (AreNumberedFrom (here w).base) (sym (append-nil w.history)) p;
}

module _ (w : Core) (k : Shift) (m : Meaning) (g : Sends w k m) (h : Stands w) where
  pub numbers_stay : ((s : State) → (k.to s).numbers ≡ s.numbers) → ((s : State) → (becomes s m).numbers ≡ s.numbers) → NumbersAfter w k m
  numbers_stay same other =
      let c = course w k m g h in
      let base = (k.same (hearing w.own w.peer) c.runs.heard.1).base in
      let then_numbers : (there_after w m).numbers ≡ (there w).numbers =
      next_cases (λ q. q.numbers ≡ (there w).numbers) (there w) m (λ d. refl) (λ d. other (there w)) in
      let listens = hears_there (there w) m g.unit.waits in
      record {
        flag = grind (arith, c.side.all, then_numbers, same w.own.session, h.own_counts.flag);
        below = λ l n from to. h.own_counts.below (rw c.side.all (ap not (listens l))) n (rw base at from)
            (rw (same (hearing w.own w.peer)) at to);
        reach = rw (same (hearing w.own w.peer)) h.own_counts.reach;
        other_flag = rw (same (hearing w.own w.peer)) h.peer_counts.flag;
        other_below = λ n from to. rw (same w.own.session) (h.peer_counts.below c.side.heeds n (rw c.side.all from)
            (rw (c.side.all, ← then_numbers) to));
        other_reach = rw (same w.own.session, then_numbers, ← c.side.all) h.peer_counts.reach;
      }

  pub tokens_stay : ((s : State) → (k.to s).held ≡ s.held) → ((s : State) → (becomes s m).held ≡ s.held) → TokensAfter w k m w.owner
  tokens_stay same other =
      let c = course w k m g h in
      let then_held : (there_after w m).held ≡ (there w).held =
      next_cases (λ q. q.held ≡ (there w).held) (there w) m (λ d. refl) (λ d. other (there w)) in
      let holds = k.holds (hearing w.own w.peer) c.runs.heard.1 in
      let held = held_there w k m c h in
      search (arith, c.side.all, held, then_held, same w.own.session, same (hearing w.own w.peer))

-- ---- the invariant is kept

module _ (w : Core) (k : Shift) (a : Sent) (g : Sending w k a) (h : Stands w) where
  abbrev caller : Party
  caller = sender w.own (k.to w.own.session) a

  known : Course w k a.unit
  known = course w k a.unit g.sends h

  other_fits : Fits (there w) a.unit
  other_fits = search (arith, by_either, known.sides, drops_waiting)

  meets_after : matched (here_after w k).phase (there_after w a.unit).phase ≡ true
  meets_after = by_either known.sides
      (λ d. rw d.same (implied_two (λ p q. is_restart_due p && is_restarting q) matched refl (here_after w k).phase (there w).phase
      (and_from _ _ d.due.other d.asked)))
      (grind (arith, matched))

  other_end : flush w.peer.session (w.own.sent ++ a.unit ∷ []) ≡ there_after w a.unit
  other_end = flush_append w.peer.session w.own.sent a.unit

  other_heard : heard w.peer.session (w.own.sent ++ a.unit ∷ []) ≡ there_after w a.unit
  other_heard = grind (arith, heard_append, known)

  -- neither of two phases may be one that no side has then
  meets_not : (f : Phase → Bool) → every (λ p. not (may_hold p || is_restart_due p) || not (f p)) ≡ true
      → f (here_after w k).phase ≡ false
  meets_not f e = excluded (λ p. may_hold p || is_restart_due p) f e (here_after w k).phase (by_either known.runs.flush
      (λ z. ap (λ (q : State). may_hold q.phase || is_restart_due q.phase) z.0 ∙ rw (k.holds_after (here w) z.1) refl)
      (λ d. rw d.other (or_right (may_hold (here_after w k).phase) true refl)))

  -- ---- the two halves

  own_half : Half a.owner caller w.peer
  own_half =
      search (
        arith,
        meets_after,
        other_end,
        known,
        meets_not is_restarting refl,
        meets_not is_connecting refl,
        g,
        k.release (hearing w.own w.peer) known.runs.heard.1,
      )

  other_restart : is_restarting (there_after w a.unit).phase ≡ true → ((there_after w a.unit).numbers.next ≡ (here_after w k).numbers.next)
      × ((there_after w a.unit).wishes ≡ (here_after w k).wishes)
  other_restart r = search (arith, by_either, known.sides, not_both, next_hears)

  other_released : is_release_due (there_after w a.unit).phase ≡ true → is_releasing (k.to w.own.session).phase ≡ true
  other_released r = by_either known.runs.flush
      (λ z. k.releasing (here w) w.own.session z.1 g.sends.now (ap (λ (q : State). is_releasing q.phase) (sym z.0) ∙ asks))
      (λ d. absurd (let n = excluded is_restart_due is_releasing refl (here_after w k).phase d.other in let p = asks in cc))
    where
      asks : is_releasing (here_after w k).phase ≡ true
      asks = implied_both matched (λ p q. is_release_due q) (λ p q. is_releasing p) refl (here_after w k).phase
          (there_after w a.unit).phase meets_after r

  peer_half : Half (turned_owners a.owner) w.peer caller
  peer_half = record {
    fits = fit_append w.peer.session w.own.sent a.unit h.peer.fits other_fits;
    meeting = rw (other_end, other_heard) (
        let met = implied_two matched (λ p q. matched q p) refl (here_after w k).phase (there_after w a.unit).phase meets_after in
        let waits = implied_two matched (λ p q. not (is_connecting q) || is_answering p) refl (here_after w k).phase
        (there_after w a.unit).phase meets_after in
        search (
          arith,
          known.own,
          known.other,
          waits,
          meets_not is_answering refl,
          other_restart,
          other_released,
          g.tokens.peer,
          h.peer.meeting,
        ));
  }

  -- ---- what was seen

  own_views : Views (w.history ++ a.adds) caller w.peer
  own_views =
      let heard_own = hearing w.own w.peer in
      let before = inv_listens k heard_own known.runs.heard.1 in
      let after = after_listens k heard_own known.runs.heard.1 in
      let owes = excluded may_hold is_restart_due refl (k.to w.own.session).phase (k.holds_after w.own.session g.sends.now) in
      grind (arith, known, append-nil w.history)

  peer_sees : hears (there_after w a.unit).phase ≡ true
      → heard_view w.peer.session (w.own.sent ++ a.unit ∷ []) w.peer.view ≡ w.history ++ a.adds
  peer_sees l = grind (arith, view_append, known, g.sends.unit, g.adds, h.peer_views.ends, append_assoc)

  peer_views : Views (w.history ++ a.adds) w.peer caller
  peer_views =
      let asked = next_hears (there w) a.unit in
      let due = none_due_there w.owner w.own w.peer h.own h.peer known.side.asked in
      grind (
        arith,
        known.side,
        known.other,
        other_heard,
        other_end,
        peer_sees,
        asked,
        due,
        cut_append,
        data_append,
        append_assoc,
        append-nil,
        g.adds,
      )

  -- ---- the numbers

  own_counts : Counts caller w.peer
  own_counts = rw (other_heard, known.runs.heard.0) (record { flag = g.numbers.flag; below = g.numbers.below; reach = g.numbers.reach })

  peer_counts : Counts w.peer caller
  peer_counts = rw (other_heard, known.runs.heard.0) (record {
    flag = g.numbers.other_flag;
    below = λ l n from. g.numbers.other_below n (subst (λ (b : ℕ). b ≤ n) known.other.base from);
    reach = g.numbers.other_reach;
  })

  -- ---- both at once

  pub sending_stands : AreConsistent (after_sending w (k.to w.own.session) a) → Stands (after_sending w (k.to w.own.session) a)
  sending_stands c = record {
    consistent = c;
    own = own_half;
    peer = peer_half;
    own_views = own_views;
    peer_views = peer_views;
    own_counts = own_counts;
    peer_counts = peer_counts;
    pair = grind (arith, known, g, k.same w.own.session g.sends.now, IsOfProfile);
  }
