-- What one session took is a prefix of what the other sent, and all of it if nothing is in flight.
-- For the laws of `promises`.
use Rattle.osi_tpdu.specs.Writing.{written}
use Rattle.osi_carrier.specs.Coming.{IsSendable}
use Rattle.osi_between.specs.Messages as carrier
use Rattle.osi_machine.specs.Core as machine
use Rattle.osi_machine.specs.Floor.{Meaning}
use Rattle.osi_machine.specs.Sayings.{is_parting}
use Rattle.osi_machine.specs.Worlds as worlds
use Rattle.osi_pair.specs.Promises.{sent_by, kept_at as kept_by}
use Rattle.osi_pair.proofs.Vocabulary.{front_none, ◌≡◌, refl, sym, ◌∙◌, ap, subst, ℕ, ◌<◌, ◌≤◌, Bool, true, false, List, [], ◌∷◌, ◌++◌}
use Rattle.osi_pair.proofs.Vocabulary.{length, map, Option, Some, None, option_map, is_some, arith, unit_packet, units_in, IsHeardAsSaid}
use Rattle.osi_pair.proofs.Vocabulary.{append-nil, AllByRecursion, completed_partial, partial_not_whole, IsPartial, packet_of, Value}
use Rattle.osi_pair.proofs.Vocabulary.{begun_by, kept_in, was_given, place_at, value_at, Connection, linked, packets, Both, Between}
use Rattle.osi_pair.proofs.Vocabulary.{AreBetween, IsOnTheWay, AreJoinedBy, arriving, last_of, lost_from, units_from, under_way, IsStill}
use Rattle.osi_pair.proofs.Vocabulary.{IsAllThere, progress_of, Progress, Terms, terms_of, Step, side_of, turned, Message, Listener}
use Rattle.osi_pair.proofs.Vocabulary.{kept_at, session_at, joined_of, joined_in, End, TwoEnds, end_at, taken_by, AreTakenInOrder}
use Rattle.osi_pair.proofs.Vocabulary.{AreAtRest, IsOpenAt, begun_of, kept_of, IsAllTaken, HoldLess, other, terms_in, is_caller}
use Rattle.osi_pair.proofs.Vocabulary.{transport_in, carriers_of, AreAlike, HasLine, StandsAt, AreUnderWay, word_in, HasJoined, IsInOrder}
use Rattle.osi_pair.proofs.Vocabulary.{Side, Left, Right, EndReason, Word, IsJoinedAs, may_hold, joined_holds, implied, needs_link}
use Rattle.osi_pair.proofs.Vocabulary.{given_live, SessionState as Session, Link as Standing, seen_from, side_in}
use Rattle.osi_pair.proofs.promise.nothing_is_kept_at_rest.{open_across, none_begun, none_joined as all_none_joined}
use Rattle.osi_pair.proofs.turn.what_remains_when_a_unit_was_taken.{order_of, was_at}
use Rattle.osi_pair.proofs.promise.matching_ends_keep_the_promises.{tables_at, line_at, outside_by, within}
use Rattle.osi_pair.proofs.session.a_seat_is_its_progress_and_session.{live_session}
use Rattle.osi_pair.proofs.flight.whether_something_is_cut_off.{cut_none}
use Rattle.osi_pair.proofs.turn.a_turn_keeps_the_match.{seen}
use Rattle.osi_pair.proofs.session.an_end_moves_as_the_tables_do.{none_joined, kept_of as session_kept}

-- what is proved of the tables, and of two carriers
abbrev pub Heard : Type 0
Heard = (side : machine.Side) (r : ℕ) (terms : worlds.Terms) (steps : List Step) → IsHeardAsSaid side r terms steps

abbrev pub Empties : Type 0
Empties = (terms : Terms) (both : Both) (b : Between) (n p q : ℕ) (x y : Standing) → AreBetween terms both b → IsStill both →
    value_at n both.caller.state.live ≡ Some (linked p x) → value_at n both.called.state.live ≡ Some (linked q y) → IsAllThere n both b x y

pub in_order : Heard → (p : TwoEnds) (steps : List Step) → StandsAt p steps → AreTakenInOrder steps p
in_order heard p steps h r =
    let terms = terms_in (terms_of p.left.end.carrier.local p.right.end.carrier.local) in
    ((heard machine.Right r terms steps).begins, (heard machine.Left r terms steps).begins)

-- ---- a connection that is open at both ends

no_words : (words : List Word) → map word_in words ≡ [] → words ≡ []
no_words [] e = refl
no_words (w ∷ words) e = absurd (cc)

-- Nothing is in flight: no message comes any more, and if nothing was cut off, nothing has begun.
none_comes : (o : Option EndReason) (g : Progress) (c : Bool) (H : Option (List ℕ) → Type 0) (x : Session) (ms : List Message)
    (sent : List carrier.Message) → (w : AreUnderWay o g c H x ms sent) → c ≡ false → map word_in w.words ≡ [] → (ms ≡ []) × H None
none_comes o g c H x ms sent w uncut none = grind (arith, no_words)

-- nothing is in flight to an end to which nothing more is handed over, and that holds no whole packet
none_coming : (held arriving : List ℕ) (units lost : List Value) → IsPartial held → arriving ≡ [] → lost ≡ [] →
    IsOnTheWay held arriving units lost → (units ≡ []) × (held ≡ [])
none_coming held arriving units lost part none whole w = by units w.sendable all
  where
    all : held ≡ packets units
    all = sym (append-nil held) ∙ ap (λ (l : List ℕ). held ++ l) (sym none) ∙ w.octets
        ∙ ap (λ (l : List ℕ). packets units ++ l) (front_none w.front w.never (w.rest ∙ ap packets whole)) ∙ append-nil (packets units)

    by : (us : List Value) → AllByRecursion IsSendable us → held ≡ packets us → (us ≡ []) × (held ≡ [])
    by [] sendable e = (refl, e)
    by (u ∷ us) sendable e =
        absurd (partial_not_whole (packet_of (written u)) (completed_partial (packet_of (written u)) (packets us) (subst IsPartial e part))
        (written u, unit_packet u sendable.0))

-- nothing is in flight, so what was taken is all
none_left : (heard said : List Meaning) (ms : List Message) → ms ≡ [] → heard ++ units_in ms ≡ said → heard ≡ said
none_left heard said ms e h = sym (append-nil heard) ∙ ap (λ (us : List Meaning). heard ++ us) (sym (ap units_in e)) ∙ h

-- a connection that is open at both ends, with all that is known of it at rest
record OpenAtBoth (p : TwoEnds) (steps : List Step) (h : StandsAt p steps) (r : ℕ) : Type 0 where
  at : (side : Side) → IsOpenAt r (end_at side p).end
  here : HasLine r p h.now (tables_at p steps)
  there : IsAllThere r (carriers_of p) h.now (at Left).link (at Right).link

none_of : (r : ℕ) (e : End) (l : Listener) → is_some (value_at r e.carrier.live) ≡ true → session_at r e ≡ Some l →
    ((y : Listener) → kept_at r e.lines ≡ Some y → IsJoinedAs y.state y.joined None) → joined_of (session_at r e) ≡ 0
none_of r e l lives is held =
    grind (arith, none_joined l.state l.joined (held l (sym (live_session r e lives) ∙ is)), live_session r e lives)

joined_open : (n : ℕ) (e : End) (l : Listener) → IsInOrder e → e.carrier.ended ≡ None → kept_at n e.lines ≡ Some l →
    is_some l.joined ≡ true → IsOpenAt n e
joined_open n e l order lasts at some =
    let open_now = order.sound.links lasts n l at
    (implied may_hold needs_link refl l.state.phase (joined_holds l (session_kept n l e order at) some)) in
    grind arith

-- ---- two ends at rest, each of which holds less than a packet

module _ (empties : Empties) (p : TwoEnds) (steps : List Step) (h : StandsAt p steps) (held : HoldLess p) (rest : AreAtRest p) where
  none_lost : (from : Bool) → lost_from from h.now ≡ []
  none_lost from = h.stands.between.unbroken (ap (option_map (λ r. (r.left, r.right))) rest.unbroken) from

  rests_at : (side : Side) → (units_from (is_caller (other side)) h.now ≡ []) × ((end_at side p).held.octets ≡ [])
  rests_at Left = none_coming p.left.held.octets (arriving false (carriers_of p)) h.now.coming h.now.coming_lost (held Left)
      (grind (arith, rest.outgoing Right)) (none_lost false) (h.stands.between.comes false (rest.lasts Left))
  rests_at Right = none_coming p.right.held.octets (arriving true (carriers_of p)) h.now.going h.now.going_lost (held Right)
      (grind (arith, rest.outgoing Left)) (none_lost true) (h.stands.between.comes true (rest.lasts Right))

  at_rest : IsStill (carriers_of p)
  at_rest = record {
    unbroken = ap (option_map (λ r. (r.left, r.right))) rest.unbroken;
    lasts = rest.lasts Left;
    lasts_called = rest.lasts Right;
    outgoing = rest.outgoing Left;
    outgoing_called = rest.outgoing Right;
    held = (rests_at Left).1;
    held_called = (rests_at Right).1;
  }

  -- in order, as long as it lasts
  order : (side : Side) → IsInOrder (end_at side p).end
  order side = order_of side p h.now (tables_at p steps) h.stands (rest.lasts side)

  open_place : (side : Side) (r : ℕ) → (o : IsOpenAt r (end_at side p).end) →
      place_at r (end_at side p).end.carrier ≡ was_given (Some (linked o.peer o.link))
  open_place side r o = grind (arith, given_live, order side, rest.lasts side)

  -- while the taker has it open, what is in flight to it is the same by the tables
  open_alike : (side : Side) (r : ℕ) → IsOpenAt r (end_at side p).end → (some others : List carrier.Message) →
      AreAlike (progress_of (place_at r (last_of (is_caller side) h.now))) some others → some ≡ others
  open_alike side r o some others alike =
      grind (arith, open_place side r o, was_at side p h.now (tables_at p steps) h.stands (rest.lasts side))

  open_at_both : (r : ℕ) → IsOpenAt r p.left.end → IsOpenAt r p.right.end → OpenAtBoth p steps h r
  open_at_both r left right =
      let given : (0 < r) × (r ≤ p.left.end.carrier.given) = grind (arith, within, outside_by) in
      record { at = both; here = line_at p steps h r given.0 given.1; there = search (arith, at_rest) }
    where
      both : (side : Side) → IsOpenAt r (end_at side p).end
      both Left = left
      both Right = right

  -- nothing is in flight from a side, and the other has joined nothing
  gets_all : (r : ℕ) → (o : OpenAtBoth p steps h r) → (side : Side) →
      ((seen_from (side_in side) o.here.line).own.channel ≡ []) × HasJoined r (end_at (other side) p) None
  gets_all r o side =
      let w = (seen side r p h.now o.here.line o.here.is).out in
      let sent = under_way (is_caller side) r (carriers_of p) h.now in
      let none : sent ≡ [] = grind (arith, o.there.there, o.there.back) in
      none_comes _ _ _ (HasJoined r (end_at (other side) p)) _ _ sent w (grind (arith, cut_none, rest.lasts side, rest.unbroken))
      (open_alike (other side) r (o.at (other side)) (map word_in w.words) sent (w.alike (rest.lasts (other side))) ∙ none)

  has_joined_none : (r : ℕ) → OpenAtBoth p steps h r → (side : Side) → HasJoined r (end_at side p) None
  has_joined_none r o side = grind (arith, gets_all r o (other side))

  pub all_taken : Heard → (r : ℕ) → IsOpenAt r p.left.end → IsOpenAt r p.right.end → IsAllTaken r p steps
  all_taken heard r left right =
      let terms = terms_in (terms_of p.left.end.carrier.local p.right.end.carrier.local) in
      let o = open_at_both r left right in
      let line = o.here.line in
      let own : line.own.transport ≡ worlds.linked = o.here.is.left.transport ∙ ap transport_in (open_place Left r left) in
      let peer : line.peer.transport ≡ worlds.linked = o.here.is.right.transport ∙ ap transport_in (open_place Right r right) in
      let whole : (tables_at p steps).broken ≡ false = h.stands.broken ∙ ap is_some rest.unbroken in
      record {
        rightward = none_left (taken_by Right r p steps) (sent_by Left r p steps) line.own.channel (gets_all r o Left).0
            ((heard machine.Right r terms steps).whole (turned line) (ap (side_of machine.Right) o.here.found) (ap is_parting peer)
            (ap is_parting own) whole);
        leftward = none_left (taken_by Left r p steps) (sent_by Right r p steps) line.peer.channel (gets_all r o Right).0
            ((heard machine.Left r terms steps).whole line (ap (side_of machine.Left) o.here.found) (ap is_parting own)
            (ap is_parting peer) whole);
        kept = λ side. kept o side (begun o side);
      }
    where
      begun : (o : OpenAtBoth p steps h r) → (side : Side) → begun_of (value_at r (end_at side p).end.carrier.live) ≡ 0
      begun o Left = ap begun_of (o.at Left).live ∙ ap length o.there.links.begun
      begun o Right = ap begun_of (o.at Right).live ∙ ap length o.there.links.begun_there

      kept : (o : OpenAtBoth p steps h r) → (side : Side) → begun_of (value_at r (end_at side p).end.carrier.live) ≡ 0 →
          kept_of r (end_at side p).end ≡ 0
      kept o side none = grind (arith, none_of, seen side r p h.now o.here.line o.here.is, has_joined_none r o side)

  -- ---- nothing is kept

  joined_at_rest : AreJoinedBy (terms_of p.left.end.carrier.local p.right.end.carrier.local) p.left.end.carrier p.right.end.carrier [] []
  joined_at_rest =
      let going = ap (λ (l : List Value). h.now.going ++ l) (none_lost true) ∙ append-nil h.now.going ∙ (rests_at Right).0 in
      grind (arith, none_lost false, append-nil h.now.coming, rests_at Left, rest.lasts Left, rest.lasts Right)

  at_both : (side : Side) (r : ℕ) → IsOpenAt r (end_at side p).end → OpenAtBoth p steps h r
  at_both Left r o =
      let x = open_across true _ p.left.end.carrier p.right.end.carrier r o.peer o.link joined_at_rest o.live in
      open_at_both r o (record { peer = x.peer; link = x.link; live = x.live })
  at_both Right r o =
      let x = open_across false _ p.left.end.carrier p.right.end.carrier r o.peer o.link joined_at_rest o.live in
      open_at_both r (record { peer = x.peer; link = x.link; live = x.live }) o

  none_begun_at : (side : Side) (r : ℕ) (x : Connection) → value_at r (end_at side p).end.carrier.live ≡ Some x → begun_by x ≡ 0
  unfolding at_both open_at_both
  none_begun_at Left r (linked peer link) at =
      ap length (at_both Left r (record { peer = peer; link = link; live = at })).there.links.begun
  none_begun_at Right r (linked peer link) at =
      ap length (at_both Right r (record { peer = peer; link = link; live = at })).there.links.begun_there
  none_begun_at side r x at = grind arith

  none_joined_at : (side : Side) (r : ℕ) (l : Listener) → is_some (value_at r (end_at side p).end.carrier.live) ≡ true →
      kept_at r (end_at side p).end.lines ≡ Some l → l.joined ≡ None
  none_joined_at side r l lives at = by l.joined refl
    where
      by : (o : Option (List ℕ)) → l.joined ≡ o → l.joined ≡ None
      by None e = e
      by (Some octets) e =
          let o = joined_open r (end_at side p).end l (order side) (rest.lasts side) at (ap is_some e) in
          none_joined l.state l.joined (has_joined_none r (at_both side r o) side l at)

  pub nothing_kept : (side : Side) → kept_by side p ≡ 0
  nothing_kept side =
      let e = (end_at side p).end in
      let none : length (end_at side p).held.octets ≡ 0 = ap length (rests_at side).1 in
      let begun : kept_in e.carrier.live ≡ 0 = none_begun 0 e.carrier.live (order side).sound.orderly.rise (none_begun_at side) in
      let joined : joined_in e.carrier.live e.lines ≡ 0 =
      all_none_joined 0 e.carrier.live e.lines (order side).rising (none_joined_at side) in
      omega arith
