-- What holds of a line, be its connection judged or not: its units have its references, and the judge knows that of the other side.
-- For the laws on whole ends.
use Rattle.osi_blameless.proofs.transport.Vocabulary.{[], ack, acknowledge, Act, Acts, ActsAlong, answers, ap, arith, begins}
use Rattle.osi_blameless.proofs.transport.Vocabulary.{begins_elsewhere, Bool}
use Rattle.osi_blameless.proofs.transport.Vocabulary.{closes_with as closes, confirm, Connect, Connection, connection_after, Course, data0}
use Rattle.osi_blameless.proofs.transport.Vocabulary.{data2}
use Rattle.osi_blameless.proofs.transport.Vocabulary.{Direction, disconnect, disconnected, eq-eqb, error, false, finding_of, Flow, give_out}
use Rattle.osi_blameless.proofs.transport.Vocabulary.{Half, hand_in}
use Rattle.osi_blameless.proofs.transport.Vocabulary.{hand_out, ignores, is_applied, is_silent, IsOpened, Line, List, Move, Moves, moves}
use Rattle.osi_blameless.proofs.transport.Vocabulary.{None, Option}
use Rattle.osi_blameless.proofs.transport.Vocabulary.{other, part0, part2, Reach, reach_of, refl, request, Right, seen, Some, Standing}
use Rattle.osi_blameless.proofs.transport.Vocabulary.{subst, sym}
use Rattle.osi_blameless.proofs.transport.Vocabulary.{take_in, taken_flow, theirs, true, Two, units_put, Value, ℕ, ◌++◌, ◌∙◌, ◌∷◌, ◌≡◌, ◌≢◌}
use Rattle.osi_blameless.proofs.transport.small_facts_that_many_lemmas_use.{no_list}
use Rattle.osi_blameless.proofs.transport.lines.what_a_link_does.{gives_so, takes_so}
use Rattle.osi_blameless.specs.transport.Lines.{begins_other, begins_own, passes_other, passes_own}
use Rattle.osi_blameless.proofs.transport.small_facts_that_many_lemmas_use.{half_keeps, half_started}
use Rattle.osi_blameless.proofs.transport.connections.what_stays_of_each_connection.{left_judged, left_own, left_then, right_judged}
use Rattle.osi_blameless.proofs.transport.connections.what_stays_of_each_connection.{right_own, right_then}
use Rattle.osi_blameless.proofs.transport.connections.which_units_are_for_a_connection.{AllOurs}
use Rattle.osi_blameless.proofs.transport.what_each_thing_keeps_all_of_them_keep.{along_keeps}

-- what the judge knows of the other side, and what the end knew of it as its packet began
pub record Keeps (d : Direction) (r peer : ℕ) (line : Line) : Type 0 where
  pub flow : (l : Standing) → line.end ≡ Some l → (f : Flow) × (l.flow ≡ Some f)
  pub ours : AllOurs r peer line.put
  pub there : is_silent (theirs d line.judge).phase ≡ false
  pub reference : (theirs d line.judge).reference ≡ peer
  pub seen_so : line.begun ≡ true → (is_silent (seen d line.judge).phase ≡ false) × ((seen d line.judge).reference ≡ peer)
  pub some : line.begun ≡ true → line.put ≢ []

ours_join : (r n : ℕ) (xs ys : List Value) → AllOurs r n xs → AllOurs r n ys → AllOurs r n (xs ++ ys)
ours_join r n [] ys a b = b
ours_join r n (x ∷ xs) ys (one, more) b = (one, ours_join r n xs ys more b)

some_join : (xs ys : List Value) → xs ≢ [] → xs ++ ys ≢ []
some_join [] ys h = absurd (h refl)
some_join (x ∷ xs) ys h = no_list x (xs ++ ys)

-- ---- the other side at the judge

pub own_seen_after : (v : Value) (a : Bool) (r : Reach) (c : Connection) → (connection_after Right v a r c).seen_by_right ≡ c.seen_by_right
own_seen_after v a r c = grind arith

seen_after : (d : Direction) (v : Value) (a : Bool) (r : Reach) (c : Connection) → seen d (connection_after (other d) v a r c) ≡ seen d c
seen_after d v a r c = grind arith

-- a unit of the end
own_after : (d : Direction) (v : Value) (a : Bool) (r : Reach) (c : Connection) → theirs d (connection_after d v a r c) ≡ theirs d c
own_after d v a r c = grind (arith, right_then, left_then)

-- a unit of the other side
theirs_after : (d : Direction) (a : Bool) (v : Value) (r : Reach) (c : Connection) →
    (a ≡ true → (m : ℕ) (x : Connect) → v ≡ confirm m x → ⊥) → is_silent (theirs d c).phase ≡ false →
    (is_silent (theirs d (connection_after (other d) v a r c)).phase ≡ false)
    × ((theirs d (connection_after (other d) v a r c)).reference ≡ (theirs d c).reference)
theirs_after d a v r c none h = grind (arith, left_own, half_started, half_keeps, left_judged, right_own, right_judged)

-- a CC has no effect on a connection that was answered
no_cc : (d : Direction) (course : Course) (in_use : Bool) (c : Connection) (v : Value) → is_silent (theirs d c).phase ≡ false →
    is_applied (finding_of (other d) course in_use c v) ≡ true → (m : ℕ) (x : Connect) → v ≡ confirm m x → ⊥
no_cc d course in_use c v there h m x e = grind arith

begun_own : (d : Direction) (c : Connection) → seen d (begins d c) ≡ theirs d c
begun_own d c = grind arith

begun_other : (d : Direction) (c : Connection) → seen d (begins (other d) c) ≡ seen d c
begun_other d c = grind arith

-- ---- a call of the link

moves_flow : (move : Move) (old new : Standing) (f : Flow) → old.flow ≡ Some f → Moves move old new → (g : Flow) × (new.flow ≡ Some g)
moves_flow (hand_in tsdu) old new f is e = (f, ap (λ (l : Standing). l.flow) e ∙ is)
moves_flow (give_out (part0 end octets)) old new f is e = absurd (gives_so old new f (part0 end octets) is e)
moves_flow (give_out (part2 number end octets)) old new f is e = grind (arith, gives_so old new f (part2 number end octets) is e)
moves_flow (give_out (ack number credit)) old new f is e = grind (arith, gives_so old new f (ack number credit) is e)
moves_flow (take_in (data2 destination number end octets)) old new f is e =
    (taken_flow f, (takes_so old new f (data2 destination number end octets) is e).0)
moves_flow (take_in (acknowledge credit destination number)) old new f is e =
    let t = takes_so old new f (acknowledge credit destination number) is e in (_, t.2)
moves_flow (take_in (request x)) old new f is e = absurd (takes_so old new f (request x) is e)
moves_flow (take_in (confirm destination x)) old new f is e = absurd (takes_so old new f (confirm destination x) is e)
moves_flow (take_in (disconnect destination source reason user)) old new f is e = grind (arith, takes_so)
moves_flow (take_in (disconnected destination source)) old new f is e = absurd (takes_so old new f (disconnected destination source) is e)
moves_flow (take_in (data0 end user)) old new f is e = absurd (takes_so old new f (data0 end user) is e)
moves_flow (take_in (error destination cause)) old new f is e = absurd (takes_so old new f (error destination cause) is e)
moves_flow (hand_out tsdu) old new f is e = (f, sym (ap (λ (l : Standing). l.flow) e) ∙ is)

moves_ours : (r peer : ℕ) (move : Move) (old new : Standing) (f : Flow) → old.flow ≡ Some f → Moves move old new →
    AllOurs r peer (units_put peer move)
moves_ours r peer move old new f is e = grind (arith, gives_so)

-- ---- act by act

no_link : {A : Type 0} (l : Standing) (o : Option Standing) → o ≡ Some l → o ≡ None → A
no_link l o h k = absurd (cc)

link_is : (l m : Standing) (o : Option Standing) → o ≡ Some l → o ≡ Some m → m ≡ l
link_is l m o h k = cc

module _ (d : Direction) (r peer : ℕ) (old new : Line) (h : Keeps d r peer old) where
  -- the end does something
  does : (units : List Value) (link : Option Standing) (coming : List Value) → AllOurs r peer units →
      ((l : Standing) → link ≡ Some l → (f : Flow) × (l.flow ≡ Some f)) →
      new ≡ record old { end = link; put = old.put ++ units; coming = coming } → Keeps d r peer new
  does units link coming ours flow is = grind (arith, ours_join, some_join)

  act_keeps : (act : Act) → Acts d r peer act old new → Keeps d r peer new
  act_keeps (moves move) (link, after, is, e, short, coming, new_is) =
      let (f, flow) = h.flow link is in
      does (units_put peer move) (Some after) new.coming (moves_ours r peer move link after f flow e)
      (grind (arith, link_is, moves_flow move link after f flow e)) new_is
  act_keeps (closes reason units) (link, is, coming, new_is) =
      does (disconnect peer r reason [] ∷ []) None new.coming (record { named = refl; from = refl }, tt)
      (λ l e. no_link l None e refl) new_is
  act_keeps (ignores units) (gone, coming, new_is) = grind arith
  act_keeps (answers unit) (link, is, dr, coming, new_is) =
      does (disconnected peer r ∷ []) None new.coming (record { named = refl; from = eq-eqb r r refl }, tt)
      (λ l e. no_link l None e refl) new_is
  act_keeps begins_own (some, idle, new_is) = grind (arith, begun_own)
  act_keeps begins_elsewhere (idle, new_is) = grind (arith, begun_own)
  act_keeps begins_other new_is = grind (arith, begun_other)
  act_keeps (passes_own course in_use) (unit, (put, begun, new_is)) = grind (arith, own_after)
  act_keeps (passes_other course in_use unit) (ranges, dest, some, new_is) =
      let f = finding_of (other d) course in_use old.judge unit in
      let after = theirs_after d (is_applied f) unit (reach_of (Some Two) f) old.judge
      (no_cc d course in_use old.judge unit h.there) h.there in
      grind (arith, seen_after)

opened_keeps : (d : Direction) (r peer : ℕ) (line : Line) → IsOpened d r peer line → Keeps d r peer line
opened_keeps d r peer line o = record {
  flow = λ l e. (_, ap (λ (x : Standing). x.flow) (link_is _ l line.end o.link e));
  ours = subst (AllOurs r peer) (sym o.put) tt;
  there = ap (λ (x : Half). is_silent x.phase) o.came;
  reference = ap (λ (x : Half). x.reference) o.came;
  seen_so = λ b. absurd (cc (sym b ∙ o.begun));
  some = λ b. absurd (cc (sym b ∙ o.begun));
}

pub line_keeps : (d : Direction) (r peer : ℕ) (begin line : Line) (acts : List Act) → IsOpened d r peer begin →
    ActsAlong d r peer begin acts line → Keeps d r peer line
line_keeps d r peer begin line acts o along =
    along_keeps (Acts d r peer) (Keeps d r peer) (λ act old new one h. act_keeps d r peer old new h act one) acts begin line along
    (opened_keeps d r peer begin o)
