-- What a called end of class 2 has put and what has not passed has no DT of class 0.
-- What holds of the units at each place holds of all that is to pass.
-- For the units that a called end puts.
use Rattle.osi_blameless.proofs.Vocabulary.{[], ap, append_assoc, List, None, Ok, Option, refl, Some, subst, sym, ℕ, ◌&&◌, ◌++◌, ◌∙◌, ◌∷◌}
use Rattle.osi_blameless.proofs.Vocabulary.{◌≡◌, AllByRecursion, slice_get, acknowledge, data0, data2, disconnected, Value, Flow, ack}
use Rattle.osi_blameless.proofs.Vocabulary.{part0, part2, Standing, give_out, hand_in, hand_out, Move, Moves, take_in, Local, Connection}
use Rattle.osi_blameless.proofs.Vocabulary.{Way as Direction, answering, AreStrays, Called, refuses, runs, Stand, StrayIf, at_first}
use Rattle.osi_blameless.proofs.Vocabulary.{at_join, first_at, Placed, values, gives_so, takes_so, Act, Acts, ActsAlong, begins_elsewhere}
use Rattle.osi_blameless.proofs.Vocabulary.{ignores, Line, moves, units_put, Whole, comes, arith}
use Rattle.osi_class.specs.Link.{taken}
use Rattle.osi_rules.specs.declared.directions.Direction.TheVariants.{Right}
use Rattle.osi_blameless.specs.transport.Lines.{answers, begins_other, begins_own, closes, passes_other, passes_own}
use Rattle.osi_blameless.proofs.transport.connections.units_by_their_place.{units_at}
use Rattle.osi_blameless.proofs.small_facts_that_many_lemmas_use.{all_join as all_of_both}
use Rattle.osi_blameless.proofs.putting.what_a_turn_puts_goes_to_its_peer.{IsNotZero, one_of}
use Rattle.osi_blameless.proofs.transport.by_place.each_connection_has_its_place.{past}
use Rattle.osi_blameless.proofs.transport.what_each_thing_keeps_all_of_them_keep.{along_keeps}

-- ---- a line of class 2

-- its link is of class 2, if it has one, and it has put no DT of class 0
record IsOfTwo (line : Line) : Type 0 where
  flows : (l : Standing) → line.end ≡ Some l → (f : Flow) × (l.flow ≡ Some f)
  put : AllByRecursion IsNotZero line.put

record Moved (peer : ℕ) (move : Move) (new : Standing) : Type 0 where
  flow : Flow
  is : new.flow ≡ Some flow
  put : AllByRecursion IsNotZero (units_put peer move)

taken_two : (peer : ℕ) (old new : Standing) (f : Flow) (v : Value) → old.flow ≡ Some f → taken old v ≡ Ok new → Moved peer (take_in v) new
taken_two peer old new f (data2 n number end user) is e = grind (arith, takes_so old new f (data2 n number end user) is e)
taken_two peer old new f (acknowledge credit n number) is e = grind (arith, takes_so old new f (acknowledge credit n number) is e)
taken_two peer old new f v is e = absurd (takes_so old new f v is e)

move_two : (peer : ℕ) (move : Move) (old new : Standing) (f : Flow) → old.flow ≡ Some f → Moves move old new → Moved peer move new
move_two peer (hand_in tsdu) old new f is e = record { flow = f; is = ap (λ (l : Standing). l.flow) e ∙ is; put = tt }
move_two peer (give_out (part0 end octets)) old new f is e = absurd (gives_so old new f (part0 end octets) is e)
move_two peer (give_out (part2 number end octets)) old new f is e = grind (arith, gives_so old new f (part2 number end octets) is e)
move_two peer (give_out (ack number credit)) old new f is e = grind (arith, gives_so old new f (ack number credit) is e)
move_two peer (take_in unit) old new f is e = taken_two peer old new f unit is e
move_two peer (hand_out tsdu) old new f is e = record { flow = f; is = sym (ap (λ (l : Standing). l.flow) e) ∙ is; put = tt }

same_link : (a b : Standing) → Some a ≡ Some b → a ≡ b
same_link a b e = cc

act_two : (d : Direction) (r peer : ℕ) (act : Act) (old new : Line) → Acts d r peer act old new → IsOfTwo old → IsOfTwo new
act_two d r peer (moves move) old new (link, after, is, e, short, coming, new_is) h =
    let (f, flow) = h.flows link is in
    grind (arith, same_link, all_of_both, move_two peer move link after f flow e)
act_two d r peer (closes reason units) old new (link, is, coming, new_is) h = grind (arith, all_of_both)
act_two d r peer (ignores units) old new (gone, coming, new_is) h = grind arith
act_two d r peer (answers unit) old new (link, is, dr, coming, new_is) h = grind (arith, all_of_both)
act_two d r peer begins_own old new (some, idle, new_is) h = subst IsOfTwo (sym new_is) (record { flows = h.flows; put = h.put })
act_two d r peer (passes_own course used) old new (unit, (first, begun, new_is)) h = grind arith
act_two d r peer begins_elsewhere old new (idle, new_is) h = subst IsOfTwo (sym new_is) (record { flows = h.flows; put = h.put })
act_two d r peer begins_other old new new_is h = subst IsOfTwo (sym new_is) (record { flows = h.flows; put = h.put })
act_two d r peer (passes_other course used unit) old new (range, named, far, new_is) h = grind arith

acts_two : (d : Direction) (r peer : ℕ) (acts : List Act) (old new : Line) → ActsAlong d r peer old acts new → IsOfTwo old → IsOfTwo new
acts_two d r peer = along_keeps (Acts d r peer) IsOfTwo (act_two d r peer)

-- ---- what holds at each place holds of all that is to pass

abbrev pub StandsAt : (local : Local) (w : Whole) → Called local w → ℕ → Connection → Type 0
StandsAt local w f p c =
    Stand local f.shut w.end w.coming (units_at p f.tagged) (units_at p f.came) (w.begun && first_at p f.tagged) (f.refs p) c

-- where a unit stands among those of its place
pub place_parts : (units : List Placed) (p : ℕ) (front rest : List Placed) (v : Value) → units ≡ front ++ (Some p, v) ∷ rest →
    units_at p units ≡ units_at p front ++ v ∷ units_at p rest
place_parts units p front rest v is =
    ap (units_at p) is ∙ at_join p front ((Some p, v) ∷ rest) ∙ ap (λ (l : List Value). units_at p front ++ l) (at_first p v rest)

module _ (P : Value → Type 0) (local : Local) (w : Whole) (f : Called local w) (stray : (m n : ℕ) → P (disconnected m n))
    (at : (p : ℕ) (c : Connection) → StandsAt local w f p c → AllByRecursion P (units_at p f.tagged)) where
  one_so : (front rest : List Placed) (o : Option ℕ) (v : Value) → f.tagged ≡ front ++ (o, v) ∷ rest →
      StrayIf f.shut w.end f.refs f.home w.judge.course.disconnects.strays o v rest → P v
  one_so front rest None v is s = subst P (sym s.is) (stray s.m s.n)
  one_so front rest (Some p) v is s = by (slice_get w.judge.connections p) refl
    where
      among : AllByRecursion P (units_at p f.tagged) → P v
      among all =
          one_of P (units_at p front) (units_at p rest) v (subst (AllByRecursion P) (place_parts f.tagged p front rest v is) all)

      by : (o : Option Connection) → slice_get w.judge.connections p ≡ o → P v
      by None e = among (subst (AllByRecursion P) (sym (f.beyond p e).0) tt)
      by (Some c) e = among (at p c (f.stands p c e))

  each_so : (front rest : List Placed) → f.tagged ≡ front ++ rest →
      AreStrays f.shut w.end f.refs f.home w.judge.course.disconnects.strays rest → AllByRecursion P (values rest)
  each_so front [] is strays = tt
  each_so front (m ∷ rest) is strays = (
    one_so front rest m.0 m.1 is strays.0,
    each_so (front ++ m ∷ []) rest (is ∙ sym (append_assoc front (m ∷ []) rest)) strays.1,
  )

  pub put_so : AllByRecursion P w.put
  put_so = subst (AllByRecursion P) (sym f.put) (each_so [] f.tagged refl f.strays)

-- ---- all that is to pass

module _ (local : Local) (w : Whole) (f : Called local w) where
  stand_two : (p : ℕ) (c : Connection) → StandsAt local w f p c → AllByRecursion IsNotZero (units_at p f.tagged)
  stand_two p c (comes x a none ask index) = subst (AllByRecursion IsNotZero) (sym none) tt
  stand_two p c (refuses x a reason put none index seen) = subst (AllByRecursion IsNotZero) (sym put) (λ last user same. cc same, tt)
  stand_two p c (answering h none) =
      let after = acts_two Right h.r h.x.source h.acts _ _ (h.along c)
      (record { flows = λ l same. (_, ap (λ (k : Standing). k.flow) (sym (same_link _ l same))); put = tt }) in
      subst (AllByRecursion IsNotZero) (sym h.mine_is) (λ last user same. cc same, after.put)
  stand_two p c (runs h none) =
      let o = h.tracks.opened in
      let after = acts_two Right h.r h.peer h.tracks.acts h.tracks.first h.line h.tracks.along (record {
        flows = λ l same. (_, ap (λ (k : Standing). k.flow) (sym (same_link _ l (sym o.link ∙ same))));
        put = subst (AllByRecursion IsNotZero) (sym o.put) tt;
      }) in
      subst (AllByRecursion IsNotZero) h.put after.put
  stand_two p c (past silent up none asks un off) = subst (AllByRecursion IsNotZero) (sym none) tt

  pub none_of_zero_put : AllByRecursion IsNotZero w.put
  none_of_zero_put = put_so IsNotZero local w f (λ m n end user e. let no : disconnected m n ≡ data0 end user = e in cc) stand_two
