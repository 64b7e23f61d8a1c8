-- What an end does keeps what holds of its line: a call of its link, and the close of the connection.
-- For the laws on a line.
use Rattle.osi_blameless.proofs.transport.Vocabulary.{[], ap, arith, Bool, false, length, List, None, Ok, Option, refl, Some, subst, sym}
use Rattle.osi_blameless.proofs.transport.Vocabulary.{true, ℕ, ◌%◌}
use Rattle.osi_blameless.proofs.transport.Vocabulary.{◌++◌, ◌+◌, ◌∙◌, ◌∷◌, ◌≡◌, ◌≤◌, acknowledge, data2, disconnect, Value, longest_tsdu}
use Rattle.osi_blameless.proofs.transport.Vocabulary.{ack, Hands, next}
use Rattle.osi_blameless.proofs.transport.Vocabulary.{part0, part2, Standing, taken, with_tsdu, give_out, hand_in, hand_out, Move, Moves}
use Rattle.osi_blameless.proofs.transport.Vocabulary.{take_in}
use Rattle.osi_blameless.proofs.transport.Vocabulary.{is_closing, Connection, Left, Half, Acts, answers, closes_with as closes}
use Rattle.osi_blameless.proofs.transport.Vocabulary.{HandsInShort, Line, moves}
use Rattle.osi_blameless.proofs.transport.Vocabulary.{units_put, units_taken}
use Rattle.osi_blameless.proofs.transport.lines.what_a_link_does.{HaveRoom, room_more, gives_so, takes_so}
use Rattle.osi_blameless.proofs.transport.lines.units_in_flight.{Puts, puts_more, comes_within}
use Rattle.osi_blameless.proofs.transport.lines.what_holds_of_a_line.{Tally, Ordered, linked, PutsAt, TakesAt, Holds, bounds_of, came_of}
use Rattle.osi_blameless.proofs.transport.lines.what_holds_of_a_line.{shut, ends_so}
use Rattle.osi_blameless.proofs.transport.lines.what_holds_of_a_line.{as_judged}

-- a call of the link that makes what was put this
pub record Moved (r peer limit : ℕ) (noted : ℕ) (judge : Connection) (put coming : List Value) (link : Standing) : Type 0 where
  pub tally : Tally
  pub ordered : Ordered tally noted
  pub judges : as_judged r peer limit tally noted judge
  pub puts : PutsAt r peer limit tally judge.left judge.right put (Some link)
  pub takes : linked limit tally judge.right coming link

module _ (r peer limit : ℕ) (x : Tally) (noted : ℕ) (judge : Connection) (o : Ordered x noted)
    (t : as_judged r peer limit x noted judge) where
  -- ---- a DT

  puts_data : (put coming : List Value) (link after : Standing) (number : ℕ) (end : Bool) (octets : List ℕ)
      (h : linked limit x judge.right coming link) → PutsAt r peer limit x judge.left judge.right put (Some link) →
      next link ≡ Some (part2 number end octets, after) →
      Puts (bounds_of r peer limit (record x { sent = x.sent + 1 }) false judge.right)
      (ends_so (x.sent + 1) after.ends.unsent) x.passed x.shown
      judge.left.begun (put ++ data2 peer number end octets ∷ [])
  puts_data put coming link after number end octets h p e =
      let (some, is, flow, size, gives) = gives_so link after h.flow (part2 number end octets) h.is e in
      let numbered : number ≡ x.sent % 128 = is ∙ h.next in
      let fits = h.size in
      puts_more (bounds_of r peer limit x false judge.right) (bounds_of r peer limit (record x { sent = x.sent + 1 }) false judge.right)
      (ends_so x.sent link.ends.unsent) (ends_so (x.sent + 1) after.ends.unsent) (data2 peer number end octets ∷ [])
      (record { reference = refl; peer = refl; limit = refl; window = refl; sent = omega arith; acked = omega arith; closing = λ k. k })
      refl
      (λ passed shown begun within now.
      let g = gives begun now.1 in
      grind arith)
      x.passed x.shown judge.left.begun o.shown_acked put p.0

  gives_data : (put coming : List Value) (link after : Standing) (number : ℕ) (end : Bool) (octets : List ℕ) →
      linked limit x judge.right coming link → PutsAt r peer limit x judge.left judge.right put (Some link) →
      next link ≡ Some (part2 number end octets, after) →
      Moved r peer limit noted judge (put ++ data2 peer number end octets ∷ []) coming after
  gives_data put coming link after number end octets h p e =
      let (some, is, flow, size, gives) = gives_so link after h.flow (part2 number end octets) h.is e in
      let within = comes_within (came_of x judge.right) h.taken h.known coming h.comes in
      record {
        tally = record x { sent = x.sent + 1 };
        ordered = omega (arith, o);
        judges = t;
        puts = (puts_data put coming link after number end octets h p e, p.1);
        takes = grind arith;
      }

  -- ---- an AK

  gives_ack : (put coming : List Value) (link after : Standing) (number credit : ℕ) →
      linked limit x judge.right coming link → PutsAt r peer limit x judge.left judge.right put (Some link) →
      next link ≡ Some (ack number credit, after) →
      Moved r peer limit noted judge (put ++ acknowledge credit peer number ∷ []) coming after
  gives_ack put coming link after number credit h p e =
      let (some, is, of_window, flow, same) = gives_so link after h.flow (ack number credit) h.is e in
      let within = comes_within (came_of x judge.right) h.taken h.known coming h.comes in
      record {
        tally = record x { acked = x.acked + 1 };
        ordered = omega (arith, o);
        judges = t;
        puts = (grind (arith, puts_more, gives_so, comes_within, came_of, bounds_of, ends_so), p.1);
        takes = grind arith;
      }

  -- ---- calls that put nothing

  -- what was put stays, with other TSDUs that are still to be sent
  puts_same : (put : List Value) (link after : Standing) → PutsAt r peer limit x judge.left judge.right put (Some link) →
      ((begun : ℕ) → HaveRoom begun link.ends.unsent → HaveRoom begun after.ends.unsent) →
      PutsAt r peer limit x judge.left judge.right (put ++ []) (Some after)
  puts_same put link after p room = (
    puts_more (bounds_of r peer limit x false judge.right) (bounds_of r peer limit x false judge.right)
        (ends_so x.sent link.ends.unsent) (ends_so x.sent after.ends.unsent) []
        (record { reference = refl; peer = refl; limit = refl; window = refl; sent = omega arith; acked = omega arith; closing = λ k. k })
        refl
        (λ passed shown begun within now. (now.0, room begun now.1)) x.passed x.shown judge.left.begun o.shown_acked put p.0,
    p.1,
  )

  same_flow : (put coming : List Value) (link after : Standing) → linked limit x judge.right coming link →
      PutsAt r peer limit x judge.left judge.right put (Some link) → after.flow ≡ link.flow → after.ends.limit ≡ link.ends.limit →
      ((begun : ℕ) → HaveRoom begun link.ends.unsent → HaveRoom begun after.ends.unsent) →
      Moved r peer limit noted judge (put ++ []) coming after
  same_flow put coming link after h p flow size room = grind (arith, puts_same)

  takes_data : (put coming : List Value) (link after : Standing) (destination number : ℕ) (end : Bool) (octets : List ℕ) →
      linked limit x judge.right (data2 destination number end octets ∷ coming) link →
      PutsAt r peer limit x judge.left judge.right put (Some link) → taken link (data2 destination number end octets) ≡ Ok after →
      Moved r peer limit noted judge (put ++ []) coming after
  takes_data put coming link after destination number end octets h p e =
      grind (arith, puts_same, takes_so link after h.flow (data2 destination number end octets) h.is e)

  takes_ack : (put coming : List Value) (link after : Standing) (credit destination number : ℕ) →
      linked limit x judge.right (acknowledge credit destination number ∷ coming) link →
      PutsAt r peer limit x judge.left judge.right put (Some link) → taken link (acknowledge credit destination number) ≡ Ok after →
      Moved r peer limit noted judge (put ++ []) coming after
  takes_ack put coming link after credit destination number h p e =
      grind (
        arith,
        comes_within,
        puts_same,
        takes_so link after h.flow (acknowledge credit destination number) h.is e,
        came_of x judge.right,
      )

  hands_out : (put coming : List Value) (link after : Standing) (tsdu : List ℕ) → linked limit x judge.right coming link →
      PutsAt r peer limit x judge.left judge.right put (Some link) → Hands (Some tsdu) link after →
      Moved r peer limit noted judge (put ++ []) coming after
  hands_out put coming link after tsdu h p e =
      let unsent : after.ends.unsent ≡ link.ends.unsent = ap (λ (s : Standing). s.ends.unsent) (sym e) in
      same_flow put coming link after h p (ap (λ (s : Standing). s.flow) (sym e)) (ap (λ (s : Standing). s.ends.limit) (sym e))
      (λ begun room. subst (λ (l : List (List ℕ)). HaveRoom begun l) (sym unsent) room)

  hands_in : (put coming : List Value) (link after : Standing) (tsdu : List ℕ) → linked limit x judge.right coming link →
      PutsAt r peer limit x judge.left judge.right put (Some link) → length tsdu ≤ longest_tsdu → after ≡ with_tsdu link tsdu →
      Moved r peer limit noted judge (put ++ []) coming after
  hands_in put coming link after tsdu h p short e =
      let unsent : after.ends.unsent ≡ link.ends.unsent ++ tsdu ∷ [] = ap (λ (s : Standing). s.ends.unsent) e in
      same_flow put coming link after h p (ap (λ (s : Standing). s.flow) e) (ap (λ (s : Standing). s.ends.limit) e)
      (λ begun room. subst (λ (l : List (List ℕ)). HaveRoom begun l) (sym unsent) (room_more begun link.ends.unsent tsdu room short))

  -- ---- each call

  takes_any : (put coming : List Value) (link after : Standing) (unit : Value) → linked limit x judge.right (unit ∷ coming) link →
      PutsAt r peer limit x judge.left judge.right put (Some link) → taken link unit ≡ Ok after →
      Moved r peer limit noted judge (put ++ []) coming after
  takes_any put coming link after (data2 destination number end octets) h p e = search (arith, takes_data)
  takes_any put coming link after (acknowledge credit destination number) h p e = search (arith, takes_ack)
  takes_any put coming link after v h p e = absurd (takes_so link after h.flow v h.is e)

  call_moves : (move : Move) (put coming : List Value) (link after : Standing) →
      linked limit x judge.right (units_taken move ++ coming) link →
      PutsAt r peer limit x judge.left judge.right put (Some link) → Moves move link after → HandsInShort move →
      Moved r peer limit noted judge (put ++ units_put peer move) coming after
  call_moves (hand_in tsdu) put coming link after h p e short = hands_in put coming link after tsdu h p short e
  call_moves (give_out (part0 end octets)) put coming link after h p e short = grind (arith, gives_so)
  call_moves (give_out (part2 number end octets)) put coming link after h p e short = search (arith, gives_data)
  call_moves (give_out (ack number credit)) put coming link after h p e short = gives_ack put coming link after number credit h p e
  call_moves (take_in unit) put coming link after h p e short = takes_any put coming link after unit h p e
  call_moves (hand_out tsdu) put coming link after h p e short = hands_out put coming link after tsdu h p e

  -- ---- the end closes the connection

  closes_by : (unit : Value) (put : List Value) (link : Standing) → PutsAt r peer limit x judge.left judge.right put (Some link) →
      ((passed shown begun : ℕ) → Puts (bounds_of r peer limit x true judge.right) (shut judge.left.phase) passed shown begun (unit ∷ [])) →
      PutsAt r peer limit x judge.left judge.right (put ++ unit ∷ []) None
  closes_by unit put link p last = grind (arith, puts_more)

  was_closing : (coming : List Value) (link : Standing) (destination source reason : ℕ) (user : List ℕ) →
      linked limit x judge.right (disconnect destination source reason user ∷ coming) link → is_closing judge.right.phase ≡ true
  was_closing coming link destination source reason user h = h.comes.2

-- ---- what holds stays

puts_with : (r peer limit : ℕ) (x : Tally) (mine theirs : Half) (put : List Value) (link : Option Standing) (is : Standing) →
    link ≡ Some is →
    PutsAt r peer limit x mine theirs put link → PutsAt r peer limit x mine theirs put (Some is)
puts_with r peer limit x mine theirs put link is e h = subst (λ (l : Option Standing). PutsAt r peer limit x mine theirs put l) e h

takes_with : (limit : ℕ) (x : Tally) (theirs : Half) (coming : List Value) (link : Option Standing) (is : Standing) → link ≡ Some is →
    TakesAt limit x theirs coming link → linked limit x theirs coming is
takes_with limit x theirs coming link is e h = subst (λ (l : Option Standing). TakesAt limit x theirs coming l) e h

pub moves_hold : (r peer : ℕ) (move : Move) (old new : Line) → Acts Left r peer (moves move) old new → Holds r peer old → Holds r peer new
moves_hold r peer move old new (link, after, is, e, short, coming, new_is) h =
    let puts = puts_with r peer h.limit h.tally old.judge.left old.judge.right old.put old.end link is h.puts in
    let takes = takes_with h.limit h.tally old.judge.right old.coming old.end link is h.takes in
    let came = subst (λ (l : List Value). linked h.limit h.tally old.judge.right l link) coming takes in
    let m = call_moves r peer h.limit h.tally h.noted old.judge h.ordered h.judges move old.put new.coming link after came puts e short in
    subst (λ (l : Line). Holds r peer l) (sym new_is)
    (grind arith)

pub closes_hold : (r peer reason : ℕ) (units : List Value) (old new : Line) → Acts Left r peer (closes reason units) old new →
    Holds r peer old →
    Holds r peer new
closes_hold r peer reason units old new k h = grind (arith, puts_with, closes_by)

pub answers_hold : (r peer : ℕ) (unit : Value) (old new : Line) → Acts Left r peer (answers unit) old new → Holds r peer old →
    Holds r peer new
answers_hold r peer unit old new k h = grind (arith, puts_with, takes_with, was_closing, closes_by)
