-- What becomes of a connection while no unit arrives: its session sends, and its link gives units for the peer; or its session closes it;
-- or it stays as it is.
-- For the course of a connection.
use Rattle.osi_blameless.proofs.ends.Vocabulary.{[], ap, arith, Bool, false, inl, inr, is_some, List, map, None, Option, refl, Some, subst}
use Rattle.osi_blameless.proofs.ends.Vocabulary.{sym}
use Rattle.osi_blameless.proofs.ends.Vocabulary.{true, ℕ, ◌<◌, ◌==◌, ◌∙◌, ◌∷◌, ◌≡◌, eq-eqb, eqb-true, map-append, all_given, Given}
use Rattle.osi_blameless.proofs.ends.Vocabulary.{Standing}
use Rattle.osi_blameless.proofs.ends.Vocabulary.{unit_of, with_tsdu, Class, Zero, push_other, put_other, beyond, push_here, put_here}
use Rattle.osi_blameless.proofs.ends.Vocabulary.{closed_with}
use Rattle.osi_blameless.proofs.ends.Vocabulary.{closes, open_link, send_all_error, sent, sent_all, sent_on, Happening, IsOrderly, pumped}
use Rattle.osi_blameless.proofs.ends.Vocabulary.{put}
use Rattle.osi_blameless.proofs.ends.Vocabulary.{Rows, value_at, closing, Connection, linked, State as Carrier, SendError, Input, Listener}
use Rattle.osi_blameless.proofs.ends.Vocabulary.{connects, has_given, hears, opens_line as opens, carrier_by, to_session, End, Line}
use Rattle.osi_blameless.proofs.ends.Vocabulary.{answers_by}
use Rattle.osi_blameless.proofs.ends.Vocabulary.{sent_unless, Request as Connect, GivesTo, Marked, put_sent, put_together}
use Rattle.osi_blameless.proofs.ends.links.how_long_a_connection_is_open.{Life, Rests, Stage, life_open, life_rests, stage_at, stage_by}
use Rattle.osi_blameless.proofs.ends.links.how_long_a_connection_is_open.{stage_there}
use Rattle.osi_blameless.proofs.ends.links.how_long_a_connection_is_open.Stage.{amid, past}
use Rattle.osi_blameless.proofs.ends.links.the_connections_of_each_class.{linked_at}
use Rattle.osi_blameless.proofs.ends.links.units_of_each_connection.{all_of_both, marked, none_marked, other_marked, unequal}
use Rattle.osi_blameless.proofs.ends.courses.what_a_session_puts.{answer_puts, event_puts, move_puts, opening_puts, put_unless}
use Rattle.osi_blameless.proofs.ends.courses.what_a_session_puts.{session_puts, unlinked_unless}

-- ---- another state of a connection

module _ (R : Stage → Stage → Type 0) (rests : (s : Stage) → R s s) (q r : ℕ) (x y : Connection) (rows : Rows Connection)
    (here : value_at q rows ≡ Some y) (rest : (given : Bool) → R (stage_there given (Some y)) (stage_there given (Some x))) where
  put_by : (b given : Bool) → (r == q) ≡ b → R (stage_there given (value_at r rows)) (stage_there given (value_at r (put q x rows)))
  put_by false given is = grind (arith, stage_there, put_other, unequal)
  put_by true given is =
      let same = eqb-true r q is in
      let was : Some y ≡ value_at r rows = sym here ∙ ap (λ (n : ℕ). value_at n rows) (sym same) in
      let then_is : Some x ≡ value_at r (put q x rows) =
      sym (put_here q x y rows here) ∙ ap (λ (n : ℕ). value_at n (put q x rows)) (sym same) in
      subst (λ (o : Option Connection). R (stage_there given o) (stage_there given (value_at r (put q x rows)))) was
      (subst (λ (o : Option Connection). R (stage_there given (Some y)) (stage_there given o)) then_is (rest given))

  rests_put : (over given : Bool) → R (stage_by over given (value_at r rows)) (stage_by over given (value_at r (put q x rows)))
  rests_put over given = grind (arith, past, put_by)

-- ---- the carrier

abbrev IsSame : Stage → Stage → Type 0
IsSame s t = t ≡ s

module _ (q r : ℕ) where
  -- TSDUs are handed in
  one_same : (tsdu : List ℕ) (o : Option (ℕ × Standing)) (s : Carrier) → open_link q s ≡ o → stage_at r (sent_on q tsdu o s) ≡ stage_at r s
  one_same tsdu None s e = refl
  one_same tsdu (Some (peer, link)) s e =
      rests_put IsSame (λ t. refl) q r (linked peer (pumped (with_tsdu link tsdu))) (linked peer link) s.live
      (linked_at (is_some s.ended) (value_at q s.live) peer link e) (λ given. refl) (is_some s.ended) (has_given r s)

  all_same : (tsdus : List (List ℕ)) (s : Carrier) → stage_at r (sent_all q tsdus s) ≡ stage_at r s
  all_same [] s = refl
  all_same (tsdu ∷ tsdus) s = all_same tsdus (sent q tsdu s) ∙ one_same tsdu (open_link q s) s refl

  unless_same : (o : Option SendError) (tsdus : List (List ℕ)) (s : Carrier) → stage_at r (sent_unless o q tsdus s) ≡ stage_at r s
  unless_same o tsdus s = grind (arith, all_same)

  -- it is closed
  closes_rests : (peer : ℕ) (link : Standing) (held : Option Class) (s : Carrier) → open_link q s ≡ Some (peer, link) →
      Rests (stage_at r s) (stage_at r (closes q peer 128 held s))
  closes_rests peer link (Some Zero) s e = inr refl
  closes_rests peer link _ s e =
      rests_put Rests (λ t. inl refl) q r (closing peer) (linked peer link) s.live
      (linked_at (is_some s.ended) (value_at q s.live) peer link e) (λ given. inr refl) (is_some s.ended) (has_given r s)

  pub given_up_rests : (s : Carrier) → Rests (stage_at r s) (stage_at r (closed_with q 128 s))
  given_up_rests s = grind (arith, closes_rests)

-- ---- what the link of an open connection gives is for the peer

pub given_to : (r peer : ℕ) (units : List Given) → GivesTo r peer (marked r (map (unit_of peer) units))
given_to r peer [] = tt
given_to r peer (given ∷ units) = grind (arith, eq-eqb, given_to r peer units)

one_gives : (r p : ℕ) (tsdu : List ℕ) (o : Option (ℕ × Standing)) (s : Carrier) → open_link r s ≡ o → stage_at r s ≡ amid p →
    GivesTo r p (marked r (put_sent tsdu o))
one_gives r p tsdu None s e is = tt
one_gives r p tsdu (Some (peer, link)) s e is = grind (arith, given_to r peer (all_given (with_tsdu link tsdu)))

all_gives : (r p : ℕ) (tsdus : List (List ℕ)) (s : Carrier) → stage_at r s ≡ amid p → GivesTo r p (marked r (put_together r tsdus s))
all_gives r p [] s is = tt
all_gives r p (tsdu ∷ tsdus) s is =
    grind (arith, map-append, all_of_both, one_gives, all_gives r p tsdus (sent r tsdu s) (one_same r r tsdu (open_link r s) s refl ∙ is))

unless_gives : (o : Option SendError) (r p : ℕ) (tsdus : List (List ℕ)) (s : Carrier) → stage_at r s ≡ amid p →
    GivesTo r p (marked r (put_unless o r tsdus s))
unless_gives o r p tsdus s is = grind (arith, all_gives)

-- ---- the life of a connection as something happens to a session

module _ (is_caller : Bool) (q r : ℕ) (some : 0 < r) where
  abbrev Still : Carrier → List Marked → Carrier → Type 0
  Still old put new = Life is_caller r (stage_at r old) [] put (stage_at r new)

  nothing : (c : Carrier) → Still c [] c
  nothing c = life_rests is_caller r (stage_at r c) (stage_at r c) [] tt (inl refl)

  sends_by : (s : Stage) (tsdus : List (List ℕ)) (o : Option SendError) (c : Carrier) → stage_at r c ≡ s →
      Life is_caller r s [] (marked r (put_unless o r tsdus c)) s
  sends_by (amid peer) tsdus o c is = life_open is_caller r peer [] _ tt tt (unless_gives o r peer tsdus c is)
  sends_by v tsdus o c is = grind (arith, unlinked_unless)

  sends_life : (b : Bool) → (r == q) ≡ b → (tsdus : List (List ℕ)) (o : Option SendError) (c : Carrier) →
      Still c (marked q (put_unless o q tsdus c)) (sent_unless o q tsdus c)
  sends_life false is tsdus o c =
      grind (arith, life_rests, other_marked q r (put_unless o q tsdus c) (unequal q r is), unless_same q r o tsdus c)
  sends_life true is tsdus o c = grind (arith, eqb-true, unless_same, sends_by)

  answer_life : (b : Bool) (tsdus : List (List ℕ)) (c : Carrier) → Still c (answer_puts b q tsdus c) (answers_by b q tsdus c)
  answer_life true tsdus c = search (arith, life_rests, none_marked, given_up_rests)
  answer_life false tsdus c = sends_life (r == q) refl tsdus (send_all_error tsdus (open_link q c)) c

  move_life : (o : Option Listener) (input : Input) (c : Carrier) → Still c (move_puts q o input c) (carrier_by q o input c)
  move_life o input c = grind (arith, nothing, answer_life)

  pub session_life : (input : Input) (e : End) → Still e.carrier (session_puts q input e) (to_session q input e).carrier
  session_life input e = grind (arith, nothing, move_life)

  opening_life : (o : Option Line) (e : End) → Still e.carrier (opening_puts q o e) (opens q o e).carrier
  opening_life o e = grind (arith, nothing, session_life)

pub event_life : (is_caller : Bool) (r : ℕ) → 0 < r → (x : Happening) (e : End) →
    Life is_caller r (stage_at r e.carrier) [] (event_puts x e) (stage_at r (hears x e).carrier)
event_life is_caller r some x e = grind (arith, opening_life, session_life)

-- ---- a request

module _ (r : ℕ) (c : Connect) (e : End) (h : IsOrderly e.carrier) (lasts : e.carrier.ended ≡ None) where
  pub connect_rests : Rests (stage_at r e.carrier) (stage_at r (connects c e).carrier)
  connect_rests = grind (arith, beyond, push_here, push_other)
