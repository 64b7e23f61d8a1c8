-- The row of an open connection has its link, and a write to the link is a write to the row. For the calls that hand
-- TSDUs in.
use Rattle.osi_carrier.proofs.Vocabulary.{any_standing, Standing, connection, Rows, value_at, place_of, put, peer_in, linked, Connection}
use Rattle.osi_carrier.proofs.Vocabulary.{Phase, RiseFrom, link_of, ◌≡◌, ℕ, Bool, true, false, List, length, nat_lt, get_or, Option, Some}
use Rattle.osi_carrier.proofs.Vocabulary.{None, Result, OnOk, set, ap, is_some, refl, sym, arith, ◌∙◌, AnyLink, length_error, TooLong}
use Rattle.osi_carrier.proofs.Vocabulary.{Linked}
use Rattle.osi_carrier.proofs.references.rows_in_order.{AreKept, set_kept}
use Rattle.osi_carrier.proofs.references.the_row_at_a_place.{here_is, put_row, put_same}

-- the phase of an open connection
pub linked_phase : (p : Phase) (peer : ℕ) → peer_in (Some (connection p)) ≡ Some peer →
    ((q : ℕ) (link : AnyLink) → p ≡ Linked q link → ⊥) → ⊥
linked_phase p peer e other = grind arith

-- an open connection has one reference of its peer
pub same_peer : (peer : Option ℕ) (q p : ℕ) → peer ≡ Some q → peer ≡ Some p → q ≡ p
same_peer peer q p a b = let same : Some q ≡ Some p = sym a ∙ b in cc

-- the row with its next link
pub row_linked : (n m q peer : ℕ) (t u : Standing) → n ≡ m → q ≡ peer → t ≡ u → ◌≡◌ {A = ℕ × Connection} (n, linked q t) (m, linked peer u)
row_linked n m q peer t u a b e = first_of (cc, grind arith)

-- The row of an open connection, with its link. Any other link can be written there, and the rows stay in order.
pub record OpenRow (rises : Bool) (r i n q : ℕ) (rows items : Rows Connection) (link : Standing) : Type 0 where
  pub place : place_of r rows ≡ Some i
  pub is : value_at r rows ≡ Some (linked q link)
  pub puts : (peer : ℕ) (new then : Standing) → peer_in (value_at r rows) ≡ Some peer → new ≡ then →
      set items i (n, linked q new) ≡ put r (linked peer then) rows
  pub keeps : (c : Connection) → AreKept rises (set items i (n, c))

pub open_row : (rises : Bool) (r i n q : ℕ) (rows items : Rows Connection) (row : ℕ × Connection) (p : Phase) (link : AnyLink) →
    place_of r rows ≡ Some i → row ≡ get_or items i row → items ≡ rows →
    ◌≡◌ {A = ℕ × Connection} (n, connection p) row → p ≡ Linked q link → AreKept rises items →
    OpenRow rises r i n q rows items (any_standing link)
open_row rises r i n q rows items row p link e here same view is kept =
    let named = ap (λ (x : ℕ × Connection). x.0) view in
    let value : value_at r rows ≡ Some (linked q (any_standing link)) = grind (arith, here_is) in
    record {
      place = e;
      is = value;
      puts = λ peer new then known at. put_row r rows items i row (n, linked q new) (linked peer then) e here same
          (row_linked n row.0 q peer new then named (same_peer (peer_in (value_at r rows)) q peer (ap peer_in value) known) at);
      keeps = λ c. set_kept rises items i row (n, c) here named kept;
    }

-- a row that is not open, and stays as it is
pub record ClosedRow (r i n : ℕ) (rows items : Rows Connection) (p : Phase) : Type 0 where
  pub none : link_of (value_at r rows) ≡ None
  pub unknown : peer_in (value_at r rows) ≡ None
  pub same : set items i (n, connection p) ≡ rows

not_linked : (p : Phase) → ((q : ℕ) (link : AnyLink) → p ≡ Linked q link → ⊥) →
    (link_of (Some (connection p)) ≡ None) × (peer_in (Some (connection p)) ≡ None)
not_linked p other = grind arith

pub closed_row : (r i n : ℕ) (rows items : Rows Connection) (row : ℕ × Connection) (p : Phase) →
    place_of r rows ≡ Some i → row ≡ get_or items i row → items ≡ rows →
    ◌≡◌ {A = ℕ × Connection} (n, connection p) row → ((q : ℕ) (link : AnyLink) → p ≡ Linked q link → ⊥) →
    ClosedRow r i n rows items p
closed_row r i n rows items row p e here same view other =
    let at = here_is r rows items i row e here same ∙ ap (λ (x : ℕ × Connection). Some x.1) (sym view) in
    let closed = not_linked p other in
    record {
      none = ap link_of at ∙ closed.0;
      unknown = ap peer_in at ∙ closed.1;
      same = put_row r rows items i row (n, connection p) (connection p) e here same (grind arith) ∙ put_same r (connection p) rows at;
    }

pub with_peer : {P : Type 0} (peer : Option ℕ) → is_some peer ≡ true → ((p : ℕ) → peer ≡ Some p → P) → P
with_peer peer h f = grind arith

pub none_known : {P : Type 0} (peer : Option ℕ) (p : ℕ) → peer ≡ None → peer ≡ Some p → P
none_known peer p a b = cc

-- the place that a search has found
pub sought_place : (r : ℕ) (rises : Bool) (rows now slice : Rows Connection) (found : Option ℕ) → slice ≡ rows → rows ≡ now →
    AreKept rises rows → ((rises ≡ true → RiseFrom 0 slice) → found ≡ place_of r slice) → place_of r now ≡ found
sought_place r rises rows now slice found a b kept is = grind arith

-- what follows from a result that is not an error
pub ok_then : {A E P Q : Type 0} (result : Result A E) → (P → Q) → OnOk result P → OnOk result Q
ok_then result f p = grind arith

-- whether a TSDU is too long
pub too_long : (tsdu : List ℕ) → nat_lt 1048576 (length tsdu) ≡ true → length_error tsdu ≡ Some TooLong
too_long tsdu e = rw e refl

pub short : (tsdu : List ℕ) → nat_lt 1048576 (length tsdu) ≡ false → length_error tsdu ≡ None
short tsdu e = rw e refl
