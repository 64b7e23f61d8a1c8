-- What has come for each connection of a calling end, with one unit more.
-- For the law on a whole end.
use Rattle.osi_blameless.proofs.transport.Vocabulary.{[], AllByRecursion, ap, arith, Bool, Connection, false, is_some, Line, List, Local}
use Rattle.osi_blameless.proofs.transport.Vocabulary.{None, State}
use Rattle.osi_blameless.proofs.transport.Vocabulary.{subst, sym, true, Value, ℕ, ◌++◌, ◌∙◌, ◌∷◌, ◌≡◌}
use Rattle.std.proofs.lemmas.List.{append_assoc}
use Rattle.osi_blameless.proofs.transport.small_facts_that_many_lemmas_use.{none_of as no_end}
use Rattle.osi_blameless.proofs.transport.by_line.each_connection_has_its_line.{followed_at, Following, Row, IsSpare, Waiting, all_so}
use Rattle.osi_blameless.proofs.transport.by_line.each_connection_has_its_line.{asks, closes, over, talks}
use Rattle.osi_blameless.proofs.transport.connections.which_units_are_for_a_connection.{IsDc, is_dc, names, picked_more, picked_other}
use Rattle.osi_blameless.proofs.transport.connections.which_units_are_for_a_connection.{those}
use Rattle.osi_blameless.proofs.transport.small_facts_that_many_lemmas_use.{all_add}

-- ---- what has come for a connection, with one unit more

-- DCs for a reference, and one more
pub early_other : (r : ℕ) (coming : List Value) (v : Value) → names r v ≡ false → AllByRecursion IsDc (those r coming) →
    AllByRecursion IsDc (those r (coming ++ v ∷ []))
early_other r coming v e h = subst (AllByRecursion IsDc) (sym (grind (arith, picked_other, names))) h

row_other : (local : Local) (end : State) (coming : List Value) (r peer : ℕ) (line : Line) (v : Value) → names r v ≡ false →
    Row local end coming r peer line → Row local end (coming ++ v ∷ []) r peer line
row_other local end coming r peer line v e (asks there x source two early dcs first is) =
    asks there x source two early dcs ((grind (arith, picked_other, names)) ∙ first) is
row_other local end coming r peer line v e (talks link there is all) = talks link there is ((grind (arith, picked_other, names)) ∙ all)
row_other local end coming r peer line v e (closes o there q k is all) = closes o there q k is ((grind (arith, picked_other, names)) ∙ all)
row_other local end coming r peer line v e (over h) = over h

pub row_add : (local : Local) (end : State) (coming : List Value) (r peer : ℕ) (line after : Line) (v : Value) → names r v ≡ true →
    after.end ≡ line.end → after.coming ≡ line.coming ++ v ∷ [] → Row local end coming r peer line →
    Row local end (coming ++ v ∷ []) r peer after
row_add local end coming r peer line after v e link same (asks there x source two early dcs first is) =
    asks there x source two early dcs (grind (arith, picked_more, names, append_assoc))
    (link ∙ is)
row_add local end coming r peer line after v e link same (talks l there is all) =
    talks l there (link ∙ is) (picked_more (names r) coming v e ∙ ap (λ (l : List Value). l ++ v ∷ []) all ∙ sym same)
row_add local end coming r peer line after v e link same (closes o there q k is all) =
    closes o there q k (link ∙ is) (picked_more (names r) coming v e ∙ ap (λ (l : List Value). l ++ v ∷ []) all ∙ sym same)
row_add local end coming r peer line after v e link same (over h) = over h

-- as long as the end has not ended
pub row_or : (local : Local) (end : State) (coming : List Value) (r peer : ℕ) (line : Line) (b : Bool) → is_some end.ended ≡ b →
    (end.ended ≡ None → Row local end coming r peer line) → Row local end coming r peer line
row_or local end coming r peer line true e k = over e
row_or local end coming r peer line false e k = k (no_end end.ended e)

pub spares_on : (s t : Bool) (r peer : ℕ) (spare : List Value) → (s ≡ true → t ≡ true) → AllByRecursion (IsSpare s r peer) spare →
    AllByRecursion (IsSpare t r peer) spare
spares_on s t r peer spare on h = grind (arith, all_so)

pub following_other : (local : Local) (put : List Value) (b s t : Bool) (end : State) (coming : List Value) (x : Connection) (v : Value) →
    (s ≡ true → t ≡ true) → (k : Following local put b s end coming x) → names k.r v ≡ false →
    Following local put b t end (coming ++ v ∷ []) x
following_other local put b s t end coming x v on k e = search (arith, followed_at, spares_on, row_other)

pub waiting_other : (local : Local) (end : State) (coming : List Value) (x : Connection) (v : Value) → (k : Waiting local end coming x) →
    names k.r v ≡ false → Waiting local end (coming ++ v ∷ []) x
waiting_other local end coming x v k e = search (arith, early_other)

-- a DC may come before the answer
pub waiting_dc : (local : Local) (end : State) (coming : List Value) (x : Connection) (v : Value) → is_dc v ≡ true →
    Waiting local end coming x → Waiting local end (coming ++ v ∷ []) x
waiting_dc local end coming x v dc k = grind (arith, early_other, picked_more, all_add)
