-- Which connections have transport selectors, and that these stay.
use Rattle.std.proofs.Common.{◌≡◌, ℕ, ◌+◌, ◌==◌, Bool, List, [], ◌∷◌, ◌++◌, Option, Some, None, is_some, refl, ◌⊎◌, inl, inr, ap, ◌∙◌}
use Rattle.std.proofs.Common.{arith, eq-eqb}
use Rattle.osi_carrier.specs.References.{references, dropped}
use Rattle.osi_carrier.proofs.Vocabulary.{eqb-true, Standing, Class, Zero, Local, fresh_state, asks, sent_on, sent, open_link, closes}
use Rattle.osi_carrier.proofs.Vocabulary.{closed_on, closed_with, ended_by, tsaps_at, AreNamed, KeepsTsaps, IsOrderly, Rows, value_at, put}
use Rattle.osi_carrier.proofs.Vocabulary.{without, Connection, asked, TsapIds, State, EndReason, sent_all}
use Rattle.osi_carrier.proofs.references.what_a_change_leaves_there.{without_here}
use Rattle.osi_carrier.proofs.references.rows_after_a_change.{along_rows, without_other, push_other}

-- ---- tables

pub put_named : (r : ℕ) (x : Connection) (rows : Rows Connection) → references (put r x rows) ≡ references rows
put_named r x rows = along_rows r (λ l. references (put r x l) ≡ references l) refl (λ q y l b e more. grind arith) rows

pub drop_named : {X : Type 0} (r : ℕ) (rows : Rows X) → references (without r rows) ≡ dropped r (references rows)
drop_named r rows =
    along_rows r (λ l. references (without r l) ≡ dropped r (references l)) refl (λ q y l b e more. grind arith) rows

join_named : {X : Type 0} (r : ℕ) (x : X) (rows : Rows X) → references (rows ++ (r, x) ∷ []) ≡ references rows ++ r ∷ []
join_named r x [] = refl
join_named r x ((q, y) ∷ rows) = ap (λ (l : List ℕ). q ∷ l) (join_named r x rows)

there_by : {X Y : Type 0} (r q : ℕ) (x : X) (y : Y) (xs : Rows X) (ys : Rows Y) (b : Bool) → (q == r) ≡ b →
    is_some (value_at r xs) ≡ is_some (value_at r ys) →
    is_some (value_at r ((q, x) ∷ xs)) ≡ is_some (value_at r ((q, y) ∷ ys))
there_by r q x y xs ys b e more = grind arith

there_named : {X Y : Type 0} (r : ℕ) (xs : Rows X) (ys : Rows Y) → references xs ≡ references ys →
    is_some (value_at r xs) ≡ is_some (value_at r ys)
there_named r [] [] e = refl
there_named r ((q, x) ∷ xs) ((p, y) ∷ ys) e =
    let head : q ≡ p = cc in
    let tail : references xs ≡ references ys = cc in
    there_by r q x y xs ys (q == r) refl (there_named r xs ys tail) ∙ ap (λ (n : ℕ). is_some (value_at r ((n, y) ∷ ys))) head
there_named r xs ys e = absurd (cc)

-- ---- what a unit or a call does to the selectors

-- they stay with the connections, a connection loses them with its end, or a new one brings them, or all are lost
abbrev pub Naming : State → State → Type 0
Naming s t =
    ((t.tsaps ≡ s.tsaps) × (references t.live ≡ references s.live))
    ⊎ (((r : ℕ) × (t.tsaps ≡ without r s.tsaps) × (t.live ≡ without r s.live))
    ⊎ (((c : Connection) × (ids : TsapIds) × (t.tsaps ≡ s.tsaps ++ (s.given + 1, ids) ∷ []) × (t.live ≡ s.live ++ (s.given + 1, c) ∷ []))
    ⊎ ((t.tsaps ≡ []) × (t.live ≡ []))))

-- ---- calls

asks_names : (calling called : Option (List ℕ)) (s : State) → Naming s (asks calling called s)
asks_names calling called s = inr (inr (inl (asked, _, refl, refl)))

pub sent_names : (r : ℕ) (octets : List ℕ) (link : Option (ℕ × Standing)) (s : State) → Naming s (sent_on r octets link s)
sent_names r octets None s = inl (refl, refl)
sent_names r octets (Some (peer, link)) s = inl (refl, put_named r _ s.live)

pub closes_names : (r peer reason : ℕ) (held : Option Class) (s : State) → Naming s (closes r peer reason held s)
closes_names r peer reason (Some Zero) s = inr (inr (inr (refl, refl)))
closes_names r peer reason held s = inl (refl, put_named r _ s.live)

closed_names : (r reason : ℕ) (link : Option (ℕ × Standing)) (s : State) → Naming s (closed_on r reason link s)
closed_names r reason None s = inl (refl, refl)
closed_names r reason (Some (peer, link)) s = closes_names r peer reason s.class s

-- ---- references stay named

pub named : (s t : State) → Naming s t → AreNamed s → AreNamed t
named s t h h_ = grind (arith, drop_named, join_named)

pub keeps : (s t : State) → Naming s t → IsOrderly s → KeepsTsaps s t
keeps s t (inl h) orderly q within there = ap (value_at q) h.0
keeps s t (inr (inl h)) orderly q within there = grind (arith, eqb-true, without_here, is_some, without_other, eq-eqb)
keeps s t (inr (inr (inl h))) orderly q within there = grind (arith, push_other)
keeps s t (inr (inr (inr h))) orderly q within there = grind arith

-- ---- the laws

pub known_is : (r : ℕ) (s : State) → AreNamed s → is_some (tsaps_at r s) ≡ is_some (value_at r s.live)
known_is r s h = there_named r s.tsaps s.live h

pub fresh_named : (is_caller : Bool) (local : Local) → AreNamed (fresh_state is_caller local)
fresh_named is_caller local = refl

pub asks_named : (calling called : Option (List ℕ)) (s : State) → AreNamed s → AreNamed (asks calling called s)
asks_named calling called s h = named s (asks calling called s) (asks_names calling called s) h

pub sent_named : (r : ℕ) (tsdu : List ℕ) (s : State) → AreNamed s → AreNamed (sent r tsdu s)
sent_named r tsdu s h = named s (sent r tsdu s) (sent_names r tsdu (open_link r s) s) h

pub sent_all_named : (r : ℕ) (tsdus : List (List ℕ)) (s : State) → AreNamed s → AreNamed (sent_all r tsdus s)
sent_all_named r [] s h = h
sent_all_named r (tsdu ∷ tsdus) s h = sent_all_named r tsdus (sent r tsdu s) (sent_named r tsdu s h)

pub closed_named : (r reason : ℕ) (s : State) → AreNamed s → AreNamed (closed_with r reason s)
closed_named r reason s h = named s (closed_with r reason s) (closed_names r reason (open_link r s) s) h

pub ended_named : (reason : EndReason) (s : State) → AreNamed s → AreNamed (ended_by reason s)
ended_named reason s h = grind arith

pub asks_keeps : (calling called : Option (List ℕ)) (s : State) → IsOrderly s → KeepsTsaps s (asks calling called s)
asks_keeps calling called s orderly = keeps s (asks calling called s) (asks_names calling called s) orderly

pub sent_keeps : (r : ℕ) (tsdu : List ℕ) (s : State) → IsOrderly s → KeepsTsaps s (sent r tsdu s)
sent_keeps r tsdu s orderly = keeps s (sent r tsdu s) (sent_names r tsdu (open_link r s) s) orderly

sent_all_tsaps : (r : ℕ) (tsdus : List (List ℕ)) (s : State) → (sent_all r tsdus s).tsaps ≡ s.tsaps
sent_all_tsaps r [] s = refl
sent_all_tsaps r (tsdu ∷ tsdus) s = sent_all_tsaps r tsdus (sent r tsdu s) ∙ (grind arith)

pub sent_all_keeps : (r : ℕ) (tsdus : List (List ℕ)) (s : State) → IsOrderly s → KeepsTsaps s (sent_all r tsdus s)
sent_all_keeps r tsdus s orderly q within there = ap (value_at q) (sent_all_tsaps r tsdus s)

pub closed_keeps : (r reason : ℕ) (s : State) → IsOrderly s → KeepsTsaps s (closed_with r reason s)
closed_keeps r reason s orderly = keeps s (closed_with r reason s) (closed_names r reason (open_link r s) s) orderly
