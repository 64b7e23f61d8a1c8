-- What a calling end has of a connection after it has taken a unit that names it.
-- For the law on a whole end.
use Rattle.osi_blameless.proofs.transport.Vocabulary.{[], agreed_size, AllByRecursion, ap, arith, asked, Bool, closing, confirm, Connect}
use Rattle.osi_blameless.proofs.transport.Vocabulary.{destination_of}
use Rattle.osi_blameless.proofs.transport.Vocabulary.{disconnect, disconnected, Err, error, false, handed_out, if◌then◌else◌, in_two, inl}
use Rattle.osi_blameless.proofs.transport.Vocabulary.{inr, is_some}
use Rattle.osi_blameless.proofs.transport.Vocabulary.{Left, linked, LinkFault, List, Live, None, Ok, opened_link, opens, Option, outcome}
use Rattle.osi_blameless.proofs.transport.Vocabulary.{proposes_zero}
use Rattle.osi_blameless.proofs.transport.Vocabulary.{pumped, put_here, refl, Result, RiseFrom, Some, Standing, State, state_is, sym}
use Rattle.osi_blameless.proofs.transport.Vocabulary.{taking, to_asked}
use Rattle.osi_blameless.proofs.transport.Vocabulary.{to_connection, to_linked, to_unknown, true, Two, Value, value_at, without_here, Zero}
use Rattle.osi_blameless.proofs.transport.Vocabulary.{ℕ, ◌++◌, ◌∙◌}
use Rattle.osi_blameless.proofs.transport.Vocabulary.{◌∷◌, ◌≡◌, ◌≢◌, ◌⊎◌}
unfoldable use Rattle.osi_carrier.specs.React.{react}
use Rattle.osi_blameless.proofs.transport.small_facts_that_many_lemmas_use.{differ, first_is, no_list, number_is, rest_is}
use Rattle.osi_blameless.proofs.transport.requests.how_a_calling_end_asks.{IsCalling, outcome_is}
use Rattle.osi_blameless.proofs.transport.by_line.what_an_end_still_has.{OffersTwo, Selects, not_zero, over_not}
use Rattle.osi_blameless.proofs.transport.connections.what_the_other_side_closes.{IsDr}
use Rattle.osi_blameless.proofs.transport.connections.which_units_are_for_a_connection.{IsDc, is_dc}
use Rattle.osi_blameless.proofs.transport.connections.what_is_live_at_an_end.{shuts_of}

-- ---- for which connection it is

-- it names a connection, and takes effect there
pub record Named (u : Value) (s : State) : Type 0 where
  pub n : ℕ
  pub dest : destination_of u ≡ Some n
  pub is : outcome u s ≡ to_connection n (value_at n s.live) u s

pub two_outcome : (u : Value) (s : State) → OffersTwo s → s.ended ≡ None → s.class ≡ Some Two → outcome u s ≡ in_two true u s
two_outcome u s o lasts two = grind arith

named_before : (u : Value) (s : State) → IsCalling s.live s → (react u s).ended ≡ None → Named u s
named_before v s is lasts = grind (arith, outcome_is, state_is)

pub named_by : (u : Value) (s : State) → OffersTwo s → s.ended ≡ None → (s.class ≡ None) ⊎ (s.class ≡ Some Two) → (react u s).ended ≡ None →
    Named u s
named_by u s o was h lasts = grind (arith, named_before, two_outcome, state_is)

-- ---- what the end has after it

-- a unit for a reference that is gone
pub unknown_so : (u : Value) (s t : State) (n : ℕ) → destination_of u ≡ Some n → t ≡ (to_unknown u s).state → t.ended ≡ None →
    (IsDr u → ⊥) → t ≡ s
unknown_so u s t n d e lasts none = grind (arith, over_not)

-- a unit for a connection that is closing
pub data Closes (n q : ℕ) (s t : State) : Type 0 where
  stays : t ≡ s → Closes n q s t
  drops : value_at n t.live ≡ None → Closes n q s t

-- a unit for an open connection
pub data Linked (n peer : ℕ) (t : State) : Type 0 where
  still : (link : Standing) → value_at n t.live ≡ Some (linked peer link) → Linked n peer t
  ends : (o : Option Live) → value_at n t.live ≡ o → (q : ℕ) → (o ≡ Some (closing q)) ⊎ (o ≡ None) → Linked n peer t

linked_taking : (n peer : ℕ) (link : Standing) (result : Result Standing LinkFault) (s t : State) →
    value_at n s.live ≡ Some (linked peer link) → s.class ≡ Some Two → t ≡ (taking n peer result s).state → Linked n peer t
linked_taking n peer link (Ok after) s t here two e =
    still (pumped (handed_out after)) (grind (arith, put_here))
linked_taking n peer link (Err fault) s t here two e =
    ends (Some (closing peer)) (grind (arith, put_here)) peer (inl refl)

pub linked_so : (n peer : ℕ) (link : Standing) (u : Value) (s t : State) → value_at n s.live ≡ Some (linked peer link) →
    s.class ≡ Some Two → RiseFrom 0 s.live → t ≡ (to_linked n peer link u s).state → Linked n peer t
linked_so n peer link (disconnect destination source reason user) s t here two rise e =
    ends None (grind (arith, without_here)) peer (inr refl)
linked_so n peer link v s t here two rise e = search (arith, linked_taking)

-- a unit for a connection that awaits its CC
pub data Asks (n : ℕ) (u : Value) (s t : State) : Type 0 where
  opened : (x : Connect) → u ≡ confirm n x →
      value_at n t.live ≡ Some (linked x.source (opened_link Two (agreed_size x.parameters.size s.local) s.local x.credit)) →
      t.class ≡ Some Two → Asks n u s t
  no_answer : is_dc u ≡ false → ((x : Connect) → u ≡ confirm n x → ⊥) → value_at n t.live ≡ None → Asks n u s t
  early_dc : is_dc u ≡ true → value_at n t.live ≡ Some asked → Asks n u s t

opens_by : (n : ℕ) (x : Connect) (a z : Bool) (s t : State) → value_at n s.live ≡ Some asked → z ≡ false →
    t ≡ (opens n x (if a then Some Two else (if z then Some Zero else None)) s).state → t.ended ≡ None → Asks n (confirm n x) s t
opens_by n x true z s t here none e lasts =
    let link = opened_link Two (agreed_size x.parameters.size s.local) s.local x.credit in
    opened x refl (ap (λ (y : State). value_at n y.live) e ∙ put_here n (linked x.source link) asked s.live here)
    (ap (λ (y : State). y.class) e)
opens_by n x false false s t here none e lasts = over_not t.ended (ap (λ (y : State). is_some y.ended) e) lasts
opens_by n x false true s t here none e lasts = cc

pub asked_puts : (n : ℕ) (u : Value) (s : State) → (to_asked n u s).put ≡ []
asked_puts n u s = search arith

pub asked_so : (n : ℕ) (u : Value) (s t : State) → OffersTwo s → Selects u → RiseFrom 0 s.live → value_at n s.live ≡ Some asked →
    destination_of u ≡ Some n → t ≡ (to_asked n u s).state → t.ended ≡ None → Asks n u s t
asked_so n (confirm destination x) s t o two rise here d e lasts =
    search (arith, opens_by, number_is destination n d, not_zero x (proposes_zero s.local s.class) (two destination x refl))
asked_so n (disconnect destination source reason user) s t o two rise here d e lasts = grind (arith, without_here)
asked_so n (disconnected destination source) s t o two rise here d e lasts = grind arith
asked_so n (error destination cause) s t o two rise here d e lasts = grind (arith, without_here)
asked_so n _ s t o two rise here d e lasts = grind (arith, over_not)

-- what comes first is a DC, or the unit that comes after the DCs
pub early_parts : (early : List Value) (u v : Value) (us vs : List Value) → AllByRecursion IsDc early → u ∷ us ≡ early ++ v ∷ vs →
    (is_dc u ≡ true → is_dc v ≡ false → (more : List Value) × (AllByRecursion IsDc more × (us ≡ more ++ v ∷ vs)))
    × (is_dc u ≡ false → (u ≡ v) × (us ≡ vs))
early_parts [] u v us vs dcs e = grind (arith, differ, first_is, rest_is)
early_parts (d ∷ ds) u v us vs (one, more) e = grind (arith, rest_is, differ, first_is)

pub dr_closes : (u : Value) (n : ℕ) → IsDr u → destination_of u ≡ Some n → shuts_of Left u ≡ Some n
dr_closes u n dr e = grind arith

-- whether it is a DR
pub data Kind (u : Value) : Type 0 where
  disconnects : (d m reason : ℕ) (user : List ℕ) → u ≡ disconnect d m reason user → Kind u
  no_disconnect : (IsDr u → ⊥) → Kind u

pub or_strays : {A : Type 0} (o : Option Live) → o ≡ None → (is_some o ≡ true) ⊎ A → A
or_strays o e k = grind (arith, differ)

pub spare_none : (spare : List Value) (link : Option Standing) (l : Standing) → (spare ≢ [] → link ≡ None) → link ≡ Some l → spare ≡ []
spare_none [] link l gone is = refl
spare_none (v ∷ vs) link l gone is = absurd (cc (sym is ∙ gone (no_list v vs)))
