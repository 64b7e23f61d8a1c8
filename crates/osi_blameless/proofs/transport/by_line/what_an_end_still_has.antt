-- Which connections a calling end of class 2 still has after a unit or a call: all but the one that a DR, DC or ER names.
-- For the law on DRs.
use Rattle.osi_blameless.proofs.transport.Vocabulary.{[], acknowledge, ap, arith, asked, before_class, Bool, Class, closed_on, closing}
use Rattle.osi_blameless.proofs.transport.Vocabulary.{confirm, confirmed}
use Rattle.osi_blameless.proofs.transport.Vocabulary.{Connect, connects, data2, disconnect, disconnected, EndReason, eq-eqb, eqb-true}
use Rattle.osi_blameless.proofs.transport.Vocabulary.{error, false}
use Rattle.osi_blameless.proofs.transport.Vocabulary.{if◌then◌else◌, in_two, is_some, leaves, Left, linked, LinkFault, List}
use Rattle.osi_blameless.proofs.transport.Vocabulary.{Live as Connection, Local}
use Rattle.osi_blameless.proofs.transport.Vocabulary.{None, open_link, opens, Option, proposal, proposal_by, put, put_here, put_other, refl}
use Rattle.osi_blameless.proofs.transport.Vocabulary.{request}
use Rattle.osi_blameless.proofs.transport.Vocabulary.{Result, Rows, sent, sent_all, Some, Standing, State, taking, to_asked, to_closing}
use Rattle.osi_blameless.proofs.transport.Vocabulary.{to_connection}
use Rattle.osi_blameless.proofs.transport.Vocabulary.{to_linked, true, Two, user_does, UserCall, Value, value_at, without, without_other}
use Rattle.osi_blameless.proofs.transport.Vocabulary.{Zero, ℕ, ◌&&◌}
use Rattle.osi_blameless.proofs.transport.Vocabulary.{◌++◌, ◌+◌, ◌==◌, ◌∙◌, ◌∷◌, ◌≡◌, ◌⊎◌}
use Rattle.osi_carrier.specs.Calls.{sent_on}
unfoldable use Rattle.osi_carrier.specs.React.{react}
use Rattle.osi_blameless.proofs.transport.small_facts_that_many_lemmas_use.{no_two, none_of}
use Rattle.osi_blameless.proofs.transport.connections.what_is_live_at_an_end.{IsLive, shuts_of}
use Rattle.osi_blameless.proofs.transport.class_0.a_dt_of_class_zero_passes.{unlike}

-- a calling end that offers class 2, while class 0 is not selected
pub record OffersTwo (s : State) : Type 0 where
  pub caller : s.is_caller ≡ true
  pub two : s.local.class2 ≡ true
  pub class : (s.class ≡ None) ⊎ (s.class ≡ Some Two)

-- ---- rows

abbrev Has : Rows Connection → ℕ → Type 0
Has rows m = is_some (value_at m rows) ≡ true

has_put : (m r : ℕ) (c : Connection) (rows : Rows Connection) → Has rows m → Has (put r c rows) m
has_put m r c rows h = grind (arith, eqb-true, put_here, put_other, unlike)

has_push : (m n : ℕ) (x : Connection) (rows : Rows Connection) → Has rows m → Has (rows ++ (n, x) ∷ []) m
has_push m n x [] h = absurd (cc h)
has_push m n x ((q, y) ∷ rows) h = grind (arith, has_push m n x rows)

last_by : (b : Bool) (c : Connection) (o : Option Connection) → is_some o ≡ true → is_some (if b then Some c else o) ≡ true
last_by b c o h = grind arith

has_last : (n : ℕ) (x : Connection) (rows : Rows Connection) → Has (rows ++ (n, x) ∷ []) n
has_last n x [] = ap (λ (b : Bool). is_some (if◌then◌else◌ {A = Option Connection} b (Some x) None)) (eq-eqb n n refl)
has_last n x ((q, y) ∷ rows) = last_by (q == n) y (value_at n (rows ++ (n, x) ∷ [])) (has_last n x rows)

-- ---- a unit

pub record After (unit : Value) (s t : State) : Type 0 where
  pub offers : OffersTwo t
  pub local : t.local ≡ s.local
  pub class : s.class ≡ Some Two → t.class ≡ Some Two
  pub live : t.ended ≡ None → (m : ℕ) → IsLive s m → (shuts_of Left unit ≡ Some m → ⊥) → IsLive t m

pub stays : (s t : State) → OffersTwo s → t.is_caller ≡ s.is_caller → t.local ≡ s.local → t.class ≡ s.class → OffersTwo t
stays s t o a b c = search (arith)

pub over_not : {A : Type 0} (o : Option EndReason) → is_some o ≡ true → o ≡ None → A
over_not o h e = grind arith

after_end : (unit : Value) (s t : State) → OffersTwo s → t.is_caller ≡ s.is_caller → t.local ≡ s.local → t.class ≡ s.class →
    is_some t.ended ≡ true → After unit s t
after_end unit s t o a b c over = search (arith, stays, over_not)

after_drop : (unit : Value) (s t : State) (r : ℕ) → OffersTwo s → t.is_caller ≡ s.is_caller → t.local ≡ s.local → t.class ≡ s.class →
    shuts_of Left unit ≡ Some r → t.live ≡ without r s.live → After unit s t
after_drop unit s t r o a b c closed e = grind (arith, stays, without_other)

-- a CC selects class 2
abbrev pub Selects : Value → Type 0
Selects unit = (m : ℕ) (x : Connect) → unit ≡ confirm m x → (x.class == 2) ≡ true

-- if the end awaits it
abbrev pub SelectsTwo : State → Value → Type 0
SelectsTwo s unit = s.ended ≡ None → (m : ℕ) (x : Connect) → unit ≡ confirm m x → value_at m s.live ≡ Some asked → (x.class == 2) ≡ true

-- so it does not select class 0
pub not_zero : (x : Connect) (b : Bool) → (x.class == 2) ≡ true → ((x.class == 0) && b) ≡ false
not_zero x b h = no_two (x.class == 0) b (grind (arith, eqb-true))

opens_after : (r : ℕ) (x : Connect) (s : State) → OffersTwo s → (x.class == 2) ≡ true →
    After (confirm r x) s (opens r x (confirmed x s.local s.class) s).state
opens_after r x s o two = grind (arith, has_put, after_end, not_zero)

-- a CC closes nothing, whatever it names
widen : (r n : ℕ) (x : Connect) (s : State) → After (confirm r x) s (opens r x (confirmed x s.local s.class) s).state →
    After (confirm n x) s (opens r x (confirmed x s.local s.class) s).state
widen r n x s a = record { offers = a.offers; local = a.local; class = a.class; live = a.live }

asked_after : (r : ℕ) (unit : Value) (s : State) → OffersTwo s → Selects unit → ((n : ℕ) → shuts_of Left unit ≡ Some n → n ≡ r) →
    After unit s (to_asked r unit s).state
asked_after r (confirm destination x) s o two is = widen r destination x s (opens_after r x s o (two destination x refl))
asked_after r (disconnect destination source reason user) s o two is =
    after_drop (disconnect destination source reason user) s _ r o refl refl refl
    (ap (λ (n : ℕ). Some n) (is destination refl)) refl
asked_after r (disconnected destination source) s o two is = grind (arith, stays)
asked_after r (error destination cause) s o two is =
    after_drop (error destination cause) s (to_asked r (error destination cause) s).state r o refl refl refl
    (ap (λ (n : ℕ). Some n) (is destination refl)) refl
asked_after r v s o two is = grind (arith, after_end)

taking_after : (unit : Value) (r peer : ℕ) (result : Result Standing LinkFault) (s : State) → OffersTwo s →
    After unit s (taking r peer result s).state
taking_after unit r peer result s o = grind (arith, has_put, after_end)

leaves_by : (unit : Value) (r peer reason : ℕ) (k : Option Class) (s : State) → OffersTwo s → shuts_of Left unit ≡ Some r →
    After unit s (leaves r peer reason k s).state
leaves_by unit r peer reason None s o e = after_end unit s (leaves r peer reason None s).state o refl refl refl refl
leaves_by unit r peer reason (Some Zero) s o e = after_end unit s (leaves r peer reason (Some Zero) s).state o refl refl refl refl
leaves_by unit r peer reason (Some Two) s o e = after_drop unit s (leaves r peer reason (Some Two) s).state r o refl refl refl e refl

linked_after : (r peer : ℕ) (link : Standing) (unit : Value) (s : State) → OffersTwo s → ((n : ℕ) → shuts_of Left unit ≡ Some n → n ≡ r) →
    After unit s (to_linked r peer link unit s).state
linked_after r peer link (disconnect destination source reason user) s o is = search (arith, leaves_by)
linked_after r peer link v s o is = search (arith, taking_after)

closing_after : (r : ℕ) (unit : Value) (s : State) → OffersTwo s → ((n : ℕ) → shuts_of Left unit ≡ Some n → n ≡ r) →
    After unit s (to_closing r unit s).state
closing_after r (disconnect destination source reason user) s o is =
    after_drop (disconnect destination source reason user) s _ r o refl refl refl
    (ap (λ (n : ℕ). Some n) (is destination refl)) refl
closing_after r (disconnected destination source) s o is =
    after_drop (disconnected destination source) s (to_closing r (disconnected destination source) s).state r o refl refl refl
    (ap (λ (n : ℕ). Some n) (is destination refl)) refl
closing_after r v s o is = grind (arith, stays)

connection_after : (r : ℕ) (o : Option Connection) (unit : Value) (s : State) → OffersTwo s → (o ≡ Some asked → Selects unit) →
    ((n : ℕ) → shuts_of Left unit ≡ Some n → n ≡ r) → After unit s (to_connection r o unit s).state
connection_after r None unit s h two is = grind (arith, after_end)
connection_after r (Some asked) unit s h two is = asked_after r unit s h (two refl) is
connection_after r (Some (linked peer link)) unit s h two is = linked_after r peer link unit s h is
connection_after r (Some (closing peer)) unit s h two is = closing_after r unit s h is

-- as long as the end lasts
abbrev SelectsNow : State → Value → Type 0
SelectsNow s unit = (m : ℕ) (x : Connect) → unit ≡ confirm m x → value_at m s.live ≡ Some asked → (x.class == 2) ≡ true

before_after : (unit : Value) (s : State) → OffersTwo s → SelectsNow s unit → After unit s (before_class true unit s).state
before_after unit s o two = grind (arith, connection_after, after_end)

two_after : (unit : Value) (s : State) → OffersTwo s → SelectsNow s unit → After unit s (in_two true unit s).state
two_after (confirm destination x) s o two = grind (arith, connection_after)
two_after (disconnect destination source reason user) s o two = grind (arith, connection_after)
two_after (disconnected destination source) s o two = grind (arith, connection_after)
two_after (data2 destination number end user) s o two = grind (arith, connection_after)
two_after (acknowledge credit destination number) s o two = grind (arith, connection_after)
two_after (error destination cause) s o two = grind (arith, connection_after)
two_after v s o two = after_end v s (in_two true v s).state o refl refl refl refl

pub unit_after : (unit : Value) (s : State) → OffersTwo s → SelectsTwo s unit → After unit s (react unit s)
unfolding react
unit_after unit s o two = grind (arith, stays, before_after, two_after, none_of)

-- ---- a call

pub record AfterCall (s t : State) : Type 0 where
  pub offers : OffersTwo t
  pub local : t.local ≡ s.local
  pub live : t.ended ≡ None → (m : ℕ) → IsLive s m → IsLive t m

sent_after : (r : ℕ) (tsdu : List ℕ) (o : Option (ℕ × Standing)) (s : State) → OffersTwo s → AfterCall s (sent_on r tsdu o s)
sent_after r tsdu h s o = grind (arith, has_put)

pub sent_lasts : (r : ℕ) (tsdu : List ℕ) (o : Option (ℕ × Standing)) (s : State) → (sent_on r tsdu o s).ended ≡ s.ended
sent_lasts r tsdu o s = grind arith

pub all_last : (r : ℕ) (tsdus : List (List ℕ)) (s : State) → (sent_all r tsdus s).ended ≡ s.ended
all_last r [] s = refl
all_last r (tsdu ∷ tsdus) s = all_last r tsdus (sent r tsdu s) ∙ sent_lasts r tsdu (open_link r s) s

all_after : (r : ℕ) (tsdus : List (List ℕ)) (s : State) → OffersTwo s → AfterCall s (sent_all r tsdus s)
all_after r [] s o = grind arith
all_after r (tsdu ∷ tsdus) s o =
    let a = sent_after r tsdu (open_link r s) s o in
    grind (arith, all_last, all_after r tsdus (sent r tsdu s) a.offers)

closed_after : (r reason : ℕ) (o : Option (ℕ × Standing)) (s : State) → OffersTwo s → AfterCall s (closed_on r reason o s)
closed_after r reason o s h = grind (arith, has_put, stays)

pub call_after : (call : UserCall) (s : State) → OffersTwo s → AfterCall s (user_does call s)
call_after call s o = grind (arith, stays, has_push, sent_after, all_after, closed_after)

-- a new connection
pub new_live : (calling called : Option (List ℕ)) (s : State) → IsLive (user_does (connects calling called) s) (s.given + 1)
new_live calling called s = has_last (s.given + 1) asked s.live

by_proposal : (b : Bool) (local : Local) (held : Option Class) (calling called : Option (List ℕ)) (r : ℕ) →
    (proposal_by b local held calling called r).source ≡ r
by_proposal b local held calling called r = grind arith

same_request : (x y : Connect) → request x ≡ request y → y ≡ x
same_request x y e = cc

-- its CR gives the next reference
pub source_so : (calling called : Option (List ℕ)) (s : State) (y : Connect) →
    request (proposal s.local s.class calling called (s.given + 1)) ≡ request y → s.given + 1 ≡ y.source
source_so calling called s y e = grind (arith, by_proposal, same_request)
