-- What a calling end does while no class is selected: it asks for one connection, and for no other.
-- For the law on requests.
use Rattle.osi_blameless.proofs.transport.Vocabulary.{arith, [], ap, Bool, false, if◌then◌else◌, is_some, List, None, Option, refl, Some}
use Rattle.osi_blameless.proofs.transport.Vocabulary.{subst, sym, true}
use Rattle.osi_blameless.proofs.transport.Vocabulary.{ℕ, ◌+◌, ◌∙◌, ◌∷◌, ◌≡◌, eq-eqb, not, ◌||◌, Connect, disconnect, disconnected, error}
use Rattle.osi_blameless.proofs.transport.Vocabulary.{request, Value}
use Rattle.osi_blameless.proofs.transport.Vocabulary.{Standing, Local, class_error, link_of, may_connect, open_link, sent_all, proposal}
use Rattle.osi_blameless.proofs.transport.Vocabulary.{before_class}
use Rattle.osi_blameless.proofs.transport.Vocabulary.{to_connection, Rows, value_at, breaks, closes_call as closes, connects, sends}
use Rattle.osi_blameless.proofs.transport.Vocabulary.{sends_all}
use Rattle.osi_blameless.proofs.transport.Vocabulary.{user as by_user, user_does, UserCall, asked, Live as Connection, ends, EndReason}
use Rattle.osi_blameless.proofs.transport.Vocabulary.{OpenError}
use Rattle.osi_blameless.proofs.transport.Vocabulary.{offer_of, Offer, asks_with, put_by, put_for, put_together, MayCall, outcome}
use Rattle.osi_blameless.proofs.transport.Vocabulary.{CarrierOutcome}
use Rattle.osi_blameless.proofs.transport.Vocabulary.{puts_none}
unfoldable use Rattle.osi_carrier.specs.React.{react}
use Rattle.osi_carrier.specs.State.{State}
use Rattle.osi_blameless.proofs.transport.small_facts_that_many_lemmas_use.{and_second, or_last}
use Rattle.osi_blameless.proofs.transport.requests.while_no_class_is_selected.{IsDc, IsRefusal}

abbrev pub IsOver : State → Type 0
IsOver s = is_some s.ended ≡ true

-- no class is selected, and these connections are live
pub record IsCalling (rows : Rows Connection) (s : State) : Type 0 where
  pub lasts : s.ended ≡ None
  pub caller : s.is_caller ≡ true
  pub class : s.class ≡ None
  pub live : s.live ≡ rows

abbrev pub one : ℕ → Rows Connection
one r = (r, asked) ∷ []

-- ---- a unit, while no class is selected

pub outcome_is : (rows : Rows Connection) (unit : Value) (s : State) → IsCalling rows s → outcome unit s ≡ before_class true unit s
outcome_is rows unit s is = grind arith

-- the end has put nothing, and is so after the unit
pub record Puts (P : State → Type 0) (unit : Value) (s : State) : Type 0 where
  pub put : put_for unit s ≡ []
  pub after : P (react unit s)

pub puts : (P : State → Type 0) (rows : Rows Connection) (unit : Value) (s : State) → IsCalling rows s →
    (before_class true unit s).put ≡ [] → P (before_class true unit s).state → Puts P unit s
unfolding react
puts P rows unit s is none h =
    subst (λ (x : CarrierOutcome). x.put ≡ [] → P x.state → Puts P unit s) (outcome_is rows unit s is)
    (λ put after. record { put = put; after = after }) none h

pub dc_ends : (rows : Rows Connection) (unit : Value) (s : State) → IsDc unit → IsCalling rows s → Puts IsOver unit s
dc_ends rows (disconnected destination source) s h is = puts IsOver rows (disconnected destination source) s is refl refl
dc_ends rows _ s h is = absurd h

-- after the end a unit changes nothing
pub over_takes : (unit : Value) (s : State) → IsOver s → (react unit s ≡ s) × (put_for unit s ≡ [])
unfolding react
over_takes unit s h = grind arith

-- ---- its CR is refused

value_one : (r : ℕ) (s : State) → IsCalling (one r) s → value_at r s.live ≡ Some asked
value_one r s is = grind (arith, eq-eqb)

-- it may ask again
abbrev pub Again : State → State → Type 0
Again s t = IsCalling [] t × (t.local ≡ s.local)

refused_takes : (r : ℕ) (unit : Value) (s t : State) → IsCalling (one r) s →
    before_class true unit s ≡ to_connection r (value_at r s.live) unit s → to_connection r (Some asked) unit s ≡ puts_none t →
    Again s t → Puts (Again s) unit s
refused_takes r unit s t is b e h =
    let same = b ∙ ap (λ (o : Option Connection). to_connection r o unit s) (value_one r s is) ∙ e in
    puts (Again s) (one r) unit s is (ap (λ (x : CarrierOutcome). x.put) same)
    (subst (Again s) (sym (ap (λ (x : CarrierOutcome). x.state) same)) h)

pub refusal_takes : (r : ℕ) (unit : Value) (s : State) → IsRefusal r unit → IsCalling (one r) s → Puts (Again s) unit s
refusal_takes r (request c) s h is = absurd h
refusal_takes r (disconnect destination source reason user) s e is =
    refused_takes r (disconnect destination source reason user) s _ is
    (ap (λ (n : ℕ). to_connection n (value_at n s.live) (disconnect destination source reason user) s) e) refl
    (record { lasts = is.lasts; caller = is.caller; class = is.class; live = (grind (arith, eq-eqb)) }, refl)
refusal_takes r (error destination cause) s e is =
    refused_takes r (error destination cause) s _ is
    (ap (λ (n : ℕ). to_connection n (value_at n s.live) (error destination cause) s) e) refl
    (record { lasts = is.lasts; caller = is.caller; class = is.class; live = (grind (arith, eq-eqb)) }, refl)
refusal_takes r _ s h is = absurd h

-- ---- a call

pub may_so : (s : State) → may_connect s ≡ None → (is_some s.ended ≡ false) × (class_error s.class s.live ≡ None)
may_so s h = grind arith

pub never : {A : Type 0} (e : OpenError) (o : Option OpenError) → o ≡ Some e → o ≡ None → A
never e o h k = absurd (cc)

abbrev pub NoneOpen : State → Type 0
NoneOpen s = (q : ℕ) → open_link q s ≡ None

pub all_none : (r : ℕ) (tsdus : List (List ℕ)) (s : State) → NoneOpen s → (sent_all r tsdus s ≡ s) × (put_together r tsdus s ≡ [])
all_none r [] s h = (refl, refl)
all_none r (tsdu ∷ tsdus) s h = grind (arith, all_none r tsdus s h)

-- a call of which nothing comes, and one that ends the carrier
pub data Idle (call : UserCall) (s : State) : Type 0 where
  same : user_does call s ≡ s → put_by call s ≡ [] → asks_with (by_user call) s ≡ [] → Idle call s
  broke : IsOver (user_does call s) → put_by call s ≡ [] → asks_with (by_user call) s ≡ [] → Idle call s

ended_over : (b : Bool) (reason : EndReason) (s : State) → is_some s.ended ≡ b → IsOver (if b then s else ends reason s)
ended_over b reason s h = grind arith

pub none_over : (s : State) → IsOver s → NoneOpen s
none_over s h q = ap (λ (b : Bool). if◌then◌else◌ {A = Option (ℕ × Standing)} b None (link_of (value_at q s.live))) h

pub over_calls : (call : UserCall) (s : State) → IsOver s → MayCall call s → Idle call s
over_calls call s h may = grind (arith, all_none, ended_over)

none_by : (rows : Rows Connection) (s : State) → IsCalling rows s → ((q : ℕ) → link_of (value_at q rows) ≡ None) → NoneOpen s
none_by rows s is h q = grind arith

-- an end whose CR is not answered asks for no other connection
pub one_calls : (r : ℕ) (call : UserCall) (s : State) → IsCalling (one r) s → MayCall call s → Idle call s
one_calls r call s is may = grind (arith, all_none, ended_over, none_by, never, may_so)

-- a CR offers only classes that the end has, and class 0 if it has none
pub record Offers (local : Local) (o : Offer) : Type 0 where
  pub two : o.class2 ≡ true → local.class2 ≡ true
  pub zero : o.class0 ≡ true → (local.class0 || not local.class2) ≡ true

-- an end without a connection may ask for one
pub data Calls (call : UserCall) (s : State) : Type 0 where
  idles : Idle call s → Calls call s
  asks_one : (x : Connect) → put_by call s ≡ request x ∷ [] → IsCalling (one x.source) (user_does call s) →
      (user_does call s).local ≡ s.local → Offers s.local (offer_of x) → Calls call s

none_calls_by : (call : UserCall) (s : State) → IsCalling [] s → NoneOpen s → MayCall call s → Calls call s
none_calls_by (connects calling called) s is none may =
    let x = proposal s.local s.class calling called (s.given + 1) in
    asks_one x refl (grind arith) refl (grind (arith, and_second, or_last))
none_calls_by (sends r tsdu) s is none may = idles (grind arith)
none_calls_by (sends_all r tsdus) s is none may = idles (grind (arith, all_none))
none_calls_by (closes r reason) s is none may = idles (grind arith)
none_calls_by (breaks reason) s is none may = idles (grind (arith, ended_over))

pub none_calls : (call : UserCall) (s : State) → IsCalling [] s → MayCall call s → Calls call s
none_calls call s is may = none_calls_by call s is (none_by [] s is (λ q. refl)) may
