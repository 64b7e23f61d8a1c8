-- What a unit that arrives does to one connection of a carrier, of either class: nothing; it opens it; the link takes it; or the
-- connection or the carrier ends. And what is put then.
-- For the course of a connection.
use Rattle.osi_blameless.proofs.ends.Vocabulary.{[], ap, arith, Bool, Err, false, if◌then◌else◌, IsSome, List, nat_le, nat_lt, None, Ok}
use Rattle.osi_blameless.proofs.ends.Vocabulary.{Option}
use Rattle.osi_blameless.proofs.ends.Vocabulary.{refl, Result, Some, subst, sym, true, ℕ, ◌&&◌, ◌++◌, ◌+◌, ◌∙◌, ◌∷◌, ◌≡◌, ◌≢◌, eq-eqb}
use Rattle.osi_blameless.proofs.ends.Vocabulary.{nat_tests}
use Rattle.osi_blameless.proofs.ends.Vocabulary.{append-nil, AllByRecursion, acknowledge, confirm, data0, data2, disconnect, disconnected}
use Rattle.osi_blameless.proofs.ends.Vocabulary.{error}
use Rattle.osi_blameless.proofs.ends.Vocabulary.{HasFieldsInRange, IsConnect, may_be_followed, request, Value, Standing, taken, accept}
use Rattle.osi_blameless.proofs.ends.Vocabulary.{refuse}
use Rattle.osi_blameless.proofs.ends.Vocabulary.{selected_by, Selection, LinkFault, Class, Two, Zero, Local, changes_one, effect, How}
use Rattle.osi_blameless.proofs.ends.Vocabulary.{push_here}
use Rattle.osi_blameless.proofs.ends.Vocabulary.{put_here, without_here, Happening, told_opened as opened, acceptance, agreed_size}
use Rattle.osi_blameless.proofs.ends.Vocabulary.{confirmed}
use Rattle.osi_blameless.proofs.ends.Vocabulary.{opened_link, connection_by, connection_of, only_of, RiseFrom, answers, before_class}
use Rattle.osi_blameless.proofs.ends.Vocabulary.{denies}
use Rattle.osi_blameless.proofs.ends.Vocabulary.{in_class, in_two, in_zero, leaves, opens_by as opens, settles, taking, to_asked}
use Rattle.osi_blameless.proofs.ends.Vocabulary.{to_closing}
use Rattle.osi_blameless.proofs.ends.Vocabulary.{to_connection, to_linked, to_only, to_reference, to_unknown, put, Rows, value_at, without}
use Rattle.osi_blameless.proofs.ends.Vocabulary.{asked}
use Rattle.osi_blameless.proofs.ends.Vocabulary.{closing, Connection, linked, State as Carrier, has_given, Answers, is_for, Opens}
use Rattle.osi_blameless.proofs.ends.Vocabulary.{IsFreshLink}
use Rattle.osi_blameless.proofs.ends.Vocabulary.{IsShut, is_of_link, CanBeWritten, Connect, breaks, react, outcome_quiet, outcome, Outcome}
use Rattle.osi_blameless.proofs.ends.Vocabulary.{puts}
use Rattle.osi_blameless.proofs.ends.Vocabulary.{puts_none}
use Rattle.osi_carrier.specs.Orderly.{told_of}
use Rattle.osi_blameless.proofs.ends.links.the_connections_of_each_class.{IsSound, zero_asks_none}
use Rattle.osi_blameless.proofs.ends.links.units_of_each_connection.{ArePlain, marked}
use Rattle.osi_blameless.proofs.ends.reading.a_cr_and_a_cc_can_be_written.{HasSizeInRange, cc_plain, selected_in_range}

-- ---- events

-- none of these events is of this connection
abbrev pub NoneOf : ℕ → List Happening → Type 0
NoneOf r events = AllByRecursion (λ event. told_of event ≢ r) events

pub none_more : (r : ℕ) (some others : List Happening) → NoneOf r some → NoneOf r others → NoneOf r (some ++ others)
none_more r [] others a b = b
none_more r (event ∷ some) others a b = (a.0, none_more r some others a.1 b)

none_about : (q r : ℕ) (events : List Happening) → r ≢ q → AllByRecursion (λ event. told_of event ≡ q) events → NoneOf r events
none_about q r [] ne all = tt
none_about q r (event ∷ events) ne all = ((λ same. ne (sym same ∙ all.0)), none_about q r events ne all.1)

-- ---- references

pub given_next : (n : ℕ) → (nat_lt 0 (n + 1) && nat_le (n + 1) (n + 1)) ≡ true
given_next n = grind (arith, nat_tests)

pub next_ungiven : (n : ℕ) → (nat_lt 0 (n + 1) && nat_le (n + 1) n) ≡ false
next_ungiven n = grind (arith, nat_tests)

-- ---- a link as it is opened

fresh_link : (class : Class) (size : Option ℕ) (local : Local) (credit : ℕ) → IsFreshLink (opened_link class size local credit)
fresh_link class size local credit = record { class = class; size = size; local = local; credit = credit; is = refl }

-- ---- what may happen

-- a unit is not for a connection that is open
abbrev pub IsDeaf : ℕ → Value → Carrier → Type 0
IsDeaf r v s = (peer : ℕ) (link : Standing) → value_at r s.live ≡ Some (linked peer link) → is_for r v ≡ false

-- `put`: the units that are put then
pub data Acts (r : ℕ) (v : Value) (put : List Value) (old new : Carrier) : Type 0 where
  -- the carrier ends
  over : IsSome new.ended → Acts r v put old new
  -- nothing happens to the connection
  rests : value_at r new.live ≡ value_at r old.live → has_given r new ≡ has_given r old → (told : List Happening) →
      new.events ≡ old.events ++ told → NoneOf r told → IsDeaf r v old → Acts r v put old new
  -- a CR is accepted at a called end, and this is the next reference
  joins : old.is_caller ≡ false → may_be_followed v ≡ false → has_given r old ≡ false → has_given r new ≡ true → (peer : ℕ)
      (first : Standing) → IsFreshLink first → (value_at r old.live ≡ None → value_at r new.live ≡ Some (linked peer first)) →
      new.events ≡ old.events ++ opened r ∷ [] → Opens false r peer v → Answers r peer v (marked 0 put) → Acts r v put old new
  -- its CC arrives
  answers_it : may_be_followed v ≡ false → value_at r old.live ≡ Some asked → has_given r new ≡ has_given r old → (peer : ℕ)
      (first : Standing) → IsFreshLink first → value_at r new.live ≡ Some (linked peer first) → new.events ≡ old.events ++ opened r ∷ [] →
      ((b : Bool) → Opens b r peer v) → Answers r peer v [] → Acts r v put old new
  -- it ends
  leaves_it : (x : Connection) → value_at r old.live ≡ Some x → has_given r new ≡ has_given r old → IsShut (value_at r new.live) →
      Acts r v put old new

-- the link takes the unit; or it doesn't, and what is put is no DT and no AK, and can be written
pub data Does (r : ℕ) (v : Value) (old : Carrier) (x : Outcome) : Type 0 where
  takes : (peer : ℕ) (link after : Standing) → value_at r old.live ≡ Some (linked peer link) → taken link v ≡ Ok after →
      x ≡ settles r peer after old → Does r v old x
  passes : ArePlain x.put → Acts r v x.put old x.state → Does r v old x

-- ---- a unit of another connection

pub given_by_how : (q r : ℕ) (old new : Carrier) → r ≢ q → new.ended ≡ None → How q old new → has_given r new ≡ has_given r old
given_by_how q r old new ne lasts h = grind arith

pub acts_elsewhere : (r : ℕ) (v : Value) (units : List Value) (s : Carrier) → r ≢ connection_of v s → (react v s).ended ≡ None →
    IsDeaf r v s → Acts r v units s (react v s)
acts_elsewhere r v units s ne lasts deaf =
    let e = effect v s in
    let c = changes_one v s lasts in
    rests (c.others r ne) (given_by_how (connection_of v s) r s (react v s) ne lasts e.how) e.told e.events
    (none_about (connection_of v s) r e.told ne e.about) deaf

-- ---- a unit of this connection

-- the CC names the connection
abbrev IsNamed : ℕ → Value → Type 0
IsNamed r (confirm destination c) = destination ≡ r
IsNamed r v = Unit {0}

module _ (s : Carrier) (rise : RiseFrom 0 s.live) where
  acts_none : (r : ℕ) (v : Value) (units : List Value) (t : Carrier) → t.live ≡ s.live → t.given ≡ s.given → t.events ≡ s.events →
      IsDeaf r v s → Acts r v units s t
  acts_none r v units t live given events deaf =
      rests (ap (value_at r) live) (ap (λ (n : ℕ). nat_lt 0 r && nat_le r n) given) [] (events ∙ sym (append-nil s.events)) tt deaf

  -- nothing is put, or one unit
  nothing : (r : ℕ) (v : Value) (t : Carrier) → Acts r v [] s t → Does r v s (puts_none t)
  nothing r v t act = passes tt act

  puts_one : (r : ℕ) (v u : Value) (t : Carrier) → is_of_link u ≡ false → CanBeWritten u → Acts r v (u ∷ []) s (puts (u ∷ []) t).state →
      Does r v s (puts (u ∷ []) t)
  puts_one r v u t plain can act = passes ((plain, can), tt) act

  ends_it : (r : ℕ) (v : Value) (t : Carrier) → IsSome t.ended → Does r v s (puts_none t)
  ends_it r v t ended = nothing r v t (over ended)

  -- a CR
  acts_accepts : (class : Class) (size : Option ℕ) (c : Connect) → s.is_caller ≡ false → IsConnect c → HasSizeInRange (accept class size) →
      Does (s.given + 1) (request c) s (answers c (accept class size) None s)
  acts_accepts Zero size c called fits range =
      puts_one (s.given + 1) (request c) (confirm c.source (acceptance Zero size c s.local (s.given + 1))) _ refl
      (cc_plain Zero size c s.local (s.given + 1) fits range)
      (joins called refl (next_ungiven s.given) (given_next s.given) c.source (opened_link Zero size s.local c.credit)
      (fresh_link Zero size s.local c.credit)
      (λ none. push_here (s.given + 1) (linked c.source (opened_link Zero size s.local c.credit)) s.live none) refl (refl, refl)
      (acceptance Zero size c s.local (s.given + 1), refl, refl))
  acts_accepts Two size c called fits range =
      puts_one (s.given + 1) (request c) (confirm c.source (acceptance Two size c s.local (s.given + 1))) _ refl
      (cc_plain Two size c s.local (s.given + 1) fits range)
      (joins called refl (next_ungiven s.given) (given_next s.given) c.source (opened_link Two size s.local c.credit)
      (fresh_link Two size s.local c.credit)
      (λ none. push_here (s.given + 1) (linked c.source (opened_link Two size s.local c.credit)) s.live none) refl (refl, refl)
      (acceptance Two size c s.local (s.given + 1), refl, refl))

  acts_denies : (c : Connect) (reason : ℕ) → Does (s.given + 1) (request c) s (denies reason c.source s)
  acts_denies c reason =
      puts_one (s.given + 1) (request c) (disconnect c.source 0 reason []) _ refl tt
      (acts_none (s.given + 1) (request c) _ (denies reason c.source s).state refl refl refl (λ peer link here. refl))

  acts_selected : (c : Connect) (selection : Selection) (held : Option Class) → s.is_caller ≡ false → IsConnect c →
      HasSizeInRange selection → Does (s.given + 1) (request c) s (answers c selection held s)
  acts_selected c (refuse reason) held called fits range = acts_denies c reason
  acts_selected c (accept Two size) held called fits range = acts_accepts Two size c called fits range
  acts_selected c (accept Zero size) None called fits range = acts_accepts Zero size c called fits range
  acts_selected c (accept Zero size) (Some class) called fits range = acts_denies c 136

  request_by : (c : Connect) (in_use full : Bool) → s.is_caller ≡ false → IsConnect c →
      Does (s.given + 1) (request c) s
      (if in_use then denies 131 c.source s else (if full then denies 1 c.source s else answers c (selected_by c s.local) s.class s))
  request_by c true full called fits = acts_denies c 131
  request_by c false true called fits = acts_denies c 1
  request_by c false false called fits = search (arith, acts_selected, selected_in_range)

  -- a reference that is not live
  acts_unknown : (r : ℕ) (v : Value) → Does r v s (to_unknown v s)
  acts_unknown r (disconnect destination source reason user) =
      puts_one r (disconnect destination source reason user) (disconnected source destination) _ refl tt
      (search (arith, acts_none))
  acts_unknown r (disconnected destination source) = search (arith, nothing, acts_none)
  acts_unknown r v = ends_it r v _ refl

  -- the CC is awaited
  acts_opens : (r destination : ℕ) (c : Connect) (class : Option Class) → destination ≡ r → value_at r s.live ≡ Some asked →
      Does r (confirm destination c) s (opens r c class s)
  acts_opens r destination c None named here = ends_it r (confirm destination c) _ refl
  acts_opens r destination c (Some Zero) named here =
      let first = opened_link Zero (agreed_size c.parameters.size s.local) s.local c.credit in
      nothing r (confirm destination c) (opens r c (Some Zero) s).state
      (answers_it refl here refl c.source first (fresh_link Zero (agreed_size c.parameters.size s.local) s.local c.credit)
      (put_here r (linked c.source first) asked s.live here) refl (λ b. (named, refl)) refl)
  acts_opens r destination c (Some Two) named here =
      let first = opened_link Two (agreed_size c.parameters.size s.local) s.local c.credit in
      nothing r (confirm destination c) (opens r c (Some Two) s).state
      (answers_it refl here refl c.source first (fresh_link Two (agreed_size c.parameters.size s.local) s.local c.credit)
      (put_here r (linked c.source first) asked s.live here) refl (λ b. (named, refl)) refl)

  dropped : (r : ℕ) (v : Value) (units : List Value) (x : Connection) (t : Carrier) → value_at r s.live ≡ Some x →
      t.live ≡ without r s.live → t.given ≡ s.given → Acts r v units s t
  dropped r v units x t here live given =
      leaves_it x here (ap (λ (n : ℕ). nat_lt 0 r && nat_le r n) given)
      (subst IsShut (sym (ap (value_at r) live ∙ without_here r s.live rise)) tt)

  acts_asked : (r : ℕ) (v : Value) → IsNamed r v → value_at r s.live ≡ Some asked → Does r v s (to_asked r v s)
  acts_asked r (confirm destination c) named here = acts_opens r destination c (confirmed c s.local s.class) named here
  acts_asked r (disconnect destination source reason user) named here = search (arith, nothing, dropped)
  acts_asked r (error destination cause) named here = search (arith, nothing, dropped)
  acts_asked r v named here = acts_unknown r v

  -- it is open
  closes_to : (r peer : ℕ) (v : Value) (units : List Value) (x : Connection) (t : Carrier) → value_at r s.live ≡ Some x →
      t.live ≡ put r (closing peer) s.live → t.given ≡ s.given → Acts r v units s t
  closes_to r peer v units x t here live given =
      leaves_it x here (ap (λ (n : ℕ). nat_lt 0 r && nat_le r n) given)
      (subst IsShut (sym (ap (value_at r) live ∙ put_here r (closing peer) x s.live here)) tt)

  acts_breaks : (r peer : ℕ) (link : Standing) (v : Value) (fault : LinkFault) (held : Option Class) →
      value_at r s.live ≡ Some (linked peer link) → Does r v s (breaks r peer fault held s)
  acts_breaks r peer link v fault (Some Two) here =
      puts_one r v (disconnect peer r 133 []) _ refl tt
      (closes_to r peer v _ (linked peer link) _ here refl refl)
  acts_breaks r peer link v fault _ here = ends_it r v _ refl

  acts_taking : (r peer : ℕ) (link : Standing) (v : Value) (result : Result Standing LinkFault) →
      value_at r s.live ≡ Some (linked peer link) → taken link v ≡ result → Does r v s (taking r peer result s)
  acts_taking r peer link v (Ok after) here is = takes peer link after here is refl
  acts_taking r peer link v (Err fault) here is = acts_breaks r peer link v fault s.class here

  acts_leaves : (r peer reason : ℕ) (link : Standing) (v : Value) (held : Option Class) → value_at r s.live ≡ Some (linked peer link) →
      Does r v s (leaves r peer reason held s)
  acts_leaves r peer reason link v (Some Two) here =
      puts_one r v (disconnected peer r) _ refl tt (dropped r v _ (linked peer link) _ here refl refl)
  acts_leaves r peer reason link v _ here = ends_it r v _ refl

  acts_linked : (r peer : ℕ) (link : Standing) (v : Value) → value_at r s.live ≡ Some (linked peer link) →
      Does r v s (to_linked r peer link v s)
  acts_linked r peer link (disconnect destination source reason user) here = search (arith, acts_leaves)
  acts_linked r peer link v here = acts_taking r peer link v _ here refl

  -- it is closing
  closing_deaf : (r peer : ℕ) (v : Value) → value_at r s.live ≡ Some (closing peer) → IsDeaf r v s
  closing_deaf r peer v here q link is = absurd (let both : Some (closing peer) ≡ Some (linked q link) = sym here ∙ is in cc)

  acts_closing : (r peer : ℕ) (v : Value) → value_at r s.live ≡ Some (closing peer) → Does r v s (to_closing r v s)
  acts_closing r peer (disconnected destination source) here = search (arith, nothing, dropped)
  acts_closing r peer (disconnect destination source reason user) here = search (arith, nothing, dropped)
  acts_closing r peer v here = search (arith, nothing, acts_none, closing_deaf)

  acts_connection : (r : ℕ) (o : Option Connection) (v : Value) → (o ≡ Some asked → IsNamed r v) → value_at r s.live ≡ o →
      Does r v s (to_connection r o v s)
  acts_connection r None v named here = acts_unknown r v
  acts_connection r (Some asked) v named here = acts_asked r v (named refl) here
  acts_connection r (Some (linked peer link)) v named here = acts_linked r peer link v here
  acts_connection r (Some (closing peer)) v named here = acts_closing r peer v here

  acts_reference : (r : ℕ) (v : Value) → IsNamed r v → Does r v s (to_reference r v s)
  acts_reference r v named = acts_connection r (value_at r s.live) v (λ was. named) refl

  -- ---- by class

  acts_before : (b : Bool) (v : Value) → s.is_caller ≡ b → HasFieldsInRange v → Does (connection_by None v s) v s (before_class b v s)
  acts_before true (confirm destination c) is fits = acts_reference destination (confirm destination c) refl
  acts_before true (disconnect destination source reason user) is fits = search (arith, acts_reference)
  acts_before true (error destination cause) is fits = acts_reference destination (error destination cause) tt
  acts_before true v is fits = ends_it _ v _ refl
  acts_before false (request c) is fits = search (arith, request_by)
  acts_before false v is fits = ends_it _ v _ refl

  first_here : (r : ℕ) (x : Connection) (rows : Rows Connection) → value_at r ((r, x) ∷ rows) ≡ Some x
  first_here r x rows = ap (λ (b : Bool). if b then Some x else value_at r rows) (eq-eqb r r refl)

  module _ (never : (r : ℕ) → value_at r s.live ≡ Some asked → ⊥) where
    acts_only : (rows : Rows Connection) (v : Value) → s.live ≡ rows → Does (only_of rows) v s (to_only rows v s)
    acts_only [] v is =
        nothing 0 v s (acts_none 0 v [] s refl refl refl
        (λ peer link here. absurd (let both : None ≡ Some (linked peer link) = sym (ap (value_at 0) is) ∙ here in cc)))
    acts_only ((r, x) ∷ rows) v is =
        let here : value_at r s.live ≡ Some x = ap (value_at r) is ∙ first_here r x rows in
        acts_connection r (Some x) v (λ was. absurd (never r (here ∙ was))) here

    acts_zero : (b : Bool) (v : Value) → Does (only_of s.live) v s (in_zero b v s)
    acts_zero true (request c) = ends_it _ (request c) _ refl
    acts_zero true v = acts_only s.live v refl
    acts_zero false v = acts_only s.live v refl

  acts_two : (b : Bool) (v : Value) → s.is_caller ≡ b → HasFieldsInRange v → Does (connection_by (Some Two) v s) v s (in_two b v s)
  acts_two false (request c) is fits = search (arith, request_by)
  acts_two false (data0 end user) is fits = ends_it _ (data0 end user) _ refl
  acts_two true (confirm destination c) is fits = acts_reference destination (confirm destination c) refl
  acts_two false (confirm destination c) is fits = acts_reference destination (confirm destination c) refl
  acts_two true (disconnect destination source reason user) is fits = search (arith, acts_reference)
  acts_two false (disconnect destination source reason user) is fits = search (arith, acts_reference)
  acts_two true (disconnected destination source) is fits = acts_reference destination (disconnected destination source) tt
  acts_two false (disconnected destination source) is fits = acts_reference destination (disconnected destination source) tt
  acts_two true (data2 destination number end user) is fits = acts_reference destination (data2 destination number end user) tt
  acts_two false (data2 destination number end user) is fits = acts_reference destination (data2 destination number end user) tt
  acts_two true (acknowledge credit destination number) is fits = acts_reference destination (acknowledge credit destination number) tt
  acts_two false (acknowledge credit destination number) is fits = acts_reference destination (acknowledge credit destination number) tt
  acts_two true (error destination cause) is fits = acts_reference destination (error destination cause) tt
  acts_two true v is fits = ends_it _ v _ refl
  acts_two false (error destination cause) is fits = acts_reference destination (error destination cause) tt

  acts_class : (held : Option Class) (v : Value) → HasFieldsInRange v → (held ≡ Some Zero → (r : ℕ) → value_at r s.live ≡ Some asked → ⊥) →
      Does (connection_by held v s) v s (in_class held v s)
  acts_class None v fits never = acts_before s.is_caller v refl fits
  acts_class (Some Zero) v fits never = acts_zero (never refl) s.is_caller v
  acts_class (Some Two) v fits never = acts_two s.is_caller v refl fits

pub unit_does : (v : Value) (s : Carrier) → IsSound s → s.ended ≡ None → HasFieldsInRange v → Does (connection_of v s) v s (outcome v s)
unit_does v s h lasts fits = search (arith, outcome_quiet, acts_class, zero_asks_none)
