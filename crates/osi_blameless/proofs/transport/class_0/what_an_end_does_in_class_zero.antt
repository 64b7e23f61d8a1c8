-- An end of class 0 takes a unit, or its user makes a call: it goes on with DTs alone, or ends.
-- For the laws on whole ends.
use Rattle.osi_blameless.proofs.transport.Vocabulary.{[], ap, append_assoc, Bool, Err, false, if◌then◌else◌, is_some, length, List, None}
use Rattle.osi_blameless.proofs.transport.Vocabulary.{Ok, Option, refl}
use Rattle.osi_blameless.proofs.transport.Vocabulary.{Result, Some, subst, sym, true, ℕ, ◌++◌, ◌∙◌, ◌∷◌, ◌≡◌, ◌≤◌, eq-eqb, eqb-true}
use Rattle.osi_blameless.proofs.transport.Vocabulary.{append-nil}
use Rattle.osi_blameless.proofs.transport.Vocabulary.{AllByRecursion, ◌==◌, disconnect, request, Value, longest_tsdu, Standing, taken}
use Rattle.osi_blameless.proofs.transport.Vocabulary.{with_tsdu}
use Rattle.osi_blameless.proofs.transport.Vocabulary.{LinkFault, Class, Zero, closed_on, link_of, may_connect, open_link, sent, sent_all}
use Rattle.osi_blameless.proofs.transport.Vocabulary.{pumped}
use Rattle.osi_blameless.proofs.transport.Vocabulary.{written_by, handed_out, in_class, in_zero, react_by, taking, to_linked, to_only, put}
use Rattle.osi_blameless.proofs.transport.Vocabulary.{Rows, value_at}
use Rattle.osi_blameless.proofs.transport.Vocabulary.{breaks, closes_call, connects, sends, sends_all, user_does, UserCall, Live}
use Rattle.osi_blameless.proofs.transport.Vocabulary.{ends as ends_as, linked}
use Rattle.osi_blameless.proofs.transport.Vocabulary.{EndReason, put_by, put_closing, put_for, put_sent, put_together, MayCall, arith}
use Rattle.osi_blameless.proofs.transport.Vocabulary.{State, outcome}
use Rattle.osi_blameless.proofs.transport.Vocabulary.{CarrierOutcome, outcome_over}
use Rattle.osi_carrier.specs.Calls.{sent_on}
unfoldable use Rattle.osi_carrier.specs.React.{react}
use Rattle.osi_blameless.proofs.transport.small_facts_that_many_lemmas_use.{differ}
use Rattle.osi_blameless.proofs.transport.requests.how_a_calling_end_asks.{may_so, never}
use Rattle.osi_blameless.proofs.transport.lines.what_a_link_does.{HaveRoom, room_more}
use Rattle.osi_blameless.proofs.transport.class_0.what_an_end_puts_in_class_zero.{IsPlain, PutsData, drained_gives, drained_plain}
use Rattle.osi_blameless.proofs.transport.class_0.what_an_end_puts_in_class_zero.{puts_more, puts_still}

abbrev pub anyhow : ℕ → Type 0
anyhow b = Unit {0}

-- ---- the end

-- it has its one connection open, or has ended
pub data IsInZero (limit : ℕ) (s : State) (begun : ℕ) (units : List Value) : Type 0 where
  talks : (r peer : ℕ) (link : Standing) → s.class ≡ Some Zero → s.live ≡ (r, linked peer link) ∷ [] → IsPlain limit link →
      PutsData limit (λ b. HaveRoom b link.ends.unsent) begun units → IsInZero limit s begun units
  over : is_some s.ended ≡ true → PutsData limit anyhow begun units → IsInZero limit s begun units

pub zero_puts : (limit : ℕ) (s : State) (begun : ℕ) (units : List Value) → IsInZero limit s begun units → PutsData limit anyhow begun units
zero_puts limit s begun units h = grind (arith, puts_still)

-- after some units have passed, whatever the judge knows then
pub zero_next : (limit : ℕ) (s : State) (a b : ℕ) (xs ys : List Value) →
    ((e : ℕ → Type 0) → PutsData limit e a xs → PutsData limit e b ys) → IsInZero limit s a xs → IsInZero limit s b ys
zero_next limit s a b xs ys h (talks r peer link class live plain puts) =
    talks r peer link class live plain (h (λ i. HaveRoom i link.ends.unsent) puts)
zero_next limit s a b xs ys h (over gone puts) = over gone (h anyhow puts)

put_one : (r : ℕ) (x y : Live) → put r x ((r, y) ∷ []) ≡ (r, x) ∷ []
put_one r x y = ap (λ (b : Bool). if◌then◌else◌ {A = Rows Live} b ((r, x) ∷ []) ((r, y) ∷ put r x [])) (eq-eqb r r refl)

pair_so : (a p : ℕ) (l k : Standing) → linked a l ≡ linked p k → (a ≡ p) × (l ≡ k)
pair_so a p l k e = (cc, cc)

pub some_is : (x y : Live) → Some x ≡ Some y → x ≡ y
some_is x y e = cc

row_so : (y : Live) (i : ℕ) (l : Standing) (p : ℕ) (k : Standing) → Some y ≡ Some (linked i l) → link_of (Some (linked i l)) ≡ Some (p, k) →
    y ≡ linked p k
row_so y i l p k e h = some_is y (linked p k) (e ∙ ap (λ (x : ℕ × Standing). Some (linked x.0 x.1)) (grind arith))

none_so : {A : Type 0} (o : Option Live) → None ≡ o → (p : ℕ) (k : Standing) → link_of o ≡ Some (p, k) → A
none_so o e p k h = absurd (cc (ap link_of e ∙ h))

ended_not : (b : Bool) (o : Option Live) (p : ℕ) (k : Standing) → (if b then None else link_of o) ≡ Some (p, k) → link_of o ≡ Some (p, k)
ended_not b o p k e = grind arith

open_not : {A : Type 0} (r p : ℕ) (k : Standing) (s : State) → is_some s.ended ≡ true → open_link r s ≡ Some (p, k) → A
open_not r p k s gone e = grind arith

-- ---- a unit is taken

-- what a link of class 0 has after it
record Takes (link after : Standing) : Type 0 where
  flow : after.flow ≡ None
  limit : after.ends.limit ≡ link.ends.limit
  unsent : after.ends.unsent ≡ link.ends.unsent

takes_plain : (limit : ℕ) (link after : Standing) (u : Value) → IsPlain limit link → taken link u ≡ Ok after → Takes link after
takes_plain limit link after u plain e = grind arith

-- all that a link gives is put
gives_so : (limit peer r : ℕ) (mid : Standing) (t : State) (begun : ℕ) (units : List Value) (old : Standing) → IsPlain limit mid →
    ((b : ℕ) → HaveRoom b old.ends.unsent → HaveRoom b mid.ends.unsent) → t.class ≡ Some Zero →
    t.live ≡ (r, linked peer (pumped mid)) ∷ [] → PutsData limit (λ b. HaveRoom b old.ends.unsent) begun units →
    IsInZero limit t begun (units ++ written_by peer mid)
gives_so limit peer r mid t begun units old plain room class live puts =
    talks r peer (pumped mid) class live (drained_plain limit mid plain)
    (puts_more limit (λ b. HaveRoom b old.ends.unsent) (λ b. HaveRoom b (pumped mid).ends.unsent) (written_by peer mid)
    (λ b h. (drained_gives peer limit b mid plain (room b h)).1) begun units puts)

module _ (limit : ℕ) (s : State) (begun : ℕ) (units : List Value) (z : IsInZero limit s begun units) where
  abbrev Goes : State → List Value → Type 0
  Goes t more = IsInZero limit t begun (units ++ more)

  -- with what is done with a unit
  abbrev GoesBy : CarrierOutcome → Type 0
  GoesBy x = Goes x.state x.put

  -- it is as before
  same_so : Goes s []
  same_so = subst (λ (l : List Value). IsInZero limit s begun l) (sym (append-nil units)) z

  -- it ends
  ends_so : (t : State) → is_some t.ended ≡ true → Goes t []
  ends_so t gone = grind (arith, append-nil units, zero_puts limit s begun units z)

  -- the connection goes on
  pumps_so : (t : State) (r peer : ℕ) (old mid : Standing) → t.class ≡ Some Zero →
      IsPlain limit mid → ((b : ℕ) → HaveRoom b old.ends.unsent → HaveRoom b mid.ends.unsent) →
      t.live ≡ (r, linked peer (pumped mid)) ∷ [] → PutsData limit (λ b. HaveRoom b old.ends.unsent) begun units →
      Goes t (written_by peer mid)
  pumps_so t r peer old mid class plain room live puts = gives_so limit peer r mid t begun units old plain room class live puts

  -- ---- it takes a unit

  module _ (r peer : ℕ) (link : Standing) (class : s.class ≡ Some Zero) (live : s.live ≡ (r, linked peer link) ∷ [])
      (plain : IsPlain limit link) (puts : PutsData limit (λ b. HaveRoom b link.ends.unsent) begun units) where
    taking_goes : (u : Value) (result : Result Standing LinkFault) → taken link u ≡ result → GoesBy (taking r peer result s)
    taking_goes u (Ok after) e =
        let a = takes_plain limit link after u plain e in
        pumps_so (taking r peer (Ok after) s).state r peer link (handed_out after) class
        (record { flow = a.flow; size = a.limit ∙ plain.size }) (λ b h. subst (HaveRoom b) (sym a.unsent) h)
        (grind (arith, put_one)) puts
    taking_goes u (Err fault) e = grind (arith, ends_so)

    linked_goes : (u : Value) → GoesBy (to_linked r peer link u s)
    linked_goes (disconnect destination source reason user) = grind (arith, ends_so)
    linked_goes v = taking_goes v (taken link v) refl

    only_goes : (u : Value) → GoesBy (to_only s.live u s)
    only_goes u = subst (λ (l : Rows Live). GoesBy (to_only l u s)) (sym live) (linked_goes u)

    -- a calling end takes no CR
    in_zero_goes : (is_caller : Bool) (u : Value) → GoesBy (in_zero is_caller u s)
    in_zero_goes false u = only_goes u
    in_zero_goes true (request x) = ends_so (in_zero true (request x) s).state refl
    in_zero_goes true v = only_goes v

    by_end : (u : Value) (b : Bool) → GoesBy (react_by b u s)
    by_end u false = subst (λ (k : Option Class). GoesBy (in_class k u s)) (sym class) (in_zero_goes s.is_caller u)
    by_end u true = same_so

  by_row : (u : Value) → IsInZero limit s begun units → GoesBy (outcome u s)
  by_row u (talks r peer link class live plain puts) = by_end r peer link class live plain puts u (is_some s.ended)
  by_row u (over gone puts) = subst GoesBy (sym (outcome_over u s gone)) same_so

  pub zero_takes : (u : Value) → Goes (react u s) (put_for u s)
  unfolding react
  zero_takes u = by_row u z

  -- ---- its user makes a call

  closes_goes : (r reason : ℕ) (o : Option (ℕ × Standing)) → open_link r s ≡ o → IsInZero limit s begun units →
      Goes (closed_on r reason o s) (put_closing r reason o s.class)
  closes_goes r reason None e row = same_so
  closes_goes r reason (Some (peer, link)) e (over gone puts) = open_not r peer link s gone e
  closes_goes r reason (Some (peer, link)) e (talks q p k class live plain puts) = grind (arith, ends_so)

  breaks_goes : (reason : EndReason) (b : Bool) → Goes (if b then s else ends_as reason s) []
  breaks_goes reason true = same_so
  breaks_goes reason false = ends_so (ends_as reason s) refl

  -- it asks for no other connection
  may_not : {A : Type 0} → may_connect s ≡ None → IsInZero limit s begun units → A
  may_not may h = grind (arith, differ, may_so, never)

  -- a TSDU is sent
  row_is : (q r : ℕ) (y : Live) (b : Bool) → (q == r) ≡ b → (o : Option Live) → (if b then Some y else None) ≡ o → (p : ℕ) (k : Standing) →
      link_of o ≡ Some (p, k) → (q ≡ r) × (y ≡ linked p k)
  row_is q r y b e o is p k h = grind (arith, eqb-true, row_so, none_so)

  sends_goes : (r : ℕ) (tsdu : List ℕ) (o : Option (ℕ × Standing)) → open_link r s ≡ o → length tsdu ≤ longest_tsdu →
      IsInZero limit s begun units → Goes (sent_on r tsdu o s) (put_sent tsdu o)
  sends_goes r tsdu None e short row = same_so
  sends_goes r tsdu (Some (p, k)) e short (over gone puts) = open_not r p k s gone e
  sends_goes r tsdu (Some (p, k)) e short (talks q peer link class live plain puts) =
      let h = ended_not (is_some s.ended) (value_at r s.live) p k e in
      let (same, row) = row_is q r (linked peer link) (q == r) refl (value_at r ((q, linked peer link) ∷ [])) refl p k
      (ap (λ (l : Rows Live). link_of (value_at r l)) (sym live) ∙ h) in
      let (peer_is, link_is) = pair_so peer p link k row in
      pumps_so (sent_on r tsdu (Some (p, k)) s) r p link (with_tsdu k tsdu) class
      (grind arith)
      (λ b room. subst (λ (x : Standing). HaveRoom b (with_tsdu x tsdu).ends.unsent) link_is (room_more b link.ends.unsent tsdu room short))
      (grind (arith, put_one)) puts

zero_all : (limit : ℕ) (s : State) (begun : ℕ) (units : List Value) (r : ℕ) (tsdus : List (List ℕ)) → IsInZero limit s begun units →
    AllByRecursion (λ (tsdu : List ℕ). length tsdu ≤ longest_tsdu) tsdus →
    IsInZero limit (sent_all r tsdus s) begun (units ++ put_together r tsdus s)
zero_all limit s begun units r [] z short = subst (λ (l : List Value). IsInZero limit s begun l) (sym (append-nil units)) z
zero_all limit s begun units r (tsdu ∷ tsdus) z (short, more) =
    subst (λ (l : List Value). IsInZero limit (sent_all r tsdus (sent r tsdu s)) begun l)
    (append_assoc units (put_sent tsdu (open_link r s)) (put_together r tsdus (sent r tsdu s)))
    (zero_all limit (sent r tsdu s) begun (units ++ put_sent tsdu (open_link r s)) r tsdus (search (arith, sends_goes))
    more)

pub zero_calls : (limit : ℕ) (s : State) (begun : ℕ) (units : List Value) (call : UserCall) → IsInZero limit s begun units → MayCall call
    s →
    IsInZero limit (user_does call s) begun (units ++ put_by call s)
zero_calls limit s begun units (connects calling called) z may = may_not limit s begun units z may z
zero_calls limit s begun units (sends r tsdu) z may = search (arith, sends_goes)
zero_calls limit s begun units (sends_all r tsdus) z may = zero_all limit s begun units r tsdus z may
zero_calls limit s begun units (closes_call r reason) z may = closes_goes limit s begun units z r reason (open_link r s) refl z
zero_calls limit s begun units (breaks reason) z may = breaks_goes limit s begun units z reason (is_some s.ended)
