-- The user of a whole called end makes a call: it sends TSDUs on an open connection, closes one, or ends the carrier.
-- For the law on a whole called end.
use Rattle.osi_blameless.proofs.transport.Vocabulary.{[], AllByRecursion, ap, append-nil, arith, Bool, breaks, closed_with, closes_call}
use Rattle.osi_blameless.proofs.transport.Vocabulary.{closes_in}
use Rattle.osi_blameless.proofs.transport.Vocabulary.{closing, connects, ended_by, EndReason, ends as ends_as, eqb-true, false, Follows}
use Rattle.osi_blameless.proofs.transport.Vocabulary.{if◌then◌else◌}
use Rattle.osi_blameless.proofs.transport.Vocabulary.{is_some, IsOrderly, length, link_now, linked, List, Local, longest_tsdu, MayCall}
use Rattle.osi_blameless.proofs.transport.Vocabulary.{None, open_link}
use Rattle.osi_blameless.proofs.transport.Vocabulary.{Option, orderly_closed, orderly_ended, orderly_sent, orderly_sent_all, pumped, put_by}
use Rattle.osi_blameless.proofs.transport.Vocabulary.{put_closing}
use Rattle.osi_blameless.proofs.transport.Vocabulary.{put_here, put_other, put_sent, put_together, refl, Right, sends, sends_all, sent}
use Rattle.osi_blameless.proofs.transport.Vocabulary.{sent_all, Some}
use Rattle.osi_blameless.proofs.transport.Vocabulary.{Standing, State, subst, sym, true, Two, user_does, UserCall, Value, value_at, Whole}
use Rattle.osi_blameless.proofs.transport.Vocabulary.{with_tsdu, ℕ}
use Rattle.osi_blameless.proofs.transport.Vocabulary.{◌++◌, ◌==◌, ◌∙◌, ◌∷◌, ◌≡◌, ◌≤◌}
use Rattle.osi_carrier.specs.Calls.{sent_on}
use Rattle.osi_blameless.proofs.transport.small_facts_that_many_lemmas_use.{none_of}
use Rattle.osi_blameless.proofs.transport.by_place.what_becomes_of_an_end.{IsCalled, Same, called_still}
use Rattle.osi_blameless.proofs.transport.requests.a_cc_is_put_only_for_a_cr.{none_by_call}
use Rattle.osi_blameless.proofs.transport.lines.a_carrier_follows_lines.{follows_closed, follows_sent}
use Rattle.osi_blameless.proofs.transport.lines.calls_of_a_line_join.{follows_together, still_open}
use Rattle.osi_blameless.proofs.transport.by_place.each_connection_has_its_place.{Called}
use Rattle.osi_blameless.proofs.transport.by_place.what_an_end_does_to_its_lines.{Leaves, line_steps, shuts, still}
use Rattle.osi_blameless.proofs.transport.by_place.what_an_end_leaves_alone.{is_over}
use Rattle.osi_blameless.proofs.transport.connections.units_by_their_place.{values}
use Rattle.osi_blameless.proofs.transport.connections.what_is_live_at_an_end.{IsLive, timely_calls}
use Rattle.osi_blameless.proofs.transport.class_0.a_dt_of_class_zero_passes.{unlike}
use Rattle.osi_blameless.proofs.transport.by_line.each_connection_has_its_line.{IsNoCc}
pub use Rattle.osi_blameless.proofs.transport.lines.calls_of_a_line_join.{all_none, all_open, open_of, rows_all, rows_sent}

-- ---- the end

pub given_same : {m n : ℕ} → n ≡ m → m ≤ n
given_same e = omega arith

pub same_peer : (q p : ℕ) (l k : Standing) → Some (linked q l) ≡ Some (linked p k) → q ≡ p
same_peer q p l k e = cc

open_is : (r peer : ℕ) (link : Standing) (s : State) → open_link r s ≡ Some (peer, link) →
    (s.ended ≡ None) × (value_at r s.live ≡ Some (linked peer link))
open_is r peer link s e = grind (arith, none_of)

-- ---- what calls change

same_sent : (r : ℕ) (tsdu : List ℕ) (o : Option (ℕ × Standing)) (s : State) → Same s (sent_on r tsdu o s)
same_sent r tsdu o s = grind arith

same_all : (r : ℕ) (tsdus : List (List ℕ)) (s : State) → Same s (sent_all r tsdus s)
same_all r [] s = record { caller = refl; local_is = refl; class = refl; given = refl }
same_all r (tsdu ∷ tsdus) s = grind (arith, same_sent, same_all r tsdus (sent r tsdu s))

-- ---- any call

module _ (local : Local) (w : Whole) (f : Called local w) (c : IsCalled local w.end) where
  abbrev s : State
  s = w.end

  abbrev After : State → List Value → Whole
  After t units = record w { end = t; put = w.put ++ units }

  abbrev Made : State → List Value → Type 0
  Made t units = Called local (After t units) × IsCalled local t

  row_lives : (t : State) (r : ℕ) → ((m : ℕ) → (m ≡ r → ⊥) → value_at m t.live ≡ value_at m s.live) → IsLive t r → (m : ℕ) (b : Bool) →
      (m == r) ≡ b → IsLive s m → IsLive t m
  row_lives t r rows live m b e k = grind (arith, eqb-true, unlike)

  -- on an open connection, which stays open
  talks_so : (t : State) (units : List Value) (r peer : ℕ) (link l : Standing) → s.ended ≡ None → value_at r s.live ≡ Some
      (linked peer link) →
      ((m : ℕ) → (m ≡ r → ⊥) → value_at m t.live ≡ value_at m s.live) → Same s t → IsOrderly t →
      ((q : ℕ) (k : Standing) → value_at r s.live ≡ Some (linked q k) → Follows r q [] units s t) →
      value_at r t.live ≡ Some (linked peer l) → AllByRecursion IsNoCc units → Made t units
  talks_so t units r peer link l was here rows same orderly follows there none = (
    line_steps local w f t units w.coming f.came r peer link here was rows same.given (λ m other. refl) (λ p. refl)
        (λ q k row come among. record { taken = []; later = come; is = refl; among = among; follows = follows q k row })
        (λ q k row. subst (λ (i : ℕ). Leaves r i t) (same_peer peer q link k (sym here ∙ row)) (still l there))
        f.come f.few f.untagged none (λ strays last. timely_calls Right s t w.coming w.judge.connections (values f.tagged)
        (given_same same.given)
        (λ m k. row_lives t r rows (ap is_some there) m (m == r) refl k) (f.timely strays was)),
    grind (arith, called_still),
  )

  sends_by : (r : ℕ) (tsdu : List ℕ) (o : Option (ℕ × Standing)) → open_link r s ≡ o → length tsdu ≤ longest_tsdu →
      Made (sent r tsdu s) (put_sent tsdu (open_link r s))
  sends_by r tsdu None e short = grind (arith, append-nil)
  sends_by r tsdu (Some (peer, link)) e short =
      let (was, here) = open_is r peer link s e in
      let (lasts, there) = open_is r peer (pumped (with_tsdu link tsdu)) (sent r tsdu s) (still_open r peer tsdu s link e) in
      talks_so (sent r tsdu s) (put_sent tsdu (open_link r s)) r peer link (pumped (with_tsdu link tsdu)) was here
      (λ m other. rows_sent m r tsdu (open_link r s) s other) (same_sent r tsdu (open_link r s) s) (orderly_sent r tsdu s c.orderly)
      (λ q k row. follows_sent r q tsdu s k (open_of r q k s was row) short) there (none_by_call (sends r tsdu) s)

  together_by : (r : ℕ) (tsdus : List (List ℕ)) (o : Option (ℕ × Standing)) → open_link r s ≡ o →
      AllByRecursion (λ (tsdu : List ℕ). length tsdu ≤ longest_tsdu) tsdus → Made (sent_all r tsdus s) (put_together r tsdus s)
  together_by r tsdus None e short = grind (arith, all_none, append-nil)
  together_by r tsdus (Some (peer, link)) e short =
      let (was, here) = open_is r peer link s e in
      let (l, after) = all_open r peer tsdus s link e in
      let (lasts, there) = open_is r peer l (sent_all r tsdus s) after in
      talks_so (sent_all r tsdus s) (put_together r tsdus s) r peer link l was here (λ m other. rows_all m r tsdus s other)
      (same_all r tsdus s) (orderly_sent_all r tsdus s c.orderly)
      (λ q k row. follows_together r q tsdus s k (open_of r q k s was row) short) there (none_by_call (sends_all r tsdus) s)

  closes_by : (r reason : ℕ) (o : Option (ℕ × Standing)) → open_link r s ≡ o →
      Made (closed_with r reason s) (put_closing r reason (open_link r s) s.class)
  closes_by r reason None e = grind (arith, append-nil)
  closes_by r reason (Some (peer, link)) e =
      let t = closed_with r reason s in
      let (was, here) = open_is r peer link s e in
      let two = c.two r peer link here in
      let is : t ≡ closes_in r peer reason (Some Two) s = grind arith in
      let rows : (m : ℕ) → (m ≡ r → ⊥) → value_at m t.live ≡ value_at m s.live = grind (arith, put_other) in
      let there : value_at r t.live ≡ Some (closing peer) = grind (arith, put_here) in
      let same : Same s t = grind arith in
      let units = put_closing r reason (open_link r s) s.class in (
        line_steps local w f t units w.coming f.came r peer link here was rows same.given (λ m other. refl) (λ p. refl)
            (grind (arith, follows_closed, open_of))
            (λ q k row. shuts (ap link_now there)) f.come f.few f.untagged
            (none_by_call (closes_call r reason) s)
            (λ strays last. timely_calls Right s t w.coming w.judge.connections (values f.tagged) (given_same same.given)
            (λ m k. row_lives t r rows (ap is_some there) m (m == r) refl k) (f.timely strays was)),
        grind (arith, called_still, orderly_closed r reason s c.orderly),
      )

  breaks_by : (reason : EndReason) (b : Bool) → is_some s.ended ≡ b → Made (ended_by reason s) []
  breaks_by reason true e = grind (arith, append-nil)
  breaks_by reason false e =
      let t = ends_as reason s in
      let is : ended_by reason s ≡ t = ap (λ (h : Bool). if h then s else ends_as reason s) e in (
        subst (λ (x : State). Called local (After x [])) (sym is)
            (subst (λ (l : List Value). Called local (record w { end = t; put = l })) (sym (append-nil w.put))
            (is_over local w f t w.coming f.came refl refl (λ p h. h) f.come f.few f.untagged)),
        grind (arith, called_still, orderly_ended),
      )

  pub makes_so : (call : UserCall) → MayCall call s → Made (user_does call s) (put_by call s)
  makes_so (connects calling called) may = grind arith
  makes_so (sends r tsdu) may = sends_by r tsdu (open_link r s) refl may
  makes_so (sends_all r tsdus) may = together_by r tsdus (open_link r s) refl may
  makes_so (closes_call r reason) may = closes_by r reason (open_link r s) refl
  makes_so (breaks reason) may = breaks_by reason (is_some s.ended) refl
