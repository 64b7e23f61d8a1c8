-- TSDUs that are sent together.
use Rattle.osi_carrier.proofs.Vocabulary.{list_any, append-nil, map-append, one_by_one, Standing, with_tsdu, open_link, lengths_error}
use Rattle.osi_carrier.proofs.Vocabulary.{sent_on, sent_all, pumps_all, pumped, written_by, written_for, pumps, Rows, value_at, put}
use Rattle.osi_carrier.proofs.Vocabulary.{peer_in, link_in, linked, State, packets, ◌≡◌, ℕ, Bool, ◌||◌, List, [], ◌∷◌, ◌++◌, length, map}
use Rattle.osi_carrier.proofs.Vocabulary.{nat_lt, Option, Some, None, refl, sym, ap, ◌∙◌, append_assoc, arith, if◌then◌else◌, SendError}
use Rattle.osi_carrier.proofs.Vocabulary.{TooLong}
use Rattle.osi_carrier.proofs.references.rows_after_a_change.{along_rows}
use Rattle.osi_carrier.proofs.references.what_a_change_leaves_there.{put_here}
use Rattle.osi_carrier.proofs.references.what_is_open.{open_is}
use Rattle.osi_carrier.proofs.references.the_row_at_a_place.{put_same}
use Rattle.osi_carrier.proofs.written.all_that_a_link_gives.{packets_join}

-- ---- the octets of values that have some

any_of_items : {V : Type 0} (items : V → List ℕ) (test : List ℕ → Bool) (vs : List V) →
    list_any (λ v. test (items v)) vs ≡ list_any test (map items vs)
any_of_items items test [] = refl
any_of_items items test (v ∷ vs) = ap (λ b. test (items v) || b) (any_of_items items test vs)

pub error_of_items : {V : Type 0} (items : V → List ℕ) (vs : List V) (b : Bool) → list_any (λ v. nat_lt 1048576 (length (items v))) vs ≡ b →
    lengths_error (map items vs) ≡ (if b then Some TooLong else None)
error_of_items items vs b e =
    ap (λ (c : Bool). if◌then◌else◌ {A = Option SendError} c (Some TooLong) None)
    (sym (any_of_items items (λ tsdu. nat_lt 1048576 (length tsdu)) vs) ∙ e)

pub no_items : {V : Type 0} (items : V → List ℕ) (vs : List V) → length vs ≡ 0 → map items vs ≡ []
no_items items [] h = refl
no_items items (v ∷ vs) h = absurd (omega arith)

-- ---- an open connection

-- the value there is the one that was put last
put_twice : {X : Type 0} (r : ℕ) (x y : X) (rows : Rows X) → put r x (put r y rows) ≡ put r x rows
put_twice r x y rows = along_rows r (λ l. put r x (put r y l) ≡ put r x l) refl (λ q z l b e more. grind arith) rows

opened : (r peer : ℕ) (link : Standing) (s : State) → s.ended ≡ None → value_at r s.live ≡ Some (linked peer link) →
    open_link r s ≡ Some (peer, link)
opened r peer link s alive at = grind arith

pub open_here : (r peer : ℕ) (s : State) → s.ended ≡ None → peer_in (value_at r s.live) ≡ Some peer →
    open_link r s ≡ Some (peer, link_in (value_at r s.live))
open_here r peer s alive e = opened r peer (link_in (value_at r s.live)) s alive (open_is (value_at r s.live) peer e)

-- what is written for one, and then for the others
written_then : (peer : ℕ) (link : Standing) (t : List ℕ) (ts : List (List ℕ)) (before : List ℕ) →
    (before ++ packets (written_by peer (with_tsdu link t))) ++ packets (written_for peer (pumped (with_tsdu link t)) ts)
    ≡ before ++ packets (written_for peer link (t ∷ ts))
written_then peer link t ts before = grind (arith, append_assoc, packets_join, map-append)

all_sent : (r peer : ℕ) (link : Standing) (ts : List (List ℕ)) (s : State) → s.ended ≡ None → value_at r s.live ≡ Some (linked peer link) →
    sent_all r ts s ≡ pumps_all r peer link ts s
all_sent r peer link [] s alive at = grind (arith, put_same, append-nil)
all_sent r peer link (t ∷ ts) s alive at =
    let after = pumped (with_tsdu link t) in
    let live = put_twice r (linked peer (one_by_one after ts)) (linked peer after) s.live in
    let octets = written_then peer link t ts s.outgoing in
    ap (λ (o : Option (ℕ × Standing)). sent_all r ts (sent_on r t o s)) (opened r peer link s alive at)
    ∙ all_sent r peer after ts (pumps r peer (with_tsdu link t) s) alive (put_here r (linked peer after) (linked peer link) s.live at)
    ∙ (λ i. record s { live = live i; outgoing = octets i })

pub sent_open : (r peer : ℕ) (ts : List (List ℕ)) (s : State) → s.ended ≡ None → peer_in (value_at r s.live) ≡ Some peer →
    pumps_all r peer (link_in (value_at r s.live)) ts s ≡ sent_all r ts s
sent_open r peer ts s alive e = sym (all_sent r peer (link_in (value_at r s.live)) ts s alive (open_is (value_at r s.live) peer e))

-- nothing is sent if there is nothing
pub sends_none : (r peer : ℕ) (ts : List (List ℕ)) (s : State) → ts ≡ [] → peer_in (value_at r s.live) ≡ Some peer →
    s ≡ pumps_all r peer (link_in (value_at r s.live)) ts s
sends_none r peer ts s none e = grind (arith, put_same, append-nil, open_is)
