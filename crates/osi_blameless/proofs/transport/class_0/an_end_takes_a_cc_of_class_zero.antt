-- A calling end takes the CC that selects class 0; once that has passed, the end is in class 0 as it will have taken it.
-- For the laws on whole calling ends.
use Rattle.osi_blameless.proofs.transport.Vocabulary.{[], agreed_size, ap, arith, asked, Bool, confirm, Connect, Connection, Disconnects}
use Rattle.osi_blameless.proofs.transport.Vocabulary.{false, IfSome}
use Rattle.osi_blameless.proofs.transport.Vocabulary.{if◌then◌else◌, inr, is_open, is_refused, IsConnect, Left, linked, List, Live, Local}
use Rattle.osi_blameless.proofs.transport.Vocabulary.{min, None}
use Rattle.osi_blameless.proofs.transport.Vocabulary.{Offer, opened_link, opens, Option, option_map, pow-le-pow_right, put, react, refl}
use Rattle.osi_blameless.proofs.transport.Vocabulary.{Right, Rows}
use Rattle.osi_blameless.proofs.transport.Vocabulary.{sent_on, size_code, Some, State, subst, sym, to_connection, true, Two, unit_octets}
use Rattle.osi_blameless.proofs.transport.Vocabulary.{value_at, Zero}
use Rattle.osi_blameless.proofs.transport.Vocabulary.{ℕ, ◌+◌, ◌-◌, ◌==◌, ◌^◌, ◌∙◌, ◌≡◌, ◌≤◌}
use Rattle.osi_blameless.proofs.transport.small_facts_that_many_lemmas_use.{differ, no_two}
use Rattle.osi_blameless.proofs.transport.class_0.an_end_goes_on_in_class_zero.{IsZeroed, other_one, shut_first}
use Rattle.osi_blameless.proofs.transport.requests.how_a_calling_end_asks.{IsCalling, Puts, one, puts}
use Rattle.osi_blameless.proofs.transport.class_0.what_an_end_does_in_class_zero.{IsInZero, over, talks}
use Rattle.osi_blameless.proofs.transport.requests.while_no_class_is_selected.{Waits, after_change, confirmed_judge, set_there}

-- ---- the end takes the CC

-- the most octets of a DT
abbrev pub limit_of : Connect → State → ℕ
limit_of x s = unit_octets (agreed_size x.parameters.size s.local) - 3

opens_by : (n r : ℕ) (x : Connect) (s : State) → (r == n) ≡ true → IsCalling (one r) s → (two zero : Bool) → two ≡ false →
    IsInZero (limit_of x s) (opens n x (if two then Some Two else (if zero then Some Zero else None)) s).state 0 []
opens_by n r x s e is true zero h = absurd (cc h)
opens_by n r x s e is false false h = over refl tt
opens_by n r x s e is false true h =
    let link = opened_link Zero (agreed_size x.parameters.size s.local) s.local x.credit in
    talks r x.source link refl
    (ap (λ (rows : Rows Live). put n (linked x.source link) rows) is.live ∙ (grind arith))
    (record { flow = refl; size = refl }) refl

to_one : (n r : ℕ) (x : Connect) (s : State) (b : Bool) → (r == n) ≡ b → IsCalling (one r) s → (x.class == 2) ≡ false →
    IsInZero (limit_of x s) (to_connection n (if b then Some asked else None) (confirm n x) s).state 0 []
to_one n r x s true e is zero = search (arith, opens_by, no_two)
to_one n r x s false e is zero = over refl tt

-- it puts nothing, and its one connection is open, or it ends
pub confirm_takes : (n r : ℕ) (x : Connect) (s : State) → IsCalling (one r) s → (x.class == 2) ≡ false →
    Puts (λ t. IsInZero (limit_of x s) t 0 []) (confirm n x) s
confirm_takes n r x s is zero =
    puts (λ t. IsInZero (limit_of x s) t 0 []) (one r) (confirm n x) s is
    (ap (λ (rows : Rows Live). (to_connection n (value_at n rows) (confirm n x) s).put) is.live ∙ (grind arith))
    (subst (λ (rows : Rows Live). IsInZero (limit_of x s) (to_connection n (value_at n rows) (confirm n x) s).state 0 []) (sym is.live)
    (to_one n r x s (r == n) refl is zero))

-- ---- the CC passes

-- a size above the proposed one is read as that
fits_agreed : (o : Option ℕ) (local : Local) → IfSome o (λ code. (7 ≤ code) × (code ≤ 13)) →
    IfSome (option_map (λ code. 2 ^ code) o) (λ most. (unit_octets (agreed_size o local) - 3) + 3 ≤ most)
fits_agreed None local h = tt
fits_agreed (Some code) local h =
    let n = size_code local.size in
    let up : 7 ≤ min code n = grind arith in
    let low : 2 ^ 7 ≤ 2 ^ (min code n) = pow-le-pow_right {n = 2} (omega arith) up in
    grind (arith, pow-le-pow_right)

pub confirmed_so : (n r p : ℕ) (o : Offer) (x : Connect) (cs : List Connection) (drs : Disconnects) (erred : Bool) (end : State) →
    (w : Waits r p o cs) →
    IsConnect x → IsCalling (one r) end → (x.class == 2) ≡ false →
    IsZeroed Left (react (confirm n x) end) [] false (confirmed_judge p n x w.c cs drs erred)
confirmed_so n r p o x cs drs erred end w range is zero =
    let new = sent_on Right (confirm n x) w.c in
    record {
      judge = record {
        p = p;
        c = new;
        limit = limit_of x end;
        at = set_there cs p new w.c w.at;
        opened = record {
          judged = w.judged;
          up = ap is_open w.up;
          there = refl;
          unseen = ap is_refused w.unseen;
          fits = fits_agreed x.parameters.size end.local range.parameters.size;
        };
        class = grind arith;
        class_seen = λ h. differ false h refl;
        theirs_seen = inr (grind arith);
        others = λ i e at other.
            other_one cs p i new e (after_change cs p i new e at) other (λ there. shut_first Left e (w.others i e there other));
      };
      goes = subst (λ (b : ℕ). IsInZero (limit_of x end) (react (confirm n x) end) b []) (sym w.none)
          (confirm_takes n r x end is zero).after;
    }
