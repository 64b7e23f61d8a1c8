-- What a side may send is what a call sends, but for the liberties that it may take. For the law of that name.
use Rattle.osi_blameless.proofs.accord.Vocabulary.{ap, arith, Bool, false, if◌then◌else◌, length, List, nat_le, None, not, Ok, Option}
use Rattle.osi_blameless.proofs.accord.Vocabulary.{option_map}
use Rattle.osi_blameless.proofs.accord.Vocabulary.{refl, Some, subst, sym, true, ℕ, ◌&&◌, ◌+◌, ◌-◌, ◌==◌, ◌||◌, ◌∙◌, ◌≡◌, and_parts}
use Rattle.osi_blameless.proofs.accord.Vocabulary.{eqb-true, AA, AB}
use Rattle.osi_blameless.proofs.accord.Vocabulary.{AC, CN, DN, DT, FN, GT, MAA, MAP, Meaning, MIA, MIP, NF, PT, RA, RF, RS, says, written}
use Rattle.osi_blameless.proofs.accord.Vocabulary.{first_error_ok, after, Answer, may_call, most_of, needs, octets_of, sends, Abort, Call}
use Rattle.osi_blameless.proofs.accord.Vocabulary.{Data, Give}
use Rattle.osi_blameless.proofs.accord.Vocabulary.{Major, Minor, MinorConfirm, Please, refusal_octets, refusal_with, Release, ReleaseAccept}
use Rattle.osi_blameless.proofs.accord.Vocabulary.{ReleaseRefuse, RestartConfirm, has_no_effect, answers_wishes, setting_of, settle, stated}
use Rattle.osi_blameless.proofs.accord.Vocabulary.{fits_limit, calling, CanSay, finishing, goes, is_in_size, left_by, said_message}
use Rattle.osi_blameless.proofs.accord.Vocabulary.{said_within, Seen}
use Rattle.osi_blameless.proofs.accord.Vocabulary.{where_is, State, as_called, is_called, IsCall}
use Rattle.osi_session.specs.Standing.{said}
use Rattle.osi_session.specs.Allowed.{met, Step}
use Rattle.osi_blameless.proofs.accord.what_an_ac_selects.{Calls, accepted_as, allowed_is}

-- ---- a call that passes its tests

left_is : (a : Answer) (n : State) → left_by a ≡ Some n → (x : Step) × (a ≡ Ok x) × (x.next ≡ n)
left_is a n h = grind arith

if_some : (b : Bool) (o : Option State) (n : State) → (if b then o else None) ≡ Some n → (b ≡ true) × (o ≡ Some n)
if_some b o n h = grind arith

met_is : (s : State) (c : Call) (x : Step) → met s c ≡ Ok x → x ≡ record { next = after s c; sent = sends s c }
unfolding met
met_is s c x h = let e : _ ≡ _ = (first_error_ok (needs s c) _ x h).1 in cc

call_allowed : (s : State) (c : Call) (m : Meaning) (n : State) → calling s c ≡ Some n → sends s c ≡ m →
    fits_limit s c (sends s c) ≡ true → Calls s m n
call_allowed s c m n h e f =
    let a = if_some (may_call s.phase c && nat_le (length (octets_of c)) (most_of c)) (left_by (met s c)) n h in
    let p = and_parts (may_call s.phase c) (nat_le (length (octets_of c)) (most_of c)) a.0 in
    let b = left_is (met s c) n a.1 in
    let is = met_is s c b.0 b.1 in
    grind (arith, allowed_is s c p.0 p.1 f (b.1 ∙ ap Ok is))

-- a number that has to be this one
where_allowed : (b : Bool) (s : State) (c : Call) (m : Meaning) (n : State) → where_is b (calling s c) ≡ Some n →
    (b ≡ true → sends s c ≡ m) → (b ≡ true → fits_limit s c (sends s c) ≡ true) → Calls s m n
where_allowed b s c m n h e f = grind (arith, if_some, call_allowed)

-- ---- each message

-- the TSDU as a call sends it is within the size agreed
abbrev Fits : State → Meaning → Type 0
Fits s m = is_in_size s (length (written m)) ≡ true

one_before : (n next : ℕ) → (n + 1 == next) ≡ true → next - 1 ≡ n
one_before n next h = let e = eqb-true (n + 1) next h in omega arith

same_octets : (octets : List ℕ) → refusal_octets (refusal_with octets) ≡ octets
same_octets octets = grind arith

fitting : (s : State) (m n : Meaning) → n ≡ m → Fits s m → Fits s n
fitting s m n e f = subst (Fits s) (sym e) f

-- tokens and the caller are tested by the call
released : (s : State) (octets : List ℕ) (n : State) → finishing s octets ≡ Some n → (not s.units.duplex || s.is_caller) ≡ true →
    calling s (Release octets) ≡ Some n
unfolding met
released s octets n h c = grind (arith, if_some, and_parts)

message_called : (s : State) (m : Meaning) (n : State) → said_message s m ≡ Some n → is_called s m ≡ true → Fits s (as_called s m) →
    Calls s (as_called s m) n
message_called s (CN version_2 requirements serial wishes from to sizes octets) n h c f = absurd (cc)
message_called s (AC version_2 requirements serial sides sizes octets) n h c f = grind (arith, accepted_as)
message_called s (RF reason octets) n h c f = search (arith, call_allowed, same_octets)
message_called s (DT octets) n h c f = call_allowed s (Data octets) _ n h refl refl
message_called s (GT tokens) n h c f = call_allowed s (Give tokens) _ n h refl f
message_called s (PT tokens octets) n h c f = call_allowed s (Please tokens octets) _ n h refl f
message_called s (MIP confirm k octets) n h c f =
    where_allowed (k == s.numbers.next) s (Minor confirm octets) _ n h is (λ b. fitting s _ _ (is b) f)
  where
    is : (k == s.numbers.next) ≡ true → MIP confirm s.numbers.next octets ≡ MIP confirm k octets
    is b = ap (λ (x : ℕ). MIP confirm x octets) (sym (eqb-true k s.numbers.next b))
message_called s (MIA k octets) n h c f = call_allowed s (MinorConfirm k octets) _ n h refl f
message_called s (MAP k octets) n h c f =
    where_allowed (k == s.numbers.next) s (Major octets) _ n h is (λ b. fitting s _ _ (is b) f)
  where
    is : (k == s.numbers.next) ≡ true → MAP s.numbers.next octets ≡ MAP k octets
    is b = ap (λ (x : ℕ). MAP x octets) (sym (eqb-true k s.numbers.next b))
message_called s (MAA k octets) n h c f = search (arith, where_allowed, fitting, one_before)
message_called s (RS kind k wishes octets) n h c f = search (arith, where_allowed)
message_called s (RA k sides octets) n h c f =
    where_allowed ((k == s.numbers.next) && answers_wishes s.units s.wishes sides) s (RestartConfirm (stated s.units sides) octets) _ n h is
    (λ b. fitting s _ _ (is b) f)
  where
    is : ((k == s.numbers.next) && answers_wishes s.units s.wishes sides) ≡ true →
        RA s.numbers.next (setting_of (settle s.units s.wishes (stated s.units sides))) octets
        ≡ RA k (setting_of (settle s.units s.wishes (stated s.units sides))) octets
    is b = ap (λ (x : ℕ). RA x (setting_of (settle s.units s.wishes (stated s.units sides))) octets)
        (sym (eqb-true k s.numbers.next (and_parts (k == s.numbers.next) (answers_wishes s.units s.wishes sides) b).0))
message_called s (FN octets) n h c f = call_allowed s (Release octets) _ n (released s octets n h c) refl f
message_called s (DN octets) n h c f = call_allowed s (ReleaseAccept octets) _ n h refl f
message_called s (NF octets) n h c f = call_allowed s (ReleaseRefuse octets) _ n h refl f
message_called s (AB bits octets) n h c f = where_allowed _ s (Abort octets) _ n h (λ b. refl) (λ b. f)
message_called s AA n h c f = absurd (cc)

-- ---- a side

if_seen : (b : Bool) (o : Option Seen) (n : Seen) → (if b then o else None) ≡ Some n → o ≡ Some n
if_seen b o n h = grind arith

mapped : (s : Seen) (o : Option State) (next : Seen) → option_map (goes s) o ≡ Some next → (n : State) × (o ≡ Some n) × (next ≡ goes s n)
mapped s o next h = grind arith

within_says : (s : Seen) (m : Meaning) (next : Seen) → has_no_effect m ≡ false → said_within s (says m) ≡ Some next →
    (n : State) × (said_message s.state m ≡ Some n) × (next ≡ goes s n)
within_says s m next e h = grind (arith, mapped, if_seen)

says_message : (s : Seen) (m : Meaning) (octets : ℕ) (next : Seen) → has_no_effect m ≡ false → CanSay s (says m) octets next →
    (n : State) × (said_message s.state m ≡ Some n) × (next ≡ goes s n)
unfolding said
says_message s m octets next e h =
    within_says s m next e (if_seen (not s.closed && is_in_size s.state octets) (said_within s (says m)) next h)

pub called_as : (s next : Seen) (m : Meaning) (octets : ℕ) → CanSay s (says m) octets next → is_called s.state m ≡ true →
    is_in_size s.state (length (written (as_called s.state m))) ≡ true → IsCall s (as_called s.state m) next
called_as s next m octets h c f =
    let a = says_message s m octets next (grind arith) h in
    search (arith, message_called s.state m a.0 a.1 c f)
