-- A caller, from before its transport connection is open, is explained; and so is a prefix of whatever is explained.
-- For the law that an honest session is explained.
use Rattle.osi_side.proofs.Vocabulary.{◌≡◌, ◌∙◌, refl, sym, ap, subst, ℕ, ◌+◌, ◌<◌, Bool, true, false, nat_le, List, [], ◌∷◌, ◌++◌, length}
use Rattle.osi_side.proofs.Vocabulary.{None, Ok, Err, arith, leb-true, append_assoc, tsdus_of, says, CallError, Opening, Phase, Answer}
use Rattle.osi_side.proofs.Vocabulary.{allowed, most_user_data, Call, Listener, opened, react, asked_for, is_ended, is_over, awaits, opens}
use Rattle.osi_side.proofs.Vocabulary.{refusal_of, IsSound, Seen, CanSay, after_count, seen_called, seen_calling, accepted_callable}
use Rattle.osi_side.proofs.Vocabulary.{of_opened, of_refused, implied, asking_fresh, awaiting_fresh, fresh_sound, lost_ended}
use Rattle.osi_side.proofs.Vocabulary.{asked_sendable, user_sizes, Explains, Remark, Told, remarks, IsSentFrom, Runs, call_is}
use Rattle.osi_message.specs.Written.{is_second}
use Rattle.osi_session.specs.Listening.{begun}
use Rattle.osi_session.specs.Sessions.{asking}
use Rattle.osi_session.specs.Standing.{said}
use Rattle.osi_side.specs.Explaining as explained
use Rattle.osi_side.specs.Running as running
use Rattle.osi_side.proofs.honest.a_call_is_explained.{AsSent}
use Rattle.osi_side.proofs.honest.a_run_is_explained.{err_sends, none_explained, nothing_passes, run_explained, seen_of, sends_no_more}
use Rattle.osi_side.proofs.honest.what_is_said_is_explained.{SaysTsdus, says_message, tsdus_explained}

-- ---- the CN

pub fits : (o : Opening) → refusal_of o ≡ None → nat_le (length o.user_data.now) most_user_data ≡ true
fits o e = grind arith

-- the caller once its transport connection is open
abbrev pub connecting : Opening → Listener
connecting o = (begun (opens o)).next

asked_said : (o : Opening) (n : ℕ) → nat_le (length o.user_data.now) most_user_data ≡ true →
    CanSay seen_calling (says (asked_for o)) n (seen_of false (connecting o))
unfolding said
asked_said o n z = grind (arith, user_sizes, seen_of)

asked_alone : (o : Opening) → is_second (asked_for o) ≡ true → ⊥
unfolding is_second
asked_alone o e = cc

cn_said : AsSent → (o : Opening) (limit : ℕ) → nat_le (length o.user_data.now) most_user_data ≡ true →
    SaysTsdus seen_calling (tsdus_of limit (asked_for o)) (seen_of false (connecting o))
cn_said known o limit z = grind (arith, seen_of, leb-true, asked_sendable, says_message, asked_said, asked_alone)

-- ---- any run of a caller

pub opening_sound : (o : Opening) → IsSound (asking o)
opening_sound o = fresh_sound (asking o) (asking_fresh o)

-- no call is accepted yet
pub refuses_all : (o : Opening) (c : Call) (a : Answer) → allowed (asking o) c ≡ a → (e : CallError) × (allowed (asking o) c ≡ Err e)
refuses_all o c (Err e) h = (e, h)
refuses_all o c (Ok x) h = let k = accepted_callable (asking o) c x h in absurd (cc)

pub as_opened : (l : Listener) (o : Opening) → l ≡ opens o → react l opened ≡ begun (opens o)
as_opened l o e = ap (λ (x : Listener). react x opened) e ∙ of_opened (opens o) refl

pub over_by : (p : Phase) → is_ended p ≡ true → is_over p ≡ true
over_by p h = implied is_ended is_over refl p h

caller_run : AsSent → (us : List (List ℕ)) (o : Opening) (closed : Bool) (l : Listener) (taken : ℕ) (told : List Told) →
    Runs us closed l taken told → nat_le (length o.user_data.now) most_user_data ≡ true
    → closed ≡ false → l ≡ opens o → Explains us (remarks told) taken seen_calling
caller_run known us o closed l taken told (running.rests _ _ _) z f e = explained.done taken seen_calling
caller_run known us o closed l taken told (running.takes _ _ now later w p r) z f e = grind arith
caller_run known us o closed l taken told (running.calls _ _ _ c now later small p r) z f e =
    let none = refuses_all o c (allowed (asking o) c) refl in
    grind (arith, nothing_passes, err_sends, call_is, caller_run known us o _ _ taken later r z f ((grind (arith, call_is)) ∙ e))
caller_run known us o closed l taken told (running.connects _ _ now later p r) z f e =
    grind (arith, as_opened, tsdus_explained, cn_said, run_explained)
caller_run known us o closed l taken told (running.misses _ _ reason _ w r) z f e = grind (arith, none_explained, sends_no_more, of_refused)
caller_run known us o closed l taken told (running.loses _ _ _ r) z f e = grind (arith, none_explained, sends_no_more, over_by, lost_ended)

-- ---- a prefix of what is explained

remarks_parts : (a b : List Told) → remarks (a ++ b) ≡ remarks a ++ remarks b
remarks_parts [] b = refl
remarks_parts (t ∷ a) b = grind (arith, append_assoc, remarks_parts a b)

abbrev EachFront : List (List ℕ) → List Remark → ℕ → Seen → Type 0
EachFront us all taken s = (front back : List Remark) → all ≡ front ++ back → Explains us front taken s

cons_head : (m n : Remark) (ms ns : List Remark) → m ∷ ms ≡ n ∷ ns → n ≡ m
cons_head m n ms ns e = cc

front_explained : (us : List (List ℕ)) (all : List Remark) (taken : ℕ) (s : Seen) → Explains us all taken s → EachFront us all taken s
front_explained us all taken s (explained.done _ _) = λ front back e. only front back e
  where
    only : (front back : List Remark) → (let none : List Remark = [] in none) ≡ front ++ back → Explains us front taken s
    only [] back e = explained.done taken s
    only (m ∷ front) back e = absurd (cc)
front_explained us all taken s (explained.takes m ms _ _ c b l t n x) =
    λ front back e. by front back e (front_explained us (m ∷ ms) (taken + 1) _ x)
  where
    by : (front back : List Remark) → m ∷ ms ≡ front ++ back → EachFront us (m ∷ ms) (taken + 1) (after_count s c) →
        Explains us front taken s
    by [] back e h = explained.done taken s
    by (k ∷ front) back e h =
        explained.takes k front taken s c (subst (λ (y : Remark). taken < y.before) (sym (cons_head m k ms (front ++ back) e)) b) l t n
        (h (k ∷ front) back e)
front_explained us all taken s (explained.answers m ms _ _ c reply w b l t r d a x) =
    λ front back e. by front back e (front_explained us ms (taken + 1) _ x)
  where
    by : (front back : List Remark) → m ∷ ms ≡ front ++ back → EachFront us ms (taken + 1) (after_count s c) → Explains us front taken s
    by [] back e h = explained.done taken s
    by (k ∷ front) back e h =
        let same = sym (cons_head m k ms (front ++ back) e) in
        subst (λ (y : Remark). Explains us (y ∷ front) taken s) same
        (explained.answers m front taken s c reply w b l t r d a (h front back (grind arith)))
front_explained us all taken s (explained.says m ms _ _ next w d a x) = λ front back e. by front back e (front_explained us ms taken next x)
  where
    by : (front back : List Remark) → m ∷ ms ≡ front ++ back → EachFront us ms taken next → Explains us front taken s
    by [] back e h = explained.done taken s
    by (k ∷ front) back e h =
        let same = sym (cons_head m k ms (front ++ back) e) in
        subst (λ (y : Remark). Explains us (y ∷ front) taken s) same
        (explained.says m front taken s next w d a (h front back (grind arith)))

pub front_told : (us : List (List ℕ)) (told later : List Told) (s : Seen) → Explains us (remarks (told ++ later)) 0 s →
    Explains us (remarks told) 0 s
front_told us told later s h = front_explained us (remarks (told ++ later)) 0 s h (remarks told) (remarks later) (remarks_parts told later)

-- ---- from the beginning

pub caller_explained : AsSent → (o : Opening) (us : List (List ℕ)) (told : List Told) → refusal_of o ≡ None → IsSentFrom (opens o) us told →
    Explains us (remarks told) 0 seen_calling
caller_explained known o us told e h =
    front_told us told h.later seen_calling (caller_run known us o false (opens o) 0 (told ++ h.later) h.runs (fits o e) refl refl)

pub called_explained : AsSent → (us : List (List ℕ)) (told : List Told) → IsSentFrom awaits us told →
    Explains us (remarks told) 0 seen_called
called_explained known us told h = grind (arith, front_told, run_explained, fresh_sound, awaiting_fresh)
