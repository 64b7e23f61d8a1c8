-- The break that is told as the first is the earliest: no moment before it had one, of transport or of a session.
-- For the functions that let a unit pass, and for octets that can't be read.
use Rattle.std.proofs.Common.{arith}
use Rattle.osi_judge.proofs.Vocabulary.{◌≡◌, ◌∙◌, refl, sym, ap, subst, ℕ, Bool, true, false, if◌then◌else◌, List, [], ◌∷◌, ◌++◌}
use Rattle.osi_judge.proofs.Vocabulary.{append_assoc, Option, Some, None, Value, Direction, Reach, Told, Cause, First, Session, Mark, Marks}
use Rattle.osi_judge.proofs.Vocabulary.{Sessions, taken, all_begin, Course, Moment, is_break, first_of, first_by, first_after, changes}
use Rattle.osi_judge.proofs.Vocabulary.{marked, cause_of, noted_by, moved, moment_of, applied, number_at, unread_mark, unread_moment}
use Rattle.osi_judge.proofs.Vocabulary.{NobodyIs, NobodyElse, IsToBlameAt, IsQuiet, AreSpotless, IsSpotless, BreaksFirst, IsEarliest}
use Rattle.osi_judge.proofs.Vocabulary.{IsBreakOf, BlamesBy, IsSessionOf, IsToldOf, IsStill, SomeoneIs, of_transport, of_session}
use Rattle.osi_judge.proofs.who_is_to_blame.{nobody_begun}
use Rattle.osi_judge.proofs.who_broke_first_stays_to_blame.{still_begun, told_some}

-- ---- what is found of the transport changes neither the moments nor the connections

changes_past : (d : Direction) (f : Marks → Marks) (c : Course) → (changes d f c).past ≡ c.past
changes_past d f c = grind arith

changes_sessions : (d : Direction) (f : Marks → Marks) (c : Course) → (changes d f c).sessions ≡ c.sessions
changes_sessions d f c = grind arith

pub marked_past : (m : Mark) (r : Reach) (c : Course) → (marked m r c).past ≡ c.past
marked_past m r c = grind (arith, changes_past)

marked_sessions : (m : Mark) (r : Reach) (c : Course) → (marked m r c).sessions ≡ c.sessions
marked_sessions m r c = grind (arith, changes_sessions)

pub noted_past : (d : Direction) (at : ℕ) (v : Value) (told : Told) (o : Option Cause) (c : Course)
    → (noted_by d at v told o c).past ≡ c.past
noted_past d at v told o c = grind (arith, marked_past)

-- ---- one moment more

spotless_more : (past : List Moment) (m : Moment) → AreSpotless past → IsSpotless m → AreSpotless (past ++ m ∷ [])
spotless_more [] m h k = (k, tt)
spotless_more (x ∷ past) m h k = (h.0, spotless_more past m h.1 k)

still_first : (f : First) (past : List Moment) (m : Moment) → BreaksFirst f past → BreaksFirst f (past ++ m ∷ [])
still_first f past m h = record {
  front = h.front;
  moment = h.moment;
  back = h.back ++ m ∷ [];
  parts = ap (λ (p : List Moment). p ++ m ∷ []) h.parts ∙ append_assoc h.front (h.moment ∷ h.back) (m ∷ []);
  before = h.before;
  breaks = h.breaks;
}

break_still : (f : First) (m : Moment) → IsBreakOf f m → IsStill f m.sessions
break_still f m (of_transport k e b is) = λ l. absurd (grind arith)
break_still f m (of_session i q l d b) = search (arith, told_some)

now_first : (n : Option First) (past : List Moment) (m : Moment) → AreSpotless past → IsToldOf n m
    → IsEarliest n (past ++ m ∷ []) m.sessions
now_first None past m h t = (spotless_more past m h t, t.sessions)
now_first (Some f) past m h t =
    (record { front = past; moment = m; back = []; parts = refl; before = h; breaks = t }, break_still f m t)

earliest : (o n : Option First) (past : List Moment) (s : Sessions) (m : Moment) → IsEarliest o past s
    → ((f : First) → IsStill f s → IsStill f m.sessions) → (o ≡ None → NobodyIs s → IsToldOf n m)
    → ((f : First) → o ≡ Some f → n ≡ Some f) → IsEarliest n (past ++ m ∷ []) m.sessions
earliest None n past s m h still told kept = now_first n past m h.0 (told refl h.1)
earliest (Some f) n past s m h still told kept =
    subst (λ (o : Option First). IsEarliest o (past ++ m ∷ []) m.sessions) (sym (kept f refl))
    (still_first f past m h.0, still f h.1)

-- a unit passes
pub unit_earliest : (d : Direction) (at : ℕ) (v : Value) (told : Told) (k : Course) (o n : Option First) → IsEarliest o k.past k.sessions
    → ((e : Direction) (number : Option ℕ) → SomeoneIs e number k.sessions
    → SomeoneIs e number (taken d at v told.meaning told.place k.sessions))
    → (NobodyIs k.sessions → NobodyElse d told.place (taken d at v told.meaning told.place k.sessions))
    → (o ≡ None → NobodyElse d told.place (taken d at v told.meaning told.place k.sessions)
    → IsToldOf n (moment_of d at v told (taken d at v told.meaning told.place k.sessions)))
    → ((f : First) → o ≡ Some f → n ≡ Some f) → IsEarliest n (applied d at v told k).past (applied d at v told k).sessions
unit_earliest d at v told k o n h still others told_so kept =
    let m = moment_of d at v told (taken d at v told.meaning told.place k.sessions) in
    subst (λ (past : List Moment). IsEarliest n past (applied d at v told k).sessions)
    (sym (noted_past d at v told (cause_of told.finding) (moved m k)))
    (subst (λ (s : Sessions). IsEarliest n (k.past ++ m ∷ []) s) (sym (grind (arith, marked_sessions)))
    (earliest o n k.past k.sessions m h (λ f b l. still f.direction f.connection (b l)) (λ e b. told_so e (others b)) kept))

pub first_stays : (mark : Option Mark) (f : First) → first_after mark (Some f) ≡ Some f
first_stays mark f = grind arith

-- a packet begins
pub begun_earliest : (d : Direction) (o : Option First) (past : List Moment) (s : Sessions) → IsEarliest o past s
    → IsEarliest o past (all_begin d s)
begun_earliest d None past s h = (h.0, nobody_begun d s h.1)
begun_earliest d (Some f) past s h = (h.0, λ l. still_begun d f.direction f.connection s (h.1 l))

-- ---- octets that can't be read

unread_told : (b : Bool) (d : Direction) (at : ℕ) (cause : Cause) (s : Sessions) → is_break cause ≡ b → NobodyIs s
    → IsToldOf (if b then Some (first_of (unread_mark d at cause)) else None) (unread_moment d at cause s)
unread_told true d at cause s e h = of_transport (unread_mark d at cause) refl e refl
unread_told false d at cause s e h = record { transport = e; sessions = h }

pub unread_earliest : (d : Direction) (at : ℕ) (cause : Cause) (r : Reach) (k : Course) (o n : Option First)
    → n ≡ first_by (unread_mark d at cause) o → IsEarliest o k.past k.sessions
    → IsEarliest n (marked (unread_mark d at cause) r (moved (unread_moment d at cause k.sessions) k)).past
    (marked (unread_mark d at cause) r (moved (unread_moment d at cause k.sessions) k)).sessions
unread_earliest d at cause r k o n is h =
    let m = unread_moment d at cause k.sessions in
    let mark = unread_mark d at cause in
    subst (λ (past : List Moment). IsEarliest n past (marked mark r (moved m k)).sessions) (sym (marked_past mark r (moved m k)))
    (subst (λ (s : Sessions). IsEarliest n (k.past ++ m ∷ []) s) (sym (marked_sessions mark r (moved m k)))
    (earliest o n k.past k.sessions m h (λ f b. b)
    (grind (arith, unread_told))
    (λ f e. is ∙ ap (first_by mark) e)))

-- ---- a session of the side may be to blame

pub session_first : (b : Bool) (d : Direction) (place number : Option ℕ) (s : Sessions) → BlamesBy b d place s → number ≡ number_at place s
    → NobodyElse d place s → IsSessionOf (if b then Some (record { direction = d; layer = Session; connection = number }) else None) d s
session_first b d place number s h e k = grind arith

-- ---- a unit is told of

by_session : (n : Option First) (d : Direction) (at : ℕ) (mark : Option Mark) (s : Sessions) → IsQuiet mark → IsSessionOf n d s
    → IsToldOf n (record { direction = d; at = at; mark = mark; sessions = s })
by_session None d at mark s q h = record { transport = q; sessions = h }
by_session (Some f) d at mark s q h =
    of_session h.2.0 q h.0 h.1 (subst (λ (x : Direction). IsToBlameAt x h.2.0 f.connection s) (sym h.1) h.2.1)

by_mark : (b : Bool) (n p : Option First) (d : Direction) (at : ℕ) (k : Mark) (s : Sessions) → is_break k.cause ≡ b
    → n ≡ (if b then Some (first_of k) else None) → ((f : First) → n ≡ Some f → p ≡ Some f) → (n ≡ None → IsSessionOf p d s)
    → IsToldOf p (record { direction = d; at = at; mark = Some k; sessions = s })
by_mark true n p d at k s e is kept session =
    subst (λ (x : Option First). IsToldOf x (record { direction = d; at = at; mark = Some k; sessions = s })) (sym (kept (first_of k) is))
    (of_transport k refl e refl)
by_mark false n p d at k s e is kept session = by_session p d at (Some k) s e (session is)

pub either_told : (mark : Option Mark) (n p : Option First) (d : Direction) (at : ℕ) (s : Sessions) → n ≡ first_after mark None
    → ((f : First) → n ≡ Some f → p ≡ Some f) → (n ≡ None → IsSessionOf p d s)
    → IsToldOf p (record { direction = d; at = at; mark = mark; sessions = s })
either_told mark n p d at s is kept session = grind (arith, by_session, by_mark)
