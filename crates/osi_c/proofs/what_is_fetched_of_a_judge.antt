-- A verdict on a byte connection is fetched once all that passed is judged, and nothing is due if none of each subject is.
-- For the functions of `fetching`.
use Rattle.std.proofs.Common.{◌≡◌, ◌∙◌, refl, sym, ap, subst, inl, inr, arith, ℕ, ◌||◌, Bool, true, false, is_some, Option}
use Rattle.std.proofs.Common.{Some, None}
use Rattle.std.specs.Prelude.{IfSome, IfNone}
use Rattle.osi_side.specs.Captures.{Capture, stream}
use Rattle.osi_side.specs.declared.directions.Direction.{Direction}
use Rattle.osi_side.specs.declared.directions.Direction.TheVariants.{Left, Right}
use Rattle.osi_judge.specs.Connections.{Joined}
use Rattle.osi_judge.specs.Standing.{HoldsState, IsSettled, first_in}
use Rattle.osi_judge.specs.States.{State}
use Rattle.osi_judge.specs.declared.judge.Judge.{Judge}
use Rattle.osi_report.specs.Openings.{Opens}
use Rattle.osi_report.specs.declared.openings.Opening.{Opening}
use Rattle.osi_c.specs.Fed.{fed, WasFed}
use Rattle.osi_c.specs.Judges.{AreDoneWith, IsDoneWith, Keeps, Knows}
use Rattle.osi_c.specs.Verdicts.{Shows}
use Rattle.osi_c.specs.Notes.{Tells, TellsNothing, is_certain}
use Rattle.osi_c.specs.Subjects.{also, leading, same, told_by}
use Rattle.osi_c.specs.Fetching.{HasFetched, HasNone, HasNoneIf, HasNoneOfSessions, HasNoneOfTransport, HasNoLeading}
use Rattle.osi_c.specs.Fetching.{HasNothing, IsDue, InTurn, Gives, GivesNone, LooksOn, MayBeLate}
use Rattle.osi_c.specs.declared.verdicts.OsiVerdict.{OsiVerdict}
use Rattle.osi_c.specs.declared.notes.Note.{Note}
use Rattle.osi_c.specs.declared.subjects.Subject.{Subject}
use Rattle.osi_c.specs.declared.subjects.Subject.TheVariants.{Session, Transport, Rest}
use Rattle.osi_c.specs.declared.judges.HeldJudge.{HeldJudge}
use Rattle.osi_c.specs.declared.fetching.Fetched.{Fetched}
use Rattle.osi_c.specs.declared.fetching.Fetched.TheVariants as fetched
use Rattle.osi_c.proofs.a_piece_passes_to_a_judge.{seen_before, still_known}

-- ---- a subject

pub none_of : (w : HeldJudge) (told : Subject → Bool) (k : Subject) (n : Note) → Tells w k n → is_certain n ≡ false → HasNone w told k
none_of w told k n tells e = inr (λ capture h settled. (n, tells capture h settled, e))

-- ---- some of several

pub none_of_both : {X : Type 0} (r : Option X) (A B : Type 0) → A → IfNone r B → IfNone r (A × B)
none_of_both h h2 h3 a b = grind arith

pub none_of_transport : {X : Type 0} (r : Option X) (w : HeldJudge) (told : Subject → Bool)
    → HasNone w told (Transport Left) × HasNone w told (Transport Right)
    → IfNone r (HasNone w told (Rest Left) × HasNone w told (Rest Right)) → IfNone r (HasNoneOfTransport w told)
none_of_transport h w told a b = grind arith

pub none_at_all : {X : Type 0} (r : Option X) (w : HeldJudge) (told : Subject → Bool) → HasNoLeading w told
    → IfNone r (HasNoneOfTransport w told × HasNoneOfSessions w told) → IfNone r (HasNothing w told)
none_at_all h w told a b = grind arith

pub both_some : {X : Type 0} (r : Option X) (P Q : X → Type 0) → IfSome r P → IfSome r Q → IfSome r (λ x. P x × Q x)
both_some h h2 h3 h4 k = grind arith

pub some_as : {X : Type 0} (r : Option X) (P Q : X → Type 0) → ((x : X) → P x → Q x) → IfSome r P → IfSome r Q
some_as h h2 h3 f h4 = grind arith

pub no_leading : (w : HeldJudge) (told : Subject → Bool) (o : Option Subject) → o ≡ leading (first_in w.judge) → HasNoneIf w told o
    → HasNoLeading w told
no_leading w told o e h = subst (HasNoneIf w told) e h

pub none_if_leading : {X : Type 0} (r : Option X) (w : HeldJudge) (told : Subject → Bool) (k : Subject) → Some k ≡ leading (first_in w.judge)
    → IfNone r (HasNone w told k) → IfNone r (HasNoLeading w told)
none_if_leading h w told k e h2 = grind (arith, no_leading)

-- ---- numbers

pub some_is : {X : Type 0} (r : Option X) (A : Type 0) → is_some r ≡ true → IfNone r A
some_is h h2 e = grind arith

pub none_is : {X : Type 0} (r : Option X) (A : Type 0) → is_some r ≡ false → IfNone r A → A
none_is h h2 e h3 = grind arith

-- ---- a judge that was told of more

-- it keeps its judge, its opening and its text
pub record IsSame (old new : HeldJudge) : Type 0 where
  pub judge : new.judge ≡ old.judge
  pub opening : new.opening ≡ old.opening
  pub text : new.text ≡ old.text

-- so it was fed the same
fed_before : (old new : HeldJudge) → IsSame old new → (capture : Capture) → WasFed new capture → WasFed old capture
fed_before old new s capture k = record {
  holds = subst (λ (t : Judge). HoldsState t (fed capture)) s.judge k.holds;
  opens = subst (λ (o : Opening). Opens o (stream Left capture)) s.opening k.opens;
}

-- and if it has seen the same, and C was told of no less, it knows the same
known_by : (old new : HeldJudge) → IsSame old new → (capture : Capture) → Knows old capture
    → AreDoneWith new.seen (told_by new.told) (fed capture).course.sessions.done → Knows new capture
known_by old new s capture k seen = record {
  holds = subst (λ (t : Judge). HoldsState t (fed capture)) (sym s.judge) k.holds;
  opens = subst (λ (o : Opening). Opens o (stream Left capture)) (sym s.opening) k.opens;
  seen = seen;
}

same_known : (old new : HeldJudge) → IsSame old new → new.seen ≡ old.seen → told_by new.told ≡ told_by old.told → (capture : Capture)
    → Knows old capture → Knows new capture
same_known old new s same told capture k = known_by old new s capture k
    (seen_before old new (fed capture).course.sessions.done (fed capture).course.sessions.done same told (λ i j e. e) k.seen)

or_also : (a b : Bool) → b ≡ true → (a || b) ≡ true
or_also true b e = refl
or_also false b e = e

done_also : (d : Direction) (k : Subject) (told : Subject → Bool) (j : Joined) → IsDoneWith d told j → IsDoneWith d (also k told) j
done_also d k told j h = elim h [
  | inl still ↦ inl still
  | inr e ↦ inr (or_also (same k (Session j.number d)) (told (Session j.number d)) e)
]

more_known : (old new : HeldJudge) (k : Subject) → IsSame old new → new.seen ≡ old.seen → told_by new.told ≡ also k (told_by old.told)
    → (capture : Capture) → Knows old capture → Knows new capture
more_known old new k s seen told capture h = known_by old new s capture h
    (subst (λ (n : ℕ). AreDoneWith n (told_by new.told) (fed capture).course.sessions.done) (sym seen)
    (subst (λ (t : Subject → Bool). AreDoneWith old.seen t (fed capture).course.sessions.done) (sym told)
    (λ i lt. let r = h.seen i lt in
    (r.0, r.1, done_also Left k (told_by old.told) r.0 r.2, done_also Right k (told_by old.told) r.0 r.3))))

settled_before : (old new : HeldJudge) → IsSame old new → IsSettled new.judge → IsSettled old.judge
settled_before old new s k = subst IsSettled s.judge k

same_tells : (old new : HeldJudge) (k : Subject) (n : Note) → IsSame old new → Tells old k n → Tells new k n
same_tells old new k n s tells capture h settled = tells capture (fed_before old new s capture h) (settled_before old new s settled)

same_nothing : (old new : HeldJudge) (k : Subject) → IsSame old new → TellsNothing old k → TellsNothing new k
same_nothing old new k s tells capture h settled = tells capture (fed_before old new s capture h) (settled_before old new s settled)

same_late : (b : Bool) (old new : HeldJudge) → IsSame old new → MayBeLate b old → MayBeLate b new
same_late b old new s late capture h settled = late capture (fed_before old new s capture h) (settled_before old new s settled)

same_none : (old new : HeldJudge) (told : Subject → Bool) (k : Subject) → IsSame old new → HasNone old told k → HasNone new told k
same_none old new told k s h = elim h [ inl before ↦ inl before | inr nothing ↦ inr (same_nothing old new k s nothing) ]

same_none_if : (old new : HeldJudge) (told : Subject → Bool) (o : Option Subject) → IsSame old new → HasNoneIf old told o → HasNoneIf new told o
same_none_if old new told None s h = h
same_none_if old new told (Some k) s h = same_none old new told k s h

same_turn : (old new : HeldJudge) (told : Subject → Bool) (k : Subject) → IsSame old new → InTurn old told k → InTurn new told k
same_turn old new told k s h = elim h [
  | inl leads ↦ inl (subst (λ (t : Judge). leading (first_in t) ≡ Some k) (sym s.judge) leads)
  | inr none ↦ inr (subst (λ (t : Judge). HasNoneIf new told (leading (first_in t))) (sym s.judge)
      (same_none_if old new told (leading (first_in old.judge)) s none))
]

pub same_kept : (old new : HeldJudge) → IsSame old new → new.seen ≡ old.seen → told_by new.told ≡ told_by old.told → Keeps old new
same_kept old new s same told = record { knows = same_known old new s same told; told = told; text = s.text }

-- its judge goes on, and nothing passes
pub judge_kept : (old new : HeldJudge) → ((s : State) → HoldsState old.judge s → HoldsState new.judge s) → new.opening ≡ old.opening
    → new.seen ≡ old.seen → told_by new.told ≡ told_by old.told → new.text ≡ old.text → Keeps old new
judge_kept old new holds opening seen told text = record { knows = still_known old new holds opening seen told; told = told; text = text }

pub late_is : (b t : Bool) (w : HeldJudge) → MayBeLate b w → b ≡ t → MayBeLate t w
late_is b t w h e = subst (λ (x : Bool). MayBeLate x w) e h

-- ---- a verdict

-- that is due, once all that passed is judged
pub given : (old new : HeldJudge) (k : Subject) (n : Note) (v : OsiVerdict) → IsSettled old.judge → MayBeLate false old
    → InTurn old (told_by old.told) k → IsDue old (told_by old.told) k n → Shows old.judge k n v → IsSame old new → new.seen ≡ old.seen
    → told_by new.told ≡ also k (told_by old.told) → Gives old v new
given old new k n v settled decided turn due shows s same told = record {
  knows = more_known old new k s same told;
  settled = subst IsSettled (sym s.judge) settled;
  decided = same_late false old new s decided;
  subject = k;
  tells = n;
  turn = same_turn old new (told_by old.told) k s turn;
  due = record { fresh = due.fresh; tells = same_tells old new k n s due.tells; certain = due.certain };
  shows = subst (λ (t : Judge). Shows t k n v) (sym s.judge) shows;
  told = told;
  text = s.text;
}

-- what is fetched once all that passed is judged
pub kept_after : (old now new : HeldJudge) → ((capture : Capture) → Knows old capture → Knows now capture)
    → told_by now.told ≡ told_by old.told → now.text ≡ old.text → Keeps now new → Keeps old new
kept_after old now new knows told text g = record {
  knows = λ capture k. g.knows capture (knows capture k);
  told = g.told ∙ told;
  text = g.text ∙ text;
}

given_after : (old now new : HeldJudge) (v : OsiVerdict) → ((capture : Capture) → Knows old capture → Knows now capture)
    → told_by now.told ≡ told_by old.told → now.text ≡ old.text → Gives now v new → Gives old v new
given_after old now new v knows told text g = record {
  knows = λ capture k. g.knows capture (knows capture k);
  settled = g.settled;
  decided = g.decided;
  subject = g.subject;
  tells = g.tells;
  turn = subst (λ (l : Subject → Bool). InTurn new l g.subject) told g.turn;
  due = subst (λ (l : Subject → Bool). IsDue new l g.subject g.tells) told g.due;
  shows = g.shows;
  told = g.told ∙ ap (λ (l : Subject → Bool). also g.subject l) told;
  text = g.text ∙ text;
}

none_after : (old now new : HeldJudge) → ((capture : Capture) → Knows old capture → Knows now capture)
    → told_by now.told ≡ told_by old.told → now.text ≡ old.text → GivesNone now new → GivesNone old new
none_after old now new knows told text g = record {
  settles = record { keeps = kept_after old now new knows told text g.settles.keeps; settled = g.settles.settled };
  none = g.none;
}

pub fetched_after : (r : Fetched) (old now new : HeldJudge) → ((capture : Capture) → Knows old capture → Knows now capture)
    → told_by now.told ≡ told_by old.told → now.text ≡ old.text → HasFetched r now new → HasFetched r old new
fetched_after (fetched.Given v) old now new knows told text h = given_after old now new v knows told text h
fetched_after fetched.Nothing old now new knows told text h = none_after old now new knows told text h
fetched_after fetched.NoMemory old now new knows told text h = kept_after old now new knows told text h

-- or after it has looked at more of the connections that are over
pub after_looking : (r : Fetched) (old now new : HeldJudge) → LooksOn old now → IsSettled old.judge → MayBeLate false old
    → (IsSettled now.judge → MayBeLate false now → HasFetched r now new) → HasFetched r old new
after_looking r old now new l settled late h =
    let s : IsSame old now = record { judge = l.judge; opening = l.opening; text = l.text } in
    fetched_after r old now new l.knows (ap told_by l.told) l.text
    (h (subst IsSettled (sym l.judge) settled) (same_late false old now s late))

pub after_settling : (r : Fetched) (old now new : HeldJudge) → ((s : State) → HoldsState old.judge s → HoldsState now.judge s)
    → now.opening ≡ old.opening → now.seen ≡ old.seen → told_by now.told ≡ told_by old.told → now.text ≡ old.text → HasFetched r now new
    → HasFetched r old new
after_settling r old now new holds opening seen told text h =
    fetched_after r old now new (still_known old now holds opening seen told) told text h
