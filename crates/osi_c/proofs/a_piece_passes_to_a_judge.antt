-- What passed of a piece, and what is left of it, turn by turn, until all passed or memory ran out. For `pass` and `take_piece`.
use Rattle.std.proofs.Common.{◌≡◌, ◌∙◌, refl, sym, ap, subst, ℕ, ◌+◌, ◌-◌, arith, length, List, [], ◌∷◌, ◌++◌, take, drop, true}
use Rattle.std.proofs.Common.{Bool, ◌==◌}
use Rattle.std.specs.Prelude.{Result, Ok, Err, OnErr}
use Rattle.std.proofs.lemmas.List.{append-nil, append_assoc, map-append, length-append, take-append-drop}
use Rattle.std.proofs.Math.Seq.{take-append_seam}
use Rattle.osi_side.specs.declared.directions.Direction.{Direction}
use Rattle.osi_side.specs.declared.directions.Direction.TheVariants.{Left}
use Rattle.osi_side.specs.Captures.{Capture, of, piece, stream}
use Rattle.osi_judge.proofs.a_piece_comes_to_what_its_octets_do.{after_more}
use Rattle.osi_judge.proofs.what_is_over_stays.{over_stays}
use Rattle.osi_judge.specs.declared.rooms.Room.TheVariants.{Octets}
use Rattle.osi_judge.specs.Connections.{Joined}
use Rattle.osi_judge.specs.Pasts.{StayOver}
use Rattle.osi_judge.specs.Standing.{HoldsState}
use Rattle.osi_judge.specs.States.{State, after, begin_within}
use Rattle.osi_report.specs.Openings.{Opens}
use Rattle.osi_report.specs.declared.openings.Opening.{Opening}
use Rattle.osi_c.specs.Fed.{fed, WasFed}
use Rattle.osi_c.specs.Judges.{AreDoneWith, Knows, Passes, TakesPiece}
use Rattle.osi_c.specs.Subjects.{told_by}
use Rattle.osi_c.specs.declared.judges.HeldJudge.{HeldJudge}
use Rattle.osi_c.specs.declared.subjects.Subject.{Subject}

-- ---- what a judge knows

fed_more : (a b : Capture) → fed (a ++ b) ≡ after b (fed a)
fed_more a b = after_more a b (begin_within (Octets 3145728))

pub was_fed : (w : HeldJudge) (capture : Capture) → Knows w capture → WasFed w capture
was_fed w capture k = record { holds = k.holds; opens = k.opens }

-- of the connections that are over it has seen the same, and these keep their places
pub seen_before : (old new : HeldJudge) (before now : List Joined) → new.seen ≡ old.seen → told_by new.told ≡ told_by old.told
    → StayOver before now → AreDoneWith old.seen (told_by old.told) before → AreDoneWith new.seen (told_by new.told) now
seen_before old new before now same told stay seen =
    subst (λ (n : ℕ). AreDoneWith n (told_by new.told) now) (sym same)
    (subst (λ (t : Subject → Bool). AreDoneWith old.seen t now) (sym told)
    (λ i lt. let r = seen i lt in (r.0, stay i r.0 r.1, r.2, r.3)))

-- octets passed to its judge and to its opening
pub octets_known : (d : Direction) (octets : List ℕ) (old new : HeldJudge)
    → ((s : State) → HoldsState old.judge s → HoldsState new.judge (after (piece d octets) s))
    → ((capture : Capture) → Opens old.opening (stream Left capture) → Opens new.opening (stream Left (capture ++ piece d octets)))
    → new.seen ≡ old.seen → told_by new.told ≡ told_by old.told → (capture : Capture) → Knows old capture → Knows new (capture ++ piece d octets)
octets_known d octets old new judges opens same told capture k = record {
  holds = subst (HoldsState new.judge) (sym (fed_more capture (piece d octets))) (judges (fed capture) k.holds);
  opens = opens capture k.opens;
  seen = seen_before old new (fed capture).course.sessions.done (fed (capture ++ piece d octets)).course.sessions.done same told
      (subst (λ (s : State). StayOver (fed capture).course.sessions.done s.course.sessions.done) (sym (fed_more capture (piece d octets)))
      (over_stays (piece d octets) (fed capture))) k.seen;
}

-- its judge goes on, and nothing passes
pub still_known : (old new : HeldJudge) → ((s : State) → HoldsState old.judge s → HoldsState new.judge s) → new.opening ≡ old.opening
    → new.seen ≡ old.seen → told_by new.told ≡ told_by old.told → (capture : Capture) → Knows old capture → Knows new capture
still_known old new judges same seen told capture k = record {
  holds = judges (fed capture) k.holds;
  opens = subst (λ (o : Opening). Opens o (stream Left capture)) (sym same) k.opens;
  seen = seen_before old new (fed capture).course.sessions.done (fed capture).course.sessions.done seen told (λ i j e. e) k.seen;
}

-- ---- nothing passes

pub none_passes : (d : Direction) (old new : HeldJudge) → ((capture : Capture) → Knows old capture → Knows new capture)
    → told_by new.told ≡ told_by old.told → new.text ≡ old.text → Passes d [] old new
none_passes d old new knows told text = record {
  knows = λ capture k. subst (Knows new) (sym (append-nil capture)) (knows capture k);
  told = told;
  text = text;
}

-- ---- octets of a piece

joined : (d : Direction) (capture : Capture) (a b : List ℕ) → (capture ++ piece d a) ++ piece d b ≡ capture ++ piece d (a ++ b)
joined d capture a b =
    append_assoc capture (piece d a) (piece d b) ∙ ap (λ (z : Capture). capture ++ z) (sym (map-append (of d) a b))

both_pass : (d : Direction) (old now new : HeldJudge) (a b : List ℕ) → Passes d a old now → Passes d b now new → Passes d (a ++ b) old new
both_pass d old now new a b p q = record {
  knows = λ capture k. subst (Knows new) (joined d capture a b) (q.knows (capture ++ piece d a) (p.knows capture k));
  told = q.told ∙ p.told;
  text = q.text ∙ p.text;
}

-- of a piece these octets are left, and the others passed
pub record IsPassing (d : Direction) (octets rest : List ℕ) (old now : HeldJudge) : Type 0 where
  pub fed : List ℕ
  pub parts : octets ≡ fed ++ rest
  pub passes : Passes d fed old now

pub nothing_passed : (d : Direction) (octets : List ℕ) (w : HeldJudge) → IsPassing d octets octets w w
nothing_passed d octets w = record { fed = []; parts = refl; passes = none_passes d w w (λ capture k. k) refl refl }

pub more_passed : (d : Direction) (octets rest : List ℕ) (old now new : HeldJudge) (n : ℕ) → IsPassing d octets rest old now
    → Passes d (take n rest) now new → IsPassing d octets (drop n rest) old new
more_passed d octets rest old now new n p q = record {
  fed = p.fed ++ take n rest;
  parts = p.parts ∙ ap (λ (z : List ℕ). p.fed ++ z) (sym (take-append-drop n rest)) ∙ sym (append_assoc p.fed (take n rest) (drop n rest));
  passes = both_pass d old now new p.fed (take n rest) p.passes q;
}

-- ---- a piece

counted : (d : Direction) (octets rest : List ℕ) (old now : HeldJudge) (p : IsPassing d octets rest old now)
    → length octets ≡ length p.fed + length rest
counted d octets rest old now p = ap length p.parts ∙ length-append p.fed rest

-- of which so many passed
passed : (d : Direction) (octets rest : List ℕ) (old now : HeldJudge) (n : ℕ) (p : IsPassing d octets rest old now) → n ≡ length p.fed
    → TakesPiece d octets n old now
passed d octets rest old now n p is = grind (arith, counted d octets rest old now p, take-append_seam)

-- all
pub all_passed : (d : Direction) (octets rest : List ℕ) (old now : HeldJudge) → rest ≡ [] → IsPassing d octets rest old now
    → TakesPiece d octets (length octets) old now
all_passed d octets rest old now none p =
    let m = counted d octets rest old now p in let z : length rest ≡ 0 = ap length none in
    passed d octets rest old now (length octets) p (omega (arith, m, z))

last_fed : (fed rest : List ℕ) (n m : ℕ) → n ≡ m - length rest → m ≡ length fed + length rest → n ≡ length (fed ++ [])
last_fed fed rest n m is all = let e = ap length (append-nil fed) in omega (arith, is, all, e)

-- or memory ran out
pub refused : (d : Direction) (octets rest : List ℕ) (old now new : HeldJudge) (n : ℕ) → n ≡ length octets - length rest
    → IsPassing d octets rest old now → Passes d [] now new → TakesPiece d octets n old new
refused d octets rest old now new n is p q =
    let r : IsPassing d octets rest old new = record {
      fed = p.fed ++ [];
      parts = p.parts ∙ ap (λ (z : List ℕ). z ++ rest) (sym (append-nil p.fed));
      passes = both_pass d old now new p.fed [] p.passes q;
    } in
    passed d octets rest old new n r (last_fed p.fed rest n (length octets) is (counted d octets rest old now p))

-- ---- a result

pub on_err : {T E : Type 0} (r : Result T E) (P : Type 0) → P → OnErr r P
on_err (Ok x) P p = tt
on_err (Err e) P p = p

-- ---- a list that is empty, or not

pub empty_yes : (xs : List ℕ) (b : Bool) → b ≡ (length xs == 0) → b ≡ true → xs ≡ []
empty_yes [] b e t = refl
empty_yes (x ∷ xs) b e t = absurd (grind (arith, e, t))
