-- A session has said each TSDU of which a unit was put, and by then it had taken no more than its link has handed out.
-- For what a capture shows of a session.
use Rattle.osi_blameless.proofs.Vocabulary.{[], ap, arith, Bool, false, length, List, refl, subst, suc, sym, true, ℕ, ◌++◌, ◌+◌, ◌∙◌, ◌∷◌}
use Rattle.osi_blameless.proofs.Vocabulary.{◌≡◌, ◌≤◌, flat_map-append, length-append, length-map, AllByRecursion, Value, at_some}
use Rattle.osi_blameless.proofs.Vocabulary.{move_keeps, all as all_sent, Ends, Standing, give_out, hand_in, hand_out, Move, MovesAlong}
use Rattle.osi_blameless.proofs.Vocabulary.{part_out, parts_out, take_in, tsdus_in, tsdus_out, unit_parts, Part, tsdus, tsdus_after, uncut}
use Rattle.osi_blameless.proofs.Vocabulary.{End, fresh_of, no_calls, AreCalls, Deeds, said_in, is_gone, closed, ends_whole, left_over}
use Rattle.osi_blameless.proofs.Vocabulary.{parts_of, never, awaited, unknown, Said, over}
use Rattle.osi_blameless.specs.ends.Courses.{Course}
use Rattle.osi_blameless.specs.ends.Courses.Course.{is_open}
use Rattle.osi_blameless.proofs.shown.a_session_that_is_shown_is_not_to_blame.{octets_in, parts_put, tsdus_more}

-- ---- parts one after the other

pub left_more : (begun : List ℕ) (some more : List Part) → left_over begun (some ++ more) ≡ left_over (left_over begun some) more
left_more begun [] more = refl
left_more begun ((false, octets) ∷ some) more = left_more (begun ++ octets) some more
left_more begun ((true, octets) ∷ some) more = left_more [] some more

pub ends_more : (before : Bool) (some more : List Part) → ends_whole before (some ++ more) ≡ ends_whole (ends_whole before some) more
ends_more before [] more = refl
ends_more before (part ∷ some) more = ends_more part.0 some more

-- ---- how many TSDUs parts begin

-- one that is unfinished, or none
abbrev pub one_if : (ended : Bool) → ℕ
one_if true = 0
one_if false = 1

-- each part that comes after a whole TSDU begins one
abbrev starts : (ended : Bool) → ℕ
starts true = 1
starts false = 0

abbrev pub started : (ended : Bool) → List Part → ℕ
started ended [] = 0
started ended (part ∷ parts) = starts ended + started part.0 parts

-- these are the whole ones and the unfinished one
started_are : (ended : Bool) (begun : List ℕ) (parts : List Part) →
    length (tsdus_after begun parts) + one_if (ends_whole ended parts) ≡ started ended parts + one_if ended
started_are ended begun [] = refl
started_are true begun ((false, octets) ∷ parts) = let h = started_are false (begun ++ octets) parts in omega (arith, h)
started_are false begun ((false, octets) ∷ parts) = let h = started_are false (begun ++ octets) parts in omega (arith, h)
started_are true begun ((true, octets) ∷ parts) = let h = started_are true [] parts in omega (arith, h)
started_are false begun ((true, octets) ∷ parts) = let h = started_are true [] parts in omega (arith, h)

started_more : (ended : Bool) (some more : List Part) → started ended some ≤ started ended (some ++ more)
started_more ended [] more = omega arith
started_more ended (part ∷ some) more = let h = started_more part.0 some more in omega (arith, h)

uncut_count : (begun : List ℕ) (unsent : List (List ℕ)) → length (tsdus_after begun (uncut unsent)) ≡ length unsent
uncut_count begun [] = refl
uncut_count begun (tsdu ∷ unsent) = ap suc (uncut_count [] unsent)

-- ---- a link has what an unfinished TSDU needs

-- of a TSDU that was begun the rest is unsent
abbrev Owes : (ended : Bool) → Ends → Type 0
Owes ended e = ended ≡ false → 1 ≤ length e.unsent

run_owes : (ended : Bool) (moves : List Move) (old new : Standing) → MovesAlong old moves new → Owes ended old.ends →
    Owes (ends_whole ended (parts_out moves)) new.ends
run_owes ended [] old new e h = subst (λ (s : Standing). Owes ended s.ends) (sym e) h
run_owes ended (move ∷ moves) old new (mid, first, rest) h =
    subst (λ (b : Bool). Owes b new.ends) (sym (ends_more ended (part_out move) (parts_out moves)))
    (run_owes (ends_whole ended (part_out move)) moves mid new rest (grind (arith, length-append, at_some, move_keeps)))

-- ---- what was put

one_less : (ended : Bool) (e : Ends) → Owes ended e → one_if ended ≤ length e.unsent
one_less ended e h = grind arith

-- a fresh link has begun no more than was handed in
pub begun_of : (moves : List Move) (first link : Standing) → MovesAlong first moves link → first.ends.unsent ≡ [] →
    started true (parts_out moves) ≤ length (tsdus_in moves)
begun_of moves first link run nothing =
    let parts = parts_out moves in
    let owes = one_less (ends_whole true parts) link.ends (run_owes true moves first link run (λ h. absurd (cc))) in
    grind (arith, started_are, length-append, tsdus_more, all_sent, uncut_count)

course_calls : (is_caller : Bool) (r : ℕ) (deeds : Deeds) (e : End) → Course is_caller r deeds e → (peer : ℕ) × AreCalls peer deeds
course_calls is_caller r deeds e (unknown none side free live lines) = (0, no_calls 0 e.carrier.local deeds none)
course_calls is_caller r deeds e (awaited none c terms side lasts given here kept) = (0, no_calls 0 e.carrier.local deeds none)
course_calls is_caller r deeds e (is_open given o) = (o.peer, o.calls)
course_calls is_caller r deeds e (is_gone (closed at calls is_closed session s given shut)) = (at, calls)
course_calls is_caller r deeds e (is_gone (over at calls heard unheard is_closed session s parts into ended)) = (at, calls)
course_calls is_caller r deeds e (is_gone (never none ended)) = (0, no_calls 0 e.carrier.local deeds none)

said_count : (n : ℕ) (moves : List Move) → length (said_in n moves) ≡ length (tsdus_in moves)
said_count n moves = grind (arith, length-map, octets_in)

-- A session has said each TSDU that units began which were put for it.
pub begun_within : (is_caller : Bool) (r : ℕ) (deeds : Deeds) (e : End) → Course is_caller r deeds e → (passed waiting : List Value) →
    deeds.put ≡ passed ++ waiting →
    length (tsdus (parts_of passed)) + one_if (ends_whole true (parts_of passed)) ≤ length (said_in 0 deeds.calls)
begun_within is_caller r deeds e course passed waiting put =
    let (peer, calls) = course_calls is_caller r deeds e course in
    let parts : parts_out deeds.calls ≡ parts_of passed ++ parts_of waiting =
    sym (parts_put peer deeds.calls) ∙ ap parts_of (sym calls.put) ∙ ap parts_of put ∙ flat_map-append unit_parts passed waiting in
    grind (arith, begun_of, fresh_of, started_more, started_are, said_count)

-- ---- how many had been taken

-- a session had taken no more than its link has handed out
pub all_taken_by : (n most : ℕ) (moves : List Move) → n + length (tsdus_out moves) ≤ most →
    AllByRecursion (λ (s : Said). s.taken ≤ most) (said_in n moves)
all_taken_by n most [] h = tt
all_taken_by n most (hand_in tsdu ∷ moves) h = (omega (arith, h), all_taken_by n most moves h)
all_taken_by n most (hand_out tsdu ∷ moves) h = all_taken_by (n + 1) most moves (omega (arith, h))
all_taken_by n most (give_out unit ∷ moves) h = all_taken_by n most moves h
all_taken_by n most (take_in unit ∷ moves) h = all_taken_by n most moves h
