-- What the session of a connection sent is explained by what it had taken by then, also if a capture shows less of it; and the units
-- of its link carry these TSDUs.
-- For the laws of an end and its connections.
use Rattle.osi_blameless.proofs.ends.Vocabulary.{[], ap, Bool, false, length, List, map, None, refl, subst, sym, true, ℕ, ◌++◌, ◌+◌, ◌∙◌}
use Rattle.osi_blameless.proofs.ends.Vocabulary.{◌∷◌, ◌≡◌}
use Rattle.osi_blameless.proofs.ends.Vocabulary.{append-nil, all_taken, all_sent, unit_of, Move, parts_in, parts_out, tsdus_in, tsdus_out}
use Rattle.osi_blameless.proofs.ends.Vocabulary.{tsdus}
use Rattle.osi_blameless.proofs.ends.Vocabulary.{uncut, Listener, awaits, refusal_of, Seen, seen_called, seen_calling, Opening, End}
use Rattle.osi_blameless.proofs.ends.Vocabulary.{IsExplained}
use Rattle.osi_blameless.proofs.ends.Vocabulary.{Told, done, IsSentFrom, AreCalls, Course, Deeds, Gone, IsNew, no_deeds, said_in, Speaks}
use Rattle.osi_blameless.proofs.ends.Vocabulary.{units_given, is_gone, is_open, closed, never, AreSame, Shows, Said, awaited, unknown}
use Rattle.osi_blameless.proofs.ends.Vocabulary.{arith, over}
use Rattle.osi_blameless.proofs.ends.Vocabulary.{told_of, opens}
use Rattle.osi_side.specs.Running as running
use Rattle.osi_blameless.proofs.ends.links.what_calls_of_a_link_say.{fresh_of, none_said, out_more, said_more}
use Rattle.osi_blameless.proofs.ends.courses.what_units_do_to_a_course.{no_calls}
use Rattle.osi_blameless.proofs.ends.sessions.the_session_of_a_request_is_a_caller.{opens_so}
use Rattle.osi_blameless.proofs.ends.sessions.a_history_is_a_run.{history_runs}
use Rattle.osi_blameless.proofs.ends.sessions.what_a_capture_shows_is_a_run.{shown_sent}

-- ---- what was said is a run of a session

-- nothing was said; or a session that began so said it, when these TSDUs arrived
pub data IsSaid (is_caller : Bool) (us : List (List ℕ)) (told : List Told) : Type 0 where
  nothing : told ≡ [] → IsSaid is_caller us told
  something : (begin : Listener) → IsNew is_caller begin → IsSentFrom begin us told → IsSaid is_caller us told

-- the session took the first of these
spoken : (is_caller : Bool) (heard : List Move) (is_closed : Bool) (session : Listener) (us rest : List (List ℕ)) →
    Speaks is_caller heard is_closed session → us ≡ tsdus_out heard ++ rest → IsSaid is_caller us (map told_of (said_in 0 heard))
spoken is_caller heard is_closed session us rest s is =
    something s.begin s.new (record {
      later = [];
      runs = history_runs s.begin us (tsdus_out heard) (said_in 0 heard) is_closed session s.history rest is []
          (running.rests is_closed session (length (tsdus_out heard)));
    })

module _ (is_caller : Bool) (r : ℕ) (moves : Deeds) (e : End) where
  abbrev Said_of : Type 0
  Said_of = IsSaid is_caller (tsdus_out moves.calls) (map told_of (said_in 0 moves.calls))

  unsaid_yet : moves ≡ no_deeds → Said_of
  unsaid_yet none = nothing (ap (λ (d : Deeds). map told_of (said_in 0 d.calls)) none)

  spoken_all : (is_closed : Bool) (session : Listener) → Speaks is_caller moves.calls is_closed session → Said_of
  spoken_all is_closed session s =
      spoken is_caller moves.calls is_closed session (tsdus_out moves.calls) [] s (sym (append-nil (tsdus_out moves.calls)))

  gone_said : Gone is_caller r moves e → Said_of
  gone_said (closed at calls is_closed session s given shut) = spoken_all is_closed session s
  gone_said (never none ended) = unsaid_yet none
  gone_said (over at calls heard unheard is_closed session s parts into ended) =
      let said : said_in 0 moves.calls ≡ said_in 0 heard =
      ap (said_in 0) parts ∙ said_more 0 heard unheard
      ∙ ap (λ (l : List Said). said_in 0 heard ++ l) (none_said (0 + length (tsdus_out heard)) unheard into)
      ∙ append-nil (said_in 0 heard) in
      subst (λ (l : List Said). IsSaid is_caller (tsdus_out moves.calls) (map told_of l)) (sym said)
      (spoken is_caller heard is_closed session (tsdus_out moves.calls) (tsdus_out unheard) s (ap tsdus_out parts ∙ out_more heard unheard))

  pub course_said : Course is_caller r moves e → Said_of
  course_said (unknown none side free live lines) = unsaid_yet none
  course_said (awaited none c terms side lasts given here kept) = unsaid_yet none
  course_said (is_open given o) = spoken_all false o.session o.speaks
  course_said (is_gone g) = gone_said g

-- ---- a capture shows less

shows_none : (bound : ℕ) (told : List Told) → Shows bound told [] → told ≡ []
shows_none bound [] s = refl
shows_none bound (t ∷ told) s = absurd s

pub shown_said : (is_caller : Bool) (took us : List (List ℕ)) (told all : List Told) → AreSame us took → Shows (length us) told all →
    IsSaid is_caller took all → IsSaid is_caller us told
shown_said is_caller took us told all same s (nothing none) = nothing (shows_none (length us) told (subst (Shows (length us) told) none s))
shown_said is_caller took us told all same s (something begin is_new sent) =
    something begin is_new (shown_sent begin took us told all same s sent)

-- ---- so it is explained: by a session that awaits a CN, or by one that its opening begins, whose terms the opening has to meet

nothing_explained : (begin : Seen) (us : List (List ℕ)) (told : List Told) → told ≡ [] → IsExplained begin us told
nothing_explained begin us told none = subst (IsExplained begin us) (sym none) (done 0 begin)

pub explained_from_awaiting : ((us : List (List ℕ)) (told : List Told) → IsSentFrom awaits us told → IsExplained seen_called us told) →
    (us : List (List ℕ)) (told : List Told) → IsSaid false us told → IsExplained seen_called us told
explained_from_awaiting law us told h = grind (arith, nothing_explained)

pub explained_from_opening : ((o : Opening) (us : List (List ℕ)) (told : List Told) → refusal_of o ≡ None → IsSentFrom (opens o) us told →
    IsExplained seen_calling us told) → (us : List (List ℕ)) (told : List Told) → IsSaid true us told → IsExplained seen_calling us told
explained_from_opening law us told (nothing none) = nothing_explained seen_calling us told none
explained_from_opening law us told (something begin (c, terms, is) sent) =
    let o = opens_so c terms in
    law o.opening us told o.accepted (subst (λ (l : Listener). IsSentFrom l us told) (is ∙ sym o.begins) sent)

-- ---- the units of the link

course_calls : (is_caller : Bool) (r : ℕ) (moves : Deeds) (e : End) → Course is_caller r moves e → (peer : ℕ) × AreCalls peer moves
course_calls is_caller r moves e (unknown none side free live lines) = (0, no_calls 0 e.carrier.local moves none)
course_calls is_caller r moves e (awaited none c terms side lasts given here kept) = (0, no_calls 0 e.carrier.local moves none)
course_calls is_caller r moves e (is_open given o) = (o.peer, o.calls)
course_calls is_caller r moves e (is_gone (closed at calls is_closed session s given shut)) = (at, calls)
course_calls is_caller r moves e (is_gone (over at calls heard unheard is_closed session s parts into ended)) = (at, calls)
course_calls is_caller r moves e (is_gone (never none ended)) = (0, no_calls 0 e.carrier.local moves none)

pub units_put : (is_caller : Bool) (r : ℕ) (moves : Deeds) (e : End) → Course is_caller r moves e →
    (unsent : List (List ℕ)) × (peer : ℕ) × (moves.put ≡ map (unit_of peer) (units_given moves.calls))
    × (tsdus (parts_out moves.calls ++ uncut unsent) ≡ tsdus_in moves.calls)
units_put is_caller r moves e course = search (arith, all_sent, fresh_of, course_calls is_caller r moves e course)

pub units_came : (is_caller : Bool) (r : ℕ) (moves : Deeds) (e : End) → Course is_caller r moves e →
    tsdus (parts_in moves.calls) ≡ tsdus_out moves.calls
units_came is_caller r moves e course = grind (arith, course_calls, all_taken, fresh_of, append-nil)
