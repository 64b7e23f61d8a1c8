-- Over every list of moves, the invariant holds, an end ends only for a reason that the list gives, and what is reported
-- at one end is a prefix of what was handed in at the other.
-- For the laws.
use Rattle.osi_between.specs.Between.{under_way}
use Rattle.osi_carrier.specs.State.{ends as ends_by}
use Rattle.osi_between.specs.Journey.{ends}
use Rattle.osi_between.proofs.between.every_move_keeps_the_invariant as all
use Rattle.osi_between.proofs.Vocabulary.{◌≡◌, ℕ, ◌+◌, Bool, true, false, not, List, [], ◌∷◌, ◌++◌, length, drop, None, is_some, refl, sym}
use Rattle.osi_between.proofs.Vocabulary.{ap, subst, ◌∙◌, append_assoc, nat_lt, arith, inl, inr, drop-append_seam, side, flat_map}
use Rattle.osi_between.proofs.Vocabulary.{append-nil, Local, place_at, Happening, after_packet, value_at, State, Closed, reference_of, Both}
use Rattle.osi_between.proofs.Vocabulary.{Between, last_of, AreBetween, is_cut, told_of, answers_in, Acted, becomes, Same, Lost, fresh_both}
use Rattle.osi_between.proofs.Vocabulary.{fresh_between, tsdus_told, tsdus_in, told_in, handed_in, all_told, all_handed_in, AreFirstOf}
use Rattle.osi_between.proofs.Vocabulary.{Move, carries, takes, connects, hands_in, closes, tells, breaks, May, moved, MayAll, Message, ask}
use Rattle.osi_between.proofs.Vocabulary.{message, bye, Terms, by_two, by_zero, refusing, terms_of, ended_behind, ended_by_all, StayBetween}
use Rattle.osi_between.proofs.Vocabulary.{AreFor, Value, if◌then◌else◌, ◌==◌, ended_at, told_by_packet}
use Rattle.osi_between.proofs.between.an_acting_end_keeps_the_invariant.{by_end}
use Rattle.osi_between.proofs.between.what_is_reported_was_handed_in.{first_none, first_more, is_over, is_sealed, tsdus_under, sealed_same}
use Rattle.osi_between.proofs.between.what_is_reported_was_handed_in.{Fact, fact_lost, fact_still, fact_taken, acts_at, stays_open}
use Rattle.osi_between.proofs.between.what_is_reported_was_handed_in.{answers_none, is_done, MayPut, MayBeOpen, fact_put}
use Rattle.osi_between.proofs.between.every_move_keeps_the_invariant.{took, sends, closes_ends, hands_over, ends_at, begins}
use Rattle.osi_between.proofs.zero.a_called_end_that_refuses_all.{none_open}
use Rattle.osi_between.proofs.meeting.how_a_connection_changes_at_each_end.{is_given}

-- ---- one move

-- after one move: why an end has ended, and what was reported and handed in
record Goes (terms : Terms) (m : Move) (both : Both) (b : Between) : Type 0 where
  now : Between
  between : AreBetween terms (moved m both) now
  ended : (end : Bool) → (side end (moved m both)).state.ended ≡ ended_behind terms end m (side end both).state.ended
  facts : (from : Bool) (n : ℕ) → Fact from (not from) n both (moved m both) b now (told_in (not from) n m both) (handed_in from n m)

-- of what is said of an end and the other
by_turns : (end : Bool) (P : Bool → Bool → Type 0) → P end (not end) → P (not end) end → (e : Bool) → P e (not e)
by_turns end P a b e = grind arith

-- ---- an end acts

-- A move is one of an end for a connection: it reports `told` there, `put` is handed in, and nothing else changes.
record IsOf (terms : Terms) (m : Move) (both : Both) (end : Bool) (q : ℕ) (told : ℕ → List (List ℕ)) (put : List Message) : Type 0 where
  reach : (moved m both).reach ≡ both.reach
  there : (side (not end) (moved m both)).state.ended ≡ (side (not end) both).state.ended
  ends : (e : Bool) → ended_behind terms e m (side e both).state.ended ≡ (side e both).state.ended
  reports : (n : ℕ) → told_in end n m both ≡ told n
  silent : (n : ℕ) → told_in (not end) n m both ≡ []
  hands : (n : ℕ) → handed_in end n m ≡ (if q == n then tsdus_in put else [])
  none : (n : ℕ) → handed_in (not end) n m ≡ []

may_be_open : (terms : Terms) (end : Bool) (both : Both) (b : Between) (q : ℕ) → AreBetween terms both b →
    MayBeOpen terms (place_at q (last_of end b))
may_be_open terms end both b q a = grind (arith, is_given)

acted_goes : (terms : Terms) (m : Move) (both : Both) (b : Between) (end : Bool) (q : ℕ) (told : ℕ → List (List ℕ)) (taken : List Value)
    (put : List Message) → AreBetween terms both b → (side end both).state.ended ≡ None →
    (d : Acted terms end q both (moved m both) b taken put) → AreFor q taken → MayPut end q b d.now put →
    ((n : ℕ) → told n ≡ tsdus_told n (flat_map (told_of terms q (place_at q (last_of end b))) d.carries.arrived)) →
    IsOf terms m both end q told put → Goes terms m both b
acted_goes terms m both b end q told taken put a alive d all may reports o =
    let new = moved m both in
    let w = acts_at end both new alive d.lasts o.reach o.there in
    record {
      now = d.now;
      between = d.between;
      ended = by_end end (λ e. (side e new).state.ended ≡ ended_behind terms e m (side e both).state.ended)
          (d.lasts ∙ sym alive ∙ sym (o.ends end)) (o.there ∙ sym (o.ends (not end)));
      facts = λ from n. by_turns end (λ f x. Fact f x n both new b d.now (told_in x n m both) (handed_in f n m))
          (rw (o.silent n, o.hands n) (fact_put terms end q both new b d.now taken put d.carries w n may))
          (rw (o.none n) (fact_taken terms end q both new b d.now taken put d.carries w n (told_in end n m both) all
          (may_be_open terms end both b q a) (o.reports n ∙ reports n))) from;
    }

-- a call reports nothing
called_goes : (terms : Terms) (m : Move) (both : Both) (b : Between) (end : Bool) (q : ℕ) (put : List Message) → AreBetween terms both b →
    (side end both).state.ended ≡ None → (d : Acted terms end q both (moved m both) b [] put) → MayPut end q b d.now put →
    IsOf terms m both end q (λ n. []) put → Goes terms m both b
called_goes terms m both b end q put a alive d may o =
    acted_goes terms m both b end q (λ n. []) [] put a alive d tt may
    (λ n. sym (ap (λ (ms : List Message). tsdus_told n (flat_map (told_of terms q (place_at q (last_of end b))) ms)) d.carries.brings.is)) o

-- ---- a packet

told_is : (n : ℕ) (s t : State) (old new : State) (es : List Happening) → s ≡ old → t ≡ new → new.events ≡ old.events ++ es →
    tsdus_told n (drop (length s.events) t.events) ≡ tsdus_told n es
told_is n s t old new es here now e = grind (arith, drop, length, drop-append_seam)

packet_is : (terms : Terms) (end : Bool) (both : Both) (packet octets behind : List ℕ) (q : ℕ) (put : List Message) → tsdus_in put ≡ [] →
    IsOf terms (takes end packet octets behind) both end q (λ n. told_by_packet n (side end both).state packet) put
packet_is terms end both packet octets behind q put none = grind arith

-- ---- nothing is reported or handed in

quiet_goes : (terms : Terms) (m : Move) (both : Both) (b now : Between) → AreBetween terms (moved m both) now →
    ((from : Bool) (n : ℕ) → Fact from (not from) n both (moved m both) b now [] []) →
    ((end : Bool) (n : ℕ) → told_in end n m both ≡ []) → ((end : Bool) (n : ℕ) → handed_in end n m ≡ []) →
    ((end : Bool) → (side end (moved m both)).state.ended ≡ ended_behind terms end m (side end both).state.ended) → Goes terms m both b
quiet_goes terms m both b now between facts told put ended = record {
  now = now;
  between = between;
  ended = ended;
  facts = λ from n. rw (told (not from) n, put from n) (facts from n);
}

same_fact : (terms : Terms) (both new : Both) (b : Between) → (t : Same terms both new b) →
    ((from : Bool) → is_cut from both ≡ is_cut from new) → (from : Bool) (n : ℕ) → Fact from (not from) n both new b t.now [] []
same_fact terms both new b t cut from n = grind (arith, fact_still, sealed_same)

lost_fact : (terms : Terms) (both new : Both) (b : Between) → (t : Lost terms both new b) → (from : Bool) (n : ℕ) →
    Fact from (not from) n both new b t.now [] []
lost_fact terms both new b t from n =
    fact_lost from (not from) n both new b t.now (t.loses from n).gone (t.loses from n).all (t.stays (not from) n)
    (λ s. t.whole from n (grind arith)) (grind (arith, is_over))

-- ---- any move

ended_is : (end : Bool) (both : Both) →
    ended_at end Closed both ≡ becomes end (ends_by Closed (side end both).state) (side end both).held both
ended_is end both = grind arith

close_goes : (terms : Terms) (end : Bool) (both : Both) (b : Between) (q reason : ℕ) → AreBetween terms both b →
    May (closes end q reason) both → Goes terms (closes end q reason) both b
close_goes by_two end both b q reason a may =
    called_goes by_two (closes end q reason) both b end q (bye reason ∷ []) a may.0.lasts
    (all.closes end both b q may.0.peer may.0.link reason a may.0.lasts may.0.is may.1) (inl refl) (grind arith)
close_goes by_zero end both b q reason a may =
    let is : ended_at end Closed both ≡ moved (closes end q reason) both =
    ended_is end both ∙ ap (λ (s : State). becomes end s (side end both).held both)
    (sym (closes_ends end both b q may.0.peer may.0.link reason a may.0.lasts may.0.is)) in
    let t = subst (λ (new : Both). Lost by_zero both new b) is (ends_at by_zero end both b Closed a) in
    quiet_goes by_zero (closes end q reason) both b t.now t.between (lost_fact by_zero both (moved (closes end q reason) both) b t)
    (grind arith) (grind arith) (grind arith)
close_goes (refusing why) end both b q reason a may = absurd (grind (arith, none_open))

move_goes : (terms : Terms) (m : Move) (both : Both) (b : Between) → AreBetween terms both b → May m both → Goes terms m both b
move_goes terms (carries end k) both b a may =
    let t = hands_over terms end both b k a may in
    quiet_goes terms (carries end k) both b t.now t.between
    (same_fact terms both (moved (carries end k) both) b t (grind (arith, is_some))) (grind arith) (grind arith) (grind arith)
move_goes terms (takes end packet octets behind) both b a may =
    let t = took terms end both b packet octets behind a may.lasts may.is may.cut in
    let s = after_packet (side end both).state packet in
    let q = reference_of t.unit in
    let put = answers_in terms (place_at q (last_of end b)) t.unit in
    let d = subst (λ (x : State). Acted terms end q both (becomes end x behind both) b (t.unit ∷ []) put) (sym t.acts) t.acted in
    let here : (side end (becomes end s behind both)).state ≡ s = grind arith in
    let none = answers_none terms (place_at q (last_of end b)) t.unit in
    acted_goes terms (takes end packet octets behind) both b end q (λ n. told_by_packet n (side end both).state packet) (t.unit ∷ []) put
    a may.lasts d (refl, tt) (inl none)
    (λ n. told_is n (side end both).state s (last_of end b) (last_of end d.now)
    (flat_map (told_of terms q (place_at q (last_of end b))) d.carries.arrived) (a.lives end may.lasts)
    (sym here ∙ d.between.lives end d.lasts) d.carries.told)
    (packet_is terms end both packet octets behind q put none)
move_goes terms (connects calling to) both b a may =
    called_goes terms (connects calling to) both b true (both.caller.state.given + 1) (ask ∷ []) a may.0
    (all.connects terms both b calling to a may.0 may.1 may.2 may.3) (inl refl) (grind arith)
move_goes terms (hands_in end q tsdu) both b a may =
    let d = sends terms end both b q may.0.peer may.0.link tsdu a may.0.lasts may.0.is may.1 may.2 in
    called_goes terms (hands_in end q tsdu) both b end q (message tsdu ∷ []) a may.0.lasts d
    (inr (stays_open terms end q both (moved (hands_in end q tsdu) both) b d.now tsdu may.0.peer may.0.link d.carries
    (ap (λ (s : State). value_at q s.live) (sym (a.lives end may.0.lasts)) ∙ may.0.is))) (grind arith)
move_goes terms (closes end q reason) both b a may = close_goes terms end both b q reason a may
move_goes terms (tells end events) both b a may =
    let t = all.tells terms end both b events a in
    quiet_goes terms (tells end events) both b t.now t.between
    (same_fact terms both (moved (tells end events) both) b t (grind arith)) (grind arith) (grind arith) (grind arith)
move_goes terms (ends end reason) both b a may =
    let t = ends_at terms end both b reason a in
    quiet_goes terms (ends end reason) both b t.now t.between (lost_fact terms both (moved (ends end reason) both) b t)
    (grind arith) (grind arith) (grind arith)
move_goes terms (breaks k l) both b a may =
    let t = all.breaks terms both b k l a may.0 may.1 may.2 in
    quiet_goes terms (breaks k l) both b t.now t.between (lost_fact terms both (moved (breaks k l) both) b t)
    (grind arith) (grind arith) (grind arith)

-- ---- lists of moves

pub all_stay : (terms : Terms) (ms : List Move) (both : Both) (b : Between) → AreBetween terms both b → MayAll ms both →
    StayBetween terms ms both
all_stay terms [] both b a may = record { now = b; between = a; ended = λ e. refl }
all_stay terms (m ∷ ms) both b a may =
    let one = move_goes terms m both b a may.0 in
    let more = all_stay terms ms (moved m both) one.now one.between may.1 in
    record {
      now = more.now;
      between = more.between;
      ended = λ e. more.ended e ∙ ap (ended_by_all terms e ms) (one.ended e);
    }

-- What may still be reported if these TSDUs are in flight and those will be handed in: nothing, if the connection takes
-- nothing more; none of the latter, if nothing that is put arrives.
abbrev MayTell : Bool → Bool → List (List ℕ) → List (List ℕ) → List (List ℕ) → Type 0
MayTell true sealed under later told = told ≡ []
MayTell false true under later told = AreFirstOf told under
MayTell false false under later told = AreFirstOf told (under ++ later)

tells_first : (done sealed : Bool) (under later told : List (List ℕ)) → MayTell done sealed under later told →
    AreFirstOf told (under ++ later)
tells_first true sealed under later told h = grind (arith, first_none)
tells_first false true under later told h = first_more told under later h
tells_first false false under later told h = h

-- what may be reported after a step, with what was reported in it
tells_on : (done over was sealed : Bool) (under now told put later more : List (List ℕ)) → (done ≡ true → (told ≡ []) × (over ≡ true)) →
    (done ≡ false → AreFirstOf told under) →
    (done ≡ false → over ≡ false → sealed ≡ false → (was ≡ false) × (told ++ now ≡ under ++ put)) →
    (done ≡ false → over ≡ false → sealed ≡ true → AreFirstOf (told ++ now) under) → MayTell over sealed now later more →
    MayTell done was under (put ++ later) (told ++ more)
tells_on true over was sealed under now told put later more shut last whole less h = grind arith
tells_on false over true sealed under now told put later more shut last whole less h = grind (arith, append_assoc, append-nil)
tells_on false over false sealed under now told put later more shut last whole less h =
    grind (arith, append_assoc, append-nil, first_more)

told_along : (terms : Terms) (from : Bool) (n : ℕ) (ms : List Move) (both : Both) (b : Between) → AreBetween terms both b → MayAll ms both →
    MayTell (is_done (not from) n b) (is_sealed from n both b) (tsdus_under from n both b) (all_handed_in from n ms)
    (all_told (not from) n ms both)
told_along terms from n [] both b a may = grind (arith, first_none)
told_along terms from n (m ∷ ms) both b a may =
    let g = move_goes terms m both b a may.0 in
    let f = g.facts from n in
    tells_on (is_done (not from) n b) (is_done (not from) n g.now) (is_sealed from n both b) (is_sealed from n (moved m both) g.now)
    (tsdus_under from n both b) (tsdus_under from n (moved m both) g.now) (told_in (not from) n m both) (handed_in from n m)
    (all_handed_in from n ms) (all_told (not from) n ms (moved m both)) f.shut f.last f.whole f.sealed
    (told_along terms from n ms (moved m both) g.now g.between may.1)

pub told_from : (terms : Terms) (from : Bool) (n : ℕ) (ms : List Move) (both : Both) (b : Between) → AreBetween terms both b →
    MayAll ms both → AreFirstOf (all_told (not from) n ms both) (tsdus_in (under_way from n both b) ++ all_handed_in from n ms)
told_from terms from n ms both b a may =
    tells_first (is_done (not from) n b) (is_sealed from n both b) (tsdus_under from n both b) (all_handed_in from n ms)
    (all_told (not from) n ms both) (told_along terms from n ms both b a may)

-- ---- from the beginning on

fresh_none : (from : Bool) (n : ℕ) (caller called : Local) → under_way from n (fresh_both caller called) (fresh_between caller called) ≡ []
fresh_none from n caller called = grind (arith, nat_lt)

pub told_fresh : (caller called : Local) (ms : List Move) (from : Bool) (n : ℕ) → MayAll ms (fresh_both caller called) →
    AreFirstOf (all_told (not from) n ms (fresh_both caller called)) (all_handed_in from n ms)
told_fresh caller called ms from n may =
    rw (fresh_none from n caller called)
    at (told_from (terms_of caller called) from n ms (fresh_both caller called) (fresh_between caller called) (begins caller called) may)
