-- What is seen of two ends that are the same except for lines of connections that are gone; and if a break is found.
use Rattle.osi_stack.proofs.Vocabulary.{flat_map-append, sum_by-cons, flat_map, Rows, value_at, Connection, Broken, none_of}
use Rattle.osi_stack.proofs.Vocabulary.{Call as SessionCall, disconnect_error, connect_error, call_error, phase_at, breaks, ends}
use Rattle.osi_stack.proofs.Vocabulary.{shown_at_loss, all_lost, kept_at, all_waiting, hushed, put_back, live_lines, pruned, account_of}
use Rattle.osi_stack.proofs.Vocabulary.{CallsAlong, told_in, carried_in, AreAlike, AreAlikeByReference, AreAlikeInLive, LookAlike}
use Rattle.osi_stack.proofs.Vocabulary.{IsSettled, Line, End, Holding, session_in, session_at, joined_live, joined_in, ◌≡◌, ℕ, Bool, true}
use Rattle.osi_stack.proofs.Vocabulary.{false, List, [], ◌∷◌, ◌++◌, None, is_some, IsSome, refl, sym, ap, ◌∙◌, arith, if◌then◌else◌}
use Rattle.osi_stack.specs.Runs.{Call, told_of}
use Rattle.osi_stack.proofs.in_step.the_account_packet_by_packet.{after_more, account_joined}
use Rattle.osi_stack.proofs.in_step.what_is_seen_is_the_same.{quieted_at, call_apart, call_hushed}
use Rattle.osi_stack.proofs.in_step.a_break_while_indications_are_pending.{lost_told}
use Rattle.osi_stack.proofs.stream.how_calls_end_an_end.{stays_along}
use Rattle.osi_stack.proofs.in_step.lines_that_are_gone_do_not_matter.{IsFit, gone_shows, quieted_live}
use Rattle.osi_stack.proofs.in_step.what_is_joined_is_the_same.{joined_quiet}
use Rattle.osi_stack.proofs.in_step.the_other_lines_may_be_dropped.{only_at}

-- ---- what is seen of one

-- only the lines of live connections are looked at
session_by : (r : ℕ) (live : Rows Connection) (lines : Rows Line) (b : Bool) → is_some (value_at r live) ≡ b →
    (if b then session_in (value_at r (live_lines live lines)) else None) ≡ (if b then session_in (value_at r lines) else None)
session_by r live lines false e = refl
session_by r live lines true e = ap session_in (only_at (λ q. is_some (value_at q live)) r lines e)

-- with all indications given, and what was sent put back
session_view : (r : ℕ) (o : List ℕ) (e : End) → session_at r (put_back o (hushed (pruned e))) ≡ session_at r e
session_view r o e = grind (arith, quieted_at, session_by)

call_view : (r : ℕ) (call : SessionCall) (o : List ℕ) (e : End) → call_error r call (put_back o (hushed (pruned e))) ≡ call_error r call e
call_view r call o e = search (arith, call_apart, call_hushed, session_by)

joined_pruned : (live : Rows Connection) (lines : Rows Line) → joined_in live (live_lines live lines) ≡ joined_in live lines
joined_pruned live [] = refl
joined_pruned live ((q, y) ∷ lines) =
    let one = sum_by-cons (λ row. joined_live live row) (q, y) (live_lines live lines) in
    let two = sum_by-cons (λ row. joined_live live row) (q, y) lines in
    grind (arith, joined_pruned live lines)

-- ---- two ends

-- with the same indications for each reference
looks : (a b : Holding) (xs ys : List Call) → a.held.octets ≡ b.held.octets →
    put_back (flat_map carried_in xs) (hushed (pruned a.end)) ≡ put_back (flat_map carried_in ys) (hushed (pruned b.end)) →
    ((r : ℕ) → told_of r (flat_map told_in xs ++ all_waiting a.end.lines) ≡ told_of r (flat_map told_in ys ++ all_waiting b.end.lines)) →
    LookAlike a xs b ys
looks a b xs ys octets same told =
    let o = flat_map carried_in xs in
    let p = flat_map carried_in ys in
    record {
      phases = λ r. sym (search (arith, session_view)) ∙ ap (phase_at r) same ∙ (search (arith, session_view));
      sessions = λ r. sym (session_view r o a.end) ∙ ap (session_at r) same ∙ session_view r p b.end;
      indications = told;
      octets = ap (λ (e : End). e.carrier.outgoing) same;
      ended = ap (λ (e : End). e.carrier.ended) same;
      kept = grind (arith, joined_quiet, joined_pruned);
      requests = λ c. ap (connect_error c) same;
      answers = λ r call. sym (call_view r call o a.end) ∙ ap (call_error r call) same ∙ call_view r call p b.end;
      disconnects = λ r. sym (search (arith, session_view)) ∙ ap (disconnect_error r) same ∙ (search (arith, session_view));
    }

pub looks_in_live : (a b : Holding) (xs ys : List Call) → AreAlikeInLive a xs b ys → LookAlike a xs b ys
looks_in_live a b xs ys h = looks a b xs ys h.octets h.end (λ r. ap (told_of r) h.told)

-- also if the indications of several references are in another order
pub look_apart : (a b : Holding) (xs ys : List Call) → AreAlikeByReference a xs b ys → LookAlike a xs b ys
look_apart a b xs ys h = looks a b xs ys h.octets (grind (arith, quieted_live)) h.told

pub look_alike : (a b : Holding) (xs ys : List Call) → AreAlike a xs b ys → LookAlike a xs b ys
look_alike a b xs ys h = look_apart a b xs ys (record { octets = h.octets; end = h.end; told = λ r. ap (told_of r) h.told })

-- ---- a break

none_live : (lines : Rows Line) → live_lines [] lines ≡ []
none_live [] = refl
none_live ((q, y) ∷ lines) = none_live lines

-- that of a live connection
kept_view : (r : ℕ) (o : List ℕ) (e : End) → is_some (value_at r e.carrier.live) ≡ true →
    kept_at r (put_back o (hushed (pruned e))).lines ≡ kept_at r e.lines
kept_view r o e here = quieted_at r (live_lines e.carrier.live e.lines) ∙
    ap session_in (only_at (λ q. is_some (value_at q e.carrier.live)) r e.lines here)

lost_by : (r : ℕ) (o p : List ℕ) (a b : End) (here : Bool) → is_some (value_at r a.carrier.live) ≡ here →
    put_back o (hushed (pruned a)) ≡ put_back p (hushed (pruned b)) →
    a.carrier.ended ≡ None → b.carrier.ended ≡ None → IsFit a → IsFit b →
    shown_at_loss (kept_at r a.lines) ≡ shown_at_loss (kept_at r b.lines)
lost_by r o p a b true e same lasts still f g = grind (arith, kept_view r o a e, kept_view r p b)
lost_by r o p a b false e same lasts still f g = grind (arith, gone_shows, none_of)

broken_told : (a b : Holding) (xs ys : List Call) (r : ℕ) → a.end.carrier.ended ≡ None → b.end.carrier.ended ≡ None → IsFit a.end →
    IsFit b.end → AreAlikeInLive a xs b ys →
    told_of r (flat_map told_in xs ++ all_waiting (all_lost a.end.lines)) ≡ told_of r
    (flat_map told_in ys ++ all_waiting (all_lost b.end.lines))
broken_told a b xs ys r lasts still f g h = grind (arith, lost_told, lost_by)

abbrev broken_by : Bool → Holding → Holding
broken_by over h = record h { end = if over then h.end else ends Broken h.end }

breaks_by : (over : Bool) (a b : Holding) (xs ys : List Call) → is_some a.end.carrier.ended ≡ over → IsFit a.end → IsFit b.end →
    AreAlikeInLive a xs b ys →
    LookAlike (broken_by over a) xs (broken_by over b) ys
breaks_by true a b xs ys over f g h = looks_in_live a b xs ys h
breaks_by false a b xs ys over f g h =
    let same = ap (λ (e : End). is_some e.carrier.ended) h.end in
    looks (broken_by false a) (broken_by false b) xs ys h.octets
    (grind (arith, none_live))
    (λ r. broken_told a b xs ys r (none_of a.end.carrier.ended over) (none_of b.end.carrier.ended (sym same ∙ over)) f g h)

-- found whatever is pending
pub looks_broken : (a b : Holding) (xs ys : List Call) → IsSettled a.end → IsSettled b.end → AreAlikeInLive a xs b ys →
    LookAlike (record a { end = breaks a.end }) xs (record b { end = breaks b.end }) ys
looks_broken a b xs ys s t h = grind (arith, breaks_by (is_some a.end.carrier.ended) a b xs ys refl (grind arith) (grind arith) h)

-- ---- after an end

-- what looks alike of two that look alike
look_across : (a b c d : Holding) (xs ys zs ws : List Call) → LookAlike a xs b ys → LookAlike a xs c zs → LookAlike b ys d ws →
    LookAlike c zs d ws
look_across a b c d xs ys zs ws look left right = record {
  phases = λ r. sym (left.phases r) ∙ look.phases r ∙ right.phases r;
  sessions = λ r. sym (left.sessions r) ∙ look.sessions r ∙ right.sessions r;
  indications = λ r. sym (left.indications r) ∙ look.indications r ∙ right.indications r;
  octets = sym left.octets ∙ look.octets ∙ right.octets;
  ended = sym left.ended ∙ look.ended ∙ right.ended;
  kept = sym left.kept ∙ look.kept ∙ right.kept;
  requests = λ c. sym (left.requests c) ∙ look.requests c ∙ right.requests c;
  answers = λ r call. sym (left.answers r call) ∙ look.answers r call ∙ right.answers r call;
  disconnects = λ r. sym (left.disconnects r) ∙ look.disconnects r ∙ right.disconnects r;
}

-- one that has ended looks the same, whatever it is fed, and whatever is reported and carried of it
look_over : (a c : Holding) (xs zs : List Call) → is_some a.end.carrier.ended ≡ true → CallsAlong a zs c → LookAlike a xs c (xs ++ zs)
look_over a c xs zs over h =
    let t = flat_map told_in xs in
    let o = flat_map carried_in xs in
    let m = stays_along a zs c over h in
    let same : account_of (flat_map told_in (xs ++ zs)) (flat_map carried_in (xs ++ zs)) c.end ≡ account_of t o a.end =
    grind (arith, flat_map-append, account_joined, after_more) in
    look_alike a c xs (xs ++ zs) (grind arith)

pub looks_behind : (a b c d : Holding) (xs ys zs ws : List Call) → IsSome a.end.carrier.ended → LookAlike a xs b ys → CallsAlong a zs c →
    CallsAlong b ws d →
    LookAlike c (xs ++ zs) d (ys ++ ws)
looks_behind a b c d xs ys zs ws over look h k =
    look_across a b c d xs ys (xs ++ zs) (ys ++ ws) look (look_over a c xs zs over h)
    (look_over b d ys ws (sym (ap is_some look.ended) ∙ over) k)
