-- Pending events are handled one after the other.
use Rattle.osi_stack.proofs.Vocabulary.{eqb-true, not-false, Fed, Happening, Carrying, is_spoilt, Rows, State as Carrier, Interrupted}
use Rattle.osi_stack.proofs.Vocabulary.{LeftOff, FeedsToEvent, hears, hears_first, hears_next, hears_times, hears_all, with_events, OnErr}
use Rattle.osi_stack.proofs.Vocabulary.{OnOk, came, session_in, session_needs, to_session, value_at, with_carrier, all_lost, concludes}
use Rattle.osi_stack.proofs.Vocabulary.{starves, RunsOut, needs_memory, Line, End, Holding, IsAttended, holding, ◌≡◌, ℕ, ◌+◌, ◌<◌, ◌==◌}
use Rattle.osi_stack.proofs.Vocabulary.{zero, suc, Bool, true, false, not, List, ◌∷◌, length, Option, Some, None, IsSome, is_some, refl}
use Rattle.osi_stack.proofs.Vocabulary.{sym, ap, subst, ◌∙◌, inl, arith, if◌then◌else◌, [], Result, Ok, Err, carrying_lent, lent_event}
use Rattle.osi_stack.proofs.Vocabulary.{Lent}
use Rattle.osi_carrier.specs.Happenings as events
use Rattle.osi_carrier.specs.Packets as carriers
use Rattle.osi_stack.proofs.carried.what_sessions_leave_of_the_carrier.{hears_keep, times_leave}

-- ---- one more

one_later : (n : ℕ) (e : End) → hears_times (suc n) e ≡ hears_next (hears_times n e)
one_later zero e = refl
one_later (suc n) e = one_later n (hears_next e)

-- an event that was reported is no longer queued
record IsTaken (now : End) (event : Happening) (mid : Carrier) : Type 0 where
  first : now.carrier.events ≡ event ∷ mid.events
  rest : with_events mid.events now ≡ with_carrier mid now

taken_is : (now : End) (event : Happening) (mid : Carrier) → now.carrier ≡ record mid { events = event ∷ mid.events } →
    IsTaken now event mid
taken_is now event mid h = grind arith

-- the carrier of an end, and the unfinished packet
abbrev pub carrying_of : Holding → Carrying
carrying_of h = record { state = h.end.carrier; held = h.held }

-- this many events were handled
pub record HasHeard (old now : Holding) : Type 0 where
  pub count : ℕ
  pub is : now.end ≡ hears_times count old.end
  pub left : count + length now.end.carrier.events ≡ length old.end.carrier.events
  pub held : now.held ≡ old.held

pub heard_fewer : (now : End) (event : Happening) (mid : Carrier) → now.carrier ≡ record mid { events = event ∷ mid.events } →
    length now.carrier.events ≡ suc (length (hears event (with_carrier mid now)).carrier.events)
heard_fewer now event mid h = grind (arith, taken_is, length, hears_keep, with_carrier)

pub heard_next : (old now : Holding) (event : Happening) (mid : Carrier) (new : Holding) → HasHeard old now →
    now.end.carrier ≡ record mid { events = event ∷ mid.events } →
    new.end ≡ hears event (with_carrier mid now.end) → new.held ≡ now.held → HasHeard old new
heard_next old now event mid new so_far h is held =
    let fewer = heard_fewer now.end event mid h in
    let same = ap (λ (e : End). length e.carrier.events) is in
    record {
      count = suc so_far.count;
      is = grind (arith, one_later);
      left = omega arith;
      held = held ∙ so_far.held;
    }

-- fewer events are left
pub heard_left_over : (now new : Holding) (event : Happening) (mid : Carrier) →
    now.end.carrier ≡ record mid { events = event ∷ mid.events } →
    new.end ≡ hears event (with_carrier mid now.end) → length new.end.carrier.events < length now.end.carrier.events
heard_left_over now new event mid h is = grind (arith, heard_fewer, length)

pub heard_left : (old now : Holding) (event : Happening) (mid : Carrier) (new : End) → HasHeard old now →
    now.end.carrier ≡ record mid { events = event ∷ mid.events } →
    needs_memory event (with_carrier mid now.end) ≡ true → Interrupted (with_carrier mid now.end) new → LeftOff old.end new
heard_left old now event mid new so_far h needed stopped = grind (arith, taken_is now.end event mid h)

-- ---- the effect of one event, with or without enough memory

pub record IsHeard {A E : Type 0} (result : Result A E) (event : Happening) (old new : Holding) : Type 0 where
  pub ok : OnOk result (new.end ≡ hears event old.end)
  pub held : new.held ≡ old.held
  pub err : OnErr result (Interrupted old.end new.end)
  pub needed : OnErr result (needs_memory event old.end ≡ true)

-- what is known of a result by its kind
pub on_ok : {A E P : Type 0} (r : Result A E) (a : A) → r ≡ Ok a → OnOk r P → P
on_ok r a is h = grind arith

pub not_ok : {A E P : Type 0} (r : Result A E) → ((a : A) → r ≡ Ok a → ⊥) → OnErr r P → P
not_ok r never h = grind arith

pub not_done : {A E P : Type 0} (r : Result A E) → P → OnErr r P
not_done r h = grind arith

-- a TSDU that a line was told
pub heard_tsdu : {A E : Type 0} (result : Result A E) (event : Happening) (r : ℕ) (octets : List ℕ) (carrier after : Carrying)
    (lines left : Rows Line) → event ≡ events.tsdu r octets →
    OnOk result (record { carrier = after.state; lines = left } ≡
    to_session r (came octets) (record { carrier = carrier.state; lines = lines })) →
    after.held ≡ carrier.held → OnErr result (all_lost left ≡ all_lost lines) → OnErr result (after ≡ carrier) →
    OnErr result (session_needs r (session_in (value_at r lines)) (came octets) carrier.state ≡ true) →
    IsHeard result event (holding carrier lines) (holding after left)
heard_tsdu result event r octets carrier after lines left is ok held lost same needed = grind arith

-- ---- a TSDU that is lent

-- it is handled as its event would be, which would be the only one
record IsOnly (lent : Lent) (carrier : Carrying) (lines : Rows Line) : Type 0 where
  first : (holding (carrying_lent (Some lent) carrier) lines).end.carrier.events ≡ lent_event lent ∷ []
  rest : with_events [] (holding (carrying_lent (Some lent) carrier) lines).end ≡ (holding carrier lines).end

only_is : (lent : Lent) (carrier : Carrying) (lines : Rows Line) → carrier.state.events ≡ [] → IsOnly lent carrier lines
only_is lent carrier lines none = grind arith

-- the events of what a carrier told were handled, or memory ran out for one of them
pub record IsAttendedTo {A E : Type 0} (result : Result A E) (told : Carrying) (lines : Rows Line) (new : Holding) : Type 0 where
  pub ok : OnOk result (new.end ≡ hears_all (holding told lines).end)
  pub none : OnOk result (new.end.carrier.events ≡ [])
  pub held : new.held ≡ told.held
  pub err : OnErr result (LeftOff (holding told lines).end new.end)

lent_attended : {A E : Type 0} (result : Result A E) (lent : Lent) (carrier : Carrying) (lines : Rows Line) (new : Holding) →
    carrier.state.events ≡ [] → IsHeard result (lent_event lent) (holding carrier lines) new →
    IsAttendedTo result (carrying_lent (Some lent) carrier) lines new
lent_attended (Ok a) lent carrier lines new none h =
    grind (arith, only_is lent carrier lines none, hears_keep (lent_event lent) (holding carrier lines).end)
lent_attended (Err e) lent carrier lines new none h =
    let only = only_is lent carrier lines none in
    record {
      ok = tt;
      none = tt;
      held = h.held;
      err = record {
        heard = 0;
        event = lent_event lent;
        more = [];
        waits = only.first;
        needed = subst (λ (x : End). needs_memory (lent_event lent) x ≡ true) (sym only.rest) h.needed;
        stopped = subst (λ (x : End). Interrupted x new.end) (sym only.rest) h.err;
      };
    }

-- what was lent, or nothing, by the names that a caller has for it
pub some_attended : {A E : Type 0} (result other : Result A E) (o : Option Lent) (lent : Lent) (carrier after now : Carrying)
    (lines left rows : Rows Line) → o ≡ Some lent → (IsSome o → carrier.state.events ≡ []) →
    IsHeard other (lent_event lent) (holding carrier lines) (holding after left) → result ≡ other → now ≡ after → rows ≡ left →
    IsAttendedTo result (carrying_lent o carrier) lines (holding now rows)
some_attended result other o lent carrier after now lines left rows is alone h a b d =
    grind (arith, lent_attended other lent carrier lines (holding after left) (alone (subst IsSome (sym is) refl)) h)

pub none_attended : {A E : Type 0} (result other : Result A E) (o : Option Lent) (carrier after now : Carrying)
    (lines left rows : Rows Line) → o ≡ None → IsAttendedTo other carrier lines (holding after left) →
    result ≡ other → now ≡ after → rows ≡ left →
    IsAttendedTo result (carrying_lent o carrier) lines (holding now rows)
none_attended result other o carrier after now lines left rows is h a b d = grind arith

-- ---- no event is queued

pub no_events : {A : Type 0} (events : List A) → not (length events == 0) ≡ false → events ≡ []
no_events [] h = refl
no_events (x ∷ l) h = grind (arith, eqb-true, not-false)

pub times_quiet : (n : ℕ) (e : End) → e.carrier.events ≡ [] → hears_times n e ≡ e
times_quiet zero e none = refl
times_quiet (suc n) e none = ap (hears_times n) (ap (λ l. hears_first l e) none) ∙ times_quiet n e none

pub all_quiet : (e : End) → e.carrier.events ≡ [] → hears_all e ≡ e
all_quiet e none = times_quiet (length e.carrier.events) e none

-- if none is pending, no memory is needed
pub never_starved : {A : Type 0} (old new : End) → old.carrier.events ≡ [] → RunsOut old new → A
never_starved old new none out = grind (arith, hears_times, times_quiet)

-- ---- what stays

pub all_keep_by : (n : ℕ) (e : End) → is_spoilt (hears_times n e).carrier.ended ≡ is_spoilt e.carrier.ended
all_keep_by n e = (times_leave n e).spoilt

-- ---- attended

pub starved_over : (e : End) → is_some (starves e).carrier.ended ≡ true
starved_over e = grind arith

pub concluded_carrier : (e : End) → (concludes e).carrier ≡ e.carrier
concluded_carrier e = grind arith

pub concluded_attended : (e new : End) → new ≡ concludes e → e.carrier.events ≡ [] → IsAttended new
concluded_attended e new h none over = ap (λ (x : End). x.carrier.events) h ∙ ap (λ (c : Carrier). c.events) (concluded_carrier e) ∙ none

-- ---- one look at the stream

-- the carrier took packets, and its events were handled
pub fetched : (old : Holding) (octets : List ℕ) (fed : Fed) (told : Carrying) (heard : Holding) (lines : Rows Line) (b : Bool) →
    carriers.Feeds (carrying_of old) octets fed told → heard.end ≡ hears_all (with_carrier told.state old.end) →
    heard.end.carrier.events ≡ [] → heard.held ≡ told.held →
    is_some heard.end.carrier.ended ≡ b → lines ≡ (if b then all_lost heard.end.lines else heard.end.lines) →
    FeedsToEvent old octets fed.used (record heard { end = record heard.end { lines = lines } })
fetched old octets fed told heard lines b feeds all none held over left =
    let is : record heard.end { lines = lines } ≡ concludes heard.end = grind arith in
    record {
      fed = fed;
      told = told;
      feeds = feeds;
      held = held;
      heard = inl (is ∙ ap concludes all, refl);
      attended = concluded_attended heard.end (record heard.end { lines = lines }) is none;
    }

-- the same if memory ran out for the effect of one of them
pub fetched_not : (old : Holding) (octets : List ℕ) (fed : Fed) (told : Carrying) (heard new : Holding) →
    carriers.Feeds (carrying_of old) octets fed told →
    LeftOff (with_carrier told.state old.end) heard.end → heard.held ≡ told.held → new ≡ record heard { end = starves heard.end } →
    FeedsToEvent old octets (length octets) new
fetched_not old octets fed told heard new feeds left held is = record {
  fed = fed;
  told = told;
  feeds = feeds;
  held = ap (λ (h : Holding). h.held) is ∙ held;
  heard = grind arith;
  attended = grind arith;
}
