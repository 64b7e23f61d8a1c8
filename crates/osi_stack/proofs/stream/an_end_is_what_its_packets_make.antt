-- Over every run of calls an end is what the packets of the octets used make of it.
use Rattle.std.proofs.Common.{◌≡◌, ℕ, ◌<◌, ◌^◌, Bool, true, List, ◌∷◌, ◌++◌, length, take, None, is_some, refl, ap, inl, inr, arith}
use Rattle.std.proofs.Common.{append_assoc, []}
use Rattle.osi_stack.proofs.Vocabulary.{empty_partial, take_all, flat_map, IsPartial, TpktFault, Fed, OneCut, Tpkt, Fault, RunsDry}
use Rattle.osi_stack.proofs.Vocabulary.{StopsBehind, FindsNoMemory, Goes, Feeds, ends, Account, account_of, with_packet, with_packets}
use Rattle.osi_stack.proofs.Vocabulary.{packets_over, Calls, CallsAlong, used_in, told_in, carried_in, Reads, AreAlike, feeding, telling}
use Rattle.osi_stack.proofs.Vocabulary.{carrying, Shown, End, Holding, waits, EndCall as Call, hears_times, with_carrier, with_events}
use Rattle.osi_stack.proofs.Vocabulary.{PacketTaker, ReadsOctets, reads_still, Runner, reads_along}
use Rattle.osi_stack.proofs.in_step.the_account_packet_by_packet.{after_more, account_told, packets_apart, with_joined, packets_done}
use Rattle.osi_stack.proofs.stream.what_was_written_is_read.{uses_within}
use Rattle.osi_stack.proofs.carried.packets_without_events.{never}
use Rattle.osi_stack.proofs.carried.an_ended_carrier_stays_ended.{attends_over, packet_over}
use Rattle.osi_stack.proofs.carried.events_one_after_the_other.{starved_over}

-- ---- packets

pub account_over : (units : List (List ℕ)) (a : Account) → is_some a.end.carrier.ended ≡ true →
    is_some (with_packets units a).end.carrier.ended ≡ true
account_over [] a over = over
account_over (unit ∷ units) a over =
    account_over units (with_packet a unit) (packet_over a.end unit (packets_over (unit ∷ []) a.end.carrier over))

-- the stream has a fault if nothing is pending
abbrev pub faulted : TpktFault → Account → Account
faulted fault a = account_of a.told [] (ends (Fault (Tpkt fault)) a.end)

-- an end takes packets, as far as its account shows
abbrev pub accounts : PacketTaker Account
accounts = record {
  after = with_packets;
  ended = λ a. a.end.carrier.ended;
  faulted = faulted;
  nothing = λ a. refl;
  joined = with_joined;
  stays = account_over;
}

-- ---- one call

pub call_lasts : (old : Holding) (call : Call) (new : Holding) → Calls old call new → new.end.carrier.ended ≡ None →
    old.end.carrier.ended ≡ None
call_lasts old call new h lasts = grind arith

-- what one call did
abbrev pub ReadsOne : Holding → Call → Holding → Type 0
ReadsOne old call new = ReadsOctets old.held (used_in call)
    (λ packets. account_of (told_in call) (carried_in call) new.end ≡ with_packets packets (account_of [] [] old.end)) new.held

unfoldable pub reads_dry : (old : Holding) (piece : List ℕ) (fed : Fed) (new : Holding) → RunsDry old piece fed.used new →
    ReadsOne old (feeding piece fed) new
reads_dry old piece fed new dry =
    let whole : take fed.used piece ≡ piece = let all = dry.all in take_all fed.used piece (omega arith) in
    record {
      packets = dry.units;
      cut = grind arith;
      account = packets_done dry.units old.end new.end dry.taken;
      partial = λ partial. dry.partial;
      offset = λ bound. grind arith;
    }

unfoldable pub reads_stopped : IsPartial [] → (old : Holding) (piece : List ℕ) (fed : Fed) (new : Holding) →
    StopsBehind old piece fed.used new → new.end.carrier.ended ≡ None →
    ReadsOne old (feeding piece fed) new
reads_stopped nothing old piece fed new stop lasts =
    let used : fed.used ≡ stop.within = uses_within new.end (length piece) stop.within fed.used stop.stopped lasts stop.uses in
    record {
      packets = stop.units;
      cut = grind arith;
      account = packets_done stop.units old.end new.end stop.taken;
      partial = λ partial. grind arith;
      offset = λ bound. grind (arith, length);
    }

-- if memory ran out the end has ended
pub none_ended : (old : Holding) (piece : List ℕ) (used : ℕ) (new : Holding) → FindsNoMemory old piece used new →
    is_some new.end.carrier.ended ≡ true
none_ended old piece used new h = elim (h.how) [
  | inl none ↦ ap (λ (x : End). is_some x.carrier.ended) none.ended
  | inr p ↦ grind (arith, is_some, attends_over, with_carrier, starved_over, with_events, hears_times)
]

reads_goes : IsPartial [] → (old : Holding) (piece : List ℕ) (fed : Fed) (new : Holding) → Goes old piece fed.used new →
    new.end.carrier.ended ≡ None →
    ReadsOne old (feeding piece fed) new
reads_goes nothing old piece fed new (inl (inl dry)) lasts = reads_dry old piece fed new dry
reads_goes nothing old piece fed new (inl (inr stop)) lasts = reads_stopped nothing old piece fed new stop lasts
reads_goes nothing old piece fed new (inr (inl refused)) lasts = grind (arith, never)
reads_goes nothing old piece fed new (inr (inr starved)) lasts = never new.end (none_ended old piece fed.used new starved) lasts

reads_feed : IsPartial [] → (old : Holding) (piece : List ℕ) (fed : Fed) (new : Holding) (waiting : Bool) → waits old.end.lines ≡ waiting →
    old.end.carrier.ended ≡ None →
    Feeds old piece fed new → new.end.carrier.ended ≡ None → ReadsOne old (feeding piece fed) new
reads_feed nothing old piece fed new waiting e quiet h lasts =
    search (arith, reads_still, feeding, take, account_of, reads_goes, is_some, waits)

pub reads_one : (old : Holding) (call : Call) (new : Holding) → Calls old call new → new.end.carrier.ended ≡ None → ReadsOne old call new
reads_one old (feeding piece fed) new h lasts =
    grind (arith, reads_feed empty_partial, call_lasts old (feeding piece fed) new h lasts)
reads_one old (telling shown) new h lasts = grind (arith, reads_still, account_told)
reads_one old (carrying octets) new h lasts = grind (arith, reads_still)

pub stays_one : (old : Holding) (call : Call) (new : Holding) → Calls old call new → is_some old.end.carrier.ended ≡ true →
    (account_of (told_in call) (carried_in call) new.end ≡ account_of [] [] old.end) × (new.held ≡ old.held)
stays_one old call new h over = grind (arith, feeding, account_of, telling, told_in, account_told, carrying)

-- ---- calls one after the other

pub more_joined : (t u : List (ℕ × Shown)) (o p : List ℕ) (a : Account) → after_more (t ++ u) (o ++ p) a ≡ after_more t o (after_more u p a)
more_joined t u o p a = grind (arith, append_assoc)

pub fault_apart : (t : List (ℕ × Shown)) (o : List ℕ) (fault : TpktFault) (a : Account) →
    faulted fault (after_more t o a) ≡ after_more t o (faulted fault a)
fault_apart t o fault a = grind (arith, append_assoc)

-- Runs of such calls as the account shows them. `Made` may ask more of each call.
abbrev pub running : (Made : Holding → Call → Holding → Type 0) (Along : Holding → List Call → Holding → Type 0) →
    ((old new : Holding) → Along old [] new → new ≡ old) →
    ((old : Holding) (call : Call) (calls : List Call) (new : Holding) → Along old (call ∷ calls) new →
    (mid : Holding) × Made old call mid × Along mid calls new) →
    ((old : Holding) (call : Call) (new : Holding) → Made old call new → Calls old call new) →
    Runner accounts Holding Call Made Along
running Made Along first next made = record {
  held = λ x. x.held;
  seen = λ x. account_of [] [] x.end;
  used = used_in;
  back = λ call a. after_more (told_in call) (carried_in call) a;
  back_all = λ calls a. after_more (flat_map told_in calls) (flat_map carried_in calls) a;
  first = first;
  next = next;
  none = λ a. refl;
  more = λ call calls a. more_joined (told_in call) (flat_map told_in calls) (carried_in call) (flat_map carried_in calls) a;
  apart = λ call units a. packets_apart (told_in call) (carried_in call) units a;
  apart_fault = λ call fault a. fault_apart (told_in call) (carried_in call) fault a;
  apart_end = λ call a. refl;
  reads = λ old call new h lasts. reads_one old call new (made old call new h) lasts;
  stays = λ old call new h over. stays_one old call new (made old call new h) over;
}

-- with or without enough memory
abbrev pub any_calls : Runner accounts Holding Call Calls CallsAlong
any_calls = running Calls CallsAlong (λ old new h. h) (λ old call calls new h. h) (λ old call new h. h)

pub calls_read : IsPartial [] → (old : Holding) (calls : List Call) (new : Holding) → CallsAlong old calls new →
    new.end.carrier.ended ≡ None → Reads old calls new
calls_read nothing old calls new h lasts = let all = reads_along any_calls old calls new h lasts in grind arith

-- ---- the pieces do not matter

pub pieces_alike : IsPartial [] → OneCut → (old a b : Holding) (xs ys : List Call) → IsPartial old.held.octets → old.held.offset < 2 ^ 64 →
    CallsAlong old xs a → CallsAlong old ys b → flat_map used_in xs ≡ flat_map used_in ys → a.end.carrier.ended ≡ None →
    b.end.carrier.ended ≡ None →
    AreAlike a xs b ys × (a.held.offset ≡ b.held.offset)
pieces_alike nothing one_cut old a b xs ys partial bound h k used lasts still = search (arith, calls_read)
