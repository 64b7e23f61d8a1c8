-- Over every run of calls, a carrier has done exactly what the packets of the octets used and its user's calls do.
use Rattle.osi_carrier.proofs.Vocabulary.{empty_partial, take_all, flat_map, IsPartial, ArePackets, Fed, Happening, Carrying, Feeds}
use Rattle.osi_carrier.proofs.Vocabulary.{TakesPackets, after_packet, waits, Act, Call, UserCall, does, all_done, packet_in, call_in, Calls}
use Rattle.osi_carrier.proofs.Vocabulary.{CallsAlong, used_in, told_in, carried_in, called_in, put_back, Reads, AreAlike, packet, user}
use Rattle.osi_carrier.proofs.Vocabulary.{feeding, telling, carrying, calling, State, fails, Tpkt, sent_all, sent, ◌≡◌, ℕ, ◌<◌, ◌^◌, Bool}
use Rattle.osi_carrier.proofs.Vocabulary.{true, false, List, [], ◌∷◌, ◌++◌, length, take, map, Some, None, is_some, refl, sym, ap, subst}
use Rattle.osi_carrier.proofs.Vocabulary.{◌∙◌, arith, append_assoc, flat_map-append, map-append}
use Rattle.osi_carrier.proofs.effects.what_is_in_front_changes_nothing.{apart_all}
use Rattle.osi_carrier.proofs.effects.units_one_after_the_other.{none_of, reacts_over}
use Rattle.osi_carrier.proofs.stream.what_takes_packets_ends_alike.{Taker, Reads as ReadsOctets, reads_still, reads_as, reads_more, Runner}
use Rattle.osi_carrier.proofs.stream.what_takes_packets_ends_alike.{calls_read as silent_calls_read}

-- ---- packets

pub all_joined : (xs ys : List Act) (s : State) → all_done (xs ++ ys) s ≡ all_done ys (all_done xs s)
all_joined [] ys s = refl
all_joined (x ∷ xs) ys s = all_joined xs ys (does x s)

packet_over : (unit : List ℕ) (s : State) → is_some s.ended ≡ true → is_some (after_packet s unit).ended ≡ true
unfolding after_packet
packet_over unit s h = grind (arith, is_some, reacts_over)

pub packets_over : (units : List (List ℕ)) (s : State) → is_some s.ended ≡ true → is_some (all_done (map packet units) s).ended ≡ true
packets_over [] s h = h
packets_over (unit ∷ units) s h = packets_over units (after_packet s unit) (packet_over unit s h)

pub packets_done : (units : List (List ℕ)) (old new : State) → TakesPackets old units new → new ≡ all_done (map packet units) old
packets_done [] old new h = h
packets_done (unit ∷ units) old new h = packets_done units (after_packet old unit) new h.1

-- a carrier takes packets
abbrev pub carriers : Taker State
carriers = record {
  after = λ units s. all_done (map packet units) s;
  ended = λ s. s.ended;
  faulted = λ fault s. fails (Tpkt fault) s;
  nothing = λ s. refl;
  joined = λ us vs s. ap (λ l. all_done l s) (map-append packet us vs) ∙ all_joined (map packet us) (map packet vs) s;
  stays = packets_over;
}

-- ---- one call that is not the user's

-- what one call did, if it is no call of the user
abbrev pub ReadsOne : Carrying → Call → Carrying → Type 0
ReadsOne old call new = ReadsOctets old.held (used_in call)
    (λ units. put_back (told_in call) (carried_in call) new.state ≡ all_done (map packet units) old.state) new.held

reads_feed : (old : Carrying) (piece : List ℕ) (fed : Fed) (new : Carrying) (waiting : Bool) → waits old.state ≡ waiting →
    old.state.ended ≡ None →
    Feeds old piece fed new → new.state.ended ≡ None → ReadsOne old (feeding piece fed) new
reads_feed old piece fed new true e quiet h lasts =
    let still = h.waiting quiet e in
    reads_still old.held new.held (take fed.used piece) _ (ap (λ n. take n piece) still.0) (ap (λ (x : Carrying). x.held) still.1)
    (ap (λ (x : Carrying). x.state) still.1)
reads_feed old piece fed new false e quiet h lasts = grind (arith, take, take_all, map, packets_done, length, empty_partial)

sent_all_ended : (r : ℕ) (tsdus : List (List ℕ)) (s : State) → (sent_all r tsdus s).ended ≡ s.ended
sent_all_ended r [] s = refl
sent_all_ended r (tsdu ∷ tsdus) s = sent_all_ended r tsdus (sent r tsdu s) ∙ (grind arith)

call_lasts : (old : Carrying) (call : Call) (new : Carrying) → Calls old call new → new.state.ended ≡ None → old.state.ended ≡ None
call_lasts old call new h lasts = grind (arith, none_of, is_some, sent_all_ended)

pub reads_one : (old : Carrying) (call : Call) (new : Carrying) → called_in call ≡ [] → Calls old call new →
    new.state.ended ≡ None → ReadsOne old call new
reads_one old (feeding piece fed) new none h lasts = grind (arith, reads_feed, call_lasts old (feeding piece fed) new h lasts)
reads_one old (telling None) new none h lasts = reads_still old.held new.held [] _ refl h.1 h.0.1
reads_one old (telling (Some event)) new none h lasts = reads_still old.held new.held [] _ refl h.1 (sym h.0)
reads_one old (carrying octets) new none h lasts =
    reads_still old.held new.held [] _ refl (ap (λ (x : Carrying). x.held) (sym h)) (ap (λ (x : Carrying). x.state) (sym h))
reads_one old (calling call) new none h lasts = absurd cc

-- ---- calls that are not the user's

pub none_first : (a b : List UserCall) → a ++ b ≡ [] → (a ≡ []) × (b ≡ [])
none_first [] b e = (refl, e)
none_first (x ∷ a) b e = absurd cc

pub back_joined : (e f : List Happening) (o p : List ℕ) (s : State) → put_back (e ++ f) (o ++ p) s ≡ put_back e o (put_back f p s)
back_joined e f o p s = grind (arith, append_assoc)

pub stays_one : (old : Carrying) (call : Call) (new : Carrying) → called_in call ≡ [] → is_some old.state.ended ≡ true →
    Calls old call new → (put_back (told_in call) (carried_in call) new.state ≡ old.state) × (new.held ≡ old.held)
stays_one old call new none h h_ = grind arith

abbrev pub SilentCalls : Carrying → Call → Carrying → Type 0
SilentCalls old call new = (called_in call ≡ []) × Calls old call new

abbrev pub SilentAlong : Carrying → List Call → Carrying → Type 0
SilentAlong old calls new = (flat_map called_in calls ≡ []) × CallsAlong old calls new

abbrev pub silent : Runner carriers Carrying Call SilentCalls SilentAlong
silent = record {
  held = λ x. x.held;
  seen = λ x. x.state;
  used = used_in;
  back = λ call s. put_back (told_in call) (carried_in call) s;
  back_all = λ calls s. put_back (flat_map told_in calls) (flat_map carried_in calls) s;
  first = λ old new h. h.1;
  next = λ old call calls new h.
      let parted = none_first (called_in call) (flat_map called_in calls) h.0 in
      (h.1.0, (parted.0, h.1.1), (parted.1, h.1.2));
  none = λ s. refl;
  more = λ call calls s. back_joined (told_in call) (flat_map told_in calls) (carried_in call) (flat_map carried_in calls) s;
  apart = λ call units s. apart_all (told_in call) (carried_in call) (map packet units) s;
  apart_fault = λ call fault s. refl;
  apart_end = λ call s. refl;
  reads = λ old call new h lasts. reads_one old call new h.0 h.1 lasts;
  stays = λ old call new h over. stays_one old call new h.0 over h.1;
}

-- ---- all calls

-- what packets did, with the calls of the user between them
record Does (old : State) (made : List UserCall) (told : List Happening) (carried : List ℕ) (new : State) (units : List (List ℕ)) : Type
    0 where
  acts : List Act
  called : flat_map call_in acts ≡ made
  packets : flat_map packet_in acts ≡ units
  state : put_back told carried new ≡ all_done acts old

abbrev DoesIn : Carrying → List Call → Carrying → List (List ℕ) → Type 0
DoesIn old calls new units =
    Does old.state (flat_map called_in calls) (flat_map told_in calls) (flat_map carried_in calls) new.state units

packets_of : (units : List (List ℕ)) → flat_map packet_in (map packet units) ≡ units
packets_of [] = refl
packets_of (unit ∷ units) = ap (λ l. unit ∷ l) (packets_of units)

no_calls : (units : List (List ℕ)) → flat_map call_in (map packet units) ≡ []
no_calls [] = refl
no_calls (unit ∷ units) = no_calls units

acts_one : (old : Carrying) (call : Call) (new : Carrying) → Calls old call new → new.state.ended ≡ None →
    ReadsOctets old.held (used_in call) (Does old.state (called_in call) (told_in call) (carried_in call) new.state) new.held
acts_one old (calling call) new h lasts =
    reads_still old.held new.held [] _ refl (ap (λ (x : Carrying). x.held) h)
    (record { acts = user call ∷ []; called = refl; packets = refl; state = ap (λ (x : Carrying). x.state) h })
acts_one old call new h lasts =
    reads_as old.held new.held (used_in call) _ _
    (λ units is. record { acts = map packet units; called = no_calls units; packets = packets_of units; state = is })
    (reads_one old call new refl h lasts)

calls_last : (old : Carrying) (calls : List Call) (new : Carrying) → CallsAlong old calls new → new.state.ended ≡ None →
    old.state.ended ≡ None
calls_last old [] new h lasts = ap (λ (x : Carrying). x.state.ended) (sym h) ∙ lasts
calls_last old (call ∷ calls) new h lasts = call_lasts old call h.0 h.1 (calls_last h.0 calls new h.2 lasts)

all_read : (old : Carrying) (calls : List Call) (new : Carrying) → CallsAlong old calls new → new.state.ended ≡ None →
    ReadsOctets old.held (flat_map used_in calls) (DoesIn old calls new) new.held
all_read old [] new h lasts =
    reads_still old.held new.held [] (DoesIn old [] new) refl (ap (λ (x : Carrying). x.held) h)
    (record { acts = []; called = refl; packets = refl; state = ap (λ (x : Carrying). x.state) h })
all_read old (call ∷ calls) new h lasts =
    reads_more old.held h.0.held new.held (used_in call) (flat_map used_in calls) _ (DoesIn h.0 calls new) (DoesIn old (call ∷ calls) new)
    (acts_one old call h.0 h.1 (calls_last h.0 calls new h.2 lasts)) (all_read h.0 calls new h.2 lasts)
    (λ us vs one more. record {
      acts = one.acts ++ more.acts;
      called = grind (arith, flat_map-append);
      packets = grind (arith, flat_map-append);
      state = grind (arith, back_joined, apart_all, all_joined);
    })

pub calls_read : (old : Carrying) (calls : List Call) (new : Carrying) → CallsAlong old calls new → new.state.ended ≡ None →
    Reads old calls new
calls_read old calls new h lasts =
    let all = all_read old calls new h lasts in
    grind (arith, all.account)

-- ---- the pieces do not matter

-- octets are packets and a proper prefix of one in one way
abbrev pub OneCut : Type 0
OneCut = (s r q : List ℕ) (us vs : List (List ℕ)) → IsPartial r → IsPartial q → ArePackets us s r → ArePackets vs s q → (us ≡ vs) × (r ≡ q)

pub pieces_alike : OneCut → (old a b : Carrying) (xs ys : List Call) → IsPartial old.held.octets → old.held.offset < 2 ^ 64 →
    CallsAlong old xs a → CallsAlong old ys b → flat_map called_in xs ≡ [] → flat_map called_in ys ≡ [] →
    flat_map used_in xs ≡ flat_map used_in ys →
    a.state.ended ≡ None → b.state.ended ≡ None → AreAlike a xs b ys
pieces_alike one_cut old a b xs ys partial bound h k none nor used lasts still =
    let m = silent_calls_read silent old xs a (none, h) lasts in
    let n = silent_calls_read silent old ys b (nor, k) still in
    let same = one_cut _ _ _ _ _ (m.partial partial) (n.partial partial) m.cut
    (subst (λ l. ArePackets n.packets (old.held.octets ++ l) b.held.octets) (sym used) n.cut) in
    grind (arith, m.offset bound, n.offset bound)
