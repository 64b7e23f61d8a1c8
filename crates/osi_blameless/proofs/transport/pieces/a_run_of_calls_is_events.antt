-- What a carrier does in calls, one after the other, is events of its whole end: one by one, up to the call after which it has ended,
-- and then nothing. For the law on packets.
use Rattle.osi_blameless.proofs.transport.Vocabulary.{arith, [], ap, append_assoc, is_some, List, None, Option, refl, Some, subst, sym}
use Rattle.osi_blameless.proofs.transport.Vocabulary.{true}
use Rattle.osi_blameless.proofs.transport.Vocabulary.{ℕ, ◌++◌, ◌∙◌, ◌∷◌, ◌≡◌, append-nil, take-append-drop, flat_map, packets_joined}
use Rattle.osi_blameless.proofs.transport.Vocabulary.{ArePackets, Fed}
use Rattle.osi_blameless.proofs.transport.Vocabulary.{Value, back_joined, Happening, Carrying, Feeds, Call, calling, Calls, carried_in}
use Rattle.osi_blameless.proofs.transport.Vocabulary.{feeding, put_back}
use Rattle.osi_blameless.proofs.transport.Vocabulary.{told_in, used_in, user_does, UserCall, EndReason, Direction, AreFedFrom, IsRun}
use Rattle.osi_blameless.proofs.transport.Vocabulary.{MadeAlong, MayMake}
use Rattle.osi_blameless.proofs.transport.Vocabulary.{units_in, Becomes, MayCall, Whole, State}
use Rattle.osi_blameless.proofs.transport.small_facts_that_many_lemmas_use.{differ}
use Rattle.osi_blameless.proofs.transport.pieces.a_packet_is_events.{then_so}
use Rattle.osi_blameless.proofs.transport.pieces.a_piece_is_events.{feeds_on}
use Rattle.osi_blameless.proofs.transport.requests.how_a_calling_end_asks.{all_none, may_so, none_over}
use Rattle.osi_blameless.proofs.transport.pieces.what_is_in_front_of_a_whole_end.{Comes, calls_front, same_front}
use Rattle.osi_blameless.proofs.transport.small_facts_that_many_lemmas_use.{units_join}

-- ---- after the end nothing changes

-- but for what is reported and sent
abbrev IsBehind : List Happening → List ℕ → State → State → Type 0
IsBehind e o old new = put_back e o new ≡ old

call_stays : (old : Carrying) (call : Call) (new : Carrying) → is_some old.state.ended ≡ true → Calls old call new → MayMake old call →
    IsBehind (told_in call) (carried_in call) old.state new.state
call_stays old call new h calls may = grind (arith, differ, may_so, none_over, all_none)

all_stay : (old : Carrying) (calls : List Call) (new : Carrying) → is_some old.state.ended ≡ true → MadeAlong old calls new →
    IsBehind (flat_map told_in calls) (flat_map carried_in calls) old.state new.state
all_stay old [] new h same = ap (λ (c : Carrying). c.state) same
all_stay old (call ∷ calls) new h (mid, first, may, more) =
    let one = call_stays old call mid h first may in
    grind (arith, back_joined, all_stay mid calls new (grind arith) more)

over_after : (old : Carrying) (calls : List Call) (new : Carrying) → is_some old.state.ended ≡ true → MadeAlong old calls new →
    is_some new.state.ended ≡ true
over_after old calls new h along = grind (arith, all_stay)

-- ---- one call

record Step (d : Direction) (old : Carrying) (call : Call) (mid : Carrying) : Type 0 where
  packets : List (List ℕ)
  fed : List ℕ
  rest : List ℕ
  cut : ArePackets packets (old.held.octets ++ fed) rest
  becomes : (e : List Happening) (o : List ℕ) (w : Whole) (later : List Value) → w.end ≡ put_back e o old.state →
      w.coming ≡ units_in packets ++ later → Comes d (e ++ told_in call) (o ++ carried_in call) w mid.state later
  keeps : mid.state.ended ≡ None → (fed ≡ used_in call) × (mid.held.octets ≡ rest)
  from : (stream : List ℕ) (calls : List Call) → AreFedFrom stream (call ∷ calls) →
      (after : List ℕ) × (stream ≡ fed ++ after) × (mid.state.ended ≡ None → AreFedFrom after calls)

comes_nil : (d : Direction) (e : List Happening) (o : List ℕ) (w : Whole) (s : State) (later : List Value) → Comes d e o w s later →
    Comes d (e ++ []) (o ++ []) w s later
comes_nil d e o w s later h = search (arith, append-nil)

-- what is reported or sent now comes in front
back_step : (d : Direction) (old : Carrying) (call : Call) (mid : Carrying) →
    IsBehind (told_in call) (carried_in call) old.state mid.state →
    mid.held.octets ≡ old.held.octets → used_in call ≡ [] →
    ((stream : List ℕ) (calls : List Call) → AreFedFrom stream (call ∷ calls) → AreFedFrom stream calls) → Step d old call mid
back_step d old call mid behind held used from = record {
  packets = [];
  fed = [];
  rest = old.held.octets;
  cut = grind (arith, append-nil);
  becomes = grind (arith, same_front, back_joined);
  keeps = λ lasts. (sym used, held);
  from = λ stream calls f. (stream, refl, λ lasts. from stream calls f);
}

user_step : (d : Direction) (old : Carrying) (call : UserCall) (mid : Carrying) → mid ≡ record old { state = user_does call old.state } →
    MayCall call old.state → Step d old (calling call) mid
user_step d old call mid is_mid may = record {
  packets = [];
  fed = [];
  rest = old.held.octets;
  cut = grind (arith, append-nil);
  becomes = λ e o w later is come.
      comes_nil d e o w mid.state later (subst (λ (c : Carrying). Comes d e o w c.state later) (sym is_mid)
      (calls_front d e o call w old.state later is may come));
  keeps = λ lasts. (refl, ap (λ (c : Carrying). c.held.octets) is_mid);
  from = λ stream calls f. (stream, refl, λ lasts. f);
}

fed_step : (d : Direction) (old : Carrying) (piece : List ℕ) (fed : Fed) (mid : Carrying) → Feeds old piece fed mid →
    Step d old (feeding piece fed) mid
fed_step d old piece fed mid h =
    let f = feeds_on d old piece mid fed h in
    grind (arith, comes_nil, append_assoc, take-append-drop f.within piece)

step_so : (d : Direction) (old : Carrying) (call : Call) (mid : Carrying) → Calls old call mid → MayMake old call → Step d old call mid
step_so d old call mid h may = search (arith, fed_step, back_step, user_step)

-- ---- calls one after the other

pub no_end : {A : Type 0} (o : Option EndReason) → is_some o ≡ true → o ≡ None → A
no_end o h e = absurd (cc)

-- the call ends the carrier
ended_run : (d : Direction) (old : Carrying) (stream : List ℕ) (call : Call) (calls : List Call) (mid new : Carrying) →
    Step d old call mid → MadeAlong mid calls new → AreFedFrom stream (call ∷ calls) → is_some mid.state.ended ≡ true →
    IsRun d old stream (call ∷ calls) new
ended_run d old stream call calls mid new step more from gone =
    let (after, parts, later_from) = step.from stream calls from in
    let t = told_in call in
    let c = carried_in call in
    let ts = flat_map told_in calls in
    let cs = flat_map carried_in calls in
    let behind = all_stay mid calls new gone more in
    let over_now = over_after mid calls new gone more in
    record {
      packets = step.packets;
      fed = step.fed;
      after = after;
      rest = step.rest;
      parts = parts;
      cut = step.cut;
      becomes = λ e o w later is come.
          let so : put_back (e ++ t) (o ++ c) mid.state ≡ put_back (e ++ (t ++ ts)) (o ++ (c ++ cs)) new.state =
          grind (arith, back_joined, append_assoc) in
          (subst (λ (s : State). Becomes d w s) so (step.becomes e o w later is come).0, λ lasts. no_end new.state.ended over_now lasts);
      keeps = λ lasts. no_end new.state.ended over_now lasts;
    }

-- it does not, and more calls follow
more_run : (d : Direction) (old : Carrying) (stream : List ℕ) (call : Call) (calls : List Call) (mid new : Carrying)
    (step : Step d old call mid) → mid.state.ended ≡ None → (after : List ℕ) → stream ≡ step.fed ++ after → IsRun d mid after calls new →
    IsRun d old stream (call ∷ calls) new
more_run d old stream call calls mid new step lasts after parts ran =
    let t = told_in call in
    let c = carried_in call in
    let ts = flat_map told_in calls in
    let cs = flat_map carried_in calls in
    record {
      packets = step.packets ++ ran.packets;
      fed = step.fed ++ ran.fed;
      after = ran.after;
      rest = ran.rest;
      parts = parts ∙ ap (λ (l : List ℕ). step.fed ++ l) ran.parts ∙ sym (append_assoc step.fed ran.fed ran.after);
      cut = grind (arith, append_assoc, packets_joined);
      becomes = λ e o w later is come.
          let first_come : w.coming ≡ units_in step.packets ++ (units_in ran.packets ++ later) = grind (arith, units_join, append_assoc) in
          let first = step.becomes e o w (units_in ran.packets ++ later) is first_come in
          let middle : Whole = record w {
            end = put_back (e ++ t) (o ++ c) mid.state;
            put = w.put ++ first.0.put;
            coming = first.0.coming;
          } in
          let next = ran.becomes (e ++ t) (o ++ c) middle later refl (first.1 lasts) in
          subst (λ (x : List Happening). Comes d x (o ++ (c ++ cs)) w new.state later) (append_assoc e t ts)
          (subst (λ (x : List ℕ). Comes d ((e ++ t) ++ ts) x w new.state later) (append_assoc o c cs)
          (then_so d (new.state.ended ≡ None) later w (put_back (e ++ t) (o ++ c) mid.state)
          (put_back ((e ++ t) ++ ts) ((o ++ c) ++ cs) new.state) first.0 next.0 next.1));
      keeps = grind arith;
    }

none_run : (d : Direction) (old : Carrying) (stream : List ℕ) (new : Carrying) → new ≡ old → IsRun d old stream [] new
none_run d old stream new same = record {
  packets = [];
  fed = [];
  after = stream;
  rest = old.held.octets;
  parts = refl;
  cut = grind (arith, append-nil);
  becomes = grind (arith, comes_nil, same_front);
  keeps = λ lasts. (refl, ap (λ (c : Carrying). c.held.octets) same);
}

module _ (d : Direction) where
  by_end : (old : Carrying) (stream : List ℕ) (call : Call) (calls : List Call) (mid new : Carrying) → Step d old call mid →
      MadeAlong mid calls new → AreFedFrom stream (call ∷ calls) →
      ((after : List ℕ) → AreFedFrom after calls → IsRun d mid after calls new) → (o : Option EndReason) → mid.state.ended ≡ o →
      IsRun d old stream (call ∷ calls) new
  by_end old stream call calls mid new step more from runs (Some reason) e =
      ended_run d old stream call calls mid new step more from (ap is_some e)
  by_end old stream call calls mid new step more from runs None e = grind (arith, more_run)

  pub run_so : (old : Carrying) (stream : List ℕ) (calls : List Call) (new : Carrying) → MadeAlong old calls new →
      AreFedFrom stream calls → IsRun d old stream calls new
  run_so old stream [] new same from = none_run d old stream new same
  run_so old stream (call ∷ calls) new (mid, first, may, more) from =
      by_end old stream call calls mid new (step_so d old call mid first may) more from
      (λ after later_from. run_so mid after calls new more later_from) mid.state.ended refl
