-- Two runs in step reach the same state, whatever the pieces.
use Rattle.std.proofs.Common.{◌≡◌, ℕ, ◌<◌, ◌^◌, Bool, true, false, List, ◌∷◌, ◌++◌, Option, None, is_some, option_map, arith, refl, sym, ap}
use Rattle.std.proofs.Common.{subst, ◌∙◌, append_assoc, []}
use Rattle.osi_stack.proofs.Vocabulary.{append-nil, flat_map-append, flat_map, IsPartial, TpktFault, tsap_octets, apart_all, OneCut, user}
use Rattle.osi_stack.proofs.Vocabulary.{Shown, connects, UserCall, user_does, Round, MayCall, IsCalled, RoundsBy, RoundsAlong, calls_of}
use Rattle.osi_stack.proofs.Vocabulary.{AreInStep, put_back, Account, account_of, with_packet, with_packets, CallsAlong, used_in, told_in}
use Rattle.osi_stack.proofs.Vocabulary.{carried_in, account_along, AreAlike, End, Holding, Connect, none_of, connects_call, EndCall as Call}
use Rattle.osi_stack.proofs.in_step.the_account_packet_by_packet.{made, after_more, account_quiet, account_joined, packets_apart}
use Rattle.osi_stack.proofs.in_step.a_request_while_indications_are_pending.{wait_push, joins_alike}
use Rattle.osi_stack.proofs.given_up.two_runs_stay_alike.{disconnects_apart}
use Rattle.osi_stack.proofs.in_step.a_call_while_indications_are_pending.{account_calling}
use Rattle.osi_stack.proofs.stream.an_end_is_what_its_packets_make.{account_over, faulted, calls_read}
use Rattle.osi_stack.proofs.in_step.what_is_in_front_changes_nothing.{apart_session}
use Rattle.osi_stack.proofs.carried.packets_without_events.{never}

-- ---- accounts that are alike

-- They stay so, whatever packet acts, and whatever call the user makes of both.
pub record Likeness (May : UserCall → End → Type 0) (Like : Account → Account → Type 0) : Type 0 where
  pub packet : (x y : Account) (unit : List ℕ) → x.end.carrier.ended ≡ None → Like x y → Like (with_packet x unit) (with_packet y unit)
  pub fault : (x y : Account) (fault : TpktFault) → x.end.carrier.ended ≡ None → Like x y → Like (faulted fault x) (faulted fault y)
  pub call : (t : List (ℕ × Shown)) (o : List ℕ) (a : End) (u : List (ℕ × Shown)) (p : List ℕ) (b : End) (call : UserCall) →
      a.carrier.ended ≡ None → May call a → May call b →
      Like (account_of t o a) (account_of u p b) → Like (account_of t o (user_does call a)) (account_of u p (user_does call b))
  pub ended : (x y : Account) → Like x y → x.end.carrier.ended ≡ y.end.carrier.ended
  pub turned : (x y : Account) → Like x y → Like y x

-- of what is the same
pub alike_at : (Like : Account → Account → Type 0) (x y v w : Account) → x ≡ v → y ≡ w → Like v w → Like x y
alike_at Like x y v w e f like = subst (λ (z : Account). Like z y) (sym e) (subst (Like v) (sym f) like)

-- an end that lasts after packets lasted before them
pub lasts_before : (units : List (List ℕ)) (x : Account) → (with_packets units x).end.carrier.ended ≡ None → x.end.carrier.ended ≡ None
lasts_before units x lasts = by (is_some x.end.carrier.ended) refl
  where
    by : (b : Bool) → is_some x.end.carrier.ended ≡ b → x.end.carrier.ended ≡ None
    by false e = none_of x.end.carrier.ended e
    by true e = never (with_packets units x).end (account_over units x e) lasts

pub packets_alike : (May : UserCall → End → Type 0) (Like : Account → Account → Type 0) → Likeness May Like →
    (units : List (List ℕ)) (x y : Account) →
    (with_packets units x).end.carrier.ended ≡ None → Like x y → Like (with_packets units x) (with_packets units y)
packets_alike May Like l [] x y lasts like = like
packets_alike May Like l (unit ∷ units) x y lasts like =
    search (
      arith,
      packets_alike May Like l units (with_packet x unit) (with_packet y unit) lasts,
      l.packet x y unit,
      lasts_before (unit ∷ units) x lasts,
    )

-- ---- courses of an end

-- an end, the indications that were given of it and the octets that were sent
pub record Course : Type 0 where
  pub told : List (ℕ × Shown)
  pub sent : List ℕ
  pub now : Holding

abbrev pub account_in : Course → Account
account_in x = account_of x.told x.sent x.now.end

abbrev pub begun : Holding → Course
begun old = record { told = []; sent = []; now = old }

-- after these calls
abbrev pub after : Course → List Call → Holding → Course
after x calls new = record { told = x.told ++ flat_map told_in calls; sent = x.sent ++ flat_map carried_in calls; now = new }

-- two ends that are alike
pub record Same (Like : Account → Account → Type 0) (x y : Course) : Type 0 where
  pub octets : x.now.held.octets ≡ y.now.held.octets
  pub account : Like (account_in x) (account_in y)

-- and whose unfinished packets are at the same offset
pub record Are (Like : Account → Account → Type 0) (x y : Course) : Type 0 where
  pub same : Same Like x y
  pub partial : IsPartial x.now.held.octets
  pub offset : x.now.held.offset ≡ y.now.held.offset
  pub bound : x.now.held.offset < 2 ^ 64

-- ---- octets and indications

-- the account of what these calls led to
account_on : (x : Course) (calls : List Call) (new : Holding) (packets : List (List ℕ)) →
    account_along calls new.end ≡ with_packets packets (account_of [] [] x.now.end) →
    account_in (after x calls new) ≡ with_packets packets (account_in x)
account_on x calls new packets h =
    grind (
      arith,
      account_joined x.told (flat_map told_in calls) x.sent (flat_map carried_in calls) new.end,
      after_more,
      packets_apart x.told x.sent packets (account_of [] [] x.now.end),
    )

pub calls_alike : (May : UserCall → End → Type 0) (Like : Account → Account → Type 0) → Likeness May Like → IsPartial [] → OneCut →
    (x y : Course) (xs ys : List Call) (c d : Holding) → Are Like x y → CallsAlong x.now xs c → CallsAlong y.now ys d →
    flat_map used_in xs ≡ flat_map used_in ys → c.end.carrier.ended ≡ None → d.end.carrier.ended ≡ None →
    Are Like (after x xs c) (after y ys d)
calls_alike May Like l nothing one_cut x y xs ys c d are h k used lasts still =
    let m = calls_read nothing x.now xs c h lasts in
    let n = calls_read nothing y.now ys d k still in
    let at = m.offset are.bound in
    let at' = n.offset (subst (λ (k : ℕ). k < 2 ^ 64) are.offset are.bound) in
    let left = account_in x in
    let right = account_in y in
    let here = account_on x xs c m.packets m.account in
    grind (arith, alike_at, packets_alike, account_on y ys d n.packets n.account, m.partial are.partial)

-- ---- a call of the user

pub connects_apart : (o : List ℕ) (c : Connect) (e : End) → connects c (put_back o e) ≡ put_back o (connects c e)
connects_apart o c e =
    grind (
      arith,
      apart_all [] o (user (connects_call (option_map tsap_octets c.calling_tsap) (option_map tsap_octets c.called_tsap)) ∷ []) e.carrier,
    )

user_apart : (o : List ℕ) (call : UserCall) (e : End) → user_does call (put_back o e) ≡ put_back o (user_does call e)
user_apart o call e = grind (arith, connects_apart, apart_session, disconnects_apart)

-- what a call of the user makes of an account
abbrev pub called_by : UserCall → Account → Account
called_by call a = account_of a.told [] (user_does call a.end)

pub account_called : (t : List (ℕ × Shown)) (o : List ℕ) (call : UserCall) (e : End) → MayCall call e →
    account_of t o (user_does call e) ≡ called_by call (account_of t o e)
account_called t o call e h =
    grind (arith, joins_alike, wait_push, made, append-nil, connects_apart, account_calling, user_apart, after_more, account_quiet)

-- accounts that are the same
pub exactly : Likeness MayCall (λ (x y : Account). x ≡ y)
exactly = record {
  packet = λ x y unit lasts same. ap (λ (a : Account). with_packet a unit) same;
  fault = λ x y fault lasts same. ap (faulted fault) same;
  call = λ t o a u p b call lasts h k same. account_called t o call a h ∙ ap (called_by call) same ∙ sym (account_called u p call b k);
  ended = λ x y same. ap (λ (a : Account). a.end.carrier.ended) same;
  turned = λ x y same. sym same;
}

-- ---- rounds

-- the unfinished packet stays as it is
held_alike : (Like : Account → Account → Type 0) (x y : Course) (c d : Holding) → Are Like x y → c.held ≡ x.now.held → d.held ≡ y.now.held →
    Like (account_of x.told x.sent c.end) (account_of y.told y.sent d.end) → Are Like (record x { now = c }) (record y { now = d })
held_alike Like x y c d are h k account = grind arith

user_alike : (May : UserCall → End → Type 0) (Like : Account → Account → Type 0) → Likeness May Like →
    (x y : Course) (call : Option UserCall) (c d : Holding) → Are Like x y → IsCalled May x.now call c → IsCalled May y.now call d →
    Are Like (record x { now = c }) (record y { now = d })
user_alike May Like l x y call c d are h k = search (arith, held_alike, alike_at, account_of, user_does)

are_joined : (Like : Account → Account → Type 0) (x y : Course) (xs ys more rest : List Call) (now then a b : Holding) →
    Are Like (after (after x xs now) more a) (after (after y ys then) rest b) → Are Like (after x (xs ++ more) a) (after y (ys ++ rest) b)
are_joined Like x y xs ys more rest now then a b h =
    grind (arith, alike_at, account_of, flat_map, told_in, carried_in, append_assoc, flat_map-append)

pub rounds_alike : (May : UserCall → End → Type 0) (Like : Account → Account → Type 0) → Likeness May Like → IsPartial [] → OneCut →
    (x y : Course) (xs ys : List Round) (c d : Holding) →
    Are Like x y → RoundsBy May x.now xs c → RoundsBy May y.now ys d → AreInStep xs ys →
    Are Like (after x (calls_of xs) c) (after y (calls_of ys) d)
rounds_alike May Like l nothing one_cut x y [] [] c d are h k step = grind (arith, alike_at, account_of, append-nil)
rounds_alike May Like l nothing one_cut x y [] (s ∷ ys) c d are h k step = absurd step
rounds_alike May Like l nothing one_cut x y (r ∷ xs) [] c d are h k step = absurd step
rounds_alike May Like l nothing one_cut x y (r ∷ xs) (s ∷ ys) c d are h k step =
    let fed = calls_alike May Like l nothing one_cut x y r.calls s.calls h.0 k.0 are h.2 k.2 step.0 (grind arith) (grind arith) in
    let met = user_alike May Like l (after x r.calls h.0) (after y s.calls k.0) r.user h.1 k.1 fed h.3
    (subst (λ (call : Option UserCall). IsCalled May k.0 call k.1) (sym step.1) k.3) in
    are_joined Like x y r.calls s.calls (calls_of xs) (calls_of ys) h.1 k.1 c d
    (rounds_alike May Like l nothing one_cut (after x r.calls h.1) (after y s.calls k.1) xs ys c d met h.4 k.4 step.2)

-- an end is like itself
pub are_first : (Like : Account → Account → Type 0) (old : Holding) → IsPartial old.held.octets → old.held.offset < 2 ^ 64 →
    Like (account_of [] [] old.end) (account_of [] [] old.end) → Are Like (begun old) (begun old)
are_first Like old partial bound like = grind arith

-- ---- ends that are the same

pub same_alike : (old a b : Holding) (xs ys : List Call) →
    Same (λ (x y : Account). x ≡ y) (after (begun old) xs a) (after (begun old) ys b) → AreAlike a xs b ys
same_alike old a b xs ys h = grind arith

pub runs_alike : IsPartial [] → OneCut → (old a b : Holding) (xs ys : List Round) → IsPartial old.held.octets → old.held.offset < 2 ^ 64 →
    RoundsAlong old xs a → RoundsAlong old ys b →
    AreInStep xs ys → AreAlike a (calls_of xs) b (calls_of ys)
runs_alike nothing one_cut old a b xs ys partial bound h k step =
    let Like : Account → Account → Type 0 = λ (x y : Account). x ≡ y in
    same_alike old a b (calls_of xs) (calls_of ys)
    (rounds_alike MayCall Like exactly nothing one_cut (begun old) (begun old) xs ys a b (are_first Like old partial bound refl) h k
    step).same
