-- A request for a connection is a request of the machine.
-- For the laws of `standing`.
use Rattle.osi_carrier.specs.Calls.{asks}
use Rattle.osi_between.specs.Messages as carrier
use Rattle.osi_machine.specs.Tables as tables
use Rattle.osi_stack.specs.Calls.{connects}
use Rattle.osi_stack.specs.State as stack
use Rattle.osi_pair.proofs.Vocabulary.{◌≡◌, ◌≢◌, refl, sym, ◌∙◌, ap, subst, ℕ, suc, ◌+◌, ◌<◌, ◌≤◌, ◌==◌, Bool, true, false, List, [], ◌∷◌}
use Rattle.osi_pair.proofs.Vocabulary.{◌++◌, length, length-append, Option, Some, None, option_map, Ok, Err, arith, nat_le, eqb-true}
use Rattle.osi_pair.proofs.Vocabulary.{eq-eqb, leb-true, leb-false, nat_tests, tsap_octets, may_connect, was_given, place_at, RiseFrom}
use Rattle.osi_pair.proofs.Vocabulary.{value_at, asked, EndReason, push_here, beyond, push_other, free_of, Both, Between, AreBetween, Acted}
use Rattle.osi_pair.proofs.Vocabulary.{becomes, under_way, is_cut, progress_of, IsTsap, Progress, Terms, terms_of, Offer, Step}
use Rattle.osi_pair.proofs.Vocabulary.{connects as connecting, connection_at, connect_answered, Refusal, Line, Tables, asked_with, refusal}
use Rattle.osi_pair.proofs.Vocabulary.{asked_in, step, run, ask, is_profile, unit_bits, named_by, connect_error, calls_with, AllCameAbout}
use Rattle.osi_pair.proofs.Vocabulary.{Soundness, IsSound, kept_at, End, Holding, IsAttended, fresh_line, ConnectError, used_live, asked_of}
use Rattle.osi_pair.proofs.Vocabulary.{CanBeAsked, TwoEnds, noted, connected_by, answer_with, after_connect, asks as asked_entry}
use Rattle.osi_pair.proofs.Vocabulary.{carriers_of, offer_in, answer_in, IsSeated, IsLine, HasLine, IsInOrder, Stands, StandsAt, HasJoined}
use Rattle.osi_pair.proofs.Vocabulary.{whole, Left, none_of, ConnectCall as Connect}
use Rattle.osi_pair.proofs.words.added_and_cut_words_are_messages.{wholes}
use Rattle.osi_pair.proofs.turn.what_an_acting_end_leaves_in_flight.{out_way, place_given, more_said, StandsOn, begun_with, one_step}
use Rattle.osi_pair.proofs.call.a_call_is_the_machines.{session_now_is}
use Rattle.osi_pair.proofs.call.what_a_call_sends_can_be_written.{profile_small, asker_small}
use Rattle.osi_pair.proofs.call.a_request_is_answered_as_by_the_machine.{Awaits, refusal_same}
use Rattle.osi_pair.proofs.flight.what_is_in_flight_when_an_end_acts.{none_under_way}
use Rattle.osi_pair.proofs.turn.a_turn_keeps_the_match.{seen, unseen, Others, other_seen}
use Rattle.osi_pair.proofs.packet.a_request_begins_a_session.{begun_kept, begun_waits}
use Rattle.osi_pair.proofs.flight.what_a_closing_receiver_has_dropped.{like_alike, same_alike}

-- the laws of the crates below
pub record ConnectLaws : Type 0 where
  pub asked : (terms : Terms) (both : Both) (b : Between) (calling to : Option (List ℕ)) → AreBetween terms both b →
      both.caller.state.ended ≡ None → may_connect both.caller.state ≡ None → IsTsap calling → IsTsap to →
      Acted terms true (both.caller.state.given + 1) both (becomes true (asks calling to both.caller.state) both.caller.held both) b []
      (carrier.ask ∷ [])
  pub ahead : (terms : Terms) (both : Both) (b : Between) (end : Bool) (n : ℕ) → AreBetween terms both b → b.caller.given < n →
      under_way end n both b ≡ []
  pub awaits : Awaits
  pub attended : (c : Connect) (e : End) → IsAttended e → IsAttended (connects c e)
  pub sound : (c : Connect) (e : End) → connect_error c e ≡ None → IsSound e → IsSound (connects c e)
  pub rising : (c : Connect) (e : End) → Soundness e → RiseFrom 0 e.lines → RiseFrom 0 (connects c e).lines
  pub came : (c : Connect) (e : End) → AllCameAbout e.lines → AllCameAbout (connects c e).lines
  pub before : (q : ℕ) (lines : List Line) (old new : Line) → connection_at q lines ≡ Some old →
      connection_at q (lines ++ new ∷ []) ≡ Some old
  pub last : (lines : List Line) (new : Line) → connection_at (suc (length lines)) (lines ++ new ∷ []) ≡ Some new

abbrev asked_end : Connect → Holding → Holding
asked_end c h = record h { end = connects c h.end }

abbrev next_of : Holding → ℕ
next_of h = h.end.carrier.given + 1

-- ---- one that may be asked for

record MayAsk (c : Connect) (h : Holding) : Type 0 where
  may : may_connect h.end.carrier ≡ None
  lasts : h.end.carrier.ended ≡ None
  profile : is_profile (unit_bits c.requirements) ≡ true

-- ---- the end that asks

abbrev line_of : Connect → stack.Line
line_of c = fresh_line (calls_with c)

place_new : (c : Connect) (h : Holding) → Soundness h.end → place_at (next_of h) (asked_end c h).end.carrier ≡ was_given (Some asked)
place_new c h o = place_given (next_of h) (asked_end c h).end.carrier (omega arith) ∙ ap was_given (grind (arith, push_here, beyond))

line_new : (c : Connect) (h : Holding) → Soundness h.end → value_at (next_of h) (asked_end c h).end.lines ≡ Some (line_of c)
line_new c h o = grind (arith, used_live, push_here, beyond)

place_apart : (q : ℕ) (c : Connect) (h : Holding) (given : Bool) → nat_le q h.end.carrier.given ≡ given → q ≢ next_of h →
    value_at q (asked_end c h).end.carrier.live ≡ value_at q h.end.carrier.live →
    place_at q (asked_end c h).end.carrier ≡ place_at q h.end.carrier
place_apart q c h given e apart live = grind (arith, leb-true, place_given, leb-false)

left_alone : (c : Connect) (p : TwoEnds) (b : Between)
    (a : Acted (terms_of p.left.end.carrier.local p.right.end.carrier.local) true (next_of p.left) (carriers_of p)
    (carriers_of (record p { left = asked_end c p.left })) b [] (carrier.ask ∷ [])) → IsInOrder p.left.end →
    Others Left p b (asked_end c p.left).end p.left.held a.now (next_of p.left)
left_alone c p b a o =
    let h : Holding = p.left in
    let live : (q : ℕ) → q ≢ next_of h → value_at q (asked_end c h).end.carrier.live ≡ value_at q h.end.carrier.live =
    λ q apart. push_other q (next_of h) asked h.end.carrier.live apart in
    let none : value_at (next_of h) h.end.lines ≡ None = beyond (next_of h) h.end.carrier.given h.end.lines o.sound.known (omega arith) in
    record {
      places = λ q apart. place_apart q c h (nat_le q h.end.carrier.given) refl apart (live q apart);
      lives = live;
      sessions = grind (arith, used_live, push_other);
      kept = λ q apart s e. begun_kept (next_of h) q (calls_with c) (asked_end c h).end.carrier.live h.end.lines s apart none
          o.sound.apart e;
      ways = a.carries.others;
      last = a.carries.other_places;
      there = λ q. ap (place_at q) a.carries.there;
    }

own_new : (broken : Bool) (c : Connect) (h : Holding) → Soundness h.end → MayAsk c h → CanBeAsked c →
    IsSeated (next_of h) (asked_end c h) (asked_with broken (offer_in (asked_of c))).own
own_new broken c h o may can =
    search (
      arith,
      session_now_is,
      place_new c h o,
      line_new c h o,
      profile_small (unit_bits c.requirements) may.profile,
      asker_small (named_by c.sizes) can.sizes,
    )

-- ---- the end that is asked

record IsUnaware (n : ℕ) (h : Holding) : Type 0 where
  live : value_at n h.end.carrier.live ≡ None
  kept : kept_at n h.end.lines ≡ None

unaware : (n : ℕ) (p : TwoEnds) (b : Between) (t : Tables) (o : Option EndReason) → p.right.end.carrier.ended ≡ o → Stands p b t →
    p.right.end.carrier.given < n → IsUnaware n p.right
unaware n p b t o is s above = grind (arith, beyond)

peer_new : (n : ℕ) (broken : Bool) (c : Connect) (p : TwoEnds) → p.right.end.carrier.given < n → IsUnaware n p.right →
    IsSeated n p.right (asked_with broken (offer_in (asked_of c))).peer
peer_new n broken c p above u = grind arith

-- ---- the two

abbrev new_two : Connect → TwoEnds → TwoEnds
new_two c p = record p { left = asked_end c p.left }

abbrev terms_now : TwoEnds → Terms
terms_now p = terms_of p.left.end.carrier.local p.right.end.carrier.local

abbrev HasAsked : Connect → TwoEnds → Between → Type 0
HasAsked c p b = Acted (terms_now p) true (next_of p.left) (carriers_of p) (carriers_of (new_two c p)) b [] (carrier.ask ∷ [])

line_asks : ConnectLaws → (c : Connect) (p : TwoEnds) (b : Between) (t : Tables) (a : HasAsked c p b) → Stands p b t → MayAsk c p.left →
    CanBeAsked c → IsLine (next_of p.left) (new_two c p) a.now (asked_with t.broken (offer_in (asked_of c)))
line_asks laws c p b t a s may can =
    let n : ℕ = next_of p.left in
    let o = s.order_left may.lasts in
    let new : TwoEnds = new_two c p in
    let few : b.caller.given < n = (let e = s.given_then in omega arith) in
    let above : p.right.end.carrier.given < n = (let e = s.given in let f = s.given_back in omega arith) in
    let none_back : under_way false n (carriers_of p) b ≡ [] = laws.ahead (terms_now p) (carriers_of p) b false n s.between few in
    let g : Progress = progress_of (place_at n a.now.caller) in
    unseen Left n new a.now (asked_with t.broken (offer_in (asked_of c))) (record {
      here = own_new t.broken c p.left o.sound may can;
      there = peer_new n t.broken c p above (unaware n p b t p.right.end.carrier.ended refl s above);
      out = out_way (terms_now p) Left n p new b a.now (whole ask ∷ []) (ask ∷ []) [] t.broken
          (asked_with t.broken (offer_in (asked_of c))).own (asked_with t.broken (offer_in (asked_of c))).peer
          (wholes (ask ∷ [])) a.carries s.broken
          (grind arith) refl may.lasts refl
          (none_under_way p.right.end.carrier.ended (progress_of (place_at n b.called)) (is_cut true (carriers_of p)) (HasJoined n p.right)
          (asked_with t.broken (offer_in (asked_of c))).peer.session.state (under_way true n (carriers_of p) b)
          (λ y at. (let none = (unaware n p b t p.right.end.carrier.ended refl s above).kept in grind arith))
          (λ e. same_alike (progress_of (place_at n b.called)) _ _ (sym (laws.ahead (terms_now p) (carriers_of p) b true n s.between few))))
          refl;
      back = grind (arith, none_under_way, same_alike, like_alike, line_new c p.left o.sound);
    })

abbrev with_line : Tables → Connect → Tables
with_line t c = record t { lines = t.lines ++ asked_with t.broken (offer_in (asked_of c)) ∷ [] }

line_by : (here : Bool) → ConnectLaws → (m : ℕ) (c : Connect) (p : TwoEnds) (b : Between) (t : Tables) (a : HasAsked c p b) →
    (m == next_of p.left) ≡ here → Stands p b t → MayAsk c p.left → CanBeAsked c → 0 < m → m ≤ length t.lines + 1 →
    HasLine m (new_two c p) a.now (with_line t c)
line_by true laws m c p b t a e s may can some few =
    let new : HasLine (next_of p.left) (new_two c p) a.now (with_line t c) = record {
      line = asked_with t.broken (offer_in (asked_of c));
      found = grind (arith, laws.last t.lines (asked_with t.broken (offer_in (asked_of c))));
      is = line_asks laws c p b t a s may can;
    } in
    subst (λ (k : ℕ). HasLine k (new_two c p) a.now (with_line t c)) (sym (eqb-true m (next_of p.left) e)) new
line_by false laws m c p b t a e s may can some few =
    let apart : m ≢ next_of p.left = λ same. let no = sym e ∙ eq-eqb m (next_of p.left) same in cc in
    let within : m ≤ length t.lines = (let x = s.given in grind (arith, nat_tests)) in
    let h = s.lines m some within in
    record {
      line = h.line;
      found = laws.before m t.lines h.line (asked_with t.broken (offer_in (asked_of c))) h.found;
      is = unseen Left m (new_two c p) a.now h.line
          (search (arith, other_seen, left_alone c p b a (s.order_left may.lasts), seen Left m p b h.line h.is));
    }

asks_stand : ConnectLaws → (c : Connect) (p : TwoEnds) (b : Between) (t : Tables) (a : HasAsked c p b) → connect_error c p.left.end ≡ None →
    Stands p b t → MayAsk c p.left → CanBeAsked c → Stands (new_two c p) a.now (with_line t c)
asks_stand laws c p b t a none s may can =
    let x : Line = asked_with t.broken (offer_in (asked_of c)) in
    let more : length (t.lines ++ x ∷ []) ≡ length t.lines + 1 = length-append t.lines (x ∷ []) in
    let o = s.order_left may.lasts in
    let lines : (m : ℕ) → 0 < m → m ≤ length (t.lines ++ x ∷ []) → HasLine m (new_two c p) a.now (with_line t c) =
    λ m some few. line_by (m == next_of p.left) laws m c p b t a refl s may can some (subst (λ (n : ℕ). m ≤ n) more few) in
    let heard = laws.attended c p.left.end (λ h. o.heard) in
    let sound = laws.sound c p.left.end none (λ h. o.sound) in
    let rising = laws.rising c p.left.end o.sound o.rising in
    let came = laws.came c p.left.end o.came in
    grind (arith, begun_waits)

-- ---- the step

connect_by : ConnectLaws → (c : Connect) (p : TwoEnds) (b : Between) (t : Tables) (o : Option ConnectError) →
    connect_error c p.left.end ≡ o → answer_in (answer_with (next_of p.left) o) ≡ Some (refusal t (offer_in (asked_of c))) →
    CanBeAsked c → Stands p b t →
    StandsOn (noted (asked_entry (asked_of c) (answer_with (next_of p.left) o) ∷ []) (record p { left = connected_by o c p.left }))
    (step t (connecting (offer_in (asked_of c))))
connect_by laws c p b t (Some e) is answer can s =
    let o : Offer = offer_in (asked_of c) in
    let said = more_said p b t (asked_entry (asked_of c) (Err e)) (connect_answered o (refusal t o))
    (ap (option_map (connect_answered o)) answer) s in
    record {
      now = b;
      stands = subst (λ (u : Tables). Stands (noted (asked_entry (asked_of c) (Err e) ∷ []) p) b
          (tables.noted (connect_answered o (refusal t o) ∷ []) u)) (sym (grind arith)) said;
    }
connect_by laws c p b t None is answer can s =
    let o : Offer = offer_in (asked_of c) in
    let fine : refusal t o ≡ None = grind arith in
    let may : MayAsk c p.left = search (arith, none_of, free_of) in
    let a : HasAsked c p b =
    laws.asked (terms_now p) (carriers_of p) b (option_map tsap_octets c.calling_tsap)
    (option_map tsap_octets c.called_tsap) s.between may.lasts may.may can.calling can.called in
    let said = more_said (new_two c p) a.now (with_line t c) (asked_entry (asked_of c) (Ok (next_of p.left))) (connect_answered o None) refl
    (asks_stand laws c p b t a is s may can) in
    record {
      now = a.now;
      stands = subst (λ (r : Option Refusal). Stands (noted (asked_entry (asked_of c) (Ok (next_of p.left)) ∷ []) (new_two c p)) a.now
          (tables.noted (connect_answered o r ∷ []) (asked_in t o r))) (sym fine) said;
    }

pub connect_at : ConnectLaws → (p : TwoEnds) (steps : List Step) (c : Connect) → CanBeAsked c → StandsAt p steps →
    StandsAt (after_connect c p) (steps ++ connecting (offer_in (asked_of c)) ∷ [])
connect_at laws p steps c can s =
    let t = run (begun_with p) steps in
    one_step p (after_connect c p) steps (connecting (offer_in (asked_of c))) (can.serial, can.sizes) (grind arith) s.numbered
    (connect_by laws c p s.now t (connect_error c p.left.end) refl
    (refusal_same laws.awaits (next_of p.left) c p s.now t p.left.end.carrier.ended s.stands refl) can s.stands)
