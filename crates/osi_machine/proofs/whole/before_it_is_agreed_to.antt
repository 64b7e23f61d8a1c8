-- A connection that was requested and not yet agreed to: nobody owns, sees or sends anything, until a CN is sent.
-- For every_stage_of_a_connection.
use Rattle.osi_machine.proofs.Vocabulary.{take-nil, State, Phase, Token, Call, CallError, allowed, is_over, is_wait_transport, is_wait_cn}
use Rattle.osi_machine.proofs.Vocabulary.{is_profile, awaiting, Absent, Owners, own_to_pool, left_by, CanBeOffered, Left, Right}
use Rattle.osi_machine.proofs.Vocabulary.{Message, ask, agree, deny, Transport, not_yet, waiting, linked, gone, kept_of, End, World}
use Rattle.osi_machine.proofs.Vocabulary.{session_of, ended_at, turned as turned_world, Told, untold, or_left, or_right, Ended}
use Rattle.osi_machine.proofs.Vocabulary.{Meaning, without_tokens, offering, offer_sent, core_start, unit, put, moved, Taking, unchanged}
use Rattle.osi_machine.proofs.Vocabulary.{Terms, accepts, denies, asked_at, message_taken, without_first, is_waiting, Class, learns}
use Rattle.osi_machine.proofs.Vocabulary.{is_known, Option, ◌≡◌, refl, sym, ◌∙◌, ap, ℕ, zero, Bool, true, false, ◌||◌, List, [], ◌∷◌, take}
use Rattle.osi_machine.proofs.Vocabulary.{◌⊎◌, inl, inr, Err, arith, subst, ◌++◌}
use Rattle.osi_machine.proofs.basics.what_holds_in_each_phase.{excluded, by_test, by_either}
use Rattle.osi_machine.proofs.promises.what_two_users_may_rely_on.{offer_stands}
use Rattle.osi_machine.proofs.promises.what_a_record_tells.{told_all, Tells}
use Rattle.osi_machine.proofs.whole.how_a_core_simulates_a_connection.{stopped, is_begun, Carried, cut_to}
use Rattle.osi_machine.proofs.whole.a_call.{carried_more}
use Rattle.osi_machine.proofs.whole.a_unit_is_taken.{put_nothing}
use Rattle.osi_machine.proofs.whole.every_step_is_simulated.{refused, Repeats}
use Rattle.osi_session.specs.declared.faults.CallError.TheVariants as error

-- ---- the lines

-- V(A), the base and the mark of a side that has seen nothing
pub record AreZero (confirmed base mark : ℕ) : Type 0 where
  pub acked : confirmed ≡ 0
  pub based : base ≡ 0
  pub marked : mark ≡ 0

-- a side that has taken nothing yet
pub record Waits (x : End) : Type 0 where
  pub transport : x.transport ≡ waiting
  pub phase : is_wait_transport x.kept.phase ≡ true
  pub mark : x.mark ≡ 0
  pub said : x.said ≡ []
  pub got : x.got ≡ 0
  pub zero_now : AreZero x.kept.confirmed x.kept.base x.mark

pub record Idle (x : End) : Type 0 where
  pub transport : (x.transport ≡ not_yet) ⊎ (x.transport ≡ linked)
  pub kept : x.kept ≡ kept_of awaiting
  pub mark : x.mark ≡ 0
  pub said : x.said ≡ []
  pub got : x.got ≡ 0

-- a side that was denied, or has ended
pub record Left_it (x : End) : Type 0 where
  pub transport : x.transport ≡ gone
  pub over_now : stopped x ≡ true
  pub zero_now : AreZero x.kept.confirmed x.kept.base x.mark

pub called_zero : (x : End) → Idle x ⊎ Left_it x → AreZero x.kept.confirmed x.kept.base x.mark
called_zero x h1 = search arith

-- what a called end replies to a request
abbrev pub answer_of : Terms → Message
answer_of (accepts class) = agree
answer_of (denies reason) = deny reason

abbrev pub is_denial : Terms → Bool
is_denial (denies reason) = true
is_denial terms = false

-- what is in flight
pub data Way : Type 0 where
  nothing_sent : Way
  asked : Way
  replied : Way

abbrev pub asks : Way → List Message
asks asked = ask ∷ []
asks _ = []

abbrev pub replies : Terms → Way → List Message
replies terms replied = answer_of terms ∷ []
replies terms _ = []

-- a side that has agreed has begun
abbrev pub suits : Terms → Way → Transport → Bool
suits (accepts class) replied tr = is_begun tr
suits terms way tr = true

-- seen from the caller, whose side has ended or not; t and u are what the records of both sides tell
pub record Opens (terms : Terms) (past : Bool) (w : World) (t u : Told) : Type 0 where
  pub small : CanBeOffered w.offer
  pub profile : is_profile w.offer.requirements ≡ true
  pub history : w.history ≡ []
  pub owner : (k : Token) → w.owner k ≡ Absent
  pub caller : Waits w.own ⊎ Left_it w.own
  pub called : Idle w.peer ⊎ Left_it w.peer
  pub way : Way
  pub own_channel : w.own.channel ≡ asks way
  pub peer_channel : w.peer.channel ≡ replies terms way
  pub suited : suits terms way w.peer.transport ≡ true
  -- a caller waits until its side ends or it is denied
  pub stays : is_waiting w.own.transport ≡ false → (past || is_denial terms) ≡ true
  pub own_told : t ≡ untold Left w.offer
  pub peer_told : u ≡ untold Right w.offer

-- ---- every call is refused

abbrev pub is_early : Phase → Bool
is_early p = is_wait_transport p || is_wait_cn p

pub refused_early : (s : State) (x : Call) → is_early s.phase ≡ true → allowed s x ≡ Err error.BadState
unfolding allowed
refused_early s x h = grind (arith, excluded)

-- a call that is refused changes nothing
pub record Refuses (s : State) (x : Call) : Type 0 where
  pub fault : CallError
  pub refused : allowed s x ≡ Err fault

module _ (terms : Terms) (past : Bool) (w : World) (t u : Told) where
  pub caller_refuses : (x : Call) → Opens terms past w t u → Refuses (session_of w) x
  caller_refuses x h = elim h.caller [
    | inl k ↦ record { fault = error.BadState; refused = grind (arith, refused_early, or_left) }
    | inr k ↦ record { fault = error.Ended; refused = refused (session_of w) x k.over_now }
  ]

  pub called_refuses : (x : Call) → Opens terms past (turned_world w) t u → Refuses (session_of w) x
  called_refuses x h = elim h.called [
    | inl k ↦ record { fault = error.BadState; refused = grind (arith, refused_early, or_right) }
    | inr g ↦ record { fault = error.Ended; refused = refused (session_of w) x g.over_now }
  ]

-- ---- an end

pub absent_left : (s : State) (o : Owners) (k : Token) → o k ≡ Absent → left_by s o k ≡ Absent
absent_left s o k e = by_test (is_over s.phase) (λ q. rw q (ap own_to_pool e)) (λ q. rw q e)

-- what is left of what is in flight
abbrev cut_asks : ℕ → Way → Way
cut_asks zero asked = nothing_sent
cut_asks k way = way

abbrev cut_replies : ℕ → Way → Way
cut_replies zero replied = nothing_sent
cut_replies k way = way

take_asks : (k : ℕ) (way : Way) → take k (asks way) ≡ asks (cut_asks k way)
take_asks k way = grind (arith, take-nil)

take_replies : (k : ℕ) (terms : Terms) (way : Way) → take k (replies terms way) ≡ replies terms (cut_replies k way)
take_replies k terms way = grind (arith, take-nil)

asks_kept : (k : ℕ) (way : Way) → asks (cut_replies k way) ≡ asks way
asks_kept k way = grind arith

replies_kept : (k : ℕ) (terms : Terms) (way : Way) → replies terms (cut_asks k way) ≡ replies terms way
replies_kept k terms way = grind arith

-- it suits the terms still, also if the called side has ended
cut_suits : (k j : ℕ) (terms : Terms) (way : Way) (tr : Transport) → suits terms way tr ≡ true
    → (suits terms (cut_replies j (cut_asks k way)) tr ≡ true) × (suits terms (cut_replies j way) gone ≡ true)
cut_suits k j terms way tr h = grind arith

module _ (terms : Terms) (past : Bool) (w : World) (t u : Told) where
  -- the caller ends, and the called side
  pub caller_ends : (k : ℕ) → Opens terms past w t u → Opens terms true (ended_at k w) t u
  caller_ends k h = search (arith, absent_left, take_asks, replies_kept, cut_suits)

  pub called_ends : (k : ℕ) → Opens terms past (turned_world w) t u → Opens terms past (turned_world (ended_at k w)) t u
  called_ends k h = search (arith, absent_left, called_zero, asks_kept, take_replies, cut_suits)

  -- a side that ends leaves a connection of which it has no reference; and a break
  pub past_opens : Opens terms past w t u → Opens terms true w t u
  past_opens h = grind arith

  pub break_opens : (k j : ℕ) → Opens terms past w t u → Opens terms past (cut_to k j w) t u
  break_opens k j h = search (arith, take_asks k h.way, asks_kept j (cut_asks k h.way), take_replies j terms (cut_asks k h.way), cut_suits)

-- ---- the start

-- the connection once the caller has taken the agreement
abbrev started : Bool → World → World
started broken w = moved broken linked (offering w.offer) (unit (offer_sent w.offer) ∷ []) (without_first w [])

none_carried : (broken over_now : Bool) (channel : List Message) (s : State) → channel ≡ [] → Carried broken over_now channel [] s
none_carried broken over_now channel s e =
    record { there = []; lost = []; tail = []; splits = refl; carries = e; whole = inl refl; last = tt }

first_carried : (broken : Bool) (channel : List Message) (m : Meaning) (s : State) → channel ≡ []
    → Carried broken false (put broken (unit m ∷ []) channel) (m ∷ []) s
first_carried broken channel m s e = carried_more broken channel [] s s m (none_carried broken false channel s e)

module _ (broken : Bool) (terms : Terms) (past : Bool) (w : World) (t u : Told) (h : Opens terms past w t u) where
  start_repeats : Waits w.own → w.own.channel ≡ [] → is_begun w.peer.transport ≡ true → Repeats broken (started broken w) t u
  start_repeats k e b = record {
    core = core_start w.offer;
    stands = offer_stands w.offer h.small h.profile;
    projects = record {
      history = h.history;
      own = record {
        begun = refl;
        counted = record { acked = refl; based = refl; marked = k.mark };
        alike = λ l. grind (arith, absent_left);
        carried = λ l. none_carried broken (stopped w.peer) [] awaiting refl;
        parted = λ l. grind arith;
      };
      peer = grind (arith, called_zero, first_carried);
    };
    own = subst (λ (d : Told). Tells d (offering w.offer) [] [] []) (sym h.own_told) (grind arith);
    peer = subst (λ (d : Told). Tells d awaiting [] [] []) (sym h.peer_told) (grind arith);
  }

  -- what was in flight is gone
  answered : w.own.channel ≡ [] → Opens terms past (without_first w []) t u
  answered e = search arith

  refused_now : (reason : ℕ) → w.own.channel ≡ [] → is_denial terms ≡ true
      → Opens terms past (moved broken gone (without_tokens Ended (session_of (without_first w []))) [] (without_first w [])) t u
  refused_now reason e d = search (arith, answered, absent_left, put_nothing)

-- ---- what the caller takes

-- nothing is closed, and the connection is still to be agreed to; or it is, and the class is known
abbrev pub OpenTaken : Bool → Terms → Bool → Option Class → Told → Told → Taking → Type 0
OpenTaken broken terms past known t u k = (k.closes ≡ false) × (Opens terms past k.world (told_all t k.shown) u
    ⊎ ((is_known known ≡ true) × Repeats broken k.world (told_all t k.shown) u))

-- by its transport connection
taken_at : (broken : Bool) (terms : Terms) (past : Bool) (known : Option Class) (k : ℕ) (w : World) (t u : Told) (m : Message)
    (tr : Transport)
    → w.own.transport ≡ tr
    → OpenTaken broken terms past (learns terms tr m known) t u (message_taken broken terms k tr (without_first w []) m)
    → OpenTaken broken terms past (learns terms w.own.transport m known) t u
    (message_taken broken terms k w.own.transport (without_first w []) m)
taken_at broken terms past known k w t u m tr e h = subst (λ (d : Transport). OpenTaken broken terms past (learns terms d m known) t u
    (message_taken broken terms k d (without_first w []) m)) (sym e) h

reply_taken : (broken : Bool) (terms : Terms) (past : Bool) (known : Option Class) (k : ℕ) (w : World) (t u : Told) → Opens terms past w t u
    → w.own.channel ≡ [] → suits terms replied w.peer.transport ≡ true
    → OpenTaken broken terms past (learns terms w.own.transport (answer_of terms) known) t u
    (message_taken broken terms k w.own.transport (without_first w []) (answer_of terms))
reply_taken broken (accepts class) past known k w t u h e b = by_either h.caller
    (λ y. taken_at broken (accepts class) past known k w t u agree waiting y.transport
    (refl, inr (refl, start_repeats broken (accepts class) past w t u h y e b)))
    (λ g. taken_at broken (accepts class) past known k w t u agree gone g.transport
    (refl, inl (answered broken (accepts class) past w t u h e)))
reply_taken broken (denies reason) past known k w t u h e b = by_either h.caller
    (λ y. taken_at broken (denies reason) past known k w t u (deny reason) waiting y.transport
    (refl, inl (refused_now broken (denies reason) past w t u h reason e refl)))
    (λ g. taken_at broken (denies reason) past known k w t u (deny reason) gone g.transport
    (refl, inl (answered broken (denies reason) past w t u h e)))

pub caller_takes : (broken : Bool) (terms : Terms) (past : Bool) (known : Option Class) (k : ℕ) (w : World) (t u : Told) (m : Message)
    (ms : List Message) → Opens terms past w t u → w.peer.channel ≡ m ∷ ms
    → OpenTaken broken terms past (learns terms w.own.transport m known) t u
    (message_taken broken terms k w.own.transport (without_first w ms) m)
caller_takes broken terms past known k w t u m ms h e = by h.way (sym e ∙ h.peer_channel) h.own_channel h.suited
  where
    by : (way : Way) → m ∷ ms ≡ replies terms way → w.own.channel ≡ asks way → suits terms way w.peer.transport ≡ true
        → OpenTaken broken terms past (learns terms w.own.transport m known) t u
        (message_taken broken terms k w.own.transport (without_first w ms) m)
    by replied f q b = grind (arith, reply_taken broken terms past known k w t u h q b)
    by _ f q b = absurd (cc)

-- ---- what the called side takes

abbrev pub CalledTaken : Terms → Bool → Told → Told → Taking → Type 0
CalledTaken terms past t u k = (k.closes ≡ false) × Opens terms past (turned_world k.world) t (told_all u k.shown)

-- the request is taken by a side that has ended
asked_late : (terms : Terms) (past : Bool) (w : World) (t u : Told) → Opens terms past (turned_world w) t u → w.own.channel ≡ []
    → Opens terms past (turned_world (without_first w [])) t u
asked_late terms past w t u h e = search arith

denied_now : (broken : Bool) (terms : Terms) (past : Bool) (w : World) (t u : Told) (reason : ℕ) → Opens terms past (turned_world w) t u
    → w.own.channel ≡ [] → Idle w.own → w.own.transport ≡ not_yet
    → (way : Way) → put broken (deny reason ∷ []) w.own.channel ≡ replies terms way → asks way ≡ [] → suits terms way w.own.transport ≡ true
    → Opens terms past (turned_world (record (without_first w [])
    { own = record w.own { channel = put broken (deny reason ∷ []) w.own.channel } })) t u
denied_now broken terms past w t u reason h e k y way f none s = grind arith

asked_now : (broken : Bool) (terms : Terms) (past : Bool) (w : World) (t u : Told) → Opens terms past (turned_world w) t u
    → w.own.channel ≡ [] → Idle w.own → w.own.transport ≡ not_yet → CalledTaken terms past t u
    (unchanged (asked_at broken terms (without_first w [])))
asked_now true (accepts class) past w t u h e k y = (refl, grind arith)
asked_now false (accepts class) past w t u h e k y = search arith
asked_now true (denies reason) past w t u h e k y =
    (refl, denied_now true (denies reason) past w t u reason h e k y nothing_sent e refl refl)
asked_now false (denies reason) past w t u h e k y = (
  refl,
  denied_now false (denies reason) past w t u reason h e k y replied
      (ap (λ (ms : List Message). ms ++ deny reason ∷ []) e) refl refl,
)

module _ (broken : Bool) (terms : Terms) (past : Bool) (k : ℕ) (w : World) (t u : Told) (h : Opens terms past (turned_world w) t u) where
  asked_message : w.own.channel ≡ [] → CalledTaken terms past t u (message_taken broken terms k w.own.transport (without_first w []) ask)
  asked_message e = search (arith, asked_now, asked_late)

  pub called_takes : (m : Message) (ms : List Message) → w.peer.channel ≡ m ∷ ms
      → CalledTaken terms past t u (message_taken broken terms k w.own.transport (without_first w ms) m)
  called_takes m ms e = by h.way (sym e ∙ h.own_channel) h.peer_channel
    where
      by : (way : Way) → m ∷ ms ≡ asks way → w.own.channel ≡ replies terms way
          → CalledTaken terms past t u (message_taken broken terms k w.own.transport (without_first w ms) m)
      by asked f q = grind (arith, asked_message q)
      by _ f q = absurd (cc)
