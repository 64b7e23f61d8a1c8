-- What takes the packets of octets, and ends at one of them or at a fault, ends alike whatever the pieces.
-- For a carrier and for an end above it: each is a taker, with runs of calls that feed it.
use Rattle.osi_carrier.proofs.Vocabulary.{append-nil, flat_map, Held, IsPartial, IsFaultOf, one_fault, ArePackets, offset_of, TpktFault}
use Rattle.osi_carrier.proofs.Vocabulary.{fault_no_packet, EndReason, ◌≡◌, ℕ, ◌+◌, ◌-◌, ◌<◌, ◌^◌, true, false, List, [], ◌∷◌, ◌++◌, length}
use Rattle.osi_carrier.proofs.Vocabulary.{Option, None, is_some, refl, sym, ap, subst, ◌∙◌, ◌⊎◌, inl, inr, arith, append_assoc}
use Rattle.osi_carrier.proofs.Vocabulary.{length-append, packets_joined}
use Rattle.osi_carrier.proofs.effects.units_one_after_the_other.{none_of}
use Rattle.osi_carrier.proofs.stream.a_piece_is_read_packet_by_packet.{packets_leave}
use Rattle.osi_carrier.proofs.stream.packets_at_the_front_of_octets.{Further, compare, up_to_part, init_front, no_fault, offsets_more}

-- The state after packets, the reason of the end, and the state after a fault of the stream. Two lists of packets one
-- after the other are one, and none of them takes back an end.
pub record Taker (S : Type 0) : Type 0 where
  pub after : List (List ℕ) → S → S
  pub ended : S → Option EndReason
  pub faulted : TpktFault → S → S
  pub nothing : (s : S) → after [] s ≡ s
  pub joined : (us vs : List (List ℕ)) (s : S) → after (us ++ vs) s ≡ after vs (after us s)
  pub stays : (us : List (List ℕ)) (s : S) → is_some (ended s) ≡ true → is_some (ended (after us s)) ≡ true

module _ {S : Type 0} (t : Taker S) where
  never : {B : Type 0} (s : S) → is_some (t.ended s) ≡ true → t.ended s ≡ None → B
  never s over lasts = let e : is_some (t.ended s) ≡ false = ap is_some lasts in absurd cc

  -- ---- how it ends

  -- the last of these packets ended it
  pub record InPacket (old : S) (s : List ℕ) (final : S) : Type 0 where
    pub before : List (List ℕ)
    pub last : List ℕ
    pub rest : List ℕ
    pub packets : ArePackets (before ++ last ∷ []) s rest
    pub lasts : t.ended (t.after before old) ≡ None
    pub over : is_some (t.ended (t.after (before ++ last ∷ []) old)) ≡ true
    pub account : final ≡ t.after (before ++ last ∷ []) old

  -- after these packets the stream has a fault
  pub record InFault (old : S) (at : ℕ) (s : List ℕ) (final : S) : Type 0 where
    pub before : List (List ℕ)
    pub rest : List ℕ
    pub fault : TpktFault
    pub packets : ArePackets before s rest
    pub is : IsFaultOf (offset_of (at + (length s - length rest))) rest fault
    pub lasts : t.ended (t.after before old) ≡ None
    pub account : final ≡ t.faulted fault (t.after before old)

  abbrev pub Ending : S → ℕ → List ℕ → S → Type 0
  Ending old at s final = InPacket old s final ⊎ InFault old at s final

  -- what lasts after packets lasted after the first of them
  lasts_front : (us vs more : List (List ℕ)) (old : S) → us ≡ vs ++ more → t.ended (t.after us old) ≡ None →
      t.ended (t.after vs old) ≡ None
  lasts_front us vs more old all lasts = grind (arith, none_of, t.joined vs more old, t.stays more (t.after vs old))

  -- ---- two ends at the same octets

  module _ (old : S) (at : ℕ) (s : List ℕ) where
    abbrev units_in : (f : S) → Ending old at s f → List (List ℕ)
    units_in f (inl a) = a.before ++ a.last ∷ []
    units_in f (inr a) = a.before

    abbrev rest_in : (f : S) → Ending old at s f → List ℕ
    rest_in f (inl a) = a.rest
    rest_in f (inr a) = a.rest

    packets_in : (f : S) (a : Ending old at s f) → ArePackets (units_in f a) s (rest_in f a)
    packets_in f (inl a) = a.packets
    packets_in f (inr a) = a.packets

    -- it lasted after the packets before its last one
    lasts_before : (f : S) (a : Ending old at s f) (vs : List (List ℕ)) (m : List ℕ) (ms : List (List ℕ)) →
        units_in f a ≡ vs ++ m ∷ ms → t.ended (t.after vs old) ≡ None
    lasts_before f (inl a) vs m ms e = grind (arith, init_front a.before vs ms a.last m e, lasts_front)
    lasts_before f (inr a) vs m ms e = lasts_front a.before vs (m ∷ ms) old e a.lasts

    -- so it took none after those with which it ended
    none_further : (f g : S) (a : Ending old at s f) (b : Ending old at s g) (m : List ℕ) (ms : List (List ℕ)) →
        units_in f a ≡ units_in g b ++ m ∷ ms → ArePackets (m ∷ ms) (rest_in g b) (rest_in f a) → ⊥
    none_further f g a (inl b) m ms e h = never _ b.over (lasts_before f a (b.before ++ b.last ∷ []) m ms e)
    none_further f g a (inr b) m ms e h = fault_no_packet _ b.rest b.fault b.is m h.0 h.1 h.2 h.3

    same_end : (f g : S) (a : Ending old at s f) (b : Ending old at s g) → units_in f a ≡ units_in g b → rest_in f a ≡ rest_in g b → f ≡ g
    same_end f g (inl a) (inl b) e left = a.account ∙ ap (λ l. t.after l old) e ∙ sym b.account
    same_end f g (inl a) (inr b) e left = never _ a.over (ap (λ l. t.ended (t.after l old)) e ∙ b.lasts)
    same_end f g (inr a) (inl b) e left = never _ b.over (ap (λ l. t.ended (t.after l old)) (sym e) ∙ a.lasts)
    same_end f g (inr a) (inr b) e left = grind (arith, one_fault)

    alike_by : (f g : S) (a : Ending old at s f) (b : Ending old at s g) (more : List (List ℕ)) → units_in f a ≡ units_in g b ++ more →
        ArePackets more (rest_in g b) (rest_in f a) → f ≡ g
    alike_by f g a b [] e h = same_end f g a b (e ∙ append-nil (units_in g b)) (sym h)
    alike_by f g a b (m ∷ ms) e h = absurd (none_further f g a b m ms e h)

    pub end_alike : (f g : S) → Ending old at s f → Ending old at s g → f ≡ g
    end_alike f g a b =
        elim (compare (units_in f a) (units_in g b) s (rest_in f a) (rest_in g b) (packets_in f a) (packets_in g b)) [
          | inl x ↦ alike_by f g a b x.more x.all x.packets
          | inr x ↦ sym (alike_by g f b a x.more x.all x.packets)
        ]

  -- octets that end it, and leave nothing to hold
  pub record Outcome (old : S) (at : ℕ) (s : List ℕ) (final : S) (left : List ℕ) : Type 0 where
    pub how : Ending old at s final
    pub nothing : left ≡ []

  -- ---- octets that do not end it

  pub record Lasts (old : S) (octets : List ℕ) : Type 0 where
    pub units : List (List ℕ)
    pub rest : List ℕ
    pub packets : ArePackets units octets rest
    pub partial : IsPartial rest
    pub lasts : t.ended (t.after units old) ≡ None

  -- the packets after others
  pub parts_of : (old : S) (s : List ℕ) (vs : List (List ℕ)) (r : List ℕ) (h : Lasts old s) → ArePackets vs s r →
      Further h.units vs r h.rest
  parts_of old s vs r h k = up_to_part h.units vs s h.rest r h.partial h.packets k

  -- the first of them do not end it either
  pub front_lasts : (old : S) (s : List ℕ) (vs : List (List ℕ)) (r : List ℕ) → Lasts old s → ArePackets vs s r →
      t.ended (t.after vs old) ≡ None
  front_lasts old s vs r h k = let x = parts_of old s vs r h k in lasts_front h.units vs x.more old x.all h.lasts

  pub ending_lasts : (old : S) (at : ℕ) (s : List ℕ) (final : S) → Lasts old s → Ending old at s final → ⊥
  ending_lasts old at s final h (inl a) = never _ a.over (front_lasts old s (a.before ++ a.last ∷ []) a.rest h a.packets)
  ending_lasts old at s final h (inr a) =
      let x = parts_of old s a.before a.rest h a.packets in
      no_fault _ x.more a.rest h.rest a.fault a.is h.partial x.packets

-- ---- octets that are read

-- the packets of the octets held and of these, and what is held then
pub record Reads (old : Held) (octets : List ℕ) (Does : List (List ℕ) → Type 0) (new : Held) : Type 0 where
  pub packets : List (List ℕ)
  pub cut : ArePackets packets (old.octets ++ octets) new.octets
  pub account : Does packets
  pub partial : IsPartial old.octets → IsPartial new.octets
  pub offset : old.offset < 2 ^ 64 → new.offset ≡ offset_of (old.offset + (length (old.octets ++ octets) - length new.octets))

pub reads_still : (old new : Held) (octets : List ℕ) (Does : List (List ℕ) → Type 0) → octets ≡ [] → new ≡ old → Does [] →
    Reads old octets Does new
reads_still old new octets Does none same does = grind (arith, length, length-append, append-nil)

pub reads_as : (old new : Held) (octets : List ℕ) (Does Says : List (List ℕ) → Type 0) → ((us : List (List ℕ)) → Does us → Says us) →
    Reads old octets Does new → Reads old octets Says new
reads_as old new octets Does Says says h = grind arith

pub reads_more : (old mid new : Held) (octets later : List ℕ) (Does Then All : List (List ℕ) → Type 0) → Reads old octets Does mid →
    Reads mid later Then new → ((us vs : List (List ℕ)) → Does us → Then vs → All (us ++ vs)) → Reads old (octets ++ later) All new
reads_more old mid new octets later Does Then All one more join =
    let left = packets_leave one.packets (old.octets ++ octets) mid.octets one.cut in
    let leaves = packets_leave more.packets (mid.octets ++ later) new.octets more.cut in
    let both = packets_joined one.packets more.packets (old.octets ++ octets) mid.octets later new.octets one.cut more.cut in
    grind (arith, append_assoc old.octets octets later, offsets_more, join)

-- ---- runs of calls

-- Calls, one after the other or alone, with the octets that they used. What they told and carried can be put back, which
-- no packet and no fault sees. A call after which it lasts has read its octets; after the end a call changes nothing.
pub record Runner {S : Type 0} (t : Taker S) (H C : Type 0) (Calls : H → C → H → Type 0) (Along : H → List C → H → Type 0) : Type 0 where
  pub held : H → Held
  pub seen : H → S
  pub used : C → List ℕ
  pub back : C → S → S
  pub back_all : List C → S → S
  pub first : (old new : H) → Along old [] new → new ≡ old
  pub next : (old : H) (call : C) (calls : List C) (new : H) → Along old (call ∷ calls) new →
      (mid : H) × Calls old call mid × Along mid calls new
  pub none : (s : S) → back_all [] s ≡ s
  pub more : (call : C) (calls : List C) (s : S) → back_all (call ∷ calls) s ≡ back call (back_all calls s)
  pub apart : (call : C) (us : List (List ℕ)) (s : S) → t.after us (back call s) ≡ back call (t.after us s)
  pub apart_fault : (call : C) (fault : TpktFault) (s : S) → t.faulted fault (back call s) ≡ back call (t.faulted fault s)
  pub apart_end : (call : C) (s : S) → t.ended (back call s) ≡ t.ended s
  pub reads : (old : H) (call : C) (new : H) → Calls old call new → t.ended (seen new) ≡ None →
      Reads (held old) (used call) (λ us. back call (seen new) ≡ t.after us (seen old)) (held new)
  pub stays : (old : H) (call : C) (new : H) → Calls old call new → is_some (t.ended (seen old)) ≡ true →
      (back call (seen new) ≡ seen old) × (held new ≡ held old)

module _ {S : Type 0} {t : Taker S} {H C : Type 0} {Calls : H → C → H → Type 0} {Along : H → List C → H → Type 0}
    (r : Runner t H C Calls Along) where
  -- ---- an end stays

  abbrev Over : H → Type 0
  Over x = is_some (t.ended (r.seen x)) ≡ true

  abbrev Alive : H → Type 0
  Alive x = t.ended (r.seen x) ≡ None

  over_or_alive : (x : H) → Over x ⊎ Alive x
  over_or_alive x = grind (arith, none_of)

  apart_ends : (calls : List C) (s : S) → t.ended (r.back_all calls s) ≡ t.ended s
  apart_ends [] s = ap t.ended (r.none s)
  apart_ends (call ∷ calls) s = ap t.ended (r.more call calls s) ∙ r.apart_end call (r.back_all calls s) ∙ apart_ends calls s

  pub stays_along : (old : H) (calls : List C) (new : H) → Along old calls new → Over old →
      (r.back_all calls (r.seen new) ≡ r.seen old) × (r.held new ≡ r.held old)
  stays_along old [] new h over = grind (arith, r.first old new h, r.none)
  stays_along old (call ∷ calls) new h over =
      let n = r.next old call calls new h in
      let one = r.stays old call n.0 n.1 over in
      grind (arith, r.apart_end, r.more, stays_along n.0 calls new n.2)

  pub over_along : (old : H) (calls : List C) (new : H) → Along old calls new → Over old → t.ended (r.seen new) ≡ t.ended (r.seen old)
  over_along old calls new h over = sym (apart_ends calls (r.seen new)) ∙ ap t.ended (stays_along old calls new h over).0

  alive_before : (old : H) (calls : List C) (new : H) → Along old calls new → Alive new → Alive old
  alive_before old calls new h lasts = grind (arith, none_of, over_along old calls new h)

  -- ---- calls after which it lasts

  pub calls_read : (old : H) (calls : List C) (new : H) → Along old calls new → Alive new →
      Reads (r.held old) (flat_map r.used calls) (λ us. r.back_all calls (r.seen new) ≡ t.after us (r.seen old)) (r.held new)
  calls_read old [] new h lasts = grind (arith, reads_still, r.first old new h, r.none, t.nothing)
  calls_read old (call ∷ calls) new h lasts =
      let n = r.next old call calls new h in
      reads_more (r.held old) (r.held n.0) (r.held new) (r.used call) (flat_map r.used calls) _ _ _
      (r.reads old call n.0 n.1 (alive_before n.0 calls new n.2 lasts)) (calls_read n.0 calls new n.2 lasts)
      (λ us vs one more. r.more call calls (r.seen new) ∙ ap (r.back call) more ∙ sym (r.apart call vs (r.seen n.0))
      ∙ ap (t.after vs) one ∙ sym (t.joined us vs (r.seen old)))

  -- ---- calls that end it

  -- what packets did after a call
  behind : (old mid : H) (call : C) (vs more : List (List ℕ)) → r.back call (r.seen mid) ≡ t.after vs (r.seen old) →
      t.after (vs ++ more) (r.seen old) ≡ r.back call (t.after more (r.seen mid))
  behind old mid call vs more one = t.joined vs more (r.seen old) ∙ ap (t.after more) (sym one) ∙ r.apart call more (r.seen mid)

  abbrev ReadsOne : H → C → H → Type 0
  ReadsOne old call new = Reads (r.held old) (r.used call) (λ us. r.back call (r.seen new) ≡ t.after us (r.seen old)) (r.held new)

  -- the packets of a call, and those after it
  packets_behind : (old mid : H) (call : C) (one : ReadsOne old call mid) (later rest : List ℕ) (more : List (List ℕ)) →
      ArePackets more ((r.held mid).octets ++ later) rest →
      ArePackets (one.packets ++ more) ((r.held old).octets ++ (r.used call ++ later)) rest
  packets_behind old mid call one later rest more h =
      subst (λ l. ArePackets (one.packets ++ more) l rest) (append_assoc (r.held old).octets (r.used call) later)
      (packets_joined one.packets more ((r.held old).octets ++ r.used call) (r.held mid).octets later rest one.cut h)

  ending_more : (old mid : H) (call : C) (later : List ℕ) (final : S) → ReadsOne old call mid → (r.held old).offset < 2 ^ 64 →
      Ending t (r.seen mid) (r.held mid).offset ((r.held mid).octets ++ later) final →
      Ending t (r.seen old) (r.held old).offset ((r.held old).octets ++ (r.used call ++ later)) (r.back call final)
  ending_more old mid call later final one bound (inl a) =
      let us = a.before ++ a.last ∷ [] in
      let first = behind old mid call one.packets a.before one.account in
      let all = behind old mid call one.packets us one.account in
      let packets = packets_behind old mid call one later a.rest us a.packets in
      grind (arith, append_assoc one.packets a.before (a.last ∷ []), r.apart_end)
  ending_more old mid call later final one bound (inr a) =
      let all = behind old mid call one.packets a.before one.account in
      let place = offsets_more (r.held old).offset (r.held mid).offset (r.held old).octets (r.used call) (r.held mid).octets later a.rest
      (one.offset bound) (packets_leave one.packets ((r.held old).octets ++ r.used call) (r.held mid).octets one.cut)
      (packets_leave a.before ((r.held mid).octets ++ later) a.rest a.packets) in
      let packets = packets_behind old mid call one later a.rest a.before a.packets in
      grind (arith, r.apart_end, r.apart_fault)

  -- what is left of octets that do not end it
  lasts_on : (old mid : H) (call : C) (later : List ℕ) → ReadsOne old call mid →
      Lasts t (r.seen old) ((r.held old).octets ++ (r.used call ++ later)) → Lasts t (r.seen mid) ((r.held mid).octets ++ later)
  lasts_on old mid call later one h =
      let left = (r.held mid).octets ++ later in
      let front = packets_behind old mid call one later left [] refl in
      let x = parts_of t (r.seen old) ((r.held old).octets ++ (r.used call ++ later)) one.packets left h
      (subst (λ l. ArePackets l ((r.held old).octets ++ (r.used call ++ later)) left) (append-nil one.packets) front) in
      grind (arith, behind old mid call one.packets x.more one.account, r.apart_end)

  -- A statement about the octets that end it is true of all calls, if it is true of the one that does, and so before each
  -- that does not.
  pub ends_along : (Out : S → Held → List ℕ → S → Held → Type 0) →
      ((old mid : H) (call : C) (later : List ℕ) (final : S) (new : Held) → ReadsOne old call mid →
      Out (r.seen mid) (r.held mid) ((r.held mid).octets ++ later) final new →
      Out (r.seen old) (r.held old) ((r.held old).octets ++ (r.used call ++ later)) (r.back call final) new) →
      ((old : H) (call : C) (new : H) (later : List ℕ) → Calls old call new → Alive old → Over new →
      Out (r.seen old) (r.held old) ((r.held old).octets ++ (r.used call ++ later)) (r.back call (r.seen new)) (r.held new)) →
      (old : H) (calls : List C) (new : H) → Along old calls new → Alive old → Over new →
      Out (r.seen old) (r.held old) ((r.held old).octets ++ flat_map r.used calls) (r.back_all calls (r.seen new)) (r.held new)
  ends_along Out more ends old [] new h alive over = never t (r.seen new) over (ap (λ x. t.ended (r.seen x)) (r.first old new h) ∙ alive)
  ends_along Out more ends old (call ∷ calls) new h alive over =
      let n = r.next old call calls new h in
      let later = flat_map r.used calls in
      let Then : S → Held → Type 0 = Out (r.seen old) (r.held old) ((r.held old).octets ++ (r.used call ++ later)) in
      subst (λ f. Then f (r.held new)) (sym (r.more call calls (r.seen new))) (elim (over_or_alive n.0) [
        | inl e ↦
            let still = stays_along n.0 calls new n.2 e in
            subst (λ f. Then (r.back call f) (r.held new)) (sym still.0)
            (subst (Then (r.back call (r.seen n.0))) (sym still.1) (ends old call n.0 later n.1 alive e))
        | inr lasts ↦
            more old n.0 call later (r.back_all calls (r.seen new)) (r.held new) (r.reads old call n.0 n.1 lasts)
            (ends_along Out more ends n.0 calls new n.2 lasts over)
      ])

  -- ---- two lists of calls with the same octets

  pub lasts_read : (old : H) (calls : List C) (new : H) → IsPartial (r.held old).octets → Along old calls new → Alive new →
      Lasts t (r.seen old) ((r.held old).octets ++ flat_map r.used calls)
  lasts_read old calls new partial h lasts = grind (arith, calls_read old calls new h lasts, apart_ends calls (r.seen new))

  -- a call that ends it though its octets do not has no memory for them
  abbrev pub Starves : (Option EndReason → Type 0) → Type 0
  Starves Full = (old : H) (call : C) (new : H) (later : List ℕ) → Calls old call new → Alive old → Over new →
      Lasts t (r.seen old) ((r.held old).octets ++ (r.used call ++ later)) → Full (t.ended (r.back call (r.seen new)))

  pub pieces_last : (Full : Option EndReason → Type 0) → Starves Full → (old a b : H) (xs ys : List C) → IsPartial (r.held old).octets →
      Alive old → Along old xs a → Along old ys b → flat_map r.used xs ≡ flat_map r.used ys → Alive a →
      Alive b ⊎ Full (t.ended (r.back_all ys (r.seen b)))
  pieces_last Full starves old a b xs ys partial quiet h k used lasts =
      let full = ends_along (λ s held octets final left. Lasts t s octets → Full (t.ended final))
      (λ old mid call later final new one full h. subst Full (sym (r.apart_end call final)) (full (lasts_on old mid call later one h)))
      starves old ys b k quiet in
      grind (arith, none_of, lasts_read old xs a partial h lasts)

  -- a call for which there is enough memory ends it as its octets do
  abbrev pub Finishes : (Option EndReason → Type 0) → Type 0
  Finishes Full = (old : H) (call : C) (new : H) (later : List ℕ) → Calls old call new → Alive old → Over new →
      Full (t.ended (r.back call (r.seen new))) ⊎ Outcome t (r.seen old) (r.held old).offset
      ((r.held old).octets ++ (r.used call ++ later)) (r.back call (r.seen new)) (r.held new).octets

  pub starves : (Full : Option EndReason → Type 0) → Finishes Full → Starves Full
  starves Full ends old call new later h alive over lasts = elim (ends old call new later h alive over) [
    | inl full ↦ full
    | inr out ↦ absurd (ending_lasts t (r.seen old) _ _ _ lasts out.how)
  ]

  pub outcome_along : (Full : Option EndReason → Type 0) → Finishes Full → (old : H) (calls : List C) (new : H) → Along old calls new →
      Alive old → (r.held old).offset < 2 ^ 64 → Over new →
      Full (t.ended (r.back_all calls (r.seen new))) ⊎ Outcome t (r.seen old) (r.held old).offset
      ((r.held old).octets ++ flat_map r.used calls) (r.back_all calls (r.seen new)) (r.held new).octets
  outcome_along Full ends old calls new h alive bound over =
      ends_along (λ s held octets final left. held.offset < 2 ^ 64 →
      Full (t.ended final) ⊎ Outcome t s held.offset octets final left.octets)
      (λ old mid call later final new one out small.
      let place = one.offset small in
      elim (out (omega arith)) [
        | inl full ↦ inl (subst Full (sym (r.apart_end call final)) full)
        | inr o ↦ inr (record { how = ending_more old mid call later final one small o.how; nothing = o.nothing })
      ])
      (λ old call new later h alive over small. ends old call new later h alive over) old calls new h alive over bound

  -- both ended, and hold nothing
  pub record EndAlike (a b : H) (xs ys : List C) : Type 0 where
    pub account : r.back_all xs (r.seen a) ≡ r.back_all ys (r.seen b)
    pub nothing : (r.held a).octets ≡ []
    pub nothing_too : (r.held b).octets ≡ []

  some_of : (o : Option EndReason) → (o ≡ None → ⊥) → is_some o ≡ true
  some_of o h = grind arith

  pub pieces_end : (Full : Option EndReason → Type 0) → Finishes Full → (old a b : H) (xs ys : List C) → IsPartial (r.held old).octets →
      (r.held old).offset < 2 ^ 64 → Alive old → Along old xs a → Along old ys b → flat_map r.used xs ≡ flat_map r.used ys →
      (Alive a → ⊥) → (Full (t.ended (r.back_all xs (r.seen a))) → ⊥) → (Full (t.ended (r.back_all ys (r.seen b))) → ⊥) →
      EndAlike a b xs ys
  pieces_end Full ends old a b xs ys partial bound quiet h k used ended full full_too =
      let first = outcome_along Full ends old xs a h quiet bound in
      let other = outcome_along Full ends old ys b k quiet bound in
      let lasts = lasts_read old ys b partial k in
      grind (arith, some_of, ending_lasts t (r.seen old) (r.held old).offset, end_alike t (r.seen old) (r.held old).offset)
