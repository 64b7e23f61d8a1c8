-- What every cutter holds, and what its calls do to it.
use Rattle.std.proofs.Common.{◌≡◌, ℕ, ◌+◌, ◌-◌, ◌<◌, ◌≤◌, ◌^◌, ◌∷◌, ◌⊎◌, inl, inr, List, [], ◌++◌, length, take, drop}
use Rattle.std.proofs.Common.{refl, sym, ap, ◌∙◌, subst, arith, Bool, true, false, Option, Some, None, Result, Ok, Err, IfOk, MatchBool}
use Rattle.osi_tpkt.specs.declared.cutting.Progress.{Progress}
use Rattle.osi_tpkt.specs.declared.cutting.Progress.TheVariants.{Awaited, Partial, Stopped}
use Rattle.osi_tpkt.specs.declared.cutting.Stop.TheVariants.{Whole}
use Rattle.osi_tpkt.proofs.Vocabulary.{none-some, IsOnePacket, IsPartial, IsFaultOf, IsFront, IsFull, IsUnfinished, Held, IsHolding, Gains}
use Rattle.osi_tpkt.proofs.Vocabulary.{TakesPiece, Feeds, Passes, Advances, CutterRun, Feed, Advance, fault_of, FitsProgress, IsKept}
use Rattle.osi_tpkt.proofs.Vocabulary.{append-nil, IsPacket, TpktFault, BadVersion, BadLength, OutOfMemory, Fed}
use Rattle.osi_tpkt.proofs.a_prefix_of_a_packet.{short_partial, full_packet, partial_not_whole, belonging_some, belonging_no_fault}
use Rattle.osi_tpkt.proofs.a_prefix_of_a_packet.{surveyed, one_fault, front_packet, holding, empty_partial}

-- the same of its value
pub kept_sound : (offset : ℕ) (octets : List ℕ) (progress : Progress) (room : ℕ) (now : Held) → IsKept offset octets progress →
    holding offset (fault_of offset progress) octets room ≡ now → IsHolding now
kept_sound offset octets progress room now h same = subst IsHolding same (grind (arith, empty_partial, full_packet, short_partial))

-- a cutter that awaits a packet, or whose packet continues, has no fault
goes_on : (offset : ℕ) (octets : List ℕ) (progress : Progress) → (progress ≡ Awaited) ⊎ (progress ≡ Partial) →
    IsKept offset octets progress →
    (fault_of offset progress ≡ None) × IsPartial octets
goes_on offset octets progress (inl is) fits = grind (arith, empty_partial)
goes_on offset octets progress (inr is) fits =
    let front : IsFront octets × IsUnfinished octets × (0 < length octets) = subst (λ p. FitsProgress octets p) is fits.progress in
    (ap (λ p. fault_of offset p) is, short_partial octets front.0 front.1)

pub going_on : (offset : ℕ) (octets : List ℕ) (progress : Progress) (room : ℕ) (now : Held) → (progress ≡ Awaited) ⊎ (progress ≡ Partial) →
    IsKept offset octets progress →
    holding offset (fault_of offset progress) octets room ≡ now → (now.fault ≡ None) × IsPartial now.octets
going_on offset octets progress room now is fits same = grind (arith, goes_on)

-- a cutter that awaits a packet holds nothing
pub awaiting : (offset : ℕ) (octets : List ℕ) (progress : Progress) → progress ≡ Awaited → IsKept offset octets progress → octets ≡ []
awaiting offset octets progress is fits = subst (λ p. FitsProgress octets p) is fits.progress

-- if a piece was taken, it was fed
taken_used : (old : Held) (piece : List ℕ) (result : Result Fed TpktFault) (new : Held) → IsPartial old.octets →
    TakesPiece old piece result new →
    IfOk result (λ fed. fed.used ≤ length piece) × IfOk result (λ fed. fed.whole ≡ true → 0 < fed.used)
taken_used old piece result new partial t = grind (arith, belonging_some)

pub taken_feeds : (old : Held) (piece : List ℕ) (result : Result Fed TpktFault) (new : Held) → old.fault ≡ None → IsPartial old.octets →
    TakesPiece old piece result new → Feeds old piece result new
taken_feeds old piece result new unfaulted partial t = grind (arith, taken_used, partial_not_whole, none-some)

-- the unit of the packet that is ready, as it is sliced from the buffer
pub ready : (offset held room : ℕ) (items slice : List ℕ) (progress : Progress) (now : Held) → progress ≡ Stopped Whole →
    IsKept offset (take held items) progress → held ≤ length items → slice ≡ items →
    holding offset (fault_of offset progress) (take held items) room ≡ now → IsPacket (take (held - 4) (drop 4 slice)) now.octets
ready offset held room items slice progress now is kept within same view =
    let fits : IsFront (take held items) × IsFull (take held items) = subst (λ p. FitsProgress (take held items) p) is kept.progress in
    let packet = front_packet items held within fits.0 fits.1 in
    subst (λ (h : Held). IsPacket (take (held - 4) (drop 4 slice)) h.octets) view (rw same packet)

-- a cutter with a packet that is ready takes nothing
pub whole_feeds : (offset : ℕ) (octets : List ℕ) (progress : Progress) (room : ℕ) (old new : Held) (piece : List ℕ) →
    progress ≡ Stopped Whole → IsKept offset octets progress → holding offset (fault_of offset progress) octets room ≡ new → new ≡ old →
    Feeds old piece (Ok (record { used = 0; whole = true })) new
whole_feeds offset octets progress room old new piece is kept view same =
    let fits : IsFront octets × IsFull octets = subst (λ p. FitsProgress octets p) is kept.progress in
    let whole : IsOnePacket old.octets =
    subst (λ (h : Held). IsOnePacket h.octets) (view ∙ same) (drop 4 octets, full_packet octets fits.0 fits.1) in
    let unfaulted : old.fault ≡ None = sym (ap (λ (h : Held). h.fault) (view ∙ same)) ∙ ap (fault_of offset) is in
    let never : IsPartial old.octets → ⊥ = λ partial. partial_not_whole old.octets partial whole in
    grind (arith, never, none-some)

pub none_or_some : (o : Option TpktFault) → (o ≡ None) ⊎ ((f : TpktFault) × (o ≡ Some f))
none_or_some None = inl refl
none_or_some (Some f) = inr (f, refl)

stands : (P : Type 0) (whole : Bool) (octets : List ℕ) (fault : Option TpktFault) →
    MatchBool whole (IsOnePacket octets) (IsPartial octets × P) → fault ≡ None → IsPartial octets ⊎ (IsOnePacket octets × (fault ≡ None))
stands P true octets fault h e = inr (h, e)
stands P false octets fault h e = inl h.0

pub taken_sound : (old : Held) (piece : List ℕ) (result : Result Fed TpktFault) (new : Held) → IsHolding old → old.fault ≡ None →
    IsPartial old.octets →
    TakesPiece old piece result new → IsHolding new
taken_sound old piece (Ok fed) new h unfaulted partial t = grind (arith, stands)
taken_sound old piece (Err (BadVersion at)) new h unfaulted partial t = grind arith
taken_sound old piece (Err (BadLength at)) new h unfaulted partial t = grind arith
taken_sound old piece (Err OutOfMemory) new h unfaulted partial t = subst IsHolding (sym t.3) h

pub feeds_sound : (old : Held) (piece : List ℕ) (result : Result Fed TpktFault) (new : Held) → IsHolding old → Feeds old piece result new →
    IsHolding new
feeds_sound old piece result new h k = elim (none_or_some old.fault) [
  | inr faulty ↦ subst IsHolding (sym (k.again faulty.0 faulty.1).1) h
  | inl unfaulted ↦ elim h.octets [
    | inl partial ↦ taken_sound old piece result new h unfaulted partial (k.taken unfaulted partial)
    | inr whole ↦ subst IsHolding (sym (k.standing whole.0).1) h
  ]
]

-- a cutter that begins at an offset
pub begins : (at room : ℕ) (octets : List ℕ) → octets ≡ [] → at < 2 ^ 64 → IsHolding (holding at None octets room)
begins at room octets none fits = grind (arith, holding, empty_partial)

-- if a piece was refused, its fault was returned, and `OutOfMemory` is not kept
pub taken_refused : (old : Held) (piece : List ℕ) (result : Result Fed TpktFault) (new : Held) (f : TpktFault) →
    TakesPiece old piece result new →
    IsFaultOf old.offset (old.octets ++ piece) f → result ≡ Err f
taken_refused old piece result new f t fault = grind (arith, belonging_no_fault, one_fault)

pub taken_lasting : (old : Held) (piece : List ℕ) (result : Result Fed TpktFault) (new : Held) → old.fault ≡ None →
    TakesPiece old piece result new →
    new.fault ≡ Some OutOfMemory → ⊥
taken_lasting old piece result new unfaulted t e = grind (arith, none-some)

-- ---- what the storage holds

-- octets that were put after those held
pub gathered : (offset held used before after : ℕ) (fault : Option TpktFault) (old mid new part : List ℕ) → length part ≡ used →
    take (held + length part) new ≡ take held mid ++ part → take held mid ≡ take held old → fault ≡ None → before ≤ after →
    Gains (holding offset fault (take held old) before) part (holding offset None (take (held + used) new) after)
gathered offset held used before after fault old mid new part count put stays unfaulted more = grind (arith, holding)

-- a piece whose fault is kept, and one of which nothing belongs to the packet
pub faulted : (offset room : ℕ) (fault : Option TpktFault) (octets held piece : List ℕ) (f : TpktFault) (old : Held) → held ≡ octets →
    holding offset fault octets room ≡ old → IsFaultOf offset (held ++ piece) f →
    IsFaultOf old.offset (old.octets ++ piece) f × (holding offset (Some f) octets room ≡ record old { fault = Some f })
faulted offset room fault octets held piece f old same view bad = (
  subst (λ (h : Held). IsFaultOf h.offset (h.octets ++ piece) f) view (subst (λ x. IsFaultOf offset (x ++ piece) f) same bad),
  ap (λ (h : Held). record h { fault = Some f }) view,
)

pub none_gained : (old : Held) (n : ℕ) (piece : List ℕ) → n ≡ 0 → Gains old (take n piece) old
none_gained old n piece none = grind (arith, append-nil)

-- a complete packet at the front of a piece, put where one was awaited
pub taken_whole : (offset used before after : ℕ) (octets piece items : List ℕ) (progress : Progress) (now : Held) → progress ≡ Awaited →
    IsKept offset octets progress →
    holding offset (fault_of offset progress) octets before ≡ now → used ≤ length piece → IsFront (take used piece) →
    IsFull (take used piece) →
    take used items ≡ take used piece → after ≡ before →
    TakesPiece now piece (Ok (record { used = used; whole = true })) (holding offset None (take used items) after)
taken_whole offset used before after octets piece items progress now is kept same within front full put room =
    let none : octets ≡ [] = awaiting offset octets progress is kept in
    subst (λ h. TakesPiece h piece (Ok (record { used = used; whole = true })) (holding offset None (take used items) after)) same (
      surveyed [] octets piece (record { used = used; whole = true }) (sym none) within front full,
      grind (arith, holding),
    )

-- ---- a packet that is taken without a copy

pub passed_sound : (offset sum room : ℕ) (octets : List ℕ) (progress : Progress) → progress ≡ Awaited → IsKept offset octets progress →
    sum < 2 ^ 64 →
    IsHolding (holding sum (fault_of sum progress) octets room)
passed_sound offset sum room octets progress is kept fits =
    grind (arith, begins sum room octets (awaiting offset octets progress is kept) fits)

passing_advances : (old new : Held) (unit piece : List ℕ) → Passes old unit piece new →
    Advances (record old { octets = take (4 + length unit) piece }) new
passing_advances old new unit piece p =
    record {
      whole = grind (arith, holding);
      partial = λ h. absurd (partial_not_whole (take (4 + length unit) piece) h (unit, p.packet));
    }

-- a packet that is taken without a copy is one that is fed and then dropped
pub passing_runs : (old new : Held) (unit piece : List ℕ) → Passes old unit piece new →
    CutterRun old (Feed piece (Ok (record { used = 4 + length unit; whole = true })) ∷ Advance ∷ []) (unit ∷ []) new
passing_runs old new unit piece p = (
  record old { octets = take (4 + length unit) piece },
  [],
  unit ∷ [],
  (grind (arith, taken_feeds, empty_partial, holding), refl),
  (new, unit ∷ [], [], (passing_advances old new unit piece p, inl (unit, p.packet, refl)), (refl, refl), refl),
  refl,
)
