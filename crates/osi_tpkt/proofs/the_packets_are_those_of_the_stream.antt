-- Over every run of calls, a cutter's packets are those of the stream that was used.
use Rattle.std.proofs.Common.{◌≡◌, ℕ, ◌+◌, ◌-◌, ◌≤◌, inl, inr, List, [], ◌∷◌, ◌++◌, length, refl, sym, ◌∙◌, ap, subst, arith, Some, None}
use Rattle.std.proofs.Common.{Result, Ok, Err, Contains}
use Rattle.std.proofs.lemmas.List.Concat.{flat_map-append}
use Rattle.std.proofs.lemmas.List.Elements.{Contains-append_left, Contains-append_right}
use Rattle.osi_tpkt.proofs.Vocabulary.{append_assoc, append-nil, length-append, none-some, IsPacket, IsPartial, IsFaultOf, ArePackets, Held}
use Rattle.osi_tpkt.proofs.Vocabulary.{IsHolding, fresh, TakesPiece, Feeds, CutterCall, used_by, stream_of, CutterStep, CutterRun}
use Rattle.osi_tpkt.proofs.Vocabulary.{CutterReads, CutterReadsOn, Feed, Advance, TpktFault, BadVersion, BadLength, OutOfMemory, Fed}
use Rattle.osi_tpkt.proofs.a_prefix_of_a_packet.{empty_partial}
use Rattle.osi_tpkt.proofs.what_a_cutter_holds.{none_or_some, feeds_sound}

packets-append : (us : List (List ℕ)) (s r more : List ℕ) → ArePackets us s r → ArePackets us (s ++ more) (r ++ more)
packets-append [] s r more h = ap (λ x. x ++ more) h
packets-append (u ∷ us) s r more h = search (arith, append_assoc, packets-append us h.1 r more h.4)

packets-push : (us : List (List ℕ)) (s r u : List ℕ) → ArePackets us s r → IsPacket u r → ArePackets (us ++ u ∷ []) s []
packets-push [] s r u h p = (r, [], p, h ∙ sym (append-nil r), refl)
packets-push (v ∷ us) s r u h p = (h.0, h.1, h.2, h.3, packets-push us h.1 r u h.4 p)

packets_rest : (us : List (List ℕ)) (s r : List ℕ) → ArePackets us s r → length r ≤ length s
packets_rest [] s r h = let e = ap length h in omega arith
packets_rest (u ∷ us) s r h = grind (arith, length-append, packets_rest us h.1 r h.4)

-- two runs of packets that follow one another are one
pub packets_joined : (us vs : List (List ℕ)) (s m t r : List ℕ) → ArePackets us s m → ArePackets vs (m ++ t) r →
    ArePackets (us ++ vs) (s ++ t) r
packets_joined [] vs s m t r h k = subst (λ x. ArePackets vs (x ++ t) r) (sym h) k
packets_joined (u ∷ us) vs s m t r h k = search (arith, append_assoc, packets_joined us vs h.1 m t r h.4 k)

pub packets_parted : (us vs : List (List ℕ)) (s r : List ℕ) → ArePackets (us ++ vs) s r →
    (m : List ℕ) × ArePackets us s m × ArePackets vs m r
packets_parted [] vs s r h = (s, refl, h)
packets_parted (u ∷ us) vs s r h = let more = packets_parted us vs h.1 r h.4 in (more.0, (h.0, h.1, h.2, h.3, more.1), more.2)

used-none : (held : List ℕ) (made : List CutterCall) (call : CutterCall) → used_by call ≡ [] →
    held ++ stream_of (made ++ call ∷ []) ≡ held ++ stream_of made
used-none held made call none = grind (arith, flat_map-append, append-nil, append_assoc)

-- a call that uses nothing and changes nothing
unchanged : (start : Held) (made : List CutterCall) (us : List (List ℕ)) (old new : Held) (call : CutterCall) → used_by call ≡ [] →
    new ≡ old →
    CutterReadsOn start made us old → CutterReadsOn start (made ++ call ∷ []) us new
unchanged start made us old new call none same k = grind (arith, used-none, Contains-append_left)

-- a piece of which the first octets were taken
taken : (start : Held) (made : List CutterCall) (us : List (List ℕ)) (old new : Held) (piece : List ℕ) (fed : Fed) → old.fault ≡ None →
    Feeds old piece (Ok fed) new → TakesPiece old piece (Ok fed) new → CutterReadsOn start made us old →
    CutterReadsOn start (made ++ Feed piece (Ok fed) ∷ []) us new
taken start made us old new piece fed unfaulted h t k =
    grind (
      arith,
      length-append,
      packets-append,
      flat_map-append,
      append-nil,
      append_assoc start.octets (stream_of made) (used_by (Feed piece (Ok fed))),
      feeds_sound old piece (Ok fed) new k.sound h,
    )

-- a fault that is kept
refused : (start : Held) (made : List CutterCall) (us : List (List ℕ)) (old new : Held) (piece : List ℕ) (g : TpktFault) →
    IsPartial old.octets →
    IsFaultOf old.offset (old.octets ++ piece) g → new ≡ record old { fault = Some g } → CutterReadsOn start made us old →
    CutterReadsOn start (made ++ Feed piece (Err g) ∷ []) us new
refused start made us old new piece g partial fault same k =
    let stream = used-none start.octets made (Feed piece (Err g)) refl in
    let last : Contains (made ++ Feed piece (Err g) ∷ []) (Feed piece (Err g)) =
    Contains-append_right made (Feed piece (Err g) ∷ []) (Feed piece (Err g)) (0, omega arith, refl) in
    grind arith

-- a piece that was fed while no packet was ready and no fault was returned
fed : (start : Held) (made : List CutterCall) (us : List (List ℕ)) (old new : Held) (piece : List ℕ) (result : Result Fed TpktFault) →
    old.fault ≡ None → IsPartial old.octets → Feeds old piece result new → TakesPiece old piece result new →
    CutterReadsOn start made us old →
    CutterReadsOn start (made ++ Feed piece result ∷ []) us new
fed start made us old new piece (Ok f) unfaulted partial h t k = taken start made us old new piece f unfaulted h t k
fed start made us old new piece (Err (BadVersion at)) unfaulted partial h t k = search (arith, refused)
fed start made us old new piece (Err (BadLength at)) unfaulted partial h t k = search (arith, refused)
fed start made us old new piece (Err OutOfMemory) unfaulted partial h t k = grind (arith, unchanged)

feeding : (start : Held) (made : List CutterCall) (us : List (List ℕ)) (old new : Held) (piece : List ℕ) (result : Result Fed TpktFault) →
    Feeds old piece result new → CutterReadsOn start made us old → CutterReadsOn start (made ++ Feed piece result ∷ []) us new
feeding start made us old new piece result h k = elim (none_or_some old.fault) [
  | inr faulty ↦ grind (arith, unchanged)
  | inl unfaulted ↦ elim k.sound.octets [
    | inl partial ↦ fed start made us old new piece result unfaulted partial h (h.taken unfaulted partial) k
    | inr whole ↦ grind (arith, unchanged, h.standing whole.0)
  ]
]

stepping : (start : Held) (made : List CutterCall) (us : List (List ℕ)) (old : Held) (call : CutterCall) (given : List (List ℕ))
    (new : Held) →
    CutterStep old call given new → CutterReadsOn start made us old → CutterReadsOn start (made ++ call ∷ []) (us ++ given) new
stepping start made us old (Feed piece result) given new h k =
    grind (arith, append-nil us, feeding start made us old new piece result h.0 k)
stepping start made us old Advance given new h k = elim h.1 [
  | inl packet ↦
      grind (arith, packets_rest, packets-push, empty_partial, used-none start.octets made Advance refl, h.0.whole packet.0 packet.1)
  | inr partial ↦ grind (arith, append-nil, unchanged)
]

running : (start : Held) (calls made : List CutterCall) (us units : List (List ℕ)) (old new : Held) → CutterRun old calls units new →
    CutterReadsOn start made us old → CutterReadsOn start (made ++ calls) (us ++ units) new
running start [] made us units old new h k = grind (arith, append-nil)
running start (call ∷ calls) made us units old new h k =
    let step = stepping start made us old call h.1 h.0 h.3 k in
    grind (arith, append_assoc, running start calls (made ++ call ∷ []) (us ++ h.1) h.2 h.0 new h.4 step)

-- whatever a cutter holds
pub any_run_on : (old new : Held) (calls : List CutterCall) (units : List (List ℕ)) → IsHolding old → CutterRun old calls units new →
    CutterReadsOn old calls units new
any_run_on old new calls units h run = running old calls [] [] units old new run (grind (arith, append-nil))

pub any_run : (calls : List CutterCall) (units : List (List ℕ)) (held : Held) → CutterRun fresh calls units held →
    CutterReads calls units held
any_run calls units held h =
    let k = any_run_on fresh held calls units (grind (arith, empty_partial)) h in
    let s : List ℕ = stream_of calls in
    record {
      partial = λ p. (held.octets, k.packets, (p, refl));
      standing = λ u p. ([], packets-push units s held.octets u k.packets p, (empty_partial, refl));
      faulty = λ f e. elim (k.faulty f e) [
        | inl before ↦ absurd (none-some f before)
        | inr kept ↦
            let piece : List ℕ = kept.0 in
            grind (arith, length-append s piece, length-append held.octets piece, packets-append units s held.octets piece k.packets)
      ];
    }

-- two runs of calls, one after the other, are one run
pub runs_joined : (old mid new : Held) (calls more : List CutterCall) (us vs : List (List ℕ)) → CutterRun old calls us mid →
    CutterRun mid more vs new →
    CutterRun old (calls ++ more) (us ++ vs) new
runs_joined old mid new [] more us vs h k = grind arith
runs_joined old mid new (call ∷ calls) more us vs h k =
    (h.0, h.1, h.2 ++ vs, h.3, runs_joined h.0 mid new calls more h.2 vs h.4 k, ap (λ x. x ++ vs) h.5 ∙ append_assoc h.1 h.2 vs)
