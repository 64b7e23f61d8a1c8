-- Rounds in which connections are requested whatever is pending: two runs in step reach the same state but for lines of
-- connections that are gone.
use Rattle.std.proofs.Common.{arith, ◌≡◌, ℕ, ◌<◌, ◌^◌, true, false, List, [], ◌++◌, None, refl, sym, ap, ◌∙◌}
use Rattle.osi_stack.proofs.Vocabulary.{flat_map, IsPartial, PacketLaws, OneCut, Tpkt, EndReason, Broken, Fault, Call as SessionCall}
use Rattle.osi_stack.proofs.Vocabulary.{called, Shown, breaks, connects, connect_error, call_error, after_packet, ends, to_session}
use Rattle.osi_stack.proofs.Vocabulary.{UserCall, user_does, Round, MayAsk, RoundsAsking, calls_of, AreInStep, connecting, calling}
use Rattle.osi_stack.proofs.Vocabulary.{disconnecting, breaking, disconnects, hushed, put_back, pruned, Account, account_of, CallsInRoom}
use Rattle.osi_stack.proofs.Vocabulary.{used_in, AreAlikeInLive, IsSettled, End, Holding, waits, Connect, EndCall as Call}
use Rattle.osi_stack.proofs.in_step.the_account_packet_by_packet.{made}
use Rattle.osi_stack.proofs.in_step.a_request_whatever_is_pending.{waits_asked, connects_pruned, connects_back}
use Rattle.osi_stack.proofs.carried.all_events_are_handled.{session_attended, connect_attended}
use Rattle.osi_stack.proofs.opening.who_waits_was_requested.{StillWaits, call_asked, connect_asked}
use Rattle.osi_stack.proofs.given_up.two_runs_stay_alike.{disconnect_alike}
use Rattle.osi_stack.proofs.given_up.the_invariant_stays.{disconnect_attended, disconnect_sound}
use Rattle.osi_stack.proofs.given_up.who_waits_was_still_requested.{disconnect_asked}
use Rattle.osi_stack.proofs.in_step.lines_that_are_gone_do_not_matter.{IsFit, fit_over, fit_hushed, fit_back, fit_packet, fit_still}
use Rattle.osi_stack.proofs.in_step.lines_that_are_gone_do_not_matter.{pruned_account, account_alike, none_waits, quieted_live}
use Rattle.osi_stack.proofs.carried.open_connections_stay_open.{SessionLaws}
use Rattle.osi_stack.proofs.carried.what_a_move_leaves.{says_is}
use Rattle.osi_stack.proofs.in_step.what_happens_to_live_connections.{is_live, reached, SameInLive, packet_alike, session_alike, ends_alike}
use Rattle.osi_stack.proofs.in_step.the_other_lines_may_be_dropped.{AreStill}
use Rattle.osi_stack.proofs.in_step.two_runs_reach_the_same_state.{Likeness, alike_at, account_called, are_first, rounds_alike, Same, after}
use Rattle.osi_stack.proofs.in_step.two_runs_reach_the_same_state.{begun}
use Rattle.osi_stack.proofs.sound.the_invariant_is_kept.{connect_sound, call_sound}
use Rattle.osi_stack.proofs.in_step.the_last_octets_of_two_runs.{whole_alike}

-- ---- accounts that are alike

pub record LikeInLive (x y : Account) : Type 0 where
  pub same : pruned_account x ≡ pruned_account y
  pub left : IsFit x.end
  pub right : IsFit y.end
  pub quiet : waits x.end.lines ≡ false
  pub quiet_too : waits y.end.lines ≡ false

ended_same : (x y : Account) → LikeInLive x y → x.end.carrier.ended ≡ y.end.carrier.ended
ended_same x y h = ap (λ (a : Account). a.end.carrier.ended) h.same

-- ---- what acts on both

-- what happens to an end, if this holds of it, does the same without the lines of connections that are gone
record ActsInLive (act : End → End) (May : End → Type 0) : Type 0 where
  same : (e : End) → May e → e.carrier.ended ≡ None → IsFit e → AreStill (reached e.carrier) e.lines → SameInLive (act (pruned e)) (act e)
  fits : (e : End) → May e → e.carrier.ended ≡ None → IsFit e → IsFit (act e)

-- what that makes of an account
abbrev acted : (End → End) → Account → Account
acted act z = account_of z.told [] (act z.end)

one_acted : (act : End → End) (May : End → Type 0) → ActsInLive act May → (z : Account) → May z.end → z.end.carrier.ended ≡ None →
    IsFit z.end → waits z.end.lines ≡ false → pruned_account (acted act z) ≡ pruned_account (acted act (pruned_account z))
one_acted act May a z may lasts f quiet =
    sym (account_alike z.told [] (act (pruned z.end)) (act z.end) (a.same z.end may lasts f (fit_still z.end lasts f quiet)))

like_acted : (act : End → End) (May : End → Type 0) → ActsInLive act May → (x y : Account) → May x.end → May y.end →
    x.end.carrier.ended ≡ None → LikeInLive x y → LikeInLive (acted act x) (acted act y)
like_acted act May a x y may might lasts h =
    let still = sym (ended_same x y h) ∙ lasts in
    search (
      one_acted act May a x may lasts h.left h.quiet ∙ ap (λ (z : Account). pruned_account (acted act z)) h.same ∙
          sym (one_acted act May a y might still h.right h.quiet_too),
      fit_hushed [] (act x.end) (a.fits x.end may lasts h.left),
      fit_hushed [] (act y.end) (a.fits y.end might still h.right),
      none_waits (act x.end).lines,
      none_waits (act y.end).lines,
    )

like_both : (act : End → End) (May : End → Type 0) → ActsInLive act May →
    (t : List (ℕ × Shown)) (o : List ℕ) (a : End) (u : List (ℕ × Shown)) (p : List ℕ) (b : End) →
    account_of t o (act a) ≡ acted act (account_of t o a) → account_of u p (act b) ≡ acted act (account_of u p b) →
    May (account_of t o a).end → May (account_of u p b).end → a.carrier.ended ≡ None →
    LikeInLive (account_of t o a) (account_of u p b) → LikeInLive (account_of t o (act a)) (account_of u p (act b))
like_both act May acts t o a u p b one two may might lasts h =
    alike_at LikeInLive (account_of t o (act a)) (account_of u p (act b)) (acted act (account_of t o a)) (acted act (account_of u p b))
    one two (like_acted act May acts (account_of t o a) (account_of u p b) may might lasts h)

abbrev Any : End → Type 0
Any e = Unit {0}

packet_acts : SessionLaws → StillWaits → (unit : List ℕ) → ActsInLive (λ e. after_packet e unit) Any
packet_acts laws law unit = record {
  same = λ e may lasts f still. packet_alike e unit (f.sound lasts).orderly (f.attended lasts) (f.sound lasts).known still;
  fits = λ e may lasts f. fit_packet laws law unit e lasts f;
}

end_acts : (reason : EndReason) → ActsInLive (ends reason) Any
end_acts reason = record {
  same = λ e may lasts f still. ends_alike reason e (f.sound lasts).known still;
  fits = λ e may lasts f. fit_over (ends reason e) refl;
}

break_acts : ActsInLive breaks Any
break_acts = record {
  same = λ e may lasts f still. grind (arith, ends_alike Broken e (f.sound lasts).known still);
  fits = λ e may lasts f. grind (arith, fit_over);
}

-- a call is accepted by a session whose connection is live
accepted_live : (r : ℕ) (call : SessionCall) (e : End) → call_error r call e ≡ None → is_live e.carrier r ≡ true
accepted_live r call e h = let says = says_is r call e h in grind arith

call_acts : SessionLaws → StillWaits → (r : ℕ) (call : SessionCall) →
    ActsInLive (to_session r (called call)) (λ e. is_live e.carrier r ≡ true)
call_acts laws law r call = record {
  same = λ e may lasts f still. session_alike r (called call) e may (f.sound lasts).known still;
  fits = λ e may lasts f. grind (arith, session_attended, call_sound, call_asked);
}

disconnect_acts : (r : ℕ) → ActsInLive (disconnects r) Any
disconnect_acts r = record {
  same = λ e may lasts f still. disconnect_alike r e (f.sound lasts).known still;
  fits = λ e may lasts f. grind (arith, disconnect_attended, disconnect_sound, disconnect_asked);
}

-- ---- a connection is requested

-- what that makes of an account
abbrev asked_of : Connect → Account → Account
asked_of c z = record { end = pruned (connects c z.end); told = z.told }

one_asked : (t : List (ℕ × Shown)) (o : List ℕ) (c : Connect) (e : End) → e.carrier.ended ≡ None → IsFit (put_back o (hushed e)) →
    pruned_account (account_of t o (connects c e)) ≡ asked_of c (pruned_account (account_of t o e))
one_asked t o c e lasts f =
    let s = f.sound lasts in
    grind (
      arith,
      made,
      quieted_live,
      connects_back o c e,
      connects_pruned c (put_back o (hushed e)) s.orderly.up_to s.known,
      waits_asked c e,
    )

fit_connect : (c : Connect) (e : End) → connect_error c e ≡ None → IsFit e → IsFit (connects c e)
fit_connect c e allowed f = search (connect_attended c e f.attended, connect_sound c e allowed f.sound, connect_asked c e f.sound f.asks)

like_asked : (t : List (ℕ × Shown)) (o : List ℕ) (a : End) (u : List (ℕ × Shown)) (p : List ℕ) (b : End) (c : Connect) →
    a.carrier.ended ≡ None → connect_error c a ≡ None → connect_error c b ≡ None →
    LikeInLive (account_of t o a) (account_of u p b) → LikeInLive (account_of t o (connects c a)) (account_of u p (connects c b))
like_asked t o a u p b c lasts may might h =
    search (
      one_asked t o c a lasts h.left ∙ ap (asked_of c) h.same ∙
          sym (one_asked u p c b (sym (ended_same (account_of t o a) (account_of u p b) h) ∙ lasts) h.right),
      fit_hushed o (connects c a) (fit_connect c a may (fit_back o a h.left)),
      fit_hushed p (connects c b) (fit_connect c b might (fit_back p b h.right)),
      none_waits (connects c a).lines,
      none_waits (connects c b).lines,
    )

-- ---- a call of the user

like_user : SessionLaws → StillWaits →
    (t : List (ℕ × Shown)) (o : List ℕ) (a : End) (u : List (ℕ × Shown)) (p : List ℕ) (b : End) (call : UserCall) → a.carrier.ended ≡ None →
    MayAsk call a → MayAsk call b →
    LikeInLive (account_of t o a) (account_of u p b) → LikeInLive (account_of t o (user_does call a)) (account_of u p (user_does call b))
like_user laws law t o a u p b (connecting c) lasts may might h = like_asked t o a u p b c lasts may might h
like_user laws law t o a u p b (calling r call) lasts may might h =
    like_both (to_session r (called call)) (λ e. is_live e.carrier r ≡ true) (call_acts laws law r call) t o a u p b
    (account_called t o (calling r call) a may) (account_called u p (calling r call) b might) (accepted_live r call a may)
    (accepted_live r call b might) lasts h
like_user laws law t o a u p b (disconnecting r) lasts may might h =
    like_both (disconnects r) Any (disconnect_acts r) t o a u p b (account_called t o (disconnecting r) a may)
    (account_called u p (disconnecting r) b might) tt tt lasts h
like_user laws law t o a u p b breaking lasts may might h =
    like_both breaks Any break_acts t o a u p b (account_called t o breaking a may) (account_called u p breaking b might) tt tt lasts h

pub in_live : SessionLaws → StillWaits → Likeness MayAsk LikeInLive
in_live laws law = record {
  packet = λ x y unit lasts h. like_acted (λ e. after_packet e unit) Any (packet_acts laws law unit) x y tt tt lasts h;
  fault = λ x y fault lasts h. like_acted (ends (Fault (Tpkt fault))) Any (end_acts (Fault (Tpkt fault))) x y tt tt lasts h;
  call = like_user laws law;
  ended = ended_same;
  turned = λ x y h. record { same = sym h.same; left = h.right; right = h.left; quiet = h.quiet_too; quiet_too = h.quiet };
}

-- ---- rounds

alike_after : (old a b : Holding) (xs ys : List Call) → Same LikeInLive (after (begun old) xs a) (after (begun old) ys b) →
    AreAlikeInLive a xs b ys
alike_after old a b xs ys h = grind (arith, made, quieted_live)

pub asking_alike : SessionLaws → StillWaits → IsPartial [] → OneCut → (old a b : Holding) (xs ys : List Round) → IsSettled old.end →
    IsPartial old.held.octets → old.held.offset < 2 ^ 64 →
    RoundsAsking old xs a → RoundsAsking old ys b → AreInStep xs ys → AreAlikeInLive a (calls_of xs) b (calls_of ys)
asking_alike laws law nothing one_cut old a b xs ys s partial bound h k step =
    alike_after old a b (calls_of xs) (calls_of ys)
    (rounds_alike MayAsk LikeInLive (in_live laws law) nothing one_cut (begun old) (begun old) xs ys a b
    (are_first LikeInLive old partial bound (search (arith, fit_hushed, none_waits))) h k step).same

pub whole_asking_alike : SessionLaws → StillWaits → PacketLaws → IsPartial [] → OneCut →
    (old c d a b : Holding) (xs ys : List Round) (zs ws : List Call) → IsSettled old.end → IsPartial old.held.octets →
    old.held.offset < 2 ^ 64 → RoundsAsking old xs c → RoundsAsking old ys d → AreInStep xs ys → CallsInRoom c zs a → CallsInRoom d ws b →
    flat_map used_in zs ≡ flat_map used_in ws →
    AreAlikeInLive a (calls_of xs ++ zs) b (calls_of ys ++ ws)
whole_asking_alike laws law packets nothing one_cut old c d a b xs ys zs ws s partial bound h k step m n used =
    let first : LikeInLive (account_of [] [] old.end) (account_of [] [] old.end) = search (arith, fit_hushed, none_waits) in
    alike_after old a b (calls_of xs ++ zs) (calls_of ys ++ ws)
    (whole_alike MayAsk LikeInLive (in_live laws law) packets nothing one_cut old c d a b xs ys zs ws partial bound first h k step m n used)
