-- The last octets of two runs, also if they end them.
use Rattle.std.proofs.Common.{arith, ◌≡◌, ℕ, ◌<◌, ◌^◌, Bool, true, false, List, [], ◌∷◌, ◌++◌, None, is_some, inl, inr, refl, sym, subst}
use Rattle.std.proofs.Common.{◌∙◌, append_assoc}
use Rattle.osi_stack.proofs.Vocabulary.{MayCall, flat_map, IsPartial, PacketLaws, OneCut, UserCall, Round, RoundsAlong, RoundsBy, calls_of}
use Rattle.osi_stack.proofs.Vocabulary.{AreInStep, Account, account_of, with_packets, CallsInRoom, used_in, told_in, carried_in}
use Rattle.osi_stack.proofs.Vocabulary.{account_along, AreAlike, End, Holding, none_of, EndCall as Call, flat_map-append}
use Rattle.osi_stack.proofs.in_step.the_account_packet_by_packet.{after_more, account_joined, packets_apart, with_joined}
use Rattle.osi_stack.proofs.stream.an_end_is_what_its_packets_make.{faulted}
use Rattle.osi_stack.proofs.stream.how_calls_end_an_end.{Ending, end_alike, Lasts, ending_lasts, ending_apart, Outcome, outcome_along}
use Rattle.osi_stack.proofs.stream.how_calls_end_an_end.{stays_along, in_room, reads_lasts}
use Rattle.osi_stack.proofs.in_step.two_runs_reach_the_same_state.{Likeness, alike_at, packets_alike, Same, Are, calls_alike, Course}
use Rattle.osi_stack.proofs.in_step.two_runs_reach_the_same_state.{account_in, after, begun, same_alike, are_first, rounds_alike, exactly}

-- accounts that are alike
module _ (May : UserCall → End → Type 0) (Like : Account → Account → Type 0) (l : Likeness May Like) where
  -- ---- both had ended

  account_stays : (x : Course) (calls : List Call) (new : Holding) → account_along calls new.end ≡ account_of [] [] x.now.end →
      account_in (after x calls new) ≡ account_in x
  account_stays x calls new h = grind (arith, account_joined, after_more)

  stay_alike : (x y : Course) (xs ys : List Call) (c d : Holding) → Same Like x y → is_some x.now.end.carrier.ended ≡ true →
      CallsInRoom x.now xs c → CallsInRoom y.now ys d → Same Like (after x xs c) (after y ys d)
  stay_alike x y xs ys c d same over h k = grind (arith, alike_at, account_stays, stays_along, in_room)

  -- ---- the octets end both

  -- what ends an account ends one that is like it
  record EndsAlike (y : Account) (at : ℕ) (s : List ℕ) (f : Account) : Type 0 where
    final : Account
    how : Ending y at s final
    alike : Like f final

  ending_alike : (x y : Account) (at : ℕ) (s : List ℕ) (f : Account) → Like x y → Ending x at s f → EndsAlike y at s f
  ending_alike x y at s f like (inl a) =
      let us = a.before ++ a.last ∷ [] in
      let front = packets_alike May Like l a.before x y a.lasts like in
      let behind : Like (with_packets us x) (with_packets us y) =
      grind (arith, alike_at, with_joined a.before (a.last ∷ []) x, with_joined a.before (a.last ∷ []) y) in
      record {
        final = with_packets us y;
        how = grind arith;
        alike = alike_at Like f (with_packets us y) (with_packets us x) (with_packets us y) a.account refl behind;
      }
  ending_alike x y at s f like (inr a) =
      let there = with_packets a.before y in
      let front = packets_alike May Like l a.before x y a.lasts like in
      record {
        final = faulted a.fault there;
        how = inr (grind arith);
        alike = grind (arith, alike_at, faulted);
      }

  -- what these calls did to the octets
  abbrev DoneBy : Holding → List Call → Holding → Type 0
  DoneBy old calls new = Outcome old (old.held.octets ++ flat_map used_in calls) (account_along calls new.end) new.held.octets

  end_same : PacketLaws → (x y : Course) (xs ys : List Call) (c d : Holding) → Are Like x y →
      flat_map used_in xs ≡ flat_map used_in ys → DoneBy x.now xs c → DoneBy y.now ys d → Same Like (after x xs c) (after y ys d)
  end_same laws x y xs ys c d are used m n =
      let s = x.now.held.octets ++ flat_map used_in xs in
      let first = after_more x.told x.sent (account_along xs c.end) in
      let final = after_more y.told y.sent (account_along ys d.end) in
      let here = ending_alike (account_in x) (account_in y) x.now.held.offset s first are.same.account
      (ending_apart x.told x.sent (account_of [] [] x.now.end) x.now.held.offset s (account_along xs c.end) m.how) in
      let other = ending_apart y.told y.sent (account_of [] [] y.now.end) y.now.held.offset (y.now.held.octets ++ flat_map used_in ys)
      (account_along ys d.end) n.how in
      let there : Ending (account_in y) x.now.held.offset s final = grind arith in
      grind (arith, alike_at, account_joined, end_alike laws (account_in y) x.now.held.offset s here.final final here.how there)

  -- ---- they end neither, or both

  -- octets that do not end the one do not end the other
  lasts_alike : (x y : Course) (s : List ℕ) → Same Like x y → Lasts y.now s → Lasts x.now s
  lasts_alike x y s same h =
      search (
        arith,
        packets_alike,
        packets_apart y.told y.sent h.units (account_of [] [] y.now.end),
        packets_apart x.told x.sent h.units
            (account_of [] [] x.now.end),
      )

  -- one ended and the other did not
  never_one : PacketLaws → IsPartial [] → (x y : Course) (xs ys : List Call) (c d : Holding) → Same Like x y →
      IsPartial y.now.held.octets → flat_map used_in xs ≡ flat_map used_in ys → DoneBy x.now xs c →
      CallsInRoom y.now ys d → d.end.carrier.ended ≡ None → ⊥
  never_one laws nothing x y xs ys c d same partial used m k lasts =
      let h = reads_lasts nothing y.now ys d partial (in_room y.now ys d k) lasts in
      let s = x.now.held.octets ++ flat_map used_in xs in
      let here = subst (Lasts y.now) (sym (grind arith)) h in
      ending_lasts laws x.now s (account_along xs c.end) (lasts_alike x y s same here) m.how

  alike_by : PacketLaws → IsPartial [] → OneCut → (x y : Course) (xs ys : List Call) (c d : Holding) (first other : Bool) →
      is_some c.end.carrier.ended ≡ first → is_some d.end.carrier.ended ≡ other → Are Like x y → x.now.end.carrier.ended ≡ None →
      CallsInRoom x.now xs c → CallsInRoom y.now ys d →
      flat_map used_in xs ≡ flat_map used_in ys → Same Like (after x xs c) (after y ys d)
  alike_by laws nothing one_cut x y xs ys c d false false e f are quiet h k used =
      (calls_alike May Like l nothing one_cut x y xs ys c d are (in_room x.now xs c h) (in_room y.now ys d k) used
      (none_of c.end.carrier.ended e) (none_of d.end.carrier.ended f)).same
  alike_by laws nothing one_cut x y xs ys c d true true e f are quiet h k used =
      let still = sym (grind arith) ∙ quiet in
      end_same laws x y xs ys c d are used (outcome_along nothing x.now xs c quiet are.bound h e)
      (outcome_along nothing y.now ys d still (subst (λ (n : ℕ). n < 2 ^ 64) are.offset are.bound) k f)
  alike_by laws nothing one_cut x y xs ys c d true false e f are quiet h k used =
      absurd (never_one laws nothing x y xs ys c d are.same (subst IsPartial are.same.octets are.partial) used
      (outcome_along nothing x.now xs c quiet are.bound h e) k (none_of d.end.carrier.ended f))
  alike_by laws nothing one_cut x y xs ys c d false true e f are quiet h k used =
      let still = sym (grind arith) ∙ quiet in
      absurd (never_one laws nothing y x ys xs d c (grind arith) are.partial (sym used)
      (outcome_along nothing y.now ys d still (subst (λ (n : ℕ). n < 2 ^ 64) are.offset are.bound) k f) h (none_of c.end.carrier.ended e))

  last_by : PacketLaws → IsPartial [] → OneCut → (x y : Course) (xs ys : List Call) (c d : Holding) (over : Bool) →
      is_some x.now.end.carrier.ended ≡ over → Are Like x y → CallsInRoom x.now xs c → CallsInRoom y.now ys d →
      flat_map used_in xs ≡ flat_map used_in ys → Same Like (after x xs c) (after y ys d)
  last_by laws nothing one_cut x y xs ys c d true e are h k used = stay_alike x y xs ys c d are.same e h k
  last_by laws nothing one_cut x y xs ys c d false e are h k used =
      alike_by laws nothing one_cut x y xs ys c d (is_some c.end.carrier.ended) (is_some d.end.carrier.ended) refl refl are
      (none_of x.now.end.carrier.ended e) h k used

  -- ---- whole runs

  pub whole_alike : PacketLaws → IsPartial [] → OneCut → (old c d a b : Holding) (xs ys : List Round) (zs ws : List Call) →
      IsPartial old.held.octets → old.held.offset < 2 ^ 64 →
      Like (account_of [] [] old.end) (account_of [] [] old.end) → RoundsBy May old xs c → RoundsBy May old ys d → AreInStep xs ys →
      CallsInRoom c zs a → CallsInRoom d ws b → flat_map used_in zs ≡ flat_map used_in ws →
      Same Like (after (begun old) (calls_of xs ++ zs) a) (after (begun old) (calls_of ys ++ ws) b)
  whole_alike laws nothing one_cut old c d a b xs ys zs ws partial bound like h k step m n used =
      let first = are_first Like old partial bound like in
      let are = rounds_alike May Like l nothing one_cut (begun old) (begun old) xs ys c d first h k step in
      let last = last_by laws nothing one_cut (after (begun old) (calls_of xs) c) (after (begun old) (calls_of ys) d) zs ws a b
      (is_some c.end.carrier.ended) refl are m n used in
      grind (arith, alike_at, account_of, flat_map, told_in, carried_in, append_assoc, flat_map-append)

-- ends that are the same
pub whole_runs_alike : PacketLaws → IsPartial [] → OneCut → (old c d a b : Holding) (xs ys : List Round) (zs ws : List Call) →
    IsPartial old.held.octets → old.held.offset < 2 ^ 64 →
    RoundsAlong old xs c → RoundsAlong old ys d → AreInStep xs ys → CallsInRoom c zs a → CallsInRoom d ws b →
    flat_map used_in zs ≡ flat_map used_in ws →
    AreAlike a (calls_of xs ++ zs) b (calls_of ys ++ ws)
whole_runs_alike laws nothing one_cut old c d a b xs ys zs ws partial bound h k step m n used =
    same_alike old a b (calls_of xs ++ zs) (calls_of ys ++ ws)
    (whole_alike MayCall (λ (x y : Account). x ≡ y) exactly laws nothing one_cut old c d a b xs ys zs ws partial bound refl h k step m n
    used)
