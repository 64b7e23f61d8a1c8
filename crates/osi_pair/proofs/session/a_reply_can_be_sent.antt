-- The answer of a session, as octets of a TSDU.
-- For packets.
use Rattle.osi_message.specs.Written.{unit_of}
use Rattle.osi_session.specs.Respond.{over}
use Rattle.osi_pair.proofs.Vocabulary.{◌≡◌, ◌<◌, ◌≤◌, ℕ, Bool, true, false, not, if◌then◌else◌, [], length, Some, None, IfSome, refl, sym}
use Rattle.osi_pair.proofs.Vocabulary.{ap, subst, ◌∙◌, arith, SpduLaws, sent_short, IsOctets, Offer, offer_sent, IsInOctets, Meaning, CN}
use Rattle.osi_pair.proofs.Vocabulary.{RF, AB, AA, Said, said_of, IsSendable, written, Input, opened, refused, broken, taken, Standing}
use Rattle.osi_pair.proofs.Vocabulary.{react, is_wait_transport, is_aborting, is_ended, Outcome, in_aborting, in_ended, reply_for, respond}
use Rattle.osi_pair.proofs.Vocabulary.{respond_unit, Verdict, dropped, faulty, fine, verdict, enacted, SessionState as State}

-- what is sent can be handed to the carrier
pub record CanGo (x : Meaning) : Type 0 where
  pub short : length (written x) ≤ 1048576
  pub octets : IsOctets (written x)

-- what is proved of one session
pub record ReplyLaws : Type 0 where
  pub spdu : SpduLaws
  pub octets : (m : Meaning) → IsSendable m → IsInOctets m → IsOctets (written m)
  pub replied : (s : State) (said : Said) (m : Meaning) → (respond s said).reply ≡ Some m → IsSendable m
  pub enacted : (s : State) (u : Meaning) → respond_unit s u ≡ enacted s u (verdict s u)
  pub says : (s : State) (u : Meaning) → respond s (said_of u) ≡ respond_unit s u

-- ---- it goes into octets, and no data comes after it

record IsAnswer (m : Meaning) : Type 0 where
  none : (unit_of m).information ≡ []
  octets : IsInOctets m

can_go : ReplyLaws → (m : Meaning) → IsSendable m → IsAnswer m → CanGo m
can_go laws m s a = record { short = sent_short laws.spdu m s a.none; octets = laws.octets m s a.octets }

same_answer : (x m : Meaning) → IsAnswer x → Some x ≡ Some m → IsAnswer m
same_answer x m a e = let same : x ≡ m = cc in subst IsAnswer same a

refuse_answer : (reason : ℕ) → reason < 256 → IsAnswer (RF reason [])
unfolding unit_of
refuse_answer reason small = record { none = refl; octets = (small, λ k. omega arith) }

abort_answer : IsAnswer (AB 5 [])
unfolding unit_of
abort_answer = record { none = refl; octets = (omega arith, λ k. omega arith) }

accept_answer : IsAnswer AA
unfolding unit_of
accept_answer = record { none = refl; octets = tt }

-- ---- a unit

over_answer : (b : Bool) (s : State) (u m : Meaning) → (if b then in_aborting s u else in_ended s u).reply ≡ Some m → IsAnswer m
over_answer b s u m e = search (arith, same_answer, accept_answer)

connect_answer : (version some : Bool) (m : Meaning) →
    (if not version then Some (RF 132 []) else (if not some then Some (RF 134 []) else None)) ≡ Some m → IsAnswer m
connect_answer version some m e = grind (arith, same_answer, refuse_answer)

good_answer : (u m : Meaning) → reply_for u ≡ Some m → IsAnswer m
good_answer (CN version requirements serial wishes from to sizes octets) m e = search (arith, connect_answer)
good_answer (AB bits octets) m e = same_answer AA m accept_answer e
good_answer u m e = absurd cc

verdict_answer : (s : State) (u m : Meaning) (v : Verdict) → (enacted s u v).reply ≡ Some m → IsAnswer m
verdict_answer s u m over e = over_answer (is_aborting s.phase) s u m e
verdict_answer s u m dropped e = absurd cc
verdict_answer s u m (faulty fault) e = same_answer (AB 5 []) m abort_answer e
verdict_answer s u m fine e = good_answer u m e

taken_goes : ReplyLaws → (s : State) (u m : Meaning) → (respond s (said_of u)).reply ≡ Some m → CanGo m
taken_goes laws s u m e =
    can_go laws m (laws.replied s (said_of u) m e)
    (verdict_answer s u m (verdict s u) (sym (ap (λ (o : Outcome). o.reply) (laws.says s u ∙ laws.enacted s u)) ∙ e))

-- ---- a move

-- what is known of a move: what it sends can be written, and so can a CN that waits afterwards
pub record GoesBy (x : Standing) (input : Input) : Type 0 where
  pub sends : (m : Meaning) → (react x input).reply ≡ Some m → CanGo m
  pub octets : IfSome (react x input).next.waiting IsInOctets

pub goes_taken : ReplyLaws → (x : Standing) (u : Meaning) → IfSome x.waiting IsInOctets → GoesBy x (taken (said_of u))
unfolding react
goes_taken laws x u waits = record { sends = λ m e. taken_goes laws x.state u m e; octets = waits }

pub goes_opened : (x : Standing) → ((m : Meaning) → x.waiting ≡ Some m → CanGo m) → IfSome x.waiting IsInOctets → GoesBy x opened
unfolding react
goes_opened x goes waits = grind arith

-- it sends and closes nothing
pub silent_refused : (x : Standing) (reason : ℕ) → ((react x (refused reason)).reply ≡ None) × ((react x (refused reason)).closes ≡ false)
unfolding react
silent_refused x reason = grind arith

pub goes_refused : (x : Standing) (reason : ℕ) → IfSome x.waiting IsInOctets → GoesBy x (refused reason)
unfolding react silent_refused
goes_refused x reason waits = grind arith

-- a session that waited has ended then
pub ended_refused : (x : Standing) (reason : ℕ) → is_wait_transport x.state.phase ≡ true →
    is_ended (react x (refused reason)).next.state.phase ≡ true
unfolding react
ended_refused x reason e = grind arith

-- it is lost
pub silent_broken : (x : Standing) → ((react x broken).reply ≡ None) × ((react x broken).closes ≡ false)
unfolding react
silent_broken x = (refl, refl)

pub goes_broken : (x : Standing) → IfSome x.waiting IsInOctets → GoesBy x broken
unfolding react
goes_broken x waits = record { sends = λ m e. (let no : None ≡ Some m = e in absurd cc); octets = waits }

pub ended_broken : (x : Standing) → is_ended (react x broken).next.state.phase ≡ true
unfolding react
ended_broken x = refl

-- ---- a CN that waits

offer_answer : (o : Offer) → IsInOctets (offer_sent o) → IsAnswer (offer_sent o)
unfolding unit_of
offer_answer o octets = record { none = refl; octets = octets }

pub offer_goes : ReplyLaws → (o : Offer) → IsSendable (offer_sent o) → IsInOctets (offer_sent o) → CanGo (offer_sent o)
offer_goes laws o sendable octets = can_go laws (offer_sent o) sendable (offer_answer o octets)
