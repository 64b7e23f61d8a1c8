-- The invariant of two sides and of what is in flight between them, stated for the side x that takes what y sends.
-- For every step: each has to keep it (`Stands`).
use Rattle.osi_machine.proofs.Vocabulary.{list_any, State, Phase, FunctionalUnits, Connecting, Answering, Ready, MajorAsked, MajorDue}
use Rattle.osi_machine.proofs.Vocabulary.{Releasing, ReleaseDue, Restarting, RestartDue, Token, data_token, has, available, lower}
use Rattle.osi_machine.proofs.Vocabulary.{is_restarting, is_restart_due, is_connecting, is_release_due, is_releasing, may_hold, Item, cutat}
use Rattle.osi_machine.proofs.Vocabulary.{AreNumberedFrom, Owners, is_own, is_to_own, is_absent, turned_owners, AllFit, flush, heard, hears}
use Rattle.osi_machine.proofs.Vocabulary.{heard_view, data_of, needs_token, Party, Core, AreConsistent, eqb-true, and_parts}
use Rattle.osi_machine.proofs.Vocabulary.{functional_units, both_units, units_within, has_data, is_profile, ◌≡◌, ℕ, Bool, true, false, not}
use Rattle.osi_machine.proofs.Vocabulary.{◌&&◌, ◌||◌, ◌∙◌, ap, arith, ◌≤◌, ◌<◌, List, [], ◌++◌, and_assoc, and_le_r}
use Rattle.osi_machine.proofs.basics.what_holds_in_each_phase.{cut_or, by_test, implied_both, every_two}

-- the state of x when it has taken all that y has sent, and just before a restart that takes effect
abbrev pub flushed : Party → Party → State
flushed x y = flush x.session y.sent

abbrev pub hearing : Party → Party → State
hearing x y = heard x.session y.sent

-- the phases in which two sides meet
abbrev pub matched : Phase → Phase → Bool
matched Ready Ready = true
matched MajorAsked MajorDue = true
matched MajorDue MajorAsked = true
matched Releasing ReleaseDue = true
matched ReleaseDue Releasing = true
matched Restarting RestartDue = true
matched RestartDue Restarting = true
matched Connecting Answering = true
matched Answering Connecting = true
matched p q = false

-- Phases and tokens: of a side, its state as it is, when all is taken, and just before a restart; and of
-- the other, its state when all is taken and as it is.
pub record Meeting (o : Owners) (now end other_end heard : State) (other : State) : Type 0 where
  -- the phases in which both sides meet
  pub meets : matched end.phase other_end.phase ≡ true
  pub units : end.units ≡ other_end.units
  pub base : end.base ≡ other_end.base
  -- the asker and the answerer mean the same restart
  pub restart : is_restarting end.phase ≡ true → (end.numbers.next ≡ other_end.numbers.next) × (end.wishes ≡ other_end.wishes)
  pub connect : is_connecting end.phase ≡ true → (end.wishes ≡ other_end.wishes) × (end.proposed ≡ other_end.proposed)
  -- what is held is owned, and what is in flight will be held
  pub holds : (t : Token) → has now.held t ≡ is_own (o t)
  pub wants : may_hold heard.phase ≡ true → (t : Token) → has heard.held t ≡ (is_own (o t) || is_to_own (o t))
  pub absent : (t : Token) → has (available end.units) t ≡ false → is_absent (o t) ≡ true
  -- the peer of a side that owes the answer to a release waits for it
  pub released : is_release_due heard.phase ≡ true → is_releasing other.phase ≡ true

pub record Half (o : Owners) (x y : Party) : Type 0 where
  -- no unit in flight will be a fault
  pub fits : AllFit x.session y.sent
  pub meeting : Meeting o x.session (flushed x y) (flushed y x) (hearing x y) y.session

-- what follows of the phases in which both meet
pub phase_there : (f g : Phase → Bool) → every_two (λ p q. not (matched p q && f p) || g q) ≡ true → {o : Owners} {x y : Party} → Half o x y
    → f (flushed x y).phase ≡ true → g (flushed y x).phase ≡ true
phase_there f g e {x} {y} h t = implied_both matched (λ p q. f p) (λ p q. g q) e (flushed x y).phase (flushed y x).phase h.meeting.meets t

-- what was seen
pub record Views (h : List Item) (x y : Party) : Type 0 where
  -- a listener will have seen all
  pub ends : hears (hearing x y).phase ≡ true → heard_view x.session y.sent x.view ≡ h
  -- a side that has requested a restart has seen what the restart leaves
  pub cut : is_restarting (hearing x y).phase ≡ true → x.view ≡ cutat x.session.base h x.session.numbers.next
  -- while an answer is due its asker has seen all
  pub due : is_restart_due x.session.phase ≡ true → y.view ≡ h
  pub stream : (flushed x y).units.duplex ≡ true → (x.got ++ data_of y.sent ≡ y.said) × (h ≡ [])

-- The numbers: of a side, as they are and just before a restart; and of the other.
pub record Counting (now heard : State) (other_heard other : State) : Type 0 where
  -- points flow one way
  pub flag : now.numbers.answers ≡ true → other_heard.numbers.answers ≡ false
  -- what is confirmed was seen
  pub below : hears other_heard.phase ≡ true → (n : ℕ) → heard.base ≤ n → n < heard.numbers.confirmed → n < other.numbers.next
  -- no confirmation comes twice
  pub reach : other.numbers.answers ≡ true → lower other.numbers.next heard.numbers.confirmed ≤ other.numbers.confirmed

abbrev pub Counts : Party → Party → Type 0
Counts x y = Counting x.session (hearing x y) (hearing y x) y.session

-- half-duplex with what else there is, or duplex alone
pub record IsOfProfile (u : FunctionalUnits) : Type 0 where
  pub duplex : u.duplex ≡ not u.half_duplex
  pub alone : u.duplex ≡ true → (u.minor ≡ false) × (u.major ≡ false) × (u.resynchronize ≡ false) × (u.negotiated_release ≡ false)

-- both at once
pub record Pair (h : List Item) (x y : Party) : Type 0 where
  pub numbered : AreNumberedFrom (flushed x y).base h
  -- data flows one way; what a side will discard counts too
  pub one_way : (flushed x y).units.half_duplex ≡ true
      → (list_any (needs_token data_token) x.sent && list_any (needs_token data_token) y.sent) ≡ false
  pub callers : y.session.is_caller ≡ not x.session.is_caller
  pub profile : IsOfProfile (flushed x y).units

pub record Stands (w : Core) : Type 0 where
  pub consistent : AreConsistent w
  pub own : Half w.owner w.own w.peer
  pub peer : Half (turned_owners w.owner) w.peer w.own
  pub own_views : Views w.history w.own w.peer
  pub peer_views : Views w.history w.peer w.own
  pub own_counts : Counts w.own w.peer
  pub peer_counts : Counts w.peer w.own
  pub pair : Pair w.history w.own w.peer

-- ---- the profile

pub profile_of : (bits : ℕ) → is_profile bits ≡ true → IsOfProfile (functional_units bits)
unfolding is_profile
profile_of bits h = grind (arith, eqb-true, and_parts, and_assoc, and_le_r)

pub profile_data : (u : FunctionalUnits) → IsOfProfile u → has_data u ≡ true
unfolding has_data
profile_data u p = ap (λ (b : Bool). u.half_duplex || b) p.duplex ∙ by_test u.half_duplex (λ e. rw e) (λ e. rw e)

pub within_duplex : (a b : FunctionalUnits) → units_within a b ≡ true → a.duplex ≡ true → b.duplex ≡ true
unfolding units_within
within_duplex a b h = cut_or a.duplex b.duplex (and_parts _ _ (and_parts (not a.half_duplex || b.half_duplex) _ h).1).0

pub within_half : (a b : FunctionalUnits) → units_within a b ≡ true → a.half_duplex ≡ true → b.half_duplex ≡ true
unfolding units_within
within_half a b h = cut_or a.half_duplex b.half_duplex (and_parts (not a.half_duplex || b.half_duplex) _ h).0

-- what both name is what was selected
pub within_both : (a b : FunctionalUnits) → units_within a b ≡ true → both_units b a ≡ a
unfolding units_within both_units
within_both a b h = search (arith, and_parts)

-- the lines on tokens, stated anew
pub record Tokens_of (o : Owners) (now end heard : State) : Type 0 where
  pub holds : (t : Token) → has now.held t ≡ is_own (o t)
  pub wants : may_hold heard.phase ≡ true → (t : Token) → has heard.held t ≡ (is_own (o t) || is_to_own (o t))
  pub absent : (t : Token) → has (available end.units) t ≡ false → is_absent (o t) ≡ true
