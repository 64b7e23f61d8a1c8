-- The session of each side after a call and after a unit: for the acting side the one that its table leaves.
-- For every_step_is_simulated, and for the tables.
use Rattle.osi_machine.proofs.Vocabulary.{State, Meaning, Token, Tokens, no_token, Call, Granted, after, is_over, respond_unit, becomes}
use Rattle.osi_machine.proofs.Vocabulary.{Owners, is_own, turned_owner, owned, given_up, left_by, is_acted_on, owners_after, Core}
use Rattle.osi_machine.proofs.Vocabulary.{stays_in_core, owners_called, Kept, kept_of, World, session_of, after_call, after_unit}
use Rattle.osi_machine.proofs.Vocabulary.{turned as turned_world, ◌≡◌, sym, ◌∙◌, ap, ℕ, Bool, true, false, if◌then◌else◌, arith}
use Rattle.osi_machine.specs.Core.{turned}
use Rattle.osi_machine.proofs.basics.what_holds_in_each_phase.{by_test}
use Rattle.osi_machine.proofs.channels.a_held_token_keeps_units_out.{has_set}
use Rattle.osi_machine.proofs.invariant.what_holds_of_both_sides.{Stands}
use Rattle.osi_machine.proofs.calls.tokens_that_are_given.{tokens_same}
use Rattle.osi_machine.proofs.calls.a_restart_is_requested.{given_theirs}
use Rattle.osi_machine.proofs.each_step_keeps_both_sides.{turned_stands}
use Rattle.osi_machine.proofs.whole.how_a_core_simulates_a_connection.{stopped, IsLast, OneSide, Projects, next_is, owned_is}
use Rattle.osi_machine.proofs.whole.a_call.{own_gone, left_theirs}

-- ---- a side, by what it keeps, holds and counts

abbrev pub state_from : Kept → Tokens → ℕ → State
state_from k held next = record {
  phase = k.phase;
  is_caller = k.is_caller;
  units = k.units;
  wishes = k.wishes;
  held = held;
  proposed = k.proposed;
  base = k.base;
  numbers = record { next = next; confirmed = k.confirmed; lowest = k.lowest; answers = k.answers };
  sizes = k.sizes;
}

-- a side that is over owns nothing
abbrev pub Disowned : World → Type 0
Disowned w = stopped w.own ≡ true → (t : Token) → is_own (w.owner t) ≡ false

pub owned_none : (o : Owners) → ((t : Token) → is_own (o t) ≡ false) → owned o ≡ no_token
owned_none o h = tokens_same (owned o) no_token (λ t. has_set (λ t. is_own (o t)) t ∙ h t ∙ sym (has_set (λ t. false) t))

pub owned_as : (o p : Owners) → ((t : Token) → is_own (o t) ≡ is_own (p t)) → owned o ≡ owned p
owned_as o p h = tokens_same (owned o) (owned p) (λ t. has_set (λ t. is_own (o t)) t ∙ h t ∙ sym (has_set (λ t. is_own (p t)) t))

abbrev pub unless_over : Bool → Tokens → Tokens
unless_over over_now held = if over_now then no_token else held

owned_now : (broken : Bool) (w : World) (c : Core) → Stands c → OneSide broken w c → Disowned w
    → owned w.owner ≡ unless_over (stopped w.own) c.own.session.held
owned_now broken w c s o d = by_test (stopped w.own) (λ e. rw e (owned_none w.owner (d e))) (λ e. rw e (owned_is w c s (o.alike e)))

pub seat_state : (broken : Bool) (w : World) (c : Core) → Stands c → w.history ≡ c.history → OneSide broken w c → Disowned w
    → session_of w ≡ state_from w.own.kept (unless_over (stopped w.own) c.own.session.held) c.own.session.numbers.next
seat_state broken w c s h o d = search (arith, owned_now, next_is)

-- a side that is left alone
seat_same : (broken : Bool) (w v : World) (c d : Core) → Stands c → Stands d → w.history ≡ c.history → v.history ≡ d.history
    → OneSide broken w c → OneSide broken v d
    → Disowned w → Disowned v → v.own.kept ≡ w.own.kept → d.own.session ≡ c.own.session → session_of v ≡ session_of w
seat_same broken w v c d s r h k o p x y same still = search (arith, seat_state)

pub lives_as : (s : State) → is_over s.phase ≡ false → state_from (kept_of s) (unless_over (is_over s.phase) s.held) s.numbers.next ≡ s
lives_as s e = ap (λ (b : Bool). state_from (kept_of s) (unless_over b s.held) s.numbers.next) e

-- ---- a side that does nothing does not become an owner

left_none : (s : State) (o : Owners) (t : Token) → is_over s.phase ≡ true → is_own (left_by s o t) ≡ false
left_none s o t e = ap (λ (b : Bool). is_own ((if b then given_up o else o) t)) e ∙ own_gone (o t)

none_called : (s : State) (c : Call) (o : Owners) (t : Token) → is_own (turned_owner (o t)) ≡ false
    → is_own (turned_owner (owners_called s c o t)) ≡ false
none_called s c o t e = grind (arith, given_theirs)

none_after : (s : State) (u : Meaning) (o : Owners) (t : Token) → is_own (turned_owner (o t)) ≡ false
    → is_own (turned_owner (owners_after s u o t)) ≡ false
none_after s u o t e = grind arith

pub called_disowned : (broken : Bool) (s : State) (x : Call) (g : Granted) (w : World) → Disowned (turned_world w)
    → Disowned (after_call broken s x g w) × Disowned (turned_world (after_call broken s x g w))
called_disowned broken s x g w d = grind (arith, left_none, left_theirs, none_called)

pub taken_disowned : (broken : Bool) (s : State) (u : Meaning) (w : World) → Disowned (turned_world w)
    → Disowned (after_unit broken s u w) × Disowned (turned_world (after_unit broken s u w))
taken_disowned broken s u w d = (
  λ o t. left_none (respond_unit s u).next (if is_acted_on s u then owners_after s u w.owner else w.owner) t o,
  λ o t. left_theirs (respond_unit s u).next (if is_acted_on s u then owners_after s u w.owner else w.owner) t
      ∙ by_test (is_acted_on s u) (λ q. rw q (none_after s u w.owner t (d o t))) (λ q. rw q (d o t)),
)

-- ---- each side after a step

-- the side that acts has this session then, and the other its own
pub record Followed (w v : World) (s : State) : Type 0 where
  pub own : session_of v ≡ s
  pub peer : session_of (turned_world v) ≡ session_of (turned_world w)

-- the connection v, with its core e, after which the side that acts is by itself as its session s
pub follows : (broken : Bool) (w : World) (c : Core) → Stands c → Projects broken w c → Disowned (turned_world w) → (v : World) (e : Core)
    (s : State) → Stands e → Projects broken v e → Disowned v × Disowned (turned_world v)
    → state_from v.own.kept (unless_over (stopped v.own) e.own.session.held) e.own.session.numbers.next ≡ s
    → v.peer.kept ≡ w.peer.kept → e.peer.session ≡ c.peer.session → Followed w v s
follows broken w c k p d v e s now q none own still same = record {
  own = seat_state broken v e now q.history q.own none.0 ∙ own;
  peer =
      seat_same broken (turned_world w) (turned_world v) (turned c) (turned e) (turned_stands c k) (turned_stands e now) p.history q.history
      p.peer q.peer d none.1 still same;
}

-- what a call or a unit after which a side is over leaves of its session
pub stop_state : (s : State) (c : Call) → stays_in_core c ≡ false
    → state_from (kept_of (after s c)) (unless_over (is_over (after s c).phase) s.held) s.numbers.next ≡ after s c
stop_state s c k = grind arith

pub last_state : (s r : State) (u : Meaning) → IsLast r u
    → state_from (kept_of (becomes s u)) (unless_over (is_over (becomes s u).phase) s.held) s.numbers.next ≡ becomes s u
last_state s r u l = grind arith
