-- A call on a whole connection, and on the core that simulates it.
-- For every_step_is_simulated.
use Rattle.osi_machine.proofs.Vocabulary.{append-nil, length-append, map-append, Passed, State, Meaning, Token, is_over, Call, Granted}
use Rattle.osi_machine.proofs.Vocabulary.{allowed, after, sends, may_call, Item, Owner, Owners, is_own, turned_owner, given_up, own_to_pool}
use Rattle.osi_machine.proofs.Vocabulary.{left_by, Core, stays_in_core, says, view_called, owners_called, answered, Message, unit, World}
use Rattle.osi_machine.proofs.Vocabulary.{put, mark_called, after_call, ◌≡◌, sym, ap, ℕ, Bool, true, false, if◌then◌else◌, List, [], ◌∷◌}
use Rattle.osi_machine.proofs.Vocabulary.{◌++◌, append_assoc, length, Ok, arith, list_any-append}
use Rattle.osi_machine.proofs.basics.what_holds_in_each_phase.{by_either, by_test}
use Rattle.osi_machine.proofs.invariant.what_holds_of_both_sides.{Stands}
use Rattle.osi_machine.proofs.invariant.each_step_keeps_one_side.{SessionLaws, granted}
use Rattle.osi_machine.proofs.calls.a_restart_is_requested.{same_cut, in_range, given_theirs}
use Rattle.osi_machine.proofs.promises.what_two_users_may_rely_on.{sees_the_history}
use Rattle.osi_machine.proofs.whole.how_a_core_simulates_a_connection.{stopped, IsLast, IsTail, Carried, OneSide, Projects, one_over}

-- ---- channels

-- if the sender is not over, no last unit is in flight
pub none_last : (s : State) (lost tail : List Meaning) → IsTail false s lost tail → tail ≡ []
none_last s lost tail h = grind arith

-- one unit more
pub carried_more : (broken : Bool) (channel : List Message) (sent : List Meaning) (s r : State) (m : Meaning)
    → Carried broken false channel sent s
    → Carried broken false (put broken (unit m ∷ []) channel) (sent ++ m ∷ []) r
carried_more true channel sent s r m h = search (arith, append_assoc h.there h.lost (m ∷ []), none_last s h.lost h.tail h.last)
carried_more false channel sent s r m h =
    search (
      arith,
      by_either,
      append-nil (sent ++ m ∷ []),
      none_last s h.lost h.tail h.last,
      append-nil h.there,
      map-append unit sent (m ∷ []),
    )

-- the last unit of a side
pub carried_last : (broken : Bool) (channel : List Message) (sent : List Meaning) (s : State) (m : Meaning) → IsLast s m
    → Carried broken false channel sent s
    → Carried broken true (put broken (unit m ∷ []) channel) sent s
carried_last true channel sent s m k h = grind (arith, none_last)
carried_last false channel sent s m k h =
    grind (arith, by_either, append-nil sent, none_last s h.lost h.tail h.last, append-nil h.there, map-append unit sent (m ∷ []))

-- ---- owners

pub left_lives : (s : State) (o : Owners) → is_over s.phase ≡ false → left_by s o ≡ o
left_lives s o e = ap (λ (b : Bool). if b then given_up o else o) e

pub left_theirs : (s : State) (o : Owners) (t : Token) → is_own (turned_owner (left_by s o t)) ≡ is_own (turned_owner (o t))
left_theirs s o t = by_test (is_over s.phase) (λ e. rw e (sym (given_theirs (o t)))) (λ e. rw e)

pub own_gone : (p : Owner) → is_own (own_to_pool p) ≡ false
own_gone p = grind arith

owns_called : (s : State) (c : Call) (o p : Owners) (t : Token) → is_own (o t) ≡ is_own (p t)
    → is_own (owners_called s c o t) ≡ is_own (owners_called s c p t)
owns_called s c o p t e = grind (arith, own_gone)

theirs_called : (s : State) (c : Call) (o p : Owners) (t : Token) → is_own (turned_owner (o t)) ≡ is_own (turned_owner (p t))
    → is_own (turned_owner (owners_called s c o t)) ≡ is_own (turned_owner (owners_called s c p t))
theirs_called s c o p t e = grind (arith, given_theirs)

-- ---- a call that the core makes too

call_lives : (s : State) (c : Call) → stays_in_core c ≡ true → is_over s.phase ≡ false → is_over (after s c).phase ≡ false
call_lives s c k l = grind arith

marked : (c : Core) (x : Call) (h : List Item) (mark : ℕ) → Stands c
    → Passed c.own.session x (record { next = after c.own.session x; sent = sends c.own.session x })
    → h ≡ c.history → mark ≡ length c.own.view → mark_called c.own.session x h mark ≡ length (view_called c.own.session x c.own.view)
marked c x h mark s p e m = search (arith, in_range, same_cut, sees_the_history, length-append)

called_own : (broken : Bool) (w : World) (c : Core) (x : Call) → stays_in_core x ≡ true → stopped w.own ≡ false → Projects broken w c
    → Stands c
    → Passed c.own.session x (granted c.own.session x)
    → OneSide broken (after_call broken c.own.session x (granted c.own.session x) w) (answered c x (Ok (granted c.own.session x)))
called_own broken w c x k lives p s q = grind (arith, call_lives, marked, left_lives, owns_called, list_any-append)

pub call_projects : SessionLaws → (broken : Bool) (w : World) (c : Core) (x : Call) (g : Granted) → stays_in_core x ≡ true
    → stopped w.own ≡ false → Projects broken w c → Stands c
    → allowed c.own.session x ≡ Ok g → Projects broken (after_call broken c.own.session x g w) (answered c x (Ok g))
call_projects laws broken w c x g k lives p s e =
    grind (
      arith,
      called_own,
      call_lives,
      left_theirs,
      theirs_called,
      carried_more,
      laws.passed c.own.session x g e,
      granted c.own.session x,
      p.own.alike lives,
    )

-- ---- a call after which a side is over

pub stop_over : (s : State) (c : Call) → stays_in_core c ≡ false → is_over (after s c).phase ≡ true
stop_over s c k = grind arith

stop_last : (s : State) (c : Call) → stays_in_core c ≡ false → may_call s.phase c ≡ true → IsLast s (sends s c)
stop_last s c k m = grind arith

stop_silent : (s : State) (c : Call) → stays_in_core c ≡ false → says s c ≡ []
stop_silent s c k = grind arith

stop_owners : (s : State) (c : Call) (o : Owners) → stays_in_core c ≡ false → owners_called s c o ≡ o
stop_owners s c o k = grind arith

pub stop_projects : SessionLaws → (broken : Bool) (w : World) (c : Core) (x : Call) (g : Granted) → stays_in_core x ≡ false
    → stopped w.own ≡ false → Projects broken w c
    → allowed c.own.session x ≡ Ok g → Projects broken (after_call broken c.own.session x g w) c
stop_projects laws broken w c x g k lives p e =
    grind (
      arith,
      stop_over,
      stop_silent,
      one_over,
      granted,
      left_theirs,
      stop_owners,
      carried_last,
      stop_last,
      laws.passed c.own.session x g e,
      append-nil w.history,
    )
