-- What a carrier of class 2 does with a unit or a call for one connection.
-- For connections of class 2 and class 0.
use Rattle.osi_carrier.specs.Calls.{closes}
use Rattle.osi_carrier.specs.State.{Outcome}
use Rattle.osi_between.proofs.Vocabulary.{◌≡◌, ℕ, true, List, [], ◌∷◌, map, take, Option, Some, None, Ok, ap, ◌∙◌, arith, put_same}
use Rattle.osi_between.proofs.Vocabulary.{append-nil, Value, disconnected, all_given, Standing, Given, unit_of, is_of_two, taken, with_tsdu}
use Rattle.osi_between.proofs.Vocabulary.{Class, Two, link_of, open_link, sent, closed_with, tsdu, closed, pumped, react, in_class, in_two}
use Rattle.osi_between.proofs.Vocabulary.{to_reference, to_connection, to_closing, handed_out, leaves, IsOrderly, value_at, Connection}
use Rattle.osi_between.proofs.Vocabulary.{linked, closing, State, put_here, without_here, put_other, without_other, react_quiet, Changes}
use Rattle.osi_between.proofs.Vocabulary.{addressed, leaving, settles}

-- ---- a unit goes to the connection that it names

react_two : (unit : Value) (s : State) → s.ended ≡ None → s.class ≡ Some Two → react unit s ≡ (in_two s.is_caller unit s).state
react_two unit s quiet class = react_quiet unit s quiet ∙ ap (λ (k : Option Class). (in_class k unit s).state) class

at_connection : (n : ℕ) (o : Option Connection) (unit : Value) (s : State) → value_at n s.live ≡ o →
    to_reference n unit s ≡ to_connection n o unit s
at_connection n o unit s at = ap (λ (c : Option Connection). to_connection n c unit s) at

-- ---- what each unit and each call does

-- a link took a unit, in any class
pub settled_changes : (n : ℕ) (s : State) (link t : Standing) → value_at n s.live ≡ Some (linked n link) →
    Changes n s (settles n n t s).state (Some (linked n (pumped (handed_out t)))) (addressed n (all_given (handed_out t)))
    (map (tsdu n) (take 1 t.ends.joining.whole))
settled_changes n s link t at = grind (arith, put_here, put_other)

pub open_is_linked : (n : ℕ) (s : State) (link : Standing) → s.ended ≡ None → value_at n s.live ≡ Some (linked n link) →
    open_link n s ≡ Some (n, link)
open_is_linked n s link quiet at = rw quiet (ap link_of at)

-- a TSDU is handed in, in any class
pub send_changes : (n : ℕ) (s : State) (link : Standing) (octets : List ℕ) → s.ended ≡ None → value_at n s.live ≡ Some (linked n link) →
    Changes n s (sent n octets s) (Some (linked n (pumped (with_tsdu link octets)))) (addressed n (all_given (with_tsdu link octets))) []
send_changes n s link octets quiet at = grind (arith, put_here, put_other, open_is_linked n s link quiet at, append-nil s.events)

module _ (n : ℕ) (s : State) (quiet : s.ended ≡ None) (class : s.class ≡ Some Two) (orderly : IsOrderly s) where
  -- a DT or an AK that the link takes
  pub given_changes : (link t : Standing) (g : Given) → is_of_two g ≡ true → value_at n s.live ≡ Some (linked n link) →
      taken link (unit_of n g) ≡ Ok t → Changes n s (react (unit_of n g) s) (Some (linked n (pumped (handed_out t))))
      (addressed n (all_given (handed_out t))) (map (tsdu n) (take 1 t.ends.joining.whole))
  given_changes link t g two at ok =
      let does : react (unit_of n g) s ≡ (settles n n t s).state = grind (arith, react_two, at_connection) in
      rw does (settled_changes n s link t at)

  -- one that is ignored
  pub given_ignored : (g : Given) → is_of_two g ≡ true → value_at n s.live ≡ Some (closing n) →
      Changes n s (react (unit_of n g) s) (Some (closing n)) [] []
  given_ignored g two at = grind (arith, react_two (unit_of n g) s quiet class, put_same, append-nil)

  -- a DR to an open connection
  pub leaving_changes : (link : Standing) (reason : ℕ) → value_at n s.live ≡ Some (linked n link) →
      Changes n s (react (leaving n reason) s) None (disconnected n n ∷ []) (closed n reason ∷ [])
  leaving_changes link reason at =
      let does : react (leaving n reason) s ≡ (leaves n n reason (Some Two) s).state = grind (arith, react_two, at_connection) in
      rw does (search (arith, without_here, without_other))

  -- a DR or a DC to a connection that is closing
  gone_changes : (unit : Value) → react unit s ≡ (to_closing n (disconnected n n) s).state → Changes n s (react unit s) None [] []
  gone_changes unit does = rw does (search (arith, without_here, without_other, append-nil))

  pub crossed_changes : (reason : ℕ) → value_at n s.live ≡ Some (closing n) → Changes n s (react (leaving n reason) s) None [] []
  crossed_changes reason at = gone_changes (leaving n reason) (grind (arith, react_two, at_connection))

  pub over_changes : value_at n s.live ≡ Some (closing n) → Changes n s (react (disconnected n n) s) None [] []
  over_changes at =
      gone_changes (disconnected n n) (react_two (disconnected n n) s quiet class ∙ (grind arith)
      ∙ ap (λ (x : Outcome). x.state) (at_connection n (Some (closing n)) (disconnected n n) s at))

  -- a close
  pub close_changes : (link : Standing) (reason : ℕ) → value_at n s.live ≡ Some (linked n link) →
      Changes n s (closed_with n reason s) (Some (closing n)) (leaving n reason ∷ []) []
  close_changes link reason at =
      let does : closed_with n reason s ≡ closes n n reason (Some Two) s = grind (arith, open_is_linked) in
      rw does (search (arith, put_here, put_other, append-nil))
