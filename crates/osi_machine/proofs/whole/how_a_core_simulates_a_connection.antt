-- How a connection on which nothing is lost simulates a whole connection: a side that is over stays as it was.
-- For each step of a whole connection.
use Rattle.std.proofs.Common.{◌≡◌, sym, ◌∙◌, ap, ℕ, ◌+◌, Bool, true, false, not, ◌||◌, List, [], ◌∷◌, ◌++◌, map, length, take, ◌⊎◌, arith}
use Rattle.osi_machine.specs.Core.{turned}
use Rattle.osi_machine.proofs.Vocabulary.{take-append_seam, list_any, State, Meaning, RF, DN, AB, Token, is_over, is_answering}
use Rattle.osi_machine.proofs.Vocabulary.{is_release_due, Item, points, Begins, is_own, owned, is_plain, Party, Core, Message, unit, bye}
use Rattle.osi_machine.proofs.Vocabulary.{over, Transport, not_yet, waiting, linked, kept_of, End, World, session_of}
use Rattle.osi_machine.proofs.Vocabulary.{turned as turned_world}
use Rattle.osi_machine.proofs.channels.a_held_token_keeps_units_out.{has_set}
use Rattle.osi_machine.proofs.invariant.what_holds_of_both_sides.{Stands}
use Rattle.osi_machine.proofs.calls.tokens_that_are_given.{tokens_same}
use Rattle.osi_machine.proofs.promises.what_two_users_may_rely_on.{sees_the_history}

-- ---- the lines

-- a side that is aborted or ended
abbrev pub stopped : End → Bool
stopped x = is_over x.kept.phase

-- a message that a side puts when it is over
abbrev pub parts : Message → Bool
parts (unit u) = not (is_plain u)
parts (bye reason) = true
parts over = true
parts m = false

-- the transport connection was agreed to, as this side sees it
abbrev pub is_begun : Transport → Bool
is_begun not_yet = false
is_begun waiting = false
is_begun _ = true

-- a side that is not over is as in the core, and owns the same
pub record Alike (w : World) (c : Core) : Type 0 where
  pub transport : w.own.transport ≡ linked
  pub kept : w.own.kept ≡ kept_of c.own.session
  pub mark : w.own.mark ≡ length c.own.view
  pub said : w.own.said ≡ c.own.said
  pub got : w.own.got ≡ length c.own.got
  pub owns : (t : Token) → is_own (w.owner t) ≡ is_own (c.owner t)

-- the unit that is the last of a side
abbrev pub IsLast : State → Meaning → Type 0
IsLast s (AB bits octets) = bits ≡ 3
IsLast s (DN octets) = is_release_due s.phase ≡ true
IsLast s (RF reason octets) = is_answering s.phase ≡ true
IsLast s u = ⊥

-- nothing; or if the sender is over and nothing was lost, one such unit
abbrev pub IsTail : Bool → State → List Meaning → List Meaning → Type 0
IsTail over_now s lost [] = Unit {0}
IsTail over_now s lost (u ∷ []) = (over_now ≡ true) × (lost ≡ []) × IsLast s u
IsTail over_now s lost (u ∷ v ∷ us) = ⊥

-- What is in flight to a side is a prefix of the core's channel, all of it unless the sender is over or the connection
-- broken; and after it perhaps the last unit of a sender that is over.
pub record Carried (broken over_now : Bool) (channel : List Message) (sent : List Meaning) (s : State) : Type 0 where
  pub there : List Meaning
  pub lost : List Meaning
  pub tail : List Meaning
  pub splits : there ++ lost ≡ sent
  pub carries : channel ≡ map unit (there ++ tail)
  pub whole : (lost ≡ []) ⊎ ((over_now || broken) ≡ true)
  pub last : IsTail over_now s lost tail

-- V(A), the base and the mark of a side are those of the core, of a side that is over too
pub record Counts (confirmed base mark : ℕ) (s : State) (view : List Item) : Type 0 where
  pub acked : confirmed ≡ s.numbers.confirmed
  pub based : base ≡ s.base
  pub marked : mark ≡ length view

abbrev pub Counted : End → Party → Type 0
Counted x p = Counts x.kept.confirmed x.kept.base x.mark p.session p.view

pub record OneSide (broken : Bool) (w : World) (c : Core) : Type 0 where
  pub begun : is_begun w.own.transport ≡ true
  pub counted : Counted w.own c.own
  pub alike : stopped w.own ≡ false → Alike w c
  pub carried : stopped w.own ≡ false → Carried broken (stopped w.peer) w.peer.channel c.peer.sent c.peer.session
  pub parted : stopped w.own ≡ false → list_any parts w.own.channel ≡ false

pub record Projects (broken : Bool) (w : World) (c : Core) : Type 0 where
  pub history : w.history ≡ c.history
  pub own : OneSide broken w c
  pub peer : OneSide broken (turned_world w) (turned c)

-- ---- a break: so many messages stay in each channel

abbrev pub cut_to : ℕ → ℕ → World → World
cut_to left right w = record w {
  own = record w.own { channel = take left w.own.channel };
  peer = record w.peer { channel = take right w.peer.channel };
}

-- ---- if both sides are over, this alone is stated

pub not_both : {A : Type 0} (b : Bool) → b ≡ true → b ≡ false → A
not_both b p q = absurd (cc)

pub one_over : (broken : Bool) (w : World) (c : Core) → is_begun w.own.transport ≡ true → stopped w.own ≡ true → Counted w.own c.own
    → OneSide broken w c
one_over broken w c b o a = grind (arith, not_both)

pub both_over : (broken : Bool) (w : World) (c : Core) → w.history ≡ c.history → is_begun w.own.transport ≡ true → stopped w.own ≡ true
    → is_begun w.peer.transport ≡ true → stopped w.peer ≡ true → Counted w.own c.own → Counted w.peer c.peer
    → Projects broken w c
both_over broken w c h b o d p x y = grind (arith, one_over)

-- ---- the session of a side that is not over is that of the core

pub taken_view : (v h : List Item) → Begins v h → take (length v) h ≡ v
taken_view v h b = ap (take (length v)) (sym b.1) ∙ take-append_seam v b.0

pub owned_is : (w : World) (c : Core) → Stands c → Alike w c → owned w.owner ≡ c.own.session.held
owned_is w c s a = grind (arith, tokens_same, has_set)

-- V(M), of a side that is over too
pub next_is : (w : World) (c : Core) → Stands c → w.history ≡ c.history → Counted w.own c.own
    → w.own.kept.base + points (take w.own.mark w.history) ≡ c.own.session.numbers.next
next_is w c s h a = search (arith, taken_view, sees_the_history)

pub session_is : (w : World) (c : Core) → Stands c → w.history ≡ c.history → Counted w.own c.own → Alike w c → session_of w ≡ c.own.session
session_is w c s h n a = search (arith, owned_is, next_is)
