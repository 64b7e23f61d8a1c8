-- The call of Give keeps the invariant: a side that holds fewer tokens acts alike on what is in flight to it.
-- For each_step_keeps_both_sides.
use Rattle.osi_machine.proofs.Vocabulary.{and_parts, or_left, and_from, not-true, State, Tokens, Meaning, GT, FN, Token, data_token, minor}
use Rattle.osi_machine.proofs.Vocabulary.{major, release, has, is_empty, is_within, is_disjoint, without, united, available, lacks, may_ask}
use Rattle.osi_machine.proofs.Vocabulary.{becomes, stands, Good, stops, FunctionalUnits, may_give, may_hold, Give, ToThem, is_own}
use Rattle.osi_machine.proofs.Vocabulary.{passed_to, Core, ◌≡◌, refl, sym, ◌∙◌, ap, Bool, true, false, not, ◌&&◌, ◌||◌, inl, arith}
use Rattle.osi_machine.proofs.Vocabulary.{is_plain}
use Rattle.osi_machine.proofs.basics.what_holds_in_each_phase.{excluded, cut_or, implied, by_test}
use Rattle.osi_machine.proofs.channels.what_every_unit_in_flight_keeps.{list_any_append}
use Rattle.osi_machine.proofs.channels.a_held_token_keeps_units_out.{each_has, empty_has, united_has, without_has, is_lively}
use Rattle.osi_machine.proofs.invariant.what_holds_of_both_sides.{Stands, phase_there}
use Rattle.osi_machine.proofs.invariant.each_step_keeps_one_side.{Keeps}
use Rattle.osi_machine.proofs.invariant.a_side_that_listens.{other_lacks, Listens, is_open, listens}
use Rattle.osi_machine.proofs.calls.a_call_and_its_unit.{Sending, Sends, Shift, TokensAfter, acts_held, adds_nothing, none_never}
use Rattle.osi_machine.proofs.calls.a_call_and_its_unit.{numbers_stay, only, sending_stands, there, lively_shift}
use Rattle.osi_machine.proofs.calls.an_answer_settles_the_tokens.{each_of}

-- ---- sets of tokens

pub tokens_same : (a b : Tokens) → ((t : Token) → has a t ≡ has b t) → a ≡ b
tokens_same a b h = λ i. record { data_token = h data_token i; minor = h minor i; major = h major i; release = h release i }

pub is_empty_of : (a : Tokens) → ((t : Token) → has a t ≡ false) → is_empty a ≡ true
unfolding is_empty
is_empty_of a h = grind (arith, h data_token, h minor, h major, h release)

pub disjoint_of : (a b : Tokens) → ((t : Token) → (has a t && has b t) ≡ false) → is_disjoint a b ≡ true
unfolding is_disjoint
disjoint_of a b h = each_of (λ t. not (has a t && has b t)) (λ t. ap not (h t))

pub disjoint_has : (a b : Tokens) (t : Token) → is_disjoint a b ≡ true → (has a t && has b t) ≡ false
unfolding is_disjoint
disjoint_has a b t h = not-true _ (each_has (λ t. not (has a t && has b t)) t h)

pub within_has : (a b : Tokens) (t : Token) → is_within a b ≡ true → has a t ≡ true → has b t ≡ true
unfolding is_within
within_has a b t h k = cut_or (has a t) (has b t) (each_has (λ t. not (has a t) || has b t) t h) k

-- ---- fewer tokens

abbrev pub less : Tokens → State → State
less k s = record s { held = without s.held k }

still_lacks : (k : Tokens) (s : State) (t : Token) → lacks s t ≡ true → lacks (less k s) t ≡ true
still_lacks k s t h = grind (arith, without_has)

two_lack : (a b c d : Bool) → (a ≡ true → c ≡ true) → (b ≡ true → d ≡ true) → (a && b) ≡ true → (c && d) ≡ true
two_lack a b c d f g h = let p = and_parts a b h in let q = f p.0 in let r = g p.1 in rw (q, r) refl

-- a good unit stays good
fewer_good : (k : Tokens) (s : State) (u : Meaning) → Good s u → Good (less k s) u
fewer_good k s (GT j) g = grind (arith, and_parts, and_from, disjoint_of, disjoint_has, without_has)
fewer_good k s (FN o) g = record { expected = g.expected; met = (grind (arith, is_empty_of, without, without_has, empty_has), tt) }
fewer_good k s u g = search (arith, two_lack, still_lacks)

-- ---- what is in flight to it

-- a side that holds all of these tokens, one at least, and asks for nothing but the answer to a major point
pub record Gives (k : Tokens) (s : State) : Type 0 where
  pub phase : may_ask s.phase ≡ true
  pub all : (t : Token) → has k t ≡ true → has s.held t ≡ true
  pub one : is_empty k ≡ false

-- giving and getting other tokens, in either order
given_and_got : (k j : Tokens) (s : State) → Gives k s → is_disjoint j s.held ≡ true
    → united (without s.held k) j ≡ without (united s.held j) k
given_and_got k j s h d = tokens_same _ _ (search (arith, united_has, without, without_has, disjoint_has, united))

-- what such a unit leaves
fewer_becomes : (k : Tokens) (s : State) (u : Meaning) → is_plain u ≡ true → Good s u → stops s u ≡ false → Gives k s
    → (becomes (less k s) u ≡ less k (becomes s u)) × Gives k (becomes s u)
unfolding stands
fewer_becomes k s u p g st h = search (arith, excluded, and_parts, given_and_got, united_has, or_left, is_empty_of, empty_has)

abbrev give_shift : Tokens → Shift
give_shift k = lively_shift (less k) (Gives k) (λ s i. implied may_ask is_lively refl s.phase i.phase) (λ s. refl) (λ s. assumption)
    (λ s u i p g. record { good = fewer_good k s u g; step = λ st. fewer_becomes k s u p g st i })

-- ---- what is given

pub record Giving (w : Core) (k : Tokens) : Type 0 where
  pub phase : may_give w.own.session.phase ≡ true
  pub selected : is_within k (available w.own.session.units) ≡ true
  pub held : is_within k w.own.session.held ≡ true
  pub one : is_empty k ≡ false

module _ (w : Core) (k : Tokens) (g : Giving w k) (h : Stands w) where
  side : Listens w.own w.peer
  side = listens w h (implied may_give is_open refl w.own.session.phase g.phase)

  sends : Sends w (give_shift k) (GT k)
  sends = record { now = grind (arith, within_has); none = none_never w.peer.sent; unit = assumption }

  there_selected : is_within k (available (there w).units) ≡ true
  there_selected = ap (λ (u : FunctionalUnits). is_within k (available u)) side.there_units ∙ g.selected

  -- what is given was held, and the other lacks it
  owned_by : (t : Token) → has k t ≡ true → is_own (w.owner t) ≡ true
  owned_by t p = sym (h.own.meeting.holds t) ∙ within_has k w.own.session.held t g.held p

  apart : may_ask (there w).phase ≡ true → (t : Token) → (has k t && has (there w).held t) ≡ false
  apart asks t = by_test (has k t)
      (λ e. rw e (other_lacks w t h side (inl (within_has k w.own.session.held t g.held e))
      (implied may_ask may_hold refl (there w).phase asks)))
      (λ e. rw e refl)

  -- and it is available
  no_other : (u : FunctionalUnits) (t : Token) → is_within k (available u) ≡ true → has (available u) t ≡ false → has k t ≡ false
  no_other u t within e = by_test (has k t) (λ p. absurd (let a = within_has k (available u) t within p in cc)) (λ p. p)

  tokens : TokensAfter w (give_shift k) (GT k) (passed_to ToThem k w.owner)
  tokens =
      let here_selected = ap (λ (u : FunctionalUnits). is_within k (available u)) side.units ∙ g.selected in
      let acts = acts_held w (give_shift k) (GT k) sends h in
      search (arith, without_has, owned_by, united_has, no_other, there_selected, side.all)

  give_sending : Sending w (give_shift k) (only (GT k) (passed_to ToThem k w.owner))
  give_sending = record {
    sends = sends;
    good = λ q i.
        let asks = phase_there may_ask may_ask refl h.own i.phase in
        record { expected = asks; met = (and_from _ _ there_selected (disjoint_of k (there w).held (apart asks)), tt) };
    meets = λ q i. h.own.meeting.meets;
    adds = adds_nothing w (GT k) (passed_to ToThem k w.owner) h (λ s v. refl) refl;
    numbers = numbers_stay w (give_shift k) (GT k) sends h (λ s. refl) (λ s. refl);
    tokens = tokens;
    one_way = grind (arith, list_any_append);
  }

pub give_stands : (k : Tokens) → Keeps (Give k)
give_stands k w q h =
    sending_stands w (give_shift k) (only (GT k) (passed_to ToThem k w.owner))
    (give_sending w k (record {
      phase = q.phase;
      selected = q.needed.0;
      held = q.needed.1.0;
      one = not-true (is_empty k) q.needed.1.1.0;
    }) h) h q.kept
