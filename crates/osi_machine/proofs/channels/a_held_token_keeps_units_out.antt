-- No unit that needs a token is in flight to its holder; what no unit changes once a connection is open.
-- For the calls that need a token, and for all steps of an open connection.
use Rattle.osi_machine.proofs.Vocabulary.{◌≡◌, refl, ◌∙◌, Bool, true, false, not, ◌&&◌, ◌||◌, List, [], ◌∷◌, arith, ℕ, ◌⊎◌, inl, inr}
use Rattle.osi_machine.proofs.Vocabulary.{and_parts, or_left, State, Tokens, Meaning, Token, data_token, has, set_of, each, no_token}
use Rattle.osi_machine.proofs.Vocabulary.{is_empty, without, united, may_hold, becomes, Good, next, Item, is_plain, Fits, AllFit, stops}
use Rattle.osi_machine.proofs.Vocabulary.{heard, needs_token, heard_view, list_any, Phase, FunctionalUnits, GT, may_ask, is_ready}
use Rattle.osi_machine.proofs.Vocabulary.{is_release_due, flush, is_opening}
use Rattle.osi_machine.proofs.basics.what_holds_in_each_phase.{excluded, by_test}
use Rattle.osi_machine.proofs.channels.a_unit_is_dropped_bad_or_acted_on.{fit_cases, restart_due}
use Rattle.osi_machine.proofs.channels.what_every_unit_in_flight_keeps.{kept_all, kept_heard, until_heard}
use Rattle.osi_machine.proofs.channels.a_deaf_side_acts_on_nothing.{not_both, AllEmpty, after_due}

-- ---- words about sets, for each token

pub has_set : (p : Token → Bool) (t : Token) → has (set_of p) t ≡ p t
has_set p t = grind arith

pub each_has : (p : Token → Bool) (t : Token) → each p ≡ true → p t ≡ true
each_has p t h = grind arith

pub empty_has : (a : Tokens) (t : Token) → is_empty a ≡ true → has a t ≡ false
unfolding is_empty
empty_has a t h = grind arith

pub united_has : (a b : Tokens) (t : Token) → has (united a b) t ≡ (has a t || has b t)
unfolding united
united_has a b t = has_set (λ t. has a t || has b t) t

pub without_has : (a b : Tokens) (t : Token) → has (without a b) t ≡ (has a t && not (has b t))
unfolding without
without_has a b t = has_set (λ t. has a t && not (has b t)) t

pub none_held : (t : Token) → has no_token t ≡ false
none_held t = has_set (λ t. false) t

-- a side that holds a token, in a phase in which one may be held
pub record Holds (t : Token) (s : State) : Type 0 where
  pub held : has s.held t ≡ true
  pub phase : may_hold s.phase ≡ true

-- it still holds it, until a restart takes effect
pub becomes_holds : (t : Token) (s : State) (u : Meaning) → is_plain u ≡ true → Good s u → stops s u ≡ false → Holds t s
    → Holds t (becomes s u)
becomes_holds t s u p g st h = search (arith, excluded, united_has, or_left)

-- if this side holds the data token, nothing that is in flight to it before a restart shows anything
pub nothing_to_see : (s : State) (us : List Meaning) (v : List Item) → Holds data_token s → AllFit s us → heard_view s us v ≡ v
nothing_to_see s us v h f =
    (until_heard (λ q w. Holds data_token q × (w ≡ v))
    (λ q u w p g st k. (becomes_holds data_token q u p g st k.0, grind arith))
    s us v (h, refl) f).1

-- it still holds the token after it has taken everything before a restart
pub heard_holds : (t : Token) (s : State) (us : List Meaning) → Holds t s → AllFit s us → Holds t (heard s us)
heard_holds t s us h f = until_heard (λ q w. Holds t q) (λ q u w p g st k. becomes_holds t q u p g st k) s us [] h f

-- ---- units and base

-- an open connection, with these units and this base
pub record Open (v : FunctionalUnits) (b : ℕ) (s : State) : Type 0 where
  pub phase : is_opening s.phase ≡ false
  pub units : s.units ≡ v
  pub base : s.base ≡ b

pub becomes_open : (v : FunctionalUnits) (b : ℕ) (s : State) (u : Meaning) → is_plain u ≡ true → Good s u → Open v b s
    → Open v b (becomes s u)
becomes_open v b s u p g h = grind arith

next_open : (v : FunctionalUnits) (b : ℕ) (s : State) (u : Meaning) → Open v b s → Fits s u → Open v b (next s u)
next_open v b s u h f = fit_cases (Open v b) s u f h (λ d g. becomes_open v b s u f.plain g h)

pub flush_open : (s : State) (us : List Meaning) → is_opening s.phase ≡ false → AllFit s us → Open s.units s.base (flush s us)
flush_open s us h f = kept_all (Open s.units s.base) (next_open s.units s.base) s us (record { phase = h; units = refl; base = refl }) f

pub heard_open : (s : State) (us : List Meaning) → is_opening s.phase ≡ false → AllFit s us → Open s.units s.base (heard s us)
heard_open s us h f = kept_heard (Open s.units s.base) (next_open s.units s.base) s us (record { phase = h; units = refl; base = refl }) f

-- ---- a side that requests nothing, and owes at most an answer to a major point or a release

abbrev pub is_lively : Phase → Bool
is_lively p = may_ask p || is_release_due p

abbrev pub Lively : State → Type 0
Lively s = is_lively s.phase ≡ true

-- it stays so, until a restart takes effect
pub becomes_lively : (s : State) (u : Meaning) → is_plain u ≡ true → Good s u → stops s u ≡ false → Lively s → Lively (becomes s u)
becomes_lively s u p g st h = grind arith

-- ---- a side that may send data: to it no major point comes

abbrev pub is_talking : Phase → Bool
is_talking p = is_ready p || is_release_due p

pub record Talks (s : State) : Type 0 where
  pub phase : is_talking s.phase ≡ true
  pub right : (has s.held data_token ≡ true) ⊎ (s.units.major ≡ false)

more_right : (s : State) (k : Tokens) (held : Tokens) → ((t : Token) → has held t ≡ (has s.held t || has k t))
    → (has s.held data_token ≡ true) ⊎ (s.units.major ≡ false)
    → (has held data_token ≡ true) ⊎ (s.units.major ≡ false)
more_right s k held e (inl h) = inl (e data_token ∙ or_left (has s.held data_token) (has k data_token) h)
more_right s k held e (inr h) = inr h

pub becomes_talks : (s : State) (u : Meaning) → is_plain u ≡ true → Good s u → stops s u ≡ false → Talks s → Talks (becomes s u)
becomes_talks s (GT k) p g st h = record { phase = h.phase; right = more_right s k _ (united_has s.held k) h.right }
becomes_talks s u p g st h = grind (arith, excluded)

-- ---- nothing that needs a token arrives at a side that holds it

empty_needs : (t : Token) (us : List Meaning) → AllEmpty us → list_any (needs_token t) us ≡ false
empty_needs t [] h = refl
empty_needs t (u ∷ us) h = grind (arith, empty_needs t us h.1)

pub none_needs : (t : Token) (s : State) (us : List Meaning) → Holds t s → AllFit s us → list_any (needs_token t) us ≡ false
none_needs t s [] h f = refl
none_needs t s (u ∷ us) h f =
    let one : needs_token t u ≡ false = grind (arith, excluded, not_both, and_parts, empty_has) in
    by_test (stops s u)
    (λ e. rw (one, empty_needs t us (after_due (next s u) us (restart_due s u e) f.1)) refl)
    (λ e. rw (
      one,
      none_needs t (next s u) us
          (fit_cases (Holds t) s u f.0 h (λ d g. becomes_holds t s u f.0.plain g e h)) f.1,
    ) refl)
