-- What a carrier does and puts doesn't depend on the events that it has still to report, and the octets that it has still to send.
-- For what a turn of an end does to its carrier.
use Rattle.osi_blameless.proofs.Vocabulary.{[], ap, List, Option, refl, sym, ℕ, ◌++◌, ◌∙◌, ◌∷◌, ◌≡◌, append-nil, units_only}
use Rattle.osi_blameless.proofs.Vocabulary.{written_spells, Connect, Value, Fits, Standing, written, apart_all, Happening, react, put_back}
use Rattle.osi_blameless.proofs.Vocabulary.{user, user_does, sends, UserCall, Carrier as State, Live, Rows, arith, open_link, sent}
use Rattle.osi_blameless.proofs.Vocabulary.{put_for, put_sent, put_together, to_connection, to_linked, to_only, answers_request}
use Rattle.osi_carrier.specs.Packets.{after_packet}
use Rattle.osi_carrier.specs.Runs.{packet}

-- a carrier without them
abbrev pub bare : State → State
bare s = record s { outgoing = []; events = [] }

-- it does the same if others are in front
abbrev pub IsApart : (State → State) → Type 0
IsApart f = (e : List Happening) (o : List ℕ) (s : State) → f (put_back e o s) ≡ put_back e o (f s)

pub call_apart : (call : UserCall) → IsApart (user_does call)
call_apart call e o s = apart_all e o (user call ∷ []) s

-- a unit that can be written is a packet of its own
pub unit_apart : (v : Value) → Fits v → IsApart (react v)
unfolding after_packet
unit_apart v fits e o s =
    grind (arith, units_only (written v) (v ∷ []) (written_spells v fits), written_spells v fits, apart_all e o (packet (written v) ∷ []) s)

back_again : (s : State) → put_back s.events s.outgoing (bare s) ≡ s
back_again s = λ i. record s { events = append-nil s.events i; outgoing = append-nil s.outgoing i }

module _ (f : State → State) (apart : IsApart f) where
  done_so : (s : State) → f s ≡ put_back s.events s.outgoing (f (bare s))
  done_so s = ap f (sym (back_again s)) ∙ apart s.events s.outgoing (bare s)

  -- two carriers that are the same apart from them stay so
  pub done_alike : (s c : State) → bare s ≡ bare c → bare (f s) ≡ bare (f c)
  done_alike s c e = ap bare (done_so s) ∙ ap (λ (x : State). bare (f x)) e ∙ sym (ap bare (done_so c))

-- ---- what is put

module _ (s : State) where
  same_request : (c : Connect) → (answers_request c (bare s)).put ≡ (answers_request c s).put
  same_request c = grind arith

  same_linked : (r peer : ℕ) (link : Standing) (unit : Value) → (to_linked r peer link unit (bare s)).put ≡
      (to_linked r peer link unit s).put
  same_linked r peer link unit = grind arith

  same_connection : (r : ℕ) (o : Option Live) (unit : Value) → (to_connection r o unit (bare s)).put ≡ (to_connection r o unit s).put
  same_connection r o unit = grind (arith, same_linked)

  same_only : (live : Rows Live) (unit : Value) → (to_only live unit (bare s)).put ≡ (to_only live unit s).put
  same_only live unit = grind (arith, same_connection)

  same_put : (unit : Value) → put_for unit (bare s) ≡ put_for unit s
  same_put unit = grind (arith, same_request, same_connection, same_only)

-- two carriers that are the same apart from what waits put the same
pub put_alike : (unit : Value) (s c : State) → bare s ≡ bare c → put_for unit s ≡ put_for unit c
put_alike unit s c e = sym (same_put s unit) ∙ ap (put_for unit) e ∙ same_put c unit

pub together_alike : (r : ℕ) (tsdus : List (List ℕ)) (s c : State) → bare s ≡ bare c → put_together r tsdus s ≡ put_together r tsdus c
together_alike r [] s c e = refl
together_alike r (tsdu ∷ tsdus) s c e =
    let first : put_sent tsdu (open_link r s) ≡ put_sent tsdu (open_link r c) = ap (λ (x : State). put_sent tsdu (open_link r x)) e in
    let more = together_alike r tsdus (sent r tsdu s) (sent r tsdu c)
    (done_alike (user_does (sends r tsdu)) (call_apart (sends r tsdu)) s c e) in
    λ i. first i ++ more i
