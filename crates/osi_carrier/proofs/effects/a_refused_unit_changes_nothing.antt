-- When a link refuses a unit, nothing has changed yet; when it takes one, its row, the octets to send and the events have.
use Rattle.osi_carrier.proofs.Vocabulary.{append-nil, map-append, disconnect, Standing, LinkFault, Two, Happening, happening, faulted}
use Rattle.osi_carrier.proofs.Vocabulary.{breaks, taking, Rows, value_at, put, peer_in, link_in, Connection, linked, closing, State}
use Rattle.osi_carrier.proofs.Vocabulary.{packets, link_after, units_after, whole_after, tsdu, arith, ◌≡◌, ℕ, List, [], ◌∷◌, ◌++◌, length}
use Rattle.osi_carrier.proofs.Vocabulary.{map, take, Some, Result, Err, IsOk, refl, sym, ap, ◌∙◌, Event}
use Rattle.osi_carrier.proofs.references.what_is_open.{open_is}
use Rattle.osi_carrier.proofs.references.the_row_at_a_place.{put_same}

pub broke_rows : (r peer : ℕ) (live new : Rows Connection) (t : Result Standing LinkFault) (fault : LinkFault) → t ≡ Err fault →
    peer_in (value_at r live) ≡ Some peer → new ≡ put r (linked peer (link_after (link_in (value_at r live)) t)) live → new ≡ live
broke_rows r peer live new t fault e opened h = grind (arith, put_same, open_is)

pub broke_octets : (peer : ℕ) (before after : List ℕ) (t : Result Standing LinkFault) (fault : LinkFault) → t ≡ Err fault →
    after ≡ before ++ packets (units_after peer t) → after ≡ before
broke_octets peer before after t fault e h = h ∙ ap (λ u. before ++ packets (units_after peer u)) e ∙ append-nil before

pub broke_taking : (r peer : ℕ) (s mid new : State) (t : Result Standing LinkFault) (fault : LinkFault) → t ≡ Err fault → mid ≡ s →
    new ≡ (breaks r peer fault mid.class mid).state → new ≡ (taking r peer t s).state
broke_taking r peer s mid new t fault e same h = grind arith

-- ---- when it takes a unit

pub took_taking : (r peer : ℕ) (s now : State) (t : Result Standing LinkFault) (whole : List (List ℕ)) → IsOk t → whole ≡ whole_after t →
    now ≡ record s {
      live = put r (linked peer (link_after (link_in (value_at r s.live)) t)) s.live;
      outgoing = s.outgoing ++ packets (units_after peer t);
      events = s.events ++ map (tsdu r) whole;
    } →
    now ≡ (taking r peer t s).state
took_taking r peer s now h whole ok e h2 = grind arith

-- nothing stays of what was written after this many octets
pub undone : (octets more : List ℕ) → take (length octets) (octets ++ more) ≡ octets
undone [] more = refl
undone (x ∷ octets) more = ap (λ (l : List ℕ). x ∷ l) (undone octets more)

-- ---- what is changed of a state

pub changed : (s : State) (l k : Rows Connection) (o p : List ℕ) (e f : List Happening) → l ≡ k → o ≡ p → e ≡ f →
    record s { live = l; outgoing = o; events = e } ≡ record s { live = k; outgoing = p; events = f }
changed s l k o p e f x y z = cc

pub told : (event : Event) (events more now : List Event) → more ≡ events → now ≡ more ++ event ∷ [] →
    map happening now ≡ map happening events ++ happening event ∷ []
told event events more now same h = ap (map happening) (h ∙ ap (λ l. l ++ event ∷ []) same) ∙ map-append happening events (event ∷ [])

pub breaks_two : (r peer : ℕ) (fault : LinkFault) (s t : State) → s.class ≡ Some Two →
    t ≡ record s {
      live = put r (closing peer) s.live;
      outgoing = s.outgoing ++ packets (disconnect peer r 133 [] ∷ []);
      events = s.events ++ faulted r fault ∷ [];
    } →
    t ≡ (breaks r peer fault s.class s).state
breaks_two r peer fault s t class h = h ∙ sym (ap (λ k. (breaks r peer fault k s).state) class)
