-- What follows the acts of a line twice, one after the other, follows them; so TSDUs that are sent together are acts too.
-- For the law on carriers and their lines.
use Rattle.osi_blameless.proofs.transport.Vocabulary.{arith, [], append_assoc, length, List, Option, refl, Some, subst, ℕ, ◌++◌, ◌∙◌, ◌∷◌}
use Rattle.osi_blameless.proofs.transport.Vocabulary.{◌≡◌}
use Rattle.osi_blameless.proofs.transport.Vocabulary.{◌≤◌, flat_map-append, append-nil, AllByRecursion, Value, longest_tsdu, Standing}
use Rattle.osi_blameless.proofs.transport.Vocabulary.{with_tsdu, put_here}
use Rattle.osi_blameless.proofs.transport.Vocabulary.{open_link, sent, sent_all, pumped, value_at, Follows, link_now, Line, put_sent}
use Rattle.osi_blameless.proofs.transport.Vocabulary.{put_together, State}
use Rattle.osi_blameless.proofs.transport.lines.a_carrier_follows_lines.{follows_sent, open_is}
use Rattle.osi_blameless.proofs.transport.what_each_thing_keeps_all_of_them_keep.{along_join}
use Rattle.osi_blameless.proofs.transport.Vocabulary.{Acts, ActsAlong}
use Rattle.osi_blameless.proofs.transport.Vocabulary.{None, linked, put_other, value_at}
use Rattle.osi_carrier.specs.Calls.{sent_on}

-- ---- one after the other

abbrev line_with : Line → Option Standing → List Value → List Value → Line
line_with line link put coming = record line { end = link; put = put; coming = coming }

pub follows_then : (r peer : ℕ) (a b us vs : List Value) (old mid new : State) → Follows r peer a us old mid →
    Follows r peer b vs mid new → Follows r peer (a ++ b) (us ++ vs) old new
follows_then r peer a b us vs old mid new f g = record {
  acts = f.acts ++ g.acts;
  outgoing = grind (arith, append_assoc, flat_map-append);
  along = λ d line later is coming.
      let next : Line = line_with line (link_now (value_at r mid.live)) (line.put ++ us) (b ++ later) in
      let first = f.along d line (b ++ later) is (coming ∙ append_assoc a b later) in
      subst (λ (l : List Value). ActsAlong d r peer line (f.acts ++ g.acts) (line_with line (link_now (value_at r new.live)) l later))
      (append_assoc line.put us vs)
      (along_join (Acts d r peer) f.acts g.acts line next
      (line_with line (link_now (value_at r new.live)) ((line.put ++ us) ++ vs) later) first
      (g.along d next later refl refl));
}

-- ---- TSDUs that are sent together

-- the connection is still open, with this link
pub still_open : (r peer : ℕ) (tsdu : List ℕ) (s : State) (link : Standing) → open_link r s ≡ Some (peer, link) →
    open_link r (sent r tsdu s) ≡ Some (peer, pumped (with_tsdu link tsdu))
still_open r peer tsdu s link e = grind (arith, open_is, put_here)

pub follows_together : (r peer : ℕ) (tsdus : List (List ℕ)) (s : State) (link : Standing) → open_link r s ≡ Some (peer, link) →
    AllByRecursion (λ (tsdu : List ℕ). length tsdu ≤ longest_tsdu) tsdus → Follows r peer [] (put_together r tsdus s) s (sent_all r tsdus s)
follows_together r peer [] s link e short = grind (arith, append-nil)
follows_together r peer (tsdu ∷ tsdus) s link e (one, more) =
    follows_then r peer [] [] (put_sent tsdu (open_link r s)) (put_together r tsdus (sent r tsdu s)) s (sent r tsdu s)
    (sent_all r tsdus (sent r tsdu s)) (follows_sent r peer tsdu s link e one)
    (follows_together r peer tsdus (sent r tsdu s) (pumped (with_tsdu link tsdu)) (still_open r peer tsdu s link e) more)

-- ---- and what that leaves of each connection

pub open_of : (r peer : ℕ) (link : Standing) (s : State) → s.ended ≡ None → value_at r s.live ≡ Some (linked peer link) →
    open_link r s ≡ Some (peer, link)
open_of r peer link s lasts h = grind arith

pub rows_sent : (m r : ℕ) (tsdu : List ℕ) (o : Option (ℕ × Standing)) (s : State) → (m ≡ r → ⊥) →
    value_at m (sent_on r tsdu o s).live ≡ value_at m s.live
rows_sent m r tsdu o s other = grind (arith, put_other)

pub rows_all : (m r : ℕ) (tsdus : List (List ℕ)) (s : State) → (m ≡ r → ⊥) → value_at m (sent_all r tsdus s).live ≡ value_at m s.live
rows_all m r [] s other = refl
rows_all m r (tsdu ∷ tsdus) s other = rows_all m r tsdus (sent r tsdu s) other ∙ rows_sent m r tsdu (open_link r s) s other

-- the link after TSDUs that were sent together
pub all_open : (r peer : ℕ) (tsdus : List (List ℕ)) (s : State) (link : Standing) → open_link r s ≡ Some (peer, link) →
    (l : Standing) × (open_link r (sent_all r tsdus s) ≡ Some (peer, l))
all_open r peer [] s link e = (link, e)
all_open r peer (tsdu ∷ tsdus) s link e =
    all_open r peer tsdus (sent r tsdu s) (pumped (with_tsdu link tsdu)) (still_open r peer tsdu s link e)

pub all_none : (r : ℕ) (tsdus : List (List ℕ)) (s : State) → open_link r s ≡ None →
    (sent_all r tsdus s ≡ s) × (put_together r tsdus s ≡ [])
all_none r [] s h = (refl, refl)
all_none r (tsdu ∷ tsdus) s h = grind (arith, all_none r tsdus s h)
