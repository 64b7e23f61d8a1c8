-- What the link of a connection does as it takes a unit, and as its session hands in TSDUs; and what a session of another
-- connection leaves of it.
-- For the course of a connection.
use Rattle.osi_blameless.proofs.ends.Vocabulary.{[], ap, Bool, drop, false, inl, inr, List, map, None, Ok, Option, refl, Some, sym, ℕ, ◌∙◌}
use Rattle.osi_blameless.proofs.ends.Vocabulary.{◌∷◌}
use Rattle.osi_blameless.proofs.ends.Vocabulary.{◌≡◌, ◌≢◌, ◌⊎◌, append-nil, map-append, may_be_followed, Value, drained_leaves}
use Rattle.osi_blameless.proofs.ends.Vocabulary.{drained_moves}
use Rattle.osi_blameless.proofs.ends.Vocabulary.{all_given, Joining, Standing, taken, unit_of, with_tsdu, hand_out, Move, MovesAlong}
use Rattle.osi_blameless.proofs.ends.Vocabulary.{take_in}
use Rattle.osi_blameless.proofs.ends.Vocabulary.{tsdus_in, tsdus_out, put_other, put_here, closed_on, closed_with, open_link, sent}
use Rattle.osi_blameless.proofs.ends.Vocabulary.{sent_all}
use Rattle.osi_blameless.proofs.ends.Vocabulary.{sent_on, pumped, written_by, handed_out, value_at, closing, linked, State as Carrier}
use Rattle.osi_blameless.proofs.ends.Vocabulary.{SendError}
use Rattle.osi_blameless.proofs.ends.Vocabulary.{answers_by, sent_unless, IsShut, units_given, units_taken, arith, flat_map-append}
use Rattle.osi_blameless.proofs.ends.Vocabulary.{put_sent}
use Rattle.osi_blameless.proofs.ends.Vocabulary.{put_together}
use Rattle.osi_blameless.proofs.ends.links.what_calls_of_a_link_say.{HandsIn, gives, gives_none_in, gives_none_out, gives_units}
use Rattle.osi_blameless.proofs.ends.links.what_calls_of_a_link_say.{gives_untaken}
use Rattle.osi_blameless.proofs.ends.links.what_calls_of_a_link_say.{hands_more, hands_one, one_in}

-- ---- a link takes a unit

-- it has no whole TSDU, or one, and then no unit follows
abbrev pub HasFew : Value → List (List ℕ) → Type 0
HasFew v whole = (whole ≡ []) ⊎ ((tsdu : List ℕ) × (whole ≡ tsdu ∷ []) × (may_be_followed v ≡ false))

abbrev with_whole : Standing → List (List ℕ) → Standing
with_whole link whole = record link { ends = record link.ends { joining = record link.ends.joining { whole = whole } } }

-- The calls of a link as it takes a unit: it hands out the TSDU that became whole, and gives what may be given.
pub record TakesIn (v : Value) (link after : Standing) (told : List (List ℕ)) : Type 0 where
  pub moves : List Move
  pub along : MovesAlong link moves (pumped (handed_out after))
  pub into : tsdus_in moves ≡ []
  pub out : tsdus_out moves ≡ told
  pub given : units_given moves ≡ all_given (handed_out after)
  pub took : units_taken moves ≡ v ∷ []
  pub handed : (pumped (handed_out after)).ends.joining.whole ≡ []

pub takes_in : (link after : Standing) (v : Value) (told : List (List ℕ)) → after.ends.joining.whole ≡ told →
    HasFew v told → taken link v ≡ Ok after → TakesIn v link after told
takes_in link after v told is (inl none) took =
    let units = all_given (handed_out after) in
    let whole : after.ends.joining.whole ≡ [] = is ∙ none in
    let same : handed_out after ≡ after =
    ap (λ (l : List (List ℕ)). with_whole after (drop 1 l)) whole ∙ ap (with_whole after) (sym whole) in
    record {
      moves = take_in v ∷ gives units;
      along = grind (arith, gives, drained_moves);
      into = gives_none_in units;
      out = gives_none_out units ∙ sym none;
      given = gives_units units;
      took = ap (λ (l : List Value). v ∷ l) (gives_untaken units);
      handed = ap (λ (j : Joining). j.whole) (drained_leaves (handed_out after)).1 ∙ ap (λ (l : List (List ℕ)). drop 1 l) whole;
    }
takes_in link after v told is (inr (tsdu, one, alone)) took =
    let units = all_given (handed_out after) in
    let whole : after.ends.joining.whole ≡ tsdu ∷ [] = is ∙ one in
    let rest : drop 1 after.ends.joining.whole ≡ [] = ap (λ (l : List (List ℕ)). drop 1 l) whole in
    let front : after.ends.joining.whole ≡ tsdu ∷ drop 1 after.ends.joining.whole =
    whole ∙ ap (λ (l : List (List ℕ)). tsdu ∷ l) (sym rest) in
    record {
      moves = take_in v ∷ hand_out tsdu ∷ gives units;
      along = (after, took, (handed_out after, ap (with_whole after) front, drained_moves (handed_out after)));
      into = gives_none_in units;
      out = ap (λ (l : List (List ℕ)). tsdu ∷ l) (gives_none_out units) ∙ sym one;
      given = gives_units units;
      took = ap (λ (l : List Value). v ∷ l) (gives_untaken units);
      handed = ap (λ (j : Joining). j.whole) (drained_leaves (handed_out after)).1 ∙ rest;
    }

-- ---- the link of an open connection

pub link_shut : (r : ℕ) (c : Carrier) → IsShut (value_at r c.live) → open_link r c ≡ None
link_shut r c shut = grind arith

-- ---- its session hands in TSDUs

-- nothing else of the carrier changes
pub record IsSameBeside (old new : Carrier) : Type 0 where
  pub given : new.given ≡ old.given
  pub side : new.is_caller ≡ old.is_caller
  pub ended : new.ended ≡ old.ended
  pub events : new.events ≡ old.events

pub record Sends (r peer : ℕ) (link : Standing) (tsdus : List (List ℕ)) (old new : Carrier) : Type 0 where
  pub moves : List Move
  pub after : Standing
  pub hands : HandsIn link tsdus after moves
  pub here : value_at r new.live ≡ Some (linked peer after)
  pub put : map (unit_of peer) (units_given moves) ≡ put_together r tsdus old
  pub same : IsSameBeside old new

sends_none : (r peer : ℕ) (link : Standing) (c : Carrier) → value_at r c.live ≡ Some (linked peer link) → Sends r peer link [] c c
sends_none r peer link c here = grind arith

sends_one : (r peer : ℕ) (link : Standing) (tsdu : List ℕ) (c : Carrier) → c.ended ≡ None → value_at r c.live ≡ Some (linked peer link) →
    Sends r peer link (tsdu ∷ []) c (sent r tsdu c)
sends_one r peer link tsdu c lasts here =
    grind (
      arith,
      put_sent,
      one_in tsdu link,
      hands_one link tsdu,
      put_here r (linked peer (pumped (with_tsdu link tsdu))) (linked peer link) c.live here,
      gives_units (all_given (with_tsdu link tsdu)),
      append-nil (written_by peer (with_tsdu link tsdu)),
    )

sends_more : (r peer : ℕ) (link : Standing) (tsdu : List ℕ) (others : List (List ℕ)) (old new : Carrier)
    (a : Sends r peer link (tsdu ∷ []) old (sent r tsdu old)) → Sends r peer a.after others (sent r tsdu old) new →
    Sends r peer link (tsdu ∷ others) old new
sends_more r peer link tsdu others old new a b =
    grind (
      arith,
      hands_more link a.after b.after (tsdu ∷ []) others a.moves b.moves a.hands b.hands,
      flat_map-append,
      map-append (unit_of peer) (units_given a.moves) (units_given b.moves),
      append-nil (put_sent tsdu (open_link r old)),
      put_sent tsdu (open_link r old),
    )

pub sends_all : (r peer : ℕ) (link : Standing) (tsdus : List (List ℕ)) (c : Carrier) → c.ended ≡ None →
    value_at r c.live ≡ Some (linked peer link) → Sends r peer link tsdus c (sent_all r tsdus c)
sends_all r peer link [] c lasts here = sends_none r peer link c here
sends_all r peer link (tsdu ∷ tsdus) c lasts here =
    let one = sends_one r peer link tsdu c lasts here in
    grind (arith, sends_more, sends_all r peer one.after tsdus (sent r tsdu c) (one.same.ended ∙ lasts) one.here)

-- ---- it closes its connection

-- while the carrier lasts
pub closed_shut : (r peer : ℕ) (link : Standing) (c : Carrier) → c.ended ≡ None → value_at r c.live ≡ Some (linked peer link) →
    (closed_with r 128 c).ended ≡ None → value_at r (closed_with r 128 c).live ≡ Some (closing peer)
closed_shut r peer link c lasts here = grind (arith, put_here)

-- ---- a session of another connection

-- what it leaves of this one
pub record Leaves (r : ℕ) (old new : Carrier) : Type 0 where
  pub live : new.ended ≡ None → value_at r new.live ≡ value_at r old.live
  pub given : new.given ≡ old.given
  pub side : new.is_caller ≡ old.is_caller
  pub events : new.events ≡ old.events
  pub lasted : new.ended ≡ None → old.ended ≡ None

pub leaves_all : (r : ℕ) (c : Carrier) → Leaves r c c
leaves_all r c = record { live = λ h. refl; given = refl; side = refl; events = refl; lasted = λ h. h }

leaves_then : (r : ℕ) (a b c : Carrier) → Leaves r a b → Leaves r b c → Leaves r a c
leaves_then r a b c h k = grind arith

module _ (q r : ℕ) (ne : r ≢ q) where
  sent_leaves : (tsdu : List ℕ) (o : Option (ℕ × Standing)) (c : Carrier) → Leaves r c (sent_on q tsdu o c)
  sent_leaves tsdu h c = grind (arith, leaves_all, put_other)

  all_leave : (o : Option SendError) (tsdus : List (List ℕ)) (c : Carrier) → Leaves r c (sent_unless o q tsdus c)
  all_leave (Some e) tsdus c = leaves_all r c
  all_leave None [] c = leaves_all r c
  all_leave None (tsdu ∷ tsdus) c = grind (arith, leaves_then, sent_leaves, all_leave None tsdus (sent q tsdu c))

  pub closed_leaves : (o : Option (ℕ × Standing)) (c : Carrier) → open_link q c ≡ o → Leaves r c (closed_on q 128 o c)
  closed_leaves h c e = grind (arith, leaves_all, put_other)

  pub answers_leave : (closing : Bool) (tsdus : List (List ℕ)) (c : Carrier) → Leaves r c (answers_by closing q tsdus c)
  answers_leave h tsdus c = grind (arith, closed_leaves, all_leave)
