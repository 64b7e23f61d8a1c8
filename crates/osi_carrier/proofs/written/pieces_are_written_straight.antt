-- TSDUs are written straight from their octets, or from their heads and pieces, as far as their units may go now.
-- For `write_all`, `write_some` and `write_pieces` of links.
use Rattle.osi_carrier.proofs.Vocabulary.{append-nil, drained_leaves, drained_none, given_one_by_one, one_by_one, Standing, next, with_tsdu}
use Rattle.osi_carrier.proofs.Vocabulary.{with_tsdus, written_by, written_for, packets, map-append, ◌≡◌, ℕ, ◌+◌, ◌<◌, ◌≤◌, Bool, true}
use Rattle.osi_carrier.proofs.Vocabulary.{false, List, [], ◌∷◌, ◌++◌, length, take, drop, arith, append_assoc, length-append, Option, None}
use Rattle.osi_carrier.proofs.Vocabulary.{pumped, get_or, map, drop_more, drained_ends, class_0, class_2, Ends, Flow, tsdus_from, FitTsdus}
use Rattle.osi_carrier.proofs.Vocabulary.{LeavesRest, Pieces}
use Rattle.osi_carrier.proofs.written.octets_are_cut_into_tsdus.{cut_next}
use Rattle.osi_carrier.proofs.written.all_that_a_link_gives.{packets_join}

-- Some TSDUs were written whole after the octets `before`. This is the link after them, and `rest` are the others. The
-- end is this link after they are handed in too, and `target` are all units that are to be written.
pub record IsSending (peer : ℕ) (end : Standing) (target before : List ℕ) (link : Standing) (rest : List (List ℕ)) (octets : List ℕ)
    (spare : ℕ) : Type 0 where
  pub quiet : next link ≡ None
  pub alone : link.ends.unsent ≡ []
  pub limit : 0 < link.ends.limit
  pub leads : one_by_one link rest ≡ end
  pub more : List ℕ
  pub is : octets ≡ before ++ more
  pub all : more ++ packets (written_for peer link rest) ≡ target
  pub room : length (packets (written_for peer link rest)) ≤ spare

pub sending_first : (peer : ℕ) (link : Standing) (tsdus : List (List ℕ)) (before : List ℕ) (spare : ℕ) →
    next link ≡ None → link.ends.unsent ≡ [] → 0 < link.ends.limit → length (packets (written_for peer link tsdus)) ≤ spare →
    IsSending peer (one_by_one link tsdus) (packets (written_for peer link tsdus)) before link tsdus before spare
sending_first peer link tsdus before spare quiet alone limit room = grind (arith, append-nil)

-- the next of several is the next to be written
pub next_of_several : (p : Pieces) (peer : ℕ) (end : Standing) (target before : List ℕ) (link : Standing)
    (head rest piece behind octets : List ℕ) (spare : ℕ) → FitTsdus p → p.size < length rest → piece ≡ take p.size rest →
    behind ≡ drop p.size rest →
    IsSending peer end target before link (tsdus_from p head rest) octets spare →
    IsSending peer end target before link ((head ++ piece) ∷ tsdus_from p p.middle.now behind) octets spare
next_of_several p peer end target before link head rest piece behind octets spare fit long first after h = grind (arith, cut_next)

-- and so is the last
pub last_of_all : (p : Pieces) (peer : ℕ) (end : Standing) (target before : List ℕ) (link : Standing) (head rest octets : List ℕ)
    (spare : ℕ) → length rest ≤ p.size → IsSending peer end target before link (tsdus_from p head rest) octets spare →
    IsSending peer end target before link ((p.last.now ++ rest) ∷ []) octets spare
last_of_all p peer end target before link head rest octets spare short h = grind arith

-- there is room for the first where there is for all
pub first_room : (peer : ℕ) (link : Standing) (tsdu : List ℕ) (rest : List (List ℕ)) →
    length (packets (written_for peer link (tsdu ∷ rest)))
    ≡ length (packets (written_by peer (with_tsdu link tsdu))) + length (packets (written_for peer (pumped (with_tsdu link tsdu)) rest))
first_room peer link tsdu rest = grind (arith, length-append, map-append, packets_join)

-- there is room for its units
pub next_room : (peer : ℕ) (end : Standing) (target before : List ℕ) (link : Standing) (tsdu : List ℕ) (rest : List (List ℕ))
    (octets : List ℕ) (spare : ℕ) → IsSending peer end target before link (tsdu ∷ rest) octets spare →
    length (packets (written_by peer (with_tsdu link tsdu))) ≤ spare
next_room peer end target before link tsdu rest octets spare h = search (arith, first_room)

-- one TSDU of a list, and those after it
pub rest_from : {V : Type 0} (items : V → List ℕ) (vs : List V) (i : ℕ) (v : V) (octets : List ℕ) →
    i < length vs → v ≡ get_or vs i v → octets ≡ items v →
    map items (drop i vs) ≡ octets ∷ map items (drop (i + 1) vs)
rest_from items vs i v octets within is same = grind (arith, drop_more)

-- ---- it was written whole

pub sending_next : (peer : ℕ) (end : Standing) (target before : List ℕ) (link now : Standing) (tsdu : List ℕ) (rest : List (List ℕ))
    (octets after : List ℕ) (spare left : ℕ) → IsSending peer end target before link (tsdu ∷ rest) octets spare →
    LeavesRest true link tsdu now → next now ≡ None → now.ends.unsent ≡ [] →
    after ≡ octets ++ packets (written_by peer (with_tsdu link tsdu)) → length octets + spare ≤ length after + left →
    IsSending peer end target before now rest after left
sending_next peer end target before link now tsdu rest octets after spare left h is quiet alone put kept =
    grind (arith, length-append, append_assoc, drained_leaves, map-append, packets_join)

-- ---- what waits keeps the others waiting

stays_by : (e : Ends) (flow : Option Flow) (t : List ℕ) → next (record { ends = e; flow = flow }) ≡ None → (e.unsent ≡ [] → ⊥) →
    next (with_tsdu (record { ends = e; flow = flow }) t) ≡ None
stays_by e flow t quiet some = grind (arith, class_0, class_2)

-- none of them is given
pub record AllStay (link : Standing) (ts : List (List ℕ)) : Type 0 where
  pub kept : one_by_one link ts ≡ with_tsdus link ts
  pub none : given_one_by_one link ts ≡ []

all_stay : (link : Standing) (ts : List (List ℕ)) → next link ≡ None → (link.ends.unsent ≡ [] → ⊥) → AllStay link ts
all_stay link [] quiet some = grind (arith, append-nil)
all_stay link (t ∷ ts) quiet some =
    let then = with_tsdu link t in
    let still = stays_by link.ends link.flow t quiet some in
    let drain = drained_none then still in
    let more = all_stay then ts still (grind arith) in
    grind (arith, append_assoc)

-- ---- the end

-- all units that may go were written, and what is left is to be handed in
pub record AreSent (end : Standing) (target before : List ℕ) (link : Standing) (octets : List ℕ) : Type 0 where
  pub link_is : with_tsdus link end.ends.unsent ≡ end
  pub written : octets ≡ before ++ target

-- not all units of the next may go
pub sending_stops : (peer : ℕ) (end : Standing) (target before : List ℕ) (link now : Standing) (tsdu : List ℕ) (rest : List (List ℕ))
    (octets after : List ℕ) (spare : ℕ) → IsSending peer end target before link (tsdu ∷ rest) octets spare →
    LeavesRest false link tsdu now → now.ends.unsent ≡ [] →
    after ≡ octets ++ packets (written_by peer (with_tsdu link tsdu)) → AreSent end target before now after
sending_stops peer end target before link now tsdu rest octets after spare h is alone put =
    grind (arith, drained_ends, all_stay, append_assoc, append-nil)

sent_all : (peer : ℕ) (end : Standing) (target before : List ℕ) (link : Standing) (octets : List ℕ) (spare : ℕ) →
    IsSending peer end target before link [] octets spare → AreSent end target before link octets
sent_all peer end target before link octets spare h = grind (arith, append-nil)

-- the last was written, or as much of it as may go
pub sending_last : (b : Bool) (peer : ℕ) (end : Standing) (target before : List ℕ) (link now : Standing) (tsdu : List ℕ)
    (octets after : List ℕ) (spare left : ℕ) → IsSending peer end target before link (tsdu ∷ []) octets spare →
    LeavesRest b link tsdu now → next now ≡ None → now.ends.unsent ≡ [] →
    after ≡ octets ++ packets (written_by peer (with_tsdu link tsdu)) → length octets + spare ≤ length after + left →
    AreSent end target before now after
sending_last true peer end target before link now tsdu octets after spare left h is quiet alone put kept =
    sent_all peer end target before now after left
    (sending_next peer end target before link now tsdu [] octets after spare left h is quiet alone put kept)
sending_last false peer end target before link now tsdu octets after spare left h is quiet alone put kept = search (arith, sending_stops)

-- a link that keeps nothing is at the end
pub none_kept : (now end : Standing) → now.ends.unsent ≡ [] → end.ends.unsent ≡ [] → with_tsdus now end.ends.unsent ≡ end → now ≡ end
none_kept now end alone none is = grind (arith, append-nil)
