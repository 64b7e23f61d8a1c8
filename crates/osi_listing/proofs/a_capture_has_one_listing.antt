-- A capture has one listing: its packets and its ending are determined, and with them the entries,
-- the lines and the status.
use Rattle.osi_listing.proofs.Vocabulary.{arith, ◌≡◌, ℕ, List, [], ◌∷◌, ◌++◌, sym, ap₂, subst, flat_map, Cuts, Ending, append_assoc}
use Rattle.osi_listing.proofs.Vocabulary.{append-nil, Counts, Lister, IsListedSoFar, Feeds, FeedsAll, Entry, packet_entries, ending_entry}
use Rattle.osi_listing.proofs.Vocabulary.{IsListing}

all_entries : List (List ℕ) → Ending → List Entry
all_entries units ending = packet_entries 0 [] units ++ ending_entry ending ∷ []

pub one_listing : ((s : List ℕ) (us vs : List (List ℕ)) (e f : Ending) → Cuts s us e → Cuts s vs f → (us ≡ vs) × (e ≡ f)) →
    (octets lines others : List ℕ) (status other : ℕ) → IsListing octets lines status → IsListing octets others other →
    (lines ≡ others) × (status ≡ other)
unfolding all_entries
one_listing one octets lines others status other h k =
    let cut = one octets h.units k.units h.ending k.ending h.cut k.cut in
    let same : all_entries h.units h.ending ≡ all_entries k.units k.ending = ap₂ all_entries cut.0 cut.1 in grind arith

pub one_so_far : ((s : List ℕ) (us vs : List (List ℕ)) (e f : Ending) → Cuts s us e → Cuts s vs f → (us ≡ vs) × (e ≡ f)) →
    (octets lines others : List ℕ) (counts other : Counts) → IsListedSoFar octets lines counts → IsListedSoFar octets others other →
    (lines ≡ others) × (counts ≡ other)
one_so_far one octets lines others counts other h k =
    let cut = one octets h.units k.units h.ending k.ending h.cut k.cut in
    grind arith

-- ---- pieces, one after the other

fed_both : (old mid new : Lister) (piece more before text after : List ℕ) → Feeds old piece before text mid →
    Feeds mid more text after new →
    Feeds old (piece ++ more) before after new
fed_both old mid new piece more before text after h k = λ octets lines fed.
    grind (arith, append_assoc)

pub fed_all : (old new : Lister) (pieces : List (List ℕ)) (before after : List ℕ) → FeedsAll old pieces before after new →
    Feeds old (flat_map (λ piece. piece) pieces) before after new
fed_all old new [] before after h =
    subst (λ l. Feeds old [] before after l) (sym h.1) (subst (λ t. Feeds old [] before t old) (sym h.0) (grind (arith, append-nil)))
fed_all old new (piece ∷ pieces) before after h = search (arith, fed_both, fed_all h.0 new pieces h.1 after h.3)
