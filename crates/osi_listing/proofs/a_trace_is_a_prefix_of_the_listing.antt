-- A trace after one more piece, and after a fetch: what was given is still the listing, or a prefix of it. For `Trace`.
use Rattle.osi_listing.proofs.Vocabulary.{arith, ◌≡◌, ◌∙◌, ◌<◌, ◌⊎◌, ℕ, true, List, [], ◌++◌, refl, sym, ap, subst, inl, inr, false≢true}
use Rattle.osi_listing.proofs.Vocabulary.{append_assoc, append-nil, Counts, Lister, Keeping, Lines, Counters, Nothing, IsFed, Feeds}
use Rattle.osi_listing.proofs.Vocabulary.{IsListedSoFar, IsListedInPart, Stands, KeepsOn, CountsOn, CountsAlike, HasListed, FindsNoRoom}
use Rattle.osi_listing.proofs.Vocabulary.{LacksRoom, keeps_nothing, unfinished, counted_by, octets_fed}
use Rattle.osi_listing.proofs.what_is_written_is_the_listing.{stands_so_far}

-- a lister has listed these octets, of which these lines and perhaps more
pub listed_in_part : (lister : Lister) (octets given more : List ℕ) → IsFed lister octets (given ++ more) →
    IsListedInPart octets given (octets_fed lister) (counted_by lister)
listed_in_part lister octets given more h = record {
  took = octets;
  others = [];
  lines = given ++ more;
  more = more;
  passed = sym (append-nil octets);
  many = h.counted;
  listed = stands_so_far lister.stage lister.work octets (given ++ more) h.stands;
  gave = refl;
}

-- a trace stops before a piece, and has counted what it had counted
before_a_piece : (old new : Lister) (octets piece given : List ℕ) → CountsAlike old new →
    IsListedInPart octets given (octets_fed old) (counted_by old) →
    IsListedInPart (octets ++ piece) given (octets_fed new) (counted_by new)
before_a_piece old new octets piece given same h = record {
  took = h.took;
  others = h.others ++ piece;
  lines = h.lines;
  more = h.more;
  passed = ap (λ (o : List ℕ). o ++ piece) h.passed ∙ append_assoc h.took h.others piece;
  many = same.octets ∙ h.many;
  listed = subst (λ (counts : Counts). IsListedSoFar h.took h.lines counts) (sym same.counts) h.listed;
  gave = h.gave;
}

none_more : (lister : Lister) (octets given : List ℕ) → IsFed lister octets given → IsFed lister octets (given ++ [])
none_more lister octets given h = subst (λ (lines : List ℕ). IsFed lister octets lines) (sym (append-nil given)) h

-- a trace that kept lines, or that counted, stops before a piece
pub stops_lines : (k : Keeping) (old new : Lister) (octets piece given : List ℕ) → k ≡ Lines → CountsAlike old new →
    Stands k old octets given → IsListedInPart (octets ++ piece) given (octets_fed new) (counted_by new)
stops_lines k old new octets piece given e same h =
    before_a_piece old new octets piece given same
    (listed_in_part old octets given [] (none_more old octets given (subst (λ (k : Keeping). Stands k old octets given) e h)))

-- the same of one that only counted
counted_in_part : (lister : Lister) (octets given : List ℕ) → Stands Counters lister octets given →
    IsListedInPart octets given (octets_fed lister) (counted_by lister)
counted_in_part lister octets given h =
    listed_in_part lister octets given h.0 (subst (λ (given : List ℕ). IsFed lister octets (given ++ h.0)) (sym h.2) h.1)

pub stops_counters : (k : Keeping) (old new : Lister) (octets piece given : List ℕ) → k ≡ Counters → CountsAlike old new →
    Stands k old octets given → IsListedInPart (octets ++ piece) given (octets_fed new) (counted_by new)
stops_counters k old new octets piece given e same h =
    before_a_piece old new octets piece given same
    (counted_in_part old octets given (subst (λ (k : Keeping). Stands k old octets given) e h))

-- a trace that kept lines, after the lines of a piece
pub kept : (k last : Keeping) (old new : Lister) (octets piece fetched text before lines slice after : List ℕ) (room streams : ℕ) →
    k ≡ Lines → before ≡ [] →
    slice ≡ lines → KeepsOn room text slice streams last after → Feeds old piece before lines new → Stands k old octets (fetched ++ text) →
    Stands last new (octets ++ piece) (fetched ++ after)
kept k Lines old new octets piece fetched text before lines slice after room streams e none same keeps feeds h =
    let fed = feeds octets (fetched ++ text) (subst (λ (k : Keeping). Stands k old octets (fetched ++ text)) e h) in
    let gained = keeps.0 ∙ ap (λ (l : List ℕ). text ++ l) (same ∙ fed.1 ∙ ap (λ (b : List ℕ). b ++ fed.0) none) in
    subst (λ (l : List ℕ). IsFed new (octets ++ piece) l)
    (append_assoc fetched text fed.0 ∙ ap (λ (t : List ℕ). fetched ++ t) (sym gained)) fed.2
kept k Counters old new octets piece fetched text before lines slice after room streams e none same keeps feeds h = absurd keeps
kept k Nothing old new octets piece fetched text before lines slice after room streams e none same keeps feeds h =
    let fed = feeds octets (fetched ++ text) (subst (λ (k : Keeping). Stands k old octets (fetched ++ text)) e h) in
    subst (λ (t : List ℕ). IsListedInPart (octets ++ piece) (fetched ++ t) (octets_fed new) (counted_by new)) (sym keeps.0)
    (listed_in_part new (octets ++ piece) (fetched ++ text) fed.0 fed.2)

-- a trace that counted, after a piece
pub counted_on : (k last : Keeping) (old new : Lister) (octets piece given before lines : List ℕ) (streams : ℕ) → k ≡ Counters →
    CountsOn streams last → Feeds old piece before lines new → Stands k old octets given → Stands last new (octets ++ piece) given
counted_on k Lines old new octets piece given before lines streams e keeps feeds h = absurd keeps
counted_on k Counters old new octets piece given before lines streams e keeps feeds h =
    let stood = subst (λ (k : Keeping). Stands k old octets given) e h in
    let fed = feeds octets stood.0 stood.1 in (stood.0 ++ fed.0, fed.2, stood.2)
counted_on k Nothing old new octets piece given before lines streams e keeps feeds h =
    let stood = subst (λ (k : Keeping). Stands k old octets given) e h in
    let fed = feeds octets stood.0 stood.1 in
    subst (λ (g : List ℕ). IsListedInPart (octets ++ piece) g (octets_fed new) (counted_by new)) (sym stood.2)
    (listed_in_part new (octets ++ piece) [] (stood.0 ++ fed.0) fed.2)

-- if some lines are a prefix of the listing, so are the first of them
given_less : (octets fetched more : List ℕ) (taken : ℕ) (counts : Counts) → IsListedInPart octets (fetched ++ more) taken counts →
    IsListedInPart octets fetched taken counts
given_less octets fetched more taken counts h = record {
  took = h.took;
  others = h.others;
  lines = h.lines;
  more = more ++ h.more;
  passed = h.passed;
  many = h.many;
  listed = h.listed;
  gave = h.gave ∙ append_assoc fetched more h.more;
}

-- whatever a trace keeps, what was fetched is a prefix of the listing
pub fetched_begins : (k : Keeping) (lister : Lister) (octets fetched text : List ℕ) → Stands k lister octets (fetched ++ text) →
    IsListedInPart octets fetched (octets_fed lister) (counted_by lister)
fetched_begins Lines lister octets fetched text h = listed_in_part lister octets fetched text h
fetched_begins Counters lister octets fetched text h =
    given_less octets fetched text (octets_fed lister) (counted_by lister) (counted_in_part lister octets (fetched ++ text) h)
fetched_begins Nothing lister octets fetched text h = given_less octets fetched text (octets_fed lister) (counted_by lister) h

pub whole_listing : (k : Keeping) (lister : Lister) (octets given : List ℕ) → Stands k lister octets given → k ≡ Lines →
    IsListedSoFar octets given lister.work.counts
whole_listing k lister octets given h e = grind (arith, stands_so_far)

-- why a trace stops that kept lines
pub stops_for : (last : Keeping) (room : ℕ) (old new : Lister) (piece text before lines slice after : List ℕ) (streams : ℕ) → before ≡ [] →
    slice ≡ lines → streams ≡ unfinished new → KeepsOn room text slice streams last after → Feeds old piece before lines new →
    keeps_nothing last ≡ true → (HasListed old piece new × (64 < unfinished new)) ⊎ FindsNoRoom room text old piece new
stops_for Lines room old new piece text before lines slice after streams none same told keeps feeds h = absurd (false≢true h)
stops_for Counters room old new piece text before lines slice after streams none same told keeps feeds h = absurd keeps
stops_for Nothing room old new piece text before lines slice after streams none same told keeps feeds h =
    let fed = subst (λ (b : List ℕ). Feeds old piece b lines new) none feeds in
    elim keeps.1 [
      | inl many ↦ inl ((lines, fed), subst (λ (n : ℕ). 64 < n) told many)
      | inr lacks ↦ inr (record { lines = lines; listed = fed; lacks = subst (λ (l : List ℕ). LacksRoom room text l) same lacks })
    ]

-- why a trace stops that counted
pub stops_for_streams : (last : Keeping) (old new : Lister) (piece before lines : List ℕ) (streams : ℕ) → before ≡ [] →
    streams ≡ unfinished new → CountsOn streams last → Feeds old piece before lines new → keeps_nothing last ≡ true →
    HasListed old piece new × (64 < unfinished new)
stops_for_streams Lines old new piece before lines streams none told keeps feeds h = absurd keeps
stops_for_streams Counters old new piece before lines streams none told keeps feeds h = absurd (false≢true h)
stops_for_streams Nothing old new piece before lines streams none told keeps feeds h =
    ((lines, subst (λ (b : List ℕ). Feeds old piece b lines new) none feeds), subst (λ (n : ℕ). 64 < n) told keeps)
