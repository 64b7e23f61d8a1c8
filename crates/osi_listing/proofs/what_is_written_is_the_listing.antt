-- What a lister has written is the listing so far of what it was fed.
use Rattle.osi_listing.proofs.Vocabulary.{◌≡◌, ◌∙◌, ℕ, ◌+◌, ◌-◌, ◌<◌, ◌^◌, ◌==◌, if◌then◌else◌, List, [], ◌∷◌, ◌++◌, length, refl, sym, ap}
use Rattle.osi_listing.proofs.Vocabulary.{subst, arith, Option, Some, None, Result, Ok, Err, OnOk, flat_map, list_any, append_assoc}
use Rattle.osi_listing.proofs.Vocabulary.{append-nil, length-append, fresh, IsPartial, IsFaultOf, EndsAt, offset_of, Faulty, Rest}
use Rattle.osi_listing.proofs.Vocabulary.{TpktFault, BadVersion, BadLength, OutOfMemory, empty_partial, Counts, Lister, Stage, Streams}
use Rattle.osi_listing.proofs.Vocabulary.{Work, capped, none, counts_of, fault_line, rest_line, Entry, is_refused, packet_entries}
use Rattle.osi_listing.proofs.Vocabulary.{ending_entry, IsListing, PacketFault, Left, Says, Holds, IsListedSoFar, entries_so_far, Listed}
use Rattle.osi_listing.proofs.Vocabulary.{IsGoing, Leaves, Goes, StandsAt, Feeds}
use Rattle.osi_listing.specs.declared.pieces.Stage.TheVariants as stage
use Rattle.osi_listing.specs.Counting.{one_more}
use Rattle.osi_listing.specs.Listing.{line_of}
use Rattle.osi_listing.proofs.the_counts_are_numbers_of_entries.{counted_is, status_of, refused_left}
use Rattle.osi_listing.proofs.units_one_after_the_other.{says_none, says_both, says_one}
use Rattle.osi_listing.proofs.what_one_more_packet_adds.{packets_longer}

-- nothing was fed
pub nothing_fed : (work : Work) → work.cutter ≡ fresh → Holds work.streams [] → work.counts ≡ none → work.offset ≡ 0 →
    StandsAt stage.Going work [] []
nothing_fed work cutter streams counts offset = grind (arith, says_none, empty_partial)

-- the entries that are listed, and those that end them
said_so_far : (lines last : List ℕ) (was now : Counts) (units : List (List ℕ)) (ending : List Entry) →
    Says [] lines none was (packet_entries 0 [] units) →
    Says lines last was now ending → (last ≡ flat_map line_of (packet_entries 0 [] units ++ ending)) ×
    (now ≡ counts_of (packet_entries 0 [] units ++ ending))
said_so_far lines last was now units ending h k =
    let both = says_both [] lines last none was now (packet_entries 0 [] units) ending h k in
    (both.text, both.told ∙ counted_is (packet_entries 0 [] units ++ ending))

abbrev going_so_far : (streams : Streams) (counts : Counts) (offset : ℕ) (stream lines rest : List ℕ) →
    Listed streams counts offset stream lines rest → IsPartial rest →
    IsListedSoFar stream lines counts
going_so_far streams counts offset stream lines rest h partial =
    let said = said_so_far lines lines counts counts h.units [] h.says (says_none lines counts) in
    record { units = h.units; ending = Rest (length rest); cut = (rest, h.packets, (partial, refl)); text = said.0; told = said.1 }

pub stands_so_far : (s : Stage) (work : Work) (octets lines : List ℕ) → StandsAt s work octets lines →
    IsListedSoFar octets lines work.counts
stands_so_far stage.Going work octets lines h =
    going_so_far work.streams work.counts work.offset octets lines h.0 h.1 (subst IsPartial h.2.1 h.2.0.0)
stands_so_far stage.Faulty work octets lines h = h.0
stands_so_far stage.Lost work octets lines h = absurd h

-- ---- a piece more

Gained : Work → List ℕ → Option TpktFault → Work → List ℕ → List ℕ → List ℕ → Type 0
Gained old before fault new after stream lines =
    (more : List ℕ) × (left : List ℕ) × (after ≡ before ++ more) × Listed new.streams new.counts new.offset stream (lines ++ more) left ×
    Leaves new.cutter left fault

gained : (old new : Work) (before after piece : List ℕ) (fault : Option TpktFault) →
    (IsGoing old.cutter → Goes old before piece fault new after) →
    (octets lines : List ℕ) → length (octets ++ piece) < 2 ^ 64 → StandsAt stage.Going old octets lines →
    Gained old before fault new after (octets ++ piece) lines
unfolding Gained
gained old new before after piece fault goes octets lines few h =
    let went = goes h.2.0 in
    let listed = subst (λ (r : List ℕ). Listed old.streams old.counts old.offset (octets ++ piece) lines (r ++ piece)) (sym h.2.1)
    (grind (arith, length-append, packets_longer)) in
    grind (arith, went.1.listed (octets ++ piece) lines few listed)

-- it still lists
pub on_none : (s : Stage) (old new : Work) (before after piece : List ℕ) → s ≡ stage.Going →
    (IsGoing old.cutter → Goes old before piece None new after) →
    (octets lines : List ℕ) → length (octets ++ piece) < 2 ^ 64 → StandsAt s old octets lines →
    (more : List ℕ) × (after ≡ before ++ more) × StandsAt s new (octets ++ piece) (lines ++ more)
unfolding Gained
on_none s old new before after piece is goes octets lines few h =
    let g = gained old new before after piece None goes octets lines few (subst (λ (t : Stage). StandsAt t old octets lines) is h) in
    (g.0, g.2, subst (λ (t : Stage). StandsAt t new (octets ++ piece) (lines ++ g.0)) (sym is) (g.1, g.3, g.4))

-- or the stream has a fault
pub on_fault : {A E : Type 0} (r : Result A E) (s : Stage) (old new : Work) (before mid after piece : List ℕ) (f g : TpktFault)
    (counts : Counts) → s ≡ stage.Going →
    (IsGoing old.cutter → Goes old before piece (Some f) new mid) →
    ((start : ℕ) (octets : List ℕ) → IsFaultOf start octets f → IsFaultOf new.offset octets g) →
    counts ≡ record new.counts { refused = capped (new.counts.refused + 1) } → OnOk r (after ≡ mid ++ fault_line g) →
    OnOk r ((octets lines : List ℕ) → length (octets ++ piece) < 2 ^ 64 → StandsAt s old octets lines →
    (more : List ℕ) × (after ≡ before ++ more) × StandsAt stage.Faulty (record new { counts = counts }) (octets ++ piece) (lines ++ more))
unfolding Gained line_of one_more
on_fault (Ok x) s old new before mid after piece f g counts is goes at told line = λ octets lines few h.
    let m = gained old new before mid piece (Some f) goes octets lines few (subst (λ (t : Stage). StandsAt t old octets lines) is h) in
    let listed = m.3 in
    let last : List ℕ = (lines ++ m.0) ++ fault_line g in
    let said = said_so_far (lines ++ m.0) last new.counts counts listed.units (PacketFault g ∷ []) listed.says
    (says_one (lines ++ m.0) last new.counts counts (PacketFault g) refl told) in
    let same : last ≡ lines ++ (m.0 ++ fault_line g) = append_assoc lines m.0 (fault_line g) in
    let place : new.offset ≡ offset_of (0 + (length (octets ++ piece) - length m.1)) = let was = listed.place in omega arith in (
      m.0 ++ fault_line g,
      line ∙ ap (λ t. t ++ fault_line g) m.2 ∙ append_assoc before m.0 (fault_line g),
      (
        record {
          units = listed.units;
          ending = Faulty g;
          cut = (m.1, listed.packets, subst (λ n. IsFaultOf n m.1 g) place (at m.4.0 m.1 m.4.1));
          text = sym same ∙ said.0;
          told = said.1;
        },
        g,
        refl,
      ),
    )
on_fault (Err x) s old new before mid after piece f g counts is goes at told line = tt

-- octets after a fault
fault_longer : (at : ℕ) (rest more : List ℕ) (f : TpktFault) → IsFaultOf at rest f → IsFaultOf at (rest ++ more) f
fault_longer at (a ∷ rest) more (BadVersion n) h = grind (arith, length-append)
fault_longer at (a ∷ b ∷ c ∷ d ∷ rest) more (BadLength n) h = grind (arith, length-append)
fault_longer at [] more (BadVersion n) h = absurd (omega (arith, h.0.0))
fault_longer at [] more (BadLength n) h = absurd (omega (arith, h.0.0))
fault_longer at (a ∷ []) more (BadLength n) h = absurd (omega (arith, h.0.0))
fault_longer at (a ∷ b ∷ []) more (BadLength n) h = absurd (omega (arith, h.0.0))
fault_longer at (a ∷ b ∷ c ∷ []) more (BadLength n) h = absurd (omega (arith, h.0.0))
fault_longer at rest more OutOfMemory h = absurd h

ends_longer : (stream rest more : List ℕ) (f : TpktFault) → EndsAt (offset_of (0 + (length stream - length rest))) rest (Faulty f) →
    EndsAt (offset_of (0 + (length (stream ++ more) - length (rest ++ more)))) (rest ++ more) (Faulty f)
ends_longer stream rest more f h = grind (arith, length-append, fault_longer)

pub on_behind : (s : Stage) (work : Work) (before piece : List ℕ) → s ≡ stage.Faulty → (octets lines : List ℕ) →
    StandsAt s work octets lines →
    (more : List ℕ) × (before ≡ before ++ more) × StandsAt s work (octets ++ piece) (lines ++ more)
on_behind s work before piece is octets lines h =
    let was = subst (λ (t : Stage). StandsAt t work octets lines) is h in
    let so_far = was.0 in
    let end = subst (λ e. EndsAt (offset_of (0 + (length octets - length so_far.cut.0))) so_far.cut.0 e) was.2 so_far.cut.2 in
    let same : entries_so_far so_far.units so_far.ending ≡ entries_so_far so_far.units (Faulty was.1) =
    ap (entries_so_far so_far.units) was.2 in (
      [],
      sym (append-nil before),
      subst (λ (t : Stage). StandsAt t work (octets ++ piece) (lines ++ [])) (sym is) (
        record {
          units = so_far.units;
          ending = Faulty was.1;
          cut = (
            so_far.cut.0 ++ piece,
            packets_longer so_far.units octets so_far.cut.0 piece so_far.cut.1,
            ends_longer octets so_far.cut.0 piece was.1 end,
          );
          text = append-nil lines ∙ so_far.text ∙ ap (flat_map line_of) same;
          told = so_far.told ∙ ap counts_of same;
        },
        was.1,
        refl,
      ),
    )

-- what a call of a lister does, with the number of octets that were fed
pub feeds_by : (old new : Lister) (piece before after : List ℕ) → new.octets ≡ old.octets + length piece → new.octets < 2 ^ 64 →
    ((octets lines : List ℕ) → length (octets ++ piece) < 2 ^ 64 → StandsAt old.stage old.work octets lines →
    (more : List ℕ) × (after ≡ before ++ more) × StandsAt new.stage new.work (octets ++ piece) (lines ++ more)) →
    Feeds old piece before after new
feeds_by old new piece before after count few h = grind (arith, length-append)

pub feeds_on : {A E : Type 0} (r : Result A E) (old new : Lister) (piece before after : List ℕ) → new.octets ≡ old.octets + length piece →
    new.octets < 2 ^ 64 →
    OnOk r ((octets lines : List ℕ) → length (octets ++ piece) < 2 ^ 64 → StandsAt old.stage old.work octets lines →
    (more : List ℕ) × (after ≡ before ++ more) × StandsAt new.stage new.work (octets ++ piece) (lines ++ more)) →
    OnOk r (Feeds old piece before after new)
feeds_on (Ok x) old new piece before after count few h = feeds_by old new piece before after count few h
feeds_on (Err x) old new piece before after count few h = tt

-- ---- the end of a stream

listing_of : (octets lines : List ℕ) (counts : Counts) (so_far : IsListedSoFar octets lines counts) (last : List ℕ) (status : ℕ) →
    last ≡ flat_map line_of (packet_entries 0 [] so_far.units ++ ending_entry so_far.ending ∷ []) →
    list_any is_refused (packet_entries 0 [] so_far.units ++ ending_entry so_far.ending ∷ []) ≡ list_any is_refused
    (entries_so_far so_far.units so_far.ending) →
    status ≡ (if counts.refused == 0 then 0 else 1) → IsListing octets last status
listing_of octets lines counts so_far last status text same answered = grind (arith, status_of)

left_counts : (c : Counts) (n : ℕ) → c ≡ one_more c (Left n)
unfolding one_more
left_counts c n = refl

-- of one that had no fault
pub finish_going : (s : Stage) (work : Work) (octets lines before after : List ℕ) (left status : ℕ) → s ≡ stage.Going →
    StandsAt s work octets lines →
    left ≡ length work.cutter.octets → after ≡ before ++ rest_line left → status ≡ (if work.counts.refused == 0 then 0 else 1) →
    (last : List ℕ) × (after ≡ before ++ last) × IsListing octets (lines ++ last) status
unfolding line_of
finish_going s work octets lines before after left status is h count text answered =
    let was = subst (λ (t : Stage). StandsAt t work octets lines) is h in
    let rest : List ℕ = was.0 in
    let listed = was.1 in
    let so_far = going_so_far work.streams work.counts work.offset octets lines rest listed (subst IsPartial was.2.1 was.2.0.0) in
    let size : left ≡ length rest = count ∙ ap length was.2.1 in
    let units : List Entry = packet_entries 0 [] listed.units in
    let both = says_both [] lines (lines ++ rest_line left) none work.counts work.counts units (Left left ∷ []) listed.says
    (says_one lines (lines ++ rest_line left) work.counts work.counts (Left left) refl (left_counts work.counts left)) in (
      rest_line left,
      text,
      listing_of octets lines work.counts so_far (lines ++ rest_line left) status
          (both.text ∙ ap (λ n. flat_map line_of (units ++ Left n ∷ [])) size)
          (refused_left units (length rest) ∙ ap (list_any is_refused) (sym (append-nil units))) answered,
    )

-- of one that had one
pub finish_faulty : (s : Stage) (work : Work) (octets lines before : List ℕ) (status : ℕ) → s ≡ stage.Faulty →
    StandsAt s work octets lines →
    status ≡ (if work.counts.refused == 0 then 0 else 1) →
    (last : List ℕ) × (before ≡ before ++ last) × IsListing octets (lines ++ last) status
finish_faulty s work octets lines before status is h answered =
    let was = subst (λ (t : Stage). StandsAt t work octets lines) is h in
    let so_far = was.0 in
    let same : packet_entries 0 [] so_far.units ++ ending_entry so_far.ending ∷ [] ≡ entries_so_far so_far.units so_far.ending =
    ap (λ e. packet_entries 0 [] so_far.units ++ ending_entry e ∷ []) was.2 ∙ sym (ap (entries_so_far so_far.units) was.2) in (
      [],
      sym (append-nil before),
      listing_of octets lines work.counts so_far (lines ++ []) status (append-nil lines ∙ so_far.text ∙ ap (flat_map line_of) (sym same))
          (ap (list_any is_refused) same) answered,
    )
