-- The listing of units, one after the other.
use Rattle.osi_listing.proofs.Vocabulary.{◌≡◌, ℕ, List, [], ◌∷◌, ◌++◌, length, map, refl, sym, ◌∙◌, ap, subst, option_to_list, Result, Ok}
use Rattle.osi_listing.proofs.Vocabulary.{Err, OnOk, arith, append_assoc, append-nil, flat_map-append, units_of, Value, TpduFault}
use Rattle.osi_listing.proofs.Vocabulary.{Contents, Units, SpduFault, LengthPastEnd, Counts, Streams, one_more, counted, tsdu_line}
use Rattle.osi_listing.proofs.Vocabulary.{session_line, Part, part_of, parts_of, Entry, session_entries, part_entries, unit_entries}
use Rattle.osi_listing.proofs.Vocabulary.{read_entries, read_parts, TransportUnit, UnitFault, Tsdu, SessionUnit, Says, Holds}
use Rattle.osi_spdu.specs.Reading.{tsdu_at, unit_at}
use Rattle.osi_listing.specs.Listing.{line_of}

counted-append : (c : Counts) (xs ys : List Entry) → counted c (xs ++ ys) ≡ counted (counted c xs) ys
counted-append c [] ys = refl
counted-append c (x ∷ xs) ys = counted-append (one_more c x) xs ys

-- ---- what is said, joined

pub says_none : (text : List ℕ) (c : Counts) → Says text text c c []
says_none text c = record { text = sym (append-nil text); told = refl }

pub says_both : (old mid new : List ℕ) (was then now : Counts) (xs ys : List Entry) → Says old mid was then xs → Says mid new then now ys →
    Says old new was now (xs ++ ys)
says_both old mid new was then now xs ys h k = grind (arith, append_assoc, flat_map-append, counted-append)

-- one line
pub says_one : (old new : List ℕ) (was now : Counts) (entry : Entry) → new ≡ old ++ line_of entry → now ≡ one_more was entry →
    Says old new was now (entry ∷ [])
says_one old new was now entry text told = grind (arith, append-nil)

-- one line, and then others
pub says_next : (old mid new : List ℕ) (was then now : Counts) (entry : Entry) (entries : List Entry) → mid ≡ old ++ line_of entry →
    then ≡ one_more was entry →
    Says mid new then now entries → Says old new was now (entry ∷ entries)
says_next old mid new was then now entry entries text told h =
    says_both old mid new was then now (entry ∷ []) entries (says_one old mid was then entry text told) h

-- ---- the session units of a TSDU

-- some units are listed, and these are left
pub record ListsUnits (old text : List ℕ) (was now : Counts) (left all : Units) : Type 0 where
  pub said : Units
  pub says : Says old text was now (map SessionUnit said)
  pub whole : said ++ left ≡ all

pub lists_none : (text : List ℕ) (c : Counts) (all : Units) → ListsUnits text text c c all all
lists_none text c all = record { said = []; says = says_none text c; whole = refl }

map-push : (us : Units) (u : Contents) → map SessionUnit (us ++ u ∷ []) ≡ map SessionUnit us ++ SessionUnit u ∷ []
map-push [] u = refl
map-push (v ∷ us) u = ap (λ es. SessionUnit v ∷ es) (map-push us u)

pub lists_next : (old text more : List ℕ) (was then now : Counts) (unit : Contents) (left others all : Units) → left ≡ unit ∷ others →
    more ≡ text ++ session_line unit →
    now ≡ one_more then (SessionUnit unit) → ListsUnits old text was then left all → ListsUnits old more was now others all
unfolding line_of
lists_next old text more was then now unit left others all e line told so_far = record {
  said = so_far.said ++ unit ∷ [];
  says = search (arith, map-push, says_both, says_one);
  whole = append_assoc so_far.said (unit ∷ []) others ∙ ap (λ (us : Units). so_far.said ++ us) (sym e) ∙ so_far.whole;
}

-- a unit that is listed before others
pub says_unit : (old mid new : List ℕ) (was then now : Counts) (unit : Contents) (units : Units) → mid ≡ old ++ session_line unit →
    then ≡ one_more was (SessionUnit unit) → Says mid new then now (map SessionUnit units) →
    Says old new was now (map SessionUnit (unit ∷ units))
unfolding line_of
says_unit old mid new was then now unit units line told h = search (arith, says_next)

-- the same of the last of them
pub says_last : (old new : List ℕ) (was now : Counts) (unit : Contents) (units : Units) → units ≡ [] → new ≡ old ++ session_line unit →
    now ≡ one_more was (SessionUnit unit) → Says old new was now (map SessionUnit (unit ∷ units))
unfolding line_of
says_last old new was now unit units none line told = grind (arith, says_one old new was now (SessionUnit unit) line told)

-- an empty TSDU
pub nothing_read : (octets : List ℕ) → length octets ≡ 0 → tsdu_at octets ≡ Err (LengthPastEnd 0)
unfolding tsdu_at unit_at
nothing_read octets e = grind arith

-- a TSDU, and then the lines of a call
pub then_units : {A E : Type 0} (r : Result A E) (old mid new octets : List ℕ) (was then now : Counts) (read : Result Units SpduFault)
    (entries : List Entry) → mid ≡ old ++ tsdu_line (length octets) → then ≡ one_more was (Tsdu octets) → tsdu_at octets ≡ read →
    entries ≡ session_entries read → OnOk r (Says mid new then now entries) →
    OnOk r (Says old new was now (Tsdu octets ∷ session_entries (tsdu_at octets)))
unfolding line_of
then_units (Ok x) old mid new octets was then now read entries line told exact same h =
    subst (λ es. Says old new was now (Tsdu octets ∷ es)) (same ∙ ap session_entries (sym exact))
    (says_next old mid new was then now (Tsdu octets) entries line told h)
then_units (Err x) old mid new octets was then now read entries line told exact same h = tt

-- the session units of a TSDU, or their fault, as they were read
pub then_read : {A E : Type 0} (r : Result A E) (old new octets : List ℕ) (was now : Counts) (read : Result Units SpduFault)
    (entries : List Entry) → tsdu_at octets ≡ read → entries ≡ session_entries read → OnOk r (Says old new was now entries) →
    OnOk r (Says old new was now (session_entries (tsdu_at octets)))
then_read r old new octets was now read entries exact same h = grind arith

-- one line that a call writes
pub then_one : {A E : Type 0} (r : Result A E) (old new : List ℕ) (was now : Counts) (entry : Entry) → OnOk r (new ≡ old ++ line_of entry) →
    now ≡ one_more was entry →
    OnOk r (Says old new was now (entry ∷ []))
then_one (Ok x) old new was now entry h told = says_one old new was now entry h told
then_one (Err x) old new was now entry h told = tt

-- the fault of a packet's units
pub then_fault : {A E : Type 0} (r : Result A E) (old new unit : List ℕ) (was now : Counts) (f : TpduFault) (before : Streams) →
    units_of unit ≡ Err f →
    OnOk r (new ≡ old ++ line_of (UnitFault f)) → now ≡ one_more was (UnitFault f) →
    OnOk r ((e : List Part) → Holds before e → Says old new was now (read_entries e (units_of unit)))
then_fault (Ok x) old new unit was now f before exact h told = grind (arith, says_one old new was now (UnitFault f) h told)
then_fault (Err x) old new unit was now f before exact h told = tt

-- a line, and then the lines of a call
pub then_more : {A E : Type 0} (r : Result A E) (old mid new : List ℕ) (was then now : Counts) (entry : Entry) (before : Streams)
    (entries : List Part → List Entry) →
    mid ≡ old ++ line_of entry → then ≡ one_more was entry → OnOk r ((e : List Part) → Holds before e → Says mid new then now (entries e)) →
    OnOk r ((e : List Part) → Holds before e → Says old new was now (entry ∷ entries e))
then_more (Ok x) old mid new was then now entry before entries line told h = search (arith, says_next)
then_more (Err x) old mid new was then now entry before entries line told h = tt

-- what a unit brings to its stream
pub then_brought : {A E : Type 0} (r : Result A E) (old new : List ℕ) (was now : Counts) (v : Value) (before : Streams)
    (brought : List Entry) → ((e : List Part) → Holds before e → brought ≡ part_entries e (part_of v)) →
    OnOk r (Says old new was now brought) → OnOk r ((e : List Part) → Holds before e → Says old new was now (part_entries e (part_of v)))
then_brought r old new was now v before brought same h = grind arith

-- ---- the units of a packet

-- some units of a packet are listed, and these are left
pub record Advanced (old text : List ℕ) (was now : Counts) (streams : Streams) (left : List Value) (earlier : List Part)
    (all : List Value) : Type 0 where
  pub said : List Entry
  pub parts : List Part
  pub says : Says old text was now said
  pub holds : Holds streams parts
  pub entries : said ++ unit_entries parts left ≡ unit_entries earlier all
  pub brought : parts ++ parts_of left ≡ earlier ++ parts_of all

pub advanced_none : (old : List ℕ) (was : Counts) (streams : Streams) (earlier : List Part) (all : List Value) → Holds streams earlier →
    Advanced old old was was streams all earlier all
advanced_none old was streams earlier all h = grind (arith, says_none old was)

pub advanced_step : (old mid new : List ℕ) (was then now : Counts) (before after : Streams) (v : Value) (left rest : List Value)
    (earlier : List Part) (all : List Value) →
    rest ≡ v ∷ left → ((e : List Part) → Holds before e → Says mid new then now (TransportUnit v ∷ part_entries e (part_of v))) →
    ((e : List Part) → Holds before e → Holds after (e ++ option_to_list (part_of v))) →
    Advanced old mid was then before rest earlier all → Advanced old new was now after left earlier all
advanced_step old mid new was then now before after v left rest earlier all is says holds a =
    let one : List Entry = TransportUnit v ∷ part_entries a.parts (part_of v) in
    record {
      said = a.said ++ one;
      parts = a.parts ++ option_to_list (part_of v);
      says = says_both old mid new was then now a.said one a.says (says a.parts a.holds);
      holds = holds a.parts a.holds;
      entries = grind (arith, append_assoc, option_to_list);
      brought = append_assoc a.parts (option_to_list (part_of v)) (parts_of left) ∙ ap (λ vs. a.parts ++ parts_of vs) (sym is) ∙ a.brought;
    }

-- of a packet with one unit
pub entries_of_one : (earlier : List Part) (r : Result (List Value) TpduFault) (v : Value) → r ≡ Ok (v ∷ []) →
    read_entries earlier r ≡ TransportUnit v ∷ part_entries earlier (part_of v)
entries_of_one earlier r v e = rw e (append-nil (TransportUnit v ∷ part_entries earlier (part_of v)))

pub parts_of_one : (r : Result (List Value) TpduFault) (v : Value) → r ≡ Ok (v ∷ []) → read_parts r ≡ option_to_list (part_of v)
parts_of_one r v e = rw e (grind (arith, append-nil))
