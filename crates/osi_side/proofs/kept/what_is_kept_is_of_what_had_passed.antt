-- Which sessions are kept depends on the TSDUs that had passed alone, and on what they do to sessions: for a side that hears more,
-- and for the judge, which keeps outlines.
use Rattle.osi_side.proofs.Vocabulary.{◌≡◌, ◌∙◌, refl, ap, ap₂, ℕ, suc, zero, ◌+◌, ◌-◌, ◌<◌, ◌≤◌, Bool, ◌&&◌, List, [], ◌∷◌, ◌++◌, nat_lt}
use Rattle.osi_side.proofs.Vocabulary.{length, get_or, Option, Some, None, Result, if◌then◌else◌, arith, fold, flat_map, SpduFault}
use Rattle.osi_side.proofs.Vocabulary.{said_at, Word, Words, is_restart_word, is_restarting, Seen, Count, listens, said, is_steady, Member}
use Rattle.osi_side.proofs.Vocabulary.{Asked, Told, added, sends, first_sender, listed, anew, latest, follows, answer_by, answering}
use Rattle.osi_side.proofs.Vocabulary.{senders, Way, way_to, Halt, remain, waited, stepped, askers, restarters, after_word, after_words}
use Rattle.osi_side.proofs.Vocabulary.{after_read, after_tsdu, count_at, next_of, becomes}
use Rattle.osi_side.specs.Kept.{waits, places_of, kept}
use Rattle.osi_side.proofs.kept.a_session_takes_one_tsdu_at_a_time.{InBounds, within_by, next_taken}

-- the TSDUs before this place do the same to every session
abbrev pub ActAlike : List (List ℕ) → List (List ℕ) → ℕ → Type 0
ActAlike us vs n = (i : ℕ) → i < n → (s : Seen) → count_at s (get_or us i []) ≡ count_at s (get_or vs i [])

module _ (us vs : List (List ℕ)) (before : ℕ) (h : ActAlike us vs before) where
  -- ---- one TSDU

  follows_alike : (i : ℕ) (o : Option Seen) → i < before → follows o (get_or us i []) ≡ follows o (get_or vs i [])
  follows_alike i o l = grind arith

  answering_alike : (w : Word) (m : Member) → m.taken < before → answering us w m ≡ answering vs w m
  answering_alike w m l = ap (λ (c : Count). if listens m.standing then answer_by w m c else []) (h m.taken l m.standing)

  remain_alike : (i : ℕ) (s : Seen) (o : Option Seen) → i < before → remain s o (get_or us i []) ≡ remain s o (get_or vs i [])
  remain_alike i s o l = grind arith

  waits_alike : (w : Word) (i : ℕ) (s : Seen) → i < before → waits w s (get_or us i []) ≡ waits w s (get_or vs i [])
  unfolding waits
  waits_alike w i s l = ap (λ (b : Bool). is_restarting s.state.phase && b) (remain_alike i s (said s w 0) l)

  waited_alike : (w : Word) (taken : ℕ) (asked : Option Asked) → taken < before
      → waited w taken asked (get_or us taken []) ≡ waited w taken asked (get_or vs taken [])
  waited_alike w taken asked l = grind (arith, waits_alike)

  stepped_alike : (way : Way) (asked : Option Asked) (m : Member) → m.taken < before → stepped us way asked m ≡ stepped vs way asked m
  stepped_alike way asked m l = search (arith, waited_alike)

  -- ---- a walk

  pub becomes_alike : (n : ℕ) (o : Option Member) → InBounds before n o → becomes us n o ≡ becomes vs n o
  becomes_alike zero None b = refl
  becomes_alike zero (Some m) b = refl
  becomes_alike (suc n) None b = refl
  becomes_alike (suc n) (Some m) b =
      let l : m.taken + suc n ≤ before = b (omega arith) in
      let within = within_by (next_of us m) before n m.taken (next_taken us m) l in
      ap (λ (ms : List Member). m ∷ ms) (becomes_alike n (next_of us m) within ∙ ap (becomes vs n) (grind arith))

  senders_alike : (w : Word) (octets n : ℕ) (earlier : Option Seen) (o : Option Member) → InBounds before n o
      → senders us w octets n earlier o ≡ senders vs w octets n earlier o
  senders_alike w octets zero earlier None b = refl
  senders_alike w octets zero earlier (Some m) b = refl
  senders_alike w octets (suc n) earlier None b = refl
  senders_alike w octets (suc n) earlier (Some m) b =
      let l : m.taken + suc n ≤ before = b (omega arith) in
      let at : m.taken < before = omega (arith, l) in
      let within = within_by (next_of us m) before n m.taken (next_taken us m) l in
      let last = latest earlier (sends w octets m) in
      let rest = senders_alike w octets n (follows last (get_or us m.taken [])) (next_of us m) within
      ∙ ap₂ (λ (x : Option Seen) (y : Option Member). senders vs w octets n x y) (follows_alike m.taken last at) (grind arith) in
      ap₂ (λ (x y : List Member). anew earlier (sends w octets m) ++ (x ++ y)) (answering_alike w m at) rest

  askers_alike : (way : Way) (n : ℕ) (asked : Option Asked) (o : Option Member) → InBounds before n o
      → askers us way n asked o ≡ askers vs way n asked o
  askers_alike way zero asked None b = refl
  askers_alike way zero asked (Some m) b = refl
  askers_alike way (suc n) asked None b = refl
  askers_alike way (suc n) asked (Some m) b =
      let l : m.taken + suc n ≤ before = b (omega arith) in
      let at : m.taken < before = omega (arith, l) in
      let within = within_by (next_of us m) before n m.taken (next_taken us m) l in
      let s = stepped_alike way asked m at in
      let rest = askers_alike way n (stepped us way asked m).waiting (next_of us m) within
      ∙ ap₂ (λ (x : Halt) (y : Option Member). askers vs way n x.waiting y) s (grind arith) in
      ap₂ (λ (x : Halt) (y : List Member). x.kept ++ y) s rest

  -- ---- all sessions

  restarters_alike : (w : Word) (octets : ℕ) (m : Member) → restarters us w octets before m ≡ restarters vs w octets before m
  restarters_alike w octets m =
      ap₂ (λ (x y : List Member). if nat_lt 999999 m.standing.state.numbers.lowest then x else y)
      (senders_alike w octets (before - m.taken) None (Some m) (λ p. omega arith))
      (askers_alike (way_to w octets m.standing) (before - m.taken) None (Some m) (λ p. omega arith))

  places_alike : (w : Word) (octets : ℕ) (m : Member) → places_of us w octets before m ≡ places_of vs w octets before m
  unfolding places_of
  places_alike w octets m =
      let r = restarters_alike w octets m in
      let f = ap (λ (ms : List Member). listed (first_sender w octets ms)) (becomes_alike (before - m.taken) (Some m) (λ p. omega arith)) in
      let s = senders_alike w octets (before - m.taken) None (Some m) (λ p. omega arith) in
      λ i. if is_restart_word w then r i else if is_steady w then f i else s i

  all_alike : (w : Word) (octets : ℕ) (members : List Member)
      → flat_map (places_of us w octets before) members ≡ flat_map (places_of vs w octets before) members
  all_alike w octets [] = refl
  all_alike w octets (m ∷ members) = ap₂ (λ (x y : List Member). x ++ y) (places_alike w octets m) (all_alike w octets members)

  pub word_alike : (octets : ℕ) (members : List Member)
      (w : Word) → after_word us octets before members w ≡ after_word vs octets before members w
  word_alike octets members w = ap (fold added []) (all_alike w octets members)

  words_alike : (octets : ℕ) (members : List Member) (words : Words)
      → after_words us octets before members words ≡ after_words vs octets before members words
  words_alike octets members [] = refl
  words_alike octets members (w ∷ words) = grind (arith, word_alike, words_alike octets (after_word vs octets before members w) words)

  pub read_alike : (octets : ℕ) (members : List Member) (came : Result Words SpduFault)
      → after_read us octets before members came ≡ after_read vs octets before members came
  read_alike octets members came = grind (arith, words_alike)

-- ---- a side

pub tsdu_alike : (us vs : List (List ℕ)) (members : List Member) (t : Told) → ActAlike us vs t.before
    → after_tsdu us members t ≡ after_tsdu vs members t
tsdu_alike us vs members t h = read_alike us vs t.before h (length t.octets) members (said_at t.octets)

pub kept_alike : (us vs : List (List ℕ)) (begin : Seen) (told : List Told) → ((n : ℕ) → ActAlike us vs n)
    → kept begin us told ≡ kept begin vs told
unfolding kept
kept_alike us vs begin told h = grind (arith, tsdu_alike)
