-- Two sides that are explained apart from each other run together, in the order in which their TSDUs passed.
-- For the law that two explained sides are a pair.
use Rattle.osi_blameless.proofs.accord.Vocabulary.{[], ap, arith, get_or, length, length-append, List, map, None, Option, refl, Some, subst}
use Rattle.osi_blameless.proofs.accord.Vocabulary.{sym}
use Rattle.osi_blameless.proofs.accord.Vocabulary.{true, ℕ, ◌++◌, ◌+◌, ◌<◌, ◌∙◌, ◌∷◌, ◌≡◌, ◌≤◌, get_or-append_seam, Meaning, Word, Words}
use Rattle.osi_blameless.proofs.accord.Vocabulary.{after_count}
use Rattle.osi_blameless.proofs.accord.Vocabulary.{answers_word, CanSay, Count, listens, Seen, Takes, Explains, IsExplained, Remark, remark}
use Rattle.osi_blameless.proofs.accord.Vocabulary.{remarks}
use Rattle.osi_blameless.proofs.accord.Vocabulary.{remarks_of, Told, Direction, Left, Right, Accords, AreInOrder, Sending, sending}
use Rattle.osi_blameless.proofs.accord.Vocabulary.{sending_of}
use Rattle.osi_blameless.proofs.accord.Vocabulary.{told_by, tsdus_by, Turn, turn, words_in, Pair, pair_of, Party}
use Rattle.osi_side.specs.Explaining as explained
use Rattle.osi_blameless.specs.accord.Accords as accord

-- ---- a pair, seen from one of its sides

abbrev party : Seen → ℕ → List (List ℕ) → Party
party s taken channel = record { session = s; taken = taken; channel = channel }

abbrev seen_from : Direction → (own peer : Party) → Pair
seen_from Left own peer = record { left = own; right = peer }
seen_from Right own peer = record { left = peer; right = own }

module _ (later : List Sending) (own : List ℕ) (before k : ℕ) (s : Seen) (mine : List (List ℕ)) (y : Seen) (b : ℕ) where
  abbrev Sends : Direction → List (Option Word) → Seen → ℕ → List (List ℕ) → Type 0
  Sends d words s k theirs = Accords (sending d own before words ∷ later) (seen_from d (party s k mine) (party y b theirs))

  -- this side takes a TSDU
  take_on : (d : Direction) (w : Option Word) (words : List (Option Word)) (tsdu : List ℕ) (more : List (List ℕ)) (c : Count) → k < before →
      listens s ≡ true → Takes s tsdu c → c.reply ≡ None → Sends d (w ∷ words) (after_count s c) (k + 1) more →
      Sends d (w ∷ words) s k (tsdu ∷ more)
  take_on Left w words tsdu more c l h t n a = accord.takes Left later _ own before w words tsdu more c l refl h t n a
  take_on Right w words tsdu more c l h t n a = accord.takes Right later _ own before w words tsdu more c l refl h t n a

  -- it answers it
  answer_on : (d : Direction) (w : Word) (words : List (Option Word)) (tsdu : List ℕ) (more : List (List ℕ)) (c : Count) (reply : Meaning) →
      k < before → listens s ≡ true → Takes s tsdu c → c.reply ≡ Some reply → answers_word reply w ≡ true →
      Sends d words (after_count s c) (k + 1) more → Sends d (Some w ∷ words) s k (tsdu ∷ more)
  answer_on Left w words tsdu more c reply l h t r i a = accord.answers Left later _ own before w words tsdu more c reply l refl h t r i a
  answer_on Right w words tsdu more c reply l h t r i a = accord.answers Right later _ own before w words tsdu more c reply l refl h t r i a

  -- it sends a word
  say_on : (d : Direction) (w : Word) (words : List (Option Word)) (theirs : List (List ℕ)) (next : Seen) → CanSay s w (length own) next →
      Sends d words next k theirs → Sends d (Some w ∷ words) s k theirs
  say_on Left w words theirs next h a = accord.says Left later _ own before w words next h a
  say_on Right w words theirs next h a = accord.says Right later _ own before w words next h a

  -- it has sent a TSDU
  send_on : (d : Direction) (theirs : List (List ℕ)) → Accords later (seen_from d (party s k (mine ++ own ∷ [])) (party y b theirs)) →
      Sends d [] s k theirs
  send_on Left theirs a = accord.sends Left later _ own before a
  send_on Right theirs a = accord.sends Right later _ own before a

-- ---- the words of a TSDU are its remarks

abbrev pub said_as : Told → Option Word → Remark
said_as t w = record { word = w; octets = length t.octets; before = t.before }

words_are : (t : Told) (words : Words) → map (remark t) words ≡ map (said_as t) (map Some words)
words_are t [] = refl
words_are t (w ∷ words) = ap (λ (x : List Remark). remark t w ∷ x) (words_are t words)

pub remarks_are : (t : Told) → remarks_of t ≡ map (said_as t) (words_in t.octets)
remarks_are t = grind (arith, words_are)

-- the first remark, and those after it
abbrev first_before : List Remark → ℕ
first_before [] = 0
first_before (m ∷ ms) = m.before

abbrev first_word : List Remark → Option Word
first_word [] = None
first_word (m ∷ ms) = m.word

abbrev after_first : List Remark → List Remark
after_first [] = []
after_first (m ∷ ms) = ms

-- ---- a TSDU that counts as passed is in flight

-- Of all TSDUs of the other side these are taken, these in flight, and these not sent: so many are sent.
record Splits (us : List (List ℕ)) (sent : ℕ) (gone flight rest : List (List ℕ)) : Type 0 where
  all : us ≡ gone ++ (flight ++ rest)
  count : sent ≡ length gone + length flight

-- the next TSDU is in flight, and these after it
record Arrives (us : List (List ℕ)) (sent k : ℕ) (gone flight rest : List (List ℕ)) : Type 0 where
  tsdu : List ℕ
  more : List (List ℕ)
  is : flight ≡ tsdu ∷ more
  there : get_or us k [] ≡ tsdu
  counted : length (gone ++ tsdu ∷ []) ≡ k + 1
  on : Splits us sent (gone ++ tsdu ∷ []) more rest

pub one_more : (gone : List (List ℕ)) (tsdu : List ℕ) → length (gone ++ tsdu ∷ []) ≡ length gone + 1
one_more gone tsdu = length-append gone (tsdu ∷ [])

pub taken_one : (gone : List (List ℕ)) (tsdu : List ℕ) (more : List (List ℕ)) → gone ++ (tsdu ∷ more) ≡ (gone ++ tsdu ∷ []) ++ more
taken_one [] tsdu more = refl
taken_one (g ∷ gone) tsdu more = ap (λ (x : List (List ℕ)). g ∷ x) (taken_one gone tsdu more)

arrives : (us : List (List ℕ)) (sent k before : ℕ) (gone flight rest : List (List ℕ)) → k < before → before ≤ sent → length gone ≡ k →
    Splits us sent gone flight rest → Arrives us sent k gone flight rest
arrives us sent k before gone [] rest l b e s = let c : sent ≡ length gone + 0 = s.count in absurd (omega arith)
arrives us sent k before gone (tsdu ∷ more) rest l b e s = grind (arith, one_more, get_or-append_seam, taken_one)

-- ---- a TSDU is sent, word by word

module _ (us : List (List ℕ)) (d : Direction) (t : Told) (after : List Sending) (sent : ℕ) (few : t.before ≤ sent)
    (later : List Remark) (rest mine : List (List ℕ)) (y : Seen) (b : ℕ)
    (on : (s : Seen) (k : ℕ) (gone flight : List (List ℕ)) → length gone ≡ k → Splits us sent gone flight rest → Explains us later k s →
    Accords after (seen_from d (party s k (mine ++ t.octets ∷ [])) (party y b flight))) where
  abbrev SendsThis : List (Option Word) → Seen → ℕ → List (List ℕ) → Type 0
  SendsThis words s k flight = Accords (sending d t.octets t.before words ∷ after) (seen_from d (party s k mine) (party y b flight))

  sends_all : (words : List (Option Word)) (ms : List Remark) (k : ℕ) (s : Seen) (gone flight : List (List ℕ)) →
      ms ≡ map (said_as t) words ++ later → length gone ≡ k → Splits us sent gone flight rest → Explains us ms k s →
      SendsThis words s k flight
  sends_all [] ms k s gone flight is e split x = grind (arith, send_on)
  sends_all (w ∷ words) _ k s gone flight is e split (explained.done _ _) = absurd (cc)
  sends_all (w ∷ words) _ k s gone flight is e split (explained.takes m ms _ _ c l h taken n x) =
      let same : m.before ≡ t.before = ap first_before is in
      let a = arrives us sent k m.before gone flight rest l (omega arith) e split in
      grind (arith, take_on, sends_all (w ∷ words) (m ∷ ms) (k + 1) (after_count s c) (gone ++ a.tsdu ∷ []) a.more is a.counted a.on x)
  sends_all (w ∷ words) _ k s gone flight is e split (explained.answers m ms _ _ c reply v l h taken r i j x) =
      let same : m.before ≡ t.before = ap first_before is in
      let word : w ≡ Some v = sym (ap first_word is) ∙ i in
      let a = arrives us sent k m.before gone flight rest l (omega arith) e split in
      subst (λ (f : List (List ℕ)). SendsThis (w ∷ words) s k f) (sym a.is)
      (subst (λ (o : Option Word). SendsThis (o ∷ words) s k (a.tsdu ∷ a.more)) (sym word)
      (answer_on after t.octets t.before k s mine y b d v words a.tsdu a.more c reply (omega arith) h
      (subst (λ (u : List ℕ). Takes s u c) a.there taken) r j
      (sends_all words ms (k + 1) (after_count s c) (gone ++ a.tsdu ∷ []) a.more (ap after_first is) a.counted a.on x)))
  sends_all (w ∷ words) _ k s gone flight is e split (explained.says m ms _ _ next v i h x) =
      grind (arith, say_on, sends_all words ms k next gone flight (ap after_first is) e split x)

-- ---- all TSDUs of both sides

-- What a side still sends is explained from its session on, by what it has taken, what is in flight to it and what the other side
-- has still to send.
record Fits (us : List (List ℕ)) (sent : ℕ) (s : Seen) (k : ℕ) (flight : List (List ℕ)) (left : List Remark)
    (rest : List (List ℕ)) : Type 0 where
  gone : List (List ℕ)
  counted : length gone ≡ k
  split : Splits us sent gone flight rest
  explains : Explains us left k s

runs : (lefts rights : List (List ℕ)) (turns : List Turn) (l r : ℕ) (s y : Seen) (a b : ℕ) (mine theirs : List (List ℕ)) →
    AreInOrder l r turns →
    Fits rights r s a theirs (remarks (told_by Left turns)) (tsdus_by Right turns) →
    Fits lefts l y b mine (remarks (told_by Right turns)) (tsdus_by Left turns) →
    Accords (map sending_of turns) (record { left = party s a mine; right = party y b theirs })
runs lefts rights [] l r s y a b mine theirs o f g = accord.done _
runs lefts rights (turn Left t ∷ turns) l r s y a b mine theirs o f g =
    sends_all rights Left t (map sending_of turns) r o.0 (remarks (told_by Left turns)) (tsdus_by Right turns) mine y b
    (λ n k gone flight e split x. runs lefts rights turns (l + 1) r n y k b (mine ++ t.octets ∷ []) flight o.1
    (record { gone = gone; counted = e; split = split; explains = x }) (grind (arith, one_more, taken_one)))
    (words_in t.octets) _ a s f.gone theirs (ap (λ (x : List Remark). x ++ remarks (told_by Left turns)) (remarks_are t)) f.counted
    f.split f.explains
runs lefts rights (turn Right t ∷ turns) l r s y a b mine theirs o f g =
    sends_all lefts Right t (map sending_of turns) l o.0 (remarks (told_by Right turns)) (tsdus_by Left turns) theirs s a
    (λ n k gone flight e split x. runs lefts rights turns l (r + 1) s n a k flight (theirs ++ t.octets ∷ []) o.1
    (grind (arith, one_more, taken_one)) (record { gone = gone; counted = e; split = split; explains = x }))
    (words_in t.octets) _ b y g.gone mine (ap (λ (x : List Remark). x ++ remarks (told_by Right turns)) (remarks_are t)) g.counted
    g.split g.explains

nothing_taken : (us : List (List ℕ)) (s : Seen) (told : List Told) → IsExplained s us told → Fits us 0 s 0 [] (remarks told) us
nothing_taken us s told e = record { gone = []; counted = refl; split = record { all = refl; count = refl }; explains = e }

pub accord_of : (left right : Seen) (turns : List Turn) → AreInOrder 0 0 turns →
    IsExplained left (tsdus_by Right turns) (told_by Left turns) →
    IsExplained right (tsdus_by Left turns) (told_by Right turns) → Accords (map sending_of turns) (pair_of left right)
accord_of left right turns o e f = grind (arith, runs, nothing_taken)
