-- Units read as messages.
-- For units, connections of class 2 and the invariant.
use Rattle.osi_between.proofs.Vocabulary.{◌≡◌, ℕ, true, false, List, [], ◌∷◌, ◌++◌, map, refl, ap, Value, data0, data2, acknowledge}
use Rattle.osi_between.proofs.Vocabulary.{parts_under_way, Given, part0, part2, ack, tsdus_after, uncut, addressed, Message, message}
use Rattle.osi_between.proofs.Vocabulary.{messages_after, uncut_units, led_by, first_led_by, MayLackABeginning, append_assoc}
use Rattle.osi_between.proofs.Vocabulary.{append-nil, ◌∙◌, sym, error, unit_of, disconnect, zero, suc}

behind_one : (m : Message) (xs ys : List Message) → xs ≡ ys → m ∷ xs ≡ m ∷ ys
behind_one m xs ys e = ap (λ (l : List Message). m ∷ l) e

-- ---- TSDUs

uncut_messages : (begun : List ℕ) (ts : List (List ℕ)) → messages_after begun (uncut_units ts) ≡ map message (tsdus_after begun (uncut ts))
uncut_messages begun [] = refl
uncut_messages begun (t ∷ ts) = ap (λ (l : List Message). message (begun ++ t) ∷ l) (uncut_messages [] ts)

pub tsdu_messages : (n : ℕ) (gs : List Given) (begun : List ℕ) (ts : List (List ℕ)) →
    messages_after begun (addressed n gs ++ uncut_units ts) ≡ map message (tsdus_after begun (parts_under_way gs ++ uncut ts))
tsdu_messages n [] begun ts = uncut_messages begun ts
tsdu_messages n (part0 false octets ∷ gs) begun ts = tsdu_messages n gs (begun ++ octets) ts
tsdu_messages n (part2 number false octets ∷ gs) begun ts = tsdu_messages n gs (begun ++ octets) ts
tsdu_messages n (ack number credit ∷ gs) begun ts = tsdu_messages n gs begun ts
tsdu_messages n (g ∷ gs) begun ts = behind_one _ _ _ (tsdu_messages n gs [] ts)

-- ---- units after units

-- what is begun after units
abbrev pub begun_after : List ℕ → List Value → List ℕ
begun_after begun [] = begun
begun_after begun (data0 false octets ∷ units) = begun_after (begun ++ octets) units
begun_after begun (data2 destination number false octets ∷ units) = begun_after (begun ++ octets) units
begun_after begun (acknowledge credit destination number ∷ units) = begun_after begun units
begun_after begun (error destination cause ∷ units) = begun_after begun units
begun_after begun (unit ∷ units) = begun_after [] units

pub messages_part : (us : List Value) (begun : List ℕ) (vs : List Value) →
    messages_after begun (us ++ vs) ≡ messages_after begun us ++ messages_after (begun_after begun us) vs
messages_part [] begun vs = refl
messages_part (data0 false octets ∷ us) begun vs = messages_part us (begun ++ octets) vs
messages_part (data2 destination number false octets ∷ us) begun vs = messages_part us (begun ++ octets) vs
messages_part (acknowledge credit destination number ∷ us) begun vs = messages_part us begun vs
messages_part (error destination cause ∷ us) begun vs = messages_part us begun vs
messages_part (u ∷ us) begun vs = behind_one _ _ _ (messages_part us [] vs)

-- the messages of units are a prefix of those of more units
pub messages_front : (us : List Value) (begun : List ℕ) (vs : List Value) →
    (lost : List Message) × (messages_after begun (us ++ vs) ≡ messages_after begun us ++ lost)
messages_front us begun vs = (messages_after (begun_after begun us) vs, messages_part us begun vs)

-- those after make the same messages whatever was begun before them
pub messages_behind : (us : List Value) (begun : List ℕ) (vs : List Value) (xs : List Message) → ((b : List ℕ) → messages_after b vs ≡ xs) →
    messages_after begun (us ++ vs) ≡ messages_after begun us ++ xs
messages_behind us begun vs xs same =
    messages_part us begun vs ∙ ap (λ (l : List Message). messages_after begun us ++ l) (same (begun_after begun us))

-- if nothing is begun after units, nothing is begun after the last of them either, if those before were dropped
begun_front : (us : List Value) (b c : List ℕ) → begun_after (b ++ c) us ≡ [] → begun_after c us ≡ []
begun_front [] [] c e = e
begun_front [] (x ∷ b) c e = cc
begun_front (data0 false octets ∷ us) b c e =
    begun_front us b (c ++ octets) (ap (λ (d : List ℕ). begun_after d us) (sym (append_assoc b c octets)) ∙ e)
begun_front (data2 destination number false octets ∷ us) b c e =
    begun_front us b (c ++ octets) (ap (λ (d : List ℕ). begun_after d us) (sym (append_assoc b c octets)) ∙ e)
begun_front (acknowledge credit destination number ∷ us) b c e = begun_front us b c e
begun_front (error destination cause ∷ us) b c e = begun_front us b c e
begun_front (u ∷ us) b c e = e

begun_part : (us vs : List Value) (b : List ℕ) → begun_after b (us ++ vs) ≡ begun_after (begun_after b us) vs
begun_part [] vs b = refl
begun_part (data0 false octets ∷ us) vs b = begun_part us vs (b ++ octets)
begun_part (data2 destination number false octets ∷ us) vs b = begun_part us vs (b ++ octets)
begun_part (acknowledge credit destination number ∷ us) vs b = begun_part us vs b
begun_part (error destination cause ∷ us) vs b = begun_part us vs b
begun_part (u ∷ us) vs b = begun_part us vs []

pub begun_last : (us vs : List Value) (b : List ℕ) → begun_after b (us ++ vs) ≡ [] → begun_after [] vs ≡ []
begun_last us vs b e =
    begun_front vs (begun_after b us) []
    (ap (λ (c : List ℕ). begun_after c vs) (append-nil (begun_after b us)) ∙ sym (begun_part us vs b) ∙ e)

-- ---- what was begun is dropped

pub led_none : (ms : List Message) → first_led_by [] ms ≡ ms
led_none [] = refl
led_none (m ∷ ms) = ap (λ (x : Message). x ∷ ms) (one m)
  where
    one : (m : Message) → led_by [] m ≡ m
    one (message octets) = refl
    one m = refl

pub led_twice : (b c : List ℕ) (ms : List Message) → first_led_by (b ++ c) ms ≡ first_led_by b (first_led_by c ms)
led_twice b c [] = refl
led_twice b c (m ∷ ms) = ap (λ (x : Message). x ∷ ms) (one m)
  where
    one : (m : Message) → led_by (b ++ c) m ≡ led_by b (led_by c m)
    one (message octets) = ap message (append_assoc b c octets)
    one m = refl

led_begun : (us : List Value) (b c : List ℕ) → messages_after (b ++ c) us ≡ first_led_by b (messages_after c us)
led_begun (data0 false octets ∷ us) b c =
    ap (λ (d : List ℕ). messages_after d us) (append_assoc b c octets) ∙ led_begun us b (c ++ octets)
led_begun (data2 destination number false octets ∷ us) b c =
    ap (λ (d : List ℕ). messages_after d us) (append_assoc b c octets) ∙ led_begun us b (c ++ octets)
led_begun (data0 true octets ∷ us) b c = ap (λ (d : List ℕ). message d ∷ messages_after [] us) (append_assoc b c octets)
led_begun (data2 destination number true octets ∷ us) b c = ap (λ (d : List ℕ). message d ∷ messages_after [] us) (append_assoc b c octets)
led_begun (acknowledge credit destination number ∷ us) b c = led_begun us b c
led_begun (error destination cause ∷ us) b c = led_begun us b c
led_begun (disconnect destination zero reason user ∷ us) b c = refl
led_begun (disconnect destination (suc source) reason user ∷ us) b c = refl
led_begun us b c = refl

pub lacks_begun : (us : List Value) (b : List ℕ) → MayLackABeginning (messages_after b us) (messages_after [] us)
lacks_begun us b = record {
  lacking = b;
  is = ap (λ (c : List ℕ). messages_after c us) (sym (append-nil b)) ∙ led_begun us b [];
}

-- a unit that a closing connection ignores
pub lacks_one : (n : ℕ) (g : Given) (us : List Value) →
    MayLackABeginning (messages_after [] (unit_of n g ∷ us)) (messages_after [] (unit_of n g ∷ []) ++ messages_after [] us)
lacks_one n (part0 false octets) us = lacks_begun us octets
lacks_one n (part2 number false octets) us = lacks_begun us octets
lacks_one n (part0 true octets) us = record { lacking = []; is = refl }
lacks_one n (part2 number true octets) us = record { lacking = []; is = refl }
lacks_one n (ack number credit) us = lacks_begun us []
