-- Calls of a link one after the other: what they hand in and out and give, and all that is given for TSDUs that are handed in.
-- For the course of a connection.
use Rattle.osi_blameless.proofs.ends.Vocabulary.{[], ap, append_assoc, arith, length, List, map, refl, subst, sym, ℕ, ◌++◌, ◌+◌, ◌∷◌, ◌≡◌}
use Rattle.osi_blameless.proofs.ends.Vocabulary.{append-nil, map-append, Value, drained_leaves, drained_moves, all_given, Given, Standing}
use Rattle.osi_blameless.proofs.ends.Vocabulary.{unit_of}
use Rattle.osi_blameless.proofs.ends.Vocabulary.{with_tsdu, give_out, hand_in, hand_out, Move, MovesAlong, take_in, tsdu_out, tsdus_in}
use Rattle.osi_blameless.proofs.ends.Vocabulary.{tsdus_out}
use Rattle.osi_blameless.proofs.ends.Vocabulary.{pumped, Deeds, IsFreshLink, no_deeds, said_in, taken_in, then_did, units_given}
use Rattle.osi_blameless.proofs.ends.Vocabulary.{units_taken, Said}
use Rattle.osi_blameless.proofs.ends.Vocabulary.{said_after, flat_map-append}
use Rattle.osi_class.specs.Between.{IsFresh}

-- ---- one list after another

pub along_more : (xs ys : List Move) (a b c : Standing) → MovesAlong a xs b → MovesAlong b ys c → MovesAlong a (xs ++ ys) c
along_more [] ys a b c first then_is = subst (λ (s : Standing). MovesAlong s ys c) first then_is
along_more (x ∷ xs) ys a b c first then_is = (first.0, first.1, along_more xs ys first.0 b c first.2 then_is)

pub out_more : (xs ys : List Move) → tsdus_out (xs ++ ys) ≡ tsdus_out xs ++ tsdus_out ys
out_more xs ys = flat_map-append tsdu_out xs ys

pub taken_more : (xs ys : List Move) → units_taken (xs ++ ys) ≡ units_taken xs ++ units_taken ys
taken_more xs ys = flat_map-append taken_in xs ys

pub said_more : (n : ℕ) (xs ys : List Move) → said_in n (xs ++ ys) ≡ said_in n xs ++ said_in (n + length (tsdus_out xs)) ys
said_more n [] ys = ap (λ (m : ℕ). said_in m ys) (let t : n ≡ n + 0 = omega arith in t)
said_more n (hand_in tsdu ∷ xs) ys = ap (λ (l : List Said). record { octets = tsdu; taken = n } ∷ l) (said_more n xs ys)
said_more n (hand_out tsdu ∷ xs) ys = grind (arith, said_more (n + 1) xs ys)
said_more n (give_out unit ∷ xs) ys = said_more n xs ys
said_more n (take_in unit ∷ xs) ys = said_more n xs ys

-- ---- what a link gives by itself

abbrev pub gives : List Given → List Move
gives units = map give_out units

pub gives_none_in : (units : List Given) → tsdus_in (gives units) ≡ []
gives_none_in [] = refl
gives_none_in (unit ∷ units) = gives_none_in units

pub gives_none_out : (units : List Given) → tsdus_out (gives units) ≡ []
gives_none_out [] = refl
gives_none_out (unit ∷ units) = gives_none_out units

pub gives_units : (units : List Given) → units_given (gives units) ≡ units
gives_units [] = refl
gives_units (unit ∷ units) = ap (λ (l : List Given). unit ∷ l) (gives_units units)

pub gives_unsaid : (n : ℕ) (units : List Given) → said_in n (gives units) ≡ []
gives_unsaid n [] = refl
gives_unsaid n (unit ∷ units) = gives_unsaid n units

pub gives_untaken : (units : List Given) → units_taken (gives units) ≡ []
gives_untaken [] = refl
gives_untaken (unit ∷ units) = gives_untaken units

-- if nothing is handed in, nothing is said
pub none_said : (n : ℕ) (moves : List Move) → tsdus_in moves ≡ [] → said_in n moves ≡ []
none_said n [] h = refl
none_said n (hand_in tsdu ∷ moves) h = absurd (cc)
none_said n (hand_out tsdu ∷ moves) h = none_said (n + 1) moves h
none_said n (give_out unit ∷ moves) h = none_said n moves h
none_said n (take_in unit ∷ moves) h = none_said n moves h

-- what was put before, and what the link gave then
pub put_more : (peer : ℕ) (xs ys : List Move) (put : List Value) → put ≡ map (unit_of peer) (units_given xs) →
    put ++ map (unit_of peer) (units_given ys) ≡ map (unit_of peer) (units_given (xs ++ ys))
put_more peer xs ys put is = grind (arith, map-append, flat_map-append)

-- ---- what was done

pub then_none : (deeds : Deeds) → then_did deeds no_deeds ≡ deeds
then_none deeds = λ i. record { calls = append-nil deeds.calls i; put = append-nil deeds.put i }

pub then_joined : (a b c : Deeds) → then_did (then_did a b) c ≡ then_did a (then_did b c)
then_joined a b c = λ i. record { calls = append_assoc a.calls b.calls c.calls i; put = append_assoc a.put b.put c.put i }

-- ---- a link as it is opened

pub fresh_of : (link : Standing) → IsFreshLink link → IsFresh link
fresh_of link f = subst IsFresh (sym f.is) (grind arith)

-- ---- TSDUs that are handed in one after the other, each once all was given for the one before

pub record HandsIn (link : Standing) (tsdus : List (List ℕ)) (after : Standing) (moves : List Move) : Type 0 where
  pub along : MovesAlong link moves after
  pub said : (n : ℕ) → said_in n moves ≡ said_after n tsdus
  pub out : tsdus_out moves ≡ []
  pub taken : units_taken moves ≡ []
  pub joining : after.ends.joining ≡ link.ends.joining

abbrev pub one_in : List ℕ → Standing → List Move
one_in tsdu link = hand_in tsdu ∷ gives (all_given (with_tsdu link tsdu))

pub hands_one : (link : Standing) (tsdu : List ℕ) → HandsIn link (tsdu ∷ []) (pumped (with_tsdu link tsdu)) (one_in tsdu link)
hands_one link tsdu = grind (arith, drained_moves, gives_unsaid, gives_none_out, gives_untaken, drained_leaves)

after_both : (n : ℕ) (some others : List (List ℕ)) → said_after n (some ++ others) ≡ said_after n some ++ said_after n others
after_both n [] others = refl
after_both n (tsdu ∷ some) others = ap (λ (l : List Said). record { octets = tsdu; taken = n } ∷ l) (after_both n some others)

pub hands_more : (link mid after : Standing) (tsdus others : List (List ℕ)) (xs ys : List Move) → HandsIn link tsdus mid xs →
    HandsIn mid others after ys → HandsIn link (tsdus ++ others) after (xs ++ ys)
hands_more link mid after tsdus others xs ys a b = grind (arith, along_more, said_more, after_both, out_more, taken_more)
