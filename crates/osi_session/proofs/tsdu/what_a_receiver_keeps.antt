-- What the receiver of parts has joined, whatever its user calls between them: their octets, or nothing if it discards
-- data. Nothing is assumed of its functional units: that the data is no fault is known from elsewhere.
use Rattle.osi_session.proofs.Vocabulary.{cases_Bool, State, Phase, Step, allowed, most_data, Call, fine, First, Middle, Last, DT, Word}
use Rattle.osi_session.proofs.Vocabulary.{says, part, kept_in, respond_word, IsKeptIn, discards, IsJoinedAs, IsNoFault, IsJoined, Place}
use Rattle.osi_session.proofs.Vocabulary.{is_in_place, is_last, joined_octets, ◌≡◌, refl, sym, ◌∙◌, subst, ℕ, ◌≤◌, true, false, ◌⊎◌, List}
use Rattle.osi_session.proofs.Vocabulary.{[], ◌++◌, length, Option, Some, None, Ok, inl, inr, arith}
use Rattle.osi_session.proofs.tables.what_is_true_of_each_phase.{excluded}
use Rattle.osi_session.proofs.tables.what_an_accepted_call_has_passed.{passed}
use Rattle.osi_session.proofs.tsdu.a_part_expected_or_discarded.{Expects, expects, part_discarded, data_discarded}
use Rattle.osi_session.proofs.tables.messages_act_as_the_table_says.{word_at, kept_none}

-- ---- a call

pub call_keeps : (s : State) (joined begun : Option (List ℕ)) (c : Call) (x : Step) → allowed s c ≡ Ok x → IsJoinedAs s joined begun →
    IsJoinedAs x.next (kept_in x.next.phase joined) begun
call_keeps s joined begun c x h k = search (arith, passed, kept_none)

-- ---- a part arrives, if the whole data would be no fault

pub gone_is : (p : Phase) (joined : Option (List ℕ)) → discards p ≡ true → IsKeptIn p joined → joined ≡ None
gone_is p joined d k = sym k ∙ (grind arith)

-- the taker discards data, or expects it and has joined what was begun
which_way : (s : State) (joined begun : Option (List ℕ)) (o : List ℕ) → IsKeptIn s.phase joined → IsNoFault s o →
    IsJoinedAs s joined begun →
    ((discards s.phase ≡ true) × (joined ≡ None)) ⊎ (Expects s × (joined ≡ begun))
which_way s joined begun o kept fit j = grind (arith, cases_Bool, gone_is, expects)

abbrev pub Joins : State → Option (List ℕ) → Word → Option (List ℕ) → Type 0
Joins s joined w now =
    respond_word (record { state = s; joined = joined }) w ≡ record {
      next = record { state = s; joined = now };
      shown = [];
      reply = None;
      closes = false;
    }

-- a part that is not the last
pub next_is : (s : State) (begun : Option (List ℕ)) (place : Place) (o : List ℕ) → is_in_place begun place ≡ true → is_last place ≡ false →
    length (joined_octets begun ++ o) ≤ most_data → Expects s → Joins s begun (part place o) (Some (joined_octets begun ++ o))
next_is s begun place o h l short e =
    word_at (record { state = s; joined = begun }) (part place o) fine (grind (arith, excluded)) ∙ (grind arith)

-- the last part does what the whole data does
pub last_joined : (s : State) (front last : List ℕ) → length (front ++ last) ≤ most_data → Expects s →
    respond_word (record { state = s; joined = Some front }) (part Last last) ≡ respond_word (record { state = s; joined = None })
    (says (DT (front ++ last)))
last_joined s front last short e =
    word_at (record { state = s; joined = Some front }) (part Last last) fine
    (grind (arith, excluded))
    ∙ sym (word_at (record { state = s; joined = None }) (says (DT (front ++ last))) fine (grind (arith, excluded)))

pub first_arrives : (s : State) (joined : Option (List ℕ)) (o all : List ℕ) → length o ≤ most_data → IsKeptIn s.phase joined →
    IsNoFault s all → IsJoinedAs s joined None →
    IsJoined s joined (part First o) (Some o)
first_arrives s joined o all short kept fit j = elim (which_way s joined None all kept fit j) [
  | inl d ↦ subst (λ (k : Option (List ℕ)). IsJoined s k (part First o) (Some o)) (sym d.1) (grind (arith, part_discarded))
  | inr e ↦ record {
    now = Some o;
    is = let same = e.1 in rw same (next_is s None First o refl refl short e.0);
    stands = inl refl;
  }
]

pub middle_arrives : (s : State) (joined : Option (List ℕ)) (b o all : List ℕ) → length (b ++ o) ≤ most_data → IsKeptIn s.phase joined →
    IsNoFault s all → IsJoinedAs s joined (Some b) →
    IsJoined s joined (part Middle o) (Some (b ++ o))
middle_arrives s joined b o all short kept fit j = elim (which_way s joined (Some b) all kept fit j) [
  | inl d ↦ grind (arith, part_discarded)
  | inr e ↦ record {
    now = Some (b ++ o);
    is = let same = e.1 in rw same (next_is s (Some b) Middle o refl refl short e.0);
    stands = inl refl;
  }
]

pub last_arrives : (s : State) (joined : Option (List ℕ)) (front last : List ℕ) → length (front ++ last) ≤ most_data →
    IsKeptIn s.phase joined → IsNoFault s (front ++ last) →
    IsJoinedAs s joined (Some front) →
    respond_word (record { state = s; joined = joined }) (part Last last) ≡ respond_word (record { state = s; joined = None })
    (says (DT (front ++ last)))
last_arrives s joined front last short kept fit j = grind (arith, which_way, part_discarded, data_discarded, last_joined)
