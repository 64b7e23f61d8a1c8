-- What a side may send: calls that a phase refuses, and that its state keeps the invariant.
use Rattle.osi_session.proofs.Vocabulary.{says, has_no_effect, begins_anew, and_parts, Phase, Releasing, is_over, is_wait_transport}
use Rattle.osi_session.proofs.Vocabulary.{is_answering, State, FunctionalUnits, TokenSetting, TsduMaximumSize, are_sizes, has_data, IsSound}
use Rattle.osi_session.proofs.Vocabulary.{Call, HasSerial, may_call, Meaning, CN, AC, FN, AA, IsNumbered, IsSmall, said_at, meant_by}
use Rattle.osi_session.proofs.Vocabulary.{meant_numbered, ◌≡◌, refl, subst, ℕ, zero, suc, Bool, true, false, not, ◌&&◌, ◌||◌, is_none}
use Rattle.osi_session.proofs.Vocabulary.{if◌then◌else◌, List, [], ◌∷◌, length, Option, Some, None, option_map, arith, taker_with}
use Rattle.osi_session.proofs.Vocabulary.{CountsCame, message_breach, word_breach, Seen, goes, said_within, Count, calling, fits_user_data}
use Rattle.osi_session.proofs.Vocabulary.{connecting, accepting_in, where_is, said_message, seen_calling, Message, answers_wishes, sym}
use Rattle.osi_session.proofs.tables.what_is_true_of_each_phase.{excluded}
use Rattle.osi_session.proofs.values.what_sizes_are_agreed.{smaller_are}
use Rattle.osi_session.proofs.runs.calls_keep_the_invariant.{opened, holding_phase, after_sound}
use Rattle.osi_session.proofs.tsdu.what_the_words_of_a_tsdu_preserve.{octets_sound}
use Rattle.osi_session.proofs.ahead.the_state_after_a_word.{if_state, call_leaves}

-- no call is allowed if the connection is over
pub over_refuses : (c : Call) (p : Phase) → is_over p ≡ true → may_call p c ≡ false
over_refuses c p h = grind arith

-- ---- the state after sending is sound

pub calling_left : (s : State) (c : Call) (n : State) → HasSerial c → calling s c ≡ Some n → IsSound s → IsSound n
calling_left s c n small e h = let a = call_leaves s c n e in subst IsSound (sym a.next) (after_sound s c small a.phase a.needed h)

where_left : (b : Bool) (s : State) (c : Call) (n : State) → HasSerial c → where_is b (calling s c) ≡ Some n → IsSound s → IsSound n
where_left b s c n small e h = calling_left s c n small (if_state b (calling s c) n e).1 h

is_left : (b : Bool) (x n : State) → (if b then Some x else None) ≡ Some n → (b ≡ true) × (x ≡ n)
is_left b x n h = grind arith

connecting_left : (s : State) (requirements : ℕ) (serial : Option ℕ) (wishes : TokenSetting) (sizes : TsduMaximumSize) (octets : List ℕ)
    (n : State) → IsSmall serial
    → connecting s requirements serial wishes sizes octets ≡ Some n → IsSound s → IsSound n
connecting_left s requirements serial wishes sizes octets n small e h =
    let a = is_left (is_wait_transport s.phase && (fits_user_data octets && are_sizes sizes)) _ n e in
    search (arith, and_parts, excluded)

accepting_left : (units : FunctionalUnits) (s : State) (version_2 : Bool) (serial : Option ℕ) (sides : TokenSetting)
    (sizes : TsduMaximumSize) (octets : List ℕ) (n : State) → IsSmall serial
    → accepting_in units s version_2 serial sides sizes octets ≡ Some n → IsSound s → IsSound n
accepting_left units s version_2 serial sides sizes octets n small e h =
    let a = is_left
    (is_answering s.phase &&
    (fits_user_data octets && ((version_2 && (has_data units && are_sizes sizes)) && answers_wishes units s.wishes sides))) _ n e in
    search (arith, and_parts, has_data, opened, smaller_are)

pub said_sound : (s : State) (m : Meaning) (n : State) → IsNumbered m → said_message s m ≡ Some n → IsSound s → IsSound n
said_sound s (CN version_2 requirements serial wishes from to sizes octets) n small e h = search (arith, connecting_left)
said_sound s (AC version_2 requirements serial sides sizes octets) n small e h = search (arith, accepting_left)
said_sound s (FN octets) n small e h = grind (arith, is_left, holding_phase Releasing s refl refl refl h)
said_sound s AA n small e h = absurd (cc)
said_sound s _ n small e h = search (arith, where_left, calling_left)

-- ---- the state after what is taken is sound

-- some octets, this many
abbrev pub some_octets : ℕ → List ℕ
some_octets zero = []
some_octets (suc n) = 0 ∷ some_octets n

some_len : (n : ℕ) → length (some_octets n) ≡ n
some_len zero = refl
some_len (suc n) = let e = some_len n in omega arith

abbrev pub so_many : Option ℕ → Option (List ℕ)
so_many None = None
so_many (Some n) = Some (some_octets n)

pub so_many_are : (n : Option ℕ) → option_map length (so_many n) ≡ n
so_many_are n = grind (arith, some_len)

pub count_sound : (s : State) (n : Option ℕ) (tsdu : List ℕ) (c : Count) → CountsCame s n (said_at tsdu) c → IsSound s → IsSound c.state
count_sound s n tsdu c k h =
    subst (λ (x : Count). IsSound x.state) (k (so_many n) (so_many_are n)) (octets_sound (taker_with s (so_many n)) tsdu _ refl h)

pub calling_sound : IsSound seen_calling.state
calling_sound = grind arith

-- the numbers of a message in memory are those that a point may have
pub message_sound : (s : State) (m : Message) (n : State) → said_message s (meant_by m) ≡ Some n → IsSound s → IsSound n
message_sound s m n e h = said_sound s (meant_by m) n (meant_numbered m) e h

-- ---- a message that may be sent

pub said_by_message : (s x : Seen) (v n : State) (m : Meaning) (a b : Bool) → v ≡ s.state → a ≡ has_no_effect m → a ≡ false →
    b ≡ not (is_none s.sent || not (begins_anew m)) → b ≡ false
    → said_message v m ≡ Some n → x ≡ goes s n → said_within s (says m) ≡ Some x
said_by_message s x v n m a b w e f g h k l = grind arith

-- ---- a message that may not be sent

pub none_where : (b : Bool) (o : Option State) → o ≡ None → where_is b o ≡ None
none_where b o h = grind arith

pub not_said : (s : Seen) (v : State) (m : Meaning) (a : Bool) → v ≡ s.state → a ≡ has_no_effect m → a ≡ false → said_message v m ≡ None →
    said_within s (says m) ≡ None
not_said s v m a w e f k = grind arith

-- and one that breaks no rule
pub breaks_none : (s : Seen) (v : State) (m : Meaning) (a b : Bool) → v ≡ s.state → a ≡ has_no_effect m → a ≡ false →
    b ≡ not (is_none s.sent || not (begins_anew m)) → b ≡ false → None ≡ message_breach v m → None ≡ word_breach s (says m)
breaks_none s v m a b w e f g h k = grind arith
