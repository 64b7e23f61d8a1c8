-- Of three sessions that differ in V(A) alone, in the order of V(A), the first may send what the second may, and either is then in
-- the same state or all three are as they were. For the law of what lies between.
use Rattle.osi_side.proofs.Vocabulary.{◌≡◌, ◌∙◌, refl, sym, ap, ℕ, ◌+◌, ◌≤◌, ◌⊎◌, inl, inr, Bool, true, false, not, ◌&&◌, ◌||◌, ◌==◌}
use Rattle.osi_side.proofs.Vocabulary.{unwrap_or, if◌then◌else◌, nat_le, List, [], ◌∷◌, length, Option, Some, None, option_map, Ok, arith}
use Rattle.osi_side.proofs.Vocabulary.{and_parts, leb-true, le-leb, are_sizes, Meaning, CN, AC, RF, DT, GT, PT, MIP, MIA, MAP, MAA, RS, RA}
use Rattle.osi_side.proofs.Vocabulary.{FN, DN, NF, AB, AA, names, each, Word, says, part, Connecting, Releasing, State, AllHold, Answer}
use Rattle.osi_side.proofs.Vocabulary.{Test, after, base_for, first_error, has_right, may_call, most_of, needs, opened_with, refusal_with}
use Rattle.osi_side.proofs.Vocabulary.{Call, Accept, Refuse, Data, Give, Please, Minor, MinorConfirm, Major, MajorConfirm, Restart}
use Rattle.osi_side.proofs.Vocabulary.{RestartConfirm, ReleaseAccept, ReleaseRefuse, Abort, begins_anew, is_last, lower, is_answering}
use Rattle.osi_side.proofs.Vocabulary.{is_ready, is_wait_transport, agreed_base, has_no_effect, is_restart, answers_wishes, of_answerer}
use Rattle.osi_side.proofs.Vocabulary.{stated, limit_of, Seen, CanSay, calling, fits_user_data, goes, is_in_size, left_by, may_send}
use Rattle.osi_side.proofs.Vocabulary.{said_message, said_within, stands_in_place, where_is, functional_units, call_leaves, mapped}
use Rattle.osi_side.proofs.Vocabulary.{confirmed_to, seen_to, is_none}
use Rattle.osi_session.specs.Allowed.{octets_of}
use Rattle.osi_session.specs.Allowed.{sends}
unfoldable use Rattle.osi_session.specs.Allowed.{met}
unfoldable use Rattle.osi_session.specs.Numbers.{point_sent, minor_confirmed, major_confirmed, restarted_at}
unfoldable use Rattle.osi_session.specs.Sizes.{smaller_sizes}
unfoldable use Rattle.osi_session.specs.Standing.{said}
unfoldable use Rattle.osi_session.specs.Units.{both_units, has_data}
use Rattle.osi_session.proofs.ahead.the_state_after_a_word.{within}
use Rattle.osi_side.proofs.walked.what_is_taken_between.{confirms, lower_rises}

-- ---- calls

all_pass : (ts : List Test) (a : Answer) → AllHold ts → first_error ts a ≡ a
all_pass [] a h = refl
all_pass (t ∷ ts) a h = rw h.0 (all_pass ts a h.1)

may_leave : (s : State) (c : Call) → may_call s.phase c ≡ true → nat_le (length (octets_of c)) (most_of c) ≡ true → AllHold (needs s c)
    → calling s c ≡ Some (after s c)
unfolding met
may_leave s c p q h = let t = all_pass (needs s c) (Ok (record { next = after s c; sent = sends s c })) h in rw (p, q) (ap left_by t)

abbrev is_confirming : Call → Bool
is_confirming (MinorConfirm n octets) = true
is_confirming _ = false

-- V(A) after a call
abbrev raise : State → Call → ℕ → ℕ
raise s (Accept r i w z o) n = base_for (functional_units r) i
raise s (Minor c o) n = if s.numbers.answers then s.numbers.next else n
raise s (Major o) n = if s.numbers.answers then s.numbers.next else n
raise s (MajorConfirm o) n = s.numbers.next
raise s (Restart k w o) n = lower k n
raise s _ n = n

after_at : (s : State) (c : Call) (n : ℕ) → is_confirming c ≡ false → after (confirmed_to n s) c ≡ confirmed_to (raise s c n) (after s c)
unfolding point_sent major_confirmed restarted_at
after_at s c n e = grind arith

raise_rises : (s : State) (c : Call) (a b : ℕ) → a ≤ b → raise s c a ≤ raise s c b
raise_rises s c a b h = grind (arith, lower_rises)

-- ---- messages

-- any V(A) allows it, and leaves this
pub record AnyGives (f : State → Option State) (s : State) (v : ℕ) (x : State) : Type 0 where
  pub from : State
  pub to : ℕ → ℕ
  pub rises : (a b : ℕ) → a ≤ b → to a ≤ to b
  pub is : x ≡ confirmed_to (to v) from
  pub any : (n : ℕ) → f (confirmed_to n s) ≡ Some (confirmed_to (to n) from)

abbrev id : ℕ → ℕ
id n = n

call_gives : (s : State) (c : Call) (v : ℕ) (x : State) → is_confirming c ≡ false → calling (confirmed_to v s) c ≡ Some x
    → AnyGives (λ y. calling y c) s v x
call_gives s c v x e h =
    let l = call_leaves (confirmed_to v s) c x h in
    record {
      from = after s c;
      to = raise s c;
      rises = raise_rises s c;
      is = l.next ∙ after_at s c v e;
      any = λ n. may_leave (confirmed_to n s) c l.phase l.short (grind arith) ∙ ap Some (after_at s c n e);
    }

where_gives : (b : Bool) (s : State) (c : Call) (v : ℕ) (x : State) → is_confirming c ≡ false
    → where_is b (calling (confirmed_to v s) c) ≡ Some x → AnyGives (λ y. where_is b (calling y c)) s v x
where_gives true s c v x e h = call_gives s c v x e h
where_gives false s c v x e h = absurd (cc)

plain_gives : (b : Bool) (from : State) (to : ℕ → ℕ) (s : State) (v : ℕ) (x : State) → ((n m : ℕ) → n ≤ m → to n ≤ to m)
    → (if b then Some (confirmed_to (to v) from) else None) ≡ Some x
    → AnyGives (λ y. if b then Some (confirmed_to (to y.numbers.confirmed) from) else None) s v x
plain_gives b from to s v x r h = grind arith

id_rises : (n m : ℕ) → n ≤ m → n ≤ m
id_rises n m h = h

pub message_gives : (s : State) (m : Meaning) (v : ℕ) (x : State) → confirms (says m) ≡ false
    → said_message (confirmed_to v s) m ≡ Some x → AnyGives (λ y. said_message y m) s v x
message_gives s (MIA k o) v x e h = absurd (cc)
message_gives s (CN y r i w f t z o) v x e h =
    let g = plain_gives (is_wait_transport s.phase && (fits_user_data o && are_sizes z))
    (record s { phase = Connecting; units = functional_units r; wishes = w; proposed = unwrap_or i 0; sizes = z }) id s v x id_rises h in
    record { from = g.from; to = g.to; rises = g.rises; is = g.is; any = g.any }
message_gives s (AC y r i w z o) v x e h =
    let units = both_units s.units (functional_units r) in
    let base = agreed_base units i s.proposed in
    let g = plain_gives (is_answering s.phase && (fits_user_data o && ((y && (has_data units && are_sizes z)) && answers_wishes units
    s.wishes w)))
    (opened_with units (of_answerer units (stated units w)) base (smaller_sizes s.sizes z) s) (λ n. base) s v x (grind arith) h in
    record { from = g.from; to = g.to; rises = g.rises; is = g.is; any = g.any }
message_gives s (RF reason o) v x e h = call_gives s (Refuse (refusal_with o)) v x refl h
message_gives s (DT o) v x e h = call_gives s (Data o) v x refl h
message_gives s (GT t) v x e h = call_gives s (Give t) v x refl h
message_gives s (PT t o) v x e h = call_gives s (Please t o) v x refl h
message_gives s (MIP c k o) v x e h = grind (arith, where_gives (k == s.numbers.next) s (Minor c o) v x refl h)
message_gives s (MAP k o) v x e h = grind (arith, where_gives (k == s.numbers.next) s (Major o) v x refl h)
message_gives s (MAA k o) v x e h = grind (arith, where_gives (k + 1 == s.numbers.next) s (MajorConfirm o) v x refl h)
message_gives s (RS t k w o) v x e h = where_gives (is_restart t) s (Restart k w o) v x refl h
message_gives s (RA k w o) v x e h =
    let g = where_gives ((k == s.numbers.next) && answers_wishes s.units s.wishes w) s (RestartConfirm (stated s.units w) o) v x refl h in
    record { from = g.from; to = g.to; rises = g.rises; is = g.is; any = g.any }
message_gives s (FN o) v x e h =
    let g = plain_gives (is_ready s.phase && (fits_user_data o && each (has_right s))) (record s { phase = Releasing }) id s v x id_rises h
    in
    record { from = g.from; to = g.to; rises = g.rises; is = g.is; any = g.any }
message_gives s (DN o) v x e h = call_gives s (ReleaseAccept o) v x refl h
message_gives s (NF o) v x e h = call_gives s (ReleaseRefuse o) v x refl h
message_gives s (AB b o) v x e h = where_gives (not (names b 4)) s (Abort o) v x refl h
message_gives s AA v x e h = absurd (cc)

-- ---- words

pub record SaysThree (s : Seen) (w : Word) (o a v c : ℕ) (next : Seen) : Type 0 where
  pub from : Seen
  pub low : ℕ
  pub mid : ℕ
  pub high : ℕ
  pub to_mid : low ≤ mid
  pub to_high : mid ≤ high
  pub one : CanSay (seen_to a s) w o (seen_to low from)
  pub two : next ≡ seen_to mid from
  pub three : CanSay (seen_to c s) w o (seen_to high from)

abbrev pub SaysBetween : Seen → Word → (o a v c : ℕ) → Seen → Type 0
SaysBetween s w o a v c next = SaysThree s w o a v c next ⊎ CanSay (seen_to a s) w o next

pub can_say : (s : Seen) (w : Word) (o : ℕ) (next : Seen) → (not s.closed && is_in_size s.state o) ≡ true → said_within s w ≡ Some next
    → CanSay s w o next
unfolding said
can_say s w o next e h = rw e h

-- what is sent within the size, at any V(A)
pub record AnySays (s : Seen) (w : Word) (v : ℕ) (next : Seen) : Type 0 where
  pub from : Seen
  pub to : ℕ → ℕ
  pub rises : (a b : ℕ) → a ≤ b → to a ≤ to b
  pub is : next ≡ seen_to (to v) from
  pub any : (n : ℕ) → said_within (seen_to n s) w ≡ Some (seen_to (to n) from)

part_says : (b : Bool) (from s : Seen) (w : Word) (v : ℕ) (next : Seen) → ((n : ℕ)
    → said_within (seen_to n s) w ≡ (if b then Some (seen_to n from) else None))
    → said_within (seen_to v s) w ≡ Some next → AnySays s w v next
part_says true from s w v next k h = record { from = from; to = id; rises = id_rises; is = grind arith; any = k }
part_says false from s w v next k h = let e = sym (k v) ∙ h in absurd (cc)

within_says : (e b : Bool) (s : Seen) (m : Meaning) (v : ℕ) (next : Seen) → confirms (says m) ≡ false → has_no_effect m ≡ e
    → (is_none s.sent || not (begins_anew m)) ≡ b
    → said_within (seen_to v s) (says m) ≡ Some next → AnySays s (says m) v next
within_says true b s m v next c p q h = record {
  from = s;
  to = id;
  rises = id_rises;
  is = grind arith;
  any = at;
}
  where
    at : (n : ℕ) → said_within (seen_to n s) (says m) ≡ Some (seen_to n s)
    at n = rw p refl
within_says false false s m v next c p q h = grind arith
within_says false true s m v next c p q h =
    let k = mapped (goes (seen_to v s)) (said_message (confirmed_to v s.state) m) next (sym (at v) ∙ h) in
    let g = message_gives s.state m v k.0 c k.1 in
    record {
      from = goes s g.from;
      to = g.to;
      rises = g.rises;
      is = k.2 ∙ ap (goes (seen_to v s)) g.is;
      any = λ n. at n ∙ ap (option_map (goes (seen_to n s))) (g.any n);
    }
  where
    at : (n : ℕ) → said_within (seen_to n s) (says m) ≡ option_map (goes (seen_to n s)) (said_message (confirmed_to n s.state) m)
    at n = rw (p, q) refl

any_says : (s : Seen) (w : Word) (v : ℕ) (next : Seen) → confirms w ≡ false → said_within (seen_to v s) w ≡ Some next → AnySays s w v next
any_says s (says m) v next c h = within_says (has_no_effect m) (is_none s.sent || not (begins_anew m)) s m v next c refl refl h
any_says s (part place octets) v next c h =
    part_says (not (limit_of s.state == 0) && (stands_in_place s.sent place && may_send s.state (unwrap_or s.sent 0 + length octets)))
    (record s { sent = if is_last place then None else Some (unwrap_or s.sent 0 + length octets) }) s (part place octets) v next (λ n.
    refl) h

-- ---- a confirmation of minor points

mia_needs : (s : State) (k : ℕ) (o : List ℕ) (a v : ℕ) → a ≤ v → AllHold (needs (confirmed_to v s) (MinorConfirm k o))
    → AllHold (needs (confirmed_to a s) (MinorConfirm k o))
mia_needs s k o a v l h = grind (arith, and_parts, leb-true, le-leb)

mia_says : (s : Seen) (k : ℕ) (o : List ℕ) (a v : ℕ) (next : Seen) → a ≤ v → said_within (seen_to v s) (says (MIA k o)) ≡ Some next
    → said_within (seen_to a s) (says (MIA k o)) ≡ Some next
unfolding minor_confirmed
mia_says s k o a v next l h = by (is_none s.sent || true) h
  where
    by : (b : Bool) → (if b then option_map (goes (seen_to v s)) (calling (confirmed_to v s.state) (MinorConfirm k o)) else None) ≡ Some
        next
        → (if b then option_map (goes (seen_to a s)) (calling (confirmed_to a s.state) (MinorConfirm k o)) else None) ≡ Some next
    by true e =
        let m = mapped (goes (seen_to v s)) (calling (confirmed_to v s.state) (MinorConfirm k o)) next e in
        let c = call_leaves (confirmed_to v s.state) (MinorConfirm k o) m.0 m.1 in
        ap (option_map (goes (seen_to a s))) (may_leave (confirmed_to a s.state) (MinorConfirm k o) c.phase c.short (mia_needs s.state k o
        a v l c.needed))
        ∙ ap Some (sym (m.2 ∙ ap (goes (seen_to v s)) c.next))
    by false e = absurd (cc)

-- ---- of three

three_say : (s : Seen) (w : Word) (o a v c : ℕ) (next : Seen) → a ≤ v → v ≤ c → (not s.closed && is_in_size s.state o) ≡ true
    → AnySays s w v next → SaysThree s w o a v c next
three_say s w o a v c next l m e g = record {
  from = g.from;
  low = g.to a;
  mid = g.to v;
  high = g.to c;
  to_mid = g.rises a v l;
  to_high = g.rises v c m;
  one = can_say (seen_to a s) w o (seen_to (g.to a) g.from) e (g.any a);
  two = g.is;
  three = can_say (seen_to c s) w o (seen_to (g.to c) g.from) e (g.any c);
}

pub says_between : (s : Seen) (w : Word) (o a v c : ℕ) (next : Seen) → a ≤ v → v ≤ c → CanSay (seen_to v s) w o next
    → SaysBetween s w o a v c next
says_between s (says (MIA k d)) o a v c next l m h =
    let p = within (seen_to v s) next (says (MIA k d)) o h in
    inr (can_say (seen_to a s) (says (MIA k d)) o next p.0 (mia_says s k d a v next l p.1))
says_between s (says u) o a v c next l m h =
    let p = within (seen_to v s) next (says u) o h in
    inl (three_say s (says u) o a v c next l m p.0 (any_says s (says u) v next refl p.1))
says_between s (part place octets) o a v c next l m h =
    grind (arith, three_say, any_says, within (seen_to v s) next (part place octets) o h)
