-- A piece of a side adds TSDUs of this side alone, connection by connection: for the functions of `captures` that read it.
use Rattle.std.proofs.Common.{◌≡◌, ◌∙◌, ◌<◌, ◌++◌, ◌∷◌, refl, ap, sym, arith, ℕ, zero, suc, true, false, Bool, List, [], length}
use Rattle.std.proofs.Common.{get_or, set}
use Rattle.std.proofs.lemmas.List.{append_assoc, append-nil}
use Rattle.osi_script.specs.declared.sides.Side.{Side}
use Rattle.osi_script.specs.declared.sides.Side.TheVariants.{Left, Right}
use Rattle.osi_witness.specs.declared.conversations.Conversation.{Conversation}
use Rattle.osi_witness.specs.declared.conversations.Opening.{Opening}
use Rattle.osi_witness.specs.declared.streams.Stream.{Stream}
use Rattle.osi_witness.specs.declared.streams.Tsdu.{Tsdu}
use Rattle.osi_witness.specs.Conversations.{stream_of, Begins}
use Rattle.osi_witness.specs.Growing.{AllBegin, AllSayMore, SaysMore}
use Rattle.osi_witness.specs.Places.{other_side}
use Rattle.osi_witness.specs.Streams.{tsdus_in, tsdus_of, unfinished, Adds, IsEmpty, Keeps}
use Rattle.osi_witness.proofs.a_run_explains_what_a_side_sent.{tsdus_same}

rest_same : (a b : Stream) → Keeps a b → unfinished b ≡ unfinished a
rest_same a b k = let o = k.octets in let s = k.start in grind arith

pub says_more : (side : Side) (end : Bool) (octets : List ℕ) (old new : Conversation)
    → Adds end octets (stream_of old side) (stream_of new side) → Keeps (stream_of old (other_side side)) (stream_of new (other_side side))
    → SaysMore side old new
says_more side true octets old new a k = record {
  more = (unfinished (stream_of old side) ++ octets) ∷ [];
  own = a.0;
  other = tsdus_same (stream_of old (other_side side)) (stream_of new (other_side side)) k;
  rest = rest_same (stream_of old (other_side side)) (stream_of new (other_side side)) k;
}
says_more side false octets old new a k = record {
  more = [];
  own = a.0 ∙ sym (append-nil (tsdus_of (stream_of old side)));
  other = tsdus_same (stream_of old (other_side side)) (stream_of new (other_side side)) k;
  rest = rest_same (stream_of old (other_side side)) (stream_of new (other_side side)) k;
}

pub says_same : (side : Side) (c : Conversation) → SaysMore side c c
says_same side c = record { more = []; own = sym (append-nil (tsdus_of (stream_of c side))); other = refl; rest = refl }

-- a connection is answered
pub says_as : (side : Side) (old new : Conversation) → new.left ≡ old.left → new.right ≡ old.right → SaysMore side old new
says_as Left old new l r = record {
  more = [];
  own = ap (λ (s : Stream). tsdus_of s) l ∙ sym (append-nil (tsdus_of old.left));
  other = ap (λ (s : Stream). tsdus_of s) r;
  rest = ap (λ (s : Stream). unfinished s) r;
}
says_as Right old new l r = record {
  more = [];
  own = ap (λ (s : Stream). tsdus_of s) r ∙ sym (append-nil (tsdus_of old.right));
  other = ap (λ (s : Stream). tsdus_of s) l;
  rest = ap (λ (s : Stream). unfinished s) l;
}

says_on : (side : Side) (a b c : Conversation) → SaysMore side a b → SaysMore side b c → SaysMore side a c
says_on side a b c h k = record {
  more = h.more ++ k.more;
  own = k.own ∙ ap (λ (us : List (List ℕ)). us ++ k.more) h.own ∙ append_assoc (tsdus_of (stream_of a side)) h.more k.more;
  other = k.other ∙ h.other;
  rest = k.rest ∙ h.rest;
}

pub all_same : (side : Side) (cs : List Conversation) → AllSayMore side cs cs
all_same side [] = tt
all_same side (c ∷ cs) = (says_same side c, all_same side cs)

begin_on : (side : Side) (bs cs : List Conversation) → AllBegin side bs → AllSayMore side bs cs → AllBegin side cs
begin_on side [] cs h k = k
begin_on side (b ∷ bs) [] h k = absurd k
begin_on side (b ∷ bs) (c ∷ cs) h k = (k.0.other ∙ h.0, begin_on side bs cs h.1 k.1)

pub all_on : (side : Side) (zs bs cs : List Conversation) → AllSayMore side zs bs → AllSayMore side bs cs → AllSayMore side zs cs
all_on side [] bs cs h k = begin_on side bs cs h k
all_on side (a ∷ zs) [] cs h k = absurd h
all_on side (a ∷ zs) (b ∷ bs) [] h k = absurd k
all_on side (a ∷ zs) (b ∷ bs) (c ∷ cs) h k = (says_on side a b c h.0 k.0, all_on side zs bs cs h.1 k.1)

pub one_says : (side : Side) (cs : List Conversation) (i : ℕ) (c d : Conversation) → i < length cs → SaysMore side (get_or cs i c) d
    → AllSayMore side cs (set cs i d)
one_says side [] i c d l h = absurd (omega arith)
one_says side (x ∷ cs) zero c d l h = (h, all_same side cs)
one_says side (x ∷ cs) (suc i) c d l h = (says_same side x, one_says side cs i c d (omega arith) h)

none_sent : (s : Stream) → IsEmpty s → tsdus_of s ≡ []
none_sent s e = ap (λ (ts : List Tsdu). tsdus_in s.octets.items ts) e.tsdus

nothing_sent : (side : Side) (r : Opening) (c : Conversation) → Begins r c → tsdus_of (stream_of c (other_side side)) ≡ []
nothing_sent Left r c b = none_sent c.right b.right
nothing_sent Right r c b = none_sent c.left b.left

pub one_begins : (side : Side) (cs : List Conversation) (r : Opening) (c : Conversation) → Begins r c → AllSayMore side cs (cs ++ c ∷ [])
one_begins side [] r c b = (nothing_sent side r c b, tt)
one_begins side (x ∷ cs) r c b = (says_same side x, one_begins side cs r c b)
