-- A walk keeps the sessions that send a word on the way, or answer by it: for the functions of `walks`.
use Rattle.osi_side.proofs.Vocabulary.{◌≡◌, ◌∙◌, sym, ap, ℕ, suc, ◌+◌, ◌-◌, ◌<◌, ◌≤◌, Bool, true, false, List, [], get_or, Option, Some}
use Rattle.osi_side.proofs.Vocabulary.{None, if◌then◌else◌, arith, fold-append, fold, Meaning, Word, Reply, is_restart_word, Seen, Count}
use Rattle.osi_side.proofs.Vocabulary.{Takes, listens, after_count, said, is_steady, reply_of, Member, Walker, added, member, sends}
use Rattle.osi_side.proofs.Vocabulary.{first_sender, listed, is_covered, anew, latest, follows, if_answer, answer_by, answering, senders}
use Rattle.osi_side.proofs.Vocabulary.{senders_from, way_to, askers, restarters, count_at, next_of, reached, Quietly, OwesTo}
use Rattle.osi_side.specs.Kept.{places_of}
use Rattle.osi_side.proofs.told.the_nearest_of_all_sessions_is_told.{count_is, next_goes, next_stops}

-- ---- it sends the word here, or not

abbrev pub SendsAs : Word → ℕ → List Member → List Member → Walker → Walker → Type 0
SendsAs w octets old new from to =
    (new ≡ fold added old (anew from.said_before (sends w octets from.at)))
    × (to ≡ record { at = from.at; said_before = latest from.said_before (sends w octets from.at) })

pub said_not : (w : Word) (octets : ℕ) (old : List Member) (from : Walker) → said from.at.standing w octets ≡ None
    → SendsAs w octets old old from from
said_not w octets old from h = grind arith

pub said_covered : (w : Word) (octets : ℕ) (old : List Member) (from : Walker) (s : Seen) → said from.at.standing w octets ≡ Some s
    → true ≡ is_covered from.said_before s → from.said_before ≡ Some s → SendsAs w octets old old from from
said_covered w octets old from s h c e = grind arith

pub said_anew : (w : Word) (octets : ℕ) (old new : List Member) (from : Walker) (s : Seen) → said from.at.standing w octets ≡ Some s
    → false ≡ is_covered from.said_before s → new ≡ added old (member from.at.taken s)
    → SendsAs w octets old new from (record { at = from.at; said_before = Some s })
said_anew w octets old new from s h c e = grind arith

-- ---- one step

ends_here : (us : List (List ℕ)) (w : Word) (octets n : ℕ) (earlier : Option Seen) (next : Option Member) (mid on : List Member)
    → next ≡ None
    → fold added (fold added mid on) (senders us w octets n earlier next) ≡ fold added mid on
ends_here us w octets n earlier next mid on e = grind arith

answering_deaf : (us : List (List ℕ)) (w : Word) (m : Member) → listens m.standing ≡ false → answering us w m ≡ []
answering_deaf us w m l = ap (λ (b : Bool). if b then answer_by w m (count_at m.standing (get_or us m.taken [])) else []) l

answering_as : (us : List (List ℕ)) (w : Word) (m : Member) (c : Count) (o : Option Meaning) → listens m.standing ≡ true
    → Takes m.standing (get_or us m.taken []) c → c.reply ≡ o
    → answering us w m ≡ if_answer w o (member (m.taken + 1) (after_count m.standing c))
answering_as us w m c o l t r = grind (arith, count_is m.standing (get_or us m.taken []) c t)

pub turn_deaf : (us : List (List ℕ)) (w : Word) (octets n : ℕ) (from to : Walker) (old mid : List Member) → SendsAs w octets old mid from to
    → listens from.at.standing ≡ false
    → fold added mid (senders_from us w octets n None) ≡ fold added old (senders_from us w octets (suc n) (Some from))
turn_deaf us w octets n from to old mid h l = grind (arith, ends_here, next_stops, answering_deaf)

pub turn_answers : (us : List (List ℕ)) (w : Word) (octets n : ℕ) (from to : Walker) (old mid new : List Member) (next : Seen) (c : Count)
    (reply : Reply) → SendsAs w octets old mid from to → listens from.at.standing ≡ true
    → Takes from.at.standing (get_or us from.at.taken []) c → next ≡ after_count from.at.standing c → c.reply ≡ Some (reply_of reply)
    → new ≡ fold added mid (if_answer w (Some (reply_of reply)) (member (from.at.taken + 1) next))
    → fold added new (senders_from us w octets n None) ≡ fold added old (senders_from us w octets (suc n) (Some from))
turn_answers us w octets n from to old mid new next c reply h l t e r g =
    let owes : OwesTo from.at.standing (get_or us from.at.taken []) reply = record { count = c; listening = l; taken = t; sent = r } in
    sym ((grind (arith, fold-append))
    ∙ ends_here us w octets n (follows to.said_before (get_or us from.at.taken [])) (next_of us from.at) mid (answering us w from.at)
    (next_stops us from.at (Some reply) owes)
    ∙ ap (fold added mid) (answering_as us w from.at c (Some (reply_of reply)) l t r
    ∙ ap (λ (s : Seen). if_answer w (Some (reply_of reply)) (member (from.at.taken + 1) s)) (sym e))
    ∙ sym g)

pub turn_on : (us : List (List ℕ)) (w : Word) (octets n : ℕ) (from to : Walker) (old mid : List Member) (next : Seen) (c : Count)
    (u : List ℕ)
    (earlier : Option Seen) → SendsAs w octets old mid from to → listens from.at.standing ≡ true → u ≡ get_or us from.at.taken []
    → Takes from.at.standing (get_or us from.at.taken []) c → next ≡ after_count from.at.standing c → c.reply ≡ None
    → earlier ≡ follows to.said_before u
    → fold added mid (senders_from us w octets n (Some (record { at = member (from.at.taken + 1) next; said_before = earlier })))
    ≡ fold added old (senders_from us w octets (suc n) (Some from))
turn_on us w octets n from to old mid next c u earlier h l k t e r f =
    let on = member (from.at.taken + 1) next in
    let goes : Quietly us from.at on = grind arith in
    grind (arith, fold-append, answering_as us w from.at c None l t r, next_goes us from.at on goes)

-- ---- a walk

abbrev pub Steps : List (List ℕ) → Word → ℕ → List Member → List Member → Walker → Option Walker → Type 0
Steps us w octets old new from to =
    (n : ℕ) → fold added new (senders_from us w octets n to) ≡ fold added old (senders_from us w octets (suc n) (Some from))

abbrev pub rest_of : List (List ℕ) → Word → ℕ → ℕ → List Member → Walker → List Member
rest_of us w octets before members at = fold added members (senders us w octets (before - at.at.taken) at.said_before (Some at.at))

pub walk_on : (us : List (List ℕ)) (w : Word) (octets before : ℕ) (old new all : List Member) (from to : Walker) → from.at.taken < before
    → to.at.taken ≡ from.at.taken + 1 → Steps us w octets old new from (Some to) → rest_of us w octets before old from ≡ all
    → rest_of us w octets before new to ≡ all
walk_on us w octets before old new all from to l p s h =
    let n : before - from.at.taken ≡ suc (before - to.at.taken) = omega (arith, l, p) in
    s (before - to.at.taken) ∙ sym (ap (λ (k : ℕ). fold added old (senders us w octets k from.said_before (Some from.at))) n) ∙ h

pub walk_stops : (us : List (List ℕ)) (w : Word) (octets before : ℕ) (old new all : List Member) (from : Walker) → from.at.taken < before
    → Steps us w octets old new from None → rest_of us w octets before old from ≡ all → new ≡ all
walk_stops us w octets before old new all from l s h = grind arith

pub walk_ends : (us : List (List ℕ)) (w : Word) (octets before : ℕ) (old new all : List Member) (from to : Walker) → before ≤ from.at.taken
    → SendsAs w octets old new from to → rest_of us w octets before old from ≡ all → new ≡ all
walk_ends us w octets before old new all from to l s h = grind arith

-- ---- which walk it is

pub restarts_with : (us : List (List ℕ)) (w : Word) (octets before : ℕ) (m : Member) → m.standing.state.numbers.lowest ≤ 999999
    → askers us (way_to w octets m.standing) (before - m.taken) None (Some m) ≡ restarters us w octets before m
restarts_with us w octets before m l = grind arith

abbrev place_by : Bool → Bool → List (List ℕ) → Word → ℕ → ℕ → Member → List Member
place_by restart steady us w octets before m =
    if restart then restarters us w octets before m
    else if steady then listed (first_sender w octets (reached us before m))
    else senders us w octets (before - m.taken) None (Some m)

pub place_restart : (us : List (List ℕ)) (w : Word) (octets before : ℕ) (m : Member) → is_restart_word w ≡ true
    → restarters us w octets before m ≡ places_of us w octets before m
unfolding places_of
place_restart us w octets before m r = sym (ap (λ (b : Bool). place_by b (is_steady w) us w octets before m) r)

pub place_other : (us : List (List ℕ)) (w : Word) (octets before : ℕ) (m : Member) → is_restart_word w ≡ false → is_steady w ≡ false
    → senders us w octets (before - m.taken) None (Some m) ≡ places_of us w octets before m
unfolding places_of
place_other us w octets before m r s = grind arith

pub place_steady : (us : List (List ℕ)) (w : Word) (octets before : ℕ) (m : Member) (r : Option Member) → is_restart_word w ≡ false
    → is_steady w ≡ true → r ≡ first_sender w octets (reached us before m) → listed r ≡ places_of us w octets before m
unfolding places_of
place_steady us w octets before m p r s e = grind arith
