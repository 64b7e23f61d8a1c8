-- The state of a connection after each unit that one of its two carriers takes, and after each call.
-- For connections of class 2, joined carriers, class 0, the invariant and the laws.
use Rattle.osi_between.proofs.Vocabulary.{is_none, ◌≡◌, ℕ, ◌<◌, Bool, true, false, List, [], ◌∷◌, ◌++◌, map, take, Some, None, refl, sym}
use Rattle.osi_between.proofs.Vocabulary.{ap, ◌∙◌, arith, uncut_units, list_any, Changes, Brings, progress_in, there, append-nil}
use Rattle.osi_between.proofs.Vocabulary.{map-append, IsOctets, Value, disconnected, LinkPair, swapped, AreOfClass, IsShortTsdu, all_given}
use Rattle.osi_between.proofs.Vocabulary.{Standing, Given, unit_of, with_tsdu, sent, closed_with, tsdu, closed, react, handed_out, linked}
use Rattle.osi_between.proofs.Vocabulary.{State, AreFor, is_last, Meeting, talking, left_here, left_there, left_both, waiting_here}
use Rattle.osi_between.proofs.Vocabulary.{waiting_there, parted, mirror, here, addressed, leaving, farewell, out, back, Stands, answers_of}
use Rattle.osi_between.proofs.Vocabulary.{Moves, AreOpen, after_take, after_send, Message, message, bye, over, drained_leaves, inl, inr}
use Rattle.osi_between.proofs.Vocabulary.{Option, Connection, HasGivenInRange, is_of_two, flat_map, told_at, AreLike, messages_back}
use Rattle.osi_between.proofs.Vocabulary.{messages_out, messages_after, closing, IsAt, AreLast, append_assoc, subst}
use Rattle.osi_between.proofs.unit.what_a_taken_unit_means.{brings_given, brings_ignored, brings_none}
use Rattle.osi_between.proofs.meeting.what_is_in_flight_for_a_connection.{leaving_takes, open_takes, open_sends, open_closes}
use Rattle.osi_between.proofs.meeting.what_is_in_flight_for_a_connection.{open_here, closed_here, told_nothing, parting_is, IsBehind}
use Rattle.osi_between.proofs.meeting.what_a_unit_or_call_changes.{given_changes, given_ignored, leaving_changes, crossed_changes}
use Rattle.osi_between.proofs.meeting.what_a_unit_or_call_changes.{over_changes, send_changes, close_changes}
use Rattle.osi_between.proofs.unit.the_units_of_one_connection.{all_sendable, all_join, all_rest}
use Rattle.osi_between.proofs.link.a_call_is_turns_of_two_links.{left_takes, sends_passes}
use Rattle.osi_between.proofs.unit.units_are_read_as_messages.{lacks_begun, lacks_one}
use Rattle.osi_between.proofs.between.an_acting_end_keeps_the_invariant.{Each}

-- ---- from the other side

pub open_mirror : (two : Bool) (p : LinkPair) → AreOpen two p → AreOpen two (swapped p)
open_mirror two p a = grind arith

pub mirror_stands : (m : Meeting) → Stands m → Stands (mirror m)
mirror_stands m h = grind (arith, open_mirror)

pub mirror_twice : (m : Meeting) → mirror (mirror m) ≡ m
mirror_twice m = grind arith

-- ---- units of class 2

abbrev IsTwo : Given → Type 0
IsTwo g = is_of_two g ≡ true

pub addressed_join : (n : ℕ) (us vs : List Given) → addressed n (us ++ vs) ≡ addressed n us ++ addressed n vs
addressed_join n us vs = map-append (unit_of n) us vs

pub addressed_for : (n : ℕ) (gs : List Given) → AreOfClass true gs → AreFor n (addressed n gs)
addressed_for n [] h = tt
addressed_for n (g ∷ gs) h = (grind arith, addressed_for n gs h.1)

given_goes : (n : ℕ) (g : Given) → false ≡ list_any is_last (unit_of n g ∷ [])
given_goes n g = grind arith

-- ---- open here

stands_open : (p : LinkPair) (why : Option ℕ) (hs : List Given) → Stands (open_here p why hs) → AreOpen true p
stands_open p why hs h = grind arith

pub is_behind : (p : LinkPair) (why : Option ℕ) (hs : List Given) → Stands (open_here p why hs) → IsBehind p why hs
is_behind p None hs h = tt
is_behind p (Some reason) hs h = h.2

last_join : (hs given all : List Given) → AreLast hs all → AreLast (hs ++ given) (all ++ given)
last_join hs given all h = record {
  ignored = h.ignored;
  is = ap (λ (l : List Given). l ++ given) h.is ∙ append_assoc h.ignored hs given;
}

-- the first of them is ignored too
last_ignored : (g : Given) (gs all : List Given) → AreLast (g ∷ gs) all → AreLast gs all
last_ignored g gs all h = record { ignored = h.ignored ++ g ∷ []; is = h.is ∙ sym (append_assoc h.ignored (g ∷ []) gs) }

pub all_last : (gs : List Given) → AreLast gs gs
all_last gs = record { ignored = []; is = refl }

pub none_last : (gs : List Given) → AreLast [] gs
none_last gs = record { ignored = gs; is = sym (append-nil gs) }

stands_behind : (p q : LinkPair) (why : Option ℕ) (hs given : List Given) → Stands (open_here p why hs) → AreOpen true q →
    AreOfClass true given → q.rightward ≡ p.rightward ++ given → Stands (open_here q why (hs ++ given))
stands_behind p q None hs given h a two more = a
stands_behind p q (Some reason) hs given h a two more =
    (a, all_join IsTwo hs given h.1 two, subst (AreLast (hs ++ given)) (sym more) (last_join hs given p.rightward h.2))

take_open : (n : ℕ) (s : State) (p : LinkPair) (why : Option ℕ) → Each → (hs : List Given) (g : Given) (gs : List Given) →
    IsAt n s (open_here p why hs) → p.leftward ≡ g ∷ gs →
    Moves n (open_here p why hs) s (react (unit_of n g) s) (unit_of n g ∷ []) []
take_open n s p None (inl none) hs g gs a e = absurd none
take_open n s p why each hs g gs a e =
    let links_open = stands_open p why hs a.stands in
    let t = left_takes true p g gs n a.few links_open e in
    let given = all_given (handed_out t.link) in
    let open_then = t.passes.stay_open in
    let of_two = all_rest IsTwo p.rightward given open_then.agree.agree.class in
    record {
      new = open_here (after_take p t.link gs) why (hs ++ given);
      units = addressed n given;
      events = map (tsdu n) (take 1 t.link.ends.joining.whole);
      changes = given_changes n s a.lasts a.class a.orderly p.left t.link g (grind arith) a.is t.taken;
      all_for = addressed_for n given of_two;
      sendable = all_sendable n given a.few (all_rest HasGivenInRange p.rightward given open_then.range);
      there = refl;
      out = simp addressed_join;
      back = rw e refl;
      goes = given_goes n g;
      stands = stands_behind p (after_take p t.link gs) why hs given a.stands open_then of_two refl;
      carries = open_takes n p why hs g gs a.some links_open e t;
      brings = brings_given n g p.left t.link links_open.left.handed t.taken;
      keeps = λ e. refl;
    }

-- a TSDU is handed in
pub send_open : (n : ℕ) (s : State) (p : LinkPair) (why : Option ℕ) → Each → (hs : List Given) (octets : List ℕ) →
    IsAt n s (open_here p why hs) → IsShortTsdu octets → IsOctets octets →
    (mv : Moves n (open_here p why hs) s (sent n octets s) [] (message octets ∷ []))
    × (mv.new ≡ open_here (after_send p octets) why (hs ++ all_given (with_tsdu p.left octets)))
send_open n s p None (inl none) hs octets a short are = absurd none
send_open n s p why each hs octets a short are =
    let links_open = stands_open p why hs a.stands in
    let passes = sends_passes true p octets links_open short are in
    let given = all_given (with_tsdu p.left octets) in
    let open_then = passes.stay_open in
    let of_two = all_rest IsTwo p.rightward given open_then.agree.agree.class in (
      record {
        new = open_here (after_send p octets) why (hs ++ given);
        units = addressed n given;
        events = [];
        changes = send_changes n s p.left octets a.lasts a.is;
        all_for = addressed_for n given of_two;
        sendable = all_sendable n given a.few (all_rest HasGivenInRange p.rightward given open_then.range);
        there = refl;
        out = simp addressed_join;
        back = refl;
        goes = refl;
        stands = stands_behind p (after_send p octets) why hs given a.stands open_then of_two refl;
        carries = open_sends n p why hs octets links_open (is_behind p why hs a.stands) passes;
        brings = grind (arith, brings_none, drained_leaves);
        keeps = λ e. refl;
      },
      refl,
    )

closed_stands : (p : LinkPair) (why : Option ℕ) (hs : List Given) (reason : ℕ) → Stands (open_here p why hs) →
    Stands (closed_here p why hs reason)
closed_stands p None hs reason h = (h, h.agree.agree_back.class, all_last p.leftward)
closed_stands p (Some other) hs reason h = (h.1, h.0.agree.agree_back.class)

-- it is closed
pub close_open : (n : ℕ) (s : State) (p : LinkPair) (why : Option ℕ) → Each → (hs : List Given) (reason : ℕ) →
    IsAt n s (open_here p why hs) → reason < 256 →
    (mv : Moves n (open_here p why hs) s (closed_with n reason s) [] (bye reason ∷ [])) × (mv.new ≡ closed_here p why hs reason)
close_open n s p None (inl none) hs reason a small = absurd none
close_open n s p why each hs reason a small =
    let links_open = stands_open p why hs a.stands in (
      record {
        new = closed_here p why hs reason;
        units = leaving n reason ∷ [];
        events = [];
        changes = close_changes n s a.lasts a.class a.orderly p.left reason a.is;
        all_for = (refl, tt);
        sendable = (grind arith, tt);
        there = refl;
        out = refl;
        back = refl;
        goes = refl;
        stands = closed_stands p why hs reason a.stands;
        carries = open_closes n p why hs reason a.some;
        brings = grind (arith, lacks_begun);
        keeps = λ e. cc;
      },
      refl,
    )

-- ---- a unit is taken here

take_leaving : (n : ℕ) (s : State) (p : LinkPair) (hs : List Given) (reason : ℕ) → IsAt n s (left_there p hs reason) → p.leftward ≡ [] →
    Moves n (left_there p hs reason) s (react (leaving n reason) s) (leaving n reason ∷ []) (over ∷ [])
take_leaving n s p hs reason a e = record {
  new = waiting_there hs None;
  units = disconnected n n ∷ [];
  events = closed n reason ∷ [];
  changes = leaving_changes n s a.lasts a.class a.orderly p.left reason a.is;
  all_for = (refl, tt);
  sendable = (grind arith, tt);
  there = refl;
  out = refl;
  back = ap (λ (us : List Given). addressed n us ++ leaving n reason ∷ []) e;
  goes = refl;
  stands = a.stands.1;
  carries = leaving_takes n p hs reason a.some e;
  brings = grind arith;
  keeps = λ e. cc;
}

-- the unit that was taken is the oldest
at_head : (n : ℕ) (m : Meeting) (s : State) (u unit : Value) (more rest : List Value) (put : List Message) → back n m ≡ u ∷ more →
    back n m ≡ unit ∷ rest → put ≡ answers_of (here n m) u → Moves n m s (react u s) (u ∷ []) put →
    Moves n m s (react unit s) (unit ∷ []) (answers_of (here n m) unit)
at_head n m s u unit more rest put a b is h = grind arith

-- the first of them
pub first_addressed : (n : ℕ) (gs : List Given) (u : Value) (more : List Value) → addressed n gs ≡ u ∷ more →
    (h : Given) × (hs : List Given) × (gs ≡ h ∷ hs) × (unit_of n h ≡ u)
first_addressed n [] u more e = cc
first_addressed n (h ∷ hs) u more e = (h, hs, refl, (cc))

pub given_answers : (n : ℕ) (o : Option Connection) (g : Given) → [] ≡ answers_of o (unit_of n g)
given_answers n o g = grind arith

take_open_by : (n : ℕ) (s : State) (p : LinkPair) (why : Option ℕ) (hs gs : List Given) (unit : Value) (rest : List Value) →
    IsAt n s (open_here p why hs) → p.leftward ≡ gs → back n (open_here p why hs) ≡ unit ∷ rest →
    Moves n (open_here p why hs) s (react unit s) (unit ∷ []) (answers_of (here n (open_here p why hs)) unit)
take_open_by n s p None hs [] unit rest a e b = let none = sym (ap (addressed n) e) ∙ b in cc
take_open_by n s p (Some reason) hs [] unit rest a e b = grind (arith, at_head, take_leaving)
take_open_by n s p why hs (g ∷ gs) unit rest a e b =
    let mv = take_open n s p why (inr tt) hs g gs a e in
    at_head n (open_here p why hs) s (unit_of n g) unit (back n mv.new) rest [] mv.back b
    (given_answers n (here n (open_here p why hs)) g) mv

-- A unit that is not answered and not reported: these messages arrive with it, and what is in flight from here stays.
takes_quietly : (n : ℕ) (s : State) (old new : Meeting) (u unit : Value) (rest : List Value) (arrived : List Message) →
    back n old ≡ u ∷ back n new → back n old ≡ unit ∷ rest → [] ≡ answers_of (here n old) u → Changes n s (react u s) (here n new) [] [] →
    there n new ≡ there n old → out n new ≡ out n old → is_none (here n new) ≡ list_any is_last (u ∷ []) → Stands new →
    [] ≡ flat_map (told_at n (here n old)) arrived → AreLike (here n new) (messages_back n old) (arrived ++ messages_back n new) →
    messages_out n new ≡ messages_out n old →
    Brings true (progress_in (here n old)) (progress_in (here n new)) (here n old) (here n new) (u ∷ []) arrived [] →
    Moves n old s (react unit s) (unit ∷ []) (answers_of (here n old) unit)
takes_quietly n s old new u unit rest arrived comes b answers changes same goes_out goes stands told leftward still brings =
    let stays = messages_out n old in
    at_head n old s u unit (back n new) rest [] comes b answers (record {
      new = new;
      units = [];
      events = [];
      changes = changes;
      all_for = tt;
      sendable = tt;
      there = same;
      out = goes_out ∙ sym (append-nil (out n old));
      back = comes;
      goes = goes;
      stands = stands;
      carries = record {
        arrived = arrived;
        stays = stays;
        lost = [];
        told = told;
        leftward = leftward;
        before = sym (append-nil stays);
        after = still ∙ sym (append-nil stays);
      };
      brings = brings;
      keeps = λ e. refl;
    })

pub take_here : (n : ℕ) (s : State) (m : Meeting) (unit : Value) (rest : List Value) → IsAt n s m → back n m ≡ unit ∷ rest →
    Moves n m s (react unit s) (unit ∷ []) (answers_of (here n m) unit)
take_here n s (talking p) unit rest a b = take_open_by n s p None [] p.leftward unit rest a refl b
take_here n s (left_there p hs reason) unit rest a b = take_open_by n s p (Some reason) hs p.leftward unit rest a refl b
take_here n s (left_here p (g ∷ gs) reason) unit rest a b =
    takes_quietly n s (left_here p (g ∷ gs) reason) (left_here p gs reason) (unit_of n g) unit rest (messages_after [] (unit_of n g ∷ []))
    refl b (given_answers n (Some (closing n)) g) (given_ignored n s a.lasts a.class a.orderly g a.stands.1.0 a.is) refl refl
    (given_goes n g) (a.stands.0, a.stands.1.1, last_ignored g gs p.leftward a.stands.2)
    (told_nothing (messages_after [] (unit_of n g ∷ [])) (λ m. []) (λ m. refl))
    (lacks_one n g (addressed n gs ++ uncut_units p.right.ends.unsent)) refl (brings_ignored n g)
take_here n s (left_both hs reason [] other) unit rest a b =
    takes_quietly n s (left_both hs reason [] other) (waiting_there hs (Some reason)) (leaving n other) unit rest (bye other ∷ [])
    refl b refl (crossed_changes n s a.lasts a.class a.orderly other a.is) refl refl refl a.stands.0 refl
    (ap (λ (m : Message). m ∷ []) (parting_is n other a.some)) refl (grind arith)
take_here n s (left_both hs reason (g ∷ gs) other) unit rest a b =
    takes_quietly n s (left_both hs reason (g ∷ gs) other) (left_both hs reason gs other) (unit_of n g) unit rest
    (messages_after [] (unit_of n g ∷ [])) refl b (given_answers n (Some (closing n)) g)
    (given_ignored n s a.lasts a.class a.orderly g a.stands.1.0 a.is) refl refl (given_goes n g) (a.stands.0, a.stands.1.1)
    (told_nothing (messages_after [] (unit_of n g ∷ [])) (λ m. []) (λ m. refl))
    (lacks_one n g ((addressed n gs ++ leaving n other ∷ []) ++ [])) refl (brings_ignored n g)
take_here n s (waiting_here [] None) unit rest a b =
    takes_quietly n s (waiting_here [] None) parted (disconnected n n) unit rest (over ∷ []) refl b refl
    (over_changes n s a.lasts a.class a.orderly a.is) refl refl refl tt refl refl refl (grind arith)
take_here n s (waiting_here [] (Some reason)) unit rest a b =
    takes_quietly n s (waiting_here [] (Some reason)) parted (leaving n reason) unit rest (bye reason ∷ []) refl b refl
    (crossed_changes n s a.lasts a.class a.orderly reason a.is) refl refl refl tt refl
    (ap (λ (m : Message). m ∷ []) (parting_is n reason a.some)) refl (grind arith)
take_here n s (waiting_here (g ∷ gs) last) unit rest a b =
    takes_quietly n s (waiting_here (g ∷ gs) last) (waiting_here gs last) (unit_of n g) unit rest (messages_after [] (unit_of n g ∷ []))
    refl b (given_answers n (Some (closing n)) g) (given_ignored n s a.lasts a.class a.orderly g a.stands.0 a.is) refl refl
    (given_goes n g) a.stands.1 (told_nothing (messages_after [] (unit_of n g ∷ [])) (λ m. []) (λ m. refl))
    (lacks_one n g ((addressed n gs ++ farewell n last ∷ []) ++ [])) refl (brings_ignored n g)
take_here n s m unit rest a b = cc

-- ---- calls here

pub send_here : (n : ℕ) (s : State) (m : Meeting) (link : Standing) (octets : List ℕ) → IsAt n s m → here n m ≡ Some (linked n link) →
    IsShortTsdu octets → IsOctets octets → Moves n m s (sent n octets s) [] (message octets ∷ [])
send_here n s (talking p) link octets a is short are = (send_open n s p None (inr tt) [] octets a short are).0
send_here n s (left_there p hs reason) link octets a is short are = (send_open n s p (Some reason) (inr tt) hs octets a short are).0
send_here n s m link octets a is short are = cc

pub close_here : (n : ℕ) (s : State) (m : Meeting) (link : Standing) (reason : ℕ) → IsAt n s m → here n m ≡ Some (linked n link) →
    reason < 256 → Moves n m s (closed_with n reason s) [] (bye reason ∷ [])
close_here n s (talking p) link reason a is small = (close_open n s p None (inr tt) [] reason a small).0
close_here n s (left_there p hs other) link reason a is small = (close_open n s p (Some other) (inr tt) hs reason a small).0
close_here n s m link reason a is small = cc
