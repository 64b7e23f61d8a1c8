-- What holds of each session of an end stays so, whatever is called and fed: each is what its inputs made of it, and
-- its functional units can be selected together.
use Rattle.std.proofs.Common.{◌≡◌, ℕ, List, [], ◌∷◌, ◌++◌, Option, refl, inl, inr, arith}
use Rattle.osi_stack.proofs.Vocabulary.{AllByRecursion, IfSome, Fed, Units, said_by_units, said_at, Rows, Call, HasSerial, Input, Listener}
use Rattle.osi_stack.proofs.Vocabulary.{called, taken, opened, refused, broken, came, react, after_inputs, HasNumbersInWords, HasProfile}
use Rattle.osi_stack.proofs.Vocabulary.{awaiting, awaits, calls_with, connects, breaks, without_first, Feeds, CameAbout, IsProfiled}
use Rattle.osi_stack.proofs.Vocabulary.{OfSession, OfSessions, AllCameAbout, after_packet, line_by, to_session, Line, End, Holding, Connect}
use Rattle.osi_stack.proofs.each_line.what_stays_true_of_each_line.{LinesStay, session_lines, packet_lines, feeds_lines, connect_lines}
use Rattle.osi_stack.proofs.each_line.what_stays_true_of_each_line.{told_lines, breaks_lines}

-- ---- what stays true of a session

-- of a new one, and in whatever its carrier tells
pub record StaysTrue (P : Listener → Type 0) : Type 0 where
  pub begins : P awaits
  pub opened : (s : Listener) → P s → P (react s opened).next
  pub refused : (s : Listener) (reason : ℕ) → P s → P (react s (refused reason)).next
  pub came : (s : Listener) (octets : List ℕ) → P s → P (react s (came octets)).next
  pub broken : (s : Listener) → P s → P (react s broken).next

line_all : (P : Listener → Type 0) (line : Line) (o : Option Listener) (input : Input) → ((s : Listener) → P s → P (react s input).next) →
    line.session ≡ o → IfSome line.session P →
    IfSome (line_by line o input).session P
line_all P line o input moves is h = grind arith

lines_stay : (P : Listener → Type 0) → StaysTrue P → LinesStay (OfSession P)
lines_stay P law = grind (arith, opened, line_all, refused, came, broken)

-- ---- what stays true of each session

-- in one input
pub session_all : (P : Listener → Type 0) (r : ℕ) (input : Input) (e : End) → ((s : Listener) → P s → P (react s input).next) →
    OfSessions P e.lines →
    OfSessions P (to_session r input e).lines
session_all P r input e moves all = session_lines (OfSession P) r input e (λ line h. line_all P line line.session input moves refl h) all

pub packet_all : (P : Listener → Type 0) → StaysTrue P → (packet : List ℕ) (e : End) → OfSessions P e.lines →
    OfSessions P (after_packet e packet).lines
packet_all P law packet e all = packet_lines (OfSession P) (lines_stay P law) packet e all

pub feeds_all : (P : Listener → Type 0) → StaysTrue P → (old new : Holding) (piece : List ℕ) (fed : Fed) → Feeds old piece fed new →
    OfSessions P old.end.lines → OfSessions P new.end.lines
feeds_all P law old new piece fed h all = feeds_lines (OfSession P) (lines_stay P law) old new piece fed h all

pub connect_all : (P : Listener → Type 0) (c : Connect) (e : End) → P (calls_with c) → OfSessions P e.lines →
    OfSessions P (connects c e).lines
connect_all P c e new all = connect_lines (OfSession P) c e new all

pub told_all : (P : Listener → Type 0) (lines : Rows Line) → OfSessions P lines → OfSessions P (without_first lines)
told_all P lines all = told_lines (OfSession P) (λ line waiting h. h) lines all

pub breaks_all : (P : Listener → Type 0) (e : End) → OfSessions P e.lines → OfSessions P (breaks e).lines
breaks_all P e all = breaks_lines (OfSession P) (λ line. tt) e all

-- ---- each session is what its inputs made of it

numbered_behind : (inputs : List Input) (input : Input) → AllByRecursion HasNumbersInWords inputs → HasNumbersInWords input →
    AllByRecursion HasNumbersInWords (inputs ++ input ∷ [])
numbered_behind [] input all one = (one, tt)
numbered_behind (i ∷ inputs) input all one = (all.0, numbered_behind inputs input all.1 one)

one_more : (s : Listener) (inputs : List Input) (input : Input) →
    after_inputs s (inputs ++ input ∷ []) ≡ (react (after_inputs s inputs) input).next
one_more s [] input = refl
one_more s (i ∷ inputs) input = one_more (react s i).next inputs input

pub came_moves : (input : Input) → HasNumbersInWords input → (s : Listener) → CameAbout s → CameAbout (react s input).next
came_moves input one s h = search (arith, numbered_behind, one_more)

pub came_asking : (c : Connect) → CameAbout (calls_with c)
came_asking c = record { first = calls_with c; fresh = inr (c, refl); inputs = []; numbered = tt; is = refl }

pub came_numbers : ((units : Units) → HasNumbersInWords (taken (said_by_units units))) → (octets : List ℕ) → HasNumbersInWords (came octets)
unfolding said_at
came_numbers law octets = grind arith

pub came_true : ((units : Units) → HasNumbersInWords (taken (said_by_units units))) → StaysTrue CameAbout
came_true law = record {
  begins = record { first = awaits; fresh = inl refl; inputs = []; numbered = tt; is = refl };
  opened = came_moves opened tt;
  refused = λ s reason. came_moves (refused reason) tt s;
  came = λ s octets. came_moves (came octets) (came_numbers law octets) s;
  broken = came_moves broken tt;
}

pub call_came : (r : ℕ) (call : Call) (e : End) → HasSerial call → AllCameAbout e.lines → AllCameAbout (to_session r (called call) e).lines
call_came r call e serial all = session_all CameAbout r (called call) e (came_moves (called call) serial) all

-- ---- the functional units of each session can be selected together

pub profile_true : ((l : Listener) (inputs : List Input) → HasProfile l.state → HasProfile (after_inputs l inputs).state) →
    HasProfile awaiting → StaysTrue IsProfiled
profile_true law begins = record {
  begins = begins;
  opened = λ s h. law s (opened ∷ []) h;
  refused = λ s reason h. law s (refused reason ∷ []) h;
  came = λ s octets h. law s (came octets ∷ []) h;
  broken = λ s h. law s (broken ∷ []) h;
}
