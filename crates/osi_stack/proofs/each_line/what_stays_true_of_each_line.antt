-- What holds of each line of an end stays so, whatever is called and fed.
use Rattle.std.proofs.Common.{◌≡◌, ℕ, ◌+◌, List, ◌∷◌, ◌++◌, length, Some, inl, inr, [], arith}
use Rattle.osi_carrier.specs.Happenings as told
use Rattle.osi_carrier.specs.Packets as carriers
use Rattle.osi_stack.proofs.Vocabulary.{Fed, Happening, Rows, value_at, put, Connection, Input, opened, refused, broken, came, awaits}
use Rattle.osi_stack.proofs.Vocabulary.{Shown, calls_with, connects, breaks, without_first, Feeds, OfLines, hears_times, hears_all}
use Rattle.osi_stack.proofs.Vocabulary.{with_events, with_carrier, attends, after_packet, loses, all_lost, Starves, line_by, to_session}
use Rattle.osi_stack.proofs.Vocabulary.{Line, End, Holding, used_lines, fresh_line, Connect, told_of, input_of}
use Rattle.osi_stack.proofs.carried.packets_without_events.{packet_is}
use Rattle.osi_stack.proofs.carried.what_each_step_preserves.{events_heard, concluded_end, broken_end}
use Rattle.osi_stack.proofs.stream.what_feeding_keeps.{feeds_kept}
use Rattle.osi_stack.proofs.carried.what_a_move_leaves.{used_keep, first_keep}

-- ---- what stays true of a line

-- of a new one, and in whatever its carrier tells
pub record LinesStay (Q : Line → Type 0) : Type 0 where
  pub begins : Q (fresh_line awaits)
  pub opened : (line : Line) → Q line → Q (line_by line line.session opened)
  pub refused : (line : Line) (reason : ℕ) → Q line → Q (line_by line line.session (refused reason))
  pub came : (line : Line) (octets : List ℕ) → Q line → Q (line_by line line.session (came octets))
  pub broken : (line : Line) → Q line → Q (line_by line line.session broken)
  pub lost : (line : Line) → Q (loses line)

-- ---- lines

pub line_at : (Q : Line → Type 0) (r : ℕ) (line : Line) (lines : Rows Line) → OfLines Q lines → value_at r lines ≡ Some line → Q line
line_at Q r line [] all h = cc
line_at Q r line ((q, y) ∷ lines) all h = grind (arith, line_at Q r line lines all.1)

pub put_lines : (Q : Line → Type 0) (r : ℕ) (x : Line) (lines : Rows Line) → Q x → OfLines Q lines → OfLines Q (put r x lines)
put_lines Q r x [] new all = tt
put_lines Q r x ((q, y) ∷ lines) new all = grind (arith, put_lines Q r x lines new all.1)

-- after one more
more_lines : (Q : Line → Type 0) (live : Rows Connection) (lines : Rows Line) (row : ℕ × Line) → Q row.1 → OfLines Q lines →
    OfLines Q (used_lines live (lines ++ row ∷ []))
more_lines Q live [] row here all = used_keep (OfLines Q) live row [] tt (λ used. (here, tt))
more_lines Q live (first ∷ lines) row here all = grind (arith, used_keep, more_lines Q live lines row here all.1)

pub lost_lines : (Q : Line → Type 0) (lines : Rows Line) → ((line : Line) → Q (loses line)) → OfLines Q (all_lost lines)
lost_lines Q [] lost = tt
lost_lines Q ((q, y) ∷ lines) lost = (lost y, lost_lines Q lines lost)

-- ---- what happens to them

-- in one input
pub session_lines : (Q : Line → Type 0) (r : ℕ) (input : Input) (e : End) → ((line : Line) → Q line → Q (line_by line line.session input)) →
    OfLines Q e.lines →
    OfLines Q (to_session r input e).lines
session_lines Q r input e moves all = grind (arith, put_lines, line_at)

heard_lines : (Q : Line → Type 0) → LinesStay Q → (event : Happening) (e : End) → OfLines Q e.lines →
    OfLines Q (to_session (told_of event) (input_of event) e).lines
heard_lines Q law (told.opened q) e all = session_lines Q q opened e law.opened all
heard_lines Q law (told.refused q reason) e all = session_lines Q q (refused reason) e (λ line. law.refused line reason) all
heard_lines Q law (told.tsdu q octets) e all = session_lines Q q (came octets) e (λ line. law.came line octets) all
heard_lines Q law event e all = session_lines Q (told_of event) broken e law.broken all

attends_lines : (Q : Line → Type 0) → LinesStay Q → (e : End) → OfLines Q e.lines → OfLines Q (attends e).lines
attends_lines Q law e all =
    concluded_end (λ x. OfLines Q x.lines) (λ x all. lost_lines Q x.lines law.lost) (hears_all e)
    (events_heard (λ x. OfLines Q x.lines) (λ events x all. all) (search (arith, more_lines, heard_lines)) (length e.carrier.events) e all)

pub packet_lines : (Q : Line → Type 0) → LinesStay Q → (packet : List ℕ) (e : End) → OfLines Q e.lines →
    OfLines Q (after_packet e packet).lines
packet_lines Q law packet e all = search (arith, packet_is, attends_lines)

starved_lines : (Q : Line → Type 0) → LinesStay Q → (e new : End) (packet : List ℕ) → Starves e packet new → OfLines Q e.lines →
    OfLines Q new.lines
starved_lines Q law e new packet (inl h) all = grind (arith, attends_lines Q law (with_carrier h.0 e) all)
starved_lines Q law e new packet (inr h) all =
    grind (arith, lost_lines Q (with_events h.2.more (hears_times h.2.heard (with_carrier h.0 e))).lines law.lost)

pub feeds_lines : (Q : Line → Type 0) → LinesStay Q → (old new : Holding) (piece : List ℕ) (fed : Fed) → Feeds old piece fed new →
    OfLines Q old.end.lines → OfLines Q new.end.lines
feeds_lines Q law old new piece fed h all =
    feeds_kept (λ x. OfLines Q x.lines) (search (arith, packet_lines, lost_lines, starved_lines)) old new piece fed h all

-- ---- calls

pub connect_lines : (Q : Line → Type 0) (c : Connect) (e : End) → Q (fresh_line (calls_with c)) → OfLines Q e.lines →
    OfLines Q (connects c e).lines
connect_lines Q c e new all = more_lines Q _ e.lines (e.carrier.given + 1, fresh_line (calls_with c)) new all

pub told_lines : (Q : Line → Type 0) → ((line : Line) (waiting : List Shown) → Q line → Q (record line { waiting = waiting })) →
    (lines : Rows Line) → OfLines Q lines →
    OfLines Q (without_first lines)
told_lines Q tells [] all = tt
told_lines Q tells ((r, line) ∷ lines) all = grind (arith, first_keep, told_lines Q tells lines all.1)

pub breaks_lines : (Q : Line → Type 0) → ((line : Line) → Q (loses line)) → (e : End) → OfLines Q e.lines → OfLines Q (breaks e).lines
breaks_lines Q lost e all = broken_end (λ x. OfLines Q x.lines) (λ x all. lost_lines Q x.lines lost) e all
