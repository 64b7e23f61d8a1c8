-- What happens at another connection leaves the course of this one; and at the end of the carrier the course is over.
-- For the course of a connection.
use Rattle.osi_blameless.proofs.ends.Vocabulary.{[], ap, Bool, false, if◌then◌else◌, is_some, IsSome, None, Option, refl, Some, subst, sym}
use Rattle.osi_blameless.proofs.ends.Vocabulary.{ℕ, ◌==◌}
use Rattle.osi_blameless.proofs.ends.Vocabulary.{◌∙◌, ◌∷◌, ◌≡◌, ◌≢◌, append-nil, push_other, put_other, Rows, value_at, Connection}
use Rattle.osi_blameless.proofs.ends.Vocabulary.{State as Carrier, Input, Listener, used_keep, used_live, has_given, kept_at, by_line}
use Rattle.osi_blameless.proofs.ends.Vocabulary.{carrier_by}
use Rattle.osi_blameless.proofs.ends.Vocabulary.{to_session, End, joins, Line, used_lines, Course, Deeds, Gone, IsOpen, IsShut, awaited}
use Rattle.osi_blameless.proofs.ends.Vocabulary.{is_gone}
use Rattle.osi_blameless.proofs.ends.Vocabulary.{is_open, unknown, closed, never, arith, over}
use Rattle.osi_blameless.proofs.ends.links.what_a_link_takes_and_is_handed.{Leaves, answers_leave, leaves_all, link_shut}

-- ---- an end that leaves the connection as it is

pub record Beside (r : ℕ) (old new : End) : Type 0 where
  pub live : value_at r new.carrier.live ≡ value_at r old.carrier.live
  pub given : has_given r new.carrier ≡ has_given r old.carrier
  pub side : new.carrier.is_caller ≡ old.carrier.is_caller
  pub ended : new.carrier.ended ≡ old.carrier.ended
  pub unlined : value_at r old.lines ≡ None → value_at r new.lines ≡ None
  pub kept : IsSome (value_at r old.carrier.live) → kept_at r new.lines ≡ kept_at r old.lines

pub some_there : {X : Type 0} (o : Option X) (x : X) → o ≡ Some x → IsSome o
some_there o x e = ap is_some e

module _ (is_caller : Bool) (r : ℕ) (moves : Deeds) (old new : End) where
  pub gone_beside : Beside r old new → Gone is_caller r moves old → Gone is_caller r moves new
  gone_beside b (closed peer calls is session speaks given shut) =
      closed peer calls is session speaks (b.given ∙ given) (subst IsShut (sym b.live) shut)
  gone_beside b (over peer calls heard unheard is session speaks parts none was_over) =
      over peer calls heard unheard is session speaks parts none (subst IsSome (sym b.ended) was_over)
  gone_beside b (never none was_over) = never none (subst IsSome (sym b.ended) was_over)

  pub open_beside : Beside r old new → IsOpen is_caller r moves old → IsOpen is_caller r moves new
  open_beside b o = record {
    peer = o.peer;
    calls = o.calls;
    session = o.session;
    lasts = b.ended ∙ o.lasts;
    here = b.live ∙ o.here;
    kept = b.kept (some_there (value_at r old.carrier.live) _ o.here) ∙ o.kept;
    speaks = o.speaks;
    begun = o.begun;
  }

  pub course_beside : Beside r old new → Course is_caller r moves old → Course is_caller r moves new
  course_beside b (unknown none side given live lines) = grind arith
  course_beside b (awaited none c terms side lasts given here kept) =
      awaited none c terms side (b.ended ∙ lasts) (b.given ∙ given) (b.live ∙ here)
      (b.kept (some_there (value_at r old.carrier.live) _ here) ∙ kept)
  course_beside b (is_open given o) = is_open (b.given ∙ given) (open_beside b o)
  course_beside b (is_gone g) = is_gone (gone_beside b g)

  -- ---- the end of the carrier

  pub open_over : IsOpen is_caller r moves old → IsSome new.carrier.ended → Gone is_caller r moves new
  open_over o ended = over o.peer o.calls moves.calls [] false o.session o.speaks (sym (append-nil moves.calls)) refl ended

  pub gone_over : Gone is_caller r moves old → IsSome new.carrier.ended → Gone is_caller r moves new
  gone_over (closed peer calls is session speaks given shut) ended =
      over peer calls moves.calls [] is session speaks (sym (append-nil moves.calls)) refl ended
  gone_over (over peer calls heard unheard is session speaks parts none was_over) ended =
      over peer calls heard unheard is session speaks parts none ended
  gone_over (never none was_over) ended = never none ended

  pub course_over : Course is_caller r moves old → IsSome new.carrier.ended → Gone is_caller r moves new
  course_over (unknown none side given live lines) ended = never none ended
  course_over (awaited none c terms side lasts given here kept) ended = never none ended
  course_over (is_open given o) ended = open_over o ended
  course_over (is_gone g) ended = gone_over g ended

  -- ---- the carrier alone counts once the connection is gone

  pub gone_same : new.carrier ≡ old.carrier → Gone is_caller r moves old → Gone is_caller r moves new
  gone_same same (closed peer calls is session speaks given shut) =
      closed peer calls is session speaks (ap (has_given r) same ∙ given)
      (subst IsShut (sym (ap (λ (c : Carrier). value_at r c.live) same)) shut)
  gone_same same (over peer calls heard unheard is session speaks parts none ended) =
      over peer calls heard unheard is session speaks parts none (subst (λ (c : Carrier). IsSome c.ended) (sym same) ended)
  gone_same same (never none ended) = never none (subst (λ (c : Carrier). IsSome c.ended) (sym same) ended)

-- ---- lines

pub none_behind : (r p : ℕ) (y : Line) (lines : Rows Line) (b : Bool) → (p == r) ≡ b →
    (if b then Some y else value_at r lines) ≡ None → (value_at r lines ≡ None) × (b ≡ false)
none_behind r p y lines b e h = grind arith

pub none_before : (r p : ℕ) (y : Line) (lines : Rows Line) → (p == r) ≡ false → value_at r lines ≡ None → value_at r ((p, y) ∷ lines) ≡ None
none_before r p y lines e h = ap (λ (b : Bool). if b then Some y else value_at r lines) e ∙ h

pub used_none : (r : ℕ) (live : Rows Connection) (lines : Rows Line) → value_at r lines ≡ None → value_at r (used_lines live lines) ≡ None
used_none r live [] h = refl
used_none r live ((p, y) ∷ lines) h =
    let k = none_behind r p y lines (p == r) refl h in
    grind (arith, used_keep, none_before, used_none r live lines k.0)

-- a new session of another connection
pub joins_beside : (q r : ℕ) (session : Listener) (e : End) → r ≢ q → Beside r e (joins q session e)
joins_beside q r session e ne = grind (arith, used_none, push_other, used_live)

-- ---- the session of another connection makes a move

module _ (q r : ℕ) (ne : r ≢ q) where
  carrier_leaves : (o : Option Listener) (input : Input) (c : Carrier) → Leaves r c (carrier_by q o input c)
  carrier_leaves None input c = leaves_all r c
  carrier_leaves (Some session) input c = search (arith, answers_leave)

  line_leaves : (o : Option Line) (input : Input) (e : End) → Leaves r e.carrier (by_line q o input e).carrier
  line_leaves o input e = grind (arith, leaves_all, carrier_leaves)

  pub session_beside : (input : Input) (e : End) → (to_session q input e).carrier.ended ≡ None → Beside r e (to_session q input e)
  session_beside input e lasts = grind (arith, line_leaves, put_other)

-- ---- the session of a connection that is shut

shut_by : (r : ℕ) (o : Option Listener) (input : Input) (c : Carrier) → IsShut (value_at r c.live) → carrier_by r o input c ≡ c
shut_by r o input c shut = grind (arith, link_shut)

pub shut_session : (r : ℕ) (input : Input) (e : End) → IsShut (value_at r e.carrier.live) → (to_session r input e).carrier ≡ e.carrier
shut_session r input e shut = grind (arith, shut_by)
