-- What happens one after the other joins, and what each thing that happens keeps, all of them keep.
-- For one connection, for the transport of a whole end, and for an end with its octets: they are one model.
use Rattle.osi_blameless.proofs.transport.Vocabulary.{sym, subst, List, [], ◌∷◌, ◌++◌}
use Rattle.osi_blameless.proofs.transport.Vocabulary.{Direction, other, Traffic, Passing, packet, passes, rubbish, unit, Event, Happens}
use Rattle.osi_blameless.proofs.transport.Vocabulary.{Whole, arrives, begins_other, begins_own, calls, passes_rubbish}
use Rattle.osi_blameless.specs.EndAndJudge.{Along}
use Rattle.osi_blameless.specs.transport.Wholes.{passes_other, passes_own}

module _ {What Model : Type 0} (effect : What → Model → Model → Type 0) where
  pub along_join : (xs ys : List What) (a b c : Model) → Along effect a xs b → Along effect b ys c → Along effect a (xs ++ ys) c
  along_join [] ys a b c e h = subst (λ (m : Model). Along effect m ys c) e h
  along_join (x ∷ xs) ys a b c (mid, first, more) h = (mid, first, along_join xs ys mid b c more h)

  pub along_keeps : (P : Model → Type 0) → ((x : What) (old new : Model) → effect x old new → P old → P new) → (xs : List What)
      (old new : Model) → Along effect old xs new → P old → P new
  along_keeps P keeps [] old new e p = subst P (sym e) p
  along_keeps P keeps (x ∷ xs) old new (mid, first, more) p = along_keeps P keeps xs mid new more (keeps x old mid first p)

-- What holds of the judge alone, whatever passes: each event of a whole end keeps it.
module _ (P : Traffic → Type 0) (keeps : (p : Passing) (s : Traffic) → P s → P (passes p s)) (d : Direction) where
  abbrev At : Whole → Type 0
  At w = P w.judge

  pub judge_keeps : (event : Event) (w new : Whole) → Happens d event w new → P w.judge → P new.judge
  judge_keeps arrives w new (u, coming, is) h = subst At (sym is) h
  judge_keeps (calls call) w new (may, is) h = subst At (sym is) h
  judge_keeps begins_own w new (some, none, is) h = subst At (sym is) (keeps (packet d) w.judge h)
  judge_keeps passes_own w new (v, (put, begun, is)) h = subst At (sym is) (keeps (unit d v) w.judge h)
  judge_keeps begins_other w new is h = subst At (sym is) (keeps (packet (other d)) w.judge h)
  judge_keeps (passes_other v) w new (ranges, is) h = subst At (sym is) (keeps (unit (other d) v) w.judge h)
  judge_keeps passes_rubbish w new is h = subst At (sym is) (keeps (rubbish (other d)) w.judge h)
