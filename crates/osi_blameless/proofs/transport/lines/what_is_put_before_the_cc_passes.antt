-- What a called end puts before its CC has passed might as well have been put right after that.
-- For the law of that name.
use Rattle.osi_blameless.proofs.transport.Vocabulary.{arith, [], ap, Bool, false, List, refl, ℕ, ◌++◌, ◌∙◌, ◌∷◌, ◌≡◌, AllByRecursion}
use Rattle.osi_blameless.proofs.transport.Vocabulary.{Value}
use Rattle.osi_blameless.proofs.transport.Vocabulary.{Standing, Connection, Course, Direction, Act, Acts, ActsAlong, answering_line}
use Rattle.osi_blameless.proofs.transport.Vocabulary.{answers}
use Rattle.osi_blameless.proofs.transport.Vocabulary.{begins_elsewhere, closes_with as closes, ignores, Line, moves, opened_line}
use Rattle.osi_blameless.proofs.transport.Vocabulary.{PassesNone, units_put}
use Rattle.osi_blameless.specs.transport.Lines.{begins_other, begins_own, passes_other, passes_own}
use Rattle.osi_blameless.proofs.transport.small_facts_that_many_lemmas_use.{rest_is}
use Rattle.osi_blameless.proofs.transport.Vocabulary.{disconnect, disconnected}
use Rattle.osi_blameless.proofs.transport.what_each_thing_keeps_all_of_them_keep.{along_join}

-- the line without its CC, as if this were the judge
abbrev without_cc : Connection → List Value → Line → Line
without_cc judge more line = record line { put = more; begun = false; judge = judge }

module _ (d : Direction) (r peer : ℕ) (cc_is : Value) (judge : Connection) where
  -- acts that do the same to the line without its CC
  record Same (more : List Value) (old new : Line) : Type 0 where
    now : List Value
    acts : List Act
    put : new.put ≡ cc_is ∷ now
    along : ActsAlong d r peer (without_cc judge more old) acts (without_cc judge now new)

  one_act : (act : Act) (more units : List Value) (old new : Line) → old.put ≡ cc_is ∷ more → new.put ≡ old.put ++ units →
      Acts d r peer act (without_cc judge more old) (without_cc judge (more ++ units) new) → Same more old new
  one_act act more units old new first put acts = record {
    now = more ++ units;
    acts = act ∷ [];
    put = put ∙ ap (λ (l : List Value). l ++ units) first;
    along = (without_cc judge (more ++ units) new, acts, refl);
  }

  no_act : (more : List Value) (old new : Line) → old.put ≡ cc_is ∷ more → new.put ≡ old.put →
      without_cc judge more new ≡ without_cc judge more old → Same more old new
  no_act more old new first put same = record { now = more; acts = []; put = put ∙ first; along = same }

  act_same : (act : Act) (more : List Value) (old new : Line) → PassesNone act → Acts d r peer act old new → old.put ≡ cc_is ∷ more →
      Same more old new
  act_same (moves move) more old new none (link, after, is, e, short, coming, new_is) first =
      one_act (moves move) more (units_put peer move) old new first (ap (λ (l : Line). l.put) new_is)
      (link, after, is, e, short, coming, ap (λ (l : Line). without_cc judge (more ++ units_put peer move) l) new_is)
  act_same (closes reason units) more old new none (link, is, coming, new_is) first =
      one_act (closes reason units) more (disconnect peer r reason [] ∷ []) old new first (ap (λ (l : Line). l.put) new_is)
      (link, is, coming, ap (λ (l : Line). without_cc judge (more ++ disconnect peer r reason [] ∷ []) l) new_is)
  act_same (answers unit) more old new none (link, is, dr, coming, new_is) first =
      one_act (answers unit) more (disconnected peer r ∷ []) old new first (ap (λ (l : Line). l.put) new_is)
      (link, is, dr, coming, ap (λ (l : Line). without_cc judge (more ++ disconnected peer r ∷ []) l) new_is)
  act_same (ignores units) more old new none (gone, coming, new_is) first = record {
    now = more;
    acts = ignores units ∷ [];
    put = ap (λ (l : Line). l.put) new_is ∙ first;
    along = (without_cc judge more new, (gone, coming, ap (λ (l : Line). without_cc judge more l) new_is), refl);
  }
  act_same begins_own more old new none (some, idle, new_is) first = grind (arith, no_act)
  act_same begins_elsewhere more old new none (idle, new_is) first = grind (arith, no_act)
  act_same begins_other more old new none new_is first = grind (arith, no_act)
  act_same (passes_own course in_use) more old new none acts first = absurd none
  act_same (passes_other course in_use unit) more old new none acts first = absurd none

  all_same : (acts : List Act) (more : List Value) (old new : Line) → AllByRecursion PassesNone acts → ActsAlong d r peer old acts new →
      old.put ≡ cc_is ∷ more → Same more old new
  all_same [] more old new none e first = grind (arith, no_act)
  all_same (act ∷ acts) more old new (none, others) (mid, one, along) first =
      let a = act_same act more old mid none one first in
      let b = all_same acts a.now mid new others along a.put in
      record {
        now = b.now;
        acts = a.acts ++ b.acts;
        put = b.put;
        along = along_join (Acts d r peer) a.acts b.acts (without_cc judge more old) (without_cc judge a.now mid)
            (without_cc judge b.now new)
            a.along b.along;
      }

pub opened_later : (d : Direction) (r peer : ℕ) (link : Standing) (answer : Value) (judge : Connection) (acts : List Act) (course : Course)
    (in_use : Bool) (line after : Line) → AllByRecursion PassesNone acts → ActsAlong d r peer (answering_line link answer judge) acts line →
    Acts d r peer (passes_own course in_use) line after →
    (later : List Act) × ActsAlong d r peer (opened_line link after.judge) later after
opened_later d r peer link answer judge acts course in_use line after none along (unit, (first, begun, new_is)) =
    grind (arith, rest_is, all_same d r peer answer after.judge acts [] (answering_line link answer judge) line none along refl)
