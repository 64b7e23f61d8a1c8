-- At every step of an end and of a judge a whole end runs along, and references are apart at the judge. A calling end that offers class 2
-- has its lines; a called end has them, also when it is over, unless the CC that waits first selects class 0.
-- For the units that an end puts.
use Rattle.osi_blameless.proofs.Vocabulary.{Followed, Follows, IsOngoing, Joint, Left, Right, Local, Whole, first_joined}
use Rattle.osi_blameless.proofs.Vocabulary.{sym, true, false, ◌≡◌, refl, inl, inr, ◌⊎◌, AllByRecursion, Zero, acceptance, lines}
use Rattle.osi_blameless.proofs.Vocabulary.{selected, selecting, Selecting, Called, IsCalled, NamesApart, Stage, AreNamedApart}
use Rattle.osi_rules.specs.declared.directions.Direction.TheVariants as way
use Rattle.osi_blameless.specs.transport.Wholes as wholes
use Rattle.osi_blameless.proofs.transport.by_place.an_end_is_fair as fair
use Rattle.osi_blameless.proofs.transport.by_line.an_end_is_fair_in_class_2.{all_joined}
use Rattle.osi_blameless.proofs.keeping.steps_are_events.{whole_of, IsFollowed}
use Rattle.osi_blameless.proofs.shown.a_right_dt_has_one_place.{AreUsedApart, named_apart}
use Rattle.osi_blameless.proofs.putting.ccs_among_units.{AnswersTwo, first_not_zero}
use Rattle.osi_blameless.proofs.Vocabulary.{Happens, Holds, holds_first, holds_next}
use Rattle.osi_blameless.proofs.transport.what_each_thing_keeps_all_of_them_keep.{along_keeps}
use Rattle.osi_blameless.proofs.Vocabulary.{Course, List, Traffic, Value, [], ap, takes, unit_passes, ℕ, ◌++◌, ◌∙◌, ◌∷◌}
use Rattle.osi_blameless.proofs.shown.connections_have_the_same_places.{unit_knows}

-- ---- as long as both sides are judged

-- ---- a calling end

module _ (local : Local) (two : local.class2 ≡ true) where
  abbrev pub first : Whole
  first = wholes.begin true local

  module _ (j : Joint) (f : IsFollowed Left first j) where
    pub joined_by_line : Follows local (whole_of f)
    joined_by_line = all_joined local f.events first (whole_of f) f.along (first_joined local two)

    module _ (clear : IsOngoing j.judge.traffic.course) where
      pub whole_followed : Followed local (whole_of f)
      whole_followed = joined_by_line.followed clear

      pub peers_apart : AreUsedApart Left j.judge.traffic.connections
      peers_apart =
          named_apart Left j.judge.traffic.connections joined_by_line.kept.sane.apart (joined_by_line.peers clear)

-- with its stage, whichever classes it offers
pub runs_staged : (local : Local) (j : Joint) (f : IsFollowed Left (wholes.begin true local) j) → Holds local (whole_of f)
runs_staged local j f =
    along_keeps (Happens way.Left) (Holds local) (holds_next local) f.events (wholes.begin true local) (whole_of f) f.along
    (holds_first local)

-- ---- a calling end, within a packet of the other side

-- A whole end of which this holds, with this judge; it has put these units.
pub record IsBehind (P : Whole → Type 0) (put : List Value) (c : Course) : Type 0 where
  pub whole : Whole
  pub holds : P whole
  pub judge : whole.judge ≡ c.traffic
  pub same : whole.put ≡ put

-- a unit of the packet has passed
abbrev pub with_unit : Value → Whole → Whole
with_unit v w = record w { judge = (takes way.Right v w.judge).state; coming = w.coming ++ v ∷ [] }

pub next_behind : (P : Whole → Type 0) (put : List Value) (at : ℕ) (v : Value) (c : Course) → ((w : Whole) → P w → P (with_unit v w)) →
    IsBehind P put c → IsBehind P put (unit_passes Right at v c)
next_behind P put at v c keeps b = record {
  whole = with_unit v b.whole;
  holds = keeps b.whole b.holds;
  judge = ap (λ (s : Traffic). (takes way.Right v s).state) b.judge ∙ sym (unit_knows Right at v c);
  same = b.same;
}

-- ---- a called end

-- with what keeps references apart at the judge
pub record HasLines (local : Local) (w : Whole) : Type 0 where
  pub called : Called local w
  pub end : IsCalled local w.end
  pub apart : NamesApart w.judge.connections
  pub named : AreNamedApart way.Left w.judge.connections

module _ (local : Local) (j : Joint) (f : IsFollowed Right (wholes.begin false local) j) where
  pub joined_by_place : fair.Joined local (whole_of f)
  joined_by_place = fair.all_joined local f.events (wholes.begin false local) (whole_of f) f.along (fair.first_joined local)

  module _ (clear : IsOngoing j.judge.traffic.course) where
    by_stage : Stage local (whole_of f) → HasLines local (whole_of f) ⊎ Selecting local (whole_of f)
    by_stage (lines h c named) = inl (record { called = h; end = c; apart = joined_by_place.sound.apart; named = named })
    by_stage (selecting z) = inr z
    by_stage (selected z) = absurd (clear.two z.judge.class)

    pub lines_or_selects : HasLines local (whole_of f) ⊎ Selecting local (whole_of f)
    lines_or_selects = by_stage (joined_by_place.stage clear.sure)

    module _ (two : AllByRecursion AnswersTwo j.put) where
      lines_by : HasLines local (whole_of f) ⊎ Selecting local (whole_of f) → HasLines local (whole_of f)
      lines_by (inl has) = has
      lines_by (inr z) =
          first_not_zero z.x.source (acceptance Zero z.size z.x local z.r) z.more j.put (sym z.put) refl two

      pub has_lines : HasLines local (whole_of f)
      has_lines = lines_by lines_or_selects
