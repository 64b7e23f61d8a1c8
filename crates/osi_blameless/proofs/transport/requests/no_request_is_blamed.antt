-- No CR of a whole calling end is blamed, whatever happens.
-- For the law of that name.
use Rattle.osi_blameless.proofs.transport.Vocabulary.{[], arith, begin, Connect, Connection, Disconnects, Event, false, HappenAlong}
use Rattle.osi_blameless.proofs.transport.Vocabulary.{Happens, is_stopped}
use Rattle.osi_blameless.proofs.transport.Vocabulary.{Kept, Left, List, Local, no_disconnects, refl, request, subst, sym, takes, TooMany}
use Rattle.osi_blameless.proofs.transport.Vocabulary.{Traffic, true}
use Rattle.osi_blameless.proofs.transport.Vocabulary.{Value, Whole, ◌∙◌, ◌∷◌, ◌≡◌, ◌⊎◌}
use Rattle.osi_blameless.proofs.transport.requests.a_new_reference_is_not_in_use.{Passed}
use Rattle.osi_blameless.proofs.transport.names.a_reference_names_one_connection.{no_item}
use Rattle.osi_blameless.proofs.transport.requests.a_request_of_a_whole_end_is_new.{IsUnused, Newer, next_unused, still_newer}
use Rattle.osi_blameless.proofs.transport.requests.how_requests_go_on.{Stage, asks, calm_passes, known, quiet, still_staged, zero, answered}
use Rattle.osi_blameless.proofs.transport.requests.how_requests_go_on.{ended, refused, waits}
use Rattle.osi_blameless.proofs.transport.class_0.what_an_end_does_in_class_zero.{anyhow, zero_puts}
use Rattle.osi_blameless.proofs.transport.requests.what_lasts_at_the_judge.{lasts_happening}
use Rattle.osi_blameless.proofs.transport.requests.while_no_class_is_selected.{AllOver, GoesOn, calm_judge}
use Rattle.osi_blameless.proofs.transport.what_each_thing_keeps_all_of_them_keep.{along_keeps}

-- ---- a run

pub record Holds (local : Local) (w : Whole) : Type 0 where
  pub newer : Newer w
  pub stage : GoesOn w.judge → Stage local w

pub holds_next : (local : Local) (event : Event) (w new : Whole) → Happens Left event w new → Holds local w → Holds local new
holds_next local event w new h a = record {
  newer = still_newer event w new h a.newer;
  stage = λ goes. still_staged local event w new h goes a.newer (a.stage ((lasts_happening Left event w new h).left goes));
}

holds_all : (local : Local) (events : List Event) (w new : Whole) → HappenAlong Left w events new → Holds local w → Holds local new
holds_all local = along_keeps (Happens Left) (Holds local) (holds_next local)

pub holds_first : (local : Local) → Holds local (begin true local)
holds_first local = record {
  newer = record { last = 0; below = λ i c at. no_item i c at; above = record { rise = tt; up = tt; given = omega arith } };
  stage = λ goes.
      quiet (record { lasts = refl; caller = refl; class = refl; live = refl }, refl) refl refl [] no_disconnects refl
      (λ i c at. no_item i c at) tt;
}

-- ---- the CR that is passing

abbrev pub IsRightCr : Connect → Traffic → Type 0
IsRightCr x s = Passed (takes Left (request x) s).told.finding

some_cr : {A : Type 0} (w : Whole) (x : Connect) (rest : List Value) → w.put ≡ request x ∷ rest → w.put ≡ [] → A
some_cr w x rest e none = absurd (cc (sym e ∙ none))

while_calm : (x : Connect) (w : Whole) (cs : List Connection) (drs : Disconnects) (rest : List Value) → w.put ≡ request x ∷ rest → Newer w →
    w.judge ≡ calm_judge cs drs → AllOver cs → IsRightCr x w.judge
while_calm x w cs drs rest e newer judge all =
    let unused = subst (λ (t : Traffic). IsUnused x.source t) judge (next_unused x rest w e newer) in
    grind (arith, calm_judge cs drs, calm_passes x cs drs all unused)

pub is_right : (local : Local) (x : Connect) (rest : List Value) (w : Whole) → w.put ≡ request x ∷ rest → w.begun ≡ true →
    GoesOn w.judge → Newer w → Stage local w → IsRightCr x w.judge
is_right local x rest w e begun goes newer (ended none h) = some_cr w x rest e none
is_right local x rest w e begun goes newer (quiet is none not_begun cs drs judge done dcs) = some_cr w x rest e none
is_right local x rest w e begun goes newer (asks y put is offers cs drs judge done dcs all) = search (arith, while_calm)
is_right local x rest w e begun goes newer (waits r is none not_begun cs drs judge p o offers waiting dcs) = some_cr w x rest e none
is_right local x rest w e begun goes newer (refused r is none not_begun cs drs judge done dcs v more coming are refusal too) =
    some_cr w x rest e none
is_right local x rest w e begun goes newer (answered r is none not_begun dcs n y more coming are class has after so z) =
    some_cr w x rest e none
is_right local x rest w e begun goes newer (zero has z) = grind (arith, anyhow, zero_puts)
is_right local x rest w e begun goes newer (known two seen has) = grind (arith, next_unused x rest w e newer)

pub request_right : (local : Local) (events : List Event) (w : Whole) (x : Connect) (rest : List Value) →
    HappenAlong Left (begin true local) events w → w.begun ≡ true → w.put ≡ request x ∷ rest → is_stopped Left w.judge.course ≡ false →
    ((takes Left (request x) w.judge).told.finding ≡ Kept) ⊎ ((takes Left (request x) w.judge).told.finding ≡ TooMany)
request_right local events w x rest along begun put goes =
    let h = holds_all local events (begin true local) w along (holds_first local) in
    is_right local x rest w put begun goes h.newer (h.stage goes)
