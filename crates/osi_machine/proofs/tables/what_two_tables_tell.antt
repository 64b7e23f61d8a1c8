-- What two users may rely on, read from the tables and the journal.
-- For the law of the same name.
use Rattle.osi_machine.proofs.Vocabulary.{AllByRecursion, list_any, slice_get, State, Offer, Side, Left, Right, Message, World, Terms}
use Rattle.osi_machine.proofs.Vocabulary.{turned, session_of, IsLegal, Step, Entry, Machine, start, connection_at, run, HasNumber, Line}
use Rattle.osi_machine.proofs.Vocabulary.{Tables, Told, told_of, IsRun, is_fault, AreLines, AtEachSide, IsAsTables, IsTableRun, AreOffered}
use Rattle.osi_machine.proofs.Vocabulary.{OfEachLine, Meaning, TellsNoFault, LosesAsItEnds, offers_in, ◌≡◌, refl, sym, ◌∙◌, ap, subst, ℕ}
use Rattle.osi_machine.proofs.Vocabulary.{zero, suc, List, Option, Some, arith, option_map, slice_get-map}
use Rattle.osi_machine.proofs.basics.what_stands_at_a_reference.{some_same}
use Rattle.osi_machine.proofs.invariant.each_step_keeps_one_side.{SessionLaws}
use Rattle.osi_machine.proofs.whole.every_stage_of_a_connection.{Stage}
use Rattle.osi_machine.proofs.machine.every_connection_of_a_run.{offer_of, IsGood, good_run, stage_at, losses_have_an_end, no_fault_shown}
use Rattle.osi_machine.proofs.tables.a_line_is_a_connection.{Tabled, SaysItsUnit, line_of}
use Rattle.osi_machine.proofs.tables.the_tables_are_the_machine.{AllTabled, none, more, At, Follows, line_there, all_follow, end_as}
use Rattle.osi_machine.specs.Tables as tables

-- ---- the forms of what is true of each connection

-- of the sessions of both sides and what their records tell; and of each side's session and what is in flight to it
abbrev pub OfWorlds : (State → State → Told → Told → Type 0) → Machine → Type 0
OfWorlds P m = (r : ℕ) (w : World) → connection_at r m.worlds ≡ Some w
    → P (session_of w) (session_of (turned w)) (told_of Left r w.offer m.journal) (told_of Right r w.offer m.journal)

abbrev pub OfSides : (State → List Message → Type 0) → Machine → Type 0
OfSides P m = (r : ℕ) (w : World) → connection_at r m.worlds ≡ Some w
    → P (session_of w) w.peer.channel × P (session_of (turned w)) w.own.channel

at_side : (P : State → List Message → Type 0) (side : Side) (w : World) (a b : Option Meaning)
    → P (session_of w) w.peer.channel × P (session_of (turned w)) w.own.channel
    → P (tables.seen_from side (line_of w a b)).own.session.state (tables.seen_from side (line_of w a b)).peer.channel
at_side P side w a b h = grind arith

-- ---- the machine and its tables side by side

lines_as : {ws : List World} {ls : List Line} → AllTabled ls ws → AreLines ws ls
lines_as none = tt
lines_as (more h k) = (grind arith, lines_as k)

-- ---- a line, and the connection that it is

record IsThere (m : Machine) (r : ℕ) (l : Line) : Type 0 where
  world : World
  found : connection_at r m.worlds ≡ Some world
  tabled : Tabled l world

line_found : (m : Machine) (r : ℕ) (l : Line) (a : Option Line) (b : Option World) → At a b → a ≡ Some l
    → connection_at r m.worlds ≡ b → IsThere m r l
line_found m r l a b h e q = grind arith

-- the journal has its offer
offer_got : (m : Machine) → IsGood m → (r : ℕ) (w : World) → connection_at r m.worlds ≡ Some w
    → connection_at r (offers_in m.journal) ≡ Some w.offer
offer_got m g zero w e = absurd (cc)
offer_got m g (suc r) w e =
    ap (λ (os : List Offer). slice_get os r) g.asked ∙ slice_get-map offer_of m.worlds r ∙ ap (option_map offer_of) e

-- ---- what is true of each connection of the machine is true of each line

module _ (t : Tables) (m : Machine) (h : Follows t m) where
  there : (r : ℕ) (l : Line) → connection_at r t.lines ≡ Some l → IsThere m r l
  there r l e = grind (arith, line_found, line_there h.lines m.worlds r h.all)

  same_journal : t.journal ≡ m.journal
  same_journal = ap (λ (x : Tables). x.journal) h.same

  offered_as : IsGood m → (r : ℕ) (x : World) → connection_at r m.worlds ≡ Some x → connection_at r (offers_in t.journal) ≡ Some x.offer
  offered_as g r x e = ap (λ (j : List Entry). connection_at r (offers_in j)) same_journal ∙ offer_got m g r x e

  lifted : (P : State → State → Told → Told → Type 0) → IsGood m → OfWorlds P m → OfEachLine P t
  lifted P g all r l o e f =
      let x = there r l e in
      grind (arith, same_journal, some_same x.world.offer o (sym (offered_as g r x.world x.found) ∙ f))

  sides_lifted : (P : State → List Message → Type 0) → OfSides P m → AtEachSide P t
  sides_lifted P all side r l e =
      let x = there r l e in
      grind (arith, at_side P side x.world x.tabled.first x.tabled.second (all r x.world x.found))

-- ---- a run of the tables, and the run of the machine that it is

abbrev machine_of : (t : Tables) → IsTableRun t → Machine
machine_of t h = run (start h.agreed) h.steps

run_of : (t : Tables) (h : IsTableRun t) → IsRun (machine_of t h)
run_of t h = record { agreed = h.agreed; steps = h.steps; numbered = h.numbered; reached = refl }

module _ (laws : SessionLaws) (says : SaysItsUnit) where
  pub are_as_tables : (terms : Terms) (steps : List Step) → AllByRecursion HasNumber steps
      → IsAsTables (run (start terms) steps) (tables.run (tables.start terms) steps)
  are_as_tables terms steps small = grind (arith, lines_as, all_follow laws says terms steps small)

  pub is_legal : (t : Tables) → (h : IsTableRun t) → IsLegal h.agreed t.journal
  is_legal t h = grind (arith, are_as_tables)

  follows_run : (t : Tables) (h : IsTableRun t) → Follows t (machine_of t h)
  follows_run t h = subst (λ (x : Tables). Follows x (machine_of t h)) h.reached (all_follow laws says h.agreed h.steps h.numbered)

  pub of_runs : (P : State → State → Told → Told → Type 0) → ((m : Machine) → IsRun m → OfWorlds P m) → (t : Tables) → IsTableRun t
      → OfEachLine P t
  of_runs P all t h = search (arith, lifted, follows_run t h, good_run laws (machine_of t h) (run_of t h), run_of t h)

  -- what holds of one side at each stage holds of both
  pub of_stages : (P : State → List Message → Type 0)
      → ((side : Side) (m : Machine) (w : World) (t u : Told) → Stage side m w t u → P (session_of w) w.peer.channel) → (t : Tables)
      → IsTableRun t → AtEachSide P t
  of_stages P all t h = sides_lifted t (machine_of t h) (follows_run t h) P (λ r w e. (
    all Left (machine_of t h) w _ _ (stage_at (machine_of t h) (good_run laws (machine_of t h) (run_of t h)) Left r w e),
    all Right (machine_of t h) (turned w) _ _ (stage_at (machine_of t h) (good_run laws (machine_of t h) (run_of t h)) Right r w e),
  ))

  pub table_offers : (t : Tables) → IsTableRun t → AreOffered t
  table_offers t h r l e =
      let x = there t (machine_of t h) (follows_run t h) r l e in
      record {
        offer = x.world.offer;
        found = offered_as t (machine_of t h) (follows_run t h) (good_run laws (machine_of t h) (run_of t h)) r x.world x.found;
      }

  -- ---- the whole journal

  pub table_faultless : (t : Tables) → IsTableRun t → TellsNoFault t
  table_faultless t h =
      ap (list_any is_fault) (same_journal t (machine_of t h) (follows_run t h)) ∙ no_fault_shown laws (machine_of t h) (run_of t h)

  pub table_losses : (t : Tables) → IsTableRun t → LosesAsItEnds t
  table_losses t h = grind (arith, end_as, losses_have_an_end, follows_run t h, run_of t h)
