-- How an end stands to what has passed: the octets of its own that are still to pass, and the packets of the other side that have passed
-- and that it has not used. For the law that a capture of an end is steps.
use Rattle.osi_blameless.proofs.Vocabulary.{[], ap, append_assoc, arith, Bool, false, is_some, length, List, None, Option, refl, Some, true}
use Rattle.osi_blameless.proofs.Vocabulary.{ℕ, ◌++◌, ◌<◌, ◌∷◌, ◌≡◌, ◌≢◌, ◌≤◌, length-append, AllByRecursion, end_no_packet, some_cut}
use Rattle.osi_blameless.proofs.Vocabulary.{octets_append, octets_cons, octets_left, octets_nil, IsOctets, ArePackets, Ending, EndsAt}
use Rattle.osi_blameless.proofs.Vocabulary.{Value, written, packets, EndReason, Holding, over_acts, never_lasts, CanBeWritten, Continues}
use Rattle.osi_blameless.proofs.Vocabulary.{Deeds, Takes, Turn, front_of, partial, IsNoFront}
use Rattle.osi_blameless.proofs.steps.what_the_first_octets_are.{packets_octets, part_begins_none, used_first}
use Rattle.osi_blameless.proofs.Vocabulary.{Course, Direction, Ok, packet_of, packet_passes, read_again, subst, sym, units_of, units_pass}
use Rattle.osi_blameless.proofs.Vocabulary.{append-nil, octets_right, whole, ◌∙◌}
use Rattle.osi_blameless.proofs.steps.what_an_octet_does.{begins}
use Rattle.osi_blameless.proofs.steps.what_the_first_octets_are.{whole_front}

-- ---- what has passed of the end, and of the other side

abbrev pub has_begun : List ℕ → Bool
has_begun [] = false
has_begun (octet ∷ held) = true

-- The octets of the current packet that passed, and those that are still to pass, are the packets that were put.
pub record OwnStands (held still : List ℕ) (put : List Value) (begun : Bool) : Type 0 where
  pub octets : IsOctets held
  pub part : front_of held ≡ partial
  pub all : held ++ still ≡ packets put
  pub begun_so : begun ≡ has_begun held
  pub can : AllByRecursion CanBeWritten put

-- What the end holds, and what passed and is not used, are the packets that are coming, and the octets of the current one.
pub record OtherStands (held ahead : List ℕ) (h : Holding) (coming : List (List ℕ)) : Type 0 where
  pub octets : IsOctets held
  pub part : front_of held ≡ partial
  pub cut : h.end.carrier.ended ≡ None → ArePackets coming (h.held.octets ++ ahead) held

-- The same of the octets of the other side that no packet begins with.
pub record OtherRest (rest ahead : List ℕ) (h : Holding) (coming : List (List ℕ)) : Type 0 where
  pub octets : IsOctets rest
  pub none : IsNoFront rest
  pub cut : h.end.carrier.ended ≡ None → ArePackets coming (h.held.octets ++ ahead) rest

pub rest_of : (held ahead : List ℕ) (h : Holding) (coming : List (List ℕ)) → OtherStands held ahead h coming → OtherRest held ahead h coming
rest_of held ahead h coming st = search (arith, part_begins_none)

pub one_octet : (held : List ℕ) (x : ℕ) → IsOctets held → x < 256 → IsOctets (held ++ x ∷ [])
one_octet held x octets small = octets_append held (x ∷ []) octets (octets_cons x [] small octets_nil)

-- ---- an octet of the end

pub some_octets : (v : Value) → 3 ≤ length (written v)
some_octets v = grind (arith, length-append)

never_none : (held still : List ℕ) (x : ℕ) → held ++ x ∷ still ≡ [] → ⊥
never_none [] still x e = cc
never_none (o ∷ held) still x e = cc

pub first_put : (held still : List ℕ) (x : ℕ) (put : List Value) → held ++ x ∷ still ≡ packets put →
    (v : Value) × (vs : List Value) × (put ≡ v ∷ vs)
first_put held still x [] e = absurd (never_none held still x e)
first_put held still x (v ∷ vs) e = (v, vs, refl)

pub begun_now : (held : List ℕ) (x : ℕ) → true ≡ has_begun (held ++ x ∷ [])
begun_now [] x = refl
begun_now (o ∷ held) x = refl

-- With this octet a packet ends whose unit was put: it is read as that unit, and its octets were those that this unit is written as.
pub record Ends (d : Direction) (was now : Course) (held still : List ℕ) (x : ℕ) (v : Value) (vs : List Value) (at : ℕ) : Type 0 where
  pub read : units_of (written v) ≡ Ok (v ∷ [])
  pub octets : IsOctets (written v)
  pub front : front_of (held ++ x ∷ []) ≡ whole (written v)
  pub course : packet_passes d at (written v) (begins d held was) ≡ units_pass d at (v ∷ []) (begins d held now)
  pub own : OwnStands [] still vs false

pub packet_ends : (d : Direction) (was now : Course) (held still : List ℕ) (x : ℕ) (v : Value) (vs : List Value) (at : ℕ) {put : List Value}
    {begun : Bool} → was ≡ now → x < 256 → OwnStands held (x ∷ still) put begun → put ≡ v ∷ vs → held ++ x ∷ [] ≡ packet_of (written v) →
    still ≡ packets vs → Ends d was now held still x v vs at
packet_ends d was now held still x v vs at course small own is same rest =
    let can = subst (AllByRecursion CanBeWritten) is own.can in
    let octets : IsOctets (written v) = octets_right (3 ∷ 0 ∷ _ ∷ _ ∷ []) (written v)
    (subst IsOctets same (one_octet held x own.octets small)) in
    let read = read_again v can.0 octets in
    record {
      read = read;
      octets = octets;
      front = ap front_of (same ∙ sym (append-nil (packet_of (written v)))) ∙ whole_front (written v) [] (some_octets v);
      course = grind (arith, begins);
      own = record { octets = octets_nil; part = refl; all = rest; begun_so = refl; can = can.1 };
    }

-- ---- a turn

pub none_more : (at : ℕ) (r : List ℕ) (e : Ending) → EndsAt at r e → (more : List (List ℕ)) (last : List ℕ) → ArePackets more r last →
    more ≡ []
none_more at r e ends [] last h = refl
none_more at r e ends (u ∷ more) last h = absurd (end_no_packet at r e ends u h.0 h.1 h.2 h.3)

-- the packets that a turn uses of those that have passed, and the others
pub record Uses (held ahead : List ℕ) (coming : List (List ℕ)) (old : Holding) (turn : Turn) (new : Holding) : Type 0 where
  pub used : List (List ℕ)
  pub later : List (List ℕ)
  pub parts : coming ≡ used ++ later
  pub rest : List ℕ
  pub cut : old.end.carrier.ended ≡ None → ArePackets used (old.held.octets ++ turn.used) rest
  pub kept : new.end.carrier.ended ≡ None → rest ≡ new.held.octets
  pub all : old.end.carrier.ended ≡ None → new.end.carrier.ended ≢ None →
      (more : List (List ℕ)) (last : List ℕ) → ArePackets more rest last → more ≡ []
  pub left : new.end.carrier.ended ≡ None → ArePackets later (new.held.octets ++ ahead) held

module _ (held ahead : List ℕ) (coming : List (List ℕ)) (is_caller : Bool) (deeds : ℕ → Deeds) (old : Holding) (turn : Turn)
    (new : Holding) (takes : Takes old turn new) (on : Continues is_caller deeds old turn new)
    (st : OtherRest held (turn.used ++ ahead) old coming) where
  abbrev octets_in : List ℕ
  octets_in = old.held.octets ++ turn.used

  pub uses : (was is : Option EndReason) → old.end.carrier.ended ≡ was → new.end.carrier.ended ≡ is → Uses held ahead coming old turn new
  uses (Some e) is was now = record {
    used = [];
    later = coming;
    parts = refl;
    rest = new.held.octets;
    cut = λ lasts. absurd (grind arith);
    kept = λ lasts. refl;
    all = λ lasts over more last h. absurd (grind arith);
    left = λ lasts. absurd (never_lasts new.end.carrier.ended (over_acts turn old new (ap is_some was) takes).0 lasts);
  }
  uses None None was now = grind (arith, used_first, append_assoc)
  uses None (Some e) was now =
      let octets = octets_left octets_in ahead (packets_octets coming (octets_in ++ ahead) held (grind (arith, append_assoc)) st.octets) in
      let k = some_cut octets_in octets in
      grind (arith, none_more, used_first, append_assoc)
