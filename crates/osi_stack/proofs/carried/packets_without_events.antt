-- What packets without events do to an end, and what the last of them does.
use Rattle.osi_stack.proofs.Vocabulary.{ArePackets, Rows, State as Carrier, EndReason, stops, TakesPackets, attends, after_packet}
use Rattle.osi_stack.proofs.Vocabulary.{with_carrier, Line, End, waits, ◌≡◌, ℕ, ◌||◌, Bool, true, false, List, ◌∷◌, ◌++◌, Option, None}
use Rattle.osi_stack.proofs.Vocabulary.{is_some, refl, sym, ap, subst, ◌∙◌, [], arith}
use Rattle.osi_carrier.specs.Packets as carriers
use Rattle.osi_stack.proofs.carried.events_one_after_the_other.{no_events}

pub both : {A : Type 0} (b : Bool) → b ≡ true → b ≡ false → A
both b h k = grind arith

-- it lasts, and it has ended
pub never : {A : Type 0} (e : End) → is_some e.carrier.ended ≡ true → e.carrier.ended ≡ None → A
never e over lasts = both (is_some e.carrier.ended) over (ap is_some lasts)

pub lasting_of : (o : Option EndReason) (b : Bool) → (is_some o || b) ≡ false → o ≡ None
lasting_of o b h = grind arith

-- ---- nothing is reported

pub or_first : (a b : Bool) → (a || b) ≡ false → a ≡ false
or_first a b e = grind arith

pub or_second : (a b : Bool) → (a || b) ≡ false → b ≡ false
or_second a b e = grind arith

pub record IsQuiet (c : Carrier) : Type 0 where
  pub lasts : is_some c.ended ≡ false
  pub events : c.events ≡ []

pub quiet_is : (c : Carrier) → carriers.stops c ≡ false → IsQuiet c
quiet_is c e = grind (arith, or_first, is_some, waits, no_events, or_second)

pub quiet_attends : (e : End) → IsQuiet e.carrier → attends e ≡ e
quiet_attends e q = grind arith

pub quiet_stops : (e : End) → is_some e.carrier.ended ≡ false → waits e.lines ≡ false → stops e ≡ false
quiet_stops e over waiting = ap (λ b. b || waits e.lines) over ∙ waiting

pub packet_is : (e : End) (packet : List ℕ) → after_packet e packet ≡ attends (with_carrier (carriers.after_packet e.carrier packet) e)
unfolding after_packet
packet_is e packet = refl

-- ---- packets of which none stops

next_quiet : (c d : Carrier) (units : List (List ℕ)) → carriers.TakesPackets c units d → carriers.stops d ≡ false → carriers.stops c ≡ false
next_quiet c d [] h quiet = ap carriers.stops (sym h) ∙ quiet
next_quiet c d (u ∷ units) h quiet = h.0

pub lift_dry : (lines : Rows Line) (c d : Carrier) (units : List (List ℕ)) → waits lines ≡ false → carriers.TakesPackets c units d →
    carriers.stops d ≡ false →
    TakesPackets (record { carrier = c; lines = lines }) units (record { carrier = d; lines = lines })
lift_dry lines c d [] none h quiet = ap (λ (x : Carrier). record { carrier = x; lines = lines }) h
lift_dry lines c d (u ∷ units) none h quiet =
    let next = carriers.after_packet c u in
    grind (arith, quiet_is, next_quiet, after_packet, packet_is, quiet_attends, quiet_stops, lift_dry lines next d units none h.1 quiet)

-- ---- packets of which the last stops

-- the last packet, and the state before it
pub record HasLast (c : Carrier) (units : List (List ℕ)) (d : Carrier) : Type 0 where
  pub first : List (List ℕ)
  pub last : List ℕ
  pub before : Carrier
  pub all : units ≡ first ++ last ∷ []
  pub taken : carriers.TakesPackets c first before
  pub quiet : carriers.stops before ≡ false
  pub acts : d ≡ carriers.after_packet before last

last_by : (c d : Carrier) (u : List ℕ) (units : List (List ℕ)) (b : Bool) → carriers.stops (carriers.after_packet c u) ≡ b →
    carriers.stops c ≡ false →
    carriers.TakesPackets (carriers.after_packet c u) units d → carriers.stops d ≡ true →
    (carriers.stops (carriers.after_packet c u) ≡ false → HasLast (carriers.after_packet c u) units d) → HasLast c (u ∷ units) d
last_by c d u units false e quiet h stopped more =
    let l = more e in
    record {
      first = u ∷ l.first;
      last = l.last;
      before = l.before;
      all = ap (λ us. u ∷ us) l.all;
      taken = (quiet, l.taken);
      quiet = l.quiet;
      acts = l.acts;
    }
last_by c d u [] true e quiet h stopped more = record {
  first = [];
  last = u;
  before = c;
  all = refl;
  taken = refl;
  quiet = quiet;
  acts = h;
}
last_by c d u (v ∷ units) true e quiet h stopped more = both (carriers.stops (carriers.after_packet c u)) e h.0

pub last_is : (c d : Carrier) (units : List (List ℕ)) → carriers.TakesPackets c units d → carriers.stops c ≡ false →
    carriers.stops d ≡ true → HasLast c units d
last_is c d [] h quiet stopped = both (carriers.stops c) (ap carriers.stops (sym h) ∙ stopped) quiet
last_is c d (u ∷ units) h quiet stopped =
    last_by c d u units (carriers.stops (carriers.after_packet c u)) refl quiet h.1 stopped
    (λ e. last_is (carriers.after_packet c u) d units h.1 e stopped)

-- ---- one list of packets after another

pub takes_append : (old mid new : End) (us vs : List (List ℕ)) → TakesPackets old us mid → TakesPackets mid vs new →
    TakesPackets old (us ++ vs) new
takes_append old mid new [] vs h k = subst (λ (x : End). TakesPackets x vs new) h k
takes_append old mid new (u ∷ us) vs h k = (h.0, takes_append (after_packet old u) mid new us vs h.1 k)

pub packets_append : (us vs : List (List ℕ)) (s r q : List ℕ) → ArePackets us s r → ArePackets vs r q → ArePackets (us ++ vs) s q
packets_append [] vs s r q h k = subst (λ l. ArePackets vs l q) (sym h) k
packets_append (u ∷ us) vs s r q h k = (h.0, h.1, h.2, h.3, packets_append us vs h.1 r q h.4 k)

pub record AreParted (us vs : List (List ℕ)) (s q : List ℕ) : Type 0 where
  pub between : List ℕ
  pub front : ArePackets us s between
  pub back : ArePackets vs between q

pub packets_part : (us vs : List (List ℕ)) (s q : List ℕ) → ArePackets (us ++ vs) s q → AreParted us vs s q
packets_part [] vs s q h = record { between = s; front = refl; back = h }
packets_part (u ∷ us) vs s q h = search (arith, packets_part us vs h.1 q h.4)

-- the end after the last packet
pub lift_last : (lines : Rows Line) (c d : Carrier) (units : List (List ℕ)) (new : End) → waits lines ≡ false →
    carriers.TakesPackets c units d → carriers.stops c ≡ false →
    carriers.stops d ≡ true → new ≡ attends (record { carrier = d; lines = lines }) →
    TakesPackets (record { carrier = c; lines = lines }) units new
lift_last lines c d units new none h quiet stopped is =
    let l = last_is c d units h quiet stopped in
    grind (arith, takes_append, quiet_stops, packet_is, lift_dry lines c l.before l.first none l.taken l.quiet, quiet_is l.before l.quiet)
