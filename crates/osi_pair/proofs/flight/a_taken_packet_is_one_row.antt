-- A packet is taken at one of two carriers, and its events are handled: which row it is, and what is in flight then.
-- For turns, breaks and ends, packets and carries.
use Rattle.osi_tpdu.specs.Writing.{written}
use Rattle.osi_carrier.specs.Coming.{IsSendable}
use Rattle.osi_carrier.specs.Packets.{after_packet}
use Rattle.osi_carrier.specs.React.{react}
use Rattle.osi_carrier.specs.State.{ends}
use Rattle.osi_between.specs.Messages.{Message, bye}
use Rattle.osi_pair.proofs.Vocabulary.{◌≡◌, ◌≢◌, ℕ, ◌+◌, ◌<◌, Bool, true, false, not, List, [], ◌∷◌, ◌++◌, Some, None, sym, ap, subst, ◌∙◌}
use Rattle.osi_pair.proofs.Vocabulary.{arith, AllByRecursion, IsOctets, IsPacket, Value, IsShortTsdu, sent, closed_with, place_at}
use Rattle.osi_pair.proofs.Vocabulary.{connection_in, Happening, value_at, State, linked, Closed, reference_of, Both, side, Between}
use Rattle.osi_pair.proofs.Vocabulary.{last_of, units_from, AreBetween, under_way, answers_in, put_in, Acted, becomes, Took, Same}
use Rattle.osi_pair.proofs.Vocabulary.{still_to_tell, progress_of, message, AreLike, leaves_use, may_arrive, references_for}
use Rattle.osi_pair.proofs.Vocabulary.{class_behind_all, Terms, by_two, by_zero, accepts_in, class_of, Link as Standing}
use Rattle.osi_pair.proofs.flight.which_unit_arrives_first.{IsFirstFor, first_for}
use Rattle.osi_pair.proofs.flight.what_may_arrive_row_by_row.{Row, before, after, arrived_in, put_for, told_for, is_row, row_of, row_after}

-- what is proved of two carriers
pub record CarrierLaws : Type 0 where
  pub taken : (terms : Terms) (end : Bool) (both : Both) (b : Between) (packet octets behind : List ℕ) → AreBetween terms both b →
      (side end both).state.ended ≡ None → IsPacket packet octets → (side end both).held ≡ octets ++ behind →
      Took terms end packet behind both b
  pub told : (terms : Terms) (end : Bool) (both : Both) (b : Between) (events : List Happening) → AreBetween terms both b →
      Same terms both (still_to_tell end events both) b
  pub handed_in : (terms : Terms) (end : Bool) (both : Both) (b : Between) (n peer : ℕ) (link : Standing) (tsdu : List ℕ) →
      AreBetween terms both b → (side end both).state.ended ≡ None → value_at n (side end both).state.live ≡ Some (linked peer link) →
      IsShortTsdu tsdu → IsOctets tsdu →
      Acted terms end n both (becomes end (sent n tsdu (side end both).state) (side end both).held both) b [] (message tsdu ∷ [])
  pub closed : (end : Bool) (both : Both) (b : Between) (n peer : ℕ) (link : Standing) (reason : ℕ) → AreBetween by_two both b →
      (side end both).state.ended ≡ None → value_at n (side end both).state.live ≡ Some (linked peer link) → reason < 256 →
      Acted by_two end n both (becomes end (closed_with n reason (side end both).state) (side end both).held both) b [] (bye reason ∷ [])
  pub closed_in_0 : (end : Bool) (both : Both) (b : Between) (n peer : ℕ) (link : Standing) (reason : ℕ) → AreBetween by_zero both b →
      (side end both).state.ended ≡ None → value_at n (side end both).state.live ≡ Some (linked peer link) →
      closed_with n reason (side end both).state ≡ ends Closed (side end both).state

-- the acting end, when the events of its carrier were handled
abbrev pub heard_both : Bool → Value → List ℕ → Both → Both
heard_both end u behind both = still_to_tell end [] (becomes end (react u (side end both).state) behind both)

pub record UnitActs (terms : Terms) (end from : Bool) (both : Both) (b : Between) (n : ℕ) (both2 : Both) : Type 0 where
  pub now : Between
  pub between : AreBetween terms both2 now
  pub row : Row
  pub is : is_row terms row
  pub stood : progress_of (place_at n (last_of end b)) ≡ before row
  pub stands : progress_of (place_at n (last_of end now)) ≡ after row
  pub came : AreLike (connection_in (place_at n (last_of end now))) (under_way from n both b) (arrived_in row ++ under_way from n both2 now)
  pub stays : List Message
  pub gone : List Message
  pub out_before : under_way end n both b ≡ stays ++ gone
  pub out_after : under_way end n both2 now ≡ stays ++ put_in both (put_for row)
  pub keeps : leaves_use (before row) (after row) ≡ false → gone ≡ []
  pub others : (q : ℕ) → q ≢ n → (way : Bool) → under_way way q both b ≡ under_way way q both2 now
  pub other_places : (q : ℕ) → q ≢ n → place_at q (last_of end now) ≡ place_at q (last_of end b)
  pub there : (q : ℕ) → place_at q (last_of from now) ≡ place_at q (last_of from b)
  pub given : (last_of end now).given ≡ (last_of end b).given + references_for (accepts_in terms) (arrived_in row) (put_for row)
  pub given_there : (last_of from now).given ≡ (last_of from b).given
  pub class : (last_of end now).class ≡ class_behind_all (class_of terms) (last_of end b).class (arrived_in row)
  pub class_there : (last_of from now).class ≡ (last_of from b).class

pub record PacketActs (terms : Terms) (end : Bool) (both : Both) (b : Between) (packet behind : List ℕ) : Type 0 where
  pub unit : Value
  pub is : packet ≡ written unit
  pub sendable : IsSendable unit
  pub acts : after_packet (side end both).state packet ≡ react unit (side end both).state
  pub first : IsFirstFor terms end b.caller (place_at (reference_of unit) (last_of end b)) unit
  pub did : UnitActs terms end (not end) both b (reference_of unit) (heard_both end unit behind both)
  pub events : (react unit (side end both).state).events ≡ told_for (reference_of unit) did.row
  pub lasts : (react unit (side end both).state).ended ≡ None
  pub local : (react unit (side end both).state).local ≡ (side end both).state.local

side_same : (end : Bool) (s : State) (behind : List ℕ) (both : Both) → (side end (becomes end s behind both)).state ≡ s
side_same end s behind both = grind arith

pub packet_acts : CarrierLaws → (terms : Terms) (end : Bool) (both : Both) (b : Between) (packet octets behind : List ℕ) →
    AreBetween terms both b → (side end both).state.ended ≡ None → (side end both).state.events ≡ [] → IsPacket packet octets →
    (side end both).held ≡ octets ++ behind → PacketActs terms end both b packet behind
packet_acts laws terms end both b packet octets behind a alive none is cut =
    let tk = laws.taken terms end both b packet octets behind a alive is cut in
    let u = tk.unit in
    let n = reference_of u in
    let st = (side end both).state in
    let mid = becomes end (react u st) behind both in
    let d = tk.acted in
    let y = d.carries in
    let old = place_at n (last_of end b) in
    let put = answers_in terms old u in
    let f = first_for terms end both b u (units_from (not end) d.now) a y.cut in
    let r = row_of terms n old u f.may
    (subst (λ (l : List Message). AllByRecursion (λ m. may_arrive (progress_of old) m ≡ true) l) y.brings.is y.brings.may) in
    let arrived : y.arrived ≡ arrived_in r.row = y.brings.is ∙ r.comes_as in
    let same = laws.told terms end mid d.now [] d.between in
    let was : last_of end b ≡ st = sym (a.lives end alive) in
    let reached : last_of end d.now ≡ react u st = sym (d.between.lives end d.lasts) ∙ side_same end (react u st) behind both in
    record {
      unit = u;
      is = tk.is;
      sendable = grind arith;
      acts = tk.acts;
      first = f;
      did = record {
        now = same.now;
        between = same.between;
        row = r.row;
        is = r.is;
        stood = r.stands;
        stands = grind (arith, same.stays end n, before r.row, arrived_in r.row, row_after terms r.row r.is);
        came = grind (arith, arrived_in r.row, same.stays end n, same.under (not end) n);
        stays = y.stays;
        gone = y.gone;
        out_before = y.before;
        out_after = grind (arith, put_for r.row, same.under end n);
        keeps = grind (arith, before, arrived_in, row_after);
        others = λ q apart from. y.others q apart from ∙ same.under from q;
        other_places = λ q apart. same.stays end q ∙ y.other_places q apart;
        there = λ q. same.stays (not end) q ∙ ap (place_at q) y.there;
        given = grind (arith, same.given end, arrived_in r.row);
        given_there = same.given (not end) ∙ ap (λ (s : State). s.given) y.there;
        class = same.class end ∙ y.class ∙ ap (class_behind_all (class_of terms) (last_of end b).class) arrived;
        class_there = same.class (not end) ∙ ap (λ (s : State). s.class) y.there;
      };
      events = grind arith;
      lasts = sym (ap (λ (s : State). s.ended) (side_same end (react u st) behind both)) ∙ d.lasts;
      local = ap (λ (s : State). s.local) (sym reached) ∙ y.local ∙ ap (λ (s : State). s.local) was;
    }
