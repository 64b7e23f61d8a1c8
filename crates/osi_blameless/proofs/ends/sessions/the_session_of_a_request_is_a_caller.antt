-- The session of a request that is accepted begins as a caller does, with the CN of some opening that osi_session accepts.
-- For what the session of a connection said.
use Rattle.osi_blameless.proofs.ends.Vocabulary.{Bool, false, if◌then◌else◌, length, List, nat_le, None, not, Option, option_map, refl}
use Rattle.osi_blameless.proofs.ends.Vocabulary.{Some, true}
use Rattle.osi_blameless.proofs.ends.Vocabulary.{ℕ, ◌||◌, ◌≡◌, ltb-false, unit_bits, named_by, Selector, CN, selector_octets}
use Rattle.osi_blameless.proofs.ends.Vocabulary.{most_user_data}
use Rattle.osi_blameless.proofs.ends.Vocabulary.{serial_for, Listener, refusal_of, offered, functional_units, is_profile, Opening}
use Rattle.osi_blameless.proofs.ends.Vocabulary.{called_octets}
use Rattle.osi_blameless.proofs.ends.Vocabulary.{calling_octets, calls_with, is_long, is_long_address, opening_of, terms_error}
use Rattle.osi_blameless.proofs.ends.Vocabulary.{Request as Connect}
use Rattle.osi_blameless.proofs.ends.Vocabulary.{arith, opens}
use Rattle.std.specs.Borrow.{Bor}

-- a selector of these octets
record Named (octets : Option (List ℕ)) : Type 0 where
  selector : Option Selector
  is : selector_octets selector ≡ octets

address_named : (o : Option (Bor (List ℕ))) → is_long_address (option_map (λ s. s.now) o) ≡ false → Named (option_map (λ s. s.now) o)
address_named None h = record { selector = None; is = refl }
address_named (Some s) h = record { selector = Some (record { octets = s; short = ltb-false 16 (length s.now) h }); is = refl }

-- what the terms say
record Terms (profile long : Bool) : Type 0 where
  is_profile : profile ≡ true
  is_short : long ≡ false

terms_by : {E : Type 0} (profile long : Bool) (a b : E) → (if not profile then Some a else (if long then Some b else None)) ≡ None →
    Terms profile long
terms_by h long a b e = grind arith

or_left : (a b : Bool) → (a || b) ≡ false → a ≡ false
or_left a b e = grind arith

or_right : (a b : Bool) → (a || b) ≡ false → b ≡ false
or_right a b e = grind arith

not_so : (b : Bool) → not b ≡ false → b ≡ true
not_so b e = grind arith

abbrev with_selectors : Connect → Option (List ℕ) → Option (List ℕ) → Listener
with_selectors c calling called = record (calls_with c) {
  waiting = Some (CN true (unit_bits c.requirements) (serial_for (functional_units (unit_bits c.requirements)) c.serial.number)
      (offered (functional_units (unit_bits c.requirements)) c.wishes) calling called (named_by c.sizes) c.user_data.now);
}

-- An opening with which a session of osi_session begins as this one does.
pub record OpensSo (session : Listener) : Type 0 where
  pub opening : Opening
  pub accepted : refusal_of opening ≡ None
  pub begins : opens opening ≡ session

pub opens_so : (c : Connect) → terms_error c ≡ None → OpensSo (calls_with c)
opens_so c h =
    let terms = terms_by (is_profile (unit_bits c.requirements)) (is_long c) _ _ h in
    let rest = or_right (is_long_address (calling_octets c)) _ terms.is_short in
    let calling = address_named c.calling_selector (or_left (is_long_address (calling_octets c)) _ terms.is_short) in
    let called = address_named c.called_selector (or_left (is_long_address (called_octets c)) _ rest) in
    let few = not_so (nat_le (length c.user_data.now) most_user_data) (or_right (is_long_address (called_octets c)) _ rest) in
    let o : Opening = record (opening_of c) { calling_selector = calling.selector; called_selector = called.selector } in
    record {
      opening = o;
      accepted = grind arith;
      begins = (λ i. with_selectors c (calling.is i) (called.is i));
    }
