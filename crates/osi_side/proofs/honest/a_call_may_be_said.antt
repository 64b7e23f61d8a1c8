-- What an accepted call sends may be sent: an observer takes it for that call, and arrives at the state that the call
-- leaves.
-- For the law that an honest session is explained.
use Rattle.osi_side.proofs.Vocabulary.{◌≡◌, ◌∙◌, refl, sym, ap, subst, ℕ, ◌==◌, Bool, true, not, if◌then◌else◌, nat_le, List, [], ◌∷◌}
use Rattle.osi_side.proofs.Vocabulary.{length, Some, None, unwrap_or, Ok, arith, and_from, and_parts, eq-eqb, TsduMaximumSize, Side}
use Rattle.osi_side.proofs.Vocabulary.{TokenSetting, Wish, wish_of, are_sizes, Ready, FunctionalUnits, Sides, State, AllHold, Answer, Test}
use Rattle.osi_side.proofs.Vocabulary.{after, base_for, first_error, may_call, most_of, needs, opened_with, serial_for, Call, HasSerial}
use Rattle.osi_side.proofs.Vocabulary.{Refusal, Refuse, Restart, RestartConfirm, refusal_octets, refusal_with, is_answering, allows}
use Rattle.osi_side.proofs.Vocabulary.{of_answerer, setting_of, settled, stated_side, answered_sizes, IsSound, accepting_in, calling}
use Rattle.osi_side.proofs.Vocabulary.{fits_user_data, said_message, where_is, profile_of, answered_are, sizes_agreed}
use Rattle.osi_session.specs.Allowed.{met, octets_of}
use Rattle.osi_session.specs.Allowed.{sends}
use Rattle.osi_session.specs.Sides.{answers_wishes, offered, settle, stated}
use Rattle.osi_session.specs.Units.{both_units, has_data, units_within}

-- ---- the side that is settled for each token

-- what is settled is stated unchanged, and settled again it stays
named_again : (b : Bool) (w : Wish) (s : Side) → stated_side b (wish_of (settled b w s)) ≡ settled b w s
named_again b w s = grind arith

one_allowed : (b : Bool) (w : Wish) (s : Side) → allows b w (wish_of (settled b w s)) ≡ true
one_allowed b w s = grind arith

stated_again : (u : FunctionalUnits) (w : TokenSetting) (a : Sides) → stated u (setting_of (settle u w a)) ≡ settle u w a
unfolding stated settle
stated_again u w a = grind (arith, named_again)

settle_again : (u : FunctionalUnits) (w : TokenSetting) (a : Sides) → settle u w (settle u w a) ≡ settle u w a
unfolding settle
settle_again u w a = search arith

offer_again : (u : FunctionalUnits) (w : TokenSetting) → offered u (offered u w) ≡ offered u w
unfolding offered
offer_again u w = grind arith

settled_answers : (u : FunctionalUnits) (w : TokenSetting) (a : Sides) → answers_wishes u w (setting_of (settle u w a)) ≡ true
unfolding answers_wishes settle
settled_answers u w a = grind (arith, one_allowed)

-- ---- what an AC selects

within_both : (a b : FunctionalUnits) → units_within a b ≡ true → both_units b a ≡ a
unfolding units_within both_units
within_both a b h = search (arith, and_parts)

profile_data : (u : FunctionalUnits) → u.duplex ≡ not u.half_duplex → has_data u ≡ true
unfolding has_data
profile_data u e = grind arith

same_first : (b : Bool) (serial proposed : ℕ) →
    (if b then unwrap_or (if b then Some serial else None) proposed else 0) ≡ (if b then serial else 0)
same_first b serial proposed = grind arith

-- ---- a call that was accepted

all_pass : (ts : List Test) (a : Answer) → AllHold ts → first_error ts a ≡ a
all_pass [] a h = refl
all_pass (t ∷ ts) a h = rw h.0 (all_pass ts a h.1)

calling_is : (s : State) (c : Call) → may_call s.phase c ≡ true → nat_le (length (octets_of c)) (most_of c) ≡ true → AllHold (needs s c) →
    calling s c ≡ Some (after s c)
unfolding met
calling_is s c p z h = let t = all_pass (needs s c) (Ok (record { next = after s c; sent = sends s c })) h in rw (p, z, t) refl

where_calling : (b : Bool) (s : State) (c : Call) → b ≡ true → may_call s.phase c ≡ true →
    nat_le (length (octets_of c)) (most_of c) ≡ true → AllHold (needs s c)
    → where_is b (calling s c) ≡ Some (after s c)
where_calling b s c e p z h = rw e (calling_is s c p z h)

-- ---- each message

accepted_in : (u : FunctionalUnits) (s : State) (serial : ℕ) (sides : Sides) (sizes : TsduMaximumSize) (octets : List ℕ) →
    is_answering s.phase ≡ true → fits_user_data octets ≡ true
    → has_data u ≡ true → are_sizes (answered_sizes s.sizes sizes) ≡ true
    → accepting_in u s true (serial_for u serial) (setting_of (settle u s.wishes sides)) (answered_sizes s.sizes sizes) octets
    ≡ Some (opened_with u (of_answerer u (settle u s.wishes sides)) (base_for u serial) (answered_sizes s.sizes sizes) s)
accepted_in u s serial sides sizes octets p z d k = grind (arith, settled_answers, stated_again, same_first, sizes_agreed)

restart_said : (s : State) (n : ℕ) (wishes : TokenSetting) (octets : List ℕ) → may_call s.phase (Restart n wishes octets) ≡ true →
    fits_user_data octets ≡ true
    → AllHold (needs s (Restart n wishes octets)) →
    said_message s (sends s (Restart n wishes octets)) ≡ Some (after s (Restart n wishes octets))
restart_said s n wishes octets p z h = search (arith, calling_is, offer_again)

confirm_said : (s : State) (sides : Sides) (octets : List ℕ) → may_call s.phase (RestartConfirm sides octets) ≡ true →
    fits_user_data octets ≡ true
    → said_message s (sends s (RestartConfirm sides octets)) ≡ Some (after s (RestartConfirm sides octets))
confirm_said s sides octets p z =
    let again = stated_again s.units s.wishes sides in
    where_calling _ s (RestartConfirm (stated s.units (setting_of (settle s.units s.wishes sides))) octets)
    (and_from (s.numbers.next == s.numbers.next) _ (eq-eqb s.numbers.next s.numbers.next refl) (settled_answers s.units s.wishes sides)) p z
    tt
    ∙ ap (λ (x : Sides). Some (record s { phase = Ready; held = of_answerer s.units x }))
    (ap (settle s.units s.wishes) again ∙ settle_again s.units s.wishes sides)

refuse_said : (s : State) (r : Refusal) → is_answering s.phase ≡ true → fits_user_data (refusal_octets r) ≡ true →
    said_message s (sends s (Refuse r)) ≡ Some (after s (Refuse r))
refuse_said s r p z =
    calling_is s (Refuse (refusal_with (refusal_octets r))) p (subst (λ (o : List ℕ). fits_user_data o ≡ true) (sym (grind arith)) z)
    tt

-- a message that an accepted call sends
pub message_said : (s : State) (c : Call) → IsSound s → HasSerial c → may_call s.phase c ≡ true → AllHold (needs s c) →
    nat_le (length (octets_of c)) (most_of c) ≡ true
    → said_message s (sends s c) ≡ Some (after s c)
message_said s c sound small p h z =
    grind (
      arith,
      and_parts,
      within_both,
      accepted_in,
      profile_data,
      profile_of,
      answered_are,
      refuse_said,
      where_calling,
      eq-eqb,
      restart_said,
      confirm_said,
    )
