-- Units one after the other, and units after the end.
use Rattle.std.proofs.Common.{◌≡◌, List, [], ◌∷◌, ◌++◌, Option, None, refl, ap, ◌∙◌, true, false, is_some, append_assoc, arith}
use Rattle.osi_carrier.specs.Packets.{Act}
use Rattle.osi_carrier.proofs.Vocabulary.{Value, grows, react, react_by, reacts, in_class, State, ends, NoMemory}

pub reacts_join : (us vs : List Value) (s : State) → reacts (us ++ vs) s ≡ reacts vs (reacts us s)
reacts_join [] vs s = refl
reacts_join (u ∷ us) vs s = reacts_join us vs (react u s)

-- before the end a unit acts by the class
pub react_quiet : (unit : Value) (s : State) → s.ended ≡ None → react unit s ≡ (in_class s.class unit s).state
unfolding react
react_quiet unit s quiet = ap (λ o. (react_by (is_some o) unit s).state) quiet

pub react_over : (unit : Value) (s : State) → is_some s.ended ≡ true → react unit s ≡ s
unfolding react
react_over unit s over = ap (λ b. (react_by b unit s).state) over

-- after the end no unit acts
pub reacts_over : (us : List Value) (s : State) → is_some s.ended ≡ true → reacts us s ≡ s
reacts_over [] s over = refl
reacts_over (u ∷ us) s over = ap (reacts us) (react_over u s over) ∙ reacts_over us s over

-- some units have acted, and the carrier has not ended
pub record IsAlong (start : State) (all : List Value) (now : State) (left : List Value) : Type 0 where
  pub done : List Value
  pub parts : all ≡ done ++ left
  pub acted : now ≡ reacts done start
  pub lasts : now.ended ≡ None

pub along_next : (start now after : State) (all left more : List Value) (unit : Value) → IsAlong start all now left → left ≡ unit ∷ more →
    after ≡ (in_class now.class unit now).state → after.ended ≡ None → IsAlong start all after more
along_next start now after all left more unit h e acts lasts =
    grind (arith, append_assoc h.done (unit ∷ []) more, react_quiet unit now h.lasts, react unit, reacts_join h.done (unit ∷ []) start)

-- a unit that ended the carrier was the last that acted
pub along_over : (start now after : State) (all left more : List Value) (unit : Value) → IsAlong start all now left → left ≡ unit ∷ more →
    after ≡ (in_class now.class unit now).state → is_some after.ended ≡ true → Act start all after
along_over start now after all left more unit h e acts over = search (arith, react, react_quiet, reacts_over, reacts_join)

-- a unit for which memory ran out did nothing
pub along_starved : (start now tried after : State) (all left more : List Value) (unit : Value) → IsAlong start all now left →
    left ≡ unit ∷ more →
    ends NoMemory tried ≡ ends NoMemory now → grows now (in_class now.class unit now).state ≡ true → after ≡ ends NoMemory tried →
    Act start all after
along_starved start now tried after all left more unit h e nothing needs ended = grind (arith, react_quiet)

pub none_of : {A : Type 0} (o : Option A) → is_some o ≡ false → o ≡ None
none_of o e = grind arith

pub one_starved : (start tried after : State) (unit : Value) → start.ended ≡ None → ends NoMemory tried ≡ ends NoMemory start →
    grows start (in_class start.class unit start).state ≡ true → after ≡ ends NoMemory tried → Act start (unit ∷ []) after
one_starved start tried after unit quiet nothing needs ended =
    along_starved start start tried after (unit ∷ []) (unit ∷ []) [] unit (grind arith) refl nothing needs ended

pub one_taken : (start after then : State) (unit : Value) → start.ended ≡ None → (in_class start.class unit start).state ≡ then →
    after ≡ then → Act start (unit ∷ []) after
one_taken start after then unit quiet acts is = grind (arith, react_quiet)
