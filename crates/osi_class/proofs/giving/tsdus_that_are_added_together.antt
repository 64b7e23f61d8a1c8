-- TSDUs that are added to those to be sent together.
use Rattle.osi_class.proofs.Vocabulary.{append_assoc, Drained, drained, all_given, left_to_give, given_one_by_one, one_by_one, Standing}
use Rattle.osi_class.proofs.Vocabulary.{Given, with_tsdu, with_tsdus, next, hand_in, MovesAlong, ◌≡◌, ℕ, zero, suc, ◌<◌, ◌≤◌, List, [], ◌∷◌}
use Rattle.osi_class.proofs.Vocabulary.{◌++◌, map, Option, Some, None, refl, sym, ◌∙◌, ap, arith, if◌then◌else◌}
use Rattle.osi_class.proofs.giving.giving_ends.{giving_lowers}
use Rattle.osi_class.proofs.giving.a_link_gives_finitely_many_units.{giving_leaves, drained_none, drained_some}
use Rattle.osi_class.proofs.between.parts_stay_in_order.{append_nil}

-- ---- a TSDU that is added after others does not change what is given before it

abbrev Next : Type 0
Next = Option (Given × Standing)

-- ---- all that is given of one more

abbrev both_given : Standing → List ℕ → Drained
both_given s t =
    record { units = all_given s ++ all_given (with_tsdu (drained s).link t); link = (drained (with_tsdu (drained s).link t)).link }

-- what is given first, and then for one more
abbrev then_given : List ℕ → Drained → Drained
then_given t d = record { units = d.units ++ all_given (with_tsdu d.link t); link = (drained (with_tsdu d.link t)).link }

step_given : (s x : Standing) (t : List ℕ) (unit : Given) → 0 < s.ends.limit → next s ≡ Some (unit, x) →
    drained (with_tsdu x t) ≡ both_given x t →
    drained (with_tsdu s t) ≡ both_given s t
step_given s x t unit room h more =
    grind (arith, drained_some (with_tsdu s t) (with_tsdu x t) unit room (grind arith), drained_some s x unit room h)

end_given : (s : Standing) (t : List ℕ) → next s ≡ None → drained (with_tsdu s t) ≡ both_given s t
end_given s t h = sym (ap (then_given t) (drained_none s h))

one_behind : (n : ℕ) (s : Standing) (t : List ℕ) → 0 < s.ends.limit → left_to_give s ≤ n → drained (with_tsdu s t) ≡ both_given s t
one_behind zero s t room le = search (arith, end_given, giving_lowers)
one_behind (suc n) s t room le = by (next s) refl (λ x r l. one_behind n x t r l)
  where
    by : (o : Next) → next s ≡ o → ((x : Standing) → 0 < x.ends.limit → left_to_give x ≤ n → drained (with_tsdu x t) ≡ both_given x t) →
        drained (with_tsdu s t) ≡ both_given s t
    by None h again = end_given s t h
    by (Some (unit, x)) h again =
        let l = giving_lowers s x unit room h in
        grind (arith, giving_leaves, step_given)

-- ---- and of more

-- what is given first, and then for these one by one
abbrev then_all : List (List ℕ) → Drained → Drained
then_all ts d = record { units = d.units ++ given_one_by_one d.link ts; link = one_by_one d.link ts }

put_first : (s : Standing) (t : List ℕ) (ts : List (List ℕ)) → with_tsdus (with_tsdu s t) ts ≡ with_tsdus s (t ∷ ts)
put_first s t ts = ap (λ (u : List (List ℕ)). record s { ends = record s.ends { unsent = u } }) (append_assoc s.ends.unsent (t ∷ []) ts)

put_none : (s : Standing) → with_tsdus s [] ≡ s
put_none s = ap (λ (u : List (List ℕ)). record s { ends = record s.ends { unsent = u } }) (append_nil s.ends.unsent)

many_behind : (s : Standing) (ts : List (List ℕ)) → 0 < s.ends.limit → drained (with_tsdus s ts) ≡ then_all ts (drained s)
many_behind s [] room = grind (arith, put_none, append_nil)
many_behind s (t ∷ ts) room = grind (arith, put_first, one_behind, append_assoc, many_behind (with_tsdu s t) ts room)

pub many_at_once : (s : Standing) (ts : List (List ℕ)) → 0 < s.ends.limit → next s ≡ None →
    drained (with_tsdus s ts) ≡ record { units = given_one_by_one s ts; link = one_by_one s ts }
many_at_once s ts room quiet = many_behind s ts room ∙ ap (then_all ts) (drained_none s quiet)

-- the calls of send_tsdu that put them there
pub many_moves : (s : Standing) (ts : List (List ℕ)) → MovesAlong s (map hand_in ts) (with_tsdus s ts)
many_moves s [] = put_none s
many_moves s (t ∷ ts) = grind (arith, put_first, many_moves (with_tsdu s t) ts)
