-- `osi_last` describes the contents that are lent.
use Rattle.std.proofs.Common.{◌≡◌, [], ◌∷◌, refl, ap, subst}
use Rattle.std.proofs.raw_atomic.Walks.{proved}
use mir.Syntax.{named}
use mir.Val.{vunit}
use base.Logic.{emp, id⊢}
use base.Fml.{Lft, ftrue, fsep, flft}
use types.Kit.{‵, raw, ◌⊛◌, some, later, ◌$◌, ◌∵◌, !, qed, move, keep, drop, use1, use2, split, join, pick, await, fsplit, fjoin, feq_i}
use types.Kit.{feq_l, suffices, frame, done}
use types.Run.{stop, addr, of_opd, unit_lit, no_more, and_then, returns, enter}
use types.ByLocal.{alloc_all, pass_all, free_all, look_at, get, through, sets, lands_as}
use contract.Monad.{fact}
use contract.Running.{tables}
use denote.Builtin.{unit}
use denote.Exit.{no}
use denote.Laws.{Is, shows}
use denote.RattleType.{RattleType}
use denote.Param.Laws.{Laws, of_field}
use denote.Param.Shared.{copy_shared}
use denote.Ref.{NamedLft, MutRef, ShrRef, mut_vals, mut_Tells}
use denote.Struct.Field.{shr_ref_field}
use denote.Struct.Laws.{shr_ref_laws, shr_ref_copy}
use Rattle.core.proofs.option.Option.TheLaws.{the_row_laws as option_laws}
use denote.Signature.{Slot, plain, mut_ref_to, named_lft}
use denote.Steps.{nothing, only, peeks, heard}
use denote.Triple.Call.{calls_at}
use denote.Triple.Clauses.{Lasts, lasts}
use denote.Triple.Spec.{triple_of}
use denote.Triple.Table.{framed}
use denote.Triple.Walked.{says, Stays, stay_dropped, gave_ref, walk_of, ends_at, Goes-spent_ref, Goes-gave_ref}
use Rattle.osi_c.specs.Ends.{told}
use Rattle.osi_c.specs.Told.{Tells}
use Rattle.std.specs.Prelude.{Option, option_map}
use Rattle.osi_c.specs.Lent.{KeepsSlot}
use Rattle.osi_c.specs.declared.handles.Contents.{Contents}
use Rattle.osi_c.specs.contracts.handles.Contents.{the_row as R}
use Rattle.osi_c.proofs.handles.Contents.TheLaws as contents_laws
use Rattle.osi_c.specs.contracts.telling.OsiIndication as shown_type
use Rattle.osi_c.specs.contracts.slots.OsiEnd.{the_row as S}
use Rattle.osi_c.specs.contracts.slots.OsiEnd.get as g
use Rattle.osi_c.proofs.slots.OsiEnd.get.Met.{met as get_met}
use Rattle.osi_c.specs.contracts.indications.show as h
use Rattle.osi_c.proofs.indications.show.Met.{met as show_met}
use Rattle.osi_c.specs.contracts.indications.osi_last as f
use Rattle.osi_c.proofs.indications.osi_last.Statement.{statement}
use Rattle.osi_c.proofs.indications.osi_last.Code as code

abbrev Shown : Slot 2
Shown = plain (λ κs. shown_type.the_row (named_lft 2 0 tt κs))

-- a `&` to the contents
abbrev Lent : Lft → RattleType
Lent κ = ShrRef (named 0) κ R

lent_laws : (κ : Lft) → Laws (Lent κ)
lent_laws κ =
    let a : NamedLft = record { mir = named 0; lft = κ } in let F = shr_ref_field a R tt in
    of_field F (shr_ref_laws a R tt) refl (copy_shared F (shr_ref_copy a R tt contents_laws.the_row_laws.shr_laws))

abbrev stayed : Stays f.ended.signature.params f.ended.kept
stayed = (stay_dropped (mut_ref_to (0 ∷ []) tt (plain (λ _. S))) no, (gave_ref (1 ∷ []) tt Shown, tt))

pub osi_last_spec : {M : Type 1} → statement M
osi_last_spec 𝓤 𝓛 𝓜 𝓡 wired =
    let c = f.clauses 𝓛 𝓜.mem 𝓡.returns in let 𝓣 = tables 𝓤 𝓛.H 𝓜 𝓡 𝓡.env in
    proved 𝓛 f.ended stayed c 𝓜 𝓡
    (Goes-spent_ref 𝓛 2 (0 ∷ []) tt (plain (λ _. S)), (Goes-gave_ref 𝓛 2 1 tt Shown, tt)) f.Key.name code.function
    (code.unfolded 𝓤 𝓛.H 𝓜 𝓡 wired)
    (λ κs. (mut_vals, (mut_vals, tt))) (λ κs. (mut_Tells (named 0) κs.0 S, (mut_Tells (named 1) κs.1.0 (Shown.row κs), tt)))
    (λ κs qs bounds a _ are.
    let κ = κs.0 in let q = qs.0 in let μ = κs.1.0 in let m = qs.1.0 in let to = a.1.0 in
    let y : (walk_of 𝓛 f.ended stayed c).Ghost = ((κs, qs, bounds, a, (mut_vals a.0, (mut_vals to, tt))), tt) in
    qed 𝓛 (((‵ (flft κ q) ⊛ ‵ (flft μ m) ⊛ ‵ ftrue) ⊛ ‵
    (fsep ((MutRef (named 0) κ S).own_val a.0 (mut_vals a.0))
    (fsep ((MutRef (named 1) μ (Shown.row κs)).own_val to (mut_vals to)) ftrue))) ∷ raw (emp 𝓤) ∷ []) ∵
    split ! $ split ! $ move ! (1 ∷ []) $ split ! $ move ! (3 ∷ []) $ fsplit ! $ move ! (1 ∷ []) $ fsplit ! $ keep ! (2 ∷ 5 ∷ 0 ∷ 3 ∷ []) $
    -- [the slot; the token of its lifetime; the place; the token of that]
    enter ! _ _ _ _ _ $ alloc_all ! (λ l. pass_all ! refl ((tt, tt), ((tt, tt), tt)) $
    sets ! (addr ! (through ! refl (stop !))) refl (tt, tt) $
    let G = triple_of 𝓛 g.signature (g.spec 𝓛 𝓜.mem 𝓡.returns) in
    let z : G.Ghost = (((κ, tt), (q, tt), tt, (a.0, tt), (mut_vals a.0, tt)), tt) in
    nothing ! $ move ! (1 ∷ 0 ∷ []) $ join ! $ nothing ! $ move ! (2 ∷ 0 ∷ []) $ join ! $ join ! $
    nothing ! $ move ! (1 ∷ 0 ∷ []) $ use2 𝓛 (raw (G.pre z)) (id⊢ 𝓤 _) $
    calls_at ! (framed 𝓤 𝓛.H 𝓜 𝓣) G (get_met 𝓤 𝓛 𝓜 𝓡 (code.calls-osi_c::slots::OsiEnd::get 𝓡.env wired)) z
    (and_then ! (get ! refl) (no_more !)) (λ v.
    let V : RattleType = g.signature.result.row (κ, tt) in
    use1 𝓛 (later (some (λ (r : V.Denot). ((‵ (flft κ q) ⊛ ‵ ftrue) ⊛ ‵ (V.own_val r (v ∷ []))) ⊛
    some (λ (ws : Lasts g.ended (κ, tt) (a.0, tt)). ‵ (lasts g.ended (κ, tt) (a.0, tt) ws) ⊛
    (‵ (KeepsSlot a.0) ⊛ raw (fact 𝓤 (option_map (λ c. c.now) r ≡ a.0.now.inner.value))))))) (id⊢ 𝓤 _) $
    await ! tt $ pick ! (λ r. split ! $ split ! $ split ! $ move ! (3 ∷ []) $
    pick ! (λ ws. split ! $ drop ! $ split ! $ move ! (1 ∷ []) $ heard ! _ (λ same.
    -- [the slot is kept; the token; nothing; what is lent; the place; its token]
    move ! (3 ∷ []) $ peeks ! V (Is V) (shows 𝓛 V) r (v ∷ []) (λ p.
    lands_as ! refl refl (((option_laws (Lent κ) (lent_laws κ)).lawful 𝓛).typed r (v ∷ []) p).0 $
    sets ! (addr ! (through ! refl (stop !))) refl (tt, tt) $
    let F = triple_of 𝓛 h.signature (h.spec 𝓛 𝓜.mem 𝓡.returns) in
    let x : F.Ghost = ((κs, qs, bounds, (r, (to, tt)), (v ∷ [], (mut_vals to, tt))), tt) in
    -- [what is lent; the slot is kept; the token; nothing; the place; its token]
    move ! (0 ∷ 4 ∷ 3 ∷ []) $ move ! (1 ∷ 2 ∷ []) $ fjoin ! $ move ! (1 ∷ 0 ∷ []) $ fjoin ! $
    -- [what is passed; the slot is kept; the token; its token]
    nothing ! $ move ! (4 ∷ 0 ∷ []) $ join ! $ move ! (3 ∷ 0 ∷ []) $ join ! $ move ! (0 ∷ 1 ∷ []) $ join ! $
    nothing ! $ move ! (1 ∷ 0 ∷ []) $ use2 𝓛 (raw (F.pre x)) (id⊢ 𝓤 _) $
    calls_at ! (framed 𝓤 𝓛.H 𝓜 𝓣) F (show_met 𝓤 𝓛 𝓜 𝓡 (code.calls-osi_c::indications::show 𝓡.env wired)) x
    (and_then ! (get ! refl) (and_then ! (get ! refl) (no_more !))) (λ u.
    use1 𝓛 (later (some (λ (d : Unit {0}). ((‵ (flft κ q) ⊛ ‵ (flft μ m) ⊛ ‵ ftrue) ⊛ ‵ (unit.own_val d (u ∷ []))) ⊛
    some (λ (ws' : Lasts h.ended κs (r, (to, tt))). ‵ (lasts h.ended κs (r, (to, tt)) ws') ⊛ raw
    (fact 𝓤 (Tells ws'.1.0 (told (option_map (λ c. c.now) r)))))))) (id⊢ 𝓤 _) $
    await ! tt $ pick ! (λ d. split ! $ split ! $ move ! (1 ∷ []) $
    feq_l ! (λ is_unit. move ! (1 ∷ []) $ pick ! (λ ws'. split ! $ move ! (1 ∷ []) $ heard ! _ (λ tells.
    lands_as ! (ap only is_unit) refl (tt, tt) $ sets ! (of_opd ! (unit_lit !)) refl (tt, tt) $
    returns ! (look_at ! 0 refl) $ free_all ! refl $
    -- [what is left of the place; the tokens; the slot is kept]
    keep ! (0 ∷ 1 ∷ 2 ∷ []) $
    suffices ! _ (ends_at 𝓛 f.ended stayed c y vunit tt (tt, (ws'.1.0, tt)) (tt, (tt, tt))) $
    feq_i ! _ (vunit ∷ []) _ refl $ move ! (1 ∷ 0 ∷ []) $ join ! $ move ! (1 ∷ 0 ∷ []) $ join ! $ frame ! $
    says ! (subst (λ (o : Option Contents). Tells ws'.1.0 (told o)) same tells) $ done !))))))))))))
