-- A function that stores what another one lends of a slot: the octets stored are those lent, and the slot keeps what it holds.
-- For the proofs by hand of `osi_outgoing`, `osi_trace_lines` and `osi_judge_text`, each of which is an instance of this.
use Rattle.std.proofs.Common.{◌≡◌, ℕ, List, [], ◌∷◌, refl}
use Rattle.std.proofs.raw_atomic.Walks.{proved}
use seplogic.Ra.Ura.{Ura}
use mir.Syntax.{Fn, Callee, Ty, Lifetime, named, erased, mut, imm, ty_unit, ty_int, w8, ty_ref, ty_named, tnil, local, value_local, place}
use mir.Syntax.{deref, copy, opd_unit, rv_opd, addr_of, call, assign, seq, return}
use mir.Val.{Val, vunit}
use base.Fraction.{full_share}
use base.Logic.{sep, emp, id⊢}
use base.Fml.{Fml, ftrue, fsep, flft}
use mathlib.Core.Option.{none}
use prog.Model.{Model}
use types.Logic.{Logic, sem}
use types.Kit.{‵, raw, ◌⊛◌, some, later, ◌$◌, ◌∵◌, !, qed, move, keep, drop, use1, use2, split, join, pick, await, fsplit, fsplit3, feq_i}
use types.Kit.{feq_l, rewrite, suffices, frame, group, done}
use types.Run.{stop, addr, of_opd, unit_lit, no_more, and_then, store_raw, assigns, returns, enter}
use types.ByLocal.{alloc_all, pass_all, free_all, look_at, get, through, sets, lands_as}
use contract.Monad.{fact}
use contract.Running.{Running, tables}
use denote.Builtin.{u8, unit, RefMutOf, SliceRefOf}
use denote.Exit.{yes, no}
use denote.Follow.{follows_so}
use denote.Laws.{Is, shows}
use denote.Memory.{cell_at, lone}
use denote.RattleType.{RattleType}
use denote.Ref.{Bor, MutBor, MutRef, mut_vals, mut_Tells}
use denote.Signature.{Slot, plain, mut_ref_to}
use denote.Slice.{slice_ty, shr_slice_Lawful}
use denote.Steps.{nothing, opens, closes, peeks, heard}
use denote.Triple.Call.{calls_at}
use denote.Triple.Clauses.{Ended, Clauses, closing, lasts}
use denote.Triple.Spec.{Meets, triple_of}
use denote.Triple.Table.{framed}
use denote.Triple.Walked.{says, Stays, stay_dropped, stay_ref, walk_of, ends_at, Goes-spent_ref, Goes-ref}
use Rattle.std.specs.Prelude.{⊤}
use Rattle.std.specs.declared.option.Option.{Option}
use Rattle.osi_c.proofs.a_handle_is_a_box.{Does}
use Rattle.osi_c.proofs.a_slot_holds_a_box.{SlotKind, S}

-- the MIR type of a reference to octets
abbrev octets_in : Lifetime → Ty
octets_in ℓ = slice_ty (ty_ref ℓ imm (ty_int w8))

-- what the second parameter refers to: octets that are lent as long as the slot is
abbrev Octets : Slot 2
Octets = SliceRefOf (0 ∷ []) tt (plain (λ _. u8)) (λ _. tt)

module _ (K : SlotKind) (octets_of : Option K.held.Denot → List ℕ) where
  -- once the loan is over, the slot after s holds what it held before
  abbrev Keeps : MutBor K.slot.D → Fml
  Keeps s = follows_so (S K) (S K) s.ghost_name none (λ _ _. ⊤) (λ last. K.value (K.inner last) ≡ K.value (K.inner s.now))

  -- the contract of the function that lends the octets
  abbrev lends_ended : Ended
  lends_ended = record {
    signature = record {
      lifetimes = 1;
      outlives = [];
      params = RefMutOf (0 ∷ []) tt (plain (λ _. S K)) (λ _. tt) ∷ [];
      result = SliceRefOf (0 ∷ []) tt (plain (λ _. u8)) (λ _. tt);
    };
    kept = (no, tt);
  }

  abbrev lends_says : {M : Type 1} {𝓤 : Ura M} (𝓛 : Logic 𝓤) → Clauses 𝓤 lends_ended
  lends_says {𝓤 = 𝓤} 𝓛 κs a = record {
    ghost = Unit {0};
    requires = λ _. emp 𝓤;
    ensures = λ _ r _. sep 𝓤 (sem 𝓛 (Keeps a.0)) (fact 𝓤 (r.now ≡ octets_of (K.value (K.inner a.0.now))));
  }

  -- the code of the function that stores what g lends
  abbrev stores_code : Callee → Fn
  stores_code g = record {
    lifetimes = 2;
    outlives = (0, 1) ∷ [];
    ty_params = [];
    givens = 0;
    params = 2;
    locals = local ty_unit value_local ∷ local (ty_ref (named 0) mut (ty_named (K.slot.name, []) tnil)) value_local
        ∷ local (ty_ref (named 1) mut (octets_in (named 0))) value_local ∷ local (octets_in erased) value_local
        ∷ local (ty_ref erased mut (ty_named (K.slot.name, []) tnil)) value_local ∷ [];
    body = seq (assign (place 4 []) (addr_of (place 1 (deref (lone (S K).mir) ∷ [])))) (seq
        (call g (copy (place 4 []) ∷ []) (place 3 [])) (seq
        (assign (place 2 (deref (octets_in erased) ∷ [])) (rv_opd (copy (place 3 [])))) (seq
        (assign (place 0 []) (rv_opd opd_unit)) return)));
  }

  -- its contract
  abbrev stores_ended : Ended
  stores_ended = record {
    signature = record {
      lifetimes = 2;
      outlives = record { long = 0; long_ok = tt; short = named 1; short_ok = tt } ∷ [];
      params = RefMutOf (0 ∷ []) tt (plain (λ _. S K)) (λ _. tt) ∷ RefMutOf (1 ∷ []) tt Octets (λ _. tt) ∷ [];
      result = plain (λ _. unit);
    };
    kept = (no, (yes, tt));
  }

  abbrev stores_stayed : Stays stores_ended.signature.params stores_ended.kept
  stores_stayed = (stay_dropped (mut_ref_to (0 ∷ []) tt (plain (λ _. S K))) no, (stay_ref (1 ∷ []) tt Octets, tt))

  abbrev stores_says : {M : Type 1} {𝓤 : Ura M} (𝓛 : Logic 𝓤) → Clauses 𝓤 stores_ended
  stores_says {𝓤 = 𝓤} 𝓛 κs a = record {
    ghost = Unit {0};
    requires = λ _. emp 𝓤;
    ensures = λ _ _ e. sep 𝓤 (sem 𝓛 (Keeps a.0)) (fact 𝓤 (e.1.0.now.now ≡ octets_of (K.value (K.inner a.0.now))));
  }

  pub stores : {M : Type 1} {𝓤 : Ura M} (𝓛 : Logic 𝓤) (𝓜 : Model 𝓤 𝓛.H) (𝓡 : Running 𝓤 𝓛.H 𝓜) (g k : Callee)
      → Meets 𝓛 lends_ended.signature (𝓡.run (𝓡.env g)) (closing 𝓛 lends_ended (lends_says 𝓛))
      → Does 𝓛 𝓜 𝓡 k (stores_code g) stores_ended (stores_says 𝓛)
  stores {𝓤 = 𝓤} 𝓛 𝓜 𝓡 g k lends closed =
      let c = stores_says 𝓛 in let 𝓣 = tables 𝓤 𝓛.H 𝓜 𝓡 𝓡.env in
      proved 𝓛 stores_ended stores_stayed c 𝓜 𝓡
      (Goes-spent_ref 𝓛 2 (0 ∷ []) tt (plain (λ _. S K)), (Goes-ref 𝓛 2 1 tt Octets, tt)) k (stores_code g) closed
      (λ κs. (mut_vals, (mut_vals, tt))) (λ κs. (mut_Tells (named 0) κs.0 (S K), (mut_Tells (named 1) κs.1.0 (Octets.row κs), tt)))
      (λ κs qs bounds a _ are.
      let κ = κs.0 in let q = qs.0 in let V : RattleType = Octets.row κs in
      let to = a.1.0 in let b = to.ref_ptr.0 in let o = to.ref_ptr.1 in
      let y : (walk_of 𝓛 stores_ended stores_stayed c).Ghost = ((κs, qs, bounds, a, (mut_vals a.0, (mut_vals to, tt))), tt) in
      qed 𝓛 (((‵ (flft κ q) ⊛ ‵ (flft κs.1.0 qs.1.0) ⊛ ‵ ftrue) ⊛ ‵
      (fsep ((MutRef (named 0) κ (S K)).own_val a.0 (mut_vals a.0)) (fsep ((MutRef (named 1) κs.1.0 V).own_val to (mut_vals to)) ftrue)))
      ∷ raw (emp 𝓤) ∷ []) ∵
      split ! $ split ! $ move ! (1 ∷ []) $ split ! $ move ! (3 ∷ []) $ fsplit ! $ move ! (1 ∷ []) $ fsplit ! $
      keep ! (2 ∷ 5 ∷ 0 ∷ 3 ∷ []) $
      -- [the slot; the token of its lifetime; the place; the token of that]
      enter ! _ _ _ _ _ $ alloc_all ! (λ l. pass_all ! refl ((tt, tt), ((tt, tt), tt)) $
      sets ! (addr ! (through ! refl (stop !))) refl (tt, tt) $
      let G = triple_of 𝓛 lends_ended.signature (closing 𝓛 lends_ended (lends_says 𝓛)) in
      let z : G.Ghost = (((κ, tt), (q, tt), tt, (a.0, tt), (mut_vals a.0, tt)), tt) in
      nothing ! $ move ! (1 ∷ 0 ∷ []) $ join ! $ nothing ! $ move ! (2 ∷ 0 ∷ []) $ join ! $ join ! $
      nothing ! $ move ! (1 ∷ 0 ∷ []) $ use2 𝓛 (raw (G.pre z)) (id⊢ 𝓤 _) $
      calls_at ! (framed 𝓤 𝓛.H 𝓜 𝓣) G lends z (and_then ! (get ! refl) (no_more !))
      (λ v. use1 𝓛 (later (some (λ (r : Bor (List ℕ)). ((‵ (flft κ q) ⊛ ‵ ftrue) ⊛ ‵ (V.own_val r (v ∷ []))) ⊛
      some (λ (ws : Unit {0} × Unit {0}). ‵ (lasts lends_ended z.0.0 z.0.3 ws) ⊛
      (‵ (Keeps a.0) ⊛ raw (fact 𝓤 (r.now ≡ octets_of (K.value (K.inner a.0.now))))))))) (id⊢ 𝓤 _) $
      await ! tt $ pick ! (λ r. split ! $ split ! $ split ! $ move ! (3 ∷ []) $
      pick ! (λ ws. split ! $ drop ! $ split ! $ move ! (1 ∷ []) $ heard ! _ (λ same.
      -- [the slot is kept; the token; nothing; what is lent; the place; its token]
      move ! (3 ∷ []) $ peeks ! V (Is V) (shows 𝓛 V) r (v ∷ [])
      (λ p. let typed = ((shr_slice_Lawful 𝓛 (named 0) κ u8).typed r (v ∷ []) p).0 in
      lands_as ! refl refl typed $
      move ! (4 ∷ 5 ∷ []) $ fsplit3 ! $ move ! (1 ∷ 2 ∷ 3 ∷ []) $
      opens ! tt V b o (λ us. move ! (1 ∷ []) $ fsplit ! $ fsplit ! $ feq_l ! (λ e. drop ! $ drop ! $
      rewrite ! 0 (λ (ws : List Val). ‵ (cell_at full_share V.mir ws b o)) e refl $
      assigns ! (of_opd ! (get ! refl)) (through ! refl (stop !)) (store_raw ! 0 refl typed) $
      sets ! (of_opd ! (unit_lit !)) refl (tt, tt) $
      -- [the cell; the open borrow, in three entries; the first part of the place; what is lent; the slot is kept; the token]
      move ! (0 ∷ 5 ∷ []) $ closes ! tt V r (v ∷ []) b o $
      returns ! (look_at ! 0 refl) $ free_all ! refl $ keep ! (3 ∷ 0 ∷ 1 ∷ 2 ∷ 5 ∷ 4 ∷ []) $
      suffices ! _ (ends_at 𝓛 stores_ended stores_stayed c y vunit tt (tt, (r, tt)) (tt, (tt, tt))) $
      group ! 3 $ nothing ! $ move ! (1 ∷ 0 ∷ []) $ join ! $ nothing ! $ join ! $ feq_i ! _ (vunit ∷ []) _ refl $
      move ! (1 ∷ 0 ∷ []) $ join ! $ nothing ! $ move ! (2 ∷ 0 ∷ []) $ join ! $ move ! (2 ∷ 0 ∷ []) $ join ! $ join ! $ frame ! $
      says ! same $ done !)))))))))
