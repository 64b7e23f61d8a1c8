-- What `empty`, `of_loose`, `into_loose` and `discard` of a handle do, whatever is in the box: each moves a pointer, and what it owns.
-- For the proofs by hand of the three handles, each of which is an instance of this.
use Rattle.std.proofs.Common.{◌≡◌, ℕ, List, [], ◌∷◌, ◌++◌, refl, sym, ap, ◌∙◌, subst, lit<}
use Rattle.std.proofs.raw_atomic.Walks.{proved, proved_at}
use seplogic.Ra.Ura.{Ura}
use mir.Syntax.{Fn, Callee, Body, Local, w64, ty_ptr, ty_unit, local, value_local, place, field, copy, int, opd_unit, rv_opd}
use mir.Syntax.{aggregate, assign, seq, return}
use mir.Raw.{raw as bare}
use mir.Val.{Val, vunit}
use base.Logic.{SProp, ent, emp, id⊢}
use base.Fml.{ftrue, fsep}
use base.Fraction.{full_share}
use prog.Model.{Model}
use prog.Wp.{WpFn, Closed}
use types.Logic.{Logic}
use types.Kit.{‵, raw, ◌⊛◌, ◌$◌, ◌∵◌, !, qed, move, keep, drop, use1, join, split, fsplit, fjoin, feq_i, rewrite, suffices, group, done}
use types.Part.{whole, sub, agg}
use types.Run.{stop, fld, lit, unit_lit, no_more, and_then, of_opd, returns, enter}
use types.ByLocal.{alloc_all, pass_all, free_all, look_at, get, get_in, sets}
use contract.Monad.{fact}
use contract.Running.{Running, tables}
use denote.Builtin.{unit}
use denote.Exit.{yes}
use denote.Memory.{lone, part_at}
use denote.RattleType.{RattleType}
use denote.RawPtr.{Ptr, block_ptr, null_ptr, in_a_block}
use denote.Signature.{Signature, Slot, plain}
use denote.Steps.{nothing, heard}
use denote.Triple.Clauses.{Ended, Clauses, closing}
use denote.Triple.Spec.{Meets}
use denote.Triple.Walked.{says, Stays, stay_dropped, walk_of, ends_at, Goes-dropped}
use Rattle.std.specs.Prelude.{IsSome, IsNone}
use Rattle.std.specs.declared.option.Option.{Option}
use Rattle.std.specs.declared.option.Option.TheVariants.{None, Some}
use Rattle.std.specs.contracts.alloc.Global as heap
use Rattle.std.specs.contracts.impls.GlobalAllocator.TheImpl.{ghosts}
use Rattle.core.proofs.alloc.Calls.{token, handle_tells}
use Rattle.std_alloc.specs.Box.Ownership.{box_owns}
use Rattle.std_alloc.proofs.BoxSteps.Form.{D, B, τ, word, box_typed}
use Rattle.std_alloc.proofs.BoxSteps.Steps.{box_out, box_in}
use Rattle.osi_c.specs.Owned.{block, may_own}
use Rattle.osi_c.specs.contracts.handles.loose.Loose as loose
use Rattle.osi_c.proofs.a_slot_holds_a_box.{SlotKind, R, E, H, at_word, handle_typed, handle_out, handle_in, the_some, never_null}

-- code with no lifetimes, which takes n arguments
abbrev coded : ℕ → List Local → Body → Fn
coded n locals body =
    record { lifetimes = 0; outlives = []; ty_params = []; givens = 0; params = n; locals = locals; body = body }

abbrev signed : List (Slot 0) → Slot 0 → Signature
signed params result = record { lifetimes = 0; outlives = []; params = params; result = result }

-- a function that runs this code meets these clauses
abbrev pub Does : {M : Type 1} {𝓤 : Ura M} (𝓛 : Logic 𝓤) (𝓜 : Model 𝓤 𝓛.H) → Running 𝓤 𝓛.H 𝓜 → Callee → Fn
    → (T : Ended) → Clauses 𝓤 T → Type 2
Does {𝓤 = 𝓤} 𝓛 𝓜 𝓡 k fn T c =
    let 𝓣 = tables 𝓤 𝓛.H 𝓜 𝓡 𝓡.env in Closed 𝓤 𝓛.H 𝓣.C 𝓣.Λ k fn → Meets 𝓛 T.signature (𝓣.C k) (closing 𝓛 T c)

-- code runs from the machine values us as it does from the equal ws
runs_as : {M : Type 1} (𝓤 : Ura M) (Run : List Val → SProp 𝓤) {us ws : List Val} → us ≡ ws → ent 𝓤 (Run ws) (Run us)
runs_as 𝓤 Run {us} {ws} e = subst (λ (vs : List Val). ent 𝓤 (Run ws) (Run vs)) (sym e) (id⊢ 𝓤 (Run ws))

module _ (K : SlotKind) where
  abbrev handle : Slot 0
  handle = plain (λ _. H K)

  abbrev global : Slot 0
  global = plain (λ _. heap.the_row)

  abbrev From : RattleType
  From = loose.the_row (R K) heap.the_row ghosts

  abbrev loosened : Slot 0
  loosened = plain (λ _. From)

  abbrev a_handle : Local
  a_handle = local (lone (H K).mir) value_local

  abbrev a_loosened : Local
  a_loosened = local (lone From.mir) value_local

  abbrev a_pointer : Local
  a_pointer = local ty_ptr value_local

  abbrev empty_code : Fn
  empty_code = coded 0 (a_handle ∷ []) (seq (assign (place 0 []) (aggregate (int w64 0 ∷ []))) return)

  abbrev empty_ended : Ended
  empty_ended = record { signature = signed [] handle; kept = tt }

  abbrev empty_says : {M : Type 1} (𝓤 : Ura M) → Clauses 𝓤 empty_ended
  empty_says 𝓤 κs a = record { ghost = Unit {0}; requires = λ _. emp 𝓤; ensures = λ _ r _. fact 𝓤 (K.value r ≡ None) }

  abbrev of_loose_code : Fn
  of_loose_code = coded 1 (a_handle ∷ a_loosened ∷ a_pointer ∷ []) (seq
      (assign (place 2 []) (rv_opd (copy (place 1 (field 0 ∷ []))))) (seq
      (assign (place 0 []) (aggregate (copy (place 2 []) ∷ []))) return))

  abbrev of_loose_ended : Ended
  of_loose_ended = record { signature = signed (loosened ∷ []) handle; kept = (yes, tt) }

  abbrev of_loose_stayed : Stays of_loose_ended.signature.params of_loose_ended.kept
  of_loose_stayed = (stay_dropped loosened yes, tt)

  abbrev of_loose_says : {M : Type 1} (𝓤 : Ura M) → Clauses 𝓤 of_loose_ended
  of_loose_says 𝓤 κs a = record { ghost = Unit {0}; requires = λ _. emp 𝓤; ensures = λ _ r _. fact 𝓤 (K.value r ≡ Some a.0.value) }

  abbrev into_loose_code : Fn
  into_loose_code = coded 2 (a_loosened ∷ a_handle ∷ local (lone heap.the_row.mir) value_local ∷ a_pointer ∷ []) (seq
      (assign (place 3 []) (rv_opd (copy (place 1 (field 0 ∷ []))))) (seq
      (assign (place 0 []) (aggregate (copy (place 3 []) ∷ copy (place 2 []) ∷ []))) return))

  abbrev into_loose_ended : Ended
  into_loose_ended = record { signature = signed (handle ∷ global ∷ []) loosened; kept = (yes, (yes, tt)) }

  abbrev into_loose_stayed : Stays into_loose_ended.signature.params into_loose_ended.kept
  into_loose_stayed = (stay_dropped handle yes, (stay_dropped global yes, tt))

  abbrev into_loose_says : {M : Type 1} (𝓤 : Ura M) → Clauses 𝓤 into_loose_ended
  into_loose_says 𝓤 κs a = record {
    ghost = Unit {0};
    requires = λ _. fact 𝓤 (IsSome (K.value a.0));
    ensures = λ _ r _. fact 𝓤 (Some r.value ≡ K.value a.0);
  }

  abbrev discard_code : Fn
  discard_code = coded 1 (local ty_unit value_local ∷ a_handle ∷ []) (seq (assign (place 0 []) (rv_opd opd_unit)) return)

  abbrev discard_ended : Ended
  discard_ended = record { signature = signed (handle ∷ []) (plain (λ _. unit)); kept = (yes, tt) }

  abbrev discard_stayed : Stays discard_ended.signature.params discard_ended.kept
  discard_stayed = (stay_dropped handle yes, tt)

  abbrev discard_says : {M : Type 1} (𝓤 : Ura M) → Clauses 𝓤 discard_ended
  discard_says 𝓤 κs a = record { ghost = Unit {0}; requires = λ _. fact 𝓤 (IsNone (K.value a.0)); ensures = λ _ _ _. emp 𝓤 }

  module _ {M : Type 1} {𝓤 : Ura M} (𝓛 : Logic 𝓤) (𝓜 : Model 𝓤 𝓛.H) (𝓡 : Running 𝓤 𝓛.H 𝓜) (k : Callee) where
    pub empty : Does 𝓛 𝓜 𝓡 k empty_code empty_ended (empty_says 𝓤)
    empty closed =
        let c = empty_says 𝓤 in
        proved 𝓛 empty_ended tt c 𝓜 𝓡 tt k empty_code closed (λ κs. tt) (λ κs. tt) (λ κs qs bounds a g are.
        qed 𝓛 ((‵ ftrue ⊛ ‵ ftrue) ∷ raw (emp 𝓤) ∷ []) ∵ drop ! $ drop ! $
        enter ! _ _ _ _ _ $ alloc_all ! (λ l. pass_all ! refl tt $
        sets ! (agg ! (and_then ! (lit ! tt) (no_more !))) refl (tt, (record { fits = lit< tt }, tt)) $
        returns ! (look_at ! 0 refl) $ free_all ! refl $
        nothing ! $ handle_in K ! null_ptr None $
        suffices ! _ (ends_at 𝓛 empty_ended tt c ((κs, qs, bounds, a, tt), g) (at_word null_ptr) (K.made null_ptr None) tt tt) $
        says ! (K.made_value null_ptr None) $ nothing ! $ join ! $ nothing ! $ join ! $ done !))

    pub of_loose : Does 𝓛 𝓜 𝓡 k of_loose_code of_loose_ended (of_loose_says 𝓤)
    of_loose closed =
        let c = of_loose_says 𝓤 in let 𝓣 = tables 𝓤 𝓛.H 𝓜 𝓡 𝓡.env in
        proved_at 𝓛 of_loose_ended of_loose_stayed c 𝓜 𝓡 (Goes-dropped 𝓛 0 loosened yes (λ κs x w. refl), tt) k of_loose_code closed
        (λ z are.
        let Post : Val → SProp 𝓤 = (walk_of 𝓛 of_loose_ended of_loose_stayed c).post z in
        let Run : List Val → SProp 𝓤 = λ ws. WpFn 𝓤 𝓛.H 𝓣.C 𝓣.Λ of_loose_code ws Post in
        let x = z.0.3.0.value in let d : D (E K) = record { ptr = z.0.3.0.at; alloc = z.0.3.0.alloc; value = x } in
        qed 𝓛 ((‵ ftrue ⊛ ‵ (fsep ((B (E K)).own_val d z.0.4.0) ftrue)) ∷ raw (emp 𝓤) ∷ []) ∵ split ! $ drop ! $ fsplit ! $
        box_out (E K) ! d z.0.4.0 (λ b o hv e ws fa.
        fjoin ! $ use1 𝓛 (‵ (box_owns block (R K) (block_ptr b o) x)) (id⊢ 𝓤 _) $ keep ! (0 ∷ []) $
        let w = word (E K) hv b o in
        suffices ! (Run (w ∷ [])) (runs_as 𝓤 Run (λ i. ws i ++ [])) $
        enter ! 𝓣.C 𝓣.Λ of_loose_code (w ∷ []) Post $ alloc_all ! (λ l. pass_all ! refl (box_typed (E K) hv b o fa, tt) $
        sets ! (of_opd ! (get_in ! (fld ! refl (stop !)) (sub ! 0 refl (whole !)))) refl (tt, tt) $
        sets ! (agg ! (and_then ! (get ! refl) (no_more !))) refl (tt, (tt, tt)) $
        returns ! (look_at ! 0 refl) $ free_all ! refl $
        handle_in K ! (block_ptr b o) (Some x) $
        suffices ! _ (ends_at 𝓛 of_loose_ended of_loose_stayed c z (at_word (block_ptr b o)) (K.made (block_ptr b o) (Some x)) (tt, tt)
        (tt, tt)) $ says ! (K.made_value (block_ptr b o) (Some x)) $
        nothing ! $ nothing ! $ fjoin ! $ join ! $ nothing ! $ join ! $ done !)))

    pub into_loose : Does 𝓛 𝓜 𝓡 k into_loose_code into_loose_ended (into_loose_says 𝓤)
    into_loose closed =
        let c = into_loose_says 𝓤 in let 𝓣 = tables 𝓤 𝓛.H 𝓜 𝓡 𝓡.env in
        proved_at 𝓛 into_loose_ended into_loose_stayed c 𝓜 𝓡
        (Goes-dropped 𝓛 0 handle yes (λ κs x w. refl), (Goes-dropped 𝓛 0 global yes (λ κs x w. refl), tt)) k into_loose_code closed
        (λ z are.
        let Post : Val → SProp 𝓤 = (walk_of 𝓛 into_loose_ended into_loose_stayed c).post z in
        let Run : List Val → SProp 𝓤 = λ ws. WpFn 𝓤 𝓛.H 𝓣.C 𝓣.Λ into_loose_code ws Post in
        let h = z.0.3.0 in let a = z.0.3.1.0 in let vs = z.0.4.0 in let us = z.0.4.1.0 in
        qed 𝓛 ((‵ ftrue ⊛ ‵ (fsep ((H K).own_val h vs) (fsep (heap.the_row.own_val a us) ftrue))) ∷ raw (fact 𝓤 (IsSome (K.value h)))
        ∷ []) ∵
        move ! (1 ∷ []) $ heard ! (IsSome (K.value h)) (λ full. let some = the_some (K.value h) full in let x = some.0 in
        split ! $ drop ! $ fsplit ! $ handle_out K ! h vs (λ eh.
        rewrite ! 0 (λ (m : Option K.held.Denot). ‵ (may_own (R K) (K.at h) m)) some.1 refl $
        in_a_block ! (K.at h) (λ p. box_owns block (R K) p x) (never_null K 𝓛 x) (λ b o e.
        move ! (1 ∷ []) $ fsplit ! $ handle_tells (E K).al ! a us (λ hv ea fa.
        let ws : List Val = at_word (block_ptr b o) ∷ hv ∷ [] in
        let ew : vs ≡ at_word (block_ptr b o) ∷ [] = eh ∙ ap (λ (p : Ptr). at_word p ∷ []) e in
        suffices ! (Run ws) (runs_as 𝓤 Run (λ i. ew i ++ (ea i ++ []))) $
        keep ! (0 ∷ 2 ∷ []) $
        enter ! 𝓣.C 𝓣.Λ into_loose_code ws Post $ alloc_all ! (λ l. pass_all ! refl ((tt, (tt, tt)), (fa, tt)) $
        sets ! (of_opd ! (get_in ! (fld ! refl (stop !)) (sub ! 0 refl (whole !)))) refl (tt, tt) $
        sets ! (agg ! (and_then ! (get ! refl) (and_then ! (get ! refl) (no_more !)))) refl (box_typed (E K) hv b o fa) $
        returns ! (look_at ! 0 refl) $ free_all ! refl $
        move ! (1 ∷ []) $
        use1 𝓛 (‵ (fsep (part_at (R K) full_share x b o) (token (E K).al a (bare (τ (E K))) (block_ptr b o)))) (id⊢ 𝓤 _) $ fsplit ! $
        let d : D (E K) = record { ptr = block_ptr b o; alloc = a; value = x } in
        let made : From.Denot = record { at = block_ptr b o; alloc = a; value = x } in let w = word (E K) hv b o in
        box_in (E K) ! d b o x refl refl $ use1 𝓛 (‵ (From.own_val made (w ∷ []))) (id⊢ 𝓤 _) $
        suffices ! _ (ends_at 𝓛 into_loose_ended into_loose_stayed c z w made (tt, (tt, tt)) (tt, (tt, tt))) $ says ! (sym some.1) $
        nothing ! $ nothing ! $ fjoin ! $ nothing ! $ fjoin ! $ join ! $ nothing ! $ join ! $ done !))))))

    pub discard : Does 𝓛 𝓜 𝓡 k discard_code discard_ended (discard_says 𝓤)
    discard closed =
        let c = discard_says 𝓤 in let 𝓣 = tables 𝓤 𝓛.H 𝓜 𝓡 𝓡.env in
        proved_at 𝓛 discard_ended discard_stayed c 𝓜 𝓡 (Goes-dropped 𝓛 0 handle yes (λ κs x w. refl), tt) k discard_code closed (λ z are.
        let Post : Val → SProp 𝓤 = (walk_of 𝓛 discard_ended discard_stayed c).post z in
        let Run : List Val → SProp 𝓤 = λ ws. WpFn 𝓤 𝓛.H 𝓣.C 𝓣.Λ discard_code ws Post in
        let h = z.0.3.0 in let vs = z.0.4.0 in
        qed 𝓛 ((‵ ftrue ⊛ ‵ (fsep ((H K).own_val h vs) ftrue)) ∷ raw (fact 𝓤 (IsNone (K.value h))) ∷ []) ∵
        split ! $ move ! (1 ∷ []) $ fsplit ! $ handle_out K ! h vs (λ eh.
        let ws : List Val = at_word (K.at h) ∷ [] in
        suffices ! (Run ws) (runs_as 𝓤 Run (λ i. eh i ++ [])) $
        drop ! $ drop ! $ drop ! $ drop ! $
        enter ! 𝓣.C 𝓣.Λ discard_code ws Post $ alloc_all ! (λ l. pass_all ! refl (handle_typed K (K.at h), tt) $
        sets ! (of_opd ! (unit_lit !)) refl (tt, tt) $
        returns ! (look_at ! 0 refl) $ free_all ! refl $
        suffices ! _ (ends_at 𝓛 discard_ended discard_stayed c z vunit tt (tt, tt) (tt, tt)) $
        nothing ! $ feq_i ! _ (vunit ∷ []) _ refl $ nothing ! $ nothing ! $ join ! $ nothing ! $ group ! 3 $ done !)))
