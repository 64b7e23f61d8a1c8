-- What `get_mut` of a slot does, whatever is in the box: it lends what the pointer points to, and then the slot holds its last value.
-- For the proofs by hand of the two slots' `get_mut`, each of which is an instance of this.
use Rattle.std.proofs.Common.{◌≡◌, ℕ, List, [], ◌∷◌, refl, sym, ◌∙◌}
use Rattle.std.proofs.raw_atomic.Walks.{proved}
use seplogic.Ra.Ura.{Ura}
use mir.Syntax.{Fn, Callee, named, erased, mut, ty_ptr, ty_ref, ty_named, tnil, local, value_local, place, deref, field, copy, rv_opd}
use mir.Syntax.{addr_of, assign, seq, block as block_of, return}
use mir.Raw.{raw as bare}
use mir.Val.{Val, vptr}
use base.Fraction.{full_share}
use base.Logic.{SProp, ent, sep, id⊢}
use base.Fml.{Fml, GName, ftrue, fsep, flft}
use prog.Model.{Model}
use types.Logic.{Logic, sem}
use types.Kit.{‵, raw, ◌⊛◌, some, later, at_ret, ◌$◌, ◌∵◌, !, qed, move, keep, drop, use1, split, join, pick, await, fsplit, fsplit3}
use types.Kit.{fjoin, fpack, rewrite, suffices, frame, group, done}
use types.Part.{whole, sub, look_in}
use types.Run.{stop, fld, load, addr, of_opd, first, blocks, exec, returns, enter}
use types.ByLocal.{alloc_all, pass_all, free_all, look_at, get, through, sets, sets_last, env}
use contract.Monad.{fact}
use contract.Running.{Running, tables}
use denote.Builtin.{RefMutOf}
use denote.Exit.{no}
use denote.Follow.{follows, Part, lends_Part}
use denote.Memory.{part_at, mem, cell_at, part_of, lone, pointee}
use denote.RawPtr.{Ptr, block_ptr, in_a_block}
use denote.Ref.{MutRef, mut_vals, mut_Tells}
use denote.Signature.{plain, mut_ref_to}
use denote.Steps.{nothing, opens, heard}
use denote.Triple.Clauses.{Ended, Clauses}
use denote.Triple.Walked.{says, Stays, stay_dropped, walk_of, ends_at, Goes-spent_ref}
use Rattle.std.proofs.VecSteps.Shapes.{after}
use Rattle.std.specs.Prelude.{Bool, true, IsSome}
use Rattle.std.specs.declared.option.Option.{Option}
use Rattle.std.specs.declared.option.Option.TheVariants.{Some}
use Rattle.std_alloc.specs.Box.Ownership.{box_owns}
use Rattle.osi_c.specs.Owned.{block, may_own}
use Rattle.osi_c.proofs.a_handle_is_a_box.{Does}
use Rattle.osi_c.proofs.a_slot_holds_a_box.{SlotKind, R, S, slot_word, slot_out, holding_in, the_some, never_null}

module _ (K : SlotKind) where
  abbrev get_mut_code : Fn
  get_mut_code = record {
    lifetimes = 1;
    outlives = [];
    ty_params = [];
    givens = 0;
    params = 1;
    locals = local (ty_ref (named 0) mut (pointee K.held.written)) value_local
        ∷ local (ty_ref (named 0) mut (ty_named (K.slot.name, []) tnil)) value_local
        ∷ local (ty_ref erased mut (pointee K.held.written)) value_local ∷ local ty_ptr value_local ∷ [];
    body = seq (block_of (seq
        (assign (place 3 []) (rv_opd (copy (place 1 (deref (lone (S K).mir) ∷ field 1 ∷ field 0 ∷ [])))))
        (assign (place 2 []) (addr_of (place 3 (deref (lone (R K).mir) ∷ [])))))) (seq
        (assign (place 0 []) (rv_opd (copy (place 2 [])))) return);
  }

  abbrev get_mut_ended : Ended
  get_mut_ended = record {
    signature = record {
      lifetimes = 1;
      outlives = [];
      params = RefMutOf (0 ∷ []) tt (plain (λ _. S K)) (λ _. tt) ∷ [];
      result = RefMutOf (0 ∷ []) tt (plain (λ _. R K)) (λ _. tt);
    };
    kept = (no, tt);
  }

  abbrev get_mut_stayed : Stays get_mut_ended.signature.params get_mut_ended.kept
  get_mut_stayed = (stay_dropped (mut_ref_to (0 ∷ []) tt (plain (λ _. S K))) no, tt)

  abbrev get_mut_says : {M : Type 1} {𝓤 : Ura M} (𝓛 : Logic 𝓤) → Clauses 𝓤 get_mut_ended
  get_mut_says {𝓤 = 𝓤} 𝓛 κs a = record {
    ghost = Unit {0};
    requires = λ _. fact 𝓤 (IsSome (K.value (K.inner a.0.now)));
    ensures = λ _ r _. sep 𝓤 (sem 𝓛 (follows (S K) (R K) a.0.ghost_name r.ghost_name (K.holding a.0.now)))
        (fact 𝓤 (K.value (K.inner a.0.now) ≡ Some r.now));
  }

  -- all of the slot but what it lends
  abbrev Rest : K.slot.D → ℕ → ℕ → ℕ → ℕ → Fml
  Rest s rb ro b o =
      fsep (block (bare (lone (R K).mir)) (block_ptr b o)) (cell_at full_share (S K).mir (slot_word true (K.at (K.inner s)) ∷ []) rb ro)

  module _ {M : Type 1} {𝓤 : Ura M} (𝓛 : Logic 𝓤) (s : K.slot.D) (rb ro b o : ℕ) (e : K.at (K.inner s) ≡ block_ptr b o) where
    back : (w : K.held.Denot)
        → ent 𝓤 (sep 𝓤 (sem 𝓛 ((mem (R K)).own_at w b o)) (sem 𝓛 (Rest s rb ro b o))) (sem 𝓛 ((mem (S K)).own_at (K.holding s w) rb ro))
    unfolding part_of
    back w =
        qed 𝓛 (‵ (part_at (R K) full_share w b o) ∷ ‵ (Rest s rb ro b o) ∷ []) ∵
        move ! (1 ∷ []) $ fsplit ! $ move ! (2 ∷ 0 ∷ []) $ fjoin ! $
        use1 𝓛 (‵ (box_owns block (R K) (block_ptr b o) w)) (id⊢ 𝓤 _) $
        rewrite ! 0 (λ (p : Ptr). ‵ (box_owns block (R K) p w)) (sym e) refl $ holding_in K ! s w $ move ! (1 ∷ 0 ∷ []) $ fjoin ! $
        fpack ! (List Val) (λ us. fsep (cell_at full_share (S K).mir us rb ro) ((S K).own_val (K.holding s w) us))
        (slot_word true (K.at (K.inner s)) ∷ []) $ done !

  pub get_mut : {M : Type 1} {𝓤 : Ura M} (𝓛 : Logic 𝓤) (𝓜 : Model 𝓤 𝓛.H) (𝓡 : Running 𝓤 𝓛.H 𝓜) (k : Callee)
      → Does 𝓛 𝓜 𝓡 k get_mut_code get_mut_ended (get_mut_says 𝓛)
  get_mut {𝓤 = 𝓤} 𝓛 𝓜 𝓡 k closed =
      let c = get_mut_says 𝓛 in let 𝓣 = tables 𝓤 𝓛.H 𝓜 𝓡 𝓡.env in
      proved 𝓛 get_mut_ended get_mut_stayed c 𝓜 𝓡 (Goes-spent_ref 𝓛 1 (0 ∷ []) tt (plain (λ _. S K)), tt) k get_mut_code closed
      (λ κs. (mut_vals, tt)) (λ κs. (mut_Tells (named 0) κs.0 (S K), tt)) (λ κs qs bounds a g are.
      let κ = κs.0 in let q = qs.0 in let rb = a.0.ref_ptr.0 in let ro = a.0.ref_ptr.1 in let γ = a.0.ghost_name in let s = a.0.now in
      let vs = mut_vals a.0 in let p = K.at (K.inner s) in let m = K.value (K.inner s) in
      let y : (walk_of 𝓛 get_mut_ended get_mut_stayed c).Ghost = ((κs, qs, bounds, a, (vs, tt)), g) in
      let Post : Val → SProp 𝓤 = (walk_of 𝓛 get_mut_ended get_mut_stayed c).post y in
      qed 𝓛 (((‵ (flft κ q) ⊛ ‵ ftrue) ⊛ ‵ (fsep ((MutRef (named 0) κ (S K)).own_val a.0 vs) ftrue)) ∷ raw (fact 𝓤 (IsSome m)) ∷ []) ∵
      move ! (1 ∷ []) $ heard ! (IsSome m) (λ full. let some_held = the_some m full in let x = some_held.0 in
      split ! $ split ! $ move ! (2 ∷ []) $ fsplit ! $ keep ! (0 ∷ 2 ∷ []) $
      -- [the reference; the token of its lifetime]
      enter ! 𝓣.C 𝓣.Λ get_mut_code vs Post $ alloc_all ! (λ l. pass_all ! refl ((tt, tt), tt) $ let Ev = env get_mut_code.locals l in
      fsplit3 ! $ drop ! $ opens ! tt (S K) {h = s} rb ro (λ us. move ! (1 ∷ []) $ slot_out K ! s us (λ eh.
      rewrite ! 0 (λ (n : Option K.held.Denot). ‵ (may_own (R K) p n)) some_held.1 refl $
      in_a_block ! p (λ p. box_owns block (R K) p x) (never_null K 𝓛 x) (λ b o e. fsplit ! $
      -- [what is held; the right to free it; the slot's cell; its open borrow, in three entries]
      rewrite ! 2 (λ (ws : List Val). ‵ (cell_at full_share (S K).mir ws rb ro)) eh refl $
      rewrite ! 2 (λ (t : Bool). ‵ (cell_at full_share (S K).mir (slot_word t p ∷ []) rb ro)) (K.tied s ∙ full) refl $
      rewrite ! 2 (λ (p : Ptr). ‵ (cell_at full_share (S K).mir (slot_word true p ∷ []) rb ro)) e refl $
      first ! $ blocks ! $
      sets ! (of_opd ! (load ! (through ! refl (fld ! refl (fld ! refl (stop !))))
      (look_in ! 2 (sub ! 0 refl (sub ! 1 refl (whole !)))))) refl (tt, tt) $
      sets_last ! (addr ! (through ! refl (stop !))) refl (tt, tt) $
      exec ! 𝓣.C 𝓣.Λ Ev (after 1 (get_mut_code).body) (at_ret Ev Post) $
      sets ! (of_opd ! (get ! refl)) refl (tt, tt) $
      rewrite ! 2 (λ (p : Ptr). ‵ (cell_at full_share (S K).mir (slot_word true p ∷ []) rb ro)) (sym e) refl $
      move ! (1 ∷ 2 ∷ []) $ fjoin ! $ move ! (2 ∷ 3 ∷ 4 ∷ 1 ∷ 0 ∷ []) $ group ! 5 $
      use1 𝓛 (later (some (λ (γ' : GName). raw
      (Part 𝓛 (S K) (R K) (K.holding s) (named 0) κ q rb ro b o γ (sem 𝓛 (Rest s rb ro b o)) (back 𝓛 s rb ro b o e) x γ'))))
      (lends_Part 𝓛 (S K) (R K) (K.holding s) (named 0) κ q rb ro b o γ (sem 𝓛 (Rest s rb ro b o)) (back 𝓛 s rb ro b o e)
      ((S K).coded.code s) ((S K).coded.code s) x) $ await ! tt $ pick ! (λ γ'.
      let lent : (MutRef (named 0) κ (R K)).Denot = record { ref_ptr = (b, o); ghost_name = γ'; now = x } in
      use1 𝓛 (‵ ((MutRef (named 0) κ (R K)).own_val lent (vptr b o ∷ [])) ⊛ ‵ (flft κ q) ⊛ ‵
      (follows (S K) (R K) γ γ' (K.holding s))) (id⊢ 𝓤 _) $ split ! $ move ! (1 ∷ []) $ split ! $
      -- [the token; the slot follows; what is held, lent]
      returns ! (look_at ! 0 refl) $ free_all ! refl $ keep ! (2 ∷ 0 ∷ 1 ∷ []) $
      suffices ! _ (ends_at 𝓛 get_mut_ended get_mut_stayed c y (vptr b o) lent (tt, tt) (tt, tt)) $
      nothing ! $ nothing ! $ fjoin ! $ join ! $ nothing ! $ move ! (2 ∷ 0 ∷ []) $ join ! $ join ! $ frame ! $ says ! some_held.1 $
      done !)))))))
