-- A slot of C, its handle, and the box whose pointer it is, whatever is in the box: what each owns, and the word that it is in memory.
-- For the proofs by hand of each handle and of each slot's `get_mut`, which are in a_handle_is_a_box and a_slot_lends_what_it_holds.
use Rattle.std.proofs.Common.{arith, ◌≡◌, List, [], ◌∷◌, ◌++◌, refl, sym, subst}
use lib.Dec.{T}
use seplogic.Ra.Ura.{Ura}
use mir.Syntax.{impl, tnil, dnil}
use mir.Raw.{raw as bare}
use mir.Val.{Val, WT, has_ty, vbool, vstruct, vcons, vnil, of_list}
use base.Logic.{ent, never, fst∗}
use types.Logic.{Logic, sem}
use types.Kit.{Item, Goal, Seq, Step, step, ‵, ◌$◌, move, drop, fsplit, fjoin, fpick, fpack, feq_i, feq_l, rewrite}
use denote.Exit.{unseen}
use denote.RattleType.{RattleType, Valss}
use denote.Builtin.{RawPtr, bool}
use denote.Memory.{lone}
use denote.Param.{layout}
use denote.Param.Laws.{Laws}
use denote.RawPtr.{Ptr, null_ptr, ptr_val}
use denote.Steps.{nothing}
use denote.Struct.Declared.{Declared}
use denote.Struct.Field.{RawPtr-field}
use denote.Struct.Owning as owning
use denote.Struct.Recorded.{Recorded}
use denote.Struct.Struct.{Shape, Struct, within}
use Rattle.std.specs.Prelude.{Bool, true, IsSome, is_some}
use Rattle.std.specs.declared.option.Option.{Option}
use Rattle.std.specs.declared.option.Option.TheVariants.{None, Some}
use Rattle.std.specs.contracts.alloc.Global as heap
use Rattle.std.proofs.alloc.Global.TheLaws as heap_laws
use Rattle.std.specs.contracts.impls.GlobalAllocator.TheImpl.{ghosts}
use Rattle.std_alloc.specs.Box.Ownership.{box_owns}
use Rattle.std_alloc.proofs.BoxSteps.Form.{Bx}
use Rattle.osi_c.specs.Owned.{block, may_own}

-- a row of one MIR type, which is written out
abbrev pub in_a_word : RattleType → RattleType
in_a_word T = record T { mir = layout T ∷ [] }

-- a kind of slot: the row of what is in the box, the type of its handle, and the type of the slot. `made` and `holding` make values of
-- these two records, which differ by name alone from kind to kind
pub record SlotKind : Type 2 where
  pub held : RattleType
  pub laws : Laws (in_a_word held)
  pub handle : owning.Owning
  pub at : handle.D → Ptr
  pub value : handle.D → Option held.Denot
  pub made : Ptr → Option held.Denot → handle.D
  pub made_at : (p : Ptr) (m : Option held.Denot) → at (made p m) ≡ p
  pub made_value : (p : Ptr) (m : Option held.Denot) → value (made p m) ≡ m
  pub slot : Declared
  pub full : slot.D → Bool
  pub inner : slot.D → handle.D
  pub slot_one : (s s' : slot.D) → ◌≡◌ {A = Bool × (handle.D × Unit {0})} (full s, (inner s, tt)) (full s', (inner s', tt)) → s ≡ s'
  pub tied : (s : slot.D) → full s ≡ is_some (value (inner s))
  pub holding : slot.D → held.Denot → slot.D
  pub holding_full : (s : slot.D) (x : held.Denot) → full (holding s x) ≡ true
  pub holding_inner : (s : slot.D) (x : held.Denot) → inner (holding s x) ≡ made (at (inner s)) (Some x)

module _ (K : SlotKind) where
  -- what is in the box
  abbrev pub R : RattleType
  R = in_a_word K.held

  -- the box
  abbrev pub E : Bx
  E = record {
    row = R;
    laws = K.laws;
    al =
        record { row = heap.the_row; laws = heap_laws.the_row_laws; g = ghosts; d = impl [] tnil dnil; drops = impl [] tnil dnil };
  }

  -- the handle
  abbrev pub handle_type : owning.Owning
  handle_type = record K.handle {
    args = [];
    types = [];
    parts = RawPtr-field ∷ [];
    as_values = λ h. (K.at h, tt);
    heap = λ h. may_own R (K.at h) (K.value h);
    exit = λ k. unseen;
  }

  abbrev pub H : RattleType
  H = owning.row handle_type

  -- the slot
  abbrev pub slot_shape : Shape
  slot_shape = record { name = K.slot.name; args = []; types = []; fields = bool ∷ H ∷ [] }

  abbrev pub S : RattleType
  S = Recorded (Struct slot_shape) K.slot.D (λ s. (K.full s, (K.inner s, tt))) K.slot_one

-- the box's pointer as a handle holds it
abbrev pub at_word : Ptr → Val
at_word p = vstruct (vcons (ptr_val p) vnil)

pub handle_typed : (K : SlotKind) (p : Ptr) → T (has_ty (lone (H K).mir) (at_word p)) × WT (at_word p)
handle_typed K p = grind arith

-- a slot that is full, or not, with the handle at this pointer
abbrev pub slot_word : Bool → Ptr → Val
slot_word full p = vstruct (vcons (vbool full) (vcons (at_word p) vnil))

pub the_some : {A : Type 0} (m : Option A) → IsSome m → (x : A) × (m ≡ Some x)
the_some (Some x) e = (x, refl)
the_some None e = absurd (subst T (sym e) tt)

pub never_null : (K : SlotKind) {M : Type 1} {𝓤 : Ura M} (𝓛 : Logic 𝓤) (x : K.held.Denot)
    → ent 𝓤 (sem 𝓛 (box_owns block (R K) null_ptr x)) (never 𝓤)
never_null K {𝓤 = 𝓤} 𝓛 x = fst∗ 𝓤 (never 𝓤) (sem 𝓛 (block (bare (lone (R K).mir)) null_ptr))

module _ (K : SlotKind) {M : Type 1} {𝓤 : Ura M} {𝓛 : Logic 𝓤} {A : Type 0} {Γ : List (Item 𝓤)} {G : Goal 𝓤 𝓛.H} where
  -- what a handle owns is its pointer, and what it may own beside it
  pub handle_out : A → (h : (H K).Denot) (vs : List Val)
      → (vs ≡ at_word (K.at h) ∷ [] → Seq A 𝓛 (‵ (may_own (R K) (K.at h) (K.value h)) ∷ Γ) G)
      → Seq A 𝓛 (‵ ((H K).own_val h vs) ∷ Γ) G
  handle_out t h vs k =
      fsplit t $ fpick t (λ vss. fsplit t $ feq_l t (λ ev. fsplit t $ feq_l t (λ ep. drop t $
      k (subst (λ (ps : List Val). vs ≡ vstruct (of_list (ps ++ [])) ∷ []) ep ev))))

  pub handle_in : A → (p : Ptr) (m : Option K.held.Denot)
      → Step A 𝓛 (‵ ((H K).own_val (K.made p m) (at_word p ∷ [])) ∷ Γ) G (‵ (may_own (R K) p m) ∷ Γ) G
  handle_in t p m = step (λ s. let h = K.made p m in let at_p = sym (K.made_at p m) in
      rewrite t 0 (λ (q : Ptr). ‵ (may_own (R K) q m)) at_p refl $
      rewrite t 0 (λ (n : Option K.held.Denot). ‵ (may_own (R K) (K.at h) n)) (sym (K.made_value p m)) refl $
      nothing t $ feq_i t (List Val) (ptr_val p ∷ []) (ptr_val (K.at h) ∷ []) (λ i. ptr_val (at_p i) ∷ []) $ fjoin t $
      feq_i t (List Val) (at_word p ∷ []) (at_word p ∷ []) refl $ fjoin t $
      fpack t (Valss (RawPtr ∷ [])) (within (owning.shape (handle_type K)) (K.at h, tt) (at_word p ∷ [])) (ptr_val p ∷ [], tt) $
      fjoin t $ s)

module _ (K : SlotKind) {M : Type 1} {𝓤 : Ura M} {𝓛 : Logic 𝓤} {A : Type 0} {Γ : List (Item 𝓤)} {G : Goal 𝓤 𝓛.H} where
  -- what a slot owns is what its handle may own
  pub slot_out : A → (s : K.slot.D) (vs : List Val)
      → (vs ≡ slot_word (K.full s) (K.at (K.inner s)) ∷ []
      → Seq A 𝓛 (‵ (may_own (R K) (K.at (K.inner s)) (K.value (K.inner s))) ∷ Γ) G)
      → Seq A 𝓛 (‵ ((S K).own_val s vs) ∷ Γ) G
  slot_out t s vs k =
      fpick t (λ vss. fsplit t $ feq_l t
      (λ ev. fsplit t $ feq_l t (λ eb. fsplit t $ handle_out K t (K.inner s) vss.1.0 (λ eh. move t (1 ∷ []) $ drop t $
      k (grind (arith, vstruct, of_list, vbool))))))

  -- a slot that is full, and whose handle is the one of s, owns the box
  pub holding_in : A → (s : K.slot.D) (x : K.held.Denot)
      → Step A 𝓛 (‵ ((S K).own_val (K.holding s x) (slot_word true (K.at (K.inner s)) ∷ [])) ∷ Γ) G
      (‵ (may_own (R K) (K.at (K.inner s)) (Some x)) ∷ Γ) G
  holding_in t s x = step (λ k. let p = K.at (K.inner s) in let s' = K.holding s x in let v = slot_word true p in
      handle_in K t p (Some x) $
      rewrite t 0 (λ (h : K.handle.D). ‵ ((H K).own_val h (at_word p ∷ []))) (sym (K.holding_inner s x)) refl $
      nothing t $ move t (1 ∷ 0 ∷ []) $ fjoin t $
      feq_i t (List Val) (vbool true ∷ []) (vbool (K.full s') ∷ []) (λ i. vbool (sym (K.holding_full s x) i) ∷ []) $ fjoin t $
      feq_i t (List Val) (v ∷ []) (v ∷ []) refl $ fjoin t $
      fpack t (Valss (bool ∷ H K ∷ [])) (within (slot_shape K) (K.full s', (K.inner s', tt)) (v ∷ []))
      (vbool true ∷ [], (at_word p ∷ [], tt)) $ k)
