-- The two words of a handle, or of a box taken apart: a pointer and an allocator. What they own is taken out of them,
-- and put back in. Assumes `Logic`.
use Rattle.std.proofs.Common.{◌≡◌, ℕ, List, [], ◌∷◌, ◌++◌, refl, subst, T, ◌&&◌, true}
use Rattle.std.specs.Prelude.{Option, Some, None, IsSome}
use Rattle.std.proofs.lemmas.Bool.{false≢true}
use seplogic.Ra.Ura.{Ura}
use mir.Syntax.{impl, tnil, dnil}
use mir.Raw.{raw as bare}
use mir.Val.{Val, vptr, vstruct, vcons, vnil, of_list, has_ty, WT}
use base.Logic.{never, fst∗}
use base.Fml.{Fml, fex, feq, fsep}
use types.Logic.{Logic, sem}
use types.Kit.{Item, Goal, Seq, Step, step, ‵, ◌$◌, move, drop, fsplit, fjoin, fpick, fpack, feq_i, feq_l}
use denote.RattleType.{RattleType, Valss, owns}
use denote.Builtin.{RawPtr}
use denote.Memory.{lone}
use denote.RawPtr.{Ptr, block_ptr, null_ptr, ptr_val, in_a_block}
use denote.Steps.{nothing}
use denote.Param.{layout}
use denote.Param.Laws.{Laws}
use Rattle.std.specs.declared.alloc.Allocator.{Ghosts}
use Rattle.std.proofs.alloc.Calls.{Al, handle_tells}
use Rattle.std.proofs.cell.Inside.{Good}
use Rattle.std.specs.Box.Ownership.{box_owns}
use Rattle.std.proofs.ResultValues.{and_tt}

-- a struct of two words
abbrev pub both : Val → Val → Val
both v w = vstruct (vcons v (vcons w vnil))

-- what is in an option
pub some_of : {X : Type 0} (o : Option X) → IsSome o → (x : X) × (o ≡ Some x)
some_of None is = absurd (false≢true is)
some_of (Some x) is = (x, refl)

module _ (Z : RattleType) (LZ : Laws Z) (g : Ghosts Z.Denot) where
  abbrev teller : Al
  teller = record { row = Z; laws = LZ; g = g; d = impl [] tnil dnil; drops = impl [] tnil dnil }

  -- these are the words of the pointer and the allocator
  abbrev pub words : Ptr → Z.Denot → List Val → Fml
  words p a vs = fex (Valss (RawPtr ∷ Z ∷ [])) (λ parts. fsep (feq (List Val) vs (vstruct (of_list (parts.0 ++ (parts.1.0 ++ []))) ∷ [])) (owns (RawPtr ∷ Z ∷ []) (p, (a, tt)) parts))

  pub words_good : (b o : ℕ) (h : Val) → Good (layout Z) h → T (has_ty (layout Z) h && true) × WT (both (vptr b o) h)
  words_good b o h fits = (and_tt (has_ty (layout Z) h) fits.0, (tt, (fits.1, tt)))

  module _ {M : Type 1} {𝓤 : Ura M} {𝓛 : Logic 𝓤} {K : Type 0} {Γ : List (Item 𝓤)} {G : Goal 𝓤 𝓛.H} where
    -- words that own a box are those of a pointer into a block, which is this one
    pub words_found : (R : RattleType) → K → (p : Ptr) (a : Z.Denot) (x : R.Denot) (vs : List Val)
        → ((b o : ℕ) (h : Val) → p ≡ block_ptr b o → vs ≡ both (vptr b o) h ∷ [] → Good (layout Z) h → Seq K 𝓛 (‵ (box_owns (g.dealloc_token a) R (block_ptr b o) x) ∷ ‵ (Z.own_val a (h ∷ [])) ∷ Γ) G)
        → Seq K 𝓛 (‵ (fsep (words p a vs) (box_owns (g.dealloc_token a) R p x)) ∷ Γ) G
    words_found R t p a x vs rest =
        fsplit t $ fpick t (λ parts. fsplit t $ feq_l t (λ whole. fsplit t $ feq_l t (λ first. fsplit t $ handle_tells teller t a parts.1.0 (λ h second fits.
        move t (1 ∷ []) $ drop t $ move t (1 ∷ []) $
        in_a_block t p (λ q. box_owns (g.dealloc_token a) R q x) (fst∗ 𝓤 (never 𝓤) (sem 𝓛 (g.dealloc_token a (bare (lone R.mir)) null_ptr))) (λ b o inside.
        let of_parts = subst (λ (ps : List Val). vs ≡ vstruct (of_list (ps ++ (parts.1.0 ++ []))) ∷ []) first whole in
        let of_handle = subst (λ (ws : List Val). vs ≡ vstruct (of_list (ptr_val p ∷ (ws ++ []))) ∷ []) second of_parts in
        rest b o h inside (subst (λ (q : Ptr). vs ≡ vstruct (of_list (ptr_val q ∷ h ∷ [])) ∷ []) inside of_handle) fits)))))

    -- the same, without naming the block
    pub words_out : (R : RattleType) → K → (p : Ptr) (a : Z.Denot) (x : R.Denot) (vs : List Val)
        → ((b o : ℕ) (h : Val) → vs ≡ both (vptr b o) h ∷ [] → Good (layout Z) h → Seq K 𝓛 (‵ (box_owns (g.dealloc_token a) R (block_ptr b o) x) ∷ ‵ (Z.own_val a (h ∷ [])) ∷ Γ) G)
        → Seq K 𝓛 (‵ (fsep (words p a vs) (box_owns (g.dealloc_token a) R p x)) ∷ Γ) G
    words_out R t p a x vs rest = words_found R t p a x vs (λ b o h _ ws fits. rest b o h ws fits)

    -- words are made of a pointer and what the allocator's word owns
    pub words_in : K → (p : Ptr) (h : Val) (a : Z.Denot) → Step K 𝓛 (‵ (words p a (both (ptr_val p) h ∷ [])) ∷ Γ) G (‵ (Z.own_val a (h ∷ [])) ∷ Γ) G
    words_in t p h a = step (λ rest.
        let made : List Val = both (ptr_val p) h ∷ [] in
        nothing t $ move t (1 ∷ 0 ∷ []) $ fjoin t $ feq_i t (List Val) (ptr_val p ∷ []) (ptr_val p ∷ []) refl $ fjoin t $ feq_i t (List Val) made made refl $ fjoin t $
        fpack t (Valss (RawPtr ∷ Z ∷ []))
        (λ parts. fsep (feq (List Val) made (vstruct (of_list (parts.0 ++ (parts.1.0 ++ []))) ∷ []))
        (owns (RawPtr ∷ Z ∷ []) (p, (a, tt)) parts)) (ptr_val p ∷ [], (h ∷ [], tt)) $ rest)
