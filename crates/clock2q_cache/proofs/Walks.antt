-- The names that a walk by hand cites, passed on from one place, and a few steps that such walks share.
-- Assumes `Logic`.
pub use mir.Syntax.{a_type, named, dcons, dnil}
pub use mir.Val.{Val, vptr}
pub use mir.MapTy.{inst_fn}
pub use base.Logic.{SProp, ent, id⊢}
pub use base.Share.{right}
pub use base.Fml.{Lft, Share, GName, ftrue, flft, fres}
pub use prog.Wp.{WpFn}
pub use contract.Monad.{fact}
pub use contract.BorrowLft.{◌⊑◌, ⊑_trans, meet_⊑_left, meet_⊑_right}
pub use contract.Running.{tables}
pub use types.Logic.{sem}
pub use types.Kit.{‵, raw, ◌⊛◌, some, later, ◌$◌, ◌∵◌, !, qed, by, move, keep, use1, use2, use3, split, split3, join, fsplit, fsplit3, fjoin, pick, await, rewrite, suffices}
pub use types.Run.{stop, addr, of_opd, no_more, and_then, returns, enter}
pub use types.ByLocal.{alloc_all, pass_all, free_all, look_at, get, through, sets, lands_as}
pub use denote.Exit.{no}
pub use denote.RattleType.{RattleType, owns}
pub use denote.Laws.{Is, shows}
pub use denote.Ref.{MutRef, ShrRef, mut_vals, as_bor}
pub use denote.Param.{param, layout, bounded}
pub use denote.Param.Laws.{param_laws}
pub use denote.Signature.{types_at, type_at, plain, mut_ref_to}
pub use denote.Steps.{nothing, heard, peeks}
pub use denote.Triple.Spec.{triple_of}
pub use denote.Triple.Call.{calls_at}
pub use denote.Triple.Clauses.{Lasts, lasts}
pub use denote.Triple.Table.{framed}
pub use denote.Triple.Walked.{Stays, stay_dropped, stay_ref, walk_of, Goes-ref, Goes-spent_ref, Goes-dropped}
pub use Rattle.std.proofs.raw_atomic.Walks.{proved_at, leaves}
use Rattle.clock2q_cache.proofs.Names.{T, Ura, Ty, has_ty, WT, emp, fact_i, Logic, Goal, Item, Seq, Step, step, use0, Typed}
use mathlib.Core.Path.{◌≡◌, refl}
use mathlib.Core.List.{List, [], ◌∷◌}

abbrev pub Good : Ty → Val → Type 0
Good τ v = T (has_ty τ v) × WT v

-- what the machine stores as one value
pub one : (τ : Ty) (vs : List Val) → Typed (τ ∷ []) vs → (v : Val) × (vs ≡ v ∷ []) × Good τ v
one τ [] t = absurd t
one τ (v ∷ []) t = (v, refl, t.0)
one τ (v ∷ w ∷ vs) t = absurd t.1

module _ {M : Type 1} {𝓤 : Ura M} {𝓛 : Logic 𝓤} {K : Type 0} {Γ : List (Item 𝓤)} where
  open 𝓛 use {H}

  module _ {G : Goal 𝓤 H} {i : Item 𝓤} where
    -- the fact behind the head is learned
    pub hears : K → (φ : Type 0) → (φ → Seq K 𝓛 (i ∷ Γ) G) → Seq K 𝓛 (i ∷ raw (fact 𝓤 φ) ∷ Γ) G
    hears t φ k = move t (1 ∷ []) $ heard t φ k

    -- the fact that the head begins with is learned
    pub learns : K → (φ : Type 0) → (φ → Seq K 𝓛 (i ∷ Γ) G) → Seq K 𝓛 ((raw (fact 𝓤 φ) ⊛ i) ∷ Γ) G
    learns t φ k = split t $ heard t φ k

    -- a known fact is put before the head
    pub says : K → (φ : Type 0) → φ → Step K 𝓛 ((raw (fact 𝓤 φ) ⊛ i) ∷ Γ) G (i ∷ Γ) G
    says t φ p = step (λ s. use0 𝓛 (raw (fact 𝓤 φ)) (fact_i 𝓤 φ (emp 𝓤) p) $ join t $ s)

  -- a known fact is the new head
  pub knows : K → {G : Goal 𝓤 H} (φ : Type 0) → φ → Step K 𝓛 (raw (fact 𝓤 φ) ∷ Γ) G Γ G
  knows t φ p = use0 𝓛 (raw (fact 𝓤 φ)) (fact_i 𝓤 φ (emp 𝓤) p)
