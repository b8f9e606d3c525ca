-- A `&mut` that is lent for a call and comes back, or is shared for the rest of its lifetime; and what is known of the
-- value that it leaves behind.
-- For the walk of a call that lends a value to read at an error of any type, and for the walks of its callers. Assumes `Logic`.
use Rattle.clock2q_cache.proofs.Names.{none, Ura, full_share, right, named, Val, GName, Lft, Share, fobs, fbor, fres, flft, fdead, SProp, ent, ex, ex_i, ex_e, sep, emp, emp∗, via, mono_l, wand, apply∗, id⊢, Toks, ◌⊑◌, meet_⊑_left, fact, fact_i, Logic, sem, lfts, ‵, raw, ◌⊛◌, some, later, ◌$◌, ◌∵◌, !, qed, done, move, keep, use1, use2, use3, split, join, fsplit, fjoin, feq_i, pick, await, updating, now, show, lft_new, lft_end, name_done, Laws, of_field, is_one, copy_shared, u32, u32-field, shr_ref_field, u32-laws, u32-copy, shr_ref_laws, shr_ref_copy, RattleType, MutBor, MutRef, ShrRef, as_bor, mut_vals, NamedLft, mem, part_at, hidden_shr, settles, LentAgain, lends_again, comes_back, follows_so, follows_if}
use mathlib.Core.Path.{refl}
use mathlib.Core.List.{List, [], ◌∷◌, ◌++◌}
use Prim.Native.Nat.{ℕ}
use base.Share.{left}
use types.Kit.{drop}
use denote.Follow.{such_by, follows_by}

module _ {M : Type 1} {𝓤 : Ura M} (𝓛 : Logic 𝓤) (R : RattleType) where
  open 𝓛 use {H, A}

  -- the value that the name ends at is known to have this property
  abbrev pub Rests : GName → (R.Denot → Type 0) → R.Denot → SProp 𝓤
  Rests γ P y = sep 𝓤 (fact 𝓤 (P y)) (A.res γ (R.coded.code y))

  -- for the prover of the clause
  pub rests_so : (γ : GName) (P : R.Denot → Type 0) (y : R.Denot) → P y → ent 𝓤 (A.res γ (R.coded.code y)) (sem 𝓛 (follows_so R R γ none (λ _ _. Unit {0}) P))
  unfolding such_by follows_by
  rests_so γ P y p =
      ex_i 𝓤 (λ (s : (f : (R.Denot → R.Denot) × R.Denot) × ((z : R.Denot) → Unit {0}) × P f.1). sem 𝓛 (follows_if R R γ none s.0.0 s.0.1))
      ((λ w. w, y), (λ _. tt), p)

  -- for the user of the clause
  pub so_rests : (γ : GName) (P : R.Denot → Type 0) → ent 𝓤 (sem 𝓛 (follows_so R R γ none (λ _ _. Unit {0}) P)) (ex 𝓤 (Rests γ P))
  unfolding such_by follows_by
  so_rests γ P = ex_e 𝓤 _ (λ s.
      let ends = A.res γ (R.coded.code s.0.1) in
      via 𝓤 (Rests γ P s.0.1) (via 𝓤 (sep 𝓤 (emp 𝓤) ends) (emp∗ 𝓤 ends) (mono_l 𝓤 ends (fact_i 𝓤 (P s.0.1) (emp 𝓤) s.2))) (ex_i 𝓤 (Rests γ P) s.0.1))

  module _ (κ : Lft) (q : Share) (r : MutBor R.Denot) where
    abbrev pub Ref : Lft → MutBor R.Denot → SProp 𝓤
    Ref κ' x = sem 𝓛 ((MutRef (named 0) κ' R).own_val x (mut_vals r))

    -- what the lender of the reference within its lifetime keeps: the way back to it, and to the loan's token
    abbrev pub Kept : ℕ × GName → SProp 𝓤
    Kept p =
        sep 𝓤 (sem 𝓛 (LentAgain R κ (p.0 ∷ κ) (left q) r.ghost_name r.ref_ptr.0 r.ref_ptr.1 p.1 r.now))
        (wand 𝓤 (A.lft (p.0 ∷ []) (right q)) (A.lft (p.0 ∷ []) full_share))

    -- the loan, by its lifetime and its name
    abbrev pub Lends : ℕ × GName → SProp 𝓤
    Lends p = sep 𝓤 (Ref (p.0 ∷ κ) (record r { ghost_name = p.1 })) (sep 𝓤 (A.lft (p.0 ∷ κ) (right q)) (Kept p))

    pub lends_within : ent 𝓤 (sep 𝓤 (Ref κ r) (A.lft κ q)) (H.⇛ (ex 𝓤 Lends))
    lends_within =
        let b = r.ref_ptr.0 in let o = r.ref_ptr.1 in
        qed 𝓛 (‵ ((MutRef (named 0) κ R).own_val r (mut_vals r)) ∷ ‵ (flft κ q) ∷ []) ∵ updating ! $ lft_new ! tt (λ α. move ! (2 ∷ []) $
        use1 𝓛 (‵ (flft κ (left q)) ⊛ ‵ (flft κ (right q))) (𝓛.lfts.lft_split κ q) $ split ! $ move ! (2 ∷ []) $
        use1 𝓛 (‵ (flft (α ∷ []) (right q)) ⊛ raw (wand 𝓤 (A.lft (α ∷ []) (right q)) (A.lft (α ∷ []) full_share))) (𝓛.lfts.lft_carve α (right q)) $ split ! $
        move ! (0 ∷ 3 ∷ []) $ use2 𝓛 (‵ (flft (α ∷ κ) (right q))) (𝓛.lfts.lft_meet (α ∷ []) κ (right q)) $
        -- [the loan's token; the way back to its lifetime's; the other half of κ's; the reference]
        let Loan = λ (δ : ℕ). ‵ ((MutRef (named 0) (α ∷ κ) R).own_val (record r { ghost_name = δ }) (mut_vals r)) in
        let Back = λ (δ : ℕ). ‵ (LentAgain R κ (α ∷ κ) (left q) r.ghost_name b o δ r.now) in
        move ! (3 ∷ 2 ∷ []) $ use2 𝓛 (later (some (λ (δ : ℕ). Loan δ ⊛ Back δ))) (lends_again 𝓛 R (named 0) κ (α ∷ κ) (left q) r.ghost_name b o (named 0) r.now) $
        await ! tt $ pick ! (λ δ. split ! $ now ! $ keep ! (0 ∷ 2 ∷ 1 ∷ 3 ∷ []) $ show ! Lends (α, δ) $ done !))

    pub comes_within : (p : ℕ × GName) (y : R.Denot)
        → ent 𝓤 (sep 𝓤 (A.lft (p.0 ∷ κ) (right q)) (sep 𝓤 (Kept p) (A.res p.1 (R.coded.code y)))) (H.⇛ (sep 𝓤 (Ref κ (record r { now = y })) (A.lft κ q)))
    comes_within p y =
        let α = p.0 in let δ = p.1 in let b = r.ref_ptr.0 in let o = r.ref_ptr.1 in
        let back = ‵ (LentAgain R κ (α ∷ κ) (left q) r.ghost_name b o δ r.now) in
        let returned = raw (wand 𝓤 (A.lft (α ∷ []) (right q)) (A.lft (α ∷ []) full_share)) in
        qed 𝓛 (‵ (flft (α ∷ κ) (right q)) ∷ (back ⊛ returned) ∷ ‵ (fres δ (R.coded.code y)) ∷ []) ∵ updating ! $
        use1 𝓛 (‵ (flft (α ∷ []) (right q)) ⊛ ‵ (flft κ (right q))) (𝓛.lfts.lft_unmeet (α ∷ []) κ (right q)) $ split ! $ move ! (2 ∷ []) $ split ! $
        -- [what is kept; the way back; α's part; κ's half; the last value]
        move ! (2 ∷ 1 ∷ []) $ use2 𝓛 (‵ (flft (α ∷ []) full_share)) (apply∗ 𝓤 (A.lft (α ∷ []) (right q)) (A.lft (α ∷ []) full_share)) $ lft_end ! tt $
        use1 𝓛 (‵ (fdead (α ∷ κ))) (𝓛.lfts.dead-incl (α ∷ κ) (α ∷ []) (meet_⊑_left (α ∷ []) κ)) $ move ! (0 ∷ 1 ∷ 3 ∷ []) $
        use3 𝓛 (later (‵ ((MutRef (named 0) κ R).own_val (record r { now = y }) (mut_vals r)) ⊛ ‵ (flft κ (left q))))
        (comes_back 𝓛 R (named 0) κ (α ∷ κ) (left q) r.ghost_name b o δ r.now y) $ await ! tt $ split ! $
        move ! (1 ∷ 2 ∷ []) $ use2 𝓛 (‵ (flft κ q)) (𝓛.lfts.lft_join κ q) $ now ! $ move ! (1 ∷ 0 ∷ []) $ done !

    -- The reference becomes a `&`, and the value that its name ends at is known. Its type may name another lifetime,
    -- whose token is returned too.
    pub shares_for_good : Laws R → (ν : Lft) (s : Share) → κ ++ ν ⊑ R.lives → ent 𝓤 (sep 𝓤 (Ref κ r) (sep 𝓤 (A.lft κ q) (A.lft ν s)))
        (H.⇛ (sep 𝓤 (sem 𝓛 ((ShrRef (named 0) κ R).own_val (as_bor r) (mut_vals r))) (sep 𝓤 (A.res r.ghost_name (R.coded.code r.now)) (sep 𝓤 (A.lft κ q) (A.lft ν s)))))
    shares_for_good L ν s within =
        let b = r.ref_ptr.0 in let o = r.ref_ptr.1 in let ts : Toks = (κ, q) ∷ (ν, s) ∷ [] in
        qed 𝓛 (‵ ((MutRef (named 0) κ R).own_val r (mut_vals r)) ∷ ‵ (flft κ q) ∷ ‵ (flft ν s) ∷ []) ∵ updating ! $ fsplit ! $ drop ! $ fsplit ! $
        move ! (2 ∷ 3 ∷ []) $ join ! $ move ! (1 ∷ 2 ∷ 0 ∷ []) $
        use3 𝓛 (later (‵ (fobs r.ghost_name (R.coded.code r.now)) ⊛ (‵ (fbor κ (part_at R full_share r.now b o)) ⊛ raw (lfts 𝓛 ts))))
        (settles 𝓛 (mem R) κ ts (meet_⊑_left κ ν) r.ghost_name r.now b o) $ await ! tt $ split ! $ name_done ! tt $ move ! (1 ∷ []) $
        use1 𝓛 (later (‵ (hidden_shr R κ r.now b o) ⊛ raw (lfts 𝓛 ts))) (L.shares 𝓛 r.now κ ts b o within (meet_⊑_left κ ν)) $ await ! tt $ split ! $
        move ! (1 ∷ []) $ use1 𝓛 (‵ (flft κ q) ⊛ ‵ (flft ν s)) (id⊢ 𝓤 _) $ split ! $
        -- [κ; ν; what the `&` holds; the last value]
        now ! $ move ! (2 ∷ []) $ feq_i ! (List Val) (mut_vals r) (mut_vals r) refl $ fjoin ! $ keep ! (0 ∷ 3 ∷ 1 ∷ 2 ∷ []) $ done !

-- what a `Result` of a number or of a `&` requires of its parts
pub u32_laws : Laws u32
u32_laws = of_field u32-field u32-laws refl (copy_shared u32-field u32-copy)

pub ref_laws : (κ : Lft) (R : RattleType) → Laws R → Laws (ShrRef (named 0) κ R)
ref_laws κ R L =
    let ℓ : NamedLft = record { mir = named 0; lft = κ } in let field = shr_ref_field ℓ R (is_one R L) in
    of_field field (shr_ref_laws ℓ R (is_one R L)) refl (copy_shared field (shr_ref_copy ℓ R (is_one R L) L.shr_laws))
