-- A call that says what it leaves of the cache finds or makes the slot. The value there is lent to read for the rest of
-- the lifetime of the reference to the cache, so nothing changes any more, and what the cache ends as is known. The
-- borrow checker writes no such proof at an error of any type, so this is a walk by hand. Assumes `Logic`.
use Rattle.clock2q_cache.proofs.Names.{◌≡◌, ℕ, List, [], ◌∷◌, ◌++◌, refl, sym, subst, None, u32, HashMembers, slot_of, Tries}
use Rattle.std.proofs.Common.{MutBor}
use Rattle.std.specs.contracts.result.Result as result
use Rattle.std.proofs.result.Result.TheLaws.{the_row_laws as result_laws}
use Rattle.clock2q_cache.proofs.Walks.{a_type, named, dcons, dnil, Val, vptr, inst_fn, SProp, ent, id⊢, right, Lft, Share, GName, ftrue, flft, fres, WpFn, fact, ◌⊑◌, ⊑_trans, meet_⊑_left, meet_⊑_right, tables, sem, ‵, raw, ◌⊛◌, some, later, ◌$◌, ◌∵◌, !, qed, by, move, keep, use1, use2, use3, split, split3, join, fsplit, fsplit3, fjoin, pick, await, rewrite, suffices, stop, addr, of_opd, no_more, and_then, returns, enter, alloc_all, pass_all, free_all, look_at, get, through, sets, lands_as, no, RattleType, owns, Is, shows, MutRef, ShrRef, mut_vals, as_bor, param, layout, bounded, param_laws, types_at, type_at, plain, mut_ref_to, nothing, heard, peeks, triple_of, calls_at, Lasts, lasts, framed, Stays, stay_dropped, walk_of, Goes-spent_ref, Goes-dropped, proved_at, leaves, one, hears, learns, says, knows}
use Rattle.clock2q_cache.proofs.Shared.{rests_so, Kept, lends_within, comes_within, shares_for_good, u32_laws, ref_laws}
use Rattle.clock2q_cache.proofs.Tried.{Slot-fetched, Slot-made, Slot-err, Slot-absent, Slot-machine, Slot-counts, Slot-index, Slot-asked, Slot-known, Lent, Has-value, Is-err, Is-absent, fetches}
use Rattle.clock2q_cache.specs.CacheLends.{LeavesTried}
use Rattle.clock2q_cache.specs.contracts.cache.Cache.{the_row}
use Rattle.clock2q_cache.proofs.cache.Cache.TheLaws.{the_row_laws, the_within}
use Rattle.clock2q_cache.specs.contracts.cache.Cache.try_find_or_insert as search
use Rattle.clock2q_cache.proofs.cache.Cache.try_find_or_insert.Met.{met as search_met}
use Rattle.clock2q_cache.specs.contracts.cache.Cache.value_found as lend
use Rattle.clock2q_cache.proofs.cache.Cache.value_found.Met.{met as lend_met}
use Rattle.clock2q_cache.specs.contracts.cache.Cache.try_get_or_insert_with.{ended, clauses}
use Rattle.clock2q_cache.specs.contracts.cache.Cache.try_get_or_insert_with.Key.{name as #self}
use Rattle.clock2q_cache.proofs.cache.Cache.try_get_or_insert_with.Statement.{statement}
use Rattle.clock2q_cache.proofs.cache.Cache.try_get_or_insert_with.Code as code

pub try_get_or_insert_with_spec : {M : Type 1} → statement M
unfolding LeavesTried
try_get_or_insert_with_spec 𝓤 𝓛 𝓜 𝓡 wired K V S A H F E LK LV LS LA LH LF LE
    hash d₀ equals d₁ equal d₂ build d₃ hasher d₄ heap d₅ d₆ d₇ d₈ d₉ called d₁₀ d₁₁ by_hash by_equals by_equal by_build by_hasher by_heap drops_K drops_V drops_A drops_H by_call drops_F =
    let Hp = 𝓛.H in let 𝓣 = tables 𝓤 Hp 𝓜 𝓡 𝓡.env in
    let En = ended K V S A H F E hash d₀ equals d₁ equal d₂ build d₃ hasher d₄ heap d₅ d₆ d₇ d₈ d₉ called d₁₀ d₁₁ in
    let c = clauses K V S A H F E hash d₀ equals d₁ equal d₂ build d₃ hasher d₄ heap d₅ d₆ d₇ d₈ d₉ called d₁₀ d₁₁ 𝓛 𝓜.mem 𝓡.returns in
    let ds = dcons d₀ (dcons d₁ (dcons d₂ (dcons d₃ (dcons d₄ (dcons d₅ (dcons d₆ (dcons d₇ (dcons d₈ (dcons d₉ (dcons d₁₀ (dcons d₁₁ dnil))))))))))) in
    let inst = bounded (a_type ∷ a_type ∷ a_type ∷ a_type ∷ a_type ∷ a_type ∷ a_type ∷ []) (K, (V, (S, (A, (H, (F, (E, tt))))))) ds in let fn = inst_fn inst code.function in
    let K' : RattleType = param 0 K in let V' : RattleType = param 1 V in let S' : RattleType = param 2 S in let A' : RattleType = param 3 A in
    let H' : RattleType = param 4 H in let F' : RattleType = param 5 F in let E' : RattleType = param 6 E in
    let LK' = param_laws 0 K LK in let LV' = param_laws 1 V LV in let LS' = param_laws 2 S LS in let LA' = param_laws 3 A LA in
    let LH' = param_laws 4 H LH in let LF' = param_laws 5 F LF in let LE' = param_laws 6 E LE in
    let R : RattleType = the_row K' V' S' A' H' hash equal build hasher heap in let LR = the_row_laws K' V' S' A' H' hash equal build hasher heap LK' LV' LS' LA' LH' in
    let Found : RattleType = result.the_row u32 E' in let Found-laws = result_laws u32 E' u32_laws LE' in
    let hs : Stays En.signature.params En.kept = (stay_dropped (mut_ref_to (0 ∷ []) tt (plain (λ _. R))) no, (stay_dropped (plain (λ _. K')) no, (stay_dropped (plain (λ _. F')) no, tt))) in
    proved_at 𝓛 En hs c 𝓜 𝓡 (Goes-spent_ref 𝓛 8 (0 ∷ []) tt (plain (λ _. R)), (Goes-dropped 𝓛 8 (plain (λ _. K')) no (λ κs x f. refl), (Goes-dropped 𝓛 8 (plain (λ _. F')) no (λ κs x f. refl), tt)))
    (#self inst) fn (code.unfolded 𝓤 Hp 𝓜 𝓡 wired (K, (V, (S, (A, (H, (F, (E, tt))))))) d₀ d₁ d₂ d₃ d₄ d₅ d₆ d₇ d₈ d₉ d₁₀ d₁₁) (λ z are.
    let κs = z.0.0 in let qs = z.0.1 in
    let Post : Val → SProp 𝓤 = (walk_of 𝓛 En hs c).post z in let Run : List Val → SProp 𝓤 = λ ws. WpFn 𝓤 Hp 𝓣.C 𝓣.Λ fn ws Post in
    let κ : Lft = κs.0 in let q : Share = qs.0 in
    let μK : Lft = κs.1.0 in let μV : Lft = κs.1.1.0 in let μS : Lft = κs.1.1.1.0 in let μA : Lft = κs.1.1.1.1.0 in
    let μH : Lft = κs.1.1.1.1.1.0 in let μF : Lft = κs.1.1.1.1.1.1.0 in let μE : Lft = κs.1.1.1.1.1.1.1.0 in
    let tK = ‵ (flft μK qs.1.0) in let tV = ‵ (flft μV qs.1.1.0) in let tS = ‵ (flft μS qs.1.1.1.0) in let tA = ‵ (flft μA qs.1.1.1.1.0) in
    let tH = ‵ (flft μH qs.1.1.1.1.1.0) in let tF = ‵ (flft μF qs.1.1.1.1.1.1.0) in let tE = ‵ (flft μE qs.1.1.1.1.1.1.1.0) in
    let rest = tK ⊛ tV ⊛ tS ⊛ tA ⊛ tH ⊛ tF ⊛ tE ⊛ ‵ ftrue in
    let r : MutBor R.Denot = z.0.3.0 in let b : ℕ = r.ref_ptr.0 in let o : ℕ = r.ref_ptr.1 in let key = z.0.3.1.0 in let f = z.0.3.1.1.0 in let post = called.post f tt in
    let key_got = one (layout K) z.0.4.1.0 ((LK'.lawful 𝓛).typed key z.0.4.1.0 are.1.0) in
    let f_got = one (layout F) z.0.4.1.1.0 ((LF'.lawful 𝓛).typed f z.0.4.1.1.0 are.1.1.0) in
    let vk : Val = key_got.0 in let vf : Val = f_got.0 in let vs : List Val = vptr b o ∷ vk ∷ vf ∷ [] in
    let Out : RattleType = type_at En.signature.result κs in let Out-laws = result_laws (ShrRef (named 0) κ V') E' (ref_laws κ V' LV') LE' in
    -- what is known of a slot that was found, of its value, and of the result, in the cache as it then is
    let members : HashMembers K'.Denot = record { eq = equal.eq; hash_input = hash.hash_input } in
    let Fetched : R.Denot → Found.Denot → Type 0 = Slot-fetched K' V' S' A' H' members build hasher heap key post r.now in
    let Made : R.Denot → Found.Denot → Type 0 = Slot-made K' V' S' A' H' members build hasher heap key post r.now in
    let Failed : R.Denot → Found.Denot → Type 0 = Slot-err K' V' S' A' H' members build hasher heap key post r.now in
    let Absent : R.Denot → Found.Denot → Type 0 = Slot-absent K' V' S' A' H' members build hasher heap key post r.now in
    let Unchanged : R.Denot → Found.Denot → Type 0 = Slot-machine K' V' S' A' H' members build hasher heap key post r.now in
    let Counts : R.Denot → Found.Denot → Type 0 = Slot-counts K' V' S' A' H' members build hasher heap key post r.now in
    let Index : R.Denot → Found.Denot → Type 0 = Slot-index K' V' S' A' H' members build hasher heap key post r.now in
    let Comparisons : R.Denot → Found.Denot → Type 0 = Slot-asked K' V' S' A' H' members build hasher heap key post r.now in
    let Known : R.Denot → Found.Denot → Type 0 = Slot-known K' V' S' A' H' members build hasher heap key post r.now in
    let At-slot : R.Denot → Found.Denot → Out.Denot → Type 0 = Lent K' V' S' A' H' members build hasher heap key post r.now in
    let Value : R.Denot → Out.Denot → Type 0 = Has-value K' V' S' A' H' members build hasher heap key post r.now in
    let Error : R.Denot → Out.Denot → Type 0 = Is-err K' V' S' A' H' members build hasher heap key post r.now in
    let Missing : R.Denot → Out.Denot → Type 0 = Is-absent K' V' S' A' H' members build hasher heap key post r.now in
    let Asks : Type 0 = slot_of (equal.eq key) r.now.machine ≡ None → called.pre f tt in
    qed 𝓛 (((‵ (flft κ q) ⊛ rest) ⊛ ‵ (owns (types_at En.signature.params κs) z.0.3 z.0.4)) ∷ raw (fact 𝓤 (μK ⊑ K.lives)) ∷ raw (fact 𝓤 (μV ⊑ V.lives)) ∷ raw (fact 𝓤 (μS ⊑ S.lives)) ∷
    raw (fact 𝓤 (μA ⊑ A.lives)) ∷ raw (fact 𝓤 (μH ⊑ H.lives)) ∷ raw (fact 𝓤 (μF ⊑ F.lives)) ∷ raw (fact 𝓤 (μE ⊑ E.lives)) ∷ raw (fact 𝓤 Asks) ∷ []) ∵
    hears ! (μK ⊑ K.lives) (λ in_K. hears ! (μV ⊑ V.lives) (λ in_V. hears ! (μS ⊑ S.lives) (λ in_S. hears ! (μA ⊑ A.lives) (λ in_A.
    hears ! (μH ⊑ H.lives) (λ in_H. hears ! (μF ⊑ F.lives) (λ in_F. hears ! (μE ⊑ E.lives) (λ in_E. hears ! Asks (λ can.
    split ! $ split ! $ move ! (2 ∷ []) $ fsplit3 ! $ move ! (2 ∷ []) $ fsplit ! $ keep ! (2 ∷ 3 ∷ 0 ∷ 4 ∷ 5 ∷ []) $
    rewrite ! 0 (λ (ws : List Val). ‵ ((MutRef (named 0) κ R).own_val r ws)) are.0.0 refl $
    rewrite ! 1 (λ (ws : List Val). ‵ (K'.own_val key ws)) key_got.1 refl $ rewrite ! 2 (λ (ws : List Val). ‵ (F'.own_val f ws)) f_got.1 refl $
    suffices ! (Run vs) (subst (λ (ws : List Val). ent 𝓤 (Run vs) (Run ws)) (sym (λ i. are.0.0 i ++ (key_got.1 i ++ (f_got.1 i ++ [])))) (id⊢ 𝓤 (Run vs))) $
    enter ! 𝓣.C 𝓣.Λ fn vs Post $ alloc_all ! (λ l. pass_all ! refl ((tt, tt), (key_got.2, (f_got.2, tt))) $
    -- [self; the key; the closure; κ; the other tokens]
    sets ! (addr ! (through ! refl (stop !))) refl (tt, tt) $ sets ! (of_opd ! (get ! refl)) refl key_got.2 $ sets ! (of_opd ! (get ! refl)) refl f_got.2 $
    let Loan = λ (p : ℕ × GName). ‵ ((MutRef (named 0) (p.0 ∷ κ) R).own_val (record r { ghost_name = p.1 }) (mut_vals r)) in
    move ! (0 ∷ 3 ∷ []) $ use2 𝓛 (later (some (λ (p : ℕ × GName). Loan p ⊛ ‵ (flft (p.0 ∷ κ) (right q)) ⊛ raw (Kept 𝓛 R κ q r p)))) (lends_within 𝓛 R κ q r) $
    await ! tt $ pick ! (λ p. split3 ! $
    -- [the loan; its token; what is kept; the key; the closure; the other tokens]
    let α : Lft = p.0 ∷ κ in let within = meet_⊑_right (p.0 ∷ []) κ in
    let G = triple_of 𝓛 (search.signature K V S A H F E hash d₀ equals d₁ equal d₂ build d₃ hasher d₄ heap d₅ d₆ d₇ d₈ d₉ called d₁₀ d₁₁)
    (search.spec K V S A H F E hash d₀ equals d₁ equal d₂ build d₃ hasher d₄ heap d₅ d₆ d₇ d₈ d₉ called d₁₀ d₁₁ 𝓛 𝓜.mem 𝓡.returns) in
    let T = search.ended K V S A H F E hash d₀ equals d₁ equal d₂ build d₃ hasher d₄ heap d₅ d₆ d₇ d₈ d₉ called d₁₀ d₁₁ in
    let y : G.Ghost = (
      (
        (α, κs.1),
        (right q, qs.1),
        (⊑_trans α κ μK within z.0.2.0, (⊑_trans α κ μV within z.0.2.1.0, (⊑_trans α κ μS within z.0.2.1.1.0, (⊑_trans α κ μA within z.0.2.1.1.1.0, tt)))),
        (record r { ghost_name = p.1 }, (key, (f, tt))),
        (mut_vals r, (vk ∷ [], (vf ∷ [], tt))),
      ),
      tt,
    ) in
    nothing ! $ move ! (5 ∷ 0 ∷ []) $ fjoin ! $ move ! (4 ∷ 0 ∷ []) $ fjoin ! $ move ! (1 ∷ 0 ∷ []) $ fjoin ! $ move ! (1 ∷ 3 ∷ []) $ join ! $ join ! $
    knows ! Asks can $ says ! (μE ⊑ E.lives) in_E $ says ! (μF ⊑ F.lives) in_F $ says ! (μH ⊑ H.lives) in_H $
    says ! (μA ⊑ A.lives) in_A $ says ! (μS ⊑ S.lives) in_S $ says ! (μV ⊑ V.lives) in_V $ says ! (μK ⊑ K.lives) in_K $
    move ! (1 ∷ 0 ∷ []) $ use2 𝓛 (raw (G.pre y)) (id⊢ 𝓤 _) $
    calls_at ! (framed 𝓤 Hp 𝓜 𝓣) G (search_met 𝓤 𝓛 𝓜 𝓡 (code.calls-clock2q_cache::cache::Cache::try_find_or_insert 𝓡.env wired) K V S A H F E LK LV LS LA LH LF LE
    hash d₀ equals d₁ equal d₂ build d₃ hasher d₄ heap d₅ d₆ d₇ d₈ d₉ called d₁₀ d₁₁ by_hash by_equals by_equal by_build by_hasher by_heap drops_K drops_V drops_A drops_H by_call drops_F) y
    (and_then ! (get ! refl) (and_then ! (get ! refl) (and_then ! (get ! refl) (no_more !)))) (λ v.
    use1 𝓛 (later (some (λ (x : Found.Denot). ((‵ (flft α (right q)) ⊛ rest) ⊛ ‵ (Found.own_val x (v ∷ []))) ⊛ some (λ (ws : Lasts T y.0.0 y.0.3). ‵ (lasts T y.0.0 y.0.3 ws) ⊛
    raw (fact 𝓤 (Fetched ws.0 x)) ⊛ raw (fact 𝓤 (Made ws.0 x)) ⊛ raw (fact 𝓤 (Failed ws.0 x)) ⊛ raw (fact 𝓤 (Absent ws.0 x)) ⊛
    raw (fact 𝓤 (Unchanged ws.0 x)) ⊛ raw (fact 𝓤 (ws.0.hasher ≡ r.now.hasher)) ⊛ raw (fact 𝓤 (Counts ws.0 x)) ⊛ raw (fact 𝓤 (Index ws.0 x)) ⊛ raw (fact 𝓤 (Comparisons ws.0 x)) ⊛ raw (fact 𝓤 (Known ws.0 x)))))) (id⊢ 𝓤 _) $
    await ! tt $ pick ! (λ x. split ! $ split ! $ split ! $ move ! (2 ∷ []) $ peeks ! Found (Is Found) (shows 𝓛 Found) x (v ∷ []) (λ is.
    let fits = ((Found-laws.lawful 𝓛).typed x (v ∷ []) is).0 in lands_as ! refl refl fits $
    -- [what was found; the loan's token; the other tokens; the last values; what is kept]
    move ! (3 ∷ []) $ pick ! (λ ws. let n : R.Denot = ws.0 in let r' : MutBor R.Denot = record r { now = n } in
    split ! $ move ! (1 ∷ []) $ learns ! (Fetched n x) (λ is_fetched. learns ! (Made n x) (λ is_made. learns ! (Failed n x) (λ is_err. learns ! (Absent n x) (λ is_absent.
    learns ! (Unchanged n x) (λ is_machine. learns ! (n.hasher ≡ r.now.hasher) (λ is_hasher. learns ! (Counts n x) (λ is_counts. learns ! (Index n x) (λ is_index. learns ! (Comparisons n x) (λ is_asked. heard ! (Known n x) (λ is_known. fsplit ! $ fsplit ! $
    -- [the loan's last value; its borrow; the others; what was found; the loan's token; the other tokens; what is kept]
    move ! (4 ∷ 6 ∷ 0 ∷ []) $ use3 𝓛 (later (‵ ((MutRef (named 0) κ R).own_val r' (mut_vals r)) ⊛ ‵ (flft κ q))) (comes_within 𝓛 R κ q r p n) $ await ! tt $ split ! $
    -- [self; κ; the loan's borrow; the others; what was found; the other tokens]
    move ! (5 ∷ []) $ split ! $ move ! (1 ∷ []) $ split ! $ move ! (1 ∷ []) $ split ! $ move ! (1 ∷ []) $ split ! $ move ! (1 ∷ []) $ split ! $ move ! (1 ∷ []) $ split ! $
    -- [F's token; E's; those of H, A, S, V and K; self; κ; the loan's borrow; the others; what was found]
    let ν : Lft = κ ++ μH in let near = meet_⊑_left κ μH in
    let outlived = the_within K' V' S' A' H' hash equal build hasher heap ν (⊑_trans ν κ K.lives near (⊑_trans κ μK K.lives z.0.2.0 in_K))
    (⊑_trans ν κ V.lives near (⊑_trans κ μV V.lives z.0.2.1.0 in_V)) (⊑_trans ν κ S.lives near (⊑_trans κ μS S.lives z.0.2.1.1.0 in_S))
    (⊑_trans ν κ A.lives near (⊑_trans κ μA A.lives z.0.2.1.1.1.0 in_A)) (⊑_trans ν μH H.lives (meet_⊑_right κ μH) in_H) in
    move ! (7 ∷ 8 ∷ 2 ∷ []) $ use3 𝓛 (later (‵ ((ShrRef (named 0) κ R).own_val (as_bor r') (mut_vals r)) ⊛ ‵ (fres r.ghost_name (R.coded.code n)) ⊛ ‵ (flft κ q) ⊛ tH))
    (shares_for_good 𝓛 R κ q r' LR μH qs.1.1.1.1.1.0 outlived) $ await ! tt $ split3 ! $ move ! (2 ∷ []) $ split ! $
    -- [κ; H's token; self, shared; its last value; F's token; E's; those of A, S, V and K; the loan's borrow; the others; what was found]
    sets ! (addr ! (through ! refl (stop !))) refl (tt, tt) $ sets ! (of_opd ! (get ! refl)) refl fits $
    let G' = triple_of 𝓛 (lend.signature K V S A H E hash d₀ equals d₁ equal d₂ build d₃ hasher d₄ heap d₅ d₆ d₇ d₈ d₉)
    (lend.spec K V S A H E hash d₀ equals d₁ equal d₂ build d₃ hasher d₄ heap d₅ d₆ d₇ d₈ d₉ 𝓛 𝓜.mem 𝓡.returns) in
    let T' = lend.ended K V S A H E hash d₀ equals d₁ equal d₂ build d₃ hasher d₄ heap d₅ d₆ d₇ d₈ d₉ in
    let y' : G'.Ghost = (
      (
        (κ, (μK, (μV, (μS, (μA, (μH, (μE, tt))))))),
        (q, (qs.1.0, (qs.1.1.0, (qs.1.1.1.0, (qs.1.1.1.1.0, (qs.1.1.1.1.1.0, (qs.1.1.1.1.1.1.1.0, tt))))))),
        (z.0.2.0, (z.0.2.1.0, (z.0.2.1.1.0, (z.0.2.1.1.1.0, tt)))),
        (as_bor r', (x, tt)),
        (mut_vals r, (v ∷ [], tt)),
      ),
      tt,
    ) in
    move ! (1 ∷ 5 ∷ []) $ join ! $ move ! (5 ∷ 0 ∷ []) $ join ! $ move ! (5 ∷ 0 ∷ []) $ join ! $ move ! (5 ∷ 0 ∷ []) $ join ! $ move ! (5 ∷ 0 ∷ []) $ join ! $ move ! (1 ∷ 0 ∷ []) $ join ! $
    -- [the tokens; self, shared; its last value; F's token; the loan's borrow; the others; what was found]
    nothing ! $ move ! (7 ∷ 0 ∷ []) $ fjoin ! $ move ! (2 ∷ 0 ∷ []) $ fjoin ! $ move ! (1 ∷ 0 ∷ []) $ join ! $
    knows ! (Made n x) is_made $ says ! (μE ⊑ E.lives) in_E $ says ! (μH ⊑ H.lives) in_H $ says ! (μA ⊑ A.lives) in_A $
    says ! (μS ⊑ S.lives) in_S $ says ! (μV ⊑ V.lives) in_V $ says ! (μK ⊑ K.lives) in_K $
    move ! (1 ∷ 0 ∷ []) $ use2 𝓛 (raw (G'.pre y')) (id⊢ 𝓤 _) $
    calls_at ! (framed 𝓤 Hp 𝓜 𝓣) G' (lend_met 𝓤 𝓛 𝓜 𝓡 (code.calls-clock2q_cache::cache::Cache::value_found 𝓡.env wired) K V S A H E LK LV LS LA LH LE
    hash d₀ equals d₁ equal d₂ build d₃ hasher d₄ heap d₅ d₆ d₇ d₈ d₉ by_hash by_equals by_equal by_build by_hasher by_heap drops_K drops_V drops_A drops_H) y'
    (and_then ! (get ! refl) (and_then ! (get ! refl) (no_more !))) (λ u.
    use1 𝓛 (later (some (λ (t : Out.Denot). ((‵ (flft κ q) ⊛ tK ⊛ tV ⊛ tS ⊛ tA ⊛ tH ⊛ tE ⊛ ‵ ftrue) ⊛ ‵ (Out.own_val t (u ∷ []))) ⊛
    some (λ (ws' : Lasts T' y'.0.0 y'.0.3). ‵ (lasts T' y'.0.0 y'.0.3 ws') ⊛ raw (fact 𝓤 (At-slot n x t)))))) (id⊢ 𝓤 _) $
    await ! tt $ pick ! (λ t. split ! $ split ! $ move ! (1 ∷ []) $ peeks ! Out (Is Out) (shows 𝓛 Out) t (u ∷ []) (λ is'.
    lands_as ! refl refl ((Out-laws.lawful 𝓛).typed t (u ∷ []) is').0 $
    -- [the result; the tokens; the last values; self's last value; F's token]
    move ! (2 ∷ []) $ pick ! (λ ws'. split ! $ hears ! (At-slot n x t) (λ is_lent.
    move ! (2 ∷ []) $ split ! $ move ! (1 ∷ []) $ split ! $ move ! (1 ∷ []) $ split ! $ move ! (1 ∷ []) $ split ! $ move ! (1 ∷ []) $ split ! $ move ! (1 ∷ []) $ split ! $
    -- [H's token; E's; those of A, S, V and K; κ; the last values; the result; self's last value; F's token]
    move ! (10 ∷ 1 ∷ []) $ join ! $ move ! (1 ∷ 0 ∷ []) $ join ! $ move ! (1 ∷ 0 ∷ []) $ join ! $ move ! (1 ∷ 0 ∷ []) $ join ! $
    move ! (1 ∷ 0 ∷ []) $ join ! $ move ! (1 ∷ 0 ∷ []) $ join ! $ move ! (1 ∷ 0 ∷ []) $ join ! $
    -- [the tokens; the last values; the result; self's last value]
    let ends = fetches K' V' S' A' H' members build hasher heap key post r.now n x t
    (record { fetched = is_fetched; err = is_err; absent = is_absent; machine = is_machine; hasher = is_hasher; counts = is_counts; index = is_index; asked = is_asked; known = is_known }) is_lent in
    let After : R.Denot → Type 0 = Tries K' V' S' A' H' members build hasher heap r.now key t in
    move ! (3 ∷ []) $ use1 𝓛 (raw (sem 𝓛 (LeavesTried K' V' S' A' H' members build hasher heap r key t))) (rests_so 𝓛 R r.ghost_name After n ends.tries) $
    knows ! (Missing n t) ends.absent $ says ! (Error n t) ends.err $ says ! (Value n t) ends.value $ move ! (1 ∷ 0 ∷ []) $ join ! $
    nothing ! $ nothing ! $ fjoin ! $ nothing ! $ fjoin ! $ nothing ! $ fjoin ! $
    returns ! (look_at ! 0 refl) $ free_all ! refl $ keep ! (2 ∷ 0 ∷ 4 ∷ 1 ∷ []) $
    by ! (leaves 𝓛 En hs c z u t (tt, (tt, (tt, tt))) (tt, (tt, (tt, tt))))))))))))))))))))))))))))))))))
