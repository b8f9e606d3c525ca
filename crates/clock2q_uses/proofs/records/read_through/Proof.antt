-- The cache is lent for the fetch. Once the value that was lent is copied, the loan ends, and what the cache ends as is
-- known. The checker learns nothing of the cache from a call that lends at an error of any type, so this is a walk by
-- hand. Assumes `Logic`.
use Rattle.std.proofs.Common.{◌≡◌, ℕ, List, [], ◌∷◌, ◌++◌, refl, sym, subst, None, MutBor}
use Rattle.std.specs.HashMap.Lent.{HashMembers}
use Rattle.std.specs.contracts.result.Result as result
use Rattle.std.proofs.result.Result.TheLaws.{the_row_laws as result_laws}
use mir.Syntax.{impl, tcons, tnil}
use denote.Param.{copied}
use denote.Param.Laws.{copied_laws}
use denote.Param.NoDrop.{glues}
use Rattle.clock2q_cache.proofs.Walks.{a_type, named, dcons, dnil, Val, vptr, inst_fn, SProp, ent, id⊢, right, Lft, Share, GName, ftrue, flft, fres, WpFn, fact, ◌⊑◌, ⊑_trans, meet_⊑_right, tables, sem, ‵, raw, ◌⊛◌, some, later, ◌$◌, ◌∵◌, !, qed, by, move, keep, use1, use2, use3, split, split3, join, fsplit, fsplit3, fjoin, pick, await, rewrite, suffices, stop, addr, of_opd, no_more, and_then, returns, enter, alloc_all, pass_all, free_all, look_at, get, through, sets, lands_as, no, RattleType, owns, Is, shows, MutRef, ShrRef, mut_vals, param, layout, bounded, param_laws, types_at, type_at, plain, nothing, heard, peeks, triple_of, calls_at, Lasts, lasts, framed, Stays, stay_dropped, stay_ref, walk_of, Goes-ref, Goes-dropped, proved_at, leaves, one, hears, learns, says, knows}
use Rattle.clock2q_cache.proofs.Shared.{so_rests, Kept, lends_within, comes_within, ref_laws}
use Rattle.clock2q_cache.proofs.Tried.{Has-value, Is-err, Is-absent}
use Rattle.clock2q_cache.specs.CacheLends.{Tries, LeavesTried}
use Rattle.clock2q_cache.specs.contracts.cache.Cache.{the_row}
use Rattle.clock2q_cache.specs.contracts.cache.Cache.try_get_or_insert_with as fetch
use Rattle.clock2q_cache.proofs.cache.Cache.try_get_or_insert_with.Met.{met as fetch_met}
use Rattle.clock2q_machine.specs.Machine.{slot_of}
use Rattle.clock2q_uses.proofs.Destruct++none.drop.Code as no_drop
use Rattle.clock2q_uses.specs.contracts.records.copied as copy
use Rattle.clock2q_uses.proofs.records.copied.Met.{met as copy_met}
use Rattle.clock2q_uses.proofs.Reading.{Copied, Read-machine, Read-value, Read-err, Read-absent, Unchanged, reads}
use Rattle.clock2q_uses.specs.contracts.records.read_through.{ended, clauses}
use Rattle.clock2q_uses.specs.contracts.records.read_through.Key.{name as #self}
use Rattle.clock2q_uses.proofs.records.read_through.Statement.{statement}
use Rattle.clock2q_uses.proofs.records.read_through.Code as code

pub read_through_spec : {M : Type 1} → statement M
unfolding no_drop.code LeavesTried
read_through_spec {M} 𝓤 𝓛 𝓜 𝓡 wired K V S A F E H LK LV LS LA LF LE LH CV
    hash d₀ equals d₁ equal d₂ clone d₃ build d₄ hasher d₅ heap d₆ called d₇ d₈ d₉ d₁₀ d₁₁ by_hash by_equals by_equal by_clone by_build by_hasher by_heap by_call drops_K drops_A drops_F drops_H =
    let Hp = 𝓛.H in let 𝓣 = tables 𝓤 Hp 𝓜 𝓡 𝓡.env in
    let En = ended K V S A F E H hash d₀ equals d₁ equal d₂ clone d₃ build d₄ hasher d₅ heap d₆ called d₇ d₈ d₉ d₁₀ d₁₁ in
    let c = clauses K V S A F E H hash d₀ equals d₁ equal d₂ clone d₃ build d₄ hasher d₅ heap d₆ called d₇ d₈ d₉ d₁₀ d₁₁ 𝓛 𝓜.mem 𝓡.returns in
    let ds = dcons d₀ (dcons d₁ (dcons d₂ (dcons d₃ (dcons d₄ (dcons d₅ (dcons d₆ (dcons d₇ (dcons d₈ (dcons d₉ (dcons d₁₀ (dcons d₁₁ dnil))))))))))) in
    let inst = bounded (a_type ∷ a_type ∷ a_type ∷ a_type ∷ a_type ∷ a_type ∷ a_type ∷ []) (K, (V, (S, (A, (F, (E, (H, tt))))))) ds in let fn = inst_fn inst code.function in
    let K' : RattleType = param 0 K in let V' : RattleType = copied 1 V in let S' : RattleType = param 2 S in let A' : RattleType = param 3 A in
    let F' : RattleType = param 4 F in let E' : RattleType = param 5 E in let H' : RattleType = param 6 H in
    let LK' = param_laws 0 K LK in let LV' = copied_laws 1 V LV in let LF' = param_laws 4 F LF in let LE' = param_laws 5 E LE in
    let R : RattleType = the_row K' V' S' A' H' hash equal build hasher heap in
    let hs : Stays En.signature.params En.kept = (stay_ref (0 ∷ []) tt (plain (λ _. R)), (stay_dropped (plain (λ _. K')) no, (stay_dropped (plain (λ _. F')) no, tt))) in
    proved_at 𝓛 En hs c 𝓜 𝓡 (Goes-ref 𝓛 8 0 tt (plain (λ _. R)), (Goes-dropped 𝓛 8 (plain (λ _. K')) no (λ κs x f. refl), (Goes-dropped 𝓛 8 (plain (λ _. F')) no (λ κs x f. refl), tt)))
    (#self inst) fn (code.unfolded 𝓤 Hp 𝓜 𝓡 wired (K, (V, (S, (A, (F, (E, (H, tt))))))) d₀ d₁ d₂ d₃ d₄ d₅ d₆ d₇ d₈ d₉ d₁₀ d₁₁) (λ z are.
    let κs = z.0.0 in let qs = z.0.1 in
    let Post : Val → SProp 𝓤 = (walk_of 𝓛 En hs c).post z in let Run : List Val → SProp 𝓤 = λ ws. WpFn 𝓤 Hp 𝓣.C 𝓣.Λ fn ws Post in
    let κ : Lft = κs.0 in let q : Share = qs.0 in
    let μK : Lft = κs.1.0 in let μV : Lft = κs.1.1.0 in let μS : Lft = κs.1.1.1.0 in let μA : Lft = κs.1.1.1.1.0 in
    let μF : Lft = κs.1.1.1.1.1.0 in let μE : Lft = κs.1.1.1.1.1.1.0 in let μH : Lft = κs.1.1.1.1.1.1.1.0 in
    let qK : Share = qs.1.0 in let qV : Share = qs.1.1.0 in let qS : Share = qs.1.1.1.0 in let qA : Share = qs.1.1.1.1.0 in
    let qF : Share = qs.1.1.1.1.1.0 in let qE : Share = qs.1.1.1.1.1.1.0 in let qH : Share = qs.1.1.1.1.1.1.1.0 in
    let tK = ‵ (flft μK qK) in let tV = ‵ (flft μV qV) in let tS = ‵ (flft μS qS) in let tA = ‵ (flft μA qA) in
    let tF = ‵ (flft μF qF) in let tE = ‵ (flft μE qE) in let tH = ‵ (flft μH qH) in
    let r : MutBor R.Denot = z.0.3.0 in let b : ℕ = r.ref_ptr.0 in let o : ℕ = r.ref_ptr.1 in let key = z.0.3.1.0 in let f = z.0.3.1.1.0 in let post = called.post f tt in
    let key_got = one (layout K) z.0.4.1.0 ((LK'.lawful 𝓛).typed key z.0.4.1.0 are.1.0) in
    let f_got = one (layout F) z.0.4.1.1.0 ((LF'.lawful 𝓛).typed f z.0.4.1.1.0 are.1.1.0) in
    let vk : Val = key_got.0 in let vf : Val = f_got.0 in let vs : List Val = vptr b o ∷ vk ∷ vf ∷ [] in
    -- what is known of the fetch and of the result
    let members : HashMembers K'.Denot = record { eq = equal.eq; hash_input = hash.hash_input } in
    let Out : RattleType = type_at En.signature.result κs in let Out-laws = result_laws V' E' LV' LE' in
    let Machine-left : R.Denot → Out.Denot → Type 0 = Read-machine K' V' S' A' H' members build hasher heap key post r.now in
    let Value : R.Denot → Out.Denot → Type 0 = Read-value K' V' S' A' H' members build hasher heap key post r.now in
    let Error : R.Denot → Out.Denot → Type 0 = Read-err K' V' S' A' H' members build hasher heap key post r.now in
    let Missing : R.Denot → Out.Denot → Type 0 = Read-absent K' V' S' A' H' members build hasher heap key post r.now in
    let Same : R.Denot → Out.Denot → Type 0 = Unchanged K' V' S' A' H' members build hasher heap key post r.now in
    let Asks : Type 0 = slot_of (equal.eq key) r.now.machine ≡ None → called.pre f tt in
    qed 𝓛 (((‵ (flft κ q) ⊛ tK ⊛ tV ⊛ tS ⊛ tA ⊛ tF ⊛ tE ⊛ tH ⊛ ‵ ftrue) ⊛ ‵ (owns (types_at En.signature.params κs) z.0.3 z.0.4)) ∷
    raw (fact 𝓤 (μK ⊑ K.lives)) ∷ raw (fact 𝓤 (μV ⊑ V.lives)) ∷ raw (fact 𝓤 (μS ⊑ S.lives)) ∷ raw (fact 𝓤 (μA ⊑ A.lives)) ∷
    raw (fact 𝓤 (μF ⊑ F.lives)) ∷ raw (fact 𝓤 (μE ⊑ E.lives)) ∷ raw (fact 𝓤 (μH ⊑ H.lives)) ∷ raw (fact 𝓤 Asks) ∷ []) ∵
    hears ! (μK ⊑ K.lives) (λ in_K. hears ! (μV ⊑ V.lives) (λ in_V. hears ! (μS ⊑ S.lives) (λ in_S. hears ! (μA ⊑ A.lives) (λ in_A.
    hears ! (μF ⊑ F.lives) (λ in_F. hears ! (μE ⊑ E.lives) (λ in_E. hears ! (μH ⊑ H.lives) (λ in_H. hears ! Asks (λ can.
    split ! $ split ! $ move ! (2 ∷ []) $ fsplit3 ! $ move ! (2 ∷ []) $ fsplit ! $ keep ! (2 ∷ 3 ∷ 0 ∷ 4 ∷ 5 ∷ []) $
    rewrite ! 0 (λ (ws : List Val). ‵ ((MutRef (named 0) κ R).own_val r ws)) are.0.0 refl $
    rewrite ! 1 (λ (ws : List Val). ‵ (K'.own_val key ws)) key_got.1 refl $ rewrite ! 2 (λ (ws : List Val). ‵ (F'.own_val f ws)) f_got.1 refl $
    suffices ! (Run vs) (subst (λ (ws : List Val). ent 𝓤 (Run vs) (Run ws)) (sym (λ i. are.0.0 i ++ (key_got.1 i ++ (f_got.1 i ++ [])))) (id⊢ 𝓤 (Run vs))) $
    enter ! 𝓣.C 𝓣.Λ fn vs Post $ alloc_all ! (λ l. pass_all ! refl ((tt, tt), (key_got.2, (f_got.2, tt))) $
    -- [the cache; the key; the closure; κ; the other tokens]
    sets ! (addr ! (through ! refl (stop !))) refl (tt, tt) $ sets ! (of_opd ! (get ! refl)) refl key_got.2 $ sets ! (of_opd ! (get ! refl)) refl f_got.2 $
    let Loan = λ (p : ℕ × GName). ‵ ((MutRef (named 0) (p.0 ∷ κ) R).own_val (record r { ghost_name = p.1 }) (mut_vals r)) in
    move ! (0 ∷ 3 ∷ []) $ use2 𝓛 (later (some (λ (p : ℕ × GName). Loan p ⊛ ‵ (flft (p.0 ∷ κ) (right q)) ⊛ raw (Kept 𝓛 R κ q r p)))) (lends_within 𝓛 R κ q r) $
    await ! tt $ pick ! (λ p. split3 ! $
    -- [the loan; its token; what is kept; the key; the closure; the other tokens]
    move ! (5 ∷ []) $ split ! $ move ! (1 ∷ []) $ split ! $ move ! (1 ∷ []) $ split ! $ move ! (1 ∷ []) $ split ! $ move ! (1 ∷ []) $ split ! $ move ! (1 ∷ []) $ split ! $ move ! (1 ∷ []) $ split ! $
    -- [H's token; nothing; E's; those of F, A, S, V and K; the loan; its token; what is kept; the key; the closure],
    -- then the tokens as the fetch takes them
    move ! (2 ∷ 1 ∷ []) $ join ! $ move ! (2 ∷ 0 ∷ []) $ join ! $ move ! (1 ∷ 0 ∷ []) $ join ! $ move ! (1 ∷ 0 ∷ []) $ join ! $ move ! (1 ∷ 0 ∷ []) $ join ! $ move ! (1 ∷ 0 ∷ []) $ join ! $
    move ! (1 ∷ 0 ∷ []) $ join ! $
    -- [the other tokens; the loan; its token; what is kept; the key; the closure]
    let α : Lft = p.0 ∷ κ in let within = meet_⊑_right (p.0 ∷ []) κ in
    let drop_V = impl ("clock2q_uses::Destruct++none::drop" ∷ []) (tcons (layout V) tnil) dnil in
    let drops_V = glues "clock2q_uses::Destruct++none::drop" 𝓡.env (code.calls-clock2q_uses::Destruct++none::drop 𝓡.env wired) V LV M 𝓤 𝓛 𝓜 𝓡 in
    let G = triple_of 𝓛 (fetch.signature K V S A H F E hash d₀ equals d₁ equal d₂ build d₄ hasher d₅ heap d₆ d₈ drop_V d₉ d₁₁ called d₇ d₁₀)
    (fetch.spec K V S A H F E hash d₀ equals d₁ equal d₂ build d₄ hasher d₅ heap d₆ d₈ drop_V d₉ d₁₁ called d₇ d₁₀ 𝓛 𝓜.mem 𝓡.returns) in
    let T = fetch.ended K V S A H F E hash d₀ equals d₁ equal d₂ build d₄ hasher d₅ heap d₆ d₈ drop_V d₉ d₁₁ called d₇ d₁₀ in
    let y : G.Ghost = (
      (
        (α, (μK, (μV, (μS, (μA, (μH, (μF, (μE, tt)))))))),
        (right q, (qK, (qV, (qS, (qA, (qH, (qF, (qE, tt)))))))),
        (⊑_trans α κ μK within z.0.2.0, (⊑_trans α κ μV within z.0.2.1.0, (⊑_trans α κ μS within z.0.2.1.1.0, (⊑_trans α κ μA within z.0.2.1.1.1.0, tt)))),
        (record r { ghost_name = p.1 }, (key, (f, tt))),
        (mut_vals r, (vk ∷ [], (vf ∷ [], tt))),
      ),
      tt,
    ) in
    nothing ! $ move ! (6 ∷ 0 ∷ []) $ fjoin ! $ move ! (5 ∷ 0 ∷ []) $ fjoin ! $ move ! (2 ∷ 0 ∷ []) $ fjoin ! $ move ! (2 ∷ 1 ∷ []) $ join ! $ join ! $
    knows ! Asks can $ says ! (μE ⊑ E.lives) in_E $ says ! (μF ⊑ F.lives) in_F $ says ! (μH ⊑ H.lives) in_H $
    says ! (μA ⊑ A.lives) in_A $ says ! (μS ⊑ S.lives) in_S $ says ! (μV ⊑ V.lives) in_V $ says ! (μK ⊑ K.lives) in_K $
    move ! (1 ∷ 0 ∷ []) $ use2 𝓛 (raw (G.pre y)) (id⊢ 𝓤 _) $
    calls_at ! (framed 𝓤 Hp 𝓜 𝓣) G (fetch_met 𝓤 𝓛 𝓜 𝓡 (code.calls-clock2q_cache::cache::Cache::try_get_or_insert_with 𝓡.env wired) K V S A H F E LK LV LS LA LH LF LE
    hash d₀ equals d₁ equal d₂ build d₄ hasher d₅ heap d₆ d₈ drop_V d₉ d₁₁ called d₇ d₁₀ by_hash by_equals by_equal by_build by_hasher by_heap drops_K drops_V drops_A drops_H by_call drops_F) y
    (and_then ! (get ! refl) (and_then ! (get ! refl) (and_then ! (get ! refl) (no_more !)))) (λ v.
    let Fetch : RattleType = result.the_row (ShrRef (named 0) α V') E' in let Fetch-laws = result_laws (ShrRef (named 0) α V') E' (ref_laws α V' LV') LE' in
    let After : R.Denot → Fetch.Denot → Type 0 = λ n x. Tries K' V' S' A' H' members build hasher heap r.now key x n in
    let Leaves = λ (x : Fetch.Denot). raw (sem 𝓛 (LeavesTried K' V' S' A' H' members build hasher heap (record r { ghost_name = p.1 }) key x)) in
    let Had : Fetch.Denot → Type 0 = Has-value K' V' S' A' H' members build hasher heap key post r.now r.now in
    let Failed : Fetch.Denot → Type 0 = Is-err K' V' S' A' H' members build hasher heap key post r.now r.now in
    let Absent : Fetch.Denot → Type 0 = Is-absent K' V' S' A' H' members build hasher heap key post r.now r.now in
    use1 𝓛 (later (some (λ (x : Fetch.Denot). ((‵ (flft α (right q)) ⊛ tK ⊛ tV ⊛ tS ⊛ tA ⊛ tH ⊛ tF ⊛ tE ⊛ ‵ ftrue) ⊛ ‵ (Fetch.own_val x (v ∷ []))) ⊛
    some (λ (ws : Lasts T y.0.0 y.0.3). ‵ (lasts T y.0.0 y.0.3 ws) ⊛ Leaves x ⊛ raw (fact 𝓤 (Had x)) ⊛ raw (fact 𝓤 (Failed x)) ⊛ raw (fact 𝓤 (Absent x)))))) (id⊢ 𝓤 _) $
    await ! tt $ pick ! (λ x. split ! $ split ! $ split ! $ move ! (2 ∷ []) $ peeks ! Fetch (Is Fetch) (shows 𝓛 Fetch) x (v ∷ []) (λ is.
    let fits = ((Fetch-laws.lawful 𝓛).typed x (v ∷ []) is).0 in lands_as ! refl refl fits $
    -- [what was lent; the loan's token; the other tokens; the last values; what is kept]
    move ! (3 ∷ []) $ pick ! (λ ws. split3 ! $
    move ! (1 ∷ []) $ use1 𝓛 (some (λ (n : R.Denot). raw (fact 𝓤 (After n x)) ⊛ ‵ (fres p.1 (R.coded.code n)))) (so_rests 𝓛 R p.1 (λ n. After n x)) $
    pick ! (λ n. learns ! (After n x) (λ ends. move ! (2 ∷ []) $ learns ! (Had x) (λ had. learns ! (Failed x) (λ failed. heard ! (Absent x) (λ absent.
    -- [the loan's last value; the last values; what was lent; the loan's token; the other tokens; what is kept]
    sets ! (of_opd ! (get ! refl)) refl fits $
    let G' = triple_of 𝓛 (copy.signature V E) (copy.spec V E clone d₃ 𝓛 𝓜.mem 𝓡.returns) in let T' = copy.ended V E clone d₃ in
    let y' : G'.Ghost = (((α, (μV, (μE, tt))), (right q, (qV, (qE, tt))), (⊑_trans α κ μV within z.0.2.1.0, tt), (x, tt), (v ∷ [], tt)), tt) in
    move ! (4 ∷ []) $ split ! $ move ! (1 ∷ []) $ split ! $ move ! (1 ∷ []) $ split ! $ move ! (1 ∷ []) $ split ! $ move ! (1 ∷ []) $ split ! $ move ! (1 ∷ []) $ split ! $ move ! (1 ∷ []) $ split ! $
    -- [E's token; nothing; those of F, H, A, S, V and K; the loan's last value; the last values; what was lent; the loan's token; what is kept]
    move ! (0 ∷ 1 ∷ []) $ join ! $ move ! (5 ∷ 0 ∷ []) $ join ! $ move ! (9 ∷ 0 ∷ []) $ join ! $ nothing ! $ move ! (9 ∷ 0 ∷ []) $ fjoin ! $ move ! (1 ∷ 0 ∷ []) $ join ! $
    -- [the tokens and what was lent; the tokens of F, H, A, S and K; the loan's last value; the last values; what is kept]
    knows ! (μE ⊑ E.lives) in_E $ nothing ! $ move ! (1 ∷ 0 ∷ []) $ join ! $ says ! (μV ⊑ V.lives) in_V $ move ! (1 ∷ 0 ∷ []) $ use2 𝓛 (raw (G'.pre y')) (id⊢ 𝓤 _) $
    calls_at ! (framed 𝓤 Hp 𝓜 𝓣) G' (copy_met 𝓤 𝓛 𝓜 𝓡 (code.calls-clock2q_uses::records::copied 𝓡.env wired) V E LV LE CV clone d₃ by_clone) y' (and_then ! (get ! refl) (no_more !)) (λ u.
    use1 𝓛 (later (some (λ (w : Out.Denot). ((‵ (flft α (right q)) ⊛ tV ⊛ tE ⊛ ‵ ftrue) ⊛ ‵ (Out.own_val w (u ∷ []))) ⊛
    some (λ (ws' : Lasts T' y'.0.0 y'.0.3). ‵ (lasts T' y'.0.0 y'.0.3 ws') ⊛ raw (fact 𝓤 (Copied x w)))))) (id⊢ 𝓤 _) $
    await ! tt $ pick ! (λ w. split ! $ split ! $ move ! (1 ∷ []) $ peeks ! Out (Is Out) (shows 𝓛 Out) w (u ∷ []) (λ is'.
    lands_as ! refl refl ((Out-laws.lawful 𝓛).typed w (u ∷ []) is').0 $
    move ! (2 ∷ []) $ pick ! (λ ws'. split ! $ hears ! (Copied x w) (λ is_copied.
    -- [the last values; the result; the tokens; those of F, H, A, S and K; the loan's last value; its last values; what is kept]
    move ! (2 ∷ []) $ split ! $ move ! (1 ∷ []) $ split ! $ move ! (1 ∷ []) $ split ! $
    -- [E's token; nothing; V's; the loan's; the last values; the result; those of F, H, A, S and K; the loan's last value; its last values; what is kept]
    move ! (7 ∷ 1 ∷ []) $ join ! $ move ! (1 ∷ 0 ∷ []) $ join ! $ move ! (5 ∷ 0 ∷ []) $ join ! $ move ! (5 ∷ 0 ∷ []) $ join ! $ move ! (5 ∷ 0 ∷ []) $ join ! $ move ! (1 ∷ 0 ∷ []) $ join ! $
    move ! (4 ∷ 0 ∷ []) $ join ! $
    -- [the tokens except κ's; the loan's; the last values; the result; the loan's last value; its last values; what is
    -- kept]
    let r' : MutBor R.Denot = record r { now = n } in
    move ! (1 ∷ 6 ∷ 4 ∷ []) $ use3 𝓛 (later (‵ ((MutRef (named 0) κ R).own_val r' (mut_vals r)) ⊛ ‵ (flft κ q))) (comes_within 𝓛 R κ q r p n) $ await ! tt $ split ! $
    move ! (1 ∷ 2 ∷ []) $ join ! $ move ! (1 ∷ []) $ rewrite ! 0 (λ (us : List Val). ‵ ((MutRef (named 0) κ R).own_val r' us)) (sym are.0.0) refl $
    nothing ! $ nothing ! $ fjoin ! $ nothing ! $ fjoin ! $ move ! (1 ∷ 0 ∷ []) $ fjoin ! $
    let read = reads K' V' S' A' H' members build hasher heap key post r.now n x w ends had failed absent is_copied in
    knows ! (n.hasher ≡ r.now.hasher) read.hasher $ says ! (Same n w) read.unchanged $ says ! (Missing n w) read.absent $
    says ! (Error n w) read.err $ says ! (Value n w) read.value $ says ! (Machine-left n w) read.machine $
    returns ! (look_at ! 0 refl) $ free_all ! refl $ keep ! (2 ∷ 1 ∷ 4 ∷ 0 ∷ []) $
    by ! (leaves 𝓛 En hs c z u w (n, (tt, (tt, tt))) (tt, (tt, (tt, tt)))))))))))))))))))))))))))))
