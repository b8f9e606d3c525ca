-- `open` copies the two words back: if there is a cache, they own its box.
use Rattle.std.proofs.Common.{◌≡◌, List, [], ◌∷◌, ◌++◌, refl, sym, subst}
use mir.Val.{Val, vptr}
use base.Logic.{SProp, ent, emp, id⊢}
use base.Fml.{ftrue}
use prog.Wp.{WpFn}
use types.Kit.{‵, raw, ◌⊛◌, ◌$◌, ◌∵◌, !, qed, by, move, keep, split, fsplit, fjoin, suffices, rewrite, use0}
use types.Run.{stop, fld, of_opd, no_more, and_then, returns, enter}
use types.ByLocal.{alloc_all, pass_all, free_all, look_at, get, get_in, sets}
use types.Part.{agg, sub, whole}
use contract.Monad.{fact, fact_i}
use contract.Running.{tables}
use denote.Exit.{yes}
use denote.RattleType.{RattleType, owns}
use denote.Signature.{types_at, plain}
use denote.RawPtr.{block_ptr}
use denote.Steps.{nothing, heard}
use denote.Triple.Walked.{Stays, stay_dropped, walk_of}
use Rattle.std.proofs.alloc.Calls.{Goes-blank}
use Rattle.std.proofs.raw_atomic.Walks.{proved_at, leaves}
use Rattle.std.specs.contracts.alloc.Global as global
use Rattle.std.specs.contracts.impls.GlobalAllocator.TheImpl as heap
use Rattle.std.proofs.alloc.Global.TheLaws as heap_laws
use Rattle.clock2q_c.specs.Tokens.{tokens_row}
use Rattle.std.specs.Prelude.{Option, Some, IsSome}
use Rattle.clock2q_c.specs.Tokens.{TokensInC}
use Rattle.clock2q_c.proofs.Words.{both, some_of, words_good, words_out, words_in}
use Rattle.clock2q_c.specs.contracts.tokens.handle.TokensHandle as handle
use Rattle.clock2q_c.specs.contracts.tokens.handle.TokensHandle.«open».{ended, clauses}
use Rattle.clock2q_c.specs.contracts.tokens.handle.TokensHandle.«open».Key.{name as #self}
use Rattle.clock2q_c.proofs.tokens.handle.TokensHandle.«open».Statement.{statement}
use Rattle.clock2q_c.proofs.tokens.handle.TokensHandle.«open».Code as code

abbrev Z : RattleType
Z = global.the_row

abbrev Handle : RattleType
Handle = handle.the_row

abbrev stays : Stays ended.signature.params ended.kept
stays = (stay_dropped (plain (λ _. Handle)) yes, tt)

pub open_spec : {M : Type 1} → statement M
open_spec 𝓤 𝓛 𝓜 𝓡 wired =
    let H = 𝓛.H in let 𝓣 = tables 𝓤 H 𝓜 𝓡 𝓡.env in let c = clauses 𝓛 𝓜.mem 𝓡.returns in let fn = code.function in let LZ = heap_laws.the_row_laws in let g = heap.ghosts in
    proved_at 𝓛 ended stays c 𝓜 𝓡 (Goes-blank 𝓛 0 (plain (λ _. Handle)) yes (λ κs x f. tt), tt) #self fn (code.unfolded 𝓤 H 𝓜 𝓡 wired) (λ z are.
    let whole_handle = z.0.3.0 in let a = whole_handle.alloc in
    let Post : Val → SProp 𝓤 = (walk_of 𝓛 ended stays c).post z in let Run : List Val → SProp 𝓤 = λ ws. WpFn 𝓤 H 𝓣.C 𝓣.Λ fn ws Post in
    qed 𝓛 ((‵ ftrue ⊛ ‵ (owns (types_at ended.signature.params z.0.0) z.0.3 z.0.4)) ∷ raw (fact 𝓤 (IsSome whole_handle.cache)) ∷ []) ∵
    move ! (1 ∷ []) $ heard ! (IsSome whole_handle.cache) (λ is. let there = some_of whole_handle.cache is in let x = there.0 in split ! $ move ! (1 ∷ []) $ fsplit ! $
    rewrite ! 0 (λ (o : Option TokensInC). ‵ (Handle.own_val (record { pointer = whole_handle.pointer; alloc = a; cache = o }) z.0.4.0)) there.1 refl $
    words_out Z LZ g tokens_row ! whole_handle.pointer a x z.0.4.0 (λ b o h ws fits.
    let w : Val = both (vptr b o) h in let typed = words_good Z LZ g b o h fits in
    suffices ! (Run (w ∷ [])) (subst (λ (us : List Val). ent 𝓤 (Run (w ∷ [])) (Run us)) (sym (λ i. ws i ++ [])) (id⊢ 𝓤 (Run (w ∷ [])))) $
    enter ! 𝓣.C 𝓣.Λ fn (w ∷ []) Post $ alloc_all ! (λ l. pass_all ! refl (typed, tt) $
    sets ! (of_opd ! (get_in ! (fld ! refl (stop !)) (sub ! 0 refl (whole !)))) refl (tt, tt) $ sets ! (of_opd ! (get_in ! (fld ! refl (stop !)) (sub ! 1 refl (whole !)))) refl fits $
    sets ! (of_opd ! (get ! refl)) refl (tt, tt) $ sets ! (agg ! (and_then ! (get ! refl) (and_then ! (get ! refl) (no_more !)))) refl typed $
    move ! (1 ∷ []) $ words_in Z LZ g ! (block_ptr b o) h a $ fjoin ! $ use0 𝓛 (raw (fact 𝓤 (Some x ≡ whole_handle.cache))) (fact_i 𝓤 (Some x ≡ whole_handle.cache) (emp 𝓤) (sym there.1)) $
    returns ! (look_at ! 0 refl) $ free_all ! refl $ nothing ! $ nothing ! $ fjoin ! $ keep ! (4 ∷ 0 ∷ 2 ∷ 1 ∷ []) $
    by ! (leaves 𝓛 ended stays c z w (record { pointer = block_ptr b o; alloc = a; value = x }) (_, tt) (tt, tt))))))
