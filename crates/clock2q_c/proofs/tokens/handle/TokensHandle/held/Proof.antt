-- `held` lends what the pointer points to, and the handle changes with it.
use Rattle.std.proofs.Common.{◌≡◌, ℕ, List, [], ◌∷◌, refl, sym}
use mir.Raw.{raw as bare}
use mir.Syntax.{named}
use mir.Val.{Val, vptr}
use seplogic.Ra.Ura.{Ura}
use base.Fraction.{full_share}
use base.Logic.{SProp, ent, sep}
use base.Fml.{Fml, GName, ftrue, flft, fsep}
use types.Logic.{Logic, sem}
use types.Kit.{‵, raw, ◌⊛◌, some, later, at_ret, ◌$◌, ◌∵◌, !, qed, by, move, keep, drop, use1, await, pick, split, join, fsplit, fsplit3, fjoin, fpack, group, rewrite, suffices, frame, done}
use types.Run.{stop, fld, load, of_opd, addr, first, blocks, exec, returns, enter}
use types.ByLocal.{alloc_all, pass_all, free_all, look_at, get, through, sets, sets_last, env}
use types.Part.{whole, sub, look_in}
use contract.Monad.{fact}
use contract.Running.{tables}
use denote.Exit.{no}
use denote.Follow.{follows, Part, lends_Part}
use denote.Memory.{lone, mem, cell_at, part_at, part_of}
use denote.RattleType.{RattleType, owns}
use denote.RawPtr.{Ptr, block_ptr}
use denote.Ref.{MutBor, MutRef, mut_vals, mut_Tells}
use denote.Signature.{plain, mut_ref_to}
use denote.Steps.{nothing, heard, opens}
use denote.Triple.Walked.{says, Stays, stay_dropped, walk_of, ends_at, Goes-spent_ref}
use Rattle.std.proofs.VecSteps.Shapes.{after}
use Rattle.std.proofs.raw_atomic.Walks.{proved}
use Rattle.std.specs.Box.Ownership.{box_owns}
use Rattle.std.specs.contracts.alloc.Global as global
use Rattle.std.specs.contracts.impls.GlobalAllocator.TheImpl as heap
use Rattle.std.proofs.alloc.Global.TheLaws as heap_laws
use Rattle.std.specs.Prelude.{Option, IsSome}
use Rattle.clock2q_c.specs.Tokens.{TokensInC, tokens_row}
use Rattle.clock2q_c.specs.TokensLends.{with_tokens}
use Rattle.clock2q_c.proofs.Words.{both, some_of, words, words_found, words_in}
use Rattle.clock2q_c.specs.contracts.tokens.handle.TokensHandle as handle
use Rattle.clock2q_c.specs.contracts.tokens.handle.TokensHandle.held.{ended, clauses}
use Rattle.clock2q_c.specs.contracts.tokens.handle.TokensHandle.held.Key.{name as #self}
use Rattle.clock2q_c.proofs.tokens.handle.TokensHandle.held.Statement.{statement}
use Rattle.clock2q_c.proofs.tokens.handle.TokensHandle.held.Code as code

abbrev Z : RattleType
Z = global.the_row

abbrev Handle : RattleType
Handle = handle.the_row

abbrev stays : Stays ended.signature.params ended.kept
stays = (stay_dropped (mut_ref_to (0 ∷ []) tt (plain (λ _. Handle))) no, tt)

module _ {M : Type 1} {𝓤 : Ura M} (𝓛 : Logic 𝓤) (rb ro b o : ℕ) (d : Handle.Denot) (v : Val) where
  -- all of the handle except what it points to
  abbrev Rest : Fml
  Rest = fsep (fsep (heap.ghosts.dealloc_token d.alloc (bare (lone tokens_row.mir)) (block_ptr b o)) (Z.own_val d.alloc (v ∷ []))) (cell_at full_share Handle.mir (both (vptr b o) v ∷ []) rb ro)

  -- with anything there, these parts are the handle again
  back : d.pointer ≡ block_ptr b o → (w : TokensInC) → ent 𝓤 (sep 𝓤 (sem 𝓛 ((mem tokens_row).own_at w b o)) (sem 𝓛 Rest)) (sem 𝓛 ((mem Handle).own_at (with_tokens d w) rb ro))
  unfolding part_of
  back at_b w =
      qed 𝓛 (‵ (part_at tokens_row full_share w b o) ∷ ‵ Rest ∷ []) ∵ move ! (1 ∷ []) $ fsplit ! $ fsplit ! $ move ! (3 ∷ 0 ∷ []) $ fjoin ! $
      rewrite ! 0 (λ (p : Ptr). ‵ (box_owns (heap.ghosts.dealloc_token d.alloc) tokens_row p w)) (sym at_b) refl $ move ! (1 ∷ []) $ words_in Z heap_laws.the_row_laws heap.ghosts ! (block_ptr b o) v d.alloc $
      rewrite ! 0 (λ (p : Ptr). ‵ (words Z heap_laws.the_row_laws heap.ghosts p d.alloc (both (vptr b o) v ∷ []))) (sym at_b) refl $ fjoin ! $ move ! (1 ∷ 0 ∷ []) $ fjoin ! $
      fpack ! (List Val) (λ us. fsep (cell_at full_share Handle.mir us rb ro) (Handle.own_val (with_tokens d w) us)) (both (vptr b o) v ∷ []) $ done !

pub held_spec : {M : Type 1} → statement M
held_spec 𝓤 𝓛 𝓜 𝓡 wired =
    let H = 𝓛.H in let 𝓣 = tables 𝓤 H 𝓜 𝓡 𝓡.env in let c = clauses 𝓛 𝓜.mem 𝓡.returns in let fn = code.function in let LZ = heap_laws.the_row_laws in let g = heap.ghosts in
    proved 𝓛 ended stays c 𝓜 𝓡 (Goes-spent_ref 𝓛 1 (0 ∷ []) tt (plain (λ _. Handle)), tt) #self fn (code.unfolded 𝓤 H 𝓜 𝓡 wired)
    (λ κs. (mut_vals, tt)) (λ κs. (mut_Tells (named 0) κs.0 Handle, tt)) (λ κs qs bounds given gh are.
    let κ = κs.0 in let q = qs.0 in let rb = given.0.ref_ptr.0 in let ro = given.0.ref_ptr.1 in let γ = given.0.ghost_name in let d = given.0.now in
    let y : (walk_of 𝓛 ended stays c).Ghost = ((κs, qs, bounds, given, (vptr rb ro ∷ [], tt)), gh) in let Post : Val → SProp 𝓤 = (walk_of 𝓛 ended stays c).post y in
    qed 𝓛 (((‵ (flft κ q) ⊛ ‵ ftrue) ⊛ ‵ (owns (MutRef (named 0) κ Handle ∷ []) given (vptr rb ro ∷ [], tt))) ∷ raw (fact 𝓤 (IsSome d.cache)) ∷ []) ∵
    move ! (1 ∷ []) $ heard ! (IsSome d.cache) (λ is. let there = some_of d.cache is in let x = there.0 in
    split ! $ split ! $ move ! (2 ∷ []) $ fsplit ! $ fsplit3 ! $ drop ! $ keep ! (0 ∷ 1 ∷ 3 ∷ []) $
    enter ! 𝓣.C 𝓣.Λ fn (vptr rb ro ∷ []) Post $ alloc_all ! (λ l. pass_all ! refl ((tt, tt), tt) $ let Ev = env fn.locals l in
    opens ! tt Handle {h = d} rb ro (λ vs. move ! (1 ∷ []) $
    rewrite ! 0 (λ (o : Option TokensInC). ‵ (Handle.own_val (record { pointer = d.pointer; alloc = d.alloc; cache = o }) vs)) there.1 refl $
    words_found Z LZ g tokens_row ! d.pointer d.alloc x vs (λ b o v at_b ws fits. fsplit ! $
    move ! (1 ∷ 2 ∷ []) $ fjoin ! $ move ! (1 ∷ 0 ∷ []) $ rewrite ! 2 (λ (us : List Val). ‵ (cell_at full_share Handle.mir us rb ro)) ws refl $
    -- [what it points to; the token with the allocator; the words; the open borrow; obs; auth]
    first ! $ blocks ! $
    sets ! (of_opd ! (load ! (through ! refl (fld ! refl (stop !))) (look_in ! 2 (sub ! 0 refl (whole !))))) refl (tt, tt) $ sets ! (of_opd ! (get ! refl)) refl (tt, tt) $
    sets_last ! (addr ! (through ! refl (stop !))) refl (tt, tt) $
    exec ! 𝓣.C 𝓣.Λ Ev (after 1 fn.body) (at_ret Ev Post) $ sets ! (of_opd ! (get ! refl)) refl (tt, tt) $
    move ! (1 ∷ 2 ∷ []) $ fjoin ! $ move ! (2 ∷ 3 ∷ 4 ∷ 1 ∷ 0 ∷ []) $ group ! 5 $
    use1 𝓛 (later (some (λ (δ : GName). raw (Part 𝓛 Handle tokens_row (with_tokens d) (named 0) κ q rb ro b o γ (sem 𝓛 (Rest 𝓛 rb ro b o d v)) (back 𝓛 rb ro b o d v at_b) x δ))))
    (lends_Part 𝓛 Handle tokens_row (with_tokens d) (named 0) κ q rb ro b o γ (sem 𝓛 (Rest 𝓛 rb ro b o d v)) (back 𝓛 rb ro b o d v at_b) (Handle.coded.code d) (Handle.coded.code d) x) $ await ! tt $ pick ! (λ δ.
    returns ! (look_at ! 0 refl) $ free_all ! refl $ keep ! (0 ∷ []) $ by ! (
    let r : MutBor TokensInC = record { ref_ptr = (b, o); ghost_name = δ; now = x } in
    qed 𝓛 (‵ ((MutRef (named 0) κ tokens_row).own_val r (vptr b o ∷ [])) ∷ ‵ (flft κ q) ∷ ‵ (follows Handle tokens_row γ δ (with_tokens d)) ∷ []) {P = Post (vptr b o)} (
    suffices ! _ (ends_at 𝓛 ended stays c y (vptr b o) r (tt, tt) (tt, tt)) $
    nothing ! $ nothing ! $ fjoin ! $ join ! $ nothing ! $ move ! (2 ∷ 0 ∷ []) $ join ! $ join ! $ frame ! $ says ! (sym there.1) $ done !))))))))
