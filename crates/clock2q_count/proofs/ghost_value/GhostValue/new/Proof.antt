-- `new` makes a value of no bytes, whose view is the value that the proof of its call picks.
use mathlib.Core.Path.{refl}
use mathlib.Core.List.{[], ◌∷◌}
use seplogic.Ra.Ura.{Ura}
use mir.Syntax.{Fn, a_type}
use mir.Val.{Val, vptr, vstruct, vcons, vnil}
use mir.MapTy.{inst_fn}
use base.Logic.{SProp, ent, via, fst∗}
use base.Fml.{Fml}
use prog.Memory.{Memory}
use prog.Routine.{Routine}
use prog.Wp.{Calls, Loops, WpFn, Tables}
use types.Logic.{Logic}
use contract.Lifetimes.{AllOutlive, Lfts, Shares}
use contract.Monad.{Fun}
use contract.Running.{tables, tables_of}
use sound.WpLaws.{WpFn-mono}
use types.Kit.{‵, raw, ◌$◌, ◌∵◌, !, qed, move, keep, join, fjoin, use0, suffices, done}
use types.Run.{no_more, and_then, returns, enter}
use types.Part.{agg}
use types.ByLocal.{alloc_all, pass_all, free_all, look_at, get, sets}
use denote.Builtin.{RefOf}
use denote.Exit.{yes}
use denote.Param.{layouts, param}
use denote.RattleType.{RattleType, owns}
use denote.Ref.{shr_vals}
use denote.Shadow.{makes_shadow}
use denote.Signature.{Slot, plain, types_at}
use denote.Steps.{nothing}
use denote.Triple.Entry.{on_entry, alive, Args}
use denote.Triple.Spec.{Meets, triple_of}
use denote.Triple.Table.{entered}
use denote.Triple.Walked.{says, Stays, stay_dropped, walk_of, Walks, ends_at, walked, Goes-dropped, walk_Meets}
use Rattle.clock2q_count.specs.contracts.ghost_value.GhostValue.new.Key.{name as key}
use Rattle.clock2q_count.specs.contracts.ghost_value.GhostValue.new as f
use Rattle.clock2q_count.proofs.ghost_value.GhostValue.new.Statement as stated
use Rattle.clock2q_count.proofs.ghost_value.GhostValue.new.Code as code
use Rattle.clock2q_count.specs.contracts.ghost_value.GhostValue as made

module _ (T X : RattleType) where
  abbrev function : Fn
  function = inst_fn (layouts (a_type ∷ a_type ∷ []) (T, (X, tt))) code.function

  abbrev seen : Slot 3
  seen = RefOf (0 ∷ []) tt (plain (λ _. param 1 X)) (λ _. tt)

  abbrev stayed : Stays (f.ended T X).signature.params (f.ended T X).kept
  stayed = (stay_dropped seen yes, tt)

module _ (T X : RattleType) {M : Type 1} {𝓤 : Ura M} (𝓛 : Logic 𝓤) (mem : Memory → SProp 𝓤) (run : Routine → Fun 𝓤) (C : Calls 𝓤 𝓛.H) (Λ : Loops 𝓤 𝓛.H) where
  open 𝓛 use {H}

  module _ (κs : Lfts 3) (qs : Shares 3) (bounds : AllOutlive (f.ended T X).signature.lifetimes (f.ended T X).signature.outlives κs) (a : Args (f.signature T X) κs) (said : T.Denot) where
    abbrev valued : RattleType.Denot (made.the_row T)
    valued = record { of = record {}; value = said }

    abbrev made_of : Val
    made_of = vstruct (vcons (vstruct vnil) vnil)

    abbrev by : Val
    by = vptr a.0.ref_ptr.0 a.0.ref_ptr.1

    abbrev bound : (walk_of 𝓛 (f.ended T X) (stayed T X) (f.clauses T X 𝓛 mem run)).Ghost
    bound = ((κs, qs, bounds, a, (by ∷ [], tt)), said)

    abbrev passed : Fml
    passed = owns (types_at (f.signature T X).params κs) a (by ∷ [], tt)

    walk : ent 𝓤 (on_entry 𝓛 (f.signature T X) κs qs a (by ∷ [], tt)) (WpFn 𝓤 H C Λ (function T X) (by ∷ []) ((walk_of 𝓛 (f.ended T X) (stayed T X) (f.clauses T X 𝓛 mem run)).post bound))
    walk =
        let O : Fml = (made.the_row T).own_val valued (made_of ∷ []) in
        qed 𝓛 (raw (alive 𝓛 (f.signature T X) κs qs) ∷ ‵ passed ∷ []) ∵ keep ! (0 ∷ []) $ enter ! C Λ (function T X) (by ∷ []) _ $
        alloc_all ! (λ l. pass_all ! refl ((tt, tt), tt) $ sets ! (agg ! (no_more !)) refl (tt, tt) $ sets ! (agg ! (and_then ! (get ! refl) (no_more !))) refl (tt, (tt, tt)) $
        returns ! (look_at ! 0 refl) $ free_all ! refl $
        use0 𝓛 (‵ O) (makes_shadow 𝓛 O ((λ vss. (tt, ((λ uss. (tt, tt)), tt))), tt) (((vstruct vnil ∷ [], tt), (refl, ((tt, (refl, tt)), tt))), tt)) $
        suffices ! _ (ends_at 𝓛 (f.ended T X) (stayed T X) (f.clauses T X 𝓛 mem run) bound made_of valued (tt, tt) (tt, tt)) $ says ! refl $
        nothing ! $ nothing ! $ fjoin ! $ join ! $ move ! (1 ∷ 0 ∷ []) $ join ! $ done !)

  walks : Walks 𝓛 (f.ended T X) (stayed T X) (WpFn 𝓤 H C Λ (function T X)) (f.clauses T X 𝓛 mem run)
  walks =
      walked 𝓛 (f.ended T X) (stayed T X) (f.clauses T X 𝓛 mem run) (WpFn 𝓤 H C Λ (function T X)) (λ κs. (shr_vals, tt)) (λ κs. ((λ r vs s. s.0), tt))
      (λ κs qs bounds a said are. via 𝓤 _ (fst∗ 𝓤 _ ((f.clauses T X 𝓛 mem run κs a).requires said)) (walk κs qs bounds a said))

meets : (T X : RattleType) {M : Type 1} {𝓤 : Ura M} (𝓛 : Logic 𝓤) (mem : Memory → SProp 𝓤) (run : Routine → Fun 𝓤) (𝓣 : Tables 𝓤 𝓛.H)
    → Meets 𝓛 (f.signature T X) (WpFn 𝓤 𝓛.H 𝓣.C 𝓣.Λ (function T X)) (f.spec T X 𝓛 mem run)
meets T X {𝓤 = 𝓤} 𝓛 mem run 𝓣 =
    walk_Meets 𝓛 (f.ended T X) (stayed T X) (Goes-dropped 𝓛 3 (seen T X) yes (λ κs x f. refl), tt) (f.clauses T X 𝓛 mem run) (WpFn 𝓤 𝓛.H 𝓣.C 𝓣.Λ (function T X))
    (WpFn-mono 𝓤 𝓛.H 𝓛.laws 𝓣 (function T X)) (walks T X 𝓛 mem run 𝓣.C 𝓣.Λ)

pub new_spec : {M : Type 1} → stated.statement M
unfolding tables_of
new_spec 𝓤 𝓛 𝓜 𝓡 wired T X laws laws' =
    entered 𝓤 𝓛.H (triple_of 𝓛 (f.signature T X) (f.spec T X 𝓛 𝓜.mem 𝓡.returns))
    (tables 𝓤 𝓛.H 𝓜 𝓡 𝓡.env).C (tables 𝓤 𝓛.H 𝓜 𝓡 𝓡.env).Λ (key (layouts (a_type ∷ a_type ∷ []) (T, (X, tt)))) (function T X) (code.unfolded 𝓤 𝓛.H 𝓜 𝓡 wired (T, (X, tt)))
    (meets T X 𝓛 𝓜.mem 𝓡.returns (tables_of 𝓤 𝓛.H 𝓜 (tables 𝓤 𝓛.H 𝓜 𝓡 𝓡.env)))
