use Rattle.std.proofs.Common.{rules, arith, ◌≡◌, suc, List, [], ◌∷◌, ◌++◌, length, map, ◌∙◌, sym, subst, ap, refl}
use Rattle.std.proofs.lemmas.Grind.{common_steps}
use Rattle.std.specs.Borrow.{Bor}
use Rattle.std.specs.Fn.{FnReturnsAt, Shared}
use Rattle.std.specs.Vec.Iter.{into_iter_items}
use Rattle.clock2q_memo.specs.Memo.{IsCallableAtEach, Computes}
use Rattle.clock2q_memo.proofs.Recalling.{recalled-step, evaluations-step, recalled-ended, evaluations-ended}
use Rattle.clock2q_memo.proofs.memo.recall.Goals as goal

-- one more value, and one fewer key left
one_more : {V : Type 0} (values : List V) (v w : V) (rest all : List V) → v ≡ w → values ++ w ∷ rest ≡ all → (values ++ v ∷ []) ++ rest ≡ all
one_more [] v w rest all same e = ap (λ x. x ∷ rest) same ∙ e
one_more (x ∷ values) v w rest all same e = ap (λ xs. x ∷ xs) (one_more values v w rest (values ++ w ∷ rest) same refl) ∙ e

none_left : {X : Type 0} (xs : List X) → length xs ≡ 0 → xs ≡ []
none_left [] e = refl
none_left (x ∷ xs) e = absurd (omega (arith, e))

-- what may be called for each key may be called for each key that is left
rest_callable : {F K V : Type 0} (call : Shared F (Bor K × Unit {0}) V) (f : F) (all : List K) (key : K) (rest : List K) → all ≡ key ∷ rest → IsCallableAtEach call f all → IsCallableAtEach call f rest
rest_callable call f all key rest is each = λ at other there. subst (IsCallableAtEach call f) is each (suc at) other there

pub loop-key-preserved : goal.loop-key-preserved
loop-key-preserved g c =
    let inv = c.loop-key.invariant in
    let left : into_iter_items c.loop-key.key-iterator ≡ c.in-Some.key ∷ into_iter_items c.next.new.self = search rules in
    record {
      can = search rules;
      ends = search rules;
      callable = rw c.get_recorded.ensures.function (rest_callable (g.F.Fn) c.loop-key.memo.function _ _ _ left inv.callable);
      remembers = λ h. c.get_recorded.ensures.remembers (inv.remembers h);
      remembered = λ h value computes.
          let now = subst (λ f. Computes g.K.PartialEq.eq (FnReturnsAt g.F.Fn f) value) (sym inv.function) computes in
          let is = c.get_recorded.ensures.value (inv.remembers h) value now in
          rw c.push_reserved.ensures.items
          (one_more c.loop-key.values.items c.get_recorded.result (value c.in-Some.key)
          (map value (into_iter_items c.next.new.self)) _ is
          (subst (λ keys. c.loop-key.values.items ++ map value keys ≡ map value c.args.keys.items) left
          (inv.remembered h value computes)));
      machine = recalled-step g.K.PartialEq.eq (into_iter_items c.loop-key.key-iterator)
          (into_iter_items c.next.new.self) c.args.keys.items c.in-Some.key c.get_recorded.result c.loop-key.memo.machine
          c.get_recorded.new.self.machine c.args.memo.now.machine c.loop-key.values.items c.push_reserved.new.self.items left
          c.get_recorded.ensures.machine c.push_reserved.ensures.items inv.machine;
      evaluations = evaluations-step g.K.PartialEq.eq (into_iter_items c.loop-key.key-iterator)
          (into_iter_items c.next.new.self) c.args.keys.items c.in-Some.key c.get_recorded.result c.loop-key.memo.machine
          c.get_recorded.new.self.machine c.args.memo.now.machine c.loop-key.values.items c.push_reserved.new.self.items
          c.loop-key.memo.evaluations c.get_recorded.new.self.evaluations c.args.memo.now.evaluations left
          c.get_recorded.ensures.machine c.push_reserved.ensures.items c.get_recorded.ensures.evaluations inv.evaluations;
      function = c.get_recorded.ensures.function ∙ inv.function;
      sized = let gone = c.in-Some.ensures.steps.1 in let short = ap length left in omega (arith, inv.sized);
      room = search (rules, inv.room);
    }

pub returns-clause-machine : goal.returns-clause-machine
returns-clause-machine g c =
    let ended = none_left _ (sym c.loop-key.invariant.sized ∙ c.in-None.ensures.steps.0) in
    recalled-ended g.K.PartialEq.eq
    (into_iter_items c.loop-key.key-iterator) c.args.keys.items c.loop-key.memo.machine c.args.memo.now.machine
    c.loop-key.values.items ended c.loop-key.invariant.machine

pub returns-clause-evaluations : goal.returns-clause-evaluations
returns-clause-evaluations g c =
    let ended = none_left _ (sym c.loop-key.invariant.sized ∙ c.in-None.ensures.steps.0) in
    evaluations-ended g.K.PartialEq.eq
    (into_iter_items c.loop-key.key-iterator) c.args.keys.items c.loop-key.memo.machine c.args.memo.now.machine
    c.loop-key.values.items c.loop-key.memo.evaluations c.args.memo.now.evaluations ended c.loop-key.invariant.evaluations

pub returns-clause-values : goal.returns-clause-values
returns-clause-values g c = grind (arith, common_steps)
