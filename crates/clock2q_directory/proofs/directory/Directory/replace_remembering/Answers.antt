-- The old key goes into the history, and its slot to the new one.
use Rattle.clock2q_directory.proofs.Names.{◌≡◌, ◌<◌, ℕ, true, Option, Some, None, ap, sym, ◌∙◌, eqb, arith, is_some, IfSome, list_any, candidates, IndexState, first_remembered, forgotten_if, left, places, remembered_at, IsIndex, Remembered, remembered_from, entering_places, places_from}
use Rattle.clock2q_directory.proofs.Histories.{IsHistory-index}
use Rattle.clock2q_directory.proofs.Remembering.{remembers, pushed-nowhere, none-kept}
use Rattle.clock2q_directory.proofs.Taking.{may-retire, resident-held}
use Rattle.clock2q_directory.proofs.Views.{places-entered, places-left, entered-like, left-like}
use Rattle.clock2q_directory.proofs.directory.Directory.replace_remembering.Goals as goal

at-index : (o : Option ℕ) (T : IndexState → Type 0) (P : IndexState → ℕ → Type 0) (v : IndexState) → T v → IfSome o (λ x. (index : IndexState) → T index → P index x) → IfSome o (λ x. P v x)
at-index None T P v t h = tt
at-index (Some x) T P v t h = h v t

pub replace_remembering-requires-clause-may : goal.replace_remembering-requires-clause-may
replace_remembering-requires-clause-may g c =
    let put = c.in-Some.ensures in
    let place = c.in-Some.retired.place in
    let i = c.self.inside in
    record {
      held = rw put.hash (resident-held (rw (← c.self.view_is) at c.requires.resident) c.replace-old_hash.ensures.hash);
      short = omega (arith, (put.made i.index c.self.invariant.indexed).below, c.self.invariant.short);
      held_place = at-index c.in-Some.retired.oldest (λ index. IsIndex (places index) i.history.keys.entries i.history.order.places)
          (λ index x. list_any (eqb place) (candidates (places index) x) ≡ true)
          i.index c.self.invariant.indexed put.held;
    }

pub invariant_of-self : goal.invariant_of-self
invariant_of-self g c =
    let i = c.self.inside.index in
    let old_hash = c.replace-old_hash.result.0 in
    let below : c.args.slot < first_remembered = omega (arith, c.requires.resident.below) in
    let less = left old_hash c.args.slot i in
    rw (c.replace.ensures.replaced, c.in_default.ensures.same) (IsHistory-index c.self.invariant
    (places-entered less c.args.newcomer.hash c.args.slot below ∙ places-left i old_hash c.args.slot below)
    ((entered-like less c.args.newcomer.hash c.args.slot).shared ∙ (left-like i old_hash c.args.slot).shared))

pub returns-in_default-clause-index : goal.returns-in_default-clause-index
returns-in_default-clause-index g c =
    let i = c.self.inside in
    let old_hash = c.replace-old_hash.result.0 in
    let none = c.in_default.ensures.none in
    rw (← c.self.view_is, c.in_default.ensures.same) (record {
      old_hash = old_hash;
      old_key = c.replace-old_hash.result.1;
      had_hash = c.replace-old_hash.ensures.hash;
      had_key = c.replace-old_hash.ensures.key;
      becomes = ap (λ es. record (remembered_from c.replace.new.self i.history.order i.history.keys) { entries = es }) (none-kept (old_hash, c.replace-old_hash.result.1) c.self.invariant none);
      places = ap (λ z. places_from z i.history.order) c.replace.ensures.replaced
          ∙ ap (λ q. entering_places (is_some c.args.newcomer.gap) c.args.newcomer.hash c.args.slot (places_from i.index i.history.order) q)
          (sym (pushed-nowhere old_hash c.args.slot _ c.self.invariant none));
      accesses = (omega arith, omega arith);
    })

pub invariant_of-self-2 : goal.invariant_of-self-2
invariant_of-self-2 g c =
    let put = c.in-Some.ensures in
    let place = c.in-Some.retired.place in
    let old_hash = c.replace-old_hash.result.0 in
    let below : c.args.slot < first_remembered = omega (arith, c.requires.resident.below) in
    let may = may-retire (rw (← c.self.view_is) at c.requires.resident) c.replace-old_hash.ensures.hash ((rw (← c.self.view_is) at c.requires.absent) _ c.replace-old_hash.ensures.key) in
    let r = remembers c.self.invariant (put.made c.self.inside.index c.self.invariant.indexed) put.written put.whole may in
    let then = remembered_at old_hash c.args.slot place (forgotten_if c.in-Some.retired.oldest place c.self.inside.index) in
    rw (c.replace_remembering.ensures.replaced, c.in-Some.ensures.hash)
    (IsHistory-index r.whole (places-entered then c.args.newcomer.hash c.args.slot below) (entered-like then c.args.newcomer.hash c.args.slot).shared)

pub returns-clause-index : goal.returns-clause-index
returns-clause-index g c =
    let put = c.in-Some.ensures in
    let order = c.push.new.self.order in
    let may = may-retire (rw (← c.self.view_is) at c.requires.resident) c.replace-old_hash.ensures.hash ((rw (← c.self.view_is) at c.requires.absent) _ c.replace-old_hash.ensures.key) in
    let r = remembers c.self.invariant (put.made c.self.inside.index c.self.invariant.indexed) put.written put.whole may in
    rw (← c.self.view_is) (record {
      old_hash = c.replace-old_hash.result.0;
      old_key = c.replace-old_hash.result.1;
      had_hash = c.replace-old_hash.ensures.hash;
      had_key = c.replace-old_hash.ensures.key;
      becomes = ap (λ (z : Remembered _). record z { places = places_from c.replace_remembering.new.self order }) r.pushed;
      places = ap (λ z. places_from z order) (rw c.in-Some.ensures.hash at c.replace_remembering.ensures.replaced)
          ∙ ap (λ q. entering_places (is_some c.args.newcomer.gap) c.args.newcomer.hash c.args.slot (places_from c.self.inside.index c.self.inside.history.order) q) r.places;
      accesses = r.accesses;
    })
