-- A hit on a slot sets its bit. A young slot's bit isn't in the view, so the one write is a hit in either queue.
use Rattle.clock2q_queues.proofs.Names.{◌≡◌, ◌⊎◌, ℕ, Bool, true, cond, eqb, List, [], ◌∷◌, map, inl, inr, refl, sym, ap, ◌∙◌, subst, cases_Bool, list_any, touched, CellsState, HitBits, bit_in}
use Rattle.clock2q_queues.proofs.Names.{Location, Free, SmallYoung, SmallOld, Main, Small, Record, LinkState, SetsBit, location_at, bit_at, main_slots, main_entries, main_hit_at, small_slots}
use Rattle.clock2q_queues.proofs.Names.{small_entries, small_hit_at, age_of, age_at, AreQueues, QueueState, queues_shown, slots_of, is_linked, arith}
use Rattle.clock2q_queues.specs.declared.entries.Location.TheVariants as at
use Rattle.clock2q_queues.proofs.InQueue.{main_linked, small_linked}
use Rattle.clock2q_queues.proofs.Sharing.{Becomes, queues_equal, in_small, in_main}

-- entries that differ at one slot
entries-at : {X : Type 0} (f g : ℕ → X) (h : X → X) (slot : ℕ) (ss : List ℕ)
    → ((t : ℕ) → f t ≡ cond (eqb t slot) (h (g t)) (g t))
    → map {B = ℕ × X} (λ s. (s, f s)) ss ≡ map {A = ℕ × X} {B = ℕ × X} (λ e. cond (eqb e.0 slot) (e.0, h e.1) e) (map {B = ℕ × X} (λ s. (s, g s)) ss)
entries-at f g h slot [] a = refl
entries-at {X} f g h slot (s ∷ ss) a =
    let first : ◌≡◌ {A = ℕ × X} (s, f s) (cond (eqb s slot) (s, h (g s)) (s, g s)) = elim (cases_Bool (eqb s slot)) [
      | inl e ↦ ap (λ z. (s, z)) (a s) ∙ rw e refl
      | inr e ↦ ap (λ z. (s, z)) (a s) ∙ rw e refl
    ] in
    ap (λ z. z ∷ map {B = ℕ × X} (λ s. (s, f s)) ss) first
    ∙ ap (λ zs. cond (eqb s slot) (s, h (g s)) (s, g s) ∷ zs) (entries-at f g h slot ss a)

-- the age of a slot whose bit is set
age-hit : (window cursor : ℕ) (location : Location) (b : Bool) → age_of window cursor location true ≡ touched (age_of window cursor location b)
age-hit window cursor Free b = refl
age-hit window cursor (SmallYoung position) b = refl
age-hit window cursor SmallOld b = refl
age-hit window cursor at.Main b = refl

module _ (l : LinkState) (small : Small) (main : Main) (q : AreQueues l small main) (slot : ℕ) where
  hit_bits : (b : HitBits) → ((t : ℕ) → bit_in b.items t ≡ cond (eqb t slot) true (bit_at l t)) → b.inspections ≡ l.bits.inspections
      → Becomes (record l { bits = b }) small main (record (queues_shown l small main) { small = small_hit_at slot (small_entries l small); main = main_hit_at slot (main_entries l main) })
  hit_bits b h i =
      let new : LinkState = record l { bits = b } in
      let ages : (t : ℕ) → age_at new small.cursor t ≡ cond (eqb t slot) (touched (age_at l small.cursor t)) (age_at l small.cursor t) = λ t. grind (arith, cases_Bool, age-hit) in
      record {
        queues = grind (arith);
        is = queues_equal (queues_shown new small main) (record (queues_shown l small main) { small = small_hit_at slot (small_entries l small); main = main_hit_at slot (main_entries l main) })
            (entries-at (λ t. age_at new small.cursor t) (λ t. age_at l small.cursor t) touched slot (small_slots l small) ages)
            (entries-at (λ t. bit_at new t) (λ t. bit_at l t) (λ z. true) slot (main_slots l main) h)
            refl refl refl refl i;
      }

  pub after_hit : (new : LinkState) → SetsBit slot true l new
      → Becomes new small main (record (queues_shown l small main) { small = small_hit_at slot (small_entries l small); main = main_hit_at slot (main_entries l main) })
  after_hit new s =
      let e : new ≡ record l { bits = new.bits } = ap (λ (r : CellsState Record). record new { records = r }) s.records ∙ ap (λ n. record new { records = l.records; made = n }) s.made ∙ ap (λ w. record l { window = w; bits = new.bits }) s.window in
      subst (λ z. Becomes z small main (record (queues_shown l small main) { small = small_hit_at slot (small_entries l small); main = main_hit_at slot (main_entries l main) })) (sym e)
      (hit_bits new.bits s.bits s.inspections)

  -- its location says so
  pub resident_linked : (shown : QueueState) → queues_shown l small main ≡ shown → (list_any (eqb slot) (slots_of shown.small) ≡ true) ⊎ (list_any (eqb slot) (slots_of shown.main) ≡ true) → is_linked (location_at l.records.items slot) ≡ true
  resident_linked shown e (inl h) = (small_linked l small q.small slot (in_small l small main shown slot true e h)).own
  resident_linked shown e (inr h) = (main_linked l main q.main slot (in_main l small main shown slot true e h)).own
