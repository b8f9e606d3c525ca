-- Small and Main share the links: an operation on one queue, seen over both.
use Rattle.clock2q_queues.proofs.Names.{◌≡◌, ◌⊎◌, ℕ, ◌+◌, ◌-◌, ◌^◌, ◌<◌, ◌≤◌, Bool, true, false, not, eqb, Option, None, List, [], ◌∷◌, ◌++◌, length, drop, replicate, inl, inr, refl, sym, ap, ◌∙◌}
use Rattle.clock2q_queues.proofs.Names.{subst, arith, filter, list_any, eqb-true, both_ways, cases_Bool, length-map, length-replicate, list_any-append, Age, grown_older, CellsState, accessed}
use Rattle.clock2q_queues.proofs.Names.{cells_state, Free, Main, Small, without, Record, LinkState, IsBlank, IsSameBut, vacant, accesses_of, location_at, made_below, IsMainQueue, main_slots}
use Rattle.clock2q_queues.proofs.Names.{main_entries, from_victim, IsSmallQueue, small_slots, small_entries, admitted, age_at, AreQueues, QueueState, IsWholeQueues, slots_of, without_slot}
use Rattle.clock2q_queues.proofs.Names.{queues_shown, differs, IsDistinct-append, AllByRecursion-append, among-without-back, or_parts, or_neither, get_or-same, SetsBit}
use Rattle.clock2q_queues.proofs.Main.{PushesMain}
use Rattle.clock2q_queues.proofs.QueuesApart.{KeepsMain-from, KeepsSmall-from, small_apart, main_apart}
use Rattle.clock2q_queues.proofs.Window.{Admits}
use Rattle.clock2q_queues.proofs.SlotLists.{slots_of-entries, slots_of-mapped, slots_of-append, slots_of-filter, members-chosen}

-- queues with the same lists, bounds and counts are equal
pub queues_equal : (x y : QueueState) → x.small ≡ y.small → x.main ≡ y.main → x.slots ≡ y.slots → x.made ≡ y.made → x.window ≡ y.window → x.accesses ≡ y.accesses → x.inspections ≡ y.inspections → x ≡ y
queues_equal x y s m n d w a i = grind (arith)

pub small_slots-of : (l : LinkState) (small : Small) → slots_of (small_entries l small) ≡ small_slots l small
small_slots-of l small = slots_of-entries _ (small_slots l small)

pub main_slots-of : (l : LinkState) (main : Main) → slots_of (main_entries l main) ≡ main_slots l main
main_slots-of l main = slots_of-entries _ (main_slots l main)

-- What holds of the lists holds of the slots

pub in_small : (l : LinkState) (small : Small) (main : Main) (shown : QueueState) (slot : ℕ) (b : Bool)
    → queues_shown l small main ≡ shown → list_any (eqb slot) (slots_of shown.small) ≡ b → list_any (eqb slot) (small_slots l small) ≡ b
in_small l small main shown slot b e h = ap (λ z. list_any (eqb slot) z) (sym (small_slots-of l small)) ∙ ap (λ (q : QueueState). list_any (eqb slot) (slots_of q.small)) e ∙ h

pub some_small : (l : LinkState) (small : Small) (main : Main) (shown : QueueState) → queues_shown l small main ≡ shown → 0 < length shown.small → 0 < length (small_slots l small)
some_small l small main shown e some = omega (arith, some, ap (λ (q : QueueState). length q.small) e, length-map {B = ℕ × Age} (small_slots l small) (λ s. (s, age_at l small.cursor s)))

pub in_main : (l : LinkState) (small : Small) (main : Main) (shown : QueueState) (slot : ℕ) (b : Bool)
    → queues_shown l small main ≡ shown → list_any (eqb slot) (slots_of shown.main) ≡ b → list_any (eqb slot) (main_slots l main) ≡ b
in_main l small main shown slot b e h = ap (λ z. list_any (eqb slot) z) (sym (main_slots-of l main)) ∙ ap (λ (q : QueueState). list_any (eqb slot) (slots_of q.main)) e ∙ h

pub IsWholeQueues-from : (l : LinkState) (small : Small) (main : Main) → AreQueues l small main → IsWholeQueues (queues_shown l small main)
IsWholeQueues-from l small main q = grind (arith, small_slots-of, main_slots-of, IsDistinct-append, small_apart, AllByRecursion-append)

not_among : (t slot : ℕ) (ss : List ℕ) → eqb t slot ≡ false → list_any (eqb t) (without slot ss) ≡ false → list_any (eqb t) ss ≡ false
not_among t slot ss d h = grind (arith, cases_Bool, both_ways, among-without-back)

-- An operation on one queue, seen over both

-- both queues afterwards: they are whole, and this is their view
pub record Becomes (new : LinkState) (small' : Small) (main' : Main) (shown : QueueState) : Type 0 where
  pub queues : AreQueues new small' main'
  pub is : queues_shown new small' main' ≡ shown

module _ (l : LinkState) (small : Small) (main : Main) (q : AreQueues l small main) where
  -- none of Main's slots is in Small, nor is it a slot that isn't in Main
  clear_of_main : (slot : ℕ) → list_any (eqb slot) (main_slots l main) ≡ false → (t : ℕ) → list_any (eqb t) (main_slots l main) ≡ true → list_any (eqb t) (slot ∷ small_slots l small) ≡ false
  clear_of_main slot n t h = or_neither (eqb t slot) (list_any (eqb t) (small_slots l small)) (differs t slot (main_slots l main) h n) (main_apart l small main q.small q.main t h)

  clear_of_small : (slot : ℕ) → list_any (eqb slot) (small_slots l small) ≡ false → (t : ℕ) → list_any (eqb t) (small_slots l small) ≡ true → list_any (eqb t) (slot ∷ main_slots l main) ≡ false
  clear_of_small slot n t h = or_neither (eqb t slot) (list_any (eqb t) (main_slots l main)) (differs t slot (small_slots l small) h n) (small_apart l small main q.small q.main t h)

  -- a slot that is in neither queue is still free, if it isn't among the changed ones
  stays_free : (new : LinkState) (ss : List ℕ) (t : ℕ) → IsSameBut ss l new → list_any (eqb t) ss ≡ false
      → list_any (eqb t) (small_slots l small) ≡ false → list_any (eqb t) (main_slots l main) ≡ false → location_at new.records.items t ≡ Free
  stays_free new ss t s n a b = ap (λ (z : Record × Bool). z.0.held) (s.others t n) ∙ q.elsewhere t a b

  -- Small changed at these slots only, and each that isn't in it now is free
  small_changed : {new : LinkState} {small' : Small} {entries : List (ℕ × Age)} {made : ℕ} (ss : List ℕ) → ((t : ℕ) → list_any (eqb t) (main_slots l main) ≡ true → list_any (eqb t) ss ≡ false)
      → IsSmallQueue new small' → small_entries new small' ≡ entries → IsSameBut ss l new → new.made ≡ made → length new.window.items ≡ length l.window.items → new.bits.inspections ≡ l.bits.inspections
      → ((t : ℕ) → list_any (eqb t) (slots_of entries) ≡ false → ((list_any (eqb t) ss ≡ false) × (list_any (eqb t) (small_slots l small) ≡ false)) ⊎ (location_at new.records.items t ≡ Free))
      → Becomes new small' main (record (queues_shown l small main) { small = entries; made = made; accesses = accesses_of new })
  small_changed {new} {small'} {entries} {made} ss clear w e s d p i gone =
      let k = KeepsMain-from l main new ss q.main s clear in
      record {
        queues = record {
          small = w;
          main = k.whole;
          elsewhere = λ t a b. elim (gone t (ap (λ (z : List (ℕ × Age)). list_any (eqb t) (slots_of z)) (sym e) ∙ ap (λ z. list_any (eqb t) z) (small_slots-of new small') ∙ a)) [
            | inl n ↦ stays_free new ss t s n.0 n.1 (ap (λ z. list_any (eqb t) z) (sym k.slots) ∙ b)
            | inr f ↦ f
          ];
        };
        is = queues_equal (queues_shown new small' main) (record (queues_shown l small main) { small = entries; made = made; accesses = accesses_of new }) e k.entries s.as_many d p refl i;
      }

  main_changed : {new : LinkState} {main' : Main} {entries : List (ℕ × Bool)} {made : ℕ} (ss : List ℕ) → ((t : ℕ) → list_any (eqb t) (small_slots l small) ≡ true → list_any (eqb t) ss ≡ false)
      → IsMainQueue new main' → main_entries new main' ≡ entries → IsSameBut ss l new → new.made ≡ made → new.window ≡ l.window
      → ((t : ℕ) → list_any (eqb t) (slots_of entries) ≡ false → ((list_any (eqb t) ss ≡ false) × (list_any (eqb t) (main_slots l main) ≡ false)) ⊎ (location_at new.records.items t ≡ Free))
      → Becomes new small main' (record (queues_shown l small main) { main = entries; made = made; accesses = accesses_of new; inspections = new.bits.inspections })
  main_changed {new} {main'} {entries} {made} ss clear w e s d p gone =
      let k = KeepsSmall-from l small new ss q.small s (ap (λ (z : CellsState (Option ℕ)). z.items) p) clear in
      record {
        queues = record {
          small = k.whole;
          main = w;
          elsewhere = λ t a b. elim (gone t (ap (λ (z : List (ℕ × Bool)). list_any (eqb t) (slots_of z)) (sym e) ∙ ap (λ z. list_any (eqb t) z) (main_slots-of new main') ∙ b)) [
            | inl n ↦ stays_free new ss t s n.0 (ap (λ z. list_any (eqb t) z) (sym k.slots) ∙ a) n.1
            | inr f ↦ f
          ];
        };
        is = queues_equal (queues_shown new small main') (record (queues_shown l small main) { main = entries; made = made; accesses = accesses_of new; inspections = new.bits.inspections })
            k.entries e s.as_many d (ap (λ (z : CellsState (Option ℕ)). length z.items) p) refl refl;
      }

  -- a slot left its queue
  left_free : (new : LinkState) (slot t : ℕ) (ss : List ℕ) → location_at new.records.items slot ≡ Free → list_any (eqb t) (without slot ss) ≡ false
      → ((list_any (eqb t) ss ≡ false) × (list_any (eqb t) ss ≡ false)) ⊎ (location_at new.records.items t ≡ Free)
  left_free new slot t ss f a = grind (arith, cases_Bool, eqb-true, not_among)

  pub after_admission : (new : LinkState) (small' : Small) (slot : ℕ) → list_any (eqb slot) (main_slots l main) ≡ false → Admits slot l small.cursor (small_slots l small) new small'
      → new.made ≡ made_below (slot + 1) l.made → length new.window.items ≡ length l.window.items → new.bits.inspections ≡ l.bits.inspections
      → Becomes new small' main (record (queues_shown l small main) { small = admitted (length l.window.items) slot (small_entries l small); made = made_below (slot + 1) l.made; accesses = accesses_of new })
  after_admission new small' slot n admits d p i = small_changed (slot ∷ small_slots l small) (clear_of_main slot n) admits.whole admits.entries admits.others d p i (λ t a.
      let slots = slots_of-mapped (λ a. grown_older (length l.window.items) a) (small_entries l small) ∙ small_slots-of l small in
      let b : list_any (eqb t) (slot ∷ small_slots l small) ≡ false = ap (λ zs. list_any (eqb t) (slot ∷ zs)) (sym slots) ∙ a in
      inl (b, (or_parts (eqb t slot) (list_any (eqb t) (small_slots l small)) b).1))

  pub after_small_left : (new : LinkState) (small' : Small) (slot : ℕ) → IsSmallQueue new small' → location_at new.records.items slot ≡ Free
      → small_entries new small' ≡ filter (λ e. not (eqb e.0 slot)) (small_entries l small) → IsSameBut (small_slots l small) l new
      → new.made ≡ l.made → length new.window.items ≡ length l.window.items → new.bits.inspections ≡ l.bits.inspections
      → Becomes new small' main (record (queues_shown l small main) { small = without_slot slot (small_entries l small); accesses = accesses_of new })
  after_small_left new small' slot w f e s d p i = small_changed (small_slots l small) (main_apart l small main q.small q.main) w e s d p i (λ t a.
      left_free new slot t (small_slots l small) f (ap (λ z. list_any (eqb t) z) (sym (slots_of-filter slot (small_entries l small) ∙ ap (λ z. without slot z) (small_slots-of l small))) ∙ a))

  -- the oldest slot of Small became its newest
  pub after_reuse : (new : LinkState) (small' : Small) (slot window : ℕ) → IsSmallQueue new small'
      → small_entries new small' ≡ admitted window slot (without_slot slot (small_entries l small)) → IsSameBut (small_slots l small) l new
      → new.made ≡ l.made → length new.window.items ≡ length l.window.items → new.bits.inspections ≡ l.bits.inspections
      → Becomes new small' main (record (queues_shown l small main) { small = admitted window slot (without_slot slot (small_entries l small)); accesses = accesses_of new })
  after_reuse new small' slot window w e s d p i = small_changed (small_slots l small) (main_apart l small main q.small q.main) w e s d p i (λ t a.
      let slots = slots_of-mapped (λ a. grown_older window a) (without_slot slot (small_entries l small)) ∙ slots_of-filter slot (small_entries l small) ∙ ap (λ z. without slot z) (small_slots-of l small) in
      let b = or_parts (eqb t slot) (list_any (eqb t) (without slot (small_slots l small))) (ap (λ zs. list_any (eqb t) (slot ∷ zs)) (sym slots) ∙ a) in
      let n = not_among t slot (small_slots l small) b.0 b.1 in
      inl (n, n))

  pub after_append : (new : LinkState) (main' : Main) (slot : ℕ) → list_any (eqb slot) (small_slots l small) ≡ false → PushesMain slot l main new main'
      → new.made ≡ made_below (slot + 1) l.made → SetsBit slot false l (record new { records = l.records; made = l.made })
      → Becomes new small main' (record (queues_shown l small main) { main = main_entries l main ++ (slot, false) ∷ []; made = made_below (slot + 1) l.made; accesses = accesses_of new })
  after_append new main' slot n p d cleared =
      let a = main_changed (slot ∷ main_slots l main) (clear_of_small slot n) p.whole p.entries p.others d cleared.window (λ t a.
      let slots = slots_of-append (main_entries l main) ((slot, false) ∷ []) ∙ ap (λ zs. zs ++ slot ∷ []) (main_slots-of l main) in
      let c = or_parts (list_any (eqb t) (main_slots l main)) (list_any (eqb t) (slot ∷ [])) (sym (list_any-append (eqb t) (main_slots l main) (slot ∷ [])) ∙ ap (λ z. list_any (eqb t) z) (sym slots) ∙ a) in
      inl (or_neither (eqb t slot) (list_any (eqb t) (main_slots l main)) (or_parts (eqb t slot) false c.1).0 c.0, c.0)) in
      record { queues = a.queues; is = rw (← cleared.inspections) a.is }

  pub after_main_left : (new : LinkState) (main' : Main) (slot : ℕ) → IsMainQueue new main' → location_at new.records.items slot ≡ Free
      → main_entries new main' ≡ filter (λ e. not (eqb e.0 slot)) (main_entries l main) → IsSameBut (main_slots l main) l new → new.made ≡ l.made → new.window ≡ l.window
      → Becomes new small main' (record (queues_shown l small main) { main = without_slot slot (main_entries l main); accesses = accesses_of new; inspections = new.bits.inspections })
  after_main_left new main' slot w f e s d p = main_changed (main_slots l main) (small_apart l small main q.small q.main) w e s d p (λ t a.
      left_free new slot t (main_slots l main) f (ap (λ z. list_any (eqb t) z) (sym (slots_of-filter slot (main_entries l main) ∙ ap (λ z. without slot z) (main_slots-of l main))) ∙ a))

  -- the hand's choice
  pub after_choice : (new : LinkState) (main' : Main) → IsMainQueue new main' → main_entries new main' ≡ from_victim (main_entries l main)
      → IsSameBut (main_slots l main) l new → new.made ≡ l.made → new.window ≡ l.window
      → Becomes new small main' (record (queues_shown l small main) { main = from_victim (main_entries l main); accesses = accesses_of new; inspections = new.bits.inspections })
  after_choice new main' w e s d p = main_changed (main_slots l main) (small_apart l small main q.small q.main) w e s d p (λ t a.
      let n = sym (ap (λ z. list_any (eqb t) z) (main_slots-of l main)) ∙ members-chosen (main_entries l main) t a in
      inl (n, n))

  -- the hand moved on from the first slot of Main, which is then the last
  pub after_pass : (new : LinkState) (main' : Main) (slot : ℕ) → without_slot slot (main_entries l main) ≡ drop 1 (main_entries l main) → IsMainQueue new main'
      → main_entries new main' ≡ drop 1 (main_entries l main) ++ (slot, false) ∷ [] → new ≡ record l { records = accessed l.records }
      → Becomes new small main' (record (queues_shown l small main) { main = drop 1 (main_entries l main) ++ (slot, false) ∷ []; accesses = accesses_of new; inspections = new.bits.inspections })
  after_pass new main' slot out w e r =
      let s : IsSameBut (main_slots l main) l new = subst (λ z. IsSameBut (main_slots l main) l z) (sym r) (record { others = λ t h. refl; as_many = refl }) in
      main_changed (main_slots l main) (small_apart l small main q.small q.main) w e s (ap (λ (z : LinkState). z.made) r) (ap (λ (z : LinkState). z.window) r) (λ t a.
      let others = without slot (main_slots l main) in
      let slots = slots_of-append (drop 1 (main_entries l main)) ((slot, false) ∷ [])
      ∙ ap (λ zs. zs ++ slot ∷ []) (ap (λ (z : List (ℕ × Bool)). slots_of z) (sym out) ∙ slots_of-filter slot (main_entries l main) ∙ ap (λ z. without slot z) (main_slots-of l main)) in
      let c = or_parts (list_any (eqb t) others) (list_any (eqb t) (slot ∷ [])) (sym (list_any-append (eqb t) others (slot ∷ [])) ∙ ap (λ z. list_any (eqb t) z) (sym slots) ∙ a) in
      let n = not_among t slot (main_slots l main) (or_parts (eqb t slot) false c.1).0 c.0 in
      inl (n, n))

  -- accesses were counted, and records made
  pub after_making : (new : LinkState) (more made : ℕ) → new ≡ record l { records = cells_state l.records.items (l.records.accesses + more); made = made }
      → Becomes new small main (record (queues_shown l small main) { made = made; accesses = accesses_of l + more })
  after_making new more made e =
      let s : IsSameBut [] l new = subst (λ z. IsSameBut [] l z) (sym e) (record { others = λ t h. refl; as_many = refl }) in
      let a = KeepsSmall-from l small new [] q.small s (ap (λ (z : LinkState). z.window.items) e) (λ t h. refl) in
      let b = KeepsMain-from l main new [] q.main s (λ t h. refl) in
      record {
        queues = record {
          small = a.whole;
          main = b.whole;
          elsewhere = λ t f g. stays_free new [] t s refl (subst (λ z. list_any (eqb t) z ≡ false) a.slots f) (subst (λ z. list_any (eqb t) z ≡ false) b.slots g);
        };
        is = queues_equal (queues_shown new small main) (record (queues_shown l small main) { made = made; accesses = accesses_of l + more })
            a.entries b.entries s.as_many (ap (λ (z : LinkState). z.made) e) (ap (λ (z : LinkState). length z.window.items) e) (ap (λ (z : LinkState). accesses_of z) e ∙ (omega arith)) (ap (λ (z : LinkState). z.bits.inspections) e);
      }

  -- accesses were counted
  pub after_counting : (new : LinkState) (more : ℕ) → new ≡ record l { records = cells_state l.records.items (l.records.accesses + more) }
      → Becomes new small main (record (queues_shown l small main) { accesses = accesses_of l + more })
  after_counting new more e = after_making new more l.made e

  -- a record was read
  pub after_reading : (new : LinkState) → new ≡ record l { records = accessed l.records } → Becomes new small main (record (queues_shown l small main) { accesses = accesses_of l + 1 })
  after_reading new e = after_counting new 1 e

  -- records were read
  pub after_reads : (new : LinkState) → new ≡ record l { records = cells_state l.records.items new.records.accesses } → l.records.accesses + 0 ≤ new.records.accesses
      → Becomes new small main (record (queues_shown l small main) { accesses = accesses_of l + (new.records.accesses - l.records.accesses) })
  after_reads new e more = after_counting new (new.records.accesses - l.records.accesses) (grind (arith, e, more))

-- links with no slot in a queue
pub AreQueues-blank : (l : LinkState) (small : Small) (main : Main) → IsSmallQueue l small → IsMainQueue l main → IsBlank l → AreQueues l small main
AreQueues-blank l small main s m b = record { small = s; main = m; elsewhere = λ t a c. b.nowhere t }

pub IsBlank-from : (l : LinkState) (slots window : ℕ) → l.records.items ≡ replicate slots vacant → l.window.items ≡ replicate window None → slots < 2 ^ 32 → window < 2 ^ 32 → IsBlank l
IsBlank-from l slots window e f a b = grind (arith, get_or-same, length-replicate)
