-- Main: how its list changes when a slot is put in or removed.
use Rattle.clock2q_queues.proofs.Names.{◌≡◌, ℕ, ◌+◌, ◌-◌, ◌^◌, ◌<◌, Bool, true, false, not, cond, eqb, Some, None, slice_get, List, [], ◌∷◌, ◌++◌, length, map, set, refl, sym, ap, ◌∙◌, subst, arith}
use Rattle.clock2q_queues.proofs.Names.{filter, list_any, both_ways, or_cases, map-append, length_push, list_any-append, Main, Free, without, LinkState, IsSameBut, SetsBit, Attaches, Detaches}
use Rattle.clock2q_queues.proofs.Names.{record_at, location_at, bit_at, IsMain, IsMainQueue, main_slots, main_entries, eqb_self, eqb_swap, differs, among-without, distinct_none, or_parts}
use Rattle.clock2q_queues.specs.declared.entries.Location.TheVariants as at
use Rattle.clock2q_queues.proofs.InQueue.{AreInQueue, main_linked}
use Rattle.clock2q_queues.proofs.Joining.{Inserts, Inserts-before, Inserts-first, first_in, Removes-detached, length-without, map-agree, slots_from-is, filter-entries}

pub main_slots-is : (l : LinkState) (main : Main) (ss : List ℕ) → IsMain l main ss → main_slots l main ≡ ss
main_slots-is l main ss m = slots_from-is l.records.items main.hand main.len ss m.queue

pub IsMainQueue-from : (l : LinkState) (main : Main) (ss : List ℕ) → IsMain l main ss → IsMainQueue l main
IsMainQueue-from l main ss m = subst (λ z. IsMain l main z) (sym (main_slots-is l main ss m)) m

-- a ring with no slot, whatever the links hold
pub IsMainQueue-empty : (l : LinkState) → length l.records.items < 2 ^ 32 → IsMainQueue l (record { hand = None; len = 0 })
IsMainQueue-empty l h = grind (arith, both_ways, distinct_none eqb)

-- The hand after a slot was put in

slice_get-push : (ss : List ℕ) (slot first : ℕ) → Some first ≡ slice_get ss 0 → Some first ≡ slice_get (ss ++ slot ∷ []) 0
slice_get-push [] slot first e = absurd (cc)
slice_get-push (s ∷ ss) slot first e = e

slice_get-first : (ss : List ℕ) (slot : ℕ) → None ≡ slice_get ss 0 → Some slot ≡ slice_get (ss ++ slot ∷ []) 0
slice_get-first [] slot e = refl
slice_get-first (s ∷ ss) slot e = absurd (cc)

-- a slot was put into Main
pub record PushesMain (slot : ℕ) (old : LinkState) (main : Main) (new : LinkState) (main' : Main) : Type 0 where
  pub whole : IsMainQueue new main'
  pub entries : main_entries new main' ≡ main_entries old main ++ (slot, false) ∷ []
  pub others : IsSameBut (slot ∷ main_slots old main) old new

module _ (slot : ℕ) (old : LinkState) (main : Main) (new : LinkState) (main' : Main)
    (m : IsMainQueue old main) (b : slot < length old.records.items) (absent : list_any (eqb slot) (main_slots old main) ≡ false)
    (cleared : SetsBit slot false old (record new { records = old.records; made = old.made })) (n : main'.len ≡ main.len + 1) where
  bit_new : (t : ℕ) → bit_at new t ≡ cond (eqb t slot) false (bit_at old t)
  bit_new t = cleared.bits t

  pushed : Inserts slot at.Main (main_slots old main) old.records.items new.records.items → main'.hand ≡ slice_get (main_slots old main ++ slot ∷ []) 0 → PushesMain slot old main new main'
  pushed i h = grind (arith, length_push, or_cases, list_any-append, differs, both_ways, IsMainQueue-from, main_slots-is, map-append, map-agree, bit_new, eqb_self, or_parts)

  pub PushesMain-attached : (hand : ℕ) → main.hand ≡ Some hand → Attaches slot hand at.Main old.records new.records → main'.hand ≡ Some hand → PushesMain slot old main new main'
  PushesMain-attached hand e a h =
      let starts = sym e ∙ m.queue.starts in
      pushed (Inserts-before old.records new.records (main_slots old main) slot at.Main hand m.queue.linked starts absent b a) (h ∙ slice_get-push (main_slots old main) slot hand starts)

  pub PushesMain-alone : main.hand ≡ None → new.records.items ≡ set old.records.items slot (record { previous = slot; next = slot; held = at.Main })
      → main'.hand ≡ Some slot → PushesMain slot old main new main'
  PushesMain-alone e w h = grind (arith, pushed, Inserts-first, slice_get-first)

-- the hand's slot and its neighbours are in Main
pub hand_linked : (l : LinkState) (main : Main) (hand : ℕ) → IsMainQueue l main → main.hand ≡ Some hand → AreInQueue l hand
hand_linked l main hand m h = main_linked l main m hand (first_in (main_slots l main) hand (sym h ∙ m.queue.starts))

-- a slot was removed from Main
pub record UnlinksMain (slot : ℕ) (old : LinkState) (main : Main) (new : LinkState) (main' : Main) : Type 0 where
  pub whole : IsMainQueue new main'
  pub entries : main_entries new main' ≡ filter (λ e. not (eqb e.0 slot)) (main_entries old main)
  pub freed : location_at new.records.items slot ≡ Free
  pub others : IsSameBut (main_slots old main) old new

pub UnlinksMain-from : (slot : ℕ) (old : LinkState) (main : Main) (new : LinkState) (main' : Main) → IsMainQueue old main → list_any (eqb slot) (main_slots old main) ≡ true
    → Detaches slot old.records new.records → SetsBit slot false old (record new { records = old.records })
    → main'.hand ≡ slice_get (without slot (main_slots old main)) 0 → main'.len ≡ main.len - 1 → UnlinksMain slot old main new main'
UnlinksMain-from slot old main new main' m h d cleared s n =
    let ss = main_slots old main in
    let r = Removes-detached old.records new.records ss slot m.queue.linked h d in
    let bit_left : (t : ℕ) → eqb t slot ≡ false → bit_at new t ≡ bit_at old t = λ t other. cleared.bits t ∙ rw other refl in
    let is : IsMain new main' (without slot ss) = grind (arith, length-without, among-without) in
    record {
      whole = IsMainQueue-from new main' (without slot ss) is;
      entries =
          ap (λ z. map {B = ℕ × Bool} (λ s. (s, bit_at new s)) z) (main_slots-is new main' (without slot ss) is)
          ∙ map-agree {X = ℕ × Bool} (λ s. (s, bit_at new s)) (λ s. (s, bit_at old s)) (without slot ss) (λ t g. ap (λ z. (t, z)) (bit_left t (among-without t slot ss g).1))
          ∙ sym (filter-entries slot (λ s. bit_at old s) ss);
      freed = ap (λ r. r.held) r.freed;
      others = record {
        others = λ t g. ap (λ z. (z, bit_at new t)) (r.others t g)
            ∙ ap (λ z. (record_at old.records.items t, z)) (bit_left t (eqb_swap slot t (differs slot t ss h g)));
        as_many = r.as_many;
      };
    }
