-- The slot that the hand would choose, found without moving it.
use Rattle.clock2q_queues.proofs.Names.{◌≡◌, ◌&&◌, None, ℕ, zero, suc, ◌+◌, ◌<◌, ◌≤◌, Bool, true, false, Some, slice_get, List, [], ◌∷◌, ◌++◌, length, map, take, drop, refl, sym, ap, ◌∙◌, subst}
use Rattle.clock2q_queues.proofs.Names.{arith, last_or, lt-ltb, length-map, Age, QueueState, keeps_tail, tail_promoted, victim_leaves, small_slots, small_entries, age_at, Small, Main, around}
use Rattle.clock2q_queues.proofs.Names.{is_linked, LinkState, location_at, slots_from, next_at, bit_at, IsMainQueue, main_slots, main_entries, set_front, inspections, from_victim}
use Rattle.clock2q_queues.proofs.InQueue.{AllLinked, all_linked, main_linked}
use Rattle.clock2q_queues.proofs.Hand.{first_of, from_victim-chosen}

-- the first slot whose bit is clear, or this one if all are set
abbrev pub first_clear : ℕ → List (ℕ × Bool) → ℕ
first_clear hand [] = hand
first_clear hand ((s, true) ∷ es) = first_clear hand es
first_clear hand ((s, false) ∷ es) = s

past_set : (es behind : List (ℕ × Bool)) (hand : ℕ) → slice_get behind 0 ≡ Some (hand, false) → slice_get (drop (set_front es) es ++ behind) 0 ≡ Some (first_clear hand es, false)
past_set [] behind hand first = first
past_set ((s, true) ∷ es) behind hand first =
    let e : 1 + set_front es ≡ suc (set_front es) = omega arith in
    rw e (past_set es behind hand first)
past_set ((s, false) ∷ es) behind hand first = refl

-- it is what the hand chooses
pub chosen : (hand : ℕ) (bit : Bool) (es : List (ℕ × Bool)) → slice_get (from_victim ((hand, bit) ∷ es)) 0 ≡ Some (first_clear hand ((hand, bit) ∷ es), false)
chosen hand false es = ap (λ (z : List (ℕ × Bool)). slice_get z 0) (from_victim-chosen hand es)
chosen hand true es =
    let e : 1 + set_front es ≡ suc (set_front es) = omega arith in
    past_set ((hand, true) ∷ es) (map (λ e. (e.0, false)) (take (1 + set_front es) ((hand, true) ∷ es))) hand (rw e refl)

-- a walk from the hand has come to this slot: the choice is among those that are left
pub record Walks (l : LinkState) (main : Main) (hand slot passed : ℕ) : Type 0 where
  pub left : ℕ
  pub counted : passed + left ≡ main.len
  pub linked : AllLinked l.records.items (around (next_at l.records.items) slot left)
  pub choice : first_clear hand (map (λ s. (s, bit_at l s)) (around (next_at l.records.items) slot left)) ≡ first_clear hand (main_entries l main)
  pub ahead : passed + set_front (map (λ s. (s, bit_at l s)) (around (next_at l.records.items) slot left)) ≡ set_front (main_entries l main)

module _ (l : LinkState) (main : Main) (hand : ℕ) where
  module _ (whole : IsMainQueue l main) (at : main.hand ≡ Some hand) where
    slots_are : main_slots l main ≡ around (next_at l.records.items) hand main.len
    slots_are = ap (λ h. slots_from l.records.items h main.len) at

    pub Walks-start : Walks l main hand hand 0
    Walks-start = grind (arith, AllLinked, slots_are, all_linked, main_linked)

    -- Main's victim is the choice among all
    chosen_first : slice_get (from_victim (main_entries l main)) 0 ≡ Some (first_clear hand (main_entries l main), false)
    chosen_first = grind (arith, first_of, chosen)

    choice_is : (s : ℕ) → s ≡ first_clear hand (main_entries l main) → slice_get (from_victim (main_entries l main)) 0 ≡ Some (s, false)
    choice_is s is = chosen_first ∙ ap (λ z. Some (z, false)) (sym is)

    -- every bit is set
    pub Walks-over : {slot passed : ℕ} → Walks l main hand slot passed → main.len ≤ passed → slice_get (from_victim (main_entries l main)) 0 ≡ Some (hand, false)
    Walks-over {slot} w over =
        let none : w.left ≡ 0 = omega (arith, w.counted, over) in
        choice_is hand (ap (λ n. first_clear hand (map (λ s. (s, bit_at l s)) (around (next_at l.records.items) slot n))) (sym none) ∙ w.choice)

  pub looked_over : {slot passed : ℕ} → Walks l main hand slot passed → passed ≤ inspections (main_entries l main)
  looked_over w = omega (arith, w.ahead)

  -- one step
  module _ {slot passed : ℕ} (w : Walks l main hand slot passed) (more : passed < main.len) where
    left_after : (left : ℕ) × (w.left ≡ suc left)
    left_after = by w.left refl where
      by : (n : ℕ) → w.left ≡ n → (left : ℕ) × (w.left ≡ suc left)
      by zero none = absurd (omega (arith, w.counted, more, none))
      by (suc left) some = (left, some)

    abbrev ahead : List ℕ
    ahead = around (next_at l.records.items) (next_at l.records.items slot) left_after.0

    all_are : AllLinked l.records.items (slot ∷ ahead)
    all_are = subst (λ n. AllLinked l.records.items (around (next_at l.records.items) slot n)) left_after.1 w.linked

    pub slot_linked : is_linked (location_at l.records.items slot) ≡ true
    slot_linked = all_are.0

    choice_from : (b : Bool) → bit_at l slot ≡ b → first_clear hand ((slot, b) ∷ map (λ s. (s, bit_at l s)) ahead) ≡ first_clear hand (main_entries l main)
    choice_from b is = grind (arith, left_after)

    ahead_from : (b : Bool) → bit_at l slot ≡ b → passed + set_front ((slot, b) ∷ map (λ s. (s, bit_at l s)) ahead) ≡ set_front (main_entries l main)
    ahead_from b is = grind (arith, left_after)

    pub Walks-on : bit_at l slot ≡ true → Walks l main hand (next_at l.records.items slot) (passed + 1)
    Walks-on set = record { left = left_after.0; counted = omega (arith, w.counted, left_after.1); linked = all_are.1; choice = choice_from true set; ahead = let e = ahead_from true set in omega (arith, e) }

    -- the hand would inspect the slots that were passed, and this one
    pub looked_here : bit_at l slot ≡ false → passed + 1 ≡ inspections (main_entries l main)
    looked_here clear = let e = ahead_from false clear in omega (arith, e)

    pub Walks-here : IsMainQueue l main → main.hand ≡ Some hand → bit_at l slot ≡ false → slice_get (from_victim (main_entries l main)) 0 ≡ Some (slot, false)
    Walks-here whole at clear = choice_is whole at slot (choice_from false clear)

pub length-entries : (l : LinkState) (main : Main) → length (main_entries l main) ≡ length (main_slots l main)
length-entries l main = length-map {B = ℕ × Bool} (main_slots l main) (λ s. (s, bit_at l s))

-- if Main has a slot, Small's oldest one decides
pub leaves-with_main : (q : QueueState) → 0 < length q.main → victim_leaves q ≡ keeps_tail (last_or None q.small)
leaves-with_main q some = ap (λ b. b && keeps_tail (last_or None q.small)) (lt-ltb 0 (length q.main) some)

-- an oldest slot that there is stays in Small if it goes on to Main
keeps_last : (e : ℕ × Age) (es : List (ℕ × Age)) → tail_promoted (last_or (Some e) es) ≡ keeps_tail (last_or (Some e) es)
keeps_last e [] = refl
keeps_last e (later ∷ es) = keeps_last later es

keeps-promoted : (es : List (ℕ × Age)) → 0 < length es → tail_promoted (last_or None es) ≡ keeps_tail (last_or None es)
keeps-promoted [] some = absurd (omega (arith, some))
keeps-promoted (e ∷ es) some = keeps_last e es

pub leaves-promoted : (q : QueueState) → 0 < length q.main → 0 < length q.small → tail_promoted (last_or None q.small) ≡ victim_leaves q
leaves-promoted q main small = keeps-promoted q.small small ∙ sym (leaves-with_main q main)

pub length-small : (l : LinkState) (small : Small) → length (small_entries l small) ≡ length (small_slots l small)
length-small l small = length-map {B = ℕ × Age} (small_slots l small) (λ s. (s, age_at l small.cursor s))
