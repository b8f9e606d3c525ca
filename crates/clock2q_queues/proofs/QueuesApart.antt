-- Small and Main share the links: a change to no slot of a queue leaves that queue unchanged.
use Rattle.clock2q_queues.proofs.Names.{arith, ◌≡◌, ℕ, Bool, true, false, get_or, Option, None, List, length, map, sym, ap, ◌∙◌, subst, eqb, both_ways, cases_Bool, list_any, Age, Main, Small, Record}
use Rattle.clock2q_queues.proofs.Names.{LinkState, IsSameBut, location_at, bit_at, IsMain, IsMainQueue, main_slots, main_entries, IsSmall, IsSmallQueue, IsInSmall, small_slots, small_entries, age_of}
use Rattle.clock2q_queues.proofs.Names.{age_at}
use Rattle.clock2q_queues.proofs.Joining.{IsLinked-kept, map-agree}
use Rattle.clock2q_queues.proofs.Main.{main_slots-is, IsMainQueue-from}
use Rattle.clock2q_queues.proofs.Window.{small_slots-is, IsSmallQueue-from}

-- Main, if none of its slots changed
pub record KeepsMain (old : LinkState) (main : Main) (new : LinkState) : Type 0 where
  pub whole : IsMainQueue new main
  pub slots : main_slots new main ≡ main_slots old main
  pub entries : main_entries new main ≡ main_entries old main

pub KeepsMain-from : (old : LinkState) (main : Main) (new : LinkState) (ss : List ℕ) → IsMainQueue old main → IsSameBut ss old new
    → ((t : ℕ) → list_any (eqb t) (main_slots old main) ≡ true → list_any (eqb t) ss ≡ false) → KeepsMain old main new
KeepsMain-from old main new ss m s d =
    let same = (λ (t : ℕ) (h : list_any (eqb t) (main_slots old main) ≡ true). s.others t (d t h)) in
    let linked = IsLinked-kept old.records.items new.records.items (main_slots old main) m.queue.linked s.as_many (λ t h. ap (λ z. z.0) (same t h)) in
    let is : IsMain new main (main_slots old main) = grind (arith, linked, same, s.as_many) in
    let e = main_slots-is new main (main_slots old main) is in
    record {
      whole = IsMainQueue-from new main (main_slots old main) is;
      slots = e;
      entries = ap (λ z. map {B = ℕ × Bool} (λ s. (s, bit_at new s)) z) e
          ∙ map-agree {X = ℕ × Bool} (λ s. (s, bit_at new s)) (λ s. (s, bit_at old s)) (main_slots old main) (λ t h. ap (λ z. (t, z.1)) (same t h));
    }

-- Small, if none of its slots and no position changed
pub record KeepsSmall (old : LinkState) (small : Small) (new : LinkState) : Type 0 where
  pub whole : IsSmallQueue new small
  pub slots : small_slots new small ≡ small_slots old small
  pub entries : small_entries new small ≡ small_entries old small

pub KeepsSmall-from : (old : LinkState) (small : Small) (new : LinkState) (ss : List ℕ) → IsSmallQueue old small → IsSameBut ss old new → new.window.items ≡ old.window.items
    → ((t : ℕ) → list_any (eqb t) (small_slots old small) ≡ true → list_any (eqb t) ss ≡ false) → KeepsSmall old small new
KeepsSmall-from old small new ss m s p d =
    let same = (λ (t : ℕ) (h : list_any (eqb t) (small_slots old small) ≡ true). s.others t (d t h)) in
    let window : length new.window.items ≡ length old.window.items = ap (λ (z : List (Option ℕ)). length z) p in
    let is : IsSmall new small (small_slots old small) = record {
      queue = record {
        linked = IsLinked-kept old.records.items new.records.items (small_slots old small) m.queue.linked s.as_many (λ t h. ap (λ z. z.0) (same t h));
        starts = m.queue.starts;
        counted = m.queue.counted;
        countable = rw s.as_many m.queue.countable;
      };
      ends = m.ends;
      location = λ t h. subst (λ (z : Record × Bool). IsInSmall z.0.held) (sym (same t h)) (m.location t h);
      placed = λ t position h y.
          let q = m.placed t position h (sym (ap (λ z. z.0.held) (same t h)) ∙ y) in
          (rw window q.0, ap (λ z. get_or z position None) p ∙ q.1);
      occupied = λ position t h.
          let q = m.occupied position t (sym (ap (λ z. get_or z position None) p) ∙ h) in
          (q.0, ap (λ z. z.0.held) (same t q.0) ∙ q.1);
      cursor_in = λ h. rw window (m.cursor_in (rw window at h));
      countable_positions = rw window m.countable_positions;
    } in
    let e = small_slots-is new small (small_slots old small) is in
    record {
      whole = IsSmallQueue-from new small (small_slots old small) is;
      slots = e;
      entries = ap (λ z. map {B = ℕ × Age} (λ s. (s, age_at new small.cursor s)) z) e
          ∙ map-agree {X = ℕ × Age} (λ s. (s, age_at new small.cursor s)) (λ s. (s, age_at old small.cursor s)) (small_slots old small) (λ t h.
          ap (λ (z : Record × Bool). (t, age_of (length new.window.items) small.cursor z.0.held z.1)) (same t h)
          ∙ ap (λ n. (t, age_of n small.cursor (location_at old.records.items t) (bit_at old t))) window);
    }

-- no slot is in both
pub small_apart : (l : LinkState) (small : Small) (main : Main) → IsSmallQueue l small → IsMainQueue l main → (t : ℕ) → list_any (eqb t) (small_slots l small) ≡ true → list_any (eqb t) (main_slots l main) ≡ false
small_apart l small main s m t h = grind (arith, cases_Bool)

pub main_apart : (l : LinkState) (small : Small) (main : Main) → IsSmallQueue l small → IsMainQueue l main → (t : ℕ) → list_any (eqb t) (main_slots l main) ≡ true → list_any (eqb t) (small_slots l small) ≡ false
main_apart l small main s m t h = grind (arith, cases_Bool, both_ways, small_apart)
