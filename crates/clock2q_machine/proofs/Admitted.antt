-- A loop that Small and the history have room for is admitted to a full cache by the third round.
use Rattle.std.proofs.Common.{◌≡◌, ◌⊎◌, ℕ, ◌+◌, ◌≤◌, Bool, true, false, List, [], ◌∷◌, ◌++◌, map, length, inl, inr, Option, Some, None, refl, sym, ap, ◌∙◌, subst, arith, length-append}
use Rattle.std.specs.Prelude.{if◌then◌else◌, is_some, slice_get}
use Rattle.std.specs.Cmp.{IsEquivalence}
use Rattle.std.specs.Option.{option_and_then}
use Rattle.std.specs.List.{AllByRecursion, IsDistinct}
use Rattle.std.proofs.lemmas.List.{append_assoc}
use Rattle.clock2q_machine.specs.Calls.{Put, Value}
use Rattle.clock2q_machine.specs.Shares.{main_share}
use Rattle.clock2q_machine.specs.Machine.{Machine, inserted, slot_of}
use Rattle.clock2q_machine.specs.Steps.{replaced_at, answer, answers, after, after_all}
use Rattle.clock2q_machine.specs.Bounds.{set_bits}
use Rattle.clock2q_machine.specs.Lifetimes.{is_in_small, is_remembered}
use Rattle.clock2q_machine.specs.Whole.{IsWhole}
use Rattle.clock2q_machine.specs.Scans.{scan, IsFullCache, IsScan, AreNew}
use Rattle.clock2q_machine.specs.Loops.{rounds, is_hit, AreDistinct}
use Rattle.clock2q_machine.proofs.MachineInvariant.{lasting-after, lasting-run, resident_made}
use Rattle.clock2q_machine.proofs.Standing.{get-within, absent_if}
use Rattle.clock2q_machine.proofs.Entering.{same_slots, weight-replaced}
use Rattle.clock2q_machine.proofs.Clock.{no_settings}
use Rattle.clock2q_machine.proofs.NewKeys.{full_main, shares_run, full_run, scan_new}
use Rattle.clock2q_machine.proofs.FarApart.{Differ}
use Rattle.clock2q_machine.proofs.Loops.{all_rounds}
use Rattle.clock2q_machine.proofs.FirstRound.{first_round}
use Rattle.clock2q_machine.proofs.SecondRound.{Remain, first_differs, rest_distinct, bits_fall, second_round}

module _ {K V : Type 0} (eq : K → K → Bool) (laws : IsEquivalence eq) where
  abbrev pub AreHeld : List (K × V) → Machine K V → Type 0
  AreHeld puts m = AllByRecursion (λ p. is_some (slot_of (eq p.0) m) ≡ true) puts

  -- a resident key hits, and evicts none
  module _ (p : K × V) (m : Machine K V) (h : IsWhole eq m) (held : is_some (slot_of (eq p.0) m) ≡ true) where
    hits : is_hit (answer eq (Put p.0 p.1) m) ≡ true
    hits = by_slot (slot_of (eq p.0) m) refl held where
      by_slot : (o : Option ℕ) → slot_of (eq p.0) m ≡ o → is_some o ≡ true → is_hit (Value (option_and_then (slice_get m.values) o)) ≡ true
      by_slot None found there = cc
      by_slot (Some slot) found there =
          let v = get-within m.values slot (resident_made eq laws (eq p.0) m h slot found) in
          ap (λ o. is_hit (Value o)) v.1

    holds_still : (k : K) → slot_of (eq k) (after eq (Put p.0 p.1) m) ≡ slot_of (eq k) m
    holds_still k = by_slot (slot_of (eq p.0) m) refl held where
      by_slot : (o : Option ℕ) → slot_of (eq p.0) m ≡ o → is_some o ≡ true → slot_of (eq k) (if is_some o then replaced_at (eq p.0) p.1 o m else inserted (eq p.0) p.0 p.1 m) ≡ slot_of (eq k) m
      by_slot None found there = cc
      by_slot (Some slot) found there = same_slots eq (replaced_at (eq p.0) p.1 (Some slot) m) m h (λ w. weight-replaced w (eq p.0) p.1 (Some slot) m) k

    pub held_still : (puts : List (K × V)) → AreHeld puts m → AreHeld puts (after eq (Put p.0 p.1) m)
    held_still [] all = tt
    held_still (q ∷ puts) all = (ap is_some (holds_still q.0) ∙ all.0, held_still puts all.1)

  pub all_hit : (puts : List (K × V)) (m : Machine K V) → IsWhole eq m → AreHeld puts m → AllByRecursion (λ reply. is_hit reply ≡ true) (answers eq (scan puts) m)
  all_hit [] m h held = tt
  all_hit (p ∷ puts) m h held = (hits p m h held.0, all_hit puts (after eq (Put p.0 p.1) m) (lasting-after eq laws (Put p.0 p.1) m h) (held_still p m h held.0 puts held.1))

  -- a list of keys each of which passes, by the places in it
  pub by_places : (P : K × V → Type 0) (front back : List (K × V)) → ((before : List (K × V)) (p : K × V) (behind : List (K × V)) → front ++ back ≡ before ++ p ∷ behind → P p) → AllByRecursion P back
  by_places P front [] each = tt
  by_places P front (p ∷ back) each =
      (each front p back refl, by_places P (front ++ p ∷ []) back (λ before q behind parts. each before q behind (sym (append_assoc front (p ∷ []) back) ∙ parts)))

  -- through the first round no bit is set
  bits_run : (puts : List (K × V)) (m : Machine K V) → IsWhole eq m → AreNew eq puts m → set_bits (after_all eq (scan puts) m) ≤ set_bits m
  bits_run [] m h new = omega arith
  bits_run (p ∷ puts) m h new =
      omega (
        arith,
        bits_fall eq laws p.0 p.1 m h (no_settings (eq p.0) m (absent_if (eq p.0) m (omega (arith, new.0)))),
        bits_run puts (after eq (Put p.0 p.1) m) (lasting-after eq laws (Put p.0 p.1) m h) new.1,
      )

  scan_distinct : (puts : List (K × V)) (m : Machine K V) → IsScan eq puts m → AreDistinct eq puts
  unfolding IsDistinct
  scan_distinct [] m scans = tt
  scan_distinct (p ∷ puts) m scans = (among puts scans.1.0, scan_distinct puts m scans.1.1) where
    among : (later : List (K × V)) → Differ eq p.0 later → AllByRecursion (λ k. eq p.0 k ≡ false) (map (λ q. q.0) later)
    among [] differ = tt
    among (q ∷ later) differ = (laws.symm p.0 q.0 ∙ differ.0, among later differ.1)

  differs_at : (front : List (K × V)) (p : K × V) (back : List (K × V)) → AreDistinct eq (front ++ p ∷ back) → Differ eq p.0 back
  differs_at [] p back distinct = first_differs eq laws p back distinct
  differs_at (q ∷ front) p back distinct = differs_at front p back (rest_distinct eq laws q (front ++ p ∷ back) distinct)

  module _ (m : Machine K V) (h : IsWhole eq m) (full : IsFullCache m) (puts : List (K × V)) (scans : IsScan eq puts m)
      (known : length puts ≤ m.shares.small + m.shares.history) (fits : length puts + set_bits m ≤ m.shares.capacity) where
    new : AreNew eq puts m
    new = scan_new eq laws puts m h scans

    abbrev once : Machine K V
    once = after_all eq (scan puts) m

    same : once.shares ≡ m.shares
    same = shares_run eq laws puts m h new

    whole : IsWhole eq once
    whole = lasting-run eq laws (scan puts) m h

    remain_from : (front back : List (K × V)) → puts ≡ front ++ back → Remain eq laws back once
    remain_from front [] parts = tt
    remain_from front (p ∷ back) parts = (
      by_place (first_round eq laws front p back m h full (subst (λ l. AreNew eq l m) parts new) (differs_at front p back (subst (AreDistinct eq) parts (scan_distinct puts m scans)))
          (omega (arith, known, ap (length {A = K × V}) parts, length-append front (p ∷ back)))),
      remain_from (front ++ p ∷ []) back (parts ∙ sym (append_assoc front (p ∷ []) back)),
    ) where
      by_place : (let later = after_all eq (scan (front ++ p ∷ back)) m in (is_in_small (eq p.0) later ≡ true) ⊎ ((m.shares.small ≤ length back) × (is_remembered (eq p.0) later ≡ true)))
          → (is_in_small (eq p.0) once ≡ true) ⊎ ((once.shares.small ≤ length back) × (is_remembered (eq p.0) once ≡ true))
      by_place (inl there) = inl (ap (λ l. is_in_small (eq p.0) (after_all eq (scan l) m)) parts ∙ there)
      by_place (inr gone) = inr (omega (arith, gone.0, ap (λ s. s.small) same), ap (λ l. is_remembered (eq p.0) (after_all eq (scan l) m)) parts ∙ gone.1)

    held_twice : AreHeld puts (after_all eq (scan puts) once)
    held_twice =
        by_places (λ p. is_some (slot_of (eq p.0) (after_all eq (scan puts) once)) ≡ true) [] puts
        (λ before p behind parts.
        ap (λ l. is_some (slot_of (eq p.0) (after_all eq (scan l) once))) parts
        ∙ second_round eq laws before p behind once whole (full_main eq laws once whole (full_run eq laws puts m h full new))
        (subst (AreDistinct eq) parts (scan_distinct puts m scans)) (subst (λ l. Remain eq laws l once) parts (remain_from [] puts refl))
        (omega (arith, fits, bits_run puts m h new, ap (λ s. s.capacity) same, ap (length {A = K × V}) parts, length-append before (p ∷ behind))))

    -- from the third round on each access hits
    pub loop_hits : (times : ℕ) → AllByRecursion (λ reply. is_hit reply ≡ true) (answers eq (scan (rounds times puts)) (after_all eq (scan puts) once))
    loop_hits times =
        all_hit (rounds times puts) (after_all eq (scan puts) once) (lasting-run eq laws (scan puts) once whole)
        (all_rounds (λ p. is_some (slot_of (eq p.0) (after_all eq (scan puts) once)) ≡ true) times puts held_twice)

  -- A history as long as Main's share admits every loop that fits beside Main's hit keys: from the third round on each
  -- access hits.
  module _ (m : Machine K V) (h : IsWhole eq m) (full : IsFullCache m) (puts : List (K × V)) (scans : IsScan eq puts m)
      (remembers : main_share m.shares ≤ m.shares.history) (fits : length puts + set_bits m ≤ m.shares.capacity) where
    pub loop_that_fits : (times : ℕ)
        → AllByRecursion (λ reply. is_hit reply ≡ true) (answers eq (scan (rounds times puts)) (after_all eq (scan puts) (after_all eq (scan puts) m)))
    loop_that_fits = loop_hits m h full puts scans (omega (arith, remembers, fits, h.small_below)) fits
