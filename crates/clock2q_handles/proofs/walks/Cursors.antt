-- Lookups that keep a slot and what they look for there: how far they are, and what a step does to what is left.
use Rattle.std.proofs.Common.{◌≡◌, ◌≢◌, ℕ, suc, ◌+◌, ◌-◌, ◌%◌, ◌<◌, ◌≤◌, refl, ap, sym, ◌∙◌, arith, ◌==◌, eq-eqb, List, [], ◌∷◌, ◌++◌, map, filter, length, Option, Some, None, IfSome}
use Rattle.std.specs.Prelude.{IsSome, IsTrue, Bool, true, false, ◌↔◌}
use Rattle.std.proofs.lemmas.Bool.{cases_lt, eqb-true, and_parts}
use Rattle.std.proofs.lemmas.Bool.Decides.{eqb_tells}
use Rattle.std.proofs.lemmas.List.{map-append}
use Rattle.std.proofs.lemmas.List.Elements.{filter-append}
use Rattle.std.proofs.Math.Nat.{add-mod_right, mod-add-mod}
use Rattle.clock2q_handles.specs.Homes.{top}
use Rattle.clock2q_handles.specs.Layout.{Placed, slot_at, reach, at_home, homes_of, IsTidy, AreNear}
use Rattle.clock2q_handles.specs.Candidates.{left_from, unread_from, home_back, left_at, unread_at, is_mark, peeked_at, IsOnWalk, IsLookup}
use Rattle.clock2q_handles.specs.Slots.{Mark, mark_of, mark_on, mark_reach}
use Rattle.clock2q_handles.proofs.layout.FewerEntries.{walk-none}
use Rattle.clock2q_handles.proofs.layout.Periods.{rem-same}
use Rattle.clock2q_handles.proofs.layout.Reading.{slot-again}
use Rattle.clock2q_handles.proofs.layout.TidyLayout.{length-homes_of}
use Rattle.clock2q_handles.proofs.layout.Walk.{met-late}
use Rattle.clock2q_handles.proofs.shifts.Moves.{less_than_lap, refused, reach_of_meaning}
use Rattle.clock2q_handles.proofs.walks.Yields.{walk-home, walk-at, walk-beyond}

-- adding to a remainder
pub rem-plus : (m y k : ℕ) → (y % m + k) % m ≡ (y + k) % m
rem-plus m y k = mod-add-mod y m k

-- the home of a walk that has come from x
pub home_of_walk : {H : Type 0} (slots : List (Option (Placed (ℕ × H)))) (x d n : ℕ) → d < length slots → n ≡ (x + d) % length slots → home_back slots n d ≡ x % length slots
home_of_walk slots x d n within at = grind (arith, rem-plus (length slots) (x + d) (length slots - d), add-mod_right x (length slots))

module _ {H : Type 0} where
  -- the candidates among the entries of a home that are in one slot
  abbrev candidate_in : Option (Placed (ℕ × H)) → ℕ → ℕ → List H
  candidate_in o d f = map (λ e. e.1) (filter (λ e. e.0 == f) (at_home o d))

  candidate_in-other : (o : Option (Placed (ℕ × H))) (d f : ℕ) → mark_of o ≢ Some (d, f) → candidate_in o d f ≡ []
  candidate_in-other None d f other = refl
  candidate_in-other (Some p) d f other = grind (arith, eqb_tells)

  candidate_in-here : (o : Option (Placed (ℕ × H))) (d f : ℕ) (r : H) → mark_of o ≡ Some (d, f) → IfSome o (λ p. r ≡ p.entry.1) → candidate_in o d f ≡ r ∷ []
  candidate_in-here None d f r is handle = absurd (cc)
  candidate_in-here (Some p) d f r is handle = grind (arith, eq-eqb)

  -- a slot with the mark that is looked for has a handle
  found_in : (o : Option (Placed (ℕ × H))) (s : ℕ × ℕ) → is_mark s (mark_of o) ≡ true → (mark_of o ≡ Some s) × ((r : H) × IfSome o (λ p. r ≡ p.entry.1))
  found_in None s h = absurd (cc)
  found_in (Some p) s h = (grind (arith, and_parts (s.0 == p.displacement) (s.1 == p.entry.0) h, eqb-true s.0 p.displacement, eqb-true s.1 p.entry.0), (p.entry.1, refl))

-- what is left in a slot on a walk for x, and what is unread
left_home : {H : Type 0} (slots : List (Option (Placed (ℕ × H)))) (x d n : ℕ) → d < length slots → n ≡ (x + d) % length slots
    → (left_at slots (Some (d, top x)) n ≡ left_from slots x d) × (unread_at slots (Some (d, top x)) n ≡ unread_from slots x d)
left_home slots x d n within at = let home = home_of_walk slots x d n within at in (cc home, cc (home, walk-home slots x))

-- what a step does to a lookup
pub record HasStepped {H : Type 0} (slots : List (Option (Placed (ℕ × H)))) (s s' : Mark) (n n' : ℕ) : Type 0 where
  pub lookup : IsLookup slots s' n'
  pub some : IsSome s'
  pub read : unread_at slots s n ≡ unread_at slots s' n' + 1
  pub skips : mark_of (slot_at slots n) ≢ s → left_at slots s n ≡ left_at slots s' n'
  pub takes : (r : H) → mark_of (slot_at slots n) ≡ s → IfSome (slot_at slots n) (λ p. r ≡ p.entry.1) → left_at slots s n ≡ r ∷ left_at slots s' n'

module _ {H : Type 0} (slots : List (Option (Placed (ℕ × H)))) (tidy : IsTidy slots) (d f n : ℕ) (on : IsOnWalk slots d f n) where
  -- the contents of the slot that the walk has reached
  walk_here : slot_at slots n ≡ slot_at slots (on.hash + d)
  walk_here = ap (slot_at slots) on.slot ∙ rem-same (slot_at slots) (length slots) (slot-again slots) (on.hash + d)

  home_here : slot_at slots (on.hash % length slots + d) ≡ slot_at slots n
  home_here = grind (arith, rem-plus (length slots) on.hash d, walk_here)

  -- what is left in slot n is what is left d slots past the home
  pub left_is : left_at slots (Some (d, f)) n ≡ left_from slots on.hash d
  left_is = cc (on.fingerprint, (left_home slots on.hash d n on.within on.slot).0)

  unread_is : unread_at slots (Some (d, f)) n ≡ unread_from slots on.hash d
  unread_is = (left_home slots on.hash d n on.within on.slot).1

  -- what is left is what this slot has and what is left after it
  left_more : left_at slots (Some (d, f)) n ≡ candidate_in (slot_at slots n) d f ++ left_from slots on.hash (suc d)
  left_more =
      let e : length slots - d ≡ suc (length slots - suc d) = omega (arith, on.within) in
      left_is ∙ rw e (simp (filter-append, map-append, home_here, on.fingerprint))

  -- it goes on to the next slot
  stepped : AreNear slots → d < reach (slot_at slots n) → (next : ℕ) → next ≡ (n + 1) % length slots → HasStepped slots (Some (d, f)) (Some (suc d, f)) n next
  stepped near far next at =
      let slot : next ≡ (on.hash + suc d) % length slots = grind (arith, on.slot, rem-plus (length slots) (on.hash + d) 1) in
      let passed : (j : ℕ) → j < suc d → j < reach (slot_at slots (on.hash + j)) = λ j l. grind (arith, cases_lt j d, walk_here) in
      let within = less_than_lap slots on.hash (suc d) tidy (omega (arith, on.within)) (λ j l. omega (arith, passed j l)) in
      let left = left_home slots on.hash (suc d) next within slot in
      record {
        lookup = record { tidy = tidy; near = near; walk = record { hash = on.hash; slot = slot; fingerprint = on.fingerprint; within = within; passed = passed } };
        some = refl;
        read = omega (arith, unread_is, left.1, on.fingerprint, walk-beyond slots tidy on.hash d (omega (arith, on.within)) (omega (arith, far, ap reach walk_here)));
        skips = λ other. grind (arith, left_more, on.fingerprint, left.0, candidate_in-other (slot_at slots n) d f other);
        takes = λ r mark handle. grind (arith, left_more, on.fingerprint, left.0, candidate_in-here (slot_at slots n) d f r mark handle);
      }

module _ {H : Type 0} (slots : List (Option (Placed (ℕ × H)))) where
  pub lookup_ends : (s : Mark) (n : ℕ) → IsSome s → IsLookup slots s n → reach (slot_at slots n) < mark_reach s → (left_at slots s n ≡ []) × (unread_at slots s n ≡ 1)
  lookup_ends None n some lookup near = absurd (cc)
  lookup_ends (Some s) n some lookup near =
      let on = lookup.walk in
      grind (
        arith,
        left_is slots lookup.tidy s.0 s.1 n on,
        home_here slots lookup.tidy s.0 s.1 n on,
        unread_is slots lookup.tidy s.0 s.1 n on,
        walk-at slots lookup.tidy on.hash s.0,
        on.passed,
        met-late (slot_at slots) lookup.tidy.ordered (on.hash % length slots) s.0 (length slots - s.0),
        walk_here slots lookup.tidy s.0 s.1 n on,
      )

  -- a slot that doesn't end a lookup is followed by the next
  pub lookup_steps : (s s' : Mark) (n n' : ℕ) → IsSome s → s' ≡ mark_on s → n' ≡ (n + 1) % length slots → IsLookup slots s n → mark_reach s ≤ reach (slot_at slots n) → HasStepped slots s s' n n'
  lookup_steps None s' n n' some is at lookup far = absurd (cc)
  lookup_steps (Some s) s' n n' some is at lookup far = rw is (stepped slots lookup.tidy s.0 s.1 n lookup.walk lookup.near (omega (arith, far)) n' at)

  -- a lookup that has read nothing yet, if there are slots
  pub lookup_begins : (x n : ℕ) → IsTidy slots → AreNear slots → 0 < length slots → n ≡ x % length slots → IsLookup slots (Some (0, top x)) n
  lookup_begins x n tidy near some at = grind arith

  -- has everything left
  pub begins_whole : (x n : ℕ) → IsTidy slots → AreNear slots → 0 < length slots → n ≡ x % length slots
      → (left_at slots (Some (0, top x)) n ≡ left_from slots x 0) × (unread_at slots (Some (0, top x)) n ≡ unread_from slots x 0)
  begins_whole x n tidy near some at = left_home slots x 0 n some (grind arith)

  -- and if there are no slots, there is nothing
  pub begins_empty : (x : ℕ) → IsTidy slots → length slots ≡ 0 → ([] ≡ left_from slots x 0) × (0 ≡ unread_from slots x 0)
  begins_empty x tidy none = grind (arith, walk-none (homes_of slots) x, length-homes_of slots)

  -- a slot that doesn't end a walk lets it go on
  pub goes_on : (b : Bool) (s t : Mark) (n : ℕ) → IsTrue b ↔ (mark_reach t < mark_reach s) → b ≡ false → t ≡ mark_of (slot_at slots n) → mark_reach s ≤ reach (slot_at slots n)
  goes_on b s t n test off is = grind (arith, cases_lt (mark_reach t) (mark_reach s), refused, reach_of_meaning t (slot_at slots n) is)

-- a walk in a slot where it has found what it looks for
module _ {H : Type 0} (slots : List (Option (Placed (ℕ × H)))) where
  -- a walk goes on from there
  pub record HasPassed (s s' : Mark) (n n' : ℕ) : Type 0 where
    pub lookup : IsLookup slots s' n'
    pub read : unread_at slots s n ≡ unread_at slots s' n' + 1
    pub left : (r : H) × (left_at slots s n ≡ r ∷ left_at slots s' n')

  -- what is known of a slot where a walk has found something
  pub record IsCandidate (s : Mark) (n : ℕ) : Type 0 where
    pub some : IsSome s
    pub within : n < length slots
    pub far : mark_reach s ≤ reach (slot_at slots n)

  pub standing : (s : Mark) (n : ℕ) → IsLookup slots s n → peeked_at slots s n ≡ true → IsCandidate s n
  standing None n lookup h = absurd (cc)
  standing (Some s) n lookup h = grind (arith, found_in (slot_at slots n) s h, lookup.walk.slot, lookup.walk.within, reach_of_meaning (Some s) (slot_at slots n))

  pub passed_on : (s s' : Mark) (n n' : ℕ) → IsLookup slots s n → peeked_at slots s n ≡ true → s' ≡ mark_on s → n' ≡ (n + 1) % length slots → HasPassed s s' n n'
  passed_on None s' n n' lookup h is at = absurd (cc)
  passed_on (Some s) s' n n' lookup h is at =
      let found = found_in (slot_at slots n) s h in
      let step = lookup_steps slots (Some s) s' n n' refl is at lookup (standing (Some s) n lookup h).far in
      record { lookup = step.lookup; read = step.read; left = (found.1.0, step.takes found.1.0 found.0 found.1.1) }

-- a walk that looked for s in slot n has found the handle r in slot n', where it looks for s', and has read slots on from w up to w'
pub record HasFound {H : Type 0} (slots : List (Option (Placed (ℕ × H)))) (s s' : Mark) (n n' : ℕ) (r : H) (w w' : ℕ) : Type 0 where
  pub far : mark_reach s' ≤ reach (slot_at slots n')
  pub read : w' + unread_at slots s' n' ≡ w + unread_at slots s n + 1
  pub on : (t : Mark) (k : ℕ) → t ≡ mark_on s' → k ≡ (n' + 1) % length slots → HasStepped slots s' t n' k × (left_at slots s n ≡ r ∷ left_at slots t k)

pub has_found : {H : Type 0} (slots : List (Option (Placed (ℕ × H)))) {s s' : Mark} {n n' : ℕ} (r : H) {w w' : ℕ} → IsLookup slots s' n'
    → IsSome s' → mark_of (slot_at slots n') ≡ s' → left_at slots s n ≡ left_at slots s' n' → IfSome (slot_at slots n') (λ p. r ≡ p.entry.1)
    → w' + unread_at slots s' n' ≡ w + unread_at slots s n + 1 → HasFound slots s s' n n' r w w'
has_found slots {s' = s'} {n' = n'} r lookup some found left handle read =
    let far : mark_reach s' ≤ reach (slot_at slots n') = omega (arith, reach_of_meaning s' (slot_at slots n') (sym found)) in
    record { far = far; read = read; on = λ t k more at. let step = lookup_steps slots s' t n' k some more at lookup far in (step, left ∙ step.takes r found handle) }
