-- Walks and moves that keep a slot: how far it is from the home, and what the moves result in, seen from the slot where they began.
use Rattle.std.proofs.Common.{◌≡◌, ◌↔◌, Bool, false, IsTrue, ℕ, zero, suc, ◌+◌, ◌-◌, ◌%◌, ◌<◌, ◌≤◌, refl, ap, sym, ◌∙◌, subst, arith, List, length, set, length-set, Option, Some, mod-eq_of_lt}
use Rattle.std.proofs.Common.{None, IfSome, below_more}
use Rattle.std.proofs.lemmas.Bool.{cases_lt}
use Rattle.std.proofs.Math.Nat.{mod-mod, mod-add-mod, add-mod_right}
use Rattle.clock2q_handles.specs.Candidates.{IsWalkFor}
use Rattle.clock2q_handles.specs.Homes.{top}
use Rattle.clock2q_handles.specs.Layout.{Placed, placed, slot_at, reach, longest_reach, IsTidy, AreNear}
use Rattle.clock2q_handles.specs.Shifts.{Opens, Closes, HasCome, HasRoomAt, LacksRoomAt, IsVacancy, moved_on}
use Rattle.clock2q_handles.specs.Slots.{Mark, cell, mark_of, mark_on, mark_back, mark_reach}
use Rattle.clock2q_handles.proofs.layout.Periods.{lap, lap-lt, lap-same, rem-same}
use Rattle.clock2q_handles.proofs.layout.Reading.{slot-again}
use Rattle.clock2q_handles.proofs.layout.Laid.{reach-none}
use Rattle.clock2q_handles.proofs.shifts.Moves.{apart_on_lap, slot_at-set_same, slot_at-set_other, less_than_lap, cell-mark_on, cell-mark_back, reach_of_meaning, vacant_of_meaning}
use Rattle.clock2q_handles.proofs.shifts.Steps.{past_home}
use Rattle.clock2q_handles.proofs.walks.Cursors.{goes_on}

-- the distance from s of the slot k past it is k
pub lap-at : (m s k t : ℕ) → k < m → t ≡ (s + k) % m → lap m s t ≡ k
lap-at m s k t within at = grind (arith, lap-lt m s t (omega arith), lap-same (λ y. y % m) m (λ n. add-mod_right n m) (omega arith) s t, mod-mod (s + k) m, apart_on_lap m s (lap m s t) k)

module _ {E : Type 0} (slots : List (Option (Placed E))) where
  -- the contents of a slot, seen from another
  pub slot_from : (s k t : ℕ) → t ≡ (s + k) % length slots → slot_at slots t ≡ slot_at slots (s + k)
  slot_from s k t at = ap (slot_at slots) at ∙ rem-same (slot_at slots) (length slots) (slot-again slots) (s + k)

  pub slot_from_plus : (h n s i : ℕ) → s ≡ (h + n) % length slots → slot_at slots (s + i) ≡ slot_at slots (h + (n + i))
  slot_from_plus h n s i at =
      let e : h + n + i ≡ h + (n + i) = omega arith in
      rw (at, mod-add-mod (h + n) (length slots) i, e)

  pub come_home : (g s : ℕ) → s ≡ g → g < length slots → HasCome slots g 0 s
  come_home g s at within = grind (arith, mod-eq_of_lt)

  pub come_here : (g d s : ℕ) → HasCome slots g d s → slot_at slots s ≡ slot_at slots (g + d)
  come_here g d s come = slot_from g d s come.slot

  pub come_slot : (g d s : ℕ) → HasCome slots g d s → s < length slots
  come_slot g d s come = omega (arith, come.slot, come.within)

  -- a walk from the home of x, seen from x
  pub come_at : (x d s : ℕ) → HasCome slots (x % length slots) d s → HasCome slots x d s
  come_at x d s come = grind (arith, come, mod-add-mod x (length slots) d, past_home slots (length slots) (x % length slots) x refl refl)

  -- a walk that goes on
  pub come_on : IsTidy slots → (g d s s' : ℕ) → HasCome slots g d s → d < reach (slot_at slots s) → s' ≡ (s + 1) % length slots → HasCome slots g (suc d) s'
  come_on tidy g d s s' come far on =
      let passed : (j : ℕ) → j < suc d → j < reach (slot_at slots (g + j)) = λ j l. grind (arith, come.passed j, come_here g d s come) in
      grind (arith, passed, mod-add-mod (g + d) (length slots) 1, come.slot, less_than_lap slots g (suc d) tidy (omega (arith, come.within)) (λ j l. omega (arith, passed j l)))

-- a walk from s on has gone k slots, to t, past occupied ones
pub record IsRun {E : Type 0} (slots : List (Option (Placed E))) (s t k : ℕ) : Type 0 where
  pub slot : t ≡ (s + k) % length slots
  pub within : k < length slots
  pub occupied : (j : ℕ) → j < k → 0 < reach (slot_at slots (s + j))

module _ {E : Type 0} (slots : List (Option (Placed E))) {s : ℕ} where
  pub run_begins : s < length slots → IsRun slots s s 0
  run_begins within = grind (arith, mod-eq_of_lt)

  module _ {t k : ℕ} (run : IsRun slots s t k) where
    pub run_slot : t < length slots
    run_slot = omega (arith, run.slot, run.within)

    pub run_here : slot_at slots t ≡ slot_at slots (s + k)
    run_here = slot_from slots s k t run.slot

    -- seen from the home
    pub run_full : (h n : ℕ) → HasCome slots h n s → (j : ℕ) → j < n + k → 0 < reach (slot_at slots (h + j))
    run_full h n come j l = grind (arith, cases_lt j n, come.passed j, run.occupied (j - n), slot_from_plus slots h n s (j - n) come.slot)

    module _ (tidy : IsTidy slots) where
      pub run_within : (h n : ℕ) → HasCome slots h n s → n + k < length slots
      run_within h n come = less_than_lap slots h (n + k) tidy (omega (arith, run.within)) (run_full h n come)

      -- it goes on past one more
      pub run_on : 0 < reach (slot_at slots t) → {t' : ℕ} → t' ≡ (t + 1) % length slots → IsRun slots s t' (suc k)
      run_on some {t'} on =
          let all : (j : ℕ) → j < suc k → 0 < reach (slot_at slots (s + j)) = λ j l. grind (arith, run.occupied j, run_here) in
          grind (arith, all, mod-add-mod (s + k) (length slots) 1, run.slot, less_than_lap slots s (suc k) tidy (omega (arith, run.within)) all)

    -- and comes nearer to a whole lap
    pub run_nearer : {t' k' : ℕ} → IsRun slots s t' k' → k < k' → length slots - lap (length slots) s t' < length slots - lap (length slots) s t
    run_nearer {t'} {k'} next more = omega (arith, lap-at (length slots) s k t run.within run.slot, lap-at (length slots) s k' t' next.within next.slot, more, next.within)

-- the k slots from s on that moved on by one, up to an empty one, seen from the home of the entry in s
moved_opens : {E : Type 0} (slots slots' : List (Option (Placed E))) (m h n s k : ℕ) (e : E) → length slots ≡ m → length slots' ≡ m → s ≡ (h + n) % m → n + k < m
    → slot_at slots' s ≡ Some (placed n e) → ((j : ℕ) → j < k → slot_at slots' (s + suc j) ≡ moved_on (slot_at slots (s + j))) → slot_at slots (s + k) ≡ None
    → ((j : ℕ) → k < j → j < m → slot_at slots' (s + j) ≡ slot_at slots (s + j)) → Opens (slot_at slots) (slot_at slots') m h n (n + k) e
moved_opens slots slots' m h n s k e len len' slot within put moved vacant kept =
    let at' : s ≡ (h + n) % length slots' = slot ∙ ap (λ x. (h + n) % x) (sym len') in
    let from = λ (i : ℕ). slot_from_plus slots h n s i (slot ∙ ap (λ x. (h + n) % x) (sym len)) in
    let from' = λ (i : ℕ). slot_from_plus slots' h n s i at' in
    let on : (j : ℕ) → n ≤ j → j < n + k → slot_at slots' (h + suc j) ≡ moved_on (slot_at slots (h + j)) = λ j l u. grind (arith, from (j - n), from' (suc (j - n)), moved (j - n)) in
    let before : (j : ℕ) → j < n → slot_at slots' (h + j) ≡ slot_at slots (h + j) = λ j l.
    grind (arith, len, len', from (m - n + j), from' (m - n + j), slot-again slots (h + j), slot-again slots' (h + j), kept (m - n + j)) in
    let after : (j : ℕ) → n + k < j → j < m → slot_at slots' (h + j) ≡ slot_at slots (h + j) = λ j l u. grind (arith, from (j - n), from' (j - n), kept (j - n)) in
    grind (arith, on, before, after, from k, slot_from slots' h n s at')

-- the new contents of the slots from s on, when an entry is put in there and the rest moves on
abbrev pub carried : {E : Type 0} → (ℕ → Option (Placed E)) → Option (Placed E) → ℕ → ℕ → Option (Placed E)
carried A first s zero = first
carried A first s (suc j) = moved_on (A (s + j))

-- an entry is carried on: the slots from s up to t hold their new contents, `next` belongs in t, and the mark `there` is still in t
pub record CarryState {H : Type 0} (old now : List (Option (Placed (ℕ × H)))) (first next : Option (Placed (ℕ × H))) (there : Mark) (s t w w' : ℕ) : Type 0 where
  pub steps : ℕ
  pub run : IsRun old s t steps
  pub len : length now ≡ length old
  pub moved : (j : ℕ) → j < steps → slot_at now (s + j) ≡ carried (slot_at old) first s j
  pub rest : (j : ℕ) → steps ≤ j → j < length old → slot_at now (s + j) ≡ slot_at old (s + j)
  pub next_is : next ≡ carried (slot_at old) first s steps
  pub there_is : there ≡ mark_of (slot_at old t)
  pub writes : w' ≡ w + steps

-- the hole that was left at s has moved up to t
pub record CloseState {H : Type 0} (old now : List (Option (Placed (ℕ × H)))) (s t w w' : ℕ) : Type 0 where
  pub steps : ℕ
  pub run : IsRun old s t steps
  pub here : 0 < reach (slot_at old t)
  pub len : length now ≡ length old
  pub moved : (j : ℕ) → j < steps → slot_at old (s + suc j) ≡ moved_on (slot_at now (s + j))
  pub rest : (j : ℕ) → steps < j → j < length old → slot_at now (s + j) ≡ slot_at old (s + j)
  pub writes : w' ≡ w + steps

-- `now` with x written in the slot k past s
record IsWritten {E : Type 0} (now now' : List (Option (Placed E))) (m s k : ℕ) (x : Option (Placed E)) : Type 0 where
  here : slot_at now' (s + k) ≡ x
  other : (j : ℕ) → j < m → (j ≡ k → ⊥) → slot_at now' (s + j) ≡ slot_at now (s + j)
  len : length now' ≡ m

written : {E : Type 0} {old now now' : List (Option (Placed E))} {s t k : ℕ} {x : Option (Placed E)} → IsRun old s t k → length now ≡ length old → now' ≡ set now t x → IsWritten now now' (length old) s k x
written {now = now} {now' = now'} {s} {t} {k} {x} run len is = grind (arith, run, len, is, length-set, slot_at-set_same now x (s + k), slot_at-set_other now x (s + k), apart_on_lap (length now) s)

-- the slot that a run has reached, in slots of the same number
reached : {E : Type 0} {old : List (Option (Placed E))} (now : List (Option (Placed E))) {s t k : ℕ} → IsRun old s t k → length now ≡ length old → slot_at now t ≡ slot_at now (s + k)
reached now {s} {t} {k} run len = slot_from now s k t (run.slot ∙ ap (λ m. (s + k) % m) (sym len))

module _ {H : Type 0} (old now : List (Option (Placed (ℕ × H)))) where
  module _ (tidy : IsTidy old) {first next : Option (Placed (ℕ × H))} {there : Mark} {s t w w' : ℕ} (state : CarryState old now first next there s t w w') where
    pub carry_slot : t < length now
    carry_slot = omega (arith, run_slot old state.run, state.len)

    carry_full : (there ≡ None → ⊥) → 0 < reach (slot_at old t)
    carry_full occ = grind (arith, state.there_is, reach-none (slot_at old t))

    pub carry_room : {mark : Mark} → HasRoomAt old mark s → (there ≡ None → ⊥) → mark_reach there ≤ 16777214
    carry_room room occ =
        let full : (j : ℕ) → j ≤ state.steps → 0 < reach (slot_at old (s + j)) = λ j l. grind (arith, state.run.occupied j, carry_full occ, run_here old state.run) in
        omega (arith, room.others state.steps full, reach_of_meaning there (slot_at old t) state.there_is, ap reach (run_here old state.run))

    carried_more : {now' : List (Option (Placed (ℕ × H)))} → IsWritten now now' (length old) s state.steps next → (j : ℕ) → j ≤ state.steps → slot_at now' (s + j) ≡ carried (slot_at old) first s j
    carried_more {now'} new j l = below_more (λ i. slot_at now' (s + i) ≡ carried (slot_at old) first s i) state.steps
        (λ i below. new.other i (omega (arith, below, state.run.within)) (λ q. omega (arith, q, below)) ∙ state.moved i below) (new.here ∙ state.next_is) j (omega (arith, l))

    -- the entry that was there is carried on
    pub carry_goes : (now' : List (Option (Placed (ℕ × H)))) (t' : ℕ) (held : H) (there' mark' : Mark)
        → (there ≡ None → ⊥) → now' ≡ set now t next → IfSome (slot_at now t) (λ p. held ≡ p.entry.1) → mark' ≡ mark_on there
        → t' ≡ (t + 1) % length now' → there' ≡ mark_of (slot_at now' t') → CarryState old now' first (cell mark' held) there' s t' w (w' + 1)
    carry_goes now' t' held there' mark' occ is handle more on meaning' =
        let k : ℕ = state.steps in
        let new : IsWritten now now' (length old) s k next = written state.run state.len is in
        let run : IsRun old s t' (suc k) = run_on old state.run tidy (carry_full occ) (on ∙ ap (λ m. (t + 1) % m) new.len) in
        let untouched : slot_at now t ≡ slot_at old t = reached now state.run state.len ∙ state.rest k (omega arith) state.run.within ∙ sym (run_here old state.run) in
        let rest : (j : ℕ) → suc k ≤ j → j < length old → slot_at now' (s + j) ≡ slot_at old (s + j) = λ j from l. new.other j l (λ q. omega (arith, q, from)) ∙ state.rest j (omega (arith, from)) l in
        let further = cell-mark_on there mark' (slot_at old t) held state.there_is more (subst (λ o. IfSome o (λ p. held ≡ p.entry.1)) untouched handle) in
        grind (arith, run, new.len, carried_more new, rest, further, run_here old state.run, reached now' run new.len, run_here old run, state.writes)

    -- the last is put into the empty slot
    pub carry_ends : (now' : List (Option (Placed (ℕ × H)))) → there ≡ None → now' ≡ set now t next → (h n : ℕ) (e : ℕ × H) → HasCome old h n s → first ≡ Some (placed n e)
        → (v : ℕ) × IsVacancy (slot_at old) h v × Opens (slot_at old) (slot_at now') (length old) h n v e × (w' + 1 + n ≡ w + v + 1)
    carry_ends now' none is h n e come first_is =
        let k : ℕ = state.steps in
        let new : IsWritten now now' (length old) s k next = written state.run state.len is in
        let start : s + 0 ≡ s = omega arith in
        let opens = moved_opens old now' (length old) h n s k e refl new.len come.slot (run_within old state.run tidy h n come) (grind (arith, start, carried_more new 0))
        (λ j l. carried_more new (suc j) (omega (arith, l))) (grind (arith, run_here old state.run, vacant_of_meaning there (slot_at old t) none state.there_is)) (grind (arith, new, state.rest)) in
        (n + k, record { vacant = opens.vacant; occupied = run_full old state.run h n come }, opens, omega (arith, state.writes))

  module _ (tidy : IsTidy old) {s t w w' : ℕ} (state : CloseState old now s t w w') where
    pub close_slot : t < length now
    close_slot = omega (arith, run_slot old state.run, state.len)

    module _ {t' : ℕ} (on : t' ≡ (t + 1) % length now) where
      next_run : IsRun old s t' (suc state.steps)
      next_run = run_on old state.run tidy state.here (on ∙ ap (λ m. (t + 1) % m) state.len)

      next_was : slot_at now t' ≡ slot_at old t'
      next_was = reached now next_run state.len ∙ state.rest (suc state.steps) (omega arith) next_run.within ∙ sym (run_here old next_run)

      -- the entry after the hole moves into it
      pub close_goes : (now' : List (Option (Placed (ℕ × H)))) (mark mark' : Mark) (held : H) → mark ≡ mark_of (slot_at now t')
          → 1 < mark_reach mark → mark' ≡ mark_back mark → IfSome (slot_at now t') (λ p. held ≡ p.entry.1)
          → now' ≡ set now t (cell mark' held) → CloseState old now' s t' w (w' + 1)
      close_goes now' mark mark' held meaning far less handle is =
          let far_next : 1 < reach (slot_at now t') = omega (arith, far, reach_of_meaning mark (slot_at now t') meaning) in
          let new : IsWritten now now' (length old) s state.steps (cell mark' held) = written state.run state.len is in
          let back : slot_at old (s + suc state.steps) ≡ moved_on (cell mark' held) = sym (next_was ∙ run_here old next_run) ∙ cell-mark_back mark mark' (slot_at now t') held far_next meaning less handle in
          let all = below_more (λ i. slot_at old (s + suc i) ≡ moved_on (slot_at now' (s + i))) state.steps
          (λ i l. state.moved i l ∙ ap moved_on (sym (new.other i (omega (arith, l, state.run.within)) (λ q. omega (arith, q, l))))) (back ∙ ap moved_on (sym new.here)) in
          grind (arith, next_run, far_next, next_was, new, all, state.rest, state.writes)

      -- the hole is emptied once nothing can move into it
      pub close_ends : (now' : List (Option (Placed (ℕ × H)))) → reach (slot_at now t') ≤ 1
          → now' ≡ set now t None → (h n : ℕ) (e : ℕ × H) → HasCome old h n s → slot_at old (h + n) ≡ Some (placed n e)
          → (v : ℕ) × Closes (slot_at old) (slot_at now') (length old) h n v e × (w' + 1 + n ≡ w + v + 1)
      close_ends now' near is h n e come was =
          let k : ℕ = state.steps in
          let new : IsWritten now now' (length old) s k None = written state.run state.len is in
          let opens = moved_opens now' old (length old) h n s k e new.len refl come.slot (run_within old state.run tidy h n come) (come_here old h n s come ∙ was)
          (grind (arith, state.moved, state.run.within, new.other)) new.here (grind (arith, new, state.rest)) in
          let past : n + suc k ≡ suc (n + k) = omega arith in
          grind (arith, opens, near, past, next_was, run_here old next_run, slot_from_plus old h n s (suc k) come.slot, run_full old next_run h n come, state.writes)

module _ {H : Type 0} (old : List (Option (Placed (ℕ × H)))) where
  pub carry_begins : (first : Option (Placed (ℕ × H))) (there : Mark) (s w : ℕ) → s < length old → there ≡ mark_of (slot_at old s) → CarryState old old first first there s s w w
  carry_begins first there s w within meaning = grind (arith, run_begins old within)

  pub close_begins : (s w : ℕ) → s < length old → 0 < reach (slot_at old s) → CloseState old old s s w w
  close_begins s w within occ = grind (arith, run_begins old within)

module _ {H : Type 0} (slots : List (Option (Placed (ℕ × H)))) (tidy : IsTidy slots) where
  -- a walk for a hash goes on
  pub walks_on : (x : ℕ) (s s' : Mark) (n n' : ℕ) → IsWalkFor slots x s n → mark_reach s ≤ reach (slot_at slots n) → s' ≡ mark_on s → n' ≡ (n + 1) % length slots → IsWalkFor slots x s' n'
  walks_on x s s' n n' walk far more on = grind (arith, come_on slots tidy (x % length slots) walk.distance n n' walk.come (omega (arith, far, ap mark_reach walk.mark)) on)

  -- and begins at the home
  pub walks_begin : (x : ℕ) (s : Mark) (n : ℕ) → 0 < length slots → n ≡ x % length slots → s ≡ Some (0, top x) → IsWalkFor slots x s n
  walks_begin x s n some at is = grind (arith, come_home slots (x % length slots) n at (omega (arith, some)))

  -- one that doesn't end at a slot has room to go on
  pub looks_room : (s : ℕ) (b : Bool) (wanted mark : Mark) → IsTrue b ↔ (mark_reach mark < mark_reach wanted) → b ≡ false
      → mark ≡ mark_of (slot_at slots s) → AreNear slots → mark_reach wanted ≤ longest_reach
  looks_room s b wanted mark test off meaning near = omega (arith, goes_on slots b wanted mark s test off meaning, near s)

-- a walk from s on has reached t, past entries that may all move on
pub record IsPassing {E : Type 0} (slots : List (Option (Placed E))) (s t : ℕ) : Type 0 where
  pub steps : ℕ
  pub run : IsRun slots s t steps
  pub near : (j : ℕ) → j < steps → reach (slot_at slots (s + j)) < longest_reach

module _ {E : Type 0} (slots : List (Option (Placed E))) (s : ℕ) where
  pub pass_begins : s < length slots → IsPassing slots s s
  pass_begins within = grind (arith, run_begins slots within)

  module _ {t : ℕ} (so_far : IsPassing slots s t) where
    pub pass_slot : t < length slots
    pass_slot = run_slot slots so_far.run

    -- it goes on past one more
    pub pass_goes : IsTidy slots → 0 < reach (slot_at slots t) → reach (slot_at slots t) < longest_reach
        → {t' : ℕ} → t' ≡ (t + 1) % length slots → IsPassing slots s t' × (length slots - lap (length slots) s t' < length slots - lap (length slots) s t)
    pass_goes tidy some far on =
        let next = run_on slots so_far.run tidy some on in
        grind (arith, next, so_far.near, far, run_here slots so_far.run, run_nearer slots so_far.run next)

    -- at an empty slot there is room
    pub pass_room : {mark : Mark} → mark_reach mark ≤ longest_reach → slot_at slots t ≡ None → HasRoomAt slots mark s
    pass_room own empty = grind (arith, run_here slots so_far.run, so_far.run.occupied)

    -- and at an entry that may not move on there is none
    pub pass_far : (mark : Mark) → longest_reach ≤ reach (slot_at slots t) → LacksRoomAt slots mark s
    pass_far mark far = grind (arith, run_here slots so_far.run, so_far.run.occupied, below_more)
