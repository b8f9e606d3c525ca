-- What a call over a view of both vectors does, stated of the vectors.
use Rattle.std.proofs.Common.{◌≡◌, ℕ, ◌++◌, ap, sym, ◌∙◌, List, length, take, take_at, drop, Option}
use Rattle.clock2q_handles.specs.Found.{TakesOutAt}
use Rattle.clock2q_handles.specs.Layout.{Placed}
use Rattle.clock2q_handles.specs.Shifts.{PutsAt}
use Rattle.clock2q_handles.specs.Slots.{Mark, cells, AreMasked}
use Rattle.clock2q_handles.specs.declared.metadata.Metadata.{Metadata}

module _ {H : Type 0} where
  pub cells_along : {ms ms' : List Metadata} {vs vs' : List H} → ms ≡ ms' → vs ≡ vs' → cells ms vs ≡ cells ms' vs'
  cells_along {ms' = ms'} {vs = vs} e f = ap (λ m. cells m vs) e ∙ ap (cells ms') f

  -- two vectors whose slices were written contain what the slices do
  pub cells_back : (ms before : List Metadata) (vs held : List H) (m n : ℕ) → length ms ≡ m → length vs ≡ n
      → cells ms vs ≡ cells (take m (ms ++ drop (length ms) before)) (take n (vs ++ drop (length vs) held))
  cells_back ms before vs held m n e f = cells_along (sym (take_at ms (drop (length ms) before) m e)) (sym (take_at vs (drop (length vs) held) n f))

  -- and what holds of these holds of the vectors
  pub masked_back : (ms before : List Metadata) (vs held : List H) (m n k : ℕ) → length ms ≡ m → length vs ≡ n → AreMasked ms vs k
      → AreMasked (take m (ms ++ drop (length ms) before)) (take n (vs ++ drop (length vs) held)) k
  masked_back ms before vs held m n k e f masked = rw (take_at ms (drop (length ms) before) m e, take_at vs (drop (length vs) held) n f) masked

  pub puts_at_along : {old old' new new' : List (Option (Placed (ℕ × H)))} {s : Mark} {n : ℕ} {v : H} {b b' a : ℕ}
      → PutsAt old new s n v b a → old ≡ old' → new ≡ new' → b ≡ b' → PutsAt old' new' s n v b' a
  puts_at_along puts o m f = rw (← o, ← m, ← f) puts

  pub takes_at_along : {old old' new new' : List (Option (Placed (ℕ × H)))} {n b b' a : ℕ} → TakesOutAt old new n b a → old ≡ old' → new ≡ new' → b ≡ b' → TakesOutAt old' new' n b' a
  takes_at_along takes o m f = rw (← o, ← m, ← f) takes
