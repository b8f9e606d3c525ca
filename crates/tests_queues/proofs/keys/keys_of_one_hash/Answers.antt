use Rattle.std.proofs.Common.{◌≡◌, ℕ, [], List, length, sym, ap, ◌∙◌, arith}
use Rattle.clock2q_handles.specs.TableStep.{TableValue, made_for}
use Rattle.clock2q_directory.specs.Keys.{KeyPlaces}
use Rattle.clock2q_directory.specs.Index.{index_room}
use Rattle.clock2q_directory.proofs.Indexes.{IsIndex-new, fits_new}
use Rattle.tests_queues.proofs.keys.keys_of_one_hash.Goals as goal

pub put-requires-clause-spacious : goal.put-requires-clause-spacious
put-requires-clause-spacious c =
    let homes : c.in_ok-index.index.homes ≡ made_for (index_room 3) = ap (λ (z : TableValue ℕ). z.homes) c.in_ok-index.ensures.made ∙ ap (λ n. made_for {H = ℕ} n) c.index_room.ensures.room in
    let slots = ap (λ (z : List (List (ℕ × ℕ))). length z) homes in
    let room = ap (λ (z : KeyPlaces ℕ Unit). z.room) c.in_ok-keys.ensures.made in
    omega (arith, slots, room, fits_new (index_room 3))

pub put-requires-clause-indexed : goal.put-requires-clause-indexed
put-requires-clause-indexed c =
    let homes : c.in_ok-index.index.homes ≡ made_for (index_room 3) = ap (λ (z : TableValue ℕ). z.homes) c.in_ok-index.ensures.made ∙ ap (λ n. made_for {H = ℕ} n) c.index_room.ensures.room in
    let none = ap (λ (z : KeyPlaces ℕ Unit). length z.entries) c.in_ok-keys.ensures.made in
    ([], rw homes (IsIndex-new (index_room 3) c.in_ok-keys.keys.entries), tt, sym none)

pub places_of-requires-clause-some : goal.places_of-requires-clause-some
places_of-requires-clause-some c =
    let room = ap (λ (z : KeyPlaces ℕ Unit). z.room) c.in_ok-keys.ensures.made in
    omega (arith, room, c.put.ensures.room, c.put-2.ensures.room, c.put-3.ensures.room, c.put-3.ensures.spacious)
