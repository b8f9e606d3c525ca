-- A cache's fields keep their invariant when there is more room.
use Rattle.clock2q_cache.proofs.Names.{◌≡◌, ℕ, ◌+◌, ◌*◌, ◌^◌, ◌<◌, ◌≤◌, Bool, List, refl, ap, ◌∙◌, arith, ⊎_elim, cases_lt, IsEquivalence, KeyPlaces, QueueState, Remembered, Shares, Machine, slots, for-new, IsWhole, machine_of, queued_slots, IsCache, cache_state, counts_of, IsPolicy, IsAtLeast, grown, Grows}
use Rattle.clock2q_cache.proofs.Slots.{apart}
use Rattle.clock2q_directory.specs.Growth as directory

-- a whole machine is whole with more room
pub whole-grown : {K V : Type 0} {eq : K → K → Bool} {m : Machine K V} {shares : Shares} → IsWhole eq m → shares.small < shares.capacity → IsAtLeast m.shares shares → IsWhole eq (grown shares m)
whole-grown w below least = record {
  small_below = below;
  small_within = omega (arith, w.small_within, least.small);
  main_within = omega (arith, w.main_within, least.main);
  history_within = omega (arith, w.history_within, least.history);
  made_within = omega (arith, w.made_within, w.small_below, below, least.small, least.main);
  slots_counted = w.slots_counted;
  slots_once = w.slots_once;
  keys_once = w.keys_once;
}

module _ {K V : Type 0} {eq : K → K → Bool} {hash : K → ℕ} {shares : Shares} {q : QueueState} {h : Remembered K} {keys keys' : KeyPlaces K V} {free free' : List ℕ} {room : ℕ} where
  -- keys and free slots got more room
  pub kept-roomier : {h' : Remembered K} {room' : ℕ} → IsCache eq hash shares q h (slots h.places.index) keys free room → h' ≡ h → keys' ≡ record keys { room = keys'.room } → free' ≡ free → keys.room ≤ keys'.room → room ≤ room'
      → IsCache eq hash shares q h' (slots h'.places.index) keys' free' room'
  kept-roomier kept is same free_same more more_free = grind (arith, is, same, free_same, kept.whole, kept.stored, kept.hashed, kept.linked, kept.sized)

  -- all layers did, for these shares
  pub kept-grown : {shares' : Shares} {q' : QueueState} {h' : Remembered K} {capacity window history room' : ℕ} → IsEquivalence eq → IsCache eq hash shares q h (slots h.places.index) keys free room
      → IsPolicy shares' → shares'.capacity < 2 ^ 24 → IsAtLeast shares shares'
      → capacity ≡ shares'.capacity → window ≡ shares'.window → history ≡ shares'.history
      → q' ≡ record q { slots = capacity; window = window; accesses = q'.accesses } → keys' ≡ record keys { room = keys'.room } → free' ≡ free
      → directory.Grows capacity history (record { history = h; residents = keys }) h' → capacity ≤ keys'.room → capacity ≤ room'
      → IsCache eq hash shares' q' h' (slots h'.places.index) keys' free' room'
  kept-grown {shares'} {q'} {h'} {capacity} {window} {history} {room'} laws kept policy short least is_capacity is_window is_history queues same free_same d keys_room free_room =
      let for = for-new capacity history (omega (arith, is_capacity, policy.below)) (omega (arith, is_capacity, short)) (omega (arith, is_history, short, policy.remembered)) in
      let windowed : 0 < shares'.small → 0 < shares'.window = λ some. ⊎_elim (λ above. above)
      (λ below. let none : shares'.small ≡ 0 = policy.both.1 (omega (arith, below)) in omega (arith, some, none)) (cases_lt 0 shares'.window) in
      let entries : keys'.entries ≡ keys.entries = ap (λ (z : KeyPlaces K V). z.entries) same in
      let remembered : h'.entries ≡ h.entries = ap (λ (z : Remembered K). z.entries) d.becomes in
      let small : q'.small ≡ q.small = ap (λ (z : QueueState). z.small) queues in
      let main : q'.main ≡ q.main = ap (λ (z : QueueState). z.main) queues in
      let limit : h'.limit ≡ shares'.history = ap (λ (z : Remembered K). z.limit) d.becomes ∙ is_history in
      record {
        whole = rw (small, main, entries, remembered, free_same) (whole-grown kept.whole policy.below least);
        stored = rw (small, main, entries) (record {
          made = kept.stored.made;
          indexed = d.residents (queued_slots q) (apart laws kept) kept.stored.made kept.stored.indexed;
          hashed = kept.stored.hashed;
        });
        hashed = rw remembered kept.hashed;
        linked = rw (entries, ap (λ (z : QueueState). z.made) queues) kept.linked;
        sized = record {
          as_many = ap (λ (z : QueueState). z.slots) queues ∙ is_capacity;
          window = ap (λ (z : QueueState). z.window) queues ∙ is_window;
          windowed = windowed;
          remembers = limit;
          spacious = rw (d.sizes.shared, d.sizes.slots, limit, ← is_history, ← is_capacity) for.slots;
          room_for_keys = omega (arith, is_capacity, keys_room);
          room_for_free = omega (arith, is_capacity, free_room);
          short = short;
          few = rw (d.sizes.shared, limit, ← is_history, ← is_capacity) for.few;
        };
      }

  -- what contracts see of it then
  pub grows : {S : Type 0} {hasher : S} {shares' : Shares} {q' : QueueState} {h' : Remembered K} {capacity window history : ℕ} → IsCache eq hash shares q h (slots h.places.index) keys free room
      → IsPolicy shares → q' ≡ record q { slots = capacity; window = window; accesses = q'.accesses }
      → q'.accesses ≡ q.accesses + 2 * q.made + 2 * q.window → q'.made ≤ q.slots
      → keys' ≡ record keys { room = keys'.room } → free' ≡ free → directory.Grows capacity history (record { history = h; residents = keys }) h'
      → Grows shares' (cache_state (machine_of shares q keys.entries h.entries free) h.places hasher (counts_of q h keys))
      (cache_state (machine_of shares' q' keys'.entries h'.entries free') h'.places hasher (counts_of q' h' keys'))
  grows {S} {hasher} {shares'} {q'} {h'} kept policy queues accesses made same free_same d = record {
    machine = rw (ap (λ (z : QueueState). z.small) queues, ap (λ (z : QueueState). z.main) queues, ap (λ (z : KeyPlaces K V). z.entries) same, ap (λ (z : Remembered K). z.entries) d.becomes, free_same) refl;
    hasher = refl;
    taken = ap (λ (z : Remembered K). z.places.taken) d.becomes;
    free = ap (λ (z : Remembered K). z.places.free) d.becomes;
    counts = record {
      inspections = omega (arith, ap (λ (z : QueueState). z.inspections) queues);
      accesses = (omega (arith, accesses, d.accesses), omega (arith, accesses, d.accesses, d.places, made, ap (λ (z : QueueState). z.made) queues, kept.sized.as_many, kept.sized.window, kept.sized.remembers, policy.within, policy.below, policy.remembered));
      comparisons = (omega (arith, ap (λ (z : Remembered K). z.comparisons) d.becomes, ap (λ (z : KeyPlaces K V). z.comparisons) same), omega (arith, ap (λ (z : Remembered K). z.comparisons) d.becomes, ap (λ (z : KeyPlaces K V). z.comparisons) same));
    };
    charged = d.index_accesses;
  }
