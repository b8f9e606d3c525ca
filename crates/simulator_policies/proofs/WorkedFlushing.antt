-- Scans through LRU and FIFO worked out by hand: as many new keys as the capacity leave none of the keys that were there.
use Rattle.std.proofs.Common.{◌≡◌, [], ◌∷◌, refl}
use Rattle.simulator_policies.specs.declared.plain.PlainPolicy.TheVariants.{LeastRecentlyUsed, FirstInFirstOut}
use Rattle.simulator_policies.specs.Policies.{plain_after_all}

-- key 3 was hit last
lru_after_a_scan : plain_after_all LeastRecentlyUsed 3 (1 ∷ 2 ∷ 3 ∷ 1 ∷ 3 ∷ 4 ∷ 5 ∷ 6 ∷ []) [] ≡ 6 ∷ 5 ∷ 4 ∷ []
lru_after_a_scan = refl

fifo_after_a_scan : plain_after_all FirstInFirstOut 3 (4 ∷ 5 ∷ 6 ∷ []) (3 ∷ 2 ∷ 1 ∷ []) ≡ 6 ∷ 5 ∷ 4 ∷ []
fifo_after_a_scan = refl

-- one key fewer leaves the key that was used last
a_shorter_scan : plain_after_all LeastRecentlyUsed 3 (1 ∷ 2 ∷ 3 ∷ 1 ∷ 3 ∷ 4 ∷ 5 ∷ []) [] ≡ 5 ∷ 4 ∷ 3 ∷ []
a_shorter_scan = refl
