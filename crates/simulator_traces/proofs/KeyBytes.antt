-- Keys in records, and long ones among other bytes.
use Rattle.std.proofs.Common.{◌≡◌, ℕ, ◌+◌, ◌<◌, ◌≤◌, inl, inr, List, [], ◌∷◌, ◌++◌, length, get_or, take, drop, refl, ap, ◌∙◌, sym, arith, length-drop, le-leb}
use Rattle.std.proofs.lemmas.Bool.{cases_lt, lt-leb}
use Rattle.std.proofs.lemmas.List.{length-map, map-append, take-append-le, drop-append-le, take_all, drop_all}
use Rattle.std.proofs.lemmas.List.Elements.{All-head, All-tail}
use Rattle.simulator_traces.specs.declared.key_record.KeyRecord.{KeyRecord}
use Rattle.simulator_traces.specs.KnownKeys.{AreKept, IsKept, key_in, keys_in, size_of, start_of}

-- there are as many keys as records
pub keys-length : (others : List ℕ) (records : List KeyRecord) → length (keys_in others records) ≡ length records
keys-length others records = length-map records (key_in others)

-- the key of a short record, and of a long one
pub short-key : (others : List ℕ) (kept : KeyRecord) → get_or kept.bytes 15 0 < 128 → key_in others kept ≡ take (get_or kept.bytes 15 0) kept.bytes
short-key others kept l = rw (lt-leb 128 (get_or kept.bytes 15 0) l) refl

pub long-key : (others : List ℕ) (kept : KeyRecord) → 128 ≤ get_or kept.bytes 15 0 → key_in others kept ≡ take (size_of kept.bytes) (drop (start_of kept.bytes) others)
long-key others kept l = rw (le-leb 128 (get_or kept.bytes 15 0) l) refl

module _ (others key : List ℕ) where
  same-part : (start size : ℕ) → start + size ≤ length others → take size (drop start (others ++ key)) ≡ take size (drop start others)
  same-part start size fits =
      ap (take size) (drop-append-le start others key (omega arith)) ∙ take-append-le size (drop start others) key (omega (arith, length-drop start others))

  same-key : (kept : KeyRecord) → IsKept (length others) kept.bytes → key_in (others ++ key) kept ≡ key_in others kept
  same-key kept is = elim (cases_lt (get_or kept.bytes 15 0) 128) [
    | inl l ↦ short-key (others ++ key) kept l ∙ sym (short-key others kept l)
    | inr l ↦ long-key (others ++ key) kept l ∙ same-part (start_of kept.bytes) (size_of kept.bytes) (is.long l) ∙ sym (long-key others kept l)
  ]

  same-keys : (records : List KeyRecord) → AreKept (length others) records → keys_in (others ++ key) records ≡ keys_in others records
  same-keys [] are = refl
  same-keys (kept ∷ records) are =
      ap (λ k. k ∷ keys_in (others ++ key) records) (same-key kept (All-head (λ (k : KeyRecord). IsKept (length others) k.bytes) kept records are))
      ∙ ap (λ ks. key_in others kept ∷ ks) (same-keys records (All-tail (λ (k : KeyRecord). IsKept (length others) k.bytes) kept records are))

  last-part : take (length key) (drop (length others) (others ++ key)) ≡ key
  last-part =
      let past : drop (length others) (others ++ key) ≡ key = drop-append-le (length others) others key (omega arith) ∙ ap (λ l. l ++ key) (drop_all (length others) others (omega arith)) in
      ap (take (length key)) past ∙ take_all (length key) key (omega arith)

  -- one more long key
  module _ (records : List KeyRecord) (are : AreKept (length others) records) (kept : KeyRecord) (long : 128 ≤ get_or kept.bytes 15 0) (start : start_of kept.bytes ≡ length others) (size : size_of kept.bytes ≡ length key) where
    pub long-more : keys_in (others ++ key) (records ++ kept ∷ []) ≡ keys_in others records ++ key ∷ []
    long-more =
        map-append (key_in (others ++ key)) records (kept ∷ [])
        ∙ ap (λ ks. ks ++ key_in (others ++ key) kept ∷ []) (same-keys records are)
        ∙ ap (λ k. keys_in others records ++ k ∷ []) (long-key (others ++ key) kept long ∙ ap (λ n. take n (drop (start_of kept.bytes) (others ++ key))) size
        ∙ ap (λ n. take (length key) (drop n (others ++ key))) start ∙ last-part)
