-- The state after each call of a directory with one slot.
use Rattle.std.proofs.Common.{◌≡◌, ℕ, ◌+◌, ◌%◌, ◌^◌, ◌<◌, Bool, false, eqb, Option, Some, None, List, [], ◌∷◌, take, length, refl, sym, ap, ◌∙◌, subst, arith}
use Rattle.std.specs.Prelude.{IfSome, if◌then◌else◌}
use Rattle.std.specs.List.{find, AllByRecursion, list_any}
use Rattle.std.proofs.lemmas.Bool.{both_ways}
use Rattle.clock2q_handles.specs.Homes.{candidates, with_handle, without_handle}
use Rattle.clock2q_directory.specs.declared.keys.Entry.{Entry}
use Rattle.clock2q_directory.specs.Index.{IndexState, emptied, index_for, is_shared, slots, entered_from, left}
use Rattle.clock2q_directory.specs.Indexes.{IsIndex}
use Rattle.clock2q_directory.specs.Keys.{KeyPlaces, key_places, entry, written, hash_at, key_at, Writes}
use Rattle.clock2q_directory.specs.Directory.{Known, IsResident, IsWithinRoom, Remembers}
use Rattle.clock2q_directory.specs.History.{Remembered, Places, HasRoomBesideMost, remembered, places_with, most_beside, pushed_places, oldest_hash, places_looked_up}
use Rattle.clock2q_directory.proofs.Emptied.{for-new, new-none, emptied-slots, cleared_like}
use Rattle.clock2q_directory.proofs.Entries.{length-written, slice_get-written}
use Rattle.clock2q_directory.proofs.Hashed.{all-take}
use Rattle.clock2q_directory.proofs.Indexes.{length-put, length-taken, IsIndex-put, IsIndex-taken}
use Rattle.clock2q_directory.proofs.Remembering.{slots-pushed, shared-pushed}
use Rattle.clock2q_queues.proofs.Rings.{among_first, distinct_alone}
use Rattle.clock2q_directory.proofs.Views.{slots-entered, slots-left}
use Rattle.tests_queues.specs.Beside.{HasSlots, IsAlone, HasResident}

none_there : (cs : List ℕ) → ((p : ℕ) → list_any (eqb p) cs ≡ false) → cs ≡ []
none_there [] h = refl
none_there (c ∷ cs) h = absurd (both_ways (list_any (eqb c) (c ∷ cs)) (h c) (among_first c cs))

none_some : (x : ℕ) → None ≡ Some x → ⊥
none_some x e = cc

some_same : {x y : ℕ} → Some x ≡ Some y → x ≡ y
some_same e = cc

-- the same slots in an index with as much room
pub kept : {taken : List ℕ} {hashes : ℕ} {h h' : Remembered ℕ} {r r' : KeyPlaces ℕ (Unit {0})} → HasSlots taken hashes h r → AllByRecursion (λ e. e.0 ≡ e.1 % hashes) h'.entries
    → slots h'.places.index ≡ slots h.places.index → most_beside h' ≡ most_beside h → r'.entries ≡ r.entries → r'.room ≡ r.room → HasSlots taken hashes h' r'
kept {taken} {hashes} {h} {h'} {r} {r'} k hashed same beside keys room = record {
  some = k.some;
  hashed = hashed;
  indexed = rw (same, keys) k.indexed;
  room = rw (same, beside) k.room;
  few = rw beside k.few;
  writable = rw room k.writable;
  short = rw keys k.short;
}

module _ {hashes : ℕ} {h : Remembered ℕ} {r : KeyPlaces ℕ (Unit {0})} (k : IsAlone hashes h r) where
  -- a lookup finds no slot
  pub no_candidates : (x : ℕ) → candidates (slots h.places.index) x ≡ []
  no_candidates x = none_there (candidates (slots h.places.index) x) (λ p. k.indexed.listed x p)

  pub finds_none : (test : ℕ → Bool) (x : ℕ) (o : Option ℕ) → IfSome o (λ slot. find test (candidates (slots h.places.index) x) ≡ Some slot) → o ≡ None
  finds_none test x None f = refl
  finds_none test x (Some slot) f = absurd (none_some slot (ap (λ z. find test z) (sym (no_candidates x)) ∙ f))

  -- one more slot fits
  pub fits : HasRoomBesideMost h
  fits = record { room = omega (arith, k.indexed.counted, k.room); few = omega (arith, k.indexed.counted, k.few) }

  -- a key is written to the first place, and takes slot 0
  module _ (hash key : ℕ) (b : Bool) (base : IndexState) (h' : Remembered ℕ) (r' : KeyPlaces ℕ (Unit {0})) (wrote : r'.entries ≡ written 0 (entry hash key tt) r.entries) (room : r'.room ≡ r.room)
      (added : h' ≡ record h { places = record h.places { index = entered_from base b hash 0 h.places.index } }) where
    now : slots h'.places.index ≡ with_handle (slots h.places.index) hash 0
    now = ap (λ (z : Remembered ℕ). slots z.places.index) added ∙ slots-entered h.places.index hash 0 (omega arith)

    as_many : length (slots h'.places.index) ≡ length (slots h.places.index)
    as_many = ap (λ (z : List (List (ℕ × ℕ))). length z) now ∙ length-put (slots h.places.index) hash 0

    stands : hash_at r'.entries 0 ≡ Some hash
    stands = ap (λ (z : List (Entry ℕ (Unit {0}))). hash_at z 0) wrote ∙ ap (λ z. elim z [ None ↦ None | Some e ↦ Some e.hash ]) (slice_get-written 0 (entry hash key tt) r.entries (omega arith))

    pub entered-resident : hash ≡ key % hashes → HasResident key hashes h' r'
    entered-resident hash_is = record {
      taken = record {
        some = k.some;
        hashed = subst (λ z. AllByRecursion (λ e. e.0 ≡ e.1 % hashes) z) (sym (ap (λ (z : Remembered ℕ). z.entries) added)) k.hashed;
        indexed = subst (λ z. IsIndex z r'.entries (0 ∷ [])) (sym now)
            (IsIndex-put (slots h.places.index) r.entries r'.entries [] 0 hash k.indexed (omega (arith, k.room)) refl (λ q there. absurd (both_ways false refl there)) stands);
        room = omega (arith, k.room, as_many, ap (λ (z : Remembered ℕ). most_beside z) added);
        few = omega (arith, k.few, ap (λ (z : Remembered ℕ). most_beside z) added);
        writable = omega (arith, k.writable, room);
        short = omega (arith, k.short, ap (λ (z : List (Entry ℕ (Unit {0}))). length z) wrote, length-written 0 (entry hash key tt) r.entries (omega arith));
      };
      at = stands ∙ ap (λ x. Some x) hash_is;
      is = ap (λ (z : List (Entry ℕ (Unit {0}))). key_at z 0) wrote ∙ ap (λ z. elim z [ None ↦ None | Some e ↦ Some e.key ]) (slice_get-written 0 (entry hash key tt) r.entries (omega arith));
    }

-- the remembered keys, the slots and the residents are the same
same_resident : {key hashes : ℕ} {h h' : Remembered ℕ} {r r' : KeyPlaces ℕ (Unit {0})} → HasResident key hashes h r
    → h'.entries ≡ h.entries → slots h'.places.index ≡ slots h.places.index → most_beside h' ≡ most_beside h → r' ≡ record r { comparisons = r'.comparisons } → HasResident key hashes h' r'
same_resident {key} {hashes} {h} {h'} {r} {r'} k same there beside keys =
    let entries = ap (λ (z : KeyPlaces ℕ (Unit {0})). z.entries) keys in
    record {
      taken = kept k.taken (rw same k.taken.hashed) there beside entries (ap (λ (z : KeyPlaces ℕ (Unit {0})). z.room) keys);
      at = ap (λ (z : List (Entry ℕ (Unit {0}))). hash_at z 0) entries ∙ k.at;
      is = ap (λ (z : List (Entry ℕ (Unit {0}))). key_at z 0) entries ∙ k.is;
    }

-- a lookup changes nothing but the count of comparisons and what the index read
pub kept_resident : {key hashes : ℕ} (x : ℕ) {h h' : Remembered ℕ} {r r' : KeyPlaces ℕ (Unit {0})} → HasResident key hashes h r
    → h' ≡ record h { places = places_looked_up x h.places; comparisons = h'.comparisons } → r' ≡ record r { comparisons = r'.comparisons } → HasResident key hashes h' r'
kept_resident x {h = h} {h' = h'} {r = r} {r' = r'} k same keys =
    same_resident {h = h} {h' = h'} {r = r} {r' = r'} k (ap (λ (z : Remembered ℕ). z.entries) same) (ap (λ (z : Remembered ℕ). slots z.places.index) same) (ap (λ (z : Remembered ℕ). most_beside z) same) keys

-- a lookup among the residents alone
pub looked_resident : {key hashes comparisons : ℕ} (x : ℕ) {h h' : Remembered ℕ} {r r' : KeyPlaces ℕ (Unit {0})} → HasResident key hashes h r
    → h' ≡ record h { places = places_looked_up x h.places } → r' ≡ record r { comparisons = comparisons } → HasResident key hashes h' r'
looked_resident x {h = h} {h' = h'} {r = r} {r' = r'} k same asked =
    same_resident {h = h} {h' = h'} {r = r} {r' = r'} k (ap (λ (z : Remembered ℕ). z.entries) same) (ap (λ (z : Remembered ℕ). slots z.places.index) same) (ap (λ (z : Remembered ℕ). most_beside z) same)
    (rw asked refl)

-- a comparison of a resident's key changes nothing but what was asked
pub asked_resident : {key hashes comparisons : ℕ} {h h' : Remembered ℕ} {r r' : KeyPlaces ℕ (Unit {0})} → HasResident key hashes h r
    → h' ≡ h → r' ≡ record r { comparisons = comparisons } → HasResident key hashes h' r'
asked_resident {h = h} {h' = h'} {r = r} {r' = r'} k same asked = same_resident {h = h} {h' = h'} {r = r} {r' = r'} k (rw same refl) (rw same refl) (rw same refl) (rw asked refl)

-- a slot with a hash was made
was_made : (es : List (Entry ℕ (Unit {0}))) (hash : ℕ) → hash_at es 0 ≡ Some hash → 0 < length es
was_made [] hash e = absurd (none_some hash e)
was_made (e ∷ es) hash is = omega arith

module _ {key hashes : ℕ} {d : Known ℕ (Unit {0})} (k : HasResident key hashes d.history d.residents) where
  -- the key is a resident of the directory, which has room for another if it leaves
  pub is-resident : IsResident 0 d
  is-resident = record { taken = 0 ∷ []; indexed = k.taken.indexed; apart = distinct_alone eqb 0; there = refl; made = was_made d.residents.entries (key % hashes) k.at; below = omega arith }

  pub within-room : IsWithinRoom d.history
  within-room = record { room = omega (arith, k.taken.indexed.counted, k.taken.room); few = omega (arith, k.taken.indexed.counted, k.taken.few) }

module _ {key hashes : ℕ} {h : Remembered ℕ} {r : KeyPlaces ℕ (Unit {0})} (k : HasResident key hashes h r) where
  -- its hash is this one
  pub same_hash : {x : ℕ} → hash_at r.entries 0 ≡ Some x → x ≡ key % hashes
  same_hash {x} e = some_same (sym e ∙ k.at)

  pub same_key : {x : ℕ} → key_at r.entries 0 ≡ Some x → x ≡ key
  same_key {x} e = some_same (sym e ∙ k.is)

  -- the resident leaves, and is remembered
  module _ (h' : Remembered ℕ) (r' : KeyPlaces ℕ (Unit {0})) (oldest : ℕ) (hashed : AllByRecursion (λ e. e.0 ≡ e.1 % hashes) h'.entries)
      (places : h'.places ≡ pushed_places h.limit (key % hashes) 0 oldest h.places) (limit : h'.limit ≡ h.limit) (keys : r'.entries ≡ r.entries) (room : r'.room ≡ r.room) where
    now_left : slots h'.places.index ≡ without_handle eqb (slots h.places.index) (key % hashes) 0
    now_left = ap (λ (z : Places). slots z.index) places ∙ slots-pushed h.limit (key % hashes) 0 oldest h.places (omega arith)

    as_many_left : length (slots h'.places.index) ≡ length (slots h.places.index)
    as_many_left = ap (λ (z : List (List (ℕ × ℕ))). length z) now_left ∙ length-taken (slots h.places.index) (key % hashes) 0

    beside : most_beside h' ≡ most_beside h
    beside =
        let shared : is_shared h'.places.index ≡ is_shared h.places.index = ap (λ (z : Places). is_shared z.index) places ∙ shared-pushed h.limit (key % hashes) 0 oldest h.places (omega arith) in
        ap (λ b. if b then h'.limit + 1 else 0) shared ∙ ap (λ n. if is_shared h.places.index then n + 1 else 0) limit

    pub left-alone : IsAlone hashes h' r'
    left-alone = record {
      some = k.taken.some;
      hashed = hashed;
      indexed = rw (now_left, keys) (IsIndex-taken (slots h.places.index) r.entries (0 ∷ []) 0 (key % hashes) k.taken.indexed (omega (arith, k.taken.room)) (distinct_alone eqb 0) k.at);
      room = omega (arith, k.taken.room, as_many_left, beside);
      few = omega (arith, k.taken.few, beside);
      writable = omega (arith, k.taken.writable, room);
      short = rw keys k.taken.short;
    }

  -- the resident leaves, and is not remembered
  pub withdrawn-alone : (h' : Remembered ℕ) → h' ≡ record h { places = record h.places { index = left (key % hashes) 0 h.places.index } } → IsAlone hashes h' r
  withdrawn-alone h' is =
      let slots_now : slots h'.places.index ≡ without_handle eqb (slots h.places.index) (key % hashes) 0 =
      ap (λ (z : Remembered ℕ). slots z.places.index) is ∙ slots-left h.places.index (key % hashes) 0 (omega arith) in
      let count : length (slots h'.places.index) ≡ length (slots h.places.index) =
      ap (λ (z : List (List (ℕ × ℕ))). length z) slots_now ∙ length-taken (slots h.places.index) (key % hashes) 0 in
      let same : most_beside h' ≡ most_beside h = ap (λ (z : Remembered ℕ). most_beside z) is in
      record {
        some = k.taken.some;
        hashed = subst (λ z. AllByRecursion (λ e. e.0 ≡ e.1 % hashes) z) (sym (ap (λ (z : Remembered ℕ). z.entries) is)) k.taken.hashed;
        indexed = rw slots_now (IsIndex-taken (slots h.places.index) r.entries (0 ∷ []) 0 (key % hashes) k.taken.indexed (omega (arith, k.taken.room)) (distinct_alone eqb 0) k.at);
        room = omega (arith, k.taken.room, count, same);
        few = omega (arith, k.taken.few, same);
        writable = k.taken.writable;
        short = k.taken.short;
      }

-- a new history has no key beside it
pub new-alone : (limit hashes : ℕ) (h : Remembered ℕ) (r : KeyPlaces ℕ (Unit {0})) → 0 < hashes → limit < 2 ^ 24 → h ≡ remembered [] limit (places_with (index_for 1 limit) [] []) 0 0
    → r ≡ key_places [] 1 0 0 → IsAlone hashes h r
new-alone limit hashes h r some short made keys =
    let n = new-none 1 limit (omega arith) (omega arith) (omega (arith, short)) in
    let room = for-new 1 limit (omega arith) (omega arith) (omega (arith, short)) in
    rw (made, keys) (record {
      some = some;
      hashed = tt;
      indexed = rw n.2 (emptied-slots n.0 n.1 []);
      room = omega (arith, room.slots);
      few = omega (arith, room.few);
      writable = omega arith;
      short = omega arith;
    })

-- nor has one that was cleared
pub cleared-alone : {hashes : ℕ} {h h' : Remembered ℕ} {r r' : KeyPlaces ℕ (Unit {0})} → IsAlone hashes h r
    → h' ≡ record h { entries = []; places = places_with (emptied h.places.index) [] [] }
    → r' ≡ record r { entries = [] } → IsAlone hashes h' r'
cleared-alone {hashes} {h} {h'} {r} {r'} k cleared keys =
    let index = h.places.index in
    let like = cleared_like index in
    let beside : most_beside h' ≡ most_beside h = ap (λ (z : Remembered ℕ). most_beside z) cleared ∙ ap (λ b. if b then h.limit + 1 else 0) like.shared in
    let as_many : length (slots h'.places.index) ≡ length (slots h.places.index) = ap (λ (z : Remembered ℕ). length (slots z.places.index)) cleared ∙ like.slots in
    record {
      some = k.some;
      hashed = subst (λ z. AllByRecursion (λ e. e.0 ≡ e.1 % hashes) z) (sym (ap (λ (z : Remembered ℕ). z.entries) cleared)) tt;
      indexed = subst (λ (z : Remembered ℕ). IsIndex (slots z.places.index) r'.entries []) (sym cleared) (emptied-slots (length index.shared) (length index.own) r'.entries);
      room = omega (arith, k.room, as_many, beside);
      few = omega (arith, k.few, beside);
      writable = omega (arith, k.writable, ap (λ (z : KeyPlaces ℕ (Unit {0})). z.room) keys);
      short = omega (arith, ap (λ (z : KeyPlaces ℕ (Unit {0})). length z.entries) keys);
    }

-- another key took the slot of the resident, which is remembered
pub remembered-resident : {key other hashes : ℕ} {b : Bool} {d : Known ℕ (Unit {0})} {h' : Remembered ℕ} {r' : KeyPlaces ℕ (Unit {0})} → HasResident key hashes d.history d.residents
    → Remembers b (other % hashes) 0 d h' → Writes (other % hashes) other (Some tt) 0 d.residents.entries r'.entries → r'.room ≡ d.residents.room → HasResident other hashes h' r'
remembered-resident {key} {other} {hashes} {b} {d} {h'} {r'} k m w room =
    let hash_is = same_hash k m.had_hash in
    let key_is = same_key k m.had_key in
    let oldest = oldest_hash (λ (e : ℕ × ℕ). e.0) d.history.entries in
    let pushed = pushed_places d.history.limit (key % hashes) 0 oldest d.history.places in
    let h1 : Remembered ℕ = record h' { places = pushed } in
    let entries : h'.entries ≡ take d.history.limit ((m.old_hash, m.old_key) ∷ d.history.entries) = ap (λ (z : Remembered ℕ). z.entries) m.becomes in
    let hashed : AllByRecursion (λ e. e.0 ≡ e.1 % hashes) h'.entries =
    rw entries (all-take (λ e. e.0 ≡ e.1 % hashes) d.history.limit ((m.old_hash, m.old_key) ∷ d.history.entries) (hash_is ∙ ap (λ z. z % hashes) (sym key_is), k.taken.hashed)) in
    let alone : IsAlone hashes h1 d.residents = left-alone k h1 d.residents oldest hashed refl (ap (λ (z : Remembered ℕ). z.limit) m.becomes) refl refl in
    let places : h'.places ≡ record pushed { index = entered_from d.history.places.index b (other % hashes) 0 pushed.index } =
    m.places ∙ ap (λ x. let p = pushed_places d.history.limit x 0 oldest d.history.places in record p { index = entered_from d.history.places.index b (other % hashes) 0 p.index }) hash_is in
    entered-resident alone (other % hashes) other b d.history.places.index h' r' w.becomes room (ap (λ (z : Places). record h' { places = z }) places) refl

-- and if it is not remembered
pub renewed-resident : {key other hashes x : ℕ} (b : Bool) {d : Known ℕ (Unit {0})} {h' : Remembered ℕ} {r' : KeyPlaces ℕ (Unit {0})} → HasResident key hashes d.history d.residents
    → hash_at d.residents.entries 0 ≡ Some x → h' ≡ record d.history { places = record d.history.places { index = entered_from d.history.places.index b (other % hashes) 0 (left x 0 d.history.places.index) } }
    → {value : Option (Unit {0})} → Writes (other % hashes) other value 0 d.residents.entries r'.entries → r'.room ≡ d.residents.room → HasResident other hashes h' r'
renewed-resident {key} {other} {hashes} {x} b {d} {h'} {r'} k at is w room =
    let h = d.history in
    let h1 : Remembered ℕ = record h { places = record h.places { index = left (key % hashes) 0 h.places.index } } in
    entered-resident (withdrawn-alone k h1 refl) (other % hashes) other b h.places.index h' r' w.becomes room
    (is ∙ ap (λ z. record h { places = record h.places { index = entered_from h.places.index b (other % hashes) 0 (left z 0 h.places.index) } }) (same_hash k at)) refl
