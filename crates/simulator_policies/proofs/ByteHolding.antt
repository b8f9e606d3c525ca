-- The entries of a cache of bytes when a key of a trace is accessed.
use Rattle.std.proofs.Common.{◌≡◌, ◌≢◌, ℕ, suc, ◌+◌, ◌-◌, ◌<◌, ◌≤◌, inl, inr, refl, sym, ap, ◌∙◌, subst, arith, add-one, true, false, ◌||◌, eqb, ltb, List, [], ◌∷◌, ◌++◌, length, length-set}
use Rattle.std.proofs.Common.{map, get_or, set, get_or-set_same, get_or-set_other}
use Rattle.std.proofs.lemmas.Bool.{cases_eq, cases_lt, eq-eqb, ne_eqb, le-leb, lt-leb, le-ltb, ltb-false, or_parts}
use Rattle.std.proofs.lemmas.List.{get_or_default, map-append}
use Rattle.clock2q_machine.specs.Hits.{is_in, without}
use Rattle.clock2q_machine.proofs.Sharing.{without-absent}
use Rattle.simulator_policies.specs.declared.byte_caches.ByteResidents.{ByteResidents}
use Rattle.simulator_policies.specs.ByteCaches.{Entry, entry_of, fitting, holds, others, total}
use Rattle.simulator_policies.specs.ByteResidents.{entries_at, entries_by, entry, IsByteHolding}
use Rattle.simulator_policies.specs.Stamps.{held_at, AreStamps, AreStamped}
use Rattle.simulator_policies.proofs.Stamping.{once, stamped-front, unstamped, stamps-later, stamps-set, is_in-stamp, held-oldest, held-stale, held-none}

-- The entries of keys.
module _ (sizes : List ℕ) (key : ℕ) where
  pub holds-entries : (keys : List ℕ) → holds key (map (entry sizes) keys) ≡ is_in key keys
  holds-entries [] = refl
  holds-entries (first ∷ keys) = ap (λ b. eqb first key || b) (holds-entries keys)

  found : (keys : List ℕ) → is_in key keys ≡ true → entry_of key (map (entry sizes) keys) ≡ entry sizes key ∷ []
  found [] is = absurd (cc)
  found (first ∷ keys) is = elim (cases_eq first key) [
    | inl same ↦ rw (eq-eqb first key same) (ap (λ k. entry sizes k ∷ []) same)
    | inr other ↦
        let no = ne_eqb first key other in
        rw no (found keys (rw no at is))
  ]

  other-entries : (keys : List ℕ) → others key (map (entry sizes) keys) ≡ map (entry sizes) (without key keys)
  other-entries [] = refl
  other-entries (first ∷ keys) = elim (cases_eq first key) [
    | inl same ↦ rw (eq-eqb first key same) (other-entries keys)
    | inr other ↦ rw (ne_eqb first key other) (ap (λ rest. entry sizes first ∷ rest) (other-entries keys))
  ]

  -- a key that moves to the front
  pub moved-entries : (keys : List ℕ) → is_in key keys ≡ true → entry_of key (map (entry sizes) keys) ++ others key (map (entry sizes) keys) ≡ map (entry sizes) (key ∷ without key keys)
  moved-entries keys is = ap (λ front. front ++ others key (map (entry sizes) keys)) (found keys is) ∙ ap (λ rest. entry sizes key ∷ rest) (other-entries keys)

  no-longer : (keys : List ℕ) → length (without key keys) ≤ length keys
  no-longer [] = omega arith
  no-longer (first ∷ keys) = elim (cases_eq first key) [
    | inl same ↦ rw (eq-eqb first key same) (omega (arith, no-longer keys))
    | inr other ↦ rw (ne_eqb first key other) (omega (arith, no-longer keys))
  ]

  as-long : (keys : List ℕ) → length (without key keys) ≡ length keys → without key keys ≡ keys
  as-long [] long = refl
  as-long (first ∷ keys) long = elim (cases_eq first key) [
    | inl same ↦ absurd (omega (arith, rw (eq-eqb first key same) at long, no-longer keys))
    | inr other ↦
        let no = ne_eqb first key other in
        rw no (ap (λ rest. first ∷ rest) (as-long keys (omega (arith, rw no at long))))
  ]

  -- moves no bytes
  pub moved-total : (keys : List ℕ) → is_in key keys ≡ true → suc (length (without key keys)) ≡ length keys → total (map (entry sizes) (key ∷ without key keys)) ≡ total (map (entry sizes) keys)
  moved-total [] is long = absurd (cc)
  moved-total (first ∷ keys) is long = elim (cases_eq first key) [
    | inl same ↦
        let yes = eq-eqb first key same in
        let rest : without key keys ≡ keys = as-long keys (omega (arith, rw yes at long)) in
        rw (yes, rest) (ap (λ k. get_or sizes k 0 + total (map (entry sizes) keys)) (sym same))
    | inr other ↦
        let no = ne_eqb first key other in
        let rest = moved-total keys (rw no at is) (omega (arith, rw no at long)) in
        rw no (omega (arith, rest))
  ]

-- a size that no key of a list has
pub other-sizes : (sizes : List ℕ) (key size : ℕ) (keys : List ℕ) → is_in key keys ≡ false → map (entry (set sizes key size)) keys ≡ map (entry sizes) keys
other-sizes sizes key size [] absent = refl
other-sizes sizes key size (first ∷ keys) absent = elim (cases_eq first key) [
  | inl same ↦ absurd (cc (eq-eqb first key same, (or_parts (eqb first key) (is_in key keys) absent).0))
  | inr other ↦
      ap (λ n. record { key = first; size = n } ∷ map (entry (set sizes key size)) keys) (get_or-set_other sizes key first size 0 other)
      ∙ ap (λ rest. entry sizes first ∷ rest) (other-sizes sizes key size keys (or_parts (eqb first key) (is_in key keys) absent).1)
]

-- Entries that fit together.

pub all-fit : (room : ℕ) (held : List Entry) → total held ≤ room → fitting room held ≡ held
all-fit room [] few = refl
all-fit room (first ∷ held) few =
    let here : first.size ≤ room = omega (arith, few) in
    rw (le-leb first.size room here) (ap (λ rest. first ∷ rest) (all-fit (room - first.size) held (omega (arith, few))))

pub last-out : (room : ℕ) (held : List Entry) (last : Entry) → room < total (held ++ last ∷ []) → fitting room (held ++ last ∷ []) ≡ fitting room held
last-out room [] last many =
    let large : room < last.size = omega (arith, many) in
    rw (lt-leb last.size room large) refl
last-out room (first ∷ held) last many = elim (cases_lt room first.size) [
  | inl large ↦ rw (lt-leb first.size room large) refl
  | inr here ↦ rw (le-leb first.size room here) (ap (λ rest. first ∷ rest) (last-out (room - first.size) held last (omega (arith, many, here))))
]

pub total-last : (held : List Entry) (last : Entry) → total (held ++ last ∷ []) ≡ total held + last.size
total-last [] last = omega arith
total-last (first ∷ held) last = omega (arith, total-last held last)

module _ {A : Type 0} (trace : List ℕ) (at : ℕ) (old : ByteResidents A) (holding : IsByteHolding trace at old) (before : at < length trace) where
  abbrev key : ℕ
  key = get_or trace at 0

  abbrev keys : List ℕ
  keys = held_at trace old.stamps.items old.left at

  abbrev stamps : List ℕ
  stamps = set old.stamps.items key (at + 1)

  -- the key's stamp shows whether it is held
  pub byte-held-iff : (stamp : ℕ) → stamp ≡ get_or old.stamps.items key stamp → holds key (entries_by trace at old) ≡ ltb old.left stamp
  byte-held-iff stamp read =
      let same : get_or old.stamps.items key 0 ≡ stamp = sym (read ∙ get_or_default old.stamps.items key stamp 0 (holding.known at before)) in
      holds-entries old.sizes.items key keys ∙ is_in-stamp trace old.stamps.items old.left key at holding.stamped ∙ ap (ltb old.left) same

  -- an access that changes nothing
  pub byte-stays : entries_by trace (at + 1) old ≡ entries_by trace at old
  byte-stays = ap (map (entry old.sizes.items)) (rw add-one (unstamped trace old.stamps.items old.left key at holding.stamped refl))

  pub byte-holds-still : IsByteHolding trace (at + 1) old
  byte-holds-still = record {
    known = holding.known;
    sized = holding.sized;
    stamped = rw add-one (stamps-later trace old.stamps.items old.left key at holding.stamped refl);
    begun = omega (arith, holding.begun);
    used = holding.used ∙ ap total (sym byte-stays);
  }

  front : held_at trace stamps old.left (at + 1) ≡ key ∷ without key keys
  front = rw add-one (stamped-front trace old.stamps.items old.left key at holding.stamped refl (holding.known at before) holding.begun)

  now-known : AreStamped trace stamps
  now-known index l = omega (arith, holding.known index l, length-set old.stamps.items key (at + 1))

  now-stamped : AreStamps trace stamps (at + 1)
  now-stamped = rw add-one (stamps-set trace old.stamps.items old.left key at holding.stamped refl (holding.known at before))

  -- a hit that moves the key
  module _ (is : holds key (entries_by trace at old) ≡ true) where
    inside : is_in key keys ≡ true
    inside = sym (holds-entries old.sizes.items key keys) ∙ is

    pub byte-moved : entries_at trace stamps old.sizes.items old.left (at + 1) ≡ entry_of key (entries_by trace at old) ++ others key (entries_by trace at old)
    byte-moved = ap (map (entry old.sizes.items)) front ∙ sym (moved-entries old.sizes.items key keys inside)

    pub byte-holds-moved : (new : ByteResidents A) → new.stamps.items ≡ stamps → new.sizes ≡ old.sizes → new.left ≡ old.left → new.used ≡ old.used → IsByteHolding trace (at + 1) new
    byte-holds-moved new s z l u = record {
      known = subst (AreStamped trace) (sym s) now-known;
      sized = subst (λ zs. AreStamped trace zs.items) (sym z) holding.sized;
      stamped = subst (λ ss. AreStamps trace ss (at + 1)) (sym s) now-stamped;
      begun = omega (arith, l, holding.begun);
      used = u ∙ holding.used ∙ sym (moved-total old.sizes.items key keys inside (once trace old.stamps.items old.left key at holding.stamped inside))
          ∙ ap (λ ks. total (map (entry old.sizes.items) ks)) (sym front)
          ∙ sym (ap (λ ss. total (entries_at trace ss new.sizes.items new.left (at + 1))) s
          ∙ ap (λ zs. total (entries_at trace stamps zs.items new.left (at + 1))) z
          ∙ ap (λ n. total (entries_at trace stamps old.sizes.items n (at + 1))) l);
    }

  -- a key that comes, after room was made for it
  module _ (size : ℕ) (absent : is_in key keys ≡ false) where
    sizes : List ℕ
    sizes = set old.sizes.items key size

    pub byte-came : entries_at trace stamps (set old.sizes.items key size) old.left (at + 1) ≡ record { key = key; size = size } ∷ entries_by trace at old
    byte-came =
        ap (map (entry (set old.sizes.items key size))) (front ∙ ap (λ rest. key ∷ rest) (without-absent key keys absent))
        ∙ ap (λ n. record { key = key; size = n } ∷ map (entry (set old.sizes.items key size)) keys) (get_or-set_same old.sizes.items key size 0 (holding.sized at before))
        ∙ ap (λ rest. record { key = key; size = size } ∷ rest) (other-sizes old.sizes.items key size keys absent)

    pub byte-holds-came : (new : ByteResidents A) → new.stamps.items ≡ stamps
        → new.sizes.items ≡ set old.sizes.items key size → new.left ≡ old.left
        → new.used ≡ old.used + size → IsByteHolding trace (at + 1) new
    byte-holds-came new s z l u = record {
      known = subst (AreStamped trace) (sym s) now-known;
      sized = λ index w. omega (arith, holding.sized index w, ap length z, length-set old.sizes.items key size);
      stamped = subst (λ ss. AreStamps trace ss (at + 1)) (sym s) now-stamped;
      begun = omega (arith, l, holding.begun);
      used = omega (
        arith,
        u,
        holding.used,
        ap total byte-came,
        ap (λ ss. total (entries_at trace ss new.sizes.items new.left (at + 1))) s,
        ap (λ zs. total (entries_at trace stamps zs new.left (at + 1))) z,
        ap (λ n. total (entries_at trace stamps (set old.sizes.items key size) n (at + 1))) l,
      );
    }

-- One index further: its key is evicted if it was last put at the front there.
module _ (trace stamps sizes : List ℕ) (left at : ℕ) where
  pub stale-index : get_or stamps (get_or trace left 0) 0 ≢ suc left → entries_at trace stamps sizes (left + 1) at ≡ entries_at trace stamps sizes left at
  stale-index stale = rw add-one (ap (map (entry sizes)) (held-stale trace stamps left at stale))

  pub oldest-index : get_or stamps (get_or trace left 0) 0 ≡ suc left → left < at
      → entries_at trace stamps sizes left at ≡ entries_at trace stamps sizes (left + 1) at
      ++ entry sizes (get_or trace left 0) ∷ []
  oldest-index stamp within = rw add-one
      (ap (map (entry sizes)) (held-oldest trace stamps left at stamp within)
      ∙ map-append (entry sizes) (held_at trace stamps (suc left) at) (get_or trace left 0 ∷ []))

  pub none-held : at ≤ left → entries_at trace stamps sizes left at ≡ []
  none-held past = ap (map (entry sizes)) (held-none trace stamps left at past)

module _ {A : Type 0} (trace : List ℕ) (at room : ℕ) (old new : ByteResidents A) (holding : IsByteHolding trace at old) (within : at < length trace) (later : old.left < at)
    (s : new.stamps ≡ old.stamps) (z : new.sizes ≡ old.sizes) (l : new.left ≡ old.left + 1) where
  abbrev pub rest : List Entry
  rest = entries_at trace old.stamps.items old.sizes.items (old.left + 1) at

  rest-is : entries_by trace at new ≡ rest
  rest-is =
      ap (λ ss. entries_at trace ss.items new.sizes.items new.left at) s ∙ ap (λ zs. entries_at trace old.stamps.items zs.items new.left at) z
      ∙ ap (λ n. entries_at trace old.stamps.items old.sizes.items n at) l

  goes-on : new.used ≡ total rest → IsByteHolding trace at new
  goes-on used = record {
    known = subst (λ ss. AreStamped trace ss.items) (sym s) holding.known;
    sized = subst (λ zs. AreStamped trace zs.items) (sym z) holding.sized;
    stamped = subst (λ ss. AreStamps trace ss.items at) (sym s) holding.stamped;
    begun = omega (arith, l, later);
    used = used ∙ ap total (sym rest-is);
  }

  module _ (stamp : ℕ) (read : stamp ≡ get_or old.stamps.items (get_or trace old.left 0) stamp) where
    stamp-is : get_or old.stamps.items (get_or trace old.left 0) 0 ≡ stamp
    stamp-is = sym (read ∙ get_or_default old.stamps.items (get_or trace old.left 0) stamp 0 (holding.known old.left (omega (arith, later, within))))

    -- the key at the index stays gone
    pub passed-on : (stamp ≡ old.left + 1 → ⊥) → new.used ≡ old.used → IsByteHolding trace at new × (fitting room (entries_by trace at new) ≡ fitting room (entries_by trace at old))
    passed-on stale used =
        let same : rest ≡ entries_by trace at old = stale-index trace old.stamps.items old.sizes.items old.left at (λ e. stale (omega (arith, e, stamp-is))) in
        (goes-on (used ∙ holding.used ∙ ap total (sym same)), ap (fitting room) (rest-is ∙ same))

    module _ (here : stamp ≡ old.left + 1) (size : ℕ) (found : size ≡ get_or old.sizes.items (get_or trace old.left 0) size) where
      split : entries_by trace at old ≡ rest ++ entry old.sizes.items (get_or trace old.left 0) ∷ []
      split = oldest-index trace old.stamps.items old.sizes.items old.left at (omega (arith, here, stamp-is)) later

      size-is : get_or old.sizes.items (get_or trace old.left 0) 0 ≡ size
      size-is = sym (found ∙ get_or_default old.sizes.items (get_or trace old.left 0) size 0 (holding.sized old.left (omega (arith, later, within))))

      -- the oldest key's size is part of the bytes in use
      pub pays : old.used ≡ total rest + size
      pays = holding.used ∙ ap total split ∙ total-last rest (entry old.sizes.items (get_or trace old.left 0)) ∙ ap (λ n. total rest + n) size-is

      -- the oldest key goes
      pub evicted : room < old.used → new.used ≡ old.used - size → IsByteHolding trace at new × (fitting room (entries_by trace at new) ≡ fitting room (entries_by trace at old))
      evicted full used =
          let many : room < total (rest ++ entry old.sizes.items (get_or trace old.left 0) ∷ []) = omega (arith, full, holding.used, ap total split) in
          (goes-on (omega (arith, used, pays)), ap (fitting room) rest-is ∙ sym (ap (fitting room) split ∙ last-out room rest (entry old.sizes.items (get_or trace old.left 0)) many))

-- A key that isn't held isn't after an eviction.
pub still-absent : {A : Type 0} (trace : List ℕ) (at : ℕ) (old new : ByteResidents A) → IsByteHolding trace at old → at < length trace → new.stamps ≡ old.stamps → old.left ≤ new.left
    → holds (get_or trace at 0) (entries_by trace at old) ≡ false → is_in (get_or trace at 0) (held_at trace new.stamps.items new.left at) ≡ false
still-absent trace at old new holding within s order absent =
    let key = get_or trace at 0 in
    let before : is_in key (held_at trace old.stamps.items old.left at) ≡ false = sym (holds-entries old.sizes.items key (held_at trace old.stamps.items old.left at)) ∙ absent in
    let low : get_or old.stamps.items key 0 ≤ old.left = ltb-false old.left (get_or old.stamps.items key 0) (sym (is_in-stamp trace old.stamps.items old.left key at holding.stamped) ∙ before) in
    ap (λ ss. is_in key (held_at trace ss.items new.left at)) s
    ∙ is_in-stamp trace old.stamps.items new.left key at holding.stamped
    ∙ le-ltb new.left (get_or old.stamps.items key 0) (omega (arith, low, order))
