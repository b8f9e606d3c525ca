-- The stamps of a plain cache when a key of a trace is accessed.
use Rattle.std.proofs.Common.{◌≡◌, ℕ, ◌+◌, ◌-◌, ◌<◌, ◌≤◌, refl, sym, ap, ◌∙◌, subst, arith, add-one, true, false, ltb, List, ◌∷◌, length, length-set, length-take, take, get_or, set}
use Rattle.std.proofs.lemmas.List.{get_or_default}
use Rattle.clock2q_machine.specs.Hits.{is_in, without}
use Rattle.clock2q_machine.proofs.Sharing.{without-absent}
use Rattle.simulator_policies.specs.declared.plain.Residents.{Residents}
use Rattle.simulator_policies.specs.Policies.{brought}
use Rattle.simulator_policies.specs.Stamps.{held_at, AreStamps}
use Rattle.simulator_policies.specs.Residents.{held_by, IsHolding}
use Rattle.simulator_policies.proofs.Stamping.{absent-taken, once, stamped-front, unstamped, stamps-later, stamps-set, brought-room, brought-full, is_in-stamp}

length-taken : (n : ℕ) (held : List ℕ) → n ≤ length held → length (take n held) ≡ n
length-taken n held within = omega (arith, length-take n held)

module _ {A : Type 0} (capacity : ℕ) (trace : List ℕ) (at : ℕ) (old : Residents A) (holding : IsHolding capacity trace at old) (before : at < length trace) where
  abbrev key : ℕ
  key = get_or trace at 0

  abbrev held : List ℕ
  held = held_by trace at old

  abbrev stamps : List ℕ
  stamps = set old.stamps.items key (at + 1)

  -- the key's stamp shows whether it is held
  pub held-iff : (stamp : ℕ) → stamp ≡ get_or old.stamps.items key stamp → is_in key held ≡ ltb old.left stamp
  held-iff stamp read =
      let same : get_or old.stamps.items key 0 ≡ stamp = sym (read ∙ get_or_default old.stamps.items key stamp 0 (holding.known at before)) in
      is_in-stamp trace old.stamps.items old.left key at holding.stamped ∙ ap (ltb old.left) same

  -- a hit that changes no stamp
  pub stays : held_by trace (at + 1) old ≡ held
  stays = rw add-one (unstamped trace old.stamps.items old.left key at holding.stamped refl)

  pub holds-still : IsHolding capacity trace (at + 1) old
  holds-still = record {
    known = holding.known;
    stamped = rw add-one (stamps-later trace old.stamps.items old.left key at holding.stamped refl);
    begun = omega (arith, holding.begun);
    counted = holding.counted ∙ ap length (sym stays);
    room = holding.room;
  }

  -- a key that is stamped is put in front of the rest
  front : (left : ℕ) → left ≤ at → held_at trace stamps left (at + 1) ≡ key ∷ without key (held_at trace old.stamps.items left at)
  front left begun = rw add-one (stamped-front trace old.stamps.items left key at holding.stamped refl (holding.known at before) begun)

  -- a hit that moves the key
  pub moved : held_at trace stamps old.left (at + 1) ≡ key ∷ without key held
  moved = front old.left holding.begun

  module _ (absent : is_in key held ≡ false) where
    came : held_at trace stamps old.left (at + 1) ≡ key ∷ held
    came = moved ∙ ap (λ rest. key ∷ rest) (without-absent key held absent)

    -- a new key, if there is room
    pub came-room : old.count < capacity → held_at trace stamps old.left (at + 1) ≡ brought capacity key held
    came-room room = came ∙ sym (brought-room capacity key held (omega (arith, room, holding.counted)))

    -- and if the oldest is evicted
    module _ (left : ℕ) (begun : left ≤ at) (full : old.count ≡ capacity) (some : 0 < capacity) (oldest : held_at trace old.stamps.items left at ≡ take (length held - 1) held) where
      list-full : held_at trace stamps left (at + 1) ≡ key ∷ take (length held - 1) held
      list-full = front left begun ∙ ap (λ rest. key ∷ without key rest) oldest
          ∙ ap (λ rest. key ∷ rest)
          (without-absent key (take (length held - 1) held) (absent-taken key (length held - 1) held absent))

      pub came-full : held_at trace stamps left (at + 1) ≡ brought capacity key held
      came-full = list-full ∙ sym (brought-full capacity key held some (omega (arith, full, holding.counted)))

      long-full : length (held_at trace stamps left (at + 1)) ≡ capacity
      long-full = omega (arith, holding.counted, ap length list-full, length-taken (length held - 1) held (omega arith), full, some)

  module _ (new : Residents A) (items : new.stamps.items ≡ stamps) where
    list : (left : ℕ) → new.left ≡ left → held_by trace (at + 1) new ≡ held_at trace stamps left (at + 1)
    list left is = ap (λ s. held_at trace s new.left (at + 1)) items ∙ ap (λ l. held_at trace stamps l (at + 1)) is

    holds : new.left ≤ at → new.count ≡ length (held_by trace (at + 1) new) → new.count ≤ capacity → IsHolding capacity trace (at + 1) new
    holds begun counted room = record {
      known = λ index l. omega (arith, holding.known index l, ap length items, length-set old.stamps.items key (at + 1));
      stamped = subst (λ s. AreStamps trace s (at + 1)) (sym items) (rw add-one (stamps-set trace old.stamps.items old.left key at holding.stamped refl (holding.known at before)));
      begun = omega (arith, begun);
      counted = counted;
      room = room;
    }

    pub holds-moved : new.left ≡ old.left → new.count ≡ old.count → is_in key held ≡ true → IsHolding capacity trace (at + 1) new
    holds-moved left count is =
        holds (omega (arith, left, holding.begun))
        (count ∙ holding.counted ∙ sym (once trace old.stamps.items old.left key at holding.stamped is)
        ∙ ap length (sym (list old.left left ∙ moved))) (omega (arith, count, holding.room))

    pub holds-room : new.left ≡ old.left → new.count ≡ old.count + 1 → is_in key held ≡ false → old.count < capacity → IsHolding capacity trace (at + 1) new
    holds-room left count absent room =
        holds (omega (arith, left, holding.begun)) (omega (arith, count, holding.counted, ap length (list old.left left ∙ came absent))) (omega (arith, count, room))

    pub holds-full : new.left ≤ at → new.count ≡ old.count → is_in key held ≡ false → old.count ≡ capacity → 0 < capacity →
        held_at trace old.stamps.items new.left at ≡ take (length held - 1) held → IsHolding capacity trace (at + 1) new
    holds-full begun count absent full some oldest =
        holds begun (omega (arith, count, full, ap length (list new.left refl), long-full absent new.left begun full some oldest)) (omega (arith, count, full))
