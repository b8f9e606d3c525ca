-- A closure that goes through a list gives a cache the elements of the list in turn.
use Rattle.std.proofs.Common.{◌≡◌, ℕ, suc, ◌-◌, ◌<◌, Bool, true, false, List, [], ◌∷◌, map, length, drop, get_or, Bor, refl, sym, ap, ◌∙◌, arith}
use Rattle.std.specs.Fn.{Mut, Called}
use Rattle.std.specs.List.{FoldsTo}
use Rattle.std.specs.List.Retain.{ReturnsInTurn}
use Rattle.clock2q_cache.specs.Closures.{AsksResident, Retains, Prefills}
use Rattle.clock2q_machine.specs.Machine.{Machine, by_slot, prefilled, vacated_all}
use Rattle.clock2q_machine.specs.Steps.{refused_slots, supplied, retained, prefilled_with}

none-refused : (bits : List Bool) → refused_slots bits [] ≡ []
none-refused [] = refl
none-refused (b ∷ bits) = refl

refused-first : (bits given : List Bool) (slot : ℕ) (slots : List ℕ) →
    refused_slots bits slots ≡ refused_slots (drop 1 given) slots →
    refused_slots (get_or given 0 true ∷ bits) (slot ∷ slots) ≡ refused_slots given (slot ∷ slots)
refused-first bits [] slot slots h = h
refused-first bits (true ∷ given) slot slots h = h
refused-first bits (false ∷ given) slot slots h = ap (λ z. slot ∷ z) h

-- bits: the next one of those left, and true if none is left
module _ {F K V : Type 0} (g : Mut F (Bor K × (Bor V × Unit {0})) Bool) (left : F → List Bool) where
  abbrev pub GivesBits : Type 0
  GivesBits = (f : F) (key : Bor K) (value : Bor V) (b : Bool) (f' : F) → Called g f (key, (value, tt)) b f' → (b ≡ get_or (left f) 0 true) × (left f' ≡ drop 1 (left f))

  module _ (gives : GivesBits) (values : List V) where
    refused-given : (bits : List Bool) (residents : List (K × ℕ)) (f last : F) → length bits ≡ length residents → ReturnsInTurn (AsksResident g values) f bits residents last
        → refused_slots bits (map (λ r. r.1) residents) ≡ refused_slots (left f) (map (λ r. r.1) residents)
    refused-given [] [] f last many asked = sym (none-refused (left f))
    refused-given [] (r ∷ residents) f last many asked = absurd (omega (arith, many))
    refused-given (b ∷ bits) [] f last many asked = absurd asked
    refused-given (b ∷ bits) (r ∷ residents) f last many asked =
        let is = gives f asked.1.key asked.1.value b asked.0 asked.1.called in
        let slots : List ℕ = map (λ (r : K × ℕ). r.1) residents in
        ap (λ z. refused_slots (z ∷ bits) (r.1 ∷ slots)) is.0
        ∙ refused-first bits (left f) r.1 slots (refused-given bits residents asked.0 last (omega (arith, many)) asked.2 ∙ ap (λ z. refused_slots z slots) is.1)

  pub retained-given : GivesBits → (f : F) (old new : Machine K V) → Retains g f old new → new ≡ retained (left f) old
  retained-given gives f old new h = h.becomes
      ∙ ap (λ z. vacated_all z old) (refused-given gives old.values h.bits (by_slot old) f h.last h.as_many h.asked)

-- values: the next one of those left, and the last one again if none is left
module _ {V : Type 0} where
  -- the values still to come; the last one repeats
  abbrev pending : List V → V → List V
  pending [] last = last ∷ []
  pending (v ∷ values) last = v ∷ values

  supplied-first : (n : ℕ) (values : List V) (last : V) → supplied (suc n) (pending values last) ≡ get_or values 0 last ∷ supplied n (pending (drop 1 values) (get_or values 0 last))
  supplied-first n [] last = refl
  supplied-first n (v ∷ []) last = refl
  supplied-first n (v ∷ w ∷ values) last = refl

  some-pending : (values : List V) (last : V) → 0 < length values → pending values last ≡ values
  some-pending [] last h = absurd (omega (arith, h))
  some-pending (v ∷ values) last h = refl

module _ {F V : Type 0} (g : Mut F Unit V) (left : F → List V) (before : F → V) where
  abbrev pub GivesValues : Type 0
  GivesValues = (f : F) (v : V) (f' : F) → Called g f tt v f' → (v ≡ get_or (left f) 0 (before f)) × (before f' ≡ get_or (left f) 0 (before f)) × (left f' ≡ drop 1 (left f))

  made-given : GivesValues → (made : List V) (f last : F) → FoldsTo (λ p value q. Called g p tt value q) f made last → made ≡ supplied (length made) (pending (left f) (before f))
  made-given gives [] f last called = refl
  made-given gives (v ∷ made) f last called =
      let is = gives f v called.0 called.1 in
      ap (λ z. v ∷ z) (made-given gives made called.0 last called.2)
      ∙ ap (λ z. v ∷ supplied (length made) (pending z (before called.0))) is.2
      ∙ ap (λ z. v ∷ supplied (length made) (pending (drop 1 (left f)) z)) is.1
      ∙ ap (λ z. z ∷ supplied (length made) (pending (drop 1 (left f)) (get_or (left f) 0 (before f)))) is.0
      ∙ sym (supplied-first (length made) (left f) (before f))

  pub prefilled-given : {K : Type 0} → GivesValues → (f : F) (old new : Machine K V) → 0 < length (left f) → Prefills g f old new → new ≡ prefilled_with (left f) old
  prefilled-given gives f old new some h =
      let many : length h.made ≡ old.shares.capacity - length old.values = omega (arith, h.as_many) in
      h.becomes ∙ ap (λ z. prefilled z old)
      (made-given gives h.made f h.last h.called
      ∙ ap (λ z. supplied (length h.made) z) (some-pending (left f) (before f) some) ∙ ap (λ n. supplied n (left f)) many)
