-- A closure may be called this number of times in turn if each call keeps what it needs.
use Rattle.clock2q_cache.proofs.Names.{ℕ, zero, suc, ◌+◌, ◌-◌, ◌<◌, [], ◌∷◌, length, refl, arith, Mut, Called, always_mut, mut_next, Machine, TakesTimes, MayMake, Takes}

module _ {F V : Type 0} (g : Mut F Unit V) where
  times_by : (I : F → Type 0) (takes : (f : F) → I f → Takes g f tt) (keeps : (f : F) (value : V) (next : F) → I f → Called g f tt value next → I next)
      (n : ℕ) (f : F) → I f → TakesTimes g n f
  times_by I takes keeps zero f i = tt
  times_by I takes keeps (suc n) f i = (takes f i, λ value next called. times_by I takes keeps n next (keeps f value next i called))

  -- so it may make the values of the slots that were never made
  pub made_by : {K : Type 0} (I : F → Type 0) (m : Machine K V) (takes : (f : F) → I f → Takes g f tt) (keeps : (f : F) (value : V) (next : F) → I f → Called g f tt value next → I next)
      (f : F) → I f → MayMake g f m
  made_by I m takes keeps f i = record { in_turn = times_by I takes keeps (m.shares.capacity - length m.values) f i }

  -- and so may a closure that may always be called
  pub made_always : {K : Type 0} (m : Machine K V) (f : F) → always_mut g f → MayMake g f m
  made_always m f always = made_by (always_mut g) m (λ f may. (may.at (tt ∷ [])).0) (λ f value next may called. mut_next g f tt value next next called refl may) f always

  -- if calls are left, one may be made, and after it the ones that are then left
  pub next_call : (many counter : ℕ) (f : F) → counter < many → TakesTimes g (many - counter) f
      → Takes g f tt × ((value : V) (next : F) → Called g f tt value next → TakesTimes g (many - (counter + 1)) next)
  next_call many counter f less takes = grind arith
