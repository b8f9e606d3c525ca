use Rattle.std.specs.Prelude.{ℕ}

-- the number of times that something was done
pub record Counted : Type 0 where
  pub total : ℕ
