-- The accesses that a sample of a trace's keys is expected to have, and what its hits are adjusted to (SHARDS-adj).
use Rattle.std.specs.Prelude.{ℕ, ◌-◌, ◌*◌, ◌/◌, ◌^◌, min, max, Option, Some, None}
use Rattle.simulator_interface.specs.declared.sample.Sample.{Sample}

-- of all accesses as large a part as the sample is of the keys, rounded down
abbrev pub expected_in : Sample → ℕ → ℕ
expected_in sample all = all * min sample.millionths 1000000 / 1000000

-- of the expected accesses as large a part as the counted ones are of the sample's, in 64 bits
abbrev pub expected_part : ℕ → ℕ → ℕ → ℕ
expected_part expected sampled counted = min (counted * expected / max sampled 1) (2 ^ 64 - 1)

-- the accesses that hit ratios of counted ones are parts of: those that are expected, or without a sample the counted ones
abbrev pub expected_among : Option Sample → ℕ → ℕ → ℕ → ℕ
expected_among None all sampled counted = counted
expected_among (Some sample) all sampled counted = expected_part (expected_in sample all) sampled counted

-- the expected accesses that hit, if as many miss as of the counted ones: the hits and the expected accesses that the
-- counted ones lack, or the hits without those that they have too many
abbrev pub adjusted : ℕ → ℕ → ℕ → ℕ
adjusted expected counted hits = expected - (counted - hits)
