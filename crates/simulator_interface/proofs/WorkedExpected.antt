-- Hits of samples adjusted, computed.
use Rattle.std.specs.Prelude.{◌≡◌, Some, None, refl}
use Rattle.simulator_interface.specs.Expected.{adjusted, expected_among}
use Rattle.simulator_interface.specs.Sample.{sample}

-- of 2,000 accesses a fourth is expected in a sample of a fourth of the keys, whether it has 507 or 480
a_fourth : expected_among (Some (sample 250000)) 2000 507 507 ≡ 500
a_fourth = refl

another_fourth : expected_among (Some (sample 250000)) 2000 480 480 ≡ 500
another_fourth = refl

-- 300 hits of 507 are 7 too many; of 480 there are 20 too few
too_many : adjusted 500 507 300 ≡ 293
too_many = refl

too_few : adjusted 500 480 300 ≡ 320
too_few = refl

-- more misses than expected accesses leave no hits
no_hits : adjusted 500 900 300 ≡ 0
no_hits = refl

-- half of the sample's accesses are half of those expected
half_counted : expected_among (Some (sample 250000)) 2000 480 240 ≡ 250
half_counted = refl

-- nothing is expected of a sample without accesses, nor of one for which they are too few
no_access : expected_among (Some (sample 250000)) 2000 0 0 ≡ 0
no_access = refl

too_small : expected_among (Some (sample 1)) 2000 1 1 ≡ 0
too_small = refl

-- nothing changes in a sample of all keys, and without a sample
all_keys : expected_among (Some (sample 1000000)) 2000 2000 1500 ≡ 1500
all_keys = refl

no_sample : expected_among None 2000 2000 1500 ≡ 1500
no_sample = refl

same_hits : adjusted 1500 1500 700 ≡ 700
same_hits = refl
