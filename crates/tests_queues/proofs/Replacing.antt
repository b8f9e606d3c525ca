-- A key that is written over another leaves as many keys.
use Rattle.std.proofs.Common.{◌≡◌, ℕ, ◌<◌, List, length, ap, arith}
use Rattle.std.specs.Prelude.{Option}
use Rattle.clock2q_directory.specs.declared.keys.Entry.{Entry}
use Rattle.clock2q_directory.specs.Keys.{entry, Writes}
use Rattle.clock2q_directory.proofs.Entries.{length-written}

pub replaced_length : {K V : Type 0} {hash : ℕ} {key : K} {value : Option V} {place : ℕ} {old new : List (Entry K V)} → Writes hash key value place old new → place < length old → length new ≡ length old
replaced_length {hash = hash} {key} {place = place} {old} w there = omega (arith, there, ap (λ (z : List (Entry _ _)). length z) w.becomes, length-written place (entry hash key w.held) old (omega (arith, there)))
