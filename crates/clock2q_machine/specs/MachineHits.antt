-- Clock2Q+ as a policy: which keys its machine has, and what it does with one.
use Rattle.std.specs.Prelude.{ℕ, Bool, ◌==◌, is_some}
use Rattle.clock2q_machine.specs.Machine.{Machine, value_of}
use Rattle.clock2q_machine.specs.Steps.{put}

-- every key is put, and hits if it has a value
abbrev pub machine_holds : ℕ → Machine ℕ (Unit {0}) → Bool
machine_holds key m = is_some (value_of (λ held. key == held) m)

abbrev pub machine_after : ℕ → Machine ℕ (Unit {0}) → Machine ℕ (Unit {0})
machine_after key m = put (λ held. key == held) key tt m
