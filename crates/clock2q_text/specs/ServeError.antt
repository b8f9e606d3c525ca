-- The exit status of each refusal, and the refusal if a source wasn't read.
use Rattle.std.specs.Prelude.{ℕ}
use Rattle.clock2q_ports.specs.declared.read_error.ReadError.{ReadError}
use Rattle.clock2q_ports.specs.declared.read_error.ReadError.TheVariants as reading
use Rattle.clock2q_text.specs.declared.serve_error.ServeError.{ServeError}
use Rattle.clock2q_text.specs.declared.serve_error.ServeError.TheVariants.{BadLine, Memory, Capacity, Policy, Read, Write}

-- 2 for the text, 3 for memory or the capacity, 4 for a device, 5 for the shares
abbrev pub status_of : ServeError → ℕ
status_of (BadLine line) = 2
status_of Memory = 3
status_of Capacity = 3
status_of Policy = 5
status_of Read = 4
status_of Write = 4

abbrev pub of_reading : ReadError → ServeError
of_reading reading.Failed = Read
of_reading reading.Memory = Memory
