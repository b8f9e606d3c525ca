-- What goes through ports.
use Rattle.std.specs.Prelude.{ℕ, ◌+◌, List, [], ◌++◌, Bool, true, false, ◌&&◌, nat_lt, ◌==◌, if◌then◌else◌, length, take, is_ok, is_err, Ok, Err, Result}

-- what has gone through a port so far: the bytes in order, how often it stopped, and how often it failed; a source
-- stops at its end, a sink when it is flushed
pub record Traffic : Type 0 where
  pub bytes : List ℕ
  pub stops : ℕ
  pub failures : ℕ

-- nothing has gone through it
abbrev pub no_traffic : Traffic
no_traffic = record { bytes = []; stops = 0; failures = 0 }

-- one if the test holds, otherwise zero
abbrev pub one_if : Bool → ℕ
one_if test = if test then 1 else 0

-- these bytes went through too, perhaps at a stop or with a failure
abbrev pub traffic_after : Traffic → List ℕ → Bool → Bool → Traffic
traffic_after old bytes stopped failed = record { bytes = old.bytes ++ bytes; stops = old.stops + one_if stopped; failures = old.failures + one_if failed }

-- the bytes that a call moved, out of those it was given
abbrev pub moved : {E : Type 0} → Result ℕ E → List ℕ → List ℕ
moved (Ok n) bytes = take n bytes
moved (Err e) bytes = []

-- a call moved nothing, and returned no error
abbrev pub is_none_moved : {E : Type 0} → Result ℕ E → Bool
is_none_moved (Ok n) = n == 0
is_none_moved (Err e) = false

-- a write failed: an error, or nothing taken of a text that isn't empty
abbrev pub is_failed_write : {E : Type 0} → Result ℕ E → List ℕ → Bool
is_failed_write (Ok n) bytes = (n == 0) && nat_lt 0 (length bytes)
is_failed_write (Err e) bytes = true

-- after a read: the bytes that it moved, a stop if it moved none, a failure if it returned an error
abbrev pub after_read : {E : Type 0} → Traffic → Result ℕ E → List ℕ → Traffic
after_read old r into = traffic_after old (moved r into) (is_none_moved r) (is_err r)

-- after a write: the bytes that it moved, and a failure if it failed
abbrev pub after_write : {E : Type 0} → Traffic → Result ℕ E → List ℕ → Traffic
after_write old r from = traffic_after old (moved r from) false (is_failed_write r from)

-- after a flush: a stop, or a failure
abbrev pub after_flush : {E : Type 0} → Traffic → Result (Unit {0}) E → Traffic
after_flush old r = traffic_after old [] (is_ok r) (is_err r)

-- what a device contains, and what has gone through it
pub record Attached (T : Type 0) : Type 0 where
  pub inner : T
  pub traffic : Traffic
