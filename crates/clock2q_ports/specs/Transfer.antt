-- Reading a source to its end, and writing a whole text.
use Rattle.std.specs.Prelude.{◌≡◌, ℕ, true, false, List, take, Option, Result, Ok, Err}
use Rattle.std.specs.Io.KnownBytes.{Appends}
use Rattle.clock2q_ports.specs.Ports.{Traffic, traffic_after}
use Rattle.clock2q_ports.specs.declared.read_error.ReadError.{ReadError}
use Rattle.clock2q_ports.specs.declared.read_error.ReadError.TheVariants.{Failed, Memory}

-- reading a source was given up: it failed, or memory ran out after it had given some bytes
abbrev pub GivesUp : Traffic → Traffic → ReadError → Type 0
GivesUp old new Failed = (bytes : List ℕ) × (new ≡ traffic_after old bytes false true)
GivesUp old new Memory = (bytes : List ℕ) × (new ≡ traffic_after old bytes false false)

-- a source gave these bytes, and then reported its end; or reading it was given up
abbrev pub ReadsAll : {X : Type 0} → (X → List ℕ) → Traffic → Traffic → Result X ReadError → Type 0
ReadsAll items old new (Ok input) = new ≡ traffic_after old (items input) true false
ReadsAll items old new (Err error) = GivesUp old new error

module _ (old new : Traffic) (held holds : Option (List ℕ)) (text : List ℕ) where
  -- a sink took the whole text
  pub record TookAll : Type 0 where
    pub taken : new ≡ traffic_after old text false false
    pub contents : Appends held holds text

  -- a sink took a prefix of the text, and then it failed
  pub record TookSome (count : ℕ) : Type 0 where
    pub taken : new ≡ traffic_after old (take count text) false true
    pub contents : Appends held holds (take count text)

  -- the whole text was taken and flushed, and the sink never failed
  pub record IsSent : Type 0 where
    pub taken : new ≡ traffic_after old text true false
    pub contents : Appends held holds text

  -- the whole text was written, or the sink failed
  abbrev pub WritesAll : {E : Type 0} → Result (Unit {0}) E → Type 0
  WritesAll (Ok done) = TookAll
  WritesAll (Err failed) = (count : ℕ) × TookSome count

  -- the whole text was taken and flushed, or the sink failed
  abbrev pub Sends : {E : Type 0} → Result (Unit {0}) E → Type 0
  Sends (Ok done) = IsSent
  Sends (Err failed) = (count : ℕ) × TookSome count
