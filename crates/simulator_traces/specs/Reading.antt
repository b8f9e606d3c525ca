-- A trace read from a source.
use Rattle.std.specs.Prelude.{◌≡◌, ℕ, ◌<◌, is_some, Bool, true, false, ◌==◌, List, [], ◌∷◌, ◌++◌, length, Option, None, Result, Ok, Err}
use Rattle.std.specs.List.{All}
use Rattle.std.specs.Option.{option_and_then}
use Rattle.std.specs.Io.KnownBytes.{Consumes, IsAtEnd}
use Rattle.clock2q_ports.specs.Ports.{Traffic, traffic_after}
use Rattle.simulator_interface.specs.declared.error.SimulationError.{SimulationError}
use Rattle.simulator_interface.specs.declared.error.SimulationError.TheVariants.{Argument, NotText, NoCapacity, UnusedShares, Shares, SampledShares, Capacity, Memory, Open, Read, Line, Size, Record, LargeSizes, Write}
use Rattle.simulator_interface.specs.declared.format.TraceFormat.{TraceFormat}
use Rattle.simulator_interface.specs.declared.format.TraceFormat.TheVariants.{Lines, Csv, OracleGeneral}
use Rattle.simulator_interface.specs.Amounts.{number_in}
use Rattle.simulator_traces.specs.Formats.{Access, accesses_after, accesses_in, field}

-- no byte of the line is a line end
abbrev pub HasNoEnd : List ℕ → Type 0
HasNoEnd line = All (λ byte. (byte == 10) ≡ false) line

-- some bytes are the beginning of a record, and may be all of it but for a line end
abbrev pub IsBegun : TraceFormat → List ℕ → Type 0
IsBegun Lines part = HasNoEnd part
IsBegun (Csv _) part = HasNoEnd part
IsBegun OracleGeneral part = length part < 24

-- some bytes are a whole record, but for a line end
abbrev pub IsWholeRecord : TraceFormat → List ℕ → Type 0
IsWholeRecord Lines part = HasNoEnd part
IsWholeRecord (Csv _) part = HasNoEnd part
IsWholeRecord OracleGeneral part = length part ≡ 24

-- what is between two records
abbrev pub between : TraceFormat → List ℕ
between Lines = 10 ∷ []
between (Csv _) = 10 ∷ []
between OracleGeneral = []

-- a format of lines
abbrev pub IsOfLines : TraceFormat → Type 0
IsOfLines Lines = Unit {0}
IsOfLines (Csv _) = Unit {0}
IsOfLines OracleGeneral = ⊥

-- accesses with those of the rest after them
abbrev pub joined : List Access → Result (List Access) SimulationError → Result (List Access) SimulationError
joined accesses (Ok rest) = Ok (accesses ++ rest)
joined accesses (Err refusal) = Err refusal

-- after some bytes, the accesses so far, with those of what has come of the next record and of whatever follows, are those
-- from before with the bytes
pub record TakesBytes (format : TraceFormat) (accesses : List Access) (count : ℕ) (part bytes : List ℕ) (more : List Access) (counted : ℕ) (rest : List ℕ) : Type 0 where
  pub begun : IsBegun format rest
  pub same : (next : List ℕ) → joined accesses (accesses_after format count (part ++ (bytes ++ next))) ≡ joined more (accesses_after format counted (rest ++ next))

-- a refusal of records says that a record is bad, or that memory ran out
abbrev pub IsBad : SimulationError → Type 0 → Type 0
IsBad (Line _ _) bad = bad
IsBad (Size _ _) bad = bad
IsBad (Record _) bad = bad
IsBad Memory bad = Unit {0}
IsBad Open bad = ⊥
IsBad Read bad = ⊥
IsBad Write bad = ⊥
IsBad (Capacity _) bad = ⊥
IsBad (Argument _ _) bad = ⊥
IsBad NotText bad = ⊥
IsBad NoCapacity bad = ⊥
IsBad UnusedShares bad = ⊥
IsBad (Shares _) bad = ⊥
IsBad (SampledShares _) bad = ⊥
IsBad LargeSizes bad = ⊥

-- what a refusal of a line says: the number of the line, and a column that it lacks, or whose field isn't a size
abbrev pub IsOfLine : ℕ → ℕ → List ℕ → SimulationError → Type 0
IsOfLine separator number line (Line n column) = (n ≡ number) × (field separator column line ≡ None)
IsOfLine separator number line (Size n column) = (n ≡ number) × (is_some (field separator column line) ≡ true) × (option_and_then number_in (field separator column line) ≡ None)
IsOfLine separator number line _ = Unit {0}

module _ (old new : Traffic) (left remain : Option (List ℕ)) (format : TraceFormat) where
  -- the whole input was read, once up to its end, and the accesses are those of its records
  pub record AreRead (known : List Access) : Type 0 where
    pub input : List ℕ
    pub given : new ≡ traffic_after old input true false
    pub consumed : Consumes left remain input
    pub at_end : IsAtEnd remain
    pub accesses : accesses_in format input ≡ Ok known

  -- the bytes that were read are no trace of the format, and nothing that may follow them makes one of them: the refusal
  -- is that of the first bad record
  pub record IsNoTrace (refusal : SimulationError) : Type 0 where
    pub bytes : List ℕ
    pub ended : Bool
    pub given : new ≡ traffic_after old bytes ended false
    pub bad : (next : List ℕ) → (ended ≡ true → next ≡ []) → accesses_in format (bytes ++ next) ≡ Err refusal

  -- reading was given up: memory ran out, the source failed, or a record is bad
  abbrev pub IsGivenUp : SimulationError → Type 0
  IsGivenUp Memory = (bytes : List ℕ) × (stopped : Bool) × (new ≡ traffic_after old bytes stopped false)
  IsGivenUp Read = (bytes : List ℕ) × (new ≡ traffic_after old bytes false true)
  IsGivenUp (Line number column) = IsNoTrace (Line number column)
  IsGivenUp (Size number column) = IsNoTrace (Size number column)
  IsGivenUp (Record offset) = IsNoTrace (Record offset)
  IsGivenUp Open = ⊥
  IsGivenUp Write = ⊥
  IsGivenUp (Capacity _) = ⊥
  IsGivenUp (Argument _ _) = ⊥
  IsGivenUp NotText = ⊥
  IsGivenUp NoCapacity = ⊥
  IsGivenUp UnusedShares = ⊥
  IsGivenUp (Shares _) = ⊥
  IsGivenUp (SampledShares _) = ⊥
  IsGivenUp LargeSizes = ⊥

  abbrev pub ReadsTrace : {X : Type 0} → (X → List Access) → Result X SimulationError → Type 0
  ReadsTrace accesses (Ok trace) = AreRead (accesses trace)
  ReadsTrace accesses (Err refusal) = IsGivenUp refusal
