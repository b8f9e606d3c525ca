-- Records put together byte by byte, and read from a source.
use Rattle.std.proofs.Common.{◌≡◌, ℕ, suc, ◌+◌, ◌-◌, ◌/◌, ◌%◌, ◌<◌, ◌≤◌, max, Bool, true, false, cond, List, [], ◌∷◌, ◌++◌, length, length-append, map, take, drop, get_or, eqb, refl, sym, ap}
use Rattle.std.proofs.Common.{subst, ◌∙◌, arith, rules, append_assoc, append-nil, Option, None, Some, Result, Ok, Err}
use Rattle.std.proofs.lemmas.Bool.{eqb-true, ne_eqb}
use Rattle.std.proofs.lemmas.List.{drop_more, drop_all}
use Rattle.std.proofs.lemmas.List.Elements.{All-append}
use Rattle.std.proofs.lemmas.List.Splits.{slice_split_at, slice_split_none}
use Rattle.std.proofs.Math.Seq.{take-append_seam, drop-append_seam}
use Rattle.std.specs.Io.KnownBytes.{Consumes, IsAtEnd}
use Rattle.std.specs.Result.{IfErr, IfOk, OnOk}
use Rattle.std.specs.Simd.{first_chunks}
use Rattle.clock2q_ports.specs.Lines.{lines_of}
use Rattle.clock2q_ports.proofs.Lines.{lines_of-ended, lines_of-last, lines_of-empty}
use Rattle.clock2q_ports.specs.Ports.{Traffic, traffic_after, one_if}
use Rattle.simulator_interface.specs.declared.error.SimulationError.{SimulationError}
use Rattle.simulator_interface.specs.declared.error.SimulationError.TheVariants.{Argument, NotText, NoCapacity, UnusedShares, Shares, SampledShares, Capacity, Memory, Open, Read, Line, Size, Record, LargeSizes, Write}
use Rattle.simulator_interface.specs.declared.format.Columns.{Columns}
use Rattle.simulator_interface.specs.declared.format.TraceFormat.{TraceFormat}
use Rattle.simulator_interface.specs.declared.format.TraceFormat.TheVariants.{Lines, Csv, OracleGeneral}
use Rattle.simulator_traces.specs.Formats.{Access, access_by, accesses_after, accesses_by, accesses_in, consed, is_blank, next_number, offset_of, record_of, unsized}
use Rattle.simulator_interface.specs.TraceFormats.{headers}
use Rattle.simulator_traces.specs.Reading.{AreRead, HasNoEnd, IsBad, IsBegun, IsGivenUp, IsNoTrace, IsOfLines, IsWholeRecord, ReadsTrace, TakesBytes, between, joined}

-- a line and its end come first of the lines
pub ended-lines : (line next : List ℕ) → HasNoEnd line → lines_of (line ++ 10 ∷ next) ≡ line ∷ lines_of next
ended-lines line next h = lines_of-ended (line ++ 10 ∷ next) line next (slice_split_at (λ b. eqb b 10) line 10 next h refl)

-- the last line, which lacks its end
pub last-line : (line : List ℕ) → HasNoEnd line → 0 < length line → lines_of line ≡ line ∷ []
last-line line h some =
    lines_of-last line line (slice_split_none (λ b. eqb b 10) line h) some ∙ ap (λ xs. line ∷ xs) (lines_of-empty [] refl)

-- a line that hasn't ended yet, with one more byte
pub longer-line : (line : List ℕ) (byte : ℕ) → HasNoEnd line → eqb byte 10 ≡ false → HasNoEnd (line ++ byte ∷ [])
longer-line line byte h e = All-append (λ b. eqb b 10 ≡ false) line (byte ∷ []) h (search (rules, e))

-- no byte has no end
pub no-line : HasNoEnd []
no-line = λ k d l. absurd (omega (arith, l))

-- keys, and one more before those of the rest
pub joined-more : (keys : List Access) (key : Access) (rest : Result (List Access) SimulationError) → joined keys (consed (Ok key) rest) ≡ joined (keys ++ key ∷ []) rest
joined-more keys key (Err refusal) = refl
joined-more keys key (Ok rest) = ap Ok (sym (append_assoc keys (key ∷ []) rest))

pub joined-refused : (keys : List Access) (rest : Result (List Access) SimulationError) (refusal : SimulationError) → joined keys rest ≡ Err refusal → rest ≡ Err refusal
joined-refused keys (Err refusal) other e = e
joined-refused keys (Ok rest) refusal e = absurd (cc)

pub joined-nothing : (rest : Result (List Access) SimulationError) → joined [] rest ≡ rest
joined-nothing (Err refusal) = refl
joined-nothing (Ok rest) = refl

pub joined-twice : (keys more : List Access) (rest : Result (List Access) SimulationError) → joined keys (joined more rest) ≡ joined (keys ++ more) rest
joined-twice keys more (Err refusal) = refl
joined-twice keys more (Ok rest) = ap Ok (sym (append_assoc keys more rest))

-- what a refusal of records says, from something that implies it
pub bad-by : (refusal : SimulationError) {P Q : Type 0} → (P → Q) → IsBad refusal P → IsBad refusal Q
bad-by (Line _ _) f b = f b
bad-by (Size _ _) f b = f b
bad-by (Record _) f b = f b
bad-by Memory f b = b
bad-by Open f b = b
bad-by Read f b = b
bad-by Write f b = b
bad-by (Capacity _) f b = b
bad-by (Argument _ _) f b = b
bad-by NotText f b = b
bad-by NoCapacity f b = b
bad-by UnusedShares f b = b
bad-by (Shares _) f b = b
bad-by (SampledShares _) f b = b
bad-by LargeSizes f b = b

-- the same of a result, and what a result without one says
pub bad-result : {X : Type 0} (result : Result X SimulationError) (P Q : SimulationError → Type 0) → ((refusal : SimulationError) → P refusal → Q refusal)
    → IfErr result (λ refusal. IsBad refusal (P refusal)) → IfErr result (λ refusal. IsBad refusal (Q refusal))
bad-result (Ok x) P Q f b = b
bad-result (Err refusal) P Q f b = bad-by refusal (f refusal) b

pub ok-result : {X E : Type 0} (result : Result X E) {P Q : Type 0} → (P → Q) → OnOk result P → OnOk result Q
ok-result (Ok x) f p = f p
ok-result (Err e) f p = p

-- 24 bytes and what follows
module _ (part next : List ℕ) (h : length part ≡ 24) where
  whole-first : (n : ℕ) → first_chunks 24 (suc n) (part ++ next) ≡ part ∷ first_chunks 24 n next
  whole-first n =
      let first : take 24 (part ++ next) ≡ part = ap (λ k. take k (part ++ next)) (sym h) ∙ take-append_seam part next in
      let rest : drop 24 (part ++ next) ≡ next = ap (λ k. drop k (part ++ next)) (sym h) ∙ drop-append_seam part next in
      rw (first, rest) refl

  pub piece-first : (keys : List Access) (count : ℕ)
      → joined keys (accesses_after OracleGeneral count (part ++ next))
      ≡ joined (keys ++ record_of part ∷ []) (accesses_after OracleGeneral (next_number count) next)
  piece-first keys count =
      let long : length (part ++ next) ≡ 24 + length next = length-append part next ∙ ap (λ n. n + length next) h in
      let left : length (part ++ next) % 24 ≡ length next % 24 = omega (arith, long) in
      let many : length (part ++ next) / 24 ≡ suc (length next / 24) = omega (arith, long) in
      let offset : offset_of (count + suc (length next / 24)) ≡ offset_of (next_number count + length next / 24) = omega arith in
      ap (λ n. joined keys (whole-or n (length (part ++ next) / 24) (part ++ next))) left
      ∙ ap (λ n. joined keys (whole-or (length next % 24) n (part ++ next))) many
      ∙ ap (λ rs. joined keys (cond (eqb (length next % 24) 0) (Ok (map record_of rs)) (Err (Record (offset_of (count + suc (length next / 24))))))) (whole-first (length next / 24))
      ∙ ap (λ n. joined keys (cond (eqb (length next % 24) 0) (Ok (map record_of (part ∷ first_chunks 24 (length next / 24) next))) (Err (Record n)))) offset
      ∙ cases (eqb (length next % 24) 0) (map record_of (first_chunks 24 (length next / 24) next)) (Record (offset_of (next_number count + length next / 24)))
    where
      whole-or : ℕ → ℕ → List ℕ → Result (List Access) SimulationError
      whole-or left many text = cond (eqb left 0) (Ok (map record_of (first_chunks 24 many text))) (Err (Record (offset_of (count + many))))

      cases : (b : Bool) (ids : List Access) (refusal : SimulationError) → joined keys (cond b (Ok (record_of part ∷ ids)) (Err refusal)) ≡ joined (keys ++ record_of part ∷ []) (cond b (Ok ids) (Err refusal))
      cases false ids refusal = refl
      cases true ids refusal = ap Ok (sym (append_assoc keys (record_of part ∷ []) ids))

-- at most the first line is a header
few-headers : (columns : Columns) → headers columns ≤ 1
few-headers columns = each columns.has_header where
  each : (b : Bool) → cond b 1 0 ≤ 1
  each true = omega arith
  each false = omega arith

module _ (keys more : List Access) (count counted : ℕ) (part : List ℕ) where
  -- a record that ends, and what its key does to those so far
  abbrev pub Ends : TraceFormat → Type 0
  Ends format = (next : List ℕ) → joined keys (accesses_after format count (part ++ (between format ++ next))) ≡ joined more (accesses_after format counted next)

  pub line-ends : (format : TraceFormat) → format ≡ Lines → IsWholeRecord format part → more ≡ keys ++ unsized part ∷ [] → Ends format
  line-ends Lines e whole m next =
      ap (λ ls. joined keys (Ok (map unsized ls))) (ended-lines part next whole) ∙ joined-more keys (unsized part) (Ok (map unsized (lines_of next)))
      ∙ ap (λ ks. joined ks (Ok (map unsized (lines_of next)))) (sym m)
  line-ends (Csv columns) e whole m next = absurd (cc)
  line-ends OracleGeneral e whole m next = absurd (cc)

  -- a record of csv ends as its line does
  pub line-of-csv : (format : TraceFormat) (columns : Columns) → format ≡ Csv columns
      → ((next : List ℕ) → joined keys (accesses_after (Csv columns) count (part ++ 10 ∷ next)) ≡ joined more (accesses_after (Csv columns) counted next)) → Ends format
  line-of-csv format columns e ends next = rw e (ends next)

  pub piece-ends : (format : TraceFormat) → format ≡ OracleGeneral → IsWholeRecord format part → more ≡ keys ++ record_of part ∷ [] → counted ≡ next_number count → Ends format
  piece-ends Lines e whole m n next = absurd (cc)
  piece-ends (Csv columns) e whole m n next = absurd (cc)
  piece-ends OracleGeneral e whole m n next =
      piece-first part next whole keys count ∙ ap (λ ks. joined ks (accesses_after OracleGeneral (next_number count) next)) (sym m)
      ∙ ap (λ n. joined more (accesses_after OracleGeneral n next)) (sym n)

-- a line of values after some others, by its columns
module _ (keys more : List Access) (count : ℕ) (part : List ℕ) (columns : Columns) (whole : HasNoEnd part) where
  -- the line, if it is no header, and those after it
  first-is : headers columns ≤ count → (next : List ℕ) → accesses_after (Csv columns) count (part ++ 10 ∷ next) ≡ accesses_by columns count (part ∷ lines_of next)
  first-is so next =
      let before : headers columns - count ≡ 0 = omega (arith, so) in
      let start : max count (headers columns) ≡ count = omega (arith, so) in
      ap (λ n. accesses_by columns (max count (headers columns)) (drop n (lines_of (part ++ 10 ∷ next)))) before
      ∙ ap (λ n. accesses_by columns n (lines_of (part ++ 10 ∷ next))) start
      ∙ ap (accesses_by columns count) (ended-lines part next whole)

  later : (next : List ℕ) → accesses_after (Csv columns) (next_number count) next ≡ accesses_by columns (next_number count) (lines_of next)
  later next =
      let after : headers columns - next_number count ≡ 0 = omega (arith, few-headers columns) in
      let start : max (next_number count) (headers columns) ≡ next_number count = omega (arith, few-headers columns) in
      ap (λ n. accesses_by columns (max (next_number count) (headers columns)) (drop n (lines_of next))) after
      ∙ ap (λ n. accesses_by columns n (lines_of next)) start

  pub header-ends : count < headers columns → more ≡ keys → (next : List ℕ)
      → joined keys (accesses_after (Csv columns) count (part ++ 10 ∷ next)) ≡ joined more (accesses_after (Csv columns) (next_number count) next)
  header-ends is m next =
      let before : headers columns - count ≡ 1 = omega (arith, is, few-headers columns) in
      let start : max count (headers columns) ≡ next_number count = omega (arith, is, few-headers columns) in
      ap (λ n. joined keys (accesses_by columns (max count (headers columns)) (drop n (lines_of (part ++ 10 ∷ next))))) before
      ∙ ap (λ n. joined keys (accesses_by columns n (drop 1 (lines_of (part ++ 10 ∷ next))))) start
      ∙ ap (λ ls. joined keys (accesses_by columns (next_number count) (drop 1 ls))) (ended-lines part next whole)
      ∙ ap (joined keys) (sym (later next))
      ∙ ap (λ ks. joined ks (accesses_after (Csv columns) (next_number count) next)) (sym m)

  pub blank-ends : headers columns ≤ count → is_blank part ≡ true → more ≡ keys → (next : List ℕ)
      → joined keys (accesses_after (Csv columns) count (part ++ 10 ∷ next)) ≡ joined more (accesses_after (Csv columns) (next_number count) next)
  blank-ends so blank m next =
      let rest = accesses_by columns (next_number count) (lines_of next) in
      ap (joined keys) (first-is so next)
      ∙ ap (λ b. joined keys (cond b rest (consed (access_by columns (next_number count) part) rest))) blank
      ∙ ap (joined keys) (sym (later next))
      ∙ ap (λ ks. joined ks (accesses_after (Csv columns) (next_number count) next)) (sym m)

  pub fields-end : (key : Access) → headers columns ≤ count → is_blank part ≡ false → access_by columns (next_number count) part ≡ Ok key → more ≡ keys ++ key ∷ [] → (next : List ℕ)
      → joined keys (accesses_after (Csv columns) count (part ++ 10 ∷ next)) ≡ joined more (accesses_after (Csv columns) (next_number count) next)
  fields-end key so blank f m next =
      let rest = accesses_by columns (next_number count) (lines_of next) in
      ap (joined keys) (first-is so next)
      ∙ ap (λ b. joined keys (cond b rest (consed (access_by columns (next_number count) part) rest))) blank
      ∙ ap (λ k. joined keys (consed k rest)) f
      ∙ joined-more keys key rest
      ∙ ap (joined (keys ++ key ∷ [])) (sym (later next))
      ∙ ap (λ ks. joined ks (accesses_after (Csv columns) (next_number count) next)) (sym m)

  pub no-field-ends : (refusal : SimulationError) → headers columns ≤ count → is_blank part ≡ false → access_by columns (next_number count) part ≡ Err refusal
      → (next : List ℕ) → accesses_after (Csv columns) count (part ++ 10 ∷ next) ≡ Err refusal
  no-field-ends refusal so blank f next =
      let rest = accesses_by columns (next_number count) (lines_of next) in
      first-is so next
      ∙ ap (λ b. cond b rest (consed (access_by columns (next_number count) part) rest)) blank
      ∙ ap (λ k. consed k rest) f

-- and a line of csv that is bad is a bad record
pub bad-of-csv : (count : ℕ) (part : List ℕ) (format : TraceFormat) (columns : Columns) (refusal : SimulationError) → format ≡ Csv columns
    → ((next : List ℕ) → accesses_after (Csv columns) count (part ++ 10 ∷ next) ≡ Err refusal) → (next : List ℕ) → accesses_after format count (part ++ (between format ++ next)) ≡ Err refusal
bad-of-csv count part format columns refusal e bad next = rw e (bad next)

-- a whole record is begun, and one of 24 bytes isn't of lines
pub whole-line : (format : TraceFormat) (part : List ℕ) → IsOfLines format → IsBegun format part → IsWholeRecord format part
whole-line Lines part l h = h
whole-line (Csv columns) part l h = h
whole-line OracleGeneral part l h = absurd l

pub begun-line : (format : TraceFormat) (part : List ℕ) → IsOfLines format → HasNoEnd part → IsBegun format part
begun-line Lines part l h = h
begun-line (Csv columns) part l h = h
begun-line OracleGeneral part l h = absurd l

pub line-begun : (format : TraceFormat) (part : List ℕ) → IsOfLines format → IsBegun format part → HasNoEnd part
line-begun Lines part l h = h
line-begun (Csv columns) part l h = h
line-begun OracleGeneral part l h = absurd l

pub after-line : (format : TraceFormat) → IsOfLines format → between format ≡ 10 ∷ []
after-line Lines l = refl
after-line (Csv columns) l = refl
after-line OracleGeneral l = absurd l

-- nothing of a record
pub none-begun : (format : TraceFormat) → IsBegun format []
none-begun Lines = no-line
none-begun (Csv columns) = no-line
none-begun OracleGeneral = omega arith

-- the last line is as if it had its end
pub last-ends : (format : TraceFormat) (part : List ℕ) (count : ℕ) → IsOfLines format
    → IsBegun format part → 0 < length part
    → accesses_after format count part
    ≡ accesses_after format count (part ++ (between format ++ []))
last-ends format part count l h some = cases format l h where
  same : HasNoEnd part → lines_of part ≡ lines_of (part ++ 10 ∷ [])
  same h = last-line part h some ∙ sym (ended-lines part [] h ∙ ap (λ ls. part ∷ ls) (lines_of-empty [] refl))

  cases : (format : TraceFormat) → IsOfLines format → IsBegun format part → accesses_after format count part ≡ accesses_after format count (part ++ (between format ++ []))
  cases Lines l h = ap (λ ls. Ok (map unsized ls)) (same h)
  cases (Csv columns) l h = ap (λ ls. accesses_by columns (max count (headers columns)) (drop (headers columns - count) ls)) (same h)
  cases OracleGeneral l h = absurd l

-- nothing is left
pub none-left : (format : TraceFormat) (count : ℕ) → accesses_after format count [] ≡ Ok []
none-left Lines count = ap (λ ls. Ok (map unsized ls)) (lines_of-empty [] refl)
none-left (Csv columns) count =
    let start = max count (headers columns) in
    ap (λ ls. accesses_by columns start (drop (headers columns - count) ls)) (lines_of-empty [] refl) ∙ ap (accesses_by columns start) (drop_all (headers columns - count) [] (omega arith))
none-left OracleGeneral count = refl

-- part of a record is left
pub part-left : (format : TraceFormat) (part : List ℕ) (count : ℕ) → format ≡ OracleGeneral → IsBegun format part → 0 < length part → accesses_after format count part ≡ Err (Record (offset_of count))
part-left Lines part count e h some = absurd (cc)
part-left (Csv columns) part count e h some = absurd (cc)
part-left OracleGeneral part count e h some =
    let below : length part < 24 = h in
    let left : (length part % 24 ≡ 0) → ⊥ = λ z. omega (arith, below, some, z) in
    let whole : count + length part / 24 ≡ count = omega (arith, below) in
    rw (ne_eqb (length part % 24) 0 left) (ap (λ n. Err (Record (offset_of n))) whole)

-- bytes that went through a source, and those that came after them
pub went-on : (old : Traffic) (xs ys : List ℕ) (stopped failed : Bool) → traffic_after (traffic_after old xs false false) ys stopped failed ≡ traffic_after old (xs ++ ys) stopped failed
went-on old xs ys stopped failed =
    let bytes : (old.bytes ++ xs) ++ ys ≡ old.bytes ++ (xs ++ ys) = append_assoc old.bytes xs ys in
    let stops : old.stops + 0 + one_if stopped ≡ old.stops + one_if stopped = omega arith in
    let failures : old.failures + 0 + one_if failed ≡ old.failures + one_if failed = omega arith in
    cc

-- what was read from a source so far: the keys so far, and those of what has come of the next record and of what follows
pub record IsReadUpTo (old new : Traffic) (left remain : Option (List ℕ)) (format : TraceFormat) (keys : List Access) (count : ℕ) (line : List ℕ) : Type 0 where
  pub begun : IsBegun format line
  pub input : List ℕ
  pub given : new ≡ traffic_after old input false false
  pub consumed : Consumes left remain input
  pub same : (next : List ℕ) → accesses_in format (input ++ next) ≡ joined keys (accesses_after format count (line ++ next))

Consumes-twice : (a b c : Option (List ℕ)) (xs ys : List ℕ) → Consumes a b xs → Consumes b c ys → Consumes a c (xs ++ ys)
Consumes-twice None b c xs ys p q = tt
Consumes-twice (Some x) None c xs ys p q = absurd p
Consumes-twice (Some x) (Some y) None xs ys p q = absurd q
Consumes-twice (Some x) (Some y) (Some z) xs ys p q = p ∙ ap (λ l. xs ++ l) q ∙ sym (append_assoc xs ys z)

Consumes-none : (a : Option (List ℕ)) → Consumes a a []
Consumes-none None = tt
Consumes-none (Some x) = refl

zero_more : (n : ℕ) → n + 0 ≡ n
zero_more n = omega arith

-- nothing has been read at first
pub read-none : (old : Traffic) (left : Option (List ℕ)) (format : TraceFormat) → IsReadUpTo old old left left format [] 0 []
read-none old left format = record {
  begun = none-begun format;
  input = [];
  given = none;
  consumed = Consumes-none left;
  same = λ next. sym (joined-nothing (accesses_after format 0 next));
} where
  none : old ≡ traffic_after old [] false false
  none = sym (rw (append-nil old.bytes, zero_more old.stops, zero_more old.failures) refl)

module _ (old mid new : Traffic) (left some remain : Option (List ℕ)) (format : TraceFormat)
    (keys : List Access) (count : ℕ) (line bytes : List ℕ)
    (is : IsReadUpTo old mid left some format keys count line) where
  -- the bytes of one more read
  pub read-more : (more : List Access) (counted : ℕ) (rest : List ℕ) → new ≡ traffic_after mid bytes false false → Consumes some remain bytes → TakesBytes format keys count line bytes more counted rest
      → IsReadUpTo old new left remain format more counted rest
  read-more more counted rest given consumed takes = record {
    begun = takes.begun;
    input = is.input ++ bytes;
    given = given ∙ ap (λ t. traffic_after t bytes false false) is.given ∙ went-on old is.input bytes false false;
    consumed = Consumes-twice left some remain is.input bytes is.consumed consumed;
    same = λ next. ap (accesses_in format) (append_assoc is.input bytes next) ∙ is.same (bytes ++ next) ∙ takes.same next;
  }

  -- a read after which nothing was added
  pub read-given : (stopped failed : Bool) → new ≡ traffic_after mid bytes stopped failed → new ≡ traffic_after old (is.input ++ bytes) stopped failed
  read-given stopped failed given = given ∙ ap (λ t. traffic_after t bytes stopped failed) is.given ∙ went-on old is.input bytes stopped failed

  -- a read of bytes that end no trace
  pub read-bad : (refusal : SimulationError) → new ≡ traffic_after mid bytes false false → ((next : List ℕ) → accesses_after format count (line ++ (bytes ++ next)) ≡ Err refusal)
      → IsNoTrace old new left remain format refusal
  read-bad refusal given bad = record {
    bytes = is.input ++ bytes;
    ended = false;
    given = read-given false false given;
    bad = λ next _. ap (accesses_in format) (append_assoc is.input bytes next) ∙ is.same (bytes ++ next) ∙ ap (joined keys) (bad next);
  }

-- the end was reached
module _ (old mid new : Traffic) (left some remain : Option (List ℕ)) (format : TraceFormat)
    (keys : List Access) (count : ℕ) (line : List ℕ)
    (is : IsReadUpTo old mid left some format keys count line) where
  ended-given : new ≡ traffic_after mid [] true false → new ≡ traffic_after old is.input true false
  ended-given given =
      given ∙ ap (λ t. traffic_after t [] true false) is.given ∙ went-on old is.input [] true false ∙ ap (λ bs. traffic_after old bs true false) (append-nil is.input)

  pub read-whole : (all : List Access) → new ≡ traffic_after mid [] true false → Consumes some remain [] → IsAtEnd remain → joined keys (accesses_after format count line) ≡ Ok all
      → AreRead old new left remain format all
  read-whole all given consumed at_end e = record {
    input = is.input;
    given = ended-given given;
    consumed = subst (Consumes left remain) (append-nil is.input) (Consumes-twice left some remain is.input [] is.consumed consumed);
    at_end = at_end;
    accesses = ap (accesses_in format) (sym (append-nil is.input)) ∙ is.same [] ∙ ap (λ l. joined keys (accesses_after format count l)) (append-nil line) ∙ e;
  }

  pub read-badly : (refusal : SimulationError) → new ≡ traffic_after mid [] true false → accesses_after format count line ≡ Err refusal → IsNoTrace old new left remain format refusal
  read-badly refusal given bad = record {
    bytes = is.input;
    ended = true;
    given = ended-given given;
    bad = λ next none. ap (λ n. accesses_in format (is.input ++ n)) (none refl) ∙ is.same [] ∙ ap (λ l. joined keys (accesses_after format count l)) (append-nil line) ∙ ap (joined keys) bad;
  }

-- a refusal of records, as one of reading
pub given-up : (old new : Traffic) (left remain : Option (List ℕ)) (format : TraceFormat)
    (refusal : SimulationError) {P : Type 0}
    → ((bytes : List ℕ) × (stopped : Bool) × (new ≡ traffic_after old bytes stopped false))
    → (P → IsNoTrace old new left remain format refusal) → IsBad refusal P → IsGivenUp old new left remain format refusal
given-up old new left remain format (Line _ _) m f b = f b
given-up old new left remain format (Size _ _) m f b = f b
given-up old new left remain format (Record _) m f b = f b
given-up old new left remain format Memory m f b = m
given-up old new left remain format Open m f b = b
given-up old new left remain format Read m f b = absurd b
given-up old new left remain format Write m f b = b
given-up old new left remain format (Capacity _) m f b = b
given-up old new left remain format (Argument _ _) m f b = b
given-up old new left remain format NotText m f b = b
given-up old new left remain format NoCapacity m f b = b
given-up old new left remain format UnusedShares m f b = b
given-up old new left remain format (Shares _) m f b = b
given-up old new left remain format (SampledShares _) m f b = b
given-up old new left remain format LargeSizes m f b = b

-- the byte at a place, and those after it
rest-at : (bytes : List ℕ) (i : ℕ) (next : List ℕ) → i < length bytes → drop i bytes ++ next ≡ get_or bytes i 0 ∷ (drop (i + 1) bytes ++ next)
rest-at bytes i next h = ap (λ xs. xs ++ next) (drop_more bytes i 0 h)

-- a byte of a record
pub byte-more : (format : TraceFormat) (keys : List Access) (count : ℕ) (part longer bytes : List ℕ) (i : ℕ) → i < length bytes → longer ≡ part ++ get_or bytes i 0 ∷ []
    → (next : List ℕ) → joined keys (accesses_after format count (part ++ (drop i bytes ++ next))) ≡ joined keys (accesses_after format count (longer ++ (drop (i + 1) bytes ++ next)))
byte-more format keys count part longer bytes i h e next =
    let after = drop (i + 1) bytes ++ next in
    let same : part ++ (drop i bytes ++ next) ≡ longer ++ after =
    ap (λ xs. part ++ xs) (rest-at bytes i next h) ∙ sym (append_assoc part (get_or bytes i 0 ∷ []) after) ∙ ap (λ xs. xs ++ after) (sym e) in
    ap (λ xs. joined keys (accesses_after format count xs)) same

-- no byte is left
pub bytes-done : (format : TraceFormat) (keys : List Access) (count : ℕ) (part bytes : List ℕ) (i : ℕ) → length bytes ≤ i
    → (next : List ℕ) → joined keys (accesses_after format count (part ++ (drop i bytes ++ next))) ≡ joined keys (accesses_after format count (part ++ next))
bytes-done format keys count part bytes i h next = ap (λ xs. joined keys (accesses_after format count (part ++ (xs ++ next)))) (drop_all i bytes h)

after-piece : (format : TraceFormat) → format ≡ OracleGeneral → between format ≡ []
after-piece Lines e = absurd (cc)
after-piece (Csv columns) e = absurd (cc)
after-piece OracleGeneral e = refl

-- the last byte of a record that is bad
pub piece-bad : (format now : TraceFormat) (first keys : List Access) (start count counted : ℕ)
    (begun part longer bytes : List ℕ) (i : ℕ) → i < length bytes → now ≡ format
    → format ≡ OracleGeneral → counted ≡ count
    → longer ≡ part ++ get_or bytes i 0 ∷ []
    → ((next : List ℕ) → joined first (accesses_after format start (begun ++ (bytes ++ next))) ≡ joined keys (accesses_after format count (part ++ (drop i bytes ++ next))))
    → (refusal : SimulationError) → ((next : List ℕ) → accesses_after now counted (longer ++ (between now ++ next)) ≡ Err refusal)
    → (next : List ℕ) → accesses_after format start (begun ++ (bytes ++ next)) ≡ Err refusal
piece-bad format now first keys start count counted begun part longer bytes i h e pieces c l same refusal none next =
    let after = drop (i + 1) bytes ++ next in
    let bad : accesses_after format count (longer ++ after) ≡ Err refusal =
    ap (λ n. accesses_after format n (longer ++ after)) (sym c) ∙ ap (λ xs. accesses_after format counted (longer ++ (xs ++ after))) (sym (after-piece format pieces))
    ∙ ap (λ f. accesses_after f counted (longer ++ (between f ++ after))) (sym e) ∙ none after in
    joined-refused first (accesses_after format start (begun ++ (bytes ++ next))) refusal (same next ∙ byte-more format keys count part longer bytes i h l next ∙ ap (joined keys) bad)

-- a list without elements
pub no-elements : (bytes : List ℕ) → eqb (length bytes) 0 ≡ true → bytes ≡ []
no-elements [] e = refl
no-elements (byte ∷ bytes) e = absurd (omega (arith, eqb-true (length (byte ∷ bytes)) 0 e))

-- a trace before its first byte
pub read-new : (old : Traffic) (left : Option (List ℕ)) (format : TraceFormat) (keys : List Access)
    (count : ℕ) (part : List ℕ) → keys ≡ [] → count ≡ 0 → part ≡ []
    → IsReadUpTo old old left left format keys count part
read-new old left format keys count part p q r = rw (p, q, r) (read-none old left format)

-- a trace after its last byte
module _ (old mid new : Traffic) (left some remain : Option (List ℕ)) (format now : TraceFormat)
    (keys : List Access) (count : ℕ) (line : List ℕ)
    (is : IsReadUpTo old mid left some format keys count line) where
  pub finished : {X : Type 0} (view : X → List Access) (result : Result X SimulationError) → now ≡ format → new ≡ traffic_after mid [] true false → Consumes some remain [] → IsAtEnd remain
      → IfOk result (λ trace. joined keys (accesses_after now count line) ≡ Ok (view trace))
      → IfErr result (λ refusal. IsBad refusal (accesses_after now count line ≡ Err refusal))
      → ReadsTrace old new left remain format view result
  finished view (Ok trace) e given consumed at_end ok bad =
      read-whole old mid new left some remain format keys count line is (view trace) given consumed at_end (ap (λ f. joined keys (accesses_after f count line)) (sym e) ∙ ok)
  finished view (Err refusal) e given consumed at_end ok bad =
      given-up old new left remain format refusal (is.input, true, ended-given old mid new left some remain format keys count line is given)
      (λ (none : accesses_after now count line ≡ Err refusal). read-badly old mid new left some remain format keys count line is refusal given (ap (λ f. accesses_after f count line) (sym e) ∙ none)) bad
