-- What `serve` reads, what it answers, and what it writes.
use Rattle.std.specs.Prelude.{◌≡◌, ◌⊎◌, ℕ, ◌^◌, ◌<◌, true, false, List, nat_eq, Option, Result, Ok, Err}
use Rattle.std.specs.Io.KnownBytes.{Consumes, IsAtEnd}
use Rattle.clock2q_machine.specs.Policies.{IsPolicy}
use Rattle.clock2q_machine.specs.Machine.{Machine, empty}
use Rattle.clock2q_machine.specs.Shares.{Shares}
use Rattle.clock2q_cache.specs.declared.error.CacheError.{CacheError}
use Rattle.clock2q_cache.specs.declared.error.CacheError.TheVariants as cache
use Rattle.clock2q_machine.specs.Steps.{answers}
use Rattle.clock2q_ports.specs.Ports.{Traffic, traffic_after}
use Rattle.clock2q_ports.specs.Transfer.{GivesUp, IsSent, TookSome}
use Rattle.clock2q_ports.specs.declared.read_error.ReadError.TheVariants as reading
use Rattle.clock2q_text.specs.Text.{Script, script_of, output_of}
use Rattle.clock2q_text.specs.declared.serve_error.ServeError.{ServeError}
use Rattle.clock2q_text.specs.declared.serve_error.ServeError.TheVariants.{BadLine, Memory, Capacity, Policy, Read, Write}

-- what is written for a script: `ok`, and the answers of a new cache with its shares
unfoldable pub output_for : Script → List ℕ
output_for script = output_of (answers nat_eq script.calls (empty script.shares))

-- a cache can have this capacity
abbrev pub IsWithin : Shares → Type 0
IsWithin shares = shares.capacity < 2 ^ 24

-- a cache can have these shares
abbrev pub CanBeHad : Shares → Type 0
CanBeHad shares = IsWithin shares × IsPolicy shares

-- the whole input was read, once up to its end, and the source never failed
pub record IsReadWhole (old new : Traffic) (left remain : Option (List ℕ)) (input : List ℕ) : Type 0 where
  pub given : new ≡ traffic_after old input true false
  pub known : Consumes left remain input
  pub at_end : IsAtEnd remain

module _ (old new : Traffic) (left remain : Option (List ℕ)) where
  -- the whole input was read, it spells a script that a cache can serve, and this is the text of its answers
  pub record IsAnswered (text : List ℕ) : Type 0 where
    pub input : List ℕ
    pub script : Script
    pub read : IsReadWhole old new left remain input
    pub spelled : script_of input ≡ Ok script
    pub served : CanBeHad script.shares
    pub answered : text ≡ output_for script

  -- the whole input was read, and this line is its first bad one
  pub record HasBadLine (line : ℕ) : Type 0 where
    pub input : List ℕ
    pub read : IsReadWhole old new left remain input
    pub bad : script_of input ≡ Err line

  -- the whole input was read, all its lines are good, and the capacity is more than a cache can have
  pub record IsTooLarge : Type 0 where
    pub input : List ℕ
    pub script : Script
    pub read : IsReadWhole old new left remain input
    pub spelled : script_of input ≡ Ok script
    pub large : ¬ IsWithin script.shares

  -- the whole input was read, all its lines are good, the capacity is within its limit, and the shares don't fit
  -- together
  pub record HasNoPolicy : Type 0 where
    pub input : List ℕ
    pub script : Script
    pub read : IsReadWhole old new left remain input
    pub spelled : script_of input ≡ Ok script
    pub within : IsWithin script.shares
    pub no_policy : ¬ IsPolicy script.shares

  -- the whole input was read, and neither of its first two lines is bad
  pub record HasGoodStart : Type 0 where
    pub input : List ℕ
    pub read : IsReadWhole old new left remain input
    pub good : (line : ℕ) → script_of input ≡ Err line → 2 < line

  -- what holds for the source if there is no text; memory runs out while it is read, or after a good start
  abbrev pub HasNoText : ServeError → Type 0
  HasNoText (BadLine line) = HasBadLine line
  HasNoText Memory = GivesUp old new reading.Memory ⊎ HasGoodStart
  HasNoText Capacity = IsTooLarge
  HasNoText Policy = HasNoPolicy
  HasNoText Read = GivesUp old new reading.Failed
  HasNoText Write = ⊥

  -- the text of the answers, or why there is none
  abbrev pub Answers : {X : Type 0} → (X → List ℕ) → Result X ServeError → Type 0
  Answers bytes (Ok text) = IsAnswered (bytes text)
  Answers bytes (Err refusal) = HasNoText refusal

-- the program's refusal for a cache's
abbrev pub refusal_of : CacheError → ServeError
refusal_of cache.Memory = Memory
refusal_of cache.Capacity = Capacity
refusal_of cache.Policy = Policy

-- why no cache with these shares was made: its capacity is too large, its shares don't fit together, or memory ran out
abbrev pub IsUnmade : Shares → CacheError → Type 0
IsUnmade shares cache.Memory = CanBeHad shares
IsUnmade shares cache.Capacity = ¬ IsWithin shares
IsUnmade shares cache.Policy = IsWithin shares × ¬ IsPolicy shares

-- a new cache with these shares, or why there is none
abbrev pub Makes : {X K V : Type 0} → Shares → (X → Machine K V) → Result X CacheError → Type 0
Makes shares machine (Ok cache) = CanBeHad shares × (machine cache ≡ empty shares)
Makes shares machine (Err refusal) = IsUnmade shares refusal

-- why a script with these shares isn't answered, likewise
abbrev pub IsUnanswered : Shares → ServeError → Type 0
IsUnanswered shares (BadLine line) = ⊥
IsUnanswered shares Memory = CanBeHad shares
IsUnanswered shares Capacity = ¬ IsWithin shares
IsUnanswered shares Policy = IsWithin shares × ¬ IsPolicy shares
IsUnanswered shares Read = ⊥
IsUnanswered shares Write = ⊥

-- a new cache answered the script, or was refused
abbrev pub RepliesTo : {X : Type 0} → Script → (X → List ℕ) → Result X ServeError → Type 0
RepliesTo script bytes (Ok text) = CanBeHad script.shares × (bytes text ≡ output_for script)
RepliesTo script bytes (Err refusal) = IsUnanswered script.shares refusal

module _ (given gives : Traffic) (left remain : Option (List ℕ)) (took takes : Traffic) (held holds : Option (List ℕ)) where
  -- the whole input was read, it spells a script that a cache can serve, and the text of its answers was written and
  -- flushed
  pub record IsServed : Type 0 where
    pub text : List ℕ
    pub answered : IsAnswered given gives left remain text
    pub sent : IsSent took takes held holds text

  -- the whole input was read and answered, and the sink failed after it had taken a prefix of the text
  pub record IsHalfWritten : Type 0 where
    pub text : List ℕ
    pub count : ℕ
    pub answered : IsAnswered given gives left remain text
    pub written : TookSome took takes held holds text count

  -- why there is no text, or why it was not written whole
  abbrev pub IsRefused : ServeError → Type 0
  IsRefused Write = IsHalfWritten
  IsRefused refusal = HasNoText given gives left remain refusal
