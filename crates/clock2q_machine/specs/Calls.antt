-- The calls of a cache as data, with what closures would give as values, and their replies.
use Rattle.std.specs.Prelude.{ℕ, Bool, List, Option}

-- `With` and `Try` have the value that a closure would return, `Try` none if it fails; `Retain` has the answers to its
-- questions, and `Prefill` the values made
pub data Call (K V : Type 0) : Type 0 where
  Put : K → V → Call K V
  Get : K → Call K V
  Peek : K → Call K V
  Contains : K → Call K V
  GetAt : ℕ → K → Call K V
  Set : K → V → Call K V
  With : K → V → Call K V
  Try : K → Option V → Call K V
  SlotFor : K → V → Call K V
  Remove : K → Call K V
  Retain : List Bool → Call K V
  Clear : Call K V
  Evict : Call K V
  Prefill : List V → Call K V
  Len : Call K V
  IsEmpty : Call K V
  Capacity : Call K V

-- what a call answers
pub data Answer (V : Type 0) : Type 0 where
  Value : Option V → Answer V
  Stored : V → Answer V
  Tried : Option V → Answer V
  Slot : ℕ → V → Answer V
  Flag : Bool → Answer V
  Number : ℕ → Answer V
  Done : Answer V
