-- A command of the library as the call that it makes, and a reply as the answer that it gives.
use Rattle.std.specs.Prelude.{⊤, List, [], ◌∷◌}
use Rattle.std.specs.List.{AllByRecursion}
use Rattle.clock2q_machine.specs.Calls as call
use Rattle.clock2q_machine.specs.Calls.{Call, Answer}
use Rattle.clock2q_text.specs.declared.commands.Command.{Command}
use Rattle.clock2q_text.specs.declared.commands.Command.TheVariants.{Put, Get, Peek, Contains, GetAt, Set, With, Try, Slot, Remove, Retain, Clear, Prefill, Len, IsEmpty, Capacity}
use Rattle.clock2q_text.specs.declared.commands.Reply.{Reply}
use Rattle.clock2q_text.specs.declared.commands.Reply.TheVariants as reply

module _ {K V A : Type 0} where
  abbrev pub call_of : Command K V A → Call K V
  call_of (Put key value) = call.Put key value
  call_of (Get key) = call.Get key
  call_of (Peek key) = call.Peek key
  call_of (Contains key) = call.Contains key
  call_of (GetAt slot key) = call.GetAt slot key
  call_of (Set key value) = call.Set key value
  call_of (With key value) = call.With key value
  call_of (Try key value) = call.Try key value
  call_of (Slot key value) = call.SlotFor key value
  call_of (Remove key) = call.Remove key
  call_of (Retain bits) = call.Retain bits.items
  call_of Clear = call.Clear
  call_of (Prefill values) = call.Prefill values.items
  call_of Len = call.Len
  call_of IsEmpty = call.IsEmpty
  call_of Capacity = call.Capacity

module _ {V : Type 0} where
  abbrev pub answer_of : Reply V → Answer V
  answer_of (reply.Value value) = call.Value value
  answer_of (reply.Stored value) = call.Stored value
  answer_of (reply.Tried value) = call.Tried value
  answer_of (reply.Slot slot value) = call.Slot slot value
  answer_of (reply.Flag flag) = call.Flag flag
  answer_of (reply.Number number) = call.Number number
  answer_of reply.Done = call.Done

module _ {K V : Type 0} where
  -- a call that makes slots has a value for them
  abbrev pub IsSupplied : Call K V → Type 0
  IsSupplied (call.Prefill []) = ⊥
  IsSupplied (call.Prefill (value ∷ values)) = ⊤
  IsSupplied (call.Put key value) = ⊤
  IsSupplied (call.Get key) = ⊤
  IsSupplied (call.Peek key) = ⊤
  IsSupplied (call.Contains key) = ⊤
  IsSupplied (call.GetAt slot key) = ⊤
  IsSupplied (call.Set key value) = ⊤
  IsSupplied (call.With key value) = ⊤
  IsSupplied (call.Try key value) = ⊤
  IsSupplied (call.SlotFor key value) = ⊤
  IsSupplied (call.Remove key) = ⊤
  IsSupplied (call.Retain bits) = ⊤
  IsSupplied call.Clear = ⊤
  IsSupplied call.Evict = ⊤
  IsSupplied call.Len = ⊤
  IsSupplied call.IsEmpty = ⊤
  IsSupplied call.Capacity = ⊤

  abbrev pub AreSupplied : List (Call K V) → Type 0
  AreSupplied = AllByRecursion IsSupplied
