-- A text that is answered, and one that is refused.
use Rattle.std.proofs.Common.{◌≡◌, ℕ, List, Option, Result, Ok, Err, inr}
use Rattle.clock2q_ports.specs.Ports.{Traffic}
use Rattle.clock2q_command.specs.Serve.{IsReadWhole, HasNoText, IsRefused, Answers, RepliesTo}
use Rattle.clock2q_text.specs.Text.{Script, script_of}
use Rattle.clock2q_text.specs.declared.serve_error.ServeError.{ServeError}
use Rattle.clock2q_text.specs.declared.serve_error.ServeError.TheVariants.{BadLine, Memory, Capacity, Policy, Read, Write}

-- a script that was read is answered, or there's no text
pub Answers-replied : {X : Type 0} {old new : Traffic} {left remain : Option (List ℕ)} (input : List ℕ) (script : Script) (bytes : X → List ℕ) (r : Result X ServeError)
    → IsReadWhole old new left remain input → script_of input ≡ Ok script → RepliesTo script bytes r → Answers old new left remain bytes r
Answers-replied input script bytes (Ok text) whole is h = record { input = input; script = script; read = whole; spelled = is; served = h.0; answered = h.1 }
Answers-replied input script bytes (Err (BadLine line)) whole is h = absurd h
Answers-replied input script bytes (Err Memory) whole is h = inr (record { input = input; read = whole; good = λ line e. cc })
Answers-replied input script bytes (Err Capacity) whole is h = record { input = input; script = script; read = whole; spelled = is; large = h }
Answers-replied input script bytes (Err Policy) whole is h = record { input = input; script = script; read = whole; spelled = is; within = h.0; no_policy = h.1 }
Answers-replied input script bytes (Err Read) whole is h = absurd h
Answers-replied input script bytes (Err Write) whole is h = absurd h

-- what passed through a port in a call, and what it held
pub record Passage : Type 0 where
  pub old : Traffic
  pub new : Traffic
  pub left : Option (List ℕ)
  pub remain : Option (List ℕ)

-- without a text the script is refused
pub IsRefused-early : (from to : Passage) (refusal : ServeError)
    → HasNoText from.old from.new from.left from.remain refusal → IsRefused from.old from.new from.left from.remain to.old to.new to.left to.remain refusal
IsRefused-early from to Write h = absurd h
IsRefused-early from to (BadLine line) h = h
IsRefused-early from to Memory h = h
IsRefused-early from to Capacity h = h
IsRefused-early from to Policy h = h
IsRefused-early from to Read h = h
