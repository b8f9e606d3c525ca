-- The commands so far have their replies, each handle is under its hash, there is room for the other replies, and what was spent leaves the other commands
-- their bounds.
use Rattle.std.proofs.Common.{◌-◌, ◌+◌, ◌≤◌, length, drop, take, vec_len, vec_capacity}
use Rattle.clock2q_handles.specs.Changes.{IsLaidOut}
use Rattle.clock2q_table_commands.specs.TableCommands.{IsHashing, AreReplied}
use Rattle.clock2q_table_commands.specs.TableCosts.{HaveRoom}
use Rattle.clock2q_table_commands.proofs.Spending.{IsSpent}
use Rattle.clock2q_table_commands.proofs.table_commands.run_table.Given as goal

abbrev pub invariant-loop-command : goal.invariant-loop-command
invariant-loop-command g l = record {
  replied : (key : _) → IsHashing (λ h r. goal.F-post g l.hash_of h r) key l.fn.table.homes →
      AreReplied g.H.PartialEq.eq key (take l.command-index l.commands) l.fn.table.homes l.replies.items l.table.homes;
  hashes : (key : _) → IsHashing (λ h r. goal.F-post g l.hash_of h r) key l.fn.table.homes → IsHashing (λ h r. goal.F-post g l.hash_of h r) key l.table.homes;
  laid : IsLaidOut l.table;
  spent : (key : _) → IsHashing (λ h r. goal.F-post g l.hash_of h r) key l.fn.table.homes → HaveRoom g.H.PartialEq.eq key l.commands l.fn.table.homes →
      IsSpent _ g.H.PartialEq.eq key l.commands (drop l.command-index l.commands) l.fn.table l.table;
  room : vec_len l.replies + (length l.commands - l.command-index) ≤ vec_capacity l.replies;
}
