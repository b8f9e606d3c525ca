use Rattle.std.proofs.Common.{rules, ◌+◌, take, sym, subst}
use Rattle.std.proofs.lemmas.List.{take_all}
use Rattle.clock2q_handles.proofs.Promises.{whole_laid}
use Rattle.clock2q_table_commands.specs.TableCommands.{AreReplied}
use Rattle.clock2q_table_commands.proofs.Rehashing.{AreReplied-taken, hashes-replied}
use Rattle.clock2q_table_commands.proofs.Spending.{spent_begins, spent_more, spent_ended}
use Rattle.clock2q_table_commands.proofs.table_commands.run_table.Goals as goal

pub loop-command-init : goal.loop-command-init
loop-command-init g c = record {
  replied = search rules;
  hashes = λ key h. h;
  laid = whole_laid _ c.facts.ensures.whole;
  spent = λ key h room. spent_begins _ g.H.PartialEq.eq key c.args.commands.now c.args.table.now room;
  room = search rules;
}

pub returns-in_default-clause-laid : goal.returns-in_default-clause-laid
returns-in_default-clause-laid g c = whole_laid _ c.facts.ensures.whole

pub execute-requires-clause-hashes : goal.execute-requires-clause-hashes
execute-requires-clause-hashes g c = (c.requires.hashes.0, c.loop-command.invariant.hashes c.requires.hashes.0 c.requires.hashes.1)

pub loop-command-preserved : goal.loop-command-preserved
loop-command-preserved g c = record {
  replied = λ key h.
      subst (λ replies.
      AreReplied g.H.PartialEq.eq key
      (take (c.loop-command.command-index + 1) c.args.commands.now) c.args.table.now.homes replies
      c.execute.new.table.homes) (sym c.push_reserved.ensures.items)
      (AreReplied-taken _ g.H.PartialEq.eq key c.args.commands.now c.loop-command.command-index c.command-item.result c.command-item.result c.loop-command.replies.items c.execute.result
      c.args.table.now.homes c.loop-command.table.homes c.execute.new.table.homes c.loop-command-test.true c.command-item.is
      (c.loop-command.invariant.replied key h) (c.execute.ensures.reply key (c.loop-command.invariant.hashes key h)));
  hashes = λ key h. record {
    one = h.one;
    hashes = hashes-replied _ g.H.PartialEq.eq key c.command-item.result c.loop-command.table.homes c.execute.result c.execute.new.table.homes
        (c.execute.ensures.reply key (c.loop-command.invariant.hashes key h)) (c.loop-command.invariant.hashes key h).hashes;
  };
  laid = c.execute.ensures.laid c.loop-command.invariant.laid;
  spent = λ key h room.
      let hashes = c.loop-command.invariant.hashes key h in
      spent_more _ g.H.PartialEq.eq key c.args.commands.now c.loop-command.command-index c.command-item.result c.command-item.result c.execute.result c.args.table.now c.loop-command.table c.execute.new.table
      c.loop-command-test.true c.command-item.is (c.loop-command.invariant.spent key h room) (c.execute.ensures.reply key hashes) (λ here. c.execute.ensures.spends key hashes c.loop-command.invariant.laid here);
  room = search (rules, c.loop-command.invariant.room);
}

pub returns-clause-replies : goal.returns-clause-replies
returns-clause-replies g c = λ key h.
    subst (λ commands. AreReplied g.H.PartialEq.eq key commands c.args.table.now.homes c.loop-command.replies.items c.loop-command.table.homes)
    (take_all c.loop-command.command-index c.args.commands.now (search rules)) (c.loop-command.invariant.replied key h)

pub returns-clause-writes : goal.returns-clause-writes
returns-clause-writes g c = λ key h room.
    (spent_ended _ g.H.PartialEq.eq key c.args.commands.now c.loop-command.command-index c.args.table.now c.loop-command.table (search rules) (c.loop-command.invariant.spent key h room)).0

pub returns-clause-reads : goal.returns-clause-reads
returns-clause-reads g c = λ key h room.
    (spent_ended _ g.H.PartialEq.eq key c.args.commands.now c.loop-command.command-index c.args.table.now c.loop-command.table (search rules) (c.loop-command.invariant.spent key h room)).1

pub returns-in_default-clause-memory : goal.returns-in_default-clause-memory
returns-in_default-clause-memory g c = search rules

pub returns-in_default-clause-unchanged : goal.returns-in_default-clause-unchanged
returns-in_default-clause-unchanged g c = search rules

pub returns-clause-hashes : goal.returns-clause-hashes
returns-clause-hashes g c = search rules
