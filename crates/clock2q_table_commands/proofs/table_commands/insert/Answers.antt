use Rattle.std.proofs.Common.{rules, ap, sym, subst}
use Rattle.clock2q_table_commands.proofs.Hashing.{given-same}
use Rattle.clock2q_table_commands.proofs.TableReplies.{Inserts-put}
use Rattle.clock2q_table_commands.specs.TableCommands.{RepliesToInsert}
use Rattle.clock2q_table_commands.proofs.table_commands.insert.Goals as goal

pub insert-requires : goal.insert-requires
insert-requires g c =
    record {
      rehash = λ _. (
        c.requires.hashes.0,
        given-same _ (λ f h r next called. search rules) _ c.requires.hashes.0 _ _ c.requires.hashes.1 (λ h. search rules)
            (λ h r next called. search rules),
      );
    }

pub returns-clause-reply : goal.returns-clause-reply
returns-clause-reply g c = λ key h.
    subst (λ reply. RepliesToInsert g.H.PartialEq.eq key c.args.handle c.args.table.now.homes reply c.insert.new.self.homes) (sym c.reply_of.ensures)
    (Inserts-put _ g.H.PartialEq.eq key c.args.table.now.homes c.insert.new.self.homes c.hash_of.result c.args.handle c.insert.result (h.one c.args.handle c.hash_of.result c.hash_of.ensures)
    (λ e. c.insert.ensures.put e key (λ _. given-same _ (λ f v r next called. search rules) _ key _ _ h (λ v. search rules) (λ v r next called. search rules)))
    (λ e. ((c.insert.ensures.memory e).0, ap (λ t. t.homes) (c.insert.ensures.memory e).1)))
