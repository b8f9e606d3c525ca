use Rattle.std.proofs.Common.{rules, sym, subst}
use Rattle.clock2q_table_commands.proofs.Hashing.{given-same}
use Rattle.clock2q_table_commands.proofs.TableReplies.{Reserves-reserved}
use Rattle.clock2q_table_commands.specs.TableCommands.{RepliesToReserve}
use Rattle.clock2q_table_commands.proofs.table_commands.reserve.Goals as goal

pub reserve-requires : goal.reserve-requires
reserve-requires g c =
    record {
      rehash = λ _. (
        c.requires.hashes.0,
        given-same _ (λ f h r next called. search rules) _ c.requires.hashes.0 _ _ c.requires.hashes.1 (λ h. search rules)
            (λ h r next called. search rules),
      );
    }

pub returns-clause-reply : goal.returns-clause-reply
returns-clause-reply g c = λ key h.
    subst (λ reply. RepliesToReserve g.H.PartialEq.eq key c.args.additional c.args.table.now.homes reply c.reserve.new.self.homes) (sym c.reply_of.ensures)
    (Reserves-reserved _ g.H.PartialEq.eq key _ _ c.args.table.now c.reserve.new.self c.args.additional c.reserve.result
    c.reserve.ensures.reserved c.reserve.ensures.refused c.reserve.ensures.size.1 c.reserve.ensures.size.0 c.reserve.ensures.memory c.reserve.ensures.only
    (given-same _ (λ f v r next called. search rules) _ key _ _ h (λ v. search rules) (λ v r next called. search rules)))
