use Rattle.std.proofs.Common.{rules, of_calls, refl, ap, sym, subst}
use Rattle.std.specs.List.{list_any}
use Rattle.clock2q_handles.proofs.Offering.{offered_always}
use Rattle.clock2q_table_commands.proofs.Hashing.{given-same}
use Rattle.clock2q_table_commands.proofs.TableReplies.{offered, Finds-replied}
use Rattle.clock2q_table_commands.specs.TableCommands.{RepliesToFind}
use Rattle.clock2q_table_commands.proofs.table_commands.find.Goals as goal

pub find_or_insert-requires-clause-rehash : goal.find_or_insert-requires-clause-rehash
find_or_insert-requires-clause-rehash g c =
    λ _. (
      c.requires.hashes.0,
      given-same _ (λ f h r next called. search rules) _ c.requires.hashes.0 _ _ c.requires.hashes.1 (λ h. search rules)
          (λ h r next called. search rules),
    )

pub find_or_insert-requires-clause-callable : goal.find_or_insert-requires-clause-callable
find_or_insert-requires-clause-callable g c = offered_always _ (search (rules, of_calls))

pub returns-clause-reply : goal.returns-clause-reply
returns-clause-reply g c = λ key h.
    subst (λ reply. RepliesToFind g.H.PartialEq.eq key c.args.handle c.args.accepted.now c.args.table.now.homes reply c.find_or_insert.new.self.homes) (sym c.reply_of_found.ensures)
    (Finds-replied _ g.H.PartialEq.eq key c.args.table.now.homes c.find_or_insert.new.self.homes c.hash_of.result c.args.handle
    c.args.accepted.now c.find_or_insert.result (h.one c.args.handle c.hash_of.result c.hash_of.ensures)
    (λ e. let s = (c.find_or_insert.ensures.settles e).1 key (λ _. given-same _ (λ f v r next called. search rules) _ key _ _ h (λ v. search rules) (λ v r next called. search rules)) in
    (s.0, offered _ (λ v. list_any (λ a. g.H.PartialEq.eq a v) c.args.accepted.now) _ (λ v b next called. (search rules, search rules)) _ s.0 _ refl s.1, s.2))
    (λ e. ((c.find_or_insert.ensures.memory e).0, ap (λ t. t.homes) (c.find_or_insert.ensures.memory e).1)))
