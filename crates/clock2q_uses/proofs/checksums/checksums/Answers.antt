use Rattle.std.proofs.Common.{rules, ap}
use Rattle.std.proofs.lemmas.Bool.{eqb-true}
use Rattle.clock2q_uses.specs.Checksums.{document_checksum}
use Rattle.clock2q_uses.proofs.checksums.checksums.Goals as goal

pub returns-clause-checksums : goal.returns-clause-checksums
returns-clause-checksums c =
    c.in_ok-recall.ensures.values c.in_ok-memo.ensures.remembers (document_checksum c.args.documents.now)
    (record { one = λ key v given. search (rules, given); equal = λ key other same. ap (document_checksum c.args.documents.now) (eqb-true key other same) })
