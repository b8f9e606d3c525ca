use Rattle.std.proofs.Common.{rules, ◌≡◌, eqb, subst, sym}
use Rattle.clock2q_machine.specs.Machine.{hit}
use Rattle.clock2q_machine.specs.Steps.{put}
use Rattle.clock2q_uses.specs.Squares.{HasSquares, square}
use Rattle.clock2q_uses.proofs.Squaring.{squares_got, squares_missed}
use Rattle.clock2q_uses.proofs.squares.square_of.Goals as goal

pub returns-in-Some-clause-keeps : goal.returns-in-Some-clause-keeps
returns-in-Some-clause-keeps c had =
    let after : c.get.follows.lender-at-none.machine ≡ hit (eqb c.args.number) c.args.squares.now.machine = search rules in
    subst HasSquares (sym after) (squares_got c.args.squares.now.machine c.facts.ensures.whole had c.args.number)

pub returns-clause-keeps : goal.returns-clause-keeps
unfolding square
returns-clause-keeps c had =
    let after : c.put.new.self.machine ≡ put (eqb c.args.number) c.args.number (square c.args.number) (hit (eqb c.args.number) c.args.squares.now.machine) = search rules in
    subst HasSquares (sym after) (squares_missed c.args.squares.now.machine c.facts.ensures.whole had c.args.number)
