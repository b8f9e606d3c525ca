-- Each old position is read and written.
use Rattle.std.proofs.Common.{◌+◌, ◌*◌, length}
use Rattle.clock2q_queues.proofs.links.window.Window.with_gap.Given as goal

abbrev pub ghost-raise : goal.ghost-raise
ghost-raise g a = a.seen.now.accesses + 2 * length a.seen.now.items
