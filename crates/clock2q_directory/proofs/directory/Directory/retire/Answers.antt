-- The resident's key goes into the history, and its slot leaves the index.
use Rattle.clock2q_directory.proofs.Names.{◌<◌, arith, first_remembered}
use Rattle.clock2q_directory.proofs.Histories.{IsHistory-index}
use Rattle.clock2q_directory.proofs.Remembering.{remembers}
use Rattle.clock2q_directory.proofs.Taking.{may-retire}
use Rattle.clock2q_directory.proofs.Views.{places-left, left-like}
use Rattle.clock2q_directory.proofs.directory.Directory.retire.Goals as goal

pub invariant_of-self : goal.invariant_of-self
invariant_of-self g c =
    let i = c.self.inside.index in
    let below : c.args.slot < first_remembered = omega (arith, c.requires.resident.below) in
    rw (c.remove_slot.ensures.left, c.in_default.ensures.same) (IsHistory-index c.self.invariant (places-left i c.hash-hash.result c.args.slot below)
    (left-like i c.hash-hash.result c.args.slot).shared)

pub invariant_of-self-2 : goal.invariant_of-self-2
invariant_of-self-2 g c =
    let put = c.in-Some.ensures in
    let may = may-retire (rw (← c.self.view_is) at c.requires.resident) c.hash-hash.ensures.hash ((rw (← c.self.view_is) at c.requires.absent) _ c.key-key.ensures.key) in
    let r = remembers c.self.invariant (put.made c.self.inside.index c.self.invariant.indexed) put.written put.whole may in
    rw (c.remember.ensures.remembered, c.forget.ensures.forgotten) r.whole

pub returns-clause-retired : goal.returns-clause-retired
returns-clause-retired g c =
    let put = c.in-Some.ensures in
    let may = may-retire (rw (← c.self.view_is) at c.requires.resident) c.hash-hash.ensures.hash ((rw (← c.self.view_is) at c.requires.absent) _ c.key-key.ensures.key) in
    let r = remembers c.self.invariant (put.made c.self.inside.index c.self.invariant.indexed) put.written put.whole may in
    rw (← c.self.view_is, c.remember.ensures.remembered, c.forget.ensures.forgotten) (record {
      hash = c.hash-hash.result;
      had_hash = c.hash-hash.ensures.hash;
      had_key = c.key-key.ensures.key;
      becomes = r.pushed;
      places = r.places;
      accesses = r.accesses;
    })
