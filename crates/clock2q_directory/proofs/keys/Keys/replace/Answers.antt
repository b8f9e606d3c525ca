-- The place has its value, or keeps the one that it had.
use Rattle.clock2q_directory.proofs.Names.{◌≡◌, ◌<◌, Some, length, slice_get, refl, sym, subst, slice_get_read, entry}
use Rattle.clock2q_directory.proofs.Entries.{set-written}
use Rattle.clock2q_directory.proofs.Taking.{brings-value, keeps-value}
use Rattle.clock2q_directory.proofs.keys.Keys.replace.Given.{Over}
use Rattle.clock2q_directory.proofs.keys.Keys.replace.Goals.{After-drop-old}
use Rattle.clock2q_directory.proofs.keys.Keys.replace.Goals as goal

pub returns-in_default-clause-entries : goal.returns-in_default-clause-entries
returns-in_default-clause-entries g c =
    let es = c.self.inside.entries.items in
    let within : c.args.place < length es = subst (λ k. c.args.place < length k.entries) (sym c.self.view_is) c.requires.used in
    let there = slice_get_read es (length es) c.args.place _ refl within c.index_mut-entry.ensures.value in
    rw c.in_default.is (keeps-value c.args.place c.args.entry.hash c.args.entry.key c.args.self.now.entries _ c.requires.used
    (rw (← c.self.view_is, there, c.replace-old_hash.ensures.after, c.replace-old_key.ensures.after) refl))

within : (g : Over) (c : After-drop-old g) → c.args.place < length c.self.inside.entries.items
within g c = subst (λ k. c.args.place < length k.entries) (sym c.self.view_is) c.requires.used

-- the entry that was there
there : (g : Over) (c : After-drop-old g) → slice_get c.args.self.now.entries c.args.place ≡ Some c.replace-old.result
there g c =
    let es = c.self.inside.entries.items in
    subst (λ k. slice_get k.entries c.args.place ≡ Some c.replace-old.result) c.self.view_is
    (rw c.replace-old.ensures.value (slice_get_read es (length es) c.args.place _ refl (within g c) c.index_mut.ensures.value))

pub returns-clause-hash : goal.returns-clause-hash
returns-clause-hash g c = rw (there g c) refl

pub returns-clause-key : goal.returns-clause-key
returns-clause-key g c = rw (there g c) refl

pub returns-clause-entries : goal.returns-clause-entries
returns-clause-entries g c =
    let is = set-written c.args.place (entry c.args.entry.hash c.args.entry.key c.in-Some.value) c.self.inside.entries.items (within g c) in
    rw (c.in-Some.is, c.replace-old.ensures.after, ← c.self.view_is) (brings-value c.args.place c.args.entry.hash c.args.entry.key c.in-Some.value c.self.inside.entries.items _ is)
