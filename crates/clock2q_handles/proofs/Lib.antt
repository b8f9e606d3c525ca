-- Lemmas by subject, and each function's own proof in the folder of its path; where named lemmas suffice for it, its attribute names them.
--
-- Letters that all of them use:
--   x y        a hash, or a slot number that wraps past the last slot
--   h g        a home slot; h is also the first slot of a window
--   d n        how far past the home a walk or an entry is
--   s t        slots by number; s is also a mark, what a slot's metadata says or a walk looks for
--   v w        handles; v is also how far past the home the first empty slot is
--   m          the number of slots
--   e es       an entry, and a list of them
--   A B        the contents of each slot, whose number wraps past the last, before and after a change
--   c          the number of entries of each home
--   i j k      positions in a list or on a walk
--   f g        closures that a call is passed, and what is known of calls of them
pub mod layout
pub mod walks
pub mod shifts
pub mod rebuild
pub mod offers
pub mod Groups
pub mod LayoutVectors
pub mod Promises
pub mod Attributes
-- What proofs of the crates above cite, by its own name.
pub use Rattle.clock2q_handles.proofs.shifts.Changes
pub use Rattle.clock2q_handles.proofs.layout.FewerEntries
pub use Rattle.clock2q_handles.proofs.layout.MoreEntries
pub use Rattle.clock2q_handles.proofs.rebuild.HashOfHandle
pub use Rattle.clock2q_handles.proofs.rebuild.Hashes
pub use Rattle.clock2q_handles.proofs.rebuild.Held
pub use Rattle.clock2q_handles.proofs.walks.Lookups
pub use Rattle.clock2q_handles.proofs.shifts.Removals
pub use Rattle.clock2q_handles.proofs.walks.Runs
pub use Rattle.clock2q_handles.proofs.offers.Offering
pub use Rattle.clock2q_handles.proofs.layout.Periods
pub use Rattle.clock2q_handles.proofs.layout.Reading
pub use Rattle.clock2q_handles.proofs.layout.TidyLayout
pub use Rattle.clock2q_handles.proofs.layout.TooLong
