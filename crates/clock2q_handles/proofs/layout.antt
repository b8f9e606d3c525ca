-- The layout: how far earlier homes push a home's entries, the slots that follow from that, and that slots in order are those.
pub mod Periods
pub mod Spill
pub mod Laid
pub mod Reading
pub mod Walk
pub mod TidyLayout
pub mod Tables
pub mod Placement
pub mod Reaching
pub mod FewerEntries
pub mod MoreEntries
pub mod TooLong
