mod ByteRows
mod Curves
mod KnownHits
mod Replaying
mod RowBytes
mod TriedShares
mod WindowByWindow
