pub mod Hashing
pub mod Rehashing
pub mod TableReplies
pub mod Spending
