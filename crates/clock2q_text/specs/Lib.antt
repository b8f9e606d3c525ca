pub mod Commands
pub mod Text
pub mod Cut
pub mod Parsing
pub mod ServeError
