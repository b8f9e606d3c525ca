pub mod TableCommands
pub mod TableCosts
