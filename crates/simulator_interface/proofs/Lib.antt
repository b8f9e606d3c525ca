mod Amounts
mod AskedOptions
mod PolicyNames
mod WorkedAmounts
mod WorkedExpected
mod WorkedShares
pub mod Zipped
