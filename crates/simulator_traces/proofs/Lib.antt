pub mod Bytes
mod FieldByField
mod KeyBytes
mod KnownKeys
mod LineByLine
mod Numbering
mod OncePerKey
pub mod RecordByRecord
mod Sampling
mod WorkedFormats
