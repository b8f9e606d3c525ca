mod Either
mod Filling
mod Gaps
mod Residents
mod Replacing
