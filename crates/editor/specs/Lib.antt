-- the contract of each call for C
pub mod Editor
