-- What the contract of closing cites beside the definitions of document 01: how code's numbers and slices stand for them.
pub mod Memory
pub mod Lent
-- the contract of the public call
pub mod Closing
-- what the code of both tables goes by
pub mod Rows
-- proofs that the slices of both tables keep to it, which the code names
pub mod Columns
pub mod SetRows
pub mod ProfileRows
