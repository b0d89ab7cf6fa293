-- a table filled into slices
pub mod Filling
-- the two tables and their slices, for those who read them
pub mod Slices
pub mod SetTable
pub mod ProfileTable
-- the answer of closing
pub mod Answering
-- what follows from the contract
pub mod Promises
