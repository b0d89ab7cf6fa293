-- words rebuilt through predecessors
pub mod Rebuilding
-- the verdict on complete tables
pub mod Concluding
-- what follows from the contract
pub mod Promises
-- the verdict of a model
pub mod Verdicts
