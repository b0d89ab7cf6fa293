-- the tables in their slices, entry by entry
pub mod Rows
-- where a value stands in its table
pub mod Looking
-- what is listed for the events, from one of them on
pub mod Events
-- arrows written one behind the other to three slices, and by the writer
pub mod Writing
pub mod Lines
-- from a set into the blocks, and from the sets on each event
pub mod Entering
pub mod Leaving
-- in a block on each event
pub mod Leading
-- counts added up, profile by profile, and the sizes of the opposite
pub mod Adding
pub mod Sizes
-- numbers written one behind the other to one slice: the flags, and which profiles have a block
pub mod Flagging
-- what is written by running numbers is what document 01 lists
pub mod Paper
-- the opposite drawn as a whole
pub mod Whole
-- the answer of the public call
pub mod Concluding
-- what follows from the contract
pub mod Promises
