-- the first refusal of a course
pub mod Refused
-- its words read, and judged
pub mod Judging
-- what a refused course is told as
pub mod Judged
-- what follows from the contract
pub mod Promises
