-- facts shown by computing
pub mod Computed
pub mod HandWorked
pub mod Courses
pub mod Edges
pub mod Files
pub mod Printed
-- the theorems, and below them what proves each
pub mod Theorems
pub mod Applied
-- tests, lists, bits, words and numbers
pub mod Booleans
pub mod Searching
pub mod Places
pub mod Members
pub mod Over
pub mod Packing
pub mod Order
pub mod Pigeonhole
pub mod Powers
-- 1. sets and profiles mean paths
pub mod Paths
pub mod Joins
pub mod Meaning
-- 2. idempotent power
pub mod Idempotent
-- 3. closing, and 6. one result only
pub mod Entering
pub mod Room
pub mod Listed
pub mod Making
pub mod Closing
pub mod Made
pub mod Unique
pub mod Rebuilt
pub mod Values
pub mod Tables
pub mod Complete
-- 4. the verdict
pub mod Rounds
pub mod Repeats
pub mod Verdicts
-- 5. the opposite
pub mod Lassos
pub mod Points
pub mod Blocks
pub mod Numbered
pub mod Opposites
pub mod Sorted
pub mod Counts
-- the answers, by the theorems
pub mod Unrefused
pub mod Answered
pub mod Read
-- 7. the file
pub mod Parts
pub mod Checks
pub mod Faultless
pub mod FileForm
pub mod FileBytes
pub mod FileBack
-- 8. what the program prints
pub mod Reports
