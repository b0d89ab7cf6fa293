-- What the contract of the verdict cites beside the definitions of document 01: how code's numbers and slices stand for them.
pub mod WordMemory
pub mod Pairs
pub mod Tables
-- the contract of the public call
pub mod Verdicts
