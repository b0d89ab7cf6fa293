-- What the contract of the opposite and those below it cite beside the definitions of document 01.
pub mod Tables
pub mod Memory
pub mod Lent
pub mod Drawing
pub mod Lines
-- the contract of the public call
pub mod Opposites
