-- texts put one behind the other
pub mod Pieces
-- decimal digits and letters one by one
pub mod Digits
-- the lines of a file, by the contracts of reading and of the verdict
pub mod Reporting
