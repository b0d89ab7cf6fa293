-- what the contracts of the program cite beside document 01's lines
pub mod Putting
