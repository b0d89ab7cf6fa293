-- the contract of the public call
pub mod Courses
