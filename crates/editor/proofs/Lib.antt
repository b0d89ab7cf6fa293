-- what follows from the contracts
pub mod Promises
