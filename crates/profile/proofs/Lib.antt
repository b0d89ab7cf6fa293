-- what an event is and does
pub mod Lent
-- what follows from the contracts
pub mod Promises
