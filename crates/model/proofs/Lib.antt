-- what follows from the contracts
pub mod Promises
-- the numbers of refusals
pub mod Numbers
-- bits for states n or above
pub mod Beyond
-- the fields of a file
pub mod FieldsRead
-- the events of a file, and the whole of it
pub mod EventsRead
pub mod FileRead
