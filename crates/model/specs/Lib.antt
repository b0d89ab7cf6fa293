-- What the contracts of the model's calls cite beside the definitions of document 01.
pub mod Asked
-- the number of each refusal
pub mod Numbers
-- a checked model
pub mod Lent
-- the contract of the reader, and what it asks of one field
pub mod Reader
pub mod Fields
