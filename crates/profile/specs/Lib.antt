-- What the contracts of one profile's calls cite beside the definitions of document 01.
pub mod Tests
pub mod Values
