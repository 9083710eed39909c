-- Definitions that the contracts of the crate `numerals` cite, written from the line protocol of the program `truing`.
pub mod Numbers
pub mod Counts
