-- Definitions that the contracts of the crate `lines` cite, written from the line protocol of the program `truing`.
pub mod Lines
pub mod Reading
