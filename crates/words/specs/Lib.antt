-- The words of the line protocol, and the rule of their table, which the crates that read and write them cite.
pub mod Words
pub mod Rule
pub mod Low
