-- Definitions that the contracts of the crate `page_text` cite, written from L1, the page for the counter.
pub mod Columns
pub mod Page
pub mod Pieces
