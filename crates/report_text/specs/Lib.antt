-- Definitions that the contracts of the crate `report_text` cite, written from S22 and the line protocol (docs/PROTOCOL.md).
pub mod Writing
pub mod Writer
pub mod Texts
pub mod Lists
pub mod Examples
