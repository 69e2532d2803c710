-- What contracts cite, lowest first. Inside says how a segment and a ledger are kept.
pub mod Segments
pub mod Ledgers
pub mod Calls
pub mod Taken
pub mod Sites
pub mod LedgerErrors
pub mod Coding
pub mod Inside
