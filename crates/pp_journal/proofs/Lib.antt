pub mod Growing
mod SameEvents
