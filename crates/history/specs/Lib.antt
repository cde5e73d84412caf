pub mod Calls
pub mod Book
pub mod Histories
pub mod Replays
pub mod Expenses
