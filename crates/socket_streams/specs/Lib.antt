pub mod Records
pub mod Inside
pub mod Leads
pub mod May
pub mod Home
