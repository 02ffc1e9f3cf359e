mod Places
mod Found
mod Counted
mod Takers
mod Changed
mod Meeting
