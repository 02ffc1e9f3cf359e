pub mod Answers
pub mod Deals
pub mod Gathers
pub mod OneDeque
pub mod SeatViews
pub mod Seats
pub mod WholeDeals
pub mod inside
