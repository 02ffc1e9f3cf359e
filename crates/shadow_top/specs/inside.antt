-- what single steps of the top call leave
pub mod Ending
pub mod Outcome
pub mod Rounds
pub mod Steps
pub mod Stop
