-- a round of a run, for a test
pub mod Played
