-- what is shown is read again
pub mod ReadSteps
pub mod GeneralReads
pub mod ProcessReads
pub mod HostReads
pub mod ReadBack
