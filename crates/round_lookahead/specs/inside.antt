-- what stands while a round goes on, and as its hosts and packets are put back
pub mod Alone
pub mod Backs
pub mod Benches
pub mod Idles
pub mod Retasks
pub mod Rounds
pub mod RoundsInPlace
pub mod Settles
pub mod Shares
pub mod Waits
pub mod Gains
pub mod OpeningWorld
pub mod Works
