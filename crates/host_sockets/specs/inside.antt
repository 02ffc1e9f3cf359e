-- what the index of sockets keeps: it passes none by which a look at each socket would find
pub mod Ends
pub mod Given
pub mod Indexing
pub mod Lookup
pub mod Made
pub mod Told
pub mod Accepting
pub mod StandsFor
