-- how far the walk over addresses may still go
pub mod Room
