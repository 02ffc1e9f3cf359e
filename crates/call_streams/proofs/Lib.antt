pub mod PlainRows
pub mod Rows
pub mod Datagrams
pub mod NetworkRows
pub mod Table
