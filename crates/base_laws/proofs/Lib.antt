pub mod NextExpiry
