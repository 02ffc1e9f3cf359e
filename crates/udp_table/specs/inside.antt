-- what the index of UDP sockets keeps: which places are free, and which places and how many each end and port has
pub mod Indexing
