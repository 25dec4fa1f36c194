-- What a lent plane says of an open, and what an accepted row call may rely on.
pub mod LentBytes
pub mod Rowed
