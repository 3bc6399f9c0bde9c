-- The definitions to be trusted: the digest of bytes, and the number of lines that an outlet took.
pub mod Digests
pub mod Counts
