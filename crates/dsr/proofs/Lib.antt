pub mod Answering
pub mod Digests
pub mod Seals
pub mod Serving
