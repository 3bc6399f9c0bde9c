pub mod Sealing
pub mod Serving
