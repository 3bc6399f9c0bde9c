-- To be trusted: nothing. A text is its bytes and a list its items, as in std.
pub mod inner
