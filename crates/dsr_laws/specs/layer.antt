-- What the laws say of the statement of a run.
pub mod Again
