pub mod OrderlyLaws
