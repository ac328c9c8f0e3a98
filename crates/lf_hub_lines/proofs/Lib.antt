pub mod OwnWords
