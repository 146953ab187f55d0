pub mod AgainLemmas
