pub mod PieceLemmas
pub mod PutsLemmas
pub mod WrittenLemmas
