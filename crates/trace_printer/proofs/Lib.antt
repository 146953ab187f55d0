pub mod AddsLemmas
pub mod SplitLemmas
pub mod WordLemmas
pub mod NumberLemmas
pub mod SpelledLines
pub mod FrontLemmas
pub mod ReadAgain
