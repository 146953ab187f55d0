mod RangeFacts
mod SpellingFacts
pub mod MadeLemmas
