pub mod OneGrammarFault
pub mod OneFault
pub mod Answered
pub mod EachAnswered
pub mod Resolved
