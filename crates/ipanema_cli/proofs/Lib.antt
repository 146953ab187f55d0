pub mod BenchTruths
pub mod BoundTruths
pub mod RestTruths
pub mod CodeLemmas
pub mod CommandLaw
pub mod Crowding
pub mod Laws
pub mod Stopped
pub mod CauseLemmas
pub mod CheckTruths
pub mod DraftTruths
mod Concluding
pub mod ExplainTruths
pub mod ExportTruths
pub mod Failing
mod GatedAnswers
pub mod LoadLemmas
pub mod LongLemmas
pub mod Judgements
pub mod JudgeTruths
pub mod MakeTruths
pub mod PlayTruths
pub mod RunTruths
pub mod SerialWords
pub mod TraceTruths
pub mod PolicyFacts
pub mod SimulationTruths
pub mod TruthLemmas
mod Unplayed
pub mod VerifyTruths
pub mod WaitTruths
pub mod WritesLemmas
