mod OptionLemmas
mod RangeLemmas
mod KeptLemmas
mod StepLemmas
mod NumberForms
mod ProgramForms
mod FormLemmas
mod JudgeLemmas
pub mod ScanLemmas
mod AnswerLemmas
pub mod GiftLemmas
mod StartLemmas
mod ThreadLemmas
mod NumberLemmas
mod ConstLemmas
mod FitsLemmas
