pub mod WordTexts
pub mod ExpressionTexts
pub mod ConditionTexts
pub mod OrderTexts
pub mod PolicyTexts
pub mod Printed
pub mod Adds
