pub mod Fair
pub mod Forms
