pub mod Loading
pub mod LoadAnswer
