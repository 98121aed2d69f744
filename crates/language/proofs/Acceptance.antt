-- A text is accepted exactly when it writes an admitted sheet, and as that sheet.
pub mod Acceptance
pub mod Admits
pub mod BodyRuns
pub mod BodySteps
pub mod Completeness
pub mod DeclRuns
pub mod DeclSteps
pub mod ExprSteps
pub mod Names
pub mod Runs
pub mod Soundness
pub mod Unplaced
pub mod Words
pub mod Zipper
