pub mod FilledSets
pub mod FirstSteps
pub mod StackLaws
