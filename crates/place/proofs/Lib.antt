-- What the proofs of several functions use.
mod SearchLaws
mod StepLaws
pub mod PlanLaws
