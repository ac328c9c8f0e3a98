mod DensityLemmas
mod NoFloat
mod ReasonLemmas
pub mod GapLemmas
