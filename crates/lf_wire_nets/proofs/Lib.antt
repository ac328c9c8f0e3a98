pub mod CellLemmas
pub mod FirstLemmas
pub mod NetLemmas
pub mod RangeLemmas
