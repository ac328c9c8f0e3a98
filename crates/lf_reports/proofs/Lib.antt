pub mod OverlapLemmas
pub mod VerdictLists
pub mod ReportLemmas
pub mod CleanLemmas
pub mod ListedCells
pub mod LegalVerdicts
