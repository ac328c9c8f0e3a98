pub mod Densities
pub mod RepairReports
pub mod ImproveReports
pub mod WireReports
