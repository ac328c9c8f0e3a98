pub mod HubLines
pub mod OperatorLines
