pub mod Exits
pub mod Offers
pub mod Program
pub mod Requests
