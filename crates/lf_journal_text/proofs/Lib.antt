pub mod Framing
pub mod Reading
pub mod RecordLists
pub mod Segments
pub mod Torn
