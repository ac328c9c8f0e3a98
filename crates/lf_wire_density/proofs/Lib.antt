pub mod PointLists
