pub mod PinPoints
