pub mod Putting
pub mod Taking
pub mod PutterLaws
pub mod TakerLaws
