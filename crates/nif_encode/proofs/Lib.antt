pub mod NumberLaws
pub mod PutLaws
