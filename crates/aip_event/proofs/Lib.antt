pub mod FieldLaws
pub mod InputLaws
pub mod EventLaws
