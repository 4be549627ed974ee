pub mod Numbers
pub mod HexWords
pub mod Texts
pub mod Lacking
pub mod LineForms
pub mod FieldLaws
