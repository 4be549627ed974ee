pub mod Ends
pub mod Signers
