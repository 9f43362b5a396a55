pub mod OfficeTexts
pub mod GoodSignatures
