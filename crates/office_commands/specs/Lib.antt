pub mod NamedBytes
pub mod OfficeFile
pub mod Endorse
pub mod Endorsed
pub mod Office
pub mod inside
