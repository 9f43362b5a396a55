pub mod DigestText
pub mod Numbers
pub mod SpanLists
pub mod TokenLemmas
pub mod NextTokens
pub mod TextLines
