-- The laws of the subrate messages, in the order to read them.
pub mod AllowedLaws
pub mod MessageLaws
pub mod ReadLaws
pub mod WriteLaws
pub mod MessageRules
pub mod SeenLaws
