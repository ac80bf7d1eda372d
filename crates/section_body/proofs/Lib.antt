pub mod ActLemmas
pub mod FillLemmas
pub mod FitLemmas
pub mod PlainLemmas
