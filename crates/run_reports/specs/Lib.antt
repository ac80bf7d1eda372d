pub mod Shown
pub mod Reports
pub mod Stops
-- Passed on to the layers above, so that they needn't name these libraries themselves.
pub use Rattle.closed_words
pub use Rattle.history_orders
pub use Rattle.report_text
pub use Rattle.closed_words.specs.version_words
