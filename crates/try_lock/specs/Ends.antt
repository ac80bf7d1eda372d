-- How a run of a section ended.
pub use Rattle.section_runs.specs.Ended.{NodesRan, IsDone, EndsSo, RanShort, IsCutShort}
