-- Lines that wait in a page before a sink.
use Rattle.std.specs.Prelude.{◌≡◌, ℕ, ◌-◌, List, ◌++◌, Option, map}
use Rattle.std.specs.List.{flat_map, range_with_len}
use Rattle.report_text.specs.Report.{line_text}
use Rattle.report_text.specs.Report.Line.{trace_line}
use Rattle.report_text.specs.Sink.{Extends}

-- bytes were added behind the page, and some were sent: what was sent and what waits now are what waited
-- before and those bytes
pub record Gathers (before : Option (List ℕ)) (page bytes : List ℕ) (after : Option (List ℕ))
    (page_after : List ℕ) : Type 0 where
  pub sent : List ℕ
  pub added : Extends before sent after
  pub whole : sent ++ page_after ≡ page ++ bytes

-- the lines that begin the traces from one up to another
abbrev pub traces_text : ℕ → ℕ → List ℕ
traces_text begun end = flat_map line_text (map trace_line (range_with_len begun (end - begun)))
