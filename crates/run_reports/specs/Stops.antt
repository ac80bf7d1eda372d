-- How the printing of a report ends early.
use Rattle.std.specs.Prelude.{◌≡◌, ℕ, List, Option}
use Rattle.report_text.specs.fault_count.specs.Rose.{Rose}
use Rattle.structure_laws.specs.Meaning.{Meaning}
use Rattle.closed_words.specs.version_words.specs.TableState.{WordsState}
use Rattle.run_reports.specs.Reports.{PrintsInPart}
use Rattle.run_reports.specs.declared.printing.PrintError.{PrintError}
use Rattle.run_reports.specs.declared.printing.PrintError.TheVariants.{Memory, Failed}

-- for want of memory with nothing printed, or by the sink, whose count of faults rose, with a part
abbrev pub StopsPrinting : {T : Type 0} → Meaning → WordsState T → ℕ → PrintError
    → (before after : Option (List ℕ)) → (faults faults' : ℕ) → Type 0
StopsPrinting m w traces Memory before after faults faults' = (after ≡ before) × (faults' ≡ faults)
StopsPrinting m w traces Failed before after faults faults' = PrintsInPart m w traces before after × Rose faults faults'
