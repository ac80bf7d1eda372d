-- What comes of the counts of a run.
use Rattle.std.proofs.Common.{◌≡◌, ◌≢◌, ℕ, Bool, true, false, List, Some, codes, length, refl, sym, ap, ◌∙◌, ⊎_elim, inl, inr, subst, arith}
use Rattle.machine_states.specs.table_words.specs.Limits.{IsWithinLimits}
use Rattle.load_counts.specs.run_reports.specs.report_text.specs.Sink.{Extends, ExtendsInPart}
use Rattle.load_counts.specs.Counts.{counts_text}
use Rattle.load_counts.specs.run_reports.specs.Reports.{unserved_in}
use Rattle.version_words.specs.machine_invariant.specs.After.{AreAllowed}
use Rattle.threaded_runs.specs.Runs.{AreServed}
use Rattle.flock_tool.specs.Finish.{finish_by, finish_status, is_whole, TellsFinish}
use Rattle.flock_tool.specs.Loads.{EndsLoad, IsCounted, IsPlanText}
use Rattle.flock_tool.specs.Runs.{words_in, answers_in, meaning_of, IsRunStatus}
use Rattle.flock_tool.specs.Streams.{Fails, IsUntouched, Stream, Told}
use Rattle.flock_tool.specs.declared.finish.Finish.{Finish}
use Rattle.flock_tool.specs.declared.finish.Finish.TheVariants.{Whole, Halted, Slots, WornSlots, Versions}
use Rattle.flock_tool.specs.declared.load.Counted.{Counted}
use Rattle.flock_tool.specs.declared.ran.Ran.{Ran}
use Rattle.flock_tool.proofs.Enough.{completes, ends_otherwise}
use Rattle.flock_tool.proofs.Finishing.{finish_run, one_halted, zero_all}
use Rattle.flock_tool.proofs.Others.{spares_others, spares_at_nine}
use Rattle.flock_tool.proofs.Whole.{all_served}

whole_is : (finish : Finish) → is_whole finish ≡ true → finish ≡ Whole
whole_is Whole is = refl
whole_is (Halted unserved) is = absurd (cc)
whole_is (Slots runner short) is = absurd (cc)
whole_is (WornSlots runner short) is = absurd (cc)
whole_is (Versions place word) is = absurd (cc)

other_is : (finish : Finish) → is_whole finish ≡ false → finish_status finish ≢ 0
other_is Whole is zero = absurd (cc)
other_is (Halted unserved) is zero = absurd (omega (arith, zero))
other_is (Slots runner short) is zero = absurd (omega (arith, zero))
other_is (WornSlots runner short) is zero = absurd (omega (arith, zero))
other_is (Versions place word) is zero = absurd (omega (arith, zero))

module _ {reads : Bool} (ran : Ran) (requests : ℕ) (count : Counted) (finish : Finish) (finish_is : finish ≡ finish_by (answers_in ran) count.tally.unserved)
    (counted : IsCounted (meaning_of ran) (words_in ran) count) (long : requests ≡ length (words_in ran).requests)
    (limits : IsWithinLimits (words_in ran).layout) (allowed : AreAllowed (words_in ran).requests)
    (waits : Bool) (served : AreServed (meaning_of ran) (words_in ran) waits reads (answers_in ran)) where
  abbrev text : List ℕ
  text = counts_text requests count.tally.counts count.size

  abbrev left : ℕ
  left = unserved_in counted.tally.entries

  text_is : left ≡ 0 → IsPlanText ran text
  text_is none plan own same order =
      ap (λ n. counts_text n count.tally.counts count.size) long
      ∙ counted.alone plan count.size own same order (counted.tally.unserved_are ∙ none) counted.size

  finish_same : finish ≡ finish_by (answers_in ran) left
  finish_same = finish_is ∙ ap (finish_by (answers_in ran)) counted.tally.unserved_are

  none_left : is_whole finish ≡ true → left ≡ 0
  none_left whole =
      ⊎_elim (λ zero. zero)
      (λ all. all_served (meaning_of ran) (words_in ran) allowed waits (answers_in ran) served limits.some_runners all counted.tally.entries counted.tally.shown)
      (zero_all (answers_in ran) left (ap finish_status (sym finish_same) ∙ ap finish_status (whole_is finish whole)))

  -- something kept a request from its answer: nothing is printed
  pub loaded_other : (number : ℕ) (sink faults : Stream) → is_whole finish ≡ false → number ≡ finish_status finish → IsUntouched sink
      → TellsFinish finish faults → EndsLoad ran waits (number, Some ran) sink faults
  loaded_other number sink faults other is untouched tells =
      let run = finish_run finish in
      let not_nine : number ≢ 9 = λ nine. run.1 (sym is ∙ nine) in
      let not_zero : number ≢ 0 = λ zero. other_is finish other (sym is ∙ zero) in
      record {
        status = subst IsRunStatus (sym is) run.0;
        back = refl;
        counted = record {
          entries = counted.tally.entries;
          shown = counted.tally.shown;
          text = text;
          text_is = text_is;
          all = λ printed. ⊎_elim (λ zero. absurd (not_zero zero)) (λ nine. absurd (not_nine nine)) printed;
          whole = λ zero. absurd (not_zero zero);
          in_part = λ nine. absurd (not_nine nine);
          silent = λ _ _. untouched.same;
          steady = λ _. untouched.steady;
          status = λ _. is ∙ ap finish_status finish_same;
          line = λ _. subst (λ (f : Finish). TellsFinish f faults) finish_same tells;
          enough = completes (meaning_of ran) (words_in ran) waits (answers_in ran) served left limits.some_sections number (is ∙ ap finish_status finish_same);
          others = spares_others (meaning_of ran) (words_in ran) allowed waits (answers_in ran) served limits.some_runners left number (is ∙ ap finish_status finish_same);
          failed = λ nine. absurd (not_nine nine);
          halted = λ one. one_halted (answers_in ran) left (ap finish_status (sym finish_same) ∙ sym is ∙ one);
        };
      }

  -- the counts were printed whole
  pub loaded_whole : (sink faults : Stream) → is_whole finish ≡ true → Extends sink.before text sink.after → sink.faults_after ≡ sink.faults_before
      → IsUntouched faults → EndsLoad ran waits (0, Some ran) sink faults
  loaded_whole sink faults whole printed steady untouched = record {
    status = inl refl;
    back = refl;
    counted = record {
      entries = counted.tally.entries;
      shown = counted.tally.shown;
      text = text;
      text_is = text_is;
      all = λ _. none_left whole;
      whole = λ _. printed;
      in_part = λ nine. absurd (omega (arith, nine));
      silent = λ not _. absurd (not refl);
      steady = λ _. steady;
      status = λ _. sym (ap finish_status (sym finish_same) ∙ ap finish_status (whole_is finish whole));
      line = λ _. subst (λ (f : Finish). TellsFinish f faults) (sym (whole_is finish whole) ∙ finish_same) (untouched.same, untouched.steady);
      enough = ends_otherwise (meaning_of ran) (words_in ran) waits 0 (λ five. omega (arith, five)) (λ six. omega (arith, six));
      others = spares_others (meaning_of ran) (words_in ran) allowed waits (answers_in ran) served limits.some_runners left 0
          (sym (ap finish_status (sym finish_same) ∙ ap finish_status (whole_is finish whole)));
      failed = λ nine. absurd (omega (arith, nine));
      halted = λ one. absurd (omega (arith, one));
    };
  }

  -- the sink failed, and holds a part of them
  pub loaded_part : (number : ℕ) (sink faults : Stream) → number ≡ 9 → is_whole finish ≡ true → ExtendsInPart sink.before text sink.after → Fails sink
      → Told (codes "flock: write fault\n") faults → EndsLoad ran waits (number, Some ran) sink faults
  loaded_part number sink faults nine whole part rose tells = record {
    status = inr (inr (inr (inr nine)));
    back = refl;
    counted = record {
      entries = counted.tally.entries;
      shown = counted.tally.shown;
      text = text;
      text_is = text_is;
      all = λ _. none_left whole;
      whole = λ zero. absurd (omega (arith, zero, nine));
      in_part = λ _. (part, rose);
      silent = λ _ not. absurd (not nine);
      steady = λ not. absurd (not nine);
      status = λ not. absurd (not nine);
      line = λ not. absurd (not nine);
      enough = ends_otherwise (meaning_of ran) (words_in ran) waits number (λ five. omega (arith, five, nine)) (λ six. omega (arith, six, nine));
      others = spares_at_nine (meaning_of ran) (words_in ran) allowed waits (answers_in ran) served limits.some_runners number nine;
      failed = λ _. tells;
      halted = λ one. absurd (omega (arith, one, nine));
    };
  }
