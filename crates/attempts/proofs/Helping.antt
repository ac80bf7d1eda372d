-- A worker learns of its own requests by its own sections alone.
use Rattle.std.specs.Prelude.{true}
use Rattle.std.proofs.Common.{◌≡◌, ℕ, suc, ◌%◌, List, [], ◌∷◌, ◌++◌, refl, sym, ap, ◌∙◌, ⊎_elim, None}
use Rattle.std.proofs.lemmas.Bool.{cases_eq}
use Rattle.machine_states.specs.map_history.specs.declared.op.Request.{Request}
use Rattle.machine_states.specs.body_terms.specs.declared.thunk.Thunk.{Thunk}
use Rattle.machine_states.specs.table_words.specs.Limits.{IsWithinLimits}
use Rattle.machine_states.specs.structure_laws.specs.Meaning.{Meaning}
use Rattle.machine_states.specs.structure_laws.specs.Laws.{Laws}
use Rattle.machine_states.specs.runner_parts.specs.declared.entries.Known.{Known}
use Rattle.machine_states.specs.runner_parts.specs.State.{PartState}
use Rattle.machine_states.specs.runner_parts.specs.Tests.{is_answered}
use Rattle.machine_states.specs.Sight.{sight, part_or_first}
use Rattle.machine_facts.specs.machine_invariant.specs.After.{AreAllowed}
use Rattle.request_facts.specs.reached_histories.specs.Requests.{or_none, requests_of}
use Rattle.request_facts.specs.reached_histories.specs.Kept.{link_of}
use Rattle.version_words.specs.RunnerState.{RunnerState}
use Rattle.attempts.specs.Learned.{StoodAtStamp, HasLearned}
use Rattle.request_facts.specs.Laws.{CallersStand}
use Rattle.request_facts.proofs.Standing.{callers_stand}
use Rattle.caller_facts.specs.Knowing.{IsOwn}
use Rattle.attempts.specs.Rests.{LearnsNoOwn}
use Rattle.caller_facts.proofs.Knowing.{append_none, answered_of_other, answered_on}

module _ {T : Type 0} (m : Meaning) (laws : Laws m) (old new : RunnerState T) (limits : IsWithinLimits old.layout) (allowed : AreAllowed old.requests)
    (d : ℕ) (t : Thunk) (learned : HasLearned m d t old new) (idle : old.part.published ≡ None) where
  -- an own request whose words were learned was known before
  known_before : (q : Request) → IsOwn old q → t.request ≡ q.number → StoodAtStamp m d t old → is_answered old.part.records.known q.number ≡ true
  known_before q own same stood =
      ap (λ xs. is_answered xs q.number) (sym stood.known)
      ∙ (ap (λ (p : PartState). is_answered p.records.known q.number) (sym here) ∙ stand.own old.number q.number stood.run of_worker (record {
        runs = ap (λ (p : PartState). p.run) here ∙ stood.runs;
        opened = stood.opened;
        next = stood.next;
        request = ap (λ (x : Thunk). x.request) stood.thunk ∙ same;
        foreign = λ e. none_some (sym (ap (λ (p : PartState). link_of p.published) here ∙ (ap link_of (stood.published ∙ idle))) ∙ e);
      }))
    where
      stand : CallersStand m old.layout old.requests (sight m old.layout old.requests stood.world)
      stand = callers_stand m laws old.layout old.requests limits allowed stood.world stood.reached

      here : (sight m old.layout old.requests stood.world).part old.number ≡ stood.part
      here = ap part_or_first stood.own

      of_worker : (requests_of m old.layout old.requests).worker q.number ≡ old.number
      of_worker = ap (λ o. (or_none o).trace % old.layout.runners) own.there ∙ own.own

      none_some : 0 ≡ suc stood.run.descriptor → ⊥
      none_some e = let z = e in cc

  pub learns_no_own : LearnsNoOwn m old new
  learns_no_own q own = by learned.learns.more refl
    where
      adds : new.part.records.known ≡ old.part.records.known ++ learned.learns.more
      adds = learned.learns.adds

      by : (more : List Known) → learned.learns.more ≡ more → is_answered new.part.records.known q.number ≡ is_answered old.part.records.known q.number
      by [] none = ap (λ xs. is_answered xs q.number) (adds ∙ (ap (λ ys. old.part.records.known ++ ys) none ∙ append_none old.part.records.known))
      by (x ∷ more) is = ⊎_elim
          (λ same. let known = known_before q own same (learned.stood (λ none. some_none (sym is ∙ none))) in
          ap (λ xs. is_answered xs q.number) adds ∙ (answered_on old.part.records.known learned.learns.more q.number known ∙ sym known))
          (λ ne. ap (λ xs. is_answered xs q.number) adds
          ∙ answered_of_other old.part.records.known learned.learns.more q.number t.request learned.learns.only ne)
          (cases_eq t.request q.number)
        where
          some_none : x ∷ more ≡ [] → ⊥
          some_none e = let z = e in cc
