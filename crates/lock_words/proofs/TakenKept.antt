-- What is known of the words of Takes, over one step of the machine.
use Rattle.std.specs.Prelude.{◌==◌, ◌-◌, true, false, slice_get}
use Rattle.std.proofs.Common.{◌≡◌, ℕ, suc, List, length, refl, sym, ap, ◌∙◌, subst, ⊎_elim, inl, inr, arith, Some}
use Rattle.std.proofs.lemmas.Bool.Decides.{nat_tests}
use Rattle.machine_states.specs.map_history.specs.declared.op.Request.{Request}
use Rattle.machine_states.specs.body_terms.specs.Line.{line, micro_at}
use Rattle.machine_states.specs.body_terms.specs.Word.{value_of}
use Rattle.machine_states.specs.body_terms.specs.declared.micro.Micro.{Micro}
use Rattle.machine_states.specs.table_words.specs.declared.layout.Layout.{Layout}
use Rattle.machine_states.specs.table_words.specs.declared.spot.Spot.TheVariants.{Cell}
use Rattle.machine_states.specs.table_words.specs.Limits.{IsWithinLimits}
use Rattle.machine_states.specs.structure_laws.specs.Meaning.{Meaning}
use Rattle.machine_states.specs.structure_laws.specs.Laws.{Laws}
use Rattle.machine_states.specs.runner_parts.specs.declared.event.Event.{Event}
use Rattle.machine_states.specs.runner_parts.specs.declared.event.EventKind.{EventKind}
use Rattle.machine_states.specs.runner_parts.specs.State.{FinishedState, PartState}
use Rattle.machine_states.specs.runner_steps.specs.Sections.{line_of, reply_in, thunk_of}
use Rattle.machine_states.specs.World.{World, happens}
use Rattle.machine_states.specs.Reached.{Reached}
use Rattle.machine_states.specs.Sight.{Sight, sight}
use Rattle.runner_facts.specs.machine_facts.specs.machine_invariant.specs.After.{AreAllowed}
use Rattle.runner_facts.specs.machine_facts.specs.machine_invariant.proofs.Trails.{run_used}
use Rattle.runner_facts.specs.machine_facts.specs.machine_agreement.proofs.RunPlaces.{code_here}
use Rattle.runner_facts.specs.machine_facts.specs.machine_invariant.proofs.Keeping.{IsStep}
use Rattle.runner_facts.specs.machine_facts.proofs.FinishedParts as finished_parts
use Rattle.runner_facts.specs.machine_facts.proofs.Watched.{carried_on}
use Rattle.lock_words.proofs.Kept as runs_over
use Rattle.lock_words.specs.Taken.{CommitsLock, IsAgreed, IsLoaded, IsTaken, HasLeftBy, WasHeld}
use Rattle.lock_words.proofs.Facts.{commits_lock}
use Rattle.lock_words.proofs.Sure.{run_sure, emptied, sure_before}
use Rattle.runner_facts.specs.machine_facts.specs.machine_invariant.proofs.LogSteps.{IsSure}
use Rattle.lock_words.proofs.Loading.{Was, loaded_before}
use Rattle.lock_words.proofs.Agreeing.{agreed_before}
use Rattle.lock_words.proofs.TakenLeaving.{left_agreed}

-- what is known of these words, in a state
pub record AllHeld (m : Meaning) (l : Layout) (rs : List Request) (w : World) : Type 0 where
  -- of a section of whose descriptor somebody is sure, those that it has agreed on for a Take, or that a run of it has loaded
  pub taken : (d place word named : ℕ) → IsSure (sight m l rs w) d
      → IsTaken m (sight m l rs w) d place word → value_of word ≡ suc named → WasHeld m l rs w place word named
  -- those by which a section left
  pub met : (i place word : ℕ) → HasLeftBy ((sight m l rs w).part i) place word
      → (named : ℕ) × (value_of word ≡ suc named) × WasHeld m l rs w place word named

module _ (m : Meaning) (laws : Laws m) (l : Layout) (limits : IsWithinLimits l) (rs : List Request) (allowed : AreAllowed rs) (w v : World) (e : Event)
    (reached : Reached m l rs w) (goes : happens m l rs w e ≡ Some v) (st : IsStep m l rs (sight m l rs w) (sight m l rs v) e.runner e.kind)
    (old : AllHeld m l rs w) where
  abbrev s : Sight
  s = sight m l rs w

  abbrev s' : Sight
  s' = sight m l rs v

  abbrev r : ℕ
  r = e.runner

  abbrev kind : EventKind
  kind = e.kind

  abbrev p : PartState
  p = s.part r

  -- what was known of a word is known behind the step
  on : (place word named : ℕ) → value_of word ≡ suc named → WasHeld m l rs w place word named → WasHeld m l rs v place word named
  on place word named names was = record {
    lock = was.lock;
    few = was.few;
    stands = carried_on m laws l limits rs allowed w v e reached goes place word named was.lock names was.stands;
  }

  -- a section of whose descriptor somebody is sure before the step
  module _ (d : ℕ) (sure : IsSure s d) where
    goes_on : (place word named : ℕ) → IsTaken m s d place word → value_of word ≡ suc named → WasHeld m l rs v place word named
    goes_on place word named taken names = on place word named names (old.taken d place word named sure taken names)

  -- a word that is loaded behind the step
  by_load : (d place word named : ℕ) → IsLoaded m s' d place word → value_of word ≡ suc named → WasHeld m l rs v place word named
  by_load d place word named load names = ⊎_elim before (λ loaded. found loaded.0) was.by
    where
      was : Was m l rs s s' r kind st load.runner load.run place
      was = loaded_before m l rs s s' r kind st load.runner load.run place load.log load.runs load.opened load.commits

      own : was.run.descriptor ≡ d
      own = was.descriptor ∙ load.of_section

      used : st.beside.agreement.used d ≡ true
      used = ap st.beside.agreement.used (sym own) ∙ run_used m l st.beside.agreement s st.whole.sections load.runner was.run was.runs

      full : length was.run.opened ≡ 13
      full = ap length was.opened ∙ load.opened

      line_same : (i : ℕ) → micro_at (line_of m load.run) i ≡ micro_at (line_of m was.run) i
      line_same i = ap (λ words. micro_at (line (m.body (thunk_of words))) i) (sym was.opened)

      before : (was.run.at ≡ load.run.at) × (was.run.word ≡ load.run.word) → WasHeld m l rs v place word named
      before same = goes_on d (run_sure m l st.beside s st.whole load.runner d was.run was.runs own) place word named
          (inr (record {
            runner = load.runner;
            run = was.run;
            runs = was.runs;
            of_section = own;
            opened = full;
            log = load.log;
            commits = subst (λ (micro : Micro). CommitsLock micro place load.log)
                (line_same load.run.at ∙ ap (micro_at (line_of m was.run)) (sym same.0)) load.commits;
            loaded = same.1 ∙ load.loaded;
          }))
          names

      code : (i : ℕ) → (st.beside.agreement.section d).code i ≡ micro_at (line_of m was.run) i
      code i = ap (λ n. (st.beside.agreement.section n).code i) (sym own)
          ∙ code_here m l st.beside.agreement s st.whole.sections load.runner was.run was.runs full i

      locks : m.is_lock place ≡ true
      locks = commits_lock m l st.beside s st.whole d used load.run.at place load.log
          (subst (λ (micro : Micro). CommitsLock micro place load.log) (line_same load.run.at ∙ sym (code load.run.at)) load.commits)

      -- the step found it in the lock: it names a section that is live
      found : load.run.word ≡ s.word (Cell place) → WasHeld m l rs v place word named
      found same =
          let is : s.word (Cell place) ≡ word = sym same ∙ load.loaded in
          let live = st.whole.sections.sound.named place named locks (ap value_of (st.whole.sections.words.cells place ∙ is) ∙ names) in
          on place word named names (record {
            lock = locks;
            few = st.whole.tied.within named (st.whole.sections.sound.live_used named live);
            stands = inl is;
          })

  none_named : (word named : ℕ) → word ≡ 0 → value_of word ≡ suc named → ⊥
  none_named word named zero names = let none : value_of 0 ≡ suc named = subst (λ w. value_of w ≡ suc named) zero names in absurd (omega arith)

  -- a word that is agreed behind the step
  by_log : (d place word named : ℕ) → IsSure s' d → IsAgreed m s' d place word
      → value_of word ≡ suc named → WasHeld m l rs v place word named
  by_log d place word named behind agreed names = ⊎_elim
      (λ before. goes_on d before place word named (agreed_before m laws l limits rs allowed s s' r kind st d before behind place word agreed) names)
      (λ holds. absurd (none_named word named (sym agreed.agreed ∙ emptied m l rs s s' r kind st d holds agreed.log) names))
      (sure_before m l rs s s' r kind st d behind)

  taken_after : (d place word named : ℕ) → IsSure s' d → IsTaken m s' d place word
      → value_of word ≡ suc named → WasHeld m l rs v place word named
  taken_after d place word named behind (inl agreed) names = by_log d place word named behind agreed names
  taken_after d place word named behind (inr load) names = by_load d place word named load names

  -- a held word names a descriptor
  named_value : (n : ℕ) → (n == 0) ≡ false → n ≡ suc (n - 1)
  named_value n e = grind (arith, nat_tests)

  -- what a runner keeps behind the step
  met_after : (i place word : ℕ) → HasLeftBy (s'.part i) place word → (named : ℕ) × (value_of word ≡ suc named) × WasHeld m l rs v place word named
  met_after i place word h = ⊎_elim before now (finished_parts.entry m l rs s s' r kind st.step i h.at h.finished h.kept)
    where
      before : slice_get (s.part i).records.finished h.at ≡ Some h.finished
          → (named : ℕ) × (value_of word ≡ suc named) × WasHeld m l rs v place word named
      before kept =
          let was = old.met i place word (record { at = h.at; finished = h.finished; kept = kept; left = h.left }) in
          (was.0, was.1, on place word was.0 was.1 was.2)

      now : finished_parts.IsNew m l rs s s' r kind st.step i h.finished
          → (named : ℕ) × (value_of word ≡ suc named) × WasHeld m l rs v place word named
      now new =
          let q = new.run in
          let sure = run_sure m l st.beside s st.whole r q.descriptor q new.runs refl in
          let full = runs_over.open_length q new.open_run in
          let left = left_agreed m l st.beside s st.whole r q new.runs full (reply_in (m.body (thunk_of q.opened))) place word
          (ap (λ (f : FinishedState). f.outcome) new.is ∙ h.left) in
          let names = named_value (value_of word) left.1 in
          (value_of word - 1, names, goes_on q.descriptor sure place word (value_of word - 1) (inl left.0) names)

  pub all_held : AllHeld m l rs v
  all_held = record { taken = taken_after; met = met_after }
