-- What a step does to the log of a descriptor of which somebody is sure, as the log is read off the words.
use Rattle.std.specs.Prelude.{◌⊎◌, true, false, Bool, if◌then◌else◌}
use Rattle.std.proofs.Common.{◌≡◌, ◌≢◌, ℕ, List, inl, inr, refl, sym, ap, ◌∙◌, subst, ⊎_elim, arith, Some}
use Rattle.machine_states.specs.map_history.specs.declared.op.Request.{Request}
use Rattle.machine_states.specs.epoch_core.specs.small_lemmas.proofs.Numbers.{equal_tested, other_tested}
use Rattle.machine_states.specs.body_terms.specs.Run.{written_once}
use Rattle.machine_states.specs.table_words.specs.declared.layout.Layout.{Layout}
use Rattle.machine_states.specs.table_words.specs.declared.spot.Spot.{Spot}
use Rattle.machine_states.specs.table_words.specs.declared.access.Access.{Access}
use Rattle.machine_states.specs.table_words.specs.declared.access.Access.TheVariants.{Exchanges}
use Rattle.machine_states.specs.table_words.specs.Limits.{IsWithinLimits}
use Rattle.machine_states.specs.structure_laws.specs.Meaning.{Meaning}
use Rattle.machine_states.specs.structure_laws.specs.Laws.{Laws}
use Rattle.machine_blocks.specs.block_words.specs.Blocks.{log_spot, log_in}
use Rattle.machine_states.specs.runner_parts.specs.declared.event.EventKind.{EventKind}
use Rattle.machine_states.specs.runner_parts.specs.State.{RunState}
use Rattle.machine_states.specs.runner_parts.specs.Tests.{has}
use Rattle.machine_states.specs.runner_steps.specs.Outside.{is_sure_of}
use Rattle.machine_states.specs.runner_steps.specs.Sections.{is_open_run, next_of, commits_to, is_beyond}
use Rattle.agreement_core.specs.State.{AgreementState}
use Rattle.agreement_core.specs.Schedules as agreement_schedules
use Rattle.agreement_core.specs.History as agreement_history
use Rattle.machine_states.specs.epoch_core.specs.History as epoch_history
use Rattle.machine_states.specs.World.{World}
use Rattle.machine_states.specs.Reached.{Reached}
use Rattle.machine_states.specs.Sight.{Sight, sight, Steps}
use Rattle.machine_states.proofs.Steps.{some_same}
use Rattle.machine_blocks.specs.machine_guards.specs.machine_agreement.specs.machine_scenes.specs.Shown.{rules_of}
use Rattle.machine_blocks.specs.machine_guards.specs.machine_agreement.specs.Chunks.{IsChunk}
use Rattle.machine_blocks.specs.machine_guards.proofs.Lists.{times_has}
use Rattle.machine_blocks.specs.machine_guards.proofs.Safe.{sure_kept}
use Rattle.machine_blocks.specs.Writes.{SectionsGo, carries_word}
use Rattle.machine_blocks.proofs.Holding.{log_read}
use Rattle.machine_blocks.proofs.Writes.{steps_write}
use Rattle.machine_invariant.specs.After.{AreAllowed}
use Rattle.machine_invariant.specs.Along.{AreEventsOf}
use Rattle.machine_invariant.specs.Whole.{Beside, IsWhole}
use Rattle.machine_invariant.proofs.States.{with_histories}
use Rattle.machine_invariant.proofs.Following.{StepsWhole}
use Rattle.machine_invariant.proofs.AllKinds.{step_whole}
use Rattle.machine_invariant.proofs.After.{reached_beside}

-- the stepping runner's run of this section stands before a commit to this place of its log, whose part it knows, and
-- agrees on the word there: the one that is there, or else its proposal
pub record Commits (m : Meaning) (s s' : Sight) (r : ℕ) (x : Spot × Access) (d k : ℕ) : Type 0 where
  pub run : RunState
  pub runs : (s.part r).run ≡ Some run
  pub open_run : is_open_run run ≡ true
  pub of_section : run.descriptor ≡ d
  pub commits : commits_to (next_of m run) ≡ Some k
  pub near : is_beyond run (Some k) ≡ false
  pub proposal : ℕ
  pub is : (log_spot run.descriptor run.links k, Exchanges 0 proposal) ≡ x
  pub now : log_in s'.word d k ≡ written_once (log_in s.word d k) proposal
  pub carried : carries_word (next_of m run) ≡ true → proposal ≡ run.word

-- an exchange of a word that is 0 leaves what it proposes, and of another one that word
pub won_word : (n proposal : ℕ) → n ≡ 0 → written_once n proposal ≡ proposal
won_word n proposal zero = ap (λ b. if b then proposal else n) (equal_tested n 0 zero)

pub kept_word : (n proposal : ℕ) → n ≢ 0 → written_once n proposal ≡ n
kept_word n proposal some = ap (λ b. if b then proposal else n) (other_tested n 0 some)

-- somebody is sure of this descriptor
abbrev pub IsSure : Sight → ℕ → Type 0
IsSure s d = (i : ℕ) × (is_sure_of (s.part i).guards d ≡ true)

module _ (m : Meaning) (laws : Laws m) (l : Layout) (limits : IsWithinLimits l) (rs : List Request) (allowed : AreAllowed rs) (g : Beside) (s s' : Sight) (whole : IsWhole m l g s)
    (of : g.publications.requests ≡ rs) (r : ℕ) (kind : EventKind) (step : Steps m l rs s s' r kind) where
  one : StepsWhole m l rs g s s' r kind
  one = step_whole m laws l limits rs allowed.in_order.few allowed.each g s s' r kind whole of step

  abbrev a' : AgreementState
  a' = agreement_schedules.after_all (rules_of m l) g.agreement one.es

  events : AreEventsOf m l rs (with_histories g agreement_history.no_history epoch_history.no_history) s r kind one.es one.vs
  events = one.events agreement_history.no_history epoch_history.no_history

  -- the step's events of agreement
  goes : SectionsGo m l g.agreement a' s r kind (s.word (step.ask.0))
  goes = record {
    heads = events.heads;
    in_sections = subst (λ (x : Spot × Access). IsChunk m l g.agreement r kind (s.part r) (s.part r).run (s.word x.0) events.heads)
        (some_same events.ask step.ask (sym events.asked ∙ step.asked)) events.in_sections;
    leads = record {
      passes = events.passes;
      enabled = subst (λ es. agreement_schedules.AllEnabled (rules_of m l) g.agreement es) events.all_heads events.enabled;
      there = ap (agreement_schedules.after_all (rules_of m l) g.agreement) (sym events.all_heads);
    };
  }

  module _ (d k : ℕ) (before : IsSure s d) (behind : IsSure s' d) where
    -- it isn't free
    unfree : has (s.part r).descriptors.free d ≡ false
    unfree = by (has (s.part r).descriptors.free d) refl
      where
        by : (b : Bool) → has (s.part r).descriptors.free d ≡ b → b ≡ false
        by false is = refl
        by true is = absurd (let none = sure_kept m l whole.logs.chain g.agreement g.epochs s whole.slots whole.logs.guards before.0 r d before.1 in
            let some = times_has (s.part r).descriptors.free d is in omega (arith, none, some))

    was : log_in s.word d k ≡ (g.agreement.section d).log k
    was = log_read m l whole.logs before.0 d before.1 k

    is_now : log_in s'.word d k ≡ (a'.section d).log k
    is_now = log_read m l one.whole.logs behind.0 d behind.1 k

    -- its log stays, or a run of its section commits
    pub log_goes : (log_in s'.word d k ≡ log_in s.word d k) ⊎ Commits m s s' r step.ask d k
    log_goes = ⊎_elim
        (λ same. inl (is_now ∙ (same ∙ sym was)))
        (λ new. inr (record {
          run = new.run;
          runs = new.runs;
          open_run = new.open_run;
          of_section = new.of_section;
          commits = new.commits;
          near = new.near;
          proposal = new.proposal;
          is = new.is;
          now = is_now ∙ (new.now ∙ ap (λ n. written_once n new.proposal) (sym was));
          carried = new.carried;
        }))
        (steps_write m l rs g.agreement a' s s' r kind whole.sections step goes d k unfree)

-- so it is with each step from a state that the machine reaches
pub reached_log_goes : (m : Meaning) → Laws m → (l : Layout) → IsWithinLimits l → (rs : List Request) → AreAllowed rs → (w v : World) (r : ℕ) (kind : EventKind)
    → Reached m l rs w → (step : Steps m l rs (sight m l rs w) (sight m l rs v) r kind) → (d k : ℕ)
    → IsSure (sight m l rs w) d → IsSure (sight m l rs v) d
    → (log_in (sight m l rs v).word d k ≡ log_in (sight m l rs w).word d k) ⊎ Commits m (sight m l rs w) (sight m l rs v) r step.ask d k
reached_log_goes m laws l limits rs allowed w v r kind reached step d k before behind =
    let all = reached_beside m laws l rs reached.events w limits allowed reached.after in
    log_goes m laws l limits rs allowed all.0 (sight m l rs w) (sight m l rs v) all.1 all.2 r kind step d k before behind
