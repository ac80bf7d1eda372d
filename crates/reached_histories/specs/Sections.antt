-- Sections and their requests, in the words of the machine.
use Rattle.std.specs.Prelude.{◌≡◌, ℕ, ◌<◌, true, Some, take}
use Rattle.machine_states.specs.body_terms.specs.declared.micro.Micro.TheVariants.{StampExchange}
use Rattle.machine_states.specs.structure_laws.specs.Meaning.{Meaning}
use Rattle.machine_states.specs.runner_parts.specs.declared.entries.Look.{Look}
use Rattle.machine_states.specs.runner_parts.specs.declared.entries.Published.{Published}
use Rattle.machine_states.specs.runner_parts.specs.Tests.{is_answered, is_replied}
use Rattle.still_reads.specs.agreement_core.specs.State.{AgreementState}
use Rattle.machine_states.specs.Sight.{Sight}
use Rattle.machine_facts.specs.machine_invariant.specs.Trails.{step_at}

-- the runs of the section in this descriptor, which isn't free again, have passed the exchange of its stamp
pub record IsStamped (m : Meaning) (a : AgreementState) (s : Sight) (d : ℕ) : Type 0 where
  pub used : a.used d ≡ true
  pub place : ℕ
  pub stamps : step_at m a s d place ≡ StampExchange
  pub passed : place < (a.section d).edge

module _ (s : Sight) where
  -- this runner knows both words of this request
  abbrev pub Knows : ℕ → ℕ → Type 0
  Knows r n = is_answered (s.part r).records.known n ≡ true

  -- the section that this runner has published and not retired
  abbrev pub HasPublished : ℕ → Published → Type 0
  HasPublished r x = (s.part r).published ≡ Some x

  -- it knew both words of this request when it published this section
  abbrev pub KnewThen : ℕ → Published → ℕ → Type 0
  KnewThen r x n = is_answered (take x.known (s.part r).records.known) n ≡ true

  -- this runner has written the reply of a read of this request, and not yet its stamp
  pub record IsToStamp (r n : ℕ) : Type 0 where
    pub look : Look
    pub looked : (s.part r).reads.look ≡ Some look
    pub replied : is_replied look.stage ≡ true
    pub request : look.thunk.request ≡ n

  -- this runner has published a section for this request, and not run it to its end
  pub record HasOpen (r n : ℕ) : Type 0 where
    pub section : Published
    pub published : HasPublished r section
    pub request : section.thunk.request ≡ n
