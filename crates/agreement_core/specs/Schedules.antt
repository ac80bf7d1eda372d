-- The first state, and lists of enabled events.
use Rattle.std.specs.Prelude.{ℕ, ◌<◌, ◌≤◌, ◌≡◌, true, false, List, [], ◌∷◌}
use Rattle.section_lines.specs.structure_laws.specs.body_terms.specs.Word.{value_of, version_of}
use Rattle.section_lines.specs.structure_laws.specs.body_terms.specs.declared.micro.Micro.TheVariants.{End}
use Rattle.agreement_core.specs.State.{CellRules, Section, Run, Finished, AgreementState}
use Rattle.agreement_core.specs.Events.{Event, Enabled, after}

-- a descriptor that was never published, and a runner that was in no run
abbrev pub no_section : Section
no_section =
    record { lock = 0; word = 0; request = 0; code = λ i. End; slot = λ i. 0; log = λ k. 0; done = 0; edge = 0 }

abbrev pub no_run : Run
no_run = record {
  running = false;
  descriptor = 0;
  at = 0;
  word = 0;
  count = 0;
  trail = λ k. 0;
  ended = false;
  released = λ p. false;
}

abbrev pub not_finished : Finished
not_finished = record { lock = 0; word = 0; descriptor = 0; count = 0; trail = λ k. 0 }

-- the first state, with these cells
abbrev pub first_state : (ℕ → ℕ) → AgreementState
first_state cells = record {
  shared = record { cells = cells; clock = 0; stamp = λ q. 0; reply = λ q. 0; seen = λ p word. false };
  section = λ d. no_section;
  used = λ d. false;
  live = λ d. false;
  over = λ d. false;
  run = λ r. no_run;
  finishes = λ r. 0;
  finished = λ r i. not_finished;
}

module _ (c : CellRules) where
  -- each version is positive and within the greatest one, and each lock is free
  pub record IsFirst (cells : ℕ → ℕ) : Type 0 where
    pub positive : (p : ℕ) → 0 < version_of (cells p)
    pub bounded : (p : ℕ) → version_of (cells p) ≤ c.version_max
    pub free : (p : ℕ) → c.is_lock p ≡ true → value_of (cells p) ≡ 0

  -- each event of the list is enabled in the state that the events before it lead to
  abbrev pub AllEnabled : AgreementState → List Event → Type 0
  AllEnabled w [] = Unit {0}
  AllEnabled w (e ∷ es) = Enabled c w e × AllEnabled (after w e) es

  -- the state after a list of events
  abbrev pub after_all : AgreementState → List Event → AgreementState
  after_all w [] = w
  after_all w (e ∷ es) = after_all (after w e) es
