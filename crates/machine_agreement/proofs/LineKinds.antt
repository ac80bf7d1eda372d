-- The steps of a run's line, joined: loads and commits.
use Rattle.std.specs.Prelude.{true, false, if◌then◌else◌}
use Rattle.std.proofs.Common.{◌≡◌, ℕ, ◌+◌, List, [], ◌∷◌, ◌++◌, length, sym, refl, ap, ◌∙◌, subst, Some}
use Rattle.machine_states.specs.map_history.specs.declared.op.Request.{Request}
use Rattle.machine_states.specs.body_terms.specs.declared.micro.Micro.{Micro}
use Rattle.machine_states.specs.body_terms.specs.Line.{is_event}
use Rattle.machine_states.specs.body_terms.specs.Run.{written_once}
use Rattle.machine_states.specs.table_words.specs.declared.layout.Layout.{Layout}
use Rattle.machine_states.specs.table_words.specs.declared.spot.Spot.{Spot}
use Rattle.machine_states.specs.table_words.specs.declared.spot.Spot.TheVariants as spots
use Rattle.machine_states.specs.table_words.specs.declared.access.Access.{Access}
use Rattle.machine_states.specs.table_words.specs.declared.access.Access.TheVariants.{Loads, Exchanges}
use Rattle.machine_states.specs.table_words.specs.Access.{written}
use Rattle.machine_states.specs.table_words.specs.Seen.{upd, put}
use Rattle.machine_states.specs.structure_laws.specs.Meaning.{Meaning}
use Rattle.machine_states.specs.runner_parts.specs.declared.event.EventKind.{EventKind}
use Rattle.machine_states.specs.runner_parts.specs.State.{RunState, RecordsState, PartState}
use Rattle.machine_states.specs.runner_parts.specs.Tests.{has_pair}
use Rattle.machine_states.specs.runner_steps.specs.Sections.{is_open_run, next_of}
use Rattle.machine_states.specs.runner_steps.specs.AfterInRun.{opened_more}
use Rattle.machine_states.specs.runner_steps.specs.After.{noted}
use Rattle.machine_states.specs.runner_steps.specs.Blocks.{blocks_after}
use Rattle.machine_states.specs.runner_steps.specs.Board.{board_after}
use Rattle.machine_states.specs.runner_steps.specs.After.{after, after_by, line_after}
use Rattle.machine_states.specs.body_terms.specs.block_words.specs.Blocks.{log_spot}
use Rattle.agreement_core.specs.State.{CellRules, AgreementState, section_of}
use Rattle.agreement_core.specs.Events as events
use Rattle.agreement_core.specs.Events.{IsBefore, IsAlone, goes_on, agrees, with_cell, reads}
use Rattle.machine_states.specs.Sight.{Sight}
use Rattle.machine_states.proofs.Updates.{put_same}
use Rattle.machine_epochs.proofs.RunPlaces.{is_of_end, next_in_line, open_run}
use Rattle.machine_scenes.specs.Shown.{rules_of}
use Rattle.machine_agreement.specs.Joined.{IsRunOf, ShowsWords, ShowsSection, IsJoinedToAgreement}
use Rattle.machine_agreement.proofs.RunPlaces as places
use Rattle.machine_agreement.proofs.Frames.{IsOwnStep, IsOwnPart}
use Rattle.machine_agreement.proofs.Components.{own_then, goes_on_own, goes_on_run, goes_on_sections, agrees_own, agrees_run, agrees_sections, reads_own, reads_more}
use Rattle.machine_agreement.specs.Goes.{Goes}
use Rattle.machine_agreement.proofs.Assembly.{LeadBy, ThunksStay, line_goes}
use Rattle.machine_agreement.proofs.Words.{SameWords, shows_same, log_same}

-- what is noted of a step keeps what came to its end
pub noted_finished : (l : Layout) (r : ℕ) (kind : EventKind) (spot : Spot) (access : Access) (n : ℕ) (s : RecordsState) → (noted l r kind spot access n s).finished ≡ s.finished
noted_finished l r kind spot access n s = refl

-- a part with its step noted, where this was the part before it
abbrev pub noting : Meaning → Layout → ℕ → EventKind → Spot → Access → ℕ → PartState → PartState → PartState
noting m l r kind spot access n before p =
    record p { blocks = blocks_after m l kind before before.run n; board = board_after kind before.board n; records = noted l r kind spot access n p.records }

module _ (m : Meaning) (l : Layout) where
  -- the part after an event of an open run that stands before this step
  pub after_line : (r : ℕ) (kind : EventKind) (x : Spot × Access) (p : PartState) (found : ℕ) (q : RunState) (micro : Micro) → p.run ≡ Some q → is_open_run q ≡ true → next_of m q ≡ micro
      → after m l r kind x.0 x.1 p found ≡ noting m l r kind x.0 x.1 found p (line_after m l kind p q micro found)
  after_line r kind x p found q micro is opened next = ap (noting m l r kind x.0 x.1 found p)
      (ap (λ o. after_by m l kind p o found) is
      ∙ (ap (λ b. if b then line_after m l kind p q (next_of m q) found else opened_more p q found) opened
      ∙ ap (λ k. line_after m l kind p q k found) next))

  module _ (rs : List Request) (w : AgreementState) (s : Sight) (old : IsJoinedToAgreement m l w s) (r : ℕ) (q : RunState) (is : (s.part r).run ≡ Some q) (opened : is_open_run q ≡ true) where
    abbrev c : CellRules
    c = rules_of m l

    pub all : length q.opened ≡ 13
    all = open_run q opened

    -- the words after a step
    abbrev pub word_after : Spot × Access → Spot → ℕ
    word_after x = put s.word x.0 (written x.1 (s.word x.0))

    -- a step of the line leads to a joined state
    pub step_goes : (heads : List events.Event) (kind : EventKind) (x : Spot × Access) (micro : Micro) (q1 : RunState) (w1 : AgreementState) → next_of m q ≡ micro → is_event micro ≡ true → is_of_end micro ≡ false
        → LeadBy m l heads w w1 → IsOwnStep w w1 r → IsRunOf (w1.run r) q1 → q1.ended ≡ q.ended → q1.descriptor ≡ q.descriptor → q1.opened ≡ q.opened
        → IsOwnPart m l (s.part r) (line_after m l kind (s.part r) q micro (s.word x.0)) q1
        → ShowsWords w1.shared (word_after x) → ((d : ℕ) → ShowsSection (w1.section d) (word_after x) d) → ThunksStay s.word (word_after x)
        → ((place found : ℕ) → has_pair (line_after m l kind (s.part r) q micro (s.word x.0)).reads.cells place found ≡ true → w1.shared.seen place found ≡ true)
        → Goes m l r heads w (record { word = word_after x; part = upd s.part r (after m l r kind x.0 x.1 (s.part r) (s.word x.0)) })
    step_goes heads kind x micro q1 w1 next event inner leads step run1 ended descriptor same_words own words sections thunks read =
        let going = places.not_ended m l w s old r q is all (ap is_event (next_in_line m q micro inner next) ∙ event) in
        let pp = line_after m l kind (s.part r) q micro (s.word x.0) in
        subst (λ (p : PartState). Goes m l r heads w (record { word = word_after x; part = upd s.part r p })) (sym (after_line r kind x (s.part r) (s.word x.0) q micro is opened next))
        (line_goes m l heads w w1 s r q q1 (word_after x) (noting m l r kind x.0 x.1 (s.word x.0) (s.part r) pp) old is all leads step run1 (ended ∙ going) descriptor same_words
        (places.code_here m l w s old r q is all)
        (record { run = own.run; published = own.published; finished = noted_finished l r kind x.0 x.1 (s.word x.0) pp.records ∙ own.finished })
        words sections thunks read)

    -- one event of the component
    pub one : (e : events.Event) → events.Enabled c w e → LeadBy m l (e ∷ []) w (events.after w e)
    one e enabled = record { enabled = (enabled, tt); there = refl }

    -- a load changes no word
    pub load_words : (a : Spot) → ShowsWords w.shared (word_after (a, Loads))
    load_words a = subst (ShowsWords w.shared) (sym (put_same s.word a)) old.words

    pub load_sections : (a : Spot) (w1 : AgreementState) → ((d : ℕ) → ShowsSection (w1.section d) s.word d) → (d : ℕ) → ShowsSection (w1.section d) (word_after (a, Loads)) d
    load_sections a w1 sections d = subst (λ (f : Spot → ℕ). ShowsSection (w1.section d) f d) (sym (put_same s.word a)) (sections d)

    pub load_thunks : (a : Spot) → ThunksStay s.word (word_after (a, Loads))
    load_thunks a d j = ap (λ (f : Spot → ℕ). f (spots.ThunkWord d j)) (put_same s.word a)

    -- a cell is loaded by a step of the run
    module _ (kind : EventKind) (p : ℕ) (micro : Micro) (e : events.Event) (next : next_of m q ≡ micro) (event : is_event micro ≡ true) (inner : is_of_end micro ≡ false)
        (is_load : events.after w e ≡ reads (goes_on w r (w.shared.cells p)) p) (enabled : events.Enabled c w e) where
      abbrev q1 : RunState
      q1 = record q { at = q.at + 1; word = s.word (spots.Cell p) }

      abbrev w1 : AgreementState
      w1 = reads (goes_on w r (w.shared.cells p)) p

      leads : LeadBy m l (e ∷ []) w w1
      leads = subst (LeadBy m l (e ∷ []) w) is_load (one e enabled)

      step : IsOwnStep w w1 r
      step = own_then w (goes_on w r (w.shared.cells p)) w1 r (goes_on_own w r (w.shared.cells p)) (reads_own (goes_on w r (w.shared.cells p)) r p)

      run1 : IsRunOf (w1.run r) q1
      run1 = subst (λ n. IsRunOf (w1.run r) (record q { at = q.at + 1; word = n })) (old.words.cells p) (goes_on_run w r q (w.shared.cells p) (places.run_here m l w s old r q is))

      sections : (d : ℕ) → ShowsSection (w1.section d) s.word d
      sections = goes_on_sections w r (w.shared.cells p) s.word old.sections

      pub load_goes : IsOwnPart m l (s.part r) (line_after m l kind (s.part r) q micro (s.word (spots.Cell p))) q1
          → (line_after m l kind (s.part r) q micro (s.word (spots.Cell p))).reads.cells ≡ (s.part r).reads.cells ++ (p, s.word (spots.Cell p)) ∷ []
          → Goes m l r (e ∷ []) w (record { word = word_after (spots.Cell p, Loads); part = upd s.part r (after m l r kind (spots.Cell p) Loads (s.part r) (s.word (spots.Cell p))) })
      load_goes own cells = step_goes (e ∷ []) kind (spots.Cell p, Loads) micro q1 w1 next event inner leads step run1 refl refl refl own
          (let x = load_words (spots.Cell p) in record { cells = x.cells; clock = x.clock; stamp = x.stamp; reply = x.reply })
          (load_sections (spots.Cell p) w1 sections) (load_thunks (spots.Cell p))
          (reads_more (goes_on w r (w.shared.cells p)) p (s.word (spots.Cell p)) (s.part r).reads.cells _ (old.words.cells p) cells (λ place found has. (old.tied r).read place found has))

    -- a number is loaded from a word that is no cell, by a step of the run
    module _ (kind : EventKind) (a : Spot) (micro : Micro) (e : events.Event) (next : next_of m q ≡ micro) (event : is_event micro ≡ true) (inner : is_of_end micro ≡ false)
        (number : ℕ) (is_load : events.after w e ≡ goes_on w r number) (same : number ≡ s.word a) (enabled : events.Enabled c w e) where
      pub number_goes : IsOwnPart m l (s.part r) (line_after m l kind (s.part r) q micro (s.word a)) (record q { at = q.at + 1; word = s.word a })
          → (line_after m l kind (s.part r) q micro (s.word a)).reads.cells ≡ (s.part r).reads.cells
          → Goes m l r (e ∷ []) w (record { word = word_after (a, Loads); part = upd s.part r (after m l r kind a Loads (s.part r) (s.word a)) })
      number_goes own cells = step_goes (e ∷ []) kind (a, Loads) micro (record q { at = q.at + 1; word = s.word a }) (goes_on w r number) next event inner
          (subst (LeadBy m l (e ∷ []) w) is_load (one e enabled)) (goes_on_own w r number)
          (subst (λ n. IsRunOf ((goes_on w r number).run r) (record q { at = q.at + 1; word = n })) same (goes_on_run w r q number (places.run_here m l w s old r q is))) refl refl refl own
          (load_words a) (load_sections a (goes_on w r number) (goes_on_sections w r number s.word old.sections)) (load_thunks a)
          (λ place found has. (old.tied r).read place found (subst (λ xs. has_pair xs place found ≡ true) cells has))

    own_descriptor : (w.run r).descriptor ≡ q.descriptor
    own_descriptor = (places.run_here m l w s old r q is).descriptor

    -- a word is committed by a step of the run
    module _ (kind : EventKind) (k proposal number : ℕ) (micro : Micro) (e : events.Event) (next : next_of m q ≡ micro) (event : is_event micro ≡ true) (inner : is_of_end micro ≡ false)
        (is_commit : events.after w e ≡ agrees w r k proposal) (same : proposal ≡ number) (logged : (w.section q.descriptor).log k ≡ s.word (log_spot q.descriptor q.links k))
        (enabled : events.Enabled c w e) where
      abbrev log : Spot
      log = log_spot q.descriptor q.links k

      log_words : SameWords s.word (word_after (log, Exchanges 0 number))
      log_words = log_same s.word _ q.descriptor q.links k

      abbrev agreed : ℕ
      agreed = written_once (s.word log) number

      agreed_same : written_once ((section_of w r).log k) proposal ≡ agreed
      agreed_same = ap (λ d. written_once ((w.section d).log k) proposal) own_descriptor ∙ (ap (λ n. written_once n proposal) logged ∙ ap (written_once (s.word log)) same)

      commit_sections : (d : ℕ) → ShowsSection ((agrees w r k proposal).section d) (word_after (log, Exchanges 0 number)) d
      commit_sections = agrees_sections w r k proposal s.word (word_after (log, Exchanges 0 number)) log_words.done old.sections

      pub commit_goes : (q1 : RunState) → q1.descriptor ≡ q.descriptor → q1.at ≡ q.at + 1 → q1.word ≡ q.word → q1.trail ≡ q.trail ++ agreed ∷ [] → q1.ended ≡ q.ended → q1.opened ≡ q.opened
          → IsOwnPart m l (s.part r) (line_after m l kind (s.part r) q micro (s.word log)) q1
          → (line_after m l kind (s.part r) q micro (s.word log)).reads.cells ≡ (s.part r).reads.cells
          → Goes m l r (e ∷ []) w (record { word = word_after (log, Exchanges 0 number); part = upd s.part r (after m l r kind log (Exchanges 0 number) (s.part r) (s.word log)) })
      commit_goes q1 d a n t ended o own cells = step_goes (e ∷ []) kind (log, Exchanges 0 number) micro q1 (agrees w r k proposal) next event inner
          (subst (LeadBy m l (e ∷ []) w) is_commit (one e enabled)) (agrees_own w r k proposal)
          (agrees_run w r q q1 k proposal agreed (places.run_here m l w s old r q is) agreed_same d a n t ended) ended d o own
          (let x = shows_same w.shared s.word (word_after (log, Exchanges 0 number)) log_words old.words in record { cells = x.cells; clock = x.clock; stamp = x.stamp; reply = x.reply }) commit_sections log_words.thunks
          (λ place found has. (old.tied r).read place found (subst (λ xs. has_pair xs place found ≡ true) cells has))
