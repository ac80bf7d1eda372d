-- What each step of a runner leaves of what it knows and of the section that it has published.
use Rattle.std.specs.Prelude.{◌==◌, ◌&&◌, not, nat_lt, nat_le, Bool, true, false, slice_index_or, if◌then◌else◌}
use Rattle.std.proofs.Common.{◌≡◌, ◌≢◌, ℕ, zero, suc, ◌≤◌, List, [], ◌∷◌, ◌++◌, refl, sym, ap, ◌∙◌, subst, inl, inr, ⊎_elim, arith, Option, Some, None}
use Rattle.std.specs.Prelude.{◌⊎◌}
use Rattle.std.proofs.lemmas.Bool.Decides.{nat_tests}
use Rattle.std.proofs.lemmas.List.{append-nil}
use Rattle.machine_states.specs.map_history.specs.declared.op.Request.{Request}
use Rattle.machine_states.specs.body_terms.specs.declared.micro.Micro.{Micro}
use Rattle.machine_states.specs.body_terms.specs.declared.micro.Micro.TheVariants as micros
use Rattle.machine_states.specs.body_terms.specs.declared.thunk.Thunk.{Thunk}
use Rattle.machine_states.specs.body_terms.specs.Line.{is_end, ending}
use Rattle.machine_states.specs.body_terms.specs.Run.{written_once}
use Rattle.machine_states.specs.table_words.specs.declared.layout.Layout.{Layout}
use Rattle.machine_states.specs.table_words.specs.declared.spot.Spot.{Spot}
use Rattle.machine_states.specs.table_words.specs.declared.access.Access.{Access}
use Rattle.machine_states.specs.table_words.specs.Places.{slot_count}
use Rattle.machine_states.specs.structure_laws.specs.Meaning.{Meaning}
use Rattle.machine_states.specs.epoch_core.specs.Moves.{is_clear}
use Rattle.machine_states.specs.runner_parts.specs.declared.entries.Known.{Known}
use Rattle.machine_states.specs.runner_parts.specs.declared.entries.Look.{Look}
use Rattle.machine_states.specs.runner_parts.specs.declared.entries.Published.{Published}
use Rattle.machine_states.specs.runner_parts.specs.declared.event.EventKind.{EventKind}
use Rattle.machine_states.specs.runner_parts.specs.declared.event.EventKind.TheVariants as kinds
use Rattle.machine_states.specs.epoch_core.specs.declared.stage.Stage.{Stage}
use Rattle.machine_states.specs.epoch_core.specs.declared.stage.Stage.TheVariants as stages
use Rattle.machine_states.specs.runner_parts.specs.Lists.{learned, descriptor_taken, published_seen, cell_read}
use Rattle.machine_states.specs.runner_parts.specs.State.{RunState, PartState, RecordsState}
use Rattle.machine_states.specs.runner_parts.specs.Tests.{knows}
use Rattle.machine_states.specs.runner_steps.specs.Sections.{thunk_of, line_of, is_open_run, next_of}
use Rattle.machine_states.specs.runner_steps.specs.InRun.{last_clock, stamp_after, release_ask}
use Rattle.machine_states.specs.epoch_core.specs.State.{last_epoch}
use Rattle.machine_states.specs.runner_steps.specs.Asks.{opening_ask}
use Rattle.machine_states.specs.runner_steps.specs.Asks.{asks, line_ask}
use Rattle.machine_states.specs.runner_steps.specs.After.{outside_after, line_after, after_by, stepped}
use Rattle.machine_states.specs.runner_steps.specs.AfterInRun as inside
use Rattle.machine_states.specs.runner_steps.specs.AfterOutside as outside
use Rattle.machine_states.specs.runner_steps.specs.Reads.{read_stamp_after, reply_known, stamp_known}
use Rattle.machine_states.specs.Sight.{Sight}
use Rattle.machine_states.proofs.Sights.{some_none}
use Rattle.machine_states.proofs.Steps.{some_same}
use Rattle.machine_facts.specs.machine_agreement.proofs.Ends.{at_end}
use Rattle.machine_facts.specs.machine_invariant.specs.Whole.{Beside, IsWhole}
use Rattle.machine_facts.specs.machine_invariant.proofs.Asked.{asked_by}
use Rattle.reached_histories.specs.Kept.{link_of}
use Rattle.reached_histories.specs.Keeping.{IsAtItsEnd}
use Rattle.machine_facts.proofs.Telling.{Grows, grows_learned}

-- this published section was there before, but for being over
abbrev pub WasPublished : Option Published → Published → Type 0
WasPublished o x' = (x : Published) × (o ≡ Some x) × (x'.descriptor ≡ x.descriptor) × (x'.thunk ≡ x.thunk) × (x'.known ≡ x.known)

-- the runner knows what it knew, in this order; its section is the same, or it was at its end and has none now
pub record KeepsOn (p p' : PartState) : Type 0 where
  pub grows : Grows p.records.known p'.records.known
  pub appends : (more : List Known) × (p'.records.known ≡ p.records.known ++ more)
  pub was : (x : Published) → p'.published ≡ Some x → WasPublished p.published x
  pub link : (link_of p'.published ≡ link_of p.published) ⊎ ((link_of p'.published ≡ 0) × IsAtItsEnd p)

pub on : (p p' : PartState) → p'.records.known ≡ p.records.known → p'.published ≡ p.published → KeepsOn p p'
on p p' known published = record {
  grows = λ n reply e. ap (λ xs. knows xs n reply) known ∙ e;
  appends = ([], known ∙ sym (append-nil p.records.known));
  was = λ x is. (x, sym published ∙ is, refl, refl, refl);
  link = inl (ap link_of published);
}

either : (p : PartState) (b : Bool) (y z : PartState) → KeepsOn p y → KeepsOn p z → KeepsOn p (if b then y else z)
either p true y z one two = one
either p false y z one two = two

learned_appends : (s : RecordsState) (request : ℕ) (reply : Bool) (number : ℕ)
    → (more : List Known) × ((learned s request reply number).known ≡ s.known ++ more)
learned_appends s request reply number = by (number == 0)
  where
    by : (b : Bool) → (more : List Known) × ((if b then s else record s { known = s.known ++ record { request = request; reply = reply; number = number } ∷ [] }).known
        ≡ s.known ++ more)
    by true = ([], sym (append-nil s.known))
    by false = (record { request = request; reply = reply; number = number } ∷ [], refl)

-- a step that learns
learns_more : (p p' : PartState) (request : ℕ) (reply : Bool) (number : ℕ) → p'.records.known ≡ (learned p.records request reply number).known
    → p'.published ≡ p.published → KeepsOn p p'
learns_more p p' request reply number known published =
    let added = learned_appends p.records request reply number in record {
      grows = λ n b e. ap (λ xs. knows xs n b) known ∙ grows_learned p.records request reply number n b e;
      appends = (added.0, known ∙ added.1);
      was = λ x is. (x, sym published ∙ is, refl, refl, refl);
      link = inl (ap link_of published);
    }

-- the end of a run: of the own section, which isn't published any more, or of another
over_was : (o : Option Published) (d : ℕ) (x : Published) → inside.kept_unless o d ≡ Some x → WasPublished o x
over_was None d x is = some_none x is
over_was (Some y) d x is = by (y.descriptor == d) is
  where
    by : (b : Bool) → (if b then None else Some y) ≡ Some x → WasPublished (Some y) x
    by true is = some_none x is
    by false is = let same = some_same y x is in
        (y, refl, ap (λ (z : Published). z.descriptor) (sym same), ap (λ (z : Published). z.thunk) (sym same), ap (λ (z : Published). z.known) (sym same))

over_cases : (o : Option Published) (d : ℕ)
    → (link_of (inside.kept_unless o d) ≡ link_of o) ⊎ ((link_of (inside.kept_unless o d) ≡ 0) × (link_of o ≡ suc d))
over_cases None d = inl refl
over_cases (Some y) d = by (y.descriptor == d) refl
  where
    same : (a b : ℕ) → (a == b) ≡ true → a ≡ b
    same a b e = grind (arith, nat_tests)

    by : (b : Bool) → (y.descriptor == d) ≡ b
        → (link_of (if b then None else Some y) ≡ suc y.descriptor) ⊎ ((link_of (if b then None else Some y) ≡ 0) × (suc y.descriptor ≡ suc d))
    by true e = inr (refl, ap suc (same y.descriptor d e))
    by false e = inl refl

module _ (m : Meaning) (l : Layout) (p : PartState) where
  module _ (none : p.run ≡ None) (found : ℕ) where
    scan_keeps : (stage : Stage) → KeepsOn p (outside.scan_one_after l p stage found)
    scan_keeps (stages.Scanning e next clear) = either p (nat_le next l.runners) _ _
        (either p (next == l.runners && not ((clear && is_clear e found) && nat_lt e last_epoch)) _ _ (on p _ refl refl) (on p _ refl refl)) (on p p refl refl)
    scan_keeps _ = on p p refl refl

    advance_keeps : (stage : Stage) → KeepsOn p (outside.advance_after p stage)
    advance_keeps (stages.Scanning e next clear) = either p (nat_lt e last_epoch) _ _ (on p _ refl refl) (on p p refl refl)
    advance_keeps _ = on p p refl refl

    -- a read's words are learned
    reply_keeps : (o : Option Look) (p' : PartState) → p'.records.known ≡ reply_known m o found p.records → p'.published ≡ p.published → KeepsOn p p'
    reply_keeps None p' known published = on p p' known published
    reply_keeps (Some x) p' known published = learns_more p p' x.thunk.request true _ known published

    stamp_keeps : (o : Option Look) (p' : PartState) → p'.records.known ≡ stamp_known o found p.records → p'.published ≡ p.published → KeepsOn p p'
    stamp_keeps None p' known published = on p p' known published
    stamp_keeps (Some x) p' known published = by (nat_lt x.clock last_clock) known
      where
        by : (b : Bool) → p'.records.known ≡ (if b then (learned p.records x.thunk.request false (written_once found (read_stamp_after x.clock))).known else p.records.known)
            → KeepsOn p p'
        by true known = learns_more p p' x.thunk.request false _ known published
        by false known = on p p' known published

    outside_keeps : (kind : EventKind) → ((t : Thunk) (d : ℕ) → kind ≡ kinds.Hold t d → found ≢ t.word)
        → KeepsOn p (outside_after m l kind p found)
    outside_keeps kinds.EnterLoad quiet = on p _ refl refl
    outside_keeps kinds.Announce quiet = on p _ refl refl
    outside_keeps kinds.EnterAgain quiet = on p _ refl refl
    outside_keeps kinds.Idle quiet = on p _ refl refl
    outside_keeps kinds.ScanEpoch quiet = on p _ refl refl
    outside_keeps (kinds.ScanOne n) quiet = scan_keeps p.stage
    outside_keeps kinds.Advance quiet = advance_keeps p.stage
    outside_keeps kinds.Split quiet = either p (nat_lt p.records.splits l.runners) _ _ (on p _ refl refl) (on p p refl refl)
    outside_keeps (kinds.Join worker) quiet = on p _ refl refl
    outside_keeps (kinds.LoadCell (Some place)) quiet = on p _ refl refl
    outside_keeps (kinds.LoadEntry request reply) quiet = learns_more p _ request reply found refl refl
    outside_keeps (kinds.PrivateLoad slot word) quiet = either p (nat_lt slot (slot_count l m.fixed_slots)) _ _ (on p _ refl refl) (on p _ refl refl)
    outside_keeps (kinds.PrivateStore slot word number) quiet = on p _ refl refl
    outside_keeps (kinds.Hold thunk d) quiet = by (found == thunk.word) refl
      where
        same : (a b : ℕ) → (a == b) ≡ true → a ≡ b
        same a b e = grind (arith, nat_tests)

        by : (b : Bool) → (found == thunk.word) ≡ b → KeepsOn p (if b then record p {
          published = Some (outside.published_by thunk d p);
          descriptors = descriptor_taken p.descriptors d;
          guards = published_seen p.guards d;
          reads = cell_read p.reads thunk.lock found;
        } else record p { reads = cell_read p.reads thunk.lock found })
        by true e = absurd (quiet thunk d refl (same found thunk.word e))
        by false e = on p _ refl refl
    outside_keeps (kinds.LoadThunk (Some d)) quiet = on p _ refl refl
    outside_keeps (kinds.LoadCell None) quiet = on p p refl refl
    outside_keeps (kinds.LoadThunk None) quiet = on p p refl refl
    outside_keeps kinds.ReadReply quiet = reply_keeps p.reads.look _ refl refl
    outside_keeps kinds.ReadStamp quiet = stamp_keeps p.reads.look _ refl refl
    outside_keeps _ quiet = on p _ refl refl

  module _ (q : RunState) (is : p.run ≡ Some q) (opened : is_open_run q ≡ true) (found : ℕ) where
    fill_keeps : (slot : ℕ) (made : Option ℕ) → KeepsOn p (inside.fill_loaded m l slot p q made found)
    fill_keeps slot None = on p _ refl refl
    fill_keeps slot (Some t) = on p _ refl refl

    make_keeps : (made : Option ℕ) → KeepsOn p (inside.make_committed m l p q made found)
    make_keeps None = on p p refl refl
    make_keeps (Some t) = on p _ refl refl

    -- the last release
    over_keeps : (p' : PartState) → p'.records.known ≡ p.records.known → 1 ≤ q.ended → p'.published ≡ inside.kept_unless p.published q.descriptor → KeepsOn p p'
    over_keeps p' known ended published = record {
      grows = λ n reply e. ap (λ xs. knows xs n reply) known ∙ e;
      appends = ([], known ∙ sym (append-nil p.records.known));
      was = λ x at. over_was p.published q.descriptor x (sym published ∙ at);
      link = ⊎_elim
          (λ same. inl (ap link_of published ∙ same))
          (λ own. inr (ap link_of published ∙ own.0, record { run = q; runs = is; opened = opened; ended = ended; own = own.1 }))
          (over_cases p.published q.descriptor);
    }

    released_keeps : (place : ℕ) → 1 ≤ q.ended → KeepsOn p (inside.lock_released m l place p q found)
    released_keeps place ended = either p (is_end (next_of m (inside.ended_more q))) _ _ (over_keeps _ refl ended refl) (on p _ refl refl)

    line_keeps : (kind : EventKind) (micro : Micro) → (kind ≡ kinds.Release → 1 ≤ q.ended) → KeepsOn p (line_after m l kind p q micro found)
    line_keeps kinds.Commit micro ended = on p _ refl refl
    line_keeps (kinds.LoadCell place) micro ended = on p _ refl refl
    line_keeps kinds.ExchangeCell micro ended = on p _ refl refl
    line_keeps (kinds.PrivateLoad slot word) micro ended = fill_keeps slot q.made
    line_keeps (kinds.PrivateStore slot word number) micro ended = on p _ refl refl
    line_keeps (kinds.LinkCommit b) micro ended = on p _ refl refl
    line_keeps kinds.MakeCommit micro ended = make_keeps q.made
    line_keeps kinds.RetireCommit micro ended = on p _ refl refl
    line_keeps kinds.EpochForRetire micro ended = on p _ refl refl
    line_keeps kinds.SetDone micro ended = on p _ refl refl
    line_keeps kinds.Release micro ended = released_keeps (inside.place_of micro) (ended refl)
    line_keeps kinds.ClockLoad micro ended = on p _ refl refl
    line_keeps kinds.StampExchange micro ended = either p (nat_lt q.word last_clock) _ _
        (learns_more p _ (thunk_of q.opened).request false (written_once found (stamp_after q.word)) refl refl) (on p p refl refl)
    line_keeps kinds.ClockRaise micro ended = on p _ refl refl
    line_keeps kinds.ReplyExchange micro ended =
        learns_more p _ (thunk_of q.opened).request true (written_once found (inside.reply_word_of micro)) refl refl
    line_keeps kinds.NestedLoad micro ended = on p _ refl refl
    line_keeps kinds.NestedHold micro ended = on p _ refl refl
    line_keeps kinds.OutcomeLoad micro ended = on p _ refl refl
    line_keeps kinds.OutcomeCommit micro ended = on p _ refl refl
    line_keeps _ micro ended = on p p refl refl

-- the exchange of the done word
abbrev is_set : Micro → Bool
is_set micros.SetDone = true
is_set _ = false

module _ (m : Meaning) (l : Layout) (rs : List Request) (g : Beside) (s : Sight) (whole : IsWhole m l g s) (r : ℕ) (x : Spot × Access) (kind : EventKind)
    (asked : asks m l rs r kind (s.part r) ≡ Some x) where
  abbrev p : PartState
  p = s.part r

  -- a run releases only once it has set the done word
  release_ended : (q : RunState) (is : p.run ≡ Some q) (opened : is_open_run q ≡ true) (micro : Micro) → next_of m q ≡ micro → release_ask l q micro ≡ Some x → 1 ≤ q.ended
  release_ended q is opened (micros.Release place word) next e = by q.ended (at_end m l rs g.agreement s whole.sections r q is opened (micros.Release place word) (omega arith) next).1
    where
      by : (n : ℕ) → slice_index_or (ending (line_of m q) q.at (thunk_of q.opened).lock (thunk_of q.opened).word) n micros.End ≡ micros.Release place word → 1 ≤ n
      by zero e = absurd (let h = ap is_set e in cc)
      by (suc n) e = omega arith
  release_ended q is opened _ next e = some_none x e

  pub stepped_keeps : (found : ℕ) → ((t : Thunk) (d : ℕ) → kind ≡ kinds.Hold t d → found ≢ t.word) → KeepsOn p (stepped m l kind p found)
  stepped_keeps found quiet = by p.run refl
    where
      in_run : (q : RunState) → p.run ≡ Some q → (b : Bool) → is_open_run q ≡ b
          → (if b then line_ask m l kind p.nodes.free p.blocks.free q (next_of m q) else opening_ask kind q) ≡ Some x
          → KeepsOn p (if b then line_after m l kind p q (next_of m q) found else inside.opened_more p q found)
      in_run q is true opened e = line_keeps m l p q is opened found kind (next_of m q)
          (λ same. release_ended q is opened (next_of m q) refl (subst (λ k. line_ask m l k p.nodes.free p.blocks.free q (next_of m q) ≡ Some x) same e))
      in_run q is false opened e = on p _ refl refl

      by : (run : Option RunState) → p.run ≡ run → KeepsOn p (after_by m l kind p run found)
      by None is = outside_keeps m l p is found kind quiet
      by (Some q) is = in_run q is (is_open_run q) refl (asked_by m l r kind p rs x (Some q) is asked)
