-- The kinds of step outside a run, joined.
use Rattle.std.specs.Prelude.{◌==◌, ◌&&◌, not, Bool, true, false, nat_le, nat_lt, if◌then◌else◌}
use Rattle.std.proofs.Common.{◌≡◌, ◌≢◌, ℕ, ◌+◌, ◌-◌, List, [], ◌∷◌, ◌++◌, sym, refl, ap, ◌∙◌, subst, arith, inl, inr, Option, Some, None, ⊎_elim}
use Rattle.std.proofs.lemmas.Bool.Decides.{nat_tests}
use Rattle.machine_states.specs.map_history.specs.declared.op.Request.{Request}
use Rattle.machine_states.specs.body_terms.specs.Word.{held_word}
use Rattle.machine_states.specs.body_terms.specs.declared.thunk.Thunk.{Thunk}
use Rattle.machine_states.specs.table_words.specs.declared.layout.Layout.{Layout}
use Rattle.machine_states.specs.table_words.specs.declared.spot.Spot.{Spot}
use Rattle.machine_states.specs.table_words.specs.declared.spot.Spot.TheVariants as spots
use Rattle.machine_states.specs.table_words.specs.declared.access.Access.{Access}
use Rattle.machine_states.specs.table_words.specs.declared.access.Access.TheVariants.{Loads, Stores, Exchanges}
use Rattle.machine_states.specs.table_words.specs.Access.{written}
use Rattle.machine_states.specs.table_words.specs.Places.{Fits, part_words, slot_count}
use Rattle.machine_states.specs.table_words.specs.Seen.{put}
use Rattle.machine_states.specs.table_words.specs.Seen as table
use Rattle.machine_states.specs.structure_laws.specs.Meaning.{Meaning}
use Rattle.machine_states.specs.epoch_core.specs.Moves.{is_clear}
use Rattle.machine_states.specs.runner_parts.specs.declared.entries.BoardRead.{BoardRead}
use Rattle.machine_states.specs.runner_parts.specs.declared.event.EventKind.{EventKind}
use Rattle.machine_states.specs.runner_parts.specs.declared.event.EventKind.TheVariants as kinds
use Rattle.machine_states.specs.epoch_core.specs.declared.stage.Stage.{Stage}
use Rattle.machine_states.specs.epoch_core.specs.declared.stage.Stage.TheVariants as stages
use Rattle.machine_states.specs.runner_parts.specs.declared.entries.Look.{Look}
use Rattle.machine_states.specs.runner_parts.specs.declared.entries.LookStage.TheVariants.{Replied, Stamped}
use Rattle.machine_states.specs.runner_parts.specs.State.{ReadsState, RecordsState, NodesState, DescriptorsState, BlocksState, PartState}
use Rattle.machine_states.specs.runner_parts.specs.Tests.{has, has_pair}
use Rattle.machine_states.specs.runner_steps.specs.Asks.{sizes_for}
use Rattle.machine_states.specs.runner_steps.specs.Outside.{descriptor_spot, is_sure_of, blocks_from, block_spot}
use Rattle.machine_states.specs.runner_steps.specs.Guards.{is_last_guard}
use Rattle.machine_states.specs.epoch_core.specs.State.{last_epoch}
use Rattle.machine_states.specs.runner_steps.specs.Sections.{reply_in}
use Rattle.machine_states.specs.runner_steps.specs.Reads.{read_stamp_after, plan_by, looked_by, come_to, reply_known, stamp_known}
use Rattle.machine_states.specs.runner_steps.specs.Asks.{outside_ask}
use Rattle.machine_states.specs.runner_steps.specs.After.{outside_after}
use Rattle.machine_states.specs.runner_steps.specs.AfterOutside.{descriptor_known, stored_if}
use Rattle.machine_states.specs.runner_parts.specs.Lists as lists
use Rattle.machine_states.specs.runner_steps.specs.AfterOutside as outside
use Rattle.machine_states.specs.runner_steps.specs.After.{noted}
use Rattle.machine_states.specs.runner_steps.specs.Blocks.{blocks_after}
use Rattle.machine_states.specs.runner_steps.specs.Board.{board_after}
use Rattle.agreement_core.specs.State.{AgreementState}
use Rattle.agreement_core.specs.Events as events
use Rattle.machine_states.specs.Sight.{Sight}
use Rattle.machine_epochs.proofs.OutsideAsked as asked
use Rattle.machine_epochs.proofs.ReadsAsked as reads_asked
use Rattle.machine_epochs.proofs.BoardAsked as board
use Rattle.machine_agreement.specs.Joined.{IsJoinedToAgreement}
use Rattle.machine_agreement.specs.Supplied.{IsIdle, MayPublish}
use Rattle.machine_agreement.specs.Chunks.{publication, stored, frees, unnamed, IsOutsideChunk}
use Rattle.machine_agreement.specs.Goes.{Goes}
use Rattle.machine_agreement.proofs.Words.{block_same, own_link}
use Rattle.machine_agreement.proofs.Assembly.{leads_alone}
use Rattle.machine_agreement.proofs.LineKinds.{noting, noted_finished}
use Rattle.machine_agreement.proofs.Outside.{IsSamePart, SameWords, load_same, quiet_joined, quiet_goes, reply_goes, stamp_goes, read_goes}
use Rattle.machine_agreement.proofs.Descriptors as descriptors
use Rattle.machine_agreement.proofs.Freeing.{freed}
use Rattle.machine_states.specs.runner_steps.specs.AfterOutside.{published_by}

-- a part that differs in what the component doesn't see
pub same_part : (m : Meaning) (l : Layout) (p : PartState) (stage : Stage) (nodes : NodesState) (descriptors : DescriptorsState) (blocks : BlocksState) (board : List BoardRead) (records : RecordsState) → records.finished ≡ p.records.finished
    → IsSamePart m l p (record p { stage = stage; nodes = nodes; descriptors = descriptors; blocks = blocks; board = board; records = records })
same_part m l p stage nodes descriptors blocks board records finished = record { run = refl; finished = finished; read = λ a b e. e }

-- what is noted of a step, of records whose ends are as before
ends : (l : Layout) (r : ℕ) (kind : EventKind) (spot : Spot) (access : Access) (n : ℕ) (records before : RecordsState) → records.finished ≡ before.finished → (noted l r kind spot access n records).finished ≡ before.finished
ends l r kind spot access n records before e = noted_finished l r kind spot access n records ∙ e

split_finished : (l : Layout) (p : PartState) → (outside.split_after l p).records.finished ≡ p.records.finished
split_finished l p = by (nat_lt p.records.splits l.runners)
  where
    by : (b : Bool) → (if b then record p { records = record (p.records) { splits = p.records.splits + 1 } } else p).records.finished ≡ p.records.finished
    by true = refl
    by false = refl

split_part : (m : Meaning) (l : Layout) (r : ℕ) (p : PartState) (spot : Spot) (access : Access) (n : ℕ) → IsSamePart m l p (noting m l r kinds.Split spot access n p (outside.split_after l p))
split_part m l r p spot access n = by (nat_lt p.records.splits l.runners)
  where
    abbrev_of : Bool → PartState
    abbrev_of b = if b then record p { records = record (p.records) { splits = p.records.splits + 1 } } else p

    by : (b : Bool) → IsSamePart m l p (noting m l r kinds.Split spot access n p (if b then record p { records = record (p.records) { splits = p.records.splits + 1 } } else p))
    by true = record { run = refl; finished = noted_finished l r kinds.Split spot access n (record (p.records) { splits = p.records.splits + 1 }); read = λ a b e. e }
    by false = record { run = refl; finished = noted_finished l r kinds.Split spot access n p.records; read = λ a b e. e }

learned_finished : (records : RecordsState) (request : ℕ) (reply : Bool) (n : ℕ) → (lists.learned records request reply n).finished ≡ records.finished
learned_finished records request reply n = by (n == 0)
  where
    by : (b : Bool) → (if b then records else record records { known = records.known ++ record { request = request; reply = reply; number = n } ∷ [] }).finished ≡ records.finished
    by true = refl
    by false = refl

module _ (m : Meaning) (l : Layout) (rs : List Request) (w : AgreementState) (s : Sight) (old : IsJoinedToAgreement m l w s) (r : ℕ) (none : (s.part r).run ≡ None) where
  abbrev p : PartState
  p = s.part r

  abbrev word_of : Spot × Access → Spot → ℕ
  word_of x = put s.word x.0 (written x.1 (s.word x.0))

  -- the sight after it
  abbrev pub sight_of : EventKind → Spot × Access → Sight
  sight_of kind x = record { word = word_of x; part = table.upd s.part r (noting m l r kind x.0 x.1 (s.word x.0) p (outside_after m l kind p (s.word x.0))) }

  -- the step leads to a joined state, by the events of its kind
  abbrev pub To : EventKind → Spot × Access → Type 0
  To kind x = (heads : List events.Event) × IsOutsideChunk m l w r kind p (s.word x.0) heads × Goes m l r heads w (sight_of kind x)

  loads : (a : Spot) (x : Spot × Access) → (a, Loads) ≡ x → SameWords s.word (word_of x)
  loads a x e = subst (λ (y : Spot × Access). SameWords s.word (word_of y)) e (load_same s.word a)

  quiet : (kind : EventKind) (x : Spot × Access) → IsOutsideChunk m l w r kind p (s.word x.0) [] → SameWords s.word (word_of x) → IsSamePart m l p (noting m l r kind x.0 x.1 (s.word x.0) p (outside_after m l kind p (s.word x.0))) → To kind x
  quiet kind x none_of words same = ([], none_of, quiet_goes m l w s old r (word_of x) _ words same)

  noted_part : (kind : EventKind) (x : Spot × Access) (stage : Stage) (nodes : NodesState) (records : RecordsState) → records.finished ≡ p.records.finished
      → IsSamePart m l p (noting m l r kind x.0 x.1 (s.word x.0) p (record p { stage = stage; nodes = nodes; records = records }))
  noted_part kind x stage nodes records e = same_part m l p stage nodes p.descriptors (blocks_after m l kind p p.run (s.word x.0)) (board_after kind p.board (s.word x.0)) (noted l r kind x.0 x.1 (s.word x.0) records) (ends l r kind x.0 x.1 (s.word x.0) records p.records e)

  pub enter_load : (x : Spot × Access) → outside_ask m l rs r kinds.EnterLoad p ≡ Some x → To kinds.EnterLoad x
  enter_load x e = let h = asked.enter_load_asked p.stage x e in quiet kinds.EnterLoad x refl (loads spots.Epoch x h.1) (noted_part kinds.EnterLoad x (stages.Loaded (s.word x.0)) p.nodes p.records refl)

  pub announce : (x : Spot × Access) → outside_ask m l rs r kinds.Announce p ≡ Some x → To kinds.Announce x
  announce x e = let h = asked.announce_asked r p.stage x e in
      quiet kinds.Announce x refl (subst (λ (y : Spot × Access). SameWords s.word (word_of y)) h.2 (elsewhere h.0)) (noted_part kinds.Announce x stages.Announced p.nodes p.records refl)
    where
      elsewhere : (e : ℕ) → SameWords s.word (word_of (spots.Announcement r, Stores e))
      elsewhere e = record { cells = λ i. refl; clock = refl; stamp = λ i. refl; reply = λ i. refl; thunks = λ d j. refl; done = λ d. refl }

  pub enter_again : (x : Spot × Access) → outside_ask m l rs r kinds.EnterAgain p ≡ Some x → To kinds.EnterAgain x
  enter_again x e = let h = asked.enter_again_asked p x e in quiet kinds.EnterAgain x refl (loads spots.Epoch x h.1)
      (record { run = refl; finished = noted_finished l r kinds.EnterAgain x.0 x.1 (s.word x.0) p.records; read = λ a b e. absurd (let no = e in cc) })

  pub exit : (x : Spot × Access) → outside_ask m l rs r kinds.Idle p ≡ Some x → To kinds.Idle x
  exit x e = let h = asked.idle_asked r p x e in
      quiet kinds.Idle x refl (subst (λ (y : Spot × Access). SameWords s.word (word_of y)) h.3
      (record { cells = λ i. refl; clock = refl; stamp = λ i. refl; reply = λ i. refl; thunks = λ d j. refl; done = λ d. refl })) (noted_part kinds.Idle x stages.Idle p.nodes p.records refl)

  pub scan_epoch : (x : Spot × Access) → outside_ask m l rs r kinds.ScanEpoch p ≡ Some x → To kinds.ScanEpoch x
  scan_epoch x e = let h = asked.enter_load_asked p.stage x e in quiet kinds.ScanEpoch x refl (loads spots.Epoch x h.1) (noted_part kinds.ScanEpoch x (stages.Scanning (s.word x.0) 0 true) p.nodes p.records refl)

  pub split : (x : Spot × Access) → outside_ask m l rs r kinds.Split p ≡ Some x → To kinds.Split x
  split x e = quiet kinds.Split x refl (loads spots.Seat x (asked.split_asked l r p x e)) (split_part m l r p x.0 x.1 (s.word x.0))

  pub load_entry : (request : ℕ) (reply : Bool) (x : Spot × Access) → outside_ask m l rs r (kinds.LoadEntry request reply) p ≡ Some x → To (kinds.LoadEntry request reply) x
  load_entry request reply x e = quiet (kinds.LoadEntry request reply) x refl (loads _ x (asked.entry_asked request reply p x e))
      (noted_part (kinds.LoadEntry request reply) x p.stage p.nodes (lists.learned p.records request reply (s.word x.0)) (learned_finished p.records request reply (s.word x.0)))

  -- a read without a lock
  look_part : (kind : EventKind) (x : Spot × Access) (look : Option Look) (records : RecordsState) → records.finished ≡ p.records.finished
      → IsSamePart m l p (noting m l r kind x.0 x.1 (s.word x.0) p (record p { reads = record (p.reads) { look = look }; records = records }))
  look_part kind x look records e =
      record { run = refl; finished = ends l r kind x.0 x.1 (s.word x.0) records p.records e; read = λ a b h. h }

  pub read_plan : (thunk : Thunk) (x : Spot × Access) → outside_ask m l rs r (kinds.ReadPlan thunk) p ≡ Some x → To (kinds.ReadPlan thunk) x
  read_plan thunk x e = quiet (kinds.ReadPlan thunk) x refl
      (subst (λ (y : Spot × Access). SameWords s.word (word_of y)) (reads_asked.read_plan_asked r thunk p x e).is elsewhere)
      (look_part (kinds.ReadPlan thunk) x (Some (plan_by thunk)) p.records refl)
    where
      elsewhere : SameWords s.word (word_of (spots.Announcement r, Exchanges 0 0))
      elsewhere = record { cells = λ i. refl; clock = refl; stamp = λ i. refl; reply = λ i. refl; thunks = λ d j. refl; done = λ d. refl }

  pub read_clock : (x : Spot × Access) → outside_ask m l rs r kinds.ReadClock p ≡ Some x → To kinds.ReadClock x
  read_clock x e = quiet kinds.ReadClock x refl (loads spots.Clock x (reads_asked.read_clock_asked p x e).is)
      (look_part kinds.ReadClock x (looked_by p (s.word x.0) p.reads.look) p.records refl)

  pub read_reply : (x : Spot × Access) → outside_ask m l rs r kinds.ReadReply p ≡ Some x → To kinds.ReadReply x
  read_reply x e =
      let h = reads_asked.read_reply_asked m l rs r p x e in
      let n = h.look.thunk.request in
      let reply = reply_in (m.body h.look.thunk) in
      subst (To kinds.ReadReply) h.is (
        events.ReadReply n reply ∷ [],
        (h.look, h.at, refl),
        reply_goes m l w s old r n reply (reads_asked.fit_answers m l rs r h.look p.records.known p.reads.walk h.fit) _
            (look_part kinds.ReadReply (spots.Reply n, Exchanges 0 reply) (come_to Replied p.reads.look)
            (record (p.records) { known = reply_known m p.reads.look (s.word (spots.Reply n)) p.records }) refl),
      )

  pub read_stamp : (x : Spot × Access) → outside_ask m l rs r kinds.ReadStamp p ≡ Some x → To kinds.ReadStamp x
  read_stamp x e =
      let h = reads_asked.read_stamp_asked p x e in
      let n = h.look.thunk.request in
      let stamp = read_stamp_after h.look.clock in
      subst (To kinds.ReadStamp) h.is (
        events.ReadStamp n stamp ∷ [],
        (h.look, h.at, refl),
        stamp_goes m l w s old r n stamp (reads_asked.stamp_some h.look.clock) _
            (look_part kinds.ReadStamp (spots.Stamp n, Exchanges 0 stamp) (come_to Stamped p.reads.look)
            (record (p.records) { known = stamp_known p.reads.look (s.word (spots.Stamp n)) p.records }) refl),
      )

  pub private_load : (slot word : ℕ) (x : Spot × Access) → outside_ask m l rs r (kinds.PrivateLoad slot word) p ≡ Some x → To (kinds.PrivateLoad slot word) x
  private_load slot word x e = let h = asked.private_load_asked m l slot word p x e in
      quiet (kinds.PrivateLoad slot word) x refl (loads h.0 x h.1) (looked_part (nat_lt slot (slot_count l m.fixed_slots)))
    where
      looked_part : (b : Bool) → IsSamePart m l p (noting m l r (kinds.PrivateLoad slot word) x.0 x.1 (s.word x.0) p
          (if b then record p { nodes = lists.nodes_looked l p.nodes slot word (s.word x.0) } else descriptor_known m l slot word p (s.word x.0)))
      looked_part true = noted_part (kinds.PrivateLoad slot word) x p.stage (lists.nodes_looked l p.nodes slot word (s.word x.0)) p.records refl
      looked_part false = same_part m l p p.stage p.nodes (stored_if (nat_lt slot (blocks_from m l)) p.descriptors (slot - slot_count l m.fixed_slots) word (s.word x.0)) (blocks_after m l (kinds.PrivateLoad slot word) p p.run (s.word x.0)) p.board
          (noted l r (kinds.PrivateLoad slot word) x.0 x.1 (s.word x.0) p.records) (noted_finished l r (kinds.PrivateLoad slot word) x.0 x.1 (s.word x.0) p.records)

  pub load_cell : (place : ℕ) (x : Spot × Access) → outside_ask m l rs r (kinds.LoadCell (Some place)) p ≡ Some x → To (kinds.LoadCell (Some place)) x
  load_cell place x e = let h = asked.read_asked m place p x e in
      subst (To (kinds.LoadCell (Some place))) h.2 (
        events.Read place ∷ [],
        refl,
        read_goes m l w s old r place _ refl (noted_finished l r (kinds.LoadCell (Some place)) (spots.Cell place) Loads (s.word (spots.Cell place)) p.records) refl
            (word_of (spots.Cell place, Loads)) (load_same s.word (spots.Cell place)),
      )

  -- a runner in no run begins one with the first word of a published descriptor
  pub load_thunk : (d : ℕ) (x : Spot × Access) → outside_ask m l rs r (kinds.LoadThunk (Some d)) p ≡ Some x → (is_sure_of p.guards d ≡ true → w.used d ≡ true) → To (kinds.LoadThunk (Some d)) x
  load_thunk d x e used = let h = asked.open_asked d p x e in
      subst (To (kinds.LoadThunk (Some d))) h.3 (
        events.Open r d ∷ [],
        refl,
        descriptors.run_begins m l w s old r d _ none (used h.2) refl refl (noted_finished l r (kinds.LoadThunk (Some d)) (spots.ThunkWord d 0) Loads (s.word (spots.ThunkWord d 0)) p.records) refl
            (word_of (spots.ThunkWord d 0, Loads)) (load_same s.word (spots.ThunkWord d 0)),
      )

  -- a private store into a word of an own free descriptor
  store_at : (d word number : ℕ) (q : PartState) → w.used d ≡ false → q.run ≡ p.run → q.published ≡ p.published → q.records.finished ≡ p.records.finished → q.reads ≡ p.reads
      → Goes m l r (stored d word number) w (record { word = put s.word (descriptor_spot d word) number; part = table.upd s.part r q })
  store_at d word number q unused run published records reads = by (nat_lt word 12) (word == 12) (word == 13 + part_words)
    where
      by : (a b c : Bool) → Goes m l r (if a then [] else (if b then events.StoreDone d number ∷ [] else (if c then [] else events.StoreLog d (word - 13) number ∷ []))) w
          (record { word = put s.word (if a then spots.ThunkWord d word else (if b then spots.DoneWord d else (if c then spots.LinkWord d else spots.LogWord d (word - 13)))) number; part = table.upd s.part r q })
      by true b c = descriptors.thunk_stored m l w s old r d word number q unused run published records reads
      by false true c = descriptors.done_stored m l w s old r d number q unused run published records reads
      by false false true = quiet_goes m l w s old r (put s.word (spots.LinkWord d) number) q (own_link s.word number d) (record { run = run; finished = records; read = λ place found has. subst (λ (y : ReadsState). has_pair y.cells place found ≡ true) reads has })
      by false false false = descriptors.log_stored m l w s old r d (word - 13) number q unused run published records reads

  pub private_store : (slot word number : ℕ) (x : Spot × Access) → Fits (sizes_for m l rs) x.0 → outside_ask m l rs r (kinds.PrivateStore slot word number) p ≡ Some x
      → ((d : ℕ) → has p.descriptors.free d ≡ true → w.used d ≡ false) → To (kinds.PrivateStore slot word number) x
  private_store slot word number x fits e unused =
      let kind : EventKind = kinds.PrivateStore slot word number in
      let d = slot - slot_count l m.fixed_slots in
      ⊎_elim
      (λ own. subst (To kind) own.2
      (stored d word number, ((λ inside. unused d own.1), ap (λ b. if b then stored d word number else []) (sym own.0)), store_at d word number _ (unused d own.1) refl refl (noted_finished l r kind (descriptor_spot d word) (Stores number) (s.word (descriptor_spot d word)) p.records) refl))
      (λ block.
      let a = block_spot (slot - blocks_from m l) word in
      subst (To kind) block.1 (
        [],
        ((λ inside. absurd (let y = sym block.0 ∙ inside in cc)), ap (λ b. if b then stored d word number else []) (sym block.0)),
        quiet_goes m l w s old r (put s.word a number) _ (block_same s.word number (slot - blocks_from m l) word)
            (same_part m l p p.stage p.nodes (stored_if (nat_lt slot (blocks_from m l)) p.descriptors d word number) (blocks_after m l kind p p.run (s.word a)) p.board
            (noted l r kind a (Stores number) (s.word a) p.records) (noted_finished l r kind a (Stores number) (s.word a) p.records)),
      ))
      (asked.private_store_cases m l slot word number p x e)

  -- a publication: where the lock was free, the section is published, otherwise its word is read
  module _ (t : Thunk) (d : ℕ) (unused : w.used d ≡ false) (supplied : s.word (spots.Cell t.lock) ≡ t.word → MayPublish m l w s r t d) where
    abbrev found : ℕ
    found = s.word (spots.Cell t.lock)

    abbrev hold : Spot × Access
    hold = (spots.Cell t.lock, Exchanges t.word (held_word d t.word))

    won : (found == t.word) ≡ true → To (kinds.Hold t d) hold
    won e =
        let same = equal found t.word e in
        let may = supplied same in
        let after : outside.hold_after t d p found ≡ record p {
          published = Some (published_by t d p);
          descriptors = lists.descriptor_taken p.descriptors d;
          guards = lists.published_seen p.guards d;
          reads = lists.cell_read p.reads t.lock found;
        } = ap (λ b. if b then record p {
          published = Some (published_by t d p);
          descriptors = lists.descriptor_taken p.descriptors d;
          guards = lists.published_seen p.guards d;
          reads = lists.cell_read p.reads t.lock found;
        } else record p { reads = lists.cell_read p.reads t.lock found }) e in
        let new : written (Exchanges t.word (held_word d t.word)) found ≡ held_word d t.word = ap (λ b. if b then held_word d t.word else found) e in (
          events.Read t.lock ∷ publication m d t ∷ [],
          inl (same, refl),
          subst (λ (q : PartState). Goes m l r (events.Read t.lock ∷ publication m d t ∷ []) w (record { word = word_of hold; part = table.upd s.part r (noting m l r (kinds.Hold t d) (spots.Cell t.lock) (Exchanges t.word (held_word d t.word)) found p q) })) (sym after)
              (subst (λ n. Goes m l r (events.Read t.lock ∷ publication m d t ∷ []) w (record {
                word = put s.word (spots.Cell t.lock) n;
                part = table.upd s.part r (noting m l r (kinds.Hold t d) (spots.Cell t.lock) (Exchanges t.word (held_word d t.word)) found p (record p {
                  published = Some (published_by t d p);
                  descriptors = lists.descriptor_taken p.descriptors d;
                  guards = lists.published_seen p.guards d;
                  reads = lists.cell_read p.reads t.lock found;
                }));
              })) (sym new)
              (descriptors.publishes m l w s old r d t _ none unused same may.words may.publishable may.undone none
              (noted_finished l r (kinds.Hold t d) (spots.Cell t.lock) (Exchanges t.word (held_word d t.word)) found p.records) refl)),
        )
      where
        equal : (a b : ℕ) → (a == b) ≡ true → a ≡ b
        equal a b e = grind (arith, nat_tests)

    lost : (found == t.word) ≡ false → To (kinds.Hold t d) hold
    lost e =
        let after : outside.hold_after t d p found ≡ record p { reads = lists.cell_read p.reads t.lock found }
        = ap (λ b. if b then record p {
          published = Some (published_by t d p);
          descriptors = lists.descriptor_taken p.descriptors d;
          guards = lists.published_seen p.guards d;
          reads = lists.cell_read p.reads t.lock found;
        } else record p { reads = lists.cell_read p.reads t.lock found }) e in
        let same : written (Exchanges t.word (held_word d t.word)) found ≡ found = ap (λ b. if b then held_word d t.word else found) e in (
          events.Read t.lock ∷ [],
          inr (differ found t.word e, refl),
          subst (λ (q : PartState). Goes m l r (events.Read t.lock ∷ []) w (record { word = word_of hold; part = table.upd s.part r (noting m l r (kinds.Hold t d) (spots.Cell t.lock) (Exchanges t.word (held_word d t.word)) found p q) })) (sym after)
              (read_goes m l w s old r t.lock _ refl (noted_finished l r (kinds.Hold t d) (spots.Cell t.lock) (Exchanges t.word (held_word d t.word)) found p.records) refl (word_of hold)
              (subst (λ n. SameWords s.word (put s.word (spots.Cell t.lock) n)) (sym same) (load_same s.word (spots.Cell t.lock)))),
        )
      where
        differ : (a b : ℕ) → (a == b) ≡ false → a ≢ b
        differ a b e = grind (arith, nat_tests)

    pub hold_goes : (b : Bool) → (found == t.word) ≡ b → To (kinds.Hold t d) hold
    hold_goes true e = won e
    hold_goes false e = lost e

  pub hold_kind : (t : Thunk) (d : ℕ) (x : Spot × Access) → outside_ask m l rs r (kinds.Hold t d) p ≡ Some x → ((k : ℕ) → has p.descriptors.free k ≡ true → w.used k ≡ false)
      → (s.word (spots.Cell t.lock) ≡ t.word → MayPublish m l w s r t d) → To (kinds.Hold t d) x
  hold_kind t d x e unused supplied =
      let h = asked.hold_asked m l rs r t d p x e in
      subst (To (kinds.Hold t d)) h.is (hold_goes t d (unused d h.free) supplied (s.word (spots.Cell t.lock) == t.word) refl)

  -- a scan goes on, or is over
  pub scan_one : (n : ℕ) (x : Spot × Access) → outside_ask m l rs r (kinds.ScanOne n) p ≡ Some x → To (kinds.ScanOne n) x
  scan_one n x e =
      let h = asked.scan_one_asked l n p.stage x e in
      quiet (kinds.ScanOne n) x refl (loads (spots.Announcement n) x h.4) (by_stage p.stage)
    where
      Same : PartState → Type 0
      Same q = IsSamePart m l p (noting m l r (kinds.ScanOne n) x.0 x.1 (s.word x.0) p q)

      stayed : Same p
      stayed = noted_part (kinds.ScanOne n) x p.stage p.nodes p.records refl

      by_test : (epoch next : ℕ) (clear b b' : Bool) → Same (if b then (if b' then outside.collected p epoch else outside.with_stage p (stages.Scanning epoch next clear)) else p)
      by_test epoch next clear true true = noted_part (kinds.ScanOne n) x stages.Idle (lists.nodes_collected epoch p.nodes) p.records refl
      by_test epoch next clear true false = noted_part (kinds.ScanOne n) x (stages.Scanning epoch next clear) p.nodes p.records refl
      by_test epoch next clear false b' = stayed

      by_stage : (q : Stage) → Same (outside.scan_one_after l p q (s.word x.0))
      by_stage (stages.Scanning epoch next clear) = by_test epoch (next + 1) (clear && is_clear epoch (s.word x.0)) (nat_le next l.runners) (next == l.runners && not ((clear && is_clear epoch (s.word x.0)) && nat_lt epoch last_epoch))
      by_stage stages.Idle = stayed
      by_stage (stages.Loaded g) = stayed
      by_stage stages.Announced = stayed
      by_stage (stages.Entered g) = stayed

  pub advance : (x : Spot × Access) → outside_ask m l rs r kinds.Advance p ≡ Some x → To kinds.Advance x
  advance x e =
      let h = asked.advance_asked l p.stage x e in
      quiet kinds.Advance x refl (subst (λ (y : Spot × Access). SameWords s.word (word_of y)) h.5
      (record { cells = λ i. refl; clock = refl; stamp = λ i. refl; reply = λ i. refl; thunks = λ d j. refl; done = λ d. refl })) (by_stage p.stage)
    where
      Same : PartState → Type 0
      Same q = IsSamePart m l p (noting m l r kinds.Advance x.0 x.1 (s.word x.0) p q)

      stayed : Same p
      stayed = noted_part kinds.Advance x p.stage p.nodes p.records refl

      by_test : (epoch : ℕ) (b : Bool) → Same (if b then outside.collected p epoch else p)
      by_test epoch true = noted_part kinds.Advance x stages.Idle (lists.nodes_collected epoch p.nodes) p.records refl
      by_test epoch false = stayed

      by_stage : (q : Stage) → Same (outside.advance_after p q)
      by_stage (stages.Scanning epoch next clear) = by_test (epoch + 1) (nat_lt epoch last_epoch)
      by_stage stages.Idle = stayed
      by_stage (stages.Loaded g) = stayed
      by_stage stages.Announced = stayed
      by_stage (stages.Entered g) = stayed

  -- a guard word moves, or is read
  pub guard : (d : Option ℕ) (x : Spot × Access) → outside_ask m l rs r (kinds.Guard d) p ≡ Some x → To (kinds.Guard d) x
  guard d x e = let h = asked.guard_asked l r d p x e in
      quiet (kinds.Guard d) x refl (subst (λ (y : Spot × Access). SameWords s.word (word_of y)) h.is
      (record { cells = λ i. refl; clock = refl; stamp = λ i. refl; reply = λ i. refl; thunks = λ d j. refl; done = λ d. refl }))
      (record { run = refl; finished = noted_finished l r (kinds.Guard d) x.0 x.1 (s.word x.0) p.records; read = λ a b h. h })

  -- the part after one more guard word was read
  abbrev swept_part : Bool → List ℕ → PartState
  swept_part b words = record p {
    descriptors = (if b then lists.descriptors_swept words p.descriptors else p.descriptors);
    guards = lists.with_looked p.guards (if b then [] else words);
  }

  pub load_guard : (n : ℕ) (x : Spot × Access) → outside_ask m l rs r (kinds.LoadGuard n) p ≡ Some x
      → (is_last_guard l p.guards.looked ≡ true → (d : ℕ) → has (unnamed (p.guards.looked ++ s.word x.0 ∷ []) p) d ≡ true → IsIdle w d) → To (kinds.LoadGuard n) x
  load_guard n x e idle =
      let h = asked.load_guard_asked l n p x e in
      (_, refl, sweeps_by (is_last_guard l p.guards.looked) (loads (spots.Guard n) x h.is) idle)
    where
      same : (b : Bool) → IsSamePart m l p (noting m l r (kinds.LoadGuard n) x.0 x.1 (s.word x.0) p (swept_part b (p.guards.looked ++ s.word x.0 ∷ [])))
      same b = record { run = refl; finished = noted_finished l r (kinds.LoadGuard n) x.0 x.1 (s.word x.0) p.records; read = λ a b h. h }

      sweeps_by : (b : Bool) → SameWords s.word (word_of x) → (b ≡ true → (d : ℕ) → has (unnamed (p.guards.looked ++ s.word x.0 ∷ []) p) d ≡ true → IsIdle w d)
          → Goes m l r (if b then frees (unnamed (p.guards.looked ++ s.word x.0 ∷ []) p) else []) w (record { word = word_of x; part = table.upd s.part r (noting m l r (kinds.LoadGuard n) x.0 x.1 (s.word x.0) p (swept_part b (p.guards.looked ++ s.word x.0 ∷ []))) })
      sweeps_by true seen idle =
          let free = freed m l s (unnamed (p.guards.looked ++ s.word x.0 ∷ []) p) w old (idle refl) in
          record {
            next = free.next;
            leads = leads_alone m l r (frees (unnamed (p.guards.looked ++ s.word x.0 ∷ []) p)) w free.next free.leads;
            joined = quiet_joined m l free.next s free.joined r (word_of x) _ seen (same true);
          }
      sweeps_by false seen idle = quiet_goes m l w s old r (word_of x) _ seen (same false)

  -- a word of the board is loaded, or a node slot comes from there or goes there: the component sees nothing of it
  abbrev board_words : (i v : ℕ) → SameWords s.word (put s.word (spots.Board i) v)
  board_words i v = record { cells = λ k. refl; clock = refl; stamp = λ k. refl; reply = λ k. refl; thunks = λ d j. refl; done = λ d. refl }

  pub board_load : (word : ℕ) (x : Spot × Access) → outside_ask m l rs r (kinds.BoardLoad word) p ≡ Some x → To (kinds.BoardLoad word) x
  board_load word x e = quiet (kinds.BoardLoad word) x refl (loads (spots.Board word) x (board.board_load_asked l r word p x e).is)
      (noted_part (kinds.BoardLoad word) x p.stage p.nodes p.records refl)

  pub board_take : (word link : ℕ) (x : Spot × Access) → outside_ask m l rs r (kinds.BoardTake word link) p ≡ Some x → To (kinds.BoardTake word link) x
  board_take word link x e =
      quiet (kinds.BoardTake word link) x refl (subst (λ (y : Spot × Access). SameWords s.word (word_of y)) (board.board_take_asked l r word link p x e).is (board_words word _))
      (noted_part (kinds.BoardTake word link) x p.stage (outside_after m l (kinds.BoardTake word link) p (s.word x.0)).nodes p.records refl)

  pub board_give : (word slot : ℕ) (x : Spot × Access) → outside_ask m l rs r (kinds.BoardGive word slot) p ≡ Some x → To (kinds.BoardGive word slot) x
  board_give word slot x e =
      quiet (kinds.BoardGive word slot) x refl (subst (λ (y : Spot × Access). SameWords s.word (word_of y)) (board.board_give_asked l r word slot p x e).is (board_words word _))
      (let given = outside_after m l (kinds.BoardGive word slot) p (s.word x.0) in noted_part (kinds.BoardGive word slot) x p.stage given.nodes given.records refl)
