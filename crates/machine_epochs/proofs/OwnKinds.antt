-- Every kind of step keeps what a part says of its descriptors and limbo lists.
use Rattle.std.specs.Prelude.{◌==◌, ◌&&◌, cond, if◌then◌else◌, Bool, true, false, nat_lt, nat_le, slice_index_or, All}
use Rattle.std.proofs.Common.{◌≡◌, ℕ, ◌+◌, ◌-◌, ◌<◌, ◌≤◌, List, [], ◌∷◌, ◌++◌, length, refl, sym, ap, ◌∙◌, subst, arith, ⊎_elim, Option, Some, None}
use Rattle.std.proofs.lemmas.List.Elements.{All-push}
use Rattle.machine_states.specs.map_history.specs.declared.op.Request.{Request}
use Rattle.machine_states.specs.body_terms.specs.declared.thunk.Thunk.{Thunk}
use Rattle.machine_states.specs.body_terms.specs.declared.micro.Micro.{Micro}
use Rattle.machine_states.specs.body_terms.specs.declared.micro.Micro.TheVariants as micros
use Rattle.machine_states.specs.body_terms.specs.Line.{is_event, micro_at, ending}
use Rattle.machine_states.specs.body_terms.specs.Run.{settled, written_once}
use Rattle.machine_states.specs.table_words.specs.declared.layout.Layout.{Layout}
use Rattle.machine_states.specs.table_words.specs.declared.spot.Spot.{Spot}
use Rattle.machine_states.specs.table_words.specs.declared.spot.Spot.TheVariants.{Epoch}
use Rattle.machine_states.specs.table_words.specs.declared.access.Access.{Access}
use Rattle.machine_states.specs.structure_laws.specs.Meaning.{Meaning}
use Rattle.machine_states.specs.runner_parts.specs.declared.event.EventKind.{EventKind}
use Rattle.machine_states.specs.runner_parts.specs.declared.event.EventKind.TheVariants as kinds
use Rattle.machine_states.specs.epoch_core.specs.declared.stage.Stage.{Stage}
use Rattle.machine_states.specs.epoch_core.specs.declared.stage.Stage.TheVariants.{Idle, Loaded, Announced, Entered, Scanning}
use Rattle.machine_states.specs.runner_parts.specs.declared.entries.Tested.{Tested}
use Rattle.machine_states.specs.runner_parts.specs.State.{RunState, PartState, NodesState, GuardsState, ReadsState, RecordsState}
use Rattle.machine_states.specs.runner_parts.specs.Tests.{has}
use Rattle.machine_states.specs.runner_steps.specs.Sections.{thunk_of, is_open_run, line_of, next_of, setting_of, needs_link}
use Rattle.machine_states.specs.runner_steps.specs.Outside.{blocks_from}
use Rattle.machine_states.specs.runner_parts.specs.Lists as lists
use Rattle.machine_states.specs.runner_steps.specs.AfterOutside as outside
use Rattle.machine_states.specs.runner_steps.specs.AfterInRun as runs
use Rattle.machine_states.specs.runner_steps.specs.Asks.{outside_ask, line_ask, opening_ask, inside_ask}
use Rattle.machine_states.specs.runner_steps.specs.After.{outside_after, line_after, inside_after}
use Rattle.machine_states.proofs.Steps.{some_same}
use Rattle.machine_states.proofs.Sights.{some_none}
use Rattle.machine_epochs.specs.Slots.{retire_before, retiring_of}
use Rattle.machine_states.specs.epoch_core.specs.State.{Retiring, no_retire}
use Rattle.machine_epochs.proofs.OutsideAsked as asked
use Rattle.machine_epochs.proofs.InsideAsked as inside
use Rattle.machine_epochs.proofs.RunPlaces.{next_in_line, open_run, goes_on_unretired, begins_unretired}
use Rattle.machine_epochs.proofs.OwnDescriptors.{IsOwn, IsRecent, IsSameLists, stays, idles, collects, sweeps, publishes, over_counts}
use Rattle.machine_states.specs.runner_steps.specs.AfterOutside.{published_by}

-- whether this is a step that loads an epoch for a Retire
abbrev is_retire : Micro → Bool
is_retire (micros.EpochForRetire slot log) = true
is_retire _ = false

-- at no Retire no epoch is loaded
no_loaded : {B : Type 0} {y : Retiring} → y ≡ no_retire → y.loaded ≡ true → B
no_loaded e is = absurd (let z = sym (ap (λ (a : Retiring). a.loaded) e) ∙ is in cc)

looked_limbo : (l : Layout) (n : NodesState) (slot cell word : ℕ) → (lists.nodes_looked l n slot cell word).limbo ≡ n.limbo
looked_limbo l n slot cell word = by_test (has n.hand slot && (cell == (lists.test_of n.tests slot).cells && nat_lt cell 5)) (lists.one_more l (lists.test_of n.tests slot) word)
  where
    back : (slot : ℕ) (worn : Bool) → (lists.slot_back n slot worn).limbo ≡ n.limbo
    back slot true = refl
    back slot false = refl

    whole : (b : Bool) (y : Tested) → (cond b (lists.slot_back n y.slot y.worn) (record n { tests = lists.tests_without n.tests y.slot ++ y ∷ [] })).limbo ≡ n.limbo
    whole true y = back y.slot y.worn
    whole false y = refl

    by_test : (b : Bool) (y : Tested) → (cond b (lists.slot_tested n y) n).limbo ≡ n.limbo
    by_test true y = whole (y.cells == 5) y
    by_test false y = refl

module _ (m : Meaning) (l : Layout) (rs : List Request) (epoch r : ℕ) (p : PartState) (old : IsOwn m l epoch r p) (x : Spot × Access) (found : ℕ) (loaded : x.0 ≡ Epoch → found ≡ epoch) (entered : (g : ℕ) → p.stage ≡ Entered g → g ≤ epoch) (records : RecordsState) where
  abbrev Own : PartState → Type 0
  Own p' = IsOwn m l epoch r (record p' { records = records })

  module _ (none : p.run ≡ None) where
    same_lists : IsSameLists p p
    same_lists = record { free = refl; limbo = refl; published = λ d. refl; nodes = refl }

    -- another stage, in which nothing is entered
    to_stage : (st : Stage) → Own (outside.with_stage p st)
    to_stage st = idles m l epoch r p (record p { stage = st; records = records }) (record { free = refl; limbo = refl; published = λ d. refl; nodes = refl }) none old

    -- nothing of it has changed
    unmoved : (guards : GuardsState) (nodes : NodesState) → nodes.limbo ≡ p.nodes.limbo → (reads : ReadsState) → Own (record p { nodes = nodes; guards = guards; reads = reads })
    unmoved guards nodes limbo reads = idles m l epoch r p (record p { nodes = nodes; guards = guards; reads = reads; records = records }) (record { free = refl; limbo = refl; published = λ d. refl; nodes = limbo }) none old

    alike : Own p
    alike = unmoved p.guards p.nodes refl p.reads

    enters : (g : ℕ) → Own (outside.entered p g)
    enters g = idles m l epoch r p (record p { stage = Entered g; guards = lists.with_looked p.guards []; reads = lists.no_reads; records = records }) (record { free = refl; limbo = refl; published = λ d. refl; nodes = refl }) none old

    scan_more : (b b' : Bool) (e : ℕ) (st : Stage) → Own (cond b (cond b' (outside.collected p e) (outside.with_stage p st)) p)
    scan_more true true e st = collects m l epoch r p old none records e
    scan_more true false e st = to_stage st
    scan_more false b' e st = alike

    scans : (st : Stage) → Own (outside.scan_one_after l p st found)
    scans (Scanning e next clear) = scan_more (nat_le next l.runners) _ e (Scanning e (next + 1) _)
    scans Idle = alike
    scans (Loaded e) = alike
    scans Announced = alike
    scans (Entered g) = alike

    advance_more : (b : Bool) (e : ℕ) → Own (cond b (outside.collected p e) p)
    advance_more true e = collects m l epoch r p old none records e
    advance_more false e = alike

    advances : (st : Stage) → Own (outside.advance_after p st)
    advances (Scanning e next clear) = advance_more _ (e + 1)
    advances Idle = alike
    advances (Loaded e) = alike
    advances Announced = alike
    advances (Entered g) = alike

    splits : (b : Bool) → Own (cond b (record p { records = record (p.records) { splits = p.records.splits + 1 } }) p)
    splits true = alike
    splits false = alike

    stores : (slot word number : ℕ) → Own (outside.descriptor_known m l slot word p number)
    stores slot word number = idles m l epoch r p (record (outside.descriptor_known m l slot word p number) { records = records }) (record { free = refl; limbo = refl; published = λ d. refl; nodes = refl }) none old

    looks : (slot word : ℕ) (b : Bool) → Own (cond b (record p { nodes = lists.nodes_looked l p.nodes slot word found }) (outside.descriptor_known m l slot word p found))
    looks slot word true = unmoved p.guards _ (looked_limbo l p.nodes slot word found) p.reads
    looks slot word false = stores slot word found

    holds : (t : Thunk) (d : ℕ) → asked.HoldAsked m l rs t d p x → (b : Bool) → Own (cond b (record p {
      published = Some (published_by t d p);
      descriptors = lists.descriptor_taken p.descriptors d;
      guards = lists.published_seen p.guards d;
      reads = lists.cell_read p.reads t.lock found;
    }) (record p { reads = lists.cell_read p.reads t.lock found }))
    holds t d h true = publishes m l epoch r p old none records d h.few h.free h.unpublished t found
    holds t d h false = unmoved _ p.nodes refl _

    opens : (d : ℕ) → Own (outside.open_after d p found)
    opens d =
        let begun : RunState = outside.opened d found in
        stays m l epoch r p (record p { run = Some begun; records = records }) (record { free = refl; limbo = refl; published = λ d. refl; nodes = refl })
        (subst (λ y. y ≤ epoch) (sym (ap (λ y. y.epoch) (begins_unretired m begun refl))) (omega arith)) (λ g at is. no_loaded (begins_unretired m begun refl) is) (λ q at few. ap (λ (a : RunState). a.at) (sym (some_same begun q at))) old

    pub outside_own : (kind : EventKind) → outside_ask m l rs r kind p ≡ Some x → Own (outside_after m l kind p found)
    outside_own kinds.EnterLoad e = to_stage (Loaded found)
    outside_own kinds.Announce e = to_stage Announced
    outside_own kinds.EnterAgain e = enters found
    outside_own kinds.Idle e = to_stage Idle
    outside_own kinds.ScanEpoch e = to_stage (Scanning found 0 true)
    outside_own (kinds.ScanOne n) e = scans p.stage
    outside_own kinds.Advance e = advances p.stage
    outside_own kinds.Split e = splits _
    outside_own (kinds.Join worker) e = alike
    outside_own (kinds.LoadCell (Some place)) e = unmoved _ p.nodes refl _
    outside_own (kinds.LoadEntry request reply) e = alike
    outside_own (kinds.PrivateLoad slot word) e = looks slot word _
    outside_own (kinds.PrivateStore slot word number) e = stores slot word number
    outside_own (kinds.Hold thunk d) e = holds thunk d (asked.hold_asked m l rs r thunk d p x e) _
    outside_own (kinds.LoadThunk (Some d)) e = opens d
    outside_own (kinds.ReadPlan thunk) e = unmoved _ p.nodes refl _
    outside_own kinds.ReadClock e = unmoved _ p.nodes refl _
    outside_own kinds.ReadReply e = unmoved _ p.nodes refl _
    outside_own kinds.ReadStamp e = unmoved _ p.nodes refl _
    outside_own (kinds.Guard d) e = unmoved _ p.nodes refl _
    outside_own (kinds.LoadGuard n) e = sweeps m l epoch r p old none records _ _ _
    outside_own (kinds.BoardLoad word) e = alike
    outside_own (kinds.BoardTake word link) e = unmoved p.guards _ refl p.reads
    outside_own (kinds.BoardGive word slot) e = unmoved p.guards _ refl p.reads
    outside_own _ e = some_none x e

  module _ (q : RunState) (at : p.run ≡ Some q) where
    -- the part after a step of the run: its lists are these, and so is its run's Retire
    in_run : (p' : PartState) → IsSameLists p' p → (retiring_of m p'.run).epoch ≤ epoch → IsRecent m p'
        → ((q' : RunState) → p'.run ≡ Some q' → length q'.opened < 13 → q'.at ≡ 0) → IsOwn m l epoch r p'
    in_run p' same retire least begins = stays m l epoch r p p' same retire least begins old

    -- one more word is loaded
    opens_more : length q.opened < 13 → Own (runs.opened_more p q found)
    opens_more few =
        let more : RunState = record q { opened = q.opened ++ found ∷ [] } in
        let start = old.run_begins q at few in
        in_run (record p { run = Some more; records = records }) (record { free = refl; limbo = refl; published = λ d. refl; nodes = refl })
        (subst (λ y. y ≤ epoch) (sym (ap (λ y. y.epoch) (begins_unretired m more start))) (omega arith)) (λ g at' is. no_loaded (begins_unretired m more start) is) (λ q' e few'. ap (λ (a : RunState). a.at) (sym (some_same more q' e)) ∙ start)

    opening_own : (kind : EventKind) → opening_ask kind q ≡ Some x → Own (runs.opened_more p q found)
    opening_own (kinds.LoadThunk None) e = opens_more (let low = (inside.open_more_asked q x e).0 in omega arith)
    opening_own kinds.LoadDone e = opens_more (let low = (inside.load_done_asked q x e).0 in omega arith)
    opening_own _ e = some_none x e

    module _ (is_open : is_open_run q ≡ true) where
      all_loaded : length q.opened ≡ 13
      all_loaded = open_run q is_open

      -- the run in its line, where no epoch for a Retire is loaded
      moves : ((s k : ℕ) → next_of m q ≡ micros.EpochForRetire s k → ⊥) → (q' : RunState) → q'.opened ≡ q.opened → (trail : List ℕ) → q'.at ≡ settled (setting_of l q.descriptor) trail (line_of m q) (q.at + 1)
          → (nodes : NodesState) → nodes.limbo ≡ p.nodes.limbo → (reads : ReadsState) → Own (record p { run = Some q'; nodes = nodes; reads = reads })
      moves other q' opened trail rests nodes limbo reads =
          in_run (record p { run = Some q'; nodes = nodes; reads = reads; records = records }) (record { free = refl; limbo = refl; published = λ d. refl; nodes = limbo })
          (subst (λ y. y ≤ epoch) (sym (ap (λ y. y.epoch) (goes_on_unretired m l q (micro_at (line_of m q) q.at) refl (λ s k e. other s k (ahead s k e)) q' opened trail rests))) (omega arith))
          (λ g at' is. no_loaded (goes_on_unretired m l q (micro_at (line_of m q) q.at) refl (λ s k e. other s k (ahead s k e)) q' opened trail rests) is)
          (λ q2 e few. absurd (let all = ap (λ (a : RunState). length a.opened) (sym (some_same q' q2 e)) ∙ (ap (λ (xs : List ℕ). length xs) opened ∙ all_loaded) in omega arith))
        where
          ahead : (s k : ℕ) → micro_at (line_of m q) q.at ≡ micros.EpochForRetire s k → next_of m q ≡ micros.EpochForRetire s k
          ahead s k e = let t = thunk_of q.opened in ap (λ (μ : Micro). cond (is_event μ) μ (slice_index_or (ending (line_of m q) q.at t.lock t.word) q.ended micros.End)) e

      -- a run that stands where it stood, or is over
      same_retire : (micro : Micro) → (retire_before (runs.ended_more q) micro).epoch ≡ (retire_before q micro).epoch
      same_retire (micros.RetireCommit s k) = refl
      same_retire _ = refl

      same_loaded : (micro : Micro) → (retire_before (runs.ended_more q) micro).loaded ≡ (retire_before q micro).loaded
      same_loaded (micros.RetireCommit s k) = refl
      same_loaded _ = refl

      was_least : (g : ℕ) → p.stage ≡ Entered g → (retire_before q (micro_at (line_of m q) q.at)).loaded ≡ true → g ≤ (retire_before q (micro_at (line_of m q) q.at)).epoch
      was_least g stage = subst (λ (o : Option RunState). (retiring_of m o).loaded ≡ true → g ≤ (retiring_of m o).epoch) at (old.retire_least g stage)

      was_most : (retire_before q (micro_at (line_of m q) q.at)).epoch ≤ epoch
      was_most = subst (λ (o : Option RunState). (retiring_of m o).epoch ≤ epoch) at old.retire_most

      ends_more : (reads : ReadsState) → Own (record p { run = Some (runs.ended_more q); reads = reads })
      ends_more reads =
          in_run (record p { run = Some (runs.ended_more q); reads = reads; records = records }) (record { free = refl; limbo = refl; published = λ d. refl; nodes = refl })
          (subst (λ n. n ≤ epoch) (sym (same_retire (micro_at (line_of m q) q.at))) was_most)
          (λ g stage is. subst (λ n. g ≤ n) (sym (same_retire (micro_at (line_of m q) q.at))) (was_least g stage (sym (same_loaded (micro_at (line_of m q) q.at)) ∙ is)))
          (λ q2 e few. absurd (let all = ap (λ (a : RunState). length a.opened) (sym (some_same (runs.ended_more q) q2 e)) ∙ all_loaded in omega arith))

      is_over : (reads : ReadsState) → Own (record p { run = None; published = runs.kept_unless p.published q.descriptor; descriptors = runs.retired_if p.descriptors p.published q.descriptor; reads = reads })
      is_over reads = record {
        once = λ d few. over_counts p q.descriptor d ∙ old.once d few;
        nodes_most = old.nodes_most;
        retire_most = omega arith;
        retire_least = λ g stage is. absurd (let y = is in cc);
        run_begins = λ q2 e few. absurd (let y = e in cc);
      }

      releases : (b : Bool) (reads : ReadsState) (finished : RecordsState)
          → Own (cond b (record p { run = None; published = runs.kept_unless p.published q.descriptor; descriptors = runs.retired_if p.descriptors p.published q.descriptor; reads = reads; records = finished }) (record p { run = Some (runs.ended_more q); reads = reads }))
      releases true reads finished = is_over reads
      releases false reads finished = ends_more reads

      -- a run that links a block stands where it stood
      linking_retire : (links : List ℕ) (block : Option ℕ) (emptied : ℕ) (won : List ℕ) (micro : Micro) → retire_before (record q { links = links; block = block; emptied = emptied; won = won }) micro ≡ retire_before q micro
      linking_retire links block emptied won (micros.RetireCommit s k) = refl
      linking_retire links block emptied won _ = refl

      links_more : (links : List ℕ) (block : Option ℕ) (emptied : ℕ) (won : List ℕ) → Own (record p { run = Some (record q { links = links; block = block; emptied = emptied; won = won }) })
      links_more links block emptied won =
          let q' : RunState = record q { links = links; block = block; emptied = emptied; won = won } in
          let same = linking_retire links block emptied won (micro_at (line_of m q) q.at) in
          in_run (record p { run = Some q'; records = records }) (record { free = refl; limbo = refl; published = λ d. refl; nodes = refl })
          (subst (λ n. n ≤ epoch) (sym (ap (λ (y : Retiring). y.epoch) same)) was_most)
          (λ g stage is. subst (λ n. g ≤ n) (sym (ap (λ (y : Retiring). y.epoch) same)) (was_least g stage (sym (ap (λ (y : Retiring). y.loaded) same) ∙ is)))
          (λ q2 e few. absurd (let all = ap (λ (a : RunState). length a.opened) (sym (some_same q' q2 e)) ∙ all_loaded in omega arith))

      stores_by : (slot number : ℕ) (b : Bool) → needs_link q (next_of m q) ≡ b → Own (runs.with_run p (if b then runs.block_emptied (slot - blocks_from m l) q else runs.filled m l number q))
          → Own (runs.private_stored m l slot number p q (next_of m q))
      stores_by slot number b is own = subst (λ c. Own (runs.with_run p (if c then runs.block_emptied (slot - blocks_from m l) q else runs.filled m l number q))) (sym is) own

      -- the epoch for a Retire is loaded
      some_most : (q' : RunState) (micro : Micro) → q'.word ≡ epoch → (retire_before q' micro).epoch ≤ epoch
      some_most q' (micros.RetireCommit s k) e = omega arith
      some_most q' _ e = omega arith

      some_least : (q' : RunState) (micro : Micro) → q'.word ≡ epoch → (g : ℕ) → g ≤ epoch → (retire_before q' micro).loaded ≡ true → g ≤ (retire_before q' micro).epoch
      some_least q' (micros.RetireCommit s k) e g low is = omega arith
      some_least q' _ e g low is = absurd (let y = is in cc)

      loads_epoch : found ≡ epoch → Own (runs.number_loaded m l p q found)
      loads_epoch now =
          let q' = runs.goes_on m l q found in
          in_run (record p { run = Some q'; records = records }) (record { free = refl; limbo = refl; published = λ d. refl; nodes = refl }) (some_most q' (micro_at (line_of m q') q'.at) now)
          (λ g stage is. some_least q' (micro_at (line_of m q') q'.at) now g (entered g stage) is)
          (λ q2 e few. absurd (let all = ap (λ (a : RunState). length a.opened) (sym (some_same q' q2 e)) ∙ all_loaded in omega arith))

      no_other : (micro : Micro) → is_retire micro ≡ false → next_of m q ≡ micro → (s k : ℕ) → next_of m q ≡ micros.EpochForRetire s k → ⊥
      no_other micro out ahead s k e = let y = sym out ∙ ap is_retire (sym ahead ∙ e) in cc

      -- the commit of a Retire puts the slot into limbo where it won
      limbo_by : (b : Bool) (slot : ℕ) → q.word ≤ epoch → All (λ y. y.epoch ≤ epoch) (cond b (lists.slot_retired p.nodes slot q.word) p.nodes).limbo
      limbo_by true slot low = All-push (λ y. y.epoch ≤ epoch) p.nodes.limbo (record { slot = slot; epoch = q.word }) old.nodes_most low
      limbo_by false slot low = old.nodes_most

      retire_own : (slot k : ℕ) → next_of m q ≡ micros.RetireCommit slot k → (slot' : ℕ) → Own (runs.retire_committed m l slot' p q found)
      retire_own slot k ahead slot' =
          let low : q.word ≤ epoch = subst (λ (μ : Micro). (retire_before q μ).epoch ≤ epoch) (next_in_line m q (micros.RetireCommit slot k) refl ahead) was_most in
          let q' = runs.agrees m l q (written_once found (slot' + 1)) in
          let kept = moves (no_other (micros.RetireCommit slot k) refl ahead) q' refl (q.trail ++ written_once found (slot' + 1) ∷ []) refl p.nodes refl p.reads in
          record {
            once = kept.once;
            nodes_most = limbo_by (found == 0) slot' low;
            retire_most = kept.retire_most;
            retire_least = kept.retire_least;
            run_begins = kept.run_begins;
          }

      made_limbo : (slot : ℕ) → (runs.made p q slot found).limbo ≡ p.nodes.limbo
      made_limbo slot = by_test (found == 0) q.worn
        where
          by_test : (b b' : Bool) → (cond b (lists.slot_made p.nodes slot) (lists.slot_back p.nodes slot b')).limbo ≡ p.nodes.limbo
          by_test true b' = refl
          by_test false true = refl
          by_test false false = refl

      module _ (other : (s k : ℕ) → next_of m q ≡ micros.EpochForRetire s k → ⊥) where
        goes : (word : ℕ) (reads : ReadsState) → Own (record p { run = Some (runs.goes_on m l q word); reads = reads })
        goes word reads = moves other (runs.goes_on m l q word) refl q.trail refl p.nodes refl reads

        commits : Own (runs.word_committed m l p q found)
        commits = moves other (runs.agrees m l q (written_once found q.word)) refl (q.trail ++ written_once found q.word ∷ []) refl p.nodes refl p.reads

        fills : (slot : ℕ) (o : Option ℕ) → Own (runs.fill_loaded m l slot p q o found)
        fills slot None = moves other (runs.goes_on m l (record q { made = Some slot; worn = false }) found) refl q.trail refl (lists.slot_taken p.nodes slot) refl p.reads
        fills slot (Some t) = goes found p.reads

        makes : (o : Option ℕ) → q.made ≡ o → (slot : ℕ) → o ≡ Some slot → Own (runs.make_committed m l p q o found)
        makes None is slot e = absurd (let y = e in cc)
        makes (Some t) is slot e = moves other (runs.agrees m l (record q { made = None; worn = false }) (written_once found (t + 1))) refl (q.trail ++ written_once found (t + 1) ∷ []) refl (runs.made p q t found) (made_limbo t) p.reads

        stamps : (b : Bool) (stamp : ℕ) (learned : RecordsState) → b ≡ true → Own (cond b (record p { run = Some (runs.goes_on m l q stamp); records = learned }) p)
        stamps true stamp learned e = goes stamp p.reads
        stamps false stamp learned e = absurd (let y = e in cc)

      line_own : (kind : EventKind) → line_ask m l kind p.nodes.free p.blocks.free q (next_of m q) ≡ Some x → Own (line_after m l kind p q (next_of m q) found)
      line_own kinds.Commit e = let h = inside.commit_asked q x (next_of m q) e in
          commits (⊎_elim (λ a. no_other (micros.Commit h.step.0 h.log) refl a) (λ a. no_other (micros.NestedCommit h.step.0 h.log) refl a) h.step.1)
      line_own (kinds.LoadCell None) e = let h = inside.load_cell_asked q x (next_of m q) e in goes (no_other (micros.LoadCell h.place h.step.0) refl h.step.1) found _
      line_own kinds.ExchangeCell e = let h = inside.exchange_cell_asked q x l (next_of m q) e in goes (no_other (micros.ExchangeCell h.place h.step.0 h.step.1) refl h.step.2) q.word _
      line_own (kinds.PrivateLoad slot word) e = let h = inside.fill_load_asked q x m l slot word p.nodes.free (next_of m q) e in fills (no_other (micros.PrivateLoad h.0 h.1) refl h.3) slot q.made
      line_own (kinds.PrivateStore slot word number) e = ⊎_elim
          (λ link. stores_by slot number true link.0 (links_more q.links (Some (slot - blocks_from m l)) (runs.emptied_more q) q.won))
          (λ fills. let h = inside.fill_store_asked q x m l slot word number (next_of m q) fills.1 in
          stores_by slot number false fills.0 (moves (no_other (micros.PrivateStore h.0 h.1 h.3) refl h.4) (runs.filled m l number q) refl q.trail refl p.nodes refl p.reads))
          (inside.run_store_asked q x m l slot word number p.blocks.free (next_of m q) e)
      line_own (kinds.LinkCommit b) e = links_more _ None 0 _
      line_own kinds.MakeCommit e = let h = inside.make_commit_asked q x (next_of m q) e in makes (no_other (micros.MakeCommit h.2.log) refl h.2.step) q.made refl h.0 h.1
      line_own kinds.RetireCommit e = let h = inside.retire_commit_asked q x (next_of m q) e in retire_own h.0 h.1.log h.1.step _
      line_own kinds.EpochForRetire e = let h = inside.epoch_for_retire_asked q x (next_of m q) e in loads_epoch (loaded (ap (λ (y : Spot × Access). y.0) (sym h.3)))
      line_own kinds.SetDone e = ends_more p.reads
      line_own kinds.Release e = releases _ _ _
      line_own kinds.ClockLoad e = let h = inside.clock_load_asked q x (next_of m q) e in goes (no_other micros.ClockLoad refl h.0) found p.reads
      line_own kinds.StampExchange e = let h = inside.stamp_exchange_asked q x (next_of m q) e in stamps (no_other micros.StampExchange refl h.0) _ _ _ h.1
      line_own kinds.ClockRaise e = let h = inside.clock_raise_asked q x (next_of m q) e in goes (no_other micros.ClockRaise refl h.0) q.word p.reads
      line_own kinds.ReplyExchange e = let h = inside.reply_exchange_asked q x (next_of m q) e in goes (no_other (micros.ReplyExchange h.0) refl h.1) q.word p.reads
      line_own kinds.NestedLoad e = let h = inside.nested_load_asked q x (next_of m q) e in goes (no_other (micros.NestedLoad h.place h.step.0) refl h.step.1) found _
      line_own kinds.NestedHold e = let h = inside.nested_hold_asked q x l (next_of m q) e in goes (no_other (micros.NestedHold h.place h.step.0) refl h.step.1) q.word _
      line_own kinds.OutcomeLoad e = let h = inside.outcome_load_asked q x (next_of m q) e in goes (no_other (micros.OutcomeLoad h.place h.step.0) refl h.step.1) found _
      line_own kinds.OutcomeCommit e = let h = inside.outcome_commit_asked q x (next_of m q) e in commits (no_other (micros.OutcomeCommit h.step.0 h.log) refl h.step.1)
      line_own _ e = some_none x e

    inside_by : (kind : EventKind) (b : Bool) → is_open_run q ≡ b → cond b (line_ask m l kind p.nodes.free p.blocks.free q (next_of m q)) (opening_ask kind q) ≡ Some x → Own (cond b (line_after m l kind p q (next_of m q) found) (runs.opened_more p q found))
    inside_by kind true is e = line_own is kind e
    inside_by kind false is e = opening_own kind e

    pub inside_own : (kind : EventKind) → inside_ask m l kind p.nodes.free p.blocks.free q ≡ Some x → Own (inside_after m l kind p q found)
    inside_own kind e = inside_by kind (is_open_run q) refl e
