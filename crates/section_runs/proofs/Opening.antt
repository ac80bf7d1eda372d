-- The opening of a run, load by load.
use Rattle.std.proofs.Common.{◌≡◌, ℕ, zero, suc, ◌+◌, ◌<◌, List, [], ◌∷◌, ◌++◌, length, length-append, Bool, true, false, refl, sym, ap, ◌∙◌, subst, arith, Option, Some, None}
use Rattle.std.specs.Prelude.{◌==◌, ◌&&◌, nat_lt, if◌then◌else◌}
use Rattle.std.proofs.lemmas.Bool.{and_parts}
use Rattle.std.proofs.lemmas.Bool.Decides.{nat_tests}
use Rattle.idem_cell.specs.machine_states.specs.body_terms.specs.declared.thunk.Thunk.{Thunk}
use Rattle.idem_cell.specs.machine_states.specs.table_words.specs.declared.layout.Layout.{Layout}
use Rattle.idem_cell.specs.machine_states.specs.table_words.specs.declared.sizes.Sizes.{Sizes}
use Rattle.idem_cell.specs.machine_states.specs.table_words.proofs.Seen.{fits_is}
use Rattle.idem_cell.specs.machine_states.specs.table_words.specs.Limits.{IsWithinLimits}
use Rattle.idem_cell.specs.machine_states.specs.table_words.specs.Places.{descriptor_count}
use Rattle.idem_cell.specs.machine_states.specs.table_words.specs.declared.access.Access.TheVariants.{Loads}
use Rattle.idem_cell.specs.machine_states.specs.table_words.specs.declared.spot.Spot.TheVariants as spots
use Rattle.idem_cell.specs.machine_states.specs.structure_laws.specs.Meaning.{Meaning}
use Rattle.idem_cell.specs.machine_states.specs.structure_laws.specs.Laws.{Laws}
use Rattle.idem_cell.specs.machine_states.specs.runner_parts.specs.declared.event.EventKind.{EventKind}
use Rattle.idem_cell.specs.machine_states.specs.runner_parts.specs.declared.event.EventKind.TheVariants as kinds
use Rattle.idem_cell.specs.machine_states.specs.runner_parts.specs.State.{RunState, BlocksState, GuardsState, PartState}
use Rattle.idem_cell.specs.machine_states.specs.runner_parts.specs.Tests.{is_walking}
use Rattle.idem_cell.specs.machine_states.specs.runner_steps.specs.Outside.{when, is_sure_of}
use Rattle.idem_cell.specs.machine_states.specs.runner_steps.specs.Asks.{ask_by, fitting, sizes_for}
use Rattle.idem_cell.specs.machine_states.specs.runner_steps.specs.Blocks.{blocks_after}
use Rattle.idem_cell.specs.machine_states.specs.runner_steps.specs.Sections.{thunk_of, is_open_run, is_late, next_of}
use Rattle.idem_cell.specs.machine_states.specs.runner_steps.specs.AfterInRun.{with_run, opened_more}
use Rattle.idem_cell.specs.machine_states.specs.runner_steps.specs.After.{after_by, line_after, counted}
use Rattle.nested_lock.specs.machine_facts.specs.machine_agreement.proofs.LineKinds.{noted_finished}
use Rattle.section_runs.proofs.Noted.{noting}
use Rattle.idem_cell.specs.machine_states.specs.Sight.{sight, part_or_first}
use Rattle.idem_cell.specs.machine_epochs.proofs.OutsideAsked.{named_is}
use Rattle.nested_lock.specs.machine_facts.specs.machine_invariant.specs.After.{AreAllowed}
use Rattle.idem_alloc.specs.commit_log.specs.next_steps.specs.Stages.{IsInRun}
use Rattle.idem_alloc.specs.commit_log.specs.next_steps.specs.Steps.{opening_kind, opened_next}
use Rattle.idem_alloc.specs.commit_log.specs.next_steps.proofs.Stages.{may_open}
use Rattle.idem_alloc.specs.commit_log.specs.next_steps.proofs.Numbers.{reached_numbers}
use Rattle.idem_alloc.specs.commit_log.specs.version_words.specs.RunnerState.{RunnerState}
use Rattle.idem_alloc.specs.commit_log.specs.version_words.specs.TableState.{TableState, IsOf}
use Rattle.idem_alloc.specs.commit_log.specs.version_words.specs.Events.{met_by, Makes}
use Rattle.idem_alloc.specs.commit_log.specs.version_words.specs.Naming.{open_of}
use Rattle.idem_alloc.specs.commit_log.specs.version_words.specs.Place.{opened_of, own_done}
use Rattle.idem_alloc.specs.commit_log.specs.Runs.{IsRunning}
use Rattle.section_runs.specs.Reached.{MayBegin, run_or, events_after}
use Rattle.section_runs.specs.Opened.{opening, opening_of, is_opening, Opens, IsOpening, HasOpened}
use Rattle.section_runs.proofs.Records.{noted_known, noted_events}
use Rattle.section_runs.proofs.Staying.{stays_more}

none_of : {A : Type 0} (xs : List A) → length xs ≡ 0 → xs ≡ []
none_of [] e = refl
none_of (x ∷ xs) e = absurd (omega (arith, e))

closed : (n : ℕ) (b : Bool) → n < 13 → (n == 13 && b) ≡ false
closed n b low = grind (arith, nat_tests)

low_test : (n : ℕ) → n < 12 → nat_lt n 12 ≡ true
low_test n low = grind (arith, nat_tests)

high_test : (n : ℕ) → n ≡ 12 → nat_lt n 12 ≡ false
high_test n e = grind (arith, nat_tests)

-- counting on at the end
events_last : (count n : ℕ) → counted (events_after count n) ≡ events_after count (suc n)
events_last count zero = refl
events_last count (suc n) = events_last (counted count) n

either : (b : Bool) (x : BlocksState) → (if b then x else x) ≡ x
either true x = refl
either false x = refl

-- a load of the opening changes no block
opening_blocks : (m : Meaning) (l : Layout) (kind : EventKind) (p : PartState) (o : Option RunState) (found : ℕ) → is_opening kind ≡ true → blocks_after m l kind p o found ≡ p.blocks
opening_blocks m l (kinds.LoadThunk descriptor) p None found e = refl
opening_blocks m l (kinds.LoadThunk descriptor) p (Some q) found e = either (is_open_run q) p.blocks
opening_blocks m l kinds.LoadDone p None found e = refl
opening_blocks m l kinds.LoadDone p (Some q) found e = either (is_open_run q) p.blocks
opening_blocks m l _ p o found e = absurd (let z = e in cc)

module _ {T : Type 0} (m : Meaning) (laws : Laws m) (t : TableState T) (limits : IsWithinLimits t.layout) (allowed : AreAllowed t.requests) (old : RunnerState T) (d : ℕ) (may : MayBegin m old d) where
  module _ (n : ℕ) (words : List ℕ) (r : RunnerState T) (own : IsOf t r) (is : IsOpening m n d words old r) where
    within : IsWithinLimits r.layout
    within = subst IsWithinLimits (sym own.layout) limits

    few : AreAllowed r.requests
    few = subst AreAllowed (sym own.requests) allowed

    present : r.part.gone ≡ false
    present = is.stays.present ∙ may.at.present

    sure_now : is_sure_of r.part.guards d ≡ true
    sure_now = ap (λ (g : GuardsState). is_sure_of g d) is.stays.guards ∙ may.sure

    -- the descriptor is one of the table's
    fits : d < descriptor_count r.layout
    fits = (reached_numbers m laws r.layout within r.requests few is.reached.world is.reached.reached).guarded r.number d
        (ap (λ (p : PartState). p.guards.named) seen ∙ named_is r.part.guards.named d (and_parts _ _ sure_now).1)
      where
        seen : (sight m r.layout r.requests is.reached.world).part r.number ≡ r.part
        seen = ap part_or_first is.reached.own

    in_run : (q : RunState) → r.part.run ≡ Some q → IsInRun m r.layout r.requests r.number r.part q
    in_run q runs = record { present = present; running = runs; world = is.reached.world; reached = is.reached.reached; own = is.reached.own }

    first : r.part.run ≡ None → met_by m r (kinds.LoadThunk (Some d)) ≡ Some (spots.ThunkWord d 0, Loads)
    first none =
        let s : Sizes = sizes_for m r.layout r.requests in
        ap (λ (b : Bool). if b then None else fitting s (ask_by m r.layout r.requests r.number (kinds.LoadThunk (Some d)) r.part r.part.run)) present
        ∙ (ap (λ (o : Option RunState). fitting s (ask_by m r.layout r.requests r.number (kinds.LoadThunk (Some d)) r.part o)) none
        ∙ (ap (λ (b : Bool). fitting s (when b (spots.ThunkWord d 0) Loads)) (λ i. is_walking ((is.stays.stage ∙ may.at.at) i) (none i) && sure_now i)
        ∙ ap (λ (b : Bool). if b then Some (spots.ThunkWord d 0, Loads) else None) (fits_is s (spots.ThunkWord d 0) (fits, (omega arith)))))

    next : length words < 13 → r.part.run ≡ Some (opening d words) → met_by m r (opening_kind (opening d words)) ≡ Some (opened_next (opening d words))
    next low runs = may_open m laws r.layout within r.requests few r.number r.part (opening d words) (in_run (opening d words) runs) low

    loads_by : (k : ℕ) → k < 12 → k ≡ n → r.part.run ≡ opening_of k d words → met_by m r (open_of r.part.run d) ≡ Some (spots.ThunkWord d (opened_of r.part.run), Loads)
    loads_by zero low e runs = subst (λ (o : Option RunState). met_by m r (open_of o d) ≡ Some (spots.ThunkWord d (opened_of o), Loads)) (sym runs) (first runs)
    loads_by (suc k) low e runs =
        let count : length words ≡ suc k = is.count ∙ sym e in
        let test = low_test (length words) (let c = count in omega (arith, c, low)) in
        subst (λ (o : Option RunState). met_by m r (open_of o d) ≡ Some (spots.ThunkWord d (opened_of o), Loads)) (sym runs)
        (ap (λ b. met_by m r (if b then kinds.LoadThunk None else kinds.LoadDone)) (sym test)
        ∙ (next (let c = count in omega (arith, c, low)) runs
        ∙ ap (λ b. Some (if b then (spots.ThunkWord d (length words), Loads) else (spots.DoneWord d, Loads))) test))

    -- so many words were opened
    pub opened_so_far : n ≡ opened_of r.part.run
    opened_so_far = by n refl is.run
      where
        by : (k : ℕ) → k ≡ n → r.part.run ≡ opening_of k d words → n ≡ opened_of r.part.run
        by zero e runs = sym e ∙ sym (ap opened_of runs)
        by (suc k) e runs = sym is.count ∙ sym (ap opened_of runs)

    pub may_load : n < 12 → met_by m r (open_of r.part.run d) ≡ Some (spots.ThunkWord d n, Loads)
    may_load low = loads_by n low refl is.run ∙ ap (λ k. Some (spots.ThunkWord d k, Loads)) (sym opened_so_far)

    -- behind twelve words the done word is loaded
    run_twelve : n ≡ 12 → r.part.run ≡ Some (opening d words)
    run_twelve e = is.run ∙ ap (λ k. opening_of k d words) e

    pub may_end : n ≡ 12 → met_by m r kinds.LoadDone ≡ Some (own_done r.part.run, Loads)
    may_end e =
        let runs = run_twelve e in
        let test = high_test (length words) (is.count ∙ e) in
        ap (λ b. met_by m r (if b then kinds.LoadThunk None else kinds.LoadDone)) (sym test)
        ∙ (next (let c = is.count ∙ e in omega (arith, c)) runs
        ∙ (ap (λ b. Some (if b then (spots.ThunkWord d (length words), Loads) else (spots.DoneWord d, Loads))) test
        ∙ ap (λ (o : Option RunState). Some (own_done o, Loads)) (sym runs)))

    module _ (kind : EventKind) (found : ℕ) (r' : RunnerState T) (made : Makes m kind found r r') where
      abbrev more : List ℕ
      more = words ++ found ∷ []

      -- where the run has one word more
      opens : is_opening kind ≡ true → after_by m r.layout kind r.part r.part.run found ≡ with_run r.part (opening d more) → IsOpening m (suc n) d more old r'
      opens load e =
          let part : r'.part ≡ noting m r.layout r.number kind made.met.0 made.met.1 r.part found (with_run r.part (opening d more))
          = ap (λ (y : RunnerState T). y.part) made.made ∙ ap (noting m r.layout r.number kind made.met.0 made.met.1 r.part found) e in
          record {
            run = ap (λ (p : PartState). p.run) part;
            count = length-append words (found ∷ []) ∙ (let c = is.count in let z : length words + 1 ≡ suc n = omega (arith, c) in z);
            stays = stays_more old r r' is.stays (record {
              layout = ap (λ (y : RunnerState T). y.layout) made.made;
              requests = ap (λ (y : RunnerState T). y.requests) made.made;
              number = ap (λ (y : RunnerState T). y.number) made.made;
              present = ap (λ (p : PartState). p.gone) part;
              stage = ap (λ (p : PartState). p.stage) part;
              published = ap (λ (p : PartState). p.published) part;
              descriptors = ap (λ (p : PartState). p.descriptors) part;
              finished = ap (λ (p : PartState). p.records.finished) part ∙ noted_finished r.layout r.number kind made.met.0 made.met.1 found r.part.records;
              guards = ap (λ (p : PartState). p.guards) part;
              walk = ap (λ (p : PartState). p.reads.walk) part;
              look = ap (λ (p : PartState). p.reads.look) part;
            });
            nodes = ap (λ (p : PartState). p.nodes) part ∙ is.nodes;
            blocks = ap (λ (p : PartState). p.blocks) part ∙ (opening_blocks m r.layout kind r.part r.part.run found load ∙ is.blocks);
            reads = ap (λ (p : PartState). p.reads) part ∙ is.reads;
            known = ap (λ (p : PartState). p.records.known) part ∙ (noted_known r.layout r.number kind made.met.0 made.met.1 found r.part.records ∙ is.known);
            events = ap (λ (p : PartState). p.records.events) part
                ∙ (noted_events r.layout r.number kind made.met.0 made.met.1 found r.part.records
                ∙ (ap counted is.events ∙ events_last old.part.records.events n));
            loads = (r, kind, found, is.loads, load, made);
            reached = record { world = made.shown.world; reached = made.shown.reached; own = made.shown.own };
          }

      inside : n < 13 → r.part.run ≡ Some (opening d words) → after_by m r.layout kind r.part r.part.run found ≡ with_run r.part (opening d more)
      inside low runs = ap (λ (o : Option RunState). after_by m r.layout kind r.part o found) runs
          ∙ ap (λ b. if b then line_after m r.layout kind r.part (opening d words) (next_of m (opening d words)) found else opened_more r.part (opening d words) found)
          (closed (length words) _ (let c = is.count in omega (arith, c, low)))

    pub opens_more : n < 12 → (found : ℕ) (r' : RunnerState T) → Makes m (open_of r.part.run d) found r r' → IsOpening m (suc n) d (words ++ found ∷ []) old r'
    opens_more low found r' made = by n refl is.run
      where
        by : (k : ℕ) → k ≡ n → r.part.run ≡ opening_of k d words → IsOpening m (suc n) d (words ++ found ∷ []) old r'
        by zero e runs =
            let made1 = subst (λ (o : Option RunState). Makes m (open_of o d) found r r') runs made in
            opens (kinds.LoadThunk (Some d)) found r' made1 refl
            (ap (λ (o : Option RunState). after_by m r.layout (kinds.LoadThunk (Some d)) r.part o found) runs
            ∙ ap (λ xs. with_run r.part (opening d (xs ++ found ∷ []))) (sym (none_of words (is.count ∙ sym e))))
        by (suc k) e runs =
            let made1 = subst (λ (o : Option RunState). Makes m (open_of o d) found r r') runs made in
            opens (kinds.LoadThunk None) found r' made1 refl (inside (kinds.LoadThunk None) found r' made1 (omega (arith, low)) runs)

    pub opens_last : n ≡ 12 → (found : ℕ) (r' : RunnerState T) → Makes m kinds.LoadDone found r r' → IsOpening m (suc n) d (words ++ found ∷ []) old r'
    opens_last e found r' made = opens kinds.LoadDone found r' made refl (inside kinds.LoadDone found r' made (omega (arith, e)) (run_twelve e))

    pub then_opened : n ≡ 12 → (found : ℕ) (r' : RunnerState T) → Makes m kinds.LoadDone found r r'
        → (thunk : Thunk) (late : Bool) → thunk ≡ thunk_of (words ++ found ∷ []) → late ≡ is_late (opening d (words ++ found ∷ [])) → HasOpened m d thunk late old r'
    then_opened e found r' made thunk late is_thunk is_found =
        let all = opens_last e found r' made in
        let present' = all.stays.present ∙ may.at.present in
        let running : IsInRun m r'.layout r'.requests r'.number r'.part (opening d (words ++ found ∷ [])) = record {
          present = present';
          running = all.run;
          world = all.reached.world;
          reached = all.reached.reached;
          own = all.reached.own;
        } in
        record {
          inside = subst (λ (q : RunState). IsRunning m r' q) (ap run_or (sym all.run)) (record { inside = running; opened = all.count ∙ ap suc e; enough = omega arith });
          words = words ++ found ∷ [];
          run = all.run;
          thunk = sym is_thunk;
          found = sym is_found;
          stays = all.stays;
          nodes = all.nodes;
          blocks = all.blocks;
          reads = all.reads;
          known = all.known;
          events = all.events ∙ ap (λ k. events_after old.part.records.events (suc k)) e;
          loads = subst (λ k. Opens m (suc k) old r') e all.loads;
        }
