-- The Stores of a section keep what the table keeps.
use Rattle.std.proofs.Common.{◌≡◌, ◌≢◌, ℕ, suc, ◌+◌, ◌*◌, ◌<◌, ◌≤◌, Bool, true, false}
use Rattle.std.proofs.Common.{refl, sym, ap, ◌∙◌, subst, inl, inr, ⊎_elim, arith}
use Rattle.std.specs.Prelude.{◌^◌, ◌⊎◌, Some, slice_get}
use Rattle.std.proofs.lemmas.Bool.{both_ways}
use mathlib.Core.Logic.{dite}
use native.Mathlib.Decide.{ℕ_discrete}
use Rattle.structure_laws.specs.table_words.specs.small_lemmas.proofs.Lists.{some_same as some_inj}
use Rattle.structure_laws.specs.table_words.specs.small_lemmas.proofs.Numbers.{suc_equal}
use Rattle.structure_laws.specs.map_history.specs.declared.op.Op.{Op}
use Rattle.structure_laws.specs.map_history.specs.Keys.{key_of}
use Rattle.structure_laws.specs.body_terms.specs.Update.{upd}
use Rattle.structure_laws.specs.body_terms.specs.Word.{value_of, version_of, next_word}
use Rattle.bucket_bodies.specs.section_body.specs.Bucket.{bucket_lock, bucket_edition, bucket_head}
use Rattle.structure_laws.specs.body_terms.specs.declared.value.Value.{Value}
use Rattle.structure_laws.specs.body_terms.specs.declared.value.Value.TheVariants.{Const, Made}
use Rattle.structure_laws.specs.body_terms.specs.declared.step.Step.{Step}
use Rattle.structure_laws.specs.body_terms.specs.declared.step.Step.TheVariants.{Load, Make, Store, Retire}
use Rattle.structure_laws.specs.table_words.specs.declared.layout.Layout.{Layout}
use Rattle.structure_laws.specs.table_words.specs.Limits.{IsWithinLimits}
use Rattle.structure_laws.specs.Scene.{Cells, Readings, Section, Live, Retired, Scene, with_cell, passes}
use Rattle.structure_laws.specs.Sections.{Here, IsStep, value_in}
use Rattle.structure_laws.specs.Sound.{IsRead, Sound}
use Rattle.structure_laws.proofs.Changes.{upd_same, upd_other, upd_some, value-next_word, version-next_word, value_small}
use Rattle.structure_laws.proofs.Limits.{links_small, value-small}
use Rattle.structure_laws.proofs.Progress.{stepped}
use Rattle.bucket_laws.specs.Chain.{Nodes, Chains, with_head, with_next, with_value}
use Rattle.bucket_laws.specs.Walk.{cell_at}
use Rattle.bucket_laws.specs.TwoWalk.{side_op}
use Rattle.bucket_laws.specs.Halves.{Kind, Look, Insert, Remove, Set, Rename, Side, Own, Half, HasHalf, IsMaking}
use Rattle.bucket_laws.specs.Halves.{IsTaking, IsPending, Owns, OwnsBy, steps}
use Rattle.bucket_laws.specs.Buckets.{nodes, IsNode, IsTargetOf, IsWalked, AreWalked, walk_by, bucket_by, bounds, Knows}
use Rattle.bucket_laws.specs.Buckets.{IsMade, IsTaken, BucketsKept, table}
use Rattle.bucket_laws.proofs.Chain.{insert, top_of, remove_first, remove_next, replace_first, replace_next, chains_agree}
use Rattle.bucket_laws.proofs.Elsewhere.{IsElsewhere, knows_on}
use Rattle.bucket_laws.proofs.Halves.{Makes, Takes, IsHalf, half_is, pair_of, stored_for, node_init, step_of}
use Rattle.bucket_laws.proofs.Halves.{load_is, store_late}
use Rattle.bucket_laws.proofs.NodeChanges.{head_changed, next_changed, value_changed, none_changed}
use Rattle.bucket_laws.proofs.Sections.{IsPlaceIn, target_place, target_stays, fit, half_fit, half_bucket, one_bucket}
use Rattle.bucket_laws.proofs.Sections.{bucket_of, held_by, held_late, insert_head, put_missing, take_target}
use Rattle.bucket_laws.proofs.Sections.{IsTarget}
use Rattle.bucket_laws.proofs.TableGives.{live_free, live_retired, target_on, target_now, takes_in, puts_in}
use Rattle.bucket_laws.proofs.TableSteps.{live_cases, owned_once}
use Rattle.bucket_laws.proofs.TwoWalks.{side_seen}
use Rattle.bucket_laws.proofs.Walks.{head_is, is_first}

module _ (two : Bool) (buckets : ℕ) (bucket : ℕ → ℕ) (small : (key : ℕ) → bucket key < buckets)
    (few : 3 * buckets ≤ 12288) (layout : Layout) (limits : IsWithinLimits layout) (s : Scene) (sound : Sound (table two buckets bucket) layout s)
    (kept : BucketsKept two buckets bucket layout s) (d : ℕ) (x : Section) (here : Here s d x) where
  -- the scene after a Store
  abbrev stored_scene : Cells → Scene
  stored_scene cells = record s { cells = cells; section = upd s.section d (Some (stepped x x.reg)) }

  abbrev now : Nodes
  now = nodes buckets bucket s.cells

  itself : (e : ℕ) (z : Section) → s.section e ≡ Some z → e ≡ d → z ≡ x
  itself e z there same = some_inj (sym there ∙ ap s.section same ∙ here)

  -- in one bucket
  module _ (own : ℕ) (low : own < buckets) where
    -- a place of the bucket: its edition, its head, or the value or link of a node in its chain
    abbrev IsOwnPlace : ℕ → Type 0
    IsOwnPlace p = (p ≡ bucket_edition own) ⊎ IsPlaceIn buckets bucket s.cells kept.on own p

    -- a change of such a place leaves the keys, the other buckets, and the slots in no chain
    module _ (p word : ℕ) (place : IsOwnPlace p) where
      head_stays : (i : ℕ) → i < buckets → i ≢ own → upd s.cells p word (bucket_head i) ≡ s.cells (bucket_head i)
      head_stays i below ne = upd_other s.cells p (bucket_head i) word (λ e. ⊎_elim (λ edition. omega arith)
          (⊎_elim (λ head. ne (omega arith)) (λ node. let at = node.5 in omega arith)) place)

      edition_stays : (i : ℕ) → i < buckets → i ≢ own
          → upd s.cells p word (bucket_edition i) ≡ s.cells (bucket_edition i)
      edition_stays i below ne = upd_other s.cells p (bucket_edition i) word (λ e. ⊎_elim (λ edition. ne (omega arith))
          (⊎_elim (λ head. omega arith) (λ node. let at = node.5 in omega arith)) place)

      key_stays : (u : ℕ) → upd s.cells p word (cell_at buckets bucket u 1) ≡ s.cells (cell_at buckets bucket u 1)
      key_stays u = upd_other s.cells p (cell_at buckets bucket u 1) word (λ e.
          ⊎_elim (λ edition. omega arith) (⊎_elim (λ head. omega arith)
          (λ node. let two = node.3 in let three = node.4 in let at = node.5 in omega arith)) place)

      cell_stays : (u k : ℕ) → (kept.on u ≡ false) ⊎ (bucket (now.key u) ≢ own) → 1 ≤ k → k ≤ 3
          → upd s.cells p word (cell_at buckets bucket u k) ≡ s.cells (cell_at buckets bucket u k)
      cell_stays u k away first last = upd_other s.cells p (cell_at buckets bucket u k) word
          (λ e. ⊎_elim (λ edition. omega arith) (⊎_elim (λ head. omega arith)
          (λ node. let three = node.4 in let at = node.5 in not_away node.0 node.2 (omega arith))) place)
        where
          not_away : (t : ℕ) → IsNode buckets bucket s.cells kept.on own t → u ≡ t → ⊥
          not_away t node same = ⊎_elim (λ out. both_ways _ (ap kept.on (sym same) ∙ out) node.0)
              (λ other. other (ap (λ u. bucket (now.key u)) same ∙ node.1)) away

      node_stays : (on : ℕ → Bool) (i t : ℕ) → on t ≡ true → bucket (now.key t) ≡ i
          → IsNode buckets bucket (upd s.cells p word) on i t
      node_stays on i t there of_i = (there, ap (λ word. bucket (value_of word)) (key_stays t) ∙ of_i)

      elsewhere : (on : ℕ → Bool) (rank : ℕ → ℕ)
          → ((u : ℕ) → bucket (now.key u) ≢ own → (on u ≡ kept.on u) × (kept.on u ≡ true → rank u ≡ kept.rank u))
          → (i : ℕ) → i < buckets → i ≢ own
          → IsElsewhere buckets bucket s.cells (upd s.cells p word) kept.on on kept.rank rank i
      elsewhere on rank others i below ne = record {
        head = head_stays i below ne;
        stays = λ u node. (others u (away u node.1)).0 ∙ node.0;
        ranks = λ u node. (others u (away u node.1)).1 node.0;
        cell = λ u k node first last. cell_stays u k (inr (away u node.1)) first last;
        back = λ u node. let of_i = was u node.1 in (sym (others u (away u of_i)).0 ∙ node.0, of_i);
      }
        where
          away : (u : ℕ) → bucket (now.key u) ≡ i → bucket (now.key u) ≢ own
          away u of_i same = ne (sym of_i ∙ same)

          was : (u : ℕ) → bucket (value_of (upd s.cells p word (cell_at buckets bucket u 1))) ≡ i → bucket (now.key u) ≡ i
          was u of_i = ap (λ word. bucket (value_of word)) (sym (key_stays u)) ∙ of_i

    -- what a change by the half of this bucket has to show
    record IsOwnChange (h : Half) (p word : ℕ) (on : ℕ → Bool) (rank : ℕ → ℕ) : Type 0 where
      pub place : IsOwnPlace p
      pub chains : Chains bucket (nodes buckets bucket (upd s.cells p word)) on rank
      pub on_live : (t : ℕ) → on t ≡ true → s.status t ≡ Live
      pub others : (u : ℕ) → bucket (now.key u) ≢ own
          → (on u ≡ kept.on u) × (kept.on u ≡ true → rank u ≡ kept.rank u)
      pub walks : (op : Op) (readings : Readings) (side : Side) → IsRead (table two buckets bucket) s readings
          → bucket_by buckets bucket op side ≡ own
          → IsWalked two buckets bucket (stored_scene (upd s.cells p word)) on rank (side_op op side)
          (walk_by buckets bucket layout op readings side)
      pub out : (u : ℕ) → kept.on u ≡ false → (OwnsBy x h u → ⊥) → on u ≡ false
      pub target : IsTargetOf buckets bucket h.kind (upd s.cells p word) on own h.target
      pub taken : suc x.at ≤ h.retire → (s.status h.gone ≡ Live) × (on h.gone ≡ false)
          × IsTaken buckets bucket (upd s.cells p word) on h.gone own
      pub live : (t : ℕ) → kept.on t ≡ true → (on t ≡ true) ⊎ OwnsBy (stepped x x.reg) h t
      pub owned : (t : ℕ) → OwnsBy x h t → (on t ≡ true) ⊎ OwnsBy (stepped x x.reg) h t

    -- a Store of this half
    module _ (h : Half) (has : HasHalf two x h) (lock : h.lock ≡ bucket_lock own) (past : h.change ≤ x.at) (reg : ℕ)
        (stored : Value) (step : IsStep (table two buckets bucket) x x.at (Store reg stored)) (of : (reg ≡ h.target_reg) ⊎ (reg ≡ h.edition_reg))
        (p word : ℕ) (on : ℕ → Bool) (rank : ℕ → ℕ) (change : IsOwnChange h p word on rank) where
      abbrev cells : Cells
      cells = upd s.cells p word

      known : h.held ≤ x.at
      known = held_by two buckets bucket small few layout limits s sound kept x h has (held_late two buckets bucket small few layout limits s sound kept x h has (let order = (half_is two x.thunk h has).order.2 in omega arith))

      retired_out : (q y : ℕ) → s.status q ≡ Retired y → (b : Bool) → kept.on q ≡ b → b ≡ false
      retired_out q y retired true e = absurd (live_retired (s.status q) y (kept.on_live q e) retired)
      retired_out q y retired false e = refl

      -- a half of another section is in another bucket
      apart : (e : ℕ) (z : Section) (g : Half) (i : ℕ) → e ≢ d → s.section e ≡ Some z → HasHalf two z g → g.held ≤ z.at
          → g.lock ≡ bucket_lock i → i ≢ own
      apart e z g i ne there has' held place same = ne (one_bucket two buckets bucket small few layout limits s sound kept e d z x g h there here has' has held known
          (place ∙ ap bucket_lock same ∙ sym lock)).0

      -- and so is another half of this one
      its_half : (g : Half) (i : ℕ) → HasHalf two x g → g.lock ≡ bucket_lock i → i ≡ own → g ≡ h
      its_half g i has' place same = (fit two buckets bucket small few layout limits s sound kept d x here).apart g h has' has (place ∙ ap bucket_lock same ∙ sym lock)

      -- it makes nothing and takes nothing out at this step
      other_regs : (g : Half) (i : ℕ) → HasHalf two x g → g.lock ≡ bucket_lock i → i ≢ own
          → (reg ≢ g.target_reg) × (reg ≢ g.edition_reg)
      other_regs g i has' place ne = ⊎_elim
          (λ same. absurd (ne (omega_same (sym place ∙ ap (λ h. h.lock) same ∙ lock))))
          (λ apart. let regs = apart.registers in (
            λ e. ⊎_elim (λ target. regs.3 (sym e ∙ target)) (λ edition. regs.2 (sym e ∙ edition)) of,
            λ e. ⊎_elim (λ target. regs.1 (sym e ∙ target)) (λ edition. regs.0 (sym e ∙ edition)) of,
          )) (pair_of two x.thunk g h has' has)
        where
          omega_same : 3 * i ≡ 3 * own → i ≡ own
          omega_same e = omega arith

      step_at : (j : ℕ) (b : Step) → IsStep (table two buckets bucket) x j b → x.at ≡ j → Store reg stored ≡ b
      step_at j b stands e = some_inj (sym step ∙ ap (slice_get (steps two x.thunk)) e ∙ stands)

      register : (r : ℕ) (v : Value) → Store reg stored ≡ Store r v → reg ≡ r
      register r v e = cc

      not_change : (g : Half) (i : ℕ) → HasHalf two x g → g.lock ≡ bucket_lock i → i ≢ own → g.made < g.retire
          → x.at ≡ g.change → ⊥
      not_change g i has' place ne moves at = let half = half_is two x.thunk g has' in
          (other_regs g i has' place ne).0 (register g.target_reg (stored_for g.kind g)
          (step_at g.change (Store g.target_reg (stored_for g.kind g)) (half.steps (half.changing moves)).2 at))

      not_edition : (g : Half) (i : ℕ) → HasHalf two x g → g.lock ≡ bucket_lock i → i ≢ own → g.change < g.edition
          → x.at ≡ g.edition → ⊥
      not_edition g i has' place ne changes at =
          (other_regs g i has' place ne).1 (register g.edition_reg (Const 0)
          (step_at g.edition (Store g.edition_reg (Const 0)) ((half_is two x.thunk g has').steps changes).3 at))

      not_made : (g : Half) → HasHalf two x g → g.made < g.change → x.at ≡ g.made → ⊥
      not_made g has' lt at = no_make (step_at g.made (Make (node_init g) g.node_reg)
          ((half_is two x.thunk g has').makes lt) at)
        where
          no_make : Store reg stored ≡ Make (node_init g) g.node_reg → ⊥
          no_make e = cc

      not_retired : (g : Half) → HasHalf two x g → g.change < g.retire → x.at ≡ g.retire → ⊥
      not_retired g has' lt at = no_retire (step_at g.retire (Retire g.gone) ((half_is two x.thunk g has').retires lt) at)
        where
          no_retire : Store reg stored ≡ Retire g.gone → ⊥
          no_retire e = cc

      same_in : (i : ℕ) → i < buckets → i ≢ own → IsElsewhere buckets bucket s.cells cells kept.on on kept.rank rank i
      same_in = elsewhere p word change.place on rank change.others

      apart_node : (i : ℕ) → i < buckets → i ≢ own → (t : ℕ) → IsNode buckets bucket s.cells kept.on i t
          → IsNode buckets bucket cells on i t
      apart_node i below ne t node = node_stays p word change.place on i t ((same_in i below ne).stays t node) node.1

      walked : (op : Op) (readings : Readings) → IsRead (table two buckets bucket) s readings
          → AreWalked two buckets bucket layout s kept.on kept.rank op readings
          → AreWalked two buckets bucket layout (stored_scene cells) on rank op readings
      walked op readings read before side = dite (ℕ_discrete (bucket_by buckets bucket op side) own)
          (λ same. change.walks op readings side read same)
          (λ ne edition none. let i = bucket_by buckets bucket op side in
          let below = small (key_of (side_op op side)) in
          let w = walk_by buckets bucket layout op readings side in
          knows_on buckets bucket small s.cells cells kept.on on kept.rank rank kept.chains (side_op op side)
          w (same_in i below ne) w.stage
          (before side (sym (edition_stays p word change.place i below ne) ∙ edition)
          (λ e z there pending. dite (ℕ_discrete e d)
          (λ same. none d (stepped x x.reg) (upd_same s.section d d (Some (stepped x x.reg)) refl)
          (still_pending i ne (subst (λ z. IsPending two z i) (itself e z there same) pending)))
          (λ ne'. none e z (upd_other s.section d e (Some (stepped x x.reg)) ne' ∙ there) pending))))
        where
          still_pending : (i : ℕ) → i ≢ own → IsPending two x i → IsPending two (stepped x x.reg) i
          still_pending i ne pending =
              let g = pending.0 in
              let late : g.change < x.at = pending.3 in
              let early : x.at ≤ g.edition = pending.4 in
              let other : x.at ≢ g.edition = not_edition g i pending.1 pending.2 ne (omega arith) in
              (g, pending.1, pending.2, omega arith, omega arith)

      none_made : (g : Half) → HasHalf two x g → g ≡ h → IsMaking (stepped x x.reg) g → ⊥
      none_made g has' same making =
          let early : suc x.at ≤ h.change = subst (λ g. suc x.at ≤ g.change) same making.1 in
          omega arith

      still_made : (g : Half) → HasHalf two x g → IsMaking (stepped x x.reg) g → IsMaking x g
      still_made g has' making =
          let late : g.made < suc x.at = making.0 in
          let early : suc x.at ≤ g.change = making.1 in
          let other : x.at ≢ g.made = not_made g has' (omega arith) in
          (omega arith, omega arith)

      still_held : (g : Half) → g ≡ h → IsTaking (stepped x x.reg) g → suc x.at ≤ h.retire
      still_held g same taking = subst (λ g. suc x.at ≤ g.retire) same taking.1

      still_taken : (g : Half) (i : ℕ) → HasHalf two x g → g.lock ≡ bucket_lock i → i ≢ own
          → IsTaking (stepped x x.reg) g → IsTaking x g
      still_taken g i has' place ne taking =
          let late : g.change < suc x.at = taking.0 in
          let early : suc x.at ≤ g.retire = taking.1 in
          let making = (half_is two x.thunk g has').order.2 in
          let other : x.at ≢ g.change = not_change g i has' place ne (omega arith) in
          (omega arith, omega arith)

      -- what a half holds, that is in another bucket
      owned_before : (g : Half) (i t : ℕ) → HasHalf two x g → g.lock ≡ bucket_lock i → i ≢ own
          → OwnsBy (stepped x x.reg) g t → OwnsBy x g t
      owned_before g i t has' place ne (inl new) = inl (still_made g has' new.0, new.1)
      owned_before g i t has' place ne (inr old) = inr (still_taken g i has' place ne old.0, old.1)

      owned_after : (g : Half) (i t : ℕ) → HasHalf two x g → g.lock ≡ bucket_lock i → i ≢ own → OwnsBy x g t
          → OwnsBy (stepped x x.reg) g t
      owned_after g i t has' place ne (inl new) =
          let late = new.0.0 in
          let early = new.0.1 in
          let taking = (half_is two x.thunk g has').order.4 in
          let other : x.at ≢ g.change = not_change g i has' place ne (omega arith) in
          inl ((omega arith, omega arith), new.1)
      owned_after g i t has' place ne (inr old) =
          let late = old.0.0 in
          let early = old.0.1 in
          let other : x.at ≢ g.retire = not_retired g has' (omega arith) in
          inr ((omega arith, omega arith), old.1)

      held : (t : ℕ) → Owns two (stepped x x.reg) t → (s.status t ≡ Live) × (on t ≡ false)
      held t owns = by (half_bucket two buckets bucket small few layout limits s sound kept d x owns.0 here owns.1)
        where
          g : Half
          g = owns.0

          mine : g ≡ h → OwnsBy (stepped x x.reg) g t → (s.status t ≡ Live) × (on t ≡ false)
          mine same (inl new) = absurd (none_made g owns.1 same new.0)
          mine same (inr old) = let was = change.taken (still_held g same old.0) in
              let slot = sym (ap (λ h. h.gone) same) ∙ old.1 in
              (ap s.status (sym slot) ∙ was.0, ap on (sym slot) ∙ was.1)

          by : (i : ℕ) × (i < buckets) × (g.lock ≡ bucket_lock i) → (s.status t ≡ Live) × (on t ≡ false)
          by place = dite (ℕ_discrete place.0 own)
              (λ same. mine (its_half g place.0 owns.1 place.2 same) owns.2)
              (λ ne. let before = owned_before g place.0 t owns.1 place.2 ne owns.2 in
              let was = kept.owned d x t here (g, owns.1, before) in (
                was.0,
                change.out t was.1 (λ by. not_mine place.0 place.2 ne
                    (owned_once two buckets bucket small few layout limits s sound kept d d x x t here here (g, owns.1, before) (h, has, by)).2),
              ))
            where
              not_mine : (i : ℕ) → g.lock ≡ bucket_lock i → i ≢ own → g ≡ h → ⊥
              not_mine i place ne same = ne (omega_same i (sym place ∙ ap (λ h. h.lock) same ∙ lock))
                where
                  omega_same : (i : ℕ) → 3 * i ≡ 3 * own → i ≡ own
                  omega_same i e = omega arith

      mine : (t : ℕ) → (on t ≡ true) ⊎ OwnsBy (stepped x x.reg) h t → (on t ≡ true)
          ⊎ ((e : ℕ) × (z : Section) × (upd s.section d (Some (stepped x x.reg)) e ≡ Some z) × Owns two z t)
      mine t cases = ⊎_elim inl
          (λ owns. inr (d, stepped x x.reg, upd_same s.section d d (Some (stepped x x.reg)) refl, (h, has, owns))) cases

      -- what the section's own half held, in this bucket or in another one
      own_live : (t : ℕ) → Owns two x t → (on t ≡ true)
          ⊎ ((e : ℕ) × (z : Section) × (upd s.section d (Some (stepped x x.reg)) e ≡ Some z) × Owns two z t)
      own_live t owns = let place = half_bucket two buckets bucket small few layout limits s sound kept d x owns.0 here owns.1 in dite (ℕ_discrete place.0 own)
          (λ same. mine t (change.owned t
          (subst (λ g. OwnsBy x g t) (its_half owns.0 place.0 owns.1 place.2 same) owns.2)))
          (λ ne. inr (
            d,
            stepped x x.reg,
            upd_same s.section d d (Some (stepped x x.reg)) refl,
            (owns.0, owns.1, owned_after owns.0 place.0 t owns.1 place.2 ne owns.2),
          ))

      -- what another half has made, taken out or holds
      made_on : (e : ℕ) (z : Section) (g : Half) → s.section e ≡ Some z → HasHalf two z g → IsMaking z g
          → (t : ℕ) × (z.reg g.node_reg ≡ suc t) × IsMade buckets bucket cells g t
      made_on e z g there has' making =
          let was = kept.made e z g there has' making in
          let out = (kept.owned e z was.0 there (g, has', inl (making, was.1))).1 in
          let same : (k : ℕ) → 1 ≤ k → k ≤ 3 → value_of (cells (cell_at buckets bucket was.0 k))
          ≡ value_of (s.cells (cell_at buckets bucket was.0 k)) =
          λ k low high. ap value_of (cell_stays p word change.place was.0 k (inl out) low high) in (
            was.0,
            was.1,
            record {
              key = same 1 (omega arith) (omega arith) ∙ was.2.key;
              value = same 2 (omega arith) (omega arith) ∙ was.2.value;
              next = same 3 (omega arith) (omega arith) ∙ was.2.next;
            },
          )

      taken_on : (e : ℕ) (z : Section) (g : Half) (i : ℕ) → s.section e ≡ Some z → HasHalf two z g
          → g.lock ≡ bucket_lock i → i < buckets → i ≢ own → IsTaking z g → IsTaken buckets bucket cells on g.gone i
      taken_on e z g i there has' place below ne taking =
          let was = kept.taken e z g i there has' place taking in
          let out = (kept.owned e z g.gone there (g, has', inr (taking, refl))).1 in
          let same = cell_stays p word change.place g.gone 3 (inl out) (omega arith) (omega arith) in record {
            key = ap (λ word. bucket (value_of word)) (key_stays p word change.place g.gone) ∙ was.key;
            next = λ t leads. apart_node i below ne t (was.next t (ap value_of (sym same) ∙ leads));
          }

      -- the number of the bucket of a half is below the number of buckets
      below_of : (e : ℕ) (z : Section) (g : Half) (i : ℕ) → s.section e ≡ Some z → HasHalf two z g
          → g.lock ≡ bucket_lock i → i < buckets
      below_of e z g i there has' place = let at = half_bucket two buckets bucket small few layout limits s sound kept e z g there has' in
          let below = at.1 in let same = at.2 in omega arith

      held_of : (z : Section) (g : Half) → HasHalf two z g → g.load ≤ z.at → g.held ≤ z.at
      held_of z g has' low = held_by two buckets bucket small few layout limits s sound kept z g has' (let known = (half_is two z.thunk g has').order.0 in omega arith)

      target_of : (e : ℕ) (z : Section) (g : Half) (i : ℕ) → s.section e ≡ Some z → HasHalf two z g
          → g.lock ≡ bucket_lock i → i ≢ own → g.change < g.edition → g.load ≤ z.at
          → IsTargetOf buckets bucket g.kind cells on i g.target
      target_of e z g i there has' place ne changes low = target_stays buckets bucket g.kind s.cells cells kept.on on i
          g.target (apart_node i (below_of e z g i there has' place) ne)
          (kept.target e z g i there has' place changes low)

      -- of the section itself
      abbrev MadeOf : Section → Type 0
      MadeOf z = (g : Half) → HasHalf two z g → IsMaking z g → (t : ℕ) × (z.reg g.node_reg ≡ suc t)
          × IsMade buckets bucket cells g t

      abbrev TargetsOf : Section → Type 0
      TargetsOf z = (g : Half) (i : ℕ) → HasHalf two z g → g.lock ≡ bucket_lock i → g.change < g.edition → g.load ≤ z.at
          → IsTargetOf buckets bucket g.kind cells on i g.target

      abbrev TakenOf : Section → Type 0
      TakenOf z = (g : Half) (i : ℕ) → HasHalf two z g → g.lock ≡ bucket_lock i → IsTaking z g
          → IsTaken buckets bucket cells on g.gone i

      own_made : MadeOf (stepped x x.reg)
      own_made g has' making = made_on d x g here has' (still_made g has' making)

      own_target : TargetsOf (stepped x x.reg)
      own_target g i has' place changes behind = dite (ℕ_discrete i own)
          (λ same. subst (λ i. IsTargetOf buckets bucket g.kind cells on i g.target) (sym same)
          (subst (λ g. IsTargetOf buckets bucket g.kind cells on own g.target) (sym (its_half g i has' place same))
          change.target))
          (λ ne. target_of d x g i here has' place ne changes
          (let late = store_late two x.thunk g has' x.at reg stored step in
          let loaded = (half_is two x.thunk g has').order.1 in omega arith))

      own_taken : TakenOf (stepped x x.reg)
      own_taken g i has' place taking = dite (ℕ_discrete i own)
          (λ same. let mine = its_half g i has' place same in
          subst (λ i. IsTaken buckets bucket cells on g.gone i) (sym same)
          (subst (λ g. IsTaken buckets bucket cells on g.gone own) (sym mine)
          (change.taken (still_held g mine taking)).2))
          (λ ne. taken_on d x g i here has' place (below_of d x g i here has' place) ne
          (still_taken g i has' place ne taking))

      store_kept : BucketsKept two buckets bucket layout (stored_scene cells)
      store_kept = record {
        on = on;
        rank = rank;
        chains = change.chains;
        on_live = change.on_live;
        readers = λ r readings op at. walked op readings (sound.readers r readings at) (kept.readers r readings op at);
        sections = λ e z at. ⊎_elim
            (λ same. subst (λ z. AreWalked two buckets bucket layout (stored_scene cells) on rank z.op z.readings) same.1
            (walked x.op x.readings (sound.published d x here) (kept.sections d x here)))
            (λ other. walked z.op z.readings (sound.published e z other.1) (kept.sections e z other.1)) (changed e z at);
        made = λ e z g at has' making. ⊎_elim (λ same. subst MadeOf same.1 own_made g has' making)
            (λ other. made_on e z g other.1 has' making) (changed e z at);
        target = λ e z g i at has' place changes low. ⊎_elim
            (λ same. subst TargetsOf same.1 own_target g i has' place changes low)
            (λ other. target_of e z g i other.1 has' place
            (apart e z g i other.0 other.1 has' (held_of z g has' low) place) changes low) (changed e z at);
        taken = λ e z g i at has' place taking. ⊎_elim
            (λ same. subst TakenOf same.1 own_taken g i has' place taking)
            (λ other. taken_on e z g i other.1 has' place (below_of e z g i other.1 has' place)
            (apart e z g i other.0 other.1 has' (held_by two buckets bucket small few layout limits s sound kept z g has' (held_late two buckets bucket small few layout limits s sound kept z g has'
            (let late = taking.0 in let making = (half_is two z.thunk g has').order.2 in omega arith))) place) taking)
            (changed e z at);
        owned = λ e z t at owns. ⊎_elim (λ same. held t (subst (λ z. Owns two z t) (sym same.1) owns))
            (λ other. let was = kept.owned e z t other.1 owns in (
              was.0,
              change.out t was.1
                  (λ mine. other.0 (owned_once two buckets bucket small few layout limits s sound kept e d z x t other.1 here owns (h, has, mine)).0),
            ))
            (changed e z at);
        live = λ t live. live_cases two buckets bucket layout s kept t live (λ on_t. mine t (change.live t on_t))
            (λ e z there owns. dite (ℕ_discrete e d)
            (λ same. own_live t (subst (λ z. Owns two z t) (itself e z there same) owns))
            (λ ne. inr (e, z, upd_other s.section d e (Some (stepped x x.reg)) ne ∙ there, owns)));
        limbo = λ q y t retired recent leads. kept.limbo q y t retired recent (ap value_of (sym (cell_stays p word
            change.place q 3 (inl (retired_out q y retired (kept.on q) refl)) (omega arith) (omega arith))) ∙ leads);
      }
        where
          changed : (e : ℕ) (z : Section) → upd s.section d (Some (stepped x x.reg)) e ≡ Some z
              → ((e ≡ d) × (stepped x x.reg ≡ z)) ⊎ ((e ≢ d) × (s.section e ≡ Some z))
          changed e z at = upd_some s.section d e (stepped x x.reg) z at

    -- the half of this bucket, at its Stores
    module _ (h : Half) (has : HasHalf two x h) (lock : h.lock ≡ bucket_lock own) (changes : h.change < h.edition) where
      half : IsHalf x.thunk (steps two x.thunk) h
      half = half_is two x.thunk h has

      -- the edition, once the chain or a value in it has changed
      edition_change : (word : ℕ) → x.at ≡ h.edition → version_of (s.cells (bucket_edition own)) < version_of word
          → IsOwnChange h (bucket_edition own) word kept.on kept.rank
      edition_change word at rises = record {
        place = inl refl;
        chains = subst (λ n. Chains bucket n kept.on kept.rank)
            (none_changed buckets bucket s.cells (bucket_edition own) word (λ j lower e. omega arith)
            (λ u k first last e. omega arith))
            kept.chains;
        on_live = kept.on_live;
        others = λ u away. (refl, λ on. refl);
        walks = λ op readings side read mine edition none. ⊎_elim
            (λ first. subst (Knows buckets bucket (upd s.cells (bucket_edition own) word) kept.on kept.rank
            (side_op op side) (walk_by buckets bucket layout op readings side)) (sym first) tt)
            (λ later.
            let w = walk_by buckets bucket layout op readings side in
            let i = bucket_by buckets bucket op side in
            let seen = side_seen buckets bucket small (bounds buckets bucket layout) op readings side later in
            let stood = read.seen seen.0 (bucket_edition i) w.edition seen.1 in
            let at = ap bucket_edition mine in
            absurd (older (version_of w.edition) (version_of (s.cells (bucket_edition own))) (version_of word)
            (⊎_elim (λ less. inl (let same = ap (λ p. version_of (s.cells p)) at in omega arith))
            (λ equal. inr (ap version_of equal ∙ ap (λ p. version_of (s.cells p)) at)) stood) rises
            (ap version_of (sym (upd_same s.cells (bucket_edition own) (bucket_edition i) word at) ∙ edition))))
            (is_first buckets bucket small (walk_by buckets bucket layout op readings side).stage);
        out = λ u out free. out;
        target = target_stays buckets bucket h.kind s.cells (upd s.cells (bucket_edition own) word) kept.on kept.on own
            h.target
            (λ u node. node_stays (bucket_edition own) word (inl refl) kept.on own u node.0 node.1)
            (kept.target d x h own here has lock changes (omega (arith, half.order)));
        taken = λ early.
            let taking : IsTaking x h = (omega arith, omega arith) in
            let was = kept.taken d x h own here has lock taking in
            let gone = h.gone in
            let held = kept.owned d x gone here (h, has, inr (taking, refl)) in
            let same = cell_stays (bucket_edition own) word (inl refl) gone 3 (inl held.1) (omega arith)
            (omega arith) in (
              held.0,
              held.1,
              record {
                key = ap (λ word. bucket (value_of word)) (key_stays (bucket_edition own) word (inl refl) gone) ∙ was.key;
                next = λ t leads. let node = was.next t (ap value_of (sym same) ∙ leads) in
                    node_stays (bucket_edition own) word (inl refl) kept.on own t node.0 node.1;
              },
            );
        live = λ t on. inl on;
        owned = λ t owns. ⊎_elim (λ new. absurd (let late = new.0.1 in omega arith))
            (λ old. let late = old.0.0 in let below = old.0.1 in let last = half.last (omega arith) in
            inr (inr ((omega arith, omega arith), old.1))) owns;
      }
        where
          older : (w now next : ℕ) → (w < now) ⊎ (w ≡ now) → now < next → next ≡ w → ⊥
          older w now next cases less same = ⊎_elim (λ lt. omega arith) (λ e. omega arith) cases

      -- at its change
      module _ (at : x.at ≡ h.change) (word : ℕ) where
        past : h.wanted ≤ x.at
        past = held_late two buckets bucket small few layout limits s sound kept x h has (omega (arith, half.order))

        early : x.at ≤ h.change
        early = omega arith

        target_at : (k : Kind) → h.kind ≡ k → IsTargetOf buckets bucket k s.cells kept.on own h.target
        target_at k kind = subst (λ k. IsTargetOf buckets bucket k s.cells kept.on own h.target) kind
            (target_now two buckets bucket small few layout limits s sound kept d x h own here has lock changes past early)

        place : IsOwnPlace h.target
        place = inr (target_place buckets bucket h.kind s.cells kept.on own h.target (target_at h.kind refl))

        abbrev after : Cells
        after = upd s.cells h.target word

        -- it is pending, so no walk of its bucket knows anything
        pending_walks : (on : ℕ → Bool) (rank : ℕ → ℕ) (op : Op) (readings : Readings) (side : Side)
            → IsRead (table two buckets bucket) s readings → bucket_by buckets bucket op side ≡ own
            → IsWalked two buckets bucket (stored_scene after) on rank (side_op op side)
            (walk_by buckets bucket layout op readings side)
        pending_walks on rank op readings side read same edition none =
            absurd (none d (stepped x x.reg) (upd_same s.section d d (Some (stepped x x.reg)) refl)
            (h, has, lock ∙ ap bucket_lock (sym same), omega arith, omega arith))

        -- one that makes no node holds no slot yet
        not_owned : (Makes h.kind → ⊥) → (u : ℕ) → OwnsBy x h u → ⊥
        not_owned other u owns =
            ⊎_elim (λ new. let first = new.0.0 in let last = new.0.1 in other (half.insert.1 (omega arith)))
            (λ old. let first = old.0.0 in omega arith) owns

        -- and one that takes none out retires none
        none_taken : (Takes h.kind → ⊥) → suc x.at ≤ h.retire → ⊥
        none_taken other early = other (half.remove.1 (omega arith))

        -- the chains at the place that is changed
        chains_at : (p : ℕ) (on : ℕ → Bool) (rank : ℕ → ℕ) (n : Nodes) → h.target ≡ p
            → n ≡ nodes buckets bucket (upd s.cells p word) → Chains bucket n on rank
            → Chains bucket (nodes buckets bucket after) on rank
        chains_at p on rank n same changed chains =
            subst (λ p. Chains bucket (nodes buckets bucket (upd s.cells p word)) on rank) (sym same)
            (subst (λ n. Chains bucket n on rank) changed chains)

        -- the node that it has made
        record IsNewNode (t : ℕ) : Type 0 where
          pub making : IsMaking x h
          pub reg : x.reg h.node_reg ≡ suc t
          pub live : s.status t ≡ Live
          pub off : kept.on t ≡ false
          pub has_word : suc t < 2 ^ 32
          pub key : now.key t ≡ key_of (side_op x.op h.side)
          pub in_bucket : bucket (now.key t) ≡ own
          pub next : now.next t ≡ h.next
          pub missing : (u : ℕ) → kept.on u ≡ true → now.key u ≢ now.key t

        new_node : Makes h.kind → (t : ℕ) × IsNewNode t
        new_node kind =
            let lt = half.insert.0 kind in
            let making : IsMaking x h = (omega arith, omega arith) in
            let made = kept.made d x h here has making in
            let t = made.0 in
            let held = kept.owned d x t here (h, has, inl (making, made.1)) in
            let puts = (half_fit two buckets bucket small few layout limits s sound kept d x h here has).puts kind in
            let key : now.key t ≡ key_of (side_op x.op h.side) = made.2.key ∙ puts.2 in
            let missing = put_missing two buckets bucket small few layout limits s sound kept d x h here has past early kind in (
              t,
              record {
                making = making;
                reg = made.1;
                live = held.0;
                off = held.1;
                has_word = links_small layout 0 t limits (omega arith) (sound.within t (live_free (s.status t) held.0));
                key = key;
                in_bucket = ap bucket key ∙ puts_in two buckets bucket small few layout limits s sound kept d x h own here has lock kind;
                next = made.2.next;
                missing = λ u on e. missing u on (e ∙ key);
              },
            )

        -- the link that is stored leads to it
        new_value : (t : ℕ) → IsNewNode t → value_of word ≡ value_of (x.reg h.node_reg) → value_of word ≡ suc t
        new_value t new stored = stored ∙ ap value_of new.reg ∙ value-small (suc t) new.has_word

        -- a new node at the head
        insert_change : h.kind ≡ Insert → value_of word ≡ value_of (x.reg h.node_reg)
            → (on : ℕ → Bool) × (rank : ℕ → ℕ) × IsOwnChange h h.target word on rank
        insert_change kind stored =
            let makes : Makes h.kind = subst Makes (sym kind) tt in
            let some = new_node makes in
            let t = some.0 in
            let new = some.1 in
            let head : h.target ≡ bucket_head own = target_at Insert kind in
            let value : value_of word ≡ suc t = new_value t new stored in
            let side : bucket_of two buckets bucket small few layout limits s sound kept x h.side ≡ own = puts_in two buckets bucket small few layout limits s sound kept d x h own here has lock makes in
            let first : now.next t ≡ now.head own = new.next
            ∙ insert_head two buckets bucket small few layout limits s sound kept d x h here has past early kind
            ∙ sym (head_is buckets bucket small s.cells (key_of (side_op x.op h.side)))
            ∙ ap now.head side in
            let top = top_of bucket now kept.on kept.rank kept.chains own in
            let other : (u : ℕ) → bucket (now.key u) ≢ own → u ≢ t = λ u away e.
            away (ap (λ u. bucket (now.key u)) e ∙ new.in_bucket) in (
              upd kept.on t true,
              upd kept.rank t top.0,
              record {
                place = place;
                chains = chains_at (bucket_head own) (upd kept.on t true) (upd kept.rank t top.0)
                    (with_head now own (suc t)) head
                    (ap (with_head now own) (sym value) ∙ head_changed buckets bucket s.cells own word low)
                    (insert bucket now kept.on kept.rank kept.chains own t top.0 new.off new.in_bucket first top.1
                    new.missing);
                on_live = λ u on. dite (ℕ_discrete u t) (λ e. ap s.status e ∙ new.live)
                    (λ ne. kept.on_live u (sym (upd_other kept.on t u true ne) ∙ on));
                others = λ u away. (
                  upd_other kept.on t u true (other u away),
                  λ on. upd_other kept.rank t u top.0 (other u away),
                );
                walks = pending_walks (upd kept.on t true) (upd kept.rank t top.0);
                out = λ u out free. upd_other kept.on t u true
                    (λ e. free (inl (new.making, new.reg ∙ ap suc (sym e)))) ∙ out;
                target = subst (λ k. IsTargetOf buckets bucket k after (upd kept.on t true) own h.target) (sym kind) head;
                taken = λ early. absurd (none_taken (λ takes. subst Takes kind takes) early);
                live = λ u on. inl (dite (ℕ_discrete u t) (λ e. upd_same kept.on t u true e)
                    (λ ne. upd_other kept.on t u true ne ∙ on));
                owned = λ u owns. ⊎_elim (λ made. inl (upd_same kept.on t u true (suc_equal u t (sym made.1 ∙ new.reg))))
                    (λ old. absurd (let late = old.0.0 in omega arith)) owns;
              },
            )

        -- the value of a node of the bucket
        set_change : h.kind ≡ Set → IsOwnChange h h.target word kept.on kept.rank
        set_change kind = let node = target_at Set kind in record {
          place = place;
          chains = chains_at (cell_at buckets bucket node.0 2) kept.on kept.rank (with_value now node.0 (value_of word))
              node.2
              (value_changed buckets bucket s.cells node.0 word)
              (chains_agree bucket now (with_value now node.0 (value_of word)) kept.on kept.rank kept.chains
              (λ i. refl) (λ u on. refl) (λ u on. refl));
          on_live = kept.on_live;
          others = λ u away. (refl, λ on. refl);
          walks = pending_walks kept.on kept.rank;
          out = λ u out free. out;
          target = subst (λ k. IsTargetOf buckets bucket k after kept.on own h.target) (sym kind)
              (node.0, node_stays h.target word place kept.on own node.0 node.1.0 node.1.1, node.2);
          taken = λ early. absurd (none_taken (λ takes. subst Takes kind takes) early);
          live = λ u on. inl on;
          owned = λ u owns. absurd (not_owned (λ makes. subst Makes kind makes) u owns);
        }

        -- a node leaves its chain, and another one may take its place
        module _ (kind : Takes h.kind) where
          abbrev gone : ℕ
          gone = h.gone

          target : IsTarget two buckets bucket small few layout limits s sound kept x h
          target = take_target two buckets bucket small few layout limits s sound kept d x h here has past early kind

          gone_on : kept.on gone ≡ true
          gone_on = target_on two buckets bucket small few layout limits s sound kept d x h here has past early kind

          gone_in : bucket (now.key gone) ≡ own
          gone_in = ap bucket target.key ∙ takes_in two buckets bucket small few layout limits s sound kept d x h own here has lock kind

          abbrev IsLinkIn : (ℕ → Bool) → Type 0
          IsLinkIn on = (h.target ≡ bucket_head own)
              ⊎ ((t : ℕ) × IsNode buckets bucket s.cells on own t × (h.target ≡ cell_at buckets bucket t 3))

          link : IsLinkIn kept.on
          link = subst (λ i. (h.target ≡ bucket_head i)
              ⊎ ((t : ℕ) × IsNode buckets bucket s.cells kept.on i t × (h.target ≡ cell_at buckets bucket t 3)))
              (takes_in two buckets bucket small few layout limits s sound kept d x h own here has lock kind) target.link

          abbrev off : ℕ → Bool
          off = upd kept.on gone false

          still : (u : ℕ) → off u ≡ true → kept.on u ≡ true
          still u on = dite (ℕ_discrete u gone) (λ e. absurd (both_ways _ (upd_same kept.on gone u false e) on))
              (λ ne. sym (upd_other kept.on gone u false ne) ∙ on)

          leads : (v : ℕ) → h.target ≡ cell_at buckets bucket v 3 → now.next v ≡ suc gone
          leads v place = ap (λ p. value_of (s.cells p)) (sym place) ∙ target.leads

          head_leads_on : h.target ≡ bucket_head own → now.head own ≡ suc gone
          head_leads_on head = ap now.head (sym (takes_in two buckets bucket small few layout limits s sound kept d x h own here has lock kind))
              ∙ head_is buckets bucket small s.cells (key_of (side_op x.op Own))
              ∙ ap (λ i. value_of (s.cells (bucket_head i))) (takes_in two buckets bucket small few layout limits s sound kept d x h own here has lock kind)
              ∙ ap (λ p. value_of (s.cells p)) (sym head) ∙ target.leads

          before : (v : ℕ) → kept.on v ≡ true → h.target ≡ cell_at buckets bucket v 3 → v ≢ gone
          before v on place e = let falls = (kept.chains.next_on v gone on (leads v place)).2 in
              let same = ap kept.rank e in omega arith

          link_stays : after (cell_at buckets bucket gone 3) ≡ s.cells (cell_at buckets bucket gone 3)
          link_stays = upd_other s.cells h.target (cell_at buckets bucket gone 3) word
              (λ e. ⊎_elim (λ head. omega arith)
              (λ node. let at = node.2 in before node.0 node.1.0 node.2 (omega arith)) link)

          -- what it was taken out of goes on without it
          gone_taken : (on : ℕ → Bool) → on gone ≡ false → ((u : ℕ) → off u ≡ true → on u ≡ true)
              → (s.status gone ≡ Live) × (on gone ≡ false) × IsTaken buckets bucket after on gone own
          gone_taken on out keeps = (
            kept.on_live gone gone_on,
            out,
            record {
              key = ap (λ word. bucket (value_of word)) (key_stays h.target word place gone) ∙ gone_in;
              next = λ t leads.
                  let there = kept.chains.next_on gone t gone_on (ap value_of (sym link_stays) ∙ leads) in
                  node_stays h.target word place on own t (keeps t (upd_other kept.on gone t false
                  (λ e. let falls = there.2 in let same = ap kept.rank e in omega arith) ∙ there.0))
                  (there.1 ∙ gone_in);
            },
          )

          link_after : (on : ℕ → Bool) → ((u : ℕ) → off u ≡ true → on u ≡ true)
              → (h.target ≡ bucket_head own)
              ⊎ ((t : ℕ) × IsNode buckets bucket after on own t × (h.target ≡ cell_at buckets bucket t 3))
          link_after on keeps = ⊎_elim inl
              (λ node. inr (
                node.0,
                node_stays h.target word place on own node.0 (keeps node.0
                    (upd_other kept.on gone node.0 false (before node.0 node.1.0 node.2) ∙ node.1.0)) node.1.1,
                node.2,
              ))
              link

          -- a node leaves its chain
          remove_change : h.kind ≡ Remove → value_of word ≡ h.next → IsOwnChange h h.target word off kept.rank
          remove_change is stored = record {
            place = place;
            chains = ⊎_elim
                (λ head. chains_at (bucket_head own) off kept.rank (with_head now own (now.next gone)) head
                (ap (with_head now own) (target.next ∙ sym stored) ∙ head_changed buckets bucket s.cells own word low)
                (remove_first bucket now kept.on kept.rank kept.chains own gone (head_leads_on head)))
                (λ node. chains_at (cell_at buckets bucket node.0 3) off kept.rank (with_next now node.0 (now.next gone))
                node.2
                (ap (with_next now node.0) (target.next ∙ sym stored) ∙ next_changed buckets bucket s.cells node.0 word)
                (remove_next bucket now kept.on kept.rank kept.chains node.0 gone node.1.0 (leads node.0 node.2)))
                link;
            on_live = λ u on. kept.on_live u (still u on);
            others = λ u away. (
              upd_other kept.on gone u false (λ e. away (ap (λ u. bucket (now.key u)) e ∙ gone_in)),
              λ on. refl,
            );
            walks = pending_walks off kept.rank;
            out = λ u out free. dite (ℕ_discrete u gone) (λ e. upd_same kept.on gone u false e)
                (λ ne. upd_other kept.on gone u false ne ∙ out);
            target = subst (λ k. IsTargetOf buckets bucket k after off own h.target) (sym is)
                (link_after off (λ u on. on));
            taken = λ early. gone_taken off (upd_same kept.on gone gone false refl) (λ u on. on);
            live = λ u on. dite (ℕ_discrete u gone)
                (λ e. let late = half.remove.0 kind in inr (inr ((omega arith, omega arith), sym e)))
                (λ ne. inl (upd_other kept.on gone u false ne ∙ on));
            owned = λ u owns. absurd (not_owned (λ makes. subst Makes is makes) u owns);
          }

          -- a new node takes its place
          rename_change : h.kind ≡ Rename → value_of word ≡ value_of (x.reg h.node_reg)
              → (on : ℕ → Bool) × (rank : ℕ → ℕ) × IsOwnChange h h.target word on rank
          rename_change is stored =
              let some = new_node (subst Makes (sym is) tt) in
              let t = some.0 in
              let new = some.1 in
              let value : value_of word ≡ suc t = new_value t new stored in
              let on : ℕ → Bool = upd off t true in
              let rank : ℕ → ℕ = upd kept.rank t (kept.rank gone) in
              let beside : bucket (now.key t) ≡ bucket (now.key gone) = new.in_bucket ∙ sym gone_in in
              let next : now.next t ≡ now.next gone = new.next ∙ sym target.next in
              let other : gone ≢ t = λ e. both_ways _ (ap kept.on e ∙ new.off) gone_on in
              let keeps : (u : ℕ) → off u ≡ true → on u ≡ true = λ u there. dite (ℕ_discrete u t)
              (λ e. upd_same off t u true e) (λ ne. upd_other off t u true ne ∙ there) in
              let out : on gone ≡ false = upd_other off t gone true other ∙ upd_same kept.on gone gone false refl in (
                on,
                rank,
                record {
                  place = place;
                  chains = ⊎_elim
                      (λ head. chains_at (bucket_head own) on rank (with_head now own (suc t)) head
                      (ap (with_head now own) (sym value) ∙ head_changed buckets bucket s.cells own word low)
                      (replace_first bucket now kept.on kept.rank kept.chains own gone t (head_leads_on head) gone_on
                      new.off beside next new.missing))
                      (λ node. chains_at (cell_at buckets bucket node.0 3) on rank (with_next now node.0 (suc t)) node.2
                      (ap (with_next now node.0) (sym value) ∙ next_changed buckets bucket s.cells node.0 word)
                      (replace_next bucket now kept.on kept.rank kept.chains node.0 gone t node.1.0
                      (leads node.0 node.2) gone_on new.off beside next new.missing))
                      link;
                  on_live = λ u there. dite (ℕ_discrete u t) (λ e. ap s.status e ∙ new.live)
                      (λ ne. kept.on_live u (still u (sym (upd_other off t u true ne) ∙ there)));
                  others = λ u away. (
                    upd_other off t u true (λ e. away (ap (λ u. bucket (now.key u)) e ∙ new.in_bucket))
                        ∙ upd_other kept.on gone u false (λ e. away (ap (λ u. bucket (now.key u)) e ∙ gone_in)),
                    λ there. upd_other kept.rank t u (kept.rank gone)
                        (λ e. away (ap (λ u. bucket (now.key u)) e ∙ new.in_bucket)),
                  );
                  walks = pending_walks on rank;
                  out = λ u there free. upd_other off t u true
                      (λ e. free (inl (new.making, new.reg ∙ ap suc (sym e))))
                      ∙ dite (ℕ_discrete u gone) (λ e. upd_same kept.on gone u false e)
                      (λ ne. upd_other kept.on gone u false ne ∙ there);
                  target = subst (λ k. IsTargetOf buckets bucket k after on own h.target) (sym is) (link_after on keeps);
                  taken = λ early. gone_taken on out keeps;
                  live = λ u there. dite (ℕ_discrete u gone)
                      (λ e. let late = half.remove.0 kind in inr (inr ((omega arith, omega arith), sym e)))
                      (λ ne. inl (keeps u (upd_other kept.on gone u false ne ∙ there)));
                  owned = λ u owns. ⊎_elim (λ made. inl (upd_same off t u true (suc_equal u t (sym made.1 ∙ new.reg))))
                      (λ old. absurd (let late = old.0.0 in omega arith)) owns;
                },
              )

  -- a Store of a half, of a register that was loaded from this place
  module _ (j p r : ℕ) (v : Value) (store : IsStep (table two buckets bucket) x x.at (Store r v)) (load : IsStep (table two buckets bucket) x j (Load p r))
      (found : s.cells p ≡ x.reg r) (h : Half) (has : HasHalf two x h) (changes : h.change < h.edition)
      (own : ℕ) (low : own < buckets) (lock : h.lock ≡ bucket_lock own) where
    abbrev word : ℕ
    word = next_word (x.reg r) (value_in x.reg v)

    abbrev KeptAt : ℕ → Type 0
    KeptAt p = BucketsKept two buckets bucket layout (stored_scene (upd s.cells p word))

    made_value : v ≡ Made h.node_reg → value_of word ≡ value_of (x.reg h.node_reg)
    made_value made = ap (λ v. value_of (next_word (x.reg r) (value_in x.reg v))) made
        ∙ value-next_word (x.reg r) (value_of (x.reg h.node_reg)) (value_small (x.reg h.node_reg))

    removed_value : Takes h.kind → x.at ≡ h.change → v ≡ Const h.next → value_of word ≡ h.next
    removed_value kind at number =
        let leaves = take_target two buckets bucket small few layout limits s sound kept d x h here has (past own low h has lock changes at word)
        (early own low h has lock changes at word) kind in
        let narrow : h.next < 2 ^ 32 = subst (λ z. z < 2 ^ 32) leaves.next
        (value_small (s.cells (cell_at buckets bucket h.gone 3))) in
        ap (λ v. value_of (next_word (x.reg r) (value_in x.reg v))) number
        ∙ value-next_word (x.reg r) h.next narrow

    -- at the place that the half changes
    changed : (k : Kind) → h.kind ≡ k → x.at ≡ h.change → r ≡ h.target_reg → v ≡ stored_for k h → KeptAt h.target
    changed Look kind at reg stored = let none = (half_is two x.thunk h has).look.0 kind in absurd (omega arith)
    changed Insert kind at reg stored =
        let change = insert_change own low h has lock changes at word kind (made_value stored) in
        store_kept own low h has lock (omega arith) r v store (inl reg) h.target word change.0 change.1 change.2
    changed Remove kind at reg stored =
        let takes : Takes h.kind = subst Takes (sym kind) tt in
        store_kept own low h has lock (omega arith) r v store (inl reg) h.target word
        (upd kept.on h.gone false) kept.rank
        (remove_change own low h has lock changes at word takes kind (removed_value takes at stored))
    changed Set kind at reg stored =
        store_kept own low h has lock (omega arith) r v store (inl reg) h.target word kept.on kept.rank
        (set_change own low h has lock changes at word kind)
    changed Rename kind at reg stored =
        let takes : Takes h.kind = subst Takes (sym kind) tt in
        let change = rename_change own low h has lock changes at word takes kind (made_value stored) in
        store_kept own low h has lock (omega arith) r v store (inl reg) h.target word change.0 change.1 change.2

    edited : x.at ≡ h.edition → r ≡ h.edition_reg → p ≡ h.lock + 1 → v ≡ Const 0 → KeptAt p
    edited at reg same zero_value =
        let edition : p ≡ bucket_edition own = omega arith in
        let next = ap (λ v. version_of (next_word (x.reg r) (value_in x.reg v))) zero_value
        ∙ version-next_word (x.reg r) 0 (omega arith) in
        let was = ap version_of (ap s.cells (sym edition) ∙ found) in
        subst KeptAt (sym edition) (store_kept own low h has lock (omega arith) r v store (inr reg) (bucket_edition own)
        word kept.on kept.rank (edition_change own low h has lock changes word at (omega arith)))

  -- every Store of the section
  pub table_store : (j p r : ℕ) (v : Value) → IsStep (table two buckets bucket) x x.at (Store r v) → IsStep (table two buckets bucket) x j (Load p r)
      → s.cells p ≡ x.reg r
      → BucketsKept two buckets bucket layout (with_cell (passes s d x) p (next_word (x.reg r) (value_in x.reg v)))
  table_store j p r v store load found =
      let step = step_of two x.thunk x.at (Store r v) store in
      let h = step.0 in
      let changes = step.2 in
      let place = half_bucket two buckets bucket small few layout limits s sound kept d x h here step.1 in
      let from = load_is two x.thunk h step.1 j p r load in
      ⊎_elim
      (λ change. subst (KeptAt j p r v store load found h step.1 changes place.0 place.1 place.2)
      (sym (from.0 change.1).2)
      (changed j p r v store load found h step.1 changes place.0 place.1 place.2 h.kind refl change.0 change.1 change.2))
      (λ edition. edited j p r v store load found h step.1 changes place.0 place.1 place.2 edition.0 edition.1
      (from.1 edition.1).1 edition.2) step.3
