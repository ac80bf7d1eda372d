-- The list keeps what it keeps where a slot leaves limbo: nobody who is entered may come to it any more.
use Rattle.std.specs.Prelude.{Bool, true, false}
use Rattle.std.proofs.Common.{◌≡◌, ◌≢◌, ℕ, ◌+◌, ◌≤◌, refl, sym, ap, ◌∙◌, inl, inr, ⊎_elim, arith}
use Rattle.std.proofs.lemmas.Bool.{cases_eq}
use Rattle.structure_laws.specs.map_history.specs.declared.op.Op.{Op}
use Rattle.structure_laws.specs.map_history.specs.Keys.{key_of}
use Rattle.structure_laws.specs.body_terms.specs.Update.{upd}
use Rattle.structure_laws.specs.table_words.specs.declared.layout.Layout.{Layout}
use Rattle.structure_laws.specs.Scene.{Readings, Status, Free, Live, Retired, Scene, with_status}
use Rattle.structure_laws.specs.Cells.{IsSafe}
use Rattle.structure_laws.specs.Sound.{IsRead, Sound}
use Rattle.structure_laws.specs.Keeps.{Onward}
use Rattle.structure_laws.proofs.Changes.{upd_same, upd_other}
use Rattle.bucket_laws.proofs.TableGives.{reached}
use Rattle.list_laws.specs.Line.{Nodes, LeadsOn, Linked, Next}
use Rattle.list_laws.specs.Walk.{Stage, AtLink, AtKey, AtValue, AtLock, AtMark, AtNodeLock, AtNodeMark, AtEnd, Refused}
use Rattle.list_laws.specs.Walk.{node_of, is_past}
use Rattle.list_laws.specs.Nodes.{is_link_place, nodes, bounds, walk_of, IsWalk, ListKept, list}
use Rattle.list_laws.proofs.Frame.{walk_stays}
use Rattle.list_laws.proofs.Gives.{next_safe}
use Rattle.list_laws.proofs.Line.{off_was}
use Rattle.list_laws.proofs.WalkReads.{level, IsGiven, IsFrom, walk_reads}

live_retired : (x : Status) (y : ℕ) → x ≡ Live → x ≡ Retired y → ⊥
live_retired x y live retired = cc

same_epoch : (x : Status) (y z : ℕ) → x ≡ Retired y → x ≡ Retired z → y ≡ z
same_epoch x y z e e' = cc

free_live : (x : Status) → x ≡ Free → x ≡ Live → ⊥
free_live x e e' = cc

free_retired : (x : Status) (y : ℕ) → x ≡ Free → x ≡ Retired y → ⊥
free_retired x y e e' = cc

-- a walk that has loaded its link has read it
pub past_level : (stage : Stage) → is_past stage ≡ true → 1 ≤ level stage
past_level AtLink past = absurd (cc)
past_level AtKey past = omega arith
past_level AtValue past = omega arith
past_level AtLock past = omega arith
past_level AtMark past = omega arith
past_level AtNodeLock past = omega arith
past_level AtNodeMark past = omega arith
past_level AtEnd past = omega arith
past_level Refused past = absurd (cc)

module _ (layout : Layout) (s : Scene) (sound : Sound list layout s) (kept : ListKept layout s) (t y : ℕ)
    (retired : s.status t ≡ Retired y) (old : y + 2 ≤ s.epoch) where
  abbrev now : Nodes
  now = nodes s.cells

  abbrev after : ℕ → Status
  after = upd s.status t Free

  abbrev next : Scene
  next = with_status s t Free

  abbrev still : ℕ → Bool
  still = upd kept.once t false

  stays : (u : ℕ) → u ≢ t → after u ≡ s.status u
  stays u ne = upd_other s.status t u Free ne

  was_used : (u : ℕ) → after u ≢ Free → (u ≢ t) × (s.status u ≢ Free)
  was_used u used = ⊎_elim (λ e. absurd (used (upd_same s.status t u Free e)))
      (λ ne. (ne, λ free. used (stays u ne ∙ free))) (cases_eq u t)

  was_live : (u : ℕ) → after u ≡ Live → (u ≢ t) × (s.status u ≡ Live)
  was_live u live = ⊎_elim (λ e. absurd (free_live (after u) (upd_same s.status t u Free e) live))
      (λ ne. (ne, sym (stays u ne) ∙ live)) (cases_eq u t)

  was_retired : (u z : ℕ) → after u ≡ Retired z → (u ≢ t) × (s.status u ≡ Retired z)
  was_retired u z is = ⊎_elim (λ e. absurd (free_retired (after u) z (upd_same s.status t u Free e) is))
      (λ ne. (ne, sym (stays u ne) ∙ is)) (cases_eq u t)

  live_other : (u : ℕ) → s.status u ≡ Live → u ≢ t
  live_other u live e = live_retired (s.status u) y live (ap s.status e ∙ retired)

  keeps_live : (u : ℕ) → s.status u ≡ Live → after u ≡ Live
  keeps_live u live = stays u (live_other u live) ∙ live

  -- what is safe is another slot
  safe_other : (u : ℕ) → IsSafe s u → u ≢ t
  safe_other u (inl live) e = live_other u live e
  safe_other u (inr z) e = let same = same_epoch (s.status u) y z.0 (ap s.status e ∙ retired) z.1 in
      let recent = z.2 in omega (arith, same, recent, old)

  was_safe : (u : ℕ) → IsSafe next u → IsSafe s u
  was_safe u (inl live) = inl (was_live u live).1
  was_safe u (inr z) = inr (z.0, (was_retired u z.0 z.1).1, z.2)

  was_once : (u : ℕ) → still u ≡ true → (u ≢ t) × (kept.once u ≡ true)
  was_once = off_was kept.once t

  once_still : (u : ℕ) → u ≢ t → kept.once u ≡ true → still u ≡ true
  once_still u ne once = upd_other kept.once t u false ne ∙ once

  -- links lead on over slots that are safe
  leads_on : (u : ℕ) → IsSafe s u → LeadsOn now kept.linked kept.once u → LeadsOn now kept.linked still u
  leads_on u safe (Linked _ is) = Linked u is
  leads_on u safe (Next _ v once link leads) = Next u v (once_still u (safe_other u safe) once) link
      (leads_on v (next_safe layout s sound kept u v safe link) leads)

  given_other : (readings : Readings) → IsRead list s readings → (u : ℕ) → IsGiven readings u → u ≢ t
  given_other readings read u gives = let by = reached is_link_place readings u gives in
      safe_other u (read.safe by.0 by.1 by.2 u by.3 by.4 by.5)

  from_other : (readings : Readings) → IsRead list s readings → (u : ℕ) → IsFrom readings u → u ≢ t
  from_other readings read u from = ⊎_elim (λ fixed. live_other u (sound.fixed u fixed)) (given_other readings read u) from

  walk_still : (readings : Readings) (op : Op) → IsRead list s readings
      → IsWalk now kept.once (key_of op) (walk_of layout op readings)
      → IsWalk now still (key_of op) (walk_of layout op readings)
  walk_still readings op read is =
      let w = walk_of layout op readings in
      let reads = walk_reads readings (bounds layout) op in
      walk_stays now now kept.once still (key_of op) w
      (λ once. (once_still w.from (from_other readings read w.from reads.from) once, refl))
      (λ past once. (
        once_still (node_of w)
            (given_other readings read (node_of w) (reads.node (past_level w.stage past))) once,
        refl,
      )) is

  pub collected : ListKept layout next
  collected = record {
    linked = kept.linked;
    once = still;
    line = kept.line;
    linked_live = λ u on. keeps_live u (kept.linked_live u on);
    linked_once = λ u on. once_still u (live_other u (kept.linked_live u on)) (kept.linked_once u on);
    retired_once = λ u z is. let was = was_retired u z is in once_still u was.0 (kept.retired_once u z was.1);
    once_used = λ u once free. let was = was_once u once in kept.once_used u was.1 (sym (stays u was.0) ∙ free);
    next_some = λ u used inner. kept.next_some u (was_used u used).1 inner;
    mark_small = λ u used. kept.mark_small u (was_used u used).1;
    unmarked = λ u once safe mark. kept.unmarked u (was_once u once).1 (was_safe u safe) mark;
    trail = λ u v once safe inner link.
        let is = kept.trail u v (was_once u once).1 (was_safe u safe) inner link in
        record {
          once_linked = once_still v (safe_other v (next_safe layout s sound kept u v (was_safe u safe) link)) is.once_linked;
          no_head = is.no_head;
          order = is.order;
        };
    leads = λ u once safe. leads_on u (was_safe u safe) (kept.leads u (was_once u once).1 (was_safe u safe));
    marked = kept.marked;
    live = λ u live. kept.live u (was_live u live).1;
    limbo = λ u z v is recent link. let was = was_retired u z is in ⊎_elim
        (λ live. inl (keeps_live v live))
        (λ k. inr (k.0, stays v (late v k.0 z k.1 k.2 recent) ∙ k.1, k.2))
        (kept.limbo u z v was.1 recent link);
    made = λ d x h has. let was = kept.made d x h has in record {
      slot = was.slot;
      link = was.link;
      live = keeps_live was.slot was.live;
      new = upd_other kept.once t was.slot false (live_other was.slot was.live) ∙ was.new;
      key = was.key;
      value = was.value;
      next = was.next;
      mark = was.mark;
    };
    taken = λ d x h has. let was = kept.taken d x h has in record { out = was.out; live = keeps_live _ was.live };
    behind = kept.behind;
    readers = kept.readers;
    published = kept.published;
    walks = λ r readings op h low. walk_still readings op (sound.readers r readings h) (kept.walks r readings op h low);
    sections = λ d x h. walk_still x.readings x.op (sound.published d x h) (kept.sections d x h);
  }
    where
      late : (v k z : ℕ) → s.status v ≡ Retired k → z ≤ k → s.epoch ≤ z + 1 → v ≢ t
      late v k z is order recent e = let same = same_epoch (s.status v) y k (ap s.status e ∙ retired) is in
          omega (arith, same, order, recent, old)

pub keeps_collect : (layout : Layout) (s : Scene) (t y : ℕ) → s.status t ≡ Retired y → y + 2 ≤ s.epoch
    → Onward list layout s (with_status s t Free)
keeps_collect layout s t y retired old sound kept sound' = collected layout s sound kept t y retired old
