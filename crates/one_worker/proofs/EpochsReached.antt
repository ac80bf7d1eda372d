-- So it is in every reached state with one worker.
use Rattle.std.specs.Prelude.{◌==◌, ◌||◌, not, cond, Bool, true, false, if◌then◌else◌}
use Rattle.std.proofs.Common.{◌≡◌, ◌≢◌, ℕ, ◌≤◌, ◌<◌, ◌+◌, List, [], le_of_eq, refl, sym, ap, ◌∙◌, subst, inl, inr, arith, ⊎_elim, Option, Some, None}
use Rattle.std.specs.Prelude.{◌⊎◌}
use Rattle.std.proofs.lemmas.Bool.{cases_eq}
use Rattle.std.proofs.lemmas.Bool.Decides.{nat_tests}
use Rattle.machine_states.specs.map_history.specs.declared.op.Request.{Request}
use Rattle.machine_states.specs.table_words.specs.declared.layout.Layout.{Layout}
use Rattle.machine_states.specs.table_words.specs.declared.spot.Spot.{Spot}
use Rattle.machine_states.specs.table_words.specs.declared.spot.Spot.TheVariants.{Seat, Epoch, Clock, Announcement, Guard, Stamp, Reply, Cell, ThunkWord, DoneWord, LogWord, LinkWord, BlockWord, BlockLink, Board}
use Rattle.machine_states.specs.table_words.specs.declared.access.Access.{Access}
use Rattle.machine_states.specs.table_words.specs.declared.access.Access.TheVariants.{Loads}
use Rattle.machine_states.specs.table_words.specs.Access.{written}
use Rattle.machine_states.specs.table_words.specs.Seen.{upd, put}
use Rattle.machine_states.specs.structure_laws.specs.Meaning.{Meaning}
use Rattle.machine_states.specs.runner_parts.specs.declared.event.Event.{Event}
use Rattle.machine_states.specs.runner_parts.specs.declared.event.EventKind.{EventKind}
use Rattle.machine_states.specs.runner_parts.specs.declared.event.EventKind.TheVariants as kinds
use Rattle.machine_states.specs.epoch_core.specs.State.{is_entered}
use Rattle.machine_states.specs.epoch_core.specs.declared.stage.Stage.TheVariants.{Idle, Scanning}
use Rattle.machine_states.specs.guard_core.specs.State.{word_of}
use Rattle.machine_states.specs.runner_parts.specs.State.{RunState, RecordsState, PartState}
use Rattle.machine_states.specs.runner_steps.specs.Asks.{ask_by}
use Rattle.machine_states.specs.runner_steps.specs.After.{after, stepped}
use Rattle.machine_states.specs.runner_steps.specs.After.{leaves, knows_also, own_epoch, epoch_after, is_busy, is_moved, is_late_join}
use Rattle.machine_states.specs.World.{World, happens, is_join}
use Rattle.machine_states.specs.First.{IsFirst, first_part, keeper_part, worker_part}
use Rattle.machine_states.specs.Reached.{Reached}
use Rattle.machine_states.specs.Sight.{Sight, sight, sight_after, Steps}
use Rattle.machine_states.proofs.FirstSights.{first_parts, unannounced}
use Rattle.machine_states.proofs.Reached.{first_reached, more_reached, reached_has, reached_all}
use Rattle.machine_states.proofs.Sights.{happens_steps, unless_gone, cond_none, joins}
use Rattle.machine_states.proofs.Updates.{upd_here, upd_else, put_same}
use Rattle.resource_bounds.specs.machine_epochs.specs.Epochs.{EpochsAreSound}
use Rattle.resource_bounds.specs.machine_epochs.specs.Scans.{Found}
use Rattle.resource_bounds.specs.machine_epochs.proofs.OutsideAsked as asked
use Rattle.resource_bounds.specs.machine_epochs.proofs.Elsewhere.{is_entry, quiet_asks, stage_kept}
use Rattle.resource_bounds.specs.machine_epochs.proofs.FirstJoin as FirstJoin
use Rattle.resource_bounds.specs.machine_epochs.proofs.Reached.{sound_after}
use Rattle.one_worker.specs.Uncrossed.{IsUncrossed, EpochIsOwn}
use Rattle.one_worker.proofs.Guards.{GuardsFit, reached_fit}
use Rattle.machine_states.proofs.Marks.{Stays, stays}

-- a step on this word is none on the epoch
pub record IsElse (a : Spot) : Type 0 where
  pub kept : (f : Spot → ℕ) (v : ℕ) → put f a v Epoch ≡ f Epoch
  pub seen : (n epoch : ℕ) → epoch_after a n epoch ≡ epoch
  pub unmoved : (n epoch : ℕ) → is_moved a n epoch ≡ false

pub elsewhere : (a : Spot) → (a ≡ Epoch) ⊎ IsElse a
elsewhere Epoch = inl refl
elsewhere Seat = inr (record { kept = λ f v. refl; seen = λ n e. refl; unmoved = λ n e. refl })
elsewhere Clock = inr (record { kept = λ f v. refl; seen = λ n e. refl; unmoved = λ n e. refl })
elsewhere (Announcement i) = inr (record { kept = λ f v. refl; seen = λ n e. refl; unmoved = λ n e. refl })
elsewhere (Guard i) = inr (record { kept = λ f v. refl; seen = λ n e. refl; unmoved = λ n e. refl })
elsewhere (Stamp i) = inr (record { kept = λ f v. refl; seen = λ n e. refl; unmoved = λ n e. refl })
elsewhere (Reply i) = inr (record { kept = λ f v. refl; seen = λ n e. refl; unmoved = λ n e. refl })
elsewhere (Cell i) = inr (record { kept = λ f v. refl; seen = λ n e. refl; unmoved = λ n e. refl })
elsewhere (ThunkWord i j) = inr (record { kept = λ f v. refl; seen = λ n e. refl; unmoved = λ n e. refl })
elsewhere (DoneWord i) = inr (record { kept = λ f v. refl; seen = λ n e. refl; unmoved = λ n e. refl })
elsewhere (LogWord i j) = inr (record { kept = λ f v. refl; seen = λ n e. refl; unmoved = λ n e. refl })
elsewhere (LinkWord i) = inr (record { kept = λ f v. refl; seen = λ n e. refl; unmoved = λ n e. refl })
elsewhere (BlockWord i j) = inr (record { kept = λ f v. refl; seen = λ n e. refl; unmoved = λ n e. refl })
elsewhere (BlockLink i) = inr (record { kept = λ f v. refl; seen = λ n e. refl; unmoved = λ n e. refl })
elsewhere (Board i) = inr (record { kept = λ f v. refl; seen = λ n e. refl; unmoved = λ n e. refl })

one_else : (i r v w : ℕ) → i ≢ r → cond (i == r) v w ≡ w
one_else i r v w ne = grind (arith, nat_tests)

not_late : (kind : EventKind) (epoch : ℕ) → is_join kind ≡ false → is_late_join kind epoch ≡ false
not_late (kinds.Join worker) epoch other = absurd (let z = other in cc)
not_late _ epoch other = refl

entry_joins_none : (kind : EventKind) → is_entry kind ≡ true → is_join kind ≡ false
entry_joins_none (kinds.Join worker) is = absurd (let z = is in cc)
entry_joins_none _ is = refl

-- what was found is the own epoch
same_epoch : (found epoch : ℕ) → found ≡ own_epoch epoch → not (found == own_epoch epoch) ≡ false
same_epoch found epoch e = by found (own_epoch epoch) e
  where
    by : (a b : ℕ) → a ≡ b → not (a == b) ≡ false
    by a b e = grind (arith, nat_tests)

zero_idle : (found : ℕ) → found ≡ 0 → not (found == 0) ≡ false
zero_idle found e = grind (arith, nat_tests)

some_epoch : (n : ℕ) → 1 ≤ n → n ≡ own_epoch n
some_epoch n some = by n (n == 0) refl some
  where
    not_none : (n : ℕ) → 1 ≤ n → (n == 0) ≡ true → ⊥
    not_none n some e = grind (arith, nat_tests)

    by : (n : ℕ) (b : Bool) → (n == 0) ≡ b → 1 ≤ n → n ≡ (if b then 1 else n)
    by n true e some = absurd (not_none n some e)
    by n false e some = refl

both_false : (a b : Bool) → a ≡ false → b ≡ false → (a || b) ≡ false
both_false false false e e' = refl
both_false true b e e' = absurd (let z = e in cc)
both_false false true e e' = absurd (let z = e' in cc)

pub or_right : (a b : Bool) → (a || b) ≡ false → b ≡ false
or_right false b e = e
or_right true b e = absurd (let z = e in cc)

pub or_left : (a b : Bool) → (a || b) ≡ false → a ≡ false
or_left false b e = refl
or_left true b e = absurd (let z = e in cc)

pub none_seen : (n : ℕ) → not (n == 0) ≡ false → n ≡ 0
none_seen n e = grind (arith, nat_tests)

pub true_false : {B : Type 0} {b : Bool} → b ≡ true → b ≡ false → B
true_false e e' = absurd (let z = sym e ∙ e' in cc)

module _ (m : Meaning) (l : Layout) (rs : List Request) (r : ℕ) (p : PartState) (x : Spot × Access) where
  -- who is idle makes a step of this kind only on the epoch
  entry_on_epoch : (kind : EventKind) (o : Option RunState) → is_entry kind ≡ true → ask_by m l rs r kind p o ≡ Some x → p.stage ≡ Idle → x.0 ≡ Epoch
  entry_on_epoch kinds.EnterLoad None is e idle = ap (λ (y : Spot × Access). y.0) (sym (asked.enter_load_asked p.stage x e).1)
  entry_on_epoch kinds.Announce None is e idle = absurd (let z = sym idle ∙ (asked.announce_asked r p.stage x e).1 in cc)
  entry_on_epoch kinds.EnterAgain None is e idle = absurd (let z = sym idle ∙ (asked.enter_again_asked p x e).0 in cc)
  entry_on_epoch kinds.Idle None is e idle = absurd (let z = sym idle ∙ (asked.idle_asked r p x e).1 in cc)
  entry_on_epoch kinds.ScanEpoch None is e idle = ap (λ (y : Spot × Access). y.0) (sym (asked.enter_load_asked p.stage x e).1)
  entry_on_epoch (kinds.ScanOne n) None is e idle = absurd (let z = sym idle ∙ (asked.scan_one_asked l n p.stage x e).2 in cc)
  entry_on_epoch kinds.Advance None is e idle = absurd (let z = sym idle ∙ (asked.advance_asked l p.stage x e).2 in cc)
  entry_on_epoch kinds.EnterLoad (Some q) is e idle = cond_none _ x e
  entry_on_epoch kinds.Announce (Some q) is e idle = cond_none _ x e
  entry_on_epoch kinds.EnterAgain (Some q) is e idle = cond_none _ x e
  entry_on_epoch kinds.Idle (Some q) is e idle = cond_none _ x e
  entry_on_epoch kinds.ScanEpoch (Some q) is e idle = cond_none _ x e
  entry_on_epoch (kinds.ScanOne n) (Some q) is e idle = cond_none _ x e
  entry_on_epoch kinds.Advance (Some q) is e idle = cond_none _ x e
  entry_on_epoch _ o is e idle = absurd (let z = is in cc)

  -- no step changes another runner's announcement
  module _ (f : Spot → ℕ) (i : ℕ) (ne : i ≢ r) where
    abbrev Silent : Spot × Access → Type 0
    Silent y = put f y.0 (written y.1 (f y.0)) (Announcement i) ≡ f (Announcement i)

    loads : (a : Spot) → Silent (a, Loads)
    loads a = ap (λ (g : Spot → ℕ). g (Announcement i)) (put_same f a)

    silent_by : (kind : EventKind) (o : Option RunState) → ask_by m l rs r kind p o ≡ Some x → Silent x
    silent_by kinds.EnterLoad None e = subst Silent (asked.enter_load_asked p.stage x e).1 (loads Epoch)
    silent_by kinds.Announce None e = let h = asked.announce_asked r p.stage x e in subst Silent h.2 (one_else i r h.0 (f (Announcement i)) ne)
    silent_by kinds.EnterAgain None e = subst Silent (asked.enter_again_asked p x e).1 (loads Epoch)
    silent_by kinds.Idle None e = let h = asked.idle_asked r p x e in subst Silent h.3 (one_else i r 0 (f (Announcement i)) ne)
    silent_by kinds.ScanEpoch None e = subst Silent (asked.enter_load_asked p.stage x e).1 (loads Epoch)
    silent_by (kinds.ScanOne n) None e = subst Silent (asked.scan_one_asked l n p.stage x e).4 (loads (Announcement n))
    silent_by kinds.Advance None e = subst Silent (asked.advance_asked l p.stage x e).5 refl
    silent_by kinds.EnterLoad (Some q) e = cond_none _ x e
    silent_by kinds.Announce (Some q) e = cond_none _ x e
    silent_by kinds.EnterAgain (Some q) e = cond_none _ x e
    silent_by kinds.Idle (Some q) e = cond_none _ x e
    silent_by kinds.ScanEpoch (Some q) e = cond_none _ x e
    silent_by (kinds.ScanOne n) (Some q) e = cond_none _ x e
    silent_by kinds.Advance (Some q) e = cond_none _ x e
    silent_by kind o e = (quiet_asks m l rs r kind p o x refl e f).1 i

  -- a scan's step reads the announcement of a runner that there is, and a sweep's its guard word
  busy_by : (f : Spot → ℕ) (kind : EventKind) (o : Option RunState) → ask_by m l rs r kind p o ≡ Some x
      → ((n epoch : ℕ) (clear : Bool) → p.stage ≡ Scanning epoch n clear → n ≤ l.runners → f (Announcement n) ≡ 0)
      → ((n : ℕ) → p.stage ≡ Idle → n ≤ l.runners → f (Guard n) ≡ 0) → is_busy kind (f x.0) ≡ false
  busy_by f (kinds.ScanOne n) None e quiet unguarded = let h = asked.scan_one_asked l n p.stage x e in
      ap (λ (y : Spot × Access). not (f y.0 == 0)) (sym h.4) ∙ zero_idle (f (Announcement n)) (quiet n h.0 h.1 h.2 h.3)
  busy_by f (kinds.ScanOne n) (Some q) e quiet unguarded = cond_none _ x e
  busy_by f (kinds.LoadGuard n) None e quiet unguarded = let h = asked.load_guard_asked l n p x e in
      ap (λ (y : Spot × Access). not (f y.0 == 0)) (sym h.is) ∙ zero_idle (f (Guard n)) (unguarded n h.idle h.few)
  busy_by f (kinds.LoadGuard n) (Some q) e quiet unguarded = cond_none _ x e
  busy_by f _ o e quiet unguarded = refl

module _ (m : Meaning) (l : Layout) (rs : List Request) (one : l.runners ≡ 1) (s s' : Sight) (r : ℕ) (kind : EventKind) (step : Steps m l rs s s' r kind)
    (found found' : Found) (sound : EpochsAreSound s found) (sound' : EpochsAreSound s' found') (guards : GuardsFit s) (old : EpochIsOwn s) where
  abbrev x : Spot × Access
  x = step.ask

  abbrev word : ℕ
  word = s.word x.0

  abbrev p : PartState
  p = s.part r

  abbrev p' : PartState
  p' = after m l r kind x.0 x.1 p word

  staying : Stays p (stepped m l kind p word)
  staying = stays m l p word kind p.run

  asking : (p.gone ≡ false) × (ask_by m l rs r kind p p.run ≡ Some x)
  asking = let h = unless_gone _ p.gone _ x step.asked in (h.0, h.1)

  abbrev before : RecordsState
  before = (stepped m l kind p word).records

  epoch_is : before.epoch_seen ≡ p.records.epoch_seen
  epoch_is = ap (λ (z : ℕ × (Bool × Bool)). z.0) staying.kept

  crossed_is : before.crossed ≡ p.records.crossed
  crossed_is = ap (λ (z : ℕ × (Bool × Bool)). z.1.0) staying.kept

  crosses_is : before.crosses ≡ p.records.crosses
  crosses_is = ap (λ (z : ℕ × (Bool × Bool)). z.1.1) staying.kept

  word_is : (a : Spot) → s'.word a ≡ put s.word x.0 (written x.1 word) a
  word_is a = ap (λ (y : Sight). y.word a) step.next

  -- what a step on the epoch leaves there is what the runner saw last
  left_seen : x.0 ≡ Epoch → (s'.word Epoch ≡ p'.records.epoch_seen) × (1 ≤ p'.records.epoch_seen)
  left_seen e =
      let same : s'.word Epoch ≡ p'.records.epoch_seen = word_is Epoch
      ∙ subst (λ (a : Spot). put s.word a (written x.1 word) Epoch ≡ epoch_after a (written x.1 word) before.epoch_seen) (sym e) refl in
      (same, subst (λ n. 1 ≤ n) same sound'.some)

  module _ (other : is_join kind ≡ false) where
    part_is : (i : ℕ) → s'.part i ≡ upd s.part r p' i
    part_is i = ap (λ (y : Sight). y.part i) (step.next ∙ after_is kind other)
      where
        after_is : (k : EventKind) → is_join k ≡ false → sight_after m l s r k x ≡ record { word = put s.word x.0 (written x.1 word); part = upd s.part r (after m l r k x.0 x.1 p word) }
        after_is (kinds.Join worker) plain = absurd (let z = plain in cc)
        after_is _ plain = refl

    here : s'.part r ≡ p'
    here = part_is r ∙ upd_here s.part r p'

    others_are : (i : ℕ) → i ≢ r → s'.part i ≡ s.part i
    others_are i ne = part_is i ∙ upd_else s.part r p' i ne

    -- a step of the keeper's
    module _ (keeper : r ≡ 1) where
      keeper_is : s'.part 1 ≡ p'
      keeper_is = ap s'.part (sym keeper) ∙ here

      keeper_was : s.part 1 ≡ p
      keeper_was = ap s.part (sym keeper)

      worker_is : s'.part 0 ≡ s.part 0
      worker_is = others_are 0 (λ e. omega (arith, e, keeper))

      keeper_before : (s'.part 0).gone ≡ false → (s'.part 1).records.epoch_seen ≡ 0 → IsUncrossed s'
      keeper_before present unmet = ⊎_elim
          (λ on. absurd (let a = (left_seen on).1 in let b = sym (ap (λ (y : PartState). y.records.epoch_seen) keeper_is) ∙ unmet in omega (arith, a, b)))
          (λ off. by off (old.before (sym (ap (λ (y : PartState). y.gone) worker_is) ∙ present)
          (ap (λ (y : PartState). y.records.epoch_seen) keeper_was ∙ (sym epoch_is ∙ (sym (off.seen (written x.1 word) before.epoch_seen)
          ∙ (sym (ap (λ (y : PartState). y.records.epoch_seen) keeper_is) ∙ unmet))))))
          (elsewhere x.0)
        where
          by : IsElse x.0 → IsUncrossed s → IsUncrossed s'
          by off is = by_kind (is_entry kind) refl
            where
              idle : p.stage ≡ Idle
              idle = ap (λ (y : PartState). y.stage) (sym keeper_was) ∙ is.idle

              by_kind : (b : Bool) → is_entry kind ≡ b → IsUncrossed s'
              by_kind true k = absurd (true_false {b = is_moved x.0 (own_epoch 0 + 1) 0}
                  (subst (λ (a : Spot). is_moved a (own_epoch 0 + 1) 0 ≡ true) (sym (entry_on_epoch m l rs r p x kind p.run k asking.1 idle)) refl) (off.unmoved (own_epoch 0 + 1) 0))
              by_kind false k = let quiet = quiet_asks m l rs r kind p p.run x k asking.1 s.word in record {
                uncrossed = ap (λ (y : PartState). y.records.crossed) worker_is ∙ is.uncrossed;
                epoch = word_is Epoch ∙ (quiet.0 ∙ (is.epoch ∙ ap (λ (y : PartState). own_epoch y.records.epoch_seen) (sym worker_is)));
                silent = word_is (Announcement 1) ∙ (quiet.1 1 ∙ is.silent);
                idle = ap (λ (y : PartState). y.stage) keeper_is ∙ (stage_kept m l kind p p.run word k ∙ idle);
              }

      keeper_behind : (s'.part 0).gone ≡ true → (s'.part 1).records.crosses ≡ false → (s'.part 0).records.crossed ≡ false
      keeper_behind gone apart = ap (λ (y : PartState). y.records.crossed) worker_is
          ∙ old.behind (sym (ap (λ (y : PartState). y.gone) worker_is) ∙ gone)
          (ap (λ (y : PartState). y.records.crosses) keeper_was ∙ (sym crosses_is ∙ or_right (is_late_join kind before.epoch_seen) before.crosses
          (sym (ap (λ (y : PartState). y.records.crosses) keeper_is) ∙ apart)))

    -- a step of the worker's
    module _ (worker : r ≡ 0) where
      own_part : s'.part 0 ≡ p'
      own_part = ap s'.part (sym worker) ∙ here

      own_was : s.part 0 ≡ p
      own_was = ap s.part (sym worker)

      keeper_part_is : s'.part 1 ≡ s.part 1
      keeper_part_is = others_are 1 (λ e. omega (arith, e, worker))

      present : p'.gone ≡ false
      present = staying.gone ∙ asking.0

      module _ (is : IsUncrossed s) where
        seen_epoch : s.word Epoch ≡ own_epoch before.epoch_seen
        seen_epoch = is.epoch ∙ (ap (λ (y : PartState). own_epoch y.records.epoch_seen) own_was ∙ ap own_epoch (sym epoch_is))

        unmoved : is_moved x.0 word before.epoch_seen ≡ false
        unmoved = ⊎_elim
            (λ on. subst (λ (a : Spot). is_moved a (s.word a) before.epoch_seen ≡ false) (sym on) (same_epoch (s.word Epoch) before.epoch_seen seen_epoch))
            (λ off. off.unmoved word before.epoch_seen)
            (elsewhere x.0)

        idle_all : (n epoch : ℕ) (clear : Bool) → p.stage ≡ Scanning epoch n clear → n ≤ l.runners → s.word (Announcement n) ≡ 0
        idle_all n epoch clear at low = ⊎_elim
            (λ e. ap (λ k. s.word (Announcement k)) e ∙ sound.unannounced_scan 0 epoch n clear (ap (λ (y : PartState). y.stage) own_was ∙ at))
            (λ ne. ap (λ k. s.word (Announcement k)) (let e : n ≡ 1 = omega (arith, low, ne, one) in e) ∙ is.silent)
            (cases_eq n 0)

        -- the guard word of who isn't entered names nothing
        unguarded : (i : ℕ) → (s.part i).stage ≡ Idle → s.word (Guard i) ≡ 0
        unguarded i idle = (guards i).stored ∙ ap word_of ((guards i).away (ap is_entered idle))

        unguarded_all : (n : ℕ) → p.stage ≡ Idle → n ≤ l.runners → s.word (Guard n) ≡ 0
        unguarded_all n at low = ⊎_elim
            (λ e. ap (λ k. s.word (Guard k)) e ∙ unguarded 0 (ap (λ (y : PartState). y.stage) own_was ∙ at))
            (λ ne. ap (λ k. s.word (Guard k)) (let e : n ≡ 1 = omega (arith, low, ne, one) in e) ∙ unguarded 1 is.idle)
            (cases_eq n 0)

        unbusy : is_busy kind word ≡ false
        unbusy = busy_by m l rs r p x s.word kind p.run asking.1 idle_all unguarded_all

        epoch_then : s'.word Epoch ≡ own_epoch p'.records.epoch_seen
        epoch_then = ⊎_elim
            (λ on. let left = left_seen on in left.0 ∙ some_epoch p'.records.epoch_seen left.1)
            (λ off. word_is Epoch ∙ (off.kept s.word (written x.1 word) ∙ (seen_epoch ∙ ap own_epoch (sym (off.seen (written x.1 word) before.epoch_seen)))))
            (elsewhere x.0)

        worker_then : IsUncrossed s'
        worker_then = record {
          uncrossed = ap (λ (y : PartState). y.records.crossed) own_part
              ∙ both_false (is_busy kind word || is_moved x.0 word before.epoch_seen) before.crossed
              (both_false (is_busy kind word) (is_moved x.0 word before.epoch_seen) unbusy unmoved)
              (crossed_is ∙ (ap (λ (y : PartState). y.records.crossed) (sym own_was) ∙ is.uncrossed));
          epoch = epoch_then ∙ ap (λ (y : PartState). own_epoch y.records.epoch_seen) (sym own_part);
          silent = word_is (Announcement 1) ∙ (silent_by m l rs r p x s.word 1 (λ e. omega (arith, e, worker)) kind p.run asking.1 ∙ is.silent);
          idle = ap (λ (y : PartState). y.stage) keeper_part_is ∙ is.idle;
        }

      worker_before : (s'.part 0).gone ≡ false → (s'.part 1).records.epoch_seen ≡ 0 → IsUncrossed s'
      worker_before here_still unmet = worker_then (old.before (ap (λ (y : PartState). y.gone) own_was ∙ asking.0)
          (sym (ap (λ (y : PartState). y.records.epoch_seen) keeper_part_is) ∙ unmet))

      worker_behind : (s'.part 0).gone ≡ true → (s'.part 1).records.crosses ≡ false → (s'.part 0).records.crossed ≡ false
      worker_behind gone apart = true_false (sym (ap (λ (y : PartState). y.gone) own_part) ∙ gone) present

    other_then : EpochIsOwn s'
    other_then = ⊎_elim
        (λ e. record { before = worker_before e; behind = worker_behind e })
        (λ ne. let k : r ≡ 1 = let low = step.runner in omega (arith, low, ne, one) in record { before = keeper_before k; behind = keeper_behind k })
        (cases_eq r 0)

-- a join
module _ (m : Meaning) (l : Layout) (rs : List Request) (one : l.runners ≡ 1) (s s' : Sight) (r worker : ℕ) (step : Steps m l rs s s' r (kinds.Join worker)) (old : EpochIsOwn s) where
  abbrev y : Spot × Access
  y = step.ask

  abbrev q : PartState
  q = after m l r (kinds.Join worker) y.0 y.1 (s.part r) (s.word y.0)

  is_keeper : (r ≡ l.runners) × (worker < l.runners)
  is_keeper = joins m l rs (kinds.Join worker) r (s.part r) y step.asked

  first : worker ≡ 0
  first = let a = is_keeper.1 in omega (arith, a, one)

  last : r ≡ 1
  last = is_keeper.0 ∙ one

  abbrev parts : ℕ → PartState
  parts = upd (upd s.part r (knows_also q (s.part worker))) worker (leaves (s.part worker))

  joined_is : s'.part 0 ≡ leaves (s.part 0)
  joined_is = ap (λ (z : Sight). z.part 0) step.next ∙ (ap parts (sym first) ∙ (upd_here (upd s.part r (knows_also q (s.part worker))) worker (leaves (s.part worker)) ∙ ap (λ n. leaves (s.part n)) first))

  keeper_then : s'.part 1 ≡ knows_also q (s.part worker)
  keeper_then = ap (λ (z : Sight). z.part 1) step.next
      ∙ (upd_else (upd s.part r (knows_also q (s.part worker))) worker (leaves (s.part worker)) 1 (λ e. omega (arith, e, first))
      ∙ (ap (upd s.part r (knows_also q (s.part worker))) (sym last) ∙ upd_here s.part r (knows_also q (s.part worker))))

  kept_marks : Stays (s.part r) (stepped m l (kinds.Join worker) (s.part r) (s.word y.0))
  kept_marks = stays m l (s.part r) (s.word y.0) (kinds.Join worker) (s.part r).run

  abbrev had : RecordsState
  had = (stepped m l (kinds.Join worker) (s.part r) (s.word y.0)).records

  behind_join : (s'.part 1).records.crosses ≡ false → (s'.part 0).records.crossed ≡ false
  behind_join apart =
      let late : (not (had.epoch_seen == 0) || had.crosses) ≡ false = sym (ap (λ (z : PartState). z.records.crosses) keeper_then) ∙ apart in
      let unmet : (s.part 1).records.epoch_seen ≡ 0 = ap (λ n. (s.part n).records.epoch_seen) (sym last)
      ∙ (sym (ap (λ (z : ℕ × (Bool × Bool)). z.0) kept_marks.kept) ∙ none_seen had.epoch_seen (or_left (not (had.epoch_seen == 0)) had.crosses late)) in
      let apart_before : (s.part 1).records.crosses ≡ false = ap (λ n. (s.part n).records.crosses) (sym last)
      ∙ (sym (ap (λ (z : ℕ × (Bool × Bool)). z.1.1) kept_marks.kept) ∙ or_right (not (had.epoch_seen == 0)) had.crosses late) in
      ap (λ (z : PartState). z.records.crossed) joined_is ∙ by (s.part 0).gone refl unmet apart_before
    where
      by : (b : Bool) → (s.part 0).gone ≡ b → (s.part 1).records.epoch_seen ≡ 0 → (s.part 1).records.crosses ≡ false → (s.part 0).records.crossed ≡ false
      by true gone unmet apart = old.behind gone apart
      by false present unmet apart = (old.before present unmet).uncrossed

  join_then : EpochIsOwn s'
  join_then = record {
    before = λ present unmet. true_false (ap (λ (z : PartState). z.gone) joined_is) present;
    behind = λ gone apart. behind_join apart;
  }

module _ (m : Meaning) (l : Layout) (rs : List Request) (one : l.runners ≡ 1) where
  kept : (s s' : Sight) (r : ℕ) (kind : EventKind) → Steps m l rs s s' r kind → (found found' : Found) → EpochsAreSound s found → EpochsAreSound s' found'
      → GuardsFit s → EpochIsOwn s → EpochIsOwn s'
  kept s s' r (kinds.Join worker) step found found' sound sound' guards old = join_then m l rs one s s' r worker step old
  kept s s' r kind step found found' sound sound' guards old = other_then m l rs one s s' r kind step found found' sound sound' guards old refl

  -- a reached state that has it
  record Has (w : World) : Type 0 where
    reached : Reached m l rs w
    has : EpochIsOwn (sight m l rs w)

  first_has : (w : World) → IsFirst m l rs w → EpochIsOwn (sight m l rs w)
  first_has w first = record {
    before = λ present unmet. record {
      uncrossed = of (λ p. p.records.crossed ≡ false) refl (λ k. refl) refl 0;
      epoch = first.words.seen Epoch tt ∙ sym (of (λ p. own_epoch p.records.epoch_seen ≡ 1) refl (λ k. refl) refl 0);
      silent = unannounced m l rs w first 1;
      idle = of (λ p. p.stage ≡ Idle) refl (λ k. refl) refl 1;
    };
    behind = λ gone apart. of (λ p. p.records.crossed ≡ false) refl (λ k. refl) refl 0;
  }
    where
      of : (Q : PartState → Type 0) → Q (keeper_part m l) → ((k : ℕ) → Q (worker_part m l k)) → Q (first_part [] [] []) → (r : ℕ) → Q ((sight m l rs w).part r)
      of Q keeper worker nobody r = subst Q (sym (first_parts m l w.parts first.parts r)) (FirstJoin.each_part m l Q keeper worker nobody r)

  step_has : (w v : World) (e : Event) → Has w → happens m l rs w e ≡ Some v → Has v
  step_has w v e old goes =
      let reached = more_reached m l rs w v e old.reached goes in
      let all = reached_all m l rs w old.reached in
      record {
        reached = reached;
        has = kept (sight m l rs w) (sight m l rs v) e.runner e.kind
            (happens_steps m l rs w v e (record { words = le_of_eq (sym all.words); parts = all.parts }) goes).0
            _ _ (sound_after m l rs old.reached.events w old.reached.after) (sound_after m l rs reached.events v reached.after)
            (reached_fit m l rs w old.reached) old.has;
      }

  pub reached_uncrossed : (w : World) → Reached m l rs w → EpochIsOwn (sight m l rs w)
  reached_uncrossed w reached = (reached_has m l rs Has
      (λ v start. record { reached = first_reached m l rs v start; has = first_has v start }) step_has w reached).has
