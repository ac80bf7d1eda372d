-- What parts say of descriptors and limbo lists holds in every state that the machine reaches.
use Rattle.std.specs.Prelude.{◌==◌, cond, Bool, true, false}
use Rattle.std.proofs.Common.{◌≡◌, ℕ, ◌+◌, ◌<◌, ◌≤◌, List, [], refl, sym, ap, ◌∙◌, subst, arith, Option, Some, None}
use Rattle.std.proofs.lemmas.Bool.Decides.{nat_tests}
use Rattle.std.proofs.lemmas.List.Elements.{All-nil}
use Rattle.machine_states.specs.map_history.specs.declared.op.Request.{Request}
use Rattle.machine_states.specs.table_words.specs.declared.layout.Layout.{Layout}
use Rattle.machine_states.specs.table_words.specs.declared.spot.Spot.{Spot}
use Rattle.machine_states.specs.table_words.specs.declared.spot.Spot.TheVariants.{Epoch}
use Rattle.machine_states.specs.table_words.specs.declared.access.Access.{Access}
use Rattle.machine_states.specs.table_words.specs.Access.{exchanged, written}
use Rattle.machine_states.specs.table_words.specs.Places.{descriptor_count}
use Rattle.machine_states.specs.table_words.specs.Seen.{upd, put}
use Rattle.machine_states.specs.structure_laws.specs.Meaning.{Meaning}
use Rattle.machine_states.specs.runner_parts.specs.declared.entries.BoardRead.{BoardRead}
use Rattle.machine_states.specs.runner_parts.specs.declared.event.EventKind.{EventKind}
use Rattle.machine_states.specs.runner_parts.specs.declared.event.EventKind.TheVariants as kinds
use Rattle.machine_states.specs.epoch_core.specs.declared.stage.Stage.TheVariants.{Entered}
use Rattle.machine_states.specs.runner_parts.specs.State.{RunState, BlocksState, PartState, RecordsState}
use Rattle.machine_states.specs.runner_steps.specs.Asks.{asks, ask_by, outside_ask}
use Rattle.machine_states.specs.runner_steps.specs.After.{after, after_by}
use Rattle.machine_states.specs.runner_steps.specs.After.{leaves, knows_also}
use Rattle.machine_states.specs.epoch_core.specs.State.{is_entered, entry_of}
use Rattle.machine_states.specs.epoch_core.specs.Lists.{times}
use Rattle.machine_states.specs.World.{World}
use Rattle.machine_states.specs.First.{IsFirst, first_part}
use Rattle.machine_states.specs.Sight.{Sight, sight, parts_after, sight_after, Steps}
use Rattle.machine_states.proofs.Updates.{upd_split}
use Rattle.machine_states.proofs.FirstSights.{first_part_of, first_parts}
use Rattle.machine_epochs.specs.Scans.{Found}
use Rattle.machine_states.specs.body_terms.specs.Line.{micro_at}
use Rattle.machine_states.specs.body_terms.specs.declared.micro.Micro.TheVariants.{RetireCommit}
use Rattle.machine_states.specs.runner_steps.specs.Sections.{line_of}
use Rattle.machine_states.specs.epoch_core.specs.State.{Retiring}
use Rattle.machine_epochs.specs.Slots.{retire_before, retiring_of}
use Rattle.machine_epochs.specs.Firsts.{owner_of}
use Rattle.machine_epochs.specs.Descriptors.{DescriptorsAreSound}
use Rattle.machine_epochs.proofs.OutsideAsked as asked
use Rattle.machine_epochs.proofs.Elsewhere.{is_entry, quiet_asks}
use Rattle.machine_epochs.proofs.Entries.{Entries, asks_by, asked_outside}
use Rattle.machine_epochs.proofs.OwnDescriptors.{IsOwn, passes}
use Rattle.machine_epochs.proofs.OwnKinds.{outside_own, inside_own}
use Rattle.machine_epochs.proofs.FirstJoin.{each_part, own_free}

-- so it is of every part
abbrev pub Owns : Meaning → Layout → Sight → Type 0
Owns m l s = (r : ℕ) → IsOwn m l (s.word Epoch) r (s.part r)

-- what a part says hangs on no block, no load of the board and no record, and not on whether the worker was joined
copied : (m : Meaning) (l : Layout) (epoch r : ℕ) (p : PartState) (blocks : BlocksState) (board : List BoardRead) (records : RecordsState) (gone : Bool) → IsOwn m l epoch r p → IsOwn m l epoch r (record p { blocks = blocks; board = board; records = records; gone = gone })
copied m l epoch r p blocks board records gone o = record {
  once = o.once;
  nodes_most = o.nodes_most;
  retire_most = o.retire_most;
  retire_least = o.retire_least;
  run_begins = o.run_begins;
}

exchanged_most : (now x : ℕ) → now ≤ exchanged now x (x + 1)
exchanged_most now x = grind (arith, nat_tests)

module _ (m : Meaning) (l : Layout) (rs : List Request) (s : Sight) (r : ℕ) (x : Spot × Access) where
  abbrev p : PartState
  p = s.part r

  abbrev Rises : Spot × Access → Type 0
  Rises y = s.word Epoch ≤ put s.word y.0 (written y.1 (s.word y.0)) Epoch

  rises_outside : (kind : EventKind) → is_entry kind ≡ true → outside_ask m l rs r kind p ≡ Some x → Rises x
  rises_outside kinds.EnterLoad k e = subst Rises (asked.enter_load_asked p.stage x e).1 (omega arith)
  rises_outside kinds.Announce k e = subst Rises (asked.announce_asked r p.stage x e).2 (omega arith)
  rises_outside kinds.EnterAgain k e = subst Rises (asked.enter_again_asked p x e).1 (omega arith)
  rises_outside kinds.Idle k e = subst Rises (asked.idle_asked r p x e).3 (omega arith)
  rises_outside kinds.ScanEpoch k e = subst Rises (asked.enter_load_asked p.stage x e).1 (omega arith)
  rises_outside (kinds.ScanOne n) k e = subst Rises (asked.scan_one_asked l n p.stage x e).4 (omega arith)
  rises_outside kinds.Advance k e = let h = asked.advance_asked l p.stage x e in subst Rises h.5 (exchanged_most (s.word Epoch) h.0)
  rises_outside _ k e = absurd (let y = k in cc)

  -- no step makes the epoch smaller
  rises_by : (b : Bool) (kind : EventKind) → is_entry kind ≡ b → asks m l rs r kind p ≡ Some x → Rises x
  rises_by true kind k e = rises_outside kind k (asked_outside m l rs s r x kind k e).1
  rises_by false kind k e = let same = (quiet_asks m l rs r kind p p.run x k (asks_by m l rs r kind p x e) s.word).0 in omega arith

  pub rises : (kind : EventKind) → asks m l rs r kind p ≡ Some x → Rises x
  rises kind e = rises_by (is_entry kind) kind refl e

  module _ (old : Owns m l s) (entered : (g : ℕ) → p.stage ≡ Entered g → g ≤ s.word Epoch) where
    own_by : (kind : EventKind) (o : Option RunState) → p.run ≡ o → ask_by m l rs r kind p o ≡ Some x → (records : RecordsState) → IsOwn m l (s.word Epoch) r (record (after_by m l kind p o (s.word x.0)) { records = records })
    own_by kind None at e records = outside_own m l rs (s.word Epoch) r p (old r) x (s.word x.0) (ap s.word) entered records at kind e
    own_by kind (Some q) at e records = inside_own m l rs (s.word Epoch) r p (old r) x (s.word x.0) (ap s.word) entered records q at kind e

    -- the stepping runner's part
    own_after : (kind : EventKind) → asks m l rs r kind p ≡ Some x → IsOwn m l (s.word Epoch) r (after m l r kind x.0 x.1 p (s.word x.0))
    own_after kind e =
        let p' = after m l r kind x.0 x.1 p (s.word x.0) in
        copied m l (s.word Epoch) r _ p'.blocks p'.board p'.records p'.gone (own_by kind p.run refl (asks_by m l rs r kind p x e) p'.records)

    parts_own : (kind : EventKind) (p' : PartState) → IsOwn m l (s.word Epoch) r p' → (i : ℕ) → IsOwn m l (s.word Epoch) i (parts_after kind s.part r p' i)
    parts_own (kinds.Join worker) p' own i =
        upd_split (upd s.part r (knows_also p' (s.part worker))) worker (leaves (s.part worker)) (λ k q. IsOwn m l (s.word Epoch) k q) (copied m l (s.word Epoch) worker (s.part worker) (s.part worker).blocks (s.part worker).board (s.part worker).records true (old worker))
        (λ k ne. upd_split s.part r (knows_also p' (s.part worker)) (λ j q. IsOwn m l (s.word Epoch) j q) (copied m l (s.word Epoch) r p' p'.blocks p'.board _ p'.gone own) (λ j ne'. old j) k) i
    parts_own _ p' own i = upd_split s.part r p' (λ k q. IsOwn m l (s.word Epoch) k q) own (λ k ne. old k) i

    owns_after : (kind : EventKind) → asks m l rs r kind p ≡ Some x → Owns m l (sight_after m l s r kind x)
    owns_after kind e i = passes m l (s.word Epoch) i _ _ (rises kind e) (parts_own kind _ (own_after kind e) i)

module _ (m : Meaning) (l : Layout) (rs : List Request) where
  -- a step keeps it
  pub owns_step : (found : Found) (s s' : Sight) (r : ℕ) (kind : EventKind) → Steps m l rs s s' r kind → Entries m l found s → Owns m l s → Owns m l s'
  owns_step found s s' r kind step entries old = subst (Owns m l) (sym step.next) (owns_after m l rs s r step.ask old entered kind step.asked)
    where
      entered : (g : ℕ) → (s.part r).stage ≡ Entered g → g ≤ s.word Epoch
      entered g e =
          let at = entries.shows.stage r ∙ e in
          subst (λ n. n ≤ s.word Epoch) (ap entry_of at) (subst (λ n. entry_of (entries.state.stage r) ≤ n) entries.shows.epoch (entries.sound.entered_most r (ap is_entered at)))

  first_own : (epoch r : ℕ) (nodes descriptors blocks : List ℕ) → ((d : ℕ) → d < descriptor_count l → times d descriptors ≡ cond (owner_of l.sections l.runners d == r) 1 0) → IsOwn m l epoch r (first_part nodes descriptors blocks)
  first_own epoch r nodes descriptors blocks once = record {
    once = λ d few. let o = once d few in omega arith;
    nodes_most = All-nil (λ x. x.epoch ≤ epoch);
    retire_most = omega arith;
    retire_least = λ g at is. absurd (let y = at in cc);
    run_begins = λ q e few. absurd (let y = e in cc);
  }

  -- so it is in the first state
  pub first_owns : (w : World) → IsFirst m l rs w → Owns m l (sight m l rs w)
  first_owns w start r = subst (IsOwn m l epoch r) (sym (first_parts m l w.parts start.parts r)) (of_first (first_part_of m l r) (own_free m l r) (shape r))
    where
      epoch : ℕ
      epoch = (sight m l rs w).word Epoch

      Shape : PartState → Type 0
      Shape q = (nodes : List ℕ) × (descriptors : List ℕ) × (blocks : List ℕ) × (q ≡ first_part nodes descriptors blocks)

      shape : (i : ℕ) → Shape (first_part_of m l i)
      shape i = each_part m l Shape (_, _, _, refl) (λ k. (_, _, _, refl)) (_, _, _, refl) i

      of_first : (q : PartState) → ((d : ℕ) → d < descriptor_count l → times d q.descriptors.free ≡ cond (owner_of l.sections l.runners d == r) 1 0) → Shape q → IsOwn m l epoch r q
      of_first q once is = subst (IsOwn m l epoch r) (sym is.3) (first_own epoch r is.0 is.1 is.2 (λ d few. sym (ap (λ (a : PartState). times d a.descriptors.free) is.3) ∙ once d few))

-- what is said of descriptors follows
module _ (m : Meaning) (l : Layout) (s : Sight) (own : Owns m l s) where
  recent : (r g slot log : ℕ) (q : RunState) → (s.part r).stage ≡ Entered g → (s.part r).run ≡ Some q → micro_at (line_of m q) q.at ≡ RetireCommit slot log → (g ≤ q.word) × (q.word ≤ s.word Epoch)
  recent r g slot log q stage run at =
      let now : retiring_of m (s.part r).run ≡ retire_before q (RetireCommit slot log) = ap (retiring_of m) run ∙ ap (retire_before q) at in
      (subst (λ (y : Retiring). g ≤ y.epoch) now ((own r).retire_least g stage (ap (λ (y : Retiring). y.loaded) now)), subst (λ (y : Retiring). y.epoch ≤ s.word Epoch) now (own r).retire_most)

  pub descriptors_sound : DescriptorsAreSound m l s
  descriptors_sound = record {
    once = λ r. (own r).once;
    nodes_most = λ r. (own r).nodes_most;
    retire_recent = recent;
  }
