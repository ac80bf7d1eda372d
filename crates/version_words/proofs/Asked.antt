-- What an enabled event says of the part.
use Rattle.std.proofs.Common.{◌≡◌, ℕ, ◌≤◌, List, length, Bool, true, false, refl, sym, ◌∙◌, Option, Some, None, if◌then◌else◌, arith, ap}
use Rattle.std.specs.Prelude.{◌==◌, ◌&&◌, nat_le, is_none}
use Rattle.machine_states.specs.map_history.specs.declared.op.Request.{Request}
use Rattle.machine_states.specs.body_terms.specs.declared.micro.Micro.{Micro}
use Rattle.machine_states.specs.table_words.specs.declared.layout.Layout.{Layout}
use Rattle.machine_states.specs.table_words.specs.declared.sizes.Sizes.{Sizes}
use Rattle.machine_states.specs.table_words.specs.declared.spot.Spot.{Spot}
use Rattle.machine_states.specs.table_words.specs.declared.spot.Spot.TheVariants as spots
use Rattle.machine_states.specs.table_words.specs.declared.access.Access.{Access}
use Rattle.machine_states.specs.table_words.specs.declared.access.Access.TheVariants.{Loads, Stores}
use Rattle.machine_states.specs.table_words.specs.Places.{fits}
use Rattle.machine_states.specs.structure_laws.specs.Meaning.{Meaning}
use Rattle.machine_states.specs.runner_parts.specs.declared.event.EventKind.{EventKind}
use Rattle.machine_states.specs.runner_parts.specs.declared.event.EventKind.TheVariants as kinds
use Rattle.machine_states.specs.epoch_core.specs.declared.stage.Stage.{Stage}
use Rattle.machine_states.specs.epoch_core.specs.declared.stage.Stage.TheVariants as stages
use Rattle.machine_states.specs.runner_parts.specs.State.{RunState, PartState}
use Rattle.machine_states.specs.runner_steps.specs.Sections.{is_open_run, next_of}
use Rattle.machine_states.specs.runner_steps.specs.Outside.{Ask, when, enter_load_ask, announce_ask, enter_again_by, scan_one_ask}
use Rattle.machine_states.specs.runner_steps.specs.Guards.{is_numbered, load_guard_by}
use Rattle.machine_states.specs.guard_core.specs.State.{word_of}
use Rattle.machine_states.specs.runner_steps.specs.Asks.{fitting, sizes_for, asks, opening_ask}
use Rattle.std.proofs.lemmas.Bool.Decides.{nat_tests}
use Rattle.std.proofs.lemmas.Option.{none-some}
use Rattle.std.proofs.lemmas.Bool.{false≢true}
use Rattle.runner_block.specs.Scans.{scan_of}
use Rattle.machine_states.specs.runner_steps.specs.Asks.{ask_by, outside_ask, line_ask}
use Rattle.version_words.specs.RunnerState.{RunnerState}
use Rattle.version_words.specs.Events.{met_by, IsEnabled}
use Rattle.machine_states.proofs.Steps.{some_same}
use Rattle.machine_states.specs.runner_parts.specs.Tests.{is_between, is_walking}

-- the kinds of step that are made in no run alone
abbrev pub is_outer : EventKind → Bool
is_outer kinds.EnterLoad = true
is_outer kinds.Announce = true
is_outer kinds.EnterAgain = true
is_outer kinds.Idle = true
is_outer kinds.ScanEpoch = true
is_outer (kinds.ScanOne n) = true
is_outer kinds.Advance = true
is_outer kinds.Split = true
is_outer (kinds.Join worker) = true
is_outer (kinds.LoadEntry request reply) = true
is_outer (kinds.Hold thunk d) = true
is_outer (kinds.ReadPlan thunk) = true
is_outer kinds.ReadClock = true
is_outer kinds.ReadReply = true
is_outer kinds.ReadStamp = true
is_outer (kinds.Guard d) = true
is_outer (kinds.LoadGuard n) = true
is_outer (kinds.BoardLoad word) = true
is_outer (kinds.BoardTake word link) = true
is_outer (kinds.BoardGive word slot) = true
is_outer _ = false

met : (s : Sizes) (y x : Spot × Access) (b : Bool) → (if b then Some y else None) ≡ Some x → Some y ≡ Some x
met s y x true e = e
met s y x false e = absurd (none-some x e)

fitted : (s : Sizes) (a : Ask) (x : Spot × Access) → fitting s a ≡ Some x → a ≡ Some x
fitted s None x e = e
fitted s (Some y) x e = met s y x (fits s y.0) e

pub unless_gone : (s : Sizes) (gone : Bool) (a : Ask) (x : Spot × Access) → (if gone then None else fitting s a) ≡ Some x → a ≡ Some x
unless_gone s true a x e = absurd (none-some x e)
unless_gone s false a x e = fitted s a x e

neither : (b : Bool) (a a' : Ask) → a ≡ None → a' ≡ None → (if b then a else a') ≡ None
neither true a a' e e' = e
neither false a a' e e' = e'

module _ (m : Meaning) (l : Layout) where
  no_line : (k : EventKind) (free blocks : List ℕ) (q : RunState) (micro : Micro) → is_outer k ≡ true → line_ask m l k free blocks q micro ≡ None
  no_line kinds.EnterLoad free blocks q micro e = refl
  no_line kinds.Announce free blocks q micro e = refl
  no_line kinds.EnterAgain free blocks q micro e = refl
  no_line kinds.Idle free blocks q micro e = refl
  no_line kinds.ScanEpoch free blocks q micro e = refl
  no_line (kinds.ScanOne n) free blocks q micro e = refl
  no_line kinds.Advance free blocks q micro e = refl
  no_line kinds.Split free blocks q micro e = refl
  no_line (kinds.Join worker) free blocks q micro e = refl
  no_line (kinds.LoadEntry request reply) free blocks q micro e = refl
  no_line (kinds.Hold thunk d) free blocks q micro e = refl
  no_line (kinds.ReadPlan thunk) free blocks q micro e = refl
  no_line kinds.ReadClock free blocks q micro e = refl
  no_line kinds.ReadReply free blocks q micro e = refl
  no_line kinds.ReadStamp free blocks q micro e = refl
  no_line (kinds.Guard d) free blocks q micro e = refl
  no_line (kinds.LoadGuard n) free blocks q micro e = refl
  no_line (kinds.BoardLoad word) free blocks q micro e = refl
  no_line (kinds.BoardTake word link) free blocks q micro e = refl
  no_line (kinds.BoardGive word slot) free blocks q micro e = refl
  no_line _ free blocks q micro e = absurd (false≢true e)

  no_opening : (k : EventKind) (q : RunState) → is_outer k ≡ true → opening_ask k q ≡ None
  no_opening (kinds.LoadThunk o) q e = absurd (false≢true e)
  no_opening kinds.LoadDone q e = absurd (false≢true e)
  no_opening _ q e = refl

  by_run : (rs : List Request) (r : ℕ) (k : EventKind) (p : PartState) (o : Option RunState) (x : Spot × Access) → is_outer k ≡ true → ask_by m l rs r k p o ≡ Some x → (o ≡ None) × (outside_ask m l rs r k p ≡ Some x)
  by_run rs r k p None x e h = (refl, h)
  by_run rs r k p (Some q) x e h = absurd (none-some x (sym (neither (is_open_run q) _ _ (no_line k p.nodes.free p.blocks.free q (next_of m q) e) (no_opening k q e)) ∙ h))

  -- such an event is enabled in no run alone
  pub outer : (rs : List Request) (r : ℕ) (k : EventKind) (p : PartState) (x : Spot × Access) → is_outer k ≡ true → asks m l rs r k p ≡ Some x → (p.run ≡ None) × (outside_ask m l rs r k p ≡ Some x)
  outer rs r k p x e h = by_run rs r k p p.run x e (unless_gone (sizes_for m l rs) p.gone (ask_by m l rs r k p p.run) x h)

-- where the test holds
pub tested : (b : Bool) (spot : Spot) (access : Access) (x : Spot × Access) → when b spot access ≡ Some x → (b ≡ true) × ((spot, access) ≡ x)
tested true spot access x e = (refl, some_same (spot, access) x e)
tested false spot access x e = absurd (none-some x e)

pub enters : (stage : Stage) (x : Spot × Access) → enter_load_ask stage ≡ Some x → (spots.Epoch, Loads) ≡ x
enters stages.Idle x e = some_same (spots.Epoch, Loads) x e
enters _ x e = absurd (none-some x e)

pub announces : (r : ℕ) (stage : Stage) (x : Spot × Access) → announce_ask r stage ≡ Some x → (e : ℕ) × (stage ≡ stages.Loaded e) × ((spots.Announcement r, Stores e) ≡ x)
announces r (stages.Loaded e) x h = (e, refl, some_same (spots.Announcement r, Stores e) x h)
announces r stages.Idle x h = absurd (none-some x h)
announces r stages.Announced x h = absurd (none-some x h)
announces r (stages.Entered g) x h = absurd (none-some x h)
announces r (stages.Scanning y next clear) x h = absurd (none-some x h)

pub enters_again : (between : Bool) (stage : Stage) (x : Spot × Access) → enter_again_by between stage ≡ Some x → (spots.Epoch, Loads) ≡ x
enters_again true stage x e = absurd (none-some x e)
enters_again false stages.Announced x e = some_same (spots.Epoch, Loads) x e
enters_again false _ x e = absurd (none-some x e)

same_number : (n next : ℕ) (b : Bool) → n == next && b ≡ true → next ≡ n
same_number n next b h = grind (arith, nat_tests)

scans_next : (l : Layout) (n : ℕ) (stage : Stage) (x : Spot × Access) → scan_one_ask l n stage ≡ Some x → scan_of stage ≡ kinds.ScanOne n
scans_next l n (stages.Scanning y next clear) x h = let t = tested (n == next && nat_le next l.runners) (spots.Announcement n) Loads x h in ap kinds.ScanOne (same_number n next (nat_le next l.runners) t.0)
scans_next l n stages.Idle x h = absurd (none-some x h)
scans_next l n (stages.Loaded e) x h = absurd (none-some x h)
scans_next l n stages.Announced x h = absurd (none-some x h)
scans_next l n (stages.Entered g) x h = absurd (none-some x h)

-- the next guard word of a sweep
pub record IsNextGuard (l : Layout) (n looked : ℕ) (x : Spot × Access) : Type 0 where
  pub next : n ≡ looked
  pub few : n ≤ l.runners
  pub met : (spots.Guard n, Loads) ≡ x

next_of_all : (l : Layout) (n looked : ℕ) → n == looked && nat_le n l.runners ≡ true → (n ≡ looked) × (n ≤ l.runners)
next_of_all l n looked e = (grind (arith, nat_tests, e), grind (arith, nat_tests, e))

looks_next : (l : Layout) (n looked : ℕ) (stage : Stage) (x : Spot × Access) → load_guard_by l n looked stage ≡ Some x → IsNextGuard l n looked x
looks_next l n looked stages.Idle x h =
    let t = tested (n == looked && nat_le n l.runners) (spots.Guard n) Loads x h in let b = next_of_all l n looked t.0 in
    record { next = b.0; few = b.1; met = t.1 }
looks_next l n looked (stages.Loaded e) x h = absurd (none-some x h)
looks_next l n looked stages.Announced x h = absurd (none-some x h)
looks_next l n looked (stages.Entered g) x h = absurd (none-some x h)
looks_next l n looked (stages.Scanning y next clear) x h = absurd (none-some x h)

-- the events of an entry, each with its word and access
module _ {T : Type 0} (m : Meaning) (r : RunnerState T) where
  enabled_outside : (k : EventKind) (x : Spot × Access) → is_outer k ≡ true → met_by m r k ≡ Some x → (r.part.run ≡ None) × (outside_ask m r.layout r.requests r.number k r.part ≡ Some x)
  enabled_outside k x e h = outer m r.layout r.requests r.number k r.part x e h

  pub in_no_run : (k : EventKind) → is_outer k ≡ true → IsEnabled m k r → r.part.run ≡ None
  in_no_run k e h = (enabled_outside k h.met e h.asked).0

  -- the announcement that a scan reads is the one that comes next
  pub scan_named : (n : ℕ) → IsEnabled m (kinds.ScanOne n) r → scan_of r.part.stage ≡ kinds.ScanOne n
  scan_named n h = scans_next r.layout n r.part.stage h.met (enabled_outside (kinds.ScanOne n) h.met refl h.asked).1

  pub asks_enter_load : (x : Spot × Access) → met_by m r kinds.EnterLoad ≡ Some x → x ≡ (spots.Epoch, Loads)
  asks_enter_load x h = sym (enters r.part.stage x (enabled_outside kinds.EnterLoad x refl h).1)

  pub asks_announce : (x : Spot × Access) → met_by m r kinds.Announce ≡ Some x → (e : ℕ) × (r.part.stage ≡ stages.Loaded e) × (x ≡ (spots.Announcement r.number, Stores e))
  asks_announce x h = let a = announces r.number r.part.stage x (enabled_outside kinds.Announce x refl h).1 in (a.0, a.1, sym a.2)

  pub asks_enter_again : (x : Spot × Access) → met_by m r kinds.EnterAgain ≡ Some x → x ≡ (spots.Epoch, Loads)
  asks_enter_again x h = sym (enters_again (is_between r.part.reads.look) r.part.stage x (enabled_outside kinds.EnterAgain x refl h).1)

  -- the own guard word is stored
  pub asks_guard : (d : Option ℕ) (x : Spot × Access) → met_by m r (kinds.Guard d) ≡ Some x → x ≡ (spots.Guard r.number, Stores (word_of d))
  asks_guard d x h = sym (tested (is_walking r.part.stage r.part.run && (is_none r.part.published && is_numbered r.layout d)) (spots.Guard r.number) (Stores (word_of d)) x (enabled_outside (kinds.Guard d) x refl h).1).1

  -- and a sweep reads the guard word that comes next
  pub asks_load_guard : (n : ℕ) (x : Spot × Access) → met_by m r (kinds.LoadGuard n) ≡ Some x → IsNextGuard r.layout n (length r.part.guards.looked) x
  asks_load_guard n x h = looks_next r.layout n (length r.part.guards.looked) r.part.stage x (enabled_outside (kinds.LoadGuard n) x refl h).1
