-- The end of a scan leaves nothing old in the runner's limbo.
use Rattle.std.specs.Prelude.{◌==◌, ◌&&◌, not, cond, Bool, true, false, nat_lt, nat_le, All}
use Rattle.std.specs.List.{filter}
use Rattle.std.proofs.Common.{◌≡◌, ℕ, ◌+◌, ◌<◌, ◌≤◌, ◌⊎◌, List, refl, sym, ap, ◌∙◌, subst, arith, le_of_eq, Option, Some, None}
use Rattle.std.proofs.lemmas.Bool.Decides.{nat_tests}
use Rattle.std.proofs.lemmas.List.Elements.{All-weaker, filter_passes}
use Rattle.machine_states.specs.map_history.specs.declared.op.Request.{Request}
use Rattle.machine_states.specs.table_words.specs.declared.layout.Layout.{Layout}
use Rattle.machine_states.specs.table_words.specs.declared.spot.Spot.{Spot}
use Rattle.machine_states.specs.table_words.specs.declared.spot.Spot.TheVariants.{Announcement}
use Rattle.machine_states.specs.table_words.specs.declared.access.Access.{Access}
use Rattle.machine_states.specs.table_words.specs.Seen.{upd}
use Rattle.machine_states.specs.structure_laws.specs.Meaning.{Meaning}
use Rattle.machine_states.specs.epoch_core.specs.declared.stage.Stage.{Stage}
use Rattle.machine_states.specs.epoch_core.specs.declared.stage.Stage.TheVariants.{Idle, Scanning}
use Rattle.machine_states.specs.runner_parts.specs.declared.entries.Retired.{Retired}
use Rattle.machine_states.specs.runner_parts.specs.declared.event.EventKind.{EventKind}
use Rattle.machine_states.specs.runner_parts.specs.declared.event.EventKind.TheVariants as kinds
use Rattle.machine_states.specs.runner_parts.specs.State.{RunState, PartState, RecordsState}
use Rattle.machine_states.specs.runner_parts.specs.Lists as lists
use Rattle.machine_states.specs.runner_steps.specs.AfterOutside as outside
use Rattle.machine_states.specs.runner_steps.specs.Asks.{outside_ask}
use Rattle.machine_states.specs.runner_steps.specs.After.{after, outside_after, after_by}
use Rattle.machine_states.specs.runner_steps.specs.After.{noted}
use Rattle.machine_states.specs.runner_steps.specs.Blocks.{blocks_outside, blocks_after}
use Rattle.machine_states.specs.runner_steps.specs.Board.{board_after}
use Rattle.machine_states.specs.epoch_core.specs.Moves.{is_clear}
use Rattle.machine_states.specs.World.{World, happens}
use Rattle.machine_states.specs.Sight.{Sight, sight, IsWhole, sight_after, Steps}
use Rattle.machine_states.specs.Reached.{Reached}
use Rattle.machine_states.proofs.Reached.{reached_all}
use Rattle.machine_states.proofs.Sights.{happens_steps}
use Rattle.machine_states.proofs.Updates.{upd_here}
use Rattle.machine_epochs.specs.Collects.{HasNothingOld, ScansCollect}
use Rattle.machine_epochs.proofs.OutsideAsked as asked
use Rattle.machine_epochs.proofs.Entries.{asked_outside}

young : (e : ℕ) (xs : List Retired) → All (λ x. e < x.epoch + 2) (filter (λ x. not (lists.is_old e x)) xs)
young e xs = All-weaker (λ (x : Retired). not (lists.is_old e x) ≡ true) (λ x. e < x.epoch + 2) (λ x h. is_young x.epoch e h) (filter (λ x. not (lists.is_old e x)) xs) (filter_passes (λ x. not (lists.is_old e x)) xs)
  where
    is_young : (y e : ℕ) → not (nat_le (y + 2) e) ≡ true → e < y + 2
    is_young y e h = grind (arith, nat_tests)

nothing_old : (p : PartState) (e : ℕ) (records : RecordsState) → HasNothingOld e (record (outside.collected p e) { records = records })
nothing_old p e records = record { nodes = young e p.nodes.limbo }

not_idle : {B : Type 0} {x n : ℕ} {b : Bool} → Scanning x n b ≡ Idle → B
not_idle e = absurd (let y = e in cc)

some_old : (e n runners : ℕ) (clear : Bool) → (n == runners && not (clear && nat_lt e 4611686018427387904)) ≡ true → (clear ≡ false) ⊎ (4611686018427387904 ≤ e)
some_old e n runners clear h = grind (arith, nat_tests)

below_last : (a b : ℕ) (p p' : PartState) → a < b → cond (nat_lt a b) p p' ≡ p
below_last a b p p' h = grind (arith, nat_tests)

module _ (l : Layout) (p : PartState) (found : ℕ) (records : RecordsState) where
  -- the part of a scanner after one more announcement, if its scan is over
  over_by : (b b' : Bool) (e n : ℕ) (clear : Bool) (st : Stage) → st ≡ p.stage → (st ≡ Idle → ⊥)
      → (cond b (cond b' (outside.collected p e) (outside.with_stage p (Scanning e n clear))) p).stage ≡ Idle
      → (b' ≡ true) × HasNothingOld e (record (cond b (cond b' (outside.collected p e) (outside.with_stage p (Scanning e n clear))) p) { records = records })
  over_by true true e n clear st is out over = (refl, nothing_old p e records)
  over_by true false e n clear st is out over = not_idle over
  over_by false b' e n clear st is out over = absurd (out (is ∙ over))

module _ (m : Meaning) (l : Layout) (rs : List Request) (w v : World) (whole : IsWhole m l rs w) (r : ℕ) where
  abbrev s : Sight
  s = sight m l rs w

  abbrev p : PartState
  p = s.part r

  abbrev Goes : EventKind → Type 0
  Goes kind = happens m l rs w (record { runner = r; kind = kind }) ≡ Some v

  steps : (kind : EventKind) → Goes kind → Steps m l rs s (sight m l rs v) r kind
  steps kind h = (happens_steps m l rs w v (record { runner = r; kind = kind }) whole h).0

  -- what an event outside a run that changes no other part leaves of its runner
  own_part : (kind : EventKind) (h : Goes kind) → p.run ≡ None → (sight_after m l s r kind (steps kind h).ask).part ≡ upd s.part r (after m l r kind (steps kind h).ask.0 (steps kind h).ask.1 p (s.word (steps kind h).ask.0))
      → (records : RecordsState) × ((sight m l rs v).part r ≡ record (outside_after m l kind p (s.word (steps kind h).ask.0)) { blocks = blocks_outside m l kind p (s.word (steps kind h).ask.0); board = board_after kind p.board (s.word (steps kind h).ask.0); records = records })
  own_part kind h none is =
      let x = (steps kind h).ask in
      let found = s.word x.0 in (
        noted l r kind x.0 x.1 found (outside_after m l kind p found).records,
        ap (λ (t : Sight). t.part r) (steps kind h).next ∙ (ap (λ (g : ℕ → PartState). g r) is ∙ (upd_here s.part r _
            ∙ ap (λ (o : Option RunState). record (after_by m l kind p o found) { blocks = blocks_after m l kind p o found; board = board_after kind p.board found; records = noted l r kind x.0 x.1 found (after_by m l kind p o found).records }) none)),
      )

  module _ (k e n : ℕ) (clear : Bool) (stage : p.stage ≡ Scanning e n clear) (h : Goes (kinds.ScanOne k)) where
    abbrev ask : Spot × Access
    ask = (steps (kinds.ScanOne k) h).ask

    abbrev found : ℕ
    found = s.word ask.0

    outside_run : (p.run ≡ None) × (outside_ask m l rs r (kinds.ScanOne k) p ≡ Some ask)
    outside_run = asked_outside m l rs s r ask (kinds.ScanOne k) refl (steps (kinds.ScanOne k) h).asked

    read : found ≡ s.word (Announcement k)
    read = ap (λ (y : Spot × Access). s.word y.0) (sym (asked.scan_one_asked l k p.stage ask outside_run.1).4)

    abbrev Over : RecordsState → Type 0
    Over records = ((n == l.runners && not ((clear && is_clear e found) && nat_lt e 4611686018427387904)) ≡ true) × HasNothingOld e (record (outside.scan_one_after l p p.stage found) { records = records })

    ends : (records : RecordsState) → (outside.scan_one_after l p p.stage found).stage ≡ Idle → Over records
    ends records idle =
        let at : outside.scan_one_after l p p.stage found ≡ outside.scan_one_after l p (Scanning e n clear) found = ap (λ (q : Stage). outside.scan_one_after l p q found) stage in
        let o = over_by l p found records (nat_le n l.runners) _ e (n + 1) (clear && is_clear e found) p.stage refl (λ i. not_idle (sym stage ∙ i)) (ap (λ (q : PartState). q.stage) (sym at) ∙ idle) in
        (o.0, subst (λ (q : PartState). HasNothingOld e (record q { records = records })) (sym at) o.1)

    over : ((sight m l rs v).part r).stage ≡ Idle → (records : RecordsState) × ((sight m l rs v).part r ≡ record (outside.scan_one_after l p p.stage found) { blocks = p.blocks; board = p.board; records = records }) × Over records
    over idle = let o = own_part (kinds.ScanOne k) h outside_run.0 refl in (o.0, o.1, ends o.0 (ap (λ (q : PartState). q.stage) (sym o.1) ∙ idle))

    scan_last : ((sight m l rs v).part r).stage ≡ Idle → HasNothingOld e ((sight m l rs v).part r)
    scan_last idle = let o = over idle in subst (HasNothingOld e) (sym o.1) (record { nodes = o.2.1.nodes })

    scan_unclear : clear ≡ true → ((sight m l rs v).part r).stage ≡ Idle → (is_clear e (s.word (Announcement k)) ≡ false) ⊎ (4611686018427387904 ≤ e)
    scan_unclear so idle = let o = over idle in
        some_old e n l.runners (is_clear e (s.word (Announcement k))) (ap (λ b. n == l.runners && not (b && nat_lt e 4611686018427387904)) (sym (λ i. so i && is_clear e (read i))) ∙ o.2.0)

  module _ (e n : ℕ) (clear : Bool) (stage : p.stage ≡ Scanning e n clear) (h : Goes kinds.Advance) where
    abbrev advances : Spot × Access
    advances = (steps kinds.Advance h).ask

    in_no_run : (p.run ≡ None) × (outside_ask m l rs r kinds.Advance p ≡ Some advances)
    in_no_run = asked_outside m l rs s r advances kinds.Advance refl (steps kinds.Advance h).asked

    tried : (clear ≡ true) × (l.runners < n) × (e < 4611686018427387904)
    tried = let a = asked.advance_asked l p.stage advances in_no_run.1 in same_scan (sym stage ∙ a.2) a.3 a.4
      where
        same_scan : {e' n' : ℕ} → Scanning e n clear ≡ Scanning e' n' true → l.runners < n' → e' < 4611686018427387904 → (clear ≡ true) × (l.runners < n) × (e < 4611686018427387904)
        same_scan {e'} {n'} is past low =
            let c : clear ≡ true = cc in let a : n ≡ n' = cc in let b : e ≡ e' = cc in (c, subst (λ k. l.runners < k) (sym a) past, subst (λ k. k < 4611686018427387904) (sym b) low)

    advance_collects : HasNothingOld (e + 1) ((sight m l rs v).part r)
    advance_collects =
        let o = own_part kinds.Advance h in_no_run.0 refl in
        let at : outside.advance_after p p.stage ≡ outside.collected p (e + 1) = ap (λ (q : Stage). outside.advance_after p q) stage ∙ below_last e 4611686018427387904 _ p tried.2 in
        subst (HasNothingOld (e + 1)) (sym (o.1 ∙ ap (λ (q : PartState). record q { blocks = p.blocks; board = p.board; records = o.0 }) at)) (nothing_old p (e + 1) o.0)

scans_collect : (m : Meaning) (l : Layout) (rs : List Request) (w v : World) → IsWhole m l rs w → ScansCollect m l rs w v
scans_collect m l rs w v whole = record {
  last = λ r k e n clear scan idle. scan_last m l rs w v whole r k e n clear scan.stage scan.step idle;
  unclear = λ r k e n scan idle. scan_unclear m l rs w v whole r k e n true scan.stage scan.step refl idle;
  advance = λ r e n clear scan. advance_collects m l rs w v whole r e n clear scan.stage scan.step;
  clear = λ r e n clear scan. tried m l rs w v whole r e n clear scan.stage scan.step;
}

pub reached_collects : (m : Meaning) (l : Layout) (rs : List Request) (w v : World) → Reached m l rs w → ScansCollect m l rs w v
reached_collects m l rs w v reached = let all = reached_all m l rs w reached in scans_collect m l rs w v (record { words = le_of_eq (sym all.words); parts = all.parts })
