-- The keeper once it has split off one more worker, or joined one.
use Rattle.std.specs.Prelude.{◌==◌, ◌||◌, nat_lt, not, Bool, true, false, if◌then◌else◌}
use Rattle.std.proofs.Common.{◌≡◌, ℕ, zero, suc, ◌+◌, ◌*◌, ◌<◌, ◌≤◌, List, [], ◌∷◌, ◌++◌, length, refl, sym, ap, ◌∙◌, subst, arith, Option, Some, None, eq-eqb, ne_eqb, ◌≢◌}
use mathlib.Core.Logic.{dite}
use native.Mathlib.Decide.{ℕ_discrete}
use Rattle.machine_states.specs.table_words.specs.Places.{worker_blocks, keeper_blocks}
use Rattle.machine_states.specs.table_words.specs.declared.layout.Layout.{Layout}
use Rattle.machine_states.specs.table_words.specs.declared.spot.Spot.TheVariants as spots
use Rattle.machine_states.specs.table_words.specs.declared.access.Access.TheVariants.{Loads}
use Rattle.machine_states.specs.structure_laws.specs.Meaning.{Meaning}
use Rattle.machine_states.specs.runner_parts.specs.declared.event.EventKind.TheVariants as kinds
use Rattle.machine_states.specs.runner_parts.specs.State.{RunState, PartState, BlocksState, RecordsState, NodesState, GuardsState}
use Rattle.machine_states.specs.runner_parts.specs.declared.entries.BoardRead.{BoardRead}
use Rattle.machine_states.specs.runner_parts.specs.Tests.{has, is_between}
use Rattle.machine_states.specs.runner_steps.specs.After.{after, after_by, stepped, leaves}
use Rattle.machine_states.specs.runner_steps.specs.Blocks.{blocks_after}
use Rattle.machine_states.specs.First.{keeper_part, falling}
use Rattle.closed_words.specs.version_words.specs.RunnerState.{RunnerState}
use Rattle.closed_words.specs.version_words.specs.Shown.{left_part}
use Rattle.closed_words.specs.version_words.specs.TableState.{TableState, IsOf, first_keeper, HasJoinedAll}
use Rattle.closed_words.specs.version_words.specs.Events.{HasSplit, joined_by}
use Rattle.closed_words.specs.version_words.proofs.Stages.{then_split, then_keeper, then_joined, split_joined}
use Rattle.std.specs.Option.{IsSome}
use Rattle.settling.specs.Settled.{MaySettle, Settles}
use Rattle.machine_states.proofs.Marks.{Stays, stays}
use Rattle.settled_tables.specs.Keeper.{IsIdleKeeper}

-- a part of the machine's that doesn't go by the blocks, the board's loads and the records
abbrev IsBlind : {B : Type 0} → (PartState → B) → Type 0
IsBlind f = (q : PartState) (b : BlocksState) (c : List BoardRead) (s : RecordsState) → f (record q { blocks = b; board = c; records = s }) ≡ f q

module _ {B : Type 0} (f : PartState → B) (blind : IsBlind f) (m : Meaning) (l : Layout) (r : ℕ) (p : PartState) (none : p.run ≡ None) where
  chosen : (b : Bool) → f (if b then record p { records = record (p.records) { splits = p.records.splits + 1 } } else p) ≡ f p
  chosen true = blind p p.blocks p.board _
  chosen false = refl

  pub split_leaves : f (after m l r kinds.Split spots.Seat Loads p 0) ≡ f p
  split_leaves = blind (stepped m l kinds.Split p 0) _ _ _ ∙ (ap (λ (o : Option RunState). f (after_by m l kinds.Split p o 0)) none ∙ chosen (nat_lt p.records.splits l.runners))

  pub join_leaves : (worker : ℕ) → f (after m l r (kinds.Join worker) spots.Seat Loads p 0) ≡ f p
  join_leaves worker = blind (stepped m l (kinds.Join worker) p 0) _ _ _ ∙ (ap (λ (o : Option RunState). f (after_by m l (kinds.Join worker) p o 0)) none ∙ blind p p.blocks p.board _)

-- the list of joined workers, after a join and after a split
lists_joined : (m : Meaning) (l : Layout) (r worker : ℕ) (p : PartState) → p.run ≡ None
    → (after m l r (kinds.Join worker) spots.Seat Loads p 0).records.joined ≡ p.records.joined ++ worker ∷ []
lists_joined m l r worker p none =
    ap (λ (o : Option RunState). (after_by m l (kinds.Join worker) p o 0).records.joined) none

-- and that of the runs that came to their end
split_finished : (m : Meaning) (l : Layout) (r : ℕ) (p : PartState) → p.run ≡ None
    → (after m l r kinds.Split spots.Seat Loads p 0).records.finished ≡ p.records.finished
split_finished m l r p none =
    ap (λ (o : Option RunState). (after_by m l kinds.Split p o 0).records.finished) none ∙ chosen (nat_lt p.records.splits l.runners)
  where
    chosen : (b : Bool) → (if b then record p { records = record (p.records) { splits = p.records.splits + 1 } } else p).records.finished ≡ p.records.finished
    chosen true = refl
    chosen false = refl

join_finished : (m : Meaning) (l : Layout) (r worker : ℕ) (p : PartState) → p.run ≡ None
    → (after m l r (kinds.Join worker) spots.Seat Loads p 0).records.finished ≡ p.records.finished
join_finished m l r worker p none =
    ap (λ (o : Option RunState). (after_by m l (kinds.Join worker) p o 0).records.finished) none

-- neither touches the own blocks
split_blocks : (m : Meaning) (l : Layout) (r : ℕ) (p : PartState) → p.run ≡ None → (after m l r kinds.Split spots.Seat Loads p 0).blocks ≡ p.blocks
split_blocks m l r p none = ap (λ (o : Option RunState). blocks_after m l kinds.Split p o 0) none

join_blocks : (m : Meaning) (l : Layout) (r worker : ℕ) (p : PartState) → p.run ≡ None → (after m l r (kinds.Join worker) spots.Seat Loads p 0).blocks ≡ p.blocks
join_blocks m l r worker p none = ap (λ (o : Option RunState). blocks_after m l (kinds.Join worker) p o 0) none

-- and neither changes what is kept of the epoch
split_stays : (m : Meaning) (l : Layout) (p : PartState) → p.run ≡ None → Stays p (stepped m l kinds.Split p 0)
split_stays m l p none = subst (λ (o : Option RunState). Stays p (after_by m l kinds.Split p o 0)) (sym none) (stays m l p 0 kinds.Split None)

join_stays : (m : Meaning) (l : Layout) (p : PartState) (worker : ℕ) → p.run ≡ None → Stays p (stepped m l (kinds.Join worker) p 0)
join_stays m l p worker none = subst (λ (o : Option RunState). Stays p (after_by m l (kinds.Join worker) p o 0)) (sym none) (stays m l p 0 (kinds.Join worker) None)

has_last : (xs : List ℕ) (x : ℕ) → has (xs ++ x ∷ []) x ≡ true
has_last [] x = ap (λ (b : Bool). b || false) (eq-eqb x x refl)
has_last (y ∷ xs) x = ap (λ (b : Bool). (y == x) || b) (has_last xs x) ∙ or_true (y == x)
  where
    or_true : (b : Bool) → (b || true) ≡ true
    or_true true = refl
    or_true false = refl

or_still : (b c d : Bool) → (b || c) ≡ true → (c ≡ true → d ≡ true) → (b || d) ≡ true
or_still true c d some more = refl
or_still false c d some more = more some

has_still : (xs : List ℕ) (x y : ℕ) → has xs y ≡ true → has (xs ++ x ∷ []) y ≡ true
has_still [] x y some = absurd (let e = some in cc)
has_still (z ∷ xs) x y some = or_still (z == y) (has xs y) (has (xs ++ x ∷ []) y) some (has_still xs x y)

-- the keeper of a new table
pub first_is_idle : {T : Type 0} (m : Meaning) (t : TableState T) (r : RunnerState T) → r ≡ first_keeper m t → IsIdleKeeper m 0 0 r
first_is_idle {T} m t r is = subst (λ (y : RunnerState T). IsIdleKeeper m 0 0 y) (sym is) (record {
  keeper = record { present = refl; resting = refl; number = refl; as_many = refl };
  at = record { present = refl; resting = refl; at = refl; published = refl; settled = refl; seated = omega arith };
  joined = record { fresh = λ worker past. refl; parts = λ worker few. absurd (omega (arith, few)) };
  told = λ worker few. absurd (omega (arith, few));
  nodes = refl;
  blocks = refl;
  guards = refl;
  finished = refl;
  unmet = refl;
  apart = refl;
})

module _ {T : Type 0} (m : Meaning) (r r' : RunnerState T) (splits : ℕ) where
  pub then_idle : HasSplit m r r' → IsIdleKeeper m splits 0 r → splits < r.layout.runners → IsIdleKeeper m (splits + 1) 0 r'
  then_idle split is few = record {
    keeper = then_split m r r' splits split is.keeper few;
    at = record {
      present = of (λ (q : PartState). q.gone) (λ q b c s. refl) ∙ is.at.present;
      resting = of (λ (q : PartState). q.run) (λ q b c s. refl) ∙ is.at.resting;
      at = of (λ (q : PartState). q.stage) (λ q b c s. refl) ∙ is.at.at;
      published = of (λ (q : PartState). q.published) (λ q b c s. refl) ∙ is.at.published;
      settled = of (λ (q : PartState). is_between q.reads.look) (λ q b c s. refl) ∙ is.at.settled;
      seated = subst (λ (y : RunnerState T). y.number ≤ y.layout.runners) (sym split.made) is.at.seated;
    };
    joined = split_joined m r r' splits 0 split is.keeper is.joined;
    told = λ worker none. absurd (omega (arith, none));
    nodes = of (λ (q : PartState). q.nodes) (λ q b c s. refl) ∙ (is.nodes ∙ ap (λ (l : Layout). (keeper_part m l).nodes) (sym (ap (λ (y : RunnerState T). y.layout) split.made)));
    blocks = ap (λ (y : RunnerState T). y.part.blocks) split.made
        ∙ (split_blocks m r.layout r.number r.part is.at.resting ∙ (is.blocks ∙ ap (λ (l : Layout). (keeper_part m l).blocks) (sym (ap (λ (y : RunnerState T). y.layout) split.made))));
    guards = of (λ (q : PartState). q.guards) (λ q b c s. refl) ∙ is.guards;
    finished = ap (λ (y : RunnerState T). y.part.records.finished) split.made
        ∙ (split_finished m r.layout r.number r.part is.at.resting ∙ is.finished);
    unmet = ap (λ (y : RunnerState T). y.part.records.epoch_seen) split.made
        ∙ (ap (λ (z : ℕ × (Bool × Bool)). z.0) (split_stays m r.layout r.part is.at.resting).kept ∙ is.unmet);
    apart = ap (λ (y : RunnerState T). y.part.records.crosses) split.made
        ∙ (ap (λ (z : ℕ × (Bool × Bool)). z.1.1) (split_stays m r.layout r.part is.at.resting).kept ∙ is.apart);
  }
    where
      of : {B : Type 0} → (f : PartState → B) → IsBlind f → f r'.part ≡ f r.part
      of f blind = ap (λ (y : RunnerState T). f y.part) split.made ∙ split_leaves f blind m r.layout r.number r.part is.at.resting

module _ {T : Type 0} (m : Meaning) (keeper worker r' : RunnerState T) (splits count : ℕ) (joins : r' ≡ joined_by m worker keeper) where
  pub then_gathered : IsIdleKeeper m splits count keeper → worker.number ≡ count → IsIdleKeeper m splits (count + 1) r'
  then_gathered is next = record {
    keeper = then_keeper m keeper worker r' splits count joins is.keeper;
    at = record {
      present = of (λ (q : PartState). q.gone) (λ q b c s. refl) ∙ is.at.present;
      resting = of (λ (q : PartState). q.run) (λ q b c s. refl) ∙ is.at.resting;
      at = of (λ (q : PartState). q.stage) (λ q b c s. refl) ∙ is.at.at;
      published = of (λ (q : PartState). q.published) (λ q b c s. refl) ∙ is.at.published;
      settled = of (λ (q : PartState). is_between q.reads.look) (λ q b c s. refl) ∙ is.at.settled;
      seated = subst (λ (y : RunnerState T). y.number ≤ y.layout.runners) (sym joins) is.at.seated;
    };
    joined = then_joined m keeper worker r' splits count joins is.keeper is.joined next;
    told = λ k few. told k few;
    nodes = of (λ (q : PartState). q.nodes) (λ q b c s. refl) ∙ (is.nodes ∙ ap (λ (l : Layout). (keeper_part m l).nodes) (sym (ap (λ (y : RunnerState T). y.layout) joins)));
    blocks = ap (λ (y : RunnerState T). y.part.blocks) joins
        ∙ (join_blocks m keeper.layout keeper.number worker.number keeper.part is.at.resting
        ∙ (is.blocks ∙ ap (λ (l : Layout). (keeper_part m l).blocks) (sym (ap (λ (y : RunnerState T). y.layout) joins))));
    guards = of (λ (q : PartState). q.guards) (λ q b c s. refl) ∙ is.guards;
    finished = ap (λ (y : RunnerState T). y.part.records.finished) joins
        ∙ (join_finished m keeper.layout keeper.number worker.number keeper.part is.at.resting ∙ is.finished);
    unmet = ap (λ (y : RunnerState T). y.part.records.epoch_seen) joins ∙ seen;
    apart = ap (λ (y : RunnerState T). y.part.records.crosses) joins ∙ late (stepped m keeper.layout (kinds.Join worker.number) keeper.part 0).records seen
        (ap (λ (z : ℕ × (Bool × Bool)). z.1.1) marked.kept ∙ is.apart);
  }
    where
      of : {B : Type 0} → (f : PartState → B) → IsBlind f → f r'.part ≡ f keeper.part
      of f blind = ap (λ (y : RunnerState T). f y.part) joins ∙ (blind (after m keeper.layout keeper.number (kinds.Join worker.number) spots.Seat Loads keeper.part 0) _ _ _
          ∙ join_leaves f blind m keeper.layout keeper.number keeper.part is.at.resting worker.number)

      marked : Stays keeper.part (stepped m keeper.layout (kinds.Join worker.number) keeper.part 0)
      marked = join_stays m keeper.layout keeper.part worker.number is.at.resting

      seen : (stepped m keeper.layout (kinds.Join worker.number) keeper.part 0).records.epoch_seen ≡ 0
      seen = ap (λ (z : ℕ × (Bool × Bool)). z.0) marked.kept ∙ is.unmet

      late : (s : RecordsState) → s.epoch_seen ≡ 0 → s.crosses ≡ false → (not (s.epoch_seen == 0) || s.crosses) ≡ false
      late s unmet apart = ap (λ n. not (n == 0) || s.crosses) unmet ∙ apart

      list : r'.part.records.joined ≡ keeper.part.records.joined ++ worker.number ∷ []
      list = ap (λ (y : RunnerState T). y.part.records.joined) joins ∙ lists_joined m keeper.layout keeper.number worker.number keeper.part is.at.resting

      told : (k : ℕ) → k < count + 1 → has r'.part.records.joined k ≡ true
      told k few = ap (λ xs. has xs k) list ∙ dite (ℕ_discrete k worker.number)
          (λ e. ap (λ (x : ℕ). has (keeper.part.records.joined ++ worker.number ∷ []) x) e ∙ has_last keeper.part.records.joined worker.number)
          (λ ne. has_still keeper.part.records.joined worker.number k (is.told k (omega (arith, few, next, ne))))

  -- it keeps the part of this worker, and those that it kept
  pub keeps_part : left_part r'.joined worker.number ≡ Some (leaves worker.part)
  keeps_part = ap (λ (y : RunnerState T). left_part y.joined worker.number) joins
      ∙ ap (λ (b : Bool). if b then Some (leaves worker.part) else left_part keeper.joined worker.number) (eq-eqb worker.number worker.number refl)

  pub keeps_parts : (k : ℕ) → worker.number ≢ k → left_part r'.joined k ≡ left_part keeper.joined k
  keeps_parts k ne = ap (λ (y : RunnerState T). left_part y.joined k) joins
      ∙ ap (λ (b : Bool). if b then Some (leaves worker.part) else left_part keeper.joined k) (ne_eqb worker.number k ne)

pub length-falling : (from n : ℕ) → length (falling from n) ≡ n
length-falling from zero = refl
length-falling from (suc n) = ap suc (length-falling from n)

-- once it has joined all workers it has them all, and all its own node slots are free
pub has_all : {T : Type 0} (m : Meaning) (t : TableState T) (r : RunnerState T) (count : ℕ) → IsOf t r → IsIdleKeeper m count count r → count ≡ t.layout.runners → HasJoinedAll t r
has_all m t r count own is all = record {
  number = is.keeper.number ∙ ap (λ (l : Layout). l.runners) own.layout;
  joined = λ worker few. is.joined.parts worker (omega (arith, few, all));
}

pub free_slots : {T : Type 0} (m : Meaning) (t : TableState T) (r : RunnerState T) (splits count : ℕ) → IsOf t r → IsIdleKeeper m splits count r
    → length r.part.nodes.free ≡ 2 * t.layout.runners + 2
free_slots m t r splits count own is = ap (λ (n : NodesState). length n.free) is.nodes
    ∙ (length-falling (m.fixed_slots + r.layout.nodes * r.layout.runners) (2 * r.layout.runners + 2) ∙ ap (λ (l : Layout). 2 * l.runners + 2) own.layout)

-- so are its blocks
free_blocks : {T : Type 0} (m : Meaning) (t : TableState T) (r : RunnerState T) (splits count : ℕ) → IsOf t r → IsIdleKeeper m splits count r
    → length r.part.blocks.free ≡ keeper_blocks t.layout
free_blocks m t r splits count own is = ap (λ (b : BlocksState). length b.free) is.blocks
    ∙ (length-falling (worker_blocks r.layout * r.layout.runners) (keeper_blocks r.layout) ∙ ap (λ (l : Layout). keeper_blocks l) own.layout)

-- it may settle the table
pub may_settle : {T : Type 0} (m : Meaning) (t : TableState T) (r : RunnerState T) (count : ℕ) → IsOf t r → IsIdleKeeper m count count r → count ≡ t.layout.runners → MaySettle t r
may_settle m t r count own is all = record {
  joined = has_all m t r count own is all;
  told = λ worker few. is.told worker (omega (arith, few, all));
  tidy = record {
    at = is.at;
    hand = ap (λ (n : NodesState). n.hand) is.nodes;
    tests = ap (λ (n : NodesState). n.tests) is.nodes;
    looked = ap (λ (g : GuardsState). g.looked) is.guards;
    unguarded = ap (λ (g : GuardsState). g.named) is.guards;
  };
  free = free_slots m t r count count own is;
  blocks = free_blocks m t r count count own is;
}

-- and once it has settled it, it has joined them still
pub settled_all : {T : Type 0} (m : Meaning) (t : TableState T) (old new : RunnerState T) → Settles m old new → HasJoinedAll t old → HasJoinedAll t new
settled_all m t old new settles all = record {
  number = settles.number ∙ all.number;
  joined = λ worker few. subst (λ js. IsSome (left_part js worker)) (sym settles.joined) (all.joined worker few);
}
