-- What a link costs, that one is enough, and what it leaves.
use Rattle.std.proofs.Common.{◌≡◌, ℕ, suc, ◌+◌, ◌-◌, ◌≤◌, ◌<◌, inr, List, [], ◌∷◌, length, true, false, refl, sym, ap, subst, ◌∙◌, arith, Option, Some, None}
use Rattle.std.specs.Prelude.{◌*◌, ◌/◌, ◌==◌, is_some, nat_lt, slice_index, if◌then◌else◌}
use Rattle.std.proofs.lemmas.Bool.Decides.{nat_tests}
use Rattle.machine_states.specs.body_terms.specs.declared.micro.Micro.{Micro}
use Rattle.machine_states.specs.table_words.specs.Places.{part_words}
use Rattle.machine_states.specs.structure_laws.specs.Meaning.{Meaning}
use Rattle.machine_states.specs.body_terms.specs.block_words.specs.Blocks.{blocks_for}
use Rattle.machine_states.specs.runner_parts.specs.State.{RunState, PartState}
use Rattle.machine_states.specs.runner_steps.specs.InRun.{make_slot, last_of}
use Rattle.machine_states.specs.runner_steps.specs.Sections.{next_of}
use Rattle.version_words.specs.RunnerState.{RunnerState}
use Rattle.next_steps.specs.Steps.{next_block}
use Rattle.commit_log.specs.Runs.{LinkStepped}
use Rattle.commit_log.specs.Links.{link_cost, links_cost, is_due, HasRoom, HasLinked, IsSameLine}
use Rattle.commit_log.proofs.Running.{moved_same}

is_less : (a b : ℕ) → nat_lt a b ≡ true → a < b
is_less a b e = grind (arith, nat_tests)

not_less : (a b : ℕ) → nat_lt a b ≡ false → b ≤ a
not_less a b e = grind (arith, nat_tests)

-- a list that isn't empty has a last one
has_last : (b : ℕ) (bs : List ℕ) → is_some (last_of (b ∷ bs)) ≡ true
has_last b bs =
    let some : (suc (length bs) == 0) ≡ false = grind (arith, nat_tests) in
    ap (λ c. is_some (if c then None else Some (slice_index (b ∷ bs) (suc (length bs) - 1)))) some

-- blocks for some words, and for those behind them
parts_add : (b c links links' d : ℕ) → b ≤ links' → links ≤ links' → b ≤ c → d ≡ c → b - links + (d - links') ≤ c - links
parts_add b c links links' d reach more rises same = omega (arith, reach, more, rises, same)

costs_add : (b c d : ℕ) → b + c ≤ d → link_cost * b + link_cost * c ≤ link_cost * d
costs_add b c d low = omega (arith, low)

-- from the first word on, whatever a run has linked
next_links : (words more links : ℕ) → words ≤ part_words * suc links → link_cost * blocks_for words + link_cost * (blocks_for (words + more) - links) ≤ link_cost * blocks_for (words + more)
next_links words more links enough = omega (arith, enough)

-- a run that knows the parts of its words so far
module _ (q : RunState) (enough : length q.trail ≤ part_words * suc (length q.links)) where
  -- a link is due where these parts are full
  pub due_place : is_due q ≡ true → length q.trail ≡ part_words * suc (length q.links)
  due_place due = let more = is_less (length q.links) (length q.trail / part_words) due in omega (arith, more, enough)

  pub cost_due : is_due q ≡ true → links_cost 1 q ≡ link_cost
  cost_due due =
      let at = due_place due in
      let one : blocks_for (length q.trail + 1) - length q.links ≡ 1 = omega (arith, at) in
      ap (λ (n : ℕ). link_cost * n) one

  pub cost_enough : is_due q ≡ true → link_cost ≤ links_cost 1 q
  cost_enough due = subst (λ (n : ℕ). link_cost ≤ n) (sym (cost_due due)) (omega arith)

  pub cost_none : is_due q ≡ false → links_cost 1 q ≡ 0
  cost_none due =
      let low = not_less (length q.links) (length q.trail / part_words) due in
      let none : blocks_for (length q.trail + 1) - length q.links ≡ 0 = omega (arith, low) in
      ap (λ (n : ℕ). link_cost * n) none

  -- the links for some words, and then those for more of them behind
  pub cost_more : (n k : ℕ) (q' : RunState) → length q'.trail ≡ length q.trail + n → length q.links ≤ length q'.links → length q'.trail ≤ part_words * suc (length q'.links)
      → links_cost n q + links_cost k q' ≤ links_cost (n + k) q
  cost_more n k q' words more enough' =
      let known : blocks_for (length q.trail + n) ≤ length q'.links = omega (arith, words, enough') in
      let rises : blocks_for (length q.trail + n) ≤ blocks_for (length q.trail + (n + k)) = omega arith in
      let same : blocks_for (length q'.trail + k) ≡ blocks_for (length q.trail + (n + k)) = ap blocks_for (let z : length q'.trail + k ≡ length q.trail + (n + k) = omega (arith, words) in z) in
      costs_add (blocks_for (length q.trail + n) - length q.links) (blocks_for (length q'.trail + k) - length q'.links) (blocks_for (length q.trail + (n + k)) - length q.links)
      (parts_add (blocks_for (length q.trail + n)) (blocks_for (length q.trail + (n + k))) (length q.links) (length q'.links) (blocks_for (length q'.trail + k)) known more rises same)

  -- the links for all words so far, and then those for more of them
  pub cost_next : (n : ℕ) → link_cost * blocks_for (length q.trail) + links_cost n q ≤ link_cost * blocks_for (length q.trail + n)
  cost_next n = next_links (length q.trail) n (length q.links) enough

  -- with room for one word there is a block where one is due
  pub room_next : (p : PartState) → HasRoom 1 p q → is_due q ≡ true → is_some (next_block p q) ≡ true
  room_next p room due = by q.block refl p.blocks.free refl
    where
      by : (o : Option ℕ) → q.block ≡ o → (free : List ℕ) → p.blocks.free ≡ free → is_some (next_block p q) ≡ true
      by (Some b) e free f = ap (λ (o : Option ℕ). is_some (make_slot o p.blocks.free)) e
      by None e [] f = absurd (let at = due_place due in let h = ap {B = ℕ} (λ (o : Option ℕ). if is_some o then 1 else 0) e in let n = ap length f in omega (arith, at, room, h, n))
      by None e (b ∷ free) f = ap (λ (o : Option ℕ). is_some (make_slot o p.blocks.free)) e ∙ (ap (λ (xs : List ℕ). is_some (last_of xs)) f ∙ has_last b free)

  pub room_block : (p : PartState) → HasRoom 1 p q → is_due q ≡ true → (b : ℕ) × (next_block p q ≡ Some b)
  room_block p room due = by (next_block p q) refl
    where
      by : (o : Option ℕ) → next_block p q ≡ o → (b : ℕ) × (next_block p q ≡ Some b)
      by None e = absurd (let some : false ≡ true = sym (ap (λ (o : Option ℕ). is_some o) e) ∙ room_next p room due in cc)
      by (Some b) e = (b, e)

-- the links for more words cost no less
costs_rise : (trail links n k : ℕ) → link_cost * (blocks_for (trail + n) - links) ≤ link_cost * (blocks_for (trail + (n + k)) - links)
costs_rise trail links n k = omega arith

pub cost_rises : (q : RunState) (n k : ℕ) → links_cost n q ≤ links_cost (n + k) q
cost_rises q n k = costs_rise (length q.trail) (length q.links) n k

-- a step by which a run links a block changes nothing else of its runner
pub same_line : {T : Type 0} (m : Meaning) (q : RunState) (found : ℕ) (a b : RunnerState T) → LinkStepped m q found a b → IsSameLine a b
same_line m q found a b step =
    let made = moved_same m q found a b (inr step) in
    record {
      layout = ap (λ y. y.layout) made;
      requests = ap (λ y. y.requests) made;
      number = ap (λ y. y.number) made;
      nodes = step.behind.nodes;
      reads = step.behind.reads;
      published = step.behind.published;
      finished = step.behind.finished;
      descriptors = step.behind.descriptors;
      guards = step.behind.guards;
      stage = step.behind.stage;
      present = step.behind.present;
    }

-- nothing changed yet
pub line_same : {T : Type 0} (r : RunnerState T) → IsSameLine r r
line_same r = record {
  layout = refl;
  requests = refl;
  number = refl;
  nodes = refl;
  reads = refl;
  published = refl;
  finished = refl;
  descriptors = refl;
  guards = refl;
  stage = refl;
  present = refl;
}

pub line_more : {T : Type 0} (a b c : RunnerState T) → IsSameLine a b → IsSameLine b c → IsSameLine a c
line_more a b c one two = record {
  layout = two.layout ∙ one.layout;
  requests = two.requests ∙ one.requests;
  number = two.number ∙ one.number;
  nodes = two.nodes ∙ one.nodes;
  reads = two.reads ∙ one.reads;
  published = two.published ∙ one.published;
  finished = two.finished ∙ one.finished;
  descriptors = two.descriptors ∙ one.descriptors;
  guards = two.guards ∙ one.guards;
  stage = two.stage ∙ one.stage;
  present = two.present ∙ one.present;
}

-- a run that has linked a block stands where it stood
pub linked_ahead : {T : Type 0} (m : Meaning) (a b : RunnerState T) (q q' : RunState) → HasLinked m a b q q' → (micro : Micro) → next_of m q ≡ micro → next_of m q' ≡ micro
linked_ahead m a b q q' links micro ahead = ap (next_of m) links.line ∙ ahead
