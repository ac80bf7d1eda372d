-- What a scan leaves: the slots in the hand, and then none.
use Rattle.std.proofs.Common.{◌≡◌, ℕ, ◌+◌, ◌≤◌, List, [], ◌∷◌, ◌++◌, length, length-append, take, drop, Bool, true, false, refl, sym, ap, subst, ◌∙◌, cond, arith}
use Rattle.std.specs.Prelude.{◌==◌, ◌&&◌, ◌||◌, nat_lt}
use Rattle.std.specs.List.{filter}
use Rattle.machine_states.specs.table_words.specs.Limits.{IsWithinLimits}
use Rattle.machine_states.specs.structure_laws.specs.Meaning.{Meaning}
use Rattle.machine_states.specs.structure_laws.specs.Laws.{Laws}
use Rattle.machine_states.specs.runner_parts.specs.declared.event.EventKind.TheVariants.{ScanOne}
use Rattle.machine_states.specs.runner_parts.specs.State.{PartState, NodesState, GuardsState}
use Rattle.machine_states.specs.runner_parts.specs.Tests.{has}
use Rattle.machine_states.specs.runner_parts.specs.Lists.{is_old, slots_of, nodes_collected}
use Rattle.machine_states.specs.epoch_core.specs.State.{last_epoch}
use Rattle.machine_states.specs.epoch_core.specs.Moves.{is_clear}
use Rattle.machine_states.specs.epoch_core.specs.Lists.{times}
use Rattle.machine_states.specs.Sight.{part_or_first, sight}
use Rattle.version_words.specs.machine_invariant.specs.After.{AreAllowed}
use Rattle.version_words.specs.machine_invariant.specs.Slots.{times_among}
use Rattle.version_words.specs.machine_invariant.proofs.After.{whole_after}
use Rattle.version_words.specs.RunnerState.{RunnerState}
use Rattle.version_words.specs.Events.{Makes}
use Rattle.epoch_slots.specs.Collects.{unworn, worn_out, come_back, IsTidy, IsShown, Advances, AreTested, HasScanned, EndsScan, Collects}
use Rattle.epoch_slots.specs.Hands.{given_back, HandIsOwn, IsBack}
use Rattle.epoch_slots.proofs.Scanning.{scans_more, clear_more}

stands_once : (t x : ℕ) (xs : List ℕ) (b : Bool) → x == t ≡ b → has (x ∷ xs) t ≡ true → (has xs t ≡ true → 1 ≤ times t xs) → 1 ≤ times t (x ∷ xs)
stands_once t x xs true e is rest = let a : times t (x ∷ xs) ≡ 1 + times t xs = ap (λ b. cond b (1 + times t xs) (times t xs)) e in omega (arith, a)
stands_once t x xs false e is rest = let a : times t (x ∷ xs) ≡ times t xs = ap (λ b. cond b (1 + times t xs) (times t xs)) e in
    let low = rest (sym (ap (λ b. b || has xs t) e) ∙ is) in omega (arith, a, low)

member_stands : (t : ℕ) (xs : List ℕ) → has xs t ≡ true → 1 ≤ times t xs
member_stands t [] is = absurd (no is)
  where
    no : false ≡ true → ⊥
    no e = cc
member_stands t (x ∷ xs) is = stands_once t x xs (x == t) refl is (member_stands t xs)

-- the slots in a runner's hand are node slots, each once, in every state that the machine reaches
pub hand_is_own : {T : Type 0} (m : Meaning) → Laws m → (r : RunnerState T) → IsWithinLimits r.layout → AreAllowed r.requests → IsShown m r → HandIsOwn m r
hand_is_own m laws r limits allowed is =
    let world = is.world in
    let sound = whole_after m laws r.layout r.requests is.reached.events world limits allowed is.reached.after in
    let nodes = sound.sound.slots.in_nodes in
    let part : (sight m r.layout r.requests world).part r.number ≡ r.part = ap part_or_first is.own in
    record {
      once = λ t. let a = subst (λ (p : PartState). times_among p.nodes t ≤ 1) part (nodes.once r.number t) in omega (arith, a);
      within = λ t has_it. nodes.within r.number t (subst (λ (p : PartState). 1 ≤ times_among p.nodes t) (sym part) (let a = member_stands t r.part.nodes.hand has_it in omega (arith, a)));
    }

all_taken : (xs : List ℕ) → take (length xs) xs ≡ xs
all_taken [] = refl
all_taken (x ∷ xs) = ap (λ ys. x ∷ ys) (all_taken xs)

none_left : (xs : List ℕ) → drop (length xs) xs ≡ []
none_left [] = refl
none_left (x ∷ xs) = none_left xs

module _ {T : Type 0} (m : Meaning) (runners epoch : ℕ) (clear : Bool) (old a b c : RunnerState T) (wide : old.layout.runners ≡ runners) (tidy : IsTidy old) (scanned : HasScanned m runners epoch clear old a) (ends : EndsScan m runners epoch clear a b) where
  abbrev out : List ℕ
  out = slots_of (filter (is_old ends.reached) old.part.nodes.limbo)

  nodes_out : b.part.nodes ≡ nodes_collected ends.reached old.part.nodes
  nodes_out = ends.nodes ∙ ap (nodes_collected ends.reached) scanned.keeps.nodes

  hand_out : b.part.nodes.hand ≡ out
  hand_out = ap (λ (n : NodesState). n.hand) nodes_out ∙ ap (λ xs. xs ++ out) tidy.hand

  pub untested : b.part.nodes.tests ≡ []
  untested = ap (λ (n : NodesState). n.tests) nodes_out ∙ tidy.tests

  pub has_collected : IsBack m (length b.part.nodes.hand) b c → Collects m old c
  has_collected back =
      let all = all_taken b.part.nodes.hand in
      let nodes : c.part.nodes ≡ come_back ends.reached old.part.nodes back.wears = back.nodes
      ∙ ((λ i. given_back (nodes_out i) (all i) (none_left b.part.nodes.hand i) back.wears)
      ∙ (λ i. record (come_back ends.reached old.part.nodes back.wears) {
        free = old.part.nodes.free ++ unworn (hand_out i) back.wears;
        worn = old.part.nodes.worn ++ worn_out (hand_out i) back.wears;
        tests = tidy.tests i;
      })) in
      let guards : c.part.guards ≡ old.part.guards = back.rest.guards ∙ (ends.guards ∙ scanned.guards) in
      record {
        epoch = epoch;
        found = scanned.found ++ ends.found ∷ [];
        reached = ends.reached;
        wears = back.wears;
        begun = scanned.begun;
        scanned = ends.scanned;
        over = b;
        load = scanned.load;
        scans = scans_more m scanned.found 0 ends.found scanned.begun a ends.scanned scanned.scans
            (subst (λ n. Makes m (ScanOne n) ends.found a ends.scanned)
            (let e = scanned.each in let f : runners ≡ 0 + length scanned.found = omega (arith, e) in f) ends.scan);
        each = length-append scanned.found (ends.found ∷ []) ∙ (let e = scanned.each in omega (arith, e, wide));
        advances = subst (λ still. Advances m epoch (still && nat_lt epoch last_epoch) ends.reached ends.scanned b)
            (ap (λ still. still && is_clear epoch ends.found) scanned.told ∙ sym (clear_more epoch scanned.found ends.found)) ends.advances;
        tested = subst (λ xs. AreTested m xs back.wears b c) (all ∙ hand_out) back.tested;
        nodes = nodes;
        descriptors = back.rest.descriptors ∙ (ends.descriptors ∙ scanned.keeps.descriptors);
        guards = guards;
        tidy = record {
          at = back.at;
          hand = ap (λ (n : NodesState). n.hand) nodes;
          tests = ap (λ (n : NodesState). n.tests) nodes;
          looked = ap (λ (g : GuardsState). g.looked) guards ∙ tidy.looked;
          unguarded = ap (λ (g : GuardsState). g.named) guards ∙ tidy.unguarded;
        };
        number = back.rest.number ∙ (ends.number ∙ scanned.keeps.number);
        known = back.rest.known ∙ (ends.known ∙ scanned.keeps.known);
        finished = back.rest.finished ∙ (ends.finished ∙ scanned.keeps.finished);
      }
