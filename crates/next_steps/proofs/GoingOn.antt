-- In every reached state the machine can make the next event of a run.
use Rattle.std.specs.Prelude.{◌==◌, ◌&&◌, ◌⊎◌, is_some, slice_get, Bool, true, false, if◌then◌else◌}
use Rattle.std.proofs.Common.{◌≡◌, ℕ, ◌<◌, ◌≤◌, List, length, ⊎_elim, refl, sym, ap, ◌∙◌, subst, arith, Some}
use Rattle.std.proofs.lemmas.Bool.Decides.{nat_tests}
use Rattle.machine_states.specs.map_history.specs.declared.op.Request.{Request}
use Rattle.machine_states.specs.table_words.specs.declared.layout.Layout.{Layout}
use Rattle.machine_states.specs.table_words.specs.declared.spot.Spot.{Spot}
use Rattle.machine_states.specs.table_words.specs.declared.access.Access.{Access}
use Rattle.machine_states.specs.table_words.specs.Limits.{IsWithinLimits}
use Rattle.machine_states.specs.structure_laws.specs.Meaning.{Meaning}
use Rattle.machine_states.specs.structure_laws.specs.Laws.{Laws}
use Rattle.machine_states.specs.runner_parts.specs.declared.event.EventKind.{EventKind}
use Rattle.machine_states.specs.runner_parts.specs.State.{RunState, PartState}
use Rattle.machine_states.specs.runner_steps.specs.Sections.{is_open_run, next_of, needs_link}
use Rattle.machine_states.specs.World.{World, seat_of, acted, acts}
use Rattle.machine_states.specs.Reached.{Reached}
use Rattle.machine_states.specs.Sight.{sight, part_or_first}
use Rattle.machine_invariant.specs.After.{AreAllowed}
use Rattle.next_steps.specs.Steps.{opening_kind, opened_next, kind_at, ask_at, next_block, link_kind, link_ask, next_kind, next_ask, has_slot, has_next}
use Rattle.next_steps.specs.Enabled.{Meets, NextIsEnabled, CanMake, RunsGoOn}
use Rattle.next_steps.proofs.Enabled.{reached_enabled}

module _ (m : Meaning) (l : Layout) (rs : List Request) (w : World) (enabled : NextIsEnabled m l rs (sight m l rs w)) where
  -- an enabled event is one that the machine can make
  makes : (r : ℕ) (p : PartState) (kind : EventKind) (x : Spot × Access) → slice_get w.parts (seat_of l r) ≡ Some p → Meets m l rs r p kind x
      → CanMake m l rs w r p kind x
  makes r p kind x at meets = record {
    meets = meets;
    next = _;
    happens = ap (acts m l rs w r kind) at ∙ ap (acted m l rs w r kind p) meets;
  }

  module _ (r : ℕ) (p : PartState) (q : RunState) (at : slice_get w.parts (seat_of l r) ≡ Some p) (there : p.gone ≡ false) (is : p.run ≡ Some q) where
    seen : (sight m l rs w).part r ≡ p
    seen = ap part_or_first at

    there' : ((sight m l rs w).part r).gone ≡ false
    there' = ap (λ (y : PartState). y.gone) seen ∙ there

    is' : ((sight m l rs w).part r).run ≡ Some q
    is' = ap (λ (y : PartState). y.run) seen ∙ is

    closed : (n : ℕ) (b : Bool) → n < 13 → (n == 13 && b) ≡ false
    closed n b low = grind (arith, nat_tests)

    order : (n : ℕ) → n ≤ 13 → (n < 13) ⊎ (n ≡ 13)
    order n le = search arith

    abbrev line_kind : Bool → EventKind
    line_kind b = if b then link_kind m l p q else kind_at p q (next_of m q)

    abbrev line_ask : Bool → Spot × Access
    line_ask b = if b then link_ask p q else ask_at m p q (next_of m q)

    by_open : (b : Bool) → is_open_run q ≡ b
        → CanMake m l rs w r p (if b then line_kind (needs_link q (next_of m q)) else opening_kind q) (if b then line_ask (needs_link q (next_of m q)) else opened_next q)
        → CanMake m l rs w r p (next_kind m l p q) (next_ask m p q)
    by_open b e goes = subst (λ (c : Bool). CanMake m l rs w r p (if c then line_kind (needs_link q (next_of m q)) else opening_kind q)
        (if c then line_ask (needs_link q (next_of m q)) else opened_next q)) (sym e) goes

    -- the step of the line, or one by which a block is linked before it
    line_goes : length q.opened ≡ 13 → (b : Bool) → needs_link q (next_of m q) ≡ b → (if b then is_some (next_block p q) else has_slot p q (next_of m q)) ≡ true
        → CanMake m l rs w r p (line_kind b) (line_ask b)
    line_goes all true needs has = makes r p (link_kind m l p q) (link_ask p q) at
        (subst (λ (y : PartState). Meets m l rs r y (link_kind m l y q) (link_ask y q)) seen
        (enabled.linking r q there' is' all needs (ap (λ (y : PartState). is_some (next_block y q)) seen ∙ has)))
    line_goes all false near has = makes r p (kind_at p q (next_of m q)) (ask_at m p q (next_of m q)) at
        (subst (λ (y : PartState). Meets m l rs r y (kind_at y q (next_of m q)) (ask_at m y q (next_of m q))) seen
        (enabled.inside r q there' is' all near (ap (λ (y : PartState). has_slot y q (next_of m q)) seen ∙ has)))

    go_on : has_next p q (next_of m q) ≡ true → CanMake m l rs w r p (next_kind m l p q) (next_ask m p q)
    go_on has = ⊎_elim
        (λ low. by_open false (closed (length q.opened) _ low)
        (makes r p (opening_kind q) (opened_next q) at
        (subst (λ (y : PartState). Meets m l rs r y (opening_kind q) (opened_next q)) seen (enabled.opening r q there' is' low))))
        (λ all. by_open true ((enabled.runs r q is').goes all)
        (line_goes all (needs_link q (next_of m q)) refl has))
        (order (length q.opened) (enabled.runs r q is').most)

pub reached_goes_on : (m : Meaning) → Laws m → (l : Layout) → IsWithinLimits l → (rs : List Request) → AreAllowed rs → (w : World)
    → Reached m l rs w → RunsGoOn m l rs w
reached_goes_on m laws l limits rs allowed w reached r p q at there is has =
    go_on m l rs w (reached_enabled m laws l limits rs allowed w reached) r p q at there is has
