-- Where a run stands behind a step of its line.
use Rattle.std.proofs.Common.{◌≡◌, Bool, true, false, refl, ap, ◌∙◌, cond}
use Rattle.std.specs.Prelude.{not, ◌&&◌, slice_index_or}
use Rattle.machine_states.specs.body_terms.specs.declared.micro.Micro.{Micro}
use Rattle.machine_states.specs.body_terms.specs.declared.micro.Micro.TheVariants.{End}
use Rattle.machine_states.specs.body_terms.specs.Line.{micro_at, is_check, is_end, is_event, ending}
use Rattle.section_lines.proofs.Resting.{rests_at}
use Rattle.machine_states.specs.table_words.specs.declared.layout.Layout.{Layout}
use Rattle.machine_states.specs.structure_laws.specs.Meaning.{Meaning}
use Rattle.machine_states.specs.runner_parts.specs.State.{RunState}
use Rattle.machine_states.specs.runner_steps.specs.Sections.{thunk_of, line_of, next_of, setting_of, settles}

no_check : (a b : Bool) → (not a && not b) ≡ true → a ≡ false
no_check false b e = refl
no_check true b e = absurd (let z = e in cc)

-- where an event stands at its place, it is next
pub next_here : (m : Meaning) (q : RunState) (micro : Micro) → micro_at (line_of m q) q.at ≡ micro → is_event micro ≡ true → next_of m q ≡ micro
next_here m q micro here event =
    ap (λ b. cond b (micro_at (line_of m q) q.at) (slice_index_or (let t = thunk_of q.opened in ending (line_of m q) q.at t.lock t.word) q.ended End)) (ap is_event here ∙ event) ∙ here

-- where an event stands there, the run rests before it
pub settled_at : (m : Meaning) (l : Layout) (q : RunState) (micro : Micro) → micro_at (line_of m q) q.at ≡ micro → is_event micro ≡ true → settles m l q ≡ q
settled_at m l q micro here event =
    ap (λ n. record q { at = n }) ((rests_at (setting_of l q.descriptor) q.trail (line_of m q)).stays q.at
    (ap is_check here ∙ no_check (is_check micro) (is_end micro) event))

-- and makes it next
pub settled_next : (m : Meaning) (l : Layout) (q : RunState) (micro : Micro) → micro_at (line_of m q) q.at ≡ micro → is_event micro ≡ true → next_of m (settles m l q) ≡ micro
settled_next m l q micro here event = ap (next_of m) (settled_at m l q micro here event) ∙ next_here m q micro here event
