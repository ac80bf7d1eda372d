-- Each guard word is what its runner has stored, and who isn't entered guards nothing: of the machine alone, with no limits.
use Rattle.std.specs.Prelude.{◌⊎◌, ◌||◌, cond, slice_index, Bool, true, false}
use Rattle.std.proofs.Common.{◌≡◌, ℕ, List, le_of_eq, refl, sym, ap, ◌∙◌, subst, inl, inr, ⊎_elim, Option, Some, None}
use Rattle.machine_states.specs.map_history.specs.declared.op.Request.{Request}
use Rattle.machine_states.specs.table_words.specs.declared.layout.Layout.{Layout}
use Rattle.machine_states.specs.table_words.specs.declared.spot.Spot.{Spot}
use Rattle.machine_states.specs.table_words.specs.declared.spot.Spot.TheVariants.{Guard}
use Rattle.machine_states.specs.table_words.specs.declared.access.Access.{Access}
use Rattle.machine_states.specs.table_words.specs.declared.access.Access.TheVariants.{Stores}
use Rattle.machine_states.specs.table_words.specs.Access.{written}
use Rattle.machine_states.specs.table_words.specs.Places.{fits, address}
use Rattle.machine_states.specs.table_words.specs.Seen.{upd, put}
use Rattle.machine_states.specs.table_words.proofs.Seen as words
use Rattle.machine_states.specs.structure_laws.specs.Meaning.{Meaning}
use Rattle.machine_states.specs.epoch_core.specs.State.{is_entered}
use Rattle.machine_states.specs.guard_core.specs.State.{word_of}
use Rattle.machine_states.specs.runner_parts.specs.declared.event.Event.{Event}
use Rattle.machine_states.specs.runner_parts.specs.declared.event.EventKind.{EventKind}
use Rattle.machine_states.specs.runner_parts.specs.declared.event.EventKind.TheVariants as kinds
use Rattle.machine_states.specs.runner_parts.specs.Lists.{published_seen}
use Rattle.machine_states.specs.runner_parts.specs.State.{RunState, GuardsState, PartState}
use Rattle.machine_states.specs.runner_steps.specs.After.{after, stepped, outside_after, line_after, inside_after, after_by}
use Rattle.machine_states.specs.runner_steps.specs.Asks.{outside_ask, ask_by, sizes_for}
use Rattle.machine_states.specs.runner_steps.specs.Sections.{is_open_run, next_of}
use Rattle.machine_states.specs.World.{World, happens}
use Rattle.machine_states.specs.First.{IsFirst}
use Rattle.machine_states.specs.Reached.{Reached}
use Rattle.machine_states.specs.Sight.{Sight, sight, parts_after, sight_after}
use Rattle.machine_states.proofs.FirstSights.{first_parts}
use Rattle.machine_states.proofs.Reached.{first_reached, more_reached, reached_has, reached_all}
use Rattle.machine_states.proofs.Sights.{happens_steps, unless_gone, cond_none}
use Rattle.machine_states.proofs.Updates.{upd_here, upd_else, upd_split}
use Rattle.resource_bounds.specs.machine_epochs.proofs.OutsideAsked as asked
use Rattle.resource_bounds.specs.machine_epochs.proofs.FirstJoin as FirstJoin
use Rattle.runner_facts.specs.machine_facts.specs.machine_invariant.specs.machine_blocks.specs.machine_guards.proofs.Views as views
use Rattle.runner_facts.specs.machine_facts.specs.machine_invariant.specs.machine_blocks.specs.machine_guards.proofs.Views.{View, view, is_release, is_linking}
use Rattle.runner_facts.specs.machine_facts.specs.machine_invariant.specs.machine_blocks.specs.machine_guards.proofs.Words.{guards_left, inside_left, load_left}

-- this guard word is what the runner with this part has stored
pub record GuardFits (word : ℕ) (p : PartState) : Type 0 where
  pub stored : word ≡ word_of p.guards.named
  pub away : is_entered p.stage ≡ false → p.guards.named ≡ None

abbrev pub GuardsFit : Sight → Type 0
GuardsFit s = (r : ℕ) → GuardFits (s.word (Guard r)) (s.part r)

-- who isn't entered guards nothing behind a step that leaves what the runner guards
record Stays (p p' : PartState) : Type 0 where
  named : p'.guards.named ≡ p.guards.named
  away : is_entered p'.stage ≡ false → (is_entered p.stage ≡ false) ⊎ (p.guards.named ≡ None)

same_view : (p p' : PartState) → view p' ≡ view p → Stays p p'
same_view p p' e = record {
  named = ap (λ (v : View). v.named) e;
  away = λ out. inl (ap (λ (v : View). v.entered) (sym e) ∙ out);
}

staying : {w w' : ℕ} {p p' : PartState} → w' ≡ w → Stays p p' → GuardFits w p → GuardFits w' p'
staying same stays old = record {
  stored = same ∙ (old.stored ∙ ap word_of (sym stays.named));
  away = λ out. stays.named ∙ ⊎_elim old.away (λ none. none) (stays.away out);
}

seen_named : (b : Bool) (g : GuardsState) (d : ℕ) → (cond b (published_seen g d) g).named ≡ g.named
seen_named true g d = refl
seen_named false g d = refl

abbrev pub is_store : EventKind → Bool
is_store (kinds.Guard d) = true
is_store _ = false

module _ (m : Meaning) (l : Layout) (rs : List Request) (r : ℕ) (p : PartState) (found : ℕ) (x : Spot × Access) where
  either : (b : Bool) (y z : PartState) → Stays p y → Stays p z → Stays p (cond b y z)
  either true y z one two = one
  either false y z one two = two

  outside : (kind : EventKind) → is_store kind ≡ false → outside_ask m l rs r kind p ≡ Some x → Stays p (outside_after m l kind p found)
  outside kinds.EnterAgain k e = record { named = refl; away = λ out. absurd (let z = out in cc) }
  outside kinds.Idle k e = record { named = refl; away = λ out. inr (asked.idle_away r p x e).1 }
  outside (kinds.LoadCell (Some place)) k e = record { named = seen_named _ p.guards _; away = λ out. inl out }
  outside (kinds.Hold thunk d) k e = either _ _ _ (record { named = refl; away = λ out. inl out }) (record { named = refl; away = λ out. inl out })
  outside (kinds.LoadThunk (Some d)) k e = record { named = refl; away = λ out. inl out }
  outside (kinds.Guard d) k e = absurd (let z = k in cc)
  outside (kinds.LoadGuard n) k e = record { named = refl; away = λ out. inl out }
  outside kind k e = same_view _ _ (views.view_outside m l rs r p found x kind refl e)

  inside : (q : RunState) → p.run ≡ Some q → (kind : EventKind) → Stays p (inside_after m l kind p q found)
  inside q at kind = by (is_release kind) refl (is_linking kind) refl
    where
      over : (k : EventKind) → (is_release k || is_linking k) ≡ true → Stays p (line_after m l k p q (next_of m q) found)
      over (kinds.PrivateStore slot word number) k = record { named = refl; away = λ out. inl out }
      over (kinds.LinkCommit b) k = record { named = refl; away = λ out. inl out }
      over kinds.Release k = either _ _ _ (record { named = refl; away = λ out. inl out }) (record { named = refl; away = λ out. inl out })
      over _ k = absurd (let z = k in cc)

      other : (is_release kind || is_linking kind) ≡ true → Stays p (inside_after m l kind p q found)
      other k = either (is_open_run q) _ _ (over kind k) (record { named = refl; away = λ out. inl out })

      by : (b : Bool) → is_release kind ≡ b → (b' : Bool) → is_linking kind ≡ b' → Stays p (inside_after m l kind p q found)
      by false k false n = same_view _ _ (views.inside m l p q at found kind (is_open_run q) k n)
      by false k true n = other (ap (λ c. c || is_linking kind) k ∙ n)
      by true k b' n = other (ap (λ c. c || is_linking kind) k)

  stepped_stays : (kind : EventKind) (o : Option RunState) → p.run ≡ o → is_store kind ≡ false → ask_by m l rs r kind p o ≡ Some x → Stays p (after_by m l kind p o found)
  stepped_stays kind None at k e = outside kind k e
  stepped_stays kind (Some q) at k e = inside q at kind

-- one step
module _ (m : Meaning) (l : Layout) (rs : List Request) (s : Sight) (r : ℕ) (x : Spot × Access) (old : GuardsFit s) where
  abbrev p : PartState
  p = s.part r

  abbrev found : ℕ
  found = s.word x.0

  abbrev next : Spot × Access → Spot → ℕ
  next y = put s.word y.0 (written y.1 (s.word y.0))

  -- no other step changes a guard word
  left : (kind : EventKind) (o : Option RunState) → is_store kind ≡ false → ask_by m l rs r kind p o ≡ Some x → (i : ℕ) → next x (Guard i) ≡ s.word (Guard i)
  left (kinds.Guard d) o k e i = absurd (let z = k in cc)
  left (kinds.LoadGuard n) None k e i = subst (λ (y : Spot × Access). next y (Guard i) ≡ s.word (Guard i)) (asked.load_guard_asked l n p x e).is (load_left s.word (Guard n) i)
  left (kinds.LoadGuard n) (Some q) k e i = inside_left m l q (kinds.LoadGuard n) p.nodes.free p.blocks.free x e s.word (written x.1 found) i
  left kind o k e i = guards_left m l rs r kind p o x refl e s.word (written x.1 found) i

  abbrev Fits : (Spot → ℕ) → (ℕ → PartState) → Type 0
  Fits f part = (i : ℕ) → GuardFits (f (Guard i)) (part i)

  -- a step that leaves what the runner guards
  keeping : (kind : EventKind) → is_store kind ≡ false → ask_by m l rs r kind p p.run ≡ Some x → Fits (next x) (upd s.part r (after m l r kind x.0 x.1 p found))
  keeping kind k e = upd_split s.part r _ (λ i y. GuardFits (next x (Guard i)) y)
      (let stays = stepped_stays m l rs r p found x kind p.run refl k e in
      staying (left kind p.run k e r) (record { named = stays.named; away = stays.away }) (old r))
      (λ i ne. record { stored = left kind p.run k e i ∙ (old i).stored; away = (old i).away })

  -- the store of the own guard word
  storing : (d : Option ℕ) (o : Option RunState) → p.run ≡ o → ask_by m l rs r (kinds.Guard d) p o ≡ Some x → Fits (next x) (upd s.part r (after m l r (kinds.Guard d) x.0 x.1 p found))
  storing d None at e =
      let h = asked.guard_asked l r d p x e in
      let after_is : stepped m l (kinds.Guard d) p found ≡ outside_after m l (kinds.Guard d) p found = ap (λ o. after_by m l (kinds.Guard d) p o found) at in
      subst (λ (y : Spot × Access). Fits (next y) (upd s.part r (after m l r (kinds.Guard d) x.0 x.1 p found))) h.is
      (upd_split s.part r _ (λ i y. GuardFits (next (Guard r, Stores (word_of d)) (Guard i)) y)
      (record {
        stored = upd_here (λ i. s.word (Guard i)) r (word_of d) ∙ sym (ap (λ (y : PartState). word_of y.guards.named) after_is);
        away = λ out. absurd (let z = sym (ap is_entered h.entered) in let z' = ap (λ (y : PartState). is_entered y.stage) (sym after_is) ∙ out in cc);
      })
      (λ i ne. record { stored = upd_else (λ j. s.word (Guard j)) r (word_of d) i ne ∙ (old i).stored; away = (old i).away }))
  storing d (Some q) at e = cond_none _ x e

  -- a join: the keeper takes over what the worker knew, and the worker makes no further step
  joining : (worker : ℕ) → ask_by m l rs r (kinds.Join worker) p p.run ≡ Some x
      → Fits (next x) (parts_after (kinds.Join worker) s.part r (after m l r (kinds.Join worker) x.0 x.1 p found))
  joining worker e =
      let kind = kinds.Join worker in
      let stays = stepped_stays m l rs r p found x kind p.run refl refl e in
      let same = left kind p.run refl e in
      upd_split _ worker _ (λ i y. GuardFits (next x (Guard i)) y)
      (record { stored = same worker ∙ (old worker).stored; away = (old worker).away })
      (λ i ne. upd_split s.part r _ (λ j y. GuardFits (next x (Guard j)) y)
      (staying (same r) (record { named = stays.named; away = stays.away }) (old r))
      (λ j ne'. record { stored = same j ∙ (old j).stored; away = (old j).away }) i)

  kept : (kind : EventKind) → ask_by m l rs r kind p p.run ≡ Some x → GuardsFit (sight_after m l s r kind x)
  kept (kinds.Join worker) e = joining worker e
  kept (kinds.Guard d) e = storing d p.run refl e
  kept kind e = keeping kind refl e

module _ (m : Meaning) (l : Layout) (rs : List Request) where
  -- a reached state in which they fit
  record Has (w : World) : Type 0 where
    reached : Reached m l rs w
    has : GuardsFit (sight m l rs w)

  first_word : (w : World) → IsFirst m l rs w → (r : ℕ) → (sight m l rs w).word (Guard r) ≡ 0
  first_word w first r = by_fit (fits (sizes_for m l rs) (Guard r)) refl
    where
      by_fit : (b : Bool) → fits (sizes_for m l rs) (Guard r) ≡ b → (sight m l rs w).word (Guard r) ≡ 0
      by_fit true is = first.words.seen (Guard r) (words.fits_means (sizes_for m l rs) (Guard r) is)
      by_fit false is = ap (λ b. cond b (slice_index w.words (address (sizes_for m l rs) (Guard r))) 0) is

  first_fit : (w : World) → IsFirst m l rs w → GuardsFit (sight m l rs w)
  first_fit w first r =
      let none : ((sight m l rs w).part r).guards.named ≡ None = ap (λ (p : PartState). p.guards.named) (first_parts m l w.parts first.parts r)
      ∙ FirstJoin.each_part m l (λ (p : PartState). p.guards.named ≡ None) refl (λ k. refl) refl r in
      record { stored = first_word w first r ∙ sym (ap word_of none); away = λ out. none }

  step_fit : (w v : World) (e : Event) → Has w → happens m l rs w e ≡ Some v → Has v
  step_fit w v e old goes =
      let all = reached_all m l rs w old.reached in
      let step = (happens_steps m l rs w v e (record { words = le_of_eq (sym all.words); parts = all.parts }) goes).0 in
      record {
        reached = more_reached m l rs w v e old.reached goes;
        has = subst GuardsFit (sym step.next)
            (kept m l rs (sight m l rs w) e.runner step.ask old.has e.kind (unless_gone _ _ _ step.ask step.asked).1);
      }

  pub reached_fit : (w : World) → Reached m l rs w → GuardsFit (sight m l rs w)
  reached_fit w reached = (reached_has m l rs Has
      (λ v start. record { reached = first_reached m l rs v start; has = first_fit v start }) step_fit w reached).has
