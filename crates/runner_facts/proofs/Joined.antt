-- A worker that was joined makes no further step.
use Rattle.std.specs.Prelude.{◌==◌, ◌||◌, true, false}
use Rattle.std.proofs.Common.{◌≡◌, ◌≢◌, ℕ, ◌<◌, List, [], ◌∷◌, ◌++◌, ⊎_elim, sym, refl, ap, ◌∙◌, subst, arith, Option, Some, None}
use Rattle.std.proofs.lemmas.Bool.Decides.{nat_tests}
use Rattle.std.proofs.lemmas.Bool.{cases_eq}
use Rattle.machine_states.specs.map_history.specs.declared.op.Request.{Request}
use Rattle.machine_states.specs.table_words.specs.declared.layout.Layout.{Layout}
use Rattle.machine_states.specs.table_words.specs.Limits.{IsWithinLimits}
use Rattle.machine_states.specs.table_words.specs.Seen.{upd}
use Rattle.machine_states.specs.structure_laws.specs.Meaning.{Meaning}
use Rattle.machine_states.specs.structure_laws.specs.Laws.{Laws}
use Rattle.machine_states.specs.runner_parts.specs.declared.event.EventKind.{EventKind}
use Rattle.machine_states.specs.runner_parts.specs.declared.event.EventKind.TheVariants as kinds
use Rattle.machine_states.specs.runner_parts.specs.declared.entries.Left.{Left}
use Rattle.machine_states.specs.runner_parts.specs.State.{RunState, PartState}
use Rattle.machine_states.specs.runner_parts.specs.Tests.{has}
use Rattle.machine_states.specs.runner_steps.specs.Asks.{ask_by}
use Rattle.machine_states.specs.runner_steps.specs.After.{after_by, after}
use Rattle.machine_states.specs.runner_steps.specs.After.{knows_also, leaves}
use Rattle.machine_states.specs.World.{World, is_join}
use Rattle.machine_states.specs.First.{IsFirst}
use Rattle.machine_states.specs.Reached.{Reached}
use Rattle.machine_states.specs.Sight.{Sight, sight}
use Rattle.machine_states.proofs.FirstSights.{first_parts}
use Rattle.machine_states.proofs.Sights.{unless_gone, joins}
use Rattle.machine_states.proofs.Updates.{upd_here, upd_else}
use Rattle.machine_facts.specs.machine_agreement.specs.machine_epochs.proofs.FirstJoin as FirstJoin
use Rattle.machine_facts.specs.machine_invariant.specs.After.{AreAllowed}
use Rattle.machine_facts.specs.machine_invariant.proofs.Sights.{after_is}
use Rattle.machine_facts.specs.machine_invariant.proofs.Keeping.{IsStep, reached_keeps}
use Rattle.next_steps.proofs.Tests.{either_has}
use Rattle.next_steps.proofs.Runs.{out_of_run}
use Rattle.runner_facts.specs.Facts.{JoinedAreGone}
use Rattle.runner_facts.proofs.Keeping.{Keeps, inside_keeps, outside_keeps}
use Rattle.runner_facts.proofs.Counts.{may_hold}
use Rattle.machine_facts.specs.machine_invariant.proofs.Basics.{not_both}

-- what two parts have that are alike for this
pub record Alike (p p' : PartState) : Type 0 where
  pub joined : p'.records.joined ≡ p.records.joined
  pub gone : p'.gone ≡ p.gone

module _ (m : Meaning) (l : Layout) (rs : List Request) (s s' : Sight) (r : ℕ) where
  abbrev pub p : PartState
  p = s.part r

  module _ (kind : EventKind) (st : IsStep m l rs s s' r kind) (other : is_join kind ≡ false) where
    abbrev pub found : ℕ
    found = s.word st.step.ask.0

    abbrev p' : PartState
    p' = after m l r kind st.step.ask.0 st.step.ask.1 p found

    own_keeps : (o : Option RunState) → ask_by m l rs r kind p o ≡ Some st.step.ask → Keeps p (after_by m l kind p o found)
    own_keeps None e = outside_keeps m l p found kind other (may_hold m l rs s s' r kind st kind e)
    own_keeps (Some q) e = inside_keeps m l p q found kind

    pub keeps : Keeps p (after_by m l kind p p.run found)
    keeps = own_keeps p.run (unless_gone _ p.gone _ st.step.ask st.step.asked).1

    own_alike : Alike p p'
    own_alike = record {
      joined = ap (λ (z : List ℕ × List Left). z.0) keeps.records;
      gone = keeps.gone;
    }

    pub alike : (i : ℕ) → Alike (s.part i) (s'.part i)
    alike i = subst (λ (y : Sight). Alike (s.part i) (y.part i)) (sym (st.step.next ∙ after_is m l s r kind st.step.ask other))
        (⊎_elim
        (λ same. subst (λ k. Alike (s.part k) (upd s.part r p' k)) (sym same)
        (subst (λ (y : PartState). Alike p y) (sym (upd_here s.part r p')) own_alike))
        (λ ne. subst (λ (y : PartState). Alike (s.part i) y) (sym (upd_else s.part r p' i ne)) (record { joined = refl; gone = refl }))
        (cases_eq i r))

    other_gone : JoinedAreGone l s → JoinedAreGone l s'
    other_gone old worker has_it = (alike worker).gone ∙ old worker (ap (λ xs. has xs worker) (sym (alike l.runners).joined) ∙ has_it)

  -- a join
  module _ (worker : ℕ) (st : IsStep m l rs s s' r (kinds.Join worker)) where
    abbrev join : EventKind
    join = kinds.Join worker

    abbrev keeper : PartState
    keeper = knows_also (after m l r join st.step.ask.0 st.step.ask.1 p (s.word st.step.ask.0)) (s.part worker)

    abbrev parts : ℕ → PartState
    parts = upd (upd s.part r keeper) worker (leaves (s.part worker))

    is_keeper : (r ≡ l.runners) × (worker < l.runners)
    is_keeper = joins m l rs join r p st.step.ask st.step.asked

    apart : r ≢ worker
    apart same = let a = is_keeper.0 in let b = is_keeper.1 in omega (arith, a, b, same)

    outside : p.run ≡ None
    outside = (out_of_run m l rs r join p st.step.ask (λ q. refl) (λ q. refl) st.step.asked).none

    -- the keeper has joined this worker besides
    keeper_joined : keeper.records.joined ≡ p.records.joined ++ worker ∷ []
    keeper_joined = ap (λ (o : Option RunState). (after_by m l join p o (s.word st.step.ask.0)).records.joined) outside

    keeper_gone : keeper.gone ≡ p.gone
    keeper_gone = ap (λ (o : Option RunState). (after_by m l join p o (s.word st.step.ask.0)).gone) outside

    part_keeper : parts r ≡ keeper
    part_keeper = upd_else (upd s.part r keeper) worker (leaves (s.part worker)) r apart ∙ upd_here s.part r keeper

    one_has : (a b : ℕ) → ((a == b) || false) ≡ true → b ≡ a
    one_has a b e = grind (arith, nat_tests)

    gone_then : JoinedAreGone l s → (i : ℕ) → has (parts l.runners).records.joined i ≡ true → (parts i).gone ≡ true
    gone_then old i has_it = ⊎_elim
        (λ same. ap (λ (y : PartState). y.gone) (ap parts same ∙ upd_here (upd s.part r keeper) worker (leaves (s.part worker))))
        (λ ne. let listed : has (p.records.joined ++ worker ∷ []) i ≡ true =
        ap (λ xs. has xs i) (sym (ap (λ (y : PartState). y.records.joined) (ap parts (sym is_keeper.0) ∙ part_keeper) ∙ keeper_joined)) ∙ has_it in
        let before : has p.records.joined i ≡ true = ⊎_elim (λ h. h) (λ h. absurd (ne (one_has worker i h))) (either_has p.records.joined (worker ∷ []) i listed) in
        let was : (s.part i).gone ≡ true = old i (ap (λ n. has (s.part n).records.joined i) (sym is_keeper.0) ∙ before) in
        ap (λ (y : PartState). y.gone) (upd_else (upd s.part r keeper) worker (leaves (s.part worker)) i ne) ∙ ⊎_elim
        (λ here. ap (λ (y : PartState). y.gone) (ap (upd s.part r keeper) here ∙ upd_here s.part r keeper)
        ∙ (keeper_gone ∙ (ap (λ n. (s.part n).gone) (sym here) ∙ was)))
        (λ apart_too. ap (λ (y : PartState). y.gone) (upd_else s.part r keeper i apart_too) ∙ was)
        (cases_eq i r))
        (cases_eq i worker)

    join_gone : JoinedAreGone l s → JoinedAreGone l s'
    join_gone old = subst (λ (y : Sight). JoinedAreGone l y) (sym st.step.next) (gone_then old)

  pub gone_kept : (kind : EventKind) → IsStep m l rs s s' r kind → JoinedAreGone l s → JoinedAreGone l s'
  gone_kept (kinds.Join worker) st old = join_gone worker st old
  gone_kept kind st old = other_gone kind st refl old

pub first_gone : (m : Meaning) (l : Layout) (rs : List Request) (v : World) → IsFirst m l rs v → JoinedAreGone l (sight m l rs v)
first_gone m l rs v start worker has_it =
    not_both has_it (subst (λ (p : PartState). has p.records.joined worker ≡ false) (sym (first_parts m l v.parts start.parts l.runners))
    (FirstJoin.each_part m l (λ p. has p.records.joined worker ≡ false) refl (λ k. refl) refl l.runners))

pub reached_joined : (m : Meaning) → Laws m → (l : Layout) → IsWithinLimits l → (rs : List Request) → AreAllowed rs → (w : World)
    → Reached m l rs w → JoinedAreGone l (sight m l rs w)
reached_joined m laws l limits rs allowed w reached =
    reached_keeps m laws l limits rs allowed (JoinedAreGone l) (first_gone m l rs)
    (λ s s' r kind st old. gone_kept m l rs s s' r kind st old) w reached
