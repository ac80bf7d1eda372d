-- What logs see of a run, and which steps leave it as it is.
use Rattle.std.specs.Prelude.{◌&&◌, nat_lt, cond, Bool, true, false, if◌then◌else◌}
use Rattle.std.proofs.Common.{◌≡◌, ℕ, List, refl, sym, ap, ◌∙◌, Option, Some, None}
use Rattle.machine_states.specs.table_words.specs.declared.layout.Layout.{Layout}
use Rattle.machine_states.specs.table_words.specs.declared.spot.Spot.{Spot}
use Rattle.machine_states.specs.table_words.specs.declared.access.Access.{Access}
use Rattle.machine_states.specs.map_history.specs.declared.op.Request.{Request}
use Rattle.machine_states.specs.body_terms.specs.declared.micro.Micro.{Micro}
use Rattle.machine_states.specs.body_terms.specs.Line.{is_end}
use Rattle.machine_states.specs.structure_laws.specs.Meaning.{Meaning}
use Rattle.machine_states.specs.runner_parts.specs.declared.event.EventKind.{EventKind}
use Rattle.machine_states.specs.runner_parts.specs.declared.event.EventKind.TheVariants as kinds
use Rattle.machine_states.specs.runner_parts.specs.State.{RunState, PartState}
use Rattle.machine_states.specs.runner_parts.specs.Tests.{is_some_of}
use Rattle.machine_states.specs.runner_steps.specs.Outside.{is_sure_of}
use Rattle.machine_states.specs.runner_steps.specs.Asks.{outside_ask}
use Rattle.machine_states.specs.runner_steps.specs.Sections.{thunk_of, next_of}
use Rattle.machine_states.specs.runner_steps.specs.AfterInRun.{goes_on, opened_more, fill_loaded, make_committed, ended_more}
use Rattle.machine_states.specs.runner_steps.specs.InRun.{last_clock, stamp_after}
use Rattle.machine_states.specs.runner_parts.specs.Lists.{learned}
use Rattle.machine_states.specs.body_terms.specs.Run.{written_once}
use Rattle.machine_states.specs.runner_steps.specs.After.{outside_after, line_after}
use Rattle.machine_guards.specs.State.{run_of, hand_of}
use Rattle.machine_guards.proofs.Views.{View, is_guarding, is_release, is_linking, view_outside}

-- the section's descriptor, the blocks on which the run agreed, and the block in its hand with how many of its words are 0
pub record Seen : Type 0 where
  pub descriptor : ℕ
  pub links : List ℕ
  pub block : Option ℕ
  pub emptied : ℕ

abbrev pub seen : RunState → Seen
seen q = record { descriptor = q.descriptor; links = q.links; block = q.block; emptied = q.emptied }

abbrev pub seen_in : Option RunState → Option Seen
seen_in None = None
seen_in (Some q) = Some (seen q)

-- a run that is seen so
pub run_seen : (o : Option RunState) (v : Seen) → seen_in o ≡ Some v → (q : RunState) × (o ≡ Some q) × (seen q ≡ v)
run_seen None v e = absurd (let x = e in cc)
run_seen (Some q) v e = (q, refl, same (seen q) v e)
  where
    same : (u v : Seen) → Some u ≡ Some v → u ≡ v
    same u v e = cc

no_run : (o : Option RunState) → run_of o ≡ None → o ≡ None
no_run None e = refl
no_run (Some q) e = absurd (let x = e in cc)

ended : (b : Bool) (p p' : PartState) (u v : Seen) → p.run ≡ None → seen_in p'.run ≡ Some u → seen_in (cond b p p').run ≡ Some v → v ≡ u
ended true p p' u v none some e = absurd (let x = sym (ap seen_in none) ∙ e in cc)
ended false p p' u v none some e = same (sym some ∙ e)
  where
    same : Some u ≡ Some v → v ≡ u
    same e = cc

module _ (m : Meaning) (l : Layout) (p : PartState) (q : RunState) (at : p.run ≡ Some q) (found : ℕ) where
  abbrev here : seen_in p.run ≡ Some (seen q)
  here = ap seen_in at

  filled : (slot : ℕ) (o : Option ℕ) → seen_in (fill_loaded m l slot p q o found).run ≡ Some (seen q)
  filled slot None = refl
  filled slot (Some s) = refl

  made : (o : Option ℕ) → seen_in (make_committed m l p q o found).run ≡ Some (seen q)
  made None = here
  made (Some s) = refl

  stamped : (b : Bool) (n : ℕ) → seen_in (if b then record p { run = Some (goes_on m l q n); records = learned p.records (thunk_of q.opened).request false n } else p).run ≡ Some (seen q)
  stamped true n = refl
  stamped false n = here

  in_line : (kind : EventKind) (micro : Micro) → is_release kind ≡ false → is_linking kind ≡ false → seen_in (line_after m l kind p q micro found).run ≡ Some (seen q)
  in_line kinds.Commit micro k n = refl
  in_line (kinds.LoadCell place) micro k n = refl
  in_line kinds.ExchangeCell micro k n = refl
  in_line (kinds.PrivateLoad slot word) micro k n = filled slot q.made
  in_line (kinds.PrivateStore slot word number) micro k n = absurd (let y = n in cc)
  in_line (kinds.LinkCommit b) micro k n = absurd (let y = n in cc)
  in_line kinds.MakeCommit micro k n = made q.made
  in_line kinds.RetireCommit micro k n = refl
  in_line kinds.EpochForRetire micro k n = refl
  in_line kinds.SetDone micro k n = refl
  in_line kinds.Release micro k n = absurd (let y = k in cc)
  in_line kinds.ClockLoad micro k n = refl
  in_line kinds.StampExchange micro k n = stamped (nat_lt q.word last_clock) (written_once found (stamp_after q.word))
  in_line kinds.ClockRaise micro k n = refl
  in_line kinds.ReplyExchange micro k n = refl
  in_line kinds.NestedLoad micro k n = refl
  in_line kinds.NestedHold micro k n = refl
  in_line kinds.OutcomeLoad micro k n = refl
  in_line kinds.OutcomeCommit micro k n = refl
  in_line _ micro k n = here

  -- a step of a run by which no block is linked
  pub inside_seen : (kind : EventKind) (b : Bool) → is_release kind ≡ false → is_linking kind ≡ false
      → seen_in (cond b (line_after m l kind p q (next_of m q) found) (opened_more p q found)).run ≡ Some (seen q)
  inside_seen kind true k n = in_line kind (next_of m q) k n
  inside_seen kind false k n = refl

  -- the last release ends the run
  pub released_seen : (micro : Micro) (v : Seen) → seen_in (line_after m l kinds.Release p q micro found).run ≡ Some v → v ≡ seen q
  released_seen micro v e = ended (is_end (next_of m (ended_more q))) _ _ (seen q) v refl refl e

-- a step outside a run that is no event of guards begins none
pub quiet_seen : (m : Meaning) (l : Layout) (rs : List Request) (r : ℕ) (p : PartState) (found : ℕ) (x : Spot × Access) (kind : EventKind) → p.run ≡ None
    → is_guarding kind ≡ false → outside_ask m l rs r kind p ≡ Some x → (outside_after m l kind p found).run ≡ None
quiet_seen m l rs r p found x kind none k ask =
    no_run _ (ap (λ (v : View). v.run) (view_outside m l rs r p found x kind k ask) ∙ ap run_of none)

-- no step of a run changes what its runner guards
either_guards : (b : Bool) (p p' p'' : PartState) → p'.guards ≡ p.guards → p''.guards ≡ p.guards → (cond b p' p'').guards ≡ p.guards
either_guards true p p' p'' e e' = e
either_guards false p p' p'' e e' = e'

module _ (m : Meaning) (l : Layout) (p : PartState) (q : RunState) (found : ℕ) where
  filled_guards : (slot : ℕ) (o : Option ℕ) → (fill_loaded m l slot p q o found).guards ≡ p.guards
  filled_guards slot None = refl
  filled_guards slot (Some s) = refl

  made_guards : (o : Option ℕ) → (make_committed m l p q o found).guards ≡ p.guards
  made_guards None = refl
  made_guards (Some s) = refl

  line_guards : (kind : EventKind) (micro : Micro) → (line_after m l kind p q micro found).guards ≡ p.guards
  line_guards (kinds.PrivateLoad slot word) micro = filled_guards slot q.made
  line_guards kinds.MakeCommit micro = made_guards q.made
  line_guards kinds.StampExchange micro = either_guards _ p _ _ refl refl
  line_guards kinds.Release micro = either_guards _ p _ _ refl refl
  line_guards _ micro = refl

  pub inside_guards : (kind : EventKind) (b : Bool) → (cond b (line_after m l kind p q (next_of m q) found) (opened_more p q found)).guards ≡ p.guards
  inside_guards kind true = line_guards kind (next_of m q)
  inside_guards kind false = refl

-- what is in a hand is seen there
pub seen_hand : (o : Option RunState) (v : Seen) → seen_in o ≡ Some v → hand_of o ≡ v.block
seen_hand o v e = let run = run_seen o v e in ap hand_of run.1 ∙ ap (λ (u : Seen). u.block) run.2

-- outside a run, a step that is no event of guards changes nothing that counts of them
pub quiet_guards : (m : Meaning) (l : Layout) (rs : List Request) (r : ℕ) (p : PartState) (found : ℕ) (x : Spot × Access) (kind : EventKind)
    → is_guarding kind ≡ false → outside_ask m l rs r kind p ≡ Some x → (d : ℕ) → is_sure_of (outside_after m l kind p found).guards d ≡ is_sure_of p.guards d
quiet_guards m l rs r p found x kind k ask d = ap (λ (v : View). v.sure && is_some_of v.named d) (view_outside m l rs r p found x kind k ask)
