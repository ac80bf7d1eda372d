-- Along the keeper's way it keeps whom it has joined, and the record of what its steps left grows.
use Rattle.std.specs.Prelude.{◌+◌, ◌==◌, ◌||◌, nat_lt, Bool, true, false, if◌then◌else◌}
use Rattle.std.proofs.Common.{◌≡◌, ℕ, zero, suc, List, [], ◌∷◌, ◌++◌, append-nil, append_assoc, refl, sym, ap, ◌∙◌, subst, inl, inr}
use Rattle.machine_states.specs.body_terms.specs.declared.micro.Micro.{Micro}
use Rattle.machine_states.specs.body_terms.specs.declared.micro.Micro.TheVariants as micros
use Rattle.machine_states.specs.table_words.specs.Places.{block_words}
use Rattle.machine_states.specs.table_words.specs.declared.layout.Layout.{Layout}
use Rattle.machine_states.specs.table_words.specs.declared.spot.Spot.{Spot}
use Rattle.machine_states.specs.table_words.specs.declared.access.Access.{Access}
use Rattle.machine_states.specs.table_words.specs.Access.{written}
use Rattle.machine_states.specs.structure_laws.specs.Meaning.{Meaning}
use Rattle.machine_states.specs.runner_parts.specs.declared.entries.Left.{Left}
use Rattle.machine_states.specs.runner_parts.specs.declared.event.EventKind.{EventKind}
use Rattle.machine_states.specs.runner_parts.specs.declared.event.EventKind.TheVariants as kinds
use Rattle.machine_states.specs.runner_parts.specs.State.{RunState, RecordsState, PartState}
use Rattle.machine_states.specs.runner_steps.specs.Outside.{blocks_from}
use Rattle.machine_states.specs.runner_steps.specs.After.{left_more, is_late_join, noted}
use Rattle.machine_states.specs.runner_steps.specs.After.{after_by, after}
use Rattle.machine_states.specs.World.{is_join}
use Rattle.keeper_facts.specs.runner_facts.specs.next_steps.specs.Steps.{slot_in, kind_at, next_block, link_kind}
use Rattle.keeper_facts.proofs.Keeping.{after_keeps, noted_joined}
use Rattle.machine_states.proofs.Marks.{stays}
use Rattle.try_lock.specs.commit_log.specs.version_words.specs.RunnerState.{RunnerState}
use Rattle.try_lock.specs.commit_log.specs.version_words.specs.TableState.{TableState, IsOf}
use Rattle.try_lock.specs.commit_log.specs.version_words.specs.Events.{Makes}
use Rattle.try_lock.specs.commit_log.specs.Runs.{Moved, Ran}
use Rattle.try_lock.specs.section_runs.specs.Opened.{is_opening, Opens}
use Rattle.settling.specs.Settled.{IsFront}

pub front_same : {A : Type 0} (xs ys : List A) → ys ≡ xs → IsFront xs ys
front_same xs ys e = record { back = []; parts = e ∙ sym (append-nil xs) }

pub front_on : {A : Type 0} (xs ys zs : List A) → IsFront xs ys → IsFront ys zs → IsFront xs zs
front_on xs ys zs one two = record { back = one.back ++ two.back; parts = two.parts ∙ (ap (λ s. s ++ two.back) one.parts ∙ append_assoc xs one.back two.back) }

module _ {T : Type 0} where
  -- whom it has joined and their parts stay, and what its steps left grows
  pub record Grows (old new : RunnerState T) : Type 0 where
    pub table : new.table ≡ old.table
    pub structure : new.structure ≡ old.structure
    pub layout : new.layout ≡ old.layout
    pub requests : new.requests ≡ old.requests
    pub number : new.number ≡ old.number
    pub joined : new.joined ≡ old.joined
    pub told : new.part.records.joined ≡ old.part.records.joined
    pub crosses : new.part.records.crosses ≡ old.part.records.crosses
    pub left : IsFront old.part.records.left new.part.records.left

  pub grows_same : (r : RunnerState T) → Grows r r
  grows_same r = record { table = refl; structure = refl; layout = refl; requests = refl; number = refl; joined = refl; told = refl; crosses = refl; left = front_same r.part.records.left r.part.records.left refl }

  pub grows_on : (a b c : RunnerState T) → Grows a b → Grows b c → Grows a c
  grows_on a b c one two = record {
    table = two.table ∙ one.table;
    structure = two.structure ∙ one.structure;
    layout = two.layout ∙ one.layout;
    requests = two.requests ∙ one.requests;
    number = two.number ∙ one.number;
    joined = two.joined ∙ one.joined;
    told = two.told ∙ one.told;
    crosses = two.crosses ∙ one.crosses;
    left = front_on a.part.records.left b.part.records.left c.part.records.left one.left two.left;
  }

-- so it stays a runner of its table
pub own_grows : {T : Type 0} (t : TableState T) (old new : RunnerState T) → Grows old new → IsOf t old → IsOf t new
own_grows t old new grows own = record {
  table = grows.table ∙ own.table;
  structure = grows.structure ∙ own.structure;
  layout = grows.layout ∙ own.layout;
  requests = grows.requests ∙ own.requests;
  limits = own.limits;
  allowed = own.allowed;
}

-- no join
abbrev pub is_plain : EventKind → Bool
is_plain (kinds.Join worker) = false
is_plain _ = true

plain_join : (kind : EventKind) → is_plain kind ≡ true → is_join kind ≡ false
plain_join (kinds.Join worker) is = absurd (let z = is in cc)
plain_join _ is = refl

plain_late : (kind : EventKind) (epoch : ℕ) → is_plain kind ≡ true → is_late_join kind epoch ≡ false
plain_late (kinds.Join worker) epoch is = absurd (let z = is in cc)
plain_late _ epoch is = refl

left_grows : (before : List Left) (kind : EventKind) (spot : Spot) (n : ℕ) → is_plain kind ≡ true → IsFront before (left_more kind spot n before)
left_grows before (kinds.Join worker) spot n is = absurd (let y = is in cc)
left_grows before _ spot n is = record { back = record { spot = spot; number = n } ∷ []; parts = refl }

noted_grows : (l : Layout) (r : ℕ) (kind : EventKind) (spot : Spot) (access : Access) (n : ℕ) (z : RecordsState) → is_plain kind ≡ true
    → IsFront z.left (noted l r kind spot access n z).left
noted_grows l r kind spot access n z is = by (r == l.runners)
  where
    by : (b : Bool) → IsFront z.left (if b then left_more kind spot (written access n) z.left else z.left)
    by true = left_grows z.left kind spot (written access n) is
    by false = front_same z.left z.left refl

plain_at : (p : PartState) (q : RunState) (micro : Micro) → is_plain (kind_at p q micro) ≡ true
plain_at p q (micros.LoadCell place log) = refl
plain_at p q _ = refl

plain_link : (m : Meaning) (l : Layout) (p : PartState) (q : RunState) → is_plain (link_kind m l p q) ≡ true
plain_link m l p q = by (nat_lt q.emptied block_words)
  where
    by : (b : Bool) → is_plain (if b then kinds.PrivateStore (blocks_from m l + slot_in (next_block p q)) q.emptied 0 else kinds.LinkCommit (slot_in q.block)) ≡ true
    by true = refl
    by false = refl

opening_plain : (kind : EventKind) → is_opening kind ≡ true → is_plain kind ≡ true
opening_plain (kinds.LoadThunk descriptor) is = refl
opening_plain kinds.LoadDone is = refl
opening_plain _ is = absurd (let z = is in cc)

module _ {T : Type 0} (m : Meaning) where
  pub grows_made : (kind : EventKind) (found : ℕ) (r r' : RunnerState T) → is_plain kind ≡ true → Makes m kind found r r' → Grows r r'
  grows_made kind found r r' is made =
      let part : r'.part ≡ after m r.layout r.number kind made.met.0 made.met.1 r.part found
      = ap (λ (y : RunnerState T). y.part) made.made in
      record {
        table = ap (λ (y : RunnerState T). y.table) made.made;
        structure = ap (λ (y : RunnerState T). y.structure) made.made;
        layout = ap (λ (y : RunnerState T). y.layout) made.made;
        requests = ap (λ (y : RunnerState T). y.requests) made.made;
        number = ap (λ (y : RunnerState T). y.number) made.made;
        joined = ap (λ (y : RunnerState T). y.joined) made.made;
        told = ap (λ (p : PartState). p.records.joined) part
            ∙ (noted_joined r.layout r.number kind made.met.0 made.met.1 found (after_by m r.layout kind r.part r.part.run found).records ∙ ap (λ (z : List ℕ × List Left). z.0) (after_keeps m r.layout r.part found kind (plain_join kind is) r.part.run));
        crosses = ap (λ (p : PartState). p.records.crosses) part
            ∙ (ap (λ (b : Bool). b || (after_by m r.layout kind r.part r.part.run found).records.crosses) (plain_late kind (after_by m r.layout kind r.part r.part.run found).records.epoch_seen is)
            ∙ ap (λ (z : ℕ × (Bool × Bool)). z.1.1) (stays m r.layout r.part found kind r.part.run).kept);
        left = subst (IsFront r.part.records.left) (sym (ap (λ (p : PartState). p.records.left) part))
            (subst (λ xs. IsFront xs (noted r.layout r.number kind made.met.0 made.met.1 found (after_by m r.layout kind r.part r.part.run found).records).left)
            (ap (λ (z : List ℕ × List Left). z.1) (after_keeps m r.layout r.part found kind (plain_join kind is) r.part.run))
            (noted_grows r.layout r.number kind made.met.0 made.met.1 found (after_by m r.layout kind r.part r.part.run found).records is));
      }

  grows_moved : (q : RunState) (found : ℕ) (a b : RunnerState T) → Moved m q found a b → Grows a b
  grows_moved q found a b (inl step) = grows_made (kind_at a.part q step.0) found a b (plain_at a.part q step.0) step.1.event
  grows_moved q found a b (inr link) = grows_made (link_kind m a.layout a.part q) found a b (plain_link m a.layout a.part q) link.event

  pub grows_ran : (n : ℕ) (a b : RunnerState T) → Ran m n a b → Grows a b
  grows_ran zero a b same = subst (Grows a) (sym same) (grows_same a)
  grows_ran (suc n) a b ran = let r = ran.0 in grows_on a r b (grows_moved ran.1 ran.2 a r ran.3) (grows_ran n r b ran.4)

  pub grows_opens : (n : ℕ) (a b : RunnerState T) → Opens m n a b → Grows a b
  grows_opens zero a b same = subst (Grows a) (sym same) (grows_same a)
  grows_opens (suc n) a b opens =
      let r = opens.0 in
      grows_on a r b (grows_opens n a r opens.3) (grows_made opens.1 opens.2 r b (opening_plain opens.1 opens.4) opens.5)
