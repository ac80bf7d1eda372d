-- What the test tells of a publication.
use Rattle.std.specs.Prelude.{Bool, true, false, ◌&&◌, not, nat_lt, ◌%◌, ◌^◌, slice_get, slice_index, replicate, is_none}
use Rattle.std.specs.List.{list_any}
use Rattle.std.proofs.Common.{◌≡◌, ◌+◌, ◌<◌, ◌≤◌, ℕ, List, [], ◌∷◌, length, refl, ap, ◌∙◌, Option, Some, None, arith}
use Rattle.std.proofs.lemmas.Option.{slice_get_within}
use Rattle.machine_states.specs.map_history.specs.declared.op.Request.{Request}
use Rattle.machine_states.specs.body_terms.specs.declared.thunk.Thunk.{Thunk}
use Rattle.machine_states.specs.body_terms.specs.Word.{held_word}
use Rattle.machine_states.specs.table_words.specs.declared.layout.Layout.{Layout}
use Rattle.machine_states.specs.table_words.specs.declared.spot.Spot.{Spot}
use Rattle.machine_states.specs.table_words.specs.declared.spot.Spot.TheVariants as spots
use Rattle.machine_states.specs.table_words.specs.declared.access.Access.{Access}
use Rattle.machine_states.specs.table_words.specs.declared.access.Access.TheVariants.{Exchanges}
use Rattle.machine_states.specs.table_words.specs.Limits.{IsWithinLimits}
use Rattle.machine_states.specs.table_words.specs.Places.{fits, descriptor_count, part_words}
use Rattle.machine_states.specs.structure_laws.specs.Meaning.{Meaning}
use Rattle.machine_states.specs.runner_parts.specs.declared.event.EventKind.TheVariants as kinds
use Rattle.machine_states.specs.runner_parts.specs.declared.entries.Stored.{Stored}
use Rattle.machine_states.specs.runner_parts.specs.declared.entries.Known.{Known}
use Rattle.machine_states.specs.runner_parts.specs.State.{PartState}
use Rattle.machine_states.specs.runner_parts.specs.Tests.{has, is_walking, is_next, is_open, last_stored, is_some_of, are_stored, thunk_words, is_prepared, serves, is_between}
use Rattle.runner_steps.specs.Outside.{is_due, is_publishable, is_ready}
use Rattle.runner_steps.specs.Asks.{sizes_for}
use Rattle.enabled_kinds.specs.Kinds.{IsGiven}
use Rattle.enabled_kinds.specs.May.{is_enabled, Tells}
use Rattle.enabled_kinds.specs.Tried.{or_zero, stored_thunk}
use Rattle.enabled_kinds.proofs.Asked.{not_both, not_true, both, equal, some_passes, none_passes, when_asks, below, asked, asked_outside}
use Rattle.enabled_kinds.proofs.Numbers.{only_hold}

eight : (xs : List ℕ) → length xs ≡ 8 → slice_index xs 0 ∷ slice_index xs 1 ∷ slice_index xs 2 ∷ slice_index xs 3 ∷ slice_index xs 4 ∷ slice_index xs 5 ∷ slice_index xs 6 ∷ slice_index xs 7 ∷ [] ≡ xs
eight (a ∷ b ∷ c ∷ d ∷ e ∷ f ∷ g ∷ h ∷ []) n = refl
eight (a ∷ b ∷ c ∷ d ∷ e ∷ f ∷ g ∷ h ∷ i ∷ xs) n = absurd (omega (arith, n))
eight _ n = absurd (omega (arith, n))

was_stored : (o : Option ℕ) (n : ℕ) → is_some_of o n ≡ true → or_zero o ≡ n
was_stored None n e = absurd (not_both false e refl)
was_stored (Some k) n e = equal k n e

-- the number stored last into the first of these words, and the rest
first_stored : (stored : List Stored) (d w n : ℕ) (ns : List ℕ) → are_stored stored d w (n ∷ ns) ≡ true → (or_zero (last_stored stored d w None) ≡ n) × (are_stored stored d (w + 1) ns ≡ true)
unfolding are_stored
first_stored stored d w n ns e = let is = both (is_some_of (last_stored stored d w None) n) (are_stored stored d (w + 1) ns) e in (was_stored (last_stored stored d w None) n is.0, is.1)

small : (n : ℕ) → n < 2 ^ 32 → n % 2 ^ 32 ≡ n
small n h = grind arith

module _ (stored : List Stored) (d : ℕ) where
  abbrev word : ℕ → ℕ
  word j = or_zero (last_stored stored d j None)

  -- a thunk whose words were stored is the one that they hold
  pub thunk_is : (t : Thunk) → length t.operands ≡ 8 → t.request < 2 ^ 32 → t.lock < 2 ^ 32 → is_prepared stored d t ≡ true → stored_thunk stored d ≡ t
  thunk_is t given request lock e =
      let o = slice_index t.operands in
      let all = (both (are_stored stored d 0 (thunk_words t)) (are_stored stored d 12 (replicate (part_words + 2) 0)) e).0 in
      let s0 = first_stored stored d 0 t.form (t.request ∷ t.lock ∷ t.word ∷ o 0 ∷ o 1 ∷ o 2 ∷ o 3 ∷ o 4 ∷ o 5 ∷ o 6 ∷ o 7 ∷ []) all in
      let s1 = first_stored stored d 1 t.request (t.lock ∷ t.word ∷ o 0 ∷ o 1 ∷ o 2 ∷ o 3 ∷ o 4 ∷ o 5 ∷ o 6 ∷ o 7 ∷ []) s0.1 in
      let s2 = first_stored stored d 2 t.lock (t.word ∷ o 0 ∷ o 1 ∷ o 2 ∷ o 3 ∷ o 4 ∷ o 5 ∷ o 6 ∷ o 7 ∷ []) s1.1 in
      let s3 = first_stored stored d 3 t.word (o 0 ∷ o 1 ∷ o 2 ∷ o 3 ∷ o 4 ∷ o 5 ∷ o 6 ∷ o 7 ∷ []) s2.1 in
      let s4 = first_stored stored d 4 (o 0) (o 1 ∷ o 2 ∷ o 3 ∷ o 4 ∷ o 5 ∷ o 6 ∷ o 7 ∷ []) s3.1 in
      let s5 = first_stored stored d 5 (o 1) (o 2 ∷ o 3 ∷ o 4 ∷ o 5 ∷ o 6 ∷ o 7 ∷ []) s4.1 in
      let s6 = first_stored stored d 6 (o 2) (o 3 ∷ o 4 ∷ o 5 ∷ o 6 ∷ o 7 ∷ []) s5.1 in
      let s7 = first_stored stored d 7 (o 3) (o 4 ∷ o 5 ∷ o 6 ∷ o 7 ∷ []) s6.1 in
      let s8 = first_stored stored d 8 (o 4) (o 5 ∷ o 6 ∷ o 7 ∷ []) s7.1 in
      let s9 = first_stored stored d 9 (o 5) (o 6 ∷ o 7 ∷ []) s8.1 in
      let s10 = first_stored stored d 10 (o 6) (o 7 ∷ []) s9.1 in
      let s11 = first_stored stored d 11 (o 7) [] s10.1 in
      let operands : word 4 ∷ word 5 ∷ word 6 ∷ word 7 ∷ word 8 ∷ word 9 ∷ word 10 ∷ word 11 ∷ [] ≡ t.operands =
      (λ i. s4.0 i ∷ s5.0 i ∷ s6.0 i ∷ s7.0 i ∷ s8.0 i ∷ s9.0 i ∷ s10.0 i ∷ s11.0 i ∷ []) ∙ eight t.operands given in
      let request_is : word 1 % 2 ^ 32 ≡ t.request = ap (λ (n : ℕ). n % 2 ^ 32) s1.0 ∙ small t.request request in
      let lock_is : word 2 % 2 ^ 32 ≡ t.lock = ap (λ (n : ℕ). n % 2 ^ 32) s2.0 ∙ small t.lock lock in
      λ i. record { form = s0.0 i; request = request_is i; lock = lock_is i; word = s3.0 i; operands = operands i }

module _ (m : Meaning) (l : Layout) (rs : List Request) (r : ℕ) (p : PartState) where
  abbrev can_hold : Thunk → ℕ → Bool
  can_hold t d = is_enabled m l rs r p (kinds.Hold t d)

  abbrev publishes : ℕ → Bool
  publishes d = can_hold (stored_thunk p.descriptors.stored d) d

  due_within : (known : List Known) (walk : List (ℕ × ℕ)) (t : Thunk) (o : Option Request) → (is_next l r rs known o && serves m l walk t o) ≡ true → (q : Request) × (o ≡ Some q)
  due_within known walk t None e = absurd (not_both false e refl)
  due_within known walk t (Some q) e = (q, refl)

  module _ (limits : IsWithinLimits l) (few : length rs ≤ 131072) (few_cells : m.fixed_cells ≤ 12288) (few_slots : m.fixed_slots ≤ 3) where
    few_places : (lock : ℕ) → lock < (sizes_for m l rs).cells → lock < 2 ^ 32
    few_places lock inside = let nodes = limits.few_nodes in let runners = limits.few_runners in omega (arith, inside, nodes, runners, few_cells, few_slots)

    hold_is : (t : Thunk) (d : ℕ) → length t.operands ≡ 8 → can_hold t d ≡ true → (has p.descriptors.free d ≡ true) × (stored_thunk p.descriptors.stored d ≡ t)
    hold_is t d given e =
        let a = asked m l rs r p (kinds.Hold t d) e in
        let is = when_asks (is_ready l p d t && is_publishable m l rs r t p) (spots.Cell t.lock) (Exchanges t.word (held_word d t.word)) a.ask (asked_outside m l rs r p (kinds.Hold t d) a refl) in
        let test = both (is_ready l p d t) (is_publishable m l rs r t p) is.0 in
        let ready = both (has p.descriptors.free d) _ (both (nat_lt d (descriptor_count l)) _ test.0).1 in
        let named = both (is_some_of p.guards.named d) _ ready.1 in
        let prepared = both _ (is_prepared p.descriptors.stored d t) named.1 in
        let walking = both (is_walking p.stage p.run) _ test.1 in
        let unpublished = both (is_none p.published) _ walking.1 in
        let settled = both (not (is_between p.reads.look)) _ unpublished.1 in
        let due = (both (is_open l p.reads.cells t) (is_due m l rs r p.records.known p.reads.walk t) settled.1).1 in
        let request = due_within p.records.known p.reads.walk t (slice_get rs t.request) due in
        let inside = slice_get_within rs t.request request.0 request.1 in
        let lock = below t.lock (sizes_for m l rs).cells (ap (λ (x : Spot × Access). fits (sizes_for m l rs) x.0) is.1 ∙ a.fitting) in
        (ready.0, thunk_is p.descriptors.stored d t given (omega (arith, inside, few)) (few_places t.lock lock) prepared.1)

    -- of a publication nothing else has to be tried
    pub hold_tells : Tells m l rs r p 18 (list_any publishes p.descriptors.free)
    hold_tells = record {
      found = λ h. let x = some_passes publishes p.descriptors.free h in record { kind = kinds.Hold (stored_thunk p.descriptors.stored x.0) x.0; is_of = refl; given = refl; enabled = x.1 };
      missed = λ h. only_hold (λ k. IsGiven k → is_enabled m l rs r p k ≡ false) (λ t d given. not_true (can_hold t d) (λ e.
          let is = hold_is t d given e in
          not_both (publishes d) (ap (λ (u : Thunk). can_hold u d) is.1 ∙ e) (none_passes publishes p.descriptors.free d h is.0)));
    }
