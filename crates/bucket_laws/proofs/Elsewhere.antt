-- What a walk knows stands where nothing of its bucket changes.
use Rattle.std.proofs.Common.{◌≡◌, ◌≢◌, ℕ, suc, ◌<◌, ◌≤◌, Bool, true, cond, refl, sym, ap, ◌∙◌}
use Rattle.std.proofs.Common.{subst, inl, inr, ⊎_elim, arith}
use Rattle.std.specs.Prelude.{Some, [], ◌∷◌, slice_get}
use Rattle.structure_laws.specs.table_words.specs.small_lemmas.proofs.Lists.{some_same}
use Rattle.structure_laws.specs.table_words.specs.small_lemmas.proofs.Numbers.{suc_equal as suc_eq}
use Rattle.structure_laws.specs.map_history.specs.declared.op.Op.{Op}
use Rattle.structure_laws.specs.map_history.specs.Keys.{key_of}
use Rattle.structure_laws.specs.body_terms.specs.Word.{value_of}
use Rattle.bucket_bodies.specs.section_body.specs.Bucket.{bucket_edition, bucket_head}
use Rattle.structure_laws.specs.Scene.{Cells, Readings}
use Rattle.bucket_laws.specs.Chain.{Chains}
use Rattle.bucket_laws.specs.Walk.{Stage, AtEdition, AtLink, AtKey, AtValue, AtNext, AtLock, AtEnd, Refused, Walk, start, is_wanted, Bounds, cell_at, wanted_at, fed, walk}
use Rattle.bucket_laws.specs.Buckets.{nodes, IsNode, IsLinkOf, IsAhead, IsReached, IsFound, IsMissing, Knows}
use Rattle.bucket_laws.proofs.Walks.{bool_cases, head_is, reached_on, wanted_eq, is_first, edition_kept}

module _ (buckets : ℕ) (bucket : ℕ → ℕ) where
  -- the chain of bucket i and the cells of its nodes are the same in two memories
  pub record IsElsewhere (cells cells' : Cells) (on on' : ℕ → Bool) (rank rank' : ℕ → ℕ) (i : ℕ) : Type 0 where
    pub head : cells' (bucket_head i) ≡ cells (bucket_head i)
    pub stays : (u : ℕ) → IsNode buckets bucket cells on i u → on' u ≡ true
    pub ranks : (u : ℕ) → IsNode buckets bucket cells on i u → rank' u ≡ rank u
    pub cell : (u k : ℕ) → IsNode buckets bucket cells on i u → 1 ≤ k → k ≤ 3 → cells' (cell_at buckets bucket u k) ≡ cells (cell_at buckets bucket u k)
    pub back : (u : ℕ) → IsNode buckets bucket cells' on' i u → IsNode buckets bucket cells on i u

  -- nothing is changed
  pub nowhere : (cells : Cells) (on : ℕ → Bool) (rank : ℕ → ℕ) (i : ℕ) → IsElsewhere cells cells on on rank rank i
  nowhere cells on rank i = record { head = refl; stays = λ u node. node.0; ranks = λ u node. refl; cell = λ u k node low high. refl; back = λ u node. node }

  module _ (small : (key : ℕ) → bucket key < buckets) (cells cells' : Cells) (on on' : ℕ → Bool) (rank rank' : ℕ → ℕ) (chains : Chains bucket (nodes buckets bucket cells) on rank) (op : Op) (w : Walk)
      (same : IsElsewhere cells cells' on on' rank rank' (bucket (key_of op))) where
    abbrev i : ℕ
    i = bucket (key_of op)

    node_on : (u : ℕ) → IsNode buckets bucket cells on i u → IsNode buckets bucket cells' on' i u
    node_on u node = (same.stays u node, ap (λ word. bucket (value_of word)) (same.cell u 1 node (omega arith) (omega arith)) ∙ node.1)

    link_on : (p : ℕ) → IsLinkOf buckets bucket cells on i p → IsLinkOf buckets bucket cells' on' i p × (cells' p ≡ cells p)
    link_on p link = ⊎_elim (λ head. (inl head, ap cells' head ∙ same.head ∙ ap cells (sym head)))
        (λ node. (inr (node.0, node_on node.0 node.1, node.2), ap cells' node.2 ∙ same.cell node.0 3 node.1 (omega arith) (omega arith) ∙ ap cells (sym node.2))) link

    ahead_on : (link : ℕ) → ((t : ℕ) → link ≡ suc t → IsNode buckets bucket cells on i t) → IsAhead buckets bucket cells on rank (key_of op) link → IsAhead buckets bucket cells' on' rank' (key_of op) link
    ahead_on link leads ahead u on_u key =
        let node = same.back u (on_u, ap bucket key) in
        let key' : value_of (cells (cell_at buckets bucket u 1)) ≡ key_of op = ap value_of (sym (same.cell u 1 node (omega arith) (omega arith))) ∙ key in
        let there = ahead u node.0 key' in
        let up = same.ranks u node in
        let down = same.ranks there.0 (leads there.0 there.1) in
        let order = there.2 in
        (there.0, there.1, omega arith)

    missing_on : IsMissing buckets bucket cells on (key_of op) → IsMissing buckets bucket cells' on' (key_of op)
    missing_on missing u on_u key =
        let node = same.back u (on_u, ap bucket key) in
        missing u node.0 (ap value_of (sym (same.cell u 1 node (omega arith) (omega arith))) ∙ key)

    reached_same : IsReached buckets bucket cells on i w → IsReached buckets bucket cells' on' i w
    reached_same reached = let link = link_on w.place reached.0 in (link.0, ap value_of link.1 ∙ reached.1)

    found_on : IsFound buckets bucket cells on op w → IsFound buckets bucket cells' on' op w
    found_on found =
        let node = reached_on buckets bucket small cells on rank chains (key_of op) w found.0 in (
          reached_same found.0,
          ap value_of (same.cell w.slot 1 node (omega arith) (omega arith)) ∙ found.1,
          ap value_of (same.cell w.slot 2 node (omega arith) (omega arith)) ∙ found.2,
          λ del. ap value_of (same.cell w.slot 3 node (omega arith) (omega arith)) ∙ found.3 del,
        )

    pub knows_on : (stage : Stage) → Knows buckets bucket cells on rank op w stage → Knows buckets bucket cells' on' rank' op w stage
    knows_on AtEdition known = tt
    knows_on AtLink known =
        let link = link_on w.place known.0 in
        (link.0, subst (IsAhead buckets bucket cells' on' rank' (key_of op)) (ap value_of (sym link.1)) (ahead_on (value_of (cells w.place)) (leads known.0) known.1), λ ne. known.2 ne ∙ ap value_of (sym same.head))
      where
        leads : IsLinkOf buckets bucket cells on i w.place → (t : ℕ) → value_of (cells w.place) ≡ suc t → IsNode buckets bucket cells on i t
        leads link t e = ⊎_elim (λ head. chains.head_on i t (head_is buckets bucket small cells (key_of op) ∙ ap (λ p. value_of (cells p)) (sym head) ∙ e))
            (λ node. let there = chains.next_on node.0 t node.1.0 (ap (λ p. value_of (cells p)) (sym node.2) ∙ e) in (there.0, there.1 ∙ node.1.1)) link
    knows_on AtKey known = (
      reached_same known.0,
      ahead_on (suc w.slot) (λ t e. subst (IsNode buckets bucket cells on i) (suc_eq w.slot t e) (reached_on buckets bucket small cells on rank chains (key_of op) w known.0)) known.1,
      known.2 ∙ ap value_of (sym same.head),
    )
    knows_on AtValue known = let node = reached_on buckets bucket small cells on rank chains (key_of op) w known.0 in
        (reached_same known.0, ap value_of (same.cell w.slot 1 node (omega arith) (omega arith)) ∙ known.1, known.2 ∙ ap value_of (sym same.head))
    knows_on AtNext known = let node = reached_on buckets bucket small cells on rank chains (key_of op) w known.0 in
        (reached_same known.0, ap value_of (same.cell w.slot 1 node (omega arith) (omega arith)) ∙ known.1, ap value_of (same.cell w.slot 2 node (omega arith) (omega arith)) ∙ known.2, known.3 ∙ ap value_of (sym same.head))
    knows_on AtLock known = (known.0 ∙ ap value_of (sym same.head), λ found. found_on (known.1 found), λ missing. missing_on (known.2 missing))
    knows_on AtEnd known = (known.0 ∙ ap value_of (sym same.head), λ found. found_on (known.1 found), λ missing. missing_on (known.2 missing))
    knows_on Refused known = tt

  -- a word was read at the place of the operation's edition
  abbrev pub IsAmong : Op → Readings → ℕ → Type 0
  IsAmong op readings w = (k : ℕ) × (slice_get readings k ≡ Some (bucket_edition (bucket (key_of op)), w))

  -- a walk past its edition has read it
  module _ (small : (key : ℕ) → bucket key < buckets) (b : Bounds) (op : Op) (all : Readings) where
    abbrev IsSeen : Walk → Type 0
    IsSeen w = w.stage ≢ AtEdition → IsAmong op all w.edition

    pub first_fed : (w : Walk) (p n i : ℕ) (stage : Stage) → stage ≡ AtEdition
        → wanted_at buckets bucket (bucket (key_of op)) w stage ≡ Some p → slice_get all i ≡ Some (p, n)
        → IsAmong op all (fed buckets bucket b op w stage n).edition
    first_fed w p n i stage first want at =
        subst (λ stage. wanted_at buckets bucket (bucket (key_of op)) w stage ≡ Some p
        → IsAmong op all (fed buckets bucket b op w stage n).edition) (sym first)
        (λ is. (i, subst (λ p. slice_get all i ≡ Some (p, n)) (sym (some_same is)) at)) want

    seen_from : (w : Walk) (readings : Readings)
        → ((i p n : ℕ) → slice_get readings i ≡ Some (p, n) → (j : ℕ) × (slice_get all j ≡ Some (p, n)))
        → IsSeen w → IsSeen (walk buckets bucket b op w readings)
    unfolding walk
    seen_from w [] among seen = seen
    seen_from w (reading ∷ readings) among seen = bool_cases goes
        (λ e. subst IsSeen (ap (λ c. cond c (walk buckets bucket b op next readings) w) (sym e))
        (seen_from next readings (λ i p n at. among (suc i) p n at) (λ later. ⊎_elim
        (λ first. let here = among 0 reading.0 reading.1 refl in
        first_fed w reading.0 reading.1 here.0 w.stage first (wanted_eq _ reading.0 e) here.1)
        (λ ne. subst (IsAmong op all) (sym (edition_kept buckets bucket small b op w w.stage reading.1 ne)) (seen ne))
        (is_first buckets bucket small w.stage))))
        (λ e. subst IsSeen (ap (λ c. cond c (walk buckets bucket b op next readings) w) (sym e)) seen)
      where
        goes : Bool
        goes = is_wanted (wanted_at buckets bucket (bucket (key_of op)) w w.stage) reading.0

        next : Walk
        next = fed buckets bucket b op w w.stage reading.1

  pub edition_seen : (small : (key : ℕ) → bucket key < buckets) (b : Bounds) (op : Op) (readings : Readings)
      → (walk buckets bucket b op start readings).stage ≢ AtEdition
      → IsAmong op readings (walk buckets bucket b op start readings).edition
  edition_seen small b op readings ne =
      seen_from small b op readings start readings (λ i p n at. (i, at)) (λ first. absurd (first refl)) ne
