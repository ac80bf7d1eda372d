-- What it says of a runner that an event of its on the board is enabled.
use Rattle.std.specs.Prelude.{true, not, ◌==◌}
use Rattle.std.proofs.Common.{◌≡◌, ℕ, ◌+◌, ◌<◌, refl, ap, arith, Option, Some, None}
use Rattle.std.proofs.lemmas.Bool.Decides.{nat_tests}
use Rattle.std.proofs.lemmas.Bool.{and_parts}
use Rattle.section_lines.specs.small_lemmas.proofs.Numbers.{tested_less as lt_test, tested_equal as same_test}
use Rattle.machine_states.specs.table_words.specs.declared.layout.Layout.{Layout}
use Rattle.machine_states.specs.table_words.specs.declared.spot.Spot.{Spot}
use Rattle.machine_states.specs.table_words.specs.declared.spot.Spot.TheVariants.{Board}
use Rattle.machine_states.specs.table_words.specs.declared.access.Access.{Access}
use Rattle.machine_states.specs.table_words.specs.declared.access.Access.TheVariants.{Loads, Exchanges}
use Rattle.machine_states.specs.epoch_core.specs.declared.stage.Stage.{Stage}
use Rattle.machine_states.specs.epoch_core.specs.declared.stage.Stage.TheVariants.{Idle, Loaded, Announced, Entered, Scanning}
use Rattle.machine_states.specs.runner_parts.specs.State.{PartState}
use Rattle.machine_states.specs.runner_parts.specs.Tests.{has, is_some_of}
use Rattle.machine_states.specs.runner_steps.specs.Board.{may_use, last_read, board_load_ask, board_take_ask, board_give_ask}
use Rattle.machine_states.proofs.Sights.{if_some}

module _ (l : Layout) (r : ℕ) where
  -- an idle worker
  uses : (st : Stage) → may_use l r st ≡ true → (st ≡ Idle) × (r < l.runners)
  uses Idle e = (refl, lt_test _ _ e)
  uses (Loaded g) e = absurd (let z = e in cc)
  uses Announced e = absurd (let z = e in cc)
  uses (Entered g) e = absurd (let z = e in cc)
  uses (Scanning g next clear) e = absurd (let z = e in cc)

  pub record BoardLoadAsked (word : ℕ) (p : PartState) (x : Spot × Access) : Type 0 where
    pub idle : p.stage ≡ Idle
    pub worker : r < l.runners
    pub is : (Board word, Loads) ≡ x

  pub board_load_asked : (word : ℕ) (p : PartState) (x : Spot × Access) → board_load_ask l r word p ≡ Some x → BoardLoadAsked word p x
  board_load_asked word p x e =
      let h = if_some _ _ x e in
      let u = uses p.stage h.0 in record { idle = u.0; worker = u.1; is = h.1 }

  pub record BoardTakeAsked (word link : ℕ) (p : PartState) (x : Spot × Access) : Type 0 where
    pub idle : p.stage ≡ Idle
    pub worker : r < l.runners
    pub some : 0 < link
    pub read : last_read p.board word ≡ Some link
    pub is : (Board word, Exchanges link 0) ≡ x

  not_none : (n : ℕ) → not (n == 0) ≡ true → 0 < n
  not_none n e = grind (arith, nat_tests)

  was_read : (o : Option ℕ) (n : ℕ) → is_some_of o n ≡ true → o ≡ Some n
  was_read None n e = absurd (let z = e in cc)
  was_read (Some k) n e = ap (λ (i : ℕ). Some i) (same_test k n e)

  pub board_take_asked : (word link : ℕ) (p : PartState) (x : Spot × Access) → board_take_ask l r word link p ≡ Some x → BoardTakeAsked word link p x
  board_take_asked word link p x e =
      let h = if_some _ _ x e in
      let b = and_parts _ _ h.0 in
      let of_word = and_parts _ _ b.1 in
      let u = uses p.stage b.0 in
      record { idle = u.0; worker = u.1; some = not_none link of_word.0; read = was_read (last_read p.board word) link of_word.1; is = h.1 }

  pub record BoardGiveAsked (word slot : ℕ) (p : PartState) (x : Spot × Access) : Type 0 where
    pub idle : p.stage ≡ Idle
    pub worker : r < l.runners
    pub own : has p.nodes.free slot ≡ true
    pub is : (Board word, Exchanges 0 (slot + 1)) ≡ x

  pub board_give_asked : (word slot : ℕ) (p : PartState) (x : Spot × Access) → board_give_ask l r word slot p ≡ Some x → BoardGiveAsked word slot p x
  board_give_asked word slot p x e =
      let h = if_some _ _ x e in
      let b = and_parts _ _ h.0 in
      let u = uses p.stage b.0 in record { idle = u.0; worker = u.1; own = b.1; is = h.1 }
