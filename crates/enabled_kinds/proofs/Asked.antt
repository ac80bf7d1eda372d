-- What is known of a part on which an event is enabled.
use Rattle.std.specs.Prelude.{Bool, true, false, ◌==◌, ◌&&◌, ◌||◌, nat_lt, is_some, if◌then◌else◌}
use Rattle.std.specs.List.{list_any}
use Rattle.std.proofs.Common.{◌≡◌, ◌<◌, ℕ, List, [], ◌∷◌, ◌⊎◌, inl, inr, ⊎_elim, sym, refl, ap, ◌∙◌, Option, Some, None, arith}
use Rattle.std.proofs.lemmas.Bool.Decides.{nat_tests}
use Rattle.machine_states.specs.map_history.specs.declared.op.Request.{Request}
use Rattle.machine_states.specs.table_words.specs.declared.layout.Layout.{Layout}
use Rattle.machine_states.specs.table_words.specs.declared.sizes.Sizes.{Sizes}
use Rattle.machine_states.specs.table_words.specs.declared.spot.Spot.{Spot}
use Rattle.machine_states.specs.table_words.specs.declared.access.Access.{Access}
use Rattle.machine_states.specs.table_words.specs.Places.{fits, block_words}
use Rattle.machine_states.specs.structure_laws.specs.Meaning.{Meaning}
use Rattle.machine_states.specs.runner_parts.specs.declared.event.EventKind.{EventKind}
use Rattle.machine_states.specs.runner_parts.specs.declared.event.EventKind.TheVariants as kinds
use Rattle.machine_states.specs.epoch_core.specs.declared.stage.Stage.{Stage}
use Rattle.machine_states.specs.epoch_core.specs.declared.stage.Stage.TheVariants as stages
use Rattle.machine_states.specs.runner_parts.specs.State.{RunState, PartState}
use Rattle.machine_states.specs.runner_parts.specs.Tests.{has, is_resting}
use Rattle.runner_steps.specs.Outside.{Ask, when}
use Rattle.runner_steps.specs.Sections.{is_open_run, next_of, needs_link}
use Rattle.runner_steps.specs.Asks.{fitting, sizes_for, outside_ask, inside_ask, ask_by, asks}
use Rattle.runner_steps.specs.InRun.{is_slot, link_commit_ask}
use Rattle.enabled_kinds.specs.May.{is_enabled}
use Rattle.enabled_kinds.specs.Tried.{linked, link_of}

pub absent : {A : Type 0} (a : A) → None ≡ Some a → ⊥
absent a e = cc

pub the_same : {A : Type 0} (a b : A) → Some a ≡ Some b → a ≡ b
the_same a b e = cc

pub not_both : (b : Bool) → b ≡ true → b ≡ false → ⊥
not_both b holds fails = cc

-- a test that isn't passed
pub not_true : (b : Bool) → (b ≡ true → ⊥) → b ≡ false
not_true true never = absurd (never refl)
not_true false never = refl

pub both : (a b : Bool) → (a && b) ≡ true → (a ≡ true) × (b ≡ true)
both true true e = (refl, refl)
both true false e = absurd (not_both false e refl)
both false b e = absurd (not_both false e refl)

pub either : (a b : Bool) → (a || b) ≡ true → (a ≡ true) ⊎ (b ≡ true)
either true b e = inl refl
either false b e = inr e

pub neither : (a b : Bool) → (a || b) ≡ false → (a ≡ false) × (b ≡ false)
neither true b e = absurd (not_both true refl e)
neither false b e = (refl, e)

pub equal : (a b : ℕ) → (a == b) ≡ true → a ≡ b
equal a b e = grind (arith, nat_tests)

pub below : (a b : ℕ) → nat_lt a b ≡ true → a < b
below a b e = grind (arith, nat_tests)

pub is_below : (a b : ℕ) → a < b → nat_lt a b ≡ true
is_below a b h = grind (arith, nat_tests)

-- a test that an element of a list passes
pub some_passes : {A : Type 0} (test : A → Bool) (xs : List A) → list_any test xs ≡ true → (x : A) × (test x ≡ true)
some_passes test [] e = absurd (not_both false e refl)
some_passes test (x ∷ xs) e = ⊎_elim (λ here. (x, here)) (λ later. some_passes test xs later) (either (test x) (list_any test xs) e)

-- no element of the list passes the test
pub none_passes : (test : ℕ → Bool) (xs : List ℕ) (x : ℕ) → list_any test xs ≡ false → has xs x ≡ true → test x ≡ false
none_passes test [] x none here = absurd (not_both false here refl)
none_passes test (y ∷ ys) x none here =
    let parts = neither (test y) (list_any test ys) none in
    ⊎_elim (λ same. ap test (sym (equal y x same)) ∙ parts.0) (λ later. none_passes test ys x parts.1 later) (either (y == x) (has ys x) here)

pub when_asks : (test : Bool) (a : Spot) (access : Access) (x : Spot × Access) → when test a access ≡ Some x → (test ≡ true) × ((a, access) ≡ x)
when_asks true a access x e = (refl, the_same (a, access) x e)
when_asks false a access x e = absurd (absent x e)

pub asks_when : (test : Bool) (a : Spot) (access : Access) → test ≡ true → when test a access ≡ Some (a, access)
asks_when test a access e = rw e refl

-- idle or entered, a runner is in no run
rests : (o : Option RunState) (st : Stage) → is_resting st o ≡ true → o ≡ None
rests None st e = refl
rests (Some q) stages.Idle e = absurd (not_both false e refl)
rests (Some q) (stages.Entered g) e = absurd (not_both false e refl)
rests (Some q) (stages.Loaded x) e = absurd (not_both false e refl)
rests (Some q) stages.Announced e = absurd (not_both false e refl)
rests (Some q) (stages.Scanning x next clear) e = absurd (not_both false e refl)

pub some_is : {A : Type 0} (o : Option A) → is_some o ≡ true → (x : A) × (o ≡ Some x)
some_is None e = absurd (not_both false e refl)
some_is (Some x) e = (x, refl)

fits_if : (b : Bool) (y x : Spot × Access) → (if b then Some y else None) ≡ Some x → (b ≡ true) × (y ≡ x)
fits_if true y x e = (refl, the_same y x e)
fits_if false y x e = absurd (absent x e)

fitting_asks : (s : Sizes) (o : Ask) (x : Spot × Access) → fitting s o ≡ Some x → (o ≡ Some x) × (fits s x.0 ≡ true)
fitting_asks s None x e = absurd (absent x e)
fitting_asks s (Some y) x e =
    let is = fits_if (fits s y.0) y x e in
    (ap (λ (z : Spot × Access). Some z) is.1, ap (λ (z : Spot × Access). fits s z.0) (sym is.1) ∙ is.0)

stays_asks : (gone : Bool) (s : Sizes) (o : Ask) (x : Spot × Access) → (if gone then None else fitting s o) ≡ Some x → (gone ≡ false) × (o ≡ Some x) × (fits s x.0 ≡ true)
stays_asks true s o x e = absurd (absent x e)
stays_asks false s o x e = let is = fitting_asks s o x e in (refl, is.0, is.1)

-- the kinds that no run makes
abbrev pub is_outside_kind : EventKind → Bool
is_outside_kind (kinds.ScanOne n) = true
is_outside_kind (kinds.LoadCell (Some place)) = true
is_outside_kind (kinds.LoadThunk (Some d)) = true
is_outside_kind (kinds.Hold thunk d) = true
is_outside_kind (kinds.Join worker) = true
is_outside_kind (kinds.LoadEntry request reply) = true
is_outside_kind (kinds.ReadPlan thunk) = true
is_outside_kind (kinds.Guard d) = true
is_outside_kind (kinds.LoadGuard n) = true
is_outside_kind (kinds.BoardLoad word) = true
is_outside_kind (kinds.BoardTake word link) = true
is_outside_kind (kinds.BoardGive word slot) = true
is_outside_kind _ = false

module _ (m : Meaning) (l : Layout) (rs : List Request) (r : ℕ) (p : PartState) where
  -- what an enabled event asks
  pub record Asked (k : EventKind) : Type 0 where
    pub ask : Spot × Access
    pub stays : p.gone ≡ false
    pub asked : ask_by m l rs r k p p.run ≡ Some ask
    pub fitting : fits (sizes_for m l rs) ask.0 ≡ true

  pub asked : (k : EventKind) → is_enabled m l rs r p k ≡ true → Asked k
  asked k e =
      let some = some_is (asks m l rs r k p) e in
      let is = stays_asks p.gone (sizes_for m l rs) (ask_by m l rs r k p p.run) some.0 some.1 in
      record { ask = some.0; stays = is.0; asked = is.1; fitting = is.2 }

  enabled_by : (gone : Bool) (s : Sizes) (o : Ask) (x : Spot × Access) → gone ≡ false → o ≡ Some x → fits s x.0 ≡ true → is_some (if gone then None else fitting s o) ≡ true
  enabled_by gone s o x stays asked fitting = rw (stays, asked, fitting) refl

  -- an event is enabled that asks for a word which the table has
  pub enabled : (k : EventKind) (x : Spot × Access) → p.gone ≡ false → ask_by m l rs r k p p.run ≡ Some x → fits (sizes_for m l rs) x.0 ≡ true → is_enabled m l rs r p k ≡ true
  enabled k x stays asked fitting = enabled_by p.gone (sizes_for m l rs) (ask_by m l rs r k p p.run) x stays asked fitting

  nothing : (b : Bool) (x : Spot × Access) → (if b then None else None) ≡ Some x → ⊥
  nothing true x e = absent x e
  nothing false x e = absent x e

  not_inside : (k : EventKind) (q : RunState) (free blocks : List ℕ) (x : Spot × Access) → is_outside_kind k ≡ true → inside_ask m l k free blocks q ≡ Some x → ⊥
  not_inside (kinds.ScanOne n) q free blocks x h e = nothing (is_open_run q) x e
  not_inside (kinds.LoadCell (Some place)) q free blocks x h e = nothing (is_open_run q) x e
  not_inside (kinds.LoadThunk (Some d)) q free blocks x h e = nothing (is_open_run q) x e
  not_inside (kinds.Hold thunk d) q free blocks x h e = nothing (is_open_run q) x e
  not_inside (kinds.Join worker) q free blocks x h e = nothing (is_open_run q) x e
  not_inside (kinds.LoadEntry request reply) q free blocks x h e = nothing (is_open_run q) x e
  not_inside (kinds.ReadPlan thunk) q free blocks x h e = nothing (is_open_run q) x e
  not_inside (kinds.Guard d) q free blocks x h e = nothing (is_open_run q) x e
  not_inside (kinds.LoadGuard n) q free blocks x h e = nothing (is_open_run q) x e
  not_inside (kinds.BoardLoad word) q free blocks x h e = nothing (is_open_run q) x e
  not_inside (kinds.BoardTake word link) q free blocks x h e = nothing (is_open_run q) x e
  not_inside (kinds.BoardGive word slot) q free blocks x h e = nothing (is_open_run q) x e
  not_inside _ q free blocks x h e = absurd (not_both false h refl)

  outside_by : (k : EventKind) (o : Option RunState) (x : Spot × Access) → is_outside_kind k ≡ true → ask_by m l rs r k p o ≡ Some x → outside_ask m l rs r k p ≡ Some x
  outside_by k None x h e = e
  outside_by k (Some q) x h e = absurd (not_inside k q p.nodes.free p.blocks.free x h e)

  -- a run links no block but the one in its hand
  link_by : (b : ℕ) (o : Option RunState) (x : Spot × Access) → ask_by m l rs r (kinds.LinkCommit b) p o ≡ Some x → linked o ≡ Some (kinds.LinkCommit b)
  link_by b None x e = absurd (absent x e)
  link_by b (Some q) x e = by_open (is_open_run q) e
    where
      in_hand : (o : Option ℕ) → is_slot o b ≡ true → link_of o ≡ Some (kinds.LinkCommit b)
      in_hand None e = absurd (not_both false e refl)
      in_hand (Some c) e = ap (λ (n : ℕ). Some (kinds.LinkCommit n)) (equal c b e)

      by_open : (open_run : Bool) → (if open_run then link_commit_ask l b q (next_of m q) else None) ≡ Some x → link_of q.block ≡ Some (kinds.LinkCommit b)
      by_open true e =
          let test = (when_asks _ _ _ x e).0 in
          let whole = (both (needs_link q (next_of m q)) _ test).1 in
          in_hand q.block (both (is_slot q.block b) _ (both (q.emptied == block_words) _ whole).1).0
      by_open false e = absurd (absent x e)

  pub link_hand : (b : ℕ) → is_enabled m l rs r p (kinds.LinkCommit b) ≡ true → linked p.run ≡ Some (kinds.LinkCommit b)
  link_hand b e = let a = asked (kinds.LinkCommit b) e in link_by b p.run a.ask a.asked

  -- an event that no run makes is enabled outside a run
  pub asked_outside : (k : EventKind) (a : Asked k) → is_outside_kind k ≡ true → outside_ask m l rs r k p ≡ Some a.ask
  asked_outside k a h = outside_by k p.run a.ask h a.asked

  -- so the runner is in no run
  no_run_by : (k : EventKind) (o : Option RunState) (x : Spot × Access) → is_outside_kind k ≡ true → ask_by m l rs r k p o ≡ Some x → o ≡ None
  no_run_by k None x h e = refl
  no_run_by k (Some q) x h e = absurd (not_inside k q p.nodes.free p.blocks.free x h e)

  pub no_run : (k : EventKind) (a : Asked k) → is_outside_kind k ≡ true → p.run ≡ None
  no_run k a h = no_run_by k p.run a.ask h a.asked

  -- a runner that is idle or entered asks for this outside a run
  pub resting_asks : (k : EventKind) (x : Spot × Access) → is_resting p.stage p.run ≡ true → ask_by m l rs r k p None ≡ Some x → ask_by m l rs r k p p.run ≡ Some x
  resting_asks k x rest e = ap (ask_by m l rs r k p) (rests p.run p.stage rest) ∙ e
