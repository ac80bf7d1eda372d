-- A walk over the board, word by word.
use Rattle.std.specs.Prelude.{◌==◌, ◌&&◌, ◌||◌, not, nat_lt, cond, Bool, true, false}
use Rattle.std.proofs.Common.{◌≡◌, ◌≢◌, ℕ, zero, suc, get_or, ◌+◌, ◌-◌, ◌<◌, ◌≤◌, List, [], ◌∷◌, ◌++◌, length, length-append, refl, sym, ap, subst, ◌∙◌, eq-eqb, arith, Option, Some, None, ◌⊎◌, inl, inr, ⊎_elim}
use Rattle.std.proofs.lemmas.Bool.Decides.{nat_tests}
use Rattle.machine_states.specs.body_terms.specs.Word.{value_of}
use Rattle.machine_states.specs.table_words.specs.declared.layout.Layout.{Layout}
use Rattle.machine_states.specs.table_words.specs.declared.spot.Spot.TheVariants.{Board}
use Rattle.machine_states.specs.table_words.specs.declared.spot.Spot.{Spot}
use Rattle.machine_states.specs.table_words.specs.declared.access.Access.{Access}
use Rattle.machine_states.specs.table_words.specs.declared.access.Access.TheVariants.{Loads, Exchanges}
use Rattle.machine_states.specs.table_words.specs.Access.{wins}
use Rattle.machine_states.specs.table_words.specs.Limits.{IsWithinLimits}
use Rattle.machine_states.specs.table_words.specs.Places.{board_words}
use Rattle.machine_states.specs.structure_laws.specs.Meaning.{Meaning}
use Rattle.machine_states.specs.structure_laws.specs.Laws.{Laws}
use Rattle.machine_states.specs.runner_parts.specs.declared.entries.BoardRead.{BoardRead}
use Rattle.machine_states.specs.runner_parts.specs.declared.entries.Tried.{Tried}
use Rattle.machine_states.specs.runner_parts.specs.declared.entries.Tried.TheVariants as tries
use Rattle.machine_states.specs.runner_parts.specs.declared.event.EventKind.{EventKind}
use Rattle.machine_states.specs.runner_parts.specs.declared.event.EventKind.TheVariants as kinds
use Rattle.machine_states.specs.runner_parts.specs.State.{NodesState}
use Rattle.machine_states.specs.runner_parts.specs.Tests.{has, is_some_of, is_between}
use Rattle.machine_states.specs.runner_parts.specs.Lists.{without, slot_given, slot_drawn, tried_as, board_tried}
use Rattle.machine_states.specs.runner_steps.specs.Outside.{when}
use Rattle.machine_states.specs.runner_steps.specs.Board.{may_use, last_read, free_if}
use Rattle.machine_states.specs.runner_steps.specs.After.{outside_after}
use Rattle.machine_states.specs.runner_steps.specs.Blocks.{blocks_outside}
use Rattle.machine_states.specs.epoch_core.specs.Lists.{times}
use Rattle.machine_states.specs.epoch_core.specs.declared.stage.Stage.TheVariants as stages
use Rattle.version_words.specs.machine_invariant.specs.After.{AreAllowed}
use Rattle.reached_histories.specs.machine_facts.specs.machine_agreement.specs.machine_epochs.proofs.BoardAsked as asked
use Rattle.version_words.specs.RunnerState.{RunnerState}
use Rattle.version_words.specs.Events.{IsEnabled, Makes, Tries}
use Rattle.version_words.proofs.Asked.{outer}
use Rattle.version_words.proofs.Bounds.{node_once}
use Rattle.version_words.proofs.Stages.{enabled, made_at}
use Rattle.epoch_slots.specs.Board.{MayUseBoard, KeepsAside, TakesSo, GivesSo, Visits, TakesOne, GivesOne, Draws, Spares, HasDrawn, HasSpared, behind}
use Rattle.epoch_slots.proofs.Outside.{nodes_made, descriptors_made, blocks_made, guards_made, known_made, finished_made}

below : (a b : ℕ) → a < b → nat_lt a b ≡ true
below a b low = grind (arith, nat_tests)

some_test : (n : ℕ) → n ≢ 0 → not (n == 0) ≡ true
some_test n ne = grind (arith, nat_tests)

has_index : (xs : List ℕ) (i : ℕ) → i < length xs → has xs (get_or xs i 0) ≡ true
has_index [] i low = absurd (omega (arith, low))
has_index (x ∷ xs) zero low = first x (has xs x)
  where
    first : (x : ℕ) (b : Bool) → (x == x || b) ≡ true
    first x b = grind (arith, nat_tests)
has_index (x ∷ xs) (suc i) low = later (x == get_or xs i 0) (has xs (get_or xs i 0)) (has_index xs i (omega (arith, low)))
  where
    later : (a b : Bool) → b ≡ true → (a || b) ≡ true
    later true b e = refl
    later false b e = e

-- a slot that is taken comes to the free ones
more_free : (won : Bool) (n : NodesState) (slot : ℕ) → length n.free ≤ length (free_if won (slot_drawn n slot) n).free
more_free true n slot = let e = length-append n.free (slot ∷ []) in let more : length n.free ≤ length (n.free ++ slot ∷ []) = omega (arith, e) in more
more_free false n slot = let same : length n.free ≤ length n.free = omega arith in same

-- a list without a number that stood there at most once has at most one entry less
pub one_less : (xs : List ℕ) (x : ℕ) → length (without xs x) + times x xs ≡ length xs
one_less [] x = refl
one_less (y ∷ xs) x = by (y == x) (one_less xs x)
  where
    by : (b : Bool) → length (without xs x) + times x xs ≡ length xs
        → length (cond (not b) (y ∷ without xs x) (without xs x)) + cond b (1 + times x xs) (times x xs) ≡ suc (length xs)
    by true rest = omega (arith, rest)
    by false rest = omega (arith, rest)

module _ {T : Type 0} where
  pub aside_none : (r : RunnerState T) → KeepsAside r r
  aside_none r = record { number = refl; layout = refl; nodes = refl; descriptors = refl; blocks = refl; guards = refl; known = refl; finished = refl }

  pub aside_on : (a b c : RunnerState T) → KeepsAside a b → KeepsAside b c → KeepsAside a c
  aside_on a b c one two = record {
    number = two.number ∙ one.number;
    layout = two.layout ∙ one.layout;
    nodes = two.nodes ∙ ap (λ (n : NodesState). record n { free = c.part.nodes.free }) one.nodes;
    descriptors = two.descriptors ∙ one.descriptors;
    blocks = two.blocks ∙ one.blocks;
    guards = two.guards ∙ one.guards;
    known = two.known ∙ one.known;
    finished = two.finished ∙ one.finished;
  }

  module _ (m : Meaning) (r : RunnerState T) (ready : MayUseBoard r) where
    uses : may_use r.layout r.number r.part.stage ≡ true
    uses = ap (may_use r.layout r.number) ready.at.at ∙ below r.number r.layout.runners ready.worker

    pub may_board_load : (word : ℕ) → word < board_words → IsEnabled m (kinds.BoardLoad word) r
    may_board_load word few = enabled m r (kinds.BoardLoad word) (Board word, Loads) ready.at.present ready.at.resting
        (ap (λ (b : Bool). when b (Board word) Loads) uses) few

    pub may_board_take : (word link : ℕ) → word < board_words → link ≢ 0 → last_read r.part.board word ≡ Some link → IsEnabled m (kinds.BoardTake word link) r
    may_board_take word link few some read = enabled m r (kinds.BoardTake word link) (Board word, Exchanges link 0) ready.at.present ready.at.resting
        (ap (λ (b : Bool). when b (Board word) (Exchanges link 0)) (λ i. uses i && (some_test link some i && is i))) few
      where
        is : is_some_of (last_read r.part.board word) link ≡ true
        is = ap (λ (o : Option ℕ). is_some_of o link) read ∙ eq-eqb link link refl

    pub may_board_give : (word slot : ℕ) → word < board_words → has r.part.nodes.free slot ≡ true → IsEnabled m (kinds.BoardGive word slot) r
    may_board_give word slot few own = enabled m r (kinds.BoardGive word slot) (Board word, Exchanges 0 (slot + 1)) ready.at.present ready.at.resting
        (ap (λ (b : Bool). when b (Board word) (Exchanges 0 (slot + 1))) (λ i. uses i && own i)) few

  -- after an event on the board: where the runner is, and what it keeps
  module _ (m : Meaning) (k : EventKind) (found : ℕ) (r r' : RunnerState T) (made : Makes m k found r r') (ready : MayUseBoard r) where
    pub still_ready : (outside_after m r.layout k r.part found).gone ≡ r.part.gone → (outside_after m r.layout k r.part found).run ≡ r.part.run
        → (outside_after m r.layout k r.part found).stage ≡ r.part.stage → (outside_after m r.layout k r.part found).published ≡ r.part.published
        → (outside_after m r.layout k r.part found).reads ≡ r.part.reads → MayUseBoard r'
    still_ready gone run stage published reads = record {
      at = made_at m k found r r' made ready.at.resting stages.Idle None ready.at.seated (gone ∙ ready.at.present) (run ∙ ready.at.resting) (stage ∙ ready.at.at)
          (published ∙ ready.at.published) (ap (λ y. is_between y.look) reads ∙ ready.at.settled);
      worker = subst (λ (y : RunnerState T). y.number < y.layout.runners) (sym made.made) ready.worker;
    }

    pub keeps_aside : (free : List ℕ) → (outside_after m r.layout k r.part found).nodes ≡ record (r.part.nodes) { free = free }
        → (outside_after m r.layout k r.part found).descriptors ≡ r.part.descriptors → blocks_outside m r.layout k r.part found ≡ r.part.blocks
        → (outside_after m r.layout k r.part found).guards ≡ r.part.guards → (outside_after m r.layout k r.part found).records.known ≡ r.part.records.known → (outside_after m r.layout k r.part found).records.finished ≡ r.part.records.finished → KeepsAside r r'
    keeps_aside free nodes descriptors blocks guards known finished =
        let is : r'.part.nodes ≡ record (r.part.nodes) { free = free } = nodes_made m k found r r' made ready.at.resting ∙ nodes in
        record {
          number = ap (λ (y : RunnerState T). y.number) made.made;
          layout = ap (λ (y : RunnerState T). y.layout) made.made;
          nodes = is ∙ ap (λ (xs : List ℕ). record (r.part.nodes) { free = xs }) (ap (λ (n : NodesState). n.free) (sym is));
          descriptors = descriptors_made m k found r r' made ready.at.resting ∙ descriptors;
          blocks = blocks_made m k found r r' made ready.at.resting ∙ blocks;
          guards = guards_made m k found r r' made ready.at.resting ∙ guards;
          known = known_made m k found r r' made ready.at.resting ∙ known;
          finished = finished_made m k found r r' made ready.at.resting ∙ finished;
        }

  -- a word of the board was loaded
  module _ (m : Meaning) (word found : ℕ) (few : word < board_words) (r r1 : RunnerState T) (ready : MayUseBoard r) (load : Makes m (kinds.BoardLoad word) found r r1) where
    pub ready_loaded : MayUseBoard r1
    ready_loaded = still_ready m (kinds.BoardLoad word) found r r1 load ready refl refl refl refl refl

    aside_loaded : KeepsAside r r1
    aside_loaded = keeps_aside m (kinds.BoardLoad word) found r r1 load ready r.part.nodes.free refl refl refl refl refl refl

    kept_loaded : r1.part.board ≡ record { word = word; read = found; tried = tries.Not } ∷ r.part.board
    kept_loaded = ap (λ (y : RunnerState T). y.part.board) load.made

    pub read_loaded : last_read r1.part.board word ≡ Some found
    read_loaded = ap (λ (xs : List BoardRead). last_read xs word) kept_loaded ∙ ap (λ (b : Bool). cond b (Some found) (last_read r.part.board word)) (eq-eqb word word refl)

    same_nodes : r1.part.nodes ≡ r.part.nodes
    same_nodes = nodes_made m (kinds.BoardLoad word) found r r1 load ready.at.resting

    same_free : length r1.part.nodes.free ≡ length r.part.nodes.free
    same_free = ap (λ (n : NodesState). length n.free) same_nodes

    -- the last free slot is the runner's own
    pub given_own : (xs : List ℕ) → xs ≡ r1.part.nodes.free → r.layout.nodes < length r.part.nodes.free → has r1.part.nodes.free (get_or xs (length xs - 1) 0) ≡ true
    given_own xs is many =
        let same = same_free in let count : length xs ≡ length r1.part.nodes.free = ap length is in
        subst (λ (ys : List ℕ). has ys (get_or xs (length xs - 1) 0) ≡ true) is (has_index xs (length xs - 1) (omega (arith, count, same, many)))

    -- behind a give as many are left as the layout gives a worker, where there were more
    pub left_enough : Laws m → IsWithinLimits r1.layout → AreAllowed r1.requests → (slot : ℕ) → r.layout.nodes < length r.part.nodes.free
        → r1.layout.nodes ≤ length (slot_given r1.part.nodes slot).free
    left_enough laws limits allowed slot many =
        let same_layout = ap (λ (l : Layout). l.nodes) aside_loaded.layout in
        let once = node_once m r1.layout r1.requests r1.number (kinds.BoardLoad word) r.part r1.part load.met found load.shown laws limits allowed slot in
        let less = one_less r.part.nodes.free slot in
        subst (λ (n : NodesState). r1.layout.nodes ≤ length (slot_given n slot).free) (sym same_nodes) (omega (arith, same_layout, once, less, many))

    -- a 0 is no slot
    pub taken_none : found ≡ 0 → TakesOne m word r r1
    taken_none none = record {
      entry = record { word = word; read = found; tried = tries.Not };
      visit = record { loaded = r1; named = refl; load = load; exchange = (none, refl); kept = kept_loaded };
      more = (let same = same_free in omega (arith, same));
      ready = ready_loaded;
      keeps = aside_loaded;
    }

    pub given_none : found ≢ 0 → GivesOne m word r r1
    given_none some = record {
      entry = record { word = word; read = found; tried = tries.Not };
      visit = record { loaded = r1; named = refl; load = load; exchange = (some, refl); kept = kept_loaded };
      left = inl (let same = same_free in omega (arith, same));
      ready = ready_loaded;
      keeps = aside_loaded;
    }

    -- the load before it has an exchange now
    tried_now : (won : Bool) (board : List BoardRead) → board ≡ board_tried r1.part.board word won → board ≡ record { word = word; read = found; tried = tried_as won } ∷ r.part.board
    tried_now won board is = is ∙ (ap (λ (xs : List BoardRead). board_tried xs word won) kept_loaded
        ∙ ap (λ (b : Bool). cond b (record { word = word; read = found; tried = tried_as won } ∷ r.part.board)
        (record { word = word; read = found; tried = tries.Not } ∷ board_tried r.part.board word won)) (eq-eqb word word refl))

    -- its slot was to be taken
    module _ (won : Bool) (r2 : RunnerState T) (some : found ≢ 0) (tried : Tries m (kinds.BoardTake word found) won r1 r2) where
      met_is : (Board word, Exchanges found 0) ≡ tried.event.met
      met_is = (asked.board_take_asked r1.layout r1.number word found r1.part tried.event.met
          (outer m r1.layout r1.requests r1.number (kinds.BoardTake word found) r1.part tried.event.met refl tried.event.asked).1).is

      won_is : (tried.found == found) ≡ won
      won_is = ap (λ (x : Spot × Access). wins x.1 tried.found) met_is ∙ sym tried.told

      takes : (b : Bool) → Tries m (kinds.BoardTake word found) b r1 r2 → TakesSo m word found (tried_as b) r1 r2
      takes true t = (some, t)
      takes false t = (some, t)

      taken_more : length r.part.nodes.free ≤ length r2.part.nodes.free
      taken_more =
          let now : r2.part.nodes ≡ free_if (tried.found == found) (slot_drawn r1.part.nodes (value_of (found - 1))) r1.part.nodes
          = nodes_made m (kinds.BoardTake word found) tried.found r1 r2 tried.event ready_loaded.at.resting in
          let grown : length r1.part.nodes.free ≤ length r2.part.nodes.free
          = subst (λ (n : NodesState). length r1.part.nodes.free ≤ length n.free) (sym now) (more_free (tried.found == found) r1.part.nodes (value_of (found - 1))) in
          let same = same_free in omega (arith, same, grown)

      pub taken_one : TakesOne m word r r2
      taken_one = record {
        entry = record { word = word; read = found; tried = tried_as won };
        visit = record {
          loaded = r1;
          named = refl;
          load = load;
          exchange = takes won tried;
          kept = tried_now won r2.part.board (ap (λ (y : RunnerState T). y.part.board) tried.event.made ∙ ap (board_tried r1.part.board word) won_is);
        };
        more = taken_more;
        ready = still_ready m (kinds.BoardTake word found) tried.found r1 r2 tried.event ready_loaded refl refl refl refl refl;
        keeps = aside_on r r1 r2 aside_loaded (keeps_aside m (kinds.BoardTake word found) tried.found r1 r2 tried.event ready_loaded _ refl refl refl refl refl refl);
      }

    -- a slot was to be given
    module _ (slot : ℕ) (won : Bool) (r2 : RunnerState T) (none : found ≡ 0) (tried : Tries m (kinds.BoardGive word slot) won r1 r2) where
      give_met : (Board word, Exchanges 0 (slot + 1)) ≡ tried.event.met
      give_met = (asked.board_give_asked r1.layout r1.number word slot r1.part tried.event.met
          (outer m r1.layout r1.requests r1.number (kinds.BoardGive word slot) r1.part tried.event.met refl tried.event.asked).1).is

      give_won : (tried.found == 0) ≡ won
      give_won = ap (λ (x : Spot × Access). wins x.1 tried.found) give_met ∙ sym tried.told

      gives : (b : Bool) → Tries m (kinds.BoardGive word slot) b r1 r2 → GivesSo m word found (tried_as b) r1 r2
      gives true t = (none, slot, t)
      gives false t = (none, slot, t)

      pub given_one : Laws m → IsWithinLimits r1.layout → AreAllowed r1.requests → r.layout.nodes < length r.part.nodes.free → GivesOne m word r r2
      given_one laws limits allowed many = record {
        entry = record { word = word; read = found; tried = tried_as won };
        visit = record {
          loaded = r1;
          named = refl;
          load = load;
          exchange = gives won tried;
          kept = tried_now won r2.part.board (ap (λ (y : RunnerState T). y.part.board) tried.event.made ∙ ap (board_tried r1.part.board word) give_won);
        };
        left = leaves (tried.found == 0) (nodes_made m (kinds.BoardGive word slot) tried.found r1 r2 tried.event ready_loaded.at.resting);
        ready = still_ready m (kinds.BoardGive word slot) tried.found r1 r2 tried.event ready_loaded refl refl refl refl refl;
        keeps = aside_on r r1 r2 aside_loaded (keeps_aside m (kinds.BoardGive word slot) tried.found r1 r2 tried.event ready_loaded _ refl refl refl refl refl refl);
      }
        where
          leaves : (b : Bool) → r2.part.nodes ≡ free_if b (slot_given r1.part.nodes slot) r1.part.nodes
              → (length r.part.nodes.free ≤ length r2.part.nodes.free) ⊎ (r2.layout.nodes ≤ length r2.part.nodes.free)
          leaves true now = inr (
              let count : length r2.part.nodes.free ≡ length (slot_given r1.part.nodes slot).free = ap (λ (n : NodesState). length n.free) now in
              let same : r2.layout.nodes ≡ r1.layout.nodes = ap (λ (y : RunnerState T). y.layout.nodes) tried.event.made in
              let enough = left_enough laws limits allowed slot many in omega (arith, count, same, enough))
          leaves false now = inl (
              let count : length r2.part.nodes.free ≡ length r1.part.nodes.free = ap (λ (n : NodesState). length n.free) now in
              let same = same_free in omega (arith, count, same))

-- one more load at the end is the latest
behind_more : (xs : List BoardRead) (x : BoardRead) (board : List BoardRead) → behind (xs ++ x ∷ []) board ≡ x ∷ behind xs board
behind_more [] x board = refl
behind_more (y ∷ xs) x board = behind_more xs x (y ∷ board)

-- one more word
module _ {T : Type 0} (m : Meaning) where
  draws_more : (n : ℕ) (found : List BoardRead) (next : ℕ) (x : BoardRead) (r s r' : RunnerState T) → Draws m n next found r s → length s.part.nodes.free < n
      → Visits m (TakesSo m) (next + length found) x s r' → Draws m n next (found ++ x ∷ []) r r'
  draws_more n [] next x r s r' same few visit = subst (λ y. Draws m n next (x ∷ []) y r') same
      (r', few, subst (λ i. Visits m (TakesSo m) i x s r') (let e : next + 0 ≡ next = omega arith in e) visit, refl)
  draws_more n (y ∷ found) next x r s r' (z, low, one, rest) few visit =
      (z, low, one, draws_more n found (next + 1) x z s r' rest few (subst (λ i. Visits m (TakesSo m) i x s r') (let e : next + suc (length found) ≡ next + 1 + length found = omega arith in e) visit))

  spares_more : (found : List BoardRead) (next : ℕ) (x : BoardRead) (r s r' : RunnerState T) → Spares m next found r s → s.layout.nodes < length s.part.nodes.free
      → Visits m (GivesSo m) (next + length found) x s r' → Spares m next (found ++ x ∷ []) r r'
  spares_more [] next x r s r' same many visit = subst (λ y. Spares m next (x ∷ []) y r') same
      (r', many, subst (λ i. Visits m (GivesSo m) i x s r') (let e : next + 0 ≡ next = omega arith in e) visit, refl)
  spares_more (y ∷ found) next x r s r' (z, low, one, rest) many visit =
      (z, low, one, spares_more found (next + 1) x z s r' rest many (subst (λ i. Visits m (GivesSo m) i x s r') (let e : next + suc (length found) ≡ next + 1 + length found = omega arith in e) visit))

  pub draw_begins : (n : ℕ) (r : RunnerState T) → MayUseBoard r → HasDrawn m n 0 r r
  draw_begins n r ready = record { found = []; each = refl; draws = refl; more = omega arith; kept = refl; ready = ready; keeps = aside_none r }

  pub spare_begins : (r : RunnerState T) → MayUseBoard r → HasSpared m 0 r r
  spare_begins r ready = record { found = []; each = refl; spares = refl; left = inl (omega arith); kept = refl; ready = ready; keeps = aside_none r }

  module _ (count : ℕ) (old r r' : RunnerState T) where
    pub draw_more : (n : ℕ) → HasDrawn m n count old r → length r.part.nodes.free < n → TakesOne m count r r' → HasDrawn m n (count + 1) old r'
    draw_more n so few one = record {
      found = so.found ++ one.entry ∷ [];
      each = length-append so.found (one.entry ∷ []) ∙ (let e = so.each in omega (arith, e));
      draws = draws_more n so.found 0 one.entry old r r' so.draws few (subst (λ i. Visits m (TakesSo m) i one.entry r r') (let a = so.each in let e : count ≡ 0 + length so.found = omega (arith, a) in e) one.visit);
      more = (let was = so.more in let now = one.more in omega (arith, was, now));
      kept = one.visit.kept ∙ (ap (λ (xs : List BoardRead). one.entry ∷ xs) so.kept ∙ sym (behind_more so.found one.entry old.part.board));
      ready = one.ready;
      keeps = aside_on old r r' so.keeps one.keeps;
    }

    pub spare_more : HasSpared m count old r → r.layout.nodes < length r.part.nodes.free → GivesOne m count r r' → HasSpared m (count + 1) old r'
    spare_more so many one = record {
      found = so.found ++ one.entry ∷ [];
      each = length-append so.found (one.entry ∷ []) ∙ (let e = so.each in omega (arith, e));
      spares = spares_more so.found 0 one.entry old r r' so.spares many (subst (λ i. Visits m (GivesSo m) i one.entry r r') (let a = so.each in let e : count ≡ 0 + length so.found = omega (arith, a) in e) one.visit);
      left = ⊎_elim
          (λ now. ⊎_elim (λ was. inl (omega (arith, was, now))) (λ room. inr (let same : r'.layout.nodes ≡ r.layout.nodes = ap (λ (l : Layout). l.nodes) one.keeps.layout in omega (arith, same, room, now))) so.left)
          (λ room. inr room) one.left;
      kept = one.visit.kept ∙ (ap (λ (xs : List BoardRead). one.entry ∷ xs) so.kept ∙ sym (behind_more so.found one.entry old.part.board));
      ready = one.ready;
      keeps = aside_on old r r' so.keeps one.keeps;
    }

-- what each step on the board keeps, a walk over the board keeps
module _ {T : Type 0} (m : Meaning) (Keeps : RunnerState T → RunnerState T → Type 0) (stays : (a b : RunnerState T) → b ≡ a → Keeps a b)
    (goes_on : (a b c : RunnerState T) → Keeps a b → Keeps b c → Keeps a c)
    (loads : (word found : ℕ) (a b : RunnerState T) → Makes m (kinds.BoardLoad word) found a b → Keeps a b)
    (takes : (word link found : ℕ) (a b : RunnerState T) → Makes m (kinds.BoardTake word link) found a b → Keeps a b)
    (gives : (word slot found : ℕ) (a b : RunnerState T) → Makes m (kinds.BoardGive word slot) found a b → Keeps a b) where
  takes_keep : (word read : ℕ) (tried : Tried) (a b : RunnerState T) → TakesSo m word read tried a b → Keeps a b
  takes_keep word read tries.Not a b x = stays a b x.1
  takes_keep word read tries.Won a b x = takes word read x.1.found a b x.1.event
  takes_keep word read tries.Lost a b x = takes word read x.1.found a b x.1.event

  gives_keep : (word read : ℕ) (tried : Tried) (a b : RunnerState T) → GivesSo m word read tried a b → Keeps a b
  gives_keep word read tries.Not a b x = stays a b x.1
  gives_keep word read tries.Won a b x = gives word x.1 x.2.found a b x.2.event
  gives_keep word read tries.Lost a b x = gives word x.1 x.2.found a b x.2.event

  pub draw_keeps : (word : ℕ) (x : BoardRead) (a b : RunnerState T) → Visits m (TakesSo m) word x a b → Keeps a b
  draw_keeps word x a b v = goes_on a v.loaded b (loads word x.read a v.loaded v.load) (takes_keep word x.read x.tried v.loaded b v.exchange)

  pub spare_keeps : (word : ℕ) (x : BoardRead) (a b : RunnerState T) → Visits m (GivesSo m) word x a b → Keeps a b
  spare_keeps word x a b v = goes_on a v.loaded b (loads word x.read a v.loaded v.load) (gives_keep word x.read x.tried v.loaded b v.exchange)

  pub draws_keep : (n next : ℕ) (found : List BoardRead) (a b : RunnerState T) → Draws m n next found a b → Keeps a b
  draws_keep n next [] a b same = stays a b same
  draws_keep n next (x ∷ xs) a b d = goes_on a d.0 b (draw_keeps next x a d.0 d.2) (draws_keep n (next + 1) xs d.0 b d.3)

  pub spares_keep : (next : ℕ) (found : List BoardRead) (a b : RunnerState T) → Spares m next found a b → Keeps a b
  spares_keep next [] a b same = stays a b same
  spares_keep next (x ∷ xs) a b d = goes_on a d.0 b (spare_keeps next x a d.0 d.2) (spares_keep (next + 1) xs d.0 b d.3)
