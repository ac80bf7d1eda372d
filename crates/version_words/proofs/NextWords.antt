-- Where a run's code finds the next word of its log, and how many words were agreed on where it commits one.
use Rattle.std.proofs.Common.{◌≡◌, ℕ, zero, suc, ◌-◌, ◌*◌, ◌<◌, ◌≤◌, List, length, Bool, true, false, refl, sym, ap, subst, ◌∙◌, eq-eqb, ne_eqb, arith, Some, None, if◌then◌else◌}
use Rattle.std.specs.Prelude.{◌/◌, ◌%◌, nat_lt, not, slice_index}
use Rattle.std.proofs.lemmas.Option.{none-some}
use Rattle.atomic_table.specs.Table.{Me}
use Rattle.atomic_table.specs.Seated.{TableId}
use Rattle.machine_states.specs.body_terms.specs.declared.thunk.Thunk.{Thunk}
use Rattle.machine_states.specs.body_terms.specs.declared.micro.Micro.{Micro}
use Rattle.machine_states.specs.body_terms.specs.declared.micro.Micro.TheVariants as micros
use Rattle.machine_states.specs.body_terms.specs.Line.{micro_at}
use Rattle.machine_states.specs.epoch_core.specs.small_lemmas.proofs.Numbers.{tested_less}
use Rattle.machine_states.specs.table_words.specs.declared.spot.Spot.{Spot}
use Rattle.machine_states.specs.table_words.specs.declared.spot.Spot.TheVariants as spots
use Rattle.machine_states.specs.table_words.specs.declared.access.Access.{Access}
use Rattle.machine_states.specs.table_words.specs.declared.access.Access.TheVariants.{Exchanges}
use Rattle.machine_states.specs.table_words.specs.Limits.{IsWithinLimits}
use Rattle.machine_states.specs.table_words.specs.Places.{part_words}
use Rattle.machine_states.specs.structure_laws.specs.Meaning.{Meaning}
use Rattle.machine_states.specs.structure_laws.specs.Laws.{Laws}
use Rattle.machine_states.specs.body_terms.specs.block_words.specs.Blocks.{part_spot, log_spot}
use Rattle.machine_states.specs.runner_parts.specs.declared.event.EventKind.{EventKind}
use Rattle.machine_states.specs.runner_parts.specs.State.{RunState}
use Rattle.machine_states.specs.runner_steps.specs.Sections.{is_open_run, line_of, next_of, commits_to, is_beyond}
use Rattle.machine_states.specs.runner_steps.specs.InRun.{last_of, commit_to, commit_ask, outcome_commit_ask}
use Rattle.machine_states.specs.runner_steps.specs.Asks.{line_ask}
use Rattle.machine_invariant.specs.machine_blocks.specs.machine_guards.specs.machine_agreement.specs.machine_epochs.proofs.RunPlaces.{next_in_line}
use Rattle.machine_invariant.specs.machine_blocks.proofs.Words.{near_room}
use Rattle.machine_invariant.specs.After.{AreAllowed}
use Rattle.runner_block.specs.declared.place.RunPlace.{RunPlace}
use Rattle.runner_block.specs.declared.block.Block.{Block}
use Rattle.runner_block.specs.Links.{LinksKept}
use Rattle.version_words.specs.declared.view.View.{View}
use Rattle.version_words.specs.TableState.{TableState}
use Rattle.version_words.specs.Naming.{is_seat, is_plain}
use Rattle.version_words.specs.Place.{IsPlaced, AreLinks, KnowsPart, next_log, word_in_part, kept_log}
use Rattle.version_words.specs.ReachedWith.{ReachedWith, is_told}
use Rattle.version_words.specs.Kept.{IsKept}
use Rattle.version_words.specs.Events.{met_by, IsNamed, Makes, step_at, nothing, seen_seat}
use Rattle.version_words.proofs.Asked.{tested}
use Rattle.version_words.proofs.Founds.{word_few, word_next}
use Rattle.version_words.proofs.Inside.{is_inner, opened_run, line_asked, opened_all}
use Rattle.version_words.proofs.Shows.{seen_before}

-- the part behind so many links is the last one's
part_of_last : (d : ℕ) (xs : List ℕ) (n j : ℕ) → length xs ≡ n → word_in_part d (last_of xs) j ≡ part_spot d xs n j
part_of_last d xs zero j e = ap (λ (b : Bool). word_in_part d (if b then None else Some (slice_index xs (length xs - 1))) j) (eq-eqb (length xs) 0 e)
part_of_last d xs (suc i) j e =
    ap (λ (b : Bool). word_in_part d (if b then None else Some (slice_index xs (length xs - 1))) j) (ne_eqb (length xs) 0 (λ none. omega (arith, e, none)))
    ∙ ap (λ (k : ℕ). spots.BlockWord (slice_index xs k) j) (let at : length xs - 1 ≡ i = omega (arith, e) in at)

-- no word of a log is the seat word
part_apart : (d : ℕ) (xs : List ℕ) (i j : ℕ) → is_seat (part_spot d xs i j) ≡ false
part_apart d xs zero j = refl
part_apart d xs (suc i) j = refl

module _ (place : RunPlace) (links : LinksKept) (q : RunState) (placed : IsPlaced place q) (are : AreLinks links q) where
  -- the last part begins where the next word stands, or before
  begins : links.start ≤ place.agreed
  begins = let a = are.start in let b = placed.agreed in let c = are.full in omega (arith, a, b, c)

  module _ (near : is_beyond q (Some (length q.trail)) ≡ false) where
    abbrev n : ℕ
    n = length q.trail

    -- the next word stands in the last part
    part_is : n / part_words ≡ length q.links
    part_is = let low = are.full in let high = near_room q n near in omega (arith, low, high)

    word_is : n % part_words ≡ n - part_words * length q.links
    word_is = let low = are.full in let high = near_room q n near in omega (arith, low, high)

    in_last : word_in_part place.descriptor links.last (place.agreed - links.start) ≡ log_spot q.descriptor q.links n
    in_last = (λ i. word_in_part (placed.descriptor i) (are.last i) (placed.agreed i - are.start i))
        ∙ (part_of_last q.descriptor q.links (length q.links) (n - part_words * length q.links) refl
        ∙ (λ i. part_spot q.descriptor q.links (sym part_is i) (sym word_is i)))

    in_first : n < part_words → spots.LogWord place.descriptor place.agreed ≡ log_spot q.descriptor q.links n
    in_first few =
        let part : n / part_words ≡ 0 = omega (arith, few) in let word : n % part_words ≡ n = omega (arith, few) in
        (λ i. spots.LogWord (placed.descriptor i) (placed.agreed i)) ∙ (λ i. part_spot q.descriptor q.links (sym part i) (sym word i))

    -- and there the code finds it
    kept_is : kept_log place links ≡ log_spot q.descriptor q.links n
    kept_is = by (nat_lt place.agreed part_words) refl
      where
        by : (b : Bool) → nat_lt place.agreed part_words ≡ b
            → (if b then spots.LogWord place.descriptor place.agreed else word_in_part place.descriptor links.last (place.agreed - links.start)) ≡ log_spot q.descriptor q.links n
        by true low = in_first (subst (λ (k : ℕ). k < part_words) placed.agreed (tested_less place.agreed part_words low))
        by false low = in_last

-- what a runner's code keeps of its run
module _ {T : Type 0} (mean : T → Meaning) (number : ℕ) (kept : Block) (own_table : TableId) (me : Me Thunk (View T)) (was : IsKept mean number kept me) (q : RunState) (there : me.0.part.run ≡ Some q) where
  placed : IsPlaced kept.place q
  placed = was.place.run q there

  are : AreLinks kept.lists.blocks.links q
  are = was.blocks.links.of_run q there

  pub part_begins : kept.lists.blocks.links.start ≤ kept.place.agreed
  part_begins = begins kept.place kept.lists.blocks.links q placed are

  module _ (near : KnowsPart me.0.part.run) (spot : Spot) (spot_is : spot ≡ kept_log kept.place kept.lists.blocks.links) where
    found_at : spot ≡ log_spot q.descriptor q.links (length q.trail)
    found_at = spot_is ∙ kept_is kept.place kept.lists.blocks.links q placed are (near q there)

    -- its next step, on the word that the code finds, is the event of this kind
    pub next_named : (m : Meaning) (k : EventKind) (t : TableState T) (new : ℕ) → is_plain me.0.layout me.0.part k ≡ true
        → met_by m (seen_seat own_table me) k ≡ Some (next_log me.0.part.run, Exchanges 0 new)
        → IsNamed m (λ m' l' rs' p' made. k) (seen_seat own_table me) (step_at m t spot 0 new nothing) (spot, Exchanges 0 new)
    next_named m k t new plain next = record {
      asked = next ∙ ap (λ (z : Spot). Some (z, Exchanges 0 new)) (ap next_log there ∙ sym found_at);
      plain = plain;
    }

    pub next_apart : is_seat spot ≡ false
    next_apart = ap is_seat found_at ∙ part_apart q.descriptor q.links (length q.trail / part_words) (length q.trail % part_words)

-- this step of a line commits to a word of the log, by an exchange
pub record CommitsAt (micro : Micro) (x : Spot × Access) : Type 0 where
  pub log : ℕ
  pub at : commits_to micro ≡ Some log
  pub told : is_told x.1 ≡ true

exchanged : (q : RunState) (log proposal : ℕ) (x : Spot × Access) → commit_to q log proposal ≡ Some x → is_told x.1 ≡ true
exchanged q log proposal x e = ap (λ (y : Spot × Access). is_told y.1) (sym (tested (not (is_beyond q (Some log))) (log_spot q.descriptor q.links log) (Exchanges 0 proposal) x e).1)

pub word_commits : (q : RunState) (micro : Micro) (x : Spot × Access) → commit_ask q micro ≡ Some x → CommitsAt micro x
word_commits q (micros.Commit place log) x e = record { log = log; at = refl; told = exchanged q log q.word x e }
word_commits q (micros.NestedCommit place log) x e = record { log = log; at = refl; told = exchanged q log q.word x e }
word_commits q _ x e = absurd (none-some x e)

pub outcome_commits : (q : RunState) (micro : Micro) (x : Spot × Access) → outcome_commit_ask q micro ≡ Some x → CommitsAt micro x
outcome_commits q (micros.OutcomeCommit place log) x e = record { log = log; at = refl; told = exchanged q log q.word x e }
outcome_commits q _ x e = absurd (none-some x e)

-- the commit before which a run stands is that of its line
commit_in_line : (m : Meaning) (q : RunState) (micro : Micro) (k : ℕ) → next_of m q ≡ micro → commits_to micro ≡ Some k → commits_to (micro_at (line_of m q) q.at) ≡ Some k
commit_in_line m q (micros.Commit place log) k next e = ap commits_to (next_in_line m q (micros.Commit place log) refl next) ∙ e
commit_in_line m q (micros.NestedCommit place log) k next e = ap commits_to (next_in_line m q (micros.NestedCommit place log) refl next) ∙ e
commit_in_line m q (micros.OutcomeCommit place log) k next e = ap commits_to (next_in_line m q (micros.OutcomeCommit place log) refl next) ∙ e
commit_in_line m q (micros.MakeCommit log) k next e = ap commits_to (next_in_line m q (micros.MakeCommit log) refl next) ∙ e
commit_in_line m q (micros.RetireCommit slot log) k next e = ap commits_to (next_in_line m q (micros.RetireCommit slot log) refl next) ∙ e
commit_in_line m q _ k next e = absurd (none-some k e)

-- an exchange of a run that stands before a commit: its state told that the commit goes to the log word behind those on
-- which the run has agreed, and that is one of the first 64
module _ {T : Type 0} (m : Meaning) (laws : Laws m) (k : EventKind) (found : ℕ) (old_table new_table : TableId) (me me' : Me Thunk (View T)) (made : Makes m k found (seen_seat old_table me) (seen_seat new_table me'))
    (limits : IsWithinLimits me'.0.layout) (allowed : AreAllowed me'.0.requests) (told : is_told made.met.1 ≡ true)
    (q : RunState) (there : me.0.part.run ≡ Some q) (ready : is_open_run q ≡ true) (log : ℕ) (at : commits_to (next_of m q) ≡ Some log) where
  shown_before : ReachedWith m me'.0.layout me'.0.requests me'.0.number me.0.part made.met.0 found
  shown_before = seen_before m me'.0.layout me'.0.requests me'.0.number k me.0.part me'.0.part made.met found made.shown told

  in_line : commits_to (micro_at (line_of m q) q.at) ≡ Some log
  in_line = commit_in_line m q (next_of m q) log refl at

  pub next_agreed : log ≡ length q.trail
  next_agreed = word_next m laws me'.0.layout me'.0.requests me'.0.number me.0.part made.met.0 found limits allowed shown_before q there log (opened_all q ready) in_line

  pub few_agreed : length q.trail < 64
  few_agreed = subst (λ (n : ℕ). n < 64) next_agreed
      (word_few m laws me'.0.layout me'.0.requests me'.0.number me.0.part made.met.0 found limits allowed shown_before q there q.at log (opened_all q ready) in_line)

-- so the count fits where a run has committed a loaded word
pub commit_low : {T : Type 0} (mean : T → Meaning) (s : T) (k : EventKind) (found number : ℕ) (kept : Block) (old_table new_table : TableId) (me me' : Me Thunk (View T))
    → Makes (mean s) k found (seen_seat old_table me) (seen_seat new_table me') → IsKept mean number kept me → is_inner k ≡ true
    → ((q : RunState) (micro : Micro) (x : Spot × Access) → line_ask (mean s) me.0.layout k me.0.part.nodes.free me.0.part.blocks.free q micro ≡ Some x → CommitsAt micro x)
    → Laws (mean s) → IsWithinLimits me'.0.layout → AreAllowed me'.0.requests → kept.place.agreed < 64
commit_low mean s k found number kept old_table new_table me me' made was inner commits laws limits allowed =
    let opens = opened_run (mean s) me.0.layout me.0.requests me.0.number k me.0.part made.met inner made.asked in
    let asked = line_asked (mean s) (seen_seat old_table me) k opens.run made.met inner opens.there made.asked in
    let at = commits opens.run (next_of (mean s) opens.run) made.met asked in
    let low = few_agreed (mean s) laws k found old_table new_table me me' made limits allowed at.told opens.run opens.there opens.ready at.log at.at in
    let same = (was.place.run opens.run opens.there).agreed in omega (arith, low, same)
