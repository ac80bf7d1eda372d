-- What a runner's step leaves of the logs, where its part is seen behind it.
use Rattle.std.specs.Prelude.{◌==◌, ◌/◌, ◌%◌, ◌^◌, ◌⊎◌, cond, slice_index, true, false}
use Rattle.std.proofs.Common.{◌≡◌, ◌≢◌, inl, inr, length, ℕ, suc, ◌+◌, ◌-◌, ◌<◌, ◌≤◌, List, [], ◌∷◌, ◌++◌, take, refl, sym, ap, ◌∙◌, subst, arith, Option, Some, None}
use Rattle.std.proofs.lemmas.Bool.{cases_eq, cases_lt}
use Rattle.std.proofs.lemmas.List.{take-append-le}
use Rattle.std.proofs.Math.Seq.{take-length}
use Rattle.block_words.specs.Blocks.{link_spot, log_spot, room, link_at, HasBlocks, IsEmpty, IsPrefix}
use Rattle.block_words.proofs.Parts.{found_block}
use Rattle.block_words.proofs.Prefixes.{no_more, same_spot, log_word, link_word, last, next}
use Rattle.machine_states.specs.epoch_core.specs.small_lemmas.proofs.Numbers.{equal_tested, other_tested, self_tested, less_tested, not_less_tested}
use Rattle.machine_states.specs.body_terms.specs.Run.{written_once}
use Rattle.machine_states.specs.body_terms.specs.Word.{value_of}
use Rattle.machine_states.specs.table_words.specs.declared.layout.Layout.{Layout}
use Rattle.machine_states.specs.table_words.specs.declared.spot.Spot.{Spot}
use Rattle.machine_states.specs.table_words.specs.declared.spot.Spot.TheVariants.{LogWord, LinkWord, BlockWord, BlockLink}
use Rattle.machine_states.specs.table_words.specs.declared.access.Access.{Access}
use Rattle.machine_states.specs.table_words.specs.declared.access.Access.TheVariants.{Stores, Exchanges}
use Rattle.machine_states.specs.table_words.specs.Access.{written}
use Rattle.machine_states.specs.table_words.specs.Places.{part_words, block_words, block_count}
use Rattle.machine_states.specs.table_words.specs.Seen.{put, upd}
use Rattle.machine_states.specs.table_words.proofs.Seen.{put_here, put_elsewhere}
use Rattle.machine_states.specs.structure_laws.specs.Meaning.{Meaning}
use Rattle.machine_states.specs.runner_parts.specs.State.{RunState, PartState}
use Rattle.machine_states.specs.runner_parts.specs.Tests.{has}
use Rattle.machine_states.specs.runner_steps.specs.Outside.{is_sure_of, block_spot}
use Rattle.machine_states.specs.runner_steps.specs.Sections.{is_beyond}
use Rattle.machine_states.specs.runner_steps.specs.AfterInRun.{emptied_more}
use Rattle.machine_states.specs.epoch_core.specs.Lists.{times}
use Rattle.machine_states.specs.epoch_core.specs.Update.{upd2}
use Rattle.machine_states.specs.epoch_core.specs.State.{EpochState}
use Rattle.machine_states.specs.epoch_core.specs.Events as epochs
use Rattle.machine_states.specs.epoch_core.specs.Schedules as epoch_schedules
use Rattle.agreement_core.specs.State.{AgreementState}
use Rattle.agreement_core.specs.Events as agreement
use Rattle.machine_states.specs.Sight.{Sight}
use Rattle.machine_states.proofs.Updates.{upd_split, put_same}
use Rattle.machine_guards.specs.machine_agreement.specs.machine_epochs.specs.Entries.{counts_of}
use Rattle.machine_guards.specs.machine_agreement.specs.machine_epochs.specs.Joined.{IsJoinedToEpochs}
use Rattle.machine_guards.specs.machine_agreement.specs.Joined.{IsRunOf}
use Rattle.machine_guards.specs.Goes.{OthersGo}
use Rattle.machine_guards.specs.State.{hand_of}
use Rattle.machine_guards.specs.Stands.{times_held, GuardsStand}
use Rattle.machine_guards.proofs.Places.{AllAre}
use Rattle.machine_states.specs.runner_parts.specs.declared.event.EventKind.{EventKind}
use Rattle.machine_blocks.specs.Stands.{LogsStand}
use Rattle.machine_blocks.proofs.Events.{logs_of, leaves_logs, leaves_log, agreed_logs, logs_same, logs_after, log_same}
use Rattle.machine_blocks.proofs.Words.{LogWordsStay, near_room}
use Rattle.machine_blocks.proofs.Seen.{Seen, seen, seen_in, seen_hand}
use Rattle.machine_blocks.proofs.Apart as apart
use Rattle.machine_blocks.proofs.Apart.{IsHeld}
use Rattle.machine_blocks.proofs.Keeping as keeping
use Rattle.machine_blocks.proofs.Keeping.{Fine, fine, fine_kept, block_of_log, block_apart, apart_kept, link_here, part_here, zero_stays}

-- a block in the hand stands there
pub in_hand : (n b : ℕ) (o : Option ℕ) → o ≡ Some b → 1 ≤ n + times_held o b
in_hand n b o is = subst (λ h. 1 ≤ n + times_held h b) (sym is) (subst (λ k. 1 ≤ n + cond k 1 0) (sym (self_tested b)) (omega arith))

-- what is put where 0 was found
won_word : (found n : ℕ) → found ≡ 0 → cond (found == 0) n found ≡ n
won_word found n is = ap (λ k. cond k n found) (equal_tested found 0 is)

lost_word : (found n : ℕ) → found ≢ 0 → cond (found == 0) n found ≡ found
lost_word found n ne = ap (λ k. cond k n found) (other_tested found 0 ne)

-- the number of a block has 32 bits
same_value : (b most : ℕ) → b < most → most ≤ 2 ^ 32 → value_of b ≡ b
same_value b most few small = omega (arith, few, small)

module _ (m : Meaning) (l : Layout) (chain chain' : ℕ → List ℕ) (a a' : AgreementState) (e e' : EpochState) (s : Sight) (stands : GuardsStand m l chain a e s) (old : LogsStand chain a e s)
    (joined : IsJoinedToEpochs m l e s) (r : ℕ) (kind : EventKind) (x : Spot × Access) (go : OthersGo m l a a' e e' s r kind (s.word x.0)) (p' : PartState) where
  abbrev p : PartState
  p = s.part r

  abbrev found : ℕ
  found = s.word x.0

  abbrev f : Spot → ℕ
  f = put s.word x.0 (written x.1 found)

  abbrev pub next_sight : Sight
  next_sight = record { word = f; part = upd s.part r p' }

  abbrev pub Stand : Type 0
  Stand = LogsStand chain' a' e' next_sight

  abbrev pub Held : ℕ → Type 0
  Held = IsHeld m l chain a e s stands

  -- of the own part alone it has to be shown
  pub own_held : ((d : ℕ) → is_sure_of p'.guards d ≡ true → Held d) → (i d : ℕ) → is_sure_of (upd s.part r p' i).guards d ≡ true → Held d
  own_held here i = upd_split s.part r p' (λ j y. (d : ℕ) → is_sure_of y.guards d ≡ true → Held d) here (λ j ne d is. (j, is)) i

  pub own_runs : ((v : Seen) → seen_in p'.run ≡ Some v → Fine chain' f v) → ((i : ℕ) (v : Seen) → i ≢ r → seen_in (s.part i).run ≡ Some v → Fine chain' f v)
      → (i : ℕ) (v : Seen) → seen_in (upd s.part r p' i).run ≡ Some v → Fine chain' f v
  own_runs here else i = upd_split s.part r p' (λ j y. (v : Seen) → seen_in y.run ≡ Some v → Fine chain' f v) here (λ j ne v is. else j v ne is) i

  -- who guards the same is sure of nothing else
  pub same_held : ((d : ℕ) → is_sure_of p'.guards d ≡ is_sure_of p.guards d) → (d : ℕ) → is_sure_of p'.guards d ≡ true → Held d
  same_held same d is = (r, sym (same d) ∙ is)

  -- the block in a hand is linked in no descriptor of which somebody is sure
  hand_off : (i b d : ℕ) (v : Seen) → seen_in (s.part i).run ≡ Some v → v.block ≡ Some b → Held d → has (chain d) b ≡ false
  hand_off i b d v is held sure = apart.unlinked m l chain a e s stands i b
      (in_hand (times b (s.part i).blocks.free) b (hand_of (s.part i).run) (seen_hand (s.part i).run v is ∙ held)) d sure

  module _ (held : (d : ℕ) → is_sure_of p'.guards d ≡ true → Held d) where
    -- a step that leaves the logs, and their words
    module _ (heads : AllAre leaves_logs go.heads) (tails : AllAre leaves_log go.tails) where
      abbrev logs : (d k : ℕ) → logs_of a' d k ≡ logs_of a d k
      logs = logs_same m l a a' r go.heads go.leads heads

      log : (d k : ℕ) → e'.log d k ≡ e.log d k
      log d k = ap (λ (w : EpochState). w.log d k) (sym go.there) ∙ ap (λ (g : ℕ → ℕ → ℕ). g d k) (log_same (counts_of m l) e go.tails tails)

      pub leaves : ((d : ℕ) → chain' d ≡ chain d) → LogWordsStay s.word x → ((v : Seen) → seen_in p'.run ≡ Some v → Fine chain s.word v) → Stand
      leaves linked words here = keeping.quiet m l chain chain' a a' e e' s next_sight stands old (own_held held)
          (own_runs (λ v is. kept v (here v is)) (λ i v ne is. kept v (fine chain a e s old i v is))) logs log linked words
        where
          kept : (v : Seen) → Fine chain s.word v → Fine chain' f v
          kept v = fine_kept chain chain' s.word f v (linked v.descriptor) (λ b j held' none. words (block_spot b j) (block_of_log b j) ∙ none)

      -- the link of a descriptor is written of which nobody is sure
      pub unlinks : (n v : ℕ) → ((d : ℕ) → chain' d ≡ chain d) → (LinkWord n, Stores v) ≡ x → ((d : ℕ) → Held d → d ≢ n)
          → ((w : Seen) → seen_in p'.run ≡ Some w → Fine chain s.word w) → Stand
      unlinks n v linked is off here = keeping.unlinked m l chain chain' a a' e e' s next_sight stands old (own_held held)
          (own_runs (λ w at. kept w (here w at)) (λ i w ne at. kept w (fine chain a e s old i w at))) n v logs log linked word_is off
        where
          word_is : f ≡ put s.word (LinkWord n) v
          word_is = ap (λ (y : Spot × Access). put s.word y.0 (written y.1 (s.word y.0))) (sym is)

          kept : (w : Seen) → Fine chain s.word w → Fine chain' f w
          kept w = fine_kept chain chain' s.word f w (linked w.descriptor)
              (λ b j held' none. ap (λ (g : Spot → ℕ). g (block_spot b j)) word_is
              ∙ (put_elsewhere s.word (LinkWord n) v (block_spot b j) (keeping.block_no_link b j n) ∙ none))

      -- a word of a block is made 0, which is in no run, or in the own hand
      pub clears : (b w : ℕ) → ((d : ℕ) → chain' d ≡ chain d) → (block_spot b w, Stores 0) ≡ x
          → 1 ≤ times b p.blocks.free + times_held (hand_of p.run) b → ((v : Seen) → seen_in p'.run ≡ Some v → Fine chain f v) → Stand
      clears b w linked is some here = keeping.cleared m l chain chain' a a' e e' s next_sight stands old (own_held held)
          (own_runs (λ v at. same_links v (here v at))
          (λ i v ne at. fine_kept chain chain' s.word f v (linked v.descriptor) (λ c j held' none. cleared c j none) (fine chain a e s old i v at)))
          b w logs log linked word_is (λ d sure. apart.unlinked m l chain a e s stands r b some d sure)
        where
          word_is : f ≡ put s.word (block_spot b w) 0
          word_is = ap (λ (y : Spot × Access). put s.word y.0 (written y.1 (s.word y.0))) (sym is)

          cleared : (c j : ℕ) → s.word (block_spot c j) ≡ 0 → f (block_spot c j) ≡ 0
          cleared c j none = ap (λ (g : Spot → ℕ). g (block_spot c j)) word_is ∙ zero_stays s.word b w c j none

          same_links : (v : Seen) → Fine chain f v → Fine chain' f v
          same_links v = fine_kept chain chain' f f v (linked v.descriptor) (λ c j held' none. none)

    -- a step that writes one word of one log, by one event of each component
    module _ (n k v : ℕ) (linked : (d : ℕ) → chain' d ≡ chain d) (head : agreement.Event) (is_head : go.heads ≡ head ∷ [])
        (logs : (d j : ℕ) → logs_of (agreement.after a head) d j ≡ upd2 (logs_of a) n k v d j)
        (tail : epochs.Event) (is_tail : go.tails ≡ tail ∷ []) (log : (d j : ℕ) → (epochs.after (counts_of m l) e tail).log d j ≡ upd2 e.log n k v d j) where
      logs_now : (d j : ℕ) → logs_of a' d j ≡ upd2 (logs_of a) n k v d j
      logs_now d j = logs_after m l a a' r go.heads go.leads head is_head d j ∙ logs d j

      log_now : (d j : ℕ) → e'.log d j ≡ upd2 e.log n k v d j
      log_now d j = ap (λ (w : EpochState). w.log d j) (sym go.there ∙ ap (epoch_schedules.after_all (counts_of m l) e) is_tail) ∙ log d j

      -- in a descriptor of which nobody is sure
      pub stores : k < part_words → (access : Access) → (LogWord n k, access) ≡ x → written access (s.word (LogWord n k)) ≡ v → ((d : ℕ) → Held d → d ≢ n)
          → ((w : Seen) → seen_in p'.run ≡ Some w → Fine chain s.word w) → Stand
      stores small access is writes off here = keeping.stored m l chain chain' a a' e e' s next_sight stands old (own_held held)
          (own_runs (λ w at. kept w (here w at)) (λ i w ne at. kept w (fine chain a e s old i w at))) n k v logs_now log_now linked small word_is off
        where
          word_is : f ≡ put s.word (LogWord n k) v
          word_is = ap (λ (y : Spot × Access). put s.word y.0 (written y.1 (s.word y.0))) (sym is) ∙ ap (put s.word (LogWord n k)) writes

          kept : (w : Seen) → Fine chain s.word w → Fine chain' f w
          kept w = fine_kept chain chain' s.word f w (linked w.descriptor)
              (λ b j held' none. ap (λ (g : Spot → ℕ). g (block_spot b j)) word_is
              ∙ (put_elsewhere s.word (LogWord n k) v (block_spot b j) (keeping.block_no_log b j n k) ∙ none))

      -- where the log of a descriptor stands of which somebody is sure
      pub writes : (sure : Held n) → k < room (chain n) → f ≡ put s.word (log_spot n (chain n) k) v → ((w : Seen) → seen_in p'.run ≡ Some w → seen_in p.run ≡ Some w) → Stand
      writes sure low word_is here = keeping.wrote m l chain chain' a a' e e' s next_sight stands old (own_held held)
          (own_runs (λ w at. kept r w (here w at)) (λ i w ne at. kept i w at)) n k v logs_now log_now linked sure low word_is
        where
          few : k / part_words ≤ length (chain n)
          few = omega (arith, low)

          kept : (i : ℕ) (w : Seen) → seen_in (s.part i).run ≡ Some w → Fine chain' f w
          kept i w at = fine_kept chain chain' s.word f w (linked w.descriptor)
              (λ b j held' none. ap (λ (g : Spot → ℕ). g (block_spot b j)) word_is
              ∙ (apart_kept s.word n v (chain n) (log_spot n (chain n) k) (block_spot b j) (part_here n (chain n) (k / part_words) (k % part_words) few)
              (block_apart n b j (chain n) (hand_off i b n w at held' sure)) ∙ none))
              (fine chain a e s old i w at)

  -- a run exchanges a word of its log
  module _ (q : RunState) (at : p.run ≡ Some q) where
    abbrev n : ℕ
    n = q.descriptor

    run_held : Held n
    run_held = (r, (joined.tied r).run_sure q at)

    first : IsPrefix q.links (chain n)
    first = old.agreed r q at

    here : HasBlocks (a.section n).log s.word n (chain n)
    here = old.logs r n ((joined.tied r).run_sure q at)

    module _ (k proposal : ℕ) (near : is_beyond q (Some k) ≡ false) (is : (log_spot n q.links k, Exchanges 0 proposal) ≡ x) where
      low : k < room q.links
      low = near_room q k near

      found_log : found ≡ logs_of a n k
      found_log = ap (λ (y : Spot × Access). s.word y.0) (sym is) ∙ log_word q.links (chain n) first (a.section n).log s.word n k here low

      abbrev agreed : ℕ
      agreed = written_once found proposal

      low_all : k < room (chain n)
      low_all = let most = no_more q.links (chain n) first in omega (arith, low, most)

      word_now : f ≡ put s.word (log_spot n (chain n) k) agreed
      word_now = ap (λ (y : Spot × Access). put s.word y.0 (written y.1 (s.word y.0))) (sym is)
          ∙ (ap (λ (u : ℕ). put s.word (log_spot n q.links k) (written_once u proposal)) (ap (λ (y : Spot × Access). s.word y.0) is)
          ∙ ap (λ (c : Spot). put s.word c agreed) (same_spot q.links (chain n) first n k low))

      in_sections : IsRunOf (a.run r) q → (i : ℕ) → i ≡ proposal → (d j : ℕ) → logs_of (agreement.agrees a r k i) d j ≡ upd2 (logs_of a) n k agreed d j
      in_sections run i same d j = agreed_logs a r k i d j
          ∙ (ap (λ c. upd2 (logs_of a) c k (written_once (logs_of a c k) i) d j) run.descriptor
          ∙ (ap (λ u. upd2 (logs_of a) n k (written_once u i) d j) (sym found_log) ∙ ap (λ u. upd2 (logs_of a) n k (written_once found u) d j) same))

      in_slots : (i : ℕ) → i ≡ proposal → (d j : ℕ) → upd2 e.log n k (written_once (e.log n k) i) d j ≡ upd2 e.log n k agreed d j
      in_slots i same d j = ap (λ u. upd2 e.log n k (written_once u i) d j) (old.same n k ∙ sym found_log)
          ∙ ap (λ u. upd2 e.log n k (written_once found u) d j) same

      -- both components agree on what the machine does, where the proposals are the same
      pub commits : ((d : ℕ) → chain' d ≡ chain d) → ((d : ℕ) → is_sure_of p'.guards d ≡ true → Held d) → seen_in p'.run ≡ Some (seen q) → IsRunOf (a.run r) q
          → (head : agreement.Event) (i : ℕ) → go.heads ≡ head ∷ [] → agreement.after a head ≡ agreement.agrees a r k i → i ≡ proposal
          → (tail : epochs.Event) (i' : ℕ) → go.tails ≡ tail ∷ []
          → ((d j : ℕ) → (epochs.after (counts_of m l) e tail).log d j ≡ upd2 e.log n k (written_once (e.log n k) i') d j) → i' ≡ proposal → Stand
      commits linked held run_same run head i is_head agrees same tail i' is_tail log same' =
          writes held n k agreed linked head is_head (λ d j. ap (λ (w : AgreementState). logs_of w d j) agrees ∙ in_sections run i same d j)
          tail is_tail (λ d j. log d j ∙ in_slots i' same' d j) run_held low_all word_now
          (λ w seen_at. ap seen_in at ∙ (sym run_same ∙ seen_at))

    -- it puts its block into the link behind the last part that it knows
    module _ (b : ℕ) (is : (link_spot n q.links (length q.links), Exchanges 0 (b + 1)) ≡ x) (block : q.block ≡ Some b) (heads : AllAre leaves_logs go.heads) (tails : AllAre leaves_log go.tails)
        (held : (d : ℕ) → is_sure_of p'.guards d ≡ true → Held d) (few : b < block_count l) (small : block_count l ≤ 2 ^ 32) where
      pub found_link : found ≡ link_at (chain n) (length q.links)
      found_link = ap (λ (y : Spot × Access). s.word y.0) (sym is) ∙ link_word q.links (chain n) first (a.section n).log s.word n here

      same_logs : (d k : ℕ) → logs_of a' d k ≡ logs_of a d k
      same_logs = logs_same m l a a' r go.heads go.leads heads

      same_log : (d k : ℕ) → e'.log d k ≡ e.log d k
      same_log d k = ap (λ (w : EpochState). w.log d k) (sym go.there) ∙ ap (λ (g : ℕ → ℕ → ℕ). g d k) (log_same (counts_of m l) e go.tails tails)

      -- what is seen of the run behind it
      abbrev behind : Seen
      behind = record { descriptor = n; links = q.links ++ value_of (written_once found (b + 1) - 1) ∷ []; block = None; emptied = 0 }

      behind_fine : (word : Spot → ℕ) → IsPrefix behind.links (chain' n) → Fine chain' word behind
      behind_fine word agreed = record { agreed = agreed; emptied = λ c j held' low. absurd (omega (arith, low)); begun = λ none. refl; most = omega arith }

      only : ((v : Seen) → seen_in p'.run ≡ Some v → v ≡ behind) → Fine chain' f behind → (v : Seen) → seen_in p'.run ≡ Some v → Fine chain' f v
      only run_is good v at' = subst (Fine chain' f) (sym (run_is v at')) good

      -- the link was empty: the run knew all blocks, and its own one is linked now
      pub wins : found ≡ 0 → q.emptied ≡ block_words → ((d : ℕ) → chain' d ≡ upd chain n (chain n ++ b ∷ []) d) → ((v : Seen) → seen_in p'.run ≡ Some v → v ≡ behind) → Stand
      wins none whole chained run_is = keeping.linked_more m l chain chain' a a' e e' s next_sight stands old (own_held held)
          (own_runs (only run_is (behind_fine f own_links)) (λ i v ne at'. other i v at'))
          n b run_held same_logs same_log chained off empty word_is
        where
          all : q.links ≡ chain n
          all = last q.links (chain n) first (sym found_link ∙ none)

          here_now : (d : ℕ) → d ≡ n → chain' d ≡ chain n ++ b ∷ []
          here_now d same = chained d ∙ ap (λ c. cond c (chain n ++ b ∷ []) (chain d)) (equal_tested d n same)

          off : has (chain n) b ≡ false
          off = hand_off r b n (seen q) (ap seen_in at) block run_held

          word_of : (j : ℕ) → j < block_words → s.word (block_spot b j) ≡ 0
          word_of j less = old.emptied r b j q at block (subst (λ c. j < c) (sym whole) less)

          empty : IsEmpty s.word b
          empty = record {
            words = λ j less. ap (λ c. s.word (cond c (BlockLink b) (BlockWord b j))) (sym (other_tested j part_words (λ same. omega (arith, less, same)))) ∙ word_of j (omega (arith, less));
            link = ap (λ c. s.word (cond c (BlockLink b) (BlockWord b part_words))) (sym (self_tested part_words)) ∙ word_of part_words (omega arith);
          }

          number : b + 1 - 1 ≡ b
          number = omega arith

          value_is : value_of (written_once found (b + 1) - 1) ≡ b
          value_is = ap (λ c. value_of (c - 1)) (won_word found (b + 1) none) ∙ (ap value_of number ∙ same_value b (block_count l) few small)

          own_links : IsPrefix behind.links (chain' n)
          own_links = subst (λ (xs : List ℕ). take (length xs) (chain' n) ≡ xs) (sym same) (ap (take (length (chain n ++ b ∷ []))) (here_now n refl) ∙ take-length (chain n ++ b ∷ []))
            where
              same : behind.links ≡ chain n ++ b ∷ []
              same = ap (λ c. q.links ++ c ∷ []) value_is ∙ ap (λ (xs : List ℕ). xs ++ b ∷ []) all

          word_is : f ≡ put s.word (link_spot n (chain n) (length (chain n))) (b + 1)
          word_is = ap (λ (y : Spot × Access). put s.word y.0 (written y.1 (s.word y.0))) (sym is)
              ∙ (ap (λ (u : ℕ). put s.word (link_spot n q.links (length q.links)) (cond (u == 0) (b + 1) u)) (ap (λ (y : Spot × Access). s.word y.0) is ∙ none)
              ∙ ap (λ (xs : List ℕ). put s.word (link_spot n xs (length xs)) (b + 1)) all)

          other : (i : ℕ) (v : Seen) → seen_in (s.part i).run ≡ Some v → Fine chain' f v
          other i v at' = let good = fine chain a e s old i v at' in record {
            agreed = longer v (length v.links) good.agreed;
            emptied = λ c j held' low. ap (λ (g : Spot → ℕ). g (block_spot c j)) word_is
                ∙ (apart_kept s.word n (b + 1) (chain n) (link_spot n (chain n) (length (chain n))) (block_spot c j) (link_here n (chain n) (length (chain n)) (omega arith))
                (block_apart n c j (chain n) (hand_off i c n v at' held' run_held)) ∙ good.emptied c j held' low);
            begun = good.begun;
            most = good.most;
          }
            where
              longer : (v : Seen) (i : ℕ) → IsPrefix v.links (chain v.descriptor) → IsPrefix v.links (chain' v.descriptor)
              longer v i old_links = by (cases_eq v.descriptor n)
                where
                  by : (v.descriptor ≡ n) ⊎ (v.descriptor ≢ n) → IsPrefix v.links (chain' v.descriptor)
                  by (inl same) = ap (take (length v.links)) (here_now v.descriptor same)
                      ∙ (take-append-le (length v.links) (chain n) (b ∷ []) (ap_length same)
                      ∙ (ap (λ c. take (length v.links) (chain c)) (sym same) ∙ old_links))
                    where
                      ap_length : v.descriptor ≡ n → length v.links ≤ length (chain n)
                      ap_length same = subst (λ c. length v.links ≤ length (chain c)) same (no_more v.links (chain v.descriptor) old_links)
                  by (inr ne) = ap (take (length v.links)) (chained v.descriptor ∙ ap (λ c. cond c (chain n ++ b ∷ []) (chain v.descriptor)) (other_tested v.descriptor n ne)) ∙ old_links

      -- another block stood there, which the run knows from now on
      pub loses : found ≢ 0 → ((d : ℕ) → chain' d ≡ chain d) → ((v : Seen) → seen_in p'.run ≡ Some v → v ≡ behind) → Stand
      loses some linked run_is = keeping.quiet m l chain chain' a a' e e' s next_sight stands old (own_held held)
          (own_runs (only run_is (behind_fine f own_links)) (λ i v ne at'. fine_kept chain chain' s.word f v (linked v.descriptor) (λ c j held' none. same_words (block_spot c j) ∙ none) (fine chain a e s old i v at')))
          same_logs same_log linked (λ y of. same_words y)
        where
          same_words : (y : Spot) → f y ≡ s.word y
          same_words y = ap (λ (g : Spot → ℕ). g y) (ap (λ (c : Spot × Access). put s.word c.0 (written c.1 (s.word c.0))) (sym is)
              ∙ (ap (put s.word (link_spot n q.links (length q.links))) (lost_word (s.word (link_spot n q.links (length q.links))) (b + 1)
              (λ none. some (ap (λ (c : Spot × Access). s.word c.0) (sym is) ∙ none))) ∙ put_same s.word (link_spot n q.links (length q.links))))

          more : found ≡ suc (found - 1)
          more = positive found some
            where
              positive : (i : ℕ) → i ≢ 0 → i ≡ suc (i - 1)
              positive i ne = omega (arith, ne)

          there : link_at (chain n) (length q.links) ≡ suc (found - 1)
          there = sym found_link ∙ more

          in_chain : has (chain n) (found - 1) ≡ true
          in_chain = by (cases_lt (length q.links) (length (chain n)))
            where
              by : (length q.links < length (chain n)) ⊎ (length (chain n) ≤ length q.links) → has (chain n) (found - 1) ≡ true
              by (inl low) = found_block (chain n) (length q.links) (found - 1) low
                  (let number = sym (ap (λ c. cond c (slice_index (chain n) (length q.links) + 1) 0) (less_tested (length q.links) (length (chain n)) low)) ∙ there in omega (arith, number))
              by (inr high) = absurd (let number = sym (ap (λ c. cond c (slice_index (chain n) (length q.links) + 1) 0) (not_less_tested (length q.links) (length (chain n)) high)) ∙ there in
                  omega (arith, number))

          value_is : value_of (written_once found (b + 1) - 1) ≡ found - 1
          value_is = ap (λ c. value_of (c - 1)) (lost_word found (b + 1) some)
              ∙ same_value (found - 1) (block_count l) (apart.linked_in_table m l chain a e s stands n (found - 1) run_held in_chain) small

          own_links : IsPrefix behind.links (chain' n)
          own_links = subst (λ c. IsPrefix (q.links ++ c ∷ []) (chain' n)) (sym value_is)
              (subst (IsPrefix (q.links ++ (found - 1) ∷ [])) (sym (linked n)) (next q.links (chain n) first (found - 1) there))

    -- one more word of the block in its hand is 0, or the first one of a block that it takes into its hand
    pub empties : (c : ℕ) → (o : Option ℕ) → q.block ≡ o → (o ≡ None) ⊎ (o ≡ Some c) → q.emptied < block_words → (block_spot c q.emptied, Stores 0) ≡ x
        → Fine chain f (record { descriptor = n; links = q.links; block = Some c; emptied = emptied_more q })
    empties c o block whose less is = record {
      agreed = first;
      emptied = λ b j held' low. ap (λ i. f (block_spot i j)) (sym (one b held')) ∙ word_is j (subst (λ i. j < i) more low);
      begun = λ none. absurd (let y = none in cc);
      most = let up = more in omega (arith, up, less);
    }
      where
        one : (b : ℕ) → Some c ≡ Some b → c ≡ b
        one b same = cc

        more : emptied_more q ≡ q.emptied + 1
        more = ap (λ k. cond k (q.emptied + 1) q.emptied) (less_tested q.emptied block_words less)

        word_now : f ≡ put s.word (block_spot c q.emptied) 0
        word_now = ap (λ (y : Spot × Access). put s.word y.0 (written y.1 (s.word y.0))) (sym is)

        before : (j : ℕ) → j < q.emptied → (o ≡ None) ⊎ (o ≡ Some c) → s.word (block_spot c j) ≡ 0
        before j low (inl none) = absurd (let zero_yet = old.begun r q at (block ∙ none) in omega (arith, low, zero_yet))
        before j low (inr some) = old.emptied r c j q at (block ∙ some) low

        word_is : (j : ℕ) → j < q.emptied + 1 → f (block_spot c j) ≡ 0
        word_is j low = ap (λ (g : Spot → ℕ). g (block_spot c j)) word_now ∙ by (cases_eq j q.emptied)
          where
            by : (j ≡ q.emptied) ⊎ (j ≢ q.emptied) → put s.word (block_spot c q.emptied) 0 (block_spot c j) ≡ 0
            by (inl same) = ap (λ i. put s.word (block_spot c q.emptied) 0 (block_spot c i)) same ∙ put_here s.word (block_spot c q.emptied) 0
            by (inr ne) = zero_stays s.word c q.emptied c j (before j (omega (arith, low, ne)) whose)
