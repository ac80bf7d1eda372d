-- Where the logs stand behind a step: one that leaves them, one that writes a word of one log, one that makes a word of a
-- block 0, and one that links a block.
use Rattle.std.specs.Prelude.{◌==◌, ◌/◌, ◌%◌, ◌⊎◌, not, slice_index, cond, Bool, true, false}
use Rattle.std.proofs.Common.{◌≡◌, ◌≢◌, inl, inr, ℕ, zero, suc, ◌+◌, ◌*◌, ◌<◌, ◌≤◌, List, [], ◌∷◌, ◌++◌, length, take, refl, sym, ap, ◌∙◌, subst, arith, Some, None}
use Rattle.std.proofs.lemmas.Bool.{cases_eq}
use Rattle.std.proofs.lemmas.List.{length-append}
use Rattle.block_words.specs.Blocks.{part_spot, link_spot, log_spot, room, has_block, HasBlocks, IsEmpty, is_apart, IsPrefix}
use Rattle.block_words.proofs.Parts.{alone, elsewhere, committed, linked, found_block}
use Rattle.machine_states.specs.epoch_core.specs.small_lemmas.proofs.Bools.{not_both}
use Rattle.machine_states.specs.epoch_core.specs.small_lemmas.proofs.Numbers.{self_tested, equal_tested, other_tested}
use Rattle.machine_states.specs.table_words.specs.declared.layout.Layout.{Layout}
use Rattle.machine_states.specs.table_words.specs.declared.spot.Spot.{Spot}
use Rattle.machine_states.specs.table_words.specs.declared.spot.Spot.TheVariants.{LogWord, LinkWord, BlockWord, BlockLink}
use Rattle.machine_states.specs.table_words.specs.Places.{part_words, block_words}
use Rattle.machine_states.specs.table_words.specs.Seen.{put, upd}
use Rattle.machine_states.specs.table_words.proofs.Seen.{put_elsewhere}
use Rattle.machine_states.specs.structure_laws.specs.Meaning.{Meaning}
use Rattle.machine_states.specs.runner_parts.specs.Tests.{has}
use Rattle.machine_states.specs.runner_steps.specs.Outside.{is_sure_of, block_spot}
use Rattle.machine_states.specs.epoch_core.specs.Update.{upd2}
use Rattle.machine_states.specs.epoch_core.specs.State.{EpochState}
use Rattle.agreement_core.specs.State.{AgreementState}
use Rattle.machine_states.specs.Sight.{Sight}
use Rattle.machine_guards.specs.Stands.{GuardsStand}
use Rattle.machine_blocks.specs.Stands.{LogsStand}
use Rattle.machine_blocks.proofs.Events.{logs_of}
use Rattle.machine_blocks.proofs.Seen.{Seen, seen, seen_in, run_seen}
use Rattle.machine_blocks.proofs.Apart as apart
use Rattle.machine_blocks.proofs.Apart.{IsHeld}

-- a word of a log, a link, or a word of a block
abbrev pub is_of_log : Spot → Bool
is_of_log (LogWord d k) = true
is_of_log (LinkWord d) = true
is_of_log (BlockWord b k) = true
is_of_log (BlockLink b) = true
is_of_log _ = false

pub part_of_log : (d : ℕ) (blocks : List ℕ) (i j : ℕ) → is_of_log (part_spot d blocks i j) ≡ true
part_of_log d blocks zero j = refl
part_of_log d blocks (suc i) j = refl

pub link_of_log : (d : ℕ) (blocks : List ℕ) (i : ℕ) → is_of_log (link_spot d blocks i) ≡ true
link_of_log d blocks zero = refl
link_of_log d blocks (suc i) = refl

pub block_of_log : (b j : ℕ) → is_of_log (block_spot b j) ≡ true
block_of_log b j = by (j == part_words)
  where
    by : (k : Bool) → is_of_log (cond k (BlockLink b) (BlockWord b j)) ≡ true
    by true = refl
    by false = refl

-- a word of a block is no word of a descriptor
pub block_no_log : (b j d k : ℕ) → block_spot b j ≢ LogWord d k
block_no_log b j d k = by (j == part_words)
  where
    by : (c : Bool) → cond c (BlockLink b) (BlockWord b j) ≢ LogWord d k
    by true e = absurd (let x = e in cc)
    by false e = absurd (let x = e in cc)

pub block_no_link : (b j d : ℕ) → block_spot b j ≢ LinkWord d
block_no_link b j d = by (j == part_words)
  where
    by : (c : Bool) → cond c (BlockLink b) (BlockWord b j) ≢ LinkWord d
    by true e = absurd (let x = e in cc)
    by false e = absurd (let x = e in cc)

-- it is apart from a log in which its block isn't linked
pub block_apart : (d b j : ℕ) (blocks : List ℕ) → has_block blocks b ≡ false → is_apart d blocks (block_spot b j) ≡ true
block_apart d b j blocks off = by (j == part_words)
  where
    by : (c : Bool) → is_apart d blocks (cond c (BlockLink b) (BlockWord b j)) ≡ true
    by true = ap not off
    by false = ap not off

-- and the words of a log, and its links, aren't
pub part_here : (d : ℕ) (blocks : List ℕ) (i j : ℕ) → i ≤ length blocks → is_apart d blocks (part_spot d blocks i j) ≡ false
part_here d blocks zero j few = ap not (self_tested d)
part_here d blocks (suc i) j few = ap not (found_block blocks i (slice_index blocks i) (omega (arith, few)) refl)

pub link_here : (d : ℕ) (blocks : List ℕ) (i : ℕ) → i ≤ length blocks → is_apart d blocks (link_spot d blocks i) ≡ false
link_here d blocks zero few = ap not (self_tested d)
link_here d blocks (suc i) few = ap not (found_block blocks i (slice_index blocks i) (omega (arith, few)) refl)

-- a write there leaves what is apart
pub apart_kept : (f : Spot → ℕ) (d v : ℕ) (blocks : List ℕ) (x y : Spot) → is_apart d blocks x ≡ false → is_apart d blocks y ≡ true → put f x v y ≡ f y
apart_kept f d v blocks x y here off = put_elsewhere f x v y (λ same. not_both off (ap (is_apart d blocks) same ∙ here))

-- one more 0 leaves the others
pub zero_stays : (f : Spot → ℕ) (b w c j : ℕ) → f (block_spot c j) ≡ 0 → put f (block_spot b w) 0 (block_spot c j) ≡ 0
zero_stays f b w c j none = by (w == part_words) (j == part_words) none
  where
    kept : (k : Bool) (n : ℕ) → n ≡ 0 → cond k 0 n ≡ 0
    kept true n e = refl
    kept false n e = e

    both : (k k' : Bool) (n : ℕ) → n ≡ 0 → cond k (cond k' 0 n) n ≡ 0
    both true k' n e = kept k' n e
    both false k' n e = e

    by : (k k' : Bool) → f (cond k' (BlockLink c) (BlockWord c j)) ≡ 0
        → put f (cond k (BlockLink b) (BlockWord b w)) 0 (cond k' (BlockLink c) (BlockWord c j)) ≡ 0
    by true true e = kept (c == b) (f (BlockLink c)) e
    by true false e = e
    by false true e = e
    by false false e = both (c == b) (j == w) (f (BlockWord c j)) e

-- a log and its blocks, with the same words
pub same_blocks : (log log' : ℕ → ℕ) (word word' : Spot → ℕ) (d : ℕ) (blocks : List ℕ) → HasBlocks log word d blocks → ((k : ℕ) → log' k ≡ log k)
    → ((x : Spot) → is_of_log x ≡ true → word' x ≡ word x) → HasBlocks log' word' d blocks
same_blocks log log' word word' d blocks has logs words = record {
  links = λ i few. words (link_spot d blocks i) (link_of_log d blocks i) ∙ has.links i few;
  words = λ i j few low. words (part_spot d blocks i j) (part_of_log d blocks i j) ∙ (has.words i j few low ∙ sym (logs (part_words * i + j)));
  rest = λ k high. logs k ∙ has.rest k high;
  once = has.once;
}

-- with the same list of blocks
pub same_chain : (log : ℕ → ℕ) (word : Spot → ℕ) (d : ℕ) (blocks blocks' : List ℕ) → blocks' ≡ blocks → HasBlocks log word d blocks → HasBlocks log word d blocks'
same_chain log word d blocks blocks' same has = subst (HasBlocks log word d) (sym same) has

-- changed at one place of one row
row_here : (f : ℕ → ℕ → ℕ) (n k v i j : ℕ) → i ≡ n → upd2 f n k v i j ≡ upd (f n) k v j
row_here f n k v i j is = ap (λ b. cond b (cond (j == k) v (f i j)) (f i j)) (equal_tested i n is) ∙ ap (λ c. cond (j == k) v (f c j)) is

row_else : (f : ℕ → ℕ → ℕ) (n k v i j : ℕ) → i ≢ n → upd2 f n k v i j ≡ f i j
row_else f n k v i j ne = ap (λ b. cond b (cond (j == k) v (f i j)) (f i j)) (other_tested i n ne)

-- what is kept of a run: the blocks on which it agreed are the first ones of its section, and the words of the block in
-- its hand are 0 that it made so
pub record Fine (chain : ℕ → List ℕ) (word : Spot → ℕ) (v : Seen) : Type 0 where
  pub agreed : IsPrefix v.links (chain v.descriptor)
  pub emptied : (b j : ℕ) → v.block ≡ Some b → j < v.emptied → word (block_spot b j) ≡ 0
  pub begun : v.block ≡ None → v.emptied ≡ 0
  pub most : v.emptied ≤ block_words

-- a run that begins
pub begins_fine : (chain : ℕ → List ℕ) (word : Spot → ℕ) (d : ℕ) → Fine chain word (record { descriptor = d; links = []; block = None; emptied = 0 })
begins_fine chain word d = record { agreed = refl; emptied = λ b j held low. absurd (omega (arith, low)); begun = λ none. refl; most = omega arith }

pub fine_kept : (chain chain' : ℕ → List ℕ) (word word' : Spot → ℕ) (v : Seen) → chain' v.descriptor ≡ chain v.descriptor
    → ((b j : ℕ) → v.block ≡ Some b → word (block_spot b j) ≡ 0 → word' (block_spot b j) ≡ 0) → Fine chain word v → Fine chain' word' v
fine_kept chain chain' word word' v same words old = record {
  agreed = ap (take (length v.links)) same ∙ old.agreed;
  emptied = λ b j held low. words b j held (old.emptied b j held low);
  begun = old.begun;
  most = old.most;
}

module _ (chain : ℕ → List ℕ) (a : AgreementState) (e : EpochState) (s : Sight) where
  pub fine : LogsStand chain a e s → (i : ℕ) (v : Seen) → seen_in (s.part i).run ≡ Some v → Fine chain s.word v
  fine old i v is = let run = run_seen (s.part i).run v is in subst (Fine chain s.word) run.2 (record {
    agreed = old.agreed i run.0 run.1;
    emptied = λ b j held low. old.emptied i b j run.0 run.1 held low;
    begun = old.begun i run.0 run.1;
    most = old.most i run.0 run.1;
  })

  pub stand : ((d k : ℕ) → e.log d k ≡ logs_of a d k) → ((d k : ℕ) → k < part_words → s.word (LogWord d k) ≡ logs_of a d k)
      → ((d k : ℕ) → room (chain d) ≤ k → logs_of a d k ≡ 0)
      → ((r d : ℕ) → is_sure_of (s.part r).guards d ≡ true → HasBlocks (a.section d).log s.word d (chain d))
      → ((i : ℕ) (v : Seen) → seen_in (s.part i).run ≡ Some v → Fine chain s.word v) → LogsStand chain a e s
  stand same own rest logs runs = record {
    same = same;
    own = own;
    rest = rest;
    logs = logs;
    agreed = λ r q at. (runs r (seen q) (ap seen_in at)).agreed;
    emptied = λ r b j q at held low. (runs r (seen q) (ap seen_in at)).emptied b j held low;
    begun = λ r q at none. (runs r (seen q) (ap seen_in at)).begun none;
    most = λ r q at. (runs r (seen q) (ap seen_in at)).most;
  }

module _ (m : Meaning) (l : Layout) (chain chain' : ℕ → List ℕ) (a a' : AgreementState) (e e' : EpochState) (s s' : Sight) (stands : GuardsStand m l chain a e s) (old : LogsStand chain a e s) where
  -- somebody is sure of this descriptor before the step
  abbrev Held : ℕ → Type 0
  Held = IsHeld m l chain a e s stands

  held_logs : (d : ℕ) → Held d → HasBlocks (a.section d).log s.word d (chain d)
  held_logs d held = old.logs held.0 d held.1

  -- what is behind the blocks of a descriptor with the same chain, where its log is the same
  rest_kept : ((d : ℕ) → chain' d ≡ chain d) → ((d k : ℕ) → logs_of a' d k ≡ logs_of a d k) → (d k : ℕ) → room (chain' d) ≤ k → logs_of a' d k ≡ 0
  rest_kept linked logs d k high = logs d k ∙ old.rest d k (subst (λ (xs : List ℕ). room xs ≤ k) (linked d) high)

  -- who is sure of a descriptor behind the step is no news, and what is seen of a run is fine
  module _ (held : (i d : ℕ) → is_sure_of (s'.part i).guards d ≡ true → Held d) (runs : (i : ℕ) (v : Seen) → seen_in (s'.part i).run ≡ Some v → Fine chain' s'.word v) where
    -- no log changes, and no word of one
    pub quiet : ((d k : ℕ) → logs_of a' d k ≡ logs_of a d k) → ((d k : ℕ) → e'.log d k ≡ e.log d k) → ((d : ℕ) → chain' d ≡ chain d)
        → ((x : Spot) → is_of_log x ≡ true → s'.word x ≡ s.word x) → LogsStand chain' a' e' s'
    quiet logs log linked words = stand chain' a' e' s'
        (λ d k. log d k ∙ (old.same d k ∙ sym (logs d k)))
        (λ d k low. words (LogWord d k) refl ∙ (old.own d k low ∙ sym (logs d k)))
        (rest_kept linked logs)
        (λ i d is. same_chain (a'.section d).log s'.word d (chain d) (chain' d) (linked d)
        (same_blocks (a.section d).log (a'.section d).log s.word s'.word d (chain d) (held_logs d (held i d is)) (logs d) words))
        runs

    -- one word of one log is written
    module _ (n k v : ℕ) (logs : (d j : ℕ) → logs_of a' d j ≡ upd2 (logs_of a) n k v d j) (log : (d j : ℕ) → e'.log d j ≡ upd2 e.log n k v d j)
        (linked_same : (d : ℕ) → chain' d ≡ chain d) where
      room_some : (xs : List ℕ) → k < part_words → k < room xs
      room_some xs small = omega (arith, small)

      rest_now : k < room (chain n) → (d j : ℕ) → room (chain' d) ≤ j → logs_of a' d j ≡ 0
      rest_now low d j high = logs d j ∙ by (cases_eq d n)
        where
          behind : room (chain d) ≤ j
          behind = subst (λ (xs : List ℕ). room xs ≤ j) (linked_same d) high

          by : (d ≡ n) ⊎ (d ≢ n) → upd2 (logs_of a) n k v d j ≡ 0
          by (inl is) = row_here (logs_of a) n k v d j is
              ∙ (ap (λ b. cond b v (logs_of a n j)) (other_tested j k (later (subst (λ c. room (chain c) ≤ j) is behind)))
              ∙ old.rest n j (subst (λ c. room (chain c) ≤ j) is behind))
            where
              later : room (chain n) ≤ j → j ≢ k
              later far same = omega (arith, low, far, same)
          by (inr ne) = row_else (logs_of a) n k v d j ne ∙ old.rest d j behind

      same_now : (d j : ℕ) → e'.log d j ≡ logs_of a' d j
      same_now d j = log d j ∙ ((λ i. cond (d == n) (cond (j == k) v (old.same d j i)) (old.same d j i)) ∙ sym (logs d j))

      -- of a descriptor of which nobody is sure, in it
      pub stored : k < part_words → s'.word ≡ put s.word (LogWord n k) v → ((d : ℕ) → Held d → d ≢ n) → LogsStand chain' a' e' s'
      stored small word off = stand chain' a' e' s' same_now
          (λ d j low. ap (λ (f : Spot → ℕ). f (LogWord d j)) word ∙ ((λ i. cond (d == n) (cond (j == k) v (old.own d j low i)) (old.own d j low i)) ∙ sym (logs d j)))
          (rest_now (room_some (chain n) small))
          (λ i d is. let ne = off d (held i d is) in same_chain (a'.section d).log s'.word d (chain d) (chain' d) (linked_same d)
          (same_blocks (a.section d).log (a'.section d).log (put s.word (LogWord n k) v) s'.word d (chain d)
          (elsewhere (a.section d).log s.word d v (chain d) (LogWord n k) (held_logs d (held i d is)) (ap not (other_tested n d (λ same. ne (sym same)))))
          (λ j. logs d j ∙ row_else (logs_of a) n k v d j ne) (λ x is. ap (λ (f : Spot → ℕ). f x) word)))
          runs

      -- of one of which somebody is sure, where the log word stands
      module _ (sure : Held n) (low : k < room (chain n)) (word : s'.word ≡ put s.word (log_spot n (chain n) k) v) where
        whole : (d : ℕ) → d ≡ n → HasBlocks (a'.section d).log s'.word d (chain d)
        whole d is = same_blocks (upd (a.section n).log k v) (a'.section d).log (put s.word (log_spot n (chain n) k) v) s'.word d (chain d)
            (subst (λ c. HasBlocks (upd (a.section n).log k v) (put s.word (log_spot n (chain n) k) v) c (chain c)) (sym is) (committed (a.section n).log s.word n k v (chain n) (held_logs n sure) low))
            (λ j. logs d j ∙ row_here (logs_of a) n k v d j is) (λ x of. ap (λ (f : Spot → ℕ). f x) word)

        few : k / part_words ≤ length (chain n)
        few = omega (arith, low)

        own_now : (d j : ℕ) → j < part_words → s'.word (LogWord d j) ≡ logs_of a' d j
        own_now d j less = by (cases_eq d n)
          where
            first : part_words * 0 + j ≡ j
            first = omega arith

            off : (i j' : ℕ) → d ≢ n → LogWord d j ≢ part_spot n (chain n) i j'
            off zero j' ne same = ne (let x = same in cc)
            off (suc i) j' ne same = absurd (let x = same in cc)

            by : (d ≡ n) ⊎ (d ≢ n) → s'.word (LogWord d j) ≡ logs_of a' d j
            by (inl is) = (whole d is).words 0 j (omega arith) less ∙ ap (logs_of a' d) first
            by (inr ne) = ap (λ (f : Spot → ℕ). f (LogWord d j)) word
                ∙ (put_elsewhere s.word (log_spot n (chain n) k) v (LogWord d j) (off (k / part_words) (k % part_words) ne)
                ∙ (old.own d j less ∙ sym (logs d j ∙ row_else (logs_of a) n k v d j ne)))

        logs_now : (d : ℕ) → Held d → HasBlocks (a'.section d).log s'.word d (chain d)
        logs_now d sure' = by (cases_eq d n)
          where
            by : (d ≡ n) ⊎ (d ≢ n) → HasBlocks (a'.section d).log s'.word d (chain d)
            by (inl is) = whole d is
            by (inr ne) = same_blocks (a.section d).log (a'.section d).log (put s.word (log_spot n (chain n) k) v) s'.word d (chain d)
                (elsewhere (a.section d).log s.word d v (chain d) (log_spot n (chain n) k) (held_logs d sure')
                (apart.part_apart m l chain a e s stands n d sure sure' (λ same. ne (sym same)) (k / part_words) (k % part_words) few))
                (λ j. logs d j ∙ row_else (logs_of a) n k v d j ne) (λ x of. ap (λ (f : Spot → ℕ). f x) word)

        pub wrote : LogsStand chain' a' e' s'
        wrote = stand chain' a' e' s' same_now own_now
            (rest_now low)
            (λ i d is. same_chain (a'.section d).log s'.word d (chain d) (chain' d) (linked_same d) (logs_now d (held i d is))) runs

    -- the link of a descriptor of which nobody is sure is written
    pub unlinked : (n v : ℕ) → ((d k : ℕ) → logs_of a' d k ≡ logs_of a d k) → ((d k : ℕ) → e'.log d k ≡ e.log d k) → ((d : ℕ) → chain' d ≡ chain d)
        → s'.word ≡ put s.word (LinkWord n) v → ((d : ℕ) → Held d → d ≢ n) → LogsStand chain' a' e' s'
    unlinked n v logs log linked_same word off = stand chain' a' e' s'
        (λ d k. log d k ∙ (old.same d k ∙ sym (logs d k)))
        (λ d k low. ap (λ (f : Spot → ℕ). f (LogWord d k)) word ∙ (old.own d k low ∙ sym (logs d k)))
        (rest_kept linked_same logs)
        (λ i d is. same_chain (a'.section d).log s'.word d (chain d) (chain' d) (linked_same d)
        (same_blocks (a.section d).log (a'.section d).log (put s.word (LinkWord n) v) s'.word d (chain d)
        (elsewhere (a.section d).log s.word d v (chain d) (LinkWord n) (held_logs d (held i d is)) (ap not (other_tested n d (λ same. off d (held i d is) (sym same)))))
        (logs d) (λ x of. ap (λ (f : Spot → ℕ). f x) word)))
        runs

    -- a word of a block is made 0 that is linked in no descriptor of which somebody is sure
    pub cleared : (b w : ℕ) → ((d k : ℕ) → logs_of a' d k ≡ logs_of a d k) → ((d k : ℕ) → e'.log d k ≡ e.log d k) → ((d : ℕ) → chain' d ≡ chain d)
        → s'.word ≡ put s.word (block_spot b w) 0 → ((d : ℕ) → Held d → has (chain d) b ≡ false) → LogsStand chain' a' e' s'
    cleared b w logs log linked_same word off = stand chain' a' e' s'
        (λ d k. log d k ∙ (old.same d k ∙ sym (logs d k)))
        (λ d k low. ap (λ (f : Spot → ℕ). f (LogWord d k)) word
        ∙ (put_elsewhere s.word (block_spot b w) 0 (LogWord d k) (λ same. block_no_log b w d k (sym same)) ∙ (old.own d k low ∙ sym (logs d k))))
        (rest_kept linked_same logs)
        (λ i d is. same_chain (a'.section d).log s'.word d (chain d) (chain' d) (linked_same d)
        (same_blocks (a.section d).log (a'.section d).log (put s.word (block_spot b w) 0) s'.word d (chain d)
        (elsewhere (a.section d).log s.word d 0 (chain d) (block_spot b w) (held_logs d (held i d is)) (block_apart d b w (chain d) (off d (held i d is))))
        (logs d) (λ x of. ap (λ (f : Spot → ℕ). f x) word)))
        runs

    -- a block is linked behind the last part of a log
    module _ (n b : ℕ) (sure : Held n) (logs : (d k : ℕ) → logs_of a' d k ≡ logs_of a d k) (log : (d k : ℕ) → e'.log d k ≡ e.log d k)
        (chained : (d : ℕ) → chain' d ≡ upd chain n (chain n ++ b ∷ []) d) (off : has (chain n) b ≡ false) (empty : IsEmpty s.word b)
        (word : s'.word ≡ put s.word (link_spot n (chain n) (length (chain n))) (b + 1)) where
      here : (d : ℕ) → d ≡ n → chain' d ≡ chain n ++ b ∷ []
      here d is = chained d ∙ ap (λ c. cond c (chain n ++ b ∷ []) (chain d)) (equal_tested d n is)

      else : (d : ℕ) → d ≢ n → chain' d ≡ chain d
      else d ne = chained d ∙ ap (λ c. cond c (chain n ++ b ∷ []) (chain d)) (other_tested d n ne)

      no_log : (d k i : ℕ) → LogWord d k ≢ link_spot n (chain n) i
      no_log d k zero same = absurd (let x = same in cc)
      no_log d k (suc i) same = absurd (let x = same in cc)

      logs_linked : (d : ℕ) → Held d → HasBlocks (a'.section d).log s'.word d (chain' d)
      logs_linked d sure' = by (cases_eq d n)
        where
          by : (d ≡ n) ⊎ (d ≢ n) → HasBlocks (a'.section d).log s'.word d (chain' d)
          by (inl is) = same_chain (a'.section d).log s'.word d (chain n ++ b ∷ []) (chain' d) (here d is)
              (same_blocks (a.section d).log (a'.section d).log (put s.word (link_spot n (chain n) (length (chain n))) (b + 1)) s'.word d (chain n ++ b ∷ [])
              (subst (λ c. HasBlocks (a.section c).log (put s.word (link_spot n (chain n) (length (chain n))) (b + 1)) c (chain n ++ b ∷ [])) (sym is)
              (linked (a.section n).log s.word n b (chain n) (held_logs n sure) off empty))
              (logs d) (λ x of. ap (λ (f : Spot → ℕ). f x) word))
          by (inr ne) = same_chain (a'.section d).log s'.word d (chain d) (chain' d) (else d ne)
              (same_blocks (a.section d).log (a'.section d).log (put s.word (link_spot n (chain n) (length (chain n))) (b + 1)) s'.word d (chain d)
              (elsewhere (a.section d).log s.word d (b + 1) (chain d) (link_spot n (chain n) (length (chain n))) (held_logs d sure')
              (apart.link_apart m l chain a e s stands n d sure sure' (λ same. ne (sym same)) (length (chain n)) (omega arith)))
              (logs d) (λ x of. ap (λ (f : Spot → ℕ). f x) word))

      rest_linked : (d k : ℕ) → room (chain' d) ≤ k → logs_of a' d k ≡ 0
      rest_linked d k high = logs d k ∙ by (cases_eq d n)
        where
          longer : (xs : List ℕ) → length (xs ++ b ∷ []) ≡ length xs + 1
          longer xs = length-append xs (b ∷ [])

          by : (d ≡ n) ⊎ (d ≢ n) → logs_of a d k ≡ 0
          by (inl is) = old.rest d k (let more = longer (chain d) in let far = subst (λ (xs : List ℕ). room xs ≤ k) (here d is ∙ ap (λ c. chain c ++ b ∷ []) (sym is)) high in omega (arith, more, far))
          by (inr ne) = old.rest d k (subst (λ (xs : List ℕ). room xs ≤ k) (else d ne) high)

      pub linked_more : LogsStand chain' a' e' s'
      linked_more = stand chain' a' e' s'
          (λ d k. log d k ∙ (old.same d k ∙ sym (logs d k)))
          (λ d k low. ap (λ (f : Spot → ℕ). f (LogWord d k)) word
          ∙ (put_elsewhere s.word (link_spot n (chain n) (length (chain n))) (b + 1) (LogWord d k) (no_log d k (length (chain n))) ∙ (old.own d k low ∙ sym (logs d k))))
          rest_linked
          (λ i d is. logs_linked d (held i d is)) runs

  -- a section is published in a descriptor of which nobody was sure, whose words and link are 0: its log is emptied
  module _ (n : ℕ) (runs : (i : ℕ) (v : Seen) → seen_in (s'.part i).run ≡ Some v → Fine chain' s'.word v)
      (held : (i d : ℕ) → is_sure_of (s'.part i).guards d ≡ true → (d ≡ n) ⊎ Held d) (unheld : (d : ℕ) → Held d → d ≢ n)
      (logs : (d k : ℕ) → logs_of a' d k ≡ cond (d == n) 0 (logs_of a d k)) (log : (d k : ℕ) → e'.log d k ≡ cond (d == n) 0 (e.log d k)) (chained : (d : ℕ) → chain' d ≡ upd chain n [] d)
      (words : (x : Spot) → is_of_log x ≡ true → s'.word x ≡ s.word x) (empty : (k : ℕ) → k < part_words → s.word (LogWord n k) ≡ 0) (unlinked : s.word (LinkWord n) ≡ 0) where
    log_here : (d k : ℕ) → d ≡ n → logs_of a' d k ≡ 0
    log_here d k is = logs d k ∙ ap (λ b. cond b 0 (logs_of a d k)) (equal_tested d n is)

    log_else : (d k : ℕ) → d ≢ n → logs_of a' d k ≡ logs_of a d k
    log_else d k ne = logs d k ∙ ap (λ b. cond b 0 (logs_of a d k)) (other_tested d n ne)

    chain_else : (d : ℕ) → d ≢ n → chain' d ≡ chain d
    chain_else d ne = chained d ∙ ap (λ c. cond c [] (chain d)) (other_tested d n ne)

    logs_by : (d : ℕ) → (d ≡ n) ⊎ Held d → HasBlocks (a'.section d).log s'.word d (chain' d)
    logs_by d (inl is) = same_chain (a'.section d).log s'.word d [] (chain' d) (chained d ∙ ap (λ c. cond c [] (chain d)) (equal_tested d n is))
        (alone (a'.section d).log s'.word d (λ k. log_here d k is)
        (λ j low. words (LogWord d j) refl ∙ (ap (λ c. s.word (LogWord c j)) is ∙ empty j low))
        (words (LinkWord d) refl ∙ (ap (λ c. s.word (LinkWord c)) is ∙ unlinked)))
    logs_by d (inr sure) = same_chain (a'.section d).log s'.word d (chain d) (chain' d) (chain_else d (unheld d sure))
        (same_blocks (a.section d).log (a'.section d).log s.word s'.word d (chain d) (held_logs d sure) (λ k. log_else d k (unheld d sure)) words)

    pub published : LogsStand chain' a' e' s'
    published = stand chain' a' e' s'
        (λ d k. log d k ∙ (ap (cond (d == n) 0) (old.same d k) ∙ sym (logs d k)))
        (λ d k low. own_now d k low (cases_eq d n)) (λ d k high. rest_now d k high (cases_eq d n))
        (λ i d is. logs_by d (held i d is)) runs
      where
        own_now : (d k : ℕ) → k < part_words → (d ≡ n) ⊎ (d ≢ n) → s'.word (LogWord d k) ≡ logs_of a' d k
        own_now d k low (inl is) = words (LogWord d k) refl ∙ (ap (λ c. s.word (LogWord c k)) is ∙ (empty k low ∙ sym (log_here d k is)))
        own_now d k low (inr ne) = words (LogWord d k) refl ∙ (old.own d k low ∙ sym (log_else d k ne))

        rest_now : (d k : ℕ) → room (chain' d) ≤ k → (d ≡ n) ⊎ (d ≢ n) → logs_of a' d k ≡ 0
        rest_now d k high (inl is) = log_here d k is
        rest_now d k high (inr ne) = log_else d k ne ∙ old.rest d k (subst (λ (xs : List ℕ). room xs ≤ k) (chain_else d ne) high)
