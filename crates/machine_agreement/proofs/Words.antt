-- Words that the component sees, and stores that it doesn't see.
use Rattle.std.specs.Prelude.{◌==◌, ◌/◌, ◌%◌, cond, Bool, true, false, slice_index}
use Rattle.std.proofs.Common.{◌≡◌, ℕ, zero, suc, List, sym, refl, ◌∙◌, subst}
use Rattle.machine_states.specs.body_terms.specs.block_words.specs.Blocks.{part_spot, link_spot, log_spot}
use Rattle.machine_states.specs.table_words.specs.declared.spot.Spot.{Spot}
use Rattle.machine_states.specs.table_words.specs.declared.spot.Spot.TheVariants as spots
use Rattle.machine_states.specs.table_words.specs.Places.{part_words}
use Rattle.machine_states.specs.table_words.specs.Seen.{put}
use Rattle.machine_states.specs.runner_steps.specs.Outside.{block_spot}
use Rattle.agreement_core.specs.State.{Shared, Section}
use Rattle.machine_states.proofs.Updates.{put_same}
use Rattle.machine_agreement.specs.Joined.{ShowsWords, ShowsSection}
use Rattle.machine_agreement.proofs.Assembly.{ThunksStay}

-- the component's words are as before
pub record SameWords (word word' : Spot → ℕ) : Type 0 where
  pub cells : (p : ℕ) → word' (spots.Cell p) ≡ word (spots.Cell p)
  pub clock : word' spots.Clock ≡ word spots.Clock
  pub stamp : (q : ℕ) → word' (spots.Stamp q) ≡ word (spots.Stamp q)
  pub reply : (q : ℕ) → word' (spots.Reply q) ≡ word (spots.Reply q)
  pub thunks : ThunksStay word word'
  pub done : (d : ℕ) → word' (spots.DoneWord d) ≡ word (spots.DoneWord d)

-- a load changes no word
pub load_same : (word : Spot → ℕ) (a : Spot) → SameWords word (put word a (word a))
load_same word a = subst (SameWords word) (sym (put_same word a))
    (record { cells = λ p. refl; clock = refl; stamp = λ q. refl; reply = λ q. refl; thunks = λ d j. refl; done = λ d. refl })

pub shows_same : (x : Shared) (word word' : Spot → ℕ) → SameWords word word' → ShowsWords x word → ShowsWords x word'
shows_same x word word' same old = record { cells = λ p. old.cells p ∙ sym (same.cells p); clock = old.clock ∙ sym same.clock; stamp = λ q. old.stamp q ∙ sym (same.stamp q); reply = λ q. old.reply q ∙ sym (same.reply q) }

pub section_same : (x : Section) (word word' : Spot → ℕ) (d : ℕ) → SameWords word word' → ShowsSection x word d → ShowsSection x word' d
section_same x word word' d same old = record { done = old.done ∙ sym (same.done d) }

module _ (word : Spot → ℕ) (v : ℕ) where
  -- the words of logs, links and blocks aren't among them
  own_log : (d k : ℕ) → SameWords word (put word (spots.LogWord d k) v)
  own_log d k = record { cells = λ p. refl; clock = refl; stamp = λ q. refl; reply = λ q. refl; thunks = λ d j. refl; done = λ d. refl }

  pub own_link : (d : ℕ) → SameWords word (put word (spots.LinkWord d) v)
  own_link d = record { cells = λ p. refl; clock = refl; stamp = λ q. refl; reply = λ q. refl; thunks = λ d j. refl; done = λ d. refl }

  block_word : (b j : ℕ) → SameWords word (put word (spots.BlockWord b j) v)
  block_word b j = record { cells = λ p. refl; clock = refl; stamp = λ q. refl; reply = λ q. refl; thunks = λ d j. refl; done = λ d. refl }

  block_link : (b : ℕ) → SameWords word (put word (spots.BlockLink b) v)
  block_link b = record { cells = λ p. refl; clock = refl; stamp = λ q. refl; reply = λ q. refl; thunks = λ d j. refl; done = λ d. refl }

  pub log_same : (d : ℕ) (links : List ℕ) (k : ℕ) → SameWords word (put word (log_spot d links k) v)
  log_same d links k = by (k / part_words) (k % part_words)
    where
      by : (i j : ℕ) → SameWords word (put word (part_spot d links i j) v)
      by zero j = own_log d j
      by (suc i) j = block_word (slice_index links i) j

  pub link_same : (d : ℕ) (links : List ℕ) (i : ℕ) → SameWords word (put word (link_spot d links i) v)
  link_same d links zero = own_link d
  link_same d links (suc i) = block_link (slice_index links i)

  pub block_same : (b j : ℕ) → SameWords word (put word (block_spot b j) v)
  block_same b j = by (j == part_words)
    where
      by : (c : Bool) → SameWords word (put word (cond c (spots.BlockLink b) (spots.BlockWord b j)) v)
      by true = block_link b
      by false = block_word b j
