-- The runs of the hash table's four bodies, and what the runs of all bodies have in common.
use Rattle.std.proofs.Common.{◌≡◌, ◌≢◌, ℕ, ◌+◌, ◌*◌, ◌<◌, List, [], ◌∷◌, refl, sym, ap, ◌∙◌, subst, Some, None}
use Rattle.std.specs.Prelude.{Bool, true, false, cond, not, ◌==◌, ◌^◌, slice_index}
use Rattle.std.proofs.lemmas.Bool.{and_from}
use Rattle.structure_laws.specs.table_words.specs.small_lemmas.proofs.Numbers.{equal_tested, other_tested, less_tested}
use Rattle.structure_laws.specs.body_terms.specs.Update.{upd}
use Rattle.structure_laws.specs.body_terms.specs.Word.{value_of, version_of, next_word, held_word, is_free, is_spent}
use Rattle.structure_laws.specs.body_terms.specs.Memory.{cell_of}
use Rattle.tree_laws.specs.section_body.specs.Bucket.{operand, is_small, read_steps, insert_steps, remove_steps}
use Rattle.tree_laws.specs.bucket_laws.specs.bucket_bodies.specs.Table.{set_steps}
use Rattle.structure_laws.specs.body_terms.specs.Line.{line}
use Rattle.structure_laws.specs.body_terms.specs.Run.{Setting, Run, ran, exchanged, is_takable, refusal}
use Rattle.structure_laws.specs.body_terms.specs.declared.outcome.Outcome.TheVariants.{Answered, Busy, Stale, Spent}
use Rattle.structure_laws.specs.body_terms.specs.declared.micro.Source.{Source}
use Rattle.structure_laws.specs.body_terms.specs.declared.micro.Source.TheVariants.{Fixed, Agreed}
use Rattle.structure_laws.specs.body_terms.specs.declared.micro.Micro.{Micro}
use Rattle.structure_laws.specs.body_terms.specs.declared.micro.Micro.TheVariants.{LoadCell, Commit, CheckFresh, PrivateLoad, PrivateStore, MakeCommit, ClockLoad, StampExchange, ClockRaise, ExchangeCell, EpochForRetire, RetireCommit, ReplyExchange}
use Rattle.structure_laws.specs.body_terms.specs.declared.thunk.Thunk.{Thunk}
use Rattle.structure_laws.proofs.Changes.{upd_other}
use Rattle.tree_laws.specs.bucket_laws.specs.Halves.{Form, form_of, steps_of, steps}
use Rattle.tree_laws.specs.bucket_laws.proofs.Halves.{steps_are}
use Rattle.plain_laws.proofs.Filled.{five}

-- a number below 2 ^ 32 fits
pub small_is : (n : ℕ) → n < 2 ^ 32 → is_small n ≡ true
small_is n low = less_tested n (2 ^ 32) low

-- an exchange from what stands there writes
pub exchange_writes : (cells : ℕ → ℕ) (p old new : ℕ) → cells p ≡ old → exchanged cells p old new ≡ upd cells p new
exchange_writes cells p old new same = ap (λ c. upd cells p (cond c new (cells p))) (equal_tested (cells p) old same)

-- two exchanges, each from what stands there
pub exchanges_write : (cells : ℕ → ℕ) (p q old new was now : ℕ) → cells p ≡ old → cells q ≡ was → q ≢ p → exchanged (exchanged cells p old new) q was now ≡ upd (upd cells p new) q now
exchanges_write cells p q old new was now first second apart =
    ap (λ f. exchanged f q was now) (exchange_writes cells p old new first) ∙ exchange_writes (upd cells p new) q was now (upd_other cells p q new apart ∙ second)

-- the body of a thunk of this form
pub body_of : (two : Bool) (f : Form) (t : Thunk) → form_of two t ≡ f → steps two t ≡ steps_of f t
body_of two f t is = steps_are two t ∙ ap (λ f. steps_of f t) is

-- the check of a Want passes where the word is the wanted one
pub word_passes : (place word read : ℕ) → read ≡ word → cond (read == word) None (Some (Stale place word read)) ≡ None
word_passes place word read same = ap (λ b. cond b None (Some (Stale place word read))) (equal_tested read word same)

-- the check of a Fresh passes where the version isn't the greatest
pub fresh_passes : (place read max : ℕ) → version_of read ≢ max → cond (version_of read == max) (Some (Spent place read)) None ≡ None
fresh_passes place read max ne = ap (λ b. cond b (Some (Spent place read)) None) (other_tested (version_of read) max ne)

-- the lock of a Take whose words stand here in the log, and from which this free word is wanted, is got
pub record IsGot (s : Setting) (log word : ℕ) : Type 0 where
  pub unheld : s.refused log ≡ false
  pub takable : is_takable s word (s.taken log) ≡ true
  pub got : (s.taken (log + 1) == held_word s.descriptor word) ≡ true

pub is_got : (s : Setting) (log word : ℕ) → s.refused log ≡ false → s.taken log ≡ word
    → s.taken (log + 1) ≡ held_word s.descriptor word → is_free word ≡ true → is_spent s.version_max word ≡ false
    → IsGot s log word
is_got s log word unheld same held free unspent = record {
  unheld = unheld;
  takable = ap (is_takable s word) same ∙ and_from (word == word) _ (equal_tested word word refl)
      (and_from (is_free word) (not (is_spent s.version_max word)) free (ap not unspent));
  got = equal_tested (s.taken (log + 1)) (held_word s.descriptor word) held;
}

-- so both of its checks pass
pub free_passes : (s : Setting) (place log word : ℕ) → IsGot s log word → cond (s.refused log)
    (Some (Busy place (s.taken log))) (cond (is_takable s word (s.taken log)) None
    (Some (refusal s place word (s.taken log)))) ≡ None
free_passes s place log word lock = (λ i. cond (lock.unheld i) (Some (Busy place (s.taken log)))
    (cond (lock.takable i) None (Some (refusal s place word (s.taken log)))))

pub held_passes : (s : Setting) (place log word : ℕ) → IsGot s log word
    → cond (s.taken (log + 1) == held_word s.descriptor word) None (Some (refusal s place word (s.taken (log + 1)))) ≡ None
held_passes s place log word lock = ap (λ b. cond b None (Some (refusal s place word (s.taken (log + 1))))) lock.got

-- the cells with those of a new node: its key, and the values of its next two cells
abbrev pub node_made : Setting → (ℕ → ℕ) → ℕ → ℕ → ℕ → ℕ → ℕ → ℕ
node_made s cells log key second third = five cells (cell_of s.fixed_cells (s.slot log))
    (λ cell. next_word (s.first log cell) (slice_index (0 ∷ key ∷ second ∷ third ∷ 0 ∷ []) cell))

-- the steps that make it; the first of these two values may be one that was agreed on
abbrev pub making : ℕ → ℕ → Source → ℕ → List Micro → List Micro
making log key second third rest =
    PrivateLoad 0 log ∷ PrivateStore 0 log (Fixed 0) ∷ PrivateLoad 1 log ∷ PrivateStore 1 log (Fixed key) ∷
    PrivateLoad 2 log ∷ PrivateStore 2 log second ∷ PrivateLoad 3 log ∷ PrivateStore 3 log (Fixed third) ∷
    PrivateLoad 4 log ∷ PrivateStore 4 log (Fixed 0) ∷ MakeCommit log ∷ rest

-- a run that ends with this answer and leaves these cells
pub record Ends (answer : ℕ) (cells : ℕ → ℕ) (r : Run) : Type 0 where
  pub answered : r.outcome ≡ Some (Answered answer)
  pub left : r.cells ≡ cells

module _ (s : Setting) (cells : ℕ → ℕ) (clock stamp reply : ℕ) (t : Thunk) where
  abbrev pub begun : Run
  begun = record { cells = cells; clock = clock; stamp = stamp; reply = reply; trail = []; made = []; retired = []; outcome = None }

  abbrev edition : ℕ
  edition = cells (t.lock + 1)

  abbrev head : ℕ
  head = cells (t.lock + 2)

  abbrev link : ℕ
  link = cells (operand t 1)

  -- the cells with the new node's
  abbrev pub filled_cells : ℕ → ℕ
  filled_cells = node_made s cells 2 (operand t 1) (operand t 2) (operand t 3)

  abbrev pub inserted_cells : ℕ → ℕ
  inserted_cells = exchanged (exchanged filled_cells (t.lock + 2) head (next_word head (value_of (s.slot 2 + 1)))) (t.lock + 1) edition (next_word edition 0)

  abbrev pub removed_cells : ℕ → ℕ
  removed_cells = exchanged (exchanged cells (operand t 1) link (next_word link (operand t 3))) (t.lock + 1) edition (next_word edition 0)

  abbrev pub set_cells : ℕ → ℕ
  set_cells = exchanged (exchanged cells (operand t 1) link (next_word link (operand t 2))) (t.lock + 1) edition (next_word edition 0)

  pub read_run : edition ≡ operand t 0 → Ends (operand t 1) cells (ran s begun (line (read_steps t)))
  read_run same =
      subst (λ o. Ends (operand t 1) cells (ran s (record begun { trail = edition ∷ []; outcome = o }) (ClockLoad ∷ StampExchange ∷ ClockRaise ∷ ReplyExchange (operand t 1) ∷ [])))
      (sym (word_passes (t.lock + 1) (operand t 0) edition same)) (record { answered = refl; left = refl })

  abbrev made_node : List Micro
  made_node = making 2 (operand t 1) (Fixed (operand t 2)) (operand t 3) (ClockLoad ∷ StampExchange ∷ ClockRaise ∷
      ExchangeCell (t.lock + 2) 1 (Agreed 2) ∷ ExchangeCell (t.lock + 1) 0 (Fixed 0) ∷ ReplyExchange (1 * 2 ^ 32) ∷ [])

  pub insert_run : edition ≡ operand t 0 → version_of edition ≢ s.version_max → version_of head ≢ s.version_max → Ends (1 * 2 ^ 32) inserted_cells (ran s begun (line (insert_steps t)))
  insert_run same unspent unspent_head =
      subst (λ o. Ends (1 * 2 ^ 32) inserted_cells (ran s (record begun { trail = edition ∷ []; outcome = o }) (CheckFresh (t.lock + 1) 0 ∷ LoadCell (t.lock + 2) 1 ∷ Commit (t.lock + 2) 1 ∷ CheckFresh (t.lock + 2) 1 ∷ made_node)))
      (sym (word_passes (t.lock + 1) (operand t 0) edition same))
      (subst (λ o. Ends (1 * 2 ^ 32) inserted_cells (ran s (record begun { trail = edition ∷ []; outcome = o }) (LoadCell (t.lock + 2) 1 ∷ Commit (t.lock + 2) 1 ∷ CheckFresh (t.lock + 2) 1 ∷ made_node)))
      (sym (fresh_passes (t.lock + 1) edition s.version_max unspent))
      (subst (λ o. Ends (1 * 2 ^ 32) inserted_cells (ran s (record begun { trail = edition ∷ head ∷ []; outcome = o }) made_node))
      (sym (fresh_passes (t.lock + 2) head s.version_max unspent_head)) (record { answered = refl; left = refl })))

  abbrev taken_out : List Micro
  taken_out =
      ClockLoad ∷ StampExchange ∷ ClockRaise ∷ ExchangeCell (operand t 1) 1 (Fixed (operand t 3)) ∷ ExchangeCell (t.lock + 1) 0 (Fixed 0) ∷
      EpochForRetire (operand t 2) 2 ∷ RetireCommit (operand t 2) 2 ∷ ReplyExchange (4 * 2 ^ 32) ∷ []

  pub remove_run : edition ≡ operand t 0 → version_of edition ≢ s.version_max → version_of link ≢ s.version_max → Ends (4 * 2 ^ 32) removed_cells (ran s begun (line (remove_steps t)))
  remove_run same unspent unspent_link =
      subst (λ o. Ends (4 * 2 ^ 32) removed_cells (ran s (record begun { trail = edition ∷ []; outcome = o }) (CheckFresh (t.lock + 1) 0 ∷ LoadCell (operand t 1) 1 ∷ Commit (operand t 1) 1 ∷ CheckFresh (operand t 1) 1 ∷ taken_out)))
      (sym (word_passes (t.lock + 1) (operand t 0) edition same))
      (subst (λ o. Ends (4 * 2 ^ 32) removed_cells (ran s (record begun { trail = edition ∷ []; outcome = o }) (LoadCell (operand t 1) 1 ∷ Commit (operand t 1) 1 ∷ CheckFresh (operand t 1) 1 ∷ taken_out)))
      (sym (fresh_passes (t.lock + 1) edition s.version_max unspent))
      (subst (λ o. Ends (4 * 2 ^ 32) removed_cells (ran s (record begun { trail = edition ∷ link ∷ []; outcome = o }) taken_out))
      (sym (fresh_passes (operand t 1) link s.version_max unspent_link)) (record { answered = refl; left = refl })))

  abbrev valued : List Micro
  valued =
      ClockLoad ∷ StampExchange ∷ ClockRaise ∷ ExchangeCell (operand t 1) 1 (Fixed (operand t 2)) ∷ ExchangeCell (t.lock + 1) 0 (Fixed 0) ∷ ReplyExchange (operand t 3) ∷ []

  pub set_run : edition ≡ operand t 0 → version_of edition ≢ s.version_max → version_of link ≢ s.version_max → Ends (operand t 3) set_cells (ran s begun (line (set_steps t)))
  set_run same unspent unspent_value =
      subst (λ o. Ends (operand t 3) set_cells (ran s (record begun { trail = edition ∷ []; outcome = o }) (CheckFresh (t.lock + 1) 0 ∷ LoadCell (operand t 1) 1 ∷ Commit (operand t 1) 1 ∷ CheckFresh (operand t 1) 1 ∷ valued)))
      (sym (word_passes (t.lock + 1) (operand t 0) edition same))
      (subst (λ o. Ends (operand t 3) set_cells (ran s (record begun { trail = edition ∷ []; outcome = o }) (LoadCell (operand t 1) 1 ∷ Commit (operand t 1) 1 ∷ CheckFresh (operand t 1) 1 ∷ valued)))
      (sym (fresh_passes (t.lock + 1) edition s.version_max unspent))
      (subst (λ o. Ends (operand t 3) set_cells (ran s (record begun { trail = edition ∷ link ∷ []; outcome = o }) valued))
      (sym (fresh_passes (operand t 1) link s.version_max unspent_value)) (record { answered = refl; left = refl })))
