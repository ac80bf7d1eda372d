-- Words of an own free descriptor that are loaded and stored.
use Rattle.std.proofs.Common.{◌≡◌, ◌≢◌, ℕ, suc, ◌+◌, ◌-◌, ◌<◌, ◌≤◌, List, [], ◌∷◌, ◌++◌, length, length-append, Bool, true, false, refl, sym, ap, subst, ◌∙◌, eq-eqb, ne_eqb, cond, ⊎_elim, arith, Option, Some, None, replicate}
use Rattle.std.specs.Prelude.{◌==◌, ◌&&◌, nat_lt, slice_index, if◌then◌else◌}
use Rattle.std.proofs.lemmas.Bool.{cases_lt}
use Rattle.std.proofs.lemmas.Bool.Decides.{nat_tests}
use Rattle.std.proofs.lemmas.List.{get_or_append_left}
use Rattle.std.proofs.Math.Seq.{get_or-append_seam, get_or-append_right}
use Rattle.machine_states.specs.epoch_core.specs.small_lemmas.proofs.Numbers.{less_tested}
use Rattle.machine_states.specs.body_terms.specs.declared.thunk.Thunk.{Thunk}
use Rattle.machine_states.specs.table_words.specs.Places.{part_words, descriptor_words, slot_count, descriptor_count}
use Rattle.machine_states.specs.structure_laws.specs.Meaning.{Meaning}
use Rattle.machine_states.specs.runner_parts.specs.declared.entries.Stored.{Stored}
use Rattle.machine_states.specs.runner_parts.specs.declared.event.EventKind.{EventKind}
use Rattle.machine_states.specs.runner_parts.specs.declared.event.EventKind.TheVariants as kinds
use Rattle.machine_states.specs.epoch_core.specs.declared.stage.Stage.TheVariants as stages
use Rattle.machine_states.specs.runner_parts.specs.State.{PartState, GuardsState, DescriptorsState}
use Rattle.machine_states.specs.runner_parts.specs.Tests.{has, is_some_of, last_stored, are_stored, is_prepared, thunk_words}
use Rattle.machine_states.specs.runner_parts.specs.Lists.{descriptor_stored, nodes_looked}
use Rattle.machine_states.specs.runner_steps.specs.Outside.{blocks_from}
use Rattle.machine_states.specs.runner_steps.specs.AfterOutside.{stored_if, descriptor_known}
use Rattle.machine_states.specs.runner_steps.specs.After.{outside_after}
use Rattle.machine_states.specs.runner_steps.specs.Blocks.{blocks_outside}
use Rattle.section_runs.specs.commit_log.specs.version_words.specs.RunnerState.{RunnerState}
use Rattle.section_runs.specs.commit_log.specs.version_words.specs.Events.{IsEnabled, Makes}
use Rattle.section_runs.specs.commit_log.specs.version_words.specs.Stages.{IsAt}
use Rattle.section_runs.specs.commit_log.specs.version_words.proofs.Stages.{may_load_word, may_store_word, then_loaded_word, then_stored_word}
use Rattle.epoch_slots.proofs.Outside.{nodes_made, descriptors_made, blocks_made, guards_made, reads_made, known_made, finished_made}
use Rattle.try_lock.specs.Prepares.{MaySet, KeepsElse, Stores, SetsWord, SetsWords, HasSet, IsReady}

-- what is known of a word after one more store
more_stored : (xs : List Stored) (d word n e w : ℕ) (so_far : Option ℕ) → last_stored (xs ++ record { descriptor = d; word = word; number = n } ∷ []) e w so_far ≡ cond (d == e && word == w) (Some n) (last_stored xs e w so_far)
more_stored [] d word n e w so_far = refl
more_stored (x ∷ xs) d word n e w so_far = more_stored xs d word n e w (cond (x.descriptor == e && x.word == w) (Some x.number) so_far)

-- what was known of these words of a descriptor, and this one's number
module _ (p q : DescriptorsState) (d word n : ℕ) (is : q ≡ descriptor_stored p d word n) where
  stored_here : last_stored q.stored d word None ≡ Some n
  stored_here = ap (λ (x : DescriptorsState). last_stored x.stored d word None) is ∙ (more_stored p.stored d word n d word None
      ∙ ap (λ (b : Bool). cond b (Some n) (last_stored p.stored d word None)) (let e : d == d && word == word ≡ true = grind (arith, nat_tests) in e))

  stored_there : (w : ℕ) → w ≢ word → last_stored q.stored d w None ≡ last_stored p.stored d w None
  stored_there w other = ap (λ (x : DescriptorsState). last_stored x.stored d w None) is ∙ (more_stored p.stored d word n d w None
      ∙ ap (λ (b : Bool). cond b (Some n) (last_stored p.stored d w None)) (let e : d == d && word == w ≡ false = grind (arith, nat_tests, other) in e))

module _ {T : Type 0} where
  pub keeps_all : (r : RunnerState T) → KeepsElse r r
  keeps_all r = record { number = refl; layout = refl; requests = refl; nodes = refl; free = refl; limbo = refl; blocks = refl; looked = refl; reads = refl; known = refl; finished = refl }

  pub keeps_on : (a b c : RunnerState T) → KeepsElse a b → KeepsElse b c → KeepsElse a c
  keeps_on a b c one two = record {
    number = two.number ∙ one.number;
    layout = two.layout ∙ one.layout;
    requests = two.requests ∙ one.requests;
    nodes = two.nodes ∙ one.nodes;
    free = two.free ∙ one.free;
    limbo = two.limbo ∙ one.limbo;
    blocks = two.blocks ∙ one.blocks;
    looked = two.looked ∙ one.looked;
    reads = two.reads ∙ one.reads;
    known = two.known ∙ one.known;
    finished = two.finished ∙ one.finished;
  }

  -- one word was noted, and nothing else
  record IsNoted (d word n : ℕ) (old new : RunnerState T) : Type 0 where
    pub keeps : KeepsElse old new
    pub at : (epoch : ℕ) → IsAt old (stages.Entered epoch) None → IsAt new (stages.Entered epoch) None
    pub here : last_stored new.part.descriptors.stored d word None ≡ Some n
    pub there : (w : ℕ) → w ≢ word → last_stored new.part.descriptors.stored d w None ≡ last_stored old.part.descriptors.stored d w None

  module _ (m : Meaning) (d word : ℕ) (r : RunnerState T) where
    abbrev slots : ℕ
    slots = slot_count r.layout m.fixed_slots

    noted_by : (k : EventKind) (found n : ℕ) (r' : RunnerState T) → Makes m k found r r' → r.part.run ≡ None
        → outside_after m r.layout k r.part found ≡ record (r.part) { descriptors = descriptor_stored r.part.descriptors d word n }
        → blocks_outside m r.layout k r.part found ≡ r.part.blocks
        → ((epoch : ℕ) → IsAt r (stages.Entered epoch) None → IsAt r' (stages.Entered epoch) None) → IsNoted d word n r r'
    noted_by k found n r' made resting part blocks at =
        let stored : r'.part.descriptors ≡ descriptor_stored r.part.descriptors d word n =
        descriptors_made m k found r r' made resting ∙ ap (λ (p : PartState). p.descriptors) part in
        record {
          keeps = record {
            number = ap (λ (y : RunnerState T). y.number) made.made;
            layout = ap (λ (y : RunnerState T). y.layout) made.made;
            requests = ap (λ (y : RunnerState T). y.requests) made.made;
            nodes = nodes_made m k found r r' made resting ∙ ap (λ (p : PartState). p.nodes) part;
            free = ap (λ (x : DescriptorsState). x.free) stored;
            limbo = ap (λ (x : DescriptorsState). x.limbo) stored;
            blocks = blocks_made m k found r r' made resting ∙ blocks;
            looked = ap (λ (g : GuardsState). g.looked) (guards_made m k found r r' made resting ∙ ap (λ (p : PartState). p.guards) part);
            reads = reads_made m k found r r' made resting ∙ ap (λ (p : PartState). p.reads) part;
            known = known_made m k found r r' made resting ∙ ap (λ (p : PartState). p.records.known) part;
            finished = finished_made m k found r r' made resting ∙ ap (λ (p : PartState). p.records.finished) part;
          };
          at = at;
          here = stored_here r.part.descriptors r'.part.descriptors d word n stored;
          there = stored_there r.part.descriptors r'.part.descriptors d word n stored;
        }

    own_word : slots + d - slots ≡ d
    own_word = omega arith

    -- a descriptor of the table stands before the blocks
    before_blocks : d < descriptor_count r.layout → nat_lt (slots + d) (blocks_from m r.layout) ≡ true
    before_blocks low = less_tested (slots + d) (blocks_from m r.layout) (omega (arith, low))

    -- the word was loaded
    noted_loaded : (found : ℕ) (r' : RunnerState T) → d < descriptor_count r.layout → Makes m (kinds.PrivateLoad (slots + d) word) found r r' → r.part.run ≡ None → IsNoted d word found r r'
    noted_loaded found r' low made resting =
        let past : nat_lt (slots + d) slots ≡ false = grind (arith, nat_tests) in
        noted_by (kinds.PrivateLoad (slots + d) word) found found r' made resting
        (ap (λ (b : Bool). if b then record (r.part) { nodes = nodes_looked r.layout r.part.nodes (slots + d) word found }
        else descriptor_known m r.layout (slots + d) word r.part found) past
        ∙ (ap (λ (b : Bool). record (r.part) { descriptors = stored_if b r.part.descriptors (slots + d - slots) word found }) (before_blocks low)
        ∙ ap (λ (n : ℕ). record (r.part) { descriptors = descriptor_stored r.part.descriptors n word found }) own_word))
        refl
        (λ epoch at. then_loaded_word m found r r' (stages.Entered epoch) None (slots + d) word at made)

    -- the word was stored
    noted_stored : (found n : ℕ) (r' : RunnerState T) → d < descriptor_count r.layout → Makes m (kinds.PrivateStore (slots + d) word n) found r r' → r.part.run ≡ None → IsNoted d word n r r'
    noted_stored found n r' low made resting =
        noted_by (kinds.PrivateStore (slots + d) word n) found n r' made resting
        (ap (λ (b : Bool). record (r.part) { descriptors = stored_if b r.part.descriptors (slots + d - slots) word n }) (before_blocks low)
        ∙ ap (λ (i : ℕ). record (r.part) { descriptors = descriptor_stored r.part.descriptors i word n }) own_word)
        refl
        (λ epoch at. then_stored_word m found r r' (stages.Entered epoch) None (slots + d) word at n made)

  noted_on : (d word n n' : ℕ) (a b c : RunnerState T) → IsNoted d word n a b → IsNoted d word n' b c → IsNoted d word n' a c
  noted_on d word n n' a b c one two = record {
    keeps = keeps_on a b c one.keeps two.keeps;
    at = λ epoch at. two.at epoch (one.at epoch at);
    here = two.here;
    there = λ w other. two.there w other ∙ one.there w other;
  }

  -- the runner may go on with the next word
  pub may_set : (d : ℕ) (old new : RunnerState T) → KeepsElse old new → ((epoch : ℕ) → IsAt old (stages.Entered epoch) None → IsAt new (stages.Entered epoch) None) → MaySet old d → MaySet new d
  may_set d old new keeps at may = record {
    epoch = may.epoch;
    at = at may.epoch may.at;
    free = record { own = ap (λ xs. has xs d) keeps.free ∙ may.free.own; few = subst (λ l. d < descriptor_count l) (sym keeps.layout) may.free.few };
  }

  module _ (m : Meaning) (d word : ℕ) (r : RunnerState T) (may : MaySet r d) (few : word < descriptor_words) where
    abbrev slot : ℕ
    slot = slot_count r.layout m.fixed_slots + d

    pub may_load : IsEnabled m (kinds.PrivateLoad slot word) r
    may_load = may_load_word m r (stages.Entered may.epoch) None d word refl may.at may.free few

    -- the word may be stored once it was loaded
    pub may_store : (found : ℕ) (s : RunnerState T) (n : ℕ) → Makes m (kinds.PrivateLoad slot word) found r s → IsEnabled m (kinds.PrivateStore slot word n) s
    may_store found s n made =
        let noted = noted_loaded m d word r found s may.free.few made may.at.resting in
        let next = may_set d r s noted.keeps noted.at may in
        subst (λ l. IsEnabled m (kinds.PrivateStore (slot_count l m.fixed_slots + d) word n) s) noted.keeps.layout
        (may_store_word m s (stages.Entered next.epoch) None d word refl next.at next.free few n)

    noted_by_test : (found n : ℕ) (s r' : RunnerState T) (b : Bool) → found == n ≡ b → Makes m (kinds.PrivateLoad slot word) found r s → Stores m b slot word n s r' → IsNoted d word n r r'
    noted_by_test found n s r' true e load same =
        let is : found ≡ n = grind (arith, nat_tests, e) in
        subst (λ (y : RunnerState T). IsNoted d word n r y) (sym same) (subst (λ k. IsNoted d word k r s) is (noted_loaded m d word r found s may.free.few load may.at.resting))
    noted_by_test found n s r' false e load made =
        let noted = noted_loaded m d word r found s may.free.few load may.at.resting in
        let event = subst (λ l. Makes m (kinds.PrivateStore (slot_count l m.fixed_slots + d) word n) made.found s r') (sym noted.keeps.layout) made.event in
        noted_on d word found n r s r' noted (noted_stored m d word s made.found n r' (subst (λ l. d < descriptor_count l) (sym noted.keeps.layout) may.free.few) event (noted.at may.epoch may.at).resting)

    -- once the word was set it's known
    noted_set : (n : ℕ) (r' : RunnerState T) → SetsWord m slot word n r r' → IsNoted d word n r r'
    noted_set n r' set = noted_by_test set.found n set.loaded r' (set.found == n) refl set.load set.store

  module _ (m : Meaning) where
    pub sets_more : (ns : List ℕ) (slot word n : ℕ) (r s t : RunnerState T) → SetsWords m slot word ns r s → SetsWord m slot (word + length ns) n s t → SetsWords m slot word (ns ++ n ∷ []) r t
    sets_more [] slot word n r s t same set =
        (t, subst (λ (y : RunnerState T). SetsWord m slot word n y t) same (subst (λ w. SetsWord m slot w n s t) (let e : word + 0 ≡ word = omega arith in e) set), refl)
    sets_more (x ∷ ns) slot word n r s t (y, one, rest) set =
        (y, one, sets_more ns slot (word + 1) n y s t rest (subst (λ w. SetsWord m slot w n s t) (let e : word + suc (length ns) ≡ word + 1 + length ns = omega arith in e) set))

    -- and more words behind these
    pub sets_all : (ns ks : List ℕ) (slot word behind : ℕ) (r s t : RunnerState T) → word + length ns ≡ behind → SetsWords m slot word ns r s → SetsWords m slot behind ks s t → SetsWords m slot word (ns ++ ks) r t
    sets_all [] ks slot word behind r s t is same sets =
        subst (λ (y : RunnerState T). SetsWords m slot word ks y t) same (subst (λ w. SetsWords m slot w ks s t) (let e : behind ≡ word = omega (arith, is) in e) sets)
    sets_all (x ∷ ns) ks slot word behind r s t is (y, one, rest) sets =
        (y, one, sets_all ns ks slot (word + 1) behind y s t (omega (arith, is)) rest sets)

    -- no word is set yet
    pub set_none : (d first : ℕ) (r : RunnerState T) → HasSet m d first [] r r
    set_none d first r = record { sets = refl; at = λ epoch at. at; keeps = keeps_all r; stored = λ i few. absurd (omega (arith, few)); others = λ w few. refl }

    -- and more words behind those that are set
    pub set_all : (d first behind : ℕ) (ns ks : List ℕ) (old r r' : RunnerState T) → first + length ns ≡ behind → HasSet m d first ns old r → HasSet m d behind ks r r' → HasSet m d first (ns ++ ks) old r'
    set_all d first behind ns ks old r r' is one two = record {
      sets = sets_all ns ks (slot_count old.layout m.fixed_slots + d) first behind old r r' is one.sets
          (subst (λ l. SetsWords m (slot_count l m.fixed_slots + d) behind ks r r') one.keeps.layout two.sets);
      at = λ epoch at. two.at epoch (one.at epoch at);
      keeps = keeps_on old r r' one.keeps two.keeps;
      stored = λ i low. ⊎_elim (λ less. two.others (first + i) (omega (arith, is, less)) ∙ (one.stored i less ∙ ap Some (sym (get_or_append_left ns ks 0 i less)))) (λ past. later i past low) (cases_lt i (length ns));
      others = λ w low. two.others w (omega (arith, is, low)) ∙ one.others w low;
    }
      where
        later : (i : ℕ) → length ns ≤ i → i < length (ns ++ ks) → last_stored r'.part.descriptors.stored d (first + i) None ≡ Some (slice_index (ns ++ ks) i)
        later i past low =
            let len = length-append ns ks in
            ap (λ w. last_stored r'.part.descriptors.stored d w None) (let e : first + i ≡ behind + (i - length ns) = omega (arith, is, past) in e)
            ∙ (two.stored (i - length ns) (omega (arith, past, low, len)) ∙ ap Some (sym (get_or-append_right ns ks i 0 past)))

    -- and one more
    module _ (d first : ℕ) (ns : List ℕ) (n : ℕ) (old r r' : RunnerState T) (so : HasSet m d first ns old r) (may : MaySet old d) (few : first + length ns < descriptor_words)
        (set : SetsWord m (slot_count r.layout m.fixed_slots + d) (first + length ns) n r r') where
      noted : IsNoted d (first + length ns) n r r'
      noted = noted_set m d (first + length ns) r (may_set d old r so.keeps so.at may) few n r' set

      stored_before : (i : ℕ) → (i < length ns) → last_stored r'.part.descriptors.stored d (first + i) None ≡ Some (slice_index (ns ++ n ∷ []) i)
      stored_before i low = noted.there (first + i) (λ e. omega (arith, e, low)) ∙ (so.stored i low ∙ ap Some (sym (get_or_append_left ns (n ∷ []) 0 i low)))

      stored_last : (i : ℕ) → length ns ≤ i → i < length (ns ++ n ∷ []) → last_stored r'.part.descriptors.stored d (first + i) None ≡ Some (slice_index (ns ++ n ∷ []) i)
      stored_last i past low =
          let len = length-append ns (n ∷ []) in
          let is : length ns ≡ i = omega (arith, past, low, len) in
          subst (λ k. last_stored r'.part.descriptors.stored d (first + k) None ≡ Some (slice_index (ns ++ n ∷ []) k)) is
          (noted.here ∙ ap Some (sym (get_or-append_seam ns n [] 0)))

      pub set_more : HasSet m d first (ns ++ n ∷ []) old r'
      set_more = record {
        sets = sets_more ns (slot_count old.layout m.fixed_slots + d) first n old r r' so.sets
            (subst (λ l. SetsWord m (slot_count l m.fixed_slots + d) (first + length ns) n r r') so.keeps.layout set);
        at = λ epoch at. noted.at epoch (so.at epoch at);
        keeps = keeps_on old r r' so.keeps noted.keeps;
        stored = λ i low. ⊎_elim (λ less. stored_before i less) (λ past. stored_last i past low) (cases_lt i (length ns));
        others = λ w low. noted.there w (λ e. omega (arith, e, low)) ∙ so.others w low;
      }

  -- a word that was right already, and one that wasn't
  module _ (m : Meaning) (slot word n found : ℕ) (r s : RunnerState T) (load : Makes m (kinds.PrivateLoad slot word) found r s) where
    pub set_already : found ≡ n → SetsWord m slot word n r s
    set_already is = record { found = found; loaded = s; load = load; store = subst (λ b. Stores m b slot word n s s) (sym (eq-eqb found n is)) refl }

    pub set_stored : (t : RunnerState T) → found ≢ n → ((k : ℕ) → Makes m (kinds.PrivateStore slot word n) k s t) → SetsWord m slot word n r t
    set_stored t other made = record {
      found = found;
      loaded = s;
      load = load;
      store = subst (λ b. Stores m b slot word n s t) (sym (ne_eqb found n other)) (record { found = 0; event = made 0 });
    }

-- what is known word by word
stored_by : (stored : List Stored) (d word : ℕ) (ns : List ℕ) → ((i : ℕ) → i < length ns → last_stored stored d (word + i) None ≡ Some (slice_index ns i)) → are_stored stored d word ns ≡ true
unfolding are_stored
stored_by stored d word [] each = refl
stored_by stored d word (n ∷ ns) each =
    let here : last_stored stored d word None ≡ Some n = ap (λ w. last_stored stored d w None) (let e : word ≡ word + 0 = omega arith in e) ∙ each 0 (omega arith) in
    let rest = stored_by stored d (word + 1) ns (λ i low. ap (λ w. last_stored stored d w None) (let e : word + 1 + i ≡ word + suc i = omega arith in e) ∙ each (suc i) (omega (arith, low))) in
    (λ i. is_some_of (here i) n && rest i) ∙ ap (λ (b : Bool). b && true) (eq-eqb n n refl)

-- the thunk's words, and then the others
module _ {T : Type 0} (m : Meaning) (r a b : RunnerState T) (t : Thunk) (d : ℕ) (first : HasSet m d 0 (thunk_words t) r a) (second : HasSet m d 12 (replicate (part_words + 2) 0) a b) where
  prepared : is_prepared b.part.descriptors.stored d t ≡ true
  prepared =
      let words = stored_by b.part.descriptors.stored d 0 (thunk_words t) (λ i low. second.others (0 + i) (let few : i < 12 = low in omega (arith, few)) ∙ first.stored i low) in
      let rest = stored_by b.part.descriptors.stored d 12 (replicate (part_words + 2) 0) second.stored in
      (λ i. words i && rest i)

  pub is_ready : IsReady m d t r b
  is_ready = record {
    sets = sets_all m (thunk_words t) (replicate (part_words + 2) 0) (slot_count r.layout m.fixed_slots + d) 0 12 r a b refl first.sets
        (subst (λ l. SetsWords m (slot_count l m.fixed_slots + d) 12 (replicate (part_words + 2) 0) a b) first.keeps.layout second.sets);
    at = λ epoch at. second.at epoch (first.at epoch at);
    keeps = keeps_on r a b first.keeps second.keeps;
    prepared = prepared;
  }
