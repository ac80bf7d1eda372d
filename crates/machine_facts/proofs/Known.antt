-- What runners know of stamp and reply words stands.
use Rattle.std.specs.Prelude.{◌==◌, ◌&&◌, not, nat_lt, nat_le, Bool, true, false, slice_get, if◌then◌else◌}
use Rattle.std.proofs.Common.{◌≡◌, ◌≢◌, ℕ, zero, suc, List, [], ◌∷◌, ◌++◌, refl, sym, ap, ◌∙◌, subst, inl, inr, ⊎_elim, arith, Option, Some, None}
use Rattle.std.specs.Prelude.{◌⊎◌}
use Rattle.std.proofs.lemmas.Bool.{cases_eq}
use Rattle.std.proofs.lemmas.Bool.Decides.{nat_tests}
use Rattle.machine_states.specs.map_history.specs.declared.op.Request.{Request}
use Rattle.machine_states.specs.body_terms.specs.declared.micro.Micro.{Micro}
use Rattle.machine_states.specs.body_terms.specs.declared.micro.Micro.TheVariants as micros
use Rattle.machine_states.specs.body_terms.specs.Line.{is_end}
use Rattle.machine_states.specs.body_terms.specs.Run.{written_once}
use Rattle.machine_states.specs.table_words.specs.declared.layout.Layout.{Layout}
use Rattle.machine_states.specs.table_words.specs.declared.spot.Spot.{Spot}
use Rattle.machine_states.specs.table_words.specs.declared.spot.Spot.TheVariants as spots
use Rattle.machine_states.specs.table_words.specs.declared.access.Access.{Access}
use Rattle.machine_states.specs.table_words.specs.declared.access.Access.TheVariants.{Loads}
use Rattle.machine_states.specs.table_words.specs.Access.{written}
use Rattle.machine_states.specs.table_words.specs.Seen.{upd, put}
use Rattle.machine_states.specs.structure_laws.specs.Meaning.{Meaning}
use Rattle.machine_states.specs.epoch_core.specs.Moves.{is_clear}
use Rattle.machine_states.specs.runner_parts.specs.declared.entries.Known.{Known}
use Rattle.machine_states.specs.runner_parts.specs.declared.entries.Look.{Look}
use Rattle.machine_states.specs.runner_parts.specs.declared.event.EventKind.{EventKind}
use Rattle.machine_states.specs.runner_parts.specs.declared.event.EventKind.TheVariants as kinds
use Rattle.machine_states.specs.epoch_core.specs.declared.stage.Stage.{Stage}
use Rattle.machine_states.specs.epoch_core.specs.declared.stage.Stage.TheVariants as stages
use Rattle.machine_states.specs.runner_parts.specs.State.{RunState, RecordsState, PartState}
use Rattle.machine_states.specs.runner_parts.specs.Lists.{learned, cell_read}
use Rattle.machine_states.specs.runner_steps.specs.Sections.{thunk_of, is_open_run, next_of, reply_in}
use Rattle.machine_states.specs.runner_steps.specs.Reads.{read_reply_ask, read_stamp_ask, read_stamp_after, read_reply_after, read_stamped_after, reply_known, stamp_known}
use Rattle.machine_states.specs.runner_steps.specs.InRun.{last_clock, stamp_after, stamp_exchange_ask, reply_exchange_ask}
use Rattle.machine_states.specs.runner_steps.specs.Outside.{entry_spot}
use Rattle.machine_states.specs.epoch_core.specs.State.{last_epoch}
use Rattle.machine_states.specs.runner_steps.specs.Asks.{opening_ask}
use Rattle.machine_states.specs.runner_steps.specs.Asks.{asks, outside_ask, inside_ask, line_ask}
use Rattle.machine_states.specs.runner_steps.specs.After.{outside_after, line_after, inside_after, after_by, stepped, after}
use Rattle.machine_states.specs.runner_steps.specs.AfterInRun as inside
use Rattle.machine_states.specs.runner_steps.specs.AfterOutside as outside
use Rattle.machine_states.specs.runner_steps.specs.After.{leaves, knows_also}
use Rattle.machine_states.specs.Sight.{Sight, Steps, parts_after}
use Rattle.machine_states.proofs.Sights.{if_some, some_none}
use Rattle.machine_states.proofs.Steps.{some_same}
use Rattle.machine_states.proofs.Updates.{put_same, upd_here, upd_else}
use Rattle.machine_invariant.specs.machine_blocks.specs.machine_guards.specs.machine_agreement.specs.machine_epochs.proofs.OutsideAsked.{entry_asked}
use Rattle.machine_invariant.specs.machine_blocks.specs.machine_guards.specs.machine_agreement.specs.machine_epochs.proofs.ReadsAsked.{read_reply_asked, read_stamp_asked}
use Rattle.machine_invariant.proofs.Asked.{asked_by}
use Rattle.machine_facts.specs.Steps.{WordsStand}
use Rattle.machine_facts.specs.Known.{KnownStand}
use Rattle.machine_states.specs.table_words.specs.Places.{slot_count}

-- the runner knows the same, or one entry more, which isn't 0 and stands in these words
pub record Learns (word : Spot → ℕ) (p p' : PartState) : Type 0 where
  pub request : ℕ
  pub reply : Bool
  pub number : ℕ
  pub some : number ≢ 0
  pub more : p'.records.known ≡ p.records.known ++ record { request = request; reply = reply; number = number } ∷ []
  pub stands : word (entry_spot request reply) ≡ number

abbrev pub Knows : (Spot → ℕ) → PartState → PartState → Type 0
Knows word p p' = (p'.records.known ≡ p.records.known) ⊎ Learns word p p'

same_if : (b : Bool) (word : Spot → ℕ) (p x y : PartState) → Knows word p x → Knows word p y → Knows word p (if b then x else y)
same_if true word p x y one two = one
same_if false word p x y one two = two

-- a word is learned that stands
learns : (word : Spot → ℕ) (p p' : PartState) (request : ℕ) (reply : Bool) (number : ℕ) → word (entry_spot request reply) ≡ number
    → p'.records.known ≡ (learned p.records request reply number).known → Knows word p p'
learns word p p' request reply number stands is = ⊎_elim
    (λ zero. inl (is ∙ none p.records zero))
    (λ some. inr (record {
      request = request;
      reply = reply;
      number = number;
      some = some;
      more = is ∙ one p.records some;
      stands = stands;
    }))
    (cases_eq number 0)
  where
    none : (s : RecordsState) → number ≡ 0 → (learned s request reply number).known ≡ s.known
    none s e = ap (λ (b : Bool). (if b then s else record s { known = s.known ++ record { request = request; reply = reply; number = number } ∷ [] }).known) (is_zero e)
      where
        is_zero : number ≡ 0 → (number == 0) ≡ true
        is_zero e = grind (arith, nat_tests)

    one : (s : RecordsState) → number ≢ 0 → (learned s request reply number).known ≡ s.known ++ record { request = request; reply = reply; number = number } ∷ []
    one s ne = ap (λ (b : Bool). (if b then s else record s { known = s.known ++ record { request = request; reply = reply; number = number } ∷ [] }).known) (not_zero ne)
      where
        not_zero : number ≢ 0 → (number == 0) ≡ false
        not_zero ne = grind (arith, nat_tests)

stamp_put : (f : Spot → ℕ) (q v : ℕ) → put f (spots.Stamp q) v (spots.Stamp q) ≡ v
stamp_put f q v = grind (arith, nat_tests)

reply_put : (f : Spot → ℕ) (q v : ℕ) → put f (spots.Reply q) v (spots.Reply q) ≡ v
reply_put f q v = grind (arith, nat_tests)

module _ (m : Meaning) (l : Layout) (rs : List Request) (r : ℕ) (f : Spot → ℕ) (x : Spot × Access) where
  -- the words after the step, and the word that it found
  abbrev word' : Spot → ℕ
  word' = put f x.0 (written x.1 (f x.0))

  abbrev found : ℕ
  found = f x.0

  abbrev K : PartState → PartState → Type 0
  K = Knows word'

  scan_knows : (p : PartState) (stage : Stage) → K p (outside.scan_one_after l p stage found)
  scan_knows p (stages.Scanning e next clear) = same_if (nat_le next l.runners) word' p _ _
      (same_if (next == l.runners && not ((clear && is_clear e found) && nat_lt e last_epoch)) word' p _ _ (inl refl) (inl refl)) (inl refl)
  scan_knows p _ = inl refl

  advance_knows : (p : PartState) (stage : Stage) → K p (outside.advance_after p stage)
  advance_knows p (stages.Scanning e next clear) = same_if (nat_lt e last_epoch) word' p _ _ (inl refl) (inl refl)
  advance_knows p _ = inl refl

  -- a loaded word stands as it was found
  entry_knows : (p : PartState) (request : ℕ) (reply : Bool) → (entry_spot request reply, Loads) ≡ x
      → K p (outside.entry_after request reply p found)
  entry_knows p request reply is = learns word' p (outside.entry_after request reply p found) request reply found
      (subst (λ (y : Spot × Access). put f y.0 (written y.1 (f y.0)) (entry_spot request reply) ≡ f y.0) is
      (ap (λ (g : Spot → ℕ). g (entry_spot request reply)) (put_same f (entry_spot request reply)))) refl

  -- the words of a read stand as they were found, or as it wrote them
  read_reply_knows : (p : PartState) → read_reply_ask m l rs r p p.reads.look ≡ Some x → K p (read_reply_after m p found)
  read_reply_knows p asked =
      let h = read_reply_asked m l rs r p x asked in
      let n = h.look.thunk.request in
      let reply = reply_in (m.body h.look.thunk) in
      learns word' p (read_reply_after m p found) n true (written_once found reply)
      (subst (λ (y : Spot × Access). put f y.0 (written y.1 (f y.0)) (spots.Reply n) ≡ written_once (f y.0) reply) h.is (reply_put f n _))
      (ap (λ (o : Option Look). reply_known m o found p.records) h.at)

  read_stamp_knows : (p : PartState) → read_stamp_ask p p.reads.look ≡ Some x → K p (read_stamped_after p found)
  read_stamp_knows p asked =
      let h = read_stamp_asked p x asked in
      let n = h.look.thunk.request in
      let stamp = read_stamp_after h.look.clock in
      learns word' p (read_stamped_after p found) n false (written_once found stamp)
      (subst (λ (y : Spot × Access). put f y.0 (written y.1 (f y.0)) (spots.Stamp n) ≡ written_once (f y.0) stamp) h.is (stamp_put f n _))
      (ap (λ (o : Option Look). stamp_known o found p.records) h.at
      ∙ ap (λ (b : Bool). if b then (learned p.records n false (written_once found stamp)).known else p.records.known) h.clock)

  outside_knows : (kind : EventKind) (p : PartState) → outside_ask m l rs r kind p ≡ Some x → K p (outside_after m l kind p found)
  outside_knows (kinds.ScanOne n) p asked = scan_knows p p.stage
  outside_knows kinds.Advance p asked = advance_knows p p.stage
  outside_knows kinds.Split p asked = same_if (nat_lt p.records.splits l.runners) word' p _ _ (inl refl) (inl refl)
  outside_knows (kinds.LoadEntry request reply) p asked = entry_knows p request reply (entry_asked request reply p x asked)
  outside_knows (kinds.PrivateLoad slot word) p asked = same_if (nat_lt slot (slot_count l m.fixed_slots)) word' p _ _ (inl refl) (inl refl)
  outside_knows (kinds.Hold thunk d) p asked = same_if (found == thunk.word) word' p _ _ (inl refl) (inl refl)
  outside_knows (kinds.LoadCell (Some place)) p asked = inl refl
  outside_knows (kinds.LoadThunk (Some d)) p asked = inl refl
  outside_knows kinds.ReadReply p asked = read_reply_knows p asked
  outside_knows kinds.ReadStamp p asked = read_stamp_knows p asked
  outside_knows _ p asked = inl refl

  module _ (p : PartState) (q : RunState) where
    fill_knows : (slot : ℕ) (made : Option ℕ) → K p (inside.fill_loaded m l slot p q made found)
    fill_knows slot None = inl refl
    fill_knows slot (Some t) = inl refl

    make_knows : (made : Option ℕ) → K p (inside.make_committed m l p q made found)
    make_knows None = inl refl
    make_knows (Some t) = inl refl

    released_knows : (p1 : PartState) (q1 : RunState) → p1.records.known ≡ p.records.known → K p (inside.released_more m l p1 q1)
    released_knows p1 q1 same = by (is_end (next_of m q1))
      where
        by : (b : Bool) → K p (if b then inside.run_over m l p1 q1 else inside.with_run p1 q1)
        by true = inl same
        by false = inl same

    stamp_knows : (micro : Micro) → stamp_exchange_ask q micro ≡ Some x → K p (inside.stamp_agreed m l p q found)
    stamp_knows micros.StampExchange asked =
        let h = if_some (nat_lt q.word last_clock) _ x asked in
        let t = thunk_of q.opened in
        let stamp = written_once found (stamp_after q.word) in
        subst (λ (b : Bool). K p (if b then record p { run = Some (inside.goes_on m l q stamp); records = learned p.records t.request false stamp } else p)) (sym h.0)
        (learns word' p _ t.request false stamp
        (subst (λ (y : Spot × Access). put f y.0 (written y.1 (f y.0)) (spots.Stamp t.request) ≡ written_once (f y.0) (stamp_after q.word)) h.1
        (stamp_put f t.request _)) refl)
    stamp_knows _ asked = some_none x asked

    reply_knows : (micro : Micro) → reply_exchange_ask q micro ≡ Some x → K p (inside.reply_agreed m l (inside.reply_word_of micro) p q found)
    reply_knows (micros.ReplyExchange reply) asked =
        let t = thunk_of q.opened in
        learns word' p _ t.request true (written_once found reply)
        (subst (λ (y : Spot × Access). put f y.0 (written y.1 (f y.0)) (spots.Reply t.request) ≡ written_once (f y.0) reply) (some_same _ x asked)
        (reply_put f t.request _)) refl
    reply_knows _ asked = some_none x asked

    line_knows : (kind : EventKind) (micro : Micro) → line_ask m l kind p.nodes.free p.blocks.free q micro ≡ Some x → K p (line_after m l kind p q micro found)
    line_knows (kinds.PrivateLoad slot word) micro asked = fill_knows slot q.made
    line_knows kinds.MakeCommit micro asked = make_knows q.made
    line_knows kinds.StampExchange micro asked = stamp_knows micro asked
    line_knows kinds.ReplyExchange micro asked = reply_knows micro asked
    line_knows kinds.Release micro asked = released_knows (record p { reads = cell_read p.reads (inside.place_of micro) found }) (inside.ended_more q) refl
    line_knows _ micro asked = inl refl

    inside_knows : (kind : EventKind) → inside_ask m l kind p.nodes.free p.blocks.free q ≡ Some x → K p (inside_after m l kind p q found)
    inside_knows kind asked = by (is_open_run q) asked
      where
        by : (b : Bool) → (if b then line_ask m l kind p.nodes.free p.blocks.free q (next_of m q) else opening_ask kind q) ≡ Some x
            → K p (if b then line_after m l kind p q (next_of m q) found else inside.opened_more p q found)
        by true e = line_knows kind (next_of m q) e
        by false e = inl refl

  stepped_knows : (kind : EventKind) (p : PartState) → asks m l rs r kind p ≡ Some x → K p (stepped m l kind p found)
  stepped_knows kind p asked = by p.run refl
    where
      by : (run : Option RunState) → p.run ≡ run → K p (after_by m l kind p run found)
      by None is = outside_knows kind p (asked_by m l r kind p rs x None is asked)
      by (Some q) is = inside_knows p q kind (asked_by m l r kind p rs x (Some q) is asked)

-- an entry of two lists is of the one or of the other
entry_of_both : (xs ys : List Known) (i : ℕ) (x : Known) → slice_get (xs ++ ys) i ≡ Some x
    → (slice_get xs i ≡ Some x) ⊎ ((n : ℕ) × (slice_get ys n ≡ Some x))
entry_of_both [] ys i x e = inr (i, e)
entry_of_both (y ∷ xs) ys zero x e = inl e
entry_of_both (y ∷ xs) ys (suc i) x e = entry_of_both xs ys i x e

only_entry : (y x : Known) (n : ℕ) → slice_get (y ∷ []) n ≡ Some x → y ≡ x
only_entry y x zero e = cc
only_entry y x (suc n) e = absurd (let no : ⊥ = cc in no)

-- an entry that stands
record Stands (word : Spot → ℕ) (x : Known) : Type 0 where
  pub some : x.number ≢ 0
  pub stands : word (entry_spot x.request x.reply) ≡ x.number

module _ (m : Meaning) (l : Layout) (rs : List Request) (s s' : Sight) (r : ℕ) (kind : EventKind) (step : Steps m l rs s s' r kind)
    (used : ℕ → Bool) (words : WordsStand used s.word s'.word) (old : KnownStand s) where
  abbrev found_here : ℕ
  found_here = s.word step.ask.0

  part1 : PartState
  part1 = after m l r kind step.ask.0 step.ask.1 (s.part r) found_here

  -- an entry that stood before
  entry_stands : (x : Known) → x.number ≢ 0 → s.word (entry_spot x.request x.reply) ≡ x.number → Stands s'.word x
  entry_stands x some stands = record { some = some; stands = by x.reply stands }
    where
      by : (reply : Bool) → s.word (entry_spot x.request reply) ≡ x.number → s'.word (entry_spot x.request reply) ≡ x.number
      by true stands = words.reply x.request (λ z. some (sym stands ∙ z)) ∙ stands
      by false stands = words.stamp x.request (λ z. some (sym stands ∙ z)) ∙ stands

  before : (r1 i : ℕ) (x : Known) → slice_get (s.part r1).records.known i ≡ Some x → Stands s'.word x
  before r1 i x at = entry_stands x (old.some r1 i x at) (old.stands r1 i x at)

  -- what the stepping runner knows of its own step
  own : (i : ℕ) (x : Known) → slice_get part1.records.known i ≡ Some x → Stands s'.word x
  unfolding part1
  own i x at = ⊎_elim
      (λ same. before r i x (ap (λ xs. slice_get xs i) (sym (noted' ∙ same)) ∙ at))
      (λ y. ⊎_elim
      (λ there. before r i x there)
      (λ now. subst (Stands s'.word) (only_entry _ x now.0 now.1) (record {
        some = y.some;
        stands = ap (λ (t : Sight). t.word (entry_spot y.request y.reply)) step.next ∙ y.stands;
      }))
      (entry_of_both (s.part r).records.known _ i x (ap (λ xs. slice_get xs i) (sym (noted' ∙ y.more)) ∙ at)))
      (stepped_knows m l rs r s.word step.ask kind (s.part r) step.asked)
    where
      noted' : part1.records.known ≡ (stepped m l kind (s.part r) found_here).records.known
      noted' = refl

  all : (r1 i : ℕ) (x : Known) → slice_get (s'.part r1).records.known i ≡ Some x → Stands s'.word x
  unfolding part1
  all r1 i x at = at_kind kind (subst (λ (t : Sight). slice_get (t.part r1).records.known i ≡ Some x) step.next at)
    where
      one : slice_get (upd s.part r part1 r1).records.known i ≡ Some x → Stands s'.word x
      one at = ⊎_elim
          (λ e. own i x (ap (λ (p : PartState). slice_get p.records.known i) (sym (ap (upd s.part r part1) e ∙ upd_here s.part r part1)) ∙ at))
          (λ ne. before r1 i x (ap (λ (p : PartState). slice_get p.records.known i) (sym (upd_else s.part r part1 r1 ne)) ∙ at))
          (cases_eq r1 r)

      joining : (worker : ℕ) → slice_get (upd (upd s.part r (knows_also part1 (s.part worker))) worker (leaves (s.part worker)) r1).records.known i ≡ Some x
          → Stands s'.word x
      joining worker at =
          let f = upd s.part r (knows_also part1 (s.part worker)) in
          ⊎_elim
          (λ e. before worker i x (ap (λ (p : PartState). slice_get p.records.known i)
          (sym (ap (upd f worker (leaves (s.part worker))) e ∙ upd_here f worker (leaves (s.part worker)))) ∙ at))
          (λ ne. ⊎_elim
          (λ e. ⊎_elim (λ mine. own i x mine) (λ theirs. before worker theirs.0 x theirs.1)
          (entry_of_both part1.records.known (s.part worker).records.known i x
          (ap (λ (p : PartState). slice_get p.records.known i) (sym (upd_else f worker (leaves (s.part worker)) r1 ne
          ∙ (ap f e ∙ upd_here s.part r (knows_also part1 (s.part worker))))) ∙ at)))
          (λ ne'. before r1 i x (ap (λ (p : PartState). slice_get p.records.known i) (sym (upd_else f worker (leaves (s.part worker)) r1 ne
          ∙ upd_else s.part r (knows_also part1 (s.part worker)) r1 ne')) ∙ at))
          (cases_eq r1 r))
          (cases_eq r1 worker)

      at_kind : (kind' : EventKind) → slice_get (parts_after kind' s.part r part1 r1).records.known i ≡ Some x → Stands s'.word x
      at_kind (kinds.Join worker) at = joining worker at
      at_kind kind' at = one at

  pub known_stand : KnownStand s'
  known_stand = record { some = λ r1 i x at. (all r1 i x at).some; stands = λ r1 i x at. (all r1 i x at).stands }
