-- A `get` that is read: what this leaves, where the read served it, and where a gate halted it.
use Rattle.std.specs.Prelude.{◌*◌, ◌%◌, Bool, true, false, slice_get, if◌then◌else◌}
use Rattle.std.proofs.Common.{◌≡◌, ℕ, ◌+◌, ◌≤◌, [], ◌∷◌, length, refl, sym, ap, ◌∙◌, subst, inl, inr, arith, Some, None}
use Rattle.std.proofs.lemmas.Bool.{true≢false}
use Rattle.machine_states.specs.map_history.specs.declared.op.Op.{Op}
use Rattle.machine_states.specs.map_history.specs.declared.op.Op.TheVariants.{Get, Ins, Del, Put, Mov}
use Rattle.machine_states.specs.map_history.specs.declared.op.Request.{Request}
use Rattle.machine_states.specs.map_history.specs.declared.reply.Reply.{Reply}
use Rattle.seq_read.specs.history_orders.specs.Turns.{Follows}
use Rattle.machine_states.specs.table_words.specs.Limits.{IsWithinLimits}
use Rattle.seq_read.specs.runner_gate.specs.Asks.{Asks}
use Rattle.machine_states.specs.structure_laws.specs.Meaning.{Meaning}
use Rattle.machine_states.specs.structure_laws.specs.Cells.{slots}
use Rattle.machine_states.specs.structure_laws.specs.Laws.{Laws}
use Rattle.machine_states.specs.structure_laws.specs.Scene.{Readings}
use Rattle.machine_states.specs.runner_parts.specs.declared.entries.Known.{Known}
use Rattle.machine_states.specs.runner_parts.specs.declared.entries.Published.{Published}
use Rattle.machine_states.specs.runner_parts.specs.Tests.{is_answered, has_pair}
use Rattle.machine_states.proofs.Steps.{none_some}
use Rattle.version_words.specs.RunnerState.{RunnerState}
use Rattle.version_words.specs.machine_invariant.specs.After.{AreAllowed}
use Rattle.seq_read.specs.caller_facts.specs.request_facts.specs.Laws.{HasEntry}
use Rattle.seq_read.specs.caller_facts.specs.try_lock.specs.Planning.{Planning}
use Rattle.serving.specs.attempt_bounds.proofs.Along.{exits_on}
use Rattle.seq_read.specs.Reads.{most_of_get, IsInHistory, HasRead, Stops, AtEntry, InPlan, BehindCell, BehindPlan, BehindClock, BehindLock, BehindReply, BehindStamp, has_answered, read_steps, Reads}
use Rattle.seq_read.specs.declared.answers.Read.{Read}
use Rattle.seq_read.specs.declared.answers.Read.TheVariants as reads
use Rattle.serving.specs.Serving.{most_asks}
use Rattle.serving.specs.declared.answers.Served.{Served}
use Rattle.serving.specs.declared.answers.Served.TheVariants as answers
use Rattle.serving.proofs.Lists.{and_true, entry_known}
use Rattle.serving.proofs.Standing.{one_stamp}
use Rattle.free_serving.specs.Services.{is_get}
use Rattle.free_serving.specs.Left.{MostRuns, AreAskedWholly, WasPublished}
use Rattle.free_serving.specs.One.{IsServed as IsServedOne, Ends, LeavesOne}
use Rattle.free_serving.proofs.Chain.{only_place}
use Rattle.free_serving.proofs.Onward.{served_spared}

-- a `get` has a key
pub key_of : (op : Op) → is_get op ≡ true → (key : ℕ) × (op ≡ Get key)
key_of (Get key) e = (key, refl)
key_of (Ins key value) e = absurd (true≢false (sym e))
key_of (Del key) e = absurd (true≢false (sym e))
key_of (Put key value) e = absurd (true≢false (sym e))
key_of (Mov from to) e = absurd (true≢false (sym e))

-- a read of a `get`, with its asks, is within what one request may take
read_within : (made count more : ℕ) → made ≤ most_of_get count → more ≤ 2 → made + more ≤ most_asks count
read_within made count more few two = omega (arith, few, two)

odd_stamp : (clock stamp n : ℕ) → stamp ≡ 2 * clock + 1 → n ≡ stamp → n % 2 ≡ 1
odd_stamp clock stamp n is same = omega (arith, is, same)

some_pair : (readings : Readings) (place word : ℕ) → has_pair readings place word ≡ true → 1 ≤ length readings
some_pair [] place word e = absurd (true≢false (sym e))
some_pair (x ∷ readings) place word e = omega arith

module _ {T : Type 0} (m : Meaning) (planning : Planning) (retry_short : Bool) (q : Request) (old : RunnerState T) where
  -- a read that is made has loaded one cell at least in its plan
  read_many : (reply : Reply) (stamp : ℕ) (r : RunnerState T) (is : HasRead m planning q reply stamp old r)
      → 6 ≤ read_steps m planning q reply stamp old r is
  read_many reply stamp r is =
      let loads = is.stamps.replies.unmoved.clocks.announces.finds.loads in
      let some = some_pair loads.readings is.thunk.lock is.thunk.word loads.plans.answers.read in
      omega (arith, some)

  module _ (laws : Laws m) (new : RunnerState T) (limits : IsWithinLimits new.layout) (allowed : AreAllowed new.requests)
      (reply : Reply) (stamp : ℕ) (placed : IsInHistory m q.number stamp reply new)
      (above : (x : Known) → HasEntry old.part.records.known x → x.reply ≡ false → is_answered old.part.records.known x.request ≡ true → Follows x.number stamp)
      (clock : ℕ) (stamp_is : stamp ≡ 2 * clock + 1) where
    stamp_now : (y : Known) → HasEntry new.part.records.known y → y.reply ≡ false → y.request ≡ q.number → y.number ≡ stamp
    stamp_now y h is request = one_stamp m laws new limits allowed placed.reached y (record { request = q.number; reply = false; number = stamp }) h placed.knows_stamp request is refl

    -- the request is served, with an odd stamp
    pub read_served : IsServedOne m planning retry_short q old new
    read_served = record {
      answered = and_true _ _
          (entry_known new.part.records.known q.number false placed.knows_stamp.0 _ placed.knows_stamp.1 refl refl)
          (entry_known new.part.records.known q.number true placed.knows_reply.0 _ placed.knows_reply.1 refl refl);
      behind = λ x y hx isx was hy isy ofy. subst (λ n. Follows x.number n) (sym (stamp_now y hy isy ofy)) (above x hx isx was);
      odd = λ get. inl (λ y hy isy ofy. odd_stamp clock stamp y.number stamp_is (stamp_now y hy isy ofy));
    }

  -- the runner is idle, so it has published nothing
  no_section : (new : RunnerState T) → new.part.published ≡ None → (x : Published) → new.part.published ≡ Some x → ⊥
  no_section new none x some = none_some x (sym some ∙ none)

  module _ (laws : Laws m) (new : RunnerState T) (limits : IsWithinLimits new.layout) (allowed : AreAllowed new.requests) (get : is_get q.op ≡ true)
      (Seen : ℕ → Asks → Type 0) (halts halts' : ℕ) (asks asks' : Asks) (steps steps' : ℕ) where
    pub few_made : (answer : Read) (read : Reads m planning q answer old new Seen halts halts' asks asks' steps steps') → read.made ≤ most_of_get (slots m old.layout)
    few_made answer read = let key = key_of q.op get in read.brief key.0 key.1

    -- the read served the request; behind it the gate was asked once more
    module _ (reply : Reply) (stamp : ℕ) (read : Reads m planning q (reads.Done reply stamp) old new Seen halts halts' asks asks' steps steps') where
      done_runs : (answer : Served) → MostRuns answer 1 (length old.part.records.finished) (length new.part.records.finished)
      done_runs answers.All = let same = ap length read.finished in omega (arith, same)
      done_runs (answers.Short short) = let same = ap length read.finished in omega (arith, same)
      done_runs (answers.Spent place word) = let same = ap length read.finished in omega (arith, same)
      done_runs answers.Halted = let same = ap length read.finished in omega (arith, same)

      many : 8 ≤ read.made + 1 + 1
      many = let all = read_many reply stamp read.answers.stamped read.answers.read in let is = read.made_is in omega (arith, all, is)

      pub done_leaves : (answer : Served) → Ends m planning retry_short q answer 1 [] old new → LeavesOne m planning retry_short q answer 1 1 (read.made + 1 + 1) [] old new
      done_leaves answer ends = record {
        most = omega arith;
        served = λ one. read_served laws new limits allowed reply stamp read.answers.placed read.answers.read.above read.answers.read.clock read.answers.read.stamp_is;
        ends = ends;
        reached = inl read.answers.placed.reached;
        knows = read.knows;
        no_other = read.no_other;
        least = let some = many in omega (arith, some);
        whole = inl refl;
        brief = inr (record {
          runs = done_runs answer;
          few = let few = read_within read.made (slots m old.layout) 2 (few_made (reads.Done reply stamp) read) (omega arith) in omega (arith, few);
        });
        spared = λ all unwaited was. inr (served_spared m planning q old new read.answers.stamped read.answers.read.thunk read.answers.read.found read.answers.read.clock
            read.answers.read.stamps (exits_on m read.answers.stamped new read.answers.exits) read.finished was);
        next = λ is_get none was. absurd (let z : 1 ≡ 0 = none in omega (arith, z));
      }

      pub done_all : LeavesOne m planning retry_short q answers.All 1 1 (read.made + 1 + 1) [] old new
      done_all = done_leaves answers.All (refl, read.answers.tidy)

      pub done_halted : LeavesOne m planning retry_short q answers.Halted 1 1 (read.made + 1 + 1) [] old new
      done_halted = done_leaves answers.Halted (record {
        published = λ x some. absurd (no_section new read.answers.tidy.at.published x some);
        unanswered = λ none x there. absurd (let place = only_place q x 1 there in omega (arith, place.0));
      })

    -- or a gate halted it
    module _ (read : Reads m planning q reads.Halted old new Seen halts halts' asks asks' steps steps') where
      abbrev written : Bool
      written = has_answered m planning q old new read.answers.at

      abbrev count : ℕ
      count = if written then 1 else 0

      few_one : (b : Bool) → ◌≤◌ (if b then 1 else 0) 1
      few_one true = omega arith
      few_one false = omega arith

      is_written : (b : Bool) → ◌≡◌ {A = ℕ} (if b then 1 else 0) 1 → b ≡ true
      is_written true e = refl
      is_written false e = absurd (let z : 0 ≡ 1 = e in omega (arith, z))

      served_at : (at : Stops m planning q old new) → has_answered m planning q old new at ≡ true → IsServedOne m planning retry_short q old new
      served_at (BehindStamp reply stamp is in_time) e = read_served laws new limits allowed reply stamp is.placed is.above is.clock is.stamp_is
      served_at (AtEntry is) e = absurd (true≢false (sym e))
      served_at (InPlan readings is) e = absurd (true≢false (sym e))
      served_at (BehindCell thunk found some is) e = absurd (true≢false (sym e))
      served_at (BehindPlan thunk found is) e = absurd (true≢false (sym e))
      served_at (BehindClock thunk found clock is) e = absurd (true≢false (sym e))
      served_at (BehindLock thunk found clock word is) e = absurd (true≢false (sym e))
      served_at (BehindReply thunk found clock is) e = absurd (true≢false (sym e))

      unanswered_at : (b : Bool) → written ≡ b → (x : Request) → slice_get (q ∷ []) (if b then 1 else 0) ≡ Some x → is_answered new.part.records.known x.number ≡ false
      unanswered_at true e x there = absurd (let place = only_place q x 1 there in omega (arith, place.0))
      unanswered_at false e x there = subst (λ (y : Request). is_answered new.part.records.known y.number ≡ false) (only_place q x 0 there).1 (read.answers.answered ∙ e)

      runs_of : (b : Bool) → length new.part.records.finished ≤ length old.part.records.finished + ((if b then 1 else 0) + 1)
      runs_of true = let same = ap length read.finished in omega (arith, same)
      runs_of false = let same = ap length read.finished in omega (arith, same)

      wholly : (b : Bool) → AreAskedWholly (q ∷ []) answers.Halted (if b then 1 else 0) 0 new
      wholly true = inr (refl, read.answers.unpublished, refl, λ x there. absurd (let place = only_place q x 1 there in omega (arith, place.0)))
      wholly false = inl refl

      -- where its stamp isn't written it isn't answered
      unpublished_at : (b : Bool) → written ≡ b → ◌≡◌ {A = ℕ} (if b then 1 else 0) 0 → WasPublished q new → ⊥
      unpublished_at true e none was = let z : 1 ≡ 0 = none in omega (arith, z)
      unpublished_at false e none (inl section) = no_section new read.answers.unpublished section.0 section.1
      unpublished_at false e none (inr answered) = true≢false (sym answered ∙ (read.answers.answered ∙ e))

      pub cut_leaves : LeavesOne m planning retry_short q answers.Halted count 0 (read.made + 1) [] old new
      cut_leaves = record {
        most = few_one written;
        served = λ one. served_at read.answers.at (is_written written one);
        ends = record {
          published = λ x some. absurd (no_section new read.answers.unpublished x some);
          unanswered = λ none x there. inl (unanswered_at written refl x there);
        };
        reached = inl read.answers.reached;
        knows = read.knows;
        no_other = read.no_other;
        least = omega arith;
        whole = wholly written;
        brief = inr (record {
          runs = runs_of written;
          few = read_within read.made (slots m old.layout) 1 (few_made reads.Halted read) (omega arith);
        });
        spared = λ all. absurd (let z = all in cc);
        next = λ is_get none was. absurd (unpublished_at written refl none was);
      }

    -- or the one runner's read met a lock with too few versions left, and the serving stops at it
    module _ (alone : old.layout.runners ≡ 1) (place word : ℕ) (read : Reads m planning q (reads.Spent place word) old new Seen halts halts' asks asks' steps steps') where
      unpublished : WasPublished q new → ⊥
      unpublished (inl section) = no_section new read.answers.tidy.at.published section.0 section.1
      unpublished (inr answered) = true≢false (sym answered ∙ read.answers.untouched.unknown)

      pub spent_leaves : LeavesOne m planning retry_short q (answers.Spent place word) 0 0 (read.made + 1) [] old new
      spent_leaves = record {
        most = omega arith;
        served = λ one. absurd (let z : 0 ≡ 1 = one in omega (arith, z));
        ends = (
          refl,
          record {
            before = old;
            number = refl;
            spared = λ unwaited was. inr was;
            stops = inr (alone, read.answers);
            tidy = read.answers.tidy;
            unanswered = read.answers.untouched.unknown;
          },
        );
        reached = inl read.answers.untouched.reached;
        knows = read.knows;
        no_other = read.no_other;
        least = omega arith;
        whole = inl refl;
        brief = inr (record {
          runs = let same = ap length read.finished in omega (arith, same);
          few = read_within read.made (slots m old.layout) 1 (few_made (reads.Spent place word) read) (omega arith);
        });
        spared = λ all. absurd (let z = all in cc);
        next = λ is_get none was. absurd (unpublished was);
      }
