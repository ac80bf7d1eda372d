-- The rest of a read from its parts on.
use Rattle.std.specs.Prelude.{◌==◌, not, Bool, true, false, if◌then◌else◌}
use Rattle.std.proofs.Common.{◌≡◌, ◌≢◌, ℕ, ◌+◌, ◌*◌, refl, sym, ◌∙◌, subst, arith, Some}
use Rattle.machine_states.specs.epoch_core.specs.small_lemmas.proofs.Numbers.{tested_equal, tested_other}
use Rattle.machine_states.specs.epoch_core.specs.small_lemmas.proofs.Bools.{negated}
use Rattle.machine_states.specs.map_history.specs.declared.op.Request.{Request}
use Rattle.machine_states.specs.map_history.specs.declared.reply.Reply.{Reply}
use Rattle.machine_states.specs.map_history.specs.Words.{word_of, IsReply}
use Rattle.machine_states.specs.body_terms.specs.Word.{is_free}
use Rattle.machine_states.specs.body_terms.specs.declared.thunk.Thunk.{Thunk}
use Rattle.machine_states.specs.table_words.specs.Limits.{IsWithinLimits}
use Rattle.caller_facts.specs.section_runs.specs.runner_gate.specs.Asks.{Asks}
use Rattle.machine_states.specs.structure_laws.specs.Scene.{Readings}
use Rattle.machine_states.specs.structure_laws.specs.Meaning.{Meaning}
use Rattle.machine_states.specs.structure_laws.specs.Laws.{Laws}
use Rattle.machine_states.specs.runner_parts.specs.declared.event.EventKind.TheVariants as kinds
use Rattle.machine_states.specs.runner_steps.specs.Sections.{reply_in}
use Rattle.caller_facts.specs.version_words.specs.machine_invariant.specs.After.{AreAllowed}
use Rattle.caller_facts.specs.version_words.specs.RunnerState.{RunnerState}
use Rattle.caller_facts.specs.version_words.specs.Events.{Makes, IsMade}
use Rattle.caller_facts.specs.section_runs.specs.commit_log.specs.Asked.{IsAsked}
use Rattle.caller_facts.specs.section_runs.specs.commit_log.proofs.Asked.{asked_more}
use Rattle.caller_facts.specs.epoch_slots.specs.Entries.{Exits}
use Rattle.caller_facts.specs.try_lock.specs.Planning.{Planning}
use Rattle.caller_facts.proofs.Counting.{seen_then}
use Rattle.caller_facts.proofs.Standing.{made_reached}
use Rattle.seq_read.specs.Course.{of_lock, HasFound, HasAnnounced, HasClock, HasLock, HasReplied, HasStamped, ByLock, loaded_steps, locked_steps}
use Rattle.seq_read.specs.Reads.{is_halted, BehindPlan, BehindClock, BehindLock}
use Rattle.seq_read.specs.Parts.{Rests}
use Rattle.seq_read.specs.declared.answers.Read.{Read}
use Rattle.seq_read.specs.declared.answers.Read.TheVariants as answers
use Rattle.seq_read.proofs.Courses.{announced_of, clock_of, lock_of}
use Rattle.seq_read.proofs.Writing.{LooksStand, replied_of, stamped_of}
use Rattle.seq_read.proofs.Resting.{is_refusal, refused_rests, halted_rests, reading_halted}
use Rattle.seq_read.proofs.Ending.{replied_halted_rests, stamped_halted_rests, served_rests}

-- so many steps, with an ask after each, and then the rest
pub rests_more : {T : Type 0} (m : Meaning) (planning : Planning) (request : Request) (n before before' : ℕ) (answer : Read) (old new : RunnerState T)
    (Seen : ℕ → Asks → Type 0) (halts halts1 halts' : ℕ) (asks asks1 asks' : Asks) (steps steps1 steps' : ℕ) → before' ≡ before + n
    → IsAsked n true halts halts1 asks asks1 steps steps1 → Rests m planning request before' answer old new Seen halts1 halts' asks1 asks' steps1 steps'
    → Rests m planning request before answer old new Seen halts halts' asks asks' steps steps'
rests_more m planning request n before before' answer old new Seen halts halts1 halts' asks asks1 asks' steps steps1 steps' e asked rests = record {
  answers = rests.answers;
  made = n + rests.made;
  made_is = (let sum : before + (n + rests.made) ≡ before' + rests.made = omega (arith, e) in sum) ∙ rests.made_is;
  asked = asked_more n rests.made (not (is_halted answer)) halts halts1 halts' asks asks1 asks' steps steps1 steps' asked rests.asked;
  let_go = λ halted. let last = rests.let_go halted in (
    n + last.0,
    (let sum : 1 + before + (n + last.0) ≡ 1 + before' + last.0 = omega (arith, e) in sum) ∙ last.1,
    seen_then Seen halts halts1 asks asks1 n last.0 (asked.went refl) asked.asked last.2,
  );
}

-- two words that were compared
pub words_differ : (a b : ℕ) → not (a == b) ≡ true → a ≢ b
words_differ a b e = tested_other a b (negated (a == b) e)

pub words_agree : (a b : ℕ) → not (a == b) ≡ false → a ≡ b
words_agree a b e = tested_equal a b (granted (a == b) e)
  where
    granted : (c : Bool) → not c ≡ false → c ≡ true
    granted true e = refl
    granted false e = absurd (let z = e in cc)

lock_refuses : (thunk : Thunk) (word : ℕ) → is_refusal (of_lock thunk word) ≡ true
lock_refuses thunk word = by (is_free word)
  where
    by : (b : Bool) → is_refusal (if b then answers.Stale thunk.lock thunk.word word else answers.Busy thunk.lock word) ≡ true
    by true = refl
    by false = refl

module _ {T : Type 0} (m : Meaning) (laws : Laws m) (map : m.is_map ≡ true) (planning : Planning) (request : Request) (old : RunnerState T)
    (limits : IsWithinLimits old.layout) (allowed : AreAllowed old.requests) (looks : LooksStand m) (thunk : Thunk) (found : Readings) (Seen : ℕ → Asks → Type 0) where
  -- the lock has its word again: the two words are written
  module _ (clock : ℕ) (r r1 : RunnerState T) (is : HasLock m planning request thunk found clock thunk.word old r) (one : Makes m kinds.ReadReply 0 r r1)
      (halts halts1 : ℕ) (asks asks1 : Asks) (steps steps1 : ℕ) where
    abbrev pub before : ℕ
    before = locked_steps m planning request thunk found clock thunk.word old r is

    abbrev pub replied : HasReplied m planning request thunk found clock old r1
    replied = replied_of m laws planning request old limits allowed looks thunk found clock r is r1 0 one

    pub reply_cut : Seen halts asks → IsAsked 1 false halts halts1 asks asks1 steps steps1
        → Rests m planning request before answers.Halted old r1 Seen halts halts1 asks asks1 steps steps1
    reply_cut seen asked = replied_halted_rests m laws map planning request old limits allowed looks thunk found clock r1 replied before 1 0 refl (omega arith) Seen
        halts halts1 asks asks1 steps steps1 asked seen

    module _ (asked : IsAsked 1 true halts halts1 asks asks1 steps steps1) (r2 : RunnerState T) (two : Makes m kinds.ReadStamp 0 r1 r2)
        (halts2 : ℕ) (asks2 : Asks) (steps2 : ℕ) where
      abbrev pub stamped : HasStamped m planning request thunk found clock old r2
      stamped = stamped_of m laws planning request old limits allowed looks thunk found clock r1 replied r2 0 two

      pub stamp_cut : Seen halts1 asks1 → IsAsked 1 false halts1 halts2 asks1 asks2 steps1 steps2
          → Rests m planning request before answers.Halted old r2 Seen halts halts2 asks asks2 steps steps2
      stamp_cut seen last = stamped_halted_rests m laws map planning request old limits allowed looks thunk found clock r2 stamped before 2 1 (omega arith) (omega arith) Seen
          halts halts2 asks asks2 steps steps2
          (asked_more 1 1 false halts halts1 halts2 asks asks1 asks2 steps steps1 steps2 asked last)
          (seen_then Seen halts halts1 asks asks1 1 0 (asked.went refl) asked.asked seen)

      pub read_done : IsAsked 1 true halts1 halts2 asks1 asks2 steps1 steps2 → (new : RunnerState T) → Exits m r2 new → (reply : Reply)
          → ((other : Reply) → IsReply other → word_of other ≡ reply_in (m.body thunk) → reply ≡ other)
          → Rests m planning request before (answers.Done reply (2 * clock + 1)) old new Seen halts halts2 asks asks2 steps steps2
      read_done last new exits reply whole = served_rests m laws map planning request old limits allowed looks thunk found clock r2 stamped new exits reply whole
          before 2 (omega arith) Seen halts halts2 asks asks2 steps steps2
          (asked_more 1 1 true halts halts1 halts2 asks asks1 asks2 steps steps1 steps2 asked last)

  -- the cells hold what the body wants: the read is announced
  module _ (r r1 : RunnerState T) (is : HasFound m planning request thunk found old r) (plan : IsMade m (kinds.ReadPlan thunk) r r1)
      (halts halts1 : ℕ) (asks asks1 : Asks) (steps steps1 : ℕ) where
    abbrev pub behind : ℕ
    behind = loaded_steps m planning request thunk found old r is.loads

    abbrev pub announced : HasAnnounced m planning request thunk found old r1
    announced = announced_of m planning request old thunk found r r1 is plan.found plan.event

    pub plan_cut : Seen halts asks → IsAsked 1 false halts halts1 asks asks1 steps steps1
        → Rests m planning request behind answers.Halted old r1 Seen halts halts1 asks asks1 steps steps1
    plan_cut seen asked = halted_rests m laws planning request old limits allowed is.loads.plans.enters.may r1
        (reading_halted m laws planning request old limits allowed is.loads.plans.enters.may r1 (BehindPlan thunk found announced) refl refl announced.reading
        (made_reached m (kinds.ReadPlan thunk) plan.found r r1 plan.event)) behind 1 0 refl (omega arith) Seen halts halts1 asks asks1 steps steps1 asked seen

    -- the clock is loaded
    module _ (asked : IsAsked 1 true halts halts1 asks asks1 steps steps1) (clock : ℕ) (r2 : RunnerState T) (load : Makes m kinds.ReadClock clock r1 r2)
        (halts2 : ℕ) (asks2 : Asks) (steps2 : ℕ) where
      abbrev pub clocked : HasClock m planning request thunk found clock old r2
      clocked = clock_of m planning request old thunk found r1 r2 clock announced load

      pub clock_cut : Seen halts1 asks1 → IsAsked 1 false halts1 halts2 asks1 asks2 steps1 steps2
          → Rests m planning request behind answers.Halted old r2 Seen halts halts2 asks asks2 steps steps2
      clock_cut seen last = halted_rests m laws planning request old limits allowed is.loads.plans.enters.may r2
          (reading_halted m laws planning request old limits allowed is.loads.plans.enters.may r2 (BehindClock thunk found clock clocked) refl refl clocked.reading
          (made_reached m kinds.ReadClock clock r1 r2 load)) behind 2 1 refl (omega arith) Seen halts halts2 asks asks2 steps steps2
          (asked_more 1 1 false halts halts1 halts2 asks asks1 asks2 steps steps1 steps2 asked last)
          (seen_then Seen halts halts1 asks asks1 1 0 (asked.went refl) asked.asked seen)

      -- and the lock
      module _ (went : IsAsked 1 true halts1 halts2 asks1 asks2 steps1 steps2) (word : ℕ) (r3 : RunnerState T)
          (again : Makes m (kinds.LoadCell (Some thunk.lock)) word r2 r3) (halts3 : ℕ) (asks3 : Asks) (steps3 : ℕ) where
        abbrev pub locked : HasLock m planning request thunk found clock word old r3
        locked = lock_of m planning request old thunk found clock r2 r3 word clocked again

        pub two_asked : IsAsked 2 true halts halts2 asks asks2 steps steps2
        two_asked = asked_more 1 1 true halts halts1 halts2 asks asks1 asks2 steps steps1 steps2 asked went

        pub lock_cut : Seen halts2 asks2 → IsAsked 1 false halts2 halts3 asks2 asks3 steps2 steps3
            → Rests m planning request behind answers.Halted old r3 Seen halts halts3 asks asks3 steps steps3
        lock_cut seen last = halted_rests m laws planning request old limits allowed is.loads.plans.enters.may r3
            (reading_halted m laws planning request old limits allowed is.loads.plans.enters.may r3 (BehindLock thunk found clock word locked) refl refl locked.reading
            (made_reached m (kinds.LoadCell (Some thunk.lock)) word r2 r3 again)) behind 3 2 refl (omega arith) Seen halts halts3 asks asks3 steps steps3
            (asked_more 2 1 false halts halts2 halts3 asks asks2 asks3 steps steps2 steps3 two_asked last)
            (seen_then Seen halts halts2 asks asks2 2 0 (two_asked.went refl) two_asked.asked seen)

        module _ (last : IsAsked 1 true halts2 halts3 asks2 asks3 steps2 steps3) where
          pub three_asked : IsAsked 3 true halts halts3 asks asks3 steps steps3
          three_asked = asked_more 2 1 true halts halts2 halts3 asks asks2 asks3 steps steps2 steps3 two_asked last

          -- it has another word
          pub moved_rests : word ≢ thunk.word → (new : RunnerState T) → Exits m r3 new
              → Rests m planning request behind (of_lock thunk word) old new Seen halts halts3 asks asks3 steps steps3
          moved_rests other new exits = refused_rests m laws planning request old limits allowed is.loads.plans.enters.may r3 new locked.reading exits
              (of_lock thunk word) (lock_refuses thunk word)
              (ByLock (record { thunk = thunk; found = found; clock = clock; word = word; locks = locked; other = other; same = refl })) behind 3 refl Seen
              halts halts3 asks asks3 steps steps3 three_asked

          -- or the rest follows
          pub confirmed_rests : (answer : Read) (new : RunnerState T) (halts' : ℕ) (asks' : Asks) (steps' : ℕ)
              → Rests m planning request (locked_steps m planning request thunk found clock word old r3 locked) answer old new Seen halts3 halts' asks3 asks' steps3 steps'
              → Rests m planning request behind answer old new Seen halts halts' asks asks' steps steps'
          confirmed_rests answer new halts' asks' steps' rests = rests_more m planning request 3 behind (locked_steps m planning request thunk found clock word old r3 locked)
              answer old new Seen halts halts3 halts' asks asks3 asks' steps steps3 steps' refl three_asked rests

          pub same_rests : word ≡ thunk.word → (answer : Read) (new : RunnerState T) (halts' : ℕ) (asks' : Asks) (steps' : ℕ)
              → ((locks : HasLock m planning request thunk found clock thunk.word old r3)
              → Rests m planning request (locked_steps m planning request thunk found clock thunk.word old r3 locks) answer old new Seen halts3 halts' asks3 asks' steps3 steps')
              → Rests m planning request behind answer old new Seen halts halts' asks asks' steps steps'
          same_rests e answer new halts' asks' steps' rest = confirmed_rests answer new halts' asks' steps'
              (subst (λ w. (locks : HasLock m planning request thunk found clock w old r3)
              → Rests m planning request (locked_steps m planning request thunk found clock w old r3 locks) answer old new Seen halts3 halts' asks3 asks' steps3 steps') (sym e) rest locked)
