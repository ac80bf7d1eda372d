-- The two words of a read: they may be written, and each is written by its exchange.
use Rattle.std.specs.Prelude.{◌==◌, ◌&&◌, is_none, nat_lt, Bool, true, false, slice_get, if◌then◌else◌}
use Rattle.std.proofs.Common.{◌≡◌, ◌≢◌, ℕ, ◌-◌, ◌<◌, List, [], ◌∷◌, ◌++◌, length, refl, sym, ap, ◌∙◌, subst, arith, Some}
use Rattle.std.proofs.lemmas.Option.{slice_get_within}
use Rattle.machine_states.specs.epoch_core.specs.small_lemmas.proofs.Numbers.{tested_equal, self_tested as same_test, less_tested}
use Rattle.machine_states.specs.map_history.specs.declared.op.Request.{Request}
use Rattle.machine_states.specs.body_terms.specs.Run.{written_once}
use Rattle.machine_states.specs.body_terms.specs.Word.{is_spent}
use Rattle.machine_states.specs.body_terms.specs.declared.thunk.Thunk.{Thunk}
use Rattle.machine_states.specs.table_words.specs.declared.layout.Layout.{Layout}
use Rattle.machine_states.specs.table_words.specs.Limits.{IsWithinLimits}
use Rattle.machine_states.specs.table_words.specs.declared.spot.Spot.{Spot}
use Rattle.machine_states.specs.table_words.specs.declared.spot.Spot.TheVariants as spots
use Rattle.machine_states.specs.table_words.specs.declared.access.Access.{Access}
use Rattle.machine_states.specs.table_words.specs.declared.access.Access.TheVariants.{Exchanges}
use Rattle.machine_states.specs.table_words.specs.Access.{written}
use Rattle.machine_states.specs.structure_laws.specs.Scene.{Readings}
use Rattle.machine_states.specs.structure_laws.specs.Meaning.{Meaning}
use Rattle.machine_states.specs.structure_laws.specs.Laws.{Laws}
use Rattle.machine_states.specs.structure_laws.specs.Shape.{Shaped}
use Rattle.machine_states.specs.runner_parts.specs.declared.entries.Look.{Look}
use Rattle.machine_states.specs.runner_parts.specs.declared.entries.LookStage.TheVariants.{Replied}
use Rattle.machine_states.specs.runner_parts.specs.declared.event.EventKind.TheVariants as kinds
use Rattle.machine_states.specs.runner_parts.specs.State.{PartState, GuardsState, RecordsState}
use Rattle.machine_states.specs.runner_parts.specs.Lists.{learned}
use Rattle.machine_states.specs.runner_parts.specs.Tests.{knows, is_answered, is_between, is_next, is_walking}
use Rattle.machine_states.specs.runner_steps.specs.InRun.{last_clock}
use Rattle.machine_states.specs.runner_steps.specs.Sections.{reply_in}
use Rattle.machine_states.specs.runner_steps.specs.Reads.{is_fit, is_again, has_come, only_reads, may_reply, reply_known, stamp_known, read_stamp_after}
use Rattle.machine_states.specs.World.{World}
use Rattle.machine_states.specs.Reached.{Reached}
use Rattle.machine_states.specs.Sight.{sight, part_or_first}
use Rattle.machine_states.proofs.Steps.{some_same}
use Rattle.caller_facts.specs.version_words.specs.machine_invariant.specs.After.{AreAllowed}
use Rattle.next_steps.specs.Looks.{LooksHaveStamps}
use Rattle.caller_facts.specs.section_runs.proofs.Replies.{last_answer}
use Rattle.caller_facts.specs.epoch_slots.proofs.Outside.{nodes_made, descriptors_made, guards_made, known_made}
use Rattle.caller_facts.specs.try_lock.specs.declared.planned.Planned.TheVariants as plans
use Rattle.caller_facts.specs.try_lock.specs.Planning.{Planning}
use Rattle.caller_facts.specs.try_lock.specs.Reached.{IsReached}
use Rattle.caller_facts.specs.try_lock.specs.Plans.{IsFit}
use Rattle.caller_facts.specs.request_facts.specs.Placed.{IsUnserved}
use Rattle.caller_facts.specs.version_words.specs.RunnerState.{RunnerState}
use Rattle.caller_facts.specs.version_words.specs.Events.{met_by, Makes}
use Rattle.caller_facts.specs.Knowing.{IsOwn}
use Rattle.caller_facts.proofs.Knowing.{own_on}
use Rattle.caller_facts.proofs.Standing.{may_own, may_unknown, made_reached}
use Rattle.caller_facts.proofs.Shapes.{fitting_shaped}
use Rattle.seq_read.specs.Course.{HasPlanned, HasFound, HasLock, HasReplied, HasStamped}
use Rattle.seq_read.proofs.Looking.{fits_so, is_again_so}
use Rattle.seq_read.proofs.Events.{IsHere, may_write_reply, may_write_stamp}
use Rattle.seq_read.proofs.Courses.{planned_here, look_at, epoch_locked, walk_locked, lock_here, replied_here}
use Rattle.seq_read.proofs.Serving.{was_reached, was_found, unserved, stamp_unknown, stamp_untold, unstamped}

-- what is learned of a word that isn't 0
pub learned_so : (s : RecordsState) (n : ℕ) (reply : Bool) (number : ℕ) → number ≢ 0
    → (learned s n reply number).known ≡ s.known ++ record { request = n; reply = reply; number = number } ∷ []
learned_so s n reply number some = by (number == 0) refl
  where
    by : (b : Bool) → (number == 0) ≡ b → (learned s n reply number).known ≡ s.known ++ record { request = n; reply = reply; number = number } ∷ []
    by true e = absurd (some (tested_equal number 0 e))
    by false e = ap (λ b. (if b then s else record s { known = s.known ++ record { request = n; reply = reply; number = number } ∷ [] }).known) e

pub odd_some : (n : ℕ) → read_stamp_after n ≢ 0
odd_some n e = absurd (omega (arith, e))

-- what an exchange from 0 leaves where it finds 0
pub left_is : (spot : Spot) (number found left : ℕ) (met : Spot × Access) → met ≡ (spot, Exchanges 0 number) → left ≡ written met.1 found → found ≡ 0 → left ≡ number
left_is spot number found left met is told none = told ∙ (λ i. written ((is i).1) (none i))

-- a stamp can be made from each clock that a runner loaded for a read
abbrev pub LooksStand : Meaning → Type 0
LooksStand m = (l : Layout) (requests : List Request) (w : World) → IsWithinLimits l → AreAllowed requests → Reached m l requests w
    → LooksHaveStamps (sight m l requests w)

module _ {T : Type 0} (m : Meaning) (laws : Laws m) (planning : Planning) (request : Request) (old : RunnerState T)
    (limits : IsWithinLimits old.layout) (allowed : AreAllowed old.requests) where
  pub limits_of : (r : RunnerState T) → r.layout ≡ old.layout → IsWithinLimits r.layout
  limits_of r layout = subst IsWithinLimits (sym layout) limits

  pub allowed_of : (r : RunnerState T) → r.requests ≡ old.requests → AreAllowed r.requests
  allowed_of r requests = subst AreAllowed (sym requests) allowed

  -- the body of a planned thunk has the shape, and answers
  module _ (thunk : Thunk) (readings : Readings) (r : RunnerState T)
      (is : HasPlanned m planning request readings (plans.Thunk thunk) old r) where
    pub request_there : slice_get r.requests request.number ≡ Some request
    request_there = ap (λ rs. slice_get rs request.number) is.reading.still.requests ∙ is.enters.may.there

    pub planned_shaped : Shaped m r.layout readings thunk
    planned_shaped =
        let here = planned_here m planning request old readings (plans.Thunk thunk) r is in
        subst (λ xs. Shaped m r.layout xs thunk) here.has_read
        (fitting_shaped m laws request thunk r (limits_of r is.reading.still.layout) (allowed_of r is.reading.still.requests) is.reached is.enters.enters.epoch here.at request_there
        ((λ i. m.fits (is.reading.still.layout i) request.op (here.has_read i) thunk) ∙ is.answers.fits))

    pub answers_some : reply_in (m.body thunk) ≢ 0
    answers_some none = let last = last_answer (m.body thunk) planned_shaped.shape in
        let positive = planned_shaped.answers (length (m.body thunk) - 1) (reply_in (m.body thunk)) last.here in absurd (omega arith)

  -- the runner's own request, which it doesn't know
  module _ (thunk : Thunk) (found : Readings) (clock word : ℕ) (r : RunnerState T) (is : HasLock m planning request thunk found clock word old r) where
    abbrev pub finds_in : HasFound m planning request thunk found old is.clocks.announces.loaded
    finds_in = is.clocks.announces.finds

    pub own_locked : IsOwn r request
    own_locked = own_on old r is.reading.still.requests is.reading.still.layout is.reading.still.number request
        (may_own planning request old finds_in.loads.plans.enters.may)

    pub unknown_locked : is_answered r.part.records.known request.number ≡ false
    unknown_locked = ap (λ xs. is_answered xs request.number) is.reading.still.known ∙ may_unknown planning request old finds_in.loads.plans.enters.may

  -- a stamp can be made from each clock that was loaded for a read
  module _ (looks : LooksStand m) where
    module _ (thunk : Thunk) (found : Readings) (clock word : ℕ) (r : RunnerState T) (is : HasLock m planning request thunk found clock word old r) where
      pub clock_small : nat_lt clock last_clock ≡ true
      clock_small = less_tested clock last_clock
          (looks r.layout r.requests reached.world (limits_of r is.reading.still.layout) (allowed_of r is.reading.still.requests) reached.reached r.number
          (look_at m planning request old thunk found (walk_locked m planning request old thunk found clock word r is) clock)
          (ap (λ (p : PartState). p.reads.look) (ap part_or_first reached.own) ∙ (lock_here m planning request old thunk found clock word r is).looked))
        where
          reached : IsReached m r
          reached = made_reached m (kinds.LoadCell (Some thunk.lock)) word is.clocked r is.loads

    -- the lock has its word again
    module _ (thunk : Thunk) (found : Readings) (clock : ℕ) (r : RunnerState T)
        (is : HasLock m planning request thunk found clock thunk.word old r) where
      abbrev pub walk : Readings
      walk = walk_locked m planning request old thunk found clock thunk.word r is

      abbrev pub x : Look
      x = look_at m planning request old thunk found walk clock

      pub here : IsHere r (epoch_locked m planning request old thunk found clock thunk.word r is) (Some x) (walk ++ (thunk.lock, thunk.word) ∷ []) true
      here = lock_here m planning request old thunk found clock thunk.word r is

      abbrev pub readings : Readings
      readings = is.clocks.announces.finds.loads.readings

      abbrev pub fit : IsFit m planning old.layout request.op request.number readings thunk
      fit = is.clocks.announces.finds.loads.plans.answers

      pub some : reply_in (m.body thunk) ≢ 0
      some = answers_some thunk readings is.clocks.announces.finds.loads.planned is.clocks.announces.finds.loads.plans

      pub fits_here : is_fit m r.layout r.requests r.number x old.part.records.known (walk ++ (thunk.lock, thunk.word) ∷ []) ≡ true
      fits_here = fits_so m r.layout r.requests r.number request thunk readings found old.part.records.known clock
          is.clocks.announces.finds.finds ((thunk.lock, thunk.word) ∷ [])
          is.clocks.announces.finds.loads.looks some fit.free
          (ap (λ l. is_spent l.version_max thunk.word) is.reading.still.layout ∙ fit.unspent) fit.read
          (ap (slice_get r.requests) fit.request ∙ (own_locked thunk found clock thunk.word r is).there)
          ((λ i. is_next (is.reading.still.layout i) (is.reading.still.number i) (is.reading.still.requests i) old.part.records.known (Some request))
          ∙ is.clocks.announces.finds.loads.plans.enters.may.next)
          (ap (λ l. m.fits l request.op readings thunk) is.reading.still.layout ∙ fit.fits)

      pub may : may_reply m r.layout r.requests r.number r.part x ≡ true
      may = both (only_reads r.part) (has_come r.part x && is_fit m r.layout r.requests r.number x r.part.records.known r.part.reads.walk)
          (λ i. is_walking (here.at i) (here.resting i) && (here.loads_only i && is_none (here.unpublished i)))
          (both (has_come r.part x) _
          (both (nat_lt clock last_clock) _ (clock_small thunk found clock thunk.word r is)
          (both (length r.part.records.known == length old.part.records.known) _
          (ap (λ ks. length ks == length old.part.records.known) is.reading.still.known ∙ same_test (length old.part.records.known))
          (ap (is_again x) here.has_read ∙ is_again_so m r.layout r.requests r.number request thunk readings found old.part.records.known clock is.clocks.announces.finds.finds)))
          ((λ i. is_fit m r.layout r.requests r.number x (is.reading.still.known i) (here.has_read i)) ∙ fits_here))
        where
          both : (a b : Bool) → a ≡ true → b ≡ true → (a && b) ≡ true
          both a b one two = ap (λ c. c && b) one ∙ two

      pub low : thunk.request < length r.requests
      low = slice_get_within r.requests thunk.request request (ap (slice_get r.requests) fit.request ∙ (own_locked thunk found clock thunk.word r is).there)

      pub reply_asked : met_by m r kinds.ReadReply ≡ Some (spots.Reply thunk.request, Exchanges 0 (reply_in (m.body thunk)))
      reply_asked = may_write_reply m (epoch_locked m planning request old thunk found clock thunk.word r is) (walk ++ (thunk.lock, thunk.word) ∷ []) r x here may low

      -- nobody has served the request yet
      module _ (reached : IsReached m r) where
        pub still_unserved : IsUnserved m r.layout r.requests (sight m r.layout r.requests reached.world) request.number
        still_unserved = unserved m laws r (limits_of r is.reading.still.layout) (allowed_of r is.reading.still.requests) reached request (own_locked thunk found clock thunk.word r is)
            here.unpublished (ap is_between here.looked) (unknown_locked thunk found clock thunk.word r is)

        -- so it doesn't know the stamp
        pub unknown_stamp : knows old.part.records.known request.number false ≡ false
        unknown_stamp = ap (λ ks. knows ks request.number false) (sym is.reading.still.known)
            ∙ stamp_unknown m laws r (limits_of r is.reading.still.layout) (allowed_of r is.reading.still.requests) reached request.number still_unserved.stamp

      -- so the reply word was 0
      module _ (r' : RunnerState T) (none : ℕ) (made : Makes m kinds.ReadReply none r r') where
        pub reply_zero : none ≡ 0
        reply_zero = sym (was_found m kinds.ReadReply none r r' made (spots.Reply thunk.request) (Exchanges 0 (reply_in (m.body thunk))) reply_asked refl)
            ∙ (ap (λ n. (sight m r.layout r.requests made.shown.before).word (spots.Reply n)) fit.request
            ∙ (still_unserved (was_reached m kinds.ReadReply none r r' made)).reply)

        abbrev pub replied_of : HasReplied m planning request thunk found clock old r'
        replied_of = record {
          again = r;
          unmoved = is;
          writes = subst (λ n. Makes m kinds.ReadReply n r r') reply_zero made;
          slots = record {
            nodes = nodes_made m kinds.ReadReply none r r' made here.resting ∙ is.reading.slots.nodes;
            descriptors = descriptors_made m kinds.ReadReply none r r' made here.resting ∙ is.reading.slots.descriptors;
            guarded = ap (λ (g : GuardsState). g.named) (guards_made m kinds.ReadReply none r r' made here.resting) ∙ is.reading.slots.guarded;
            looked = ap (λ (g : GuardsState). g.looked) (guards_made m kinds.ReadReply none r r' made here.resting) ∙ is.reading.slots.looked;
          };
          known = known_made m kinds.ReadReply none r r' made here.resting
              ∙ (ap (λ o. reply_known m o none r.part.records) here.looked
              ∙ ((λ i. (learned r.part.records (fit.request i) true (written_once (reply_zero i) (reply_in (m.body thunk)))).known)
              ∙ (learned_so r.part.records request.number true (reply_in (m.body thunk)) some
              ∙ ap (λ ks. ks ++ record { request = request.number; reply = true; number = reply_in (m.body thunk) } ∷ []) is.reading.still.known)));
        }

        pub reply_left : (left : ℕ) → left ≡ written made.met.1 none → left ≡ reply_in (m.body thunk)
        reply_left left told = left_is (spots.Reply thunk.request) (reply_in (m.body thunk)) none left made.met
            (some_same made.met (spots.Reply thunk.request, Exchanges 0 (reply_in (m.body thunk))) (sym made.asked ∙ reply_asked)) told reply_zero

    -- the reply is written
    module _ (thunk : Thunk) (found : Readings) (clock : ℕ) (r : RunnerState T) (is : HasReplied m planning request thunk found clock old r) where
      abbrev pub walked : Readings
      walked = walk_locked m planning request old thunk found clock thunk.word is.again is.unmoved

      abbrev pub y : Look
      y = record (look_at m planning request old thunk found walked clock) { stage = Replied }

      pub there : IsHere r (epoch_locked m planning request old thunk found clock thunk.word is.again is.unmoved) (Some y) (walked ++ (thunk.lock, thunk.word) ∷ []) false
      there = replied_here m planning request old thunk found clock r is

      pub same_request : thunk.request ≡ request.number
      same_request = is.unmoved.clocks.announces.finds.loads.plans.answers.request

      pub same_layout : r.layout ≡ is.again.layout
      same_layout = ap (λ (z : RunnerState T). z.layout) is.writes.made

      pub same_requests : r.requests ≡ is.again.requests
      same_requests = ap (λ (z : RunnerState T). z.requests) is.writes.made

      pub same_number : r.number ≡ is.again.number
      same_number = ap (λ (z : RunnerState T). z.number) is.writes.made

      pub own_replied : IsOwn r request
      own_replied = own_on is.again r same_requests same_layout same_number request (own_locked thunk found clock thunk.word is.again is.unmoved)

      pub unknown_replied : is_answered r.part.records.known request.number ≡ false
      unknown_replied = ap (λ ks. is_answered ks request.number) is.known
          ∙ stamp_untold old.part.records.known request.number (reply_in (m.body thunk))
          (unknown_stamp thunk found clock is.again is.unmoved (was_reached m kinds.ReadReply 0 is.again r is.writes))

      pub low_replied : thunk.request < length r.requests
      low_replied = slice_get_within r.requests thunk.request request (ap (slice_get r.requests) same_request ∙ own_replied.there)

      pub stamp_asked : met_by m r kinds.ReadStamp ≡ Some (spots.Stamp thunk.request, Exchanges 0 (read_stamp_after clock))
      stamp_asked = may_write_stamp m (epoch_locked m planning request old thunk found clock thunk.word is.again is.unmoved) (walked ++ (thunk.lock, thunk.word) ∷ []) r y
          there refl (clock_small thunk found clock thunk.word is.again is.unmoved) low_replied

      -- the stamp word is 0
      module _ (r' : RunnerState T) (none : ℕ) (made : Makes m kinds.ReadStamp none r r') where
        pub stamp_zero : none ≡ 0
        stamp_zero = sym (was_found m kinds.ReadStamp none r r' made (spots.Stamp thunk.request) (Exchanges 0 (read_stamp_after clock)) stamp_asked refl)
            ∙ (ap (λ n. (sight m r.layout r.requests made.shown.before).word (spots.Stamp n)) same_request
            ∙ unstamped m laws r (limits_of r (same_layout ∙ is.unmoved.reading.still.layout)) (allowed_of r (same_requests ∙ is.unmoved.reading.still.requests)) (was_reached m kinds.ReadStamp none r r' made) request own_replied there.unpublished unknown_replied)

        abbrev pub stamped_of : HasStamped m planning request thunk found clock old r'
        stamped_of = record {
          replied = r;
          replies = is;
          writes = subst (λ n. Makes m kinds.ReadStamp n r r') stamp_zero made;
          slots = record {
            nodes = nodes_made m kinds.ReadStamp none r r' made there.resting ∙ is.slots.nodes;
            descriptors = descriptors_made m kinds.ReadStamp none r r' made there.resting ∙ is.slots.descriptors;
            guarded = ap (λ (g : GuardsState). g.named) (guards_made m kinds.ReadStamp none r r' made there.resting) ∙ is.slots.guarded;
            looked = ap (λ (g : GuardsState). g.looked) (guards_made m kinds.ReadStamp none r r' made there.resting) ∙ is.slots.looked;
          };
          known = known_made m kinds.ReadStamp none r r' made there.resting
              ∙ (ap (λ o. stamp_known o none r.part.records) there.looked
              ∙ (ap (λ (b : Bool). if b then (learned r.part.records thunk.request false (written_once none (read_stamp_after clock))).known else r.part.records.known)
              (clock_small thunk found clock thunk.word is.again is.unmoved)
              ∙ ((λ i. (learned r.part.records (same_request i) false (written_once (stamp_zero i) (read_stamp_after clock))).known)
              ∙ learned_so r.part.records request.number false (read_stamp_after clock) (odd_some clock))));
        }

        pub stamp_left : (left : ℕ) → left ≡ written made.met.1 none → left ≡ read_stamp_after clock
        stamp_left left told = left_is (spots.Stamp thunk.request) (read_stamp_after clock) none left made.met
            (some_same made.met (spots.Stamp thunk.request, Exchanges 0 (read_stamp_after clock)) (sym made.asked ∙ stamp_asked)) told stamp_zero
