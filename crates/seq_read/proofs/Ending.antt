-- A read that wrote both words, and the runner's leaving behind it.
use Rattle.std.specs.Prelude.{true, false, slice_get}
use Rattle.std.proofs.Common.{◌≡◌, ℕ, ◌+◌, ◌*◌, length, refl, sym, ap, ◌∙◌, subst}
use Rattle.std.proofs.lemmas.Bool.{true≢false}
use Rattle.machine_states.specs.map_history.specs.declared.op.Request.{Request}
use Rattle.machine_states.specs.map_history.specs.declared.reply.Reply.{Reply}
use Rattle.machine_states.specs.map_history.specs.Words.{word_of, IsReply}
use Rattle.history_orders.specs.Turns.{Follows}
use Rattle.machine_states.specs.body_terms.specs.declared.thunk.Thunk.{Thunk}
use Rattle.machine_states.specs.table_words.specs.Limits.{IsWithinLimits}
use Rattle.machine_states.specs.table_words.specs.declared.spot.Spot.TheVariants as spots
use Rattle.machine_states.specs.table_words.specs.declared.access.Access.TheVariants.{Loads}
use Rattle.caller_facts.specs.section_runs.specs.runner_gate.specs.Asks.{Asks, asked_on}
use Rattle.machine_states.specs.structure_laws.specs.Scene.{Readings}
use Rattle.machine_states.specs.structure_laws.specs.Meaning.{Meaning}
use Rattle.machine_states.specs.structure_laws.specs.Laws.{Laws}
use Rattle.machine_states.specs.runner_parts.specs.declared.entries.Known.{Known}
use Rattle.machine_states.specs.runner_parts.specs.declared.event.EventKind.TheVariants as kinds
use Rattle.machine_states.specs.runner_parts.specs.State.{NodesState, GuardsState}
use Rattle.machine_states.specs.runner_parts.specs.Tests.{is_answered}
use Rattle.machine_states.specs.runner_steps.specs.Sections.{reply_in}
use Rattle.caller_facts.specs.version_words.specs.machine_invariant.specs.After.{AreAllowed}
use Rattle.caller_facts.specs.request_facts.specs.Laws.{HasEntry}
use Rattle.caller_facts.specs.version_words.specs.RunnerState.{RunnerState}
use Rattle.caller_facts.specs.section_runs.specs.commit_log.specs.Asked.{IsAsked}
use Rattle.caller_facts.specs.epoch_slots.specs.Entries.{Exits}
use Rattle.caller_facts.specs.lock_walks.proofs.Each.{get_last}
use Rattle.caller_facts.specs.try_lock.specs.Planning.{Planning}
use Rattle.caller_facts.specs.try_lock.specs.Reached.{IsReached}
use Rattle.caller_facts.specs.Asking.{MayAttempt}
use Rattle.caller_facts.proofs.Knowing.{get_on}
use Rattle.caller_facts.proofs.Standing.{made_reached}
use Rattle.seq_read.specs.RealTime.{FollowsAnswered}
use Rattle.seq_read.specs.Course.{HasReplied, HasStamped}
use Rattle.seq_read.specs.Reads.{IsInHistory, HasRead, IsServed, IsHalted, BehindReply, BehindStamp, replied_steps}
use Rattle.seq_read.specs.Parts.{Rests}
use Rattle.seq_read.specs.declared.answers.Read.TheVariants as answers
use Rattle.seq_read.proofs.Events.{may_load_clock}
use Rattle.seq_read.proofs.Courses.{announced_here, epoch_announced, walk_announced, replied_here, stamped_here}
use Rattle.seq_read.proofs.Serving.{was_reached, was_found, reply_known, same_word, known_reply, in_history, answered, knew_before, follows_answered}
use Rattle.seq_read.proofs.Writing.{LooksStand, unknown_replied}
use Rattle.seq_read.proofs.Resting.{halted_rests}

module _ {T : Type 0} (m : Meaning) (laws : Laws m) (map : m.is_map ≡ true) (planning : Planning) (request : Request) (old : RunnerState T)
    (limits : IsWithinLimits old.layout) (allowed : AreAllowed old.requests) (looks : LooksStand m) (thunk : Thunk) (found : Readings) (clock : ℕ) where
  abbrev pub n : ℕ
  n = request.number

  abbrev pub stamp : ℕ
  stamp = 2 * clock + 1

  module _ (r : RunnerState T) (is : HasStamped m planning request thunk found clock old r) where
    pub layout_stamped : r.layout ≡ old.layout
    layout_stamped = ap (λ (y : RunnerState T). y.layout) is.writes.made
        ∙ (ap (λ (y : RunnerState T). y.layout) is.replies.writes.made ∙ is.replies.unmoved.reading.still.layout)

    pub requests_stamped : r.requests ≡ old.requests
    requests_stamped = ap (λ (y : RunnerState T). y.requests) is.writes.made
        ∙ (ap (λ (y : RunnerState T). y.requests) is.replies.writes.made ∙ is.replies.unmoved.reading.still.requests)

    pub may_of : MayAttempt planning request old
    may_of = is.replies.unmoved.clocks.announces.finds.loads.plans.enters.may

    pub reached_stamped : IsReached m r
    reached_stamped = made_reached m kinds.ReadStamp 0 is.replied r is.writes

    pub stamp_entry : HasEntry r.part.records.known (record { request = n; reply = false; number = stamp })
    stamp_entry = (
      length is.replied.part.records.known,
      ap (λ ks. slice_get ks (length is.replied.part.records.known)) is.known ∙ get_last is.replied.part.records.known _,
    )

    pub reply_entry : HasEntry r.part.records.known (record { request = n; reply = true; number = reply_in (m.body thunk) })
    reply_entry = (
      length old.part.records.known,
      ap (λ ks. slice_get ks (length old.part.records.known)) is.known
          ∙ get_on is.replied.part.records.known _ (length old.part.records.known) _
          (ap (λ ks. slice_get ks (length old.part.records.known)) is.replies.known ∙ get_last old.part.records.known _),
    )

    pub limits_stamped : IsWithinLimits r.layout
    limits_stamped = subst IsWithinLimits (sym layout_stamped) limits

    pub allowed_stamped : AreAllowed r.requests
    allowed_stamped = subst AreAllowed (sym requests_stamped) allowed

    abbrev pub reply_read : Reply
    reply_read = reply_known m laws r limits_stamped allowed_stamped reached_stamped map n stamp (reply_in (m.body thunk)) stamp_entry reply_entry

    pub word_read : word_of reply_read ≡ reply_in (m.body thunk)
    word_read = same_word m laws r limits_stamped allowed_stamped reached_stamped map n stamp (reply_in (m.body thunk)) stamp_entry reply_entry

    pub is_reply_read : IsReply reply_read
    is_reply_read = known_reply m laws r limits_stamped allowed_stamped reached_stamped map n stamp (reply_in (m.body thunk)) stamp_entry reply_entry

    -- the runner as it was about to load the clock
    abbrev pub announced : RunnerState T
    announced = is.replies.unmoved.clocks.announced

    pub above : (x : Known) → HasEntry old.part.records.known x → x.reply ≡ false → is_answered old.part.records.known x.request ≡ true → Follows x.number stamp
    above x entry stamped known =
        let clocks = is.replies.unmoved.clocks in
        let here = announced_here m planning request old thunk found announced clocks.announces in
        knew_before m laws announced
        (subst IsWithinLimits (sym clocks.announces.reading.still.layout) limits) (subst AreAllowed (sym clocks.announces.reading.still.requests) allowed)
        (was_reached m kinds.ReadClock clock announced is.replies.unmoved.clocked clocks.loads) clock
        (was_found m kinds.ReadClock clock announced is.replies.unmoved.clocked clocks.loads spots.Clock Loads
        (may_load_clock m (epoch_announced m planning request old thunk found announced clocks.announces) (walk_announced m planning request old thunk found announced clocks.announces) announced thunk here) refl)
        x (entry.0, ap (λ ks. slice_get ks entry.0) clocks.announces.reading.still.known ∙ entry.1) stamped
        (ap (λ ks. is_answered ks x.request) clocks.announces.reading.still.known ∙ known)

    abbrev pub has_read : HasRead m planning request reply_read stamp old r
    has_read = record {
      thunk = thunk;
      found = found;
      clock = clock;
      stamps = is;
      stamp_is = refl;
      reply_is = word_read;
      placed = in_history m laws r limits_stamped allowed_stamped reached_stamped map n stamp (reply_in (m.body thunk)) stamp_entry reply_entry;
      above = above;
    }

    pub in_time_read : FollowsAnswered m stamp old r
    in_time_read = follows_answered m laws planning request old r limits allowed may_of layout_stamped requests_stamped stamp stamp_entry

    -- a gate halts it there
    abbrev pub stamped_halted : IsHalted m planning request old r
    stamped_halted = record {
      at = BehindStamp reply_read stamp has_read in_time_read;
      unpublished = (stamped_here m planning request old thunk found clock r is).unpublished;
      untouched = λ e. absurd (true≢false e);
      answered = answered m laws r limits_stamped allowed_stamped reached_stamped map n stamp (reply_in (m.body thunk)) stamp_entry reply_entry;
      reached = reached_stamped;
    }

    pub stamped_halted_rests : (before made more : ℕ) → before + made ≡ replied_steps m planning request thunk found clock old is.replied is.replies + 1
        → 1 + before + more ≡ replied_steps m planning request thunk found clock old is.replied is.replies + 1
        → (Seen : ℕ → Asks → Type 0) (halts halts' : ℕ) (asks asks' : Asks) (steps steps' : ℕ) → IsAsked made false halts halts' asks asks' steps steps'
        → Seen halts (asked_on asks more) → Rests m planning request before answers.Halted old r Seen halts halts' asks asks' steps steps'
    stamped_halted_rests before made more made_is more_is Seen halts halts' asks asks' steps steps' asked seen =
        halted_rests m laws planning request old limits allowed may_of r stamped_halted before made more made_is more_is Seen halts halts' asks asks' steps steps' asked seen

    -- or it leaves
    module _ (new : RunnerState T) (exits : Exits m r new) (reply : Reply)
        (whole : (other : Reply) → IsReply other → word_of other ≡ reply_in (m.body thunk) → reply ≡ other) where
      pub layout_new : new.layout ≡ old.layout
      layout_new = ap (λ (y : RunnerState T). y.layout) exits.announce.event.made ∙ layout_stamped

      pub requests_new : new.requests ≡ old.requests
      requests_new = ap (λ (y : RunnerState T). y.requests) exits.announce.event.made ∙ requests_stamped

      pub limits_new : IsWithinLimits new.layout
      limits_new = subst IsWithinLimits (sym layout_new) limits

      pub allowed_new : AreAllowed new.requests
      allowed_new = subst AreAllowed (sym requests_new) allowed

      pub reached_new : IsReached m new
      reached_new = made_reached m kinds.Idle exits.announce.found r new exits.announce.event

      pub stamp_new : HasEntry new.part.records.known (record { request = n; reply = false; number = stamp })
      stamp_new = (stamp_entry.0, ap (λ ks. slice_get ks stamp_entry.0) exits.keeps.known ∙ stamp_entry.1)

      pub reply_new : HasEntry new.part.records.known (record { request = n; reply = true; number = reply_in (m.body thunk) })
      reply_new = (reply_entry.0, ap (λ ks. slice_get ks reply_entry.0) exits.keeps.known ∙ reply_entry.1)

      pub placed_new : IsInHistory m n stamp reply new
      placed_new = subst (λ x. IsInHistory m n stamp x new)
          (sym (whole _ (known_reply m laws new limits_new allowed_new reached_new map n stamp (reply_in (m.body thunk)) stamp_new reply_new)
          (same_word m laws new limits_new allowed_new reached_new map n stamp (reply_in (m.body thunk)) stamp_new reply_new)))
          (in_history m laws new limits_new allowed_new reached_new map n stamp (reply_in (m.body thunk)) stamp_new reply_new)

      pub same_reply : reply ≡ reply_read
      same_reply = whole reply_read is_reply_read word_read

      abbrev pub read_so : HasRead m planning request reply stamp old r
      read_so = record {
        thunk = thunk;
        found = found;
        clock = clock;
        stamps = is;
        stamp_is = refl;
        reply_is = ap word_of same_reply ∙ word_read;
        placed = subst (λ x. IsInHistory m n stamp x r) (sym same_reply) has_read.placed;
        above = above;
      }

      abbrev pub is_served : IsServed m planning request reply stamp old new
      is_served = record {
        stamped = r;
        read = read_so;
        exits = exits;
        tidy = record {
          at = exits.at;
          hand = ap (λ (x : NodesState). x.hand) (exits.keeps.nodes ∙ is.slots.nodes) ∙ may_of.tidy.hand;
          tests = ap (λ (x : NodesState). x.tests) (exits.keeps.nodes ∙ is.slots.nodes) ∙ may_of.tidy.tests;
          looked = ap (λ (g : GuardsState). g.looked) exits.guards ∙ (is.slots.looked ∙ may_of.tidy.looked);
          unguarded = ap (λ (g : GuardsState). g.named) exits.guards ∙ (is.slots.guarded ∙ may_of.tidy.unguarded);
        };
        placed = placed_new;
        in_time = follows_answered m laws planning request old new limits allowed may_of layout_new requests_new stamp stamp_new;
      }

      -- so the read is done
      pub served_rests : (before made : ℕ) → before + made ≡ replied_steps m planning request thunk found clock old is.replied is.replies + 1
          → (Seen : ℕ → Asks → Type 0) (halts halts' : ℕ) (asks asks' : Asks) (steps steps' : ℕ) → IsAsked made true halts halts' asks asks' steps steps'
          → Rests m planning request before (answers.Done reply stamp) old new Seen halts halts' asks asks' steps steps'
      served_rests before made made_is Seen halts halts' asks asks' steps steps' asked = record {
        answers = is_served;
        made = made;
        made_is = made_is;
        asked = asked;
        let_go = λ halted. absurd (true≢false (sym halted));
      }

  -- a gate halts it behind the reply
  abbrev pub replied_halted : (r : RunnerState T) (is : HasReplied m planning request thunk found clock old r) → IsHalted m planning request old r
  replied_halted r is = record {
    at = BehindReply thunk found clock is;
    unpublished = (replied_here m planning request old thunk found clock r is).unpublished;
    untouched = λ e. absurd (true≢false e);
    answered = unknown_replied m laws planning request old limits allowed looks thunk found clock r is;
    reached = made_reached m kinds.ReadReply 0 is.again r is.writes;
  }

  pub replied_halted_rests : (r : RunnerState T) (is : HasReplied m planning request thunk found clock old r) (before made more : ℕ)
      → before + made ≡ replied_steps m planning request thunk found clock old r is → 1 + before + more ≡ replied_steps m planning request thunk found clock old r is
      → (Seen : ℕ → Asks → Type 0) (halts halts' : ℕ) (asks asks' : Asks) (steps steps' : ℕ) → IsAsked made false halts halts' asks asks' steps steps'
      → Seen halts (asked_on asks more) → Rests m planning request before answers.Halted old r Seen halts halts' asks asks' steps steps'
  replied_halted_rests r is before made more made_is more_is Seen halts halts' asks asks' steps steps' asked seen =
      halted_rests m laws planning request old limits allowed is.unmoved.clocks.announces.finds.loads.plans.enters.may r (replied_halted r is)
      before made more made_is more_is Seen halts halts' asks asks' steps steps' asked seen
