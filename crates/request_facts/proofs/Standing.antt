-- What the history says to a runner that has its part.
use Rattle.std.specs.Prelude.{◌&&◌, not, Bool, true, false, slice_get, All}
use Rattle.std.proofs.Common.{◌≡◌, ◌≢◌, ℕ, suc, ◌≤◌, List, refl, sym, ap, ◌∙◌, subst, ⊎_elim, arith, Option, Some, None}
use Rattle.std.proofs.lemmas.List.Elements.{All-get_or}
use Rattle.std.proofs.lemmas.Option.{slice_get_within, get_or_from_slice_get}
use Rattle.std.proofs.lemmas.Bool.{and_parts}
use Rattle.machine_states.specs.epoch_core.specs.small_lemmas.proofs.Numbers.{zero_or_some as zero_or}
use Rattle.machine_states.specs.map_history.specs.declared.op.Request.{Request}
use Rattle.machine_states.specs.map_history.specs.Keys.{GivesSmall}
use Rattle.machine_states.specs.map_history.specs.Words.{word_of}
use Rattle.machine_states.specs.body_terms.specs.declared.micro.Micro.{Micro}
use Rattle.machine_states.specs.body_terms.specs.declared.micro.Micro.TheVariants.{StampExchange}
use Rattle.history_orders.specs.Stamped.{Stamped}
use Rattle.machine_states.specs.table_words.specs.declared.layout.Layout.{Layout}
use Rattle.machine_states.specs.table_words.specs.declared.spot.Spot.TheVariants as spots
use Rattle.machine_states.specs.structure_laws.specs.Meaning.{Meaning}
use Rattle.machine_states.specs.structure_laws.specs.Laws.{Laws}
use Rattle.machine_states.specs.structure_laws.specs.Sections.{IsAllowed}
use Rattle.machine_states.specs.runner_parts.specs.declared.entries.Known.{Known}
use Rattle.machine_states.specs.runner_parts.specs.declared.entries.Look.{Look}
use Rattle.machine_states.specs.runner_parts.specs.declared.entries.Published.{Published}
use Rattle.machine_states.specs.epoch_core.specs.declared.stage.Stage.TheVariants.{Idle}
use Rattle.machine_states.specs.runner_parts.specs.State.{RunState, PartState}
use Rattle.machine_states.specs.runner_parts.specs.Tests.{knows, is_answered, is_between}
use Rattle.agreement_core.specs.State.{AgreementState, section_of}
use Rattle.agreement_core.specs.Checks.{is_stamp_exchange}
use Rattle.reached_histories.specs.history_core.specs.State.{Requests, HistoryState}
use Rattle.reached_histories.specs.history_core.specs.Sound.{IsSound}
use Rattle.machine_states.specs.Sight.{Sight, sight}
use Rattle.reached_histories.specs.machine_facts.specs.machine_agreement.proofs.RunPlaces.{run_here, used_here, of_thunk, before}
use Rattle.reached_histories.specs.machine_history.specs.Tied.{AreTied}
use Rattle.reached_histories.specs.machine_facts.specs.machine_invariant.specs.After.{AreAllowed}
use Rattle.reached_histories.specs.machine_facts.specs.machine_invariant.specs.Whole.{states_of}
use Rattle.reached_histories.specs.machine_facts.specs.Known.{KnownStand}
use Rattle.reached_histories.specs.machine_facts.proofs.Following.{facts_after}
use Rattle.reached_histories.specs.Requests.{or_none, requests_of}
use Rattle.reached_histories.specs.Kept.{link_of}
use Rattle.reached_histories.proofs.First.{entry_of}
use Rattle.reached_histories.specs.History.{IsPlaced}
use Rattle.reached_histories.specs.Laws.{HasHistory}
use Rattle.reached_histories.specs.RealTime.{IsSought, IsUnasked}
use Rattle.reached_histories.proofs.Histories.{reached_have}
use Rattle.reached_histories.proofs.RealTime.{reached_linearizable}
use Rattle.request_facts.specs.Placed.{IsUnserved}
use Rattle.request_facts.specs.Laws.{HasEntry, IsKnown, IsStamping, CallersStand, ReachedCallersStand, IsToAsk, AnsweredComeFirst}
use Rattle.history_orders.proofs.Replies.{replies_small}

-- an idle worker that has no read's reply without its stamp seeks nothing
pub idle_seeks_none : (p : PartState) → p.stage ≡ Idle → is_between p.reads.look ≡ false → (x : Look) → p.reads.look ≡ Some x
    → IsSought p x → ⊥
idle_seeks_none p idle settled x looked sought = ⊎_elim
    (λ replied. let clash : true ≡ false = sym (ap is_between looked ∙ replied) ∙ settled in cc)
    (λ entered. let z = sym idle ∙ entered.2 in cc)
    sought

each : (xs : List Request) (i : ℕ) (x : Request) → slice_get xs i ≡ Some x → All (λ (y : Request). IsAllowed y.op) xs → IsAllowed x.op
each xs i x at all = subst (λ (y : Request). IsAllowed y.op) (get_or_from_slice_get xs i x x at)
    (All-get_or (λ (y : Request). IsAllowed y.op) xs i x (slice_get_within xs i x at) all)

-- a run that has not ended and stands before the exchange of its stamp
test : (running ended : Bool) (micro : Micro) → running ≡ true → ended ≡ false → micro ≡ StampExchange
    → (running && (not ended && is_stamp_exchange micro)) ≡ true
test running ended micro one two three = ap (λ b. b && (not ended && is_stamp_exchange micro)) one
    ∙ (ap (λ b. not b && is_stamp_exchange micro) two ∙ ap is_stamp_exchange three)

-- the entry with these fields
known_entry : (known : List Known) (n : ℕ) (reply : Bool) → knows known n reply ≡ true
    → (x : ℕ) × HasEntry known (record { request = n; reply = reply; number = x })
known_entry known n reply e = let h = entry_of known n reply e in
    (h.entry.number, (h.place, h.at ∙ ap Some (λ i. record { request = h.request i; reply = h.is i; number = h.entry.number })))

module _ (m : Meaning) (l : Layout) (rs : List Request) (allowed : AreAllowed rs) (s : Sight) (stands : HasHistory m l rs s) (known : KnownStand s) where
  abbrev c : Requests
  c = requests_of m l rs

  abbrev h : HistoryState
  h = stands.state

  abbrev a : AgreementState
  a = stands.beside.agreement

  tied : AreTied c (states_of stands.beside s) h
  tied = stands.joined.tied

  sound : IsSound c h
  sound = stands.joined.sound

  -- the operations give small values
  small : (i : ℕ) (e : Stamped) → slice_get h.history i ≡ Some e → GivesSmall e.op
  small i e is = subst GivesSmall (sym (stands.legal.entries.ops e (i, slice_get_within h.history i e is, get_or_from_slice_get h.history i e e is)))
      (by (slice_get rs e.number) refl)
    where
      by : (o : Option Request) → slice_get rs e.number ≡ o → GivesSmall (or_none o).op
      by None none v given = absurd (let z = given in cc)
      by (Some q) there v given = (each rs e.number q there allowed.each).value v given

  module _ (map : m.is_map ≡ true) (r n : ℕ) (answered : is_answered (s.part r).records.known n ≡ true) where
    placed : IsPlaced m l rs stands.beside s h.history n
    placed = stands.asked.known r n answered

    two : (knows (s.part r).records.known n false ≡ true) × (knows (s.part r).records.known n true ≡ true)
    two = and_parts _ _ answered

    stamp_entry : (x : ℕ) × HasEntry (s.part r).records.known (record { request = n; reply = false; number = x })
    stamp_entry = known_entry (s.part r).records.known n false two.0

    reply_entry : (x : ℕ) × HasEntry (s.part r).records.known (record { request = n; reply = true; number = x })
    reply_entry = known_entry (s.part r).records.known n true two.1

    reply_number : reply_entry.0 ≡ word_of placed.entry.reply
    reply_number = sym (known.stands r reply_entry.1.0 _ reply_entry.1.1) ∙ placed.reply map

    is_known : IsKnown m l rs s (s.part r).records.known n
    is_known = record {
      stamp = stamp_entry.0;
      reply = placed.entry.reply;
      knows_stamp = stamp_entry.1;
      knows_reply = subst (λ x. HasEntry (s.part r).records.known (record { request = n; reply = true; number = x })) reply_number reply_entry.1;
      served = record {
        history = stands;
        placed = placed;
        is_reply = replies_small h.history (sound.history.replayed map) small placed.place placed.entry placed.here;
        of_reply = refl;
        stamp_word = known.stands r stamp_entry.1.0 _ stamp_entry.1.1;
        reply_word = placed.reply map;
      };
    }

  -- what has no link isn't on the way
  closed : (o : Option Published) (x : Published) → o ≡ Some x → link_of o ≡ 0 → ⊥
  closed o x is none = let clash : 0 ≡ suc x.descriptor = sym none ∙ ap link_of is in cc

  -- a request of its own that it doesn't know, while it has no section on the way
  module _ (r n : ℕ) (own : c.worker n ≡ r) (idle : link_of (s.part r).published ≡ 0) (unknown : is_answered (s.part r).records.known n ≡ false) where
    no_stamp : s.word (spots.Stamp n) ≡ 0
    no_stamp = ⊎_elim (λ none. none)
        (λ some. ⊎_elim
        (λ told. absurd (let clash : true ≡ false = sym told ∙ (ap (λ i. is_answered (s.part i).records.known n) own ∙ unknown) in cc))
        (λ mine. absurd (closed (s.part r).published mine.section (ap (λ i. (s.part i).published) (sym own) ∙ mine.published) idle))
        (stands.asked.answered n some))
        (zero_or (s.word (spots.Stamp n)))

    -- a reply without its stamp would be one of its reads
    no_reply : is_between (s.part r).reads.look ≡ false → s.word (spots.Reply n) ≡ 0
    no_reply settled = ⊎_elim (λ none. none)
        (λ some. ⊎_elim
        (λ stamped. absurd (stamped no_stamp))
        (λ reads. absurd (let clash : true ≡ false = sym (ap is_between (ap (λ i. (s.part i).reads.look) (sym own) ∙ reads.looked) ∙ reads.replied) ∙ settled in cc))
        (stands.legal.stamped n some))
        (zero_or (s.word (spots.Reply n)))

  is_unserved : (r n : ℕ) → c.worker n ≡ r → link_of (s.part r).published ≡ 0 → is_between (s.part r).reads.look ≡ false
      → is_answered (s.part r).records.known n ≡ false → IsUnserved m l rs s n
  is_unserved r n own idle settled unknown = record { stamp = no_stamp r n own idle unknown; reply = no_reply r n own idle unknown settled }

  -- so it hasn't asked it
  pub unasked : (r n : ℕ) → IsToAsk m l rs s r n → IsUnasked m l rs s n
  unasked r n is = record {
    unstamped = no_stamp r n is.own is.idle is.unknown;
    unpublished = λ asked. closed (s.part r).published asked.section (ap (λ i. (s.part i).published) (sym is.own) ∙ asked.published) is.idle;
    unlooked = λ x looked sought. is.unsought x (ap (λ i. (s.part i).reads.look) (sym is.own) ∙ looked)
        (subst (λ i. IsSought (s.part i) x) is.own sought);
  }

  -- a run before the exchange of its stamp, of a request of the runner's own that isn't its own section's
  module _ (r n : ℕ) (q : RunState) (own : c.worker n ≡ r) (at : IsStamping m l rs s r n q) where
    abbrev d : ℕ
    d = q.descriptor

    is_before : ((a.run r).running ≡ true) × ((a.run r).ended ≡ false) × ((section_of a r).code ((a.run r).at) ≡ StampExchange)
    is_before = let b = before m l a s stands.whole.sections r q at.runs at.opened StampExchange refl refl at.next in (b.running, b.going, b.next)

    loads : h.loaded r ≡ true
    loads = tied.loaded r ∙ test (a.run r).running (a.run r).ended ((section_of a r).code ((a.run r).at)) is_before.0 is_before.1 is_before.2

    same : h.run r ≡ d
    same = (tied.runs r (sym (tied.loaded r) ∙ loads)).run ∙ (run_here m l a s stands.whole.sections r q at.runs).descriptor

    used : h.used d ≡ true
    used = subst (λ e. h.used e ≡ true) same (sound.sections.running r loads).0

    begun : 1 ≤ h.stage d
    begun = subst (λ e. 1 ≤ h.stage e) same (sound.sections.running r loads).1

    request : h.request d ≡ n
    request = (tied.sections d (used_here m l a s stands.whole.sections r q at.runs)).request
        ∙ ((of_thunk m l a s stands.whole.sections r q at.runs at.opened).request ∙ at.request)

    not_mine : h.published (c.worker (h.request d)) ≢ suc d
    not_mine e = at.foreign (sym (stands.kept.published r) ∙ (ap h.published (sym (ap c.worker request ∙ own)) ∙ e))

    is_done : (b : Bool) → h.done d ≡ b → h.done d ≡ true
    is_done true e = e
    is_done false e = absurd (not_mine (sound.sections.published d used e))

    stamped : 2 ≤ h.stage d
    stamped = ⊎_elim (λ none. absurd (let b = begun in omega (arith, none, b))) (λ four. omega (arith, four)) (sound.sections.ended d used (is_done (h.done d) refl))

    known_here : (b : Bool) → h.known r n ≡ b → h.known r n ≡ true
    known_here true e = e
    known_here false e = absurd (not_mine (clash (sound.stamps.told n some unknown) (sound.stamps.stamped d used stamped).1))
      where
        some : h.stamp n ≢ 0
        some = subst (λ k. h.stamp k ≢ 0) request (sound.stamps.stamped d used stamped).0

        unknown : h.known (c.worker n) n ≡ false
        unknown = ap (λ i. h.known i n) own ∙ e

        clash : (h.by n ≢ 0) × (h.published (c.worker n) ≡ h.by n) → h.by (h.request d) ≡ suc d → h.published (c.worker (h.request d)) ≡ suc d
        clash told by = ap (λ k. h.published (c.worker k)) request ∙ (told.1 ∙ (ap h.by (sym request) ∙ by))

    knows_own : is_answered (s.part r).records.known n ≡ true
    knows_own = sym (stands.kept.known r n) ∙ known_here (h.known r n) refl

  all_stand : CallersStand m l rs s
  all_stand = record { known = is_known; unserved = is_unserved; own = knows_own }

pub callers_stand : (m : Meaning) → Laws m → (l : Layout) (rs : List Request) → ReachedCallersStand m l rs
callers_stand m laws l rs limits allowed w reached =
    all_stand m l rs allowed (sight m l rs w) (reached_have m laws l rs limits allowed w reached) (facts_after m laws l rs reached.events w limits allowed reached.after).here.known

pub answered_come_first : (m : Meaning) → Laws m → (l : Layout) (rs : List Request) → AnsweredComeFirst m l rs
answered_come_first m laws l rs limits allowed w v reached leads r n k is =
    reached_linearizable m laws l rs limits allowed w v reached leads k n
    (unasked m l rs allowed (sight m l rs w) (reached_have m laws l rs limits allowed w reached)
    (facts_after m laws l rs reached.events w limits allowed reached.after).here.known r n is)
