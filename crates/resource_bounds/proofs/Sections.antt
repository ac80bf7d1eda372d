-- What the history says of a section that has agreed on a Make, or is about to.
use Rattle.std.specs.Prelude.{◌==◌, ◌⊎◌, not, Bool, true, false, Contains}
use Rattle.std.proofs.Common.{◌≡◌, ◌≢◌, ℕ, zero, suc, ◌<◌, ◌≤◌, List, refl, sym, ap, ◌∙◌, subst, ⊎_elim, arith, Option, Some, None}
use Rattle.std.proofs.lemmas.Bool.Decides.{nat_tests}
use Rattle.machine_states.specs.epoch_core.specs.small_lemmas.proofs.Bools.{from_both as true_not_false}
use Rattle.machine_states.specs.map_history.specs.declared.op.Op.{Op}
use Rattle.machine_states.specs.map_history.specs.declared.op.Op.TheVariants.{Get, Ins, Del, Put, Mov}
use Rattle.machine_states.specs.map_history.specs.declared.op.Request.{Request}
use Rattle.machine_states.specs.map_history.specs.Words.{adds_by}
use Rattle.machine_states.specs.map_history.proofs.Words.{new_adds, was_adds, moved_adds}
use Rattle.history_orders.specs.Stamped.{Stamped}
use Rattle.machine_states.specs.body_terms.specs.Line.{line, micro_at}
use Rattle.machine_states.specs.body_terms.specs.declared.thunk.Thunk.{Thunk}
use Rattle.machine_states.specs.body_terms.specs.declared.step.Step.TheVariants.{Make, Answer}
use Rattle.machine_states.specs.body_terms.specs.declared.micro.Micro.{Micro}
use Rattle.machine_states.specs.body_terms.specs.declared.micro.Micro.TheVariants as micros
use Rattle.agreement_core.specs.section_lines.specs.Line.{IsLine, phase}
use Rattle.agreement_core.specs.section_lines.proofs.Sources.{of_make, of_answer}
use Rattle.machine_states.specs.table_words.specs.declared.layout.Layout.{Layout}
use Rattle.machine_states.specs.table_words.specs.declared.spot.Spot.TheVariants as spots
use Rattle.machine_states.specs.structure_laws.specs.Meaning.{Meaning}
use Rattle.machine_states.specs.structure_laws.specs.Scene as scenes
use Rattle.machine_states.specs.structure_laws.specs.Planner.{Adds, PlannerLawsOver}
use Rattle.machine_states.specs.structure_laws.specs.Shape.{HasStep}
use Rattle.machine_states.specs.runner_parts.specs.declared.entries.Published.{Published}
use Rattle.agreement_core.specs.State.{CellRules, Section, AgreementState}
use Rattle.agreement_core.specs.Checks.{is_stop}
use Rattle.reached_histories.specs.history_core.specs.State.{Requests, HistoryState, has_replied}
use Rattle.reached_histories.specs.history_core.specs.Sound.{IsSound}
use Rattle.reached_histories.specs.history_core.proofs.Looks.{replied_parts}
use Rattle.machine_states.specs.Sight.{Sight}
use Rattle.machine_epochs.specs.Slots.{thunk_in}
use Rattle.machine_scenes.specs.Shown.{rules_of, section_with, IsOfThunk}
use Rattle.machine_scenes.proofs.Shown.{shown_open}
use Rattle.reached_histories.specs.machine_history.specs.Tied.{AreTied, SectionIsTied, rank}
use Rattle.reached_histories.specs.machine_facts.specs.machine_invariant.specs.Whole.{states_of, IsWhole}
use Rattle.reached_histories.specs.Requests.{requests_of}
use Rattle.reached_histories.specs.Kept.{link_of}
use Rattle.reached_histories.specs.Laws.{HasHistory}

-- between a Make and its Stamp no section stops
goes_on : (c : CellRules) (d : ℕ) (log : ℕ → ℕ) (x : Micro) → 2 ≤ phase x → phase x ≤ 3 → is_stop c d log x ≡ false
goes_on c d log (micros.PrivateLoad cell k) low high = refl
goes_on c d log (micros.PrivateStore cell k v) low high = refl
goes_on c d log (micros.MakeCommit k) low high = refl
goes_on c d log micros.ClockLoad low high = refl
goes_on c d log micros.StampExchange low high = refl
goes_on c d log micros.ClockRaise low high = refl
goes_on c d log _ low high = absurd (omega (arith, low, high))

adds_said : (op : Op) (reply : ℕ) → Adds op reply → adds_by reply ≡ true
adds_said (Get key) reply e = absurd e
adds_said (Ins key value) reply e = ap adds_by e ∙ new_adds
adds_said (Del key) reply e = absurd e
adds_said (Put key value) reply e = ⊎_elim (λ new. ap adds_by new ∙ new_adds) (λ was. ap adds_by was.2 ∙ was_adds was.0 was.1) e
adds_said (Mov from to) reply e = ap adds_by e ∙ moved_adds

module _ (m : Meaning) (l : Layout) (rs : List Request) (s : Sight) (stands : HasHistory m l rs s) (d : ℕ)
    (used : stands.beside.agreement.used d ≡ true) where
  abbrev c : Requests
  c = requests_of m l rs

  abbrev a : AgreementState
  a = stands.beside.agreement

  abbrev x : Section
  x = a.section d

  abbrev h : HistoryState
  h = stands.state

  abbrev pub t : Thunk
  t = thunk_in s.word d

  whole : IsWhole m l stands.beside s
  whole = stands.whole

  sound : IsSound c h
  sound = stands.joined.sound

  tied : AreTied c (states_of stands.beside s) h
  tied = stands.joined.tied

  abbrev in_line : IsLine m.is_lock l.version_max x.lock x.code x.slot
  in_line = (whole.sections.sound.sections d used).published.line

  of_thunk : IsOfThunk m x t
  of_thunk = whole.sections.thunks d used

  used_there : h.used d ≡ true
  used_there = tied.used d ∙ used

  section_tied : SectionIsTied c stands.beside.publications h d x
  section_tied = tied.sections d used

  abbrev stamp : ℕ
  stamp = in_line.stamped.stamp

  stamp_rank : rank (x.code stamp) ≡ 2
  stamp_rank = ap rank in_line.stamped.stamps

  -- the request of the section
  request_is : h.request d ≡ t.request
  request_is = section_tied.request ∙ of_thunk.request

  module _ (i k : ℕ) (at : micro_at (line (m.body t)) i ≡ micros.MakeCommit k) where
    code_is : x.code i ≡ micros.MakeCommit k
    code_is = of_thunk.code i ∙ at

    order : (a b : ℕ) → (a < b) ⊎ (b ≤ a)
    order a b = search arith

    -- the Make comes before the Stamp
    before_stamp : i ≤ stamp
    before_stamp = ⊎_elim
        (λ less. let up = in_line.in_phases.phases stamp i (omega (arith, less)) in
        let one = ap phase code_is in let two = ap phase in_line.stamped.stamps in absurd (omega (arith, up, one, two)))
        (λ le. le) (order stamp i)

    -- the section of a request that has agreed on a Make and is done has answered
    module _ (agreed : x.log k ≢ 0) (done : s.word (spots.DoneWord d) ≢ 0) (map : m.is_map ≡ true) where
      passed : i < x.edge
      passed = ⊎_elim (λ less. less)
          (λ le. absurd (agreed ((whole.sections.sound.sections d used).section.in_log.empty k
          (let rises = in_line.counted.slot_rises x.edge i le in let log = in_line.counted.make_log i k code_is in omega (arith, rises, log)))))
          (order i x.edge)

      done_there : x.done ≢ 0
      done_there e = done (sym ((whole.sections.sections d).done) ∙ e)

      -- it didn't stop before its Stamp
      past_stamp : stamp < x.edge
      past_stamp = ⊎_elim (λ less. less)
          (λ le. true_not_false _ ((whole.sections.sound.sections d used).section.in_log.stops done_there)
          (let low = in_line.in_phases.phases i x.edge (omega (arith, passed)) in let high = in_line.in_phases.phases x.edge stamp le in
          let one = ap phase code_is in let two = ap phase in_line.stamped.stamps in
          goes_on (rules_of m l) d x.log (x.code x.edge) (omega (arith, low, one)) (omega (arith, high, two))))
          (order stamp x.edge)

      stamped : 2 ≤ h.stage d
      stamped = let come = section_tied.passed stamp (λ z. let two = stamp_rank in omega (arith, two, z)) past_stamp in
          let two = stamp_rank in omega (arith, come, two)

      is_done : h.done d ≡ true
      is_done = section_tied.done ∙ not_zero x.done done_there
        where
          not_zero : (n : ℕ) → n ≢ 0 → not (n == 0) ≡ true
          not_zero n e = grind (arith, nat_tests)

      four : h.stage d ≡ 4
      four = ⊎_elim (λ none. absurd (let b = stamped in omega (arith, none, b))) (λ e. e) (sound.sections.ended d used_there is_done)

      replied : h.reply (h.request d) ≢ 0
      replied = sound.stamps.answered d used_there (let e = four in omega (arith, e))

      entry : (e : Stamped) × Contains h.history e × (e.number ≡ h.request d)
      entry = sound.history.history.all (h.request d) (sound.stamps.stamped d used_there stamped).0

      -- the reply word is what it answers
      reply_there : h.reply (h.request d) ≡ h.answer d
      reply_there =
          ap h.reply (sym entry.2)
          ∙ (sound.history.replies map entry.0 entry.1 (λ z. replied (ap h.reply (sym entry.2) ∙ z))
          ∙ sym (sound.history.answers map d entry.0 used_there stamped entry.1 entry.2))

      answer_step : HasStep m t (of_answer (m.body t) in_line.stamped.answer (micros.ReplyExchange in_line.stamped.reply)
          (sym (of_thunk.code in_line.stamped.answer) ∙ in_line.stamped.answers) refl).1.from.n (Answer in_line.stamped.reply)
      answer_step =
          let o = of_answer (m.body t) in_line.stamped.answer (micros.ReplyExchange in_line.stamped.reply)
          (sym (of_thunk.code in_line.stamped.answer) ∙ in_line.stamped.answers) refl in
          let same : micros.ReplyExchange in_line.stamped.reply ≡ micros.ReplyExchange o.0 = o.1.same in
          subst (λ n. HasStep m t o.1.from.n (Answer n)) (let e : o.0 ≡ in_line.stamped.reply = cc in e) o.1.from.here

      pub reply_new : ((j reply : ℕ) → HasStep m t j (Answer reply) → adds_by reply ≡ true) → adds_by (s.word (spots.Reply t.request)) ≡ true
      reply_new adds =
          ap adds_by (sym (tied.reply t.request ∙ whole.sections.words.reply t.request)
          ∙ (ap h.reply (sym request_is)
          ∙ (reply_there
          ∙ section_tied.answer in_line.stamped.answer in_line.stamped.reply in_line.stamped.answers)))
          ∙ adds _ _ answer_step

    -- a section that is about to commit a Make
    module _ (edge : x.edge ≡ i) where
      undone : x.done ≡ 0
      undone = by x.done refl
        where
          by : (n : ℕ) → x.done ≡ n → n ≡ 0
          by zero e = refl
          by (suc n) e = true_not_false (is_stop (rules_of m l) d x.log (x.code x.edge))
              ((whole.sections.sound.sections d used).section.in_log.stops (λ z. let b = e in omega (arith, b, z)))
              (let two = ap phase (ap x.code edge ∙ code_is) in
              goes_on (rules_of m l) d x.log (x.code x.edge) (omega (arith, two)) (omega (arith, two)))

      going : h.done d ≡ false
      going = section_tied.done ∙ ap (λ n. not (n == 0)) undone

      -- its worker has published it
      pub publisher : (y : Published) × ((s.part (c.worker t.request)).published ≡ Some y) × (y.descriptor ≡ d)
      publisher = linked (s.part (c.worker t.request)).published refl
          (sym (stands.kept.published (c.worker t.request)) ∙ (ap (λ n. h.published (c.worker n)) (sym request_is) ∙ sound.sections.published d used_there going))
        where
          linked : (o : Option Published) → (s.part (c.worker t.request)).published ≡ o → link_of o ≡ suc d
              → (y : Published) × ((s.part (c.worker t.request)).published ≡ Some y) × (y.descriptor ≡ d)
          linked None is e = absurd (omega (arith, e))
          linked (Some y) is e = (y, is, omega (arith, e))

      -- and its request has no reply
      pub unreplied : s.word (spots.Reply t.request) ≡ 0
      unreplied = sym (tied.reply t.request ∙ whole.sections.words.reply t.request) ∙ none (h.reply t.request) refl
        where
          early : h.stage d ≤ 1
          early = let less = section_tied.unpassed stamp (λ z. let two = stamp_rank in omega (arith, two, z)) (let b = before_stamp in omega (arith, edge, b)) in
              let two = stamp_rank in omega (arith, less, two)

          unstamped : h.stamp t.request ≡ 0
          unstamped = ap h.stamp (sym request_is) ∙ sound.stamps.fresh d used_there going early

          -- no read has written it: its worker has a section on the way
          unread : (b : Bool) → has_replied (h.look (c.worker t.request)) t.request ≡ b → has_replied (h.look (c.worker t.request)) t.request ≡ false
          unread false is = is
          unread true is =
              let p = replied_parts (h.look (c.worker t.request)) t.request is in
              let idle = ((sound.reads.looks (c.worker t.request) p.0 p.1).between p.2).idle in
              let held : h.published (c.worker t.request) ≡ suc d =
              ap (λ n. h.published (c.worker n)) (sym request_is) ∙ sound.sections.published d used_there going in
              absurd (omega (arith, idle, held))

          none : (n : ℕ) → h.reply t.request ≡ n → n ≡ 0
          none zero e = refl
          none (suc n) e = absurd (sound.stamps.replied t.request (λ z. let b = e in omega (arith, b, z))
              (unread (has_replied (h.look (c.worker t.request)) t.request) refl) unstamped)

      -- it is for an operation that adds a pair, and answers so
      module _ (per_pair : ℕ) (over : PlannerLawsOver m l per_pair) where
        abbrev shown : scenes.Section
        shown = section_with m stands.beside.publications d x.log x.edge

        pub answers_new : (j reply : ℕ) → HasStep m t j (Answer reply) → adds_by reply ≡ true
        answers_new j reply is =
            let here = shown_open m stands.beside.publications d (a.used d) x used undone in
            let fits = whole.kept.lawful.sound.fits d shown here in
            let allowed = whole.kept.lawful.sound.allowed d shown here in
            let o = of_make (m.body t) i (micros.MakeCommit k) at refl in
            let same = whole.tied.thunk d used in
            adds_said shown.op reply (over.make_adds shown.readings shown.op shown.thunk allowed fits o.2.from.n j o.1 reply o.0
            (subst (λ y. HasStep m y o.2.from.n (Make o.0 o.1)) (sym same) o.2.from.here)
            (subst (λ y. HasStep m y j (Answer reply)) (sym same) is))
