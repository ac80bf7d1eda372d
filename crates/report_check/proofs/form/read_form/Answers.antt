use Rattle.std.proofs.Common.{◌≡◌, ◌+◌, ◌-◌, ◌++◌, ◌≤◌, ◌∷◌, [], List, None, Option, append_assoc, arith, drop, get_or, length, length-append, map, refl, subst, sym, ap, ◌∙◌}
use Rattle.std.proofs.lemmas.List.{append-nil, drop_all, drop_more, get_or_default}
use Rattle.history_orders.specs.map_history.specs.declared.op.Op.TheVariants.{Get}
use Rattle.history_orders.specs.map_history.specs.declared.op.Request.{Request}
use Rattle.report_text.specs.Report.Line.{answer_line}
use Rattle.history_orders.specs.map_history.specs.declared.op.Entry.{Entry}
use Rattle.report_check.specs.Lines.{IsFirstBad, SayAll}
use Rattle.report_check.specs.Rows.{unserved}
use Rattle.report_check.specs.Said.{rows_said}
use Rattle.report_check.proofs.Forms.{bad_here, bad_moved, bad_step, lines_behind, places_are, says_all, said_step}
use Rattle.report_check.proofs.form.read_form.Goals as goal

abbrev no_request : Request
no_request = record { trace = 0; number = 0; op = Get 0 }

pub overflow_add-next : goal.overflow_add-next
overflow_add-next c = let low = c.requires.below c.loop-i.i no_request c.loop-i-test.true in omega (arith, low, c.ranges.traces)

pub take_traces-requires : goal.take_traces-requires
take_traces-requires c = c.loop-i.invariant.before c.loop-i.i no_request (omega arith) c.loop-i-test.true

pub returns-in-Err-clause-bad : goal.returns-in-Err-clause-bad
returns-in-Err-clause-bad c =
    let requests = c.args.requests.now in
    let begun = c.loop-i.begun in
    let next = drop_more requests c.loop-i.i no_request c.loop-i-test.true in
    let request = get_or requests c.loop-i.i no_request in
    let lines = answer_line None ∷ lines_behind (request.trace + 1) (map unserved (drop (c.loop-i.i + 1) requests)) c.args.traces 0 in
    let low = c.in-Err.ensures.among.0 in
    bad_moved _ _ c.args.report.now _ _ (sym (places_are requests c.args.traces c.requires.rising c.requires.below)) (omega (arith, low, c.from.ensures))
    (c.loop-i.invariant.bad (c.in-Err.trace + 1 - begun)
    (subst (λ (l : List Request). IsFirstBad (lines_behind begun (map unserved l) c.args.traces 0) c.loop-i.rest.now (c.in-Err.trace + 1 - begun)) (sym next)
    (c.in-Err.ensures.bad lines)))

pub returns-in_default-clause-bad : goal.returns-in_default-clause-bad
returns-in_default-clause-bad c =
    let requests = c.args.requests.now in
    let begun = c.loop-i.begun in
    let next = drop_more requests c.loop-i.i no_request c.loop-i-test.true in
    let request = get_or requests c.loop-i.i no_request in
    let lines = lines_behind (request.trace + 1) (map unserved (drop (c.loop-i.i + 1) requests)) c.args.traces 0 in
    let low = c.loop-i.invariant.before c.loop-i.i no_request (omega arith) c.loop-i-test.true in
    bad_moved _ _ c.args.report.now _ _ (sym (places_are requests c.args.traces c.requires.rising c.requires.below)) (omega (arith, low, c.from-in_default.ensures))
    (c.loop-i.invariant.bad (1 + (request.trace + 1 - begun))
    (subst (λ (l : List Request). IsFirstBad (lines_behind begun (map unserved l) c.args.traces 0) c.loop-i.rest.now (1 + (request.trace + 1 - begun))) (sym next)
    (c.in-Ok.ensures.later (answer_line None ∷ lines) 1 (bad_here (answer_line None) lines c.in-Ok.more.now c.in_default.ensures.none))))

pub loop-i-preserved : goal.loop-i-preserved
loop-i-preserved c =
    let requests = c.args.requests.now in
    let begun = c.loop-i.begun in
    let i = c.loop-i.i in
    let next = drop_more requests i no_request c.loop-i-test.true in
    let request = get_or requests i no_request in
    let behind = drop (i + 1) requests in
    let low = c.loop-i.invariant.before i no_request (omega arith) c.loop-i-test.true in
    let below = c.requires.below i no_request c.loop-i-test.true in
    let pushed = c.in_ok-push.ensures.items in
    record {
      said = λ more size all.
          let here = said_step begun c.args.traces size request behind c.in-Some.answer more c.loop-i.rest.now c.in-Ok.more.now c.in-Some.more.now c.in-Ok.ensures.said c.in-Some.ensures.some all in
          let read = c.loop-i.invariant.said (c.in-Some.answer ∷ more) size
          (subst (λ (l : List Request). SayAll (lines_behind begun (rows_said l (c.in-Some.answer ∷ more)) c.args.traces size) c.loop-i.rest.now) (sym next) here) in
          subst (λ (l : List (Option Entry)). SayAll (lines_behind 0 (rows_said requests l) c.args.traces size) c.args.report.now)
          (sym (ap (λ (l : List (Option Entry)). l ++ more) pushed ∙ append_assoc c.loop-i.answers.items (c.in-Some.answer ∷ []) more)) read;
      bad = λ number bad.
          bad_moved _ _ c.args.report.now _ _ refl (omega (arith, low))
          (c.loop-i.invariant.bad (number + 1 + (request.trace + 1 - begun))
          (subst (λ (l : List Request). IsFirstBad (lines_behind begun (map unserved l) c.args.traces 0) c.loop-i.rest.now (number + 1 + (request.trace + 1 - begun))) (sym next)
          (bad_step begun c.args.traces request behind c.in-Some.answer number c.loop-i.rest.now c.in-Ok.more.now c.in-Some.more.now c.in-Ok.ensures.later c.in-Some.ensures.some bad)));
      long = ap length pushed ∙ length-append c.loop-i.answers.items (c.in-Some.answer ∷ []) ∙ omega (arith, c.loop-i.invariant.long);
      before = λ k d after within. let up : (get_or requests i d).trace ≤ (get_or requests k d).trace = c.requires.rising i k d (omega (arith, after)) within in
          let same = ap (λ (r : Request). r.trace) (get_or_default requests i no_request d c.loop-i-test.true) in omega (arith, up, same);
      within = omega (arith, below);
    }

pub returns-in-Ok-take_end-clause-form : goal.returns-in-Ok-take_end-clause-form
returns-in-Ok-take_end-clause-form c =
    let requests = c.args.requests.now in
    let answers = c.loop-i.answers.items in
    let size = c.in-Ok-take_end.size in
    let long : length answers ≡ length requests = omega (arith, c.loop-i.invariant.long, c.loop-i.auto.i-end, c.loop-i-test.false) in
    let end = subst (λ (l : List Request). SayAll (lines_behind c.loop-i.begun (rows_said l []) c.args.traces size) c.loop-i.rest.now) (sym (drop_all c.loop-i.i requests c.loop-i-test.false)) c.in-Ok-take_end.ensures.said in
    record {
      long = long;
      says = says_all requests answers c.args.traces size c.args.report.now c.requires.rising c.requires.below long
          (subst (λ (l : List (Option Entry)). SayAll (lines_behind 0 (rows_said requests l) c.args.traces size) c.args.report.now) (append-nil answers) (c.loop-i.invariant.said [] size end));
    }

pub returns-in-Err-take_end-clause-bad : goal.returns-in-Err-take_end-clause-bad
returns-in-Err-take_end-clause-bad c =
    let requests = c.args.requests.now in
    let number = c.in-Err-take_end.number in
    let end = subst (λ (l : List Request). IsFirstBad (lines_behind c.loop-i.begun (map unserved l) c.args.traces 0) c.loop-i.rest.now number) (sym (drop_all c.loop-i.i requests c.loop-i-test.false)) c.in-Err-take_end.ensures.bad in
    bad_moved _ _ c.args.report.now _ _ (sym (places_are requests c.args.traces c.requires.rising c.requires.below))
    (omega (arith, c.from-in-Err-take_end.ensures, c.loop-i.auto.i-end, c.loop-i-test.false)) (c.loop-i.invariant.bad number end)
