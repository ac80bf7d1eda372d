-- Events of agreement that are no event of the history.
use Rattle.std.proofs.Common.{◌≡◌, ◌≢◌, ℕ, suc, Bool, true, false, refl, sym, ap, ◌∙◌, arith}
use Rattle.std.specs.Prelude.{◌&&◌, not, max}
use Rattle.agreement_core.specs.body_terms.specs.Update.{upd}
use Rattle.agreement_core.specs.body_terms.specs.declared.micro.Micro.{Micro}
use Rattle.agreement_core.specs.body_terms.specs.declared.micro.Micro.TheVariants as micros
use Rattle.agreement_core.specs.table_words.specs.declared.layout.Layout.{Layout}
use Rattle.agreement_core.specs.section_lines.specs.structure_laws.specs.Meaning.{Meaning}
use Rattle.agreement_core.specs.section_lines.specs.structure_laws.proofs.Changes.{upd_same, upd_other}
use Rattle.agreement_core.specs.State.{Run, AgreementState, section_of}
use Rattle.agreement_core.specs.Checks.{is_stamp_exchange, came}
use Rattle.epoch_core.specs.State.{Counts}
use Rattle.history_core.specs.State.{Requests, HistoryState}
use Rattle.machine_scenes.specs.Shown.{States}
use Rattle.machine_scenes.specs.Kept.{IsKept}
use Rattle.machine_scenes.proofs.Shown.{upd_found}
use Rattle.machine_scenes.proofs.Links.{true_false}
use Rattle.machine_history.specs.Tied.{rank, AreTied}
use Rattle.machine_history.proofs.Tying.{HasWords, GoesOn, line_at, goes_on_tied}

pub exchange_is : (x : Micro) → is_stamp_exchange x ≡ true → x ≡ micros.StampExchange
exchange_is x is = grind arith

-- no other step is the exchange of a stamp
pub other_exchange : (x : Micro) → rank x ≢ 2 → is_stamp_exchange x ≡ false
other_exchange micros.StampExchange other = absurd (other refl)
other_exchange x other = grind arith

pub false_of : (b : Bool) → (b ≡ true → ⊥) → b ≡ false
false_of true not = absurd (not refl)
false_of false not = refl

-- a run that is changed so has come one place further
pub goes_by : (a a' : AgreementState) (r : ℕ) (log : ℕ → ℕ) (q : Run)
    → ((e : ℕ) → a'.section e ≡ upd a.section ((a.run r).descriptor) (came (record (section_of a r) { log = log }) (suc (a.run r).at)) e) → ((e : ℕ) → a'.used e ≡ a.used e)
    → ((i : ℕ) → a'.run i ≡ upd a.run r q i) → q.running ≡ true → q.ended ≡ false → q.descriptor ≡ (a.run r).descriptor → q.at ≡ suc (a.run r).at → GoesOn a a' r log
goes_by a a' r log q section used run running going descriptor at =
    let own = run r ∙ upd_same a.run r r q refl in
    record {
      section = section;
      used = used;
      others = λ i other. run i ∙ upd_other a.run r i q other;
      running = ap (λ q. q.running) own ∙ running;
      going = ap (λ q. q.ended) own ∙ going;
      descriptor = ap (λ q. q.descriptor) own ∙ descriptor;
      at = ap (λ q. q.at) own ∙ at;
    }

module _ (m : Meaning) (layout : Layout) (c : Counts) (requests : Requests) (j : States) (kept : IsKept m layout c j) (w : HistoryState) (tied : AreTied requests j w) where
  abbrev a : AgreementState
  a = j.agreement

  pub words_of : HasWords a w
  words_of = record { clock = tied.clock; stamp = tied.stamp; reply = tied.reply }

  -- before it a run stands at another step than the exchange
  pub not_loaded : (r : ℕ) (x : Micro) → (section_of a r).code ((a.run r).at) ≡ x → rank x ≢ 2 → w.loaded r ≡ false
  not_loaded r x is other = tied.loaded r ∙ by_code ((a.run r).running) ((a.run r).ended) (is_stamp_exchange ((section_of a r).code ((a.run r).at))) (ap is_stamp_exchange is ∙ other_exchange x other)
    where
      by_code : (running ended loading : Bool) → loading ≡ false → (running && (not ended && loading)) ≡ false
      by_code running ended loading none = grind arith

  -- behind another step than the load of the clock a run stands at another one than the exchange
  pub next_other : (r : ℕ) → (a.run r).running ≡ true → (x : Micro) → (section_of a r).code ((a.run r).at) ≡ x → rank x ≢ 1 → is_stamp_exchange ((section_of a r).code (suc (a.run r).at)) ≡ false
  next_other r running x is other = false_of (is_stamp_exchange ((section_of a r).code (suc (a.run r).at))) (λ next.
      let line = line_at m layout c requests j kept w tied ((a.run r).descriptor) (kept.agreement.running_used r running) in
      let load = line.ordered.stamp_before ((a.run r).at) (suc (a.run r).at) (exchange_is ((section_of a r).code (suc (a.run r).at)) next) refl in
      other (ap rank (sym is ∙ load)))

  -- a step of a run that has nothing to do with its stamp
  pub quiet : (r : ℕ) → (a.run r).running ≡ true → (x : Micro) → (section_of a r).code ((a.run r).at) ≡ x → rank x ≡ 0 → (j' : States) → j'.publications ≡ j.publications
      → (log : ℕ → ℕ) → GoesOn a j'.agreement r log → HasWords j'.agreement w → AreTied requests j' w
  quiet r running x is none j' publications log goes words =
      let next = next_other r running x is (λ one. let two = one in absurd (omega arith)) in
      goes_on_tied m layout c requests j kept w tied j' publications w r running log goes
      (record {
        used = λ e. refl;
        done = λ e. refl;
        request = λ e. refl;
        answer = λ e. refl;
        stage = λ e. ap (λ f. f e) (sym (upd_found w.stage ((a.run r).descriptor) (max (w.stage ((a.run r).descriptor)) (rank ((section_of a r).code ((a.run r).at))))
            (same (w.stage ((a.run r).descriptor)) (rank ((section_of a r).code ((a.run r).at))) (ap rank is ∙ none))));
      })
      words (record { loaded = λ i other. refl; run = λ i other. refl; hand = λ i other. refl })
      (not_loaded r x is (λ two. absurd (omega arith)) ∙ sym next)
      (λ at. absurd (true_false at next))
    where
      same : (n k : ℕ) → k ≡ 0 → max n k ≡ n
      same n k none = omega arith
