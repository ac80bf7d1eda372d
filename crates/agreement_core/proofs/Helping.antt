-- The example's events may come, each by computation.
use Rattle.std.proofs.Common.{◌≡◌, ◌≢◌, ℕ, List, [], ◌∷◌, ◌++◌, true, false, refl, ap, ◌∙◌, subst, inl, ⊎_elim, lit<, lit≤, arith}
use Rattle.std.proofs.lemmas.Bool.{cases_eq}
use Rattle.section_lines.specs.structure_laws.specs.body_terms.specs.Update.{upd}
use Rattle.section_lines.specs.structure_laws.specs.body_terms.specs.Word.{pack}
use Rattle.agreement_core.specs.State.{AgreementState, Run}
use Rattle.agreement_core.proofs.Frame.{not_both}
use Rattle.agreement_core.proofs.Committing.{upd_else}
use Rattle.agreement_core.specs.Events.{Event, after, IsPublishable}
use Rattle.agreement_core.specs.Schedules.{IsFirst, first_state, AllEnabled, after_all}
use Rattle.agreement_core.specs.Helped.{few, fresh, code, slot, leading, late, helping, led, IsHelped}
use Rattle.agreement_core.proofs.HelpedLine.{helped_line, helped_whole, no_held}

publishable : IsPublishable few 0 0 (pack 0 1) code slot
publishable = record { line = helped_line; whole = helped_whole; link = lit< tt; free = refl; unspent = refl }

first : IsFirst few fresh
first = record { positive = λ p. lit< tt; bounded = λ p. lit≤ tt; free = λ p lock. refl }

-- section 0 alone is published
only_first : (d : ℕ) → d ≢ 0 → upd (λ n. false) 0 true d ≡ true → ⊥
only_first d ne used = grind arith

released : (p : ℕ) → p ≡ 0 → upd (λ n. false) 0 true p ≡ true
released p e = grind arith

leads : AllEnabled few (first_state fresh) leading
leads = (
  (refl, refl, publishable, refl),
  (
    (refl, refl),
    (
      (record { running = refl; going = refl; next = refl }, λ at un d ne is_open come. only_first d ne is_open.used),
      (
        (refl, refl),
        (
          (record { running = refl; going = refl; next = refl }, λ at un d ne is_open come. only_first d ne is_open.used),
          (
            record { running = refl; going = refl; next = refl },
            (
              (refl, refl, refl),
              (
                record { running = refl; going = refl; next = refl },
                (
                  record { running = refl; going = refl; next = refl },
                  (
                    record { running = refl; going = refl; next = refl },
                    (
                      record { running = refl; going = refl; next = refl },
                      (
                        record { running = refl; going = refl; next = refl },
                        (
                          (refl, refl, refl),
                          (
                            (refl, refl, inl (refl, refl)),
                            (
                              (refl, refl, λ p word taken. ⊎_elim (λ o. released p o.0) (λ n. absurd (no_held n.0 p n.1 word n.3)) taken),
                              tt,
                            ),
                          ),
                        ),
                      ),
                    ),
                  ),
                ),
              ),
            ),
          ),
        ),
      ),
    ),
  ),
)

-- none of these events is a step of this runner
abbrev Spares : ℕ → List Event → Type 0
Spares r [] = Unit {0}
Spares r (e ∷ es) = ((w : AgreementState) → (after w e).run r ≡ w.run r) × Spares r es

spared : (r : ℕ) (es : List Event) (w : AgreementState) → Spares r es → (after_all few w es).run r ≡ w.run r
spared r [] w h = refl
spared r (e ∷ es) w h = spared r es (after w e) h.1 ∙ h.0 w

others_spared : (r : ℕ) → r ≢ 0 → r ≢ 1 → Spares r (leading ++ late)
others_spared r n0 n1 = (
  λ w. refl,
  (
    λ w. upd_else w.run 1 r _ n1,
    (
      λ w. upd_else w.run 1 r _ n1,
      (
        λ w. upd_else w.run 0 r _ n0,
        (
          λ w. upd_else w.run 0 r _ n0,
          (
            λ w. upd_else w.run 0 r _ n0,
            (
              λ w. upd_else w.run 0 r _ n0,
              (
                λ w. upd_else w.run 0 r _ n0,
                (
                  λ w. upd_else w.run 0 r _ n0,
                  (
                    λ w. upd_else w.run 0 r _ n0,
                    (
                      λ w. upd_else w.run 0 r _ n0,
                      (
                        λ w. upd_else w.run 0 r _ n0,
                        (
                          λ w. upd_else w.run 0 r _ n0,
                          (
                            λ w. upd_else w.run 0 r _ n0,
                            (
                              λ w. upd_else w.run 0 r _ n0,
                              (
                                λ w. upd_else w.run 1 r _ n1,
                                (
                                  λ w. upd_else w.run 1 r _ n1,
                                  (
                                    λ w. upd_else w.run 1 r _ n1,
                                    (
                                      λ w. upd_else w.run 1 r _ n1,
                                      (
                                        λ w. upd_else w.run 1 r _ n1,
                                        (
                                          λ w. upd_else w.run 1 r _ n1,
                                          (
                                            λ w. upd_else w.run 1 r _ n1,
                                            (
                                              λ w. upd_else w.run 1 r _ n1,
                                              (λ w. upd_else w.run 1 r _ n1, (λ w. upd_else w.run 1 r _ n1, tt)),
                                            ),
                                          ),
                                        ),
                                      ),
                                    ),
                                  ),
                                ),
                              ),
                            ),
                          ),
                        ),
                      ),
                    ),
                  ),
                ),
              ),
            ),
          ),
        ),
      ),
    ),
  ),
)

-- after their ends nobody is in a run
idle_first : ((after_all few led late).run 0).running ≡ false
idle_first = refl

idle_second : ((after_all few led late).run 1).running ≡ false
idle_second = refl

idle : (r : ℕ) → ((after_all few led late).run r).running ≡ true → ⊥
idle r is = ⊎_elim
    (λ e. not_both _ (subst (λ n. ((after_all few led late).run n).running ≡ true) e is) idle_first)
    (λ n0. ⊎_elim
    (λ e. not_both _ (subst (λ n. ((after_all few led late).run n).running ≡ true) e is) idle_second)
    (λ n1. not_both _ is (ap (λ (q : Run). q.running) (spared r (leading ++ late) (first_state fresh) (others_spared r n0 n1))))
    (cases_eq r 1))
    (cases_eq r 0)

helps : AllEnabled few led helping
helps = (
  record { running = refl; going = refl; next = refl },
  (
    (refl, refl, refl),
    (
      record { running = refl; going = refl; next = refl },
      (
        record { running = refl; going = refl; next = refl },
        (
          record { running = refl; going = refl; next = refl },
          (
            record { running = refl; going = refl; next = refl },
            (
              record { running = refl; going = refl; next = refl },
              (
                (refl, refl, refl),
                (
                  (refl, refl, inl (refl, refl)),
                  (
                    (refl, refl, λ p word taken. ⊎_elim (λ o. released p o.0) (λ n. absurd (no_held n.0 p n.1 word n.3)) taken),
                    (
                      (refl, refl),
                      (
                        (refl, λ r is e. idle r is),
                        tt,
                      ),
                    ),
                  ),
                ),
              ),
            ),
          ),
        ),
      ),
    ),
  ),
)

pub is_helped : IsHelped
is_helped = record {
  first = first;
  leads = leads;
  helps = helps;
  cell_led = refl;
  lock_led = refl;
  cell = refl;
  lock = refl;
  reply = refl;
  moved = refl;
  stamps = refl;
  replies = refl;
  free = refl;
  one_trail = record { count = refl; agreed = λ k lt. refl };
}
