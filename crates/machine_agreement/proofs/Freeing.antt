-- Retired descriptors come back to the free list.
use Rattle.std.specs.Prelude.{◌==◌, ◌&&◌, ◌||◌, not, Bool, true, false}
use Rattle.std.proofs.Common.{◌≡◌, ◌≢◌, ℕ, List, [], ◌∷◌, sym, refl, ap, ◌∙◌, subst, arith}
use Rattle.std.proofs.lemmas.Bool.Decides.{nat_tests}
use Rattle.machine_states.specs.body_terms.specs.Update.{upd}
use Rattle.machine_states.specs.table_words.specs.declared.layout.Layout.{Layout}
use Rattle.machine_states.specs.structure_laws.specs.Meaning.{Meaning}
use Rattle.machine_states.specs.runner_parts.specs.Tests.{has}
use Rattle.agreement_core.specs.State.{Run, AgreementState}
use Rattle.agreement_core.specs.Events as events
use Rattle.machine_states.specs.Sight.{Sight}
use Rattle.machine_agreement.specs.Joined.{IsJoinedToAgreement}
use Rattle.machine_agreement.specs.Supplied.{IsIdle}
use Rattle.machine_agreement.specs.Chunks.{frees}
use Rattle.machine_agreement.proofs.Assembly.{LeadBy, lead_more, lead_sound}

module _ (m : Meaning) (l : Layout) (s : Sight) where
  -- the state after these descriptors have become free
  pub record Freed (w : AgreementState) (ds : List ℕ) : Type 0 where
    pub next : AgreementState
    pub leads : LeadBy m l (frees ds) w next
    pub joined : IsJoinedToAgreement m l next s
    pub used : (d : ℕ) → next.used d ≡ (w.used d && not (has ds d))
    pub live : next.live ≡ w.live
    pub section : next.section ≡ w.section
    pub run : next.run ≡ w.run
    pub shared : next.shared ≡ w.shared

  one_freed : (w : AgreementState) (d : ℕ) → IsJoinedToAgreement m l w s → IsIdle w d → Freed w (d ∷ [])
  one_freed w d old idle =
      let w1 = events.after w (events.Free d) in
      let leads : LeadBy m l (events.Free d ∷ []) w w1 = record { there = refl; enabled = ((idle.retired, idle.unrun), tt) } in record {
        next = w1;
        leads = leads;
        joined = record {
          sound = lead_sound m l (events.Free d ∷ []) w w1 leads old.sound;
          words = old.words;
          sections = old.sections;
          thunks = λ i used. old.thunks i (still (w.used) d i used);
          tied = λ r. let t = old.tied r in record { run = t.run; opened = t.opened; begins = t.begins; rests = t.rests; released = t.released; read = t.read; finishes = t.finishes; finished = t.finished };
        };
        used = λ i. one_less w.used d i;
        live = refl;
        section = refl;
        run = refl;
        shared = refl;
      }
    where
      still : (f : ℕ → Bool) (d i : ℕ) → upd f d false i ≡ true → f i ≡ true
      still f d i e = grind (arith, nat_tests)

      one_less : (f : ℕ → Bool) (d i : ℕ) → upd f d false i ≡ (f i && not (has (d ∷ []) i))
      one_less f d i = grind (arith, nat_tests)

  -- all of them, one after the other
  pub freed : (ds : List ℕ) (w : AgreementState) → IsJoinedToAgreement m l w s → ((d : ℕ) → has ds d ≡ true → IsIdle w d) → Freed w ds
  freed [] w old idle = record { next = w; leads = record { enabled = tt; there = refl }; joined = old; used = λ d. nobody (w.used d); live = refl; section = refl; run = refl; shared = refl }
    where
      nobody : (b : Bool) → b ≡ (b && not false)
      nobody true = refl
      nobody false = refl
  freed (d ∷ ds) w old idle =
      let one = one_freed w d old (idle d (first d ds)) in
      let rest = freed ds one.next one.joined (λ i is. let o = idle i (later d ds i is) in record {
        retired = ap (λ (f : ℕ → Bool). f i) one.live ∙ o.retired;
        unrun = λ r running. subst (λ (f : ℕ → Run). (f r).running ≡ true → (f r).descriptor ≢ i) (sym one.run) (o.unrun r) running;
      }) in
      record {
        next = rest.next;
        leads = lead_more m l (frees (d ∷ [])) (frees ds) w one.next rest.next one.leads rest.leads;
        joined = rest.joined;
        used = λ i. rest.used i ∙ (ap (λ b. b && not (has ds i)) (one.used i) ∙ both (w.used i) (d == i) (has ds i));
        live = rest.live ∙ one.live;
        section = rest.section ∙ one.section;
        run = rest.run ∙ one.run;
        shared = rest.shared ∙ one.shared;
      }
    where
      first : (d : ℕ) (ds : List ℕ) → has (d ∷ ds) d ≡ true
      first d ds = at (d == d) (has ds d) (same d)
        where
          same : (d : ℕ) → (d == d) ≡ true
          same d = grind (arith, nat_tests)

          at : (a b : Bool) → a ≡ true → (a || b) ≡ true
          at a b e = ap (λ x. x || b) e

      later : (d : ℕ) (ds : List ℕ) (i : ℕ) → has ds i ≡ true → has (d ∷ ds) i ≡ true
      later d ds i e = ap (λ x. (d == i) || x) e ∙ or_true (d == i)
        where
          or_true : (b : Bool) → (b || true) ≡ true
          or_true true = refl
          or_true false = refl

      both : (a b c : Bool) → ((a && not (b || false)) && not c) ≡ (a && not (b || c))
      both true true c = refl
      both true false c = refl
      both false b c = refl
