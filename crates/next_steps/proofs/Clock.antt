-- The clock is no more than the number of stamped requests.
use Rattle.std.specs.Prelude.{◌==◌, ◌/◌, cond, max, Bool, true, false}
use Rattle.std.proofs.Common.{◌≡◌, ◌≢◌, ℕ, zero, suc, ◌+◌, ◌<◌, ◌≤◌, List, length, sym, refl, ap, ◌∙◌, subst, arith, ⊎_elim, Some}
use Rattle.std.proofs.lemmas.Bool.Decides.{nat_tests}
use Rattle.std.proofs.lemmas.Bool.{cases_eq}
use Rattle.machine_states.specs.map_history.specs.declared.op.Request.{Request}
use Rattle.machine_states.specs.body_terms.specs.declared.micro.Micro.{Micro}
use Rattle.machine_states.specs.body_terms.specs.declared.micro.Micro.TheVariants as micros
use Rattle.machine_states.specs.table_words.specs.declared.layout.Layout.{Layout}
use Rattle.machine_states.specs.table_words.specs.declared.spot.Spot.{Spot}
use Rattle.machine_states.specs.table_words.specs.declared.spot.Spot.TheVariants.{Clock, Stamp}
use Rattle.machine_states.specs.table_words.specs.declared.access.Access.{Access}
use Rattle.machine_states.specs.table_words.specs.Access.{written, exchanged}
use Rattle.machine_states.specs.table_words.specs.Seen.{put}
use Rattle.machine_states.specs.structure_laws.specs.Meaning.{Meaning}
use Rattle.machine_states.specs.runner_parts.specs.declared.event.EventKind.{EventKind}
use Rattle.machine_states.specs.runner_parts.specs.declared.event.EventKind.TheVariants as kinds
use Rattle.machine_states.specs.runner_steps.specs.InRun.{stamp_after}
use Rattle.machine_states.specs.runner_steps.specs.Reads.{read_stamp_after}
use Rattle.machine_states.specs.structure_laws.specs.Laws.{Laws}
use Rattle.machine_states.specs.table_words.specs.Limits.{IsWithinLimits}
use Rattle.machine_states.specs.table_words.specs.Places.{Fits}
use Rattle.machine_states.specs.runner_steps.specs.Asks.{sizes_for}
use Rattle.machine_states.specs.runner_parts.specs.State.{RunState}
use Rattle.machine_states.specs.runner_steps.specs.Sections.{thunk_of, is_open_run, next_of}
use Rattle.agreement_core.specs.section_lines.specs.Line.{is_clock_raise}
use Rattle.agreement_core.specs.Checks.{is_stamp_exchange}
use Rattle.machine_states.specs.World.{World}
use Rattle.machine_states.specs.First.{IsFirst}
use Rattle.machine_states.specs.Reached.{Reached}
use Rattle.machine_states.specs.Sight.{Sight, sight, sight_after}
use Rattle.machine_invariant.specs.machine_blocks.specs.machine_guards.specs.machine_agreement.specs.machine_epochs.proofs.RunPlaces.{is_of_end, next_in_line, open_run}
use Rattle.machine_invariant.specs.machine_blocks.specs.machine_guards.specs.machine_agreement.proofs.LineAsked.{stamp_asked, clock_raise_asked}
use Rattle.machine_invariant.specs.After.{AreAllowed}
use Rattle.machine_invariant.specs.Whole.{Beside, IsWhole}
use Rattle.machine_invariant.proofs.First.{first_whole}
use Rattle.next_steps.specs.Rooms.{stamped, ClockIsSmall}
use Rattle.next_steps.proofs.Touched.{raises_clock, stamps, asked_may, clock_same, stamp_same}
use Rattle.machine_invariant.proofs.Keeping.{IsStep, reached_keeps}
use Rattle.machine_invariant.specs.machine_blocks.specs.machine_guards.specs.machine_agreement.specs.machine_epochs.proofs.ReadsAsked.{read_stamp_asked, stamp_some}
use Rattle.next_steps.specs.Looks.{LooksAreSmall, LooksHaveStamps}
use Rattle.next_steps.proofs.Looks.{looks_small, first_looks}
use Rattle.next_steps.proofs.Runs.{in_line, out_of_run, section, run, here, run_sound, code}
use Rattle.std.proofs.lemmas.Grind.{common_steps}

-- stamps that stand are counted alike
stamped_same : (f g : Spot → ℕ) (n : ℕ) → ((q : ℕ) → g (Stamp q) ≡ f (Stamp q)) → stamped g n ≡ stamped f n
stamped_same f g zero same = refl
stamped_same f g (suc n) same = let rest = stamped_same f g n same in let here = same n in grind (arith, nat_tests)

-- a request that gets its stamp is one more
stamped_more : (f g : Spot → ℕ) (n q : ℕ) → q < n → f (Stamp q) ≡ 0 → g (Stamp q) ≢ 0 → ((i : ℕ) → i ≢ q → g (Stamp i) ≡ f (Stamp i))
    → stamped g n ≡ suc (stamped f n)
stamped_more f g zero q low was is same = absurd (omega arith)
stamped_more f g (suc n) q low was is same = ⊎_elim
    (λ last. let rest = stamped_below f g n q (omega arith) same in
    let a : f (Stamp n) ≡ 0 = ap (λ i. f (Stamp i)) last ∙ was in
    let b : g (Stamp n) ≢ 0 = λ e. is (ap (λ i. g (Stamp i)) (sym last) ∙ e) in grind (arith, nat_tests))
    (λ other. let rest = stamped_more f g n q (omega arith) was is same in let here = same n other in grind (arith, nat_tests))
    (cases_eq n q)
  where
    stamped_below : (f g : Spot → ℕ) (n q : ℕ) → n ≤ q → ((i : ℕ) → i ≢ q → g (Stamp i) ≡ f (Stamp i)) → stamped g n ≡ stamped f n
    stamped_below f g zero q le same = refl
    stamped_below f g (suc n) q le same =
        let rest = stamped_below f g n q (omega arith) same in
        let here = same n (λ e. let z = e in omega arith) in grind (arith, nat_tests)

half : (c : ℕ) → stamp_after c / 2 ≤ c + 1
half c = grind (arith, common_steps)

read_half : (c : ℕ) → read_stamp_after c / 2 ≤ c + 1
read_half c = grind (arith, common_steps)

-- a stamp word after an exchange from 0
at_found : (found new : ℕ) → found ≡ 0 → exchanged found 0 new ≡ new
at_found found new e = grind (arith, nat_tests)

at_stamp : (found new : ℕ) → found ≢ 0 → exchanged found 0 new ≡ found
at_stamp found new ne = grind (arith, nat_tests)

module _ (f : Spot → ℕ) (n req c : ℕ) (low : req < n) (clock : f Clock ≤ stamped f n) (stamps : (q : ℕ) → f (Stamp q) / 2 ≤ stamped f n)
    (read : c ≤ f Clock) (new : ℕ) (some : new ≢ 0) (low_half : new / 2 ≤ c + 1) where
  abbrev v : ℕ
  v = exchanged (f (Stamp req)) 0 new

  abbrev word' : Spot → ℕ
  word' = put f (Stamp req) v

  mine : (i : ℕ) → i ≡ req → word' (Stamp i) ≡ v
  mine i e = grind (arith, nat_tests)

  other : (i : ℕ) → i ≢ req → word' (Stamp i) ≡ f (Stamp i)
  other i ne = grind (arith, nat_tests)

  new_stamp : f (Stamp req) ≡ 0 → (word' Clock ≤ stamped word' n) × ((q : ℕ) → word' (Stamp q) / 2 ≤ stamped word' n)
  new_stamp e =
      let is : v ≡ new = at_found (f (Stamp req)) new e in
      let count = stamped_more f word' n req low e (λ z. some (sym is ∙ (sym (mine req refl) ∙ z))) other in (
        (let a = clock in omega arith),
        (λ q. ⊎_elim
            (λ same. subst (λ a. a / 2 ≤ stamped word' n) (sym (mine q same ∙ is)) (omega arith))
            (λ ne. subst (λ a. a / 2 ≤ stamped word' n) (sym (other q ne)) (let h = stamps q in omega arith))
            (cases_eq q req)),
      )

  old_stamp : f (Stamp req) ≢ 0 → (word' Clock ≤ stamped word' n) × ((q : ℕ) → word' (Stamp q) / 2 ≤ stamped word' n)
  old_stamp ne =
      let same : (q : ℕ) → word' (Stamp q) ≡ f (Stamp q) = λ q. ⊎_elim
      (λ e. mine q e ∙ (at_stamp (f (Stamp req)) new ne ∙ ap (λ i. f (Stamp i)) (sym e))) (other q) (cases_eq q req) in
      let count = stamped_same f word' n same in (
        subst (λ b. f Clock ≤ b) (sym count) clock,
        (λ q. subst (λ a. a / 2 ≤ stamped word' n) (sym (same q)) (subst (λ b. f (Stamp q) / 2 ≤ b) (sym count) (stamps q))),
      )

  exchange_small : (word' Clock ≤ stamped word' n) × ((q : ℕ) → word' (Stamp q) / 2 ≤ stamped word' n)
  exchange_small = ⊎_elim new_stamp old_stamp (cases_eq (f (Stamp req)) 0)

-- the clock number by which a run is about to stamp, and the stamp to which it is about to raise the clock
module _ (m : Meaning) (l : Layout) (g : Beside) (s : Sight) (whole : IsWhole m l g s) (r : ℕ) (q : RunState)
    (is : (s.part r).run ≡ Some q) (opened : is_open_run q ≡ true) where
  abbrev all : length q.opened ≡ 13
  all = open_run q opened

  stands : (micro : Micro) → is_of_end micro ≡ false → next_of m q ≡ micro → (section m l g s whole r q is).code ((run m l g s whole r q is).at) ≡ micro
  stands micro inner next = ap (section m l g s whole r q is).code (here m l g s whole r q is).at
      ∙ (code m l g s whole r q is all q.at ∙ next_in_line m q micro inner next)

  pub clock_word : next_of m q ≡ micros.StampExchange → q.word ≤ s.word Clock
  clock_word next =
      let sound = (run_sound m l g s whole r q is).in_word.clock_read (ap is_stamp_exchange (stands micros.StampExchange refl next)) in
      subst (λ a. a ≤ s.word Clock) (here m l g s whole r q is).word
      (subst (λ b. (run m l g s whole r q is).word ≤ b) whole.sections.words.clock sound)

  pub clock_raise_word : next_of m q ≡ micros.ClockRaise
      → (request : ℕ) × (q.word ≡ s.word (Stamp request))
  clock_raise_word next =
      let sound = (run_sound m l g s whole r q is).in_word.stamp_agreed (ap is_clock_raise (stands micros.ClockRaise refl next)) in
      let req = (section m l g s whole r q is).request in
      (req, sym (here m l g s whole r q is).word ∙ (sound ∙ whole.sections.words.stamp req))

-- where a step raises the clock by no more than this
raised : (f : Spot → ℕ) (n number : ℕ) → f Clock ≤ n → number ≤ n → max (f Clock) number ≤ n
raised f n number a b = grind arith

module _ (m : Meaning) (l : Layout) (rs : List Request) (s s' : Sight) (r : ℕ) where
  abbrev n : ℕ
  n = length rs

  -- a step that changes neither the clock nor a stamp
  quiet : (kind : EventKind) (st : IsStep m l rs s s' r kind) → raises_clock kind ≡ false → stamps kind ≡ false → ClockIsSmall rs s → ClockIsSmall rs s'
  quiet kind st calm calm' old =
      let x = st.step.ask in
      let may = asked_may m l rs r (s.part r) x kind st.step.asked in
      let word' = put s.word x.0 (written x.1 (s.word x.0)) in
      let clock = clock_same s.word x.0 kind x.1 calm may in
      let stamp : (q : ℕ) → word' (Stamp q) ≡ s.word (Stamp q) = λ q. stamp_same s.word x.0 kind x.1 q calm' may in
      let count = stamped_same s.word word' n stamp in
      subst (ClockIsSmall rs) (sym st.step.next) (record {
        clock = subst (λ a. a ≤ stamped word' n) (sym clock) (subst (λ b. s.word Clock ≤ b) (sym count) old.clock);
        stamps = λ q. subst (λ a. a / 2 ≤ stamped word' n) (sym (stamp q)) (subst (λ b. s.word (Stamp q) / 2 ≤ b) (sym count) (old.stamps q));
      })

  -- the clock is raised to half of a stamp
  raises : (st : IsStep m l rs s s' r kinds.ClockRaise) → ClockIsSmall rs s → ClockIsSmall rs s'
  raises st old =
      let x = st.step.ask in
      let at = in_line m l rs r kinds.ClockRaise (s.part r) x refl (λ q. refl) st.step.asked in
      let asked = clock_raise_asked at.run x (next_of m at.run) at.asked in
      let agreed = clock_raise_word m l st.beside s st.whole r at.run at.runs at.opened asked.0 in
      subst (ClockIsSmall rs) (sym st.step.next)
      (subst (λ (y : Spot × Access). ClockIsSmall rs (sight_after m l s r kinds.ClockRaise y)) asked.1 (record {
        clock = raised s.word (stamped s.word n) (at.run.word / 2) old.clock
            (subst (λ a. a / 2 ≤ stamped s.word n) (sym agreed.1) (old.stamps agreed.0));
        stamps = old.stamps;
      }))

  -- a request gets its stamp, or keeps it
  stamping : (st : IsStep m l rs s s' r kinds.StampExchange) → ClockIsSmall rs s → ClockIsSmall rs s'
  stamping st old =
      let x = st.step.ask in
      let at = in_line m l rs r kinds.StampExchange (s.part r) x refl (λ q. refl) st.step.asked in
      let asked = stamp_asked at.run x (next_of m at.run) at.asked in
      let req = (thunk_of at.run.opened).request in
      let low : req < n = subst (λ (y : Spot × Access). Fits (sizes_for m l rs) y.0) (sym asked.2) st.step.has_word in
      let read = clock_word m l st.beside s st.whole r at.run at.runs at.opened asked.0 in
      let next = exchange_small s.word n req at.run.word low old.clock old.stamps read (stamp_after at.run.word) (λ e. absurd (omega (arith, e)))
      (half at.run.word) in
      subst (ClockIsSmall rs) (sym st.step.next)
      (subst (λ (y : Spot × Access). ClockIsSmall rs (sight_after m l s r kinds.StampExchange y)) asked.2
      (record { clock = next.0; stamps = next.1 }))

  -- the same by a read without a lock
  read_stamping : (st : IsStep m l rs s s' r kinds.ReadStamp) → LooksAreSmall s → ClockIsSmall rs s → ClockIsSmall rs s'
  read_stamping st looks old =
      let x = st.step.ask in
      let out = out_of_run m l rs r kinds.ReadStamp (s.part r) x (λ q. refl) (λ q. refl) st.step.asked in
      let asked = read_stamp_asked (s.part r) x out.asked in
      let req = asked.look.thunk.request in
      let low : req < n = subst (λ (y : Spot × Access). Fits (sizes_for m l rs) y.0) (sym asked.is) st.step.has_word in
      let next = exchange_small s.word n req asked.look.clock low old.clock old.stamps (looks r asked.look asked.at)
      (read_stamp_after asked.look.clock) (stamp_some asked.look.clock) (read_half asked.look.clock) in
      subst (ClockIsSmall rs) (sym st.step.next)
      (subst (λ (y : Spot × Access). ClockIsSmall rs (sight_after m l s r kinds.ReadStamp y)) asked.is
      (record { clock = next.0; stamps = next.1 }))

  pub clock_small : (kind : EventKind) → IsStep m l rs s s' r kind → LooksAreSmall s → ClockIsSmall rs s → ClockIsSmall rs s'
  clock_small kinds.ClockRaise st looks old = raises st old
  clock_small kinds.StampExchange st looks old = stamping st old
  clock_small kinds.ReadStamp st looks old = read_stamping st looks old
  clock_small kind st looks old = quiet kind st refl refl old

-- at first no request has a stamp
pub first_small : (m : Meaning) (laws : Laws m) (l : Layout) (limits : IsWithinLimits l) (rs : List Request) (w : World)
    → IsFirst m l rs w → ClockIsSmall rs (sight m l rs w)
first_small m laws l limits rs w start =
    let words = (first_whole m laws l limits rs w start).sections.words in
    record {
      clock = subst (λ a. a ≤ stamped (sight m l rs w).word (length rs)) words.clock (omega arith);
      stamps = λ q. subst (λ a. a / 2 ≤ stamped (sight m l rs w).word (length rs)) (words.stamp q) (omega arith);
    }

both_small : (m : Meaning) → Laws m → (l : Layout) → IsWithinLimits l → (rs : List Request) → AreAllowed rs → (w : World)
    → Reached m l rs w → ClockIsSmall rs (sight m l rs w) × LooksAreSmall (sight m l rs w)
both_small m laws l limits rs allowed w reached =
    reached_keeps m laws l limits rs allowed (λ s. ClockIsSmall rs s × LooksAreSmall s)
    (λ v start. (first_small m laws l limits rs v start, first_looks m l rs v start))
    (λ s s' r kind st old. (clock_small m l rs s s' r kind st old.1 old.0, looks_small m l rs s s' r kind st old.1)) w reached

-- so in every reached state
pub reached_small : (m : Meaning) → Laws m → (l : Layout) → IsWithinLimits l → (rs : List Request) → AreAllowed rs → (w : World)
    → Reached m l rs w → ClockIsSmall rs (sight m l rs w)
reached_small m laws l limits rs allowed w reached = (both_small m laws l limits rs allowed w reached).0

-- and what was loaded of the clock for reads without a lock is no more than the clock
pub reached_looks : (m : Meaning) → Laws m → (l : Layout) → IsWithinLimits l → (rs : List Request) → AreAllowed rs → (w : World)
    → Reached m l rs w → LooksAreSmall (sight m l rs w)
reached_looks m laws l limits rs allowed w reached = (both_small m laws l limits rs allowed w reached).1

-- and what a run has loaded of the clock, or agreed on for a stamp, has room
pub stamped_few : (f : Spot → ℕ) (n : ℕ) → stamped f n ≤ n
stamped_few f zero = omega arith
stamped_few f (suc n) = let rest = stamped_few f n in let one = one_or_none (f (Stamp n) == 0) in omega arith
  where
    one_or_none : (b : Bool) → cond b 0 1 ≤ 1
    one_or_none true = omega arith
    one_or_none false = omega arith

-- which the number of requests bounds
pub reached_stamps : (m : Meaning) → Laws m → (l : Layout) → IsWithinLimits l → (rs : List Request) → AreAllowed rs → (w : World)
    → Reached m l rs w → LooksHaveStamps (sight m l rs w)
reached_stamps m laws l limits rs allowed w reached r x at =
    let both = both_small m laws l limits rs allowed w reached in
    let low = both.1 r x at in
    let clock = both.0.clock in
    let most = stamped_few (sight m l rs w).word (length rs) in
    let few = allowed.in_order.few in omega arith
