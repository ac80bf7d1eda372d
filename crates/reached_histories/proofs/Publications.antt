-- What is known of the section that a worker has published and not retired.
use Rattle.std.specs.Prelude.{◌==◌, cond, Bool, true, false, [], take}
use Rattle.std.proofs.Common.{◌≡◌, ◌≢◌, ℕ, suc, ◌≤◌, List, ◌∷◌, ◌++◌, length, refl, sym, ap, ◌∙◌, subst, ⊎_elim, arith}
use Rattle.std.proofs.lemmas.List.{take-append-le, length-append}
use Rattle.std.proofs.Math.Seq.{take-length}
use Rattle.machine_states.specs.structure_laws.proofs.Changes.{upd_same, upd_other}
use Rattle.machine_states.specs.runner_parts.specs.declared.entries.Known.{Known}
use Rattle.machine_states.specs.runner_parts.specs.Tests.{is_answered}
use Rattle.machine_history.specs.history_core.specs.State.{Requests, HistoryState}
use Rattle.machine_history.specs.history_core.specs.Events as history
use Rattle.machine_history.specs.history_core.specs.Schedules.{after_all}
use Rattle.machine_history.specs.history_core.specs.Sound.{IsSound}
use Rattle.machine_history.specs.history_core.proofs.RealTime.{Passes, passes_nowhere, passes_more, event_passes}
use Rattle.reached_histories.specs.Keeping.{learns, ends}
use Rattle.reached_histories.proofs.Quietly.{GoesOn, IsStampedBy, zero_or_some, up_to}

-- the section for the request `q` in the descriptor `d`, published by this worker when it knew the first `k` of these words
pub record IsOwn (c : Requests) (w : HistoryState) (known : List Known) (r d q k : ℕ) : Type 0 where
  pub own : c.worker q ≡ r
  pub request : w.request d ≡ q
  pub within : k ≤ length known
  -- what its publisher knew then, by the words; the worker's other stamped requests are among it
  pub knew : (n : ℕ) → w.knew d n ≡ is_answered (take k known) n
  pub others : (n : ℕ) → c.worker n ≡ r → w.stamp n ≢ 0 → n ≢ q → w.knew d n ≡ true
  -- its request has no stamp but its own
  pub stamped : w.stamp q ≢ 0 → 2 ≤ w.stage d

-- the sections are the same and only get further, and who was stamped was stamped by its worker's published section
pub record IsLater (c : Requests) (w v : HistoryState) : Type 0 where
  pub request : v.request ≡ w.request
  pub knew : v.knew ≡ w.knew
  pub stage : (d : ℕ) → w.stage d ≤ v.stage d
  pub stamped : (n : ℕ) → w.stamp n ≡ 0 → v.stamp n ≢ 0 → IsStampedBy c w v n

pub goes_later : (c : Requests) (w v : HistoryState) → GoesOn c w v → IsLater c w v
goes_later c w v on = record { request = on.request; knew = on.knew; stage = on.stage; stamped = on.stamped }

-- nothing of this changes where a runner learns something
record IsSame (w v : HistoryState) : Type 0 where
  pub request : v.request ≡ w.request
  pub knew : v.knew ≡ w.knew
  pub stage : v.stage ≡ w.stage
  pub stamp : v.stamp ≡ w.stamp

learned_same : (c : Requests) (r : ℕ) (ns : List ℕ) (w : HistoryState) → IsSame w (after_all c w (learns r ns))
learned_same c r [] w = record { request = refl; knew = refl; stage = refl; stamp = refl }
learned_same c r (n ∷ ns) w =
    let more = learned_same c r ns (history.after c w (history.Learn r n)) in
    record { request = more.request; knew = more.knew; stage = more.stage; stamp = more.stamp }

-- or comes to its own run's end
ended_same : (c : Requests) (r before now : ℕ) (w : HistoryState) → IsSame w (after_all c w (ends r before now))
ended_same c r before now w = by (before == now)
  where
    by : (b : Bool) → IsSame w (after_all c w (cond b [] (history.Over r ∷ [])))
    by true = record { request = refl; knew = refl; stage = refl; stamp = refl }
    by false = record { request = refl; knew = refl; stage = refl; stamp = refl }

learned_passes : (c : Requests) (r : ℕ) (ns : List ℕ) (w : HistoryState) → Passes w (after_all c w (learns r ns))
learned_passes c r [] w = passes_nowhere w
learned_passes c r (n ∷ ns) w = passes_more w (history.after c w (history.Learn r n)) (after_all c w (learns r (n ∷ ns)))
    (event_passes c w (history.Learn r n) tt) (learned_passes c r ns (history.after c w (history.Learn r n)))

ended_passes : (c : Requests) (r before now : ℕ) (w : HistoryState) → Passes w (after_all c w (ends r before now))
ended_passes c r before now w = by (before == now)
  where
    by : (b : Bool) → Passes w (after_all c w (cond b [] (history.Over r ∷ [])))
    by true = passes_nowhere w
    by false = event_passes c w (history.Over r) tt

pub passes_between : (c : Requests) (r before now : ℕ) (ns : List ℕ) (w v : HistoryState)
    → Passes (after_all c w (ends r before now)) v → Passes w (after_all c v (learns r ns))
passes_between c r before now ns w v on = passes_more w v (after_all c v (learns r ns))
    (passes_more w (after_all c w (ends r before now)) v (ended_passes c r before now w) on) (learned_passes c r ns v)

-- the end of an own run, then steps that publish nothing, then what is learned
pub later_between : (c : Requests) (r before now : ℕ) (ns : List ℕ) (w v : HistoryState)
    → ((i d : ℕ) → (after_all c w (ends r before now)).published i ≡ suc d → w.published i ≡ suc d)
    → GoesOn c (after_all c w (ends r before now)) v → IsLater c w (after_all c v (learns r ns))
later_between c r before now ns w v was on =
    let u = after_all c w (ends r before now) in
    let first = ended_same c r before now w in
    let last = learned_same c r ns v in record {
      request = last.request ∙ (on.request ∙ first.request);
      knew = last.knew ∙ (on.knew ∙ first.knew);
      stage = λ d. subst (λ n. w.stage d ≤ n) (sym (ap (λ (f : ℕ → ℕ). f d) last.stage))
          (subst (λ n. n ≤ v.stage d) (ap (λ (f : ℕ → ℕ). f d) first.stage) (on.stage d));
      stamped = λ n none some.
          let by = on.stamped n (ap (λ (f : ℕ → ℕ). f n) first.stamp ∙ none) (λ e. some (ap (λ (f : ℕ → ℕ). f n) last.stamp ∙ e)) in record {
            descriptor = by.descriptor;
            own = was (c.worker n) by.descriptor by.own;
            request = ap (λ (f : ℕ → ℕ). f by.descriptor) (sym first.request) ∙ by.request;
            far = subst (λ k. 2 ≤ k) (sym (ap (λ (f : ℕ → ℕ). f by.descriptor) last.stage)) by.far;
          };
    }

module _ (c : Requests) (r d q k : ℕ) where
  -- it is known later too, where it is the worker's published section as long as that isn't run to its end
  pub own_later : (w v : HistoryState) (known more : List Known) → ((e : ℕ) → w.published r ≡ suc e → d ≡ e) → IsLater c w v
      → IsOwn c w known r d q k → IsOwn c v (known ++ more) r d q k
  own_later w v known more link later old = record {
    own = old.own;
    request = ap (λ (f : ℕ → ℕ). f d) later.request ∙ old.request;
    within = longer known more old.within;
    knew = λ n. ap (λ (f : ℕ → ℕ → Bool). f d n) later.knew ∙ (old.knew n
        ∙ ap (λ xs. is_answered xs n) (sym (take-append-le k known more old.within)));
    others = λ n own some other. ap (λ (f : ℕ → ℕ → Bool). f d n) later.knew ∙ ⊎_elim
        (λ none. absurd (let by = later.stamped n none some in
        other (sym by.request ∙ (ap w.request (sym (link by.descriptor (ap w.published (sym own) ∙ by.own))) ∙ old.request))))
        (λ was. old.others n own was other)
        (zero_or_some (w.stamp n));
    stamped = λ some. ⊎_elim
        (λ none. let by = later.stamped q none some in
        subst (λ e. 2 ≤ v.stage e) (sym (link by.descriptor (ap w.published (sym old.own) ∙ by.own))) by.far)
        (λ was. up_to _ _ _ (later.stage d) (old.stamped was))
        (zero_or_some (w.stamp q));
  }
    where
      longer : (xs ys : List Known) → k ≤ length xs → k ≤ length (xs ++ ys)
      longer xs ys le = let e = length-append xs ys in omega arith

-- a publication: the worker has no section that it hasn't run to its end, and doesn't know the request
pub own_published : (c : Requests) (w : HistoryState) → IsSound c w → (r d q answer : ℕ) (known : List Known)
    → ((n : ℕ) → w.known r n ≡ is_answered known n)
    → w.published r ≡ 0 → c.worker q ≡ r → w.known r q ≡ false
    → IsOwn c (history.after c w (history.Publish r d q answer)) known r d q (length known)
own_published c w sound r d q answer known is idle own unknown = record {
  own = own;
  request = upd_same w.request d d q refl;
  within = omega arith;
  knew = λ n. ap (λ (f : ℕ → Bool). f n) (upd_same w.knew d d (w.known r) refl) ∙ (is n ∙ ap (λ xs. is_answered xs n) (sym (take-length known)));
  others = λ n mine some other. ap (λ (f : ℕ → Bool). f n) (upd_same w.knew d d (w.known r) refl) ∙ told n mine some;
  stamped = λ some. absurd (let clash : true ≡ false = sym (told q own some) ∙ unknown in cc);
}
  where
    -- its own stamped requests are known
    told : (n : ℕ) → c.worker n ≡ r → w.stamp n ≢ 0 → w.known r n ≡ true
    told n mine some = by (w.known r n) refl
      where
        by : (b : Bool) → w.known r n ≡ b → b ≡ true
        by true e = refl
        by false e = absurd (
            let h = sound.stamps.told n some (ap (λ i. w.known i n) mine ∙ e) in
            h.0 (sym h.1 ∙ (ap w.published mine ∙ idle)))

-- and another worker's section, in another descriptor
pub own_elsewhere : (c : Requests) (w : HistoryState) (r d q answer : ℕ) (known : List Known) (i e p k : ℕ) → e ≢ d → IsOwn c w known i e p k
    → IsOwn c (history.after c w (history.Publish r d q answer)) known i e p k
own_elsewhere c w r d q answer known i e p k ne old = record {
  own = old.own;
  request = upd_other w.request d e q ne ∙ old.request;
  within = old.within;
  knew = λ n. ap (λ (f : ℕ → Bool). f n) (upd_other w.knew d e (w.known r) ne) ∙ old.knew n;
  others = λ n own some other. ap (λ (f : ℕ → Bool). f n) (upd_other w.knew d e (w.known r) ne) ∙ old.others n own some other;
  stamped = λ some. subst (λ n. 2 ≤ n) (sym (upd_other w.stage d e 0 ne)) (old.stamped some);
}
