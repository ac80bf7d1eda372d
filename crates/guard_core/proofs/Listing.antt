-- The lists of each runner stay tied to where descriptors and blocks are.
use Rattle.std.proofs.Common.{◌≡◌, ◌≢◌, ℕ, ◌+◌, Bool, false, cond, List, [], ◌∷◌, not, refl, sym, subst, arith}
use Rattle.std.specs.Prelude.{◌==◌}
use Rattle.std.specs.List.{filter}
use mathlib.Core.Logic.{dite}
use native.Mathlib.Decide.{ℕ_discrete}
use Rattle.std.proofs.lemmas.Bool.Decides.{nat_tests}
use Rattle.guard_core.specs.State.{Counts, Location, Free, Live, Limbo, GuardState}
use Rattle.guard_core.specs.Update.{upd, times}
use Rattle.guard_core.specs.Moves.{freed, retired, is_unnamed}
use Rattle.guard_core.specs.Events.{Event, Enter, Exit, StoreGuard, ClearGuard, Validate, Publish, Begin, Link, Finish}
use Rattle.guard_core.specs.Events.{LoadGuard, LoadLast, Enabled, with_next, after}
use Rattle.guard_core.specs.Sound.{is_under, IsSound}
use Rattle.guard_core.specs.Sweeps.{is_free_of, is_limbo_of}
use Rattle.guard_core.specs.Schedules.{AllEnabled, after_all}
use Rattle.guard_core.specs.Lists.{Entry, Lists, IsListed, Starts, freed_lists, is_live_of, listed, listed_all}
use Rattle.guard_core.specs.Lists.{times_under, blocks_under, all_under, once}
use Rattle.guard_core.proofs.Counting.{times-append}
use Rattle.guard_core.proofs.Times.{times-filter, times-without, times_under-append, times_under-not, times_under-all}
use Rattle.guard_core.proofs.Times.{times-under_none, times-under_one, times-below}
use Rattle.guard_core.proofs.Keeping.{keeps}

-- a block in the free list of this runner, behind what it freed of its limbo
freed_free : (r b : ℕ) (test : ℕ → Bool) (x : Location) (limbo : List Entry) → ((d : ℕ)
    → times_under b d limbo ≡ once (is_under r d x))
    → once (is_free_of r x) + times b (blocks_under test limbo) ≡ once (is_free_of r (freed r test x))
freed_free r b test (Free q) limbo at = let none = times-under_none b test limbo at in grind arith
freed_free r b test (Live q) limbo at = let none = times-under_none b test limbo at in grind arith
freed_free r b test (Limbo q e) limbo at =
    dite (ℕ_discrete q r)
    (λ own. let one = times-under_one b e test limbo (λ d. let h = at d in grind arith) in grind arith)
    (λ other. let none = times-under_none b test limbo (λ d. let h = at d in grind arith) in grind arith)

freed_under : (r d : ℕ) (test : ℕ → Bool) (x : Location)
    → cond (test d) 0 (once (is_under r d x)) ≡ once (is_under r d (freed r test x))
freed_under r d test (Free q) = grind arith
freed_under r d test (Live q) = grind arith
freed_under r d test (Limbo q e) = grind (arith, nat_tests)

freed_live : (r q : ℕ) (test : ℕ → Bool) (x : Location) → is_live_of q (freed r test x) ≡ is_live_of q x
freed_live r q test (Free p) = refl
freed_live r q test (Live p) = refl
freed_live r q test (Limbo p e) = grind arith

-- the lists of others stay
free_of_others : (r q : ℕ) (test : ℕ → Bool) (x : Location) → q ≢ r → is_free_of q (freed r test x) ≡ is_free_of q x
free_of_others r q test (Free p) other = refl
free_of_others r q test (Live p) other = refl
free_of_others r q test (Limbo p e) other = grind (arith, nat_tests)

under_of_others : (r q d : ℕ) (test : ℕ → Bool) (x : Location) → q ≢ r → is_under q d (freed r test x) ≡ is_under q d x
under_of_others r q d test (Free p) other = refl
under_of_others r q d test (Live p) other = refl
under_of_others r q d test (Limbo p e) other = grind (arith, nat_tests)

limbo_of_others : (r q : ℕ) (test : ℕ → Bool) (x : Location) → q ≢ r → is_limbo_of q (freed r test x) ≡ is_limbo_of q x
limbo_of_others r q test (Free p) other = refl
limbo_of_others r q test (Live p) other = refl
limbo_of_others r q test (Limbo p e) other = grind (arith, nat_tests)

-- a descriptor after a sweep
freed_descriptor : (r d : ℕ) (test : ℕ → Bool) (x : Location) → ((e : ℕ) → x ≡ Limbo r e → e ≡ d)
    → once (is_free_of r x) + cond (test d) (once (is_limbo_of r x)) 0 ≡ once (is_free_of r (freed r test x))
freed_descriptor r d test (Free q) own = grind arith
freed_descriptor r d test (Live q) own = grind arith
freed_descriptor r d test (Limbo q e) own = let same = own e in grind (arith, nat_tests)

freed_limbo : (r d : ℕ) (test : ℕ → Bool) (x : Location) → ((e : ℕ) → x ≡ Limbo r e → e ≡ d)
    → cond (not (test d)) (once (is_limbo_of r x)) 0 ≡ once (is_limbo_of r (freed r test x))
freed_limbo r d test (Free q) own = grind arith
freed_limbo r d test (Live q) own = grind arith
freed_limbo r d test (Limbo q e) own = let same = own e in grind (arith, nat_tests)

-- a block behind a run
retired_under : (r d e : ℕ) (x : Location)
    → once (is_under r e x) + cond (d == e) (once (is_live_of r x)) 0 ≡ once (is_under r e (retired r d x))
retired_under r d e (Free q) = grind arith
retired_under r d e (Live q) = grind (arith, nat_tests)
retired_under r d e (Limbo q f) = grind arith

retired_live : (r d : ℕ) (x : Location) → is_live_of r (retired r d x) ≡ false
retired_live r d (Free q) = refl
retired_live r d (Live q) = grind (arith, nat_tests)
retired_live r d (Limbo q f) = refl

retired_free : (r q d : ℕ) (x : Location) → is_free_of q (retired r d x) ≡ is_free_of q x
retired_free r q d (Free p) = refl
retired_free r q d (Live p) = grind arith
retired_free r q d (Limbo p f) = refl

retired_live_of_others : (r q d : ℕ) (x : Location) → q ≢ r → is_live_of q (retired r d x) ≡ is_live_of q x
retired_live_of_others r q d (Free p) other = refl
retired_live_of_others r q d (Live p) other = grind (arith, nat_tests)
retired_live_of_others r q d (Limbo p f) other = refl

retired_under_of_others : (r q d e : ℕ) (x : Location) → q ≢ r → is_under q e (retired r d x) ≡ is_under q e x
retired_under_of_others r q d e (Free p) other = refl
retired_under_of_others r q d e (Live p) other = grind (arith, nat_tests)
retired_under_of_others r q d e (Limbo p f) other = refl

retired_limbo : (r d : ℕ) (x : Location)
    → once (is_limbo_of r x) + once (is_live_of r x) ≡ once (is_limbo_of r (retired r d x))
retired_limbo r d (Free q) = refl
retired_limbo r d (Live q) = grind arith
retired_limbo r d (Limbo q f) = grind arith

retired_limbo_of_others : (r q d : ℕ) (x : Location) → q ≢ r → is_limbo_of q (retired r d x) ≡ is_limbo_of q x
retired_limbo_of_others r q d (Free p) other = refl
retired_limbo_of_others r q d (Live p) other = grind (arith, nat_tests)
retired_limbo_of_others r q d (Limbo p f) other = refl

-- the lists after a run's end, after a runner became sure, and after a sweep, as far as they hang on one runner
freed_blocks : (c : Counts) (w : GuardState) (l : ℕ → Lists) (r : ℕ) (test : ℕ → Bool) → IsListed c w l
    → IsListed c (record w { block = λ b. freed r test (w.block b) }) (upd l r (freed_lists test (l r)))
freed_blocks c w l r test old =
    let l' = upd l r (freed_lists test (l r)) in
    record {
      free_descriptors = λ r1 d lt. let before = old.free_descriptors r1 d lt in grind arith;
      limbo_descriptors = λ r1 d lt. let before = old.limbo_descriptors r1 d lt in grind arith;
      free_blocks = λ r1 b lt.
          dite (ℕ_discrete r1 r)
          (λ own. let e1 = freed_free r b test (w.block b) ((l r).limbo_blocks) (λ d. old.limbo_blocks r b d lt) in
          let e2 = times-append b ((l r).free_blocks) (blocks_under test ((l r).limbo_blocks)) in
          let e3 = old.free_blocks r b lt in let P : ℕ → Type 0 =
          λ q. times b (l' q).free_blocks ≡ once (is_free_of q (freed r test (w.block b))) in
          let here : P r = grind arith in subst P (sym own) here)
          (λ other. let e1 = free_of_others r r1 test (w.block b) other in let e3 = old.free_blocks r1 b lt in
          grind arith);
      won_blocks = λ r1 b lt. let e1 = freed_live r r1 test (w.block b) in let before = old.won_blocks r1 b lt in
          grind arith;
      limbo_blocks = λ r1 b d lt.
          dite (ℕ_discrete r1 r)
          (λ own. let e1 = freed_under r d test (w.block b) in
          let e2 = times_under-not b d test ((l r).limbo_blocks) in let e3 = old.limbo_blocks r b d lt in
          let P : ℕ → Type 0 =
          λ q. times_under b d (l' q).limbo_blocks ≡ once (is_under q d (freed r test (w.block b))) in
          let here : P r = grind arith in subst P (sym own) here)
          (λ other. let e1 = under_of_others r r1 d test (w.block b) other in let e3 = old.limbo_blocks r1 b d lt in
          grind arith);
    }

-- a publication takes the descriptor out of the free list, besides
publishes : (c : Counts) (w : GuardState) (l : ℕ → Lists) (r d : ℕ) → w.descriptor d ≡ Free r → IsListed c w l
    → IsListed c (after w (Publish r d)) (listed w l (Publish r d))
publishes c w l r d at old =
    let step = freed_blocks c w l r (λ e. e == d) old in
    record {
      free_descriptors = λ r1 d1 lt. let before = old.free_descriptors r1 d1 lt in
          let gone = times-without d1 d ((l r1).free_descriptors) in grind arith;
      limbo_descriptors = λ r1 d1 lt. let before = old.limbo_descriptors r1 d1 lt in grind arith;
      free_blocks = λ r1 b1 lt. let before = step.free_blocks r1 b1 lt in grind arith;
      won_blocks = λ r1 b1 lt. let before = step.won_blocks r1 b1 lt in grind arith;
      limbo_blocks = λ r1 b1 e1 lt. let before = step.limbo_blocks r1 b1 e1 lt in grind arith;
    }

links : (c : Counts) (w : GuardState) (l : ℕ → Lists) (r d b : ℕ) → w.block b ≡ Free r → IsListed c w l
    → IsListed c (after w (Link r d b)) (listed w l (Link r d b))
links c w l r d b at old =
    record {
      free_descriptors = λ r1 d1 lt. let before = old.free_descriptors r1 d1 lt in grind arith;
      limbo_descriptors = λ r1 d1 lt. let before = old.limbo_descriptors r1 d1 lt in grind arith;
      free_blocks = λ r1 b1 lt. let before = old.free_blocks r1 b1 lt in
          let gone = times-without b1 b ((l r1).free_blocks) in grind arith;
      won_blocks = λ r1 b1 lt. let before = old.won_blocks r1 b1 lt in
          let more = times-append b1 ((l r1).won_blocks) (b ∷ []) in grind arith;
      limbo_blocks = λ r1 b1 e1 lt. let before = old.limbo_blocks r1 b1 e1 lt in grind arith;
    }

finishes : (c : Counts) (w : GuardState) (l : ℕ → Lists) (r d : ℕ) → IsListed c w l
    → IsListed c (after w (Finish r d)) (listed w l (Finish r d))
finishes c w l r d old =
    let l' = listed w l (Finish r d) in
    record {
      free_descriptors = λ r1 d1 lt. let before = old.free_descriptors r1 d1 lt in
          let e1 = retired_free r r1 d (w.descriptor d) in grind arith;
      limbo_descriptors = λ r1 d1 lt.
          dite (ℕ_discrete r1 r)
          (λ own. let e1 = retired_limbo r d (w.descriptor d) in
          let e2 = times-append d1 ((l r).limbo_descriptors) (d ∷ []) in
          let e3 = old.limbo_descriptors r d1 lt in
          let P : ℕ → Type 0 =
          λ q. times d1 (l' q).limbo_descriptors ≡ once (is_limbo_of q ((after w (Finish r d)).descriptor d1)) in
          let here : P r = grind arith in subst P (sym own) here)
          (λ other. let e1 = retired_limbo_of_others r r1 d (w.descriptor d) other in
          let e3 = old.limbo_descriptors r1 d1 lt in grind arith);
      free_blocks = λ r1 b1 lt. let before = old.free_blocks r1 b1 lt in let e1 = retired_free r r1 d (w.block b1) in
          grind arith;
      won_blocks = λ r1 b1 lt.
          dite (ℕ_discrete r1 r)
          (λ own. let e1 = retired_live r d (w.block b1) in
          let P : ℕ → Type 0 =
          λ q. times b1 (l' q).won_blocks ≡ once (is_live_of q (retired r d (w.block b1))) in
          let here : P r = grind arith in subst P (sym own) here)
          (λ other. let e1 = retired_live_of_others r r1 d (w.block b1) other in let e3 = old.won_blocks r1 b1 lt in
          grind arith);
      limbo_blocks = λ r1 b1 e lt.
          dite (ℕ_discrete r1 r)
          (λ own. let e1 = retired_under r d e (w.block b1) in
          let e2 = times_under-append b1 e ((l r).limbo_blocks) (all_under d ((l r).won_blocks)) in
          let e3 = times_under-all b1 d e ((l r).won_blocks) in let e4 = old.limbo_blocks r b1 e lt in
          let e5 = old.won_blocks r b1 lt in let P : ℕ → Type 0 =
          λ q. times_under b1 e (l' q).limbo_blocks ≡ once (is_under q e (retired r d (w.block b1))) in
          let here : P r = grind arith in subst P (sym own) here)
          (λ other. let e1 = retired_under_of_others r r1 d e (w.block b1) other in
          let e3 = old.limbo_blocks r1 b1 e lt in grind arith);
    }

sweeps : (c : Counts) (w : GuardState) (l : ℕ → Lists) (r : ℕ) → ((d e : ℕ) → w.descriptor d ≡ Limbo r e → e ≡ d)
    → IsListed c w l
    → IsListed c (after w (LoadLast r)) (listed w l (LoadLast r))
sweeps c w l r own old =
    let words = with_next w r in let test = is_unnamed words in
    let step = freed_blocks c w l r test old in
    let l' = listed w l (LoadLast r) in
    record {
      free_descriptors = λ r1 d1 lt.
          dite (ℕ_discrete r1 r)
          (λ same. let e1 = freed_descriptor r d1 test (w.descriptor d1) (λ e. own d1 e) in
          let e2 = times-append d1 ((l r).free_descriptors) (filter test ((l r).limbo_descriptors)) in
          let e3 = times-filter d1 test ((l r).limbo_descriptors) in let e4 = old.free_descriptors r d1 lt in
          let e5 = old.limbo_descriptors r d1 lt in
          let P : ℕ → Type 0 =
          λ q. times d1 (l' q).free_descriptors ≡ once (is_free_of q (freed r test (w.descriptor d1))) in
          let here : P r = grind arith in subst P (sym same) here)
          (λ other. let e1 = free_of_others r r1 test (w.descriptor d1) other in
          let e3 = old.free_descriptors r1 d1 lt in grind arith);
      limbo_descriptors = λ r1 d1 lt.
          dite (ℕ_discrete r1 r)
          (λ same. let e1 = freed_limbo r d1 test (w.descriptor d1) (λ e. own d1 e) in
          let e3 = times-filter d1 (λ d. not (test d)) ((l r).limbo_descriptors) in
          let e5 = old.limbo_descriptors r d1 lt in
          let P : ℕ → Type 0 =
          λ q. times d1 (l' q).limbo_descriptors ≡ once (is_limbo_of q (freed r test (w.descriptor d1))) in
          let here : P r = grind arith in subst P (sym same) here)
          (λ other. let e1 = limbo_of_others r r1 test (w.descriptor d1) other in
          let e3 = old.limbo_descriptors r1 d1 lt in grind arith);
      free_blocks = λ r1 b1 lt. let before = step.free_blocks r1 b1 lt in grind arith;
      won_blocks = λ r1 b1 lt. let before = step.won_blocks r1 b1 lt in grind arith;
      limbo_blocks = λ r1 b1 e1 lt. let before = step.limbo_blocks r1 b1 e1 lt in grind arith;
    }

-- an event that moves nothing
stands : (c : Counts) (w w' : GuardState) (l : ℕ → Lists) → ((d : ℕ) → w'.descriptor d ≡ w.descriptor d) → ((b : ℕ)
    → w'.block b ≡ w.block b)
    → IsListed c w l → IsListed c w' l
stands c w w' l descriptors blocks old =
    record {
      free_descriptors = λ r1 d1 lt. let before = old.free_descriptors r1 d1 lt in let e1 = descriptors d1 in
          grind arith;
      limbo_descriptors = λ r1 d1 lt. let before = old.limbo_descriptors r1 d1 lt in let e1 = descriptors d1 in
          grind arith;
      free_blocks = λ r1 b1 lt. let before = old.free_blocks r1 b1 lt in let e1 = blocks b1 in grind arith;
      won_blocks = λ r1 b1 lt. let before = old.won_blocks r1 b1 lt in let e1 = blocks b1 in grind arith;
      limbo_blocks = λ r1 b1 e1 lt. let before = old.limbo_blocks r1 b1 e1 lt in let e2 = blocks b1 in grind arith;
    }

lists_follow : (c : Counts) (w : GuardState) (l : ℕ → Lists) (e : Event) → Enabled c w e → IsSound c w → IsListed c w l
    → IsListed c (after w e) (listed w l e)
lists_follow c w l (Enter r) ok sound old = stands c w (after w (Enter r)) l (λ i. refl) (λ i. refl) old
lists_follow c w l (Exit r) ok sound old = stands c w (after w (Exit r)) l (λ i. refl) (λ i. refl) old
lists_follow c w l (StoreGuard r d) ok sound old = stands c w (after w (StoreGuard r d)) l (λ i. refl) (λ i. refl) old
lists_follow c w l (ClearGuard r) ok sound old = stands c w (after w (ClearGuard r)) l (λ i. refl) (λ i. refl) old
lists_follow c w l (Begin r d) ok sound old = stands c w (after w (Begin r d)) l (λ i. refl) (λ i. refl) old
lists_follow c w l (LoadGuard r) ok sound old = stands c w (after w (LoadGuard r)) l (λ i. refl) (λ i. refl) old
lists_follow c w l (Validate r d) ok sound old =
    stands c (record w {
      block = λ b. freed r
          (λ e. e == d) (w.block b);
    }) (after w (Validate r d)) (listed w l (Validate r d)) (λ i. refl) (λ i. refl)
    (freed_blocks c w l r (λ e. e == d) old)
lists_follow c w l (Publish r d) ok sound old = publishes c w l r d ok.1 old
lists_follow c w l (Link r d b) ok sound old = links c w l r d b ok.1 old
lists_follow c w l (Finish r d) ok sound old = finishes c w l r d old
lists_follow c w l (LoadLast r) ok sound old = sweeps c w l r (λ d e. sound.own r d e) old

pub lists_follow_all : (c : Counts) (w : GuardState) (l : ℕ → Lists) (es : List Event) → AllEnabled c w es
    → IsSound c w → IsListed c w l
    → IsListed c (after_all w es) (listed_all w l es)
lists_follow_all c w l [] ok sound old = old
lists_follow_all c w l (e ∷ es) ok sound old =
    lists_follow_all c (after w e) (listed w l e) es ok.1 (keeps c w e ok.0 sound) (lists_follow c w l e ok.0 sound old)

pub starts : (c : Counts) → Starts c
starts c =
    record {
      first = record { descriptors = λ d. refl; blocks = λ b. refl };
      listed =
          record {
            free_descriptors = λ r d lt. let one = times-below d c.descriptors lt in grind arith;
            limbo_descriptors = λ r d lt. grind arith;
            free_blocks = λ r b lt. let one = times-below b c.blocks lt in grind arith;
            won_blocks = λ r b lt. grind arith;
            limbo_blocks = λ r b d lt. grind arith;
          };
    }
