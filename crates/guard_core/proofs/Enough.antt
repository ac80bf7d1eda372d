-- How much a sweep leaves free.
use Rattle.std.proofs.Common.{◌≡◌, ℕ, zero, suc, ◌+◌, ◌*◌, ◌<◌, ◌≤◌, Bool, true, false, List, [], ◌∷◌, length, inl, inr}
use Rattle.std.proofs.Common.{Option}
use Rattle.std.proofs.Common.{Some, None, refl, ap, ◌∙◌, arith, length-append}
use Rattle.std.specs.Prelude.{◌⊎◌, ◌==◌, ◌&&◌}
use Rattle.std.proofs.lemmas.Bool.Decides.{nat_tests}
use Rattle.std.proofs.Math.Nat.{mul-suc}
use Rattle.small_lemmas.proofs.Lists.{none_if_never as not_running}
use Rattle.guard_core.specs.State.{Counts, Location, Free, Live, Limbo, GuardState, word_of, most_linked}
use Rattle.guard_core.specs.Update.{has, count}
use Rattle.guard_core.specs.Moves.{swept}
use Rattle.guard_core.specs.Events.{Event, LoadLast, Enabled, with_next, after}
use Rattle.guard_core.specs.Sound.{is_under, named, IsSound}
use Rattle.guard_core.specs.Schedules.{first_state, AllEnabled, after_all}
use Rattle.guard_core.specs.Owners.{owner_of, StaysWithOwner}
use Rattle.guard_core.specs.Sweeps.{is_limbo_of, is_free_of, is_own, LeavesEnough, AreMore, IsNeverShort}
use Rattle.guard_core.proofs.Counting.{named-append, count_more, count_listed, count_same, count_either}
use Rattle.guard_core.proofs.Owning.{stays_with_owner}
use Rattle.guard_core.proofs.Keeping.{first, keeps, keeps_all}

-- it lies in this runner's limbo under a descriptor that one of these words names
abbrev under_some : ℕ → List ℕ → Location → Bool
under_some r words (Limbo q d) = q == r && has words (suc d)
under_some r words (Free q) = false
under_some r words (Live q) = false

under_none : (r : ℕ) (x : Location) → under_some r [] x ≡ true → ⊥
under_none r (Free q) at = grind arith
under_none r (Live q) at = grind arith
under_none r (Limbo q d) at = grind arith

under_clear : (r : ℕ) (words : List ℕ) (x : Location) → under_some r (0 ∷ words) x ≡ under_some r words x
under_clear r words (Free q) = refl
under_clear r words (Live q) = refl
under_clear r words (Limbo q d) = grind (arith, nat_tests)

under_more : (r d : ℕ) (words : List ℕ) (x : Location) → under_some r (suc d ∷ words) x ≡ true
    → (is_under r d x ≡ true) ⊎ (under_some r words x ≡ true)
under_more r d words (Free q) at = inl at
under_more r d words (Live q) at = inl at
under_more r d words (Limbo q e) at = grind (arith, nat_tests)

none_pass : (f : ℕ → Bool) (n : ℕ) → ((i : ℕ) → f i ≡ true → ⊥) → count f n ≡ 0
none_pass f zero none = refl
none_pass f (suc n) none = let rest = none_pass f n none in let here = none n in grind arith

-- so many for each word that names something
per_word : (r m n : ℕ) (words : List ℕ) (place : ℕ → Location) → ((d : ℕ) → count (λ i. is_under r d (place i)) n ≤ m)
    → count (λ i. under_some r words (place i)) n ≤ m * named words
per_word r m n [] place most = let none = none_pass (λ i. under_some r [] (place i)) n
    (λ i at. under_none r (place i) at) in grind arith
per_word r m n (zero ∷ words) place most =
    let rest = per_word r m n words place most in
    let same = count_same (λ i. under_some r (zero ∷ words) (place i)) (λ i. under_some r words (place i)) n
    (λ i. under_clear r words (place i)) in
    grind arith
per_word r m n (suc d ∷ words) place most =
    let rest = per_word r m n words place most in let here = most d in
    let split = count_either (λ i. under_some r (suc d ∷ words) (place i)) (λ i. is_under r d (place i))
    (λ i. under_some r words (place i)) n
    (λ i at. under_more r d words (place i) at) in
    let one_more : named (suc d ∷ words) ≡ suc (named words) = grind arith in
    let times = mul-suc m (named words) in
    let product : m * named (suc d ∷ words) ≡ m * named words + m = rw one_more times in
    omega arith

-- what stays in the sweeper's limbo lies under a descriptor that a word names
stays_named : (r : ℕ) (words : List ℕ) (x : Location) → is_limbo_of r (swept r words x) ≡ true
    → under_some r words x ≡ true
stays_named r words (Free q) at = at
stays_named r words (Live q) at = at
stays_named r words (Limbo q d) at = grind (arith, nat_tests)

stay_few : (r m n : ℕ) (words : List ℕ) (place : ℕ → Location) → ((d : ℕ) → count (λ i. is_under r d (place i)) n ≤ m)
    → count (λ i. is_limbo_of r (swept r words (place i))) n ≤ m * named words
stay_few r m n words place most =
    let most_of = per_word r m n words place most in
    let more = count_more (λ i. is_limbo_of r (swept r words (place i))) (λ i. under_some r words (place i)) n
    (λ i at. stays_named r words (place i) at) in
    omega arith

-- an own one that isn't given out is free or in limbo
own_split : (r : ℕ) (words : List ℕ) (x : Location) → (x ≡ Live r → ⊥) → is_own r x ≡ true
    → (is_free_of r (swept r words x) ≡ true) ⊎ (is_limbo_of r (swept r words x) ≡ true)
own_split r words (Free q) out own = inl own
own_split r words (Live q) out own = absurd (out (grind (arith, nat_tests)))
own_split r words (Limbo q d) out own = grind (arith, nat_tests)

rest_free : (r m n : ℕ) (words : List ℕ) (place : ℕ → Location) → ((i : ℕ) → place i ≡ Live r → ⊥)
    → count (λ i. is_limbo_of r (swept r words (place i))) n ≤ m
    → count (λ i. is_own r (place i)) n ≤ count (λ i. is_free_of r (swept r words (place i))) n + m
rest_free r m n words place out few =
    let split = count_either (λ i. is_own r (place i)) (λ i. is_free_of r (swept r words (place i)))
    (λ i. is_limbo_of r (swept r words (place i))) n
    (λ i own. own_split r words (place i) (out i) own) in
    omega arith

-- an own descriptor lies in limbo under itself alone
under_itself : (r d i : ℕ) (x : Location) → ((e : ℕ) → x ≡ Limbo r e → e ≡ i) → is_under r d x ≡ true
    → has (d ∷ []) i ≡ true
under_itself r d i (Free q) own at = grind arith
under_itself r d i (Live q) own at = grind arith
under_itself r d i (Limbo q e) own at = let same = own e in grind (arith, nat_tests)

-- at most all but one of the words that a sweep reads name something
words_few : (c : Counts) (w : GuardState) (r : ℕ) → IsSound c w → r ≤ c.runners → Enabled c w (LoadLast r)
    → named (with_next w r) ≤ c.runners
words_few c w r sound le ok =
    let l = w.looked r in let x = word_of (w.guard (length l)) in
    let more = named-append l (x ∷ []) in let longer = length-append l (x ∷ []) in
    let before = sound.others r in let idle = sound.idle r ok.0 in grind (arith, nat_tests)

words_fewer : (c : Counts) (w : GuardState) (r : ℕ) → IsSound c w → r < c.runners → w.guard c.runners ≡ None
    → Enabled c w (LoadLast r) → named (with_next w r) < c.runners
words_fewer c w r sound lt empty ok =
    let l = w.looked r in let x = word_of (w.guard (length l)) in
    let last : x ≡ 0 = grind arith in
    let more = named-append l (x ∷ []) in
    let before = sound.others r in grind (arith, nat_tests)

-- who isn't entered is in no run
idle_runs : (c : Counts) (w : GuardState) (r : ℕ) → IsSound c w → w.entered r ≡ false → w.run r ≡ None
idle_runs c w r sound out = not_running (w.run r) (λ d run. let sure = sound.running r d run in
    let idle = sound.idle r out in grind arith)

pub leaves_enough : (c : Counts) (w : GuardState) (r : ℕ) → IsSound c w → r ≤ c.runners → Enabled c w (LoadLast r)
    → LeavesEnough c w r
leaves_enough c w r sound le ok =
    let words = with_next w r in let idle = sound.idle r ok.0 in
    let descriptors : count (λ d. is_limbo_of r (swept r words (w.descriptor d))) c.descriptors ≤ named words =
    let few = stay_few r 1 c.descriptors words w.descriptor
    (λ d. count_listed (λ i. is_under r d (w.descriptor i)) (d ∷ []) c.descriptors
    (λ i at. under_itself r d i (w.descriptor i) (λ e. sound.own r i e) at)) in
    omega arith in
    let blocks = stay_few r most_linked c.blocks words w.block (λ d. sound.eight r d) in
    record {
      words = words_few c w r sound le ok;
      words_of_workers = λ lt empty. words_fewer c w r sound lt empty ok;
      few_descriptors = descriptors;
      few_blocks = blocks;
      free_descriptors = rest_free r (named words) c.descriptors words w.descriptor
          (λ d at. let sure = sound.owner r d at in grind arith) descriptors;
      free_blocks = rest_free r (most_linked * named words) c.blocks words w.block
          (λ b at. let runs = sound.winner b r at in runs (idle_runs c w r sound ok.0)) blocks;
    }

-- each runner has as many descriptors and blocks as at first
owned_same : (r n : ℕ) (place place' : ℕ → Location) → ((i : ℕ) → owner_of (place' i) ≡ owner_of (place i))
    → count (λ i. is_own r (place' i)) n ≡ count (λ i. is_own r (place i)) n
owned_same r n place place' same = count_same (λ i. is_own r (place' i)) (λ i. is_own r (place i)) n (λ i. ap
    (λ (q : ℕ). q == r) (same i))

own_all : (c : Counts) (w : GuardState) (es : List Event) → AllEnabled c w es → IsSound c w
    → StaysWithOwner w (after_all w es)
own_all c w [] ok sound = record { descriptor = λ d. refl; block = λ b. refl }
own_all c w (e ∷ es) ok sound =
    let step = stays_with_owner c w e ok.0 sound in let rest = own_all c (after w e) es ok.1 (keeps c w e ok.0 sound) in
    record {
      descriptor = λ d. rest.descriptor d ∙ step.descriptor d;
      block = λ b. rest.block b ∙ step.block b;
    }

-- fewer guard words name something than a runner has descriptors
fewer : (c : Counts) (w : GuardState) (r sections : ℕ) → LeavesEnough c w r → AreMore c w r sections
    → named (with_next w r) < sections
fewer c w r sections enough (inl more) = let words = enough.words in omega arith
fewer c w r sections enough (inr h) = let words = enough.words_of_workers h.0 h.1 in let most = h.2 in omega arith

pub never_short : (c : Counts) → IsNeverShort c
never_short c descriptor block es r sections start le owns all ok more =
    let begin = first_state descriptor block in
    let sound = keeps_all c begin es all (first c descriptor block start) in
    let last = after_all begin es in
    let own = own_all c begin es all (first c descriptor block start) in
    let enough = leaves_enough c last r sound le ok in
    let e1 = owned_same r c.descriptors descriptor last.descriptor own.descriptor in
    let e2 = owned_same r c.blocks block last.block own.block in
    let f1 = fewer c last r sections enough more in
    let f2 = enough.free_descriptors in let f3 = enough.free_blocks in
    let o1 = owns.descriptors in let o2 = owns.blocks in record { descriptor = omega arith; blocks = omega arith }
