-- What holds of every structure without nodes: the moves keep what it keeps, and it gives what the core relies on.
use Rattle.std.proofs.Common.{◌≡◌, ℕ, ◌*◌, ◌≤◌, true, false, cond, refl, sym, ap, ◌∙◌, inl, List, [], ◌∷◌, length, arith}
use Rattle.std.specs.Prelude.{nat_lt}
use Rattle.std.specs.FinMap.{len}
use Rattle.std.proofs.lemmas.Bool.Decides.{nat_tests}
use Rattle.std.proofs.lemmas.Bool.{true≢false}
use mathlib.Core.Logic.{dite}
use native.Mathlib.Decide.{ℕ_discrete}
use Rattle.structure_laws.specs.map_history.specs.declared.op.Op.{Op}
use Rattle.structure_laws.specs.map_history.specs.Replay.{Pairs}
use Rattle.structure_laws.specs.body_terms.specs.Update.{upd}
use Rattle.structure_laws.specs.body_terms.specs.declared.value.Init.{Init}
use Rattle.structure_laws.specs.body_terms.specs.declared.step.Step.TheVariants.{Take, Make, Retire}
use Rattle.structure_laws.specs.body_terms.specs.declared.thunk.Thunk.{Thunk}
use Rattle.structure_laws.specs.table_words.specs.declared.layout.Layout.{Layout}
use Rattle.structure_laws.specs.Scene.{Readings, Free, Live, Scene}
use Rattle.structure_laws.specs.Meaning.{Meaning}
use Rattle.structure_laws.specs.Shape.{HasStep, Shaped}
use Rattle.structure_laws.specs.Keeps.{Keeps}
use Rattle.structure_laws.specs.Gives.{GivesLaw}
use Rattle.structure_laws.specs.Laws.{IsFirst}
use Rattle.structure_laws.specs.Planner.{Adds, AreInUse}
use Rattle.structure_laws.proofs.Changes.{upd_same, upd_other}
use Rattle.structure_laws.proofs.Costs.{brief_cost}
use Rattle.shared_laws.specs.Nodeless.{NoneLive, IsNodeless, HoldsItsLock, IsPlainBody}

module _ (m : Meaning) (n : IsNodeless m) where
  no_take : (thunk : Thunk) (j p w : ℕ) → HasStep m thunk j (Take p w) → ⊥
  no_take thunk j p w h = true≢false (sym (n.plain thunk j (Take p w) h))

  no_make : (thunk : Thunk) (j r : ℕ) (init : Init) → HasStep m thunk j (Make init r) → ⊥
  no_make thunk j r init h = true≢false (sym (n.plain thunk j (Make init r) h))

  no_retire : (thunk : Thunk) (j t : ℕ) → HasStep m thunk j (Retire t) → ⊥
  no_retire thunk j t h = true≢false (sym (n.plain thunk j (Retire t) h))

  no_link : (s : Scene) (p : ℕ) → m.is_link s.cells p ≡ true → ⊥
  no_link s p h = true≢false (sym h ∙ n.links s.cells p)

  -- in the first scene no slot is live
  pub nodeless_begins : (layout : Layout) (s : Scene) → IsFirst m s → m.kept layout s
  nodeless_begins layout s first = n.keeps layout s (λ t live. absurd (free_live (sym (first.status t ∙ none t) ∙ live)))
    where
      free_live : Free ≡ Live → ⊥
      free_live e = cc

      not_below : (t : ℕ) → nat_lt t 0 ≡ false
      not_below t = grind (arith, nat_tests)

      none : (t : ℕ) → cond (nat_lt t m.fixed_slots) Live Free ≡ Free
      none t = ap (λ k. cond (nat_lt t k) Live Free) n.fixed ∙ ap (λ b. cond b Live Free) (not_below t)

  -- a slot that leaves limbo isn't live
  collected : (s : Scene) (t : ℕ) → NoneLive s → (u : ℕ) → upd s.status t Free u ≡ Live → ⊥
  collected s t none u live = dite (ℕ_discrete u t)
      (λ e. free_live (sym (upd_same s.status t u Free e) ∙ live))
      (λ ne. none u (sym (upd_other s.status t u Free ne) ∙ live))
    where
      free_live : Free ≡ Live → ⊥
      free_live e = cc

  pub nodeless_keeps : (layout : Layout) → Keeps m layout
  nodeless_keeps layout = record {
    enters = λ s r sound kept sound'. n.keeps layout _ (n.kept layout s kept);
    reads = λ s r p readings reader known sound kept sound'. n.keeps layout _ (n.kept layout s kept);
    leaves = λ s r sound kept sound'. n.keeps layout _ (n.kept layout s kept);
    holds = λ s r d readings op thunk reader publishes none sound kept sound'. n.keeps layout _ (n.kept layout s kept);
    load = λ s d p r x here h sound kept sound'. n.keeps layout _ (n.kept layout s kept);
    want = λ s d r w x here h equal sound kept sound'. n.keeps layout _ (n.kept layout s kept);
    fresh = λ s d r x here h newer sound kept sound'. n.keeps layout _ (n.kept layout s kept);
    take = λ s d l w x here h unheld sound kept sound'. n.keeps layout _ (n.kept layout s kept);
    make = λ s d t r x init here h prepared sound kept sound'. absurd (no_make x.thunk x.at r init h);
    stamp = λ s d x here h sound kept sound'. n.keeps layout _ (n.kept layout s kept);
    store = λ s d j p r x v here h earlier load found sound kept sound'. n.keeps layout _ (n.kept layout s kept);
    retire = λ s d t y x here h past recent links sound kept sound'. absurd (no_retire x.thunk x.at t h);
    answer = λ s d n' x here h sound kept sound'. n.keeps layout _ (n.kept layout s kept);
    done = λ s d x here ended sound kept sound'. n.keeps layout _ (n.kept layout s kept);
    lock = λ s p w lock sound kept sound'. n.keeps layout _ (n.kept layout s kept);
    hand = λ s t i w free low sound kept sound'. n.keeps layout _ (n.kept layout s kept);
    collect = λ s t y retired past sound kept sound'. n.keeps layout _ (collected s t (n.kept layout s kept));
    advance = λ s sound kept sound'. n.keeps layout _ (n.kept layout s kept);
  }

  pub nodeless_gives : (layout : Layout) → HoldsItsLock m layout → GivesLaw m layout
  nodeless_gives layout own s sound kept = record {
    guarded = λ d j p r x here le h. inl ((own.loads x.op x.readings x.thunk s.cells j p r (sound.fits d x here) h).1);
    walked = λ r readings op here allowed. n.walked layout op readings;
    reach = λ readings t reader h. absurd (true≢false (sym h ∙ n.reaches readings t));
    steady_store = λ d j p q r x v here store load. n.links _ q ∙ sym (n.links s.cells q);
    steady_lock = λ p q w lock. n.links _ q ∙ sym (n.links s.cells q);
    steady_hand = λ t i q w free low other. n.links _ q ∙ sym (n.links s.cells q);
    steady_guard_store = λ d j p q r x v here store load. n.guards _ s.cells q;
    steady_guard_lock = λ p q w lock. n.guards _ s.cells q;
    steady_guard_hand = λ t i q w free low other. n.guards _ s.cells q;
    live = λ p t used links. absurd (no_link s p links.0);
    limbo = λ q y t i retired recent low links. absurd (no_link s _ links.0);
    retire_live = λ d j t x here settled le h. absurd (no_retire x.thunk j t h);
    retire_unfixed = λ d j t x here settled le h. absurd (no_retire x.thunk j t h);
    retire_once = λ d e i j t x y here there settled settled' le le' h h'. absurd (no_retire x.thunk i t h);
    retire_unlinked = λ d t p x here h used links. no_retire x.thunk x.at t h;
    store_used = λ d i j p r x v here settled le store load. inl ((own.loads x.op x.readings x.thunk s.cells j p r (sound.fits d x here) load).0);
    one_key = λ map d e x y here there ne settled settled' unstored unstored'. λ key a b.
        sound.apart d e x y here there ne x.thunk.lock (inl refl) (inl (own.keyed x.op y.op x.readings y.readings x.thunk y.thunk key (sound.fits d x here) (sound.fits e y there) a b));
  }

  pub nodeless_shaped : (layout : Layout) (readings : Readings) (thunk : Thunk) → IsPlainBody m thunk → Shaped m layout readings thunk
  nodeless_shaped layout readings thunk b = record {
    shape = b.shape;
    brief = brief_cost (m.body thunk) b.shape b.few_steps;
    outer_lock = b.lock;
    outer_known = inl b.lock_fixed;
    take_lock = λ j l w h. absurd (no_take thunk j l w h);
    take_known = λ j l w h. absurd (no_take thunk j l w h);
    take_inner = λ j l w h. absurd (no_take thunk j l w h);
    take_once = λ i j l v w h h'. absurd (no_take thunk i l v h);
    take_read = λ j l w h. absurd (no_take thunk j l w h);
    take_free = λ j l w h. absurd (no_take thunk j l w h);
    take_unspent = λ j l w h. absurd (no_take thunk j l w h);
    load_unlocked = b.load_unlocked;
    load_known = λ j p r h. inl (b.load_fixed j p r h);
    load_once = b.load_once;
    store_once = b.store_once;
    store_small = b.store_small;
    make_whole = λ j r init h. absurd (no_make thunk j r init h);
    make_small = λ j r i init v h at. absurd (no_make thunk j r init h);
    make_unlocked = λ j r i t init v h at lock. absurd (no_make thunk j r init h);
    answers = b.answers;
  }

  -- no thunk makes a node, and no slot is in use
  pub nodeless_adds : (thunk : Thunk) (op : Op) (i r reply : ℕ) (init : Init) → HasStep m thunk i (Make init r) → Adds op reply
  nodeless_adds thunk op i r reply init h = absurd (no_make thunk i r init h)

  pub nodeless_sized : (layout : Layout) (s : Scene) (pairs : Pairs) (slots : List ℕ) → m.kept layout s → AreInUse m s slots → length slots ≤ 0 * len pairs
  nodeless_sized layout s pairs [] kept used = omega arith
  nodeless_sized layout s pairs (t ∷ slots) kept used = absurd (n.kept layout s kept t (used.live 0 t refl))
