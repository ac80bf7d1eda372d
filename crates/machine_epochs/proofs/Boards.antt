-- No event but a give and a take moves a slot onto the board or off it.
use Rattle.std.specs.Prelude.{◌==◌, ◌&&◌, cond, not, nat_lt, Bool, true, false}
use Rattle.std.proofs.Common.{◌≡◌, ◌≢◌, ℕ, ◌+◌, List, [], ◌∷◌, refl, sym, ap, ◌∙◌, ⊎_elim, Some, None, Option, arith}
use Rattle.std.proofs.lemmas.Bool.{cases_eq}
use Rattle.std.proofs.lemmas.Bool.Decides.{nat_tests}
use Rattle.machine_states.specs.table_words.specs.declared.spot.Spot.TheVariants.{Board}
use Rattle.machine_states.specs.epoch_core.specs.declared.location.Location.{Location}
use Rattle.machine_states.specs.epoch_core.specs.declared.location.Location.TheVariants.{Fixed, Live, Hand, Free, Worn, Limbo, OnBoard}
use Rattle.machine_states.specs.epoch_core.specs.Update.{upd}
use Rattle.machine_states.specs.epoch_core.specs.Moves.{is_old, tested, collected, swept, made}
use Rattle.machine_states.specs.epoch_core.specs.State.{Counts, EpochState}
use Rattle.machine_states.specs.epoch_core.specs.Events as events
use Rattle.machine_states.specs.epoch_core.specs.Events.{Enabled, after, slot_of, is_among}
use Rattle.machine_states.specs.epoch_core.specs.Sound.{IsSound}
use Rattle.machine_states.specs.epoch_core.specs.Schedules.{AllEnabled, after_all}
use Rattle.machine_states.specs.epoch_core.proofs.Keeping.{keeps}
use Rattle.machine_states.specs.Sight.{Sight}
use Rattle.machine_states.proofs.Steps.{some_same}
use Rattle.machine_epochs.specs.Slots.{ShowsBoard}

-- the word of the board on which a slot is, if it is on one
abbrev pub board_of : Location → Option ℕ
board_of (OnBoard i) = Some i
board_of Fixed = None
board_of Live = None
board_of (Hand r) = None
board_of (Free r) = None
board_of (Worn r) = None
board_of (Limbo r y) = None

pub on_board : (p : Location) (i : ℕ) → board_of p ≡ Some i → p ≡ OnBoard i
on_board (OnBoard j) i e = ap OnBoard (some_same j i e)
on_board Fixed i e = absurd (let x = e in cc)
on_board Live i e = absurd (let x = e in cc)
on_board (Hand r) i e = absurd (let x = e in cc)
on_board (Free r) i e = absurd (let x = e in cc)
on_board (Worn r) i e = absurd (let x = e in cc)
on_board (Limbo r y) i e = absurd (let x = e in cc)

-- whether an event is a give or a take
abbrev pub is_of_board : events.Event → Bool
is_of_board (events.GiveBoard r s i) = true
is_of_board (events.TakeBoard r s i) = true
is_of_board _ = false

-- none of these events is
abbrev pub is_off_board : List events.Event → Bool
is_off_board [] = true
is_off_board (e ∷ es) = not (is_of_board e) && is_off_board es

no_of_both : (a b : Bool) → (not a && b) ≡ true → (a ≡ false) × (b ≡ true)
no_of_both true b e = absurd (let x = e in cc)
no_of_both false b e = (refl, e)

-- a slot that isn't on the board goes to a place off it
put_off : (f : ℕ → Location) (s t : ℕ) (p : Location) → board_of p ≡ None → board_of (f s) ≡ None → board_of (upd f s p t) ≡ board_of (f t)
put_off f s t p new was = ⊎_elim
    (λ e. ap board_of (here f s t p e) ∙ (new ∙ (sym was ∙ ap (λ n. board_of (f n)) (sym e))))
    (λ ne. ap board_of (else f s t p ne)) (cases_eq t s)
  where
    here : (f : ℕ → Location) (s t : ℕ) (p : Location) → t ≡ s → upd f s p t ≡ p
    here f s t p e = grind (arith, nat_tests)

    else : (f : ℕ → Location) (s t : ℕ) (p : Location) → t ≢ s → upd f s p t ≡ f t
    else f s t p ne = grind (arith, nat_tests)

put_again : (f : ℕ → Location) (s t : ℕ) → upd f s (f s) t ≡ f t
put_again f s t = grind (arith, nat_tests)

tested_off : (worn : Bool) (r : ℕ) → board_of (tested worn r) ≡ None
tested_off true r = refl
tested_off false r = refl

made_off : (b : Bool) (r : ℕ) (worn : Bool) → board_of (cond b Live (tested worn r)) ≡ None
made_off true r worn = refl
made_off false r worn = tested_off worn r

moved_off : (b : Bool) (p q : Location) → board_of p ≡ board_of q → board_of (cond b p q) ≡ board_of q
moved_off true p q e = e
moved_off false p q e = refl

collected_same : (node : Bool) (r epoch : ℕ) (p : Location) → board_of (collected node r epoch p) ≡ board_of p
collected_same node r epoch (Limbo r' y) = moved_off (node && (r' == r && is_old y epoch)) (Hand r) (Limbo r' y) refl
collected_same node r epoch Fixed = refl
collected_same node r epoch Live = refl
collected_same node r epoch (Hand r') = refl
collected_same node r epoch (Free r') = refl
collected_same node r epoch (Worn r') = refl
collected_same node r epoch (OnBoard i) = refl

swept_same : (frees : Bool) (r : ℕ) (p : Location) → board_of (swept frees r p) ≡ board_of p
swept_same frees r (Limbo r' y) = moved_off (r' == r && frees) (Free r) (Limbo r' y) refl
swept_same frees r Fixed = refl
swept_same frees r Live = refl
swept_same frees r (Hand r') = refl
swept_same frees r (Free r') = refl
swept_same frees r (Worn r') = refl
swept_same frees r (OnBoard i) = refl

module _ (c : Counts) where
  -- a Retire's slot was live, where its commit wins
  retire_same : (w : EpochState) (r t : ℕ) → (w.retire r).loaded ≡ true → IsSound c w → (b : Bool) → (w.log ((w.retire r).descriptor) ((w.retire r).index) == 0) ≡ b
      → board_of (upd w.location ((w.retire r).slot) (cond b (Limbo r ((w.retire r).epoch)) (w.location ((w.retire r).slot))) t) ≡ board_of (w.location t)
  retire_same w r t loaded sound true e =
      put_off w.location ((w.retire r).slot) t (Limbo r ((w.retire r).epoch)) refl (ap board_of (sound.retire_live r (loaded, empty _ e)))
    where
      empty : (n : ℕ) → (n == 0) ≡ true → n ≡ 0
      empty n e = grind (arith, nat_tests)
  retire_same w r t loaded sound false e = ap board_of (put_again w.location ((w.retire r).slot) t)

  pub board_stays : (w : EpochState) (e : events.Event) → is_of_board e ≡ false → Enabled c w e → IsSound c w → (t : ℕ) → board_of ((after c w e).location t) ≡ board_of (w.location t)
  board_stays w (events.GiveBoard r s i) off ok sound t = absurd (let x = off in cc)
  board_stays w (events.TakeBoard r s i) off ok sound t = absurd (let x = off in cc)
  board_stays w (events.ScanLast r epoch next clear) off ok sound t = collected_same (nat_lt t c.nodes) r epoch (w.location t)
  board_stays w (events.Advance r epoch next) off ok sound t = collected_same (nat_lt t c.nodes) r (epoch + 1) (w.location t)
  board_stays w (events.Test r s worn) off ok sound t = put_off w.location s t (tested worn r) (tested_off worn r) (ap board_of ok)
  board_stays w (events.TakeSlot r s) off ok sound t = put_off w.location s t (Hand r) refl (ap board_of ok.0)
  board_stays w (events.MakeCommit r d k s worn) off ok sound t = put_off w.location s t (made (w.log d k) r worn) (made_off (w.log d k == 0) r worn) (ap board_of ok.2)
  board_stays w (events.RetireCommit r) off ok sound t = retire_same w r t ok sound (w.log ((w.retire r).descriptor) ((w.retire r).index) == 0) refl
  board_stays w (events.Publish r d roles) off ok sound t = put_off w.location (slot_of c d) t Live refl (ap board_of ok.1)
  board_stays w (events.RetireDescriptor r d) off ok sound t = put_off w.location (slot_of c d) t (Limbo r w.epoch) refl (ap board_of ok.1)
  board_stays w (events.Sweep r descriptors) off ok sound t = swept_same (is_among c descriptors t) r (w.location t)
  board_stays w _ off ok sound t = refl

  pub boards_stay : (w : EpochState) (es : List events.Event) → is_off_board es ≡ true → AllEnabled c w es → IsSound c w → (t : ℕ) → board_of ((after_all c w es).location t) ≡ board_of (w.location t)
  boards_stay w [] off ok sound t = refl
  boards_stay w (e ∷ es) off ok sound t = let k = no_of_both (is_of_board e) (is_off_board es) off in
      boards_stay (after c w e) es k.1 ok.1 (keeps c w e ok.0 sound) t ∙ board_stays w e k.0 ok.0 sound t

  -- so the words of the board stay true where they are the same
  pub board_shown : (w : EpochState) (s s' : Sight) (es : List events.Event) → is_off_board es ≡ true → AllEnabled c w es → IsSound c w → ((i : ℕ) → s'.word (Board i) ≡ s.word (Board i)) → ShowsBoard w s → ShowsBoard (after_all c w es) s'
  board_shown w s s' es off ok sound same old = record {
    word = λ t i at. same i ∙ old.word t i (on_board (w.location t) i (sym (boards_stay w es off ok sound t) ∙ ap board_of at));
    slot = λ i t named. on_board ((after_all c w es).location t) i (boards_stay w es off ok sound t ∙ ap board_of (old.slot i t (sym (same i) ∙ named)));
  }
