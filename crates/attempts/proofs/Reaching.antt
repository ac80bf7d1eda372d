-- The states that the machine reaches as a runner enters, leaves, collects and sweeps.
use Rattle.std.specs.Prelude.{Bool, true, false}
use Rattle.std.proofs.Common.{◌≡◌, ℕ, ◌+◌, List, [], ◌∷◌, length, sym, subst, arith}
use Rattle.machine_states.specs.structure_laws.specs.Meaning.{Meaning}
use Rattle.version_words.specs.RunnerState.{RunnerState}
use Rattle.caller_facts.specs.epoch_slots.specs.Collects.{Scans, Looks, AreTested, Advances, Collects}
use Rattle.caller_facts.specs.epoch_slots.specs.Entries.{Enters, Exits}
use Rattle.caller_facts.specs.epoch_slots.specs.Sweeps.{Sweeps, HasSwept}
use Rattle.caller_facts.specs.try_lock.specs.Reached.{IsReached}
use Rattle.caller_facts.proofs.Standing.{made_reached}

module _ {T : Type 0} (m : Meaning) where
  pub enters_reached : (old new : RunnerState T) → Enters m old new → IsReached m new
  enters_reached old new enters = made_reached m _ enters.epoch enters.waiting new enters.again

  pub exits_reached : (old new : RunnerState T) → Exits m old new → IsReached m new
  exits_reached old new exits = made_reached m _ exits.announce.found old new exits.announce.event

  scans_reached : (next : ℕ) (found : List ℕ) (r r' : RunnerState T) → IsReached m r → Scans m next found r r' → IsReached m r'
  scans_reached next [] r r' here same = subst (IsReached m) (sym same) here
  scans_reached next (f ∷ found) r r' here scans = scans_reached (next + 1) found scans.0 r' (made_reached m _ f r scans.0 scans.1) scans.2

  looks_reached : (slot cell : ℕ) (words : List ℕ) (r r' : RunnerState T) → IsReached m r → Looks m slot cell words r r' → IsReached m r'
  looks_reached slot cell [] r r' here same = subst (IsReached m) (sym same) here
  looks_reached slot cell (w ∷ words) r r' here looks = looks_reached slot (cell + 1) words looks.0 r' (made_reached m _ w r looks.0 looks.1) looks.2

  tested_reached : (slots : List ℕ) (wears : List Bool) (r r' : RunnerState T) → IsReached m r → AreTested m slots wears r r' → IsReached m r'
  tested_reached [] wears r r' here tested = subst (IsReached m) (sym tested.1) here
  tested_reached (slot ∷ slots) [] r r' here tested = absurd tested
  tested_reached (slot ∷ slots) (worn ∷ wears) r r' here tested =
      tested_reached slots wears tested.0 r' (looks_reached slot 0 tested.1.words r tested.0 here tested.1.looks) tested.2

  advances_reached : (epoch reached : ℕ) (may : Bool) (r r' : RunnerState T) → IsReached m r → Advances m epoch may reached r r' → IsReached m r'
  advances_reached epoch reached true r r' here advances = made_reached m _ advances.1.found r r' advances.1.event
  advances_reached epoch reached false r r' here advances = subst (IsReached m) (sym advances.0) here

  pub collects_reached : (old new : RunnerState T) → Collects m old new → IsReached m new
  collects_reached old new c =
      tested_reached _ c.wears c.over new
      (advances_reached c.epoch c.reached _ c.scanned c.over
      (scans_reached 0 c.found c.begun c.scanned (made_reached m _ c.epoch old c.begun c.load) c.scans) c.advances) c.tested

  sweeps_reached : (next : ℕ) (found : List ℕ) (r r' : RunnerState T) → IsReached m r → Sweeps m next found r r' → IsReached m r'
  sweeps_reached next [] r r' here same = subst (IsReached m) (sym same) here
  sweeps_reached next (f ∷ found) r r' here sweeps = sweeps_reached (next + 1) found sweeps.0 r' (made_reached m _ f r sweeps.0 sweeps.1) sweeps.2

  -- a sweep reads the keeper's guard word at least
  pub swept_reached : (old new : RunnerState T) → HasSwept m old new → IsReached m new
  swept_reached old new swept = by swept.found swept.each swept.sweeps
    where
      by : (found : List ℕ) → length found ≡ old.layout.runners + 1 → Sweeps m 0 found old new → IsReached m new
      by [] each sweeps = absurd (omega (arith, each))
      by (f ∷ found) each sweeps = sweeps_reached 1 found sweeps.0 new (made_reached m _ f old sweeps.0 sweeps.1) sweeps.2
